-- What types are: Copy, parts, drop-free, and whether a value holds a reference (Reference, "Special types and traits", "Copy", and "Destructors").
use Rattle.std.specs.Prelude.{◌≡◌, ℕ, ◌<◌, Bool, true, false, List, [], ◌∷◌, length, Some, IsSome, IsSomeAnd, IsTrue, All, Contains, slice_get, ⊤}
use Rattle.em_core.specs.declared.ty.Ty.{Ty, out-Ty}
use Rattle.em_core.specs.declared.ty.Ty.TheOpen.{Ty-F}
use Rattle.em_base.specs.declared.int_kind.IntKind.{IntKind}
use Rattle.em_core.specs.declared.definition.TypeDef.{TypeDef}
use Rattle.em_core.specs.declared.definition.Variant.{Variant}
use Rattle.em_core.specs.declared.program.Core.{Core}
use Rattle.em_core.specs.Facts.{drop_of, closure_of}
use Rattle.em_core.specs.Fitting.{is_sized}
use Rattle.em_core.specs.Nodes.{type_children}
use Rattle.em_core.specs.declared.ty.Ty as ty

abbrev pub is_ref : Ty-F Ty → Bool
is_ref (Ty-F.Ref t unique) = true
is_ref _ = false

module _ (core : Core) where
  -- integers, truth values, characters, unit, shared references, arrays of Copy, types that derive Copy, and closures that say so
  pub data IsCopy : Ty → Type 0 where
    int : {t : Ty} {k : IntKind} → out-Ty t ≡ Ty-F.Int k → IsCopy t
    truth : {t : Ty} → out-Ty t ≡ Ty-F.Bool → IsCopy t
    character : {t : Ty} → out-Ty t ≡ Ty-F.Char → IsCopy t
    unit : {t : Ty} → out-Ty t ≡ Ty-F.Unit → IsCopy t
    shared : {t u : Ty} → out-Ty t ≡ Ty-F.Ref u false → IsCopy t
    array : {t u : Ty} {n : ℕ} → out-Ty t ≡ Ty-F.Array u n → IsCopy u → IsCopy t
    derived : {t : Ty} {d : ℕ} {x : TypeDef} → out-Ty t ≡ Ty-F.Def d → slice_get core.types d ≡ Some x → x.copy ≡ true → IsCopy t
    closure : {t : Ty} {id : ℕ} {drop_free refers : Bool} → out-Ty t ≡ Ty-F.Closure id true drop_free refers → IsCopy t

  -- a type is a part of itself, and so are the parts of its fields, of its elements and of what a box holds. What a reference refers to is no part
  pub data IsPart (u : Ty) : Ty → Type 0 where
    whole : IsPart u u
    field : {t f : Ty} {d : ℕ} {x : TypeDef} {v : Variant} → out-Ty t ≡ Ty-F.Def d → slice_get core.types d ≡ Some x → Contains x.variants v → Contains v.fields f → IsPart u f → IsPart u t
    element : {t e : Ty} {n : ℕ} → out-Ty t ≡ Ty-F.Array e n → IsPart u e → IsPart u t
    of_slice : {t e : Ty} → out-Ty t ≡ Ty-F.Slice e → IsPart u e → IsPart u t
    content : {t c : Ty} → out-Ty t ≡ Ty-F.Boxed c → IsPart u c → IsPart u t
    left : {t i : Ty} → out-Ty t ≡ Ty-F.ArrayIter i → IsPart u i → IsPart u t
    reference : {t i : Ty} → out-Ty t ≡ Ty-F.RefIter i → IsPart u i → IsPart u t

  -- a type with a Drop impl, a trait object, whose value may have one, and a closure that says so
  unfoldable pub Drops : Ty-F Ty → Type 0
  Drops (Ty-F.Def d) = IsSome (drop_of core d)
  Drops (Ty-F.Dyn n) = ⊤
  Drops (Ty-F.DynFn kind ts t) = ⊤
  Drops (Ty-F.Closure id copy drop_free refers) = drop_free ≡ false
  Drops _ = ⊥

  unfoldable pub IsDropFree : Ty → Type 0
  IsDropFree t = (u : Ty) → IsPart u t → Drops (out-Ty u) → ⊥

  -- a reference, a closure trait's object, and a closure that says so
  unfoldable pub Refers : Ty-F Ty → Type 0
  Refers (Ty-F.Ref t unique) = ⊤
  Refers (Ty-F.DynFn kind ts t) = ⊤
  Refers (Ty-F.Closure id copy drop_free refers) = refers ≡ true
  Refers _ = ⊥

  unfoldable pub HoldsReference : Ty → Type 0
  HoldsReference t = (u : Ty) × (IsPart u t) × Refers (out-Ty u)

  -- ---- the types that a Core may name

  -- its number names a type or a closure, and Str, Slice, Dyn and DynFn stand only behind a reference or a box
  unfoldable pub FormOk : Ty-F Ty → Type 0
  FormOk (Ty-F.Def d) = d < length core.types
  FormOk (Ty-F.Closure id copy drop_free refers) = IsSomeAnd (closure_of core id) (λ e. e.ty ≡ ty.Closure id copy drop_free refers)
  FormOk (Ty-F.Array t n) = IsTrue (is_sized (out-Ty t))
  FormOk (Ty-F.ArrayIter t) = IsTrue (is_sized (out-Ty t))
  FormOk (Ty-F.RefIter t) = IsTrue (is_ref (out-Ty t))
  FormOk (Ty-F.Slice t) = IsTrue (is_sized (out-Ty t))
  FormOk (Ty-F.DynFn k ts t) = All (λ u. IsTrue (is_sized (out-Ty u))) ts × IsTrue (is_sized (out-Ty t))
  FormOk _ = ⊤

  mutual
    pub data TypeOk : Ty → Type 0 where
      type : {t : Ty} → FormOk (out-Ty t) → TypesOk (type_children (out-Ty t)) → TypeOk t

    pub data TypesOk : List Ty → Type 0 where
      none : TypesOk []
      more : {t : Ty} {ts : List Ty} → TypeOk t → TypesOk ts → TypesOk (t ∷ ts)

  -- the type of a value: of a slot, a field, a result
  unfoldable pub ValueTypeOk : Ty → Type 0
  ValueTypeOk t = IsTrue (is_sized (out-Ty t)) × TypeOk t
