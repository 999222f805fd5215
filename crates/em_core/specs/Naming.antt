-- What places, captures, calls, coercions and patterns name in a Core, and the types of these (Reference, "Place expressions and value expressions", "Closure types", "Type coercions", "Patterns").
use Rattle.std.specs.Prelude.{◌≡◌, ◌↔◌, ◌⊎◌, ℕ, Bool, true, false, not, ◌&&◌, ◌||◌, ◌==◌, if◌then◌else◌, List, [], ◌∷◌, Option, Some, None, IsTrue, IsSome, IsSomeAnd, All, AllPairs, Any, slice_get, option_map, option_and_then}
use Rattle.em_core.specs.declared.ty.Ty.{Ty, out-Ty}
use Rattle.em_core.specs.declared.ty.Ty.TheOpen.{Ty-F}
use Rattle.em_base.specs.declared.int_kind.IntKind.{IntKind}
use Rattle.em_base.specs.declared.int_kind.IntKind.TheVariants.{Usize}
use Rattle.em_core.specs.declared.ty.ClosureKind.{ClosureKind}
use Rattle.em_core.specs.declared.definition.Variant.{Variant}
use Rattle.em_core.specs.declared.expr.Arm.{Arm, out-Arm}
use Rattle.em_core.specs.declared.operator.Constant.{Constant}
use Rattle.em_core.specs.declared.operator.Constant.TheVariants as constant
use Rattle.em_core.specs.declared.pattern.Binding.{Binding}
use Rattle.em_core.specs.declared.pattern.Binding.TheVariants as binding
use Rattle.em_core.specs.declared.pattern.Pattern.{Pattern}
use Rattle.em_core.specs.declared.pattern.PatternPart.{PatternPart}
use Rattle.em_core.specs.declared.pattern.Test.{Test}
use Rattle.em_core.specs.declared.pattern.Test.TheVariants as test
use Rattle.em_core.specs.declared.pattern.VariantField.{VariantField}
use Rattle.em_core.specs.declared.place.Base.{Base}
use Rattle.em_core.specs.declared.place.Base.TheVariants as base
use Rattle.em_core.specs.declared.place.PlaceStep.{PlaceStep}
use Rattle.em_core.specs.declared.place.PlaceStep.TheVariants as along
use Rattle.em_core.specs.declared.place.PlaceExpr.{PlaceExpr}
use Rattle.em_core.specs.declared.function.Capture.{Capture}
use Rattle.em_core.specs.declared.function.FieldStep.{FieldStep}
use Rattle.em_core.specs.declared.function.Variable.{Variable}
use Rattle.em_core.specs.declared.methods.Impl.{Impl}
use Rattle.em_core.specs.declared.methods.Method.{Method}
use Rattle.em_core.specs.declared.methods.Owner.{Owner}
use Rattle.em_core.specs.declared.methods.Owner.TheVariants as owner
use Rattle.em_core.specs.declared.methods.Receiver.{Receiver}
use Rattle.em_core.specs.declared.methods.Receiver.TheVariants as receiver
use Rattle.em_core.specs.declared.program.Core.{Core}
use Rattle.em_core.specs.Values.{same_kind}
use Rattle.em_core.specs.Arithmetic.{holds}
use Rattle.em_core.specs.Facts.{closure_of}
use Rattle.em_core.specs.Fitting.{AllFit, element_type, is_at_least, is_str}
use Rattle.em_core.specs.Types.{IsCopy}

-- ---- forms

-- what a reference or a box leads to
abbrev pub target_type : Ty-F Ty → Option Ty
target_type (Ty-F.Ref t unique) = Some t
target_type (Ty-F.Boxed t) = Some t
target_type _ = None

-- a closure in a box is called as the closure
abbrev pub unboxed : Ty → Ty-F Ty → Ty
unboxed t (Ty-F.Boxed u) = u
unboxed t _ = t

abbrev pub is_usize_kind : IntKind → Bool
is_usize_kind k = same_kind k Usize

abbrev pub is_usize : Ty-F Ty → Bool
is_usize (Ty-F.Int k) = is_usize_kind k
is_usize _ = false

abbrev pub is_ordered : Ty-F Ty → Bool
is_ordered (Ty-F.Int k) = true
is_ordered Ty-F.Char = true
is_ordered _ = false

abbrev pub is_def : ℕ → Ty-F Ty → Bool
is_def d (Ty-F.Def e) = d == e
is_def d _ = false

-- ---- captured parts: one begins with another's fields

abbrev pub same_field : FieldStep → FieldStep → Bool
same_field f g = (f.def == g.def) && (f.field == g.field)

abbrev pub begins_with : List FieldStep → List FieldStep → Bool
begins_with p [] = true
begins_with [] (g ∷ q) = false
begins_with (f ∷ p) (g ∷ q) = same_field f g && begins_with p q

abbrev pub are_apart : List FieldStep → List FieldStep → Bool
are_apart p q = not (begins_with p q) && not (begins_with q p)

-- no captured part lies in another
unfoldable pub PartsApart : List Capture → Type 0
PartsApart cs = AllPairs (λ a b. IsTrue (are_apart a.path b.path)) cs

-- ---- methods of a trait's objects

abbrev pub receiver_takes : Receiver → (unique : Bool) → Bool
receiver_takes receiver.Shared unique = not unique
receiver_takes receiver.Unique unique = unique
receiver_takes _ unique = false

abbrev pub is_object_of : Owner → Ty-F Ty → Bool
is_object_of (owner.Trait n) (Ty-F.Dyn m) = n == m
is_object_of _ _ = false

-- a reference to an object of the method's trait
abbrev pub receiver_fits : Method → Ty-F Ty → Bool
receiver_fits x (Ty-F.Ref t unique) = is_object_of x.owner (out-Ty t) && receiver_takes x.receiver unique
receiver_fits x _ = false

unfoldable pub ObjectFits : Method → List Ty → Type 0
ObjectFits x [] = ⊥
ObjectFits x (t ∷ ts) = IsTrue (receiver_fits x (out-Ty t)) × IsSomeAnd x.on_object (λ s. AllFit ts s.parameters)

-- ---- literals in patterns

abbrev pub literal_fits : Constant → Ty-F Ty → Bool
literal_fits (constant.Int k z) (Ty-F.Int j) = same_kind k j && holds k z
literal_fits (constant.Bool b) Ty-F.Bool = true
literal_fits (constant.Char c) Ty-F.Char = true
literal_fits (constant.Text x) (Ty-F.Ref t unique) = is_str (out-Ty t) && not unique
literal_fits _ _ = false

-- a reference to this type
unfoldable pub IsReference : Ty-F Ty → Ty → Bool → Type 0
IsReference (Ty-F.Ref u unique) t wanted = (u ≡ t) × (unique ≡ wanted)
IsReference _ t wanted = ⊥

-- ---- coercions

abbrev pub at_most : (new old : Bool) → Bool
at_most new old = not new || old

unfoldable pub IsArrayOf : Ty-F Ty → Ty → Type 0
IsArrayOf (Ty-F.Array u n) t = u ≡ t
IsArrayOf _ t = ⊥

unfoldable pub BecomesSlice : Ty-F Ty → Ty-F Ty → Type 0
BecomesSlice t (Ty-F.Slice u) = IsArrayOf t u
BecomesSlice t _ = ⊥

unfoldable pub IsImplOf : ℕ → Ty → Impl → Type 0
IsImplOf n t i = (i.of ≡ n) × (i.ty ≡ t)

-- an index is a `usize` in a slot
abbrev pub is_index_type : Option Ty → Bool
is_index_type (Some t) = is_usize (out-Ty t)
is_index_type None = false

-- ---- where a place begins: a slot, or a captured variable of the closure

abbrev pub base_type : List Ty → List Variable → Base → Option Ty
base_type slots roots (base.Slot s) = slice_get slots s
base_type slots roots (base.Root k) = option_map (λ x. x.ty) (slice_get roots k)

-- the variable stands in the body that makes the closure
unfoldable pub VariableStands : List Ty → List Variable → Variable → Type 0
VariableStands slots roots x = base_type slots roots x.base ≡ Some x.ty

module _ (core : Core) where
  -- ---- places

  abbrev pub variant_at : (def variant : ℕ) → Option Variant
  variant_at d k = option_and_then (λ x. slice_get x.variants k) (slice_get core.types d)

  -- a field of a type that has it
  abbrev pub field_in : Ty-F Ty → (def variant field : ℕ) → Option Ty
  field_in (Ty-F.Def e) d k i = if e == d then option_and_then (λ v. slice_get v.fields i) (variant_at d k) else None
  field_in _ d k i = None

  -- one step down from a place of this type, in a body with these slots
  abbrev pub step_type : List Ty → Ty → PlaceStep → Option Ty
  step_type slots t (along.Field d k i) = field_in (out-Ty t) d k i
  step_type slots t along.Deref = target_type (out-Ty t)
  step_type slots t (along.Index s) = if is_index_type (slice_get slots s) then element_type (out-Ty t) else None

  abbrev pub steps_type : List Ty → Ty → List PlaceStep → Option Ty
  steps_type slots t [] = Some t
  steps_type slots t (p ∷ ps) = option_and_then (λ u. steps_type slots u ps) (step_type slots t p)

  abbrev pub place_type : List Ty → List Variable → PlaceExpr → Option Ty
  place_type slots roots p = option_and_then (λ t. steps_type slots t p.steps) (base_type slots roots p.base)

  -- ---- captures

  abbrev pub part_type : Ty → List FieldStep → Option Ty
  part_type t [] = Some t
  part_type t (f ∷ fs) = option_and_then (λ u. part_type u fs) (field_in (out-Ty t) f.def 0 f.field)

  -- the captured part has a type, and the entry says rightly whether it is Copy
  unfoldable pub CaptureFits : Ty → Capture → Type 0
  CaptureFits t c = IsSomeAnd (part_type t c.path) (λ u. (c.copy ≡ true) ↔ IsCopy core u)

  -- ---- calls: the kind, the parameters and the result of what may be called

  abbrev pub kind_of : Ty-F Ty → Option ClosureKind
  kind_of (Ty-F.Closure id copy drop_free refers) = option_map (λ e. e.kind) (closure_of core id)
  kind_of (Ty-F.DynFn k ps r) = Some k
  kind_of _ = None

  abbrev pub parameters_of : Ty-F Ty → Option (List Ty)
  parameters_of (Ty-F.Closure id copy drop_free refers) = option_map (λ e. e.parameters) (closure_of core id)
  parameters_of (Ty-F.DynFn k ps r) = Some ps
  parameters_of _ = None

  abbrev pub result_of : Ty-F Ty → Option Ty
  result_of (Ty-F.Closure id copy drop_free refers) = option_map (λ e. e.result) (closure_of core id)
  result_of (Ty-F.DynFn k ps r) = Some r
  result_of _ = None

  -- a call of this kind or a weaker one, with arguments of these types
  unfoldable pub MayCall : Ty → ClosureKind → List Ty → Type 0
  MayCall t k ts = IsSomeAnd (kind_of (out-Ty t)) (λ j. IsTrue (is_at_least j k)) × IsSomeAnd (parameters_of (out-Ty t)) (λ ps. AllFit ts ps)

  -- ---- coercions to trait objects and slices

  unfoldable pub Implements : ℕ → Ty → Type 0
  Implements n t = Any (λ i. IsImplOf n t i) core.methods.impls

  unfoldable pub IsClosureOf : Ty-F Ty → ClosureKind → List Ty → Ty → Type 0
  IsClosureOf (Ty-F.Closure id copy drop_free refers) k ps r = IsSomeAnd (closure_of core id) (λ e. IsTrue (is_at_least e.kind k) × (e.parameters ≡ ps) × (e.result ≡ r))
  IsClosureOf _ k ps r = ⊥

  unfoldable pub BecomesObject : Ty → Ty-F Ty → Type 0
  BecomesObject t (Ty-F.Dyn n) = Implements n t
  BecomesObject t (Ty-F.DynFn k ps r) = IsClosureOf (out-Ty t) k ps r
  BecomesObject t _ = ⊥

  -- a reference or a box to an object, a reference to a slice; a unique reference may become a shared one on the way
  unfoldable pub Unsizes : Ty-F Ty → Ty-F Ty → Type 0
  Unsizes (Ty-F.Ref t old) (Ty-F.Ref u new) = IsTrue (at_most new old) × (BecomesObject t (out-Ty u) ⊎ BecomesSlice (out-Ty t) (out-Ty u))
  Unsizes (Ty-F.Boxed t) (Ty-F.Boxed u) = BecomesObject t (out-Ty u)
  Unsizes _ _ = ⊥

  -- ---- patterns

  abbrev pub path_type : Ty → List VariantField → Option Ty
  path_type t [] = Some t
  path_type t (f ∷ fs) = option_and_then (λ u. path_type u fs) (field_in (out-Ty t) f.def f.variant f.field)

  -- a binding of a part of the first type to a slot of the second
  unfoldable pub BindingFits : Binding → Ty → Ty → Type 0
  BindingFits binding.Copy t u = (t ≡ u) × IsCopy core t
  BindingFits binding.Move t u = t ≡ u
  BindingFits binding.Shared t u = IsReference (out-Ty u) t false
  BindingFits binding.Unique t u = IsReference (out-Ty u) t true

  unfoldable pub TestFits : List Ty → Ty → Test → Type 0
  TestFits slots t (test.Variant d k) = IsTrue (is_def d (out-Ty t)) × IsSome (variant_at d k)
  TestFits slots t (test.Equal c) = IsTrue (literal_fits c (out-Ty t))
  TestFits slots t (test.Within a b) = IsTrue (is_ordered (out-Ty t)) × IsTrue (literal_fits a (out-Ty t)) × IsTrue (literal_fits b (out-Ty t))
  TestFits slots t (test.Bind s how) = IsSomeAnd (slice_get slots s) (λ u. BindingFits how t u)

  unfoldable pub PartFits : List Ty → Ty → PatternPart → Type 0
  PartFits slots t x = IsSomeAnd (path_type t x.path) (λ u. TestFits slots u x.test)

  unfoldable pub PatternFits : List Ty → Ty → Pattern → Type 0
  PatternFits slots t p = All (λ x. PartFits slots t x) p.parts

  unfoldable pub ArmFits : List Ty → Ty → Arm → Type 0
  ArmFits slots t x = All (λ p. PatternFits slots t p) (out-Arm x).patterns
