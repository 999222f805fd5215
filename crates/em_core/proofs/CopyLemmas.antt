-- Which types are Copy, read from a type's form.
use Rattle.std.proofs.Common.{◌≡◌, ◌↔◌, ℕ, Bool, true, false, List, Some, refl, sym, subst}
use Rattle.std.specs.Prelude.{slice_get}
use Rattle.em_base.specs.declared.int_kind.IntKind.{IntKind}
use Rattle.em_core.specs.declared.ty.ClosureKind.{ClosureKind}
use Rattle.em_core.specs.declared.ty.Ty.{Ty, out-Ty}
use Rattle.em_core.specs.declared.ty.Ty as ty
use Rattle.em_core.specs.declared.ty.Ty.TheViews as view
use Rattle.em_core.specs.declared.ty.Ty.TheOpen.{Ty-F}
use Rattle.em_core.specs.declared.definition.TypeDef.{TypeDef}
use Rattle.em_core.specs.declared.program.Core.{Core}
use Rattle.em_core.specs.Types
use Rattle.em_core.specs.Types.{IsCopy}

module _ (core : Core) where
  CopyForm : Ty-F Ty → Type 0
  CopyForm (Ty-F.Int k) = Unit {0}
  CopyForm Ty-F.Bool = Unit {0}
  CopyForm Ty-F.Char = Unit {0}
  CopyForm Ty-F.Unit = Unit {0}
  CopyForm (Ty-F.Ref u unique) = unique ≡ false
  CopyForm (Ty-F.Array u n) = IsCopy core u
  CopyForm (Ty-F.Def d) = (x : TypeDef) × (slice_get core.types d ≡ Some x) × (x.copy ≡ true)
  CopyForm (Ty-F.Closure id c d h) = c ≡ true
  CopyForm _ = ⊥

  form_of : (t : Ty) → IsCopy core t → CopyForm (out-Ty t)
  unfolding CopyForm
  form_of t (Types.IsCopy.int q) = subst CopyForm (sym q) tt
  form_of t (Types.IsCopy.truth q) = subst CopyForm (sym q) tt
  form_of t (Types.IsCopy.character q) = subst CopyForm (sym q) tt
  form_of t (Types.IsCopy.unit q) = subst CopyForm (sym q) tt
  form_of t (Types.IsCopy.shared q) = subst CopyForm (sym q) refl
  form_of t (Types.IsCopy.array q h) = subst CopyForm (sym q) h
  form_of t (Types.IsCopy.derived {x = x} q h c) = subst CopyForm (sym q) (x, h, c)
  form_of t (Types.IsCopy.closure q) = subst CopyForm (sym q) refl

  by_form : (t : Ty) (x : Ty-F Ty) → out-Ty t ≡ x → IsCopy core t → CopyForm x
  by_form t x q h = subst CopyForm q (form_of t h)

  pub copy_int : (k : IntKind) → IsCopy core (ty.Int k)
  copy_int k = Types.IsCopy.int (view.outs-Int k)

  pub copy_bool : IsCopy core ty.Bool
  copy_bool = Types.IsCopy.truth view.outs-Bool

  pub copy_char : IsCopy core ty.Char
  copy_char = Types.IsCopy.character view.outs-Char

  pub copy_unit : IsCopy core ty.Unit
  copy_unit = Types.IsCopy.unit view.outs-Unit

  pub copy_ref : (u : Ty) (unique : Bool) → IsCopy core (ty.Ref u unique) ↔ (unique ≡ false)
  unfolding CopyForm
  copy_ref u unique = (λ h. by_form (ty.Ref u unique) (Ty-F.Ref u unique) (view.outs-Ref u unique) h, λ q. subst (λ b. IsCopy core (ty.Ref u b)) (sym q) (Types.IsCopy.shared (view.outs-Ref u false)))

  pub copy_array : (u : Ty) (n : ℕ) → IsCopy core (ty.Array u n) ↔ IsCopy core u
  unfolding CopyForm
  copy_array u n = (λ h. by_form (ty.Array u n) (Ty-F.Array u n) (view.outs-Array u n) h, λ h. Types.IsCopy.array (view.outs-Array u n) h)

  pub copy_def : (d : ℕ) → IsCopy core (ty.Def d) ↔ ((x : TypeDef) × (slice_get core.types d ≡ Some x) × (x.copy ≡ true))
  unfolding CopyForm
  copy_def d = (λ h. by_form (ty.Def d) (Ty-F.Def d) (view.outs-Def d) h, λ h. Types.IsCopy.derived (view.outs-Def d) h.1 h.2)

  pub copy_closure : (id : ℕ) (c d h : Bool) → IsCopy core (ty.Closure id c d h) ↔ (c ≡ true)
  unfolding CopyForm
  copy_closure id c d h = (λ k. by_form (ty.Closure id c d h) (Ty-F.Closure id c d h) (view.outs-Closure id c d h) k, λ q. subst (λ b. IsCopy core (ty.Closure id b d h)) (sym q) (Types.IsCopy.closure (view.outs-Closure id true d h)))

  pub not_str : IsCopy core ty.Str → ⊥
  unfolding CopyForm
  not_str h = by_form ty.Str Ty-F.Str view.outs-Str h

  pub not_never : IsCopy core ty.Never → ⊥
  unfolding CopyForm
  not_never h = by_form ty.Never Ty-F.Never view.outs-Never h

  pub not_slice : (u : Ty) → IsCopy core (ty.Slice u) → ⊥
  unfolding CopyForm
  not_slice u h = by_form (ty.Slice u) (Ty-F.Slice u) (view.outs-Slice u) h

  pub not_boxed : (u : Ty) → IsCopy core (ty.Boxed u) → ⊥
  unfolding CopyForm
  not_boxed u h = by_form (ty.Boxed u) (Ty-F.Boxed u) (view.outs-Boxed u) h

  pub not_dyn : (n : ℕ) → IsCopy core (ty.Dyn n) → ⊥
  unfolding CopyForm
  not_dyn n h = by_form (ty.Dyn n) (Ty-F.Dyn n) (view.outs-Dyn n) h

  pub not_dyn_fn : (k : ClosureKind) (ts : List Ty) (u : Ty) → IsCopy core (ty.DynFn k ts u) → ⊥
  unfolding CopyForm
  not_dyn_fn k ts u h = by_form (ty.DynFn k ts u) (Ty-F.DynFn k ts u) (view.outs-DynFn k ts u) h

  pub not_array_iter : (u : Ty) → IsCopy core (ty.ArrayIter u) → ⊥
  unfolding CopyForm
  not_array_iter u h = by_form (ty.ArrayIter u) (Ty-F.ArrayIter u) (view.outs-ArrayIter u) h

  pub not_ref_iter : (u : Ty) → IsCopy core (ty.RefIter u) → ⊥
  unfolding CopyForm
  not_ref_iter u h = by_form (ty.RefIter u) (Ty-F.RefIter u) (view.outs-RefIter u) h

  pub not_range : (k : IntKind) → IsCopy core (ty.Range k) → ⊥
  unfolding CopyForm
  not_range k h = by_form (ty.Range k) (Ty-F.Range k) (view.outs-Range k) h
