-- A type is fine if its form is, and what it is made of.
use Rattle.std.proofs.Common.{◌≡◌, ℕ, zero, suc, ◌<◌, ◌≤◌, List, [], ◌∷◌, Some, None, refl, subst, arith}
use Rattle.std.specs.Prelude.{slice_get}
use Rattle.em_core.specs.declared.ty.Ty.{Ty, out-Ty}
use Rattle.em_core.specs.declared.program.Core.{Core}
use Rattle.em_core.specs.Nodes.{type_children}
use Rattle.em_core.specs.Types
use Rattle.em_core.specs.Types.{FormOk, TypeOk, TypesOk}

module _ (core : Core) where
  -- of all from a number on
  pub record TypesFrom (ts : List Ty) (n : ℕ) : Type 0 where
    pub each : (k : ℕ) (u : Ty) → n ≤ k → slice_get ts k ≡ Some u → TypeOk core u

  each_of : (ts : List Ty) → TypesOk core ts → (k : ℕ) (u : Ty) → slice_get ts k ≡ Some u → TypeOk core u
  each_of [] h k u q = absurd cc
  each_of (t ∷ ts) (Types.TypesOk.more h hs) zero u q = let e : t ≡ u = cc in subst (λ x. TypeOk core x) e h
  each_of (t ∷ ts) (Types.TypesOk.more h hs) (suc k) u q = each_of ts hs k u q

  of_each : (ts : List Ty) → ((k : ℕ) (u : Ty) → slice_get ts k ≡ Some u → TypeOk core u) → TypesOk core ts
  of_each [] h = Types.TypesOk.none
  of_each (t ∷ ts) h = Types.TypesOk.more (h 0 t refl) (of_each ts (λ k u q. h (suc k) u q))

  form_in : (t : Ty) → TypeOk core t → FormOk core (out-Ty t)
  form_in t (Types.TypeOk.type f hs) = f

  parts_in : (t : Ty) → TypeOk core t → TypesOk core (type_children (out-Ty t))
  parts_in t (Types.TypeOk.type f hs) = hs

  pub form_of : (t : Ty) → TypeOk core t → FormOk core (out-Ty t)
  form_of t h = form_in t h

  pub part_of : (t : Ty) → TypeOk core t → (k : ℕ) (u : Ty) → slice_get (type_children (out-Ty t)) k ≡ Some u → TypeOk core u
  part_of t h k u q = each_of (type_children (out-Ty t)) (parts_in t h) k u q

  pub type_of : (t : Ty) → FormOk core (out-Ty t) → ((k : ℕ) (u : Ty) → slice_get (type_children (out-Ty t)) k ≡ Some u → TypeOk core u) → TypeOk core t
  type_of t f h = Types.TypeOk.type f (of_each (type_children (out-Ty t)) h)

-- a number before the end of a list is less than one past it
pub before_none : {X : Type 0} (xs : List X) (n k : ℕ) (x : X) → slice_get xs n ≡ None → slice_get xs k ≡ Some x → k < n
before_none [] n k x p q = absurd cc
before_none (y ∷ ys) zero k x p q = absurd cc
before_none (y ∷ ys) (suc n) zero x p q = grind arith
before_none (y ∷ ys) (suc n) (suc k) x p q = let h : k < n = before_none ys n k x p q in grind arith
