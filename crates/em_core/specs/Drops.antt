-- What a drop visits (Reference, "Destructors"): a value's own Drop first, then its parts: fields in the order of their declaration, elements from the first, what a box holds, captured variables in capture order.
use Rattle.std.specs.Prelude.{ℕ, zero, suc, if◌then◌else◌, ◌==◌, List, [], ◌∷◌, ◌++◌, Option, Some, None}
use Rattle.em_core.specs.declared.ty.Ty.{Ty, out-Ty}
use Rattle.em_core.specs.declared.program.Core.{Core}
use Rattle.em_core.specs.Values.{Step, Fld, Elem, Inside, Rt, Value, Struct, Array, Box, Closure, Root, Partial, Owned, Values, no_more, more, Try, Done, and_then, child, tag_in}
use Rattle.em_core.specs.Facts.{field_type, drop_of, variable_type, def_in, closure_in, element_in, item_in, content_in, content_type, type_below, or_never}

-- what a drop has still to visit: the parts of the value at a path, from a number on
pub record Todo : Type 0 where
  pub path : List Step
  pub from : ℕ

-- the next part with a Drop impl: its type, the Drop function, its path, and what is left to visit after its Drop
pub record Found : Type 0 where
  pub def : ℕ
  pub function : ℕ
  pub path : List Step
  pub todo : List Todo

abbrev pub or_else : Option Found → Option Found → Option Found
or_else None o = o
or_else (Some f) o = Some f

abbrev pub and_todo : Option Found → Todo → Option Found
and_todo None t = None
and_todo (Some f) t = Some (record f { todo = f.todo ++ t ∷ [] })

-- a value with a Drop impl comes before its parts
abbrev pub own_drop : Option ℕ → ℕ → List Step → Option Found → Option Found
own_drop (Some fn) d p o = Some (record { def = d; function = fn; path = p; todo = record { path = p; from = 0 } ∷ [] })
own_drop None d p o = o

-- the parts from a number on
abbrev pub skip : ℕ → Values → Values
skip zero vs = vs
skip (suc n) no_more = no_more
skip (suc n) (more v vs) = skip n vs

abbrev pub shift : {A : Type 0} → ℕ → (ℕ → A) → ℕ → A
shift zero f = f
shift (suc n) f = shift n (λ i. f (suc i))

module _ (core : Core) where
  -- a tag that fits the type of its place, and what is found then
  abbrev pub if_def : Ty → ℕ → Option Found → Option Found
  if_def t d o = elim (def_in (out-Ty t)) [ None ↦ None | Some e ↦ if d == e then o else None ]

  abbrev pub if_closure : Ty → ℕ → Option Found → Option Found
  if_closure t j o = elim (closure_in (out-Ty t)) [ None ↦ None | Some i ↦ if j == i then o else None ]

  abbrev pub if_some : Option Ty → Option Found → Option Found
  if_some None o = None
  if_some (Some t) o = o

  -- the first part, in order, that has a Drop impl and is neither Moved nor Hole, in a value of this type at this path
  abbrev mutual
    pub seek : Value → Ty → List Step → Option Found
    seek (Struct d k vs) t p = if_def t d (own_drop (drop_of core d) d p (seek_in vs (λ i. field_type core d k i) (λ i. Fld d k i) 0 p))
    seek (Partial d k vs) t p = if_def t d (seek_in vs (λ i. field_type core d k i) (λ i. Fld d k i) 0 p)
    seek (Array vs) t p = if_some (element_in (out-Ty t)) (seek_in vs (λ i. type_below core t (Elem i)) Elem 0 p)
    seek (Owned vs) t p = if_some (item_in (out-Ty t)) (seek_in vs (λ i. type_below core t (Elem i)) Elem 0 p)
    seek (Box u v) t p = if_some (content_in (out-Ty t)) (and_todo (seek v (content_type (or_never (content_in (out-Ty t))) u) (p ++ Inside (tag_in (out-Ty u)) ∷ [])) (record { path = p; from = 1 }))
    seek (Closure j vs) t p = if_closure t j (seek_in vs (λ k. variable_type core j k) (λ k. Rt j k) 0 p)
    seek (Root v bs) t p = seek v t p
    seek _ t p = None

    pub seek_in : Values → (ℕ → Ty) → (ℕ → Step) → ℕ → List Step → Option Found
    seek_in no_more ty st n p = None
    seek_in (more v vs) ty st n p =
        or_else (and_todo (seek v (ty 0) (p ++ st 0 ∷ [])) (record { path = p; from = suc n })) (seek_in vs (λ i. ty (suc i)) (λ i. st (suc i)) (suc n) p)

  abbrev pub seek_from : Values → (ℕ → Ty) → (ℕ → Step) → ℕ → List Step → Option Found
  seek_from vs ty st n p = seek_in (skip n vs) (shift n ty) (shift n st) n p

  -- the same among the parts of a value, from a number on
  abbrev pub seek_parts : Value → Ty → ℕ → List Step → Option Found
  seek_parts (Struct d k vs) t n p = if_def t d (seek_from vs (λ i. field_type core d k i) (λ i. Fld d k i) n p)
  seek_parts (Partial d k vs) t n p = if_def t d (seek_from vs (λ i. field_type core d k i) (λ i. Fld d k i) n p)
  seek_parts (Array vs) t n p = if_some (element_in (out-Ty t)) (seek_from vs (λ i. type_below core t (Elem i)) Elem n p)
  seek_parts (Owned vs) t n p = if_some (item_in (out-Ty t)) (seek_from vs (λ i. type_below core t (Elem i)) Elem n p)
  seek_parts (Closure j vs) t n p = if_closure t j (seek_from vs (λ k. variable_type core j k) (λ k. Rt j k) n p)
  seek_parts _ t n p = None

  -- the type of the place at a path of a value. What a box of a trait object holds has the type that was put into it
  abbrev pub inner_type : Ty → Value → Step → Ty
  inner_type t (Box u v) s = content_type (type_below core t s) u
  inner_type t _ s = type_below core t s

  abbrev pub typed_part : Ty → Value → List Step → Try (Ty × Value)
  typed_part t v [] = Done (t, v)
  typed_part t v (s ∷ p) = and_then (child v s) (λ w. typed_part (inner_type t v s) w p)
