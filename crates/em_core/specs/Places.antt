-- Where a place stands. Finding it takes no step.
use Rattle.std.specs.Prelude.{ℕ, pos, Bool, false, ◌&&◌, if◌then◌else◌, ◌==◌, nat_lt, List, [], ◌∷◌, ◌++◌, Option, Some, None}
use Rattle.em_core.specs.declared.place.Base.{Base}
use Rattle.em_core.specs.declared.place.Base.TheVariants as base
use Rattle.em_core.specs.declared.place.PlaceStep.{PlaceStep}
use Rattle.em_core.specs.declared.place.PlaceStep.TheVariants as along
use Rattle.em_core.specs.declared.place.PlaceExpr.{PlaceExpr}
use Rattle.em_core.specs.declared.ty.Ty.{out-Ty}
use Rattle.em_core.specs.Values.{Panicked, Try, Done, Panics, Invalid, Stuck, and_then, or_stuck, Code, Cl, Step, Fld, Elem, Inside, Rt, Address, Borrowed, Value, Number, Array, Box, Refers, Closure, Root, Moved, Hole, nth, count_of, same_tag, tag_in}
use Rattle.em_core.specs.Arithmetic.{bounds_text}
use Rattle.em_core.specs.States.{Frame, State, all_frames, look, read}

abbrev pub same_step : Step → Step → Bool
same_step (Fld d k i) (Fld e l j) = (d == e) && (k == l) && (i == j)
same_step (Elem i) (Elem j) = i == j
same_step (Inside g) (Inside h) = same_tag g h
same_step (Rt d i) (Rt e j) = (d == e) && (i == j)
same_step _ _ = false

-- what follows a front of a path
abbrev pub after_front : List Step → List Step → Option (List Step)
after_front [] q = Some q
after_front (s ∷ p) [] = None
after_front (s ∷ p) (r ∷ q) = if same_step s r then after_front p q else None

abbrev pub below_address : Address → List Step → Address
below_address a p = record a { path = a.path ++ p }

-- the first captured reference to a part that the path leads into
abbrev pub borrowed_at : List Borrowed → List Step → Option Address
borrowed_at [] p = None
borrowed_at (b ∷ bs) p = elim (after_front b.part p) [ None ↦ borrowed_at bs p | Some q ↦ Some (below_address b.at q) ]

-- the fields with which a place begins, and the steps after them
abbrev pub leading_fields : List PlaceStep → List Step
leading_fields (along.Field d k i ∷ ps) = Fld d k i ∷ leading_fields ps
leading_fields _ = []

abbrev pub after_fields : List PlaceStep → List PlaceStep
after_fields (along.Field d k i ∷ ps) = after_fields ps
after_fields ps = ps

-- what a reference leads to, or what a box holds
abbrev pub target : Address → Value → Try Address
target a (Refers b) = Done b
target a (Box t v) = Done (below_address a (Inside (tag_in (out-Ty t)) ∷ []))
target a Moved = Invalid
target a Hole = Invalid
target a _ = Stuck

-- Index: an element, or a panic where there is none
abbrev pub element : Address → Value → Value → Try Address
element a (Array vs) (Number k (pos i)) = if nat_lt i (count_of vs) then Done (below_address a (Elem i ∷ [])) else Panics (Panicked (bounds_text (count_of vs) i))
element a Moved v = Invalid
element a Hole v = Invalid
element a _ v = Stuck

-- the address of a slot of the running frame
abbrev pub slot_address : State → ℕ → Address
slot_address st s = record { frame = st.top.id; code = st.top.code; slot = s; path = [] }

abbrev pub walk : State → List PlaceStep → Address → Try Address
walk st [] a = Done a
walk st (along.Field d k i ∷ ps) a = walk st ps (below_address a (Fld d k i ∷ []))
walk st (along.Deref ∷ ps) a = and_then (look (all_frames st) a) (λ v. and_then (target a v) (walk st ps))
walk st (along.Index s ∷ ps) a =
    and_then (read (all_frames st) (slot_address st s)) (λ i. and_then (look (all_frames st) a) (λ v. and_then (element a v i) (walk st ps)))

-- the roots of the closure that stands somewhere, and what a root holds by reference
abbrev pub root_of : ℕ → ℕ → Value → Try Value
root_of id k (Closure j vs) = if id == j then or_stuck (nth vs k) else Stuck
root_of id k Moved = Invalid
root_of id k Hole = Invalid
root_of id k _ = Stuck

abbrev pub borrows_of : Value → Try (List Borrowed)
borrows_of (Root v bs) = Done bs
borrows_of _ = Stuck

-- a part of a captured variable: where the first captured reference to it leads, else in what the closure holds
abbrev pub root_part : List Frame → Address → (id k : ℕ) → List Step → Try Address
root_part fs a id k p = and_then (look fs a) (λ c. and_then (root_of id k c) (λ r. and_then (borrows_of r) (λ bs.
    elim (borrowed_at bs p) [ None ↦ Done (below_address a (Rt id k ∷ p)) | Some b ↦ Done b ])))

abbrev pub captured_part : State → Code → Option Address → ℕ → List Step → Try Address
captured_part st (Cl id) (Some a) k p = root_part (all_frames st) a id k p
captured_part st _ _ k p = Stuck

-- a part of a slot or of a captured variable
abbrev pub part_of : State → Base → List Step → Try Address
part_of st (base.Slot s) p = Done (below_address (slot_address st s) p)
part_of st (base.Root k) p = captured_part st st.top.code st.top.self k p

abbrev pub locate : State → PlaceExpr → Try Address
locate st p = and_then (part_of st p.base (leading_fields p.steps)) (walk st (after_fields p.steps))
