-- MakeClosure: all captures are taken at once, and nothing that they take is accessed.
use Rattle.std.specs.Prelude.{ℕ, zero, suc, Bool, true, false, List, [], ◌∷◌, ◌++◌, length, map}
use Rattle.em_core.specs.declared.function.Capture.{Capture}
use Rattle.em_core.specs.declared.function.FieldStep.{FieldStep}
use Rattle.em_core.specs.declared.function.Variable.{Variable}
use Rattle.em_core.specs.declared.mention.By.{By}
use Rattle.em_core.specs.declared.mention.By.TheVariants as by
use Rattle.em_core.specs.declared.program.Core.{Core}
use Rattle.em_core.specs.Values.{Try, Done, Panics, Invalid, Stuck, and_then, Step, Fld, Address, Borrowed, Value, Closure, Root, Partial, Moved, Hole, Values, no_more, more, copies_of, get}
use Rattle.em_core.specs.Facts.{fields_of, variables_of}
use Rattle.em_core.specs.States.{State, all_frames, with_frames, slot_value, write}
use Rattle.em_core.specs.Places.{part_of}

-- a captured part's path
abbrev pub field_path : List FieldStep → List Step
field_path fs = map (λ f. Fld f.def 0 f.field) fs

abbrev pub with_nth : Values → ℕ → (Value → Value) → Values
with_nth no_more i f = no_more
with_nth (more v vs) zero f = more (f v) vs
with_nth (more v vs) (suc i) f = more v (with_nth vs i f)

-- what a root holds of a struct with so many fields, before and while its parts are put in
abbrev pub opened : ℕ → ℕ → Value → Values
opened d n (Partial e k vs) = vs
opened d n _ = copies_of n Hole

-- what a closure holds by value, with one captured part more
abbrev pub planted : Core → Value → List Step → Value → Value
planted core v [] x = x
planted core v (Fld d k i ∷ p) x = Partial d k (with_nth (opened d (length (fields_of core d k)) v) i (λ c. planted core c p x))
planted core v (_ ∷ p) x = v

-- by value: a Copy part stays, another leaves Moved. A part of what is Moved is Moved
abbrev pub taken_out : State → Address → Bool → Try Value → Try (Value × State)
taken_out st a true (Done v) = Done (v, st)
taken_out st a false (Done v) = and_then (write (all_frames st) a Moved) (λ fs. Done (v, with_frames st fs))
taken_out st a copy Invalid = Done (Moved, st)
taken_out st a copy Stuck = Stuck
taken_out st a copy (Panics e) = Stuck

abbrev pub captured_value : State → Address → Bool → Try (Value × State)
captured_value st a copy = and_then (slot_value (all_frames st) a.frame a.slot) (λ v. taken_out st a copy (get v a.path))

-- by reference: the address. The slot has to be open
abbrev pub captured_address : State → Address → Try Address
captured_address st a = and_then (slot_value (all_frames st) a.frame a.slot) (λ v. Done a)

module _ (core : Core) where
  -- one capture more: what is held by value, what by reference, and the state
  abbrev pub capture_at : State → By → Bool → List Step → Value → List Borrowed → Address → Try (Value × List Borrowed × State)
  capture_at st by.Value copy p v bs a = and_then (captured_value st a copy) (λ r. Done (planted core v p r.0, bs, r.1))
  capture_at st _ copy p v bs a = and_then (captured_address st a) (λ b. Done (v, bs ++ record { part = p; at = b } ∷ [], st))

  abbrev pub capture_parts : State → Variable → List Capture → Value → List Borrowed → Try (Value × State)
  capture_parts st x [] v bs = Done (Root v bs, st)
  capture_parts st x (c ∷ cs) v bs =
      and_then (part_of st x.base (field_path c.path)) (λ a. and_then (capture_at st c.by c.copy (field_path c.path) v bs a) (λ r. capture_parts r.2 x cs r.0 r.1))

  abbrev pub capture_all : State → List Variable → Try (Values × State)
  capture_all st [] = Done (no_more, st)
  capture_all st (x ∷ xs) = and_then (capture_parts st x x.captures Hole []) (λ r. and_then (capture_all r.1 xs) (λ q. Done (more r.0 q.0, q.1)))

  abbrev pub made_closure : State → ℕ → Try (Value × State)
  made_closure st id = and_then (capture_all st (variables_of core id)) (λ r. Done (Closure id r.0, r.1))
