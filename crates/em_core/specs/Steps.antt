-- A step of the machine: another state, an invalid access, or nothing where a Core is not typed.
use Rattle.std.specs.Prelude.{ℕ, suc, pos, ◌+ℤ◌, Bool, true, false, if◌then◌else◌, nat_lt, int_lt, List, [], ◌∷◌, ◌++◌, length, Option, Some, None}
use Rattle.em_core.specs.declared.expr.Expr.{Expr, out-Expr}
use Rattle.em_core.specs.declared.expr.Expr.TheOpen.{Expr-F}
use Rattle.em_core.specs.declared.expr.Arm.{Arm}
use Rattle.em_core.specs.declared.expr.Piece.{Piece}
use Rattle.em_core.specs.declared.expr.Piece.TheVariants as piece
use Rattle.em_core.specs.declared.pattern.Pattern.{Pattern}
use Rattle.em_core.specs.declared.program.Core.{Core}
use Rattle.em_core.specs.Values.{Panicked, PanickedWith, Printed, Dropped, Try, Done, Panics, Invalid, Stuck, and_then, Address, Elem, Value, Number, Truth, UnitValue, Struct, Array, Box, Refers, Owned, Borrows, Range, Moved, Hole, no_more, more, values_of, count_of, copies_of, same_kind}
use Rattle.em_core.specs.Arithmetic.{of_constant, of_unary, of_binary, of_compare, shown}
use Rattle.em_core.specs.Drops.{Todo, Found, seek, seek_parts, typed_part}
use Rattle.em_core.specs.States.{Item, Evaluate, Put, Replace, DropAt, Store, ApplyUnary, ApplyBinary, ApplyCompare, MakeStruct, MakeArray, MakeCopies, MakeBox, MakeRange, Enter, EnterDyn, EnterBy, EnterOnce, Choose, Again, GiveBack, Toss, Say, Fail, FailWith, MakeIter, MakeRefIter, DropOwn, GiveUnit, Leave, DropSlot, DropRest, DropCall, Empty, Shut, Unwound}
use Rattle.em_core.specs.States.{Frame, Mode, Ended, State, frame_at, cell_at, ty_of, with_cell, with_cells_at, look, read, write, all_frames, with_frames, go, give, with_cells, with_operands, with_event, pop, pop_all, pop_two, give_all, rows, exits, innermost, lowest, leave_items, drop_items, panicked}
use Rattle.em_core.specs.Places.{locate, below_address}
use Rattle.em_core.specs.Captures.{made_closure}
use Rattle.em_core.specs.Matching.{first_arm, bind_parts, into_slot}
use Rattle.em_core.specs.Calls.{call, call_dyn, call_by, call_once, out_of_box}

-- one after the other; a value that is not the last one goes, and drops nothing
abbrev pub in_sequence : List Expr → List Item → List Item
in_sequence [] k = GiveUnit ∷ k
in_sequence (e ∷ []) k = Evaluate e ∷ k
in_sequence (e ∷ es) k = Evaluate e ∷ Toss ∷ in_sequence es k

-- the text of a format
abbrev pub formatted : List Piece → List Value → Try (List ℕ)
formatted [] vs = Done []
formatted (piece.Text t ∷ ps) vs = and_then (formatted ps vs) (λ rest. Done (t ++ rest))
formatted (piece.Argument ∷ ps) [] = Stuck
formatted (piece.Argument ∷ ps) (v ∷ vs) = and_then (shown v) (λ t. and_then (formatted ps vs) (λ rest. Done (t ++ rest)))

-- a range up to, and without, a number
abbrev pub range : Bool → Value → Value → Try Value
range true (Number k a) (Number j b) = if same_kind k j then Done (Range k a (b +ℤ pos 1)) else Stuck
range false (Number k a) (Number j b) = if same_kind k j then Done (Range k a b) else Stuck
range closed _ _ = Stuck

-- If true, If false
abbrev pub branch : Value → Expr → Expr → Try Expr
branch (Truth true) a b = Done a
branch (Truth false) a b = Done b
branch _ a b = Stuck

-- ToIter: over the elements. A range iterates over itself
abbrev pub iterator_over : Value → Try Value
iterator_over (Array vs) = Done (Owned vs)
iterator_over (Range k a b) = Done (Range k a b)
iterator_over _ = Stuck

-- ToRefIter: over the addresses of the elements
abbrev pub elements_at : Address → Value → Try Value
elements_at a (Array vs) = Done (Borrows a 0 (count_of vs))
elements_at a Moved = Invalid
elements_at a Hole = Invalid
elements_at a _ = Stuck

abbrev pub iterator_through : State → Value → Try Value
iterator_through st (Refers a) = and_then (look (all_frames st) a) (elements_at a)
iterator_through st _ = Stuck

-- the next item of an iterator with what is then left of it
abbrev pub next_of : Value → Try (Option (Value × Value))
next_of (Owned no_more) = Done None
next_of (Owned (more v vs)) = Done (Some (v, Owned vs))
next_of (Borrows a i n) = Done (if nat_lt i n then Some (Refers (below_address a (Elem i ∷ [])), Borrows a (suc i) n) else None)
next_of (Range k a b) = Done (if int_lt a b then Some (Number k a, Range k (a +ℤ pos 1) b) else None)
next_of Moved = Invalid
next_of Hole = Invalid
next_of _ = Stuck

-- Break: leaves the scopes up to the loop's end. Continue: up to the loop's body, which begins again
abbrev pub break_out : State → List Item → Try State
break_out st k = and_then (innermost k) (λ l. Done (go (with_operands st (lowest l.height st.top.operands)) (l.left ++ GiveUnit ∷ l.after)))

abbrev pub begin_again : State → List Item → Try State
begin_again st k = and_then (innermost k) (λ l. Done (go (with_operands st (lowest l.height st.top.operands)) (l.left ++ Evaluate l.body ∷ Again l.body l.height ∷ l.after)))

-- Next some: the item goes into the slot. Next none: the loop ends
abbrev pub took_next : State → Address → ℕ → List Item → Option (Value × Value) → Try State
took_next st a s k None = break_out st k
took_next st a s k (Some r) = and_then (write (all_frames st) a r.1) (λ fs. Done (give (into_slot (with_frames st fs) s r.0) UnitValue k))

module _ (core : Core) where
  -- what is found in a slot, and what of the parts that are left to visit. The place of these has to be there
  abbrev pub found_in_slot : List Frame → (frame slot : ℕ) → Try (Option Found)
  found_in_slot fs i s = and_then (frame_at fs i) (λ f. and_then (cell_at f.cells s) (λ v. Done (seek core v (ty_of f.cells s) [])))

  abbrev pub found_at : List Frame → Address → Try (Option Found)
  found_at fs a = and_then (frame_at fs a.frame) (λ f. and_then (cell_at f.cells a.slot) (λ v. and_then (typed_part core (ty_of f.cells a.slot) v a.path) (λ r. Done (seek core r.1 r.0 a.path))))

  abbrev pub or_next : Option Found → List Todo → Try (Option Found) → Try (Option Found)
  or_next None ts r = r
  or_next (Some f) ts r = Done (Some (record f { todo = f.todo ++ ts }))

  abbrev pub found_in_rest : List Frame → (frame slot : ℕ) → List Todo → Try (Option Found)
  found_in_rest fs i s [] = Done None
  found_in_rest fs i s (t ∷ ts) =
      let r = found_in_rest fs i s ts in
      and_then (frame_at fs i) (λ f. and_then (cell_at f.cells s) (λ v. and_then (typed_part core (ty_of f.cells s) v t.path) (λ p.
      or_next (seek_parts core p.1 p.0 t.from t.path) ts r)))

  -- a part is found: its Drop is called next. None is: on without a step
  abbrev pub drop_or : Try (Option Found) → State → (frame slot : ℕ) → List Item → Try State → Try State
  drop_or (Done (Some f)) st i s k r = Done (go st (DropCall i s f ∷ k))
  drop_or (Done None) st i s k r = r
  drop_or (Panics e) st i s k r = Stuck
  drop_or Invalid st i s k r = Invalid
  drop_or Stuck st i s k r = Stuck

  -- what takes no step: finding the next part that drops, a slot that has dropped, a scope that is done
  abbrev pub settled : List Item → State → Try State
  settled [] st = Done (go st [])
  settled (DropSlot s ∷ k) st = let r = settled k st in drop_or (found_in_slot (all_frames st) st.top.id s) st st.top.id s k r
  settled (DropRest i s ts ∷ k) st = let r = settled k st in drop_or (found_in_rest (all_frames st) i s ts) st i s k r
  settled (DropAt a ∷ k) st = let r = settled k st in drop_or (found_at (all_frames st) a) st a.frame a.slot k r
  settled (Empty s ∷ k) st = settled k (with_cells st (with_cell st.top.cells s (Some Moved)))
  settled (Shut ss ∷ k) st = settled k (with_cells st (with_cells_at ss None st.top.cells))
  settled (i ∷ k) st = Done (go st (i ∷ k))

  -- Match, and No arm
  abbrev pub take_arm : State → Address → List Item → Option (Pattern × Expr) → Try State
  take_arm st a k None = Invalid
  take_arm st a k (Some r) = and_then (bind_parts st a r.0.parts) (λ q. Done (go q (Evaluate r.1 ∷ k)))

  abbrev pub eval : State → Expr-F Expr Arm → List Item → Try State
  -- Const: gives its value
  eval st (Expr-F.Const c) k = Done (give st (of_constant c) k)
  -- Copy: gives the value at the place
  eval st (Expr-F.Copy p) k = and_then (locate st p) (λ a. give_all st (read (all_frames st) a) k)
  -- Move: gives the value at the place and leaves Moved
  eval st (Expr-F.Move p) k = and_then (locate st p) (λ a. and_then (read (all_frames st) a) (λ v. and_then (write (all_frames st) a Moved) (λ fs. Done (give (with_frames st fs) v k))))
  -- Ref: gives the address of the place
  eval st (Expr-F.Ref p unique) k = and_then (locate st p) (λ a. Done (give st (Refers a) k))
  eval st (Expr-F.Init s e) k = Done (go st (Evaluate e ∷ Put s ∷ k))
  eval st (Expr-F.Assign p e) k = Done (go st (Evaluate e ∷ Replace p ∷ k))
  eval st (Expr-F.Unary op e) k = Done (go st (Evaluate e ∷ ApplyUnary op ∷ k))
  eval st (Expr-F.Binary op a b) k = Done (go st (Evaluate a ∷ Evaluate b ∷ ApplyBinary op ∷ k))
  eval st (Expr-F.Compare op a b) k = Done (go st (Evaluate a ∷ Evaluate b ∷ ApplyCompare op ∷ k))
  eval st (Expr-F.Build d v es) k = Done (go st (rows es (MakeStruct d v (length es) ∷ k)))
  eval st (Expr-F.ArrayOf t es) k = Done (go st (rows es (MakeArray (length es) ∷ k)))
  eval st (Expr-F.Repeat e n) k = Done (go st (Evaluate e ∷ MakeCopies n ∷ k))
  eval st (Expr-F.BoxNew t e) k = Done (go st (Evaluate e ∷ MakeBox t ∷ k))
  eval st (Expr-F.RangeOf closed a b) k = Done (go st (Evaluate a ∷ Evaluate b ∷ MakeRange closed ∷ k))
  -- MakeClosure: takes all captures at once
  eval st (Expr-F.MakeClosure id) k = and_then (made_closure core st id) (λ r. Done (give r.1 r.0 k))
  eval st (Expr-F.Call f es) k = Done (go st (rows es (Enter f (length es) ∷ k)))
  eval st (Expr-F.CallDyn m es) k = Done (go st (rows es (EnterDyn m (length es) ∷ k)))
  eval st (Expr-F.CallBy p es) k = Done (go st (rows es (EnterBy p (length es) ∷ k)))
  eval st (Expr-F.CallOnce e es) k = Done (go st (Evaluate e ∷ rows es (EnterOnce (length es) ∷ k)))
  eval st (Expr-F.If c a b) k = Done (go st (Evaluate c ∷ Choose a b ∷ k))
  -- Match: the first arm whose pattern matches. No arm, or a `let` that fails, is Invalid
  eval st (Expr-F.Match p arms) k = and_then (locate st p) (λ a. and_then (first_arm (all_frames st) a arms) (take_arm st a k))
  -- Loop: the body, again and again
  eval st (Expr-F.Loop e) k = Done (go st (Evaluate e ∷ Again e (length st.top.operands) ∷ k))
  -- Break, Continue
  eval st Expr-F.Break k = break_out st k
  eval st Expr-F.Continue k = begin_again st k
  eval st (Expr-F.Return e) k = Done (go st (Evaluate e ∷ GiveBack ∷ k))
  -- Enter scope: its slots are open and empty
  eval st (Expr-F.Scope ss e) k = Done (go (with_cells st (with_cells_at ss (Some Moved) st.top.cells)) (Evaluate e ∷ Leave ss ∷ k))
  -- Seq: drops nothing, goes on
  eval st (Expr-F.Seq es) k = Done (go st (in_sequence es k))
  eval st (Expr-F.Print ps es) k = Done (go st (rows es (Say ps (length es) ∷ k)))
  eval st (Expr-F.Panic ps es) k = Done (go st (rows es (Fail ps (length es) ∷ k)))
  eval st (Expr-F.PanicValue t e) k = Done (go st (Evaluate e ∷ FailWith t ∷ k))
  eval st (Expr-F.ToIter e) k = Done (go st (Evaluate e ∷ MakeIter ∷ k))
  eval st (Expr-F.ToRefIter e) k = Done (go st (Evaluate e ∷ MakeRefIter ∷ k))
  -- Next some, Next none
  eval st (Expr-F.Next p s) k = and_then (locate st p) (λ a. and_then (look (all_frames st) a) (λ v. and_then (next_of v) (took_next st a s k)))
  eval st (Expr-F.DropValue s e) k = Done (go st (Evaluate e ∷ DropOwn s ∷ k))
  -- Unsize: no change
  eval st (Expr-F.Unsize t u e) k = Done (go st (Evaluate e ∷ k))

  -- End: after the last frame the run has ended. Frame end: the result goes to the caller
  abbrev pub frame_end : State → List Frame → List Value → Try State
  frame_end st [] vs = Done (record st { mode = Ended })
  frame_end st (f ∷ fs) [] = Stuck
  frame_end st (f ∷ fs) (v ∷ vs) = Done (record st { top = record f { operands = v ∷ f.operands }; below = fs })

  -- Unwind: a frame that a panic has gone through gives its caller nothing
  abbrev pub unwind_end : State → List Frame → Try State
  unwind_end st [] = Done (record st { mode = Ended })
  unwind_end st (f ∷ fs) = Done (record st { top = f; below = fs })

  abbrev pub act : State → List Item → Try State
  act st [] = frame_end st st.below st.top.operands
  act st (Unwound ∷ k) = unwind_end st st.below
  act st (Evaluate e ∷ k) = eval st (out-Expr e) k
  -- Init: puts the value into the slot
  act st (Put s ∷ k) = pop st (λ v q. Done (give (into_slot q s v) UnitValue k))
  -- Assign: drops what stands at the place; then Store puts the value there
  act st (Replace p ∷ k) = and_then (locate st p) (λ a. Done (go st (DropAt a ∷ Store a ∷ k)))
  act st (Store a ∷ k) = pop st (λ v q. and_then (write (all_frames q) a v) (λ fs. Done (give (with_frames q fs) UnitValue k)))
  -- Unary, Binary: the result, or a panic. Compare: a truth value
  act st (ApplyUnary op ∷ k) = pop st (λ v q. give_all q (of_unary op v) k)
  act st (ApplyBinary op ∷ k) = pop_two st (λ a b q. give_all q (of_binary op a b) k)
  act st (ApplyCompare op ∷ k) = pop_two st (λ a b q. give_all q (of_compare op a b) k)
  -- Build, ArrayOf, Repeat, BoxNew, RangeOf: the value of the parts
  act st (MakeStruct d v m ∷ k) = pop_all st m (λ vs q. Done (give q (Struct d v (values_of vs)) k))
  act st (MakeArray m ∷ k) = pop_all st m (λ vs q. Done (give q (Array (values_of vs)) k))
  act st (MakeCopies n ∷ k) = pop st (λ v q. Done (give q (Array (copies_of n v)) k))
  act st (MakeBox t ∷ k) = pop st (λ v q. Done (give q (Box t v) k))
  act st (MakeRange closed ∷ k) = pop_two st (λ a b q. give_all q (range closed a b) k)
  -- Call, CallDyn, CallBy, CallOnce: a new frame
  act st (Enter f m ∷ k) = pop_all st m (λ vs q. call core (go q k) f vs)
  act st (EnterDyn n m ∷ k) = pop_all st m (λ vs q. call_dyn core (go q k) n vs)
  act st (EnterBy p m ∷ k) = pop_all st m (λ vs q. and_then (locate q p) (λ a. and_then (look (all_frames q) a) (call_by core (go q k) a vs)))
  act st (EnterOnce m ∷ k) = pop_all st m (λ vs q. pop q (λ c r. call_once core (go r k) vs (out_of_box c)))
  -- If true, If false: the branch
  act st (Choose a b ∷ k) = pop st (λ v q. and_then (branch v a b) (λ e. Done (go q (Evaluate e ∷ k))))
  -- Loop: once more
  act st (Again e h ∷ k) = Done (go (with_operands st (lowest h st.top.operands)) (Evaluate e ∷ Again e h ∷ k))
  -- Return: leaves all scopes of the frame
  act st (GiveBack ∷ k) = pop st (λ v q. Done (go (with_operands q (v ∷ [])) (exits k)))
  act st (Toss ∷ k) = pop st (λ v q. Done (go q k))
  act st (GiveUnit ∷ k) = Done (give st UnitValue k)
  -- Print: event Print with the text
  act st (Say ps m ∷ k) = pop_all st m (λ vs q. and_then (formatted ps vs) (λ t. Done (give (with_event q (Printed t)) UnitValue k)))
  -- Panic, PanicValue
  act st (Fail ps m ∷ k) = pop_all st m (λ vs q. and_then (formatted ps vs) (λ t. Panics (Panicked t)))
  act st (FailWith t ∷ k) = pop st (λ v q. Panics (PanickedWith t))
  -- ToIter, ToRefIter
  act st (MakeIter ∷ k) = pop st (λ v q. give_all q (iterator_over v) k)
  act st (MakeRefIter ∷ k) = pop st (λ v q. give_all q (iterator_through q v) k)
  -- DropValue: the value goes into a slot of its own and drops
  act st (DropOwn s ∷ k) = pop st (λ v q. Done (go (into_slot q s v) (drop_items s (Shut (s ∷ []) ∷ GiveUnit ∷ k))))
  -- Leave scope: the slots drop in reverse
  act st (Leave ss ∷ k) = Done (go st (leave_items ss k))
  -- Drop call: the event, and a call with the part's address; then the parts that are left
  act st (DropCall i s f ∷ k) =
      and_then (frame_at (all_frames st) i) (λ g.
      call core (go (with_event st (Dropped f.def)) (Toss ∷ DropRest i s f.todo ∷ k)) f.function (Refers (record { frame = i; code = g.code; slot = s; path = f.path }) ∷ []))
  -- no step is left of these
  act st (DropSlot s ∷ k) = Done (go st k)
  act st (DropRest i s ts ∷ k) = Done (go st k)
  act st (DropAt a ∷ k) = Done (go st k)
  act st (Empty s ∷ k) = Done (go st k)
  act st (Shut ss ∷ k) = Done (go st k)

  -- Index: a panic takes the place of the step in which it comes
  abbrev pub caught : State → Try State → Try State
  caught st (Panics e) = panicked st.mode st e
  caught st r = r

  abbrev pub step_in : Mode → State → Try State
  step_in Ended st = Done st
  step_in _ st = and_then (settled st.top.control st) (λ q. caught q (act q q.top.control))

  abbrev pub step : State → Try State
  step st = step_in st.mode st
