-- The state of a run: slots by frame, what each frame has still to do, the mode and the events.
use Rattle.std.specs.Prelude.{ℕ, zero, suc, ◌-◌, Bool, true, false, if◌then◌else◌, ◌==◌, List, [], ◌∷◌, ◌++◌, length, drop, Option, Some, None}
use Rattle.em_core.specs.declared.ty.Ty.{Ty, Never}
use Rattle.em_core.specs.declared.expr.Expr.{Expr}
use Rattle.em_core.specs.declared.expr.Piece.{Piece}
use Rattle.em_core.specs.declared.operator.UnaryOp.{UnaryOp}
use Rattle.em_core.specs.declared.operator.BinaryOp.{BinaryOp}
use Rattle.em_core.specs.declared.operator.CompareOp.{CompareOp}
use Rattle.em_core.specs.declared.place.PlaceExpr.{PlaceExpr}
use Rattle.em_core.specs.Values.{Event, Aborted, Code, Address, Value, Try, Done, Invalid, Stuck, and_then, or_invalid, get, put, cleaned}
use Rattle.em_core.specs.Drops.{Todo, Found}

-- a slot: its type, and its value while it is open
pub record Cell : Type 0 where
  pub ty : Ty
  pub value : Option Value

-- what a frame has still to do
pub data Item : Type 0 where
  Evaluate : Expr → Item
  Put : (slot : ℕ) → Item
  Replace : PlaceExpr → Item
  DropAt : Address → Item
  Store : Address → Item
  ApplyUnary : UnaryOp → Item
  ApplyBinary : BinaryOp → Item
  ApplyCompare : CompareOp → Item
  MakeStruct : (def variant count : ℕ) → Item
  MakeArray : (count : ℕ) → Item
  MakeCopies : (count : ℕ) → Item
  MakeBox : Ty → Item
  MakeRange : (closed : Bool) → Item
  Enter : (function count : ℕ) → Item
  EnterDyn : (method count : ℕ) → Item
  EnterBy : PlaceExpr → (count : ℕ) → Item
  EnterOnce : (count : ℕ) → Item
  Choose : Expr → Expr → Item
  Again : (body : Expr) → (height : ℕ) → Item  -- a loop, with the number of operands that lay when it began
  GiveBack : Item
  Toss : Item
  Say : List Piece → (count : ℕ) → Item
  Fail : List Piece → (count : ℕ) → Item
  FailWith : Ty → Item
  MakeIter : Item
  MakeRefIter : Item
  DropOwn : (slot : ℕ) → Item
  GiveUnit : Item
  Leave : (slots : List ℕ) → Item
  DropSlot : (slot : ℕ) → Item
  DropRest : (frame slot : ℕ) → List Todo → Item
  DropCall : (frame slot : ℕ) → Found → Item
  Empty : (slot : ℕ) → Item  -- the slot has dropped
  Shut : (slots : List ℕ) → Item  -- the scope's drops are done
  Unwound : Item  -- the end of a frame that a panic goes through: it gives no result

pub record Frame : Type 0 where
  pub id : ℕ
  pub code : Code
  pub self : Option Address  -- of a closure's frame: where the closure stands
  pub cells : List Cell
  pub control : List Item
  pub operands : List Value  -- the last one first

pub data Mode : Type 0 where
  Normal : Mode
  Unwinding : Mode
  Ended : Mode

-- the running frame, the frames that wait for it, the number of the next frame
pub record State : Type 0 where
  pub top : Frame
  pub below : List Frame
  pub fresh : ℕ
  pub mode : Mode
  pub events : List Event

-- ---- slots

abbrev pub cell_at : List Cell → ℕ → Try Value
cell_at [] n = Stuck
cell_at (c ∷ cs) zero = or_invalid c.value
cell_at (c ∷ cs) (suc n) = cell_at cs n

abbrev pub ty_of : List Cell → ℕ → Ty
ty_of [] n = Never
ty_of (c ∷ cs) zero = c.ty
ty_of (c ∷ cs) (suc n) = ty_of cs n

abbrev pub with_cell : List Cell → ℕ → Option Value → List Cell
with_cell [] n v = []
with_cell (c ∷ cs) zero v = record c { value = v } ∷ cs
with_cell (c ∷ cs) (suc n) v = c ∷ with_cell cs n v

-- the slots, all with this value
abbrev pub with_cells_at : List ℕ → Option Value → List Cell → List Cell
with_cells_at [] v cs = cs
with_cells_at (s ∷ ss) v cs = with_cells_at ss v (with_cell cs s v)

-- a frame's slots at its start: the arguments stand in the first ones, and no other is open
abbrev pub cells_of : List Ty → List Value → List Cell
cells_of [] vs = []
cells_of (t ∷ ts) [] = record { ty = t; value = None } ∷ cells_of ts []
cells_of (t ∷ ts) (v ∷ vs) = record { ty = t; value = Some v } ∷ cells_of ts vs

-- ---- frames

abbrev pub frame_at : List Frame → ℕ → Try Frame
frame_at [] i = Invalid
frame_at (f ∷ fs) i = if f.id == i then Done f else frame_at fs i

abbrev pub with_frame : List Frame → ℕ → List Cell → List Frame
with_frame [] i cs = []
with_frame (f ∷ fs) i cs = if f.id == i then record f { cells = cs } ∷ fs else f ∷ with_frame fs i cs

-- what stands in a slot. A frame that has ended and a slot whose scope is not open are Invalid
abbrev pub slot_value : List Frame → (frame slot : ℕ) → Try Value
slot_value fs i s = and_then (frame_at fs i) (λ f. cell_at f.cells s)

-- what stands at an address, whatever it is
abbrev pub look : List Frame → Address → Try Value
look fs a = and_then (slot_value fs a.frame a.slot) (λ v. get v a.path)

-- an access: a value with Moved or Hole inside is Invalid
abbrev pub read : List Frame → Address → Try Value
read fs a = and_then (look fs a) cleaned

-- another value at an address
abbrev pub write : List Frame → Address → Value → Try (List Frame)
write fs a x =
    and_then (frame_at fs a.frame) (λ f. and_then (cell_at f.cells a.slot) (λ v. and_then (put v a.path x) (λ w.
    Done (with_frame fs a.frame (with_cell f.cells a.slot (Some w))))))

-- ---- states

abbrev pub all_frames : State → List Frame
all_frames st = st.top ∷ st.below

abbrev pub with_frames : State → List Frame → State
with_frames st [] = st
with_frames st (f ∷ fs) = record st { top = f; below = fs }

abbrev pub go : State → List Item → State
go st k = record st { top = record st.top { control = k } }

abbrev pub give : State → Value → List Item → State
give st v k = record st { top = record st.top { control = k; operands = v ∷ st.top.operands } }

abbrev pub with_cells : State → List Cell → State
with_cells st cs = record st { top = record st.top { cells = cs } }

abbrev pub with_operands : State → List Value → State
with_operands st vs = record st { top = record st.top { operands = vs } }

abbrev pub with_event : State → Event → State
with_event st e = record st { events = st.events ++ e ∷ [] }

-- the last operand, and the state without it
abbrev pub pop : State → (Value → State → Try State) → Try State
pop st f = elim st.top.operands [ [] ↦ Stuck | v ∷ vs ↦ f v (with_operands st vs) ]

-- as many operands, in order, and the others
abbrev pub taken : ℕ → List Value → List Value → (List Value → List Value → Try State) → Try State
taken zero got vs f = f got vs
taken (suc m) got [] f = Stuck
taken (suc m) got (v ∷ vs) f = taken m (v ∷ got) vs f

abbrev pub pop_all : State → ℕ → (List Value → State → Try State) → Try State
pop_all st m f = taken m [] st.top.operands (λ vs rest. f vs (with_operands st rest))

abbrev pub pop_two : State → (Value → Value → State → Try State) → Try State
pop_two st f = pop st (λ b q. pop q (λ a r. f a b r))

abbrev pub give_all : State → Try Value → List Item → Try State
give_all st r k = and_then r (λ v. Done (give st v k))

-- ---- control

abbrev pub rows : List Expr → List Item → List Item
rows [] k = k
rows (e ∷ es) k = Evaluate e ∷ rows es k

-- what is still done on the way out: leaving scopes, drops, and the store that follows the drop of an assignment
abbrev pub is_exit : Item → Bool
is_exit (Leave ss) = true
is_exit (DropSlot s) = true
is_exit (DropRest i s ts) = true
is_exit (DropAt a) = true
is_exit (Store a) = true
is_exit (Empty s) = true
is_exit (Shut ss) = true
is_exit _ = false

abbrev pub exits : List Item → List Item
exits [] = []
exits (i ∷ k) = if is_exit i then i ∷ exits k else exits k

-- a loop that runs: what is left before it, its body, the operands that lay when it began, and what comes after it
pub record Looped : Type 0 where
  pub left : List Item
  pub body : Expr
  pub height : ℕ
  pub after : List Item

abbrev pub with_left : Item → Try Looped → Try Looped
with_left i r = and_then r (λ l. Done (record l { left = i ∷ l.left }))

-- the innermost loop
abbrev pub innermost : List Item → Try Looped
innermost [] = Stuck
innermost (Again e h ∷ k) = Done (record { left = []; body = e; height = h; after = k })
innermost (i ∷ k) = if is_exit i then with_left i (innermost k) else innermost k

-- the operands that lay when there were so many
abbrev pub lowest : ℕ → List Value → List Value
lowest h vs = drop (length vs - h) vs

-- a slot's drop, after which it holds Moved
abbrev pub drop_items : ℕ → List Item → List Item
drop_items s k = DropSlot s ∷ Empty s ∷ k

-- slots drop in reverse; then the scope is no longer open
abbrev pub drop_in_reverse : List ℕ → List Item → List Item
drop_in_reverse [] k = k
drop_in_reverse (s ∷ ss) k = drop_in_reverse ss (drop_items s k)

abbrev pub leave_items : List ℕ → List Item → List Item
leave_items ss k = drop_in_reverse ss (Shut ss ∷ k)

-- parameters drop last, in reverse
abbrev pub drop_parameters : ℕ → List Item → List Item
drop_parameters zero k = k
drop_parameters (suc m) k = drop_items m (drop_parameters m k)

-- ---- panics

abbrev pub unwound : Frame → Frame
unwound f = record f { control = exits f.control ++ Unwound ∷ [] }

abbrev pub all_unwound : List Frame → List Frame
all_unwound [] = []
all_unwound (f ∷ fs) = unwound f ∷ all_unwound fs

-- Panic, and a panic with a value: the event; from now on each frame does nothing but its exits
-- Panic while a drop runs in Unwinding: Abort, and the end
abbrev pub panicked : Mode → State → Event → Try State
panicked Normal st e = Done (record st { top = unwound st.top; below = all_unwound st.below; mode = Unwinding; events = st.events ++ e ∷ [] })
panicked Unwinding st e = Done (record st { mode = Ended; events = st.events ++ Aborted ∷ [] })
panicked Ended st e = Stuck
