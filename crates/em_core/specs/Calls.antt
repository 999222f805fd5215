-- Calls: of a function, of a trait object's method, and of a closure where it stands or once.
use Rattle.std.specs.Prelude.{ℕ, suc, Bool, true, false, ◌&&◌, ◌==◌, List, [], ◌∷◌, ◌++◌, length, find, Option, Some, None, slice_get, option_and_then}
use Rattle.em_core.specs.declared.ty.Ty.{Ty, out-Ty}
use Rattle.em_core.specs.declared.ty.Ty.TheOpen.{Ty-F}
use Rattle.em_core.specs.declared.methods.Impl.{Impl}
use Rattle.em_core.specs.declared.methods.ImplFunction.{ImplFunction}
use Rattle.em_core.specs.declared.methods.Owner.{Owner}
use Rattle.em_core.specs.declared.methods.Owner.TheVariants as owner
use Rattle.em_core.specs.declared.program.Core.{Core}
use Rattle.em_core.specs.Values.{Try, Done, Invalid, Stuck, and_then, or_stuck, Code, Fn, Cl, Address, Value, Number, Truth, Character, UnitValue, Struct, Box, Refers, Closure, Moved, Hole, same_kind}
use Rattle.em_core.specs.Facts.{slots_of, body_of, closure_type}
use Rattle.em_core.specs.States.{Cell, Item, Evaluate, State, cells_of, all_frames, look, drop_parameters, drop_items}

-- whether a value is of a type that an impl may be for
abbrev pub is_of : Value → Ty-F Ty → Bool
is_of (Struct d k vs) (Ty-F.Def e) = d == e
is_of (Number k z) (Ty-F.Int j) = same_kind k j
is_of (Truth b) Ty-F.Bool = true
is_of (Character c) Ty-F.Char = true
is_of UnitValue Ty-F.Unit = true
is_of _ _ = false

abbrev pub trait_in : Owner → Option ℕ
trait_in (owner.Trait n) = Some n
trait_in _ = None

-- the impl of a trait for a value's type
abbrev pub impl_for : List Impl → ℕ → Value → Option Impl
impl_for is n v = find (λ i. (i.of == n) && is_of v (out-Ty i.ty)) is

-- the function of a method in an impl, else the trait's own
abbrev pub chosen : Option ImplFunction → Option ℕ → Option ℕ
chosen (Some f) o = Some f.function
chosen None o = o

module _ (core : Core) where
  abbrev pub method_of : ℕ → Value → Option ℕ
  method_of m v = option_and_then (λ x. option_and_then (λ n. option_and_then (λ i. chosen (find (λ f. f.method == m) i.functions) x.function) (impl_for core.methods.impls n v)) (trait_in x.owner)) (slice_get core.methods.methods m)

  -- Call: a new frame with the arguments in its first slots. Its number is never used again
  abbrev pub entered : State → Code → Option Address → List Cell → List Item → Try State
  entered st code self cells after = and_then (or_stuck (body_of core code)) (λ e.
      Done (record st {
        top = record { id = st.fresh; code = code; self = self; cells = cells; control = Evaluate e ∷ after; operands = [] };
        below = all_frames st;
        fresh = suc st.fresh;
      }))

  abbrev pub call : State → ℕ → List Value → Try State
  call st f args = entered st (Fn f) None (cells_of (slots_of core (Fn f)) args) (drop_parameters (length args) [])

  -- CallDyn: the function by the type of what the receiver refers to
  abbrev pub call_on : State → ℕ → List Value → Value → Try State
  call_on st m args Moved = Invalid
  call_on st m args Hole = Invalid
  call_on st m args v = and_then (or_stuck (method_of m v)) (λ f. call st f args)

  abbrev pub call_dyn : State → ℕ → List Value → Try State
  call_dyn st m (Refers a ∷ args) = and_then (look (all_frames st) a) (call_on st m (Refers a ∷ args))
  call_dyn st m _ = Stuck

  -- CallBy: the frame's roots are those of the closure at the place
  abbrev pub call_by : State → Address → List Value → Value → Try State
  call_by st a args (Closure id roots) = entered st (Cl id) (Some a) (cells_of (slots_of core (Cl id)) args) (drop_parameters (length args) [])
  call_by st a args Moved = Invalid
  call_by st a args Hole = Invalid
  call_by st a args _ = Stuck

  -- CallOnce: the frame owns the closure, in a slot after all others, and drops it after its parameters
  abbrev pub own_slot : ℕ → ℕ
  own_slot id = length (slots_of core (Cl id))

  abbrev pub own_cells : ℕ → Value → List Value → List Cell
  own_cells id c args = cells_of (slots_of core (Cl id)) args ++ record { ty = closure_type core id; value = Some c } ∷ []

  abbrev pub call_once : State → List Value → Value → Try State
  call_once st args (Closure id roots) =
      entered st (Cl id) (Some (record { frame = st.fresh; code = Cl id; slot = own_slot id; path = [] })) (own_cells id (Closure id roots) args)
      (drop_parameters (length args) (drop_items (own_slot id) []))
  call_once st args _ = Stuck

-- a boxed closure is used up with its box
abbrev pub out_of_box : Value → Value
out_of_box (Box t v) = v
out_of_box v = v
