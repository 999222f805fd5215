-- What is seen of a run.
use Rattle.std.specs.Prelude.{ℕ, zero, suc, Bool, true, false, List, [], Option, Some, None}
use Rattle.em_core.specs.declared.program.Core.{Core}
use Rattle.em_core.specs.Values.{Event, Try, Done, Panics, Invalid, Stuck, and_then, Fn}
use Rattle.em_core.specs.States.{Mode, Normal, Ended, State}
use Rattle.em_core.specs.Calls.{call}
use Rattle.em_core.specs.Steps.{step}

-- the events so far, whether the run has ended, and whether it came to an invalid access. A run that is stuck has ended too
pub record Seen : Type 0 where
  pub events : List Event
  pub ended : Bool
  pub invalid : Bool
  pub stuck : Bool

abbrev pub has_ended : Mode → Bool
has_ended Ended = true
has_ended _ = false

-- before the entry is called: a frame with nothing to do
abbrev pub outset : State
outset = record {
  top = record { id = 0; code = Fn 0; self = None; cells = []; control = []; operands = [] };
  below = [];
  fresh = 1;
  mode = Normal;
  events = [];
}

-- the call of a function without arguments, from which the run starts
abbrev pub begun : Core → ℕ → Try State
begun core f = and_then (call core outset f []) (λ st. Done (record st { below = [] }))

module _ (core : Core) where
  abbrev pub seen_from : ℕ → State → Seen
  seen_from zero st = record { events = st.events; ended = has_ended st.mode; invalid = false; stuck = false }
  seen_from (suc n) st =
      let more = seen_from n in
      elim (step core st) [
        | Done q ↦ more q
        | Panics e ↦ record { events = st.events; ended = true; invalid = false; stuck = true }
        | Invalid ↦ record { events = st.events; ended = true; invalid = true; stuck = false }
        | Stuck ↦ record { events = st.events; ended = true; invalid = false; stuck = true }
      ]

  abbrev pub seen_of : ℕ → Try State → Seen
  seen_of n (Done st) = seen_from n st
  seen_of n _ = record { events = []; ended = true; invalid = false; stuck = true }

  abbrev pub seen_of_entry : ℕ → Option ℕ → Seen
  seen_of_entry n None = record { events = []; ended = true; invalid = false; stuck = false }
  seen_of_entry n (Some f) = seen_of n (begun core f)

-- Events: what is seen after at most so many steps from the entry. A Core without an entry has no run
abbrev pub events : Core → ℕ → Seen
events core n = seen_of_entry core n core.entry
