-- Which arm is chosen, and which arm stops the search for one.
use Rattle.std.specs.Prelude.{◌≡◌, ℕ, ◌<◌, List, [], length, slice_index_or, Result, Ok, Err}
use Rattle.em_macro.specs.declared.rules.Arm.{Arm}
use Rattle.em_macro.specs.declared.matched.Matched.{Matched}
use Rattle.em_macro.specs.declared.error.MacroError.{MacroError}
use Rattle.em_macro.specs.declared.error.MacroError.TheVariants as e
use Rattle.em_macro.specs.Reads.{ReadBefore}
use Rattle.em_tree.specs.Starts.{Pieces}
use Rattle.em_macro.specs.Match.{Reading, Bindings, NoPrefix, TooDeep, Match, Stops, Decidable, at_end, levels}

abbrev pub AreDecidable : List Arm → Type 0
AreDecidable arms = (k : ℕ) (d : Arm) → k < length arms → Decidable levels (slice_index_or arms k d).matcher at_end

module _ (reads : Reading) where
  -- the arm matches all the pieces
  abbrev pub Matches : Arm → Pieces → Bindings → Type 0
  Matches arm i bs = Match reads levels arm.matcher i bs []

  abbrev pub IsBroken : Arm → Pieces → Type 0
  IsBroken arm i = Stops reads NoPrefix levels arm.matcher i

  abbrev pub IsTooDeep : Arm → Pieces → Type 0
  IsTooDeep arm i = Stops reads TooDeep levels arm.matcher i

  -- it neither matches nor is broken nor too deep
  abbrev pub Misses : Arm → Pieces → Type 0
  Misses arm i = ((bs : Bindings) → Matches arm i bs → ⊥) × (IsBroken arm i → ⊥) × (IsTooDeep arm i → ⊥)

  -- the first arm that doesn't miss is this one, and it is so
  abbrev pub Decides : (Arm → Type 0) → List Arm → Pieces → ℕ → Type 0
  Decides P arms i n = (n < length arms) × ((d : Arm) → P (slice_index_or arms n d)) × ((k : ℕ) (d : Arm) → k < n → Misses (slice_index_or arms k d) i)

  abbrev pub Answers : List Arm → Pieces → Result Matched MacroError → Type 0
  Answers arms i (Ok m) = Decides (λ a. Matches a i m.bindings) arms i m.arm × ReadBefore reads m.arm arms i m.tried
  Answers arms i (Err e.NoArm) = (k : ℕ) (d : Arm) → k < length arms → Misses (slice_index_or arms k d) i
  Answers arms i (Err (e.Broken n)) = Decides (λ a. IsBroken a i) arms i n
  Answers arms i (Err e.Depth) = (n : ℕ) × Decides (λ a. IsTooDeep a i) arms i n
  Answers arms i (Err e.NoMemory) = Unit {0}

  -- one arm is chosen, with one list of bindings
  abbrev pub OneMatch : Type 0
  OneMatch = (arms : List Arm) → AreDecidable arms → (i : Pieces) (n m : ℕ) (bs cs : Bindings)
      → Decides (λ a. Matches a i bs) arms i n → Decides (λ a. Matches a i cs) arms i m → (n ≡ m) × (bs ≡ cs)
