use Rattle.std.proofs.Common.{◌≡◌, ℕ, ◌<◌, IsTrue, slice_index_or}
use Rattle.std.specs.BTreeSet as tree
use Rattle.std.specs.Ordering.{nat_cmp}
use Rattle.em_core.proofs.typed.slots.all_different.Given as goal

abbrev pub invariant-loop-number : goal.invariant-loop-number
invariant-loop-number l = ((k : ℕ) → k < l.number-index → IsTrue (tree.contains nat_cmp l.seen (slice_index_or l.numbers k 0)))
    × ((q : ℕ) → IsTrue (tree.contains nat_cmp l.seen q) → (k : ℕ) × (k < l.number-index) × (slice_index_or l.numbers k 0 ≡ q))
    × ((a b : ℕ) → a < b → b < l.number-index → slice_index_or l.numbers a 0 ≡ slice_index_or l.numbers b 0 → ⊥)
