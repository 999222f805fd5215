-- The order of places by its comparison.
use Rattle.std.proofs.Common.{◌≡◌, ◌⊎◌, ℕ, ◌<◌, ◌≤◌, false, arith, nat_cmp, is_lt}
use Rattle.std.specs.Ordering.{ordering_then}
use Rattle.std.specs.Cmp.{IsTotalOrder}
use Rattle.std.specs.BTreeMap.Range.{IsLeBy}
use Rattle.std.proofs.lemmas.Cmp.{nat_cmp_total, on_total, then_total}
use Rattle.std.proofs.lemmas.Bool.Decides.{nat_tests}
use Rattle.em_edit.specs.Ends.{place_cmp, IsUpTo}

pub pairs_total : IsTotalOrder place_cmp
pairs_total = then_total (on_total (λ (x : ℕ × ℕ). x.0) nat_cmp_total) (on_total (λ (x : ℕ × ℕ). x.1) nat_cmp_total)

less_pairs : (a b c d : ℕ) → IsLeBy place_cmp (a, b) (c, d) → (a < c) ⊎ ((a ≡ c) × (b ≤ d))
less_pairs a b c d h = grind (arith, nat_tests)

pub up_to_from_le : (x y : ℕ × ℕ) → IsLeBy place_cmp x y → IsUpTo x y
up_to_from_le x y h = less_pairs x.0 x.1 y.0 y.1 h

pairs_less : (a b c d : ℕ) → (a < c) ⊎ ((a ≡ c) × (b ≤ d)) → IsLeBy place_cmp (a, b) (c, d)
pairs_less a b c d h = grind (arith, nat_tests)

pub le_from_up_to : (x y : ℕ × ℕ) → IsUpTo x y → IsLeBy place_cmp x y
le_from_up_to x y h = pairs_less x.0 x.1 y.0 y.1 h

not_less_pairs : (a b c d : ℕ) → is_lt (ordering_then (nat_cmp a c) (nat_cmp b d)) ≡ false → (c < a) ⊎ ((c ≡ a) × (d ≤ b))
not_less_pairs a b c d h = grind (arith, nat_tests)

pub up_to_from_not_less : (x y : ℕ × ℕ) → is_lt (place_cmp x y) ≡ false → IsUpTo y x
up_to_from_not_less x y h = not_less_pairs x.0 x.1 y.0 y.1 h
