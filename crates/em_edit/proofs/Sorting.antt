-- What a sort of references to parts by (file, start) leaves.
use Rattle.std.proofs.Common.{◌≡◌, ◌⊎◌, ℕ, ◌<◌, ◌≤◌, false, List, map, arith, nat_cmp, is_lt, Bor}
use Rattle.std.specs.Prelude.{AllPairs}
use Rattle.std.specs.Ordering.{ordering_then}
use Rattle.std.specs.List.Sorted.{IsSortedByKey}
use Rattle.std.proofs.lemmas.Bool.Decides.{nat_tests}
use Rattle.std.proofs.lemmas.List.Sorted.{sorted_far, ranks_by}
use Rattle.em_base.specs.declared.edit.Part.{Part}
use Rattle.em_edit.specs.Ends.{place_cmp}
use Rattle.em_edit.specs.Order.{StartsNoLater}
use Rattle.em_edit.proofs.Pairs.{AllPairs-map}
use Rattle.em_edit.proofs.PlaceOrder.{pairs_total}

abbrev pub place_of : Bor Part → ℕ × ℕ
place_of r = (r.now.span.file, r.now.span.start)

no_later : (x y u v : ℕ) → is_lt (ordering_then (nat_cmp x u) (nat_cmp y v)) ≡ false → (u < x) ⊎ ((u ≡ x) × (v ≤ y))
no_later x y u v h = grind (arith, nat_tests)

pub sorted_parts : (xs : List (Bor Part)) → IsSortedByKey place_of place_cmp xs → AllPairs StartsNoLater (map (λ r. r.now) xs)
sorted_parts xs h = AllPairs-map StartsNoLater (λ r. r.now) xs (λ i j d lt l. no_later _ _ _ _ (sorted_far (λ a b. is_lt (place_cmp (place_of a) (place_of b))) (ranks_by pairs_total place_of) xs h i j d (omega arith) l))
