use Rattle.std.proofs.Common.{rules}
use Rattle.std.proofs.lemmas.List.Sorted.{IsPermutation-map, answers_always}
use Rattle.em_edit.proofs.Sorting.{sorted_parts, place_of}
use Rattle.em_edit.proofs.order.sorted.Goals as goal

pub returns-clause-same : goal.returns-clause-same
returns-clause-same c = IsPermutation-map (λ r. r.now) _ _ c.in_ok-sort_by_key.ensures.permutation

pub returns-clause-order : goal.returns-clause-order
returns-clause-order c = sorted_parts _ (c.in_ok-sort_by_key.ensures.sorted place_of (answers_always _ _ _ (λ f a r q k. search rules)))
