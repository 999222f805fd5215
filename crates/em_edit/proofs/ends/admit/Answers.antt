use Rattle.std.proofs.Common.{map}
use Rattle.std.specs.Prelude.{All}
use Rattle.std.proofs.lemmas.Bool.{MatchBool-at_true, MatchBool-at_false}
use Rattle.std.specs.List.Sorted.{IsPermutation}
use Rattle.std.proofs.lemmas.List.Sorted.{All-permutation}
use Rattle.em_edit.specs.Ends.{AreClear}
use Rattle.em_edit.specs.Meet.{OneMeets}
use Rattle.em_edit.proofs.Reach.{holds_permuted, none_meets}
use Rattle.em_edit.proofs.ends.admit.Goals as goal

pub returns-then-meets_any : goal.returns-then-meets_any
returns-then-meets_any c = λ before holds. (MatchBool-at_true (OneMeets c.args.parts.now before) (All (λ p. All (AreClear p) before) c.args.parts.now) c.if-meets_any.true (c.meets_any.ensures before holds), holds)

pub returns : goal.returns
returns c = λ before holds.
    let clear = MatchBool-at_false (OneMeets c.args.parts.now before) (All (λ p. All (AreClear p) before) c.args.parts.now) c.if-meets_any.false (c.meets_any.ensures before holds) in
    let ordered = map (λ r. r.now) c.as_slice.result.now in
    let same : IsPermutation c.args.parts.now ordered = rw c.as_slice.ensures.value c.in_ok-ordered.ensures.same in
    (none_meets before c.args.parts.now clear, holds_permuted c.put_in_order.new.ends before ordered c.args.parts.now same (c.in_ok-put_in_order.ensures before holds (All-permutation (λ p. All (AreClear p) before) c.args.parts.now ordered same clear) (rw c.as_slice.ensures.value c.in_ok-ordered.ensures.order)))
