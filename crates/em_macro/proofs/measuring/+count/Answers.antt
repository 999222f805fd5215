use Rattle.std.proofs.Common.{◌≡◌, ◌<◌, ◌-◌, Err, ap, ◌∙◌, rules, arith}
use Rattle.std.proofs.lemmas.Grind.{common_steps}
use Rattle.std.proofs.lemmas.List.{drop_all}
use Rattle.em_macro.specs.Write.{uses}
use Rattle.em_macro.specs.Measure.{counted}
use Rattle.em_macro.proofs.Turns.{deeper}
use Rattle.em_macro.proofs.CountTurns.{counts_by, count_goes, count_stops, count_ends, copies_go, copies_stop, copies_end}
use Rattle.em_macro.proofs.measuring.+count.Goals as goal

pub count-returns-then-depth-eq0 : goal.count-returns-then-depth-eq0
unfolding counted
count-returns-then-depth-eq0 t c = let none : c.args.depth ≡ 0 = omega arith in ap (λ n. counted n c.args.transcribers.now c.args.bindings.now c.args.total) none

pub count-loop-transcriber-init : goal.count-loop-transcriber-init
unfolding counted
count-loop-transcriber-init t c =
    let some : 0 < c.args.depth = omega arith in
    (some, deeper (λ n. counted n c.args.transcribers.now c.args.bindings.now c.args.total) c.args.depth some)

pub count-returns-in_err-sum : goal.count-returns-in_err-sum
count-returns-in_err-sum t c =
    let is : c.from_residual.result ≡ Err c.in_err-sum.field-0.0 = first_of (search rules, grind (arith, common_steps)) in
    counts_by _ _ c.from_residual.result c.in_err-sum.field-0.0 c.loop-transcriber.invariant.1 is
    (count_stops (uses (c.args.depth - 1)) (counted (c.args.depth - 1)) c.args.transcribers.now c.loop-transcriber.transcriber-index c.transcriber-item.result c.args.bindings.now c.loop-transcriber.sum
    c.in_err-sum.field-0.0 (search rules) (search rules) c.in_err-sum.ensures)

pub count-loop-transcriber-preserved : goal.count-loop-transcriber-preserved
count-loop-transcriber-preserved t c = (
  c.loop-transcriber.invariant.0,
  c.loop-transcriber.invariant.1
      ∙ count_goes (uses (c.args.depth - 1)) (counted (c.args.depth - 1)) c.args.transcribers.now c.loop-transcriber.transcriber-index c.transcriber-item.result c.args.bindings.now c.loop-transcriber.sum
      _ (search rules) (search rules) (search rules),
)

pub count-returns : goal.count-returns
count-returns t c =
    c.loop-transcriber.invariant.1
    ∙ count_ends (uses (c.args.depth - 1)) (counted (c.args.depth - 1)) c.args.transcribers.now c.loop-transcriber.transcriber-index c.args.bindings.now c.loop-transcriber.sum
    (drop_all c.loop-transcriber.transcriber-index c.args.transcribers.now (search rules))

pub count_copies-returns-in_err-sum : goal.count_copies-returns-in_err-sum
count_copies-returns-in_err-sum t c =
    let is : c.from_residual-in_err-sum.result ≡ Err c.in_err-sum.field-0.0 = first_of (search rules, grind (arith, common_steps)) in
    counts_by _ _ c.from_residual-in_err-sum.result c.in_err-sum.field-0.0 c.loop-k.invariant is
    (copies_stop (uses c.args.depth) (counted c.args.depth) c.args.copies c.loop-k.k c.args.body.now c.args.separator.now c.args.bindings.now c.as_slice.result.now c.loop-k.sum
    c.plus-before.result c.in_err-sum.field-0.0 (search rules) (search rules) (first_of (search rules, grind (arith, common_steps))) c.in_err-sum.ensures)

pub count_copies-loop-k-preserved : goal.count_copies-loop-k-preserved
count_copies-loop-k-preserved t c =
    c.loop-k.invariant
    ∙ copies_go (uses c.args.depth) (counted c.args.depth) c.args.copies c.loop-k.k c.args.body.now c.args.separator.now c.args.bindings.now c.as_slice.result.now c.loop-k.sum
    c.plus-before.result _ (search rules) (search rules) (first_of (search rules, grind (arith, common_steps))) (search rules)

pub count_copies-returns : goal.count_copies-returns
count_copies-returns t c =
    c.loop-k.invariant
    ∙ copies_end (uses c.args.depth) (counted c.args.depth) c.args.copies c.loop-k.k c.args.body.now c.args.separator.now c.args.bindings.now c.loop-k.sum (omega arith)
