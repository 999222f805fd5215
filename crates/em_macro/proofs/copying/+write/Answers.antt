use Rattle.std.proofs.Common.{◌≡◌, ◌<◌, ◌-◌, Err, ap, ◌∙◌, rules, arith}
use Rattle.std.proofs.lemmas.Grind.{common_steps}
use Rattle.std.proofs.lemmas.List.{drop_all}
use Rattle.em_macro.specs.Write.{uses, written}
use Rattle.em_macro.proofs.Turns.{deeper}
use Rattle.em_macro.proofs.WriteTurns.{writes_by, write_goes, write_stops, write_ends, copy_goes, copy_stops, copy_ends}
use Rattle.em_macro.proofs.copying.+write.Goals as goal

pub write-returns-then-depth-eq0 : goal.write-returns-then-depth-eq0
unfolding written
write-returns-then-depth-eq0 t c = let none : c.args.depth ≡ 0 = omega arith in ap (λ n. written c.args.mark n c.args.transcribers.now c.args.bindings.now c.args.out.now) none

pub write-loop-transcriber-init : goal.write-loop-transcriber-init
unfolding written
write-loop-transcriber-init t c =
    let some : 0 < c.args.depth = omega arith in
    (some, deeper (λ n. written c.args.mark n c.args.transcribers.now c.args.bindings.now c.args.out.now) c.args.depth some)

pub write-returns-in_err-write_node : goal.write-returns-in_err-write_node
write-returns-in_err-write_node t c =
    let is : c.from_residual.result ≡ Err c.in_err-write_node.field-0.0 = first_of (search rules, grind (arith, common_steps)) in
    writes_by _ _ c.from_residual.result c.in_err-write_node.field-0.0 c.write_node.new.out c.loop-transcriber.invariant.1 is
    (write_stops c.args.mark (uses (c.args.depth - 1)) (written c.args.mark (c.args.depth - 1)) c.args.transcribers.now c.loop-transcriber.transcriber-index c.transcriber-item.result c.args.bindings.now c.loop-transcriber.out
    c.write_node.new.out c.in_err-write_node.field-0.0 (search rules) (search rules) c.in_err-write_node.ensures)

pub write-loop-transcriber-preserved : goal.write-loop-transcriber-preserved
write-loop-transcriber-preserved t c = (
  c.loop-transcriber.invariant.0,
  c.loop-transcriber.invariant.1
      ∙ write_goes c.args.mark (uses (c.args.depth - 1)) (written c.args.mark (c.args.depth - 1)) c.args.transcribers.now c.loop-transcriber.transcriber-index c.transcriber-item.result c.args.bindings.now c.loop-transcriber.out
      c.write_node.new.out (search rules) (search rules) (search rules),
)

pub write-returns : goal.write-returns
write-returns t c =
    c.loop-transcriber.invariant.1
    ∙ write_ends c.args.mark (uses (c.args.depth - 1)) (written c.args.mark (c.args.depth - 1)) c.args.transcribers.now c.loop-transcriber.transcriber-index c.args.bindings.now c.loop-transcriber.out
    (drop_all c.loop-transcriber.transcriber-index c.args.transcribers.now (search rules))

pub copies-returns-in_err-write : goal.copies-returns-in_err-write
copies-returns-in_err-write t c =
    let is : c.from_residual-in_err-write.result ≡ Err c.in_err-write.field-0.0 = first_of (search rules, grind (arith, common_steps)) in
    writes_by _ _ c.from_residual-in_err-write.result c.in_err-write.field-0.0 c.write.new.out c.loop-k.invariant is
    (copy_stops c.args.mark (uses c.args.depth) (written c.args.mark c.args.depth) c.args.count c.loop-k.k c.args.body.now c.args.separator.now c.args.bindings.now c.as_slice.result.now c.loop-k.out
    c.separate.new.out c.write.new.out c.in_err-write.field-0.0 (search rules) (search rules) (first_of (search rules, grind (arith, common_steps))) c.in_err-write.ensures)

pub copies-loop-k-preserved : goal.copies-loop-k-preserved
copies-loop-k-preserved t c =
    c.loop-k.invariant
    ∙ copy_goes c.args.mark (uses c.args.depth) (written c.args.mark c.args.depth) c.args.count c.loop-k.k c.args.body.now c.args.separator.now c.args.bindings.now c.as_slice.result.now c.loop-k.out
    c.separate.new.out c.write.new.out (search rules) (search rules) (first_of (search rules, grind (arith, common_steps))) (search rules)

pub copies-returns : goal.copies-returns
copies-returns t c =
    c.loop-k.invariant
    ∙ copy_ends c.args.mark (uses c.args.depth) (written c.args.mark c.args.depth) c.args.count c.loop-k.k c.args.body.now c.args.separator.now c.args.bindings.now c.loop-k.out (omega arith)
