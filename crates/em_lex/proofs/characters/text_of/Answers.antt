use Rattle.std.proofs.Common.{arith}
use Rattle.std.proofs.lemmas.Grind.{common_steps}
use Rattle.em_lex.proofs.Indices.{encode-more}
use Rattle.em_lex.proofs.characters.text_of.Goals as goal

pub loop-c-preserved : goal.loop-c-preserved
loop-c-preserved c =
    let more = encode-more c.args.cs.now c.loop-c.c-index c.loop-c-test.true in
    let bytes = c.in_ok-push.ensures.bytes in
    grind (arith, common_steps, more, bytes)
