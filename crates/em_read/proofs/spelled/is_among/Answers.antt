use Rattle.std.proofs.Common.{true, false, sym, ◌∙◌}
use Rattle.em_read.proofs.Words.{among_next}
use Rattle.em_read.proofs.spelled.is_among.Goals as goal

pub returns-then-eq : goal.returns-then-eq
returns-then-eq c =
    sym (c.loop-word.invariant ∙ among_next (λ w. w.now) c.args.list.now c.loop-word.word-index _ c.args.text.now true c.loop-word-test.true (sym c.eq.ensures ∙ c.if-eq.true))

pub loop-word-preserved : goal.loop-word-preserved
loop-word-preserved c =
    c.loop-word.invariant ∙ among_next (λ w. w.now) c.args.list.now c.loop-word.word-index _ c.args.text.now false c.loop-word-test.true (sym c.eq.ensures ∙ c.if-eq.false)
