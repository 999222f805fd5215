use Rattle.std.proofs.Common.{sym, ap, ◌∙◌, Bor, List}
use Rattle.std.specs.Option.{option_map}
use Rattle.em_base.specs.declared.token.Token.{Token}
use Rattle.em_first.proofs.Behind.{ran_out, differs, agrees, all_found}
use Rattle.em_first.proofs.form.behind.Goals as goal

pub returns-in_err-first : goal.returns-in_err-first
returns-in_err-first c =
    ap (option_map (λ (r : Bor (List Token)). r.now)) c.from_residual.ensures
    ∙ sym (c.loop-word.invariant ∙ ran_out c.args.words.now c.loop-word.word-index c.loop-word.rest.now c.loop-word-test.true c.in_err-first.ensures.cases)

pub returns-then-ne : goal.returns-then-ne
returns-then-ne c = sym (c.loop-word.invariant ∙ differs c.args.words.now c.loop-word.word-index _ c.loop-word.rest.now c.in_ok-first.others.now c.in_ok-first.first.now c.said.result.now c.loop-word-test.true c.in_ok-first.ensures.cases.0 c.said.ensures c.if-ne.ensures)

pub loop-word-preserved : goal.loop-word-preserved
loop-word-preserved c = c.loop-word.invariant ∙ agrees c.args.words.now c.loop-word.word-index _ c.loop-word.rest.now c.in_ok-first.others.now c.in_ok-first.first.now c.said.result.now c.loop-word-test.true c.in_ok-first.ensures.cases.0 c.said.ensures c.if-ne.ensures

pub returns : goal.returns
returns c = sym (c.loop-word.invariant ∙ all_found c.args.words.now c.loop-word.word-index c.loop-word.rest.now c.loop-word-test.false)
