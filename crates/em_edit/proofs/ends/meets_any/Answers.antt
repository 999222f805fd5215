use Rattle.std.proofs.Common.{refl, subst, sym}
use Rattle.std.specs.Prelude.{All}
use Rattle.std.proofs.lemmas.List.{take_all}
use Rattle.std.proofs.lemmas.List.Elements.{All-more}
use Rattle.em_base.specs.declared.edit.Part.{Part}
use Rattle.em_edit.specs.Ends.{AreClear}
use Rattle.em_edit.proofs.ends.meets_any.Goals as goal

pub returns-then-meets : goal.returns-then-meets
returns-then-meets c = λ before holds.
    (c.loop-part.part-index, c.part-item.result, c.loop-part-test.true, sym c.part-item.is, c.if-meets.ensures c.part-item.result before refl holds)

pub loop-part-preserved : goal.loop-part-preserved
loop-part-preserved c = λ before holds.
    All-more (λ p. All (AreClear p) before) c.args.parts.now c.loop-part.part-index c.part-item.result c.loop-part-test.true (c.loop-part.invariant before holds)
    (subst (λ (p : Part). All (AreClear p) before) c.part-item.is (c.if-meets.ensures c.part-item.result before refl holds))

pub returns : goal.returns
returns c = λ before holds. subst (λ ps. All (λ p. All (AreClear p) before) ps) (take_all c.loop-part.part-index c.args.parts.now c.loop-part-test.false) (c.loop-part.invariant before holds)
