use Rattle.std.proofs.lemmas.Bool.{leb-true, leb-false, eqb-true}
use Rattle.em_edit.proofs.Reach.{last_tells, clear_of_none}
use Rattle.em_edit.proofs.ends.meets.Goals as goal

pub returns-then-place-span : goal.returns-then-place-span
returns-then-place-span c = λ p parts e holds. last_tells c.args.ends.now p parts c.args.span c.in-Some.place c.in-Some.last c.last_of.result _ e c.last_of.ensures holds c.in-Some.ensures
    (λ t. (c.if-place-span.true, leb-true _ _ t)) (λ f same. leb-false _ _ f)

pub returns-else-place-span : goal.returns-else-place-span
returns-else-place-span c = λ p parts e holds. last_tells c.args.ends.now p parts c.args.span c.in-Some.place c.in-Some.last c.last_of.result _ e c.last_of.ensures holds c.in-Some.ensures
    (λ t. absurd (c.if-place-span.false (eqb-true _ _ t))) (λ f same. absurd (c.if-place-span.false same))

pub returns-in-None : goal.returns-in-None
returns-in-None c = λ p parts e holds. clear_of_none c.args.ends.now p parts c.args.span c.last_of.result e c.last_of.ensures holds c.in-None.ensures
