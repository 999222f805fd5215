use Rattle.std.proofs.Common.{◌≡◌, Err, sym, subst, rules, arith}
use Rattle.std.proofs.lemmas.Grind.{common_steps}
use Rattle.em_macro.specs.declared.rules.Rules.{Rules}
use Rattle.em_macro.specs.Form.{RulesText}
use Rattle.em_macro.specs.Sound.{AreSound, BadText}
use Rattle.em_macro.proofs.RuleTexts.{arms_form, no_rules, only_rules, not_sound}
use Rattle.em_macro.proofs.rule_text.read_rules.Goals as goal

pub returns-in_err-arms-clause-bad : goal.returns-in_err-arms-clause-bad
returns-in_err-arms-clause-bad c =
    let is : c.from_residual.result ≡ Err c.in_err-arms.field-0.0 = first_of (search rules, grind (arith, common_steps)) in
    let text : c.as_slice.result.now ≡ c.args.body.now = c.as_slice.ensures in
    subst (λ r. BadText {T = Rules} c.args.body.now r) (sym is)
    (subst (λ l. BadText {T = Rules} l (Err c.in_err-arms.field-0.0)) text (no_rules Rules c.as_slice.result.now c.in_err-arms.field-0.0 c.arms.new.input.rest.now c.in_err-arms.ensures))

pub returns-then-branch-clause-reads : goal.returns-then-branch-clause-reads
returns-then-branch-clause-reads c =
    let text : c.as_slice.result.now ≡ c.args.body.now = c.as_slice.ensures in
    subst (λ l. RulesText c.in_ok-arms.arms l) text (arms_form _ c.as_slice.result.now c.in_ok-arms.arms c.arms.new.input.rest.now c.in_ok-arms.ensures).0

pub returns-then-branch-clause-only : goal.returns-then-branch-clause-only
returns-then-branch-clause-only c = λ others f.
    let text : c.as_slice.result.now ≡ c.args.body.now = c.as_slice.ensures in
    only_rules c.as_slice.result.now c.in_ok-arms.arms others c.arms.new.input.rest.now c.in_ok-arms.ensures (subst (λ l. RulesText others l) (sym text) f)

pub returns-else-branch-clause-bad : goal.returns-else-branch-clause-bad
returns-else-branch-clause-bad c = λ others f.
    let text : c.as_slice.result.now ≡ c.args.body.now = c.as_slice.ensures in
    let is = only_rules c.as_slice.result.now c.in_ok-arms.arms others c.arms.new.input.rest.now c.in_ok-arms.ensures (subst (λ l. RulesText others l) (sym text) f.0) in
    not_sound c.in_ok-are_sound.field-0 (AreSound c.in_ok-arms.arms) (search rules) (search rules) (subst (λ l. AreSound l) is f.1)
