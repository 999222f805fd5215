use Rattle.std.proofs.Common.{◌≡◌, false, sym, subst, rules, arith}
use Rattle.std.proofs.lemmas.Grind.{common_steps}
use Rattle.em_read.proofs.Groups.{signed_at, signed_other}
use Rattle.em_grammar.specs.declared.sort.Written.TheVariants as word
use Rattle.em_grammar.specs.Sets.{next, tokens, groups, only}
use Rattle.em_grammar.specs.LiteralReader.{literal_kind}
use Rattle.em_read.specs.Parse.{Reads}
use Rattle.em_read.proofs.literal.+signed.Goals as goal

pub signed-returns-in_err-value-in-Token : goal.signed-returns-in_err-value-in-Token
signed-returns-in_err-value-in-Token t c =
    rw (signed_at c.args.groups c.args.input.now.rest.now) (first_of (search rules, grind (arith, common_steps)))

pub signed-returns-in_err-inner-in-Group : goal.signed-returns-in_err-inner-in-Group
signed-returns-in_err-inner-in-Group t c =
    rw (signed_at c.args.groups c.args.input.now.rest.now) (first_of (search rules, grind (arith, common_steps)))

pub signed-returns-in_ok-new-in-Token : goal.signed-returns-in_ok-new-in-Token
signed-returns-in_ok-new-in-Token t c =
    rw (signed_at c.args.groups c.args.input.now.rest.now) (first_of (search rules, grind (arith, common_steps)))

pub signed-returns-in_ok-new-in-Group : goal.signed-returns-in_ok-new-in-Group
signed-returns-in_ok-new-in-Group t c =
    rw (signed_at c.args.groups c.args.input.now.rest.now) (first_of (search rules, grind (arith, common_steps)))

pub signed-returns-in_default : goal.signed-returns-in_default
signed-returns-in_default t c =
    let h : next (tokens (only word.Minus)) c.args.input.now.rest.now ≡ false = first_of (search rules, grind (arith, common_steps)) in
    let k : next (groups literal_kind) c.args.input.now.rest.now ≡ false = first_of (search rules, grind (arith, common_steps)) in
    subst (λ o. Reads o c.unsigned-in_default.result c.unsigned-in_default.new.input.rest.now) (sym (signed_other c.args.groups c.args.input.now.rest.now h k)) c.unsigned-in_default.ensures
