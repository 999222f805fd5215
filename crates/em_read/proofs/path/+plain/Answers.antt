use Rattle.std.proofs.Common.{rules, arith}
use Rattle.std.proofs.lemmas.Grind.{common_steps}
use Rattle.em_read.proofs.Groups.{plain_at}
use Rattle.em_read.proofs.path.+plain.Goals as goal

pub plain_path-returns-in_err-inner-in-Group : goal.plain_path-returns-in_err-inner-in-Group
plain_path-returns-in_err-inner-in-Group t c =
    rw (plain_at c.args.groups c.args.input.now.rest.now) (first_of (search rules, grind (arith, common_steps)))

pub plain_path-returns-in_err-segments-in_default : goal.plain_path-returns-in_err-segments-in_default
plain_path-returns-in_err-segments-in_default t c =
    rw (plain_at c.args.groups c.args.input.now.rest.now) (first_of (search rules, grind (arith, common_steps)))

pub plain_path-returns-in_ok-new-in-Group : goal.plain_path-returns-in_ok-new-in-Group
plain_path-returns-in_ok-new-in-Group t c =
    rw (plain_at c.args.groups c.args.input.now.rest.now) (first_of (search rules, grind (arith, common_steps)))

pub plain_path-returns-in_ok-segments-in_default : goal.plain_path-returns-in_ok-segments-in_default
plain_path-returns-in_ok-segments-in_default t c =
    rw (plain_at c.args.groups c.args.input.now.rest.now) (first_of (search rules, grind (arith, common_steps)))
