use Rattle.std.proofs.Common.{rules, arith}
use Rattle.std.proofs.lemmas.Grind.{common_steps}
use Rattle.em_read.specs.Parse.{allowed}
use Rattle.em_read.proofs.Groups.{unsigned_at}
use Rattle.em_read.proofs.literal.+literals.Goals as goal

pub unsigned-returns-in_err-inner-in-Group : goal.unsigned-returns-in_err-inner-in-Group
unsigned-returns-in_err-inner-in-Group t c =
    rw (unsigned_at (allowed c.args.which) c.args.groups c.args.input.now.rest.now) (first_of (search rules, grind (arith, common_steps)))

pub unsigned-returns-in_ok-found-in-Token : goal.unsigned-returns-in_ok-found-in-Token
unsigned-returns-in_ok-found-in-Token t c =
    rw (unsigned_at (allowed c.args.which) c.args.groups c.args.input.now.rest.now) (first_of (search rules, grind (arith, common_steps)))

pub unsigned-returns-in_ok-new-in-Group : goal.unsigned-returns-in_ok-new-in-Group
unsigned-returns-in_ok-new-in-Group t c =
    rw (unsigned_at (allowed c.args.which) c.args.groups c.args.input.now.rest.now) (first_of (search rules, grind (arith, common_steps)))

pub unsigned-returns-in_default : goal.unsigned-returns-in_default
unsigned-returns-in_default t c =
    rw (unsigned_at (allowed c.args.which) c.args.groups c.args.input.now.rest.now) (first_of (search rules, grind (arith, common_steps)))
