use Rattle.std.proofs.Common.{rules}
use Rattle.em_tree.proofs.Puts.{puts_literal_group, puts_literal_negative, puts_literal_token}
use Rattle.em_tree.proofs.put_type.+literals.Goals as goal

pub returns-in_ok-put-in-Token : goal.returns-in_ok-put-in-Token
returns-in_ok-put-in-Token t c =
    puts_literal_token c.args.out.now c.put.new.out c.args.node.now c.in-Token.part c.in-Token.is (search rules)

pub returns-in_ok-put_literal-in-Negative : goal.returns-in_ok-put_literal-in-Negative
returns-in_ok-put_literal-in-Negative t c =
    puts_literal_negative c.args.out.now c.put-in-Negative.new.out c.put_literal.new.out c.args.node.now c.in-Negative.minus c.in-Negative.value c.in-Negative.is (search rules) (search rules)

pub returns-in_ok-put_literal-in-Group : goal.returns-in_ok-put_literal-in-Group
returns-in_ok-put_literal-in-Group t c =
    puts_literal_group c.args.out.now c.put_literal-in-Group.new.out c.args.node.now _ c.in-Group.inner c.in-Group.is (search rules)
