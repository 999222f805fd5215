use Rattle.std.proofs.Common.{rules}
use Rattle.em_tree.proofs.Opened.{puts_token, puts_group}
use Rattle.em_tree.proofs.put.+opens.Goals as goal

pub put_piece-returns-in_ok-put-in-Token : goal.put_piece-returns-in_ok-put-in-Token
put_piece-returns-in_ok-put-in-Token t c = puts_token c.args.out.now c.put.new.out c.args.piece.now c.in-Token.token c.in-Token.is (search rules)

pub put_piece-returns-in_ok-put_text-in-Group : goal.put_piece-returns-in_ok-put_text-in-Group
put_piece-returns-in_ok-put_text-in-Group t c = puts_group c.args.out.now c.put_text.new.out c.args.piece.now c.in-Group.group c.in-Group.is (search rules)
