use Rattle.std.proofs.Common.{rules}
use Rattle.em_tree.proofs.Puts.{puts_top_pat_alternatives, puts_top_pat_group}
use Rattle.em_tree.proofs.put_pat.+top_pats.Goals as goal

pub returns-in_ok-put_alternatives-in-Alternatives : goal.returns-in_ok-put_alternatives-in-Alternatives
returns-in_ok-put_alternatives-in-Alternatives t c =
    puts_top_pat_alternatives c.args.out.now c.put_alternatives.new.out c.args.node.now c.in-Alternatives.part c.in-Alternatives.is (search rules)

pub returns-in_ok-put_top_pat-in-Group : goal.returns-in_ok-put_top_pat-in-Group
returns-in_ok-put_top_pat-in-Group t c =
    puts_top_pat_group c.args.out.now c.put_top_pat.new.out c.args.node.now _ c.in-Group.inner c.in-Group.is (search rules)
