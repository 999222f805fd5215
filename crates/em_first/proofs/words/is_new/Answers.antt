use Rattle.em_first.proofs.Taken.{first_no, first_yes}
use Rattle.em_first.proofs.words.is_new.Goals as goal

pub returns-then-is_keyword : goal.returns-then-is_keyword
returns-then-is_keyword c = first_yes c.args.name.now c.is_keyword.result c.is_keyword-then-is_keyword.result c.is_keyword.ensures c.if-is_keyword.true c.is_keyword-then-is_keyword.ensures

pub returns-else-is_keyword : goal.returns-else-is_keyword
returns-else-is_keyword c = first_no c.args.name.now c.is_keyword.result c.is_keyword.ensures c.if-is_keyword.false
