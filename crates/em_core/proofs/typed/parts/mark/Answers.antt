use Rattle.std.proofs.Common.{rules}
use Rattle.em_core.proofs.PartLemmas.{marked_here, none_at, right_at, fewer_missing}
use Rattle.em_core.proofs.typed.parts.mark.Goals as goal

pub returns-then-is_marked-clause-whole : goal.returns-then-is_marked-clause-whole
returns-then-is_marked-clause-whole c = marked_here _ _ _ _ (search rules)

pub returns-then-not-def_finds-clause-whole : goal.returns-then-not-def_finds-clause-whole
returns-then-not-def_finds-clause-whole c = none_at _ _ _ _ c.index-as_slice-at.result c.requires.within (search rules) (search rules)

pub returns-clause-right : goal.returns-clause-right
returns-clause-right c = λ right. right_at _ _ _ _ c.index-as_slice-at.result c.requires.within (search rules) (search rules) right

pub returns-clause-fewer : goal.returns-clause-fewer
returns-clause-fewer c = fewer_missing c.args.found.now c.args.at (search rules) (search rules)
