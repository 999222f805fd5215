use Rattle.std.proofs.Common.{sym, ap, ◌∙◌}
use Rattle.em_base.specs.Words.{class_of}
use Rattle.em_base.proofs.Tables.{found_within, text_found}
use Rattle.em_base.proofs.Classes.{listed_at, class_unfound}
use Rattle.em_base.proofs.words.keyword_in.Goals as goal

pub class_at-requires : goal.class_at-requires
class_at-requires c =
    let table = c.keywords-table in
    let at = c.in-Some.ensures.found in
    listed_at table.result c.in-Some.index _ table.ensures.listed (found_within table.result c.in-Some.index _ at)

pub returns-in-None : goal.returns-in-None
returns-in-None c =
    let table = c.keywords-table in
    sym (ap (λ t. class_of c.args.edition t) (sym c.as_str.ensures) ∙ class_unfound table.result c.args.edition c.as_str.result.now table.ensures.whole c.in-None.ensures.absent)

pub returns-in-Some : goal.returns-in-Some
returns-in-Some c =
    let table = c.keywords-table in
    c.class_at.ensures ∙ ap (λ t. class_of c.args.edition t) (text_found table.result c.in-Some.index c.as_str.result.now _ c.in-Some.ensures.found ∙ c.as_str.ensures)
