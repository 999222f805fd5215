use Rattle.std.proofs.Common.{ap, sym, ◌∙◌}
use Rattle.std.specs.Option.{option_map}
use Rattle.em_base.specs.Words.{texts}
use Rattle.em_tree.specs.Starts.{is_one_of}
use Rattle.em_tree.proofs.Tables.{searched}
use Rattle.em_tree.proofs.start_sets.is_spelled.Goals as goal

pub returns-in-Some : goal.returns-in-Some
returns-in-Some c =
    c.is_some.ensures ∙ searched (texts c.args.table.now) c.in-Some.text.now c.find.result c.find.ensures.found c.find.ensures.absent
    ∙ ap (λ o. is_one_of (texts c.args.table.now) o) (ap (option_map (λ s. s.now)) (sym c.in-Some.is) ∙ c.spelling.ensures)
