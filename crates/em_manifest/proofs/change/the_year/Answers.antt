use Rattle.std.proofs.Common.{drop}
use Rattle.em_manifest.proofs.Only.{none_only, more_of, year_of_none, year_of_one}
use Rattle.em_manifest.specs.Lines.{is_edition_line, own_lines, lines}
use Rattle.em_manifest.proofs.change.the_year.Goals as goal

pub returns-in_default-clause-value : goal.returns-in_default-clause-value
returns-in_default-clause-value c = year_of_none c.args.bytes.now c.args.from (none_only is_edition_line (own_lines (lines (drop c.args.from c.args.bytes.now))) c.in_default.ensures)

pub returns-in-Some-next_edition_line-clause-value :
    goal.returns-in-Some-next_edition_line-clause-value
returns-in-Some-next_edition_line-clause-value c =
    year_of_none c.args.bytes.now c.args.from (more_of is_edition_line _ _ _ c.args.bytes.now c.args.from _ _ _ c.in-Some.ensures c.in-Some-next_edition_line.ensures)

pub returns-in-None-clause-value : goal.returns-in-None-clause-value
returns-in-None-clause-value c =
    year_of_one c.args.bytes.now c.args.from c.in-Some.line _ c.in-Some.ensures c.in-None.ensures c.before_year.result (c.before_year.ensures.value c.in-Some.ensures.passes)
