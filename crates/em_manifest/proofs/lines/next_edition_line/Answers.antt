use Rattle.std.proofs.Common.{◌∙◌, sym, ap, List, ℕ, Bool, is_some}
use Rattle.em_manifest.specs.Lines.{is_edition_line, own_lines, year_on, begins_table_text}
use Rattle.em_manifest.proofs.Walks.{walk_on, own_kept}
use Rattle.em_manifest.proofs.lines.next_edition_line.Goals as goal

abbrev is_edition_text : List ℕ → Bool
is_edition_text text = is_some (year_on text)

pub loop-at-preserved : goal.loop-at-preserved
loop-at-preserved c =
    let kept = own_kept c.args.bytes.now c.loop-at.at c.line_at-line.result c.line_at-line.ensures (ap begins_table_text (sym c.between-text.ensures) ∙ sym c.begins_table.ensures ∙ c.if-begins_table.false) in
    walk_on own_lines is_edition_line c.args.bytes.now c.args.from c.loop-at.at c.line_at-line.result c.loop-at.invariant c.line_at-line.ensures kept (ap is_edition_text (sym c.between-text.ensures) ∙ sym c.is_edition_line.ensures ∙ c.if-is_edition_line.false)
