use Rattle.std.proofs.Common.{◌∙◌, sym, ap}
use Rattle.em_manifest.specs.Lines.{is_header, is_header_text}
use Rattle.em_manifest.proofs.Walks.{walk_on}
use Rattle.em_manifest.proofs.lines.next_header.Goals as goal

pub loop-at-preserved : goal.loop-at-preserved
loop-at-preserved c = walk_on (λ ls. ls) is_header c.args.bytes.now c.args.from c.loop-at.at c.line_at-line.result c.loop-at.invariant c.line_at-line.ensures c.line_at-line.ensures.cut (ap is_header_text (sym c.between.ensures) ∙ sym c.is_header.ensures ∙ c.if-is_header.false)
