use Rattle.std.proofs.Common.{◌∙◌, sym, ap, arith}
use Rattle.em_manifest.proofs.FormLemmas.{no_long_quote}
use Rattle.em_manifest.specs.Lines.{begins_long_quote}
use Rattle.em_manifest.proofs.forms.has_long_quote.Goals as goal

pub loop-i-preserved : goal.loop-i-preserved
loop-i-preserved c =
    let none = no_long_quote c.args.text.now c.loop-i.i (omega arith) in
    c.loop-i.invariant ∙ none (ap begins_long_quote (sym c.rest_from.ensures) ∙ sym c.begins_long_quote.ensures ∙ c.if-begins_long_quote.false)
