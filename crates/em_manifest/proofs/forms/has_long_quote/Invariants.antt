use Rattle.std.proofs.Common.{◌≡◌, drop}
use Rattle.em_manifest.specs.Lines.{has_long_quote}
use Rattle.em_manifest.proofs.forms.has_long_quote.Given as goal

abbrev pub invariant-loop-i : goal.invariant-loop-i
invariant-loop-i l = has_long_quote l.text ≡ has_long_quote (drop l.i l.text)
