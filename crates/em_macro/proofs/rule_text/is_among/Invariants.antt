use Rattle.std.proofs.Common.{◌≡◌, drop}
use Rattle.em_base.specs.Words.{is_among}
use Rattle.em_macro.proofs.rule_text.is_among.Given as goal

abbrev pub invariant-loop-one : goal.invariant-loop-one
invariant-loop-one l = is_among l.names l.name ≡ is_among (drop l.one-index l.names) l.name
