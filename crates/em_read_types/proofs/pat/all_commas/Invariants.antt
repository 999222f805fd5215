use Rattle.std.proofs.Common.{◌≡◌, drop}
use Rattle.em_grammar.specs.PatReader.{all_commas}
use Rattle.em_read_types.proofs.pat.all_commas.Given as goal

abbrev pub invariant-loop-field : goal.invariant-loop-field
invariant-loop-field l = all_commas l.fields ≡ all_commas (drop l.field-index l.fields)
