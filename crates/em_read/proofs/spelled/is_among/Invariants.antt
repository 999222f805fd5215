use Rattle.std.proofs.Common.{◌≡◌, map, drop}
use Rattle.em_base.specs.Words.{is_among}
use Rattle.em_read.proofs.spelled.is_among.Given as goal

abbrev pub invariant-loop-word : goal.invariant-loop-word
invariant-loop-word l = is_among (map (λ w. w.now) l.list) l.text ≡ is_among (map (λ w. w.now) (drop l.word-index l.list)) l.text
