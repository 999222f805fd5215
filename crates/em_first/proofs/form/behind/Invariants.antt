use Rattle.std.proofs.Common.{◌≡◌, map, drop}
use Rattle.em_first.specs.Reading.{behind}
use Rattle.em_first.proofs.form.behind.Given as goal

abbrev pub invariant-loop-word : goal.invariant-loop-word
invariant-loop-word l = behind (map (λ w. w.now) l.words) l.tokens ≡ behind (map (λ w. w.now) (drop l.word-index l.words)) l.rest
