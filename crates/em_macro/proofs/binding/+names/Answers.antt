use Rattle.std.proofs.Common.{◌≡◌, ◌<◌, ◌++◌, ap, sym, ◌∙◌, arith}
use Rattle.std.proofs.lemmas.List.{append-nil}
use Rattle.em_macro.specs.Match.{names}
use Rattle.em_macro.proofs.Turns.{deeper}
use Rattle.em_macro.proofs.binding.+names.Goals as goal

pub names-returns-then-depth-eq0 : goal.names-returns-then-depth-eq0
unfolding names
names-returns-then-depth-eq0 t c =
    let none : c.args.depth ≡ 0 = omega arith in sym (ap (λ n. c.args.found.now ++ names n c.args.matchers.now) none ∙ append-nil c.args.found.now)

pub names-loop-matcher-init : goal.names-loop-matcher-init
unfolding names
names-loop-matcher-init t c =
    let some : 0 < c.args.depth = omega arith in
    (some, deeper (λ n. c.args.found.now ++ names n c.args.matchers.now) c.args.depth some)
