use Rattle.std.proofs.Common.{◌≡◌, ◌<◌, ap, sym, arith}
use Rattle.em_macro.specs.Match.{first}
use Rattle.em_macro.proofs.Turns.{deeper}
use Rattle.em_macro.proofs.starting.+first.Goals as goal

pub first-returns-then-depth-eq0 : goal.first-returns-then-depth-eq0
unfolding first
first-returns-then-depth-eq0 t c =
    let none : c.args.depth ≡ 0 = omega arith in sym (ap (λ n. first n c.args.matchers.now c.args.pieces.now) none)

pub first-loop-matcher-init : goal.first-loop-matcher-init
unfolding first
first-loop-matcher-init t c =
    let some : 0 < c.args.depth = omega arith in
    (some, deeper (λ n. first n c.args.matchers.now c.args.pieces.now) c.args.depth some)
