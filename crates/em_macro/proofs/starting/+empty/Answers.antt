use Rattle.std.proofs.Common.{◌≡◌, ◌<◌, ap, sym, arith}
use Rattle.em_macro.specs.Match.{can_be_empty}
use Rattle.em_macro.proofs.Turns.{deeper}
use Rattle.em_macro.proofs.starting.+empty.Goals as goal

pub can_be_empty-returns-then-depth-eq0 : goal.can_be_empty-returns-then-depth-eq0
unfolding can_be_empty
can_be_empty-returns-then-depth-eq0 t c = let none : c.args.depth ≡ 0 = omega arith in sym (ap (λ n. can_be_empty n c.args.matchers.now) none)

pub can_be_empty-loop-matcher-init : goal.can_be_empty-loop-matcher-init
unfolding can_be_empty
can_be_empty-loop-matcher-init t c =
    let some : 0 < c.args.depth = omega arith in
    (some, deeper (λ n. can_be_empty n c.args.matchers.now) c.args.depth some)
