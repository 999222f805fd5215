use Rattle.std.proofs.Common.{◌≡◌, ◌<◌, IfOk, sym, subst, arith}
use Rattle.em_macro.specs.Starters.{decides}
use Rattle.em_macro.proofs.Turns.{deeper}
use Rattle.em_macro.proofs.deciding.+decides.Goals as goal

pub decides-returns : goal.decides-returns
unfolding decides
decides-returns t c =
    let some : 0 < c.args.depth = omega arith in
    subst (λ x. IfOk c.decides_all.result (λ b. b ≡ x)) (sym (deeper (λ n. decides n c.args.matchers.now c.args.follow.now) c.args.depth some)) c.decides_all.ensures
