use Rattle.std.proofs.Common.{◌≡◌, ◌<◌, IfOk, sym, subst, arith}
use Rattle.em_macro.specs.Starters.{followed}
use Rattle.em_macro.proofs.Turns.{deeper}
use Rattle.em_macro.proofs.deciding.+followed.Goals as goal

pub followed-returns : goal.followed-returns
unfolding followed
followed-returns t c =
    let some : 0 < c.args.depth = omega arith in
    subst (λ x. IfOk c.followed_all.result (λ b. b ≡ x)) (sym (deeper (λ n. followed n c.args.matchers.now c.args.follow.now) c.args.depth some)) c.followed_all.ensures
