use Rattle.std.proofs.Common.{◌≡◌, ◌<◌, ◌++◌, ap, sym, ◌∙◌, arith}
use Rattle.std.proofs.lemmas.List.{append-nil}
use Rattle.em_macro.specs.Write.{uses}
use Rattle.em_macro.proofs.Turns.{deeper}
use Rattle.em_macro.proofs.copying.+uses.Goals as goal

pub uses-returns-then-depth-eq0 : goal.uses-returns-then-depth-eq0
unfolding uses
uses-returns-then-depth-eq0 t c =
    let none : c.args.depth ≡ 0 = omega arith in sym (ap (λ n. c.args.found.now ++ uses n c.args.transcribers.now) none ∙ append-nil c.args.found.now)

pub uses-loop-transcriber-init : goal.uses-loop-transcriber-init
unfolding uses
uses-loop-transcriber-init t c =
    let some : 0 < c.args.depth = omega arith in
    (some, deeper (λ n. c.args.found.now ++ uses n c.args.transcribers.now) c.args.depth some)
