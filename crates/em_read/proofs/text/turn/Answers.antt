use Rattle.std.proofs.Common.{refl, rules}
use Rattle.em_read.proofs.Texts.{turn_opens}
use Rattle.em_read.proofs.text.turn.Goals as goal

pub returns-in_ok-push-in-Opens : goal.returns-in_ok-push-in-Opens
returns-in_ok-push-in-Opens c =
    turn_opens c.args.token.now c.args.unclosed.now (record { outer = c.push.new.self; inner = c.in-Opens.shape }) c.in-Opens.shape (search rules) (search rules) refl
