use Rattle.std.proofs.Common.{◌≡◌, take}
use Rattle.em_parse.specs.Calls.{of_tokens}
use Rattle.em_parse.proofs.calls.pieces_of.Given as goal

abbrev pub invariant-loop-token : goal.invariant-loop-token
invariant-loop-token l = l.pieces ≡ of_tokens (take l.token-index l.tokens)
