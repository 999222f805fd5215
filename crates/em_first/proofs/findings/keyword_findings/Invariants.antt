use Rattle.std.proofs.Common.{◌≡◌, ◌++◌, drop}
use Rattle.em_first.specs.Keyword.{findings}
use Rattle.em_first.proofs.findings.keyword_findings.Given as goal

abbrev pub invariant-loop-token : goal.invariant-loop-token
invariant-loop-token l = findings l.tokens.list ≡ l.found ++ findings (drop l.token-index l.token-items)
