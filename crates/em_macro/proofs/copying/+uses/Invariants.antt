use Rattle.std.proofs.Common.{◌≡◌, ◌-◌, ◌<◌, ◌++◌, drop}
use Rattle.em_macro.specs.Write.{uses, uses_all}
use Rattle.em_macro.proofs.copying.+uses.Given as goal

abbrev pub invariant-uses-loop-transcriber : goal.invariant-uses-loop-transcriber
invariant-uses-loop-transcriber l =
    (0 < l.depth) × (l.fn.found ++ uses l.depth l.transcribers ≡ l.found ++ uses_all (uses (l.depth - 1)) (drop l.transcriber-index l.transcribers))
