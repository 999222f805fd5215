use Rattle.std.proofs.Common.{◌≡◌, ◌-◌, ◌<◌, drop}
use Rattle.em_macro.specs.Write.{uses}
use Rattle.em_macro.specs.Measure.{count_copies, count_all, counted}
use Rattle.em_macro.proofs.measuring.+count.Given as goal

abbrev pub invariant-count-loop-transcriber : goal.invariant-count-loop-transcriber
invariant-count-loop-transcriber l =
    (0 < l.depth) × (counted l.depth l.transcribers l.bindings l.total
    ≡ count_all (uses (l.depth - 1)) (counted (l.depth - 1)) (drop l.transcriber-index l.transcribers) l.bindings l.sum)

abbrev pub invariant-count_copies-loop-k : goal.invariant-count_copies-loop-k
invariant-count_copies-loop-k l =
    count_copies (uses l.depth) (counted l.depth) l.copies 0 l.body l.separator l.bindings l.total
    ≡ count_copies (uses l.depth) (counted l.depth) (l.copies - l.k) l.k l.body l.separator l.bindings l.sum
