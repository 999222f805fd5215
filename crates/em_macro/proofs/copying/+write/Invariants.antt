use Rattle.std.proofs.Common.{◌≡◌, ◌-◌, ◌<◌, drop}
use Rattle.em_macro.specs.Write.{uses, copies, write_all, written}
use Rattle.em_macro.proofs.copying.+write.Given as goal

abbrev pub invariant-write-loop-transcriber : goal.invariant-write-loop-transcriber
invariant-write-loop-transcriber l =
    (0 < l.depth) × (written l.mark l.depth l.transcribers l.bindings l.fn.out
    ≡ write_all l.mark (uses (l.depth - 1)) (written l.mark (l.depth - 1)) (drop l.transcriber-index l.transcribers) l.bindings l.out)

abbrev pub invariant-copies-loop-k : goal.invariant-copies-loop-k
invariant-copies-loop-k l =
    copies l.mark (uses l.depth) (written l.mark l.depth) l.count 0 l.body l.separator l.bindings l.fn.out
    ≡ copies l.mark (uses l.depth) (written l.mark l.depth) (l.count - l.k) l.k l.body l.separator l.bindings l.out
