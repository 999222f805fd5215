use Rattle.std.proofs.Common.{ap, length, arith}
use Rattle.std.proofs.lemmas.List.{length-drop}
use Rattle.em_disk.proofs.Streams.{appends_more}
use Rattle.em_disk.proofs.stdout_sink.write_through.Goals as goal

pub loop-at-preserved : goal.loop-at-preserved
loop-at-preserved g c = record {
  within = omega (arith, c.in-Ok.ensures.bound, ap length c.rest_from.ensures, length-drop c.loop-at.at c.args.bytes.now);
  written = appends_more _ _ _ _ _ _ _ c.rest_from.ensures c.loop-at.invariant.written c.in-Ok.ensures.bytes;
}
