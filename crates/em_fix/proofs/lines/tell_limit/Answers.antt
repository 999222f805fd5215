use Rattle.std.proofs.Common.{◌∙◌, ap}
use Rattle.std.specs.Fmt.{decimal}
use Rattle.em_fix.proofs.Written.{limit_written}
use Rattle.em_fix.proofs.lines.tell_limit.Goals as goal

pub returns-clause-bytes : goal.returns-clause-bytes
returns-clause-bytes g c =
    limit_written _ _ _ _ c.args.limit c.as_bytes.result.now c.as_bytes-2.result.now (c.as_bytes.ensures.value ∙ c.limit_name.ensures) (c.as_bytes-2.ensures.value ∙ c.format-number.ensures.text ∙ ap decimal c.limit_number.ensures) c.write_pieces.ensures.bytes
