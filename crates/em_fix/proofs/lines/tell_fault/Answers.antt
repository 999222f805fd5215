use Rattle.std.proofs.Common.{◌∙◌}
use Rattle.em_fix.proofs.Written.{lex_written, parse_written}
use Rattle.em_fix.proofs.lines.tell_fault.Goals as goal

pub returns-in-Lex-clause-bytes : goal.returns-in-Lex-clause-bytes
returns-in-Lex-clause-bytes g c =
    rw (c.in-Lex.is) (lex_written _ _ _ _ c.args.place.now c.in-Lex.kind c.as_bytes-offset.result.now c.as_bytes-kind.result.now (c.as_bytes-offset.ensures.value ∙ c.format.ensures.text) (c.as_bytes-kind.ensures.value ∙ c.lex_kind_name.ensures) c.write_pieces.ensures.bytes)

pub returns-in-Parse-clause-bytes : goal.returns-in-Parse-clause-bytes
returns-in-Parse-clause-bytes g c =
    rw (c.in-Parse.is) (parse_written _ _ _ _ c.args.place.now c.as_bytes-offset.result.now (c.as_bytes-offset.ensures.value ∙ c.format.ensures.text) c.write_pieces-in-Parse.ensures.bytes)
