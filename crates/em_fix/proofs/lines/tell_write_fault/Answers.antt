use Rattle.em_fix.proofs.lines.tell_write_fault.Goals as goal

pub returns-clause-bytes : goal.returns-clause-bytes
returns-clause-bytes g c = rw (← c.as_bytes.ensures) c.write_pieces.ensures.bytes
