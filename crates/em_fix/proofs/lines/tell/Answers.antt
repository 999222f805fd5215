use Rattle.em_fix.proofs.lines.tell.Goals as goal

pub returns-in-ReadFault-clause-bytes : goal.returns-in-ReadFault-clause-bytes
returns-in-ReadFault-clause-bytes g c = rw (c.in-ReadFault.is, ← c.as_bytes.ensures) c.write_pieces-in-ReadFault.ensures.bytes

pub returns-in-NotAccepted-clause-bytes : goal.returns-in-NotAccepted-clause-bytes
returns-in-NotAccepted-clause-bytes g c = rw (c.in-NotAccepted.is) c.tell_fault.ensures.bytes
