use Rattle.em_fix.proofs.Fixed.{write_fault_carried, write_fault_told}
use Rattle.em_fix.proofs.fix.carry_out.Goals as goal

pub returns-in-Err-clause-carried : goal.returns-in-Err-clause-carried
returns-in-Err-clause-carried g c =
    write_fault_carried _ _ c.args.migration.now.report _ _ _ c.index-changes-which.result _ _ _ _ c.as_slice-changes.ensures c.in-Err.ensures.part c.index-changes-which.is c.tell_write_fault.ensures.bytes

pub returns-in-Err-clause-tells : goal.returns-in-Err-clause-tells
returns-in-Err-clause-tells g c =
    write_fault_told _ _ _ c.index-changes-which.result _ _ _ _ c.requires.own c.as_slice-changes.ensures c.in-Err.ensures.part.0 c.index-changes-which.is c.tell_write_fault.ensures.bytes
