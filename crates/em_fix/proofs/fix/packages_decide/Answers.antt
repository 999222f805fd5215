use Rattle.em_fix.proofs.Decided.{migrations, refusals}
use Rattle.em_fix.proofs.fix.packages_decide.Goals as goal

pub returns-clause-migrated : goal.returns-clause-migrated
returns-clause-migrated c = migrations (record { lexing = c.lexing_is_one.ensures; excludes = c.list_excludes_fault.ensures; fault = c.fault_is_one.ensures; files = c.answers_are_decided.ensures.files; programs = c.programs_are_files.ensures })

pub returns-clause-refused : goal.returns-clause-refused
returns-clause-refused c = refusals (record { lexing = c.lexing_is_one.ensures; excludes = c.list_excludes_fault.ensures; fault = c.fault_is_one.ensures; files = c.answers_are_decided.ensures.files; programs = c.programs_are_files.ensures })
