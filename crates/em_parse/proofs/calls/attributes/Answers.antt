use Rattle.std.proofs.Common.{rules, arith}
use Rattle.std.proofs.lemmas.Grind.{common_steps}
use Rattle.em_parse.proofs.FileHeads.{heads, only_memory}
use Rattle.em_parse.proofs.calls.attributes.Goals as goal

pub prove-unreachable-requires : goal.prove-unreachable-requires
prove-unreachable-requires g c =
    let e = only_memory c.requires.0 c.in-Err.stop c.args.input.now.rest.now c.file_attributes.new.input.rest.now c.requires.1 c.in-Err.ensures in
    first_of (search rules, grind (arith, common_steps))

pub returns-in-Ok : goal.returns-in-Ok
returns-in-Ok g c = heads c.attributes.ensures.files_exact c.attributes.ensures.files_end c.args.input.now.rest.now c.in-Ok.found c.file_attributes.new.input.rest.now c.in-Ok.ensures
