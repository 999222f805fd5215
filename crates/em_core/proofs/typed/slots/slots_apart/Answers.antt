use Rattle.std.proofs.Common.{rules}
use Rattle.em_core.proofs.SlotLemmas.{apart_ok, not_above}
use Rattle.em_core.proofs.typed.slots.slots_apart.Goals as goal

pub returns-then-not-all_above : goal.returns-then-not-all_above
returns-then-not-all_above c = not_above c.args.parameters c.args.body.now c.push_listed.new.listed.items (search rules) (search rules)

pub returns : goal.returns
returns c = apart_ok c.args.parameters c.args.body.now c.push_listed.new.listed.items c.all_different.result (search rules) (search rules) (search rules)
