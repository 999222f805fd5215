use Rattle.em_edit.proofs.PlaceOrder.{up_to_from_le, le_from_up_to, up_to_from_not_less}
use Rattle.em_edit.proofs.ends.last_up_to.Goals as goal

pub returns-in-Some : goal.returns-in-Some
returns-in-Some c =
    let inside = c.range.ensures.in_range tt in
    let last = inside.3 _ _ c.in-Some.ensures.steps in
    record {
      entry = last.1;
      up_to = up_to_from_le c.in-Some.start.now c.args.place last.0.1;
      latest = λ q up_to held. up_to_from_not_less c.in-Some.start.now q (inside.4 _ _ c.in-Some.ensures.steps q (tt, le_from_up_to q c.args.place up_to) held);
    }

pub returns-in-None : goal.returns-in-None
returns-in-None c = λ q up_to. (c.range.ensures.in_range tt).5 c.in-None.ensures.steps.0 q (tt, le_from_up_to q c.args.place up_to)
