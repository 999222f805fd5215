use Rattle.std.proofs.Common.{◌<◌, ◌+◌, ◌-◌, ◌/◌, length, arith, sym, ◌∙◌}
use Rattle.em_base.specs.Words.{texts}
use Rattle.em_base.proofs.Tables.{there, not_there, less_up_to, greater_from, length-texts}
use Rattle.em_base.proofs.words.find.Goals as goal

pub halves-init : goal.halves-init
halves-init c = record { ordered = omega arith; within = omega (arith, length-texts c.args.table.now); less = λ k h. absurd (omega arith); greater = λ k h w. absurd (omega (arith, length-texts c.args.table.now)) }

pub returns-in-Equal-clause-found : goal.returns-in-Equal-clause-found
returns-in-Equal-clause-found c =
    let l = c.halves in
    let m = l.low + (l.high - l.low) / 2 in
    let within : m < length (texts c.args.table.now) = omega (arith, l.invariant.within, c.halves-test.true) in
    there (texts c.args.table.now) c.args.text.now m within (sym c.order_at.ensures ∙ c.in-Equal.is)

pub halves-preserved-in-Less : goal.halves-preserved-in-Less
halves-preserved-in-Less c =
    let l = c.halves in
    let m = l.low + (l.high - l.low) / 2 in
    let within : m < length (texts c.args.table.now) = omega (arith, l.invariant.within, c.halves-test.true) in
    record {
      ordered = omega (arith, c.halves-test.true);
      within = l.invariant.within;
      less = less_up_to (texts c.args.table.now) c.args.text.now m c.requires within (sym c.order_at.ensures ∙ c.in-Less.is);
      greater = l.invariant.greater;
    }

pub halves-preserved : goal.halves-preserved
halves-preserved c =
    let l = c.halves in
    let m = l.low + (l.high - l.low) / 2 in
    record {
      ordered = omega (arith, c.halves-test.true);
      within = omega (arith, l.invariant.within, c.halves-test.true);
      less = l.invariant.less;
      greater = greater_from (texts c.args.table.now) c.args.text.now m c.requires (sym c.order_at.ensures ∙ c.in-Greater.is);
    }

pub returns-clause-absent : goal.returns-clause-absent
returns-clause-absent c found = not_there (texts c.args.table.now) c.args.text.now c.halves.low c.halves.high c.halves.invariant c.halves-test.false found.0 found.1 found.2
