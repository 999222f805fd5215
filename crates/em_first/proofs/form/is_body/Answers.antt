use Rattle.std.proofs.Common.{sym, ◌∙◌}
use Rattle.em_first.proofs.Walk.{asked, started, let_step, print_step, unbound, ended, let_shorter, print_shorter}
use Rattle.em_first.proofs.form.is_body.Goals as goal

pub statements-init : goal.statements-init
statements-init c = started c.new-names.result.keys c.args.tokens.now c.new-names.ensures.empty

pub statements-preserved-in-Some : goal.statements-preserved-in-Some
statements-preserved-in-Some c = let_step c.statements.names.keys c.insert.new.self.keys c.args.tokens.now c.statements.rest.now c.in-Some.after.now c.as_str.result c.in-Some.name.now c.statements.invariant c.in-Some.ensures c.as_str.ensures c.in_ok-insert.ensures.keys

pub statements-smaller-in-Some : goal.statements-smaller-in-Some
statements-smaller-in-Some c = let_shorter c.statements.rest.now c.in-Some.after.now c.in-Some.name.now c.in-Some.ensures

pub statements-preserved : goal.statements-preserved
statements-preserved c = print_step c.statements.names.keys c.args.tokens.now c.statements.rest.now c.in-Some-print_first.after.now c.in-Some-print_first.name.now c.statements.invariant c.in-Some-print_first.ensures (asked c.statements.names.keys c.as_str-in-Some-print_first.result.now c.in-Some-print_first.name.now _ c.as_str-in-Some-print_first.ensures (sym c.contains.ensures ∙ c.if-not-contains.false))

pub statements-smaller : goal.statements-smaller
statements-smaller c = print_shorter c.statements.rest.now c.in-Some-print_first.after.now c.in-Some-print_first.name.now c.in-Some-print_first.ensures

pub returns-then-not-contains : goal.returns-then-not-contains
returns-then-not-contains c = unbound c.statements.names.keys c.args.tokens.now c.statements.rest.now c.in-Some-print_first.after.now c.in-Some-print_first.name.now c.statements.invariant c.in-Some-print_first.ensures (asked c.statements.names.keys c.as_str-in-Some-print_first.result.now c.in-Some-print_first.name.now _ c.as_str-in-Some-print_first.ensures (sym c.contains.ensures ∙ c.if-not-contains.true))

pub returns-in_default-print_first : goal.returns-in_default-print_first
returns-in_default-print_first c = ended c.statements.names.keys c.args.tokens.now c.statements.rest.now c.is_end.result c.statements.invariant c.in_default.ensures c.in_default-print_first.ensures c.is_end.ensures
