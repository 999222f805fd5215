use Rattle.std.proofs.Common.{◌≡◌, List, ◌<◌, ◌-◌, ◌++◌, drop, ap, sym, ◌∙◌, Err, rules, arith}
use Rattle.std.proofs.lemmas.Grind.{common_steps}
use Rattle.std.proofs.lemmas.List.{drop_all, append-nil}
use Rattle.em_macro.specs.Match.{Bindings, names, first}
use Rattle.em_macro.specs.Run.{run, copies}
use Rattle.em_macro.specs.Reads.{fragments_of, log, log_all, log_copies}
use Rattle.em_macro.proofs.Turns.{one_more, no_more, deeper}
use Rattle.em_macro.proofs.Passing.{all_goes, all_stops, all_ends, copies_stop, gives_by, begins}
use Rattle.em_macro.proofs.Putting.{puts_as, puts_moved, log_goes, log_stops, log_ends, copy_goes, copy_ends, copy_stops, copy_none}
use Rattle.em_macro.proofs.matching.+run.Goals as goal

pub run-returns-then-depth-eq0 : goal.run-returns-then-depth-eq0
unfolding run log
run-returns-then-depth-eq0 g t c =
    let none : c.args.depth ≡ 0 = omega arith in
    record {
      gives = ap (λ n. run g.F.Fragments.reads n c.args.matchers.now (drop c.args.at.now c.args.pieces.now)) none;
      puts = sym (ap (λ n. c.args.read.now ++ fragments_of (log g.F.Fragments.reads n c.args.matchers.now (drop c.args.at.now c.args.pieces.now))) none ∙ append-nil c.args.read.now);
    }

pub run-loop-matcher-init : goal.run-loop-matcher-init
unfolding run log
run-loop-matcher-init g t c =
    let some : 0 < c.args.depth = omega arith in (
      some,
      deeper (λ n. run g.F.Fragments.reads n c.args.matchers.now (drop c.args.at.now c.args.pieces.now)) c.args.depth some ∙ begins _ _ c.new-found.ensures,
      deeper (λ n. c.args.read.now ++ fragments_of (log g.F.Fragments.reads n c.args.matchers.now (drop c.args.at.now c.args.pieces.now))) c.args.depth some,
    )

pub run-returns-in_err-more : goal.run-returns-in_err-more
run-returns-in_err-more g t c =
    let is : c.from_residual.result ≡ Err c.in_err-more.field-0.0 = first_of (search rules, grind (arith, common_steps)) in
    let e = all_stops g.F.Fragments.reads (names (c.args.depth - 1)) (first (c.args.depth - 1)) (run g.F.Fragments.reads (c.args.depth - 1))
    c.args.matchers.now c.loop-matcher.matcher-index c.matcher-item.result (drop c.loop-matcher.at c.args.pieces.now) (drop c.node.new.at c.args.pieces.now) c.loop-matcher.found c.in_err-more.field-0.0
    (search rules) (search rules) c.in_err-more.ensures.gives in
    record {
      gives = gives_by (run g.F.Fragments.reads c.args.depth c.args.matchers.now (drop c.args.at.now c.args.pieces.now)) _ c.from_residual.result c.in_err-more.field-0.0 (drop c.node.new.at c.args.pieces.now) c.loop-matcher.invariant.1 is e;
      puts = puts_as (log g.F.Fragments.reads c.args.depth c.args.matchers.now (drop c.args.at.now c.args.pieces.now)) c.args.read.now c.node.new.read c.from_residual.result c.in_err-more.field-0.0 is
          (puts_moved Bindings c.in_err-more.field-0.0 (log g.F.Fragments.reads c.args.depth c.args.matchers.now (drop c.args.at.now c.args.pieces.now))
          (log_all g.F.Fragments.reads (names (c.args.depth - 1)) (first (c.args.depth - 1)) (run g.F.Fragments.reads (c.args.depth - 1)) (log g.F.Fragments.reads (c.args.depth - 1)) (drop c.loop-matcher.matcher-index c.args.matchers.now) (drop c.loop-matcher.at c.args.pieces.now)) c.args.read.now c.loop-matcher.read c.node.new.read c.loop-matcher.invariant.2
          (log_stops g.F.Fragments.reads (names (c.args.depth - 1)) (first (c.args.depth - 1)) (run g.F.Fragments.reads (c.args.depth - 1)) (log g.F.Fragments.reads (c.args.depth - 1)) Bindings c.args.matchers.now c.loop-matcher.matcher-index c.matcher-item.result (drop c.loop-matcher.at c.args.pieces.now) (drop c.node.new.at c.args.pieces.now) c.loop-matcher.read c.node.new.read c.in_err-more.field-0.0
          (search rules) (search rules) c.in_err-more.ensures.gives c.in_err-more.ensures.puts));
    }

pub run-loop-matcher-preserved : goal.run-loop-matcher-preserved
run-loop-matcher-preserved g t c =
    let e = all_goes g.F.Fragments.reads (names (c.args.depth - 1)) (first (c.args.depth - 1)) (run g.F.Fragments.reads (c.args.depth - 1))
    c.args.matchers.now c.loop-matcher.matcher-index c.matcher-item.result (drop c.loop-matcher.at c.args.pieces.now) (drop c.node.new.at c.args.pieces.now) c.loop-matcher.found c.in_ok-more.more c.append.new.self
    (search rules) (search rules) (search rules) (search rules) in (
      c.loop-matcher.invariant.0,
      c.loop-matcher.invariant.1 ∙ e,
      c.loop-matcher.invariant.2
          ∙ log_goes g.F.Fragments.reads (names (c.args.depth - 1)) (first (c.args.depth - 1)) (run g.F.Fragments.reads (c.args.depth - 1)) (log g.F.Fragments.reads (c.args.depth - 1)) c.args.matchers.now c.loop-matcher.matcher-index c.matcher-item.result (drop c.loop-matcher.at c.args.pieces.now) (drop c.node.new.at c.args.pieces.now) c.in_ok-more.more c.loop-matcher.read c.node.new.read (search rules) (search rules) (search rules) (search rules),
    )

pub run-returns : goal.run-returns
run-returns g t c =
    let none = drop_all c.loop-matcher.matcher-index c.args.matchers.now (search rules) in
    let e = all_ends g.F.Fragments.reads (names (c.args.depth - 1)) (first (c.args.depth - 1)) (run g.F.Fragments.reads (c.args.depth - 1))
    c.args.matchers.now c.loop-matcher.matcher-index (drop c.loop-matcher.at c.args.pieces.now) c.loop-matcher.found none in
    record {
      gives = c.loop-matcher.invariant.1 ∙ e;
      puts = sym (c.loop-matcher.invariant.2 ∙ log_ends g.F.Fragments.reads (names (c.args.depth - 1)) (first (c.args.depth - 1)) (run g.F.Fragments.reads (c.args.depth - 1)) (log g.F.Fragments.reads (c.args.depth - 1)) c.args.matchers.now c.loop-matcher.matcher-index (drop c.loop-matcher.at c.args.pieces.now) c.loop-matcher.read none);
    }

pub copies-returns-in_err-copy : goal.copies-returns-in_err-copy
copies-returns-in_err-copy g t c =
    let is : c.from_residual.result ≡ Err c.in_err-copy.field-0.0 = first_of (search rules, grind (arith, common_steps)) in
    let e = one_more (λ n. copies g.F.Fragments.reads (names c.args.depth) (first c.args.depth) (run g.F.Fragments.reads c.args.depth) n c.args.body.now c.args.separator.now c.loop-turn.found (drop c.loop-turn.at c.args.pieces.now)) _ c.loop-turn._turn c.loop-turn-test.true c.loop-turn.invariant.0 in
    let e2 = one_more (λ n. c.loop-turn.read ++ fragments_of (log_copies g.F.Fragments.reads (names c.args.depth) (first c.args.depth) (run g.F.Fragments.reads c.args.depth) (log g.F.Fragments.reads c.args.depth) n c.args.body.now c.args.separator.now (drop c.loop-turn.at c.args.pieces.now))) _ c.loop-turn._turn c.loop-turn-test.true c.loop-turn.invariant.1 in
    record {
      gives = gives_by _ _ c.from_residual.result c.in_err-copy.field-0.0 (drop c.run.new.at c.args.pieces.now) e is
          (copies_stop g.F.Fragments.reads (names c.args.depth) (first c.args.depth) (run g.F.Fragments.reads c.args.depth) _ c.args.body.now c.args.separator.now c.loop-turn.found
          (drop c.loop-turn.at c.args.pieces.now) (drop c.run.new.at c.args.pieces.now) c.in_err-copy.field-0.0 c.in_err-copy.ensures.gives);
      puts = puts_as _ c.args.read.now c.run.new.read c.from_residual.result c.in_err-copy.field-0.0 is
          (puts_moved (List Bindings) c.in_err-copy.field-0.0 _ _ c.args.read.now c.loop-turn.read c.run.new.read e2
          (copy_stops g.F.Fragments.reads (names c.args.depth) (first c.args.depth) (run g.F.Fragments.reads c.args.depth) (log g.F.Fragments.reads c.args.depth) (List Bindings) _ c.args.body.now c.args.separator.now (drop c.loop-turn.at c.args.pieces.now) (drop c.run.new.at c.args.pieces.now) c.loop-turn.read c.run.new.read c.in_err-copy.field-0.0
          c.in_err-copy.ensures.gives c.in_err-copy.ensures.puts));
    }

pub copies-returns-then-not-goes_on : goal.copies-returns-then-not-goes_on
unfolding copies
copies-returns-then-not-goes_on g t c =
    let e = one_more (λ n. copies g.F.Fragments.reads (names c.args.depth) (first c.args.depth) (run g.F.Fragments.reads c.args.depth) n c.args.body.now c.args.separator.now c.loop-turn.found (drop c.loop-turn.at c.args.pieces.now)) _ c.loop-turn._turn c.loop-turn-test.true c.loop-turn.invariant.0 in
    let e2 = one_more (λ n. c.loop-turn.read ++ fragments_of (log_copies g.F.Fragments.reads (names c.args.depth) (first c.args.depth) (run g.F.Fragments.reads c.args.depth) (log g.F.Fragments.reads c.args.depth) n c.args.body.now c.args.separator.now (drop c.loop-turn.at c.args.pieces.now))) _ c.loop-turn._turn c.loop-turn-test.true c.loop-turn.invariant.1 in
    record {
      gives = first_of (search rules, grind (arith, common_steps));
      puts = sym (e2 ∙ copy_ends g.F.Fragments.reads (names c.args.depth) (first c.args.depth) (run g.F.Fragments.reads c.args.depth) (log g.F.Fragments.reads c.args.depth) _ c.args.body.now c.args.separator.now (drop c.loop-turn.at c.args.pieces.now) (drop c.run.new.at c.args.pieces.now) c.in_ok-copy.copy c.loop-turn.read c.run.new.read (search rules) (first_of (search rules, grind (arith, common_steps))) (search rules));
    }

pub copies-loop-turn-preserved : goal.copies-loop-turn-preserved
unfolding copies
copies-loop-turn-preserved g t c =
    let e = one_more (λ n. copies g.F.Fragments.reads (names c.args.depth) (first c.args.depth) (run g.F.Fragments.reads c.args.depth) n c.args.body.now c.args.separator.now c.loop-turn.found (drop c.loop-turn.at c.args.pieces.now)) _ c.loop-turn._turn c.loop-turn-test.true c.loop-turn.invariant.0 in
    let e2 = one_more (λ n. c.loop-turn.read ++ fragments_of (log_copies g.F.Fragments.reads (names c.args.depth) (first c.args.depth) (run g.F.Fragments.reads c.args.depth) (log g.F.Fragments.reads c.args.depth) n c.args.body.now c.args.separator.now (drop c.loop-turn.at c.args.pieces.now))) _ c.loop-turn._turn c.loop-turn-test.true c.loop-turn.invariant.1 in (
      first_of (search rules, grind (arith, common_steps)),
      e2 ∙ copy_goes g.F.Fragments.reads (names c.args.depth) (first c.args.depth) (run g.F.Fragments.reads c.args.depth) (log g.F.Fragments.reads c.args.depth) _ c.args.body.now c.args.separator.now (drop c.loop-turn.at c.args.pieces.now) (drop c.run.new.at c.args.pieces.now) (drop c.skip.new.at c.args.pieces.now) c.in_ok-copy.copy c.loop-turn.read c.run.new.read (search rules) (first_of (search rules, grind (arith, common_steps))) (first_of (search rules, grind (arith, common_steps))) (search rules),
    )

pub copies-returns : goal.copies-returns
unfolding copies
copies-returns g t c =
    let e = no_more (λ n. copies g.F.Fragments.reads (names c.args.depth) (first c.args.depth) (run g.F.Fragments.reads c.args.depth) n c.args.body.now c.args.separator.now c.loop-turn.found (drop c.loop-turn.at c.args.pieces.now)) _ c.loop-turn._turn c.loop-turn-test.false c.loop-turn.invariant.0 in
    let e2 = no_more (λ n. c.loop-turn.read ++ fragments_of (log_copies g.F.Fragments.reads (names c.args.depth) (first c.args.depth) (run g.F.Fragments.reads c.args.depth) (log g.F.Fragments.reads c.args.depth) n c.args.body.now c.args.separator.now (drop c.loop-turn.at c.args.pieces.now))) _ c.loop-turn._turn c.loop-turn-test.false c.loop-turn.invariant.1 in
    record {
      gives = e;
      puts = sym (e2 ∙ copy_none g.F.Fragments.reads (names c.args.depth) (first c.args.depth) (run g.F.Fragments.reads c.args.depth) (log g.F.Fragments.reads c.args.depth) c.args.body.now c.args.separator.now (drop c.loop-turn.at c.args.pieces.now) c.loop-turn.read);
    }
