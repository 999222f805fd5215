use Rattle.std.proofs.Common.{◌≡◌, ◌≤◌, ◌+◌, ◌-◌, ◌∙◌, is_some, length, drop, ap, sym, arith}
use Rattle.em_manifest.proofs.OwnNames.{has_name, own_more, twice_at, seen_more}
use Rattle.em_manifest.proofs.dependencies.have_own_names.Goals as goal

pub returns-then-is_some : goal.returns-then-is_some
returns-then-is_some c =
    let i = c.loop-at.at - 1 in
    let next : c.loop-at.at ≡ i + 1 = omega arith in
    let seen = ap is_some (sym c.in_ok-insert.ensures.old) ∙ sym c.is_some.ensures ∙ c.if-is_some.true in
    let dropped : drop (i + 1) c.args.dependencies.now ≡ drop c.loop-at.at c.args.dependencies.now = ap (λ n. drop n c.args.dependencies.now) (sym next) in
    let named = ap (λ name. has_name name (drop (i + 1) c.args.dependencies.now)) (sym c.as_str.ensures) ∙ ap (has_name c.as_str.result.now) dropped ∙ sym (c.loop-at.invariant.seen c.as_str.result.now) ∙ seen in
    sym (twice_at c.args.dependencies.now i c.index-dependencies-at.result (omega arith) named)

pub loop-at-preserved : goal.loop-at-preserved
loop-at-preserved c =
    let i = c.loop-at.at - 1 in
    let next : c.loop-at.at ≡ i + 1 = omega arith in
    let within : i + 1 ≤ length c.args.dependencies.now = omega arith in
    let unseen = ap is_some (sym c.in_ok-insert.ensures.old) ∙ sym c.is_some.ensures ∙ c.if-is_some.false in
    let dropped : drop (i + 1) c.args.dependencies.now ≡ drop c.loop-at.at c.args.dependencies.now = ap (λ n. drop n c.args.dependencies.now) (sym next) in
    let apart = ap (λ name. has_name name (drop (i + 1) c.args.dependencies.now)) (sym c.as_str.ensures) ∙ ap (has_name c.as_str.result.now) dropped ∙ sym (c.loop-at.invariant.seen c.as_str.result.now) ∙ unseen in
    record {
      within = omega arith;
      own = own_more c.args.dependencies.now i c.index-dependencies-at.result (omega arith) apart (rw next at c.loop-at.invariant.own);
      seen = seen_more c.args.dependencies.now i c.index-dependencies-at.result c.as_str.result.now c.loop-at.seen c.insert.new.self (omega arith) c.as_str.ensures c.in_ok-insert.ensures.updates (rw next at c.loop-at.invariant.seen);
    }
