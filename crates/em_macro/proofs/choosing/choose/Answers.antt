use Rattle.std.proofs.Common.{◌≡◌, ◌<◌, [], length, drop, rules, arith}
use Rattle.std.proofs.lemmas.Grind.{common_steps}
use Rattle.em_macro.specs.Match.{Decidable, at_end, levels}
use Rattle.em_macro.specs.Run.{run, Done, Fails, Breaks, Deep}
use Rattle.em_macro.specs.Choose.{Matches, IsBroken, IsTooDeep, Misses}
use Rattle.em_macro.proofs.Arms.{arm_matches, arm_broken, arm_deep, arm_fails, arm_leaves, here, here-back, all_more, decides_as, tried_as, tried_none, tried_more}
use Rattle.em_macro.proofs.choosing.choose.Goals as goal
use Rattle.em_macro.proofs.choosing.choose.Goals.{in-Ok+else-is_empty, in-Err-Fails}

pub returns-then-is_empty : goal.returns-then-is_empty
returns-then-is_empty g c =
    let is : run g.F.Fragments.reads levels c.index-arms-index.result.matcher c.args.pieces.now ≡ Done c.in-Ok.bindings (drop c.run.new.at c.args.pieces.now) = first_of (search rules, grind (arith, common_steps)) in
    let end : drop c.run.new.at c.args.pieces.now ≡ [] = first_of (search rules, grind (arith, common_steps)) in
    let below : c.loop-index.index < length c.args.arms.now = search rules in
    let number : c.in_ok-arm-in-Ok.arm ≡ c.loop-index.index = first_of (search rules, grind (arith, common_steps)) in (
      decides_as g.F.Fragments.reads (λ a. Matches g.F.Fragments.reads a c.args.pieces.now c.in-Ok.bindings) c.args.arms.now c.args.pieces.now c.loop-index.index c.in_ok-arm-in-Ok.arm number (
        below,
        (λ d. here (λ a. Matches g.F.Fragments.reads a c.args.pieces.now c.in-Ok.bindings) c.args.arms.now c.loop-index.index c.index-arms-index.result d below (search rules)
            (arm_matches g.F.Fragments.reads c.index-arms-index.result c.args.pieces.now (drop c.run.new.at c.args.pieces.now) c.in-Ok.bindings is end)),
        c.loop-index.invariant.0,
      ),
      tried_as g.F.Fragments.reads c.args.arms.now c.args.pieces.now c.loop-index.index c.in_ok-arm-in-Ok.arm c.loop-index.tried number c.loop-index.invariant.1,
    )

pub returns-in-Err-Broken : goal.returns-in-Err-Broken
returns-in-Err-Broken g c =
    let is : run g.F.Fragments.reads levels c.index-arms-index.result.matcher c.args.pieces.now ≡ Breaks = first_of (search rules, grind (arith, common_steps)) in
    let below : c.loop-index.index < length c.args.arms.now = search rules in
    let number : c.in_ok-number-in-Err-Broken.field-0 ≡ c.loop-index.index = first_of (search rules, grind (arith, common_steps)) in
    decides_as g.F.Fragments.reads (λ a. IsBroken g.F.Fragments.reads a c.args.pieces.now) c.args.arms.now c.args.pieces.now c.loop-index.index c.in_ok-number-in-Err-Broken.field-0 number (
      below,
      (λ d. here (λ a. IsBroken g.F.Fragments.reads a c.args.pieces.now) c.args.arms.now c.loop-index.index c.index-arms-index.result d below (search rules)
          (arm_broken g.F.Fragments.reads c.index-arms-index.result c.args.pieces.now is)),
      c.loop-index.invariant.0,
    )

pub returns-in-Err-Depth : goal.returns-in-Err-Depth
returns-in-Err-Depth g c =
    let is : run g.F.Fragments.reads levels c.index-arms-index.result.matcher c.args.pieces.now ≡ Deep = first_of (search rules, grind (arith, common_steps)) in
    let below : c.loop-index.index < length c.args.arms.now = search rules in (
      c.loop-index.index,
      (
        below,
        (λ d. here (λ a. IsTooDeep g.F.Fragments.reads a c.args.pieces.now) c.args.arms.now c.loop-index.index c.index-arms-index.result d below (search rules)
            (arm_deep g.F.Fragments.reads c.index-arms-index.result c.args.pieces.now is)),
        c.loop-index.invariant.0,
      ),
    )

pub loop-index-preserved : goal.loop-index-preserved
loop-index-preserved g c =
    let below : c.loop-index.index < length c.args.arms.now = search rules in
    let dec : Decidable levels c.index-arms-index.result.matcher at_end = here-back (λ a. Decidable levels a.matcher at_end) c.args.arms.now c.loop-index.index c.index-arms-index.result (search rules) (c.requires c.loop-index.index c.index-arms-index.result below) in
    elim c.match-run.branch [
      | in-Ok+else-is_empty w ↦
          let is : run g.F.Fragments.reads levels c.index-arms-index.result.matcher c.args.pieces.now ≡ Done w.in-Ok.bindings (drop c.run.new.at c.args.pieces.now) = first_of (search rules, grind (arith, common_steps)) in
          let more : (drop c.run.new.at c.args.pieces.now) ≡ [] → ⊥ = first_of (search rules, grind (arith, common_steps)) in (
            all_more (λ a. Misses g.F.Fragments.reads a c.args.pieces.now) c.args.arms.now c.loop-index.index c.loop-index.invariant.0 (λ d.
                here (λ a. Misses g.F.Fragments.reads a c.args.pieces.now) c.args.arms.now c.loop-index.index c.index-arms-index.result d below (search rules)
                (arm_leaves g.F.Fragments.reads (g.met.F.Fragments.never_empty, g.met.F.Fragments.starting) c.index-arms-index.result c.args.pieces.now (drop c.run.new.at c.args.pieces.now) w.in-Ok.bindings dec is more)),
            tried_more g.F.Fragments.reads (g.met.F.Fragments.never_empty, g.met.F.Fragments.starting) c.args.arms.now c.args.pieces.now c.loop-index.index c.index-arms-index.result c.loop-index.tried c.new-read.result c.run.new.read c.append.new.self
                below (search rules) dec c.loop-index.invariant.1 (search rules) (first_of (search rules, grind (arith, common_steps))) (search rules),
          )
      | in-Err-Fails w ↦
          let is : run g.F.Fragments.reads levels c.index-arms-index.result.matcher c.args.pieces.now ≡ Fails = first_of (search rules, grind (arith, common_steps)) in (
            all_more (λ a. Misses g.F.Fragments.reads a c.args.pieces.now) c.args.arms.now c.loop-index.index c.loop-index.invariant.0 (λ d.
                here (λ a. Misses g.F.Fragments.reads a c.args.pieces.now) c.args.arms.now c.loop-index.index c.index-arms-index.result d below (search rules)
                (arm_fails g.F.Fragments.reads (g.met.F.Fragments.never_empty, g.met.F.Fragments.starting) c.index-arms-index.result c.args.pieces.now dec is)),
            tried_more g.F.Fragments.reads (g.met.F.Fragments.never_empty, g.met.F.Fragments.starting) c.args.arms.now c.args.pieces.now c.loop-index.index c.index-arms-index.result c.loop-index.tried c.new-read.result c.run.new.read c.append.new.self
                below (search rules) dec c.loop-index.invariant.1 (search rules) (first_of (search rules, grind (arith, common_steps))) (search rules),
          )
    ]

pub returns : goal.returns
returns g c = λ k d h. c.loop-index.invariant.0 k d (omega (arith, h))

pub loop-index-init : goal.loop-index-init
loop-index-init g c = ((λ k d h. absurd (omega (arith, h))), tried_none g.F.Fragments.reads c.args.arms.now c.args.pieces.now c.new-tried.result (search rules))
