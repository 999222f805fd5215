use Rattle.std.proofs.Common.{◌≡◌, ◌≤◌, ◌-◌, length, take, drop, refl, sym, ap, ◌∙◌, rules, arith}
use Rattle.std.proofs.lemmas.Grind.{common_steps}
use Rattle.em_grammar.specs.NestLaws.{node_nesting}
use Rattle.em_grammar.specs.FragmentLaws.{prefix_in}
use Rattle.em_parse.specs.Calls.{most}
use Rattle.em_parse.proofs.Longest.{longest}
use Rattle.em_parse.proofs.calls.fragment_of.Goals as goal

pub returns-in-Ok-shared-clause-ok : goal.returns-in-Ok-shared-clause-ok
returns-in-Ok-shared-clause-ok g c =
    let same : c.rest_from-rest.result.now ≡ drop c.args.from c.args.pieces.now = c.rest_from-rest.ensures ∙ ap (λ k. drop c.args.from k) c.as_slice.ensures in
    let fits : node_nesting c.in-Ok.node ≤ most = first_of (search rules, grind (arith, common_steps)) in
    let size : length c.rest_from-rest.result.now - length c.prefix_in.new.input.rest.now - 0 ≡ length c.rest_from-rest.result.now - length c.prefix_in.new.input.rest.now = omega arith in
    longest c.prefixes.ensures.exact c.fragments_nest.ensures.fragments c.args.kind c.args.edition (drop c.args.from c.args.pieces.now) c.prefix_in.new.input.rest.now _
    (ap (λ i. prefix_in c.args.kind c.args.edition most most i) (sym same) ∙ c.in-Ok.ensures) fits refl refl (ap (λ k. length k - length c.prefix_in.new.input.rest.now) same)
    (c.in-Ok-shared.ensures ∙ c.between.ensures ∙ ap (λ n. take n (drop 0 c.rest_from-rest.result.now)) size ∙ ap (λ k. take (length c.rest_from-rest.result.now - length c.prefix_in.new.input.rest.now) k) same)
