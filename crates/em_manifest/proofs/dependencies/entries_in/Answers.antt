use Rattle.std.proofs.Common.{◌∙◌, ap, sym}
use Rattle.std.proofs.lemmas.Map.Iter.{rest_more}
use Rattle.std.specs.Map.Iter.{deref_pair}
use Rattle.toml.specs.View.{view, members_view}
use Rattle.em_manifest.specs.Values.{dependency_in, entries_in}
use Rattle.em_manifest.proofs.Entries.{behind, entries_more, entries_ascend}
use Rattle.em_manifest.proofs.dependencies.entries_in.Goals as goal

pub loop-key-preserved : goal.loop-key-preserved
loop-key-preserved c =
    let turn = rest_more deref_pair c.loop-key.key-iterator c.next.new.self c.next.result (c.in-Some.key, c.in-Some.value) c.in-Some.is c.next.ensures.steps in
    let here = ap (λ key. dependency_in key (view c.in-Some.value.now)) (sym c.as_str.ensures.value) ∙ sym c.in_ok-dependency.ensures ∙ c.in-Some-2.is in
    c.loop-key.invariant
    ∙ ap (λ es. behind c.loop-key.found (entries_in (members_view es))) turn
    ∙ entries_more c.in-Some.key.now c.in-Some.value.now c.next.new.self c.loop-key.found c.in-Some-2.dependency here
    ∙ ap (λ found. behind found (entries_in (members_view c.next.new.self))) (sym c.in_ok-push-in-Some-2.ensures.ok)

pub returns-in-None-2-clause-order : goal.returns-in-None-2-clause-order
returns-in-None-2-clause-order c = entries_ascend c.args.entries.now.entries c.into_iter-key-iterator.ensures.into_iter_gives.5

pub returns-clause-order : goal.returns-clause-order
returns-clause-order c = entries_ascend c.args.entries.now.entries c.into_iter-key-iterator.ensures.into_iter_gives.5
