use Rattle.std.proofs.Common.{◌∙◌, ap, subst, rules}
use Rattle.em_fix.specs.Manifest.{MovesManifest, IsNoManifest}
use Rattle.em_fix.proofs.Prepared.{manifest_unbuilt, source_refuses, source_stays, all_moved}
use Rattle.em_fix.specs.Report.{report_of}
use Rattle.em_fix.proofs.prepare.prepare.Goals as goal

pub returns-in_default-2-clause-err : goal.returns-in_default-2-clause-err
returns-in_default-2-clause-err g c =
    manifest_unbuilt _ c.in-Some.manifest (rw c.in-Some.is at c.in_ok-manifest.ensures.ok) (subst IsNoManifest c.as_slice.ensures (rw c.in_default-2.is at c.in_ok-new_manifest.ensures))

pub returns-in_err-source-clause-err : goal.returns-in_err-source-clause-err
returns-in_err-source-clause-err g c =
    let there = rw c.in-Some.is at c.in_ok-manifest.ensures.ok in
    let moves = subst (λ xs. MovesManifest xs c.in-Some-2.new_manifest) c.as_slice.ensures (rw c.in-Some-2.is at c.in_ok-new_manifest.ensures) in
    let refuses = source_refuses _ _ _ _ _ _ _ c.fetch.ensures.kept there moves c.in_err-source.ensures.err in
    search rules

pub returns-in_err-moved-clause-err : goal.returns-in_err-moved-clause-err
returns-in_err-moved-clause-err g c =
    let there = rw c.in-Some.is at c.in_ok-manifest.ensures.ok in
    let moves = subst (λ xs. MovesManifest xs c.in-Some-2.new_manifest) c.as_slice.ensures (rw c.in-Some-2.is at c.in_ok-new_manifest.ensures) in
    let source = rw c.in-Some-3.is at c.in_ok-source.ensures.ok in
    let refuses = source_stays _ _ _ _ _ _ c.fetch.ensures.kept there moves source c.in_err-moved.ensures.err in
    search rules

pub returns-clause-ok : goal.returns-clause-ok
returns-clause-ok g c =
    let there = rw c.in-Some.is at c.in_ok-manifest.ensures.ok in
    let moves = subst (λ xs. MovesManifest xs c.in-Some-2.new_manifest) c.as_slice.ensures (rw c.in-Some-2.is at c.in_ok-new_manifest.ensures) in
    let source = rw c.in-Some-3.is at c.in_ok-source.ensures.ok in
    all_moved _ _ _ _ _ c.in_ok-moved.moved.old c.in_ok-moved.moved.new _ _ _ c.fetch.ensures.kept there moves source c.in_ok-moved.ensures.ok.0 c.in_ok-moved.ensures.ok.1 c.in_ok-changes.ensures.all (c.in_ok-report.ensures ∙ ap report_of c.as_slice-2.ensures)
