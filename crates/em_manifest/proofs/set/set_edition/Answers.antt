use Rattle.std.proofs.Common.{◌∙◌, option_map, ap, sym}
use Rattle.toml.specs.View.{table_view}
use Rattle.em_manifest.specs.Lines.{edited}
use Rattle.em_manifest.specs.Values.{manifest_from, tells_edition}
use Rattle.em_manifest.proofs.Confirmed.{is_fault, is_line, reads_as}
use Rattle.em_manifest.proofs.set.set_edition.Goals as goal

pub returns-clause-line : goal.returns-clause-line
returns-clause-line c =
    let read = sym c.in_ok-document.ensures ∙ ap (option_map table_view) c.in-Some.is in
    let told = ap tells_edition read ∙ sym c.tells_edition.ensures in
    let line = ap (λ t. edited c.args.edition t c.args.bytes.now) told ∙ sym c.in_ok-new.ensures ∙ c.in-Some-2.is in
    is_line c.args.edition c.args.bytes.now c.in-Some-2.new c.confirmed.result line c.confirmed.ensures.same

pub returns-clause-reads : goal.returns-clause-reads
returns-clause-reads c =
    let read = sym c.in_ok-document.ensures ∙ ap (option_map table_view) c.in-Some.is in
    let reads = ap manifest_from read ∙ c.in_ok-manifest.ensures.answer in
    reads_as c.args.edition c.args.bytes.now c.in_ok-manifest.manifest c.confirmed.result reads c.confirmed.ensures.reads

pub returns-clause-fault : goal.returns-clause-fault
returns-clause-fault c =
    let read = sym c.in_ok-document.ensures ∙ ap (option_map table_view) c.in-Some.is in
    let reads = ap manifest_from read ∙ c.in_ok-manifest.ensures.answer in
    let told = ap tells_edition read ∙ sym c.tells_edition.ensures in
    let line = ap (λ t. edited c.args.edition t c.args.bytes.now) told ∙ sym c.in_ok-new.ensures ∙ c.in-Some-2.is in
    is_fault c.args.edition c.args.bytes.now c.in-Some-2.new c.in_ok-manifest.manifest c.confirmed.result reads line c.confirmed.ensures.otherwise
