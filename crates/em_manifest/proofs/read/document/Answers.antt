use Rattle.std.proofs.Common.{◌∙◌, ap, sym}
use Rattle.toml.specs.Parse.{parse_document}
use Rattle.em_manifest.proofs.Documents.{of_text, of_no_text}
use Rattle.em_manifest.proofs.read.document.Goals as goal

pub returns-in_default : goal.returns-in_default
returns-in_default c = sym (of_no_text c.args.bytes.now c.in_default.ensures.cases.0)

pub returns-in-Ok-table_from_str : goal.returns-in-Ok-table_from_str
returns-in-Ok-table_from_str c =
    sym (of_text c.args.bytes.now c.in-Ok.ensures.cases.1 ∙ ap parse_document (sym c.in-Ok.ensures.cases.0) ∙ c.in-Ok-table_from_str.ensures.ok)
