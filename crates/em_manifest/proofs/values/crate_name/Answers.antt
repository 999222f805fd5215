use Rattle.std.proofs.Common.{◌∙◌}
use Rattle.em_manifest.proofs.Named.{named_ok}
use Rattle.em_manifest.proofs.values.crate_name.Goals as goal

pub returns : goal.returns
returns c = named_ok c.as_str.result.now c.args.key.now c.utf8.key (c.as_str.ensures.value ∙ c.in_ok-text.ensures) c.is_name.result c.is_name.ensures.normal c.is_name.ensures.exact
