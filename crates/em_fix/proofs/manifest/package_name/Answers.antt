use Rattle.std.proofs.Common.{sym, ◌∙◌, ap, ◌++◌}
use Rattle.em_fix.specs.Manifest.{manifest_head}
use Rattle.em_fix.proofs.Manifests.{no_head, no_name}
use Rattle.em_fix.proofs.manifest.package_name.Goals as goal

pub returns-in_default : goal.returns-in_default
returns-in_default c = no_head _ c.in_default.ensures

pub returns-then-is_package_name : goal.returns-then-is_package_name
returns-then-is_package_name c = record {
  is_name = sym c.is_package_name.ensures ∙ c.if-is_package_name.true;
  form = c.in-Some.ensures ∙ ap (λ xs. manifest_head ++ xs) c.in-Some-before_suffix.ensures;
}

pub returns-else-is_package_name : goal.returns-else-is_package_name
returns-else-is_package_name c = no_name _ _ _ c.in-Some.ensures c.in-Some-before_suffix.ensures (sym c.is_package_name.ensures ∙ c.if-is_package_name.false)
