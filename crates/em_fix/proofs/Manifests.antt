-- When a text is no manifest of the first form.
use Rattle.std.proofs.Common.{◌≡◌, List, ℕ, false, ◌++◌, sym, ◌∙◌, ap, codes}
use Rattle.std.proofs.lemmas.List.{append_cancel_left, append_cancel_right}
use Rattle.em_fix.specs.Manifest.{is_package_name, IsNoManifest, manifest_head, manifest_tail}

pub no_head : (bytes : List ℕ) → ((rest : List ℕ) → bytes ≡ manifest_head ++ rest → ⊥) → IsNoManifest bytes
no_head bytes h name m = h _ m.form

pub no_tail : (bytes rest : List ℕ) → bytes ≡ manifest_head ++ rest → ((front : List ℕ) → rest ≡ front ++ manifest_tail (codes "2015") → ⊥) → IsNoManifest bytes
no_tail bytes rest at h name m = h name (append_cancel_left manifest_head _ _ (sym at ∙ m.form))

pub no_name : (bytes rest front : List ℕ) → bytes ≡ manifest_head ++ rest → rest ≡ front ++ manifest_tail (codes "2015") → is_package_name front ≡ false → IsNoManifest bytes
no_name bytes rest front at in_rest h name m =
    let same : name ≡ front = append_cancel_right name front (manifest_tail (codes "2015")) (sym (append_cancel_left manifest_head _ _ (sym at ∙ m.form)) ∙ in_rest) in
    let a : is_package_name name ≡ false = ap is_package_name same ∙ h in
    let b = m.is_name in
    cc
