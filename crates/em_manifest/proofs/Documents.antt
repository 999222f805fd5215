-- The table that bytes are, by whether they are UTF-8.
use Rattle.std.proofs.Common.{◌≡◌, ℕ, List, None}
use Rattle.std.proofs.lemmas.Bool.{false_from_ne_true}
use Rattle.std.proofs.lemmas.Str.{IsUtf8-from_is_utf8, is_utf8-from_IsUtf8}
use Rattle.std.specs.Str.{IsUtf8, is_utf8}
use Rattle.toml.specs.Parse.{parse_document}
use Rattle.em_manifest.specs.Values.{document}

pub of_text : (bytes : List ℕ) → IsUtf8 bytes → document bytes ≡ parse_document bytes
of_text bytes h = rw (is_utf8-from_IsUtf8 bytes h)

pub of_no_text : (bytes : List ℕ) → ¬ (IsUtf8 bytes) → document bytes ≡ None
of_no_text bytes h = rw (false_from_ne_true (is_utf8 bytes) (λ e. h (IsUtf8-from_is_utf8 bytes e)))
