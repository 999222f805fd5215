-- The texts that are identifiers (Reference, "Identifiers"). Characters are code points.
use Rattle.std.specs.Prelude.{ℕ, Bool, false, not, ◌&&◌, ◌||◌, ◌==◌, List, [], ◌∷◌}
use Rattle.std.specs.List.{list_all}
use Rattle.std.specs.Str.{bytes_eq}
use Rattle.unicode_ident.specs.Ident.{is_xid_start, is_xid_continue}

-- a character that a word begins with
abbrev pub is_start : ℕ → Bool
is_start c = c == 95 || is_xid_start c

-- `_` or XID_Start, then XID_Continue
abbrev pub is_word : List ℕ → Bool
is_word [] = false
is_word (c ∷ cs) = is_start c && list_all is_xid_continue cs

-- a word other than `_`
abbrev pub is_identifier : List ℕ → Bool
is_identifier cs = is_word cs && not (bytes_eq cs (95 ∷ []))
