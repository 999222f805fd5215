-- The characters of a text, as code points, and their classes.
use Rattle.std.specs.Prelude.{ℕ, Bool, false, not, ◌&&◌, ◌||◌, ◌==◌, nat_le, nat_eq, List, [], ◌∷◌, encode_utf8_all}
use Rattle.std.specs.List.{starts_with}
use Rattle.unicode_normalization.specs.Forms.{nfc}

abbrev pub Chars : Type 0
Chars = List ℕ

-- whitespace (Reference, "Whitespace")
abbrev pub is_blank : ℕ → Bool
is_blank c = (nat_le 9 c && nat_le c 13) || c == 0x20 || c == 0x85 || c == 0x200E || c == 0x200F || c == 0x2028 || c == 0x2029

-- the text begins with a character of a class
abbrev pub starts : (ℕ → Bool) → Chars → Bool
starts p [] = false
starts p (c ∷ cs) = p c

abbrev pub not_line_feed : ℕ → Bool
not_line_feed c = not (c == 10)

abbrev pub not_underscore : ℕ → Bool
not_underscore c = not (c == 95)

-- the text begins with these characters
abbrev pub begins : Chars → Chars → Bool
begins mark cs = starts_with nat_eq cs mark

-- the name that a word names: its Unicode Normalization Form C (Reference, "Identifiers"), as bytes
abbrev pub name_of : Chars → List ℕ
name_of w = encode_utf8_all (nfc w)
