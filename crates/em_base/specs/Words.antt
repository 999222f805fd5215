-- Tables of words in ascending order, and the keywords of each edition (Reference, "Keywords"). Texts are their bytes.
use Rattle.std.specs.Prelude.{ℕ, Bool, true, false, not, ◌&&◌, if◌then◌else◌, List, [], ◌∷◌, ◌++◌, codes, map}
use Rattle.std.specs.List.{list_any}
use Rattle.std.specs.Ordering.{is_lt, nat_cmp}
use Rattle.std.specs.Cmp.Lexicographic.{slice_cmp}
use Rattle.std.specs.Str.{bytes_eq}
use Rattle.em_base.specs.declared.edition.Edition.{Edition}
use Rattle.em_base.specs.declared.edition.Edition.TheVariants.{E2015, E2018, E2021}
use Rattle.em_base.specs.declared.words.Class.{Class}
use Rattle.em_base.specs.declared.words.Class.TheVariants.{Ident, Weak, Keyword}
use Rattle.em_base.specs.declared.words.Word.{Word}

-- the texts of a table's words
abbrev pub texts : List Word → List (List ℕ)
texts words = map (λ w. w.text.now) words

-- each text comes before the next one, byte by byte
abbrev pub is_ascending : List (List ℕ) → Bool
is_ascending [] = true
is_ascending (x ∷ []) = true
is_ascending (x ∷ y ∷ ys) = is_lt (slice_cmp nat_cmp x y) && is_ascending (y ∷ ys)

-- the text is one of the list
abbrev pub is_among : List (List ℕ) → List ℕ → Bool
is_among list text = list_any (λ x. bytes_eq x text) list

-- Reference, "Strict keywords": those of every edition. `_` is left out: here it is punctuation, as its tokens are in
-- macros
abbrev pub strict : List (List ℕ)
strict =
    codes "as" ∷ codes "break" ∷ codes "const" ∷ codes "continue" ∷ codes "crate" ∷ codes "else" ∷ codes "enum"
    ∷ codes "extern" ∷ codes "false" ∷ codes "fn" ∷ codes "for" ∷ codes "if" ∷ codes "impl" ∷ codes "in" ∷ codes "let"
    ∷ codes "loop" ∷ codes "match" ∷ codes "mod" ∷ codes "move" ∷ codes "mut" ∷ codes "pub" ∷ codes "ref"
    ∷ codes "return" ∷ codes "self" ∷ codes "Self" ∷ codes "static" ∷ codes "struct" ∷ codes "super" ∷ codes "trait"
    ∷ codes "true" ∷ codes "type" ∷ codes "unsafe" ∷ codes "use" ∷ codes "where" ∷ codes "while" ∷ []

-- Reference, "Reserved keywords": those of every edition
abbrev pub reserved : List (List ℕ)
reserved =
    codes "abstract" ∷ codes "become" ∷ codes "box" ∷ codes "do" ∷ codes "final" ∷ codes "macro" ∷ codes "override"
    ∷ codes "priv" ∷ codes "typeof" ∷ codes "unsized" ∷ codes "virtual" ∷ codes "yield" ∷ []

-- the keywords of every edition
abbrev pub always : List (List ℕ)
always = strict ++ reserved

-- the keywords, strict and reserved, that came with edition 2018
abbrev pub from_2018 : List (List ℕ)
from_2018 = codes "async" ∷ codes "await" ∷ codes "dyn" ∷ codes "try" ∷ []

-- the class of a word that is a keyword from edition 2018 on: in edition 2015 `dyn` alone is a weak one
abbrev pub class_of_new : Edition → List ℕ → Class
class_of_new E2015 word = if bytes_eq word (codes "dyn") then Weak else Ident
class_of_new E2018 word = Keyword
class_of_new E2021 word = Keyword

-- the class of a word in an edition
unfoldable pub class_of : Edition → List ℕ → Class
class_of edition word =
    if is_among always word then Keyword else if is_among from_2018 word then class_of_new edition word else Ident

-- the prefixes that a literal may have in every edition (Reference, "Reserved prefixes")
abbrev pub prefixes : List (List ℕ)
prefixes = codes "b" ∷ codes "r" ∷ codes "br" ∷ []

-- the suffixes of an integer literal (Reference, "Integer literals") but `i128` and `u128`: integers have up to 64 bits
abbrev pub integer_suffixes : List (List ℕ)
integer_suffixes =
    codes "i8" ∷ codes "i16" ∷ codes "i32" ∷ codes "i64" ∷ codes "isize" ∷ codes "u8" ∷ codes "u16" ∷ codes "u32"
    ∷ codes "u64" ∷ codes "usize" ∷ []

-- the year of an edition
abbrev pub year : Edition → ℕ
year E2015 = 2015
year E2018 = 2018
year E2021 = 2021

-- a text of the list of keywords that an edition brought
abbrev pub is_listed_from : Edition → List ℕ → Bool
is_listed_from E2015 text = is_among always text
is_listed_from E2018 text = not (is_among always text) && is_among from_2018 text
is_listed_from E2021 text = false

-- the word stands in the list of keywords of the edition that it is one from
abbrev pub is_listed : Word → Bool
is_listed word = is_listed_from word.since word.text.now
