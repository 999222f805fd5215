-- Whitespace and comments (Reference, "Whitespace" and "Comments").
use Rattle.std.specs.Prelude.{◌≡◌, ℕ, suc, Bool, true, false, not, ◌&&◌, ◌||◌, ◌==◌, [], ◌∷◌, ◌++◌, codes}
use Rattle.std.specs.List.{list_all}
use Rattle.em_lex.specs.Characters.{Chars, is_blank, starts, not_line_feed, begins}

-- `*/` or `/*`, where a character stands before a text
abbrev pub is_comment_mark : ℕ → Chars → Bool
is_comment_mark c cs = (c == 42 && starts (λ d. d == 47) cs) || (c == 47 && starts (λ d. d == 42) cs)

-- inside a block comment, in which `depth` others are open, a text goes on to what follows the comment: `*/` closes the
-- comment opened last, `/*` opens one more, and any other character stands for itself
pub data Within : ℕ → Chars → Chars → Type 0 where
  closes : {depth : ℕ} {text left : Chars} → depth ≡ 0 → text ≡ 42 ∷ 47 ∷ left → Within depth text left
  lowers : {depth : ℕ} {text left : Chars} (d : ℕ) (cs : Chars) → depth ≡ suc d → text ≡ 42 ∷ 47 ∷ cs → Within d cs left → Within depth text left
  raises : {depth : ℕ} {text left : Chars} (cs : Chars) → text ≡ 47 ∷ 42 ∷ cs → Within (suc depth) cs left → Within depth text left
  passes : {depth : ℕ} {text left : Chars} (c : ℕ) (cs : Chars) → text ≡ c ∷ cs → is_comment_mark c cs ≡ false → Within depth cs left → Within depth text left

-- a doc comment: `///` but not `////`, `//!`, `/**` but neither `/***` nor `/**/`, and `/*!` (Reference, "Doc comments")
abbrev pub is_doc : Chars → Bool
is_doc w =
    (begins (codes "///") w && not (begins (codes "////") w)) || begins (codes "//!") w
    || (begins (codes "/**") w && not (begins (codes "/***") w || begins (codes "/**/") w)) || begins (codes "/*!") w

abbrev pub begins_comment : Chars → Bool
begins_comment cs = begins (codes "//") cs || begins (codes "/*") cs

-- a character of whitespace, a line comment up to its line's end, or a block comment, before what is left of the text;
-- `doc` says whether it is a doc comment. In this profile a doc comment may hold a CR
pub data IsTrivia (w : Chars) (doc : Bool) (left : Chars) : Type 0 where
  blank : (c : ℕ) → w ≡ c ∷ [] → is_blank c ≡ true → doc ≡ false → IsTrivia w doc left
  line : (cs : Chars) → w ≡ 47 ∷ 47 ∷ cs → list_all not_line_feed cs ≡ true → starts not_line_feed left ≡ false → doc ≡ is_doc w → IsTrivia w doc left
  block : (cs : Chars) → w ≡ 47 ∷ 42 ∷ cs → Within 0 (cs ++ left) left → doc ≡ is_doc w → IsTrivia w doc left
