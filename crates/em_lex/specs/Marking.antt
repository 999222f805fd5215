-- A text in which chosen words are made raw.
use Rattle.std.specs.Prelude.{◌≡◌, ℕ, ◌+◌, ◌-◌, Bool, true, false, List, [], ◌∷◌, ◌++◌, take, drop, codes, if◌then◌else◌}
use Rattle.em_base.specs.declared.edition.Edition.{Edition}
use Rattle.em_base.specs.declared.token.Token.{Token}
use Rattle.em_base.specs.declared.token.TokenKind.{TokenKind}
use Rattle.em_base.specs.declared.token.TokenKind.TheVariants.{Ident, Lifetime, Int, Char, Byte, Str, ByteStr, Open, Close, Punct}
use Rattle.em_lex.specs.Spelling.{is_never_raw}

-- the spelling of a token, raw where it is chosen
abbrev pub respelled : (Token → Bool) → Token → List ℕ
respelled chosen t = if chosen t then (codes "r#" ++ t.text) else t.text

-- by how many bytes it grows
abbrev pub growth : (Token → Bool) → Token → ℕ
growth chosen t = if chosen t then 2 else 0

-- the kind of a token whose spelling is made raw
abbrev pub raw_kind : TokenKind → TokenKind
raw_kind (Ident name raw) = Ident name true
raw_kind (Lifetime name) = Lifetime name
raw_kind (Int value suffix) = Int value suffix
raw_kind (Char value) = Char value
raw_kind (Byte value) = Byte value
raw_kind (Str value) = Str value
raw_kind (ByteStr value) = ByteStr value
raw_kind Open = Open
raw_kind Close = Close
raw_kind Punct = Punct

-- a token under an edition, raw where it is chosen, and moved by the bytes that were put in before it
abbrev pub moved_token : (Token → Bool) → Edition → ℕ → Token → Token
moved_token chosen edition by t = record {
  kind = if chosen t then raw_kind t.kind else t.kind;
  text = respelled chosen t;
  span = record { file = t.span.file; start = t.span.start + by; end = t.span.end + by + growth chosen t };
  edition = edition;
  marks = t.marks;
  doc = t.doc;
}

-- the tokens under an edition, with the chosen words raw and all places moved
abbrev pub moved : (Token → Bool) → Edition → ℕ → List Token → List Token
moved chosen edition by [] = []
moved chosen edition by (t ∷ ts) = moved_token chosen edition by t ∷ moved chosen edition (by + growth chosen t) ts

-- the text from an offset on with `r#` before each chosen token
abbrev pub marked : (Token → Bool) → ℕ → List ℕ → List Token → List ℕ
marked chosen offset text [] = text
marked chosen offset text (t ∷ ts) =
    take (t.span.start - offset) text ++ (respelled chosen t ++ marked chosen t.span.end (drop (t.span.end - offset) text) ts)

-- a chosen token is an identifier that isn't raw, whose name has a raw form
abbrev pub HasRawForm : (Token → Bool) → Token → Type 0
HasRawForm chosen t = chosen t ≡ true → (name : List ℕ) × (t.kind ≡ Ident name false) × (is_never_raw name ≡ false)
