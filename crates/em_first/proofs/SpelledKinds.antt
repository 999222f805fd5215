-- The kinds of the tokens of a text, told from what they say.
use Rattle.std.proofs.Common.{◌≡◌, inl, inr, ℕ, ◌+◌, Bool, true, false, cond, not, ◌&&◌, ◌||◌, ◌==◌, List, [], ◌∷◌, ◌++◌, codes, encode_utf8_all, refl, subst, sym, ap, ◌∙◌}
use Rattle.std.specs.Prelude.{Option, Some, None}
use Rattle.std.specs.Char.{is_ascii_digit}
use Rattle.std.specs.List.{list_all}
use Rattle.std.specs.Str.{bytes_eq}
use Rattle.std.proofs.lemmas.Bool.{and_parts}
use Rattle.std.proofs.lemmas.Slice.Eq.{bytes_eq-Decides}
use Rattle.std.proofs.lemmas.Str.{encodes_same}
use Rattle.em_base.specs.declared.edition.Edition.{Edition}
use Rattle.em_base.specs.declared.edition.Edition.TheVariants.{E2015}
use Rattle.em_base.specs.declared.token.Token.{Token}
use Rattle.em_base.specs.declared.token.TokenKind.{TokenKind}
use Rattle.em_base.specs.declared.token.TokenKind.TheVariants.{Ident, Lifetime, Int, Char, Byte, Str, ByteStr, Open, Close, Punct}
use Rattle.em_base.specs.declared.words.Class.{Class}
use Rattle.em_base.specs.declared.words.Class.TheVariants as class
use Rattle.em_base.specs.Words.{strict, always, from_2018, class_of, class_of_new, is_among}
use Rattle.em_lex.specs.Characters.{starts}
use Rattle.em_lex.specs.Lexing.{Part, trivia, token, Tiles, byte_len, tokens_of, Lexes}
use Rattle.em_lex.specs.Spelling as spelling
use Rattle.em_lex.specs.Spelling.{Spells, IsString, opening_delimiters, closing_delimiters, punctuation}
use Rattle.em_tree.specs.Starts as tree
use Rattle.em_tree.specs.Starts.{is_lettered, is_one_of, spelling_of, is_spelled}
use Rattle.em_tree.specs.Tokens.{Is, Each, Name, IsLiteralToken, signs, is_written, delimiters}
use Rattle.em_first.specs.Form as form
use Rattle.em_first.specs.Form.{said, name_in, int_in}
use Rattle.em_first.proofs.SignNames.{is_sign, each_sign, sign_bytes, no_sign_name}

no_true : {P : Type 0} → false ≡ true → P
no_true h = cc

none_some : {A : Type 0} {P : Type 0} {a : A} → None ≡ Some a → P
none_some h = cc

-- ---- the tokens of a text

-- a token of a text of 2015: its kind and its text are as its characters spell it
pub record IsSpelled (t : Token) : Type 0 where
  pub edition_is : t.edition ≡ E2015
  pub dot : Bool
  pub chars : List ℕ
  pub spells : Spells dot chars t.kind
  pub text_is : t.text ≡ encode_utf8_all chars

spelled_parts : (file offset : ℕ) (doc dot end : Bool) (chars : List ℕ) (parts : List Part) → Tiles E2015 dot chars parts end [] → Each IsSpelled (tokens_of file E2015 offset doc parts)
spelled_parts file offset doc dot end chars [] h = tt
spelled_parts file offset doc dot end chars (trivia w is ∷ ps) (rest, parts, here, more) = spelled_parts file (offset + byte_len w) (doc || is) _ end rest ps more
spelled_parts file offset doc dot end chars (token w kind ∷ ps) (rest, parts, here, more) = (
  record { edition_is = refl; dot = dot; chars = w; spells = here.longest.spells; text_is = refl },
  spelled_parts file (offset + byte_len w) false _ end rest ps more,
)

pub all_spelled : (text : List ℕ) (tokens : List Token) → Lexes 0 E2015 text tokens → Each IsSpelled tokens
all_spelled text tokens h = subst (Each IsSpelled) (sym h.tokens) (spelled_parts 0 (byte_len h.mark) false false h.dot h.text h.parts h.tiles)

-- ---- kinds by the first character

-- a character that begins no literal, no lifetime and no raw identifier
abbrev pub is_own : ℕ → Bool
is_own c = not (is_ascii_digit c || (c == 34 || (c == 39 || (c == 98 || c == 114))))

-- an identifier that isn't raw, a delimiter or punctuation
abbrev IsOwn : TokenKind → Type 0
IsOwn (Ident name raw) = raw ≡ false
IsOwn Open = Unit {0}
IsOwn Close = Unit {0}
IsOwn Punct = Unit {0}
IsOwn _ = ⊥

-- the first character is another one
other : {P : Type 0} (c d : ℕ) (cs ds : List ℕ) → is_own c ≡ true → is_own d ≡ false → c ∷ cs ≡ d ∷ ds → P
other c d cs ds own none e = let same : c ≡ d = cc in no_true (sym none ∙ subst (λ x. is_own x ≡ true) same own)

no_digit : {P : Type 0} (a b : Bool) → a ≡ true → not (a || b) ≡ true → P
no_digit true b h k = no_true k
no_digit false b h k = no_true h

no_string : {P : Type 0} (byte : Bool) (c : ℕ) (cs vs : List ℕ) → is_own c ≡ true → IsString byte (c ∷ cs) vs → P
no_string true c cs vs own (inl h) = other c 98 cs _ own refl h.parts
no_string false c cs vs own (inl h) = other c 34 cs _ own refl h.parts
no_string true c cs vs own (inr (n, h)) = other c 98 cs _ own refl h.parts
no_string false c cs vs own (inr (n, h)) = other c 114 cs _ own refl h.parts

kind_own : (dot : Bool) (c : ℕ) (cs : List ℕ) (kind : TokenKind) → is_own c ≡ true → Spells dot (c ∷ cs) kind → IsOwn kind
kind_own dot c cs (Ident name true) own h = other c 114 cs _ own refl h.parts
kind_own dot c cs (Ident name false) own h = refl
kind_own dot c cs (Lifetime name) own h = other c 39 cs _ own refl h.1
kind_own dot c cs (Int value suffix) own h = no_digit (is_ascii_digit c) _ h.digit own
kind_own dot c cs (Char value) own h = other c 39 cs _ own refl h.parts
kind_own dot c cs (Byte value) own h = other c 98 cs _ own refl h.parts
kind_own dot c cs (Str value) own h = no_string false c cs h.0 own h.1
kind_own dot c cs (ByteStr value) own h = no_string true c cs value own h
kind_own dot c cs Open own h = tt
kind_own dot c cs Close own h = tt
kind_own dot c cs Punct own h = tt

own_of : (dot : Bool) (w : List ℕ) (kind : TokenKind) → starts is_own w ≡ true → Spells dot w kind → IsOwn kind
own_of dot [] kind own h = no_true own
own_of dot (c ∷ cs) kind own h = kind_own dot c cs kind own h

-- ---- words

-- a text that only an identifier spells
pub record IsWord (w : List ℕ) : Type 0 where
  pub bytes : encode_utf8_all w ≡ w
  pub own : starts is_own w ≡ true
  pub no_open : spelling.is_among opening_delimiters w ≡ false
  pub no_close : spelling.is_among closing_delimiters w ≡ false
  pub no_punct : spelling.is_among punctuation w ≡ false

word_of : (dot : Bool) (chars w : List ℕ) (kind : TokenKind) (text : List ℕ) → IsWord w → Spells dot chars kind → text ≡ encode_utf8_all chars → said kind text ≡ w → kind ≡ Ident w false
word_of dot chars w kind text word spells is says = by_kind kind spells says
  where
    -- the kind where the text is the word
    at : (k : TokenKind) → Spells dot chars k → text ≡ w → Spells dot w k
    at k h e = subst (λ cs. Spells dot cs k) (encodes_same chars w (sym is ∙ e ∙ sym word.bytes)) h

    own : (k : TokenKind) → Spells dot chars k → text ≡ w → IsOwn k
    own k h e = own_of dot w k word.own (at k h e)

    by_kind : (k : TokenKind) → Spells dot chars k → said k text ≡ w → k ≡ Ident w false
    by_kind (Ident name false) h e = ap (λ n. Ident n false) e
    by_kind (Ident name true) h e = no_true (sym (own (Ident name true) h e))
    by_kind (Lifetime name) h e = absurd (own (Lifetime name) h e)
    by_kind (Int value suffix) h e = absurd (own (Int value suffix) h e)
    by_kind (Char value) h e = absurd (own (Char value) h e)
    by_kind (Byte value) h e = absurd (own (Byte value) h e)
    by_kind (Str value) h e = absurd (own (Str value) h e)
    by_kind (ByteStr value) h e = absurd (own (ByteStr value) h e)
    by_kind Open h e = no_true (sym word.no_open ∙ at Open h e)
    by_kind Close h e = no_true (sym word.no_close ∙ at Close h e)
    by_kind Punct h e = no_true (sym word.no_punct ∙ at Punct h e)

-- a token that says a word is an identifier
pub word_kind : (t : Token) (w : List ℕ) → IsSpelled t → said t.kind t.text ≡ w → IsWord w → t.kind ≡ Ident w false
word_kind t w s says word = word_of s.dot s.chars w t.kind t.text word s.spells s.text_is says

-- a token that says a word with a letter in front is spelled so
pub word_is : (t : Token) (w : List ℕ) → IsSpelled t → said t.kind t.text ≡ w → IsWord w → is_lettered w ≡ true → Is w t
word_is t w s says word lettered = ap (λ k. spelling_of k t.text) (word_kind t w s says word) ∙ ap (λ c. cond c (Some w) None) lettered

-- ---- signs

sign_of : (dot : Bool) (chars : List ℕ) (x : ℕ) (kind : TokenKind) (text : List ℕ) → is_sign x ≡ true → Spells dot chars kind → text ≡ encode_utf8_all chars → said kind text ≡ x ∷ [] → spelling_of kind text ≡ Some (x ∷ [])
sign_of dot chars x kind text sign spells is says = by_kind kind spells says
  where
    -- the kind where the text is the sign
    own : (k : TokenKind) → Spells dot chars k → text ≡ x ∷ [] → IsOwn k
    own k h e = kind_own dot x [] k (each_sign is_own x refl sign) (subst (λ cs. Spells dot cs k) (encodes_same chars (x ∷ []) (sym is ∙ e ∙ sym (sign_bytes x sign))) h)

    by_kind : (k : TokenKind) → Spells dot chars k → said k text ≡ x ∷ [] → spelling_of k text ≡ Some (x ∷ [])
    by_kind (Ident name false) h e = absurd (no_sign_name chars x sign h.0 (sym h.1 ∙ e))
    by_kind (Ident name true) h e = no_true (sym (own (Ident name true) h e))
    by_kind (Lifetime name) h e = absurd (own (Lifetime name) h e)
    by_kind (Int value suffix) h e = absurd (own (Int value suffix) h e)
    by_kind (Char value) h e = absurd (own (Char value) h e)
    by_kind (Byte value) h e = absurd (own (Byte value) h e)
    by_kind (Str value) h e = absurd (own (Str value) h e)
    by_kind (ByteStr value) h e = absurd (own (ByteStr value) h e)
    by_kind Open h e = ap (λ (w : List ℕ). Some w) e
    by_kind Close h e = ap (λ (w : List ℕ). Some w) e
    by_kind Punct h e = ap (λ (w : List ℕ). Some w) e

-- a token that says a sign is spelled so
pub sign_is : (t : Token) (x : ℕ) → IsSpelled t → said t.kind t.text ≡ x ∷ [] → is_sign x ≡ true → Is (x ∷ []) t
sign_is t x s says sign = sign_of s.dot s.chars x t.kind t.text sign s.spells s.text_is says

-- ---- names and integers

-- what each of a list has, a text of the list has
among_all : (p : List ℕ → Bool) (list : List (List ℕ)) (w : List ℕ) → list_all p list ≡ true → is_among list w ≡ true → p w ≡ true
among_all p [] w a h = no_true h
among_all p (x ∷ xs) w a h = here (bytes_eq x w) (λ e. subst (λ y. p y ≡ true) ((bytes_eq-Decides x w).0 e) (and_parts (p x) (list_all p xs) a).0) (among_all p xs w (and_parts (p x) (list_all p xs) a).1) h
  where
    here : (c : Bool) → (c ≡ true → p w ≡ true) → (is_among xs w ≡ true → p w ≡ true) → (c || is_among xs w) ≡ true → p w ≡ true
    here true f g k = f refl
    here false f g k = g k

none_of : (b : Bool) → (b ≡ true → ⊥) → b ≡ false
none_of true f = absurd (f refl)
none_of false f = refl

-- a word that is no keyword of 2015 is none of any edition
no_keyword : (word : List ℕ) → form.is_keyword (class_of E2015 word) ≡ false → is_among always word ≡ false
unfolding class_of
no_keyword word h = here (is_among always word) h
  where
    here : (c : Bool) → form.is_keyword (cond c class.Keyword (cond (is_among from_2018 word) (class_of_new E2015 word) class.Ident)) ≡ false → c ≡ false
    here true k = no_true (sym k)
    here false k = refl

-- a word that is no keyword is none that the grammar writes
no_written : (word : List ℕ) → is_among always word ≡ false → is_one_of (strict ++ signs) (cond (is_lettered word) (Some word) None) ≡ false
no_written word h = here (is_lettered word) refl
  where
    kept : (a b : Bool) → a ≡ false → b ≡ true → (a || not b) ≡ true → ⊥
    kept true b h k e = no_true (sym h)
    kept false true h k e = no_true e
    kept false false h k e = no_true k

    here : (c : Bool) → is_lettered word ≡ c → is_one_of (strict ++ signs) (cond c (Some word) None) ≡ false
    here true lettered = none_of _ (λ (e : is_among (strict ++ signs) word ≡ true). kept (is_among always word) (is_lettered word) h lettered (among_all (λ x. is_among always x || not (is_lettered x)) (strict ++ signs) word refl e))
    here false lettered = refl

same_keyword : (c : Class) → tree.is_keyword c ≡ form.is_keyword c
same_keyword class.Keyword = refl
same_keyword class.Weak = refl
same_keyword class.Ident = refl

unless : {A : Type 0} (a b : A) (k : Bool) → cond (not k) (Some a) None ≡ Some b → k ≡ false
unless a b true h = none_some h
unless a b false h = refl

-- the token with another edition and another kind
abbrev as_kind : Token → Edition → TokenKind → Token
as_kind t e k = record { kind = k; text = t.text; span = t.span; edition = e; marks = t.marks; doc = t.doc }

name_of_kind : (t : Token) (kind : TokenKind) (name : List ℕ) → name_in E2015 kind ≡ Some name → Name (as_kind t E2015 kind)
name_of_kind t (Ident word true) name h = refl
name_of_kind t (Ident word false) name h =
    let k = unless word name (form.is_keyword (class_of E2015 word)) h in
    ap (λ c. not c && not (is_one_of (strict ++ signs) (cond (is_lettered word) (Some word) None))) (same_keyword (class_of E2015 word) ∙ k)
    ∙ ap not (no_written word (no_keyword word k))
name_of_kind t (Lifetime word) name h = none_some h
name_of_kind t (Int value suffix) name h = none_some h
name_of_kind t (Char value) name h = none_some h
name_of_kind t (Byte value) name h = none_some h
name_of_kind t (Str value) name h = none_some h
name_of_kind t (ByteStr value) name h = none_some h
name_of_kind t Open name h = none_some h
name_of_kind t Close name h = none_some h
name_of_kind t Punct name h = none_some h

-- a token that names a name is a name of the grammar
pub name_is : (t : Token) (name : List ℕ) → IsSpelled t → name_in E2015 t.kind ≡ Some name → Name t
name_is t name s h = subst (λ e. Name (as_kind t e t.kind)) (sym s.edition_is) (name_of_kind t t.kind name h)

int_of_kind : (t : Token) (kind : TokenKind) (value : ℕ) → int_in kind ≡ Some value → IsLiteralToken (as_kind t t.edition kind)
int_of_kind t (Int number suffix) value h = refl
int_of_kind t (Ident word true) value h = none_some h
int_of_kind t (Ident word false) value h = none_some h
int_of_kind t (Lifetime word) value h = none_some h
int_of_kind t (Char number) value h = none_some h
int_of_kind t (Byte number) value h = none_some h
int_of_kind t (Str string) value h = none_some h
int_of_kind t (ByteStr string) value h = none_some h
int_of_kind t Open value h = none_some h
int_of_kind t Close value h = none_some h
int_of_kind t Punct value h = none_some h

-- an integer is a literal of the grammar
pub int_is : (t : Token) (value : ℕ) → int_in t.kind ≡ Some value → IsLiteralToken t
int_is t value h = int_of_kind t t.kind value h

-- ---- what may stand in a macro's text

free_kind : (kind : TokenKind) (text : List ℕ) → said kind text ≡ codes "\"{}\"" → is_one_of delimiters (spelling_of kind text) ≡ false
free_kind (Ident word true) text h = refl
free_kind (Ident word false) text h = ap (λ n. is_one_of delimiters (cond (is_lettered n) (Some n) None)) h
free_kind (Lifetime word) text h = refl
free_kind (Int value suffix) text h = refl
free_kind (Char value) text h = refl
free_kind (Byte value) text h = refl
free_kind (Str value) text h = refl
free_kind (ByteStr value) text h = refl
free_kind Open text h = ap (is_among delimiters) h
free_kind Close text h = ap (is_among delimiters) h
free_kind Punct text h = ap (is_among delimiters) h

-- `"{}"` is no delimiter
pub format_is_free : (t : Token) → said t.kind t.text ≡ codes "\"{}\"" → is_spelled delimiters t ≡ false
format_is_free t h = free_kind t.kind t.text h

-- nor is a name
pub name_is_free : (t : Token) → Name t → is_spelled delimiters t ≡ false
name_is_free t is = by_spelling (tree.spelling t) (and_parts (tree.is_name t) (not (is_written t)) is).1
  where
    unlike : (a : Bool) → not a ≡ true → a ≡ true → ⊥
    unlike true h k = no_true h
    unlike false h k = no_true k

    by_spelling : (o : Option (List ℕ)) → not (is_one_of (strict ++ signs) o) ≡ true → is_one_of delimiters o ≡ false
    by_spelling None h = refl
    by_spelling (Some w) h = none_of _ (λ (e : is_among delimiters w ≡ true). unlike (is_among (strict ++ signs) w) h (among_all (is_among (strict ++ signs)) delimiters w refl e))
