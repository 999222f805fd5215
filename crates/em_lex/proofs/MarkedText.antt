-- The parts of a text with chosen words raw: their bytes, their tokens, and how the two texts look.
use Rattle.std.proofs.Common.{◌≡◌, ℕ, suc, ◌+◌, ◌-◌, Bool, true, false, cond, ◌||◌, List, [], ◌∷◌, ◌++◌, length, take, drop, codes, encode_utf8_all, refl, subst, sym, ap, ◌∙◌, arith, length-append, append_assoc}
use Rattle.std.specs.Prelude.{All}
use Rattle.std.specs.Str.{all_scalars}
use Rattle.std.proofs.lemmas.Bool.{and_parts}
use Rattle.std.proofs.lemmas.List.{take_at, drop_at}
use Rattle.std.proofs.lemmas.Str.{encodes-append, encode_ascii}
use Rattle.em_base.specs.declared.edition.Edition.TheVariants.{E2015, E2018}
use Rattle.em_base.specs.declared.token.Token.{Token}
use Rattle.em_base.specs.declared.token.TokenKind.{TokenKind}
use Rattle.em_base.specs.declared.token.TokenKind.TheVariants.{Ident}
use Rattle.em_lex.specs.Characters.{Chars}
use Rattle.em_lex.specs.Spelling.{is_never_raw}
use Rattle.em_lex.specs.Lexing.{Part, trivia, token, spelled, byte_len, tokens_of}
use Rattle.em_lex.specs.Marking.{respelled, growth, raw_kind, moved_token, moved, marked, HasRawForm}
use Rattle.em_lex.proofs.Base.{both}
use Rattle.em_lex.proofs.Places.{token_is}
use Rattle.em_lex.proofs.WalkLemmas.{byte_len-append}
use Rattle.em_lex.proofs.TextLemmas.{encodes-byte_len}

-- ---- the parts

abbrev pub all_of : List Part → Chars
all_of [] = []
all_of (p ∷ ps) = spelled p ++ all_of ps

-- parts in which some words are raw
pub data Raises : List Part → List Part → Type 0 where
  ends : Raises [] []
  keeps : {ps qs : List Part} (p : Part) → Raises ps qs → Raises (p ∷ ps) (p ∷ qs)
  lifts : {ps qs : List Part} (w : Chars) (name : List ℕ) → is_never_raw name ≡ false → Raises ps qs → Raises (token w (Ident name false) ∷ ps) (token (114 ∷ 35 ∷ w) (Ident name true) ∷ qs)

-- the spelling of a token, raw or not
abbrev pub respelt : Bool → Chars → Chars
respelt c w = cond c (114 ∷ 35 ∷ w) w

abbrev pub rekind : Bool → TokenKind → TokenKind
rekind c kind = cond c (raw_kind kind) kind

-- the parts with the chosen tokens raw
abbrev pub raised : (Token → Bool) → ℕ → ℕ → Bool → List Part → List Part
raised chosen file offset doc [] = []
raised chosen file offset doc (trivia w is ∷ ps) = trivia w is ∷ raised chosen file (offset + byte_len w) (doc || is) ps
raised chosen file offset doc (token w kind ∷ ps) =
    token (respelt (chosen (token_is file E2015 offset doc w kind)) w) (rekind (chosen (token_is file E2015 offset doc w kind)) kind) ∷ raised chosen file (offset + byte_len w) false ps

pub all_head : (chosen : Token → Bool) (t : Token) (ts : List Token) → All (HasRawForm chosen) (t ∷ ts) → HasRawForm chosen t
all_head chosen t ts a = a 0 t (omega arith)

pub all_tail : (chosen : Token → Bool) (t : Token) (ts : List Token) → All (HasRawForm chosen) (t ∷ ts) → All (HasRawForm chosen) ts
all_tail chosen t ts a k d l = a (suc k) d (omega (arith, l))

pub raised_raises : (chosen : Token → Bool) (file offset : ℕ) (doc : Bool) (ps : List Part) → All (HasRawForm chosen) (tokens_of file E2015 offset doc ps) → Raises ps (raised chosen file offset doc ps)
raised_raises chosen file offset doc [] a = ends
raised_raises chosen file offset doc (trivia w is ∷ ps) a = keeps (trivia w is) (raised_raises chosen file (offset + byte_len w) (doc || is) ps a)
raised_raises chosen file offset doc (token w kind ∷ ps) a =
    here (chosen t) (all_head chosen t (tokens_of file E2015 (offset + byte_len w) false ps) a)
    (raised_raises chosen file (offset + byte_len w) false ps (all_tail chosen t (tokens_of file E2015 (offset + byte_len w) false ps) a))
  where
    t : Token
    t = token_is file E2015 offset doc w kind

    here : (c : Bool) → (c ≡ true → (name : List ℕ) × (kind ≡ Ident name false) × (is_never_raw name ≡ false)) → {qs : List Part} → Raises ps qs → Raises (token w kind ∷ ps) (token (respelt c w) (rekind c kind) ∷ qs)
    here false f r = keeps (token w kind) r
    here true f {qs} r = let (name, is, free) = f refl in subst (λ k. Raises (token w k ∷ ps) (token (114 ∷ 35 ∷ w) (raw_kind k) ∷ qs)) (sym is) (lifts w name free r)

-- ---- the bytes

encode_respelt : (c : Bool) (w : Chars) → cond c (codes "r#" ++ encode_utf8_all w) (encode_utf8_all w) ≡ encode_utf8_all (respelt c w)
encode_respelt true w = let a = encode_ascii 114 (omega arith) in let b = encode_ascii 35 (omega arith) in rw (a, b)
encode_respelt false w = refl

-- the marked text, cut at its first token
cut_marked : (chosen : Token → Bool) (file at : ℕ) (doc : Bool) (gap w rest : Chars) (kind : TokenKind) (ts : List Token)
    → marked chosen at (encode_utf8_all (gap ++ (w ++ rest))) (token_is file E2015 (at + byte_len gap) doc w kind ∷ ts)
    ≡ encode_utf8_all gap ++ (encode_utf8_all (respelt (chosen (token_is file E2015 (at + byte_len gap) doc w kind)) w) ++ marked chosen (at + byte_len gap + byte_len w) (encode_utf8_all rest) ts)
cut_marked chosen file at doc gap w rest kind ts =
    let t : Token = token_is file E2015 (at + byte_len gap) doc w kind in
    let g = encodes-byte_len gap in
    let l = encodes-byte_len w in
    let before : at + byte_len gap - at ≡ length (encode_utf8_all gap) = omega (arith, g) in
    let both_len : length (encode_utf8_all gap ++ encode_utf8_all w) ≡ length (encode_utf8_all gap) + length (encode_utf8_all w) = length-append (encode_utf8_all gap) (encode_utf8_all w) in
    let through : length (encode_utf8_all gap ++ encode_utf8_all w) ≡ at + byte_len gap + byte_len w - at = omega (arith, both_len, g, l) in
    let whole : encode_utf8_all (gap ++ (w ++ rest)) ≡ encode_utf8_all gap ++ (encode_utf8_all w ++ encode_utf8_all rest) = encodes-append gap (w ++ rest) ∙ ap (λ x. encode_utf8_all gap ++ x) (encodes-append w rest) in
    let front : take (at + byte_len gap - at) (encode_utf8_all (gap ++ (w ++ rest))) ≡ encode_utf8_all gap =
    ap (take (at + byte_len gap - at)) whole ∙ ap (λ n. take n (encode_utf8_all gap ++ (encode_utf8_all w ++ encode_utf8_all rest))) before
    ∙ take_at (encode_utf8_all gap) (encode_utf8_all w ++ encode_utf8_all rest) (length (encode_utf8_all gap)) refl in
    let left : drop (at + byte_len gap + byte_len w - at) (encode_utf8_all (gap ++ (w ++ rest))) ≡ encode_utf8_all rest =
    ap (drop (at + byte_len gap + byte_len w - at)) (whole ∙ sym (append_assoc (encode_utf8_all gap) (encode_utf8_all w) (encode_utf8_all rest)))
    ∙ drop_at (encode_utf8_all gap ++ encode_utf8_all w) (encode_utf8_all rest) (at + byte_len gap + byte_len w - at) through in
    ap (λ x. x ++ (respelled chosen t ++ marked chosen (at + byte_len gap + byte_len w) (drop (at + byte_len gap + byte_len w - at) (encode_utf8_all (gap ++ (w ++ rest)))) ts)) front
    ∙ ap (λ x. encode_utf8_all gap ++ (respelled chosen t ++ marked chosen (at + byte_len gap + byte_len w) x ts)) left
    ∙ ap (λ x. encode_utf8_all gap ++ (x ++ marked chosen (at + byte_len gap + byte_len w) (encode_utf8_all rest) ts)) (encode_respelt (chosen t) w)

-- the marked text behind a token's end, of which `gap` is trivia already passed
marked_is : (chosen : Token → Bool) (file at : ℕ) (doc : Bool) (gap : Chars) (ps : List Part)
    → marked chosen at (encode_utf8_all (gap ++ all_of ps)) (tokens_of file E2015 (at + byte_len gap) doc ps) ≡ encode_utf8_all (gap ++ all_of (raised chosen file (at + byte_len gap) doc ps))
marked_is chosen file at doc gap [] = refl
marked_is chosen file at doc gap (trivia w is ∷ ps) =
    let g = byte_len-append gap w in
    let place : at + byte_len (gap ++ w) ≡ at + byte_len gap + byte_len w = omega (arith, g) in
    let more = marked_is chosen file at (doc || is) (gap ++ w) ps in
    ap (λ x. marked chosen at (encode_utf8_all x) (tokens_of file E2015 (at + byte_len gap + byte_len w) (doc || is) ps)) (sym (append_assoc gap w (all_of ps)))
    ∙ ap (λ n. marked chosen at (encode_utf8_all ((gap ++ w) ++ all_of ps)) (tokens_of file E2015 n (doc || is) ps)) (sym place)
    ∙ more
    ∙ ap (λ n. encode_utf8_all ((gap ++ w) ++ all_of (raised chosen file n (doc || is) ps))) place
    ∙ ap encode_utf8_all (append_assoc gap w (all_of (raised chosen file (at + byte_len gap + byte_len w) (doc || is) ps)))
marked_is chosen file at doc gap (token w kind ∷ ps) =
    let c : Bool = chosen (token_is file E2015 (at + byte_len gap) doc w kind) in
    let place : at + byte_len gap + byte_len w + 0 ≡ at + byte_len gap + byte_len w = omega arith in
    let rest : Chars = all_of (raised chosen file (at + byte_len gap + byte_len w) false ps) in
    let more : marked chosen (at + byte_len gap + byte_len w) (encode_utf8_all (all_of ps)) (tokens_of file E2015 (at + byte_len gap + byte_len w) false ps) ≡ encode_utf8_all rest =
    subst (λ n. marked chosen (at + byte_len gap + byte_len w) (encode_utf8_all (all_of ps)) (tokens_of file E2015 n false ps) ≡ encode_utf8_all (all_of (raised chosen file n false ps))) place
    (marked_is chosen file (at + byte_len gap + byte_len w) false [] ps) in
    cut_marked chosen file at doc gap w (all_of ps) kind (tokens_of file E2015 (at + byte_len gap + byte_len w) false ps)
    ∙ ap (λ x. encode_utf8_all gap ++ (encode_utf8_all (respelt c w) ++ x)) more
    ∙ ap (λ x. encode_utf8_all gap ++ x) (sym (encodes-append (respelt c w) rest))
    ∙ sym (encodes-append gap (respelt c w ++ rest))

-- the whole text
pub marked_text : (chosen : Token → Bool) (file : ℕ) (mark : Chars) (ps : List Part)
    → marked chosen 0 (encode_utf8_all (mark ++ all_of ps)) (tokens_of file E2015 (byte_len mark) false ps) ≡ encode_utf8_all (mark ++ all_of (raised chosen file (byte_len mark) false ps))
marked_text chosen file mark ps =
    let place : 0 + byte_len mark ≡ byte_len mark = omega arith in
    subst (λ n. marked chosen 0 (encode_utf8_all (mark ++ all_of ps)) (tokens_of file E2015 n false ps) ≡ encode_utf8_all (mark ++ all_of (raised chosen file n false ps))) place (marked_is chosen file 0 false mark ps)

-- ---- the tokens

respelt_len : (c : Bool) (w : Chars) → byte_len (respelt c w) ≡ byte_len w + cond c 2 0
respelt_len true w =
    let two : byte_len (114 ∷ 35 ∷ []) ≡ 2 = refl in
    let more : byte_len (114 ∷ 35 ∷ w) ≡ byte_len (114 ∷ 35 ∷ []) + byte_len w = byte_len-append (114 ∷ 35 ∷ []) w in
    omega (arith, two, more)
respelt_len false w = omega arith

-- a token of these parts
abbrev token_from : ℕ → Bool → TokenKind → List ℕ → ℕ → ℕ → Token
token_from file doc kind text start end = record { kind = kind; text = text; span = record { file = file; start = start; end = end }; edition = E2018; marks = []; doc = doc }

token_moved : (chosen : Token → Bool) (file offset by : ℕ) (doc : Bool) (w : Chars) (kind : TokenKind)
    → moved_token chosen E2018 by (token_is file E2015 offset doc w kind)
    ≡ token_is file E2018 (offset + by) doc (respelt (chosen (token_is file E2015 offset doc w kind)) w) (rekind (chosen (token_is file E2015 offset doc w kind)) kind)
token_moved chosen file offset by doc w kind = here (chosen (token_is file E2015 offset doc w kind))
  where
    here : (c : Bool) → token_from file doc (rekind c kind) (cond c (codes "r#" ++ encode_utf8_all w) (encode_utf8_all w)) (offset + by) (offset + byte_len w + by + cond c 2 0) ≡ token_is file E2018 (offset + by) doc (respelt c w) (rekind c kind)
    here c =
        ap (λ x. token_from file doc (rekind c kind) x (offset + by) (offset + byte_len w + by + cond c 2 0)) (encode_respelt c w)
        ∙ ap (λ n. token_from file doc (rekind c kind) (encode_utf8_all (respelt c w)) (offset + by) n) (let l = respelt_len c w in let e : offset + byte_len w + by + cond c 2 0 ≡ offset + by + byte_len (respelt c w) = omega (arith, l) in e)

moved_is : (chosen : Token → Bool) (file offset by : ℕ) (doc : Bool) (ps : List Part) → moved chosen E2018 by (tokens_of file E2015 offset doc ps) ≡ tokens_of file E2018 (offset + by) doc (raised chosen file offset doc ps)
moved_is chosen file offset by doc [] = refl
moved_is chosen file offset by doc (trivia w is ∷ ps) =
    let place : offset + byte_len w + by ≡ offset + by + byte_len w = omega arith in
    moved_is chosen file (offset + byte_len w) by (doc || is) ps ∙ ap (λ n. tokens_of file E2018 n (doc || is) (raised chosen file (offset + byte_len w) (doc || is) ps)) place
moved_is chosen file offset by doc (token w kind ∷ ps) =
    let t : Token = token_is file E2015 offset doc w kind in
    let l = respelt_len (chosen t) w in
    let place : offset + byte_len w + (by + growth chosen t) ≡ offset + by + byte_len (respelt (chosen t) w) = omega (arith, l) in
    ap (λ x. x ∷ moved chosen E2018 (by + growth chosen t) (tokens_of file E2015 (offset + byte_len w) false ps)) (token_moved chosen file offset by doc w kind)
    ∙ ap (λ xs. token_is file E2018 (offset + by) doc (respelt (chosen t) w) (rekind (chosen t) kind) ∷ xs)
    (moved_is chosen file (offset + byte_len w) (by + growth chosen t) false ps ∙ ap (λ n. tokens_of file E2018 n false (raised chosen file (offset + byte_len w) false ps)) place)

pub moved_tokens : (chosen : Token → Bool) (file offset : ℕ) (ps : List Part) → moved chosen E2018 0 (tokens_of file E2015 offset false ps) ≡ tokens_of file E2018 offset false (raised chosen file offset false ps)
moved_tokens chosen file offset ps = let place : offset + 0 ≡ offset = omega arith in moved_is chosen file offset 0 false ps ∙ ap (λ n. tokens_of file E2018 n false (raised chosen file offset false ps)) place

-- ---- scalars

scalars_append : (xs ys : Chars) → all_scalars xs ≡ true → all_scalars ys ≡ true → all_scalars (xs ++ ys) ≡ true
scalars_append [] ys h k = k
scalars_append (c ∷ xs) ys h k = let a = and_parts _ (all_scalars xs) h in both _ (all_scalars (xs ++ ys)) a.0 (scalars_append xs ys a.1 k)

scalars_parts : (xs ys : Chars) → all_scalars (xs ++ ys) ≡ true → (all_scalars xs ≡ true) × (all_scalars ys ≡ true)
scalars_parts [] ys h = (refl, h)
scalars_parts (c ∷ xs) ys h = let a = and_parts _ (all_scalars (xs ++ ys)) h in let b = scalars_parts xs ys a.1 in (both _ (all_scalars xs) a.0 b.0, b.1)

scalars_raised : {ps qs : List Part} → Raises ps qs → all_scalars (all_of ps) ≡ true → all_scalars (all_of qs) ≡ true
scalars_raised ends h = h
scalars_raised (keeps {ps} {qs} p r) h = let a = scalars_parts (spelled p) (all_of ps) h in scalars_append (spelled p) (all_of qs) a.0 (scalars_raised r a.1)
scalars_raised (lifts {ps} {qs} w name free r) h = let a = scalars_parts w (all_of ps) h in scalars_append w (all_of qs) a.0 (scalars_raised r a.1)

pub scalars_marked : (mark : Chars) {ps qs : List Part} → Raises ps qs → all_scalars (mark ++ all_of ps) ≡ true → all_scalars (mark ++ all_of qs) ≡ true
scalars_marked mark {ps} {qs} r h = let a = scalars_parts mark (all_of ps) h in scalars_append mark (all_of qs) a.0 (scalars_raised r a.1)
