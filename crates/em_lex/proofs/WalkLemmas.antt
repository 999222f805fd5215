-- The walk through a text, piece by piece.
use Rattle.std.proofs.Common.{◌≡◌, inl, inr, true, ◌==◌, slice_index, ℕ, ◌+◌, ◌<◌, ◌≤◌, Bool, false, ◌||◌, List, [], ◌∷◌, ◌++◌, length, take, drop, refl, sym, ap, ◌∙◌, subst, arith, length-append, append_assoc, append-nil, take-append-drop, length-drop}
use Rattle.std.proofs.lemmas.Bool.{both_ways, eqb-true, or_cases}
use Rattle.std.proofs.lemmas.List.{drop-drop}
use Rattle.std.proofs.lemmas.List.Sums.{sum_by-append}
use Rattle.std.proofs.lemmas.Str.{len_utf8_bounds}
use Rattle.std.specs.Char.{len_utf8}
use Rattle.std.specs.Str.{bytes_eq}
use Rattle.em_base.specs.declared.edition.Edition.{Edition}
use Rattle.em_base.specs.declared.token.Token.{Token}
use Rattle.em_lex.specs.declared.error.LexKind.{LexKind}
use Rattle.em_lex.specs.declared.error.LexError.{LexError}
use Rattle.em_lex.specs.declared.error.LexError.TheVariants.{NoMemory, At, Limit}
use Rattle.em_lex.specs.declared.piece.Piece.{Piece}
use Rattle.em_lex.specs.declared.piece.Piece.TheVariants.{Trivia}
use Rattle.em_lex.specs.declared.lexer.Place.{Place}
use Rattle.em_lex.specs.Characters.{Chars, is_blank}
use Rattle.em_lex.specs.Literals.{opening, closing}
use Rattle.em_lex.specs.Faults.{Fault as Stands, unknown, comment, prefix, hash_r, hash_br, float, number, number_suffix, unclosed, literal_suffix, body, lifetime, First}
use Rattle.em_lex.specs.Lexing.{Part, trivia, token, spelled, is_dot, PartAt, Tiles, byte_len, tokens_of}
use Rattle.em_lex.specs.Scan.{step}
use Rattle.em_lex.specs.Walk.{token_at, behind_trivia, behind_token, piece_within, Kept, FaultAt, RefusedAt, LexesFrom, RefusedFrom}
use Rattle.em_lex.proofs.Base.{take_front, drop_front}
use Rattle.em_lex.proofs.Heads.{step_blank}
use Rattle.em_lex.proofs.LexingLemmas.{Found, part, fault, found, part_some}

pub byte_len-cut : (n : ℕ) (cs : Chars) → byte_len (take n cs) + byte_len (drop n cs) ≡ byte_len cs
byte_len-cut n cs = sym (sum_by-append len_utf8 (take n cs) (drop n cs)) ∙ ap byte_len (take-append-drop n cs)

pub byte_len-append : (v w : Chars) → byte_len (v ++ w) ≡ byte_len v + byte_len w
byte_len-append v w = sum_by-append len_utf8 v w

pub byte_len-take : (n : ℕ) (cs : Chars) → byte_len (take n cs) ≤ byte_len cs
byte_len-take n cs = let c = byte_len-cut n cs in omega (arith, c)

pub length-byte_len : (cs : Chars) → length cs ≤ byte_len cs
length-byte_len [] = omega arith
length-byte_len (c ∷ cs) =
    let more = length-byte_len cs in
    let one = (len_utf8_bounds c).0 in
    let both = sum_by-append len_utf8 (c ∷ []) cs in
    let first : byte_len (c ∷ []) ≡ len_utf8 c = omega arith in
    omega (arith, more, one, both, first)

-- a fault stands in the text
pub fault_fits : (e : Edition) (dot : Bool) (text : Chars) (kind : LexKind) (at : ℕ) → Stands e dot text kind at → at ≤ length text
fault_fits e dot text kind at (unknown c cs is h k a) = omega (arith, a)
fault_fits e dot text kind at (comment cs is none k a) = omega (arith, a)
fault_fits e dot text kind at (prefix w c cs is h r s k a) = omega (arith, a)
fault_fits e dot text kind at (hash_r cs is none no_word k a) = omega (arith, a)
fault_fits e dot text kind at (hash_br cs is none k a) = omega (arith, a)
fault_fits e dot text kind at (float w left pt tail d n b c f k a) = omega (arith, a)
fault_fits e dot text kind at (number w left pt tail n c f k a) = omega (arith, a)
fault_fits e dot text kind at (number_suffix w left pt tail n c f k a) = omega (arith, a)
fault_fits e dot text kind at (unclosed byte form cs is none no_word k a) = omega (arith, a)
fault_fits e dot text kind at (literal_suffix byte form cs b after is c s k a) = omega (arith, a)
fault_fits e dot text kind at (body byte form cs b after good value bad c is closed parts us free k a) =
    let l = ap (λ x. length x) is ∙ length-append (opening byte form) cs in
    let m = ap (λ x. length x) closed.parts ∙ length-append b (closing form ++ after) in
    let n = ap (λ x. length x) parts ∙ length-append good (c ∷ bad) in
    omega (arith, l, m, n, a)
fault_fits e dot text kind at (lifetime w c cs is h s none k a) = omega (arith, a)

pub found_within : (e : Edition) (dot : Bool) (text : Chars) (piece : Piece) → Found e dot text piece → piece_within piece text
found_within e dot text _ (part (trivia w doc) rest parts at) = let l = ap (λ x. length x) parts ∙ length-append w rest in omega (arith, l)
found_within e dot text _ (part (token w kind) rest parts at) = let l = ap (λ x. length x) parts ∙ length-append w rest in omega (arith, l)
found_within e dot text _ (fault kind at first) = fault_fits e dot text kind at first.stands

-- a piece further
pub record Next (e : Edition) (dot : Bool) (old new : List Token) (place next : Place) (rest : Chars) (len : ℕ) : Type 0 where
  pub p : Part
  pub left : Chars
  pub parts : rest ≡ spelled p ++ left
  pub at : PartAt e dot p left
  pub len_is : len ≡ length (spelled p)
  pub dot_is : next.dot ≡ is_dot p
  pub file_is : next.file ≡ place.file
  pub edition_is : next.edition ≡ place.edition
  pub start_is : next.start ≡ place.start + byte_len (spelled p)
  pub tokens : (ps : List Part) → old ++ tokens_of place.file place.edition place.start place.doc (p ∷ ps) ≡ new ++ tokens_of next.file next.edition next.start next.doc ps

pub next_part : (e : Edition) (dot : Bool) (old new : List Token) (place next : Place) (piece : Piece) (rest : Chars) (len : ℕ) → Found e dot rest piece → Kept old new place piece rest next len → Next e dot old new place next rest len
next_part e dot old new place next _ rest len (part (trivia w doc) left parts at) (n, b, l) =
    let taken : take (length w) rest ≡ w = ap (take (length w)) parts ∙ take_front w left in
    let next_is : next ≡ behind_trivia place (byte_len w) doc = b ∙ ap (λ x. behind_trivia place (byte_len x) doc) taken in
    record {
      p = trivia w doc;
      left = left;
      parts = parts;
      at = at;
      len_is = l;
      dot_is = ap (λ x. x.dot) next_is;
      file_is = ap (λ x. x.file) next_is;
      edition_is = ap (λ x. x.edition) next_is;
      start_is = ap (λ x. x.start) next_is;
      tokens = λ ps. ap (λ x. x ++ tokens_of place.file place.edition (place.start + byte_len w) (place.doc || doc) ps) (sym n) ∙ ap (λ (x : Place). new ++ tokens_of x.file x.edition x.start x.doc ps) (sym next_is);
    }
next_part e dot old new place next _ rest len (part (token w kind) left parts at) (n, b, l) =
    let taken : take (length w) rest ≡ w = ap (take (length w)) parts ∙ take_front w left in
    let next_is : next ≡ behind_token place (byte_len w) (bytes_eq w (46 ∷ [])) = b ∙ ap (λ x. behind_token place (byte_len x) (bytes_eq x (46 ∷ []))) taken in
    let t : Token = token_at place.file place.edition place.start place.doc kind w in
    let new_is : new ≡ old ++ t ∷ [] = n ∙ ap (λ x. old ++ token_at place.file place.edition place.start place.doc kind x ∷ []) taken in
    record {
      p = token w kind;
      left = left;
      parts = parts;
      at = at;
      len_is = l;
      dot_is = ap (λ x. x.dot) next_is;
      file_is = ap (λ x. x.file) next_is;
      edition_is = ap (λ x. x.edition) next_is;
      start_is = ap (λ x. x.start) next_is;
      tokens = λ ps. sym (append_assoc old (t ∷ []) (tokens_of place.file place.edition (place.start + byte_len w) false ps)) ∙ ap (λ x. x ++ tokens_of place.file place.edition (place.start + byte_len w) false ps) (sym new_is)
          ∙ ap (λ (x : Place). new ++ tokens_of x.file x.edition x.start x.doc ps) (sym next_is);
    }
next_part e dot old new place next _ rest len (fault kind at first) k = absurd k

-- Parts have led from the start of the text to this place, with these tokens, and whatever parts go on from here complete them.
pub record SoFar (file : ℕ) (e : Edition) (offset : ℕ) (text : Chars) (out : List Token) (place : Place) (rest : Chars) : Type 0 where
  pub goes : (ps : List Part) (d : Bool) (r : Chars) → Tiles e place.dot rest ps d r → (qs : List Part) × Tiles e false text qs d r × (tokens_of file e offset false qs ≡ out ++ tokens_of place.file place.edition place.start place.doc ps)
  pub place_is : place.start + byte_len rest ≡ offset + byte_len text
  pub file_is : place.file ≡ file
  pub edition_is : place.edition ≡ e

pub so_far-start : (file : ℕ) (e : Edition) (offset : ℕ) (text : Chars) → SoFar file e offset text [] (record { file = file; edition = e; start = offset; doc = false; dot = false }) text
so_far-start file e offset text = record { goes = λ ps d r t. (ps, t, refl); place_is = refl; file_is = refl; edition_is = refl }

pub so_far-next : (file : ℕ) (e : Edition) (offset : ℕ) (text : Chars) (out new : List Token) (place next : Place) (piece : Piece) (rest : Chars) (len : ℕ) → SoFar file e offset text out place rest → Found e place.dot rest piece → Kept out new place piece rest next len
    → SoFar file e offset text new next (drop len rest) × (0 < len) × (len ≤ length rest)
so_far-next file e offset text out new place next piece rest len far f k =
    let n = next_part e place.dot out new place next piece rest len f k in
    let l = ap (λ x. length x) n.parts ∙ length-append (spelled n.p) n.left in
    let some = part_some e place.dot n.p n.left n.at in
    let dropped : drop len rest ≡ n.left = ap (λ m. drop m rest) n.len_is ∙ ap (drop (length (spelled n.p))) n.parts ∙ drop_front (spelled n.p) n.left in
    let bytes : byte_len rest ≡ byte_len (spelled n.p) + byte_len n.left = ap byte_len n.parts ∙ byte_len-append (spelled n.p) n.left in
    let left_bytes = ap byte_len dropped in (
      record {
        goes = λ ps d r t.
            let given : Tiles e (is_dot n.p) n.left ps d r = subst (λ b. Tiles e b n.left ps d r) n.dot_is (subst (λ x. Tiles e next.dot x ps d r) dropped t) in
            let (qs, whole, toks) = far.goes (n.p ∷ ps) d r (n.left, n.parts, n.at, given) in
            (qs, whole, toks ∙ n.tokens ps);
        place_is = omega (arith, far.place_is, bytes, left_bytes, n.start_is);
        file_is = n.file_is ∙ far.file_is;
        edition_is = n.edition_is ∙ far.edition_is;
      },
      omega (arith, some, n.len_is),
      omega (arith, l, n.len_is),
    )

pub so_far-done : (file : ℕ) (e : Edition) (offset : ℕ) (text : Chars) (out : List Token) (place : Place) (rest : Chars) → SoFar file e offset text out place rest → length rest ≡ 0 → LexesFrom file e offset text out
so_far-done file e offset text out place [] far none =
    let (qs, whole, toks) = far.goes [] place.dot [] (refl, refl) in
    (qs, place.dot, whole, sym (append-nil out) ∙ sym toks)
so_far-done file e offset text out place (c ∷ cs) far none = absurd (omega (arith, none))

fault_first : (e : Edition) (dot : Bool) (place : Place) (piece : Piece) (rest : Chars) (offset : ℕ) (kind : LexKind) → Found e dot rest piece → FaultAt place piece rest offset kind
    → (at : ℕ) × First e dot rest kind at × (offset ≡ place.start + byte_len (take at rest))
fault_first e dot place _ rest offset kind (part (trivia w doc) left parts at) f = absurd f
fault_first e dot place _ rest offset kind (part (token w k) left parts at) f = absurd f
fault_first e dot place _ rest offset kind (fault k at first) (same, o) = (at, subst (λ k. First e dot rest k at) same first, o)

pub so_far-fails : (file : ℕ) (e : Edition) (offset : ℕ) (text : Chars) (out : List Token) (place : Place) (piece : Piece) (rest : Chars) (error : LexError) → SoFar file e offset text out place rest → Found e place.dot rest piece → RefusedAt place piece rest error → RefusedFrom e offset text error
so_far-fails file e offset text out place piece rest NoMemory far f r = tt
so_far-fails file e offset text out place piece rest (Limit l) far f r = absurd r
so_far-fails file e offset text out place piece rest (At o kind) far f r =
    let (at, first, is) = fault_first e place.dot place piece rest o kind f r in
    let (qs, whole, toks) = far.goes [] place.dot rest (refl, refl) in
    record { parts = qs; dot = place.dot; left = rest; at = at; tiles = whole; first = first; place_is = omega (arith, is, far.place_is) }

pub found_at : (e : Edition) (dot : Bool) (rest : Chars) (piece : Piece) → 0 < length rest → piece ≡ step e dot rest → Found e dot rest piece
found_at e dot [] piece some is = absurd (omega (arith, some))
found_at e dot (c ∷ cs) piece some is = subst (Found e dot (c ∷ cs)) (sym is) (found e dot c cs)

-- ---- in a loop over indices

pub rest_some : (cs rest : Chars) (at : ℕ) → at < length cs → rest ≡ drop at cs → 0 < length rest
rest_some cs rest at h is = let l = ap (λ x. length x) is ∙ length-drop at cs in omega (arith, l, h)

pub walk_found : (e : Edition) (place : Place) (cs rest : Chars) (at : ℕ) (piece : Piece) → at < length cs → rest ≡ drop at cs → piece ≡ step e place.dot rest → Found e place.dot rest piece
walk_found e place cs rest at piece h is s = found_at e place.dot rest piece (rest_some cs rest at h is) s

pub record More (file : ℕ) (e : Edition) (offset : ℕ) (cs : Chars) (at : ℕ) (new : List Token) (next : Place) (len : ℕ) : Type 0 where
  pub far : SoFar file e offset cs new next (drop (at + len) cs)
  pub within : at + len ≤ length cs
  pub some : 0 < len

drop_drop : (len at : ℕ) (cs : Chars) → drop len (drop at cs) ≡ drop (at + len) cs
drop_drop len at cs = drop-drop len at cs

pub walk_more : (file : ℕ) (e : Edition) (offset : ℕ) (cs rest : Chars) (at : ℕ) (out new : List Token) (place next : Place) (piece : Piece) (len : ℕ) → SoFar file e offset cs out place (drop at cs) → at < length cs → rest ≡ drop at cs → piece ≡ step e place.dot rest → Kept out new place piece rest next len
    → More file e offset cs at new next len
walk_more file e offset cs rest at out new place next piece len far h is s k =
    let (moved, some, fits) = so_far-next file e offset cs out new place next piece rest len (subst (SoFar file e offset cs out place) (sym is) far) (walk_found e place cs rest at piece h is s) k in
    let l = ap (λ x. length x) is ∙ length-drop at cs in
    record { far = subst (SoFar file e offset cs new next) (ap (drop len) is ∙ drop_drop len at cs) moved; within = omega (arith, l, fits, h); some = some }

pub walk_fails : (file : ℕ) (e : Edition) (offset : ℕ) (cs rest : Chars) (at : ℕ) (out : List Token) (place : Place) (piece : Piece) (error : LexError) → SoFar file e offset cs out place (drop at cs) → at < length cs → rest ≡ drop at cs → piece ≡ step e place.dot rest → RefusedAt place piece rest error
    → RefusedFrom e offset cs error
walk_fails file e offset cs rest at out place piece error far h is s r =
    so_far-fails file e offset cs out place piece rest error (subst (SoFar file e offset cs out place) (sym is) far) (walk_found e place cs rest at piece h is s) r

pub walk_fits : (file : ℕ) (e : Edition) (offset : ℕ) (cs rest : Chars) (at : ℕ) (out : List Token) (place : Place) → SoFar file e offset cs out place (drop at cs) → rest ≡ drop at cs → place.start + byte_len rest ≡ offset + byte_len cs
walk_fits file e offset cs rest at out place far is = (subst (SoFar file e offset cs out place) (sym is) far).place_is

pub walk_done : (file : ℕ) (e : Edition) (offset : ℕ) (cs : Chars) (at : ℕ) (out : List Token) (place : Place) → SoFar file e offset cs out place (drop at cs) → length cs ≤ at → LexesFrom file e offset cs out
walk_done file e offset cs at out place far h = so_far-done file e offset cs out place (drop at cs) far (let l = length-drop at cs in omega (arith, l, h))

pub ruleset bytes = (length-byte_len, byte_len-take)

pub step_within : (e : Edition) (dot : Bool) (rest : Chars) (piece : Piece) → 1 ≤ length rest → piece ≡ step e dot rest → piece_within piece rest
step_within e dot rest piece some is = found_within e dot rest piece (found_at e dot rest piece some is)

-- the piece of a space or a line's end
pub blank_kept : (e : Edition) (old new : List Token) (place next : Place) (rest : Chars) (c : ℕ) → c ≡ slice_index rest 0 → (c == 32 || c == 10) ≡ true → new ≡ old → next ≡ behind_trivia place 1 false → Kept old new place (step e place.dot rest) rest next 1
blank_kept e old new place next [] c is blank n b = absurd (both_ways _ (ap (λ x. x == 32 || x == 10) is) blank)
blank_kept e old new place next (d ∷ cs) c is blank n b =
    let same : (d == 32 || d == 10) ≡ true = ap (λ x. x == 32 || x == 10) (sym is) ∙ blank in
    let one : byte_len (take 1 (d ∷ cs)) ≡ 1 = elim (or_cases (d == 32) (d == 10) same) [
      | inl h ↦ ap (λ x. byte_len (x ∷ [])) (eqb-true d 32 h)
      | inr h ↦ ap (λ x. byte_len (x ∷ [])) (eqb-true d 10 h)
    ] in
    let white : is_blank d ≡ true = elim (or_cases (d == 32) (d == 10) same) [
      | inl h ↦ ap is_blank (eqb-true d 32 h)
      | inr h ↦ ap is_blank (eqb-true d 10 h)
    ] in
    let kept : Kept old new place (Trivia 1 false) (d ∷ cs) next 1 = (n, b ∙ ap (λ k. behind_trivia place k false) (sym one), refl) in
    subst (λ p. Kept old new place p (d ∷ cs) next 1) (sym (step_blank e place.dot d cs white)) kept

pub ruleset blanks = (step_within, blank_kept)
