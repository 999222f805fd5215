-- At the opening of a literal.
use Rattle.std.proofs.Common.{◌≡◌, inl, inr, ℕ, ◌+◌, ◌<◌, Bool, true, false, cond, ◌&&◌, ◌==◌, [], ◌∷◌, ◌++◌, length, take, drop, get_or, Option, Some, None, refl, sym, ap, ◌∙◌, subst, arith, length-append, append_assoc, append-nil}
use Rattle.em_base.specs.Names.{is_start}
use Rattle.em_base.specs.declared.edition.Edition.{Edition}
use Rattle.em_lex.specs.declared.error.LexKind.{LexKind}
use Rattle.em_lex.specs.declared.error.LexKind.TheVariants.{BadCharacter, Unclosed, LiteralSuffix, BadEscape}
use Rattle.em_lex.specs.declared.piece.Form.{Form}
use Rattle.em_lex.specs.declared.piece.Form.TheVariants.{Quoted, Single, Raw}
use Rattle.em_lex.specs.declared.piece.Piece.TheVariants.{Token as Took, Fault as Bad}
use Rattle.em_lex.specs.Characters.{Chars, starts}
use Rattle.em_lex.specs.Literals.{opening, closing, Denotes, IsUnit, plain, line, simple, code, unicode, skip, Units, none, more, NoUnit, OneCharacter, escape, broken, IsBody, Closed, IsLiteral}
use Rattle.em_lex.specs.Spelling.{Spells}
use Rattle.em_lex.specs.Faults.{unclosed, literal_suffix, body, bad_unit}
use Rattle.em_lex.specs.declared.piece.Unit.{Unit as Part}
use Rattle.em_lex.specs.Scan.{step, unit_at, listed, first, starts_word, is_none, single_len, Reading, read, close_len, closing_len, body_fault, literal_kind, literal_read, literal_closed, literal_step}
use Rattle.em_lex.proofs.Base.{impossible, pick, take_front, drop_front, index_front}
use Rattle.em_lex.proofs.Values.{none_some}
use Rattle.em_lex.proofs.Indices.{read-bad}
use Rattle.em_lex.proofs.UnitLemmas.{unit_split, unit_none}
use Rattle.em_lex.proofs.BodyLemmas.{BodyIs, whole, stops, body_is, read_whole, close_cut, close_is, closing_is}
use Rattle.em_lex.proofs.Heads.{IsLetter, step_opening}
use Rattle.em_lex.proofs.Pieces.{Holds, Covered}

pub starts_same : (cs : Chars) → starts_word cs ≡ starts is_start cs
starts_same [] = refl
starts_same (c ∷ cs) = refl

pub fault_same : (form : Form) (c : ℕ) → body_fault form c ≡ bad_unit form c
fault_same Quoted c = pick (λ (k : LexKind). cond (c == 92 && true) BadEscape BadCharacter ≡ k) (c == 92) BadEscape BadCharacter (λ h. rw h) (λ h. rw h)
fault_same Single c = pick (λ (k : LexKind). cond (c == 92 && true) BadEscape BadCharacter ≡ k) (c == 92) BadEscape BadCharacter (λ h. rw h) (λ h. rw h)
fault_same (Raw n) c = pick (λ (k : LexKind). cond (c == 92 && false) BadEscape BadCharacter ≡ BadCharacter) (c == 92) BadEscape BadCharacter (λ h. rw h) (λ h. rw h)

-- the step at a literal that closes
pub literal_is : (byte : Bool) (form : Form) (at : ℕ) (cs b after : Chars) → Closed byte form cs b after
    → literal_step byte form at cs
    ≡ cond (starts is_start after) (Bad LiteralSuffix 0) (literal_read byte form at b (at + (length b + closing_len form)) (read byte form 0 b) (read byte form 0 b).bad)
unfolding literal_step
literal_is byte form at cs b after c =
    let n = close_is byte form cs b after c in
    let cut : cs ≡ (b ++ closing form) ++ after = c.parts ∙ sym (append_assoc b (closing form) after) in
    let len : length (b ++ closing form) ≡ length b + closing_len form = length-append b (closing form) ∙ ap (λ k. length b + k) (closing_is form) in
    let left : drop (length b + closing_len form) cs ≡ after = ap (drop (length b + closing_len form)) cut ∙ ap (λ k. drop k ((b ++ closing form) ++ after)) (sym len) ∙ drop_front (b ++ closing form) after in
    let front : take (length b) cs ≡ b = ap (take (length b)) c.parts ∙ take_front b (closing form ++ after) in
    let word : starts_word (drop (length b + closing_len form) cs) ≡ starts is_start after = ap starts_word left ∙ starts_same after in
    ap (literal_closed byte form at cs) n
    ∙ ap (λ (x : Bool). cond x (Bad LiteralSuffix 0) (literal_read byte form at (take (length b) cs) (at + (length b + closing_len form)) (read byte form 0 (take (length b) cs)) (read byte form 0 (take (length b) cs)).bad)) word
    ∙ ap (λ (x : Chars). cond (starts is_start after) (Bad LiteralSuffix 0) (literal_read byte form at x (at + (length b + closing_len form)) (read byte form 0 x) (read byte form 0 x).bad)) front

-- and at one that doesn't
pub literal_open : (byte : Bool) (form : Form) (at : ℕ) (cs : Chars) → ((b after : Chars) → Closed byte form cs b after → ⊥) → literal_step byte form at cs ≡ Bad Unclosed 0
unfolding literal_step
literal_open byte form at cs no_end = ap (literal_closed byte form at cs) (here (close_len byte form cs) refl)
  where
    here : (o : Option ℕ) → close_len byte form cs ≡ o → o ≡ None
    here None e = refl
    here (Some k) e = let r = close_cut byte form cs k e in absurd (no_end r.body r.rest r.closed)

-- ---- what is found holds

-- what follows changes no unit between `'`
unit_left : (byte : Bool) (u v left other : Chars) → IsUnit byte Single u v left → IsUnit byte Single u v other
unit_left byte u v left other (plain c e h k w) = plain c e h k w
unit_left byte u v left other (line h e w) = impossible h
unit_left byte u v left other (simple c d h e s w) = simple c d h e s w
unit_left byte u v left other (code a b h e s w) = code a b h e s w
unit_left byte u v left other (unicode part d h b e s w) = unicode part d h b e s w
unit_left byte u v left other (skip end blanks f e l a s w) = absurd (other_form f)
  where
    other_form : ◌≡◌ {A = Form} Single Quoted → ⊥
    other_form f = cc

one_listed : (byte : Bool) (u v left : Chars) → IsUnit byte Single u v left → v ≡ first v ∷ []
one_listed byte u v left (plain c e h k w) = rw w
one_listed byte u v left (line h e w) = rw w
one_listed byte u v left (simple c d h e s w) = rw w
one_listed byte u v left (code a b h e s w) = rw w
one_listed byte u v left (unicode part d h b e s w) = rw w
one_listed byte u v left (skip end blanks f e l a s w) = absurd (other_form f)
  where
    other_form : ◌≡◌ {A = Form} Single Quoted → ⊥
    other_form f = cc

-- one unit is read
read_one : (byte : Bool) (form : Form) (b v : Chars) → IsUnit byte form b v [] → read byte form 0 b ≡ record { bad = None; value = v }
read_one byte form b v is = read_whole byte form b v (more b v [] [] (sym (append-nil b)) (sym (append-nil v)) is (none refl refl))

-- between `'` a unit of the whole body, or none
single_reading : (byte : Bool) (b after : Chars) → OneCharacter byte b after → (read byte Single 0 b).bad ≡ None → IsUnit byte Single b (read byte Single 0 b).value []
single_reading byte b after (plain c e t) n = here (body_is byte Single b)
  where
    alone : (u left : Chars) → c ∷ [] ≡ u ++ left → 0 < length u → (u ≡ c ∷ []) × (left ≡ [])
    alone [] left e some = absurd (omega (arith, some))
    alone (d ∷ []) left e some = let same : c ≡ d = cc in let rest : [] ≡ left = cc in (ap (λ x. x ∷ []) (sym same), sym rest)
    alone (d ∷ f ∷ u) left e some = cc

    here : BodyIs byte Single b (read byte Single 0 b) → IsUnit byte Single b (read byte Single 0 b).value []
    here is = at_one (unit_at byte Single (c ∷ [])) refl
      where
        at_one : (o : Option Part) → unit_at byte Single (c ∷ []) ≡ o → IsUnit byte Single b (read byte Single 0 b).value []
        at_one None u =
            let bad : (read byte Single 0 b).bad ≡ Some 0 = rw e (ap (λ r. r.bad) (read-bad byte Single (c ∷ []) 0 (omega arith) u)) in
            absurd (none_some (sym n ∙ bad))
        at_one (Some unit) u =
            let s = unit_split byte Single (c ∷ []) unit u in
            let (w, l) = alone s.u s.left s.parts (omega (arith, s.some, s.len)) in
            let is_b : IsUnit byte Single b (listed unit.value) [] = subst (λ x. IsUnit byte Single x (listed unit.value) []) (w ∙ sym e) (subst (IsUnit byte Single s.u (listed unit.value)) l s.is_unit) in
            subst (λ v. IsUnit byte Single b v []) (sym (ap (λ r. r.value) (read_one byte Single b (listed unit.value) is_b))) is_b
single_reading byte b after (escape cs value e is) n =
    let is_b : IsUnit byte Single b value [] = unit_left byte b value (39 ∷ after) [] is in
    subst (λ v. IsUnit byte Single b v []) (sym (ap (λ r. r.value) (read_one byte Single b value is_b))) is_b
single_reading byte b after (broken c cs e all free) n =
    let nothing : NoUnit byte Single b = (λ u v left parts is. free u v (left ++ 39 ∷ after) (ap (λ x. x ++ 39 ∷ after) parts ∙ append_assoc u left (39 ∷ after)) (unit_left byte u v left (left ++ 39 ∷ after) is)) in
    let bad : (read byte Single 0 b).bad ≡ Some 0 = ap (λ x. (read byte Single 0 x).bad) e ∙ ap (λ r. r.bad) (read-bad byte Single (92 ∷ c ∷ cs) 0 (omega arith) (unit_none byte Single (92 ∷ c ∷ cs) (subst (NoUnit byte Single) e nothing))) in
    absurd (none_some (sym n ∙ bad))

literal_kinds : (byte : Bool) (form : Form) (w value : Chars) → IsLiteral byte form w value → (dot : Bool) → Spells dot w (literal_kind byte form value)
literal_kinds false Quoted w value lit dot = (value, inl lit, refl)
literal_kinds false Single w value lit dot = subst (λ v. IsLiteral false Single w v) (one_listed false lit.body value [] lit.denotes) lit
literal_kinds false (Raw n) w value lit dot = (value, inr (n, lit), refl)
literal_kinds true Quoted w value lit dot = inl lit
literal_kinds true Single w value lit dot = subst (λ v. IsLiteral true Single w v) (one_listed true lit.body value [] lit.denotes) lit
literal_kinds true (Raw n) w value lit dot = inr (n, lit)

-- what is read of a whole body is what it denotes
body_denotes : (byte : Bool) (form : Form) (b after : Chars) → IsBody byte form b after → (read byte form 0 b).bad ≡ None → Units byte form b (read byte form 0 b).value [] → Denotes byte form b (read byte form 0 b).value
body_denotes byte Quoted b after is n us = us
body_denotes byte Single b after is n us = single_reading byte b after is n
body_denotes byte (Raw m) b after is n us = us

-- and it is a body before any text
body_alone : (byte : Bool) (form : Form) (b after other value : Chars) → IsBody byte form b after → Denotes byte form b value → IsBody byte form b other
body_alone byte Quoted b after other value is d = is
body_alone byte (Raw m) b after other value is d = is
body_alone byte Single b after other value (plain c e t) d = plain c e t
body_alone byte Single b after other value (escape cs v e is) d = escape cs v e (unit_left byte b v (39 ∷ after) (39 ∷ other) is)
body_alone byte Single b after other value (broken c cs e all free) d = absurd (free b value (39 ∷ after) refl (unit_left byte b value [] (39 ∷ after) d))

unless : (x : Bool) → (x && true) ≡ false → x ≡ false
unless true h = h
unless false h = refl

-- what is found at the opening of a literal
pub literal_holds : (e : Edition) (dot byte : Bool) (form : Form) (text cs : Chars) → text ≡ opening byte form ++ cs → IsLetter byte form cs → Holds e dot text (literal_step byte form (length (opening byte form)) cs)
literal_holds e dot byte form text cs parts letter = here (close_len byte form cs) refl
  where
    at : ℕ
    at = length (opening byte form)

    closed_at : (b after : Chars) → Closed byte form cs b after → BodyIs byte form b (read byte form 0 b) → Holds e dot text (literal_read byte form (length (opening byte form)) b (length (opening byte form) + (length b + closing_len form)) (read byte form 0 b) (read byte form 0 b).bad)
    closed_at b after c (whole n us) =
        let w : Chars = opening byte form ++ (b ++ closing form) in
        let d = body_denotes byte form b after c.is_body n us in
        let lit : IsLiteral byte form w (read byte form 0 b).value = record { body = b; parts = refl; is_body = body_alone byte form b after [] (read byte form 0 b).value c.is_body d; denotes = d } in
        let cut : text ≡ w ++ after = parts ∙ ap (λ x. opening byte form ++ x) (c.parts ∙ sym (append_assoc b (closing form) after)) ∙ sym (append_assoc (opening byte form) (b ++ closing form) after) in
        let len : length (opening byte form) + (length b + closing_len form) ≡ length w =
        ap (λ k. length (opening byte form) + k) (ap (λ k. length b + k) (sym (closing_is form)) ∙ sym (length-append b (closing form))) ∙ sym (length-append (opening byte form) (b ++ closing form)) in
        subst (λ (o : Option ℕ). Holds e dot text (literal_read byte form (length (opening byte form)) b (length (opening byte form) + (length b + closing_len form)) (read byte form 0 b) o)) (sym n)
        (record { w = w; left = after; parts = cut; len = len }, literal_kinds byte form w (read byte form 0 b).value lit dot)
    closed_at b after c (stops good bad d f n us free) =
        subst (λ (o : Option ℕ). Holds e dot text (literal_read byte form (length (opening byte form)) b (length (opening byte form) + (length b + closing_len form)) (read byte form 0 b) o)) (sym n)
        (body byte form cs b after good (read byte form 0 b).value bad d parts c f us free (ap (body_fault form) (ap (λ x. get_or x (length good) 0) f ∙ index_front good d bad) ∙ fault_same form d) refl)

    here : (o : Option ℕ) → close_len byte form cs ≡ o → Holds e dot text (literal_step byte form (length (opening byte form)) cs)
    here None n =
        let no_end : (b after : Chars) → Closed byte form cs b after → ⊥ = (λ b after c. none_some (sym n ∙ close_is byte form cs b after c)) in
        subst (Holds e dot text) (sym (literal_open byte form (length (opening byte form)) cs no_end)) (unclosed byte form cs parts no_end (λ f s. no_word f s) refl refl)
      where
        no_word : byte ≡ false → form ≡ Single → starts is_start cs ≡ false
        no_word f s =
            let none_len : single_len false cs ≡ None = sym (ap (λ x. close_len x Single cs) f ∙ refl) ∙ ap (λ x. close_len byte x cs) (sym s) ∙ n in
            let t : (starts_word cs && is_none (single_len false cs)) ≡ false = letter f s in
            sym (starts_same cs) ∙ unless (starts_word cs) (subst (λ o. (starts_word cs && is_none o) ≡ false) none_len t)
    here (Some k) n =
        let r = close_cut byte form cs k n in
        subst (Holds e dot text) (sym (literal_is byte form (length (opening byte form)) cs r.body r.rest r.closed))
        (pick (Holds e dot text) (starts is_start r.rest) _ _ (λ s. literal_suffix byte form cs r.body r.rest parts r.closed s refl refl) (λ s. closed_at r.body r.rest r.closed (body_is byte form r.body)))

-- ---- what stands there is found

-- the step at a literal that is spelled in front, unless a word follows
pub literal_found : (e : Edition) (dot byte : Bool) (form : Form) (w value rest : Chars) → IsLiteral byte form w value
    → step e dot (w ++ rest) ≡ cond (starts is_start rest) (Bad LiteralSuffix 0) (Took (literal_kind byte form value) (length w))
literal_found e dot byte form w value rest lit =
    let cs : Chars = lit.body ++ (closing form ++ rest) in
    let cut : w ++ rest ≡ opening byte form ++ cs =
    ap (λ x. x ++ rest) lit.parts ∙ append_assoc (opening byte form) (lit.body ++ closing form) rest ∙ ap (λ x. opening byte form ++ x) (append_assoc lit.body (closing form) rest) in
    let closed : Closed byte form cs lit.body rest = record { parts = refl; is_body = body_alone byte form lit.body [] rest value lit.is_body lit.denotes } in
    let found = step_opening e dot byte form cs (letter byte form cs lit.body rest closed) ∙ literal_is byte form (length (opening byte form)) cs lit.body rest closed in
    let reading = denoted byte form lit.body value lit.denotes in
    let len : length w ≡ length (opening byte form) + (length lit.body + closing_len form) =
    ap (λ x. length x) lit.parts ∙ length-append (opening byte form) (lit.body ++ closing form) ∙ ap (λ k. length (opening byte form) + k) (length-append lit.body (closing form) ∙ ap (λ k. length lit.body + k) (closing_is form)) in
    ap (step e dot) cut ∙ found
    ∙ ap (λ (r : Reading). cond (starts is_start rest) (Bad LiteralSuffix 0) (literal_read byte form (length (opening byte form)) lit.body (length (opening byte form) + (length lit.body + closing_len form)) r r.bad)) reading
    ∙ ap (λ n. cond (starts is_start rest) (Bad LiteralSuffix 0) (Took (literal_kind byte form value) n)) (sym len)
  where
    letter : (byte : Bool) (form : Form) (cs b after : Chars) → Closed byte form cs b after → IsLetter byte form cs
    letter byte form cs b after c f s =
        let some : single_len false cs ≡ Some (length b) = ap (λ x. close_len x Single cs) (sym f) ∙ ap (λ x. close_len byte x cs) (sym s) ∙ close_is byte form cs b after c in
        rw some (never (starts_word cs))
      where
        never : (x : Bool) → (x && false) ≡ false
        never true = refl
        never false = refl

    denoted : (byte : Bool) (form : Form) (b v : Chars) → Denotes byte form b v → read byte form 0 b ≡ record { bad = None; value = v }
    denoted byte Quoted b v d = read_whole byte Quoted b v d
    denoted byte Single b v d = read_one byte Single b v d
    denoted byte (Raw n) b v d = read_whole byte (Raw n) b v d

-- it is found
pub literal_covers : (e : Edition) (dot byte : Bool) (form : Form) (w value rest : Chars) → IsLiteral byte form w value → Covered (w ++ rest) (step e dot (w ++ rest)) (literal_kind byte form value) (length w)
literal_covers e dot byte form w value rest lit =
    subst (λ p. Covered (w ++ rest) p (literal_kind byte form value) (length w)) (sym (literal_found e dot byte form w value rest lit))
    (pick (λ p. Covered (w ++ rest) p (literal_kind byte form value) (length w)) (starts is_start rest) _ _ (λ s. tt) (λ s. (omega arith, λ same. refl)))
