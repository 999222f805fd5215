-- What the steps read of a transcriber is its text, and a text of a transcriber is read as that.
use Rattle.std.proofs.Common.{◌≡◌, ℕ, zero, suc, ◌<◌, ◌≤◌, ◌⊎◌, inl, inr, true, false, if◌then◌else◌, [], ◌∷◌, length, Option, Some, None, refl, sym, ◌∙◌, ap, subst, arith}
use Rattle.em_base.specs.declared.token.Token.{Token}
use Rattle.em_macro.specs.declared.signs.Role.{Role}
use Rattle.em_macro.specs.declared.signs.Role.TheVariants as role
use Rattle.em_macro.specs.declared.reading.Operator.{Operator}
use Rattle.em_macro.specs.declared.rules.Transcriber.{Transcriber, out-Transcriber}
use Rattle.em_macro.specs.declared.rules.Transcriber.TheViews.{roll-Transcriber, out-roll-Transcriber, roll-out-Transcriber}
use Rattle.em_macro.specs.declared.rules.Transcriber.TheVariants as tr
use Rattle.em_macro.specs.declared.rules.Transcriber.TheOpen.{Transcriber-F}
use Rattle.em_macro.specs.Match.{Name}
use Rattle.em_macro.specs.Write.{Transcribers}
use Rattle.em_macro.specs.Form as law
use Rattle.em_macro.specs.Form.{Tokens, role_at, is_paren, name_of, is_crate, CopyText, CopiesText, TranscriberText}
use Rattle.em_macro.specs.Steps.{Read, Done, and_then, closing, is_close, at_close, operator, named, word, repeat_copy, delimited_copy, dollar_copy, copy_as, copy, copies, transcriber}
use Rattle.em_macro.proofs.TokenTexts.{bound, then_is, chosen, same_done, closing_form, closing_reads, close_ends, word_no_paren, crate_no_paren, op, operator_form, operator_reads, operator_shorter}

-- one node of a transcriber
abbrev CopyNode : Type 0
CopyNode = Transcriber-F Transcriber

-- the tree of a node
abbrev pub tree : CopyNode → Transcriber
tree (Transcriber-F.Token t) = tr.Token t
tree (Transcriber-F.Variable d w n) = tr.Variable d w n
tree (Transcriber-F.Crate d w) = tr.Crate d w
tree (Transcriber-F.Delimited o body c) = tr.Delimited o body c
tree (Transcriber-F.Repeat body sep) = tr.Repeat body sep

backs : (l : CopyNode) → tree l ≡ roll-Transcriber l
backs (Transcriber-F.Token t) = sym (tr.rolls-Token t)
backs (Transcriber-F.Variable d w n) = sym (tr.rolls-Variable d w n)
backs (Transcriber-F.Crate d w) = sym (tr.rolls-Crate d w)
backs (Transcriber-F.Delimited o body c) = sym (tr.rolls-Delimited o body c)
backs (Transcriber-F.Repeat body sep) = sym (tr.rolls-Repeat body sep)

-- ---- what is read has the form

named_form : (d t : Token) (i : Tokens) (o : Option Name) (x : Transcriber) (r : Tokens) → named d t i o ≡ Done x r
    → (n : Name) × (o ≡ Some n) × (x ≡ tr.Variable d t n) × (i ≡ r)
named_form d t i None x r h = cc
named_form d t i (Some n) x r h = let (a, b) = same_done (tr.Variable d t n) x i r h in (n, refl, sym a, b)

module _ (inner : Tokens → Read Transcribers) (Inner : Transcribers → Tokens → Tokens → Type 0)
    (formed : (i : Tokens) (ms : Transcribers) (r : Tokens) → inner i ≡ Done ms r → Inner ms i r) where
  abbrev IsCopy : Tokens → Transcriber → Tokens → Type 0
  IsCopy i x r = (l : CopyNode) × (x ≡ tree l) × CopyText Inner l i r

  repeat_form : (d o : Token) (j : Tokens) (body : Transcribers) (i : Tokens) (x : Transcriber) (r : Tokens) → role_at d ≡ role.Dollar → is_paren o ≡ true
      → Inner body j i → repeat_copy o body i ≡ Done x r → IsCopy (d ∷ o ∷ j) x r
  unfolding repeat_copy
  repeat_form d o j body i x r a b f h =
      let w : (c : Token) × (k : Tokens) × (closing o i ≡ Done c k) × (and_then (operator k) (λ op s. Done (tr.Repeat body op.separator) s) ≡ Done x r)
      = bound (closing o i) (λ c r. and_then (operator r) (λ op s. Done (tr.Repeat body op.separator) s)) x r h in
      let v : (p : Operator) × (s : Tokens) × (operator w.1 ≡ Done p s) × (Done (tr.Repeat body p.separator) s ≡ Done x r)
      = bound (operator w.1) (λ op s. Done (tr.Repeat body op.separator) s) x r w.3 in
      let g : (i ≡ w.0 ∷ w.1) × law.Closes o w.0 = closing_form o i w.0 w.1 w.2 in
      let (e, q) = same_done (tr.Repeat body v.0.separator) x v.1 r v.3 in (
        Transcriber-F.Repeat body v.0.separator,
        sym e,
        (d, o, w.0, j, w.1, refl, a, b, subst (λ l. Inner body j l) g.0 f, g.1, v.0.plus, subst (λ l. law.Operator v.0.separator v.0.plus w.1 l) q (operator_form w.1 v.0 v.1 v.2)),
      )

  delimited_form : (o : Token) (j : Tokens) (body : Transcribers) (i : Tokens) (x : Transcriber) (r : Tokens) → role_at o ≡ role.Open
      → Inner body j i → delimited_copy o body i ≡ Done x r → IsCopy (o ∷ j) x r
  unfolding delimited_copy
  delimited_form o j body i x r a f h =
      let w : (c : Token) × (k : Tokens) × (closing o i ≡ Done c k) × (Done (tr.Delimited o body c) k ≡ Done x r) = bound (closing o i) (λ c r. Done (tr.Delimited o body c) r) x r h in
      let g : (i ≡ w.0 ∷ w.1) × law.Closes o w.0 = closing_form o i w.0 w.1 w.2 in
      let (e, q) = same_done (tr.Delimited o body w.0) x w.1 r w.3 in
      (Transcriber-F.Delimited o body w.0, sym e, (j, refl, a, subst (λ l. Inner body j l) (g.0 ∙ ap (λ l. w.0 ∷ l) q) f, g.1))

  word_form : (d t : Token) (i : Tokens) (x : Transcriber) (r : Tokens) → role_at d ≡ role.Dollar → word d t i ≡ Done x r → IsCopy (d ∷ t ∷ i) x r
  unfolding word
  word_form d t i x r a h =
      elim (chosen (is_crate t) (Done (tr.Crate d t) i) (named d t i (name_of t)) (Done x r) h) [
        | inl p ↦ let (e, q) = same_done (tr.Crate d t) x i r p.1 in (Transcriber-F.Crate d t, sym e, (ap (λ l. d ∷ t ∷ l) q, a, p.0))
        | inr p ↦
            let v : (n : Name) × (name_of t ≡ Some n) × (x ≡ tr.Variable d t n) × (i ≡ r) = named_form d t i (name_of t) x r p.1 in
            (Transcriber-F.Variable d t v.0, v.2, (ap (λ l. d ∷ t ∷ l) v.3, a, v.1, p.0))
      ]

  dollar_form : (d : Token) (i : Tokens) (x : Transcriber) (r : Tokens) → role_at d ≡ role.Dollar → dollar_copy inner d i ≡ Done x r → IsCopy (d ∷ i) x r
  unfolding dollar_copy
  dollar_form d [] x r a h = cc
  dollar_form d (t ∷ i) x r a h =
      elim (chosen (is_paren t) (and_then (inner i) (λ body r. repeat_copy t body r)) (word d t i) (Done x r) h) [
        | inl p ↦
            let w : (body : Transcribers) × (j : Tokens) × (inner i ≡ Done body j) × (repeat_copy t body j ≡ Done x r) = bound (inner i) (λ body r. repeat_copy t body r) x r p.1 in
            repeat_form d t i w.0 w.1 x r a p.0 (formed i w.0 w.1 w.2) w.3
        | inr p ↦ word_form d t i x r a p.1
      ]

  copy_form : (t : Token) (i : Tokens) (x : Transcriber) (r : Tokens) → copy inner (t ∷ i) ≡ Done x r → IsCopy (t ∷ i) x r
  unfolding copy
  copy_form t i x r h = go (role_at t) refl h
    where
      go : (y : Role) → role_at t ≡ y → copy_as inner t i y ≡ Done x r → IsCopy (t ∷ i) x r
      go role.Dollar is e = dollar_form t i x r is e
      go role.Open is e =
          let w : (body : Transcribers) × (j : Tokens) × (inner i ≡ Done body j) × (delimited_copy t body j ≡ Done x r) = bound (inner i) (λ body r. delimited_copy t body r) x r e in
          delimited_form t i w.0 w.1 x r is (formed i w.0 w.1 w.2) w.3
      go role.Close is e = cc
      go role.Other is e = let (a, b) = same_done (tr.Token t) x i r e in (Transcriber-F.Token t, sym a, (ap (λ l. t ∷ l) b, is))

  copies_form : (n : ℕ) (i : Tokens) (ms : Transcribers) (r : Tokens) → copies inner n i ≡ Done ms r → CopiesText Inner ms i r
  unfolding copies
  copies_form zero i ms r h = cc
  copies_form (suc n) [] ms r h = let (a, b) = same_done [] ms [] r h in subst (λ l. CopiesText Inner l [] r) a b
  copies_form (suc n) (t ∷ i) ms r h =
      step (λ j xs s e. copies_form n j xs s e) (chosen (is_close (role_at t)) (Done [] (t ∷ i)) (and_then (copy inner (t ∷ i)) (λ x r. and_then (copies inner n r) (λ xs s. Done (x ∷ xs) s))) (Done ms r) h)
    where
      step : ((j : Tokens) (xs : Transcribers) (s : Tokens) → copies inner n j ≡ Done xs s → CopiesText Inner xs j s)
          → ((is_close (role_at t) ≡ true) × (Done [] (t ∷ i) ≡ Done ms r))
          ⊎ ((is_close (role_at t) ≡ false) × (and_then (copy inner (t ∷ i)) (λ x r. and_then (copies inner n r) (λ xs s. Done (x ∷ xs) s)) ≡ Done ms r))
          → CopiesText Inner ms (t ∷ i) r
      step go (inl a) = let (p, q) = same_done [] ms (t ∷ i) r a.1 in subst (λ l. CopiesText Inner l (t ∷ i) r) p q
      step go (inr a) =
          let w : (x : Transcriber) × (j : Tokens) × (copy inner (t ∷ i) ≡ Done x j) × (and_then (copies inner n j) (λ xs s. Done (x ∷ xs) s) ≡ Done ms r)
          = bound (copy inner (t ∷ i)) (λ x r. and_then (copies inner n r) (λ xs s. Done (x ∷ xs) s)) ms r a.1 in
          let v : (xs : Transcribers) × (s : Tokens) × (copies inner n w.1 ≡ Done xs s) × (Done (w.0 ∷ xs) s ≡ Done ms r) = bound (copies inner n w.1) (λ xs s. Done (w.0 ∷ xs) s) ms r w.3 in
          let f : CopiesText Inner v.0 w.1 v.1 = go w.1 v.0 v.1 v.2 in
          let g : IsCopy (t ∷ i) w.0 w.1 = copy_form t i w.0 w.1 w.2 in
          let (p, q) = same_done (w.0 ∷ v.0) ms v.1 r v.3 in
          let back : out-Transcriber w.0 ≡ g.0 = ap (λ x. out-Transcriber x) (g.1 ∙ backs g.0) ∙ out-roll-Transcriber g.0 in
          let one : CopyText Inner (out-Transcriber w.0) (t ∷ i) w.1 = subst (λ l. CopyText Inner l (t ∷ i) w.1) (sym back) g.2 in
          let whole : CopiesText Inner (w.0 ∷ v.0) (t ∷ i) v.1 = (w.1, one, f) in
          subst (λ l. CopiesText Inner ms (t ∷ i) l) q (subst (λ l. CopiesText Inner l (t ∷ i) v.1) p whole)

pub transcriber_form : (depth : ℕ) (i : Tokens) (ms : Transcribers) (r : Tokens) → transcriber depth i ≡ Done ms r → TranscriberText depth ms i r
unfolding transcriber TranscriberText
transcriber_form zero i ms r h = cc
transcriber_form (suc depth) i ms r h = copies_form (transcriber depth) (TranscriberText depth) (transcriber_form depth) (suc (length i)) i ms r h

-- ---- what has the form is read

module _ (Inner : Transcribers → Tokens → Tokens → Type 0) (shorter : (ms : Transcribers) (i r : Tokens) → Inner ms i r → length r ≤ length i) where
  copy_shorter : (l : CopyNode) (i r : Tokens) → CopyText Inner l i r → length r < length i
  copy_shorter (Transcriber-F.Token t) i r h = let e : length i ≡ suc (length r) = ap (λ l. length l) h.0 in omega (arith, e)
  copy_shorter (Transcriber-F.Variable d w n) i r h = let e : length i ≡ suc (suc (length r)) = ap (λ l. length l) h.0 in omega (arith, e)
  copy_shorter (Transcriber-F.Crate d w) i r h = let e : length i ≡ suc (suc (length r)) = ap (λ l. length l) h.0 in omega (arith, e)
  copy_shorter (Transcriber-F.Delimited o body c) i r h =
      let e : length i ≡ suc (length h.0) = ap (λ l. length l) h.1 in
      let s : suc (length r) ≤ length h.0 = shorter body h.0 (c ∷ r) h.3 in omega (arith, e, s)
  copy_shorter (Transcriber-F.Repeat body sep) i r h =
      let e : length i ≡ suc (suc (length h.3)) = ap (λ l. length l) h.5 in
      let s : suc (length h.4) ≤ length h.3 = shorter body h.3 (h.2 ∷ h.4) h.8 in
      let o : length r < length h.4 = operator_shorter sep h.10 h.4 r h.11 in omega (arith, e, s, o)

  copies_shorter : (ms : Transcribers) (i r : Tokens) → CopiesText Inner ms i r → length r ≤ length i
  copies_shorter [] i r h = let e : length i ≡ length r = ap (λ l. length l) h in omega (arith, e)
  copies_shorter (x ∷ xs) i r h = omega (arith, copy_shorter (out-Transcriber x) i h.0 h.1, copies_shorter xs h.0 r h.2)

opened : (i : Tokens) (t : Token) (j : Tokens) (x : Role) → i ≡ t ∷ j → role_at t ≡ x → at_close i ≡ is_close x
opened i t j x is e = ap (λ l. at_close l) is ∙ ap (λ y. is_close y) e

module _ (inner : Tokens → Read Transcribers) (Inner : Transcribers → Tokens → Tokens → Type 0)
    (found : (ms : Transcribers) (i r : Tokens) → Inner ms i r → at_close r ≡ true → inner i ≡ Done ms r)
    (shorter : (ms : Transcribers) (i r : Tokens) → Inner ms i r → length r ≤ length i) where
  copy_reads : (l : CopyNode) (i r : Tokens) → CopyText Inner l i r → copy inner i ≡ Done (tree l) r
  unfolding copy dollar_copy word repeat_copy delimited_copy
  copy_reads (Transcriber-F.Token t) i r h = ap (λ l. copy inner l) h.0 ∙ ap (λ x. copy_as inner t r x) h.1
  copy_reads (Transcriber-F.Variable d w n) i r h =
      ap (λ l. copy inner l) h.0 ∙ ap (λ x. copy_as inner d (w ∷ r) x) h.1
      ∙ ap (λ b. if b then and_then (inner r) (λ body s. repeat_copy w body s) else word d w r) (word_no_paren w n h.2)
      ∙ ap (λ b. if b then Done (tr.Crate d w) r else named d w r (name_of w)) h.3 ∙ ap (λ o. named d w r o) h.2
  copy_reads (Transcriber-F.Crate d w) i r h =
      ap (λ l. copy inner l) h.0 ∙ ap (λ x. copy_as inner d (w ∷ r) x) h.1
      ∙ ap (λ b. if b then and_then (inner r) (λ body s. repeat_copy w body s) else word d w r) (crate_no_paren w h.2)
      ∙ ap (λ b. if b then Done (tr.Crate d w) r else named d w r (name_of w)) h.2
  copy_reads (Transcriber-F.Delimited o body c) i r h =
      let is : inner h.0 ≡ Done body (c ∷ r) = found body h.0 (c ∷ r) h.3 (close_ends o c r h.4) in
      ap (λ l. copy inner l) h.1 ∙ ap (λ x. copy_as inner o h.0 x) h.2 ∙ then_is (inner h.0) (λ body r. delimited_copy o body r) body (c ∷ r) is
      ∙ then_is (closing o (c ∷ r)) (λ c r. Done (tr.Delimited o body c) r) c r (closing_reads o c r h.4)
  copy_reads (Transcriber-F.Repeat body sep) i r h =
      let is : inner h.3 ≡ Done body (h.2 ∷ h.4) = found body h.3 (h.2 ∷ h.4) h.8 (close_ends h.1 h.2 h.4 h.9) in
      ap (λ l. copy inner l) h.5 ∙ ap (λ x. copy_as inner h.0 (h.1 ∷ h.3) x) h.6
      ∙ ap (λ b. if b then and_then (inner h.3) (λ body r. repeat_copy h.1 body r) else word h.0 h.1 h.3) h.7
      ∙ then_is (inner h.3) (λ body r. repeat_copy h.1 body r) body (h.2 ∷ h.4) is
      ∙ then_is (closing h.1 (h.2 ∷ h.4)) (λ c r. and_then (operator r) (λ op s. Done (tr.Repeat body op.separator) s)) h.2 h.4 (closing_reads h.1 h.2 h.4 h.9)
      ∙ then_is (operator h.4) (λ op s. Done (tr.Repeat body op.separator) s) (op sep h.10) r (operator_reads sep h.10 h.4 r h.11)

  copy_opens : (l : CopyNode) (i r : Tokens) → CopyText Inner l i r → at_close i ≡ false
  copy_opens (Transcriber-F.Token t) i r h = opened i t r role.Other h.0 h.1
  copy_opens (Transcriber-F.Variable d w n) i r h = opened i d (w ∷ r) role.Dollar h.0 h.1
  copy_opens (Transcriber-F.Crate d w) i r h = opened i d (w ∷ r) role.Dollar h.0 h.1
  copy_opens (Transcriber-F.Delimited o body c) i r h = opened i o h.0 role.Open h.1 h.2
  copy_opens (Transcriber-F.Repeat body sep) i r h = opened i h.0 (h.1 ∷ h.3) role.Dollar h.5 h.6

  copies_reads : (ms : Transcribers) (n : ℕ) (i r : Tokens) → length i < n → CopiesText Inner ms i r → at_close r ≡ true → copies inner n i ≡ Done ms r
  unfolding copies
  copies_reads ms zero i r fuel h end = absurd (omega (arith, fuel))
  copies_reads [] (suc n) i r fuel h end =
      ap (λ b. if b then Done [] i else and_then (copy inner i) (λ x r. and_then (copies inner n r) (λ xs s. Done (x ∷ xs) s))) (ap (λ l. at_close l) h ∙ end)
      ∙ ap (λ l. Done [] l) h
  copies_reads (x ∷ xs) (suc n) i r fuel h end =
      let s : length h.0 < length i = copy_shorter Inner shorter (out-Transcriber x) i h.0 h.1 in
      let one : copy inner i ≡ Done x h.0 = copy_reads (out-Transcriber x) i h.0 h.1 ∙ ap (λ y. Done y h.0) (backs (out-Transcriber x) ∙ roll-out-Transcriber x) in
      ap (λ b. if b then Done [] i else and_then (copy inner i) (λ x r. and_then (copies inner n r) (λ xs s. Done (x ∷ xs) s))) (copy_opens (out-Transcriber x) i h.0 h.1)
      ∙ then_is (copy inner i) (λ x r. and_then (copies inner n r) (λ xs s. Done (x ∷ xs) s)) x h.0 one
      ∙ then_is (copies inner n h.0) (λ xs s. Done (x ∷ xs) s) xs r (copies_reads xs n h.0 r (omega (arith, fuel, s)) h.2 end)

pub copy_text_shorter : (depth : ℕ) (ms : Transcribers) (i r : Tokens) → TranscriberText depth ms i r → length r ≤ length i
unfolding TranscriberText
copy_text_shorter zero ms i r h = absurd h
copy_text_shorter (suc depth) ms i r h = copies_shorter (TranscriberText depth) (copy_text_shorter depth) ms i r h

pub transcriber_reads : (depth : ℕ) (ms : Transcribers) (i r : Tokens) → TranscriberText depth ms i r → at_close r ≡ true → transcriber depth i ≡ Done ms r
unfolding TranscriberText transcriber
transcriber_reads zero ms i r h end = absurd h
transcriber_reads (suc depth) ms i r h end =
    copies_reads (transcriber depth) (TranscriberText depth) (transcriber_reads depth) (copy_text_shorter depth) ms (suc (length i)) i r (omega arith) h end
