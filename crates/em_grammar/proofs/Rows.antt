-- Lists of rows are read.
use Rattle.std.proofs.lemmas.List.{append-nil}
use Rattle.std.proofs.Common.{◌≡◌, ℕ, zero, suc, ◌≤◌, Bool, true, false, if◌then◌else◌, List, [], ◌∷◌, ◌++◌, length, length-append, refl, sym, ◌∙◌, ap, subst, append_assoc, arith, max}
use Rattle.em_tree.specs.Starts.{Pieces}
use Rattle.em_tree.specs.Parts.{each}
use Rattle.em_grammar.specs.Sets.{Set, next, subset, others, Inside}
use Rattle.em_grammar.specs.Reader.{Read, Found, Absent, Deep, or_stay}
use Rattle.em_grammar.specs.Rows.{Rows, rows, rows_of, row_clear, rows_clear}
use Rattle.em_grammar.specs.Pairs.{Pair, Part, Sound, Takes, Begins, MayBegin, Steady, Firm}
use Rattle.em_grammar.proofs.AllSorts.{and-left}
use Rattle.em_grammar.proofs.Pairs.{takes_stay, raise, may_begin, begins_next, begins_some, begins_append, in_subset, next_both, next_others, inside_left, inside_right}
use Rattle.em_grammar.proofs.Steady.{steady_stay, steady_if}

module _ {A : Type 0} (closed : A → Bool) (H : Pieces → Type 0) (depth : ℕ) (M : ℕ → A → Type 0) (z : A → Pieces) (P : Pieces → Read A) (f : Set) (c : A → Set) (a : Pair H depth M z P f c)
    (inc : (x : A) → closed x ≡ true → subset f (c x) ≡ true) where
  more_rows : (M N : ℕ → A → Type 0) (d e : ℕ) → ((t : A) → M d t → N e t) → (xs : List A) → Rows closed M d xs → Rows closed N e xs
  more_rows M N d e h [] m = tt
  more_rows M N d e h (x ∷ []) m = h x m
  more_rows M N d e h (x ∷ y ∷ rest) m = (h x m.0, m.1, more_rows M N d e h (y ∷ rest) m.2)

  add_row : (d : ℕ) (x : A) (more : List A) → M d x → closed x ≡ true → Rows closed M d more → Rows closed M d (x ∷ more)
  add_row d x [] m is more = m
  add_row d x (y ∷ rest) m is more = (m, is, more)

  row_of : (d : ℕ) (x : A) (more : List A) → Rows closed M d (x ∷ more) → M d x
  row_of d x [] m = m
  row_of d x (y ∷ rest) m = m.0

  -- what was found besides what was there already
  abbrev Grown : List A → Read (List A) → Pieces → Type 0
  Grown found (Found t r) i = (more : List A) × ((d : ℕ) × Rows closed M d more) × (t ≡ found ++ more) × (i ≡ each z more ++ r)
  Grown found Absent i = ⊥
  Grown found Deep i = Unit {0}

  abbrev after : ℕ → List A → A → Pieces → Read (List A)
  after n found x r = if closed x then rows closed P n (found ++ x ∷ []) r else Found (found ++ x ∷ []) r

  one_grown : (found : List A) (x : A) (m : Read (List A)) (i r : Pieces) → (d : ℕ) × M d x → closed x ≡ true → i ≡ z x ++ r → Grown (found ++ x ∷ []) m r → Grown found m i
  one_grown found x (Found t q) i r l is eq s =
      let e : ℕ = max l.0 s.1.0 in (
        x ∷ s.0,
        (e, add_row e x s.0 (raise M a.grows l.0 e x (omega arith) l.1) is (more_rows M M s.1.0 e (λ t. raise M a.grows s.1.0 e t (omega arith)) s.0 s.1.1)),
        s.2 ∙ append_assoc found (x ∷ []) s.0,
        eq ∙ ap (λ k. z x ++ k) s.3 ∙ sym (append_assoc (z x) (each z s.0) q),
      )
  one_grown found x Absent i r l is eq s = absurd s
  one_grown found x Deep i r l is eq s = tt

  sound_rows : (n : ℕ) (found : List A) (i : Pieces) → Grown found (rows closed P n found i) i
  unfolding rows
  sound_rows zero found i = ([], (0, tt), sym (append-nil found), refl)
  sound_rows (suc n) found i = go (P i) (a.sound i) (λ x r. sound_rows n (found ++ x ∷ []) r)
    where
      behind : (b : Bool) (x : A) (r : Pieces) → closed x ≡ b → (d : ℕ) × M d x → i ≡ z x ++ r → Grown (found ++ x ∷ []) (rows closed P n (found ++ x ∷ []) r) r
          → Grown found (if b then rows closed P n (found ++ x ∷ []) r else Found (found ++ x ∷ []) r) i
      behind true x r is l eq ih = one_grown found x (rows closed P n (found ++ x ∷ []) r) i r l is eq ih
      behind false x r is l eq ih = (x ∷ [], l, refl, eq ∙ ap (λ k. k ++ r) (sym (append-nil (z x))))

      go : (m : Read A) → Sound M z m i → ((x : A) (r : Pieces) → Grown (found ++ x ∷ []) (rows closed P n (found ++ x ∷ []) r) r)
          → Grown found (or_stay m (λ x r. after n found x r) (Found found i)) i
      go (Found x r) s ih = behind (closed x) x r refl s.0 s.1 (ih x r)
      go Absent s ih = ([], (0, tt), sym (append-nil found), refl)
      go Deep s ih = tt

  rows_take : (n : ℕ) (found : List A) (i r : Pieces) → length i ≤ length r → Takes (rows closed P n found i) r
  rows_take n found i r h = go (rows closed P n found i) (sound_rows n found i)
    where
      go : (m : Read (List A)) → Grown found m i → Takes m r
      go (Found t s) q = omega (arith, h, ap (λ k. length k) q.3, length-append (each z q.0) s)
      go Absent q = absurd q
      go Deep q = tt

  after_takes : (n : ℕ) (found : List A) (x : A) (s r : Pieces) → length s ≤ length r → Takes (after n found x s) r
  after_takes n found x s r h = go (closed x)
    where
      go : (b : Bool) → Takes (if b then rows closed P n (found ++ x ∷ []) s else Found (found ++ x ∷ []) s) r
      go true = rows_take n (found ++ x ∷ []) s r h
      go false = h

  begins_rows : (d : ℕ) (t : List A) → d ≤ depth → Rows closed M d t → MayBegin f (each z t)
  begins_rows d [] h m = tt
  begins_rows d (x ∷ xs) h m = may_begin f (z x ++ each z xs) (begins_append f (z x) (each z xs) (a.begins d x h (row_of d x xs m)))

  idle_rows : (n : ℕ) (found : List A) (i : Pieces) → next f i ≡ false → rows closed P n found i ≡ Found found i
  unfolding rows
  idle_rows zero found i h = refl
  idle_rows (suc n) found i h = ap (λ m. or_stay m (λ x r. after n found x r) (Found found i)) (a.absent i h)

  -- one row, and what is read behind it
  one_turn : (d n : ℕ) (found : List A) (x : A) (i : Pieces) → d ≤ depth → Inside H (z x) → M d x → next (c x) i ≡ true → rows closed P (suc n) found (z x ++ i) ≡ after n found x i
  unfolding rows
  one_turn d n found x i h w m cl = ap (λ q. or_stay q (λ x r. after n found x r) (Found found (z x ++ i))) (a.whole d x i h w m cl)

  last_turn : (n : ℕ) (found : List A) (x : A) (r : Pieces) (b : Bool) → next (row_clear f b (c x)) r ≡ true
      → (next (c x) r ≡ true) × ((if b then rows closed P n (found ++ x ∷ []) r else Found (found ++ x ∷ []) r) ≡ Found (found ++ x ∷ []) r)
  last_turn n found x r true cl = let q = next_both (c x) (others f) r cl in (q.0, idle_rows n (found ++ x ∷ []) r (next_others f r q.1))
  last_turn n found x r false cl = (cl, refl)

  whole_rows : (d : ℕ) (t : List A) (r : Pieces) → d ≤ depth → Inside H (each z t) → Rows closed M d t → next (rows_clear closed f c t) r ≡ true
      → (n : ℕ) (found : List A) → length (each z t) ≤ n → rows closed P n found (each z t ++ r) ≡ Found (found ++ t) r
  whole_rows d [] r h w m cl n found k = idle_rows n found r (next_others f r cl) ∙ ap (λ l. Found l r) (sym (append-nil found))
  whole_rows d (x ∷ []) r h w m cl zero found k = absurd (omega (arith, k, length-append (z x) [], begins_some f (z x) (a.begins d x h m)))
  whole_rows d (x ∷ []) r h w m cl (suc n) found k =
      let q = last_turn n found x r (closed x) cl in
      ap (λ i. rows closed P (suc n) found (i ++ r)) (append-nil (z x)) ∙ one_turn d n found x r h (subst (λ i. Inside H i) (append-nil (z x)) w) m q.0 ∙ q.1
  whole_rows d (x ∷ y ∷ xs) r h w m cl zero found k = absurd (omega (arith, k, length-append (z x) (each z (y ∷ xs)), begins_some f (z x) (a.begins d x h m.0)))
  whole_rows d (x ∷ y ∷ xs) r h w m cl (suc n) found k =
      let ys : Pieces = each z (y ∷ xs) in
      let starts : Begins f ys = begins_append f (z y) (each z xs) (a.begins d y h (row_of d y xs m.2)) in
      ap (λ i. rows closed P (suc n) found i) (append_assoc (z x) ys r)
      ∙ one_turn d n found x (ys ++ r) h (inside_left H (z x) ys w) m.0 (in_subset f (c x) (inc x m.1) (ys ++ r) (begins_next f ys r starts))
      ∙ ap (λ b. if b then rows closed P n (found ++ x ∷ []) (ys ++ r) else Found (found ++ x ∷ []) (ys ++ r)) m.1
      ∙ whole_rows d (y ∷ xs) r h (inside_right H (z x) ys w) m.2 cl n (found ++ x ∷ []) (omega (arith, k, length-append (z x) ys, begins_some f (z x) (a.begins d x h m.0)))
      ∙ ap (λ l. Found l r) (append_assoc found (x ∷ []) (y ∷ xs))

  row_end : (b : Bool) (x : A) → (row_clear f b (c x)).end ≡ true → (c x).end ≡ true
  row_end true x h = and-left _ _ h
  row_end false x h = h

  longest_rows : (d : ℕ) (t : List A) (r : Pieces) → d ≤ depth → Inside H (each z t) → Rows closed M d t → (rows_clear closed f c t).end ≡ true
      → (n : ℕ) (found : List A) → length (each z t) ≤ n → Takes (rows closed P n found (each z t ++ r)) r
  unfolding rows
  longest_rows d [] r h w m en n found k = rows_take n found r r (omega arith)
  longest_rows d (x ∷ []) r h w m en zero found k = absurd (omega (arith, k, length-append (z x) [], begins_some f (z x) (a.begins d x h m)))
  longest_rows d (x ∷ []) r h w m en (suc n) found k =
      subst (λ i. Takes (or_stay (P (i ++ r)) (λ x r. after n found x r) (Found found (i ++ r))) r) (sym (append-nil (z x)))
      (takes_stay (P (z x ++ r)) (λ x r. after n found x r) (Found found (z x ++ r)) r (a.longest d x r h (subst (λ i. Inside H i) (append-nil (z x)) w) m (row_end (closed x) x en))
      (λ x s k. after_takes n found x s r k))
  longest_rows d (x ∷ y ∷ xs) r h w m en zero found k = absurd (omega (arith, k, length-append (z x) (each z (y ∷ xs)), begins_some f (z x) (a.begins d x h m.0)))
  longest_rows d (x ∷ y ∷ xs) r h w m en (suc n) found k =
      let ys : Pieces = each z (y ∷ xs) in
      let starts : Begins f ys = begins_append f (z y) (each z xs) (a.begins d y h (row_of d y xs m.2)) in
      subst (λ q. Takes q r)
      (sym (ap (λ i. rows closed P (suc n) found i) (append_assoc (z x) ys r)
      ∙ one_turn d n found x (ys ++ r) h (inside_left H (z x) ys w) m.0 (in_subset f (c x) (inc x m.1) (ys ++ r) (begins_next f ys r starts))
      ∙ ap (λ b. if b then rows closed P n (found ++ x ∷ []) (ys ++ r) else Found (found ++ x ∷ []) (ys ++ r)) m.1))
      (longest_rows d (y ∷ xs) r h (inside_right H (z x) ys w) m.2 en n (found ++ x ∷ []) (omega (arith, k, length-append (z x) ys, begins_some f (z x) (a.begins d x h m.0))))

  strip : (m : Read (List A)) (i : Pieces) → Grown [] m i → Sound (Rows closed M) (each z) m i
  strip (Found t r) i s = ((s.1.0, subst (λ l. Rows closed M s.1.0 l) (sym s.2) s.1.1), s.3 ∙ ap (λ l. each z l ++ r) (sym s.2))
  strip Absent i s = tt
  strip Deep i s = tt

  never : (m : Read (List A)) (found : List A) (i : Pieces) → Grown found m i → m ≡ Absent → ⊥
  never (Found t r) found i s is = cc
  never Absent found i s is = s
  never Deep found i s is = cc

  pub rows_part : Part H depth (Rows closed M) (each z) (rows_of closed P) f (rows_clear closed f c)
  rows_part = record {
    grows = λ d t m. more_rows M M d (suc d) (a.grows d) t m;
    sound = λ i. strip (rows_of closed P i) i (sound_rows (length i) [] i);
    begins = begins_rows;
    whole = λ d t r h w m cl. whole_rows d t r h w m cl (length (each z t ++ r)) [] (omega (arith, length-append (each z t) r));
    longest = λ d t r h w m k. longest_rows d t r h w m k (length (each z t ++ r)) [] (omega (arith, length-append (each z t) r));
    total = λ i. never (rows_of closed P i) [] i (sound_rows (length i) [] i);
    idle = λ i h. ([], idle_rows (length i) [] i h);
  }

pub rows_pair : {A : Type 0} {H : Pieces → Type 0} {depth : ℕ} {M : ℕ → A → Type 0} {z : A → Pieces} {P : Pieces → Read A} {f : Set} {c : A → Set} (closed : A → Bool)
    → Pair H depth M z P f c → ((x : A) → closed x ≡ true → subset f (c x) ≡ true) → Part H depth (Rows closed M) (each z) (rows_of closed P) f (rows_clear closed f c)
rows_pair {A} {H} {depth} {M} {z} {P} {f} {c} closed a inc = rows_part closed H depth M z P f c a inc

steady_rows : {A : Type 0} (closed : A → Bool) (P P2 : Pieces → Read A) → Firm P P2 → (n : ℕ) (found : List A) (i : Pieces) → Steady (rows closed P n found i) (rows closed P2 n found i)
unfolding rows
steady_rows closed P P2 a zero found i = refl
steady_rows closed P P2 a (suc n) found i = steady_stay (P i) (P2 i) _ _ (Found found i) (Found found i) (a.firm i)
    (λ x r. steady_if (closed x) (rows closed P n (found ++ x ∷ []) r) (rows closed P2 n (found ++ x ∷ []) r) (Found (found ++ x ∷ []) r) (Found (found ++ x ∷ []) r) (steady_rows closed P P2 a n (found ++ x ∷ []) r) refl) refl

pub firm_rows : {A : Type 0} {P P2 : Pieces → Read A} (closed : A → Bool) → Firm P P2 → Firm (rows_of closed P) (rows_of closed P2)
firm_rows {A} {P} {P2} closed a = record { firm = λ i. steady_rows closed P P2 a (length i) [] i }
