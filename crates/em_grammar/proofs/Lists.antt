-- Lists of parts, and lists with commas.
use Rattle.std.proofs.lemmas.List.{append-nil}
use Rattle.std.proofs.Common.{◌≡◌, ℕ, zero, suc, ◌≤◌, true, false, List, [], ◌∷◌, ◌++◌, length, length-append, Option, Some, None, refl, sym, ◌∙◌, ap, subst, append_assoc, arith, max}
use Rattle.std.specs.Prelude.{codes}
use Rattle.em_base.specs.declared.token.Token.{Token}
use Rattle.em_tree.specs.declared.parts.Listed.{Listed}
use Rattle.em_tree.specs.declared.piece.Piece.TheVariants as p
use Rattle.em_tree.specs.Starts.{Pieces}
use Rattle.em_tree.specs.Tokens.{Is, Each, Commas}
use Rattle.em_tree.specs.Parts.{maybe, each}
use Rattle.em_tree.specs.Yields.{piece}
use Rattle.em_grammar.specs.declared.sort.Written.TheVariants as word
use Rattle.em_grammar.specs.Sets.{Set, next, subset, others, both, tokens, unended, Inside, only, is_sign}
use Rattle.em_grammar.specs.Lang.{Many, Lists, listed, with_comma}
use Rattle.em_grammar.specs.Reader.{Read, Found, Absent, Deep, or_stay, token, many, all_of, commas, list_of}
use Rattle.em_grammar.specs.Pairs.{Pair, Part, Test, Sound, Takes, MayBegin}
use Rattle.em_grammar.proofs.Pairs.{takes_stay, raise, may_begin, may_next, begins_next, begins_some, begins_append, in_subset, next_both, next_others, inside_left, inside_right, sound_token, whole_token, absent_token}

pub more_each : {A : Type 0} (M N : A → Type 0) → ((t : A) → M t → N t) → (xs : List A) → Each M xs → Each N xs
more_each M N h [] m = tt
more_each M N h (x ∷ xs) m = (h x m.0, more_each M N h xs m.1)

pub more_commas : {A : Type 0} (M N : A → Type 0) → ((t : A) → M t → N t) → (xs : List (Listed A)) → Commas M xs → Commas N xs
more_commas M N h [] m = tt
more_commas M N h (a ∷ []) m = (h a.item m.0, m.1)
more_commas M N h (a ∷ b ∷ rest) m = (h a.item m.0, m.1, more_commas M N h (b ∷ rest) m.2)

add_comma : {A : Type 0} (M : A → Type 0) (x : A) (c : Token) (more : List (Listed A)) → M x → Is (codes ",") c → Commas M more → Commas M (listed x (Some c) ∷ more)
add_comma M x c [] m is more = (m, is)
add_comma M x c (b ∷ rest) m is more = (m, (c, refl, is), more)

item_of : {A : Type 0} (M : A → Type 0) (a : Listed A) (more : List (Listed A)) → Commas M (a ∷ more) → M a.item
item_of M a [] m = m.0
item_of M a (b ∷ rest) m = m.0

rest_of : {A : Type 0} (M : A → Type 0) (a : Listed A) (more : List (Listed A)) → Commas M (a ∷ more) → Commas M more
rest_of M a [] m = tt
rest_of M a (b ∷ rest) m = m.2

comma_of : {A : Type 0} (M : A → Type 0) (x : A) (c : Token) (more : List (Listed A)) → Commas M (listed x (Some c) ∷ more) → Is (codes ",") c
comma_of M x c [] m = m.1
comma_of M x c (b ∷ rest) m = let same : m.1.0 ≡ c = cc in subst (λ k. Is (codes ",") k) same m.1.2

module _ {A : Type 0} (H : Pieces → Type 0) (depth : ℕ) (M : ℕ → A → Type 0) (z : A → Pieces) (P : Pieces → Read A) (f c : Set) (a : Pair H depth M z P f (λ _. c)) where
  -- what was found besides what was there already
  abbrev Grown : List A → Read (List A) → Pieces → Type 0
  Grown found (Found t r) i = (more : List A) × ((d : ℕ) × Many M d more) × (t ≡ found ++ more) × (i ≡ each z more ++ r)
  Grown found Absent i = ⊥
  Grown found Deep i = Unit {0}

  one_grown : (found : List A) (x : A) (m : Read (List A)) (i r : Pieces) → (d : ℕ) × M d x → i ≡ z x ++ r → Grown (found ++ x ∷ []) m r → Grown found m i
  one_grown found x (Found t q) i r l eq s =
      let e : ℕ = max l.0 s.1.0 in (
        x ∷ s.0,
        (e, (raise M a.grows l.0 e x (omega arith) l.1, more_each (M s.1.0) (M e) (λ t. raise M a.grows s.1.0 e t (omega arith)) s.0 s.1.1)),
        s.2 ∙ append_assoc found (x ∷ []) s.0,
        eq ∙ ap (λ k. z x ++ k) s.3 ∙ sym (append_assoc (z x) (each z s.0) q),
      )
  one_grown found x Absent i r l eq s = absurd s
  one_grown found x Deep i r l eq s = tt

  sound_many : (n : ℕ) (found : List A) (i : Pieces) → Grown found (many P n found i) i
  unfolding many
  sound_many zero found i = ([], (0, tt), sym (append-nil found), refl)
  sound_many (suc n) found i = go (P i) (a.sound i) (λ x r. sound_many n (found ++ x ∷ []) r)
    where
      go : (m : Read A) → Sound M z m i → ((x : A) (r : Pieces) → Grown (found ++ x ∷ []) (many P n (found ++ x ∷ []) r) r)
          → Grown found (or_stay m (λ x r. many P n (found ++ x ∷ []) r) (Found found i)) i
      go (Found x r) s ih = one_grown found x (many P n (found ++ x ∷ []) r) i r s.0 s.1 (ih x r)
      go Absent s ih = ([], (0, tt), sym (append-nil found), refl)
      go Deep s ih = tt

  many_takes : (n : ℕ) (found : List A) (i r : Pieces) → length i ≤ length r → Takes (many P n found i) r
  many_takes n found i r h = go (many P n found i) (sound_many n found i)
    where
      go : (m : Read (List A)) → Grown found m i → Takes m r
      go (Found t s) q = omega (arith, h, ap (λ k. length k) q.3, length-append (each z q.0) s)
      go Absent q = absurd q
      go Deep q = tt

  begins_many : (d : ℕ) (t : List A) → d ≤ depth → Many M d t → MayBegin f (each z t)
  begins_many d [] h m = tt
  begins_many d (x ∷ xs) h m = may_begin f (z x ++ each z xs) (begins_append f (z x) (each z xs) (a.begins d x h m.0))

  whole_many : subset f c ≡ true → (d : ℕ) (t : List A) (r : Pieces) → d ≤ depth → Inside H (each z t) → Many M d t → next (both c (others f)) r ≡ true
      → (n : ℕ) (found : List A) → length (each z t) ≤ n → many P n found (each z t ++ r) ≡ Found (found ++ t) r
  unfolding many
  whole_many inc d [] r h w m cl zero found k = ap (λ l. Found l r) (sym (append-nil found))
  whole_many inc d [] r h w m cl (suc n) found k =
      ap (λ m. or_stay m (λ x r. many P n (found ++ x ∷ []) r) (Found found r)) (a.absent r (next_others f r (next_both c (others f) r cl).1))
      ∙ ap (λ l. Found l r) (sym (append-nil found))
  whole_many inc d (x ∷ xs) r h w m cl zero found k = absurd (omega (arith, k, length-append (z x) (each z xs), begins_some f (z x) (a.begins d x h m.0)))
  whole_many inc d (x ∷ xs) r h w m cl (suc n) found k =
      ap (λ k. or_stay (P k) (λ x r. many P n (found ++ x ∷ []) r) (Found found k)) (append_assoc (z x) (each z xs) r)
      ∙ ap (λ m. or_stay m (λ x r. many P n (found ++ x ∷ []) r) (Found found (z x ++ (each z xs ++ r))))
      (a.whole d x (each z xs ++ r) h (inside_left H (z x) (each z xs) w) m.0 (may_next f c inc (each z xs) r (begins_many d xs h m.1) (next_both c (others f) r cl).0))
      ∙ whole_many inc d xs r h (inside_right H (z x) (each z xs) w) m.1 cl n (found ++ x ∷ [])
      (omega (arith, k, length-append (z x) (each z xs), begins_some f (z x) (a.begins d x h m.0)))
      ∙ ap (λ l. Found l r) (append_assoc found (x ∷ []) xs)

  longest_many : subset f c ≡ true → c.end ≡ true → (d : ℕ) (t : List A) (r : Pieces) → d ≤ depth → Inside H (each z t) → Many M d t
      → (n : ℕ) (found : List A) → length (each z t) ≤ n → Takes (many P n found (each z t ++ r)) r
  unfolding many
  longest_many inc en d [] r h w m n found k = many_takes n found r r (omega arith)
  longest_many inc en d (x ∷ xs) r h w m zero found k = absurd (omega (arith, k, length-append (z x) (each z xs), begins_some f (z x) (a.begins d x h m.0)))
  longest_many inc en d (x ∷ xs) r h w m (suc n) found k =
      subst (λ k. Takes (or_stay (P k) (λ x r. many P n (found ++ x ∷ []) r) (Found found k)) r) (sym (append_assoc (z x) (each z xs) r))
      (go (each z xs) (inside_left H (z x) (each z xs) w) (begins_many d xs h m.1)
      (longest_many inc en d xs r h (inside_right H (z x) (each z xs) w) m.1 n (found ++ x ∷ []) (omega (arith, k, length-append (z x) (each z xs), begins_some f (z x) (a.begins d x h m.0)))))
    where
      go : (zs : Pieces) → Inside H (z x) → MayBegin f zs → Takes (many P n (found ++ x ∷ []) (zs ++ r)) r
          → Takes (or_stay (P (z x ++ (zs ++ r))) (λ x r. many P n (found ++ x ∷ []) r) (Found found (z x ++ (zs ++ r)))) r
      go [] w b ih = takes_stay (P (z x ++ r)) (λ x r. many P n (found ++ x ∷ []) r) (Found found (z x ++ r)) r (a.longest d x r h w m.0 en)
          (λ x s k. many_takes n (found ++ x ∷ []) s r k)
      go (q ∷ zs) w b ih =
          subst (λ m. Takes (or_stay m (λ x r. many P n (found ++ x ∷ []) r) (Found found (z x ++ ((q ∷ zs) ++ r)))) r)
          (sym (a.whole d x ((q ∷ zs) ++ r) h w m.0 (in_subset f c inc ((q ∷ zs) ++ r) (begins_next f (q ∷ zs) r b)))) ih

  idle_many : (n : ℕ) (i : Pieces) → next f i ≡ false → many P n [] i ≡ Found [] i
  unfolding many
  idle_many zero i h = refl
  idle_many (suc n) i h = ap (λ m. or_stay m (λ x r. many P n (x ∷ []) r) (Found [] i)) (a.absent i h)

  strip : (m : Read (List A)) (i : Pieces) → Grown [] m i → Sound (Many M) (each z) m i
  strip (Found t r) i s = ((s.1.0, subst (λ l. Many M s.1.0 l) (sym s.2) s.1.1), s.3 ∙ ap (λ l. each z l ++ r) (sym s.2))
  strip Absent i s = tt
  strip Deep i s = tt

  never : (m : Read (List A)) (found : List A) (i : Pieces) → Grown found m i → m ≡ Absent → ⊥
  never (Found t r) found i s is = cc
  never Absent found i s is = s
  never Deep found i s is = cc

  pub many_part : subset f c ≡ true → c.end ≡ true → Part H depth (Many M) (each z) (all_of P) f (λ _. both c (others f))
  many_part inc en = record {
    grows = λ d t m. more_each (M d) (M (suc d)) (a.grows d) t m;
    sound = λ i. strip (all_of P i) i (sound_many (length i) [] i);
    begins = begins_many;
    whole = λ d t r h w m cl. whole_many inc d t r h w m cl (length (each z t ++ r)) [] (omega (arith, length-append (each z t) r));
    longest = λ d t r h w m k. longest_many inc en d t r h w m (length (each z t ++ r)) [] (omega (arith, length-append (each z t) r));
    total = λ i. never (all_of P i) [] i (sound_many (length i) [] i);
    idle = λ i h. ([], idle_many (length i) i h);
  }

  -- ---- with commas

  module _ (comma : Test (Is (codes ",")) (is_sign word.Comma) (only word.Comma)) where
    abbrev items : List (Listed A) → Pieces
    items t = each (with_comma z) t

    abbrev Enlisted : List (Listed A) → Read (List (Listed A)) → Pieces → Type 0
    Enlisted found (Found t r) i = (more : List (Listed A)) × ((d : ℕ) × Lists M d more) × (t ≡ found ++ more) × (i ≡ items more ++ r)
    Enlisted found Absent i = ⊥
    Enlisted found Deep i = Unit {0}

    abbrev after : ℕ → List (Listed A) → A → Pieces → Read (List (Listed A))
    after n found x r = or_stay (token (is_sign word.Comma) r) (λ c s. commas P n (found ++ listed x (Some c) ∷ []) s) (Found (found ++ listed x None ∷ []) r)

    -- one item without a comma, and one with it, and what follows
    last_enlisted : (found : List (Listed A)) (x : A) (i r : Pieces) → (d : ℕ) × M d x → i ≡ z x ++ r → Enlisted found (Found (found ++ listed x None ∷ []) r) i
    last_enlisted found x i r l eq =
        (listed x None ∷ [], (l.0, (l.1, tt)), refl, eq ∙ ap (λ k. k ++ r) (sym (append-nil (z x)) ∙ sym (append-nil (z x ++ []))))

    next_enlisted : (found : List (Listed A)) (x : A) (k : Token) (m : Read (List (Listed A))) (i r s : Pieces) → (d : ℕ) × M d x → i ≡ z x ++ r → Is (codes ",") k → r ≡ piece k ++ s
        → Enlisted (found ++ listed x (Some k) ∷ []) m s → Enlisted found m i
    next_enlisted found x k (Found t q) i r s l eq is eq2 g =
        let e : ℕ = max l.0 g.1.0 in (
          listed x (Some k) ∷ g.0,
          (e, add_comma (M e) x k g.0 (raise M a.grows l.0 e x (omega arith) l.1) is (more_commas (M g.1.0) (M e) (λ t. raise M a.grows g.1.0 e t (omega arith)) g.0 g.1.1)),
          g.2 ∙ append_assoc found (listed x (Some k) ∷ []) g.0,
          eq ∙ ap (λ l. z x ++ l) (eq2 ∙ ap (λ l. piece k ++ l) g.3) ∙ sym (append_assoc (z x) (piece k) (items g.0 ++ q)) ∙ sym (append_assoc (z x ++ piece k) (items g.0) q),
        )
    next_enlisted found x k Absent i r s l eq is eq2 g = absurd g
    next_enlisted found x k Deep i r s l eq is eq2 g = tt

    sound_commas : (n : ℕ) (found : List (Listed A)) (i : Pieces) → Enlisted found (commas P n found i) i
    unfolding commas
    sound_commas zero found i = ([], (0, tt), sym (append-nil found), refl)
    sound_commas (suc n) found i = go (P i) (a.sound i) (λ x k s. sound_commas n (found ++ listed x (Some k) ∷ []) s)
      where
        behind : (x : A) (r : Pieces) (m : Read Token) → Sound (λ d. Is (codes ",")) piece m r → (d : ℕ) × M d x → i ≡ z x ++ r
            → ((k : Token) (s : Pieces) → Enlisted (found ++ listed x (Some k) ∷ []) (commas P n (found ++ listed x (Some k) ∷ []) s) s)
            → Enlisted found (or_stay m (λ c s. commas P n (found ++ listed x (Some c) ∷ []) s) (Found (found ++ listed x None ∷ []) r)) i
        behind x r (Found k s) t l eq ih = next_enlisted found x k (commas P n (found ++ listed x (Some k) ∷ []) s) i r s l eq t.0.1 t.1 (ih k s)
        behind x r Absent t l eq ih = last_enlisted found x i r l eq
        behind x r Deep t l eq ih = tt

        go : (m : Read A) → Sound M z m i → ((x : A) (k : Token) (s : Pieces) → Enlisted (found ++ listed x (Some k) ∷ []) (commas P n (found ++ listed x (Some k) ∷ []) s) s)
            → Enlisted found (or_stay m (λ x r. after n found x r) (Found found i)) i
        go (Found x r) s ih = behind x r (token (is_sign word.Comma) r) (sound_token (Is (codes ",")) (is_sign word.Comma) (only word.Comma) comma r) s.0 s.1 (ih x)
        go Absent s ih = ([], (0, tt), sym (append-nil found), refl)
        go Deep s ih = tt

    commas_take : (n : ℕ) (found : List (Listed A)) (i r : Pieces) → length i ≤ length r → Takes (commas P n found i) r
    commas_take n found i r h = go (commas P n found i) (sound_commas n found i)
      where
        go : (m : Read (List (Listed A))) → Enlisted found m i → Takes m r
        go (Found t s) q = omega (arith, h, ap (λ k. length k) q.3, length-append (items q.0) s)
        go Absent q = absurd q
        go Deep q = tt

    after_takes : (n : ℕ) (found : List (Listed A)) (x : A) (s r : Pieces) → length s ≤ length r → Takes (after n found x s) r
    after_takes n found x s r h = go (token (is_sign word.Comma) s) (sound_token (Is (codes ",")) (is_sign word.Comma) (only word.Comma) comma s)
      where
        go : (m : Read Token) → Sound (λ d. Is (codes ",")) piece m s
            → Takes (or_stay m (λ c s. commas P n (found ++ listed x (Some c) ∷ []) s) (Found (found ++ listed x None ∷ []) s)) r
        go (Found k q) t = commas_take n (found ++ listed x (Some k) ∷ []) q r (omega (arith, h, ap (λ k. length k) t.1))
        go Absent t = h
        go Deep t = tt

    abbrev Clear : Set
    Clear = both c (both (others f) (others (tokens (only word.Comma))))

    begins_commas : (d : ℕ) (t : List (Listed A)) → d ≤ depth → Lists M d t → MayBegin f (items t)
    begins_commas d [] h m = tt
    begins_commas d (x ∷ xs) h m =
        may_begin f (with_comma z x ++ items xs) (begins_append f (with_comma z x) (items xs) (begins_append f (z x.item) (maybe piece x.comma) (a.begins d x.item h (item_of (M d) x xs m))))

    -- an item and its comma, in front
    item_cut : (x : A) (k : Token) (ys r : Pieces) → ((z x ++ piece k) ++ ys) ++ r ≡ z x ++ (p.Token k ∷ (ys ++ r))
    item_cut x k ys r = append_assoc (z x ++ piece k) ys r ∙ append_assoc (z x) (piece k) (ys ++ r)

    alone_cut : (x : A) (r : Pieces) → ((z x ++ []) ++ []) ++ r ≡ z x ++ r
    alone_cut x r = ap (λ k. k ++ r) (append-nil (z x ++ []) ∙ append-nil (z x))

    one_turn : subset (tokens (only word.Comma)) c ≡ true → (d n : ℕ) (found : List (Listed A)) (x : A) (k : Token) (ys r : Pieces) → d ≤ depth → Inside H (z x) → M d x → Is (codes ",") k
        → commas P (suc n) found (((z x ++ piece k) ++ ys) ++ r) ≡ commas P n (found ++ listed x (Some k) ∷ []) (ys ++ r)
    unfolding commas
    one_turn inc d n found x k ys r h w m is =
        ap (λ q. or_stay (P q) (λ x r. after n found x r) (Found found q)) (item_cut x k ys r)
        ∙ ap (λ q. or_stay q (λ x r. after n found x r) (Found found (z x ++ (p.Token k ∷ (ys ++ r)))))
        (a.whole d x (p.Token k ∷ (ys ++ r)) h w m (in_subset (tokens (only word.Comma)) c inc (p.Token k ∷ (ys ++ r)) (comma.sorted k is)))
        ∙ ap (λ q. or_stay q (λ c s. commas P n (found ++ listed x (Some c) ∷ []) s) (Found (found ++ listed x None ∷ []) (p.Token k ∷ (ys ++ r))))
        (whole_token (Is (codes ",")) (is_sign word.Comma) (only word.Comma) comma k (ys ++ r) is)

    whole_commas : subset (tokens (only word.Comma)) c ≡ true → (d : ℕ) (t : List (Listed A)) (r : Pieces) → d ≤ depth → Inside H (items t) → Lists M d t → next Clear r ≡ true
        → (n : ℕ) (found : List (Listed A)) → length (items t) ≤ n → commas P n found (items t ++ r) ≡ Found (found ++ t) r
    unfolding commas
    whole_commas inc d [] r h w m cl zero found k = ap (λ l. Found l r) (sym (append-nil found))
    whole_commas inc d [] r h w m cl (suc n) found k =
        ap (λ m. or_stay m (λ x r. after n found x r) (Found found r))
        (a.absent r (next_others f r (next_both (others f) (others (tokens (only word.Comma))) r (next_both c (both (others f) (others (tokens (only word.Comma)))) r cl).1).0))
        ∙ ap (λ l. Found l r) (sym (append-nil found))
    whole_commas inc d (x ∷ xs) r h w m cl zero found k =
        absurd (omega (arith, k, length-append (with_comma z x) (items xs), length-append (z x.item) (maybe piece x.comma), begins_some f (z x.item) (a.begins d x.item h (item_of (M d) x xs m))))
    whole_commas inc d (x ∷ xs) r h w m cl (suc n) found k =
        go x.item x.comma xs (inside_left H (z x.item) (maybe piece x.comma) (inside_left H (with_comma z x) (items xs) w)) m
        (whole_commas inc d xs r h (inside_right H (with_comma z x) (items xs) w) (rest_of (M d) x xs m) cl n (found ++ x ∷ [])
        (omega (arith, k, length-append (with_comma z x) (items xs), length-append (z x.item) (maybe piece x.comma), begins_some f (z x.item) (a.begins d x.item h (item_of (M d) x xs m)))))
      where
        go : (y : A) (k : Option Token) (ys : List (Listed A)) → Inside H (z y) → Lists M d (listed y k ∷ ys)
            → commas P n (found ++ listed y k ∷ []) (items ys ++ r) ≡ Found ((found ++ listed y k ∷ []) ++ ys) r
            → commas P (suc n) found (items (listed y k ∷ ys) ++ r) ≡ Found (found ++ listed y k ∷ ys) r
        go y None [] v m ih =
            ap (λ q. or_stay (P q) (λ x r. after n found x r) (Found found q)) (alone_cut y r)
            ∙ ap (λ m. or_stay m (λ x r. after n found x r) (Found found (z y ++ r))) (a.whole d y r h v m.0 (next_both c (both (others f) (others (tokens (only word.Comma)))) r cl).0)
            ∙ ap (λ m. or_stay m (λ c s. commas P n (found ++ listed y (Some c) ∷ []) s) (Found (found ++ listed y None ∷ []) r))
            (absent_token (Is (codes ",")) (is_sign word.Comma) (only word.Comma) comma r
            (next_others (tokens (only word.Comma)) r (next_both (others f) (others (tokens (only word.Comma))) r (next_both c (both (others f) (others (tokens (only word.Comma)))) r cl).1).1))
        go y None (b ∷ rest) v m ih = let none : None ≡ Some m.1.0 = m.1.1 in cc
        go y (Some k) ys v m ih =
            one_turn inc d n found y k (items ys) r h v (item_of (M d) (listed y (Some k)) ys m) (comma_of (M d) y k ys m)
            ∙ ih ∙ ap (λ l. Found l r) (append_assoc found (listed y (Some k) ∷ []) ys)

    longest_commas : subset (tokens (only word.Comma)) c ≡ true → c.end ≡ true → (d : ℕ) (t : List (Listed A)) (r : Pieces) → d ≤ depth → Inside H (items t) → Lists M d t
        → (n : ℕ) (found : List (Listed A)) → length (items t) ≤ n → Takes (commas P n found (items t ++ r)) r
    unfolding commas
    longest_commas inc en d [] r h w m n found k = commas_take n found r r (omega arith)
    longest_commas inc en d (x ∷ xs) r h w m zero found k =
        absurd (omega (arith, k, length-append (with_comma z x) (items xs), length-append (z x.item) (maybe piece x.comma), begins_some f (z x.item) (a.begins d x.item h (item_of (M d) x xs m))))
    longest_commas inc en d (x ∷ xs) r h w m (suc n) found k =
        go x.item x.comma xs (inside_left H (z x.item) (maybe piece x.comma) (inside_left H (with_comma z x) (items xs) w)) m
        (longest_commas inc en d xs r h (inside_right H (with_comma z x) (items xs) w) (rest_of (M d) x xs m) n (found ++ x ∷ [])
        (omega (arith, k, length-append (with_comma z x) (items xs), length-append (z x.item) (maybe piece x.comma), begins_some f (z x.item) (a.begins d x.item h (item_of (M d) x xs m)))))
      where
        go : (y : A) (k : Option Token) (ys : List (Listed A)) → Inside H (z y) → Lists M d (listed y k ∷ ys)
            → Takes (commas P n (found ++ listed y k ∷ []) (items ys ++ r)) r → Takes (commas P (suc n) found (items (listed y k ∷ ys) ++ r)) r
        go y None [] v m ih =
            subst (λ q. Takes (or_stay (P q) (λ x r. after n found x r) (Found found q)) r) (sym (alone_cut y r))
            (takes_stay (P (z y ++ r)) (λ x r. after n found x r) (Found found (z y ++ r)) r (a.longest d y r h v m.0 en) (λ x s k. after_takes n found x s r k))
        go y None (b ∷ rest) v m ih = let none : None ≡ Some m.1.0 = m.1.1 in cc
        go y (Some k) ys v m ih = subst (λ q. Takes q r) (sym (one_turn inc d n found y k (items ys) r h v (item_of (M d) (listed y (Some k)) ys m) (comma_of (M d) y k ys m))) ih

    idle_commas : (n : ℕ) (i : Pieces) → next f i ≡ false → commas P n [] i ≡ Found [] i
    unfolding commas
    idle_commas zero i h = refl
    idle_commas (suc n) i h = ap (λ m. or_stay m (λ x r. after n [] x r) (Found [] i)) (a.absent i h)

    bare : (m : Read (List (Listed A))) (i : Pieces) → Enlisted [] m i → Sound (Lists M) items m i
    bare (Found t r) i s = ((s.1.0, subst (λ l. Lists M s.1.0 l) (sym s.2) s.1.1), s.3 ∙ ap (λ l. items l ++ r) (sym s.2))
    bare Absent i s = tt
    bare Deep i s = tt

    none_lost : (m : Read (List (Listed A))) (found : List (Listed A)) (i : Pieces) → Enlisted found m i → m ≡ Absent → ⊥
    none_lost (Found t r) found i s is = cc
    none_lost Absent found i s is = s
    none_lost Deep found i s is = cc

    pub commas_part : subset (tokens (only word.Comma)) c ≡ true → c.end ≡ true → Part H depth (Lists M) items (list_of P) f (λ _. Clear)
    commas_part inc en = record {
      grows = λ d t m. more_commas (M d) (M (suc d)) (a.grows d) t m;
      sound = λ i. bare (list_of P i) i (sound_commas (length i) [] i);
      begins = begins_commas;
      whole = λ d t r h w m cl. whole_commas inc d t r h w m cl (length (items t ++ r)) [] (omega (arith, length-append (items t) r));
      longest = λ d t r h w m k. longest_commas inc en d t r h w m (length (items t ++ r)) [] (omega (arith, length-append (items t) r));
      total = λ i. none_lost (list_of P i) [] i (sound_commas (length i) [] i);
      idle = λ i h. ([], idle_commas (length i) i h);
    }

    ended : (s : Set) (r : Pieces) → next (unended s) r ≡ true → next s r ≡ true
    ended s [] h = cc
    ended s (p.Token t ∷ r) h = h
    ended s (p.Group g ∷ r) h = h

    -- where an item can't stand at the end
    pub commas_inner : subset (tokens (only word.Comma)) c ≡ true → Part H depth (Lists M) items (list_of P) f (λ _. unended Clear)
    commas_inner inc = record {
      grows = λ d t m. more_commas (M d) (M (suc d)) (a.grows d) t m;
      sound = λ i. bare (list_of P i) i (sound_commas (length i) [] i);
      begins = begins_commas;
      whole = λ d t r h w m cl. whole_commas inc d t r h w m (ended Clear r cl) (length (items t ++ r)) [] (omega (arith, length-append (items t) r));
      longest = λ d t r h w m k. cc;
      total = λ i. none_lost (list_of P i) [] i (sound_commas (length i) [] i);
      idle = λ i h. ([], idle_commas (length i) i h);
    }

pub many_of : {A : Type 0} {H : Pieces → Type 0} {depth : ℕ} {M : ℕ → A → Type 0} {z : A → Pieces} {P : Pieces → Read A} {f c : Set}
    → Pair H depth M z P f (λ _. c) → subset f c ≡ true → c.end ≡ true → Part H depth (Many M) (each z) (all_of P) f (λ _. both c (others f))
many_of {A} {H} {depth} {M} {z} {P} {f} {c} a inc en = many_part H depth M z P f c a inc en

pub commas_of : {A : Type 0} {H : Pieces → Type 0} {depth : ℕ} {M : ℕ → A → Type 0} {z : A → Pieces} {P : Pieces → Read A} {f c : Set} → Test (Is (codes ",")) (is_sign word.Comma) (only word.Comma)
    → Pair H depth M z P f (λ _. c) → subset (tokens (only word.Comma)) c ≡ true → c.end ≡ true
    → Part H depth (Lists M) (each (with_comma z)) (list_of P) f (λ _. both c (both (others f) (others (tokens (only word.Comma)))))
commas_of {A} {H} {depth} {M} {z} {P} {f} {c} comma a inc en = commas_part H depth M z P f c a comma inc en

-- the same where an item can't stand at the end
pub commas_before : {A : Type 0} {H : Pieces → Type 0} {depth : ℕ} {M : ℕ → A → Type 0} {z : A → Pieces} {P : Pieces → Read A} {f c : Set} → Test (Is (codes ",")) (is_sign word.Comma) (only word.Comma)
    → Pair H depth M z P f (λ _. c) → subset (tokens (only word.Comma)) c ≡ true
    → Part H depth (Lists M) (each (with_comma z)) (list_of P) f (λ _. unended (both c (both (others f) (others (tokens (only word.Comma))))))
commas_before {A} {H} {depth} {M} {z} {P} {f} {c} comma a inc = commas_inner H depth M z P f c a comma inc
