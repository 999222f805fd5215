-- Readers of single tokens, of one part after another, and of what may be there.
use Rattle.std.proofs.Common.{◌≡◌, ℕ, zero, suc, ◌+◌, ◌-◌, ◌≤◌, Bool, true, false, not, ◌||◌, if◌then◌else◌, [], ◌∷◌, ◌++◌, length, length-append, Option, Some, None, refl, sym, ◌∙◌, ap, subst, append_assoc, arith, max}
use Rattle.em_base.specs.declared.token.Token.{Token}
use Rattle.em_tree.specs.declared.piece.Piece.TheVariants as p
use Rattle.em_tree.specs.Starts.{Pieces, kind_of}
use Rattle.em_tree.specs.Parts.{maybe}
use Rattle.em_tree.specs.Yields.{piece}
use Rattle.em_grammar.specs.declared.sort.Sort.{Sort}
use Rattle.em_grammar.specs.Sorts.{sort_of}
use Rattle.em_grammar.specs.Sets.{Set, next, subset, others, either, both, tokens, anything, implies, Inside}
use Rattle.em_grammar.specs.Lang.{Chain, Seq, joined, Opt}
use Rattle.em_grammar.specs.Reader.{Read, Found, Absent, Deep, and_then, or_stay, token, chain, seq, opt}
use Rattle.em_grammar.specs.Pairs.{Pair, Part, Tail, Test, Sound, Takes, Begins, MayBegin}
use Rattle.em_grammar.proofs.AllSorts.{sort_at, fragment_at, and-left, and-right}

-- ---- sets

implied : (a b : Bool) → implies a b ≡ true → a ≡ true → b ≡ true
implied true b h is = h
implied false b h is = cc

pub in_subset : (a b : Set) → subset a b ≡ true → (i : Pieces) → next a i ≡ true → next b i ≡ true
in_subset a b h [] is = implied a.end b.end (and-left _ _ h) is
in_subset a b h (p.Token t ∷ r) is =
    implied (a.token (sort_of t)) (b.token (sort_of t)) (sort_at (λ k. implies (a.token k) (b.token k)) (sort_of t) (and-left _ _ (and-right _ _ h))) is
in_subset a b h (p.Group g ∷ r) is =
    implied (a.group (kind_of g)) (b.group (kind_of g)) (fragment_at (λ f. implies (a.group f) (b.group f)) (kind_of g) (and-right _ _ (and-right _ _ h))) is

pub at_end : (a b : Set) → subset a b ≡ true → a.end ≡ true → b.end ≡ true
at_end a b h is = implied a.end b.end (and-left _ _ h) is

not_true : (b : Bool) → not b ≡ true → b ≡ false
not_true true h = sym h
not_true false h = refl

or_left : (a b : Bool) → (a || b) ≡ false → a ≡ false
or_left true b h = h
or_left false b h = refl

or_right : (a b : Bool) → (a || b) ≡ false → b ≡ false
or_right true b h = cc
or_right false b h = h

or_one : (a b : Bool) → a ≡ true → (a || b) ≡ true
or_one true b h = refl
or_one false b h = cc

or_two : (a b : Bool) → b ≡ true → (a || b) ≡ true
or_two true b h = refl
or_two false b h = h

pub next_others : (a : Set) (i : Pieces) → next (others a) i ≡ true → next a i ≡ false
next_others a [] h = not_true a.end h
next_others a (p.Token t ∷ r) h = not_true (a.token (sort_of t)) h
next_others a (p.Group g ∷ r) h = not_true (a.group (kind_of g)) h

pub next_both : (a b : Set) (i : Pieces) → next (both a b) i ≡ true → (next a i ≡ true) × (next b i ≡ true)
next_both a b [] h = (and-left _ _ h, and-right _ _ h)
next_both a b (p.Token t ∷ r) h = (and-left _ _ h, and-right _ _ h)
next_both a b (p.Group g ∷ r) h = (and-left _ _ h, and-right _ _ h)

pub next_neither : (a b : Set) (i : Pieces) → next (either a b) i ≡ false → (next a i ≡ false) × (next b i ≡ false)
next_neither a b [] h = (or_left _ _ h, or_right _ _ h)
next_neither a b (p.Token t ∷ r) h = (or_left _ _ h, or_right _ _ h)
next_neither a b (p.Group g ∷ r) h = (or_left _ _ h, or_right _ _ h)

pub next_one : (a b : Set) (i : Pieces) → next a i ≡ true → next (either a b) i ≡ true
next_one a b [] h = or_one _ _ h
next_one a b (p.Token t ∷ r) h = or_one _ _ h
next_one a b (p.Group g ∷ r) h = or_one _ _ h

pub next_two : (a b : Set) (i : Pieces) → next b i ≡ true → next (either a b) i ≡ true
next_two a b [] h = or_two _ _ h
next_two a b (p.Token t ∷ r) h = or_two _ _ h
next_two a b (p.Group g ∷ r) h = or_two _ _ h

pub always : (i : Pieces) → next anything i ≡ true
always [] = refl
always (p.Token t ∷ r) = refl
always (p.Group g ∷ r) = refl

-- ---- what a yield begins with

pub begins_next : (s : Set) (ys r : Pieces) → Begins s ys → next s (ys ++ r) ≡ true
begins_next s [] r b = absurd b
begins_next s (p.Token t ∷ ys) r b = b
begins_next s (p.Group g ∷ ys) r b = b

pub begins_some : (s : Set) (ys : Pieces) → Begins s ys → 1 ≤ length ys
begins_some s [] b = absurd b
begins_some s (x ∷ ys) b = omega arith

pub begins_append : (s : Set) (xs zs : Pieces) → Begins s xs → Begins s (xs ++ zs)
begins_append s [] zs b = absurd b
begins_append s (p.Token t ∷ xs) zs b = b
begins_append s (p.Group g ∷ xs) zs b = b

pub begins_in : (s u : Set) (ys : Pieces) → ((i : Pieces) → next s i ≡ true → next u i ≡ true) → Begins s ys → Begins u ys
begins_in s u [] h b = b
begins_in s u (x ∷ ys) h b = h (x ∷ ys) b

pub may_in : (s u : Set) (ys : Pieces) → ((i : Pieces) → next s i ≡ true → next u i ≡ true) → MayBegin s ys → MayBegin u ys
may_in s u [] h b = b
may_in s u (x ∷ ys) h b = h (x ∷ ys) b

pub begins_second : (s u : Set) (xs zs : Pieces) → MayBegin s xs → Begins u zs → Begins (either s u) (xs ++ zs)
begins_second s u [] zs a b = begins_in u (either s u) zs (next_two s u) b
begins_second s u (x ∷ xs) zs a b = begins_append (either s u) (x ∷ xs) zs (next_one s u (x ∷ xs) a)

pub may_begin : (s : Set) (ys : Pieces) → Begins s ys → MayBegin s ys
may_begin s [] b = tt
may_begin s (x ∷ ys) b = b

-- what may follow, where the second part may be empty
pub may_next : (g c : Set) → subset g c ≡ true → (zs r : Pieces) → MayBegin g zs → next c r ≡ true → next c (zs ++ r) ≡ true
may_next g c inc [] r b is = is
may_next g c inc (p.Token t ∷ zs) r b is = in_subset g c inc (p.Token t ∷ zs ++ r) b
may_next g c inc (p.Group x ∷ zs) r b is = in_subset g c inc (p.Group x ∷ zs ++ r) b

pub inside_left : (H : Pieces → Type 0) (xs zs : Pieces) → Inside H (xs ++ zs) → Inside H xs
inside_left H [] zs h = tt
inside_left H (p.Token t ∷ xs) zs h = inside_left H xs zs h
inside_left H (p.Group g ∷ xs) zs h = (h.0, inside_left H xs zs h.1)

pub inside_right : (H : Pieces → Type 0) (xs zs : Pieces) → Inside H (xs ++ zs) → Inside H zs
inside_right H [] zs h = h
inside_right H (p.Token t ∷ xs) zs h = inside_right H xs zs h
inside_right H (p.Group g ∷ xs) zs h = inside_right H xs zs h.1

-- ---- what was read

pub sound_then : {A B : Type 0} (M : ℕ → A → Type 0) (y : A → Pieces) (N : ℕ → B → Type 0) (z : B → Pieces) (m : Read A) (f : A → Pieces → Read B) (i j : Pieces)
    → Sound M y m j → ((a : A) (r : Pieces) → (d : ℕ) × M d a → j ≡ y a ++ r → Sound N z (f a r) i) → Sound N z (and_then m f) i
sound_then M y N z (Found a r) f i j s k = k a r s.0 s.1
sound_then M y N z Absent f i j s k = tt
sound_then M y N z Deep f i j s k = tt

pub sound_stay : {A B : Type 0} (M : ℕ → A → Type 0) (y : A → Pieces) (N : ℕ → B → Type 0) (z : B → Pieces) (m : Read A) (f : A → Pieces → Read B) (b : Read B) (i j : Pieces)
    → Sound M y m j → ((a : A) (r : Pieces) → (d : ℕ) × M d a → j ≡ y a ++ r → Sound N z (f a r) i) → Sound N z b i → Sound N z (or_stay m f b) i
sound_stay M y N z (Found a r) f b i j s k h = k a r s.0 s.1
sound_stay M y N z Absent f b i j s k h = h
sound_stay M y N z Deep f b i j s k h = tt

-- what was found is of another language too
pub sound_in : {T : Type 0} (M N : ℕ → T → Type 0) (z : T → Pieces) (m : Read T) (i : Pieces) → ((d : ℕ) (t : T) → M d t → N d t) → Sound M z m i → Sound N z m i
sound_in M N z (Found t r) i h s = ((s.0.0, h s.0.0 t s.0.1), s.1)
sound_in M N z Absent i h s = tt
sound_in M N z Deep i h s = tt

pub takes_then : {A B : Type 0} (m : Read A) (f : A → Pieces → Read B) (r : Pieces) → Takes m r → ((a : A) (s : Pieces) → length s ≤ length r → Takes (f a s) r) → Takes (and_then m f) r
takes_then (Found a s) f r t h = h a s t
takes_then Absent f r t h = absurd t
takes_then Deep f r t h = tt

pub takes_stay : {A B : Type 0} (m : Read A) (f : A → Pieces → Read B) (b : Read B) (r : Pieces) → Takes m r → ((a : A) (s : Pieces) → length s ≤ length r → Takes (f a s) r) → Takes (or_stay m f b) r
takes_stay (Found a s) f b r t h = h a s t
takes_stay Absent f b r t h = absurd t
takes_stay Deep f b r t h = tt

pub no_longer : {T : Type 0} (M : ℕ → T → Type 0) (z : T → Pieces) (m : Read T) (i r : Pieces) → Sound M z m i → (m ≡ Absent → ⊥) → length i ≤ length r → Takes m r
no_longer M z (Found x s) i r a b h = omega (arith, h, ap (λ k. length k) a.1, length-append (z x) s)
no_longer M z Absent i r a b h = absurd (b refl)
no_longer M z Deep i r a b h = tt

pub exactly : {T : Type 0} (m : Read T) (t : T) (r : Pieces) → m ≡ Found t r → Takes m r
exactly m t r is = subst (λ m. Takes m r) (sym is) (omega arith)

pub raised : {T : Type 0} (M : ℕ → T → Type 0) → ((d : ℕ) (t : T) → M d t → M (suc d) t) → (k d : ℕ) (t : T) → M d t → M (d + k) t
raised M up zero d t a = subst (λ n. M n t) (omega arith) a
raised M up (suc k) d t a = subst (λ n. M n t) (omega arith) (up (d + k) t (raised M up k d t a))

pub raise : {T : Type 0} (M : ℕ → T → Type 0) → ((d : ℕ) (t : T) → M d t → M (suc d) t) → (d e : ℕ) (t : T) → d ≤ e → M d t → M e t
raise M up d e t h a = subst (λ n. M n t) (omega (arith, h)) (raised M up (e - d) d t a)

-- ---- one token

module _ (Q : Token → Type 0) (test : Token → Bool) (s : Sort → Bool) (a : Test Q test s) where
  pub sound_token : (i : Pieces) → Sound (λ d. Q) piece (token test i) i
  sound_token [] = tt
  sound_token (p.Group g ∷ r) = tt
  sound_token (p.Token t ∷ r) = go (test t) refl
    where
      go : (b : Bool) → test t ≡ b → Sound (λ d. Q) piece (if b then Found t r else Absent) (p.Token t ∷ r)
      go true is = ((0, a.holds t is), refl)
      go false is = tt

  pub whole_token : (t : Token) (r : Pieces) → Q t → token test (piece t ++ r) ≡ Found t r
  whole_token t r m = ap (λ b. if b then Found t r else Absent) (a.told t m)

  pub absent_token : (i : Pieces) → next (tokens s) i ≡ false → token test i ≡ Absent
  absent_token [] h = refl
  absent_token (p.Group g ∷ r) h = refl
  absent_token (p.Token t ∷ r) h = go (test t) refl
    where
      go : (b : Bool) → test t ≡ b → (if b then Found t r else Absent) ≡ Absent
      go true is = let sorted : s (sort_of t) ≡ true = a.sorted t (a.holds t is) in cc
      go false is = refl

pub tok : {H : Pieces → Type 0} {depth : ℕ} {Q : Token → Type 0} {test : Token → Bool} {s : Sort → Bool} → Test Q test s
    → Pair H depth (λ d. Q) piece (token test) (tokens s) (λ t. anything)
tok {H} {depth} {Q} {test} {s} a = record {
  grows = λ d t m. m;
  sound = sound_token Q test s a;
  begins = λ d t h m. a.sorted t m;
  whole = λ d t r h w m c. whole_token Q test s a t r m;
  longest = λ d t r h w m e. exactly (token test (piece t ++ r)) t r (whole_token Q test s a t r m);
  absent = absent_token Q test s a;
}

-- ---- one after another

pub sound_chain : {A B : Type 0} (M : ℕ → A → Type 0) (y : A → Pieces) (N : A → ℕ → B → Type 0) (z : B → Pieces) (P : Pieces → Read A) (Q : A → Pieces → Read B)
    → ((d : ℕ) (t : A) → M d t → M (suc d) t) → ((a : A) (d : ℕ) (t : B) → N a d t → N a (suc d) t)
    → ((i : Pieces) → Sound M y (P i) i) → ((a : A) (i : Pieces) → Sound (N a) z (Q a i) i) → (i : Pieces) → Sound (Chain M N) (joined y z) (chain P Q i) i
sound_chain M y N z P Q up up2 a b i =
    sound_then M y (Chain M N) (joined y z) (P i) (λ x r. and_then (Q x r) (λ u s. Found (x, u) s)) i i (a i) (λ x r l eq.
    sound_then (N x) z (Chain M N) (joined y z) (Q x r) (λ u s. Found (x, u) s) i r (b x r) (λ u s m eq2. (
      (max l.0 m.0, (raise M up l.0 (max l.0 m.0) x (omega arith) l.1, raise (N x) (up2 x) m.0 (max l.0 m.0) u (omega arith) m.1)),
      eq ∙ ap (λ k. y x ++ k) eq2 ∙ sym (append_assoc (y x) (z u) s),
    )))

-- what the first part is, in a whole
step : {A B : Type 0} (y : A → Pieces) (z : B → Pieces) (P : Pieces → Read A) (Q : A → Pieces → Read B) (a : A) (b : B) (r : Pieces) → P (y a ++ (z b ++ r)) ≡ Found a (z b ++ r)
    → chain P Q ((y a ++ z b) ++ r) ≡ and_then (Q a (z b ++ r)) (λ u s. Found (a, u) s)
step y z P Q a b r is = ap (λ k. chain P Q k) (append_assoc (y a) (z b) r) ∙ ap (λ k. and_then k (λ x r. and_then (Q x r) (λ u s. Found (x, u) s))) is

module _ {H : Pieces → Type 0} {depth : ℕ} {A B : Type 0} {M : ℕ → A → Type 0} {y : A → Pieces} {N : A → ℕ → B → Type 0} {z : B → Pieces} {P : Pieces → Read A} {Q : A → Pieces → Read B}
    {f : Set} {c : A → Set} where
  -- what follows the first part may follow it
  pub chain_of : {g : A → Set} {e : B → Set} → Pair H depth M y P f c → ((a : A) → Tail H depth (N a) z (Q a) (g a) e) → ((a : A) → subset (g a) (c a) ≡ true)
      → Pair H depth (Chain M N) (joined y z) (chain P Q) f (λ t. e t.1)
  chain_of {g} {e} a b inc = record {
    grows = λ d t m. (a.grows d t.0 m.0, (b t.0).grows d t.1 m.1);
    sound = λ i. sound_chain M y N z P Q a.grows (λ x. (b x).grows) a.sound (λ x. (b x).sound) i;
    begins = λ d t h m. begins_append f (y t.0) (z t.1) (a.begins d t.0 h m.0);
    whole = λ d t r h w m cl.
        step y z P Q t.0 t.1 r (a.whole d t.0 (z t.1 ++ r) h (inside_left H (y t.0) (z t.1) w) m.0 (in_subset (g t.0) (c t.0) (inc t.0) (z t.1 ++ r) ((b t.0).follows d t.1 r h m.1 cl)))
        ∙ ap (λ k. and_then k (λ u s. Found (t.0, u) s)) ((b t.0).whole d t.1 r h (inside_right H (y t.0) (z t.1) w) m.1 cl);
    longest = λ d t r h w m en.
        subst (λ k. Takes k r) (sym (step y z P Q t.0 t.1 r (a.whole d t.0 (z t.1 ++ r) h (inside_left H (y t.0) (z t.1) w) m.0
        (in_subset (g t.0) (c t.0) (inc t.0) (z t.1 ++ r) (begins_next (g t.0) (z t.1) r ((b t.0).begins d t.1 h m.1 en))))))
        (takes_then (Q t.0 (z t.1 ++ r)) (λ u s. Found (t.0, u) s) r ((b t.0).longest d t.1 r h (inside_right H (y t.0) (z t.1) w) m.1 en) (λ u s k. k));
    absent = λ i h. ap (λ k. and_then k (λ x r. and_then (Q x r) (λ u s. Found (x, u) s))) (a.absent i h);
  }

  -- the second may be empty: what follows it may follow the first too
  pub chain_part : {g : Set} {e : B → Set} → Pair H depth M y P f c → ((a : A) → Part H depth (N a) z (Q a) g e) → ((a : A) → subset g (c a) ≡ true)
      → Pair H depth (Chain M N) (joined y z) (chain P Q) f (λ t. both (c t.0) (e t.1))
  chain_part {g} {e} a b inc = record {
    grows = λ d t m. (a.grows d t.0 m.0, (b t.0).grows d t.1 m.1);
    sound = λ i. sound_chain M y N z P Q a.grows (λ x. (b x).grows) a.sound (λ x. (b x).sound) i;
    begins = λ d t h m. begins_append f (y t.0) (z t.1) (a.begins d t.0 h m.0);
    whole = λ d t r h w m cl.
        step y z P Q t.0 t.1 r (a.whole d t.0 (z t.1 ++ r) h (inside_left H (y t.0) (z t.1) w) m.0
        (may_next g (c t.0) (inc t.0) (z t.1) r ((b t.0).begins d t.1 h m.1) (next_both (c t.0) (e t.1) r cl).0))
        ∙ ap (λ k. and_then k (λ u s. Found (t.0, u) s)) ((b t.0).whole d t.1 r h (inside_right H (y t.0) (z t.1) w) m.1 (next_both (c t.0) (e t.1) r cl).1);
    longest = λ d t r h w m en.
        subst (λ k. Takes (chain P Q k) r) (sym (append_assoc (y t.0) (z t.1) r))
        (go d t.0 t.1 (z t.1) refl r h (inside_left H (y t.0) (z t.1) w) (inside_right H (y t.0) (z t.1) w) m.0 m.1 (and-left _ _ en) (and-right _ _ en));
    absent = λ i h. ap (λ k. and_then k (λ x r. and_then (Q x r) (λ u s. Found (x, u) s))) (a.absent i h);
  }
    where
      go : (d : ℕ) (x : A) (u : B) (zs : Pieces) → z u ≡ zs → (r : Pieces) → d ≤ depth → Inside H (y x) → Inside H (z u) → M d x → N x d u → (c x).end ≡ true → (e u).end ≡ true
          → Takes (chain P Q (y x ++ (z u ++ r))) r
      go d x u [] is r h v w l m en en2 =
          subst (λ k. Takes (chain P Q (y x ++ (k ++ r))) r) (sym is)
          (takes_then (P (y x ++ r)) (λ x r. and_then (Q x r) (λ u s. Found (x, u) s)) r (a.longest d x r h v l en)
          (λ x s k. takes_then (Q x s) (λ u s. Found (x, u) s) r (no_longer (N x) z (Q x s) s r ((b x).sound s) ((b x).total s) k) (λ u s k. k)))
      go d x u (q ∷ zs) is r h v w l m en en2 =
          let starts : MayBegin g (q ∷ zs) = subst (λ k. MayBegin g k) is ((b x).begins d u h m) in
          subst (λ k. Takes k r) (sym (ap (λ k. and_then k (λ x r. and_then (Q x r) (λ u s. Found (x, u) s)))
          (a.whole d x (z u ++ r) h v l (in_subset g (c x) (inc x) (z u ++ r) (subst (λ k. next g (k ++ r) ≡ true) (sym is) (begins_next g (q ∷ zs) r starts))))))
          (takes_then (Q x (z u ++ r)) (λ u s. Found (x, u) s) r ((b x).longest d u r h w m en2) (λ u s k. k))

pub tail_of : {H : Pieces → Type 0} {depth : ℕ} {B : Type 0} {N : ℕ → B → Type 0} {z : B → Pieces} {Q : Pieces → Read B} {g : Set} {e : B → Set}
    → Pair H depth N z Q g e → Tail H depth N z Q g e
tail_of {H} {depth} {B} {N} {z} {Q} {g} {e} b = record {
  grows = b.grows;
  sound = b.sound;
  follows = λ d t r h m cl. begins_next g (z t) r (b.begins d t h m);
  begins = λ d t h m en. b.begins d t h m;
  whole = b.whole;
  longest = b.longest;
}

pub seq_of : {H : Pieces → Type 0} {depth : ℕ} {A B : Type 0} {M : ℕ → A → Type 0} {y : A → Pieces} {N : ℕ → B → Type 0} {z : B → Pieces} {P : Pieces → Read A} {Q : Pieces → Read B}
    {f : Set} {c : A → Set} {g : Set} {e : B → Set}
    → Pair H depth M y P f c → Pair H depth N z Q g e → ((a : A) → subset g (c a) ≡ true) → Pair H depth (Seq M N) (joined y z) (seq P Q) f (λ t. e t.1)
seq_of {H} {depth} {A} {B} {M} {y} {N} {z} {P} {Q} {f} {c} {g} {e} a b inc =
    chain_of {N = λ _. N} {Q = λ _. Q} {g = λ _. g} a (λ _. tail_of b) inc

pub seq_part : {H : Pieces → Type 0} {depth : ℕ} {A B : Type 0} {M : ℕ → A → Type 0} {y : A → Pieces} {N : ℕ → B → Type 0} {z : B → Pieces} {P : Pieces → Read A} {Q : Pieces → Read B}
    {f : Set} {c : A → Set} {g : Set} {e : B → Set}
    → Pair H depth M y P f c → Part H depth N z Q g e → ((a : A) → subset g (c a) ≡ true) → Pair H depth (Seq M N) (joined y z) (seq P Q) f (λ t. both (c t.0) (e t.1))
seq_part {H} {depth} {A} {B} {M} {y} {N} {z} {P} {Q} {f} {c} {g} {e} a b inc =
    chain_part {N = λ _. N} {Q = λ _. Q} a (λ _. b) inc

-- the first may be empty
pub part_seq : {H : Pieces → Type 0} {depth : ℕ} {A B : Type 0} {M : ℕ → A → Type 0} {y : A → Pieces} {N : ℕ → B → Type 0} {z : B → Pieces} {P : Pieces → Read A} {Q : Pieces → Read B}
    {f : Set} {c : A → Set} {g : Set} {e : B → Set}
    → Part H depth M y P f c → Pair H depth N z Q g e → ((a : A) → subset g (c a) ≡ true) → Pair H depth (Seq M N) (joined y z) (seq P Q) (either f g) (λ t. e t.1)
part_seq {H} {depth} {A} {B} {M} {y} {N} {z} {P} {Q} {f} {c} {g} {e} a b inc = record {
  grows = λ d t m. (a.grows d t.0 m.0, b.grows d t.1 m.1);
  sound = λ i. sound_chain M y (λ _. N) z P (λ _. Q) a.grows (λ _. b.grows) a.sound (λ _. b.sound) i;
  begins = λ d t h m. begins_second f g (y t.0) (z t.1) (a.begins d t.0 h m.0) (b.begins d t.1 h m.1);
  whole = λ d t r h w m cl. first d t r h w m ∙ ap (λ k. and_then k (λ u s. Found (t.0, u) s)) (b.whole d t.1 r h (inside_right H (y t.0) (z t.1) w) m.1 cl);
  longest = λ d t r h w m en.
      subst (λ k. Takes k r) (sym (first d t r h w m))
      (takes_then (Q (z t.1 ++ r)) (λ u s. Found (t.0, u) s) r (b.longest d t.1 r h (inside_right H (y t.0) (z t.1) w) m.1 en) (λ u s k. k));
  absent = λ i h.
      let n = next_neither f g i h in
      let q = a.idle i n.0 in
      ap (λ k. and_then k (λ x r. and_then (Q r) (λ u s. Found (x, u) s))) q.1 ∙ ap (λ k. and_then k (λ u s. Found (q.0, u) s)) (b.absent i n.1);
}
  where
    first : (d : ℕ) (t : A × B) (r : Pieces) → d ≤ depth → Inside H (joined y z t) → Seq M N d t → seq P Q (joined y z t ++ r) ≡ and_then (Q (z t.1 ++ r)) (λ u s. Found (t.0, u) s)
    first d t r h w m =
        ap (λ k. seq P Q k) (append_assoc (y t.0) (z t.1) r)
        ∙ ap (λ k. and_then k (λ x r. and_then (Q r) (λ u s. Found (x, u) s)))
        (a.whole d t.0 (z t.1 ++ r) h (inside_left H (y t.0) (z t.1) w) m.0 (in_subset g (c t.0) (inc t.0) (z t.1 ++ r) (begins_next g (z t.1) r (b.begins d t.1 h m.1))))

-- ---- what may be there

sound_opt : {A : Type 0} (M : ℕ → A → Type 0) (z : A → Pieces) (m : Read A) (i : Pieces) → Sound M z m i → Sound (Opt M) (maybe z) (or_stay m (λ a r. Found (Some a) r) (Found None i)) i
sound_opt M z (Found a r) i s = s
sound_opt M z Absent i s = ((0, tt), refl)
sound_opt M z Deep i s = tt

opt_found : {A : Type 0} (m : Read A) (i : Pieces) → or_stay m (λ a r. Found (Some a) r) (Found None i) ≡ Absent → ⊥
opt_found (Found a r) i h = cc
opt_found Absent i h = cc
opt_found Deep i h = cc

abbrev pub opt_clear : {A : Type 0} → Set → (A → Set) → Option A → Set
opt_clear f c None = others f
opt_clear f c (Some a) = c a

pub may_opt : {A : Type 0} (g f : Set) (c : A → Set) → subset g (others f) ≡ true → ((a : A) → subset g (c a) ≡ true) → (x : Option A) → subset g (opt_clear f c x) ≡ true
may_opt g f c none some None = none
may_opt g f c none some (Some a) = some a

pub opt_of : {H : Pieces → Type 0} {depth : ℕ} {A : Type 0} {M : ℕ → A → Type 0} {z : A → Pieces} {P : Pieces → Read A} {f : Set} {c : A → Set}
    → Pair H depth M z P f c → Part H depth (Opt M) (maybe z) (opt P) f (opt_clear f c)
opt_of {H} {depth} {A} {M} {z} {P} {f} {c} a = record {
  grows = grows;
  sound = λ i. sound_opt M z (P i) i (a.sound i);
  begins = begins;
  whole = whole;
  longest = longest;
  total = λ i. opt_found (P i) i;
  idle = λ i h. (None, ap (λ m. or_stay m (λ a r. Found (Some a) r) (Found None i)) (a.absent i h));
}
  where
    grows : (d : ℕ) (t : Option A) → Opt M d t → Opt M (suc d) t
    grows d None m = m
    grows d (Some x) m = a.grows d x m

    begins : (d : ℕ) (t : Option A) → d ≤ depth → Opt M d t → MayBegin f (maybe z t)
    begins d None h m = tt
    begins d (Some x) h m = may_begin f (z x) (a.begins d x h m)

    whole : (d : ℕ) (t : Option A) (r : Pieces) → d ≤ depth → Inside H (maybe z t) → Opt M d t → next (opt_clear f c t) r ≡ true → opt P (maybe z t ++ r) ≡ Found t r
    whole d None r h w m cl = ap (λ m. or_stay m (λ a r. Found (Some a) r) (Found None r)) (a.absent r (next_others f r cl))
    whole d (Some x) r h w m cl = ap (λ k. or_stay k (λ a r. Found (Some a) r) (Found None (z x ++ r))) (a.whole d x r h w m cl)

    longest : (d : ℕ) (t : Option A) (r : Pieces) → d ≤ depth → Inside H (maybe z t) → Opt M d t → (opt_clear f c t).end ≡ true → Takes (opt P (maybe z t ++ r)) r
    longest d None r h w m en = no_longer (Opt M) (maybe z) (opt P r) r r (sound_opt M z (P r) r (a.sound r)) (opt_found (P r) r) (omega arith)
    longest d (Some x) r h w m en = takes_stay (P (z x ++ r)) (λ a r. Found (Some a) r) (Found None (z x ++ r)) r (a.longest d x r h w m en) (λ a s k. k)
