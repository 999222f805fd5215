-- Readers that look further ahead than one piece, and other limits for the same language.
use Rattle.std.proofs.lemmas.List.{append-nil}
use Rattle.std.proofs.Common.{◌≡◌, ℕ, zero, suc, ◌≤◌, Bool, true, false, if◌then◌else◌, List, [], ◌∷◌, ◌++◌, length, length-append, refl, sym, ◌∙◌, ap, subst, append_assoc, arith, ◌⊎◌, inl, inr}
use Rattle.em_tree.specs.declared.piece.Piece.{Piece}
use Rattle.em_tree.specs.declared.piece.Piece.TheVariants as p
use Rattle.em_tree.specs.Starts.{Pieces}
use Rattle.em_tree.specs.Parts.{each}
use Rattle.em_grammar.specs.Sets.{Set, next, subset, either, Inside}
use Rattle.em_grammar.specs.Lang.{Seq, Many, joined}
use Rattle.em_grammar.specs.Reader.{Read, Found, Absent, Deep, and_then, or_stay, seq, many, all_of}
use Rattle.em_grammar.specs.ItemReader.{starting, ahead}
use Rattle.em_grammar.specs.Pairs.{Pair, Part, Sound, Takes, Begins, MayBegin}
use Rattle.em_grammar.proofs.Pairs.{in_subset, begins_in, begins_next, begins_some, begins_second, next_neither, next_one, next_two, inside_left, inside_right, sound_in, sound_chain, takes_then}

-- ---- products, flat and in one another

pub flat3 : {A B C : Type 0} → A × (B × C) → A × B × C
flat3 m = (m.0, m.1.0, m.1.1)

pub nest3 : {A B C : Type 0} → A × B × C → A × (B × C)
nest3 m = (m.0, (m.1, m.2))

pub flat4 : {A B C D : Type 0} → A × (B × (C × D)) → A × B × C × D
flat4 m = (m.0, m.1.0, m.1.1.0, m.1.1.1)

pub nest4 : {A B C D : Type 0} → A × B × C × D → A × (B × (C × D))
nest4 m = (m.0, (m.1, (m.2, m.3)))

pub flat5 : {A B C D E : Type 0} → A × (B × (C × (D × E))) → A × B × C × D × E
flat5 m = (m.0, m.1.0, m.1.1.0, m.1.1.1.0, m.1.1.1.1)

pub nest5 : {A B C D E : Type 0} → A × B × C × D × E → A × (B × (C × (D × E)))
nest5 m = (m.0, (m.1, (m.2, (m.3, m.4))))

pub flat6 : {A B C D E F : Type 0} → A × (B × (C × (D × (E × F)))) → A × B × C × D × E × F
flat6 m = (m.0, m.1.0, m.1.1.0, m.1.1.1.0, m.1.1.1.1.0, m.1.1.1.1.1)

pub nest6 : {A B C D E F : Type 0} → A × B × C × D × E × F → A × (B × (C × (D × (E × F))))
nest6 m = (m.0, (m.1, (m.2, (m.3, (m.4, m.5)))))

pub flat7 : {A B C D E F G : Type 0} → A × (B × (C × (D × (E × (F × G))))) → A × B × C × D × E × F × G
flat7 m = (m.0, m.1.0, m.1.1.0, m.1.1.1.0, m.1.1.1.1.0, m.1.1.1.1.1.0, m.1.1.1.1.1.1)

pub nest7 : {A B C D E F G : Type 0} → A × B × C × D × E × F × G → A × (B × (C × (D × (E × (F × G)))))
nest7 m = (m.0, (m.1, (m.2, (m.3, (m.4, (m.5, m.6))))))

-- ---- only what begins so

pub starting_of : {H : Pieces → Type 0} {depth : ℕ} {A : Type 0} {M : ℕ → A → Type 0} {z : A → Pieces} {P : Pieces → Read A} {f : Set} {c : A → Set} (s : Set)
    → ((d : ℕ) (t : A) → M d t → z t ≡ [] → ⊥) → Pair H depth M z P f c → Pair H depth (λ d t. M d t × Begins s (z t)) z (starting s P) s c
starting_of {H} {depth} {A} {M} {z} {P} {f} {c} s some a = record {
  grows = λ d t m. (a.grows d t m.0, m.1);
  sound = λ i. sound i (next s i) refl;
  begins = λ d t h m. m.1;
  whole = λ d t r h w m cl. ap (λ b. if b then P (z t ++ r) else Absent) (begins_next s (z t) r m.1) ∙ a.whole d t r h w m.0 cl;
  longest = λ d t r h w m en. subst (λ q. Takes q r) (sym (ap (λ b. if b then P (z t ++ r) else Absent) (begins_next s (z t) r m.1))) (a.longest d t r h w m.0 en);
  absent = λ i h. ap (λ b. if b then P i else Absent) h;
}
  where
    begun : (i r ys : Pieces) → next s i ≡ true → (ys ≡ [] → ⊥) → i ≡ ys ++ r → Begins s ys
    begun i r [] is n eq = n refl
    begun i r (x ∷ ys) is n eq = go x (subst (λ k. next s k ≡ true) eq is)
      where
        go : (x : Piece) → next s ((x ∷ ys) ++ r) ≡ true → Begins s (x ∷ ys)
        go (p.Token t) h = h
        go (p.Group g) h = h

    sound : (i : Pieces) (b : Bool) → next s i ≡ b → Sound (λ d t. M d t × Begins s (z t)) z (if b then P i else Absent) i
    sound i false is = tt
    sound i true is = go (P i) (a.sound i)
      where
        go : (m : Read A) → Sound M z m i → Sound (λ d t. M d t × Begins s (z t)) z m i
        go (Found t r) k = ((k.0.0, (k.0.1, begun i r (z t) is (some k.0.0 t k.0.1) k.1)), k.1)
        go Absent k = tt
        go Deep k = tt

-- ---- alternatives, told apart by a test of what is ahead

-- a member of the first language, where the test says so, or of the second, where it doesn't
abbrev pub Told : {A : Type 0} → ℕ → (ℕ → A → Type 0) → (ℕ → A → Type 0) → (A → Pieces) → (A → Set) → (Pieces → Bool) → ℕ → A → Type 0
Told depth M N z c test d t =
    (M d t × ((r : Pieces) → d ≤ depth → test (z t ++ r) ≡ true)) ⊎ (N d t × ((r : Pieces) → d ≤ depth → (next (c t) r ≡ true) ⊎ ((c t).end ≡ true) → test (z t ++ r) ≡ false))

pub ahead_of : {H : Pieces → Type 0} {depth : ℕ} {A : Type 0} {M N L : ℕ → A → Type 0} {z : A → Pieces} {P Q : Pieces → Read A} {f g : Set} {c : A → Set} (test : Pieces → Bool)
    → Pair H depth M z P f c → Pair H depth N z Q g c → ((d : ℕ) (t : A) → L d t → L (suc d) t) → ((d : ℕ) (t : A) → L d t → Told depth M N z c test d t)
    → ((d : ℕ) (t : A) (r : Pieces) → M d t → test (z t ++ r) ≡ true → L d t) → ((d : ℕ) (t : A) (r : Pieces) → N d t → test (z t ++ r) ≡ false → L d t)
    → Pair H depth L z (ahead test P Q) (either f g) c
ahead_of {H} {depth} {A} {M} {N} {L} {z} {P} {Q} {f} {g} {c} test a b grows told on off = record {
  grows = grows;
  sound = λ i. sound i (test i) refl;
  begins = λ d t h l. begins d t h (told d t l);
  whole = λ d t r h w l cl. whole d t r h w (told d t l) cl;
  longest = λ d t r h w l en. longest d t r h w (told d t l) en;
  absent = λ i h. let n = next_neither f g i h in none i (test i) n.0 n.1;
}
  where
    sound : (i : Pieces) (b : Bool) → test i ≡ b → Sound L z (if b then P i else Q i) i
    sound i true is = go (P i) (a.sound i)
      where
        go : (m : Read A) → Sound M z m i → Sound L z m i
        go (Found t r) k = ((k.0.0, on k.0.0 t r k.0.1 (subst (λ k. test k ≡ true) k.1 is)), k.1)
        go Absent k = tt
        go Deep k = tt
    sound i false is = go (Q i) (b.sound i)
      where
        go : (m : Read A) → Sound N z m i → Sound L z m i
        go (Found t r) k = ((k.0.0, off k.0.0 t r k.0.1 (subst (λ k. test k ≡ false) k.1 is)), k.1)
        go Absent k = tt
        go Deep k = tt

    begins : (d : ℕ) (t : A) → d ≤ depth → Told depth M N z c test d t → Begins (either f g) (z t)
    begins d t h (inl m) = begins_in f (either f g) (z t) (next_one f g) (a.begins d t h m.0)
    begins d t h (inr m) = begins_in g (either f g) (z t) (next_two f g) (b.begins d t h m.0)

    whole : (d : ℕ) (t : A) (r : Pieces) → d ≤ depth → Inside H (z t) → Told depth M N z c test d t → next (c t) r ≡ true → ahead test P Q (z t ++ r) ≡ Found t r
    whole d t r h w (inl m) cl = ap (λ b. if b then P (z t ++ r) else Q (z t ++ r)) (m.1 r h) ∙ a.whole d t r h w m.0 cl
    whole d t r h w (inr m) cl = ap (λ b. if b then P (z t ++ r) else Q (z t ++ r)) (m.1 r h (inl cl)) ∙ b.whole d t r h w m.0 cl

    longest : (d : ℕ) (t : A) (r : Pieces) → d ≤ depth → Inside H (z t) → Told depth M N z c test d t → (c t).end ≡ true → Takes (ahead test P Q (z t ++ r)) r
    longest d t r h w (inl m) en = subst (λ q. Takes q r) (sym (ap (λ b. if b then P (z t ++ r) else Q (z t ++ r)) (m.1 r h))) (a.longest d t r h w m.0 en)
    longest d t r h w (inr m) en = subst (λ q. Takes q r) (sym (ap (λ b. if b then P (z t ++ r) else Q (z t ++ r)) (m.1 r h (inr en)))) (b.longest d t r h w m.0 en)

    none : (i : Pieces) (k : Bool) → next f i ≡ false → next g i ≡ false → (if k then P i else Q i) ≡ Absent
    none i true h l = a.absent i h
    none i false h l = b.absent i l

-- ---- other limits

pub part_same : {H : Pieces → Type 0} {depth : ℕ} {A : Type 0} {M N : ℕ → A → Type 0} {z : A → Pieces} {P : Pieces → Read A} {f : Set} {c : A → Set}
    → ((d : ℕ) (t : A) → M d t → N d t) → ((d : ℕ) (t : A) → N d t → M d t) → Part H depth M z P f c → Part H depth N z P f c
part_same {H} {depth} {A} {M} {N} {z} {P} {f} {c} to of a = record {
  grows = λ d t m. to (suc d) t (a.grows d t (of d t m));
  sound = λ i. sound_in M N z (P i) i to (a.sound i);
  begins = λ d t h m. a.begins d t h (of d t m);
  whole = λ d t r h w m cl. a.whole d t r h w (of d t m) cl;
  longest = λ d t r h w m en. a.longest d t r h w (of d t m) en;
  total = a.total;
  idle = a.idle;
}

-- one node more may be needed for what is found
pub near_of : {H : Pieces → Type 0} {depth : ℕ} {A : Type 0} {M N : ℕ → A → Type 0} {z : A → Pieces} {P : Pieces → Read A} {f : Set} {c : A → Set}
    → ((d : ℕ) (t : A) → N d t → N (suc d) t) → ((d : ℕ) (t : A) → M d t → N (suc d) t) → ((d : ℕ) (t : A) → N d t → M d t) → Pair H depth M z P f c → Pair H depth N z P f c
near_of {H} {depth} {A} {M} {N} {z} {P} {f} {c} grows to of a = record {
  grows = grows;
  sound = λ i. sound (P i) i (a.sound i);
  begins = λ d t h m. a.begins d t h (of d t m);
  whole = λ d t r h w m cl. a.whole d t r h w (of d t m) cl;
  longest = λ d t r h w m en. a.longest d t r h w (of d t m) en;
  absent = a.absent;
}
  where
    sound : (m : Read A) (i : Pieces) → Sound M z m i → Sound N z m i
    sound (Found t r) i s = ((suc s.0.0, to s.0.0 t s.0.1), s.1)
    sound Absent i s = tt
    sound Deep i s = tt

-- what is read one node deeper
pub deeper_of : {H : Pieces → Type 0} {depth : ℕ} {A : Type 0} {M : ℕ → A → Type 0} {z : A → Pieces} {P : Pieces → Read A} {f : Set} {c : A → Set}
    → Pair H (suc depth) M z P f c → Pair H depth (λ d. M (suc d)) z P f c
deeper_of {H} {depth} {A} {M} {z} {P} {f} {c} a = record {
  grows = λ d t m. a.grows (suc d) t m;
  sound = λ i. sound (P i) i (a.sound i);
  begins = λ d t h m. a.begins (suc d) t (omega (arith, h)) m;
  whole = λ d t r h w m cl. a.whole (suc d) t r (omega (arith, h)) w m cl;
  longest = λ d t r h w m en. a.longest (suc d) t r (omega (arith, h)) w m en;
  absent = a.absent;
}
  where
    sound : (m : Read A) (i : Pieces) → Sound M z m i → Sound (λ d. M (suc d)) z m i
    sound (Found t r) i s = ((s.0.0, a.grows s.0.0 t s.0.1), s.1)
    sound Absent i s = tt
    sound Deep i s = tt

-- more may begin so
pub with_first : {H : Pieces → Type 0} {depth : ℕ} {A : Type 0} {M : ℕ → A → Type 0} {z : A → Pieces} {P : Pieces → Read A} {f g : Set} {c : A → Set} → subset f g ≡ true
    → Pair H depth M z P f c → Pair H depth M z P g c
with_first {H} {depth} {A} {M} {z} {P} {f} {g} {c} inc a = record {
  grows = a.grows;
  sound = a.sound;
  begins = λ d t h m. begins_in f g (z t) (in_subset f g inc) (a.begins d t h m);
  whole = a.whole;
  longest = a.longest;
  absent = λ i h. a.absent i (go i (next f i) refl h);
}
  where
    go : (i : Pieces) (b : Bool) → next f i ≡ b → next g i ≡ false → b ≡ false
    go i false is h = refl
    go i true is h = sym (in_subset f g inc i is) ∙ h

-- ---- a part, and what follows it, where more than one piece tells that it ends

-- `C t r`: the part may end before `r`
pub record Ahead {T : Type 0} (H : Pieces → Type 0) (depth : ℕ) (M : ℕ → T → Type 0) (z : T → Pieces) (P : Pieces → Read T) (first : Set) (C : T → Pieces → Type 0) : Type 0 where
  pub grows : (d : ℕ) (t : T) → M d t → M (suc d) t
  pub sound : (i : Pieces) → Sound M z (P i) i
  pub begins : (d : ℕ) (t : T) → d ≤ depth → M d t → MayBegin first (z t)
  pub whole : (d : ℕ) (t : T) (r : Pieces) → d ≤ depth → Inside H (z t) → M d t → C t r → P (z t ++ r) ≡ Found t r
  pub idle : (i : Pieces) → next first i ≡ false → (P i ≡ Absent) ⊎ ((t : T) × (P i ≡ Found t i))

pub ahead_seq : {H : Pieces → Type 0} {depth : ℕ} {A B : Type 0} {M : ℕ → A → Type 0} {y : A → Pieces} {N : ℕ → B → Type 0} {z : B → Pieces} {P : Pieces → Read A} {Q : Pieces → Read B}
    {f : Set} {C : A → Pieces → Type 0} {g : Set} {e : B → Set}
    → Ahead H depth M y P f C → Pair H depth N z Q g e → ((d : ℕ) (a : A) (b : B) (r : Pieces) → d ≤ depth → M d a → N d b → C a (z b ++ r))
    → Pair H depth (Seq M N) (joined y z) (seq P Q) (either f g) (λ t. e t.1)
ahead_seq {H} {depth} {A} {B} {M} {y} {N} {z} {P} {Q} {f} {C} {g} {e} a b meets = record {
  grows = λ d t m. (a.grows d t.0 m.0, b.grows d t.1 m.1);
  sound = λ i. sound_chain M y (λ _. N) z P (λ _. Q) a.grows (λ _. b.grows) a.sound (λ _. b.sound) i;
  begins = λ d t h m. begins_second f g (y t.0) (z t.1) (a.begins d t.0 h m.0) (b.begins d t.1 h m.1);
  whole = λ d t r h w m cl. first d t r h w m ∙ ap (λ k. and_then k (λ u s. Found (t.0, u) s)) (b.whole d t.1 r h (inside_right H (y t.0) (z t.1) w) m.1 cl);
  longest = λ d t r h w m en.
      subst (λ k. Takes k r) (sym (first d t r h w m))
      (takes_then (Q (z t.1 ++ r)) (λ u s. Found (t.0, u) s) r (b.longest d t.1 r h (inside_right H (y t.0) (z t.1) w) m.1 en) (λ u s k. k));
  absent = λ i h. let n = next_neither f g i h in none i n.1 (a.idle i n.0);
}
  where
    first : (d : ℕ) (t : A × B) (r : Pieces) → d ≤ depth → Inside H (joined y z t) → Seq M N d t → seq P Q (joined y z t ++ r) ≡ and_then (Q (z t.1 ++ r)) (λ u s. Found (t.0, u) s)
    first d t r h w m =
        ap (λ k. seq P Q k) (append_assoc (y t.0) (z t.1) r)
        ∙ ap (λ k. and_then k (λ x r. and_then (Q r) (λ u s. Found (x, u) s)))
        (a.whole d t.0 (z t.1 ++ r) h (inside_left H (y t.0) (z t.1) w) m.0 (meets d t.0 t.1 r h m.0 m.1))

    none : (i : Pieces) → next g i ≡ false → (P i ≡ Absent) ⊎ ((t : A) × (P i ≡ Found t i)) → seq P Q i ≡ Absent
    none i h (inl is) = ap (λ k. and_then k (λ x r. and_then (Q r) (λ u s. Found (x, u) s))) is
    none i h (inr q) = ap (λ k. and_then k (λ x r. and_then (Q r) (λ u s. Found (x, u) s))) q.1 ∙ ap (λ k. and_then k (λ u s. Found (q.0, u) s)) (b.absent i h)

-- a list ends where no further member is read
pub many_until : {H : Pieces → Type 0} {depth : ℕ} {A : Type 0} {M : ℕ → A → Type 0} {z : A → Pieces} {P : Pieces → Read A} {f : Set} {c : A → Set} → Pair H depth M z P f c
    → ((a : A) (r : Pieces) → next (c a) r ≡ true) → (d : ℕ) (t : List A) (r : Pieces) → d ≤ depth → Inside H (each z t) → Many M d t → P r ≡ Absent → all_of P (each z t ++ r) ≡ Found t r
unfolding many
many_until {H} {depth} {A} {M} {z} {P} {f} {c} a free d t r h w m stop = go (length (each z t ++ r)) [] t w m (omega (arith, length-append (each z t) r))
  where
    go : (n : ℕ) (found t : List A) → Inside H (each z t) → Many M d t → length (each z t) ≤ n → many P n found (each z t ++ r) ≡ Found (found ++ t) r
    go zero found [] w m k = ap (λ l. Found l r) (sym (append-nil found))
    go (suc n) found [] w m k = ap (λ q. or_stay q (λ a r. many P n (found ++ a ∷ []) r) (Found found r)) stop ∙ ap (λ l. Found l r) (sym (append-nil found))
    go zero found (x ∷ t) w m k = absurd (omega (arith, k, length-append (z x) (each z t), begins_some f (z x) (a.begins d x h m.0)))
    go (suc n) found (x ∷ t) w m k =
        ap (λ q. many P (suc n) found q) (append_assoc (z x) (each z t) r)
        ∙ ap (λ q. or_stay q (λ a r. many P n (found ++ a ∷ []) r) (Found found (z x ++ (each z t ++ r))))
        (a.whole d x (each z t ++ r) h (inside_left H (z x) (each z t) w) m.0 (free x (each z t ++ r)))
        ∙ go n (found ++ x ∷ []) t (inside_right H (z x) (each z t) w) m.1 (omega (arith, k, length-append (z x) (each z t), begins_some f (z x) (a.begins d x h m.0)))
        ∙ ap (λ l. Found l r) (append_assoc found (x ∷ []) t)
