-- What a production makes of its parts, alternatives, other words for a language, and groups.
use Rattle.std.proofs.lemmas.List.{append-nil}
use Rattle.std.proofs.Common.{◌≡◌, ℕ, zero, suc, ◌≤◌, Bool, true, false, if◌then◌else◌, [], ◌∷◌, ◌++◌, refl, sym, ◌∙◌, ap, subst, arith, inl, inr}
use Rattle.em_tree.specs.declared.piece.FragmentKind.{FragmentKind}
use Rattle.em_tree.specs.declared.piece.Group.{Group}
use Rattle.em_tree.specs.declared.piece.Piece.TheVariants as p
use Rattle.em_tree.specs.Starts.{Pieces, kind_of, pieces_of}
use Rattle.em_grammar.specs.Sets.{Set, next, subset, others, either, both, groups, anything, Inside}
use Rattle.em_grammar.specs.Lang.{Image, Or, Shift, Grp, grouped}
use Rattle.em_grammar.specs.Reader.{Read, Found, Absent, Deep, and_then, or_stay, mapped, choice, or_else, when, group, entire}
use Rattle.em_grammar.specs.Pairs.{Pair, Part, Sound, Takes, Begins, MayBegin}
use Rattle.em_grammar.proofs.Pairs.{in_subset, at_end, begins_in, may_in, begins_next, may_begin, may_next, next_others, next_both, next_neither, next_one, next_two, sound_in, takes_then, takes_stay, no_longer, exactly}
use Rattle.em_grammar.proofs.AllSorts.{and-left}

-- ---- what a production makes of its parts

sound_map : {A B : Type 0} (M : ℕ → A → Type 0) (z : A → Pieces) (f : A → B) (v : B → Pieces) → ((d : ℕ) (t : A) → M d t → v (f t) ≡ z t) → (m : Read A) (i : Pieces) → Sound M z m i
    → Sound (Image f M) v (and_then m (λ a r. Found (f a) r)) i
sound_map M z f v same (Found a r) i s = ((s.0.0, (a, s.0.1, refl)), s.1 ∙ ap (λ k. k ++ r) (sym (same s.0.0 a s.0.1)))
sound_map M z f v same Absent i s = tt
sound_map M z f v same Deep i s = tt

module _ (H : Pieces → Type 0) (depth : ℕ) (A B : Type 0) (M : ℕ → A → Type 0) (z : A → Pieces) (P : Pieces → Read A) (f : Set) (c : A → Set) (e : B → Set) (h : A → B) (v : B → Pieces)
    (same : (d : ℕ) (t : A) → M d t → v (h t) ≡ z t) (inc : (d : ℕ) (t : A) → M d t → subset (e (h t)) (c t) ≡ true) where
  yield : (d : ℕ) (t : B) (m : Image h M d t) → v t ≡ z m.0
  yield d t m = ap (λ k. v k) m.2 ∙ same d m.0 m.1

  image_whole : (d : ℕ) (t : B) (r : Pieces) (m : Image h M d t) → Inside H (v t) → next (e t) r ≡ true
      → (Inside H (z m.0) → next (c m.0) r ≡ true → P (z m.0 ++ r) ≡ Found m.0 r) → mapped h P (v t ++ r) ≡ Found t r
  image_whole d t r m w cl known =
      ap (λ ys. mapped h P (ys ++ r)) (yield d t m)
      ∙ ap (λ q. and_then q (λ x r. Found (h x) r))
      (known (subst (λ ys. Inside H ys) (yield d t m) w) (in_subset (e (h m.0)) (c m.0) (inc d m.0 m.1) r (subst (λ u. next (e u) r ≡ true) m.2 cl)))
      ∙ ap (λ q. Found q r) (sym m.2)

  image_longest : (d : ℕ) (t : B) (r : Pieces) (m : Image h M d t) → Inside H (v t) → (e t).end ≡ true
      → (Inside H (z m.0) → (c m.0).end ≡ true → Takes (P (z m.0 ++ r)) r) → Takes (mapped h P (v t ++ r)) r
  image_longest d t r m w en known =
      subst (λ ys. Takes (mapped h P (ys ++ r)) r) (sym (yield d t m))
      (takes_then (P (z m.0 ++ r)) (λ x r. Found (h x) r) r
      (known (subst (λ ys. Inside H ys) (yield d t m) w) (at_end (e (h m.0)) (c m.0) (inc d m.0 m.1) (subst (λ u. (e u).end ≡ true) m.2 en))) (λ x s k. k))

  image_pair : Pair H depth M z P f c → Pair H depth (Image h M) v (mapped h P) f e
  image_pair a = record {
    grows = λ d t m. (m.0, a.grows d m.0 m.1, m.2);
    sound = λ i. sound_map M z h v same (P i) i (a.sound i);
    begins = λ d t k m. subst (λ ys. Begins f ys) (sym (yield d t m)) (a.begins d m.0 k m.1);
    whole = λ d t r k w m cl. image_whole d t r m w cl (λ w cl. a.whole d m.0 r k w m.1 cl);
    longest = λ d t r k w m en. image_longest d t r m w en (λ w en. a.longest d m.0 r k w m.1 en);
    absent = λ i k. ap (λ q. and_then q (λ x r. Found (h x) r)) (a.absent i k);
  }

  mapped_found : (m : Read A) → (m ≡ Absent → ⊥) → and_then m (λ x r. Found (h x) r) ≡ Absent → ⊥
  mapped_found (Found x r) k is = cc
  mapped_found Absent k is = k refl
  mapped_found Deep k is = cc

  image_some : Part H depth M z P f c → Part H depth (Image h M) v (mapped h P) f e
  image_some a = record {
    grows = λ d t m. (m.0, a.grows d m.0 m.1, m.2);
    sound = λ i. sound_map M z h v same (P i) i (a.sound i);
    begins = λ d t k m. subst (λ ys. MayBegin f ys) (sym (yield d t m)) (a.begins d m.0 k m.1);
    whole = λ d t r k w m cl. image_whole d t r m w cl (λ w cl. a.whole d m.0 r k w m.1 cl);
    longest = λ d t r k w m en. image_longest d t r m w en (λ w en. a.longest d m.0 r k w m.1 en);
    total = λ i. mapped_found (P i) (a.total i);
    idle = λ i k. let q = a.idle i k in (h q.0, ap (λ q. and_then q (λ x r. Found (h x) r)) q.1);
  }

pub image_of : {H : Pieces → Type 0} {depth : ℕ} {A B : Type 0} {M : ℕ → A → Type 0} {z : A → Pieces} {P : Pieces → Read A} {f : Set} {c : A → Set} {e : B → Set} (h : A → B) (v : B → Pieces)
    → ((d : ℕ) (t : A) → M d t → v (h t) ≡ z t) → ((t : A) → subset (e (h t)) (c t) ≡ true) → Pair H depth M z P f c → Pair H depth (Image h M) v (mapped h P) f e
image_of {H} {depth} {A} {B} {M} {z} {P} {f} {c} {e} h v same inc a = image_pair H depth A B M z P f c e h v same (λ d t m. inc t) a

-- the same, where the set after the whole is told by the members
pub image_in : {H : Pieces → Type 0} {depth : ℕ} {A B : Type 0} {M : ℕ → A → Type 0} {z : A → Pieces} {P : Pieces → Read A} {f : Set} {c : A → Set} {e : B → Set} (h : A → B) (v : B → Pieces)
    → ((d : ℕ) (t : A) → M d t → v (h t) ≡ z t) → ((d : ℕ) (t : A) → M d t → subset (e (h t)) (c t) ≡ true) → Pair H depth M z P f c → Pair H depth (Image h M) v (mapped h P) f e
image_in {H} {depth} {A} {B} {M} {z} {P} {f} {c} {e} h v same inc a = image_pair H depth A B M z P f c e h v same inc a

pub image_part : {H : Pieces → Type 0} {depth : ℕ} {A B : Type 0} {M : ℕ → A → Type 0} {z : A → Pieces} {P : Pieces → Read A} {f : Set} {c : A → Set} {e : B → Set} (h : A → B) (v : B → Pieces)
    → ((d : ℕ) (t : A) → M d t → v (h t) ≡ z t) → ((t : A) → subset (e (h t)) (c t) ≡ true) → Part H depth M z P f c → Part H depth (Image h M) v (mapped h P) f e
image_part {H} {depth} {A} {B} {M} {z} {P} {f} {c} {e} h v same inc a = image_some H depth A B M z P f c e h v same (λ d t m. inc t) a

-- ---- alternatives, told apart by what stands next

pub or_of : {H : Pieces → Type 0} {depth : ℕ} {A : Type 0} {M N : ℕ → A → Type 0} {z : A → Pieces} {P Q : Pieces → Read A} {f g : Set} {c : A → Set}
    → Pair H depth M z P f c → Pair H depth N z Q g c → subset g (others f) ≡ true → Pair H depth (Or M N) z (choice f P Q) (either f g) c
or_of {H} {depth} {A} {M} {N} {z} {P} {Q} {f} {g} {c} a b apart = record {
  grows = grows;
  sound = λ i. sound i (next f i);
  begins = begins;
  whole = whole;
  longest = longest;
  absent = λ i h. let n = next_neither f g i h in takes_second i n.0 ∙ b.absent i n.1;
}
  where
    takes_first : (i : Pieces) → next f i ≡ true → choice f P Q i ≡ P i
    takes_first i is = ap (λ b. if b then P i else Q i) is

    takes_second : (i : Pieces) → next f i ≡ false → choice f P Q i ≡ Q i
    takes_second i is = ap (λ b. if b then P i else Q i) is

    not_first : (i : Pieces) → next g i ≡ true → next f i ≡ false
    not_first i is = next_others f i (in_subset g (others f) apart i is)

    grows : (d : ℕ) (t : A) → Or M N d t → Or M N (suc d) t
    grows d t (inl m) = inl (a.grows d t m)
    grows d t (inr m) = inr (b.grows d t m)

    sound : (i : Pieces) (b : Bool) → Sound (Or M N) z (if b then P i else Q i) i
    sound i true = sound_in M (Or M N) z (P i) i (λ d t m. inl m) (a.sound i)
    sound i false = sound_in N (Or M N) z (Q i) i (λ d t m. inr m) (b.sound i)

    begins : (d : ℕ) (t : A) → d ≤ depth → Or M N d t → Begins (either f g) (z t)
    begins d t h (inl m) = begins_in f (either f g) (z t) (next_one f g) (a.begins d t h m)
    begins d t h (inr m) = begins_in g (either f g) (z t) (next_two f g) (b.begins d t h m)

    whole : (d : ℕ) (t : A) (r : Pieces) → d ≤ depth → Inside H (z t) → Or M N d t → next (c t) r ≡ true → choice f P Q (z t ++ r) ≡ Found t r
    whole d t r h w (inl m) cl = takes_first (z t ++ r) (begins_next f (z t) r (a.begins d t h m)) ∙ a.whole d t r h w m cl
    whole d t r h w (inr m) cl = takes_second (z t ++ r) (not_first (z t ++ r) (begins_next g (z t) r (b.begins d t h m))) ∙ b.whole d t r h w m cl

    longest : (d : ℕ) (t : A) (r : Pieces) → d ≤ depth → Inside H (z t) → Or M N d t → (c t).end ≡ true → Takes (choice f P Q (z t ++ r)) r
    longest d t r h w (inl m) en = subst (λ q. Takes q r) (sym (takes_first (z t ++ r) (begins_next f (z t) r (a.begins d t h m)))) (a.longest d t r h w m en)
    longest d t r h w (inr m) en = subst (λ q. Takes q r) (sym (takes_second (z t ++ r) (not_first (z t ++ r) (begins_next g (z t) r (b.begins d t h m))))) (b.longest d t r h w m en)

-- ---- the same language in other words, one node more around it, and under a condition

pub same_of : {H : Pieces → Type 0} {depth : ℕ} {A : Type 0} {M N : ℕ → A → Type 0} {z : A → Pieces} {P : Pieces → Read A} {f : Set} {c : A → Set}
    → ((d : ℕ) (t : A) → M d t → N d t) → ((d : ℕ) (t : A) → N d t → M d t) → Pair H depth M z P f c → Pair H depth N z P f c
same_of {H} {depth} {A} {M} {N} {z} {P} {f} {c} to of a = record {
  grows = λ d t m. to (suc d) t (a.grows d t (of d t m));
  sound = λ i. sound_in M N z (P i) i to (a.sound i);
  begins = λ d t h m. a.begins d t h (of d t m);
  whole = λ d t r h w m cl. a.whole d t r h w (of d t m) cl;
  longest = λ d t r h w m en. a.longest d t r h w (of d t m) en;
  absent = a.absent;
}

pub same_part : {H : Pieces → Type 0} {depth : ℕ} {A : Type 0} {M N : ℕ → A → Type 0} {z : A → Pieces} {P : Pieces → Read A} {f : Set} {c : A → Set}
    → ((d : ℕ) (t : A) → M d t → N d t) → ((d : ℕ) (t : A) → N d t → M d t) → Part H depth M z P f c → Part H depth N z P f c
same_part {H} {depth} {A} {M} {N} {z} {P} {f} {c} to of a = record {
  grows = λ d t m. to (suc d) t (a.grows d t (of d t m));
  sound = λ i. sound_in M N z (P i) i to (a.sound i);
  begins = λ d t h m. a.begins d t h (of d t m);
  whole = λ d t r h w m cl. a.whole d t r h w (of d t m) cl;
  longest = λ d t r h w m en. a.longest d t r h w (of d t m) en;
  total = a.total;
  idle = a.idle;
}

pub shift_of : {H : Pieces → Type 0} {depth : ℕ} {A : Type 0} {M : ℕ → A → Type 0} {z : A → Pieces} {P : Pieces → Read A} {f : Set} {c : A → Set}
    → Pair H depth M z P f c → Pair H (suc depth) (Shift M) z P f c
shift_of {H} {depth} {A} {M} {z} {P} {f} {c} a = record {
  grows = grows;
  sound = λ i. sound (P i) i (a.sound i);
  begins = begins;
  whole = whole;
  longest = longest;
  absent = a.absent;
}
  where
    grows : (d : ℕ) (t : A) → Shift M d t → Shift M (suc d) t
    grows zero t m = absurd m
    grows (suc d) t m = a.grows d t m

    sound : (m : Read A) (i : Pieces) → Sound M z m i → Sound (Shift M) z m i
    sound (Found t r) i s = ((suc s.0.0, s.0.1), s.1)
    sound Absent i s = tt
    sound Deep i s = tt

    begins : (d : ℕ) (t : A) → d ≤ suc depth → Shift M d t → Begins f (z t)
    begins zero t h m = absurd m
    begins (suc d) t h m = a.begins d t (omega (arith, h)) m

    whole : (d : ℕ) (t : A) (r : Pieces) → d ≤ suc depth → Inside H (z t) → Shift M d t → next (c t) r ≡ true → P (z t ++ r) ≡ Found t r
    whole zero t r h w m cl = absurd m
    whole (suc d) t r h w m cl = a.whole d t r (omega (arith, h)) w m cl

    longest : (d : ℕ) (t : A) (r : Pieces) → d ≤ suc depth → Inside H (z t) → Shift M d t → (c t).end ≡ true → Takes (P (z t ++ r)) r
    longest zero t r h w m en = absurd m
    longest (suc d) t r h w m en = a.longest d t r (omega (arith, h)) w m en

-- fewer may follow
pub with_clear : {H : Pieces → Type 0} {depth : ℕ} {A : Type 0} {M : ℕ → A → Type 0} {z : A → Pieces} {P : Pieces → Read A} {f : Set} {c e : A → Set} → ((t : A) → subset (e t) (c t) ≡ true)
    → Pair H depth M z P f c → Pair H depth M z P f e
with_clear {H} {depth} {A} {M} {z} {P} {f} {c} {e} inc a = record {
  grows = a.grows;
  sound = a.sound;
  begins = a.begins;
  whole = λ d t r h w m cl. a.whole d t r h w m (in_subset (e t) (c t) (inc t) r cl);
  longest = λ d t r h w m en. a.longest d t r h w m (at_end (e t) (c t) (inc t) en);
  absent = a.absent;
}

pub when_of : {H : Pieces → Type 0} {depth : ℕ} {A : Type 0} {M : ℕ → A → Type 0} {z : A → Pieces} {P : Pieces → Read A} {f : Set} {c : A → Set} (b : Bool)
    → Pair H depth M z P f c → Pair H depth (λ d t. (b ≡ true) × M d t) z (when b P) f c
when_of {H} {depth} {A} {M} {z} {P} {f} {c} true a = same_of (λ d t m. (refl, m)) (λ d t m. m.1) a
when_of {H} {depth} {A} {M} {z} {P} {f} {c} false a = record {
  grows = λ d t m. let is : false ≡ true = m.0 in cc;
  sound = λ i. tt;
  begins = λ d t h m. let is : false ≡ true = m.0 in cc;
  whole = λ d t r h w m cl. let is : false ≡ true = m.0 in cc;
  longest = λ d t r h w m en. let is : false ≡ true = m.0 in cc;
  absent = λ i h. refl;
}

-- what begins with a piece of a set, of what isn't empty
pub restricted_of : {H : Pieces → Type 0} {depth : ℕ} {A : Type 0} {M : ℕ → A → Type 0} {z : A → Pieces} {P : Pieces → Read A} {f : Set} {c : A → Set} (s : Set)
    → ((d : ℕ) (t : A) → M d t → z t ≡ [] → ⊥) → Pair H depth M z P f c → Pair H depth (λ d t. M d t × Begins s (z t)) z (choice s P (λ i. Absent)) s c
restricted_of {H} {depth} {A} {M} {z} {P} {f} {c} s some a = record {
  grows = λ d t m. (a.grows d t m.0, m.1);
  sound = λ i. sound i (next s i) refl;
  begins = λ d t h m. m.1;
  whole = λ d t r h w m cl. taken (z t ++ r) (begins_next s (z t) r m.1) ∙ a.whole d t r h w m.0 cl;
  longest = λ d t r h w m en. subst (λ q. Takes q r) (sym (taken (z t ++ r) (begins_next s (z t) r m.1))) (a.longest d t r h w m.0 en);
  absent = λ i h. ap (λ b. if b then P i else Absent) h;
}
  where
    taken : (i : Pieces) → next s i ≡ true → choice s P (λ i. Absent) i ≡ P i
    taken i is = ap (λ b. if b then P i else Absent) is

    start : (ys r : Pieces) → (ys ≡ [] → ⊥) → next s (ys ++ r) ≡ true → Begins s ys
    start [] r h is = absurd (h refl)
    start (p.Token t ∷ ys) r h is = is
    start (p.Group g ∷ ys) r h is = is

    go : (i : Pieces) (m : Read A) → next s i ≡ true → Sound M z m i → Sound (λ d t. M d t × Begins s (z t)) z m i
    go i (Found t r) is q = ((q.0.0, (q.0.1, start (z t) r (some q.0.0 t q.0.1) (subst (λ k. next s k ≡ true) q.1 is))), q.1)
    go i Absent is q = tt
    go i Deep is q = tt

    sound : (i : Pieces) (b : Bool) → next s i ≡ b → Sound (λ d t. M d t × Begins s (z t)) z (if b then P i else Absent) i
    sound i true is = go i (P i) is (a.sound i)
    sound i false is = tt

-- ---- groups

-- what is known of the reader of a group's pieces
pub record Opened {T : Type 0} (H : Pieces → Type 0) (depth : ℕ) (M : ℕ → T → Type 0) (z : T → Pieces) (R : Pieces → Read T) : Type 0 where
  pub grows : (d : ℕ) (t : T) → M d t → M (suc d) t
  pub sound : (i : Pieces) → Sound M z (R i) i
  pub whole : (d : ℕ) (t : T) → d ≤ depth → H (z t) → M d t → R (z t) ≡ Found t []

pub opened_of : {H : Pieces → Type 0} {depth : ℕ} {A : Type 0} {M : ℕ → A → Type 0} {z : A → Pieces} {P : Pieces → Read A} {f : Set} {c : A → Set}
    → Pair H depth M z P f c → ((d : ℕ) (t : A) → M d t → (c t).end ≡ true) → Opened (Inside H) depth M z P
opened_of {H} {depth} {A} {M} {z} {P} {f} {c} a end = record {
  grows = a.grows;
  sound = a.sound;
  whole = λ d t h w m. ap (λ k. P k) (sym (append-nil (z t))) ∙ a.whole d t [] h w m (end d t m);
}

-- where no group may stand in a group
pub unopened : {depth : ℕ} {A : Type 0} {M : ℕ → A → Type 0} {z : A → Pieces} → ((d : ℕ) (t : A) → M d t → M (suc d) t) → Opened (λ _. ⊥) depth M z (λ i. Deep)
unopened up = record { grows = up; sound = λ i. tt; whole = λ d t h w m. absurd w }

pub group_of : {H : Pieces → Type 0} {depth : ℕ} {A : Type 0} {M : ℕ → A → Type 0} {z : A → Pieces} {R : Pieces → Read A} (test : Group → Bool) (s : FragmentKind → Bool)
    → ((g : Group) → test g ≡ true → s (kind_of g) ≡ true) → Opened H depth M z R → Pair H depth (Grp test M z) grouped (group test R) (groups s) (λ t. anything)
group_of {H} {depth} {A} {M} {z} {R} test s sorted a = record {
  grows = λ d t m. (m.0, m.1, a.grows d t.1 m.2);
  sound = sound;
  begins = λ d t h m. sorted t.0 m.0;
  whole = λ d t r h w m cl. whole d t r h w m;
  longest = λ d t r h w m en. exactly (group test R (grouped t ++ r)) t r (whole d t r h w m);
  absent = absent;
}
  where
    inside : (g : Group) (r : Pieces) → test g ≡ true → (m : Read A) → Sound M z m (pieces_of g)
        → Sound (Grp test M z) grouped (and_then (entire m) (λ a e. Found (g, a) r)) (p.Group g ∷ r)
    inside g r is (Found t []) s = ((s.0.0, (is, s.1 ∙ append-nil (z t), s.0.1)), refl)
    inside g r is (Found t (x ∷ q)) s = tt
    inside g r is Absent s = tt
    inside g r is Deep s = tt

    sound : (i : Pieces) → Sound (Grp test M z) grouped (group test R i) i
    sound [] = tt
    sound (p.Token t ∷ r) = tt
    sound (p.Group g ∷ r) = go (test g) refl
      where
        go : (b : Bool) → test g ≡ b → Sound (Grp test M z) grouped (if b then and_then (entire (R (pieces_of g))) (λ a e. Found (g, a) r) else Absent) (p.Group g ∷ r)
        go true is = inside g r is (R (pieces_of g)) (a.sound (pieces_of g))
        go false is = tt

    whole : (d : ℕ) (t : Group × A) (r : Pieces) → d ≤ depth → Inside H (grouped t) → Grp test M z d t → group test R (grouped t ++ r) ≡ Found t r
    whole d t r h w m =
        ap (λ b. if b then and_then (entire (R (pieces_of t.0))) (λ a e. Found (t.0, a) r) else Absent) m.0
        ∙ ap (λ q. and_then (entire q) (λ a e. Found (t.0, a) r)) (ap (λ k. R k) m.1 ∙ a.whole d t.1 h (subst (λ k. H k) m.1 w.0) m.2)

    absent : (i : Pieces) → next (groups s) i ≡ false → group test R i ≡ Absent
    absent [] h = refl
    absent (p.Token t ∷ r) h = refl
    absent (p.Group g ∷ r) h = go (test g) refl
      where
        go : (b : Bool) → test g ≡ b → (if b then and_then {B = Group × A} (entire (R (pieces_of g))) (λ a e. Found (g, a) r) else Absent) ≡ Absent
        go true is = let known : s (kind_of g) ≡ true = sorted g is in cc
        go false is = refl

-- ---- the first, and where it isn't there the second, which never begins as the first does
pub or_apart : {H : Pieces → Type 0} {depth : ℕ} {A : Type 0} {M N : ℕ → A → Type 0} {z : A → Pieces} {P Q : Pieces → Read A} {f g : Set} {c : A → Set}
    → Pair H depth M z P f c → Pair H depth N z Q g c → ((d : ℕ) (t : A) (r : Pieces) → d ≤ depth → N d t → P (z t ++ r) ≡ Absent) → Pair H depth (Or M N) z (or_else P Q) (either f g) c
or_apart {H} {depth} {A} {M} {N} {z} {P} {Q} {f} {g} {c} a b apart = record {
  grows = grows;
  sound = λ i. sound (P i) (Q i) i (a.sound i) (b.sound i);
  begins = begins;
  whole = whole;
  longest = longest;
  absent = λ i h. let n = next_neither f g i h in stays i (a.absent i n.0) ∙ b.absent i n.1;
}
  where
    stays : (i : Pieces) → P i ≡ Absent → or_else P Q i ≡ Q i
    stays i h = ap (λ m. or_stay m (λ a r. Found a r) (Q i)) h

    grows : (d : ℕ) (t : A) → Or M N d t → Or M N (suc d) t
    grows d t (inl m) = inl (a.grows d t m)
    grows d t (inr m) = inr (b.grows d t m)

    sound : (m q : Read A) (i : Pieces) → Sound M z m i → Sound N z q i → Sound (Or M N) z (or_stay m (λ a r. Found a r) q) i
    sound (Found t r) q i s u = ((s.0.0, inl s.0.1), s.1)
    sound Absent q i s u = sound_in N (Or M N) z q i (λ d t m. inr m) u
    sound Deep q i s u = tt

    begins : (d : ℕ) (t : A) → d ≤ depth → Or M N d t → Begins (either f g) (z t)
    begins d t h (inl m) = begins_in f (either f g) (z t) (next_one f g) (a.begins d t h m)
    begins d t h (inr m) = begins_in g (either f g) (z t) (next_two f g) (b.begins d t h m)

    whole : (d : ℕ) (t : A) (r : Pieces) → d ≤ depth → Inside H (z t) → Or M N d t → next (c t) r ≡ true → or_else P Q (z t ++ r) ≡ Found t r
    whole d t r h w (inl m) cl = ap (λ k. or_stay k (λ a r. Found a r) (Q (z t ++ r))) (a.whole d t r h w m cl)
    whole d t r h w (inr m) cl = stays (z t ++ r) (apart d t r h m) ∙ b.whole d t r h w m cl

    longest : (d : ℕ) (t : A) (r : Pieces) → d ≤ depth → Inside H (z t) → Or M N d t → (c t).end ≡ true → Takes (or_else P Q (z t ++ r)) r
    longest d t r h w (inl m) en = takes_stay (P (z t ++ r)) (λ a r. Found a r) (Q (z t ++ r)) r (a.longest d t r h w m en) (λ a s k. k)
    longest d t r h w (inr m) en = subst (λ q. Takes q r) (sym (stays (z t ++ r) (apart d t r h m))) (b.longest d t r h w m en)

-- ---- the first, and where it isn't there the second, which may be empty

pub or_part : {H : Pieces → Type 0} {depth : ℕ} {A : Type 0} {M N : ℕ → A → Type 0} {z : A → Pieces} {P Q : Pieces → Read A} {f g : Set} {c : A → Set}
    → Pair H depth M z P f c → Part H depth N z Q g c → subset g (others f) ≡ true → f.end ≡ false → Part H depth (Or M N) z (or_else P Q) (either f g) (λ t. both (c t) (others f))
or_part {H} {depth} {A} {M} {N} {z} {P} {Q} {f} {g} {c} a b apart open_end = record {
  grows = grows;
  sound = λ i. sound (P i) (Q i) i (a.sound i) (b.sound i);
  begins = begins;
  whole = whole;
  longest = λ d t r h w m en. longest d t r h w m (and-left _ _ en);
  total = λ i. found (P i) (Q i) (b.total i);
  idle = λ i h. let n = next_neither f g i h in let q = b.idle i n.1 in (q.0, ap (λ m. or_stay m (λ a r. Found a r) (Q i)) (a.absent i n.0) ∙ q.1);
}
  where
    grows : (d : ℕ) (t : A) → Or M N d t → Or M N (suc d) t
    grows d t (inl m) = inl (a.grows d t m)
    grows d t (inr m) = inr (b.grows d t m)

    sound : (m q : Read A) (i : Pieces) → Sound M z m i → Sound N z q i → Sound (Or M N) z (or_stay m (λ a r. Found a r) q) i
    sound (Found t r) q i s u = ((s.0.0, inl s.0.1), s.1)
    sound Absent q i s u = sound_in N (Or M N) z q i (λ d t m. inr m) u
    sound Deep q i s u = tt

    begins : (d : ℕ) (t : A) → d ≤ depth → Or M N d t → MayBegin (either f g) (z t)
    begins d t h (inl m) = may_begin (either f g) (z t) (begins_in f (either f g) (z t) (next_one f g) (a.begins d t h m))
    begins d t h (inr m) = may_in g (either f g) (z t) (next_two f g) (b.begins d t h m)

    found : (m q : Read A) → (q ≡ Absent → ⊥) → or_stay m (λ a r. Found a r) q ≡ Absent → ⊥
    found (Found t r) q h is = cc
    found Absent q h is = h is
    found Deep q h is = cc

    stays : (i : Pieces) → next f i ≡ false → or_stay (P i) (λ a r. Found a r) (Q i) ≡ Q i
    stays i h = ap (λ m. or_stay m (λ a r. Found a r) (Q i)) (a.absent i h)

    whole : (d : ℕ) (t : A) (r : Pieces) → d ≤ depth → Inside H (z t) → Or M N d t → next (both (c t) (others f)) r ≡ true → or_else P Q (z t ++ r) ≡ Found t r
    whole d t r h w (inl m) cl = ap (λ k. or_stay k (λ a r. Found a r) (Q (z t ++ r))) (a.whole d t r h w m (next_both (c t) (others f) r cl).0)
    whole d t r h w (inr m) cl =
        stays (z t ++ r) (next_others f (z t ++ r) (may_next g (others f) apart (z t) r (b.begins d t h m) (next_both (c t) (others f) r cl).1))
        ∙ b.whole d t r h w m (next_both (c t) (others f) r cl).0

    longest : (d : ℕ) (t : A) (r : Pieces) → d ≤ depth → Inside H (z t) → Or M N d t → (c t).end ≡ true → Takes (or_else P Q (z t ++ r)) r
    longest d t r h w (inl m) en = takes_stay (P (z t ++ r)) (λ a r. Found a r) (Q (z t ++ r)) r (a.longest d t r h w m en) (λ a s k. k)
    longest d t r h w (inr m) en = go (z t) refl (b.begins d t h m)
      where
        go : (ys : Pieces) → z t ≡ ys → MayBegin g (z t) → Takes (or_else P Q (z t ++ r)) r
        go [] is starts =
            subst (λ k. Takes (or_else P Q (k ++ r)) r) (sym is)
            (no_longer (Or M N) z (or_else P Q r) r r (sound (P r) (Q r) r (a.sound r) (b.sound r)) (found (P r) (Q r) (b.total r)) (omega arith))
        go (x ∷ ys) is starts =
            let b2 : MayBegin g (x ∷ ys) = subst (λ k. MayBegin g k) is starts in
            subst (λ q. Takes q r)
            (sym (stays (z t ++ r) (next_others f (z t ++ r) (in_subset g (others f) apart (z t ++ r) (subst (λ k. next g (k ++ r) ≡ true) (sym is) (begins_next g (x ∷ ys) r b2))))))
            (b.longest d t r h w m en)
