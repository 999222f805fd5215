-- One part after another, where what may follow depends on both, and where the second may lack.
use Rattle.std.proofs.lemmas.List.{append-nil}
use Rattle.std.proofs.Common.{◌≡◌, ℕ, suc, ◌≤◌, Bool, true, false, if◌then◌else◌, [], ◌∷◌, ◌++◌, Option, Some, None, refl, sym, ◌∙◌, ap, subst, append_assoc, arith, max, ◌⊎◌, inl, inr}
use Rattle.em_tree.specs.Starts.{Pieces}
use Rattle.em_tree.specs.Parts.{maybe}
use Rattle.em_grammar.specs.Sets.{Set, next, subset, others, both, either, Inside}
use Rattle.em_grammar.specs.Lang.{Chain, joined, Opt, Image}
use Rattle.em_grammar.specs.Reader.{Read, Found, Absent, Deep, and_then, chain, opt, mapped}
use Rattle.em_grammar.specs.Chains.{kept}
use Rattle.em_grammar.specs.Pairs.{Pair, Part, Sound, Takes, Begins, MayBegin}
use Rattle.em_grammar.proofs.AllSorts.{and-left}
use Rattle.em_grammar.proofs.Forms.{same_of}
use Rattle.em_grammar.proofs.Pairs.{in_subset, begins_next, begins_append, begins_in, next_both, next_neither, next_one, next_two, inside_left, inside_right, sound_then, takes_then, no_longer, raise, opt_of, opt_clear}

sound_both : {A B : Type 0} (M : ℕ → A → Type 0) (y : A → Pieces) (N : A → ℕ → B → Type 0) (z : B → Pieces) (P : Pieces → Read A) (Q : A → Pieces → Read B)
    → ((d : ℕ) (t : A) → M d t → M (suc d) t) → ((a : A) (d : ℕ) (t : B) → N a d t → N a (suc d) t)
    → ((i : Pieces) → Sound M y (P i) i) → ((a : A) (i : Pieces) → Sound (N a) z (Q a i) i) → (i : Pieces) → Sound (Chain M N) (joined y z) (chain P Q i) i
sound_both M y N z P Q up up2 a b i =
    sound_then M y (Chain M N) (joined y z) (P i) (λ x r. and_then (Q x r) (λ u s. Found (x, u) s)) i i (a i) (λ x r l eq.
    sound_then (N x) z (Chain M N) (joined y z) (Q x r) (λ u s. Found (x, u) s) i r (b x r) (λ u s m eq2. (
      (max l.0 m.0, (raise M up l.0 (max l.0 m.0) x (omega arith) l.1, raise (N x) (up2 x) m.0 (max l.0 m.0) u (omega arith) m.1)),
      eq ∙ ap (λ k. y x ++ k) eq2 ∙ sym (append_assoc (y x) (z u) s),
    )))

step : {A B : Type 0} (y : A → Pieces) (z : B → Pieces) (P : Pieces → Read A) (Q : A → Pieces → Read B) (a : A) (b : B) (r : Pieces) → P (y a ++ (z b ++ r)) ≡ Found a (z b ++ r)
    → chain P Q ((y a ++ z b) ++ r) ≡ and_then (Q a (z b ++ r)) (λ u s. Found (a, u) s)
step y z P Q a b r is = ap (λ k. chain P Q k) (append_assoc (y a) (z b) r) ∙ ap (λ k. and_then k (λ x r. and_then (Q x r) (λ u s. Found (x, u) s))) is

module _ (H : Pieces → Type 0) (depth : ℕ) (A B : Type 0) (M : ℕ → A → Type 0) (y : A → Pieces) (N : A → ℕ → B → Type 0) (z : B → Pieces) (P : Pieces → Read A) (Q : A → Pieces → Read B)
    (f : Set) (c g : A → Set) (e : A → B → Set) where
  chain_by : Pair H depth M y P f c → ((d : ℕ) (a : A) → M d a → Pair H depth (N a) z (Q a) (g a) (e a)) → ((a : A) (d : ℕ) (t : B) → N a d t → N a (suc d) t) → ((a : A) (i : Pieces) → Sound (N a) z (Q a i) i)
      → ((d : ℕ) (a : A) → M d a → subset (g a) (c a) ≡ true) → Pair H depth (Chain M N) (joined y z) (chain P Q) f (λ t. e t.0 t.1)
  chain_by a b up so inc = record {
    grows = λ d t m. (a.grows d t.0 m.0, up t.0 d t.1 m.1);
    sound = λ i. sound_both M y N z P Q a.grows up a.sound so i;
    begins = λ d t h m. begins_append f (y t.0) (z t.1) (a.begins d t.0 h m.0);
    whole = λ d t r h w m cl. first d t r h w m ∙ ap (λ k. and_then k (λ u s. Found (t.0, u) s)) ((b d t.0 m.0).whole d t.1 r h (inside_right H (y t.0) (z t.1) w) m.1 cl);
    longest = λ d t r h w m en.
        subst (λ k. Takes k r) (sym (first d t r h w m))
        (takes_then (Q t.0 (z t.1 ++ r)) (λ u s. Found (t.0, u) s) r ((b d t.0 m.0).longest d t.1 r h (inside_right H (y t.0) (z t.1) w) m.1 en) (λ u s k. k));
    absent = λ i h. ap (λ k. and_then k (λ x r. and_then (Q x r) (λ u s. Found (x, u) s))) (a.absent i h);
  }
    where
      first : (d : ℕ) (t : A × B) (r : Pieces) → d ≤ depth → Inside H (joined y z t) → Chain M N d t → chain P Q (joined y z t ++ r) ≡ and_then (Q t.0 (z t.1 ++ r)) (λ u s. Found (t.0, u) s)
      first d t r h w m =
          step y z P Q t.0 t.1 r (a.whole d t.0 (z t.1 ++ r) h (inside_left H (y t.0) (z t.1) w) m.0
          (in_subset (g t.0) (c t.0) (inc d t.0 m.0) (z t.1 ++ r) (begins_next (g t.0) (z t.1) r ((b d t.0 m.0).begins d t.1 h m.1))))

-- what follows may depend on both parts
pub chain_dep : {H : Pieces → Type 0} {depth : ℕ} {A B : Type 0} {M : ℕ → A → Type 0} {y : A → Pieces} {N : A → ℕ → B → Type 0} {z : B → Pieces} {P : Pieces → Read A} {Q : A → Pieces → Read B}
    {f : Set} {c g : A → Set} {e : A → B → Set}
    → Pair H depth M y P f c → ((a : A) → Pair H depth (N a) z (Q a) (g a) (e a)) → ((a : A) → subset (g a) (c a) ≡ true) → Pair H depth (Chain M N) (joined y z) (chain P Q) f (λ t. e t.0 t.1)
chain_dep {H} {depth} {A} {B} {M} {y} {N} {z} {P} {Q} {f} {c} {g} {e} a b inc =
    chain_by H depth A B M y N z P Q f c g e a (λ d x m. b x) (λ x. (b x).grows) (λ x. (b x).sound) (λ d x m. inc x)

-- ---- a second part that may lack: where it is there, what follows the first doesn't count

abbrev pub more_clear : {A B : Type 0} → (A → Set) → (A → Set) → (A → B → Set) → A × Option B → Set
more_clear c g e (a, None) = both (c a) (others (g a))
more_clear c g e (a, Some b) = e a b

module _ (H : Pieces → Type 0) (depth : ℕ) (A B : Type 0) (M : ℕ → A → Type 0) (y : A → Pieces) (N : A → ℕ → B → Type 0) (z : B → Pieces) (P : Pieces → Read A) (Q : A → Pieces → Read B)
    (f : Set) (c g : A → Set) (e : A → B → Set) where
  abbrev M2 : ℕ → A × Option B → Type 0
  M2 = Chain M (λ a. Opt (N a))

  abbrev y2 : A × Option B → Pieces
  y2 = joined y (maybe z)

  abbrev P2 : Pieces → Read (A × Option B)
  P2 = chain P (λ a. opt (Q a))

  more_by : Pair H depth M y P f c → ((a : A) → Pair H depth (N a) z (Q a) (g a) (e a)) → ((a : A) → subset (g a) (c a) ≡ true) → Pair H depth M2 y2 P2 f (more_clear c g e)
  more_by a b inc = record {
    grows = λ d t m. (a.grows d t.0 m.0, (o t.0).grows d t.1 m.1);
    sound = λ i. sound_both M y (λ a. Opt (N a)) (maybe z) P (λ a. opt (Q a)) a.grows (λ x. (o x).grows) a.sound (λ x. (o x).sound) i;
    begins = λ d t h m. begins_append f (y t.0) (maybe z t.1) (a.begins d t.0 h m.0);
    whole = λ d t r h w m cl. whole d t.0 t.1 r h w m cl;
    longest = λ d t r h w m en. longest d t.0 t.1 r h w m en;
    absent = λ i h. ap (λ k. and_then k (λ x r. and_then (opt (Q x) r) (λ u s. Found (x, u) s))) (a.absent i h);
  }
    where
      o : (x : A) → Part H depth (Opt (N x)) (maybe z) (opt (Q x)) (g x) (opt_clear (g x) (e x))
      o x = opt_of (b x)

      whole : (d : ℕ) (x : A) (u : Option B) (r : Pieces) → d ≤ depth → Inside H (y2 (x, u)) → M2 d (x, u) → next (more_clear c g e (x, u)) r ≡ true → P2 (y2 (x, u) ++ r) ≡ Found (x, u) r
      whole d x None r h w m cl =
          let q = next_both (c x) (others (g x)) r cl in
          step y (maybe z) P (λ a. opt (Q a)) x None r (a.whole d x r h (inside_left H (y x) [] w) m.0 q.0)
          ∙ ap (λ k. and_then k (λ u s. Found (x, u) s)) ((o x).whole d None r h tt tt q.1)
      whole d x (Some u) r h w m cl =
          step y (maybe z) P (λ a. opt (Q a)) x (Some u) r
          (a.whole d x (z u ++ r) h (inside_left H (y x) (z u) w) m.0 (in_subset (g x) (c x) (inc x) (z u ++ r) (begins_next (g x) (z u) r ((b x).begins d u h m.1))))
          ∙ ap (λ k. and_then k (λ u s. Found (x, u) s)) ((o x).whole d (Some u) r h (inside_right H (y x) (z u) w) m.1 cl)

      longest : (d : ℕ) (x : A) (u : Option B) (r : Pieces) → d ≤ depth → Inside H (y2 (x, u)) → M2 d (x, u) → (more_clear c g e (x, u)).end ≡ true → Takes (P2 (y2 (x, u) ++ r)) r
      longest d x None r h w m en =
          subst (λ k. Takes (P2 (k ++ r)) r) (sym (append-nil (y x)))
          (takes_then (P (y x ++ r)) (λ x r. and_then (opt (Q x) r) (λ u s. Found (x, u) s)) r
          (a.longest d x r h (inside_left H (y x) [] w) m.0 (and-left _ _ en))
          (λ x s k. takes_then (opt (Q x) s) (λ u s. Found (x, u) s) r (no_longer (Opt (N x)) (maybe z) (opt (Q x) s) s r ((o x).sound s) ((o x).total s) k) (λ u s k. k)))
      longest d x (Some u) r h w m en =
          subst (λ k. Takes k r)
          (sym (step y (maybe z) P (λ a. opt (Q a)) x (Some u) r
          (a.whole d x (z u ++ r) h (inside_left H (y x) (z u) w) m.0 (in_subset (g x) (c x) (inc x) (z u ++ r) (begins_next (g x) (z u) r ((b x).begins d u h m.1))))))
          (takes_then (opt (Q x) (z u ++ r)) (λ u s. Found (x, u) s) r ((o x).longest d (Some u) r h (inside_right H (y x) (z u) w) m.1 en) (λ u s k. k))

pub chain_more : {H : Pieces → Type 0} {depth : ℕ} {A B : Type 0} {M : ℕ → A → Type 0} {y : A → Pieces} {N : A → ℕ → B → Type 0} {z : B → Pieces} {P : Pieces → Read A} {Q : A → Pieces → Read B}
    {f : Set} {c g : A → Set} {e : A → B → Set}
    → Pair H depth M y P f c → ((a : A) → Pair H depth (N a) z (Q a) (g a) (e a)) → ((a : A) → subset (g a) (c a) ≡ true)
    → Pair H depth (Chain M (λ a. Opt (N a))) (joined y (maybe z)) (chain P (λ a. opt (Q a))) f (more_clear c g e)
chain_more {H} {depth} {A} {B} {M} {y} {N} {z} {P} {Q} {f} {c} {g} {e} a b inc = more_by H depth A B M y N z P Q f c g e a b inc

-- ---- what a production makes of its parts, where what may follow it may follow them

sound_map : {A B : Type 0} (M : ℕ → A → Type 0) (z : A → Pieces) (f : A → B) (v : B → Pieces) → ((d : ℕ) (t : A) → M d t → v (f t) ≡ z t) → (m : Read A) (i : Pieces) → Sound M z m i
    → Sound (Image f M) v (and_then m (λ a r. Found (f a) r)) i
sound_map M z f v same (Found a r) i s = ((s.0.0, (a, s.0.1, refl)), s.1 ∙ ap (λ k. k ++ r) (sym (same s.0.0 a s.0.1)))
sound_map M z f v same Absent i s = tt
sound_map M z f v same Deep i s = tt

pub image_in : {H : Pieces → Type 0} {depth : ℕ} {A B : Type 0} {M : ℕ → A → Type 0} {z : A → Pieces} {P : Pieces → Read A} {f : Set} {c : A → Set} {e : B → Set} (h : A → B) (v : B → Pieces)
    → ((d : ℕ) (t : A) → M d t → v (h t) ≡ z t) → ((d : ℕ) (t : A) → M d t → (i : Pieces) → next (e (h t)) i ≡ true → next (c t) i ≡ true) → Pair H depth M z P f c → Pair H depth (Image h M) v (mapped h P) f e
image_in {H} {depth} {A} {B} {M} {z} {P} {f} {c} {e} h v same inc a = record {
  grows = λ d t m. (m.0, a.grows d m.0 m.1, m.2);
  sound = λ i. sound_map M z h v same (P i) i (a.sound i);
  begins = λ d t k m. subst (λ ys. Begins f ys) (sym (yield d t m.0 m.1 m.2)) (a.begins d m.0 k m.1);
  whole = λ d t r k w m cl.
      ap (λ ys. mapped h P (ys ++ r)) (yield d t m.0 m.1 m.2)
      ∙ ap (λ q. and_then q (λ x r. Found (h x) r))
      (a.whole d m.0 r k (subst (λ ys. Inside H ys) (yield d t m.0 m.1 m.2) w) m.1 (inc d m.0 m.1 r (subst (λ u. next (e u) r ≡ true) m.2 cl)))
      ∙ ap (λ q. Found q r) (sym m.2);
  longest = λ d t r k w m en.
      subst (λ ys. Takes (mapped h P (ys ++ r)) r) (sym (yield d t m.0 m.1 m.2))
      (takes_then (P (z m.0 ++ r)) (λ x r. Found (h x) r) r
      (a.longest d m.0 r k (subst (λ ys. Inside H ys) (yield d t m.0 m.1 m.2) w) m.1 (inc d m.0 m.1 [] (subst (λ u. (e u).end ≡ true) m.2 en))) (λ x s k. k));
  absent = λ i k. ap (λ q. and_then q (λ x r. Found (h x) r)) (a.absent i k);
}
  where
    yield : (d : ℕ) (t : B) (x : A) → M d x → t ≡ h x → v t ≡ z x
    yield d t x m is = ap (λ k. v k) is ∙ same d x m

-- fewer may follow
pub clear_in : {H : Pieces → Type 0} {depth : ℕ} {A : Type 0} {M : ℕ → A → Type 0} {z : A → Pieces} {P : Pieces → Read A} {f : Set} {c e : A → Set}
    → ((d : ℕ) (t : A) → M d t → (i : Pieces) → next (e t) i ≡ true → next (c t) i ≡ true) → Pair H depth M z P f c → Pair H depth M z P f e
clear_in {H} {depth} {A} {M} {z} {P} {f} {c} {e} inc a = record {
  grows = a.grows;
  sound = a.sound;
  begins = a.begins;
  whole = λ d t r h w m cl. a.whole d t r h w m (inc d t m r cl);
  longest = λ d t r h w m en. a.longest d t r h w m (inc d t m [] en);
  absent = a.absent;
}

-- more may begin
pub first_in : {H : Pieces → Type 0} {depth : ℕ} {A : Type 0} {M : ℕ → A → Type 0} {z : A → Pieces} {P : Pieces → Read A} {f g : Set} {c : A → Set}
    → subset f g ≡ true → Pair H depth M z P f c → Pair H depth M z P g c
first_in {H} {depth} {A} {M} {z} {P} {f} {g} {c} inc a = record {
  grows = a.grows;
  sound = a.sound;
  begins = λ d t h m. begins_in f g (z t) (in_subset f g inc) (a.begins d t h m);
  whole = a.whole;
  longest = a.longest;
  absent = λ i h. a.absent i (never (next f i) i refl h);
}
  where
    never : (b : Bool) (i : Pieces) → next f i ≡ b → next g i ≡ false → b ≡ false
    never true i is h = let there : next g i ≡ true = in_subset f g inc i is in cc
    never false i is h = refl

-- within a lower depth
pub lower_of : {H : Pieces → Type 0} {depth : ℕ} {A : Type 0} {M : ℕ → A → Type 0} {z : A → Pieces} {P : Pieces → Read A} {f : Set} {c : A → Set} → Pair H (suc depth) M z P f c → Pair H depth M z P f c
lower_of {H} {depth} {A} {M} {z} {P} {f} {c} a = record {
  grows = a.grows;
  sound = a.sound;
  begins = λ d t h m. a.begins d t (omega (arith, h)) m;
  whole = λ d t r h w m cl. a.whole d t r (omega (arith, h)) w m cl;
  longest = λ d t r h w m en. a.longest d t r (omega (arith, h)) w m en;
  absent = a.absent;
}

-- ---- a first part that may be empty, and a second that depends on it

pub part_chain : {H : Pieces → Type 0} {depth : ℕ} {A B : Type 0} {M : ℕ → A → Type 0} {y : A → Pieces} {N : A → ℕ → B → Type 0} {z : B → Pieces} {P : Pieces → Read A} {Q : A → Pieces → Read B}
    {f : Set} {c : A → Set} {g : Set} {e : A → B → Set}
    → Part H depth M y P f c → ((a : A) → Pair H depth (N a) z (Q a) g (e a)) → ((a : A) → subset g (c a) ≡ true) → Pair H depth (Chain M N) (joined y z) (chain P Q) (either f g) (λ t. e t.0 t.1)
part_chain {H} {depth} {A} {B} {M} {y} {N} {z} {P} {Q} {f} {c} {g} {e} a b inc = record {
  grows = λ d t m. (a.grows d t.0 m.0, (b t.0).grows d t.1 m.1);
  sound = λ i. sound_both M y N z P Q a.grows (λ x. (b x).grows) a.sound (λ x. (b x).sound) i;
  begins = λ d t h m. begins_second f g (y t.0) (z t.1) (a.begins d t.0 h m.0) ((b t.0).begins d t.1 h m.1);
  whole = λ d t r h w m cl. first d t r h w m ∙ ap (λ k. and_then k (λ u s. Found (t.0, u) s)) ((b t.0).whole d t.1 r h (inside_right H (y t.0) (z t.1) w) m.1 cl);
  longest = λ d t r h w m en.
      subst (λ k. Takes k r) (sym (first d t r h w m))
      (takes_then (Q t.0 (z t.1 ++ r)) (λ u s. Found (t.0, u) s) r ((b t.0).longest d t.1 r h (inside_right H (y t.0) (z t.1) w) m.1 en) (λ u s k. k));
  absent = λ i h.
      let n = next_neither f g i h in
      let q = a.idle i n.0 in
      ap (λ k. and_then k (λ x r. and_then (Q x r) (λ u s. Found (x, u) s))) q.1 ∙ ap (λ k. and_then k (λ u s. Found (q.0, u) s)) ((b q.0).absent i n.1);
}
  where
    begins_second : (s u : Set) (xs zs : Pieces) → MayBegin s xs → Begins u zs → Begins (either s u) (xs ++ zs)
    begins_second s u [] zs a b = begins_in u (either s u) zs (next_two s u) b
    begins_second s u (x ∷ xs) zs a b = begins_append (either s u) (x ∷ xs) zs (next_one s u (x ∷ xs) a)

    first : (d : ℕ) (t : A × B) (r : Pieces) → d ≤ depth → Inside H (joined y z t) → Chain M N d t → chain P Q (joined y z t ++ r) ≡ and_then (Q t.0 (z t.1 ++ r)) (λ u s. Found (t.0, u) s)
    first d t r h w m =
        step y z P Q t.0 t.1 r
        (a.whole d t.0 (z t.1 ++ r) h (inside_left H (y t.0) (z t.1) w) m.0 (in_subset g (c t.0) (inc t.0) (z t.1 ++ r) (begins_next g (z t.1) r ((b t.0).begins d t.1 h m.1))))

-- ---- under a test of what was found, where something follows that may follow what passes it

pub kept_in : {H : Pieces → Type 0} {depth : ℕ} {A : Type 0} {M : ℕ → A → Type 0} {z : A → Pieces} {P : Pieces → Read A} {f e : Set} {c : A → Set} (test : A → Bool) → e.end ≡ false
    → ((d : ℕ) (t : A) → M d t → test t ≡ true → (i : Pieces) → next e i ≡ true → next (c t) i ≡ true)
    → Pair H depth M z P f c → Pair H depth (λ d t. M d t × (test t ≡ true)) z (kept test P) f (λ t. e)
kept_in {H} {depth} {A} {M} {z} {P} {f} {e} {c} test unended inc a = record {
  grows = λ d t m. (a.grows d t m.0, m.1);
  sound = λ i. sound (P i) i (a.sound i);
  begins = λ d t h m. a.begins d t h m.0;
  whole = λ d t r h w m cl.
      ap (λ k. and_then k (λ a r. if test a then Found a r else Absent)) (a.whole d t r h w m.0 (inc d t m.0 m.1 r cl)) ∙ ap (λ b. if b then Found t r else Absent) m.1;
  longest = λ d t r h w m en. let none : false ≡ true = sym unended ∙ en in cc;
  absent = λ i h. ap (λ k. and_then k (λ a r. if test a then Found a r else Absent)) (a.absent i h);
}
  where
    sound : (m : Read A) (i : Pieces) → Sound M z m i → Sound (λ d t. M d t × (test t ≡ true)) z (and_then m (λ a r. if test a then Found a r else Absent)) i
    sound (Found t r) i s = go (test t) refl
      where
        go : (b : Bool) → test t ≡ b → Sound (λ d t. M d t × (test t ≡ true)) z (if b then Found t r else Absent) i
        go true is = ((s.0.0, (s.0.1, is)), s.1)
        go false is = tt
    sound Absent i s = tt
    sound Deep i s = tt

pub kept_dep : {H : Pieces → Type 0} {depth : ℕ} {A : Type 0} {M : ℕ → A → Type 0} {z : A → Pieces} {P : Pieces → Read A} {f : Set} {c e : A → Set} (test : A → Bool) → ((t : A) → (e t).end ≡ false)
    → ((d : ℕ) (t : A) → M d t → test t ≡ true → (i : Pieces) → next (e t) i ≡ true → next (c t) i ≡ true)
    → Pair H depth M z P f c → Pair H depth (λ d t. M d t × (test t ≡ true)) z (kept test P) f e
kept_dep {H} {depth} {A} {M} {z} {P} {f} {c} {e} test unended inc a = record {
  grows = λ d t m. (a.grows d t m.0, m.1);
  sound = λ i. sound (P i) i (a.sound i);
  begins = λ d t h m. a.begins d t h m.0;
  whole = λ d t r h w m cl.
      ap (λ k. and_then k (λ a r. if test a then Found a r else Absent)) (a.whole d t r h w m.0 (inc d t m.0 m.1 r cl)) ∙ ap (λ b. if b then Found t r else Absent) m.1;
  longest = λ d t r h w m en. let none : false ≡ true = sym (unended t) ∙ en in cc;
  absent = λ i h. ap (λ k. and_then k (λ a r. if test a then Found a r else Absent)) (a.absent i h);
}
  where
    sound : (m : Read A) (i : Pieces) → Sound M z m i → Sound (λ d t. M d t × (test t ≡ true)) z (and_then m (λ a r. if test a then Found a r else Absent)) i
    sound (Found t r) i s = go (test t) refl
      where
        go : (b : Bool) → test t ≡ b → Sound (λ d t. M d t × (test t ≡ true)) z (if b then Found t r else Absent) i
        go true is = ((s.0.0, (s.0.1, is)), s.1)
        go false is = tt
    sound Absent i s = tt
    sound Deep i s = tt

-- ---- by a condition

pub pick_of : {H : Pieces → Type 0} {depth : ℕ} {A : Type 0} {M N : ℕ → A → Type 0} {z : A → Pieces} {P Q : Pieces → Read A} {f : Set} {c : A → Set} (b : Bool)
    → Pair H depth M z P f c → Pair H depth N z Q f c → Pair H depth (λ d t. ((b ≡ true) × M d t) ⊎ ((b ≡ false) × N d t)) z (λ i. if b then P i else Q i) f c
pick_of {H} {depth} {A} {M} {N} {z} {P} {Q} {f} {c} true p q = same_of (λ d t m. inl (refl, m)) first p
  where
    first : (d : ℕ) (t : A) → ((true ≡ true) × M d t) ⊎ ((true ≡ false) × N d t) → M d t
    first d t (inl m) = m.1
    first d t (inr m) = let never : true ≡ false = m.0 in cc
pick_of {H} {depth} {A} {M} {N} {z} {P} {Q} {f} {c} false p q = same_of (λ d t m. inr (refl, m)) second q
  where
    second : (d : ℕ) (t : A) → ((false ≡ true) × M d t) ⊎ ((false ≡ false) × N d t) → N d t
    second d t (inl m) = let never : false ≡ true = m.0 in cc
    second d t (inr m) = m.1

-- what is found within a depth is a member within the next one
pub same_up : {H : Pieces → Type 0} {depth : ℕ} {A : Type 0} {M N : ℕ → A → Type 0} {z : A → Pieces} {P : Pieces → Read A} {f : Set} {c : A → Set}
    → ((d : ℕ) (t : A) → N d t → N (suc d) t) → ((d : ℕ) (t : A) → M d t → N (suc d) t) → ((d : ℕ) (t : A) → N d t → M d t) → Pair H depth M z P f c → Pair H depth N z P f c
same_up {H} {depth} {A} {M} {N} {z} {P} {f} {c} up to of a = record {
  grows = up;
  sound = λ i. sound (P i) i (a.sound i);
  begins = λ d t h m. a.begins d t h (of d t m);
  whole = λ d t r h w m cl. a.whole d t r h w (of d t m) cl;
  longest = λ d t r h w m en. a.longest d t r h w (of d t m) en;
  absent = a.absent;
}
  where
    sound : (m : Read A) (i : Pieces) → Sound M z m i → Sound N z m i
    sound (Found t r) i s = ((suc s.0.0, to s.0.0 t s.0.1), s.1)
    sound Absent i s = tt
    sound Deep i s = tt

-- one node less around it
pub unshift_of : {H : Pieces → Type 0} {depth : ℕ} {A : Type 0} {M : ℕ → A → Type 0} {z : A → Pieces} {P : Pieces → Read A} {f : Set} {c : A → Set}
    → Pair H (suc depth) M z P f c → Pair H depth (λ d. M (suc d)) z P f c
unshift_of {H} {depth} {A} {M} {z} {P} {f} {c} a = record {
  grows = λ d t m. a.grows (suc d) t m;
  sound = λ i. sound (P i) i (a.sound i);
  begins = λ d t h m. a.begins (suc d) t (omega (arith, h)) m;
  whole = λ d t r h w m cl. a.whole (suc d) t r (omega (arith, h)) w m cl;
  longest = λ d t r h w m en. a.longest (suc d) t r (omega (arith, h)) w m en;
  absent = a.absent;
}
  where
    sound : (m : Read A) (i : Pieces) → Sound M z m i → Sound (λ d. M (suc d)) z m i
    sound (Found t r) i s = ((s.0.0, a.grows s.0.0 t s.0.1), s.1)
    sound Absent i s = tt
    sound Deep i s = tt
