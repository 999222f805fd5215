-- Left recursion is read.
use Rattle.std.proofs.Common.{◌≡◌, ℕ, zero, suc, ◌+◌, ◌≤◌, Bool, true, false, if◌then◌else◌, [], ◌++◌, length, length-append, refl, sym, ◌∙◌, ap, subst, append_assoc, arith, max, ◌⊎◌, inl, inr}
use Rattle.em_tree.specs.Starts.{Pieces}
use Rattle.em_grammar.specs.Sets.{Set, next, Inside}
use Rattle.em_grammar.specs.Reader.{Read, Found, Absent, Deep, and_then, or_stay}
use Rattle.em_grammar.specs.Pairs.{Pair, Sound, Takes, Begins, Steady, Firm}
use Rattle.em_grammar.specs.Levels.{climb, level, Levels}
use Rattle.em_grammar.proofs.Pairs.{sound_then, sound_stay, takes_then, raise, begins_append, inside_left, inside_right}
use Rattle.em_grammar.proofs.Steady.{steady_then, steady_stay, steady_if}

module _ {T S : Type 0} (H : Pieces → Type 0) (limit turns : ℕ) (K Pre : ℕ → T → Type 0) (Suf : ℕ → S → Type 0) (z : T → Pieces) (y : S → Pieces) (on : T → Set) (suffix : Pieces → Read S)
    (apply : T → S → T) (prefix : Pieces → Read T) (first g : Set) (clear pre_clear : T → Set) (suf_clear : S → Set)
    (a : Levels H limit turns K Pre Suf z y on suffix apply prefix first g clear pre_clear suf_clear) where
  sound_climb : (n : ℕ) (left : T) (i j : Pieces) → (d : ℕ) × K d left → i ≡ z left ++ j → Sound K z (climb on suffix apply n left j) i
  unfolding climb
  sound_climb zero left i j l eq = go (next (on left) j)
    where
      go : (b : Bool) → Sound K z (if b then Deep else Found left j) i
      go true = tt
      go false = (l, eq)
  sound_climb (suc n) left i j l eq = go (next (on left) j) refl (λ s r m e. sound_climb n (apply left s) i r m e)
    where
      go : (b : Bool) → next (on left) j ≡ b → ((s : S) (r : Pieces) → (d : ℕ) × K d (apply left s) → i ≡ z (apply left s) ++ r → Sound K z (climb on suffix apply n (apply left s) r) i)
          → Sound K z (if b then or_stay (suffix j) (λ s r. climb on suffix apply n (apply left s) r) (Found left j) else Found left j) i
      go false is ih = (l, eq)
      go true is ih =
          sound_stay Suf y K z (suffix j) (λ s r. climb on suffix apply n (apply left s) r) (Found left j) i j (a.suffixes.sound j)
          (λ s r m eq2. let e : ℕ = max l.0 m.0 in
          ih s r
          (suc e, a.more e left s r (raise K a.grows l.0 e left (omega arith) l.1) (raise Suf a.suffixes.grows m.0 (suc e) s (omega arith) m.1) (subst (λ k. next (on left) k ≡ true) eq2 is))
          (eq ∙ ap (λ k. z left ++ k) eq2 ∙ sym (append_assoc (z left) (y s) r) ∙ ap (λ k. k ++ r) (sym (a.yield left s))))
          (l, eq)

  sound_level : (i : Pieces) → Sound K z (level on suffix apply turns prefix i) i
  sound_level i =
      sound_then Pre z K z (prefix i) (λ x r. climb on suffix apply turns x r) i i (a.prefixes.sound i)
      (λ x r m eq. sound_climb turns x i r (m.0, a.node m.0 x m.1) eq)

  abbrev Reached : ℕ → T → Pieces → Pieces → Type 0
  Reached d x i r = (m : ℕ) × (suc turns ≤ m + d) × (level on suffix apply turns prefix i ≡ climb on suffix apply m x r)

  step : (m : ℕ) (left : T) (s : S) (i r : Pieces) → next (on left) i ≡ true → suffix i ≡ Found s r → climb on suffix apply (suc m) left i ≡ climb on suffix apply m (apply left s) r
  unfolding climb
  step m left s i r is found = rw (is, found) refl

  one_step : (d : ℕ) (left : T) (s : S) (i j r : Pieces) (m : ℕ) → suc d ≤ limit → suc turns ≤ m + d → level on suffix apply turns prefix i ≡ climb on suffix apply m left j
      → next (on left) j ≡ true → suffix j ≡ Found s r → Reached (suc d) (apply left s) i r
  one_step d left s i j r zero k h is go found = absurd (omega (arith, h, k, a.bound))
  one_step d left s i j r (suc m) k h is go found = (m, omega (arith, h), is ∙ step m left s j r go found)

  -- something goes on with it, or may follow it
  abbrev Behind : T → Pieces → Type 0
  Behind x r = (next (on x) r ≡ true) ⊎ (next (clear x) r ≡ true)

  behind_pre : (d : ℕ) (x : T) (r : Pieces) → Pre d x → Behind x r → next (pre_clear x) r ≡ true
  behind_pre d x r m (inl b) = a.on_pre d x r m b
  behind_pre d x r m (inr b) = a.clear_pre d x r m b

  behind_suf : (d : ℕ) (x : T) (s : S) (r : Pieces) → K d x → Suf (suc d) s → K (suc d) (apply x s) → Behind (apply x s) r → next (suf_clear s) r ≡ true
  behind_suf d x s r k m w (inl b) = a.on_suf d x s r k m b
  behind_suf d x s r k m w (inr b) = a.clear_suf d x s r k m w b

  abbrev Cut : ℕ → T → Type 0
  Cut d x = (left : T) × (s : S) × K d left × Suf (suc d) s × (x ≡ apply left s) × ((r : Pieces) → next (on left) (y s ++ r) ≡ true)

  yield_cut : (x left : T) (s : S) → x ≡ apply left s → z x ≡ z left ++ y s
  yield_cut x left s is = ap z is ∙ a.yield left s

  reach : (d : ℕ) (x : T) (r : Pieces) → d ≤ limit → Inside H (z x) → K d x → Behind x r → Reached d x (z x ++ r) r
  reach zero x r h w k b = absurd (a.none x k)
  reach (suc d) x r h w k b = go (a.back d x k) (λ left i v l c. reach d left i (omega (arith, h)) v l c)
    where
      go : Pre (suc d) x ⊎ Cut d x → ((left : T) (i : Pieces) → Inside H (z left) → K d left → Behind left i → Reached d left (z left ++ i) i) → Reached (suc d) x (z x ++ r) r
      go (inl p) ih = (turns, omega arith, ap (λ m. and_then m (λ x r. climb on suffix apply turns x r)) (a.prefixes.whole (suc d) x r h w p (behind_pre (suc d) x r p b)))
      go (inr q) ih =
          let cut : z x ≡ z q.0 ++ y q.1 = yield_cut x q.0 q.1 q.4 in
          let w2 : Inside H (z q.0 ++ y q.1) = subst (λ k. Inside H k) cut w in
          let t : Reached d q.0 (z q.0 ++ (y q.1 ++ r)) (y q.1 ++ r) = ih q.0 (y q.1 ++ r) (inside_left H (z q.0) (y q.1) w2) q.2 (inl (q.5 r)) in
          let found : suffix (y q.1 ++ r) ≡ Found q.1 r =
          a.suffixes.whole (suc d) q.1 r h (inside_right H (z q.0) (y q.1) w2) q.3 (behind_suf d q.0 q.1 r q.2 q.3 (subst (λ u. K (suc d) u) q.4 k) (subst (λ u. Behind u r) q.4 b)) in
          subst (λ u. Reached (suc d) u (z x ++ r) r) (sym q.4)
          (subst (λ k. Reached (suc d) (apply q.0 q.1) k r) (sym (ap (λ k. k ++ r) cut ∙ append_assoc (z q.0) (y q.1) r))
          (one_step d q.0 q.1 (z q.0 ++ (y q.1 ++ r)) (y q.1 ++ r) r t.0 h t.1 t.2 (q.5 r) found))

  stopped : (m : ℕ) (x : T) (r : Pieces) → next (on x) r ≡ false → climb on suffix apply m x r ≡ Found x r
  unfolding climb
  stopped zero x r h = rw h refl
  stopped (suc m) x r h = rw h refl

  whole_level : (d : ℕ) (x : T) (r : Pieces) → d ≤ limit → Inside H (z x) → K d x → next (clear x) r ≡ true → level on suffix apply turns prefix (z x ++ r) ≡ Found x r
  whole_level d x r h w k cl = let q : Reached d x (z x ++ r) r = reach d x r h w k (inr cl) in q.2 ∙ stopped q.0 x r (a.clear_on d x r k cl)

  climb_takes : (n : ℕ) (left : T) (i r : Pieces) → length i ≤ length r → Takes (climb on suffix apply n left i) r
  unfolding climb
  climb_takes zero left i r h = go (next (on left) i)
    where
      go : (b : Bool) → Takes (if b then Deep else Found left i) r
      go true = tt
      go false = h
  climb_takes (suc n) left i r h = go (next (on left) i) (λ x s k. climb_takes n x s r k)
    where
      inside : (m : Read S) → Sound Suf y m i → ((x : T) (s : Pieces) → length s ≤ length r → Takes (climb on suffix apply n x s) r)
          → Takes (or_stay m (λ s r. climb on suffix apply n (apply left s) r) (Found left i)) r
      inside (Found s q) m ih = ih (apply left s) q (omega (arith, h, ap (λ k. length k) m.1, length-append (y s) q))
      inside Absent m ih = h
      inside Deep m ih = tt

      go : (b : Bool) → ((x : T) (s : Pieces) → length s ≤ length r → Takes (climb on suffix apply n x s) r)
          → Takes (if b then or_stay (suffix i) (λ s r. climb on suffix apply n (apply left s) r) (Found left i) else Found left i) r
      go false ih = h
      go true ih = inside (suffix i) (a.suffixes.sound i) ih

  -- one more, of which no more is left than this
  more_takes : (m : ℕ) (left : T) (i r : Pieces) → next (on left) i ≡ true → Takes (suffix i) r → Takes (climb on suffix apply m left i) r
  unfolding climb
  more_takes zero left i r is t = rw is tt
  more_takes (suc m) left i r is t = rw is (go (suffix i) t)
    where
      go : (o : Read S) → Takes o r → Takes (or_stay o (λ s r. climb on suffix apply m (apply left s) r) (Found left i)) r
      go (Found s q) t = climb_takes m (apply left s) q r t
      go Absent t = absurd t
      go Deep t = tt

  longest_level : (d : ℕ) (x : T) (r : Pieces) → d ≤ limit → Inside H (z x) → K d x → (clear x).end ≡ true → Takes (level on suffix apply turns prefix (z x ++ r)) r
  longest_level zero x r h w k en = absurd (a.none x k)
  longest_level (suc d) x r h w k en = go (a.back d x k)
    where
      go : Pre (suc d) x ⊎ Cut d x → Takes (level on suffix apply turns prefix (z x ++ r)) r
      go (inl p) = takes_then (prefix (z x ++ r)) (λ x r. climb on suffix apply turns x r) r (a.prefixes.longest (suc d) x r h w p (a.clear_pre (suc d) x [] p en))
          (λ f s k. climb_takes turns f s r k)
      go (inr q) =
          let cut : z x ≡ z q.0 ++ y q.1 = yield_cut x q.0 q.1 q.4 in
          let w2 : Inside H (z q.0 ++ y q.1) = subst (λ k. Inside H k) cut w in
          let t : Reached d q.0 (z q.0 ++ (y q.1 ++ r)) (y q.1 ++ r) = reach d q.0 (y q.1 ++ r) (omega (arith, h)) (inside_left H (z q.0) (y q.1) w2) q.2 (inl (q.5 r)) in
          let last : next (suf_clear q.1) [] ≡ true = a.clear_suf d q.0 q.1 [] q.2 q.3 (subst (λ u. K (suc d) u) q.4 k) (subst (λ u. (clear u).end ≡ true) q.4 en) in
          subst (λ k. Takes (level on suffix apply turns prefix k) r) (sym (ap (λ k. k ++ r) cut ∙ append_assoc (z q.0) (y q.1) r))
          (subst (λ k. Takes k r) (sym t.2)
          (more_takes t.0 q.0 (y q.1 ++ r) r (q.5 r) (a.suffixes.longest (suc d) q.1 r h (inside_right H (z q.0) (y q.1) w2) q.3 last)))

  begins_level : (d : ℕ) (x : T) → d ≤ limit → K d x → Begins first (z x)
  begins_level zero x h k = absurd (a.none x k)
  begins_level (suc d) x h k = go (a.back d x k) (λ left l. begins_level d left (omega (arith, h)) l)
    where
      go : Pre (suc d) x ⊎ Cut d x → ((left : T) → K d left → Begins first (z left)) → Begins first (z x)
      go (inl p) ih = a.prefixes.begins (suc d) x h p
      go (inr q) ih = subst (λ k. Begins first k) (sym (yield_cut x q.0 q.1 q.4)) (begins_append first (z q.0) (y q.1) (ih q.0 q.2))

  pub level_pair : Pair H limit K z (level on suffix apply turns prefix) first clear
  level_pair = record {
    grows = a.grows;
    sound = sound_level;
    begins = begins_level;
    whole = whole_level;
    longest = longest_level;
    absent = λ i h. ap (λ m. and_then m (λ x r. climb on suffix apply turns x r)) (a.prefixes.absent i h);
  }

pub level_of : {T S : Type 0} {H : Pieces → Type 0} {limit turns : ℕ} {K Pre : ℕ → T → Type 0} {Suf : ℕ → S → Type 0} {z : T → Pieces} {y : S → Pieces} {on : T → Set} {suffix : Pieces → Read S}
    {apply : T → S → T} {prefix : Pieces → Read T} {first g : Set} {clear pre_clear : T → Set} {suf_clear : S → Set}
    → Levels H limit turns K Pre Suf z y on suffix apply prefix first g clear pre_clear suf_clear → Pair H limit K z (level on suffix apply turns prefix) first clear
level_of {T} {S} {H} {limit} {turns} {K} {Pre} {Suf} {z} {y} {on} {suffix} {apply} {prefix} {first} {g} {clear} {pre_clear} {suf_clear} a =
    level_pair H limit turns K Pre Suf z y on suffix apply prefix first g clear pre_clear suf_clear a

-- ---- within greater limits

steady_climb : {T S : Type 0} (on : T → Set) (suffix suffix2 : Pieces → Read S) (apply : T → S → T) → Firm suffix suffix2 → (n m : ℕ) (left : T) (i : Pieces) → n ≤ m
    → Steady (climb on suffix apply n left i) (climb on suffix2 apply m left i)
unfolding climb
steady_climb on suffix suffix2 apply s zero zero left i h = steady_if (next (on left) i) Deep Deep (Found left i) (Found left i) tt refl
steady_climb on suffix suffix2 apply s zero (suc m) left i h = steady_if (next (on left) i) Deep _ (Found left i) (Found left i) tt refl
steady_climb on suffix suffix2 apply s (suc n) zero left i h = absurd (omega (arith, h))
steady_climb on suffix suffix2 apply s (suc n) (suc m) left i h =
    steady_if (next (on left) i) _ _ (Found left i) (Found left i)
    (steady_stay (suffix i) (suffix2 i) (λ x r. climb on suffix apply n (apply left x) r) (λ x r. climb on suffix2 apply m (apply left x) r) (Found left i) (Found left i) (s.firm i)
    (λ x r. steady_climb on suffix suffix2 apply s n m (apply left x) r (omega (arith, h))) refl) refl

pub firm_level : {T S : Type 0} {prefix prefix2 : Pieces → Read T} {suffix suffix2 : Pieces → Read S} (on : T → Set) (apply : T → S → T) (n m : ℕ) → n ≤ m → Firm prefix prefix2 → Firm suffix suffix2
    → Firm (level on suffix apply n prefix) (level on suffix2 apply m prefix2)
firm_level {T} {S} {prefix} {prefix2} {suffix} {suffix2} on apply n m h p s = record {
  firm = λ i. steady_then (prefix i) (prefix2 i) (λ x r. climb on suffix apply n x r) (λ x r. climb on suffix2 apply m x r) (p.firm i) (λ x r. steady_climb on suffix suffix2 apply s n m x r h);
}
