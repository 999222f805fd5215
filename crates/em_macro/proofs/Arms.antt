-- What the pass over an arm says of the arm.
use Rattle.std.proofs.lemmas.List.{get_or_read}
use Rattle.std.proofs.Common.{get_or, below_more, ◌≡◌, ℕ, zero, suc, ◌+◌, ◌<◌, ◌⊎◌, inl, inr, true, false, List, [], ◌∷◌, ◌++◌, length, refl, sym, ◌∙◌, ap, subst, arith}
use Rattle.em_tree.specs.Starts.{Pieces}
use Rattle.em_macro.specs.Match.{Reading, Bindings, same, Match, Owes, Decidable, at_end, levels}
use Rattle.em_macro.specs.Run.{Out, Done, Fails, Breaks, Deep, run}
use Rattle.em_macro.specs.declared.matched.Taken.{Taken}
use Rattle.em_macro.specs.Reads.{In, Reads, ReadBy, ReadBefore, fragments_of, log}
use Rattle.em_macro.proofs.Turns.{plus_one}
use Rattle.em_macro.proofs.Within.{log_falls}
use Rattle.em_macro.proofs.Logging.{all_in, reached_run, read_run}
use Rattle.em_macro.proofs.Sound.{Sound, sound_run}
use Rattle.em_macro.proofs.Complete.{found_run, one_binding}
use Rattle.em_macro.proofs.Stops.{Stopped, AtRun, stop_run, stopped_run}
use Rattle.em_macro.specs.declared.rules.Arm.{Arm}
use Rattle.em_macro.specs.Choose.{Matches, IsBroken, IsTooDeep, Misses, Decides, AreDecidable, OneMatch}

module _ (reads : Reading) where
  pub arm_matches : (a : Arm) (i r : Pieces) (bs : Bindings) → run reads levels a.matcher i ≡ Done bs r → r ≡ [] → Matches reads a i bs
  arm_matches a i r bs is end = subst (λ l. Match reads levels a.matcher i bs l) end (subst (λ o. Sound (Match reads levels a.matcher) o i) is (sound_run reads levels a.matcher i))

  pub arm_broken : (a : Arm) (i : Pieces) → run reads levels a.matcher i ≡ Breaks → IsBroken reads a i
  arm_broken a i is = subst (λ o. Stopped (AtRun reads levels a.matcher i) o) is (stopped_run reads levels a.matcher i)

  pub arm_deep : (a : Arm) (i : Pieces) → run reads levels a.matcher i ≡ Deep → IsTooDeep reads a i
  arm_deep a i is = subst (λ o. Stopped (AtRun reads levels a.matcher i) o) is (stopped_run reads levels a.matcher i)

  fails_not_done : (bs : Bindings) (r : Pieces) → ◌≡◌ {A = Out Bindings} Fails (Done bs r) → ⊥
  fails_not_done bs r is = cc

  fails_not_breaks : ◌≡◌ {A = Out Bindings} Fails Breaks → ⊥
  fails_not_breaks is = cc

  fails_not_deep : ◌≡◌ {A = Out Bindings} Fails Deep → ⊥
  fails_not_deep is = cc

  done_not_breaks : (bs : Bindings) (r : Pieces) → ◌≡◌ {A = Out Bindings} (Done bs r) Breaks → ⊥
  done_not_breaks bs r is = cc

  done_not_deep : (bs : Bindings) (r : Pieces) → ◌≡◌ {A = Out Bindings} (Done bs r) Deep → ⊥
  done_not_deep bs r is = cc

  same_rest : (bs cs : Bindings) (r s : Pieces) → ◌≡◌ {A = Out Bindings} (Done bs r) (Done cs s) → r ≡ s
  same_rest bs cs r s is = cc

  pub arm_fails : Owes reads → (a : Arm) (i : Pieces) → Decidable levels a.matcher at_end → run reads levels a.matcher i ≡ Fails → Misses reads a i
  arm_fails never a i dec is = (
    (λ bs m. fails_not_done bs [] (sym is ∙ found_run reads never levels a.matcher at_end dec i [] bs m refl)),
    (λ s. fails_not_breaks (sym is ∙ stop_run reads never levels a.matcher at_end dec i s.1 s.0 true s.2 s.3)),
    (λ s. fails_not_deep (sym is ∙ stop_run reads never levels a.matcher at_end dec i s.1 s.0 false s.2 s.3)),
  )

  pub arm_leaves : Owes reads → (a : Arm) (i r : Pieces) (bs : Bindings) → Decidable levels a.matcher at_end → run reads levels a.matcher i ≡ Done bs r
      → (r ≡ [] → ⊥) → Misses reads a i
  arm_leaves never a i r bs dec is more = (
    (λ cs m. more (same_rest bs cs r [] (sym is ∙ found_run reads never levels a.matcher at_end dec i [] cs m refl))),
    (λ s. done_not_breaks bs r (sym is ∙ stop_run reads never levels a.matcher at_end dec i s.1 s.0 true s.2 s.3)),
    (λ s. done_not_deep bs r (sym is ∙ stop_run reads never levels a.matcher at_end dec i s.1 s.0 false s.2 s.3)),
  )

pub here : (P : Arm → Type 0) (arms : List Arm) (n : ℕ) (a d : Arm) → n < length arms → a ≡ get_or arms n a → P a → P (get_or arms n d)
here P arms n a d below is h = subst P (get_or_read arms n a below is d) h

pub here-back : (P : Arm → Type 0) (arms : List Arm) (n : ℕ) (a : Arm) → a ≡ get_or arms n a → P (get_or arms n a) → P a
here-back P arms n a is h = subst P (sym is) h

pub all_more : (P : Arm → Type 0) (arms : List Arm) (n : ℕ) → ((k : ℕ) (d : Arm) → k < n → P (get_or arms k d)) → ((d : Arm) → P (get_or arms n d))
    → (k : ℕ) (d : Arm) → k < n + 1 → P (get_or arms k d)
all_more P arms n before last k d h = below_more (λ k. (d : Arm) → P (get_or arms k d)) n (λ k h d. before k d h) last k h d

pub decides_as : (reads : Reading) (P : Arm → Type 0) (arms : List Arm) (i : Pieces) (n m : ℕ) → m ≡ n → Decides reads P arms i n → Decides reads P arms i m
decides_as reads P arms i n m is h = subst (λ k. Decides reads P arms i k) (sym is) h

-- ---- one arm is chosen

module _ (reads : Reading) (owes : Owes reads) (arms : List Arm) (dec : AreDecidable arms) (i : Pieces) where
  not_before : (n m : ℕ) (bs cs : Bindings) → Decides reads (λ a. Matches reads a i bs) arms i n → Decides reads (λ a. Matches reads a i cs) arms i m → n < m → ⊥
  not_before n m bs cs a b below = (b.2 n (some arms n a.0) below).0 bs (a.1 (some arms n a.0))
    where
      some : (xs : List Arm) (n : ℕ) → n < length xs → Arm
      some [] n h = absurd (omega (arith, h))
      some (x ∷ xs) n h = x

  pub one_arm : (n m : ℕ) (bs cs : Bindings) → Decides reads (λ a. Matches reads a i bs) arms i n → Decides reads (λ a. Matches reads a i cs) arms i m → n ≡ m
  one_arm n m bs cs a b =
      elim (trichotomy n m) [
        | inl less ↦ absurd (not_before n m bs cs a b less)
        | inr (inl same) ↦ same
        | inr (inr more) ↦ absurd (not_before m n cs bs b a more)
      ]
    where
      trichotomy : (n m : ℕ) → (n < m) ⊎ (n ≡ m) ⊎ (m < n)
      trichotomy zero zero = inr (inl refl)
      trichotomy zero (suc m) = inl (omega arith)
      trichotomy (suc n) zero = inr (inr (omega arith))
      trichotomy (suc n) (suc m) =
          elim (trichotomy n m) [
            | inl less ↦ inl (omega (arith, less))
            | inr (inl same) ↦ inr (inl (ap (λ k. suc k) same))
            | inr (inr more) ↦ inr (inr (omega (arith, more)))
          ]

  pub one_list : (n m : ℕ) (bs cs : Bindings) → Decides reads (λ a. Matches reads a i bs) arms i n → Decides reads (λ a. Matches reads a i cs) arms i m → bs ≡ cs
  one_list n m bs cs a b = with_some arms n a.0 refl
    where
      with_some : (xs : List Arm) (k : ℕ) → k < length xs → arms ≡ xs → bs ≡ cs
      with_some [] k h is = absurd (omega (arith, h))
      with_some (x ∷ xs) k h is =
          one_binding reads owes levels (get_or arms n x).matcher (dec n x a.0) i bs cs (a.1 x)
          (subst (λ k. Matches reads (get_or arms k x) i cs) (sym (one_arm n m bs cs a b)) (b.1 x))

pub one_match : (reads : Reading) → Owes reads → OneMatch reads
one_match reads owes arms dec i n m bs cs a b = (one_arm reads owes arms dec i n m bs cs a b, one_list reads owes arms dec i n m bs cs a b)

-- ---- what the arms read

pub read_by : (reads : Reading) → Owes reads → (a : Arm) (i : Pieces) → Decidable levels a.matcher at_end → ReadBy reads a i (fragments_of (log reads levels a.matcher i))
read_by reads owes a i dec = (
  log reads levels a.matcher i,
  refl,
  log_falls reads owes.0 levels a.matcher i,
  λ x. (
    λ h. all_in (Reads reads levels a.matcher i) (log reads levels a.matcher i) x (reached_run reads levels a.matcher i) h,
    λ h. subst (λ n. In (x.0, n) (log reads levels a.matcher i)) (sym h.5) (read_run reads owes levels a.matcher at_end dec i h.1 h.2 h.0 x.0 h.3 h.4),
  ),
)

pub tried_as : (reads : Reading) (arms : List Arm) (i : Pieces) (n m : ℕ) (fs : List Taken) → m ≡ n → ReadBefore reads n arms i fs → ReadBefore reads m arms i fs
tried_as reads arms i n m fs is h = subst (λ k. ReadBefore reads k arms i fs) (sym is) h

pub tried_none : (reads : Reading) (arms : List Arm) (i : Pieces) (fs : List Taken) → fs ≡ [] → ReadBefore reads 0 arms i fs
tried_none reads arms i fs is = is

pub tried_more : (reads : Reading) → Owes reads → (arms : List Arm) (i : Pieces) (n : ℕ) (a : Arm) (before old now new : List Taken) → n < length arms → a ≡ get_or arms n a
    → Decidable levels a.matcher at_end → ReadBefore reads n arms i before → old ≡ [] → now ≡ old ++ fragments_of (log reads levels a.matcher i) → new ≡ before ++ now
    → ReadBefore reads (n + 1) arms i new
tried_more reads owes arms i n a before old now new below item dec h none read joined =
    let all : now ≡ fragments_of (log reads levels a.matcher i) = read ∙ ap (λ l. l ++ fragments_of (log reads levels a.matcher i)) none in
    subst (λ k. ReadBefore reads k arms i new) (plus_one n)
    (before, now, h, (λ d. here (λ x. ReadBy reads x i now) arms n a d below item (subst (λ l. ReadBy reads a i l) (sym all) (read_by reads owes a i dec))), joined)
