-- What the steps read of rules is their text, and a text of rules is read as those.
use Rattle.std.proofs.Common.{◌≡◌, ℕ, zero, suc, ◌<◌, ◌≤◌, ◌⊎◌, inl, inr, ◌↔◌, Bool, true, false, if◌then◌else◌, List, [], ◌∷◌, ◌++◌, length, Err, IsTrue, refl, sym, ◌∙◌, ap, subst, arith, codes}
use Rattle.em_base.specs.declared.token.Token.{Token}
use Rattle.em_macro.specs.declared.signs.Role.TheVariants as role
use Rattle.em_macro.specs.declared.error.RulesError.{RulesError}
use Rattle.em_macro.specs.declared.error.RulesError.TheVariants as e
use Rattle.em_macro.specs.declared.rules.Arm.{Arm}
use Rattle.em_macro.specs.Match.{Matchers, levels}
use Rattle.em_macro.specs.Write.{Transcribers}
use Rattle.em_macro.specs.Form.{Tokens, role_at, is_sign, Closes, MatcherText, TranscriberText, ArmText, Last, RulesText}
use Rattle.em_macro.specs.Sound.{BadText}
use Rattle.em_macro.specs.Steps.{Read, Done, Bad, and_then, Gives, sign, opening, closing, matcher, transcriber, an_arm, delimited_matcher, delimited_transcriber, arm, is_more, another, arms}
use Rattle.em_macro.proofs.TokenTexts.{bound, then_is, only, same_done, sign_form, sign_reads, opening_form, opening_reads, closing_form, closing_reads, close_ends}
use Rattle.em_macro.proofs.MatcherTexts.{matcher_form, matcher_reads, text_shorter}
use Rattle.em_macro.proofs.TranscriberTexts.{transcriber_form, transcriber_reads, copy_text_shorter}
use Rattle.em_macro.proofs.ReadTurns.{stops_at, read_same, regroup}

-- ---- one arm

abbrev Between : (Tokens → Tokens → Type 0) → Tokens → Tokens → Type 0
Between Inner i r = (o : Token) × (j : Tokens) × (c : Token) × (i ≡ o ∷ j) × (role_at o ≡ role.Open) × Inner j (c ∷ r) × Closes o c

between_form : {T : Type 0} (inner : Tokens → Read T) (Inner : T → Tokens → Tokens → Type 0) (formed : (i : Tokens) (x : T) (r : Tokens) → inner i ≡ Done x r → Inner x i r)
    → (i : Tokens) (x : T) (r : Tokens) → and_then (opening i) (λ o j. and_then (inner j) (λ y k. and_then (closing o k) (λ c s. Done y s))) ≡ Done x r → Between (Inner x) i r
between_form {T = T} inner Inner formed i x r h =
    let a : (o : Token) × (j : Tokens) × (opening i ≡ Done o j) × (and_then (inner j) (λ y k. and_then (closing o k) (λ c s. Done y s)) ≡ Done x r)
    = bound (opening i) (λ o j. and_then (inner j) (λ y k. and_then (closing o k) (λ c s. Done y s))) x r h in
    let b : (y : T) × (k : Tokens) × (inner a.1 ≡ Done y k) × (and_then (closing a.0 k) (λ c s. Done y s) ≡ Done x r)
    = bound (inner a.1) (λ y k. and_then (closing a.0 k) (λ c s. Done y s)) x r a.3 in
    let d : (c : Token) × (s : Tokens) × (closing a.0 b.1 ≡ Done c s) × (Done b.0 s ≡ Done x r) = bound (closing a.0 b.1) (λ c s. Done b.0 s) x r b.3 in
    let o : (i ≡ a.0 ∷ a.1) × (role_at a.0 ≡ role.Open) = opening_form i a.0 a.1 a.2 in
    let c : (b.1 ≡ d.0 ∷ d.1) × Closes a.0 d.0 = closing_form a.0 b.1 d.0 d.1 d.2 in
    let (p, q) = same_done b.0 x d.1 r d.3 in
    (a.0, a.1, d.0, o.0, o.1, subst (λ z. Inner z a.1 (d.0 ∷ r)) p (subst (λ l. Inner b.0 a.1 l) (c.0 ∙ ap (λ l. d.0 ∷ l) q) (formed a.1 b.0 b.1 b.2)), c.1)

between_reads : {T : Type 0} (inner : Tokens → Read T) (x : T) (o : Token) (j : Tokens) (c : Token) (i r : Tokens) → i ≡ o ∷ j → role_at o ≡ role.Open → inner j ≡ Done x (c ∷ r) → Closes o c
    → and_then (opening i) (λ o j. and_then (inner j) (λ y k. and_then (closing o k) (λ c s. Done y s))) ≡ Done x r
between_reads inner x o j c i r is a b d =
    ap (λ l. and_then (opening l) (λ o j. and_then (inner j) (λ y k. and_then (closing o k) (λ c s. Done y s)))) is
    ∙ then_is (opening (o ∷ j)) (λ o j. and_then (inner j) (λ y k. and_then (closing o k) (λ c s. Done y s))) o j (opening_reads o j a)
    ∙ then_is (inner j) (λ y k. and_then (closing o k) (λ c s. Done y s)) x (c ∷ r) b
    ∙ then_is (closing o (c ∷ r)) (λ c s. Done x s) c r (closing_reads o c r d)

arm_form : (i : Tokens) (a : Arm) (r : Tokens) → arm i ≡ Done a r → ArmText a i r
unfolding arm delimited_matcher delimited_transcriber
arm_form i a r h =
    let w : (ms : Matchers) × (j : Tokens) × (delimited_matcher i ≡ Done ms j)
    × (and_then (sign (codes "=>") j) (λ u k. and_then (delimited_transcriber k) (λ ws s. Done (an_arm ms ws) s)) ≡ Done a r)
    = bound (delimited_matcher i) (λ ms j. and_then (sign (codes "=>") j) (λ u k. and_then (delimited_transcriber k) (λ ws s. Done (an_arm ms ws) s))) a r h in
    let v : (u : Unit {0}) × (k : Tokens) × (sign (codes "=>") w.1 ≡ Done u k) × (and_then (delimited_transcriber k) (λ ws s. Done (an_arm w.0 ws) s) ≡ Done a r)
    = bound (sign (codes "=>") w.1) (λ u k. and_then (delimited_transcriber k) (λ ws s. Done (an_arm w.0 ws) s)) a r w.3 in
    let z : (ws : Transcribers) × (s : Tokens) × (delimited_transcriber v.1 ≡ Done ws s) × (Done (an_arm w.0 ws) s ≡ Done a r)
    = bound (delimited_transcriber v.1) (λ ws s. Done (an_arm w.0 ws) s) a r v.3 in
    let m : Between (MatcherText levels w.0) i w.1 = between_form (matcher levels) (MatcherText levels) (matcher_form levels) i w.0 w.1 w.2 in
    let g : (t : Token) × (w.1 ≡ t ∷ v.1) × (is_sign (codes "=>") t ≡ true) = sign_form (codes "=>") w.1 v.0 v.1 v.2 in
    let n : Between (TranscriberText levels z.0) v.1 z.1 = between_form (transcriber levels) (TranscriberText levels) (transcriber_form levels) v.1 z.0 z.1 z.2 in
    let (p, q) = same_done (an_arm w.0 z.0) a z.1 r z.3 in
    let behind : w.1 ≡ g.0 ∷ n.0 ∷ n.1 = g.1 ∙ ap (λ l. g.0 ∷ l) n.3 in
    subst (λ x. ArmText x i r) p (
      m.0,
      m.1,
      m.2,
      g.0,
      n.0,
      n.1,
      n.2,
      m.3,
      m.4,
      subst (λ l. MatcherText levels w.0 m.1 l) (ap (λ l. m.2 ∷ l) behind) m.5,
      m.6,
      g.2,
      n.4,
      subst (λ l. TranscriberText levels z.0 n.1 l) (ap (λ l. n.2 ∷ l) q) n.5,
      n.6,
    )

arm_reads : (a : Arm) (i r : Tokens) → ArmText a i r → arm i ≡ Done a r
unfolding arm delimited_matcher delimited_transcriber
arm_reads a i r h =
    let k : Tokens = h.3 ∷ h.4 ∷ h.5 in
    let one : delimited_matcher i ≡ Done a.matcher k
    = between_reads (matcher levels) a.matcher h.0 h.1 h.2 i k h.7 h.8 (matcher_reads levels a.matcher h.1 (h.2 ∷ k) h.9 (close_ends h.0 h.2 k h.10)) h.10 in
    let two : delimited_transcriber (h.4 ∷ h.5) ≡ Done a.transcriber r
    = between_reads (transcriber levels) a.transcriber h.4 h.5 h.6 (h.4 ∷ h.5) r refl h.12 (transcriber_reads levels a.transcriber h.5 (h.6 ∷ r) h.13 (close_ends h.4 h.6 r h.14)) h.14 in
    then_is (delimited_matcher i) (λ ms j. and_then (sign (codes "=>") j) (λ u k. and_then (delimited_transcriber k) (λ ws s. Done (an_arm ms ws) s))) a.matcher k one
    ∙ then_is (sign (codes "=>") k) (λ u k. and_then (delimited_transcriber k) (λ ws s. Done (an_arm a.matcher ws) s)) tt (h.4 ∷ h.5) (sign_reads (codes "=>") h.3 (h.4 ∷ h.5) h.11)
    ∙ then_is (delimited_transcriber (h.4 ∷ h.5)) (λ ws s. Done (an_arm a.matcher ws) s) a.transcriber r two

arm_shorter : (a : Arm) (i r : Tokens) → ArmText a i r → length r < length i
arm_shorter a i r h =
    let e : length i ≡ suc (length h.1) = ap (λ l. length l) h.7 in
    let m : suc (suc (suc (length h.5))) ≤ length h.1 = text_shorter levels a.matcher h.1 (h.2 ∷ h.3 ∷ h.4 ∷ h.5) h.9 in
    let n : suc (length r) ≤ length h.5 = copy_text_shorter levels a.transcriber h.5 (h.6 ∷ r) h.13 in
    omega (arith, e, m, n)

-- ---- what stands behind an arm

another_form : (i : Tokens) (more : Bool) (s : Tokens) → another i ≡ Done more s
    → ((i ≡ []) × (more ≡ false) × (s ≡ [])) ⊎ ((t : Token) × (i ≡ t ∷ s) × (is_sign (codes ";") t ≡ true) × (more ≡ is_more s))
unfolding another
another_form [] more s h = let (a, b) = same_done false more [] s h in inl (refl, sym a, sym b)
another_form (t ∷ i) more s h =
    let w : (is_sign (codes ";") t ≡ true) × (Done (is_more i) i ≡ Done more s) = only (is_sign (codes ";") t) (Done (is_more i) i) more s h in
    let (a, b) = same_done (is_more i) more i s w.1 in
    inr (t, ap (λ l. t ∷ l) b, w.0, sym a ∙ ap (λ l. is_more l) b)

another_last : (i : Tokens) → Last i → another i ≡ Done false []
unfolding another
another_last [] h = refl
another_last (t ∷ i) h = ap (λ b. if b then Done (is_more i) i else Bad) h.0 ∙ ap (λ l. Done (is_more l) l) h.1

another_more : (t : Token) (i : Tokens) → is_sign (codes ";") t ≡ true → is_more i ≡ true → another (t ∷ i) ≡ Done true i
unfolding another
another_more t i h is = ap (λ b. if b then Done (is_more i) i else Bad) h ∙ ap (λ b. Done b i) is

no_more_is_none : (i : Tokens) → is_more i ≡ false → i ≡ []
no_more_is_none [] h = refl
no_more_is_none (t ∷ i) h = cc

-- ---- all arms

abbrev rest_of : ℕ → Arm → Bool → Tokens → Read (List Arm)
rest_of n a more s = if more then and_then (arms n s) (λ others z. Done (a ∷ others) z) else Done (a ∷ []) s

pub arms_form : (n : ℕ) (i : Tokens) (xs : List Arm) (r : Tokens) → arms n i ≡ Done xs r → RulesText xs i × (r ≡ [])
unfolding arms
arms_form zero i xs r h = cc
arms_form (suc n) i xs r h =
    let w : (a : Arm) × (j : Tokens) × (arm i ≡ Done a j) × (and_then (another j) (λ more s. rest_of n a more s) ≡ Done xs r)
    = bound (arm i) (λ a j. and_then (another j) (λ more s. rest_of n a more s)) xs r h in
    let v : (more : Bool) × (s : Tokens) × (another w.1 ≡ Done more s) × (rest_of n w.0 more s ≡ Done xs r) = bound (another w.1) (λ more s. rest_of n w.0 more s) xs r w.3 in
    step (λ s ys z. arms_form n s ys z) w.0 w.1 (arm_form i w.0 w.1 w.2) v.0 v.1 (another_form w.1 v.0 v.1 v.2) v.3
  where
    last : (j s : Tokens) → ((j ≡ []) × (false ≡ false) × (s ≡ [])) ⊎ ((t : Token) × (j ≡ t ∷ s) × (is_sign (codes ";") t ≡ true) × (false ≡ is_more s)) → Last j × (s ≡ [])
    last j s (inl a) = (subst (λ l. Last l) (sym a.0) tt, a.2)
    last j s (inr a) = let none : s ≡ [] = no_more_is_none s (sym a.3) in (subst (λ l. Last l) (sym a.1) (a.2, none), none)

    joined : (a : Arm) (j s : Tokens) (ys : List Arm) → ArmText a i j → ((j ≡ []) × (true ≡ false) × (s ≡ [])) ⊎ ((t : Token) × (j ≡ t ∷ s) × (is_sign (codes ";") t ≡ true) × (true ≡ is_more s))
        → RulesText ys s → RulesText (a ∷ ys) i
    joined a j s [] f b more = absurd more
    joined a j s (y ∷ ys) f (inl b) more = let e = b.1 in cc
    joined a j s (y ∷ ys) f (inr b) more = (b.0, s, subst (λ l. ArmText a i l) b.1 f, b.2, more)

    step : ((s : Tokens) (ys : List Arm) (z : Tokens) → arms n s ≡ Done ys z → RulesText ys s × (z ≡ [])) → (a : Arm) (j : Tokens) → ArmText a i j → (more : Bool) (s : Tokens)
        → ((j ≡ []) × (more ≡ false) × (s ≡ [])) ⊎ ((t : Token) × (j ≡ t ∷ s) × (is_sign (codes ";") t ≡ true) × (more ≡ is_more s)) → rest_of n a more s ≡ Done xs r
        → RulesText xs i × (r ≡ [])
    step go a j f false s b is =
        let (p, q) = same_done (a ∷ []) xs s r is in
        let l : Last j × (s ≡ []) = last j s b in
        let one : RulesText (a ∷ []) i = (j, f, l.0) in
        (subst (λ ys. RulesText ys i) p one, sym q ∙ l.1)
    step go a j f true s b is =
        let o : (ys : List Arm) × (z : Tokens) × (arms n s ≡ Done ys z) × (Done (a ∷ ys) z ≡ Done xs r) = bound (arms n s) (λ others z. Done (a ∷ others) z) xs r is in
        let g : RulesText o.0 s × (o.1 ≡ []) = go s o.0 o.1 o.2 in
        let (p, q) = same_done (a ∷ o.0) xs o.1 r o.3 in
        (subst (λ ys. RulesText ys i) p (joined a j s o.0 f b g.0), sym q ∙ g.1)

rules_more : (xs : List Arm) (i : Tokens) → RulesText xs i → is_more i ≡ true
rules_more [] i h = absurd h
rules_more (a ∷ []) i h = ap (λ l. is_more l) h.1.7
rules_more (a ∷ b ∷ more) i h = ap (λ l. is_more l) h.2.7

pub arms_reads : (xs : List Arm) (n : ℕ) (i : Tokens) → length i < n → RulesText xs i → arms n i ≡ Done xs []
unfolding arms
arms_reads [] n i fuel h = absurd h
arms_reads (a ∷ xs) zero i fuel h = absurd (omega (arith, fuel))
arms_reads (a ∷ []) (suc n) i fuel h =
    then_is (arm i) (λ a j. and_then (another j) (λ more s. rest_of n a more s)) a h.0 (arm_reads a i h.0 h.1)
    ∙ then_is (another h.0) (λ more s. rest_of n a more s) false [] (another_last h.0 h.2)
arms_reads (a ∷ b ∷ more) (suc n) i fuel h =
    let s : length (h.0 ∷ h.1) < length i = arm_shorter a i (h.0 ∷ h.1) h.2 in
    then_is (arm i) (λ a j. and_then (another j) (λ more s. rest_of n a more s)) a (h.0 ∷ h.1) (arm_reads a i (h.0 ∷ h.1) h.2)
    ∙ then_is (another (h.0 ∷ h.1)) (λ more s. rest_of n a more s) true h.1 (another_more h.0 h.1 h.3 (rules_more (b ∷ more) h.1 h.4))
    ∙ then_is (arms n h.1) (λ others z. Done (a ∷ others) z) (b ∷ more) [] (arms_reads (b ∷ more) n h.1 (omega (arith, fuel, s)) h.4)

-- ---- turns of the loop

pub arms_go : (n : ℕ) (i j s : Tokens) (found new : List Arm) (a : Arm) → arm i ≡ Done a j → another j ≡ Done true s → new ≡ found ++ a ∷ []
    → and_then (arms (suc n) i) (λ y z. Done (found ++ y) z) ≡ and_then (arms n s) (λ y z. Done (new ++ y) z)
unfolding arms
arms_go n i j s found new a is more joined =
    ap (λ o. and_then (and_then o (λ a j. and_then (another j) (λ more s. rest_of n a more s))) (λ y z. Done (found ++ y) z)) is
    ∙ ap (λ o. and_then (and_then o (λ more s. rest_of n a more s)) (λ y z. Done (found ++ y) z)) more
    ∙ regroup found a (arms n s) ∙ ap (λ l. and_then (arms n s) (λ y z. Done (l ++ y) z)) (sym joined)

pub arms_end : (n : ℕ) (i j s : Tokens) (found new : List Arm) (a : Arm) → arm i ≡ Done a j → another j ≡ Done false s → new ≡ found ++ a ∷ []
    → and_then (arms (suc n) i) (λ y z. Done (found ++ y) z) ≡ Done new s
unfolding arms
arms_end n i j s found new a is more joined =
    ap (λ o. and_then (and_then o (λ a j. and_then (another j) (λ more s. rest_of n a more s))) (λ y z. Done (found ++ y) z)) is
    ∙ ap (λ o. and_then (and_then o (λ more s. rest_of n a more s)) (λ y z. Done (found ++ y) z)) more ∙ ap (λ l. Done l s) (sym joined)

pub arms_stop : (n : ℕ) (i new : Tokens) (found : List Arm) (x : RulesError) → Gives (arm i) (Err x) new → Gives (and_then (arms (suc n) i) (λ y z. Done (found ++ y) z)) (Err x) new
unfolding arms
arms_stop n i new found x g =
    stops_at x (and_then (arm i) (λ a j. and_then (another j) (λ more s. rest_of n a more s))) (λ y z. Done (found ++ y) z) new
    (stops_at x (arm i) (λ a j. and_then (another j) (λ more s. rest_of n a more s)) new g)

pub arms_stop_behind : (n : ℕ) (i j new : Tokens) (found : List Arm) (a : Arm) (x : RulesError) → arm i ≡ Done a j → Gives (another j) (Err x) new
    → Gives (and_then (arms (suc n) i) (λ y z. Done (found ++ y) z)) (Err x) new
unfolding arms
arms_stop_behind n i j new found a x is g =
    read_same {A = List Arm} _ _ (Err x) new (ap (λ o. and_then (and_then o (λ a j. and_then (another j) (λ more s. rest_of n a more s))) (λ y z. Done (found ++ y) z)) is)
    (stops_at x (and_then (another j) (λ more s. rest_of n a more s)) (λ y z. Done (found ++ y) z) new (stops_at x (another j) (λ more s. rest_of n a more s) new g))

-- ---- the whole text

pub no_rules : (T : Type 0) (i : Tokens) (x : RulesError) (new : Tokens) → Gives {T = List Arm} (arms (suc (length i)) i) (Err x) new → BadText {T = T} i (Err x)
no_rules T i e.Bad new h = λ xs f. let a : Done xs [] ≡ Bad = sym (arms_reads xs (suc (length i)) i (omega arith) f.0) ∙ h in cc
no_rules T i e.NoMemory new h = tt

pub only_rules : (i : Tokens) (xs ys : List Arm) (new : Tokens) → arms (suc (length i)) i ≡ Done xs new → RulesText ys i → ys ≡ xs
only_rules i xs ys new h f = (same_done ys xs [] new (sym (arms_reads ys (suc (length i)) i (omega arith) f) ∙ h)).0

pub not_sound : (b : Bool) (P : Type 0) → b ≡ false → (IsTrue b ↔ P) → P → ⊥
not_sound b P is t p = let h : IsTrue b = t.1 p in cc
