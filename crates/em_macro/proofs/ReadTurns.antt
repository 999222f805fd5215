-- One turn of the loops that read.
use Rattle.std.proofs.lemmas.List.{append-nil}
use Rattle.std.proofs.Common.{◌≡◌, ℕ, suc, true, false, if◌then◌else◌, List, [], ◌∷◌, ◌++◌, Result, Err, refl, sym, ◌∙◌, ap, subst, append_assoc}
use Rattle.em_macro.specs.declared.error.RulesError.{RulesError}
use Rattle.em_macro.specs.declared.error.RulesError.TheVariants as s
use Rattle.em_macro.specs.declared.rules.Matcher.{Matcher}
use Rattle.em_macro.specs.declared.rules.Transcriber.{Transcriber}
use Rattle.em_macro.specs.Match.{Matchers}
use Rattle.em_macro.specs.Write.{Transcribers}
use Rattle.em_macro.specs.Form.{Tokens}
use Rattle.em_macro.specs.Steps.{Read, Done, Bad, and_then, Gives, at_close, part, parts, copy, copies}

pub stops_at : {A B : Type 0} (e : RulesError) (o : Read A) (f : A → Tokens → Read B) (new : Tokens) → Gives {T = A} o (Err e) new → Gives {T = B} (and_then o f) (Err e) new
stops_at s.Bad o f new is = ap (λ x. and_then x f) is
stops_at s.NoMemory o f new is = tt

pub read_same : {A : Type 0} (o p : Read A) (r : Result A RulesError) (new : Tokens) → o ≡ p → Gives p r new → Gives o r new
read_same o p r new is h = subst (λ x. Gives x r new) (sym is) h

pub read_by : {A : Type 0} (o p : Read A) (r : Result A RulesError) (e : RulesError) (new : Tokens) → o ≡ p → r ≡ Err e → Gives p (Err e) new → Gives o r new
read_by o p r e new is was h = read_same o p r new is (subst (λ x. Gives p x new) (sym was) h)

pub regroup : {T : Type 0} (found : List T) (x : T) (o : Read (List T))
    → and_then (and_then o (λ y s. Done (x ∷ y) s)) (λ y s. Done (found ++ y) s) ≡ and_then o (λ y s. Done ((found ++ x ∷ []) ++ y) s)
regroup found x (Done y s) = ap (λ l. Done l s) (sym (append_assoc found (x ∷ []) y))
regroup found x Bad = refl

module _ (inner : Tokens → Read Matchers) where
  pub parts_go : (n : ℕ) (i r : Tokens) (found new : Matchers) (x : Matcher) → at_close i ≡ false → part inner i ≡ Done x r → new ≡ found ++ x ∷ []
      → and_then (parts inner (suc n) i) (λ y s. Done (found ++ y) s) ≡ and_then (parts inner n r) (λ y s. Done (new ++ y) s)
  unfolding parts
  parts_go n i r found new x opened is joined =
      ap (λ b. and_then (if b then Done [] i else and_then (part inner i) (λ x r. and_then (parts inner n r) (λ xs s. Done (x ∷ xs) s))) (λ y s. Done (found ++ y) s)) opened
      ∙ ap (λ o. and_then (and_then o (λ x r. and_then (parts inner n r) (λ xs s. Done (x ∷ xs) s))) (λ y s. Done (found ++ y) s)) is
      ∙ regroup found x (parts inner n r) ∙ ap (λ l. and_then (parts inner n r) (λ y s. Done (l ++ y) s)) (sym joined)

  pub parts_stop : (n : ℕ) (i new : Tokens) (found : Matchers) (e : RulesError) → at_close i ≡ false → Gives (part inner i) (Err e) new
      → Gives (and_then (parts inner (suc n) i) (λ y s. Done (found ++ y) s)) (Err e) new
  unfolding parts
  parts_stop n i new found e opened g =
      read_same {A = Matchers} _ _ (Err e) new
      (ap (λ b. and_then (if b then Done [] i else and_then (part inner i) (λ x r. and_then (parts inner n r) (λ xs s. Done (x ∷ xs) s))) (λ y s. Done (found ++ y) s)) opened)
      (stops_at e (and_then (part inner i) (λ x r. and_then (parts inner n r) (λ xs s. Done (x ∷ xs) s))) (λ y s. Done (found ++ y) s) new
      (stops_at e (part inner i) (λ x r. and_then (parts inner n r) (λ xs s. Done (x ∷ xs) s)) new g))

  pub parts_end : (n : ℕ) (i : Tokens) (found : Matchers) → at_close i ≡ true → and_then (parts inner (suc n) i) (λ y s. Done (found ++ y) s) ≡ Done found i
  unfolding parts
  parts_end n i found close =
      ap (λ b. and_then (if b then Done [] i else and_then (part inner i) (λ x r. and_then (parts inner n r) (λ xs s. Done (x ∷ xs) s))) (λ y s. Done (found ++ y) s)) close
      ∙ ap (λ l. Done l i) (append-nil found)

module _ (inner : Tokens → Read Transcribers) where
  pub copies_go : (n : ℕ) (i r : Tokens) (found new : Transcribers) (x : Transcriber) → at_close i ≡ false → copy inner i ≡ Done x r → new ≡ found ++ x ∷ []
      → and_then (copies inner (suc n) i) (λ y s. Done (found ++ y) s) ≡ and_then (copies inner n r) (λ y s. Done (new ++ y) s)
  unfolding copies
  copies_go n i r found new x opened is joined =
      ap (λ b. and_then (if b then Done [] i else and_then (copy inner i) (λ x r. and_then (copies inner n r) (λ xs s. Done (x ∷ xs) s))) (λ y s. Done (found ++ y) s)) opened
      ∙ ap (λ o. and_then (and_then o (λ x r. and_then (copies inner n r) (λ xs s. Done (x ∷ xs) s))) (λ y s. Done (found ++ y) s)) is
      ∙ regroup found x (copies inner n r) ∙ ap (λ l. and_then (copies inner n r) (λ y s. Done (l ++ y) s)) (sym joined)

  pub copies_stop : (n : ℕ) (i new : Tokens) (found : Transcribers) (e : RulesError) → at_close i ≡ false → Gives (copy inner i) (Err e) new
      → Gives (and_then (copies inner (suc n) i) (λ y s. Done (found ++ y) s)) (Err e) new
  unfolding copies
  copies_stop n i new found e opened g =
      read_same {A = Transcribers} _ _ (Err e) new
      (ap (λ b. and_then (if b then Done [] i else and_then (copy inner i) (λ x r. and_then (copies inner n r) (λ xs s. Done (x ∷ xs) s))) (λ y s. Done (found ++ y) s)) opened)
      (stops_at e (and_then (copy inner i) (λ x r. and_then (copies inner n r) (λ xs s. Done (x ∷ xs) s))) (λ y s. Done (found ++ y) s) new
      (stops_at e (copy inner i) (λ x r. and_then (copies inner n r) (λ xs s. Done (x ∷ xs) s)) new g))

  pub copies_end : (n : ℕ) (i : Tokens) (found : Transcribers) → at_close i ≡ true → and_then (copies inner (suc n) i) (λ y s. Done (found ++ y) s) ≡ Done found i
  unfolding copies
  copies_end n i found close =
      ap (λ b. and_then (if b then Done [] i else and_then (copy inner i) (λ x r. and_then (copies inner n r) (λ xs s. Done (x ∷ xs) s))) (λ y s. Done (found ++ y) s)) close
      ∙ ap (λ l. Done l i) (append-nil found)
