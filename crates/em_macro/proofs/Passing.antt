-- One turn of the loops of the pass.
use Rattle.std.proofs.lemmas.List.{append-nil}
use Rattle.std.proofs.Common.{◌≡◌, ℕ, suc, ◌+◌, ◌≤◌, ◌<◌, Bool, true, false, not, if◌then◌else◌, List, [], ◌∷◌, ◌++◌, length, Option, refl, sym, ◌∙◌, ap, Result, Err, get_or, drop, subst, append_assoc, arith}
use Rattle.em_macro.specs.declared.rules.Specifier.{Specifier}
use Rattle.em_base.specs.declared.token.Token.{Token}
use Rattle.em_macro.specs.declared.rules.Matcher.{Matcher, out-Matcher}
use Rattle.em_base.specs.declared.edition.Edition.{Edition}
use Rattle.em_tree.specs.declared.piece.FragmentKind.{FragmentKind}
use Rattle.em_tree.specs.Starts.{Pieces, starts}
use Rattle.em_macro.proofs.Fronts.{is_within}
use Rattle.em_macro.specs.Match.{Name, Reading, Matchers, Bindings, Outcome, Takes, CannotStart, NoPrefix, TooDeep, continues, Starting, cannot_start}
use Rattle.em_macro.specs.Run.{Out, Done, Fails, Breaks, Deep, and_then, fragment, behind, copies, node, all}
use Rattle.em_macro.specs.declared.error.Stop.{Stop}
use Rattle.em_macro.specs.declared.error.Stop.TheVariants as s
use Rattle.em_macro.specs.Given.{Gives}
use Rattle.em_macro.proofs.Turns.{next_item}

pub is_there : (kind : FragmentKind) (e : Edition) (ps : Pieces) (at : ℕ) → starts kind e (drop at ps) ≡ true → at ≤ length ps
unfolding starts
is_there kind e ps at h = omega (arith, is_within ps at (λ none. clash (sym h ∙ ap (λ i. starts kind e i) none)))
  where
    clash : ◌≡◌ {A = Bool} true false → ⊥
    clash is = cc

pub no_start : (reads : Reading) → Starting reads → (kind : Specifier) (n : Name) (i : Pieces) → starts kind.kind kind.edition i ≡ false → fragment n (reads kind i) ≡ Fails
no_start reads starting kind n i h = go (reads kind i) (sym (starting kind i) ∙ h)
  where
    go : (o : Outcome) → not (cannot_start o) ≡ false → fragment n o ≡ Fails
    go (Takes f r) is = cc
    go CannotStart is = refl
    go NoPrefix is = cc
    go TooDeep is = cc

pub gives_stop : {A B : Type 0} (e : Stop) (o : Out A) (f : A → Pieces → Out B) (new : Pieces) → Gives {T = A} o (Err e) new → Gives {T = B} (and_then o f) (Err e) new
gives_stop s.Fails o f new is = ap (λ x. and_then x f) is
gives_stop s.Broken o f new is = ap (λ x. and_then x f) is
gives_stop s.Depth o f new is = ap (λ x. and_then x f) is
gives_stop s.NoMemory o f new is = tt

pub gives_same : {A : Type 0} (o p : Out A) (r : Result A Stop) (new : Pieces) → o ≡ p → Gives p r new → Gives o r new
gives_same o p r new is h = subst (λ x. Gives x r new) (sym is) h

pub gives_by : {A : Type 0} (o p : Out A) (r : Result A Stop) (e : Stop) (new : Pieces) → o ≡ p → r ≡ Err e → Gives p (Err e) new → Gives o r new
gives_by o p r e new is was h = gives_same o p r new is (subst (λ x. Gives p x new) (sym was) h)

regroup : (found x : Bindings) (o : Out Bindings)
    → and_then (and_then o (λ y s. Done (x ++ y) s)) (λ y s. Done (found ++ y) s) ≡ and_then o (λ y s. Done ((found ++ x) ++ y) s)
regroup found x (Done y s) = ap (λ l. Done l s) (sym (append_assoc found x y))
regroup found x Fails = refl
regroup found x Breaks = refl
regroup found x Deep = refl

pub begins : (o : Out Bindings) (found : Bindings) → found ≡ [] → o ≡ and_then o (λ y s. Done (found ++ y) s)
begins o found none = go o ∙ ap (λ l. and_then o (λ y s. Done (l ++ y) s)) (sym none)
  where
    go : (o : Out Bindings) → o ≡ and_then o (λ y s. Done ([] ++ y) s)
    go (Done y s) = refl
    go Fails = refl
    go Breaks = refl
    go Deep = refl

module _ (reads : Reading) (vars : Matchers → List Name) (starts : Matchers → Pieces → Bool) (inner : Matchers → Pieces → Out Bindings) where
  pub all_goes : (ms : Matchers) (at : ℕ) (m : Matcher) (i r : Pieces) (found x new : Bindings) → at < length ms → m ≡ get_or ms at m
      → node reads vars starts inner (out-Matcher m) i ≡ Done x r → new ≡ found ++ x
      → and_then (all reads vars starts inner (drop at ms) i) (λ y s. Done (found ++ y) s) ≡ and_then (all reads vars starts inner (drop (at + 1) ms) r) (λ y s. Done (new ++ y) s)
  unfolding all
  all_goes ms at m i r found x new below item is joined =
      ap (λ l. and_then (all reads vars starts inner l i) (λ y s. Done (found ++ y) s)) (next_item ms at m below item)
      ∙ ap (λ o. and_then (and_then o (λ x r. and_then (all reads vars starts inner (drop (at + 1) ms) r) (λ y s. Done (x ++ y) s))) (λ y s. Done (found ++ y) s)) is
      ∙ regroup found x (all reads vars starts inner (drop (at + 1) ms) r)
      ∙ ap (λ l. and_then (all reads vars starts inner (drop (at + 1) ms) r) (λ y s. Done (l ++ y) s)) (sym joined)

  pub all_stops : (ms : Matchers) (at : ℕ) (m : Matcher) (i new : Pieces) (found : Bindings) (e : Stop) → at < length ms → m ≡ get_or ms at m
      → Gives (node reads vars starts inner (out-Matcher m) i) (Err e) new → Gives (and_then (all reads vars starts inner (drop at ms) i) (λ y s. Done (found ++ y) s)) (Err e) new
  unfolding all
  all_stops ms at m i new found e below item g =
      gives_same {A = Bindings} _ _ (Err e) new (ap (λ l. and_then (all reads vars starts inner l i) (λ y s. Done (found ++ y) s)) (next_item ms at m below item))
      (gives_stop e (and_then (node reads vars starts inner (out-Matcher m) i) (λ x r. and_then (all reads vars starts inner (drop (at + 1) ms) r) (λ y s. Done (x ++ y) s))) (λ y s. Done (found ++ y) s) new
      (gives_stop e (node reads vars starts inner (out-Matcher m) i) (λ x r. and_then (all reads vars starts inner (drop (at + 1) ms) r) (λ y s. Done (x ++ y) s)) new g))

  pub all_ends : (ms : Matchers) (at : ℕ) (i : Pieces) (found : Bindings) → drop at ms ≡ [] → and_then (all reads vars starts inner (drop at ms) i) (λ y s. Done (found ++ y) s) ≡ Done found i
  unfolding all
  all_ends ms at i found none = ap (λ l. and_then (all reads vars starts inner l i) (λ y s. Done (found ++ y) s)) none ∙ ap (λ l. Done l i) (append-nil found)

  pub copies_stop : (n : ℕ) (body : Matchers) (sep : Option Token) (found : List Bindings) (i new : Pieces) (e : Stop) → Gives (inner body i) (Err e) new
      → Gives (copies reads vars starts inner (suc n) body sep found i) (Err e) new
  unfolding copies
  copies_stop n body sep found i new e g =
      gives_stop e (inner body i) (λ a r. if continues (starts body) sep r then copies reads vars starts inner n body sep (found ++ a ∷ []) (behind sep r) else Done (found ++ a ∷ []) r) new g
