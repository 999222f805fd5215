-- One turn of the loops that read fragments.
use Rattle.std.proofs.lemmas.List.{append-nil}
use Rattle.std.proofs.Common.{◌≡◌, ℕ, suc, ◌+◌, ◌<◌, Bool, true, false, if◌then◌else◌, List, [], ◌∷◌, ◌++◌, length, drop, get_or, Option, Result, Err, refl, sym, ◌∙◌, ap, subst, append_assoc}
use Rattle.em_base.specs.declared.token.Token.{Token}
use Rattle.em_tree.specs.Starts.{Pieces}
use Rattle.em_macro.specs.declared.error.Stop.{Stop}
use Rattle.em_macro.specs.declared.error.Stop.TheVariants as s
use Rattle.em_macro.specs.declared.rules.Matcher.{Matcher, out-Matcher}
use Rattle.em_macro.specs.declared.matched.Taken.{Taken}
use Rattle.em_macro.specs.Match.{Name, Reading, Matchers, Bindings, continues}
use Rattle.em_macro.specs.Run.{Out, Done, behind, node}
use Rattle.em_macro.specs.Given.{Gives}
use Rattle.em_macro.specs.Reads.{Read, fragments_of, Puts, after, log_copies, log_node, log_all}
use Rattle.em_macro.proofs.Turns.{next_item}

pub puts_any : (T : Type 0) (e : Stop) (xs : List Read) (old new : List Taken) → new ≡ old ++ fragments_of xs → Puts {T = T} xs old (Err e) new
puts_any T s.Fails xs old new is = is
puts_any T s.Broken xs old new is = is
puts_any T s.Depth xs old new is = is
puts_any T s.NoMemory xs old new is = tt

-- as another result of the same fault says
puts_err : (A B : Type 0) (e : Stop) (xs ys : List Read) (old old2 new : List Taken) → Puts {T = A} xs old (Err e) new → old ++ fragments_of xs ≡ old2 ++ fragments_of ys → Puts {T = B} ys old2 (Err e) new
puts_err A B s.Fails xs ys old old2 new h is = h ∙ is
puts_err A B s.Broken xs ys old old2 new h is = h ∙ is
puts_err A B s.Depth xs ys old old2 new h is = h ∙ is
puts_err A B s.NoMemory xs ys old old2 new h is = tt

pub puts_as : {T : Type 0} (xs : List Read) (old new : List Taken) (r : Result T Stop) (e : Stop) → r ≡ Err e → Puts {T = T} xs old (Err e) new → Puts xs old r new
puts_as xs old new r e is h = subst (λ x. Puts xs old x new) (sym is) h

stopped : {A : Type 0} (B : Type 0) (e : Stop) (o : Out A) (f : A → Pieces → List Read) (rest : Pieces) (xs : List Read) (old new : List Taken)
    → Gives {T = A} o (Err e) rest → Puts {T = A} xs old (Err e) new → Puts {T = B} (xs ++ after o f) old (Err e) new
stopped B s.Fails o f rest xs old new g h = h ∙ ap (λ l. old ++ fragments_of l) (sym (append-nil xs) ∙ ap (λ x. xs ++ after x f) (sym g))
stopped B s.Broken o f rest xs old new g h = h ∙ ap (λ l. old ++ fragments_of l) (sym (append-nil xs) ∙ ap (λ x. xs ++ after x f) (sym g))
stopped B s.Depth o f rest xs old new g h = h ∙ ap (λ l. old ++ fragments_of l) (sym (append-nil xs) ∙ ap (λ x. xs ++ after x f) (sym g))
stopped B s.NoMemory o f rest xs old new g h = tt

fragments_append : (xs ys : List Read) → fragments_of (xs ++ ys) ≡ fragments_of xs ++ fragments_of ys
fragments_append [] ys = refl
fragments_append (x ∷ xs) ys = ap (λ l. x.0 ∷ l) (fragments_append xs ys)

-- what is read first, and then the rest
join : (xs ys : List Read) (old new : List Taken) → new ≡ old ++ fragments_of xs → old ++ fragments_of (xs ++ ys) ≡ new ++ fragments_of ys
join xs ys old new is =
    ap (λ l. old ++ l) (fragments_append xs ys) ∙ sym (append_assoc old (fragments_of xs) (fragments_of ys)) ∙ ap (λ l. l ++ fragments_of ys) (sym is)

module _ (reads : Reading) (vars : Matchers → List Name) (starts : Matchers → Pieces → Bool) (inner : Matchers → Pieces → Out Bindings) (log_in : Matchers → Pieces → List Read) where
  pub log_goes : (ms : Matchers) (at : ℕ) (m : Matcher) (i r : Pieces) (x : Bindings) (old new : List Taken) → at < length ms → m ≡ get_or ms at m
      → node reads vars starts inner (out-Matcher m) i ≡ Done x r → new ≡ old ++ fragments_of (log_node reads vars starts inner log_in (out-Matcher m) i)
      → old ++ fragments_of (log_all reads vars starts inner log_in (drop at ms) i) ≡ new ++ fragments_of (log_all reads vars starts inner log_in (drop (at + 1) ms) r)
  unfolding log_all
  log_goes ms at m i r x old new below item is joined =
      ap (λ l. old ++ fragments_of (log_all reads vars starts inner log_in l i)) (next_item ms at m below item)
      ∙ ap (λ o. old ++ fragments_of (log_node reads vars starts inner log_in (out-Matcher m) i ++ after o (λ x r. log_all reads vars starts inner log_in (drop (at + 1) ms) r))) is
      ∙ join (log_node reads vars starts inner log_in (out-Matcher m) i) (log_all reads vars starts inner log_in (drop (at + 1) ms) r) old new joined

  pub log_stops : (B : Type 0) (ms : Matchers) (at : ℕ) (m : Matcher) (i rest : Pieces) (old new : List Taken) (e : Stop) → at < length ms → m ≡ get_or ms at m
      → Gives (node reads vars starts inner (out-Matcher m) i) (Err e) rest → Puts {T = Bindings} (log_node reads vars starts inner log_in (out-Matcher m) i) old (Err e) new
      → Puts {T = B} (log_all reads vars starts inner log_in (drop at ms) i) old (Err e) new
  unfolding log_all
  log_stops B ms at m i rest old new e below item g h =
      subst (λ l. Puts {T = B} (log_all reads vars starts inner log_in l i) old (Err e) new) (sym (next_item ms at m below item))
      (stopped B e (node reads vars starts inner (out-Matcher m) i) (λ x r. log_all reads vars starts inner log_in (drop (at + 1) ms) r) rest
      (log_node reads vars starts inner log_in (out-Matcher m) i) old new g h)

  pub log_ends : (ms : Matchers) (at : ℕ) (i : Pieces) (old : List Taken) → drop at ms ≡ [] → old ++ fragments_of (log_all reads vars starts inner log_in (drop at ms) i) ≡ old
  unfolding log_all
  log_ends ms at i old none = ap (λ l. old ++ fragments_of (log_all reads vars starts inner log_in l i)) none ∙ append-nil old

  pub copy_goes : (n : ℕ) (body : Matchers) (sep : Option Token) (i r z : Pieces) (a : Bindings) (old new : List Taken) → inner body i ≡ Done a r → continues (starts body) sep r ≡ true
      → z ≡ behind sep r → new ≡ old ++ fragments_of (log_in body i)
      → old ++ fragments_of (log_copies reads vars starts inner log_in (suc n) body sep i) ≡ new ++ fragments_of (log_copies reads vars starts inner log_in n body sep z)
  unfolding log_copies
  copy_goes n body sep i r z a old new is go left joined =
      ap (λ o. old ++ fragments_of (log_in body i ++ after o (λ a r. if continues (starts body) sep r then log_copies reads vars starts inner log_in n body sep (behind sep r) else []))) is
      ∙ ap (λ b. old ++ fragments_of (log_in body i ++ (if b then log_copies reads vars starts inner log_in n body sep (behind sep r) else []))) go
      ∙ join (log_in body i) (log_copies reads vars starts inner log_in n body sep (behind sep r)) old new joined
      ∙ ap (λ l. new ++ fragments_of (log_copies reads vars starts inner log_in n body sep l)) (sym left)

  pub copy_ends : (n : ℕ) (body : Matchers) (sep : Option Token) (i r : Pieces) (a : Bindings) (old new : List Taken) → inner body i ≡ Done a r → continues (starts body) sep r ≡ false
      → new ≡ old ++ fragments_of (log_in body i) → old ++ fragments_of (log_copies reads vars starts inner log_in (suc n) body sep i) ≡ new
  unfolding log_copies
  copy_ends n body sep i r a old new is go joined =
      ap (λ o. old ++ fragments_of (log_in body i ++ after o (λ a r. if continues (starts body) sep r then log_copies reads vars starts inner log_in n body sep (behind sep r) else []))) is
      ∙ ap (λ b. old ++ fragments_of (log_in body i ++ (if b then log_copies reads vars starts inner log_in n body sep (behind sep r) else []))) go
      ∙ join (log_in body i) [] old new joined ∙ append-nil new

  pub copy_stops : (B : Type 0) (n : ℕ) (body : Matchers) (sep : Option Token) (i rest : Pieces) (old new : List Taken) (e : Stop) → Gives (inner body i) (Err e) rest
      → Puts {T = Bindings} (log_in body i) old (Err e) new → Puts {T = B} (log_copies reads vars starts inner log_in (suc n) body sep i) old (Err e) new
  unfolding log_copies
  copy_stops B n body sep i rest old new e g h =
      stopped B e (inner body i) (λ a r. if continues (starts body) sep r then log_copies reads vars starts inner log_in n body sep (behind sep r) else []) rest (log_in body i) old new g h

  pub copy_none : (body : Matchers) (sep : Option Token) (i : Pieces) (old : List Taken) → old ++ fragments_of (log_copies reads vars starts inner log_in 0 body sep i) ≡ old
  unfolding log_copies
  copy_none body sep i old = append-nil old

-- what stood before was moved to what stands now
pub puts_moved : (T : Type 0) (e : Stop) (xs ys : List Read) (old old2 new : List Taken) → old ++ fragments_of xs ≡ old2 ++ fragments_of ys → Puts {T = T} ys old2 (Err e) new → Puts {T = T} xs old (Err e) new
puts_moved T e xs ys old old2 new is h = puts_err T T e ys xs old2 old new h (sym is)
