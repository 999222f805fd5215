-- One turn of what goes on with an expression.
use Rattle.std.proofs.Common.{◌≡◌, ℕ, suc, ◌-◌, ◌+◌, ◌<◌, ◌≤◌, ◌∙◌, Bool, true, false, if◌then◌else◌, Option, Some, None, Result, Err, refl, sym, ap, subst, arith}
use Rattle.em_tree.specs.declared.expr.Expr.{Expr}
use Rattle.em_tree.specs.Starts.{Pieces}
use Rattle.em_grammar.specs.Sets.{Set, next}
use Rattle.em_grammar.specs.Reader.{Read, Found, Absent, Deep, and_then, or_stay}
use Rattle.em_grammar.specs.Levels.{climb}
use Rattle.em_grammar.specs.ExprReader as spec
use Rattle.em_read.specs.declared.stop.Stop.{Stop}
use Rattle.em_read.specs.declared.stop.Stop.TheVariants as stop
use Rattle.em_read.specs.Parse.{Reads}
use Rattle.em_read.specs.Gives.{Gives}
use Rattle.em_read_nodes.specs.Turns.{suffix_if, suffix_if_as}

module _ (on : Expr → Set) (suffix : Pieces → Read spec.Suffix) where
  -- what a turn goes on with
  abbrev pub turned : ℕ → Expr → Option spec.Suffix → Pieces → Read Expr
  turned n left None r = Found left r
  turned n left (Some s) r = climb on suffix spec.apply n (spec.apply left s) r

  by_suffix : (b : Bool) (n : ℕ) (left : Expr) (i : Pieces) (x : Read spec.Suffix)
      → (if b then or_stay x (λ s r. climb on suffix spec.apply n (spec.apply left s) r) (Found left i) else Found left i)
      ≡ and_then (if b then or_stay x (λ s r. Found (Some s) r) (Found None i) else Found None i) (λ s r. turned n left s r)
  by_suffix false n left i x = refl
  by_suffix true n left i (Found s r) = refl
  by_suffix true n left i Absent = refl
  by_suffix true n left i Deep = refl

  turn_at : (n : ℕ) (left : Expr) (i : Pieces) → climb on suffix spec.apply (suc n) left i ≡ and_then (suffix_if (on left) suffix i) (λ s r. turned n left s r)
  unfolding climb
  turn_at n left i = by_suffix (next (on left) i) n left i (suffix i)

  -- the turn after `at` others reads what `found` says
  one_turn : (x : Read Expr) (turns at : ℕ) (left : Expr) (i : Pieces) (found : Read (Option spec.Suffix)) → at < turns
      → x ≡ climb on suffix spec.apply (turns - at) left i → suffix_if (on left) suffix i ≡ found
      → x ≡ and_then found (λ s r. turned (turns - (at + 1)) left s r)
  one_turn x turns at left i found below is reads =
      let more : turns - at ≡ suc (turns - (at + 1)) = omega arith in
      is ∙ ap (λ n. climb on suffix spec.apply n left i) more ∙ turn_at (turns - (at + 1)) left i
      ∙ ap (λ f. and_then f (λ s r. turned (turns - (at + 1)) left s r)) reads

  last_turn : (x : Read Expr) (turns at : ℕ) (left : Expr) (i : Pieces) → turns ≤ at
      → x ≡ climb on suffix spec.apply (turns - at) left i → x ≡ (if next (on left) i then Deep else Found left i)
  unfolding climb
  last_turn x turns at left i done is =
      let spent : turns - at ≡ 0 = omega arith in
      is ∙ ap (λ n. climb on suffix spec.apply n left i) spent

  by_stop : (x : Read Expr) (turns at : ℕ) (left : Expr) (i new out : Pieces) (e : Stop) → at < turns → x ≡ climb on suffix spec.apply (turns - at) left i
      → Gives suffix_if_as (suffix_if (on left) suffix i) (Err e) new → Reads x (Err e) out
  by_stop x turns at left i new out stop.Absent below is reads = one_turn x turns at left i Absent below is reads
  by_stop x turns at left i new out stop.Deep below is reads = one_turn x turns at left i Deep below is reads
  by_stop x turns at left i new out stop.NoMemory below is reads = tt

  -- what goes on with it wasn't read
  pub turn_fails : (x : Read Expr) (turns at : ℕ) (left same : Expr) (i new out : Pieces) (e : Stop) (r : Result Expr Stop) → at < turns
      → x ≡ climb on suffix spec.apply (turns - at) left i → Gives suffix_if_as (suffix_if (on same) suffix i) (Err e) new → same ≡ left → r ≡ Err e → Reads x r out
  turn_fails x turns at left same i new out e r below is reads alike fails =
      subst (λ (q : Result Expr Stop). Reads x q out) (sym fails)
      (by_stop x turns at left i new out e below is (subst (λ l. Gives suffix_if_as (suffix_if (on l) suffix i) (Err e) new) alike reads))

  at_left : (left same : Expr) (i : Pieces) (found : Read (Option spec.Suffix)) → suffix_if (on same) suffix i ≡ found → same ≡ left → suffix_if (on left) suffix i ≡ found
  at_left left same i found reads alike = ap (λ l. suffix_if (on l) suffix i) (sym alike) ∙ reads

  -- nothing goes on with it
  pub turn_ends : (x : Read Expr) (turns at : ℕ) (left same : Expr) (i new : Pieces) → at < turns → x ≡ climb on suffix spec.apply (turns - at) left i
      → suffix_if (on same) suffix i ≡ Found None new → same ≡ left → x ≡ Found left new
  turn_ends x turns at left same i new below is reads alike = one_turn x turns at left i (Found None new) below is (at_left left same i (Found None new) reads alike)

  -- it goes on
  pub turn_goes : (x : Read Expr) (turns at : ℕ) (left same grown : Expr) (s : spec.Suffix) (i new : Pieces) → at < turns → x ≡ climb on suffix spec.apply (turns - at) left i
      → suffix_if (on same) suffix i ≡ Found (Some s) new → same ≡ left → grown ≡ spec.apply left s → x ≡ climb on suffix spec.apply (turns - (at + 1)) grown new
  turn_goes x turns at left same grown s i new below is reads alike made =
      one_turn x turns at left i (Found (Some s) new) below is (at_left left same i (Found (Some s) new) reads alike)
      ∙ ap (λ l. climb on suffix spec.apply (turns - (at + 1)) l new) (sym made)

  -- no turn is left
  pub too_deep : (x : Read Expr) (turns at : ℕ) (left : Expr) (i : Pieces) → turns ≤ at → x ≡ climb on suffix spec.apply (turns - at) left i
      → next (on left) i ≡ true → x ≡ Deep
  too_deep x turns at left i done is more = last_turn x turns at left i done is ∙ ap (λ b. if b then Deep else Found left i) more

  pub all_read : (x : Read Expr) (turns at : ℕ) (left : Expr) (i : Pieces) → turns ≤ at → x ≡ climb on suffix spec.apply (turns - at) left i
      → next (on left) i ≡ false → x ≡ Found left i
  all_read x turns at left i done is more = last_turn x turns at left i done is ∙ ap (λ b. if b then Deep else Found left i) more
