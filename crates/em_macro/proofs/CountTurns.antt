-- One turn of the loops that count what a transcriber writes.
use Rattle.std.proofs.Common.{◌≡◌, ℕ, suc, ◌+◌, ◌-◌, ◌<◌, ◌≤◌, List, [], length, map, get_or, drop, Option, Some, Result, Err, sym, ◌∙◌, ap, subst, arith}
use Rattle.em_base.specs.declared.token.Token.{Token}
use Rattle.em_macro.specs.declared.rules.Transcriber.{Transcriber, out-Transcriber}
use Rattle.em_macro.specs.declared.error.CopyError.{CopyError}
use Rattle.em_macro.specs.declared.error.CopyError.TheVariants as ce
use Rattle.em_macro.specs.Match.{Name, Bindings}
use Rattle.em_macro.specs.Write.{Transcribers, nth}
use Rattle.em_macro.specs.Measure.{plus, bind, count_between, count_copies, count_node, count_all, Counts}
use Rattle.em_macro.proofs.Turns.{next_item}

count_stop : (e : CopyError) (o : Option ℕ) (f : ℕ → Option ℕ) → Counts o (Err e) → Counts (bind o f) (Err e)
count_stop ce.Lengths o f is = ap (λ x. bind x f) is
count_stop ce.NoMemory o f is = tt

pub counts_by : (o x : Option ℕ) (r : Result ℕ CopyError) (e : CopyError) → o ≡ x → r ≡ Err e → Counts x (Err e) → Counts o r
counts_by o x r e is was h = subst (λ y. Counts y r) (sym is) (subst (λ y. Counts x y) (sym was) h)

module _ (used : Transcribers → List Name) (inner : Transcribers → Bindings → ℕ → Option ℕ) where
  pub count_goes : (ws : Transcribers) (at : ℕ) (w : Transcriber) (env : Bindings) (old new : ℕ) → at < length ws → w ≡ get_or ws at w
      → count_node used inner (out-Transcriber w) env old ≡ Some new → count_all used inner (drop at ws) env old ≡ count_all used inner (drop (at + 1) ws) env new
  unfolding count_all
  count_goes ws at w env old new below item is =
      ap (λ l. count_all used inner l env old) (next_item ws at w below item) ∙ ap (λ o. bind o (λ z. count_all used inner (drop (at + 1) ws) env z)) is

  pub count_stops : (ws : Transcribers) (at : ℕ) (w : Transcriber) (env : Bindings) (old : ℕ) (e : CopyError) → at < length ws → w ≡ get_or ws at w
      → Counts (count_node used inner (out-Transcriber w) env old) (Err e) → Counts (count_all used inner (drop at ws) env old) (Err e)
  unfolding count_all
  count_stops ws at w env old e below item h =
      subst (λ l. Counts (count_all used inner l env old) (Err e)) (sym (next_item ws at w below item))
      (count_stop e (count_node used inner (out-Transcriber w) env old) (λ z. count_all used inner (drop (at + 1) ws) env z) h)

  pub count_ends : (ws : Transcribers) (at : ℕ) (env : Bindings) (old : ℕ) → drop at ws ≡ [] → count_all used inner (drop at ws) env old ≡ Some old
  unfolding count_all
  count_ends ws at env old none = ap (λ l. count_all used inner l env old) none

  pub copies_go : (n k : ℕ) (body : Transcribers) (sep : Option Token) (env copy : Bindings) (old mid new : ℕ) → k < n → mid ≡ plus old (count_between k sep) → copy ≡ map (nth k) env
      → inner body copy mid ≡ Some new → count_copies used inner (n - k) k body sep env old ≡ count_copies used inner (n - (k + 1)) (k + 1) body sep env new
  unfolding count_copies
  copies_go n k body sep env copy old mid new below joined each is =
      let turn : n - k ≡ suc (n - (k + 1)) = omega arith in
      ap (λ m. count_copies used inner m k body sep env old) turn
      ∙ ap (λ l. bind (inner body (map (nth k) env) l) (λ z. count_copies used inner (n - (k + 1)) (k + 1) body sep env z)) (sym joined)
      ∙ ap (λ l. bind (inner body l mid) (λ z. count_copies used inner (n - (k + 1)) (k + 1) body sep env z)) (sym each)
      ∙ ap (λ o. bind o (λ z. count_copies used inner (n - (k + 1)) (k + 1) body sep env z)) is

  pub copies_stop : (n k : ℕ) (body : Transcribers) (sep : Option Token) (env copy : Bindings) (old mid : ℕ) (e : CopyError) → k < n → mid ≡ plus old (count_between k sep)
      → copy ≡ map (nth k) env → Counts (inner body copy mid) (Err e) → Counts (count_copies used inner (n - k) k body sep env old) (Err e)
  unfolding count_copies
  copies_stop n k body sep env copy old mid e below joined each h =
      let turn : n - k ≡ suc (n - (k + 1)) = omega arith in
      subst (λ m. Counts (count_copies used inner m k body sep env old) (Err e)) (sym turn)
      (subst (λ l. Counts (bind (inner body (map (nth k) env) l) (λ z. count_copies used inner (n - (k + 1)) (k + 1) body sep env z)) (Err e)) joined
      (subst (λ l. Counts (bind (inner body l mid) (λ z. count_copies used inner (n - (k + 1)) (k + 1) body sep env z)) (Err e)) each
      (count_stop e (inner body copy mid) (λ z. count_copies used inner (n - (k + 1)) (k + 1) body sep env z) h)))

  pub copies_end : (n k : ℕ) (body : Transcribers) (sep : Option Token) (env : Bindings) (old : ℕ) → n ≤ k → count_copies used inner (n - k) k body sep env old ≡ Some old
  unfolding count_copies
  copies_end n k body sep env old done = let none : n - k ≡ 0 = omega arith in ap (λ m. count_copies used inner m k body sep env old) none
