-- One turn of the loops that copy a transcriber.
use Rattle.std.proofs.Common.{◌≡◌, ℕ, suc, ◌+◌, ◌-◌, ◌<◌, ◌≤◌, List, [], ◌++◌, length, map, get_or, drop, Option, Some, Result, Err, sym, ◌∙◌, ap, subst, arith}
use Rattle.em_base.specs.declared.token.Token.{Token}
use Rattle.em_macro.specs.declared.rules.Transcriber.{Transcriber, out-Transcriber}
use Rattle.em_macro.specs.declared.error.CopyError.{CopyError}
use Rattle.em_macro.specs.declared.error.CopyError.TheVariants as ce
use Rattle.em_tree.specs.Starts.{Pieces}
use Rattle.em_macro.specs.Match.{Name, Bindings}
use Rattle.em_base.specs.declared.place.Mark.{Mark}
use Rattle.em_macro.specs.Write.{Transcribers, bind, nth, between, copies, write_node, write_all, Writes}
use Rattle.em_macro.proofs.Turns.{next_item}

pub bind_stop : (e : CopyError) (o : Option Pieces) (f : Pieces → Option Pieces) (new : Pieces) → Writes o (Err e) new → Writes (bind o f) (Err e) new
bind_stop ce.Lengths o f new is = ap (λ x. bind x f) is
bind_stop ce.NoMemory o f new is = tt

pub writes_by : (o x : Option Pieces) (r : Result (Unit {0}) CopyError) (e : CopyError) (new : Pieces) → o ≡ x → r ≡ Err e → Writes x (Err e) new → Writes o r new
writes_by o x r e new is was h = subst (λ y. Writes y r new) (sym is) (subst (λ y. Writes x y new) (sym was) h)

module _ (mark : Mark) (used : Transcribers → List Name) (inner : Transcribers → Bindings → Pieces → Option Pieces) where
  pub write_goes : (ws : Transcribers) (at : ℕ) (w : Transcriber) (env : Bindings) (old new : Pieces) → at < length ws → w ≡ get_or ws at w
      → write_node mark used inner (out-Transcriber w) env old ≡ Some new → write_all mark used inner (drop at ws) env old ≡ write_all mark used inner (drop (at + 1) ws) env new
  unfolding write_all
  write_goes ws at w env old new below item is =
      ap (λ l. write_all mark used inner l env old) (next_item ws at w below item) ∙ ap (λ o. bind o (λ new. write_all mark used inner (drop (at + 1) ws) env new)) is

  pub write_stops : (ws : Transcribers) (at : ℕ) (w : Transcriber) (env : Bindings) (old new : Pieces) (e : CopyError) → at < length ws → w ≡ get_or ws at w
      → Writes (write_node mark used inner (out-Transcriber w) env old) (Err e) new → Writes (write_all mark used inner (drop at ws) env old) (Err e) new
  unfolding write_all
  write_stops ws at w env old new e below item h =
      subst (λ l. Writes (write_all mark used inner l env old) (Err e) new) (sym (next_item ws at w below item))
      (bind_stop e (write_node mark used inner (out-Transcriber w) env old) (λ new. write_all mark used inner (drop (at + 1) ws) env new) new h)

  pub write_ends : (ws : Transcribers) (at : ℕ) (env : Bindings) (old : Pieces) → drop at ws ≡ [] → write_all mark used inner (drop at ws) env old ≡ Some old
  unfolding write_all
  write_ends ws at env old none = ap (λ l. write_all mark used inner l env old) none

  pub copy_goes : (n k : ℕ) (body : Transcribers) (sep : Option Token) (env copy : Bindings) (old mid new : Pieces) → k < n → mid ≡ old ++ between mark k sep → copy ≡ map (nth k) env
      → inner body copy mid ≡ Some new → copies mark used inner (n - k) k body sep env old ≡ copies mark used inner (n - (k + 1)) (k + 1) body sep env new
  unfolding copies
  copy_goes n k body sep env copy old mid new below joined each is =
      let turn : n - k ≡ suc (n - (k + 1)) = omega arith in
      ap (λ m. copies mark used inner m k body sep env old) turn
      ∙ ap (λ l. bind (inner body (map (nth k) env) l) (λ new. copies mark used inner (n - (k + 1)) (k + 1) body sep env new)) (sym joined)
      ∙ ap (λ l. bind (inner body l mid) (λ new. copies mark used inner (n - (k + 1)) (k + 1) body sep env new)) (sym each)
      ∙ ap (λ o. bind o (λ new. copies mark used inner (n - (k + 1)) (k + 1) body sep env new)) is

  pub copy_stops : (n k : ℕ) (body : Transcribers) (sep : Option Token) (env copy : Bindings) (old mid new : Pieces) (e : CopyError) → k < n → mid ≡ old ++ between mark k sep
      → copy ≡ map (nth k) env → Writes (inner body copy mid) (Err e) new → Writes (copies mark used inner (n - k) k body sep env old) (Err e) new
  unfolding copies
  copy_stops n k body sep env copy old mid new e below joined each h =
      let turn : n - k ≡ suc (n - (k + 1)) = omega arith in
      subst (λ m. Writes (copies mark used inner m k body sep env old) (Err e) new) (sym turn)
      (subst (λ l. Writes (bind (inner body (map (nth k) env) l) (λ new. copies mark used inner (n - (k + 1)) (k + 1) body sep env new)) (Err e) new) joined
      (subst (λ l. Writes (bind (inner body l mid) (λ new. copies mark used inner (n - (k + 1)) (k + 1) body sep env new)) (Err e) new) each
      (bind_stop e (inner body copy mid) (λ new. copies mark used inner (n - (k + 1)) (k + 1) body sep env new) new h)))

  pub copy_ends : (n k : ℕ) (body : Transcribers) (sep : Option Token) (env : Bindings) (old : Pieces) → n ≤ k → copies mark used inner (n - k) k body sep env old ≡ Some old
  unfolding copies
  copy_ends n k body sep env old done = let none : n - k ≡ 0 = omega arith in ap (λ m. copies mark used inner m k body sep env old) none
