-- How the pieces that a transcriber writes are counted: the steps that the code takes.
use Rattle.std.specs.Prelude.{◌≡◌, ℕ, zero, suc, ◌+◌, ◌-◌, ◌^◌, min, if◌then◌else◌, List, [], ◌∷◌, length, map, Option, Some, None, Result, Ok, Err}
use Rattle.em_base.specs.declared.token.Token.{Token}
use Rattle.em_macro.specs.declared.rules.Transcriber.{Transcriber, out-Transcriber}
use Rattle.em_macro.specs.declared.rules.Transcriber.TheOpen.{Transcriber-F}
use Rattle.em_macro.specs.declared.matched.Taken.{Taken}
use Rattle.em_macro.specs.declared.matched.Bound.{Bound, out-Bound}
use Rattle.em_macro.specs.declared.matched.Bound.TheOpen.{Bound-F}
use Rattle.em_macro.specs.declared.copying.Steps.{Steps}
use Rattle.em_macro.specs.declared.copying.Steps.TheVariants as st
use Rattle.em_macro.specs.declared.error.CopyError.{CopyError}
use Rattle.em_macro.specs.declared.error.CopyError.TheVariants as ce
use Rattle.em_macro.specs.Match.{Name, Bindings, bound_to}
use Rattle.em_macro.specs.Given.{pieces_in}
use Rattle.em_macro.specs.Write.{Transcribers, is_plain, nth, steps, uses}

abbrev pub plus : ℕ → ℕ → ℕ
plus n k = min (n + k) (2 ^ 64 - 1)

-- a fragment counts in one step
abbrev pub count_put : Taken → ℕ
count_put f = if is_plain f.kind then length (pieces_in f) else 1

abbrev pub count_between : ℕ → Option Token → ℕ
count_between zero sep = 0
count_between (suc k) None = 0
count_between (suc k) (Some s) = 1

abbrev pub bind : Option ℕ → (ℕ → Option ℕ) → Option ℕ
bind None f = None
bind (Some n) f = f n

module _ (used : Transcribers → List Name) (inner : Transcribers → Bindings → ℕ → Option ℕ) where
  -- so many copies from the k-th on, beside what is counted
  unfoldable pub count_copies : ℕ → ℕ → Transcribers → Option Token → Bindings → ℕ → Option ℕ
  count_copies zero k body sep env n = Some n
  count_copies (suc m) k body sep env n = bind (inner body (map (nth k) env) (plus n (count_between k sep))) (λ z. count_copies m (k + 1) body sep env z)

  abbrev pub count_repeated : Steps → Transcribers → Option Token → Bindings → ℕ → Option ℕ
  count_repeated st.Any body sep env n = None
  count_repeated (st.Each m) body sep env n = count_copies m 0 body sep env n
  count_repeated st.Unequal body sep env n = None

  abbrev pub count_bound : Bound-F Bound → ℕ → Option ℕ
  count_bound (Bound-F.One f) n = Some (plus n (count_put f))
  count_bound (Bound-F.Many all) n = None

  unfoldable pub count_node : Transcriber-F Transcriber → Bindings → ℕ → Option ℕ
  count_node (Transcriber-F.Token t) env n = Some (plus n 1)
  count_node (Transcriber-F.Variable dollar word name) env n = count_bound (out-Bound (bound_to name env)) n
  count_node (Transcriber-F.Crate dollar word) env n = Some (plus (plus n 1) 1)
  count_node (Transcriber-F.Delimited o body c) env n = bind (inner body env (plus n 1)) (λ z. Some (plus z 1))
  count_node (Transcriber-F.Repeat body sep) env n = count_repeated (steps (used body) env) body sep env n

  unfoldable pub count_all : Transcribers → Bindings → ℕ → Option ℕ
  count_all [] env n = Some n
  count_all (w ∷ ws) env n = bind (count_node (out-Transcriber w) env n) (λ z. count_all ws env z)

unfoldable pub counted : ℕ → Transcribers → Bindings → ℕ → Option ℕ
counted zero ws env n = None
counted (suc depth) ws env n = count_all (uses depth) (counted depth) ws env n

abbrev pub Counts : Option ℕ → Result ℕ CopyError → Type 0
Counts out (Ok n) = out ≡ Some n
Counts out (Err ce.Lengths) = out ≡ None
Counts out (Err ce.NoMemory) = Unit {0}
