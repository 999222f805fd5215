-- Readers of left recursion: a prefix, and what goes on with it. What goes on with an expression is a value, which `apply` puts behind it.
use Rattle.std.specs.Prelude.{◌≡◌, ◌⊎◌, ℕ, zero, suc, ◌≤◌, true, false, if◌then◌else◌, ◌++◌}
use Rattle.em_tree.specs.Starts.{Pieces}
use Rattle.em_grammar.specs.Sets.{Set, next}
use Rattle.em_grammar.specs.Reader.{Read, Found, Deep, and_then, or_stay}
use Rattle.em_grammar.specs.Pairs.{Pair}

-- `on left` has what goes on with `left`. Each turn adds a node, so there are no more of them than a limit
module _ {T S : Type 0} (on : T → Set) (suffix : Pieces → Read S) (apply : T → S → T) where
  unfoldable pub climb : ℕ → T → Pieces → Read T
  climb zero left i = if next (on left) i then Deep else Found left i
  climb (suc n) left i = if next (on left) i then or_stay (suffix i) (λ s r. climb n (apply left s) r) (Found left i) else Found left i

  abbrev pub level : ℕ → (Pieces → Read T) → Pieces → Read T
  level turns prefix i = and_then (prefix i) (λ x r. climb turns x r)

-- What is known of prefixes and of what goes on with them. `K d`: the members within depth `d`; each is a prefix, or another member and
-- what goes on with it.
pub record Levels {T S : Type 0} (H : Pieces → Type 0) (limit turns : ℕ) (K Pre : ℕ → T → Type 0) (Suf : ℕ → S → Type 0) (z : T → Pieces) (y : S → Pieces) (on : T → Set) (suffix : Pieces → Read S)
    (apply : T → S → T) (prefix : Pieces → Read T) (first g : Set) (clear pre_clear : T → Set) (suf_clear : S → Set) : Type 0 where
  pub bound : limit ≤ suc turns
  pub none : (x : T) → K 0 x → ⊥
  pub grows : (d : ℕ) (x : T) → K d x → K (suc d) x
  pub yield : (x : T) (s : S) → z (apply x s) ≡ z x ++ y s
  pub node : (d : ℕ) (x : T) → Pre d x → K d x
  pub more : (d : ℕ) (x : T) (s : S) (r : Pieces) → K d x → Suf (suc d) s → next (on x) (y s ++ r) ≡ true → K (suc d) (apply x s)
  pub back : (d : ℕ) (x : T) → K (suc d) x
      → Pre (suc d) x ⊎ ((left : T) × (s : S) × K d left × Suf (suc d) s × (x ≡ apply left s) × ((r : Pieces) → next (on left) (y s ++ r) ≡ true))
  pub prefixes : Pair H limit Pre z prefix first pre_clear
  pub suffixes : Pair H limit Suf y suffix g suf_clear
  pub on_pre : (d : ℕ) (x : T) (i : Pieces) → Pre d x → next (on x) i ≡ true → next (pre_clear x) i ≡ true
  pub on_suf : (d : ℕ) (x : T) (s : S) (i : Pieces) → K d x → Suf (suc d) s → next (on (apply x s)) i ≡ true → next (suf_clear s) i ≡ true
  pub clear_on : (d : ℕ) (x : T) (i : Pieces) → K d x → next (clear x) i ≡ true → next (on x) i ≡ false
  pub clear_pre : (d : ℕ) (x : T) (i : Pieces) → Pre d x → next (clear x) i ≡ true → next (pre_clear x) i ≡ true
  pub clear_suf : (d : ℕ) (x : T) (s : S) (i : Pieces) → K d x → Suf (suc d) s → K (suc d) (apply x s) → next (clear (apply x s)) i ≡ true → next (suf_clear s) i ≡ true
