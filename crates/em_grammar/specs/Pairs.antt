-- A language and a reader of it: what the reader finds is of the language, each member is read where what follows may follow it, and no
-- more is left than after any member.
use Rattle.std.specs.Prelude.{◌≡◌, ℕ, suc, ◌≤◌, Bool, true, false, [], ◌∷◌, ◌++◌, length}
use Rattle.em_base.specs.declared.token.Token.{Token}
use Rattle.em_tree.specs.Starts.{Pieces}
use Rattle.em_grammar.specs.declared.sort.Sort.{Sort}
use Rattle.em_grammar.specs.Sorts.{sort_of}
use Rattle.em_grammar.specs.Sets.{Set, next, Inside, Nested}
use Rattle.em_grammar.specs.Reader.{Read, Found, Absent, Deep}

-- what a yield begins with
abbrev pub Begins : Set → Pieces → Type 0
Begins s [] = ⊥
Begins s (x ∷ r) = next s (x ∷ r) ≡ true

abbrev pub MayBegin : Set → Pieces → Type 0
MayBegin s [] = Unit {0}
MayBegin s (x ∷ r) = next s (x ∷ r) ≡ true

-- what was found is a member, and stands in front of what is left
abbrev pub Sound : {T : Type 0} → (ℕ → T → Type 0) → (T → Pieces) → Read T → Pieces → Type 0
Sound M z (Found t r) i = ((d : ℕ) × M d t) × (i ≡ z t ++ r)
Sound M z Absent i = Unit {0}
Sound M z Deep i = Unit {0}

-- no more is left than this, or it nests too deep to tell
abbrev pub Takes : {T : Type 0} → Read T → Pieces → Type 0
Takes (Found x s) r = length s ≤ length r
Takes Absent r = ⊥
Takes Deep r = Unit {0}

-- `M d`: the members within depth `d`, `z`: their pieces. Each has a piece. `first` has what members begin with, `clear t` what may
-- follow `t`. `H`: what is known of the pieces of groups.
pub record Pair {T : Type 0} (H : Pieces → Type 0) (depth : ℕ) (M : ℕ → T → Type 0) (z : T → Pieces) (P : Pieces → Read T) (first : Set) (clear : T → Set) : Type 0 where
  pub grows : (d : ℕ) (t : T) → M d t → M (suc d) t
  pub sound : (i : Pieces) → Sound M z (P i) i
  pub begins : (d : ℕ) (t : T) → d ≤ depth → M d t → Begins first (z t)
  pub whole : (d : ℕ) (t : T) (r : Pieces) → d ≤ depth → Inside H (z t) → M d t → next (clear t) r ≡ true → P (z t ++ r) ≡ Found t r
  -- of a member that may stand at the end
  pub longest : (d : ℕ) (t : T) (r : Pieces) → d ≤ depth → Inside H (z t) → M d t → (clear t).end ≡ true → Takes (P (z t ++ r)) r
  pub absent : (i : Pieces) → next first i ≡ false → P i ≡ Absent

-- The same where a member may be empty.
pub record Part {T : Type 0} (H : Pieces → Type 0) (depth : ℕ) (M : ℕ → T → Type 0) (z : T → Pieces) (P : Pieces → Read T) (first : Set) (clear : T → Set) : Type 0 where
  pub grows : (d : ℕ) (t : T) → M d t → M (suc d) t
  pub sound : (i : Pieces) → Sound M z (P i) i
  pub begins : (d : ℕ) (t : T) → d ≤ depth → M d t → MayBegin first (z t)
  pub whole : (d : ℕ) (t : T) (r : Pieces) → d ≤ depth → Inside H (z t) → M d t → next (clear t) r ≡ true → P (z t ++ r) ≡ Found t r
  pub longest : (d : ℕ) (t : T) (r : Pieces) → d ≤ depth → Inside H (z t) → M d t → (clear t).end ≡ true → Takes (P (z t ++ r)) r
  pub total : (i : Pieces) → P i ≡ Absent → ⊥
  pub idle : (i : Pieces) → next first i ≡ false → (t : T) × (P i ≡ Found t i)

-- What stands behind another part, and may be empty only where it can't stand at the end. `first` has what may stand where it begins.
pub record Tail {T : Type 0} (H : Pieces → Type 0) (depth : ℕ) (M : ℕ → T → Type 0) (z : T → Pieces) (P : Pieces → Read T) (first : Set) (clear : T → Set) : Type 0 where
  pub grows : (d : ℕ) (t : T) → M d t → M (suc d) t
  pub sound : (i : Pieces) → Sound M z (P i) i
  pub follows : (d : ℕ) (t : T) (r : Pieces) → d ≤ depth → M d t → next (clear t) r ≡ true → next first (z t ++ r) ≡ true
  pub begins : (d : ℕ) (t : T) → d ≤ depth → M d t → (clear t).end ≡ true → Begins first (z t)
  pub whole : (d : ℕ) (t : T) (r : Pieces) → d ≤ depth → Inside H (z t) → M d t → next (clear t) r ≡ true → P (z t ++ r) ≡ Found t r
  pub longest : (d : ℕ) (t : T) (r : Pieces) → d ≤ depth → Inside H (z t) → M d t → (clear t).end ≡ true → Takes (P (z t ++ r)) r

-- a test that decides a property of tokens, all of which are of these sorts
pub record Test (Q : Token → Type 0) (test : Token → Bool) (s : Sort → Bool) : Type 0 where
  pub holds : (t : Token) → test t ≡ true → Q t
  pub told : (t : Token) → Q t → test t ≡ true
  pub sorted : (t : Token) → Q t → s (sort_of t) ≡ true

-- the second reader reads what the first one does, where that one can tell
abbrev pub Steady : {A : Type 0} → Read A → Read A → Type 0
Steady (Found a r) m = m ≡ Found a r
Steady Absent m = m ≡ Absent
Steady Deep m = Unit {0}

pub record Firm {A : Type 0} (P Q : Pieces → Read A) : Type 0 where
  pub firm : (i : Pieces) → Steady (P i) (Q i)

-- Of a category, whose reader is given for each number of groups in one another and of nodes in one another: what is found is a front
-- of it, and no front is longer; where nothing is found, no front is of it, however deep; and no two trees have one yield.
pub record Exact {T : Type 0} (M : ℕ → T → Type 0) (z : T → Pieces) (P : ℕ → ℕ → Pieces → Read T) : Type 0 where
  pub found : (n depth : ℕ) (i : Pieces) (t : T) (r : Pieces) → P n depth i ≡ Found t r → ((d : ℕ) × M d t) × (i ≡ z t ++ r)
  pub longest : (n depth : ℕ) (i : Pieces) (t : T) (r : Pieces) → P n depth i ≡ Found t r → (d : ℕ) (u : T) (rest : Pieces) → M d u → i ≡ z u ++ rest → length r ≤ length rest
  pub none : (n depth : ℕ) (i : Pieces) → P n depth i ≡ Absent → (d : ℕ) (u : T) (rest : Pieces) → M d u → i ≡ z u ++ rest → ⊥
  pub one : (d e : ℕ) (x y : T) → M d x → M e y → z x ≡ z y → x ≡ y

-- a category that is read so, whose members may all stand at the end
pub record Known {T : Type 0} (M : ℕ → T → Type 0) (z : T → Pieces) (P : ℕ → ℕ → Pieces → Read T) : Type 0 where
  pub first : Set
  pub clear : T → Set
  pub reads : (n depth : ℕ) → Pair (Nested n) depth M z (P n depth) first clear
  pub ends : (d : ℕ) (t : T) → M d t → (clear t).end ≡ true
  pub steady : (n m d e : ℕ) → n ≤ m → d ≤ e → Firm (P n d) (P m e)
