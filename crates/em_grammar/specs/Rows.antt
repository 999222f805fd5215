-- Lists of rows, as statements and arms: behind a row that isn't closed there is no other.
use Rattle.std.specs.Prelude.{◌≡◌, ℕ, zero, suc, Bool, true, false, if◌then◌else◌, List, [], ◌∷◌, ◌++◌, length}
use Rattle.em_tree.specs.Starts.{Pieces}
use Rattle.em_grammar.specs.Sets.{Set, others, both}
use Rattle.em_grammar.specs.Reader.{Read, Found, or_stay}

-- each is a member, and all but the last are closed
abbrev pub Rows : {A : Type 0} → (A → Bool) → (ℕ → A → Type 0) → ℕ → List A → Type 0
Rows closed M d [] = Unit {0}
Rows closed M d (a ∷ []) = M d a
Rows closed M d (a ∷ b ∷ rest) = M d a × (closed a ≡ true) × Rows closed M d (b ∷ rest)

unfoldable pub rows : {A : Type 0} → (A → Bool) → (Pieces → Read A) → ℕ → List A → Pieces → Read (List A)
rows closed P zero found i = Found found i
rows closed P (suc n) found i = or_stay (P i) (λ a r. if closed a then rows closed P n (found ++ a ∷ []) r else Found (found ++ a ∷ []) r) (Found found i)

-- rows as long as they go
abbrev pub rows_of : {A : Type 0} → (A → Bool) → (Pieces → Read A) → Pieces → Read (List A)
rows_of closed P i = rows closed P (length i) [] i

-- what may follow rows, of which each begins with one of `f`
abbrev pub row_clear : Set → Bool → Set → Set
row_clear f true c = both c (others f)
row_clear f false c = c

abbrev pub rows_clear : {A : Type 0} → (A → Bool) → Set → (A → Set) → List A → Set
rows_clear closed f c [] = others f
rows_clear closed f c (a ∷ []) = row_clear f (closed a) (c a)
rows_clear closed f c (a ∷ b ∷ rest) = rows_clear closed f c (b ∷ rest)
