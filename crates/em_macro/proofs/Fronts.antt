-- The token at an index.
use Rattle.std.proofs.Common.{◌≡◌, ℕ, zero, suc, ◌+◌, ◌<◌, true, if◌then◌else◌, Some, [], ◌∷◌, length, drop, refl, sym, ◌∙◌, ap, arith}
use Rattle.em_base.specs.declared.token.Token.{Token}
use Rattle.em_tree.specs.declared.piece.Piece.TheVariants as p
use Rattle.em_tree.specs.Starts.{Pieces}
use Rattle.em_macro.specs.Match.{is_next}
use Rattle.em_macro.specs.Run.{Done, Fails, token, behind}
use Rattle.em_macro.proofs.Turns.{tail_of}

pub takes_token : (t : Token) (ps : Pieces) (at : ℕ) → is_next t (drop at ps) ≡ true → token t (drop at ps) ≡ Done tt (drop (at + 1) ps)
takes_token t ps at h = go (drop at ps) refl h
  where
    go : (i : Pieces) → drop at ps ≡ i → is_next t i ≡ true → token t i ≡ Done tt (drop (at + 1) ps)
    go [] is h = cc
    go (p.Token u ∷ i) is h = ap (λ b. if b then Done tt i else Fails) h ∙ ap (λ l. Done tt l) (sym (tail_of ps at (p.Token u) i is))
    go (x ∷ i) is h = cc

-- where something stands, the index is below the length
pub is_within : (ps : Pieces) (at : ℕ) → (drop at ps ≡ [] → ⊥) → at < length ps
is_within [] zero h = absurd (h refl)
is_within [] (suc at) h = absurd (h refl)
is_within (x ∷ ps) zero h = omega arith
is_within (x ∷ ps) (suc at) h = omega (arith, is_within ps at h)

pub passes : (ps : Pieces) (at : ℕ) (s : Token) → at < length ps → drop (at + 1) ps ≡ behind (Some s) (drop at ps)
passes ps at s below = go (drop at ps) refl
  where
    go : (i : Pieces) → drop at ps ≡ i → drop (at + 1) ps ≡ behind (Some s) i
    go [] is = absurd (none ps at is below)
      where
        none : (xs : Pieces) (at : ℕ) → drop at xs ≡ [] → at < length xs → ⊥
        none [] at is below = omega (arith, below)
        none (x ∷ xs) zero is below = cc
        none (x ∷ xs) (suc at) is below = none xs at is (omega (arith, below))
    go (x ∷ i) is = tail_of ps at x i is
