-- Groups in one another, one step.
use Rattle.std.proofs.Common.{◌≡◌, ℕ, zero, suc, ◌-◌, ◌<◌, Bool, false, [], ◌∷◌, refl, sym, ◌∙◌, ap, arith}
use Rattle.em_grammar.specs.declared.sort.Sort.{Sort}
use Rattle.em_tree.specs.Starts.{Pieces}
use Rattle.em_tree.specs.declared.piece.Piece.TheVariants as p
use Rattle.em_grammar.specs.declared.sort.Written.TheVariants as word
use Rattle.em_grammar.specs.Sets.{literal_sort, next, tokens, groups, only}
use Rattle.em_grammar.specs.Reader.{Read, Deep, entire}
use Rattle.em_grammar.specs.PathReader.{plain_path, plain_path_in}
use Rattle.em_grammar.specs.LiteralReader.{literal_kind, unsigned, unsigned_in, signed, signed_in}
use Rattle.em_read.specs.Parse.{opened_by}

pub opened_none : {T : Type 0} (R : ℕ → Pieces → Read T) (n : ℕ) (i : Pieces) → n ≡ 0 → entire (opened_by R n i) ≡ Deep
opened_none R zero i h = refl
opened_none R (suc n) i h = absurd (omega (arith, h))

pub opened_some : {T : Type 0} (R : ℕ → Pieces → Read T) (n : ℕ) (i : Pieces) → 0 < n → opened_by R n i ≡ R (n - 1) i
opened_some R zero i h = absurd (omega (arith, h))
opened_some R (suc n) i h = ap (λ k. R k i) (omega (arith))

pub unsigned_at : (s : Sort → Bool) (n : ℕ) (i : Pieces) → unsigned_in s n i ≡ unsigned s (opened_by (unsigned_in s) n) i
unfolding unsigned_in
unsigned_at s zero i = refl
unsigned_at s (suc n) i = refl

pub signed_at : (n : ℕ) (i : Pieces) → signed_in n i ≡ signed (unsigned_in literal_sort n) (opened_by signed_in n) i
unfolding signed_in
signed_at zero i = refl
signed_at (suc n) i = refl

pub plain_at : (n : ℕ) (i : Pieces) → plain_path_in n i ≡ plain_path (opened_by plain_path_in n) i
unfolding plain_path_in
plain_at zero i = refl
plain_at (suc n) i = refl

-- where no `-` and no group stands
pub signed_other : (n : ℕ) (i : Pieces) → next (tokens (only word.Minus)) i ≡ false → next (groups literal_kind) i ≡ false → signed_in n i ≡ unsigned_in literal_sort n i
signed_other n [] h k = signed_at n [] ∙ sym (unsigned_at literal_sort n [])
signed_other n (p.Token t ∷ r) h k = rw (signed_at n (p.Token t ∷ r), unsigned_at literal_sort n (p.Token t ∷ r), h)
signed_other n (p.Group g ∷ r) h k = rw (signed_at n (p.Group g ∷ r), unsigned_at literal_sort n (p.Group g ∷ r), k)
