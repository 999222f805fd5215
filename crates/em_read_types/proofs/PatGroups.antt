-- Groups that are one pattern.
use Rattle.std.proofs.Common.{◌≡◌, Bool, true, false, not, ◌&&◌, ◌∷◌, refl, sym, ap, ◌∙◌}
use Rattle.em_base.specs.declared.edition.Edition.{Edition}
use Rattle.em_tree.specs.declared.piece.FragmentKind.TheVariants as fk
use Rattle.em_tree.specs.declared.piece.Group.{Group}
use Rattle.em_tree.specs.declared.piece.Piece.TheVariants as p
use Rattle.em_tree.specs.Starts.{Pieces, kind_of, starts, starts_kind}
use Rattle.em_grammar.specs.PatReader.{has_bar, is_pat_group, is_top_group, only_pat, pat_kind}

not_not : (b : Bool) → not (not b) ≡ b
not_not true = refl
not_not false = refl

pub bars : (e : Edition) (g : Group) (r : Pieces) → kind_of g ≡ fk.Pat → starts fk.PatParam e (p.Group g ∷ r) ≡ not (has_bar g)
unfolding starts starts_kind
bars e g r k = ap (λ f. starts_kind f (not (has_bar g)) fk.PatParam) k

pub one_pat : (e : Edition) (g : Group) (r : Pieces) → kind_of g ≡ fk.Pat → starts fk.PatParam e (p.Group g ∷ r) ≡ is_pat_group g
one_pat e g r k = bars e g r k ∙ sym (ap (λ f. pat_kind f && not (only_pat f && has_bar g)) k)

pub no_bars : (e : Edition) (g : Group) (r : Pieces) → kind_of g ≡ fk.Pat → not (starts fk.PatParam e (p.Group g ∷ r)) ≡ is_top_group g
no_bars e g r k = ap (λ b. not b) (bars e g r k) ∙ not_not (has_bar g) ∙ sym (ap (λ f. only_pat f && has_bar g) k)
