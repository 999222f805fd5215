-- Patterns, one step of groups and of nodes.
use Rattle.std.proofs.Common.{◌≡◌, ℕ, zero, suc, ◌-◌, ◌<◌, refl, sym, ap, ◌∙◌, arith}
use Rattle.em_tree.specs.Starts.{Pieces}
use Rattle.em_grammar.specs.TypeReader.{path_in}
use Rattle.em_grammar.specs.PatReader.{pat_node, pat_by, pat_in, top_node, top_pat_in}
use Rattle.em_read.specs.Parse.{opened_by}
use Rattle.em_read_types.specs.PatKnot.{no_pat}

pub pat_none : (n depth : ℕ) (i : Pieces) → depth ≡ 0 → pat_in n depth i ≡ no_pat i
unfolding pat_in pat_by
pat_none zero zero i h = refl
pat_none (suc n) zero i h = refl
pat_none n (suc depth) i h = absurd (omega (arith, h))

step : (n depth : ℕ) (i : Pieces) → pat_in n (suc depth) i ≡ pat_node n (path_in n depth) (pat_in n depth) (opened_by (λ k. pat_in k (suc depth)) n) i
unfolding pat_in pat_by
step zero depth i = refl
step (suc n) depth i = refl

pub pat_at : (n depth : ℕ) (i : Pieces) → 0 < depth
    → pat_in n depth i ≡ pat_node n (path_in n (depth - 1)) (pat_in n (depth - 1)) (opened_by (λ k. pat_in k depth) n) i
pat_at n zero i h = absurd (omega (arith, h))
pat_at n (suc depth) i h =
    let back : suc depth - 1 ≡ depth = omega arith in
    step n depth i ∙ ap (λ k. pat_node n (path_in n k) (pat_in n k) (opened_by (λ m. pat_in m (suc depth)) n) i) (sym back)

pub top_at : (n depth : ℕ) (i : Pieces) → top_pat_in n depth i ≡ top_node (pat_in n depth) (opened_by (λ k. top_pat_in k depth) n) i
unfolding top_pat_in
top_at zero depth i = refl
top_at (suc n) depth i = refl
