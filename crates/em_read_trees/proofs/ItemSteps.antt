-- Items, one step of groups and of nodes.
use Rattle.std.proofs.Common.{◌≡◌, ℕ, zero, suc, ◌-◌, ◌<◌, refl, sym, ap, ◌∙◌, arith}
use Rattle.em_tree.specs.Starts.{Pieces}
use Rattle.em_grammar.specs.TypeReader.{plain_type_in}
use Rattle.em_grammar.specs.PatReader.{pat_in}
use Rattle.em_grammar.specs.ExprKnot.{block_in}
use Rattle.em_grammar.specs.ItemReader.{Inner, inner_of, item_node, item_by, item_over, item_in}
use Rattle.em_read.specs.Parse.{opened_by}
use Rattle.em_read_trees.specs.ItemKnot.{no_item, inner_at}

pub item_none : (n depth : ℕ) (i : Pieces) → depth ≡ 0 → item_in n depth i ≡ no_item i
unfolding item_by item_over
item_none zero zero i h = refl
item_none (suc n) zero i h = refl
item_none n (suc depth) i h = absurd (omega (arith, h))

step : (n depth : ℕ) (i : Pieces) → item_in n (suc depth) i ≡ item_node (inner_of block_in n depth (item_in n depth)) (opened_by (λ k. item_in k (suc depth)) n) i
unfolding item_by item_over
step zero depth i = refl
step (suc n) depth i = refl

-- what an item is made of, most of it at one depth and the types that impls begin with at another
abbrev made_at : ℕ → ℕ → ℕ → Inner
made_at n depth low = record { nested = n; types = plain_type_in n low; heads = plain_type_in n depth; pats = pat_in n low; blocks = block_in n low; items = item_in n low }

pub item_at : (n depth : ℕ) (i : Pieces) → 0 < depth → item_in n depth i ≡ item_node (inner_at n depth) (opened_by (λ k. item_in k depth) n) i
item_at n zero i h = absurd (omega (arith, h))
item_at n (suc depth) i h =
    let back : suc depth - 1 ≡ depth = omega arith in
    step n depth i ∙ ap (λ k. item_node (made_at n (suc depth) k) (opened_by (λ m. item_in m (suc depth)) n) i) (sym back)
