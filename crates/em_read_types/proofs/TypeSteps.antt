-- Types and paths, one step of groups and of nodes.
use denote.Ref.{MutBor}
use Rattle.std.proofs.Common.{◌≡◌, ℕ, zero, suc, ◌-◌, ◌<◌, ◌≤◌, Bool, true, false, ◌||◌, if◌then◌else◌, [], ◌∷◌, Result, refl, sym, ap, ◌∙◌, arith}
use Rattle.std.specs.declared.alloc.Global.{Global}
use Rattle.em_read.specs.declared.cursor.Cursor.{Cursor}
use Rattle.em_read.specs.declared.stop.Stop.{Stop}
use Rattle.em_tree.specs.declared.types.TypeTree.{TypeTree}
use Rattle.em_tree.specs.declared.piece.Group.{Group}
use Rattle.em_tree.specs.declared.piece.Piece.TheVariants as p
use Rattle.em_tree.specs.declared.types.Path.{Path}
use Rattle.em_tree.specs.Starts.{Pieces, pieces_of}
use Rattle.em_grammar.specs.declared.sort.Written.TheVariants as word
use Rattle.em_grammar.specs.Sets.{Set, next, either, tokens, only}
use Rattle.em_grammar.specs.Reader.{Read, Found, Absent, entire, and_then}
use Rattle.em_grammar.specs.PathReader.{segments_first, plain_path_in, path_node, path_group_of, is_path_group}
use Rattle.em_grammar.specs.TypeReader.{type_node, type_by, readers_in, type_in, path_in, plain_type_in}
use Rattle.em_read.specs.Parse.{opened_by}
use Rattle.em_read_types.specs.PathParts.{path_token_first, path_token, path_group}
use Rattle.em_read_types.specs.TypeKnot.{Knot, no_type}

-- of a function value below a limit, the same below a lower one
pub less : {limit low : ℕ} {pre : Global → MutBor Cursor → ℕ → ℕ → Bool → Type 0} {post : Global → MutBor Cursor → ℕ → ℕ → Bool → Result (TypeTree × Bool) Stop → MutBor Cursor → Type 0}
    → Knot limit pre post → low ≤ limit → Knot low pre post
less k h = record {
  callable = λ alloc old groups depth may below. k.callable alloc old groups depth may (omega (arith, h, below));
  reads = λ alloc old new groups depth may r below. k.reads alloc old new groups depth may r (omega (arith, h, below));
}

pub type_none : (n depth : ℕ) (may : Bool) (i : Pieces) → depth ≡ 0 → type_in n depth may i ≡ no_type i
unfolding type_by readers_in
type_none zero zero may i h = refl
type_none (suc n) zero may i h = refl
type_none n (suc depth) may i h = absurd (omega (arith, h))

last : (n : ℕ) (may : Bool) (i : Pieces)
    → type_in n (suc zero) may i ≡ type_node n (type_in n zero) (type_in n zero) (path_in n zero) (opened_by (λ k. plain_type_in k (suc zero)) n) may i
unfolding type_by readers_in
last zero may i = refl
last (suc n) may i = refl

step : (n depth : ℕ) (may : Bool) (i : Pieces)
    → type_in n (suc (suc depth)) may i ≡ type_node n (type_in n (suc depth)) (type_in n depth) (path_in n (suc depth)) (opened_by (λ k. plain_type_in k (suc (suc depth))) n) may i
unfolding type_by readers_in
step zero depth may i = refl
step (suc n) depth may i = refl

from_to : (n depth a b : ℕ) (may : Bool) (i : Pieces) (c d : ℕ) → c ≡ a → d ≡ b
    → type_node n (type_in n a) (type_in n b) (path_in n a) (opened_by (λ k. plain_type_in k depth) n) may i
    ≡ type_node n (type_in n c) (type_in n d) (path_in n c) (opened_by (λ k. plain_type_in k depth) n) may i
from_to n depth a b may i c d e f =
    ap (λ k. type_node n (type_in n k) (type_in n b) (path_in n k) (opened_by (λ k. plain_type_in k depth) n) may i) (sym e)
    ∙ ap (λ k. type_node n (type_in n c) (type_in n k) (path_in n c) (opened_by (λ k. plain_type_in k depth) n) may i) (sym f)

pub type_at : (n depth : ℕ) (may : Bool) (i : Pieces) → 0 < depth
    → type_in n depth may i ≡ type_node n (type_in n (depth - 1)) (type_in n (depth - 2)) (path_in n (depth - 1)) (opened_by (λ k. plain_type_in k depth) n) may i
type_at n zero may i h = absurd (omega (arith, h))
type_at n (suc zero) may i h = last n may i ∙ from_to n (suc zero) zero zero may i (suc zero - 1) (suc zero - 2) (omega arith) (omega arith)
type_at n (suc (suc depth)) may i h =
    step n depth may i ∙ from_to n (suc (suc depth)) (suc depth) depth may i (suc (suc depth) - 1) (suc (suc depth) - 2) (omega arith) (omega arith)

pub path_at : (n depth : ℕ) (i : Pieces) → path_in n depth i ≡ path_node (plain_type_in n depth) (plain_path_in n) (opened_by (λ k. path_in k depth) n) i
unfolding readers_in
path_at zero depth i = refl
path_at (suc n) depth i = refl

next_either : (a b : Set) (i : Pieces) → next (either a b) i ≡ next a i || next b i
next_either a b [] = refl
next_either a b (p.Token t ∷ r) = refl
next_either a b (p.Group g ∷ r) = refl

one_of_two : {X : Type 0} (a b : Bool) (x y z : X) → a || b ≡ true → (if a then x else (if b then y else z)) ≡ (if a then x else y)
one_of_two true b x y z h = refl
one_of_two false true x y z h = refl
one_of_two false false x y z h = cc

neither : {X : Type 0} (a b : Bool) (x y z : X) → a || b ≡ false → (if a then x else (if b then y else z)) ≡ z
neither true b x y z h = cc
neither false true x y z h = cc
neither false false x y z h = refl

pub token_path : (n depth : ℕ) (i : Pieces) → next path_token_first i ≡ true → path_in n depth i ≡ path_token (plain_type_in n depth) (plain_path_in n) i
unfolding path_node
token_path n depth i h =
    path_at n depth i ∙ one_of_two (next segments_first i) (next (tokens (only word.Lt)) i) _ _ _ (sym (next_either segments_first (tokens (only word.Lt)) i) ∙ h)

pub group_path : (n depth : ℕ) (i : Pieces) → next path_token_first i ≡ false → path_in n depth i ≡ path_group (opened_by (λ k. path_in k depth) n) i
unfolding path_node
group_path n depth i h =
    path_at n depth i ∙ neither (next segments_first i) (next (tokens (only word.Lt)) i) _ _ _ (sym (next_either segments_first (tokens (only word.Lt)) i) ∙ h)

-- a group whose pieces are a path
pub group_read : (R : Pieces → Read Path) (g : Group) (r : Pieces) (x : Path) → is_path_group g ≡ true → entire (R (pieces_of g)) ≡ Found x []
    → path_group R (p.Group g ∷ r) ≡ Found (path_group_of (g, x)) r
group_read R g r x h e =
    ap (λ b. and_then (if b then and_then (entire (R (pieces_of g))) (λ a k. Found (g, a) r) else Absent) (λ t k. Found (path_group_of t) k)) h
    ∙ ap (λ o. and_then (and_then o (λ a k. Found (g, a) r)) (λ t k. Found (path_group_of t) k)) e
