-- How deep fragments nest.
use Rattle.std.proofs.Common.{◌≡◌, ℕ, ◌≤◌, false, List, [], ◌∷◌, Option, None, refl, sym, ◌∙◌, ap, subst, arith}
use Rattle.em_base.specs.declared.edition.Edition.{Edition}
use Rattle.em_base.specs.declared.edition.Edition.TheVariants.{E2015, E2018, E2021}
use Rattle.em_tree.specs.declared.fragment.FragmentNode.{FragmentNode}
use Rattle.em_tree.specs.declared.fragment.FragmentNode.TheVariants as node
use Rattle.em_tree.specs.declared.pat.Alternative.{Alternative}
use Rattle.em_tree.specs.declared.pat.Pat.{Pat}
use Rattle.em_tree.specs.declared.pat.TopPat.{TopPat, out-TopPat}
use Rattle.em_tree.specs.declared.pat.TopPat.TheOpen.{TopPat-F}
use Rattle.em_tree.specs.declared.pat.TopPat.TheVariants as top
use Rattle.em_tree.specs.declared.piece.Group.{Group}
use Rattle.em_tree.specs.PatGrammar.{IsPat, IsTopPat, Alternatives, pat_pieces, top_pieces}
use Rattle.em_tree.specs.PatGrammar as g
use Rattle.em_tree.specs.FragmentGrammar.{IsFragment, IsPatFragment}
use Rattle.em_tree.specs.Nesting.{top_nesting}
use Rattle.em_grammar.specs.FragmentReader.{single}
use Rattle.em_grammar.specs.NestLaws.{FragmentsNest, node_nesting}
use Rattle.em_grammar.proofs.FragmentPairs.{single_pieces, single_of}
use Rattle.em_grammar.proofs.NestTypes.{path_low_at, path_within_at, type_low, type_within, pat_low, pat_within, top_low, top_within}
use Rattle.em_grammar.proofs.NestExprs.{expr_low, expr_within, fragment_low, fragment_within, block_low_at, block_within_at}
use Rattle.em_grammar.proofs.NestItems.{item_low, item_within}

abbrev alone : Pat → List Alternative
alone y = record { bar = None; pat = y } ∷ []

same_list : (y : Pat) (list : List Alternative) → ◌≡◌ {A = TopPat-F TopPat} (TopPat-F.Alternatives (alone y)) (TopPat-F.Alternatives list) → alone y ≡ list
same_list y list is = cc

no_group : (y : Pat) (gr : Group) (x : TopPat) → ◌≡◌ {A = TopPat-F TopPat} (TopPat-F.Alternatives (alone y)) (TopPat-F.Group gr x) → ⊥
no_group y gr x is = cc

-- the only alternative is within the depth too
single_back : (d : ℕ) (y : Pat) → IsTopPat d (single y) → IsPat d y
single_back d y (g.IsTopPat.alternatives {list} is each) = (subst (λ l. Alternatives d l) (sym (same_list y list (sym (top.outs-Alternatives (alone y)) ∙ is))) each).1
single_back d y (g.IsTopPat.group {y = x} {g = gr} is k b ps m) = absurd (no_group y gr x (sym (top.outs-Alternatives (alone y)) ∙ is))

-- a pattern without alternatives
old_within : (e d : ℕ) (x : TopPat) → IsTopPat e x × ((y : Pat) × (top_pieces x ≡ pat_pieces y) × IsPat e y) → top_nesting x ≤ d → IsTopPat d x × ((y : Pat) × (top_pieces x ≡ pat_pieces y) × IsPat d y)
old_within e d x m h =
    let at : IsTopPat d x = top_within e d x m.0 h in
    let one = single_of e x m.0 m.1 in
    (at, (one.0, ap (λ t. top_pieces t) one.2 ∙ single_pieces one.0, single_back d one.0 (subst (λ t. IsTopPat d t) one.2 at)))

pub fragments_nest : FragmentsNest
fragments_nest edition e d (node.Ident t) m = (λ k. omega arith, λ k. m)
fragments_nest edition e d (node.Tt t) m = (λ k. omega arith, λ k. m)
fragments_nest edition e d (node.Literal l) m = (λ k. omega arith, λ k. m)
fragments_nest edition e d (node.Block b) m = (block_low_at d b, block_within_at e d b m)
fragments_nest edition e d (node.Expr x) m = (expr_low d false x, expr_within e d false x m)
fragments_nest edition e d (node.Stmt x) m = (fragment_low d x, fragment_within e d x m)
fragments_nest edition e d (node.Ty x) m = (type_low d false x, type_within e d false x m)
fragments_nest edition e d (node.Path x) m = (path_low_at d x, path_within_at e d x m)
fragments_nest edition e d (node.PatParam x) m = (pat_low d x, pat_within e d x m)
fragments_nest edition e d (node.Item x) m = (item_low d x, item_within e d x m)
fragments_nest E2021 e d (node.Pat x) m = (top_low d x, top_within e d x m)
fragments_nest E2018 e d (node.Pat x) m = (λ k. top_low d x k.0, old_within e d x m)
fragments_nest E2015 e d (node.Pat x) m = (λ k. top_low d x k.0, old_within e d x m)
