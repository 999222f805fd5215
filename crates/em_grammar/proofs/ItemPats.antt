-- The first pieces of patterns.
use Rattle.std.proofs.Common.{◌≡◌, ℕ, zero, suc, Bool, true, false, [], ◌∷◌, ◌++◌, Option, Some, None, refl, sym, ◌∙◌, ap, subst, arith}
use Rattle.std.specs.Prelude.{codes}
use Rattle.em_base.specs.declared.token.Token.{Token}
use Rattle.em_tree.specs.declared.piece.Piece.TheVariants as p
use Rattle.em_tree.specs.declared.literal.Literal.{Literal}
use Rattle.em_tree.specs.declared.literal.Literal.TheVariants as literal
use Rattle.em_tree.specs.declared.types.Path.{Path}
use Rattle.em_tree.specs.declared.pat.Pat.{Pat}
use Rattle.em_tree.specs.declared.pat.Pat.TheVariants as pat
use Rattle.em_tree.specs.Parts.{maybe, each}
use Rattle.em_tree.specs.Starts.{Pieces}
use Rattle.em_tree.specs.Tokens.{Is, Maybe, Name}
use Rattle.em_tree.specs.Yields.{piece}
use Rattle.em_tree.specs.PathGrammar as path
use Rattle.em_tree.specs.PathGrammar.{path_pieces, literal_pieces, IsLiteral, PathWithin}
use Rattle.em_tree.specs.PatGrammar as g
use Rattle.em_tree.specs.PatGrammar.{pat_pieces, IsPat, PatNode}
use Rattle.em_grammar.specs.declared.sort.Written.TheVariants as word
use Rattle.em_grammar.specs.Sorts.{sort_of}
use Rattle.em_grammar.specs.Sets.{Set, next, subset, tokens, others, name_sort}
use Rattle.em_grammar.specs.Lang.{with_comma}
use Rattle.em_grammar.specs.LiteralReader.{literal_first, signed_first}
use Rattle.em_grammar.specs.PathReader.{path_first}
use Rattle.em_grammar.specs.PatReader.{dots_sort}
use Rattle.em_grammar.specs.ItemReader.{at}
use Rattle.em_grammar.specs.Pairs.{Begins}
use Rattle.em_grammar.proofs.Pairs.{in_subset, begins_append, may_begin, next_others}
use Rattle.em_grammar.proofs.Tests.{sign}
use Rattle.em_grammar.proofs.Tests as test
use Rattle.em_grammar.proofs.LiteralPairs.{literal_reads, pieces_token, pieces_negative, pieces_group, same_literal}
use Rattle.em_grammar.proofs.PatLayers.{same_pat, pieces_wild, pieces_name, pieces_literal, pieces_range, pieces_path_pat, pieces_tuple, pieces_struct, pieces_pat_group}
use Rattle.em_grammar.proofs.PatNodes.{pat_node_of, no_pat_at, dots}
use Rattle.em_grammar.proofs.ItemSecond.{Second, second_of, second_append, path_begins, path_second, stops}

-- what begins otherwise
not_next : (s f : Set) (ys : Pieces) → subset f (others s) ≡ true → Begins f ys → next s ys ≡ false
not_next s f [] inc b = absurd b
not_next s f (y ∷ ys) inc b = next_others s (y ∷ ys) (in_subset f (others s) inc (y ∷ ys) b)

pub begins_apart : (s f : Set) (ys : Pieces) → subset f (others s) ≡ true → Begins f ys → next s ys ≡ true → ⊥
begins_apart s f ys inc b h = let no_next : next s ys ≡ false = not_next s f ys inc b in cc

literal_begins : (s : Bool) (l : Literal) → IsLiteral s l → Begins (literal_first s) (literal_pieces l)
literal_begins s l m = (literal_reads s 0 0).begins 0 l (omega arith) m

literal_second : (s : Bool) (l : Literal) → IsLiteral s l → Second (literal_pieces l)
literal_second s l (path.IsLiteral.token {t} is m) =
    subst (λ k. Second (literal_pieces k)) (sym (same_literal l (literal.Token t) (is ∙ sym (literal.outs-Token t))))
    (subst (λ ys. Second ys) (sym (pieces_token t)) (not_next (at word.OpenParen) (literal_first false) (p.Token t ∷ []) refl
    (subst (λ ys. Begins (literal_first false) ys) (pieces_token t) (literal_begins false (literal.Token t) (path.IsLiteral.token (literal.outs-Token t) m)))))
literal_second s l (path.IsLiteral.negative {y} {minus} is a m) =
    subst (λ k. Second (literal_pieces k)) (sym (same_literal l (literal.Negative minus y) (is ∙ sym (literal.outs-Negative minus y))))
    (subst (λ ys. Second ys) (sym (pieces_negative (minus, y)))
    (second_of (at word.Minus) (literal_first false) (p.Token minus) (literal_pieces y) refl refl ((sign word.Minus).sorted minus a) (may_begin (literal_first false) (literal_pieces y) (literal_begins false y m))))
literal_second s l (path.IsLiteral.group {y} {g = gr} is k ps m) =
    subst (λ k. Second (literal_pieces k)) (sym (same_literal l (literal.Group gr y) (is ∙ sym (literal.outs-Group gr y)))) (subst (λ ys. Second ys) (sym (pieces_group (gr, y))) refl)

marks_second : (r m : Option Token) (t : Token) → Maybe (Is (codes "ref")) r → Maybe (Is (codes "mut")) m → Name t → Second (maybe piece r ++ (maybe piece m ++ piece t))
marks_second None None t a b n = not_next (at word.OpenParen) (tokens name_sort) (p.Token t ∷ []) refl (test.name.sorted t n)
marks_second None (Some m) t a b n = second_of (at word.Mut) (tokens name_sort) (p.Token m) (p.Token t ∷ []) refl refl ((sign word.Mut).sorted m b) (test.name.sorted t n)
marks_second (Some r) None t a b n = second_of (at word.Ref) (tokens name_sort) (p.Token r) (p.Token t ∷ []) refl refl ((sign word.Ref).sorted r a) (test.name.sorted t n)
marks_second (Some r) (Some m) t a b n = second_of (at word.Ref) (at word.Mut) (p.Token r) (p.Token m ∷ p.Token t ∷ []) refl refl ((sign word.Ref).sorted r a) ((sign word.Mut).sorted m b)

-- behind a path
behind : (f : Set) (d : ℕ) (y : Path) (t : Token) (zs : Pieces) → subset f (others stops) ≡ true → PathWithin d y → f.token (sort_of t) ≡ true → Second (path_pieces y ++ (p.Token t ∷ zs))
behind f d y t zs inc m is = second_append f (path_pieces y) (p.Token t ∷ zs) inc (path_second d y m) (not_next (at word.OpenParen) path_first (path_pieces y) refl (path_begins d y m)) is

node_second : (d : ℕ) (x : Pat) → PatNode (IsPat d) (PathWithin d) x → Second (pat_pieces x)
node_second d x (g.PatNode.wild {t} is m) =
    subst (λ k. Second (pat_pieces k)) (sym (same_pat x (pat.Wild t) (is ∙ sym (pat.outs-Wild t))))
    (subst (λ ys. Second ys) (sym (pieces_wild t)) (not_next (at word.OpenParen) (at word.Underscore) (p.Token t ∷ []) refl ((sign word.Underscore).sorted t m)))
node_second d x (g.PatNode.name {word_ref = r} {word_mut = w} {t} is a b n) =
    subst (λ k. Second (pat_pieces k)) (sym (same_pat x (pat.Name r w t) (is ∙ sym (pat.outs-Name r w t)))) (subst (λ ys. Second ys) (sym (pieces_name r w t)) (marks_second r w t a b n))
node_second d x (g.PatNode.literal {l} is m) =
    subst (λ k. Second (pat_pieces k)) (sym (same_pat x (pat.Literal l) (is ∙ sym (pat.outs-Literal l)))) (subst (λ ys. Second ys) (sym (pieces_literal l)) (literal_second true l m))
node_second d x (g.PatNode.range {start = s} {end = e} {dots = k} is a b c) =
    subst (λ k. Second (pat_pieces k)) (sym (same_pat x (pat.Range s k e) (is ∙ sym (pat.outs-Range s k e))))
    (subst (λ ys. Second ys) (sym (pieces_range s k e))
    (second_append (tokens dots_sort) (literal_pieces s) (p.Token k ∷ literal_pieces e) refl (literal_second true s a) (not_next (at word.OpenParen) signed_first (literal_pieces s) refl (literal_begins true s a)) (dots.sorted k b)))
node_second d x (g.PatNode.path {y} is m n) =
    subst (λ k. Second (pat_pieces k)) (sym (same_pat x (pat.Path y) (is ∙ sym (pat.outs-Path y)))) (subst (λ ys. Second ys) (sym (pieces_path_pat y)) (path_second d y m))
node_second d x (g.PatNode.tuple {y} {open' = o} {close = c} {fields} is m a b e) =
    subst (λ k. Second (pat_pieces k)) (sym (same_pat x (pat.Tuple y o fields c) (is ∙ sym (pat.outs-Tuple y o fields c))))
    (subst (λ ys. Second ys) (sym (pieces_tuple y o fields c)) (behind (at word.OpenParen) d y o (each (with_comma pat_pieces) fields ++ piece c) refl m ((sign word.OpenParen).sorted o a)))
node_second d x (g.PatNode.struct {y} {open' = o} {close = c} {fields} {rest} is m a b e f) =
    subst (λ k. Second (pat_pieces k)) (sym (same_pat x (pat.Struct y o fields rest c) (is ∙ sym (pat.outs-Struct y o fields rest c))))
    (subst (λ ys. Second ys) (sym (pieces_struct y o fields rest c)) (behind (at word.OpenBrace) d y o _ refl m ((sign word.OpenBrace).sorted o a)))
node_second d x (g.PatNode.group {y} {g = gr} is k ps m) =
    subst (λ k. Second (pat_pieces k)) (sym (same_pat x (pat.Group gr y) (is ∙ sym (pat.outs-Group gr y)))) (subst (λ ys. Second ys) (sym (pieces_pat_group gr y)) refl)

-- a pattern that isn't `( )`, nor has one of the signs behind its first piece
pub pat_second : (d : ℕ) (x : Pat) → IsPat d x → Second (pat_pieces x)
pat_second zero x m = absurd (no_pat_at x m)
pat_second (suc d) x m = node_second d x (pat_node_of d x m)

-- `mut` and a name
abbrev pub MutName : Pieces → Type 0
MutName ys = (a : Token) × (b : Token) × Is (codes "mut") a × Name b × (ys ≡ p.Token a ∷ p.Token b ∷ [])

marks_mut : (r m : Option Token) (t : Token) → Maybe (Is (codes "ref")) r → Maybe (Is (codes "mut")) m → Name t → next (at word.Mut) (maybe piece r ++ (maybe piece m ++ piece t)) ≡ true
    → MutName (maybe piece r ++ (maybe piece m ++ piece t))
marks_mut None None t a b n h = absurd (begins_apart (at word.Mut) (tokens name_sort) (p.Token t ∷ []) refl (test.name.sorted t n) h)
marks_mut None (Some m) t a b n h = (m, t, b, n, refl)
marks_mut (Some r) m t a b n h = absurd (begins_apart (at word.Mut) (at word.Ref) (p.Token r ∷ (maybe piece m ++ piece t)) refl ((sign word.Ref).sorted r a) h)

node_mut : (d : ℕ) (x : Pat) → PatNode (IsPat d) (PathWithin d) x → next (at word.Mut) (pat_pieces x) ≡ true → MutName (pat_pieces x)
node_mut d x (g.PatNode.wild {t} is m) h =
    absurd (begins_apart (at word.Mut) (at word.Underscore) (p.Token t ∷ []) refl ((sign word.Underscore).sorted t m)
    (subst (λ ys. next (at word.Mut) ys ≡ true) (ap (λ k. pat_pieces k) (same_pat x (pat.Wild t) (is ∙ sym (pat.outs-Wild t))) ∙ pieces_wild t) h))
node_mut d x (g.PatNode.name {word_ref = r} {word_mut = w} {t} is a b n) h =
    let eq : pat_pieces x ≡ maybe piece r ++ (maybe piece w ++ piece t) = ap (λ k. pat_pieces k) (same_pat x (pat.Name r w t) (is ∙ sym (pat.outs-Name r w t))) ∙ pieces_name r w t in
    subst (λ ys. MutName ys) (sym eq) (marks_mut r w t a b n (subst (λ ys. next (at word.Mut) ys ≡ true) eq h))
node_mut d x (g.PatNode.literal {l} is m) h =
    absurd (begins_apart (at word.Mut) signed_first (literal_pieces l) refl (literal_begins true l m)
    (subst (λ ys. next (at word.Mut) ys ≡ true) (ap (λ k. pat_pieces k) (same_pat x (pat.Literal l) (is ∙ sym (pat.outs-Literal l))) ∙ pieces_literal l) h))
node_mut d x (g.PatNode.range {start = s} {end = e} {dots = k} is a b c) h =
    absurd (begins_apart (at word.Mut) signed_first (literal_pieces s ++ (p.Token k ∷ literal_pieces e)) refl (begins_append signed_first (literal_pieces s) (p.Token k ∷ literal_pieces e) (literal_begins true s a))
    (subst (λ ys. next (at word.Mut) ys ≡ true) (ap (λ k. pat_pieces k) (same_pat x (pat.Range s k e) (is ∙ sym (pat.outs-Range s k e))) ∙ pieces_range s k e) h))
node_mut d x (g.PatNode.path {y} is m n) h =
    absurd (begins_apart (at word.Mut) path_first (path_pieces y) refl (path_begins d y m)
    (subst (λ ys. next (at word.Mut) ys ≡ true) (ap (λ k. pat_pieces k) (same_pat x (pat.Path y) (is ∙ sym (pat.outs-Path y))) ∙ pieces_path_pat y) h))
node_mut d x (g.PatNode.tuple {y} {open' = o} {close = c} {fields} is m a b e) h =
    absurd (begins_apart (at word.Mut) path_first _ refl (begins_append path_first (path_pieces y) (piece o ++ (each (with_comma pat_pieces) fields ++ piece c)) (path_begins d y m))
    (subst (λ ys. next (at word.Mut) ys ≡ true) (ap (λ k. pat_pieces k) (same_pat x (pat.Tuple y o fields c) (is ∙ sym (pat.outs-Tuple y o fields c))) ∙ pieces_tuple y o fields c) h))
node_mut d x (g.PatNode.struct {y} {open' = o} {close = c} {fields} {rest} is m a b e f) h =
    absurd (begins_apart (at word.Mut) path_first _ refl (begins_append path_first (path_pieces y) _ (path_begins d y m))
    (subst (λ ys. next (at word.Mut) ys ≡ true) (ap (λ k. pat_pieces k) (same_pat x (pat.Struct y o fields rest c) (is ∙ sym (pat.outs-Struct y o fields rest c))) ∙ pieces_struct y o fields rest c) h))
node_mut d x (g.PatNode.group {y} {g = gr} is k ps m) h =
    let none : false ≡ true = subst (λ ys. next (at word.Mut) ys ≡ true) (ap (λ k. pat_pieces k) (same_pat x (pat.Group gr y) (is ∙ sym (pat.outs-Group gr y))) ∙ pieces_pat_group gr y) h in cc

pub pat_mut : (d : ℕ) (x : Pat) → IsPat d x → next (at word.Mut) (pat_pieces x) ≡ true → MutName (pat_pieces x)
pat_mut zero x m h = absurd (no_pat_at x m)
pat_mut (suc d) x m h = node_mut d x (pat_node_of d x m) h
