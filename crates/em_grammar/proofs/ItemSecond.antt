-- The first pieces of paths and types.
use Rattle.std.proofs.lemmas.List.{append-nil}
use Rattle.std.proofs.Common.{◌≡◌, ℕ, zero, suc, Bool, true, false, List, [], ◌∷◌, ◌++◌, Option, Some, None, refl, sym, ◌∙◌, ap, subst, arith, ◌⊎◌, inl, inr}
use Rattle.std.specs.Prelude.{codes}
use Rattle.em_base.specs.declared.token.Token.{Token}
use Rattle.em_tree.specs.declared.piece.Piece.{Piece}
use Rattle.em_tree.specs.declared.piece.Piece.TheVariants as p
use Rattle.em_tree.specs.declared.types.PathStep.{PathStep}
use Rattle.em_tree.specs.declared.types.Path.{Path}
use Rattle.em_tree.specs.declared.types.Path.TheVariants as made
use Rattle.em_tree.specs.declared.types.Qualified.{out-Qualified}
use Rattle.em_tree.specs.declared.types.Bound.{Bound}
use Rattle.em_tree.specs.declared.types.Bound.TheVariants as bound
use Rattle.em_tree.specs.declared.types.TypeTree.{TypeTree}
use Rattle.em_tree.specs.declared.types.TypeTree.TheVariants as ty
use Rattle.em_tree.specs.Parts.{maybe, each}
use Rattle.em_tree.specs.Starts.{Pieces}
use Rattle.em_tree.specs.Tokens.{Is, IsOneOf, Maybe, Each}
use Rattle.em_tree.specs.Yields.{piece, opened, opened_piece}
use Rattle.em_tree.specs.PathGrammar as g
use Rattle.em_tree.specs.PathGrammar.{literal_pieces, path_pieces, type_pieces, NameOrRoot, IsSegment, IsStep, AreSegments, IsPath, IsType, TypeWithin, PathWithin, TypeNode, IsBound}
use Rattle.em_grammar.specs.declared.sort.Written.TheVariants as word
use Rattle.em_grammar.specs.declared.sort.Weak.TheVariants as weak
use Rattle.em_grammar.specs.Sorts.{sort_of}
use Rattle.em_grammar.specs.Sets.{Set, next, subset, tokens, others, only, is_sign, any_of, weak_is}
use Rattle.em_grammar.specs.PathReader.{root_sort, path_first}
use Rattle.em_grammar.specs.TypeReader.{type_first}
use Rattle.em_grammar.specs.Reader.{Found, Absent, and_then, seq, token}
use Rattle.em_grammar.specs.ItemReader.{at, mark, scopes, scope_of, scope}
use Rattle.em_grammar.specs.Pairs.{Begins, MayBegin}
use Rattle.em_grammar.proofs.Pairs.{in_subset, begins_append, may_begin, next_others, whole_token, absent_token}
use Rattle.em_grammar.proofs.Tests.{sign, several, box_test, dyn_test}
use Rattle.em_grammar.proofs.PathLayers.{same_path, same_type, same_bound, bound_pieces, at_qualified, pieces_plain, pieces_qualified, pieces_path_group, pieces_path_bound, pieces_call, pieces_path_type, pieces_boxed, pieces_ref, pieces_ref_ref, pieces_array, pieces_slice, pieces_unit, pieces_dyn, pieces_bare, pieces_type_group}
use Rattle.em_grammar.proofs.PathPairs.{step_pieces, root}
use Rattle.em_grammar.proofs.PathFacts.{Opens, opens_token, opened_group, each_append, path_opens}
use Rattle.em_grammar.proofs.TypeNodes.{DeeperIs, type_node_of, no_type_at}
use Rattle.em_grammar.proofs.TypePairs.{types_read, paths_read}
use Rattle.em_grammar.proofs.ItemPartPairs.{scope_pair}

-- signs that stand behind a parameter, and between a pattern and its type
abbrev pub stops : Set
stops = tokens (λ s. any_of (word.Colon ∷ word.Comma ∷ word.CloseParen ∷ []) s)

-- the second piece is none of these signs, but for `( )`
abbrev pub Second : Pieces → Type 0
Second [] = ⊥
Second (x ∷ []) = next (at word.OpenParen) (x ∷ []) ≡ false
Second (x ∷ y ∷ zs) = ((next (at word.OpenParen) (x ∷ []) ≡ false) × (next stops (y ∷ []) ≡ false)) ⊎ ((next (at word.OpenParen) (x ∷ []) ≡ true) × (next (at word.CloseParen) (y ∷ []) ≡ true))

pub head_only : (s : Set) (x : Piece) (xs : Pieces) → next s (x ∷ xs) ≡ next s (x ∷ [])
head_only s (p.Token t) xs = refl
head_only s (p.Group g) xs = refl

pub second_of : (f g : Set) (x : Piece) (zs : Pieces) → subset f (others (at word.OpenParen)) ≡ true → subset g (others stops) ≡ true → next f (x ∷ []) ≡ true → MayBegin g zs → Second (x ∷ zs)
second_of f g x [] a b is m = next_others (at word.OpenParen) (x ∷ []) (in_subset f (others (at word.OpenParen)) a (x ∷ []) is)
second_of f g x (y ∷ zs) a b is m =
    inl (
      next_others (at word.OpenParen) (x ∷ []) (in_subset f (others (at word.OpenParen)) a (x ∷ []) is),
      next_others stops (y ∷ []) (in_subset g (others stops) b (y ∷ []) (sym (head_only g y zs) ∙ m)),
    )

pub second_append : (g : Set) (xs zs : Pieces) → subset g (others stops) ≡ true → Second xs → (next (at word.OpenParen) xs ≡ false) → MayBegin g zs → Second (xs ++ zs)
second_append g [] zs b s o m = absurd s
second_append g (x ∷ []) [] b s o m = s
second_append g (x ∷ []) (y ∷ zs) b s o m = inl (s, next_others stops (y ∷ []) (in_subset g (others stops) b (y ∷ []) (sym (head_only g y zs) ∙ m)))
second_append g (x ∷ y ∷ xs) zs b s o m = s

-- ---- paths

steps_begin : (more : List PathStep) → Each IsStep more → MayBegin (at word.PathSep) (each step_pieces more)
steps_begin [] m = tt
steps_begin (s ∷ more) m = (sign word.PathSep).sorted s.separator m.0.0

abbrev name_first : Set
name_first = tokens root_sort

segments_second : (lead dollar : Option Token) (n : Token) (more : List PathStep) → Maybe (Is (codes "::")) lead → NameOrRoot dollar n → Each IsStep more
    → Second (maybe piece lead ++ ((maybe piece dollar ++ piece n) ++ each step_pieces more))
segments_second (Some c) (Some d) n more a m k = second_of (at word.PathSep) (at word.Dollar) (p.Token c) (p.Token d ∷ p.Token n ∷ each step_pieces more) refl refl ((sign word.PathSep).sorted c a) ((sign word.Dollar).sorted d m.0)
segments_second (Some c) None n more a m k = second_of (at word.PathSep) name_first (p.Token c) (p.Token n ∷ each step_pieces more) refl refl ((sign word.PathSep).sorted c a) (root.sorted n m)
segments_second None (Some d) n more a m k = second_of (at word.Dollar) (at word.Crate) (p.Token d) (p.Token n ∷ each step_pieces more) refl refl ((sign word.Dollar).sorted d m.0) ((sign word.Crate).sorted n m.1)
segments_second None None n more a m k = second_of name_first (at word.PathSep) (p.Token n) (each step_pieces more) refl refl (root.sorted n m) (steps_begin more k)

module _ (I : TypeTree → Type 0) (begins : (x : TypeTree) → I x → Begins type_first (type_pieces x)) where
  path_second_of : (x : Path) → IsPath I x → Second (path_pieces x)
  path_second_of _ (g.IsPath.plain {x} {s} is m) =
      subst (λ k. Second (path_pieces k)) (sym (same_path x (made.Plain s) (is ∙ sym (made.outs-Plain s))))
      (subst (λ ys. Second ys) (sym (pieces_plain s)) (segments_second s.lead s.first.dollar s.first.name s.more m.lead m.first m.more))
  path_second_of _ (g.IsPath.qualified {x} {q} is a b c k e f n) =
      subst (λ k. Second (path_pieces k)) (sym (same_path x (made.Qualified q) (is ∙ sym (made.outs-Qualified q))))
      (subst (λ ys. Second ys) (sym (pieces_qualified q ∙ at_qualified q (out-Qualified q) refl))
      (second_of (at word.Lt) type_first (p.Token (out-Qualified q).open) _ refl refl ((sign word.Lt).sorted (out-Qualified q).open a)
      (may_begin type_first _ (begins_append type_first (type_pieces (out-Qualified q).self_type) _ (begins (out-Qualified q).self_type b)))))
  path_second_of _ (g.IsPath.group {x} {y} {g = gr} is k ps m) =
      subst (λ k. Second (path_pieces k)) (sym (same_path x (made.Group gr y) (is ∙ sym (made.outs-Group gr y)))) (subst (λ ys. Second ys) (sym (pieces_path_group gr y)) refl)

-- ---- types

pub type_begins : (d : ℕ) (o : Bool) (x : TypeTree) → IsType d o x → Begins type_first (type_pieces x)
type_begins d o x m = (types_read 0 d true).begins d (x, o) (omega arith) (m, λ _. refl)

deeper_begins : (d : ℕ) (o : Bool) (x : TypeTree) → DeeperIs d o x → Begins type_first (type_pieces x)
deeper_begins zero o x m = absurd m
deeper_begins (suc d) o x m = type_begins d o x m

pub path_begins : (d : ℕ) (x : Path) → PathWithin d x → Begins path_first (path_pieces x)
path_begins d x m = (paths_read 0 d).begins d x (omega arith) m

pub path_second : (d : ℕ) (x : Path) → PathWithin d x → Second (path_pieces x)
path_second d x m = path_second_of (TypeWithin d) (λ x m. type_begins d false x m) x m

no_paren : (d : ℕ) (x : Path) → PathWithin d x → next (at word.OpenParen) (path_pieces x) ≡ false
no_paren d x m = go (path_pieces x) (path_begins d x m)
  where
    go : (ys : Pieces) → Begins path_first ys → next (at word.OpenParen) ys ≡ false
    go [] b = absurd b
    go (y ∷ ys) b = next_others (at word.OpenParen) (y ∷ ys) (in_subset path_first (others (at word.OpenParen)) refl (y ∷ ys) b)

bound_begins : (d : ℕ) (o : Bool) (b : Bound) → IsBound (IsType d) (DeeperIs d) o b → Begins path_first (bound_pieces b)
bound_begins d _ b (g.IsBound.path {x} is m e) =
    subst (λ k. Begins path_first (bound_pieces k)) (sym (same_bound b (bound.Path x) (is ∙ sym (bound.outs-Path x)))) (subst (λ ys. Begins path_first ys) (sym (pieces_path_bound x)) (path_begins d x m))
bound_begins d _ b (g.IsBound.call {x} {open' = o} {close = c} {inputs} {output = out} is m) =
    subst (λ k. Begins path_first (bound_pieces k)) (sym (same_bound b (bound.Call x o inputs c out) (is ∙ sym (bound.outs-Call x o inputs c out))))
    (subst (λ ys. Begins path_first ys) (sym (pieces_call x o inputs c out)) (begins_append path_first (path_pieces x) _ (path_begins d x m.is_path)))

-- behind a sign that isn't `(`
after : (f : Set) (t : Token) (ws : Pieces) → subset f (others (at word.OpenParen)) ≡ true → f.token (sort_of t) ≡ true → Begins type_first ws → (zs : Pieces) → Second (p.Token t ∷ (ws ++ zs))
after f t ws a is b zs = second_of f type_first (p.Token t) (ws ++ zs) a refl is (may_begin type_first (ws ++ zs) (begins_append type_first ws zs b))

maybe_mut : (f : Set) (t : Token) (m : Option Token) (ws : Pieces) → subset f (others (at word.OpenParen)) ≡ true → f.token (sort_of t) ≡ true → Maybe (Is (codes "mut")) m → Begins type_first ws
    → Second (p.Token t ∷ (maybe piece m ++ ws))
maybe_mut f t None ws a is m b = second_of f type_first (p.Token t) ws a refl is (may_begin type_first ws b)
maybe_mut f t (Some u) ws a is m b = second_of f (at word.Mut) (p.Token t) (p.Token u ∷ ws) a refl is ((sign word.Mut).sorted u m)

node_second : (d : ℕ) (o : Bool) (x : TypeTree) → TypeNode (IsType d) (DeeperIs d) o x → Second (type_pieces x)
node_second d _ x (g.TypeNode.path {y} is m) =
    subst (λ k. Second (type_pieces k)) (sym (same_type x (ty.Path y) (is ∙ sym (ty.outs-Path y)))) (subst (λ ys. Second ys) (sym (pieces_path_type y)) (path_second d y m))
node_second d _ x (g.TypeNode.boxed {y} {word = w} {open' = o} {close = c} is a n b m) =
    subst (λ k. Second (type_pieces k)) (sym (same_type x (ty.Boxed w o y c) (is ∙ sym (ty.outs-Boxed w o y c))))
    (subst (λ ys. Second ys) (sym (pieces_boxed w o y c)) (second_of (tokens (weak_is weak.Box)) (at word.Lt) (p.Token w) (p.Token o ∷ (type_pieces y ++ maybe piece c)) refl refl (box_test.sorted w a) ((sign word.Lt).sorted o b)))
node_second d _ x (g.TypeNode.ref {owes} {y} {amp} {word_mut = w} is a b m) =
    subst (λ k. Second (type_pieces k)) (sym (same_type x (ty.Ref amp w y) (is ∙ sym (ty.outs-Ref amp w y))))
    (subst (λ ys. Second ys) (sym (pieces_ref amp w y)) (maybe_mut (at word.And) amp w (type_pieces y) refl ((sign word.And).sorted amp a) b (type_begins d owes y m)))
node_second d _ x (g.TypeNode.ref_ref {owes} {y} {amps} {word_mut = w} is a b m) =
    subst (λ k. Second (type_pieces k)) (sym (same_type x (ty.RefRef amps w y) (is ∙ sym (ty.outs-RefRef amps w y))))
    (subst (λ ys. Second ys) (sym (pieces_ref_ref amps w y)) (maybe_mut (at word.AndAnd) amps w (type_pieces y) refl ((sign word.AndAnd).sorted amps a) b (deeper_begins d owes y m)))
node_second d _ x (g.TypeNode.array {y} {open' = o} {semi} {close = c} {length} is a m b k e) =
    subst (λ k. Second (type_pieces k)) (sym (same_type x (ty.Array o y semi length c) (is ∙ sym (ty.outs-Array o y semi length c))))
    (subst (λ ys. Second ys) (sym (pieces_array o y semi length c)) (after (at word.OpenBracket) o (type_pieces y) refl ((sign word.OpenBracket).sorted o a) (type_begins d false y m) _))
node_second d _ x (g.TypeNode.slice {y} {open' = o} {close = c} is a m b) =
    subst (λ k. Second (type_pieces k)) (sym (same_type x (ty.Slice o y c) (is ∙ sym (ty.outs-Slice o y c))))
    (subst (λ ys. Second ys) (sym (pieces_slice o y c)) (after (at word.OpenBracket) o (type_pieces y) refl ((sign word.OpenBracket).sorted o a) (type_begins d false y m) _))
node_second d _ x (g.TypeNode.unit {open' = o} {close = c} is a b) =
    subst (λ k. Second (type_pieces k)) (sym (same_type x (ty.Unit o c) (is ∙ sym (ty.outs-Unit o c))))
    (subst (λ ys. Second ys) (sym (pieces_unit o c)) (inr ((sign word.OpenParen).sorted o a, (sign word.CloseParen).sorted c b)))
node_second d _ x (g.TypeNode.dyn {owes} {word = w} {b} is a m) =
    subst (λ k. Second (type_pieces k)) (sym (same_type x (ty.Dyn w b) (is ∙ sym (ty.outs-Dyn w b))))
    (subst (λ ys. Second ys) (sym (pieces_dyn w b))
    (second_of (tokens (weak_is weak.Dyn)) path_first (p.Token w) (bound_pieces b) refl refl (dyn_test.sorted w a.0) (may_begin path_first (bound_pieces b) (bound_begins d owes b m))))
node_second d _ x (g.TypeNode.bare {b} {y} {open' = o} {close = c} {inputs} {output = out} is at m old n) =
    subst (λ k. Second (type_pieces k)) (sym (same_type x (ty.Bare b) (is ∙ sym (ty.outs-Bare b))))
    (subst (λ ys. Second ys) (sym (pieces_bare b ∙ ap (λ k. bound_pieces k) (same_bound b (bound.Call y o inputs c out) (at ∙ sym (bound.outs-Call y o inputs c out))) ∙ pieces_call y o inputs c out))
    (second_append (tokens (only word.OpenParen)) (path_pieces y) _ refl (path_second d y m.is_path) (no_paren d y m.is_path) ((sign word.OpenParen).sorted o m.opens)))
node_second d _ x (g.TypeNode.group {y} {g = gr} is k ps m) =
    subst (λ k. Second (type_pieces k)) (sym (same_type x (ty.Group gr y) (is ∙ sym (ty.outs-Group gr y)))) (subst (λ ys. Second ys) (sym (pieces_type_group gr y)) refl)

pub type_second : (d : ℕ) (o : Bool) (x : TypeTree) → IsType d o x → Second (type_pieces x)
type_second zero o x m = absurd (no_type_at o x m)
type_second (suc d) o x m = node_second d o x (type_node_of d o x m)

-- behind a type's `(` stands no module
pub no_scope : (d : ℕ) (x : TypeTree) (r : Pieces) → TypeWithin d x → scope (type_pieces x ++ r) ≡ Absent
no_scope d x r m = go (type_pieces x) (type_second d false x m)
  where
    other : (x : Piece) (r : Pieces) → next (at word.OpenParen) (x ∷ []) ≡ false → scope (x ∷ r) ≡ Absent
    other x r h = (scope_pair (λ _. ⊥) 0).absent (x ∷ r) (head_only (at word.OpenParen) x r ∙ h)

    unit : (x y : Piece) (r : Pieces) → next (at word.OpenParen) (x ∷ []) ≡ true → next (at word.CloseParen) (y ∷ []) ≡ true → scope (x ∷ y ∷ r) ≡ Absent
    unit (p.Group g) y r h k = cc
    unit (p.Token a) (p.Group g) r h k = cc
    unit (p.Token a) (p.Token b) r h k =
        ap (λ q. and_then (and_then q (λ x i. and_then (seq (token (λ t. any_of scopes (sort_of t))) (mark word.CloseParen) i) (λ u s. Found (x, u) s))) (λ t s. Found (scope_of t) s))
        (whole_token (Is (codes "(")) (is_sign word.OpenParen) (only word.OpenParen) (sign word.OpenParen) a (p.Token b ∷ r) ((sign word.OpenParen).holds a h))
        ∙ ap (λ q. and_then (and_then (and_then q (λ x i. and_then (mark word.CloseParen i) (λ u s. Found (x, u) s))) (λ u s. Found (a, u) s)) (λ t s. Found (scope_of t) s))
        (absent_token (IsOneOf (codes "crate" ∷ codes "self" ∷ codes "super" ∷ [])) (λ t. any_of scopes (sort_of t)) (any_of scopes) (several scopes) (p.Token b ∷ r)
        (next_others (tokens (any_of scopes)) (p.Token b ∷ r) (in_subset (at word.CloseParen) (others (tokens (any_of scopes))) refl (p.Token b ∷ r) k)))

    go : (ys : Pieces) → Second ys → scope (ys ++ r) ≡ Absent
    go [] s = absurd s
    go (x ∷ []) s = other x r s
    go (x ∷ y ∷ ys) (inl s) = other x (y ∷ (ys ++ r)) s.0
    go (x ∷ y ∷ ys) (inr s) = unit x y (ys ++ r) s.0 s.1

-- ---- references

apart : (f : Set) (ys : Pieces) → subset f (others (at word.And)) ≡ true → Begins f ys → next (at word.And) ys ≡ true → ⊥
apart f [] inc b h = b
apart f (y ∷ ys) inc b h = let not_and : next (at word.And) (y ∷ ys) ≡ false = next_others (at word.And) (y ∷ ys) (in_subset f (others (at word.And)) inc (y ∷ ys) b) in cc

-- the pieces of a reference
abbrev pub RefPieces : Bool → Pieces → Type 0
RefPieces o ys = (amp : Token) × (m : Option Token) × (y : TypeTree) × (e : ℕ) × Is (codes "&") amp × Maybe (Is (codes "mut")) m × IsType e o y × (ys ≡ piece amp ++ (maybe piece m ++ type_pieces y))

node_ref : (d : ℕ) (o : Bool) (x : TypeTree) → TypeNode (IsType d) (DeeperIs d) o x → next (at word.And) (type_pieces x) ≡ true → RefPieces o (type_pieces x)
node_ref d _ x (g.TypeNode.path {y} is m) h =
    absurd (apart path_first (path_pieces y) refl (path_begins d y m) (subst (λ ys. next (at word.And) ys ≡ true) (ap (λ k. type_pieces k) (same_type x (ty.Path y) (is ∙ sym (ty.outs-Path y))) ∙ pieces_path_type y) h))
node_ref d _ x (g.TypeNode.boxed {y} {word = w} {open' = o} {close = c} is a n b m) h =
    absurd (apart (tokens (weak_is weak.Box)) (p.Token w ∷ (p.Token o ∷ (type_pieces y ++ maybe piece c))) refl (box_test.sorted w a)
    (subst (λ ys. next (at word.And) ys ≡ true) (ap (λ k. type_pieces k) (same_type x (ty.Boxed w o y c) (is ∙ sym (ty.outs-Boxed w o y c))) ∙ pieces_boxed w o y c) h))
node_ref d _ x (g.TypeNode.ref {owes} {y} {amp} {word_mut = w} is a b m) h = (amp, w, y, d, a, b, m, ap (λ k. type_pieces k) (same_type x (ty.Ref amp w y) (is ∙ sym (ty.outs-Ref amp w y))) ∙ pieces_ref amp w y)
node_ref d _ x (g.TypeNode.ref_ref {owes} {y} {amps} {word_mut = w} is a b m) h =
    absurd (apart (at word.AndAnd) (p.Token amps ∷ (maybe piece w ++ type_pieces y)) refl ((sign word.AndAnd).sorted amps a)
    (subst (λ ys. next (at word.And) ys ≡ true) (ap (λ k. type_pieces k) (same_type x (ty.RefRef amps w y) (is ∙ sym (ty.outs-RefRef amps w y))) ∙ pieces_ref_ref amps w y) h))
node_ref d _ x (g.TypeNode.array {y} {open' = o} {semi} {close = c} {length} is a m b k e) h =
    absurd (apart (at word.OpenBracket) (p.Token o ∷ (type_pieces y ++ (piece semi ++ (literal_pieces length ++ piece c)))) refl ((sign word.OpenBracket).sorted o a)
    (subst (λ ys. next (at word.And) ys ≡ true) (ap (λ k. type_pieces k) (same_type x (ty.Array o y semi length c) (is ∙ sym (ty.outs-Array o y semi length c))) ∙ pieces_array o y semi length c) h))
node_ref d _ x (g.TypeNode.slice {y} {open' = o} {close = c} is a m b) h =
    absurd (apart (at word.OpenBracket) (p.Token o ∷ (type_pieces y ++ piece c)) refl ((sign word.OpenBracket).sorted o a)
    (subst (λ ys. next (at word.And) ys ≡ true) (ap (λ k. type_pieces k) (same_type x (ty.Slice o y c) (is ∙ sym (ty.outs-Slice o y c))) ∙ pieces_slice o y c) h))
node_ref d _ x (g.TypeNode.unit {open' = o} {close = c} is a b) h =
    absurd (apart (at word.OpenParen) (p.Token o ∷ piece c) refl ((sign word.OpenParen).sorted o a)
    (subst (λ ys. next (at word.And) ys ≡ true) (ap (λ k. type_pieces k) (same_type x (ty.Unit o c) (is ∙ sym (ty.outs-Unit o c))) ∙ pieces_unit o c) h))
node_ref d _ x (g.TypeNode.dyn {owes} {word = w} {b} is a m) h =
    absurd (apart (tokens (weak_is weak.Dyn)) (p.Token w ∷ bound_pieces b) refl (dyn_test.sorted w a.0)
    (subst (λ ys. next (at word.And) ys ≡ true) (ap (λ k. type_pieces k) (same_type x (ty.Dyn w b) (is ∙ sym (ty.outs-Dyn w b))) ∙ pieces_dyn w b) h))
node_ref d _ x (g.TypeNode.bare {b} {y} {open' = o} {close = c} {inputs} {output = out} is at' m old n) h =
    absurd (apart path_first (bound_pieces b) refl (bound_begins d _ b (g.IsBound.call at' m))
    (subst (λ ys. next (at word.And) ys ≡ true) (ap (λ k. type_pieces k) (same_type x (ty.Bare b) (is ∙ sym (ty.outs-Bare b))) ∙ pieces_bare b) h))
node_ref d _ x (g.TypeNode.group {y} {g = gr} is k ps m) h =
    let none : false ≡ true = subst (λ ys. next (at word.And) ys ≡ true) (ap (λ k. type_pieces k) (same_type x (ty.Group gr y) (is ∙ sym (ty.outs-Group gr y))) ∙ pieces_type_group gr y) h in cc

pub type_ref : (d : ℕ) (o : Bool) (x : TypeTree) → IsType d o x → next (at word.And) (type_pieces x) ≡ true → RefPieces o (type_pieces x)
type_ref zero o x m h = absurd (no_type_at o x m)
type_ref (suc d) o x m h = node_ref d o x (type_node_of d o x m) h

-- ---- types opened

opens_append : (xs zs : Pieces) → Opens xs → Opens (xs ++ zs)
opens_append xs zs o = (o.0, o.1 ++ opened zs, each_append opened_piece xs zs ∙ ap (λ k. k ++ opened zs) o.2)

bound_opens : (d : ℕ) (o : Bool) (b : Bound) → IsBound (IsType d) (DeeperIs d) o b → Opens (bound_pieces b)
bound_opens d _ b (g.IsBound.path {x} is m e) =
    subst (λ k. Opens (bound_pieces k)) (sym (same_bound b (bound.Path x) (is ∙ sym (bound.outs-Path x)))) (subst (λ ys. Opens ys) (sym (pieces_path_bound x)) (path_opens (IsType d false) x m))
bound_opens d _ b (g.IsBound.call {x} {open' = o} {close = c} {inputs} {output = out} is m) =
    subst (λ k. Opens (bound_pieces k)) (sym (same_bound b (bound.Call x o inputs c out) (is ∙ sym (bound.outs-Call x o inputs c out))))
    (subst (λ ys. Opens ys) (sym (pieces_call x o inputs c out)) (opens_append (path_pieces x) _ (path_opens (IsType d false) x m.is_path)))

node_opens : (d : ℕ) (o : Bool) (x : TypeTree) → TypeNode (IsType d) (DeeperIs d) o x → Opens (type_pieces x)
node_opens d _ x (g.TypeNode.path {y} is m) =
    subst (λ k. Opens (type_pieces k)) (sym (same_type x (ty.Path y) (is ∙ sym (ty.outs-Path y)))) (subst (λ ys. Opens ys) (sym (pieces_path_type y)) (path_opens (IsType d false) y m))
node_opens d _ x (g.TypeNode.boxed {y} {word = w} {open' = o} {close = c} is a n b m) =
    subst (λ k. Opens (type_pieces k)) (sym (same_type x (ty.Boxed w o y c) (is ∙ sym (ty.outs-Boxed w o y c)))) (subst (λ ys. Opens ys) (sym (pieces_boxed w o y c)) (opens_token w (p.Token o ∷ (type_pieces y ++ maybe piece c))))
node_opens d _ x (g.TypeNode.ref {owes} {y} {amp} {word_mut = w} is a b m) =
    subst (λ k. Opens (type_pieces k)) (sym (same_type x (ty.Ref amp w y) (is ∙ sym (ty.outs-Ref amp w y)))) (subst (λ ys. Opens ys) (sym (pieces_ref amp w y)) (opens_token amp _))
node_opens d _ x (g.TypeNode.ref_ref {owes} {y} {amps} {word_mut = w} is a b m) =
    subst (λ k. Opens (type_pieces k)) (sym (same_type x (ty.RefRef amps w y) (is ∙ sym (ty.outs-RefRef amps w y)))) (subst (λ ys. Opens ys) (sym (pieces_ref_ref amps w y)) (opens_token amps _))
node_opens d _ x (g.TypeNode.array {y} {open' = o} {semi} {close = c} {length} is a m b k e) =
    subst (λ k. Opens (type_pieces k)) (sym (same_type x (ty.Array o y semi length c) (is ∙ sym (ty.outs-Array o y semi length c)))) (subst (λ ys. Opens ys) (sym (pieces_array o y semi length c)) (opens_token o _))
node_opens d _ x (g.TypeNode.slice {y} {open' = o} {close = c} is a m b) =
    subst (λ k. Opens (type_pieces k)) (sym (same_type x (ty.Slice o y c) (is ∙ sym (ty.outs-Slice o y c)))) (subst (λ ys. Opens ys) (sym (pieces_slice o y c)) (opens_token o _))
node_opens d _ x (g.TypeNode.unit {open' = o} {close = c} is a b) =
    subst (λ k. Opens (type_pieces k)) (sym (same_type x (ty.Unit o c) (is ∙ sym (ty.outs-Unit o c)))) (subst (λ ys. Opens ys) (sym (pieces_unit o c)) (opens_token o (piece c)))
node_opens d _ x (g.TypeNode.dyn {owes} {word = w} {b} is a m) =
    subst (λ k. Opens (type_pieces k)) (sym (same_type x (ty.Dyn w b) (is ∙ sym (ty.outs-Dyn w b)))) (subst (λ ys. Opens ys) (sym (pieces_dyn w b)) (opens_token w _))
node_opens d _ x (g.TypeNode.bare {owes} {b} is at' m old n) =
    subst (λ k. Opens (type_pieces k)) (sym (same_type x (ty.Bare b) (is ∙ sym (ty.outs-Bare b)))) (subst (λ ys. Opens ys) (sym (pieces_bare b)) (bound_opens d owes b (g.IsBound.call at' m)))
node_opens d _ x (g.TypeNode.group {y} {g = gr} is k ps m) =
    let o : Opens (type_pieces y) = node_opens d _ y m in
    subst (λ k. Opens (type_pieces k)) (sym (same_type x (ty.Group gr y) (is ∙ sym (ty.outs-Group gr y))))
    (subst (λ ys. Opens ys) (sym (pieces_type_group gr y)) (o.0, o.1, append-nil (opened_piece (p.Group gr)) ∙ opened_group gr ∙ ap (λ ys. opened ys) ps ∙ o.2))

pub type_opens : (d : ℕ) (o : Bool) (x : TypeTree) → IsType d o x → Opens (type_pieces x)
type_opens zero o x m = absurd (no_type_at o x m)
type_opens (suc d) o x m = node_opens d o x (type_node_of d o x m)
