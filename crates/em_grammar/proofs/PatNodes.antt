-- Patterns in the words of the grammar and in those of the library.
use Rattle.std.proofs.lemmas.List.{append-nil}
use Rattle.std.proofs.Common.{◌≡◌, ℕ, zero, suc, Bool, true, false, not, ◌&&◌, ◌||◌, if◌then◌else◌, List, [], ◌∷◌, ◌++◌, Option, Some, None, refl, sym, ◌∙◌, ap, subst, append_assoc, ◌⊎◌, inl, inr}
use Rattle.std.specs.Prelude.{codes}
use Rattle.std.specs.Option.{is_some}
use Rattle.em_base.specs.declared.token.Token.{Token}
use Rattle.em_tree.specs.declared.parts.Listed.{Listed}
use Rattle.em_tree.specs.declared.piece.FragmentKind.{FragmentKind}
use Rattle.em_tree.specs.declared.piece.FragmentKind.TheVariants as fk
use Rattle.em_tree.specs.declared.literal.Literal.{Literal}
use Rattle.em_tree.specs.declared.types.Path.{Path}
use Rattle.em_tree.specs.declared.pat.FieldPat.TheVariants as field
use Rattle.em_tree.specs.declared.pat.Pat.{Pat}
use Rattle.em_tree.specs.declared.pat.Pat.TheVariants as made
use Rattle.em_tree.specs.declared.pat.Alternative.{Alternative}
use Rattle.em_tree.specs.declared.pat.TopPat.{TopPat, out-TopPat}
use Rattle.em_tree.specs.declared.pat.TopPat.TheVariants as top
use Rattle.em_tree.specs.Parts.{maybe, each}
use Rattle.em_tree.specs.Starts.{Pieces, kind_of}
use Rattle.em_tree.specs.Tokens.{Is, Maybe, Name, before_2021}
use Rattle.em_tree.specs.Yields.{piece}
use Rattle.em_tree.specs.PathGrammar.{literal_pieces, path_pieces, IsLiteral, PathWithin, TypeWithin}
use Rattle.em_tree.specs.PatGrammar as g
use Rattle.em_tree.specs.PatGrammar.{pat_pieces, top_pieces, IsDots, IsNoName, HasCommas, IsField, IsRest, PatNode, IsPat, Others, Alternatives, IsTopPat}
use Rattle.em_grammar.specs.declared.sort.Written.TheVariants as word
use Rattle.em_grammar.specs.Sorts.{sort_of}
use Rattle.em_grammar.specs.Sets.{only, name_sort}
use Rattle.em_grammar.specs.Lang.{Sum, one, two, Chain, Seq, Opt, Many, Lists, Image, Or, Grp, Shift, with_comma}
use Rattle.em_grammar.specs.TypeReader.{alone}
use Rattle.em_grammar.specs.PatReader.{has_bar, pat_kind, only_pat, is_pat_group, is_top_group, dots_sort, Marked, ref_marked, mut_marked, marked_pat, is_dots, literal_pat, TupleParts, Field, StructParts, bare_pat, path_pat, marked_field, named_field, all_commas, pat_group_of, first_alternative, next_alternative, alternatives_of, top_group_of}
use Rattle.em_grammar.specs.Pairs.{Test}
use Rattle.em_grammar.proofs.Lists.{more_each, more_commas}
use Rattle.em_grammar.proofs.Tests.{sign, name}
use Rattle.em_grammar.proofs.PathPairs.{more_path}
use Rattle.em_grammar.proofs.PathFacts.{token_alone, lone_path, lone_alone, lone_pieces, alone_is}
use Rattle.em_grammar.proofs.TypeNodes.{lone_is, type_grows}
use Rattle.em_grammar.proofs.PatLayers.{field_pieces, same_pat, same_top, pieces_name, pieces_literal, pieces_range, pieces_path_pat, pieces_tuple, pieces_struct}

abbrev pub NodeIs : ℕ → Pat → Type 0
NodeIs d x = PatNode (IsPat d) (PathWithin d) x

abbrev pub FieldIs : ℕ → Field → Type 0
FieldIs d x = IsField (IsPat d) (PathWithin d) x

pub node_pat : (d : ℕ) (x : Pat) → NodeIs d x → IsPat (suc d) x
unfolding IsPat
node_pat d x m = m

pub pat_node_of : (d : ℕ) (x : Pat) → IsPat (suc d) x → NodeIs d x
unfolding IsPat
pat_node_of d x m = m

pub no_pat_at : (x : Pat) → IsPat zero x → ⊥
unfolding IsPat
no_pat_at x m = m

-- ---- one node more

module _ (I J : Pat → Type 0) (P Q : Path → Type 0) (h : (x : Pat) → I x → J x) (k : (x : Path) → P x → Q x) where
  more_field : (x : Field) → IsField I P x → IsField J Q x
  more_field (field.Full n c x) m = (m.0, m.1, h x m.2)
  more_field (field.Short r m n) q = q

  more_rest : (xs : List (Listed Field)) (o : Option Token) → IsRest I P xs o → IsRest J Q xs o
  more_rest xs None m = m
  more_rest xs (Some t) m = m

  more_node : (x : Pat) → PatNode I P x → PatNode J Q x
  more_node _ (g.PatNode.wild is a) = g.PatNode.wild is a
  more_node _ (g.PatNode.name is a b c) = g.PatNode.name is a b c
  more_node _ (g.PatNode.literal is a) = g.PatNode.literal is a
  more_node _ (g.PatNode.range is a b c) = g.PatNode.range is a b c
  more_node _ (g.PatNode.path {y} is a b) = g.PatNode.path is (k y a) b
  more_node _ (g.PatNode.tuple {y} {fields} is a b c e) = g.PatNode.tuple is (k y a) b (more_commas I J h fields c) e
  more_node _ (g.PatNode.struct {y} {fields} {rest} is a b c e f) = g.PatNode.struct is (k y a) b (more_commas (IsField I P) (IsField J Q) more_field fields c) (more_rest fields rest e) f
  more_node _ (g.PatNode.group {y} is a b m) = g.PatNode.group is a b (more_node y m)

pub path_more : (d : ℕ) (x : Path) → PathWithin d x → PathWithin (suc d) x
path_more d x m = more_path (TypeWithin d) (TypeWithin (suc d)) (type_grows d false) x m

pub pat_grows : (d : ℕ) (x : Pat) → IsPat d x → IsPat (suc d) x
pat_grows zero x m = absurd (no_pat_at x m)
pat_grows (suc d) x m = node_pat (suc d) x (more_node (IsPat d) (IsPat (suc d)) (PathWithin d) (PathWithin (suc d)) (pat_grows d) (path_more d) x (pat_node_of d x m))

-- ---- names with `ref` and `mut`

abbrev pub MarkedIs : ℕ → Marked → Type 0
MarkedIs = Or (Image ref_marked (Seq (λ d. Is (codes "ref")) (Seq (Opt (λ d. Is (codes "mut"))) (λ d. Name)))) (Image mut_marked (Seq (λ d. Is (codes "mut")) (λ d. Name)))

abbrev pub marked_pieces : Marked → Pieces
marked_pieces t = maybe piece t.0 ++ (maybe piece t.1.0 ++ piece t.1.1)

abbrev Marks : Marked → Type 0
Marks t = Maybe (Is (codes "ref")) t.0 × Maybe (Is (codes "mut")) t.1.0 × Name t.1.1

marked_to : (d : ℕ) (t : Marked) → MarkedIs d t → Marks t
marked_to d t (inl m) = subst (λ t. Marks t) (sym m.2) (m.1.0, m.1.1.0, m.1.1.1)
marked_to d t (inr m) = subst (λ t. Marks t) (sym m.2) (tt, m.1.0, m.1.1)

marked_of : (d : ℕ) (r m : Option Token) (n : Token) → Marks (r, (m, n)) → MarkedIs d (r, (m, n)) ⊎ ((r ≡ None) × (m ≡ None))
marked_of d (Some r) m n q = inl (inl ((r, (m, n)), (q.0, (q.1, q.2)), refl))
marked_of d None (Some m) n q = inl (inr ((m, n), (q.1, q.2), refl))
marked_of d None None n q = inr (refl, refl)

-- ---- fields

abbrev pub FieldSides : ℕ → Field → Type 0
FieldSides = Or (Image marked_field MarkedIs) (Image named_field (Seq (λ d. Name) (Opt (Seq (λ d. Is (codes ":")) IsPat))))

pub field_to : (d : ℕ) (x : Field) → FieldSides d x → FieldIs d x
field_to d x (inl m) = subst (λ x. FieldIs d x) (sym m.2) (marked_to d m.0 m.1)
field_to d x (inr m) = go m.0.0 m.0.1 m.1.0 m.1.1 m.2
  where
    go : (n : Token) (k : Option (Token × Pat)) → Name n → Opt (Seq (λ d. Is (codes ":")) IsPat) d k → x ≡ named_field (n, k) → FieldIs d x
    go n None a m is = subst (λ x. FieldIs d x) (sym is) (tt, tt, a)
    go n (Some k) a m is = subst (λ x. FieldIs d x) (sym is) (a, m.0, m.1)

pub field_of : (d : ℕ) (x : Field) → FieldIs d x → FieldSides d x
field_of d (field.Full n c x) m = inr ((n, Some (c, x)), (m.0, (m.1, m.2)), refl)
field_of d (field.Short r m n) q = go (marked_of d r m n q)
  where
    go : MarkedIs d (r, (m, n)) ⊎ ((r ≡ None) × (m ≡ None)) → FieldSides d (field.Short r m n)
    go (inl k) = inl ((r, (m, n)), k, refl)
    go (inr k) = inr ((n, None), (q.2, tt), ap (λ r. field.Short r m n) k.0 ∙ ap (λ m. field.Short None m n) k.1)

pub field_yield : (t : Token × Option (Token × Pat)) → field_pieces (named_field t) ≡ piece t.0 ++ maybe (λ k. piece k.0 ++ pat_pieces k.1) t.1
field_yield t = go t.0 t.1
  where
    go : (n : Token) (k : Option (Token × Pat)) → field_pieces (named_field (n, k)) ≡ piece n ++ maybe (λ k. piece k.0 ++ pat_pieces k.1) k
    go n None = refl
    go n (Some k) = refl

-- ---- what stands behind a path

some_is : {A : Type 0} (o : Option A) → is_some o ≡ true → (a : A) × (o ≡ Some a)
some_is None h = cc
some_is (Some a) h = (a, refl)

and_left : (a b : Bool) → (a && b) ≡ true → a ≡ true
and_left true b h = refl
and_left false b h = cc

and_right : (a b : Bool) → (a && b) ≡ true → b ≡ true
and_right true b h = h
and_right false b h = cc

and_both : (a b : Bool) → a ≡ true → b ≡ true → (a && b) ≡ true
and_both true b h k = k
and_both false b h k = cc

commas_to : (xs : List (Listed Field)) → all_commas xs ≡ true → HasCommas xs
commas_to [] h = tt
commas_to (x ∷ xs) h = (some_is x.comma (and_left (is_some x.comma) (all_commas xs) h), commas_to xs (and_right (is_some x.comma) (all_commas xs) h))

commas_from : (xs : List (Listed Field)) → HasCommas xs → all_commas xs ≡ true
commas_from [] h = refl
commas_from (x ∷ xs) h = and_both (is_some x.comma) (all_commas xs) (ap (λ o. is_some o) h.0.1) (commas_from xs h.1)

abbrev pub TupleIs : ℕ → TupleParts → Type 0
TupleIs = Seq (λ d. Is (codes "(")) (Seq (Lists IsPat) (λ d. Is (codes ")")))

abbrev pub EndIs : List (Listed Field) → ℕ → Option Token × Token → Type 0
EndIs fields = Seq (Opt (λ d x. (all_commas fields ≡ true) × Is (codes "..") x)) (λ d. Is (codes "}"))

abbrev pub StructIs : ℕ → StructParts → Type 0
StructIs = Chain (Seq (λ d. Is (codes "{")) (Lists FieldIs)) (λ t. EndIs t.1)

abbrev pub BehindIs : ℕ → Option (Sum TupleParts StructParts) → Type 0
BehindIs = Opt (Or (Image one TupleIs) (Image two StructIs))

abbrev pub behind_pieces : Sum TupleParts StructParts → Pieces
behind_pieces (one t) = piece t.0 ++ (each (with_comma pat_pieces) t.1.0 ++ piece t.1.1)
behind_pieces (two t) = (piece t.0.0 ++ each (with_comma field_pieces) t.0.1) ++ (maybe piece t.1.0 ++ piece t.1.1)

abbrev pub PathSide : ℕ → Pat → Type 0
PathSide = Image path_pat (Seq PathWithin BehindIs)

-- a path alone is a name, where it is one
bare_name : (x : Path) (t : Token) → alone x ≡ Some t → Name t → bare_pat x (alone x) ≡ made.Name None None t
bare_name x t at n = ap (λ o. bare_pat x o) at ∙ ap (λ b. if b then made.Name None None t else made.Path x) (name.told t n)

bare_path : (d : ℕ) (x : Path) → PathWithin d x → IsNoName x → bare_pat x (alone x) ≡ made.Path x
bare_path d x m other = go (alone x) refl
  where
    inside : (t : Token) (b : Bool) → alone x ≡ Some t → name_sort (sort_of t) ≡ b → (if b then made.Name None None t else made.Path x) ≡ made.Path x
    inside t true at is = absurd (other t (ap (λ k. path_pieces k) (alone_is x t at) ∙ lone_pieces t) (name.holds t is))
    inside t false at is = refl

    turn : (t : Token) → alone x ≡ Some t → bare_pat x (Some t) ≡ made.Path x
    turn t at = inside t (name_sort (sort_of t)) at refl

    go : (o : Option Token) → alone x ≡ o → bare_pat x o ≡ made.Path x
    go None at = refl
    go (Some t) at = turn t at

bare_node : (d : ℕ) (x : Path) → PathWithin d x → NodeIs d (bare_pat x (alone x))
bare_node d x m = go (alone x) refl
  where
    named : (t : Token) (b : Bool) → alone x ≡ Some t → name_sort (sort_of t) ≡ b → NodeIs d (if b then made.Name None None t else made.Path x)
    named t true at is = g.PatNode.name (made.outs-Name None None t) tt tt (name.holds t is)
    named t false at is = g.PatNode.path (made.outs-Path x) m (λ u ps n.
        let same : t ≡ u = (let both : Some t ≡ Some u = sym at ∙ token_alone (TypeWithin d) x u m ps in cc) in
        let told : name_sort (sort_of t) ≡ true = ap (λ k. name_sort (sort_of k)) same ∙ name.told u n in
        cc)

    go : (o : Option Token) → alone x ≡ o → NodeIs d (bare_pat x o)
    go None at = g.PatNode.path (made.outs-Path x) m (λ u ps n. let both : None ≡ Some u = sym at ∙ token_alone (TypeWithin d) x u m ps in cc)
    go (Some t) at = named t (name_sort (sort_of t)) at refl

bare_yield : (x : Path) → pat_pieces (bare_pat x (alone x)) ≡ path_pieces x
bare_yield x = go (alone x) refl
  where
    named : (t : Token) (b : Bool) → alone x ≡ Some t → pat_pieces (if b then made.Name None None t else made.Path x) ≡ path_pieces x
    named t true at = pieces_name None None t ∙ sym (ap (λ k. path_pieces k) (alone_is x t at) ∙ lone_pieces t)
    named t false at = pieces_path_pat x

    go : (o : Option Token) → alone x ≡ o → pat_pieces (bare_pat x o) ≡ path_pieces x
    go None at = pieces_path_pat x
    go (Some t) at = named t (name_sort (sort_of t)) at

pub path_yield : (x : Path) (k : Option (Sum TupleParts StructParts)) → pat_pieces (path_pat (x, k)) ≡ path_pieces x ++ maybe behind_pieces k
path_yield x None = bare_yield x ∙ sym (append-nil (path_pieces x))
path_yield x (Some (one t)) = pieces_tuple x t.0 t.1.0 t.1.1
path_yield x (Some (two t)) =
    pieces_struct x t.0.0 t.0.1 t.1.0 t.1.1
    ∙ ap (λ r. path_pieces x ++ r) (sym (append_assoc (piece t.0.0) (each (with_comma field_pieces) t.0.1) (maybe piece t.1.0 ++ piece t.1.1)))

rest_to : (d : ℕ) (fields : List (Listed Field)) (rest : Option Token) → Opt (λ d x. (all_commas fields ≡ true) × Is (codes "..") x) d rest → IsRest (IsPat d) (PathWithin d) fields rest
rest_to d fields None m = tt
rest_to d fields (Some t) m = (m.1, commas_to fields m.0)

rest_from : (d : ℕ) (fields : List (Listed Field)) (rest : Option Token) → IsRest (IsPat d) (PathWithin d) fields rest → Opt (λ d x. (all_commas fields ≡ true) × Is (codes "..") x) d rest
rest_from d fields None m = tt
rest_from d fields (Some t) m = (commas_from fields m.1, m.0)

path_to : (d : ℕ) (x : Path) (k : Option (Sum TupleParts StructParts)) → PathWithin d x → BehindIs d k → NodeIs d (path_pat (x, k))
path_to d x None m b = bare_node d x m
path_to d x (Some k) m (inl b) =
    subst (λ k. NodeIs d (path_pat (x, Some k))) (sym b.2) (g.PatNode.tuple (made.outs-Tuple x b.0.0 b.0.1.0 b.0.1.1) m b.1.0 b.1.1.0 b.1.1.1)
path_to d x (Some k) m (inr b) =
    subst (λ k. NodeIs d (path_pat (x, Some k))) (sym b.2)
    (g.PatNode.struct (made.outs-Struct x b.0.0.0 b.0.0.1 b.0.1.0 b.0.1.1) m b.1.0.0 b.1.0.1 (rest_to d b.0.0.1 b.0.1.0 b.1.1.0) b.1.1.1)

-- ---- literals and ranges

split_or : (a b : Bool) → (a || b) ≡ true → (a ≡ true) ⊎ (b ≡ true)
split_or true b h = inl refl
split_or false b h = inr h

or_one : (a b : Bool) → a ≡ true → (a || b) ≡ true
or_one true b h = refl
or_one false b h = cc

or_two : (a b : Bool) → b ≡ true → (a || b) ≡ true
or_two true b h = refl
or_two false b h = h

pub dots : Test IsDots is_dots dots_sort
dots = record { holds = λ t h. holds t (split_or (only word.DotDotEq (sort_of t)) (only word.DotDotDot (sort_of t) && before_2021 t.edition) h); told = told; sorted = sorted }
  where
    holds : (t : Token) → (only word.DotDotEq (sort_of t) ≡ true) ⊎ ((only word.DotDotDot (sort_of t) && before_2021 t.edition) ≡ true) → IsDots t
    holds t (inl h) = inl ((sign word.DotDotEq).holds t h)
    holds t (inr h) =
        inr ((sign word.DotDotDot).holds t (and_left (only word.DotDotDot (sort_of t)) (before_2021 t.edition) h), and_right (only word.DotDotDot (sort_of t)) (before_2021 t.edition) h)

    told : (t : Token) → IsDots t → is_dots t ≡ true
    told t (inl m) = or_one (only word.DotDotEq (sort_of t)) _ ((sign word.DotDotEq).told t m)
    told t (inr m) = or_two (only word.DotDotEq (sort_of t)) _ (and_both (only word.DotDotDot (sort_of t)) (before_2021 t.edition) ((sign word.DotDotDot).told t m.0) m.1)

    sorted : (t : Token) → IsDots t → dots_sort (sort_of t) ≡ true
    sorted t (inl m) = or_one (only word.DotDotEq (sort_of t)) _ ((sign word.DotDotEq).told t m)
    sorted t (inr m) = or_two (only word.DotDotEq (sort_of t)) _ (or_one (only word.DotDotDot (sort_of t)) _ ((sign word.DotDotDot).told t m.0))

abbrev pub LiteralSide : ℕ → Pat → Type 0
LiteralSide = Image literal_pat (Seq (λ d. IsLiteral true) (Opt (Seq (λ d. IsDots) (λ d. IsLiteral true))))

pub literal_yield : (l : Literal) (k : Option (Token × Literal)) → pat_pieces (literal_pat (l, k)) ≡ literal_pieces l ++ maybe (λ k. piece k.0 ++ literal_pieces k.1) k
literal_yield l None = pieces_literal l ∙ sym (append-nil (literal_pieces l))
literal_yield l (Some k) = pieces_range l k.0 k.1

literal_to : (d : ℕ) (l : Literal) (k : Option (Token × Literal)) → IsLiteral true l → Opt (Seq (λ d. IsDots) (λ d. IsLiteral true)) d k → NodeIs d (literal_pat (l, k))
literal_to d l None m b = g.PatNode.literal (made.outs-Literal l) m
literal_to d l (Some k) m b = g.PatNode.range (made.outs-Range l k.0 k.1) m b.0 b.1

-- ---- patterns

abbrev pub WildSide : ℕ → Pat → Type 0
WildSide = Image made.Wild (λ d. Is (codes "_"))

abbrev pub MarkedSide : ℕ → Pat → Type 0
MarkedSide = Image marked_pat MarkedIs

abbrev pub Sides : ℕ → Pat → Type 0
Sides = Or WildSide (Or MarkedSide (Or LiteralSide PathSide))

abbrev pub GroupSide : ℕ → Pat → Type 0
GroupSide = Image pat_group_of (Grp is_pat_group IsPat pat_pieces)

marked_node : (d : ℕ) (t : Marked) → Marks t → NodeIs d (marked_pat t)
marked_node d t m = g.PatNode.name (made.outs-Name t.0 t.1.0 t.1.1) m.0 m.1 m.2

sides_to : (d : ℕ) (x : Pat) → Sides d x → NodeIs d x
sides_to d x (inl m) = subst (λ x. NodeIs d x) (sym m.2) (g.PatNode.wild (made.outs-Wild m.0) m.1)
sides_to d x (inr (inl m)) = subst (λ x. NodeIs d x) (sym m.2) (marked_node d m.0 (marked_to d m.0 m.1))
sides_to d x (inr (inr (inl m))) = subst (λ x. NodeIs d x) (sym m.2) (literal_to d m.0.0 m.0.1 m.1.0 m.1.1)
sides_to d x (inr (inr (inr m))) = subst (λ x. NodeIs d x) (sym m.2) (path_to d m.0.0 m.0.1 m.1.0 m.1.1)

one_kind : (k : FragmentKind) (b : Bool) → (pat_kind k && not (only_pat k && b)) ≡ true → ((k ≡ fk.Pat) × (b ≡ false)) ⊎ (k ≡ fk.PatParam)
one_kind fk.Pat true h = cc
one_kind fk.Pat false h = inl (refl, refl)
one_kind fk.PatParam b h = inr refl
one_kind _ b h = cc

kind_one : (k : FragmentKind) (b : Bool) → ((k ≡ fk.Pat) × (b ≡ false)) ⊎ (k ≡ fk.PatParam) → (pat_kind k && not (only_pat k && b)) ≡ true
kind_one k b (inl h) = ap (λ k. pat_kind k && not (only_pat k && b)) h.0 ∙ ap (λ b. not b) h.1
kind_one k b (inr h) = ap (λ k. pat_kind k && not (only_pat k && b)) h

pub pat_to : (d : ℕ) (x : Pat) → Or (Shift Sides) GroupSide d x → IsPat d x
pat_to zero x (inl m) = absurd m
pat_to (suc d) x (inl m) = node_pat d x (sides_to d x m)
pat_to zero x (inr m) = absurd (no_pat_at m.0.1 m.1.2)
pat_to (suc d) x (inr m) =
    subst (λ x. IsPat (suc d) x) (sym m.2)
    (node_pat d (made.Group m.0.0 m.0.1) (g.PatNode.group (made.outs-Group m.0.0 m.0.1) (one_kind (kind_of m.0.0) (has_bar m.0.0) m.1.0) m.1.1 (pat_node_of d m.0.1 m.1.2)))

name_back : (d : ℕ) (x : Pat) (r m : Option Token) (t : Token) → x ≡ made.Name r m t → Marks (r, (m, t)) → Sides d x
name_back d x r m t is q = go (marked_of d r m t q)
  where
    go : MarkedIs d (r, (m, t)) ⊎ ((r ≡ None) × (m ≡ None)) → Sides d x
    go (inl k) = inr (inl ((r, (m, t)), k, is))
    go (inr k) = inr (inr (inr (
      (lone_path t, None),
      (lone_is t d q.2, tt),
      is ∙ ap (λ r. made.Name r m t) k.0 ∙ ap (λ m. made.Name None m t) k.1 ∙ sym (bare_name (lone_path t) t (lone_alone t) q.2),
    )))

pub pat_back : (d : ℕ) (x : Pat) → NodeIs d x → Or (Shift Sides) GroupSide (suc d) x
pat_back d _ (g.PatNode.wild {x} {t} is a) = inl (inl (t, a, same_pat x (made.Wild t) (is ∙ sym (made.outs-Wild t))))
pat_back d _ (g.PatNode.name {x} {word_ref} {word_mut} {t} is a b c) = inl (name_back d x word_ref word_mut t (same_pat x (made.Name word_ref word_mut t) (is ∙ sym (made.outs-Name word_ref word_mut t))) (a, b, c))
pat_back d _ (g.PatNode.literal {x} {l} is a) = inl (inr (inr (inl ((l, None), (a, tt), same_pat x (made.Literal l) (is ∙ sym (made.outs-Literal l))))))
pat_back d _ (g.PatNode.range {x} {start} {end} {dots = k} is a b c) =
    inl (inr (inr (inl ((start, Some (k, end)), (a, (b, c)), same_pat x (made.Range start k end) (is ∙ sym (made.outs-Range start k end))))))
pat_back d _ (g.PatNode.path {x} {y} is a b) =
    inl (inr (inr (inr ((y, None), (a, tt), same_pat x (made.Path y) (is ∙ sym (made.outs-Path y)) ∙ sym (bare_path d y a b)))))
pat_back d _ (g.PatNode.tuple {x} {y} {open' = o} {close = c} {fields} is a b m e) =
    inl (inr (inr (inr ((y, Some (one (o, (fields, c)))), (a, inl ((o, (fields, c)), (b, (m, e)), refl)), same_pat x (made.Tuple y o fields c) (is ∙ sym (made.outs-Tuple y o fields c))))))
pat_back d _ (g.PatNode.struct {x} {y} {open' = o} {close = c} {fields} {rest} is a b m r e) = inl (inr (inr (inr (
  (y, Some (two ((o, fields), (rest, c)))),
  (a, inr (((o, fields), (rest, c)), ((b, m), (rest_from d fields rest r, e)), refl)),
  same_pat x (made.Struct y o fields rest c) (is ∙ sym (made.outs-Struct y o fields rest c)),
))))
pat_back d _ (g.PatNode.group {x} {y} {g = gr} is k ps m) =
    inr ((gr, y), (kind_one (kind_of gr) (has_bar gr) k, ps, node_pat d y m), same_pat x (made.Group gr y) (is ∙ sym (made.outs-Group gr y)))

pub pat_of : (d : ℕ) (x : Pat) → IsPat d x → Or (Shift Sides) GroupSide d x
pat_of zero x m = absurd (no_pat_at x m)
pat_of (suc d) x m = pat_back d x (pat_node_of d x m)

-- ---- alternatives

abbrev pub FirstIs : ℕ → Alternative → Type 0
FirstIs d a = Maybe (Is (codes "|")) a.bar × IsPat d a.pat

abbrev pub NextIs : ℕ → Alternative → Type 0
NextIs d a = ((t : Token) × (a.bar ≡ Some t) × Is (codes "|") t) × IsPat d a.pat

abbrev pub ListSide : ℕ → TopPat → Type 0
ListSide = Image alternatives_of (Seq FirstIs (Many NextIs))

abbrev pub TopGroupSide : ℕ → TopPat → Type 0
TopGroupSide = Image top_group_of (Grp is_top_group IsTopPat top_pieces)

pub first_to : (d : ℕ) (a : Alternative) → Image first_alternative (Seq (Opt (λ d. Is (codes "|"))) IsPat) d a → FirstIs d a
first_to d a m = subst (λ a. FirstIs d a) (sym m.2) m.1

pub next_to : (d : ℕ) (a : Alternative) → Image next_alternative (Seq (λ d. Is (codes "|")) IsPat) d a → NextIs d a
next_to d a m = subst (λ a. NextIs d a) (sym m.2) ((m.0.0, refl, m.1.0), m.1.1)

pub next_of : (d : ℕ) (a : Alternative) → NextIs d a → Image next_alternative (Seq (λ d. Is (codes "|")) IsPat) d a
next_of d a m = ((m.0.0, a.pat), (m.0.2, m.1), ap (λ k. record { bar = k; pat = a.pat }) m.0.1)

kind_top : (k : FragmentKind) → only_pat k ≡ true → k ≡ fk.Pat
kind_top fk.Pat h = refl
kind_top _ h = cc

pub top_to : (d : ℕ) (x : TopPat) → Or TopGroupSide ListSide d x → IsTopPat d x
top_to d x (inl m) =
    g.IsTopPat.group (ap (λ k. out-TopPat k) m.2 ∙ top.outs-Group m.0.0 m.0.1) (kind_top (kind_of m.0.0) (and_left (only_pat (kind_of m.0.0)) (has_bar m.0.0) m.1.0))
    (and_right (only_pat (kind_of m.0.0)) (has_bar m.0.0) m.1.0) m.1.1 m.1.2
top_to d x (inr m) = g.IsTopPat.alternatives (ap (λ k. out-TopPat k) m.2 ∙ top.outs-Alternatives (m.0.0 ∷ m.0.1)) (m.1.0.0, m.1.0.1, m.1.1)

pub top_of : (d : ℕ) (x : TopPat) → IsTopPat d x → Or TopGroupSide ListSide d x
top_of d _ (g.IsTopPat.group {x} {y} {g = gr} is k b ps m) =
    inl ((gr, y), (and_both (only_pat (kind_of gr)) (has_bar gr) (ap (λ k. only_pat k) k) b, ps, m), same_top x (top.Group gr y) (is ∙ sym (top.outs-Group gr y)))
top_of d _ (g.IsTopPat.alternatives {x} {list} is m) = inr (go list m (same_top x (top.Alternatives list) (is ∙ sym (top.outs-Alternatives list))))
  where
    go : (xs : List Alternative) → Alternatives d xs → x ≡ top.Alternatives xs → ListSide d x
    go [] m is = absurd m
    go (a ∷ more) m is = ((a, more), ((m.0, m.1), m.2), is)

pub top_grows : (d : ℕ) (x : TopPat) → IsTopPat d x → IsTopPat (suc d) x
top_grows d _ (g.IsTopPat.group {y} is k b ps m) = g.IsTopPat.group is k b ps (top_grows d y m)
top_grows d _ (g.IsTopPat.alternatives {list} is m) = g.IsTopPat.alternatives is (go list m)
  where
    go : (xs : List Alternative) → Alternatives d xs → Alternatives (suc d) xs
    go [] m = absurd m
    go (a ∷ more) m = (m.0, pat_grows d a.pat m.1, more_each (NextIs d) (NextIs (suc d)) (λ a m. (m.0, pat_grows d a.pat m.1)) more m.2)
