-- Whether a pattern is a `_`, one level at a time.
use Rattle.std.proofs.Common.{◌≡◌, Bool, true, false, if◌then◌else◌, List, [], ◌∷◌, ◌++◌, codes, Option, Some, None, ℕ, ◌+◌, ◌<◌, ◌≤◌, length, drop, slice_index_or, refl, sym, ap, ◌∙◌}
use Rattle.std.proofs.lemmas.List.{append-nil, at_drop_more, at_drop_all}
use Rattle.em_base.specs.declared.token.Token.{Token}
use Rattle.em_tree.specs.declared.piece.Group.{Group}
use Rattle.em_tree.specs.declared.piece.Piece.{Piece}
use Rattle.em_tree.specs.declared.piece.Piece.TheVariants as p
use Rattle.em_tree.specs.declared.parts.Listed.{Listed}
use Rattle.em_tree.specs.declared.literal.Literal.{Literal}
use Rattle.em_tree.specs.declared.literal.Literal.TheVariants as literal
use Rattle.em_tree.specs.declared.types.Segment.{Segment}
use Rattle.em_tree.specs.declared.types.Segments.{Segments}
use Rattle.em_tree.specs.declared.types.PathStep.{PathStep}
use Rattle.em_tree.specs.declared.types.Path.{Path}
use Rattle.em_tree.specs.declared.types.Path.TheVariants as path
use Rattle.em_tree.specs.declared.types.Qualified.{Qualified, out-Qualified}
use Rattle.em_tree.specs.declared.types.Bound.{Bound}
use Rattle.em_tree.specs.declared.types.Bound.TheOpen.{Qualified-F}
use Rattle.em_tree.specs.declared.types.Output.{Output}
use Rattle.em_tree.specs.declared.types.TypeTree.{TypeTree}
use Rattle.em_tree.specs.declared.pat.FieldPat.{FieldPat}
use Rattle.em_tree.specs.declared.pat.Pat.{Pat}
use Rattle.em_tree.specs.declared.pat.Pat.TheVariants as pat
use Rattle.em_tree.specs.Starts.{Pieces, pieces_of, is_spelled}
use Rattle.em_tree.specs.Parts.{each, maybe, literal_parts, segment_parts, segments_parts, path_step_parts, path_parts, qualified_parts, type_tree_parts, pat_parts}
use Rattle.em_tree.specs.Yields.{opened, opened_piece, piece, whole, as_it_is}
use Rattle.em_grammar.specs.Lang.{with_comma}
use Rattle.em_grammar.specs.StmtReader.{blank_tokens, is_blank}
use Rattle.em_grammar.proofs.LiteralPairs.{pieces_token, pieces_negative, pieces_group}
use Rattle.em_grammar.proofs.PathLayers.{at_qualified, pieces_plain, pieces_qualified, pieces_path_group}
use Rattle.em_grammar.proofs.PathFacts.{opened_token, opened_group, each_append}
use Rattle.em_grammar.proofs.PatLayers.{field_pieces, pieces_wild, pieces_name, pieces_literal, pieces_range, pieces_path_pat, pieces_tuple, pieces_struct, pieces_pat_group}
use Rattle.em_read_exprs.specs.declared.blank.Seen.{Seen}
use Rattle.em_read_exprs.specs.declared.blank.Seen.TheVariants as seen
use Rattle.em_read_exprs.specs.Blank.{told, both}

-- ---- tokens together

nothing_last : (a : Seen) → both a seen.Nothing ≡ a
nothing_last seen.Nothing = refl
nothing_last seen.Underscore = refl
nothing_last seen.Other = refl

one_is : (b : Bool) → both (if b then seen.Underscore else seen.Other) seen.Other ≡ seen.Other
one_is true = refl
one_is false = refl

two_are : (b c : Bool) → both (if b then seen.Underscore else seen.Other) (if c then seen.Underscore else seen.Other) ≡ seen.Other
two_are true true = refl
two_are true false = refl
two_are false c = refl

told_both : (xs ys : List Token) → told (xs ++ ys) ≡ both (told xs) (told ys)
told_both [] ys = refl
told_both (t ∷ []) [] = sym (nothing_last (told (t ∷ [])))
told_both (t ∷ []) (u ∷ []) = sym (two_are (is_spelled (codes "_" ∷ []) t) (is_spelled (codes "_" ∷ []) u))
told_both (t ∷ []) (u ∷ v ∷ ys) = sym (one_is (is_spelled (codes "_" ∷ []) t))
told_both (t ∷ u ∷ xs) ys = refl

both_assoc : (a b c : Seen) → both (both a b) c ≡ both a (both b c)
both_assoc seen.Nothing b c = refl
both_assoc seen.Underscore seen.Nothing c = refl
both_assoc seen.Underscore seen.Underscore seen.Nothing = refl
both_assoc seen.Underscore seen.Underscore seen.Underscore = refl
both_assoc seen.Underscore seen.Underscore seen.Other = refl
both_assoc seen.Underscore seen.Other seen.Nothing = refl
both_assoc seen.Underscore seen.Other seen.Underscore = refl
both_assoc seen.Underscore seen.Other seen.Other = refl
both_assoc seen.Other b c = refl

-- ---- pieces

told_pieces : (xs ys : Pieces) → told (opened (xs ++ ys)) ≡ both (told (opened xs)) (told (opened ys))
told_pieces xs ys = ap told (each_append opened_piece xs ys) ∙ told_both (opened xs) (opened ys)

pub one_more : (xs : Pieces) (at : ℕ) (x : Piece) (a b c : Seen) → at < length xs → x ≡ slice_index_or xs at x → told (opened xs) ≡ both a (told (opened (drop at xs))) → b ≡ told (opened_piece x) → c ≡ both a b
    → told (opened xs) ≡ both c (told (opened (drop (at + 1) xs)))
one_more xs at x a b c below is e f g =
    let step : told (opened (drop at xs)) ≡ told (opened_piece (slice_index_or xs at x) ++ opened (drop (at + 1) xs)) = at_drop_more (λ ys. told (opened ys)) xs at x below in
    let here : told (opened (drop at xs)) ≡ both (told (opened_piece x)) (told (opened (drop (at + 1) xs))) =
    step ∙ told_both (opened_piece (slice_index_or xs at x)) (opened (drop (at + 1) xs)) ∙ ap (λ y. both (told (opened_piece y)) (told (opened (drop (at + 1) xs)))) (sym is) in
    rw (g, f) (e ∙ (ap (λ z. both a z) here ∙ sym (both_assoc a (told (opened_piece x)) (told (opened (drop (at + 1) xs))))))

pub no_more : (xs : Pieces) (at : ℕ) (a : Seen) → length xs ≤ at → told (opened xs) ≡ both a (told (opened (drop at xs))) → a ≡ told (opened xs)
no_more xs at a past e = sym (e ∙ (ap (λ z. both a z) (at_drop_all (λ ys. told (opened ys)) xs at past) ∙ nothing_last a))

pub of_token : (x : Piece) (t : Token) (s : Seen) → x ≡ p.Token t → s ≡ told (t ∷ []) → s ≡ told (opened_piece x)
of_token x t s is e = e ∙ sym (ap told (ap opened_piece is ∙ opened_token t))

pub of_group : (x : Piece) (g : Group) (s : Seen) → x ≡ p.Group g → s ≡ told (opened (pieces_of g)) → s ≡ told (opened_piece x)
of_group x g s is e = e ∙ sym (ap told (ap opened_piece is ∙ opened_group g))

told_token : (t : Token) → told (opened (piece t)) ≡ told (t ∷ [])
told_token t = ap (λ ts. told (ts ++ [])) (opened_token t)

told_group : (g : Group) → told (opened (p.Group g ∷ [])) ≡ told (opened (pieces_of g))
told_group g = ap (λ ts. told (ts ++ [])) (opened_group g) ∙ ap told (append-nil (opened (pieces_of g)))

pub of_none : (o : Option Token) → o ≡ None → seen.Nothing ≡ told (opened (maybe piece o))
of_none o is = sym (ap (λ k. told (opened (maybe piece k))) is)

pub of_some : (o : Option Token) (t : Token) (s : Seen) → o ≡ Some t → s ≡ told (t ∷ []) → s ≡ told (opened (maybe piece o))
of_some o t s is e = e ∙ (sym (told_token t) ∙ sym (ap (λ k. told (opened (maybe piece k))) is))

-- ---- at least one token, and at least two

abbrev some : Seen → Bool
some seen.Nothing = false
some _ = true

some_left : (a b : Seen) → some a ≡ true → some (both a b) ≡ true
some_left seen.Nothing b h = cc
some_left seen.Underscore seen.Nothing h = refl
some_left seen.Underscore seen.Underscore h = refl
some_left seen.Underscore seen.Other h = refl
some_left seen.Other b h = refl

some_right : (a b : Seen) → some b ≡ true → some (both a b) ≡ true
some_right seen.Nothing b h = h
some_right seen.Underscore seen.Nothing h = refl
some_right seen.Underscore seen.Underscore h = refl
some_right seen.Underscore seen.Other h = refl
some_right seen.Other b h = refl

two : (a b : Seen) → some a ≡ true → some b ≡ true → both a b ≡ seen.Other
two seen.Nothing b h k = cc
two seen.Underscore seen.Nothing h k = cc
two seen.Underscore seen.Underscore h k = refl
two seen.Underscore seen.Other h k = refl
two seen.Other b h k = refl

other_last : (a : Seen) → both a seen.Other ≡ seen.Other
other_last seen.Nothing = refl
other_last seen.Underscore = refl
other_last seen.Other = refl

some_if : (b : Bool) → some (if b then seen.Underscore else seen.Other) ≡ true
some_if true = refl
some_if false = refl

abbrev Some' : Pieces → Type 0
Some' xs = some (told (opened xs)) ≡ true

abbrev Others : Pieces → Type 0
Others xs = told (opened xs) ≡ seen.Other

some_token : (t : Token) → Some' (piece t)
some_token t = ap some (told_token t) ∙ some_if (is_spelled (codes "_" ∷ []) t)

some_front : (xs ys : Pieces) → Some' xs → Some' (xs ++ ys)
some_front xs ys h = ap some (told_pieces xs ys) ∙ some_left (told (opened xs)) (told (opened ys)) h

some_back : (xs ys : Pieces) → Some' ys → Some' (xs ++ ys)
some_back xs ys h = ap some (told_pieces xs ys) ∙ some_right (told (opened xs)) (told (opened ys)) h

others : (xs ys : Pieces) → Some' xs → Some' ys → Others (xs ++ ys)
others xs ys h k = told_pieces xs ys ∙ two (told (opened xs)) (told (opened ys)) h k

others_back : (xs ys : Pieces) → Others ys → Others (xs ++ ys)
others_back xs ys h = told_pieces xs ys ∙ (ap (λ k. both (told (opened xs)) k) h ∙ other_last (told (opened xs)))

-- ---- literals

abbrev Ps : Type 0
Ps = List Piece

abbrev literal_pieces : Literal → Ps
literal_pieces x = literal_parts piece whole as_it_is x

pub of_literal_token : (x : Literal) (t : Token) (s : Seen) → x ≡ literal.Token t → s ≡ told (t ∷ []) → s ≡ told (opened (literal_pieces x))
of_literal_token x t s is e = e ∙ sym (ap (λ k. told (opened (literal_pieces k))) is ∙ (ap (λ ys. told (opened ys)) (pieces_token t) ∙ told_token t))

pub of_literal_negative : (x : Literal) (t : Token) (v : Literal) (a b s : Seen) → x ≡ literal.Negative t v → a ≡ told (t ∷ []) → b ≡ told (opened (literal_pieces v)) → s ≡ both a b
    → s ≡ told (opened (literal_pieces x))
of_literal_negative x t v a b s is e f g = rw (g, e, f) (sym (ap (λ k. told (opened (literal_pieces k))) is ∙ (ap (λ ys. told (opened ys)) (pieces_negative (t, v))
    ∙ (told_pieces (piece t) (literal_pieces v) ∙ ap (λ k. both k (told (opened (literal_pieces v)))) (told_token t)))))

pub of_literal_group : (x : Literal) (g : Group) (v : Literal) (s : Seen) → x ≡ literal.Group g v → s ≡ told (opened (pieces_of g)) → s ≡ told (opened (literal_pieces x))
of_literal_group x g v s is e = e ∙ sym (ap (λ k. told (opened (literal_pieces k))) is ∙ (ap (λ ys. told (opened ys)) (pieces_group (g, v)) ∙ told_group g))

-- ---- paths

some_steps : (xs : List PathStep) → (xs ≡ [] → ⊥) → Some' (each (path_step_parts piece whole as_it_is) xs)
some_steps [] h = absurd (h refl)
some_steps (y ∷ ys) h = some_front (path_step_parts piece whole as_it_is y) (each (path_step_parts piece whole as_it_is) ys) (some_front (piece y.separator) (maybe piece y.segment.dollar ++ piece y.segment.name) (some_token y.separator))

pub of_more_segments : (x : Segments) → (x.more ≡ [] → ⊥) → seen.Other ≡ told (opened (segments_parts piece whole as_it_is x))
of_more_segments x h = sym (others_back (maybe piece x.lead) ((maybe piece x.first.dollar ++ piece x.first.name) ++ each (path_step_parts piece whole as_it_is) x.more)
    (others (maybe piece x.first.dollar ++ piece x.first.name) (each (path_step_parts piece whole as_it_is) x.more) (some_back (maybe piece x.first.dollar) (piece x.first.name) (some_token x.first.name)) (some_steps x.more h)))

pub of_segment : (x : Segment) (a b s : Seen) → a ≡ told (opened (maybe piece x.dollar)) → b ≡ told (x.name ∷ []) → s ≡ both a b → s ≡ told (opened (segment_parts piece whole as_it_is x))
of_segment x a b s e f g = rw (g, e, f) (sym (told_pieces (maybe piece x.dollar) (piece x.name) ∙ ap (λ z. both (told (opened (maybe piece x.dollar))) z) (told_token x.name)))

pub of_one_segment : (x : Segments) (a b s : Seen) → x.more ≡ [] → a ≡ told (opened (maybe piece x.lead)) → b ≡ told (opened (segment_parts piece whole as_it_is x.first)) → s ≡ both a b
    → s ≡ told (opened (segments_parts piece whole as_it_is x))
of_one_segment x a b s none e f g = rw (g, e, f) (sym (
    ap (λ ys. told (opened (maybe piece x.lead ++ (segment_parts piece whole as_it_is x.first ++ each (path_step_parts piece whole as_it_is) ys)))) none
    ∙ (ap (λ ys. told (opened (maybe piece x.lead ++ ys))) (append-nil (segment_parts piece whole as_it_is x.first))
    ∙ told_pieces (maybe piece x.lead) (segment_parts piece whole as_it_is x.first))))

abbrev path_pieces : Path → Ps
path_pieces x = path_parts piece whole as_it_is x

abbrev behind_trait : Qualified-F Bound Output Path TypeTree Qualified → Ps
behind_trait q = path_pieces q.of_trait ++ (piece q.close ++ (piece q.separator ++ piece q.name))

qualified_others : (x : Qualified) → Others (qualified_parts piece whole as_it_is x)
qualified_others x = at_layer (out-Qualified x) (at_qualified x (out-Qualified x) refl)
  where
    at_layer : (q : Qualified-F Bound Output Path TypeTree Qualified) → qualified_parts piece whole as_it_is x ≡ piece q.open ++ (type_tree_parts piece whole as_it_is q.self_type ++ (piece q.word ++ behind_trait q)) → Others (qualified_parts piece whole as_it_is x)
    at_layer q is = ap (λ ys. told (opened ys)) is
        ∙ others (piece q.open) (type_tree_parts piece whole as_it_is q.self_type ++ (piece q.word ++ behind_trait q)) (some_token q.open)
        (some_back (type_tree_parts piece whole as_it_is q.self_type) (piece q.word ++ behind_trait q) (some_front (piece q.word) (behind_trait q) (some_token q.word)))

pub of_path_plain : (x : Path) (y : Segments) (s : Seen) → x ≡ path.Plain y → s ≡ told (opened (segments_parts piece whole as_it_is y)) → s ≡ told (opened (path_pieces x))
of_path_plain x y s is e = e ∙ sym (ap (λ k. told (opened (path_pieces k))) is ∙ ap (λ ys. told (opened ys)) (pieces_plain y))

pub of_path_qualified : (x : Path) (y : Qualified) → x ≡ path.Qualified y → seen.Other ≡ told (opened (path_pieces x))
of_path_qualified x y is = sym (ap (λ k. told (opened (path_pieces k))) is ∙ (ap (λ ys. told (opened ys)) (pieces_qualified y) ∙ qualified_others y))

pub of_path_group : (x : Path) (g : Group) (y : Path) (s : Seen) → x ≡ path.Group g y → s ≡ told (opened (pieces_of g)) → s ≡ told (opened (path_pieces x))
of_path_group x g y s is e = e ∙ sym (ap (λ k. told (opened (path_pieces k))) is ∙ (ap (λ ys. told (opened ys)) (pieces_path_group g y) ∙ told_group g))

-- ---- patterns

abbrev pat_pieces : Pat → Ps
pat_pieces x = pat_parts piece whole as_it_is x

seen_at : (x y : Pat) (ys : Ps) → x ≡ y → pat_pieces y ≡ ys → told (opened (pat_pieces x)) ≡ told (opened ys)
seen_at x y ys is e = ap (λ k. told (opened (pat_pieces k))) is ∙ ap (λ zs. told (opened zs)) e

pub of_pat_wild : (x : Pat) (t : Token) (s : Seen) → x ≡ pat.Wild t → s ≡ told (t ∷ []) → s ≡ told (opened (pat_pieces x))
of_pat_wild x t s is e = e ∙ sym (seen_at x (pat.Wild t) _ is (pieces_wild t) ∙ told_token t)

pub of_name : (r m : Option Token) (t : Token) (a b c d s : Seen) → a ≡ told (opened (maybe piece r)) → b ≡ told (opened (maybe piece m)) → c ≡ told (t ∷ []) → d ≡ both b c → s ≡ both a d
    → s ≡ told (opened (maybe piece r ++ (maybe piece m ++ piece t)))
of_name r m t a b c d s e f g h k = rw (k, h, e, f, g) (sym (told_pieces (maybe piece r) (maybe piece m ++ piece t)
    ∙ ap (λ z. both (told (opened (maybe piece r))) z) (told_pieces (maybe piece m) (piece t) ∙ ap (λ z. both (told (opened (maybe piece m))) z) (told_token t))))

pub of_pat_name : (x : Pat) (r m : Option Token) (t : Token) (s : Seen) → x ≡ pat.Name r m t → s ≡ told (opened (maybe piece r ++ (maybe piece m ++ piece t))) → s ≡ told (opened (pat_pieces x))
of_pat_name x r m t s is e = e ∙ sym (seen_at x (pat.Name r m t) _ is (pieces_name r m t))

pub of_pat_literal : (x : Pat) (y : Literal) (s : Seen) → x ≡ pat.Literal y → s ≡ told (opened (literal_pieces y)) → s ≡ told (opened (pat_pieces x))
of_pat_literal x y s is e = e ∙ sym (seen_at x (pat.Literal y) _ is (pieces_literal y))

pub of_range : (u : Literal) (t : Token) (v : Literal) (a b c d s : Seen) → a ≡ told (opened (literal_pieces u)) → b ≡ told (t ∷ []) → c ≡ told (opened (literal_pieces v)) → d ≡ both b c → s ≡ both a d
    → s ≡ told (opened (literal_pieces u ++ (piece t ++ literal_pieces v)))
of_range u t v a b c d s e f g h k = rw (k, h, e, f, g) (sym (told_pieces (literal_pieces u) (piece t ++ literal_pieces v)
    ∙ ap (λ z. both (told (opened (literal_pieces u))) z) (told_pieces (piece t) (literal_pieces v) ∙ ap (λ z. both z (told (opened (literal_pieces v)))) (told_token t))))

pub of_pat_range : (x : Pat) (u : Literal) (t : Token) (v : Literal) (s : Seen) → x ≡ pat.Range u t v → s ≡ told (opened (literal_pieces u ++ (piece t ++ literal_pieces v))) → s ≡ told (opened (pat_pieces x))
of_pat_range x u t v s is e = e ∙ sym (seen_at x (pat.Range u t v) _ is (pieces_range u t v))

pub of_pat_path : (x : Pat) (y : Path) (s : Seen) → x ≡ pat.Path y → s ≡ told (opened (path_pieces y)) → s ≡ told (opened (pat_pieces x))
of_pat_path x y s is e = e ∙ sym (seen_at x (pat.Path y) _ is (pieces_path_pat y))

pub of_pat_tuple : (x : Pat) (y : Path) (o : Token) (xs : List (Listed Pat)) (c : Token) → x ≡ pat.Tuple y o xs c → seen.Other ≡ told (opened (pat_pieces x))
of_pat_tuple x y o xs c is = sym (seen_at x (pat.Tuple y o xs c) _ is (pieces_tuple y o xs c)
    ∙ others_back (path_pieces y) (piece o ++ (each (with_comma pat_pieces) xs ++ piece c)) (others (piece o) (each (with_comma pat_pieces) xs ++ piece c) (some_token o) (some_back (each (with_comma pat_pieces) xs) (piece c) (some_token c))))

pub of_pat_struct : (x : Pat) (y : Path) (o : Token) (xs : List (Listed (FieldPat Pat))) (r : Option Token) (c : Token) → x ≡ pat.Struct y o xs r c → seen.Other ≡ told (opened (pat_pieces x))
of_pat_struct x y o xs r c is = sym (seen_at x (pat.Struct y o xs r c) _ is (pieces_struct y o xs r c)
    ∙ others_back (path_pieces y) (piece o ++ (each (with_comma field_pieces) xs ++ (maybe piece r ++ piece c))) (others (piece o) (each (with_comma field_pieces) xs ++ (maybe piece r ++ piece c)) (some_token o)
    (some_back (each (with_comma field_pieces) xs) (maybe piece r ++ piece c) (some_back (maybe piece r) (piece c) (some_token c)))))

pub of_pat_group : (x : Pat) (g : Group) (y : Pat) (s : Seen) → x ≡ pat.Group g y → s ≡ told (opened (pieces_of g)) → s ≡ told (opened (pat_pieces x))
of_pat_group x g y s is e = e ∙ sym (seen_at x (pat.Group g y) _ is (pieces_pat_group g y) ∙ told_group g)

-- ---- the whole

abbrev is_one : Seen → Bool
is_one seen.Underscore = true
is_one _ = false

one_blank : (b : Bool) → b ≡ is_one (if b then seen.Underscore else seen.Other)
one_blank true = refl
one_blank false = refl

pub blank_is : (ts : List Token) → blank_tokens ts ≡ is_one (told ts)
blank_is [] = refl
blank_is (t ∷ []) = one_blank (is_spelled (codes "_" ∷ []) t)
blank_is (t ∷ u ∷ ts) = refl

pub blank_yes : (x : Pat) (s : Seen) → s ≡ told (opened (pat_pieces x)) → s ≡ seen.Underscore → true ≡ is_blank x
blank_yes x s e f = sym (blank_is (opened (pat_pieces x)) ∙ ap is_one (sym e ∙ f))

pub blank_no : (x : Pat) (s : Seen) → s ≡ told (opened (pat_pieces x)) → is_one s ≡ false → false ≡ is_blank x
blank_no x s e f = sym (blank_is (opened (pat_pieces x)) ∙ (ap is_one (sym e) ∙ f))
