-- Patterns are read.
use Rattle.std.proofs.Common.{◌≡◌, ℕ, zero, suc, ◌≤◌, Bool, true, false, not, ◌&&◌, if◌then◌else◌, List, [], ◌∷◌, ◌++◌, Option, Some, None, refl, ◌∙◌, ap, append_assoc, arith, inl, inr}
use Rattle.em_base.specs.declared.token.Token.{Token}
use Rattle.em_tree.specs.declared.parts.Listed.{Listed}
use Rattle.em_tree.specs.declared.piece.Group.{Group}
use Rattle.em_tree.specs.declared.piece.Piece.TheVariants as p
use Rattle.em_tree.specs.declared.literal.Literal.{Literal}
use Rattle.em_tree.specs.declared.types.Path.{Path}
use Rattle.em_tree.specs.declared.pat.Pat.{Pat}
use Rattle.em_tree.specs.declared.pat.Pat.TheVariants as made
use Rattle.em_tree.specs.declared.pat.TopPat.{TopPat}
use Rattle.em_tree.specs.Parts.{maybe, each}
use Rattle.em_tree.specs.Starts.{Pieces, kind_of, pieces_of}
use Rattle.em_tree.specs.Yields.{piece}
use Rattle.em_tree.specs.PathGrammar.{path_pieces, PathWithin}
use Rattle.em_tree.specs.PatGrammar.{pat_pieces, top_pieces, IsPat, IsTopPat}
use Rattle.em_grammar.specs.declared.sort.Written.{Written}
use Rattle.em_grammar.specs.declared.sort.Written.TheVariants as word
use Rattle.em_grammar.specs.Sets.{Set, next, subset, either, both, others, tokens, groups, anything, only, is_sign, name_sort, Nested}
use Rattle.em_grammar.specs.Lang.{Sum, one, two, Or, Shift, joined, with_comma}
use Rattle.em_grammar.specs.Reader.{Read, Found, Absent, Deep, and_then, token, seq, mapped, opt, entire, group}
use Rattle.em_grammar.specs.LiteralReader.{signed_first, literal_in}
use Rattle.em_grammar.specs.PathReader.{path_first, path_clear}
use Rattle.em_grammar.specs.TypeReader.{path_in}
use Rattle.em_grammar.specs.PatReader.{has_bar, pat_kind, only_pat, is_pat_group, is_top_group, mark_first, pat_node_first, pat_first, dots_sort, pat_clear, ref_marked, mut_marked, name, marked, marked_pat, is_dots, literal_pat, TupleParts, Field, StructParts, path_pat, marked_field, named_field, all_commas, pat_group_of, tuple_parts, pat_field, struct_end, struct_parts, behind_path, pat_token, pat_node, pat_by, pat_in, top_first, top_clear, first_alternative, next_alternative, alternatives_of, top_group_of, alternatives, top_node, top_pat_in}
use Rattle.em_grammar.specs.Pairs.{Pair, Part, Begins, Firm, Steady}
use Rattle.em_grammar.proofs.AllSorts.{and-left}
use Rattle.em_grammar.proofs.Pairs.{tok, tail_of, chain_of, seq_of, seq_part, part_seq, opt_of, opt_clear, may_opt, in_subset, begins_next}
use Rattle.em_grammar.proofs.Lists.{many_of, commas_of}
use Rattle.em_grammar.proofs.Forms.{image_of, or_of, or_apart, same_of, shift_of, when_of, Opened, opened_of, unopened, group_of}
use Rattle.em_grammar.proofs.Steady.{firm_same, firm_deep, firm_chain, firm_seq, firm_map, firm_opt, firm_else, firm_choice, firm_many, firm_commas, firm_group}
use Rattle.em_grammar.proofs.Tests as test
use Rattle.em_grammar.proofs.Tests.{sign}
use Rattle.em_grammar.proofs.LiteralPairs.{literal_reads}
use Rattle.em_grammar.proofs.TypePairs.{paths_read, nothing_pair}
use Rattle.em_grammar.proofs.FirmTypes.{literal_firm, paths_firm}
use Rattle.em_grammar.proofs.PatLayers.{field_pieces, alternative_pieces, pieces_wild, pieces_name, pieces_pat_group, pieces_alternatives, pieces_top_group}
use Rattle.em_grammar.proofs.PatNodes.{MarkedIs, marked_pieces, FieldIs, field_to, field_of, field_yield, TupleIs, EndIs, StructIs, BehindIs, behind_pieces, PathSide, path_yield, dots, LiteralSide, literal_yield, WildSide, MarkedSide, Sides, GroupSide, pat_to, pat_of, pat_grows, no_pat_at, FirstIs, NextIs, ListSide, first_to, next_to, next_of, top_to, top_of, top_grows}

-- what a field doesn't go on with
abbrev field_clear : Set
field_clear = both pat_clear (others (tokens (only word.Colon)))

abbrev field_first : Set
field_first = either mark_first (tokens name_sort)

abbrev behind_first : Set
behind_first = either (tokens (only word.OpenParen)) (tokens (only word.OpenBrace))

in_dots : (k : Option (Token × Literal)) → subset pat_clear (both anything (opt_clear (tokens dots_sort) (λ _. anything) k)) ≡ true
in_dots None = refl
in_dots (Some k) = refl

in_field : (k : Option (Token × Pat)) → subset field_clear (both anything (opt_clear (tokens (only word.Colon)) (λ _. pat_clear) k)) ≡ true
in_field None = refl
in_field (Some k) = refl

in_behind : (k : Option (Sum TupleParts StructParts)) → subset pat_clear (both path_clear (opt_clear behind_first (λ _. anything) k)) ≡ true
in_behind None = refl
in_behind (Some k) = refl

module _ (H : Pieces → Type 0) (depth : ℕ) where
  marked_pair : Pair H depth MarkedIs marked_pieces marked mark_first (λ _. anything)
  marked_pair =
      or_of (image_of ref_marked marked_pieces (λ d t m. refl) (λ _. refl)
      (seq_of (tok (sign word.Ref)) (part_seq (opt_of (tok (sign word.Mut))) (tok test.name) (may_opt (tokens name_sort) (tokens (only word.Mut)) (λ _. anything) refl (λ _. refl))) (λ _. refl)))
      (image_of mut_marked marked_pieces (λ d t m. refl) (λ _. refl) (seq_of (tok (sign word.Mut)) (tok test.name) (λ _. refl))) refl

  wild_pair : Pair H depth WildSide pat_pieces (mapped made.Wild (token (is_sign word.Underscore))) (tokens (only word.Underscore)) (λ _. pat_clear)
  wild_pair = image_of made.Wild pat_pieces (λ d t m. pieces_wild t) (λ _. refl) (tok (sign word.Underscore))

  marked_pat_pair : Pair H depth MarkedSide pat_pieces (mapped marked_pat marked) mark_first (λ _. pat_clear)
  marked_pat_pair = image_of marked_pat pat_pieces (λ d t m. pieces_name t.0 t.1.0 t.1.1) (λ _. refl) marked_pair

  group_pair : (opened : Pieces → Read Pat) → Opened H depth IsPat pat_pieces opened → Pair H depth GroupSide pat_pieces (mapped pat_group_of (group is_pat_group opened)) (groups pat_kind) (λ _. pat_clear)
  group_pair opened o =
      image_of pat_group_of pat_pieces (λ d t m. pieces_pat_group t.0 t.1) (λ _. refl)
      (group_of is_pat_group pat_kind (λ g h. and-left (pat_kind (kind_of g)) (not (only_pat (kind_of g) && has_bar g)) h) o)

  module _ (inner : Pieces → Read Pat) (a : Pair H depth IsPat pat_pieces inner pat_first (λ _. pat_clear)) where
    tuple_pair : Pair H depth TupleIs (joined piece (joined (each (with_comma pat_pieces)) piece)) (tuple_parts inner) (tokens (only word.OpenParen)) (λ _. anything)
    tuple_pair = seq_of (tok (sign word.OpenParen)) (part_seq (commas_of (sign word.Comma) a refl refl) (tok (sign word.CloseParen)) (λ _. refl)) (λ _. refl)

    field_pair : Pair H depth FieldIs field_pieces (pat_field inner) field_first (λ _. field_clear)
    field_pair =
        same_of field_to field_of
        (or_of (image_of marked_field field_pieces (λ d t m. refl) (λ _. refl) marked_pair)
        (image_of named_field field_pieces (λ d t m. field_yield t) (λ t. in_named t.0 t.1) (seq_part (tok test.name) (opt_of (seq_of (tok (sign word.Colon)) a (λ _. refl))) (λ _. refl))) refl)
      where
        in_named : (n : Token) (k : Option (Token × Pat)) → subset field_clear (both anything (opt_clear (tokens (only word.Colon)) (λ _. pat_clear) k)) ≡ true
        in_named n k = in_field k

    end_pair : (fields : List (Listed Field)) → Pair H depth (EndIs fields) (joined (maybe piece) piece) (struct_end inner fields) (either (tokens (only word.DotDot)) (tokens (only word.CloseBrace))) (λ _. anything)
    end_pair fields =
        part_seq (opt_of (when_of (all_commas fields) (tok (sign word.DotDot)))) (tok (sign word.CloseBrace)) (may_opt (tokens (only word.CloseBrace)) (tokens (only word.DotDot)) (λ _. anything) refl (λ _. refl))

    struct_pair : Pair H depth StructIs (joined (joined piece (each (with_comma field_pieces))) (joined (maybe piece) piece)) (struct_parts inner) (tokens (only word.OpenBrace)) (λ _. anything)
    struct_pair =
        chain_of {g = λ _. either (tokens (only word.DotDot)) (tokens (only word.CloseBrace))} {e = λ _. anything}
        (seq_part (tok (sign word.OpenBrace)) (commas_of (sign word.Comma) field_pair refl refl) (λ _. refl)) (λ t. tail_of (end_pair t.1)) (λ _. refl)

    behind_part : Part H depth BehindIs (maybe behind_pieces) (behind_path inner) behind_first (opt_clear behind_first (λ _. anything))
    behind_part = opt_of (or_of (image_of one behind_pieces (λ d t m. refl) (λ _. refl) tuple_pair) (image_of two behind_pieces (λ d t m. refl) (λ _. refl) struct_pair) refl)

-- ---- one node

module _ (n depth : ℕ) (path : Pieces → Read Path) (inner : Pieces → Read Pat) (paths : Pair (Nested n) depth PathWithin path_pieces path path_first (λ _. path_clear))
    (a : Pair (Nested n) depth IsPat pat_pieces inner pat_first (λ _. pat_clear)) where
  literal_pair : Pair (Nested n) depth LiteralSide pat_pieces (mapped literal_pat (seq (literal_in true n) (opt (seq (token is_dots) (literal_in true n))))) signed_first (λ _. pat_clear)
  literal_pair =
      image_of literal_pat pat_pieces (λ d t m. literal_yield t.0 t.1) (λ t. in_dots t.1)
      (seq_part (literal_reads true n depth) (opt_of (seq_of (tok dots) (literal_reads true n depth) (λ _. refl))) (λ _. refl))

  path_pat_pair : Pair (Nested n) depth PathSide pat_pieces (mapped path_pat (seq path (behind_path inner))) path_first (λ _. pat_clear)
  path_pat_pair =
      image_of path_pat pat_pieces (λ d t m. path_yield t.0 t.1) (λ t. in_behind t.1) (seq_part paths (behind_part (Nested n) depth inner a) (λ _. refl))

  token_pair : Pair (Nested n) depth Sides pat_pieces (pat_token n path inner) pat_node_first (λ _. pat_clear)
  unfolding pat_token
  token_pair = or_of (wild_pair (Nested n) depth) (or_of (marked_pat_pair (Nested n) depth) (or_of literal_pair path_pat_pair refl) refl) refl

  node_pair : (opened : Pieces → Read Pat) → Opened (Nested n) (suc depth) IsPat pat_pieces opened → Pair (Nested n) (suc depth) IsPat pat_pieces (pat_node n path inner opened) pat_first (λ _. pat_clear)
  unfolding pat_node
  node_pair opened o = same_of pat_to pat_of (or_of (shift_of token_pair) (group_pair (Nested n) (suc depth) opened o) refl)

-- ---- all depths and groups

by_pair : (n : ℕ) (opened : ℕ → Pieces → Read Pat) → ((depth : ℕ) → Opened (Nested n) depth IsPat pat_pieces (opened depth)) → (depth : ℕ)
    → Pair (Nested n) depth IsPat pat_pieces (pat_by n opened depth) pat_first (λ _. pat_clear)
unfolding pat_by
by_pair n opened o zero = nothing_pair (Nested n) Pat IsPat pat_pieces pat_first (λ _. pat_clear) pat_grows no_pat_at
by_pair n opened o (suc depth) = node_pair n depth (path_in n depth) (pat_by n opened depth) (paths_read n depth) (by_pair n opened o depth) (opened (suc depth)) (o (suc depth))

pub pats_read : (n depth : ℕ) → Pair (Nested n) depth IsPat pat_pieces (pat_in n depth) pat_first (λ _. pat_clear)
unfolding pat_in
pats_read zero depth = by_pair 0 (λ depth i. Deep) (λ depth. unopened pat_grows) depth
pats_read (suc n) depth = by_pair (suc n) (pat_in n) (λ depth. opened_of (pats_read n depth) (λ d t m. refl)) depth

-- ---- alternatives

-- no pattern begins with a group that has a bar
sides_begin : (n depth d : ℕ) (x : Pat) → d ≤ depth → Sides d x → Begins pat_node_first (pat_pieces x)
sides_begin n depth d x h m = (token_pair n depth (path_in n depth) (pat_in n depth) (paths_read n depth) (pats_read n depth)).begins d x h m

not_top : (a b c : Bool) → (a && not (b && c)) ≡ true → (b && c) ≡ false
not_top true true true h = cc
not_top true true false h = refl
not_top true false c h = refl
not_top false b c h = cc

no_top_group : (opened : Pieces → Read TopPat) (d : ℕ) (x : Pat) (zs : Pieces) → IsPat d x → group is_top_group opened (pat_pieces x ++ zs) ≡ Absent
no_top_group opened d x zs m = go d (pat_of d x m)
  where
    absent : (i : Pieces) → next (others (groups only_pat)) i ≡ true → group is_top_group opened i ≡ Absent
    absent [] h = refl
    absent (p.Token t ∷ r) h = refl
    absent (p.Group g ∷ r) h = none (only_pat (kind_of g)) (has_bar g) h
      where
        none : (a b : Bool) → not a ≡ true
            → (if a && b then and_then {B = Group × TopPat} (entire (opened (pieces_of g))) (λ a e. Found (g, a) r) else Absent) ≡ Absent
        none true b h = cc
        none false b h = refl

    go : (d : ℕ) → Or (Shift Sides) GroupSide d x → group is_top_group opened (pat_pieces x ++ zs) ≡ Absent
    go zero (inl m) = absurd m
    go (suc d) (inl m) = absent (pat_pieces x ++ zs) (in_subset pat_node_first (others (groups only_pat)) refl (pat_pieces x ++ zs) (begins_next pat_node_first (pat_pieces x) zs (sides_begin 0 d d x (omega arith) m)))
    go d (inr m) =
        ap (λ ys. group is_top_group opened (ys ++ zs)) (ap (λ k. pat_pieces k) m.2 ∙ pieces_pat_group m.0.0 m.0.1)
        ∙ ap (λ b. if b then and_then {B = Group × TopPat} (entire (opened (pieces_of m.0.0))) (λ a e. Found (m.0.0, a) zs) else Absent)
        (not_top (pat_kind (kind_of m.0.0)) (only_pat (kind_of m.0.0)) (has_bar m.0.0) m.1.0)

module _ (H : Pieces → Type 0) (depth : ℕ) (pat : Pieces → Read Pat) (a : Pair H depth IsPat pat_pieces pat pat_first (λ _. pat_clear)) where
  first_pair : Pair H depth FirstIs alternative_pieces (mapped first_alternative (seq (opt (token (is_sign word.Or))) pat)) (either (tokens (only word.Or)) pat_first) (λ _. pat_clear)
  first_pair =
      same_of first_to (λ d a m. ((a.bar, a.pat), m, refl))
      (image_of first_alternative alternative_pieces (λ d t m. refl) (λ _. refl) (part_seq (opt_of (tok (sign word.Or))) a (may_opt pat_first (tokens (only word.Or)) (λ _. anything) refl (λ _. refl))))

  next_pair : Pair H depth NextIs alternative_pieces (mapped next_alternative (seq (token (is_sign word.Or)) pat)) (tokens (only word.Or)) (λ _. pat_clear)
  next_pair = same_of next_to next_of (image_of next_alternative alternative_pieces (λ d t m. refl) (λ _. refl) (seq_of (tok (sign word.Or)) a (λ _. refl)))

  list_pair : Pair H depth ListSide top_pieces (alternatives pat) (either (tokens (only word.Or)) pat_first) (λ _. top_clear)
  list_pair = image_of alternatives_of top_pieces (λ d t m. pieces_alternatives (t.0 ∷ t.1)) (λ _. refl) (seq_part first_pair (many_of next_pair refl refl) (λ _. refl))

  apart : (opened : Pieces → Read TopPat) (d : ℕ) (t : TopPat) (r : Pieces) → d ≤ depth → ListSide d t → mapped top_group_of (group is_top_group opened) (top_pieces t ++ r) ≡ Absent
  apart opened d t r h m =
      ap (λ q. and_then q (λ a r. Found (top_group_of a) r))
      (ap (λ ys. group is_top_group opened (ys ++ r)) (ap (λ k. top_pieces k) m.2 ∙ pieces_alternatives (m.0.0 ∷ m.0.1)) ∙ go m.0.0.bar m.0.0.pat (each alternative_pieces m.0.1) m.1.0.1)
    where
      go : (b : Option Token) (x : Pat) (zs : Pieces) → IsPat d x → group is_top_group opened (((maybe piece b ++ pat_pieces x) ++ zs) ++ r) ≡ Absent
      go (Some b) x zs m = refl
      go None x zs m = ap (λ ys. group is_top_group opened ys) (append_assoc (pat_pieces x) zs r) ∙ no_top_group opened d x (zs ++ r) m

  top_pair : (opened : Pieces → Read TopPat) → Opened H depth IsTopPat top_pieces opened → Pair H depth IsTopPat top_pieces (top_node pat opened) top_first (λ _. top_clear)
  top_pair opened o =
      same_of top_to top_of
      (or_apart (image_of top_group_of top_pieces (λ d t m. pieces_top_group t.0 t.1) (λ _. refl)
      (group_of is_top_group only_pat (λ g h. and-left (only_pat (kind_of g)) (has_bar g) h) o)) list_pair (apart opened))

pub tops_read : (n depth : ℕ) → Pair (Nested n) depth IsTopPat top_pieces (top_pat_in n depth) top_first (λ _. top_clear)
unfolding top_pat_in
tops_read zero depth = top_pair (Nested 0) depth (pat_in 0 depth) (pats_read 0 depth) (λ i. Deep) (unopened top_grows)
tops_read (suc n) depth = top_pair (Nested (suc n)) depth (pat_in (suc n) depth) (pats_read (suc n) depth) (top_pat_in n depth) (opened_of (tops_read n depth) (λ d t m. refl))

-- ---- steady

sign_firm : (x : Written) → Firm (token (is_sign x)) (token (is_sign x))
sign_firm x = firm_same (token (is_sign x))

module _ {inner inner2 : Pieces → Read Pat} (i : Firm inner inner2) where
  firm_field : Firm (pat_field inner) (pat_field inner2)
  firm_field = firm_choice mark_first (firm_same (mapped marked_field marked)) (firm_map named_field (firm_seq (firm_same name) (firm_opt (firm_seq (sign_firm word.Colon) i))))

  firm_struct : Firm (struct_parts inner) (struct_parts inner2)
  firm_struct = firm_chain (firm_seq (sign_firm word.OpenBrace) (firm_commas firm_field)) (λ t. firm_same (struct_end inner t.1))

  firm_behind : Firm (behind_path inner) (behind_path inner2)
  firm_behind =
      firm_opt (firm_choice (tokens (only word.OpenParen)) (firm_map one (firm_seq (sign_firm word.OpenParen) (firm_seq (firm_commas i) (sign_firm word.CloseParen)))) (firm_map two firm_struct))

module _ (n m : ℕ) (h : n ≤ m) {path path2 : Pieces → Read Path} {inner inner2 : Pieces → Read Pat} (q : Firm path path2) (i : Firm inner inner2) where
  firm_token : Firm (pat_token n path inner) (pat_token m path2 inner2)
  unfolding pat_token
  firm_token = record {
    firm = (firm_choice (tokens (only word.Underscore)) (firm_same (mapped made.Wild (token (is_sign word.Underscore))))
        (firm_choice mark_first (firm_same (mapped marked_pat marked))
        (firm_choice signed_first (firm_map literal_pat (firm_seq (literal_firm true n m h) (firm_opt (firm_seq (firm_same (token is_dots)) (literal_firm true n m h)))))
        (firm_map path_pat (firm_seq q (firm_behind i)))))).firm;
  }

  firm_node : {opened opened2 : Pieces → Read Pat} → Firm opened opened2 → Firm (pat_node n path inner opened) (pat_node m path2 inner2 opened2)
  unfolding pat_node
  firm_node o = record { firm = (firm_choice pat_node_first firm_token (firm_map pat_group_of (firm_group is_pat_group o))).firm }

firm_by : (n m : ℕ) → n ≤ m → (opened opened2 : ℕ → Pieces → Read Pat) → ((d e : ℕ) → d ≤ e → Firm (opened d) (opened2 e))
    → ((e : ℕ) (i : Pieces) → next pat_first i ≡ false → pat_by m opened2 e i ≡ Absent) → (d e : ℕ) → d ≤ e → Firm (pat_by n opened d) (pat_by m opened2 e)
unfolding pat_by
firm_by n m h opened opened2 o absent zero e k = record { firm = λ i. go i (next pat_first i) refl }
  where
    go : (i : Pieces) (b : Bool) → next pat_first i ≡ b → Steady (if b then Deep else Absent) (pat_by m opened2 e i)
    go i true is = tt
    go i false is = absent e i is
firm_by n m h opened opened2 o absent (suc d) zero k = absurd (omega (arith, k))
firm_by n m h opened opened2 o absent (suc d) (suc e) k = record {
  firm = (firm_node n m h (paths_firm n m h d e (omega (arith, k))) (firm_by n m h opened opened2 o absent d e (omega (arith, k))) (o (suc d) (suc e) k)).firm;
}

pub pats_firm : (n m : ℕ) → n ≤ m → (d e : ℕ) → d ≤ e → Firm (pat_in n d) (pat_in m e)
unfolding pat_in
pats_firm zero zero h d e k = firm_by 0 0 h (λ depth i. Deep) (λ depth i. Deep) (λ d e k. firm_same (λ i. Deep)) (λ e. (pats_read 0 e).absent) d e k
pats_firm zero (suc m) h d e k = firm_by 0 (suc m) h (λ depth i. Deep) (pat_in m) (λ d e k. firm_deep (pat_in m e)) (λ e. (pats_read (suc m) e).absent) d e k
pats_firm (suc n) zero h d e k = absurd (omega (arith, h))
pats_firm (suc n) (suc m) h d e k = firm_by (suc n) (suc m) h (pat_in n) (pat_in m) (pats_firm n m (omega (arith, h))) (λ e. (pats_read (suc m) e).absent) d e k

firm_top : {pat pat2 : Pieces → Read Pat} {opened opened2 : Pieces → Read TopPat} → Firm pat pat2 → Firm opened opened2 → Firm (top_node pat opened) (top_node pat2 opened2)
firm_top q o =
    firm_else (firm_map top_group_of (firm_group is_top_group o))
    (firm_map alternatives_of (firm_seq (firm_map first_alternative (firm_seq (firm_opt (sign_firm word.Or)) q)) (firm_many (firm_map next_alternative (firm_seq (sign_firm word.Or) q)))))

pub tops_firm : (n m : ℕ) → n ≤ m → (d e : ℕ) → d ≤ e → Firm (top_pat_in n d) (top_pat_in m e)
unfolding top_pat_in
tops_firm zero zero h d e k = record { firm = (firm_top (pats_firm 0 0 h d e k) (firm_same (λ i. Deep))).firm }
tops_firm zero (suc m) h d e k = record { firm = (firm_top (pats_firm 0 (suc m) h d e k) (firm_deep (top_pat_in m e))).firm }
tops_firm (suc n) zero h d e k = absurd (omega (arith, h))
tops_firm (suc n) (suc m) h d e k = record { firm = (firm_top (pats_firm (suc n) (suc m) h d e k) (tops_firm n m (omega (arith, h)) d e k)).firm }
