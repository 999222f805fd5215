-- Paths are read.
use Rattle.std.proofs.Common.{◌≡◌, ℕ, zero, suc, true, Option, Some, None, refl, sym, ◌∙◌, ap, subst, inl, inr}
use Rattle.std.specs.Prelude.{codes}
use Rattle.em_base.specs.declared.token.Token.{Token}
use Rattle.em_tree.specs.declared.piece.FragmentKind.{FragmentKind}
use Rattle.em_tree.specs.declared.piece.FragmentKind.TheVariants as fk
use Rattle.em_tree.specs.declared.types.Segment.{Segment}
use Rattle.em_tree.specs.declared.types.PathStep.{PathStep}
use Rattle.em_tree.specs.declared.types.Segments.{Segments}
use Rattle.em_tree.specs.declared.types.Path.{Path, out-Path}
use Rattle.em_tree.specs.declared.types.Path.TheVariants as made
use Rattle.em_tree.specs.declared.types.Qualified.{Qualified, out-Qualified}
use Rattle.em_tree.specs.declared.types.Bound.TheViews.{roll-Qualified, out-roll-Qualified}
use Rattle.em_tree.specs.declared.types.TypeTree.{TypeTree}
use Rattle.em_tree.specs.declared.types.Bound.TheOpen.{Path-F}
use Rattle.em_tree.specs.Parts.{segment_parts, path_step_parts, segments_parts}
use Rattle.em_tree.specs.Starts.{Pieces, kind_of}
use Rattle.em_tree.specs.Tokens.{Is, Name}
use Rattle.em_tree.specs.Yields.{piece, whole, as_it_is}
use Rattle.em_tree.specs.PathGrammar as g
use Rattle.em_tree.specs.PathGrammar.{path_pieces, type_pieces, NameOrRoot, IsSegment, IsStep, AreSegments, IsPlainPath, IsPath}
use Rattle.em_grammar.specs.declared.sort.Written.TheVariants as word
use Rattle.em_grammar.specs.Sorts.{sort_of}
use Rattle.em_grammar.specs.Sets.{Set, subset, tokens, groups, anything, only, Nested}
use Rattle.em_grammar.specs.Lang.{Seq, Opt, Many, Image, Or, Grp}
use Rattle.em_grammar.specs.Reader.{Read, Deep, mapped, group}
use Rattle.em_grammar.specs.PathReader.{roots, root_sort, segment_first, plain_segment, crate_segment, segment, step_of, step, segments_of, segments_first, segments, path_kind, is_path_group, plain_first, path_first, path_clear, path_group_of, plain_of, qualified_of, plain_path, plain_path_in, qualified, path_node}
use Rattle.em_grammar.specs.Pairs.{Pair, Test}
use Rattle.em_grammar.proofs.Pairs.{tok, seq_of, seq_part, part_seq, opt_of, may_opt}
use Rattle.em_grammar.proofs.Lists.{many_of}
use Rattle.em_grammar.proofs.Forms.{image_of, or_of, same_of, Opened, opened_of, unopened, group_of}
use Rattle.em_grammar.proofs.Tests.{sign, several, name, either_test}
use Rattle.em_grammar.proofs.PathLayers.{same_path, same_qualified, pieces_plain, pieces_qualified, pieces_path_group, pieces_of_qualified}

abbrev pub segment_pieces : Segment → Pieces
segment_pieces x = segment_parts piece whole as_it_is x

abbrev pub step_pieces : PathStep → Pieces
step_pieces x = path_step_parts piece whole as_it_is x

abbrev pub segments_pieces : Segments → Pieces
segments_pieces x = segments_parts piece whole as_it_is x

pub kind_path : (k : FragmentKind) → path_kind k ≡ true → k ≡ fk.Path
kind_path fk.Path h = refl
kind_path _ h = cc

pub root : Test (λ t. NameOrRoot None t) (λ t. root_sort (sort_of t)) root_sort
root = either_test name (several roots)

-- ---- segments

abbrev SegmentSides : ℕ → Segment → Type 0
SegmentSides = Or (Image crate_segment (Seq (λ d. Is (codes "$")) (λ d. Is (codes "crate")))) (Image plain_segment (λ d t. NameOrRoot None t))

to_segment : (d : ℕ) (s : Segment) → SegmentSides d s → IsSegment s
to_segment d s (inl m) = subst (λ s. IsSegment s) (sym m.2) m.1
to_segment d s (inr m) = subst (λ s. IsSegment s) (sym m.2) m.1

of_segment : (d : ℕ) (s : Segment) → IsSegment s → SegmentSides d s
of_segment d s m = go s.dollar s.name m
  where
    go : (k : Option Token) (n : Token) → NameOrRoot k n → SegmentSides d (record { dollar = k; name = n })
    go None n m = inr (n, m, refl)
    go (Some x) n m = inl ((x, n), m, refl)

module _ (H : Pieces → Type 0) (depth : ℕ) where
  pub segment_pair : Pair H depth (λ d. IsSegment) segment_pieces segment segment_first (λ _. anything)
  segment_pair =
      same_of to_segment of_segment
      (or_of (image_of crate_segment segment_pieces (λ d t m. refl) (λ _. refl) (seq_of (tok (sign word.Dollar)) (tok (sign word.Crate)) (λ _. refl)))
      (image_of plain_segment segment_pieces (λ d t m. refl) (λ _. refl) (tok root)) refl)

  pub step_pair : Pair H depth (λ d. IsStep) step_pieces step (tokens (only word.PathSep)) (λ _. anything)
  step_pair =
      same_of (λ d s m. subst (λ s. IsStep s) (sym m.2) m.1) (λ d s m. ((s.separator, s.segment), m, refl))
      (image_of step_of step_pieces (λ d t m. refl) (λ _. refl) (seq_of (tok (sign word.PathSep)) segment_pair (λ _. refl)))

  pub segments_pair : Pair H depth (λ d. AreSegments) segments_pieces segments segments_first (λ _. path_clear)
  segments_pair =
      same_of to_segments (λ d s m. ((s.lead, (s.first, s.more)), (m.lead, (m.first, m.more)), refl))
      (image_of segments_of segments_pieces (λ d t m. refl) (λ _. refl)
      (part_seq (opt_of (tok (sign word.PathSep))) (seq_part segment_pair (many_of step_pair refl refl) (λ _. refl))
      (may_opt segment_first (tokens (only word.PathSep)) (λ _. anything) refl (λ _. refl))))
    where
      to_segments : (d : ℕ) (s : Segments) → Image segments_of (Seq (Opt (λ d. Is (codes "::"))) (Seq (λ d. IsSegment) (Many (λ d. IsStep)))) d s → AreSegments s
      to_segments d s m = subst (λ s. AreSegments s) (sym m.2) (record { lead = m.1.0; first = m.1.1.0; more = m.1.1.1 })

-- ---- the grammar's words and the library's

abbrev PlainSide : ℕ → Path → Type 0
PlainSide = Image plain_of (λ d. AreSegments)

abbrev GroupSide : (ℕ → Path → Type 0) → ℕ → Path → Type 0
GroupSide L = Image path_group_of (Grp is_path_group L path_pieces)

to_plain : (d : ℕ) (x : Path) → Or PlainSide (GroupSide (λ d. IsPlainPath)) d x → IsPlainPath x
to_plain d x (inl m) = g.IsPlainPath.plain (ap (λ k. out-Path k) m.2 ∙ made.outs-Plain m.0) m.1
to_plain d x (inr m) = g.IsPlainPath.group (ap (λ k. out-Path k) m.2 ∙ made.outs-Group m.0.0 m.0.1) (kind_path (kind_of m.0.0) m.1.0) m.1.1 m.1.2

of_plain : (d : ℕ) (x : Path) → IsPlainPath x → Or PlainSide (GroupSide (λ d. IsPlainPath)) d x
of_plain d _ (g.IsPlainPath.plain {x} {s} is m) = inl (s, m, same_path x (made.Plain s) (is ∙ sym (made.outs-Plain s)))
of_plain d _ (g.IsPlainPath.group {x} {y} {g = gr} is k ps m) = inr ((gr, y), (ap (λ k. path_kind k) k, ps, m), same_path x (made.Group gr y) (is ∙ sym (made.outs-Group gr y)))

module _ (I : ℕ → TypeTree → Type 0) where
  abbrev QualifiedParts : ℕ → Token × (TypeTree × (Token × (Path × (Token × (Token × Token))))) → Type 0
  QualifiedParts = Seq (λ d. Is (codes "<")) (Seq I (Seq (λ d. Is (codes "as")) (Seq (λ d. IsPlainPath) (Seq (λ d. Is (codes ">")) (Seq (λ d. Is (codes "::")) (λ d. Name))))))

  abbrev QualifiedSide : ℕ → Path → Type 0
  QualifiedSide = Image qualified_of QualifiedParts

  abbrev PathSides : ℕ → Path → Type 0
  PathSides = Or PlainSide (Or QualifiedSide (GroupSide (λ d. IsPath (I d))))

  qualified_node : (d : ℕ) (x : Path) (q : Qualified) (t : Token × (TypeTree × (Token × (Path × (Token × (Token × Token))))))
      → out-Path x ≡ Path-F.Qualified q → q ≡ roll-Qualified (record {
        «open» = t.0;
        self_type = t.1.0;
        word = t.1.1.0;
        of_trait = t.1.1.1.0;
        close = t.1.1.1.1.0;
        separator = t.1.1.1.1.1.0;
        name = t.1.1.1.1.1.1;
      }) → QualifiedParts d t → IsPath (I d) x
  qualified_node d x q t is at m =
      let back : out-Qualified q ≡ record {
        «open» = t.0;
        self_type = t.1.0;
        word = t.1.1.0;
        of_trait = t.1.1.1.0;
        close = t.1.1.1.1.0;
        separator = t.1.1.1.1.1.0;
        name = t.1.1.1.1.1.1;
      } = ap (λ k. out-Qualified k) at ∙ out-roll-Qualified _ in
      g.IsPath.qualified {q = q} is (subst (λ k. Is (codes "<") k.open) (sym back) m.0) (subst (λ k. I d k.self_type) (sym back) m.1.0) (subst (λ k. Is (codes "as") k.word) (sym back) m.1.1.0)
      (subst (λ k. IsPlainPath k.of_trait) (sym back) m.1.1.1.0) (subst (λ k. Is (codes ">") k.close) (sym back) m.1.1.1.1.0) (subst (λ k. Is (codes "::") k.separator) (sym back) m.1.1.1.1.1.0)
      (subst (λ k. Name k.name) (sym back) m.1.1.1.1.1.1)

  to_path : (d : ℕ) (x : Path) → PathSides d x → IsPath (I d) x
  to_path d x (inl m) = g.IsPath.plain (ap (λ k. out-Path k) m.2 ∙ made.outs-Plain m.0) m.1
  to_path d x (inr (inl m)) = qualified_node d x _ m.0 (ap (λ k. out-Path k) m.2 ∙ made.outs-Qualified _) refl m.1
  to_path d x (inr (inr m)) = g.IsPath.group (ap (λ k. out-Path k) m.2 ∙ made.outs-Group m.0.0 m.0.1) (kind_path (kind_of m.0.0) m.1.0) m.1.1 m.1.2

  of_path : (d : ℕ) (x : Path) → IsPath (I d) x → PathSides d x
  of_path d _ (g.IsPath.plain {x} {s} is m) = inl (s, m, same_path x (made.Plain s) (is ∙ sym (made.outs-Plain s)))
  of_path d _ (g.IsPath.qualified {x} {q} is a b c k e f h) = inr (inl (
    (
      (out-Qualified q).open,
      ((out-Qualified q).self_type, ((out-Qualified q).word, ((out-Qualified q).of_trait, ((out-Qualified q).close, ((out-Qualified q).separator, (out-Qualified q).name))))),
    ),
    (a, (b, (c, (k, (e, (f, h)))))),
    same_path x (made.Qualified q) (is ∙ sym (made.outs-Qualified q)) ∙ ap (λ k. made.Qualified k) (same_qualified q (out-Qualified q) refl),
  ))
  of_path d _ (g.IsPath.group {x} {y} {g = gr} is k ps m) = inr (inr ((gr, y), (ap (λ k. path_kind k) k, ps, m), same_path x (made.Group gr y) (is ∙ sym (made.outs-Group gr y))))

module _ (I J : TypeTree → Type 0) (h : (x : TypeTree) → I x → J x) where
  pub more_path : (x : Path) → IsPath I x → IsPath J x
  more_path _ (g.IsPath.plain is m) = g.IsPath.plain is m
  more_path _ (g.IsPath.qualified {x} {q} is a b c k e f n) = g.IsPath.qualified {q = q} is a (h (out-Qualified q).self_type b) c k e f n
  more_path _ (g.IsPath.group {y} is k ps m) = g.IsPath.group is k ps (more_path y m)

-- ---- pairs

abbrev free : Path → Set
free x = path_clear

module _ (H : Pieces → Type 0) (depth : ℕ) where
  plain_side : Pair H depth PlainSide path_pieces (mapped plain_of segments) segments_first free
  plain_side = image_of plain_of path_pieces (λ d t m. pieces_plain t) (λ _. refl) (segments_pair H depth)

  group_side : (L : ℕ → Path → Type 0) (opened : Pieces → Read Path) → Opened H depth L path_pieces opened
      → Pair H depth (GroupSide L) path_pieces (mapped path_group_of (group is_path_group opened)) (groups path_kind) free
  group_side L opened o = image_of path_group_of path_pieces (λ d t m. pieces_path_group t.0 t.1) (λ _. refl) (group_of is_path_group path_kind (λ g h. h) o)

  plain_pair : (opened : Pieces → Read Path) → Opened H depth (λ d. IsPlainPath) path_pieces opened → Pair H depth (λ d. IsPlainPath) path_pieces (plain_path opened) plain_first free
  plain_pair opened o = same_of to_plain of_plain (or_of plain_side (group_side (λ d. IsPlainPath) opened o) refl)

  -- over the types inside, behind which an `as` may stand
  module _ (I : ℕ → TypeTree → Type 0) (ty : Pieces → Read TypeTree) (f : Set) (c : TypeTree → Set) (inner : Pair H depth I type_pieces ty f c) (start : subset f anything ≡ true)
      (as_follows : (x : TypeTree) → subset (tokens (only word.As)) (c x) ≡ true) (plain : Pieces → Read Path) (trait : Pair H depth (λ d. IsPlainPath) path_pieces plain plain_first free) where
    qualified_side : Pair H depth (QualifiedSide I) path_pieces (qualified ty plain) (tokens (only word.Lt)) free
    qualified_side =
        image_of qualified_of path_pieces (λ d t m. pieces_qualified _ ∙ pieces_of_qualified _) (λ _. refl)
        (seq_of (tok (sign word.Lt)) (seq_of inner (seq_of (tok (sign word.As)) (seq_of trait
        (seq_of (tok (sign word.Gt)) (seq_of (tok (sign word.PathSep)) (tok name) (λ _. refl)) (λ _. refl)) (λ _. refl)) (λ _. refl)) as_follows) (λ _. start))

    pub path_pair : (opened : Pieces → Read Path) → Opened H depth (λ d. IsPath (I d)) path_pieces opened → Pair H depth (λ d. IsPath (I d)) path_pieces (path_node ty plain opened) path_first free
    unfolding path_node
    path_pair opened o = same_of (to_path I) (of_path I) (or_of plain_side (or_of qualified_side (group_side (λ d. IsPath (I d)) opened o) refl) refl)

-- ---- groups in one another

pub plain_reads : (n depth : ℕ) → Pair (Nested n) depth (λ d. IsPlainPath) path_pieces (plain_path_in n) plain_first free
unfolding plain_path_in
plain_reads zero depth = plain_pair (Nested zero) depth (λ i. Deep) (unopened (λ d t m. m))
plain_reads (suc n) depth = plain_pair (Nested (suc n)) depth (plain_path_in n) (opened_of (plain_reads n depth) (λ d t m. refl))
