-- Bodies and fragments are read in one way.
use Rattle.std.proofs.lemmas.List.{append-nil}
use Rattle.std.proofs.Common.{◌≡◌, ℕ, ◌≤◌, true, false, if◌then◌else◌, [], ◌∷◌, ◌++◌, length, length-append, drop, refl, sym, ◌∙◌, ap, subst, arith}
use Rattle.em_base.specs.declared.edition.Edition.{Edition}
use Rattle.em_tree.specs.declared.fragment.Fragment.{Fragment}
use Rattle.em_tree.specs.declared.fragment.FragmentNode.{FragmentNode}
use Rattle.em_tree.specs.declared.piece.FragmentKind.{FragmentKind}
use Rattle.em_tree.specs.declared.piece.Piece.{Piece}
use Rattle.em_tree.specs.declared.piece.Piece.TheVariants as p
use Rattle.em_tree.specs.declared.piece.Piece.TheOpen.{PieceList-F}
use Rattle.em_tree.specs.declared.piece.Group.{Group}
use Rattle.em_tree.specs.declared.piece.PieceList.{PieceList, roll-PieceList, roll-out-PieceList}
use Rattle.em_tree.specs.Starts.{Pieces, starts}
use Rattle.em_tree.specs.FragmentGrammar.{Reads, kind_of_node}
use Rattle.em_tree.specs.declared.expr.Body.{Body}
use Rattle.em_tree.specs.ExprGrammar.{BodyWithin, body_pieces}
use Rattle.em_tree.specs.Nesting.{body_nesting}
use Rattle.em_grammar.specs.Sets.{Inside, Nested}
use Rattle.em_grammar.specs.Reader.{Found, Absent}
use Rattle.em_grammar.specs.ExprKnot.{body_in}
use Rattle.em_grammar.specs.ExprLaws.{BodiesRead, OneBody}
use Rattle.em_grammar.specs.FragmentReader.{by_kind, fragment_in}
use Rattle.em_grammar.specs.FragmentLaws.{readers, prefix_in}
use Rattle.em_grammar.specs.Laws.{GroupsNest}
use Rattle.em_grammar.specs.NestLaws.{BodiesNest, FragmentsNest, node_nesting}
use Rattle.em_parse.specs.Calls.{most, IsLongest, IsDeepBody, IsDeepFragment}
use Rattle.em_parse.specs.Decided.{BodiesAreDecided, FragmentsAreDecided}
use Rattle.em_parse.specs.Parts.{Readings}
use Rattle.em_parse.proofs.Limit.{not_too_deep, absent_not_deep}
use Rattle.em_parse.proofs.OwnYields.{prefix_own, one_fragment}

-- ---- bodies

pub bodies_decided : OneBody → BodiesAreDecided
bodies_decided one i = record {
  one = λ x y h k. one most most x y h.within k.within (sym h.yields ∙ k.yields);
  not_broken = λ x h k. k.none most x h.within h.yields;
  not_deep = λ x h deep. h.shallow deep;
  either = λ h deep. h.shallow deep;
}

-- a body within the limits isn't too deep
pub body_not_deep : BodiesRead → BodiesNest → (i : Pieces) (x : Body) → Inside (Nested most) i → BodyWithin most x → i ≡ body_pieces x → IsDeepBody i → ⊥
body_not_deep read nest i x w m is deep =
    let found : body_in most most i ≡ Found x [] = ap (λ k. body_in most most k) is ∙ read most most most x (omega arith) (subst (λ k. Inside (Nested most) k) is w) m in
    not_too_deep body_nesting (body_in most most i) x [] found ((nest most most x m).0 m) deep

-- ---- fragments

same_front : (xs ys us vs : Pieces) → xs ++ ys ≡ us ++ vs → length xs ≡ length us → xs ≡ us
same_front [] ys [] vs is k = refl
same_front [] ys (u ∷ us) vs is k = absurd (omega (arith, k))
same_front (x ∷ xs) ys [] vs is k = absurd (omega (arith, k))
same_front (x ∷ xs) ys (u ∷ us) vs is k =
    let head : x ≡ u = cc in
    let back : xs ++ ys ≡ us ++ vs = cc in
    let tail : xs ≡ us = same_front xs ys us vs back (omega (arith, k)) in
    ap (λ k. k ∷ xs) head ∙ ap (λ l. u ∷ l) tail

-- all of the pieces
pub all_taken : (i xs ys : Pieces) → i ≡ xs ++ ys → length i ≤ length xs → i ≡ xs
all_taken i xs ys is k = same_front i [] xs ys (append-nil i ∙ is) (omega (arith, k, ap (λ k. length k) is, length-append xs ys))

starts_on : (kind : FragmentKind) (e : Edition) (ys r : Pieces) → starts kind e ys ≡ true → starts kind e (ys ++ r) ≡ true
unfolding starts
starts_on kind e [] r h = cc
starts_on kind e (p.Token t ∷ ys) r h = h
starts_on kind e (p.Group g ∷ ys) r h = h

starts_none : (kind : FragmentKind) (e : Edition) (i : Pieces) → starts kind e i ≡ false → prefix_in kind e most most i ≡ Absent
unfolding fragment_in
starts_none kind e i is = ap (λ b. if b then by_kind readers kind e most most i else Absent) is

abbrev layer : Pieces → PieceList-F Piece Group PieceList
layer ys = record { list = ys }

same_list : (a b : PieceList) → a.list ≡ b.list → a ≡ b
same_list a b is = sym (roll-out-PieceList a) ∙ ap (λ ys. roll-PieceList (layer ys)) is ∙ roll-out-PieceList b

abbrev made : FragmentNode → ℕ → FragmentKind → Edition → PieceList → Fragment
made x taken kind edition pieces = record { node = x; taken = taken; kind = kind; edition = edition; pieces = pieces }

module _ (k : Readings) (nest : GroupsNest) (nests : FragmentsNest) (kind : FragmentKind) (e : Edition) (i : Pieces) where
  -- the longest takes no less than any other
  no_less : (x y : Fragment) → IsLongest kind e i x → IsLongest kind e i y → y.taken ≤ x.taken
  no_less x y h q = omega (arith, q.taken_is, h.longest most y.node y.pieces.list (drop y.taken i) q.begins)

  same_taken : (x y : Fragment) → IsLongest kind e i x → IsLongest kind e i y → x.taken ≡ y.taken
  same_taken x y h q = omega (arith, no_less x y h q, no_less y x q h)

  same_pieces : (x y : Fragment) → IsLongest kind e i x → IsLongest kind e i y → x.pieces.list ≡ y.pieces.list
  same_pieces x y h q =
      same_front x.pieces.list (drop x.taken i) y.pieces.list (drop y.taken i) (sym h.begins.0 ∙ q.begins.0) (sym h.taken_is ∙ same_taken x y h q ∙ q.taken_is)

  same_node : (x y : Fragment) → IsLongest kind e i x → IsLongest kind e i y → x.node ≡ y.node
  same_node x y h q =
      one_fragment k nest e most most x.node y.node (h.begins.1 ∙ sym q.begins.1) h.begins.2.reads.tree q.begins.2.reads.tree
      (sym h.begins.2.reads.yields ∙ same_pieces x y h q ∙ q.begins.2.reads.yields)

  one_longest : (x y : Fragment) → IsLongest kind e i x → IsLongest kind e i y → x ≡ y
  one_longest x y h q =
      ap (λ n. made n x.taken x.kind x.edition x.pieces) (same_node x y h q)
      ∙ ap (λ n. made y.node n x.kind x.edition x.pieces) (same_taken x y h q)
      ∙ ap (λ n. made y.node y.taken n x.edition x.pieces) (h.kind_is ∙ sym q.kind_is)
      ∙ ap (λ n. made y.node y.taken y.kind n x.pieces) (h.edition_is ∙ sym q.edition_is)
      ∙ ap (λ n. made y.node y.taken y.kind y.edition n) (same_list x.pieces y.pieces (same_pieces x y h q))

  longest_starts : (x : Fragment) → IsLongest kind e i x → starts kind e i ≡ true
  longest_starts x h =
      let own : starts kind e x.pieces.list ≡ true = subst (λ kind. starts kind e x.pieces.list ≡ true) h.begins.1 h.begins.2.reads.starts in
      subst (λ ys. starts kind e ys ≡ true) (sym h.begins.0) (starts_on kind e x.pieces.list (drop x.taken i) own)

  fits : (x : FragmentNode) → Reads e most i x → node_nesting x ≤ most
  fits x h = (nests e most most x h.tree).0 h.tree

  pub whole_not_deep : (x : FragmentNode) → kind_of_node x ≡ kind → Reads e most i x → Inside (Nested most) i → IsDeepFragment kind e i → ⊥
  whole_not_deep x is h w deep = not_too_deep node_nesting (prefix_in kind e most most i) x [] (prefix_own k kind e most most most i x (omega arith) is h w) (fits x h) deep

pub fragments_decided : Readings → GroupsNest → FragmentsNest → FragmentsAreDecided
fragments_decided k nest nests kind e i = record {
  one = λ x y h q. one_longest k nest nests kind e i x y h q;
  can_start = λ x h is. let starts' = longest_starts k nest nests kind e i x h in cc;
  not_broken = λ x h q. q.none most x.node x.pieces.list (drop x.taken i) h.begins;
  not_deep = λ x h deep. h.shallow deep;
  starts_not_broken = λ is q. let starts' = q.starts_one in cc;
  starts_not_deep = λ is deep. absent_not_deep node_nesting (prefix_in kind e most most i) (starts_none kind e i is) deep;
  either = λ q deep. q.shallow deep;
}
