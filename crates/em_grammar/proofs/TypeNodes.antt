-- Types in the words of the grammar and in those of the library.
use Rattle.std.proofs.lemmas.List.{append-nil}
use Rattle.std.proofs.Common.{◌≡◌, ℕ, zero, suc, Bool, true, false, List, [], ◌∷◌, ◌++◌, Option, Some, None, refl, sym, ◌∙◌, ap, subst, inl, inr}
use Rattle.std.specs.Prelude.{codes}
use Rattle.em_base.specs.declared.token.Token.{Token}
use Rattle.em_tree.specs.declared.parts.Listed.{Listed}
use Rattle.em_tree.specs.declared.piece.FragmentKind.{FragmentKind}
use Rattle.em_tree.specs.declared.piece.FragmentKind.TheVariants as fk
use Rattle.em_tree.specs.declared.piece.Piece.TheVariants as p
use Rattle.em_tree.specs.declared.types.Path.{Path}
use Rattle.em_tree.specs.declared.types.Path.TheVariants as made
use Rattle.em_tree.specs.declared.types.Output.{Output}
use Rattle.em_tree.specs.declared.types.Output.TheVariants as output
use Rattle.em_tree.specs.declared.types.Bound.{Bound}
use Rattle.em_tree.specs.declared.types.Bound.TheVariants as bound
use Rattle.em_tree.specs.declared.types.TypeTree.{TypeTree}
use Rattle.em_tree.specs.declared.types.TypeTree.TheVariants as ty
use Rattle.em_tree.specs.Parts.{maybe, each}
use Rattle.em_tree.specs.Starts.{Pieces, kind_of}
use Rattle.em_tree.specs.Tokens.{Is, Name}
use Rattle.em_tree.specs.Yields.{piece, opened}
use Rattle.em_tree.specs.PathGrammar as g
use Rattle.em_tree.specs.PathGrammar.{literal_pieces, path_pieces, type_pieces, NameOrRoot, IsIntLiteral, IsPath, IsOutput, IsCallBound, IsBound, Closes, TypeNode, IsType, FollowsDyn}
use Rattle.em_grammar.specs.declared.sort.Weak.{Weak}
use Rattle.em_grammar.specs.declared.sort.Weak.TheVariants as weak
use Rattle.em_grammar.specs.Sorts.{sort_of}
use Rattle.em_grammar.specs.Sets.{weak_is, name_sort}
use Rattle.em_grammar.specs.Lang.{one, two, Chain, Seq, Opt, Lists, Image, Or, Grp, Shift, with_comma}
use Rattle.em_grammar.specs.PathReader.{plain_segment}
use Rattle.em_grammar.specs.TypeReader.{type_kind, is_type_group, alone, is_lone, callable, dyn_follow, Suffix, nothing, angle, object, call, CallParts, angle_of, object_of, call_of, or_nothing, output_of, bound_of, with_suffix, path_type_of, ref_of, ref_ref_of, Bracket, in_brackets, bracket_of, unit_of, dyn_of, type_group_of}
use Rattle.em_grammar.specs.Pairs.{Begins}
use Rattle.em_grammar.proofs.Tests.{name, box_test, dyn_test}
use Rattle.em_grammar.proofs.PathLayers.{bound_pieces, output_pieces, same_output, same_bound, same_type, pieces_path_bound, pieces_call, pieces_no_output, pieces_output, pieces_path_type, pieces_boxed, pieces_dyn, pieces_bare}
use Rattle.em_grammar.proofs.PathPairs.{more_path}
use Rattle.em_grammar.proofs.PathFacts.{path_some, alone_name, lone_path, lone_alone, lone_pieces, alone_is, lone_word, weak_name, call_of as callable_of, call_old, call_no_dyn, follows_begin, begins_follow}
use Rattle.em_grammar.proofs.Lists.{more_commas}

abbrev pub Typed : Type 0
Typed = TypeTree × Bool

-- what owes only where it may
abbrev pub Owed : Bool → Bool → Type 0
Owed may owes = owes ≡ true → may ≡ true

no_debt : (may : Bool) → Owed may false
no_debt may h = cc

abbrev pub TypeIs : Bool → ℕ → Typed → Type 0
TypeIs may d t = IsType d t.1 t.0 × Owed may t.1

abbrev pub PlainIs : ℕ → TypeTree → Type 0
PlainIs d x = IsType d false x

abbrev pub PathIs : ℕ → Path → Type 0
PathIs d x = IsPath (PlainIs d) x

abbrev pub DeeperIs : ℕ → Bool → TypeTree → Type 0
DeeperIs zero owes x = ⊥
DeeperIs (suc d) owes x = IsType d owes x

abbrev pub NodeIs : Bool → ℕ → Typed → Type 0
NodeIs may d t = TypeNode (IsType d) (DeeperIs d) t.1 t.0 × Owed may t.1

abbrev pub BoundIs : Bool → ℕ → Bound × Bool → Type 0
BoundIs may d t = IsBound (IsType d) (DeeperIs d) t.1 t.0 × Owed may t.1

abbrev pub OutputIs : Bool → ℕ → Output × Bool → Type 0
OutputIs may d t = IsOutput (IsType d) (DeeperIs d) t.1 t.0 × Owed may t.1

same_pair : {A B : Type 0} (a b : A) (c d : B) → a ≡ b → c ≡ d → ◌≡◌ {A = A × B} (a, c) (b, d)
same_pair a b c d h k = ap (λ x. (x, c)) h ∙ ap (λ x. (b, x)) k

-- ---- one node more

module _ (I J D E : Bool → TypeTree → Type 0) (h : (o : Bool) (x : TypeTree) → I o x → J o x) (k : (o : Bool) (x : TypeTree) → D o x → E o x) where
  more_closes : (owes : Bool) (close : Option Token) (x : TypeTree) → Closes I D owes close x → Closes J E owes close x
  more_closes owes close x (g.Closes.alone is a m e) = g.Closes.alone is a (h false x m) e
  more_closes owes close x (g.Closes.with_inner is a m e) = g.Closes.with_inner is a (h true x m) e
  more_closes owes close x (g.Closes.by_outer is m e) = g.Closes.by_outer is (h false x m) e

  more_output : (owes : Bool) (o : Output) → IsOutput I D owes o → IsOutput J E owes o
  more_output owes o (g.IsOutput.nothing is e) = g.IsOutput.nothing is e
  more_output owes o (g.IsOutput.type {x} is a m) = g.IsOutput.type is a (h owes x m)

  more_call : (owes : Bool) (x : Path) (o : Token) (i : List (Listed TypeTree)) (c : Token) (out : Output) → IsCallBound I D owes x o i c out → IsCallBound J E owes x o i c out
  more_call owes x o i c out m = record {
    is_path = more_path (I false) (J false) (h false) x m.is_path;
    opens = m.opens;
    inside = more_commas (I false) (J false) (h false) i m.inside;
    closes = m.closes;
    result = more_output owes out m.result;
  }

  more_bound : (owes : Bool) (b : Bound) → IsBound I D owes b → IsBound J E owes b
  more_bound owes b (g.IsBound.path {x} is m e) = g.IsBound.path is (more_path (I false) (J false) (h false) x m) e
  more_bound owes b (g.IsBound.call {x} {open' = o} {close = c} {inputs} {output = out} is m) = g.IsBound.call is (more_call owes x o inputs c out m)

  more_node : (owes : Bool) (x : TypeTree) → TypeNode I D owes x → TypeNode J E owes x
  more_node _ _ (g.TypeNode.path {y} is m) = g.TypeNode.path is (more_path (I false) (J false) (h false) y m)
  more_node _ _ (g.TypeNode.boxed {owes} {y} {close} is a n b m) = g.TypeNode.boxed is a n b (more_closes owes close y m)
  more_node _ _ (g.TypeNode.ref {owes} {y} is a b m) = g.TypeNode.ref is a b (h owes y m)
  more_node _ _ (g.TypeNode.ref_ref {owes} {y} is a b m) = g.TypeNode.ref_ref is a b (k owes y m)
  more_node _ _ (g.TypeNode.array {y} is a m b c e) = g.TypeNode.array is a (h false y m) b c e
  more_node _ _ (g.TypeNode.slice {y} is a m b) = g.TypeNode.slice is a (h false y m) b
  more_node _ _ (g.TypeNode.unit is a b) = g.TypeNode.unit is a b
  more_node _ _ (g.TypeNode.dyn {owes} {b} is a m) = g.TypeNode.dyn is a (more_bound owes b m)
  more_node _ _ (g.TypeNode.bare {owes} {y} {open' = o} {close = c} {inputs} {output = out} is at m a b) = g.TypeNode.bare is at (more_call owes y o inputs c out m) a b
  more_node _ _ (g.TypeNode.group {y} is a b m) = g.TypeNode.group is a b (more_node _ y m)

pub node_type : (d : ℕ) (o : Bool) (x : TypeTree) → TypeNode (IsType d) (DeeperIs d) o x → IsType (suc d) o x
unfolding IsType
node_type zero o x m = m
node_type (suc d) o x m = m

pub type_node_of : (d : ℕ) (o : Bool) (x : TypeTree) → IsType (suc d) o x → TypeNode (IsType d) (DeeperIs d) o x
unfolding IsType
type_node_of zero o x m = m
type_node_of (suc d) o x m = m

pub no_type_at : (o : Bool) (x : TypeTree) → IsType zero o x → ⊥
unfolding IsType
no_type_at o x m = m

more_deep : (d : ℕ) → ((o : Bool) (x : TypeTree) → IsType d o x → IsType (suc d) o x) × ((o : Bool) (x : TypeTree) → DeeperIs d o x → DeeperIs (suc d) o x)
more_deep zero = (λ o x m. absurd (no_type_at o x m), λ o x m. absurd m)
more_deep (suc d) =
    let below = more_deep d in
    (λ o x m. node_type (suc d) o x (more_node (IsType d) (IsType (suc d)) (DeeperIs d) (DeeperIs (suc d)) below.0 below.1 o x (type_node_of d o x m)), below.0)

pub type_grows : (d : ℕ) (o : Bool) (x : TypeTree) → IsType d o x → IsType (suc d) o x
type_grows d o x m = (more_deep d).0 o x m

-- ---- what closes a `Box`

abbrev pub ClosesAs : Bool → Bool → Option Token → Bool → Type 0
ClosesAs may true (Some t) false = Is (codes ">>") t
ClosesAs may false (Some t) false = Is (codes ">") t
ClosesAs may false None true = may ≡ true
ClosesAs may _ _ _ = ⊥

abbrev pub ClosingIs : Bool → Bool → ℕ → Option Token × Bool → Type 0
ClosingIs may o d t = ClosesAs may o t.0 t.1

closes_to : (may : Bool) (d : ℕ) (x : TypeTree) (o : Bool) (c : Option Token) (owes : Bool) → IsType d o x → ClosesAs may o c owes → Closes (IsType d) (DeeperIs d) owes c x × Owed may owes
closes_to may d x true (Some t) false m a = (g.Closes.with_inner refl a m refl, no_debt may)
closes_to may d x false (Some t) false m a = (g.Closes.alone refl a m refl, no_debt may)
closes_to may d x false None true m a = (g.Closes.by_outer refl m refl, λ h. a)
closes_to may d x true (Some t) true m a = absurd a
closes_to may d x true None o m a = absurd a
closes_to may d x false (Some t) true m a = absurd a
closes_to may d x false None false m a = absurd a

closes_of : (may : Bool) (d : ℕ) (x : TypeTree) (c : Option Token) (owes : Bool) → Closes (IsType d) (DeeperIs d) owes c x → Owed may owes
    → (o : Bool) × IsType d o x × ClosesAs may o c owes
closes_of may d x c owes (g.Closes.alone {t} is a m e) debt = (false, m, subst (λ c. ClosesAs may false c owes) (sym is) (subst (λ k. ClosesAs may false (Some t) k) (sym e) a))
closes_of may d x c owes (g.Closes.with_inner {t} is a m e) debt = (true, m, subst (λ c. ClosesAs may true c owes) (sym is) (subst (λ k. ClosesAs may true (Some t) k) (sym e) a))
closes_of may d x c owes (g.Closes.by_outer is m e) debt = (false, m, subst (λ c. ClosesAs may false c owes) (sym is) (subst (λ k. ClosesAs may false None k) (sym e) (debt e)))

-- ---- bounds

abbrev pub OutputSide : Bool → ℕ → Output × Bool → Type 0
OutputSide may = Image output_of (Opt (Seq (λ d. Is (codes "->")) (TypeIs may)))

pub output_to : (may : Bool) (d : ℕ) (t : Output × Bool) → OutputSide may d t → OutputIs may d t
output_to may d t m = go m.0 m.1 m.2
  where
    go : (k : Option (Token × Typed)) → Opt (Seq (λ d. Is (codes "->")) (TypeIs may)) d k → t ≡ output_of k → OutputIs may d t
    go None m is = subst (λ t. OutputIs may d t) (sym is) (g.IsOutput.nothing output.outs-Unit refl, no_debt may)
    go (Some k) m is = subst (λ t. OutputIs may d t) (sym is) (g.IsOutput.type (output.outs-Type k.0 k.1.0) m.0 m.1.0, m.1.1)

pub output_back : (may : Bool) (d : ℕ) (t : Output × Bool) → OutputIs may d t → OutputSide may d t
output_back may d t m = go t.0 t.1 m.0 m.1
  where
    go : (o : Output) (owes : Bool) → IsOutput (IsType d) (DeeperIs d) owes o → Owed may owes → OutputSide may d (o, owes)
    go o owes (g.IsOutput.nothing is e) debt = (None, tt, same_pair o output.Unit owes false (same_output o output.Unit (is ∙ sym output.outs-Unit)) e)
    go o owes (g.IsOutput.type {arrow} {x} is a m) debt =
        (Some (arrow, (x, owes)), (a, (m, debt)), ap (λ k. (k, owes)) (same_output o (output.Type arrow x) (is ∙ sym (output.outs-Type arrow x))))

pub output_yield : (t : Option (Token × Typed)) → output_pieces (output_of t).0 ≡ maybe (λ t. piece t.0 ++ type_pieces t.1.0) t
output_yield None = pieces_no_output
output_yield (Some t) = pieces_output t.0 t.1.0

abbrev pub CallIs : Bool → ℕ → CallParts → Type 0
CallIs may = Seq (λ d. Is (codes "(")) (Seq (Lists PlainIs) (Seq (λ d. Is (codes ")")) (OutputIs may)))

abbrev pub call_pieces : CallParts → Pieces
call_pieces t = piece t.0 ++ (each (with_comma type_pieces) t.1.0 ++ (piece t.1.1.0 ++ output_pieces t.1.1.1.0))

call_record : (may : Bool) (d : ℕ) (x : Path) (t : CallParts) → PathIs d x → CallIs may d t → IsCallBound (IsType d) (DeeperIs d) t.1.1.1.1 x t.0 t.1.0 t.1.1.0 t.1.1.1.0
call_record may d x t m c = record { is_path = m; opens = c.0; inside = c.1.0; closes = c.1.1.0; result = c.1.1.1.0 }

abbrev pub BoundSide : Bool → ℕ → Bound × Bool → Type 0
BoundSide may = Image bound_of (Seq PathIs (Opt (CallIs may)))

pub bound_to : (may : Bool) (d : ℕ) (t : Bound × Bool) → BoundSide may d t → BoundIs may d t
bound_to may d t m = go m.0.0 m.0.1 m.1.0 m.1.1 m.2
  where
    go : (x : Path) (k : Option CallParts) → PathIs d x → Opt (CallIs may) d k → t ≡ bound_of (x, k) → BoundIs may d t
    go x None m c is = subst (λ t. BoundIs may d t) (sym is) (g.IsBound.path (bound.outs-Path x) m refl, no_debt may)
    go x (Some k) m c is = subst (λ t. BoundIs may d t) (sym is) (g.IsBound.call (bound.outs-Call x k.0 k.1.0 k.1.1.0 k.1.1.1.0) (call_record may d x k m c), c.1.1.1.1)

pub bound_back : (may : Bool) (d : ℕ) (t : Bound × Bool) → BoundIs may d t → BoundSide may d t
bound_back may d t m = go t.0 t.1 m.0 m.1
  where
    go : (b : Bound) (owes : Bool) → IsBound (IsType d) (DeeperIs d) owes b → Owed may owes → BoundSide may d (b, owes)
    go b owes (g.IsBound.path {x} is m e) debt = ((x, None), (m, tt), same_pair b (bound.Path x) owes false (same_bound b (bound.Path x) (is ∙ sym (bound.outs-Path x))) e)
    go b owes (g.IsBound.call {x} {open' = o} {close = c} {inputs} {output = out} is m) debt = (
      (x, Some (o, (inputs, (c, (out, owes))))),
      (m.is_path, (m.opens, (m.inside, (m.closes, (m.result, debt))))),
      ap (λ k. (k, owes)) (same_bound b (bound.Call x o inputs c out) (is ∙ sym (bound.outs-Call x o inputs c out))),
    )

pub bound_yield : (x : Path) (t : Option CallParts) → bound_pieces (bound_of (x, t)).0 ≡ path_pieces x ++ maybe call_pieces t
bound_yield x None = pieces_path_bound x ∙ sym (append-nil (path_pieces x))
bound_yield x (Some t) = pieces_call x t.0 t.1.0 t.1.1.0 t.1.1.1.0

pub bound_some : (may : Bool) (d : ℕ) (t : Bound × Bool) → BoundIs may d t → bound_pieces t.0 ≡ [] → ⊥
bound_some may d t m is =
    let s : BoundSide may d t = bound_back may d t m in
    path_some (PlainIs d) s.0.0 (maybe call_pieces s.0.1) s.1.0 (sym (bound_yield s.0.0 s.0.1) ∙ ap (λ k. bound_pieces k.0) (sym s.2) ∙ is)

-- ---- what stands behind a path

abbrev pub suffix_pieces : Suffix → Pieces
suffix_pieces nothing = []
suffix_pieces (angle o x c) = piece o ++ (type_pieces x ++ maybe piece c)
suffix_pieces (object b) = bound_pieces b
suffix_pieces (call o i c out) = piece o ++ (each (with_comma type_pieces) i ++ (piece c ++ output_pieces out))

abbrev pub AngleSide : Bool → ℕ → Suffix × Bool → Type 0
AngleSide may = Image angle_of (Seq (λ d. Is (codes "<")) (Chain (TypeIs true) (λ t. ClosingIs may t.1)))

abbrev pub ObjectSide : Bool → ℕ → Suffix × Bool → Type 0
ObjectSide may = Image object_of (λ d t. BoundIs may d t × Begins dyn_follow (bound_pieces t.0))

abbrev pub CallSide : Bool → ℕ → Suffix × Bool → Type 0
CallSide may = Image call_of (CallIs may)

abbrev pub SuffixIs : Bool → Path → ℕ → Suffix × Bool → Type 0
SuffixIs may x =
    Or (λ d t. (is_lone weak.Box (alone x) ≡ true) × AngleSide may d t)
    (Or (λ d t. (is_lone weak.Dyn (alone x) ≡ true) × ObjectSide may d t) (Image or_nothing (Opt (λ d t. (callable x ≡ true) × CallSide may d t))))

lone_yield : (x : Path) (w : Token) → alone x ≡ Some w → piece w ≡ path_pieces x
lone_yield x w at = sym (ap (λ k. path_pieces k) (alone_is x w at) ∙ lone_pieces w)

angle_yield : (x : Path) (w o : Token) (y : TypeTree) (c : Option Token) → alone x ≡ Some w → type_pieces (with_suffix (angle o y c) (alone x) x) ≡ path_pieces x ++ suffix_pieces (angle o y c)
angle_yield x w o y c at =
    ap (λ k. type_pieces (with_suffix (angle o y c) k x)) at ∙ pieces_boxed w o y c ∙ ap (λ k. k ++ suffix_pieces (angle o y c)) (lone_yield x w at)

object_yield : (x : Path) (w : Token) (b : Bound) → alone x ≡ Some w → type_pieces (with_suffix (object b) (alone x) x) ≡ path_pieces x ++ suffix_pieces (object b)
object_yield x w b at = ap (λ k. type_pieces (with_suffix (object b) k x)) at ∙ pieces_dyn w b ∙ ap (λ k. k ++ suffix_pieces (object b)) (lone_yield x w at)

abbrev Yields : Path → Suffix × Bool → Type 0
Yields x s = type_pieces (with_suffix s.0 (alone x) x) ≡ path_pieces x ++ suffix_pieces s.0

call_yield : (x : Path) (t : CallParts) → Yields x (call_of t)
call_yield x t = pieces_bare _ ∙ pieces_call x t.0 t.1.0 t.1.1.0 t.1.1.1.0

nothing_yield : (x : Path) → Yields x (nothing, false)
nothing_yield x = pieces_path_type x ∙ sym (append-nil (path_pieces x))

pub suffix_yield : (may : Bool) (x : Path) (d : ℕ) (s : Suffix × Bool) → SuffixIs may x d s → Yields x s
suffix_yield may x d s (inl m) =
    let w : (w : Token) × (alone x ≡ Some w) × (weak_is weak.Box (sort_of w) ≡ true) = lone_word weak.Box (alone x) m.0 in
    let a : AngleSide may d s = m.1 in
    subst (λ s. Yields x s) (sym a.2) (angle_yield x w.0 a.0.0 a.0.1.0.0 a.0.1.1.0 w.1)
suffix_yield may x d s (inr (inl m)) =
    let w : (w : Token) × (alone x ≡ Some w) × (weak_is weak.Dyn (sort_of w) ≡ true) = lone_word weak.Dyn (alone x) m.0 in
    let a : ObjectSide may d s = m.1 in
    subst (λ s. Yields x s) (sym a.2) (object_yield x w.0 a.0.0 w.1)
suffix_yield may x d s (inr (inr m)) = go m.0 m.1 m.2
  where
    go : (k : Option (Suffix × Bool)) → Opt (λ d t. (callable x ≡ true) × CallSide may d t) d k → s ≡ or_nothing k → Yields x s
    go None c is = subst (λ s. Yields x s) (sym is) (nothing_yield x)
    go (Some k) c is = let a : CallSide may d k = c.1 in subst (λ s. Yields x s) (sym (is ∙ a.2)) (call_yield x a.0)

abbrev pub PathTypeSide : Bool → ℕ → Typed → Type 0
PathTypeSide may = Image path_type_of (Chain PathIs (SuffixIs may))

angle_node : (may : Bool) (d : ℕ) (x : Path) (s : Suffix × Bool) → PathIs d x → (is_lone weak.Box (alone x) ≡ true) × AngleSide may d s → NodeIs may d (path_type_of (x, s))
angle_node may d x s m h =
    let w : (w : Token) × (alone x ≡ Some w) × (weak_is weak.Box (sort_of w) ≡ true) = lone_word weak.Box (alone x) h.0 in
    let a : AngleSide may d s = h.1 in
    let n : Name w.0 = weak_name weak.Box w.0 w.2 (alone_name (PlainIs d) x w.0 m w.1) in
    let c : Closes (IsType d) (DeeperIs d) a.0.1.1.1 a.0.1.1.0 a.0.1.0.0 × Owed may a.0.1.1.1 = closes_to may d a.0.1.0.0 a.0.1.0.1 a.0.1.1.0 a.0.1.1.1 a.1.1.0.0 a.1.1.1 in
    subst (λ s. NodeIs may d (path_type_of (x, s))) (sym a.2)
    (subst (λ k. NodeIs may d (with_suffix (angle a.0.0 a.0.1.0.0 a.0.1.1.0) k x, a.0.1.1.1)) (sym w.1)
    (g.TypeNode.boxed (ty.outs-Boxed w.0 a.0.0 a.0.1.0.0 a.0.1.1.0) (box_test.holds w.0 w.2) n a.1.0 c.0, c.1))

object_node : (may : Bool) (d : ℕ) (x : Path) (s : Suffix × Bool) → PathIs d x → (is_lone weak.Dyn (alone x) ≡ true) × ObjectSide may d s → NodeIs may d (path_type_of (x, s))
object_node may d x s m h =
    let w : (w : Token) × (alone x ≡ Some w) × (weak_is weak.Dyn (sort_of w) ≡ true) = lone_word weak.Dyn (alone x) h.0 in
    let a : ObjectSide may d s = h.1 in
    subst (λ s. NodeIs may d (path_type_of (x, s))) (sym a.2)
    (subst (λ k. NodeIs may d (with_suffix (object a.0.0) k x, a.0.1)) (sym w.1)
    (g.TypeNode.dyn (ty.outs-Dyn w.0 a.0.0) (dyn_test.holds w.0 w.2, λ n. begins_follow (bound_pieces a.0.0) a.1.1) a.1.0.0, a.1.0.1))

call_node : (may : Bool) (d : ℕ) (x : Path) (t : CallParts) → PathIs d x → callable x ≡ true → CallIs may d t → NodeIs may d (path_type_of (x, call_of t))
call_node may d x t m can c = (
  g.TypeNode.bare (ty.outs-Bare (bound.Call x t.0 t.1.0 t.1.1.0 t.1.1.1.0)) (bound.outs-Call x t.0 t.1.0 t.1.1.0 t.1.1.1.0) (call_record may d x t m c)
      (subst (λ ys. g.StartsBefore2021 (opened ys)) (sym (call_yield x t)) (call_old (PlainIs d) x m (suffix_pieces (call_of t).0) can)) (call_no_dyn (PlainIs d) x m [] can),
  c.1.1.1.1,
)

pub path_type_to : (may : Bool) (d : ℕ) (t : Typed) → PathTypeSide may d t → NodeIs may d t
path_type_to may d t m = subst (λ t. NodeIs may d t) (sym m.2) (go m.0.0 m.0.1 m.1.0 m.1.1)
  where
    calls : (x : Path) (s : Suffix × Bool) → PathIs d x → (k : Option (Suffix × Bool)) → Opt (λ d t. (callable x ≡ true) × CallSide may d t) d k → s ≡ or_nothing k → NodeIs may d (path_type_of (x, s))
    calls x s m None c is = subst (λ s. NodeIs may d (path_type_of (x, s))) (sym is) (g.TypeNode.path (ty.outs-Path x) m, no_debt may)
    calls x s m (Some k) c is = let a : CallSide may d k = c.1 in subst (λ s. NodeIs may d (path_type_of (x, s))) (sym (is ∙ a.2)) (call_node may d x a.0 m c.0 a.1)

    go : (x : Path) (s : Suffix × Bool) → PathIs d x → SuffixIs may x d s → NodeIs may d (path_type_of (x, s))
    go x s m (inl a) = angle_node may d x s m a
    go x s m (inr (inl a)) = object_node may d x s m a
    go x s m (inr (inr a)) = calls x s m a.0 a.1 a.2

-- ---- other types

abbrev pub RefSide : Bool → ℕ → Typed → Type 0
RefSide may = Image ref_of (Seq (λ d. Is (codes "&")) (Seq (Opt (λ d. Is (codes "mut"))) (TypeIs may)))

abbrev pub RefRefSide : Bool → ℕ → Typed → Type 0
RefRefSide may = Image ref_ref_of (Seq (λ d. Is (codes "&&")) (Seq (Opt (λ d. Is (codes "mut"))) (Shift (TypeIs may))))

abbrev pub AfterIs : ℕ → Bracket → Type 0
AfterIs = Or (Image one (λ d. Is (codes "]"))) (Image two (Seq (λ d. Is (codes ";")) (Seq (λ d. IsIntLiteral) (λ d. Is (codes "]")))))

abbrev pub BracketSide : ℕ → Typed → Type 0
BracketSide = Image bracket_of (Seq (λ d. Is (codes "[")) (Seq PlainIs AfterIs))

abbrev pub UnitSide : ℕ → Typed → Type 0
UnitSide = Image unit_of (Seq (λ d. Is (codes "(")) (λ d. Is (codes ")")))

abbrev pub DynSide : Bool → ℕ → Typed → Type 0
DynSide may = Image dyn_of (Seq (λ d t. Is (codes "dyn") t × (Name t → ⊥)) (BoundIs may))

abbrev pub Sides : Bool → ℕ → Typed → Type 0
Sides may = Or (RefSide may) (Or (RefRefSide may) (Or BracketSide (Or UnitSide (Or (DynSide may) (PathTypeSide may)))))

abbrev pub GroupSide : ℕ → Typed → Type 0
GroupSide = Image type_group_of (Grp is_type_group PlainIs type_pieces)

deeper_to : (may : Bool) (d : ℕ) (t : Typed) → Shift (TypeIs may) d t → DeeperIs d t.1 t.0 × Owed may t.1
deeper_to may zero t m = absurd m
deeper_to may (suc d) t m = m

deeper_of : (may : Bool) (d : ℕ) (t : Typed) → DeeperIs d t.1 t.0 → Owed may t.1 → Shift (TypeIs may) d t
deeper_of may zero t m debt = absurd m
deeper_of may (suc d) t m debt = (m, debt)

bracket_to : (may : Bool) (d : ℕ) (o : Token) (x : TypeTree) (k : Bracket) → Is (codes "[") o → PlainIs d x → AfterIs d k → NodeIs may d (in_brackets o x k, false)
bracket_to may d o x k a m (inl c) = subst (λ k. NodeIs may d (in_brackets o x k, false)) (sym c.2) (g.TypeNode.slice (ty.outs-Slice o x c.0) a m c.1, no_debt may)
bracket_to may d o x k a m (inr c) =
    subst (λ k. NodeIs may d (in_brackets o x k, false)) (sym c.2)
    (g.TypeNode.array (ty.outs-Array o x c.0.0 c.0.1.0 c.0.1.1) a m c.1.0 c.1.1.0 c.1.1.1, no_debt may)

pub sides_to : (may : Bool) (d : ℕ) (t : Typed) → Sides may d t → NodeIs may d t
sides_to may d t (inl m) = subst (λ t. NodeIs may d t) (sym m.2) (g.TypeNode.ref (ty.outs-Ref m.0.0 m.0.1.0 m.0.1.1.0) m.1.0 m.1.1.0 m.1.1.1.0, m.1.1.1.1)
sides_to may d t (inr (inl m)) =
    let k : DeeperIs d m.0.1.1.1 m.0.1.1.0 × Owed may m.0.1.1.1 = deeper_to may d m.0.1.1 m.1.1.1 in
    subst (λ t. NodeIs may d t) (sym m.2) (g.TypeNode.ref_ref (ty.outs-RefRef m.0.0 m.0.1.0 m.0.1.1.0) m.1.0 m.1.1.0 k.0, k.1)
sides_to may d t (inr (inr (inl m))) = subst (λ t. NodeIs may d t) (sym m.2) (bracket_to may d m.0.0 m.0.1.0 m.0.1.1 m.1.0 m.1.1.0 m.1.1.1)
sides_to may d t (inr (inr (inr (inl m)))) = subst (λ t. NodeIs may d t) (sym m.2) (g.TypeNode.unit (ty.outs-Unit m.0.0 m.0.1) m.1.0 m.1.1, no_debt may)
sides_to may d t (inr (inr (inr (inr (inl m))))) =
    subst (λ t. NodeIs may d t) (sym m.2) (g.TypeNode.dyn (ty.outs-Dyn m.0.0 m.0.1.0) (m.1.0.0, λ n. absurd (m.1.0.1 n)) m.1.1.0, m.1.1.1)
sides_to may d t (inr (inr (inr (inr (inr m))))) = path_type_to may d t m

pub kind_type : (k : FragmentKind) → type_kind k ≡ true → k ≡ fk.Ty
kind_type fk.Ty h = refl
kind_type _ h = cc

pub type_to : (may : Bool) (d : ℕ) (t : Typed) → Or (Shift (Sides may)) GroupSide d t → TypeIs may d t
type_to may zero t (inl m) = absurd m
type_to may (suc d) t (inl m) = let n : NodeIs may d t = sides_to may d t m in (node_type d t.1 t.0 n.0, n.1)
type_to may zero t (inr m) = absurd (no_type_at false m.0.1 m.1.2)
type_to may (suc d) t (inr m) =
    subst (λ t. TypeIs may (suc d) t) (sym m.2)
    (node_type d false (ty.Group m.0.0 m.0.1) (g.TypeNode.group (ty.outs-Group m.0.0 m.0.1) (kind_type (kind_of m.0.0) m.1.0) m.1.1 (type_node_of d false m.0.1 m.1.2)), no_debt may)

-- ---- back

-- a path of one word, with what stands behind it
pub lone_is : (w : Token) (d : ℕ) → Name w → PathIs d (lone_path w)
lone_is w d n = g.IsPath.plain (made.outs-Plain (record { lead = None; first = plain_segment w; more = [] })) (record { lead = tt; first = inl n; more = tt })

is_lone_path : (v : Weak) (w : Token) → weak_is v (sort_of w) ≡ true → is_lone v (alone (lone_path w)) ≡ true
is_lone_path v w h = ap (λ k. is_lone v k) (lone_alone w) ∙ h

boxed_back : (may : Bool) (d : ℕ) (owes : Bool) (x y : TypeTree) (w o : Token) (c : Option Token) → x ≡ ty.Boxed w o y c → Is (codes "Box") w → Name w → Is (codes "<") o
    → Closes (IsType d) (DeeperIs d) owes c y → Owed may owes → PathTypeSide may d (x, owes)
boxed_back may d owes x y w o c is a n b m debt =
    let k : (q : Bool) × IsType d q y × ClosesAs may q c owes = closes_of may d y c owes m debt in (
      (lone_path w, (angle o y c, owes)),
      (lone_is w d n, inl (is_lone_path weak.Box w (box_test.told w a), ((o, ((y, k.0), (c, owes))), (b, ((k.1, λ h. refl), k.2)), refl))),
      ap (λ k. (k, owes)) (is ∙ ap (λ k. with_suffix (angle o y c) k (lone_path w)) (sym (lone_alone w))),
    )

object_back : (may : Bool) (d : ℕ) (owes : Bool) (x : TypeTree) (w : Token) (b : Bound) → x ≡ ty.Dyn w b → Is (codes "dyn") w → Name w → FollowsDyn (bound_pieces b)
    → IsBound (IsType d) (DeeperIs d) owes b → Owed may owes → PathTypeSide may d (x, owes)
object_back may d owes x w b is a n f m debt = (
  (lone_path w, (object b, owes)),
  (lone_is w d n, inr (inl (is_lone_path weak.Dyn w (dyn_test.told w a), ((b, owes), ((m, debt), follows_begin (bound_pieces b) f), refl)))),
  ap (λ k. (k, owes)) (is ∙ ap (λ k. with_suffix (object b) k (lone_path w)) (sym (lone_alone w))),
)

bare_back : (may : Bool) (d : ℕ) (owes : Bool) (x : TypeTree) (y : Path) (o c : Token) (i : List (Listed TypeTree)) (out : Output) → x ≡ ty.Bare (bound.Call y o i c out)
    → IsCallBound (IsType d) (DeeperIs d) owes y o i c out → g.StartsBefore2021 (Rattle.em_tree.specs.Yields.opened (type_pieces x))
    → ((t : Token) → path_pieces y ≡ p.Token t ∷ [] → Is (codes "dyn") t → ⊥) → Owed may owes → PathTypeSide may d (x, owes)
bare_back may d owes x y o c i out is m old other debt =
    let yields : type_pieces x ≡ path_pieces y ++ suffix_pieces (call o i c out) = ap (λ k. type_pieces k) is ∙ call_yield y (o, (i, (c, (out, owes)))) in
    let can : callable y ≡ true = callable_of (PlainIs d) y m.is_path (suffix_pieces (call o i c out)) (subst (λ ys. g.StartsBefore2021 (opened ys)) yields old) other in (
      (y, (call o i c out, owes)),
      (m.is_path, inr (inr (Some (call o i c out, owes), (can, ((o, (i, (c, (out, owes)))), (m.opens, (m.inside, (m.closes, (m.result, debt)))), refl)), refl))),
      ap (λ k. (k, owes)) is,
    )

dyn_back : (may : Bool) (d : ℕ) (owes : Bool) (x : TypeTree) (w : Token) (b : Bound) → x ≡ ty.Dyn w b → Is (codes "dyn") w → (Name w → FollowsDyn (bound_pieces b))
    → IsBound (IsType d) (DeeperIs d) owes b → Owed may owes → Or (DynSide may) (PathTypeSide may) d (x, owes)
dyn_back may d owes x w b is a f m debt = go (name_sort (sort_of w)) refl
  where
    go : (k : Bool) → name_sort (sort_of w) ≡ k → Or (DynSide may) (PathTypeSide may) d (x, owes)
    go true h = let n : Name w = name.holds w h in inr (object_back may d owes x w b is a n (f n) m debt)
    go false h = inl ((w, (b, owes)), ((a, λ n. let k : name_sort (sort_of w) ≡ true = name.told w n in cc), (m, debt)), ap (λ k. (k, owes)) is)

pub type_back : (may : Bool) (d : ℕ) (owes : Bool) (x : TypeTree) → TypeNode (IsType d) (DeeperIs d) owes x → Owed may owes → Or (Shift (Sides may)) GroupSide (suc d) (x, owes)
type_back may d _ _ (g.TypeNode.path {x} {y} is m) debt =
    inl (inr (inr (inr (inr (inr ((y, (nothing, false)), (m, inr (inr (None, tt, refl))), ap (λ k. (k, false)) (same_type x (ty.Path y) (is ∙ sym (ty.outs-Path y)))))))))
type_back may d _ _ (g.TypeNode.boxed {owes} {x} {y} {word} {open' = o} {close} is a n b m) debt =
    inl (inr (inr (inr (inr (inr (boxed_back may d owes x y word o close (same_type x (ty.Boxed word o y close) (is ∙ sym (ty.outs-Boxed word o y close))) a n b m debt))))))
type_back may d _ _ (g.TypeNode.ref {owes} {x} {y} {amp} {word_mut} is a b m) debt =
    inl (inl ((amp, (word_mut, (y, owes))), (a, (b, (m, debt))), ap (λ k. (k, owes)) (same_type x (ty.Ref amp word_mut y) (is ∙ sym (ty.outs-Ref amp word_mut y)))))
type_back may d _ _ (g.TypeNode.ref_ref {owes} {x} {y} {amps} {word_mut} is a b m) debt =
    inl (inr (inl ((amps, (word_mut, (y, owes))), (a, (b, deeper_of may d (y, owes) m debt)), ap (λ k. (k, owes)) (same_type x (ty.RefRef amps word_mut y) (is ∙ sym (ty.outs-RefRef amps word_mut y))))))
type_back may d _ _ (g.TypeNode.array {x} {y} {open' = o} {semi} {close} {length} is a m b c e) debt = inl (inr (inr (inl (
  (o, (y, two (semi, (length, close)))),
  (a, (m, inr ((semi, (length, close)), (b, (c, e)), refl))),
  ap (λ k. (k, false)) (same_type x (ty.Array o y semi length close) (is ∙ sym (ty.outs-Array o y semi length close))),
))))
type_back may d _ _ (g.TypeNode.slice {x} {y} {open' = o} {close} is a m b) debt =
    inl (inr (inr (inl ((o, (y, one close)), (a, (m, inl (close, b, refl))), ap (λ k. (k, false)) (same_type x (ty.Slice o y close) (is ∙ sym (ty.outs-Slice o y close)))))))
type_back may d _ _ (g.TypeNode.unit {x} {open' = o} {close} is a b) debt =
    inl (inr (inr (inr (inl ((o, close), (a, b), ap (λ k. (k, false)) (same_type x (ty.Unit o close) (is ∙ sym (ty.outs-Unit o close))))))))
type_back may d _ _ (g.TypeNode.dyn {owes} {x} {word} {b} is a m) debt =
    inl (inr (inr (inr (inr (dyn_back may d owes x word b (same_type x (ty.Dyn word b) (is ∙ sym (ty.outs-Dyn word b))) a.0 a.1 m debt)))))
type_back may d _ _ (g.TypeNode.bare {owes} {x} {b} {y} {open' = o} {close} {inputs} {output = out} is at m old other) debt =
    let same : x ≡ ty.Bare (bound.Call y o inputs close out)
    = same_type x (ty.Bare b) (is ∙ sym (ty.outs-Bare b)) ∙ ap (λ k. ty.Bare k) (same_bound b (bound.Call y o inputs close out) (at ∙ sym (bound.outs-Call y o inputs close out))) in
    inl (inr (inr (inr (inr (inr (bare_back may d owes x y o close inputs out same m old other debt))))))
type_back may d _ _ (g.TypeNode.group {x} {y} {g = gr} is k ps m) debt =
    inr ((gr, y), (ap (λ k. type_kind k) k, ps, node_type d false y m), ap (λ k. (k, false)) (same_type x (ty.Group gr y) (is ∙ sym (ty.outs-Group gr y))))

pub type_of : (may : Bool) (d : ℕ) (t : Typed) → TypeIs may d t → Or (Shift (Sides may)) GroupSide d t
type_of may zero t m = absurd (no_type_at t.1 t.0 m.0)
type_of may (suc d) t m = type_back may d t.1 t.0 (type_node_of d t.1 t.0 m.0) m.1
