-- Functions, traits and impls are read.
use Rattle.std.proofs.lemmas.List.{append-nil}
use Rattle.std.proofs.Common.{◌≡◌, ℕ, suc, Bool, true, false, List, [], ◌∷◌, ◌++◌, Option, Some, None, refl, sym, ◌∙◌, ap, subst, append_assoc, inl, inr}
use Rattle.std.specs.Prelude.{codes}
use Rattle.em_base.specs.declared.token.Token.{Token}
use Rattle.em_tree.specs.declared.piece.Piece.TheVariants as p
use Rattle.em_tree.specs.declared.types.Path.{Path}
use Rattle.em_tree.specs.declared.types.Output.{Output}
use Rattle.em_tree.specs.declared.types.Bound.{Bound}
use Rattle.em_tree.specs.declared.types.Qualified.{Qualified}
use Rattle.em_tree.specs.declared.types.TypeTree.{TypeTree, out-TypeTree}
use Rattle.em_tree.specs.declared.types.TypeTree.TheVariants as ty
use Rattle.em_tree.specs.declared.types.Bound.TheOpen.{TypeTree-F}
use Rattle.em_tree.specs.declared.item.TraitBody.{TraitBody}
use Rattle.em_tree.specs.declared.item.TraitBody.TheVariants as trait_body
use Rattle.em_tree.specs.declared.item.TraitFn.{TraitFn}
use Rattle.em_tree.specs.declared.item.ImplFn.{ImplFn}
use Rattle.em_tree.specs.Parts.{maybe, each, sig_parts, trait_body_parts, trait_fn_parts, impl_fn_parts}
use Rattle.em_tree.specs.Starts.{Pieces}
use Rattle.em_tree.specs.Tokens.{Is, Name}
use Rattle.em_tree.specs.Yields.{piece, whole, as_it_is}
use Rattle.em_tree.specs.PathGrammar as g
use Rattle.em_tree.specs.PathGrammar.{path_pieces, type_pieces, IsPath, IsType, TypeWithin, PathWithin, TypeNode}
use Rattle.em_tree.specs.PatGrammar.{pat_pieces, IsPat}
use Rattle.em_tree.specs.ExprGrammar.{BlockWithin, block_pieces}
use Rattle.em_tree.specs.ItemGrammar.{IsVis, IsSig, IsTraitBody, IsTraitFn, IsImplFn}
use Rattle.em_grammar.specs.declared.sort.Written.TheVariants as word
use Rattle.em_grammar.specs.declared.sort.Weak.TheVariants as weak
use Rattle.em_grammar.specs.Sets.{subset, either, both, anything}
use Rattle.em_grammar.specs.Lang.{Chain, Seq, Opt, Many, Image, Or, joined}
use Rattle.em_grammar.specs.TypeReader.{type_first, type_clear, alone, is_lone}
use Rattle.em_grammar.specs.PatReader.{pat_first, pat_clear}
use Rattle.em_grammar.specs.ExprSets.{block_first}
use Rattle.em_grammar.specs.ItemReader as read
use Rattle.em_grammar.specs.ItemReader.{at, mark, Inner, semi_of, block_of, trait_fn_of, impl_fn_of, fn_of, trait_of, path_unless, trait_layer, trait_path, has_path, ImplHead, impl_for, impl_with, impl_of, item_start}
use Rattle.em_grammar.specs.Pairs.{Pair}
use Rattle.em_grammar.proofs.Pairs.{tok, seq_of, part_seq, chain_part, opt_of, may_opt, opt_clear}
use Rattle.em_grammar.proofs.Lists.{many_of}
use Rattle.em_grammar.proofs.Forms.{image_of, or_of, same_of, when_of}
use Rattle.em_grammar.proofs.Tests as test
use Rattle.em_grammar.proofs.Tests.{sign, dyn_test}
use Rattle.em_grammar.proofs.PathLayers.{same_type, pieces_path_type}
use Rattle.em_grammar.proofs.PathFacts.{token_alone, lone_word, alone_is, lone_pieces}
use Rattle.em_grammar.proofs.TypeNodes.{DeeperIs, node_type, type_node_of, type_grows}
use Rattle.em_grammar.proofs.PatNodes.{path_more}
use Rattle.em_grammar.proofs.ItemTools.{near_of, deeper_of, flat3, nest3}
use Rattle.em_grammar.proofs.ItemPartPairs.{vis_pair, vis_clear}
use Rattle.em_grammar.proofs.ItemUsePairs.{body_pieces, free}
use Rattle.em_grammar.proofs.ItemSigPairs.{sig_pair}

abbrev trait_body_pieces : TraitBody → Pieces
trait_body_pieces x = trait_body_parts piece whole as_it_is x

abbrev trait_fn_pieces : TraitFn → Pieces
trait_fn_pieces x = trait_fn_parts piece whole as_it_is x

abbrev impl_fn_pieces : ImplFn → Pieces
impl_fn_pieces x = impl_fn_parts piece whole as_it_is x

-- ---- the trait of an impl

-- the path of a type that is one
path_node : (I J : Bool → TypeTree → Type 0) (o : Bool) (x : TypeTree) → TypeNode I J o x → (y : Path) → out-TypeTree x ≡ TypeTree-F.TypeTree::Path y → IsPath (I false) y
path_node I J _ x (g.TypeNode.path {y = z} is m) y eq = let same : z ≡ y = cc in subst (λ k. IsPath (I false) k) same m
path_node I J _ x (g.TypeNode.boxed is a n b m) y eq = cc
path_node I J _ x (g.TypeNode.ref is a b m) y eq = cc
path_node I J _ x (g.TypeNode.ref_ref is a b m) y eq = cc
path_node I J _ x (g.TypeNode.array is a m b k e) y eq = cc
path_node I J _ x (g.TypeNode.slice is a m b) y eq = cc
path_node I J _ x (g.TypeNode.unit is a b) y eq = cc
path_node I J _ x (g.TypeNode.dyn is a m) y eq = cc
path_node I J _ x (g.TypeNode.bare is e m old n) y eq = cc
path_node I J _ x (g.TypeNode.group is k ps m) y eq = cc

path_of_type : (d : ℕ) (x : TypeTree) (y : Path) → x ≡ ty.Path y → IsType (suc d) false x → PathWithin d y
path_of_type d x y eq m = path_node (IsType d) (DeeperIs d) false x (type_node_of d false x m) y (ap (λ k. out-TypeTree k) eq ∙ ty.outs-Path y)

type_of_path : (d : ℕ) (x : TypeTree) (y : Path) → x ≡ ty.Path y → PathWithin d y → IsType (suc d) false x
type_of_path d x y eq m = node_type d false x (g.TypeNode.path (ap (λ k. out-TypeTree k) eq ∙ ty.outs-Path y) m)

pub path_seen : (y : Path) → is_lone weak.Dyn (alone y) ≡ false → trait_path (ty.Path y) ≡ Some y
unfolding trait_path
path_seen y h = ap (λ l. trait_layer l) (ty.outs-Path y) ∙ ap (λ b. path_unless b y) h

pub path_made : (x : TypeTree) (y : Path) → trait_path x ≡ Some y → (x ≡ ty.Path y) × (is_lone weak.Dyn (alone y) ≡ false)
unfolding trait_path
path_made x y h = go (out-TypeTree x) refl h
  where
    unless : (z : Path) (b : Bool) → is_lone weak.Dyn (alone z) ≡ b → out-TypeTree x ≡ TypeTree-F.TypeTree::Path z → path_unless b z ≡ Some y → (x ≡ ty.Path y) × (is_lone weak.Dyn (alone y) ≡ false)
    unless z true e is h = cc
    unless z false e is h =
        let same : z ≡ y = cc in
        (same_type x (ty.Path y) (is ∙ ap (λ k. TypeTree-F.TypeTree::Path k) same ∙ sym (ty.outs-Path y)), subst (λ k. is_lone weak.Dyn (alone k) ≡ false) same e)

    go : (l : TypeTree-F Bound Output Path TypeTree Qualified) → out-TypeTree x ≡ l → trait_layer l ≡ Some y → (x ≡ ty.Path y) × (is_lone weak.Dyn (alone y) ≡ false)
    go (TypeTree-F.TypeTree::Path z) is h = unless z (is_lone weak.Dyn (alone z)) refl is h
    go _ is h = cc

pub not_dyn : (d : ℕ) (y : Path) → PathWithin d y → is_lone weak.Dyn (alone y) ≡ false → (t : Token) → path_pieces y ≡ p.Token t ∷ [] → Is (codes "dyn") t → ⊥
not_dyn d y m h t eq is =
    let lone : is_lone weak.Dyn (alone y) ≡ true = ap (λ o. is_lone weak.Dyn o) (token_alone (TypeWithin d) y t m eq) ∙ dyn_test.sorted t is in
    cc

pub is_no_dyn : (y : Path) → ((t : Token) → path_pieces y ≡ p.Token t ∷ [] → Is (codes "dyn") t → ⊥) → is_lone weak.Dyn (alone y) ≡ false
is_no_dyn y n = go (is_lone weak.Dyn (alone y)) refl
  where
    go : (b : Bool) → is_lone weak.Dyn (alone y) ≡ b → b ≡ false
    go false is = refl
    go true is =
        let w = lone_word weak.Dyn (alone y) is in
        absurd (n w.0 (ap (λ k. path_pieces k) (alone_is y w.0 w.1) ∙ lone_pieces w.0) (dyn_test.holds w.0 w.2))

-- ---- heads of impls

-- a type, or a trait, `for` and a type
abbrev pub HeadIs : ℕ → ImplHead → Type 0
HeadIs d (x, None) = TypeWithin d x
HeadIs d (x, Some u) = ((y : Path) × (trait_path x ≡ Some y) × PathWithin d y) × Is (codes "for") u.0 × TypeWithin d u.1

abbrev ForPart : TypeTree → ℕ → Token × TypeTree → Type 0
ForPart x d u = (has_path (trait_path x) ≡ true) × Seq (λ d. Is (codes "for")) TypeWithin d u

abbrev HeadParts : ℕ → ImplHead → Type 0
HeadParts = Chain (λ d. TypeWithin (suc d)) (λ x. Opt (ForPart x))

has_some : (o : Option Path) → has_path o ≡ true → (y : Path) × (o ≡ Some y)
has_some None h = cc
has_some (Some y) h = (y, refl)

head_grows : (d : ℕ) (t : ImplHead) → HeadIs d t → HeadIs (suc d) t
head_grows d (x, None) m = type_grows d false x m
head_grows d (x, Some u) m = ((m.0.0, m.0.1, path_more d m.0.0 m.0.2), m.1, type_grows d false u.1 m.2)

to_head : (d : ℕ) (t : ImplHead) → HeadParts d t → HeadIs (suc d) t
to_head d (x, None) m = m.0
to_head d (x, Some u) m =
    let y = has_some (trait_path x) m.1.0 in
    ((y.0, y.1, path_more d y.0 (path_of_type d x y.0 (path_made x y.0 y.1).0 m.0)), m.1.1.0, type_grows d false u.1 m.1.1.1)

of_head : (d : ℕ) (t : ImplHead) → HeadIs d t → HeadParts d t
of_head d (x, None) m = (type_grows d false x m, tt)
of_head d (x, Some u) m = (type_of_path d x m.0.0 (path_made x m.0.0 m.0.1).0 m.0.2, (ap (λ o. has_path o) m.0.1, (m.1, m.2)))

abbrev head_pieces : ImplHead → Pieces
head_pieces = joined type_pieces (maybe (joined piece type_pieces))

abbrev pub ImplParts : ℕ → Token × (ImplHead × (Token × (List ImplFn × Token))) → Type 0
ImplParts = Seq (λ d. Is (codes "impl")) (Seq HeadIs (Seq (λ d. Is (codes "{")) (Seq (Many IsImplFn) (λ d. Is (codes "}")))))

-- ---- functions with their bodies

abbrev SemiSide : ℕ → TraitBody → Type 0
SemiSide = Image semi_of (λ d. Is (codes ";"))

abbrev BlockSide : ℕ → TraitBody → Type 0
BlockSide = Image block_of BlockWithin

to_trait_body : (d : ℕ) (x : TraitBody) → Or SemiSide BlockSide d x → IsTraitBody d x
to_trait_body d x (inl m) = subst (λ x. IsTraitBody d x) (sym m.2) m.1
to_trait_body d x (inr m) = subst (λ x. IsTraitBody d x) (sym m.2) m.1

of_trait_body : (d : ℕ) (x : TraitBody) → IsTraitBody d x → Or SemiSide BlockSide d x
of_trait_body d (trait_body.Semi t) m = inl (t, m, refl)
of_trait_body d (trait_body.Block b) m = inr (b, m, refl)

to_trait_fn : (d : ℕ) (x : TraitFn) → Image trait_fn_of (Seq (λ d x. IsSig d true x) IsTraitBody) d x → IsTraitFn d x
to_trait_fn d x m = subst (λ x. IsTraitFn d x) (sym m.2) m.1

to_impl_fn : (d : ℕ) (x : ImplFn) → Image impl_fn_of (Seq (Opt (λ d. IsVis)) (Seq (λ d x. IsSig d false x) BlockWithin)) d x → IsImplFn d x
to_impl_fn d x m = subst (λ x. IsImplFn d x) (sym m.2) (flat3 m.1)

module _ (H : Pieces → Type 0) (depth : ℕ) (inner : Inner) (types : Pair H depth TypeWithin type_pieces inner.types type_first (λ _. type_clear))
    (heads : Pair H (suc depth) TypeWithin type_pieces inner.heads type_first (λ _. type_clear)) (pats : Pair H depth IsPat pat_pieces inner.pats pat_first (λ _. pat_clear))
    (blocks : Pair H depth BlockWithin block_pieces inner.blocks block_first (λ _. anything)) where
  sig_in : (old : Bool) → Pair H depth (λ d x. IsSig d old x) (λ x. sig_parts piece whole as_it_is x) (read.sig inner.types inner.pats old) (at word.Fn) (λ _. type_clear)
  sig_in old = sig_pair old H depth inner.types inner.pats types pats

  trait_body_pair : Pair H depth IsTraitBody trait_body_pieces (read.trait_end inner) (either (at word.Semi) block_first) free
  trait_body_pair =
      same_of to_trait_body of_trait_body
      (or_of (image_of semi_of trait_body_pieces (λ d t m. refl) (λ _. refl) (tok (sign word.Semi))) (image_of block_of trait_body_pieces (λ d t m. refl) (λ _. refl) blocks) refl)

  trait_fn_pair : Pair H depth IsTraitFn trait_fn_pieces (read.trait_fn inner) (at word.Fn) free
  trait_fn_pair =
      same_of to_trait_fn (λ d x m. ((x.sig, x.body), m, refl))
      (image_of trait_fn_of trait_fn_pieces (λ d t m. refl) (λ _. refl) (seq_of (sig_in true) trait_body_pair (λ _. refl)))

  impl_fn_pair : Pair H depth IsImplFn impl_fn_pieces (read.impl_fn inner) (either (at word.Pub) (at word.Fn)) free
  impl_fn_pair =
      same_of to_impl_fn (λ d x m. ((x.vis, (x.sig, x.body)), nest3 m, refl))
      (image_of impl_fn_of impl_fn_pieces (λ d t m. refl) (λ _. refl)
      (part_seq (opt_of (vis_pair H depth)) (seq_of (sig_in false) blocks (λ _. refl)) (may_opt (at word.Fn) (at word.Pub) (λ _. vis_clear) refl (λ _. refl))))

  pub fn_pair : Pair H depth (Image fn_of (Seq (λ d x. IsSig d false x) BlockWithin)) body_pieces (read.fn_item inner) (at word.Fn) free
  fn_pair = image_of fn_of body_pieces (λ d t m. refl) (λ _. refl) (seq_of (sig_in false) blocks (λ _. refl))

  pub trait_pair : Pair H depth (Image trait_of (Seq (λ d. Is (codes "trait")) (Seq (λ d. Name) (Seq (λ d. Is (codes "{")) (Seq (Many IsTraitFn) (λ d. Is (codes "}"))))))) body_pieces (read.trait_item inner) (at word.Trait) free
  trait_pair =
      image_of trait_of body_pieces (λ d t m. refl) (λ _. refl)
      (seq_of (tok (sign word.Trait)) (seq_of (tok test.name) (seq_of (tok (sign word.OpenBrace)) (part_seq (many_of trait_fn_pair refl refl) (tok (sign word.CloseBrace)) (λ _. refl)) (λ _. refl)) (λ _. refl)) (λ _. refl))

  head_pair : Pair H depth HeadIs head_pieces (read.impl_head inner) type_first (λ t. both type_clear (opt_clear (at word.For) (λ _. type_clear) t.1))
  head_pair =
      near_of head_grows to_head of_head
      (chain_part {g = at word.For} (deeper_of heads) (λ x. opt_of (when_of (has_path (trait_path x)) (seq_of (tok (sign word.For)) types (λ _. refl)))) (λ _. refl))

  pub impl_pair : Pair H depth (Image impl_of ImplParts) body_pieces (read.impl_item inner) (at word.Impl) free
  impl_pair =
      image_of impl_of body_pieces same (λ _. refl)
      (seq_of (tok (sign word.Impl)) (seq_of head_pair (seq_of (tok (sign word.OpenBrace)) (part_seq (many_of impl_fn_pair refl refl) (tok (sign word.CloseBrace)) (λ _. refl)) (λ _. refl)) before_brace) (λ _. refl))
    where
      before_brace : (t : ImplHead) → subset (at word.OpenBrace) (both type_clear (opt_clear (at word.For) (λ _. type_clear) t.1)) ≡ true
      before_brace (x, None) = refl
      before_brace (x, Some u) = refl

      same : (d : ℕ) (t : Token × (ImplHead × (Token × (List ImplFn × Token)))) → ImplParts d t
          → body_pieces (impl_of t) ≡ piece t.0 ++ (head_pieces t.1.0 ++ (piece t.1.1.0 ++ (each impl_fn_pieces t.1.1.1.0 ++ piece t.1.1.1.1)))
      same d (w, ((x, None), (o, (fs, c)))) m = ap (λ k. piece w ++ (k ++ (piece o ++ (each impl_fn_pieces fs ++ piece c)))) (sym (append-nil (type_pieces x)))
      same d (w, ((x, Some u), (o, (fs, c)))) m =
          let y : Path = m.1.0.0.0 in
          let r : Pieces = piece o ++ (each impl_fn_pieces fs ++ piece c) in
          ap (λ q. body_pieces (impl_for w q u o fs c)) m.1.0.0.1
          ∙ ap (λ k. piece w ++ k) (append_assoc (path_pieces y) (piece u.0) (type_pieces u.1 ++ r) ∙ sym (append_assoc (path_pieces y) (piece u.0 ++ type_pieces u.1) r)
          ∙ ap (λ k. (k ++ (piece u.0 ++ type_pieces u.1)) ++ r) (sym (ap (λ k. type_pieces k) (path_made x y m.1.0.0.1).0 ∙ pieces_path_type y)))
