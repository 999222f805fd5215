-- Items are read.
use Rattle.std.proofs.Common.{◌≡◌, ℕ, suc, true, false, List, [], ◌∷◌, ◌++◌, Option, Some, None, refl, sym, ◌∙◌, ap, subst, ◌⊎◌, inl, inr, map}
use Rattle.std.specs.Prelude.{codes}
use Rattle.em_base.specs.declared.token.Token.{Token}
use Rattle.em_tree.specs.declared.piece.FragmentKind.{FragmentKind}
use Rattle.em_tree.specs.declared.piece.FragmentKind.TheVariants as fk
use Rattle.em_tree.specs.declared.piece.Group.{Group}
use Rattle.em_tree.specs.declared.piece.Piece.{Piece}
use Rattle.em_tree.specs.declared.types.Segments.{Segments}
use Rattle.em_tree.specs.declared.types.TypeTree.TheVariants as ty
use Rattle.em_tree.specs.declared.item.Attribute.{Attribute}
use Rattle.em_tree.specs.declared.item.Vis.{Vis}
use Rattle.em_tree.specs.declared.item.ImplFn.{ImplFn}
use Rattle.em_tree.specs.declared.item.ItemBody.{ItemBody}
use Rattle.em_tree.specs.declared.item.ItemBody.TheVariants as body
use Rattle.em_tree.specs.declared.item.Item.{Item, out-Item, fold_out-Item, map-Item}
use Rattle.em_tree.specs.declared.item.Item.TheViews.{roll-Item, roll-out-Item}
use Rattle.em_tree.specs.declared.item.Item.TheVariants as made
use Rattle.em_tree.specs.declared.item.Item.TheOpen.{Item-F}
use Rattle.em_tree.specs.declared.item.Item.TheShapes.{former-Item-Plain-2}
use Rattle.em_tree.specs.Parts.{same, maybe, each, item_body_parts, item_step, item_parts}
use Rattle.em_tree.specs.Starts.{Pieces, kind_of}
use Rattle.em_tree.specs.Tokens.{Is, Name}
use Rattle.em_tree.specs.Yields.{piece, whole, as_it_is}
use Rattle.em_tree.specs.PathGrammar.{IsLiteral, AreSegments, type_pieces, TypeWithin}
use Rattle.em_tree.specs.PatGrammar.{pat_pieces, IsPat}
use Rattle.em_tree.specs.ExprGrammar.{BlockWithin, block_pieces}
use Rattle.em_tree.specs.ItemGrammar as g
use Rattle.em_tree.specs.ItemGrammar.{item_pieces, IsAttribute, IsVis, IsRename, IsUseName, IsSig, IsTraitFn, IsImplFn, IsImplTrait, AreStructFields, IsVariant, IsItemBody, ItemNode, IsItem}
use Rattle.em_grammar.specs.declared.sort.Written.TheVariants as word
use Rattle.em_grammar.specs.Sets.{anything, Nested}
use Rattle.em_grammar.specs.Lang.{Chain, Seq, Opt, Many, Lists, Image, Or, Grp, one, two}
use Rattle.em_grammar.specs.Reader.{Read, seq, opt, mapped, all_of}
use Rattle.em_grammar.specs.TypeReader.{type_first, type_clear}
use Rattle.em_grammar.specs.PatReader.{pat_first, pat_clear}
use Rattle.em_grammar.specs.ExprSets.{block_first}
use Rattle.em_grammar.specs.ItemReader as read
use Rattle.em_grammar.specs.ItemReader.{at, Inner, extern_of, use_of, UseTail, mod_of, fn_of, struct_of, enum_of, trait_of, trait_path, ImplHead, impl_for, impl_of, const_of, Finished, MacroTail, macro_of, rules_sort, item_body, item_kind, is_item_group, body_start, plain_start, item_start, plain_item_of, item_group_of, item_node, item_by, inner_of, item_over}
use Rattle.em_grammar.specs.Pairs.{Pair}
use Rattle.em_grammar.proofs.Pairs.{part_seq, opt_of, may_opt}
use Rattle.em_grammar.proofs.Lists.{many_of}
use Rattle.em_grammar.proofs.Forms.{image_of, or_of, same_of, Opened, group_of}
use Rattle.em_grammar.proofs.Tests as test
use Rattle.em_grammar.proofs.ItemTools.{flat3, flat5, flat7, nest3, nest5, nest7}
use Rattle.em_grammar.proofs.ItemPartPairs.{attribute_pieces, vis_pieces, attribute_pair, vis_pair, vis_clear}
use Rattle.em_grammar.proofs.ItemUsePairs.{body_pieces, free, PlainTail, ListTail, extern_pair, use_pair, ModTails, mod_pair}
use Rattle.em_grammar.proofs.ItemMacroPairs.{MacroTails, rules_test, macro_pair}
use Rattle.em_grammar.proofs.ItemFieldPairs.{const_pair, struct_pair, enum_pair}
use Rattle.em_grammar.proofs.ItemSecond.{no_scope}
use Rattle.em_grammar.proofs.ItemFnPairs.{path_seen, path_made, not_dyn, is_no_dyn, ImplParts, fn_pair, trait_pair, impl_pair}

-- ---- bodies in the words of the grammar and of the library

module _ (I : ℕ → Item → Type 0) where
  abbrev ExternSide : ℕ → ItemBody Item → Type 0
  ExternSide = Image extern_of (Seq (λ d. Is (codes "extern")) (Seq (λ d. Is (codes "crate")) (Seq (λ d. Name) (Seq (Opt (λ d. IsRename)) (λ d. Is (codes ";"))))))

  abbrev UseSide : ℕ → ItemBody Item → Type 0
  UseSide = Image use_of (Seq (λ d. Is (codes "use")) (Seq (λ d. AreSegments) (Or PlainTail ListTail)))

  abbrev ModSide : ℕ → ItemBody Item → Type 0
  ModSide = Image mod_of (Seq (λ d. Is (codes "mod")) (Seq (λ d. Name) (ModTails I)))

  abbrev FnSide : ℕ → ItemBody Item → Type 0
  FnSide = Image fn_of (Seq (λ d x. IsSig d false x) BlockWithin)

  abbrev StructSide : ℕ → ItemBody Item → Type 0
  StructSide = Image struct_of (Seq (λ d. Is (codes "struct")) (Seq (λ d. Name) AreStructFields))

  abbrev EnumSide : ℕ → ItemBody Item → Type 0
  EnumSide = Image enum_of (Seq (λ d. Is (codes "enum")) (Seq (λ d. Name) (Seq (λ d. Is (codes "{")) (Seq (Lists IsVariant) (λ d. Is (codes "}"))))))

  abbrev TraitSide : ℕ → ItemBody Item → Type 0
  TraitSide = Image trait_of (Seq (λ d. Is (codes "trait")) (Seq (λ d. Name) (Seq (λ d. Is (codes "{")) (Seq (Many IsTraitFn) (λ d. Is (codes "}"))))))

  abbrev ImplSide : ℕ → ItemBody Item → Type 0
  ImplSide = Image impl_of ImplParts

  abbrev ConstSide : ℕ → ItemBody Item → Type 0
  ConstSide = Image const_of (Seq (λ d. Is (codes "const")) (Seq (λ d. Name) (Seq (λ d. Is (codes ":")) (Seq TypeWithin (Seq (λ d. Is (codes "=")) (Seq (λ d. IsLiteral true) (λ d. Is (codes ";"))))))))

  abbrev MacroSide : ℕ → ItemBody Item → Type 0
  MacroSide = Image macro_of (Chain (λ d t. Name t ⊎ Is (codes "macro_rules") t) (λ w. Seq (λ d. Is (codes "!")) (MacroTails w)))

  abbrev pub BodySides : ℕ → ItemBody Item → Type 0
  BodySides = Or ExternSide (Or UseSide (Or ModSide (Or FnSide (Or StructSide (Or EnumSide (Or TraitSide (Or ImplSide (Or ConstSide MacroSide))))))))

  abbrev pub BodyIs : ℕ → ItemBody Item → Type 0
  BodyIs d x = IsItemBody d (I d) x

  to_use : (d : ℕ) (t : Token × (Segments × UseTail)) → Is (codes "use") t.0 → AreSegments t.1.0 → Or PlainTail ListTail d t.1.1 → BodyIs d (use_of t)
  to_use d (w, (s, u)) a b (inl (k, m, eq)) = subst (λ u. BodyIs d (use_of (w, (s, u)))) (sym eq) (a, b, m.0, m.1)
  to_use d (w, (s, u)) a b (inr (k, m, eq)) = subst (λ u. BodyIs d (use_of (w, (s, u)))) (sym eq) (a, b, m.0, m.1.0, m.1.1.0, m.1.1.1.0, m.1.1.1.1)

  to_mod : (d : ℕ) (t : Token × (Token × read.ModTail)) → Is (codes "mod") t.0 → Name t.1.0 → ModTails I d t.1.1 → BodyIs d (mod_of t)
  to_mod d (w, (n, u)) a b (inl (k, m, eq)) = subst (λ u. BodyIs d (mod_of (w, (n, u)))) (sym eq) (a, b, m)
  to_mod d (w, (n, u)) a b (inr (k, m, eq)) = subst (λ u. BodyIs d (mod_of (w, (n, u)))) (sym eq) (a, b, m.0, m.1.0, m.1.1)

  to_impl : (d : ℕ) (t : Token × (ImplHead × (Token × (List ImplFn × Token)))) → ImplParts d t → BodyIs d (impl_of t)
  to_impl d (w, ((x, None), (o, (fs, c)))) m = (m.0, tt, m.1.0, m.1.1.0, m.1.1.1.0, m.1.1.1.1)
  to_impl d (w, ((x, Some u), (o, (fs, c)))) m =
      subst (λ q. BodyIs d (impl_for w q u o fs c)) (sym m.1.0.0.1)
      (m.0, (m.1.0.0.2, m.1.0.1, not_dyn d m.1.0.0.0 m.1.0.0.2 (path_made x m.1.0.0.0 m.1.0.0.1).1), m.1.0.2, m.1.1.0, m.1.1.1.0, m.1.1.1.1)

  to_macro : (d : ℕ) (w : Token) (b : Token) (u : MacroTail) → Name w ⊎ Is (codes "macro_rules") w → Is (codes "!") b → MacroTails w d u → BodyIs d (macro_of (w, (b, u)))
  to_macro d w b u a e (inl (k, m, eq)) = subst (λ u. BodyIs d (macro_of (w, (b, u)))) (sym eq) ((test.name.holds w m.0, e, m.1.0), m.1.1)
  to_macro d w b u a e (inr (k, m, eq)) = subst (λ u. BodyIs d (macro_of (w, (b, u)))) (sym eq) (rules_test.holds w m.0, e, m.1.0, m.1.1.0, m.1.1.1)

  pub to_body : (d : ℕ) (x : ItemBody Item) → BodySides d x → BodyIs d x
  to_body d x (inl m) = subst (λ x. BodyIs d x) (sym m.2) (flat5 m.1)
  to_body d x (inr (inl m)) = subst (λ x. BodyIs d x) (sym m.2) (to_use d m.0 m.1.0 m.1.1.0 m.1.1.1)
  to_body d x (inr (inr (inl m))) = subst (λ x. BodyIs d x) (sym m.2) (to_mod d m.0 m.1.0 m.1.1.0 m.1.1.1)
  to_body d x (inr (inr (inr (inl m)))) = subst (λ x. BodyIs d x) (sym m.2) m.1
  to_body d x (inr (inr (inr (inr (inl m))))) = subst (λ x. BodyIs d x) (sym m.2) (flat3 m.1)
  to_body d x (inr (inr (inr (inr (inr (inl m)))))) = subst (λ x. BodyIs d x) (sym m.2) (flat5 m.1)
  to_body d x (inr (inr (inr (inr (inr (inr (inl m))))))) = subst (λ x. BodyIs d x) (sym m.2) (flat5 m.1)
  to_body d x (inr (inr (inr (inr (inr (inr (inr (inl m)))))))) = subst (λ x. BodyIs d x) (sym m.2) (to_impl d m.0 m.1)
  to_body d x (inr (inr (inr (inr (inr (inr (inr (inr (inl m))))))))) = subst (λ x. BodyIs d x) (sym m.2) (flat7 m.1)
  to_body d x (inr (inr (inr (inr (inr (inr (inr (inr (inr m))))))))) = subst (λ x. BodyIs d x) (sym m.2) (to_macro d m.0.0 m.0.1.0 m.0.1.1 m.1.0 m.1.1.0 m.1.1.1)

  pub of_body : (d : ℕ) (x : ItemBody Item) → BodyIs d x → BodySides d x
  of_body d (body.ExternCrate w c n r s) m = inl ((w, (c, (n, (r, s)))), nest5 m, refl)
  of_body d (body.Use w s r e) m = inr (inl ((w, (s, one (r, e))), (m.0, (m.1, inl ((r, e), (m.2, m.3), refl))), refl))
  of_body d (body.UseList w s k o ns c e) m = inr (inl ((w, (s, two (k, (o, (ns, (c, e)))))), (m.0, (m.1, inr ((k, (o, (ns, (c, e)))), (m.2, (m.3, (m.4, (m.5, m.6)))), refl))), refl))
  of_body d (body.ModFile w n s) m = inr (inr (inl ((w, (n, one s)), (m.0, (m.1, inl (s, m.2, refl))), refl)))
  of_body d (body.ModBlock w n o items c) m = inr (inr (inl ((w, (n, two (o, (items, c)))), (m.0, (m.1, inr ((o, (items, c)), (m.2, (m.3, m.4)), refl))), refl)))
  of_body d (body.Fn s b) m = inr (inr (inr (inl ((s, b), m, refl))))
  of_body d (body.Struct w n fields) m = inr (inr (inr (inr (inl ((w, (n, fields)), nest3 m, refl)))))
  of_body d (body.Enum w n o vs c) m = inr (inr (inr (inr (inr (inl ((w, (n, (o, (vs, c)))), nest5 m, refl))))))
  of_body d (body.Trait w n o fs c) m = inr (inr (inr (inr (inr (inr (inl ((w, (n, (o, (fs, c)))), nest5 m, refl)))))))
  of_body d (body.Impl w None x o fs c) m = inr (inr (inr (inr (inr (inr (inr (inl ((w, ((x, None), (o, (fs, c)))), (m.0, (m.2, (m.3, (m.4, m.5)))), refl))))))))
  of_body d (body.Impl w (Some t) x o fs c) m =
      let seen : trait_path (ty.Path t.path) ≡ Some t.path = path_seen t.path (is_no_dyn t.path m.1.2) in
      inr (inr (inr (inr (inr (inr (inr (inl (
        (w, ((ty.Path t.path, Some (t.word_for, x)), (o, (fs, c)))),
        (m.0, (((t.path, seen, m.1.0), m.1.1, m.2), (m.3, (m.4, m.5)))),
        sym (ap (λ q. impl_for w q (t.word_for, x) o fs c) seen),
      ))))))))
  of_body d (body.Const w n k x e v s) m = inr (inr (inr (inr (inr (inr (inr (inr (inl ((w, (n, (k, (x, (e, (v, s)))))), nest7 m, refl)))))))))
  of_body d (body.Rules w b n t s) m =
      inr (inr (inr (inr (inr (inr (inr (inr (inr ((w, (b, two (n, (t, s)))), (inr m.0, (m.1, inr ((n, (t, s)), (rules_test.told w m.0, (m.2, (m.3, m.4))), refl))), refl)))))))))
  of_body d (body.Macro call s) m =
      inr (inr (inr (inr (inr (inr (inr (inr (inr (
        (call.name, (call.bang, one (call.text, s))),
        (inl m.0.0, (m.0.1, inl ((call.text, s), (test.name.told call.name m.0.0, (m.0.2, m.1)), refl))),
        refl,
      )))))))))

-- ---- the pieces of items

each_map : {A B C : Type 0} (f : B → List A) (k : C → B) (xs : List C) → each f (map k xs) ≡ each (λ x. f (k x)) xs
each_map f k [] = refl
each_map f k (x ∷ xs) = ap (λ r. f (k x) ++ r) (each_map f k xs)

body_alike : (b : ItemBody Item) → item_body_parts piece whole as_it_is same (former-Item-Plain-2.map Item (List Piece) item_pieces b) ≡ body_pieces b
body_alike (body.ExternCrate w c n r s) = refl
body_alike (body.Use w s r e) = refl
body_alike (body.UseList w s k o ns c e) = refl
body_alike (body.ModFile w n s) = refl
body_alike (body.ModBlock w n o items c) = ap (λ r. piece w ++ (piece n ++ (piece o ++ (r ++ piece c)))) (each_map same item_pieces items)
body_alike (body.Fn s b) = refl
body_alike (body.Struct w n fields) = refl
body_alike (body.Enum w n o vs c) = refl
body_alike (body.Trait w n o fs c) = refl
body_alike (body.Impl w t x o fs c) = refl
body_alike (body.Const w n k x e v s) = refl
body_alike (body.Rules w b n t s) = refl
body_alike (body.Macro call s) = refl

at_item : (x : Item) (l : Item-F Item) → out-Item x ≡ l → item_pieces x ≡ item_step piece whole as_it_is (map-Item Item (List Piece) item_pieces l)
unfolding item_parts
at_item x l is = fold_out-Item (List Piece) (item_step piece whole as_it_is) x ∙ ap (λ k. item_step piece whole as_it_is (map-Item Item (List Piece) item_pieces k)) is

pub pieces_item : (attrs : List Attribute) (v : Option Vis) (b : ItemBody Item) → item_pieces (made.Plain attrs v b) ≡ each attribute_pieces attrs ++ (maybe vis_pieces v ++ body_pieces b)
pieces_item attrs v b = at_item (made.Plain attrs v b) (Item-F.Plain attrs v b) (made.outs-Plain attrs v b) ∙ ap (λ r. each attribute_pieces attrs ++ (maybe vis_pieces v ++ r)) (body_alike b)

pub pieces_item_group : (g : Group) (x : Item) → item_pieces (made.Group g x) ≡ whole g (item_pieces x)
pieces_item_group g x = at_item (made.Group g x) (Item-F.Group g x) (made.outs-Group g x)

same_item : (x y : Item) → out-Item x ≡ out-Item y → x ≡ y
same_item x y is = sym (roll-out-Item x) ∙ ap (λ l. roll-Item l) is ∙ roll-out-Item y

pub made_plain : (x : Item) (attrs : List Attribute) (v : Option Vis) (b : ItemBody Item) → out-Item x ≡ Item-F.Plain attrs v b → x ≡ made.Plain attrs v b
made_plain x attrs v b is = same_item x (made.Plain attrs v b) (is ∙ sym (made.outs-Plain attrs v b))

pub made_group : (x : Item) (gr : Group) (y : Item) → out-Item x ≡ Item-F.Group gr y → x ≡ made.Group gr y
made_group x gr y is = same_item x (made.Group gr y) (is ∙ sym (made.outs-Group gr y))

pub kind_item : (k : FragmentKind) → item_kind k ≡ true → k ≡ fk.Item
kind_item fk.Item h = refl
kind_item _ h = cc

-- ---- one node

module _ (I : ℕ → Item → Type 0) where
  abbrev pub NodeIs : ℕ → Item → Type 0
  NodeIs d x = ItemNode d (I d) x

  abbrev PlainParts : ℕ → List Attribute × (Option Vis × ItemBody Item) → Type 0
  PlainParts = Seq (Many (λ d. IsAttribute)) (Seq (Opt (λ d. IsVis)) (λ d x. IsItemBody d (I d) x))

  abbrev PlainSide : ℕ → Item → Type 0
  PlainSide = Image plain_item_of PlainParts

  abbrev GroupSide : ℕ → Item → Type 0
  GroupSide = Image item_group_of (Grp is_item_group NodeIs item_pieces)

  to_node : (d : ℕ) (x : Item) → Or PlainSide GroupSide d x → NodeIs d x
  to_node d x (inl m) = g.ItemNode.plain (ap (λ k. out-Item k) m.2 ∙ made.outs-Plain m.0.0 m.0.1.0 m.0.1.1) m.1.0 m.1.1.0 m.1.1.1
  to_node d x (inr m) = g.ItemNode.group (ap (λ k. out-Item k) m.2 ∙ made.outs-Group m.0.0 m.0.1) (kind_item (kind_of m.0.0) m.1.0) m.1.1 m.1.2

  of_node : (d : ℕ) (x : Item) → NodeIs d x → Or PlainSide GroupSide d x
  of_node d x (g.ItemNode.plain {attrs} {vis} {b} is a v m) = inl ((attrs, (vis, b)), (a, (v, m)), same_item x (made.Plain attrs vis b) (is ∙ sym (made.outs-Plain attrs vis b)))
  of_node d x (g.ItemNode.group {y} {g = gr} is k ps m) = inr ((gr, y), (ap (λ k. item_kind k) k, ps, m), same_item x (made.Group gr y) (is ∙ sym (made.outs-Group gr y)))

module _ (n depth : ℕ) (I : ℕ → Item → Type 0) (inner : Inner) (literals : inner.nested ≡ n) (types : Pair (Nested n) depth TypeWithin type_pieces inner.types type_first (λ _. type_clear))
    (heads : Pair (Nested n) (suc depth) TypeWithin type_pieces inner.heads type_first (λ _. type_clear)) (pats : Pair (Nested n) depth IsPat pat_pieces inner.pats pat_first (λ _. pat_clear))
    (blocks : Pair (Nested n) depth BlockWithin block_pieces inner.blocks block_first (λ _. anything)) (items : Pair (Nested n) depth I item_pieces inner.items item_start (λ _. anything)) where
  const_in : (k : ℕ) → k ≡ n → Pair (Nested n) depth (ConstSide I) body_pieces (read.const_item inner.types k) (at word.Const) free
  const_in k is = subst (λ k. Pair (Nested n) depth (ConstSide I) body_pieces (read.const_item inner.types k) (at word.Const) free) (sym is) (const_pair n depth inner.types types (λ d x r h m. no_scope d x r m))

  attribute_in : (k : ℕ) → k ≡ n → Pair (Nested n) depth (λ d. IsAttribute) attribute_pieces (read.attribute k) (at word.Pound) free
  attribute_in k is = subst (λ k. Pair (Nested n) depth (λ d. IsAttribute) attribute_pieces (read.attribute k) (at word.Pound) free) (sym is) (attribute_pair n depth)

  pub body_pair : Pair (Nested n) depth (BodyIs I) body_pieces (item_body inner) body_start free
  unfolding item_body
  body_pair =
      same_of (to_body I) (of_body I)
      (or_of (extern_pair (Nested n) depth) (or_of (use_pair (Nested n) depth) (or_of (mod_pair I inner.items items) (or_of (fn_pair (Nested n) depth inner types heads pats blocks)
      (or_of (struct_pair n depth inner.types types (λ d x r h m. no_scope d x r m)) (or_of (enum_pair n depth inner.types types (λ d x r h m. no_scope d x r m))
      (or_of (trait_pair (Nested n) depth inner types heads pats blocks) (or_of (impl_pair (Nested n) depth inner types heads pats blocks) (or_of (const_in inner.nested literals) (macro_pair (Nested n) depth) refl) refl) refl) refl)
      refl) refl) refl) refl) refl)

  plain_pair : Pair (Nested n) depth (PlainSide I) item_pieces (mapped plain_item_of (seq (all_of (read.attribute inner.nested)) (seq (opt read.vis) (item_body inner)))) plain_start free
  plain_pair =
      image_of plain_item_of item_pieces (λ d t m. pieces_item t.0 t.1.0 t.1.1) (λ _. refl)
      (part_seq (many_of (attribute_in inner.nested literals) refl refl) (part_seq (opt_of (vis_pair (Nested n) depth)) body_pair (may_opt body_start (at word.Pub) (λ _. vis_clear) refl (λ _. refl))) (λ _. refl))

  pub node_pair : (opened : Pieces → Read Item) → Opened (Nested n) depth (NodeIs I) item_pieces opened → Pair (Nested n) depth (NodeIs I) item_pieces (item_node inner opened) item_start free
  unfolding item_node
  node_pair opened o =
      same_of (to_node I) (of_node I)
      (or_of plain_pair (image_of item_group_of item_pieces (λ d t m. pieces_item_group t.0 t.1) (λ _. refl) (group_of is_item_group item_kind (λ g h. h) o)) refl)
