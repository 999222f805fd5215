-- Items within items, and groups in one another.
use Rattle.std.proofs.Common.{ℕ, zero, suc, ◌≤◌, Bool, true, false, if◌then◌else◌, refl, ap, arith, inl, inr}
use Rattle.em_tree.specs.declared.expr.Block.{Block}
use Rattle.em_tree.specs.declared.expr.Body.{Body}
use Rattle.em_tree.specs.declared.item.ItemBody.{ItemBody}
use Rattle.em_tree.specs.declared.item.Item.{Item}
use Rattle.em_tree.specs.Starts.{Pieces}
use Rattle.em_tree.specs.ItemGrammar as g
use Rattle.em_tree.specs.ItemGrammar.{item_pieces, IsItemBody, ItemNode, IsItem}
use Rattle.em_grammar.specs.Sets.{next, Nested}
use Rattle.em_grammar.specs.Lang.{Shift}
use Rattle.em_grammar.specs.Reader.{Read, Found, Absent, Deep}
use Rattle.em_grammar.specs.TypeReader.{plain_type_in}
use Rattle.em_grammar.specs.ItemLaws.{BlocksRead}
use Rattle.em_grammar.specs.ItemReader.{ModTail, Inner, item_start, item_by, inner_of, item_over}
use Rattle.em_grammar.specs.Pairs.{Pair, Sound}
use Rattle.em_grammar.proofs.Lists.{more_each}
use Rattle.em_grammar.proofs.Forms.{same_of, shift_of, Opened, opened_of, unopened}
use Rattle.em_grammar.proofs.TypePairs.{plain_types_read}
use Rattle.em_grammar.proofs.PatPairs.{pats_read}
use Rattle.em_grammar.proofs.ItemUsePairs.{free, ModTails}
use Rattle.em_grammar.proofs.ItemMacroPairs.{macro_pair}
use Rattle.em_grammar.proofs.ItemFieldPairs.{const_pair, struct_pair, enum_pair}
use Rattle.em_grammar.proofs.ItemSecond.{no_scope}
use Rattle.em_grammar.proofs.ItemFnPairs.{fn_pair, trait_pair, impl_pair}
use Rattle.em_grammar.proofs.ItemPairs.{BodySides, NodeIs, to_body, of_body, node_pair}

pub no_item : (x : Item) → IsItem zero x → ⊥
unfolding IsItem
no_item x m = m

pub node_is : (d : ℕ) (x : Item) → ItemNode d (IsItem d) x → IsItem (suc d) x
unfolding IsItem
node_is d x m = m

pub is_node : (d : ℕ) (x : Item) → IsItem (suc d) x → ItemNode d (IsItem d) x
unfolding IsItem
is_node d x m = m

to_is : (d : ℕ) (x : Item) → Shift (NodeIs IsItem) d x → IsItem d x
to_is zero x m = absurd m
to_is (suc d) x m = node_is d x m

of_is : (d : ℕ) (x : Item) → IsItem d x → Shift (NodeIs IsItem) d x
of_is zero x m = no_item x m
of_is (suc d) x m = is_node d x m

module _ (block_in : ℕ → ℕ → Pieces → Read (Block Body)) (blocks : BlocksRead block_in) where
  -- ---- one node more

  abbrev bare : Inner
  bare = inner_of block_in 0 0 (λ i. Deep)

  module _ (I J : Item → Type 0) (h : (x : Item) → I x → J x) where
    mod_more : (d : ℕ) (u : ModTail) → ModTails (λ d. I) d u → ModTails (λ d. J) (suc d) u
    mod_more d u (inl m) = inl m
    mod_more d u (inr (k, m, eq)) = inr (k, (m.0, (more_each I J h k.1.0 m.1.0, m.1.1)), eq)

    more_sides : (d : ℕ) (b : ItemBody Item) → BodySides (λ d. I) d b → BodySides (λ d. J) (suc d) b
    more_sides d b (inl m) = inl m
    more_sides d b (inr (inl m)) = inr (inl m)
    more_sides d b (inr (inr (inl (t, m, eq)))) = inr (inr (inl (t, (m.0, (m.1.0, mod_more d t.1.1 m.1.1)), eq)))
    more_sides d b (inr (inr (inr (inl m)))) =
        inr (inr (inr (inl ((fn_pair (Nested 0) 0 bare (plain_types_read 0 0) (plain_types_read 0 1) (pats_read 0 0) (blocks 0 0)).grows d b m))))
    more_sides d b (inr (inr (inr (inr (inl m))))) = inr (inr (inr (inr (inl ((struct_pair 0 0 (plain_type_in 0 0) (plain_types_read 0 0) (λ d x r h m. no_scope d x r m)).grows d b m)))))
    more_sides d b (inr (inr (inr (inr (inr (inl m)))))) = inr (inr (inr (inr (inr (inl ((enum_pair 0 0 (plain_type_in 0 0) (plain_types_read 0 0) (λ d x r h m. no_scope d x r m)).grows d b m))))))
    more_sides d b (inr (inr (inr (inr (inr (inr (inl m))))))) =
        inr (inr (inr (inr (inr (inr (inl ((trait_pair (Nested 0) 0 bare (plain_types_read 0 0) (plain_types_read 0 1) (pats_read 0 0) (blocks 0 0)).grows d b m)))))))
    more_sides d b (inr (inr (inr (inr (inr (inr (inr (inl m)))))))) =
        inr (inr (inr (inr (inr (inr (inr (inl ((impl_pair (Nested 0) 0 bare (plain_types_read 0 0) (plain_types_read 0 1) (pats_read 0 0) (blocks 0 0)).grows d b m))))))))
    more_sides d b (inr (inr (inr (inr (inr (inr (inr (inr (inl m))))))))) =
        inr (inr (inr (inr (inr (inr (inr (inr (inl ((const_pair 0 0 (plain_type_in 0 0) (plain_types_read 0 0) (λ d x r h m. no_scope d x r m)).grows d b m)))))))))
    more_sides d b (inr (inr (inr (inr (inr (inr (inr (inr (inr m))))))))) = inr (inr (inr (inr (inr (inr (inr (inr (inr ((macro_pair (Nested 0) 0).grows d b m)))))))))

    more_node : (d : ℕ) (x : Item) → ItemNode d I x → ItemNode (suc d) J x
    more_node d x (g.ItemNode.plain {b} is a v m) = g.ItemNode.plain is a v (to_body (λ d. J) (suc d) b (more_sides d b (of_body (λ d. I) d b m)))
    more_node d x (g.ItemNode.group {y} is k ps m) = g.ItemNode.group is k ps (more_node d y m)

  pub item_grows : (d : ℕ) (x : Item) → IsItem d x → IsItem (suc d) x
  item_grows zero x m = absurd (no_item x m)
  item_grows (suc d) x m = node_is (suc d) x (more_node (IsItem d) (IsItem (suc d)) (λ x m. item_grows d x m) d x (is_node d x m))

  -- ---- items in one another

  -- the pieces of a group are an item's
  node_opens : (H : Pieces → Type 0) (depth : ℕ) (R : Pieces → Read Item) → Opened H (suc depth) IsItem item_pieces R → Opened H depth (NodeIs IsItem) item_pieces R
  node_opens H depth R o = record {
    grows = λ d t m. is_node (suc d) t (o.grows (suc d) t (node_is d t m));
    sound = λ i. sound (R i) i (o.sound i);
    whole = λ d t h w m. o.whole (suc d) t (omega (arith, h)) w (node_is d t m);
  }
    where
      sound : (m : Read Item) (i : Pieces) → Sound IsItem item_pieces m i → Sound (NodeIs IsItem) item_pieces m i
      sound (Found t r) i s = ((s.0.0, is_node s.0.0 t (item_grows s.0.0 t s.0.1)), s.1)
      sound Absent i s = tt
      sound Deep i s = tt

  none_at : (d : ℕ) (x : Item) → d ≤ 0 → IsItem d x → ⊥
  none_at zero x h m = no_item x m
  none_at (suc d) x h m = absurd (omega (arith, h))

  blank : (n : ℕ) → Pair (Nested n) 0 IsItem item_pieces (λ i. if next item_start i then Deep else Absent) item_start free
  blank n = record {
    grows = item_grows;
    sound = λ i. sound i (next item_start i);
    begins = λ d t h m. absurd (none_at d t h m);
    whole = λ d t r h w m cl. absurd (none_at d t h m);
    longest = λ d t r h w m en. absurd (none_at d t h m);
    absent = λ i h. ap (λ b. if b then Deep else Absent) h;
  }
    where
      sound : (i : Pieces) (b : Bool) → Sound IsItem item_pieces (if b then Deep else Absent) i
      sound i true = tt
      sound i false = tt

  by_pair : (n : ℕ) (opened : ℕ → Pieces → Read Item) → ((depth : ℕ) → Opened (Nested n) depth IsItem item_pieces (opened depth)) → (depth : ℕ)
      → Pair (Nested n) depth IsItem item_pieces (item_by (inner_of block_in n) opened depth) item_start free
  unfolding item_by
  by_pair n opened o zero = blank n
  by_pair n opened o (suc depth) =
      same_of to_is of_is
      (shift_of (node_pair n depth IsItem (inner_of block_in n depth (item_by (inner_of block_in n) opened depth)) refl (plain_types_read n depth) (plain_types_read n (suc depth)) (pats_read n depth)
      (blocks n depth) (by_pair n opened o depth) (opened (suc depth)) (node_opens (Nested n) depth (opened (suc depth)) (o (suc depth)))))

  -- ---- groups in one another

  pub items_read : (n depth : ℕ) → Pair (Nested n) depth IsItem item_pieces (item_over block_in n depth) item_start free
  unfolding item_over
  items_read zero depth = by_pair 0 (λ depth i. Deep) (λ depth. unopened item_grows) depth
  items_read (suc n) depth = by_pair (suc n) (item_over block_in n) (λ depth. opened_of (items_read n depth) (λ d t m. refl)) depth
