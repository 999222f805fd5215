-- What is read of items within limits is what is read within greater ones.
use Rattle.std.proofs.Common.{◌≡◌, ℕ, zero, suc, ◌≤◌, Bool, true, false, if◌then◌else◌, refl, arith}
use Rattle.em_tree.specs.declared.types.TypeTree.{TypeTree}
use Rattle.em_tree.specs.declared.pat.Pat.{Pat}
use Rattle.em_tree.specs.declared.expr.Block.{Block}
use Rattle.em_tree.specs.declared.expr.Body.{Body}
use Rattle.em_tree.specs.declared.item.Item.{Item}
use Rattle.em_tree.specs.Starts.{Pieces}
use Rattle.em_grammar.specs.declared.sort.Written.TheVariants as word
use Rattle.em_grammar.specs.Sets.{next}
use Rattle.em_grammar.specs.Lang.{one, two}
use Rattle.em_grammar.specs.Reader.{Read, Absent, Deep, token, opt}
use Rattle.em_grammar.specs.TypeReader.{tree_of}
use Rattle.em_grammar.specs.TextReader.{delimited}
use Rattle.em_grammar.specs.ItemLaws.{BlocksRead, BlocksSteady}
use Rattle.em_grammar.specs.ItemReader as read
use Rattle.em_grammar.specs.ItemReader.{at, mark, name, vis, Inner, item_start, plain_start, item_node, item_by, inner_of, item_over, sig, item_body}
use Rattle.em_grammar.specs.Pairs.{Steady, Firm}
use Rattle.em_grammar.proofs.Steady.{firm_same, firm_deep, firm_map, firm_seq, firm_chain, firm_opt, firm_when, firm_choice, firm_many, firm_commas, firm_group, steady_if}
use Rattle.em_grammar.proofs.FirmTypes.{literal_firm, types_firm}
use Rattle.em_grammar.proofs.PatPairs.{pats_firm}
use Rattle.em_grammar.proofs.ItemKnot.{items_read}

firm_ahead : {A : Type 0} {P P2 Q Q2 : Pieces → Read A} (test : Pieces → Bool) → Firm P P2 → Firm Q Q2 → Firm (read.ahead test P Q) (read.ahead test P2 Q2)
firm_ahead {A} {P} {P2} {Q} {Q2} test a b = record { firm = λ i. steady_if (test i) (P i) (P2 i) (Q i) (Q2 i) (a.firm i) (b.firm i) }

-- ---- attributes

meta_firm : (n m : ℕ) → n ≤ m → Firm (read.meta n) (read.meta m)
meta_firm n m h =
    firm_map read.meta_of (firm_seq (firm_same (token read.is_attribute)) (firm_map read.input_of (firm_opt
    (firm_choice (at word.OpenParen) (firm_map read.parens_of (firm_same (read.starting (at word.OpenParen) delimited))) (firm_map read.value_of (firm_seq (firm_same (mark word.Eq)) (literal_firm false n m h)))))))

attribute_firm : (n m : ℕ) → n ≤ m → Firm (read.attribute n) (read.attribute m)
attribute_firm n m h = firm_map read.attribute_of (firm_seq (firm_same (mark word.Pound)) (firm_seq (firm_same (mark word.OpenBracket)) (firm_seq (meta_firm n m h) (firm_same (mark word.CloseBracket)))))

pub file_attribute_firm : (n m : ℕ) → n ≤ m → Firm (read.file_attribute n) (read.file_attribute m)
file_attribute_firm n m h =
    firm_map read.file_attribute_of
    (firm_seq (firm_same (mark word.Pound)) (firm_seq (firm_same (mark word.Not)) (firm_seq (firm_same (mark word.OpenBracket)) (firm_seq (meta_firm n m h) (firm_same (mark word.CloseBracket))))))

-- ---- constants, structs and enums

module _ (t u : Pieces → Read TypeTree) (types : Firm t u) where
  const_firm : (n m : ℕ) → n ≤ m → Firm (read.const_item t n) (read.const_item u m)
  const_firm n m h =
      firm_map read.const_of (firm_seq (firm_same (mark word.Const)) (firm_seq (firm_same name) (firm_seq (firm_same (mark word.Colon)) (firm_seq types
      (firm_seq (firm_same (mark word.Eq)) (firm_seq (literal_firm true n m h) (firm_same (mark word.Semi))))))))

  field_firm : Firm (read.field t) (read.field u)
  field_firm = firm_map read.field_of (firm_seq (firm_same (opt vis)) (firm_seq (firm_same name) (firm_seq (firm_same (mark word.Colon)) types)))

  tuple_field_firm : Firm (read.tuple_field t) (read.tuple_field u)
  tuple_field_firm = firm_map read.tuple_field_of (firm_seq (firm_same (opt vis)) types)

  fields_firm : Firm (read.fields t) (read.fields u)
  fields_firm =
      firm_choice (at word.Semi) (firm_map read.unit_of (firm_same (mark word.Semi)))
      (firm_choice (at word.OpenBrace) (firm_map read.named_of (firm_seq (firm_same (mark word.OpenBrace)) (firm_seq (firm_commas field_firm) (firm_same (mark word.CloseBrace)))))
      (firm_map read.tuple_of (firm_seq (firm_same (mark word.OpenParen)) (firm_seq (firm_commas tuple_field_firm) (firm_seq (firm_same (mark word.CloseParen)) (firm_same (mark word.Semi)))))))

  struct_firm : Firm (read.struct_item t) (read.struct_item u)
  struct_firm = firm_map read.struct_of (firm_seq (firm_same (mark word.Struct)) (firm_seq (firm_same name) fields_firm))

  variant_field_firm : Firm (read.variant_field t) (read.variant_field u)
  variant_field_firm = firm_map read.variant_field_of (firm_seq (firm_same name) (firm_seq (firm_same (mark word.Colon)) types))

  variant_body_firm : Firm (read.variant_body t) (read.variant_body u)
  variant_body_firm =
      firm_map read.variant_fields_of (firm_opt
      (firm_choice (at word.OpenParen) (firm_map read.tuple_variant_of (firm_seq (firm_same (mark word.OpenParen)) (firm_seq (firm_commas types) (firm_same (mark word.CloseParen)))))
      (firm_map read.named_variant_of (firm_seq (firm_same (mark word.OpenBrace)) (firm_seq (firm_commas variant_field_firm) (firm_same (mark word.CloseBrace)))))))

  variant_firm : Firm (read.variant t) (read.variant u)
  variant_firm = firm_map read.variant_of (firm_seq (firm_same name) variant_body_firm)

  enum_firm : Firm (read.enum_item t) (read.enum_item u)
  enum_firm =
      firm_map read.enum_of (firm_seq (firm_same (mark word.Enum)) (firm_seq (firm_same name) (firm_seq (firm_same (mark word.OpenBrace)) (firm_seq (firm_commas variant_firm) (firm_same (mark word.CloseBrace))))))

  -- ---- heads of functions

  module _ (k l : Pieces → Read Pat) (pats : Firm k l) (old : Bool) where
    param_firm : Firm (read.param_by t k old) (read.param_by u l old)
    param_firm = firm_ahead (read.pattern_ahead old) (firm_map read.typed_of (firm_seq pats (firm_seq (firm_same (mark word.Colon)) types))) (firm_map read.anonymous_of types)

    params_firm : Firm (read.params_close t k old) (read.params_close u l old)
    params_firm = firm_seq (firm_commas param_firm) (firm_same (mark word.CloseParen))

    inputs_firm : Firm (read.inputs t k old) (read.inputs u l old)
    inputs_firm =
        firm_ahead read.self_ahead
        (firm_map read.with_self_of (firm_seq (firm_same read.self_param)
        (firm_choice (at word.CloseParen) (firm_map read.last_self (firm_same (mark word.CloseParen))) (firm_map read.more_self (firm_seq (firm_same (mark word.Comma)) params_firm)))))
        (firm_map read.without_self_of params_firm)

    output_firm : Firm (read.output t k) (read.output u l)
    output_firm = firm_map read.output_of (firm_opt (firm_seq (firm_same (mark word.RArrow)) types))

    sig_firm : Firm (sig t k old) (sig u l old)
    unfolding sig
    sig_firm = record {
      firm = (firm_map read.sig_of (firm_seq (firm_same (mark word.Fn)) (firm_seq (firm_same name) (firm_seq (firm_same (mark word.OpenParen)) (firm_seq inputs_firm output_firm))))).firm;
    }

-- ---- one item

module _ (x y : Inner) (nested : x.nested ≤ y.nested) (types : Firm x.types y.types) (heads : Firm x.heads y.heads) (pats : Firm x.pats y.pats) (blocks : Firm x.blocks y.blocks) (items : Firm x.items y.items) where
  sig_in : (old : Bool) → Firm (sig x.types x.pats old) (sig y.types y.pats old)
  sig_in old = sig_firm x.types y.types types x.pats y.pats pats old

  trait_fn_firm : Firm (read.trait_fn x) (read.trait_fn y)
  trait_fn_firm = firm_map read.trait_fn_of (firm_seq (sig_in true) (firm_choice (at word.Semi) (firm_map read.semi_of (firm_same (mark word.Semi))) (firm_map read.block_of blocks)))

  impl_fn_firm : Firm (read.impl_fn x) (read.impl_fn y)
  impl_fn_firm = firm_map read.impl_fn_of (firm_seq (firm_same (opt vis)) (firm_seq (sig_in false) blocks))

  mod_firm : Firm (read.mod_item x.items) (read.mod_item y.items)
  mod_firm =
      firm_map read.mod_of (firm_seq (firm_same (mark word.Mod)) (firm_seq (firm_same name)
      (firm_choice (at word.Semi) (firm_map one (firm_same (mark word.Semi))) (firm_map two (firm_seq (firm_same (mark word.OpenBrace)) (firm_seq (firm_many items) (firm_same (mark word.CloseBrace))))))))

  fn_firm : Firm (read.fn_item x) (read.fn_item y)
  fn_firm = firm_map read.fn_of (firm_seq (sig_in false) blocks)

  trait_firm : Firm (read.trait_item x) (read.trait_item y)
  trait_firm =
      firm_map read.trait_of (firm_seq (firm_same (mark word.Trait)) (firm_seq (firm_same name) (firm_seq (firm_same (mark word.OpenBrace)) (firm_seq (firm_many trait_fn_firm) (firm_same (mark word.CloseBrace))))))

  impl_firm : Firm (read.impl_item x) (read.impl_item y)
  impl_firm =
      firm_map read.impl_of (firm_seq (firm_same (mark word.Impl))
      (firm_seq (firm_chain heads (λ t. firm_opt (firm_when (read.has_path (read.trait_path t)) (firm_seq (firm_same (mark word.For)) types))))
      (firm_seq (firm_same (mark word.OpenBrace)) (firm_seq (firm_many impl_fn_firm) (firm_same (mark word.CloseBrace))))))

  body_firm : Firm (item_body x) (item_body y)
  unfolding item_body
  body_firm = record {
    firm = (firm_choice (at word.Extern) (firm_same read.extern_crate) (firm_choice (at word.Use) (firm_same read.use_item) (firm_choice (at word.Mod) mod_firm (firm_choice (at word.Fn) fn_firm
        (firm_choice (at word.Struct) (struct_firm x.types y.types types) (firm_choice (at word.Enum) (enum_firm x.types y.types types) (firm_choice (at word.Trait) trait_firm
        (firm_choice (at word.Impl) impl_firm (firm_choice (at word.Const) (const_firm x.types y.types types x.nested y.nested nested) (firm_same read.macro_item)))))))))).firm;
  }

  node_firm : (opened opened2 : Pieces → Read Item) → Firm opened opened2 → Firm (item_node x opened) (item_node y opened2)
  unfolding item_node
  node_firm opened opened2 o = record {
    firm = (firm_choice plain_start
        (firm_map read.plain_item_of (firm_seq (firm_many (attribute_firm x.nested y.nested nested)) (firm_seq (firm_same (opt vis)) body_firm)))
        (firm_map read.item_group_of (firm_group read.is_item_group o))).firm;
  }

-- ---- items in one another

module _ (block_in : ℕ → ℕ → Pieces → Read (Block Body)) (blocks : BlocksSteady block_in) where
  from_nothing : (P : Pieces → Read Item) → ((i : Pieces) → next item_start i ≡ false → P i ≡ Absent) → Firm (λ i. if next item_start i then Deep else Absent) P
  from_nothing P absent = record { firm = λ i. go i (next item_start i) refl }
    where
      go : (i : Pieces) (b : Bool) → next item_start i ≡ b → Steady (if b then Deep else Absent) (P i)
      go i true is = tt
      go i false is = absent i is

  by_firm : (n m : ℕ) → n ≤ m → (opened opened2 : ℕ → Pieces → Read Item) → ((d e : ℕ) → d ≤ e → Firm (opened d) (opened2 e))
      → ((e : ℕ) (i : Pieces) → next item_start i ≡ false → item_by (inner_of block_in m) opened2 e i ≡ Absent) → (d e : ℕ) → d ≤ e
      → Firm (item_by (inner_of block_in n) opened d) (item_by (inner_of block_in m) opened2 e)
  unfolding item_by
  by_firm n m h opened opened2 o absent zero zero k = record { firm = (from_nothing (item_by (inner_of block_in m) opened2 zero) (absent zero)).firm }
  by_firm n m h opened opened2 o absent zero (suc e) k = record { firm = (from_nothing (item_by (inner_of block_in m) opened2 (suc e)) (absent (suc e))).firm }
  by_firm n m h opened opened2 o absent (suc d) zero k = absurd (omega (arith, k))
  by_firm n m h opened opened2 o absent (suc d) (suc e) k = record {
    firm = (node_firm (inner_of block_in n d (item_by (inner_of block_in n) opened d)) (inner_of block_in m e (item_by (inner_of block_in m) opened2 e)) h
        (firm_map tree_of (types_firm n m h d e (omega (arith, k)) false)) (firm_map tree_of (types_firm n m h (suc d) (suc e) k false)) (pats_firm n m h d e (omega (arith, k)))
        (blocks n m d e h (omega (arith, k))) (by_firm n m h opened opened2 o absent d e (omega (arith, k))) (opened (suc d)) (opened2 (suc e)) (o (suc d) (suc e) k)).firm;
  }

  module _ (known : BlocksRead block_in) where
    pub items_firm : (n m : ℕ) → n ≤ m → (d e : ℕ) → d ≤ e → Firm (item_over block_in n d) (item_over block_in m e)
    unfolding item_over
    items_firm zero zero h d e k = record {
      firm = (by_firm 0 0 h (λ depth i. Deep) (λ depth i. Deep) (λ d e k. firm_same (λ i. Deep)) (λ e. (items_read block_in known 0 e).absent) d e k).firm;
    }
    items_firm zero (suc m) h d e k = record {
      firm = (by_firm 0 (suc m) h (λ depth i. Deep) (item_over block_in m) (λ d e k. firm_deep (item_over block_in m e)) (λ e. (items_read block_in known (suc m) e).absent) d e k).firm;
    }
    items_firm (suc n) zero h d e k = absurd (omega (arith, h))
    items_firm (suc n) (suc m) h d e k = record {
      firm = (by_firm (suc n) (suc m) h (item_over block_in n) (item_over block_in m) (items_firm n m (omega (arith, h))) (λ e. (items_read block_in known (suc m) e).absent) d e k).firm;
    }
