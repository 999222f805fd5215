-- Where the pieces of a node end whose last part may lack.
use Rattle.std.proofs.Common.{◌≡◌, ℕ, suc, ◌-◌, List, [], ◌∷◌, ◌++◌, Option, Some, None, length, slice_get, refl, sym, ap, ◌∙◌, ◌<◌, arith, append_assoc}
use Rattle.std.proofs.lemmas.List.{append-nil}
use Rattle.em_base.specs.declared.place.Span.{Span}
use Rattle.em_base.specs.declared.token.Token.{Token}
use Rattle.em_tree.specs.declared.parts.Listed.{Listed}
use Rattle.em_tree.specs.declared.piece.Piece.{Piece}
use Rattle.em_tree.specs.declared.piece.Piece.TheVariants as p
use Rattle.em_tree.specs.declared.piece.Group.{Group}
use Rattle.em_tree.specs.declared.piece.Delimited.{Delimited}
use Rattle.em_tree.specs.declared.literal.Literal.{Literal}
use Rattle.em_tree.specs.declared.types.Segments.{Segments}
use Rattle.em_tree.specs.declared.types.PathStep.{PathStep}
use Rattle.em_tree.specs.declared.types.Output.{Output}
use Rattle.em_tree.specs.declared.types.Output.TheVariants as output
use Rattle.em_tree.specs.declared.types.TypeTree.{TypeTree}
use Rattle.em_tree.specs.declared.expr.Reference.{Reference}
use Rattle.em_tree.specs.declared.expr.Refs.{Refs}
use Rattle.em_tree.specs.declared.expr.Refs.TheVariants as refs
use Rattle.em_tree.specs.declared.expr.Block.{Block}
use Rattle.em_tree.specs.declared.expr.Condition.{Condition}
use Rattle.em_tree.specs.declared.expr.MacroCall.{MacroCall}
use Rattle.em_tree.specs.declared.expr.ElseIf.{ElseIf, out-ElseIf}
use Rattle.em_tree.specs.declared.expr.Expr.{Expr}
use Rattle.em_tree.specs.declared.expr.Expr.TheVariants as expr
use Rattle.em_tree.specs.declared.expr.Body.{Body}
use Rattle.em_tree.specs.declared.item.Sig.{Sig}
use Rattle.em_tree.specs.declared.item.TraitFn.{TraitFn}
use Rattle.em_tree.specs.declared.item.ImplFn.{ImplFn}
use Rattle.em_tree.specs.declared.item.ImplTrait.{ImplTrait}
use Rattle.em_tree.specs.declared.item.FieldDecl.{FieldDecl}
use Rattle.em_tree.specs.declared.item.TupleDecl.{TupleDecl}
use Rattle.em_tree.specs.declared.item.StructFields.{StructFields}
use Rattle.em_tree.specs.declared.item.StructFields.TheVariants as struct_fields
use Rattle.em_tree.specs.declared.item.VariantDecl.{VariantDecl}
use Rattle.em_tree.specs.declared.item.Rename.{Rename}
use Rattle.em_tree.specs.declared.item.UseName.{UseName}
use Rattle.em_tree.specs.declared.item.ItemBody.{ItemBody}
use Rattle.em_tree.specs.declared.item.ItemBody.TheVariants as item_body
use Rattle.em_tree.specs.declared.item.Item.{Item}
use Rattle.em_tree.specs.Parts.{maybe, each, leaves, listed_parts, delimited_parts, literal_parts, segment_parts, path_step_parts, segments_parts, output_parts, type_tree_parts, reference_parts, refs_parts, block_parts, body_parts, condition_parts, macro_call_parts, else_if_parts, expr_parts, sig_parts, trait_fn_parts, impl_fn_parts, impl_trait_parts, field_decl_parts, tuple_decl_parts, struct_fields_parts, variant_decl_parts, rename_parts, use_name_parts, item_body_parts, item_parts}
use Rattle.em_tree.specs.Yields.{piece, whole, as_it_is, SpanOf, place, first_of, last_of, reach}
use Rattle.em_tree.proofs.Edges.{back, back_nil}
use Rattle.em_tree.proofs.Layers.{at-Output-Unit, at-Output-Type, at-ElseIf, at-Expr-If}

-- the last of a list, and a list without a last
one_less : (n : ℕ) → suc n - 1 ≡ n
one_less n = omega arith

behind : {B : Type 0} (x y : B) (xs : List B) → slice_get (y ∷ xs) (length (y ∷ xs) - 1) ≡ slice_get (x ∷ y ∷ xs) (length (x ∷ y ∷ xs) - 1)
behind x y xs = ap (slice_get (y ∷ xs)) (one_less (length xs)) ∙ sym (ap (slice_get (x ∷ y ∷ xs)) (one_less (suc (length xs))))

pub last_each : {B : Type 0} (f : B → List Piece) (xs : List B) (x : B) (s : Span) → slice_get xs (length xs - 1) ≡ Some x → last_of (f x) ≡ Some s → last_of (each f xs) ≡ Some s
last_each f [] x s at h = cc
last_each f (y ∷ []) x s at h = let same : y ≡ x = cc in back_nil (f y) s (ap (λ z. last_of (f z)) same ∙ h)
last_each f (y ∷ z ∷ xs) x s at h = back (f y) (each f (z ∷ xs)) s (last_each f (z ∷ xs) x s (behind y z xs ∙ at) h)

no_last : {B : Type 0} (xs : List B) → slice_get xs (length xs - 1) ≡ None → xs ≡ []
no_last [] h = refl
no_last (x ∷ []) h = cc
no_last (x ∷ y ∷ xs) h = let none : y ∷ xs ≡ [] = no_last (y ∷ xs) (behind x y xs ∙ h) in cc

pub last_or_none : (xs : List Piece) (o : Option Token) (s : Span) → o ≡ None → last_of xs ≡ Some s → last_of (xs ++ maybe piece o) ≡ Some s
last_or_none xs None s is h = back_nil xs s h
last_or_none xs (Some t) s is h = cc

pub last_or_some : (xs : List Piece) (o : Option Token) (t : Token) → o ≡ Some t → last_of (xs ++ maybe piece o) ≡ Some t.span
last_or_some xs None t is = cc
last_or_some xs (Some u) t is = back xs (piece u) t.span (ap (λ o. last_of (maybe piece o)) is)

pub last_segments_first : (x : Segments) (s : Span) → slice_get x.more (length x.more - 1) ≡ None → last_of (segment_parts piece whole as_it_is x.first) ≡ Some s → last_of (segments_parts piece whole as_it_is x) ≡ Some s
last_segments_first x s none h =
    back (maybe piece x.lead) (segment_parts piece whole as_it_is x.first ++ each (path_step_parts piece whole as_it_is) x.more) s
    (ap (λ l. last_of (segment_parts piece whole as_it_is x.first ++ each (path_step_parts piece whole as_it_is) l)) (no_last x.more none) ∙ back_nil (segment_parts piece whole as_it_is x.first) s h)

pub last_segments_more : (x : Segments) (step : PathStep) (s : Span) → slice_get x.more (length x.more - 1) ≡ Some step → last_of (segment_parts piece whole as_it_is step.segment) ≡ Some s → last_of (segments_parts piece whole as_it_is x) ≡ Some s
last_segments_more x step s at h =
    back (maybe piece x.lead) (segment_parts piece whole as_it_is x.first ++ each (path_step_parts piece whole as_it_is) x.more) s
    (back (segment_parts piece whole as_it_is x.first) (each (path_step_parts piece whole as_it_is) x.more) s
    (last_each (path_step_parts piece whole as_it_is) x.more step s at (back (piece step.separator) (segment_parts piece whole as_it_is step.segment) s h)))

pub last_output_unit : (xs : List Piece) (x : Output) (s : Span) → x ≡ output.Unit → last_of xs ≡ Some s → last_of (xs ++ output_parts piece whole as_it_is x) ≡ Some s
last_output_unit xs x s is h = ap (λ r. last_of (xs ++ r)) (at-Output-Unit piece whole as_it_is x is) ∙ back_nil xs s h

pub last_output_type : (xs : List Piece) (x : Output) (arrow : Token) (ty : TypeTree) (s : Span) → x ≡ output.Type arrow ty → last_of (type_tree_parts piece whole as_it_is ty) ≡ Some s → last_of (xs ++ output_parts piece whole as_it_is x) ≡ Some s
last_output_type xs x arrow ty s is h =
    ap (λ r. last_of (xs ++ r)) (at-Output-Type piece whole as_it_is x arrow ty is) ∙ back xs (piece arrow ++ type_tree_parts piece whole as_it_is ty) s (back (piece arrow) (type_tree_parts piece whole as_it_is ty) s h)

pub last_delimited : (x : Delimited) → last_of (delimited_parts piece whole as_it_is x) ≡ Some x.close.span
last_delimited x = back (piece x.open) (x.text ++ piece x.close) x.close.span (back x.text (piece x.close) x.close.span refl)

pub last_macro_call : (x : MacroCall) → last_of (macro_call_parts piece whole as_it_is x) ≡ Some x.text.close.span
last_macro_call x =
    back (piece x.name) (piece x.bang ++ delimited_parts piece whole as_it_is x.text) x.text.close.span
    (back (piece x.bang) (delimited_parts piece whole as_it_is x.text) x.text.close.span (last_delimited x.text))

pub last_refs_many : (x : Refs) (opening : Token) (list : List (Listed Reference)) (closing : Token) → x ≡ refs.Many opening list closing → last_of (refs_parts piece whole as_it_is x) ≡ Some closing.span
last_refs_many x opening list closing is =
    ap (λ y. last_of (refs_parts piece whole as_it_is y)) is
    ∙ back (piece opening) (each (listed_parts piece whole as_it_is (reference_parts piece whole as_it_is)) list ++ piece closing) closing.span
    (back (each (listed_parts piece whole as_it_is (reference_parts piece whole as_it_is)) list) (piece closing) closing.span refl)

-- ---- blocks

pub last_block_group : (x : Block Body) (g : Group) (gs : List Group) → x.groups ≡ g ∷ gs → last_of (block_parts piece whole as_it_is (body_parts piece whole as_it_is) x) ≡ Some (place (p.Group g))
last_block_group x g gs is = ap (λ l. last_of (leaves piece whole as_it_is l (piece x.open ++ (body_parts piece whole as_it_is x.body ++ piece x.close)))) is

no_groups : (gs : List Group) → length gs < 1 → gs ≡ []
no_groups [] none = refl
no_groups (g ∷ gs) none = absurd (omega (arith, none))

pub last_block_close : (x : Block Body) → length x.groups < 1 → last_of (block_parts piece whole as_it_is (body_parts piece whole as_it_is) x) ≡ Some x.close.span
last_block_close x none =
    ap (λ l. last_of (leaves piece whole as_it_is l (piece x.open ++ (body_parts piece whole as_it_is x.body ++ piece x.close)))) (no_groups x.groups none)
    ∙ back (piece x.open) (body_parts piece whole as_it_is x.body ++ piece x.close) x.close.span (back (body_parts piece whole as_it_is x.body) (piece x.close) x.close.span refl)

-- ---- `if`

last_else_if : (x : ElseIf) (s : Span) → last_of (block_parts piece whole as_it_is (body_parts piece whole as_it_is) (out-ElseIf x).then) ≡ Some s → last_of (else_if_parts piece whole as_it_is x) ≡ Some s
last_else_if x s h =
    ap last_of (at-ElseIf piece whole as_it_is x)
    ∙ back (piece (out-ElseIf x).word_else) (piece (out-ElseIf x).word ++ (condition_parts piece whole as_it_is (expr_parts piece whole as_it_is) (out-ElseIf x).condition ++ block_parts piece whole as_it_is (body_parts piece whole as_it_is) (out-ElseIf x).then)) s
    (back (piece (out-ElseIf x).word) (condition_parts piece whole as_it_is (expr_parts piece whole as_it_is) (out-ElseIf x).condition ++ block_parts piece whole as_it_is (body_parts piece whole as_it_is) (out-ElseIf x).then) s
    (back (condition_parts piece whole as_it_is (expr_parts piece whole as_it_is) (out-ElseIf x).condition) (block_parts piece whole as_it_is (body_parts piece whole as_it_is) (out-ElseIf x).then) s h))

pub last_branch_then : (xs : List Piece) (branches : List ElseIf) (s : Span) → slice_get branches (length branches - 1) ≡ None → last_of xs ≡ Some s → last_of (xs ++ each (else_if_parts piece whole as_it_is) branches) ≡ Some s
last_branch_then xs branches s none h = ap (λ l. last_of (xs ++ each (else_if_parts piece whole as_it_is) l)) (no_last branches none) ∙ back_nil xs s h

pub last_branch_more : (xs : List Piece) (branches : List ElseIf) (x : ElseIf) (s : Span) → slice_get branches (length branches - 1) ≡ Some x → last_of (block_parts piece whole as_it_is (body_parts piece whole as_it_is) (out-ElseIf x).then) ≡ Some s → last_of (xs ++ each (else_if_parts piece whole as_it_is) branches) ≡ Some s
last_branch_more xs branches x s at h = back xs (each (else_if_parts piece whole as_it_is) branches) s (last_each (else_if_parts piece whole as_it_is) branches x s at (last_else_if x s h))

pub last_if_else : (xs ys zs : List Piece) (o : Option (Block Body)) (b : Block Body) (s : Span) → o ≡ Some b → last_of (block_parts piece whole as_it_is (body_parts piece whole as_it_is) b) ≡ Some s
    → last_of (xs ++ (ys ++ (zs ++ maybe (block_parts piece whole as_it_is (body_parts piece whole as_it_is)) o))) ≡ Some s
last_if_else xs ys zs o b s is h =
    back xs (ys ++ (zs ++ maybe (block_parts piece whole as_it_is (body_parts piece whole as_it_is)) o)) s
    (back ys (zs ++ maybe (block_parts piece whole as_it_is (body_parts piece whole as_it_is)) o) s
    (back zs (maybe (block_parts piece whole as_it_is (body_parts piece whole as_it_is)) o) s
    (ap (λ q. last_of (maybe (block_parts piece whole as_it_is (body_parts piece whole as_it_is)) q)) is ∙ h)))

pub last_if_none : (xs ys zs : List Piece) (o : Option (Block Body)) (s : Span) → o ≡ None → last_of ((xs ++ ys) ++ zs) ≡ Some s
    → last_of (xs ++ (ys ++ (zs ++ maybe (block_parts piece whole as_it_is (body_parts piece whole as_it_is)) o))) ≡ Some s
last_if_none xs ys zs o s is h =
    ap (λ q. last_of (xs ++ (ys ++ (zs ++ maybe (block_parts piece whole as_it_is (body_parts piece whole as_it_is)) q)))) is
    ∙ ap (λ l. last_of (xs ++ (ys ++ l))) (append-nil zs)
    ∙ ap last_of (sym (append_assoc xs ys zs)) ∙ h

pub last_expr_if : (x : Expr) (word : Token) (condition : Condition Expr) (then : Block Body) (branches : List ElseIf) (word_else : Option Token) (otherwise : Option (Block Body)) (s : Span) → x ≡ expr.If word condition then branches word_else otherwise
    → last_of (block_parts piece whole as_it_is (body_parts piece whole as_it_is) then ++ (each (else_if_parts piece whole as_it_is) branches ++ (maybe piece word_else ++ maybe (block_parts piece whole as_it_is (body_parts piece whole as_it_is)) otherwise))) ≡ Some s
    → last_of (expr_parts piece whole as_it_is x) ≡ Some s
last_expr_if x word condition then branches word_else otherwise s is h =
    ap last_of (at-Expr-If piece whole as_it_is x word condition then branches word_else otherwise is)
    ∙ back (piece word) (condition_parts piece whole as_it_is (expr_parts piece whole as_it_is) condition ++ (block_parts piece whole as_it_is (body_parts piece whole as_it_is) then ++ (each (else_if_parts piece whole as_it_is) branches ++ (maybe piece word_else ++ maybe (block_parts piece whole as_it_is (body_parts piece whole as_it_is)) otherwise)))) s
    (back (condition_parts piece whole as_it_is (expr_parts piece whole as_it_is) condition) (block_parts piece whole as_it_is (body_parts piece whole as_it_is) then ++ (each (else_if_parts piece whole as_it_is) branches ++ (maybe piece word_else ++ maybe (block_parts piece whole as_it_is (body_parts piece whole as_it_is)) otherwise))) s h)

pub span_of : (ys : List Piece) (a b s : Span) → first_of ys ≡ Some a → last_of ys ≡ Some b → s ≡ reach a b → SpanOf ys s
span_of ys a b s starts ends is = (a, b, starts, ends, is)

-- ---- items

pub last_struct_fields_unit : (x : StructFields) (semi : Token) (s : Span) → x ≡ struct_fields.Unit semi → last_of (piece semi) ≡ Some s → last_of (struct_fields_parts piece whole as_it_is x) ≡ Some s
last_struct_fields_unit x semi s is h = ap (λ y. last_of (struct_fields_parts piece whole as_it_is y)) is ∙ h

pub last_struct_fields_named : (x : StructFields) (opening : Token) (fields : List (Listed FieldDecl)) (closing : Token) (s : Span) → x ≡ struct_fields.Named opening fields closing → last_of (piece closing) ≡ Some s → last_of (struct_fields_parts piece whole as_it_is x) ≡ Some s
last_struct_fields_named x opening fields closing s is h = ap (λ y. last_of (struct_fields_parts piece whole as_it_is y)) is ∙ back (piece opening) (each (listed_parts piece whole as_it_is (field_decl_parts piece whole as_it_is)) fields ++ piece closing) s (back (each (listed_parts piece whole as_it_is (field_decl_parts piece whole as_it_is)) fields) (piece closing) s h)

pub last_struct_fields_tuple : (x : StructFields) (opening : Token) (fields : List (Listed TupleDecl)) (closing : Token) (semi : Token) (s : Span) → x ≡ struct_fields.Tuple opening fields closing semi → last_of (piece semi) ≡ Some s → last_of (struct_fields_parts piece whole as_it_is x) ≡ Some s
last_struct_fields_tuple x opening fields closing semi s is h = ap (λ y. last_of (struct_fields_parts piece whole as_it_is y)) is ∙ back (piece opening) (each (listed_parts piece whole as_it_is (tuple_decl_parts piece whole as_it_is)) fields ++ (piece closing ++ piece semi)) s (back (each (listed_parts piece whole as_it_is (tuple_decl_parts piece whole as_it_is)) fields) (piece closing ++ piece semi) s (back (piece closing) (piece semi) s h))

pub last_item_body_extern_crate : (x : ItemBody Item) (word : Token) (word_crate : Token) (name : Token) (rename : Option Rename) (semi : Token) (s : Span) → x ≡ item_body.ExternCrate word word_crate name rename semi → last_of (piece semi) ≡ Some s → last_of (item_body_parts piece whole as_it_is (item_parts piece whole as_it_is) x) ≡ Some s
last_item_body_extern_crate x word word_crate name rename semi s is h = ap (λ y. last_of (item_body_parts piece whole as_it_is (item_parts piece whole as_it_is) y)) is ∙ back (piece word) (piece word_crate ++ (piece name ++ (maybe (rename_parts piece whole as_it_is) rename ++ piece semi))) s (back (piece word_crate) (piece name ++ (maybe (rename_parts piece whole as_it_is) rename ++ piece semi)) s (back (piece name) (maybe (rename_parts piece whole as_it_is) rename ++ piece semi) s (back (maybe (rename_parts piece whole as_it_is) rename) (piece semi) s h)))

pub last_item_body_use : (x : ItemBody Item) (word : Token) (path : Segments) (rename : Option Rename) (semi : Token) (s : Span) → x ≡ item_body.Use word path rename semi → last_of (piece semi) ≡ Some s → last_of (item_body_parts piece whole as_it_is (item_parts piece whole as_it_is) x) ≡ Some s
last_item_body_use x word path rename semi s is h = ap (λ y. last_of (item_body_parts piece whole as_it_is (item_parts piece whole as_it_is) y)) is ∙ back (piece word) (segments_parts piece whole as_it_is path ++ (maybe (rename_parts piece whole as_it_is) rename ++ piece semi)) s (back (segments_parts piece whole as_it_is path) (maybe (rename_parts piece whole as_it_is) rename ++ piece semi) s (back (maybe (rename_parts piece whole as_it_is) rename) (piece semi) s h))

pub last_item_body_use_list : (x : ItemBody Item) (word : Token) (path : Segments) (separator : Token) (opening : Token) (names : List (Listed UseName)) (closing : Token) (semi : Token) (s : Span) → x ≡ item_body.UseList word path separator opening names closing semi → last_of (piece semi) ≡ Some s → last_of (item_body_parts piece whole as_it_is (item_parts piece whole as_it_is) x) ≡ Some s
last_item_body_use_list x word path separator opening names closing semi s is h = ap (λ y. last_of (item_body_parts piece whole as_it_is (item_parts piece whole as_it_is) y)) is ∙ back (piece word) (segments_parts piece whole as_it_is path ++ (piece separator ++ (piece opening ++ (each (listed_parts piece whole as_it_is (use_name_parts piece whole as_it_is)) names ++ (piece closing ++ piece semi))))) s (back (segments_parts piece whole as_it_is path) (piece separator ++ (piece opening ++ (each (listed_parts piece whole as_it_is (use_name_parts piece whole as_it_is)) names ++ (piece closing ++ piece semi)))) s (back (piece separator) (piece opening ++ (each (listed_parts piece whole as_it_is (use_name_parts piece whole as_it_is)) names ++ (piece closing ++ piece semi))) s (back (piece opening) (each (listed_parts piece whole as_it_is (use_name_parts piece whole as_it_is)) names ++ (piece closing ++ piece semi)) s (back (each (listed_parts piece whole as_it_is (use_name_parts piece whole as_it_is)) names) (piece closing ++ piece semi) s (back (piece closing) (piece semi) s h)))))

pub last_item_body_mod_file : (x : ItemBody Item) (word : Token) (name : Token) (semi : Token) (s : Span) → x ≡ item_body.ModFile word name semi → last_of (piece semi) ≡ Some s → last_of (item_body_parts piece whole as_it_is (item_parts piece whole as_it_is) x) ≡ Some s
last_item_body_mod_file x word name semi s is h = ap (λ y. last_of (item_body_parts piece whole as_it_is (item_parts piece whole as_it_is) y)) is ∙ back (piece word) (piece name ++ piece semi) s (back (piece name) (piece semi) s h)

pub last_item_body_mod_block : (x : ItemBody Item) (word : Token) (name : Token) (opening : Token) (items : List Item) (closing : Token) (s : Span) → x ≡ item_body.ModBlock word name opening items closing → last_of (piece closing) ≡ Some s → last_of (item_body_parts piece whole as_it_is (item_parts piece whole as_it_is) x) ≡ Some s
last_item_body_mod_block x word name opening items closing s is h = ap (λ y. last_of (item_body_parts piece whole as_it_is (item_parts piece whole as_it_is) y)) is ∙ back (piece word) (piece name ++ (piece opening ++ (each (item_parts piece whole as_it_is) items ++ piece closing))) s (back (piece name) (piece opening ++ (each (item_parts piece whole as_it_is) items ++ piece closing)) s (back (piece opening) (each (item_parts piece whole as_it_is) items ++ piece closing) s (back (each (item_parts piece whole as_it_is) items) (piece closing) s h)))

pub last_item_body_fn : (x : ItemBody Item) (sig : Sig) (body : Block Body) (s : Span) → x ≡ item_body.Fn sig body → last_of (block_parts piece whole as_it_is (body_parts piece whole as_it_is) body) ≡ Some s → last_of (item_body_parts piece whole as_it_is (item_parts piece whole as_it_is) x) ≡ Some s
last_item_body_fn x sig body s is h = ap (λ y. last_of (item_body_parts piece whole as_it_is (item_parts piece whole as_it_is) y)) is ∙ back (sig_parts piece whole as_it_is sig) (block_parts piece whole as_it_is (body_parts piece whole as_it_is) body) s h

pub last_item_body_struct : (x : ItemBody Item) (word : Token) (name : Token) (fields : StructFields) (s : Span) → x ≡ item_body.Struct word name fields → last_of (struct_fields_parts piece whole as_it_is fields) ≡ Some s → last_of (item_body_parts piece whole as_it_is (item_parts piece whole as_it_is) x) ≡ Some s
last_item_body_struct x word name fields s is h = ap (λ y. last_of (item_body_parts piece whole as_it_is (item_parts piece whole as_it_is) y)) is ∙ back (piece word) (piece name ++ struct_fields_parts piece whole as_it_is fields) s (back (piece name) (struct_fields_parts piece whole as_it_is fields) s h)

pub last_item_body_enum : (x : ItemBody Item) (word : Token) (name : Token) (opening : Token) (variants : List (Listed VariantDecl)) (closing : Token) (s : Span) → x ≡ item_body.Enum word name opening variants closing → last_of (piece closing) ≡ Some s → last_of (item_body_parts piece whole as_it_is (item_parts piece whole as_it_is) x) ≡ Some s
last_item_body_enum x word name opening variants closing s is h = ap (λ y. last_of (item_body_parts piece whole as_it_is (item_parts piece whole as_it_is) y)) is ∙ back (piece word) (piece name ++ (piece opening ++ (each (listed_parts piece whole as_it_is (variant_decl_parts piece whole as_it_is)) variants ++ piece closing))) s (back (piece name) (piece opening ++ (each (listed_parts piece whole as_it_is (variant_decl_parts piece whole as_it_is)) variants ++ piece closing)) s (back (piece opening) (each (listed_parts piece whole as_it_is (variant_decl_parts piece whole as_it_is)) variants ++ piece closing) s (back (each (listed_parts piece whole as_it_is (variant_decl_parts piece whole as_it_is)) variants) (piece closing) s h)))

pub last_item_body_trait : (x : ItemBody Item) (word : Token) (name : Token) (opening : Token) (functions : List TraitFn) (closing : Token) (s : Span) → x ≡ item_body.Trait word name opening functions closing → last_of (piece closing) ≡ Some s → last_of (item_body_parts piece whole as_it_is (item_parts piece whole as_it_is) x) ≡ Some s
last_item_body_trait x word name opening functions closing s is h = ap (λ y. last_of (item_body_parts piece whole as_it_is (item_parts piece whole as_it_is) y)) is ∙ back (piece word) (piece name ++ (piece opening ++ (each (trait_fn_parts piece whole as_it_is) functions ++ piece closing))) s (back (piece name) (piece opening ++ (each (trait_fn_parts piece whole as_it_is) functions ++ piece closing)) s (back (piece opening) (each (trait_fn_parts piece whole as_it_is) functions ++ piece closing) s (back (each (trait_fn_parts piece whole as_it_is) functions) (piece closing) s h)))

pub last_item_body_impl : (x : ItemBody Item) (word : Token) (of_trait : Option ImplTrait) (self_type : TypeTree) (opening : Token) (functions : List ImplFn) (closing : Token) (s : Span) → x ≡ item_body.Impl word of_trait self_type opening functions closing → last_of (piece closing) ≡ Some s → last_of (item_body_parts piece whole as_it_is (item_parts piece whole as_it_is) x) ≡ Some s
last_item_body_impl x word of_trait self_type opening functions closing s is h = ap (λ y. last_of (item_body_parts piece whole as_it_is (item_parts piece whole as_it_is) y)) is ∙ back (piece word) (maybe (impl_trait_parts piece whole as_it_is) of_trait ++ (type_tree_parts piece whole as_it_is self_type ++ (piece opening ++ (each (impl_fn_parts piece whole as_it_is) functions ++ piece closing)))) s (back (maybe (impl_trait_parts piece whole as_it_is) of_trait) (type_tree_parts piece whole as_it_is self_type ++ (piece opening ++ (each (impl_fn_parts piece whole as_it_is) functions ++ piece closing))) s (back (type_tree_parts piece whole as_it_is self_type) (piece opening ++ (each (impl_fn_parts piece whole as_it_is) functions ++ piece closing)) s (back (piece opening) (each (impl_fn_parts piece whole as_it_is) functions ++ piece closing) s (back (each (impl_fn_parts piece whole as_it_is) functions) (piece closing) s h))))

pub last_item_body_const : (x : ItemBody Item) (word : Token) (name : Token) (colon : Token) (ty : TypeTree) (equals : Token) (value : Literal) (semi : Token) (s : Span) → x ≡ item_body.Const word name colon ty equals value semi → last_of (piece semi) ≡ Some s → last_of (item_body_parts piece whole as_it_is (item_parts piece whole as_it_is) x) ≡ Some s
last_item_body_const x word name colon ty equals value semi s is h = ap (λ y. last_of (item_body_parts piece whole as_it_is (item_parts piece whole as_it_is) y)) is ∙ back (piece word) (piece name ++ (piece colon ++ (type_tree_parts piece whole as_it_is ty ++ (piece equals ++ (literal_parts piece whole as_it_is value ++ piece semi))))) s (back (piece name) (piece colon ++ (type_tree_parts piece whole as_it_is ty ++ (piece equals ++ (literal_parts piece whole as_it_is value ++ piece semi)))) s (back (piece colon) (type_tree_parts piece whole as_it_is ty ++ (piece equals ++ (literal_parts piece whole as_it_is value ++ piece semi))) s (back (type_tree_parts piece whole as_it_is ty) (piece equals ++ (literal_parts piece whole as_it_is value ++ piece semi)) s (back (piece equals) (literal_parts piece whole as_it_is value ++ piece semi) s (back (literal_parts piece whole as_it_is value) (piece semi) s h)))))

pub last_item_body_rules : (x : ItemBody Item) (word : Token) (bang : Token) (name : Token) (macro_text : Delimited) (semi : Option Token) (s : Span) → x ≡ item_body.Rules word bang name macro_text semi → last_of (delimited_parts piece whole as_it_is macro_text ++ maybe piece semi) ≡ Some s → last_of (item_body_parts piece whole as_it_is (item_parts piece whole as_it_is) x) ≡ Some s
last_item_body_rules x word bang name macro_text semi s is h = ap (λ y. last_of (item_body_parts piece whole as_it_is (item_parts piece whole as_it_is) y)) is ∙ back (piece word) (piece bang ++ (piece name ++ (delimited_parts piece whole as_it_is macro_text ++ maybe piece semi))) s (back (piece bang) (piece name ++ (delimited_parts piece whole as_it_is macro_text ++ maybe piece semi)) s (back (piece name) (delimited_parts piece whole as_it_is macro_text ++ maybe piece semi) s h))

pub last_item_body_macro : (x : ItemBody Item) (call : MacroCall) (semi : Option Token) (s : Span) → x ≡ item_body.Macro call semi → last_of (macro_call_parts piece whole as_it_is call ++ maybe piece semi) ≡ Some s → last_of (item_body_parts piece whole as_it_is (item_parts piece whole as_it_is) x) ≡ Some s
last_item_body_macro x call semi s is h = ap (λ y. last_of (item_body_parts piece whole as_it_is (item_parts piece whole as_it_is) y)) is ∙ h
