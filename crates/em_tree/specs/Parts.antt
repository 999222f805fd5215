-- The parts of a tree in order. What stands for a token, for a fragment with the parts of its tree, and for the text of a macro is given.
use Rattle.std.specs.Prelude.{Bool, List, [], ◌∷◌, ◌++◌, Option, Some, None}
use Rattle.em_base.specs.declared.token.Token.{Token}
use Rattle.em_tree.specs.declared.parts.Listed.{Listed}
use Rattle.em_tree.specs.declared.piece.Piece.{Piece}
use Rattle.em_tree.specs.declared.piece.Group.{Group}
use Rattle.em_tree.specs.declared.piece.Delimited.{Delimited}
use Rattle.em_tree.specs.declared.literal.Literal.{Literal, fold-Literal}
use Rattle.em_tree.specs.declared.types.Segment.{Segment}
use Rattle.em_tree.specs.declared.types.PathStep.{PathStep}
use Rattle.em_tree.specs.declared.types.Segments.{Segments}
use Rattle.em_tree.specs.declared.types.Path.{Path, fold-Path}
use Rattle.em_tree.specs.declared.types.Qualified.{Qualified, fold-Qualified}
use Rattle.em_tree.specs.declared.types.Output.{Output, fold-Output}
use Rattle.em_tree.specs.declared.types.Bound.{Bound, fold-Bound}
use Rattle.em_tree.specs.declared.types.TypeTree.{TypeTree, fold-TypeTree}
use Rattle.em_tree.specs.declared.pat.FieldPat.{FieldPat}
use Rattle.em_tree.specs.declared.pat.FieldPat.TheVariants as field_pat
use Rattle.em_tree.specs.declared.pat.Pat.{Pat, fold-Pat}
use Rattle.em_tree.specs.declared.pat.Alternative.{Alternative}
use Rattle.em_tree.specs.declared.pat.TopPat.{TopPat, fold-TopPat}
use Rattle.em_tree.specs.declared.expr.Annotation.{Annotation}
use Rattle.em_tree.specs.declared.expr.Annotation.TheVariants as annotation
use Rattle.em_tree.specs.declared.expr.FieldExpr.{FieldExpr}
use Rattle.em_tree.specs.declared.expr.ClosureParam.{ClosureParam}
use Rattle.em_tree.specs.declared.expr.ClosureHead.{ClosureHead}
use Rattle.em_tree.specs.declared.expr.ClosureHead.TheVariants as closure_head
use Rattle.em_tree.specs.declared.expr.Condition.{Condition}
use Rattle.em_tree.specs.declared.expr.Condition.TheVariants as condition
use Rattle.em_tree.specs.declared.expr.Arm.{Arm}
use Rattle.em_tree.specs.declared.expr.Reference.{Reference}
use Rattle.em_tree.specs.declared.expr.Refs.{Refs}
use Rattle.em_tree.specs.declared.expr.Refs.TheVariants as refs
use Rattle.em_tree.specs.declared.expr.Block.{Block}
use Rattle.em_tree.specs.declared.expr.MacroCall.{MacroCall}
use Rattle.em_tree.specs.declared.expr.ElseIf.{ElseIf, fold-ElseIf}
use Rattle.em_tree.specs.declared.expr.Expr.{Expr, fold-Expr}
use Rattle.em_tree.specs.declared.expr.Stmt.{Stmt, fold-Stmt}
use Rattle.em_tree.specs.declared.expr.Body.{Body, fold-Body}
use Rattle.em_tree.specs.declared.item.MetaInput.{MetaInput}
use Rattle.em_tree.specs.declared.item.MetaInput.TheVariants as meta_input
use Rattle.em_tree.specs.declared.item.Meta.{Meta}
use Rattle.em_tree.specs.declared.item.Attribute.{Attribute}
use Rattle.em_tree.specs.declared.item.VisScope.{VisScope}
use Rattle.em_tree.specs.declared.item.Vis.{Vis}
use Rattle.em_tree.specs.declared.item.SelfParam.{SelfParam}
use Rattle.em_tree.specs.declared.item.Param.{Param}
use Rattle.em_tree.specs.declared.item.Param.TheVariants as param
use Rattle.em_tree.specs.declared.item.Sig.{Sig}
use Rattle.em_tree.specs.declared.item.TraitBody.{TraitBody}
use Rattle.em_tree.specs.declared.item.TraitBody.TheVariants as trait_body
use Rattle.em_tree.specs.declared.item.TraitFn.{TraitFn}
use Rattle.em_tree.specs.declared.item.ImplFn.{ImplFn}
use Rattle.em_tree.specs.declared.item.ImplTrait.{ImplTrait}
use Rattle.em_tree.specs.declared.item.FieldDecl.{FieldDecl}
use Rattle.em_tree.specs.declared.item.TupleDecl.{TupleDecl}
use Rattle.em_tree.specs.declared.item.StructFields.{StructFields}
use Rattle.em_tree.specs.declared.item.StructFields.TheVariants as struct_fields
use Rattle.em_tree.specs.declared.item.VariantField.{VariantField}
use Rattle.em_tree.specs.declared.item.VariantFields.{VariantFields}
use Rattle.em_tree.specs.declared.item.VariantFields.TheVariants as variant_fields
use Rattle.em_tree.specs.declared.item.VariantDecl.{VariantDecl}
use Rattle.em_tree.specs.declared.item.Rename.{Rename}
use Rattle.em_tree.specs.declared.item.UseName.{UseName}
use Rattle.em_tree.specs.declared.item.ItemBody.{ItemBody}
use Rattle.em_tree.specs.declared.item.ItemBody.TheVariants as item_body
use Rattle.em_tree.specs.declared.item.Item.{Item, fold-Item}
use Rattle.em_tree.specs.declared.literal.Literal.TheOpen.{Literal-F}
use Rattle.em_tree.specs.declared.types.Bound.TheOpen.{Bound-F, Output-F, Path-F, TypeTree-F, Qualified-F}
use Rattle.em_tree.specs.declared.pat.Pat.TheOpen.{Pat-F}
use Rattle.em_tree.specs.declared.pat.TopPat.TheOpen.{TopPat-F}
use Rattle.em_tree.specs.declared.expr.Expr.TheOpen.{Expr-F, Stmt-F, Body-F, ElseIf-F}
use Rattle.em_tree.specs.declared.item.Item.TheOpen.{Item-F}

module _ {A : Type 0} where
  abbrev pub same : List A → List A
  same xs = xs

  abbrev pub maybe : {B : Type 0} → (B → List A) → Option B → List A
  maybe f None = []
  maybe f (Some x) = f x

  abbrev pub each : {B : Type 0} → (B → List A) → List B → List A
  each f [] = []
  each f (x ∷ xs) = f x ++ each f xs

module _ {A : Type 0} (tok : Token → List A) (leaf : Group → List A → List A) (text : List Piece → List A) where
  -- what the fragments around a tree make of its parts
  abbrev pub leaves : List Group → List A → List A
  leaves [] xs = xs
  leaves (g ∷ gs) xs = leaf g (leaves gs xs)

  abbrev pub listed_parts : {B : Type 0} → (B → List A) → Listed B → List A
  listed_parts f x = f x.item ++ maybe tok x.comma

  abbrev pub delimited_parts : Delimited → List A
  delimited_parts x = tok x.open ++ (text x.text ++ tok x.close)

  abbrev pub literal_step : Literal-F (List A) → List A
  literal_step (Literal-F.Token x0) = tok x0
  literal_step (Literal-F.Negative minus value) = tok minus ++ value
  literal_step (Literal-F.Group group inner) = leaf group inner

  unfoldable pub literal_parts : Literal → List A
  literal_parts x = fold-Literal (List A) literal_step x

  abbrev pub segment_parts : Segment → List A
  segment_parts x = maybe tok x.dollar ++ tok x.name

  abbrev pub path_step_parts : PathStep → List A
  path_step_parts x = tok x.separator ++ segment_parts x.segment

  abbrev pub segments_parts : Segments → List A
  segments_parts x = maybe tok x.lead ++ (segment_parts x.first ++ each path_step_parts x.more)

  abbrev pub bound_step : Bound-F (List A) (List A) (List A) (List A) (List A) → List A
  bound_step (Bound-F.Bound::Path x0) = x0
  bound_step (Bound-F.Call path opening inputs closing output) = path ++ (tok opening ++ (each (listed_parts same) inputs ++ (tok closing ++ output)))

  abbrev pub output_step : Output-F (List A) (List A) (List A) (List A) (List A) → List A
  output_step Output-F.Output::Unit = []
  output_step (Output-F.Type arrow ty) = tok arrow ++ ty

  abbrev pub path_step : Path-F (List A) (List A) (List A) (List A) (List A) → List A
  path_step (Path-F.Plain x0) = segments_parts x0
  path_step (Path-F.Qualified x0) = x0
  path_step (Path-F.Path::Group group inner) = leaf group inner

  abbrev pub type_tree_step : TypeTree-F (List A) (List A) (List A) (List A) (List A) → List A
  type_tree_step (TypeTree-F.TypeTree::Path x0) = x0
  type_tree_step (TypeTree-F.Boxed word opening inner closing) = tok word ++ (tok opening ++ (inner ++ maybe tok closing))
  type_tree_step (TypeTree-F.Ref amp word_mut inner) = tok amp ++ (maybe tok word_mut ++ inner)
  type_tree_step (TypeTree-F.RefRef amps word_mut inner) = tok amps ++ (maybe tok word_mut ++ inner)
  type_tree_step (TypeTree-F.Array opening element semi length closing) = tok opening ++ (element ++ (tok semi ++ (literal_parts length ++ tok closing)))
  type_tree_step (TypeTree-F.Slice opening element closing) = tok opening ++ (element ++ tok closing)
  type_tree_step (TypeTree-F.TypeTree::Unit opening closing) = tok opening ++ tok closing
  type_tree_step (TypeTree-F.Dyn word bound) = tok word ++ bound
  type_tree_step (TypeTree-F.Bare x0) = x0
  type_tree_step (TypeTree-F.TypeTree::Group group inner) = leaf group inner

  abbrev pub qualified_step : Qualified-F (List A) (List A) (List A) (List A) (List A) → List A
  qualified_step x = tok x.open ++ (x.self_type ++ (tok x.word ++ (x.of_trait ++ (tok x.close ++ (tok x.separator ++ tok x.name)))))

  unfoldable pub bound_parts : Bound → List A
  bound_parts x = fold-Bound (List A) (List A) (List A) (List A) (List A) bound_step output_step path_step type_tree_step qualified_step x

  unfoldable pub output_parts : Output → List A
  output_parts x = fold-Output (List A) (List A) (List A) (List A) (List A) bound_step output_step path_step type_tree_step qualified_step x

  unfoldable pub path_parts : Path → List A
  path_parts x = fold-Path (List A) (List A) (List A) (List A) (List A) bound_step output_step path_step type_tree_step qualified_step x

  unfoldable pub type_tree_parts : TypeTree → List A
  type_tree_parts x = fold-TypeTree (List A) (List A) (List A) (List A) (List A) bound_step output_step path_step type_tree_step qualified_step x

  unfoldable pub qualified_parts : Qualified → List A
  qualified_parts x = fold-Qualified (List A) (List A) (List A) (List A) (List A) bound_step output_step path_step type_tree_step qualified_step x

  abbrev pub field_pat_parts : {B : Type 0} → (B → List A) → FieldPat B → List A
  field_pat_parts f (field_pat.Full name colon pat) = tok name ++ (tok colon ++ f pat)
  field_pat_parts f (field_pat.Short word_ref word_mut name) = maybe tok word_ref ++ (maybe tok word_mut ++ tok name)

  abbrev pub pat_step : Pat-F (List A) → List A
  pat_step (Pat-F.Wild x0) = tok x0
  pat_step (Pat-F.Name word_ref word_mut name) = maybe tok word_ref ++ (maybe tok word_mut ++ tok name)
  pat_step (Pat-F.Literal x0) = literal_parts x0
  pat_step (Pat-F.Range start dots end) = literal_parts start ++ (tok dots ++ literal_parts end)
  pat_step (Pat-F.Path x0) = path_parts x0
  pat_step (Pat-F.Tuple path opening fields closing) = path_parts path ++ (tok opening ++ (each (listed_parts same) fields ++ tok closing))
  pat_step (Pat-F.Struct path opening fields rest closing) = path_parts path ++ (tok opening ++ (each (listed_parts (field_pat_parts same)) fields ++ (maybe tok rest ++ tok closing)))
  pat_step (Pat-F.Group group inner) = leaf group inner

  unfoldable pub pat_parts : Pat → List A
  pat_parts x = fold-Pat (List A) pat_step x

  abbrev pub alternative_parts : Alternative → List A
  alternative_parts x = maybe tok x.bar ++ pat_parts x.pat

  abbrev pub top_pat_step : TopPat-F (List A) → List A
  top_pat_step (TopPat-F.Alternatives x0) = each alternative_parts x0
  top_pat_step (TopPat-F.Group group inner) = leaf group inner

  unfoldable pub top_pat_parts : TopPat → List A
  top_pat_parts x = fold-TopPat (List A) top_pat_step x

  abbrev pub annotation_parts : Annotation → List A
  annotation_parts annotation.Nothing = []
  annotation_parts (annotation.Type colon ty) = tok colon ++ type_tree_parts ty

  abbrev pub field_expr_parts : {B : Type 0} → (B → List A) → FieldExpr B → List A
  field_expr_parts f x = tok x.name ++ (maybe tok x.colon ++ maybe f x.value)

  abbrev pub closure_param_parts : ClosureParam → List A
  closure_param_parts x = pat_parts x.pat ++ (annotation_parts x.annotation ++ maybe tok x.comma)

  abbrev pub closure_head_parts : ClosureHead → List A
  closure_head_parts (closure_head.Empty x0) = tok x0
  closure_head_parts (closure_head.Bars opening params closing) = tok opening ++ (each closure_param_parts params ++ tok closing)

  abbrev pub condition_parts : {B : Type 0} → (B → List A) → Condition B → List A
  condition_parts f (condition.Expr x0) = f x0
  condition_parts f (condition.Let word pat equals value) = tok word ++ (top_pat_parts pat ++ (tok equals ++ f value))

  abbrev pub arm_parts : {B : Type 0} → (B → List A) → Arm B → List A
  arm_parts f x = top_pat_parts x.pat ++ (tok x.arrow ++ (f x.body ++ maybe tok x.comma))

  abbrev pub reference_parts : Reference → List A
  reference_parts x = tok x.amp ++ tok x.name

  abbrev pub refs_parts : Refs → List A
  refs_parts (refs.One x0) = reference_parts x0
  refs_parts (refs.Many opening list closing) = tok opening ++ (each (listed_parts reference_parts) list ++ tok closing)

  abbrev pub block_parts : {B : Type 0} → (B → List A) → Block B → List A
  block_parts f x = leaves x.groups (tok x.open ++ (f x.body ++ tok x.close))

  abbrev pub macro_call_parts : MacroCall → List A
  macro_call_parts x = tok x.name ++ (tok x.bang ++ delimited_parts x.text)

  abbrev pub expr_step : Expr-F (List A) (List A) (List A) (List A) → List A
  expr_step (Expr-F.Literal x0) = tok x0
  expr_step (Expr-F.Path x0) = path_parts x0
  expr_step (Expr-F.Struct path opening fields closing) = path_parts path ++ (tok opening ++ (each (listed_parts (field_expr_parts same)) fields ++ tok closing))
  expr_step (Expr-F.Paren opening inner closing) = tok opening ++ (inner ++ tok closing)
  expr_step (Expr-F.Array opening elements closing) = tok opening ++ (each (listed_parts same) elements ++ tok closing)
  expr_step (Expr-F.Repeat opening element semi length closing) = tok opening ++ (element ++ (tok semi ++ (literal_parts length ++ tok closing)))
  expr_step (Expr-F.Block x0) = block_parts same x0
  expr_step (Expr-F.If word condition then branches word_else otherwise) = tok word ++ (condition_parts same condition ++ (block_parts same then ++ (each same branches ++ (maybe tok word_else ++ maybe (block_parts same) otherwise))))
  expr_step (Expr-F.Match word scrutinee opening arms closing) = tok word ++ (scrutinee ++ (tok opening ++ (each (arm_parts same) arms ++ tok closing)))
  expr_step (Expr-F.While word condition body) = tok word ++ (condition ++ block_parts same body)
  expr_step (Expr-F.Loop word body) = tok word ++ block_parts same body
  expr_step (Expr-F.For word pat word_in head dots end body) = tok word ++ (pat_parts pat ++ (tok word_in ++ (head ++ (maybe tok dots ++ (maybe same end ++ block_parts same body)))))
  expr_step (Expr-F.Closure word_move head body) = maybe tok word_move ++ (closure_head_parts head ++ body)
  expr_step (Expr-F.ClosureTo word_move head arrow output body) = maybe tok word_move ++ (closure_head_parts head ++ (tok arrow ++ (type_tree_parts output ++ block_parts same body)))
  expr_step (Expr-F.Expr::Macro x0) = macro_call_parts x0
  expr_step (Expr-F.Return word value) = tok word ++ maybe same value
  expr_step (Expr-F.Break x0) = tok x0
  expr_step (Expr-F.Continue x0) = tok x0
  expr_step (Expr-F.MethodCall receiver dot name opening arguments closing) = receiver ++ (tok dot ++ (tok name ++ (tok opening ++ (each (listed_parts same) arguments ++ tok closing))))
  expr_step (Expr-F.Call callee opening arguments closing) = callee ++ (tok opening ++ (each (listed_parts same) arguments ++ tok closing))
  expr_step (Expr-F.Field base dot name) = base ++ (tok dot ++ tok name)
  expr_step (Expr-F.Place base dot number) = base ++ (tok dot ++ literal_parts number)
  expr_step (Expr-F.Index base opening index closing) = base ++ (tok opening ++ (index ++ tok closing))
  expr_step (Expr-F.Unary operator operand) = tok operator ++ operand
  expr_step (Expr-F.Ref amp word_mut operand) = tok amp ++ (maybe tok word_mut ++ operand)
  expr_step (Expr-F.RefRef amps word_mut operand) = tok amps ++ (maybe tok word_mut ++ operand)
  expr_step (Expr-F.Binary left operator right) = left ++ (tok operator ++ right)
  expr_step (Expr-F.Assign left operator right) = left ++ (tok operator ++ right)
  expr_step (Expr-F.Expr::Group group inner) = leaf group inner

  abbrev pub stmt_step : Stmt-F (List A) (List A) (List A) (List A) → List A
  stmt_step (Stmt-F.Mention word underscore equals refs semi) = tok word ++ (tok underscore ++ (tok equals ++ (refs_parts refs ++ maybe tok semi)))
  stmt_step (Stmt-F.Let word pat annotation equals value semi) = tok word ++ (pat_parts pat ++ (annotation_parts annotation ++ (tok equals ++ (value ++ maybe tok semi))))
  stmt_step (Stmt-F.Stmt::Macro call semi) = macro_call_parts call ++ maybe tok semi
  stmt_step (Stmt-F.Expr value semi) = value ++ maybe tok semi
  stmt_step (Stmt-F.BlockLike value semi) = value ++ maybe tok semi
  stmt_step (Stmt-F.Stmt::Group group inner semi) = leaf group inner ++ maybe tok semi

  abbrev pub body_step : Body-F (List A) (List A) (List A) (List A) → List A
  body_step x = each same x.stmts ++ maybe same x.tail

  abbrev pub else_if_step : ElseIf-F (List A) (List A) (List A) (List A) → List A
  else_if_step x = tok x.word_else ++ (tok x.word ++ (condition_parts same x.condition ++ block_parts same x.then))

  unfoldable pub expr_parts : Expr → List A
  expr_parts x = fold-Expr (List A) (List A) (List A) (List A) expr_step stmt_step body_step else_if_step x

  unfoldable pub stmt_parts : Stmt → List A
  stmt_parts x = fold-Stmt (List A) (List A) (List A) (List A) expr_step stmt_step body_step else_if_step x

  unfoldable pub body_parts : Body → List A
  body_parts x = fold-Body (List A) (List A) (List A) (List A) expr_step stmt_step body_step else_if_step x

  unfoldable pub else_if_parts : ElseIf → List A
  else_if_parts x = fold-ElseIf (List A) (List A) (List A) (List A) expr_step stmt_step body_step else_if_step x

  abbrev pub meta_input_parts : MetaInput → List A
  meta_input_parts meta_input.Nothing = []
  meta_input_parts (meta_input.List x0) = delimited_parts x0
  meta_input_parts (meta_input.Value equals literal) = tok equals ++ literal_parts literal

  abbrev pub meta_parts : Meta → List A
  meta_parts x = tok x.name ++ meta_input_parts x.input

  abbrev pub attribute_parts : Attribute → List A
  attribute_parts x = tok x.hash ++ (tok x.open ++ (meta_parts x.meta ++ tok x.close))

  abbrev pub vis_scope_parts : VisScope → List A
  vis_scope_parts x = tok x.open ++ (tok x.module ++ tok x.close)

  abbrev pub vis_parts : Vis → List A
  vis_parts x = tok x.word ++ maybe vis_scope_parts x.scope

  abbrev pub self_param_parts : SelfParam → List A
  self_param_parts x = maybe tok x.amp ++ (maybe tok x.word_mut ++ tok x.word)

  abbrev pub param_parts : Param → List A
  param_parts (param.Typed pat colon ty) = pat_parts pat ++ (tok colon ++ type_tree_parts ty)
  param_parts (param.Anonymous x0) = type_tree_parts x0

  abbrev pub sig_parts : Sig → List A
  sig_parts x = tok x.word ++ (tok x.name ++ (tok x.open ++ (maybe (listed_parts self_param_parts) x.receiver ++ (each (listed_parts param_parts) x.params ++ (tok x.close ++ output_parts x.output)))))

  abbrev pub trait_body_parts : TraitBody → List A
  trait_body_parts (trait_body.Semi x0) = tok x0
  trait_body_parts (trait_body.Block x0) = block_parts body_parts x0

  abbrev pub trait_fn_parts : TraitFn → List A
  trait_fn_parts x = sig_parts x.sig ++ trait_body_parts x.body

  abbrev pub impl_fn_parts : ImplFn → List A
  impl_fn_parts x = maybe vis_parts x.vis ++ (sig_parts x.sig ++ block_parts body_parts x.body)

  abbrev pub impl_trait_parts : ImplTrait → List A
  impl_trait_parts x = path_parts x.path ++ tok x.word_for

  abbrev pub field_decl_parts : FieldDecl → List A
  field_decl_parts x = maybe vis_parts x.vis ++ (tok x.name ++ (tok x.colon ++ type_tree_parts x.ty))

  abbrev pub tuple_decl_parts : TupleDecl → List A
  tuple_decl_parts x = maybe vis_parts x.vis ++ type_tree_parts x.ty

  abbrev pub struct_fields_parts : StructFields → List A
  struct_fields_parts (struct_fields.Unit semi) = tok semi
  struct_fields_parts (struct_fields.Named opening fields closing) = tok opening ++ (each (listed_parts field_decl_parts) fields ++ tok closing)
  struct_fields_parts (struct_fields.Tuple opening fields closing semi) = tok opening ++ (each (listed_parts tuple_decl_parts) fields ++ (tok closing ++ tok semi))

  abbrev pub variant_field_parts : VariantField → List A
  variant_field_parts x = tok x.name ++ (tok x.colon ++ type_tree_parts x.ty)

  abbrev pub variant_fields_parts : VariantFields → List A
  variant_fields_parts variant_fields.Unit = []
  variant_fields_parts (variant_fields.Tuple opening fields closing) = tok opening ++ (each (listed_parts type_tree_parts) fields ++ tok closing)
  variant_fields_parts (variant_fields.Named opening fields closing) = tok opening ++ (each (listed_parts variant_field_parts) fields ++ tok closing)

  abbrev pub variant_decl_parts : VariantDecl → List A
  variant_decl_parts x = tok x.name ++ variant_fields_parts x.fields

  abbrev pub rename_parts : Rename → List A
  rename_parts x = tok x.word ++ tok x.name

  abbrev pub use_name_parts : UseName → List A
  use_name_parts x = tok x.name ++ maybe rename_parts x.rename

  abbrev pub item_body_parts : {B : Type 0} → (B → List A) → ItemBody B → List A
  item_body_parts f (item_body.ExternCrate word word_crate name rename semi) = tok word ++ (tok word_crate ++ (tok name ++ (maybe rename_parts rename ++ tok semi)))
  item_body_parts f (item_body.Use word path rename semi) = tok word ++ (segments_parts path ++ (maybe rename_parts rename ++ tok semi))
  item_body_parts f (item_body.UseList word path separator opening names closing semi) = tok word ++ (segments_parts path ++ (tok separator ++ (tok opening ++ (each (listed_parts use_name_parts) names ++ (tok closing ++ tok semi)))))
  item_body_parts f (item_body.ModFile word name semi) = tok word ++ (tok name ++ tok semi)
  item_body_parts f (item_body.ModBlock word name opening items closing) = tok word ++ (tok name ++ (tok opening ++ (each f items ++ tok closing)))
  item_body_parts f (item_body.Fn sig body) = sig_parts sig ++ block_parts body_parts body
  item_body_parts f (item_body.Struct word name fields) = tok word ++ (tok name ++ struct_fields_parts fields)
  item_body_parts f (item_body.Enum word name opening variants closing) = tok word ++ (tok name ++ (tok opening ++ (each (listed_parts variant_decl_parts) variants ++ tok closing)))
  item_body_parts f (item_body.Trait word name opening functions closing) = tok word ++ (tok name ++ (tok opening ++ (each trait_fn_parts functions ++ tok closing)))
  item_body_parts f (item_body.Impl word of_trait self_type opening functions closing) = tok word ++ (maybe impl_trait_parts of_trait ++ (type_tree_parts self_type ++ (tok opening ++ (each impl_fn_parts functions ++ tok closing))))
  item_body_parts f (item_body.Const word name colon ty equals value semi) = tok word ++ (tok name ++ (tok colon ++ (type_tree_parts ty ++ (tok equals ++ (literal_parts value ++ tok semi)))))
  item_body_parts f (item_body.Rules word bang name macro_text semi) = tok word ++ (tok bang ++ (tok name ++ (delimited_parts macro_text ++ maybe tok semi)))
  item_body_parts f (item_body.Macro call semi) = macro_call_parts call ++ maybe tok semi

  abbrev pub item_step : Item-F (List A) → List A
  item_step (Item-F.Plain attributes vis body) = each attribute_parts attributes ++ (maybe vis_parts vis ++ item_body_parts same body)
  item_step (Item-F.Group group inner) = leaf group inner

  unfoldable pub item_parts : Item → List A
  item_parts x = fold-Item (List A) item_step x
