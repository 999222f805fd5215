-- The tokens of a path, a type or a pattern of the grammar are its pieces opened.
use Rattle.std.proofs.Common.{◌≡◌, ◌++◌, ◌∷◌, [], ℕ, zero, suc, Bool, true, false, List, Option, Some, codes}
use Rattle.em_base.specs.declared.token.Token.{Token}
use Rattle.em_tree.specs.declared.parts.Listed.{Listed}
use Rattle.em_tree.specs.declared.literal.Literal.{Literal}
use Rattle.em_tree.specs.declared.types.Path.{Path}
use Rattle.em_tree.specs.declared.types.Qualified.{out-Qualified}
use Rattle.em_tree.specs.declared.types.Output.{Output}
use Rattle.em_tree.specs.declared.types.Bound.{Bound, out-Bound}
use Rattle.em_tree.specs.declared.types.TypeTree.{TypeTree}
use Rattle.em_tree.specs.declared.pat.FieldPat.{FieldPat}
use Rattle.em_tree.specs.declared.pat.Pat.{Pat}
use Rattle.em_tree.specs.declared.pat.Alternative.{Alternative}
use Rattle.em_tree.specs.declared.pat.TopPat.{TopPat}
use Rattle.em_tree.specs.declared.types.Bound.TheOpen.{Bound-F}
use Rattle.em_tree.specs.declared.pat.FieldPat.TheVariants as field
use Rattle.em_tree.specs.Parts.{maybe, each, alternative_parts, bound_parts, field_pat_parts, literal_parts, output_parts, pat_parts, path_parts, top_pat_parts, type_tree_parts}
use Rattle.em_tree.specs.Yields.{one, inside, opened, piece, whole, as_it_is}
use Rattle.em_tree.specs.Tokens.{Is}
use Rattle.em_tree.specs.PathGrammar
use Rattle.em_tree.specs.PathGrammar.{IsLiteral, IsIntLiteral, IsPlainPath, IsPath, IsOutput, IsCallBound, IsBound, Closes, TypeNode, IsType, TypeWithin, PathWithin}
use Rattle.em_tree.specs.PatGrammar
use Rattle.em_tree.specs.PatGrammar.{IsField, PatNode, IsPat, Alternatives, IsTopPat}
use Rattle.em_tree.specs.ItemGrammar.{OutputWithin}
use Rattle.em_tree.proofs.OpenedLayers.{Op, op2, op_tok, op_maybe_tok, op_each, op_commas, op-Literal-Token, op-Literal-Negative, op-Literal-Group, op-Bound-Path, op-Bound-Call, op-Output-Unit, op-Output-Type, op-Path-Plain, op-Path-Qualified, op-Path-Group, op-TypeTree-Path, op-TypeTree-Boxed, op-TypeTree-Ref, op-TypeTree-RefRef, op-TypeTree-Array, op-TypeTree-Slice, op-TypeTree-Unit, op-TypeTree-Dyn, op-TypeTree-Bare, op-TypeTree-Group, op-Qualified, op-Pat-Wild, op-Pat-Name, op-Pat-Literal, op-Pat-Range, op-Pat-Path, op-Pat-Tuple, op-Pat-Struct, op-Pat-Group, op-TopPat-Alternatives, op-TopPat-Group}

-- ---- literals

pub literal_op : (signed : Bool) (x : Literal) → IsLiteral signed x → Op (literal_parts one inside opened x) (literal_parts piece whole as_it_is x)
literal_op signed x (PathGrammar.IsLiteral.token e h1) = op-Literal-Token x _ e
literal_op signed x (PathGrammar.IsLiteral.negative {y = y} e h1 h2) = op-Literal-Negative x _ y e (literal_op false y h2)
literal_op signed x (PathGrammar.IsLiteral.group {y = y} e h1 h2 h3) = op-Literal-Group x _ y e h2 (literal_op signed y h3)

pub int_op : (x : Literal) → IsIntLiteral x → Op (literal_parts one inside opened x) (literal_parts piece whole as_it_is x)
int_op x (PathGrammar.IsIntLiteral.token e h1) = op-Literal-Token x _ e
int_op x (PathGrammar.IsIntLiteral.group {y = y} e h1 h2 h3) = op-Literal-Group x _ y e h2 (int_op y h3)

-- ---- paths and types

abbrev OpPath : Path → Type 0
OpPath x = Op (path_parts one inside opened x) (path_parts piece whole as_it_is x)

abbrev OpType : TypeTree → Type 0
OpType x = Op (type_tree_parts one inside opened x) (type_tree_parts piece whole as_it_is x)

plain_op : (x : Path) → IsPlainPath x → OpPath x
plain_op x (PathGrammar.IsPlainPath.plain e h1) = op-Path-Plain x _ e
plain_op x (PathGrammar.IsPlainPath.group {y = y} e h1 h2 h3) = op-Path-Group x _ y e h2 (plain_op y h3)

path_op : (I : TypeTree → Type 0) → ((x : TypeTree) → I x → OpType x) → (x : Path) → IsPath I x → OpPath x
path_op I hi x (PathGrammar.IsPath.plain e h1) = op-Path-Plain x _ e
path_op I hi x (PathGrammar.IsPath.qualified {q = q} e h1 h2 h3 h4 h5 h6 h7) = op-Path-Qualified x q e (op-Qualified q (hi (out-Qualified q).self_type h2) (plain_op (out-Qualified q).of_trait h4))
path_op I hi x (PathGrammar.IsPath.group {y = y} e h1 h2 h3) = op-Path-Group x _ y e h2 (path_op I hi y h3)

module _ (I D : Bool → TypeTree → Type 0) (hi : (o : Bool) (x : TypeTree) → I o x → OpType x) (hd : (o : Bool) (x : TypeTree) → D o x → OpType x) where
  output_op : (owes : Bool) (x : Output) → IsOutput I D owes x → Op (output_parts one inside opened x) (output_parts piece whole as_it_is x)
  output_op owes x (PathGrammar.IsOutput.nothing e h1) = op-Output-Unit x e
  output_op owes x (PathGrammar.IsOutput.type {x = y} e h1 h2) = op-Output-Type x _ y e (hi owes y h2)

  call_op : (owes : Bool) (b : Bound) (path : Path) (opening : Token) (inputs : List (Listed TypeTree)) (closing : Token) (output : Output) → out-Bound b ≡ Bound-F.Call path opening inputs closing output
      → IsCallBound I D owes path opening inputs closing output → Op (bound_parts one inside opened b) (bound_parts piece whole as_it_is b)
  call_op owes b path opening inputs closing output e h =
      op-Bound-Call b path opening inputs closing output e (path_op (I false) (hi false) path h.is_path)
      (op_commas (I false) (type_tree_parts one inside opened) (type_tree_parts piece whole as_it_is) (hi false) inputs h.inside) (output_op owes output h.result)

  bound_op : (owes : Bool) (b : Bound) → IsBound I D owes b → Op (bound_parts one inside opened b) (bound_parts piece whole as_it_is b)
  bound_op owes b (PathGrammar.IsBound.path {x = y} e h1 h2) = op-Bound-Path b y e (path_op (I false) (hi false) y h1)
  bound_op owes b (PathGrammar.IsBound.call e h) = call_op owes b _ _ _ _ _ e h

  closes_op : (owes : Bool) (closing : Option Token) (x : TypeTree) → Closes I D owes closing x → OpType x
  closes_op owes closing x (PathGrammar.Closes.alone h1 h2 h3 h4) = hi false x h3
  closes_op owes closing x (PathGrammar.Closes.with_inner h1 h2 h3 h4) = hi true x h3
  closes_op owes closing x (PathGrammar.Closes.by_outer h1 h2 h3) = hi false x h2

  type_op : (owes : Bool) (x : TypeTree) → TypeNode I D owes x → OpType x
  type_op owes x (PathGrammar.TypeNode.path {y = y} e h1) = op-TypeTree-Path x y e (path_op (I false) (hi false) y h1)
  type_op owes x (PathGrammar.TypeNode.boxed {y = y} e h1 h2 h3 h4) = op-TypeTree-Boxed x _ _ y _ e (closes_op owes _ y h4)
  type_op owes x (PathGrammar.TypeNode.ref {y = y} e h1 h2 h3) = op-TypeTree-Ref x _ _ y e (hi owes y h3)
  type_op owes x (PathGrammar.TypeNode.ref_ref {y = y} e h1 h2 h3) = op-TypeTree-RefRef x _ _ y e (hd owes y h3)
  type_op owes x (PathGrammar.TypeNode.array {y = y} {length = length} e h1 h2 h3 h4 h5) = op-TypeTree-Array x _ y _ length _ e (hi false y h2) (int_op length h4)
  type_op owes x (PathGrammar.TypeNode.slice {y = y} e h1 h2 h3) = op-TypeTree-Slice x _ y _ e (hi false y h2)
  type_op owes x (PathGrammar.TypeNode.unit e h1 h2) = op-TypeTree-Unit x _ _ e
  type_op owes x (PathGrammar.TypeNode.dyn {b = b} e h1 h2) = op-TypeTree-Dyn x _ b e (bound_op owes b h2)
  type_op owes x (PathGrammar.TypeNode.bare {b = b} e h1 h2 h3 h4) = op-TypeTree-Bare x b e (call_op owes b _ _ _ _ _ h1 h2)
  type_op owes x (PathGrammar.TypeNode.group {y = y} e h1 h2 h3) = op-TypeTree-Group x _ y e h2 (type_op false y h3)

pub type_is : (depth : ℕ) (owes : Bool) (x : TypeTree) → IsType depth owes x → OpType x
unfolding IsType
type_is zero owes x h = elim h [ ]
type_is (suc zero) owes x h = type_op (λ o y. ⊥) (λ o y. ⊥) (λ o y k. elim k [ ]) (λ o y k. elim k [ ]) owes x h
type_is (suc (suc depth)) owes x h = type_op (IsType (suc depth)) (IsType depth) (type_is (suc depth)) (type_is depth) owes x h

pub path_is : (depth : ℕ) (x : Path) → PathWithin depth x → OpPath x
path_is depth x h = path_op (TypeWithin depth) (type_is depth false) x h

pub output_is : (depth : ℕ) (x : Output) → OutputWithin depth x → Op (output_parts one inside opened x) (output_parts piece whole as_it_is x)
unfolding OutputWithin
output_is zero x h = output_op (λ o y. ⊥) (λ o y. ⊥) (λ o y k. elim k [ ]) (λ o y k. elim k [ ]) false x h
output_is (suc depth) x h = output_op (IsType (suc depth)) (IsType depth) (type_is (suc depth)) (type_is depth) false x h

-- ---- patterns

abbrev OpPat : Pat → Type 0
OpPat x = Op (pat_parts one inside opened x) (pat_parts piece whole as_it_is x)

module _ (I : Pat → Type 0) (P : Path → Type 0) (hi : (x : Pat) → I x → OpPat x) (hp : (x : Path) → P x → OpPath x) where
  field_op : (x : FieldPat Pat) → IsField I P x → Op (field_pat_parts one inside opened (pat_parts one inside opened) x) (field_pat_parts piece whole as_it_is (pat_parts piece whole as_it_is) x)
  field_op (field.Full name colon y) h =
      op2 (one name) (one colon ++ pat_parts one inside opened y) (piece name) (piece colon ++ pat_parts piece whole as_it_is y) (op_tok name)
      (op2 (one colon) (pat_parts one inside opened y) (piece colon) (pat_parts piece whole as_it_is y) (op_tok colon) (hi y h.2))
  field_op (field.Short word_ref word_mut name) h =
      op2 (maybe one word_ref) (maybe one word_mut ++ one name) (maybe piece word_ref) (maybe piece word_mut ++ piece name) (op_maybe_tok word_ref)
      (op2 (maybe one word_mut) (one name) (maybe piece word_mut) (piece name) (op_maybe_tok word_mut) (op_tok name))

  pat_op : (x : Pat) → PatNode I P x → OpPat x
  pat_op x (PatGrammar.PatNode.wild e h1) = op-Pat-Wild x _ e
  pat_op x (PatGrammar.PatNode.name e h1 h2 h3) = op-Pat-Name x _ _ _ e
  pat_op x (PatGrammar.PatNode.literal {l = l} e h1) = op-Pat-Literal x l e (literal_op true l h1)
  pat_op x (PatGrammar.PatNode.range {start = start} {end = end} e h1 h2 h3) = op-Pat-Range x start _ end e (literal_op true start h1) (literal_op true end h3)
  pat_op x (PatGrammar.PatNode.path {y = y} e h1 h2) = op-Pat-Path x y e (hp y h1)
  pat_op x (PatGrammar.PatNode.tuple {y = y} {fields = fields} e h1 h2 h3 h4) =
      op-Pat-Tuple x y _ fields _ e (hp y h1) (op_commas I (pat_parts one inside opened) (pat_parts piece whole as_it_is) hi fields h3)
  pat_op x (PatGrammar.PatNode.struct {y = y} {fields = fields} e h1 h2 h3 h4 h5) =
      op-Pat-Struct x y _ fields _ _ e (hp y h1)
      (op_commas (IsField I P) (field_pat_parts one inside opened (pat_parts one inside opened)) (field_pat_parts piece whole as_it_is (pat_parts piece whole as_it_is)) field_op fields h3)
  pat_op x (PatGrammar.PatNode.group {y = y} e h1 h2 h3) = op-Pat-Group x _ y e h2 (pat_op y h3)

pub pat_is : (depth : ℕ) (x : Pat) → IsPat depth x → OpPat x
unfolding IsPat
pat_is zero x h = elim h [ ]
pat_is (suc depth) x h = pat_op (IsPat depth) (PathWithin depth) (pat_is depth) (path_is depth) x h

alternative_op : (x : Alternative) → OpPat x.pat → Op (alternative_parts one inside opened x) (alternative_parts piece whole as_it_is x)
alternative_op x h = op2 (maybe one x.bar) (pat_parts one inside opened x.pat) (maybe piece x.bar) (pat_parts piece whole as_it_is x.pat) (op_maybe_tok x.bar) h

alternatives_op : (depth : ℕ) (xs : List Alternative) → Alternatives depth xs → Op (each (alternative_parts one inside opened) xs) (each (alternative_parts piece whole as_it_is) xs)
alternatives_op depth [] h = elim h [ ]
alternatives_op depth (x ∷ xs) h =
    op2 (alternative_parts one inside opened x) (each (alternative_parts one inside opened) xs) (alternative_parts piece whole as_it_is x) (each (alternative_parts piece whole as_it_is) xs)
    (alternative_op x (pat_is depth x.pat h.1))
    (op_each (λ a. ((t : Token) × (a.bar ≡ Some t) × Is (codes "|") t) × IsPat depth a.pat) (alternative_parts one inside opened) (alternative_parts piece whole as_it_is) (λ a k. alternative_op a (pat_is depth a.pat k.1)) xs h.2)

pub top_is : (depth : ℕ) (x : TopPat) → IsTopPat depth x → Op (top_pat_parts one inside opened x) (top_pat_parts piece whole as_it_is x)
top_is depth x (PatGrammar.IsTopPat.alternatives {list = list} e h1) = op-TopPat-Alternatives x list e (alternatives_op depth list h1)
top_is depth x (PatGrammar.IsTopPat.group {y = y} e h1 h2 h3 h4) = op-TopPat-Group x _ y e h3 (top_is depth y h4)
