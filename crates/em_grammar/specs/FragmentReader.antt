-- How fragments of macros are read, over readers of expressions, statements, blocks and items.
use Rattle.std.specs.Prelude.{◌≡◌, ◌≤◌, ℕ, Bool, true, false, not, ◌&&◌, if◌then◌else◌, List, [], ◌∷◌, ◌++◌, length, Option, Some, None}
use Rattle.em_base.specs.declared.edition.Edition.{Edition}
use Rattle.em_base.specs.declared.edition.Edition.TheVariants.{E2015, E2018, E2021}
use Rattle.em_base.specs.declared.token.Token.{Token}
use Rattle.em_tree.specs.declared.expr.Block.{Block}
use Rattle.em_tree.specs.declared.expr.Body.{Body}
use Rattle.em_tree.specs.declared.expr.Expr.{Expr}
use Rattle.em_tree.specs.declared.expr.Stmt.{Stmt}
use Rattle.em_tree.specs.declared.fragment.FragmentNode.{FragmentNode}
use Rattle.em_tree.specs.declared.fragment.FragmentNode.TheVariants as node
use Rattle.em_tree.specs.declared.fragment.TokenTree.{TokenTree}
use Rattle.em_tree.specs.declared.fragment.TokenTree.TheVariants as tree
use Rattle.em_tree.specs.declared.item.Item.{Item}
use Rattle.em_tree.specs.declared.pat.Pat.{Pat}
use Rattle.em_tree.specs.declared.pat.TopPat.{TopPat}
use Rattle.em_tree.specs.declared.pat.TopPat.TheVariants as top
use Rattle.em_tree.specs.declared.piece.FragmentKind.{FragmentKind}
use Rattle.em_tree.specs.declared.piece.FragmentKind.TheVariants as f
use Rattle.em_tree.specs.declared.piece.Group.{Group}
use Rattle.em_tree.specs.declared.piece.Piece.{Piece}
use Rattle.em_tree.specs.declared.piece.Piece.TheVariants as p
use Rattle.em_tree.specs.declared.types.TypeTree.{TypeTree}
use Rattle.em_tree.specs.Starts.{Pieces, is_word, is_spelled, starts}
use Rattle.em_tree.specs.Tokens.{delimiters}
use Rattle.em_tree.specs.PathGrammar.{type_pieces}
use Rattle.em_tree.specs.ExprGrammar.{ExprWithin, BlockWithin, IsFragmentStmt, expr_pieces, stmt_pieces, block_pieces}
use Rattle.em_tree.specs.ItemGrammar.{IsItem, item_pieces}
use Rattle.em_tree.specs.FragmentGrammar.{IsPrefix, kind_of_node, ends_in_dyn, makes_keyword}
use Rattle.em_grammar.specs.Sets.{Set, tokens}
use Rattle.em_grammar.specs.Reader.{Read, Found, Absent, Deep, and_then, token, mapped, or_else}
use Rattle.em_grammar.specs.LiteralReader.{literal_in}
use Rattle.em_grammar.specs.TypeReader.{path_in, plain_type_in}
use Rattle.em_grammar.specs.PatReader.{pat_in, top_pat_in}
use Rattle.em_grammar.specs.TextReader.{delimited}
use Rattle.em_grammar.specs.Pairs.{Known}

-- a fragment as it is
abbrev pub whole_group : Pieces → Read Group
whole_group [] = Absent
whole_group (p.Token t ∷ r) = Absent
whole_group (p.Group g ∷ r) = Found g r

-- a token tree
abbrev pub token_tree : Pieces → Read TokenTree
token_tree = or_else (mapped tree.Token (token (λ t. not (is_spelled delimiters t)))) (or_else (mapped tree.Group whole_group) (mapped tree.Delimited delimited))

-- a pattern without alternatives, as one with them
abbrev pub single : Pat → TopPat
single x = top.Alternatives (record { bar = None; pat = x } ∷ [])

-- a type behind which no `dyn` at its end becomes the keyword
abbrev pub staying : Read TypeTree → Read TypeTree
staying (Found x r) = if ends_in_dyn (type_pieces x) && makes_keyword r then Absent else Found x r
staying Absent = Absent
staying Deep = Deep

-- the readers of what this rests on, for each number of groups in one another and of nodes in one another
pub record Inner : Type 0 where
  pub exprs : ℕ → ℕ → Pieces → Read Expr
  pub stmts : ℕ → ℕ → Pieces → Read Stmt
  pub blocks : ℕ → ℕ → Pieces → Read (Block Body)
  pub items : ℕ → ℕ → Pieces → Read Item

-- what is known of them
pub record Grounds (s : Inner) : Type 0 where
  pub exprs : Known ExprWithin expr_pieces s.exprs
  pub stmts : Known IsFragmentStmt stmt_pieces s.stmts
  pub blocks : Known BlockWithin block_pieces s.blocks
  pub items : Known IsItem item_pieces s.items

abbrev pub pat_fragment : Edition → ℕ → ℕ → Pieces → Read FragmentNode
pat_fragment E2021 n depth = mapped node.Pat (top_pat_in n depth)
pat_fragment _ n depth = mapped (λ x. node.Pat (single x)) (pat_in n depth)

module _ (s : Inner) where
  abbrev pub by_kind : FragmentKind → Edition → ℕ → ℕ → Pieces → Read FragmentNode
  by_kind f.Ident e n depth = mapped node.Ident (token is_word)
  by_kind f.Tt e n depth = mapped node.Tt token_tree
  by_kind f.Literal e n depth = mapped node.Literal (literal_in true n)
  by_kind f.Block e n depth = mapped node.Block (s.blocks n depth)
  by_kind f.Expr e n depth = mapped node.Expr (s.exprs n depth)
  by_kind f.Stmt e n depth = mapped node.Stmt (s.stmts n depth)
  by_kind f.Ty e n depth = mapped node.Ty (λ i. staying (plain_type_in n depth i))
  by_kind f.Path e n depth = mapped node.Path (path_in n depth)
  by_kind f.Pat e n depth = pat_fragment e n depth
  by_kind f.PatParam e n depth = mapped node.PatParam (pat_in n depth)
  by_kind f.Item e n depth = mapped node.Item (s.items n depth)

  -- a fragment of the kind, whose word is of the edition
  unfoldable pub fragment_in : FragmentKind → Edition → ℕ → ℕ → Pieces → Read FragmentNode
  fragment_in kind e n depth i = if starts kind e i then by_kind kind e n depth i else Absent

-- what is found is a prefix of the kind, and none is longer; where nothing is found there is none, however deep
pub record FragmentsExact (kind : FragmentKind) (e : Edition) (P : ℕ → ℕ → Pieces → Read FragmentNode) : Type 0 where
  pub found : (n depth : ℕ) (i : Pieces) (x : FragmentNode) (r : Pieces) → P n depth i ≡ Found x r
      → (d : ℕ) × (ys : Pieces) × (i ≡ ys ++ r) × (kind_of_node x ≡ kind) × IsPrefix e d ys r x
  pub longest : (n depth : ℕ) (i : Pieces) (x : FragmentNode) (r : Pieces) → P n depth i ≡ Found x r → (d : ℕ) (y : FragmentNode) (ys rest : Pieces) → i ≡ ys ++ rest
      → kind_of_node y ≡ kind → IsPrefix e d ys rest y → length r ≤ length rest
  pub none : (n depth : ℕ) (i : Pieces) → P n depth i ≡ Absent → (d : ℕ) (y : FragmentNode) (ys rest : Pieces) → i ≡ ys ++ rest → kind_of_node y ≡ kind → IsPrefix e d ys rest y → ⊥

abbrev pub FragmentsRead : Type 0
FragmentsRead = (s : Inner) → Grounds s → (kind : FragmentKind) (e : Edition) → FragmentsExact kind e (fragment_in s kind e)
