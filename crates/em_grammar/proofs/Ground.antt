-- What is known of the readers inside an expression.
use Rattle.std.proofs.Common.{ℕ, ◌≤◌, Bool, true, false}
use Rattle.em_tree.specs.Starts.{Pieces}
use Rattle.em_tree.specs.PatGrammar.{IsPat, IsTopPat, pat_pieces, top_pieces}
use Rattle.em_tree.specs.PathGrammar.{IsLiteral, IsIntLiteral, PathWithin, TypeWithin, literal_pieces, path_pieces, type_pieces}
use Rattle.em_tree.specs.ExprGrammar.{IsExpr, IsBlock, expr_pieces, block_pieces}
use Rattle.em_grammar.specs.Sets.{anything, int_sort}
use Rattle.em_grammar.specs.Pairs.{Pair}
use Rattle.em_grammar.specs.LiteralReader.{unsigned_first}
use Rattle.em_grammar.specs.PathReader.{path_first, path_clear}
use Rattle.em_grammar.specs.TypeReader.{type_first, type_clear}
use Rattle.em_grammar.specs.ExprSets.{Start, expr_first, level_clear, block_first, pat_start, pat_follow, top_start, top_follow}
use Rattle.em_grammar.specs.ExprReader.{Readers}
use Rattle.em_grammar.specs.ExprLang.{Operand, Node, deeper}
use Rattle.em_grammar.proofs.Forms.{Opened}

pub record Ground (H : Pieces → Type 0) (depth : ℕ) (s : Readers) : Type 0 where
  pub inner : (start : Start) (least : ℕ) (h : Bool) → least ≤ 13 → Pair H depth (Operand start least h) expr_pieces (s.inner start least h) expr_first (level_clear start least h)
  pub int : Pair H depth (λ d. IsIntLiteral) literal_pieces s.int (unsigned_first int_sort) (λ _. anything)
  pub path : Pair H depth PathWithin path_pieces s.path path_first (λ _. path_clear)
  pub ty : Pair H depth TypeWithin type_pieces s.ty type_first (λ _. type_clear)
  pub pat : Pair H depth IsPat pat_pieces s.pat pat_start (λ _. pat_follow)
  pub top : Pair H depth IsTopPat top_pieces s.top top_start (λ _. top_follow)
  pub block : Pair H depth (λ d b. IsBlock d (IsExpr d) (deeper d) b) block_pieces s.block block_first (λ _. anything)
  pub signed : Opened H depth (λ d. IsLiteral true) literal_pieces s.signed
  pub opened : Opened H depth (λ d x. Node d false x) expr_pieces s.opened
