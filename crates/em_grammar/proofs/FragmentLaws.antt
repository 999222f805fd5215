-- Laws of fragments of macros.
use Rattle.std.proofs.Common.{◌≡◌, ℕ, Bool, true, false, refl, arith, inl}
use Rattle.em_tree.specs.declared.expr.Expr.{Expr}
use Rattle.em_tree.specs.declared.expr.Stmt.{out-Stmt}
use Rattle.em_tree.specs.ExprShape.{ends_open, ends_bare}
use Rattle.em_tree.specs.ExprGrammar.{ExprWithin, expr_pieces}
use Rattle.em_grammar.specs.Sets.{Nested, anything}
use Rattle.em_grammar.specs.ExprSets.{Anywhere, end_clear, expr_first, level_clear, block_first}
use Rattle.em_grammar.specs.StmtReader.{stmt_first, stmt_clear}
use Rattle.em_grammar.specs.ExprKnot.{expr_in}
use Rattle.em_grammar.specs.ItemReader.{item_start}
use Rattle.em_grammar.specs.FragmentReader.{Grounds}
use Rattle.em_grammar.specs.FragmentLaws.{readers, PrefixesExact}
use Rattle.em_grammar.specs.Pairs.{Pair}
use Rattle.em_grammar.proofs.Forms.{same_of}
use Rattle.em_grammar.proofs.RowPairs.{core_last}
use Rattle.em_grammar.proofs.FirmKnot.{exprs_firm, stmts_firm, blocks_steady}
use Rattle.em_grammar.proofs.ExprKnot.{exprs_read}
use Rattle.em_grammar.proofs.ExprLaws.{the_stmts, the_blocks}
use Rattle.em_grammar.proofs.FragmentPairs.{fragments_read}
use Rattle.em_grammar.proofs.ItemLaws.{all_items_read, all_items_steady}

no_end : (a b : Bool) → (end_clear a b 0 false).end ≡ true
no_end true true = refl
no_end true false = refl
no_end false b = refl

exprs_at : (n depth : ℕ) → Pair (Nested n) depth ExprWithin expr_pieces (expr_in n depth Anywhere 0 false) expr_first (level_clear Anywhere 0 false)
exprs_at n depth = same_of (λ d x m. m.0) (λ d x m. (m, inl (omega arith), refl)) (exprs_read n depth Anywhere 0 false (omega arith))

grounds : Grounds readers
grounds = record {
  exprs = record {
    first = expr_first;
    clear = level_clear Anywhere 0 false;
    reads = exprs_at;
    ends = λ d x m. no_end (ends_open x) (ends_bare x);
    steady = λ n m d e h k. exprs_firm n m d e h k Anywhere 0 false (omega arith);
  };
  stmts = record { first = stmt_first; clear = stmt_clear; reads = the_stmts; ends = λ d y m. core_last (out-Stmt y); steady = stmts_firm };
  blocks = record { first = block_first; clear = λ _. anything; reads = the_blocks; ends = λ d b m. refl; steady = blocks_steady };
  items = record { first = item_start; clear = λ _. anything; reads = all_items_read; ends = λ d x m. refl; steady = all_items_steady };
}

pub prefixes_exact : PrefixesExact
prefixes_exact = fragments_read readers grounds
