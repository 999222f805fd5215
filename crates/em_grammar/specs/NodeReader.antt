-- How an expression is read: a form that it may begin with, and what goes on with it.
use Rattle.std.specs.Prelude.{ℕ, Bool}
use Rattle.em_tree.specs.declared.expr.Expr.{Expr}
use Rattle.em_tree.specs.declared.expr.Expr.TheVariants as made
use Rattle.em_tree.specs.Starts.{Pieces}
use Rattle.em_grammar.specs.declared.sort.Written.TheVariants as word
use Rattle.em_grammar.specs.Sorts.{sort_of}
use Rattle.em_grammar.specs.Sets.{Set, tokens, only, is_sign, any_of, literal_sort, either}
use Rattle.em_grammar.specs.Reader.{Read, token, mapped, choice}
use Rattle.em_grammar.specs.Levels.{level}
use Rattle.em_grammar.specs.PathReader.{path_first}
use Rattle.em_grammar.specs.ExprSets.{Start, block_first, on}
use Rattle.em_grammar.specs.ExprReader.{Readers, apply, suffix}
use Rattle.em_grammar.specs.PrefixReader.{path_form, paren, bracket, closure, return, unaries, unary, ref, ref_ref, operand_group}
use Rattle.em_grammar.specs.BranchReader.{if', match', while', loop', for'}

abbrev pub closure_first : Set
closure_first = either (tokens (only word.Move)) (either (tokens (only word.OrOr)) (tokens (only word.Or)))

module _ (s : Readers) (h : Bool) where
  -- by the first piece
  unfoldable pub prefix : Pieces → Read Expr
  prefix i =
      choice (tokens literal_sort) (mapped made.Literal (token (λ t. literal_sort (sort_of t))))
      (choice path_first (path_form s h)
      (choice (tokens (only word.OpenParen)) (paren s)
      (choice (tokens (only word.OpenBracket)) (bracket s)
      (choice block_first (mapped made.Block s.block)
      (choice (tokens (only word.If)) (if' s)
      (choice (tokens (only word.Match)) (match' s)
      (choice (tokens (only word.While)) (while' s)
      (choice (tokens (only word.Loop)) (loop' s)
      (choice (tokens (only word.For)) (for' s)
      (choice closure_first (closure s h)
      (choice (tokens (only word.Return)) (return s h)
      (choice (tokens (only word.Break)) (mapped made.Break (token (is_sign word.Break)))
      (choice (tokens (only word.Continue)) (mapped made.Continue (token (is_sign word.Continue)))
      (choice (tokens (λ k. any_of unaries k)) (unary s h)
      (choice (tokens (only word.And)) (ref s h)
      (choice (tokens (only word.AndAnd)) (ref_ref s h)
      (operand_group s))))))))))))))))) i

-- an expression of one node more than the readers inside read, of which a chain from the left has no more than so many turns
unfoldable pub expr_node : Readers → ℕ → Start → ℕ → Bool → Pieces → Read Expr
expr_node s turns start least h i = level (on start least) (suffix s h) apply turns (prefix s h) i
