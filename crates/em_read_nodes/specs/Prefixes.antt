-- The forms that an expression may begin with, in groups: each goes on with the next one.
use Rattle.std.specs.Prelude.{Bool}
use Rattle.em_tree.specs.declared.expr.Expr.{Expr}
use Rattle.em_tree.specs.declared.expr.Expr.TheVariants as made
use Rattle.em_tree.specs.Starts.{Pieces}
use Rattle.em_grammar.specs.declared.sort.Written.TheVariants as word
use Rattle.em_grammar.specs.Sets.{tokens, only, is_sign, any_of}
use Rattle.em_grammar.specs.Reader.{Read, token, mapped, choice}
use Rattle.em_grammar.specs.NodeReader.{closure_first}
use Rattle.em_grammar.specs.ExprReader.{Readers}
use Rattle.em_grammar.specs.PrefixReader.{closure, return, unaries, unary, ref, ref_ref, operand_group}
use Rattle.em_grammar.specs.BranchReader.{if', match', while', loop', for'}

module _ (s : Readers) (h : Bool) where
  -- what an operator stands before, and fragments
  abbrev pub operand_form : Pieces → Read Expr
  operand_form =
      choice (tokens (λ k. any_of unaries k)) (unary s h)
      (choice (tokens (only word.And)) (ref s h)
      (choice (tokens (only word.AndAnd)) (ref_ref s h)
      (operand_group s)))

  -- closures, and what leaves a function or a loop
  abbrev pub jump_form : Pieces → Read Expr
  jump_form =
      choice closure_first (closure s h)
      (choice (tokens (only word.Return)) (return s h)
      (choice (tokens (only word.Break)) (mapped made.Break (token (is_sign word.Break)))
      (choice (tokens (only word.Continue)) (mapped made.Continue (token (is_sign word.Continue)))
      operand_form)))

  -- what branches or repeats
  abbrev pub branch_form : Pieces → Read Expr
  branch_form =
      choice (tokens (only word.If)) (if' s)
      (choice (tokens (only word.Match)) (match' s)
      (choice (tokens (only word.While)) (while' s)
      (choice (tokens (only word.Loop)) (loop' s)
      (choice (tokens (only word.For)) (for' s)
      jump_form))))
