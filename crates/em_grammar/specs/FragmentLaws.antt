-- Fragments of macros, with the readers of expressions, statements, blocks and items.
use Rattle.std.specs.Prelude.{ℕ, false}
use Rattle.em_base.specs.declared.edition.Edition.{Edition}
use Rattle.em_tree.specs.declared.fragment.FragmentNode.{FragmentNode}
use Rattle.em_tree.specs.declared.piece.FragmentKind.{FragmentKind}
use Rattle.em_tree.specs.Starts.{Pieces}
use Rattle.em_grammar.specs.Reader.{Read}
use Rattle.em_grammar.specs.ExprSets.{Anywhere}
use Rattle.em_grammar.specs.ExprKnot.{expr_in, stmt_in, block_in}
use Rattle.em_grammar.specs.ItemReader.{item_in}
use Rattle.em_grammar.specs.FragmentReader.{Inner, fragment_in, FragmentsExact}

abbrev pub readers : Inner
readers = record { exprs = λ n depth. expr_in n depth Anywhere 0 false; stmts = stmt_in; blocks = block_in; items = item_in }

-- a fragment of the kind, whose word is of the edition, with groups in one another and nodes in one another up to these numbers
abbrev pub prefix_in : FragmentKind → Edition → ℕ → ℕ → Pieces → Read FragmentNode
prefix_in = fragment_in readers

-- the longest prefix of each kind is read
abbrev pub PrefixesExact : Type 0
PrefixesExact = (kind : FragmentKind) (e : Edition) → FragmentsExact kind e (prefix_in kind e)
