-- The forms that an expression may begin with, together.
use Rattle.std.proofs.Common.{ℕ, Bool, refl}
use Rattle.em_tree.specs.Starts.{Pieces}
use Rattle.em_tree.specs.ExprGrammar.{expr_pieces}
use Rattle.em_grammar.specs.Pairs.{Pair}
use Rattle.em_grammar.specs.ExprSets.{expr_first, prefix_clear}
use Rattle.em_grammar.specs.ExprReader.{Readers}
use Rattle.em_grammar.specs.NodeReader.{prefix}
use Rattle.em_grammar.specs.ExprParts.{Prefix}
use Rattle.em_grammar.proofs.Forms.{or_of, same_of}
use Rattle.em_grammar.proofs.Chains.{first_in}
use Rattle.em_grammar.proofs.Ground.{Ground}
use Rattle.em_grammar.proofs.PrefixPairs.{literal_pair, path_pair, paren_pair, bracket_pair, block_pair, closure_pair, return_pair, break_pair, continue_pair, unary_pair, ref_pair, ref_ref_pair, group_pair}
use Rattle.em_grammar.proofs.BranchPairs.{if_pair, match_pair, while_pair, loop_pair, for_pair}
use Rattle.em_grammar.proofs.ExprNodes.{to_prefix, of_prefix}

pub prefix_pair : (H : Pieces → Type 0) (depth : ℕ) (s : Readers) (a : Ground H depth s) (h : Bool) → Pair H depth (Prefix h) expr_pieces (prefix s h) expr_first (prefix_clear h)
unfolding prefix
prefix_pair H depth s a h =
    first_in refl
    (same_of (to_prefix h) (λ d x m. of_prefix h d x m.0 m.1)
    (or_of (literal_pair H depth s a h) (or_of (path_pair H depth s a h) (or_of (paren_pair H depth s a h) (or_of (bracket_pair H depth s a h) (or_of (block_pair H depth s a h)
    (or_of (if_pair H depth s a h) (or_of (match_pair H depth s a h) (or_of (while_pair H depth s a h) (or_of (loop_pair H depth s a h) (or_of (for_pair H depth s a h)
    (or_of (closure_pair H depth s a h) (or_of (return_pair H depth s a h) (or_of (break_pair H depth s a h) (or_of (continue_pair H depth s a h) (or_of (unary_pair H depth s a h)
    (or_of (ref_pair H depth s a h) (or_of (ref_ref_pair H depth s a h) (group_pair H depth s a h)
    refl) refl) refl) refl) refl) refl) refl) refl) refl) refl) refl) refl) refl) refl) refl) refl) refl))
