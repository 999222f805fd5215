-- Laws of the grammar.
use Rattle.std.proofs.Common.{zero, suc, refl}
use Rattle.em_tree.specs.ExprGrammar.{BlockWithin, BodyWithin}
use Rattle.em_tree.specs.Starts.{starts, starts_token}
use Rattle.em_tree.specs.Laws.{EmptyFile, WordIsFragment, BlockHasBody}

pub empty_file_is_one : EmptyFile
empty_file_is_one depth = ((tt, tt), refl)

pub word_is_fragment : WordIsFragment
unfolding starts starts_token
word_is_fragment edition depth t rest h = record { reads = record { starts = h; yields = refl; tree = h }; stays = λ e. (cc) }

pub block_has_body : BlockHasBody
unfolding BlockWithin BodyWithin
block_has_body zero b h = h.body
block_has_body (suc depth) b h = h.body
