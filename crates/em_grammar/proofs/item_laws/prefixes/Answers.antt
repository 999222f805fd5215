use Rattle.em_grammar.proofs.FragmentLaws.{prefixes_exact}
use Rattle.em_grammar.proofs.item_laws.prefixes.Goals as goal

pub returns : goal.returns
returns c = record { exact = prefixes_exact }
