use Rattle.em_grammar.proofs.NestTypes.{path_low_at, path_within_at, type_low, type_within, pat_low, pat_within, top_low, top_within}
use Rattle.em_grammar.proofs.nest_laws.types_nest.Goals as goal

pub returns : goal.returns
returns c = record {
  paths = λ e d x m. (path_low_at d x, path_within_at e d x m);
  types = λ o e d x m. (type_low d o x, type_within e d o x m);
  pats = λ e d x m. (pat_low d x, pat_within e d x m);
  top_pats = λ e d x m. (top_low d x, top_within e d x m);
}
