use Rattle.em_parse.proofs.laws.readings.Goals as goal

pub returns : goal.returns
returns c = record {
  texts = c.macro_text.ensures;
  literals = c.literals.ensures.read;
  types = c.types.ensures.read;
  paths = c.paths.ensures.read;
  pats = c.pats.ensures.read;
  tops = c.top_pats.ensures.read;
  exprs = c.exprs.ensures.read;
  stmts = c.stmts.ensures.read;
  blocks = c.blocks-2.ensures.read;
  items = c.items.ensures.read;
}
