use Rattle.std.proofs.Common.{◌≡◌, sym, ◌∙◌}
use Rattle.std.specs.Prelude.{chars}
use Rattle.std.proofs.lemmas.Str.{chars_from_encodes}
use Rattle.em_lex.proofs.texts.name_of.Goals as goal

pub returns : goal.returns
returns c =
    let e : chars c.as_str.result.now ≡ c.args.word.now = sym (chars_from_encodes c.args.word.now c.as_str.result.now c.as_str.utf8 (sym (c.as_str.ensures.value ∙ c.in_ok-text.ensures))) in
    rw e at c.normal.ensures
