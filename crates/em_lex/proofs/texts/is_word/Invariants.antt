use Rattle.std.proofs.Common.{◌≡◌, take}
use Rattle.em_lex.proofs.texts.is_word.Given as goal

abbrev pub invariant-chars : goal.invariant-chars
invariant-chars l = take l.at l.word ≡ take l.at l.other
