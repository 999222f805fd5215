use Rattle.std.proofs.Common.{◌≡◌, ap, sym, ◌∙◌, true, false, get_or, ◌%◌, ◌*◌, ◌+◌, ◌==◌}
use Rattle.em_grammar.specs.declared.likely.TheConstants.{KEYWORDS}
use Rattle.em_grammar.specs.Likely.{number_of, mark_of}
use Rattle.em_grammar.proofs.LikelyWords.{keyword_found, keyword_short}
use Rattle.em_grammar.proofs.likely.may_be_keyword.Goals as goal

no : false ≡ true → ⊥
no h = cc

pub returns-then-not-is_short : goal.returns-then-not-is_short
returns-then-not-is_short c = λ edition h. absurd (no (sym c.if-not-is_short.true ∙ c.is_short.ensures.1 (keyword_short edition c.args.text.now h)))

pub returns : goal.returns
unfolding mark_of
returns c = λ edition h.
    ap (λ t. get_or KEYWORDS (c.number_of-number.result % 284) 0 == c.number_of-number.result * 256 + t) (c.byte_at.ensures.is ∙ ap (λ t. get_or t 1 0) c.as_bytes-bytes.ensures.value)
    ∙ ap (λ n. get_or KEYWORDS (n % 284) 0 == n * 256 + get_or c.args.text.now 1 0) (c.number_of-number.ensures.is ∙ ap number_of c.as_bytes-bytes.ensures.value)
    ∙ keyword_found edition c.args.text.now h
