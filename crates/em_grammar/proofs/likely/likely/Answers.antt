use Rattle.std.proofs.Common.{◌≡◌, true, false, get_or, ap, sym, ◌∙◌, ◌%◌, Some}
use Rattle.em_grammar.specs.declared.sort.Written.TheVariants as w
use Rattle.em_grammar.specs.declared.likely.TheConstants.{LIKELY, NUMBERS}
use Rattle.em_grammar.specs.Likely.{number_of}
use Rattle.em_grammar.proofs.LikelyWords.{is_found, is_short, has_number}
use Rattle.em_grammar.proofs.likely.likely.Goals as goal

no : false ≡ true → ⊥
no h = cc

pub returns-then-not-is_short : goal.returns-then-not-is_short
returns-then-not-is_short c = λ x h. absurd (no (sym c.if-not-is_short.true ∙ c.is_short.ensures.1 (is_short c.args.text.now x h)))

pub returns-then-number : goal.returns-then-number
returns-then-number c = λ x h.
    ap (λ n. Some (get_or LIKELY (n % 256) w.Not)) (c.number_of-number.ensures.is ∙ ap number_of c.as_bytes.ensures.value)
    ∙ ap (λ y. Some y) (is_found c.args.text.now x h)

pub returns-else-number : goal.returns-else-number
returns-else-number c = λ x h.
    let is = c.number_of-number.ensures.is ∙ ap number_of c.as_bytes.ensures.value in
    absurd (c.if-number.false (ap (λ n. get_or NUMBERS (n % 256) 0) is ∙ has_number c.args.text.now x h ∙ sym is))
