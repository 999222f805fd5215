use Rattle.std.proofs.Common.{subst, ap, ◌∙◌}
use Rattle.em_parse.specs.Calls.{of_tokens}
use Rattle.em_parse.specs.Parts.{ItemsStop}
use Rattle.em_parse.proofs.Places.{no_item, deep_item}
use Rattle.em_parse.proofs.calls.file_of.Goals as goal

pub returns-in-Err-Absent-clause-err : goal.returns-in-Err-Absent-clause-err
returns-in-Err-Absent-clause-err g c =
    no_item c.args.tokens.now.list c.in_ok-attributes.attributes c.as_slice-2.result.now c.attributes.new.input.rest.now c.items.new.input.rest.now c.offset_of.result
    (c.as_slice-2.ensures ∙ c.in_ok-pieces.ensures ∙ ap of_tokens c.as_slice.ensures) c.in_ok-attributes.ensures
    (subst (λ w. ItemsStop c.attributes.new.input.rest.now w c.items.new.input.rest.now) c.in-Err-Absent.field-0-is c.in-Err-Absent.ensures.err) c.offset_of.ensures

pub returns-clause-err : goal.returns-clause-err
returns-clause-err g c =
    deep_item c.args.tokens.now.list c.in_ok-attributes.attributes c.as_slice-2.result.now c.attributes.new.input.rest.now c.items.new.input.rest.now c.offset_of-in-Err-Deep.result
    (c.as_slice-2.ensures ∙ c.in_ok-pieces.ensures ∙ ap of_tokens c.as_slice.ensures) c.in_ok-attributes.ensures
    (subst (λ w. ItemsStop c.attributes.new.input.rest.now w c.items.new.input.rest.now) c.in-Err-Deep.field-0-is c.in-Err-Deep.ensures.err) c.offset_of-in-Err-Deep.ensures
