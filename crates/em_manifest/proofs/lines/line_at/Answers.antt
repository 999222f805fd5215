use Rattle.std.proofs.Common.{◌≡◌, ◌==◌, ◌-◌, ◌<◌, ◌∙◌, length, drop, take, sym, ap, arith}
use Rattle.std.specs.List.{position_or_len}
use Rattle.em_manifest.proofs.LineLemmas.{is_last, is_first}
use Rattle.em_manifest.specs.Places.{ends_return}
use Rattle.em_manifest.proofs.lines.line_at.Goals as goal

pub returns-then-size-rest : goal.returns-then-size-rest
returns-then-size-rest c =
    let whole = ap (position_or_len (λ b. b == 10)) (sym c.rest_from-rest.ensures) ∙ sym c.before_line_feed-size.ensures.value ∙ c.if-size-rest.true ∙ ap length c.rest_from-rest.ensures in
    is_last c.args.bytes.now c.args.start c.requires whole

pub returns : goal.returns
returns c =
    let size = c.before_line_feed-size.result in
    let place = c.before_line_feed-size.ensures.value ∙ ap (position_or_len (λ b. b == 10)) c.rest_from-rest.ensures in
    let within : size < length (drop c.args.start c.args.bytes.now) = omega (arith, ap length c.rest_from-rest.ensures) in
    let all : size - 0 ≡ size = omega arith in
    let front = c.between.ensures ∙ ap (λ n. take n c.rest_from-rest.result.now) all ∙ ap (take size) c.rest_from-rest.ensures in
    is_first c.args.bytes.now c.args.start size c.returns_at_end-returns.result c.requires place within (c.returns_at_end-returns.ensures ∙ ap ends_return front)
