use Rattle.std.proofs.Common.{sym, ◌∙◌, subst, ℕ, List, ◌<◌}
use Rattle.std.specs.Prelude.{All}
use Rattle.em_lex.proofs.ReadOn.{read_small}
use Rattle.em_lex.proofs.literal.literal_step.Goals as goal

pub literal_kind-requires : goal.literal_kind-requires
literal_kind-requires c =
    λ b. subst (λ (v : List ℕ). All (λ x. x < 256) v) (sym (c.deref.ensures.value ∙ c.in_ok-reading.ensures.value)) (read_small c.args.byte c.args.form c.front-body.result.now b)
