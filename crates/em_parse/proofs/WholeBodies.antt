-- Bodies that are all of the pieces.
use Rattle.std.proofs.lemmas.List.{append-nil}
use Rattle.std.proofs.Common.{◌≡◌, ◌≤◌, [], ◌++◌, ap, ◌∙◌}
use Rattle.em_tree.specs.declared.expr.Body.{Body}
use Rattle.em_tree.specs.Starts.{Pieces}
use Rattle.em_tree.specs.ExprGrammar.{body_pieces}
use Rattle.em_tree.specs.Nesting.{body_nesting}
use Rattle.em_grammar.specs.Reader.{Found}
use Rattle.em_grammar.specs.ExprKnot.{body_in}
use Rattle.em_grammar.specs.ExprLaws.{BodiesFound}
use Rattle.em_grammar.specs.NestLaws.{BodiesNest}
use Rattle.em_parse.specs.Calls.{most, IsWholeBody}
use Rattle.em_parse.proofs.Limit.{not_too_deep}

pub whole : BodiesFound → BodiesNest → (i : Pieces) (x : Body) (r : Pieces) → body_in most most i ≡ Found x r → body_nesting x ≤ most → r ≡ [] → IsWholeBody i x
whole found nest i x r is fits none =
    let h = found most most i x r is in
    record {
      within = (nest h.0.0 most x h.0.1).1 fits;
      yields = h.1 ∙ ap (λ k. body_pieces x ++ k) none ∙ append-nil (body_pieces x);
      shallow = λ deep. not_too_deep body_nesting (body_in most most i) x r is fits deep;
    }
