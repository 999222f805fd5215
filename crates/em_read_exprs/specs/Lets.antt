-- What stands behind the pattern of a `let` in Rust, as the grammar's readers find it.
use Rattle.em_base.specs.declared.token.Token.{Token}
use Rattle.em_tree.specs.declared.expr.Annotation.{Annotation}
use Rattle.em_tree.specs.declared.expr.Annotation.TheVariants as annotation
use Rattle.em_tree.specs.declared.expr.Expr.{Expr}
use Rattle.em_grammar.specs.StmtReader as spec
use Rattle.em_read_exprs.specs.declared.stmt.LetEnd.{LetEnd}
use Rattle.em_read_exprs.specs.declared.stmt.LetEnd.TheVariants as end

abbrev valued : Annotation → Token × Expr → spec.LetEnd
valued annotation.Nothing t = spec.Plain t
valued (annotation.Type colon ty) t = spec.Typed (colon, (ty, t))

abbrev pub end_as : LetEnd → spec.LetEnd
end_as (end.Valued a equals value) = valued a (equals, value)
end_as (end.Mentions equals refs) = spec.Mentions (equals, refs)
