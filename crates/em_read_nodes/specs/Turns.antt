-- One turn of what goes on with an expression.
use Rattle.std.specs.Prelude.{if◌then◌else◌, Option, Some, None}
use Rattle.em_tree.specs.Starts.{Pieces}
use Rattle.em_grammar.specs.Sets.{Set, next}
use Rattle.em_grammar.specs.Reader.{Read, Found, opt}
use Rattle.em_grammar.specs.ExprReader as spec
use Rattle.em_read_exprs.specs.declared.suffix.Suffix.{Suffix}
use Rattle.em_read_exprs.specs.Exprs.{suffix_as}

abbrev pub suffix_if_as : Option Suffix → Option spec.Suffix
suffix_if_as None = None
suffix_if_as (Some x) = Some (suffix_as x)

-- what goes on with an expression, where something of the set stands, or nothing
abbrev pub suffix_if : Set → (Pieces → Read spec.Suffix) → Pieces → Read (Option spec.Suffix)
suffix_if on suffix i = if next on i then opt suffix i else Found None i
