-- The parts of expressions in Rust, as the grammar's readers find them.
use Rattle.std.specs.Prelude.{◌≡◌, Bool, true, false, List, [], ◌∷◌, Option, Some, None}
use Rattle.em_base.specs.declared.token.Token.{Token}
use Rattle.em_tree.specs.declared.expr.Expr.{Expr}
use Rattle.em_tree.specs.declared.parts.Listed.{Listed}
use Rattle.em_tree.specs.declared.types.Path.{Path}
use Rattle.em_tree.specs.Starts.{Pieces}
use Rattle.em_grammar.specs.declared.sort.Sort.{Sort}
use Rattle.em_grammar.specs.declared.sort.Written.TheVariants as word
use Rattle.em_grammar.specs.Sets.{any_of}
use Rattle.em_grammar.specs.ExprSets.{op_sort, assign_sort}
use Rattle.em_grammar.specs.Reader.{Read, Found}
use Rattle.em_grammar.specs.ExprReader as spec
use Rattle.em_grammar.specs.ExprSets as from
use Rattle.em_grammar.specs.Lang.{listed}
use Rattle.em_grammar.specs.TypeReader.{alone}
use Rattle.em_grammar.specs.PrefixReader.{unaries, is_named, is_single}
use Rattle.em_read_exprs.specs.declared.inside.Start.{Start}
use Rattle.em_read_exprs.specs.declared.inside.Start.TheVariants as start
use Rattle.em_read_exprs.specs.declared.operator.Operator.{Operator}
use Rattle.em_read_exprs.specs.declared.operator.Operator.TheVariants as operator
use Rattle.em_read_exprs.specs.declared.suffix.Arguments.{Arguments}
use Rattle.em_read_exprs.specs.declared.suffix.Suffix.{Suffix}
use Rattle.em_read_exprs.specs.declared.suffix.Suffix.TheVariants as suffix

abbrev pub operates : Operator → Sort → Bool
operates operator.Binary k = op_sort k
operates operator.Assign k = assign_sort k
operates operator.Unary k = any_of unaries k
operates operator.Range k = any_of (word.DotDot ∷ word.DotDotEq ∷ []) k

abbrev pub arguments_as : Arguments → spec.Inside
arguments_as a = (a.open, (a.list, a.close))

abbrev pub arguments_if_as : Option Arguments → Option spec.Inside
arguments_if_as None = None
arguments_if_as (Some a) = Some (arguments_as a)

abbrev pub suffix_as : Suffix → spec.Suffix
suffix_as (suffix.Right op y) = spec.Right op y
suffix_as (suffix.Becomes op y) = spec.Becomes op y
suffix_as (suffix.Method dot name a) = spec.Method dot name a.open a.list a.close
suffix_as (suffix.Call a) = spec.Args a.open a.list a.close
suffix_as (suffix.Field dot name) = spec.Member dot name
suffix_as (suffix.Place dot number) = spec.Number dot number
suffix_as (suffix.Index o y c) = spec.At o y c

-- what is read already
abbrev pub given : {T : Type 0} → T → Pieces → Read T
given t i = Found t i

-- the name that the path is, or nothing
abbrev pub Named : Path → Option Token → Type 0
Named y None = is_named y ≡ false
Named y (Some t) = (is_named y ≡ true) × (alone y ≡ Some t)

-- the one expression of a list without a comma, or nothing
abbrev pub Single : List (Listed Expr) → Option Expr → Type 0
Single xs None = is_single xs ≡ false
Single xs (Some x) = xs ≡ listed x None ∷ []

abbrev pub start_of : Start → from.Start
start_of start.Anywhere = from.Anywhere
start_of start.InArm = from.InArm
start_of start.InBlock = from.InBlock
