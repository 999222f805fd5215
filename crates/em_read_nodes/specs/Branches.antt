-- What stands behind the block of an `if` in Rust, as the grammar's reader finds it.
use Rattle.std.specs.Prelude.{◌≡◌, ℕ, zero, suc, Bool, false, if◌then◌else◌, [], ◌∷◌, ◌++◌, List, length, Option, Some, None, Result, Ok, Err}
use Rattle.em_base.specs.declared.token.Token.{Token}
use Rattle.em_tree.specs.declared.expr.Block.{Block}
use Rattle.em_tree.specs.declared.expr.Body.{Body}
use Rattle.em_tree.specs.declared.expr.Condition.{Condition}
use Rattle.em_tree.specs.declared.expr.ElseIf.{ElseIf}
use Rattle.em_tree.specs.declared.expr.Expr.{Expr}
use Rattle.em_tree.specs.declared.expr.Expr.TheVariants as made
use Rattle.em_tree.specs.Starts.{Pieces}
use Rattle.em_grammar.specs.Reader.{Read, Found, Absent, Deep, and_then, or_stay}
use Rattle.em_grammar.specs.BranchReader.{ElsePart, Further, Last, else_if_of, goes_further, branches_of, word_else_of, otherwise_of}
use Rattle.em_read.specs.declared.stop.Stop.{Stop}
use Rattle.em_read.specs.declared.stop.Stop.TheVariants as stop
use Rattle.em_read_nodes.specs.declared.branch.Branches.{Branches}

abbrev pub branches_with : List ElseIf → Option Token → Option (Block Body) → Branches
branches_with list word_else otherwise = record { list = list; word_else = word_else; otherwise = otherwise }

abbrev pub nothing : Branches
nothing = branches_with [] None None

abbrev pub branches_as : List ElsePart → Branches
branches_as xs = branches_with (branches_of xs) (word_else_of xs) (otherwise_of xs)

-- with one part more
abbrev pub put : Branches → ElsePart → Branches
put f (e, Further t) = branches_with (f.list ++ else_if_of e t ∷ []) f.word_else f.otherwise
put f (e, Last b) = branches_with f.list (Some e) (Some b)

-- one part more, and whether another may follow
abbrev pub step : (Pieces → Read ElsePart) → Branches → Pieces → Read (Bool × Branches)
step P f i = and_then (P i) (λ a r. Found (goes_further a, put f a) r)

-- the same, if there is one
abbrev pub turn : (Pieces → Read ElsePart) → Branches → Pieces → Read (Bool × Branches)
turn P f i = or_stay (P i) (λ a r. Found (goes_further a, put f a) r) (Found (false, f) i)

unfoldable pub grow : (Pieces → Read ElsePart) → ℕ → Branches → Pieces → Read Branches
grow P zero f i = Found f i
grow P (suc n) f i = and_then (turn P f i) (λ t r. if t.0 then grow P n t.1 r else Found t.1 r)

abbrev pub branches : (Pieces → Read ElsePart) → Pieces → Read Branches
branches P i = grow P (length i) nothing i

-- what is added to the parts that are there, and what is left. Where there is none, nothing is
abbrev pub Adds : Read (Bool × Branches) → Branches → Result Bool Stop → Branches → Pieces → Type 0
Adds out old (Ok b) new r = out ≡ Found (b, new) r
Adds out old (Err stop.Absent) new r = (out ≡ Absent) × (new ≡ old)
Adds out old (Err stop.Deep) new r = out ≡ Deep
Adds out old (Err stop.NoMemory) new r = Unit {0}

abbrev pub if_as : Token × (Condition Expr × (Block Body × Branches)) → Expr
if_as t = made.If t.0 t.1.0 t.1.1.0 t.1.1.1.list t.1.1.1.word_else t.1.1.1.otherwise
