-- What a typed Core is, by example.
use Rattle.std.specs.Prelude.{Bool, false, [], ◌∷◌, codes}
use Rattle.em_core.specs.declared.ty.Ty.{Ty, Unit, Def}
use Rattle.em_core.specs.declared.expr.Expr.{Expr}
use Rattle.em_core.specs.Rules.{Gives}
use Rattle.em_core.specs.Examples.Drops.{fields}
use Rattle.em_core.specs.declared.program.Core.{Core}
use Rattle.em_core.specs.Examples.Short.{scope, init, say, num, p, slot, move, main, program}

-- the expression gives a value of the type in the main of `fields`, whose one slot is of type P
abbrev pub InMain : Expr → Ty → Bool → Type 0
InMain e t ends = Gives fields (Def 1 ∷ []) [] Unit false e t ends

abbrev pub whole_main : Expr
whole_main = scope (0 ∷ []) (init 0 (p 1 2) ∷ say (codes "end") ∷ [])

-- a slot that is not there
abbrev pub no_slot : Expr
no_slot = move (slot 1)

-- fn main() with a slot that it doesn't have
abbrev pub slot_out_of_range : Core
slot_out_of_range = program (main [] (init 0 (num 1)) [] ∷ [])
