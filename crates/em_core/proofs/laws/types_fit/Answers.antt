use Rattle.std.proofs.Common.{refl, ◌<◌, zero, suc, false, List, [], ◌∷◌, inl, arith, codes}
use Rattle.std.specs.Prelude.{All}
use Rattle.em_core.specs.declared.ty.Ty.{Ty, Unit, Def}
use Rattle.em_core.specs.declared.expr.Expr.{Expr}
use Rattle.em_core.specs.Fitting.{Fits, AllFit, EachFits}
use Rattle.em_core.specs.Rules
use Rattle.em_core.specs.Examples.Short.{int, num, ty_d, d, p, init, say}
use Rattle.em_core.specs.Examples.Types.{InMain, no_slot}
use Rattle.em_core.proofs.GivesLemmas.{has_type_given}
use Rattle.em_core.proofs.laws.types_fit.Goals as goal

same_all : (ts : List Ty) → AllFit ts ts
unfolding AllFit Fits
same_all ts = (refl, λ k e lt. inl refl)

-- of one element
only : {A : Type 0} (P : A → Type 0) (x : A) → P x → All P (x ∷ [])
only P x h zero e lt = h
only P x h (suc k) e lt = absurd (grind arith)

none : {A : Type 0} (P : A → Type 0) → All P []
none P k e lt = absurd (grind arith)

each_one : (t : Ty) → EachFits (t ∷ []) t
unfolding EachFits Fits
each_one t = only (λ u. Fits u t) t (inl refl)

one : InMain (num 1) int false
unfolding Rattle.em_core.specs.declared.expr.Expr.TheBlock.hidden-the_row-Expr-0 Rattle.em_core.specs.declared.expr.Expr.TheBlock.shown-the_row-Expr-0
    Rattle.em_core.specs.declared.expr.Expr.TheBlock.hidden-the_row-Expr-1 Rattle.em_core.specs.declared.expr.Expr.TheBlock.shown-the_row-Expr-1
    Rattle.em_core.specs.declared.expr.Expr.TheBlock.hidden-the_row-Arm-2 Rattle.em_core.specs.declared.expr.Expr.TheBlock.shown-the_row-Arm-2
    Rattle.em_core.specs.declared.ty.Ty.TheBlock.hidden-the_row-Ty-0 Rattle.em_core.specs.declared.ty.Ty.TheBlock.shown-the_row-Ty-0
    Rattle.em_core.specs.declared.ty.Ty.TheBlock.hidden-the_row-Ty-1 Rattle.em_core.specs.declared.ty.Ty.TheBlock.shown-the_row-Ty-1
    Rattle.em_core.specs.declared.expr.Expr.TheViews.out-Expr Rattle.em_core.specs.declared.expr.Expr.TheViews.roll-Expr
    Rattle.em_core.specs.declared.ty.Ty.TheViews.out-Ty Rattle.em_core.specs.declared.ty.Ty.TheViews.roll-Ty
    denote.Hole.Carrier.out denote.Hole.Carrier.roll denote.Hole.Carrier.shown denote.Hole.Carrier.hidden
    Rattle.em_core.specs.Rules.Asks Rattle.em_core.specs.Rules.FormatFits
one = Rules.Gives.gives {ts = []} {ends = false} Rules.GivesAll.none refl refl

two : InMain (num 2) int false
unfolding Rattle.em_core.specs.declared.expr.Expr.TheBlock.hidden-the_row-Expr-0 Rattle.em_core.specs.declared.expr.Expr.TheBlock.shown-the_row-Expr-0
    Rattle.em_core.specs.declared.expr.Expr.TheBlock.hidden-the_row-Expr-1 Rattle.em_core.specs.declared.expr.Expr.TheBlock.shown-the_row-Expr-1
    Rattle.em_core.specs.declared.expr.Expr.TheBlock.hidden-the_row-Arm-2 Rattle.em_core.specs.declared.expr.Expr.TheBlock.shown-the_row-Arm-2
    Rattle.em_core.specs.declared.ty.Ty.TheBlock.hidden-the_row-Ty-0 Rattle.em_core.specs.declared.ty.Ty.TheBlock.shown-the_row-Ty-0
    Rattle.em_core.specs.declared.ty.Ty.TheBlock.hidden-the_row-Ty-1 Rattle.em_core.specs.declared.ty.Ty.TheBlock.shown-the_row-Ty-1
    Rattle.em_core.specs.declared.expr.Expr.TheViews.out-Expr Rattle.em_core.specs.declared.expr.Expr.TheViews.roll-Expr
    Rattle.em_core.specs.declared.ty.Ty.TheViews.out-Ty Rattle.em_core.specs.declared.ty.Ty.TheViews.roll-Ty
    denote.Hole.Carrier.out denote.Hole.Carrier.roll denote.Hole.Carrier.shown denote.Hole.Carrier.hidden
    Rattle.em_core.specs.Rules.Asks Rattle.em_core.specs.Rules.FormatFits
two = Rules.Gives.gives {ts = []} {ends = false} Rules.GivesAll.none refl refl

d_one : InMain (d 1) ty_d false
unfolding Rattle.em_core.specs.declared.expr.Expr.TheBlock.hidden-the_row-Expr-0 Rattle.em_core.specs.declared.expr.Expr.TheBlock.shown-the_row-Expr-0
    Rattle.em_core.specs.declared.expr.Expr.TheBlock.hidden-the_row-Expr-1 Rattle.em_core.specs.declared.expr.Expr.TheBlock.shown-the_row-Expr-1
    Rattle.em_core.specs.declared.expr.Expr.TheBlock.hidden-the_row-Arm-2 Rattle.em_core.specs.declared.expr.Expr.TheBlock.shown-the_row-Arm-2
    Rattle.em_core.specs.declared.ty.Ty.TheBlock.hidden-the_row-Ty-0 Rattle.em_core.specs.declared.ty.Ty.TheBlock.shown-the_row-Ty-0
    Rattle.em_core.specs.declared.ty.Ty.TheBlock.hidden-the_row-Ty-1 Rattle.em_core.specs.declared.ty.Ty.TheBlock.shown-the_row-Ty-1
    Rattle.em_core.specs.declared.expr.Expr.TheViews.out-Expr Rattle.em_core.specs.declared.expr.Expr.TheViews.roll-Expr
    Rattle.em_core.specs.declared.ty.Ty.TheViews.out-Ty Rattle.em_core.specs.declared.ty.Ty.TheViews.roll-Ty
    denote.Hole.Carrier.out denote.Hole.Carrier.roll denote.Hole.Carrier.shown denote.Hole.Carrier.hidden
    Rattle.em_core.specs.Rules.Asks Rattle.em_core.specs.Rules.FormatFits
d_one = Rules.Gives.gives {ts = int ∷ []} {ends = false} (Rules.GivesAll.more one Rules.GivesAll.none) refl (same_all (int ∷ []))

d_two : InMain (d 2) ty_d false
unfolding Rattle.em_core.specs.declared.expr.Expr.TheBlock.hidden-the_row-Expr-0 Rattle.em_core.specs.declared.expr.Expr.TheBlock.shown-the_row-Expr-0
    Rattle.em_core.specs.declared.expr.Expr.TheBlock.hidden-the_row-Expr-1 Rattle.em_core.specs.declared.expr.Expr.TheBlock.shown-the_row-Expr-1
    Rattle.em_core.specs.declared.expr.Expr.TheBlock.hidden-the_row-Arm-2 Rattle.em_core.specs.declared.expr.Expr.TheBlock.shown-the_row-Arm-2
    Rattle.em_core.specs.declared.ty.Ty.TheBlock.hidden-the_row-Ty-0 Rattle.em_core.specs.declared.ty.Ty.TheBlock.shown-the_row-Ty-0
    Rattle.em_core.specs.declared.ty.Ty.TheBlock.hidden-the_row-Ty-1 Rattle.em_core.specs.declared.ty.Ty.TheBlock.shown-the_row-Ty-1
    Rattle.em_core.specs.declared.expr.Expr.TheViews.out-Expr Rattle.em_core.specs.declared.expr.Expr.TheViews.roll-Expr
    Rattle.em_core.specs.declared.ty.Ty.TheViews.out-Ty Rattle.em_core.specs.declared.ty.Ty.TheViews.roll-Ty
    denote.Hole.Carrier.out denote.Hole.Carrier.roll denote.Hole.Carrier.shown denote.Hole.Carrier.hidden
    Rattle.em_core.specs.Rules.Asks Rattle.em_core.specs.Rules.FormatFits
d_two = Rules.Gives.gives {ts = int ∷ []} {ends = false} (Rules.GivesAll.more two Rules.GivesAll.none) refl (same_all (int ∷ []))

pair : InMain (p 1 2) (Def 1) false
unfolding Rattle.em_core.specs.declared.expr.Expr.TheBlock.hidden-the_row-Expr-0 Rattle.em_core.specs.declared.expr.Expr.TheBlock.shown-the_row-Expr-0
    Rattle.em_core.specs.declared.expr.Expr.TheBlock.hidden-the_row-Expr-1 Rattle.em_core.specs.declared.expr.Expr.TheBlock.shown-the_row-Expr-1
    Rattle.em_core.specs.declared.expr.Expr.TheBlock.hidden-the_row-Arm-2 Rattle.em_core.specs.declared.expr.Expr.TheBlock.shown-the_row-Arm-2
    Rattle.em_core.specs.declared.ty.Ty.TheBlock.hidden-the_row-Ty-0 Rattle.em_core.specs.declared.ty.Ty.TheBlock.shown-the_row-Ty-0
    Rattle.em_core.specs.declared.ty.Ty.TheBlock.hidden-the_row-Ty-1 Rattle.em_core.specs.declared.ty.Ty.TheBlock.shown-the_row-Ty-1
    Rattle.em_core.specs.declared.expr.Expr.TheViews.out-Expr Rattle.em_core.specs.declared.expr.Expr.TheViews.roll-Expr
    Rattle.em_core.specs.declared.ty.Ty.TheViews.out-Ty Rattle.em_core.specs.declared.ty.Ty.TheViews.roll-Ty
    denote.Hole.Carrier.out denote.Hole.Carrier.roll denote.Hole.Carrier.shown denote.Hole.Carrier.hidden
    Rattle.em_core.specs.Rules.Asks Rattle.em_core.specs.Rules.FormatFits
pair = Rules.Gives.gives {ts = ty_d ∷ ty_d ∷ []} {ends = false} (Rules.GivesAll.more d_one (Rules.GivesAll.more d_two Rules.GivesAll.none)) refl (same_all (ty_d ∷ ty_d ∷ []))

first : InMain (init 0 (p 1 2)) Unit false
unfolding Rattle.em_core.specs.declared.expr.Expr.TheBlock.hidden-the_row-Expr-0 Rattle.em_core.specs.declared.expr.Expr.TheBlock.shown-the_row-Expr-0
    Rattle.em_core.specs.declared.expr.Expr.TheBlock.hidden-the_row-Expr-1 Rattle.em_core.specs.declared.expr.Expr.TheBlock.shown-the_row-Expr-1
    Rattle.em_core.specs.declared.expr.Expr.TheBlock.hidden-the_row-Arm-2 Rattle.em_core.specs.declared.expr.Expr.TheBlock.shown-the_row-Arm-2
    Rattle.em_core.specs.declared.ty.Ty.TheBlock.hidden-the_row-Ty-0 Rattle.em_core.specs.declared.ty.Ty.TheBlock.shown-the_row-Ty-0
    Rattle.em_core.specs.declared.ty.Ty.TheBlock.hidden-the_row-Ty-1 Rattle.em_core.specs.declared.ty.Ty.TheBlock.shown-the_row-Ty-1
    Rattle.em_core.specs.declared.expr.Expr.TheViews.out-Expr Rattle.em_core.specs.declared.expr.Expr.TheViews.roll-Expr
    Rattle.em_core.specs.declared.ty.Ty.TheViews.out-Ty Rattle.em_core.specs.declared.ty.Ty.TheViews.roll-Ty
    denote.Hole.Carrier.out denote.Hole.Carrier.roll denote.Hole.Carrier.shown denote.Hole.Carrier.hidden
    Rattle.em_core.specs.Rules.Asks Rattle.em_core.specs.Rules.FormatFits
first = Rules.Gives.gives {ts = Def 1 ∷ []} {ends = false} (Rules.GivesAll.more pair Rules.GivesAll.none) refl (each_one (Def 1))

last : InMain (say (codes "end")) Unit false
unfolding Rattle.em_core.specs.declared.expr.Expr.TheBlock.hidden-the_row-Expr-0 Rattle.em_core.specs.declared.expr.Expr.TheBlock.shown-the_row-Expr-0
    Rattle.em_core.specs.declared.expr.Expr.TheBlock.hidden-the_row-Expr-1 Rattle.em_core.specs.declared.expr.Expr.TheBlock.shown-the_row-Expr-1
    Rattle.em_core.specs.declared.expr.Expr.TheBlock.hidden-the_row-Arm-2 Rattle.em_core.specs.declared.expr.Expr.TheBlock.shown-the_row-Arm-2
    Rattle.em_core.specs.declared.ty.Ty.TheBlock.hidden-the_row-Ty-0 Rattle.em_core.specs.declared.ty.Ty.TheBlock.shown-the_row-Ty-0
    Rattle.em_core.specs.declared.ty.Ty.TheBlock.hidden-the_row-Ty-1 Rattle.em_core.specs.declared.ty.Ty.TheBlock.shown-the_row-Ty-1
    Rattle.em_core.specs.declared.expr.Expr.TheViews.out-Expr Rattle.em_core.specs.declared.expr.Expr.TheViews.roll-Expr
    Rattle.em_core.specs.declared.ty.Ty.TheViews.out-Ty Rattle.em_core.specs.declared.ty.Ty.TheViews.roll-Ty
    denote.Hole.Carrier.out denote.Hole.Carrier.roll denote.Hole.Carrier.shown denote.Hole.Carrier.hidden
    Rattle.em_core.specs.Rules.Asks Rattle.em_core.specs.Rules.FormatFits
last = Rules.Gives.gives {ts = []} {ends = false} Rules.GivesAll.none refl (refl, none _)

pub returns-clause-whole_main : goal.returns-clause-whole_main
unfolding Rattle.em_core.specs.declared.expr.Expr.TheBlock.hidden-the_row-Expr-0 Rattle.em_core.specs.declared.expr.Expr.TheBlock.shown-the_row-Expr-0
    Rattle.em_core.specs.declared.expr.Expr.TheBlock.hidden-the_row-Expr-1 Rattle.em_core.specs.declared.expr.Expr.TheBlock.shown-the_row-Expr-1
    Rattle.em_core.specs.declared.expr.Expr.TheBlock.hidden-the_row-Arm-2 Rattle.em_core.specs.declared.expr.Expr.TheBlock.shown-the_row-Arm-2
    Rattle.em_core.specs.declared.ty.Ty.TheBlock.hidden-the_row-Ty-0 Rattle.em_core.specs.declared.ty.Ty.TheBlock.shown-the_row-Ty-0
    Rattle.em_core.specs.declared.ty.Ty.TheBlock.hidden-the_row-Ty-1 Rattle.em_core.specs.declared.ty.Ty.TheBlock.shown-the_row-Ty-1
    Rattle.em_core.specs.declared.expr.Expr.TheViews.out-Expr Rattle.em_core.specs.declared.expr.Expr.TheViews.roll-Expr
    Rattle.em_core.specs.declared.ty.Ty.TheViews.out-Ty Rattle.em_core.specs.declared.ty.Ty.TheViews.roll-Ty
    denote.Hole.Carrier.out denote.Hole.Carrier.roll denote.Hole.Carrier.shown denote.Hole.Carrier.hidden
    Rattle.em_core.specs.Rules.Asks Rattle.em_core.specs.Rules.FormatFits
returns-clause-whole_main c = Rules.Gives.gives {ts = Unit ∷ []} {ends = false} (Rules.GivesAll.more (Rules.Gives.gives {ts = Unit ∷ Unit ∷ []} {ends = false} (Rules.GivesAll.more first (Rules.GivesAll.more last Rules.GivesAll.none)) refl tt) Rules.GivesAll.none) refl (only (λ s. s < 1) 0 (grind arith))

pub returns-clause-no_slot : goal.returns-clause-no_slot
unfolding Rattle.em_core.specs.declared.expr.Expr.TheBlock.hidden-the_row-Expr-0 Rattle.em_core.specs.declared.expr.Expr.TheBlock.shown-the_row-Expr-0
    Rattle.em_core.specs.declared.expr.Expr.TheBlock.hidden-the_row-Expr-1 Rattle.em_core.specs.declared.expr.Expr.TheBlock.shown-the_row-Expr-1
    Rattle.em_core.specs.declared.expr.Expr.TheBlock.hidden-the_row-Arm-2 Rattle.em_core.specs.declared.expr.Expr.TheBlock.shown-the_row-Arm-2
    Rattle.em_core.specs.declared.ty.Ty.TheBlock.hidden-the_row-Ty-0 Rattle.em_core.specs.declared.ty.Ty.TheBlock.shown-the_row-Ty-0
    Rattle.em_core.specs.declared.ty.Ty.TheBlock.hidden-the_row-Ty-1 Rattle.em_core.specs.declared.ty.Ty.TheBlock.shown-the_row-Ty-1
    Rattle.em_core.specs.declared.expr.Expr.TheViews.out-Expr Rattle.em_core.specs.declared.expr.Expr.TheViews.roll-Expr
    Rattle.em_core.specs.declared.ty.Ty.TheViews.out-Ty Rattle.em_core.specs.declared.ty.Ty.TheViews.roll-Ty
    denote.Hole.Carrier.out denote.Hole.Carrier.roll denote.Hole.Carrier.shown denote.Hole.Carrier.hidden
    Rattle.em_core.specs.Rules.Asks Rattle.em_core.specs.Rules.FormatFits
returns-clause-no_slot c t ends h = has_type_given _ _ _ _ false no_slot t ends h (λ ts b. refl)
