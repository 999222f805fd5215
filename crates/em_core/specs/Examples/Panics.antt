-- Panics: the drops on the way out, a panic in a drop, and the panics of operators and indices.
use Rattle.std.specs.Prelude.{false, ℕ, ℤ, pos, negsuc, [], ◌∷◌, Some, codes}
use Rattle.em_core.specs.declared.ty.Ty.{Def, Unit, Int}
use Rattle.em_base.specs.declared.int_kind.IntKind.{IntKind}
use Rattle.em_base.specs.declared.int_kind.IntKind.TheVariants.{I32, Usize}
use Rattle.em_core.specs.declared.expr.Expr.{Expr, roll-Expr}
use Rattle.em_core.specs.declared.expr.Expr.TheOpen.{Expr-F}
use Rattle.em_core.specs.declared.operator.Constant.TheVariants as constant
use Rattle.em_core.specs.declared.operator.UnaryOp.TheVariants as unary
use Rattle.em_core.specs.declared.operator.BinaryOp.{BinaryOp}
use Rattle.em_core.specs.declared.function.Function.{Function}
use Rattle.em_core.specs.declared.ty.ClosureKind.TheVariants as ClosureKind
use Rattle.em_core.specs.declared.mention.By.TheVariants.{Value}
use Rattle.em_core.specs.declared.program.Core.{Core}
use Rattle.em_core.specs.Examples.Short.{int, ty_d, unique, array, unit, num, slot, dot, deref, at, copy, move, seq, scope, init, assign, equal, choose, binary, build, call, say, say_and_show, show, fail, d, def, function, main, program, program_with, closure_ty, closure, variable, capture}

-- fn f() { let a = D(1); let b = D(2); panic!("stop"); } fn main() { let c = D(3); f(); println!("never"); }
abbrev pub unwinding : Core
unwinding = program (
    main (ty_d ∷ []) (scope (0 ∷ []) (init 0 (d 3) ∷ call 3 [] ∷ say (codes "never") ∷ [])) [] ∷
    function [] Unit (ty_d ∷ ty_d ∷ []) (scope (0 ∷ 1 ∷ []) (init 0 (d 1) ∷ init 1 (d 2) ∷ fail (codes "stop") ∷ [])) [] ∷ [])

-- struct E(i32); impl Drop for E { fn drop(&mut self) { println!("drop E {}", self.0); if self.0 == 1 { panic!("in drop"); } } }
abbrev pub drop_e : Function
drop_e = function (unique (Def 2) ∷ []) Unit (unique (Def 2) ∷ []) (seq (
    say_and_show (codes "drop E ") (copy (dot (deref (slot 0)) 2 0)) ∷
    choose (equal (copy (dot (deref (slot 0)) 2 0)) (num 1)) (fail (codes "in drop")) unit ∷ [])) []

abbrev pub e : ℕ → Expr
e n = build 2 (num n ∷ [])

abbrev pub with_e : Function → Core
with_e f = program_with (def (codes "E") (int ∷ []) (Some 3) ∷ []) (record { methods = []; impls = [] }) (f ∷ drop_e ∷ [])

-- fn main() { let a = D(1); let b = E(1); println!("end"); }
abbrev pub panic_in_drop : Core
panic_in_drop = with_e (main (ty_d ∷ Def 2 ∷ []) (scope (0 ∷ 1 ∷ []) (init 0 (d 1) ∷ init 1 (e 1) ∷ say (codes "end") ∷ [])) [])

-- fn main() { let a = D(1); let b = E(1); panic!("stop"); }
abbrev pub abort : Core
abort = with_e (main (ty_d ∷ Def 2 ∷ []) (scope (0 ∷ 1 ∷ []) (init 0 (d 1) ∷ init 1 (e 1) ∷ fail (codes "stop") ∷ [])) [])

-- fn main() { let mut a = E(1); a = E(2); println!("never"); }
abbrev pub panic_in_assignment : Core
panic_in_assignment = with_e (main (Def 2 ∷ Def 2 ∷ []) (scope (0 ∷ []) (init 0 (e 1) ∷ scope (1 ∷ []) (init 1 (e 2) ∷ assign (slot 0) (move (slot 1)) ∷ []) ∷ say (codes "never") ∷ [])) [])

-- struct V { a: E, b: D } impl Drop for V { fn drop(&mut self) { println!("drop V"); } }   fn main() { let x = D(5); let w = V { a: E(1), b: D(2) }; let v = [E(2), E(3)]; let c = move || { let _ = &v; let _ = &w; }; drop(c); println!("never"); }
abbrev pub panic_in_part : Core
panic_in_part = program_with (def (codes "E") (int ∷ []) (Some 3) ∷ def (codes "V") (Def 2 ∷ ty_d ∷ []) (Some 4) ∷ []) (record { methods = []; impls = [] }) (
    main (ty_d ∷ Def 3 ∷ array (Def 2) 2 ∷ closure_ty 0 ∷ closure_ty 0 ∷ []) (scope (0 ∷ 1 ∷ 2 ∷ 3 ∷ []) (
    init 0 (d 5) ∷ init 1 (build 3 (e 1 ∷ d 2 ∷ [])) ∷ init 2 (roll-Expr (Expr-F.ArrayOf (Def 2) (e 2 ∷ e 3 ∷ []))) ∷
    init 3 (roll-Expr (Expr-F.MakeClosure 0)) ∷ roll-Expr (Expr-F.DropValue 4 (move (slot 3))) ∷ say (codes "never") ∷ []))
    (closure 0 ClosureKind.Fn [] (variable 2 (array (Def 2) 2) (capture [] Value false ∷ []) ∷ variable 1 (Def 3) (capture [] Value false ∷ []) ∷ []) unit ∷ []) ∷
    drop_e ∷
    function (unique (Def 3) ∷ []) Unit (unique (Def 3) ∷ []) (say (codes "drop V")) [] ∷ [])

-- fn main() { std::panic::panic_any(7); }
abbrev pub panic_value : Core
panic_value = program (main [] (roll-Expr (Expr-F.PanicValue int (num 7))) [] ∷ [])

-- fn main() { println!("{}", LEFT op RIGHT); }
abbrev pub number : IntKind → ℤ → Expr
number k z = roll-Expr (Expr-F.Const (constant.Int k z))

abbrev pub operation : BinaryOp → IntKind → ℤ → ℤ → Core
operation op k x y = program (main [] (show (binary op (number k x) (number k y))) [] ∷ [])

abbrev pub negation : ℤ → Core
negation z = program (main [] (show (roll-Expr (Expr-F.Unary unary.Negate (number I32 z)))) [] ∷ [])

-- the least i32
abbrev pub least : ℤ
least = negsuc 2147483647

-- fn main() { let a = [1, 2, 3]; let i = INDEX; println!("{}", a[i]); }
abbrev pub indexed : ℕ → Core
indexed n = program (main (array int 3 ∷ Int Usize ∷ []) (scope (0 ∷ 1 ∷ []) (
    init 0 (roll-Expr (Expr-F.ArrayOf int (num 1 ∷ num 2 ∷ num 3 ∷ []))) ∷
    init 1 (number Usize (pos n)) ∷
    show (copy (at (slot 0) 1)) ∷ [])) [] ∷ [])
