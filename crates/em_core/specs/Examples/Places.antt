-- Places: through references, boxes and slices, parts that are moved out, and addresses that lead nowhere.
use Rattle.std.specs.Prelude.{ℕ, pos, true, [], ◌∷◌, codes}
use Rattle.em_core.specs.declared.ty.Ty.{Ty, Def, Unit, Int, roll-Ty}
use Rattle.em_core.specs.declared.ty.Ty.TheOpen.{Ty-F}
use Rattle.em_base.specs.declared.int_kind.IntKind.TheVariants.{Usize}
use Rattle.em_core.specs.declared.expr.Expr.{Expr, roll-Expr}
use Rattle.em_core.specs.declared.expr.Expr.TheOpen.{Expr-F}
use Rattle.em_core.specs.declared.place.PlaceExpr.{PlaceExpr}
use Rattle.em_core.specs.declared.program.Core.{Core}
use Rattle.em_core.specs.Examples.Panics.{number}
use Rattle.em_core.specs.Examples.Short.{int, ty_d, unique, shared, array, num, slot, dot, deref, at, copy, move, borrow, seq, scope, init, assign, call, say, show, fail, d, p, function, main, program}

abbrev pub index : ℕ → Expr
index n = number Usize (pos n)

abbrev pub borrow_unique : PlaceExpr → Expr
borrow_unique q = roll-Expr (Expr-F.Ref q true)

-- fn main() { let mut a = [0; 3]; let i = 1; a[i] = 5; for x in a.iter() { println!("{}", *x); } }
abbrev pub repeated : Core
repeated = program (main (array int 3 ∷ Int Usize ∷ roll-Ty (Ty-F.RefIter (shared int)) ∷ shared int ∷ []) (scope (0 ∷ 1 ∷ []) (
    init 0 (roll-Expr (Expr-F.Repeat (num 0) 3)) ∷ init 1 (index 1) ∷ assign (at (slot 0) 1) (num 5) ∷
    scope (2 ∷ []) (init 2 (roll-Expr (Expr-F.ToRefIter (borrow (slot 0)))) ∷
    roll-Expr (Expr-F.Loop (scope (3 ∷ []) (roll-Expr (Expr-F.Next (slot 2) 3) ∷ show (copy (deref (slot 3))) ∷ []))) ∷ []) ∷ [])) [] ∷ [])

-- fn set(n: &mut i32) { *n = 7; } fn main() { let mut n = 1; set(&mut n); println!("{}", n); }
abbrev pub written_through : Core
written_through = program (main (int ∷ []) (scope (0 ∷ []) (init 0 (num 1) ∷ call 3 (borrow_unique (slot 0) ∷ []) ∷ show (copy (slot 0)) ∷ [])) [] ∷
    function (unique int ∷ []) Unit (unique int ∷ []) (assign (deref (slot 0)) (num 7)) [] ∷ [])

abbrev pub slice : Ty
slice = shared (roll-Ty (Ty-F.Slice int))

-- fn at(s: &[i32], i: usize) -> i32 { s[i] } fn main() { let a = [4, 5]; println!("{}", at(&a, 1)); println!("{}", at(&a, 2)); }
abbrev pub sliced : Core
sliced = program (main (array int 2 ∷ []) (scope (0 ∷ []) (init 0 (roll-Expr (Expr-F.ArrayOf int (num 4 ∷ num 5 ∷ []))) ∷ show (take 1) ∷ show (take 2) ∷ [])) [] ∷
    function (slice ∷ Int Usize ∷ []) int (slice ∷ Int Usize ∷ []) (copy (at (deref (slot 0)) 1)) [] ∷ [])
  where
    take : ℕ → Expr
    take n = call 3 (roll-Expr (Expr-F.Unsize (shared (array int 2)) slice (borrow (slot 0))) ∷ index n ∷ [])

-- fn f(p: P) { eat(p.a); panic!("stop"); } fn main() { f(P { a: D(1), b: D(2) }); }
abbrev pub partly_moved : Core
partly_moved = program (main (Def 1 ∷ []) (scope (0 ∷ []) (init 0 (p 1 2) ∷ call 3 (move (slot 0) ∷ []) ∷ [])) [] ∷
    function (Def 1 ∷ []) Unit (Def 1 ∷ []) (seq (call 1 (move (dot (slot 0) 1 0) ∷ []) ∷ fail (codes "stop") ∷ [])) [] ∷ [])

-- fn main() { let b = Box::new(D(1)); eat(*b); println!("end"); }
abbrev pub out_of_box : Core
out_of_box = program (main (roll-Ty (Ty-F.Boxed ty_d) ∷ []) (scope (0 ∷ []) (init 0 (roll-Expr (Expr-F.BoxNew ty_d (d 1))) ∷ call 1 (move (deref (slot 0)) ∷ []) ∷ say (codes "end") ∷ [])) [] ∷ [])

-- fn f() -> &'static i32 { let a = 1; &a } fn main() { println!("{}", *f()); }   rustc refuses it: the frame has ended
abbrev pub ended_frame : Core
ended_frame = program (main (shared int ∷ []) (scope (0 ∷ []) (init 0 (call 3 []) ∷ show (copy (deref (slot 0))) ∷ [])) [] ∷
    function [] (shared int) (int ∷ []) (scope (0 ∷ []) (init 0 (num 1) ∷ borrow (slot 0) ∷ [])) [] ∷ [])

-- fn main() { let r; { let a = 1; r = &a; } println!("{}", *r); }   rustc refuses it: the scope is not open
abbrev pub closed_scope : Core
closed_scope = program (main (shared int ∷ int ∷ []) (scope (0 ∷ []) (scope (1 ∷ []) (init 1 (num 1) ∷ init 0 (borrow (slot 1)) ∷ []) ∷ show (copy (deref (slot 0))) ∷ [])) [] ∷ [])
