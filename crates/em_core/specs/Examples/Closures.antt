-- Closures: what they capture decides when it drops.
use Rattle.std.specs.Prelude.{ℕ, true, false, List, [], ◌∷◌, codes}
use Rattle.em_core.specs.declared.ty.Ty.{Def, Unit, roll-Ty}
use Rattle.em_core.specs.declared.ty.Ty.TheOpen.{Ty-F}
use Rattle.em_core.specs.declared.ty.ClosureKind.TheVariants.{Fn, FnMut, FnOnce}
use Rattle.em_core.specs.declared.expr.Expr.{Expr, roll-Expr}
use Rattle.em_core.specs.declared.expr.Expr.TheOpen.{Expr-F}
use Rattle.em_core.specs.declared.mention.By.TheVariants.{Shared, Unique, Value}
use Rattle.em_core.specs.declared.function.Capture.{Capture}
use Rattle.em_core.specs.declared.operator.BinaryOp.TheVariants.{Add}
use Rattle.em_core.specs.declared.place.Base.TheVariants as base
use Rattle.em_core.specs.declared.program.Core.{Core}
use Rattle.em_core.specs.Examples.Short.{int, ty_d, num, slot, root, dot, copy, move, seq, scope, init, assign, binary, call, say, show, d, p, main, program, capture, variable, closure, closure_ty}

abbrev pub make : ℕ → Expr
make id = roll-Expr (Expr-F.MakeClosure id)

abbrev pub call_once : ℕ → Expr
call_once s = roll-Expr (Expr-F.CallOnce (move (slot s)) [])

abbrev pub call_by : ℕ → List Expr → Expr
call_by s es = roll-Expr (Expr-F.CallBy (slot s) es)

-- fn main() { let p = P { a: D(1), b: D(2) }; let c = || eat(p.a); c(); println!("end"); }   with these captures
abbrev pub eats_field : Capture → Core
eats_field c = program (main (Def 1 ∷ closure_ty 0 ∷ []) (scope (0 ∷ 1 ∷ []) (init 0 (p 1 2) ∷ init 1 (make 0) ∷ call_once 1 ∷ say (codes "end") ∷ []))
    (closure 0 FnOnce [] (variable 0 (Def 1) (c ∷ []) ∷ []) (call 1 (move (dot (root 0) 1 0) ∷ [])) ∷ []) ∷ [])

-- before 2021 the whole variable is captured, from 2021 on the field
abbrev pub whole_variable : Core
whole_variable = eats_field (capture [] Value false)

abbrev pub one_field : Core
one_field = eats_field (capture (record { def = 1; field = 0 } ∷ []) Value false)

-- fn main() { let a = D(1); { let c = move || println!("{}", a.0); c(); } println!("end"); }   with these captures
abbrev pub copies_field : Capture → Core
copies_field c = program (main (ty_d ∷ closure_ty 0 ∷ []) (scope (0 ∷ []) (init 0 (d 1) ∷ scope (1 ∷ []) (init 1 (make 0) ∷ call_by 1 [] ∷ []) ∷ say (codes "end") ∷ []))
    (closure 0 Fn [] (variable 0 ty_d (c ∷ []) ∷ []) (show (copy (dot (root 0) 0 0))) ∷ []) ∷ [])

-- from 2021 on the number is copied out of a value that has a Drop impl, and the value stays
abbrev pub whole_value : Core
whole_value = copies_field (capture [] Value false)

abbrev pub copied_field : Core
copied_field = copies_field (capture (record { def = 0; field = 0 } ∷ []) Value true)

-- fn main() { let mut n = 1; let mut c = |k: i32| n = n + k; c(2); c(3); println!("{}", n); }
abbrev pub counter : Core
counter = program (main (int ∷ closure_ty 0 ∷ []) (scope (0 ∷ 1 ∷ []) (init 0 (num 1) ∷ init 1 (make 0) ∷ call_by 1 (num 2 ∷ []) ∷ call_by 1 (num 3 ∷ []) ∷ show (copy (slot 0)) ∷ []))
    (closure 0 FnMut (int ∷ []) (variable 0 int (capture [] Unique true ∷ []) ∷ []) (assign (root 0) (binary Add (copy (root 0)) (copy (slot 0)))) ∷ []) ∷ [])

-- fn main() { let p = P { a: D(1), b: D(2) }; let c = || { println!("{}", p.b.0); eat(p.a); }; c(); println!("end"); }   from 2021 on: p.a by value, p.b.0 by reference
abbrev pub two_ways : Core
two_ways = program (main (Def 1 ∷ closure_ty 0 ∷ []) (scope (0 ∷ 1 ∷ []) (init 0 (p 1 2) ∷ init 1 (make 0) ∷ call_once 1 ∷ say (codes "end") ∷ []))
    (closure 0 FnOnce [] (variable 0 (Def 1) (capture (record { def = 1; field = 0 } ∷ []) Value false ∷ capture (record { def = 1; field = 1 } ∷ record { def = 0; field = 0 } ∷ []) Shared true ∷ []) ∷ [])
    (seq (show (copy (dot (dot (root 0) 1 1) 0 0)) ∷ call 1 (move (dot (root 0) 1 0) ∷ []) ∷ [])) ∷ []) ∷ [])

-- fn main() { let a = D(1); let b: Box<dyn FnOnce()> = Box::new(move || { let _ = &a; println!("in"); }); b(); println!("end"); }
abbrev pub boxed_once : Core
boxed_once = program (main (ty_d ∷ roll-Ty (Ty-F.Boxed (roll-Ty (Ty-F.DynFn FnOnce [] Unit))) ∷ []) (scope (0 ∷ 1 ∷ []) (
    init 0 (d 1) ∷
    init 1 (roll-Expr (Expr-F.Unsize (roll-Ty (Ty-F.Boxed (closure_ty 0))) (roll-Ty (Ty-F.Boxed (roll-Ty (Ty-F.DynFn FnOnce [] Unit)))) (roll-Expr (Expr-F.BoxNew (closure_ty 0) (make 0))))) ∷
    call_once 1 ∷ say (codes "end") ∷ []))
    (closure 0 Fn [] (variable 0 ty_d (capture [] Value false ∷ []) ∷ []) (say (codes "in")) ∷ []) ∷ [])

-- fn main() { let q = P { a: D(1), b: D(2) }; let c = || || q.a; let d = c(); let e = d(); println!("end"); }   with these captures of both closures
abbrev pub nested : Capture → Core
nested c = program (main (Def 1 ∷ closure_ty 0 ∷ closure_ty 1 ∷ ty_d ∷ []) (scope (0 ∷ 1 ∷ 2 ∷ 3 ∷ []) (
    init 0 (p 1 2) ∷ init 1 (make 0) ∷ init 2 (call_once 1) ∷ init 3 (call_once 2) ∷ say (codes "end") ∷ []))
    (record (closure 0 FnOnce [] (variable 0 (Def 1) (c ∷ []) ∷ []) (make 1)) { result = closure_ty 1 } ∷
    record (closure 1 FnOnce [] (record { base = base.Root 0; ty = Def 1; captures = c ∷ [] } ∷ []) (move (dot (root 0) 1 0))) { result = ty_d } ∷ []) ∷ [])

abbrev pub nested_whole : Core
nested_whole = nested (capture [] Value false)

abbrev pub nested_field : Core
nested_field = nested (capture (record { def = 1; field = 0 } ∷ []) Value false)

-- fn main() { let a = D(1); let b = D(2); let c = move || { println!("{}", b.0); println!("{}", a.0); }; c(); println!("end"); drop(c); println!("after"); }   before 2021
abbrev pub capture_order : Core
capture_order = program (main (ty_d ∷ ty_d ∷ closure_ty 0 ∷ closure_ty 0 ∷ []) (scope (0 ∷ 1 ∷ 2 ∷ []) (
    init 0 (d 1) ∷ init 1 (d 2) ∷ init 2 (make 0) ∷ call_by 2 [] ∷ say (codes "end") ∷ roll-Expr (Expr-F.DropValue 3 (move (slot 2))) ∷ say (codes "after") ∷ []))
    (closure 0 Fn [] (variable 1 ty_d (capture [] Value false ∷ []) ∷ variable 0 ty_d (capture [] Value false ∷ []) ∷ [])
    (seq (show (copy (dot (root 0) 0 0)) ∷ show (copy (dot (root 1) 0 0)) ∷ [])) ∷ []) ∷ [])
