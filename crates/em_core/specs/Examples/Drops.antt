-- Drops in order: fields, locals, parameters, assignments, boxes, `drop`.
use Rattle.std.specs.Prelude.{[], ◌∷◌, codes, Some}
use Rattle.em_core.specs.declared.ty.Ty.{Def, Unit, roll-Ty}
use Rattle.em_core.specs.declared.ty.Ty.TheOpen.{Ty-F}
use Rattle.em_core.specs.declared.expr.Expr.{roll-Expr}
use Rattle.em_core.specs.declared.expr.Expr.TheOpen.{Expr-F}
use Rattle.em_core.specs.declared.program.Core.{Core}
use Rattle.em_core.specs.Examples.Short.{ty_d, slot, dot, deref, copy, move, seq, scope, init, assign, call, say, show, d, p, function, main, program, program_with, def, build, unique}

-- fn main() { let p = P { a: D(1), b: D(2) }; println!("end"); }
abbrev pub fields : Core
fields = program (main (Def 1 ∷ []) (scope (0 ∷ []) (init 0 (p 1 2) ∷ say (codes "end") ∷ [])) [] ∷ [])

-- fn main() { let a = D(1); eat(a); println!("end"); }
abbrev pub moved_into_call : Core
moved_into_call = program (main (ty_d ∷ []) (scope (0 ∷ []) (init 0 (d 1) ∷ call 1 (move (slot 0) ∷ []) ∷ say (codes "end") ∷ [])) [] ∷ [])

-- fn f(x: D, y: D) { let a = D(3); let b = D(4); println!("body"); } fn main() { f(D(1), D(2)); println!("end"); }
abbrev pub locals : Core
locals = program (
    main (ty_d ∷ ty_d ∷ []) (seq (scope (0 ∷ 1 ∷ []) (init 0 (d 1) ∷ init 1 (d 2) ∷ call 3 (move (slot 0) ∷ move (slot 1) ∷ []) ∷ []) ∷ say (codes "end") ∷ [])) [] ∷
    function (ty_d ∷ ty_d ∷ []) Unit (ty_d ∷ ty_d ∷ ty_d ∷ ty_d ∷ []) (scope (2 ∷ 3 ∷ []) (init 2 (d 3) ∷ init 3 (d 4) ∷ say (codes "body") ∷ [])) [] ∷ [])

-- fn make() -> D { println!("make"); D(2) } fn main() { let mut a = D(1); a = make(); println!("set"); }
abbrev pub assignment : Core
assignment = program (
    main (ty_d ∷ []) (scope (0 ∷ []) (init 0 (d 1) ∷ assign (slot 0) (call 3 []) ∷ say (codes "set") ∷ [])) [] ∷
    function [] ty_d [] (seq (say (codes "make") ∷ d 2 ∷ [])) [] ∷ [])

-- fn main() { let mut p = P { a: D(1), b: D(2) }; eat(p.a); println!("ate"); p.a = D(3); println!("end"); }
abbrev pub part_moved : Core
part_moved = program (main (Def 1 ∷ []) (scope (0 ∷ []) (init 0 (p 1 2) ∷ call 1 (move (dot (slot 0) 1 0) ∷ []) ∷ say (codes "ate") ∷ assign (dot (slot 0) 1 0) (d 3) ∷ say (codes "end") ∷ [])) [] ∷ [])

-- fn main() { let b = Box::new(D(1)); println!("{}", b.0); println!("end"); }
abbrev pub boxed : Core
boxed = program (main (roll-Ty (Ty-F.Boxed ty_d) ∷ []) (scope (0 ∷ []) (init 0 (roll-Expr (Expr-F.BoxNew ty_d (d 1))) ∷ show (copy (dot (deref (slot 0)) 0 0)) ∷ say (codes "end") ∷ [])) [] ∷ [])

-- fn main() { drop(D(1)); println!("end"); }
abbrev pub dropped : Core
dropped = program (main (ty_d ∷ []) (seq (roll-Expr (Expr-F.DropValue 0 (d 1)) ∷ say (codes "end") ∷ [])) [] ∷ [])

-- fn main() { let a = D(1); eat(a); println!("{}", a.0); }   rustc refuses it: the value is moved
abbrev pub moved_value : Core
moved_value = program (main (ty_d ∷ []) (scope (0 ∷ []) (init 0 (d 1) ∷ call 1 (move (slot 0) ∷ []) ∷ show (copy (dot (slot 0) 0 0)) ∷ [])) [] ∷ [])

-- struct W { d: D } impl Drop for W { fn drop(&mut self) { println!("drop W"); } }   fn main() { let w = W { d: D(1) }; println!("end"); }
abbrev pub owner_first : Core
owner_first = program_with (def (codes "W") (ty_d ∷ []) (Some 3) ∷ []) (record { methods = []; impls = [] }) (
    main (Def 2 ∷ []) (scope (0 ∷ []) (init 0 (build 2 (d 1 ∷ [])) ∷ say (codes "end") ∷ [])) [] ∷
    function (unique (Def 2) ∷ []) Unit (unique (Def 2) ∷ []) (say (codes "drop W")) [] ∷ [])
