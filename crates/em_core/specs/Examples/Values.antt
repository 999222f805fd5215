-- Control and values: iterators, match, loops, trait objects, formats.
use Rattle.std.specs.Prelude.{ℕ, pos, negsuc, true, List, [], ◌∷◌, Some, None, codes, map}
use Rattle.em_core.specs.declared.ty.Ty.{Ty, Def, Unit, Dyn, roll-Ty}
use Rattle.em_core.specs.declared.ty.Ty.TheOpen.{Ty-F}
use Rattle.em_base.specs.declared.int_kind.IntKind.TheVariants.{I32, U8}
use Rattle.em_core.specs.declared.expr.Expr.{Expr, roll-Expr}
use Rattle.em_core.specs.declared.expr.Expr.TheOpen.{Expr-F}
use Rattle.em_core.specs.declared.expr.Arm.{Arm, roll-Arm}
use Rattle.em_core.specs.declared.expr.Piece.TheVariants as piece
use Rattle.em_core.specs.declared.operator.Constant.{Constant}
use Rattle.em_core.specs.declared.operator.Constant.TheVariants as constant
use Rattle.em_core.specs.declared.operator.UnaryOp.TheVariants as unary
use Rattle.em_core.specs.declared.pattern.Test.{Test}
use Rattle.em_core.specs.declared.pattern.PatternPart.{PatternPart}
use Rattle.em_core.specs.declared.pattern.Binding.{Binding}
use Rattle.em_core.specs.declared.pattern.Binding.TheVariants as binding
use Rattle.em_core.specs.declared.pattern.Test.TheVariants as test
use Rattle.em_core.specs.declared.methods.Owner.TheVariants as owner
use Rattle.em_core.specs.declared.methods.Receiver.TheVariants as receiver
use Rattle.em_core.specs.declared.program.Core.{Core}
use Rattle.em_core.specs.Examples.Short.{int, ty_d, shared, array, unit, num, slot, dot, deref, copy, borrow, seq, scope, init, equal, choose, loop, call, say, say_and_show, show, d, def, function, main, program, program_with}

abbrev pub two : Expr
two = roll-Expr (Expr-F.ArrayOf ty_d (d 1 ∷ d 2 ∷ []))

-- for x in ..: an iterator, and a loop that takes its next item
abbrev pub each : Expr → ℕ → ℕ → List Expr → Expr
each it s x es = scope (s ∷ []) (init s it ∷ loop (scope (x ∷ []) (roll-Expr (Expr-F.Next (slot s) x) ∷ es)) ∷ [])

-- fn main() { for x in [D(1), D(2)] { println!("{}", x.0); } println!("end"); }
abbrev pub by_value : Core
by_value = program (main (roll-Ty (Ty-F.ArrayIter ty_d) ∷ ty_d ∷ []) (seq (each (roll-Expr (Expr-F.ToIter two)) 0 1 (show (copy (dot (slot 1) 0 0)) ∷ []) ∷ say (codes "end") ∷ [])) [] ∷ [])

-- fn main() { for x in [D(1), D(2)] { break; } println!("end"); }
abbrev pub broken_off : Core
broken_off = program (main (roll-Ty (Ty-F.ArrayIter ty_d) ∷ ty_d ∷ []) (seq (each (roll-Expr (Expr-F.ToIter two)) 0 1 (roll-Expr Expr-F.Break ∷ []) ∷ say (codes "end") ∷ [])) [] ∷ [])

-- fn main() { for x in [D(1), D(2)].iter() { println!("{}", x.0); } println!("end"); }
abbrev pub by_reference : Core
by_reference = program (main (array ty_d 2 ∷ roll-Ty (Ty-F.RefIter (shared ty_d)) ∷ shared ty_d ∷ []) (seq (
    scope (0 ∷ []) (init 0 two ∷ each (roll-Expr (Expr-F.ToRefIter (borrow (slot 0)))) 1 2 (show (copy (dot (deref (slot 2)) 0 0)) ∷ []) ∷ []) ∷ say (codes "end") ∷ [])) [] ∷ [])

-- fn main() { for i in 1..=3 { if i == 2 { continue; } println!("{}", i); } }
abbrev pub counted : Core
counted = program (main (roll-Ty (Ty-F.Range I32) ∷ int ∷ []) (each (roll-Expr (Expr-F.RangeOf true (num 1) (num 3))) 0 1 (choose (equal (copy (slot 1)) (num 2)) (roll-Expr Expr-F.Continue) unit ∷ show (copy (slot 1)) ∷ [])) [] ∷ [])

-- fn f(n: i32) -> i32 { let a = D(1); loop { let b = D(2); if n == 0 { return 5; } break; } println!("after"); 7 } fn main() { println!("{}", f(0)); println!("{}", f(1)); }
abbrev pub returns : Core
returns = program (main [] (seq (show (call 3 (num 0 ∷ [])) ∷ show (call 3 (num 1 ∷ [])) ∷ [])) [] ∷
    function (int ∷ []) int (int ∷ ty_d ∷ ty_d ∷ []) (scope (1 ∷ []) (init 1 (d 1) ∷
    loop (scope (2 ∷ []) (init 2 (d 2) ∷ choose (equal (copy (slot 0)) (num 0)) (roll-Expr (Expr-F.Return (num 5))) unit ∷ roll-Expr Expr-F.Break ∷ [])) ∷
    say (codes "after") ∷ num 7 ∷ [])) [] ∷ [])

abbrev pub is_variant : ℕ → PatternPart
is_variant k = record { path = []; test = test.Variant 2 k }

abbrev pub binds : Binding → PatternPart
binds how = record { path = record { def = 2; variant = 1; field = 0 } ∷ []; test = test.Bind 1 how }

abbrev pub arm : List PatternPart → Expr → Arm
arm ps e = roll-Arm (record { patterns = record { parts = ps } ∷ []; body = e })

-- enum O { None, Some(D) }   fn main() { let o = O::Some(D(1)); match o { O::None => println!("none"), O::Some(BINDING) => println!("got {}", x.0) } println!("end"); }
abbrev pub matched : Ty → Binding → Expr → Core
matched t how shown = program_with (record (def (codes "O") [] None) { variants = record { fields = [] } ∷ record { fields = ty_d ∷ [] } ∷ [] } ∷ []) (record { methods = []; impls = [] })
    (main (Def 2 ∷ t ∷ []) (scope (0 ∷ []) (init 0 (roll-Expr (Expr-F.Build 2 1 (d 1 ∷ []))) ∷
    scope (1 ∷ []) (roll-Expr (Expr-F.Match (slot 0) (arm (is_variant 0 ∷ []) (say (codes "none")) ∷ arm (is_variant 1 ∷ binds how ∷ []) (say_and_show (codes "got ") shown) ∷ [])) ∷ []) ∷
    say (codes "end") ∷ [])) [] ∷ [])

-- BINDING: x, and ref x
abbrev pub matched_by_move : Core
matched_by_move = matched ty_d binding.Move (copy (dot (slot 1) 0 0))

abbrev pub matched_by_reference : Core
matched_by_reference = matched (shared ty_d) binding.Shared (copy (dot (deref (slot 1)) 0 0))

-- fn main() { let x = 2; let 1 = x; println!("never"); }   rustc refuses it: the pattern may fail
abbrev pub failing_let : Core
failing_let = program (main (int ∷ []) (scope (0 ∷ []) (init 0 (num 2) ∷ roll-Expr (Expr-F.Match (slot 0) (arm (record { path = []; test = test.Equal (constant.Int I32 (pos 1)) } ∷ []) unit ∷ [])) ∷ say (codes "never") ∷ [])) [] ∷ [])

abbrev pub object : Ty
object = roll-Ty (Ty-F.Boxed (Dyn 0))

-- trait Show { fn show(&self); } impl Show for D { fn show(&self) { println!("show {}", self.0); } }   fn main() { let b: Box<dyn Show> = Box::new(D(1)); b.show(); println!("end"); }
abbrev pub trait_object : Core
trait_object = program_with [] (record {
  methods = record { owner = owner.Trait 0; name = codes "show"; receiver = receiver.Shared; function = None; on_object = Some (record { parameters = []; result = Unit }) } ∷ [];
  impls = record { of = 0; ty = ty_d; functions = record { method = 0; function = 3 } ∷ [] } ∷ [];
})
    (main (object ∷ []) (scope (0 ∷ []) (init 0 (roll-Expr (Expr-F.Unsize (roll-Ty (Ty-F.Boxed ty_d)) object (roll-Expr (Expr-F.BoxNew ty_d (d 1))))) ∷
    roll-Expr (Expr-F.CallDyn 0 (borrow (deref (slot 0)) ∷ [])) ∷ say (codes "end") ∷ [])) [] ∷
    function (shared ty_d ∷ []) Unit (shared ty_d ∷ []) (say_and_show (codes "show ") (copy (dot (deref (slot 0)) 0 0))) [] ∷ [])

-- fn main() { println!("{} and {}, {} {}", true, 'x', -5, "t"); }
abbrev pub formats : Core
formats = program (main [] (roll-Expr (Expr-F.Print (piece.Argument ∷ piece.Text (codes " and ") ∷ piece.Argument ∷ piece.Text (codes ", ") ∷ piece.Argument ∷ piece.Text (codes " t") ∷ [])
    (roll-Expr (Expr-F.Const (constant.Bool true)) ∷ roll-Expr (Expr-F.Const (constant.Char 120)) ∷ roll-Expr (Expr-F.Const (constant.Int I32 (negsuc 4))) ∷ []))) [] ∷ [])

abbrev pub one_test : List Test → Expr → Arm
one_test ts e = roll-Arm (record { patterns = map (λ t. record { parts = record { path = []; test = t } ∷ [] }) ts; body = e })

abbrev pub constant_i32 : ℕ → Constant
constant_i32 n = constant.Int I32 (pos n)

-- fn kind(n: i32) -> i32 { match n { 0 => 1, 1..=9 => 2, 10 | 20 => 3, _ => 4 } } fn main() { println!("{}", kind(0)); println!("{}", kind(5)); println!("{}", kind(20)); println!("{}", kind(11)); }
abbrev pub kinds : Core
kinds = program (main [] (seq (show (call 3 (num 0 ∷ [])) ∷ show (call 3 (num 5 ∷ [])) ∷ show (call 3 (num 20 ∷ [])) ∷ show (call 3 (num 11 ∷ [])) ∷ [])) [] ∷
    function (int ∷ []) int (int ∷ []) (roll-Expr (Expr-F.Match (slot 0) (
    one_test (test.Equal (constant_i32 0) ∷ []) (num 1) ∷
    one_test (test.Within (constant_i32 1) (constant_i32 9) ∷ []) (num 2) ∷
    one_test (test.Equal (constant_i32 10) ∷ test.Equal (constant_i32 20) ∷ []) (num 3) ∷
    roll-Arm (record { patterns = record { parts = [] } ∷ []; body = num 4 }) ∷ []))) [] ∷ [])

abbrev pub negated : Constant → Expr
negated c = roll-Expr (Expr-F.Unary unary.Not (roll-Expr (Expr-F.Const c)))

-- fn main() { println!("{}", !5); println!("{}", !0u8); println!("{}", !true); }
abbrev pub complements : Core
complements = program (main [] (seq (show (negated (constant_i32 5)) ∷ show (negated (constant.Int U8 (pos 0))) ∷ show (negated (constant.Bool true)) ∷ [])) [] ∷ [])
