-- Match: which arm is taken, and what its pattern binds.
use Rattle.std.specs.Prelude.{ℕ, Bool, true, false, ◌&&◌, if◌then◌else◌, ◌==◌, List, [], ◌∷◌, map, Option, Some, None, bytes_eq}
use Rattle.em_core.specs.declared.expr.Expr.{Expr}
use Rattle.em_core.specs.declared.expr.Arm.{Arm, out-Arm}
use Rattle.em_core.specs.declared.operator.CompareOp.{CompareOp}
use Rattle.em_core.specs.declared.operator.CompareOp.TheVariants as compare
use Rattle.em_core.specs.declared.pattern.Binding.{Binding}
use Rattle.em_core.specs.declared.pattern.Binding.TheVariants as binding
use Rattle.em_core.specs.declared.pattern.Pattern.{Pattern}
use Rattle.em_core.specs.declared.pattern.PatternPart.{PatternPart}
use Rattle.em_core.specs.declared.pattern.Test.{Test}
use Rattle.em_core.specs.declared.pattern.Test.TheVariants as test
use Rattle.em_core.specs.declared.pattern.VariantField.{VariantField}
use Rattle.em_core.specs.Values.{Try, Done, Invalid, Stuck, and_then, Fld, Address, Value, Truth, Text, Struct, Refers, Moved, Hole}
use Rattle.em_core.specs.Arithmetic.{of_compare, of_constant}
use Rattle.em_core.specs.States.{State, Frame, all_frames, with_frames, with_cells, with_cell, look, read, write}
use Rattle.em_core.specs.Places.{below_address}

-- what a test says of a part that stands; a binding asks nothing
abbrev pub variant_test : Value → (d k : ℕ) → Try Bool
variant_test (Struct e l vs) d k = if d == e then Done (k == l) else Stuck
variant_test Moved d k = Invalid
variant_test Hole d k = Invalid
variant_test _ d k = Stuck

abbrev pub truth_in : Value → Try Bool
truth_in (Truth b) = Done b
truth_in _ = Stuck

abbrev pub equal_test : Value → Value → Try Bool
equal_test (Text t) (Text u) = Done (bytes_eq t u)
equal_test Moved w = Invalid
equal_test Hole w = Invalid
equal_test v w = and_then (of_compare compare.Equal v w) truth_in

abbrev pub order_test : CompareOp → Value → Value → Try Bool
order_test op Moved w = Invalid
order_test op Hole w = Invalid
order_test op v w = and_then (of_compare op v w) truth_in

abbrev pub both_hold : Bool → Bool → Bool
both_hold a b = a && b

abbrev pub passes : List Frame → Address → Test → Try Bool
passes fs a (test.Variant d k) = and_then (look fs a) (λ v. variant_test v d k)
passes fs a (test.Equal c) = and_then (look fs a) (λ v. equal_test v (of_constant c))
passes fs a (test.Within low high) =
    and_then (look fs a) (λ v. and_then (order_test compare.GreaterOrEqual v (of_constant low)) (λ x. and_then (order_test compare.LessOrEqual v (of_constant high)) (λ y. Done (both_hold x y))))
passes fs a (test.Bind s how) = Done true

abbrev pub part_address : Address → List VariantField → Address
part_address a p = below_address a (map (λ f. Fld f.def f.variant f.field) p)

-- a pattern matches where each of its tests passes; from the left, the first that does not decides
abbrev pub matches : List Frame → Address → List PatternPart → Try Bool
matches fs a [] = Done true
matches fs a (t ∷ ts) =
    let r = matches fs a ts in
    and_then (passes fs (part_address a t.path) t.test) (λ b. if b then r else Done false)

-- the first pattern that matches
abbrev pub first_pattern : List Frame → Address → List Pattern → Try (Option Pattern)
first_pattern fs a [] = Done None
first_pattern fs a (p ∷ ps) =
    let r = first_pattern fs a ps in
    and_then (matches fs a p.parts) (λ b. if b then Done (Some p) else r)

abbrev pub with_body : Expr → Option Pattern → Try (Option (Pattern × Expr)) → Try (Option (Pattern × Expr))
with_body e (Some p) r = Done (Some (p, e))
with_body e None r = r

-- the first arm with a pattern that matches
abbrev pub first_arm : List Frame → Address → List Arm → Try (Option (Pattern × Expr))
first_arm fs a [] = Done None
first_arm fs a (x ∷ xs) =
    let r = first_arm fs a xs in
    and_then (first_pattern fs a (out-Arm x).patterns) (λ o. with_body (out-Arm x).body o r)

-- a binding copies, moves or refers
abbrev pub into_slot : State → ℕ → Value → State
into_slot st s v = with_cells st (with_cell st.top.cells s (Some v))

abbrev pub bound : State → Address → ℕ → Binding → Try State
bound st a s binding.Copy = and_then (read (all_frames st) a) (λ v. Done (into_slot st s v))
bound st a s binding.Move = and_then (read (all_frames st) a) (λ v. and_then (write (all_frames st) a Moved) (λ fs. Done (into_slot (with_frames st fs) s v)))
bound st a s binding.Shared = Done (into_slot st s (Refers a))
bound st a s binding.Unique = Done (into_slot st s (Refers a))

abbrev pub bind_part : State → Address → Test → Try State
bind_part st a (test.Bind s how) = bound st a s how
bind_part st a _ = Done st

abbrev pub bind_parts : State → Address → List PatternPart → Try State
bind_parts st a [] = Done st
bind_parts st a (t ∷ ts) = and_then (bind_part st (part_address a t.path) t.test) (λ q. bind_parts q a ts)
