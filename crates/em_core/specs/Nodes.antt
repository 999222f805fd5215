-- The nodes of an expression and of a type, by child numbers.
use Rattle.std.specs.Prelude.{ℕ, List, [], ◌∷◌, map, Option, Some, slice_get, option_and_then}
use Rattle.em_core.specs.declared.ty.Ty.{Ty}
use Rattle.em_core.specs.declared.ty.Ty.TheOpen.{Ty-F}
use Rattle.em_core.specs.declared.expr.Arm.{Arm, out-Arm}
use Rattle.em_core.specs.declared.expr.Expr.{Expr, out-Expr}
use Rattle.em_core.specs.declared.expr.Expr.TheOpen.{Expr-F}

-- the operands of an expression, in the order in which they stand
abbrev pub children : Expr-F Expr Arm → List Expr
children (Expr-F.Init s e) = e ∷ []
children (Expr-F.Assign p e) = e ∷ []
children (Expr-F.Unary op e) = e ∷ []
children (Expr-F.Binary op a b) = a ∷ b ∷ []
children (Expr-F.Compare op a b) = a ∷ b ∷ []
children (Expr-F.Build d v es) = es
children (Expr-F.ArrayOf t es) = es
children (Expr-F.Repeat e n) = e ∷ []
children (Expr-F.BoxNew t e) = e ∷ []
children (Expr-F.RangeOf closed a b) = a ∷ b ∷ []
children (Expr-F.Call f es) = es
children (Expr-F.CallDyn m es) = es
children (Expr-F.CallBy p es) = es
children (Expr-F.CallOnce e es) = e ∷ es
children (Expr-F.If c a b) = c ∷ a ∷ b ∷ []
children (Expr-F.Match p arms) = map (λ x. (out-Arm x).body) arms
children (Expr-F.Loop e) = e ∷ []
children (Expr-F.Return e) = e ∷ []
children (Expr-F.Scope ss e) = e ∷ []
children (Expr-F.Seq es) = es
children (Expr-F.Print ps es) = es
children (Expr-F.Panic ps es) = es
children (Expr-F.PanicValue t e) = e ∷ []
children (Expr-F.ToIter e) = e ∷ []
children (Expr-F.ToRefIter e) = e ∷ []
children (Expr-F.DropValue s e) = e ∷ []
children (Expr-F.Unsize t u e) = e ∷ []
children _ = []

-- the node that child numbers lead to
abbrev pub node_at : Expr → List ℕ → Option Expr
node_at e [] = Some e
node_at e (n ∷ p) = option_and_then (λ c. node_at c p) (slice_get (children (out-Expr e)) n)

-- the types that a type is made of
abbrev pub type_children : Ty-F Ty → List Ty
type_children (Ty-F.Array t n) = t ∷ []
type_children (Ty-F.Slice t) = t ∷ []
type_children (Ty-F.Ref t unique) = t ∷ []
type_children (Ty-F.Boxed t) = t ∷ []
type_children (Ty-F.DynFn kind ts t) = t ∷ ts
type_children (Ty-F.ArrayIter t) = t ∷ []
type_children (Ty-F.RefIter t) = t ∷ []
type_children _ = []
