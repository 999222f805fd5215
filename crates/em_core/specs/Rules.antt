-- The types of expressions: for each form, what it gives and what it asks of its operands (Reference, "Expressions").
use Rattle.std.specs.Prelude.{◌≡◌, ◌<◌, Bool, true, false, ◌||◌, if◌then◌else◌, List, [], ◌∷◌, length, Option, Some, None, IsTrue, IsSomeAnd, All, slice_get, option_map, option_and_then, ⊤}
use Rattle.em_core.specs.declared.ty.Ty.{Ty, out-Ty}
use Rattle.em_core.specs.declared.ty.Ty as ty
use Rattle.em_core.specs.declared.ty.ClosureKind.TheVariants.{FnMut, FnOnce}
use Rattle.em_core.specs.declared.expr.Arm.{Arm}
use Rattle.em_core.specs.declared.expr.Expr.{Expr, out-Expr}
use Rattle.em_core.specs.declared.expr.Expr.TheOpen.{Expr-F}
use Rattle.em_core.specs.declared.expr.Piece.{Piece}
use Rattle.em_core.specs.declared.function.Variable.{Variable}
use Rattle.em_core.specs.declared.program.Core.{Core}
use Rattle.em_core.specs.Facts.{closure_of}
use Rattle.em_core.specs.Fitting.{AllFit, EachFits, EachIs, branch_type, BranchesFit, sequence_type, constant_type, constant_fits, unary_takes, binary_takes, is_bool, is_compared, is_shown, is_sized, argument_count, item_type, range_type, iterator_type, reference_iterator_type}
use Rattle.em_core.specs.Naming.{ObjectFits, variant_at, place_type, VariableStands, result_of, unboxed, MayCall, Unsizes, ArmFits}
use Rattle.em_core.specs.Nodes.{children}
use Rattle.em_core.specs.Types.{IsCopy, ValueTypeOk}

abbrev pub first_type : List Ty → Option Ty
first_type [] = None
first_type (t ∷ ts) = Some t

abbrev pub rest_types : List Ty → List Ty
rest_types [] = []
rest_types (t ∷ ts) = ts

-- whether the operands of an expression stand in a loop
abbrev pub in_loop : Bool → Expr-F Expr Arm → Bool
in_loop looping (Expr-F.Loop e) = true
in_loop looping _ = looping

-- whether an expression may end the loop around it, where that is told of its operands
abbrev pub may_end : Expr-F Expr Arm → Bool → Bool
may_end Expr-F.Break ends = true
may_end (Expr-F.Next p s) ends = true
may_end (Expr-F.Loop e) ends = false
may_end _ ends = ends

abbrev pub loop_type : Bool → Ty
loop_type ends = if ends then ty.Unit else ty.Never

-- a format has as many arguments as places for them, and each can be written
unfoldable pub FormatFits : List Piece → List Ty → Type 0
FormatFits ps ts = (argument_count ps ≡ length ts) × All (λ t. IsTrue (is_shown (out-Ty t))) ts

-- the first operand is a truth value
abbrev pub begins_with_bool : List Ty → Bool
begins_with_bool [] = false
begins_with_bool (t ∷ ts) = is_bool (out-Ty t)

-- both operands have one type, which can be compared
unfoldable pub ComparesFit : List Ty → Type 0
ComparesFit ts = IsSomeAnd (first_type ts) (λ t. EachIs ts t × IsTrue (is_compared (out-Ty t)))

unfoldable pub OneType : List Ty → Type 0
OneType ts = IsSomeAnd (first_type ts) (λ t. EachIs ts t)

-- an expression in a body with these slots and captured variables, and with this result
module _ (core : Core) (slots : List Ty) (roots : List Variable) (result : Ty) where
  -- the type that a form gives whose operands give these types, and may end the loop around or not
  abbrev pub type_given : Expr-F Expr Arm → List Ty → (ends : Bool) → Option Ty
  type_given (Expr-F.Const c) ts ends = Some (constant_type c)
  type_given (Expr-F.Copy p) ts ends = place_type core slots roots p
  type_given (Expr-F.Move p) ts ends = place_type core slots roots p
  type_given (Expr-F.Ref p unique) ts ends = option_map (λ t. ty.Ref t unique) (place_type core slots roots p)
  type_given (Expr-F.Init s e) ts ends = Some ty.Unit
  type_given (Expr-F.Assign p e) ts ends = Some ty.Unit
  type_given (Expr-F.Unary op e) ts ends = first_type ts
  type_given (Expr-F.Binary op a b) ts ends = first_type ts
  type_given (Expr-F.Compare op a b) ts ends = Some ty.Bool
  type_given (Expr-F.Build d k es) ts ends = Some (ty.Def d)
  type_given (Expr-F.ArrayOf t es) ts ends = Some (ty.Array t (length es))
  type_given (Expr-F.Repeat e n) ts ends = option_map (λ t. ty.Array t n) (first_type ts)
  type_given (Expr-F.BoxNew t e) ts ends = Some (ty.Boxed t)
  type_given (Expr-F.RangeOf closed a b) ts ends = option_and_then (λ t. range_type (out-Ty t)) (first_type ts)
  type_given (Expr-F.MakeClosure id) ts ends = option_map (λ c. c.ty) (closure_of core id)
  type_given (Expr-F.Call f es) ts ends = option_map (λ g. g.result) (slice_get core.functions f)
  type_given (Expr-F.CallDyn m es) ts ends = option_map (λ s. s.result) (option_and_then (λ x. x.on_object) (slice_get core.methods.methods m))
  type_given (Expr-F.CallBy p es) ts ends = option_and_then (λ t. result_of core (out-Ty t)) (place_type core slots roots p)
  type_given (Expr-F.CallOnce e es) ts ends = option_and_then (λ t. result_of core (out-Ty (unboxed t (out-Ty t)))) (first_type ts)
  type_given (Expr-F.If c a b) ts ends = Some (branch_type (rest_types ts))
  type_given (Expr-F.Match p arms) ts ends = Some (branch_type ts)
  type_given (Expr-F.Loop e) ts ends = Some (loop_type ends)
  type_given Expr-F.Break ts ends = Some ty.Never
  type_given Expr-F.Continue ts ends = Some ty.Never
  type_given (Expr-F.Return e) ts ends = Some ty.Never
  type_given (Expr-F.Scope ss e) ts ends = first_type ts
  type_given (Expr-F.Seq es) ts ends = Some (sequence_type ts)
  type_given (Expr-F.Print ps es) ts ends = Some ty.Unit
  type_given (Expr-F.Panic ps es) ts ends = Some ty.Never
  type_given (Expr-F.PanicValue t e) ts ends = Some ty.Never
  type_given (Expr-F.ToIter e) ts ends = option_and_then (λ t. iterator_type (out-Ty t)) (first_type ts)
  type_given (Expr-F.ToRefIter e) ts ends = option_and_then (λ t. reference_iterator_type (out-Ty t)) (first_type ts)
  type_given (Expr-F.Next p s) ts ends = Some ty.Unit
  type_given (Expr-F.DropValue s e) ts ends = Some ty.Unit
  type_given (Expr-F.Unsize t u e) ts ends = Some u

  -- what a form asks of the types of its operands, and of the type that it gives, inside a loop or not
  unfoldable pub Asks : (looping : Bool) → Expr-F Expr Arm → List Ty → (given : Ty) → Type 0
  Asks looping (Expr-F.Const c) ts r = IsTrue (constant_fits c)
  Asks looping (Expr-F.Copy p) ts r = IsCopy core r
  Asks looping (Expr-F.Move p) ts r = IsTrue (is_sized (out-Ty r))
  Asks looping (Expr-F.Ref p unique) ts r = ⊤
  Asks looping (Expr-F.Init s e) ts r = IsSomeAnd (slice_get slots s) (λ u. EachFits ts u)
  Asks looping (Expr-F.Assign p e) ts r = IsSomeAnd (place_type core slots roots p) (λ u. EachFits ts u)
  Asks looping (Expr-F.Unary op e) ts r = IsTrue (unary_takes op (out-Ty r))
  Asks looping (Expr-F.Binary op a b) ts r = EachIs ts r × IsTrue (binary_takes op (out-Ty r))
  Asks looping (Expr-F.Compare op a b) ts r = ComparesFit ts
  Asks looping (Expr-F.Build d k es) ts r = IsSomeAnd (variant_at core d k) (λ v. AllFit ts v.fields)
  Asks looping (Expr-F.ArrayOf t es) ts r = ValueTypeOk core t × EachFits ts t
  Asks looping (Expr-F.Repeat e n) ts r = All (λ t. IsCopy core t) ts
  Asks looping (Expr-F.BoxNew t e) ts r = ValueTypeOk core t × EachFits ts t
  Asks looping (Expr-F.RangeOf closed a b) ts r = OneType ts
  Asks looping (Expr-F.MakeClosure id) ts r = IsSomeAnd (closure_of core id) (λ c. All (λ x. VariableStands slots roots x) c.variables)
  Asks looping (Expr-F.Call f es) ts r = IsSomeAnd (slice_get core.functions f) (λ g. AllFit ts g.parameters)
  Asks looping (Expr-F.CallDyn m es) ts r = IsSomeAnd (slice_get core.methods.methods m) (λ x. ObjectFits x ts)
  Asks looping (Expr-F.CallBy p es) ts r = IsSomeAnd (place_type core slots roots p) (λ t. MayCall core t FnMut ts)
  Asks looping (Expr-F.CallOnce e es) ts r = IsSomeAnd (first_type ts) (λ t. MayCall core (unboxed t (out-Ty t)) FnOnce (rest_types ts))
  Asks looping (Expr-F.If c a b) ts r = IsTrue (begins_with_bool ts) × BranchesFit (rest_types ts) r
  Asks looping (Expr-F.Match p arms) ts r = IsSomeAnd (place_type core slots roots p) (λ t. All (λ x. ArmFits core slots t x) arms) × BranchesFit ts r
  Asks looping (Expr-F.Loop e) ts r = EachFits ts ty.Unit
  Asks looping Expr-F.Break ts r = IsTrue looping
  Asks looping Expr-F.Continue ts r = IsTrue looping
  Asks looping (Expr-F.Return e) ts r = EachFits ts result
  Asks looping (Expr-F.Scope ss e) ts r = All (λ s. s < length slots) ss
  Asks looping (Expr-F.Seq es) ts r = ⊤
  Asks looping (Expr-F.Print ps es) ts r = FormatFits ps ts
  Asks looping (Expr-F.Panic ps es) ts r = FormatFits ps ts
  Asks looping (Expr-F.PanicValue t e) ts r = ValueTypeOk core t × EachIs ts t
  Asks looping (Expr-F.ToIter e) ts r = ⊤
  Asks looping (Expr-F.ToRefIter e) ts r = ⊤
  Asks looping (Expr-F.Next p s) ts r = IsTrue looping × IsSomeAnd (option_and_then (λ t. item_type (out-Ty t)) (place_type core slots roots p)) (λ i. slice_get slots s ≡ Some i)
  Asks looping (Expr-F.DropValue s e) ts r = IsSomeAnd (slice_get slots s) (λ u. EachIs ts u)
  Asks looping (Expr-F.Unsize t u e) ts r = ValueTypeOk core t × ValueTypeOk core u × EachFits ts t × Unsizes core (out-Ty t) (out-Ty u)

  -- the expression gives a value of this type, and may end the loop around it or not
  mutual
    pub data Gives : (looping : Bool) → Expr → Ty → (ends : Bool) → Type 0 where
      gives : {looping : Bool} {e : Expr} {ts : List Ty} {t : Ty} {ends : Bool} → GivesAll (in_loop looping (out-Expr e)) (children (out-Expr e)) ts ends
          → type_given (out-Expr e) ts ends ≡ Some t → Asks looping (out-Expr e) ts t → Gives looping e t (may_end (out-Expr e) ends)

    pub data GivesAll : (looping : Bool) → List Expr → List Ty → (ends : Bool) → Type 0 where
      none : {looping : Bool} → GivesAll looping [] [] false
      more : {looping : Bool} {e : Expr} {es : List Expr} {t : Ty} {ts : List Ty} {one others : Bool} → Gives looping e t one → GivesAll looping es ts others → GivesAll looping (e ∷ es) (t ∷ ts) (one || others)
