-- Where a value of one type may stand for another, and what constants, operators, formats and iterators ask of types (Reference, "Type coercions", "Operator expressions"). Nothing here looks at a Core.
use Rattle.std.specs.Prelude.{◌≡◌, ◌⊎◌, ℕ, Bool, true, false, not, List, Option, Some, None, IsTrue, All, find, ◌<◌, length, slice_index_or, slice_get, unwrap_or, count_by, ◌-◌, if◌then◌else◌}
use Rattle.std.specs.List.{list_any}
use Rattle.em_core.specs.declared.ty.Ty.{Ty, out-Ty}
use Rattle.em_core.specs.declared.ty.Ty as ty
use Rattle.em_core.specs.declared.ty.Ty.TheOpen.{Ty-F}
use Rattle.em_core.specs.declared.ty.ClosureKind.{ClosureKind}
use Rattle.em_core.specs.declared.ty.ClosureKind.TheVariants.{Fn, FnMut, FnOnce}
use Rattle.em_core.specs.declared.expr.Piece.{Piece}
use Rattle.em_core.specs.declared.expr.Piece.TheVariants as piece
use Rattle.em_core.specs.declared.operator.Constant.{Constant}
use Rattle.em_core.specs.declared.operator.Constant.TheVariants as constant
use Rattle.em_core.specs.declared.operator.UnaryOp.{UnaryOp}
use Rattle.em_core.specs.declared.operator.UnaryOp.TheVariants as unary_op
use Rattle.em_core.specs.declared.operator.BinaryOp.{BinaryOp}
use Rattle.em_core.specs.declared.operator.BinaryOp.TheVariants as binary_op
use Rattle.em_core.specs.Arithmetic.{holds, is_signed}

-- ---- forms of types

abbrev pub is_never : Ty-F Ty → Bool
is_never Ty-F.Never = true
is_never _ = false

abbrev pub is_bool : Ty-F Ty → Bool
is_bool Ty-F.Bool = true
is_bool _ = false

abbrev pub is_int : Ty-F Ty → Bool
is_int (Ty-F.Int k) = true
is_int _ = false

abbrev pub is_str : Ty-F Ty → Bool
is_str Ty-F.Str = true
is_str _ = false

abbrev pub is_closure : Ty-F Ty → Bool
is_closure (Ty-F.Closure id copy drop_free refers) = true
is_closure _ = false

abbrev pub is_closure_object : Ty-F Ty → Bool
is_closure_object (Ty-F.DynFn k ts t) = true
is_closure_object _ = false

-- Str, Slice, Dyn and DynFn stand only behind Ref or Boxed
abbrev pub is_sized : Ty-F Ty → Bool
is_sized Ty-F.Str = false
is_sized (Ty-F.Slice t) = false
is_sized (Ty-F.Dyn n) = false
is_sized (Ty-F.DynFn k ts t) = false
is_sized _ = true

-- ---- types that fit

-- a unique reference where a shared one is asked
unfoldable pub Reborrows : Ty-F Ty → Ty-F Ty → Type 0
Reborrows (Ty-F.Ref t true) (Ty-F.Ref u false) = t ≡ u
Reborrows _ _ = ⊥

-- where a value of the second type is asked, one of the first may stand: the same, Never, or a unique reference for a shared one
unfoldable pub Fits : Ty → Ty → Type 0
Fits t u = (t ≡ u) ⊎ IsTrue (is_never (out-Ty t)) ⊎ Reborrows (out-Ty t) (out-Ty u)

-- one for one
unfoldable pub AllFit : List Ty → List Ty → Type 0
AllFit ts us = (length ts ≡ length us) × ((k : ℕ) (d : Ty) → k < length ts → Fits (slice_index_or ts k d) (slice_index_or us k d))

unfoldable pub EachFits : List Ty → Ty → Type 0
EachFits ts u = All (λ t. Fits t u) ts

unfoldable pub EachIs : List Ty → Ty → Type 0
EachIs ts u = All (λ t. t ≡ u) ts

-- branches have equal types or Never
abbrev pub branch_type : List Ty → Ty
branch_type ts = unwrap_or (find (λ t. not (is_never (out-Ty t))) ts) ty.Never

unfoldable pub BranchesFit : List Ty → Ty → Type 0
BranchesFit ts u = All (λ t. IsTrue (is_never (out-Ty t)) ⊎ (t ≡ u)) ts

-- the type of a sequence: the last one's, but Never where one never gives a value
abbrev pub last_type : List Ty → Ty
last_type ts = unwrap_or (slice_get ts (length ts - 1)) ty.Unit

abbrev pub sequence_type : List Ty → Ty
sequence_type ts = if list_any (λ t. is_never (out-Ty t)) ts then ty.Never else last_type ts

-- ---- constants, operators, formats

abbrev pub constant_type : Constant → Ty
constant_type (constant.Int k z) = ty.Int k
constant_type (constant.Bool b) = ty.Bool
constant_type (constant.Char c) = ty.Char
constant_type (constant.Text x) = ty.Ref ty.Str false
constant_type constant.Unit = ty.Unit

abbrev pub constant_fits : Constant → Bool
constant_fits (constant.Int k z) = holds k z
constant_fits _ = true

abbrev pub is_signed_int : Ty-F Ty → Bool
is_signed_int (Ty-F.Int k) = is_signed k
is_signed_int _ = false

abbrev pub unary_takes : UnaryOp → Ty-F Ty → Bool
unary_takes unary_op.Negate t = is_signed_int t
unary_takes unary_op.Not (Ty-F.Int k) = true
unary_takes unary_op.Not Ty-F.Bool = true
unary_takes unary_op.Not _ = false

abbrev pub is_bitwise : BinaryOp → Bool
is_bitwise binary_op.And = true
is_bitwise binary_op.Or = true
is_bitwise binary_op.Xor = true
is_bitwise _ = false

abbrev pub binary_takes : BinaryOp → Ty-F Ty → Bool
binary_takes op (Ty-F.Int k) = true
binary_takes op Ty-F.Bool = is_bitwise op
binary_takes op _ = false

abbrev pub is_compared : Ty-F Ty → Bool
is_compared (Ty-F.Int k) = true
is_compared Ty-F.Bool = true
is_compared Ty-F.Char = true
is_compared _ = false

-- what `{}` may write
abbrev pub is_shown : Ty-F Ty → Bool
is_shown (Ty-F.Int k) = true
is_shown Ty-F.Bool = true
is_shown Ty-F.Char = true
is_shown (Ty-F.Ref t unique) = is_str (out-Ty t)
is_shown _ = false

abbrev pub is_argument : Piece → Bool
is_argument piece.Argument = true
is_argument (piece.Text t) = false

abbrev pub argument_count : List Piece → ℕ
argument_count ps = count_by is_argument ps

-- ---- iterators and ranges

abbrev pub element_type : Ty-F Ty → Option Ty
element_type (Ty-F.Array t n) = Some t
element_type (Ty-F.Slice t) = Some t
element_type _ = None

-- the items of an iterator that `for` goes through
abbrev pub item_type : Ty-F Ty → Option Ty
item_type (Ty-F.ArrayIter t) = Some t
item_type (Ty-F.RefIter t) = Some t
item_type (Ty-F.Range k) = Some (ty.Int k)
item_type _ = None

-- the range between two integers of a type
abbrev pub range_type : Ty-F Ty → Option Ty
range_type (Ty-F.Int k) = Some (ty.Range k)
range_type _ = None

-- the iterator that an array or a range becomes
abbrev pub iterator_type : Ty-F Ty → Option Ty
iterator_type (Ty-F.Array t n) = Some (ty.ArrayIter t)
iterator_type (Ty-F.Range k) = Some (ty.Range k)
iterator_type _ = None

-- the iterator over references to the elements that a reference leads to
abbrev pub references_to : Bool → Option Ty → Option Ty
references_to unique (Some t) = Some (ty.RefIter (ty.Ref t unique))
references_to unique None = None

abbrev pub reference_iterator_type : Ty-F Ty → Option Ty
reference_iterator_type (Ty-F.Ref t unique) = references_to unique (element_type (out-Ty t))
reference_iterator_type _ = None

-- ---- calls

-- a closure of the first kind may be called as one of the second
abbrev pub is_at_least : ClosureKind → ClosureKind → Bool
is_at_least Fn k = true
is_at_least FnMut Fn = false
is_at_least FnMut k = true
is_at_least FnOnce FnOnce = true
is_at_least FnOnce k = false
