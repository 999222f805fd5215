-- Operators on values, with the panics of Rust's checked arithmetic (Reference, "Operator expressions", "Overflow"), and the text that `{}` writes.
use Rattle.std.specs.Prelude.{ℕ, ◌-◌, ◌*◌, ◌%◌, ◌^◌, ℤ, pos, negsuc, ◌+ℤ◌, ◌-ℤ◌, ◌*ℤ◌, neg_ℤ, Bool, true, false, not, ◌&&◌, ◌||◌, if◌then◌else◌, ◌==◌, nat_lt, nat_le, List, ◌++◌, int_lt, int_le, int_div, int_rem, bit_and, bit_or, bit_xor, codes, decimal, encode_utf8}
use Rattle.std.specs.Int.{Width, w8, w16, w32, w64, cast_unsigned, cast_signed, int_shr}
use Rattle.std.specs.Fmt.{signed_decimal}
use Rattle.em_base.specs.declared.int_kind.IntKind.{IntKind}
use Rattle.em_base.specs.declared.int_kind.IntKind.TheVariants.{I8, I16, I32, I64, Isize, U8, U16, U32, U64, Usize}
use Rattle.em_core.specs.declared.operator.Constant.{Constant}
use Rattle.em_core.specs.declared.operator.Constant.TheVariants as constant
use Rattle.em_core.specs.declared.operator.UnaryOp.{UnaryOp}
use Rattle.em_core.specs.declared.operator.UnaryOp.TheVariants as unary
use Rattle.em_core.specs.declared.operator.BinaryOp.{BinaryOp}
use Rattle.em_core.specs.declared.operator.BinaryOp.TheVariants as binary
use Rattle.em_core.specs.declared.operator.CompareOp.{CompareOp}
use Rattle.em_core.specs.declared.operator.CompareOp.TheVariants as compare
use Rattle.em_core.specs.Values.{Panicked, Try, Done, Panics, Stuck, Value, Number, Truth, Character, Text, UnitValue, same_kind}

abbrev pub width : IntKind → Width
width I8 = w8
width I16 = w16
width I32 = w32
width I64 = w64
width Isize = w64
width U8 = w8
width U16 = w16
width U32 = w32
width U64 = w64
width Usize = w64

abbrev pub bit_count : IntKind → ℕ
bit_count I8 = 8
bit_count I16 = 16
bit_count I32 = 32
bit_count I64 = 64
bit_count Isize = 64
bit_count U8 = 8
bit_count U16 = 16
bit_count U32 = 32
bit_count U64 = 64
bit_count Usize = 64

abbrev pub is_signed : IntKind → Bool
is_signed I8 = true
is_signed I16 = true
is_signed I32 = true
is_signed I64 = true
is_signed Isize = true
is_signed U8 = false
is_signed U16 = false
is_signed U32 = false
is_signed U64 = false
is_signed Usize = false

-- the least number of a type, and the greatest
abbrev pub least : IntKind → ℤ
least k = if is_signed k then neg_ℤ (pos (2 ^ (bit_count k - 1))) else pos 0

abbrev pub greatest : IntKind → ℤ
greatest k = if is_signed k then pos (2 ^ (bit_count k - 1) - 1) else pos (2 ^ bit_count k - 1)

abbrev pub holds : IntKind → ℤ → Bool
holds k z = int_le (least k) z && int_le z (greatest k)

abbrev pub panic_text : List ℕ → Try Value
panic_text text = Panics (Panicked text)

-- the number, or a panic where the type does not hold it
abbrev pub within : IntKind → ℤ → List ℕ → Try Value
within k z text = if holds k z then Done (Number k z) else panic_text text

abbrev pub is_zero : ℤ → Bool
is_zero (pos n) = n == 0
is_zero (negsuc n) = false

-- a number as its bits in two's complement, and back
abbrev pub bits_of : IntKind → ℤ → ℕ
bits_of k z = cast_unsigned (width k) z

abbrev pub of_bits : IntKind → ℕ → ℤ
of_bits k n = if is_signed k then cast_signed (width k) n else pos n

-- by how many bits a shift goes, or a panic where that is not less than the type has
abbrev pub shifted : IntKind → ℤ → List ℕ → (ℕ → ℤ) → Try Value
shifted k (pos n) text f = if nat_lt n (bit_count k) then Done (Number k (f n)) else panic_text text
shifted k (negsuc n) text f = panic_text text

abbrev pub of_numbers : BinaryOp → IntKind → ℤ → ℤ → Try Value
of_numbers binary.Add k x y = within k (x +ℤ y) (codes "attempt to add with overflow")
of_numbers binary.Subtract k x y = within k (x -ℤ y) (codes "attempt to subtract with overflow")
of_numbers binary.Multiply k x y = within k (x *ℤ y) (codes "attempt to multiply with overflow")
of_numbers binary.Divide k x y = if is_zero y then panic_text (codes "attempt to divide by zero") else within k (int_div x y) (codes "attempt to divide with overflow")
of_numbers binary.Remainder k x y =
    if is_zero y then panic_text (codes "attempt to calculate the remainder with a divisor of zero")
    else (if holds k (int_div x y) then Done (Number k (int_rem x y)) else panic_text (codes "attempt to calculate the remainder with overflow"))
of_numbers binary.And k x y = Done (Number k (of_bits k (bit_and (bits_of k x) (bits_of k y))))
of_numbers binary.Or k x y = Done (Number k (of_bits k (bit_or (bits_of k x) (bits_of k y))))
of_numbers binary.Xor k x y = Done (Number k (of_bits k (bit_xor (bits_of k x) (bits_of k y))))
of_numbers binary.ShiftLeft k x y = shifted k y (codes "attempt to shift left with overflow") (λ n. of_bits k ((bits_of k x * 2 ^ n) % 2 ^ bit_count k))
of_numbers binary.ShiftRight k x y = shifted k y (codes "attempt to shift right with overflow") (λ n. int_shr x n)

abbrev pub is_same_truth : Bool → Bool → Bool
is_same_truth true b = b
is_same_truth false b = not b

abbrev pub of_truths : BinaryOp → Bool → Bool → Try Value
of_truths binary.And a b = Done (Truth (a && b))
of_truths binary.Or a b = Done (Truth (a || b))
of_truths binary.Xor a b = Done (Truth (not (is_same_truth a b)))
of_truths _ a b = Stuck

-- Binary: the result, or a panic
abbrev pub of_binary : BinaryOp → Value → Value → Try Value
of_binary op (Number k x) (Number j y) = if same_kind k j then of_numbers op k x y else Stuck
of_binary op (Truth a) (Truth b) = of_truths op a b
of_binary op _ _ = Stuck

-- Unary: the result, or a panic
abbrev pub of_unary : UnaryOp → Value → Try Value
of_unary unary.Negate (Number k x) = within k (neg_ℤ x) (codes "attempt to negate with overflow")
of_unary unary.Not (Number k x) = Done (Number k (of_bits k (2 ^ bit_count k - 1 - bits_of k x)))
of_unary unary.Not (Truth b) = Done (Truth (not b))
of_unary _ _ = Stuck

-- an order, told by 'less' and 'less or equal'
abbrev pub of_order : CompareOp → (less at_most : Bool) → Bool
of_order compare.Equal less at_most = at_most && not less
of_order compare.NotEqual less at_most = not (at_most && not less)
of_order compare.Less less at_most = less
of_order compare.LessOrEqual less at_most = at_most
of_order compare.Greater less at_most = not at_most
of_order compare.GreaterOrEqual less at_most = not less

-- Compare: a truth value. `false` is less than `true`
abbrev pub of_compare : CompareOp → Value → Value → Try Value
of_compare op (Number k x) (Number j y) = if same_kind k j then Done (Truth (of_order op (int_lt x y) (int_le x y))) else Stuck
of_compare op (Character c) (Character d) = Done (Truth (of_order op (nat_lt c d) (nat_le c d)))
of_compare op (Truth a) (Truth b) = Done (Truth (of_order op (not a && b) (not a || b)))
of_compare op _ _ = Stuck

-- the value that a literal gives
abbrev pub of_constant : Constant → Value
of_constant (constant.Int k z) = Number k z
of_constant (constant.Bool b) = Truth b
of_constant (constant.Char c) = Character c
of_constant (constant.Text t) = Text t
of_constant constant.Unit = UnitValue

-- what `{}` writes of a value
abbrev pub shown : Value → Try (List ℕ)
shown (Number k z) = Done (signed_decimal z)
shown (Truth true) = Done (codes "true")
shown (Truth false) = Done (codes "false")
shown (Character c) = Done (encode_utf8 c)
shown (Text t) = Done t
shown _ = Stuck

-- the message of an index out of bounds
abbrev pub bounds_text : (len index : ℕ) → List ℕ
bounds_text l i = codes "index out of bounds: the len is " ++ decimal l ++ codes " but the index is " ++ decimal i
