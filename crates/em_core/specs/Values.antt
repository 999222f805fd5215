-- Events, outcomes, addresses and values, and how a part of a value is read and changed.
use Rattle.std.specs.Prelude.{ℕ, zero, suc, ℤ, Bool, true, false, ◌&&◌, if◌then◌else◌, ◌==◌, List, [], ◌∷◌, Option, Some, None}
use Rattle.em_core.specs.declared.ty.Ty.{Ty, out-Ty}
use Rattle.em_core.specs.declared.ty.Ty.TheOpen.{Ty-F}
use Rattle.em_base.specs.declared.int_kind.IntKind.{IntKind}
use Rattle.em_base.specs.declared.int_kind.IntKind.TheVariants.{I8, I16, I32, I64, Isize, U8, U16, U32, U64, Usize}

-- what is seen of a run
pub data Event : Type 0 where
  Printed : (text : List ℕ) → Event
  Panicked : (text : List ℕ) → Event
  PanickedWith : (ty : Ty) → Event
  Dropped : (def : ℕ) → Event
  Aborted : Event

-- what an operation of the machine gives: its result, a panic, an invalid access, or nothing, which no typed Core reaches
pub data Try (A : Type 0) : Type 0 where
  Done : A → Try A
  Panics : Event → Try A
  Invalid : Try A
  Stuck : Try A

abbrev pub and_then : {A B : Type 0} → Try A → (A → Try B) → Try B
and_then (Done a) f = f a
and_then (Panics e) f = Panics e
and_then Invalid f = Invalid
and_then Stuck f = Stuck

abbrev pub or_stuck : {A : Type 0} → Option A → Try A
or_stuck (Some a) = Done a
or_stuck None = Stuck

abbrev pub or_invalid : {A : Type 0} → Option A → Try A
or_invalid (Some a) = Done a
or_invalid None = Invalid

-- whose body runs: a function's or a closure's
pub data Code : Type 0 where
  Fn : (function : ℕ) → Code
  Cl : (id : ℕ) → Code

-- a type that a trait object can hide
pub data Tag : Type 0 where
  OfInt : IntKind → Tag
  OfBool : Tag
  OfChar : Tag
  OfUnit : Tag
  OfDef : ℕ → Tag
  OfClosure : ℕ → Tag
  OfOther : Tag

abbrev pub tag_in : Ty-F Ty → Tag
tag_in (Ty-F.Int k) = OfInt k
tag_in Ty-F.Bool = OfBool
tag_in Ty-F.Char = OfChar
tag_in Ty-F.Unit = OfUnit
tag_in (Ty-F.Def d) = OfDef d
tag_in (Ty-F.Closure id copy drop_free refers) = OfClosure id
tag_in _ = OfOther

abbrev pub kind_number : IntKind → ℕ
kind_number I8 = 0
kind_number I16 = 1
kind_number I32 = 2
kind_number I64 = 3
kind_number Isize = 4
kind_number U8 = 5
kind_number U16 = 6
kind_number U32 = 7
kind_number U64 = 8
kind_number Usize = 9

abbrev pub same_kind : IntKind → IntKind → Bool
same_kind k j = kind_number k == kind_number j

abbrev pub same_tag : Tag → Tag → Bool
same_tag (OfInt k) (OfInt j) = same_kind k j
same_tag OfBool OfBool = true
same_tag OfChar OfChar = true
same_tag OfUnit OfUnit = true
same_tag (OfDef d) (OfDef e) = d == e
same_tag (OfClosure i) (OfClosure j) = i == j
same_tag OfOther OfOther = true
same_tag _ _ = false

-- one step of an address. It names its owner, so that a place of another type is no place
pub data Step : Type 0 where
  Fld : (def variant field : ℕ) → Step
  Elem : ℕ → Step  -- an element of an array, or of what an iterator has left
  Inside : Tag → Step  -- what a box holds, of this type
  Rt : (id variable : ℕ) → Step  -- a captured variable of a closure

-- where a value stands: a part of a slot
pub record Address : Type 0 where
  pub frame : ℕ
  pub code : Code  -- the frame's
  pub slot : ℕ
  pub path : List Step

-- a part of a variable that is captured by reference
pub record Borrowed : Type 0 where
  pub part : List Step
  pub at : Address

mutual
  pub data Value : Type 0 where
    Number : IntKind → ℤ → Value
    Truth : Bool → Value
    Character : ℕ → Value
    Text : List ℕ → Value  -- a reference to a text
    UnitValue : Value
    Struct : (def variant : ℕ) (fields : Values) → Value
    Array : Values → Value
    Box : (content : Ty) → Value → Value  -- with the type that its content had when the box was made
    Refers : Address → Value
    Closure : (id : ℕ) (roots : Values) → Value  -- a Root for each captured variable
    Root : Value → List Borrowed → Value  -- what is captured by value, with Hole at the rest, and what is captured by reference
    Partial : (def variant : ℕ) (fields : Values) → Value  -- in a root: a struct of which only parts are captured; it is no value of its type
    Owned : Values → Value  -- an iterator over the elements that it has left
    Borrows : Address → (next count : ℕ) → Value  -- an iterator over references to the elements of an array, from one on
    Range : IntKind → (low above : ℤ) → Value  -- from the first up to, and without, the second
    Moved : Value
    Hole : Value

  pub data Values : Type 0 where
    no_more : Values
    more : Value → Values → Values

abbrev pub values_of : List Value → Values
values_of [] = no_more
values_of (v ∷ vs) = more v (values_of vs)

abbrev pub count_of : Values → ℕ
count_of no_more = 0
count_of (more v vs) = suc (count_of vs)

abbrev pub nth : Values → ℕ → Option Value
nth no_more i = None
nth (more v vs) zero = Some v
nth (more v vs) (suc i) = nth vs i

abbrev pub set_nth : Values → ℕ → Value → Values
set_nth no_more i x = no_more
set_nth (more v vs) zero x = more x vs
set_nth (more v vs) (suc i) x = more v (set_nth vs i x)

abbrev pub copies_of : ℕ → Value → Values
copies_of zero v = no_more
copies_of (suc n) v = more v (copies_of n v)

-- what a closure holds by value of a captured variable
abbrev pub held : Value → Try Value
held (Root v bs) = Done v
held _ = Stuck

-- the part one step down. A part of Moved or Hole is no part, and neither is a field of another variant or what a box no longer holds
abbrev pub child : Value → Step → Try Value
child (Struct d k vs) (Fld e l i) = if d == e then (if k == l then or_stuck (nth vs i) else Invalid) else Stuck
child (Partial d k vs) (Fld e l i) = if d == e then (if k == l then or_stuck (nth vs i) else Invalid) else Stuck
child (Array vs) (Elem i) = or_stuck (nth vs i)
child (Owned vs) (Elem i) = or_stuck (nth vs i)
child (Box t v) (Inside g) = if same_tag (tag_in (out-Ty t)) g then Done v else Invalid
child (Closure j vs) (Rt i k) = if j == i then and_then (or_stuck (nth vs k)) held else Stuck
child Moved s = Invalid
child Hole s = Invalid
child _ _ = Stuck

abbrev pub changed_nth : Values → ℕ → (Value → Try Value) → (Values → Value) → Try Value
changed_nth vs i f make = and_then (or_stuck (nth vs i)) (λ c. and_then (f c) (λ x. Done (make (set_nth vs i x))))

-- a root with what it holds by value changed
abbrev pub changed_root : (Value → Try Value) → Value → Try Value
changed_root f (Root v bs) = and_then (f v) (λ x. Done (Root x bs))
changed_root f _ = Stuck

-- the value with the part one step down changed
abbrev pub change : Value → Step → (Value → Try Value) → Try Value
change (Struct d k vs) (Fld e l i) f = if d == e then (if k == l then changed_nth vs i f (Struct d k) else Invalid) else Stuck
change (Partial d k vs) (Fld e l i) f = if d == e then (if k == l then changed_nth vs i f (Partial d k) else Invalid) else Stuck
change (Array vs) (Elem i) f = changed_nth vs i f Array
change (Owned vs) (Elem i) f = changed_nth vs i f Owned
change (Box t v) (Inside g) f = if same_tag (tag_in (out-Ty t)) g then and_then (f v) (λ x. Done (Box t x)) else Invalid
change (Closure j vs) (Rt i k) f = if j == i then changed_nth vs k (changed_root f) (Closure j) else Stuck
change Moved s f = Invalid
change Hole s f = Invalid
change _ _ f = Stuck

-- the part at a path, whatever it is
abbrev pub get : Value → List Step → Try Value
get v [] = Done v
get v (s ∷ p) = and_then (child v s) (λ c. get c p)

-- the value with another part at a path
abbrev pub put : Value → List Step → Value → Try Value
put v [] x = Done x
put v (s ∷ p) x = change v s (λ c. put c p x)

-- neither Moved nor Hole, nor one inside; what a closure holds is not looked at
abbrev mutual
  pub is_clean : Value → Bool
  is_clean (Struct d k vs) = are_clean vs
  is_clean (Array vs) = are_clean vs
  is_clean (Owned vs) = are_clean vs
  is_clean (Box t v) = is_clean v
  is_clean (Root v bs) = false
  is_clean (Partial d k vs) = false
  is_clean Moved = false
  is_clean Hole = false
  is_clean (Number k z) = true
  is_clean (Truth b) = true
  is_clean (Character c) = true
  is_clean (Text t) = true
  is_clean UnitValue = true
  is_clean (Refers a) = true
  is_clean (Closure j vs) = true
  is_clean (Borrows a i n) = true
  is_clean (Range k a b) = true

  pub are_clean : Values → Bool
  are_clean no_more = true
  are_clean (more v vs) = is_clean v && are_clean vs

-- a value that may be accessed
abbrev pub cleaned : Value → Try Value
cleaned v = if is_clean v then Done v else Invalid
