-- Which parts meet.
use Rattle.std.specs.Prelude.{◌≡◌, ◌⊎◌, ℕ, ◌<◌, ◌≤◌, List, Some, slice_get, Any}
use Rattle.em_base.specs.declared.edit.Part.{Part}

-- the byte at an offset lies in the range of a part
abbrev pub HasByte : Part → ℕ → Type 0
HasByte p offset = (p.span.start ≤ offset) × (offset < p.span.end)

-- two parts have a byte in common
pub record HaveCommonByte (p q : Part) : Type 0 where
  pub offset : ℕ
  pub one : HasByte p offset
  pub other : HasByte q offset

-- a part that replaces no byte is put in inside the range of another
pub record IsPutInside (p q : Part) : Type 0 where
  pub insertion : p.span.end ≤ p.span.start
  pub behind : q.span.start < p.span.start
  pub before : p.span.start < q.span.end

-- two parts of one file meet: they start at the same offset, have a byte in common, or one is an insertion inside the other
pub record Meet (p q : Part) : Type 0 where
  pub file : p.span.file ≡ q.span.file
  pub meeting : (p.span.start ≡ q.span.start) ⊎ (HaveCommonByte p q ⊎ (IsPutInside p q ⊎ IsPutInside q p))

-- two parts of a list meet
pub record TwoMeet (parts : List Part) : Type 0 where
  pub one : ℕ
  pub other : ℕ
  pub order : one < other
  pub p : Part
  pub q : Part
  pub first : slice_get parts one ≡ Some p
  pub second : slice_get parts other ≡ Some q
  pub meet : Meet p q

-- some part of a list meets one of another list
abbrev pub OneMeets : List Part → List Part → Type 0
OneMeets parts others = Any (λ p. Any (Meet p) others) parts
