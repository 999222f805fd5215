-- A map from the places where parts start to the last offsets that are taken from there on, which tells whether a part meets
-- one of them. The parts may meet one another.
use Rattle.std.specs.Prelude.{◌≡◌, ◌≢◌, ◌⊎◌, ℕ, ◌-◌, ◌<◌, ◌≤◌, max, List, Some, None, All, AllPairs, Any, IsSome}
use Rattle.std.specs.declared.cmp.Ordering.{Ordering}
use Rattle.std.specs.Ordering.{nat_cmp, ordering_then}
use Rattle.std.specs.BTreeMap.{BTreeMap, get}
use Rattle.em_base.specs.declared.edit.Part.{Part}
use Rattle.em_base.specs.declared.place.Span.{Span}
use Rattle.em_edit.specs.Order.{StartsNoLater}

-- the order of (file, offset)
abbrev pub place_cmp : ℕ × ℕ → ℕ × ℕ → Ordering
place_cmp x y = ordering_then (nat_cmp x.0 y.0) (nat_cmp x.1 y.1)

abbrev pub Ends : Type 0
Ends = BTreeMap (ℕ × ℕ) ℕ

-- a place isn't behind another in the order of (file, offset)
abbrev pub IsUpTo : ℕ × ℕ → ℕ × ℕ → Type 0
IsUpTo x y = (x.0 < y.0) ⊎ ((x.0 ≡ y.0) × (x.1 ≤ y.1))

-- the last offset that a range takes: that of its last byte; an insertion takes the offset where it is put in
abbrev pub last_of : Span → ℕ
last_of span = max span.start (span.end - 1)

-- a part takes an offset of a file
abbrev pub TakesAt : ℕ → ℕ → Part → Type 0
TakesAt file offset p = (p.span.file ≡ file) × (p.span.start ≤ offset) × (offset ≤ last_of p.span)

-- two parts take no offset of a file both
abbrev pub AreClear : Part → Part → Type 0
AreClear p q = (p.span.file ≢ q.span.file) ⊎ ((last_of p.span < q.span.start) ⊎ (last_of q.span < p.span.start))

-- a part starts no later than another or is clear of it
abbrev pub IsEarlierOrClear : Part → Part → Type 0
IsEarlierOrClear p q = StartsNoLater q p ⊎ AreClear p q

-- an entry stands at a part's start, and takes as much as the part does
pub record HasPart (m : Ends) (p : Part) : Type 0 where
  pub last : ℕ
  pub entry : get place_cmp m (p.span.file, p.span.start) ≡ Some last
  pub reaches : last_of p.span ≤ last

-- the map has the parts of a list, and nothing else: what its entries take is what these parts take, and in each file the
-- entries' last offsets ascend
pub record Holds (m : Ends) (parts : List Part) : Type 0 where
  pub found : All (HasPart m) parts
  pub starts : (place : ℕ × ℕ) (last : ℕ) → get place_cmp m place ≡ Some last → (place.1 ≤ last) × Any (λ q. place ≡ (q.span.file, q.span.start)) parts
  pub takes : (place : ℕ × ℕ) (last offset : ℕ) → get place_cmp m place ≡ Some last → place.1 ≤ offset → offset ≤ last → Any (TakesAt place.0 offset) parts
  pub ascend : (x y : ℕ × ℕ) (a b : ℕ) → get place_cmp m x ≡ Some a → get place_cmp m y ≡ Some b → x.0 ≡ y.0 → x.1 ≤ y.1 → a ≤ b

-- the map has the parts of a list, and they are clear of one another
pub record HoldsClear (m : Ends) (parts : List Part) : Type 0 where
  pub holds : Holds m parts
  pub clear : AllPairs AreClear parts

-- no entry stands up to a place
abbrev pub NoneUpTo : Ends → ℕ × ℕ → Type 0
NoneUpTo m place = (q : ℕ × ℕ) → IsUpTo q place → get place_cmp m q ≡ None

-- the last entry up to a place
pub record IsLastUpTo (m : Ends) (place at : ℕ × ℕ) (last : ℕ) : Type 0 where
  pub entry : get place_cmp m at ≡ Some last
  pub up_to : IsUpTo at place
  pub latest : (q : ℕ × ℕ) → IsUpTo q place → IsSome (get place_cmp m q) → IsUpTo q at

-- the last offset that a range and the entries of its file up to its start take
pub record IsReach (m : Ends) (span : Span) (reach : ℕ) : Type 0 where
  pub own : last_of span ≤ reach
  pub earlier : (parts : List Part) → Holds m parts → (place : ℕ × ℕ) (last : ℕ) → get place_cmp m place ≡ Some last → place.0 ≡ span.file → place.1 ≤ span.start → last ≤ reach
  pub from : (reach ≡ last_of span) ⊎ ((start : ℕ) × (start ≤ span.start) × (get place_cmp m (span.file, start) ≡ Some reach))
