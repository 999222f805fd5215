-- The only element of a list that passes a test.
use Rattle.std.proofs.Common.{◌≡◌, ◌+◌, ℕ, List, [], ◌∷◌, ◌++◌, Bool, true, false, Option, Some, None, drop, ◌∙◌, ap, refl, arith}
use Rattle.std.proofs.lemmas.Bool.{or_parts, or_right}
use Rattle.std.specs.List.{list_any}
use Rattle.em_manifest.specs.declared.lines.Line.{Line as Place}
use Rattle.em_manifest.specs.Lines.{Line, Parted, the_first, the_only, lines, own_lines, is_edition_line, is_header, before_year}
use Rattle.em_manifest.specs.Places.{line_in, IsFirst, IsHeaderAt, year_place}
use Rattle.em_manifest.proofs.Walks.{written-push, line_length}

none_first : {A : Type 0} (p : A → Bool) (xs : List A) → list_any p xs ≡ false → the_first p xs ≡ None
none_first p [] h = refl
none_first p (x ∷ xs) h =
    let (here, later) = or_parts (p x) (list_any p xs) h in
    rw (here, none_first p xs later)

abbrev parted : {A : Type 0} → List A → A → List A → Parted A
parted before here after = record { before = before; here = here; after = after }

first_at : {A : Type 0} (p : A → Bool) (before : List A) (x : A) (rest : List A) → list_any p before ≡ false → p x ≡ true → the_first p (before ++ x ∷ rest) ≡ Some (parted before x rest)
first_at p [] x rest none passes = rw passes
first_at p (b ∷ before) x rest none passes =
    let (here, later) = or_parts (p b) (list_any p before) none in
    rw (here, first_at p before x rest later passes)

pub none_only : {A : Type 0} (p : A → Bool) (xs : List A) → list_any p xs ≡ false → the_only p xs ≡ None
none_only p xs h = rw (none_first p xs h)

only_at : {A : Type 0} (p : A → Bool) (all before : List A) (x : A) (rest : List A) → all ≡ before ++ x ∷ rest → list_any p before ≡ false → p x ≡ true → list_any p rest ≡ false
    → the_only p all ≡ Some (parted before x rest)
only_at p all before x rest cut none passes single = rw (cut, first_at p before x rest none passes, single)

more_at : {A : Type 0} (p : A → Bool) (all before : List A) (x : A) (rest : List A) → all ≡ before ++ x ∷ rest → list_any p before ≡ false → p x ≡ true → list_any p rest ≡ true → the_only p all ≡ None
more_at p all before x rest cut none passes more = rw (cut, first_at p before x rest none passes, more)

any_at : {A : Type 0} (p : A → Bool) (before : List A) (x : A) (rest : List A) → p x ≡ true → list_any p (before ++ x ∷ rest) ≡ true
any_at p [] x rest passes = rw passes
any_at p (b ∷ before) x rest passes = or_right (p b) (list_any p (before ++ x ∷ rest)) (any_at p before x rest passes)

pub only_of : (p : Line → Bool) (all rest : List Line) (bytes : List ℕ) (from : ℕ) (place : Place) (first : IsFirst p all rest bytes from place) → list_any p rest ≡ false
    → the_only p all ≡ Some (parted first.before (line_in bytes place) rest)
only_of p all rest bytes from place first single = only_at p all first.before (line_in bytes place) rest first.cut first.none first.passes single

pub more_of : (p : Line → Bool) (all rest more : List Line) (bytes : List ℕ) (from next : ℕ) (place second : Place) → IsFirst p all rest bytes from place → IsFirst p rest more bytes next second
    → the_only p all ≡ None
more_of p all rest more bytes from next place second first later =
    more_at p all first.before (line_in bytes place) rest first.cut first.none first.passes (ap (list_any p) later.cut ∙ any_at p later.before (line_in bytes second) more later.passes)

-- the year's place, by the line that is found
pub year_of_none : (bytes : List ℕ) (from : ℕ) → the_only is_edition_line (own_lines (lines (drop from bytes))) ≡ None → None ≡ year_place bytes from
year_of_none bytes from h = rw h

pub year_of_one : (bytes : List ℕ) (from : ℕ) (place : Place) (rest : List Line) (first : IsFirst is_edition_line (own_lines (lines (drop from bytes))) rest bytes from place)
    → list_any is_edition_line rest ≡ false → (found : Option ℕ) → found ≡ Some (place.start + before_year (line_in bytes place).text) → found ≡ year_place bytes from
year_of_one bytes from place rest first single found is = is ∙ rw (only_of is_edition_line (own_lines (lines (drop from bytes))) rest bytes from place first single, first.starts) (ap Some (omega arith))

-- the header, by the line that is found
pub header_of_one : (bytes : List ℕ) (place : Place) (first : IsFirst is_header (lines bytes) (lines (drop place.next bytes)) bytes 0 place) → list_any is_header (lines (drop place.next bytes)) ≡ false → IsHeaderAt bytes place
header_of_one bytes place first single = record {
  header = parted first.before (line_in bytes place) (lines (drop place.next bytes));
  only = only_of is_header (lines bytes) (lines (drop place.next bytes)) bytes 0 place first single;
  here = refl;
  after = refl;
  next = omega (arith, written-push first.before (line_in bytes place), line_length bytes place first.within, first.starts, first.within.some);
  within = first.within;
}
