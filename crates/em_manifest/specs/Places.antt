-- A line of the code beside the line that it stands for.
use Rattle.std.specs.Prelude.{◌≡◌, ℕ, ◌+◌, ◌-◌, ◌<◌, ◌≤◌, Bool, true, false, List, ◌∷◌, ◌++◌, length, take, drop, slice_index, ◌==◌, if◌then◌else◌, Option, Some, option_map}
use Rattle.std.specs.List.{list_any}
use Rattle.em_manifest.specs.Lines as spec
use Rattle.em_manifest.specs.Lines.{lines, written, Parted, the_only, is_header, length_to, own_lines, is_edition_line, before_year}
use Rattle.em_manifest.specs.declared.lines.Line.{Line}

-- the line between the places
abbrev pub line_in : List ℕ → Line → spec.Line
line_in bytes place = record { text = take (place.end - place.start) (drop place.start bytes); ending = take (place.next - place.end) (drop place.end bytes) }

-- how many carriage returns of a line's end stand at the end of the bytes before its line feed
abbrev pub ends_return : List ℕ → ℕ
ends_return text = if slice_index text (length text - 1) == 13 then 1 else 0

-- the places lie in order in the bytes
pub record IsWithin (bytes : List ℕ) (place : Line) : Type 0 where
  pub text : place.start ≤ place.end
  pub ending : place.end ≤ place.next
  pub some : place.start < place.next
  pub within : place.next ≤ length bytes

-- the line that begins at the place
pub record IsLineAt (bytes : List ℕ) (from : ℕ) (place : Line) : Type 0 where
  pub starts : place.start ≡ from
  pub within : IsWithin bytes place
  pub cut : lines (drop from bytes) ≡ line_in bytes place ∷ lines (drop place.next bytes)

-- The first of some lines, which begin at a place of the bytes, that passes. The other lines follow it.
pub record IsFirst (p : spec.Line → Bool) (all rest : List spec.Line) (bytes : List ℕ) (from : ℕ) (place : Line) : Type 0 where
  pub before : List spec.Line
  pub none : list_any p before ≡ false
  pub passes : p (line_in bytes place) ≡ true
  pub cut : all ≡ before ++ line_in bytes place ∷ rest
  pub starts : place.start ≡ from + length (written before)
  pub within : IsWithin bytes place

-- The one header of the bytes stands at the place.
pub record IsHeaderAt (bytes : List ℕ) (place : Line) : Type 0 where
  pub header : Parted spec.Line
  pub only : the_only is_header (lines bytes) ≡ Some header
  pub here : header.here ≡ line_in bytes place
  pub after : header.after ≡ lines (drop place.next bytes)
  pub next : place.next ≡ length_to header
  pub within : IsWithin bytes place

-- the place of the year in the one edition line of the lines from a place on
abbrev pub year_place : List ℕ → ℕ → Option ℕ
year_place bytes from =
    option_map (λ line. from + (length (written line.before) + before_year line.here.text)) (the_only is_edition_line (own_lines (lines (drop from bytes))))
