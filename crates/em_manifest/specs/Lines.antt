-- The lines of a manifest, the line that tells the edition, and the bytes with another edition.
use Rattle.std.specs.Prelude.{ℕ, ◌+◌, ◌-◌, Bool, true, false, ◌&&◌, ◌||◌, ◌==◌, if◌then◌else◌, List, [], ◌∷◌, ◌++◌, length, take, drop, codes, Option, Some, None, is_some, option_map, option_and_then}
use Rattle.std.specs.List.{list_any, prefix_len}
use Rattle.std.specs.Option.{option_map_or}
use Rattle.std.specs.Str.{bytes_eq}
use Rattle.em_base.specs.declared.edition.Edition.{Edition}
use Rattle.em_base.specs.declared.edition.Edition.TheVariants.{E2015, E2018, E2021}

-- A line, and the bytes that end it: LF, CR LF, or none where the bytes are over.
pub record Line : Type 0 where
  pub text : List ℕ
  pub ending : List ℕ

-- the line is a line feed alone
abbrev pub is_line_feed : Line → Bool
is_line_feed l = (length l.text == 0) && bytes_eq l.ending (10 ∷ [])

-- the lines with one byte more at their front, which is no line feed
abbrev pub begin_with : ℕ → List Line → List Line
begin_with b [] = record { text = b ∷ []; ending = [] } ∷ []
begin_with b (l ∷ ls) =
    if (b == 13) && is_line_feed l then record { text = []; ending = 13 ∷ 10 ∷ [] } ∷ ls
    else record { text = b ∷ l.text; ending = l.ending } ∷ ls

-- the lines of the bytes
abbrev pub lines : List ℕ → List Line
lines [] = []
lines (b ∷ bs) = if b == 10 then record { text = []; ending = 10 ∷ [] } ∷ lines bs else begin_with b (lines bs)

-- the bytes of the lines
abbrev pub written : List Line → List ℕ
written [] = []
written (l ∷ ls) = l.text ++ (l.ending ++ written ls)

-- One element of a list that passes a test, with what stands before and after it.
pub record Parted (A : Type 0) : Type 0 where
  pub before : List A
  pub here : A
  pub after : List A

-- the first that passes
abbrev pub the_first : {A : Type 0} → (A → Bool) → List A → Option (Parted A)
the_first p [] = None
the_first p (x ∷ xs) =
    if p x then Some (record { before = []; here = x; after = xs })
    else option_map (λ c. record { before = x ∷ c.before; here = c.here; after = c.after }) (the_first p xs)

-- the one that passes, where there is exactly one
abbrev pub the_only : {A : Type 0} → (A → Bool) → List A → Option (Parted A)
the_only p xs = option_and_then (λ c. if list_any p c.after then None else Some c) (the_first p xs)

-- a space or a tab
abbrev pub is_blank : ℕ → Bool
is_blank b = (b == 32) || (b == 9)

abbrev pub is_space : ℕ → Bool
is_space b = b == 32

-- what is left without the bytes at the front that pass
abbrev pub skip : (ℕ → Bool) → List ℕ → List ℕ
skip p text = drop (prefix_len p text) text

-- what follows the word at the front
abbrev pub after : List ℕ → List ℕ → Option (List ℕ)
after word text = if bytes_eq (take (length word) text) word then Some (drop (length word) text) else None

-- nothing, or a comment
abbrev pub is_comment : List ℕ → Bool
is_comment [] = true
is_comment (b ∷ bs) = b == 35

-- then blanks, and maybe a comment
abbrev pub ends_header : Option (List ℕ) → Bool
ends_header None = false
ends_header (Some rest) = is_comment (skip is_blank rest)

-- `[package]` behind blanks
abbrev pub is_header_text : List ℕ → Bool
is_header_text text = ends_header (after (codes "[package]") (skip is_blank text))

abbrev pub is_header : Line → Bool
is_header l = is_header_text l.text

-- the text begins with `[`
abbrev pub begins_table_text : List ℕ → Bool
begins_table_text [] = false
begins_table_text (b ∷ bs) = b == 91

abbrev pub begins_table : Line → Bool
begins_table l = begins_table_text l.text

-- the lines up to the next that begins with `[`
abbrev pub own_lines : List Line → List Line
own_lines [] = []
own_lines (l ∷ ls) = if begins_table l then [] else l ∷ own_lines ls

-- the year of an edition
abbrev pub year_of : Edition → List ℕ
year_of E2015 = codes "2015"
year_of E2018 = codes "2018"
year_of E2021 = codes "2021"

-- the editions that are known
abbrev pub editions : List Edition
editions = E2015 ∷ E2018 ∷ E2021 ∷ []

-- then the quote, spaces, and maybe a comment
abbrev pub ends_edition : ℕ → Option (List ℕ) → Bool
ends_edition quote None = false
ends_edition quote (Some []) = false
ends_edition quote (Some (b ∷ bs)) = (b == quote) && is_comment (skip is_space bs)

-- a known year behind the quote
abbrev pub is_year : ℕ → List ℕ → Bool
is_year quote text = list_any (λ edition. ends_edition quote (after (year_of edition) text)) editions

-- the text from the year on, where a quote stands before it
abbrev pub year_in : List ℕ → Option (List ℕ)
year_in [] = None
year_in (b ∷ text) = if ((b == 34) || (b == 39)) && is_year b text then Some text else None

-- the text from the year on, where the text is `edition`, spaces, `=`, spaces, a quote, a known year, the same quote,
-- spaces, and maybe a comment
abbrev pub year_on : List ℕ → Option (List ℕ)
year_on text = option_and_then (λ rest. option_and_then (λ value. year_in (skip is_space value)) (after (codes "=") (skip is_space rest))) (after (codes "edition") text)

abbrev pub is_edition_line : Line → Bool
is_edition_line l = is_some (year_on l.text)

-- how many bytes stand before the year
abbrev pub before_year : List ℕ → ℕ
before_year text = length text - option_map_or length (year_on text) 0

-- From a place on so many bytes go, and these come.
pub record Change : Type 0 where
  pub at : ℕ
  pub gone : ℕ
  pub text : List ℕ

-- the bytes up to the end of a line
abbrev pub length_to : Parted Line → ℕ
length_to c = length (written (c.before ++ c.here ∷ []))

-- The year of the header's one edition line is replaced.
abbrev pub new_year : Edition → Parted Line → Option Change
new_year edition header =
    option_map (λ line. record { at = length_to header + (length (written line.before) + before_year line.here.text); gone = 4; text = year_of edition })
    (the_only is_edition_line (own_lines header.after))

-- a line that tells the edition, with a line's end
abbrev pub edition_text : Edition → List ℕ → List ℕ
edition_text edition ending = codes "edition = \"" ++ (year_of edition ++ (codes "\"" ++ ending))

-- An edition line comes behind the header, with the header's line end.
abbrev pub new_line : Edition → Parted Line → Change
new_line edition header = record { at = length_to header; gone = 0; text = edition_text edition header.here.ending }

-- The change that sets the edition, which the bytes have or not, where one line is the header.
abbrev pub edition_change : Edition → Bool → List ℕ → Option Change
edition_change edition is_there bytes =
    option_and_then (λ header. if is_there then new_year edition header else Some (new_line edition header)) (the_only is_header (lines bytes))

-- `"""` or `'''` stands at the front
abbrev pub begins_long_quote : List ℕ → Bool
begins_long_quote text = is_some (after (codes "\"\"\"") text) || is_some (after (codes "'''") text)

-- it stands in the bytes
abbrev pub has_long_quote : List ℕ → Bool
has_long_quote [] = false
has_long_quote (b ∷ bs) = begins_long_quote (b ∷ bs) || has_long_quote bs

-- the bytes with the change made, where no string of several lines may have begun before its place
abbrev pub changed : List ℕ → Change → Option (List ℕ)
changed bytes c = if has_long_quote (take c.at bytes) then None else Some (take c.at bytes ++ (c.text ++ drop (c.at + c.gone) bytes))

-- The bytes with the edition set. There are none where the header or the edition line isn't one line, or where a
-- string of several lines may have begun before the place.
abbrev pub edited : Edition → Bool → List ℕ → Option (List ℕ)
edited edition is_there bytes = option_and_then (changed bytes) (edition_change edition is_there bytes)
