-- What stands in a text after the ranges of parts are replaced by their texts.
use Rattle.std.specs.Prelude.{ℕ, ◌+◌, Bool, ◌&&◌, nat_le, nat_lt, ◌==◌, List, [], ◌∷◌, ◌++◌, filter, if◌then◌else◌}
use Rattle.std.specs.List.{flat_map, list_any}
use Rattle.em_base.specs.declared.edit.Part.{Part}
use Rattle.em_base.specs.declared.edit.Suggestion.{Suggestion}

-- the text that is put in at an offset: that of the part which starts there
abbrev pub put_in : List Part → ℕ → List ℕ
put_in parts offset = flat_map (λ p. p.text) (filter (λ p. p.span.start == offset) parts)

-- the byte at an offset lies in the range of a part
abbrev pub is_replaced : List Part → ℕ → Bool
is_replaced parts offset = list_any (λ p. nat_le p.span.start offset && nat_lt offset p.span.end) parts

-- the text from an offset on: at each offset what is put in there, and then the byte, if no part replaces it
abbrev pub edited_on : List Part → ℕ → List ℕ → List ℕ
edited_on parts offset [] = put_in parts offset
edited_on parts offset (b ∷ bs) = put_in parts offset ++ ((if is_replaced parts offset then [] else (b ∷ [])) ++ edited_on parts (offset + 1) bs)

-- all parts of suggestions
abbrev pub all_parts : List Suggestion → List Part
all_parts taken = flat_map (λ s. s.parts) taken

-- the parts of a file
abbrev pub parts_of : ℕ → List Suggestion → List Part
parts_of file taken = filter (λ p. p.span.file == file) (all_parts taken)

-- the text of a file after the suggestions
abbrev pub edited : ℕ → List Suggestion → List ℕ → List ℕ
edited file taken text = edited_on (parts_of file taken) 0 text

-- the texts of the files from a number on after the suggestions
abbrev pub edited_from : ℕ → List Suggestion → List (List ℕ) → List (List ℕ)
edited_from file taken [] = []
edited_from file taken (text ∷ texts) = edited file taken text ∷ edited_from (file + 1) taken texts
