-- What holds of the lines of all bytes.
use Rattle.std.specs.Prelude.{◌≡◌, ℕ, ◌==◌, ◌⊎◌, List, [], ◌∷◌, false}
use Rattle.std.specs.List.{list_any}
use Rattle.em_manifest.specs.Lines.{Line, lines, written}

-- LF or CR LF
abbrev pub IsEnd : List ℕ → Type 0
IsEnd ending = (ending ≡ 10 ∷ []) ⊎ (ending ≡ 13 ∷ 10 ∷ [])

-- The line ends, and the last one may have no end.
abbrev pub Ends : Line → List Line → Type 0
Ends l [] = (l.ending ≡ []) ⊎ IsEnd l.ending
Ends l (next ∷ ls) = IsEnd l.ending

-- no text has a line feed, and each line but the last ends
abbrev pub AreLines : List Line → Type 0
AreLines [] = Unit {0}
AreLines (l ∷ ls) = (list_any (λ b. b == 10) l.text ≡ false) × Ends l ls × AreLines ls

-- the lines of the bytes are all of the bytes
abbrev pub LinesAreAll : Type 0
LinesAreAll = (bytes : List ℕ) → written (lines bytes) ≡ bytes

-- the bytes are cut behind each line feed, and nowhere else
abbrev pub LinesAreCut : Type 0
LinesAreCut = (bytes : List ℕ) → AreLines (lines bytes)
