-- A number of a text's length and bytes that tells the words of the grammar apart.
use Rattle.std.specs.Prelude.{ℕ, ◌+◌, ◌-◌, ◌*◌, List, length, get_or}

unfoldable pub number_of : List ℕ → ℕ
number_of text = get_or text 0 0 * 63 + get_or text 2 0 * 60 + get_or text (length text - 1) 0 * 34 + length text * 26

-- the second byte tells texts with one number apart
unfoldable pub mark_of : List ℕ → ℕ
mark_of text = number_of text * 256 + get_or text 1 0
