-- How tightly the operator of a text binds, by what the texts before it in the grammar's order leave.
use Rattle.std.specs.Prelude.{ℕ, List, [], ◌∷◌, codes, if◌then◌else◌}
use Rattle.em_base.specs.Words.{is_among}

abbrev pub logic_strength : List ℕ → ℕ
logic_strength text = if is_among (codes "&&" ∷ []) text then 5 else (if is_among (codes "||" ∷ []) text then 4 else 0)

abbrev pub comparison_strength : List ℕ → ℕ
comparison_strength text =
    if is_among (codes "==" ∷ codes "!=" ∷ codes "<" ∷ codes ">" ∷ codes "<=" ∷ codes ">=" ∷ []) text then 6 else logic_strength text

abbrev pub bit_strength : List ℕ → ℕ
bit_strength text =
    if is_among (codes "<<" ∷ codes ">>" ∷ []) text then 10
    else (if is_among (codes "&" ∷ []) text then 9
    else (if is_among (codes "^" ∷ []) text then 8
    else (if is_among (codes "|" ∷ []) text then 7 else comparison_strength text)))

abbrev pub sum_strength : List ℕ → ℕ
sum_strength text =
    if is_among (codes "*" ∷ codes "/" ∷ codes "%" ∷ []) text then 12 else (if is_among (codes "+" ∷ codes "-" ∷ []) text then 11 else bit_strength text)
