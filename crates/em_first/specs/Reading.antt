-- What stands at the front of tokens, as a reader of the form finds it.
use Rattle.std.specs.Prelude.{ℕ, Bool, false, ◌==◌, List, [], ◌∷◌, length, codes, if◌then◌else◌, Option, Some, None, option_and_then}
use Rattle.std.specs.Option.{option_map, option_map_or}
use Rattle.std.specs.Str.{bytes_eq}
use Rattle.em_base.specs.declared.edition.Edition.TheVariants.{E2015}
use Rattle.em_base.specs.declared.token.Token.{Token}
use Rattle.em_first.specs.Form.{said, name_in, int_in, Statement, Body}

-- what stands behind words
abbrev pub behind : List (List ℕ) → List Token → Option (List Token)
behind [] ts = Some ts
behind (w ∷ ws) [] = None
behind (w ∷ ws) (t ∷ ts) = if bytes_eq (said t.kind t.text) w then behind ws ts else None

-- a name of 2015, and what stands behind it
abbrev pub name_first : List Token → Option (List ℕ × List Token)
name_first [] = None
name_first (t ∷ ts) = option_map (λ (name : List ℕ). (name, ts)) (name_in E2015 t.kind)

-- what stands behind an integer literal
abbrev pub behind_int : List Token → Option (List Token)
behind_int [] = None
behind_int (t ∷ ts) = option_map (λ (value : ℕ). ts) (int_in t.kind)

-- the name that a `let` binds, and what stands behind it
abbrev pub let_first : List Token → Option (List ℕ × List Token)
let_first ts =
    option_and_then (λ (a : List Token). option_and_then (λ (n : List ℕ × List Token). option_and_then (λ (b : List Token). option_and_then (λ (c : List Token).
    option_map (λ (d : List Token). (n.0, d)) (behind (codes ";" ∷ []) c)) (behind_int b)) (behind (codes "=" ∷ []) n.1)) (name_first a)) (behind (codes "let" ∷ []) ts)

-- the name whose value a `println!` prints, and what stands behind it
abbrev pub print_first : List Token → Option (List ℕ × List Token)
print_first ts =
    option_and_then (λ (a : List Token). option_and_then (λ (n : List ℕ × List Token).
    option_map (λ (d : List Token). (n.0, d)) (behind (codes ")" ∷ codes ";" ∷ []) n.1)) (name_first a))
    (behind (codes "println" ∷ codes "!" ∷ codes "(" ∷ codes "\"{}\"" ∷ codes "," ∷ []) ts)

-- only a `}` stands here
abbrev pub is_end : List Token → Bool
is_end ts = option_map_or (λ (rest : List Token). length rest == 0) (behind (codes "}" ∷ []) ts) false

-- behind `let`s of these names the tokens are some statements and a `}`
abbrev pub Reads : List (List ℕ) → List Token → Type 0
Reads names ts = (core : List Statement) × Body E2015 names ts core
