-- The words that the edition 2018 takes (Edition Guide, "New keywords"; Reference, "Keywords"), and what is found of them.
use Rattle.std.specs.Prelude.{ℕ, Bool, false, not, ◌&&◌, List, [], ◌∷◌, ◌++◌, codes, filter, map}
use Rattle.em_base.specs.declared.edit.Lint.TheVariants.{Keyword}
use Rattle.em_base.specs.declared.edit.Suggestion.{Suggestion}
use Rattle.em_base.specs.declared.token.Token.{Token}
use Rattle.em_base.specs.declared.token.TokenKind.{TokenKind}
use Rattle.em_base.specs.declared.token.TokenKind.TheVariants.{Ident}
use Rattle.em_base.specs.Words.{from_2018, is_among}

-- the name is one of the keywords that came with 2018
abbrev pub is_taken : List ℕ → Bool
is_taken name = is_among from_2018 name

-- an identifier of such a name that isn't raw
abbrev pub is_taken_kind : TokenKind → Bool
is_taken_kind (Ident name raw) = not raw && is_taken name
is_taken_kind kind = false

abbrev pub is_found : Token → Bool
is_found t = is_taken_kind t.kind

-- the token becomes `r#` and its text
abbrev pub finding : Token → Suggestion
finding t = record { lint = Keyword; anchor = t.span; parts = record { span = t.span; text = codes "r#" ++ t.text } ∷ [] }

-- a finding for each such token, in order
abbrev pub findings : List Token → List Suggestion
findings ts = map finding (filter is_found ts)
