-- A program that has the first form.
use Rattle.std.specs.Prelude.{◌≡◌, ℕ, true, false, List, [], ◌∷◌, ◌++◌, codes, map, Option, None}
use Rattle.em_base.specs.declared.edition.Edition.TheVariants.{E2015, E2018}
use Rattle.em_base.specs.declared.token.Token.{Token}
use Rattle.em_base.specs.declared.token.TokenKind.{TokenKind}
use Rattle.em_base.specs.declared.token.TokenKind.TheVariants.{Ident, Int, Str, Open, Close, Punct}
use Rattle.em_lex.specs.Marking.{moved}
use Rattle.em_first.specs.Keyword.{is_found}
use Rattle.em_first.specs.Form.{Statement, Let, Print, FirstCore}
use Rattle.em_first.specs.Events.{first_events}

-- a token of a kind and a text, wherever it stands
abbrev pub token : TokenKind → List ℕ → Token
token kind text = record { kind = kind; text = text; span = record { file = 0; start = 0; end = 0 }; edition = E2015; marks = []; doc = false }

abbrev pub word : List ℕ → Token
word w = token (Ident w false) w

-- `let name = value;`
abbrev pub let_tokens : Token → ℕ → List ℕ → List Token
let_tokens name value digits = word (codes "let") ∷ name ∷ token Punct (codes "=") ∷ token (Int value None) digits ∷ token Punct (codes ";") ∷ []

-- `println!("{}", name);`
abbrev pub print_tokens : Token → List Token
print_tokens name =
    word (codes "println") ∷ token Punct (codes "!") ∷ token Open (codes "(") ∷ token (Str (codes "{}")) (codes "\"{}\"") ∷ token Punct (codes ",")
    ∷ name ∷ token Close (codes ")") ∷ token Punct (codes ";") ∷ []

-- `fn main() { let async = 41; let r#async = 7; println!("{}", async); }`: the second `let` binds the same name again
abbrev pub sample : List Token
sample =
    (word (codes "fn") ∷ word (codes "main") ∷ token Open (codes "(") ∷ token Close (codes ")") ∷ token Open (codes "{") ∷ [])
    ++ (let_tokens (word (codes "async")) 41 (codes "41")
    ++ (let_tokens (token (Ident (codes "async") true) (codes "r#async")) 7 (codes "7")
    ++ (print_tokens (word (codes "async")) ++ (token Close (codes "}") ∷ []))))

abbrev pub statements : List Statement
statements = Let 41 ∷ Let 7 ∷ Print 1 ∷ []

-- these are its statements under the edition 2015
abbrev pub HasSample : Type 0
HasSample = FirstCore E2015 sample statements

-- and under the edition 2018, with `async` raw
abbrev pub KeepsSample : Type 0
KeepsSample = FirstCore E2018 (moved is_found E2018 0 sample) statements

-- its first statement prints nothing
abbrev pub SampleBegins : Type 0
SampleBegins = first_events statements 1 ≡ record { numbers = []; ended = false }

-- it prints the value of the second `let`, and ends
abbrev pub SamplePrints : Type 0
SamplePrints = first_events statements 3 ≡ record { numbers = 7 ∷ []; ended = true }
