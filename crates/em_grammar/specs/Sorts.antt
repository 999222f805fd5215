-- What a token is to the grammar: one of the words and signs that it writes out, or what its kind makes it.
use Rattle.std.specs.Prelude.{ℕ, if◌then◌else◌, List, [], ◌∷◌, ◌++◌, codes, map, Option, Some, None}
use Rattle.std.specs.Str.{bytes_eq}
use Rattle.em_base.specs.declared.token.Token.{Token}
use Rattle.em_tree.specs.Starts.{spelling, is_name, is_literal, is_lifetime}
use Rattle.em_tree.specs.Tokens.{int_kind}
use Rattle.em_grammar.specs.declared.sort.Written.{Written}
use Rattle.em_grammar.specs.declared.sort.Written.TheVariants as w
use Rattle.em_grammar.specs.declared.sort.Weak.{Weak}
use Rattle.em_grammar.specs.declared.sort.Weak.TheVariants as weak
use Rattle.em_grammar.specs.declared.sort.Kind.{Kind}
use Rattle.em_grammar.specs.declared.sort.Kind.TheVariants as kind
use Rattle.em_grammar.specs.declared.sort.Sort.{Sort}
use Rattle.em_grammar.specs.declared.sort.Sort.TheVariants as sort

-- how each is written
abbrev pub text_of : Written → List ℕ
text_of w.Not = codes "!"
text_of w.Ne = codes "!="
text_of w.Pound = codes "#"
text_of w.Dollar = codes "$"
text_of w.Percent = codes "%"
text_of w.PercentEq = codes "%="
text_of w.And = codes "&"
text_of w.AndAnd = codes "&&"
text_of w.AndEq = codes "&="
text_of w.OpenParen = codes "("
text_of w.CloseParen = codes ")"
text_of w.Star = codes "*"
text_of w.StarEq = codes "*="
text_of w.Plus = codes "+"
text_of w.PlusEq = codes "+="
text_of w.Comma = codes ","
text_of w.Minus = codes "-"
text_of w.MinusEq = codes "-="
text_of w.RArrow = codes "->"
text_of w.Dot = codes "."
text_of w.DotDot = codes ".."
text_of w.DotDotDot = codes "..."
text_of w.DotDotEq = codes "..="
text_of w.Slash = codes "/"
text_of w.SlashEq = codes "/="
text_of w.Colon = codes ":"
text_of w.PathSep = codes "::"
text_of w.Semi = codes ";"
text_of w.Lt = codes "<"
text_of w.LArrow = codes "<-"
text_of w.Shl = codes "<<"
text_of w.ShlEq = codes "<<="
text_of w.Le = codes "<="
text_of w.Eq = codes "="
text_of w.EqEq = codes "=="
text_of w.FatArrow = codes "=>"
text_of w.Gt = codes ">"
text_of w.Ge = codes ">="
text_of w.Shr = codes ">>"
text_of w.ShrEq = codes ">>="
text_of w.Question = codes "?"
text_of w.At = codes "@"
text_of w.SelfType = codes "Self"
text_of w.OpenBracket = codes "["
text_of w.CloseBracket = codes "]"
text_of w.Caret = codes "^"
text_of w.CaretEq = codes "^="
text_of w.Underscore = codes "_"
text_of w.As = codes "as"
text_of w.Break = codes "break"
text_of w.Const = codes "const"
text_of w.Continue = codes "continue"
text_of w.Crate = codes "crate"
text_of w.Else = codes "else"
text_of w.Enum = codes "enum"
text_of w.Extern = codes "extern"
text_of w.False = codes "false"
text_of w.Fn = codes "fn"
text_of w.For = codes "for"
text_of w.If = codes "if"
text_of w.Impl = codes "impl"
text_of w.In = codes "in"
text_of w.Let = codes "let"
text_of w.Loop = codes "loop"
text_of w.Match = codes "match"
text_of w.Mod = codes "mod"
text_of w.Move = codes "move"
text_of w.Mut = codes "mut"
text_of w.Pub = codes "pub"
text_of w.Ref = codes "ref"
text_of w.Return = codes "return"
text_of w.SelfValue = codes "self"
text_of w.Static = codes "static"
text_of w.Struct = codes "struct"
text_of w.Super = codes "super"
text_of w.Trait = codes "trait"
text_of w.True = codes "true"
text_of w.Type = codes "type"
text_of w.Unsafe = codes "unsafe"
text_of w.Use = codes "use"
text_of w.Where = codes "where"
text_of w.While = codes "while"
text_of w.OpenBrace = codes "{"
text_of w.Or = codes "|"
text_of w.OrEq = codes "|="
text_of w.OrOr = codes "||"
text_of w.CloseBrace = codes "}"
text_of w.Tilde = codes "~"

-- all of them, in ascending order of their texts
abbrev pub the_written : List Written
the_written =
    w.Not ∷ w.Ne ∷ w.Pound ∷ w.Dollar ∷ w.Percent ∷ w.PercentEq ∷ w.And ∷ w.AndAnd ∷ w.AndEq ∷ w.OpenParen
    ∷ w.CloseParen ∷ w.Star ∷ w.StarEq ∷ w.Plus ∷ w.PlusEq ∷ w.Comma ∷ w.Minus ∷ w.MinusEq ∷ w.RArrow ∷ w.Dot
    ∷ w.DotDot ∷ w.DotDotDot ∷ w.DotDotEq ∷ w.Slash ∷ w.SlashEq ∷ w.Colon ∷ w.PathSep ∷ w.Semi ∷ w.Lt ∷ w.LArrow
    ∷ w.Shl ∷ w.ShlEq ∷ w.Le ∷ w.Eq ∷ w.EqEq ∷ w.FatArrow ∷ w.Gt ∷ w.Ge ∷ w.Shr ∷ w.ShrEq
    ∷ w.Question ∷ w.At ∷ w.SelfType ∷ w.OpenBracket ∷ w.CloseBracket ∷ w.Caret ∷ w.CaretEq ∷ w.Underscore ∷ w.As ∷ w.Break
    ∷ w.Const ∷ w.Continue ∷ w.Crate ∷ w.Else ∷ w.Enum ∷ w.Extern ∷ w.False ∷ w.Fn ∷ w.For ∷ w.If
    ∷ w.Impl ∷ w.In ∷ w.Let ∷ w.Loop ∷ w.Match ∷ w.Mod ∷ w.Move ∷ w.Mut ∷ w.Pub ∷ w.Ref
    ∷ w.Return ∷ w.SelfValue ∷ w.Static ∷ w.Struct ∷ w.Super ∷ w.Trait ∷ w.True ∷ w.Type ∷ w.Unsafe ∷ w.Use
    ∷ w.Where ∷ w.While ∷ w.OpenBrace ∷ w.Or ∷ w.OrEq ∷ w.OrOr ∷ w.CloseBrace ∷ w.Tilde
    ∷ []

-- the first of a list that is written so
abbrev pub first_written : List ℕ → List Written → Option Written
first_written text [] = None
first_written text (x ∷ xs) = if bytes_eq (text_of x) text then Some x else first_written text xs

unfoldable pub written_of : List ℕ → Option Written
written_of text = first_written text the_written

abbrev pub weak_of : List ℕ → Option Weak
weak_of text =
    if bytes_eq text (codes "Box") then Some weak.Box
    else (if bytes_eq text (codes "dyn") then Some weak.Dyn
    else (if bytes_eq text (codes "macro_rules") then Some weak.MacroRules else None))

abbrev pub class_of : Token → Kind
class_of t =
    if is_name t then kind.Name
    else (if int_kind t.kind then kind.Int
    else (if is_literal t then kind.Literal
    else (if is_lifetime t then kind.Lifetime else kind.Other)))

abbrev pub weak_sort : Option Weak → Kind → Sort
weak_sort None k = sort.Plain k
weak_sort (Some x) k = sort.Weak x k

abbrev pub sort_named : Option Written → Option Weak → Kind → Sort
sort_named (Some x) y k = sort.Written x
sort_named None y k = weak_sort y k

-- by how the token is spelled, and its kind
abbrev pub sort_by : Option (List ℕ) → Kind → Sort
sort_by None k = sort.Plain k
sort_by (Some text) k = sort_named (written_of text) (weak_of text) k

unfoldable pub sort_of : Token → Sort
sort_of t = sort_by (spelling t) (class_of t)

abbrev pub the_kinds : List Kind
the_kinds = kind.Name ∷ kind.Int ∷ kind.Literal ∷ kind.Lifetime ∷ kind.Other ∷ []

-- all that a token can be
abbrev pub the_sorts : List Sort
the_sorts =
    map (λ x. sort.Written x) the_written
    ++ (map (λ k. sort.Weak weak.Box k) the_kinds ++ (map (λ k. sort.Weak weak.Dyn k) the_kinds
    ++ (map (λ k. sort.Weak weak.MacroRules k) the_kinds ++ map (λ k. sort.Plain k) the_kinds)))
