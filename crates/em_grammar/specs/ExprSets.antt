-- What expressions begin with, what goes on with them and what may follow them.
use Rattle.std.specs.Prelude.{ℕ, ◌==◌, nat_le, nat_lt, nat_eq, Bool, true, false, not, ◌&&◌, ◌||◌, if◌then◌else◌, List, [], ◌∷◌}
use Rattle.em_tree.specs.declared.piece.FragmentKind.{FragmentKind}
use Rattle.em_tree.specs.declared.piece.FragmentKind.TheVariants as fk
use Rattle.em_tree.specs.declared.expr.MacroCall.{MacroCall}
use Rattle.em_tree.specs.declared.expr.Expr.{Expr, out-Expr}
use Rattle.em_tree.specs.declared.expr.Stmt.{Stmt}
use Rattle.em_tree.specs.declared.expr.Body.{Body}
use Rattle.em_tree.specs.declared.expr.ElseIf.{ElseIf}
use Rattle.em_tree.specs.declared.expr.Expr.TheOpen.{Expr-F}
use Rattle.em_tree.specs.ExprShape.{strength, ends_open, ends_bare}
use Rattle.em_grammar.specs.declared.sort.Written.{Written}
use Rattle.em_grammar.specs.declared.sort.Written.TheVariants as word
use Rattle.em_grammar.specs.declared.sort.Sort.{Sort}
use Rattle.em_grammar.specs.Sorts.{sort_of}
use Rattle.em_grammar.specs.Sets.{Set, tokens, groups, either, both, others, only, any_of, literal_sort}
use Rattle.em_grammar.specs.PathReader.{path_first}

abbrev pub Layer : Type 0
Layer = Expr-F Expr Stmt Body ElseIf

-- ---- operators

-- how tightly a binary operator binds, and 0 for another token
abbrev pub op_binds : Sort → ℕ
op_binds k =
    if any_of (word.Star ∷ word.Slash ∷ word.Percent ∷ []) k then 12
    else (if any_of (word.Plus ∷ word.Minus ∷ []) k then 11
    else (if any_of (word.Shl ∷ word.Shr ∷ []) k then 10
    else (if any_of (word.And ∷ []) k then 9
    else (if any_of (word.Caret ∷ []) k then 8
    else (if any_of (word.Or ∷ []) k then 7
    else (if any_of (word.EqEq ∷ word.Ne ∷ word.Lt ∷ word.Gt ∷ word.Le ∷ word.Ge ∷ []) k then 6
    else (if any_of (word.AndAnd ∷ []) k then 5
    else (if any_of (word.OrOr ∷ []) k then 4 else 0))))))))

abbrev pub op_sort : Sort → Bool
op_sort k = nat_le 1 (op_binds k)

abbrev pub assigns : List Written
assigns =
    word.Eq ∷ word.PlusEq ∷ word.MinusEq ∷ word.StarEq ∷ word.SlashEq ∷ word.PercentEq ∷ word.CaretEq ∷ word.AndEq ∷ word.OrEq ∷ word.ShlEq ∷ word.ShrEq ∷ []

abbrev pub assign_sort : Sort → Bool
assign_sort k = any_of assigns k

abbrev pub postfix_sort : Sort → Bool
postfix_sort k = any_of (word.Dot ∷ word.OpenParen ∷ word.OpenBracket ∷ []) k

-- how tightly what begins with a token binds, where it goes on with an expression, and 0 for a token that begins nothing of the kind
abbrev pub binds : Sort → ℕ
binds k = if postfix_sort k then 14 else (if assign_sort k then 3 else op_binds k)

-- how tightly the left side binds at least
abbrev pub needs : ℕ → ℕ
needs n = if n == 6 then 7 else (if n == 3 then 4 else n)

-- ---- what begins

abbrev pub operand_kind : FragmentKind → Bool
operand_kind fk.Expr = true
operand_kind fk.Literal = true
operand_kind _ = false

abbrev pub block_kind : FragmentKind → Bool
block_kind fk.Block = true
block_kind _ = false

abbrev pub block_first : Set
block_first = either (tokens (only word.OpenBrace)) (groups block_kind)

-- the words and signs that begin an expression, but for paths and literals
abbrev pub expr_words : List Written
expr_words =
    word.OpenParen ∷ word.OpenBracket ∷ word.If ∷ word.Match ∷ word.While ∷ word.Loop ∷ word.For ∷ word.Move ∷ word.Or ∷ word.OrOr ∷ word.Return ∷ word.Break ∷ word.Continue
    ∷ word.Minus ∷ word.Not ∷ word.Star ∷ word.And ∷ word.AndAnd ∷ []

abbrev pub expr_first : Set
expr_first = either (tokens literal_sort) (either path_first (either (tokens (λ k. any_of expr_words k)) (either block_first (groups operand_kind))))

-- ---- what may follow

-- no path, macro call, `if` or, but in a head, struct expression goes on with it
abbrev pub free : Bool → Sort → Bool
free h k = not (any_of (word.PathSep ∷ word.Not ∷ word.Else ∷ []) k) && (h || not (only word.OpenBrace k))

-- what doesn't go on with an expression at this strength
abbrev pub base : ℕ → Bool → Set
base n h = record { end = true; token = λ k. (nat_eq (binds k) 0 || nat_lt (binds k) n) && free h k; group = λ f. true }

-- behind a `return` without a value
abbrev pub bare : Bool → Set
bare h = both (others expr_first) (base 0 h)

abbrev pub end_clear : (is_open is_bare : Bool) → ℕ → Bool → Set
end_clear true true n h = bare h
end_clear true false n h = base 0 h
end_clear false _ n h = base n h

abbrev pub after : ℕ → Bool → Expr → Set
after n h x = end_clear (ends_open x) (ends_bare x) n h

-- ---- where an expression begins

-- anywhere; as the body of an arm; or as a statement
pub data Start : Type 0 where
  Anywhere : Start
  InArm : Start
  InBlock : Start

abbrev pub has_braces : MacroCall → Bool
has_braces call = only word.OpenBrace (sort_of call.text.open)

-- it is itself a block, an `if`, a `match` or a loop
abbrev pub is_block : Layer → Bool
is_block (Expr-F.Block b) = true
is_block (Expr-F.If word condition then' branches word_else otherwise) = true
is_block (Expr-F.Match word scrutinee open' arms close) = true
is_block (Expr-F.While word condition body) = true
is_block (Expr-F.Loop word body) = true
is_block (Expr-F.For word pat word_in head dots end body) = true
is_block _ = false

abbrev pub is_braced : Layer → Bool
is_braced (Expr-F.Expr::Macro call) = has_braces call
is_braced _ = false

-- only a `.` goes on with it there
abbrev pub must_dot : Start → Layer → Bool
must_dot Anywhere l = false
must_dot InArm l = is_block l
must_dot InBlock l = is_block l || is_braced l

abbrev pub is_field : Layer → Bool
is_field (Expr-F.Field base dot name) = true
is_field _ = false

-- a `(` behind a field is a method's call
abbrev pub fits : Start → Layer → Sort → Bool
fits start l k = not (is_field l && only word.OpenParen k) && (not (must_dot start l) || only word.Dot k)

abbrev pub goes_on : Start → ℕ → Expr → Sort → Bool
goes_on start least x k = nat_le 1 (binds k) && (nat_le least (binds k) && (nat_le (needs (binds k)) (strength x) && (not (ends_open x) && fits start (out-Expr x) k)))

abbrev pub on : Start → ℕ → Expr → Set
on start least x = tokens (goes_on start least x)

-- behind a block that only a `.` goes on with
abbrev pub behind_block : Set
behind_block = others (tokens (λ k. any_of (word.Dot ∷ word.Else ∷ []) k))

abbrev pub dot_clear : Bool → Set → Set
dot_clear true s = behind_block
dot_clear false s = s

abbrev pub level_clear : Start → ℕ → Bool → Expr → Set
level_clear start n h x = dot_clear (must_dot start (out-Expr x)) (after n h x)

-- behind an expression that is no operator's, whatever goes on with it
abbrev pub is_prefix_operator : Layer → Bool
is_prefix_operator (Expr-F.Unary operator operand) = true
is_prefix_operator (Expr-F.Ref amp word_mut operand) = true
is_prefix_operator (Expr-F.RefRef amps word_mut operand) = true
is_prefix_operator _ = false

abbrev pub is_macro : Layer → Bool
is_macro (Expr-F.Expr::Macro call) = true
is_macro _ = false

abbrev pub block_or : Bool → Set → Set
block_or true s = others (tokens (only word.Else))
block_or false s = s

abbrev pub prefix_clear : Bool → Expr → Set
prefix_clear h x = block_or (is_block (out-Expr x) || is_macro (out-Expr x)) (after (if is_prefix_operator (out-Expr x) then 13 else 15) h x)

-- ---- patterns in expressions

-- no pattern begins with these; one without alternatives begins with no `|` either
abbrev pub top_start : Set
top_start = record { end = false; token = λ k. not (any_of (word.Comma ∷ word.Colon ∷ word.Eq ∷ word.FatArrow ∷ word.CloseBrace ∷ word.Dot ∷ word.Else ∷ word.In ∷ []) k); group = λ f. true }

abbrev pub pat_start : Set
pat_start = record { end = false; token = λ k. top_start.token k && not (only word.Or k); group = λ f. true }

-- what stands behind them in expressions
abbrev pub pat_follow : Set
pat_follow = tokens (λ k. any_of (word.Colon ∷ word.Comma ∷ word.Or ∷ word.Eq ∷ word.In ∷ []) k)

abbrev pub top_follow : Set
top_follow = tokens (λ k. any_of (word.FatArrow ∷ word.Eq ∷ []) k)
