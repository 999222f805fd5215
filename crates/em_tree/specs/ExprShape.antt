-- How tightly an expression binds, how it begins and how it ends (Reference, "Expression precedence" and "Expression
-- statements").
use Rattle.std.specs.Prelude.{ℕ, Bool, true, false, List, [], ◌∷◌, codes, if◌then◌else◌, Option, Some, None}
use Rattle.std.specs.Str.{bytes_eq}
use Rattle.em_base.specs.declared.token.Token.{Token}
use Rattle.em_tree.specs.declared.expr.Expr.{Expr, out-Expr, fold-Expr}
use Rattle.em_tree.specs.declared.expr.MacroCall.{MacroCall}
use Rattle.em_tree.specs.declared.expr.Stmt.{Stmt}
use Rattle.em_tree.specs.declared.expr.Body.{Body}
use Rattle.em_tree.specs.declared.expr.ElseIf.{ElseIf}
use Rattle.em_tree.specs.declared.expr.Expr.TheOpen.{Expr-F, Stmt-F, Body-F, ElseIf-F}
use Rattle.em_tree.specs.Starts.{is_spelled}

-- ---- strength

-- how tightly a binary operator binds, and 0 for another token
abbrev pub operator_strength : Token → ℕ
operator_strength t =
    if is_spelled (codes "*" ∷ codes "/" ∷ codes "%" ∷ []) t then 12
    else (if is_spelled (codes "+" ∷ codes "-" ∷ []) t then 11
    else (if is_spelled (codes "<<" ∷ codes ">>" ∷ []) t then 10
    else (if is_spelled (codes "&" ∷ []) t then 9
    else (if is_spelled (codes "^" ∷ []) t then 8
    else (if is_spelled (codes "|" ∷ []) t then 7
    else (if is_spelled (codes "==" ∷ codes "!=" ∷ codes "<" ∷ codes ">" ∷ codes "<=" ∷ codes ">=" ∷ []) t then 6
    else (if is_spelled (codes "&&" ∷ []) t then 5
    else (if is_spelled (codes "||" ∷ []) t then 4 else 0))))))))

abbrev pub comparison : ℕ
comparison = 6

abbrev pub postfix : ℕ
postfix = 14

abbrev pub unary : ℕ
unary = 13

-- assignments bind from the right
abbrev pub assignment : ℕ
assignment = 3

-- closures and `return` take all that follows
abbrev pub takes_all : ℕ
takes_all = 2

-- what stands for itself binds as tightly as may be, a group too
abbrev pub strength_of : Expr-F Expr Stmt Body ElseIf → ℕ
strength_of (Expr-F.MethodCall receiver dot name open' arguments close) = postfix
strength_of (Expr-F.Call callee open' arguments close) = postfix
strength_of (Expr-F.Field base dot name) = postfix
strength_of (Expr-F.Place base dot number) = postfix
strength_of (Expr-F.Index base open' index close) = postfix
strength_of (Expr-F.Unary operator operand) = unary
strength_of (Expr-F.Ref amp word_mut operand) = unary
strength_of (Expr-F.RefRef amps word_mut operand) = unary
strength_of (Expr-F.Binary left operator right) = operator_strength operator
strength_of (Expr-F.Assign left operator right) = assignment
strength_of (Expr-F.Closure word_move head body) = takes_all
strength_of (Expr-F.ClosureTo word_move head arrow output body) = takes_all
strength_of (Expr-F.Return word value) = takes_all
strength_of _ = 15

abbrev pub strength : Expr → ℕ
strength x = strength_of (out-Expr x)

-- ---- the left end

-- what an expression begins with: nothing special; it is itself a block, an `if`, a `match` or a loop; it is itself a macro call with
-- braces, or with other delimiters; it goes on, otherwise than by a `.`, behind a block or behind a call with braces
pub data Edge : Type 0 where
  Fine : Edge
  BlockLike : Edge
  Braces : Edge
  Round : Edge
  PastBlock : Edge
  PastBraces : Edge

-- a `.` behind a block or a call begins a postfix form
abbrev pub dotted : Edge → Edge
dotted PastBlock = PastBlock
dotted PastBraces = PastBraces
dotted _ = Fine

-- anything else behind it goes on past it
abbrev pub past : Edge → Edge
past BlockLike = PastBlock
past Braces = PastBraces
past PastBlock = PastBlock
past PastBraces = PastBraces
past _ = Fine

abbrev pub call_edge : MacroCall → Edge
call_edge call = if is_spelled (codes "{" ∷ []) call.text.open then Braces else Round

abbrev pub edge_step : Expr-F Edge (Unit {0}) (Unit {0}) (Unit {0}) → Edge
edge_step (Expr-F.Block b) = BlockLike
edge_step (Expr-F.If word condition then' branches word_else otherwise) = BlockLike
edge_step (Expr-F.Match word scrutinee open' arms close) = BlockLike
edge_step (Expr-F.While word condition body) = BlockLike
edge_step (Expr-F.Loop word body) = BlockLike
edge_step (Expr-F.For word pat word_in head dots end body) = BlockLike
edge_step (Expr-F.Expr::Macro call) = call_edge call
edge_step (Expr-F.MethodCall receiver dot name open' arguments close) = dotted receiver
edge_step (Expr-F.Field base dot name) = dotted base
edge_step (Expr-F.Place base dot number) = dotted base
edge_step (Expr-F.Call callee open' arguments close) = past callee
edge_step (Expr-F.Index base open' index close) = past base
edge_step (Expr-F.Binary left operator right) = past left
edge_step (Expr-F.Assign left operator right) = past left
edge_step _ = Fine

unfoldable pub edge : Expr → Edge
edge x = fold-Expr Edge (Unit {0}) (Unit {0}) (Unit {0}) edge_step (λ s. tt) (λ b. tt) (λ e. tt) x

-- it is a block alone
abbrev pub is_block_layer : Expr-F Expr Stmt Body ElseIf → Bool
is_block_layer (Expr-F.Block b) = true
is_block_layer _ = false

abbrev pub is_bare_block : Expr → Bool
is_bare_block x = is_block_layer (out-Expr x)

-- ---- the right end

-- what stands at the right end of an operator's expression, and false for a form that ends otherwise
abbrev pub right_end : Expr-F Bool (Unit {0}) (Unit {0}) (Unit {0}) → Bool
right_end (Expr-F.Unary operator operand) = operand
right_end (Expr-F.Ref amp word_mut operand) = operand
right_end (Expr-F.RefRef amps word_mut operand) = operand
right_end (Expr-F.Binary left operator right) = right
right_end (Expr-F.Assign left operator right) = right
right_end _ = false

abbrev pub open_step : Expr-F Bool (Unit {0}) (Unit {0}) (Unit {0}) → Bool
open_step (Expr-F.Closure word_move head body) = true
open_step (Expr-F.ClosureTo word_move head arrow output body) = true
open_step (Expr-F.Return word value) = true
open_step x = right_end x

-- the expression ends in a closure or a `return`, which takes all that follows, so nothing goes on with the whole
unfoldable pub ends_open : Expr → Bool
ends_open x = fold-Expr Bool (Unit {0}) (Unit {0}) (Unit {0}) open_step (λ s. tt) (λ b. tt) (λ e. tt) x

abbrev pub bare_step : Expr-F Bool (Unit {0}) (Unit {0}) (Unit {0}) → Bool
bare_step (Expr-F.Return word None) = true
bare_step (Expr-F.Return word (Some value)) = value
bare_step (Expr-F.Closure word_move head body) = body
bare_step x = right_end x

-- the expression ends in a `return` without a value
unfoldable pub ends_bare : Expr → Bool
ends_bare x = fold-Expr Bool (Unit {0}) (Unit {0}) (Unit {0}) bare_step (λ s. tt) (λ b. tt) (λ e. tt) x
