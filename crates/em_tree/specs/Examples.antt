-- Trees made by hand, and whether the grammar has them. The tokens are any that are spelled so.
use Rattle.std.specs.Prelude.{◌≡◌, ℕ, suc, Bool, [], ◌∷◌, codes, None}
use Rattle.em_base.specs.declared.token.Token.{Token}
use Rattle.em_tree.specs.declared.piece.Piece.TheVariants as p
use Rattle.em_tree.specs.declared.types.Segments.{Segments}
use Rattle.em_tree.specs.declared.types.Path.{Path}
use Rattle.em_tree.specs.declared.types.Path.TheVariants as path
use Rattle.em_tree.specs.declared.types.Output.TheVariants as output
use Rattle.em_tree.specs.declared.expr.Block.{Block}
use Rattle.em_tree.specs.declared.expr.Body.{Body, roll-Body}
use Rattle.em_tree.specs.declared.expr.Expr.{Expr}
use Rattle.em_tree.specs.declared.expr.Expr.TheVariants as expr
use Rattle.em_tree.specs.declared.expr.Expr.TheOpen.{Body-F}
use Rattle.em_tree.specs.declared.expr.Stmt.{Stmt}
use Rattle.em_tree.specs.declared.expr.ElseIf.{ElseIf}
use Rattle.em_tree.specs.declared.item.Sig.{Sig}
use Rattle.em_tree.specs.declared.item.Item.{Item}
use Rattle.em_tree.specs.declared.item.Item.TheVariants as item
use Rattle.em_tree.specs.declared.item.ItemBody.TheVariants as item_body
use Rattle.em_tree.specs.Tokens.{Is, Name}
use Rattle.em_tree.specs.ExprGrammar.{ExprWithin, IsExpr, expr_pieces}
use Rattle.em_tree.specs.ItemGrammar.{IsItem, item_pieces}

-- ---- `fn NAME() {}`

abbrev pub empty_sig : (word name open' close : Token) → Sig
empty_sig word name open' close = record { word = word; name = name; «open» = open'; receiver = None; params = []; close = close; output = output.Unit }

abbrev pub empty_layer : Body-F Expr Stmt Body ElseIf
empty_layer = record { stmts = []; tail = None }

abbrev pub empty_body : Body
empty_body = roll-Body empty_layer

abbrev pub empty_block : (left right : Token) → Block Body
empty_block left right = record { groups = []; «open» = left; body = empty_body; close = right }

abbrev pub empty_function : (word name open' close left right : Token) → Item
empty_function word name open' close left right = item.Plain [] None (item_body.Fn (empty_sig word name open' close) (empty_block left right))

abbrev pub EmptyFunction : Type 0
EmptyFunction = (depth : ℕ) (word name open' close left right : Token)
    → Is (codes "fn") word → Name name → Is (codes "(") open' → Is (codes ")") close → Is (codes "{") left → Is (codes "}") right
    → IsItem (suc depth) (empty_function word name open' close left right)
    × (item_pieces (empty_function word name open' close left right) ≡ p.Token word ∷ p.Token name ∷ p.Token open' ∷ p.Token close ∷ p.Token left ∷ p.Token right ∷ [])

-- ---- `a + b * c`

abbrev pub segments : Token → Segments
segments name = record { lead = None; first = record { dollar = None; name = name }; more = [] }

abbrev pub named : Token → Path
named name = path.Plain (segments name)

abbrev pub variable : Token → Expr
variable name = expr.Path (named name)

abbrev pub sum_of_product : (a plus b star c : Token) → Expr
sum_of_product a plus b star c = expr.Binary (variable a) plus (expr.Binary (variable b) star (variable c))

abbrev pub product_of_sum : (a plus b star c : Token) → Expr
product_of_sum a plus b star c = expr.Binary (expr.Binary (variable a) plus (variable b)) star (variable c)

-- the `*` binds more tightly
abbrev pub SumOfProduct : Type 0
SumOfProduct = (depth : ℕ) (a plus b star c : Token) → Name a → Is (codes "+") plus → Name b → Is (codes "*") star → Name c
    → ExprWithin (suc (suc (suc depth))) (sum_of_product a plus b star c)
    × (expr_pieces (sum_of_product a plus b star c) ≡ p.Token a ∷ p.Token plus ∷ p.Token b ∷ p.Token star ∷ p.Token c ∷ [])

-- and the `+` never does
abbrev pub NoProductOfSum : Type 0
NoProductOfSum = (depth : ℕ) (no_struct : Bool) (a plus b star c : Token) → Is (codes "+") plus → Is (codes "*") star
    → IsExpr depth no_struct (product_of_sum a plus b star c) → ⊥
