-- Trees made by hand, in the grammar or not.
use Rattle.std.proofs.Common.{◌≡◌, ◌≤◌, ℕ, zero, suc, Bool, false, [], ◌∷◌, ◌++◌, codes, None, refl, sym, ap, subst, ◌∙◌, arith, inl}
use Rattle.em_base.specs.declared.token.Token.{Token}
use Rattle.em_tree.specs.declared.piece.Piece.TheVariants as p
use Rattle.em_tree.specs.declared.types.Path.TheVariants as path
use Rattle.em_tree.specs.declared.types.Output.TheVariants as output
use Rattle.em_tree.specs.declared.expr.Expr.{Expr, out-Expr, fold-roll-Expr}
use Rattle.em_tree.specs.declared.expr.Expr.TheVariants as expr
use Rattle.em_tree.specs.declared.expr.Expr.TheOpen.{Expr-F}
use Rattle.em_tree.specs.declared.item.Item.TheVariants as item
use Rattle.em_tree.specs.declared.item.ItemBody.TheVariants as item_body
use Rattle.em_tree.specs.Parts.{block_parts, body_parts, expr_parts}
use Rattle.em_tree.specs.Yields.{piece, whole, as_it_is}
use Rattle.em_tree.specs.Tokens.{Is, Name}
use Rattle.em_tree.specs.PathGrammar
use Rattle.em_tree.specs.ExprShape.{operator_strength, strength, strength_of, ends_open, open_step}
use Rattle.em_tree.specs.ExprGrammar
use Rattle.em_tree.specs.ExprGrammar.{ExprNode, IsExpr, ExprWithin, BlockWithin, expr_pieces, left_strength}
use Rattle.em_tree.specs.ItemGrammar
use Rattle.em_tree.specs.ItemGrammar.{IsItem, OutputWithin, item_pieces}
use Rattle.em_tree.specs.Examples.{segments, named, empty_sig, empty_body, empty_block, empty_function, variable, sum_of_product, product_of_sum, EmptyFunction, SumOfProduct, NoProductOfSum}
use Rattle.em_tree.proofs.Layers.{at-Output-Unit, at-Path-Plain, at-Expr-Path, at-Expr-Binary, at-Body, at-Item-Plain}

-- ---- an item

no_output : (depth : ℕ) → OutputWithin depth output.Unit
unfolding OutputWithin
no_output zero = PathGrammar.IsOutput.nothing output.outs-Unit refl
no_output (suc depth) = PathGrammar.IsOutput.nothing output.outs-Unit refl

body_is : (depth : ℕ) (Inner Deeper : Bool → Expr → Type 0) → ExprGrammar.IsBody depth Inner Deeper empty_body
body_is depth Inner Deeper = record { stmts = tt; end = tt }

block_is : (depth : ℕ) (left right : Token) → Is (codes "{") left → Is (codes "}") right → BlockWithin depth (empty_block left right)
unfolding BlockWithin
block_is zero left right opens closes = record { opens = opens; body = body_is _ _ _; closes = closes; groups = tt }
block_is (suc depth) left right opens closes = record { opens = opens; body = body_is _ _ _; closes = closes; groups = tt }

item_is : (depth : ℕ) (word name open' close left right : Token)
    → Is (codes "fn") word → Name name → Is (codes "(") open' → Is (codes ")") close → Is (codes "{") left → Is (codes "}") right
    → IsItem (suc depth) (empty_function word name open' close left right)
unfolding IsItem
item_is depth word name open' close left right is_word is_name opens closes is_left is_right =
    ItemGrammar.ItemNode.plain (item.outs-Plain [] None (item_body.Fn (empty_sig word name open' close) (empty_block left right))) tt tt (
      record { word = is_word; name = is_name; opens = opens; begins = tt; params = tt; closes = closes; output = no_output depth },
      block_is depth left right is_left is_right,
    )

no_body : body_parts piece whole as_it_is empty_body ≡ []
no_body = at-Body piece whole as_it_is empty_body

item_yields : (word name open' close left right : Token)
    → item_pieces (empty_function word name open' close left right) ≡ p.Token word ∷ p.Token name ∷ p.Token open' ∷ p.Token close ∷ p.Token left ∷ p.Token right ∷ []
item_yields word name open' close left right =
    at-Item-Plain piece whole as_it_is (empty_function word name open' close left right) [] None (item_body.Fn (empty_sig word name open' close) (empty_block left right)) refl
    ∙ ap (λ o. (piece word ++ (piece name ++ (piece open' ++ (piece close ++ o)))) ++ block_parts piece whole as_it_is (body_parts piece whole as_it_is) (empty_block left right))
    (at-Output-Unit piece whole as_it_is output.Unit refl)
    ∙ ap (λ b. p.Token word ∷ p.Token name ∷ p.Token open' ∷ p.Token close ∷ p.Token left ∷ (b ++ piece right)) no_body

pub empty_function_is_item : EmptyFunction
empty_function_is_item depth word name open' close left right is_word is_name opens closes is_left is_right =
    (item_is depth word name open' close left right is_word is_name opens closes is_left is_right, item_yields word name open' close left right)

-- ---- an expression

plus_strength : (t : Token) → Is (codes "+") t → operator_strength t ≡ 11
plus_strength t is = rw is refl

star_strength : (t : Token) → Is (codes "*") t → operator_strength t ≡ 12
star_strength t is = rw is refl

variable_is : (depth : ℕ) (h : Bool) (name : Token) → Name name → IsExpr (suc depth) h (variable name)
unfolding IsExpr
variable_is zero h name is =
    ExprGrammar.ExprNode.path (expr.outs-Path (named name)) (PathGrammar.IsPath.plain (path.outs-Plain (segments name)) (record { lead = tt; first = inl is; more = tt }))
variable_is (suc depth) h name is =
    ExprGrammar.ExprNode.path (expr.outs-Path (named name)) (PathGrammar.IsPath.plain (path.outs-Plain (segments name)) (record { lead = tt; first = inl is; more = tt }))

variable_strength : (name : Token) → strength (variable name) ≡ 15
variable_strength name = ap strength_of (expr.outs-Path (named name))

variable_ends : (name : Token) → ends_open (variable name) ≡ false
unfolding ends_open
variable_ends name = ap ends_open (sym (expr.rolls-Path (named name))) ∙ fold-roll-Expr Bool (Unit {0}) (Unit {0}) (Unit {0}) open_step (λ s. tt) (λ b. tt) (λ e. tt) (Expr-F.Path (named name))

variable_yields : (name : Token) → expr_parts piece whole as_it_is (variable name) ≡ p.Token name ∷ []
variable_yields name = at-Expr-Path piece whole as_it_is (variable name) (named name) refl ∙ at-Path-Plain piece whole as_it_is (named name) (segments name) refl

product_is : (depth : ℕ) (h : Bool) (b star c : Token) → Name b → Is (codes "*") star → Name c → IsExpr (suc (suc depth)) h (expr.Binary (variable b) star (variable c))
unfolding IsExpr
product_is depth h b star c is_b is_star is_c =
    ExprGrammar.ExprNode.binary (expr.outs-Binary _ _ _)
    (rw (star_strength star is_star) (omega arith))
    (variable_is depth h b is_b, rw (star_strength star is_star) (rw (variable_strength b) (omega arith)), variable_ends b)
    (variable_is depth h c is_c, inl (rw (star_strength star is_star) (rw (variable_strength c) (omega arith))))

sum_is : (depth : ℕ) (a plus b star c : Token) → Name a → Is (codes "+") plus → Name b → Is (codes "*") star → Name c
    → ExprWithin (suc (suc (suc depth))) (sum_of_product a plus b star c)
unfolding IsExpr
sum_is depth a plus b star c is_a is_plus is_b is_star is_c =
    ExprGrammar.ExprNode.binary (expr.outs-Binary _ _ _)
    (rw (plus_strength plus is_plus) (omega arith))
    (variable_is (suc depth) false a is_a, rw (plus_strength plus is_plus) (rw (variable_strength a) (omega arith)), variable_ends a) (
      product_is depth false b star c is_b is_star is_c,
      inl (rw (plus_strength plus is_plus) (rw (ap strength_of (expr.outs-Binary (variable b) star (variable c)) ∙ star_strength star is_star) (omega arith))),
    )

sum_yields : (a plus b star c : Token) → expr_pieces (sum_of_product a plus b star c) ≡ p.Token a ∷ p.Token plus ∷ p.Token b ∷ p.Token star ∷ p.Token c ∷ []
sum_yields a plus b star c =
    at-Expr-Binary piece whole as_it_is (sum_of_product a plus b star c) (variable a) plus (expr.Binary (variable b) star (variable c)) refl
    ∙ ap (λ l. l ++ (piece plus ++ expr_parts piece whole as_it_is (expr.Binary (variable b) star (variable c)))) (variable_yields a)
    ∙ ap (λ r. p.Token a ∷ p.Token plus ∷ r) (at-Expr-Binary piece whole as_it_is (expr.Binary (variable b) star (variable c)) (variable b) star (variable c) refl)
    ∙ ap (λ l. p.Token a ∷ p.Token plus ∷ (l ++ (piece star ++ expr_parts piece whole as_it_is (variable c)))) (variable_yields b)
    ∙ ap (λ r. p.Token a ∷ p.Token plus ∷ p.Token b ∷ p.Token star ∷ r) (variable_yields c)

pub sum_of_product_is_one : SumOfProduct
sum_of_product_is_one depth a plus b star c is_a is_plus is_b is_star is_c =
    (sum_is depth a plus b star c is_a is_plus is_b is_star is_c, sum_yields a plus b star c)

-- the left side of a binary operator binds as tightly as the operator
left_is_tight : (depth : ℕ) (Inner Deeper : Bool → Expr → Type 0) (h : Bool) (x l : Expr) (o : Token) (r : Expr) → out-Expr x ≡ Expr-F.Binary l o r
    → ExprNode depth Inner Deeper h x → left_strength (operator_strength o) ≤ strength l
left_is_tight depth Inner Deeper h x l o r is (ExprGrammar.ExprNode.literal e h1) = let no = sym is ∙ e in cc
left_is_tight depth Inner Deeper h x l o r is (ExprGrammar.ExprNode.path e h1) = let no = sym is ∙ e in cc
left_is_tight depth Inner Deeper h x l o r is (ExprGrammar.ExprNode.struct e h1 h2 h3 h4) = let no = sym is ∙ e in cc
left_is_tight depth Inner Deeper h x l o r is (ExprGrammar.ExprNode.paren e h1 h2 h3) = let no = sym is ∙ e in cc
left_is_tight depth Inner Deeper h x l o r is (ExprGrammar.ExprNode.array e h1 h2 h3) = let no = sym is ∙ e in cc
left_is_tight depth Inner Deeper h x l o r is (ExprGrammar.ExprNode.repeat e h1 h2 h3 h4 h5) = let no = sym is ∙ e in cc
left_is_tight depth Inner Deeper h x l o r is (ExprGrammar.ExprNode.block e h1) = let no = sym is ∙ e in cc
left_is_tight depth Inner Deeper h x l o r is (ExprGrammar.ExprNode.if' e h1 h2 h3 h4 h5) = let no = sym is ∙ e in cc
left_is_tight depth Inner Deeper h x l o r is (ExprGrammar.ExprNode.match e h1 h2 h3 h4 h5) = let no = sym is ∙ e in cc
left_is_tight depth Inner Deeper h x l o r is (ExprGrammar.ExprNode.while e h1 h2 h3) = let no = sym is ∙ e in cc
left_is_tight depth Inner Deeper h x l o r is (ExprGrammar.ExprNode.loop e h1 h2) = let no = sym is ∙ e in cc
left_is_tight depth Inner Deeper h x l o r is (ExprGrammar.ExprNode.for' e h1 h2 h3 h4 h5) = let no = sym is ∙ e in cc
left_is_tight depth Inner Deeper h x l o r is (ExprGrammar.ExprNode.closure e h1 h2 h3) = let no = sym is ∙ e in cc
left_is_tight depth Inner Deeper h x l o r is (ExprGrammar.ExprNode.closure_to e h1 h2 h3 h4 h5) = let no = sym is ∙ e in cc
left_is_tight depth Inner Deeper h x l o r is (ExprGrammar.ExprNode.macro e h1) = let no = sym is ∙ e in cc
left_is_tight depth Inner Deeper h x l o r is (ExprGrammar.ExprNode.return e h1 h2) = let no = sym is ∙ e in cc
left_is_tight depth Inner Deeper h x l o r is (ExprGrammar.ExprNode.break e h1) = let no = sym is ∙ e in cc
left_is_tight depth Inner Deeper h x l o r is (ExprGrammar.ExprNode.continue e h1) = let no = sym is ∙ e in cc
left_is_tight depth Inner Deeper h x l o r is (ExprGrammar.ExprNode.method_call e h1 h2 h3 h4 h5 h6) = let no = sym is ∙ e in cc
left_is_tight depth Inner Deeper h x l o r is (ExprGrammar.ExprNode.call e h1 h2 h3 h4 h5) = let no = sym is ∙ e in cc
left_is_tight depth Inner Deeper h x l o r is (ExprGrammar.ExprNode.field e h1 h2 h3) = let no = sym is ∙ e in cc
left_is_tight depth Inner Deeper h x l o r is (ExprGrammar.ExprNode.place e h1 h2 h3) = let no = sym is ∙ e in cc
left_is_tight depth Inner Deeper h x l o r is (ExprGrammar.ExprNode.index e h1 h2 h3 h4) = let no = sym is ∙ e in cc
left_is_tight depth Inner Deeper h x l o r is (ExprGrammar.ExprNode.unary' e h1 h2) = let no = sym is ∙ e in cc
left_is_tight depth Inner Deeper h x l o r is (ExprGrammar.ExprNode.ref e h1 h2 h3) = let no = sym is ∙ e in cc
left_is_tight depth Inner Deeper h x l o r is (ExprGrammar.ExprNode.ref_ref e h1 h2 h3 h4) = let no = sym is ∙ e in cc
left_is_tight depth Inner Deeper h x l o r is (ExprGrammar.ExprNode.binary {y = y} {z = z} {operator = operator} e h1 h2 h3) =
    let same : Expr-F.Binary y operator z ≡ Expr-F.Binary l o r = sym e ∙ is in
    let left : y ≡ l = cc in
    let sign : operator ≡ o = cc in
    subst (λ q. left_strength (operator_strength q) ≤ strength l) sign (subst (λ q. left_strength (operator_strength operator) ≤ strength q) left h2.1)
left_is_tight depth Inner Deeper h x l o r is (ExprGrammar.ExprNode.assign e h1 h2 h3) = let no = sym is ∙ e in cc
left_is_tight depth Inner Deeper h x l o r is (ExprGrammar.ExprNode.group e h1 h2 h3) = let no = sym is ∙ e in cc

no_product : (depth : ℕ) (Inner Deeper : Bool → Expr → Type 0) (h : Bool) (a plus b star c : Token) → Is (codes "+") plus → Is (codes "*") star
    → ExprNode depth Inner Deeper h (product_of_sum a plus b star c) → ⊥
no_product depth Inner Deeper h a plus b star c is_plus is_star node =
    let tight = left_is_tight depth Inner Deeper h (product_of_sum a plus b star c) (expr.Binary (variable a) plus (variable b)) star (variable c) (expr.outs-Binary _ _ _) node in
    let weak : strength (expr.Binary (variable a) plus (variable b)) ≡ 11 = ap strength_of (expr.outs-Binary (variable a) plus (variable b)) ∙ plus_strength plus is_plus in
    let strong : left_strength (operator_strength star) ≡ 12 = ap left_strength (star_strength star is_star) in
    omega (arith, tight, weak, strong)

pub no_product_of_sum : NoProductOfSum
unfolding IsExpr
no_product_of_sum zero h a plus b star c is_plus is_star node = elim node [ ]
no_product_of_sum (suc zero) h a plus b star c is_plus is_star node = no_product zero _ _ h a plus b star c is_plus is_star node
no_product_of_sum (suc (suc depth)) h a plus b star c is_plus is_star node = no_product (suc depth) _ _ h a plus b star c is_plus is_star node
