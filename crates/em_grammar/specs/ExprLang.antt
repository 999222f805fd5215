-- Expressions as the readers have them: where they stand, how tightly they bind, and what goes on with them.
use Rattle.std.specs.Prelude.{◌≡◌, ℕ, zero, suc, Bool, true, false, codes}
use Rattle.em_tree.specs.declared.expr.Expr.{Expr}
use Rattle.em_tree.specs.Tokens.{Is, Name}
use Rattle.em_tree.specs.PathGrammar.{IsIntLiteral}
use Rattle.em_tree.specs.ExprShape.{Edge, PastBlock, PastBraces, edge}
use Rattle.em_tree.specs.ExprGrammar.{IsExpr, IsOperand, ExprNode}
use Rattle.em_grammar.specs.Sorts.{sort_of}
use Rattle.em_grammar.specs.Lang.{Lists}
use Rattle.em_grammar.specs.ExprSets.{Start, Anywhere, InArm, InBlock, op_binds, op_sort, assign_sort}
use Rattle.em_grammar.specs.ExprReader.{Suffix, Right, Becomes, Method, Args, Member, Number, At}

-- it doesn't go on, but by a `.`, past what ends it there
abbrev pub edge_fits : Start → Edge → Bool
edge_fits Anywhere e = true
edge_fits InArm PastBlock = false
edge_fits InArm _ = true
edge_fits InBlock PastBlock = false
edge_fits InBlock PastBraces = false
edge_fits InBlock _ = true

-- within a depth, an operand of an operator that binds so tightly
abbrev pub Operand : Start → ℕ → Bool → ℕ → Expr → Type 0
Operand start least h d x = IsExpr d h x × IsOperand least x × (edge_fits start (edge x) ≡ true)

-- expressions of one depth less
abbrev pub deeper : ℕ → Bool → Expr → Type 0
deeper zero h x = ⊥
deeper (suc d) h x = IsExpr d h x

-- one node around the expressions of a depth
abbrev pub Node : ℕ → Bool → Expr → Type 0
Node d h x = ExprNode d (IsExpr d) (deeper d) h x

-- what goes on with an expression
abbrev pub IsSuffix : Bool → ℕ → Suffix → Type 0
IsSuffix h d (Right op y) = (op_sort (sort_of op) ≡ true) × Operand Anywhere (suc (op_binds (sort_of op))) h d y
IsSuffix h d (Becomes op y) = (assign_sort (sort_of op) ≡ true) × Operand Anywhere 3 h d y
IsSuffix h d (Method dot name o xs c) = Is (codes ".") dot × Name name × Is (codes "(") o × Lists (Operand Anywhere 0 false) d xs × Is (codes ")") c
IsSuffix h d (Args o xs c) = Is (codes "(") o × Lists (Operand Anywhere 0 false) d xs × Is (codes ")") c
IsSuffix h d (Member dot name) = Is (codes ".") dot × Name name
IsSuffix h d (Number dot number) = Is (codes ".") dot × IsIntLiteral number
IsSuffix h d (At o y c) = Is (codes "[") o × Operand Anywhere 0 false d y × Is (codes "]") c
