-- Laws of expressions, statements and blocks: how each is read, and that no two trees have one yield.
use Rattle.std.specs.Prelude.{◌≡◌, ℕ, ◌≤◌, Bool, [], ◌++◌}
use Rattle.em_tree.specs.declared.expr.Block.{Block}
use Rattle.em_tree.specs.declared.expr.Body.{Body}
use Rattle.em_tree.specs.declared.expr.Expr.{Expr}
use Rattle.em_tree.specs.declared.expr.Stmt.{Stmt}
use Rattle.em_tree.specs.Starts.{Pieces}
use Rattle.em_tree.specs.ExprGrammar.{IsExpr, BlockWithin, BodyWithin, IsFragmentStmt, expr_pieces, stmt_pieces, body_pieces, block_pieces}
use Rattle.em_grammar.specs.Sets.{Inside, Nested, anything}
use Rattle.em_grammar.specs.Reader.{Found, Absent}
use Rattle.em_grammar.specs.Pairs.{Pair, Firm, Exact}
use Rattle.em_grammar.specs.ExprSets.{Start, Anywhere, expr_first, level_clear, block_first}
use Rattle.em_grammar.specs.ExprLang.{Operand}
use Rattle.em_grammar.specs.StmtReader.{stmt_first, stmt_clear}
use Rattle.em_grammar.specs.ExprKnot.{expr_in, stmt_in, block_in, body_in}

-- expressions are read, wherever they stand and however tightly they bind at least
abbrev pub ExprsRead : Type 0
ExprsRead = (n depth : ℕ) (start : Start) (least : ℕ) (no_struct : Bool) → least ≤ 13
    → Pair (Nested n) depth (Operand start least no_struct) expr_pieces (expr_in n depth start least no_struct) expr_first (level_clear start least no_struct)

abbrev pub OneExpr : Type 0
OneExpr = (d e : ℕ) (no_struct : Bool) (x y : Expr) → IsExpr d no_struct x → IsExpr e no_struct y → expr_pieces x ≡ expr_pieces y → x ≡ y

-- within greater limits as within these
abbrev pub ExprsSteady : Type 0
ExprsSteady = (n m d e : ℕ) → n ≤ m → d ≤ e → (start : Start) (least : ℕ) (no_struct : Bool) → least ≤ 13 → Firm (expr_in n d start least no_struct) (expr_in m e start least no_struct)

-- of all expressions, wherever the ban on struct expressions holds or doesn't
abbrev pub ExprsExact : Type 0
ExprsExact = (no_struct : Bool) → Exact (λ d x. IsExpr d no_struct x) expr_pieces (λ n depth. expr_in n depth Anywhere 0 no_struct)

-- statements are read, as fragments without their last `;`
abbrev pub StmtsRead : Type 0
StmtsRead = (n depth : ℕ) → Pair (Nested n) depth IsFragmentStmt stmt_pieces (stmt_in n depth) stmt_first stmt_clear

abbrev pub StmtsSteady : Type 0
StmtsSteady = (n m d e : ℕ) → n ≤ m → d ≤ e → Firm (stmt_in n d) (stmt_in m e)

abbrev pub StmtsExact : Type 0
StmtsExact = Exact IsFragmentStmt stmt_pieces stmt_in

abbrev pub OneStmt : Type 0
OneStmt = (d e : ℕ) (x y : Stmt) → IsFragmentStmt d x → IsFragmentStmt e y → stmt_pieces x ≡ stmt_pieces y → x ≡ y

-- blocks are read
abbrev pub BlocksRead : Type 0
BlocksRead = (n depth : ℕ) → Pair (Nested n) depth BlockWithin block_pieces (block_in n depth) block_first (λ _. anything)

abbrev pub BlocksSteady : Type 0
BlocksSteady = (n m d e : ℕ) → n ≤ m → d ≤ e → Firm (block_in n d) (block_in m e)

abbrev pub BlocksExact : Type 0
BlocksExact = Exact BlockWithin block_pieces block_in

abbrev pub OneBlock : Type 0
OneBlock = (d e : ℕ) (x y : Block Body) → BlockWithin d x → BlockWithin e y → block_pieces x ≡ block_pieces y → x ≡ y

-- what is found as a body is one, and stands in front of what is left
abbrev pub BodiesFound : Type 0
BodiesFound = (n depth : ℕ) (i : Pieces) (x : Body) (r : Pieces) → body_in n depth i ≡ Found x r → ((d : ℕ) × BodyWithin d x) × (i ≡ body_pieces x ++ r)

-- and each is found where nothing is behind it
abbrev pub BodiesRead : Type 0
BodiesRead = (n depth d : ℕ) (x : Body) → d ≤ depth → Inside (Nested n) (body_pieces x) → BodyWithin d x → body_in n depth (body_pieces x) ≡ Found x []

abbrev pub BodiesSteady : Type 0
BodiesSteady = (n m d e : ℕ) → n ≤ m → d ≤ e → Firm (body_in n d) (body_in m e)

abbrev pub OneBody : Type 0
OneBody = (d e : ℕ) (x y : Body) → BodyWithin d x → BodyWithin e y → body_pieces x ≡ body_pieces y → x ≡ y

-- one is always found, or it nests too deep to tell
abbrev pub BodiesSome : Type 0
BodiesSome = (n depth : ℕ) (i : Pieces) → body_in n depth i ≡ Absent → ⊥

-- where anything is left behind it, the pieces are none, however deep
abbrev pub BodiesWhole : Type 0
BodiesWhole = (n depth : ℕ) (i : Pieces) (x : Body) (r : Pieces) → body_in n depth i ≡ Found x r → (d : ℕ) (y : Body) → BodyWithin d y → i ≡ body_pieces y → r ≡ []
