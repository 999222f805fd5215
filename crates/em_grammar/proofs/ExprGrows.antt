-- What nests no deeper than a number nests no deeper than a greater one.
use Rattle.std.proofs.Common.{ℕ, zero, suc, Bool, true, false, List, [], ◌∷◌, Option, Some, None}
use Rattle.em_base.specs.declared.token.Token.{Token}
use Rattle.em_tree.specs.declared.parts.Listed.{Listed}
use Rattle.em_tree.specs.declared.types.Path.{Path}
use Rattle.em_tree.specs.declared.types.TypeTree.{TypeTree}
use Rattle.em_tree.specs.declared.pat.Pat.{Pat}
use Rattle.em_tree.specs.declared.pat.TopPat.{TopPat}
use Rattle.em_tree.specs.declared.expr.Annotation.{Annotation}
use Rattle.em_tree.specs.declared.expr.Annotation.TheVariants as annotation
use Rattle.em_tree.specs.declared.expr.Arm.{Arm}
use Rattle.em_tree.specs.declared.expr.Block.{Block}
use Rattle.em_tree.specs.declared.expr.Body.{Body, out-Body}
use Rattle.em_tree.specs.declared.expr.ClosureParam.{ClosureParam}
use Rattle.em_tree.specs.declared.expr.ClosureHead.{ClosureHead}
use Rattle.em_tree.specs.declared.expr.ClosureHead.TheVariants as head
use Rattle.em_tree.specs.declared.expr.Condition.{Condition}
use Rattle.em_tree.specs.declared.expr.Condition.TheVariants as condition
use Rattle.em_tree.specs.declared.expr.ElseIf.{ElseIf, out-ElseIf}
use Rattle.em_tree.specs.declared.expr.Expr.{Expr}
use Rattle.em_tree.specs.declared.expr.FieldExpr.{FieldExpr}
use Rattle.em_tree.specs.declared.expr.Stmt.{Stmt}
use Rattle.em_tree.specs.Tokens.{Maybe, Commas}
use Rattle.em_tree.specs.PathGrammar.{PathWithin, TypeWithin}
use Rattle.em_tree.specs.PatGrammar.{IsPat, IsTopPat}
use Rattle.em_tree.specs.ExprGrammar as g
use Rattle.em_tree.specs.ExprGrammar.{IsExpr, IsFieldExpr, IsAnnotation, AreParams, IsHead, IsStmt, IsTail, IsEnd, IsBody, IsBlock, IsCondition, IsElseIf, IsOtherwise, IsArm, EndsArm, AreArms, IsRange, ExprNode}
use Rattle.em_grammar.specs.ExprLang.{Node, deeper}
use Rattle.em_grammar.proofs.Lists.{more_commas, more_each}

more_maybe : {A : Type 0} (M N : A → Type 0) → ((x : A) → M x → N x) → (o : Option A) → Maybe M o → Maybe N o
more_maybe M N h None m = tt
more_maybe M N h (Some x) m = h x m

more_field : (I J : Expr → Type 0) → ((x : Expr) → I x → J x) → (x : FieldExpr Expr) → IsFieldExpr I x → IsFieldExpr J x
more_field I J h x m = go x.name x.colon x.value m
  where
    go : (n : Token) (c : Option Token) (v : Option Expr) → IsFieldExpr I (record { name = n; colon = c; value = v }) → IsFieldExpr J (record { name = n; colon = c; value = v })
    go n None None m = m
    go n (Some c) (Some v) m = (m.0, (m.1.0, h v m.1.1))
    go n None (Some v) m = absurd m.1
    go n (Some c) None m = absurd m.1

-- what patterns and types of one depth are of another
pub record Deepens (d e : ℕ) : Type 0 where
  pub types : (x : TypeTree) → TypeWithin d x → TypeWithin e x
  pub paths : (x : Path) → PathWithin d x → PathWithin e x
  pub pats : (x : Pat) → IsPat d x → IsPat e x
  pub tops : (x : TopPat) → IsTopPat d x → IsTopPat e x

module _ (d e : ℕ) (I J D E : Bool → Expr → Type 0) (a : Deepens d e) (up : (h : Bool) (x : Expr) → I h x → J h x) (down : (h : Bool) (x : Expr) → D h x → E h x) where
  more_annotation : (x : Annotation) → IsAnnotation d x → IsAnnotation e x
  more_annotation annotation.Nothing m = tt
  more_annotation (annotation.Type colon ty) m = (m.0, a.types ty m.1)

  more_params : (xs : List ClosureParam) → AreParams d xs → AreParams e xs
  more_params [] m = tt
  more_params (x ∷ []) m = (a.pats x.pat m.0, more_annotation x.annotation m.1, m.2)
  more_params (x ∷ y ∷ rest) m = (a.pats x.pat m.0, more_annotation x.annotation m.1, m.2, more_params (y ∷ rest) m.3)

  more_head : (x : ClosureHead) → IsHead d x → IsHead e x
  more_head (head.Empty bars) m = m
  more_head (head.Bars o params c) m = (m.0, more_params params m.1, m.2)

  pub more_stmt : (b : Bool) (x : Stmt) → IsStmt d I D b x → IsStmt e J E b x
  more_stmt b x (g.IsStmt.mention is k l m n o) = g.IsStmt.mention is k l m n o
  more_stmt b x (g.IsStmt.let' {pat} {ty} {value} is k p t n q v s) = g.IsStmt.let' is k (a.pats pat p) (more_annotation ty t) n q (up false value v) s
  more_stmt b x (g.IsStmt.macro is k l) = g.IsStmt.macro is k l
  more_stmt b x (g.IsStmt.expr {value} is v k s) = g.IsStmt.expr is (up false value v) k s
  more_stmt b x (g.IsStmt.block_like {value} is v k s) = g.IsStmt.block_like is (up false value v) k s
  more_stmt b x (g.IsStmt.group {y} is k ps m s) = g.IsStmt.group is k ps (more_stmt false y m) s

  pub more_tail : (x : Expr) → IsTail d I D x → IsTail e J E x
  more_tail x (g.IsTail.expr m k) = g.IsTail.expr (up false x m) k
  more_tail x (g.IsTail.group {y} is k ps m) = g.IsTail.group is k ps (more_tail y m)

  more_end : (xs : List Stmt) (o : Option Expr) → IsEnd d I D xs o → IsEnd e J E xs o
  more_end xs None m = m
  more_end xs (Some x) m = more_tail x m

  pub more_body : (x : Body) → IsBody d I D x → IsBody e J E x
  more_body x m = record {
    stmts = more_each (IsStmt d I D true) (IsStmt e J E true) (more_stmt true) (out-Body x).stmts m.stmts;
    end = more_end (out-Body x).stmts (out-Body x).tail m.end;
  }

  pub more_block : (b : Block Body) → IsBlock d I D b → IsBlock e J E b
  more_block b m = record { opens = m.opens; body = more_body b.body m.body; closes = m.closes; groups = m.groups }

  more_condition : (x : Condition Expr) → IsCondition d I D x → IsCondition e J E x
  more_condition (condition.Expr x) m = (up true x m.0, m.1)
  more_condition (condition.Let w q t x) m = (m.0, a.tops q m.1, m.2, (up true x m.3.0, m.3.1), m.4)

  more_else_if : (x : ElseIf) → IsElseIf d I D x → IsElseIf e J E x
  more_else_if x m = (m.0, m.1, more_condition (out-ElseIf x).condition m.2, more_block (out-ElseIf x).then m.3)

  more_otherwise : (w : Option Token) (b : Option (Block Body)) → IsOtherwise d I D w b → IsOtherwise e J E w b
  more_otherwise None None m = tt
  more_otherwise (Some w) (Some b) m = (m.0, more_block b m.1)
  more_otherwise None (Some b) m = absurd m
  more_otherwise (Some w) None m = absurd m

  more_arm : (x : Arm Expr) → IsArm d I D x → IsArm e J E x
  more_arm x m = (a.tops x.pat m.0, m.1, up false x.body m.2, m.3)

  more_ends : (last : Bool) (x : Arm Expr) → EndsArm d I D last x → EndsArm e J E last x
  more_ends last x (g.EndsArm.comma is k) = g.EndsArm.comma is k
  more_ends last x (g.EndsArm.last is k) = g.EndsArm.last is k
  more_ends last x (g.EndsArm.block_like is k) = g.EndsArm.block_like is k

  more_arms : (xs : List (Arm Expr)) → AreArms d I D xs → AreArms e J E xs
  more_arms [] m = tt
  more_arms (x ∷ []) m = (more_arm x m.0, more_ends true x m.1)
  more_arms (x ∷ y ∷ rest) m = (more_arm x m.0, more_ends false x m.1, more_arms (y ∷ rest) m.2)

  more_range : (x : Expr) (dots : Option Token) (y : Option Expr) → IsRange d I D x dots y → IsRange e J E x dots y
  more_range x None None m = (up true x m.0, m.1)
  more_range x (Some dots) (Some y) m = (m.0, (up true x m.1.0, m.1.1, m.1.2), (up true y m.2.0, m.2.1), m.3, m.4)
  more_range x None (Some y) m = absurd m
  more_range x (Some dots) None m = absurd m

  more_list : (xs : List (Listed Expr)) → Commas (I false) xs → Commas (J false) xs
  more_list xs m = more_commas (I false) (J false) (up false) xs m

  pub more_node : (h : Bool) (x : Expr) → ExprNode d I D h x → ExprNode e J E h x
  more_node h x (g.ExprNode.literal is m) = g.ExprNode.literal is m
  more_node h x (g.ExprNode.path {y} is m) = g.ExprNode.path is (a.paths y m)
  more_node _ x (g.ExprNode.struct {y} {fields} is m b k c) = g.ExprNode.struct is (a.paths y m) b (more_commas (IsFieldExpr (I false)) (IsFieldExpr (J false)) (more_field (I false) (J false) (up false)) fields k) c
  more_node h x (g.ExprNode.paren {y} is b m c) = g.ExprNode.paren is b (up false y m) c
  more_node h x (g.ExprNode.array {elements} is b m c) = g.ExprNode.array is b (more_list elements m) c
  more_node h x (g.ExprNode.repeat {y} is b m c n k) = g.ExprNode.repeat is b (up false y m) c n k
  more_node h x (g.ExprNode.block {b} is m) = g.ExprNode.block is (more_block b m)
  more_node h x (g.ExprNode.if' {c} {then'} {branches} {word_else} {otherwise} is w m n l j) =
      g.ExprNode.if' is w (more_condition c m) (more_block then' n) (more_each (IsElseIf d I D) (IsElseIf e J E) more_else_if branches l) (more_otherwise word_else otherwise j)
  more_node h x (g.ExprNode.match {y} {arms} is w m b n c) = g.ExprNode.match is w (up true y m.0, m.1) b (more_arms arms n) c
  more_node h x (g.ExprNode.while {y} {b} is w m n) = g.ExprNode.while is w (up true y m.0, m.1) (more_block b n)
  more_node h x (g.ExprNode.loop {b} is w n) = g.ExprNode.loop is w (more_block b n)
  more_node h x (g.ExprNode.for' {y} {pat} {dots} {end} {b} is w p i m n) = g.ExprNode.for' is w (a.pats pat p) i (more_range y dots end m) (more_block b n)
  more_node h x (g.ExprNode.closure {y} {params} is w p m) = g.ExprNode.closure is w (more_head params p) (up h y m)
  more_node h x (g.ExprNode.closure_to {params} {output} {b} is w p r t n) = g.ExprNode.closure_to is w (more_head params p) r (a.types output t) (more_block b n)
  more_node h x (g.ExprNode.macro is m) = g.ExprNode.macro is m
  more_node h x (g.ExprNode.return {value} is w m) = g.ExprNode.return is w (more_maybe (I h) (J h) (up h) value m)
  more_node h x (g.ExprNode.break is m) = g.ExprNode.break is m
  more_node h x (g.ExprNode.continue is m) = g.ExprNode.continue is m
  more_node h x (g.ExprNode.method_call {y} {arguments} is m b n c k o) = g.ExprNode.method_call is (up h y m.0, m.1, m.2) b n c (more_list arguments k) o
  more_node h x (g.ExprNode.call {y} {arguments} is m f b k c) = g.ExprNode.call is (up h y m.0, m.1, m.2) f b (more_list arguments k) c
  more_node h x (g.ExprNode.field {y} is m b n) = g.ExprNode.field is (up h y m.0, m.1, m.2) b n
  more_node h x (g.ExprNode.place {y} is m b n) = g.ExprNode.place is (up h y m.0, m.1, m.2) b n
  more_node h x (g.ExprNode.index {y} {z} is m b n c) = g.ExprNode.index is (up h y m.0, m.1, m.2) b (up false z n) c
  more_node h x (g.ExprNode.unary' {y} is o m) = g.ExprNode.unary' is o (up h y m.0, m.1)
  more_node h x (g.ExprNode.ref {y} is o k m) = g.ExprNode.ref is o k (up h y m.0, m.1)
  more_node h x (g.ExprNode.ref_ref {y} is o k m n) = g.ExprNode.ref_ref is o k (down h y m) n
  more_node h x (g.ExprNode.binary {y} {z} is low m n) = g.ExprNode.binary is low (up h y m.0, m.1, m.2) (up h z n.0, n.1)
  more_node h x (g.ExprNode.assign {y} {z} is o m n) = g.ExprNode.assign is o (up h y m.0, m.1, m.2) (up h z n.0, n.1)
  more_node h x (g.ExprNode.group {y} is k ps m) = g.ExprNode.group is k ps (more_node false y m)

-- ---- depths

pub no_expr : (h : Bool) (x : Expr) → IsExpr zero h x → ⊥
unfolding IsExpr
no_expr h x m = m

pub node_expr : (d : ℕ) (h : Bool) (x : Expr) → Node d h x → IsExpr (suc d) h x
unfolding IsExpr
node_expr zero h x m = m
node_expr (suc d) h x m = m

pub expr_node_of : (d : ℕ) (h : Bool) (x : Expr) → IsExpr (suc d) h x → Node d h x
unfolding IsExpr
expr_node_of zero h x m = m
expr_node_of (suc d) h x m = m

module _ (known : (d : ℕ) → Deepens d (suc d)) where
  both_grow : (d : ℕ) → ((h : Bool) (x : Expr) → IsExpr d h x → IsExpr (suc d) h x) × ((h : Bool) (x : Expr) → deeper d h x → deeper (suc d) h x)
  both_grow zero = (λ h x m. absurd (no_expr h x m), λ h x m. absurd m)
  both_grow (suc d) =
      let below = both_grow d in
      (λ h x m. node_expr (suc d) h x (more_node d (suc d) (IsExpr d) (IsExpr (suc d)) (deeper d) (deeper (suc d)) (known d) below.0 below.1 h x (expr_node_of d h x m)), below.0)

  pub expr_grows : (d : ℕ) (h : Bool) (x : Expr) → IsExpr d h x → IsExpr (suc d) h x
  expr_grows d = (both_grow d).0

  pub node_grows : (d : ℕ) (h : Bool) (x : Expr) → Node d h x → Node (suc d) h x
  node_grows d h x m = expr_node_of (suc d) h x (expr_grows (suc d) h x (node_expr d h x m))

  pub block_grows : (d : ℕ) (b : Block Body) → IsBlock d (IsExpr d) (deeper d) b → IsBlock (suc d) (IsExpr (suc d)) (deeper (suc d)) b
  block_grows d b m = more_block d (suc d) (IsExpr d) (IsExpr (suc d)) (deeper d) (deeper (suc d)) (known d) (both_grow d).0 (both_grow d).1 b m

  pub stmt_grows : (d : ℕ) (b : Bool) (y : Stmt) → IsStmt d (IsExpr d) (deeper d) b y → IsStmt (suc d) (IsExpr (suc d)) (deeper (suc d)) b y
  stmt_grows d b y m = more_stmt d (suc d) (IsExpr d) (IsExpr (suc d)) (deeper d) (deeper (suc d)) (known d) (both_grow d).0 (both_grow d).1 b y m

  pub tail_grows : (d : ℕ) (x : Expr) → IsTail d (IsExpr d) (deeper d) x → IsTail (suc d) (IsExpr (suc d)) (deeper (suc d)) x
  tail_grows d x m = more_tail d (suc d) (IsExpr d) (IsExpr (suc d)) (deeper d) (deeper (suc d)) (known d) (both_grow d).0 (both_grow d).1 x m

  pub body_grows : (d : ℕ) (b : Body) → IsBody d (IsExpr d) (deeper d) b → IsBody (suc d) (IsExpr (suc d)) (deeper (suc d)) b
  body_grows d b m = more_body d (suc d) (IsExpr d) (IsExpr (suc d)) (deeper d) (deeper (suc d)) (known d) (both_grow d).0 (both_grow d).1 b m
