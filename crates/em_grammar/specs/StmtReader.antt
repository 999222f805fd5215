-- How statements and blocks are read.
use Rattle.std.specs.Prelude.{ℕ, Bool, true, false, not, ◌||◌, if◌then◌else◌, List, [], ◌∷◌, codes, Option, Some, None}
use Rattle.em_base.specs.declared.token.Token.{Token}
use Rattle.em_tree.specs.declared.parts.Listed.{Listed}
use Rattle.em_tree.specs.declared.piece.FragmentKind.{FragmentKind}
use Rattle.em_tree.specs.declared.piece.FragmentKind.TheVariants as fk
use Rattle.em_tree.specs.declared.piece.Group.{Group}
use Rattle.em_tree.specs.declared.piece.Delimited.{Delimited}
use Rattle.em_tree.specs.declared.types.TypeTree.{TypeTree}
use Rattle.em_tree.specs.declared.pat.Pat.{Pat, out-Pat}
use Rattle.em_tree.specs.declared.pat.Pat.TheOpen.{Pat-F}
use Rattle.em_tree.specs.declared.expr.Annotation.TheVariants as annotation
use Rattle.em_tree.specs.declared.expr.Block.{Block}
use Rattle.em_tree.specs.declared.expr.MacroCall.{MacroCall}
use Rattle.em_tree.specs.declared.expr.Reference.{Reference}
use Rattle.em_tree.specs.declared.expr.Refs.{Refs}
use Rattle.em_tree.specs.declared.expr.Refs.TheVariants as refs
use Rattle.em_tree.specs.declared.expr.ElseIf.{ElseIf}
use Rattle.em_tree.specs.declared.expr.Expr.{Expr, out-Expr}
use Rattle.em_tree.specs.declared.expr.Expr.TheVariants as made
use Rattle.em_tree.specs.declared.expr.Expr.TheViews.{roll-Body}
use Rattle.em_tree.specs.declared.expr.Expr.TheOpen.{Expr-F, Stmt-F}
use Rattle.em_tree.specs.declared.expr.Stmt.{Stmt, out-Stmt}
use Rattle.em_tree.specs.declared.expr.Stmt.TheVariants as stmt
use Rattle.em_tree.specs.declared.expr.Body.{Body}
use Rattle.em_tree.specs.Starts.{Pieces, kind_of, is_spelled}
use Rattle.em_tree.specs.Yields.{opened}
use Rattle.em_tree.specs.PatGrammar.{pat_pieces}
use Rattle.em_grammar.specs.declared.sort.Written.TheVariants as word
use Rattle.em_grammar.specs.declared.sort.Sort.{Sort}
use Rattle.em_grammar.specs.Sorts.{sort_of}
use Rattle.em_grammar.specs.Sets.{Set, next, tokens, groups, either, anything, only, is_sign, name_sort}
use Rattle.em_grammar.specs.Reader.{Read, Found, Absent, Deep, or_stay, token, group, chain, seq, mapped, opt, choice, when, list_of}
use Rattle.em_grammar.specs.Rows.{rows_of}
use Rattle.em_grammar.specs.TextReader.{delimited}
use Rattle.em_grammar.specs.ExprSets.{Layer, Start, Anywhere, InBlock, has_braces, is_block, block_kind, after, level_clear, on, expr_first}
use Rattle.em_grammar.specs.ExprReader.{Readers, is_a_name}
use Rattle.em_grammar.specs.PrefixReader.{is_none}

abbrev pub StmtLayer : Type 0
StmtLayer = Stmt-F Expr Stmt Body ElseIf

-- ---- what `let _ = ..;` mentions

abbrev pub referent : Sort → Bool
referent k = name_sort k || only word.SelfValue k

abbrev pub reference_of : Token × Token → Reference
reference_of t = record { amp = t.0; name = t.1 }

abbrev pub many_of : Token × (List (Listed Reference) × Token) → Refs
many_of t = refs.Many t.0 t.1.0 t.1.1

abbrev pub reference : Pieces → Read Reference
reference = mapped reference_of (seq (token (is_sign word.And)) (token (λ t. referent (sort_of t))))

abbrev pub refs_in : Pieces → Read Refs
refs_in =
    choice (tokens (only word.And)) (mapped refs.One reference)
    (mapped many_of (seq (token (is_sign word.OpenParen)) (seq (list_of reference) (token (is_sign word.CloseParen)))))

-- ---- `let`

pub data LetEnd : Type 0 where
  Typed : Token × (TypeTree × (Token × Expr)) → LetEnd
  Plain : Token × Expr → LetEnd
  Mentions : Token × Refs → LetEnd

abbrev pub wild_layer : Pat-F Pat → Bool
wild_layer (Pat-F.Wild t) = true
wild_layer _ = false

-- the pattern is the token `_`
abbrev pub is_wild : Pat → Bool
is_wild q = wild_layer (out-Pat q)

abbrev pub wild_token : Token → Pat-F Pat → Token
wild_token t (Pat-F.Wild u) = u
wild_token t _ = t

abbrev pub blank_tokens : List Token → Bool
blank_tokens [] = false
blank_tokens (t ∷ []) = is_spelled (codes "_" ∷ []) t
blank_tokens (t ∷ u ∷ ts) = false

-- the pattern is a `_`, in fragments or not
abbrev pub is_blank : Pat → Bool
is_blank q = blank_tokens (opened (pat_pieces q))

abbrev pub let_of : (Token × Pat) × LetEnd → Stmt
let_of ((w, q), Typed t) = stmt.Let w q (annotation.Type t.0 t.1.0) t.1.1.0 t.1.1.1 None
let_of ((w, q), Plain t) = stmt.Let w q annotation.Nothing t.0 t.1 None
let_of ((w, q), Mentions t) = stmt.Mention w (wild_token w (out-Pat q)) t.0 t.1 None

abbrev pub pick : {A : Type 0} → Bool → (Pieces → Read A) → (Pieces → Read A) → Pieces → Read A
pick b P Q i = if b then P i else Q i

-- ---- expressions as statements

abbrev pub statement_by : Layer → Expr → Stmt
statement_by (Expr-F.Expr::Macro call) x = stmt.Macro call None
statement_by l x = if is_block l then stmt.BlockLike x None else stmt.Expr x None

abbrev pub statement_of : Expr → Stmt
statement_of x = statement_by (out-Expr x) x

abbrev pub stmt_kind : FragmentKind → Bool
stmt_kind fk.Stmt = true
stmt_kind _ = false

abbrev pub is_stmt_group : Group → Bool
is_stmt_group g = stmt_kind (kind_of g)

abbrev pub stmt_group_of : Group × Stmt → Stmt
stmt_group_of t = stmt.Group t.0 t.1 None

abbrev pub tail_group_of : Group × Expr → Expr
tail_group_of t = made.Group t.0 t.1

-- what begins a statement that isn't a fragment of its own kind
abbrev pub plain_first : Set
plain_first = either (tokens (only word.Let)) expr_first

-- a macro call that is a whole operand
abbrev pub call_of : Token × (Token × Delimited) → MacroCall
call_of t = record { name = t.0; bang = t.1.0; text = t.1.1 }

abbrev pub macro_call : Pieces → Read MacroCall
macro_call = mapped call_of (seq (token is_a_name) (seq (token (is_sign word.Not)) delimited))

-- where no node may be: a call that is a statement needs none
abbrev pub expr_none : Start → ℕ → Pieces → Read Expr
expr_none start least i =
    if next expr_first i then or_stay (macro_call i) (λ call r. if next (on start least (made.Macro call)) r then Deep else Found (made.Macro call) r) Deep else Absent

module _ (s : Readers) where
  abbrev pub let_end : Pat → Pieces → Read LetEnd
  let_end q =
      choice (tokens (only word.Colon)) (mapped Typed (seq (token (is_sign word.Colon)) (seq s.ty (seq (token (is_sign word.Eq)) (s.inner Anywhere 0 false)))))
      (pick (is_wild q) (mapped Mentions (seq (token (is_sign word.Eq)) refs_in))
      (when (not (is_blank q)) (mapped Plain (seq (token (is_sign word.Eq)) (s.inner Anywhere 0 false)))))

  abbrev pub let' : Pieces → Read Stmt
  let' = mapped let_of (chain (seq (token (is_sign word.Let)) s.pat) (λ t. let_end t.1))

  -- a statement without its `;`, but for fragments
  unfoldable pub plain_stmt : Pieces → Read Stmt
  plain_stmt i = choice (tokens (only word.Let)) let' (mapped statement_of (s.inner InBlock 0 false)) i

  -- a statement without its `;`
  unfoldable pub bare_stmt : (Pieces → Read Stmt) → Pieces → Read Stmt
  bare_stmt opened i = choice plain_first plain_stmt (mapped stmt_group_of (group is_stmt_group opened)) i

-- ---- rows of a block

pub data Row : Type 0 where
  Part : Stmt × Option Token → Row
  Ending : Group × Expr → Row

abbrev pub tailed : StmtLayer → Bool
tailed (Stmt-F.Stmt::Macro call semi) = true
tailed (Stmt-F.Expr value semi) = true
tailed (Stmt-F.BlockLike value semi) = true
tailed _ = false

abbrev pub closing : StmtLayer → Bool
closing (Stmt-F.BlockLike value semi) = true
closing (Stmt-F.Stmt::Macro call semi) = has_braces call
closing _ = false

-- another row may follow
abbrev pub row_closed : Row → Bool
row_closed (Part t) = not (is_none t.1) || closing (out-Stmt t.0)
row_closed (Ending t) = false

abbrev pub semi_call : Bool → MacroCall → Option Token → Stmt
semi_call true call semi = stmt.Expr (made.Macro call) semi
semi_call false call semi = stmt.Macro call semi

abbrev pub with_semi : StmtLayer → Option Token → Stmt
with_semi (Stmt-F.Mention w u e r _) semi = stmt.Mention w u e r semi
with_semi (Stmt-F.Let w q a e v _) semi = stmt.Let w q a e v semi
with_semi (Stmt-F.Stmt::Macro call _) semi = semi_call (has_braces call) call semi
with_semi (Stmt-F.Expr v _) semi = stmt.Expr v semi
with_semi (Stmt-F.BlockLike v _) semi = stmt.BlockLike v semi
with_semi (Stmt-F.Stmt::Group g y _) semi = stmt.Group g y semi

abbrev pub tail_of : StmtLayer → Option Expr
tail_of (Stmt-F.Stmt::Macro call semi) = Some (made.Macro call)
tail_of (Stmt-F.Expr v semi) = Some v
tail_of (Stmt-F.BlockLike v semi) = Some v
tail_of _ = None

abbrev pub stmts_of : List Row → List Stmt
stmts_of [] = []
stmts_of (Part (y, Some t) ∷ rest) = with_semi (out-Stmt y) (Some t) ∷ stmts_of rest
stmts_of (Part (y, None) ∷ []) = []
stmts_of (Part (y, None) ∷ z ∷ rest) = y ∷ stmts_of (z ∷ rest)
stmts_of (Ending t ∷ rest) = stmts_of rest

abbrev pub end_of : List Row → Option Expr
end_of [] = None
end_of (Part (y, Some t) ∷ rest) = end_of rest
end_of (Part (y, None) ∷ []) = tail_of (out-Stmt y)
end_of (Part (y, None) ∷ z ∷ rest) = end_of (z ∷ rest)
end_of (Ending t ∷ []) = Some (tail_group_of t)
end_of (Ending t ∷ z ∷ rest) = end_of (z ∷ rest)

abbrev pub body_of : List Row → Body
body_of rows = roll-Body (record { stmts = stmts_of rows; tail = end_of rows })

abbrev pub semi_part : Stmt × Token → Row
semi_part t = Part (t.0, Some t.1)

abbrev pub sent_of : (Group × Stmt) × Token → Row
sent_of t = Part (stmt_group_of t.0, Some t.1)

-- what is behind the first piece
abbrev pub behind_first : Pieces → Pieces
behind_first [] = []
behind_first (x ∷ r) = r

-- the first reader where one of these is behind the first piece, and the second where it isn't, or where that one reads nothing
abbrev pub peek : {A : Type 0} → Set → (Pieces → Read A) → (Pieces → Read A) → Pieces → Read A
peek s P Q i = if next s (behind_first i) then or_stay (P i) (λ a r. Found a r) (Q i) else Q i

abbrev pub plain_block_of : Token × (List Row × Token) → Block Body
plain_block_of t = record { groups = []; «open» = t.0; body = body_of t.1.0; close = t.1.1 }

abbrev pub group_block_of : Group × Block Body → Block Body
group_block_of t = record { groups = t.0 ∷ t.1.groups; «open» = t.1.open; body = t.1.body; close = t.1.close }

abbrev pub is_block_group : Group → Bool
is_block_group g = block_kind (kind_of g)

module _ (s : Readers) (opened : Pieces → Read Stmt) (opened_tail : Pieces → Read Expr) where
  -- a fragment of the kind `stmt`, and a `;`, or at the end
  abbrev pub stmt_group : Pieces → Read Row
  stmt_group = peek (tokens (only word.Semi)) (mapped sent_of (seq (group is_stmt_group opened) (token (is_sign word.Semi)))) (mapped Ending (group is_stmt_group opened_tail))

  abbrev pub let_row : Pieces → Read Row
  let_row = mapped semi_part (seq (let' s) (token (is_sign word.Semi)))

  abbrev pub expr_row : Pieces → Read Row
  expr_row = mapped Part (chain (mapped statement_of (s.inner InBlock 0 false)) (λ _. opt (token (is_sign word.Semi))))

  unfoldable pub row : Pieces → Read Row
  row i = choice (tokens (only word.Let)) let_row (choice expr_first expr_row stmt_group) i

  unfoldable pub body : Pieces → Read Body
  body i = mapped body_of (rows_of row_closed row) i

  unfoldable pub block_node : (Pieces → Read (Block Body)) → Pieces → Read (Block Body)
  block_node opened_block i =
      choice (tokens (only word.OpenBrace)) (mapped plain_block_of (seq (token (is_sign word.OpenBrace)) (seq (rows_of row_closed row) (token (is_sign word.CloseBrace)))))
      (mapped group_block_of (group is_block_group opened_block)) i

-- the tail that a fragment of the kind `stmt` is
unfoldable pub tail_stmt : Readers → (Pieces → Read Expr) → Pieces → Read Expr
tail_stmt s opened_tail i = choice expr_first (s.inner InBlock 0 false) (mapped tail_group_of (group is_stmt_group opened_tail)) i

-- ---- what may follow a statement without its `;`

abbrev pub core_clear : StmtLayer → Set
core_clear (Stmt-F.Let w q a e v semi) = after 0 false v
core_clear (Stmt-F.Stmt::Macro call semi) = level_clear InBlock 0 false (made.Macro call)
core_clear (Stmt-F.Expr v semi) = level_clear InBlock 0 false v
core_clear (Stmt-F.BlockLike v semi) = level_clear InBlock 0 false v
core_clear _ = anything

abbrev pub stmt_clear : Stmt → Set
stmt_clear y = core_clear (out-Stmt y)

abbrev pub stmt_first : Set
stmt_first = either plain_first (groups stmt_kind)
