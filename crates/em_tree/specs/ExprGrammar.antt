-- Expressions, statements and blocks (Reference, "Expressions" and "Statements"), as far as the profile has them.
use Rattle.std.specs.Prelude.{◌≡◌, ◌≢◌, ◌⊎◌, ◌≤◌, ◌<◌, ◌==◌, ℕ, zero, suc, Bool, true, false, if◌then◌else◌, List, [], ◌∷◌, ◌++◌, codes, Option, Some, None}
use Rattle.em_base.specs.declared.token.Token.{Token}
use Rattle.em_tree.specs.declared.parts.Listed.{Listed}
use Rattle.em_tree.specs.declared.piece.FragmentKind.TheVariants as f
use Rattle.em_tree.specs.declared.piece.Group.{Group}
use Rattle.em_tree.specs.declared.piece.Piece.{Piece}
use Rattle.em_tree.specs.declared.piece.Piece.TheVariants as p
use Rattle.em_tree.specs.declared.literal.Literal.{Literal}
use Rattle.em_tree.specs.declared.types.Path.{Path}
use Rattle.em_tree.specs.declared.types.TypeTree.{TypeTree}
use Rattle.em_tree.specs.declared.pat.Pat.{Pat}
use Rattle.em_tree.specs.declared.pat.TopPat.{TopPat}
use Rattle.em_tree.specs.declared.expr.Annotation.{Annotation}
use Rattle.em_tree.specs.declared.expr.Annotation.TheVariants as annotation
use Rattle.em_tree.specs.declared.expr.FieldExpr.{FieldExpr}
use Rattle.em_tree.specs.declared.expr.ClosureParam.{ClosureParam}
use Rattle.em_tree.specs.declared.expr.ClosureHead.{ClosureHead}
use Rattle.em_tree.specs.declared.expr.ClosureHead.TheVariants as head
use Rattle.em_tree.specs.declared.expr.Condition.{Condition}
use Rattle.em_tree.specs.declared.expr.Condition.TheVariants as condition
use Rattle.em_tree.specs.declared.expr.Arm.{Arm}
use Rattle.em_tree.specs.declared.expr.Reference.{Reference}
use Rattle.em_tree.specs.declared.expr.Refs.{Refs}
use Rattle.em_tree.specs.declared.expr.Refs.TheVariants as refs
use Rattle.em_tree.specs.declared.expr.Block.{Block}
use Rattle.em_tree.specs.declared.expr.MacroCall.{MacroCall}
use Rattle.em_tree.specs.declared.expr.ElseIf.{ElseIf, out-ElseIf}
use Rattle.em_tree.specs.declared.expr.Expr.{Expr, out-Expr}
use Rattle.em_tree.specs.declared.expr.Stmt.{Stmt, out-Stmt}
use Rattle.em_tree.specs.declared.expr.Body.{Body, out-Body}
use Rattle.em_tree.specs.declared.expr.Expr.TheOpen.{Expr-F, Stmt-F}
use Rattle.em_tree.specs.Parts.{expr_parts, stmt_parts, body_parts, block_parts}
use Rattle.em_tree.specs.Starts.{kind_of, pieces_of}
use Rattle.em_tree.specs.Tokens.{Is, IsOneOf, Maybe, Each, Commas, Name, IsLiteralToken, IsDelimited, Ends}
use Rattle.em_tree.specs.Yields.{piece, whole, as_it_is, opened}
use Rattle.em_tree.specs.PathGrammar.{IsLiteral, IsIntLiteral, TypeWithin, PathWithin, literal_pieces}
use Rattle.em_tree.specs.PatGrammar.{IsPat, IsTopPat, pat_pieces}
use Rattle.em_tree.specs.ExprShape.{strength, operator_strength, comparison, postfix, unary, assignment, takes_all, Edge, Fine, BlockLike, Braces, Round, PastBlock, edge, is_bare_block, ends_open, ends_bare}

abbrev pub expr_pieces : Expr → List Piece
expr_pieces x = expr_parts piece whole as_it_is x

abbrev pub stmt_pieces : Stmt → List Piece
stmt_pieces x = stmt_parts piece whole as_it_is x

abbrev pub body_pieces : Body → List Piece
body_pieces x = body_parts piece whole as_it_is x

-- ---- parts without expressions

abbrev pub IsMacro : MacroCall → Type 0
IsMacro call = Name call.name × Is (codes "!") call.bang × IsDelimited call.text

-- `&` and a variable, where `self` is one too
abbrev pub IsReference : Reference → Type 0
IsReference r = Is (codes "&") r.amp × (Name r.name ⊎ Is (codes "self") r.name)

abbrev pub AreRefs : Refs → Type 0
AreRefs (refs.One r) = IsReference r
AreRefs (refs.Many open' list close) = Is (codes "(") open' × Commas IsReference list × Is (codes ")") close

-- the fragments of the kind `block` that a block came through, each of which is the next one, or the block
abbrev pub AreBlocks : List Group → List Piece → Type 0
AreBlocks [] ys = Unit {0}
AreBlocks (g ∷ []) ys = (kind_of g ≡ f.Block) × (pieces_of g ≡ ys)
AreBlocks (g ∷ h ∷ gs) ys = (kind_of g ≡ f.Block) × (pieces_of g ≡ p.Group h ∷ []) × AreBlocks (h ∷ gs) ys

-- an annotation, within a depth
abbrev pub IsAnnotation : ℕ → Annotation → Type 0
IsAnnotation depth annotation.Nothing = Unit {0}
IsAnnotation depth (annotation.Type colon ty) = Is (codes ":") colon × TypeWithin depth ty

-- parameters of a closure: a list with commas
abbrev pub AreParams : ℕ → List ClosureParam → Type 0
AreParams depth [] = Unit {0}
AreParams depth (a ∷ []) = IsPat depth a.pat × IsAnnotation depth a.annotation × Maybe (Is (codes ",")) a.comma
AreParams depth (a ∷ b ∷ rest) = IsPat depth a.pat × IsAnnotation depth a.annotation × ((t : Token) × (a.comma ≡ Some t) × Is (codes ",") t) × AreParams depth (b ∷ rest)

abbrev pub IsHead : ℕ → ClosureHead → Type 0
IsHead depth (head.Empty bars) = Is (codes "||") bars
IsHead depth (head.Bars open' params close) = Is (codes "|") open' × AreParams depth params × Is (codes "|") close

-- the pattern isn't `_` alone, in a fragment or not, without an annotation: such a statement mentions variables
abbrev pub IsNoMention : Pat → Annotation → Type 0
IsNoMention x annotation.Nothing = (t : Token) → opened (pat_pieces x) ≡ t ∷ [] → Is (codes "_") t → ⊥
IsNoMention x (annotation.Type colon ty) = Unit {0}

-- the `;` behind a statement in a block, which a fragment of the kind `stmt` lacks
abbrev pub HasSemi : (in_block : Bool) → Option Token → Type 0
HasSemi true semi = (t : Token) × (semi ≡ Some t) × Is (codes ";") t
HasSemi false semi = semi ≡ None

-- one that may stand
abbrev pub MaySemi : (in_block : Bool) → Option Token → Type 0
MaySemi true semi = Maybe (Is (codes ";")) semi
MaySemi false semi = semi ≡ None

-- a call that is a statement: a `;` stands behind `( )` and `[ ]` alone
abbrev pub EndsCall : (in_block : Bool) → MacroCall → Option Token → Type 0
EndsCall true call semi = Ends call.text semi
EndsCall false call semi = semi ≡ None

-- a statement without a `;` that could be a block's tail; as the block's last it is the tail
abbrev pub is_open : Stmt-F Expr Stmt Body ElseIf → Bool
is_open (Stmt-F.BlockLike value None) = true
is_open (Stmt-F.Stmt::Macro call None) = true
is_open _ = false

abbrev pub LastIsClosed : List Stmt → Type 0
LastIsClosed [] = Unit {0}
LastIsClosed (s ∷ []) = is_open (out-Stmt s) ≡ false
LastIsClosed (s ∷ t ∷ more) = LastIsClosed (t ∷ more)

abbrev pub assignments : List (List ℕ)
assignments =
    codes "=" ∷ codes "+=" ∷ codes "-=" ∷ codes "*=" ∷ codes "/=" ∷ codes "%=" ∷ codes "^=" ∷ codes "&=" ∷ codes "|=" ∷ codes "<<=" ∷ codes ">>=" ∷ []

-- how tightly the sides of a binary operator bind at least: from the left, and comparisons not beside one another
abbrev pub left_strength : ℕ → ℕ
left_strength n = if n == comparison then suc n else n

-- an expression that may stand behind an operator which binds so tightly
abbrev pub IsOperand : ℕ → Expr → Type 0
IsOperand n x = (n ≤ strength x) ⊎ (strength x ≡ takes_all)

-- a field of a struct expression has a `:` and a value, or neither
abbrev pub IsFieldExpr : (Expr → Type 0) → FieldExpr Expr → Type 0
IsFieldExpr Inner x = Name x.name × IsValue x.colon x.value
  where
    IsValue : Option Token → Option Expr → Type 0
    IsValue None None = Unit {0}
    IsValue (Some colon) (Some value) = Is (codes ":") colon × Inner value
    IsValue None (Some value) = ⊥
    IsValue (Some colon) None = ⊥

-- a fragment that is an operand: of the kind `expr`, or of the kind `literal`, whose pieces are a literal
abbrev pub IsOperandGroup : Group → Type 0
IsOperandGroup g = (kind_of g ≡ f.Expr) ⊎ ((kind_of g ≡ f.Literal) × ((l : Literal) × (pieces_of g ≡ literal_pieces l) × IsLiteral true l))

-- ---- over the expressions inside, where `no_struct` says that a struct expression may not stand there, since a brace ends it

module _ (depth : ℕ) (Inner Deeper : (no_struct : Bool) → Expr → Type 0) where
  -- what goes on behind it: at least as tightly bound as a number says, and not open at its end
  abbrev pub AtLeast : ℕ → Bool → Expr → Type 0
  AtLeast n no_struct x = Inner no_struct x × (n ≤ strength x) × (ends_open x ≡ false)

  -- what stands behind an operator: at least as tightly bound as a number says, or a closure or a `return` (Reference, "Expression
  -- precedence")
  abbrev pub Operand : ℕ → Bool → Expr → Type 0
  Operand n no_struct x = Inner no_struct x × IsOperand n x

  -- an expression before the brace of a block: it doesn't end in a `return` without a value, which would take the block
  abbrev pub BeforeBlock : Expr → Type 0
  BeforeBlock x = Inner true x × (ends_bare x ≡ false)

  -- ---- blocks and statements

  -- a statement; a fragment of the kind `stmt` lacks its last `;`
  pub data IsStmt : (in_block : Bool) → Stmt → Type 0 where
    mention : {in_block : Bool} {x : Stmt} {word underscore equals : Token} {list : Refs} {semi : Option Token} → out-Stmt x ≡ Stmt-F.Mention word underscore equals list semi
        → Is (codes "let") word → Is (codes "_") underscore → Is (codes "=") equals → AreRefs list → HasSemi in_block semi → IsStmt in_block x
    let' : {in_block : Bool} {x : Stmt} {word equals : Token} {pat : Pat} {ty : Annotation} {value : Expr} {semi : Option Token} → out-Stmt x ≡ Stmt-F.Let word pat ty equals value semi
        → Is (codes "let") word → IsPat depth pat → IsAnnotation depth ty → IsNoMention pat ty → Is (codes "=") equals → Inner false value → HasSemi in_block semi → IsStmt in_block x
    macro : {in_block : Bool} {x : Stmt} {call : MacroCall} {semi : Option Token} → out-Stmt x ≡ Stmt-F.Stmt::Macro call semi → IsMacro call → EndsCall in_block call semi → IsStmt in_block x
    -- it begins as no statement of another form does, but for a call with braces before a `;`
    expr : {in_block : Bool} {x : Stmt} {value : Expr} {semi : Option Token} → out-Stmt x ≡ Stmt-F.Expr value semi → Inner false value → (edge value ≡ Fine) ⊎ ((edge value ≡ Braces) × (in_block ≡ true)) → HasSemi in_block semi → IsStmt in_block x
    block_like : {in_block : Bool} {x : Stmt} {value : Expr} {semi : Option Token} → out-Stmt x ≡ Stmt-F.BlockLike value semi → Inner false value → edge value ≡ BlockLike → MaySemi in_block semi → IsStmt in_block x
    -- a group of the kind `stmt`, and the `;` behind it
    group : {in_block : Bool} {x y : Stmt} {g : Group} {semi : Option Token} → out-Stmt x ≡ Stmt-F.Stmt::Group g y semi → kind_of g ≡ f.Stmt → pieces_of g ≡ stmt_pieces y → IsStmt false y → HasSemi in_block semi → IsStmt in_block x

  -- the expression at a block's end: it doesn't go on, but by a `.`, past a block or a call with braces at its start. A group of the kind
  -- `stmt` that is an expression may stand there
  pub data IsTail : Expr → Type 0 where
    expr : {x : Expr} → Inner false x → (edge x ≡ Fine) ⊎ (edge x ≡ BlockLike) ⊎ (edge x ≡ Braces) ⊎ (edge x ≡ Round) → IsTail x
    group : {x y : Expr} {g : Group} → out-Expr x ≡ Expr-F.Expr::Group g y → kind_of g ≡ f.Stmt → pieces_of g ≡ expr_pieces y → IsTail y → IsTail x

  abbrev pub IsEnd : List Stmt → Option Expr → Type 0
  IsEnd stmts None = LastIsClosed stmts
  IsEnd stmts (Some x) = IsTail x

  pub record IsBody (x : Body) : Type 0 where
    pub stmts : Each (IsStmt true) (out-Body x).stmts
    pub end : IsEnd (out-Body x).stmts (out-Body x).tail

  pub record IsBlock (b : Block Body) : Type 0 where
    pub opens : Is (codes "{") b.open
    pub body : IsBody b.body
    pub closes : Is (codes "}") b.close
    pub groups : AreBlocks b.groups (p.Token b.open ∷ (body_pieces b.body ++ p.Token b.close ∷ []))

  -- ---- heads, branches and arms

  -- the scrutinee of an `if let` is no lazy operator's expression and no assignment (Reference, "`if` expressions")
  abbrev pub IsCondition : Condition Expr → Type 0
  IsCondition (condition.Expr x) = BeforeBlock x
  IsCondition (condition.Let word pat equals x) = Is (codes "let") word × IsTopPat depth pat × Is (codes "=") equals × BeforeBlock x × IsOperand comparison x

  abbrev pub IsElseIf : ElseIf → Type 0
  IsElseIf x = Is (codes "else") (out-ElseIf x).word_else × Is (codes "if") (out-ElseIf x).word × IsCondition (out-ElseIf x).condition × IsBlock (out-ElseIf x).then

  abbrev pub IsOtherwise : Option Token → Option (Block Body) → Type 0
  IsOtherwise None None = Unit {0}
  IsOtherwise (Some word) (Some b) = Is (codes "else") word × IsBlock b
  IsOtherwise None (Some b) = ⊥
  IsOtherwise (Some word) None = ⊥

  -- an arm's body; one that begins with a block and goes on past it, but by a `.`, is none (Reference, "`match` expressions")
  abbrev pub IsArm : Arm Expr → Type 0
  IsArm a = IsTopPat depth a.pat × Is (codes "=>") a.arrow × Inner false a.body × (edge a.body ≢ PastBlock)

  -- behind an arm stands a comma, but maybe behind the last one and behind a block, an `if`, a `match` or a loop
  pub data EndsArm (last : Bool) (a : Arm Expr) : Type 0 where
    comma : {t : Token} → a.comma ≡ Some t → Is (codes ",") t → EndsArm last a
    last : last ≡ true → a.comma ≡ None → EndsArm last a
    block_like : edge a.body ≡ BlockLike → a.comma ≡ None → EndsArm last a

  abbrev pub AreArms : List (Arm Expr) → Type 0
  AreArms [] = Unit {0}
  AreArms (a ∷ []) = IsArm a × EndsArm true a
  AreArms (a ∷ b ∷ more) = IsArm a × EndsArm false a × AreArms (b ∷ more)

  -- what a `for` goes over: the values of an expression, or a range, whose sides bind more tightly than an assignment; the right one may
  -- take all that follows (Reference, "Expression precedence" and "Range expressions"). A block behind the dots is the loop's body
  abbrev pub IsRange : Expr → Option Token → Option Expr → Type 0
  IsRange x None None = BeforeBlock x
  IsRange x (Some dots) (Some y) =
      IsOneOf (codes ".." ∷ codes "..=" ∷ []) dots × AtLeast (suc assignment) true x × BeforeBlock y × IsOperand (suc assignment) y × (is_bare_block y ≡ false)
  IsRange x None (Some y) = ⊥
  IsRange x (Some dots) None = ⊥

  -- ---- one node

  pub data ExprNode : (no_struct : Bool) → Expr → Type 0 where
    literal : {h : Bool} {x : Expr} {t : Token} → out-Expr x ≡ Expr-F.Literal t → IsLiteralToken t → ExprNode h x
    path : {h : Bool} {x : Expr} {y : Path} → out-Expr x ≡ Expr-F.Path y → PathWithin depth y → ExprNode h x
    struct : {x : Expr} {y : Path} {open' close : Token} {fields : List (Listed (FieldExpr Expr))} → out-Expr x ≡ Expr-F.Struct y open' fields close
        → PathWithin depth y → Is (codes "{") open' → Commas (IsFieldExpr (Inner false)) fields → Is (codes "}") close → ExprNode false x
    paren : {h : Bool} {x y : Expr} {open' close : Token} → out-Expr x ≡ Expr-F.Paren open' y close → Is (codes "(") open' → Inner false y → Is (codes ")") close → ExprNode h x
    array : {h : Bool} {x : Expr} {open' close : Token} {elements : List (Listed Expr)} → out-Expr x ≡ Expr-F.Array open' elements close
        → Is (codes "[") open' → Commas (Inner false) elements → Is (codes "]") close → ExprNode h x
    repeat : {h : Bool} {x y : Expr} {open' semi close : Token} {length : Literal} → out-Expr x ≡ Expr-F.Repeat open' y semi length close
        → Is (codes "[") open' → Inner false y → Is (codes ";") semi → IsIntLiteral length → Is (codes "]") close → ExprNode h x
    block : {h : Bool} {x : Expr} {b : Block Body} → out-Expr x ≡ Expr-F.Block b → IsBlock b → ExprNode h x
    if' : {h : Bool} {x : Expr} {word : Token} {c : Condition Expr} {then' : Block Body} {branches : List ElseIf} {word_else : Option Token} {otherwise : Option (Block Body)}
        → out-Expr x ≡ Expr-F.If word c then' branches word_else otherwise → Is (codes "if") word → IsCondition c → IsBlock then' → Each IsElseIf branches → IsOtherwise word_else otherwise → ExprNode h x
    match : {h : Bool} {x y : Expr} {word open' close : Token} {arms : List (Arm Expr)} → out-Expr x ≡ Expr-F.Match word y open' arms close
        → Is (codes "match") word → BeforeBlock y → Is (codes "{") open' → AreArms arms → Is (codes "}") close → ExprNode h x
    while : {h : Bool} {x y : Expr} {word : Token} {b : Block Body} → out-Expr x ≡ Expr-F.While word y b → Is (codes "while") word → BeforeBlock y → IsBlock b → ExprNode h x
    loop : {h : Bool} {x : Expr} {word : Token} {b : Block Body} → out-Expr x ≡ Expr-F.Loop word b → Is (codes "loop") word → IsBlock b → ExprNode h x
    for' : {h : Bool} {x y : Expr} {word word_in : Token} {pat : Pat} {dots : Option Token} {end : Option Expr} {b : Block Body} → out-Expr x ≡ Expr-F.For word pat word_in y dots end b
        → Is (codes "for") word → IsPat depth pat → Is (codes "in") word_in → IsRange y dots end → IsBlock b → ExprNode h x
    closure : {h : Bool} {x y : Expr} {word_move : Option Token} {params : ClosureHead} → out-Expr x ≡ Expr-F.Closure word_move params y
        → Maybe (Is (codes "move")) word_move → IsHead depth params → Inner h y → ExprNode h x
    closure_to : {h : Bool} {x : Expr} {word_move : Option Token} {params : ClosureHead} {arrow : Token} {output : TypeTree} {b : Block Body}
        → out-Expr x ≡ Expr-F.ClosureTo word_move params arrow output b
        → Maybe (Is (codes "move")) word_move → IsHead depth params → Is (codes "->") arrow → TypeWithin depth output → IsBlock b → ExprNode h x
    macro : {h : Bool} {x : Expr} {call : MacroCall} → out-Expr x ≡ Expr-F.Expr::Macro call → IsMacro call → ExprNode h x
    return : {h : Bool} {x : Expr} {word : Token} {value : Option Expr} → out-Expr x ≡ Expr-F.Return word value → Is (codes "return") word → Maybe (Inner h) value → ExprNode h x
    break : {h : Bool} {x : Expr} {word : Token} → out-Expr x ≡ Expr-F.Break word → Is (codes "break") word → ExprNode h x
    continue : {h : Bool} {x : Expr} {word : Token} → out-Expr x ≡ Expr-F.Continue word → Is (codes "continue") word → ExprNode h x
    method_call : {h : Bool} {x y : Expr} {dot name open' close : Token} {arguments : List (Listed Expr)} → out-Expr x ≡ Expr-F.MethodCall y dot name open' arguments close
        → AtLeast postfix h y → Is (codes ".") dot → Name name → Is (codes "(") open' → Commas (Inner false) arguments → Is (codes ")") close → ExprNode h x
    -- what is called is no field: that is a method's call
    call : {h : Bool} {x y : Expr} {open' close : Token} {arguments : List (Listed Expr)} → out-Expr x ≡ Expr-F.Call y open' arguments close
        → AtLeast postfix h y → ((z : Expr) (dot name : Token) → out-Expr y ≡ Expr-F.Field z dot name → ⊥) → Is (codes "(") open' → Commas (Inner false) arguments → Is (codes ")") close → ExprNode h x
    field : {h : Bool} {x y : Expr} {dot name : Token} → out-Expr x ≡ Expr-F.Field y dot name → AtLeast postfix h y → Is (codes ".") dot → Name name → ExprNode h x
    place : {h : Bool} {x y : Expr} {dot : Token} {number : Literal} → out-Expr x ≡ Expr-F.Place y dot number → AtLeast postfix h y → Is (codes ".") dot → IsIntLiteral number → ExprNode h x
    index : {h : Bool} {x y z : Expr} {open' close : Token} → out-Expr x ≡ Expr-F.Index y open' z close → AtLeast postfix h y → Is (codes "[") open' → Inner false z → Is (codes "]") close → ExprNode h x
    unary' : {h : Bool} {x y : Expr} {operator : Token} → out-Expr x ≡ Expr-F.Unary operator y → IsOneOf (codes "-" ∷ codes "!" ∷ codes "*" ∷ []) operator → Operand unary h y → ExprNode h x
    ref : {h : Bool} {x y : Expr} {amp : Token} {word_mut : Option Token} → out-Expr x ≡ Expr-F.Ref amp word_mut y → Is (codes "&") amp → Maybe (Is (codes "mut")) word_mut → Operand unary h y → ExprNode h x
    -- two references, which count as two nodes
    ref_ref : {h : Bool} {x y : Expr} {amps : Token} {word_mut : Option Token} → out-Expr x ≡ Expr-F.RefRef amps word_mut y
        → Is (codes "&&") amps → Maybe (Is (codes "mut")) word_mut → Deeper h y → IsOperand unary y → ExprNode h x
    binary : {h : Bool} {x y z : Expr} {operator : Token} → out-Expr x ≡ Expr-F.Binary y operator z → 0 < operator_strength operator
        → AtLeast (left_strength (operator_strength operator)) h y → Operand (suc (operator_strength operator)) h z → ExprNode h x
    assign : {h : Bool} {x y z : Expr} {operator : Token} → out-Expr x ≡ Expr-F.Assign y operator z → IsOneOf assignments operator
        → AtLeast (suc assignment) h y → Operand assignment h z → ExprNode h x
    -- a group adds no node, and what is in it stands as in parentheses
    group : {h : Bool} {x y : Expr} {g : Group} → out-Expr x ≡ Expr-F.Expr::Group g y → IsOperandGroup g → pieces_of g ≡ expr_pieces y → ExprNode false y → ExprNode h x

-- the expressions that nest no deeper than the number
unfoldable pub IsExpr : ℕ → Bool → Expr → Type 0
IsExpr zero h x = ⊥
IsExpr (suc zero) h x = ExprNode zero (λ h x. ⊥) (λ h x. ⊥) h x
IsExpr (suc (suc depth)) h x = ExprNode (suc depth) (IsExpr (suc depth)) (IsExpr depth) h x

-- an expression, a statement, a block and what is in one, within a depth
abbrev pub ExprWithin : ℕ → Expr → Type 0
ExprWithin depth x = IsExpr depth false x

unfoldable pub StmtWithin : ℕ → Stmt → Type 0
StmtWithin zero x = IsStmt zero (λ h x. ⊥) (λ h x. ⊥) true x
StmtWithin (suc depth) x = IsStmt (suc depth) (IsExpr (suc depth)) (IsExpr depth) true x

unfoldable pub BlockWithin : ℕ → Block Body → Type 0
BlockWithin zero b = IsBlock zero (λ h x. ⊥) (λ h x. ⊥) b
BlockWithin (suc depth) b = IsBlock (suc depth) (IsExpr (suc depth)) (IsExpr depth) b

unfoldable pub BodyWithin : ℕ → Body → Type 0
BodyWithin zero b = IsBody zero (λ h x. ⊥) (λ h x. ⊥) b
BodyWithin (suc depth) b = IsBody (suc depth) (IsExpr (suc depth)) (IsExpr depth) b

-- a statement as a fragment: without its last `;`
unfoldable pub IsFragmentStmt : ℕ → Stmt → Type 0
IsFragmentStmt zero x = IsStmt zero (λ h x. ⊥) (λ h x. ⊥) false x
IsFragmentStmt (suc depth) x = IsStmt (suc depth) (IsExpr (suc depth)) (IsExpr depth) false x

abbrev pub block_pieces : Block Body → List Piece
block_pieces b = block_parts piece whole as_it_is body_pieces b
