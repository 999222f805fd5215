-- What the parts of each form are, as the readers have them.
use Rattle.std.specs.Prelude.{◌≡◌, ℕ, Bool, true, false, not, List, [], ◌∷◌, codes, Option}
use Rattle.em_base.specs.declared.token.Token.{Token}
use Rattle.em_tree.specs.declared.parts.Listed.{Listed}
use Rattle.em_tree.specs.declared.piece.Delimited.{Delimited}
use Rattle.em_tree.specs.declared.literal.Literal.{Literal}
use Rattle.em_tree.specs.declared.types.Path.{Path}
use Rattle.em_tree.specs.declared.types.TypeTree.{TypeTree}
use Rattle.em_tree.specs.declared.pat.Pat.{Pat}
use Rattle.em_tree.specs.declared.pat.TopPat.{TopPat}
use Rattle.em_tree.specs.declared.expr.Arm.{Arm}
use Rattle.em_tree.specs.declared.expr.Block.{Block}
use Rattle.em_tree.specs.declared.expr.Body.{Body}
use Rattle.em_tree.specs.declared.expr.ClosureParam.{ClosureParam}
use Rattle.em_tree.specs.declared.expr.ClosureHead.{ClosureHead}
use Rattle.em_tree.specs.declared.expr.ClosureHead.TheVariants as head
use Rattle.em_tree.specs.declared.expr.Condition.{Condition}
use Rattle.em_tree.specs.declared.expr.Condition.TheVariants as condition
use Rattle.em_tree.specs.declared.expr.Expr.{Expr, out-Expr}
use Rattle.em_tree.specs.declared.expr.Expr.TheVariants as made
use Rattle.em_tree.specs.declared.expr.Expr.TheOpen.{Expr-F}
use Rattle.em_tree.specs.declared.expr.FieldExpr.{FieldExpr}
use Rattle.em_tree.specs.Tokens.{Is, IsOneOf, Name, IsDelimited, IsLiteralToken}
use Rattle.em_tree.specs.PathGrammar.{IsLiteral, IsIntLiteral, PathWithin, TypeWithin, literal_pieces}
use Rattle.em_tree.specs.PatGrammar.{IsPat, IsTopPat}
use Rattle.em_tree.specs.ExprGrammar.{IsExpr, IsBlock, expr_pieces}
use Rattle.em_grammar.specs.Lang.{Chain, Seq, Opt, Grp, Image, Or, Lists, Shift}
use Rattle.em_grammar.specs.Rows.{Rows}
use Rattle.em_grammar.specs.LiteralReader.{is_literal_group}
use Rattle.em_grammar.specs.ExprSets.{Layer, Anywhere, InArm}
use Rattle.em_grammar.specs.PrefixReader.{Behind, Call, Fields, is_named, field_of, Ends, Closes, Times, is_single, param_of, has_comma, bars_of, ClosureEnd, To, Gives, is_expr_group}
use Rattle.em_grammar.specs.PrefixReader as r
use Rattle.em_grammar.specs.BranchReader as b
use Rattle.em_grammar.specs.BranchReader.{is_closed, let_of, ElseForm, Further, Last, ElsePart, goes_further, arm_of, arm_closed, Range, is_bound, range_closed}
use Rattle.em_grammar.specs.ExprLang.{Operand, Node, deeper}

abbrev pub Item : ℕ → Expr → Type 0
Item = Operand Anywhere 0 false

abbrev pub ParenParts : ℕ → Token × (Expr × Token) → Type 0
ParenParts = Seq (λ d. Is (codes "(")) (Seq Item (λ d. Is (codes ")")))

abbrev pub ReturnParts : Bool → ℕ → Token × Option Expr → Type 0
ReturnParts h = Seq (λ d. Is (codes "return")) (Opt (Operand Anywhere 0 h))

abbrev pub UnaryParts : Bool → ℕ → Token × Expr → Type 0
UnaryParts h = Seq (λ d. IsOneOf (codes "-" ∷ codes "!" ∷ codes "*" ∷ [])) (Operand Anywhere 13 h)

abbrev pub RefParts : Bool → ℕ → Token × (Option Token × Expr) → Type 0
RefParts h = Seq (λ d. Is (codes "&")) (Seq (Opt (λ d. Is (codes "mut"))) (Operand Anywhere 13 h))

abbrev pub RefRefParts : Bool → ℕ → Token × (Option Token × Expr) → Type 0
RefRefParts h = Seq (λ d. Is (codes "&&")) (Seq (Opt (λ d. Is (codes "mut"))) (Shift (Operand Anywhere 13 h)))

abbrev pub TimesParts : ℕ → Token × (Literal × Token) → Type 0
TimesParts = Seq (λ d. Is (codes ";")) (Seq (λ d. IsIntLiteral) (λ d. Is (codes "]")))

abbrev pub EndsParts : List (Listed Expr) → ℕ → Ends → Type 0
EndsParts xs = Or (λ d t. (is_single xs ≡ true) × Image Times TimesParts d t) (Image Closes (λ d. Is (codes "]")))

abbrev pub BracketParts : ℕ → Token × (List (Listed Expr) × Ends) → Type 0
BracketParts = Seq (λ d. Is (codes "[")) (Chain (Lists Item) EndsParts)

abbrev pub FieldParts : ℕ → Token × Option (Token × Expr) → Type 0
FieldParts = Chain (λ d. Name) (λ _. Opt (Seq (λ d. Is (codes ":")) Item))

abbrev pub CallParts : ℕ → Token × Delimited → Type 0
CallParts = Seq (λ d. Is (codes "!")) (λ d. IsDelimited)

abbrev pub FieldsParts : ℕ → Token × (List (Listed (FieldExpr Expr)) × Token) → Type 0
FieldsParts = Seq (λ d. Is (codes "{")) (Seq (Lists (Image field_of FieldParts)) (λ d. Is (codes "}")))

abbrev pub BehindParts : Bool → Path → ℕ → Behind → Type 0
BehindParts h y = Or (λ d t. (is_named y ≡ true) × Image Call CallParts d t) (λ d t. (not h ≡ true) × Image Fields FieldsParts d t)

abbrev pub PathParts : Bool → ℕ → Path × Option Behind → Type 0
PathParts h = Chain PathWithin (λ y. Opt (BehindParts h y))

abbrev pub ParamParts : ℕ → (Pat × Option (Token × TypeTree)) × Option Token → Type 0
ParamParts = Chain (Chain IsPat (λ _. Opt (Seq (λ d. Is (codes ":")) TypeWithin))) (λ _. Opt (λ d. Is (codes ",")))

abbrev pub BarsParts : ℕ → Token × (List ClosureParam × Token) → Type 0
BarsParts = Seq (λ d. Is (codes "|")) (Seq (Rows has_comma (Image param_of ParamParts)) (λ d. Is (codes "|")))

abbrev pub HeadParts : ℕ → ClosureHead → Type 0
HeadParts = Or (Image head.Empty (λ d. Is (codes "||"))) (Image bars_of BarsParts)

abbrev pub ToParts : ℕ → Token × (TypeTree × Block Body) → Type 0
ToParts = Seq (λ d. Is (codes "->")) (Seq TypeWithin (λ d k. IsBlock d (IsExpr d) (deeper d) k))

abbrev pub EndParts : Bool → ℕ → ClosureEnd → Type 0
EndParts h = Or (Image To ToParts) (Image Gives (Operand Anywhere 0 h))

abbrev pub ClosureParts : Bool → ℕ → Option Token × (ClosureHead × ClosureEnd) → Type 0
ClosureParts h = Seq (Opt (λ d. Is (codes "move"))) (Seq HeadParts (EndParts h))

abbrev pub LiteralNode : ℕ → Expr → Type 0
LiteralNode d x = Node d false x × ((l : Literal) × (expr_pieces x ≡ literal_pieces l) × IsLiteral true l)

abbrev pub GroupParts : ℕ → Expr → Type 0
GroupParts =
    Or (Image r.group_of (Grp is_expr_group (λ d x. Node d false x) expr_pieces)) (Image r.group_of (Grp is_literal_group LiteralNode expr_pieces))

abbrev pub BlockIs : ℕ → Block Body → Type 0
BlockIs d k = IsBlock d (IsExpr d) (deeper d) k

abbrev pub HeadIs : ℕ → ℕ → Expr → Type 0
HeadIs least d x = Operand Anywhere least true d x × (is_closed x ≡ true)

abbrev pub LetParts : ℕ → Token × (TopPat × (Token × Expr)) → Type 0
LetParts = Seq (λ d. Is (codes "let")) (Seq IsTopPat (Seq (λ d. Is (codes "=")) (HeadIs 6)))

abbrev pub ConditionParts : ℕ → Condition Expr → Type 0
ConditionParts = Or (Image let_of LetParts) (Image condition.Expr (HeadIs 0))

abbrev pub FurtherParts : ℕ → Token × (Condition Expr × Block Body) → Type 0
FurtherParts = Seq (λ d. Is (codes "if")) (Seq ConditionParts BlockIs)

abbrev pub ElseParts : ℕ → ElsePart → Type 0
ElseParts = Seq (λ d. Is (codes "else")) (Or (Image Further FurtherParts) (Image Last BlockIs))

abbrev pub IfParts : ℕ → Token × (Condition Expr × (Block Body × List ElsePart)) → Type 0
IfParts = Seq (λ d. Is (codes "if")) (Seq ConditionParts (Seq BlockIs (Rows goes_further ElseParts)))

abbrev pub ArmParts : ℕ → TopPat × (Token × (Expr × Option Token)) → Type 0
ArmParts = Seq IsTopPat (Seq (λ d. Is (codes "=>")) (Chain (Operand InArm 0 false) (λ _. Opt (λ d. Is (codes ",")))))

abbrev pub MatchParts : ℕ → Token × (Expr × (Token × (List (Arm Expr) × Token))) → Type 0
MatchParts = Seq (λ d. Is (codes "match")) (Seq (HeadIs 0) (Seq (λ d. Is (codes "{")) (Seq (Rows arm_closed (Image arm_of ArmParts)) (λ d. Is (codes "}")))))

abbrev pub WhileParts : ℕ → Token × (Expr × Block Body) → Type 0
WhileParts = Seq (λ d. Is (codes "while")) (Seq (HeadIs 0) BlockIs)

abbrev pub LoopParts : ℕ → Token × Block Body → Type 0
LoopParts = Seq (λ d. Is (codes "loop")) BlockIs

abbrev pub DotsParts : ℕ → Token × Expr → Type 0
DotsParts = Seq (λ d. IsOneOf (codes ".." ∷ codes "..=" ∷ [])) (Operand Anywhere 4 true)

abbrev pub RangeParts : ℕ → Range → Type 0
RangeParts = Chain (Operand Anywhere 0 true) (λ x. Opt (λ d t. (is_bound x ≡ true) × DotsParts d t))

abbrev pub RangeIs : ℕ → Range → Type 0
RangeIs d t = RangeParts d t × (range_closed t ≡ true)

abbrev pub ForParts : ℕ → Token × (Pat × (Token × (Range × Block Body))) → Type 0
ForParts = Seq (λ d. Is (codes "for")) (Seq IsPat (Seq (λ d. Is (codes "in")) (Seq RangeIs BlockIs)))

-- ---- what an expression begins with, if nothing goes on with it

abbrev pub is_prefix : Layer → Bool
is_prefix (Expr-F.MethodCall receiver dot name open' arguments close) = false
is_prefix (Expr-F.Call callee open' arguments close) = false
is_prefix (Expr-F.Field base dot name) = false
is_prefix (Expr-F.Place base dot number) = false
is_prefix (Expr-F.Index base open' index close) = false
is_prefix (Expr-F.Binary left operator right) = false
is_prefix (Expr-F.Assign left operator right) = false
is_prefix _ = true

abbrev pub Prefix : Bool → ℕ → Expr → Type 0
Prefix h d x = Node d h x × (is_prefix (out-Expr x) ≡ true)

-- the same, form by form
abbrev pub Forms : Bool → ℕ → Expr → Type 0
Forms h =
    Or (Image made.Literal (λ d. IsLiteralToken)) (Or (Image r.behind_of (PathParts h)) (Or (Image r.paren_of ParenParts) (Or (Image r.bracket_of BracketParts)
    (Or (Image made.Block BlockIs) (Or (Image b.if_of IfParts) (Or (Image b.match_of MatchParts) (Or (Image b.while_of WhileParts) (Or (Image b.loop_of LoopParts)
    (Or (Image b.for_of ForParts) (Or (Image r.closure_of (ClosureParts h)) (Or (Image r.return_of (ReturnParts h)) (Or (Image made.Break (λ d. Is (codes "break")))
    (Or (Image made.Continue (λ d. Is (codes "continue"))) (Or (Image r.unary_of (UnaryParts h)) (Or (Image r.ref_of (RefParts h))
    (Or (Image r.ref_ref_of (RefRefParts h)) GroupParts))))))))))))))))
