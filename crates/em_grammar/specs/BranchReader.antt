-- How `if`, `match` and loops are read.
use Rattle.std.specs.Prelude.{ℕ, nat_le, Bool, true, false, not, ◌&&◌, ◌||◌, List, [], ◌∷◌, Option, Some, None}
use Rattle.em_base.specs.declared.token.Token.{Token}
use Rattle.em_tree.specs.declared.pat.Pat.{Pat}
use Rattle.em_tree.specs.declared.pat.TopPat.{TopPat}
use Rattle.em_tree.specs.declared.expr.Condition.{Condition}
use Rattle.em_tree.specs.declared.expr.Condition.TheVariants as condition
use Rattle.em_tree.specs.declared.expr.Arm.{Arm}
use Rattle.em_tree.specs.declared.expr.Block.{Block}
use Rattle.em_tree.specs.declared.expr.ElseIf.{ElseIf}
use Rattle.em_tree.specs.declared.expr.Expr.{Expr, out-Expr}
use Rattle.em_tree.specs.declared.expr.Expr.TheVariants as made
use Rattle.em_tree.specs.declared.expr.Expr.TheViews.{roll-ElseIf}
use Rattle.em_tree.specs.declared.expr.Body.{Body}
use Rattle.em_tree.specs.Starts.{Pieces}
use Rattle.em_tree.specs.ExprShape.{strength, is_bare_block, ends_open, ends_bare}
use Rattle.em_grammar.specs.declared.sort.Written.TheVariants as word
use Rattle.em_grammar.specs.Sorts.{sort_of}
use Rattle.em_grammar.specs.Sets.{Set, tokens, others, both, anything, only, is_sign, any_of}
use Rattle.em_grammar.specs.Reader.{Read, token, chain, seq, mapped, opt, choice, when}
use Rattle.em_grammar.specs.Chains.{kept}
use Rattle.em_grammar.specs.Rows.{rows_of}
use Rattle.em_grammar.specs.ExprSets.{Anywhere, InArm, is_block, level_clear}
use Rattle.em_grammar.specs.ExprReader.{Readers}
use Rattle.em_grammar.specs.PrefixReader.{is_none}

-- ---- heads

-- it doesn't end in a `return` without a value
abbrev pub is_closed : Expr → Bool
is_closed x = not (ends_bare x)

abbrev pub let_of : Token × (TopPat × (Token × Expr)) → Condition Expr
let_of t = condition.Let t.0 t.1.0 t.1.1.0 t.1.1.1

-- ---- `if`

pub data ElseForm : Type 0 where
  Further : Token × (Condition Expr × Block Body) → ElseForm
  Last : Block Body → ElseForm

abbrev pub ElsePart : Type 0
ElsePart = Token × ElseForm

abbrev pub goes_further : ElsePart → Bool
goes_further (e, Further t) = true
goes_further (e, Last b) = false

abbrev pub else_if_of : Token → Token × (Condition Expr × Block Body) → ElseIf
else_if_of e t = roll-ElseIf (record { word_else = e; word = t.0; condition = t.1.0; then = t.1.1 })

abbrev pub branches_of : List ElsePart → List ElseIf
branches_of [] = []
branches_of ((e, Further t) ∷ rest) = else_if_of e t ∷ branches_of rest
branches_of ((e, Last b) ∷ rest) = branches_of rest

abbrev pub word_else_of : List ElsePart → Option Token
word_else_of [] = None
word_else_of ((e, Further t) ∷ rest) = word_else_of rest
word_else_of ((e, Last b) ∷ rest) = Some e

abbrev pub otherwise_of : List ElsePart → Option (Block Body)
otherwise_of [] = None
otherwise_of ((e, Further t) ∷ rest) = otherwise_of rest
otherwise_of ((e, Last b) ∷ rest) = Some b

abbrev pub if_of : Token × (Condition Expr × (Block Body × List ElsePart)) → Expr
if_of t = made.If t.0 t.1.0 t.1.1.0 (branches_of t.1.1.1) (word_else_of t.1.1.1) (otherwise_of t.1.1.1)

-- ---- `match`

abbrev pub arm_of : TopPat × (Token × (Expr × Option Token)) → Arm Expr
arm_of t = record { pat = t.0; arrow = t.1.0; body = t.1.1.0; comma = t.1.1.1 }

-- another arm may follow
abbrev pub arm_closed : Arm Expr → Bool
arm_closed a = not (is_none a.comma) || is_block (out-Expr a.body)

abbrev pub comma_clear : Set → Option Token → Set
comma_clear c None = both c (others (tokens (only word.Comma)))
comma_clear c (Some t) = anything

abbrev pub arm_clear : Arm Expr → Set
arm_clear a = comma_clear (level_clear InArm 0 false a.body) a.comma

abbrev pub match_of : Token × (Expr × (Token × (List (Arm Expr) × Token))) → Expr
match_of t = made.Match t.0 t.1.0 t.1.1.0 t.1.1.1.0 t.1.1.1.1

-- ---- loops

abbrev pub while_of : Token × (Expr × Block Body) → Expr
while_of t = made.While t.0 t.1.0 t.1.1

abbrev pub loop_of : Token × Block Body → Expr
loop_of t = made.Loop t.0 t.1

abbrev pub Range : Type 0
Range = Expr × Option (Token × Expr)

-- a range may begin with it
abbrev pub is_bound : Expr → Bool
is_bound x = nat_le 4 (strength x) && not (ends_open x)

-- a block may stand behind it, and its end is none
abbrev pub range_closed : Range → Bool
range_closed (x, None) = is_closed x
range_closed (x, Some t) = is_closed t.1 && not (is_bare_block t.1)

abbrev pub dots_of : Option (Token × Expr) → Option Token
dots_of None = None
dots_of (Some t) = Some t.0

abbrev pub end_of : Option (Token × Expr) → Option Expr
end_of None = None
end_of (Some t) = Some t.1

abbrev pub for_of : Token × (Pat × (Token × (Range × Block Body))) → Expr
for_of t = made.For t.0 t.1.0 t.1.1.0 t.1.1.1.0.0 (dots_of t.1.1.1.0.1) (end_of t.1.1.1.0.1) t.1.1.1.1

abbrev pub is_range_dots : Token → Bool
is_range_dots t = any_of (word.DotDot ∷ word.DotDotEq ∷ []) (sort_of t)

module _ (s : Readers) where
  -- an expression before a block
  abbrev pub head : ℕ → Pieces → Read Expr
  head least = kept is_closed (s.inner Anywhere least true)

  abbrev pub condition' : Pieces → Read (Condition Expr)
  condition' =
      choice (tokens (only word.Let)) (mapped let_of (seq (token (is_sign word.Let)) (seq s.top (seq (token (is_sign word.Eq)) (head 6)))))
      (mapped condition.Expr (head 0))

  abbrev pub else_part : Pieces → Read ElsePart
  else_part = seq (token (is_sign word.Else)) (choice (tokens (only word.If)) (mapped Further (seq (token (is_sign word.If)) (seq condition' s.block))) (mapped Last s.block))

  abbrev pub if' : Pieces → Read Expr
  if' = mapped if_of (seq (token (is_sign word.If)) (seq condition' (seq s.block (rows_of goes_further else_part))))

  abbrev pub arm : Pieces → Read (Arm Expr)
  arm = mapped arm_of (seq s.top (seq (token (is_sign word.FatArrow)) (chain (s.inner InArm 0 false) (λ _. opt (token (is_sign word.Comma))))))

  abbrev pub match' : Pieces → Read Expr
  match' = mapped match_of (seq (token (is_sign word.Match)) (seq (head 0) (seq (token (is_sign word.OpenBrace)) (seq (rows_of arm_closed arm) (token (is_sign word.CloseBrace))))))

  abbrev pub while' : Pieces → Read Expr
  while' = mapped while_of (seq (token (is_sign word.While)) (seq (head 0) s.block))

  abbrev pub loop' : Pieces → Read Expr
  loop' = mapped loop_of (seq (token (is_sign word.Loop)) s.block)

  abbrev pub range : Pieces → Read Range
  range = kept range_closed (chain (s.inner Anywhere 0 true) (λ x. opt (when (is_bound x) (seq (token is_range_dots) (s.inner Anywhere 4 true)))))

  abbrev pub for' : Pieces → Read Expr
  for' = mapped for_of (seq (token (is_sign word.For)) (seq s.pat (seq (token (is_sign word.In)) (seq range s.block))))
