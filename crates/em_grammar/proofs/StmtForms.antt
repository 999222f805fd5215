-- Statements in the words of the grammar and of the readers.
use Rattle.std.proofs.lemmas.List.{append-nil}
use Rattle.std.proofs.Common.{◌≡◌, ℕ, zero, suc, Bool, true, false, not, ◌||◌, if◌then◌else◌, List, [], ◌∷◌, ◌++◌, Option, Some, None, refl, sym, ◌∙◌, ap, subst, arith, ◌⊎◌, inl, inr}
use Rattle.std.specs.Prelude.{codes}
use Rattle.em_base.specs.declared.token.Token.{Token}
use Rattle.em_tree.specs.declared.piece.FragmentKind.{FragmentKind}
use Rattle.em_tree.specs.declared.piece.FragmentKind.TheVariants as fk
use Rattle.em_tree.specs.declared.pat.Pat.{Pat, out-Pat}
use Rattle.em_tree.specs.declared.pat.Pat.TheVariants as pat
use Rattle.em_tree.specs.declared.pat.Pat.TheOpen.{Pat-F}
use Rattle.em_tree.specs.declared.expr.Annotation.{Annotation}
use Rattle.em_tree.specs.declared.expr.Annotation.TheVariants as annotation
use Rattle.em_tree.specs.declared.expr.MacroCall.{MacroCall}
use Rattle.em_tree.specs.declared.expr.Refs.{Refs}
use Rattle.em_tree.specs.declared.expr.Expr.{Expr, out-Expr}
use Rattle.em_tree.specs.declared.expr.Expr.TheVariants as made
use Rattle.em_tree.specs.declared.expr.Expr.TheOpen.{Expr-F, Stmt-F}
use Rattle.em_tree.specs.declared.expr.Stmt.{Stmt, out-Stmt}
use Rattle.em_tree.specs.declared.expr.Stmt.TheVariants as stmt
use Rattle.em_tree.specs.Starts.{is_spelled, is_one_of, kind_of}
use Rattle.em_tree.specs.Tokens.{Is, Maybe}
use Rattle.em_tree.specs.Yields.{piece, opened}
use Rattle.em_tree.specs.PatGrammar as pg
use Rattle.em_tree.specs.PathGrammar.{PathWithin}
use Rattle.em_tree.specs.PatGrammar.{IsPat, pat_pieces}
use Rattle.em_tree.specs.ExprShape.{Edge, Fine, BlockLike, Braces, Round, PastBlock, PastBraces, dotted, past, edge}
use Rattle.em_tree.specs.ExprGrammar as g
use Rattle.em_tree.specs.ExprGrammar.{IsExpr, IsMacro, AreRefs, IsStmt, IsTail, IsNoMention, IsAnnotation, is_open, expr_pieces, stmt_pieces}
use Rattle.em_grammar.specs.declared.sort.Written.TheVariants as word
use Rattle.em_grammar.specs.Sets.{is_sign}
use Rattle.em_grammar.specs.Lang.{Image, Or, Grp}
use Rattle.em_grammar.specs.ExprSets.{Layer, InBlock, is_block, is_macro, has_braces}
use Rattle.em_grammar.specs.StmtReader.{StmtLayer, Typed, Plain, Mentions, LetEnd, is_wild, wild_layer, wild_token, is_blank, blank_tokens, let_of, statement_by, statement_of, tailed, closing, semi_call, with_semi, tail_of, stmt_kind, is_stmt_group, stmt_group_of}
use Rattle.em_grammar.specs.ExprLang.{Node, deeper, edge_fits}
use Rattle.em_grammar.proofs.Tests.{sign, any_sort}
use Rattle.em_grammar.proofs.PathFacts.{opened_token}
use Rattle.em_grammar.proofs.ExprLayers.{same_expr, same_stmt, pieces_macro, pieces_call_stmt, pieces_expr_stmt, pieces_block_stmt}
use Rattle.em_grammar.proofs.ExprFacts.{edge_layer, edge_at}
use Rattle.em_grammar.proofs.ExprForms.{as_inner, like_block, block_like}
use Rattle.em_grammar.proofs.ExprGrows.{Deepens, expr_grows, stmt_grows, no_expr, expr_node_of, node_expr}
use Rattle.em_grammar.proofs.StmtPairs.{same_pat, pieces_wild, EndIs, LetParts, ExprIs, PlainSides}

-- ---- calls

abbrev call_layer : MacroCall → Layer
call_layer call = Expr-F.Expr::Macro call

macro_node : (h : Bool) (d : ℕ) (x : Expr) (call : MacroCall) → Node d h x → out-Expr x ≡ Expr-F.Expr::Macro call → IsMacro call
macro_node h d x call (g.ExprNode.macro {call = c} is m) at = let same : c ≡ call = inside c call (sym is ∙ at) in subst (λ k. IsMacro k) same m
  where
    inside : (c k : MacroCall) → call_layer c ≡ call_layer k → c ≡ k
    inside c k e = cc
macro_node h d x call (g.ExprNode.literal is m) at = let never : false ≡ true = sym (ap (λ l. is_macro l) is) ∙ ap (λ l. is_macro l) at in cc
macro_node h d x call (g.ExprNode.path is m) at = let never : false ≡ true = sym (ap (λ l. is_macro l) is) ∙ ap (λ l. is_macro l) at in cc
macro_node h d x call (g.ExprNode.struct is m a b e) at = let never : false ≡ true = sym (ap (λ l. is_macro l) is) ∙ ap (λ l. is_macro l) at in cc
macro_node h d x call (g.ExprNode.paren is a m e) at = let never : false ≡ true = sym (ap (λ l. is_macro l) is) ∙ ap (λ l. is_macro l) at in cc
macro_node h d x call (g.ExprNode.array is a m e) at = let never : false ≡ true = sym (ap (λ l. is_macro l) is) ∙ ap (λ l. is_macro l) at in cc
macro_node h d x call (g.ExprNode.repeat is a m b n e) at = let never : false ≡ true = sym (ap (λ l. is_macro l) is) ∙ ap (λ l. is_macro l) at in cc
macro_node h d x call (g.ExprNode.block is m) at = let never : false ≡ true = sym (ap (λ l. is_macro l) is) ∙ ap (λ l. is_macro l) at in cc
macro_node h d x call (g.ExprNode.if' is a m n l j) at = let never : false ≡ true = sym (ap (λ l. is_macro l) is) ∙ ap (λ l. is_macro l) at in cc
macro_node h d x call (g.ExprNode.match is a m b n e) at = let never : false ≡ true = sym (ap (λ l. is_macro l) is) ∙ ap (λ l. is_macro l) at in cc
macro_node h d x call (g.ExprNode.while is a m n) at = let never : false ≡ true = sym (ap (λ l. is_macro l) is) ∙ ap (λ l. is_macro l) at in cc
macro_node h d x call (g.ExprNode.loop is a n) at = let never : false ≡ true = sym (ap (λ l. is_macro l) is) ∙ ap (λ l. is_macro l) at in cc
macro_node h d x call (g.ExprNode.for' is a m n l j) at = let never : false ≡ true = sym (ap (λ l. is_macro l) is) ∙ ap (λ l. is_macro l) at in cc
macro_node h d x call (g.ExprNode.closure is a m n) at = let never : false ≡ true = sym (ap (λ l. is_macro l) is) ∙ ap (λ l. is_macro l) at in cc
macro_node h d x call (g.ExprNode.closure_to is a m n l j) at = let never : false ≡ true = sym (ap (λ l. is_macro l) is) ∙ ap (λ l. is_macro l) at in cc
macro_node h d x call (g.ExprNode.return is a m) at = let never : false ≡ true = sym (ap (λ l. is_macro l) is) ∙ ap (λ l. is_macro l) at in cc
macro_node h d x call (g.ExprNode.break is m) at = let never : false ≡ true = sym (ap (λ l. is_macro l) is) ∙ ap (λ l. is_macro l) at in cc
macro_node h d x call (g.ExprNode.continue is m) at = let never : false ≡ true = sym (ap (λ l. is_macro l) is) ∙ ap (λ l. is_macro l) at in cc
macro_node h d x call (g.ExprNode.unary' is a m) at = let never : false ≡ true = sym (ap (λ l. is_macro l) is) ∙ ap (λ l. is_macro l) at in cc
macro_node h d x call (g.ExprNode.ref is a b m) at = let never : false ≡ true = sym (ap (λ l. is_macro l) is) ∙ ap (λ l. is_macro l) at in cc
macro_node h d x call (g.ExprNode.ref_ref is a b m n) at = let never : false ≡ true = sym (ap (λ l. is_macro l) is) ∙ ap (λ l. is_macro l) at in cc
macro_node h d x call (g.ExprNode.group is k ps m) at = let never : false ≡ true = sym (ap (λ l. is_macro l) is) ∙ ap (λ l. is_macro l) at in cc
macro_node h d x call (g.ExprNode.method_call is m a b e n k) at = let never : false ≡ true = sym (ap (λ l. is_macro l) is) ∙ ap (λ l. is_macro l) at in cc
macro_node h d x call (g.ExprNode.call is m f a b e) at = let never : false ≡ true = sym (ap (λ l. is_macro l) is) ∙ ap (λ l. is_macro l) at in cc
macro_node h d x call (g.ExprNode.field is m a b) at = let never : false ≡ true = sym (ap (λ l. is_macro l) is) ∙ ap (λ l. is_macro l) at in cc
macro_node h d x call (g.ExprNode.place is m a b) at = let never : false ≡ true = sym (ap (λ l. is_macro l) is) ∙ ap (λ l. is_macro l) at in cc
macro_node h d x call (g.ExprNode.index is m a b e) at = let never : false ≡ true = sym (ap (λ l. is_macro l) is) ∙ ap (λ l. is_macro l) at in cc
macro_node h d x call (g.ExprNode.binary is f m n) at = let never : false ≡ true = sym (ap (λ l. is_macro l) is) ∙ ap (λ l. is_macro l) at in cc
macro_node h d x call (g.ExprNode.assign is f m n) at = let never : false ≡ true = sym (ap (λ l. is_macro l) is) ∙ ap (λ l. is_macro l) at in cc

macro_expr : (d : ℕ) (x : Expr) (call : MacroCall) → IsExpr d false x → out-Expr x ≡ Expr-F.Expr::Macro call → IsMacro call
macro_expr zero x call m at = absurd (no_expr false x m)
macro_expr (suc d) x call m at = macro_node false d x call (expr_node_of d false x m) at

-- the call that an expression is
call_is : (d : ℕ) (x : Expr) (call : MacroCall) → ExprIs d x → out-Expr x ≡ Expr-F.Expr::Macro call → IsMacro call
call_is d x call (inl m) at = macro_expr d x call m.0 at
call_is d x call (inr m) at = subst (λ k. IsMacro k) (same m.0 (sym (ap (λ k. out-Expr k) m.2 ∙ made.outs-Macro m.0) ∙ at)) m.1
  where
    same : (c : MacroCall) → call_layer c ≡ call_layer call → c ≡ call
    same c e = cc

-- ---- edges

pub fits_four : (e : Edge) → edge_fits InBlock e ≡ true → (e ≡ Fine) ⊎ (e ≡ BlockLike) ⊎ (e ≡ Braces) ⊎ (e ≡ Round)
fits_four Fine h = inl refl
fits_four BlockLike h = inr (inl refl)
fits_four Braces h = inr (inr (inl refl))
fits_four Round h = inr (inr (inr refl))
fits_four PastBlock h = cc
fits_four PastBraces h = cc

pub four_fits : (e : Edge) → (e ≡ Fine) ⊎ (e ≡ BlockLike) ⊎ (e ≡ Braces) ⊎ (e ≡ Round) → edge_fits InBlock e ≡ true
four_fits e (inl h) = ap (λ e. edge_fits InBlock e) h
four_fits e (inr (inl h)) = ap (λ e. edge_fits InBlock e) h
four_fits e (inr (inr (inl h))) = ap (λ e. edge_fits InBlock e) h
four_fits e (inr (inr (inr h))) = ap (λ e. edge_fits InBlock e) h

dotted_fine : (e : Edge) → edge_fits InBlock (dotted e) ≡ true → dotted e ≡ Fine
dotted_fine Fine h = refl
dotted_fine BlockLike h = refl
dotted_fine Braces h = refl
dotted_fine Round h = refl
dotted_fine PastBlock h = cc
dotted_fine PastBraces h = cc

past_fine : (e : Edge) → edge_fits InBlock (past e) ≡ true → past e ≡ Fine
past_fine Fine h = refl
past_fine BlockLike h = cc
past_fine Braces h = cc
past_fine Round h = refl
past_fine PastBlock h = cc
past_fine PastBraces h = cc

call_not_fine : (b : Bool) → (if b then Braces else Round) ≡ Fine → ⊥
call_not_fine true h = cc
call_not_fine false h = cc

-- what an expression is as a statement
pub data View (x : Expr) : Type 0 where
  a_call : (call : MacroCall) → out-Expr x ≡ Expr-F.Expr::Macro call → View x
  a_block : is_block (out-Expr x) ≡ true → statement_of x ≡ stmt.BlockLike x None → View x
  other : edge x ≡ Fine → statement_of x ≡ stmt.Expr x None → View x

view_by : (x : Expr) (l : Layer) → out-Expr x ≡ l → edge_fits InBlock (edge_layer l) ≡ true → View x
view_by x (Expr-F.Expr::Macro call) is h = a_call call is
view_by x (Expr-F.Block b) is h = a_block (ap (λ l. is_block l) is) (ap (λ l. statement_by l x) is)
view_by x (Expr-F.If w q b xs e z) is h = a_block (ap (λ l. is_block l) is) (ap (λ l. statement_by l x) is)
view_by x (Expr-F.Match w y o xs c) is h = a_block (ap (λ l. is_block l) is) (ap (λ l. statement_by l x) is)
view_by x (Expr-F.While w y b) is h = a_block (ap (λ l. is_block l) is) (ap (λ l. statement_by l x) is)
view_by x (Expr-F.Loop w b) is h = a_block (ap (λ l. is_block l) is) (ap (λ l. statement_by l x) is)
view_by x (Expr-F.For w q i y dots z b) is h = a_block (ap (λ l. is_block l) is) (ap (λ l. statement_by l x) is)
view_by x (Expr-F.MethodCall y dot name o xs c) is h = other (edge_at x (Expr-F.MethodCall y dot name o xs c) is ∙ dotted_fine (edge y) h) (ap (λ l. statement_by l x) is)
view_by x (Expr-F.Field y dot name) is h = other (edge_at x (Expr-F.Field y dot name) is ∙ dotted_fine (edge y) h) (ap (λ l. statement_by l x) is)
view_by x (Expr-F.Place y dot number) is h = other (edge_at x (Expr-F.Place y dot number) is ∙ dotted_fine (edge y) h) (ap (λ l. statement_by l x) is)
view_by x (Expr-F.Call y o xs c) is h = other (edge_at x (Expr-F.Call y o xs c) is ∙ past_fine (edge y) h) (ap (λ l. statement_by l x) is)
view_by x (Expr-F.Index y o z c) is h = other (edge_at x (Expr-F.Index y o z c) is ∙ past_fine (edge y) h) (ap (λ l. statement_by l x) is)
view_by x (Expr-F.Binary y op z) is h = other (edge_at x (Expr-F.Binary y op z) is ∙ past_fine (edge y) h) (ap (λ l. statement_by l x) is)
view_by x (Expr-F.Assign y op z) is h = other (edge_at x (Expr-F.Assign y op z) is ∙ past_fine (edge y) h) (ap (λ l. statement_by l x) is)
view_by x (Expr-F.Literal t) is h = other (edge_at x (Expr-F.Literal t) is) (ap (λ l. statement_by l x) is)
view_by x (Expr-F.Path y) is h = other (edge_at x (Expr-F.Path y) is) (ap (λ l. statement_by l x) is)
view_by x (Expr-F.Struct y o xs c) is h = other (edge_at x (Expr-F.Struct y o xs c) is) (ap (λ l. statement_by l x) is)
view_by x (Expr-F.Paren o y c) is h = other (edge_at x (Expr-F.Paren o y c) is) (ap (λ l. statement_by l x) is)
view_by x (Expr-F.Array o xs c) is h = other (edge_at x (Expr-F.Array o xs c) is) (ap (λ l. statement_by l x) is)
view_by x (Expr-F.Repeat o y semi length c) is h = other (edge_at x (Expr-F.Repeat o y semi length c) is) (ap (λ l. statement_by l x) is)
view_by x (Expr-F.Closure m q y) is h = other (edge_at x (Expr-F.Closure m q y) is) (ap (λ l. statement_by l x) is)
view_by x (Expr-F.ClosureTo m q r t b) is h = other (edge_at x (Expr-F.ClosureTo m q r t b) is) (ap (λ l. statement_by l x) is)
view_by x (Expr-F.Return w v) is h = other (edge_at x (Expr-F.Return w v) is) (ap (λ l. statement_by l x) is)
view_by x (Expr-F.Break t) is h = other (edge_at x (Expr-F.Break t) is) (ap (λ l. statement_by l x) is)
view_by x (Expr-F.Continue t) is h = other (edge_at x (Expr-F.Continue t) is) (ap (λ l. statement_by l x) is)
view_by x (Expr-F.Unary op y) is h = other (edge_at x (Expr-F.Unary op y) is) (ap (λ l. statement_by l x) is)
view_by x (Expr-F.Ref o m y) is h = other (edge_at x (Expr-F.Ref o m y) is) (ap (λ l. statement_by l x) is)
view_by x (Expr-F.RefRef o m y) is h = other (edge_at x (Expr-F.RefRef o m y) is) (ap (λ l. statement_by l x) is)
view_by x (Expr-F.Expr::Group u y) is h = other (edge_at x (Expr-F.Expr::Group u y) is) (ap (λ l. statement_by l x) is)

pub view : (d : ℕ) (x : Expr) → ExprIs d x → View x
view d x (inl m) = view_by x (out-Expr x) refl (subst (λ e. edge_fits InBlock e ≡ true) (edge_at x (out-Expr x) refl) m.2)
view d x (inr m) = a_call m.0 (ap (λ k. out-Expr k) m.2 ∙ made.outs-Macro m.0)

fine_statement : (x : Expr) (l : Layer) → edge_layer l ≡ Fine → statement_by l x ≡ stmt.Expr x None
fine_statement x (Expr-F.Expr::Macro call) h = absurd (call_not_fine _ h)
fine_statement x (Expr-F.Block b) h = cc
fine_statement x (Expr-F.If w q b xs e z) h = cc
fine_statement x (Expr-F.Match w y o xs c) h = cc
fine_statement x (Expr-F.While w y b) h = cc
fine_statement x (Expr-F.Loop w b) h = cc
fine_statement x (Expr-F.For w q i y dots z b) h = cc
fine_statement x _ h = refl

block_statement : (x : Expr) (l : Layer) → is_block l ≡ true → statement_by l x ≡ stmt.BlockLike x None
block_statement x (Expr-F.Block b) h = refl
block_statement x (Expr-F.If w q b xs e z) h = refl
block_statement x (Expr-F.Match w y o xs c) h = refl
block_statement x (Expr-F.While w y b) h = refl
block_statement x (Expr-F.Loop w b) h = refl
block_statement x (Expr-F.For w q i y dots z b) h = refl
block_statement x _ h = cc

as_fine : (x : Expr) → edge x ≡ Fine → statement_of x ≡ stmt.Expr x None
as_fine x h = fine_statement x (out-Expr x) (sym (edge_at x (out-Expr x) refl) ∙ h)

as_block : (x : Expr) → edge x ≡ BlockLike → statement_of x ≡ stmt.BlockLike x None
as_block x h = block_statement x (out-Expr x) (like_block x h)

as_call : (call : MacroCall) → statement_of (made.Macro call) ≡ stmt.Macro call None
as_call call = ap (λ l. statement_by l (made.Macro call)) (made.outs-Macro call)

pub is_here : (d : ℕ) (x : Expr) → IsExpr d false x → edge_fits InBlock (edge x) ≡ true → ExprIs d x
is_here d x m e = inl (m, inl (omega arith), e)

fit_by : (x : Expr) (e : Edge) → edge x ≡ e → edge_fits InBlock e ≡ true → edge_fits InBlock (edge x) ≡ true
fit_by x e is h = subst (λ e. edge_fits InBlock e ≡ true) (sym is) h

-- ---- blanks

no_blank : (q : Pat) → not (is_blank q) ≡ true → (t : Token) → opened (pat_pieces q) ≡ t ∷ [] → Is (codes "_") t → ⊥
no_blank q h t is m = let bad : not true ≡ true = subst (λ b. not b ≡ true) (ap (λ ts. blank_tokens ts) is ∙ ap (λ o. is_one_of (codes "_" ∷ []) o) m) h in cc

blank_no : (q : Pat) → ((t : Token) → opened (pat_pieces q) ≡ t ∷ [] → Is (codes "_") t → ⊥) → not (is_blank q) ≡ true
blank_no q h = go (opened (pat_pieces q)) refl
  where
    one : (t : Token) → opened (pat_pieces q) ≡ t ∷ [] → (b : Bool) → is_spelled (codes "_" ∷ []) t ≡ b → not b ≡ true
    one t is true at = absurd (h t is ((sign word.Underscore).holds t (spelled t ∙ at)))
      where
        spelled : (t : Token) → is_sign word.Underscore t ≡ is_spelled (codes "_" ∷ []) t
        spelled t = or_false (is_sign word.Underscore t) ∙ any_sort (word.Underscore ∷ []) t
          where
            or_false : (b : Bool) → b ≡ (b || false)
            or_false true = refl
            or_false false = refl
    one t is false at = refl

    go : (ts : List Token) → opened (pat_pieces q) ≡ ts → not (blank_tokens ts) ≡ true
    go [] is = refl
    go (t ∷ []) is = one t is (is_spelled (codes "_" ∷ []) t) refl
    go (t ∷ u ∷ ts) is = refl

-- ---- a statement without its `;`, and with it

pub make_pat : (d : ℕ) (x : Pat) → pg.PatNode (IsPat d) (PathWithin d) x → IsPat (suc d) x
unfolding IsPat
make_pat d x m = m

wild_is : (d : ℕ) (q : Pat) (u : Token) → IsPat d q → out-Pat q ≡ Pat-F.Wild u → Is (codes "_") u
unfolding IsPat
wild_is zero q u m is = absurd m
wild_is (suc d) q u m is = go q m is
  where
    token_in : Token → Pat-F Pat → Token
    token_in t (Pat-F.Wild u) = u
    token_in t _ = t

    wild : Pat-F Pat → Bool
    wild (Pat-F.Wild u) = true
    wild _ = false

    go : (x : Pat) → pg.PatNode (IsPat d) (PathWithin d) x → out-Pat x ≡ Pat-F.Wild u → Is (codes "_") u
    go x (pg.PatNode.wild {t} at n) is = subst (λ k. Is (codes "_") k) (ap (λ l. token_in u l) (sym at ∙ is)) n
    go x (pg.PatNode.name at a b n) is = let never : false ≡ true = ap wild (sym at ∙ is) in cc
    go x (pg.PatNode.literal at n) is = let never : false ≡ true = ap wild (sym at ∙ is) in cc
    go x (pg.PatNode.range at a b c) is = let never : false ≡ true = ap wild (sym at ∙ is) in cc
    go x (pg.PatNode.path at a b) is = let never : false ≡ true = ap wild (sym at ∙ is) in cc
    go x (pg.PatNode.tuple at a b c e) is = let never : false ≡ true = ap wild (sym at ∙ is) in cc
    go x (pg.PatNode.struct at a b c e f) is = let never : false ≡ true = ap wild (sym at ∙ is) in cc
    go x (pg.PatNode.group at a b n) is = let never : false ≡ true = ap wild (sym at ∙ is) in cc

pub out_of : (y z : Stmt) (l : StmtLayer) → y ≡ z → out-Stmt z ≡ l → out-Stmt y ≡ l
out_of y z l is at = ap (λ k. out-Stmt k) is ∙ at

braces_of : (call : MacroCall) → has_braces call ≡ true → Is (codes "{") call.text.open
braces_of call h = (sign word.OpenBrace).holds call.text.open h

no_braces : (call : MacroCall) → has_braces call ≡ false → Is (codes "{") call.text.open → ⊥
no_braces call h m = let never : has_braces call ≡ true = (sign word.OpenBrace).told call.text.open m in let bad : false ≡ true = sym h ∙ never in cc

braces_edge : (call : MacroCall) → has_braces call ≡ true → edge (made.Macro call) ≡ Braces
braces_edge call h = edge_at (made.Macro call) (Expr-F.Expr::Macro call) (made.outs-Macro call) ∙ go (is_spelled (codes "{" ∷ []) call.text.open) (sym (same call) ∙ h)
  where
    same : (call : MacroCall) → has_braces call ≡ is_spelled (codes "{" ∷ []) call.text.open
    same call = or_false (has_braces call) ∙ any_sort (word.OpenBrace ∷ []) call.text.open
      where
        or_false : (b : Bool) → b ≡ (b || false)
        or_false true = refl
        or_false false = refl

    go : (b : Bool) → b ≡ true → (if b then Braces else Round) ≡ Braces
    go true h = refl
    go false h = cc

call_edge_is : (call : MacroCall) → (edge (made.Macro call) ≡ Braces) ⊎ (edge (made.Macro call) ≡ Round)
call_edge_is call = go (is_spelled (codes "{" ∷ []) call.text.open) (edge_at (made.Macro call) (Expr-F.Expr::Macro call) (made.outs-Macro call))
  where
    go : (b : Bool) → edge (made.Macro call) ≡ (if b then Braces else Round) → (edge (made.Macro call) ≡ Braces) ⊎ (edge (made.Macro call) ≡ Round)
    go true h = inl h
    go false h = inr h

wild_out : (w : Token) (q : Pat) → is_wild q ≡ true → out-Pat q ≡ Pat-F.Wild (wild_token w (out-Pat q))
wild_out w q h = go (out-Pat q) h
  where
    go : (l : Pat-F Pat) → wild_layer l ≡ true → l ≡ Pat-F.Wild (wild_token w l)
    go (Pat-F.Wild u) h = refl
    go _ h = cc

opened_one : (t : Token) → opened (piece t) ≡ t ∷ []
opened_one t = ap (λ ts. ts ++ []) (opened_token t)

module _ (known : (d : ℕ) → Deepens d (suc d)) where
  lift : (d : ℕ) (x : Expr) → IsExpr d false x → IsExpr (suc d) false x
  lift d x m = expr_grows known d false x m

  call_expr : (d : ℕ) (call : MacroCall) → IsMacro call → IsExpr (suc d) false (made.Macro call)
  call_expr d call m = node_expr d false (made.Macro call) (g.ExprNode.macro (made.outs-Macro call) m)

  pub inner_of : (d : ℕ) (x : Expr) → ExprIs d x → IsExpr (suc d) false x
  inner_of d x (inl m) = lift d x m.0
  inner_of d x (inr m) = subst (λ x. IsExpr (suc d) false x) (sym m.2) (call_expr d m.0 m.1)

  abbrev Stmts : ℕ → Bool → Stmt → Type 0
  Stmts d b y = IsStmt d (IsExpr d) (deeper d) b y

  -- `let`, with its `;` or without
  let_with : (d : ℕ) (b : Bool) (o : Option Token) (w : Token) (q : Pat) (e : LetEnd) (y : Stmt) → g.HasSemi b o → LetParts d ((w, q), e) → out-Stmt y ≡ out-Stmt (with_semi (out-Stmt (let_of ((w, q), e))) o) → Stmts (suc d) b y
  let_with d b o w q e y hs m at = go e m.1 at
    where
      with_let : (a : Annotation) (t : Token) (v : Expr) → out-Stmt (with_semi (out-Stmt (stmt.Let w q a t v None)) o) ≡ Stmt-F.Let w q a t v o
      with_let a t v = ap (λ l. out-Stmt (with_semi l o)) (stmt.outs-Let w q a t v None) ∙ stmt.outs-Let w q a t v o

      go : (e : LetEnd) → EndIs q d e → out-Stmt y ≡ out-Stmt (with_semi (out-Stmt (let_of ((w, q), e))) o) → Stmts (suc d) b y
      go e (inl n) at =
          let t = n.0 in
          let k : out-Stmt y ≡ Stmt-F.Let w q (annotation.Type t.0 t.1.0) t.1.1.0 t.1.1.1 o = at ∙ ap (λ e. out-Stmt (with_semi (out-Stmt (let_of ((w, q), e))) o)) n.2 ∙ with_let (annotation.Type t.0 t.1.0) t.1.1.0 t.1.1.1 in
          g.IsStmt.let' k m.0.0 m.0.1 (n.1.0, (known d).types t.1.0 n.1.1.0) tt n.1.1.1.0 (lift d t.1.1.1 n.1.1.1.1.0) hs
      go e (inr (inl n)) at =
          let t = n.1.0 in
          let u : Token = wild_token w (out-Pat q) in
          let k : out-Stmt y ≡ Stmt-F.Mention w u t.0 t.1 o =
          at ∙ ap (λ e. out-Stmt (with_semi (out-Stmt (let_of ((w, q), e))) o)) n.1.2 ∙ ap (λ l. out-Stmt (with_semi l o)) (stmt.outs-Mention w u t.0 t.1 None) ∙ stmt.outs-Mention w u t.0 t.1 o in
          g.IsStmt.mention k m.0.0 (wild_is (suc d) q u m.0.1 (wild_out w q n.0)) n.1.1.0 n.1.1.1 hs
      go e (inr (inr n)) at =
          let t = n.1.1.0 in
          let k : out-Stmt y ≡ Stmt-F.Let w q annotation.Nothing t.0 t.1 o = at ∙ ap (λ e. out-Stmt (with_semi (out-Stmt (let_of ((w, q), e))) o)) n.1.1.2 ∙ with_let annotation.Nothing t.0 t.1 in
          g.IsStmt.let' k m.0.0 m.0.1 tt (no_blank q n.1.0) n.1.1.1.0 (lift d t.1 n.1.1.1.1.0) hs

  -- ---- with the `;`

  pub semi_stmt : (d : ℕ) (y : Stmt) (t : Token) → PlainSides d y → Is (codes ";") t → Stmts (suc d) true (with_semi (out-Stmt y) (Some t))
  semi_stmt d y t (inl m) k =
      let_with d true (Some t) m.0.0.0 m.0.0.1 m.0.1 (with_semi (out-Stmt y) (Some t)) (t, refl, k) m.1 (ap (λ y. out-Stmt (with_semi (out-Stmt y) (Some t))) m.2)
  semi_stmt d y t (inr m) k = go (view d m.0 m.1)
    where
      x : Expr
      x = m.0

      call_semi : (call : MacroCall) → IsMacro call → (b : Bool) → has_braces call ≡ b → Stmts (suc d) true (semi_call b call (Some t))
      call_semi call is true at = g.IsStmt.expr (stmt.outs-Expr (made.Macro call) (Some t)) (call_expr d call is) (inr (braces_edge call at, refl)) (t, refl, k)
      call_semi call is false at = g.IsStmt.macro (stmt.outs-Macro call (Some t)) is (inr (no_braces call at, (t, refl, k)))

      go : View x → Stmts (suc d) true (with_semi (out-Stmt y) (Some t))
      go (a_call call at) =
          subst (λ l. Stmts (suc d) true (with_semi l (Some t))) (sym (out_of y (stmt.Macro call None) (Stmt-F.Stmt::Macro call None) (m.2 ∙ ap (λ l. statement_by l x) at) (stmt.outs-Macro call None)))
          (call_semi call (call_is d x call m.1 at) (has_braces call) refl)
      go (a_block b at) =
          subst (λ l. Stmts (suc d) true (with_semi l (Some t))) (sym (out_of y (stmt.BlockLike x None) (Stmt-F.BlockLike x None) (m.2 ∙ at) (stmt.outs-BlockLike x None)))
          (g.IsStmt.block_like (stmt.outs-BlockLike x (Some t)) (inner_of d x m.1) (block_like x b) k)
      go (other e at) =
          subst (λ l. Stmts (suc d) true (with_semi l (Some t))) (sym (out_of y (stmt.Expr x None) (Stmt-F.Expr x None) (m.2 ∙ at) (stmt.outs-Expr x None)))
          (g.IsStmt.expr (stmt.outs-Expr x (Some t)) (inner_of d x m.1) (inl e) (t, refl, k))

  -- ---- without it

  pub bare_of : (d : ℕ) (y : Stmt) → PlainSides d y → Stmts (suc d) false y
  bare_of d y (inl m) =
      let_with d false None m.0.0.0 m.0.0.1 m.0.1 y refl m.1 (ap (λ y. out-Stmt y) m.2 ∙ without m.0)
    where
      without : (t : (Token × Pat) × LetEnd) → out-Stmt (let_of t) ≡ out-Stmt (with_semi (out-Stmt (let_of t)) None)
      without ((w, q), Typed t) = sym (ap (λ l. out-Stmt (with_semi l None)) (stmt.outs-Let w q (annotation.Type t.0 t.1.0) t.1.1.0 t.1.1.1 None))
      without ((w, q), Plain t) = sym (ap (λ l. out-Stmt (with_semi l None)) (stmt.outs-Let w q annotation.Nothing t.0 t.1 None))
      without ((w, q), Mentions t) = sym (ap (λ l. out-Stmt (with_semi l None)) (stmt.outs-Mention w (wild_token w (out-Pat q)) t.0 t.1 None))
  bare_of d y (inr m) = go (view d m.0 m.1)
    where
      x : Expr
      x = m.0

      go : View x → Stmts (suc d) false y
      go (a_call call at) = g.IsStmt.macro (out_of y (stmt.Macro call None) (Stmt-F.Stmt::Macro call None) (m.2 ∙ ap (λ l. statement_by l x) at) (stmt.outs-Macro call None)) (call_is d x call m.1 at) refl
      go (a_block b at) = g.IsStmt.block_like (out_of y (stmt.BlockLike x None) (Stmt-F.BlockLike x None) (m.2 ∙ at) (stmt.outs-BlockLike x None)) (inner_of d x m.1) (block_like x b) refl
      go (other e at) = g.IsStmt.expr (out_of y (stmt.Expr x None) (Stmt-F.Expr x None) (m.2 ∙ at) (stmt.outs-Expr x None)) (inner_of d x m.1) (inl e) refl

  -- another row may follow
  pub open_stmt : (d : ℕ) (y : Stmt) → PlainSides d y → closing (out-Stmt y) ≡ true → Stmts (suc d) true y
  open_stmt d y (inl m) c = absurd (not_closing m.0 (subst (λ y. closing (out-Stmt y) ≡ true) m.2 c))
    where
      not_closing : (t : (Token × Pat) × LetEnd) → closing (out-Stmt (let_of t)) ≡ true → ⊥
      not_closing ((w, q), Typed t) h = let bad : false ≡ true = sym (ap closing (stmt.outs-Let w q (annotation.Type t.0 t.1.0) t.1.1.0 t.1.1.1 None)) ∙ h in cc
      not_closing ((w, q), Plain t) h = let bad : false ≡ true = sym (ap closing (stmt.outs-Let w q annotation.Nothing t.0 t.1 None)) ∙ h in cc
      not_closing ((w, q), Mentions t) h = let bad : false ≡ true = sym (ap closing (stmt.outs-Mention w (wild_token w (out-Pat q)) t.0 t.1 None)) ∙ h in cc
  open_stmt d y (inr m) c = go (view d m.0 m.1)
    where
      x : Expr
      x = m.0

      go : View x → Stmts (suc d) true y
      go (a_call call at) =
          let o : out-Stmt y ≡ Stmt-F.Stmt::Macro call None = out_of y (stmt.Macro call None) (Stmt-F.Stmt::Macro call None) (m.2 ∙ ap (λ l. statement_by l x) at) (stmt.outs-Macro call None) in
          g.IsStmt.macro o (call_is d x call m.1 at) (inl (braces_of call (sym (ap closing o) ∙ c), refl))
      go (a_block b at) = g.IsStmt.block_like (out_of y (stmt.BlockLike x None) (Stmt-F.BlockLike x None) (m.2 ∙ at) (stmt.outs-BlockLike x None)) (inner_of d x m.1) (block_like x b) tt
      go (other e at) = let bad : false ≡ true = sym (ap closing (out_of y (stmt.Expr x None) (Stmt-F.Expr x None) (m.2 ∙ at) (stmt.outs-Expr x None))) ∙ c in cc

  abbrev TailOf : ℕ → Stmt → Type 0
  TailOf d y = (x : Expr) × (tail_of (out-Stmt y) ≡ Some x) × IsTail d (IsExpr d) (deeper d) x × (expr_pieces x ≡ stmt_pieces y)

  pub tail_stmt : (d : ℕ) (y : Stmt) → PlainSides d y → tailed (out-Stmt y) ≡ true → TailOf (suc d) y
  tail_stmt d y (inl m) c = absurd (not_tailed m.0 (subst (λ y. tailed (out-Stmt y) ≡ true) m.2 c))
    where
      not_tailed : (t : (Token × Pat) × LetEnd) → tailed (out-Stmt (let_of t)) ≡ true → ⊥
      not_tailed ((w, q), Typed t) h = let bad : false ≡ true = sym (ap tailed (stmt.outs-Let w q (annotation.Type t.0 t.1.0) t.1.1.0 t.1.1.1 None)) ∙ h in cc
      not_tailed ((w, q), Plain t) h = let bad : false ≡ true = sym (ap tailed (stmt.outs-Let w q annotation.Nothing t.0 t.1 None)) ∙ h in cc
      not_tailed ((w, q), Mentions t) h = let bad : false ≡ true = sym (ap tailed (stmt.outs-Mention w (wild_token w (out-Pat q)) t.0 t.1 None)) ∙ h in cc
  tail_stmt d y (inr m) c = go (view d m.0 m.1)
    where
      x : Expr
      x = m.0

      go : View x → TailOf (suc d) y
      go (a_call call at) =
          let z : y ≡ stmt.Macro call None = m.2 ∙ ap (λ l. statement_by l x) at in
          let o : out-Stmt y ≡ Stmt-F.Stmt::Macro call None = out_of y (stmt.Macro call None) (Stmt-F.Stmt::Macro call None) z (stmt.outs-Macro call None) in (
            made.Macro call,
            ap tail_of o,
            g.IsTail.expr (call_expr d call (call_is d x call m.1 at)) (inr (inr (call_edge_is call))),
            pieces_macro call ∙ sym (append-nil _) ∙ sym (pieces_call_stmt call None) ∙ ap (λ k. stmt_pieces k) (sym z),
          )
      go (a_block b at) =
          let z : y ≡ stmt.BlockLike x None = m.2 ∙ at in (
            x,
            ap tail_of (out_of y (stmt.BlockLike x None) (Stmt-F.BlockLike x None) z (stmt.outs-BlockLike x None)),
            g.IsTail.expr (inner_of d x m.1) (inr (inl (block_like x b))),
            sym (append-nil (expr_pieces x)) ∙ sym (pieces_block_stmt x None) ∙ ap (λ k. stmt_pieces k) (sym z),
          )
      go (other e at) =
          let z : y ≡ stmt.Expr x None = m.2 ∙ at in (
            x,
            ap tail_of (out_of y (stmt.Expr x None) (Stmt-F.Expr x None) z (stmt.outs-Expr x None)),
            g.IsTail.expr (inner_of d x m.1) (inl e),
            sym (append-nil (expr_pieces x)) ∙ sym (pieces_expr_stmt x None) ∙ ap (λ k. stmt_pieces k) (sym z),
          )

-- ---- to the readers' words

wild_or_not : (d : ℕ) (q : Pat) → IsPat d q → ((t : Token) → opened (pat_pieces q) ≡ t ∷ [] → Is (codes "_") t → ⊥) → is_wild q ≡ false
wild_or_not d q m h = go (out-Pat q) refl
  where
    go : (l : Pat-F Pat) → out-Pat q ≡ l → wild_layer l ≡ false
    go (Pat-F.Wild u) is = absurd (h u (ap (λ k. opened (pat_pieces k)) (same_pat q (pat.Wild u) (is ∙ sym (pat.outs-Wild u))) ∙ ap (λ ys. opened ys) (pieces_wild u) ∙ opened_one u) (wild_is d q u m is))
    go _ is = refl

abbrev pub SentIs : ℕ → Stmt → Type 0
SentIs = Image stmt_group_of (Grp is_stmt_group (λ d y. IsStmt d (IsExpr d) (deeper d) false y) stmt_pieces)

pub kind_stmt : (k : FragmentKind) → stmt_kind k ≡ true → k ≡ fk.Stmt
kind_stmt fk.Stmt h = refl
kind_stmt _ h = cc

let_sides : (d : ℕ) (y : Stmt) (w : Token) (q : Pat) (a : Annotation) (e : Token) (v : Expr) → ((d : ℕ) (x : Pat) → IsPat d x → IsPat (suc d) x) → out-Stmt y ≡ Stmt-F.Let w q a e v None
    → Is (codes "let") w → IsPat d q → IsAnnotation d a → IsNoMention q a → Is (codes "=") e → IsExpr d false v → Image let_of LetParts d y
let_sides d y w q annotation.Nothing e v up o k m n never j i =
    (((w, q), Plain (e, v)), ((k, up d q m), inr (inr (wild_or_not d q m never, (blank_no q never, ((e, v), (j, as_inner d false v i), refl))))), same_stmt y (stmt.Let w q annotation.Nothing e v None) (o ∙ sym (stmt.outs-Let w q annotation.Nothing e v None)))
let_sides d y w q (annotation.Type c ty) e v up o k m n never j i = (
  ((w, q), Typed (c, (ty, (e, v)))),
  ((k, up d q m), inl ((c, (ty, (e, v))), (n.0, (n.1, (j, as_inner d false v i))), refl)),
  same_stmt y (stmt.Let w q (annotation.Type c ty) e v None) (o ∙ sym (stmt.outs-Let w q (annotation.Type c ty) e v None)),
)

mention_sides : (d : ℕ) (y : Stmt) (w u e : Token) (r : Refs) → out-Stmt y ≡ Stmt-F.Mention w u e r None → Is (codes "let") w → Is (codes "_") u → Is (codes "=") e → AreRefs r → Image let_of LetParts d y
mention_sides d y w u e r o k l j m = (
  ((w, pat.Wild u), Mentions (e, r)),
  ((k, make_pat d (pat.Wild u) (pg.PatNode.wild (pat.outs-Wild u) l)), inr (inl (ap wild_layer (pat.outs-Wild u), ((e, r), (j, m), refl)))),
  same_stmt y (stmt.Mention w u e r None) (o ∙ sym (stmt.outs-Mention w u e r None)) ∙ ap (λ t. stmt.Mention w t e r None) (sym (ap (λ l. wild_token w l) (pat.outs-Wild u))),
)

call_sides : (d : ℕ) (y : Stmt) (call : MacroCall) → out-Stmt y ≡ Stmt-F.Stmt::Macro call None → IsMacro call → Image statement_of ExprIs d y
call_sides d y call o m = (made.Macro call, inr (call, m, refl), same_stmt y (stmt.Macro call None) (o ∙ sym (stmt.outs-Macro call None)) ∙ sym (as_call call))

fine_sides : (d : ℕ) (y : Stmt) (x : Expr) → out-Stmt y ≡ Stmt-F.Expr x None → IsExpr d false x → edge x ≡ Fine → Image statement_of ExprIs d y
fine_sides d y x o m e = (x, is_here d x m (fit_by x Fine e refl), same_stmt y (stmt.Expr x None) (o ∙ sym (stmt.outs-Expr x None)) ∙ sym (as_fine x e))

block_sides : (d : ℕ) (y : Stmt) (x : Expr) → out-Stmt y ≡ Stmt-F.BlockLike x None → IsExpr d false x → edge x ≡ BlockLike → Image statement_of ExprIs d y
block_sides d y x o m e = (x, is_here d x m (fit_by x BlockLike e refl), same_stmt y (stmt.BlockLike x None) (o ∙ sym (stmt.outs-BlockLike x None)) ∙ sym (as_block x e))

-- a `;` stands there, or another row may follow without it
abbrev pub closes_row : Option Token → StmtLayer → Bool
closes_row None l = closing l
closes_row (Some t) l = true

abbrev pub whole_stmt : Option Token → Stmt → Stmt
whole_stmt None y = y
whole_stmt (Some t) y = with_semi (out-Stmt y) (Some t)

not_braced : (call : MacroCall) → (Is (codes "{") call.text.open → ⊥) → has_braces call ≡ false
not_braced call h = go (has_braces call) refl
  where
    go : (b : Bool) → has_braces call ≡ b → b ≡ false
    go true at = absurd (h (braces_of call at))
    go false at = refl

braced : (call : MacroCall) → edge (made.Macro call) ≡ Braces → has_braces call ≡ true
braced call h = same (has_braces call) ∙ go (is_spelled (codes "{" ∷ []) call.text.open) (sym (edge_at (made.Macro call) (Expr-F.Expr::Macro call) (made.outs-Macro call)) ∙ h)
  where
    same : (b : Bool) → has_braces call ≡ is_spelled (codes "{" ∷ []) call.text.open
    same b = or_false (has_braces call) ∙ any_sort (word.OpenBrace ∷ []) call.text.open
      where
        or_false : (b : Bool) → b ≡ (b || false)
        or_false true = refl
        or_false false = refl

    go : (b : Bool) → (if b then Braces else Round) ≡ Braces → b ≡ true
    go true h = refl
    go false h = cc

-- a statement with its `;` is one without it, and the `;`
abbrev pub Split : ℕ → Stmt → Type 0
Split d x = (y : Stmt) × (o : Option Token) × Or PlainSides SentIs d y × Maybe (Is (codes ";")) o × (closes_row o (out-Stmt y) ≡ true) × (x ≡ whole_stmt o y)

-- ---- a fragment of the kind `stmt`, without its `;`

none_semi : (b : Bool) (o : Option Token) → b ≡ false → g.HasSemi b o → o ≡ None
none_semi true o z h = cc
none_semi false o z h = h

none_may : (b : Bool) (o : Option Token) → b ≡ false → g.MaySemi b o → o ≡ None
none_may true o z h = cc
none_may false o z h = h

none_end : (b : Bool) (call : MacroCall) (o : Option Token) → b ≡ false → g.EndsCall b call o → o ≡ None
none_end true call o z h = cc
none_end false call o z h = h

only_fine : (b : Bool) (e : Edge) → b ≡ false → (e ≡ Fine) ⊎ ((e ≡ Braces) × (b ≡ true)) → e ≡ Fine
only_fine b e z (inl h) = h
only_fine b e z (inr h) = let never : false ≡ true = sym z ∙ h.1 in cc

module _ (known : (d : ℕ) → Deepens d (suc d)) where
  pub sides_of : (d : ℕ) (b : Bool) (y : Stmt) → b ≡ false → IsStmt d (IsExpr d) (deeper d) b y → Or PlainSides SentIs d y
  sides_of d _ _ z (g.IsStmt.mention {in_block} {x} {word = w} {underscore = u} {equals = e} {list = r} {semi} o k l j m hs) =
      inl (inl (mention_sides d x w u e r (o ∙ ap (λ s. Stmt-F.Mention w u e r s) (none_semi in_block semi z hs)) k l j m))
  sides_of d _ _ z (g.IsStmt.let' {in_block} {x} {word = w} {equals = e} {pat = q} {ty} {value = v} {semi} o k m n never j i hs) =
      inl (inl (let_sides d x w q ty e v (λ d. (known d).pats) (o ∙ ap (λ s. Stmt-F.Let w q ty e v s) (none_semi in_block semi z hs)) k m n never j i))
  sides_of d _ _ z (g.IsStmt.macro {in_block} {x} {call} {semi} o m hs) = inl (inr (call_sides d x call (o ∙ ap (λ s. Stmt-F.Stmt::Macro call s) (none_end in_block call semi z hs)) m))
  sides_of d _ _ z (g.IsStmt.expr {in_block} {x} {value = v} {semi} o m e hs) =
      inl (inr (fine_sides d x v (o ∙ ap (λ s. Stmt-F.Expr v s) (none_semi in_block semi z hs)) m (only_fine in_block (edge v) z e)))
  sides_of d _ _ z (g.IsStmt.block_like {in_block} {x} {value = v} {semi} o m e hs) = inl (inr (block_sides d x v (o ∙ ap (λ s. Stmt-F.BlockLike v s) (none_may in_block semi z hs)) m e))
  sides_of d _ _ z (g.IsStmt.group {in_block} {x} {y} {g = u} {semi} o k ps m hs) =
      inr ((u, y), (ap (λ k. stmt_kind k) k, ps, m), same_stmt x (stmt.Group u y None) (o ∙ ap (λ s. Stmt-F.Stmt::Group u y s) (none_semi in_block semi z hs) ∙ sym (stmt.outs-Group u y None)))

  pub of_sides : (d : ℕ) (y : Stmt) → Or PlainSides SentIs d y → IsStmt (suc d) (IsExpr (suc d)) (deeper (suc d)) false y
  of_sides d y (inl m) = bare_of known d y m
  of_sides d y (inr m) =
      g.IsStmt.group (ap (λ k. out-Stmt k) m.2 ∙ stmt.outs-Group m.0.0 m.0.1 None) (kind_stmt (kind_of m.0.0) m.1.0) m.1.1 (stmt_grows known d false m.0.1 m.1.2) refl

  -- ---- a statement of a block

  some_semi : (o : Option Token) → (t : Token) × (o ≡ Some t) × Is (codes ";") t → Option Token
  some_semi o h = Some h.0

  pub split : (d : ℕ) (b : Bool) (x : Stmt) → b ≡ true → IsStmt d (IsExpr d) (deeper d) b x → Split d x
  split d _ _ z (g.IsStmt.mention {in_block = true} {x} {word = w} {underscore = u} {equals = e} {list = r} {semi} o k l j m hs) =
      let y : Stmt = stmt.Mention w u e r None in (
        y,
        Some hs.0,
        inl (inl (mention_sides d y w u e r (stmt.outs-Mention w u e r None) k l j m)),
        hs.2,
        refl,
        same_stmt x (stmt.Mention w u e r (Some hs.0)) (o ∙ ap (λ s. Stmt-F.Mention w u e r s) hs.1 ∙ sym (stmt.outs-Mention w u e r (Some hs.0))) ∙ ap (λ l. with_semi l (Some hs.0)) (sym (stmt.outs-Mention w u e r None)),
      )
  split d _ _ z (g.IsStmt.mention {in_block = false} o k l j m hs) = cc
  split d _ _ z (g.IsStmt.let' {in_block = true} {x} {word = w} {equals = e} {pat = q} {ty} {value = v} {semi} o k m n never j i hs) =
      let y : Stmt = stmt.Let w q ty e v None in (
        y,
        Some hs.0,
        inl (inl (let_sides d y w q ty e v (λ d. (known d).pats) (stmt.outs-Let w q ty e v None) k m n never j i)),
        hs.2,
        refl,
        same_stmt x (stmt.Let w q ty e v (Some hs.0)) (o ∙ ap (λ s. Stmt-F.Let w q ty e v s) hs.1 ∙ sym (stmt.outs-Let w q ty e v (Some hs.0))) ∙ ap (λ l. with_semi l (Some hs.0)) (sym (stmt.outs-Let w q ty e v None)),
      )
  split d _ _ z (g.IsStmt.let' {in_block = false} o k m n never j i hs) = cc
  split d _ _ z (g.IsStmt.macro {in_block = false} o m hs) = cc
  split d _ _ z (g.IsStmt.macro {in_block = true} {x} {call} {semi} o m (inl hs)) =
      let y : Stmt = stmt.Macro call None in
      let at : out-Stmt y ≡ Stmt-F.Stmt::Macro call None = stmt.outs-Macro call None in (
        y,
        None,
        inl (inr (call_sides d y call at m)),
        tt,
        ap closing at ∙ (sign word.OpenBrace).told call.text.open hs.0,
        same_stmt x y (o ∙ ap (λ s. Stmt-F.Stmt::Macro call s) hs.1 ∙ sym at),
      )
  split d _ _ z (g.IsStmt.macro {in_block = true} {x} {call} {semi} o m (inr hs)) =
      let y : Stmt = stmt.Macro call None in
      let at : out-Stmt y ≡ Stmt-F.Stmt::Macro call None = stmt.outs-Macro call None in
      let t : Token = hs.1.0 in (
        y,
        Some t,
        inl (inr (call_sides d y call at m)),
        hs.1.2,
        refl,
        same_stmt x (stmt.Macro call (Some t)) (o ∙ ap (λ s. Stmt-F.Stmt::Macro call s) hs.1.1 ∙ sym (stmt.outs-Macro call (Some t)))
            ∙ ap (λ b. semi_call b call (Some t)) (sym (not_braced call hs.0)) ∙ ap (λ l. with_semi l (Some t)) (sym at),
      )
  split d _ _ z (g.IsStmt.expr {in_block = false} o m e hs) = cc
  split d _ _ z (g.IsStmt.expr {in_block = true} {x} {value = v} {semi} o m (inl e) hs) =
      let y : Stmt = stmt.Expr v None in (
        y,
        Some hs.0,
        inl (inr (fine_sides d y v (stmt.outs-Expr v None) m e)),
        hs.2,
        refl,
        same_stmt x (stmt.Expr v (Some hs.0)) (o ∙ ap (λ s. Stmt-F.Expr v s) hs.1 ∙ sym (stmt.outs-Expr v (Some hs.0))) ∙ ap (λ l. with_semi l (Some hs.0)) (sym (stmt.outs-Expr v None)),
      )
  split d _ _ z (g.IsStmt.expr {in_block = true} {x} {value = v} {semi} o m (inr e) hs) = braced_split (view d v (is_here d v m (fit_by v Braces e.0 refl)))
    where
      braced_split : View v → Split d x
      braced_split (a_call call at) =
          let y : Stmt = stmt.Macro call None in
          let same : v ≡ made.Macro call = same_expr v (made.Macro call) (at ∙ sym (made.outs-Macro call)) in (
            y,
            Some hs.0,
            inl (inr (call_sides d y call (stmt.outs-Macro call None) (macro_expr d v call m at))),
            hs.2,
            refl,
            same_stmt x (stmt.Expr (made.Macro call) (Some hs.0)) (o ∙ ap (λ s. Stmt-F.Expr v s) hs.1 ∙ ap (λ v. Stmt-F.Expr v (Some hs.0)) same ∙ sym (stmt.outs-Expr (made.Macro call) (Some hs.0)))
                ∙ ap (λ b. semi_call b call (Some hs.0)) (sym (braced call (ap (λ k. edge k) (sym same) ∙ e.0))) ∙ ap (λ l. with_semi l (Some hs.0)) (sym (stmt.outs-Macro call None)),
          )
      braced_split (a_block b at) = let never : BlockLike ≡ Braces = sym (block_like v b) ∙ e.0 in cc
      braced_split (other f at) = let never : Fine ≡ Braces = sym f ∙ e.0 in cc
  split d _ _ z (g.IsStmt.block_like {in_block = false} o m e hs) = cc
  split d _ _ z (g.IsStmt.block_like {in_block = true} {x} {value = v} {semi = None} o m e hs) =
      let y : Stmt = stmt.BlockLike v None in
      (y, None, inl (inr (block_sides d y v (stmt.outs-BlockLike v None) m e)), tt, ap closing (stmt.outs-BlockLike v None), same_stmt x y (o ∙ sym (stmt.outs-BlockLike v None)))
  split d _ _ z (g.IsStmt.block_like {in_block = true} {x} {value = v} {semi = Some t} o m e hs) =
      let y : Stmt = stmt.BlockLike v None in (
        y,
        Some t,
        inl (inr (block_sides d y v (stmt.outs-BlockLike v None) m e)),
        hs,
        refl,
        same_stmt x (stmt.BlockLike v (Some t)) (o ∙ sym (stmt.outs-BlockLike v (Some t))) ∙ ap (λ l. with_semi l (Some t)) (sym (stmt.outs-BlockLike v None)),
      )
  split d _ _ z (g.IsStmt.group {in_block = false} o k ps m hs) = cc
  split d _ _ z (g.IsStmt.group {in_block = true} {x} {y} {g = u} {semi} o k ps m hs) =
      let c : Stmt = stmt.Group u y None in (
        c,
        Some hs.0,
        inr ((u, y), (ap (λ k. stmt_kind k) k, ps, m), refl),
        hs.2,
        refl,
        same_stmt x (stmt.Group u y (Some hs.0)) (o ∙ ap (λ s. Stmt-F.Stmt::Group u y s) hs.1 ∙ sym (stmt.outs-Group u y (Some hs.0))) ∙ ap (λ l. with_semi l (Some hs.0)) (sym (stmt.outs-Group u y None)),
      )
