-- An expression that something goes on with: its layer, and when it may go on.
use Rattle.std.proofs.lemmas.Bool.{le-leb, leb-true, eqb-true}
use Rattle.std.proofs.Common.{◌≡◌, ℕ, suc, ◌≤◌, ◌<◌, nat_le, nat_eq, Bool, true, false, not, ◌&&◌, ◌||◌, if◌then◌else◌, [], ◌∷◌, ◌++◌, refl, sym, ◌∙◌, ap, subst, arith, ◌⊎◌, inl, inr}
use Rattle.std.specs.Prelude.{codes}
use Rattle.em_base.specs.declared.token.Token.{Token}
use Rattle.em_tree.specs.declared.expr.Expr.{Expr, out-Expr}
use Rattle.em_tree.specs.declared.expr.Expr.TheVariants as made
use Rattle.em_tree.specs.declared.expr.Expr.TheOpen.{Expr-F}
use Rattle.em_tree.specs.declared.expr.MacroCall.{MacroCall}
use Rattle.em_tree.specs.Starts.{Pieces, is_spelled}
use Rattle.em_tree.specs.ExprShape.{Edge, Fine, BlockLike, Braces, Round, PastBlock, PastBraces, dotted, past, strength, strength_of, operator_strength, edge, ends_open}
use Rattle.em_tree.specs.ExprGrammar as g
use Rattle.em_tree.specs.ExprGrammar.{IsExpr, IsOperand, AtLeast, Operand, left_strength, assignments, expr_pieces}
use Rattle.em_grammar.specs.declared.sort.Written.TheVariants as word
use Rattle.em_grammar.specs.declared.sort.Sort.{Sort}
use Rattle.em_grammar.specs.Sorts.{sort_of}
use Rattle.em_grammar.specs.Sets.{next, only, implies, all_sorts}
use Rattle.em_grammar.specs.ExprSets.{Layer, Start, Anywhere, InArm, InBlock, op_binds, op_sort, assigns, assign_sort, binds, needs, has_braces, must_dot, is_field, fits, goes_on, on}
use Rattle.em_grammar.specs.ExprReader.{Suffix, Right, Becomes, Method, Args, Member, Number, At, apply, suffix_pieces}
use Rattle.em_grammar.specs.ExprLang.{IsSuffix, Node, edge_fits}
use Rattle.em_grammar.specs.ExprParts.{is_prefix}
use Rattle.em_grammar.proofs.AllSorts.{sort_at, and-left, and-right}
use Rattle.em_grammar.proofs.Tests.{sign, any_sort, several}
use Rattle.em_grammar.proofs.ExprLayers.{same_expr, pieces_binary, pieces_assign, pieces_method, pieces_call, pieces_field, pieces_place, pieces_index}
use Rattle.em_grammar.proofs.ExprFacts.{edge_layer, edge_at}
use Rattle.em_grammar.proofs.ExprForms.{to_items, of_items, as_inner}

-- ---- the layer

abbrev pub apply_layer : Expr → Suffix → Layer
apply_layer x (Right op y) = Expr-F.Binary x op y
apply_layer x (Becomes op y) = Expr-F.Assign x op y
apply_layer x (Method dot name o xs c) = Expr-F.MethodCall x dot name o xs c
apply_layer x (Args o xs c) = Expr-F.Call x o xs c
apply_layer x (Member dot name) = Expr-F.Field x dot name
apply_layer x (Number dot number) = Expr-F.Place x dot number
apply_layer x (At o y c) = Expr-F.Index x o y c

pub out_apply : (x : Expr) (s : Suffix) → out-Expr (apply x s) ≡ apply_layer x s
out_apply x (Right op y) = made.outs-Binary x op y
out_apply x (Becomes op y) = made.outs-Assign x op y
out_apply x (Method dot name o xs c) = made.outs-MethodCall x dot name o xs c
out_apply x (Args o xs c) = made.outs-Call x o xs c
out_apply x (Member dot name) = made.outs-Field x dot name
out_apply x (Number dot number) = made.outs-Place x dot number
out_apply x (At o y c) = made.outs-Index x o y c

pub yield_apply : (x : Expr) (s : Suffix) → expr_pieces (apply x s) ≡ expr_pieces x ++ suffix_pieces s
yield_apply x (Right op y) = pieces_binary x op y
yield_apply x (Becomes op y) = pieces_assign x op y
yield_apply x (Method dot name o xs c) = pieces_method x dot name o xs c
yield_apply x (Args o xs c) = pieces_call x o xs c
yield_apply x (Member dot name) = pieces_field x dot name
yield_apply x (Number dot number) = pieces_place x dot number
yield_apply x (At o y c) = pieces_index x o y c

abbrev pub head_token : Suffix → Token
head_token (Right op y) = op
head_token (Becomes op y) = op
head_token (Method dot name o xs c) = dot
head_token (Args o xs c) = o
head_token (Member dot name) = dot
head_token (Number dot number) = dot
head_token (At o y c) = o

-- how tightly it binds
abbrev pub suffix_strength : Suffix → ℕ
suffix_strength (Right op y) = op_binds (sort_of op)
suffix_strength (Becomes op y) = 3
suffix_strength _ = 14

abbrev pub is_dotted : Suffix → Bool
is_dotted (Method dot name o xs c) = true
is_dotted (Member dot name) = true
is_dotted (Number dot number) = true
is_dotted _ = false

abbrev pub is_args : Suffix → Bool
is_args (Args o xs c) = true
is_args _ = false

pub next_head : (start : Start) (least : ℕ) (x : Expr) (s : Suffix) (r : Pieces) → next (on start least x) (suffix_pieces s ++ r) ≡ goes_on start least x (sort_of (head_token s))
next_head start least x (Right op y) r = refl
next_head start least x (Becomes op y) r = refl
next_head start least x (Method dot name o xs c) r = refl
next_head start least x (Args o xs c) r = refl
next_head start least x (Member dot name) r = refl
next_head start least x (Number dot number) r = refl
next_head start least x (At o y c) r = refl

-- ---- sorts

pick : (a b : Bool) → implies a b ≡ true → a ≡ true → b ≡ true
pick true b h is = h
pick false b h is = cc

op_binds_so : (k : Sort) → op_sort k ≡ true → binds k ≡ op_binds k
op_binds_so k h = eqb-true (binds k) (op_binds k) (pick (op_sort k) (nat_eq (binds k) (op_binds k)) (sort_at (λ k. implies (op_sort k) (nat_eq (binds k) (op_binds k))) k refl) h)

op_needs : (k : Sort) → op_sort k ≡ true → needs (op_binds k) ≡ left_strength (op_binds k)
op_needs k h = eqb-true (needs (op_binds k)) (left_strength (op_binds k)) (pick (op_sort k) _ (sort_at (λ k. implies (op_sort k) (nat_eq (needs (op_binds k)) (left_strength (op_binds k)))) k refl) h)

assign_binds : (k : Sort) → assign_sort k ≡ true → binds k ≡ 3
assign_binds k h = eqb-true (binds k) 3 (pick (assign_sort k) (nat_eq (binds k) 3) (sort_at (λ k. implies (assign_sort k) (nat_eq (binds k) 3)) k refl) h)

dot_binds : (k : Sort) → only word.Dot k ≡ true → binds k ≡ 14
dot_binds k h = eqb-true (binds k) 14 (pick (only word.Dot k) (nat_eq (binds k) 14) (sort_at (λ k. implies (only word.Dot k) (nat_eq (binds k) 14)) k refl) h)

paren_binds : (k : Sort) → only word.OpenParen k ≡ true → binds k ≡ 14
paren_binds k h = eqb-true (binds k) 14 (pick (only word.OpenParen k) (nat_eq (binds k) 14) (sort_at (λ k. implies (only word.OpenParen k) (nat_eq (binds k) 14)) k refl) h)

bracket_binds : (k : Sort) → only word.OpenBracket k ≡ true → binds k ≡ 14
bracket_binds k h = eqb-true (binds k) 14 (pick (only word.OpenBracket k) (nat_eq (binds k) 14) (sort_at (λ k. implies (only word.OpenBracket k) (nat_eq (binds k) 14)) k refl) h)

-- what else a sort is not
apart_at : (f g : Sort → Bool) → all_sorts (λ k. implies (f k) (not (g k))) ≡ true → (k : Sort) → f k ≡ true → g k ≡ false
apart_at f g all k h = go (g k) refl
  where
    go : (b : Bool) → g k ≡ b → b ≡ false
    go true is = let never : not (g k) ≡ true = pick (f k) (not (g k)) (sort_at (λ k. implies (f k) (not (g k))) k all) h in let bad : not true ≡ true = subst (λ b. not b ≡ true) is never in cc
    go false is = refl

pub op_same : (t : Token) → op_binds (sort_of t) ≡ operator_strength t
op_same t =
    rw (
      any_sort (word.Star ∷ word.Slash ∷ word.Percent ∷ []) t,
      any_sort (word.Plus ∷ word.Minus ∷ []) t,
      any_sort (word.Shl ∷ word.Shr ∷ []) t,
      any_sort (word.And ∷ []) t,
      any_sort (word.Caret ∷ []) t,
      any_sort (word.Or ∷ []) t,
      any_sort (word.EqEq ∷ word.Ne ∷ word.Lt ∷ word.Gt ∷ word.Le ∷ word.Ge ∷ []) t,
      any_sort (word.AndAnd ∷ []) t,
      any_sort (word.OrOr ∷ []) t,
    ) refl

pub strength_apply : (x : Expr) (s : Suffix) → strength (apply x s) ≡ suffix_strength s
strength_apply x (Right op y) = ap (λ l. strength_of l) (out_apply x (Right op y)) ∙ sym (op_same op)
strength_apply x (Becomes op y) = ap (λ l. strength_of l) (out_apply x (Becomes op y))
strength_apply x (Method dot name o xs c) = ap (λ l. strength_of l) (out_apply x (Method dot name o xs c))
strength_apply x (Args o xs c) = ap (λ l. strength_of l) (out_apply x (Args o xs c))
strength_apply x (Member dot name) = ap (λ l. strength_of l) (out_apply x (Member dot name))
strength_apply x (Number dot number) = ap (λ l. strength_of l) (out_apply x (Number dot number))
strength_apply x (At o y c) = ap (λ l. strength_of l) (out_apply x (At o y c))

-- what a suffix begins with: it binds so tightly, and is a `.` or a `(` where it should be
pub head_binds : (h : Bool) (d : ℕ) (s : Suffix) → IsSuffix h d s
    → (binds (sort_of (head_token s)) ≡ suffix_strength s) × (only word.Dot (sort_of (head_token s)) ≡ is_dotted s) × (only word.OpenParen (sort_of (head_token s)) ≡ is_args s) × (3 ≤ suffix_strength s)
head_binds h d (Right op y) m = (
  op_binds_so (sort_of op) m.0,
  apart_at op_sort (only word.Dot) refl (sort_of op) m.0,
  apart_at op_sort (only word.OpenParen) refl (sort_of op) m.0,
  leb-true 3 (op_binds (sort_of op)) (pick (op_sort (sort_of op)) (nat_le 3 (op_binds (sort_of op))) (sort_at (λ k. implies (op_sort k) (nat_le 3 (op_binds k))) (sort_of op) refl) m.0),
)
head_binds h d (Becomes op y) m =
    (assign_binds (sort_of op) m.0, apart_at assign_sort (only word.Dot) refl (sort_of op) m.0, apart_at assign_sort (only word.OpenParen) refl (sort_of op) m.0, omega arith)
head_binds h d (Method dot name o xs c) m = let k = (sign word.Dot).told dot m.0 in (dot_binds (sort_of dot) k, k, apart_at (only word.Dot) (only word.OpenParen) refl (sort_of dot) k, omega arith)
head_binds h d (Args o xs c) m = let k = (sign word.OpenParen).told o m.0 in (paren_binds (sort_of o) k, apart_at (only word.OpenParen) (only word.Dot) refl (sort_of o) k, k, omega arith)
head_binds h d (Member dot name) m = let k = (sign word.Dot).told dot m.0 in (dot_binds (sort_of dot) k, k, apart_at (only word.Dot) (only word.OpenParen) refl (sort_of dot) k, omega arith)
head_binds h d (Number dot number) m = let k = (sign word.Dot).told dot m.0 in (dot_binds (sort_of dot) k, k, apart_at (only word.Dot) (only word.OpenParen) refl (sort_of dot) k, omega arith)
head_binds h d (At o y c) m =
    let k = (sign word.OpenBracket).told o m.0 in
    (bracket_binds (sort_of o) k, apart_at (only word.OpenBracket) (only word.Dot) refl (sort_of o) k, apart_at (only word.OpenBracket) (only word.OpenParen) refl (sort_of o) k, omega arith)

-- ---- edges

abbrev stops_at : Start → Edge → Bool
stops_at Anywhere e = false
stops_at InArm BlockLike = true
stops_at InArm _ = false
stops_at InBlock BlockLike = true
stops_at InBlock Braces = true
stops_at InBlock _ = false

no_stop_dotted : (start : Start) (e : Edge) → stops_at start (dotted e) ≡ false
no_stop_dotted Anywhere e = refl
no_stop_dotted InArm Fine = refl
no_stop_dotted InArm BlockLike = refl
no_stop_dotted InArm Braces = refl
no_stop_dotted InArm Round = refl
no_stop_dotted InArm PastBlock = refl
no_stop_dotted InArm PastBraces = refl
no_stop_dotted InBlock Fine = refl
no_stop_dotted InBlock BlockLike = refl
no_stop_dotted InBlock Braces = refl
no_stop_dotted InBlock Round = refl
no_stop_dotted InBlock PastBlock = refl
no_stop_dotted InBlock PastBraces = refl

no_stop_past : (start : Start) (e : Edge) → stops_at start (past e) ≡ false
no_stop_past Anywhere e = refl
no_stop_past InArm Fine = refl
no_stop_past InArm BlockLike = refl
no_stop_past InArm Braces = refl
no_stop_past InArm Round = refl
no_stop_past InArm PastBlock = refl
no_stop_past InArm PastBraces = refl
no_stop_past InBlock Fine = refl
no_stop_past InBlock BlockLike = refl
no_stop_past InBlock Braces = refl
no_stop_past InBlock Round = refl
no_stop_past InBlock PastBlock = refl
no_stop_past InBlock PastBraces = refl

braces_same : (call : MacroCall) → has_braces call ≡ is_spelled (codes "{" ∷ []) call.text.open
braces_same call = or_false (has_braces call) ∙ any_sort (word.OpenBrace ∷ []) call.text.open
  where
    or_false : (b : Bool) → b ≡ (b || false)
    or_false true = refl
    or_false false = refl

call_stops : (start : Start) (call : MacroCall) → must_dot start (Expr-F.Expr::Macro call) ≡ stops_at start (edge_layer (Expr-F.Expr::Macro call))
call_stops Anywhere call = refl
call_stops InArm call = go (is_spelled (codes "{" ∷ []) call.text.open)
  where
    go : (b : Bool) → false ≡ stops_at InArm (if b then Braces else Round)
    go true = refl
    go false = refl
call_stops InBlock call = braces_same call ∙ go (is_spelled (codes "{" ∷ []) call.text.open)
  where
    go : (b : Bool) → b ≡ stops_at InBlock (if b then Braces else Round)
    go true = refl
    go false = refl

layer_stops : (start : Start) (l : Layer) → must_dot start l ≡ stops_at start (edge_layer l)
layer_stops start (Expr-F.Expr::Macro call) = call_stops start call
layer_stops start (Expr-F.MethodCall y dot name o xs c) = no_dot start ∙ sym (no_stop_dotted start (edge y))
  where
    no_dot : (start : Start) → must_dot start (Expr-F.MethodCall y dot name o xs c) ≡ false
    no_dot Anywhere = refl
    no_dot InArm = refl
    no_dot InBlock = refl
layer_stops start (Expr-F.Field y dot name) = no_dot start ∙ sym (no_stop_dotted start (edge y))
  where
    no_dot : (start : Start) → must_dot start (Expr-F.Field y dot name) ≡ false
    no_dot Anywhere = refl
    no_dot InArm = refl
    no_dot InBlock = refl
layer_stops start (Expr-F.Place y dot number) = no_dot start ∙ sym (no_stop_dotted start (edge y))
  where
    no_dot : (start : Start) → must_dot start (Expr-F.Place y dot number) ≡ false
    no_dot Anywhere = refl
    no_dot InArm = refl
    no_dot InBlock = refl
layer_stops start (Expr-F.Call y o xs c) = no_dot start ∙ sym (no_stop_past start (edge y))
  where
    no_dot : (start : Start) → must_dot start (Expr-F.Call y o xs c) ≡ false
    no_dot Anywhere = refl
    no_dot InArm = refl
    no_dot InBlock = refl
layer_stops start (Expr-F.Index y o z c) = no_dot start ∙ sym (no_stop_past start (edge y))
  where
    no_dot : (start : Start) → must_dot start (Expr-F.Index y o z c) ≡ false
    no_dot Anywhere = refl
    no_dot InArm = refl
    no_dot InBlock = refl
layer_stops start (Expr-F.Binary y op z) = no_dot start ∙ sym (no_stop_past start (edge y))
  where
    no_dot : (start : Start) → must_dot start (Expr-F.Binary y op z) ≡ false
    no_dot Anywhere = refl
    no_dot InArm = refl
    no_dot InBlock = refl
layer_stops start (Expr-F.Assign y op z) = no_dot start ∙ sym (no_stop_past start (edge y))
  where
    no_dot : (start : Start) → must_dot start (Expr-F.Assign y op z) ≡ false
    no_dot Anywhere = refl
    no_dot InArm = refl
    no_dot InBlock = refl
layer_stops Anywhere _ = refl
layer_stops InArm _ = refl
layer_stops InBlock _ = refl

pub stops : (start : Start) (x : Expr) → must_dot start (out-Expr x) ≡ stops_at start (edge x)
stops start x = layer_stops start (out-Expr x) ∙ ap (λ e. stops_at start e) (sym (edge_at x (out-Expr x) refl))

abbrev next_edge : Bool → Edge → Edge
next_edge true e = dotted e
next_edge false e = past e

edge_apply : (x : Expr) (s : Suffix) → edge (apply x s) ≡ next_edge (is_dotted s) (edge x)
edge_apply x (Right op y) = edge_at (apply x (Right op y)) (apply_layer x (Right op y)) (out_apply x (Right op y))
edge_apply x (Becomes op y) = edge_at (apply x (Becomes op y)) (apply_layer x (Becomes op y)) (out_apply x (Becomes op y))
edge_apply x (Method dot name o xs c) = edge_at (apply x (Method dot name o xs c)) (apply_layer x (Method dot name o xs c)) (out_apply x (Method dot name o xs c))
edge_apply x (Args o xs c) = edge_at (apply x (Args o xs c)) (apply_layer x (Args o xs c)) (out_apply x (Args o xs c))
edge_apply x (Member dot name) = edge_at (apply x (Member dot name)) (apply_layer x (Member dot name)) (out_apply x (Member dot name))
edge_apply x (Number dot number) = edge_at (apply x (Number dot number)) (apply_layer x (Number dot number)) (out_apply x (Number dot number))
edge_apply x (At o y c) = edge_at (apply x (At o y c)) (apply_layer x (At o y c)) (out_apply x (At o y c))

-- where it may go on, it stays fit
fits_next : (start : Start) (e : Edge) (b : Bool) → edge_fits start e ≡ true → (not (stops_at start e) || b) ≡ true → edge_fits start (next_edge b e) ≡ true
fits_next InArm Fine true h k = refl
fits_next InArm Fine false h k = refl
fits_next InArm BlockLike true h k = refl
fits_next InArm BlockLike false h k = cc
fits_next InArm Braces true h k = refl
fits_next InArm Braces false h k = refl
fits_next InArm Round true h k = refl
fits_next InArm Round false h k = refl
fits_next InArm PastBlock true h k = cc
fits_next InArm PastBlock false h k = cc
fits_next InArm PastBraces true h k = refl
fits_next InArm PastBraces false h k = refl
fits_next InBlock Fine true h k = refl
fits_next InBlock Fine false h k = refl
fits_next InBlock BlockLike true h k = refl
fits_next InBlock BlockLike false h k = cc
fits_next InBlock Braces true h k = refl
fits_next InBlock Braces false h k = cc
fits_next InBlock Round true h k = refl
fits_next InBlock Round false h k = refl
fits_next InBlock PastBlock true h k = cc
fits_next InBlock PastBlock false h k = cc
fits_next InBlock PastBraces true h k = cc
fits_next InBlock PastBraces false h k = cc
fits_next Anywhere e b h k = refl

next_fits : (start : Start) (e : Edge) (b : Bool) → edge_fits start (next_edge b e) ≡ true → (edge_fits start e ≡ true) × ((not (stops_at start e) || b) ≡ true)
next_fits InArm Fine true h = (refl, refl)
next_fits InArm Fine false h = (refl, refl)
next_fits InArm BlockLike true h = (refl, refl)
next_fits InArm BlockLike false h = cc
next_fits InArm Braces true h = (refl, refl)
next_fits InArm Braces false h = (refl, refl)
next_fits InArm Round true h = (refl, refl)
next_fits InArm Round false h = (refl, refl)
next_fits InArm PastBlock true h = cc
next_fits InArm PastBlock false h = cc
next_fits InArm PastBraces true h = (refl, refl)
next_fits InArm PastBraces false h = (refl, refl)
next_fits InBlock Fine true h = (refl, refl)
next_fits InBlock Fine false h = (refl, refl)
next_fits InBlock BlockLike true h = (refl, refl)
next_fits InBlock BlockLike false h = cc
next_fits InBlock Braces true h = (refl, refl)
next_fits InBlock Braces false h = cc
next_fits InBlock Round true h = (refl, refl)
next_fits InBlock Round false h = (refl, refl)
next_fits InBlock PastBlock true h = cc
next_fits InBlock PastBlock false h = cc
next_fits InBlock PastBraces true h = cc
next_fits InBlock PastBraces false h = cc
next_fits Anywhere e b h = (refl, refl)

-- ---- going on

pub record Goes (start : Start) (least : ℕ) (x : Expr) (k : Sort) : Type 0 where
  pub low : 1 ≤ binds k
  pub enough : least ≤ binds k
  pub strong : needs (binds k) ≤ strength x
  pub shut : ends_open x ≡ false
  pub fit : fits start (out-Expr x) k ≡ true

not_so : (b : Bool) → not b ≡ true → b ≡ false
not_so true h = sym h
not_so false h = refl

so_not : (b : Bool) → b ≡ false → not b ≡ true
so_not true h = sym h
so_not false h = refl

pub goes_is : (start : Start) (least : ℕ) (x : Expr) (k : Sort) → goes_on start least x k ≡ true → Goes start least x k
goes_is start least x k h =
    let h1 = and-right _ _ h in
    let h2 = and-right _ _ h1 in
    let h3 = and-right _ _ h2 in
    record {
      low = leb-true 1 (binds k) (and-left _ _ h);
      enough = leb-true least (binds k) (and-left _ _ h1);
      strong = leb-true (needs (binds k)) (strength x) (and-left _ _ h2);
      shut = not_so (ends_open x) (and-left _ _ h3);
      fit = and-right _ _ h3;
    }

pub is_goes : (start : Start) (least : ℕ) (x : Expr) (k : Sort) → Goes start least x k → goes_on start least x k ≡ true
is_goes start least x k a = rw (le-leb 1 (binds k) a.low, le-leb least (binds k) a.enough, le-leb (needs (binds k)) (strength x) a.strong, a.shut, a.fit) refl

-- ---- nodes

abbrev call_fits : Expr → Suffix → Bool
call_fits x s = not (is_field (out-Expr x)) || not (is_args s)

no_field : (x : Expr) → not (is_field (out-Expr x)) ≡ true → (z : Expr) (dot name : Token) → out-Expr x ≡ Expr-F.Field z dot name → ⊥
no_field x h z dot name is = let bad : not true ≡ true = subst (λ l. not (is_field l) ≡ true) is h in cc

field_not : (x : Expr) (l : Layer) → out-Expr x ≡ l → ((z : Expr) (dot name : Token) → out-Expr x ≡ Expr-F.Field z dot name → ⊥) → not (is_field l) ≡ true
field_not x (Expr-F.Field z dot name) is h = absurd (h z dot name is)
field_not x _ is h = refl

pub apply_node : (h : Bool) (d : ℕ) (x : Expr) (s : Suffix) → IsExpr d h x → needs (suffix_strength s) ≤ strength x → ends_open x ≡ false → call_fits x s ≡ true → IsSuffix h d s → Node d h (apply x s)
apply_node h d x (Right op y) m n e f k =
    let left : left_strength (operator_strength op) ≤ strength x = subst (λ q. left_strength q ≤ strength x) (op_same op) (subst (λ q. q ≤ strength x) (op_needs (sort_of op) k.0) n) in
    let low : 0 < operator_strength op = subst (λ q. 0 < q) (op_same op) (leb-true 1 (op_binds (sort_of op)) k.0) in
    g.ExprNode.binary (out_apply x (Right op y)) low (m, left, e) (k.1.0, subst (λ q. IsOperand (suc q) y) (op_same op) k.1.1)
apply_node h d x (Becomes op y) m n e f k = g.ExprNode.assign (out_apply x (Becomes op y)) ((several assigns).holds op k.0) (m, n, e) (k.1.0, k.1.1)
apply_node h d x (Method dot name o xs c) m n e f k = g.ExprNode.method_call (out_apply x (Method dot name o xs c)) (m, n, e) k.0 k.1 k.2 (to_items d xs k.3) k.4
apply_node h d x (Args o xs c) m n e f k = g.ExprNode.call (out_apply x (Args o xs c)) (m, n, e) (no_field x (no_args (not (is_field (out-Expr x))) f)) k.0 (to_items d xs k.1) k.2
  where
    no_args : (b : Bool) → (b || false) ≡ true → b ≡ true
    no_args true h = refl
    no_args false h = h
apply_node h d x (Member dot name) m n e f k = g.ExprNode.field (out_apply x (Member dot name)) (m, n, e) k.0 k.1
apply_node h d x (Number dot number) m n e f k = g.ExprNode.place (out_apply x (Number dot number)) (m, n, e) k.0 k.1
apply_node h d x (At o y c) m n e f k = g.ExprNode.index (out_apply x (At o y c)) (m, n, e) k.0 k.1.0 k.2

pub record Cut (h : Bool) (d : ℕ) (x : Expr) : Type 0 where
  pub left : Expr
  pub rest : Suffix
  pub inside : IsExpr d h left
  pub strong : needs (suffix_strength rest) ≤ strength left
  pub shut : ends_open left ≡ false
  pub fit : call_fits left rest ≡ true
  pub is_rest : IsSuffix h d rest
  pub whole : x ≡ apply left rest

any_fits : (b : Bool) → (b || true) ≡ true
any_fits true = refl
any_fits false = refl

args_fit : (b : Bool) → b ≡ true → (b || false) ≡ true
args_fit true h = refl
args_fit false h = h

-- it is a form that nothing went on with, or it is cut where the last thing went on
pub cut_node : (h : Bool) (d : ℕ) (x : Expr) → Node d h x → (is_prefix (out-Expr x) ≡ true) ⊎ Cut h d x
cut_node h d x (g.ExprNode.literal is m) = inl (ap (λ l. is_prefix l) is)
cut_node h d x (g.ExprNode.path is m) = inl (ap (λ l. is_prefix l) is)
cut_node h d x (g.ExprNode.struct is m a b e) = inl (ap (λ l. is_prefix l) is)
cut_node h d x (g.ExprNode.paren is a m e) = inl (ap (λ l. is_prefix l) is)
cut_node h d x (g.ExprNode.array is a m e) = inl (ap (λ l. is_prefix l) is)
cut_node h d x (g.ExprNode.repeat is a m b n e) = inl (ap (λ l. is_prefix l) is)
cut_node h d x (g.ExprNode.block is m) = inl (ap (λ l. is_prefix l) is)
cut_node h d x (g.ExprNode.if' is a m n l j) = inl (ap (λ l. is_prefix l) is)
cut_node h d x (g.ExprNode.match is a m b n e) = inl (ap (λ l. is_prefix l) is)
cut_node h d x (g.ExprNode.while is a m n) = inl (ap (λ l. is_prefix l) is)
cut_node h d x (g.ExprNode.loop is a n) = inl (ap (λ l. is_prefix l) is)
cut_node h d x (g.ExprNode.for' is a m n l j) = inl (ap (λ l. is_prefix l) is)
cut_node h d x (g.ExprNode.closure is a m n) = inl (ap (λ l. is_prefix l) is)
cut_node h d x (g.ExprNode.closure_to is a m n l j) = inl (ap (λ l. is_prefix l) is)
cut_node h d x (g.ExprNode.macro is m) = inl (ap (λ l. is_prefix l) is)
cut_node h d x (g.ExprNode.return is a m) = inl (ap (λ l. is_prefix l) is)
cut_node h d x (g.ExprNode.break is m) = inl (ap (λ l. is_prefix l) is)
cut_node h d x (g.ExprNode.continue is m) = inl (ap (λ l. is_prefix l) is)
cut_node h d x (g.ExprNode.unary' is a m) = inl (ap (λ l. is_prefix l) is)
cut_node h d x (g.ExprNode.ref is a b m) = inl (ap (λ l. is_prefix l) is)
cut_node h d x (g.ExprNode.ref_ref is a b m n) = inl (ap (λ l. is_prefix l) is)
cut_node h d x (g.ExprNode.group is k ps m) = inl (ap (λ l. is_prefix l) is)
cut_node h d _ (g.ExprNode.method_call {x} {y} {dot} {name} {open' = o} {close = c} {arguments = xs} is m a b e n k) =
    inr (record { left = y; rest = Method dot name o xs c; inside = m.0; strong = m.1; shut = m.2; fit = any_fits (not (is_field (out-Expr y))); is_rest = (a, b, e, of_items d xs n, k); whole = same_expr x (apply y (Method dot name o xs c)) (is ∙ sym (out_apply y (Method dot name o xs c))) })
cut_node h d _ (g.ExprNode.call {x} {y} {open' = o} {close = c} {arguments = xs} is m f a b e) =
    inr (record { left = y; rest = Args o xs c; inside = m.0; strong = m.1; shut = m.2; fit = args_fit (not (is_field (out-Expr y))) (field_not y (out-Expr y) refl f); is_rest = (a, of_items d xs b, e); whole = same_expr x (apply y (Args o xs c)) (is ∙ sym (out_apply y (Args o xs c))) })
cut_node h d _ (g.ExprNode.field {x} {y} {dot} {name} is m a b) =
    inr (record { left = y; rest = Member dot name; inside = m.0; strong = m.1; shut = m.2; fit = any_fits (not (is_field (out-Expr y))); is_rest = (a, b); whole = same_expr x (apply y (Member dot name)) (is ∙ sym (out_apply y (Member dot name))) })
cut_node h d _ (g.ExprNode.place {x} {y} {dot} {number} is m a b) =
    inr (record { left = y; rest = Number dot number; inside = m.0; strong = m.1; shut = m.2; fit = any_fits (not (is_field (out-Expr y))); is_rest = (a, b); whole = same_expr x (apply y (Number dot number)) (is ∙ sym (out_apply y (Number dot number))) })
cut_node h d _ (g.ExprNode.index {x} {y} {z} {open' = o} {close = c} is m a b e) =
    inr (record { left = y; rest = At o z c; inside = m.0; strong = m.1; shut = m.2; fit = any_fits (not (is_field (out-Expr y))); is_rest = (a, as_inner d false z b, e); whole = same_expr x (apply y (At o z c)) (is ∙ sym (out_apply y (At o z c))) })
cut_node h d _ (g.ExprNode.binary {x} {y} {z} {operator = op} is low m n) =
    let known : op_sort (sort_of op) ≡ true = le-leb 1 (op_binds (sort_of op)) (subst (λ q. 1 ≤ q) (sym (op_same op)) low) in
    inr (record {
      left = y;
      rest = Right op z;
      inside = m.0;
      strong = subst (λ q. q ≤ strength y) (sym (op_needs (sort_of op) known)) (subst (λ q. left_strength q ≤ strength y) (sym (op_same op)) m.1);
      shut = m.2;
      fit = any_fits (not (is_field (out-Expr y)));
      is_rest = (known, (n.0, subst (λ q. IsOperand (suc q) z) (sym (op_same op)) n.1, refl));
      whole = same_expr x (apply y (Right op z)) (is ∙ sym (out_apply y (Right op z)));
    })
cut_node h d _ (g.ExprNode.assign {x} {y} {z} {operator = op} is a m n) =
    inr (record {
      left = y;
      rest = Becomes op z;
      inside = m.0;
      strong = m.1;
      shut = m.2;
      fit = any_fits (not (is_field (out-Expr y)));
      is_rest = ((several assigns).told op a, (n.0, n.1, refl));
      whole = same_expr x (apply y (Becomes op z)) (is ∙ sym (out_apply y (Becomes op z)));
    })

-- ---- when something goes on

not_or : (a b : Bool) → (not a || b) ≡ true → a ≡ true → b ≡ true
not_or true b h is = h
not_or false b h is = cc

-- what stands there goes on, so the whole is fit too
pub fit_whole : (start : Start) (least : ℕ) (h : Bool) (d : ℕ) (x : Expr) (s : Suffix) → IsSuffix h d s → edge_fits start (edge x) ≡ true → Goes start least x (sort_of (head_token s))
    → (call_fits x s ≡ true) × (edge_fits start (edge (apply x s)) ≡ true)
fit_whole start least h d x s m e a =
    let k = head_binds h d s m in (
      calls (is_field (out-Expr x)) (is_args s) (subst (λ b. not (is_field (out-Expr x) && b) ≡ true) k.2 (and-left _ _ a.fit)),
      subst (λ e. edge_fits start e ≡ true) (sym (edge_apply x s))
          (fits_next start (edge x) (is_dotted s) e (subst (λ b. (not b || is_dotted s) ≡ true) (stops start x) (subst (λ b. (not (must_dot start (out-Expr x)) || b) ≡ true) k.1 (and-right _ _ a.fit)))),
    )
  where
    calls : (a b : Bool) → not (a && b) ≡ true → (not a || not b) ≡ true
    calls true b h = h
    calls false b h = refl

-- what went on with the left side may go on with it
pub fit_left : (start : Start) (least : ℕ) (h : Bool) (d : ℕ) (x : Expr) (s : Suffix) → IsSuffix h d s → edge_fits start (edge (apply x s)) ≡ true → least ≤ suffix_strength s
    → needs (suffix_strength s) ≤ strength x → ends_open x ≡ false → call_fits x s ≡ true → (edge_fits start (edge x) ≡ true) × Goes start least x (sort_of (head_token s))
fit_left start least h d x s m e low n shut f =
    let k = head_binds h d s m in
    let q = next_fits start (edge x) (is_dotted s) (subst (λ e. edge_fits start e ≡ true) (edge_apply x s) e) in (
      q.0,
      record {
        low = subst (λ b. 1 ≤ b) (sym k.0) (omega (arith, k.3));
        enough = subst (λ b. least ≤ b) (sym k.0) low;
        strong = subst (λ b. needs b ≤ strength x) (sym k.0) n;
        shut = shut;
        fit = and_two _ _ (calls (is_field (out-Expr x)) (is_args s) f k.2) (dots (subst (λ b. (not b || is_dotted s) ≡ true) (sym (stops start x)) q.1) k.1);
      },
    )
  where
    and_two : (a b : Bool) → a ≡ true → b ≡ true → (a && b) ≡ true
    and_two true b p q = q
    and_two false b p q = p

    calls : (a b : Bool) → (not a || not b) ≡ true → only word.OpenParen (sort_of (head_token s)) ≡ b → not (a && only word.OpenParen (sort_of (head_token s))) ≡ true
    calls true b h is = ap (λ c. not c) is ∙ h
    calls false b h is = refl

    dots : (not (must_dot start (out-Expr x)) || is_dotted s) ≡ true → only word.Dot (sort_of (head_token s)) ≡ is_dotted s → (not (must_dot start (out-Expr x)) || only word.Dot (sort_of (head_token s))) ≡ true
    dots h is = ap (λ b. not (must_dot start (out-Expr x)) || b) is ∙ h
