-- The rows of a block as statements, and the block that they make.
use Rattle.std.proofs.lemmas.List.{append-nil}
use Rattle.std.proofs.Common.{◌≡◌, ℕ, zero, suc, Bool, true, false, not, ◌||◌, if◌then◌else◌, List, [], ◌∷◌, ◌++◌, length, Option, Some, None, refl, sym, ap, subst, ◌∙◌, append_assoc}
use Rattle.em_base.specs.declared.token.Token.{Token}
use Rattle.em_tree.specs.declared.pat.Pat.{Pat}
use Rattle.em_tree.specs.declared.piece.Group.{Group}
use Rattle.em_tree.specs.declared.expr.Annotation.{Annotation}
use Rattle.em_tree.specs.declared.expr.Block.{Block}
use Rattle.em_tree.specs.declared.expr.Body.{Body}
use Rattle.em_tree.specs.declared.expr.MacroCall.{MacroCall}
use Rattle.em_tree.specs.declared.expr.Refs.{Refs}
use Rattle.em_tree.specs.declared.expr.Expr.{Expr, out-Expr}
use Rattle.em_tree.specs.declared.expr.Expr.TheOpen.{Expr-F, Stmt-F}
use Rattle.em_tree.specs.declared.expr.Expr.TheVariants as made
use Rattle.em_tree.specs.declared.expr.Stmt.{Stmt, out-Stmt}
use Rattle.em_tree.specs.declared.expr.Stmt.TheVariants as stmt
use Rattle.em_tree.specs.declared.expr.Expr.TheViews.{roll-Body}
use Rattle.em_tree.specs.Starts.{Pieces}
use Rattle.em_grammar.specs.declared.sort.Written.TheVariants as word
use Rattle.em_grammar.specs.Sets.{next, tokens, only, is_sign}
use Rattle.em_grammar.specs.Reader.{Read, Found, Absent, Deep, and_then, or_stay, token, group, seq, mapped, choice}
use Rattle.em_grammar.specs.Rows.{rows, rows_of}
use Rattle.em_grammar.specs.ExprSets.{Layer, InBlock, has_braces, expr_first}
use Rattle.em_grammar.specs.ExprReader.{Readers}
use Rattle.em_grammar.specs.PrefixReader.{is_none}
use Rattle.em_grammar.specs.StmtReader as spec
use Rattle.em_grammar.specs.StmtReader.{StmtLayer, Row, Part, Ending}
use Rattle.em_read_exprs.specs.Rows as part

-- ---- a statement with its `;`

pub with_mention : (y : Stmt) (w u e : Token) (r : Refs) (o s : Option Token) → y ≡ stmt.Mention w u e r o → stmt.Mention w u e r s ≡ spec.with_semi (out-Stmt y) s
with_mention y w u e r o s is = sym (ap (λ l. spec.with_semi l s) (ap (λ k. out-Stmt k) is ∙ stmt.outs-Mention w u e r o))

pub with_let : (y : Stmt) (w : Token) (q : Pat) (a : Annotation) (e : Token) (v : Expr) (o s : Option Token) → y ≡ stmt.Let w q a e v o → stmt.Let w q a e v s ≡ spec.with_semi (out-Stmt y) s
with_let y w q a e v o s is = sym (ap (λ l. spec.with_semi l s) (ap (λ k. out-Stmt k) is ∙ stmt.outs-Let w q a e v o))

pub with_call : (y : Stmt) (call : MacroCall) (o s : Option Token) → y ≡ stmt.Macro call o → spec.semi_call (has_braces call) call s ≡ spec.with_semi (out-Stmt y) s
with_call y call o s is = sym (ap (λ l. spec.with_semi l s) (ap (λ k. out-Stmt k) is ∙ stmt.outs-Macro call o))

pub with_expr : (y : Stmt) (v : Expr) (o s : Option Token) → y ≡ stmt.Expr v o → stmt.Expr v s ≡ spec.with_semi (out-Stmt y) s
with_expr y v o s is = sym (ap (λ l. spec.with_semi l s) (ap (λ k. out-Stmt k) is ∙ stmt.outs-Expr v o))

pub with_block : (y : Stmt) (v : Expr) (o s : Option Token) → y ≡ stmt.BlockLike v o → stmt.BlockLike v s ≡ spec.with_semi (out-Stmt y) s
with_block y v o s is = sym (ap (λ l. spec.with_semi l s) (ap (λ k. out-Stmt k) is ∙ stmt.outs-BlockLike v o))

pub with_group : (y : Stmt) (g : Group) (z : Stmt) (o s : Option Token) → y ≡ stmt.Group g z o → stmt.Group g z s ≡ spec.with_semi (out-Stmt y) s
with_group y g z o s is = sym (ap (λ l. spec.with_semi l s) (ap (λ k. out-Stmt k) is ∙ stmt.outs-Group g z o))

call_semi : (b : Bool) (call : MacroCall) (s : Option Token) → part.semi_of (out-Stmt (spec.semi_call b call s)) ≡ s
call_semi true call s = ap (λ l. part.semi_of l) (stmt.outs-Expr (made.Macro call) s)
call_semi false call s = ap (λ l. part.semi_of l) (stmt.outs-Macro call s)

with_has : (l : StmtLayer) (s : Option Token) → part.semi_of (out-Stmt (spec.with_semi l s)) ≡ s
with_has (Stmt-F.Mention w u e r o) s = ap (λ l. part.semi_of l) (stmt.outs-Mention w u e r s)
with_has (Stmt-F.Let w q a e v o) s = ap (λ l. part.semi_of l) (stmt.outs-Let w q a e v s)
with_has (Stmt-F.Stmt::Macro call o) s = call_semi (has_braces call) call s
with_has (Stmt-F.Expr v o) s = ap (λ l. part.semi_of l) (stmt.outs-Expr v s)
with_has (Stmt-F.BlockLike v o) s = ap (λ l. part.semi_of l) (stmt.outs-BlockLike v s)
with_has (Stmt-F.Stmt::Group g y o) s = ap (λ l. part.semi_of l) (stmt.outs-Group g y s)

-- ---- an expression as a statement

expr_bare : (b : Bool) (x : Expr) → part.semi_of (out-Stmt (if b then stmt.BlockLike x None else stmt.Expr x None)) ≡ None
expr_bare true x = ap (λ l. part.semi_of l) (stmt.outs-BlockLike x None)
expr_bare false x = ap (λ l. part.semi_of l) (stmt.outs-Expr x None)

layer_bare : (l : Layer) (x : Expr) → part.semi_of (out-Stmt (spec.statement_by l x)) ≡ None
layer_bare (Expr-F.Expr::Macro call) x = ap (λ l. part.semi_of l) (stmt.outs-Macro call None)
layer_bare (Expr-F.Block b) x = expr_bare true x
layer_bare (Expr-F.If w q b xs e z) x = expr_bare true x
layer_bare (Expr-F.Match w y o xs c) x = expr_bare true x
layer_bare (Expr-F.While w y b) x = expr_bare true x
layer_bare (Expr-F.Loop w b) x = expr_bare true x
layer_bare (Expr-F.For w q i y dots z b) x = expr_bare true x
layer_bare _ x = expr_bare false x

-- ---- one row

-- the statement that a row is
record Is (a : Row) (z : Stmt) : Type 0 where
  ends : part.closed z ≡ spec.row_closed a
  stmts : part.kept (z ∷ []) ≡ spec.stmts_of (a ∷ [])
  tail : part.tail_at (z ∷ []) ≡ spec.end_of (a ∷ [])
  first : spec.row_closed a ≡ true → (b : Row) (rest : List Row) → spec.stmts_of (a ∷ b ∷ rest) ≡ z ∷ spec.stmts_of (b ∷ rest)
  later : (b : Row) (rest : List Row) → spec.end_of (a ∷ b ∷ rest) ≡ spec.end_of (b ∷ rest)

semi_is : (y : Stmt) (t : Token) (z : Stmt) → z ≡ spec.with_semi (out-Stmt y) (Some t) → Is (Part (y, Some t)) z
semi_is y t z is =
    let has : part.semi_of (out-Stmt z) ≡ Some t = ap (λ k. part.semi_of (out-Stmt k)) is ∙ with_has (out-Stmt y) (Some t) in
    record {
      ends = ap (λ o. not (is_none o) || spec.closing (out-Stmt z)) has;
      stmts = ap (λ o. if is_none o then [] else z ∷ []) has ∙ ap (λ k. k ∷ []) is;
      tail = ap (λ o. if is_none o then spec.tail_of (out-Stmt z) else None) has;
      first = λ h b rest. ap (λ k. k ∷ spec.stmts_of (b ∷ rest)) (sym is);
      later = λ b rest. refl;
    }

bare_is : (y : Stmt) → part.semi_of (out-Stmt y) ≡ None → Is (Part (y, None)) y
bare_is y has = record {
  ends = ap (λ o. not (is_none o) || spec.closing (out-Stmt y)) has;
  stmts = ap (λ o. if is_none o then [] else y ∷ []) has;
  tail = ap (λ o. if is_none o then spec.tail_of (out-Stmt y) else None) has;
  first = λ h b rest. refl;
  later = λ b rest. refl;
}

end_is : (t : Group × Expr) → Is (Ending t) (part.tail_row (spec.tail_group_of t))
end_is t =
    let out : out-Stmt (part.tail_row (spec.tail_group_of t)) ≡ Stmt-F.Expr (spec.tail_group_of t) None = stmt.outs-Expr (spec.tail_group_of t) None in
    record {
      ends = ap (λ l. not (is_none (part.semi_of l)) || spec.closing l) out;
      stmts = ap (λ l. if is_none (part.semi_of l) then [] else part.tail_row (spec.tail_group_of t) ∷ []) out;
      tail = ap (λ l. if is_none (part.semi_of l) then spec.tail_of l else None) out;
      first = λ h. absurd (never h);
      later = λ b rest. refl;
    }
  where
    never : false ≡ true → ⊥
    never h = cc

-- ---- readers of a row

abbrev Alike : Read Row → Read Stmt → Type 0
Alike (Found a r) (Found z s) = Is a z × (r ≡ s)
Alike Absent Absent = Unit {0}
Alike Deep Deep = Unit {0}
Alike _ _ = ⊥

if_alike : (b : Bool) (p q : Read Row) (u v : Read Stmt) → Alike p u → Alike q v → Alike (if b then p else q) (if b then u else v)
if_alike true p q u v h k = h
if_alike false p q u v h k = k

stay_alike : (p q : Read Row) (u v : Read Stmt) → Alike p u → Alike q v → Alike (or_stay p (λ a r. Found a r) q) (or_stay u (λ a r. Found a r) v)
stay_alike (Found a r) q (Found z s) v h k = h
stay_alike Absent q Absent v h k = k
stay_alike Deep q Deep v h k = h
stay_alike (Found a r) q Absent v h k = absurd h
stay_alike (Found a r) q Deep v h k = absurd h
stay_alike Absent q (Found z s) v h k = absurd h
stay_alike Absent q Deep v h k = absurd h
stay_alike Deep q (Found z s) v h k = absurd h
stay_alike Deep q Absent v h k = absurd h

semi_alike : (o : Read (Stmt × Token)) → Alike (and_then o (λ a r. Found (spec.semi_part a) r)) (and_then o (λ a r. Found (part.semi_row a) r))
semi_alike (Found t r) = (semi_is t.0 t.1 (part.semi_row t) refl, refl)
semi_alike Absent = tt
semi_alike Deep = tt

sent_alike : (o : Read ((Group × Stmt) × Token)) → Alike (and_then o (λ a r. Found (spec.sent_of a) r)) (and_then o (λ a r. Found (part.sent_row a) r))
sent_alike (Found t r) = (semi_is (spec.stmt_group_of t.0) t.1 (part.sent_row t) (with_group (spec.stmt_group_of t.0) t.0.0 t.0.1 None (Some t.1) refl), refl)
sent_alike Absent = tt
sent_alike Deep = tt

tail_alike : (o : Read (Group × Expr)) → Alike (and_then o (λ a r. Found (Ending a) r)) (and_then (and_then o (λ a r. Found (spec.tail_group_of a) r)) (λ a r. Found (part.tail_row a) r))
tail_alike (Found t r) = (end_is t, refl)
tail_alike Absent = tt
tail_alike Deep = tt

abbrev ends_by : {T : Type 0} → (Stmt × Option Token → T) → (Pieces → Read Token) → Read Expr → Read T
ends_by f semi o = and_then (and_then (and_then o (λ a r. Found (spec.statement_of a) r)) (λ a r. and_then (or_stay (semi r) (λ t s. Found (Some t) s) (Found None r)) (λ b s. Found (a, b) s))) (λ a r. Found (f a) r)

abbrev last_by : {T : Type 0} → (Stmt × Option Token → T) → Expr → Pieces → Read Token → Read T
last_by f x r o = and_then (and_then (or_stay o (λ t s. Found (Some t) s) (Found None r)) (λ b s. Found (spec.statement_of x, b) s)) (λ a r. Found (f a) r)

expr_alike : (semi : Pieces → Read Token) (o : Read Expr) → Alike (ends_by Part semi o) (ends_by part.ended_row semi o)
expr_alike semi (Found x r) = go (semi r)
  where
    go : (o : Read Token) → Alike (last_by Part x r o) (last_by part.ended_row x r o)
    go (Found t s) = (semi_is (spec.statement_of x) t (part.ended_row (spec.statement_of x, Some t)) refl, refl)
    go Absent = (bare_is (spec.statement_of x) (layer_bare (out-Expr x) x), refl)
    go Deep = tt
expr_alike semi Absent = tt
expr_alike semi Deep = tt

-- ---- rows

-- rows and the statements that they are, and what is told of them with others behind
record Joins (xs : List Row) (zs : List Stmt) : Type 0 where
  body : spec.body_of xs ≡ part.body_of zs
  stmts : (b : Row) (rest : List Row) → spec.stmts_of (xs ++ b ∷ rest) ≡ zs ++ spec.stmts_of (b ∷ rest)
  tail : (b : Row) (rest : List Row) → spec.end_of (xs ++ b ∷ rest) ≡ spec.end_of (b ∷ rest)

pub kept_last : (ys : List Stmt) (y : Stmt) → part.kept (ys ++ y ∷ []) ≡ ys ++ part.kept (y ∷ [])
kept_last [] y = refl
kept_last (x ∷ []) y = refl
kept_last (x ∷ z ∷ rest) y = ap (λ k. x ∷ k) (kept_last (z ∷ rest) y)

pub tail_last : (ys : List Stmt) (y : Stmt) → part.tail_at (ys ++ y ∷ []) ≡ part.tail_at (y ∷ [])
tail_last [] y = refl
tail_last (x ∷ []) y = refl
tail_last (x ∷ z ∷ rest) y = tail_last (z ∷ rest) y

same_body : (xs ys : List Stmt) (x y : Option Expr) → xs ≡ ys → x ≡ y → roll-Body (record { stmts = xs; tail = x }) ≡ roll-Body (record { stmts = ys; tail = y })
same_body xs ys x y h k = ap (λ zs. roll-Body (record { stmts = zs; tail = x })) h ∙ ap (λ z. roll-Body (record { stmts = ys; tail = z })) k

none_join : Joins [] []
none_join = record { body = refl; stmts = λ b rest. refl; tail = λ b rest. refl }

body_last : (xs : List Row) (zs : List Stmt) (a : Row) (z : Stmt) → Joins xs zs → Is a z → spec.body_of (xs ++ a ∷ []) ≡ part.body_of (zs ++ z ∷ [])
body_last xs zs a z j is =
    same_body (spec.stmts_of (xs ++ a ∷ [])) (part.kept (zs ++ z ∷ [])) (spec.end_of (xs ++ a ∷ [])) (part.tail_at (zs ++ z ∷ []))
    (j.stmts a [] ∙ ap (λ k. zs ++ k) (sym is.stmts) ∙ sym (kept_last zs z))
    (j.tail a [] ∙ sym is.tail ∙ sym (tail_last zs z))

more_join : (xs : List Row) (zs : List Stmt) (a : Row) (z : Stmt) → Joins xs zs → Is a z → spec.row_closed a ≡ true → Joins (xs ++ a ∷ []) (zs ++ z ∷ [])
more_join xs zs a z j is h = record {
  body = body_last xs zs a z j is;
  stmts = λ b rest.
      ap (λ k. spec.stmts_of k) (append_assoc xs (a ∷ []) (b ∷ rest)) ∙ j.stmts a (b ∷ rest) ∙ ap (λ k. zs ++ k) (is.first h b rest) ∙ sym (append_assoc zs (z ∷ []) (spec.stmts_of (b ∷ rest)));
  tail = λ b rest. ap (λ k. spec.end_of k) (append_assoc xs (a ∷ []) (b ∷ rest)) ∙ j.tail a (b ∷ rest) ∙ is.later b rest;
}

-- they make the same body
abbrev Ends : Read (List Row) → Read (List Stmt) → Type 0
Ends out q = and_then out (λ a r. Found (spec.body_of a) r) ≡ and_then q (λ a r. Found (part.body_of a) r)

if_ends : (b c : Bool) (p q : Read (List Row)) (u v : Read (List Stmt)) → c ≡ b → (b ≡ true → Ends p u) → Ends q v → Ends (if b then p else q) (if c then u else v)
if_ends true true p q u v is h k = h refl
if_ends false false p q u v is h k = k
if_ends true false p q u v is h k = absurd (never is)
  where
    never : false ≡ true → ⊥
    never h = cc
if_ends false true p q u v is h k = absurd (never is)
  where
    never : true ≡ false → ⊥
    never h = cc

module _ (P : Pieces → Read Row) (Q : Pieces → Read Stmt) (alike : (i : Pieces) → Alike (P i) (Q i)) where
  same_rows : (n : ℕ) (xs : List Row) (zs : List Stmt) (i : Pieces) → Joins xs zs → Ends (rows spec.row_closed P n xs i) (rows part.closed Q n zs i)
  unfolding rows
  same_rows zero xs zs i j = ap (λ k. Found k i) j.body
  same_rows (suc n) xs zs i j = go (P i) (Q i) (alike i) (λ ys us k. same_rows n ys us k)
    where
      go : (p : Read Row) (q : Read Stmt) → Alike p q → ((ys : List Row) (us : List Stmt) (k : Pieces) → Joins ys us → Ends (rows spec.row_closed P n ys k) (rows part.closed Q n us k))
          → Ends (or_stay p (λ a r. if spec.row_closed a then rows spec.row_closed P n (xs ++ a ∷ []) r else Found (xs ++ a ∷ []) r) (Found xs i)) (or_stay q (λ a r. if part.closed a then rows part.closed Q n (zs ++ a ∷ []) r else Found (zs ++ a ∷ []) r) (Found zs i))
      go (Found a r) (Found z s) h ih =
          subst (λ k. Ends (if spec.row_closed a then rows spec.row_closed P n (xs ++ a ∷ []) r else Found (xs ++ a ∷ []) r) (if part.closed z then rows part.closed Q n (zs ++ z ∷ []) k else Found (zs ++ z ∷ []) k)) h.1
          (if_ends (spec.row_closed a) (part.closed z) (rows spec.row_closed P n (xs ++ a ∷ []) r) (Found (xs ++ a ∷ []) r) (rows part.closed Q n (zs ++ z ∷ []) r) (Found (zs ++ z ∷ []) r) h.0.ends
          (λ c. ih (xs ++ a ∷ []) (zs ++ z ∷ []) r (more_join xs zs a z j h.0 c)) (ap (λ k. Found k r) (body_last xs zs a z j h.0)))
      go Absent Absent h ih = ap (λ k. Found k i) j.body
      go Deep Deep h ih = refl
      go (Found a r) Absent h ih = absurd h
      go (Found a r) Deep h ih = absurd h
      go Absent (Found z s) h ih = absurd h
      go Absent Deep h ih = absurd h
      go Deep (Found z s) h ih = absurd h
      go Deep Absent h ih = absurd h

-- ---- the last row

pub call_tail : (y : Stmt) (call : MacroCall) (o : Option Token) → y ≡ stmt.Macro call o → Some (made.Macro call) ≡ spec.tail_of (out-Stmt y)
call_tail y call o is = sym (ap (λ l. spec.tail_of l) (ap (λ k. out-Stmt k) is ∙ stmt.outs-Macro call o))

pub expr_tail : (y : Stmt) (v : Expr) (o : Option Token) → y ≡ stmt.Expr v o → Some v ≡ spec.tail_of (out-Stmt y)
expr_tail y v o is = sym (ap (λ l. spec.tail_of l) (ap (λ k. out-Stmt k) is ∙ stmt.outs-Expr v o))

pub block_tail : (y : Stmt) (v : Expr) (o : Option Token) → y ≡ stmt.BlockLike v o → Some v ≡ spec.tail_of (out-Stmt y)
block_tail y v o is = sym (ap (λ l. spec.tail_of l) (ap (λ k. out-Stmt k) is ∙ stmt.outs-BlockLike v o))

pub no_rows : (all ys : List Stmt) → all ≡ [] → ys ≡ [] → roll-Body (record { stmts = ys; tail = None }) ≡ part.body_of all
no_rows all ys none is = same_body ys [] None None is refl ∙ sym (ap (λ k. part.body_of k) none)

pub rows_tail : (all ys : List Stmt) (y : Stmt) (x : Option Expr) → all ≡ ys ++ y ∷ [] → part.is_bare y ≡ true → x ≡ spec.tail_of (out-Stmt y) → roll-Body (record { stmts = ys; tail = x }) ≡ part.body_of all
rows_tail all ys y x is bare tail =
    same_body ys (part.kept (ys ++ y ∷ [])) x (part.tail_at (ys ++ y ∷ []))
    (sym (append-nil ys) ∙ ap (λ b. ys ++ (if b then [] else y ∷ [])) (sym bare) ∙ sym (kept_last ys y))
    (tail ∙ ap (λ b. if b then spec.tail_of (out-Stmt y) else None) (sym bare) ∙ sym (tail_last ys y))
    ∙ sym (ap (λ k. part.body_of k) is)

pub rows_ended : (all ys zs : List Stmt) (y : Stmt) → all ≡ ys ++ y ∷ [] → zs ≡ ys ++ y ∷ [] → part.is_bare y ≡ false → roll-Body (record { stmts = zs; tail = None }) ≡ part.body_of all
rows_ended all ys zs y is same bare =
    same_body zs (part.kept (ys ++ y ∷ [])) None (part.tail_at (ys ++ y ∷ []))
    (same ∙ ap (λ b. ys ++ (if b then [] else y ∷ [])) (sym bare) ∙ sym (kept_last ys y))
    (ap (λ b. if b then spec.tail_of (out-Stmt y) else None) (sym bare) ∙ sym (tail_last ys y))
    ∙ sym (ap (λ k. part.body_of k) is)

-- ---- blocks

abbrev closed_by : {S T U : Type 0} → (S → U) → (Token × (U × Token) → T) → Token → (Pieces → Read Token) → Read S → Read T
closed_by f g t close out = and_then (and_then (and_then (and_then out (λ a r. Found (f a) r)) (λ a r. and_then (close r) (λ b s. Found (a, b) s))) (λ b s. Found (t, b) s)) (λ a r. Found (g a) r)

abbrev ends_plain : Token → (Pieces → Read Token) → Read (List Row) → Read (Block Body)
ends_plain t close out = and_then (and_then (and_then out (λ a r. and_then (close r) (λ b s. Found (a, b) s))) (λ b s. Found (t, b) s)) (λ a r. Found (spec.plain_block_of a) r)

same_end : (t : Token) (close : Pieces → Read Token) (out : Read (List Row)) → ends_plain t close out ≡ closed_by spec.body_of part.braces_of t close out
same_end t close (Found a r) = go (close r)
  where
    go : (o : Read Token)
        → and_then (and_then (and_then o (λ b s. Found (a, b) s)) (λ b s. Found (t, b) s)) (λ a r. Found (spec.plain_block_of a) r)
        ≡ and_then (and_then (and_then o (λ b s. Found (spec.body_of a, b) s)) (λ b s. Found (t, b) s)) (λ a r. Found (part.braces_of a) r)
    go (Found u s) = refl
    go Absent = refl
    go Deep = refl
same_end t close Absent = refl
same_end t close Deep = refl

module _ (s : Readers) (opened : Pieces → Read Stmt) (opened_tail : Pieces → Read Expr) where
  group_alike : (i : Pieces) → Alike (spec.stmt_group s opened opened_tail i) (part.stmt_group opened opened_tail i)
  group_alike i =
      let sent = sent_alike (seq (group spec.is_stmt_group opened) (token (is_sign word.Semi)) i) in
      let ending = tail_alike (group spec.is_stmt_group opened_tail i) in
      if_alike (next (tokens (only word.Semi)) (spec.behind_first i)) _ _ _ _ (stay_alike _ _ _ _ sent ending) ending

  row_alike : (i : Pieces) → Alike (spec.row s opened opened_tail i) (part.row s opened opened_tail i)
  unfolding spec.row
  row_alike i =
      let bound = semi_alike (seq (spec.let' s) (token (is_sign word.Semi)) i) in
      let value = expr_alike (token (is_sign word.Semi)) (s.inner InBlock 0 false i) in
      if_alike (next (tokens (only word.Let)) i) _ _ _ _ bound (if_alike (next expr_first i) _ _ _ _ value (group_alike i))

  pub body_at : (i : Pieces) → spec.body s opened opened_tail i ≡ mapped part.body_of (part.rows s opened opened_tail) i
  unfolding spec.body
  body_at i = same_rows (λ k. spec.row s opened opened_tail k) (λ k. part.row s opened opened_tail k) row_alike (length i) [] [] i none_join

  abbrev braces : Pieces → Read (Block Body)
  braces = mapped part.braces_of (seq (token (is_sign word.OpenBrace)) (seq (λ i. spec.body s opened opened_tail i) (token (is_sign word.CloseBrace))))

  abbrev plain : Pieces → Read (Block Body)
  plain = mapped spec.plain_block_of (seq (token (is_sign word.OpenBrace)) (seq (rows_of spec.row_closed (λ i. spec.row s opened opened_tail i)) (token (is_sign word.CloseBrace))))

  abbrev close : Pieces → Read Token
  close = token (is_sign word.CloseBrace)

  abbrev all : Pieces → Read (List Row)
  all = rows_of spec.row_closed (λ i. spec.row s opened opened_tail i)

  same_block : (i : Pieces) → plain i ≡ braces i
  unfolding spec.body
  same_block i = go (token (is_sign word.OpenBrace) i)
    where
      go : (o : Read Token)
          → and_then (and_then o (λ a r. and_then (seq all close r) (λ b s. Found (a, b) s))) (λ a r. Found (spec.plain_block_of a) r)
          ≡ and_then (and_then o (λ a r. and_then (seq (mapped spec.body_of all) close r) (λ b s. Found (a, b) s))) (λ a r. Found (part.braces_of a) r)
      go (Found t r) = same_end t close (all r)
      go Absent = refl
      go Deep = refl

  pub block_at : (opened_block : Pieces → Read (Block Body)) (i : Pieces) → spec.block_node s opened opened_tail opened_block i
      ≡ choice (tokens (only word.OpenBrace)) braces (mapped spec.group_block_of (group spec.is_block_group opened_block)) i
  unfolding spec.block_node
  block_at opened_block i = ap (λ k. if next (tokens (only word.OpenBrace)) i then k else mapped spec.group_block_of (group spec.is_block_group opened_block) i) (same_block i)
