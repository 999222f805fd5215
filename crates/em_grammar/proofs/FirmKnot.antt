-- Expressions, statements and blocks are read within limits as within greater ones.
use Rattle.std.proofs.Common.{◌≡◌, ℕ, zero, suc, ◌≤◌, Bool, true, false, if◌then◌else◌, [], ◌∷◌, ◌++◌, Some, None, refl, sym, ◌∙◌, ap, subst, arith}
use Rattle.em_base.specs.declared.token.Token.{Token}
use Rattle.em_tree.specs.declared.piece.Piece.TheVariants as p
use Rattle.em_tree.specs.declared.expr.MacroCall.{MacroCall}
use Rattle.em_tree.specs.declared.expr.Expr.TheVariants as made
use Rattle.em_tree.specs.Starts.{Pieces}
use Rattle.em_tree.specs.Tokens.{Name}
use Rattle.em_tree.specs.Yields.{piece}
use Rattle.em_tree.specs.ExprGrammar.{IsMacro}
use Rattle.em_grammar.specs.declared.sort.Written.TheVariants as word
use Rattle.em_grammar.specs.Sorts.{sort_of}
use Rattle.em_grammar.specs.Sets.{Set, next, tokens, others, only, name_sort, literal_sort, Inside, Nested}
use Rattle.em_grammar.specs.Reader.{Read, Found, Absent, Deep, and_then, or_stay}
use Rattle.em_grammar.specs.Levels.{climb}
use Rattle.em_grammar.specs.Pairs.{Sound, Steady, Firm}
use Rattle.em_grammar.specs.PathReader.{path_first, path_clear}
use Rattle.em_grammar.specs.TypeReader.{tree_of}
use Rattle.em_grammar.specs.ExprSets.{Start, Anywhere, expr_first, on}
use Rattle.em_grammar.specs.ExprReader.{Readers, apply, suffix}
use Rattle.em_grammar.specs.PrefixReader.{Call, behind_of, behind, path_form}
use Rattle.em_grammar.specs.StmtReader.{macro_call, expr_none}
use Rattle.em_grammar.specs.NodeReader.{prefix, expr_node}
use Rattle.em_grammar.specs.ExprKnot.{Opens, without_blocks, readers_at, expr_by, tail_by, opens_in, expr_in, stmt_in, block_in, body_in}
use Rattle.em_grammar.proofs.Pairs.{always, in_subset, next_others}
use Rattle.em_grammar.proofs.Steady.{same, firm_same, firm_deep, firm_map}
use Rattle.em_grammar.proofs.Tests.{sign, name}
use Rattle.em_grammar.proofs.TextPairs.{delimited_pair}
use Rattle.em_grammar.proofs.FirmTypes.{literal_firm}
use Rattle.em_grammar.proofs.GrammarLaws.{ints_steady, paths_steady, types_steady}
use Rattle.em_grammar.proofs.PatPairs.{pats_firm, tops_firm}
use Rattle.em_grammar.proofs.PathFacts.{lone_path, lone_pieces}
use Rattle.em_grammar.proofs.TypePairs.{paths_read}
use Rattle.em_grammar.proofs.ExprNodes.{macro_path, macro_named, macro_same}
use Rattle.em_grammar.proofs.ExprKnot.{call_pieces, call_pair, exprs_read}
use Rattle.em_grammar.proofs.FirmExprs.{FirmIn, firm_node, firm_bare, firm_tail, firm_body, firm_block}

-- ---- a macro call that nothing goes on with

still : {T S : Type 0} (on : T → Set) (suffix : Pieces → Read S) (apply : T → S → T) (n : ℕ) (x : T) (r : Pieces) → next (on x) r ≡ false → climb on suffix apply n x r ≡ Found x r
unfolding climb
still on suffix apply zero x r h = rw h refl
still on suffix apply (suc n) x r h = rw h refl

module _ (s : Readers) (names : (t : Token) (r : Pieces) → Name t → next path_clear r ≡ true → s.path (piece t ++ r) ≡ Found (lone_path t) r) where
  behind_call : (h : Bool) (call : MacroCall) (r : Pieces) → IsMacro call
      → behind s h (lone_path call.name) (piece call.bang ++ (piece call.text.open ++ ((call.text.text ++ piece call.text.close) ++ r))) ≡ Found (Call (call.bang, call.text)) r
  behind_call h call r m =
      rw ((sign word.Not).told call.bang m.1, macro_named call.name m.0, (delimited_pair (λ k. Unit {0}) 0).whole 0 call.text r (omega arith) (all_inside (piece call.text.open ++ (call.text.text ++ piece call.text.close))) m.2 (always r)) refl
    where
      all_inside : (ys : Pieces) → Inside (λ k. Unit {0}) ys
      all_inside [] = tt
      all_inside (p.Token t ∷ r) = all_inside r
      all_inside (p.Group g ∷ r) = (tt, all_inside r)

  path_call : (h : Bool) (call : MacroCall) (r : Pieces) → IsMacro call → path_form s h (call_pieces call ++ r) ≡ Found (made.Macro call) r
  path_call h call r m =
      let rest : Pieces = piece call.bang ++ (piece call.text.open ++ ((call.text.text ++ piece call.text.close) ++ r)) in
      ap (λ k. and_then (and_then k (λ y q. and_then (or_stay (behind s h y q) (λ b z. Found (Some b) z) (Found None q)) (λ b z. Found (y, b) z))) (λ x z. Found (behind_of x) z))
      (names call.name rest m.0 (in_subset (tokens (only word.Not)) path_clear refl rest ((sign word.Not).told call.bang m.1)))
      ∙ ap (λ k. and_then (and_then (or_stay k (λ b z. Found (Some b) z) (Found None rest)) (λ b z. Found (lone_path call.name, b) z)) (λ x z. Found (behind_of x) z)) (behind_call h call r m)
      ∙ ap (λ x. Found x r) (sym (macro_same call))

  prefix_call : (h : Bool) (call : MacroCall) (r : Pieces) → IsMacro call → prefix s h (call_pieces call ++ r) ≡ Found (made.Macro call) r
  unfolding prefix
  prefix_call h call r m =
      let named : name_sort (sort_of call.name) ≡ true = name.told call.name m.0 in
      let i : Pieces = call_pieces call ++ r in
      let no_literal : literal_sort (sort_of call.name) ≡ false = next_others (tokens literal_sort) i (in_subset (tokens name_sort) (others (tokens literal_sort)) refl i named) in
      let a_path : next path_first i ≡ true = in_subset (tokens name_sort) path_first refl i named in
      rw (no_literal, a_path) (path_call h call r m)

  node_call : (turns : ℕ) (start : Start) (least : ℕ) (h : Bool) (call : MacroCall) (r : Pieces) → IsMacro call → next (on start least (made.Macro call)) r ≡ false
      → expr_node s turns start least h (call_pieces call ++ r) ≡ Found (made.Macro call) r
  unfolding expr_node
  node_call turns start least h call r m stop =
      ap (λ k. and_then k (λ x q. climb (on start least) (suffix s h) apply turns x q)) (prefix_call h call r m) ∙ still (on start least) (suffix s h) apply turns (made.Macro call) r stop

-- ---- where no node may be

firm_none : (m e : ℕ) (start : Start) (least : ℕ) (h : Bool) → least ≤ 13 → Firm (expr_none start least) (expr_in m (suc e) start least h)
unfolding expr_by
firm_none m e start least h low = record { firm = λ i. go i (next expr_first i) refl }
  where
    s : Readers
    s = readers_at m (opens_in m) e (expr_by m (opens_in m) e)

    names : (t : Token) (r : Pieces) → Name t → next path_clear r ≡ true → s.path (piece t ++ r) ≡ Found (lone_path t) r
    names t r k cl =
        ap (λ ys. s.path (ys ++ r)) (sym (lone_pieces t))
        ∙ (paths_read m e).whole 0 (lone_path t) r (omega arith) (subst (λ ys. Inside (Nested m) ys) (sym (lone_pieces t)) tt) (macro_path 0 t k) cl

    last : (i : Pieces) (b : Bool) (call : MacroCall) (r : Pieces) → next (on start least (made.Macro call)) r ≡ b → IsMacro call → i ≡ call_pieces call ++ r
        → Steady (if b then Deep else Found (made.Macro call) r) (expr_in m (suc e) start least h i)
    last i true call r at k is = tt
    last i false call r at k is = ap (λ i. expr_in m (suc e) start least h i) is ∙ node_call s names e start least h call r k at

    found : (i : Pieces) (o : Read MacroCall) → Sound (λ d. IsMacro) call_pieces o i
        → Steady (or_stay o (λ call r. if next (on start least (made.Macro call)) r then Deep else Found (made.Macro call) r) Deep) (expr_in m (suc e) start least h i)
    found i (Found call r) u = last i (next (on start least (made.Macro call)) r) call r refl u.0.1 u.1
    found i Absent u = tt
    found i Deep u = tt

    go : (i : Pieces) (b : Bool) → next expr_first i ≡ b
        → Steady (if b then or_stay (macro_call i) (λ call r. if next (on start least (made.Macro call)) r then Deep else Found (made.Macro call) r) Deep else Absent) (expr_in m (suc e) start least h i)
    go i true is = found i (macro_call i) ((call_pair (Nested m) 0).sound i)
    go i false is = (exprs_read m (suc e) start least h low).absent i is

-- ---- by depth, and by how often groups stand in one another

pub record OpensFirm (o q : Opens) : Type 0 where
  pub expr : (d e : ℕ) → d ≤ e → Firm (o.expr d) (q.expr e)
  pub stmt : (d e : ℕ) → d ≤ e → Firm (o.stmt d) (q.stmt e)
  pub tail : (d e : ℕ) → d ≤ e → Firm (o.tail d) (q.tail e)
  pub block : (d e : ℕ) → d ≤ e → Firm (o.block d) (q.block e)
  pub signed : Firm o.signed q.signed

module _ (n m : ℕ) (le : n ≤ m) (a : OpensFirm (opens_in n) (opens_in m)) where
  abbrev Inner : ℕ → ℕ → Type 0
  Inner d e = (start : Start) (least : ℕ) (h : Bool) → least ≤ 13 → Firm (expr_in n d start least h) (expr_in m e start least h)

  plain_firm : (d e : ℕ) → d ≤ e → Inner d e → FirmIn (without_blocks n (opens_in n) d (expr_in n d)) (without_blocks m (opens_in m) e (expr_in m e))
  plain_firm d e k inner = record {
    inner = inner;
    ty = firm_map tree_of (types_steady n m d e le k false);
    path = paths_steady n m d e le k;
    pat = pats_firm n m le (suc d) (suc e) (omega (arith, k));
    top = tops_firm n m le d e k;
    int = ints_steady n m le;
    signed = a.signed;
    block = firm_same (λ i. Absent);
    opened = a.expr d e k;
  }

  blocks_firm : (d e : ℕ) → d ≤ e → Inner d e → Firm (block_in n d) (block_in m e)
  blocks_firm d e k inner =
      firm_block (without_blocks n (opens_in n) d (expr_in n d)) (without_blocks m (opens_in m) e (expr_in m e)) (plain_firm d e k inner) (a.stmt d e k) (a.tail d e k) (a.block d e k)

  all_firm : (d e : ℕ) → d ≤ e → Inner d e → FirmIn (readers_at n (opens_in n) d (expr_in n d)) (readers_at m (opens_in m) e (expr_in m e))
  all_firm d e k inner = record {
    inner = inner;
    ty = firm_map tree_of (types_steady n m d e le k false);
    path = paths_steady n m d e le k;
    pat = pats_firm n m le (suc d) (suc e) (omega (arith, k));
    top = tops_firm n m le d e k;
    int = ints_steady n m le;
    signed = a.signed;
    block = blocks_firm d e k inner;
    opened = a.expr d e k;
  }

  firm_by : (d e : ℕ) → d ≤ e → Inner d e
  unfolding expr_by
  firm_by zero zero k start least h low = record { firm = λ i. same (expr_none start least i) }
  firm_by zero (suc e) k start least h low = record { firm = (firm_none m e start least h low).firm }
  firm_by (suc d) zero k start least h low = absurd (omega (arith, k))
  firm_by (suc d) (suc e) k start least h low = record {
    firm = (firm_node (readers_at n (opens_in n) d (expr_in n d)) (readers_at m (opens_in m) e (expr_in m e)) (all_firm d e (omega (arith, k)) (firm_by d e (omega (arith, k)))) d e (omega (arith, k)) start least h).firm;
  }

  firm_stmts : (d e : ℕ) → d ≤ e → Firm (stmt_in n d) (stmt_in m e)
  firm_stmts d e k = firm_bare (without_blocks n (opens_in n) d (expr_in n d)) (without_blocks m (opens_in m) e (expr_in m e)) (plain_firm d e k (firm_by d e k)) (a.stmt d e k)

  firm_tails : (d e : ℕ) → d ≤ e → Firm (tail_by n (opens_in n) d) (tail_by m (opens_in m) e)
  firm_tails d e k = firm_tail (without_blocks n (opens_in n) d (expr_in n d)) (without_blocks m (opens_in m) e (expr_in m e)) (plain_firm d e k (firm_by d e k)) (a.tail d e k)

  firm_blocks : (d e : ℕ) → d ≤ e → Firm (block_in n d) (block_in m e)
  firm_blocks d e k = blocks_firm d e k (firm_by d e k)

  firm_bodies : (d e : ℕ) → d ≤ e → Firm (body_in n d) (body_in m e)
  firm_bodies d e k = firm_body (without_blocks n (opens_in n) d (expr_in n d)) (without_blocks m (opens_in m) e (expr_in m e)) (plain_firm d e k (firm_by d e k)) (a.stmt d e k) (a.tail d e k)

opens_firm : (n m : ℕ) → n ≤ m → OpensFirm (opens_in n) (opens_in m)
unfolding opens_in
opens_firm zero m le = record {
  expr = λ d e k. firm_deep ((opens_in m).expr e);
  stmt = λ d e k. firm_deep ((opens_in m).stmt e);
  tail = λ d e k. firm_deep ((opens_in m).tail e);
  block = λ d e k. firm_deep ((opens_in m).block e);
  signed = firm_deep ((opens_in m).signed);
}
opens_firm (suc n) zero le = absurd (omega (arith, le))
opens_firm (suc n) (suc m) le =
    let l : n ≤ m = omega (arith, le) in
    let below : OpensFirm (opens_in n) (opens_in m) = opens_firm n m l in
    record {
      expr = λ d e k. firm_by n m l below (suc d) (suc e) (omega (arith, k)) Anywhere 0 false (omega arith);
      stmt = firm_stmts n m l below;
      tail = firm_tails n m l below;
      block = firm_blocks n m l below;
      signed = literal_firm true n m l;
    }

pub exprs_firm : (n m d e : ℕ) → n ≤ m → d ≤ e → (start : Start) (least : ℕ) (h : Bool) → least ≤ 13 → Firm (expr_in n d start least h) (expr_in m e start least h)
exprs_firm n m d e l k = firm_by n m l (opens_firm n m l) d e k

pub stmts_firm : (n m d e : ℕ) → n ≤ m → d ≤ e → Firm (stmt_in n d) (stmt_in m e)
stmts_firm n m d e l k = firm_stmts n m l (opens_firm n m l) d e k

pub blocks_steady : (n m d e : ℕ) → n ≤ m → d ≤ e → Firm (block_in n d) (block_in m e)
blocks_steady n m d e l k = firm_blocks n m l (opens_firm n m l) d e k

pub bodies_firm : (n m d e : ℕ) → n ≤ m → d ≤ e → Firm (body_in n d) (body_in m e)
bodies_firm n m d e l k = firm_bodies n m l (opens_firm n m l) d e k
