-- The parts behind the block of an `if`, found one after the other.
use Rattle.std.proofs.Common.{◌≡◌, ℕ, zero, suc, if◌then◌else◌, List, [], ◌∷◌, ◌++◌, length, Option, Some, None, Result, refl, sym, ap, subst, ◌∙◌}
use Rattle.std.proofs.lemmas.List.{append-nil}
use Rattle.em_base.specs.declared.token.Token.{Token}
use Rattle.em_tree.specs.declared.expr.Block.{Block}
use Rattle.em_tree.specs.declared.expr.Body.{Body}
use Rattle.em_tree.specs.declared.expr.Condition.{Condition}
use Rattle.em_tree.specs.declared.expr.ElseIf.{ElseIf}
use Rattle.em_tree.specs.declared.expr.Expr.{Expr}
use Rattle.em_tree.specs.Starts.{Pieces}
use Rattle.em_grammar.specs.declared.sort.Written.TheVariants as word
use Rattle.em_grammar.specs.Sets.{is_sign}
use Rattle.em_grammar.specs.Reader.{Read, Found, Absent, Deep, and_then, or_stay, token, seq, mapped}
use Rattle.em_grammar.specs.Rows.{rows, rows_of}
use Rattle.em_grammar.specs.ExprReader.{Readers}
use Rattle.em_grammar.specs.BranchReader as spec
use Rattle.em_grammar.specs.BranchReader.{ElsePart, Further, Last, goes_further, branches_of, word_else_of, otherwise_of}
use Rattle.em_read.specs.declared.stop.Stop.{Stop}
use Rattle.em_read.specs.Parse.{Reads}
use Rattle.em_read_nodes.specs.declared.branch.Branches.{Branches}
use Rattle.em_read_nodes.specs.Branches as part

-- ---- one part more

branches_last : (xs : List ElsePart) (a : ElsePart) → branches_of (xs ++ a ∷ []) ≡ branches_of xs ++ branches_of (a ∷ [])
branches_last [] a = refl
branches_last ((e, Further t) ∷ rest) a = ap (λ k. spec.else_if_of e t ∷ k) (branches_last rest a)
branches_last ((e, Last b) ∷ rest) a = branches_last rest a

word_last : (xs : List ElsePart) (a : ElsePart) → word_else_of xs ≡ None → word_else_of (xs ++ a ∷ []) ≡ word_else_of (a ∷ [])
word_last [] a none_there = refl
word_last ((e, Further t) ∷ rest) a none_there = word_last rest a none_there
word_last ((e, Last b) ∷ rest) a none_there = cc

otherwise_last : (xs : List ElsePart) (a : ElsePart) → otherwise_of xs ≡ None → otherwise_of (xs ++ a ∷ []) ≡ otherwise_of (a ∷ [])
otherwise_last [] a none_there = refl
otherwise_last ((e, Further t) ∷ rest) a none_there = otherwise_last rest a none_there
otherwise_last ((e, Last b) ∷ rest) a none_there = cc

same : (xs ys : List ElseIf) (e w : Option Token) (b c : Option (Block Body)) → xs ≡ ys → e ≡ w → b ≡ c → part.branches_with xs e b ≡ part.branches_with ys w c
same xs ys e w b c h k l = ap (λ z. part.branches_with z e b) h ∙ ap (λ z. part.branches_with ys z b) k ∙ ap (λ z. part.branches_with ys w z) l

-- all of these go further
record Open (xs : List ElsePart) : Type 0 where
  no_word : word_else_of xs ≡ None
  no_block : otherwise_of xs ≡ None

last_put : (xs : List ElsePart) (a : ElsePart) → Open xs → part.branches_as (xs ++ a ∷ []) ≡ part.put (part.branches_as xs) a
last_put xs (e, Further t) o =
    same (branches_of (xs ++ (e, Further t) ∷ [])) (branches_of xs ++ spec.else_if_of e t ∷ []) (word_else_of (xs ++ (e, Further t) ∷ [])) (word_else_of xs) (otherwise_of (xs ++ (e, Further t) ∷ [])) (otherwise_of xs)
    (branches_last xs (e, Further t)) (word_last xs (e, Further t) o.no_word ∙ sym o.no_word) (otherwise_last xs (e, Further t) o.no_block ∙ sym o.no_block)
last_put xs (e, Last b) o =
    same (branches_of (xs ++ (e, Last b) ∷ [])) (branches_of xs) (word_else_of (xs ++ (e, Last b) ∷ [])) (Some e) (otherwise_of (xs ++ (e, Last b) ∷ [])) (Some b)
    (branches_last xs (e, Last b) ∙ append-nil (branches_of xs)) (word_last xs (e, Last b) o.no_word) (otherwise_last xs (e, Last b) o.no_block)

-- ---- all parts

module _ (P : Pieces → Read ElsePart) where
  same_parts : (n : ℕ) (xs : List ElsePart) (i : Pieces) → Open xs → and_then (rows goes_further P n xs i) (λ a r. Found (part.branches_as a) r) ≡ part.grow P n (part.branches_as xs) i
  unfolding rows part.grow
  same_parts zero xs i o = refl
  same_parts (suc n) xs i o = go (P i) (λ ys k q. same_parts n ys k q)
    where
      go : (p : Read ElsePart) → ((ys : List ElsePart) (k : Pieces) → Open ys → and_then (rows goes_further P n ys k) (λ a r. Found (part.branches_as a) r) ≡ part.grow P n (part.branches_as ys) k)
          → and_then (or_stay p (λ a r. if goes_further a then rows goes_further P n (xs ++ a ∷ []) r else Found (xs ++ a ∷ []) r) (Found xs i)) (λ a r. Found (part.branches_as a) r)
          ≡ and_then (part.turn (λ k. p) (part.branches_as xs) i) (λ t r. if t.0 then part.grow P n t.1 r else Found t.1 r)
      go (Found (e, Further t) r) ih =
          ih (xs ++ (e, Further t) ∷ []) r (record { no_word = word_last xs (e, Further t) o.no_word; no_block = otherwise_last xs (e, Further t) o.no_block })
          ∙ ap (λ k. part.grow P n k r) (last_put xs (e, Further t) o)
      go (Found (e, Last b) r) ih = ap (λ k. Found k r) (last_put xs (e, Last b) o)
      go Absent ih = refl
      go Deep ih = refl

  parts_at : (i : Pieces) → mapped part.branches_as (rows_of goes_further P) i ≡ part.branches P i
  parts_at i = same_parts (length i) [] i (record { no_word = refl; no_block = refl })

-- ---- the whole

abbrev at_parts : {T : Type 0} → (Token × (Condition Expr × (Block Body × T)) → Expr) → Token → Condition Expr → Block Body → Read T → Read Expr
at_parts f t c b o = and_then (and_then (and_then (and_then o (λ x r. Found (b, x) r)) (λ x r. Found (c, x) r)) (λ x r. Found (t, x) r)) (λ x r. Found (f x) r)

abbrev at_block : {T : Type 0} → (Token × (Condition Expr × (Block Body × T)) → Expr) → (Pieces → Read T) → Token → Condition Expr → Read (Block Body) → Read Expr
at_block f R t c o = and_then (and_then (and_then (and_then o (λ b r. and_then (R r) (λ x s. Found (b, x) s))) (λ x r. Found (c, x) r)) (λ x r. Found (t, x) r)) (λ x r. Found (f x) r)

abbrev at_condition : {T : Type 0} → (Token × (Condition Expr × (Block Body × T)) → Expr) → (Pieces → Read (Block Body)) → (Pieces → Read T) → Token → Read (Condition Expr) → Read Expr
at_condition f B R t o = and_then (and_then (and_then o (λ c r. and_then (seq B R r) (λ x s. Found (c, x) s))) (λ x r. Found (t, x) r)) (λ x r. Found (f x) r)

abbrev at_word : {T : Type 0} → (Token × (Condition Expr × (Block Body × T)) → Expr) → (Pieces → Read (Condition Expr)) → (Pieces → Read (Block Body)) → (Pieces → Read T) → Read Token → Read Expr
at_word f C B R o = and_then (and_then o (λ t r. and_then (seq C (seq B R) r) (λ x s. Found (t, x) s))) (λ x r. Found (f x) r)

made_alike : (t : Token) (c : Condition Expr) (b : Block Body) (o : Read (List ElsePart))
    → at_parts spec.if_of t c b o ≡ at_parts part.if_as t c b (and_then o (λ a r. Found (part.branches_as a) r))
made_alike t c b (Found a r) = refl
made_alike t c b Absent = refl
made_alike t c b Deep = refl

module _ (s : Readers) where
  abbrev R : Pieces → Read (List ElsePart)
  R = rows_of goes_further (spec.else_part s)

  abbrev S : Pieces → Read Branches
  S = part.branches (spec.else_part s)

  parts_alike : (t : Token) (c : Condition Expr) (b : Block Body) (i : Pieces) → at_parts spec.if_of t c b (R i) ≡ at_parts part.if_as t c b (S i)
  parts_alike t c b i = made_alike t c b (R i) ∙ ap (λ o. at_parts part.if_as t c b o) (parts_at (spec.else_part s) i)

  block_alike : (t : Token) (c : Condition Expr) (o : Read (Block Body)) → at_block spec.if_of R t c o ≡ at_block part.if_as S t c o
  block_alike t c (Found b r) = parts_alike t c b r
  block_alike t c Absent = refl
  block_alike t c Deep = refl

  condition_alike : (t : Token) (o : Read (Condition Expr)) → at_condition spec.if_of s.block R t o ≡ at_condition part.if_as s.block S t o
  condition_alike t (Found c r) = block_alike t c (s.block r)
  condition_alike t Absent = refl
  condition_alike t Deep = refl

  word_alike : (o : Read Token) → at_word spec.if_of (spec.condition' s) s.block R o ≡ at_word part.if_as (spec.condition' s) s.block S o
  word_alike (Found t r) = condition_alike t (spec.condition' s r)
  word_alike Absent = refl
  word_alike Deep = refl

  pub if_at : (i : Pieces) → spec.if' s i ≡ mapped part.if_as (seq (token (is_sign word.If)) (seq (spec.condition' s) (seq s.block S))) i
  if_at i = word_alike (token (is_sign word.If) i)

  -- what is read so is the `if`
  pub if_reads : (i : Pieces) (r : Result Expr Stop) (rest : Pieces) → Reads (mapped part.if_as (seq (token (is_sign word.If)) (seq (spec.condition' s) (seq s.block S))) i) r rest → Reads (spec.if' s i) r rest
  if_reads i r rest h = subst (λ o. Reads o r rest) (sym (if_at i)) h
