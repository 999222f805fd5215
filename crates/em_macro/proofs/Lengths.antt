-- What is counted is the length of what is written.
use Rattle.std.proofs.lemmas.Bool.{cases_order}
use Rattle.std.proofs.lemmas.List.{length-append}
use Rattle.std.proofs.Math.Nat.{min-eq_left, min-eq_right}
use Rattle.std.proofs.Common.{◌≡◌, ℕ, zero, suc, ◌+◌, ◌-◌, ◌^◌, ◌<◌, ◌≤◌, ◌⊎◌, inl, inr, min, Bool, true, false, if◌then◌else◌, List, [], ◌∷◌, ◌++◌, length, map, Option, Some, None, Result, Ok, Err, refl, sym, ◌∙◌, ap, arith}
use Rattle.em_base.specs.declared.token.Token.{Token}
use Rattle.em_base.specs.declared.place.Mark.{Mark}
use Rattle.em_tree.specs.declared.piece.Piece.TheVariants as p
use Rattle.em_tree.specs.Starts.{Pieces}
use Rattle.em_macro.specs.declared.rules.Transcriber.{Transcriber, out-Transcriber}
use Rattle.em_macro.specs.declared.rules.Transcriber.TheOpen.{Transcriber-F}
use Rattle.em_macro.specs.declared.matched.Taken.{Taken}
use Rattle.em_macro.specs.declared.matched.Bound.{Bound, out-Bound}
use Rattle.em_macro.specs.declared.matched.Bound.TheOpen.{Bound-F}
use Rattle.em_macro.specs.declared.copying.Steps.{Steps}
use Rattle.em_macro.specs.declared.copying.Steps.TheVariants as st
use Rattle.em_macro.specs.declared.error.CopyError.{CopyError}
use Rattle.em_macro.specs.declared.error.CopyError.TheVariants as ce
use Rattle.em_macro.specs.Match.{Name, Bindings, bound_to}
use Rattle.em_macro.specs.Given.{pieces_in}
use Rattle.em_macro.specs.Write as w
use Rattle.em_macro.specs.Write.{Transcribers, marked, is_plain, group_of, put, nth, between, steps, uses, copies, repeated, write_bound, write_node, write_all, written, Measured}
use Rattle.em_macro.specs.Measure as m
use Rattle.em_macro.specs.Measure.{plus, count_put, count_between, count_copies, count_repeated, count_bound, count_node, count_all, counted, Counts}

-- ---- the saturating sum

abbrev most : ℕ
most = 2 ^ 64 - 1

sum_capped : (a b c : ℕ) → min (min a c + b) c ≡ min (a + b) c
sum_capped a b c = go (cases_order a c)
  where
    small : a ≤ c → min (min a c + b) c ≡ min (a + b) c
    small le = ap (λ n. min (n + b) c) (min-eq_left le)

    large : c ≤ a → min (min a c + b) c ≡ min (a + b) c
    large le =
        let low : c ≤ c + b = omega arith in
        let high : c ≤ a + b = omega (arith, le) in
        ap (λ n. min (n + b) c) (min-eq_right le) ∙ min-eq_right low ∙ sym (min-eq_right high)

    go : (a ≡ c) ⊎ ((a < c) ⊎ (c < a)) → min (min a c + b) c ≡ min (a + b) c
    go (inl e) = small (omega (arith, e))
    go (inr (inl lt)) = small (omega (arith, lt))
    go (inr (inr lt)) = large (omega (arith, lt))

-- so many pieces are counted
abbrev Sized : ℕ → Pieces → Type 0
Sized n ps = n ≡ min (length ps) most

more : (n k : ℕ) (old xs : Pieces) → Sized n old → length xs ≡ k → Sized (plus n k) (old ++ xs)
more n k old xs is e =
    ap (λ z. plus z k) is ∙ sum_capped (length old) k most ∙ ap (λ z. min (length old + z) most) (sym e) ∙ ap (λ z. min z most) (sym (length-append old xs))

nothing : (n : ℕ) → n ≡ min n most → plus n 0 ≡ n
nothing n is = let e : n + 0 ≡ n = omega arith in ap (λ z. min z most) e ∙ sym is

-- what is written and what is counted agree
abbrev Sizes : Option Pieces → Option ℕ → Type 0
Sizes (Some ps) (Some n) = Sized n ps
Sizes (Some ps) None = ⊥
Sizes None (Some n) = ⊥
Sizes None None = Unit {0}

then_sizes : (o : Option Pieces) (c : Option ℕ) (f : Pieces → Option Pieces) (g : ℕ → Option ℕ) → Sizes o c → ((ps : Pieces) (n : ℕ) → Sized n ps → Sizes (f ps) (g n)) → Sizes (w.bind o f) (m.bind c g)
then_sizes (Some ps) (Some n) f g h k = k ps n h
then_sizes (Some ps) None f g h k = absurd h
then_sizes None (Some n) f g h k = absurd h
then_sizes None None f g h k = tt

between_length : (mark : Mark) (k : ℕ) (sep : Option Token) → length (between mark k sep) ≡ count_between k sep
between_length mark zero sep = refl
between_length mark (suc k) None = refl
between_length mark (suc k) (Some s) = refl

put_length : (mark : Mark) (d t : Token) (f : Taken) → length (put mark d t f) ≡ count_put f
put_length mark d t f = go (is_plain f.kind)
  where
    go : (b : Bool) → length (if b then pieces_in f else group_of mark d t f ∷ []) ≡ (if b then length (pieces_in f) else 1)
    go true = refl
    go false = refl

module _ (mark : Mark) (used : Transcribers → List Name) (inner : Transcribers → Bindings → Pieces → Option Pieces) (sum : Transcribers → Bindings → ℕ → Option ℕ)
    (same : (ws : Transcribers) (env : Bindings) (old : Pieces) (n : ℕ) → Sized n old → Sizes (inner ws env old) (sum ws env n)) where
  copies_sizes : (c k : ℕ) (body : Transcribers) (sep : Option Token) (env : Bindings) (old : Pieces) (n : ℕ) → Sized n old
      → Sizes (copies mark used inner c k body sep env old) (count_copies used sum c k body sep env n)
  unfolding copies count_copies
  copies_sizes zero k body sep env old n is = is
  copies_sizes (suc c) k body sep env old n is =
      then_sizes (inner body (map (nth k) env) (old ++ between mark k sep)) (sum body (map (nth k) env) (plus n (count_between k sep)))
      (λ new. copies mark used inner c (k + 1) body sep env new) (λ z. count_copies used sum c (k + 1) body sep env z)
      (same body (map (nth k) env) (old ++ between mark k sep) (plus n (count_between k sep)) (more n (count_between k sep) old (between mark k sep) is (between_length mark k sep)))
      (λ ps z h. copies_sizes c (k + 1) body sep env ps z h)

  repeated_sizes : (s : Steps) (body : Transcribers) (sep : Option Token) (env : Bindings) (old : Pieces) (n : ℕ) → Sized n old
      → Sizes (repeated mark used inner s body sep env old) (count_repeated used sum s body sep env n)
  repeated_sizes st.Any body sep env old n is = tt
  repeated_sizes (st.Each c) body sep env old n is = copies_sizes c 0 body sep env old n is
  repeated_sizes st.Unequal body sep env old n is = tt

  bound_sizes : (d t : Token) (b : Bound-F Bound) (old : Pieces) (n : ℕ) → Sized n old → Sizes (write_bound mark used inner d t b old) (count_bound used sum b n)
  bound_sizes d t (Bound-F.One f) old n is = more n (count_put f) old (put mark d t f) is (put_length mark d t f)
  bound_sizes d t (Bound-F.Many all) old n is = tt

  node_sizes : (x : Transcriber-F Transcriber) (env : Bindings) (old : Pieces) (n : ℕ) → Sized n old → Sizes (write_node mark used inner x env old) (count_node used sum x env n)
  unfolding write_node count_node
  node_sizes (Transcriber-F.Token t) env old n is = more n 1 old (p.Token (marked mark t) ∷ []) is refl
  node_sizes (Transcriber-F.Variable d t name) env old n is = bound_sizes d t (out-Bound (bound_to name env)) old n is
  node_sizes (Transcriber-F.Crate d t) env old n is =
      more (plus n 1) 1 (old ++ p.Token (marked mark d) ∷ []) (p.Token (marked mark t) ∷ []) (more n 1 old (p.Token (marked mark d) ∷ []) is refl) refl
  node_sizes (Transcriber-F.Delimited o body c) env old n is =
      then_sizes (inner body env (old ++ p.Token (marked mark o) ∷ [])) (sum body env (plus n 1)) (λ new. Some (new ++ p.Token (marked mark c) ∷ [])) (λ z. Some (plus z 1))
      (same body env (old ++ p.Token (marked mark o) ∷ []) (plus n 1) (more n 1 old (p.Token (marked mark o) ∷ []) is refl))
      (λ ps z h. more z 1 ps (p.Token (marked mark c) ∷ []) h refl)
  node_sizes (Transcriber-F.Repeat body sep) env old n is = repeated_sizes (steps (used body) env) body sep env old n is

  all_sizes : (ws : Transcribers) (env : Bindings) (old : Pieces) (n : ℕ) → Sized n old → Sizes (write_all mark used inner ws env old) (count_all used sum ws env n)
  unfolding write_all count_all
  all_sizes [] env old n is = is
  all_sizes (x ∷ xs) env old n is =
      then_sizes (write_node mark used inner (out-Transcriber x) env old) (count_node used sum (out-Transcriber x) env n) (λ new. write_all mark used inner xs env new)
      (λ z. count_all used sum xs env z) (node_sizes (out-Transcriber x) env old n is) (λ ps z h. all_sizes xs env ps z h)

written_sizes : (mark : Mark) (depth : ℕ) (ws : Transcribers) (env : Bindings) (old : Pieces) (n : ℕ) → Sized n old → Sizes (written mark depth ws env old) (counted depth ws env n)
unfolding written counted
written_sizes mark zero ws env old n is = tt
written_sizes mark (suc depth) ws env old n is = all_sizes mark (uses depth) (written mark depth) (counted depth) (written_sizes mark depth) ws env old n is

pub measured : (mark : Mark) (depth : ℕ) (ws : Transcribers) (env : Bindings) (r : Result ℕ CopyError) → Counts (counted depth ws env 0) r → Measured (written mark depth ws env []) r
measured mark depth ws env r h = go (written mark depth ws env []) (counted depth ws env 0) r (written_sizes mark depth ws env [] 0 refl) h
  where
    go : (o : Option Pieces) (c : Option ℕ) (r : Result ℕ CopyError) → Sizes o c → Counts c r → Measured o r
    go (Some ps) (Some n) (Ok k) s h = let e : n ≡ k = cc in sym e ∙ s
    go (Some ps) (Some n) (Err ce.Lengths) s h = cc
    go (Some ps) (Some n) (Err ce.NoMemory) s h = tt
    go (Some ps) None r s h = absurd s
    go None (Some n) r s h = absurd s
    go None None (Ok k) s h = cc
    go None None (Err ce.Lengths) s h = refl
    go None None (Err ce.NoMemory) s h = tt
