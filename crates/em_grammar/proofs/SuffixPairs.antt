-- What goes on with an expression is read.
use Rattle.std.proofs.lemmas.Bool.{leb-true}
use Rattle.std.proofs.Common.{◌≡◌, ℕ, suc, ◌≤◌, nat_le, Bool, true, false, Option, Some, None, refl, sym, subst, arith, inl, inr}
use Rattle.std.specs.Prelude.{codes}
use Rattle.em_base.specs.declared.token.Token.{Token}
use Rattle.em_tree.specs.Starts.{Pieces}
use Rattle.em_tree.specs.Tokens.{Is, Name}
use Rattle.em_tree.specs.Parts.{each, maybe}
use Rattle.em_tree.specs.Yields.{piece}
use Rattle.em_tree.specs.PathGrammar.{IsIntLiteral, literal_pieces}
use Rattle.em_tree.specs.ExprGrammar.{expr_pieces}
use Rattle.em_tree.specs.ExprShape.{ends_open, ends_bare}
use Rattle.em_grammar.specs.declared.sort.Written.TheVariants as word
use Rattle.em_grammar.specs.declared.sort.Sort.{Sort}
use Rattle.em_grammar.specs.Sorts.{sort_of}
use Rattle.em_grammar.specs.Sets.{Set, next, tokens, either, others, anything, only, name_sort, int_sort}
use Rattle.em_grammar.specs.Lang.{Chain, Seq, Opt, Image, Or, Lists, joined, with_comma}
use Rattle.em_grammar.specs.Pairs.{Pair, Test}
use Rattle.em_grammar.specs.LiteralReader.{unsigned_first}
use Rattle.em_grammar.specs.ExprSets.{Anywhere, op_binds, op_sort, assign_sort, expr_first, base, bare, end_clear}
use Rattle.em_grammar.specs.ExprReader.{Readers, Inside, Suffix, Right, Becomes, Method, Args, Member, Number, At, suffix_pieces, suffix_clear, right_of, becomes_of, args_of, at_of, named_of, DotForm, Named, Numbered, dotted_of, suffix_first, arguments, dot_form, right, becomes, dotted, called, indexed, suffix}
use Rattle.em_grammar.specs.ExprLang.{Operand, IsSuffix}
use Rattle.em_grammar.proofs.Ground.{Ground}
use Rattle.em_grammar.proofs.AllSorts.{sort_at}
use Rattle.em_grammar.proofs.Pairs.{tok, seq_of, part_seq, always, next_both}
use Rattle.em_grammar.proofs.Lists.{commas_of}
use Rattle.em_grammar.proofs.Forms.{or_of, same_of}
use Rattle.em_grammar.proofs.Chains.{chain_dep, chain_more, more_clear, image_in, clear_in}
use Rattle.em_grammar.proofs.Tests.{sign, name}

-- tokens of some sorts
pub of_sort : (s : Sort → Bool) → Test (λ t. s (sort_of t) ≡ true) (λ t. s (sort_of t)) s
of_sort s = record { holds = λ t h. h; told = λ t h. h; sorted = λ t h. h }

pub bare_after : (a b h : Bool) (i : Pieces) → next (bare h) i ≡ true → next (end_clear a b 0 h) i ≡ true
bare_after true true h i is = is
bare_after true false h i is = (next_both (others expr_first) (base 0 h) i is).1
bare_after false b h i is = (next_both (others expr_first) (base 0 h) i is).1

pub op_low : (k : Sort) → suc (op_binds k) ≤ 13
op_low k = leb-true (suc (op_binds k)) 13 (sort_at (λ k. nat_le (suc (op_binds k)) 13) k refl)

module _ (H : Pieces → Type 0) (depth : ℕ) (s : Readers) (a : Ground H depth s) where
  -- an expression in a list or between delimiters
  pub item : Pair H depth (Operand Anywhere 0 false) expr_pieces (s.inner Anywhere 0 false) expr_first (λ _. bare false)
  item = clear_in (λ d x m i is. bare_after (ends_open x) (ends_bare x) false i is) (a.inner Anywhere 0 false (omega arith))

  abbrev pub Arguments : ℕ → Inside → Type 0
  Arguments = Seq (λ d. Is (codes "(")) (Seq (Lists (Operand Anywhere 0 false)) (λ d. Is (codes ")")))

  abbrev pub argument_pieces : Inside → Pieces
  argument_pieces = joined piece (joined (each (with_comma expr_pieces)) piece)

  pub arguments_pair : Pair H depth Arguments argument_pieces (arguments s) (tokens (only word.OpenParen)) (λ _. anything)
  arguments_pair = seq_of (tok (sign word.OpenParen)) (part_seq (commas_of (sign word.Comma) item refl refl) (tok (sign word.CloseParen)) (λ _. refl)) (λ _. refl)

  right_pair : (h : Bool) → Pair H depth (Image right_of (Chain (λ d t. op_sort (sort_of t) ≡ true) (λ op. Operand Anywhere (suc (op_binds (sort_of op))) h))) suffix_pieces (right s h) (tokens op_sort) (suffix_clear h)
  right_pair h = image_in right_of suffix_pieces (λ d t m. refl) (λ d t m i is. is) (chain_dep (tok (of_sort op_sort)) (λ op. a.inner Anywhere (suc (op_binds (sort_of op))) h (op_low (sort_of op))) (λ _. refl))

  becomes_pair : (h : Bool) → Pair H depth (Image becomes_of (Seq (λ d t. assign_sort (sort_of t) ≡ true) (Operand Anywhere 3 h))) suffix_pieces (becomes s h) (tokens assign_sort) (suffix_clear h)
  becomes_pair h = image_in becomes_of suffix_pieces (λ d t m. refl) (λ d t m i is. is) (seq_of (tok (of_sort assign_sort)) (a.inner Anywhere 3 h (omega arith)) (λ _. refl))

  called_pair : (h : Bool) → Pair H depth (Image args_of Arguments) suffix_pieces (called s) (tokens (only word.OpenParen)) (suffix_clear h)
  called_pair h = image_in args_of suffix_pieces (λ d t m. refl) (λ d t m i is. is) arguments_pair

  indexed_pair : (h : Bool) → Pair H depth (Image at_of (Seq (λ d. Is (codes "[")) (Seq (Operand Anywhere 0 false) (λ d. Is (codes "]"))))) suffix_pieces (indexed s) (tokens (only word.OpenBracket)) (suffix_clear h)
  indexed_pair h = image_in at_of suffix_pieces (λ d t m. refl) (λ d t m i is. is) (seq_of (tok (sign word.OpenBracket)) (seq_of item (tok (sign word.CloseBracket)) (λ _. refl)) (λ _. refl))

  -- ---- behind a `.`

  abbrev NameParts : ℕ → Token × Option Inside → Type 0
  NameParts = Chain (λ d. Name) (λ _. Opt Arguments)

  abbrev dot_pieces : DotForm → Pieces
  dot_pieces (Named t) = joined piece (maybe argument_pieces) t
  dot_pieces (Numbered x) = literal_pieces x

  abbrev dot_clear : DotForm → Set
  dot_clear (Named t) = more_clear (λ _. anything) (λ _. tokens (only word.OpenParen)) (λ _ _. anything) t
  dot_clear (Numbered x) = anything

  abbrev DotParts : ℕ → DotForm → Type 0
  DotParts = Or (Image Named NameParts) (Image Numbered (λ d. IsIntLiteral))

  dot_pair : Pair H depth DotParts dot_pieces (dot_form s) (either (tokens name_sort) (unsigned_first int_sort)) dot_clear
  dot_pair =
      or_of (image_in Named dot_pieces (λ d t m. refl) (λ d t m i is. is) (chain_more (tok name) (λ _. arguments_pair) (λ _. refl)))
      (image_in Numbered dot_pieces (λ d t m. refl) (λ d t m i is. is) a.int) refl

  dotted_yield : (t : Token × DotForm) → suffix_pieces (dotted_of t) ≡ joined piece dot_pieces t
  dotted_yield (dot, Named (label, None)) = refl
  dotted_yield (dot, Named (label, Some t)) = refl
  dotted_yield (dot, Numbered x) = refl

  dotted_clear : (h : Bool) (t : Token × DotForm) (i : Pieces) → next (suffix_clear h (dotted_of t)) i ≡ true → next (dot_clear t.1) i ≡ true
  dotted_clear h (dot, Named (label, None)) i is = is
  dotted_clear h (dot, Named (label, Some t)) i is = always i
  dotted_clear h (dot, Numbered x) i is = always i

  dotted_pair : (h : Bool) → Pair H depth (Image dotted_of (Seq (λ d. Is (codes ".")) DotParts)) suffix_pieces (dotted s) (tokens (only word.Dot)) (suffix_clear h)
  dotted_pair h = image_in dotted_of suffix_pieces (λ d t m. dotted_yield t) (λ d t m i is. dotted_clear h t i is) (seq_of (tok (sign word.Dot)) dot_pair (λ _. refl))

  -- ---- all of them

  abbrev Sides : Bool → ℕ → Suffix → Type 0
  Sides h =
      Or (Image right_of (Chain (λ d t. op_sort (sort_of t) ≡ true) (λ op. Operand Anywhere (suc (op_binds (sort_of op))) h)))
      (Or (Image becomes_of (Seq (λ d t. assign_sort (sort_of t) ≡ true) (Operand Anywhere 3 h)))
      (Or (Image dotted_of (Seq (λ d. Is (codes ".")) DotParts)) (Or (Image args_of Arguments) (Image at_of (Seq (λ d. Is (codes "[")) (Seq (Operand Anywhere 0 false) (λ d. Is (codes "]"))))))))

  dot_suffix : (h : Bool) (d : ℕ) (t : Token × DotForm) → Seq (λ d. Is (codes ".")) DotParts d t → IsSuffix h d (dotted_of t)
  dot_suffix h d (dot, x) (is, inl m) = subst (λ x. IsSuffix h d (dotted_of (dot, x))) (sym m.2) (named m.0.0 m.0.1 m.1)
    where
      named : (n : Token) (o : Option Inside) → NameParts d (n, o) → IsSuffix h d (named_of (dot, (n, o)))
      named n None m = (is, m.0)
      named n (Some t) m = (is, m.0, m.1.0, m.1.1.0, m.1.1.1)
  dot_suffix h d (dot, x) (is, inr m) = subst (λ x. IsSuffix h d (dotted_of (dot, x))) (sym m.2) (is, m.1)

  to_suffix : (h : Bool) (d : ℕ) (x : Suffix) → Sides h d x → IsSuffix h d x
  to_suffix h d x (inl m) = subst (λ x. IsSuffix h d x) (sym m.2) m.1
  to_suffix h d x (inr (inl m)) = subst (λ x. IsSuffix h d x) (sym m.2) m.1
  to_suffix h d x (inr (inr (inl m))) = subst (λ x. IsSuffix h d x) (sym m.2) (dot_suffix h d m.0 m.1)
  to_suffix h d x (inr (inr (inr (inl m)))) = subst (λ x. IsSuffix h d x) (sym m.2) (m.1.0, m.1.1.0, m.1.1.1)
  to_suffix h d x (inr (inr (inr (inr m)))) = subst (λ x. IsSuffix h d x) (sym m.2) (m.1.0, m.1.1.0, m.1.1.1)

  of_suffix : (h : Bool) (d : ℕ) (x : Suffix) → IsSuffix h d x → Sides h d x
  of_suffix h d (Right op y) m = inl ((op, y), m, refl)
  of_suffix h d (Becomes op y) m = inr (inl ((op, y), m, refl))
  of_suffix h d (Method dot name o xs c) m = inr (inr (inl ((dot, Named (name, Some (o, (xs, c)))), (m.0, inl ((name, Some (o, (xs, c))), (m.1, (m.2, (m.3, m.4))), refl)), refl)))
  of_suffix h d (Args o xs c) m = inr (inr (inr (inl ((o, (xs, c)), (m.0, (m.1, m.2)), refl))))
  of_suffix h d (Member dot n) m = inr (inr (inl ((dot, Named (n, None)), (m.0, inl ((n, None), (m.1, tt), refl)), refl)))
  of_suffix h d (Number dot x) m = inr (inr (inl ((dot, Numbered x), (m.0, inr (x, m.1, refl)), refl)))
  of_suffix h d (At o y c) m = inr (inr (inr (inr ((o, (y, c)), (m.0, (m.1, m.2)), refl))))

  pub suffix_pair : (h : Bool) → Pair H depth (IsSuffix h) suffix_pieces (suffix s h) suffix_first (suffix_clear h)
  unfolding suffix
  suffix_pair h =
      same_of (to_suffix h) (of_suffix h)
      (or_of (right_pair h) (or_of (becomes_pair h) (or_of (dotted_pair h) (or_of (called_pair h) (indexed_pair h) refl) refl) refl) refl)
