-- Literals are read.
use Rattle.std.proofs.Common.{◌≡◌, ℕ, zero, suc, Bool, true, false, List, refl, sym, ◌∙◌, ap, subst, inl, inr}
use Rattle.std.specs.Prelude.{codes}
use Rattle.em_base.specs.declared.token.Token.{Token}
use Rattle.em_tree.specs.declared.piece.FragmentKind.{FragmentKind}
use Rattle.em_tree.specs.declared.piece.FragmentKind.TheVariants as fk
use Rattle.em_tree.specs.declared.piece.Group.{Group}
use Rattle.em_tree.specs.declared.piece.Piece.{Piece}
use Rattle.em_tree.specs.declared.literal.Literal.{Literal, out-Literal, fold-Literal, fold_out-Literal, map-Literal}
use Rattle.em_tree.specs.declared.literal.Literal.TheViews.{roll-Literal, roll-out-Literal}
use Rattle.em_tree.specs.declared.literal.Literal.TheVariants as made
use Rattle.em_tree.specs.declared.literal.Literal.TheOpen.{Literal-F}
use Rattle.em_tree.specs.Starts.{Pieces, kind_of, pieces_of}
use Rattle.em_tree.specs.Parts.{literal_parts, literal_step}
use Rattle.em_tree.specs.Tokens.{Is, IsLiteralToken, IsInt}
use Rattle.em_tree.specs.Yields.{piece, whole, as_it_is}
use Rattle.em_tree.specs.PathGrammar as g
use Rattle.em_tree.specs.PathGrammar.{literal_pieces, IsLiteral, IsIntLiteral}
use Rattle.em_grammar.specs.declared.sort.Written.TheVariants as word
use Rattle.em_grammar.specs.declared.sort.Sort.{Sort}
use Rattle.em_grammar.specs.Sorts.{sort_of}
use Rattle.em_grammar.specs.Sets.{Set, tokens, groups, anything, int_sort, literal_sort, Nested}
use Rattle.em_grammar.specs.Lang.{Seq, Image, Or, Grp, joined, grouped}
use Rattle.em_grammar.specs.Reader.{Read, Deep, token, mapped, group}
use Rattle.em_grammar.specs.LiteralReader.{literal_kind, is_literal_group, unsigned_first, signed_first, negative_of, literal_group_of, unsigned, unsigned_in, signed, signed_in, literal_in, literal_first, int_in}
use Rattle.em_grammar.specs.Pairs.{Pair, Test}
use Rattle.em_grammar.proofs.Pairs.{tok, seq_of}
use Rattle.em_grammar.proofs.Forms.{image_of, or_of, same_of, Opened, opened_of, unopened, group_of}
use Rattle.em_grammar.proofs.Tests.{sign, int, literal}

-- ---- one layer

at_layer : (x : Literal) (l : Literal-F Literal) → out-Literal x ≡ l → literal_pieces x ≡ literal_step piece whole as_it_is (map-Literal Literal (List Piece) literal_pieces l)
unfolding literal_parts
at_layer x l is = fold_out-Literal (List Piece) (literal_step piece whole as_it_is) x ∙ ap (λ k. literal_step piece whole as_it_is (map-Literal Literal (List Piece) (fold-Literal (List Piece) (literal_step piece whole as_it_is)) k)) is

pub pieces_token : (t : Token) → literal_pieces (made.Token t) ≡ piece t
pieces_token t = at_layer (made.Token t) (Literal-F.Token t) (made.outs-Token t)

pub pieces_negative : (t : Token × Literal) → literal_pieces (negative_of t) ≡ joined piece literal_pieces t
pieces_negative t = at_layer (negative_of t) (Literal-F.Negative t.0 t.1) (made.outs-Negative t.0 t.1)

pub pieces_group : (t : Group × Literal) → literal_pieces (literal_group_of t) ≡ grouped t
pieces_group t = at_layer (literal_group_of t) (Literal-F.Group t.0 t.1) (made.outs-Group t.0 t.1)

pub same_literal : (x y : Literal) → out-Literal x ≡ out-Literal y → x ≡ y
same_literal x y is = sym (roll-out-Literal x) ∙ ap (λ l. roll-Literal l) is ∙ roll-out-Literal y

pub kind_literal : (k : FragmentKind) → literal_kind k ≡ true → k ≡ fk.Literal
kind_literal fk.Literal h = refl
kind_literal _ h = cc

-- ---- the grammar's words and the library's

abbrev TokenSide : (Token → Type 0) → ℕ → Literal → Type 0
TokenSide Q = Image made.Token (λ d. Q)

abbrev GroupSide : (Literal → Type 0) → ℕ → Literal → Type 0
GroupSide L = Image literal_group_of (Grp is_literal_group (λ d. L) literal_pieces)

abbrev NegativeSide : ℕ → Literal → Type 0
NegativeSide = Image negative_of (Seq (λ d. Is (codes "-")) (λ d. IsLiteral false))

to_token : (signed : Bool) (x : Literal) (t : Token) → x ≡ made.Token t → IsLiteralToken t → IsLiteral signed x
to_token signed x t is m = g.IsLiteral.token (ap (λ k. out-Literal k) is ∙ made.outs-Token t) m

to_group : (signed : Bool) (x : Literal) (gr : Group) (y : Literal) → x ≡ made.Group gr y → is_literal_group gr ≡ true → pieces_of gr ≡ literal_pieces y → IsLiteral signed y → IsLiteral signed x
to_group signed x gr y is k ps m = g.IsLiteral.group (ap (λ k. out-Literal k) is ∙ made.outs-Group gr y) (kind_literal (kind_of gr) k) ps m

to_unsigned : (d : ℕ) (x : Literal) → Or (TokenSide IsLiteralToken) (GroupSide (IsLiteral false)) d x → IsLiteral false x
to_unsigned d x (inl m) = to_token false x m.0 m.2 m.1
to_unsigned d x (inr m) = to_group false x m.0.0 m.0.1 m.2 m.1.0 m.1.1 m.1.2

of_unsigned : (d : ℕ) (s : Bool) (x : Literal) → s ≡ false → IsLiteral s x → Or (TokenSide IsLiteralToken) (GroupSide (IsLiteral false)) d x
of_unsigned d _ _ e (g.IsLiteral.token {signed} {x} {t} is m) = inl (t, m, same_literal x (made.Token t) (is ∙ sym (made.outs-Token t)))
of_unsigned d _ _ e (g.IsLiteral.negative is m n) = cc
of_unsigned d _ _ e (g.IsLiteral.group {signed} {x} {y} {g = gr} is k ps m) =
    inr ((gr, y), (ap (λ k. literal_kind k) k, ps, subst (λ s. IsLiteral s y) e m), same_literal x (made.Group gr y) (is ∙ sym (made.outs-Group gr y)))

abbrev SignedSides : ℕ → Literal → Type 0
SignedSides = Or NegativeSide (Or (TokenSide IsLiteralToken) (GroupSide (IsLiteral true)))

to_signed : (d : ℕ) (x : Literal) → SignedSides d x → IsLiteral true x
to_signed d x (inl m) = g.IsLiteral.negative (ap (λ k. out-Literal k) m.2 ∙ made.outs-Negative m.0.0 m.0.1) m.1.0 m.1.1
to_signed d x (inr (inl m)) = to_token true x m.0 m.2 m.1
to_signed d x (inr (inr m)) = to_group true x m.0.0 m.0.1 m.2 m.1.0 m.1.1 m.1.2

of_signed : (d : ℕ) (s : Bool) (x : Literal) → s ≡ true → IsLiteral s x → SignedSides d x
of_signed d _ _ e (g.IsLiteral.token {signed} {x} {t} is m) = inr (inl (t, m, same_literal x (made.Token t) (is ∙ sym (made.outs-Token t))))
of_signed d _ _ e (g.IsLiteral.negative {x} {y} {minus} is m n) = inl ((minus, y), (m, n), same_literal x (made.Negative minus y) (is ∙ sym (made.outs-Negative minus y)))
of_signed d _ _ e (g.IsLiteral.group {signed} {x} {y} {g = gr} is k ps m) =
    inr (inr ((gr, y), (ap (λ k. literal_kind k) k, ps, subst (λ s. IsLiteral s y) e m), same_literal x (made.Group gr y) (is ∙ sym (made.outs-Group gr y))))

to_int : (d : ℕ) (x : Literal) → Or (TokenSide IsInt) (GroupSide IsIntLiteral) d x → IsIntLiteral x
to_int d x (inl m) = g.IsIntLiteral.token (ap (λ k. out-Literal k) m.2 ∙ made.outs-Token m.0) m.1
to_int d x (inr m) = g.IsIntLiteral.group (ap (λ k. out-Literal k) m.2 ∙ made.outs-Group m.0.0 m.0.1) (kind_literal (kind_of m.0.0) m.1.0) m.1.1 m.1.2

of_int : (d : ℕ) (x : Literal) → IsIntLiteral x → Or (TokenSide IsInt) (GroupSide IsIntLiteral) d x
of_int d _ (g.IsIntLiteral.token {x} {t} is m) = inl (t, m, same_literal x (made.Token t) (is ∙ sym (made.outs-Token t)))
of_int d _ (g.IsIntLiteral.group {x} {y} {g = gr} is k ps m) =
    inr ((gr, y), (ap (λ k. literal_kind k) k, ps, m), same_literal x (made.Group gr y) (is ∙ sym (made.outs-Group gr y)))

-- ---- pairs

abbrev free : Literal → Set
free x = anything

module _ (H : Pieces → Type 0) (depth : ℕ) where
  token_pair : (Q : Token → Type 0) (s : Sort → Bool) → Test Q (λ t. s (sort_of t)) s
      → Pair H depth (TokenSide Q) literal_pieces (mapped made.Token (token (λ t. s (sort_of t)))) (tokens s) free
  token_pair Q s a = image_of made.Token literal_pieces (λ d t m. pieces_token t) (λ _. refl) (tok a)

  group_pair : (L : Literal → Type 0) (opened : Pieces → Read Literal) → Opened H depth (λ d. L) literal_pieces opened
      → Pair H depth (GroupSide L) literal_pieces (mapped literal_group_of (group is_literal_group opened)) (groups literal_kind) free
  group_pair L opened o = image_of literal_group_of literal_pieces (λ d t m. pieces_group t) (λ _. refl) (group_of is_literal_group literal_kind (λ g h. h) o)

  unsigned_pair : (opened : Pieces → Read Literal) → Opened H depth (λ d. IsLiteral false) literal_pieces opened
      → Pair H depth (λ d. IsLiteral false) literal_pieces (unsigned literal_sort opened) (unsigned_first literal_sort) free
  unsigned_pair opened o = same_of to_unsigned (λ d x m. of_unsigned d false x refl m) (or_of (token_pair IsLiteralToken literal_sort literal) (group_pair (IsLiteral false) opened o) refl)

  int_pair : (opened : Pieces → Read Literal) → Opened H depth (λ d. IsIntLiteral) literal_pieces opened
      → Pair H depth (λ d. IsIntLiteral) literal_pieces (unsigned int_sort opened) (unsigned_first int_sort) free
  int_pair opened o = same_of to_int of_int (or_of (token_pair IsInt int_sort int) (group_pair IsIntLiteral opened o) refl)

  signed_pair : (value opened : Pieces → Read Literal) → Pair H depth (λ d. IsLiteral false) literal_pieces value (unsigned_first literal_sort) free
      → Opened H depth (λ d. IsLiteral true) literal_pieces opened → Pair H depth (λ d. IsLiteral true) literal_pieces (signed value opened) signed_first free
  signed_pair value opened v o =
      same_of to_signed (λ d x m. of_signed d true x refl m)
      (or_of (image_of negative_of literal_pieces (λ d t m. pieces_negative t) (λ _. refl) (seq_of (tok (sign word.Minus)) v (λ _. refl)))
      (or_of (token_pair IsLiteralToken literal_sort literal) (group_pair (IsLiteral true) opened o) refl) refl)

-- ---- groups in one another

pub unsigned_reads : (n depth : ℕ) → Pair (Nested n) depth (λ d. IsLiteral false) literal_pieces (unsigned_in literal_sort n) (unsigned_first literal_sort) free
unfolding unsigned_in
unsigned_reads zero depth = unsigned_pair (Nested zero) depth (λ i. Deep) (unopened (λ d t m. m))
unsigned_reads (suc n) depth = unsigned_pair (Nested (suc n)) depth (unsigned_in literal_sort n) (opened_of (unsigned_reads n depth) (λ d t m. refl))

pub int_reads : (n depth : ℕ) → Pair (Nested n) depth (λ d. IsIntLiteral) literal_pieces (int_in n) (unsigned_first int_sort) free
unfolding unsigned_in
int_reads zero depth = int_pair (Nested zero) depth (λ i. Deep) (unopened (λ d t m. m))
int_reads (suc n) depth = int_pair (Nested (suc n)) depth (int_in n) (opened_of (int_reads n depth) (λ d t m. refl))

signed_reads : (n depth : ℕ) → Pair (Nested n) depth (λ d. IsLiteral true) literal_pieces (signed_in n) signed_first free
unfolding signed_in
signed_reads zero depth = signed_pair (Nested zero) depth (unsigned_in literal_sort zero) (λ i. Deep) (unsigned_reads zero depth) (unopened (λ d t m. m))
signed_reads (suc n) depth = signed_pair (Nested (suc n)) depth (unsigned_in literal_sort (suc n)) (signed_in n) (unsigned_reads (suc n) depth) (opened_of (signed_reads n depth) (λ d t m. refl))

pub literal_reads : (s : Bool) (n depth : ℕ) → Pair (Nested n) depth (λ d. IsLiteral s) literal_pieces (literal_in s n) (literal_first s) free
literal_reads true n depth = signed_reads n depth
literal_reads false n depth = unsigned_reads n depth
