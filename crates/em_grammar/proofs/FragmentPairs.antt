-- Fragments of macros are read: the longest prefix of each kind.
use Rattle.std.proofs.lemmas.List.{append-nil}
use Rattle.std.proofs.Common.{◌≡◌, ℕ, zero, suc, ◌+◌, ◌≤◌, Bool, true, false, not, ◌&&◌, ◌||◌, if◌then◌else◌, List, [], ◌∷◌, ◌++◌, length, length-append, Option, Some, None, refl, sym, ◌∙◌, ap, subst, arith, ◌⊎◌, inl, inr}
use Rattle.em_base.specs.declared.edition.Edition.{Edition}
use Rattle.em_base.specs.declared.edition.Edition.TheVariants.{E2015, E2018, E2021}
use Rattle.em_base.specs.declared.token.Token.{Token}
use Rattle.em_tree.specs.declared.expr.Block.{Block}
use Rattle.em_tree.specs.declared.expr.Body.{Body}
use Rattle.em_tree.specs.declared.expr.Expr.{Expr}
use Rattle.em_tree.specs.declared.expr.Stmt.{Stmt}
use Rattle.em_tree.specs.declared.fragment.FragmentNode.{FragmentNode}
use Rattle.em_tree.specs.declared.fragment.FragmentNode.TheVariants as node
use Rattle.em_tree.specs.declared.fragment.TokenTree.{TokenTree}
use Rattle.em_tree.specs.declared.fragment.TokenTree.TheVariants as tree
use Rattle.em_tree.specs.declared.item.Item.{Item}
use Rattle.em_tree.specs.declared.literal.Literal.{Literal}
use Rattle.em_tree.specs.declared.pat.Pat.{Pat}
use Rattle.em_tree.specs.declared.pat.TopPat.{TopPat}
use Rattle.em_tree.specs.declared.pat.TopPat.TheVariants as top
use Rattle.em_tree.specs.declared.piece.Delimited.{Delimited}
use Rattle.em_tree.specs.declared.piece.FragmentKind.{FragmentKind}
use Rattle.em_tree.specs.declared.piece.FragmentKind.TheVariants as f
use Rattle.em_tree.specs.declared.piece.Group.{Group}
use Rattle.em_tree.specs.declared.piece.Piece.{Piece}
use Rattle.em_tree.specs.declared.piece.Piece.TheVariants as p
use Rattle.em_tree.specs.declared.types.Path.{Path}
use Rattle.em_tree.specs.declared.types.TypeTree.{TypeTree}
use Rattle.em_tree.specs.Starts.{Pieces, kind_of, is_word, is_spelled, starts}
use Rattle.em_tree.specs.Tokens.{IsDelimited, delimiters}
use Rattle.em_tree.specs.Yields.{piece}
use Rattle.em_tree.specs.PathGrammar.{IsLiteral, literal_pieces, path_pieces, PathWithin, type_pieces, TypeWithin}
use Rattle.em_tree.specs.PatGrammar as gp
use Rattle.em_tree.specs.PatGrammar.{IsPat, pat_pieces, IsTopPat, top_pieces}
use Rattle.em_tree.specs.ExprGrammar.{ExprWithin, BlockWithin, IsFragmentStmt, expr_pieces, stmt_pieces, block_pieces}
use Rattle.em_tree.specs.ItemGrammar.{IsItem, item_pieces}
use Rattle.em_tree.specs.FragmentGrammar.{IsTree, tree_pieces, IsPatFragment, IsFragment, fragment_pieces, kind_of_node, Reads, ends_in_dyn, makes_keyword, DynStays, IsPrefix}
use Rattle.em_grammar.specs.declared.sort.Written.TheVariants as word
use Rattle.em_grammar.specs.Sorts.{sort_of}
use Rattle.em_grammar.specs.Sets.{Set, next, either, tokens, groups, anything, any_of, only, Nested}
use Rattle.em_grammar.specs.Lang.{Image, Or}
use Rattle.em_grammar.specs.Reader.{Read, Found, Absent, Deep, and_then, token, mapped}
use Rattle.em_grammar.specs.LiteralReader.{literal_in, literal_first}
use Rattle.em_grammar.specs.PathReader.{path_first, path_clear}
use Rattle.em_grammar.specs.TypeReader.{path_in, plain_type_in, type_first}
use Rattle.em_grammar.specs.PatReader.{pat_in, pat_first, pat_clear, top_pat_in, top_first, top_clear}
use Rattle.em_grammar.specs.TextReader.{delimited, delimited_pieces, opens_sort}
use Rattle.em_grammar.specs.Pairs.{Pair, Test, Known, Begins, Exact, Sound, Takes}
use Rattle.em_grammar.specs.FragmentReader.{whole_group, token_tree, single, staying, Inner, Grounds, pat_fragment, by_kind, fragment_in, FragmentsExact, FragmentsRead}
use Rattle.em_grammar.proofs.Pairs.{tok}
use Rattle.em_grammar.proofs.Forms.{image_of, or_apart, same_of}
use Rattle.em_grammar.proofs.Steady.{firm_same}
use Rattle.em_grammar.proofs.Tests.{any_sort}
use Rattle.em_grammar.proofs.Nesting.{exact_of}
use Rattle.em_grammar.proofs.LiteralPairs.{literal_reads}
use Rattle.em_grammar.proofs.TypePairs.{paths_read, plain_types_read}
use Rattle.em_grammar.proofs.FirmTypes.{literal_firm}
use Rattle.em_grammar.proofs.PatLayers.{pieces_alternatives}
use Rattle.em_grammar.proofs.PatPairs.{pats_read, tops_read}
use Rattle.em_grammar.proofs.TextPairs.{texts_read}
use Rattle.em_grammar.proofs.GrammarLaws.{paths_steady, pats_steady, tops_steady, tops_exact, types_exact}

-- ---- words and token trees

trivial_test : (test : Token → Bool) (b : Bool) (flip : Bool → Bool) → ((x : Bool) → flip x ≡ true → x ≡ b) → ((x : Bool) → x ≡ b → flip x ≡ true) → Test (λ t. test t ≡ b) (λ t. flip (test t)) (λ k. true)
trivial_test test b flip to of = record { holds = λ t h. to (test t) h; told = λ t h. of (test t) h; sorted = λ t h. refl }

not_to : (x : Bool) → not x ≡ true → x ≡ false
not_to true h = sym h
not_to false h = refl

not_of : (x : Bool) → x ≡ false → not x ≡ true
not_of x h = ap (λ b. not b) h

group_pair : (H : Pieces → Type 0) (depth : ℕ) → Pair H depth (λ d g. Unit {0}) (λ g. p.Group g ∷ []) whole_group (groups (λ k. true)) (λ _. anything)
group_pair H depth = record {
  grows = λ d t m. m;
  sound = sound;
  begins = λ d t h m. refl;
  whole = λ d t r h w m cl. refl;
  longest = λ d t r h w m en. omega arith;
  absent = absent;
}
  where
    sound : (i : Pieces) → Sound (λ d g. Unit {0}) (λ g. p.Group g ∷ []) (whole_group i) i
    sound [] = tt
    sound (p.Token t ∷ r) = tt
    sound (p.Group g ∷ r) = ((0, tt), refl)

    absent : (i : Pieces) → next (groups (λ k. true)) i ≡ false → whole_group i ≡ Absent
    absent [] h = refl
    absent (p.Token t ∷ r) h = refl
    absent (p.Group g ∷ r) h = cc

abbrev TreeSides : ℕ → TokenTree → Type 0
TreeSides = Or (Image tree.Token (λ d t. is_spelled delimiters t ≡ false)) (Or (Image tree.Group (λ d g. Unit {0})) (Image tree.Delimited (λ d. IsDelimited)))

to_tree : (d : ℕ) (x : TokenTree) → TreeSides d x → IsTree x
to_tree d x (inl m) = subst (λ x. IsTree x) (sym m.2) m.1
to_tree d x (inr (inl m)) = subst (λ x. IsTree x) (sym m.2) m.1
to_tree d x (inr (inr m)) = subst (λ x. IsTree x) (sym m.2) m.1

of_tree : (d : ℕ) (x : TokenTree) → IsTree x → TreeSides d x
of_tree d (tree.Token t) m = inl (t, m, refl)
of_tree d (tree.Group g) m = inr (inl (g, m, refl))
of_tree d (tree.Delimited x) m = inr (inr (x, m, refl))

-- what opens is a delimiter
three_in_six : (a b c k l m : Bool) → (a || (b || (c || false))) ≡ true → (a || (k || (b || (l || (c || (m || false)))))) ≡ true
three_in_six true b c k l m h = refl
three_in_six false true c true l m h = refl
three_in_six false true c false l m h = refl
three_in_six false false true true l m h = refl
three_in_six false false true false true m h = refl
three_in_six false false true false false m h = refl
three_in_six false false false k l m h = cc

opening_is : (t : Token) → opens_sort (sort_of t) ≡ true → is_spelled delimiters t ≡ true
opening_is t h =
    sym (any_sort (word.OpenParen ∷ word.CloseParen ∷ word.OpenBracket ∷ word.CloseBracket ∷ word.OpenBrace ∷ word.CloseBrace ∷ []) t)
    ∙ three_in_six (only word.OpenParen (sort_of t)) (only word.OpenBracket (sort_of t)) (only word.OpenBrace (sort_of t)) (only word.CloseParen (sort_of t)) (only word.CloseBracket (sort_of t)) (only word.CloseBrace (sort_of t)) h

abbrev tree_first : Set
tree_first = either (tokens (λ k. true)) (either (groups (λ k. true)) (tokens opens_sort))

tree_pair : (n depth : ℕ) → Pair (Nested n) depth (λ d. IsTree) tree_pieces token_tree tree_first (λ _. anything)
tree_pair n depth =
    same_of to_tree of_tree
    (or_apart (image_of tree.Token tree_pieces (λ d t m. refl) (λ _. refl) (tok (trivial_test (λ t. is_spelled delimiters t) false not not_to not_of)))
    (or_apart (image_of tree.Group tree_pieces (λ d t m. refl) (λ _. refl) (group_pair (Nested n) depth)) (image_of tree.Delimited tree_pieces (λ d t m. refl) (λ _. refl) (texts_read n depth)) no_group) no_token)
  where
    no_group : (d : ℕ) (x : TokenTree) (r : Pieces) → d ≤ depth → Image tree.Delimited (λ d. IsDelimited) d x → mapped tree.Group whole_group (tree_pieces x ++ r) ≡ Absent
    no_group d x r h m = ap (λ k. mapped tree.Group whole_group (tree_pieces k ++ r)) m.2

    no_token : (d : ℕ) (x : TokenTree) (r : Pieces) → d ≤ depth → Or (Image tree.Group (λ d g. Unit {0})) (Image tree.Delimited (λ d. IsDelimited)) d x
        → mapped tree.Token (token (λ t. not (is_spelled delimiters t))) (tree_pieces x ++ r) ≡ Absent
    no_token d x r h (inl m) = ap (λ k. mapped tree.Token (token (λ t. not (is_spelled delimiters t))) (tree_pieces k ++ r)) m.2
    no_token d x r h (inr m) =
        ap (λ k. mapped tree.Token (token (λ t. not (is_spelled delimiters t))) (tree_pieces k ++ r)) m.2
        ∙ ap (λ b. and_then (if not b then Found m.0.open (m.0.text ++ p.Token m.0.close ∷ [] ++ r) else Absent) (λ a r. Found (tree.Token a) r)) (opening_is m.0.open ((texts_read n depth).begins d m.0 h m.1))

-- ---- what is known of each category

word_known : Known (λ d t. is_word t ≡ true) piece (λ n depth. token is_word)
word_known = record {
  first = tokens (λ k. true);
  clear = λ _. anything;
  reads = λ n depth. tok (trivial_test is_word true (λ x. x) (λ x h. h) (λ x h. h));
  ends = λ d t m. refl;
  steady = λ n m d e h k. firm_same (token is_word);
}

tree_known : Known (λ d. IsTree) tree_pieces (λ n depth. token_tree)
tree_known = record { first = tree_first; clear = λ _. anything; reads = tree_pair; ends = λ d t m. refl; steady = λ n m d e h k. firm_same token_tree }

literal_known : Known (λ d. IsLiteral true) literal_pieces (λ n depth. literal_in true n)
literal_known = record { first = literal_first true; clear = λ _. anything; reads = literal_reads true; ends = λ d t m. refl; steady = λ n m d e h k. literal_firm true n m h }

path_known : Known PathWithin path_pieces path_in
path_known = record { first = path_first; clear = λ _. path_clear; reads = paths_read; ends = λ d t m. refl; steady = paths_steady }

pat_known : Known IsPat pat_pieces pat_in
pat_known = record { first = pat_first; clear = λ _. pat_clear; reads = pats_read; ends = λ d t m. refl; steady = pats_steady }

top_known : Known IsTopPat top_pieces top_pat_in
top_known = record { first = top_first; clear = λ _. top_clear; reads = tops_read; ends = λ d t m. refl; steady = tops_steady }

-- ---- fragments of a kind

starts_on : (kind : FragmentKind) (e : Edition) (ys r : Pieces) → starts kind e ys ≡ true → starts kind e (ys ++ r) ≡ true
unfolding starts
starts_on kind e [] r h = cc
starts_on kind e (p.Token t ∷ ys) r h = h
starts_on kind e (p.Group g ∷ ys) r h = h

starts_back : (kind : FragmentKind) (e : Edition) (ys r : Pieces) → (ys ≡ [] → ⊥) → starts kind e (ys ++ r) ≡ true → starts kind e ys ≡ true
unfolding starts
starts_back kind e [] r some h = absurd (some refl)
starts_back kind e (p.Token t ∷ ys) r some h = h
starts_back kind e (p.Group g ∷ ys) r some h = h

-- what stood behind a test
behind : {A : Type 0} (b : Bool) (m : Read A) (x : A) (r : Pieces) → (if b then m else Absent) ≡ Found x r → (b ≡ true) × (m ≡ Found x r)
behind true m x r h = (refl, h)
behind false m x r h = cc

made_back : {A B : Type 0} (make : A → B) (m : Read A) (x : B) (r : Pieces) → and_then m (λ a r. Found (make a) r) ≡ Found x r → (t : A) × (m ≡ Found t r) × (x ≡ make t)
made_back make (Found t q) x r h = (t, ap (λ k. Found t k) (let same : q ≡ r = cc in same), let same : x ≡ make t = cc in same)
made_back make Absent x r h = cc
made_back make Deep x r h = cc

absent_back : {A B : Type 0} (make : A → B) (m : Read A) → and_then m (λ a r. Found (make a) r) ≡ Absent → m ≡ Absent
absent_back make (Found t q) h = cc
absent_back make Absent h = refl
absent_back make Deep h = cc

module _ (T : Type 0) (M : ℕ → T → Type 0) (z : T → Pieces) (P : ℕ → ℕ → Pieces → Read T) (a : Known M z P) (kind : FragmentKind) (e : Edition) (make : T → FragmentNode) (other : kind ≡ f.Ty → ⊥)
    (to : (d : ℕ) (t : T) → M d t → IsFragment e d (make t)) (of : (d : ℕ) (x : FragmentNode) → kind_of_node x ≡ kind → IsFragment e d x → (t : T) × M d t × (x ≡ make t))
    (yield : (t : T) → fragment_pieces (make t) ≡ z t) (kinds : (t : T) → kind_of_node (make t) ≡ kind) where
  exact : Exact M z P
  exact = exact_of T M z P a.first a.clear a.reads a.ends a.steady

  some : (d : ℕ) (t : T) → M d t → z t ≡ [] → ⊥
  some d t m is = subst (λ ys. Begins a.first ys) is ((a.reads 0 d).begins d t (omega arith) m)

  abbrev reader : ℕ → ℕ → Pieces → Read FragmentNode
  reader n depth i = if starts kind e i then mapped make (P n depth) i else Absent

  -- a prefix is a member, and starts the kind
  member : (d : ℕ) (y : FragmentNode) (ys rest : Pieces) → kind_of_node y ≡ kind → IsPrefix e d ys rest y → (u : T) × M d u × (ys ≡ z u) × (starts kind e ys ≡ true)
  member d y ys rest k q =
      let u : (t : T) × M d t × (y ≡ make t) = of d y k q.reads.tree in
      (u.0, u.1, q.reads.yields ∙ ap (λ x. fragment_pieces x) u.2 ∙ yield u.0, subst (λ k. starts k e ys ≡ true) k q.reads.starts)

  prefix : (i : Pieces) (t : T) (r : Pieces) (d : ℕ) → M d t → i ≡ z t ++ r → starts kind e i ≡ true → IsPrefix e d (z t) r (make t)
  prefix i t r d m is st = record {
    reads = record {
      starts = subst (λ k. starts k e (z t) ≡ true) (sym (kinds t)) (starts_back kind e (z t) r (some d t m) (subst (λ k. starts kind e k ≡ true) is st));
      yields = sym (yield t);
      tree = to d t m;
    };
    stays = λ k. absurd (other (sym (kinds t) ∙ k));
  }

  pub fragments_of : FragmentsExact kind e reader
  fragments_of = record {
    found = λ n depth i x r h.
        let b : (starts kind e i ≡ true) × (mapped make (P n depth) i ≡ Found x r) = behind (starts kind e i) (mapped make (P n depth) i) x r h in
        let t : (t : T) × (P n depth i ≡ Found t r) × (x ≡ make t) = made_back make (P n depth i) x r b.1 in
        let q : ((d : ℕ) × M d t.0) × (i ≡ z t.0 ++ r) = exact.found n depth i t.0 r t.1 in (
          q.0.0,
          z t.0,
          q.1,
          ap (λ k. kind_of_node k) t.2 ∙ kinds t.0,
          subst (λ x. IsPrefix e q.0.0 (z t.0) r x) (sym t.2) (prefix i t.0 r q.0.0 q.0.1 q.1 b.0),
        );
    longest = λ n depth i x r h d y ys rest is k q.
        let b : (starts kind e i ≡ true) × (mapped make (P n depth) i ≡ Found x r) = behind (starts kind e i) (mapped make (P n depth) i) x r h in
        let t : (t : T) × (P n depth i ≡ Found t r) × (x ≡ make t) = made_back make (P n depth i) x r b.1 in
        let u : (u : T) × M d u × (ys ≡ z u) × (starts kind e ys ≡ true) = member d y ys rest k q in
        exact.longest n depth i t.0 r t.1 d u.0 rest u.1 (is ∙ ap (λ k. k ++ rest) u.2);
    none = λ n depth i h d y ys rest is k q.
        let u : (u : T) × M d u × (ys ≡ z u) × (starts kind e ys ≡ true) = member d y ys rest k q in
        let st : starts kind e i ≡ true = subst (λ k. starts kind e k ≡ true) (sym is) (starts_on kind e ys rest u.3) in
        let away : mapped make (P n depth) i ≡ Absent = sym (ap (λ b. if b then mapped make (P n depth) i else Absent) st) ∙ h in
        exact.none n depth i (absent_back make (P n depth i) away) d u.0 rest u.1 (is ∙ ap (λ k. k ++ rest) u.2);
  }

-- ---- types

cut_same : (xs ys us vs : Pieces) → xs ++ ys ≡ us ++ vs → length xs ≡ length us → (xs ≡ us) × (ys ≡ vs)
cut_same [] ys [] vs h k = (refl, h)
cut_same [] ys (u ∷ us) vs h k = absurd (omega (arith, k))
cut_same (x ∷ xs) ys [] vs h k = absurd (omega (arith, k))
cut_same (x ∷ xs) ys (u ∷ us) vs h k =
    let front : x ≡ u = cc in
    let back : xs ++ ys ≡ us ++ vs = cc in
    let more : (xs ≡ us) × (ys ≡ vs) = cut_same xs ys us vs back (omega (arith, k)) in
    (ap (λ k. k ∷ xs) front ∙ ap (λ l. u ∷ l) more.0, more.1)

stayed : (m : Read TypeTree) (t : TypeTree) (r : Pieces) → staying m ≡ Found t r → (m ≡ Found t r) × ((ends_in_dyn (type_pieces t) && makes_keyword r) ≡ false)
stayed (Found x q) t r h = go (ends_in_dyn (type_pieces x) && makes_keyword q) refl h
  where
    go : (b : Bool) → (ends_in_dyn (type_pieces x) && makes_keyword q) ≡ b → (if b then Absent else Found x q) ≡ Found t r
        → (Found x q ≡ Found t r) × ((ends_in_dyn (type_pieces t) && makes_keyword r) ≡ false)
    go true is h = cc
    go false is h = (h, (let same : x ≡ t = cc in let rest : q ≡ r = cc in sym (ap (λ k. ends_in_dyn (type_pieces k) && makes_keyword q) same ∙ ap (λ k. ends_in_dyn (type_pieces t) && makes_keyword k) rest) ∙ is))
stayed Absent t r h = cc
stayed Deep t r h = cc

left : (m : Read TypeTree) → staying m ≡ Absent → (m ≡ Absent) ⊎ ((t : TypeTree) × (r : Pieces) × (m ≡ Found t r) × ((ends_in_dyn (type_pieces t) && makes_keyword r) ≡ true))
left (Found x q) h = go (ends_in_dyn (type_pieces x) && makes_keyword q) refl h
  where
    go : (b : Bool) → (ends_in_dyn (type_pieces x) && makes_keyword q) ≡ b → (if b then Absent else Found x q) ≡ Absent
        → (Found x q ≡ Absent) ⊎ ((t : TypeTree) × (r : Pieces) × (Found x q ≡ Found t r) × ((ends_in_dyn (type_pieces t) && makes_keyword r) ≡ true))
    go true is h = inr (x, q, refl, is)
    go false is h = cc
left Absent h = inl refl
left Deep h = cc

type_is : (e : Edition) (d : ℕ) (x : FragmentNode) → kind_of_node x ≡ f.Ty → IsFragment e d x → (t : TypeTree) × TypeWithin d t × (x ≡ node.Ty t)
type_is e d (node.Ty t) k m = (t, m, refl)
type_is e d _ k m = cc

module _ (e : Edition) where
  abbrev type_reader : ℕ → ℕ → Pieces → Read FragmentNode
  type_reader n depth i = if starts f.Ty e i then mapped node.Ty (λ i. staying (plain_type_in n depth i)) i else Absent

  type_some : (d : ℕ) (t : TypeTree) → TypeWithin d t → type_pieces t ≡ [] → ⊥
  type_some d t m is = subst (λ ys. Begins type_first ys) is ((plain_types_read 0 d).begins d t (omega arith) m)

  -- the longest type stays, so no longer one doesn't
  dyn_stays : (n depth : ℕ) (i : Pieces) (t : TypeTree) (r : Pieces) → plain_type_in n depth i ≡ Found t r → i ≡ type_pieces t ++ r → (ends_in_dyn (type_pieces t) && makes_keyword r) ≡ false
      → DynStays (type_pieces t) r
  dyn_stays n depth i t r found at never longer after d y is yl m len =
      let short : length r ≤ length after = types_exact.longest n depth i t r found d y after m (at ∙ is ∙ ap (λ k. k ++ after) yl) in
      let sizes : length (type_pieces t) + length r ≡ length longer + length after
      = sym (length-append (type_pieces t) r) ∙ ap (λ k. length k) is ∙ length-append longer after in
      let same : (type_pieces t ≡ longer) × (r ≡ after) = cut_same (type_pieces t) r longer after is (omega (arith, short, sizes, len)) in
      sym (ap (λ k. ends_in_dyn k && makes_keyword r) same.0 ∙ ap (λ k. ends_in_dyn longer && makes_keyword k) same.1) ∙ never

  member_type : (d : ℕ) (y : FragmentNode) (ys rest : Pieces) → kind_of_node y ≡ f.Ty → IsPrefix e d ys rest y → (u : TypeTree) × TypeWithin d u × (ys ≡ type_pieces u) × (starts f.Ty e ys ≡ true)
  member_type d y ys rest k q =
      let u : (t : TypeTree) × TypeWithin d t × (y ≡ node.Ty t) = type_is e d y k q.reads.tree in
      (u.0, u.1, q.reads.yields ∙ ap (λ x. fragment_pieces x) u.2, subst (λ k. starts k e ys ≡ true) k q.reads.starts)

  types_of : FragmentsExact f.Ty e type_reader
  types_of = record {
    found = λ n depth i x r h.
        let b : (starts f.Ty e i ≡ true) × (mapped node.Ty (λ i. staying (plain_type_in n depth i)) i ≡ Found x r) = behind (starts f.Ty e i) (mapped node.Ty (λ i. staying (plain_type_in n depth i)) i) x r h in
        let t : (t : TypeTree) × (staying (plain_type_in n depth i) ≡ Found t r) × (x ≡ node.Ty t) = made_back node.Ty (staying (plain_type_in n depth i)) x r b.1 in
        let s : (plain_type_in n depth i ≡ Found t.0 r) × ((ends_in_dyn (type_pieces t.0) && makes_keyword r) ≡ false) = stayed (plain_type_in n depth i) t.0 r t.1 in
        let q : ((d : ℕ) × TypeWithin d t.0) × (i ≡ type_pieces t.0 ++ r) = types_exact.found n depth i t.0 r s.0 in (
          q.0.0,
          type_pieces t.0,
          q.1,
          ap (λ k. kind_of_node k) t.2,
          subst (λ x. IsPrefix e q.0.0 (type_pieces t.0) r x) (sym t.2) (record {
            reads = record {
              starts = starts_back f.Ty e (type_pieces t.0) r (type_some q.0.0 t.0 q.0.1) (subst (λ k. starts f.Ty e k ≡ true) q.1 b.0);
              yields = refl;
              tree = q.0.1;
            };
            stays = λ k. dyn_stays n depth i t.0 r s.0 q.1 s.1;
          }),
        );
    longest = λ n depth i x r h d y ys rest is k q.
        let b : (starts f.Ty e i ≡ true) × (mapped node.Ty (λ i. staying (plain_type_in n depth i)) i ≡ Found x r) = behind (starts f.Ty e i) (mapped node.Ty (λ i. staying (plain_type_in n depth i)) i) x r h in
        let t : (t : TypeTree) × (staying (plain_type_in n depth i) ≡ Found t r) × (x ≡ node.Ty t) = made_back node.Ty (staying (plain_type_in n depth i)) x r b.1 in
        let s : (plain_type_in n depth i ≡ Found t.0 r) × ((ends_in_dyn (type_pieces t.0) && makes_keyword r) ≡ false) = stayed (plain_type_in n depth i) t.0 r t.1 in
        let u : (u : TypeTree) × TypeWithin d u × (ys ≡ type_pieces u) × (starts f.Ty e ys ≡ true) = member_type d y ys rest k q in
        types_exact.longest n depth i t.0 r s.0 d u.0 rest u.1 (is ∙ ap (λ k. k ++ rest) u.2);
    none = λ n depth i h d y ys rest is k q.
        let u : (u : TypeTree) × TypeWithin d u × (ys ≡ type_pieces u) × (starts f.Ty e ys ≡ true) = member_type d y ys rest k q in
        let st : starts f.Ty e i ≡ true = subst (λ k. starts f.Ty e k ≡ true) (sym is) (starts_on f.Ty e ys rest u.3) in
        let away : mapped node.Ty (λ i. staying (plain_type_in n depth i)) i ≡ Absent = sym (ap (λ b. if b then mapped node.Ty (λ i. staying (plain_type_in n depth i)) i else Absent) st) ∙ h in
        nothing n depth i (left (plain_type_in n depth i) (absent_back node.Ty (staying (plain_type_in n depth i)) away)) d u.0 ys rest u.1 u.2 is (q.stays k);
  }
    where
      nothing : (n depth : ℕ) (i : Pieces)
          → (plain_type_in n depth i ≡ Absent) ⊎ ((t : TypeTree) × (r : Pieces) × (plain_type_in n depth i ≡ Found t r) × ((ends_in_dyn (type_pieces t) && makes_keyword r) ≡ true))
          → (d : ℕ) (u : TypeTree) (ys rest : Pieces) → TypeWithin d u → ys ≡ type_pieces u → i ≡ ys ++ rest → DynStays ys rest → ⊥
      nothing n depth i (inl h) d u ys rest m yu is stays = types_exact.none n depth i h d u rest m (is ∙ ap (λ k. k ++ rest) yu)
      nothing n depth i (inr h) d u ys rest m yu is stays =
          let q : ((d : ℕ) × TypeWithin d h.0) × (i ≡ type_pieces h.0 ++ h.1) = types_exact.found n depth i h.0 h.1 h.2 in
          let short : length h.1 ≤ length rest = types_exact.longest n depth i h.0 h.1 h.2 d u rest m (is ∙ ap (λ k. k ++ rest) yu) in
          let sizes : length ys + length rest ≡ length (type_pieces h.0) + length h.1
          = sym (length-append ys rest) ∙ ap (λ k. length k) (sym is ∙ q.1) ∙ length-append (type_pieces h.0) h.1 in
          let never : (ends_in_dyn (type_pieces h.0) && makes_keyword h.1) ≡ false = stays (type_pieces h.0) h.1 q.0.0 h.0 (sym is ∙ q.1) refl q.0.1 (omega (arith, short, sizes)) in
          let yes : (ends_in_dyn (type_pieces h.0) && makes_keyword h.1) ≡ true = h.3 in
          cc

-- ---- patterns before 2021

pub single_pieces : (x : Pat) → top_pieces (single x) ≡ pat_pieces x
single_pieces x = pieces_alternatives (record { bar = None; pat = x } ∷ []) ∙ append-nil (pat_pieces x)

single_is : (d : ℕ) (x : Pat) → IsPat d x → IsTopPat d (single x)
single_is d x m = gp.IsTopPat.alternatives (top.outs-Alternatives (record { bar = None; pat = x } ∷ [])) (tt, m, tt)

pub single_of : (d : ℕ) (x : TopPat) → IsTopPat d x → (y : Pat) × (top_pieces x ≡ pat_pieces y) × IsPat d y → (y : Pat) × IsPat d y × (x ≡ single y)
single_of d x m y = (y.0, y.2, tops_exact.one d d x (single y.0) m (single_is d y.0 y.2) (y.1 ∙ sym (single_pieces y.0)))

-- ---- all kinds

old_pat_to : (e : Edition) (d : ℕ) (t : Pat) → (e ≡ E2021 → ⊥) → IsPat d t → IsPatFragment e d (single t)
old_pat_to E2015 d t never m = (single_is d t m, (t, single_pieces t, m))
old_pat_to E2018 d t never m = (single_is d t m, (t, single_pieces t, m))
old_pat_to E2021 d t never m = absurd (never refl)

old_pat_of : (e : Edition) (d : ℕ) (x : FragmentNode) → (e ≡ E2021 → ⊥) → kind_of_node x ≡ f.Pat → IsFragment e d x → (t : Pat) × IsPat d t × (x ≡ node.Pat (single t))
old_pat_of E2015 d (node.Pat x) never k m = let y : (y : Pat) × IsPat d y × (x ≡ single y) = single_of d x m.0 m.1 in (y.0, y.1, ap (λ k. node.Pat k) y.2)
old_pat_of E2018 d (node.Pat x) never k m = let y : (y : Pat) × IsPat d y × (x ≡ single y) = single_of d x m.0 m.1 in (y.0, y.1, ap (λ k. node.Pat k) y.2)
old_pat_of E2021 d x never k m = absurd (never refl)
old_pat_of E2015 d _ never k m = cc
old_pat_of E2018 d _ never k m = cc

old_pats : (e : Edition) → (e ≡ E2021 → ⊥) → FragmentsExact f.Pat e (λ n depth i. if starts f.Pat e i then mapped (λ x. node.Pat (single x)) (pat_in n depth) i else Absent)
old_pats e never =
    fragments_of Pat IsPat pat_pieces pat_in pat_known f.Pat e (λ x. node.Pat (single x)) (λ k. cc) (λ d t m. old_pat_to e d t never m) (λ d x k m. old_pat_of e d x never k m) single_pieces (λ t. refl)

ident_of : (e : Edition) (d : ℕ) (x : FragmentNode) → kind_of_node x ≡ f.Ident → IsFragment e d x → (t : Token) × (is_word t ≡ true) × (x ≡ node.Ident t)
ident_of e d (node.Ident t) k m = (t, m, refl)
ident_of e d _ k m = cc

tt_of : (e : Edition) (d : ℕ) (x : FragmentNode) → kind_of_node x ≡ f.Tt → IsFragment e d x → (t : TokenTree) × IsTree t × (x ≡ node.Tt t)
tt_of e d (node.Tt t) k m = (t, m, refl)
tt_of e d _ k m = cc

literal_of : (e : Edition) (d : ℕ) (x : FragmentNode) → kind_of_node x ≡ f.Literal → IsFragment e d x → (t : Literal) × IsLiteral true t × (x ≡ node.Literal t)
literal_of e d (node.Literal t) k m = (t, m, refl)
literal_of e d _ k m = cc

block_of : (e : Edition) (d : ℕ) (x : FragmentNode) → kind_of_node x ≡ f.Block → IsFragment e d x → (t : Block Body) × BlockWithin d t × (x ≡ node.Block t)
block_of e d (node.Block t) k m = (t, m, refl)
block_of e d _ k m = cc

expr_of : (e : Edition) (d : ℕ) (x : FragmentNode) → kind_of_node x ≡ f.Expr → IsFragment e d x → (t : Expr) × ExprWithin d t × (x ≡ node.Expr t)
expr_of e d (node.Expr t) k m = (t, m, refl)
expr_of e d _ k m = cc

stmt_of : (e : Edition) (d : ℕ) (x : FragmentNode) → kind_of_node x ≡ f.Stmt → IsFragment e d x → (t : Stmt) × IsFragmentStmt d t × (x ≡ node.Stmt t)
stmt_of e d (node.Stmt t) k m = (t, m, refl)
stmt_of e d _ k m = cc

path_of : (e : Edition) (d : ℕ) (x : FragmentNode) → kind_of_node x ≡ f.Path → IsFragment e d x → (t : Path) × PathWithin d t × (x ≡ node.Path t)
path_of e d (node.Path t) k m = (t, m, refl)
path_of e d _ k m = cc

top_of : (d : ℕ) (x : FragmentNode) → kind_of_node x ≡ f.Pat → IsFragment E2021 d x → (t : TopPat) × IsTopPat d t × (x ≡ node.Pat t)
top_of d (node.Pat t) k m = (t, m, refl)
top_of d _ k m = cc

param_of : (e : Edition) (d : ℕ) (x : FragmentNode) → kind_of_node x ≡ f.PatParam → IsFragment e d x → (t : Pat) × IsPat d t × (x ≡ node.PatParam t)
param_of e d (node.PatParam t) k m = (t, m, refl)
param_of e d _ k m = cc

item_of : (e : Edition) (d : ℕ) (x : FragmentNode) → kind_of_node x ≡ f.Item → IsFragment e d x → (t : Item) × IsItem d t × (x ≡ node.Item t)
item_of e d (node.Item t) k m = (t, m, refl)
item_of e d _ k m = cc

pub fragments_read : FragmentsRead
unfolding fragment_in
fragments_read s a f.Ident e =
    fragments_of Token (λ d t. is_word t ≡ true) piece (λ n depth. token is_word) word_known f.Ident e node.Ident (λ k. cc) (λ d t m. m) (ident_of e) (λ t. refl) (λ t. refl)
fragments_read s a f.Tt e = fragments_of TokenTree (λ d. IsTree) tree_pieces (λ n depth. token_tree) tree_known f.Tt e node.Tt (λ k. cc) (λ d t m. m) (tt_of e) (λ t. refl) (λ t. refl)
fragments_read s a f.Literal e =
    fragments_of Literal (λ d. IsLiteral true) literal_pieces (λ n depth. literal_in true n) literal_known f.Literal e node.Literal (λ k. cc) (λ d t m. m) (literal_of e) (λ t. refl) (λ t. refl)
fragments_read s a f.Block e = fragments_of (Block Body) BlockWithin block_pieces s.blocks a.blocks f.Block e node.Block (λ k. cc) (λ d t m. m) (block_of e) (λ t. refl) (λ t. refl)
fragments_read s a f.Expr e = fragments_of Expr ExprWithin expr_pieces s.exprs a.exprs f.Expr e node.Expr (λ k. cc) (λ d t m. m) (expr_of e) (λ t. refl) (λ t. refl)
fragments_read s a f.Stmt e = fragments_of Stmt IsFragmentStmt stmt_pieces s.stmts a.stmts f.Stmt e node.Stmt (λ k. cc) (λ d t m. m) (stmt_of e) (λ t. refl) (λ t. refl)
fragments_read s a f.Ty e = types_of e
fragments_read s a f.Path e = fragments_of Path PathWithin path_pieces path_in path_known f.Path e node.Path (λ k. cc) (λ d t m. m) (path_of e) (λ t. refl) (λ t. refl)
fragments_read s a f.Pat E2015 = old_pats E2015 (λ h. cc)
fragments_read s a f.Pat E2018 = old_pats E2018 (λ h. cc)
fragments_read s a f.Pat E2021 = fragments_of TopPat IsTopPat top_pieces top_pat_in top_known f.Pat E2021 node.Pat (λ k. cc) (λ d t m. m) top_of (λ t. refl) (λ t. refl)
fragments_read s a f.PatParam e = fragments_of Pat IsPat pat_pieces pat_in pat_known f.PatParam e node.PatParam (λ k. cc) (λ d t m. m) (param_of e) (λ t. refl) (λ t. refl)
fragments_read s a f.Item e = fragments_of Item IsItem item_pieces s.items a.items f.Item e node.Item (λ k. cc) (λ d t m. m) (item_of e) (λ t. refl) (λ t. refl)
