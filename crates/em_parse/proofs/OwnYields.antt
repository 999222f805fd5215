-- A fragment is read from its own pieces, so no two of a kind have the same.
use Rattle.std.proofs.lemmas.List.{append-nil}
use Rattle.std.proofs.Common.{◌≡◌, inl, ℕ, ◌+◌, ◌≤◌, Bool, true, false, not, ◌&&◌, if◌then◌else◌, [], ◌∷◌, ◌++◌, refl, sym, ◌∙◌, ap, subst, arith}
use Rattle.em_base.specs.declared.edition.Edition.{Edition}
use Rattle.em_base.specs.declared.edition.Edition.TheVariants.{E2015, E2018, E2021}
use Rattle.em_base.specs.declared.token.Token.{Token}
use Rattle.em_tree.specs.declared.expr.Stmt.{out-Stmt}
use Rattle.em_tree.specs.declared.fragment.FragmentNode.{FragmentNode}
use Rattle.em_tree.specs.declared.fragment.FragmentNode.TheVariants as node
use Rattle.em_tree.specs.declared.fragment.TokenTree.{TokenTree}
use Rattle.em_tree.specs.declared.fragment.TokenTree.TheVariants as tree
use Rattle.em_tree.specs.declared.pat.Pat.{Pat}
use Rattle.em_tree.specs.declared.pat.TopPat.{TopPat}
use Rattle.em_tree.specs.declared.piece.FragmentKind.{FragmentKind}
use Rattle.em_tree.specs.declared.piece.Piece.TheVariants as p
use Rattle.em_tree.specs.declared.types.TypeTree.{TypeTree}
use Rattle.em_tree.specs.Starts.{Pieces, starts, is_one_of, is_spelled}
use Rattle.em_tree.specs.Tokens as spelled
use Rattle.em_tree.specs.Tokens.{Match, delimiters}
use Rattle.em_tree.specs.PathGrammar.{TypeWithin, literal_pieces, path_pieces, type_pieces}
use Rattle.em_tree.specs.PatGrammar.{IsPat, IsTopPat, pat_pieces, top_pieces}
use Rattle.em_tree.specs.ExprShape.{ends_open, ends_bare}
use Rattle.em_tree.specs.ExprGrammar.{expr_pieces, stmt_pieces, block_pieces}
use Rattle.em_tree.specs.ItemGrammar.{item_pieces}
use Rattle.em_tree.specs.FragmentGrammar.{IsTree, tree_pieces, IsPatFragment, IsFragment, fragment_pieces, kind_of_node, Reads, ends_in_dyn}
use Rattle.em_grammar.specs.Sets.{Inside, Nested}
use Rattle.em_grammar.specs.Reader.{Read, Found, Absent, and_then, or_stay, or_else, mapped}
use Rattle.em_grammar.specs.LiteralReader.{literal_in}
use Rattle.em_grammar.specs.TypeReader.{tree_of, type_in, plain_type_in, path_in}
use Rattle.em_grammar.specs.PatReader.{pat_in, top_pat_in}
use Rattle.em_grammar.specs.TextReader.{delimited}
use Rattle.em_grammar.specs.ExprSets.{Anywhere}
use Rattle.em_grammar.specs.ExprKnot.{expr_in, stmt_in, block_in}
use Rattle.em_grammar.specs.ItemReader.{item_in}
use Rattle.em_grammar.specs.FragmentReader.{whole_group, token_tree, single, staying, pat_fragment, by_kind, fragment_in}
use Rattle.em_grammar.specs.FragmentLaws.{readers, prefix_in}
use Rattle.em_grammar.specs.Laws.{GroupsNest}
use Rattle.em_parse.specs.Parts.{Readings}
use Rattle.em_parse.proofs.Limit.{same_head}
use Rattle.em_grammar.proofs.RowPairs.{end_last, core_last}
use Rattle.em_grammar.proofs.FragmentPairs.{single_pieces, single_of}

own : {A B : Type 0} (make : A → B) (P : Pieces → Read A) (ys : Pieces) (t : A) → P (ys ++ []) ≡ Found t [] → mapped make P ys ≡ Found (make t) []
own make P ys t is = ap (λ m. and_then m (λ a r. Found (make a) r)) (ap (λ k. P k) (sym (append-nil ys)) ∙ is)

opens : (t u : Token) → Match t u → is_spelled delimiters t ≡ true
opens t u (spelled.Match.parens h k) = ap (λ s. is_one_of delimiters s) h
opens t u (spelled.Match.brackets h k) = ap (λ s. is_one_of delimiters s) h
opens t u (spelled.Match.braces h k) = ap (λ s. is_one_of delimiters s) h

and_false : (b : Bool) → (b && false) ≡ false
and_false true = refl
and_false false = refl

module _ (k : Readings) (n depth d : ℕ) (below : d ≤ depth) where
  tree_own : (x : TokenTree) → IsTree x → Inside (Nested n) (tree_pieces x) → token_tree (tree_pieces x) ≡ Found x []
  tree_own (tree.Token t) m w =
      ap (λ b. or_stay (and_then (if not b then Found t [] else Absent) (λ a r. Found (tree.Token a) r)) (λ a r. Found a r) (or_else (mapped tree.Group whole_group) (mapped tree.Delimited delimited) (p.Token t ∷ []))) m
  tree_own (tree.Group g) m w = refl
  tree_own (tree.Delimited x) m w =
      ap (λ b. or_stay (and_then (if not b then Found x.open (x.text ++ p.Token x.close ∷ []) else Absent) (λ a r. Found (tree.Token a) r)) (λ a r. Found a r)
      (or_else (mapped tree.Group whole_group) (mapped tree.Delimited delimited) (tree_pieces (tree.Delimited x)))) (opens x.open x.close m.ends)
      ∙ own tree.Delimited delimited (tree_pieces (tree.Delimited x)) x ((k.texts n depth).whole d x [] below w m refl)

  type_own : (t : TypeTree) → TypeWithin d t → Inside (Nested n) (type_pieces t) → staying (plain_type_in n depth (type_pieces t)) ≡ Found t []
  type_own t m w =
      ap (λ m. staying m) (own tree_of (type_in n depth false) (type_pieces t) (t, false) ((k.types n depth false).whole d (t, false) [] below w (m, λ h. h) refl))
      ∙ ap (λ b. if b then Absent else Found t []) (and_false (ends_in_dyn (type_pieces t)))

  -- before 2021
  old_pat_own : (x : TopPat) → IsTopPat d x → (y : Pat) × (top_pieces x ≡ pat_pieces y) × IsPat d y → Inside (Nested n) (top_pieces x)
      → mapped (λ x. node.Pat (single x)) (pat_in n depth) (top_pieces x) ≡ Found (node.Pat x) []
  old_pat_own x m y w =
      let s : (y : Pat) × IsPat d y × (x ≡ single y) = single_of d x m y in
      let same : top_pieces x ≡ pat_pieces s.0 = ap (λ k. top_pieces k) s.2 ∙ single_pieces s.0 in
      ap (λ ys. mapped (λ x. node.Pat (single x)) (pat_in n depth) ys) same
      ∙ own (λ x. node.Pat (single x)) (pat_in n depth) (pat_pieces s.0) s.0 ((k.pats n depth).whole d s.0 [] below (subst (λ ys. Inside (Nested n) ys) same w) s.1 refl)
      ∙ ap (λ k. Found (node.Pat k) []) (sym s.2)

  pat_own : (e : Edition) (x : TopPat) → IsPatFragment e d x → Inside (Nested n) (top_pieces x) → pat_fragment e n depth (top_pieces x) ≡ Found (node.Pat x) []
  pat_own E2015 x m w = old_pat_own x m.0 m.1 w
  pat_own E2018 x m w = old_pat_own x m.0 m.1 w
  pat_own E2021 x m w = own node.Pat (top_pat_in n depth) (top_pieces x) x ((k.tops n depth).whole d x [] below w m refl)

  fragment_own : (e : Edition) (x : FragmentNode) → IsFragment e d x → Inside (Nested n) (fragment_pieces x) → by_kind readers (kind_of_node x) e n depth (fragment_pieces x) ≡ Found x []
  fragment_own e (node.Ident t) m w = ap (λ b. and_then (if b then Found t [] else Absent) (λ a r. Found (node.Ident a) r)) m
  fragment_own e (node.Tt x) m w = ap (λ m. and_then m (λ a r. Found (node.Tt a) r)) (tree_own x m w)
  fragment_own e (node.Literal x) m w = own node.Literal (literal_in true n) (literal_pieces x) x ((k.literals true n depth).whole d x [] below w m refl)
  fragment_own e (node.Block x) m w = own node.Block (block_in n depth) (block_pieces x) x ((k.blocks n depth).whole d x [] below w m refl)
  fragment_own e (node.Expr x) m w =
      own node.Expr (expr_in n depth Anywhere 0 false) (expr_pieces x) x
      ((k.exprs n depth Anywhere 0 false (omega arith)).whole d x [] below w (m, inl (omega arith), refl) (end_last false (ends_open x) (ends_bare x)))
  fragment_own e (node.Stmt x) m w = own node.Stmt (stmt_in n depth) (stmt_pieces x) x ((k.stmts n depth).whole d x [] below w m (core_last (out-Stmt x)))
  fragment_own e (node.Ty x) m w = ap (λ m. and_then m (λ a r. Found (node.Ty a) r)) (type_own x m w)
  fragment_own e (node.Path x) m w = own node.Path (path_in n depth) (path_pieces x) x ((k.paths n depth).whole d x [] below w m refl)
  fragment_own e (node.Pat x) m w = pat_own e x m w
  fragment_own e (node.PatParam x) m w = own node.PatParam (pat_in n depth) (pat_pieces x) x ((k.pats n depth).whole d x [] below w m refl)
  fragment_own e (node.Item x) m w = own node.Item (item_in n depth) (item_pieces x) x ((k.items n depth).whole d x [] below w m refl)

-- a fragment that the pieces are, with nothing behind it
pub prefix_own : Readings → (kind : FragmentKind) (e : Edition) (n depth d : ℕ) (i : Pieces) (x : FragmentNode) → d ≤ depth → kind_of_node x ≡ kind → Reads e d i x → Inside (Nested n) i
    → prefix_in kind e n depth i ≡ Found x []
unfolding fragment_in
prefix_own k kind e n depth d i x below is h w =
    ap (λ b. if b then by_kind readers kind e n depth i else Absent) (subst (λ kind. starts kind e i ≡ true) is h.starts)
    ∙ ap (λ kind. by_kind readers kind e n depth i) (sym is)
    ∙ ap (λ ys. by_kind readers (kind_of_node x) e n depth ys) h.yields
    ∙ fragment_own k n depth d below e x h.tree (subst (λ ys. Inside (Nested n) ys) h.yields w)

pub one_fragment : Readings → GroupsNest → (e : Edition) (a b : ℕ) (x y : FragmentNode) → kind_of_node x ≡ kind_of_node y → IsFragment e a x → IsFragment e b y → fragment_pieces x ≡ fragment_pieces y → x ≡ y
one_fragment k nest e a b x y kinds m q is =
    let w : (n : ℕ) × Inside (Nested n) (fragment_pieces x) = nest (fragment_pieces x) in
    let one : by_kind readers (kind_of_node x) e w.0 (a + b) (fragment_pieces x) ≡ Found x [] = fragment_own k w.0 (a + b) a (omega arith) e x m w.1 in
    let two : by_kind readers (kind_of_node y) e w.0 (a + b) (fragment_pieces y) ≡ Found y [] = fragment_own k w.0 (a + b) b (omega arith) e y q (subst (λ ys. Inside (Nested w.0) ys) is w.1) in
    same_head x y [] [] (sym one ∙ ap (λ kind. by_kind readers kind e w.0 (a + b) (fragment_pieces x)) kinds ∙ ap (λ ys. by_kind readers (kind_of_node y) e w.0 (a + b) ys) is ∙ two)
