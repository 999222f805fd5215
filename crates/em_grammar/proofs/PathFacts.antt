-- What a path begins with, and paths of one token.
use Rattle.std.proofs.lemmas.List.{append-nil}
use Rattle.std.proofs.Common.{◌≡◌, Bool, true, false, not, ◌&&◌, ◌||◌, List, [], ◌∷◌, ◌++◌, Option, Some, None, refl, sym, ◌∙◌, ap, subst, append_assoc, map, ◌⊎◌, inl, inr}
use Rattle.std.specs.Prelude.{codes}
use Rattle.em_base.specs.declared.token.Token.{Token}
use Rattle.em_tree.specs.declared.piece.Group.{Group, out-Group, fold-Group, fold_out-Group}
use Rattle.em_tree.specs.declared.piece.PieceList.{PieceList, out-PieceList, fold-PieceList, fold_out-PieceList}
use Rattle.em_tree.specs.declared.piece.Piece.{Piece, out-Piece, fold-Piece, fold_out-Piece, map-Piece}
use Rattle.em_tree.specs.declared.piece.Piece.TheOpen.{Piece-F}
use Rattle.em_tree.specs.declared.piece.Piece.TheVariants as p
use Rattle.em_tree.specs.declared.types.PathStep.{PathStep}
use Rattle.em_tree.specs.declared.types.Segments.{Segments}
use Rattle.em_tree.specs.declared.types.Path.{Path, out-Path}
use Rattle.em_tree.specs.declared.types.Path.TheVariants as made
use Rattle.em_tree.specs.declared.types.Qualified.{Qualified, out-Qualified}
use Rattle.em_tree.specs.declared.types.Output.{Output}
use Rattle.em_tree.specs.declared.types.Bound.{Bound}
use Rattle.em_tree.specs.declared.types.TypeTree.{TypeTree}
use Rattle.em_tree.specs.declared.types.Bound.TheOpen.{Path-F}
use Rattle.em_tree.specs.Parts.{maybe, each}
use Rattle.em_tree.specs.Starts.{Pieces, kind_of, pieces_of}
use Rattle.em_tree.specs.Tokens.{Is, IsOneOf, Name}
use Rattle.em_tree.specs.Yields.{piece, opened, opened_piece, open_piece, open_group, open_list}
use Rattle.em_tree.specs.PathGrammar as g
use Rattle.em_tree.specs.PathGrammar.{path_pieces, type_pieces, NameOrRoot, AreSegments, IsPath, StartsBefore2021, FollowsDyn}
use Rattle.em_grammar.specs.declared.sort.Weak.{Weak}
use Rattle.em_grammar.specs.declared.sort.Weak.TheVariants as weak
use Rattle.em_grammar.specs.declared.sort.Written.TheVariants as word
use Rattle.em_grammar.specs.declared.sort.Sort.{Sort}
use Rattle.em_grammar.specs.declared.sort.Sort.TheVariants as sort
use Rattle.em_grammar.specs.Sorts.{sort_of}
use Rattle.em_grammar.specs.Sets.{weak_is, any_of}
use Rattle.em_grammar.specs.PathReader.{roots, path_kind, plain_segment}
use Rattle.em_grammar.specs.TypeReader.{alone, alone_layer, alone_segments, is_lone, starts_old, callable, dyn_follow, dyn_follow_sort}
use Rattle.em_grammar.specs.Pairs.{Begins, Test}
use Rattle.em_grammar.proofs.Tests.{name, several, either_test, dyn_test}
use Rattle.em_grammar.proofs.PathLayers.{same_path, at_qualified, pieces_plain, pieces_qualified, pieces_path_group}
use Rattle.em_grammar.proofs.PathPairs.{segments_pieces, kind_path}

-- ---- pieces opened

abbrev Tokens : Type 0
Tokens = List Token

abbrev in_piece : Piece → Tokens
in_piece x = fold-Piece Tokens Tokens Tokens open_piece open_group open_list x

each_map : {A B C : Type 0} (f : B → List A) (k : C → B) (xs : List C) → each f (map k xs) ≡ each (λ x. f (k x)) xs
each_map f k [] = refl
each_map f k (x ∷ xs) = ap (λ r. f (k x) ++ r) (each_map f k xs)

opened_layer : (x : Piece) (l : Piece-F Piece Group PieceList) → out-Piece x ≡ l
    → in_piece x ≡ open_piece (map-Piece Piece Group PieceList Tokens Tokens Tokens in_piece (fold-Group Tokens Tokens Tokens open_piece open_group open_list) (fold-PieceList Tokens Tokens Tokens open_piece open_group open_list) l)
opened_layer x l is =
    fold_out-Piece Tokens Tokens Tokens open_piece open_group open_list x
    ∙ ap (λ k. open_piece (map-Piece Piece Group PieceList Tokens Tokens Tokens in_piece (fold-Group Tokens Tokens Tokens open_piece open_group open_list) (fold-PieceList Tokens Tokens Tokens open_piece open_group open_list) k)) is

pub opened_token : (t : Token) → opened_piece (p.Token t) ≡ t ∷ []
unfolding opened_piece
opened_token t = opened_layer (p.Token t) (Piece-F.Token t) (p.outs-Token t)

pub opened_group : (g : Group) → opened_piece (p.Group g) ≡ opened (pieces_of g)
unfolding opened_piece
opened_group g =
    opened_layer (p.Group g) (Piece-F.Group g) (p.outs-Group g)
    ∙ fold_out-Group Tokens Tokens Tokens open_piece open_group open_list g
    ∙ fold_out-PieceList Tokens Tokens Tokens open_piece open_group open_list (out-Group g).pieces
    ∙ each_map (λ ts. ts) in_piece (out-PieceList (out-Group g).pieces).list

pub each_append : {A B : Type 0} (f : B → List A) (xs ys : List B) → each f (xs ++ ys) ≡ each f xs ++ each f ys
each_append f [] ys = refl
each_append f (x ∷ xs) ys = ap (λ r. f x ++ r) (each_append f xs ys) ∙ sym (append_assoc (f x) (each f xs) (each f ys))

-- ---- what a path begins with

-- a token with its groups opened
abbrev pub Opens : Pieces → Type 0
Opens ys = (t : Token) × (ts : List Token) × (opened ys ≡ t ∷ ts)

pub opens_token : (t : Token) (ys : Pieces) → Opens (p.Token t ∷ ys)
opens_token t ys = (t, opened ys, ap (λ r. r ++ opened ys) (opened_token t))

opens_segments : (lead dollar : Option Token) (n : Token) (zs : Pieces) → Opens (maybe piece lead ++ ((maybe piece dollar ++ piece n) ++ zs))
opens_segments (Some c) dollar n zs = opens_token c ((maybe piece dollar ++ piece n) ++ zs)
opens_segments None (Some d) n zs = opens_token d (piece n ++ zs)
opens_segments None None n zs = opens_token n zs

module _ (I : TypeTree → Type 0) where
  pub path_opens : (x : Path) → IsPath I x → Opens (path_pieces x)
  path_opens _ (g.IsPath.plain {x} {s} is m) =
      subst (λ k. Opens (path_pieces k)) (sym (same_path x (made.Plain s) (is ∙ sym (made.outs-Plain s)))) (subst (λ ys. Opens ys) (sym (pieces_plain s)) (opens_segments s.lead s.first.dollar s.first.name _))
  path_opens _ (g.IsPath.qualified {x} {q} is a b c k e f n) =
      subst (λ k. Opens (path_pieces k)) (sym (same_path x (made.Qualified q) (is ∙ sym (made.outs-Qualified q))))
      (subst (λ ys. Opens ys) (sym (pieces_qualified q ∙ at_qualified q (out-Qualified q) refl)) (opens_token (out-Qualified q).open _))
  path_opens _ (g.IsPath.group {x} {y} {g = gr} is k ps m) =
      let o : Opens (path_pieces y) = path_opens y m in
      subst (λ k. Opens (path_pieces k)) (sym (same_path x (made.Group gr y) (is ∙ sym (made.outs-Group gr y))))
      (subst (λ ys. Opens ys) (sym (pieces_path_group gr y)) (o.0, o.1, append-nil (opened_piece (p.Group gr)) ∙ opened_group gr ∙ ap (λ ys. opened ys) ps ∙ o.2))

  pub path_some : (x : Path) (zs : Pieces) → IsPath I x → path_pieces x ++ zs ≡ [] → ⊥
  path_some x zs m is = go (path_pieces x) (path_opens x m) is
    where
      go : (ys : Pieces) → Opens ys → ys ++ zs ≡ [] → ⊥
      go [] o is = let none : [] ≡ o.0 ∷ o.1 = o.2 in cc
      go (y ∷ ys) o is = cc

  -- ---- paths of one token

  -- the token of such a path is a name or a root
  pub alone_name : (x : Path) (w : Token) → IsPath I x → alone x ≡ Some w → NameOrRoot None w
  unfolding alone
  alone_name _ w (g.IsPath.plain {x} {s} is m) at = go s.lead s.first.dollar s.first.name s.more m.first (sym (ap (λ l. alone_layer l) is) ∙ at)
    where
      go : (lead dollar : Option Token) (n : Token) (more : List PathStep) → NameOrRoot dollar n → alone_segments lead dollar n more ≡ Some w → NameOrRoot None w
      go None None n [] m at = let same : n ≡ w = cc in subst (λ k. NameOrRoot None k) same m
      go None None n (s ∷ more) m at = cc
      go None (Some d) n more m at = cc
      go (Some c) dollar n more m at = cc
  alone_name _ w (g.IsPath.qualified {x} {q} is a b c k e f n) at = let none : None ≡ Some w = sym (ap (λ l. alone_layer l) is) ∙ at in cc
  alone_name _ w (g.IsPath.group {x} {y} {g = gr} is k ps m) at = let none : None ≡ Some w = sym (ap (λ l. alone_layer l) is) ∙ at in cc

  -- a path of one token piece is such a path
  pub token_alone : (x : Path) (t : Token) → IsPath I x → path_pieces x ≡ p.Token t ∷ [] → alone x ≡ Some t
  unfolding alone
  token_alone _ t (g.IsPath.plain {x} {s} is m) at =
      ap (λ l. alone_layer l) is ∙ go s.lead s.first.dollar s.first.name s.more (sym (pieces_plain s) ∙ ap (λ k. path_pieces k) (sym (same_path x (made.Plain s) (is ∙ sym (made.outs-Plain s)))) ∙ at)
    where
      go : (lead dollar : Option Token) (n : Token) (more : List PathStep) → segments_pieces (record { lead = lead; first = record { dollar = dollar; name = n }; more = more }) ≡ p.Token t ∷ []
          → alone_segments lead dollar n more ≡ Some t
      go None None n [] at = ap (λ k. Some k) (let same : n ≡ t = cc in same)
      go None None n (s ∷ more) at = cc
      go None (Some d) n more at = cc
      go (Some c) None n more at = cc
      go (Some c) (Some d) n more at = cc
  token_alone _ t (g.IsPath.qualified {x} {q} is a b c k e f n) at =
      let whole : piece (out-Qualified q).open ++ (type_pieces (out-Qualified q).self_type ++ (piece (out-Qualified q).word ++ (path_pieces (out-Qualified q).of_trait
      ++ (piece (out-Qualified q).close ++ (piece (out-Qualified q).separator ++ piece (out-Qualified q).name))))) ≡ p.Token t ∷ []
      = sym (pieces_qualified q ∙ at_qualified q (out-Qualified q) refl) ∙ ap (λ k. path_pieces k) (sym (same_path x (made.Qualified q) (is ∙ sym (made.outs-Qualified q)))) ∙ at in
      absurd (go (type_pieces (out-Qualified q).self_type) whole)
    where
      go : (ys : Pieces) → p.Token (out-Qualified q).open ∷ (ys ++ (p.Token (out-Qualified q).word ∷ (path_pieces (out-Qualified q).of_trait
          ++ (piece (out-Qualified q).close ++ (piece (out-Qualified q).separator ++ piece (out-Qualified q).name))))) ≡ p.Token t ∷ [] → ⊥
      go [] is = cc
      go (y ∷ ys) is = cc
  token_alone _ t (g.IsPath.group {x} {y} {g = gr} is k ps m) at =
      let one : p.Group gr ∷ [] ≡ p.Token t ∷ [] = sym (pieces_path_group gr y) ∙ ap (λ k. path_pieces k) (sym (same_path x (made.Group gr y) (is ∙ sym (made.outs-Group gr y)))) ∙ at in
      cc

-- the path of one token
abbrev pub lone_path : Token → Path
lone_path w = made.Plain (record { lead = None; first = plain_segment w; more = [] })

pub lone_alone : (w : Token) → alone (lone_path w) ≡ Some w
unfolding alone
lone_alone w = ap (λ l. alone_layer l) (made.outs-Plain (record { lead = None; first = plain_segment w; more = [] }))

pub lone_pieces : (w : Token) → path_pieces (lone_path w) ≡ piece w
lone_pieces w = pieces_plain (record { lead = None; first = plain_segment w; more = [] })

pub alone_is : (x : Path) (w : Token) → alone x ≡ Some w → x ≡ lone_path w
unfolding alone
alone_is x w at = go (out-Path x) refl at
  where
    inside : (s : Segments) (lead dollar : Option Token) (n : Token) (more : List PathStep) → s ≡ record { lead = lead; first = record { dollar = dollar; name = n }; more = more }
        → alone_segments lead dollar n more ≡ Some w → s ≡ record { lead = None; first = plain_segment w; more = [] }
    inside s None None n [] is at = let same : n ≡ w = cc in is ∙ ap (λ k. record { lead = None; first = plain_segment k; more = [] }) same
    inside s None None n (q ∷ more) is at = cc
    inside s None (Some d) n more is at = cc
    inside s (Some c) dollar n more is at = cc

    go : (l : Path-F Bound Output Path TypeTree Qualified) → out-Path x ≡ l → alone_layer l ≡ Some w → x ≡ lone_path w
    go (Path-F.Plain s) is at =
        same_path x (made.Plain s) (is ∙ sym (made.outs-Plain s)) ∙ ap (λ k. made.Plain k) (inside s s.lead s.first.dollar s.first.name s.more refl at)
    go (Path-F.Qualified q) is at = cc
    go (Path-F.Path::Group gr y) is at = cc

-- what is a path of this one word
pub lone_word : (v : Weak) (o : Option Token) → is_lone v o ≡ true → (w : Token) × (o ≡ Some w) × (weak_is v (sort_of w) ≡ true)
lone_word v None h = cc
lone_word v (Some w) h = (w, refl, h)

-- a word that isn't written out is no root
weak_root : (v : Weak) (s : Sort) → weak_is v s ≡ true → any_of roots s ≡ false
weak_root v (sort.Written x) h = cc
weak_root v (sort.Weak y k) h = refl
weak_root v (sort.Plain k) h = cc

pub weak_name : (v : Weak) (w : Token) → weak_is v (sort_of w) ≡ true → NameOrRoot None w → Name w
weak_name v w h (inl n) = n
weak_name v w h (inr r) = let root : any_of roots (sort_of w) ≡ true = (several roots).told w r in let none : any_of roots (sort_of w) ≡ false = weak_root v (sort_of w) h in cc

-- ---- what may be called

both_hold : (a b : Bool) → a ≡ false → b ≡ true → (not a && b) ≡ true
both_hold false b h k = k
both_hold true b h k = cc

not_left : (a b : Bool) → (not a && b) ≡ true → a ≡ false
not_left false b h = refl
not_left true b h = cc

not_right : (a b : Bool) → (not a && b) ≡ true → b ≡ true
not_right false b h = h
not_right true b h = cc

old_first : (ts us : List Token) (t : Token) (more : List Token) → ts ≡ t ∷ more → starts_old (ts ++ us) ≡ starts_old ts
old_first ts us t more is = ap (λ k. starts_old (k ++ us)) is ∙ sym (ap (λ k. starts_old k) is)

starts_so : (ts : List Token) → starts_old ts ≡ true → StartsBefore2021 ts
starts_so [] h = cc
starts_so (t ∷ ts) h = h

starts_of : (ts : List Token) → StartsBefore2021 ts → starts_old ts ≡ true
starts_of [] h = absurd h
starts_of (t ∷ ts) h = h

module _ (I : TypeTree → Type 0) (x : Path) (m : IsPath I x) (zs : Pieces) where
  old_same : starts_old (opened (path_pieces x ++ zs)) ≡ starts_old (opened (path_pieces x))
  old_same = let o : Opens (path_pieces x) = path_opens I x m in
      ap (λ k. starts_old k) (each_append opened_piece (path_pieces x) zs) ∙ old_first (opened (path_pieces x)) (opened zs) o.0 o.1 o.2

  pub call_of : StartsBefore2021 (opened (path_pieces x ++ zs)) → ((t : Token) → path_pieces x ≡ p.Token t ∷ [] → Is (codes "dyn") t → ⊥) → callable x ≡ true
  unfolding callable
  call_of old other = both_hold (is_lone weak.Dyn (alone x)) (starts_old (opened (path_pieces x))) (go (alone x) refl) (sym old_same ∙ starts_of (opened (path_pieces x ++ zs)) old)
    where
      clash : (w : Token) (b : Bool) → alone x ≡ Some w → weak_is weak.Dyn (sort_of w) ≡ b → b ≡ false
      clash w true at is = absurd (other w (ap (λ k. path_pieces k) (alone_is x w at) ∙ lone_pieces w) (dyn_test.holds w is))
      clash w false at is = refl

      go : (o : Option Token) → alone x ≡ o → is_lone weak.Dyn o ≡ false
      go None at = refl
      go (Some w) at = clash w (weak_is weak.Dyn (sort_of w)) at refl

  pub call_old : callable x ≡ true → StartsBefore2021 (opened (path_pieces x ++ zs))
  unfolding callable
  call_old h = starts_so (opened (path_pieces x ++ zs)) (old_same ∙ not_right (is_lone weak.Dyn (alone x)) (starts_old (opened (path_pieces x))) h)

  pub call_no_dyn : callable x ≡ true → (t : Token) → path_pieces x ≡ p.Token t ∷ [] → Is (codes "dyn") t → ⊥
  unfolding callable
  call_no_dyn h t at is =
      let lone : is_lone weak.Dyn (alone x) ≡ true = ap (λ o. is_lone weak.Dyn o) (token_alone I x t m at) ∙ dyn_test.told t is in
      let none : is_lone weak.Dyn (alone x) ≡ false = not_left (is_lone weak.Dyn (alone x)) (starts_old (opened (path_pieces x))) h in
      cc

-- ---- what follows the `dyn` of 2015

follower : Test (λ t. Name t ⊎ IsOneOf (codes "crate" ∷ codes "self" ∷ codes "super" ∷ codes "Self" ∷ codes "$" ∷ []) t) (λ t. dyn_follow_sort (sort_of t)) dyn_follow_sort
follower = either_test name (several (word.Crate ∷ word.SelfValue ∷ word.Super ∷ word.SelfType ∷ word.Dollar ∷ []))

or_none : (b : Bool) → (b || false) ≡ b
or_none true = refl
or_none false = refl

pub follows_begin : (ys : Pieces) → FollowsDyn ys → Begins dyn_follow ys
follows_begin [] h = h
follows_begin (p.Token t ∷ ys) h = or_none (dyn_follow_sort (sort_of t)) ∙ follower.told t h
follows_begin (p.Group gr ∷ ys) h = ap (λ k. path_kind k) h

pub begins_follow : (ys : Pieces) → Begins dyn_follow ys → FollowsDyn ys
begins_follow [] h = h
begins_follow (p.Token t ∷ ys) h = follower.holds t (sym (or_none (dyn_follow_sort (sort_of t))) ∙ h)
begins_follow (p.Group gr ∷ ys) h = kind_path (kind_of gr) h
