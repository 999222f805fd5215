-- Pieces are divided into items in one way.
use Rattle.std.proofs.lemmas.List.{append-nil}
use Rattle.std.proofs.Common.{◌≡◌, ℕ, ◌≤◌, true, List, [], ◌∷◌, ◌++◌, refl, sym, ◌∙◌, ap, subst, append_assoc, arith, inl, inr}
use Rattle.em_base.specs.declared.token.Token.{Token}
use Rattle.em_tree.specs.declared.item.FileAttribute.{FileAttribute}
use Rattle.em_tree.specs.declared.item.FileTree.{FileTree}
use Rattle.em_tree.specs.declared.item.Item.{Item}
use Rattle.em_tree.specs.declared.piece.Piece.TheVariants as p
use Rattle.em_tree.specs.Parts.{each}
use Rattle.em_tree.specs.Starts.{Pieces}
use Rattle.em_tree.specs.Tokens.{Each}
use Rattle.em_tree.specs.ItemGrammar.{IsFileAttribute, IsItem, file_attribute_pieces, item_pieces}
use Rattle.em_tree.specs.Nesting.{item_nesting}
use Rattle.em_grammar.specs.declared.sort.Written.TheVariants as word
use Rattle.em_grammar.specs.Sets.{next, anything, Inside, Nested}
use Rattle.em_grammar.specs.Reader.{Read, Found, Absent}
use Rattle.em_grammar.specs.Pairs.{Begins}
use Rattle.em_grammar.specs.ItemReader.{at, item_start, item_in, file_attribute}
use Rattle.em_grammar.specs.ItemLaws.{ItemsRead, FileAttributesRead, ItemsApart}
use Rattle.em_grammar.specs.NestLaws.{ItemsNest}
use Rattle.em_parse.specs.Calls.{most, of_tokens, AreItems, NoItemStands, DeepItemStands, Attributes, IsWhole, ItemBegins}
use Rattle.em_parse.specs.Decided.{ListsAreDecided, FilesAreDecided}
use Rattle.em_parse.proofs.Limit.{same_head}

inside_left : (H : Pieces → Type 0) (xs ys : Pieces) → Inside H (xs ++ ys) → Inside H xs
inside_left H [] ys h = tt
inside_left H (p.Token t ∷ xs) ys h = inside_left H xs ys h
inside_left H (p.Group g ∷ xs) ys h = (h.0, inside_left H xs ys h.1)

inside_right : (H : Pieces → Type 0) (xs ys : Pieces) → Inside H (xs ++ ys) → Inside H ys
inside_right H [] ys h = h
inside_right H (p.Token t ∷ xs) ys h = inside_right H xs ys h
inside_right H (p.Group g ∷ xs) ys h = inside_right H xs ys h.1

inside_tokens : (H : Pieces → Type 0) (ts : List Token) → Inside H (of_tokens ts)
inside_tokens H [] = tt
inside_tokens H (t ∷ ts) = inside_tokens H ts

-- nothing of this kind stands at the front of the pieces
abbrev Ends : {A : Type 0} → (A → Type 0) → (A → Pieces) → Pieces → Type 0
Ends {A} M z r = (x : A) (s : Pieces) → M x → r ≡ z x ++ s → ⊥

-- what reads each member at the front of pieces
abbrev Finds : {A : Type 0} → (A → Type 0) → (A → Pieces) → (Pieces → Read A) → Type 0
Finds {A} M z R = (x : A) (r : Pieces) → M x → Inside (Nested most) (z x ++ r) → R (z x ++ r) ≡ Found x r

same_rest : {A : Type 0} (x y : A) (r s : Pieces) → Found x r ≡ Found y s → r ≡ s
same_rest x y r s is = cc

-- lists of members that end where none stands
divided : {A : Type 0} (M : A → Type 0) (z : A → Pieces) (R : Pieces → Read A) → Finds M z R → (xs ys : List A) (r s : Pieces) → Each M xs → Each M ys
    → Inside (Nested most) (each z xs ++ r) → each z xs ++ r ≡ each z ys ++ s → Ends M z r → Ends M z s → (xs ≡ ys) × (r ≡ s)
divided M z R finds [] [] r s h k w is none none' = (refl, is)
divided M z R finds [] (y ∷ ys) r s h k w is none none' = absurd (none y (each z ys ++ s) k.0 (is ∙ append_assoc (z y) (each z ys) s))
divided M z R finds (x ∷ xs) [] r s h k w is none none' = absurd (none' x (each z xs ++ r) h.0 (sym is ∙ append_assoc (z x) (each z xs) r))
divided M z R finds (x ∷ xs) (y ∷ ys) r s h k w is none none' =
    let wide : Inside (Nested most) (z x ++ (each z xs ++ r)) = subst (λ i. Inside (Nested most) i) (append_assoc (z x) (each z xs) r) w in
    let joined : z x ++ (each z xs ++ r) ≡ z y ++ (each z ys ++ s) = sym (append_assoc (z x) (each z xs) r) ∙ is ∙ append_assoc (z y) (each z ys) s in
    let one : R (z x ++ (each z xs ++ r)) ≡ Found x (each z xs ++ r) = finds x (each z xs ++ r) h.0 wide in
    let two : R (z x ++ (each z xs ++ r)) ≡ Found y (each z ys ++ s) = ap (λ i. R i) joined ∙ finds y (each z ys ++ s) k.0 (subst (λ i. Inside (Nested most) i) joined wide) in
    let rest = divided M z R finds xs ys r s h.1 k.1 (inside_right (Nested most) (z x) (each z xs ++ r) wide) (same_rest x y (each z xs ++ r) (each z ys ++ s) (sym one ∙ two)) none none' in
    let head : x ≡ y = same_head x y (each z xs ++ r) (each z ys ++ s) (sym one ∙ two) in
    let tail : xs ≡ ys = rest.0 in
    (cc, rest.1)

-- ---- items

anywhere : (r : Pieces) → next anything r ≡ true
anywhere [] = refl
anywhere (p.Token t ∷ r) = refl
anywhere (p.Group g ∷ r) = refl

finds_items : ItemsRead → Finds (IsItem most) item_pieces (item_in most most)
finds_items read x r m w = (read most most).whole most x r (omega arith) (inside_left (Nested most) (item_pieces x) r w) m (anywhere r)

finds_attributes : FileAttributesRead → Finds IsFileAttribute file_attribute_pieces (file_attribute most)
finds_attributes read x r m w = (read most most).whole most x r (omega arith) (inside_left (Nested most) (file_attribute_pieces x) r w) m (anywhere r)

some_piece : (ys s : Pieces) → ((ys ≡ []) → ⊥) → [] ≡ ys ++ s → ⊥
some_piece [] s none is = none refl
some_piece (y ∷ ys) s none is = cc

-- at the end of the pieces
ends_nothing : ItemsRead → Ends (IsItem most) item_pieces []
ends_nothing read x s m is = some_piece (item_pieces x) s (λ e. subst (λ k. Begins item_start k) e ((read most most).begins most x (omega arith) m)) is

ends_none : (i : Pieces) → NoItemStands i → Ends (IsItem most) item_pieces i
ends_none i h x s m is = h.none most x s m is

deep_at_end : ItemsRead → DeepItemStands [] → ⊥
deep_at_end read (inl is) = let e = (read most most).absent [] refl in cc
deep_at_end read (inr h) = let e = (read most most).absent [] refl in let k = h.2 in cc

ends_deep : ItemsRead → ItemsNest → (i : Pieces) → Inside (Nested most) i → DeepItemStands i → Ends (IsItem most) item_pieces i
ends_deep read nest i w (inl deep) x s m is =
    let e : item_in most most i ≡ Found x s = ap (λ k. item_in most most k) is ∙ finds_items read x s m (subst (λ k. Inside (Nested most) k) is w) in
    cc
ends_deep read nest i w (inr h) x s m is =
    let e : item_in most most i ≡ Found x s = ap (λ k. item_in most most k) is ∙ finds_items read x s m (subst (λ k. Inside (Nested most) k) is w) in
    let same : h.0 ≡ x = same_head h.0 x h.1 s (sym h.2 ∙ e) in
    let fits : item_nesting x ≤ most = (nest most most x m).0 m in
    absurd (omega (arith, fits, h.3, ap (λ k. item_nesting k) same))

module _ (read : ItemsRead) (nest : ItemsNest) where
  -- two ways to divide pieces into items and what is behind them
  two_ways : (i : Pieces) (xs ys : List Item) (r s : Pieces) → Inside (Nested most) i → AreItems i xs r → AreItems i ys s → Ends (IsItem most) item_pieces r → Ends (IsItem most) item_pieces s → (xs ≡ ys) × (r ≡ s)
  two_ways i xs ys r s w h k none none' =
      divided (IsItem most) item_pieces (item_in most most) (finds_items read) xs ys r s h.trees k.trees (subst (λ k. Inside (Nested most) k) h.yields w) (sym h.yields ∙ k.yields) none none'

  behind_wide : (i : Pieces) (xs : List Item) (r : Pieces) → Inside (Nested most) i → AreItems i xs r → Inside (Nested most) r
  behind_wide i xs r w h = inside_right (Nested most) (each item_pieces xs) r (subst (λ k. Inside (Nested most) k) h.yields w)

  pub lists_decided : ListsAreDecided
  lists_decided i w = record {
    one = λ xs ys h k. (two_ways i xs ys [] [] w h k (ends_nothing read) (ends_nothing read)).0;
    not_broken = λ xs h k. k.3 (sym (two_ways i xs k.0 [] k.1 w h k.2 (ends_nothing read) (ends_none k.1 k.4)).1);
    not_deep = λ xs h k.
        let same = (two_ways i xs k.0 [] k.1 w h k.2 (ends_nothing read) (ends_deep read nest k.1 (behind_wide i k.0 k.1 w k.2) k.3)).1 in
        deep_at_end read (subst (λ r. DeepItemStands r) (sym same) k.3);
    either = λ h k.
        let same = (two_ways i h.0 k.0 h.1 k.1 w h.2 k.2 (ends_none h.1 h.4) (ends_deep read nest k.1 (behind_wide i k.0 k.1 w k.2) k.3)).1 in
        h.4.shallow (subst (λ r. DeepItemStands r) (sym same) k.3);
  }

  -- ---- files

  module _ (attributes : FileAttributesRead) (apart : ItemsApart) where
    no_attribute : (n : ℕ) (xs : List Item) → Each (IsItem most) xs → (i : Pieces) → i ≡ each item_pieces xs → (x : FileAttribute) (s : Pieces) → IsFileAttribute x → i ≡ file_attribute_pieces x ++ s → Inside (Nested n) i → ⊥
    no_attribute n [] h i same x s m is w =
        some_piece (file_attribute_pieces x) s (λ e. subst (λ k. Begins (at word.Pound) k) e ((attributes n 0).begins 0 x (omega arith) m)) (sym same ∙ is)
    no_attribute n (y ∷ ys) h i same x s m is w =
        let absent : file_attribute n i ≡ Absent = ap (λ k. file_attribute n k) same ∙ apart n most y (each item_pieces ys) h.0 in
        let found : file_attribute n i ≡ Found x s
        = ap (λ k. file_attribute n k) is ∙ (attributes n 0).whole 0 x s (omega arith) (inside_left (Nested n) (file_attribute_pieces x) s (subst (λ k. Inside (Nested n) k) is w)) m (anywhere s) in
        cc

    -- two ways to divide tokens into attributes and what is behind them
    two_heads : (i : Pieces) (xs ys : List FileAttribute) (r s : Pieces) → Inside (Nested most) i → Attributes i xs r → Attributes i ys s → (xs ≡ ys) × (r ≡ s)
    two_heads i xs ys r s w h k =
        divided IsFileAttribute file_attribute_pieces (file_attribute most) (finds_attributes attributes) xs ys r s h.trees k.trees (subst (λ k. Inside (Nested most) k) h.yields w) (sym h.yields ∙ k.yields)
        (λ x s m is. h.all x s m is) (λ x s m is. k.all x s m is)

    -- a whole file so divided
    whole_heads : (tokens : List Token) (x : FileTree) → IsWhole tokens x → Attributes (of_tokens tokens) x.attributes (each item_pieces x.items)
    whole_heads tokens x h =
        let wide : Inside (Nested most) (of_tokens tokens) = inside_tokens (Nested most) tokens in
        record {
          trees = h.tree.0;
          yields = h.yields;
          all = λ a more m is.
              no_attribute most x.items h.tree.1 (each item_pieces x.items) refl a more m is (inside_right (Nested most) (each file_attribute_pieces x.attributes) (each item_pieces x.items) (subst (λ k. Inside (Nested most) k) h.yields wide));
        }

    whole_items : (tokens : List Token) (x : FileTree) → IsWhole tokens x → AreItems (each item_pieces x.items) x.items []
    whole_items tokens x h = record { trees = h.tree.1; yields = sym (append-nil (each item_pieces x.items)) }

    wide_behind : (tokens : List Token) (xs : List FileAttribute) (r : Pieces) → Attributes (of_tokens tokens) xs r → Inside (Nested most) r
    wide_behind tokens xs r h = inside_right (Nested most) (each file_attribute_pieces xs) r (subst (λ k. Inside (Nested most) k) h.yields (inside_tokens (Nested most) tokens))

    -- where an item begins, none stands
    abbrev NoneStands : (Pieces → Type 0) → Type 0
    NoneStands begins = (r : Pieces) → Inside (Nested most) r → begins r → Ends (IsItem most) item_pieces r

    no_place : (tokens : List Token) (x : FileTree) (offset : ℕ) (begins : Pieces → Type 0) → NoneStands begins → IsWhole tokens x → ItemBegins tokens offset begins → ⊥
    no_place tokens x offset begins ends h k =
        let heads = two_heads (of_tokens tokens) x.attributes k.attributes (each item_pieces x.items) k.behind (inside_tokens (Nested most) tokens) (whole_heads tokens x h) k.fronts in
        let wide = wide_behind tokens k.attributes k.behind k.fronts in
        let before = subst (λ i. AreItems i k.items (p.Token k.first ∷ k.rest)) (sym heads.1) k.before in
        let same
        = (two_ways (each item_pieces x.items) x.items k.items [] (p.Token k.first ∷ k.rest) (subst (λ i. Inside (Nested most) i) (sym heads.1) wide) (whole_items tokens x h) before (ends_nothing read)
        (ends (p.Token k.first ∷ k.rest) (behind_wide k.behind k.items (p.Token k.first ∷ k.rest) wide k.before) k.stands)).1 in
        cc

    same_first : (t u : Token) (r s : Pieces) → p.Token t ∷ r ≡ p.Token u ∷ s → t ≡ u
    same_first t u r s is = cc

    one_place : (tokens : List Token) (a b : ℕ) (begins other : Pieces → Type 0) → NoneStands begins → NoneStands other → (h : ItemBegins tokens a begins) (k : ItemBegins tokens b other)
        → (a ≡ b) × ((p.Token h.first ∷ h.rest) ≡ (p.Token k.first ∷ k.rest))
    one_place tokens a b begins other ends ends' h k =
        let heads = two_heads (of_tokens tokens) h.attributes k.attributes h.behind k.behind (inside_tokens (Nested most) tokens) h.fronts k.fronts in
        let wide = wide_behind tokens h.attributes h.behind h.fronts in
        let wide' = wide_behind tokens k.attributes k.behind k.fronts in
        let before = subst (λ i. AreItems i k.items (p.Token k.first ∷ k.rest)) (sym heads.1) k.before in
        let same
        = (two_ways h.behind h.items k.items (p.Token h.first ∷ h.rest) (p.Token k.first ∷ k.rest) wide h.before before (ends (p.Token h.first ∷ h.rest) (behind_wide h.behind h.items (p.Token h.first ∷ h.rest) wide h.before) h.stands)
        (ends' (p.Token k.first ∷ k.rest) (behind_wide k.behind k.items (p.Token k.first ∷ k.rest) wide' k.before) k.stands)).1 in
        (h.at ∙ ap (λ t. t.span.start) (same_first h.first k.first h.rest k.rest same) ∙ sym k.at, same)

    none_here : NoneStands NoItemStands
    none_here r w h = ends_none r h

    deep_here : NoneStands DeepItemStands
    deep_here r w h = ends_deep read nest r w h

    one_tree : (x y : FileTree) → x.attributes ≡ y.attributes → x.items ≡ y.items → x ≡ y
    one_tree x y h k = ap (λ a. tree a x.items) h ∙ ap (λ i. tree y.attributes i) k
      where
        tree : List FileAttribute → List Item → FileTree
        tree a i = record { attributes = a; items = i }

    pub files_decided : FilesAreDecided
    files_decided tokens = record {
      one = λ x y h k.
          let heads = two_heads (of_tokens tokens) x.attributes y.attributes (each item_pieces x.items) (each item_pieces y.items) (inside_tokens (Nested most) tokens) (whole_heads tokens x h) (whole_heads tokens y k) in
          let wide = wide_behind tokens x.attributes (each item_pieces x.items) (whole_heads tokens x h) in
          let other = subst (λ i. AreItems i y.items []) (sym heads.1) (whole_items tokens y k) in
          one_tree x y heads.0 (two_ways (each item_pieces x.items) x.items y.items [] [] wide (whole_items tokens x h) other (ends_nothing read) (ends_nothing read)).0;
      no_item = λ x offset h k. no_place tokens x offset NoItemStands none_here h k;
      not_deep = λ x offset h k. no_place tokens x offset DeepItemStands deep_here h k;
      either = λ a b h k. h.stands.shallow (subst (λ r. DeepItemStands r) (sym (one_place tokens a b NoItemStands DeepItemStands none_here deep_here h k).1) k.stands);
      once = λ a b h k. (one_place tokens a b NoItemStands NoItemStands none_here none_here h k).0;
      deep_once = λ a b h k. (one_place tokens a b DeepItemStands DeepItemStands deep_here deep_here h k).0;
    }
