-- Files are read.
use Rattle.std.proofs.lemmas.List.{append-nil}
use Rattle.std.proofs.Common.{◌≡◌, ℕ, zero, suc, ◌≤◌, true, false, List, [], ◌∷◌, ◌++◌, length, length-append, Option, Some, None, refl, sym, ◌∙◌, ap, subst, append_assoc, arith, max}
use Rattle.std.specs.Prelude.{codes}
use Rattle.em_base.specs.declared.token.Token.{Token}
use Rattle.em_tree.specs.declared.piece.Piece.TheVariants as p
use Rattle.em_tree.specs.declared.item.Attribute.{Attribute}
use Rattle.em_tree.specs.declared.item.FileAttribute.{FileAttribute}
use Rattle.em_tree.specs.declared.item.Vis.{Vis}
use Rattle.em_tree.specs.declared.item.ItemBody.{ItemBody}
use Rattle.em_tree.specs.declared.item.Item.{Item}
use Rattle.em_tree.specs.declared.item.FileTree.{FileTree}
use Rattle.em_tree.specs.Parts.{maybe, each}
use Rattle.em_tree.specs.Starts.{Pieces}
use Rattle.em_tree.specs.Tokens.{Is, Maybe, Each}
use Rattle.em_tree.specs.ItemGrammar as g
use Rattle.em_tree.specs.ItemGrammar.{IsAttribute, IsFileAttribute, IsVis, ItemNode, IsItemBody, IsItem, IsFile, item_pieces, file_attribute_pieces, file_pieces}
use Rattle.em_grammar.specs.declared.sort.Written.TheVariants as word
use Rattle.em_grammar.specs.Sets.{Set, next, subset, others, both, anything, only, is_sign, Inside, Nested}
use Rattle.em_grammar.specs.Lang.{Seq, Many, joined}
use Rattle.em_grammar.specs.Reader.{Read, Found, Absent, Deep, and_then, or_stay, seq, many, all_of}
use Rattle.em_grammar.specs.ItemReader as read
use Rattle.em_grammar.specs.ItemReader.{at, mark, file_attribute, file_attribute_of, body_start, item_start, inner_of, item_over, file_of, file_over}
use Rattle.em_grammar.specs.ItemLaws.{Blocks, BlocksRead, BlocksSteady, FileRead, FileExact}
use Rattle.em_grammar.specs.Pairs.{Part, Firm, Exact, Steady, Sound, Begins}
use Rattle.em_grammar.proofs.Pairs.{in_subset, next_others, begins_next, begins_some, always, inside_left, inside_right, whole_token, absent_token, sound_then, sound_chain}
use Rattle.em_grammar.proofs.Lists.{many_of}
use Rattle.em_grammar.proofs.Tests.{sign}
use Rattle.em_grammar.proofs.Steady.{firm_map, firm_seq, firm_many}
use Rattle.em_grammar.proofs.Nesting.{nesting, only_one, exact_of}
use Rattle.em_grammar.proofs.TypePairs.{plain_types_read}
use Rattle.em_grammar.proofs.PatPairs.{pats_read}
use Rattle.em_grammar.proofs.ItemTools.{many_until}
use Rattle.em_grammar.proofs.ItemPartPairs.{attribute_pieces, vis_pieces, file_attribute_pair}
use Rattle.em_grammar.proofs.ItemUsePairs.{body_pieces, free}
use Rattle.em_grammar.proofs.ItemPairs.{pieces_item, pieces_item_group, made_plain, made_group, body_pair}
use Rattle.em_grammar.proofs.ItemKnot.{no_item, is_node, items_read}
use Rattle.em_grammar.proofs.ItemFirm.{file_attribute_firm, items_firm}

-- a list ends where nothing more is read
many_stops : {A : Type 0} (P : Pieces → Read A) → P [] ≡ Absent → ((i : Pieces) (a : A) (s : Pieces) → P i ≡ Found a s → suc (length s) ≤ length i)
    → (n : ℕ) (found : List A) (i : Pieces) (t : List A) (r : Pieces) → length i ≤ n → many P n found i ≡ Found t r → P r ≡ Absent
unfolding many
many_stops P nil shorter zero found [] t r h is = let same : [] ≡ r = cc in subst (λ k. P k ≡ Absent) same nil
many_stops P nil shorter zero found (x ∷ i) t r h is = absurd (omega (arith, h))
many_stops {A} P nil shorter (suc n) found i t r h is = go (P i) refl is (λ a s k. many_stops P nil shorter n (found ++ a ∷ []) s t r k)
  where
    go : (m : Read A) → P i ≡ m → or_stay m (λ a s. many P n (found ++ a ∷ []) s) (Found found i) ≡ Found t r
        → ((a : A) (s : Pieces) → length s ≤ n → many P n (found ++ a ∷ []) s ≡ Found t r → P r ≡ Absent) → P r ≡ Absent
    go (Found a s) eq is ih = ih a s (omega (arith, h, shorter i a s eq)) is
    go Absent eq is ih = let same : i ≡ r = cc in subst (λ k. P k ≡ Absent) same eq
    go Deep eq is ih = cc

not_pound : (n : ℕ) (s : Set) (ys r : Pieces) → subset s (others (at word.Pound)) ≡ true → Begins s ys → file_attribute n (ys ++ r) ≡ Absent
not_pound n s ys r inc b = (file_attribute_pair n 0).absent (ys ++ r) (next_others (at word.Pound) (ys ++ r) (in_subset s (others (at word.Pound)) inc (ys ++ r) (begins_next s ys r b)))

-- `#` and no `!`
no_bang : (n : ℕ) (a b : Token) (r : Pieces) → Is (codes "#") a → Is (codes "[") b → file_attribute n (p.Token a ∷ p.Token b ∷ r) ≡ Absent
no_bang n a b r is at' =
    ap (λ q. and_then (and_then q (λ x i. and_then (seq (mark word.Not) (seq (mark word.OpenBracket) (seq (read.meta n) (mark word.CloseBracket))) i) (λ u s. Found (x, u) s))) (λ t s. Found (file_attribute_of t) s))
    (whole_token (Is (codes "#")) (is_sign word.Pound) (only word.Pound) (sign word.Pound) a (p.Token b ∷ r) is)
    ∙ ap (λ q. and_then (and_then (and_then q (λ x i. and_then (seq (mark word.OpenBracket) (seq (read.meta n) (mark word.CloseBracket)) i) (λ u s. Found (x, u) s))) (λ u s. Found (a, u) s)) (λ t s. Found (file_attribute_of t) s))
    (absent_token (Is (codes "!")) (is_sign word.Not) (only word.Not) (sign word.Not) (p.Token b ∷ r)
    (next_others (at word.Not) (p.Token b ∷ r) (in_subset (at word.OpenBracket) (others (at word.Not)) refl (p.Token b ∷ r) ((sign word.OpenBracket).sorted b at'))))

module _ (block_in : Blocks) (blocks : BlocksRead block_in) where
  body_begins : (d : ℕ) (b : ItemBody Item) → IsItemBody d (IsItem d) b → Begins body_start (body_pieces b)
  body_begins d b m =
      (body_pair 0 d IsItem (inner_of block_in 0 d (item_over block_in 0 d)) refl (plain_types_read 0 d) (plain_types_read 0 (suc d)) (pats_read 0 d) (blocks 0 d) (items_read block_in blocks 0 d)).begins d b (omega arith) m

  -- an item doesn't begin as an attribute of the file
  pub no_file_attribute : (n d : ℕ) (x : Item) (r : Pieces) → IsItem d x → file_attribute n (item_pieces x ++ r) ≡ Absent
  no_file_attribute n zero x r m = absurd (no_item x m)
  no_file_attribute n (suc d) x r m = go x (is_node d x m)
    where
      body : (v : Option Vis) (b : ItemBody Item) → Maybe IsVis v → IsItemBody d (IsItem d) b → file_attribute n ((maybe vis_pieces v ++ body_pieces b) ++ r) ≡ Absent
      body None b v m = not_pound n body_start (body_pieces b) r refl (body_begins d b m)
      body (Some w) b v m = not_pound n (at word.Pub) (p.Token w.word ∷ _) r refl ((sign word.Pub).sorted w.word v.0)

      plain : (attrs : List Attribute) (v : Option Vis) (b : ItemBody Item) → Each IsAttribute attrs → Maybe IsVis v → IsItemBody d (IsItem d) b
          → file_attribute n ((each attribute_pieces attrs ++ (maybe vis_pieces v ++ body_pieces b)) ++ r) ≡ Absent
      plain [] v b a k m = body v b k m
      plain (x ∷ attrs) v b a k m = no_bang n x.hash x.open _ a.0.0 a.0.1

      go : (x : Item) → ItemNode d (IsItem d) x → file_attribute n (item_pieces x ++ r) ≡ Absent
      go x (g.ItemNode.plain {attrs} {vis} {b} is a v m) = ap (λ ys. file_attribute n (ys ++ r)) (ap (λ k. item_pieces k) (made_plain x attrs vis b is) ∙ pieces_item attrs vis b) ∙ plain attrs vis b a v m
      go x (g.ItemNode.group {y} {g = gr} is k ps m) =
          ap (λ ys. file_attribute n (ys ++ r)) (ap (λ k. item_pieces k) (made_group x gr y is) ∙ pieces_item_group gr y) ∙ (file_attribute_pair n 0).absent (p.Group gr ∷ r) refl

  pub lists_read : (n depth : ℕ) → Part (Nested n) depth (Many IsItem) (λ xs. each item_pieces xs) (all_of (item_over block_in n depth)) item_start (λ _. both anything (others item_start))
  lists_read n depth = many_of (items_read block_in blocks n depth) refl refl

  -- behind the attributes
  stop : (n d : ℕ) (items : List Item) (r : Pieces) → Many IsItem d items → next (at word.Pound) r ≡ false → file_attribute n (each item_pieces items ++ r) ≡ Absent
  stop n d [] r m h = (file_attribute_pair n 0).absent r h
  stop n d (x ∷ items) r m h = ap (λ ys. file_attribute n ys) (append_assoc (item_pieces x) (each item_pieces items) r) ∙ no_file_attribute n d x (each item_pieces items ++ r) m.0

  file_whole : (n depth d : ℕ) (x : FileTree) → d ≤ depth → Inside (Nested n) (file_pieces x) → IsFile d x → file_over block_in n depth (file_pieces x) ≡ Found x []
  file_whole n depth d x h w m =
      let as' : Pieces = each file_attribute_pieces x.attributes in
      let is : Pieces = each item_pieces x.items in
      ap (λ q. and_then (and_then q (λ a i. and_then (all_of (item_over block_in n depth) i) (λ u s. Found (a, u) s))) (λ t s. Found (file_of t) s))
      (many_until (file_attribute_pair n depth) (λ a r. always r) d x.attributes is h (inside_left (Nested n) as' is w) m.0
      (ap (λ k. file_attribute n k) (sym (append-nil is)) ∙ stop n d x.items [] m.1 refl))
      ∙ ap (λ q. and_then (and_then q (λ u s. Found (x.attributes, u) s)) (λ t s. Found (file_of t) s))
      (ap (λ k. all_of (item_over block_in n depth) k) (sym (append-nil is)) ∙ (lists_read n depth).whole d x.items [] h (inside_right (Nested n) as' is w) m.1 refl)

  attributes_read : (n depth : ℕ) → Part (Nested n) depth (Many (λ d. IsFileAttribute)) (λ xs. each file_attribute_pieces xs) (all_of (file_attribute n)) (at word.Pound) (λ _. both anything (others (at word.Pound)))
  attributes_read n depth = many_of (file_attribute_pair n depth) refl refl

  attribute_shorter : (n : ℕ) (i : Pieces) (a : FileAttribute) (s : Pieces) → file_attribute n i ≡ Found a s → suc (length s) ≤ length i
  attribute_shorter n i a s is =
      let k : Sound (λ d. IsFileAttribute) file_attribute_pieces (Found a s) i = subst (λ q. Sound (λ d. IsFileAttribute) file_attribute_pieces q i) is ((file_attribute_pair n 0).sound i) in
      omega (arith, ap (λ k. length k) k.1, length-append (file_attribute_pieces a) s, begins_some (at word.Pound) (file_attribute_pieces a) ((file_attribute_pair n k.0.0).begins k.0.0 a (omega arith) k.0.1))

  pub attributes_end : (n : ℕ) (i : Pieces) (xs : List FileAttribute) (r : Pieces) → all_of (file_attribute n) i ≡ Found xs r
      → Each IsFileAttribute xs × (i ≡ each file_attribute_pieces xs ++ r) × (file_attribute n r ≡ Absent)
  attributes_end n i xs r is =
      let k = subst (λ q. Sound (Many (λ d. IsFileAttribute)) (λ xs. each file_attribute_pieces xs) q i) is ((attributes_read n 0).sound i) in
      (k.0.1, k.1, many_stops (file_attribute n) ((file_attribute_pair n 0).absent [] refl) (attribute_shorter n) (length i) [] i xs r (omega arith) is)

  file_sound : (n depth : ℕ) (i : Pieces) → Sound IsFile file_pieces (file_over block_in n depth i) i
  file_sound n depth i =
      sound_then (Seq (Many (λ d. IsFileAttribute)) (Many IsItem)) (joined (each file_attribute_pieces) (each item_pieces)) IsFile file_pieces (seq (all_of (file_attribute n)) (all_of (item_over block_in n depth)) i)
      (λ t r. Found (file_of t) r) i i
      (sound_chain (Many (λ d. IsFileAttribute)) (each file_attribute_pieces) (λ _. Many IsItem) (each item_pieces) (all_of (file_attribute n)) (λ _. all_of (item_over block_in n depth)) (attributes_read n depth).grows
      (λ _. (lists_read n depth).grows) (attributes_read n depth).sound (λ _. (lists_read n depth).sound) i)
      (λ t r l eq. ((l.0, (l.1.0, l.1.1)), eq))

  shorter : (n depth : ℕ) (i : Pieces) (a : Item) (s : Pieces) → item_over block_in n depth i ≡ Found a s → suc (length s) ≤ length i
  shorter n depth i a s is =
      let k : Sound IsItem item_pieces (Found a s) i = subst (λ q. Sound IsItem item_pieces q i) is ((items_read block_in blocks n depth).sound i) in
      omega (arith, ap (λ k. length k) k.1, length-append (item_pieces a) s, begins_some item_start (item_pieces a) ((items_read block_in blocks n k.0.0).begins k.0.0 a (omega arith) k.0.1))

  -- what the last part of a file was read from
  behind : {A B C : Type 0} (m : Read A) (Q : Pieces → Read B) (f : A × B → C) (x : C) (r : Pieces) → and_then (and_then m (λ a i. and_then (Q i) (λ u s. Found (a, u) s))) (λ t s. Found (f t) s) ≡ Found x r
      → (i : Pieces) × (u : B) × (Q i ≡ Found u r)
  behind {A} {B} {C} (Found a i) Q f x r is = go (Q i) refl is
    where
      go : (q : Read B) → Q i ≡ q → and_then (and_then q (λ u s. Found (a, u) s)) (λ t s. Found (f t) s) ≡ Found x r → (i : Pieces) × (u : B) × (Q i ≡ Found u r)
      go (Found u s) eq is = let same : s ≡ r = cc in (i, u, eq ∙ ap (λ k. Found u k) same)
      go Absent eq is = cc
      go Deep eq is = cc
  behind Absent Q f x r is = cc
  behind Deep Q f x r is = cc

  file_stops : (n depth : ℕ) (i : Pieces) (x : FileTree) (r : Pieces) → file_over block_in n depth i ≡ Found x r → item_over block_in n depth r ≡ Absent
  file_stops n depth i x r is =
      let k = behind (all_of (file_attribute n) i) (all_of (item_over block_in n depth)) file_of x r is in
      many_stops (item_over block_in n depth) ((items_read block_in blocks n depth).absent [] refl) (shorter n depth) (length k.0) [] k.0 k.1 r (omega arith) k.2

  file_some : (n depth : ℕ) (i : Pieces) → file_over block_in n depth i ≡ Absent → ⊥
  file_some n depth i = go (all_of (file_attribute n) i) ((attributes_read n depth).total i)
    where
      last : (a : List FileAttribute) (q : Read (List Item)) → (q ≡ Absent → ⊥) → and_then (and_then q (λ u s. Found (a, u) s)) (λ t s. Found (file_of t) s) ≡ Absent → ⊥
      last a (Found u s) n is = cc
      last a Absent n is = n refl
      last a Deep n is = cc

      go : (m : Read (List FileAttribute)) → (m ≡ Absent → ⊥) → and_then (and_then m (λ a i. and_then (all_of (item_over block_in n depth) i) (λ u s. Found (a, u) s))) (λ t s. Found (file_of t) s) ≡ Absent → ⊥
      go (Found a i) k is = last a (all_of (item_over block_in n depth) i) ((lists_read n depth).total i) is
      go Absent k is = k refl
      go Deep k is = cc

  found_one : (x y : FileTree) → Found x [] ≡ Found y [] → x ≡ y
  found_one x y is = cc

  file_one : (d e : ℕ) (x y : FileTree) → IsFile d x → IsFile e y → file_pieces x ≡ file_pieces y → x ≡ y
  file_one d e x y m k is =
      let deep = nesting (file_pieces x) in
      found_one x y (
      sym (file_whole deep.0 (max d e) d x (omega arith) deep.1 m) ∙ ap (λ ys. file_over block_in deep.0 (max d e) ys) is
      ∙ file_whole deep.0 (max d e) e y (omega arith) (subst (λ ys. Inside (Nested deep.0) ys) is deep.1) k)

  module _ (steady : BlocksSteady block_in) where
    pub items_exact : Exact IsItem item_pieces (item_over block_in)
    items_exact =
        exact_of Item IsItem item_pieces (item_over block_in) item_start free (items_read block_in blocks) (λ d t m. refl) (λ n m d e h k. items_firm block_in steady blocks n m h d e k)

    file_firm : (n m d e : ℕ) → n ≤ m → d ≤ e → Firm (file_over block_in n d) (file_over block_in m e)
    file_firm n m d e h k = firm_map file_of (firm_seq (firm_many (file_attribute_firm n m h)) (firm_many (items_firm block_in steady blocks n m h d e k)))

    empty_left : (x y : FileTree) (r : Pieces) → Found x r ≡ Found y [] → r ≡ []
    empty_left x y r is = cc

    file_none : (n depth : ℕ) (i : Pieces) (x : FileTree) (r : Pieces) → file_over block_in n depth i ≡ Found x r → (d : ℕ) (y : FileTree) → IsFile d y → i ≡ file_pieces y → r ≡ []
    file_none n depth i x r is d y m eq =
        let deep = nesting (file_pieces y) in
        let a : ℕ = max n deep.0 in
        let b : ℕ = max depth d in
        let one : file_over block_in a b i ≡ Found x r = subst (λ q. Steady q (file_over block_in a b i)) is ((file_firm n a depth b (omega arith) (omega arith)).firm i) in
        let two : file_over block_in a b i ≡ Found y []
        = subst (λ q. Steady q (file_over block_in a b i)) (ap (λ k. file_over block_in deep.0 d k) eq ∙ file_whole deep.0 d d y (omega arith) deep.1 m) ((file_firm deep.0 a d b (omega arith) (omega arith)).firm i) in
        empty_left x y r (sym one ∙ two)

    pub files_exact : FileExact block_in
    files_exact = record { stops = λ n depth i x r is d y rest m eq. items_exact.none n depth r (file_stops n depth i x r is) d y rest m eq; none = file_none }

  pub files_read : FileRead block_in
  files_read = record { found = λ n depth i x r is. subst (λ q. Sound IsFile file_pieces q i) is (file_sound n depth i); stops = file_stops; whole = file_whole; some = file_some; one = file_one }

  pub item_one : (d e : ℕ) (x y : Item) → IsItem d x → IsItem e y → item_pieces x ≡ item_pieces y → x ≡ y
  item_one d e x y m k is =
      let deep = nesting (item_pieces x) in
      only_one (items_read block_in blocks deep.0 (max d e)) d e x y (omega arith) (omega arith) m k deep.1 is refl refl
