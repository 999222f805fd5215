-- Types are read.
use Rattle.std.proofs.Common.{◌≡◌, ℕ, zero, suc, ◌≤◌, Bool, true, false, ◌&&◌, if◌then◌else◌, [], ◌∷◌, ◌++◌, Option, Some, None, refl, sym, ◌∙◌, ap, subst, arith}
use Rattle.std.specs.Prelude.{codes}
use Rattle.em_base.specs.declared.token.Token.{Token}
use Rattle.em_tree.specs.declared.piece.Piece.TheVariants as p
use Rattle.em_tree.specs.declared.types.Path.{Path}
use Rattle.em_tree.specs.declared.types.Bound.{Bound}
use Rattle.em_tree.specs.declared.types.TypeTree.{TypeTree}
use Rattle.em_tree.specs.Parts.{maybe}
use Rattle.em_tree.specs.Starts.{Pieces}
use Rattle.em_tree.specs.Tokens.{Is}
use Rattle.em_tree.specs.Yields.{piece}
use Rattle.em_tree.specs.PathGrammar.{literal_pieces, path_pieces, type_pieces, IsType}
use Rattle.em_grammar.specs.declared.sort.Weak.TheVariants as weak
use Rattle.em_grammar.specs.declared.sort.Written.{Written}
use Rattle.em_grammar.specs.declared.sort.Written.TheVariants as word
use Rattle.em_grammar.specs.Sorts.{text_of}
use Rattle.em_grammar.specs.Sets.{Set, next, subset, either, both, others, tokens, groups, anything, only, is_sign, dyn_sort, Nested}
use Rattle.em_grammar.specs.Lang.{one, two, Image, Shift}
use Rattle.em_grammar.specs.Reader.{Read, Found, Absent, Deep, and_then, token, mapped}
use Rattle.em_grammar.specs.PathReader.{path_first, path_clear, plain_path_in}
use Rattle.em_grammar.specs.TypeReader.{type_kind, is_type_group, node_first, type_first, type_clear, clear_by, dyn_follow, alone, is_lone, callable, Suffix, CallParts, angle_of, object_of, call_of, or_nothing, output_of, bound_of, path_type_of, ref_of, ref_ref_of, Bracket, bracket_of, unit_of, dyn_of, type_group_of, tree_of, closed, closing, plain_type, angle_suffix, output_part, call_parts, bound_node, object_suffix, call_suffix, suffix, path_type, ref, ref_ref, after_element, bracket, unit, dyn, type_group, type_token, type_node, path_over, type_by, readers_in, type_in, path_in}
use Rattle.em_grammar.specs.Pairs.{Pair, Part, Tail, Sound, Takes, Begins}
use Rattle.em_grammar.proofs.AllSorts.{and-left}
use Rattle.em_grammar.proofs.Pairs.{tok, tail_of, chain_of, chain_part, seq_of, seq_part, part_seq, opt_of, opt_clear, may_opt, in_subset, next_others, next_one, next_two, sound_in, exactly, whole_token}
use Rattle.em_grammar.proofs.Lists.{commas_of}
use Rattle.em_grammar.proofs.Forms.{image_of, image_in, image_part, or_of, or_part, same_of, same_part, shift_of, when_of, with_clear, restricted_of, Opened, opened_of, unopened, group_of}
use Rattle.em_grammar.proofs.Tests.{sign, keyword_dyn}
use Rattle.em_grammar.proofs.LiteralPairs.{int_reads}
use Rattle.em_grammar.proofs.PathLayers.{bound_pieces, output_pieces, pieces_ref, pieces_ref_ref, pieces_slice, pieces_array, pieces_unit, pieces_dyn, pieces_type_group}
use Rattle.em_grammar.proofs.PathPairs.{path_pair, plain_reads, more_path}
use Rattle.em_grammar.proofs.TypeNodes.{Typed, Owed, TypeIs, PlainIs, PathIs, BoundIs, OutputIs, ClosesAs, ClosingIs, CallIs, call_pieces, output_to, output_back, output_yield, bound_to, bound_back, bound_yield, bound_some, suffix_pieces, AngleSide, ObjectSide, CallSide, SuffixIs, suffix_yield, PathTypeSide, RefSide, RefRefSide, AfterIs, BracketSide, UnitSide, DynSide, Sides, GroupSide, type_to, type_of, type_grows, no_type_at}

abbrev typed_pieces : Typed → Pieces
typed_pieces t = type_pieces t.0

abbrev typed_clear : Typed → Set
typed_clear t = clear_by t.1

-- ---- sets by what is owed

abbrev owed_clear : Bool → Set
owed_clear true = tokens (only word.Shr)
owed_clear false = anything

abbrev closing_first : Bool → Set
closing_first true = tokens (only word.Shr)
closing_first false = either (tokens (only word.Gt)) (tokens (only word.Shr))

closing_follows : (o : Bool) → subset (closing_first o) (clear_by o) ≡ true
closing_follows true = refl
closing_follows false = refl

in_owed : (o : Bool) → subset (clear_by o) (owed_clear o) ≡ true
in_owed true = refl
in_owed false = refl

in_itself : (o : Bool) → subset (clear_by o) (clear_by o) ≡ true
in_itself true = refl
in_itself false = refl

in_any : (o : Bool) → subset (clear_by o) (both anything (clear_by o)) ≡ true
in_any true = refl
in_any false = refl

in_bound : (t : Option CallParts) → subset (clear_by (elim t [ None ↦ false | Some c ↦ c.1.1.1.1 ])) (both path_clear (opt_clear (tokens (only word.OpenParen)) (λ c. clear_by c.1.1.1.1) t)) ≡ true
in_bound None = refl
in_bound (Some c) = go c.1.1.1.1
  where
    go : (o : Bool) → subset (clear_by o) (both path_clear (clear_by o)) ≡ true
    go true = refl
    go false = refl

in_output : (t : Option (Token × Typed)) → subset (clear_by (output_of t).1) (opt_clear (tokens (only word.RArrow)) (λ t. clear_by t.1.1) t) ≡ true
in_output None = refl
in_output (Some t) = in_itself t.1.1

in_call : (t : Option (Suffix × Bool)) → subset (clear_by (or_nothing t).1) (opt_clear (tokens (only word.OpenParen)) (λ t. clear_by t.1) t) ≡ true
in_call None = refl
in_call (Some t) = in_itself t.1

abbrev suffix_clear : Suffix × Bool → Set
suffix_clear t = both (both (clear_by t.1) (others dyn_follow)) (others (tokens (only word.Lt)))

in_object : (o : Bool) → subset (both (clear_by o) (others dyn_follow)) (clear_by o) ≡ true
in_object true = refl
in_object false = refl

in_suffix : (o : Bool) → subset (clear_by o) (both path_clear (both (both (clear_by o) (others dyn_follow)) (others (tokens (only word.Lt))))) ≡ true
in_suffix true = refl
in_suffix false = refl

-- ---- what closes a `Box`

abbrev close_pieces : Option Token × Bool → Pieces
close_pieces t = maybe piece t.0

module _ (H : Pieces → Type 0) (depth : ℕ) (may : Bool) where
  closed_pair : (x : Written) → Pair H depth (Image closed (λ d. Is (text_of x))) close_pieces (mapped closed (token (is_sign x))) (tokens (only x)) (λ t. owed_clear false)
  closed_pair x = image_of closed close_pieces (λ d t m. refl) (λ _. refl) (tok (sign x))

  inner_to : (d : ℕ) (t : Option Token × Bool) → Image closed (λ d. Is (codes ">>")) d t → ClosingIs may true d t
  inner_to d t m = subst (λ t. ClosingIs may true d t) (sym m.2) m.1

  inner_of : (d : ℕ) (t : Option Token × Bool) → ClosingIs may true d t → Image closed (λ d. Is (codes ">>")) d t
  inner_of d t m = go t.0 t.1 m
    where
      go : (c : Option Token) (o : Bool) → ClosesAs may true c o → Image closed (λ d. Is (codes ">>")) d (c, o)
      go (Some t) false m = (t, m, refl)
      go (Some t) true m = absurd m
      go None o m = absurd m

  inner_tail : Pair H depth (ClosingIs may true) close_pieces (closing may true) (tokens (only word.Shr)) (λ t. owed_clear false)
  inner_tail = same_of inner_to inner_of (closed_pair word.Shr)

  alone_to : (d : ℕ) (t : Option Token × Bool) → Image closed (λ d. Is (codes ">")) d t → ClosingIs may false d t
  alone_to d t m = subst (λ t. ClosingIs may false d t) (sym m.2) m.1

  -- a `>` is no `>>`
  not_shr : (t : Token) (r : Pieces) → Is (codes ">") t → next (tokens (only word.Shr)) (p.Token t ∷ r) ≡ false
  not_shr t r a = next_others (tokens (only word.Shr)) (p.Token t ∷ r) (in_subset (tokens (only word.Gt)) (others (tokens (only word.Shr))) refl (p.Token t ∷ r) ((sign word.Gt).told t a))

  and_none : (a b : Bool) → b ≡ false → (a && b) ≡ false
  and_none true b h = h
  and_none false b h = refl

  and_all : (a b : Bool) → a ≡ true → b ≡ true → (a && b) ≡ true
  and_all true b h k = k
  and_all false b h k = cc

  taken : (t : Token) (r : Pieces) → Is (codes ">") t → closing may false (piece t ++ r) ≡ Found (Some t, false) r
  taken t r a =
      ap (λ b. if b then Found (None, true) (piece t ++ r) else mapped closed (token (is_sign word.Gt)) (piece t ++ r)) (and_none may (next (tokens (only word.Shr)) (p.Token t ∷ r)) (not_shr t r a))
      ∙ ap (λ q. and_then q (λ t r. Found (closed t) r)) (whole_token (Is (codes ">")) (is_sign word.Gt) (only word.Gt) (sign word.Gt) t r a)

  left : (r : Pieces) → may ≡ true → next (tokens (only word.Shr)) r ≡ true → closing may false r ≡ Found (None, true) r
  left r h k = ap (λ b. if b then Found (None, true) r else mapped closed (token (is_sign word.Gt)) r) (and_all may (next (tokens (only word.Shr)) r) h k)

  outer_tail : Tail H depth (ClosingIs may false) close_pieces (closing may false) (closing_first false) (λ t. owed_clear t.1)
  outer_tail = record {
    grows = λ d t m. m;
    sound = λ i. sound i (may && next (tokens (only word.Shr)) i) refl;
    follows = λ d t r h m cl. follows t.0 t.1 r m cl;
    begins = λ d t h m en. begins t.0 t.1 m en;
    whole = λ d t r h w m cl. whole t.0 t.1 r m cl;
    longest = λ d t r h w m en. longest t.0 t.1 r m en;
  }
    where
      sound : (i : Pieces) (b : Bool) → (may && next (tokens (only word.Shr)) i) ≡ b
          → Sound (ClosingIs may false) close_pieces (if b then Found (None, true) i else mapped closed (token (is_sign word.Gt)) i) i
      sound i true is = ((0, and-left may (next (tokens (only word.Shr)) i) is), refl)
      sound i false is = sound_in (Image closed (λ d. Is (codes ">"))) (ClosingIs may false) close_pieces (mapped closed (token (is_sign word.Gt)) i) i alone_to ((closed_pair word.Gt).sound i)

      starts : (t : Token) (r : Pieces) → Is (codes ">") t → next (closing_first false) (p.Token t ∷ r) ≡ true
      starts t r a = next_one (tokens (only word.Gt)) (tokens (only word.Shr)) (p.Token t ∷ r) ((sign word.Gt).told t a)

      follows : (c : Option Token) (o : Bool) (r : Pieces) → ClosesAs may false c o → next (owed_clear o) r ≡ true → next (closing_first false) (maybe piece c ++ r) ≡ true
      follows None true r m cl = next_two (tokens (only word.Gt)) (tokens (only word.Shr)) r cl
      follows (Some t) false r m cl = starts t r m
      follows None false r m cl = absurd m
      follows (Some t) true r m cl = absurd m

      begins : (c : Option Token) (o : Bool) → ClosesAs may false c o → (owed_clear o).end ≡ true → Begins (closing_first false) (maybe piece c)
      begins None true m en = cc
      begins (Some t) false m en = starts t [] m
      begins None false m en = absurd m
      begins (Some t) true m en = absurd m

      whole : (c : Option Token) (o : Bool) (r : Pieces) → ClosesAs may false c o → next (owed_clear o) r ≡ true → closing may false (maybe piece c ++ r) ≡ Found (c, o) r
      whole None true r m cl = left r m cl
      whole (Some t) false r m cl = taken t r m
      whole None false r m cl = absurd m
      whole (Some t) true r m cl = absurd m

      longest : (c : Option Token) (o : Bool) (r : Pieces) → ClosesAs may false c o → (owed_clear o).end ≡ true → Takes (closing may false (maybe piece c ++ r)) r
      longest None true r m en = cc
      longest (Some t) false r m en = exactly (closing may false (piece t ++ r)) (Some t, false) r (taken t r m)
      longest None false r m en = absurd m
      longest (Some t) true r m en = absurd m

  owed_none : (d : ℕ) (t : Option Token × Bool) → ClosingIs may true d t → t.1 ≡ false
  owed_none d t m = go t.0 t.1 m
    where
      go : (c : Option Token) (o : Bool) → ClosesAs may true c o → o ≡ false
      go (Some t) false m = refl
      go (Some t) true m = absurd m
      go None o m = absurd m

  closing_tail : (o : Bool) → Tail H depth (ClosingIs may o) close_pieces (closing may o) (closing_first o) (λ t. owed_clear t.1)
  closing_tail false = outer_tail
  closing_tail true = record {
    grows = inner_tail.grows;
    sound = inner_tail.sound;
    follows = λ d t r h m cl. (tail_of inner_tail).follows d t r h m (subst (λ o. next (owed_clear o) r ≡ true) (owed_none d t m) cl);
    begins = λ d t h m en. inner_tail.begins d t h m;
    whole = λ d t r h w m cl. inner_tail.whole d t r h w m (subst (λ o. next (owed_clear o) r ≡ true) (owed_none d t m) cl);
    longest = λ d t r h w m en. inner_tail.longest d t r h w m refl;
  }

-- a type that owes nothing
plain_pair : (H : Pieces → Type 0) (depth : ℕ) (inner : Bool → Pieces → Read Typed) → ((may : Bool) → Pair H depth (TypeIs may) typed_pieces (inner may) type_first typed_clear)
    → Pair H depth PlainIs type_pieces (mapped tree_of (inner false)) type_first (λ _. type_clear)
plain_pair H depth inner types = same_of to (λ d x m. ((x, false), (m, λ h. h), refl)) (image_in tree_of type_pieces (λ d t m. refl) (λ d t m. inc t.1 m.1) (types false))
  where
    inc : (o : Bool) → Owed false o → subset type_clear (clear_by o) ≡ true
    inc true h = let none : false ≡ true = h refl in cc
    inc false h = refl

    go : (d : ℕ) (x : TypeTree) (o : Bool) → IsType d o x → Owed false o → PlainIs d x
    go d x true m h = let none : false ≡ true = h refl in cc
    go d x false m h = m

    to : (d : ℕ) (x : TypeTree) → Image tree_of (TypeIs false) d x → PlainIs d x
    to d x m = subst (λ k. PlainIs d k) (sym m.2) (go d m.0.0 m.0.1 m.1.0 m.1.1)

-- ---- over types in here, and paths

module _ (H : Pieces → Type 0) (depth : ℕ) (inner : Bool → Pieces → Read Typed) (path : Pieces → Read Path)
    (types : (may : Bool) → Pair H depth (TypeIs may) typed_pieces (inner may) type_first typed_clear) (paths : Pair H depth PathIs path_pieces path path_first (λ _. path_clear)) where
  abbrev part_pieces : Suffix × Bool → Pieces
  part_pieces t = suffix_pieces t.0

  angle_pair : (may : Bool) → Pair H depth (AngleSide may) part_pieces (angle_suffix inner path may) (tokens (only word.Lt)) (λ t. clear_by t.1)
  angle_pair may =
      image_of angle_of part_pieces (λ d t m. refl) (λ t. in_owed t.1.1.1)
      (seq_of (tok (sign word.Lt)) (chain_of {g = λ t. closing_first t.1} {e = λ t. owed_clear t.1} (types true) (λ t. closing_tail H depth may t.1) (λ t. closing_follows t.1)) (λ _. refl))

  output_pair : (may : Bool) → Part H depth (OutputIs may) (λ t. output_pieces t.0) (output_part inner path may) (tokens (only word.RArrow)) (λ t. clear_by t.1)
  output_pair may =
      same_part (output_to may) (output_back may)
      (image_part output_of (λ t. output_pieces t.0) (λ d t m. output_yield t) in_output (opt_of (seq_of (tok (sign word.RArrow)) (types may) (λ _. refl))))

  call_pair : (may : Bool) → Pair H depth (CallIs may) call_pieces (call_parts inner path may) (tokens (only word.OpenParen)) (λ t. clear_by t.1.1.1.1)
  call_pair may =
      with_clear (λ t. in_any t.1.1.1.1)
      (seq_of (tok (sign word.OpenParen)) (part_seq (commas_of (sign word.Comma) (plain_pair H depth inner types) refl refl) (seq_part (tok (sign word.CloseParen)) (output_pair may) (λ _. refl)) (λ _. refl)) (λ _. refl))

  bound_pair : (may : Bool) → Pair H depth (BoundIs may) (λ t. bound_pieces t.0) (bound_node inner path may) path_first (λ t. clear_by t.1)
  unfolding bound_node
  bound_pair may =
      same_of (bound_to may) (bound_back may)
      (image_of bound_of (λ t. bound_pieces t.0) (λ d t m. bound_yield t.0 t.1) (λ t. inc t.0 t.1) (seq_part paths (opt_of (call_pair may)) (λ _. refl)))
    where
      inc : (x : Path) (t : Option CallParts) → subset (clear_by (bound_of (x, t)).1) (both path_clear (opt_clear (tokens (only word.OpenParen)) (λ c. clear_by c.1.1.1.1) t)) ≡ true
      inc x None = in_bound None
      inc x (Some c) = in_bound (Some c)

  object_pair : (may : Bool) → Pair H depth (ObjectSide may) part_pieces (object_suffix inner path may) dyn_follow (λ t. clear_by t.1)
  object_pair may = image_of object_of part_pieces (λ d t m. refl) (λ t. in_itself t.1) (restricted_of dyn_follow (bound_some may) (bound_pair may))

  calls_pair : (may : Bool) → Pair H depth (CallSide may) part_pieces (call_suffix inner path may) (tokens (only word.OpenParen)) (λ t. clear_by t.1)
  calls_pair may = image_of call_of part_pieces (λ d t m. refl) (λ t. in_itself t.1.1.1.1) (call_pair may)

  suffix_part : (may : Bool) (x : Path) → Part H depth (SuffixIs may x) part_pieces (suffix inner path may x) (either (tokens (only word.Lt)) (either dyn_follow (tokens (only word.OpenParen)))) suffix_clear
  suffix_part may x =
      or_part (with_clear (λ t. in_object t.1) (when_of (is_lone weak.Box (alone x)) (angle_pair may)))
      (or_part (when_of (is_lone weak.Dyn (alone x)) (object_pair may))
      (image_part or_nothing part_pieces (λ d t m. nothing_more t) in_call (opt_of (when_of (callable x) (calls_pair may)))) refl refl) refl refl
    where
      nothing_more : (t : Option (Suffix × Bool)) → part_pieces (or_nothing t) ≡ maybe part_pieces t
      nothing_more None = refl
      nothing_more (Some t) = refl

  path_type_pair : (may : Bool) → Pair H depth (PathTypeSide may) typed_pieces (path_type inner path may) path_first typed_clear
  unfolding path_type
  path_type_pair may =
      image_of path_type_of typed_pieces (λ d t m. suffix_yield may t.0 d t.1 m.1) (λ t. in_suffix t.1.1)
      (chain_part {g = either (tokens (only word.Lt)) (either dyn_follow (tokens (only word.OpenParen)))} {e = suffix_clear} paths (suffix_part may) (λ _. refl))

ref_pair : (H : Pieces → Type 0) (depth : ℕ) (may : Bool) (inner : Pieces → Read Typed) → Pair H depth (TypeIs may) typed_pieces inner type_first typed_clear
    → Pair H depth (RefSide may) typed_pieces (ref inner) (tokens (only word.And)) typed_clear
ref_pair H depth may inner a =
    image_of ref_of typed_pieces (λ d t m. pieces_ref t.0 t.1.0 t.1.1.0) (λ t. in_itself t.1.1.1)
    (seq_of (tok (sign word.And)) (part_seq (opt_of (tok (sign word.Mut))) a (may_opt type_first (tokens (only word.Mut)) (λ _. anything) refl (λ _. refl))) (λ _. refl))

ref_ref_pair : (H : Pieces → Type 0) (depth : ℕ) (may : Bool) (deeper : Pieces → Read Typed) → Pair H depth (Shift (TypeIs may)) typed_pieces deeper type_first typed_clear
    → Pair H depth (RefRefSide may) typed_pieces (ref_ref deeper) (tokens (only word.AndAnd)) typed_clear
ref_ref_pair H depth may deeper a =
    image_of ref_ref_of typed_pieces (λ d t m. pieces_ref_ref t.0 t.1.0 t.1.1.0) (λ t. in_itself t.1.1.1)
    (seq_of (tok (sign word.AndAnd)) (part_seq (opt_of (tok (sign word.Mut))) a (may_opt type_first (tokens (only word.Mut)) (λ _. anything) refl (λ _. refl))) (λ _. refl))

-- what stands behind the element of a slice or an array
abbrev bracket_pieces : Bracket → Pieces
bracket_pieces (one c) = piece c
bracket_pieces (two t) = piece t.0 ++ (literal_pieces t.1.0 ++ piece t.1.1)

after_pair : (n depth : ℕ) → Pair (Nested n) depth AfterIs bracket_pieces (after_element n) (either (tokens (only word.CloseBracket)) (tokens (only word.Semi))) (λ _. anything)
after_pair n depth =
    or_of (image_of one bracket_pieces (λ d t m. refl) (λ _. refl) (tok (sign word.CloseBracket)))
    (image_of two bracket_pieces (λ d t m. refl) (λ _. refl) (seq_of (tok (sign word.Semi)) (seq_of (int_reads n depth) (tok (sign word.CloseBracket)) (λ _. refl)) (λ _. refl))) refl

bracket_pair : (n depth : ℕ) (element : Pieces → Read TypeTree) → Pair (Nested n) depth PlainIs type_pieces element type_first (λ _. type_clear)
    → Pair (Nested n) depth BracketSide typed_pieces (bracket n element) (tokens (only word.OpenBracket)) typed_clear
bracket_pair n depth element a =
    image_of bracket_of typed_pieces (λ d t m. yield t.0 t.1.0 t.1.1) (λ _. refl) (seq_of (tok (sign word.OpenBracket)) (seq_of a (after_pair n depth) (λ _. refl)) (λ _. refl))
  where
    yield : (o : Token) (x : TypeTree) (k : Bracket) → typed_pieces (bracket_of (o, (x, k))) ≡ piece o ++ (type_pieces x ++ bracket_pieces k)
    yield o x (one c) = pieces_slice o x c
    yield o x (two t) = pieces_array o x t.0 t.1.0 t.1.1

unit_pair : (H : Pieces → Type 0) (depth : ℕ) → Pair H depth UnitSide typed_pieces unit (tokens (only word.OpenParen)) typed_clear
unit_pair H depth = image_of unit_of typed_pieces (λ d t m. pieces_unit t.0 t.1) (λ _. refl) (seq_of (tok (sign word.OpenParen)) (tok (sign word.CloseParen)) (λ _. refl))

dyn_pair : (H : Pieces → Type 0) (depth : ℕ) (may : Bool) (b : Pieces → Read (Bound × Bool)) → Pair H depth (BoundIs may) (λ t. bound_pieces t.0) b path_first (λ t. clear_by t.1)
    → Pair H depth (DynSide may) typed_pieces (dyn b) (tokens dyn_sort) typed_clear
dyn_pair H depth may b a = image_of dyn_of typed_pieces (λ d t m. pieces_dyn t.0 t.1.0) (λ t. in_itself t.1.1) (seq_of (tok keyword_dyn) a (λ _. refl))

group_pair : (H : Pieces → Type 0) (depth : ℕ) (opened : Pieces → Read TypeTree) → Opened H depth PlainIs type_pieces opened
    → Pair H depth GroupSide typed_pieces (type_group opened) (groups type_kind) typed_clear
group_pair H depth opened o = image_of type_group_of typed_pieces (λ d t m. pieces_type_group t.0 t.1) (λ _. refl) (group_of is_type_group type_kind (λ g h. h) o)

-- ---- one node

module _ (n depth : ℕ) (inner deeper : Bool → Pieces → Read Typed) (path : Pieces → Read Path)
    (types : (may : Bool) → Pair (Nested n) depth (TypeIs may) typed_pieces (inner may) type_first typed_clear)
    (lower : (may : Bool) → Pair (Nested n) depth (Shift (TypeIs may)) typed_pieces (deeper may) type_first typed_clear)
    (paths : Pair (Nested n) depth PathIs path_pieces path path_first (λ _. path_clear)) where
  token_pair : (may : Bool) → Pair (Nested n) depth (Sides may) typed_pieces (type_token n inner deeper path may) node_first typed_clear
  unfolding type_token
  token_pair may =
      or_of (ref_pair (Nested n) depth may (inner may) (types may)) (or_of (ref_ref_pair (Nested n) depth may (deeper may) (lower may))
      (or_of (bracket_pair n depth (plain_type inner path) (plain_pair (Nested n) depth inner types)) (or_of (unit_pair (Nested n) depth)
      (or_of (dyn_pair (Nested n) depth may (bound_node inner path may) (bound_pair (Nested n) depth inner path types paths may)) (path_type_pair (Nested n) depth inner path types paths may) refl) refl) refl) refl) refl

  node_pair : (opened : Pieces → Read TypeTree) → Opened (Nested n) (suc depth) PlainIs type_pieces opened → (may : Bool)
      → Pair (Nested n) (suc depth) (TypeIs may) typed_pieces (type_node n inner deeper path opened may) type_first typed_clear
  unfolding type_node
  node_pair opened o may = same_of (type_to may) (type_of may) (or_of (shift_of (token_pair may)) (group_pair (Nested n) (suc depth) opened o) refl)

-- ---- all depths

typed_grows : (may : Bool) (d : ℕ) (t : Typed) → TypeIs may d t → TypeIs may (suc d) t
typed_grows may d t m = (type_grows d t.1 t.0 m.0, m.1)

path_grows : (d : ℕ) (x : Path) → PathIs d x → PathIs (suc d) x
path_grows d x m = more_path (PlainIs d) (PlainIs (suc d)) (type_grows d false) x m

-- a path, over types of a depth
path_step : (n depth : ℕ) (inner : Bool → Pieces → Read Typed) (opened : Pieces → Read Path) → ((may : Bool) → Pair (Nested n) depth (TypeIs may) typed_pieces (inner may) type_first typed_clear)
    → Opened (Nested n) depth PathIs path_pieces opened → Pair (Nested n) depth PathIs path_pieces (path_over n inner opened) path_first (λ _. path_clear)
path_step n depth inner opened types o =
    path_pair (Nested n) depth PlainIs (mapped tree_of (inner false)) type_first (λ _. type_clear) (plain_pair (Nested n) depth inner types) refl (λ _. refl) (plain_path_in n) (plain_reads n depth) opened o

-- where nothing can be within the depth
pub nothing_pair : (H : Pieces → Type 0) (T : Type 0) (M : ℕ → T → Type 0) (z : T → Pieces) (f : Set) (c : T → Set) → ((d : ℕ) (t : T) → M d t → M (suc d) t) → ((t : T) → M 0 t → ⊥)
    → Pair H 0 M z (λ i. if next f i then Deep else Absent) f c
nothing_pair H T M z f c up none = record {
  grows = up;
  sound = λ i. sound i (next f i);
  begins = λ d t h m. absurd (empty d t h m);
  whole = λ d t r h w m cl. absurd (empty d t h m);
  longest = λ d t r h w m en. absurd (empty d t h m);
  absent = λ i h. ap (λ b. if b then Deep else Absent) h;
}
  where
    empty : (d : ℕ) (t : T) → d ≤ 0 → M d t → ⊥
    empty zero t h m = none t m
    empty (suc d) t h m = absurd (omega (arith, h))

    sound : (i : Pieces) (b : Bool) → Sound M z (if b then Deep else Absent) i
    sound i true = tt
    sound i false = tt

shift_grows : (may : Bool) (d : ℕ) (t : Typed) → Shift (TypeIs may) d t → Shift (TypeIs may) (suc d) t
shift_grows may zero t m = absurd m
shift_grows may (suc d) t m = typed_grows may d t m

module _ (n : ℕ) (types : ℕ → Pieces → Read TypeTree) (paths : ℕ → Pieces → Read Path)
    (opens : (depth : ℕ) → Opened (Nested n) depth PlainIs type_pieces (types depth)) (opens_paths : (depth : ℕ) → Opened (Nested n) depth PathIs path_pieces (paths depth)) where
  zero_pair : (may : Bool) → Pair (Nested n) 0 (TypeIs may) typed_pieces (type_by n types paths 0 may) type_first typed_clear
  unfolding type_by
  zero_pair may = nothing_pair (Nested n) Typed (TypeIs may) typed_pieces type_first typed_clear (typed_grows may) (λ t m. no_type_at t.1 t.0 m.0)

  lower_pair : (may : Bool) → Pair (Nested n) 0 (Shift (TypeIs may)) typed_pieces (type_by n types paths 0 may) type_first typed_clear
  unfolding type_by
  lower_pair may = nothing_pair (Nested n) Typed (Shift (TypeIs may)) typed_pieces type_first typed_clear (shift_grows may) (λ t m. m)

  by_pair : (depth : ℕ) (may : Bool) → Pair (Nested n) depth (TypeIs may) typed_pieces (type_by n types paths depth may) type_first typed_clear
  unfolding type_by
  by_pair zero may = zero_pair may
  by_pair (suc zero) may =
      node_pair n 0 (type_by n types paths 0) (type_by n types paths 0) (path_over n (type_by n types paths 0) (paths 0)) zero_pair lower_pair
      (path_step n 0 (type_by n types paths 0) (paths 0) zero_pair (opens_paths 0)) (types 1) (opens 1) may
  by_pair (suc (suc depth)) may =
      let here : (may : Bool) → Pair (Nested n) (suc depth) (TypeIs may) typed_pieces (type_by n types paths (suc depth) may) type_first typed_clear = λ may. by_pair (suc depth) may in
      let below : (may : Bool) → Pair (Nested n) depth (TypeIs may) typed_pieces (type_by n types paths depth may) type_first typed_clear = λ may. by_pair depth may in
      node_pair n (suc depth) (type_by n types paths (suc depth)) (type_by n types paths depth) (path_over n (type_by n types paths (suc depth)) (paths (suc depth))) here (λ may. shift_of (below may))
      (path_step n (suc depth) (type_by n types paths (suc depth)) (paths (suc depth)) here (opens_paths (suc depth))) (types (suc (suc depth))) (opens (suc (suc depth))) may

-- ---- groups in one another

abbrev TypesRead : ℕ → Type 0
TypesRead n = (depth : ℕ) (may : Bool) → Pair (Nested n) depth (TypeIs may) typed_pieces (type_in n depth may) type_first typed_clear

abbrev PathsRead : ℕ → Type 0
PathsRead n = (depth : ℕ) → Pair (Nested n) depth PathIs path_pieces (path_in n depth) path_first (λ _. path_clear)

owes_none : (d : ℕ) (t : Typed) → TypeIs false d t → (typed_clear t).end ≡ true
owes_none d t m = go t.1 m.1
  where
    go : (o : Bool) → Owed false o → (clear_by o).end ≡ true
    go true h = let none : false ≡ true = h refl in cc
    go false h = refl

-- the pieces of a group are read by what reads one group less
opens_types : (n : ℕ) → TypesRead n → (depth : ℕ) → Opened (Nested (suc n)) depth PlainIs type_pieces (mapped tree_of (type_in n depth false))
opens_types n known depth = opened_of (plain_pair (Nested n) depth (type_in n depth) (known depth)) (λ d t m. refl)

both_read : (n : ℕ) → TypesRead n × PathsRead n
unfolding readers_in
both_read zero =
    let types : TypesRead 0 = by_pair 0 (λ depth i. Deep) (λ depth i. Deep) (λ depth. unopened (λ d x m. type_grows d false x m)) (λ depth. unopened path_grows) in (
      types,
      λ depth. path_step 0 depth (type_by 0 (λ depth i. Deep) (λ depth i. Deep) depth) (λ i. Deep) (types depth) (unopened path_grows),
    )
both_read (suc n) =
    let below = both_read n in
    let types : TypesRead (suc n)
    = by_pair (suc n) (λ depth. mapped tree_of (type_in n depth false)) (path_in n) (opens_types n below.0) (λ depth. opened_of (below.1 depth) (λ d t m. refl)) in (
      types,
      λ depth. path_step (suc n) depth (type_by (suc n) (λ depth. mapped tree_of (type_in n depth false)) (path_in n) depth) (path_in n depth) (types depth) (opened_of (below.1 depth) (λ d t m. refl)),
    )

pub types_read : (n : ℕ) → TypesRead n
types_read n = (both_read n).0

pub paths_read : (n : ℕ) → PathsRead n
paths_read n = (both_read n).1

pub plain_types_read : (n depth : ℕ) → Pair (Nested n) depth PlainIs type_pieces (mapped tree_of (type_in n depth false)) type_first (λ _. type_clear)
plain_types_read n depth = plain_pair (Nested n) depth (type_in n depth) (types_read n depth)
