-- Imports and modules are read.
use Rattle.std.proofs.Common.{◌≡◌, ℕ, ◌≤◌, true, List, ◌∷◌, ◌++◌, Option, Some, None, refl, sym, ◌∙◌, ap, subst, append_assoc, ◌⊎◌, inl, inr}
use Rattle.std.specs.Prelude.{codes}
use Rattle.em_base.specs.declared.token.Token.{Token}
use Rattle.em_tree.specs.declared.piece.Piece.TheVariants as p
use Rattle.em_tree.specs.declared.types.Segment.{Segment}
use Rattle.em_tree.specs.declared.types.PathStep.{PathStep}
use Rattle.em_tree.specs.declared.types.Segments.{Segments}
use Rattle.em_tree.specs.declared.item.Rename.{Rename}
use Rattle.em_tree.specs.declared.item.UseName.{UseName}
use Rattle.em_tree.specs.declared.item.ItemBody.{ItemBody}
use Rattle.em_tree.specs.declared.item.Item.{Item}
use Rattle.em_tree.specs.Parts.{maybe, each, item_body_parts}
use Rattle.em_tree.specs.Starts.{Pieces}
use Rattle.em_tree.specs.Tokens.{Is, Name, Maybe, Each}
use Rattle.em_tree.specs.Yields.{piece, whole, as_it_is}
use Rattle.em_tree.specs.PathGrammar.{IsSegment, IsStep, AreSegments}
use Rattle.em_tree.specs.ItemGrammar.{IsRename, IsUseName, item_pieces}
use Rattle.em_grammar.specs.declared.sort.Written.TheVariants as word
use Rattle.em_grammar.specs.Sets.{Set, subset, tokens, anything, others, either, both, only, is_sign, Inside}
use Rattle.em_grammar.specs.Lang.{Seq, Opt, Many, Lists, Image, Or, one, two, with_comma}
use Rattle.em_grammar.specs.Reader.{Read, Found, Absent, and_then, seq, opt, mapped, all_of}
use Rattle.em_grammar.specs.PathReader.{segment_first, segment, step_of, step, segments_of, segments_first, segments}
use Rattle.em_grammar.specs.ItemReader.{at, mark, rename_of, rename, use_sort, use_name_of, use_name, extern_of, extern_crate, UseTail, use_tail, use_with, use_of, use_item, ModTail, mod_tail, mod_with, mod_of, mod_item, item_start}
use Rattle.em_grammar.specs.Pairs.{Pair}
use Rattle.em_grammar.proofs.Pairs.{tok, seq_of, seq_part, part_seq, opt_of, may_opt, opt_clear, in_subset, next_others, begins_next, may_begin, always, inside_left, inside_right, whole_token}
use Rattle.em_grammar.proofs.Lists.{many_of, commas_of}
use Rattle.em_grammar.proofs.Forms.{image_of, or_of, same_of}
use Rattle.em_grammar.proofs.Tests as test
use Rattle.em_grammar.proofs.Tests.{sign, either_test}
use Rattle.em_grammar.proofs.PathPairs.{segment_pieces, step_pieces, segments_pieces, segment_pair, step_pair, segments_pair}
use Rattle.em_grammar.proofs.ItemTools.{Ahead, ahead_seq, many_until}
use Rattle.em_grammar.proofs.ItemPartPairs.{rename_pieces, use_name_pieces}

abbrev pub body_pieces : ItemBody Item → Pieces
body_pieces x = item_body_parts piece whole as_it_is item_pieces x

abbrev pub free : {A : Type 0} → A → Set
free x = anything

-- ---- names that imports bind

to_rename : (d : ℕ) (x : Rename) → Image rename_of (Seq (λ d. Is (codes "as")) (λ d. Name)) d x → IsRename x
to_rename d x m = subst (λ x. IsRename x) (sym m.2) m.1

to_use_name : (d : ℕ) (x : UseName) → Image use_name_of (Seq (λ d t. Name t ⊎ Is (codes "self") t) (Opt (λ d. IsRename))) d x → IsUseName x
to_use_name d x m = subst (λ x. IsUseName x) (sym m.2) m.1

abbrev pub PlainTail : ℕ → UseTail → Type 0
PlainTail = Image one (Seq (Opt (λ d. IsRename)) (λ d. Is (codes ";")))

abbrev pub ListTail : ℕ → UseTail → Type 0
ListTail = Image two (Seq (λ d. Is (codes "::")) (Seq (λ d. Is (codes "{")) (Seq (Lists (λ d. IsUseName)) (Seq (λ d. Is (codes "}")) (λ d. Is (codes ";"))))))

abbrev tail_pieces : UseTail → Pieces
tail_pieces (one t) = maybe rename_pieces t.0 ++ piece t.1
tail_pieces (two t) = piece t.0 ++ (piece t.1.0 ++ (each (with_comma use_name_pieces) t.1.1.0 ++ (piece t.1.1.1.0 ++ piece t.1.1.1.1)))

module _ (H : Pieces → Type 0) (depth : ℕ) where
  rename_pair : Pair H depth (λ d. IsRename) rename_pieces rename (at word.As) free
  rename_pair =
      same_of to_rename (λ d x m. ((x.word, x.name), m, refl))
      (image_of rename_of rename_pieces (λ d t m. refl) (λ _. refl) (seq_of (tok (sign word.As)) (tok test.name) (λ _. refl)))

  use_name_pair : Pair H depth (λ d. IsUseName) use_name_pieces use_name (tokens use_sort) (λ _. others (at word.As))
  use_name_pair =
      same_of to_use_name (λ d x m. ((x.name, x.rename), m, refl))
      (image_of use_name_of use_name_pieces (λ d t m. refl) inc (seq_part (tok (either_test test.name (sign word.SelfValue))) (opt_of rename_pair) (λ _. refl)))
    where
      inc : (t : Token × Option Rename) → subset (others (at word.As)) (both anything (opt_clear (at word.As) free t.1)) ≡ true
      inc (w, None) = refl
      inc (w, Some r) = refl

  pub extern_pair : Pair H depth (Image extern_of (Seq (λ d. Is (codes "extern")) (Seq (λ d. Is (codes "crate")) (Seq (λ d. Name) (Seq (Opt (λ d. IsRename)) (λ d. Is (codes ";")))))))
      body_pieces extern_crate (at word.Extern) free
  extern_pair =
      image_of extern_of body_pieces (λ d t m. refl) (λ _. refl)
      (seq_of (tok (sign word.Extern)) (seq_of (tok (sign word.Crate)) (seq_of (tok test.name)
      (part_seq (opt_of rename_pair) (tok (sign word.Semi)) (may_opt (at word.Semi) (at word.As) free refl (λ _. refl))) (λ _. refl)) (λ _. refl)) (λ _. refl))

  -- ---- the path of an import

  -- no further segment stands next
  abbrev Ends : Segments → Pieces → Type 0
  Ends s r = step r ≡ Absent

  segments_ahead : Ahead H depth (λ d. AreSegments) segments_pieces segments segments_first Ends
  segments_ahead = record {
    grows = (segments_pair H depth).grows;
    sound = (segments_pair H depth).sound;
    begins = λ d s h m. may_begin segments_first (segments_pieces s) ((segments_pair H depth).begins d s h m);
    whole = λ d s r h w m stop. whole d s.lead s.first s.more r h w m.lead m.first m.more stop;
    idle = λ i h. inl ((segments_pair H depth).absent i h);
  }
    where
      whole : (d : ℕ) (lead : Option Token) (first : Segment) (more : List PathStep) (r : Pieces) → d ≤ depth → Inside H (maybe piece lead ++ (segment_pieces first ++ each step_pieces more))
          → Maybe (Is (codes "::")) lead → IsSegment first → Each IsStep more → step r ≡ Absent
          → segments ((maybe piece lead ++ (segment_pieces first ++ each step_pieces more)) ++ r) ≡ Found (segments_of (lead, (first, more))) r
      whole d lead first more r h w a b c stop =
          let rest : Pieces = segment_pieces first ++ (each step_pieces more ++ r) in
          let w2 : Inside H (segment_pieces first ++ each step_pieces more) = inside_right H (maybe piece lead) (segment_pieces first ++ each step_pieces more) w in
          ap (λ k. segments k) (append_assoc (maybe piece lead) (segment_pieces first ++ each step_pieces more) r ∙ ap (λ k. maybe piece lead ++ k) (append_assoc (segment_pieces first) (each step_pieces more) r))
          ∙ ap (λ q. and_then (and_then q (λ l i. and_then (seq segment (all_of step) i) (λ u s. Found (l, u) s))) (λ t s. Found (segments_of t) s))
          ((opt_of {H = H} {depth = depth} (tok (sign word.PathSep))).whole d lead rest h (inside_left H (maybe piece lead) (segment_pieces first ++ each step_pieces more) w) a
          (in_subset segment_first (opt_clear (at word.PathSep) free lead) (may_opt segment_first (at word.PathSep) free refl (λ _. refl) lead) rest
          (begins_next segment_first (segment_pieces first) (each step_pieces more ++ r) ((segment_pair H depth).begins d first h b))))
          ∙ ap (λ q. and_then (and_then (and_then q (λ x i. and_then (all_of step i) (λ u s. Found (x, u) s))) (λ u s. Found (lead, u) s)) (λ t s. Found (segments_of t) s))
          ((segment_pair H depth).whole d first (each step_pieces more ++ r) h (inside_left H (segment_pieces first) (each step_pieces more) w2) b (always (each step_pieces more ++ r)))
          ∙ ap (λ q. and_then (and_then (and_then q (λ u s. Found (first, u) s)) (λ u s. Found (lead, u) s)) (λ t s. Found (segments_of t) s))
          (many_until (step_pair H depth) (λ a r. always r) d more r h (inside_right H (segment_pieces first) (each step_pieces more) w2) c stop)

  -- ---- imports

  plain_tail : Pair H depth PlainTail tail_pieces (mapped one (seq (opt rename) (mark word.Semi))) (either (at word.As) (at word.Semi)) free
  plain_tail =
      image_of one tail_pieces (λ d t m. refl) (λ _. refl)
      (part_seq (opt_of rename_pair) (tok (sign word.Semi)) (may_opt (at word.Semi) (at word.As) free refl (λ _. refl)))

  tail_pair : Pair H depth (Or PlainTail ListTail) tail_pieces use_tail (either (either (at word.As) (at word.Semi)) (at word.PathSep)) free
  tail_pair =
      or_of plain_tail
      (image_of two tail_pieces (λ d t m. refl) (λ _. refl)
      (seq_of (tok (sign word.PathSep)) (seq_of (tok (sign word.OpenBrace)) (part_seq (commas_of (sign word.Comma) use_name_pair refl refl)
      (seq_of (tok (sign word.CloseBrace)) (tok (sign word.Semi)) (λ _. refl)) (λ _. refl)) (λ _. refl)) (λ _. refl))) refl

  -- what stands behind the path is no segment
  no_step : (d : ℕ) (s : Segments) (u : UseTail) (r : Pieces) → d ≤ depth → AreSegments s → Or PlainTail ListTail d u → Ends s (tail_pieces u ++ r)
  no_step d s u r h a (inl m) =
      (step_pair H depth).absent (tail_pieces u ++ r) (next_others (at word.PathSep) (tail_pieces u ++ r)
      (in_subset (either (at word.As) (at word.Semi)) (others (at word.PathSep)) refl (tail_pieces u ++ r) (begins_next (either (at word.As) (at word.Semi)) (tail_pieces u) r (plain_tail.begins d u h m))))
  no_step d s u r h a (inr m) = subst (λ u. step (tail_pieces u ++ r) ≡ Absent) (sym m.2) (go m.0.0 m.0.1.0 m.1.0 m.1.1.0 _)
    where
      go : (a b : Token) → Is (codes "::") a → Is (codes "{") b → (r : Pieces) → step (p.Token a ∷ p.Token b ∷ r) ≡ Absent
      go a b is at r =
          ap (λ q. and_then (and_then q (λ x i. and_then (segment i) (λ u s. Found (x, u) s))) (λ t s. Found (step_of t) s))
          (whole_token (Is (codes "::")) (is_sign word.PathSep) (only word.PathSep) (sign word.PathSep) a (p.Token b ∷ r) is)
          ∙ ap (λ q. and_then (and_then q (λ u s. Found (a, u) s)) (λ t s. Found (step_of t) s))
          ((segment_pair H depth).absent (p.Token b ∷ r) (next_others segment_first (p.Token b ∷ r) (in_subset (tokens (only word.OpenBrace)) (others segment_first) refl (p.Token b ∷ r) ((sign word.OpenBrace).sorted b at))))

  pub use_pair : Pair H depth (Image use_of (Seq (λ d. Is (codes "use")) (Seq (λ d. AreSegments) (Or PlainTail ListTail)))) body_pieces use_item (at word.Use) free
  use_pair = image_of use_of body_pieces (λ d t m. same t.0 t.1.0 t.1.1) (λ _. refl) (seq_of (tok (sign word.Use)) (ahead_seq segments_ahead tail_pair no_step) (λ _. refl))
    where
      same : (w : Token) (s : Segments) (u : UseTail) → body_pieces (use_with w s u) ≡ piece w ++ (segments_pieces s ++ tail_pieces u)
      same w s (one t) = refl
      same w s (two t) = refl

-- ---- modules

abbrev pub ModTails : (ℕ → Item → Type 0) → ℕ → ModTail → Type 0
ModTails I = Or (Image one (λ d. Is (codes ";"))) (Image two (Seq (λ d. Is (codes "{")) (Seq (Many I) (λ d. Is (codes "}")))))

module _ {H : Pieces → Type 0} {depth : ℕ} (I : ℕ → Item → Type 0) (items : Pieces → Read Item) (inner : Pair H depth I item_pieces items item_start free) where
  abbrev mod_tail_pieces : ModTail → Pieces
  mod_tail_pieces (one t) = piece t
  mod_tail_pieces (two t) = piece t.0 ++ (each item_pieces t.1.0 ++ piece t.1.1)

  mod_tail_pair : Pair H depth (ModTails I) mod_tail_pieces (mod_tail items) (either (at word.Semi) (at word.OpenBrace)) free
  mod_tail_pair =
      or_of (image_of one mod_tail_pieces (λ d t m. refl) (λ _. refl) (tok (sign word.Semi)))
      (image_of two mod_tail_pieces (λ d t m. refl) (λ _. refl)
      (seq_of (tok (sign word.OpenBrace)) (part_seq (many_of inner refl refl) (tok (sign word.CloseBrace)) (λ _. refl)) (λ _. refl))) refl

  pub mod_pair : Pair H depth (Image mod_of (Seq (λ d. Is (codes "mod")) (Seq (λ d. Name) (ModTails I)))) body_pieces (mod_item items) (at word.Mod) free
  mod_pair = image_of mod_of body_pieces (λ d t m. same t.0 t.1.0 t.1.1) (λ _. refl) (seq_of (tok (sign word.Mod)) (seq_of (tok test.name) mod_tail_pair (λ _. refl)) (λ _. refl))
    where
      same : (w n : Token) (u : ModTail) → body_pieces (mod_with w n u) ≡ piece w ++ (piece n ++ mod_tail_pieces u)
      same w n (one t) = refl
      same w n (two t) = refl
