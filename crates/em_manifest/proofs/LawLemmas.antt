-- The lines of bytes are all of them, cut behind each line feed.
use Rattle.std.proofs.Common.{◌≡◌, ◌==◌, ◌&&◌, ℕ, List, [], ◌∷◌, true, false, length, ap, refl, inl, inr}
use Rattle.std.proofs.lemmas.Bool.{cases_Bool, eqb-true, and_parts}
use Rattle.std.proofs.lemmas.List.{nil_from_length}
use Rattle.std.proofs.lemmas.Slice.Eq.{bytes_eq-Decides}
use Rattle.std.specs.Str.{bytes_eq}
use Rattle.em_manifest.specs.Laws.{AreLines, Ends}
use Rattle.em_manifest.specs.Lines.{Line, lines, written, begin_with, is_line_feed}

is_feed_line : (l : Line) → is_line_feed l ≡ true → (l.text ≡ []) × (l.ending ≡ 10 ∷ [])
is_feed_line l h =
    let (empty, feed) = and_parts (length l.text == 0) (bytes_eq l.ending (10 ∷ [])) h in
    (nil_from_length l.text (eqb-true (length l.text) 0 empty), (bytes_eq-Decides l.ending (10 ∷ [])).0 feed)

written-begin : (b : ℕ) (ls : List Line) → written (begin_with b ls) ≡ b ∷ written ls
written-begin b [] = refl
written-begin b (l ∷ ls) = elim (cases_Bool ((b == 13) && is_line_feed l)) [
  | inl both ↦
      let (return, feed) = and_parts (b == 13) (is_line_feed l) both in
      let (text, ending) = is_feed_line l feed in
      rw (both, eqb-true b 13 return, text, ending)
  | inr other ↦ rw other
]

pub written-lines : (bytes : List ℕ) → written (lines bytes) ≡ bytes
written-lines [] = refl
written-lines (b ∷ bs) = elim (cases_Bool (b == 10)) [
  | inl feed ↦ rw (feed, eqb-true b 10 feed) (ap (λ rest. 10 ∷ rest) (written-lines bs))
  | inr other ↦ rw (other, written-begin b (lines bs)) (ap (λ rest. b ∷ rest) (written-lines bs))
]

ends_feed : (ls : List Line) → Ends (record { text = []; ending = 10 ∷ [] }) ls
ends_feed [] = inr (inl refl)
ends_feed (l ∷ ls) = inl refl

ends_return : (ls : List Line) → Ends (record { text = []; ending = 13 ∷ 10 ∷ [] }) ls
ends_return [] = inr (inr refl)
ends_return (l ∷ ls) = inr refl

ends_same : (l m : Line) (ls : List Line) → l.ending ≡ m.ending → Ends m ls → Ends l ls
ends_same l m [] same h = rw same h
ends_same l m (n ∷ ls) same h = rw same h

begin_cut : (b : ℕ) (ls : List Line) → (b == 10) ≡ false → AreLines ls → AreLines (begin_with b ls)
begin_cut b [] other cut = (rw other, inl refl, tt)
begin_cut b (l ∷ ls) other cut = elim (cases_Bool ((b == 13) && is_line_feed l)) [
  | inl both ↦ rw both (refl, ends_return ls, cut.2)
  | inr plain ↦ rw plain (rw (other, cut.0), ends_same (record { text = b ∷ l.text; ending = l.ending }) l ls refl cut.1, cut.2)
]

pub lines_cut : (bytes : List ℕ) → AreLines (lines bytes)
lines_cut [] = tt
lines_cut (b ∷ bs) = elim (cases_Bool (b == 10)) [
  | inl feed ↦ rw feed (refl, ends_feed (lines bs), lines_cut bs)
  | inr other ↦ rw other (begin_cut b (lines bs) other (lines_cut bs))
]
