-- The first line of some bytes, by the place of the first line feed.
use Rattle.std.proofs.Common.{◌≡◌, ◌<◌, ◌≤◌, ◌+◌, ◌-◌, ◌==◌, ℕ, suc, List, [], ◌∷◌, ◌++◌, Bool, false, length, take, drop, get_or, ◌∙◌, ap, refl, arith, inl, inr}
use Rattle.std.proofs.lemmas.Bool.{false_from_ne_true, and_parts, ne_eqb, and_left, cases_Bool, eqb-true, and_right}
use Rattle.std.proofs.lemmas.Bool.Decides.{nat_tests}
use Rattle.std.proofs.lemmas.List.{length-take-le, length-append, length-drop, take-take, take_more, drop-take, get_or-drop, drop-drop, drop_all, take_rest}
use Rattle.std.proofs.lemmas.List.Sums.{passes_at_first}
use Rattle.std.specs.List.{position_or_len}
use Rattle.std.proofs.lemmas.Slice.Eq.{bytes_eq-Decides}
use Rattle.std.specs.Str.{bytes_eq}
use Rattle.em_manifest.specs.Lines.{Line, lines, begin_with, is_line_feed}
use Rattle.em_manifest.specs.declared.lines.Line.{Line as Place}
use Rattle.em_manifest.specs.Places.{ends_return, line_in, IsLineAt}

abbrev is_feed : ℕ → Bool
is_feed b = b == 10

-- the line of the bytes before a line feed, of which the last k are carriage returns of the line's end
abbrev cut_at : ℕ → List ℕ → Line
cut_at k t = record { text = take (length t - k) t; ending = drop (length t - k) t ++ 10 ∷ [] }

text_length : (k : ℕ) (t : List ℕ) → k ≤ length t → length (cut_at k t).text + k ≡ length t
text_length k t h = omega (arith, length-take-le (length t - k) t (omega arith))

ending_length : (k : ℕ) (t : List ℕ) → k ≤ length t → length (cut_at k t).ending ≡ k + 1
ending_length k t h = omega (arith, length-append (drop (length t - k) t) (10 ∷ []), length-drop (length t - k) t)

no_feed_by : (l : Line) (m k : ℕ) → length l.text + k ≡ m → length l.ending ≡ k + 1 → 0 < m → is_line_feed l ≡ false
no_feed_by l m k a b some =
    false_from_ne_true (is_line_feed l) (
    λ h. let (empty, feed) = and_parts (length l.text == 0) (bytes_eq l.ending (10 ∷ [])) h in
    absurd (omega (arith, eqb-true (length l.text) 0 empty, ap length ((bytes_eq-Decides l.ending (10 ∷ [])).0 feed)))
    )

no_feed : (k c : ℕ) (t : List ℕ) → k ≤ 1 → is_line_feed (cut_at k (c ∷ t)) ≡ false
no_feed k c t small = no_feed_by (cut_at k (c ∷ t)) (length (c ∷ t)) k (text_length k (c ∷ t) (omega arith)) (ending_length k (c ∷ t) (omega arith)) (omega arith)

begin_plain : (b : ℕ) (l : Line) (ls : List Line) → is_line_feed l ≡ false → begin_with b (l ∷ ls) ≡ record { text = b ∷ l.text; ending = l.ending } ∷ ls
begin_plain b l ls h = rw (and_right (b == 13) (is_line_feed l) h)

take_back : (b : ℕ) (t : List ℕ) (k : ℕ) → k ≤ length t → take (length (b ∷ t) - k) (b ∷ t) ≡ b ∷ take (length t - k) t
take_back b t k h = let e : length (b ∷ t) - k ≡ suc (length t - k) = omega arith in rw e

drop_back : (b : ℕ) (t : List ℕ) (k : ℕ) → k ≤ length t → drop (length (b ∷ t) - k) (b ∷ t) ≡ drop (length t - k) t
drop_back b t k h = let e : length (b ∷ t) - k ≡ suc (length t - k) = omega arith in rw e

begin_some : (b c k : ℕ) (t : List ℕ) (ls : List Line) → k ≤ 1 → begin_with b (cut_at k (c ∷ t) ∷ ls) ≡ cut_at k (b ∷ c ∷ t) ∷ ls
begin_some b c k t ls small = begin_plain b (cut_at k (c ∷ t)) ls (no_feed k c t small) ∙ rw (take_back b (c ∷ t) k (omega arith), drop_back b (c ∷ t) k (omega arith))

ends_small : (t : List ℕ) → ends_return t ≤ 1
ends_small t = grind (arith, nat_tests)

ends_later : (b c : ℕ) (t : List ℕ) → ends_return (b ∷ c ∷ t) ≡ ends_return (c ∷ t)
ends_later b c t =
    let more : suc (suc (length t)) - 1 ≡ suc (length t) = omega arith in
    let less : suc (length t) - 1 ≡ length t = omega arith in
    rw (more, less)

begin_cut : (b : ℕ) (t : List ℕ) (ls : List Line) → begin_with b (cut_at (ends_return t) t ∷ ls) ≡ cut_at (ends_return (b ∷ t)) (b ∷ t) ∷ ls
begin_cut b [] ls = elim (cases_Bool (b == 13)) [
  | inl same ↦ rw (eqb-true b 13 same)
  | inr other ↦ rw other
]
begin_cut b (c ∷ t) ls = rw (ends_later b c t) (begin_some b c (ends_return (c ∷ t)) t ls (ends_small (c ∷ t)))

-- the first line where there is a line feed
pub lines_first : (xs : List ℕ) → position_or_len is_feed xs < length xs → lines xs ≡ cut_at (ends_return (take (position_or_len is_feed xs) xs)) (take (position_or_len is_feed xs) xs) ∷ lines (drop (position_or_len is_feed xs + 1) xs)
lines_first [] h = absurd (omega arith)
lines_first (b ∷ bs) h = elim (cases_Bool (b == 10)) [
  | inl same ↦ rw (eqb-true b 10 same)
  | inr other ↦
      let within = rw other at h in
      let here : 1 + position_or_len is_feed bs ≡ suc (position_or_len is_feed bs) = omega arith in
      let next : 1 + position_or_len is_feed bs + 1 ≡ suc (position_or_len is_feed bs + 1) = omega arith in
      rw (other, next, here, lines_first bs (omega arith)) (begin_cut b (take (position_or_len is_feed bs) bs) (lines (drop (position_or_len is_feed bs + 1) bs)))
]

no_lone_feed : (c : ℕ) (bs : List ℕ) → is_line_feed (record { text = c ∷ bs; ending = [] }) ≡ false
no_lone_feed c bs = and_left (length (c ∷ bs) == 0) (bytes_eq [] (10 ∷ [])) (ne_eqb (length (c ∷ bs)) 0 (λ h. absurd (omega (arith, h))))

-- the only line where there is none
pub lines_last : (xs : List ℕ) → position_or_len is_feed xs ≡ length xs → 0 < length xs → lines xs ≡ record { text = xs; ending = [] } ∷ []
lines_last [] h some = absurd (omega arith)
lines_last (b ∷ []) h some = elim (cases_Bool (b == 10)) [
  | inl same ↦ let none = rw same at h in absurd (omega arith)
  | inr other ↦ rw other
]
lines_last (b ∷ c ∷ bs) h some = elim (cases_Bool (b == 10)) [
  | inl same ↦ let none = rw same at h in absurd (omega arith)
  | inr other ↦
      let within = rw other at h in
      rw (other, lines_last (c ∷ bs) (omega arith) (omega arith)) (begin_plain b (record { text = c ∷ bs; ending = [] }) [] (no_lone_feed c bs))
]

-- the same, as the lines of the code
abbrev last_place : List ℕ → ℕ → Place
last_place bytes start = record { start = start; end = length bytes; next = length bytes }

abbrev first_place : ℕ → ℕ → ℕ → Place
first_place start size returns = record { start = start; end = start + (size - returns); next = start + size + 1 }

pub is_last : (bytes : List ℕ) (start : ℕ) → start < length bytes → position_or_len is_feed (drop start bytes) ≡ length (drop start bytes) → IsLineAt bytes start (last_place bytes start)
is_last bytes start h whole =
    let size : length (drop start bytes) ≡ length bytes - start = length-drop start bytes in
    let none : length bytes - length bytes ≡ 0 = omega arith in
    record {
      starts = refl;
      within = record { text = omega arith; ending = omega arith; some = omega arith; within = omega arith };
      cut = lines_last (drop start bytes) whole (omega arith) ∙ rw (take_rest bytes start, drop_all (length bytes) bytes (omega arith), none) refl;
    }

ends_fit : (t : List ℕ) → ends_return t ≤ length t
ends_fit [] = omega arith
ends_fit (b ∷ t) = omega (arith, ends_small (b ∷ t))

ending_is : (xs : List ℕ) (n k : ℕ) → k ≤ n → n < length xs → get_or xs n 0 ≡ 10 → take (k + 1) (drop (n - k) xs) ≡ drop (n - k) (take n xs) ++ 10 ∷ []
ending_is xs n k small within feed =
    let sum : n - k + k ≡ n = omega arith in
    let byte : get_or (drop (n - k) xs) k 0 ≡ 10 = get_or-drop (n - k) xs k 0 ∙ rw sum feed in
    let front : drop (n - k) (take (n - k + k) xs) ≡ take k (drop (n - k) xs) = drop-take (n - k) k xs in
    take_more (drop (n - k) xs) k 0 (omega (arith, length-drop (n - k) xs)) ∙ rw (byte, ← front, sum)

cut_is : (bytes : List ℕ) (start n k : ℕ) → k ≤ n → n < length (drop start bytes) → get_or (drop start bytes) n 0 ≡ 10 → cut_at k (take n (drop start bytes)) ≡ line_in bytes (first_place start n k)
cut_is bytes start n k small within feed =
    let size : length (take n (drop start bytes)) ≡ n = length-take-le n (drop start bytes) (omega arith) in
    let text : start + (n - k) - start ≡ n - k = omega arith in
    let ending : start + n + 1 - (start + (n - k)) ≡ k + 1 = omega arith in
    rw (size, text, ending, take-take (n - k) n (drop start bytes) (omega arith), ← drop-drop (n - k) start bytes, ending_is (drop start bytes) n k small within feed)

pub is_first : (bytes : List ℕ) (start n k : ℕ) → start < length bytes → n ≡ position_or_len is_feed (drop start bytes) → n < length (drop start bytes) → k ≡ ends_return (take n (drop start bytes)) → IsLineAt bytes start (first_place start n k)
is_first bytes start n k h place within returns =
    let size : length (drop start bytes) ≡ length bytes - start = length-drop start bytes in
    let front : length (take n (drop start bytes)) ≡ n = length-take-le n (drop start bytes) (omega arith) in
    let small : k ≤ n = omega (arith, ends_fit (take n (drop start bytes))) in
    let some : position_or_len is_feed (drop start bytes) < length (drop start bytes) = omega arith in
    let feed : get_or (drop start bytes) n 0 ≡ 10 = eqb-true _ _ (rw place (passes_at_first is_feed (drop start bytes) 0 some)) in
    let first = lines_first (drop start bytes) some in
    let joined : drop (n + 1) (drop start bytes) ≡ drop (start + n + 1) bytes = drop-drop (n + 1) start bytes ∙ rw (add_more start n) in
    record {
      starts = refl;
      within = record { text = omega arith; ending = omega arith; some = omega arith; within = omega arith };
      cut = rw (← place, ← returns) at first ∙ rw (joined, cut_is bytes start n k small within feed) refl;
    }
  where
    add_more : (a b : ℕ) → a + (b + 1) ≡ a + b + 1
    add_more a b = omega arith
