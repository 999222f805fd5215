-- A walk over lines that none of the lines so far ends.
use Rattle.std.proofs.Common.{◌≡◌, ◌≤◌, ◌+◌, ◌-◌, ℕ, List, [], ◌∷◌, ◌++◌, Bool, true, false, length, drop, ◌∙◌, ap, refl, arith}
use Rattle.std.proofs.lemmas.List.{append_assoc, append-nil, length-append, length-drop, length-take-le, drop_all}
use Rattle.std.proofs.lemmas.List.Folds.{list_any-append}
use Rattle.std.specs.List.{list_any}
use Rattle.em_manifest.specs.declared.lines.Line.{Line as Place}
use Rattle.em_manifest.specs.Lines.{Line, lines, written, own_lines, begins_table}
use Rattle.em_manifest.specs.Places.{line_in, IsWithin, IsLineAt, IsFirst}

-- Of the lines that f keeps, those from one place to another don't pass.
pub record Walked (f : List Line → List Line) (p : Line → Bool) (bytes : List ℕ) (from at : ℕ) : Type 0 where
  pub before : List Line
  pub cut : f (lines (drop from bytes)) ≡ before ++ f (lines (drop at bytes))
  pub none : list_any p before ≡ false
  pub place : at ≡ from + length (written before)
  pub within : at ≤ length bytes

pub walk_start : (f : List Line → List Line) (p : Line → Bool) (bytes : List ℕ) (from : ℕ) → from ≤ length bytes → Walked f p bytes from from
walk_start f p bytes from h = record { before = []; cut = refl; none = refl; place = omega arith; within = h }

one_more : (x t e : List ℕ) → length (x ++ (t ++ (e ++ []))) ≡ length x + (length t + length e)
one_more x t e = omega (arith, length-append x (t ++ (e ++ [])), length-append t (e ++ []), ap length (append-nil e))

written-append : (ls ms : List Line) → written (ls ++ ms) ≡ written ls ++ written ms
written-append [] ms = refl
written-append (l ∷ ls) ms = rw (written-append ls ms, append_assoc l.text (l.ending ++ written ls) (written ms), append_assoc l.ending (written ls) (written ms)) refl

pub written-push : (ls : List Line) (l : Line) → length (written (ls ++ l ∷ [])) ≡ length (written ls) + (length l.text + length l.ending)
written-push ls l = ap length (written-append ls (l ∷ [])) ∙ one_more (written ls) l.text l.ending

pub line_length : (bytes : List ℕ) (place : Place) → IsWithin bytes place → length (line_in bytes place).text + length (line_in bytes place).ending ≡ place.next - place.start
line_length bytes place h =
    omega (
      arith,
      length-take-le (place.end - place.start) (drop place.start bytes) (omega (arith, h.text, h.ending, h.within, length-drop place.start bytes)),
      length-take-le (place.next - place.end) (drop place.end bytes) (omega (arith, h.text, h.ending, h.within, length-drop place.end bytes)),
      h.text,
      h.ending,
    )

pub walk_on : (f : List Line → List Line) (p : Line → Bool) (bytes : List ℕ) (from at : ℕ) (place : Place) → Walked f p bytes from at → IsLineAt bytes at place
    → f (lines (drop at bytes)) ≡ line_in bytes place ∷ f (lines (drop place.next bytes)) → p (line_in bytes place) ≡ false → Walked f p bytes from place.next
walk_on f p bytes from at place walk line kept fails = record {
  before = walk.before ++ line_in bytes place ∷ [];
  cut = walk.cut ∙ rw (kept, append_assoc walk.before (line_in bytes place ∷ []) (f (lines (drop place.next bytes)))) refl;
  none = list_any-append p walk.before (line_in bytes place ∷ []) ∙ rw (walk.none, fails) refl;
  place = omega (arith, written-push walk.before (line_in bytes place), line_length bytes place line.within, walk.place, line.starts, line.within.some);
  within = line.within.within;
}

pub walk_found : (f : List Line → List Line) (p : Line → Bool) (bytes : List ℕ) (from at : ℕ) (place : Place) → Walked f p bytes from at → IsLineAt bytes at place
    → f (lines (drop at bytes)) ≡ line_in bytes place ∷ f (lines (drop place.next bytes)) → p (line_in bytes place) ≡ true
    → IsFirst p (f (lines (drop from bytes))) (f (lines (drop place.next bytes))) bytes from place
walk_found f p bytes from at place walk line kept passes = record {
  before = walk.before;
  none = walk.none;
  passes = passes;
  cut = walk.cut ∙ ap (λ ls. walk.before ++ ls) kept;
  starts = line.starts ∙ walk.place;
  within = line.within;
}

pub walk_over : (f : List Line → List Line) (p : Line → Bool) (bytes : List ℕ) (from at : ℕ) → Walked f p bytes from at → f (lines (drop at bytes)) ≡ [] → list_any p (f (lines (drop from bytes))) ≡ false
walk_over f p bytes from at walk over = ap (list_any p) (walk.cut ∙ rw (over, append-nil walk.before)) ∙ walk.none

-- the lines end where the bytes do
pub at_end : (bytes : List ℕ) (at : ℕ) → length bytes ≤ at → lines (drop at bytes) ≡ []
at_end bytes at h = rw (drop_all at bytes h)

own_goes_on : (l : Line) (ls : List Line) → begins_table l ≡ false → own_lines (l ∷ ls) ≡ l ∷ own_lines ls
own_goes_on l ls h = rw h

own_ends : (l : Line) (ls : List Line) → begins_table l ≡ true → own_lines (l ∷ ls) ≡ []
own_ends l ls h = rw h

pub own_kept : (bytes : List ℕ) (at : ℕ) (place : Place) → IsLineAt bytes at place → begins_table (line_in bytes place) ≡ false
    → own_lines (lines (drop at bytes)) ≡ line_in bytes place ∷ own_lines (lines (drop place.next bytes))
own_kept bytes at place line h = ap own_lines line.cut ∙ own_goes_on (line_in bytes place) (lines (drop place.next bytes)) h

pub own_over : (bytes : List ℕ) (at : ℕ) (place : Place) → IsLineAt bytes at place → begins_table (line_in bytes place) ≡ true → own_lines (lines (drop at bytes)) ≡ []
own_over bytes at place line h = ap own_lines line.cut ∙ own_ends (line_in bytes place) (lines (drop place.next bytes)) h
