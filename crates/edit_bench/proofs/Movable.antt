-- A range of the first source can be moved where the suggestions were applied.
use Rattle.std.proofs.Common.{◌≡◌, ℕ, ◌^◌, ◌<◌, ◌≤◌, List, [], ◌∷◌, length, ap, sym, ◌∙◌, subst, Some}
use Rattle.std.specs.Prelude.{slice_get}
use Rattle.em_base.specs.declared.edit.Suggestion.{Suggestion}
use Rattle.em_base.specs.declared.place.Span.{Span}
use Rattle.em_edit.specs.Edited.{edited, edited_from}
use Rattle.em_edit.specs.Fit.{AreApplicable}
use Rattle.em_edit.specs.Moved.{IsMovable}

first_edited : (taken : List Suggestion) (sources : List (List ℕ)) (text new : List ℕ) → slice_get sources 0 ≡ Some text → slice_get (edited_from 0 taken sources) 0 ≡ Some new → edited 0 taken text ≡ new
first_edited taken [] text new h k = absurd (nothing h)
  where
    nothing : slice_get [] 0 ≡ Some text → ⊥
    nothing e = cc
first_edited taken (s ∷ ss) text new h k = ap (edited 0 taken) (sym (same s text h)) ∙ same (edited 0 taken s) new k
  where
    same : (x y : List ℕ) → Some x ≡ Some y → x ≡ y
    same x y e = cc

pub movable : (sources : List (List ℕ)) (taken : List Suggestion) (news : List (List ℕ)) (text new : List ℕ) (span : Span) → AreApplicable sources taken → news ≡ edited_from 0 taken sources → Some text ≡ slice_get sources 0 → Some new ≡ slice_get news 0 → span.file ≡ 0 → span.start ≤ span.end → span.end ≤ length text → length new < 2 ^ 32 → IsMovable taken span
movable sources taken news text new span fit made first first' file ordered within short = record {
  sources = sources;
  text = text;
  fit = fit;
  file = ap (slice_get sources) file ∙ sym first;
  ordered = ordered;
  within = within;
  short = rw file (subst (λ (t : List ℕ). length t < 2 ^ 32) (sym (first_edited taken sources text new (sym first) (ap (λ (xs : List (List ℕ)). slice_get xs 0) (sym made) ∙ sym first'))) short);
}
