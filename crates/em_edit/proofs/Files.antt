-- The parts of one file among the ordered parts of all.
use Rattle.std.proofs.Common.{inl, inr, ◌≡◌, ℕ, zero, suc, ◌+◌, ◌<◌, ◌≤◌, Bool, true, eqb, leb, List, [], ◌∷◌, map, length, get_or, take, drop, refl, ap, sym, ◌∙◌, subst, arith, drop-drop, length-drop, Bor, Some}
use Rattle.std.specs.Prelude.{All, AllPairs, filter, slice_get}
use Rattle.std.specs.List.{prefix_len}
use Rattle.std.specs.List.Sorted.{IsPermutation}
use Rattle.std.proofs.lemmas.Bool.{eqb-true, leb-true, le-leb}
use Rattle.std.proofs.lemmas.Option.{slice_get_read}
use Rattle.std.proofs.lemmas.List.{drop_more}
use Rattle.std.proofs.lemmas.List.Sums.{prefix_len-le-length}
use Rattle.std.proofs.lemmas.List.Elements.{All-head, All-tail, All-filter, filter_passes}
use Rattle.std.proofs.lemmas.List.Kept.{AllPairs-filter}
use Rattle.std.proofs.lemmas.List.Sorted.{All-permutation}
use Rattle.em_base.specs.declared.edit.Part.{Part}
use Rattle.em_base.specs.declared.edit.Suggestion.{Suggestion}
use Rattle.em_edit.specs.Edited.{all_parts, edited, edited_from, edited_on}
use Rattle.em_edit.specs.Fit.{LiesIn, Apart, AreApplicable}
use Rattle.em_edit.specs.Laws.{StartFrom}
use Rattle.em_edit.specs.Order.{StartsNoLater, InOrder}
use Rattle.em_edit.proofs.AnyOrder.{in_file, turned, edited_on-permutation}
use Rattle.em_edit.proofs.Filtering.{filter_both, filter_all, prefix_len-behind, take-behind, drop-behind, split_at}
use Rattle.em_edit.proofs.Pairs.{AllPairs-head, AllPairs-tail, AllPairs-permutation}

-- a range of a text of this length, in this file
pub record IsRange (f len : ℕ) (p : Part) : Type 0 where
  pub file : p.span.file ≡ f
  pub ordered : p.span.start ≤ p.span.end
  pub within : p.span.end ≤ len

follows : (f len : ℕ) (p q : Part) → IsRange f len p → IsRange f len q → StartsNoLater p q → Apart p q → p.span.end ≤ q.span.start
follows f len p q r s no_later (inl files) = absurd (files (r.file ∙ sym s.file))
follows f len p q r s no_later (inr d) = let starts = d.starts in let ranges = d.ranges in omega (arith, r.file, r.ordered, s.file, s.ordered, no_later, starts, ranges)

-- ordered ranges that are apart stand in order
pub in_order : (f at len : ℕ) (ps : List Part) → All (IsRange f len) ps → AllPairs StartsNoLater ps → AllPairs Apart ps → StartFrom at ps → at ≤ len → InOrder at ps len
in_order f at len [] ranges order apart from le = le
in_order f at len (p ∷ ps) ranges order apart from le =
    let r = All-head (IsRange f len) p ps ranges in
    let later = AllPairs-head StartsNoLater p ps order in
    let away = AllPairs-head Apart p ps apart in
    let rest = All-tail (IsRange f len) p ps ranges in
    (All-head (λ q. at ≤ q.span.start) p ps from, r.ordered, in_order f p.span.end len ps rest (AllPairs-tail StartsNoLater p ps order) (AllPairs-tail Apart p ps apart) (λ k d lt. follows f len p (get_or ps k d) r (rest k d lt) (later k d lt) (away k d lt)) r.within)

is_range : (sources : List (List ℕ)) (f : ℕ) (text : List ℕ) (p : Part) → slice_get sources f ≡ Some text → eqb p.span.file f ≡ true → LiesIn sources p → IsRange f (length text) p
is_range sources f text p source here lies =
    let file = eqb-true p.span.file f here in
    let same : lies.text ≡ text = grind (arith, lies.file, source, file) in
    record { file = file; ordered = lies.ordered; within = subst (λ (t : List ℕ). p.span.end ≤ length t) same lies.within }

-- the parts of one file among all, in order and as they are put into its text
pub record IsFile (taken : List Suggestion) (all : List Part) (f : ℕ) (text : List ℕ) : Type 0 where
  pub order : InOrder 0 (filter (in_file f) all) (length text)
  pub made : edited_on (filter (in_file f) all) 0 text ≡ edited f taken text

pub is_file : (sources : List (List ℕ)) (taken : List Suggestion) (all : List Part) → AreApplicable sources taken → IsPermutation (all_parts taken) all → AllPairs StartsNoLater all → (f : ℕ) (text : List ℕ) → f < length sources → text ≡ get_or sources f text → IsFile taken all f text
is_file sources taken all fit same order f text lt is =
    let apart = AllPairs-permutation Apart turned (all_parts taken) all same fit.apart in
    let lie = All-permutation (LiesIn sources) (all_parts taken) all same fit.lie in
    let source = slice_get_read sources (length sources) f text refl lt is in
    record {
      order = in_order f 0 (length text) (filter (in_file f) all)
          (λ k d lt'. is_range sources f text (get_or (filter (in_file f) all) k d) source (filter_passes (in_file f) all k d lt') (All-filter (in_file f) (LiesIn sources) all lie k d lt'))
          (AllPairs-filter StartsNoLater (in_file f) all order) (AllPairs-filter Apart (in_file f) all apart) (λ k d lt'. omega arith) (omega arith);
      made = sym (edited_on-permutation f (all_parts taken) all same fit.apart 0 text);
    }

-- the parts of this and the later files
abbrev pub from_file : ℕ → Part → Bool
from_file f p = leb f p.span.file

-- the next file's parts and those of the later files, among the references that are left
record Splits (f at count : ℕ) (refs : List (Bor Part)) : Type 0 where
  here : map (λ r. r.now) (take count (drop at refs)) ≡ filter (in_file f) (map (λ r. r.now) refs)
  behind : map (λ r. r.now) (drop (at + count) refs) ≡ filter (from_file (f + 1)) (map (λ r. r.now) refs)

splits : (f at count : ℕ) (refs : List (Bor Part)) → AllPairs StartsNoLater (map (λ r. r.now) refs) → map (λ r. r.now) (drop at refs) ≡ filter (from_file f) (map (λ r. r.now) refs) → count ≡ prefix_len (λ r. eqb r.now.span.file f) (drop at refs) → Splits f at count refs
splits f at count refs order left is =
    let all : List Part = map (λ r. r.now) refs in
    let rest : List Part = filter (from_file f) all in
    let passes = filter_passes (from_file f) all in
    let s = split_at f rest (AllPairs-filter StartsNoLater (from_file f) all order) (λ k d lt. leb-true f (get_or rest k d).span.file (passes k d lt)) in
    let counted : count ≡ prefix_len (in_file f) rest = is ∙ (prefix_len-behind f (drop at refs) ∙ ap (prefix_len (in_file f)) left) in
    let here = filter_both (in_file f) (from_file f) (λ p h. le-leb f p.span.file (omega (arith, eqb-true p.span.file f h))) all in
    let behind = filter_both (from_file (f + 1)) (from_file f) (λ p h. le-leb f p.span.file (omega (arith, leb-true (f + 1) p.span.file h))) all in
    record {
      here = take-behind count (drop at refs) ∙ (ap (take count) left ∙ (ap (λ (n : ℕ). take n rest) counted ∙ (s.here ∙ here)));
      behind = ap (map (λ r. r.now)) (sym (drop-drop count at refs)) ∙ (drop-behind count (drop at refs) ∙ (ap (drop count) left ∙ (ap (λ (n : ℕ). drop n rest) counted ∙ (s.behind ∙ behind))));
    }

-- references to all parts of the suggestions in order
pub record Ordered (taken : List Suggestion) (refs : List (Bor Part)) : Type 0 where
  pub same : IsPermutation (all_parts taken) (map (λ r. r.now) refs)
  pub order : AllPairs StartsNoLater (map (λ r. r.now) refs)

-- the same of the slices that a function has of them
pub ordered : (taken slice : List Suggestion) (refs items : List (Bor Part)) → slice ≡ taken → refs ≡ items → IsPermutation (all_parts slice) (map (λ r. r.now) items) → AllPairs StartsNoLater (map (λ r. r.now) items) → Ordered taken refs
ordered taken slice refs items e is same order = rw (sym e, is) (record { same = same; order = order })

-- before the first file all are left
pub all_left : (refs : List (Bor Part)) → map (λ r. r.now) refs ≡ filter (from_file 0) (map (λ r. r.now) refs)
all_left refs = sym (filter_all (from_file 0) (map (λ r. r.now) refs) (λ k d lt. le-leb 0 (get_or (map (λ r. r.now) refs) k d).span.file (omega arith)))

-- what the parts of the next file are, and what is left behind them
pub record NextFile (taken : List Suggestion) (refs : List (Bor Part)) (f at count : ℕ) (text : List ℕ) : Type 0 where
  pub within : at + count ≤ length refs
  pub order : InOrder 0 (map (λ r. r.now) (take count (drop at refs))) (length text)
  pub made : edited_on (map (λ r. r.now) (take count (drop at refs))) 0 text ≡ edited f taken text
  pub left : map (λ r. r.now) (drop (at + count) refs) ≡ filter (from_file (f + 1)) (map (λ r. r.now) refs)

pub next_file : (sources : List (List ℕ)) (taken : List Suggestion) (refs : List (Bor Part)) → AreApplicable sources taken → Ordered taken refs → (f at count : ℕ) (text : List ℕ) → f < length sources → text ≡ get_or sources f text → at ≤ length refs → map (λ r. r.now) (drop at refs) ≡ filter (from_file f) (map (λ r. r.now) refs) → count ≡ prefix_len (λ r. eqb r.now.span.file f) (drop at refs) → NextFile taken refs f at count text
next_file sources taken refs fit all f at count text lt is le left counted =
    let s = splits f at count refs all.order left counted in
    let file = is_file sources taken (map (λ r. r.now) refs) fit all.same all.order f text lt is in
    let short = prefix_len-le-length (λ r. eqb r.now.span.file f) (drop at refs) in
    record {
      within = omega (arith, short, counted, length-drop at refs);
      order = subst (λ ps. InOrder 0 ps (length text)) (sym s.here) file.order;
      made = ap (λ ps. edited_on ps 0 text) s.here ∙ file.made;
      left = s.behind;
    }

-- the same at a step through the files
pub next_step : (sources files : List (List ℕ)) (taken : List Suggestion) (refs rest : List (Bor Part)) → AreApplicable sources taken → Ordered taken refs → (f index at count : ℕ) (text : List ℕ) → files ≡ sources → index < length files → text ≡ get_or files index text → at ≤ length refs → map (λ r. r.now) (drop at refs) ≡ filter (from_file index) (map (λ r. r.now) refs) → f ≡ index → rest ≡ drop at refs → count ≡ prefix_len (λ r. eqb r.now.span.file f) rest → NextFile taken refs index at count text
next_step sources files taken refs rest fit all f index at count text same lt is le left e cut counted =
    next_file sources taken refs fit all index at count text
    (subst (λ (fs : List (List ℕ)). index < length fs) same lt)
    (is ∙ ap (λ (fs : List (List ℕ)). get_or fs index text) same)
    le left
    (counted ∙ (ap (λ (n : ℕ). prefix_len (λ (r : Bor Part). eqb r.now.span.file n) rest) e ∙ ap (λ (rs : List (Bor Part)). prefix_len (λ (r : Bor Part). eqb r.now.span.file index) rs) cut))

-- the texts from a file on are the next one's and those behind it
pub edited_more : (f : ℕ) (taken : List Suggestion) (sources files : List (List ℕ)) (text : List ℕ) → files ≡ sources → f < length files → text ≡ get_or files f text → edited_from f taken (drop f sources) ≡ edited f taken text ∷ edited_from (f + 1) taken (drop (f + 1) sources)
edited_more f taken sources files text same lt is =
    let here : f < length sources = subst (λ (fs : List (List ℕ)). f < length fs) same lt in
    let item : text ≡ get_or sources f text = is ∙ ap (λ (fs : List (List ℕ)). get_or fs f text) same in
    ap (edited_from f taken) (drop_more sources f text here) ∙ ap (λ (t : List ℕ). edited f taken t ∷ edited_from (f + 1) taken (drop (f + 1) sources)) (sym item)

-- the text of a file among those after the suggestions
pub edited_at : (first : ℕ) (taken : List Suggestion) (sources : List (List ℕ)) (i : ℕ) (text new : List ℕ) → slice_get sources i ≡ Some text → slice_get (edited_from first taken sources) i ≡ Some new → new ≡ edited (first + i) taken text
edited_at first taken [] i text new is made = absurd (none_some is)
  where
    none_some : slice_get [] i ≡ Some text → ⊥
    none_some e = cc
edited_at first taken (t ∷ ts) zero text new is made =
    let same : t ≡ text = some_same t text is in
    let here : edited first taken t ≡ new = some_same (edited first taken t) new made in
    sym here ∙ (ap (edited first taken) same ∙ ap (λ (n : ℕ). edited n taken text) (omega arith))
  where
    some_same : (x y : List ℕ) → Some x ≡ Some y → x ≡ y
    some_same x y e = cc
edited_at first taken (t ∷ ts) (suc i) text new is made = edited_at (first + 1) taken ts i text new is made ∙ ap (λ (n : ℕ). edited n taken text) (omega arith)

-- the first file's number is 0
pub edited_of : (taken : List Suggestion) (sources news : List (List ℕ)) (i : ℕ) (text new : List ℕ) → Some text ≡ slice_get sources i → news ≡ edited_from 0 taken sources → Some new ≡ slice_get news i → new ≡ edited i taken text
edited_of taken sources news i text new is made here =
    edited_at 0 taken sources i text new (sym is) (ap (λ (ts : List (List ℕ)). slice_get ts i) (sym made) ∙ sym here) ∙ ap (λ (n : ℕ). edited n taken text) (omega arith)
