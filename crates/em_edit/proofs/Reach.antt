-- What the map of places tells of a range, and what a put makes of it.
use Rattle.std.proofs.Common.{inl, inr, ◌≡◌, ◌≢◌, ◌⊎◌, ℕ, ◌+◌, ◌<◌, ◌≤◌, max, Bool, true, false, List, [], ◌∷◌, ◌++◌, length, get_or, map, take, cond, refl, ap, sym, ◌∙◌, subst, arith, Option, Some, None, Bor}
use Rattle.std.specs.Prelude.{All, AllPairs, Any, MatchBool, IsSome}
use Rattle.std.specs.Ordering.{eq_by_cmp, is_eq, nat_cmp}
use Rattle.std.proofs.lemmas.Cmp.{tied_itself}
use Rattle.std.proofs.lemmas.Map.Lookups.{exact_pairs, exact_unsigned}
use Rattle.std.proofs.lemmas.Map.Views.{tells_apart}
use Rattle.std.specs.BTreeMap.{get}
use Rattle.std.proofs.lemmas.Bool.{cases_lt, cases_eq, cases_Bool, cond-true, cond-false}
use Rattle.std.specs.List.Sorted.{IsPermutation}
use Rattle.std.proofs.lemmas.List.{get_or-map, get_or-take, get_or_default, length-map, length-take}
use Rattle.std.proofs.lemmas.List.Elements.{All-push, All-append}
use Rattle.std.proofs.lemmas.List.Sorted.{IsPermutation-append, IsPermutation-refl, IsPermutation-sym, All-permutation, Contains-permutation}
use Rattle.std.proofs.lemmas.List.Quantifiers.{all_pairs_push, Any-push}
use Rattle.em_base.specs.declared.edit.Part.{Part}
use Rattle.em_base.specs.declared.place.Span.{Span}
use Rattle.em_edit.specs.Ends.{Ends, place_cmp, last_of, IsUpTo, TakesAt, AreClear, IsEarlierOrClear, HasPart, Holds, HoldsClear, NoneUpTo, IsLastUpTo, IsReach}
use Rattle.em_edit.specs.Meet.{Meet, OneMeets}
use Rattle.em_edit.specs.Order.{StartsNoLater}
use Rattle.em_edit.proofs.Clearance.{meet_across, clear_apart, clear_turned, Any-longer, more_parts, all_parts_put}
use Rattle.em_edit.proofs.PlaceOrder.{pairs_total}

-- ---- what the map has, of a range that is asked for

match_bool : {P Q : Type 0} (b : Bool) → (b ≡ true → P) → (b ≡ false → Q) → MatchBool b P Q
match_bool true p q = p refl
match_bool false p q = q refl

none_there : (o : Option ℕ) (v : ℕ) → o ≡ Some v → o ≡ None → ⊥
none_there o v is none = cc

is_some_of : (o : Option ℕ) (v : ℕ) → o ≡ Some v → IsSome o
is_some_of o v is = subst (λ x. IsSome x) (sym is) refl

-- a part that takes an offset which a range of its file takes meets it
taken_by_both : (p q : Part) (file offset : ℕ) → p.span.file ≡ file → p.span.start ≤ offset → offset ≤ last_of p.span → TakesAt file offset q → Meet p q
taken_by_both p q file offset e a b t = meet_across p q (e ∙ sym t.0) (omega (arith, t.1, t.2)) (omega (arith, t.1, t.2))

-- an entry that begins up to the end of a range, and ends behind its start
meets_entry : (m : Ends) (p : Part) (parts : List Part) (place : ℕ × ℕ) (last : ℕ) → Holds m parts → get place_cmp m place ≡ Some last → p.span.file ≡ place.0 → place.1 ≤ last_of p.span → p.span.start ≤ last → Any (Meet p) parts
meets_entry m p parts place last holds is file begins ends =
    let forward = (holds.starts place last is).0 in
    let found = holds.takes place last (max place.1 p.span.start) is (omega arith) (omega arith) in
    (found.0, found.1, found.2, found.3, taken_by_both p found.1 place.0 (max place.1 p.span.start) file (omega arith) (omega arith) found.4)

-- a part is clear of another if one that starts up to its end ends before its start
clear_unless : (p q : Part) → (p.span.file ≡ q.span.file → q.span.start ≤ last_of p.span → last_of q.span < p.span.start) → AreClear p q
clear_unless p q early = elim (cases_eq p.span.file q.span.file) [
  | inr files ↦ inl files
  | inl file ↦ elim (cases_lt (last_of p.span) q.span.start) [
    | inl behind ↦ inr (inl behind)
    | inr up_to ↦ inr (inr (early file up_to))
  ]
]

-- the last entry up to the end of a range ends before its start: so do all that begin up to there
clear_of_last : (m : Ends) (p : Part) (parts : List Part) (at : ℕ × ℕ) (last : ℕ) → Holds m parts → IsLastUpTo m (p.span.file, last_of p.span) at last → (at.0 ≡ p.span.file → last < p.span.start) → All (AreClear p) parts
clear_of_last m p parts at last holds is before k d lt =
    let q = get_or parts k d in
    let has = holds.found k d lt in
    clear_unless p q (λ file begins.
    let up_to = is.latest (q.span.file, q.span.start) (inr (sym file, begins)) (is_some_of (get place_cmp m (q.span.file, q.span.start)) has.last has.entry) in
    let here : (at.0 ≡ p.span.file) × (q.span.start ≤ at.1) = same_file p.span.file q.span.file at.0 q.span.start at.1 (last_of p.span) file up_to is.up_to in
    let less = before here.0 in
    let less' = holds.ascend (q.span.file, q.span.start) at has.last last has.entry is.entry (sym file ∙ sym here.0) here.1 in
    omega (arith, has.reaches, less, less'))
  where
    same_file : (f g h x y z : ℕ) → f ≡ g → IsUpTo (g, x) (h, y) → IsUpTo (h, y) (f, z) → (h ≡ f) × (x ≤ y)
    same_file f g h x y z e a b = (omega (arith, a, b), omega (arith, a, b))

pub clear_of_none : (m : Ends) (p : Part) (parts : List Part) (span : Span) (last : ℕ) → p.span ≡ span → last ≡ last_of span → Holds m parts → NoneUpTo m (span.file, last) → All (AreClear p) parts
clear_of_none m p parts span last e l holds none k d lt =
    let q = get_or parts k d in
    let has = holds.found k d lt in
    let f : p.span.file ≡ span.file = ap (λ (s : Span). s.file) e in
    let same : last ≡ last_of p.span = l ∙ ap last_of (sym e) in
    clear_unless p q (λ file begins. absurd (none_there (get place_cmp m (q.span.file, q.span.start)) has.last has.entry (none (q.span.file, q.span.start) (inr (sym file ∙ f, omega arith)))))

-- a range meets a part exactly if the last entry up to its end ends behind its start
pub last_tells : (m : Ends) (p : Part) (parts : List Part) (span : Span) (at : ℕ × ℕ) (last end : ℕ) (b : Bool) → p.span ≡ span → end ≡ last_of span → Holds m parts → IsLastUpTo m (span.file, end) at last → (b ≡ true → (at.0 ≡ span.file) × (span.start ≤ last)) → (b ≡ false → at.0 ≡ span.file → last < span.start) → MatchBool b (Any (Meet p) parts) (All (AreClear p) parts)
last_tells m p parts span at last end b e l holds is over under =
    let f : p.span.file ≡ span.file = ap (λ (s : Span). s.file) e in
    let s : p.span.start ≡ span.start = ap (λ (s : Span). s.start) e in
    let here : IsLastUpTo m (p.span.file, last_of p.span) at last = subst (λ (x : Span). IsLastUpTo m (x.file, last_of x) at last) (sym e) (subst (λ (n : ℕ). IsLastUpTo m (span.file, n) at last) l is) in
    match_bool b
    (λ t. meets_entry m p parts at last holds is.entry (f ∙ sym (over t).0) (begins at.0 at.1 p.span.file (last_of p.span) here.up_to ((over t).0 ∙ sym f)) (omega (arith, (over t).1)))
    (λ g. clear_of_last m p parts at last holds here (λ same. omega (arith, under g (same ∙ f))))
  where
    begins : (a b f l : ℕ) → IsUpTo (a, b) (f, l) → a ≡ f → b ≤ l
    begins a b f l up same = omega (arith, up, same)

-- ---- how far what is taken from a range's start on goes

up_to_both : (f x g y s : ℕ) → IsUpTo (f, x) (g, y) → IsUpTo (g, y) (f, s) → (g ≡ f) × (x ≤ y)
up_to_both f x g y s a b = (omega (arith, a, b), omega (arith, a, b))

pub reach_there : (m : Ends) (span : Span) (at : ℕ × ℕ) (last own reach : ℕ) → own ≡ last_of span → reach ≡ max last own → IsLastUpTo m (span.file, span.start) at last → at.0 ≡ span.file → IsReach m span reach
reach_there m span at last own reach o r is file = record {
  own = omega arith;
  earlier = λ parts holds place before entry same up_to.
      let later = is.latest place (inr (same, up_to)) (is_some_of (get place_cmp m place) before entry) in
      let both = up_to_both place.0 place.1 at.0 at.1 span.start later (subst (λ (n : ℕ). IsUpTo at (n, span.start)) (sym same) is.up_to) in
      let less = holds.ascend place at before last entry is.entry (sym both.0) both.1 in
      omega (arith, less);
  from = elim (cases_lt last own) [
    | inl less ↦ inl (omega arith)
    | inr ge ↦ inr (at.1, begins at.0 at.1 span.file span.start is.up_to file, ap (λ (n : ℕ). get place_cmp m (n, at.1)) (sym file) ∙ (is.entry ∙ ap Some (omega arith)))
  ];
}
  where
    begins : (a b f l : ℕ) → IsUpTo (a, b) (f, l) → a ≡ f → b ≤ l
    begins a b f l up same = omega (arith, up, same)

pub reach_own : (m : Ends) (span : Span) (at : ℕ × ℕ) (last own : ℕ) → own ≡ last_of span → IsLastUpTo m (span.file, span.start) at last → at.0 ≢ span.file → IsReach m span own
reach_own m span at last own o is other = record {
  own = omega arith;
  earlier = λ parts holds place before entry same up_to.
      let later = is.latest place (inr (same, up_to)) (is_some_of (get place_cmp m place) before entry) in
      let both = up_to_both place.0 place.1 at.0 at.1 span.start later (subst (λ (n : ℕ). IsUpTo at (n, span.start)) (sym same) is.up_to) in
      absurd (other (both.0 ∙ same));
  from = inl o;
}

pub reach_alone : (m : Ends) (span : Span) (own : ℕ) → own ≡ last_of span → NoneUpTo m (span.file, span.start) → IsReach m span own
reach_alone m span own o none = record {
  own = omega arith;
  earlier = λ parts holds place before entry same up_to. absurd (none_there (get place_cmp m place) before entry (none place (inr (same, up_to))));
  from = inl o;
}

-- ---- a part is put into the map

same_place : (x y : ℕ × ℕ) → eq_by_cmp place_cmp x y ≡ true → x ≡ y
same_place x y h = tells_apart (exact_pairs nat_cmp nat_cmp exact_unsigned exact_unsigned) x y h

itself : (x : ℕ × ℕ) → eq_by_cmp place_cmp x x ≡ true
itself x = ap is_eq (tied_itself pairs_total x)

abbrev place_of : Part → ℕ × ℕ
place_of p = (p.span.file, p.span.start)

-- the map m with an entry for a part
abbrev Updates : Ends → Ends → Part → ℕ → Type 0
Updates m n p reach = (q : ℕ × ℕ) → get place_cmp n q ≡ cond (eq_by_cmp place_cmp (place_of p) q) (Some reach) (get place_cmp m q)

-- an entry of the new map is the new one, or stands at another place and is one of the old map
entry_of : (m n : Ends) (p : Part) (reach : ℕ) → Updates m n p reach → (q : ℕ × ℕ) (last : ℕ) → get place_cmp n q ≡ Some last → ((place_of p ≡ q) × (last ≡ reach)) ⊎ ((place_of p ≢ q) × (get place_cmp m q ≡ Some last))
entry_of m n p reach updates q last is = elim (cases_Bool (eq_by_cmp place_cmp (place_of p) q)) [
  | inl here ↦ inl (same_place (place_of p) q here, same last reach (sym is ∙ (updates q ∙ cond-true _ _ _ here)))
  | inr other ↦ inr ((λ e. differs q (subst (λ (x : ℕ × ℕ). eq_by_cmp place_cmp x q ≡ false) e other)), sym (updates q ∙ cond-false _ _ _ other) ∙ is)
]
  where
    same : (a b : ℕ) → Some a ≡ Some b → a ≡ b
    same a b h = cc

    differs : (q : ℕ × ℕ) → eq_by_cmp place_cmp q q ≡ false → ⊥
    differs q h = let t = itself q in cc

put_found : (m n : Ends) (p : Part) (reach : ℕ) (parts : List Part) → Holds m parts → IsReach m p.span reach → Updates m n p reach → (q : Part) → HasPart m q → HasPart n q
put_found m n p reach parts holds is updates q has = elim (cases_Bool (eq_by_cmp place_cmp (place_of p) (place_of q))) [
  | inl here ↦
      let e = same_place (place_of p) (place_of q) here in
      let start : p.span.start ≡ q.span.start = ap (λ (x : ℕ × ℕ). x.1) e in
      let less = is.earlier parts holds (place_of q) has.last has.entry (sym (ap (λ (x : ℕ × ℕ). x.0) e)) (omega arith) in
      record { last = reach; entry = updates (place_of q) ∙ cond-true _ _ _ here; reaches = omega (arith, less, has.reaches) }
  | inr other ↦ record { last = has.last; entry = updates (place_of q) ∙ (cond-false _ _ _ other ∙ has.entry); reaches = has.reaches }
]

put_takes : (m n : Ends) (p : Part) (reach : ℕ) (parts : List Part) → Holds m parts → IsReach m p.span reach → (offset : ℕ) → p.span.start ≤ offset → offset ≤ reach → Any (TakesAt p.span.file offset) (parts ++ p ∷ [])
put_takes m n p reach parts holds is offset begins ends = elim is.from [
  | inl own ↦ Any-push (TakesAt p.span.file offset) parts p (refl, begins, omega arith)
  | inr there ↦ Any-longer (TakesAt p.span.file offset) parts p (holds.takes (p.span.file, there.0) reach offset there.2 (omega (arith, there.1)) ends)
]

-- an entry behind the part's start, in its file, ends at what is taken from there on, or behind it
put_ascends : (m : Ends) (p : Part) (reach : ℕ) (parts : List Part) → Holds m parts → IsReach m p.span reach → All (IsEarlierOrClear p) parts → (y : ℕ × ℕ) (b : ℕ) → get place_cmp m y ≡ Some b → p.span.file ≡ y.0 → p.span.start < y.1 → reach ≤ b
put_ascends m p reach parts holds is early y b entry file behind = elim is.from [
  | inr there ↦ holds.ascend (p.span.file, there.0) y reach b there.2 entry file (omega (arith, there.1))
  | inl own ↦
      let at = holds.starts y b entry in
      let q = at.1.1 in
      let f : y.0 ≡ q.span.file = ap (λ (x : ℕ × ℕ). x.0) at.1.4 in
      let s : y.1 ≡ q.span.start = ap (λ (x : ℕ × ℕ). x.1) at.1.4 in
      let which : IsEarlierOrClear p q = subst (IsEarlierOrClear p) at.1.3 (early at.1.0 q at.1.2) in
      let less = before p q which (file ∙ f) (omega arith) in
      omega (arith, less, at.0)
]
  where
    before : (p q : Part) → IsEarlierOrClear p q → p.span.file ≡ q.span.file → p.span.start < q.span.start → last_of p.span < q.span.start
    before p q (inl no_later) file lt = absurd (omega (arith, no_later))
    before p q (inr (inl files)) file lt = absurd (files file)
    before p q (inr (inr clear)) file lt = omega (arith, clear)

abbrev IsAt : ℕ × ℕ → Part → Type 0
IsAt place q = place ≡ (q.span.file, q.span.start)

pub put_holds : (m n : Ends) (p : Part) (reach : ℕ) (parts : List Part) → Holds m parts → IsReach m p.span reach → All (IsEarlierOrClear p) parts → Updates m n p reach → Holds n (parts ++ p ∷ [])
put_holds m n p reach parts holds is early updates = record {
  found = All-push (HasPart n) parts p
      (λ k d lt. put_found m n p reach parts holds is updates (get_or parts k d) (holds.found k d lt))
      (record { last = reach; entry = updates (place_of p) ∙ cond-true _ _ _ (itself (place_of p)); reaches = is.own });
  starts = λ place last entry. elim (entry_of m n p reach updates place last entry) [
    | inl new ↦
        let s : p.span.start ≡ place.1 = ap (λ (x : ℕ × ℕ). x.1) new.0 in
        let own = is.own in (omega (arith, own, new.1), Any-push (IsAt place) parts p (sym new.0))
    | inr old ↦
        let at = holds.starts place last old.1 in
        (at.0, Any-longer (IsAt place) parts p at.1)
  ];
  takes = λ place last offset entry begins ends. elim (entry_of m n p reach updates place last entry) [
    | inl new ↦
        let s : p.span.start ≡ place.1 = ap (λ (x : ℕ × ℕ). x.1) new.0 in
        subst (λ (f : ℕ). Any (TakesAt f offset) (parts ++ p ∷ [])) (ap (λ (x : ℕ × ℕ). x.0) new.0) (put_takes m n p reach parts holds is offset (omega arith) (omega (arith, new.1)))
    | inr old ↦ Any-longer (TakesAt place.0 offset) parts p (holds.takes place last offset old.1 begins ends)
  ];
  ascend = λ x y a b first second file order. elim (entry_of m n p reach updates x a first) [
    | inl new ↦ elim (entry_of m n p reach updates y b second) [
      | inl new' ↦ omega (arith, new.1, new'.1)
      | inr old' ↦
          let f : p.span.file ≡ y.0 = ap (λ (z : ℕ × ℕ). z.0) new.0 ∙ file in
          let s : p.span.start ≡ x.1 = ap (λ (z : ℕ × ℕ). z.1) new.0 in
          let less = put_ascends m p reach parts holds is early y b old'.1 f (behind p y old'.0 f (omega arith)) in
          omega (arith, new.1, less)
    ]
    | inr old ↦ elim (entry_of m n p reach updates y b second) [
      | inl new' ↦
          let f : x.0 ≡ p.span.file = file ∙ sym (ap (λ (z : ℕ × ℕ). z.0) new'.0) in
          let s : p.span.start ≡ y.1 = ap (λ (z : ℕ × ℕ). z.1) new'.0 in
          let less = is.earlier parts holds x a old.1 f (omega arith) in
          omega (arith, new'.1, less)
      | inr old' ↦ holds.ascend x y a b old.1 old'.1 file order
    ]
  ];
}
  where
    behind : (p : Part) (y : ℕ × ℕ) → place_of p ≢ y → p.span.file ≡ y.0 → p.span.start ≤ y.1 → p.span.start < y.1
    behind p y ne file le = elim (cases_eq p.span.start y.1) [
      | inl same ↦ absurd (ne (ap (λ (f : ℕ). (f, p.span.start)) file ∙ ap (λ (s : ℕ). (y.0, s)) same))
      | inr other ↦ omega arith
    ]

pub put_span : (m n : Ends) (span : Span) (reach : ℕ) → IsReach m span reach → ((q : ℕ × ℕ) → get place_cmp n q ≡ cond (eq_by_cmp place_cmp (span.file, span.start) q) (Some reach) (get place_cmp m q)) → (p : Part) (parts : List Part) → p.span ≡ span → Holds m parts → All (IsEarlierOrClear p) parts → Holds n (parts ++ p ∷ [])
put_span m n span reach is updates p parts e holds early = put_holds m n p reach parts holds (subst (λ (s : Span). IsReach m s reach) (sym e) is) early (λ q. updates q ∙ ap (λ (s : Span). cond (eq_by_cmp place_cmp (s.file, s.start) q) (Some reach) (get place_cmp m q)) (sym e))

-- ---- parts one after another

-- a part that is clear of all before it
pub clear_put : (m n : Ends) (p : Part) (parts : List Part) → AllPairs AreClear parts → All (AreClear p) parts → Holds n (parts ++ p ∷ []) → HoldsClear n (parts ++ p ∷ [])
clear_put m n p parts clear here holds = record { holds = holds; clear = all_pairs_push AreClear parts p clear (λ k d lt. clear_turned p (get_or parts k d) (here k d lt)) }

pub all_clear : (p : Part) (parts : List Part) → All (AreClear p) parts → All (IsEarlierOrClear p) parts
all_clear p parts clear k d lt = inr (clear k d lt)

-- the next of parts that stand in order and are clear of those before them
pub next_early : (before : List Part) (refs : List (Bor Part)) (i : ℕ) (r : Bor Part) → i < length refs → r ≡ get_or refs i r → All (λ p. All (AreClear p) before) (map (λ r. r.now) refs) → AllPairs StartsNoLater (map (λ r. r.now) refs) → All (IsEarlierOrClear r.now) (before ++ take i (map (λ r. r.now) refs))
next_early before refs i r lt is clear order =
    let parts : List Part = map (λ r. r.now) refs in
    let long : i < length parts = omega (arith, length-map refs (λ (r : Bor Part). r.now)) in
    let here : get_or parts i r.now ≡ r.now = get_or-map (λ (r : Bor Part). r.now) refs i r r.now lt ∙ ap (λ (x : Bor Part). x.now) (sym is) in
    All-append (IsEarlierOrClear r.now) before (take i parts)
    (all_clear r.now before (subst (λ (p : Part). All (AreClear p) before) here (clear i r.now long)))
    (λ k d l.
    let less : k < i = omega (arith, l, length-take i parts) in
    inl (rw (get_or-take i parts k d less) (earlier parts i r.now here k d less long order)))
  where
    earlier : (parts : List Part) (i : ℕ) (p : Part) → get_or parts i p ≡ p → (k : ℕ) (d : Part) → k < i → i < length parts → AllPairs StartsNoLater parts → StartsNoLater (get_or parts k d) p
    earlier parts i p here k d less long order = subst (StartsNoLater (get_or parts k d)) (get_or_default parts i d p long ∙ here) (order k i d less long)

pub next_put : (before : List Part) (refs : List (Bor Part)) (i : ℕ) (r : Bor Part) → i < length refs → r ≡ get_or refs i r → (before ++ take i (map (λ r. r.now) refs)) ++ r.now ∷ [] ≡ before ++ take (i + 1) (map (λ r. r.now) refs)
next_put before refs i r lt is =
    more_parts before (map (λ (r : Bor Part). r.now) refs) i r.now (omega (arith, length-map refs (λ (r : Bor Part). r.now)))
    (ap (λ (x : Bor Part). x.now) is ∙ sym (get_or-map (λ (r : Bor Part). r.now) refs i r r.now lt))

pub all_put : (before : List Part) (refs : List (Bor Part)) (i : ℕ) → length refs ≤ i → before ++ take i (map (λ r. r.now) refs) ≡ before ++ map (λ r. r.now) refs
all_put before refs i le = all_parts_put before (map (λ (r : Bor Part). r.now) refs) i (omega (arith, length-map refs (λ (r : Bor Part). r.now)))

-- the same of the parts in another order
pub holds_permuted : (m : Ends) (before ordered parts : List Part) → IsPermutation parts ordered → Holds m (before ++ ordered) → Holds m (before ++ parts)
holds_permuted m before ordered parts same holds =
    let back = IsPermutation-append before before ordered parts (IsPermutation-refl before) (IsPermutation-sym parts ordered same) in
    record {
      found = All-permutation (HasPart m) (before ++ ordered) (before ++ parts) back holds.found;
      starts = λ place last entry. let at = holds.starts place last entry in (at.0, Any-permutation (IsAt place) (before ++ ordered) (before ++ parts) back at.1);
      takes = λ place last offset entry begins ends. Any-permutation (TakesAt place.0 offset) (before ++ ordered) (before ++ parts) back (holds.takes place last offset entry begins ends);
      ascend = holds.ascend;
    }
  where
    Any-permutation : (P : Part → Type 0) (xs ys : List Part) → IsPermutation xs ys → Any P xs → Any P ys
    Any-permutation P xs ys same found =
        let c = Contains-permutation xs ys found.1 same (found.0, found.2, found.3) in
        (c.0, found.1, c.1, c.2, found.4)

-- parts that are clear of those before them meet none of these
pub none_meets : (before parts : List Part) → All (λ p. All (AreClear p) before) parts → OneMeets parts before → ⊥
none_meets before parts clear found =
    let p = found.1 in
    let met = found.4 in
    let q = met.1 in
    let here : All (AreClear p) before = subst (λ (x : Part). All (AreClear x) before) found.3 (clear found.0 p found.2) in
    clear_apart p q (subst (AreClear p) met.3 (here met.0 q met.2)) met.4
