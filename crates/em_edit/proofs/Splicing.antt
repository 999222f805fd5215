-- One step through the parts of a text that stand in order.
use Rattle.std.proofs.Common.{◌≡◌, ℕ, ◌+◌, ◌-◌, ◌<◌, ◌≤◌, List, [], ◌∷◌, ◌++◌, map, length, get_or, take, drop, ap, sym, ◌∙◌, subst, arith, append_assoc, drop-drop, length-drop, Bor}
use Rattle.std.proofs.lemmas.List.{drop_more, drop_all}
use Rattle.std.proofs.lemmas.List.Elements.{All-nil, All-cons, All-weaker}
use Rattle.em_base.specs.declared.edit.Part.{Part}
use Rattle.em_edit.specs.Edited.{edited_on}
use Rattle.em_edit.specs.Laws.{StartFrom}
use Rattle.em_edit.specs.Order.{InOrder}
use Rattle.em_edit.proofs.FirstParts.{no_part, first_from}

-- parts in order end within the text
pub order_within : (at : ℕ) (ps : List Part) (len : ℕ) → InOrder at ps len → at ≤ len
order_within at [] len h = h
order_within at (p ∷ ps) len h = let r = order_within p.span.end ps len h.2 in omega (arith, r)

-- parts in order all start from the first offset on
pub order_starts : (at : ℕ) (ps : List Part) (len : ℕ) → InOrder at ps len → StartFrom at ps
order_starts at [] len h = All-nil (λ (p : Part). at ≤ p.span.start)
order_starts at (p ∷ ps) len h =
    All-cons (λ (q : Part). at ≤ q.span.start) p ps h.0
    (All-weaker (λ (q : Part). p.span.end ≤ q.span.start) (λ (q : Part). at ≤ q.span.start) (λ q le. le_from at p q h.0 h.1 le) ps (order_starts p.span.end ps len h.2))
  where
    le_from : (at : ℕ) (p q : Part) → at ≤ p.span.start → p.span.start ≤ p.span.end → p.span.end ≤ q.span.start → at ≤ q.span.start
    le_from at p q a b c = omega arith

-- the first of the references that are left
next_item : (refs : List (Bor Part)) (i : ℕ) (r : Bor Part) → i < length refs → r ≡ get_or refs i r → map (λ r. r.now) (drop i refs) ≡ r.now ∷ map (λ r. r.now) (drop (i + 1) refs)
next_item refs i r lt is =
    ap (λ (xs : List (Bor Part)). map (λ r. r.now) xs) (drop_more refs i r lt)
    ∙ ap (λ (x : Bor Part). x.now ∷ map (λ r. r.now) (drop (i + 1) refs)) (sym is)

-- the next of the parts in order
pub next_part : (at : ℕ) (refs : List (Bor Part)) (i : ℕ) (r : Bor Part) (len : ℕ) → i < length refs → r ≡ get_or refs i r → InOrder at (map (λ r. r.now) (drop i refs)) len → (at ≤ r.now.span.start) × (r.now.span.start ≤ r.now.span.end) × (r.now.span.end ≤ len) × InOrder r.now.span.end (map (λ r. r.now) (drop (i + 1) refs)) len
next_part at refs i r len lt is order =
    let o = subst (λ (ps : List Part). InOrder at ps len) (next_item refs i r lt is) order in
    (o.0, o.1, order_within r.now.span.end (map (λ r. r.now) (drop (i + 1) refs)) len o.2, o.2)

grouped : (a b c d : List ℕ) → ((a ++ b) ++ c) ++ d ≡ a ++ (b ++ (c ++ d))
grouped a b c d = simp append_assoc

-- the text up to the next part, and the part's own, are made
pub next_made : (new : List ℕ) (at : ℕ) (refs : List (Bor Part)) (i : ℕ) (r : Bor Part) (text : List ℕ) → i < length refs → r ≡ get_or refs i r → InOrder at (map (λ r. r.now) (drop i refs)) (length text) → ((new ++ take (r.now.span.start - at) (drop at text)) ++ r.now.text) ++ edited_on (map (λ r. r.now) (drop (i + 1) refs)) r.now.span.end (drop r.now.span.end text) ≡ new ++ edited_on (map (λ r. r.now) (drop i refs)) at (drop at text)
next_made new at refs i r text lt is order =
    let next = next_part at refs i r (length text) lt is order in
    let starts = order_starts r.now.span.end (map (λ r. r.now) (drop (i + 1) refs)) (length text) next.3 in
    let long : r.now.span.end ≤ at + length (drop at text) = omega (arith, next.0, next.1, next.2, length-drop at text) in
    let step = first_from at r.now (map (λ r. r.now) (drop (i + 1) refs)) (drop at text) next.0 next.1 long starts in
    let far : at + (r.now.span.end - at) ≡ r.now.span.end = omega (arith, next.0, next.1) in
    let rest : drop (r.now.span.end - at) (drop at text) ≡ drop r.now.span.end text = drop-drop (r.now.span.end - at) at text ∙ ap (λ (n : ℕ). drop n text) far in
    let whole : edited_on (map (λ r. r.now) (drop i refs)) at (drop at text) ≡ take (r.now.span.start - at) (drop at text) ++ (r.now.text ++ edited_on (map (λ r. r.now) (drop (i + 1) refs)) r.now.span.end (drop r.now.span.end text)) =
    ap (λ (ps : List Part). edited_on ps at (drop at text)) (next_item refs i r lt is) ∙ (step ∙ ap (λ (ys : List ℕ). take (r.now.span.start - at) (drop at text) ++ (r.now.text ++ edited_on (map (λ r. r.now) (drop (i + 1) refs)) r.now.span.end ys)) rest) in
    grouped new (take (r.now.span.start - at) (drop at text)) r.now.text (edited_on (map (λ r. r.now) (drop (i + 1) refs)) r.now.span.end (drop r.now.span.end text)) ∙ ap (λ (ys : List ℕ). new ++ ys) (sym whole)

-- behind the last part the text stays
pub last_made : (new : List ℕ) (at : ℕ) (refs : List (Bor Part)) (i : ℕ) (text : List ℕ) → length refs ≤ i → new ++ edited_on (map (λ r. r.now) (drop i refs)) at (drop at text) ≡ new ++ drop at text
last_made new at refs i text le = rw (drop_all i refs le) (ap (λ (ys : List ℕ). new ++ ys) (no_part at (drop at text)))
