-- What is known of a stream's bytes after one more read or write.
use Rattle.std.proofs.Common.{◌≡◌, ◌⊎◌, inl, inr, ℕ, ◌+◌, ◌≤◌, List, [], ◌++◌, length, take, drop, ap, sym, ◌∙◌, append_assoc, Option, Some, None, IfSome}
use Rattle.std.proofs.lemmas.List.{append-nil, take_all}
use Rattle.std.proofs.Math.Seq.{take-add, take-append_seam}
use Rattle.std.specs.Io.KnownBytes.{Appends, Consumes, Keeps, IsAtEnd, prepend_known}

pub appends_more : (old mid new : Option (List ℕ)) (bytes rest : List ℕ) (at n : ℕ) → rest ≡ drop at bytes → Appends old mid (take at bytes) → Appends mid new (take n rest) → Appends old new (take (at + n) bytes)
appends_more None mid new bytes rest at n is before more = tt
appends_more (Some w) None new bytes rest at n is before more = absurd before
appends_more (Some w) (Some x) None bytes rest at n is before more = absurd more
appends_more (Some w) (Some x) (Some y) bytes rest at n is before more =
    more ∙ ap (λ t. x ++ take n t) is ∙ ap (λ t. t ++ take n (drop at bytes)) before ∙ append_assoc w (take at bytes) (take n (drop at bytes)) ∙ ap (λ t. w ++ t) (sym (take-add at n bytes))

-- to take bytes from what is left and put them behind what was read keeps both together
pub keeps_consumed : (old new : Option (List ℕ)) (bytes more : List ℕ) → Consumes old new more → Keeps (prepend_known bytes old) (prepend_known (bytes ++ more) new)
keeps_consumed None new bytes more consumed = tt
keeps_consumed (Some w) None bytes more consumed = absurd consumed
keeps_consumed (Some w) (Some x) bytes more consumed = append_assoc bytes more x ∙ ap (λ t. bytes ++ t) (sym consumed)

pub keeps_on : (old mid new : Option (List ℕ)) → Keeps old mid → Keeps mid new → Keeps old new
keeps_on None mid new before more = tt
keeps_on (Some w) None new before more = absurd before
keeps_on (Some w) (Some x) None before more = absurd more
keeps_on (Some w) (Some x) (Some y) before more = more ∙ before

the_front : (most : ℕ) (front rest : List ℕ) → length front ≤ most → (length front ≡ most) ⊎ (rest ≡ []) → front ≡ take most (front ++ rest)
the_front most front rest short (inl full) = sym (ap (λ n. take n (front ++ rest)) (sym full) ∙ take-append_seam front rest)
the_front most front rest short (inr done) = sym (ap (λ t. take most (front ++ t)) done ∙ ap (take most) (append-nil front) ∙ take_all most front short)

-- what was read is the front of that length, or all where nothing is left
pub front_taken : (old new : Option (List ℕ)) (start front : List ℕ) (most : ℕ) → start ≡ [] → Keeps (prepend_known start old) (prepend_known front new) → length front ≤ most → (length front ≡ most) ⊎ IsAtEnd new → IfSome old (λ xs. front ≡ take most xs)
front_taken None new start front most empty kept short done = tt
front_taken (Some w) None start front most empty kept short done = absurd kept
front_taken (Some w) (Some x) start front most empty kept short done =
    let all : w ≡ front ++ x = sym (ap (λ t. t ++ w) empty) ∙ sym kept in
    the_front most front x short done ∙ ap (take most) (sym all)
