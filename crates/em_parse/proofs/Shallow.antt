-- Tokens hold no fragments, so reading the attributes of a file never comes too deep.
use Rattle.std.proofs.Common.{◌≡◌, ℕ, zero, suc, Bool, true, false, if◌then◌else◌, List, [], ◌∷◌, ◌++◌, length, Option, Some, None, refl, sym, ap, subst}
use Rattle.em_base.specs.declared.token.Token.{Token}
use Rattle.em_tree.specs.declared.literal.Literal.{Literal}
use Rattle.em_tree.specs.declared.literal.Literal.TheVariants as made
use Rattle.em_tree.specs.declared.piece.Group.{Group}
use Rattle.em_tree.specs.declared.piece.Piece.TheVariants as p
use Rattle.em_tree.specs.Starts.{Pieces}
use Rattle.em_grammar.specs.declared.sort.Sort.{Sort}
use Rattle.em_grammar.specs.declared.sort.Written.TheVariants as word
use Rattle.em_grammar.specs.Sorts.{sort_of}
use Rattle.em_grammar.specs.Sets.{Set, next, tokens, is_sign, literal_sort}
use Rattle.em_grammar.specs.Reader.{Read, Found, Absent, Deep, and_then, or_stay, token, group, seq, chain, mapped, opt, choice, many, all_of}
use Rattle.em_grammar.specs.LiteralReader.{unsigned, unsigned_in, literal_group_of, is_literal_group}
use Rattle.em_grammar.specs.TextReader.{Shape, Side, Opens, Closes, Neither, side, same_shape, shape_of, at_side, text_in, opening, delimited, delimited_of}
use Rattle.em_grammar.specs.ItemReader as read
use Rattle.em_grammar.specs.ItemReader.{at, mark, file_attribute, meta, meta_input}
use Rattle.em_parse.specs.Calls.{of_tokens}

-- it isn't too deep, and what is left are tokens
abbrev Plain : {A : Type 0} → Read A → Type 0
Plain (Found a r) = (us : List Token) × (r ≡ of_tokens us)
Plain Absent = Unit {0}
Plain Deep = ⊥

record Shallow {A : Type 0} (R : Pieces → Read A) : Type 0 where
  plain : (ts : List Token) → Plain (R (of_tokens ts))

token_plain : (test : Token → Bool) (ts : List Token) → Plain (token test (of_tokens ts))
token_plain test [] = tt
token_plain test (t ∷ ts) = go (test t)
  where
    go : (b : Bool) → Plain (if b then Found t (of_tokens ts) else Absent)
    go true = (ts, refl)
    go false = tt

token_shallow : (test : Token → Bool) → Shallow (token test)
token_shallow test = record { plain = token_plain test }

then_plain : {A B : Type 0} (m : Read A) (f : A → Pieces → Read B) → Plain m → ((a : A) (us : List Token) → Plain (f a (of_tokens us))) → Plain (and_then m f)
then_plain (Found a r) f h k = subst (λ i. Plain (f a i)) (sym h.1) (k a h.0)
then_plain Absent f h k = tt
then_plain Deep f h k = absurd h

mapped_shallow : {A B : Type 0} (f : A → B) (P : Pieces → Read A) → Shallow P → Shallow (mapped f P)
mapped_shallow f P h = record { plain = λ ts. then_plain (P (of_tokens ts)) (λ a r. Found (f a) r) (h.plain ts) (λ a us. (us, refl)) }

seq_shallow : {A B : Type 0} (P : Pieces → Read A) (Q : Pieces → Read B) → Shallow P → Shallow Q → Shallow (seq P Q)
seq_shallow P Q h k = record {
  plain = λ ts. then_plain (P (of_tokens ts)) (λ a r. and_then (Q r) (λ b s. Found (a, b) s)) (h.plain ts) (λ a us. then_plain (Q (of_tokens us)) (λ b s. Found (a, b) s) (k.plain us) (λ b vs. (vs, refl)));
}

opt_shallow : {A : Type 0} (P : Pieces → Read A) → Shallow P → Shallow (opt P)
opt_shallow {A} P h = record { plain = λ ts. go ts (P (of_tokens ts)) (h.plain ts) }
  where
    go : (ts : List Token) (m : Read A) → Plain m → Plain (or_stay m (λ a r. Found (Some a) r) (Found None (of_tokens ts)))
    go ts (Found a r) h = h
    go ts Absent h = (ts, refl)
    go ts Deep h = absurd h

choice_shallow : {A : Type 0} (s : Set) (P Q : Pieces → Read A) → Shallow P → Shallow Q → Shallow (choice s P Q)
choice_shallow {A} s P Q h k = record { plain = λ ts. go ts (next s (of_tokens ts)) }
  where
    go : (ts : List Token) (b : Bool) → Plain (if b then P (of_tokens ts) else Q (of_tokens ts))
    go ts true = h.plain ts
    go ts false = k.plain ts

many_plain : {A : Type 0} (P : Pieces → Read A) → Shallow P → (n : ℕ) (found : List A) (ts : List Token) → Plain (many P n found (of_tokens ts))
unfolding many
many_plain P h zero found ts = (ts, refl)
many_plain {A} P h (suc n) found ts = go (P (of_tokens ts)) (h.plain ts) (λ a us. many_plain P h n (found ++ a ∷ []) us)
  where
    go : (m : Read A) → Plain m → ((a : A) (us : List Token) → Plain (many P n (found ++ a ∷ []) (of_tokens us))) → Plain (or_stay m (λ a r. many P n (found ++ a ∷ []) r) (Found found (of_tokens ts)))
    go (Found a r) h k = subst (λ i. Plain (many P n (found ++ a ∷ []) i)) (sym h.1) (k a h.0)
    go Absent h k = (ts, refl)
    go Deep h k = absurd h

group_plain : {A : Type 0} (test : Group → Bool) (R : Pieces → Read A) (ts : List Token) → Plain (group test R (of_tokens ts))
group_plain test R [] = tt
group_plain test R (t ∷ ts) = tt

group_shallow : {A : Type 0} (test : Group → Bool) (R : Pieces → Read A) → Shallow (group test R)
group_shallow test R = record { plain = group_plain test R }

unsigned_over : (s : Sort → Bool) (R : Pieces → Read Literal) → Shallow (unsigned s R)
unsigned_over s R =
    choice_shallow (tokens s) (mapped made.Token (token (λ t. s (sort_of t)))) (mapped literal_group_of (group is_literal_group R))
    (mapped_shallow made.Token (token (λ t. s (sort_of t))) (token_shallow (λ t. s (sort_of t)))) (mapped_shallow literal_group_of (group is_literal_group R) (group_shallow is_literal_group R))

unsigned_shallow : (s : Sort → Bool) (n : ℕ) → Shallow (unsigned_in s n)
unfolding unsigned_in
unsigned_shallow s zero = record { plain = (unsigned_over s (λ i. Deep)).plain }
unsigned_shallow s (suc n) = record { plain = (unsigned_over s (unsigned_in s n)).plain }

text_plain : (inner : Shape) (outer : List Shape) (found : Pieces) (ts : List Token) → Plain (text_in inner outer found (of_tokens ts))
unfolding text_in
text_plain inner outer found [] = tt
text_plain inner outer found (t ∷ ts) = go (side (sort_of t)) outer (λ a b c. text_plain a b c ts)
  where
    close : (b : Bool) (m : Read (Pieces × Token)) → Plain m → Plain (if b then m else Absent)
    close true m h = h
    close false m h = tt

    go : (s : Side) (outer : List Shape) → ((a : Shape) (b : List Shape) (c : Pieces) → Plain (text_in a b c (of_tokens ts))) → Plain (at_side s t inner outer found (of_tokens ts) (λ a b c. text_in a b c (of_tokens ts)))
    go (Opens x) outer k = k x (inner ∷ outer) (found ++ p.Token t ∷ [])
    go Neither outer k = k inner outer (found ++ p.Token t ∷ [])
    go (Closes x) [] k = close (same_shape x inner) (Found (found, t) (of_tokens ts)) (ts, refl)
    go (Closes x) (under ∷ outer) k = close (same_shape x inner) (text_in under outer (found ++ p.Token t ∷ []) (of_tokens ts)) (k under outer (found ++ p.Token t ∷ []))

delimited_plain : (ts : List Token) → Plain (delimited (of_tokens ts))
delimited_plain ts =
    then_plain (chain (token opening) (λ o. text_in (shape_of (sort_of o)) [] []) (of_tokens ts)) (λ a r. Found (delimited_of a) r)
    (then_plain (token opening (of_tokens ts)) (λ a r. and_then (text_in (shape_of (sort_of a)) [] [] r) (λ b s. Found (a, b) s)) (token_plain opening ts)
    (λ a us. then_plain (text_in (shape_of (sort_of a)) [] [] (of_tokens us)) (λ b s. Found (a, b) s) (text_plain (shape_of (sort_of a)) [] [] us) (λ b vs. (vs, refl)))) (λ a us. (us, refl))

absent_shallow : {A : Type 0} → Shallow {A = A} (λ i. Absent)
absent_shallow = record { plain = λ ts. tt }

input_shallow : (n : ℕ) → Shallow (meta_input n)
input_shallow n =
    mapped_shallow _ _ (opt_shallow _ (choice_shallow (at word.OpenParen) _ _ (mapped_shallow _ _ (choice_shallow (at word.OpenParen) delimited (λ i. Absent) (record { plain = delimited_plain }) absent_shallow))
    (mapped_shallow _ _ (seq_shallow _ _ (token_shallow (is_sign word.Eq)) (unsigned_shallow literal_sort n)))))

meta_shallow : (n : ℕ) → Shallow (meta n)
meta_shallow n = mapped_shallow _ _ (seq_shallow _ _ (token_shallow read.is_attribute) (input_shallow n))

attribute_shallow : (n : ℕ) → Shallow (file_attribute n)
attribute_shallow n =
    mapped_shallow _ _ (seq_shallow _ _ (token_shallow (is_sign word.Pound)) (seq_shallow _ _ (token_shallow (is_sign word.Not)) (seq_shallow _ _ (token_shallow (is_sign word.OpenBracket))
    (seq_shallow _ _ (meta_shallow n) (token_shallow (is_sign word.CloseBracket))))))

pub attributes_shallow : (n : ℕ) (ts : List Token) → all_of (file_attribute n) (of_tokens ts) ≡ Deep → ⊥
attributes_shallow n ts is = subst (λ m. Plain m) is (many_plain (file_attribute n) (attribute_shallow n) (length (of_tokens ts)) [] ts)

some_list : {A : Type 0} (P : Pieces → Read A) (n : ℕ) (found : List A) (i : Pieces) → many P n found i ≡ Absent → ⊥
unfolding many
some_list P zero found i is = cc
some_list {A} P (suc n) found i is = go (P i) (λ a r. some_list P n (found ++ a ∷ []) r) is
  where
    go : (m : Read A) → ((a : A) (r : Pieces) → many P n (found ++ a ∷ []) r ≡ Absent → ⊥) → or_stay m (λ a r. many P n (found ++ a ∷ []) r) (Found found i) ≡ Absent → ⊥
    go (Found a r) none e = none a r e
    go Absent none e = cc
    go Deep none e = cc

pub attributes_some : (n : ℕ) (i : Pieces) → all_of (file_attribute n) i ≡ Absent → ⊥
attributes_some n i is = some_list (file_attribute n) (length i) [] i is
