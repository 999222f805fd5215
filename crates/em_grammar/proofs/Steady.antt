-- What is read within limits is what is read within greater ones.
use Rattle.std.proofs.Common.{ℕ, zero, suc, Bool, true, false, if◌then◌else◌, List, [], ◌∷◌, ◌++◌, length, Some, None, refl, sym, ap, subst}
use Rattle.em_tree.specs.declared.parts.Listed.{Listed}
use Rattle.em_tree.specs.declared.piece.Group.{Group}
use Rattle.em_tree.specs.declared.piece.Piece.TheVariants as p
use Rattle.em_tree.specs.Starts.{Pieces, pieces_of}
use Rattle.em_grammar.specs.declared.sort.Written.TheVariants as word
use Rattle.em_grammar.specs.Sets.{Set, next, is_sign}
use Rattle.em_grammar.specs.Lang.{listed}
use Rattle.em_grammar.specs.Reader.{Read, Found, Absent, Deep, and_then, or_stay, entire, token, group, chain, seq, mapped, opt, choice, or_else, when, many, all_of, commas, list_of}
use Rattle.em_grammar.specs.Pairs.{Steady, Firm}

pub same : {A : Type 0} (m : Read A) → Steady m m
same (Found a r) = refl
same Absent = refl
same Deep = tt

pub steady_then : {A B : Type 0} (m n : Read A) (f h : A → Pieces → Read B) → Steady m n → ((a : A) (r : Pieces) → Steady (f a r) (h a r)) → Steady (and_then m f) (and_then n h)
steady_then (Found a r) n f h s k = subst (λ n. Steady (f a r) (and_then n h)) (sym s) (k a r)
steady_then Absent n f h s k = ap (λ n. and_then n h) s
steady_then Deep n f h s k = tt

pub steady_stay : {A B : Type 0} (m n : Read A) (f h : A → Pieces → Read B) (b c : Read B) → Steady m n → ((a : A) (r : Pieces) → Steady (f a r) (h a r)) → Steady b c
    → Steady (or_stay m f b) (or_stay n h c)
steady_stay (Found a r) n f h b c s k t = subst (λ n. Steady (f a r) (or_stay n h c)) (sym s) (k a r)
steady_stay Absent n f h b c s k t = subst (λ n. Steady b (or_stay n h c)) (sym s) t
steady_stay Deep n f h b c s k t = tt

steady_entire : {A : Type 0} (m n : Read A) → Steady m n → Steady (entire m) (entire n)
steady_entire (Found a []) n s = ap (λ n. entire n) s
steady_entire (Found a (x ∷ r)) n s = ap (λ n. entire n) s
steady_entire Absent n s = ap (λ n. entire n) s
steady_entire Deep n s = tt

pub steady_if : {A : Type 0} (b : Bool) (m n o q : Read A) → Steady m n → Steady o q → Steady (if b then m else o) (if b then n else q)
steady_if true m n o q s t = s
steady_if false m n o q s t = t

pub firm_same : {A : Type 0} (P : Pieces → Read A) → Firm P P
firm_same {A} P = record { firm = λ i. same (P i) }

-- where nothing can be told
pub firm_deep : {A : Type 0} (Q : Pieces → Read A) → Firm (λ i. Deep) Q
firm_deep Q = record { firm = λ i. tt }

pub firm_chain : {A B : Type 0} {P P2 : Pieces → Read A} {Q Q2 : A → Pieces → Read B} → Firm P P2 → ((x : A) → Firm (Q x) (Q2 x)) → Firm (chain P Q) (chain P2 Q2)
firm_chain {A} {B} {P} {P2} {Q} {Q2} a b = record {
  firm = λ i. steady_then (P i) (P2 i) _ _ (a.firm i) (λ x r. steady_then (Q x r) (Q2 x r) (λ y s. Found (x, y) s) (λ y s. Found (x, y) s) ((b x).firm r) (λ y s. refl));
}

pub firm_seq : {A B : Type 0} {P P2 : Pieces → Read A} {Q Q2 : Pieces → Read B} → Firm P P2 → Firm Q Q2 → Firm (seq P Q) (seq P2 Q2)
firm_seq {A} {B} {P} {P2} {Q} {Q2} a b = record {
  firm = λ i. steady_then (P i) (P2 i) _ _ (a.firm i) (λ x r. steady_then (Q r) (Q2 r) (λ y s. Found (x, y) s) (λ y s. Found (x, y) s) (b.firm r) (λ y s. refl));
}

pub firm_map : {A B : Type 0} {P P2 : Pieces → Read A} (f : A → B) → Firm P P2 → Firm (mapped f P) (mapped f P2)
firm_map {A} {B} {P} {P2} f a = record { firm = λ i. steady_then (P i) (P2 i) (λ x r. Found (f x) r) (λ x r. Found (f x) r) (a.firm i) (λ x r. refl) }

pub firm_opt : {A : Type 0} {P P2 : Pieces → Read A} → Firm P P2 → Firm (opt P) (opt P2)
firm_opt {A} {P} {P2} a = record { firm = λ i. steady_stay (P i) (P2 i) (λ x r. Found (Some x) r) (λ x r. Found (Some x) r) (Found None i) (Found None i) (a.firm i) (λ x r. refl) refl }

pub firm_else : {A : Type 0} {P P2 Q Q2 : Pieces → Read A} → Firm P P2 → Firm Q Q2 → Firm (or_else P Q) (or_else P2 Q2)
firm_else {A} {P} {P2} {Q} {Q2} a b = record { firm = λ i. steady_stay (P i) (P2 i) (λ x r. Found x r) (λ x r. Found x r) (Q i) (Q2 i) (a.firm i) (λ x r. refl) (b.firm i) }

pub firm_when : {A : Type 0} {P P2 : Pieces → Read A} (b : Bool) → Firm P P2 → Firm (when b P) (when b P2)
firm_when {A} {P} {P2} b a = record { firm = λ i. steady_if b (P i) (P2 i) Absent Absent (a.firm i) refl }

pub firm_choice : {A : Type 0} {P P2 Q Q2 : Pieces → Read A} (s : Set) → Firm P P2 → Firm Q Q2 → Firm (choice s P Q) (choice s P2 Q2)
firm_choice {A} {P} {P2} {Q} {Q2} s a b = record { firm = λ i. steady_if (next s i) (P i) (P2 i) (Q i) (Q2 i) (a.firm i) (b.firm i) }

steady_many : {A : Type 0} (P P2 : Pieces → Read A) → Firm P P2 → (n : ℕ) (found : List A) (i : Pieces) → Steady (many P n found i) (many P2 n found i)
unfolding many
steady_many P P2 a zero found i = refl
steady_many P P2 a (suc n) found i = steady_stay (P i) (P2 i) _ _ (Found found i) (Found found i) (a.firm i) (λ x r. steady_many P P2 a n (found ++ x ∷ []) r) refl

pub firm_many : {A : Type 0} {P P2 : Pieces → Read A} → Firm P P2 → Firm (all_of P) (all_of P2)
firm_many {A} {P} {P2} a = record { firm = λ i. steady_many P P2 a (length i) [] i }

steady_commas : {A : Type 0} (P P2 : Pieces → Read A) → Firm P P2 → (n : ℕ) (found : List (Listed A)) (i : Pieces) → Steady (commas P n found i) (commas P2 n found i)
unfolding commas
steady_commas P P2 a zero found i = refl
steady_commas P P2 a (suc n) found i = steady_stay (P i) (P2 i) _ _ (Found found i) (Found found i) (a.firm i)
    (λ x r. steady_stay (token (is_sign word.Comma) r) (token (is_sign word.Comma) r) _ _ (Found (found ++ listed x None ∷ []) r) (Found (found ++ listed x None ∷ []) r) (same (token (is_sign word.Comma) r))
    (λ c s. steady_commas P P2 a n (found ++ listed x (Some c) ∷ []) s) refl) refl

pub firm_commas : {A : Type 0} {P P2 : Pieces → Read A} → Firm P P2 → Firm (list_of P) (list_of P2)
firm_commas {A} {P} {P2} a = record { firm = λ i. steady_commas P P2 a (length i) [] i }

pub firm_group : {A : Type 0} {R R2 : Pieces → Read A} (test : Group → Bool) → Firm R R2 → Firm (group test R) (group test R2)
firm_group {A} {R} {R2} test a = record { firm = firm }
  where
    firm : (i : Pieces) → Steady (group test R i) (group test R2 i)
    firm [] = refl
    firm (p.Token t ∷ r) = refl
    firm (p.Group g ∷ r) =
        steady_if (test g) _ _ Absent Absent
        (steady_then (entire (R (pieces_of g))) (entire (R2 (pieces_of g))) (λ x e. Found (g, x) r) (λ x e. Found (g, x) r) (steady_entire (R (pieces_of g)) (R2 (pieces_of g)) (a.firm (pieces_of g))) (λ x e. refl))
        refl
