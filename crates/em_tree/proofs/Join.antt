-- A list to which parts are put one after another.
use Rattle.std.proofs.Common.{◌≡◌, List, [], ◌++◌, sym, ap, ◌∙◌, append_assoc}
use Rattle.std.proofs.lemmas.List.{append-nil}

module _ {A : Type 0} where
  abbrev pub Put : List A → List A → List A → Type 0
  Put old p new = new ≡ old ++ p

  pub put0 : (old : List A) → old ≡ old ++ []
  put0 old = sym (append-nil old)

  pub put2 : (old p q a new : List A) → a ≡ old ++ p → new ≡ a ++ q → new ≡ old ++ (p ++ q)
  put2 old p q a new e f = f ∙ ap (λ l. l ++ q) e ∙ append_assoc old p q

  pub put3 : (old p q r a b new : List A) → a ≡ old ++ p → b ≡ a ++ q → new ≡ b ++ r → new ≡ old ++ (p ++ (q ++ r))
  put3 old p q r a b new e f g = put2 old p (q ++ r) a new e (put2 a q r b new f g)

  pub put4 : (old p q r s a b c new : List A) → a ≡ old ++ p → b ≡ a ++ q → c ≡ b ++ r → new ≡ c ++ s → new ≡ old ++ (p ++ (q ++ (r ++ s)))
  put4 old p q r s a b c new e f g h = put2 old p (q ++ (r ++ s)) a new e (put3 a q r s b c new f g h)

  pub put5 : (old p q r s t a b c d new : List A) → a ≡ old ++ p → b ≡ a ++ q → c ≡ b ++ r → d ≡ c ++ s → new ≡ d ++ t → new ≡ old ++ (p ++ (q ++ (r ++ (s ++ t))))
  put5 old p q r s t a b c d new e f g h i = put2 old p (q ++ (r ++ (s ++ t))) a new e (put4 a q r s t b c d new f g h i)

  pub put6 : (old p q r s t u a b c d k new : List A) → a ≡ old ++ p → b ≡ a ++ q → c ≡ b ++ r → d ≡ c ++ s → k ≡ d ++ t → new ≡ k ++ u
      → new ≡ old ++ (p ++ (q ++ (r ++ (s ++ (t ++ u)))))
  put6 old p q r s t u a b c d k new e f g h i j = put2 old p (q ++ (r ++ (s ++ (t ++ u)))) a new e (put5 a q r s t u b c d k new f g h i j)

  pub put7 : (old p q r s t u v a b c d k l new : List A) → a ≡ old ++ p → b ≡ a ++ q → c ≡ b ++ r → d ≡ c ++ s → k ≡ d ++ t → l ≡ k ++ u → new ≡ l ++ v
      → new ≡ old ++ (p ++ (q ++ (r ++ (s ++ (t ++ (u ++ v))))))
  put7 old p q r s t u v a b c d k l new e f g h i j m = put2 old p (q ++ (r ++ (s ++ (t ++ (u ++ v))))) a new e (put6 a q r s t u v b c d k l new f g h i j m)
