-- How many copies several names ask for together.
use Rattle.std.proofs.Common.{◌≡◌, ℕ, ◌+◌, ◌<◌, nat_eq, Bool, true, false, if◌then◌else◌, inl, inr, List, length, drop, get_or, refl, sym, ◌∙◌, ap, subst}
use Rattle.std.proofs.lemmas.Bool.{cases_Bool}
use Rattle.std.proofs.lemmas.Bool.Decides.{Decides-eqb}
use Rattle.em_macro.specs.declared.matched.Bound.{out-Bound}
use Rattle.em_macro.specs.declared.copying.Steps.{Steps}
use Rattle.em_macro.specs.declared.copying.Steps.TheVariants as st
use Rattle.em_macro.specs.Match.{Name, Bindings, bound_to}
use Rattle.em_macro.specs.Write.{agree, steps, steps_of}
use Rattle.em_macro.proofs.Turns.{next_item}

nat_same : (n m : ℕ) → nat_eq n m ≡ true → n ≡ m
nat_same n m h = (Decides-eqb n m).0 h

same_nat : (n : ℕ) → nat_eq n n ≡ true
same_nat n = (Decides-eqb n n).1 refl

pub agree_any : (x : Steps) → agree x st.Any ≡ x
agree_any st.Any = refl
agree_any (st.Each n) = refl
agree_any st.Unequal = refl

pub agree_assoc : (x y z : Steps) → agree x (agree y z) ≡ agree (agree x y) z
agree_assoc st.Any y z = refl
agree_assoc (st.Each n) st.Any z = refl
agree_assoc (st.Each n) (st.Each m) st.Any = sym (agree_any (if nat_eq n m then st.Each n else st.Unequal))
agree_assoc (st.Each n) (st.Each m) (st.Each k) =
    elim (cases_Bool (nat_eq n m)) [
      | inl same ↦ subst (λ m. agree (st.Each n) (if nat_eq m k then st.Each m else st.Unequal) ≡ agree (if nat_eq n m then st.Each n else st.Unequal) (st.Each k)) (nat_same n m same) (go (nat_eq n k) refl)
      | inr other ↦ left (nat_eq m k) other ∙ sym (ap (λ b. agree (if b then st.Each n else st.Unequal) (st.Each k)) other)
    ]
  where
    left : (b : Bool) → nat_eq n m ≡ false → agree (st.Each n) (if b then st.Each m else st.Unequal) ≡ st.Unequal
    left true other = ap (λ b. if b then st.Each n else st.Unequal) other
    left false other = refl

    go : (b : Bool) → nat_eq n k ≡ b → agree (st.Each n) (if nat_eq n k then st.Each n else st.Unequal) ≡ agree (if nat_eq n n then st.Each n else st.Unequal) (st.Each k)
    go true is = ap (λ b. agree (st.Each n) (if b then st.Each n else st.Unequal)) is ∙ ap (λ b. if b then st.Each n else st.Unequal) (same_nat n ∙ sym is) ∙ sym (ap (λ b. agree (if b then st.Each n else st.Unequal) (st.Each k)) (same_nat n))
    go false is = ap (λ b. agree (st.Each n) (if b then st.Each n else st.Unequal)) is ∙ ap (λ b. if b then st.Each n else st.Unequal) (sym is) ∙ sym (ap (λ b. agree (if b then st.Each n else st.Unequal) (st.Each k)) (same_nat n))
agree_assoc (st.Each n) (st.Each m) st.Unequal = sym (un (nat_eq n m))
  where
    un : (b : Bool) → agree (if b then st.Each n else st.Unequal) st.Unequal ≡ st.Unequal
    un true = refl
    un false = refl
agree_assoc (st.Each n) st.Unequal z = refl
agree_assoc st.Unequal y z = refl

pub steps_go : (ns : List Name) (env : Bindings) (at : ℕ) (n : Name) (found new : Steps) → at < length ns → n ≡ get_or ns at n
    → new ≡ agree found (steps_of (out-Bound (bound_to n env))) → agree found (steps (drop at ns) env) ≡ agree new (steps (drop (at + 1) ns) env)
steps_go ns env at n found new below is joined =
    ap (λ l. agree found (steps l env)) (next_item ns at n below is)
    ∙ agree_assoc found (steps_of (out-Bound (bound_to n env))) (steps (drop (at + 1) ns) env)
    ∙ ap (λ x. agree x (steps (drop (at + 1) ns) env)) (sym joined)
