-- An expression gives a type if its operands do, from the first on.
use Rattle.std.proofs.Common.{◌≡◌, ℕ, zero, suc, Bool, true, false, ◌||◌, List, [], ◌∷◌, ◌++◌, take, Option, Some, None, Result, Ok, Err, IfOk, refl, sym, ◌∙◌, ap, subst}
use Rattle.std.specs.Prelude.{slice_get}
use Rattle.em_core.specs.declared.ty.Ty.{Ty}
use Rattle.em_core.specs.declared.expr.Expr.{Expr, out-Expr}
use Rattle.em_core.specs.declared.function.Variable.{Variable}
use Rattle.em_core.specs.declared.program.Core.{Core}
use Rattle.em_core.specs.declared.typed.scene.Given.{Given}
use Rattle.em_base.specs.declared.memory.NoMemory.{NoMemory}
use Rattle.em_core.specs.Nodes.{children}
use Rattle.em_core.specs.Rules
use Rattle.em_core.specs.Rules.{Gives, GivesAll, type_given, Asks, may_end, in_loop}
use Rattle.em_core.specs.Deciding.{Finds, FindsByOperands, FindsAll}

pub take_more : (es : List Expr) (k : ℕ) (c : Expr) → slice_get es k ≡ Some c → take (suc k) es ≡ take k es ++ c ∷ []
take_more [] k c q = absurd cc
take_more (e ∷ es) zero c q = let h : e ≡ c = cc in ap (λ x. x ∷ []) h
take_more (e ∷ es) (suc k) c q = ap (λ xs. e ∷ xs) (take_more es k c q)

pub take_whole : (es : List Expr) (k : ℕ) → slice_get es k ≡ None → take k es ≡ es
take_whole [] zero q = refl
take_whole [] (suc k) q = refl
take_whole (e ∷ es) zero q = absurd cc
take_whole (e ∷ es) (suc k) q = ap (λ xs. e ∷ xs) (take_whole es k q)

not_both : {X : Type 0} (o : Option X) (x : X) → o ≡ None → o ≡ Some x → ⊥
not_both o x p q = absurd cc

or_again : (a b c : Bool) → (a || (b || c)) ≡ ((a || b) || c)
or_again true b c = refl
or_again false b c = refl

or_last : (a : Bool) → (a || false) ≡ a
or_last true = refl
or_last false = refl

module _ (core : Core) (slots : List Ty) (roots : List Variable) (result : Ty) where
  record Operands (looping : Bool) (e : Expr) (t : Ty) (b : Bool) : Type 0 where
    ts : List Ty
    ends : Bool
    all : GivesAll core slots roots result (in_loop looping (out-Expr e)) (children (out-Expr e)) ts ends
    is : type_given core slots roots result (out-Expr e) ts ends ≡ Some t
    asked : Asks core slots roots result looping (out-Expr e) ts t
    so : b ≡ may_end (out-Expr e) ends

  operands : (looping : Bool) (e : Expr) (t : Ty) (b : Bool) → Gives core slots roots result looping e t b → Operands looping e t b
  operands looping e t b (Rules.Gives.gives {ts = ts} {ends = ends} all is asked) = record { ts = ts; ends = ends; all = all; is = is; asked = asked; so = refl }

  -- an expression whose form gives no type has none
  pub has_type_given : (looping : Bool) (e : Expr) (t : Ty) (b : Bool) → Gives core slots roots result looping e t b → ((ts : List Ty) (ends : Bool) → type_given core slots roots result (out-Expr e) ts ends ≡ None) → ⊥
  has_type_given looping e t b g h = let s = operands looping e t b g in not_both (type_given core slots roots result (out-Expr e) s.ts s.ends) t (h s.ts s.ends) s.is

  one_more : (looping : Bool) (es : List Expr) (ts : List Ty) (b : Bool) (e : Expr) (t : Ty) (d : Bool) → GivesAll core slots roots result looping es ts b → Gives core slots roots result looping e t d
      → GivesAll core slots roots result looping (es ++ e ∷ []) (ts ++ t ∷ []) (b || d)
  one_more looping [] ts b e t d Rules.GivesAll.none g = subst (λ x. GivesAll core slots roots result looping (e ∷ []) (t ∷ []) x) (or_last d) (Rules.GivesAll.more g Rules.GivesAll.none)
  one_more looping (x ∷ es) ts b e t d (Rules.GivesAll.more {t = u} {ts = us} {one = one} {others = others} h hs) g =
      subst (λ z. GivesAll core slots roots result looping (x ∷ es ++ e ∷ []) (u ∷ us ++ t ∷ []) z) (or_again one others d) (Rules.GivesAll.more h (one_more looping es us others e t d hs g))

  record Split (looping : Bool) (es : List Expr) (e : Expr) (us : List Ty) (c : Bool) : Type 0 where
    ts : List Ty
    b : Bool
    t : Ty
    d : Bool
    before : GivesAll core slots roots result looping es ts b
    last : Gives core slots roots result looping e t d
    types : us ≡ ts ++ t ∷ []
    end : c ≡ (b || d)

  split : (looping : Bool) (es : List Expr) (e : Expr) (us : List Ty) (c : Bool) → GivesAll core slots roots result looping (es ++ e ∷ []) us c → Split looping es e us c
  split looping [] e us c (Rules.GivesAll.more {t = t} {one = one} g Rules.GivesAll.none) =
      record { ts = []; b = false; t = t; d = one; before = Rules.GivesAll.none; last = g; types = refl; end = or_last one }
  split looping (x ∷ es) e us c (Rules.GivesAll.more {t = u} {ts = vs} {one = one} {others = others} h hs) =
      let s = split looping es e vs others hs in
      record { ts = u ∷ s.ts; b = one || s.b; t = s.t; d = s.d; before = Rules.GivesAll.more h s.before; last = s.last; types = ap (λ z. u ∷ z) s.types; end = ap (λ z. one || z) s.end ∙ or_again one s.b s.d }

  record Typing (looping : Bool) (e : Expr) : Type 0 where
    t : Ty
    b : Bool
    gives : Gives core slots roots result looping e t b

  each_given : (looping : Bool) (es : List Expr) (us : List Ty) (c : Bool) (k : ℕ) (x : Expr) → GivesAll core slots roots result looping es us c → slice_get es k ≡ Some x → Typing looping x
  each_given looping [] us c k x h q = absurd cc
  each_given looping (e ∷ es) us c zero x (Rules.GivesAll.more {t = t} {one = one} g gs) q = record { t = t; b = one; gives = let h : e ≡ x = cc in subst (λ z. Gives core slots roots result looping z t one) h g }
  each_given looping (e ∷ es) us c (suc k) x (Rules.GivesAll.more {ts = ts} {others = others} g gs) q = each_given looping es ts others k x gs q

  -- ---- the loop over the operands

  pub start : (looping : Bool) (es : List Expr) → FindsAll core slots roots result looping (take 0 es) [] false
  start looping es = record { give = Rules.GivesAll.none; types = λ us b h. no_types us b h; end = λ us b h. no_end us b h }
    where
      no_types : (us : List Ty) (b : Bool) → GivesAll core slots roots result looping [] us b → us ≡ []
      no_types us b Rules.GivesAll.none = refl

      no_end : (us : List Ty) (b : Bool) → GivesAll core slots roots result looping [] us b → b ≡ false
      no_end us b Rules.GivesAll.none = refl

  pub step : (looping : Bool) (es : List Expr) (k n : ℕ) (c : Expr) (ts : List Ty) (ends : Bool) (g : Given) (o : Option Given) → FindsAll core slots roots result looping (take k es) ts ends → slice_get es k ≡ Some c
      → Finds core slots roots result looping c o → o ≡ Some g → n ≡ suc k → FindsAll core slots roots result looping (take n es) (ts ++ g.ty ∷ []) (ends || g.ends)
  step looping es k n c ts ends g o f q x p m = subst (λ z. FindsAll core slots roots result looping z (ts ++ g.ty ∷ []) (ends || g.ends)) (sym (ap (λ z. take z es) m ∙ take_more es k c q)) more
    where
      given : (t : Ty) (d : Bool) → Gives core slots roots result looping c t d → g ≡ record { ty = t; ends = d }
      given t d h = let r : Some g ≡ Some (record { ty = t; ends = d }) = sym p ∙ x.found t d h in cc

      more : FindsAll core slots roots result looping (take k es ++ c ∷ []) (ts ++ g.ty ∷ []) (ends || g.ends)
      more = record {
        give = one_more looping (take k es) ts ends c g.ty g.ends f.give (x.gives g p);
        types = λ us b h. let s = split looping (take k es) c us b h in
            s.types ∙ ap (λ z. z ++ s.t ∷ []) (f.types s.ts s.b s.before) ∙ ap (λ z. ts ++ z.ty ∷ []) (sym (given s.t s.d s.last));
        end = λ us b h. let s = split looping (take k es) c us b h in
            s.end ∙ ap (λ z. z || s.d) (f.end s.ts s.b s.before) ∙ ap (λ z. ends || z.ends) (sym (given s.t s.d s.last));
      }

  -- an operand without a type
  pub none_by_operand : (looping : Bool) (e : Expr) (k : ℕ) (c : Expr) (o p : Option Given) → slice_get (children (out-Expr e)) k ≡ Some c → Finds core slots roots result (in_loop looping (out-Expr e)) c o → o ≡ None → p ≡ None
      → Finds core slots roots result looping e p
  none_by_operand looping e k c o p q x n m = record { found = λ t ends h. absurd (never t ends h); gives = λ g h. absurd cc }
    where
      never : (t : Ty) (ends : Bool) → Gives core slots roots result looping e t ends → ⊥
      never t ends h =
          let s = operands looping e t ends h in
          let y = each_given (in_loop looping (out-Expr e)) (children (out-Expr e)) s.ts s.ends k c s.all q in
          not_both o (record { ty = y.t; ends = y.b }) n (x.found y.t y.b y.gives)

  -- all operands have types
  pub by_operands : (looping : Bool) (e : Expr) (k : ℕ) (ts : List Ty) (ends : Bool) (o : Option Given) → FindsAll core slots roots result (in_loop looping (out-Expr e)) (take k (children (out-Expr e))) ts ends
      → slice_get (children (out-Expr e)) k ≡ None → FindsByOperands core slots roots result looping e ts ends o → Finds core slots roots result looping e o
  by_operands looping e k ts ends o f q x = record { found = found; gives = λ g p. subst (λ b. Gives core slots roots result looping e g.ty b) (sym (x.ends_so g p)) (Rules.Gives.gives whole.give (x.given g p) (x.asked g p)) }
    where
      whole : FindsAll core slots roots result (in_loop looping (out-Expr e)) (children (out-Expr e)) ts ends
      whole = subst (λ z. FindsAll core slots roots result (in_loop looping (out-Expr e)) z ts ends) (take_whole (children (out-Expr e)) k q) f

      found : (t : Ty) (b : Bool) → Gives core slots roots result looping e t b → o ≡ Some (record { ty = t; ends = b })
      found t b h =
          let s = operands looping e t b h in
          let p : s.ts ≡ ts = whole.types s.ts s.ends s.all in
          let r : s.ends ≡ ends = whole.end s.ts s.ends s.all in
          let is : type_given core slots roots result (out-Expr e) ts ends ≡ Some t = ap (λ z. type_given core slots roots result (out-Expr e) z ends) (sym p) ∙ ap (λ z. type_given core slots roots result (out-Expr e) s.ts z) (sym r) ∙ s.is in
          let asked : Asks core slots roots result looping (out-Expr e) ts t = subst (λ z. Asks core slots roots result looping (out-Expr e) z t) p s.asked in
          x.found t is asked ∙ ap (λ z. Some (record { ty = t; ends = z })) (ap (λ z. may_end (out-Expr e) z) (sym r) ∙ sym s.so)

  pub by_operands_ok : (looping : Bool) (e : Expr) (k : ℕ) (ts us : List Ty) (ends : Bool) (r : Result (Option Given) NoMemory) → us ≡ ts → FindsAll core slots roots result (in_loop looping (out-Expr e)) (take k (children (out-Expr e))) ts ends
      → slice_get (children (out-Expr e)) k ≡ None → IfOk r (λ o. FindsByOperands core slots roots result looping e us ends o) → IfOk r (λ o. Finds core slots roots result looping e o)
  by_operands_ok looping e k ts us ends (Ok o) p f q x = by_operands looping e k ts ends o f q (subst (λ z. FindsByOperands core slots roots result looping e z ends o) p x)
  by_operands_ok looping e k ts us ends (Err m) p f q x = tt

  pub at_inside : (inside l : Bool) (c : Expr) (o : Option Given) → inside ≡ l → Finds core slots roots result inside c o → Finds core slots roots result l c o
  at_inside inside l c o q f = subst (λ z. Finds core slots roots result z c o) q f

  pub fewer_types : (l : Bool) (es : List Expr) {ts us : List Ty} (ends : Bool) → ts ≡ us → FindsAll core slots roots result l es us ends → FindsAll core slots roots result l es ts ends
  fewer_types l es {ts} {us} ends q f = subst (λ z. FindsAll core slots roots result l es z ends) (sym q) f

  pub other_ends : (l : Bool) (es : List Expr) (ts : List Ty) {b d : Bool} → b ≡ d → FindsAll core slots roots result l es ts d → FindsAll core slots roots result l es ts b
  other_ends l es ts {b} {d} q f = subst (λ z. FindsAll core slots roots result l es ts z) (sym q) f

pub none_of : {X : Type 0} (o : Option X) → ((x : X) → o ≡ Some x → ⊥) → o ≡ None
none_of None h = refl
none_of (Some x) h = absurd (h x refl)
