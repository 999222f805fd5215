-- The slots that an expression lists, and lists of different numbers.
use Rattle.std.proofs.Common.{◌≡◌, ◌∙◌, ◌++◌, ◌↔◌, ℕ, zero, suc, ◌<◌, ◌≤◌, List, [], ◌∷◌, length, take, Some, None, Bool, true, false, Result, Ok, Err, IfOk, IsTrue, refl, sym, subst, ap, arith}
use Rattle.std.specs.Prelude.{slice_get, slice_index_or, All}
use Rattle.em_base.specs.declared.memory.NoMemory.{NoMemory}
use Rattle.em_core.specs.declared.expr.Expr.{Expr, out-Expr}
use Rattle.em_core.specs.Nodes.{children}
use Rattle.em_core.specs.Typed
use Rattle.em_core.specs.Typed.{own_slots, Lists, ListsAll, AllDifferent, SlotsApart}
use Rattle.em_core.specs.Deciding.{Adds, AddsAll}
use Rattle.em_core.proofs.GivesLemmas.{take_more, take_whole}

app_again : (a b c : List ℕ) → (a ++ b) ++ c ≡ a ++ (b ++ c)
app_again [] b c = refl
app_again (x ∷ a) b c = ap (λ z. x ∷ z) (app_again a b c)

app_none : (a : List ℕ) → a ++ [] ≡ a
app_none [] = refl
app_none (x ∷ a) = ap (λ z. x ∷ z) (app_none a)

-- ---- one list for an expression

mutual
  same_list : (e : Expr) (ss rs : List ℕ) → Lists e ss → Lists e rs → ss ≡ rs
  same_list e ss rs (Typed.Lists.lists {ss = a} h) (Typed.Lists.lists {ss = b} k) = ap (λ z. own_slots (out-Expr e) ++ z) (same_lists (children (out-Expr e)) a b h k)

  same_lists : (es : List Expr) (ss rs : List ℕ) → ListsAll es ss → ListsAll es rs → ss ≡ rs
  same_lists [] ss rs Typed.ListsAll.none Typed.ListsAll.none = refl
  same_lists (e ∷ es) ss rs (Typed.ListsAll.more {ss = a} {rs = b} h hs) (Typed.ListsAll.more {ss = c} {rs = d} k ks) =
      ap (λ z. z ++ b) (same_list e a c h k) ∙ ap (λ z. c ++ z) (same_lists es b d hs ks)

-- ---- the walk

lists_push : (es : List Expr) (c : Expr) (ss rs : List ℕ) → ListsAll es ss → Lists c rs → ListsAll (es ++ c ∷ []) (ss ++ rs)
lists_push [] c ss rs Typed.ListsAll.none k = subst (λ z. ListsAll (c ∷ []) z) (app_none rs) (Typed.ListsAll.more k Typed.ListsAll.none)
lists_push (e ∷ es) c ss rs (Typed.ListsAll.more {ss = a} {rs = b} h hs) k = subst (λ z. ListsAll (e ∷ es ++ c ∷ []) z) (sym (app_again a b rs)) (Typed.ListsAll.more h (lists_push es c b rs hs k))

pub walk_start : (es : List Expr) (before : List ℕ) → AddsAll (take 0 es) before before
walk_start es before = record { listed = []; lists = Typed.ListsAll.none; are = sym (app_none before) }

pub walk_step : (es : List Expr) (k n : ℕ) (c : Expr) (before now new : List ℕ) → AddsAll (take k es) before now → slice_get es k ≡ Some c → Adds c now new → n ≡ suc k → AddsAll (take n es) before new
walk_step es k n c before now new f q x m = subst (λ z. AddsAll z before new) (sym (ap (λ z. take z es) m ∙ take_more es k c q))
    (record { listed = f.listed ++ x.listed; lists = lists_push (take k es) c f.listed x.listed f.lists x.lists; are = x.are ∙ ap (λ z. z ++ x.listed) f.are ∙ app_again before f.listed x.listed })

pub walk_end : (e : Expr) (k : ℕ) (before own now : List ℕ) → AddsAll (take k (children (out-Expr e))) own now → slice_get (children (out-Expr e)) k ≡ None → own ≡ before ++ own_slots (out-Expr e) → Adds e before now
walk_end e k before own now f q is = record {
  listed = own_slots (out-Expr e) ++ f.listed;
  lists = Typed.Lists.lists (subst (λ z. ListsAll z f.listed) (take_whole (children (out-Expr e)) k q) f.lists);
  are = f.are ∙ ap (λ z. z ++ f.listed) is ∙ app_again before (own_slots (out-Expr e)) f.listed;
}

-- ---- different numbers

pub apart_all : (xs : List ℕ) → ((a b : ℕ) → a < b → b < length xs → slice_index_or xs a 0 ≡ slice_index_or xs b 0 → ⊥) → AllDifferent xs
unfolding AllDifferent
apart_all xs h i j d lt le q = h i j lt le (sym (any_default xs i d 0 (grind arith)) ∙ q ∙ any_default xs j d 0 le)
  where
    any_default : (xs : List ℕ) (k d e : ℕ) → k < length xs → slice_index_or xs k d ≡ slice_index_or xs k e
    any_default [] k d e lt = absurd (grind arith)
    any_default (x ∷ xs) zero d e lt = refl
    any_default (x ∷ xs) (suc k) d e lt = any_default xs k d e (grind arith)

pub not_apart : (xs : List ℕ) (a b : ℕ) → a < b → b < length xs → slice_index_or xs a 0 ≡ slice_index_or xs b 0 → AllDifferent xs → ⊥
unfolding AllDifferent
not_apart xs a b lt le q h = h a b 0 lt le q

-- ---- the answer

pub apart_by : (parameters : ℕ) (body : Expr) (listed : List ℕ) → Adds body [] listed → AllDifferent listed → All (λ s. parameters ≤ s) listed → SlotsApart parameters body
apart_by parameters body listed h apart above = record { listed = listed; lists = subst (λ z. Lists body z) (sym h.are) h.lists; apart = apart; above = above }

pub apart_in : (parameters : ℕ) (body : Expr) (listed : List ℕ) → Adds body [] listed → SlotsApart parameters body → AllDifferent listed × All (λ s. parameters ≤ s) listed
apart_in parameters body listed h s =
    let q : s.listed ≡ listed = same_list body s.listed h.listed s.lists h.lists ∙ sym h.are in
    (subst (λ z. AllDifferent z) q s.apart, subst (λ z. All (λ n. parameters ≤ n) z) q s.above)

-- a number that stands twice
pub twice : (xs : List ℕ) (i : ℕ) → (k : ℕ) × (k < i) × (slice_index_or xs k 0 ≡ slice_index_or xs i 0) → i < length xs → (false ≡ true → AllDifferent xs) × (AllDifferent xs → false ≡ true)
twice xs i (k, lt, q) le = (λ e. absurd cc, λ h. absurd (not_apart xs k i lt le q h))

pub apart_ok : (parameters : ℕ) (body : Expr) (listed : List ℕ) (r : Result Bool NoMemory) → Adds body [] listed → All (λ s. parameters ≤ s) listed → IfOk r (λ b. IsTrue b ↔ AllDifferent listed) → IfOk r (λ b. IsTrue b ↔ SlotsApart parameters body)
apart_ok parameters body listed (Ok b) a above h = (λ q. apart_by parameters body listed a (h.0 q) above, λ s. h.1 (apart_in parameters body listed a s).0)
apart_ok parameters body listed (Err e) a above h = tt

pub not_above : (parameters : ℕ) (body : Expr) (listed : List ℕ) → Adds body [] listed → (All (λ s. parameters ≤ s) listed → ⊥) → (false ≡ true → SlotsApart parameters body) × (SlotsApart parameters body → false ≡ true)
not_above parameters body listed a h = (λ q. absurd cc, λ s. absurd (h (apart_in parameters body listed a s).1))

pub walk_from : (es : List Expr) (before now : List ℕ) → now ≡ before → AddsAll (take 0 es) before now
walk_from es before now q = subst (λ z. AddsAll (take 0 es) before z) (sym q) (walk_start es before)
