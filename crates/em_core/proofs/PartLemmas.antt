-- Parts of types by marks of structs and enums.
use Rattle.std.proofs.Common.{◌≡◌, ◌∙◌, ◌++◌, ◌⊎◌, ℕ, zero, suc, ◌<◌, ◌≤◌, Bool, true, false, List, [], ◌∷◌, length, Some, refl, sym, subst, ap, arith, inl, inr, ◌+◌}
use Rattle.std.specs.Prelude.{slice_get, slice_index_or, slice_set}
use Rattle.std.specs.Bool.{OnFalse, OnTrue}
use Rattle.std.proofs.lemmas.Option.{slice_get_within, slice_get_read}
use Rattle.em_core.specs.declared.ty.Ty.{Ty, out-Ty}
use Rattle.em_core.specs.declared.ty.Ty.TheOpen.{Ty-F}
use Rattle.em_core.specs.declared.definition.TypeDef.{TypeDef}
use Rattle.em_core.specs.declared.program.Core.{Core}
use Rattle.em_core.specs.declared.typed.parts.Sought.{Sought}
use Rattle.em_core.specs.declared.typed.parts.Sought.TheVariants as sought
use Rattle.em_core.specs.Types
use Rattle.em_core.specs.Types.{IsPart, IsDropFree, HoldsReference}
use Rattle.em_core.specs.Deciding
use Rattle.em_core.specs.Deciding.{Shows, HasPart, Reaches, FieldFinds, DefFinds, MarksRight, MarkedAt, MarkedWhole, is_marked, is_found, inner_type, missing}

-- ---- marks

-- a mark is the new one or an old one
new_mark : (found : List Bool) (at d : ℕ) → is_marked (slice_set found at true) d ≡ true → (d ≡ at) ⊎ (is_marked found d ≡ true)
new_mark [] at d h = inr h
new_mark (x ∷ xs) zero zero h = inl refl
new_mark (x ∷ xs) zero (suc d) h = inr h
new_mark (x ∷ xs) (suc at) zero h = inr h
new_mark (x ∷ xs) (suc at) (suc d) h = up (new_mark xs at d h)
  where
    up : (d ≡ at) ⊎ (is_marked xs d ≡ true) → (suc d ≡ suc at) ⊎ (is_marked xs d ≡ true)
    up (inl q) = inl (ap (λ n. suc n) q)
    up (inr q) = inr q

-- a new mark is one less that is missing
pub fewer_missing : (found : List Bool) (at : ℕ) → at < length found → is_marked found at ≡ false → missing (slice_set found at true) < missing found
fewer_missing [] at lt h = absurd (grind arith)
fewer_missing (false ∷ xs) zero lt h = let e : missing xs < 1 + missing xs = grind arith in e
fewer_missing (true ∷ xs) zero lt h = absurd cc
fewer_missing (false ∷ xs) (suc at) lt h = let f : missing (slice_set xs at true) < missing xs = fewer_missing xs at (grind arith) h in let e : 1 + missing (slice_set xs at true) < 1 + missing xs = grind arith in e
fewer_missing (true ∷ xs) (suc at) lt h = fewer_missing xs at (grind arith) h

found_def : (found : List Bool) (x : Ty-F Ty) → is_found found x ≡ true → (d : ℕ) × (x ≡ Ty-F.Def d) × (is_marked found d ≡ true)
found_def found (Ty-F.Def d) h = (d, refl, h)
found_def found (Ty-F.Int k) h = absurd cc
found_def found Ty-F.Bool h = absurd cc
found_def found Ty-F.Char h = absurd cc
found_def found Ty-F.Str h = absurd cc
found_def found Ty-F.Unit h = absurd cc
found_def found Ty-F.Never h = absurd cc
found_def found (Ty-F.Array t n) h = absurd cc
found_def found (Ty-F.Slice t) h = absurd cc
found_def found (Ty-F.Ref t unique) h = absurd cc
found_def found (Ty-F.Boxed t) h = absurd cc
found_def found (Ty-F.Dyn n) h = absurd cc
found_def found (Ty-F.DynFn k ts t) h = absurd cc
found_def found (Ty-F.Closure id copy drop_free refers) h = absurd cc
found_def found (Ty-F.ArrayIter t) h = absurd cc
found_def found (Ty-F.RefIter t) h = absurd cc
found_def found (Ty-F.Range k) h = absurd cc

module _ (core : Core) (s : Sought) where
  -- ---- one look at a type

  data Way (found : List Bool) (t : Ty) : Type 0 where
    itself : Shows core s (out-Ty t) → Way found t
    marked : is_found found (out-Ty t) ≡ true → Way found t
    within : (u : Ty) → inner_type (out-Ty t) ≡ Some u → Reaches core s found u → Way found t

  way : (found : List Bool) (t : Ty) → Reaches core s found t → Way found t
  way found t (Deciding.Reaches.itself h) = Way.itself h
  way found t (Deciding.Reaches.marked h) = Way.marked h
  way found t (Deciding.Reaches.within {u = u} q h) = Way.within u q h

  pub reached : (found : List Bool) (t : Ty) → Shows core s (out-Ty t) → Reaches core s found t
  reached found t h = Deciding.Reaches.itself h

  pub reached_by_mark : (found : List Bool) (t : Ty) → is_found found (out-Ty t) ≡ true → Reaches core s found t
  reached_by_mark found t h = Deciding.Reaches.marked h

  pub reached_within : (found : List Bool) (t u : Ty) → inner_type (out-Ty t) ≡ Some u → Reaches core s found u → Reaches core s found t
  reached_within found t u q h = Deciding.Reaches.within q h

  pub not_reached : (found : List Bool) (t : Ty) → (Shows core s (out-Ty t) → ⊥) → (is_found found (out-Ty t) ≡ true → ⊥) → ((u : Ty) → inner_type (out-Ty t) ≡ Some u → Reaches core s found u → ⊥) → Reaches core s found t → ⊥
  not_reached found t a b c h = by (way found t h)
    where
      by : Way found t → ⊥
      by (Way.itself x) = a x
      by (Way.marked x) = b x
      by (Way.within u q x) = c u q x

  -- ---- what the marks reach is there

  in_inner : (t u : Ty) (x : Ty-F Ty) → out-Ty t ≡ x → inner_type x ≡ Some u → HasPart core s u → HasPart core s t
  unfolding HasPart
  in_inner t u (Ty-F.Array e n) q p (w, part, h) = (w, Types.IsPart.element q (let is : u ≡ e = cc in subst (λ z. IsPart core w z) is part), h)
  in_inner t u (Ty-F.Slice e) q p (w, part, h) = (w, Types.IsPart.of_slice q (let is : u ≡ e = cc in subst (λ z. IsPart core w z) is part), h)
  in_inner t u (Ty-F.Boxed e) q p (w, part, h) = (w, Types.IsPart.content q (let is : u ≡ e = cc in subst (λ z. IsPart core w z) is part), h)
  in_inner t u (Ty-F.ArrayIter e) q p (w, part, h) = (w, Types.IsPart.left q (let is : u ≡ e = cc in subst (λ z. IsPart core w z) is part), h)
  in_inner t u (Ty-F.RefIter e) q p (w, part, h) = (w, Types.IsPart.reference q (let is : u ≡ e = cc in subst (λ z. IsPart core w z) is part), h)
  in_inner t u (Ty-F.Def d) q p r = absurd cc
  in_inner t u (Ty-F.Int k) q p r = absurd cc
  in_inner t u Ty-F.Bool q p r = absurd cc
  in_inner t u Ty-F.Char q p r = absurd cc
  in_inner t u Ty-F.Str q p r = absurd cc
  in_inner t u Ty-F.Unit q p r = absurd cc
  in_inner t u Ty-F.Never q p r = absurd cc
  in_inner t u (Ty-F.Ref e unique) q p r = absurd cc
  in_inner t u (Ty-F.Dyn n) q p r = absurd cc
  in_inner t u (Ty-F.DynFn k ts e) q p r = absurd cc
  in_inner t u (Ty-F.Closure id copy drop_free refers) q p r = absurd cc
  in_inner t u (Ty-F.Range k) q p r = absurd cc

  pub there : (found : List Bool) → MarksRight core s found → (t : Ty) → Reaches core s found t → HasPart core s t
  unfolding HasPart MarksRight
  there found right t (Deciding.Reaches.itself h) = (t, Types.IsPart.whole, h)
  there found right t (Deciding.Reaches.marked h) = let f = found_def found (out-Ty t) h in right f.0 t f.2 f.1
  there found right t (Deciding.Reaches.within {u = u} q h) = in_inner t u (out-Ty t) refl q (there found right u h)

  by_fields : (found : List Bool) → MarksRight core s found → (d : ℕ) (x : TypeDef) → slice_get core.types d ≡ Some x → DefFinds core s found x → (t : Ty) → out-Ty t ≡ Ty-F.Def d → HasPart core s t
  unfolding DefFinds FieldFinds HasPart
  by_fields found right d x q (i, v, lt, is, (j, f, le, has, h)) t form =
      let r = there found right f h in (r.0, Types.IsPart.field form q (i, lt, is) (j, le, has) r.1, r.2)

  pub right_with : (found : List Bool) (at : ℕ) (x : TypeDef) → slice_get core.types at ≡ Some x → DefFinds core s found x → MarksRight core s found → MarksRight core s (slice_set found at true)
  unfolding MarksRight
  right_with found at x q h right d t mark form = by (new_mark found at d mark)
    where
      by : (d ≡ at) ⊎ (is_marked found d ≡ true) → HasPart core s t
      by (inl e) = by_fields found right d x (subst (λ n. slice_get core.types n ≡ Some x) (sym e) q) h t form
      by (inr m) = right d t m form

  -- ---- what is there is reached

  pub marked_here : (found : List Bool) (d : ℕ) → is_marked found d ≡ true → MarkedAt core s found d
  unfolding MarkedAt
  marked_here found d h x q f = h

  none_here : (found : List Bool) (d : ℕ) (x : TypeDef) → slice_get core.types d ≡ Some x → (DefFinds core s found x → ⊥) → MarkedAt core s found d
  unfolding MarkedAt
  none_here found d x q h y p f = let is : y ≡ x = let r : Some y ≡ Some x = sym p ∙ q in cc in absurd (h (subst (λ z. DefFinds core s found z) is f))

  -- the item at a place of the list
  pub none_at : (found : List Bool) (d : ℕ) (x : TypeDef) → d < length core.types → x ≡ slice_index_or core.types d x → (DefFinds core s found x → ⊥) → MarkedAt core s found d
  none_at found d x lt is h = none_here found d x (slice_get_read core.types (length core.types) d x refl lt is) h

  pub right_at : (found : List Bool) (at : ℕ) (x : TypeDef) → at < length core.types → x ≡ slice_index_or core.types at x → DefFinds core s found x → MarksRight core s found → MarksRight core s (slice_set found at true)
  right_at found at x lt is h right = right_with found at x (slice_get_read core.types (length core.types) at x refl lt is) h right

  pub reached_there : (found : List Bool) → MarkedWhole core s found → (u t : Ty) → IsPart core u t → Shows core s (out-Ty u) → Reaches core s found t
  unfolding MarkedWhole MarkedAt DefFinds FieldFinds
  reached_there found whole u t Types.IsPart.whole h = Deciding.Reaches.itself h
  reached_there found whole u t (Types.IsPart.field {f = f} {d = d} {x = x} {v = v} form q (i, lt, is) (j, le, has) part) h =
      let r = reached_there found whole u f part h in
      let m : is_marked found d ≡ true = whole d x q (i, v, lt, is, (j, f, le, has, r)) in
      Deciding.Reaches.marked (ap (λ z. is_found found z) form ∙ m)
  reached_there found whole u t (Types.IsPart.element {e = e} q part) h = Deciding.Reaches.within (ap inner_type q) (reached_there found whole u e part h)
  reached_there found whole u t (Types.IsPart.of_slice {e = e} q part) h = Deciding.Reaches.within (ap inner_type q) (reached_there found whole u e part h)
  reached_there found whole u t (Types.IsPart.content {c = c} q part) h = Deciding.Reaches.within (ap inner_type q) (reached_there found whole u c part h)
  reached_there found whole u t (Types.IsPart.left {i = i} q part) h = Deciding.Reaches.within (ap inner_type q) (reached_there found whole u i part h)
  reached_there found whole u t (Types.IsPart.reference {i = i} q part) h = Deciding.Reaches.within (ap inner_type q) (reached_there found whole u i part h)

  pub all_reached : (found : List Bool) → MarkedWhole core s found → (t : Ty) → HasPart core s t → Reaches core s found t
  unfolding HasPart
  all_reached found whole t (u, part, h) = reached_there found whole u t part h

  -- ---- the loops

  -- after a look at the first n
  pub record Marking (before now : List Bool) (changed : Bool) (n : ℕ) : Type 0 where
    pub same : length now ≡ length before
    pub right : MarksRight core s before → MarksRight core s now
    pub most : missing now ≤ missing before
    pub fewer : OnTrue changed (missing now < missing before)
    pub whole : OnFalse changed ((d : ℕ) → d < n → MarkedAt core s now d)

  pub marking_start : (before : List Bool) → Marking before before false 0
  marking_start before = record { same = refl; right = λ h. h; most = grind arith; fewer = tt; whole = λ d lt. absurd (grind arith) }

  pub marking_new : (before now new : List Bool) (changed : Bool) (n m : ℕ) → Marking before now changed n → length new ≡ length now → (MarksRight core s now → MarksRight core s new) → missing new < missing now → Marking before new true m
  marking_new before now new changed n m k same right fewer =
      record { same = same ∙ k.same; right = λ h. right (k.right h); most = let a = k.most in grind arith; fewer = let a = k.most in grind arith; whole = tt }

  pub marking_same : (before now new : List Bool) (changed : Bool) (n m : ℕ) → Marking before now changed n → new ≡ now → MarkedAt core s new n → m ≡ suc n → Marking before new changed m
  marking_same before now new changed n m k same at more =
      record {
        same = subst (λ z. length z ≡ length before) (sym same) k.same;
        right = λ h. subst (λ z. MarksRight core s z) (sym same) (k.right h);
        most = subst (λ z. missing z ≤ missing before) (sym same) k.most;
        fewer = subst (λ z. OnTrue changed (missing z < missing before)) (sym same) k.fewer;
        whole = by changed k.whole;
      }
    where
      by : (c : Bool) → OnFalse c ((d : ℕ) → d < n → MarkedAt core s now d) → OnFalse c ((d : ℕ) → d < m → MarkedAt core s new d)
      by true h = tt
      by false h = λ d lt. one d (h d) lt (split d)
        where
          split : (d : ℕ) → (d < n) ⊎ (d ≡ n) ⊎ (n < d)
          split d = grind arith

          one : (d : ℕ) → (d < n → MarkedAt core s now d) → d < m → (d < n) ⊎ (d ≡ n) ⊎ (n < d) → MarkedAt core s new d
          one d f lt (inl a) = subst (λ z. MarkedAt core s z d) (sym same) (f a)
          one d f lt (inr (inl q)) = subst (λ z. MarkedAt core s new z) (sym q) at
          one d f lt (inr (inr a)) = absurd (grind arith)

  pub marking_end : (before now : List Bool) (changed : Bool) (n : ℕ) → Marking before now changed n → n ≡ length core.types → OnFalse changed (MarkedWhole core s now)
  unfolding MarkedWhole MarkedAt
  marking_end before now changed n k q = by changed k.whole
    where
      by : (c : Bool) → OnFalse c ((d : ℕ) → d < n → MarkedAt core s now d) → OnFalse c (MarkedWhole core s now)
      by true h = tt
      by false h = λ d x p f. h d (let w : d < length core.types = slice_get_within core.types d x p in grind arith) x p f

-- no mark at all
unfoldable pub NoMark : List Bool → Type 0
NoMark found = (d : ℕ) → is_marked found d ≡ false

pub no_mark_start : NoMark []
unfolding NoMark
no_mark_start d = refl

pub no_mark_more : (found : List Bool) → NoMark found → NoMark (found ++ false ∷ [])
unfolding NoMark
no_mark_more found h d = more found d (h d)
  where
    more : (found : List Bool) (d : ℕ) → is_marked found d ≡ false → is_marked (found ++ false ∷ []) d ≡ false
    more [] zero h = refl
    more [] (suc d) h = refl
    more (x ∷ xs) zero h = h
    more (x ∷ xs) (suc d) h = more xs d h

pub no_mark_right : (core : Core) (s : Sought) (found : List Bool) → NoMark found → MarksRight core s found
unfolding NoMark MarksRight
no_mark_right core s found h d t m form = absurd (let e : true ≡ false = sym m ∙ h d in cc)

-- ---- what is asked

pub drop_free : (core : Core) (t : Ty) → (HasPart core sought.Drops t → ⊥) → IsDropFree core t
unfolding HasPart Shows IsDropFree
drop_free core t h u part d = h (u, part, d)

pub not_drop_free : (core : Core) (t : Ty) → HasPart core sought.Drops t → IsDropFree core t → ⊥
unfolding HasPart Shows IsDropFree
not_drop_free core t (u, part, d) h = h u part d

pub holds : (core : Core) (t : Ty) → HasPart core sought.References t → HoldsReference core t
unfolding HasPart Shows HoldsReference
holds core t h = h

pub not_holds : (core : Core) (t : Ty) → HoldsReference core t → HasPart core sought.References t
unfolding HasPart Shows HoldsReference
not_holds core t h = h
