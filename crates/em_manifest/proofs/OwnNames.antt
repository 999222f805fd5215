-- Names that are looked up among those that follow.
use Rattle.std.proofs.Common.{◌≡◌, ◌<◌, ◌+◌, ℕ, List, [], ◌∷◌, ◌++◌, Bool, true, false, ◌||◌, not, length, drop, take, get_or, sym, ◌∙◌, ap, refl, Option, Some, is_some, Bor, BTreeMap, cond, inl, inr}
use Rattle.std.proofs.lemmas.Bool.{and_right, cases_Bool, false≢true, false_from_ne_true}
use Rattle.std.proofs.lemmas.List.{at_drop_more, drop_more, take-append-drop}
use Rattle.std.proofs.lemmas.Map.Text.{btree_map_updates_str}
use Rattle.std.proofs.lemmas.Slice.Eq.{bytes_eq-Decides}
use Rattle.std.specs.BTreeMap as tree
use Rattle.std.specs.Cmp.Lexicographic.{slice_cmp}
use Rattle.std.specs.Ordering.{nat_cmp}
use Rattle.std.specs.List.{list_any}
use Rattle.std.specs.Str.{bytes_eq}
use Rattle.em_manifest.specs.declared.manifest.Dependency.{Dependency}
use Rattle.em_manifest.specs.Values.{have_own_names}

-- one of the dependencies has the name
abbrev pub has_name : List ℕ → List Dependency → Bool
has_name name ds = list_any (λ other. bytes_eq name other.name) ds

-- what `seen` finds at a name
abbrev pub finds : List ℕ → BTreeMap (Bor (List ℕ)) (Unit {0}) → Option (Unit {0})
finds name seen = tree.get_by (λ k. slice_cmp nat_cmp name k.now) seen

own_step : (d : Dependency) (ds : List Dependency) → has_name d.name ds ≡ false → have_own_names ds ≡ true → have_own_names (d ∷ ds) ≡ true
own_step d ds apart own = rw (apart, own)

pub own_more : (ds : List Dependency) (i : ℕ) (d : Dependency) → i < length ds → has_name (get_or ds i d).name (drop (i + 1) ds) ≡ false → have_own_names (drop (i + 1) ds) ≡ true → have_own_names (drop i ds) ≡ true
own_more ds i d within apart own = rw (drop_more ds i d within) (own_step (get_or ds i d) (drop (i + 1) ds) apart own)

twice_step : (d : Dependency) (ds : List Dependency) → has_name d.name ds ≡ true → have_own_names (d ∷ ds) ≡ false
twice_step d ds twice = rw twice

-- a name that stands twice among the last dependencies does among all
twice_front : (before ds : List Dependency) → have_own_names ds ≡ false → have_own_names (before ++ ds) ≡ false
twice_front [] ds h = h
twice_front (d ∷ before) ds h = and_right (not (has_name d.name (before ++ ds))) (have_own_names (before ++ ds)) (twice_front before ds h)

pub twice_at : (ds : List Dependency) (i : ℕ) (d : Dependency) → i < length ds → has_name (get_or ds i d).name (drop (i + 1) ds) ≡ true → have_own_names ds ≡ false
twice_at ds i d within twice =
    let last : have_own_names (drop i ds) ≡ false = rw (drop_more ds i d within) (twice_step (get_or ds i d) (drop (i + 1) ds) twice) in
    rw (← take-append-drop i ds) (twice_front (take i ds) (drop i ds) last)

bytes_eq-sym : (xs ys : List ℕ) → bytes_eq xs ys ≡ bytes_eq ys xs
bytes_eq-sym xs ys =
    let there = bytes_eq-Decides xs ys in
    let back = bytes_eq-Decides ys xs in
    elim (cases_Bool (bytes_eq xs ys)) [
      | inl same ↦ same ∙ sym (back.1 (sym (there.0 same)))
      | inr other ↦ other ∙ sym (false_from_ne_true (bytes_eq ys xs) (λ h. false≢true (sym other ∙ there.1 (sym (back.0 h)))))
    ]

pick : (b : Bool) (o : Option (Unit {0})) → is_some (cond b (Some tt) o) ≡ (b || is_some o)
pick true o = refl
pick false o = refl

-- a name more is seen
pub seen_more : (ds : List Dependency) (i : ℕ) (d : Dependency) (key : List ℕ) (old new : BTreeMap (Bor (List ℕ)) (Unit {0})) → i < length ds → key ≡ (get_or ds i d).name
    → tree.UpdatesBy (λ x y. slice_cmp nat_cmp x.now y.now) (λ k. slice_cmp nat_cmp key k.now) old new (Some tt)
    → ((name : List ℕ) → is_some (finds name old) ≡ has_name name (drop (i + 1) ds))
    → (name : List ℕ) → is_some (finds name new) ≡ has_name name (drop i ds)
seen_more ds i d key old new within is updates seen name =
    ap is_some (btree_map_updates_str key old new (Some tt) updates name)
    ∙ pick (bytes_eq key name) (finds name old)
    ∙ rw (bytes_eq-sym key name, is, seen name) (sym (at_drop_more (has_name name) ds i d within))
