-- The tests of the code are the definitions.
use Rattle.std.proofs.Common.{◌≡◌, ℕ, zero, suc, ◌&&◌, ◌||◌, Bool, true, false, [], ◌∷◌, ◌++◌, Option, Some, None, refl, sym, ◌∙◌, ap, subst, IsTrue, IfOk, Result, Ok, Err, ◌↔◌}
use Rattle.em_base.specs.declared.token.Token.{Token}
use Rattle.em_macro.specs.declared.starters.Starter.TheVariants as s
use Rattle.em_macro.specs.declared.rules.Specifier.{Specifier}
use Rattle.em_macro.specs.declared.rules.Matcher.{out-Matcher}
use Rattle.em_macro.specs.declared.rules.Matcher.TheOpen.{Matcher-F}
use Rattle.em_tree.specs.Starts.{Pieces}
use Rattle.em_macro.specs.Match.{Matchers, Node, is_next, starts_at, at_end, is_sep, empty_node, empty_all, can_be_empty, first_node, first_all, first, Disjoint, continues, Solid, DecidableNode, DecidableAll, Decidable}
use Rattle.em_macro.specs.Sound.{may_follow, FollowedNode, FollowedAll, Followed}
use Rattle.em_macro.specs.Starters.{Starters, begins, begins_any, apart, all_follow, when, sep_list, continuing, firsts_node, firsts_all, firsts, is_solid, decides_node, decides_all, decides, followed_node, followed_all, followed}
use Rattle.em_macro.proofs.SameTokens.{clash, not_true, not_false, and_left, and_right, and_both}
use Rattle.em_macro.proofs.Overlaps.{apart_sound, apart_complete}
use Rattle.em_macro.proofs.FollowSets.{follow_sound, follow_complete}

-- a test on pieces is that of a list of starters
abbrev pub Lists : (Pieces → Bool) → Starters → Type 0
Lists f xs = (i : Pieces) → f i ≡ begins_any xs i

or_assoc : (a b c : Bool) → (a || (b || c)) ≡ ((a || b) || c)
or_assoc true b c = refl
or_assoc false b c = refl

or_false : (a : Bool) → a ≡ (a || false)
or_false true = refl
or_false false = refl

both_or : (a b c d : Bool) → a ≡ c → b ≡ d → (a || b) ≡ (c || d)
both_or a b c d x y = ap (λ v. v || b) x ∙ ap (λ v. c || v) y

any_append : (xs ys : Starters) (i : Pieces) → (begins_any xs i || begins_any ys i) ≡ begins_any (xs ++ ys) i
any_append [] ys i = refl
any_append (x ∷ xs) ys i = sym (or_assoc (begins x i) (begins_any xs i) (begins_any ys i)) ∙ ap (λ b. begins x i || b) (any_append xs ys i)

any_when : (b : Bool) (f : Bool) (xs : Starters) (i : Pieces) → f ≡ begins_any xs i → (b && f) ≡ begins_any (when b xs) i
any_when true f xs i is = is
any_when false f xs i is = refl

sep_lists : (sep : Option Token) → Lists (is_sep sep) (sep_list sep)
sep_lists None i = refl
sep_lists (Some t) i = or_false (is_next t i)

continues_lists : (f : Pieces → Bool) (xs : Starters) (sep : Option Token) → Lists f xs → Lists (continues f sep) (continuing xs sep)
continues_lists f xs None is i = is i
continues_lists f xs (Some t) is i = or_false (is_next t i)

append_lists : (f g : Pieces → Bool) (xs ys : Starters) → Lists f xs → Lists g ys → Lists (λ i. f i || g i) (xs ++ ys)
append_lists f g xs ys a b i = both_or (f i) (g i) (begins_any xs i) (begins_any ys i) (a i) (b i) ∙ any_append xs ys i

module _ (empty : Matchers → Bool) (inner : Matchers → Pieces → Bool) (listed : Matchers → Starters) (is : (ms : Matchers) → Lists (inner ms) (listed ms)) where
  node_lists : (l : Node) → Lists (first_node empty inner l) (firsts_node empty listed l)
  node_lists (Matcher-F.Token t) i = or_false (is_next t i)
  node_lists (Matcher-F.Fragment n kind) i = or_false (starts_at kind i)
  node_lists (Matcher-F.Delimited o body c) i = or_false (is_next o i)
  node_lists (Matcher-F.Repeat body sep plus) i =
      append_lists (inner body) (λ j. empty body && is_sep sep j) (listed body) (when (empty body) (sep_list sep)) (is body)
      (λ j. any_when (empty body) (is_sep sep j) (sep_list sep) j (sep_lists sep j)) i

  all_lists : (ms : Matchers) → Lists (first_all empty inner ms) (firsts_all empty listed ms)
  all_lists [] i = refl
  all_lists (m ∷ ms) i =
      append_lists (first_node empty inner (out-Matcher m)) (λ j. empty_node empty (out-Matcher m) && first_all empty inner ms j)
      (firsts_node empty listed (out-Matcher m)) (when (empty_node empty (out-Matcher m)) (firsts_all empty listed ms)) (node_lists (out-Matcher m))
      (λ j. any_when (empty_node empty (out-Matcher m)) (first_all empty inner ms j) (firsts_all empty listed ms) j (all_lists ms j)) i

first_lists : (depth : ℕ) (ms : Matchers) → Lists (first depth ms) (firsts depth ms)
unfolding first firsts
first_lists zero ms i = refl
first_lists (suc depth) ms i = all_lists (can_be_empty depth) (first depth) (firsts depth) (first_lists depth) ms i

-- ---- a test that is true exactly where a fact holds

abbrev pub Tells : Bool → Type 0 → Type 0
Tells b P = (b ≡ true → P) × (P → b ≡ true)

tells_apart : (f g : Pieces → Bool) (xs ys : Starters) → Lists f xs → Lists g ys → Tells (apart xs ys) (Disjoint f g)
tells_apart f g xs ys a b =
    (λ h i c d. apart_sound xs ys h i (sym (a i) ∙ c) (sym (b i) ∙ d), λ h. apart_complete xs ys (λ i c d. h i (a i ∙ c) (b i ∙ d)))

tells_followed : (k : Specifier) (g : Pieces → Bool) (ys : Starters) → Lists g ys → Tells (all_follow k ys) ((i : Pieces) → g i ≡ true → may_follow k i ≡ true)
tells_followed k g ys b = (λ h i c. follow_sound k ys i h (sym (b i) ∙ c), λ h. follow_complete k ys (λ i c. h i (b i ∙ c)))

tells_solid : (sep : Option Token) (plus empty : Bool) → Tells (is_solid sep plus empty) (Solid sep plus empty)
tells_solid (Some t) true empty = (λ h. tt, λ h. refl)
tells_solid (Some t) false empty = (λ h. not_true empty h, λ h. not_false empty h)
tells_solid None plus empty = (λ h. not_true empty h, λ h. not_false empty h)

tells_star : (plus b : Bool) (P : Type 0) → Tells b P → Tells (plus || b) (plus ≡ false → P)
tells_star true b P t = (λ h is. absurd (clash true refl is), λ h. refl)
tells_star false b P t = (λ h is. t.0 h, λ h. t.1 (h refl))

tells_both : (a b : Bool) (P Q : Type 0) → Tells a P → Tells b Q → Tells (a && b) (P × Q)
tells_both a b P Q x y = (λ h. (x.0 (and_left a b h), y.0 (and_right a b h)), λ h. and_both a b (x.1 h.0) (y.1 h.1))

module _ (empty : Matchers → Bool) (begin : Matchers → Pieces → Bool) (listed : Matchers → Starters) (is : (ms : Matchers) → Lists (begin ms) (listed ms)) where
  abbrev after : Matchers → (Pieces → Bool) → Pieces → Bool
  after ms follow i = first_all empty begin ms i || (empty_all empty ms && follow i)

  abbrev behind : Matchers → Starters → Starters
  behind ms fs = firsts_all empty listed ms ++ when (empty_all empty ms) fs

  behind_lists : (ms : Matchers) (follow : Pieces → Bool) (fs : Starters) → Lists follow fs → Lists (after ms follow) (behind ms fs)
  behind_lists ms follow fs same = append_lists (first_all empty begin ms) (λ i. empty_all empty ms && follow i) (firsts_all empty listed ms) (when (empty_all empty ms) fs)
      (all_lists empty begin listed is ms) (λ i. any_when (empty_all empty ms) (follow i) fs i (same i))

  -- a test of a list of starters, and what it is a test of
  abbrev Told : (Matchers → Starters → Bool) → (Matchers → (Pieces → Bool) → Type 0) → Type 0
  Told inner P = (ms : Matchers) (follow : Pieces → Bool) (fs : Starters) → Lists follow fs → Tells (inner ms fs) (P ms follow)

  module _ (inner : Matchers → Starters → Bool) (D : Matchers → (Pieces → Bool) → Type 0) (told : Told inner D) where
    decides_tells : (l : Node) (follow : Pieces → Bool) (fs : Starters) → Lists follow fs → Tells (decides_node listed empty inner l fs) (DecidableNode begin empty D l follow)
    decides_tells (Matcher-F.Token t) follow fs same = (λ h. tt, λ h. refl)
    decides_tells (Matcher-F.Fragment n kind) follow fs same = (λ h. tt, λ h. refl)
    decides_tells (Matcher-F.Delimited o body c) follow fs same = told body (is_next c) (s.Next c ∷ []) (λ i. or_false (is_next c i))
    decides_tells (Matcher-F.Repeat body sep plus) follow fs same =
        let a : Tells (apart (continuing (listed body) sep) fs) (Disjoint (continues (begin body) sep) follow)
        = tells_apart (continues (begin body) sep) follow (continuing (listed body) sep) fs (continues_lists (begin body) (listed body) sep (is body)) same in
        let b : Tells (plus || apart (listed body) fs) (plus ≡ false → Disjoint (begin body) follow)
        = tells_star plus (apart (listed body) fs) (Disjoint (begin body) follow) (tells_apart (begin body) follow (listed body) fs (is body) same) in
        let c : Tells (is_solid sep plus (empty body)) (Solid sep plus (empty body)) = tells_solid sep plus (empty body) in
        let d : Tells (inner body (continuing (listed body) sep ++ fs)) (D body (λ i. continues (begin body) sep i || follow i))
        = told body (λ i. continues (begin body) sep i || follow i) (continuing (listed body) sep ++ fs)
        (append_lists (continues (begin body) sep) follow (continuing (listed body) sep) fs (continues_lists (begin body) (listed body) sep (is body)) same) in
        four (apart (continuing (listed body) sep) fs) (plus || apart (listed body) fs) (is_solid sep plus (empty body)) (inner body (continuing (listed body) sep ++ fs))
        (Disjoint (continues (begin body) sep) follow) (plus ≡ false → Disjoint (begin body) follow) (Solid sep plus (empty body))
        (D body (λ i. continues (begin body) sep i || follow i)) a b c d
      where
        four : (a b c d : Bool) (A B C P : Type 0) → Tells a A → Tells b B → Tells c C → Tells d P → Tells (a && (b && (c && d))) (P × A × B × C)
        four a b c d A B C P x y z w = (
          λ h. (
            w.0 (and_right c d (and_right b (c && d) (and_right a (b && (c && d)) h))),
            x.0 (and_left a (b && (c && d)) h),
            y.0 (and_left b (c && d) (and_right a (b && (c && d)) h)),
            z.0 (and_left c d (and_right b (c && d) (and_right a (b && (c && d)) h))),
          ),
          λ h. and_both a (b && (c && d)) (x.1 h.1) (and_both b (c && d) (y.1 h.2) (and_both c d (z.1 h.3) (w.1 h.0))),
        )

    decides_told : (ms : Matchers) (follow : Pieces → Bool) (fs : Starters) → Lists follow fs → Tells (decides_all listed empty inner ms fs) (DecidableAll begin empty D ms follow)
    decides_told [] follow fs same = (λ h. tt, λ h. refl)
    decides_told (m ∷ ms) follow fs same =
        tells_both (decides_node listed empty inner (out-Matcher m) (behind ms fs)) (decides_all listed empty inner ms fs)
        (DecidableNode begin empty D (out-Matcher m) (after ms follow)) (DecidableAll begin empty D ms follow)
        (decides_tells (out-Matcher m) (after ms follow) (behind ms fs) (behind_lists ms follow fs same)) (decides_told ms follow fs same)

  module _ (inner : Matchers → Starters → Bool) (F : Matchers → (Pieces → Bool) → Type 0) (told : Told inner F) where
    followed_tells : (l : Node) (follow : Pieces → Bool) (fs : Starters) → Lists follow fs → Tells (followed_node inner l fs) (FollowedNode F l follow)
    followed_tells (Matcher-F.Token t) follow fs same = (λ h. tt, λ h. refl)
    followed_tells (Matcher-F.Fragment n kind) follow fs same = tells_followed kind follow fs same
    followed_tells (Matcher-F.Delimited o body c) follow fs same = told body (is_next c) (s.Next c ∷ []) (λ i. or_false (is_next c i))
    followed_tells (Matcher-F.Repeat body sep plus) follow fs same =
        told body (λ i. is_sep sep i || follow i) (sep_list sep ++ fs) (append_lists (is_sep sep) follow (sep_list sep) fs (sep_lists sep) same)

    followed_told : (ms : Matchers) (follow : Pieces → Bool) (fs : Starters) → Lists follow fs → Tells (followed_all listed empty inner ms fs) (FollowedAll begin empty F ms follow)
    followed_told [] follow fs same = (λ h. tt, λ h. refl)
    followed_told (m ∷ ms) follow fs same =
        tells_both (followed_node inner (out-Matcher m) (behind ms fs)) (followed_all listed empty inner ms fs)
        (FollowedNode F (out-Matcher m) (after ms follow)) (FollowedAll begin empty F ms follow)
        (followed_tells (out-Matcher m) (after ms follow) (behind ms fs) (behind_lists ms follow fs same)) (followed_told ms follow fs same)

decides_tell : (depth : ℕ) (ms : Matchers) (follow : Pieces → Bool) (fs : Starters) → Lists follow fs → Tells (decides depth ms fs) (Decidable depth ms follow)
unfolding decides Decidable
decides_tell zero ms follow fs same = (λ h. tt, λ h. refl)
decides_tell (suc depth) ms follow fs same =
    decides_told (can_be_empty depth) (first depth) (firsts depth) (first_lists depth) (decides depth) (Decidable depth) (decides_tell depth) ms follow fs same

followed_tell : (depth : ℕ) (ms : Matchers) (follow : Pieces → Bool) (fs : Starters) → Lists follow fs → Tells (followed depth ms fs) (Followed depth ms follow)
unfolding followed Followed
followed_tell zero ms follow fs same = (λ h. tt, λ h. refl)
followed_tell (suc depth) ms follow fs same =
    followed_told (can_be_empty depth) (first depth) (firsts depth) (first_lists depth) (followed depth) (Followed depth) (followed_tell depth) ms follow fs same

end_lists : (fs : Starters) → fs ≡ s.End ∷ [] → Lists at_end fs
end_lists fs is = subst (λ l. Lists at_end l) (sym is) (λ i. or_false (at_end i))

pub decides_end : (depth : ℕ) (ms : Matchers) (fs : Starters) → fs ≡ s.End ∷ [] → Tells (decides depth ms fs) (Decidable depth ms at_end)
decides_end depth ms fs is = decides_tell depth ms at_end fs (end_lists fs is)

pub followed_end : (depth : ℕ) (ms : Matchers) (fs : Starters) → fs ≡ s.End ∷ [] → Tells (followed depth ms fs) (Followed depth ms at_end)
followed_end depth ms fs is = followed_tell depth ms at_end fs (end_lists fs is)

-- the answer of a test
pub told_by : {E : Type 0} (r : Result Bool E) (c : Bool) (P : Type 0) → IfOk r (λ b. b ≡ c) → Tells c P → IfOk r (λ b. IsTrue b ↔ P)
told_by (Ok b) c P is t = (λ h. t.0 (sym is ∙ h), λ h. is ∙ t.1 h)
told_by (Err e) c P is t = tt
