-- Which rules are sound: names are bound once, a transcriber's variables are bound, its matcher is decidable with one
-- token, and behind each fragment stands what may follow it (Reference, "Follow-set ambiguity restrictions").
use Rattle.std.specs.Prelude.{◌≡◌, ◌<◌, ℕ, zero, suc, ◌&&◌, ◌||◌, Bool, true, false, not, List, [], ◌∷◌, length, slice_index_or, Result, Ok, Err, codes}
use Rattle.std.specs.List.{list_all}
use Rattle.em_base.specs.declared.edition.Edition.{Edition}
use Rattle.em_base.specs.declared.edition.Edition.TheVariants.{E2021}
use Rattle.em_base.specs.declared.token.Token.{Token}
use Rattle.em_base.specs.Words.{is_among}
use Rattle.em_tree.specs.declared.piece.FragmentKind.{FragmentKind}
use Rattle.em_tree.specs.declared.piece.FragmentKind.TheVariants as f
use Rattle.em_tree.specs.declared.piece.Piece.TheVariants as p
use Rattle.em_tree.specs.Starts.{Pieces, kind_of, is_close, is_spelled}
use Rattle.em_macro.specs.declared.rules.Specifier.{Specifier}
use Rattle.em_macro.specs.declared.rules.Matcher.{out-Matcher}
use Rattle.em_macro.specs.declared.rules.Matcher.TheOpen.{Matcher-F}
use Rattle.em_macro.specs.declared.rules.Arm.{Arm}
use Rattle.em_macro.specs.declared.error.RulesError.{RulesError}
use Rattle.em_macro.specs.declared.error.RulesError.TheVariants as e
use Rattle.em_macro.specs.Match.{Name, Matchers, Node, names, first, first_all, empty_all, can_be_empty, is_next, is_sep, at_end, Decidable, levels}
use Rattle.em_macro.specs.Write.{uses}
use Rattle.em_macro.specs.Form.{Tokens, RulesText}

-- ---- names

-- no name stands twice
abbrev pub are_once : List Name → Bool
are_once [] = true
are_once (n ∷ ns) = not (is_among ns n) && are_once ns

-- each of the first names is one of the others
abbrev pub are_known : List Name → List Name → Bool
are_known used bound = list_all (is_among bound) used

-- ---- what may follow a fragment

abbrev pub after_expr : List (List ℕ)
after_expr = codes "=>" ∷ codes "," ∷ codes ";" ∷ []

abbrev pub after_type : List (List ℕ)
after_type =
    codes "{" ∷ codes "[" ∷ codes "," ∷ codes "=>" ∷ codes ":" ∷ codes "=" ∷ codes ">" ∷ codes ">>" ∷ codes ";" ∷ codes "|"
    ∷ codes "as" ∷ codes "where" ∷ []

-- a pattern that holds no `|` of its own
abbrev pub after_pattern : List (List ℕ)
after_pattern = codes "=>" ∷ codes "," ∷ codes "=" ∷ codes "|" ∷ codes "if" ∷ codes "in" ∷ []

abbrev pub after_alternatives : List (List ℕ)
after_alternatives = codes "=>" ∷ codes "," ∷ codes "=" ∷ codes "if" ∷ codes "in" ∷ []

-- a `pat` of edition 2021 holds alternatives
abbrev pub after_pat : Edition → List (List ℕ)
after_pat E2021 = after_alternatives
after_pat _ = after_pattern

abbrev pub token_follows : FragmentKind → Edition → Token → Bool
token_follows f.Expr e t = is_spelled after_expr t
token_follows f.Stmt e t = is_spelled after_expr t
token_follows f.Ty e t = is_spelled after_type t
token_follows f.Path e t = is_spelled after_type t
token_follows f.Pat e t = is_spelled (after_pat e) t
token_follows f.PatParam e t = is_spelled after_pattern t
token_follows _ e t = true

abbrev pub is_block : FragmentKind → Bool
is_block f.Block = true
is_block _ = false

-- the first kind is the fragment's, the second that of a group
abbrev pub group_follows : FragmentKind → FragmentKind → Bool
group_follows f.Expr g = false
group_follows f.Stmt g = false
group_follows f.Ty g = is_block g
group_follows f.Path g = is_block g
group_follows f.Pat g = false
group_follows f.PatParam g = false
group_follows _ g = true

-- the end and a closing delimiter may follow every fragment
abbrev pub may_follow : Specifier → Pieces → Bool
may_follow kind [] = true
may_follow kind (p.Token t ∷ r) = is_close t || token_follows kind.kind kind.edition t
may_follow kind (p.Group g ∷ r) = group_follows kind.kind (kind_of g)

-- Behind the last fragment of a repetition comes the separator, if it has one, or what stands behind the repetition, as
-- rustc has it. The Reference's appendix "Macro Follow-Set Ambiguity Formal Specification" asks more of a repetition without
-- a separator, that its last is followed by what it begins with; rustc doesn't.
module _ (Inner : Matchers → (Pieces → Bool) → Type 0) where
  -- what follows is `follow`
  abbrev pub FollowedNode : Node → (Pieces → Bool) → Type 0
  FollowedNode (Matcher-F.Token t) follow = Unit {0}
  FollowedNode (Matcher-F.Fragment n kind) follow = (i : Pieces) → follow i ≡ true → may_follow kind i ≡ true
  FollowedNode (Matcher-F.Delimited o body c) follow = Inner body (is_next c)
  FollowedNode (Matcher-F.Repeat body sep plus) follow = Inner body (λ i. is_sep sep i || follow i)

module _ (first_in : Matchers → Pieces → Bool) (empty_in : Matchers → Bool) (Inner : Matchers → (Pieces → Bool) → Type 0) where
  abbrev pub FollowedAll : Matchers → (Pieces → Bool) → Type 0
  FollowedAll [] follow = Unit {0}
  FollowedAll (m ∷ ms) follow = FollowedNode Inner (out-Matcher m) (λ i. first_all empty_in first_in ms i || (empty_all empty_in ms && follow i)) × FollowedAll ms follow

-- each fragment of the matcher is followed by what may follow it, where what follows the matcher is `follow`
unfoldable pub Followed : ℕ → Matchers → (Pieces → Bool) → Type 0
Followed zero ms follow = Unit {0}
Followed (suc depth) ms follow = FollowedAll (first depth) (can_be_empty depth) (Followed depth) ms follow

-- ---- rules

abbrev pub IsSound : Arm → Type 0
IsSound arm =
    (are_once (names levels arm.matcher) ≡ true) × (are_known (uses levels arm.transcriber) (names levels arm.matcher) ≡ true)
    × Decidable levels arm.matcher at_end × Followed levels arm.matcher at_end

abbrev pub AreSound : List Arm → Type 0
AreSound arms = (k : ℕ) (d : Arm) → k < length arms → IsSound (slice_index_or arms k d)

-- the text is that of these rules
abbrev pub IsRules : List Arm → Tokens → Type 0
IsRules arms text = RulesText arms text × AreSound arms

-- the text is that of no rules, exactly where it is bad. Want of memory says nothing
abbrev pub BadText : {T : Type 0} → Tokens → Result T RulesError → Type 0
BadText text (Ok t) = Unit {0}
BadText text (Err e.Bad) = (arms : List Arm) → IsRules arms text → ⊥
BadText text (Err e.NoMemory) = Unit {0}
