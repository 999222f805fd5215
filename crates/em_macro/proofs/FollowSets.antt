-- What the test of follow sets tells: all pieces with which a starter begins may follow a fragment.
use Rattle.std.proofs.Common.{◌≡◌, ◌||◌, ◌⊎◌, inl, inr, Bool, true, false, not, [], ◌∷◌, refl, sym, ◌∙◌, ap, subst}
use Rattle.std.specs.List.{list_any}
use Rattle.em_base.specs.declared.edition.Edition.{Edition}
use Rattle.em_base.specs.declared.edition.Edition.TheVariants.{E2015, E2018, E2021}
use Rattle.em_base.specs.declared.token.Token.{Token}
use Rattle.em_tree.specs.declared.piece.FragmentKind.{FragmentKind}
use Rattle.em_tree.specs.declared.piece.FragmentKind.TheVariants as f
use Rattle.em_tree.specs.declared.piece.Piece.TheVariants as p
use Rattle.em_tree.specs.Starts.{Pieces, kind_of, pieces_of, is_bar, starts, starts_token, is_close, spelling, is_one_of}
use Rattle.em_macro.specs.declared.starters.Starter.{Starter}
use Rattle.em_macro.specs.declared.starters.Starter.TheVariants as s
use Rattle.em_macro.specs.declared.rules.Specifier.{Specifier}
use Rattle.em_macro.specs.Match.{is_next, starts_at}
use Rattle.em_macro.specs.Sound.{after_expr, after_type, after_pattern, after_pat, token_follows, is_block, group_follows, may_follow}
use Rattle.em_macro.specs.Starters.{Starters, begins, begins_any, kind_follows, follows, all_follow}
use Rattle.em_macro.proofs.SameTokens.{clash, and_left, and_right, and_both, or_left, or_right, or_cases, Alike, alike, same_itself}
use Rattle.em_macro.proofs.Overlaps.{a_name, a_truth, a_brace, name_at, truth_at, brace_at, brace_is, block_group}

-- whether a token may follow goes by its spelling
token_alike : (k : FragmentKind) (e : Edition) (u v : Token) → spelling u ≡ spelling v → token_follows k e u ≡ token_follows k e v
token_alike f.Ident e u v is = refl
token_alike f.Tt e u v is = refl
token_alike f.Literal e u v is = refl
token_alike f.Block e u v is = refl
token_alike f.Expr e u v is = ap (λ o. is_one_of after_expr o) is
token_alike f.Stmt e u v is = ap (λ o. is_one_of after_expr o) is
token_alike f.Ty e u v is = ap (λ o. is_one_of after_type o) is
token_alike f.Path e u v is = ap (λ o. is_one_of after_type o) is
token_alike f.Pat e u v is = ap (λ o. is_one_of (after_pat e) o) is
token_alike f.PatParam e u v is = ap (λ o. is_one_of after_pattern o) is
token_alike f.Item e u v is = refl

-- ---- sound

next_sound : (k : Specifier) (u : Token) (i : Pieces) → (is_close u || token_follows k.kind k.edition u) ≡ true → is_next u i ≡ true → may_follow k i ≡ true
next_sound k u [] h b = cc
next_sound k u (p.Token v ∷ i) h b =
    let a : Alike u v = alike u v b in
    ap (λ x. x || token_follows k.kind k.edition v) (sym a.1) ∙ ap (λ x. is_close u || x) (sym (token_alike k.kind k.edition u v a.4)) ∙ h
next_sound k u (x ∷ i) h b = cc

always : (b : Bool) → (b || true) ≡ true
always true = refl
always false = refl

block_token : (e : Edition) (v : Token) → starts_token f.Block e v ≡ true → is_one_of after_type (spelling v) ≡ true
unfolding starts_token
block_token e v h = ap (λ o. is_one_of after_type o) (brace_is v h).4

-- a block may follow a type and a path
block_sound : (k : Specifier) (e : Edition) (i : Pieces) → (k.kind ≡ f.Ty) ⊎ (k.kind ≡ f.Path) → starts f.Block e i ≡ true → may_follow k i ≡ true
unfolding starts
block_sound k e [] is h = cc
block_sound k e (p.Token v ∷ i) (inl is) h =
    ap (λ x. is_close v || token_follows x k.edition v) is ∙ or_right (is_close v) (token_follows f.Ty k.edition v) (block_token e v h)
block_sound k e (p.Token v ∷ i) (inr is) h =
    ap (λ x. is_close v || token_follows x k.edition v) is ∙ or_right (is_close v) (token_follows f.Path k.edition v) (block_token e v h)
block_sound k e (p.Group g ∷ i) is h =
    let b : kind_of g ≡ f.Block = block_group (kind_of g) (not (list_any is_bar (pieces_of g))) h in
    ap (λ x. group_follows k.kind x) b ∙ of_type is
  where
    of_type : (k.kind ≡ f.Ty) ⊎ (k.kind ≡ f.Path) → group_follows k.kind f.Block ≡ true
    of_type (inl is) = ap (λ x. group_follows x f.Block) is
    of_type (inr is) = ap (λ x. group_follows x f.Block) is

-- everything may follow the other kinds
free_sound : (k : Specifier) (i : Pieces) → ((e : Edition) (v : Token) → token_follows k.kind e v ≡ true) → ((g : FragmentKind) → group_follows k.kind g ≡ true) → may_follow k i ≡ true
free_sound k [] a b = refl
free_sound k (p.Token v ∷ i) a b = or_right (is_close v) (token_follows k.kind k.edition v) (a k.edition v)
free_sound k (p.Group g ∷ i) a b = b (kind_of g)

is_a_block : (l : FragmentKind) → is_block l ≡ true → l ≡ f.Block
is_a_block f.Ident h = cc
is_a_block f.Tt h = cc
is_a_block f.Literal h = cc
is_a_block f.Block h = refl
is_a_block f.Expr h = cc
is_a_block f.Stmt h = cc
is_a_block f.Ty h = cc
is_a_block f.Path h = cc
is_a_block f.Pat h = cc
is_a_block f.PatParam h = cc
is_a_block f.Item h = cc

kind_sound : (kind : FragmentKind) (k l : Specifier) (i : Pieces) → k.kind ≡ kind → kind_follows kind l.kind ≡ true → starts_at l i ≡ true → may_follow k i ≡ true
kind_sound f.Expr k l i is h b = cc
kind_sound f.Stmt k l i is h b = cc
kind_sound f.Pat k l i is h b = cc
kind_sound f.PatParam k l i is h b = cc
kind_sound f.Ty k l i is h b = block_sound k l.edition i (inl is) (subst (λ x. starts x l.edition i ≡ true) (is_a_block l.kind h) b)
kind_sound f.Path k l i is h b = block_sound k l.edition i (inr is) (subst (λ x. starts x l.edition i ≡ true) (is_a_block l.kind h) b)
kind_sound f.Ident k l i is h b = free_sound k i (λ e v. ap (λ x. token_follows x e v) is) (λ g. ap (λ x. group_follows x g) is)
kind_sound f.Tt k l i is h b = free_sound k i (λ e v. ap (λ x. token_follows x e v) is) (λ g. ap (λ x. group_follows x g) is)
kind_sound f.Literal k l i is h b = free_sound k i (λ e v. ap (λ x. token_follows x e v) is) (λ g. ap (λ x. group_follows x g) is)
kind_sound f.Block k l i is h b = free_sound k i (λ e v. ap (λ x. token_follows x e v) is) (λ g. ap (λ x. group_follows x g) is)
kind_sound f.Item k l i is h b = free_sound k i (λ e v. ap (λ x. token_follows x e v) is) (λ g. ap (λ x. group_follows x g) is)

one_sound : (k : Specifier) (x : Starter) (i : Pieces) → follows k x ≡ true → begins x i ≡ true → may_follow k i ≡ true
one_sound k (s.Next u) i h b = next_sound k u i h b
one_sound k (s.Begins l) i h b = kind_sound k.kind k l i refl h b
one_sound k s.End [] h b = refl
one_sound k s.End (x ∷ i) h b = cc

pub follow_sound : (k : Specifier) (xs : Starters) (i : Pieces) → all_follow k xs ≡ true → begins_any xs i ≡ true → may_follow k i ≡ true
follow_sound k [] i h b = cc
follow_sound k (x ∷ xs) i h b = pick (λ c. follow_sound k xs i (and_right (follows k x) (all_follow k xs) h) c) (or_cases (begins x i) (begins_any xs i) b)
  where
    pick : (begins_any xs i ≡ true → may_follow k i ≡ true) → (begins x i ≡ true) ⊎ (begins_any xs i ≡ true) → may_follow k i ≡ true
    pick go (inl c) = one_sound k x i (and_left (follows k x) (all_follow k xs) h) c
    pick go (inr c) = go c

-- ---- complete

-- a fragment whose start may follow another kind than these starts with a token that may
abbrev Starting : Specifier → Token → Type 0
Starting l u = starts_token l.kind l.edition u ≡ true

starts_with : (l : Specifier) (u : Token) → Starting l u → starts_at l (p.Token u ∷ []) ≡ true
unfolding starts
starts_with l u h = h

-- none of these three tokens may follow
abbrev Refuses : Specifier → Token → Type 0
Refuses k u = (is_close u || token_follows k.kind k.edition u) ≡ false

-- what a fragment starts with, may not follow
refused : (k l : Specifier) (u : Token) → Starting l u → Refuses k u → ((i : Pieces) → starts_at l i ≡ true → may_follow k i ≡ true) → ⊥
refused k l u a b h = clash (is_close u || token_follows k.kind k.edition u) (h (p.Token u ∷ []) (starts_with l u a)) b

no_fragment : (kind : FragmentKind) (k l : Specifier) → l.kind ≡ kind → Refuses k a_name → Refuses k a_truth → Refuses k a_brace
    → ((i : Pieces) → starts_at l i ≡ true → may_follow k i ≡ true) → ⊥
no_fragment f.Ident k l is a b d h = refused k l a_name (ap (λ x. starts_token x l.edition a_name) is ∙ name_at f.Ident l.edition refl) a h
no_fragment f.Tt k l is a b d h = refused k l a_name (ap (λ x. starts_token x l.edition a_name) is ∙ name_at f.Tt l.edition refl) a h
no_fragment f.Literal k l is a b d h = refused k l a_truth (ap (λ x. starts_token x l.edition a_truth) is ∙ truth_at f.Literal l.edition refl) b h
no_fragment f.Block k l is a b d h = refused k l a_brace (ap (λ x. starts_token x l.edition a_brace) is ∙ brace_at f.Block l.edition refl) d h
no_fragment f.Expr k l is a b d h = refused k l a_name (ap (λ x. starts_token x l.edition a_name) is ∙ name_at f.Expr l.edition refl) a h
no_fragment f.Stmt k l is a b d h = refused k l a_name (ap (λ x. starts_token x l.edition a_name) is ∙ name_at f.Stmt l.edition refl) a h
no_fragment f.Ty k l is a b d h = refused k l a_name (ap (λ x. starts_token x l.edition a_name) is ∙ name_at f.Ty l.edition refl) a h
no_fragment f.Path k l is a b d h = refused k l a_name (ap (λ x. starts_token x l.edition a_name) is ∙ name_at f.Path l.edition refl) a h
no_fragment f.Pat k l is a b d h = refused k l a_name (ap (λ x. starts_token x l.edition a_name) is ∙ name_at f.Pat l.edition refl) a h
no_fragment f.PatParam k l is a b d h = refused k l a_name (ap (λ x. starts_token x l.edition a_name) is ∙ name_at f.PatParam l.edition refl) a h
no_fragment f.Item k l is a b d h = refused k l a_name (ap (λ x. starts_token x l.edition a_name) is ∙ name_at f.Item l.edition refl) a h

-- no other fragment than a block may follow a type
only_block : (kind : FragmentKind) (k l : Specifier) → l.kind ≡ kind → Refuses k a_name → Refuses k a_truth
    → ((i : Pieces) → starts_at l i ≡ true → may_follow k i ≡ true) → is_block kind ≡ true
only_block f.Ident k l is a b h = absurd (refused k l a_name (ap (λ x. starts_token x l.edition a_name) is ∙ name_at f.Ident l.edition refl) a h)
only_block f.Tt k l is a b h = absurd (refused k l a_name (ap (λ x. starts_token x l.edition a_name) is ∙ name_at f.Tt l.edition refl) a h)
only_block f.Literal k l is a b h = absurd (refused k l a_truth (ap (λ x. starts_token x l.edition a_truth) is ∙ truth_at f.Literal l.edition refl) b h)
only_block f.Block k l is a b h = refl
only_block f.Expr k l is a b h = absurd (refused k l a_name (ap (λ x. starts_token x l.edition a_name) is ∙ name_at f.Expr l.edition refl) a h)
only_block f.Stmt k l is a b h = absurd (refused k l a_name (ap (λ x. starts_token x l.edition a_name) is ∙ name_at f.Stmt l.edition refl) a h)
only_block f.Ty k l is a b h = absurd (refused k l a_name (ap (λ x. starts_token x l.edition a_name) is ∙ name_at f.Ty l.edition refl) a h)
only_block f.Path k l is a b h = absurd (refused k l a_name (ap (λ x. starts_token x l.edition a_name) is ∙ name_at f.Path l.edition refl) a h)
only_block f.Pat k l is a b h = absurd (refused k l a_name (ap (λ x. starts_token x l.edition a_name) is ∙ name_at f.Pat l.edition refl) a h)
only_block f.PatParam k l is a b h = absurd (refused k l a_name (ap (λ x. starts_token x l.edition a_name) is ∙ name_at f.PatParam l.edition refl) a h)
only_block f.Item k l is a b h = absurd (refused k l a_name (ap (λ x. starts_token x l.edition a_name) is ∙ name_at f.Item l.edition refl) a h)

pat_refuses : (e : Edition) (u : Token) → is_one_of after_pattern (spelling u) ≡ false → is_one_of (after_pat E2021) (spelling u) ≡ false → is_close u ≡ false
    → (is_close u || token_follows f.Pat e u) ≡ false
pat_refuses E2015 u a b d = ap (λ x. x || is_one_of after_pattern (spelling u)) d ∙ a
pat_refuses E2018 u a b d = ap (λ x. x || is_one_of after_pattern (spelling u)) d ∙ a
pat_refuses E2021 u a b d = ap (λ x. x || is_one_of (after_pat E2021) (spelling u)) d ∙ b

kind_complete : (kind : FragmentKind) (k l : Specifier) → k.kind ≡ kind → ((i : Pieces) → starts_at l i ≡ true → may_follow k i ≡ true) → kind_follows kind l.kind ≡ true
kind_complete f.Expr k l is h = absurd (no_fragment l.kind k l refl (ap (λ x. token_follows x k.edition a_name) is) (ap (λ x. token_follows x k.edition a_truth) is) (ap (λ x. token_follows x k.edition a_brace) is) h)
kind_complete f.Stmt k l is h = absurd (no_fragment l.kind k l refl (ap (λ x. token_follows x k.edition a_name) is) (ap (λ x. token_follows x k.edition a_truth) is) (ap (λ x. token_follows x k.edition a_brace) is) h)
kind_complete f.PatParam k l is h = absurd (no_fragment l.kind k l refl (ap (λ x. token_follows x k.edition a_name) is) (ap (λ x. token_follows x k.edition a_truth) is) (ap (λ x. token_follows x k.edition a_brace) is) h)
kind_complete f.Pat k l is h =
    absurd (no_fragment l.kind k l refl (ap (λ x. token_follows x k.edition a_name) is ∙ pat_refuses k.edition a_name refl refl refl)
    (ap (λ x. token_follows x k.edition a_truth) is ∙ pat_refuses k.edition a_truth refl refl refl) (ap (λ x. token_follows x k.edition a_brace) is ∙ pat_refuses k.edition a_brace refl refl refl) h)
kind_complete f.Ty k l is h = only_block l.kind k l refl (ap (λ x. token_follows x k.edition a_name) is) (ap (λ x. token_follows x k.edition a_truth) is) h
kind_complete f.Path k l is h = only_block l.kind k l refl (ap (λ x. token_follows x k.edition a_name) is) (ap (λ x. token_follows x k.edition a_truth) is) h
kind_complete f.Ident k l is h = refl
kind_complete f.Tt k l is h = refl
kind_complete f.Literal k l is h = refl
kind_complete f.Block k l is h = refl
kind_complete f.Item k l is h = refl

one_complete : (k : Specifier) (x : Starter) → ((i : Pieces) → begins x i ≡ true → may_follow k i ≡ true) → follows k x ≡ true
one_complete k (s.Next u) h = h (p.Token u ∷ []) (same_itself u u refl refl)
one_complete k (s.Begins l) h = kind_complete k.kind k l refl h
one_complete k s.End h = refl

pub follow_complete : (k : Specifier) (xs : Starters) → ((i : Pieces) → begins_any xs i ≡ true → may_follow k i ≡ true) → all_follow k xs ≡ true
follow_complete k [] h = refl
follow_complete k (x ∷ xs) h =
    and_both (follows k x) (all_follow k xs) (one_complete k x (λ i b. h i (or_left (begins x i) (begins_any xs i) b)))
    (follow_complete k xs (λ i b. h i (or_right (begins x i) (begins_any xs i) b)))
