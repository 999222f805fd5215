-- Macro calls and rules are read.
use Rattle.std.proofs.lemmas.List.{append-nil}
use Rattle.std.proofs.Common.{◌≡◌, ℕ, Bool, true, false, if◌then◌else◌, List, [], ◌∷◌, ◌++◌, Option, Some, None, refl, sym, ap, subst, ◌⊎◌, inl, inr}
use Rattle.std.specs.Prelude.{codes}
use Rattle.std.specs.Str.{bytes_eq}
use Rattle.std.specs.Cmp.Lexicographic.{bytes_decides}
use Rattle.em_base.specs.declared.token.Token.{Token}
use Rattle.em_tree.specs.declared.piece.Piece.TheVariants as p
use Rattle.em_tree.specs.Parts.{maybe}
use Rattle.em_tree.specs.Starts.{Pieces, spelling}
use Rattle.em_tree.specs.Tokens.{Is, Name, IsDelimited, Ends, Match}
use Rattle.em_tree.specs.Tokens as tk
use Rattle.em_tree.specs.Yields.{piece}
use Rattle.em_grammar.specs.declared.sort.Written.{Written}
use Rattle.em_grammar.specs.declared.sort.Written.TheVariants as word
use Rattle.em_grammar.specs.declared.sort.Weak.TheVariants as weak
use Rattle.em_grammar.specs.declared.sort.Kind.{Kind}
use Rattle.em_grammar.specs.Sorts.{written_of, class_of, sort_named, sort_by, sort_of}
use Rattle.em_grammar.specs.Sets.{tokens, others, either, any_of, name_sort}
use Rattle.em_grammar.specs.Lang.{Seq, Chain, Image, Or, one, two}
use Rattle.em_grammar.specs.TextReader.{opens_sort, delimited_pieces}
use Rattle.em_grammar.specs.ItemReader.{at, Finished, unended_of, ended_of, round_or_square, finished, rules_sort, macro_sort, MacroTail, macro_tail, macro_with, macro_of, macro_item}
use Rattle.em_grammar.specs.Pairs.{Pair, Test, Begins}
use Rattle.em_grammar.proofs.Pairs.{tok, seq_of, chain_of, tail_of, in_subset, next_others}
use Rattle.em_grammar.proofs.Forms.{image_of, or_of, same_of, when_of}
use Rattle.em_grammar.proofs.Tests as test
use Rattle.em_grammar.proofs.Tests.{sign, several, either_test}
use Rattle.em_grammar.proofs.TextPairs.{delimited_pair}
use Rattle.em_grammar.proofs.ItemTools.{starting_of, with_first}
use Rattle.em_grammar.proofs.ItemUsePairs.{body_pieces, free}

-- ---- texts

abbrev pub finished_pieces : Finished → Pieces
finished_pieces t = delimited_pieces t.0 ++ maybe piece t.1

abbrev pub Finish : ℕ → Finished → Type 0
Finish d t = IsDelimited t.0 × Ends t.0 t.1

abbrev BraceSide : ℕ → Finished → Type 0
BraceSide = Image unended_of (λ d x. IsDelimited x × Begins (at word.OpenBrace) (delimited_pieces x))

abbrev SemiSide : ℕ → Finished → Type 0
SemiSide = Image ended_of (Seq (λ d x. IsDelimited x × Begins round_or_square (delimited_pieces x)) (λ d. Is (codes ";")))

no_brace : (t : Token) → any_of (word.OpenParen ∷ word.OpenBracket ∷ []) (sort_of t) ≡ true → Is (codes "{") t → ⊥
no_brace t h is =
    let other : any_of (word.OpenParen ∷ word.OpenBracket ∷ []) (sort_of t) ≡ false
    = next_others round_or_square (p.Token t ∷ []) (in_subset (at word.OpenBrace) (others round_or_square) refl (p.Token t ∷ []) ((sign word.OpenBrace).sorted t is)) in
    cc

to_finish : (d : ℕ) (t : Finished) → Or BraceSide SemiSide d t → Finish d t
to_finish d t (inl m) = subst (λ t. Finish d t) (sym m.2) (m.1.0, inl ((sign word.OpenBrace).holds m.0.open m.1.1, refl))
to_finish d t (inr m) = subst (λ t. Finish d t) (sym m.2) (m.1.0.0, inr (no_brace m.0.0.open m.1.0.1, (m.0.1, refl, m.1.1)))

opens : (a b : Token) → Match a b → (Is (codes "{") a → ⊥) → any_of (word.OpenParen ∷ word.OpenBracket ∷ []) (sort_of a) ≡ true
opens a b (tk.Match.parens is e) n = in_subset (at word.OpenParen) round_or_square refl (p.Token a ∷ []) ((sign word.OpenParen).sorted a is)
opens a b (tk.Match.brackets is e) n = in_subset (at word.OpenBracket) round_or_square refl (p.Token a ∷ []) ((sign word.OpenBracket).sorted a is)
opens a b (tk.Match.braces is e) n = absurd (n is)

of_finish : (d : ℕ) (t : Finished) → Finish d t → Or BraceSide SemiSide d t
of_finish d (x, semi) (m, inl e) = inl (x, (m, (sign word.OpenBrace).sorted x.open e.0), ap (λ s. (x, s)) e.1)
of_finish d (x, semi) (m, inr e) = inr ((x, e.1.0), ((m, opens x.open x.close m.ends e.0), e.1.2), ap (λ s. (x, s)) e.1.1)

-- ---- the word of rules

rules_spelled : (o : Option (List ℕ)) (k : Kind) → rules_sort (sort_by o k) ≡ true → o ≡ Some (codes "macro_rules")
rules_spelled None k h = cc
rules_spelled (Some text) k h = go (written_of text) (bytes_eq text (codes "Box")) (bytes_eq text (codes "dyn")) (bytes_eq text (codes "macro_rules")) refl h
  where
    go : (m : Option Written) (b c d : Bool) → bytes_eq text (codes "macro_rules") ≡ d
        → rules_sort (sort_named m (if b then Some weak.Box else (if c then Some weak.Dyn else (if d then Some weak.MacroRules else None))) k) ≡ true → Some text ≡ Some (codes "macro_rules")
    go (Some y) b c d is h = cc
    go None true c d is h = cc
    go None false true d is h = cc
    go None false false true is h = ap (λ k. Some k) ((bytes_decides text (codes "macro_rules")).0 is)
    go None false false false is h = cc

rules_told : (t : Token) → Is (codes "macro_rules") t → rules_sort (sort_of t) ≡ true
unfolding sort_of written_of
rules_told t is = ap (λ o. rules_sort (sort_by o (class_of t))) is

rules_so : (t : Token) → rules_sort (sort_of t) ≡ true → Is (codes "macro_rules") t
unfolding sort_of
rules_so t h = rules_spelled (spelling t) (class_of t) h

pub rules_test : Test (Is (codes "macro_rules")) (λ t. rules_sort (sort_of t)) rules_sort
rules_test = record { holds = rules_so; told = rules_told; sorted = rules_told }

-- ---- calls and rules

abbrev pub MacroTails : Token → ℕ → MacroTail → Type 0
MacroTails w = Or (Image one (λ d t. (name_sort (sort_of w) ≡ true) × Finish d t)) (Image two (λ d t. (rules_sort (sort_of w) ≡ true) × Seq (λ d. Name) Finish d t))

abbrev macro_tail_pieces : MacroTail → Pieces
macro_tail_pieces (one t) = finished_pieces t
macro_tail_pieces (two t) = piece t.0 ++ finished_pieces t.1

module _ (H : Pieces → Type 0) (depth : ℕ) where
  finished_pair : Pair H depth Finish finished_pieces finished (tokens opens_sort) free
  finished_pair =
      with_first refl
      (same_of to_finish of_finish
      (or_of (image_of unended_of finished_pieces (λ d t m. append-nil (delimited_pieces t)) (λ _. refl) (starting_of (at word.OpenBrace) (λ d t m is. cc) (delimited_pair H depth)))
      (image_of ended_of finished_pieces (λ d t m. refl) (λ _. refl) (seq_of (starting_of round_or_square (λ d t m is. cc) (delimited_pair H depth)) (tok (sign word.Semi)) (λ _. refl))) refl))

  macro_tail_pair : (w : Token) → Pair H depth (MacroTails w) macro_tail_pieces (macro_tail w) (either (tokens opens_sort) (tokens name_sort)) free
  macro_tail_pair w =
      or_of (image_of one macro_tail_pieces (λ d t m. refl) (λ _. refl) (when_of (name_sort (sort_of w)) finished_pair))
      (image_of two macro_tail_pieces (λ d t m. refl) (λ _. refl) (when_of (rules_sort (sort_of w)) (seq_of (tok test.name) finished_pair (λ _. refl)))) refl

  pub macro_pair : Pair H depth (Image macro_of (Chain (λ d t. Name t ⊎ Is (codes "macro_rules") t) (λ w. Seq (λ d. Is (codes "!")) (MacroTails w)))) body_pieces macro_item (tokens macro_sort) free
  macro_pair =
      image_of macro_of body_pieces (λ d t m. same t.0 t.1.0 t.1.1) (λ _. refl)
      (chain_of {g = λ w. at word.Not} (tok (either_test test.name rules_test)) (λ w. tail_of (seq_of (tok (sign word.Not)) (macro_tail_pair w) (λ _. refl))) (λ _. refl))
    where
      same : (w b : Token) (u : MacroTail) → body_pieces (macro_with w b u) ≡ piece w ++ (piece b ++ macro_tail_pieces u)
      same w b (one t) = refl
      same w b (two t) = refl
