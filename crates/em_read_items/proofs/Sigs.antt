-- What is ahead in the head of a function.
use Rattle.std.proofs.Common.{◌≡◌, Bool, true, false, ◌&&◌, if◌then◌else◌, List, [], ◌∷◌, ◌++◌, map, Option, Some, None, refl, sym, ◌∙◌, ap}
use Rattle.em_base.specs.declared.edition.Edition.{Edition}
use Rattle.em_base.specs.declared.token.Token.{Token}
use Rattle.em_tree.specs.declared.piece.Piece.TheVariants as p
use Rattle.em_tree.specs.Starts.{Pieces}
use Rattle.em_tree.specs.Tokens.{before_2018}
use Rattle.em_tree.specs.ItemGrammar.{starts_before_2018}
use Rattle.em_grammar.specs.declared.sort.Written.TheVariants as word
use Rattle.em_grammar.specs.Sets.{next, is_sign}
use Rattle.em_grammar.specs.Reader.{Read, Found, Absent, and_then, or_stay, seq, opt}
use Rattle.em_grammar.specs.ItemReader.{mark, self_of, self_end, self_ahead, stands_before}
use Rattle.em_read_items.specs.Items.{past, is_self}
use Rattle.em_read_types.specs.TypeParts.{edition_of}

-- ---- receivers

abbrev after_mut : Option Token → Option Token → Read Token → Bool
after_mut a b r =
    stands_before self_end (and_then (and_then (and_then r (λ c s. Found (b, c) s)) (λ t s. Found (a, t) s)) (λ t s. Found (self_of t) s))

abbrev after_amp : Option Token → Read (Option Token) → Bool
after_amp a r =
    stands_before self_end (and_then (and_then (and_then r (λ b i. and_then (mark word.SelfValue i) (λ c s. Found (b, c) s))) (λ t s. Found (a, t) s)) (λ t s. Found (self_of t) s))

abbrev before_amp : Read (Option Token) → Bool
before_amp r =
    stands_before self_end (and_then (and_then r (λ a i. and_then (seq (opt (mark word.Mut)) (mark word.SelfValue) i) (λ t s. Found (a, t) s))) (λ t s. Found (self_of t) s))

word_by : (a b : Option Token) (t : Token) (r : Pieces) (is : Bool) → after_mut a b (if is then Found t r else Absent) ≡ is && next self_end r
word_by a b t r true = refl
word_by a b t r false = refl

at_word : (a b : Option Token) (i : Pieces) → after_mut a b (mark word.SelfValue i) ≡ is_self i
at_word a b [] = refl
at_word a b (p.Group g ∷ r) = refl
at_word a b (p.Token t ∷ r) = word_by a b t r (is_sign word.SelfValue t)

mut_by : (a : Option Token) (t : Token) (r : Pieces) (is : Bool)
    → after_amp a (or_stay (if is then Found t r else Absent) (λ x s. Found (Some x) s) (Found None (p.Token t ∷ r))) ≡ is_self (if is then r else (p.Token t ∷ r))
mut_by a t r true = at_word a (Some t) r
mut_by a t r false = at_word a None (p.Token t ∷ r)

at_mut : (a : Option Token) (i : Pieces) → after_amp a (opt (mark word.Mut) i) ≡ is_self (past word.Mut i)
at_mut a [] = refl
at_mut a (p.Group g ∷ r) = refl
at_mut a (p.Token t ∷ r) = mut_by a t r (is_sign word.Mut t)

amp_by : (t : Token) (r : Pieces) (is : Bool)
    → before_amp (or_stay (if is then Found t r else Absent) (λ x s. Found (Some x) s) (Found None (p.Token t ∷ r))) ≡ is_self (past word.Mut (if is then r else (p.Token t ∷ r)))
amp_by t r true = at_mut (Some t) r
amp_by t r false = at_mut None (p.Token t ∷ r)

pub self_ahead_by : (i : Pieces) → self_ahead i ≡ is_self (past word.Mut (past word.And i))
self_ahead_by [] = refl
self_ahead_by (p.Group g ∷ r) = refl
self_ahead_by (p.Token t ∷ r) = amp_by t r (is_sign word.And t)

-- ---- the first token

abbrev edition_or : Edition → Option Edition → Edition
edition_or d None = d
edition_or d (Some e) = e

pub old_none : (ts : List Token) → edition_of ts ≡ None → starts_before_2018 ts ≡ false
old_none [] is = refl
old_none (t ∷ ts) is = cc

pub old_some : (ts : List Token) (e : Edition) → edition_of ts ≡ Some e → starts_before_2018 ts ≡ before_2018 e
old_some [] e is = cc
old_some (t ∷ ts) e is = ap (λ k. before_2018 (edition_or t.edition k)) is
