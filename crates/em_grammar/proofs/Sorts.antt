-- What is found in the table of words is what the definition finds.
use Rattle.std.proofs.Common.{◌≡◌, ℕ, zero, suc, ◌<◌, Bool, true, false, if◌then◌else◌, List, [], ◌∷◌, length, refl, sym, ap, ◌∙◌, subst, arith, inl, inr, Option, Some, None, slice_get, map}
use Rattle.std.proofs.lemmas.Bool.{cases_Bool}
use Rattle.std.specs.Str.{bytes_eq}
use Rattle.std.specs.Prelude.{Contains, slice_index_or}
use Rattle.std.specs.Cmp.Lexicographic.{bytes_decides}
use Rattle.em_grammar.specs.declared.sort.Written.{Written}
use Rattle.em_grammar.specs.declared.sort.Written.TheVariants as w
use Rattle.em_grammar.specs.Sorts.{text_of, the_written, first_written, written_of}

-- what is found is written so
pub first_is_so : (text : List ℕ) (xs : List Written) (x : Written) → first_written text xs ≡ Some x → text_of x ≡ text
first_is_so text [] x h = cc
first_is_so text (y ∷ ys) x h =
    elim (cases_Bool (bytes_eq (text_of y) text)) [
      | inl same ↦ let is : y ≡ x = found_here y x (bytes_eq (text_of y) text) (first_written text ys) same h in subst (λ z. text_of z ≡ text) is ((bytes_decides (text_of y) text).0 same)
      | inr other ↦ first_is_so text ys x (sym (ap (λ b. if b then Some y else first_written text ys) other) ∙ h)
    ]
  where
    found_here : (y x : Written) (b : Bool) (r : Option Written) → b ≡ true → (if b then Some y else r) ≡ Some x → y ≡ x
    found_here y x true r e h = cc
    found_here y x false r e h = cc

pub written_is_so : (text : List ℕ) (x : Written) → written_of text ≡ Some x → text_of x ≡ text
unfolding written_of
written_is_so text x h = first_is_so text the_written x h

-- each is found by its own text
pub finds_own : (x : Written) → written_of (text_of x) ≡ Some x
unfolding written_of
finds_own w.Not = refl
finds_own w.Ne = refl
finds_own w.Pound = refl
finds_own w.Dollar = refl
finds_own w.Percent = refl
finds_own w.PercentEq = refl
finds_own w.And = refl
finds_own w.AndAnd = refl
finds_own w.AndEq = refl
finds_own w.OpenParen = refl
finds_own w.CloseParen = refl
finds_own w.Star = refl
finds_own w.StarEq = refl
finds_own w.Plus = refl
finds_own w.PlusEq = refl
finds_own w.Comma = refl
finds_own w.Minus = refl
finds_own w.MinusEq = refl
finds_own w.RArrow = refl
finds_own w.Dot = refl
finds_own w.DotDot = refl
finds_own w.DotDotDot = refl
finds_own w.DotDotEq = refl
finds_own w.Slash = refl
finds_own w.SlashEq = refl
finds_own w.Colon = refl
finds_own w.PathSep = refl
finds_own w.Semi = refl
finds_own w.Lt = refl
finds_own w.LArrow = refl
finds_own w.Shl = refl
finds_own w.ShlEq = refl
finds_own w.Le = refl
finds_own w.Eq = refl
finds_own w.EqEq = refl
finds_own w.FatArrow = refl
finds_own w.Gt = refl
finds_own w.Ge = refl
finds_own w.Shr = refl
finds_own w.ShrEq = refl
finds_own w.Question = refl
finds_own w.At = refl
finds_own w.SelfType = refl
finds_own w.OpenBracket = refl
finds_own w.CloseBracket = refl
finds_own w.Caret = refl
finds_own w.CaretEq = refl
finds_own w.Underscore = refl
finds_own w.As = refl
finds_own w.Break = refl
finds_own w.Const = refl
finds_own w.Continue = refl
finds_own w.Crate = refl
finds_own w.Else = refl
finds_own w.Enum = refl
finds_own w.Extern = refl
finds_own w.False = refl
finds_own w.Fn = refl
finds_own w.For = refl
finds_own w.If = refl
finds_own w.Impl = refl
finds_own w.In = refl
finds_own w.Let = refl
finds_own w.Loop = refl
finds_own w.Match = refl
finds_own w.Mod = refl
finds_own w.Move = refl
finds_own w.Mut = refl
finds_own w.Pub = refl
finds_own w.Ref = refl
finds_own w.Return = refl
finds_own w.SelfValue = refl
finds_own w.Static = refl
finds_own w.Struct = refl
finds_own w.Super = refl
finds_own w.Trait = refl
finds_own w.True = refl
finds_own w.Type = refl
finds_own w.Unsafe = refl
finds_own w.Use = refl
finds_own w.Where = refl
finds_own w.While = refl
finds_own w.OpenBrace = refl
finds_own w.Or = refl
finds_own w.OrEq = refl
finds_own w.OrOr = refl
finds_own w.CloseBrace = refl
finds_own w.Tilde = refl

pub finds_so : (text : List ℕ) (x : Written) → text_of x ≡ text → written_of text ≡ Some x
finds_so text x h = subst (λ t. written_of t ≡ Some x) h (finds_own x)

none_among : (text : List ℕ) (xs : List Written) → (Contains (map text_of xs) text → ⊥) → first_written text xs ≡ None
none_among text [] h = refl
none_among text (x ∷ xs) h =
    elim (cases_Bool (bytes_eq (text_of x) text)) [
      | inl same ↦ absurd (h (0, omega arith, (bytes_decides (text_of x) text).0 same))
      | inr other ↦ rw other (none_among text xs (λ found. h (suc found.0, omega (arith, found.1), found.2)))
    ]

pub finds_none : (text : List ℕ) → (Contains (map text_of the_written) text → ⊥) → written_of text ≡ None
unfolding written_of
finds_none text h = none_among text the_written h

at_text : (xs : List Written) (i : ℕ) (text : List ℕ) (d : Written) → slice_get (map text_of xs) i ≡ Some text → text_of (slice_index_or xs i d) ≡ text
at_text [] i text d h = cc
at_text (x ∷ xs) zero text d h = cc
at_text (x ∷ xs) (suc i) text d h = at_text xs i text d h

pub finds_at : (i : ℕ) (text : List ℕ) (d : Written) → slice_get (map text_of the_written) i ≡ Some text → written_of text ≡ Some (slice_index_or the_written i d)
finds_at i text d h = finds_so text (slice_index_or the_written i d) (at_text the_written i text d h)

-- ---- found at an index of the table

pub found_by : (texts' : List (List ℕ)) (all : List Written) (i : ℕ) (text : List ℕ) → texts' ≡ map text_of the_written → all ≡ the_written → slice_get texts' i ≡ Some text
    → Some (slice_index_or all i w.Not) ≡ written_of text
found_by texts' all i text same whole h =
    let found : written_of text ≡ Some (slice_index_or the_written i w.Not) = finds_at i text w.Not (subst (λ l. slice_get l i ≡ Some text) same h) in
    ap (λ l. Some (slice_index_or l i w.Not)) whole ∙ sym found

inside : (xs : List Written) (i : ℕ) (text : List ℕ) → slice_get (map text_of xs) i ≡ Some text → i < length xs
inside [] i text h = cc
inside (x ∷ xs) zero text h = omega arith
inside (x ∷ xs) (suc i) text h = let more : i < length xs = inside xs i text h in omega (arith, more)

pub index_inside : (texts' : List (List ℕ)) (i : ℕ) (text : List ℕ) → texts' ≡ map text_of the_written → slice_get texts' i ≡ Some text → i < 88
index_inside texts' i text same h = inside the_written i text (subst (λ l. slice_get l i ≡ Some text) same h)

pub absent_by : (texts' : List (List ℕ)) (text : List ℕ) → texts' ≡ map text_of the_written → (Contains texts' text → ⊥) → None ≡ written_of text
absent_by texts' text same h = sym (finds_none text (subst (λ l. Contains l text → ⊥) same h))
