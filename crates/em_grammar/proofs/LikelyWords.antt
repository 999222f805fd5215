-- The tables have each word of the grammar, and each keyword, at its own number.
use Rattle.std.proofs.Common.{◌≡◌, ℕ, ◌%◌, ◌<◌, ◌≤◌, Bool, true, false, ◌&&◌, ◌||◌, if◌then◌else◌, List, [], ◌∷◌, length, get_or, refl, sym, ap, ◌∙◌, subst, arith, inl, inr, Option, Some, None, ◌==◌, nat_lt, nat_le}
use Rattle.std.proofs.lemmas.Bool.{cases_Bool, ltb-true, leb-true}
use Rattle.std.specs.Str.{bytes_eq}
use Rattle.std.specs.Cmp.Lexicographic.{bytes_decides}
use Rattle.em_base.specs.declared.edition.Edition.{Edition}
use Rattle.em_base.specs.declared.words.Class.TheVariants as class
use Rattle.em_base.specs.Words.{is_among, always, from_2018, class_of_new, class_of}
use Rattle.em_grammar.specs.declared.sort.Written.{Written}
use Rattle.em_grammar.specs.declared.sort.Written.TheVariants as w
use Rattle.em_grammar.specs.declared.likely.TheConstants.{LIKELY, NUMBERS, KEYWORDS}
use Rattle.em_grammar.specs.Sorts.{text_of, written_of}
use Rattle.em_grammar.specs.Sets.{all}
use Rattle.em_grammar.specs.Likely.{number_of, mark_of}
use Rattle.em_grammar.proofs.Sorts.{written_is_so, finds_so}
use Rattle.em_grammar.proofs.AllSorts.{and-left, and-right}

-- ---- the words and signs of the grammar

short : (x : Written) → (0 < length (text_of x)) × (length (text_of x) ≤ 8)
short w.Not = (omega arith, omega arith)
short w.Ne = (omega arith, omega arith)
short w.Pound = (omega arith, omega arith)
short w.Dollar = (omega arith, omega arith)
short w.Percent = (omega arith, omega arith)
short w.PercentEq = (omega arith, omega arith)
short w.And = (omega arith, omega arith)
short w.AndAnd = (omega arith, omega arith)
short w.AndEq = (omega arith, omega arith)
short w.OpenParen = (omega arith, omega arith)
short w.CloseParen = (omega arith, omega arith)
short w.Star = (omega arith, omega arith)
short w.StarEq = (omega arith, omega arith)
short w.Plus = (omega arith, omega arith)
short w.PlusEq = (omega arith, omega arith)
short w.Comma = (omega arith, omega arith)
short w.Minus = (omega arith, omega arith)
short w.MinusEq = (omega arith, omega arith)
short w.RArrow = (omega arith, omega arith)
short w.Dot = (omega arith, omega arith)
short w.DotDot = (omega arith, omega arith)
short w.DotDotDot = (omega arith, omega arith)
short w.DotDotEq = (omega arith, omega arith)
short w.Slash = (omega arith, omega arith)
short w.SlashEq = (omega arith, omega arith)
short w.Colon = (omega arith, omega arith)
short w.PathSep = (omega arith, omega arith)
short w.Semi = (omega arith, omega arith)
short w.Lt = (omega arith, omega arith)
short w.LArrow = (omega arith, omega arith)
short w.Shl = (omega arith, omega arith)
short w.ShlEq = (omega arith, omega arith)
short w.Le = (omega arith, omega arith)
short w.Eq = (omega arith, omega arith)
short w.EqEq = (omega arith, omega arith)
short w.FatArrow = (omega arith, omega arith)
short w.Gt = (omega arith, omega arith)
short w.Ge = (omega arith, omega arith)
short w.Shr = (omega arith, omega arith)
short w.ShrEq = (omega arith, omega arith)
short w.Question = (omega arith, omega arith)
short w.At = (omega arith, omega arith)
short w.SelfType = (omega arith, omega arith)
short w.OpenBracket = (omega arith, omega arith)
short w.CloseBracket = (omega arith, omega arith)
short w.Caret = (omega arith, omega arith)
short w.CaretEq = (omega arith, omega arith)
short w.Underscore = (omega arith, omega arith)
short w.As = (omega arith, omega arith)
short w.Break = (omega arith, omega arith)
short w.Const = (omega arith, omega arith)
short w.Continue = (omega arith, omega arith)
short w.Crate = (omega arith, omega arith)
short w.Else = (omega arith, omega arith)
short w.Enum = (omega arith, omega arith)
short w.Extern = (omega arith, omega arith)
short w.False = (omega arith, omega arith)
short w.Fn = (omega arith, omega arith)
short w.For = (omega arith, omega arith)
short w.If = (omega arith, omega arith)
short w.Impl = (omega arith, omega arith)
short w.In = (omega arith, omega arith)
short w.Let = (omega arith, omega arith)
short w.Loop = (omega arith, omega arith)
short w.Match = (omega arith, omega arith)
short w.Mod = (omega arith, omega arith)
short w.Move = (omega arith, omega arith)
short w.Mut = (omega arith, omega arith)
short w.Pub = (omega arith, omega arith)
short w.Ref = (omega arith, omega arith)
short w.Return = (omega arith, omega arith)
short w.SelfValue = (omega arith, omega arith)
short w.Static = (omega arith, omega arith)
short w.Struct = (omega arith, omega arith)
short w.Super = (omega arith, omega arith)
short w.Trait = (omega arith, omega arith)
short w.True = (omega arith, omega arith)
short w.Type = (omega arith, omega arith)
short w.Unsafe = (omega arith, omega arith)
short w.Use = (omega arith, omega arith)
short w.Where = (omega arith, omega arith)
short w.While = (omega arith, omega arith)
short w.OpenBrace = (omega arith, omega arith)
short w.Or = (omega arith, omega arith)
short w.OrEq = (omega arith, omega arith)
short w.OrOr = (omega arith, omega arith)
short w.CloseBrace = (omega arith, omega arith)
short w.Tilde = (omega arith, omega arith)

found : (x : Written) → get_or LIKELY (number_of (text_of x) % 256) w.Not ≡ x
unfolding number_of
found w.Not = refl
found w.Ne = refl
found w.Pound = refl
found w.Dollar = refl
found w.Percent = refl
found w.PercentEq = refl
found w.And = refl
found w.AndAnd = refl
found w.AndEq = refl
found w.OpenParen = refl
found w.CloseParen = refl
found w.Star = refl
found w.StarEq = refl
found w.Plus = refl
found w.PlusEq = refl
found w.Comma = refl
found w.Minus = refl
found w.MinusEq = refl
found w.RArrow = refl
found w.Dot = refl
found w.DotDot = refl
found w.DotDotDot = refl
found w.DotDotEq = refl
found w.Slash = refl
found w.SlashEq = refl
found w.Colon = refl
found w.PathSep = refl
found w.Semi = refl
found w.Lt = refl
found w.LArrow = refl
found w.Shl = refl
found w.ShlEq = refl
found w.Le = refl
found w.Eq = refl
found w.EqEq = refl
found w.FatArrow = refl
found w.Gt = refl
found w.Ge = refl
found w.Shr = refl
found w.ShrEq = refl
found w.Question = refl
found w.At = refl
found w.SelfType = refl
found w.OpenBracket = refl
found w.CloseBracket = refl
found w.Caret = refl
found w.CaretEq = refl
found w.Underscore = refl
found w.As = refl
found w.Break = refl
found w.Const = refl
found w.Continue = refl
found w.Crate = refl
found w.Else = refl
found w.Enum = refl
found w.Extern = refl
found w.False = refl
found w.Fn = refl
found w.For = refl
found w.If = refl
found w.Impl = refl
found w.In = refl
found w.Let = refl
found w.Loop = refl
found w.Match = refl
found w.Mod = refl
found w.Move = refl
found w.Mut = refl
found w.Pub = refl
found w.Ref = refl
found w.Return = refl
found w.SelfValue = refl
found w.Static = refl
found w.Struct = refl
found w.Super = refl
found w.Trait = refl
found w.True = refl
found w.Type = refl
found w.Unsafe = refl
found w.Use = refl
found w.Where = refl
found w.While = refl
found w.OpenBrace = refl
found w.Or = refl
found w.OrEq = refl
found w.OrOr = refl
found w.CloseBrace = refl
found w.Tilde = refl

pub is_found : (text : List ℕ) (x : Written) → text_of x ≡ text → get_or LIKELY (number_of text % 256) w.Not ≡ x
is_found text x h = subst (λ t. get_or LIKELY (number_of t % 256) w.Not ≡ x) h (found x)

numbered : (x : Written) → get_or NUMBERS (number_of (text_of x) % 256) 0 ≡ number_of (text_of x)
unfolding number_of
numbered w.Not = refl
numbered w.Ne = refl
numbered w.Pound = refl
numbered w.Dollar = refl
numbered w.Percent = refl
numbered w.PercentEq = refl
numbered w.And = refl
numbered w.AndAnd = refl
numbered w.AndEq = refl
numbered w.OpenParen = refl
numbered w.CloseParen = refl
numbered w.Star = refl
numbered w.StarEq = refl
numbered w.Plus = refl
numbered w.PlusEq = refl
numbered w.Comma = refl
numbered w.Minus = refl
numbered w.MinusEq = refl
numbered w.RArrow = refl
numbered w.Dot = refl
numbered w.DotDot = refl
numbered w.DotDotDot = refl
numbered w.DotDotEq = refl
numbered w.Slash = refl
numbered w.SlashEq = refl
numbered w.Colon = refl
numbered w.PathSep = refl
numbered w.Semi = refl
numbered w.Lt = refl
numbered w.LArrow = refl
numbered w.Shl = refl
numbered w.ShlEq = refl
numbered w.Le = refl
numbered w.Eq = refl
numbered w.EqEq = refl
numbered w.FatArrow = refl
numbered w.Gt = refl
numbered w.Ge = refl
numbered w.Shr = refl
numbered w.ShrEq = refl
numbered w.Question = refl
numbered w.At = refl
numbered w.SelfType = refl
numbered w.OpenBracket = refl
numbered w.CloseBracket = refl
numbered w.Caret = refl
numbered w.CaretEq = refl
numbered w.Underscore = refl
numbered w.As = refl
numbered w.Break = refl
numbered w.Const = refl
numbered w.Continue = refl
numbered w.Crate = refl
numbered w.Else = refl
numbered w.Enum = refl
numbered w.Extern = refl
numbered w.False = refl
numbered w.Fn = refl
numbered w.For = refl
numbered w.If = refl
numbered w.Impl = refl
numbered w.In = refl
numbered w.Let = refl
numbered w.Loop = refl
numbered w.Match = refl
numbered w.Mod = refl
numbered w.Move = refl
numbered w.Mut = refl
numbered w.Pub = refl
numbered w.Ref = refl
numbered w.Return = refl
numbered w.SelfValue = refl
numbered w.Static = refl
numbered w.Struct = refl
numbered w.Super = refl
numbered w.Trait = refl
numbered w.True = refl
numbered w.Type = refl
numbered w.Unsafe = refl
numbered w.Use = refl
numbered w.Where = refl
numbered w.While = refl
numbered w.OpenBrace = refl
numbered w.Or = refl
numbered w.OrEq = refl
numbered w.OrOr = refl
numbered w.CloseBrace = refl
numbered w.Tilde = refl

pub has_number : (text : List ℕ) (x : Written) → text_of x ≡ text → get_or NUMBERS (number_of text % 256) 0 ≡ number_of text
has_number text x h = subst (λ t. get_or NUMBERS (number_of t % 256) 0 ≡ number_of t) h (numbered x)

pub is_short : (text : List ℕ) (x : Written) → text_of x ≡ text → (0 < length text) × (length text ≤ 8)
is_short text x h = subst (λ t. (0 < length t) × (length t ≤ 8)) h (short x)

pub written_by : (text : List ℕ) (x : Written) → bytes_eq (text_of x) text ≡ true → written_of text ≡ Some x
written_by text x h = finds_so text x ((bytes_decides (text_of x) text).0 h)

false_true : true ≡ false → ⊥
false_true h = cc

-- what no word can be is none
abbrev Only : List ℕ → Option Written → Type 0
Only text m = (y : Written) → text_of y ≡ text → m ≡ Some y

pub unlikely : (text : List ℕ) (m : Option Written) → Only text m → m ≡ None → written_of text ≡ None
unlikely text m only none = go (written_of text) refl
  where
    no : (y : Written) → None ≡ Some y → ⊥
    no y h = cc

    go : (n : Option Written) → written_of text ≡ n → n ≡ None
    go None is = refl
    go (Some y) is = absurd (no y (sym none ∙ only y (written_is_so text y is)))

pub unwritten : (text : List ℕ) (x : Written) → Only text (Some x) → bytes_eq (text_of x) text ≡ false → written_of text ≡ None
unwritten text x only h = go (written_of text) refl
  where
    inside : (y : Written) → Some x ≡ Some y → x ≡ y
    inside y h = cc

    go : (n : Option Written) → written_of text ≡ n → n ≡ None
    go None is = refl
    go (Some y) is =
        let so : text_of y ≡ text = written_is_so text y is in
        let same : x ≡ y = inside y (only y so) in
        let yes : bytes_eq (text_of x) text ≡ true = (bytes_decides (text_of x) text).1 (ap text_of same ∙ so) in
        absurd (false_true (sym yes ∙ h))

-- ---- keywords

among : (f : List ℕ → Bool) (list : List (List ℕ)) (text : List ℕ) → is_among list text ≡ true → all f list ≡ true → f text ≡ true
among f [] text h every = cc
among f (x ∷ xs) text h every =
    elim (cases_Bool (bytes_eq x text)) [
      | inl same ↦ subst (λ t. f t ≡ true) ((bytes_decides x text).0 same) (and-left (f x) (all f xs) every)
      | inr other ↦ among f xs text (sym (ap (λ b. b || is_among xs text) other) ∙ h) (and-right (f x) (all f xs) every)
    ]

abbrev has_mark : List ℕ → Bool
has_mark text = get_or KEYWORDS (number_of text % 284) 0 == mark_of text

abbrev fits : List ℕ → Bool
fits text = nat_lt 0 (length text) && nat_le (length text) 8

-- what holds of each keyword of any edition
of_keywords : (f : List ℕ → Bool) → all f always ≡ true → all f from_2018 ≡ true → (edition : Edition) (text : List ℕ) → class_of edition text ≡ class.Keyword → f text ≡ true
unfolding class_of
of_keywords f each new edition text h =
    elim (cases_Bool (is_among always text)) [
      | inl in-all ↦ among f always text in-all each
      | inr later ↦
          elim (cases_Bool (is_among from_2018 text)) [
            | inl since ↦ among f from_2018 text since new
            | inr none ↦ absurd (no_keyword (sym (ap (λ b. if b then class.Keyword else (if is_among from_2018 text then class_of_new edition text else class.Ident)) later ∙ ap (λ b. if b then class_of_new edition text else class.Ident) none) ∙ h))
          ]
    ]
  where
    no_keyword : class.Ident ≡ class.Keyword → ⊥
    no_keyword h = cc

always_marked : all has_mark always ≡ true
unfolding number_of mark_of
always_marked = refl

new_marked : all has_mark from_2018 ≡ true
unfolding number_of mark_of
new_marked = refl

pub keyword_found : (edition : Edition) (text : List ℕ) → class_of edition text ≡ class.Keyword → (get_or KEYWORDS (number_of text % 284) 0 == mark_of text) ≡ true
keyword_found edition text h = of_keywords has_mark always_marked new_marked edition text h

pub keyword_short : (edition : Edition) (text : List ℕ) → class_of edition text ≡ class.Keyword → (0 < length text) × (length text ≤ 8)
keyword_short edition text h =
    let is : fits text ≡ true = of_keywords fits refl refl edition text h in
    let some : nat_lt 0 (length text) ≡ true = and-left (nat_lt 0 (length text)) (nat_le (length text) 8) is in
    let few : nat_le (length text) 8 ≡ true = and-right (nat_lt 0 (length text)) (nat_le (length text) 8) is in
    (ltb-true 0 (length text) some, leb-true (length text) 8 few)
