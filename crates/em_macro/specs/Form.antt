-- How the text of rules is formed (Reference, "Macros by example"): relations between the tokens before and the tokens left.
use Rattle.std.specs.Prelude.{◌≡◌, ℕ, zero, suc, ◌&&◌, ◌||◌, Bool, true, false, if◌then◌else◌, List, [], ◌∷◌, Option, Some, None, codes}
use Rattle.std.specs.Str.{bytes_eq}
use Rattle.em_base.specs.declared.token.Token.{Token}
use Rattle.em_base.specs.declared.token.TokenKind.{TokenKind}
use Rattle.em_base.specs.declared.token.TokenKind.TheVariants as t
use Rattle.em_base.specs.declared.edition.Edition.{Edition}
use Rattle.em_tree.specs.declared.piece.FragmentKind.{FragmentKind}
use Rattle.em_tree.specs.declared.piece.FragmentKind.TheVariants as f
use Rattle.em_macro.specs.declared.signs.Role.{Role}
use Rattle.em_macro.specs.declared.signs.Role.TheVariants as role
use Rattle.em_macro.specs.declared.rules.Specifier.{Specifier}
use Rattle.em_macro.specs.declared.rules.Matcher.{out-Matcher}
use Rattle.em_macro.specs.declared.rules.Matcher.TheOpen.{Matcher-F}
use Rattle.em_macro.specs.declared.rules.Transcriber.{Transcriber, out-Transcriber}
use Rattle.em_macro.specs.declared.rules.Transcriber.TheOpen.{Transcriber-F}
use Rattle.em_macro.specs.declared.rules.Arm.{Arm}
use Rattle.em_macro.specs.Match.{Name, Matchers, Node, levels}
use Rattle.em_macro.specs.Write.{Transcribers}

abbrev pub Tokens : Type 0
Tokens = List Token

-- ---- tokens

-- what a token is in the text of rules: a `$`, an opening or closing delimiter, or another one
abbrev pub role_of : TokenKind → List ℕ → Role
role_of t.Open text = role.Open
role_of t.Close text = role.Close
role_of t.Punct text = if bytes_eq text (codes "$") then role.Dollar else role.Other
role_of _ text = role.Other

unfoldable pub role_at : Token → Role
role_at t = role_of t.kind t.text

abbrev pub is_punct : TokenKind → Bool
is_punct t.Punct = true
is_punct _ = false

-- the token is this punctuation
unfoldable pub is_sign : List ℕ → Token → Bool
is_sign text t = is_punct t.kind && bytes_eq t.text text

abbrev pub is_open : TokenKind → Bool
is_open t.Open = true
is_open _ = false

unfoldable pub is_paren : Token → Bool
is_paren t = is_open t.kind && bytes_eq t.text (codes "(")

-- the name of a word, a keyword or a raw identifier included
abbrev pub name_in : TokenKind → Option Name
name_in (t.Ident name raw) = Some name
name_in _ = None

unfoldable pub name_of : Token → Option Name
name_of t = name_in t.kind

abbrev pub is_crate_kind : TokenKind → Bool
is_crate_kind (t.Ident name false) = bytes_eq name (codes "crate")
is_crate_kind _ = false

unfoldable pub is_crate : Token → Bool
is_crate t = is_crate_kind t.kind

-- the kind of fragment that a word names (Reference, "Metavariables")
abbrev pub kind_named : Name → Option FragmentKind
kind_named n =
    if bytes_eq n (codes "ident") then Some f.Ident
    else (if bytes_eq n (codes "tt") then Some f.Tt
    else (if bytes_eq n (codes "literal") then Some f.Literal
    else (if bytes_eq n (codes "block") then Some f.Block
    else (if bytes_eq n (codes "expr") then Some f.Expr
    else (if bytes_eq n (codes "stmt") then Some f.Stmt
    else (if bytes_eq n (codes "ty") then Some f.Ty
    else (if bytes_eq n (codes "path") then Some f.Path
    else (if bytes_eq n (codes "pat") then Some f.Pat
    else (if bytes_eq n (codes "pat_param") then Some f.PatParam
    else (if bytes_eq n (codes "item") then Some f.Item else None))))))))))

abbrev pub specifier : Edition → Option FragmentKind → Option Specifier
specifier e None = None
specifier e (Some kind) = Some (record { kind = kind; edition = e })

abbrev pub specified_by : Edition → TokenKind → Option Specifier
specified_by e (t.Ident name false) = specifier e (kind_named name)
specified_by e _ = None

-- the kind that the word names, with the edition of the word's text. A raw identifier names none
unfoldable pub specified : Token → Option Specifier
specified t = specified_by t.edition t.kind

-- whether two delimiters are those of one pair
unfoldable pub pairs : Token → Token → Bool
pairs o c =
    (bytes_eq o.text (codes "(") && bytes_eq c.text (codes ")"))
    || ((bytes_eq o.text (codes "[") && bytes_eq c.text (codes "]")) || (bytes_eq o.text (codes "{") && bytes_eq c.text (codes "}")))

abbrev pub Closes : Token → Token → Type 0
Closes o c = (role_at c ≡ role.Close) × (pairs o c ≡ true)

-- the operator of a repetition, `*` or `+`: whether it is `+`
unfoldable pub plus_of : Token → Option Bool
plus_of t = if is_sign (codes "*") t then Some false else (if is_sign (codes "+") t then Some true else None)

-- no operator, no delimiter and no `$`
abbrev pub CanSeparate : Token → Type 0
CanSeparate t = (role_at t ≡ role.Other) × (plus_of t ≡ None) × (is_sign (codes "?") t ≡ false)

-- an operator, with a separator before it or without one
abbrev pub Operator : Option Token → Bool → Tokens → Tokens → Type 0
Operator None plus i r = (t : Token) × (i ≡ t ∷ r) × (plus_of t ≡ Some plus)
Operator (Some s) plus i r = (t : Token) × (i ≡ s ∷ t ∷ r) × CanSeparate s × (plus_of t ≡ Some plus)

-- ---- matchers

module _ (Inner : Matchers → Tokens → Tokens → Type 0) where
  -- the text of one part of a matcher: a token, `$name:kind`, a delimited matcher, or `$( .. )` and an operator
  abbrev pub PartText : Node → Tokens → Tokens → Type 0
  PartText (Matcher-F.Token t) i r = (i ≡ t ∷ r) × (role_at t ≡ role.Other)
  PartText (Matcher-F.Fragment n kind) i r =
      (d : Token) × (w : Token) × (c : Token) × (x : Token) × (i ≡ d ∷ w ∷ c ∷ x ∷ r) × (role_at d ≡ role.Dollar)
      × (name_of w ≡ Some n) × (is_sign (codes ":") c ≡ true) × (specified x ≡ Some kind)
  PartText (Matcher-F.Delimited o body c) i r = (j : Tokens) × (i ≡ o ∷ j) × (role_at o ≡ role.Open) × Inner body j (c ∷ r) × Closes o c
  PartText (Matcher-F.Repeat body sep plus) i r =
      (d : Token) × (o : Token) × (c : Token) × (j : Tokens) × (k : Tokens) × (i ≡ d ∷ o ∷ j) × (role_at d ≡ role.Dollar)
      × (is_paren o ≡ true) × Inner body j (c ∷ k) × Closes o c × Operator sep plus k r

  abbrev pub PartsText : Matchers → Tokens → Tokens → Type 0
  PartsText [] i r = i ≡ r
  PartsText (x ∷ xs) i r = (j : Tokens) × PartText (out-Matcher x) i j × PartsText xs j r

-- the matcher, nested no deeper than the number, has the text before the last tokens
unfoldable pub MatcherText : ℕ → Matchers → Tokens → Tokens → Type 0
MatcherText zero ms i r = ⊥
MatcherText (suc depth) ms i r = PartsText (MatcherText depth) ms i r

-- ---- transcribers

module _ (Inner : Transcribers → Tokens → Tokens → Type 0) where
  -- the text of one part of a transcriber: a token, `$name`, `$crate`, a delimited one, or `$( .. )` and an operator
  abbrev pub CopyText : Transcriber-F Transcriber → Tokens → Tokens → Type 0
  CopyText (Transcriber-F.Token t) i r = (i ≡ t ∷ r) × (role_at t ≡ role.Other)
  CopyText (Transcriber-F.Variable d w n) i r = (i ≡ d ∷ w ∷ r) × (role_at d ≡ role.Dollar) × (name_of w ≡ Some n) × (is_crate w ≡ false)
  CopyText (Transcriber-F.Crate d w) i r = (i ≡ d ∷ w ∷ r) × (role_at d ≡ role.Dollar) × (is_crate w ≡ true)
  CopyText (Transcriber-F.Delimited o body c) i r = (j : Tokens) × (i ≡ o ∷ j) × (role_at o ≡ role.Open) × Inner body j (c ∷ r) × Closes o c
  CopyText (Transcriber-F.Repeat body sep) i r =
      (d : Token) × (o : Token) × (c : Token) × (j : Tokens) × (k : Tokens) × (i ≡ d ∷ o ∷ j) × (role_at d ≡ role.Dollar)
      × (is_paren o ≡ true) × Inner body j (c ∷ k) × Closes o c × (plus : Bool) × Operator sep plus k r

  abbrev pub CopiesText : Transcribers → Tokens → Tokens → Type 0
  CopiesText [] i r = i ≡ r
  CopiesText (x ∷ xs) i r = (j : Tokens) × CopyText (out-Transcriber x) i j × CopiesText xs j r

-- the transcriber, nested no deeper than the number, has the text before the last tokens
unfoldable pub TranscriberText : ℕ → Transcribers → Tokens → Tokens → Type 0
TranscriberText zero ws i r = ⊥
TranscriberText (suc depth) ws i r = CopiesText (TranscriberText depth) ws i r

-- ---- rules

-- `( matcher ) => { transcriber }`, with delimiters of any kind
abbrev pub ArmText : Arm → Tokens → Tokens → Type 0
ArmText arm i r =
    (o : Token) × (j : Tokens) × (c : Token) × (a : Token) × (p : Token) × (k : Tokens) × (e : Token)
    × (i ≡ o ∷ j) × (role_at o ≡ role.Open) × MatcherText levels arm.matcher j (c ∷ a ∷ p ∷ k) × Closes o c
    × (is_sign (codes "=>") a ≡ true) × (role_at p ≡ role.Open) × TranscriberText levels arm.transcriber k (e ∷ r) × Closes p e

-- nothing, or the last `;`
abbrev pub Last : Tokens → Type 0
Last [] = Unit {0}
Last (s ∷ r) = (is_sign (codes ";") s ≡ true) × (r ≡ [])

-- at least one arm, with a `;` between any two, and perhaps one behind the last
abbrev pub RulesText : List Arm → Tokens → Type 0
RulesText [] i = ⊥
RulesText (a ∷ []) i = (r : Tokens) × ArmText a i r × Last r
RulesText (a ∷ b ∷ more) i = (s : Token) × (r : Tokens) × ArmText a i (s ∷ r) × (is_sign (codes ";") s ≡ true) × RulesText (b ∷ more) r
