-- How the text of rules is read: the steps that the code takes.
use Rattle.std.specs.Prelude.{◌≡◌, ℕ, zero, suc, Bool, true, false, if◌then◌else◌, List, [], ◌∷◌, length, Option, Some, None, Result, Ok, Err, codes}
use Rattle.em_base.specs.declared.token.Token.{Token}
use Rattle.em_macro.specs.declared.error.RulesError.{RulesError}
use Rattle.em_macro.specs.declared.error.RulesError.TheVariants as s
use Rattle.em_macro.specs.declared.signs.Role.{Role}
use Rattle.em_macro.specs.declared.signs.Role.TheVariants as role
use Rattle.em_macro.specs.declared.rules.Specifier.{Specifier}
use Rattle.em_macro.specs.declared.rules.Matcher.{Matcher}
use Rattle.em_macro.specs.declared.rules.Matcher.TheVariants as m
use Rattle.em_macro.specs.declared.rules.Transcriber.{Transcriber}
use Rattle.em_macro.specs.declared.rules.Transcriber.TheVariants as w
use Rattle.em_macro.specs.declared.rules.Arm.{Arm}
use Rattle.em_macro.specs.declared.reading.Operator.{Operator}
use Rattle.em_macro.specs.Match.{Name, Matchers, levels}
use Rattle.em_macro.specs.Write.{Transcribers}
use Rattle.em_macro.specs.Form.{Tokens, role_at, is_sign, is_paren, name_of, is_crate, specified, pairs, plus_of}

pub data Read (T : Type 0) : Type 0 where
  Done : T → Tokens → Read T
  Bad : Read T

abbrev pub and_then : {A B : Type 0} → Read A → (A → Tokens → Read B) → Read B
and_then (Done a r) f = f a r
and_then Bad f = Bad

-- what the functions that read give. Want of memory says nothing
abbrev pub Gives : {T : Type 0} → Read T → Result T RulesError → Tokens → Type 0
Gives out (Ok t) new = out ≡ Done t new
Gives out (Err s.Bad) new = out ≡ Bad
Gives out (Err s.NoMemory) new = Unit {0}

-- ---- single tokens

unfoldable pub sign : List ℕ → Tokens → Read (Unit {0})
sign text [] = Bad
sign text (t ∷ r) = if is_sign text t then Done tt r else Bad

abbrev pub opens : Token → Tokens → Role → Read Token
opens t r role.Open = Done t r
opens t r _ = Bad

unfoldable pub opening : Tokens → Read Token
opening [] = Bad
opening (t ∷ r) = opens t r (role_at t)

abbrev pub closed : Token → Token → Tokens → Role → Read Token
closed o c r role.Close = if pairs o c then Done c r else Bad
closed o c r _ = Bad

-- the closing delimiter of this one
unfoldable pub closing : Token → Tokens → Read Token
closing o [] = Bad
closing o (c ∷ r) = closed o c r (role_at c)

abbrev pub is_close : Role → Bool
is_close role.Close = true
is_close _ = false

abbrev pub at_close : Tokens → Bool
at_close [] = true
at_close (t ∷ i) = is_close (role_at t)

-- ---- the operator of a repetition

abbrev pub with_plus : Option Token → Tokens → Option Bool → Read Operator
with_plus sep r (Some plus) = Done (record { separator = sep; plus = plus }) r
with_plus sep r None = Bad

abbrev pub after_separator : Token → Tokens → Read Operator
after_separator s [] = Bad
after_separator s (t ∷ r) = with_plus (Some s) r (plus_of t)

abbrev pub separated : Token → Tokens → Role → Read Operator
separated s r role.Other = if is_sign (codes "?") s then Bad else after_separator s r
separated s r _ = Bad

abbrev pub with_operator : Token → Tokens → Option Bool → Read Operator
with_operator t r (Some plus) = Done (record { separator = None; plus = plus }) r
with_operator t r None = separated t r (role_at t)

unfoldable pub operator : Tokens → Read Operator
operator [] = Bad
operator (t ∷ r) = with_operator t r (plus_of t)

-- ---- matchers

abbrev pub fragment : Name → Tokens → Option Specifier → Read Matcher
fragment n r None = Bad
fragment n r (Some kind) = Done (m.Fragment n kind) r

abbrev pub kind_of : Name → Tokens → Read Matcher
kind_of n [] = Bad
kind_of n (x ∷ r) = fragment n r (specified x)

unfoldable pub variable : Tokens → Option Name → Read Matcher
variable i None = Bad
variable i (Some n) = and_then (sign (codes ":") i) (λ u r. kind_of n r)

unfoldable pub repeat : Token → Matchers → Tokens → Read Matcher
repeat o body i = and_then (closing o i) (λ c r. and_then (operator r) (λ op s. Done (m.Repeat body op.separator op.plus) s))

unfoldable pub delimited : Token → Matchers → Tokens → Read Matcher
delimited o body i = and_then (closing o i) (λ c r. Done (m.Delimited o body c) r)

module _ (inner : Tokens → Read Matchers) where
  unfoldable pub dollar : Tokens → Read Matcher
  dollar [] = Bad
  dollar (t ∷ i) = if is_paren t then and_then (inner i) (λ body r. repeat t body r) else variable i (name_of t)

  abbrev pub part_as : Token → Tokens → Role → Read Matcher
  part_as t i role.Dollar = dollar i
  part_as t i role.Open = and_then (inner i) (λ body r. delimited t body r)
  part_as t i role.Close = Bad
  part_as t i role.Other = Done (m.Token t) i

  -- what stands at the front
  unfoldable pub part : Tokens → Read Matcher
  part [] = Bad
  part (t ∷ i) = part_as t i (role_at t)

  unfoldable pub parts : ℕ → Tokens → Read Matchers
  parts zero i = Bad
  parts (suc n) i = if at_close i then Done [] i else and_then (part i) (λ x r. and_then (parts n r) (λ xs s. Done (x ∷ xs) s))

unfoldable pub matcher : ℕ → Tokens → Read Matchers
matcher zero i = Bad
matcher (suc depth) i = parts (matcher depth) (suc (length i)) i

-- ---- transcribers

abbrev pub named : Token → Token → Tokens → Option Name → Read Transcriber
named d t i None = Bad
named d t i (Some n) = Done (w.Variable d t n) i

unfoldable pub word : Token → Token → Tokens → Read Transcriber
word d t i = if is_crate t then Done (w.Crate d t) i else named d t i (name_of t)

unfoldable pub repeat_copy : Token → Transcribers → Tokens → Read Transcriber
repeat_copy o body i = and_then (closing o i) (λ c r. and_then (operator r) (λ op s. Done (w.Repeat body op.separator) s))

unfoldable pub delimited_copy : Token → Transcribers → Tokens → Read Transcriber
delimited_copy o body i = and_then (closing o i) (λ c r. Done (w.Delimited o body c) r)

module _ (inner : Tokens → Read Transcribers) where
  unfoldable pub dollar_copy : Token → Tokens → Read Transcriber
  dollar_copy d [] = Bad
  dollar_copy d (t ∷ i) = if is_paren t then and_then (inner i) (λ body r. repeat_copy t body r) else word d t i

  abbrev pub copy_as : Token → Tokens → Role → Read Transcriber
  copy_as t i role.Dollar = dollar_copy t i
  copy_as t i role.Open = and_then (inner i) (λ body r. delimited_copy t body r)
  copy_as t i role.Close = Bad
  copy_as t i role.Other = Done (w.Token t) i

  unfoldable pub copy : Tokens → Read Transcriber
  copy [] = Bad
  copy (t ∷ i) = copy_as t i (role_at t)

  unfoldable pub copies : ℕ → Tokens → Read Transcribers
  copies zero i = Bad
  copies (suc n) i = if at_close i then Done [] i else and_then (copy i) (λ x r. and_then (copies n r) (λ xs s. Done (x ∷ xs) s))

unfoldable pub transcriber : ℕ → Tokens → Read Transcribers
transcriber zero i = Bad
transcriber (suc depth) i = copies (transcriber depth) (suc (length i)) i

-- ---- rules

abbrev pub an_arm : Matchers → Transcribers → Arm
an_arm ms ws = record { matcher = ms; transcriber = ws }

unfoldable pub delimited_matcher : Tokens → Read Matchers
delimited_matcher i = and_then (opening i) (λ o j. and_then (matcher levels j) (λ ms k. and_then (closing o k) (λ c r. Done ms r)))

unfoldable pub delimited_transcriber : Tokens → Read Transcribers
delimited_transcriber i = and_then (opening i) (λ o j. and_then (transcriber levels j) (λ ws k. and_then (closing o k) (λ c r. Done ws r)))

unfoldable pub arm : Tokens → Read Arm
arm i = and_then (delimited_matcher i) (λ ms j. and_then (sign (codes "=>") j) (λ u k. and_then (delimited_transcriber k) (λ ws r. Done (an_arm ms ws) r)))

abbrev pub is_more : Tokens → Bool
is_more [] = false
is_more (t ∷ i) = true

-- whether another arm follows
unfoldable pub another : Tokens → Read Bool
another [] = Done false []
another (s ∷ r) = if is_sign (codes ";") s then Done (is_more r) r else Bad

unfoldable pub arms : ℕ → Tokens → Read (List Arm)
arms zero i = Bad
arms (suc n) i = and_then (arm i) (λ a r. and_then (another r) (λ more s. if more then and_then (arms n s) (λ others z. Done (a ∷ others) z) else Done (a ∷ []) s))
