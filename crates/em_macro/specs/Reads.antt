-- Which fragments an arm reads: everything before them matched, and the pieces there have a prefix of their kind.
use Rattle.std.specs.Prelude.{◌≡◌, ℕ, zero, suc, ◌<◌, ◌⊎◌, ◌↔◌, ◌||◌, Bool, if◌then◌else◌, List, [], ◌∷◌, ◌++◌, length, map, slice_index_or, Option, Result, Ok, Err}
use Rattle.em_base.specs.declared.token.Token.{Token}
use Rattle.em_macro.specs.declared.rules.Specifier.{Specifier}
use Rattle.em_macro.specs.declared.rules.Arm.{Arm}
use Rattle.em_macro.specs.declared.rules.Matcher.{out-Matcher}
use Rattle.em_macro.specs.declared.rules.Matcher.TheOpen.{Matcher-F}
use Rattle.em_macro.specs.declared.matched.Taken.{Taken}
use Rattle.em_macro.specs.declared.error.Stop.{Stop}
use Rattle.em_macro.specs.declared.error.Stop.TheVariants as s
use Rattle.em_tree.specs.Starts.{Pieces}
use Rattle.em_macro.specs.Match.{Name, Reading, Matchers, Bindings, Node, Outcome, Takes, CannotStart, NoPrefix, TooDeep, names, first, continues, Before, levels}
use Rattle.em_macro.specs.Run.{Out, Done, Fails, Breaks, Deep, token, behind, node, run}

-- a fragment, and how many pieces are left where it begins
abbrev pub Read : Type 0
Read = Taken × ℕ

abbrev pub In : Read → List Read → Type 0
In x [] = ⊥
In x (y ∷ ys) = (y ≡ x) ⊎ In x ys

-- each begins behind the one before, and fewer pieces than this are left
abbrev pub Falling : ℕ → List Read → Type 0
Falling most [] = Unit {0}
Falling most (x ∷ xs) = (x.1 < most) × Falling x.1 xs

abbrev pub fragments_of : List Read → List Taken
fragments_of xs = map (λ x. x.0) xs

module _ (reads : Reading) where
  abbrev pub Reads : ℕ → Matchers → Pieces → Read → Type 0
  Reads depth ms i x = (kind : Specifier) × (r : Pieces) × (z : Pieces) × Before reads depth ms i kind r × (reads kind r ≡ Takes x.0 z) × (x.1 ≡ length r)

  -- these are the fragments that the arm reads, in the order of the pieces
  abbrev pub ReadBy : Arm → Pieces → List Taken → Type 0
  ReadBy arm i fs =
      (xs : List Read) × (fs ≡ fragments_of xs) × Falling (suc (length i)) xs × ((x : Read) → In x xs ↔ Reads levels arm.matcher i x)

  -- these are the fragments that so many arms read, in the order of arms and pieces
  abbrev pub ReadBefore : ℕ → List Arm → Pieces → List Taken → Type 0
  ReadBefore zero arms i fs = fs ≡ []
  ReadBefore (suc n) arms i fs =
      (before : List Taken) × (here : List Taken) × ReadBefore n arms i before × ((d : Arm) → ReadBy (slice_index_or arms n d) i here) × (fs ≡ before ++ here)

-- ---- what the pass reads

abbrev pub after : {A : Type 0} → Out A → (A → Pieces → List Read) → List Read
after (Done a r) f = f a r
after Fails f = []
after Breaks f = []
after Deep f = []

abbrev pub taken : Pieces → Outcome → List Read
taken i (Takes f r) = (f, length i) ∷ []
taken i CannotStart = []
taken i NoPrefix = []
taken i TooDeep = []

module _ (reads : Reading) (vars : Matchers → List Name) (starts : Matchers → Pieces → Bool) (inner : Matchers → Pieces → Out Bindings) (log_in : Matchers → Pieces → List Read) where
  unfoldable pub log_copies : ℕ → Matchers → Option Token → Pieces → List Read
  log_copies zero body sep i = []
  log_copies (suc n) body sep i = log_in body i ++ after (inner body i) (λ a r. if continues (starts body) sep r then log_copies n body sep (behind sep r) else [])

  unfoldable pub log_node : Node → Pieces → List Read
  log_node (Matcher-F.Token t) i = []
  log_node (Matcher-F.Fragment n kind) i = taken i (reads kind i)
  log_node (Matcher-F.Delimited o body c) i = after (token o i) (λ u r. log_in body r)
  log_node (Matcher-F.Repeat body sep plus) i = if plus || starts body i then log_copies (suc (length i)) body sep i else []

  unfoldable pub log_all : Matchers → Pieces → List Read
  log_all [] i = []
  log_all (m ∷ ms) i = log_node (out-Matcher m) i ++ after (node reads vars starts inner (out-Matcher m) i) (λ x r. log_all ms r)

module _ (reads : Reading) where
  unfoldable pub log : ℕ → Matchers → Pieces → List Read
  log zero ms i = []
  log (suc depth) ms i = log_all reads (names depth) (first depth) (run reads depth) (log depth) ms i

-- the fragments that were read are put behind those before. Want of memory says nothing.
abbrev pub Puts : {T : Type 0} → List Read → List Taken → Result T Stop → List Taken → Type 0
Puts xs old (Ok t) new = new ≡ old ++ fragments_of xs
Puts xs old (Err s.Fails) new = new ≡ old ++ fragments_of xs
Puts xs old (Err s.Broken) new = new ≡ old ++ fragments_of xs
Puts xs old (Err s.Depth) new = new ≡ old ++ fragments_of xs
Puts xs old (Err s.NoMemory) new = Unit {0}
