-- The pass reads fragments in the order of the pieces.
use Rattle.std.proofs.Common.{◌≡◌, ℕ, zero, suc, ◌≤◌, ◌<◌, ◌||◌, Bool, true, false, if◌then◌else◌, List, [], ◌∷◌, ◌++◌, length, Option, Some, None, refl, arith}
use Rattle.em_base.specs.declared.token.Token.{Token}
use Rattle.em_tree.specs.declared.piece.Piece.TheVariants as p
use Rattle.em_macro.specs.declared.rules.Matcher.{out-Matcher}
use Rattle.em_macro.specs.declared.rules.Matcher.TheOpen.{Matcher-F}
use Rattle.em_tree.specs.Starts.{Pieces}
use Rattle.em_macro.specs.Match.{Name, Reading, Matchers, Bindings, Node, Outcome, Takes, CannotStart, NoPrefix, TooDeep, NeverEmpty, same, names, first, continues, gather}
use Rattle.em_macro.specs.Run.{Out, Done, Fails, Breaks, Deep, and_then, token, fragment, behind, copies, node, all, run}
use Rattle.em_macro.specs.Reads.{Read, Falling, after, taken, log_copies, log_node, log_all, log}

-- all begin before so many pieces are left
abbrev pub Above : ℕ → List Read → Type 0
Above low [] = Unit {0}
Above low (x ∷ xs) = (low < x.1) × Above low xs

abbrev pub Within : {A : Type 0} → Pieces → Out A → List Read → Type 0
Within i (Done a r) xs = Falling (suc (length i)) xs × Above (length r) xs × (length r ≤ length i)
Within i Fails xs = Falling (suc (length i)) xs
Within i Breaks xs = Falling (suc (length i)) xs
Within i Deep xs = Falling (suc (length i)) xs

falls_more : (a b : ℕ) (xs : List Read) → a ≤ b → Falling a xs → Falling b xs
falls_more a b [] h f = tt
falls_more a b (x ∷ xs) h f = (omega (arith, h, f.0), f.1)

falls_append : (most low : ℕ) (xs ys : List Read) → Falling most xs → Above low xs → Falling (suc low) ys → suc low ≤ most → Falling most (xs ++ ys)
falls_append most low [] ys f a g h = falls_more (suc low) most ys h g
falls_append most low (x ∷ xs) ys f a g h = (f.0, falls_append x.1 low xs ys f.1 a.1 g (omega (arith, a.0)))

falls_end : (most : ℕ) (xs : List Read) → Falling most xs → Falling most (xs ++ [])
falls_end most [] f = tt
falls_end most (x ∷ xs) f = (f.0, falls_end x.1 xs f.1)

above_less : (a b : ℕ) (xs : List Read) → a ≤ b → Above b xs → Above a xs
above_less a b [] h f = tt
above_less a b (x ∷ xs) h f = (omega (arith, h, f.0), above_less a b xs h f.1)

above_append : (low : ℕ) (xs ys : List Read) → Above low xs → Above low ys → Above low (xs ++ ys)
above_append low [] ys a b = b
above_append low (x ∷ xs) ys a b = (a.0, above_append low xs ys a.1 b)

within_then : {A B : Type 0} (i : Pieces) (m : Out A) (f : A → Pieces → Out B) (g : A → Pieces → List Read) (xs : List Read) → Within i m xs
    → ((a : A) (r : Pieces) → Within r (f a r) (g a r)) → Within i (and_then m f) (xs ++ after m g)
within_then {B = B} i (Done a r) f g xs h k = go (f a r) (k a r)
  where
    go : (o : Out B) → Within r o (g a r) → Within i o (xs ++ g a r)
    go (Done b s) w = (
      falls_append (suc (length i)) (length r) xs (g a r) h.0 h.1 w.0 (omega (arith, h.2)),
      above_append (length s) xs (g a r) (above_less (length s) (length r) xs w.2 h.1) w.1,
      omega (arith, h.2, w.2),
    )
    go Fails w = falls_append (suc (length i)) (length r) xs (g a r) h.0 h.1 w (omega (arith, h.2))
    go Breaks w = falls_append (suc (length i)) (length r) xs (g a r) h.0 h.1 w (omega (arith, h.2))
    go Deep w = falls_append (suc (length i)) (length r) xs (g a r) h.0 h.1 w (omega (arith, h.2))
within_then {B = B} i Fails f g xs h k = falls_end (suc (length i)) xs h
within_then {B = B} i Breaks f g xs h k = falls_end (suc (length i)) xs h
within_then {B = B} i Deep f g xs h k = falls_end (suc (length i)) xs h

-- nothing more is read
within_end : {A B : Type 0} (i : Pieces) (m : Out A) (f : A → Pieces → Out B) (xs : List Read) → Within i m xs → ((a : A) (r : Pieces) → Within r (f a r) []) → Within i (and_then m f) xs
within_end {B = B} i (Done a r) f xs h k = go (f a r) (k a r)
  where
    go : (o : Out B) → Within r o [] → Within i o xs
    go (Done b s) w = (h.0, above_less (length s) (length r) xs w.2 h.1, omega (arith, h.2, w.2))
    go Fails w = h.0
    go Breaks w = h.0
    go Deep w = h.0
within_end {B = B} i Fails f xs h k = h
within_end {B = B} i Breaks f xs h k = h
within_end {B = B} i Deep f xs h k = h

within_more : {A : Type 0} (i k : Pieces) (m : Out A) (xs : List Read) → length k ≤ length i → Within k m xs → Within i m xs
within_more i k (Done a r) xs h w = (falls_more (suc (length k)) (suc (length i)) xs (omega (arith, h)) w.0, w.1, omega (arith, h, w.2))
within_more i k Fails xs h w = falls_more (suc (length k)) (suc (length i)) xs (omega (arith, h)) w
within_more i k Breaks xs h w = falls_more (suc (length k)) (suc (length i)) xs (omega (arith, h)) w
within_more i k Deep xs h w = falls_more (suc (length k)) (suc (length i)) xs (omega (arith, h)) w

within_token : (t : Token) (i : Pieces) → Within i (token t i) []
within_token t [] = tt
within_token t (p.Token u ∷ i) = go (same t u)
  where
    go : (b : Bool) → Within {A = Unit {0}} (p.Token u ∷ i) (if b then Done tt i else Fails) []
    go true = (tt, tt, omega arith)
    go false = tt
within_token t (x ∷ i) = tt

not_longer : (sep : Option Token) (i : Pieces) → length (behind sep i) ≤ length i
not_longer None i = omega arith
not_longer (Some s) [] = omega arith
not_longer (Some s) (x ∷ i) = omega arith

module _ (reads : Reading) (never : NeverEmpty reads) (vars : Matchers → List Name) (starts : Matchers → Pieces → Bool) (inner : Matchers → Pieces → Out Bindings)
    (log_in : Matchers → Pieces → List Read) (within : (ms : Matchers) (i : Pieces) → Within i (inner ms i) (log_in ms i)) where
  within_copies : (n : ℕ) (body : Matchers) (sep : Option Token) (found : List Bindings) (i : Pieces)
      → Within i (copies reads vars starts inner n body sep found i) (log_copies reads vars starts inner log_in n body sep i)
  unfolding copies log_copies
  within_copies zero body sep found i = tt
  within_copies (suc n) body sep found i =
      within_then i (inner body i) _ (λ a r. if continues (starts body) sep r then log_copies reads vars starts inner log_in n body sep (behind sep r) else []) (log_in body i) (within body i)
      (λ a r. go a r (continues (starts body) sep r) (within_copies n body sep (found ++ a ∷ []) (behind sep r)))
    where
      go : (a : Bindings) (r : Pieces) (b : Bool)
          → Within (behind sep r) (copies reads vars starts inner n body sep (found ++ a ∷ []) (behind sep r)) (log_copies reads vars starts inner log_in n body sep (behind sep r))
          → Within r (if b then copies reads vars starts inner n body sep (found ++ a ∷ []) (behind sep r) else Done (found ++ a ∷ []) r)
          (if b then log_copies reads vars starts inner log_in n body sep (behind sep r) else [])
      go a r true w = within_more r (behind sep r) (copies reads vars starts inner n body sep (found ++ a ∷ []) (behind sep r)) (log_copies reads vars starts inner log_in n body sep (behind sep r)) (not_longer sep r) w
      go a r false w = (tt, tt, omega arith)

  within_node : (l : Node) (i : Pieces) → Within i (node reads vars starts inner l i) (log_node reads vars starts inner log_in l i)
  unfolding node log_node
  within_node (Matcher-F.Token t) i = within_end i (token t i) (λ u r. Done [] r) [] (within_token t i) (λ u r. (tt, tt, omega arith))
  within_node (Matcher-F.Fragment n kind) i = go (reads kind i) refl
    where
      go : (o : Outcome) → reads kind i ≡ o → Within i (fragment n o) (taken i o)
      go (Takes f r) is = let less : length r < length i = never kind i r f is in ((omega arith, tt), (less, tt), omega (arith, less))
      go CannotStart is = tt
      go NoPrefix is = tt
      go TooDeep is = tt
  within_node (Matcher-F.Delimited o body c) i =
      within_then i (token o i) (λ u r. and_then (inner body r) (λ a s. and_then (token c s) (λ v z. Done a z))) (λ u r. log_in body r) [] (within_token o i)
      (λ u r. within_end r (inner body r) (λ a s. and_then (token c s) (λ v z. Done a z)) (log_in body r) (within body r)
      (λ a s. within_end s (token c s) (λ v z. Done a z) [] (within_token c s) (λ v z. (tt, tt, omega arith))))
  within_node (Matcher-F.Repeat body sep plus) i = go (plus || starts body i)
    where
      go : (b : Bool) → Within i (if b then and_then (copies reads vars starts inner (suc (length i)) body sep [] i) (λ cs r. Done (gather (vars body) cs) r) else Done (gather (vars body) []) i)
          (if b then log_copies reads vars starts inner log_in (suc (length i)) body sep i else [])
      go true = within_end i (copies reads vars starts inner (suc (length i)) body sep [] i) (λ cs r. Done (gather (vars body) cs) r) (log_copies reads vars starts inner log_in (suc (length i)) body sep i)
          (within_copies (suc (length i)) body sep [] i) (λ cs r. (tt, tt, omega arith))
      go false = (tt, tt, omega arith)

  pub within_all : (ms : Matchers) (i : Pieces) → Within i (all reads vars starts inner ms i) (log_all reads vars starts inner log_in ms i)
  unfolding all log_all
  within_all [] i = (tt, tt, omega arith)
  within_all (m ∷ ms) i =
      within_then i (node reads vars starts inner (out-Matcher m) i) (λ x r. and_then (all reads vars starts inner ms r) (λ y s. Done (x ++ y) s)) (λ x r. log_all reads vars starts inner log_in ms r)
      (log_node reads vars starts inner log_in (out-Matcher m) i) (within_node (out-Matcher m) i)
      (λ x r. within_end r (all reads vars starts inner ms r) (λ y s. Done (x ++ y) s) (log_all reads vars starts inner log_in ms r) (within_all ms r) (λ y s. (tt, tt, omega arith)))

pub within_run : (reads : Reading) → NeverEmpty reads → (depth : ℕ) (ms : Matchers) (i : Pieces) → Within i (run reads depth ms i) (log reads depth ms i)
unfolding run log
within_run reads never zero ms i = tt
within_run reads never (suc depth) ms i = within_all reads never (names depth) (first depth) (run reads depth) (log reads depth) (within_run reads never depth) ms i

falls_of : {A : Type 0} (i : Pieces) (m : Out A) (xs : List Read) → Within i m xs → Falling (suc (length i)) xs
falls_of i (Done a r) xs w = w.0
falls_of i Fails xs w = w
falls_of i Breaks xs w = w
falls_of i Deep xs w = w

pub log_falls : (reads : Reading) → NeverEmpty reads → (depth : ℕ) (ms : Matchers) (i : Pieces) → Falling (suc (length i)) (log reads depth ms i)
log_falls reads never depth ms i = falls_of i (run reads depth ms i) (log reads depth ms i) (within_run reads never depth ms i)
