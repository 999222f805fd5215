-- One turn of the loop over the parts behind the block of an `if`.
use Rattle.std.proofs.Common.{◌≡◌, ℕ, suc, ◌+◌, ◌-◌, ◌<◌, ◌≤◌, ◌∙◌, ap, Bool, true, false, not, refl, if◌then◌else◌, arith}
use Rattle.em_tree.specs.Starts.{Pieces}
use Rattle.em_grammar.specs.Reader.{Read, Found, Absent, Deep, and_then}
use Rattle.em_grammar.specs.BranchReader.{ElsePart}
use Rattle.em_read_nodes.specs.declared.branch.Branches.{Branches}
use Rattle.em_read_nodes.specs.Branches as part
use Rattle.em_read.proofs.Turns.{one_more, no_more}

off : (b : Bool) → not b ≡ true → b ≡ false
off true h = cc
off false h = refl

abbrev after : (Pieces → Read ElsePart) → ℕ → Bool → Branches → Pieces → Read Branches
after P n b f r = if b then part.grow P n f r else Found f r

abbrev behind : (Pieces → Read ElsePart) → ℕ → Read (Bool × Branches) → Read Branches
behind P n o = and_then o (λ t r. after P n t.0 t.1 r)

module _ (P : Pieces → Read ElsePart) (n at : ℕ) (f : Branches) (i : Pieces) (x : Read Branches) where
  one : at < n → x ≡ part.grow P (n - at) f i → x ≡ behind P (n - (at + 1)) (part.turn P f i)
  unfolding part.grow
  one below e = one_more (λ k. part.grow P k f i) n at below e

  -- another may follow
  pub goes : (b : Bool) (g : Branches) (r : Pieces) → at < n → x ≡ part.grow P (n - at) f i → part.turn P f i ≡ Found (b, g) r → b ≡ true → x ≡ part.grow P (n - (at + 1)) g r
  goes b g r below e found more = one below e ∙ ap (λ o. behind P (n - (at + 1)) o) found ∙ ap (λ c. after P (n - (at + 1)) c g r) more

  pub ends : (b : Bool) (g : Branches) (r : Pieces) → at < n → x ≡ part.grow P (n - at) f i → part.turn P f i ≡ Found (b, g) r → not b ≡ true → x ≡ Found g r
  ends b g r below e found last = one below e ∙ ap (λ o. behind P (n - (at + 1)) o) found ∙ ap (λ c. after P (n - (at + 1)) c g r) (off b last)

  pub sinks : at < n → x ≡ part.grow P (n - at) f i → part.turn P f i ≡ Deep → x ≡ Deep
  sinks below e found = one below e ∙ ap (λ o. behind P (n - (at + 1)) o) found

  pub lacks : at < n → x ≡ part.grow P (n - at) f i → part.turn P f i ≡ Absent → x ≡ Absent
  lacks below e found = one below e ∙ ap (λ o. behind P (n - (at + 1)) o) found

  pub done : n ≤ at → x ≡ part.grow P (n - at) f i → x ≡ Found f i
  unfolding part.grow
  done above e = no_more (λ k. part.grow P k f i) n at above e
