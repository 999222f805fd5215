-- Readers that look at what they found.
use Rattle.std.specs.Prelude.{Bool, if◌then◌else◌}
use Rattle.em_tree.specs.Starts.{Pieces}
use Rattle.em_grammar.specs.Reader.{Read, Found, Absent, and_then}

-- what was found, if it passes a test
abbrev pub kept : {A : Type 0} → (A → Bool) → (Pieces → Read A) → Pieces → Read A
kept test P i = and_then (P i) (λ a r. if test a then Found a r else Absent)
