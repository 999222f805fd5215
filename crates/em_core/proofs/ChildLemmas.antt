-- The bodies of arms, by number.
use Rattle.std.proofs.Common.{◌≡◌, ℕ, zero, suc, ◌<◌, List, [], ◌∷◌, length, map, Some, None, refl, arith}
use Rattle.std.specs.Prelude.{slice_get, slice_index_or}
use Rattle.em_core.specs.declared.expr.Arm.{Arm, out-Arm}

pub arm_there : (arms : List Arm) (k : ℕ) (d : Arm) → k < length arms → Some (out-Arm (slice_index_or arms k d)).body ≡ slice_get (map (λ x. (out-Arm x).body) arms) k
arm_there [] k d h = absurd (grind arith)
arm_there (a ∷ rest) zero d h = refl
arm_there (a ∷ rest) (suc k) d h = arm_there rest k d (grind arith)

pub arm_past : (arms : List Arm) (k : ℕ) → (k < length arms → ⊥) → None ≡ slice_get (map (λ x. (out-Arm x).body) arms) k
arm_past [] k h = refl
arm_past (a ∷ rest) zero h = absurd (h (grind arith))
arm_past (a ∷ rest) (suc k) h = arm_past rest k (λ q. h (grind arith))
