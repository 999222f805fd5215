use Rattle.std.proofs.Common.{ℕ, ◌<◌, slice_index_or}
use Rattle.em_core.specs.declared.ty.Ty.{Ty}
use Rattle.em_core.specs.Fitting.{Fits}
use Rattle.em_core.proofs.typed.fits.all_fit.Given as goal

abbrev pub invariant-loop-i : goal.invariant-loop-i
invariant-loop-i l = (k : ℕ) (d : Ty) → k < l.i → Fits (slice_index_or l.types k d) (slice_index_or l.wanted k d)
