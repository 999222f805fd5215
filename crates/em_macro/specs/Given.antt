-- What the functions that match ensure.
use Rattle.std.specs.Prelude.{◌≡◌, ◌≤◌, length, drop, Result, Ok, Err}
use Rattle.em_macro.specs.declared.matched.Taken.{Taken}
use Rattle.em_tree.specs.declared.fragment.FragError.{FragError}
use Rattle.em_tree.specs.declared.fragment.FragError.TheVariants as f
use Rattle.em_tree.specs.declared.piece.PieceList.{out-PieceList}
use Rattle.em_tree.specs.Starts.{Pieces}
use Rattle.em_macro.specs.declared.error.Stop.{Stop}
use Rattle.em_macro.specs.declared.error.Stop.TheVariants as s
use Rattle.em_macro.specs.Match.{Outcome, Takes, CannotStart, NoPrefix, TooDeep}
use Rattle.em_macro.specs.Run.{Out, Done, Fails, Breaks, Deep}

abbrev pub pieces_in : Taken → Pieces
pieces_in f = (out-PieceList f.pieces).list

-- a fragment takes the pieces that it counts. Want of memory says nothing.
abbrev pub ReadsFragment : Outcome → Pieces → Result Taken FragError → Type 0
ReadsFragment out i (Ok f) = (out ≡ Takes f (drop (length (pieces_in f)) i)) × (length (pieces_in f) ≤ length i)
ReadsFragment out i (Err f.CannotStart) = out ≡ CannotStart
ReadsFragment out i (Err f.Broken) = out ≡ NoPrefix
ReadsFragment out i (Err f.Depth) = out ≡ TooDeep
ReadsFragment out i (Err f.NoMemory) = Unit {0}

-- what the pass gives, and the pieces that are left
abbrev pub Gives : {T : Type 0} → Out T → Result T Stop → Pieces → Type 0
Gives out (Ok t) new = out ≡ Done t new
Gives out (Err s.Fails) new = out ≡ Fails
Gives out (Err s.Broken) new = out ≡ Breaks
Gives out (Err s.Depth) new = out ≡ Deep
Gives out (Err s.NoMemory) new = Unit {0}
