use Rattle.std.proofs.Common.{◌∷◌, [], refl}
use Rattle.em_tree.specs.declared.piece.Piece.TheVariants as p
use Rattle.em_tree.specs.Parts.{macro_call_parts}
use Rattle.em_tree.specs.Yields.{piece, whole, as_it_is}
use Rattle.em_tree.proofs.Edges.{last_stmt_macro, last_stmt_group}
use Rattle.em_tree.proofs.last.last_stmt.Goals as goal

pub returns-in-Macro : goal.returns-in-Macro
returns-in-Macro c =
    last_stmt_macro c.args.tree.now c.in-Macro.call c.in-Macro.semi _ c.in-Macro.is
    (c.last_or-in-Macro.ensures (macro_call_parts piece whole as_it_is c.in-Macro.call) c.last_macro_call.ensures)

pub returns-in-Group : goal.returns-in-Group
returns-in-Group c =
    last_stmt_group c.args.tree.now c.in-Group.group c.in-Group.inner c.in-Group.semi _ c.in-Group.is
    (c.last_or-in-Group.ensures (p.Group c.in-Group.group ∷ []) refl)
