-- An answer is the only tree of its yield.
use Rattle.std.proofs.lemmas.List.{append-nil}
use Rattle.std.proofs.Common.{◌≡◌, List, [], sym, ◌∙◌, ap}
use Rattle.em_tree.specs.declared.item.FileTree.{FileTree}
use Rattle.em_tree.specs.declared.item.Item.{Item}
use Rattle.em_tree.specs.Parts.{each}
use Rattle.em_tree.specs.ItemGrammar.{item_pieces}
use Rattle.em_grammar.specs.Laws.{GroupsNest}
use Rattle.em_grammar.specs.ExprLaws.{OneBody}
use Rattle.em_grammar.specs.ItemLaws.{FilesRead}
use Rattle.em_parse.specs.Calls.{most}
use Rattle.em_parse.specs.Laws.{FilesAreOne, ListsAreOne, BodiesAreOne, FragmentsAreOne}
use Rattle.em_parse.specs.Parts.{Readings}
use Rattle.em_parse.proofs.OwnYields.{one_fragment}

pub files_one : FilesRead → FilesAreOne
files_one files tokens x h = record { yields = sym h.yields; only = λ d y m is. files.one d most y x m h.tree (is ∙ h.yields) }

-- the items as a file
abbrev file : List Item → FileTree
file xs = record { attributes = []; items = xs }

pub lists_one : FilesRead → ListsAreOne
lists_one files i xs h =
    let yields : i ≡ each item_pieces xs = h.yields ∙ append-nil (each item_pieces xs) in
    record { yields = sym yields; only = λ d ys m is. ap (λ x. x.items) (files.one d most (file ys) (file xs) (tt, m) (tt, h.trees) (is ∙ yields)) }

pub bodies_one : OneBody → BodiesAreOne
bodies_one one i x m is = record { yields = sym is; only = λ d y q same. one d most y x q m (same ∙ is) }

pub fragments_one : Readings → GroupsNest → FragmentsAreOne
fragments_one k nest kind edition i x h =
    let reads = h.begins.2.reads in
    record { yields = sym reads.yields; only = λ d y q is. one_fragment k nest edition d most y x.node (q.0 ∙ sym h.begins.1) q.1 reads.tree (is ∙ reads.yields) }
