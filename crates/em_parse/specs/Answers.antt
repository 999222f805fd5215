-- What each call answers, and why it refuses.
use Rattle.std.specs.Prelude.{◌≡◌, false, List, [], Result, IfOk, IfErr}
use Rattle.em_base.specs.declared.edition.Edition.{Edition}
use Rattle.em_base.specs.declared.token.Token.{Token}
use Rattle.em_tree.specs.declared.expr.Body.{Body}
use Rattle.em_tree.specs.declared.fragment.FragError.{FragError}
use Rattle.em_tree.specs.declared.fragment.FragError.TheVariants as frag
use Rattle.em_tree.specs.declared.fragment.Fragment.{Fragment}
use Rattle.em_tree.specs.declared.item.FileTree.{FileTree}
use Rattle.em_tree.specs.declared.item.Item.{Item}
use Rattle.em_tree.specs.declared.piece.FragmentKind.{FragmentKind}
use Rattle.em_tree.specs.Starts.{Pieces, starts}
use Rattle.em_parse.specs.declared.error.ParseError.{ParseError}
use Rattle.em_parse.specs.declared.error.ParseError.TheVariants as parse
use Rattle.em_parse.specs.Calls.{AreItems, AreNoItems, AreDeepItems, IsWhole, NoItemAt, DeepItemAt, IsWholeBody, IsDeepBody, IsNoBody, IsLongest, IsBroken, IsDeepFragment}

-- ---- why a call refuses

abbrev pub FileRefuses : List Token → ParseError → Type 0
FileRefuses tokens parse.NoMemory = Unit {0}
FileRefuses tokens (parse.NoItem offset) = NoItemAt tokens offset
FileRefuses tokens (parse.Depth offset) = DeepItemAt tokens offset

abbrev pub ItemsRefuse : Pieces → FragError → Type 0
ItemsRefuse i frag.NoMemory = Unit {0}
ItemsRefuse i frag.CannotStart = ⊥
ItemsRefuse i frag.Broken = AreNoItems i
ItemsRefuse i frag.Depth = AreDeepItems i

abbrev pub BodyRefuses : Pieces → FragError → Type 0
BodyRefuses i frag.NoMemory = Unit {0}
BodyRefuses i frag.CannotStart = ⊥
BodyRefuses i frag.Broken = IsNoBody i
BodyRefuses i frag.Depth = IsDeepBody i

abbrev pub FragmentRefuses : FragmentKind → Edition → Pieces → FragError → Type 0
FragmentRefuses kind edition i frag.NoMemory = Unit {0}
FragmentRefuses kind edition i frag.CannotStart = starts kind edition i ≡ false
FragmentRefuses kind edition i frag.Broken = IsBroken kind edition i
FragmentRefuses kind edition i frag.Depth = IsDeepFragment kind edition i

-- ---- what a call answers, by its two clauses

abbrev pub FileAnswer : List Token → Result FileTree ParseError → Type 0
FileAnswer tokens r = IfOk r (IsWhole tokens) × IfErr r (FileRefuses tokens)

abbrev pub ListAnswer : Pieces → Result (List Item) FragError → Type 0
ListAnswer i r = IfOk r (λ xs. AreItems i xs []) × IfErr r (ItemsRefuse i)

abbrev pub BodyAnswer : Pieces → Result Body FragError → Type 0
BodyAnswer i r = IfOk r (IsWholeBody i) × IfErr r (BodyRefuses i)

abbrev pub FragmentAnswer : FragmentKind → Edition → Pieces → Result Fragment FragError → Type 0
FragmentAnswer kind edition i r = IfOk r (IsLongest kind edition i) × IfErr r (FragmentRefuses kind edition i)
