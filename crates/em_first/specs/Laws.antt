-- Laws of programs of the first form.
use Rattle.std.specs.Prelude.{◌≡◌, ℕ, List, [], ◌∷◌, map}
use Rattle.em_base.specs.declared.edition.Edition.{Edition}
use Rattle.em_base.specs.declared.edition.Edition.TheVariants.{E2015, E2018}
use Rattle.em_base.specs.declared.token.Token.{Token}
use Rattle.em_edit.specs.Edited.{edited}
use Rattle.em_edit.specs.Fit.{AreApplicable}
use Rattle.em_lex.specs.Lexing.{Lexes}
use Rattle.em_lex.specs.Marking.{moved}
use Rattle.em_tree.specs.declared.item.FileTree.{FileTree}
use Rattle.em_tree.specs.declared.piece.Piece.TheVariants as p
use Rattle.em_tree.specs.ItemGrammar.{IsFile, file_pieces}
use Rattle.em_first.specs.Keyword.{is_found, findings}
use Rattle.em_first.specs.Form.{Statement, FirstCore, FirstForm}
use Rattle.em_first.specs.Events.{first_events}

-- a program of 2015 is one of 2018 with the same statements where the words that 2018 takes are raw
abbrev pub KeepsCore : Type 0
KeepsCore = (by : ℕ) (ts : List Token) (core : List Statement) → FirstCore E2015 ts core → FirstCore E2018 (moved is_found E2018 by ts) core

-- a program has one list of statements
abbrev pub OneCore : Type 0
OneCore = (edition : Edition) (ts : List Token) (c d : List Statement) → FirstCore edition ts c → FirstCore edition ts d → c ≡ d

-- no word that 2018 takes is left
abbrev pub NothingLeft : Type 0
NothingLeft = (by : ℕ) (ts : List Token) → findings (moved is_found E2018 by ts) ≡ []

-- the findings of a text can be applied to it
abbrev pub FindingsFit : Type 0
FindingsFit = (text : List ℕ) (ts : List Token) → Lexes 0 E2015 text ts → AreApplicable (text ∷ []) (findings ts)

-- the text after the findings has the moved tokens
abbrev pub EditedLexes : Type 0
EditedLexes = (file : ℕ) (text : List ℕ) (ts : List Token) → Lexes file E2015 text ts → Lexes file E2018 (edited file (findings ts) text) (moved is_found E2018 0 ts)

-- equal statements print the same after any number of them
abbrev pub KeepsEvents : Type 0
KeepsEvents = (by : ℕ) (ts : List Token) (old new : List Statement) → FirstCore E2015 ts old → FirstCore E2018 (moved is_found E2018 by ts) new → (n : ℕ) → first_events old n ≡ first_events new n

-- the tokens of a text that are a program of the first form are a file of the grammar
abbrev pub ProgramsAreFiles : Type 0
ProgramsAreFiles =
    (text : List ℕ) (tokens : List Token) → Lexes 0 E2015 text tokens → FirstForm E2015 tokens
    → (x : FileTree) × IsFile 200 x × (map p.Token tokens ≡ file_pieces x)
