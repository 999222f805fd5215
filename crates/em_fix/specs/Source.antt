-- What a migration makes of a source, and that it prints the same.
use Rattle.std.specs.Prelude.{◌≡◌, ◌↔◌, ℕ, List, []}
use Rattle.em_base.specs.declared.edit.Suggestion.{Suggestion}
use Rattle.em_base.specs.declared.edition.Edition.{Edition}
use Rattle.em_base.specs.declared.edition.Edition.TheVariants.{E2015, E2018}
use Rattle.em_base.specs.declared.token.Token.{Token}
use Rattle.em_edit.specs.Edited.{edited}
use Rattle.em_first.specs.Events.{Events, first_events}
use Rattle.em_first.specs.Form.{Statement, FirstCore, FirstForm}
use Rattle.em_first.specs.Keyword.{findings}
use Rattle.em_base.specs.declared.place.Place.{Place}
use Rattle.em_lex.specs.declared.error.LexKind.{LexKind}
use Rattle.em_lex.specs.Lexing.{Lexes, FirstFault}
use Rattle.em_parse.specs.Calls.{IsWhole, NoItemAt, DeepItemAt}
use Rattle.em_tree.specs.declared.item.FileTree.{FileTree}

-- a text has these tokens under an edition, and they are a program of the first form of these statements
pub record IsProgram (edition : Edition) (text : List ℕ) (tokens : List Token) (core : List Statement) : Type 0 where
  pub lexes : Lexes 0 edition text tokens
  pub form : FirstCore edition tokens core

-- a text has tokens under 2015, and they are a file of the grammar and no program of the first form
pub record IsNoProgram (text : List ℕ) : Type 0 where
  pub tokens : List Token
  pub lexes : Lexes 0 E2015 text tokens
  pub tree : FileTree
  pub whole : IsWhole tokens tree
  pub no_form : FirstForm E2015 tokens → ⊥

-- a text has no tokens under 2015: this is its first fault
pub record IsFault (text : List ℕ) (place : Place) (kind : LexKind) : Type 0 where
  pub file : place.file ≡ 0
  pub first : FirstFault E2015 text kind place.offset

-- a text has tokens under 2015, and at this place an item should begin and none of any depth does
pub record IsNoFile (text : List ℕ) (place : Place) : Type 0 where
  pub file : place.file ≡ 0
  pub tokens : List Token
  pub lexes : Lexes 0 E2015 text tokens
  pub none : NoItemAt tokens place.offset

-- a text has tokens under 2015, and reading an item of theirs comes too deep
pub record IsDeepFile (text : List ℕ) : Type 0 where
  pub tokens : List Token
  pub lexes : Lexes 0 E2015 text tokens
  pub offset : ℕ
  pub deep : DeepItemAt tokens offset

-- a text is a program of the first form under an edition, whose first n statements print this
pub record Prints (edition : Edition) (text : List ℕ) (n : ℕ) (events : Events) : Type 0 where
  pub tokens : List Token
  pub core : List Statement
  pub program : IsProgram edition text tokens core
  pub prints : events ≡ first_events core n

-- the new source is the old one with all that was found applied to it; both are programs of the same statements, nothing is found in
-- the new one, and after any number of statements both print the same
pub record MovesSource (old new : List ℕ) (found : List Suggestion) : Type 0 where
  pub tokens : List Token
  pub new_tokens : List Token
  pub core : List Statement
  pub program : IsProgram E2015 old tokens core
  pub all_found : found ≡ findings tokens
  pub edits : new ≡ edited 0 found old
  pub new_program : IsProgram E2018 new new_tokens core
  pub silent : findings new_tokens ≡ []
  pub same_prints : (n : ℕ) (events : Events) → (Prints E2015 old n events) ↔ (Prints E2018 new n events)

-- any program with all that is found in it applied is moved
abbrev pub EditsMove : Type 0
EditsMove = (old : List ℕ) (tokens : List Token) → Lexes 0 E2015 old tokens → FirstForm E2015 tokens → MovesSource old (edited 0 (findings tokens) old) (findings tokens)
