-- A program with all that is found in it applied is moved.
use Rattle.std.proofs.Common.{[], true, false, ◌≤◌, ◌<◌, ◌+◌, ◌^◌, suc, arith, length, map, filter, cond, Bool, ◌∷◌, ◌≡◌, ℕ, List, refl, subst, ap, ◌∙◌}
use Rattle.em_base.specs.declared.edit.Suggestion.{Suggestion}
use Rattle.em_base.specs.declared.edition.Edition.{Edition}
use Rattle.em_base.specs.declared.edition.Edition.TheVariants.{E2015, E2018}
use Rattle.em_base.specs.declared.token.Token.{Token}
use Rattle.em_edit.specs.Edited.{edited}
use Rattle.em_first.specs.Events.{Events, first_events}
use Rattle.em_first.specs.Form.{Statement, FirstCore}
use Rattle.em_first.specs.Keyword.{findings, finding, is_found}
use Rattle.em_first.specs.Laws.{OneCore, KeepsCore, NothingLeft, EditedLexes}
use Rattle.em_lex.specs.Laws.{OneLexing, TokensInText, LieInOrder}
use Rattle.em_lex.specs.Lexing.{Lexes}
use Rattle.em_lex.specs.Marking.{moved}
use Rattle.em_fix.specs.Source.{IsProgram, Prints, EditsMove}

-- a program prints what its statements print
one_print : OneLexing → OneCore → (edition : Edition) (text : List ℕ) (tokens : List Token) (core : List Statement) (n : ℕ) (events : Events) → IsProgram edition text tokens core → Prints edition text n events → events ≡ first_events core n
one_print lexing one edition text tokens core n events program p =
    let same : p.tokens ≡ tokens = lexing 0 edition text p.tokens tokens p.program.lexes program.lexes in
    let form : FirstCore edition tokens p.core = subst (λ ts. FirstCore edition ts p.core) same p.program.form in
    p.prints ∙ ap (λ c. first_events c n) (one edition tokens p.core core form program.form)

-- two programs of the same statements print the same
prints_too : OneLexing → OneCore → (from to : Edition) (old new : List ℕ) (old_tokens new_tokens : List Token) (core : List Statement) (n : ℕ) (events : Events) → IsProgram from old old_tokens core → IsProgram to new new_tokens core → Prints from old n events → Prints to new n events
prints_too lexing one from to old new old_tokens new_tokens core n events before now p =
    record { tokens = new_tokens; core = core; program = now; prints = one_print lexing one from old old_tokens core n events before p }

pub edits_move : OneLexing → OneCore → KeepsCore → NothingLeft → EditedLexes → EditsMove
edits_move lexing one keeps nothing lexes old tokens h form =
    let new : List ℕ = edited 0 (findings tokens) old in
    let before : IsProgram E2015 old tokens form.0 = record { lexes = h; form = form.1 } in
    let now : IsProgram E2018 new (moved is_found E2018 0 tokens) form.0 = record { lexes = lexes 0 old tokens h; form = keeps 0 tokens form.0 form.1 } in
    record {
      tokens = tokens;
      new_tokens = moved is_found E2018 0 tokens;
      core = form.0;
      program = before;
      all_found = refl;
      edits = refl;
      new_program = now;
      silent = nothing 0 tokens;
      same_prints = λ n events. (λ p. prints_too lexing one E2015 E2018 old new tokens (moved is_found E2018 0 tokens) form.0 n events before now p, λ p. prints_too lexing one E2018 E2015 new old (moved is_found E2018 0 tokens) tokens form.0 n events now before p);
    }

-- tokens that lie in a text from an offset on are no more than its bytes from there on
few_tokens : (file : ℕ) (edition : Edition) (offset : ℕ) (text : List ℕ) (ts : List Token) → offset ≤ length text → LieInOrder file edition offset text ts → offset + length ts ≤ length text
few_tokens file edition offset text [] le h = omega (arith, le)
few_tokens file edition offset text (t ∷ ts) le h =
    let rest = few_tokens file edition t.span.end text ts h.0.within h.1 in
    let behind = h.0.behind in
    let some = h.0.some in
    omega (arith, rest, behind, some)

found_among : (ts : List Token) → length (findings ts) ≤ length ts
found_among [] = omega arith
found_among (t ∷ ts) = here (is_found t) (found_among ts)
  where
    here : (c : Bool) → length (findings ts) ≤ length ts → length (map finding (cond c (t ∷ filter is_found ts) (filter is_found ts))) ≤ suc (length ts)
    here true h = omega (arith, h)
    here false h = omega (arith, h)

-- there are no more findings than bytes
pub few_findings : TokensInText → (text : List ℕ) (ts : List Token) (found : List Suggestion) → Lexes 0 E2015 text ts → found ≡ findings ts → length text ≤ 4194304 → length found < 2 ^ 32
few_findings lie text ts found h is short =
    let lies = lie 0 E2015 text ts h in
    let few = few_tokens 0 E2015 0 text ts (omega arith) lies in
    let among = found_among ts in
    let same : length found ≡ length (findings ts) = ap length is in
    omega (arith, few, among, same, short)
