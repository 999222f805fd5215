use Rattle.std.proofs.Common.{◌≡◌, ℕ, take, drop, ap, ◌∙◌, subst, arith, rules}
use Rattle.em_lex.specs.Characters.{Chars}
use Rattle.em_lex.specs.Lexing.{byte_len}
use Rattle.em_lex.specs.Walk.{mark_len, LexesFrom, RefusedFrom, RefusedText}
use Rattle.em_lex.proofs.WalkLemmas.{byte_len-cut}
use Rattle.em_lex.proofs.TextLemmas.{lexes_text, refused_text, text_scalars, text_encoded, text_bytes}
use Rattle.em_lex.proofs.lexer.lex_text.Goals as goal

mark_is : (cs d : Chars) (mark : ℕ) → mark ≡ mark_len d → d ≡ cs → mark ≡ mark_len cs
mark_is cs d mark m is = m ∙ ap mark_len is

start_is : (cs d f : Chars) (mark start : ℕ) → mark ≡ mark_len cs → d ≡ cs → f ≡ take mark d → start ≡ byte_len f → start ≡ byte_len (take (mark_len cs) cs)
start_is cs d f mark start m is front value = value ∙ ap byte_len (front ∙ ap (take mark) is ∙ ap (λ n. take n cs) m)

rest_is : (cs d r : Chars) (mark : ℕ) → mark ≡ mark_len cs → d ≡ cs → r ≡ drop mark d → r ≡ drop (mark_len cs) cs
rest_is cs d r mark m is rest = rest ∙ ap (drop mark) is ∙ ap (λ n. drop n cs) m

pub lex_chars-requires : goal.lex_chars-requires
lex_chars-requires c =
    let cs : Chars = c.in_ok-cs.cs.items in
    let m : c.mark_len-mark.result ≡ mark_len cs = mark_is cs c.deref.result.now c.mark_len-mark.result c.mark_len-mark.ensures.mark c.deref.ensures.value in
    let s : c.byte_len-start.result ≡ byte_len (take (mark_len cs) cs) = start_is cs c.deref-2.result.now c.front.result.now c.mark_len-mark.result c.byte_len-start.result m c.deref-2.ensures.value c.front.ensures c.byte_len-start.ensures.value in
    let r : c.rest_from.result.now ≡ drop (mark_len cs) cs = rest_is cs c.deref-3.result.now c.rest_from.result.now c.mark_len-mark.result m c.deref-3.ensures.value c.rest_from.ensures in
    let bytes = ap byte_len r in
    let cut = byte_len-cut (mark_len cs) cs in
    let all = text_bytes c.args.text.now cs c.utf8.text c.in_ok-cs.ensures in
    record { fits = omega (arith, s, bytes, cut, all, c.requires) }

pub returns-in_err-list-clause-refused : goal.returns-in_err-list-clause-refused
returns-in_err-list-clause-refused c =
    let cs : Chars = c.in_ok-cs.cs.items in
    let m : c.mark_len-mark.result ≡ mark_len cs = mark_is cs c.deref.result.now c.mark_len-mark.result c.mark_len-mark.ensures.mark c.deref.ensures.value in
    let s : c.byte_len-start.result ≡ byte_len (take (mark_len cs) cs) = start_is cs c.deref-2.result.now c.front.result.now c.mark_len-mark.result c.byte_len-start.result m c.deref-2.ensures.value c.front.ensures c.byte_len-start.ensures.value in
    let r : c.rest_from.result.now ≡ drop (mark_len cs) cs = rest_is cs c.deref-3.result.now c.rest_from.result.now c.mark_len-mark.result m c.deref-3.ensures.value c.rest_from.ensures in
    let given : RefusedFrom c.args.edition c.byte_len-start.result (drop (mark_len cs) cs) c.in_err-list.field-0.0 = subst (λ x. RefusedFrom c.args.edition c.byte_len-start.result x c.in_err-list.field-0.0) r c.in_err-list.ensures.refused in
    let e : RefusedText c.args.edition c.args.text.now c.in_err-list.field-0.0 =
    refused_text c.args.edition c.args.text.now cs c.byte_len-start.result c.in_err-list.field-0.0 (text_scalars c.args.text.now cs c.utf8.text c.in_ok-cs.ensures) (text_encoded c.args.text.now cs c.utf8.text c.in_ok-cs.ensures) s given in
    search rules

pub returns-clause-tokens : goal.returns-clause-tokens
returns-clause-tokens c =
    let cs : Chars = c.in_ok-cs.cs.items in
    let m : c.mark_len-mark.result ≡ mark_len cs = mark_is cs c.deref.result.now c.mark_len-mark.result c.mark_len-mark.ensures.mark c.deref.ensures.value in
    let s : c.byte_len-start.result ≡ byte_len (take (mark_len cs) cs) = start_is cs c.deref-2.result.now c.front.result.now c.mark_len-mark.result c.byte_len-start.result m c.deref-2.ensures.value c.front.ensures c.byte_len-start.ensures.value in
    let r : c.rest_from.result.now ≡ drop (mark_len cs) cs = rest_is cs c.deref-3.result.now c.rest_from.result.now c.mark_len-mark.result m c.deref-3.ensures.value c.rest_from.ensures in
    let given : LexesFrom c.args.file c.args.edition c.byte_len-start.result (drop (mark_len cs) cs) c.in_ok-list.list = subst (λ x. LexesFrom c.args.file c.args.edition c.byte_len-start.result x c.in_ok-list.list) r c.in_ok-list.ensures.tokens in
    lexes_text c.args.file c.args.edition c.args.text.now cs c.byte_len-start.result c.in_ok-list.list (text_scalars c.args.text.now cs c.utf8.text c.in_ok-cs.ensures) (text_encoded c.args.text.now cs c.utf8.text c.in_ok-cs.ensures) s given
