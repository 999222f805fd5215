use Rattle.std.proofs.Common.{refl, arith, rules}
use Rattle.em_lex.specs.Scan.{step}
use Rattle.em_lex.specs.Walk.{RefusedFrom}
use Rattle.em_lex.proofs.WalkLemmas.{length-byte_len, rest_some, walk_more, walk_fails, walk_fits, walk_done}
use Rattle.em_lex.proofs.lexer.lex_chars.Goals as goal

pub advance-requires-clause-small : goal.advance-requires-clause-small
advance-requires-clause-small c =
    let f = walk_fits c.args.file c.args.edition c.args.offset c.args.cs.now c.rest_from-rest.result.now c.pieces.at c.pieces.list c.pieces.place c.pieces.invariant.0 c.rest_from-rest.ensures in
    let l = length-byte_len c.rest_from-rest.result.now in
    omega (arith, f, l, c.requires.fits)

pub advance-requires-clause-some : goal.advance-requires-clause-some
advance-requires-clause-some c =
    let r = rest_some c.args.cs.now c.rest_from-rest.result.now c.pieces.at c.pieces-test.true c.rest_from-rest.ensures in
    omega (arith, r)

pub advance-requires-clause-fits : goal.advance-requires-clause-fits
advance-requires-clause-fits c =
    let f = walk_fits c.args.file c.args.edition c.args.offset c.args.cs.now c.rest_from-rest.result.now c.pieces.at c.pieces.list c.pieces.place c.pieces.invariant.0 c.rest_from-rest.ensures in
    omega (arith, f, c.requires.fits)

pub returns-in_err-next-clause-refused : goal.returns-in_err-next-clause-refused
returns-in_err-next-clause-refused c =
    let e : RefusedFrom c.args.edition c.args.offset c.args.cs.now c.in_err-next.field-0.0 = walk_fails c.args.file c.args.edition c.args.offset c.args.cs.now c.rest_from-rest.result.now c.pieces.at c.pieces.list c.pieces.place (step c.args.edition c.pieces.place.dot c.rest_from-rest.result.now) c.in_err-next.field-0.0 c.pieces.invariant.0 c.pieces-test.true c.rest_from-rest.ensures refl c.in_err-next.ensures.refused in
    search rules

pub overflow_add-at : goal.overflow_add-at
overflow_add-at c =
    let m = walk_more c.args.file c.args.edition c.args.offset c.args.cs.now c.rest_from-rest.result.now c.pieces.at c.pieces.list c.advance.new.list c.pieces.place c.in_ok-next.next (step c.args.edition c.pieces.place.dot c.rest_from-rest.result.now) c.in_ok-next.len c.pieces.invariant.0 c.pieces-test.true c.rest_from-rest.ensures refl c.in_ok-next.ensures.kept in
    let l = length-byte_len c.args.cs.now in
    omega (arith, m.within, l, c.requires.fits)

pub pieces-smaller : goal.pieces-smaller
pieces-smaller c =
    let m = walk_more c.args.file c.args.edition c.args.offset c.args.cs.now c.rest_from-rest.result.now c.pieces.at c.pieces.list c.advance.new.list c.pieces.place c.in_ok-next.next (step c.args.edition c.pieces.place.dot c.rest_from-rest.result.now) c.in_ok-next.len c.pieces.invariant.0 c.pieces-test.true c.rest_from-rest.ensures refl c.in_ok-next.ensures.kept in
    omega (arith, m.within, m.some)

pub pieces-preserved : goal.pieces-preserved
pieces-preserved c =
    let m = walk_more c.args.file c.args.edition c.args.offset c.args.cs.now c.rest_from-rest.result.now c.pieces.at c.pieces.list c.advance.new.list c.pieces.place c.in_ok-next.next (step c.args.edition c.pieces.place.dot c.rest_from-rest.result.now) c.in_ok-next.len c.pieces.invariant.0 c.pieces-test.true c.rest_from-rest.ensures refl c.in_ok-next.ensures.kept in
    (m.far, m.within)

pub returns-clause-tokens : goal.returns-clause-tokens
returns-clause-tokens c = walk_done c.args.file c.args.edition c.args.offset c.args.cs.now c.pieces.at c.pieces.list c.pieces.place c.pieces.invariant.0 c.pieces-test.false
