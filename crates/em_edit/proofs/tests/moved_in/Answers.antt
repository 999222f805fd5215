use Rattle.std.proofs.Common.{ℕ, ◌<◌, ◌^◌, List, length, sym, subst, arith}
use Rattle.em_edit.proofs.Files.{edited_of}
use Rattle.em_edit.proofs.tests.moved_in.Goals as goal

pub moved-requires : goal.moved-requires
moved-requires c =
    let same = edited_of c.args.taken.now c.args.sources.now c.in_ok-new.new c.args.span.file c.in-Some.text.now c.in-Some-get.edited.now c.in-Some.ensures.value c.in_ok-new.ensures.edited c.in-Some-get.ensures.value in
    record {
      sources = c.args.sources.now;
      text = c.in-Some.text.now;
      fit = c.in_ok-new.ensures.applicable;
      file = sym c.in-Some.ensures.value;
      ordered = c.if-span.true;
      within = omega (arith, c.if-span-len.true, c.len.ensures);
      short = subst (λ (t : List ℕ). length t < 2 ^ 32) same (omega (arith, c.if-len-lt4294967296.true, c.len-then-span-len.ensures));
    }
