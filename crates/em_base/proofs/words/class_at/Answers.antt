use Rattle.std.proofs.Common.{◌≡◌, ◌≤◌, ◌<◌, true, false, if◌then◌else◌, arith, sym, ap, ◌∙◌, codes}
use Rattle.std.specs.Str.{bytes_eq}
use Rattle.em_base.specs.declared.words.Class.TheVariants.{Ident, Weak}
use Rattle.em_base.specs.Words.{year}
use Rattle.em_base.proofs.Classes.{class_reached, class_before}
use Rattle.em_base.proofs.words.class_at.Goals as goal

pub returns-then-year : goal.returns-then-year
returns-then-year c =
    let at : year c.args.word.since ≤ year c.args.edition = omega (arith, c.if-year.true, c.year.ensures, c.year-2.ensures) in
    sym (class_reached c.args.edition c.args.word c.requires at)

pub returns-then-eq : goal.returns-then-eq
returns-then-eq c =
    let at : year c.args.edition < year c.args.word.since = omega (arith, c.if-year.false, c.year.ensures, c.year-2.ensures) in
    let is_dyn : bytes_eq c.args.word.text.now (codes "dyn") ≡ true = sym c.eq.ensures ∙ c.if-eq.true in
    sym (class_before c.args.edition c.args.word c.requires at ∙ ap (λ b. if b then Weak else Ident) is_dyn)

pub returns-else-eq : goal.returns-else-eq
returns-else-eq c =
    let at : year c.args.edition < year c.args.word.since = omega (arith, c.if-year.false, c.year.ensures, c.year-2.ensures) in
    let other : bytes_eq c.args.word.text.now (codes "dyn") ≡ false = sym c.eq.ensures ∙ c.if-eq.false in
    sym (class_before c.args.edition c.args.word c.requires at ∙ ap (λ b. if b then Weak else Ident) other)
