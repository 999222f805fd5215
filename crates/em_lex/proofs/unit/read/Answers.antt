use Rattle.std.proofs.Common.{◌≡◌, ℕ, Bool, Option, Some, None, drop, refl, sym, ap, ◌∙◌, arith}
use Rattle.em_lex.specs.Characters.{Chars}
use Rattle.em_lex.specs.declared.piece.Form.{Form}
use Rattle.em_lex.specs.declared.piece.Unit.{Unit as Part}
use Rattle.em_lex.specs.Scan.{unit_at}
use Rattle.em_lex.proofs.ReadOn.{reading_more, reading_bad, reading_end}
use Rattle.em_lex.proofs.unit.read.Goals as goal

none_at : (byte : Bool) (form : Form) (cs rest : Chars) (at : ℕ) (o : Option Part) → o ≡ unit_at byte form rest → rest ≡ drop at cs → ((unit : Part) → o ≡ Some unit → ⊥) → unit_at byte form (drop at cs) ≡ None
none_at byte form cs rest at None e r h = ap (unit_at byte form) (sym r) ∙ sym e
none_at byte form cs rest at (Some unit) e r h = absurd (h unit refl)

some_at : (byte : Bool) (form : Form) (cs rest : Chars) (at : ℕ) (o : Option Part) (unit : Part) → o ≡ unit_at byte form rest → rest ≡ drop at cs → o ≡ Some unit → unit_at byte form (drop at cs) ≡ Some unit
some_at byte form cs rest at o unit e r h = ap (unit_at byte form) (sym r) ∙ sym e ∙ h

pub returns-in_default-clause-value : goal.returns-in_default-clause-value
returns-in_default-clause-value c =
    (reading_bad c.args.byte c.args.form c.args.cs.now c.units.at _ _ c.units-test.true (none_at c.args.byte c.args.form c.args.cs.now c.rest_from.result.now c.units.at c.unit_at.result c.unit_at.ensures.value c.rest_from.ensures c.in_default.not-Some) c.units.invariant.0).value_is

pub units-preserved : goal.units-preserved
units-preserved c =
    let f = reading_more c.args.byte c.args.form c.args.cs.now c.units.at _ _ _ c.in-Some.unit c.units-test.true (some_at c.args.byte c.args.form c.args.cs.now c.rest_from.result.now c.units.at c.unit_at.result c.in-Some.unit c.unit_at.ensures.value c.rest_from.ensures c.in-Some.is) c.units.invariant.0 c.in_ok-keep.ensures in
    (f.goes, f.within)

pub returns-clause-value : goal.returns-clause-value
returns-clause-value c = (reading_end c.args.byte c.args.form c.args.cs.now c.units.at _ _ (omega (arith, c.units-test.false)) c.units.invariant.0).value_is
