use Rattle.em_manifest.proofs.Only.{none_only, more_of, header_of_one}
use Rattle.em_manifest.specs.Lines.{is_header, lines}
use Rattle.em_manifest.proofs.change.the_header.Goals as goal

pub returns-in_default : goal.returns-in_default
returns-in_default c = none_only is_header (lines c.args.bytes.now) c.in_default.ensures

pub returns-in-Some-next_header : goal.returns-in-Some-next_header
returns-in-Some-next_header c = more_of is_header _ _ _ c.args.bytes.now 0 _ _ _ c.in-Some.ensures c.in-Some-next_header.ensures

pub returns-in-None : goal.returns-in-None
returns-in-None c = header_of_one c.args.bytes.now c.in-Some.header c.in-Some.ensures c.in-None.ensures
