use Rattle.std.proofs.Common.{◌≡◌, ◌++◌, drop}
use Rattle.em_tree.specs.Parts.{each, field_pat_parts, listed_parts, pat_parts}
use Rattle.em_tree.specs.Yields.{one, inside, opened}
use Rattle.em_tree.proofs.put_pat.+pats.Given as goal

abbrev pub invariant-put_pats-loop-part : goal.invariant-put_pats-loop-part
invariant-put_pats-loop-part l = l.out ++ each (listed_parts one inside opened (pat_parts one inside opened)) (drop l.part-index l.list) ≡ l.fn.out ++ each (listed_parts one inside opened (pat_parts one inside opened)) l.list

abbrev pub invariant-put_field_pats-loop-part : goal.invariant-put_field_pats-loop-part
invariant-put_field_pats-loop-part l = l.out ++ each (listed_parts one inside opened (field_pat_parts one inside opened (pat_parts one inside opened))) (drop l.part-index l.list) ≡ l.fn.out ++ each (listed_parts one inside opened (field_pat_parts one inside opened (pat_parts one inside opened))) l.list
