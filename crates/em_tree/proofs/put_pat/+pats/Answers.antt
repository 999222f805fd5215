use Rattle.std.proofs.Common.{rules}
use Rattle.em_tree.proofs.Puts.{puts_pat_group, puts_pat_literal, puts_pat_name, puts_pat_path, puts_pat_range, puts_pat_struct, puts_pat_tuple, puts_pat_wild}
use Rattle.em_tree.proofs.put_pat.+pats.Goals as goal

pub put_pat-returns-in_ok-put-in-Wild : goal.put_pat-returns-in_ok-put-in-Wild
put_pat-returns-in_ok-put-in-Wild t c =
    puts_pat_wild c.args.out.now c.put.new.out c.args.node.now c.in-Wild.part c.in-Wild.is (search rules)

pub put_pat-returns-in_ok-put-in-Name : goal.put_pat-returns-in_ok-put-in-Name
put_pat-returns-in_ok-put-in-Name t c =
    puts_pat_name c.args.out.now c.put_if.new.out c.put_if-in-Name.new.out c.put-in-Name.new.out c.args.node.now c.in-Name.word_ref c.in-Name.word_mut c.in-Name.name c.in-Name.is (search rules) (search rules) (search rules)

pub put_pat-returns-in_ok-put_literal-in-Literal : goal.put_pat-returns-in_ok-put_literal-in-Literal
put_pat-returns-in_ok-put_literal-in-Literal t c =
    puts_pat_literal c.args.out.now c.put_literal.new.out c.args.node.now c.in-Literal.part c.in-Literal.is (search rules)

pub put_pat-returns-in_ok-put_literal-in-Range-2 : goal.put_pat-returns-in_ok-put_literal-in-Range-2
put_pat-returns-in_ok-put_literal-in-Range-2 t c =
    puts_pat_range c.args.out.now c.put_literal-in-Range.new.out c.put-in-Range.new.out c.put_literal-in-Range-2.new.out c.args.node.now c.in-Range.start c.in-Range.dots c.in-Range.end c.in-Range.is (search rules) (search rules) (search rules)

pub put_pat-returns-in_ok-put_path-in-Path : goal.put_pat-returns-in_ok-put_path-in-Path
put_pat-returns-in_ok-put_path-in-Path t c =
    puts_pat_path c.args.out.now c.put_path.new.out c.args.node.now c.in-Path.part c.in-Path.is (search rules)

pub put_pat-returns-in_ok-put-in-Tuple-2 : goal.put_pat-returns-in_ok-put-in-Tuple-2
put_pat-returns-in_ok-put-in-Tuple-2 t c =
    puts_pat_tuple c.args.out.now c.put_path-in-Tuple.new.out c.put-in-Tuple.new.out c.put_pats.new.out c.put-in-Tuple-2.new.out c.args.node.now c.in-Tuple.path c.in-Tuple.open c.in-Tuple.fields c.in-Tuple.close c.in-Tuple.is (search rules) (search rules) (search rules) (search rules)

pub put_pat-returns-in_ok-put-in-Struct-2 : goal.put_pat-returns-in_ok-put-in-Struct-2
put_pat-returns-in_ok-put-in-Struct-2 t c =
    puts_pat_struct c.args.out.now c.put_path-in-Struct.new.out c.put-in-Struct.new.out c.put_field_pats.new.out c.put_if-in-Struct.new.out c.put-in-Struct-2.new.out c.args.node.now c.in-Struct.path c.in-Struct.open c.in-Struct.fields c.in-Struct.rest c.in-Struct.close c.in-Struct.is (search rules) (search rules) (search rules) (search rules) (search rules)

pub put_pat-returns-in_ok-put_pat-in-Group : goal.put_pat-returns-in_ok-put_pat-in-Group
put_pat-returns-in_ok-put_pat-in-Group t c =
    puts_pat_group c.args.out.now c.put_pat.new.out c.args.node.now _ c.in-Group.inner c.in-Group.is (search rules)
