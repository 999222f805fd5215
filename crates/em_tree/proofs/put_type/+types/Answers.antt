use Rattle.std.proofs.Common.{rules}
use Rattle.em_tree.proofs.Puts.{puts_bound_call, puts_bound_path, puts_output_type, puts_path_group, puts_path_plain, puts_path_qualified, puts_type_tree_array, puts_type_tree_bare, puts_type_tree_boxed, puts_type_tree_dyn, puts_type_tree_group, puts_type_tree_path, puts_type_tree_ref, puts_type_tree_ref_ref, puts_type_tree_slice, puts_type_tree_unit}
use Rattle.em_tree.proofs.put_type.+types.Goals as goal

pub put_bound-returns-in_ok-put_path-in-Path : goal.put_bound-returns-in_ok-put_path-in-Path
put_bound-returns-in_ok-put_path-in-Path t c =
    puts_bound_path c.args.out.now c.put_path.new.out c.args.node.now c.in-Path.part c.in-Path.is (search rules)

pub put_bound-returns-in_ok-put_output-in-Call : goal.put_bound-returns-in_ok-put_output-in-Call
put_bound-returns-in_ok-put_output-in-Call t c =
    puts_bound_call c.args.out.now c.put_path-in-Call.new.out c.put.new.out c.put_types.new.out c.put-in-Call.new.out c.put_output.new.out c.args.node.now c.in-Call.path c.in-Call.open c.in-Call.inputs c.in-Call.close c.in-Call.output c.in-Call.is (search rules) (search rules) (search rules) (search rules) (search rules)

pub put_output-returns-in_ok-put_type-in-Type : goal.put_output-returns-in_ok-put_type-in-Type
put_output-returns-in_ok-put_type-in-Type t c =
    puts_output_type c.args.out.now c.put.new.out c.put_type.new.out c.args.node.now c.in-Type.arrow c.in-Type.ty c.in-Type.is (search rules) (search rules)

pub put_path-returns-in_ok-put_segments-in-Plain : goal.put_path-returns-in_ok-put_segments-in-Plain
put_path-returns-in_ok-put_segments-in-Plain t c =
    puts_path_plain c.args.out.now c.put_segments.new.out c.args.node.now c.in-Plain.part c.in-Plain.is (search rules)

pub put_path-returns-in_ok-put_qualified-in-Qualified : goal.put_path-returns-in_ok-put_qualified-in-Qualified
put_path-returns-in_ok-put_qualified-in-Qualified t c =
    puts_path_qualified c.args.out.now c.put_qualified.new.out c.args.node.now c.in-Qualified.part c.in-Qualified.is (search rules)

pub put_path-returns-in_ok-put_path-in-Group : goal.put_path-returns-in_ok-put_path-in-Group
put_path-returns-in_ok-put_path-in-Group t c =
    puts_path_group c.args.out.now c.put_path.new.out c.args.node.now _ c.in-Group.inner c.in-Group.is (search rules)

pub put_type-returns-in_ok-put_path-in-Path : goal.put_type-returns-in_ok-put_path-in-Path
put_type-returns-in_ok-put_path-in-Path t c =
    puts_type_tree_path c.args.out.now c.put_path.new.out c.args.node.now c.in-Path.part c.in-Path.is (search rules)

pub put_type-returns-in_ok-put_if-in-Boxed : goal.put_type-returns-in_ok-put_if-in-Boxed
put_type-returns-in_ok-put_if-in-Boxed t c =
    puts_type_tree_boxed c.args.out.now c.put.new.out c.put-in-Boxed.new.out c.put_type.new.out c.put_if.new.out c.args.node.now c.in-Boxed.word c.in-Boxed.open c.in-Boxed.inner c.in-Boxed.close c.in-Boxed.is (search rules) (search rules) (search rules) (search rules)

pub put_type-returns-in_ok-put_type-in-Ref : goal.put_type-returns-in_ok-put_type-in-Ref
put_type-returns-in_ok-put_type-in-Ref t c =
    puts_type_tree_ref c.args.out.now c.put-in-Ref.new.out c.put_if-in-Ref.new.out c.put_type-in-Ref.new.out c.args.node.now c.in-Ref.amp c.in-Ref.word_mut c.in-Ref.inner c.in-Ref.is (search rules) (search rules) (search rules)

pub put_type-returns-in_ok-put_type-in-RefRef : goal.put_type-returns-in_ok-put_type-in-RefRef
put_type-returns-in_ok-put_type-in-RefRef t c =
    puts_type_tree_ref_ref c.args.out.now c.put-in-RefRef.new.out c.put_if-in-RefRef.new.out c.put_type-in-RefRef.new.out c.args.node.now c.in-RefRef.amps c.in-RefRef.word_mut c.in-RefRef.inner c.in-RefRef.is (search rules) (search rules) (search rules)

pub put_type-returns-in_ok-put-in-Array-3 : goal.put_type-returns-in_ok-put-in-Array-3
put_type-returns-in_ok-put-in-Array-3 t c =
    puts_type_tree_array c.args.out.now c.put-in-Array.new.out c.put_type-in-Array.new.out c.put-in-Array-2.new.out c.put_literal.new.out c.put-in-Array-3.new.out c.args.node.now c.in-Array.open c.in-Array.element c.in-Array.semi c.in-Array.length c.in-Array.close c.in-Array.is (search rules) (search rules) (search rules) (search rules) (search rules)

pub put_type-returns-in_ok-put-in-Slice-2 : goal.put_type-returns-in_ok-put-in-Slice-2
put_type-returns-in_ok-put-in-Slice-2 t c =
    puts_type_tree_slice c.args.out.now c.put-in-Slice.new.out c.put_type-in-Slice.new.out c.put-in-Slice-2.new.out c.args.node.now c.in-Slice.open c.in-Slice.element c.in-Slice.close c.in-Slice.is (search rules) (search rules) (search rules)

pub put_type-returns-in_ok-put-in-Unit-2 : goal.put_type-returns-in_ok-put-in-Unit-2
put_type-returns-in_ok-put-in-Unit-2 t c =
    puts_type_tree_unit c.args.out.now c.put-in-Unit.new.out c.put-in-Unit-2.new.out c.args.node.now c.in-Unit.open c.in-Unit.close c.in-Unit.is (search rules) (search rules)

pub put_type-returns-in_ok-put_bound-in-Dyn : goal.put_type-returns-in_ok-put_bound-in-Dyn
put_type-returns-in_ok-put_bound-in-Dyn t c =
    puts_type_tree_dyn c.args.out.now c.put-in-Dyn.new.out c.put_bound.new.out c.args.node.now c.in-Dyn.word c.in-Dyn.bound c.in-Dyn.is (search rules) (search rules)

pub put_type-returns-in_ok-put_bound-in-Bare : goal.put_type-returns-in_ok-put_bound-in-Bare
put_type-returns-in_ok-put_bound-in-Bare t c =
    puts_type_tree_bare c.args.out.now c.put_bound-in-Bare.new.out c.args.node.now c.in-Bare.part c.in-Bare.is (search rules)

pub put_type-returns-in_ok-put_type-in-Group : goal.put_type-returns-in_ok-put_type-in-Group
put_type-returns-in_ok-put_type-in-Group t c =
    puts_type_tree_group c.args.out.now c.put_type-in-Group.new.out c.args.node.now _ c.in-Group.inner c.in-Group.is (search rules)
