use Rattle.std.proofs.Common.{[], rules}
use Rattle.std.proofs.Common.{ap, sym, ◌∙◌}
use Rattle.em_tree.specs.Parts.{maybe, block_parts, body_parts}
use Rattle.em_tree.specs.Yields.{one, inside, opened}
use Rattle.em_tree.proofs.Adds.{adds_as, adds0, adds_expr_if, adds_block, adds_body, adds_else_if, adds_expr_array, adds_expr_assign, adds_expr_binary, adds_expr_block, adds_expr_break, adds_expr_call, adds_expr_closure, adds_expr_closure_to, adds_expr_continue, adds_expr_field, adds_expr_for, adds_expr_group, adds_expr_index, adds_expr_literal, adds_expr_loop, adds_expr_macro, adds_expr_match, adds_expr_method_call, adds_expr_paren, adds_expr_path, adds_expr_place, adds_expr_ref, adds_expr_ref_ref, adds_expr_repeat, adds_expr_return, adds_expr_struct, adds_expr_unary, adds_expr_while, adds_stmt_block_like, adds_stmt_expr, adds_stmt_group, adds_stmt_let, adds_stmt_macro, adds_stmt_mention}
use Rattle.em_tree.proofs.put_expr.+exprs.Goals as goal

pub add_expr-returns-in-Literal : goal.add_expr-returns-in-Literal
add_expr-returns-in-Literal t c =
    adds_expr_literal c.args.out.now c.token.new.self c.args.part.now c.in-Literal.inner c.in-Literal.is (search rules)

pub add_expr-returns-in-Path : goal.add_expr-returns-in-Path
add_expr-returns-in-Path t c =
    adds_expr_path c.args.out.now c.path.new.self c.args.part.now c.in-Path.inner c.in-Path.is (search rules)

pub add_expr-returns-in-Struct : goal.add_expr-returns-in-Struct
add_expr-returns-in-Struct t c =
    adds_expr_struct c.args.out.now c.path-in-Struct.new.self c.token-in-Struct.new.self c.add_field_exprs.new.out c.token-in-Struct-2.new.self c.args.part.now c.in-Struct.path c.in-Struct.open c.in-Struct.fields c.in-Struct.close c.in-Struct.is (search rules) (search rules) (search rules) (search rules)

pub add_expr-returns-in-Paren : goal.add_expr-returns-in-Paren
add_expr-returns-in-Paren t c =
    adds_expr_paren c.args.out.now c.token-in-Paren.new.self c.add_expr.new.out c.token-in-Paren-2.new.self c.args.part.now c.in-Paren.open c.in-Paren.inner c.in-Paren.close c.in-Paren.is (search rules) (search rules) (search rules)

pub add_expr-returns-in-Array : goal.add_expr-returns-in-Array
add_expr-returns-in-Array t c =
    adds_expr_array c.args.out.now c.token-in-Array.new.self c.add_exprs.new.out c.token-in-Array-2.new.self c.args.part.now c.in-Array.open c.in-Array.elements c.in-Array.close c.in-Array.is (search rules) (search rules) (search rules)

pub add_expr-returns-in-Repeat : goal.add_expr-returns-in-Repeat
add_expr-returns-in-Repeat t c =
    adds_expr_repeat c.args.out.now c.token-in-Repeat.new.self c.add_expr-in-Repeat.new.out c.token-in-Repeat-2.new.self c.literal.new.self c.token-in-Repeat-3.new.self c.args.part.now c.in-Repeat.open c.in-Repeat.element c.in-Repeat.semi c.in-Repeat.length c.in-Repeat.close c.in-Repeat.is (search rules) (search rules) (search rules) (search rules) (search rules)

pub add_expr-returns-in-Block : goal.add_expr-returns-in-Block
add_expr-returns-in-Block t c =
    adds_expr_block c.args.out.now c.add_block.new.out c.args.part.now c.in-Block.inner c.in-Block.is (search rules)

pub add_expr-returns-in-Match : goal.add_expr-returns-in-Match
add_expr-returns-in-Match t c =
    adds_expr_match c.args.out.now c.token-in-Match.new.self c.add_expr-in-Match.new.out c.token-in-Match-2.new.self c.add_arms.new.out c.token-in-Match-3.new.self c.args.part.now c.in-Match.word c.in-Match.scrutinee c.in-Match.open c.in-Match.arms c.in-Match.close c.in-Match.is (search rules) (search rules) (search rules) (search rules) (search rules)

pub add_expr-returns-in-While : goal.add_expr-returns-in-While
add_expr-returns-in-While t c =
    adds_expr_while c.args.out.now c.token-in-While.new.self c.add_expr-in-While.new.out c.add_block-in-While.new.out c.args.part.now c.in-While.word c.in-While.condition c.in-While.body c.in-While.is (search rules) (search rules) (search rules)

pub add_expr-returns-in-Loop : goal.add_expr-returns-in-Loop
add_expr-returns-in-Loop t c =
    adds_expr_loop c.args.out.now c.token-in-Loop.new.self c.add_block-in-Loop.new.out c.args.part.now c.in-Loop.word c.in-Loop.body c.in-Loop.is (search rules) (search rules)

pub add_expr-returns-in-For : goal.add_expr-returns-in-For
add_expr-returns-in-For t c =
    adds_expr_for c.args.out.now c.token-in-For.new.self c.pat.new.self c.token-in-For-2.new.self c.add_expr-in-For.new.out c.token_if-in-For.new.self c.add_expr_if.new.out c.add_block-in-For.new.out c.args.part.now c.in-For.word c.in-For.pat c.in-For.word_in c.in-For.head c.in-For.dots c.in-For.end c.in-For.body c.in-For.is (search rules) (search rules) (search rules) (search rules) (search rules) (search rules) (search rules)

pub add_expr-returns-in-Closure : goal.add_expr-returns-in-Closure
add_expr-returns-in-Closure t c =
    adds_expr_closure c.args.out.now c.token_if-in-Closure.new.self c.closure_head.new.self c.add_expr-in-Closure.new.out c.args.part.now c.in-Closure.word_move c.in-Closure.head c.in-Closure.body c.in-Closure.is (search rules) (search rules) (search rules)

pub add_expr-returns-in-ClosureTo : goal.add_expr-returns-in-ClosureTo
add_expr-returns-in-ClosureTo t c =
    adds_expr_closure_to c.args.out.now c.token_if-in-ClosureTo.new.self c.closure_head-in-ClosureTo.new.self c.token-in-ClosureTo.new.self c.ty.new.self c.add_block-in-ClosureTo.new.out c.args.part.now c.in-ClosureTo.word_move c.in-ClosureTo.head c.in-ClosureTo.arrow c.in-ClosureTo.output c.in-ClosureTo.body c.in-ClosureTo.is (search rules) (search rules) (search rules) (search rules) (search rules)

pub add_expr-returns-in-Macro : goal.add_expr-returns-in-Macro
add_expr-returns-in-Macro t c =
    adds_expr_macro c.args.out.now c.macro_call.new.self c.args.part.now c.in-Macro.inner c.in-Macro.is (search rules)

pub add_expr-returns-in-Return : goal.add_expr-returns-in-Return
add_expr-returns-in-Return t c =
    adds_expr_return c.args.out.now c.token-in-Return.new.self c.add_expr_if-in-Return.new.out c.args.part.now c.in-Return.word c.in-Return.value c.in-Return.is (search rules) (search rules)

pub add_expr-returns-in-Break : goal.add_expr-returns-in-Break
add_expr-returns-in-Break t c =
    adds_expr_break c.args.out.now c.token-in-Break.new.self c.args.part.now c.in-Break.inner c.in-Break.is (search rules)

pub add_expr-returns-in-Continue : goal.add_expr-returns-in-Continue
add_expr-returns-in-Continue t c =
    adds_expr_continue c.args.out.now c.token-in-Continue.new.self c.args.part.now c.in-Continue.inner c.in-Continue.is (search rules)

pub add_expr-returns-in-MethodCall : goal.add_expr-returns-in-MethodCall
add_expr-returns-in-MethodCall t c =
    adds_expr_method_call c.args.out.now c.add_expr-in-MethodCall.new.out c.token-in-MethodCall.new.self c.token-in-MethodCall-2.new.self c.token-in-MethodCall-3.new.self c.add_exprs-in-MethodCall.new.out c.token-in-MethodCall-4.new.self c.args.part.now c.in-MethodCall.receiver c.in-MethodCall.dot c.in-MethodCall.name c.in-MethodCall.open c.in-MethodCall.arguments c.in-MethodCall.close c.in-MethodCall.is (search rules) (search rules) (search rules) (search rules) (search rules) (search rules)

pub add_expr-returns-in-Call : goal.add_expr-returns-in-Call
add_expr-returns-in-Call t c =
    adds_expr_call c.args.out.now c.add_expr-in-Call.new.out c.token-in-Call.new.self c.add_exprs-in-Call.new.out c.token-in-Call-2.new.self c.args.part.now c.in-Call.callee c.in-Call.open c.in-Call.arguments c.in-Call.close c.in-Call.is (search rules) (search rules) (search rules) (search rules)

pub add_expr-returns-in-Field : goal.add_expr-returns-in-Field
add_expr-returns-in-Field t c =
    adds_expr_field c.args.out.now c.add_expr-in-Field.new.out c.token-in-Field.new.self c.token-in-Field-2.new.self c.args.part.now c.in-Field.base c.in-Field.dot c.in-Field.name c.in-Field.is (search rules) (search rules) (search rules)

pub add_expr-returns-in-Place : goal.add_expr-returns-in-Place
add_expr-returns-in-Place t c =
    adds_expr_place c.args.out.now c.add_expr-in-Place.new.out c.token-in-Place.new.self c.literal-in-Place.new.self c.args.part.now c.in-Place.base c.in-Place.dot c.in-Place.number c.in-Place.is (search rules) (search rules) (search rules)

pub add_expr-returns-in-Index : goal.add_expr-returns-in-Index
add_expr-returns-in-Index t c =
    adds_expr_index c.args.out.now c.add_expr-in-Index.new.out c.token-in-Index.new.self c.add_expr-in-Index-2.new.out c.token-in-Index-2.new.self c.args.part.now c.in-Index.base c.in-Index.open c.in-Index.index c.in-Index.close c.in-Index.is (search rules) (search rules) (search rules) (search rules)

pub add_expr-returns-in-Unary : goal.add_expr-returns-in-Unary
add_expr-returns-in-Unary t c =
    adds_expr_unary c.args.out.now c.token-in-Unary.new.self c.add_expr-in-Unary.new.out c.args.part.now c.in-Unary.operator c.in-Unary.operand c.in-Unary.is (search rules) (search rules)

pub add_expr-returns-in-Ref : goal.add_expr-returns-in-Ref
add_expr-returns-in-Ref t c =
    adds_expr_ref c.args.out.now c.token-in-Ref.new.self c.token_if-in-Ref.new.self c.add_expr-in-Ref.new.out c.args.part.now c.in-Ref.amp c.in-Ref.word_mut c.in-Ref.operand c.in-Ref.is (search rules) (search rules) (search rules)

pub add_expr-returns-in-RefRef : goal.add_expr-returns-in-RefRef
add_expr-returns-in-RefRef t c =
    adds_expr_ref_ref c.args.out.now c.token-in-RefRef.new.self c.token_if-in-RefRef.new.self c.add_expr-in-RefRef.new.out c.args.part.now c.in-RefRef.amps c.in-RefRef.word_mut c.in-RefRef.operand c.in-RefRef.is (search rules) (search rules) (search rules)

pub add_expr-returns-in-Binary : goal.add_expr-returns-in-Binary
add_expr-returns-in-Binary t c =
    adds_expr_binary c.args.out.now c.add_expr-in-Binary.new.out c.token-in-Binary.new.self c.add_expr-in-Binary-2.new.out c.args.part.now c.in-Binary.left c.in-Binary.operator c.in-Binary.right c.in-Binary.is (search rules) (search rules) (search rules)

pub add_expr-returns-in-Assign : goal.add_expr-returns-in-Assign
add_expr-returns-in-Assign t c =
    adds_expr_assign c.args.out.now c.add_expr-in-Assign.new.out c.token-in-Assign.new.self c.add_expr-in-Assign-2.new.out c.args.part.now c.in-Assign.left c.in-Assign.operator c.in-Assign.right c.in-Assign.is (search rules) (search rules) (search rules)

pub add_expr-returns-in-Group : goal.add_expr-returns-in-Group
add_expr-returns-in-Group t c =
    adds_expr_group c.args.out.now c.add_expr-in-Group.new.out c.args.part.now _ c.in-Group.inner c.in-Group.is (search rules)

pub add_stmt-returns-in-Mention : goal.add_stmt-returns-in-Mention
add_stmt-returns-in-Mention t c =
    adds_stmt_mention c.args.out.now c.token.new.self c.token-in-Mention.new.self c.token-in-Mention-2.new.self c.refs.new.self c.token_if.new.self c.args.part.now c.in-Mention.word c.in-Mention.underscore c.in-Mention.equals c.in-Mention.refs c.in-Mention.semi c.in-Mention.is (search rules) (search rules) (search rules) (search rules) (search rules)

pub add_stmt-returns-in-Let : goal.add_stmt-returns-in-Let
add_stmt-returns-in-Let t c =
    adds_stmt_let c.args.out.now c.token-in-Let.new.self c.pat.new.self c.annotation.new.self c.token-in-Let-2.new.self c.add_expr.new.out c.token_if-in-Let.new.self c.args.part.now c.in-Let.word c.in-Let.pat c.in-Let.annotation c.in-Let.equals c.in-Let.value c.in-Let.semi c.in-Let.is (search rules) (search rules) (search rules) (search rules) (search rules) (search rules)

pub add_stmt-returns-in-Macro : goal.add_stmt-returns-in-Macro
add_stmt-returns-in-Macro t c =
    adds_stmt_macro c.args.out.now c.macro_call.new.self c.token_if-in-Macro.new.self c.args.part.now c.in-Macro.call c.in-Macro.semi c.in-Macro.is (search rules) (search rules)

pub add_stmt-returns-in-Expr : goal.add_stmt-returns-in-Expr
add_stmt-returns-in-Expr t c =
    adds_stmt_expr c.args.out.now c.add_expr-in-Expr.new.out c.token_if-in-Expr.new.self c.args.part.now c.in-Expr.value c.in-Expr.semi c.in-Expr.is (search rules) (search rules)

pub add_stmt-returns-in-BlockLike : goal.add_stmt-returns-in-BlockLike
add_stmt-returns-in-BlockLike t c =
    adds_stmt_block_like c.args.out.now c.add_expr-in-BlockLike.new.out c.token_if-in-BlockLike.new.self c.args.part.now c.in-BlockLike.value c.in-BlockLike.semi c.in-BlockLike.is (search rules) (search rules)

pub add_stmt-returns-in-Group : goal.add_stmt-returns-in-Group
add_stmt-returns-in-Group t c =
    adds_stmt_group c.args.out.now c.add_stmt.new.out c.token_if-in-Group.new.self c.args.part.now _ c.in-Group.inner c.in-Group.semi c.in-Group.is (search rules) (search rules)

pub add_block-returns : goal.add_block-returns
add_block-returns t c =
    adds_block c.args.out.now c.token.new.self c.add_body.new.out c.token-2.new.self c.args.part.now (search rules) (search rules) (search rules)

pub add_body-returns : goal.add_body-returns
add_body-returns t c =
    adds_body c.args.out.now c.add_stmts.new.out c.add_expr_if.new.out c.args.part.now (search rules) (search rules)

pub add_branch-returns : goal.add_branch-returns
add_branch-returns t c =
    adds_else_if c.args.out.now c.token.new.self c.token-2.new.self c.add_condition.new.out c.add_block.new.out c.args.part.now (search rules) (search rules) (search rules) (search rules)

pub add_expr-returns-in-Some : goal.add_expr-returns-in-Some
add_expr-returns-in-Some t c =
    adds_expr_if c.args.out.now c.token-in-If.new.self c.add_condition.new.out c.add_block-in-If.new.out c.add_branches.new.out c.token_if.new.self c.add_block-in-Some.new.out c.args.part.now c.in-If.word c.in-If.condition c.in-If.then c.in-If.branches c.in-If.word_else c.in-If.otherwise c.in-If.is (search rules) (search rules) (search rules) (search rules) (search rules)
    (adds_as c.token_if.new.self c.add_block-in-Some.new.out (maybe (block_parts one inside opened (body_parts one inside opened)) c.in-If.otherwise) (block_parts one inside opened (body_parts one inside opened) c.get-in-Some.result.now)
    (ap (maybe (block_parts one inside opened (body_parts one inside opened))) c.in-Some.is ∙ ap (block_parts one inside opened (body_parts one inside opened)) (sym c.get-in-Some.ensures)) c.add_block-in-Some.ensures)

pub add_expr-returns-in_default : goal.add_expr-returns-in_default
add_expr-returns-in_default t c =
    adds_expr_if c.args.out.now c.token-in-If.new.self c.add_condition.new.out c.add_block-in-If.new.out c.add_branches.new.out c.token_if.new.self c.token_if.new.self c.args.part.now c.in-If.word c.in-If.condition c.in-If.then c.in-If.branches c.in-If.word_else c.in-If.otherwise c.in-If.is (search rules) (search rules) (search rules) (search rules) (search rules)
    (adds_as c.token_if.new.self c.token_if.new.self (maybe (block_parts one inside opened (body_parts one inside opened)) c.in-If.otherwise) [] (ap (maybe (block_parts one inside opened (body_parts one inside opened))) c.in_default.is) (adds0 c.token_if.new.self))
