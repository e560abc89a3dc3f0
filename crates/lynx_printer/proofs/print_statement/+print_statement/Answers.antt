use Rattle.std.proofs.Common.{suc, Option, List, ◌++◌, [], ◌∷◌, ap, ◌∙◌, arith}
use Rattle.lynx_lexer.specs.declared.keyword.Keyword.TheVariants as keywords
use Rattle.lynx_lexer.specs.declared.sign.Sign.TheVariants as signs
use Rattle.std.specs.Global.{Vec}
use Rattle.lynx_tree.specs.Trees.{expr_tree, stmt_tree, stmt_list, handler_list, index_tree, else_list}
use Rattle.lynx_tree.specs.Grammar.{Mark, word, mark, name, expr_marks, stmt_marks, stmts_marks, handlers_marks, target_marks, accept_marks, else_marks}
use Rattle.lynx_printer.proofs.Lists.{each_step, each_end, one_more}
use Rattle.lynx_printer.proofs.Statements.{as_marks, assign_marks, three, ended, two, one_then, stmt_here, stmts_flat, handler_here, handlers_flat, choice_marks, of_condition, head_first, of_list, handlers_of_list, accept_of_list, accept_first, on_ok}
use Rattle.lynx_tree.specs.Printing.{text_of}
use Rattle.lynx_tree.specs.declared.statement.Stmt as stmt
use Rattle.lynx_tree.proofs.Views.{while_tree, accept_tree, try_tree}
use Rattle.lynx_printer.proofs.print_statement.+print_statement.Goals as goal

pub push_stmts-loop-stmt-preserved : goal.push_stmts-loop-stmt-preserved
push_stmts-loop-stmt-preserved t c d =
    each_step (stmt_here d) c.args.stmts.now c.loop-stmt.stmt-index c.stmt-item.result c.loop-stmt.out.items c.push_sign.new.out.items _ (omega arith) c.stmt-item.is
    (two (stmt_marks (suc d) (stmt_tree c.stmt-item.result)) (mark d signs.Semicolon ∷ []) c.loop-stmt.out.items c.push_stmt.new.out.items c.push_sign.new.out.items (c.in_ok-push_stmt.ensures (suc d)) (one_more (mark d signs.Semicolon) _ _ c.in_ok-push_sign.ensures))
    (c.loop-stmt.invariant d)

pub push_stmts-returns : goal.push_stmts-returns
push_stmts-returns t c d =
    each_end (stmt_here d) c.args.stmts.now c.loop-stmt.stmt-index c.args.out.now.items c.loop-stmt.out.items (omega arith) (c.loop-stmt.invariant d) ∙ ap (λ (ms : List Mark). c.args.out.now.items ++ text_of ms) (stmts_flat d c.args.stmts.now)

pub push_handlers-loop-handler-preserved : goal.push_handlers-loop-handler-preserved
push_handlers-loop-handler-preserved t c d =
    each_step (handler_here d) c.args.handlers.now c.loop-handler.handler-index c.handler-item.result c.loop-handler.out.items c.push_stmts.new.out.items _ (omega arith) c.handler-item.is
    (two (word d keywords.When ∷ name d c.handler-item.result.name ∷ []) (word d keywords.Do ∷ stmts_marks d (stmt_list c.handler-item.result.body.items)) _ c.push_named.new.out.items _ (c.in_ok-push_named.ensures d)
    (one_then (word d keywords.Do) _ _ c.push_keyword.new.out.items _ c.in_ok-push_keyword.ensures (of_list d _ _ _ _ c.deref.ensures.value (c.in_ok-push_stmts.ensures d))))
    (c.loop-handler.invariant d)

pub push_handlers-returns : goal.push_handlers-returns
push_handlers-returns t c d =
    each_end (handler_here d) c.args.handlers.now c.loop-handler.handler-index c.args.out.now.items c.loop-handler.out.items (omega arith) (c.loop-handler.invariant d) ∙ ap (λ (ms : List Mark). c.args.out.now.items ++ text_of ms) (handlers_flat d c.args.handlers.now)

pub push_stmt-returns-in-Assign : goal.push_stmt-returns-in-Assign
push_stmt-returns-in-Assign t c d =
    as_marks c.args.stmt.now d (target_marks d c.in-Assign.name (index_tree c.in-Assign.index) ++ mark d signs.Becomes ∷ expr_marks d (expr_tree c.in-Assign.value)) c.push_assign.result _ _
    (ap (λ (s : stmt.Stmt). stmt_marks d (stmt_tree s)) c.in-Assign.is ∙ assign_marks d c.in-Assign.name c.in-Assign.index c.in-Assign.value) (c.push_assign.ensures d)

pub push_stmt-returns-in-Raise : goal.push_stmt-returns-in-Raise
push_stmt-returns-in-Raise t c d = as_marks c.args.stmt.now d (word d keywords.Raise ∷ name d c.in-Raise.name ∷ []) c.push_named.result _ _ (ap (λ (s : stmt.Stmt). stmt_marks d (stmt_tree s)) c.in-Raise.is) (c.push_named.ensures d)

pub push_stmt-returns-in-New : goal.push_stmt-returns-in-New
push_stmt-returns-in-New t c d =
    as_marks c.args.stmt.now d (word d keywords.New ∷ name d c.in-New.first ∷ mark d signs.Comma ∷ name d c.in-New.second ∷ []) c.push_new.result _ _ (ap (λ (s : stmt.Stmt). stmt_marks d (stmt_tree s)) c.in-New.is) (c.push_new.ensures d)

pub push_stmt-returns-in-Destroy : goal.push_stmt-returns-in-Destroy
push_stmt-returns-in-Destroy t c d =
    as_marks c.args.stmt.now d (word d keywords.Destroy ∷ name d c.in-Destroy.name ∷ []) c.push_named-in-Destroy.result _ _ (ap (λ (s : stmt.Stmt). stmt_marks d (stmt_tree s)) c.in-Destroy.is) (c.push_named-in-Destroy.ensures d)

pub push_stmt-returns-in-Bind : goal.push_stmt-returns-in-Bind
push_stmt-returns-in-Bind t c d =
    as_marks c.args.stmt.now d (word d keywords.Bind ∷ name d c.in-Bind.link ∷ word d keywords.To ∷ name d c.in-Bind.entry ∷ []) c.push_two.result _ _ (ap (λ (s : stmt.Stmt). stmt_marks d (stmt_tree s)) c.in-Bind.is) (c.push_two.ensures d)

pub push_stmt-returns-in-Unbind : goal.push_stmt-returns-in-Unbind
push_stmt-returns-in-Unbind t c d =
    as_marks c.args.stmt.now d (word d keywords.Unbind ∷ name d c.in-Unbind.link ∷ word d keywords.From ∷ name d c.in-Unbind.entry ∷ []) c.push_two-in-Unbind.result _ _ (ap (λ (s : stmt.Stmt). stmt_marks d (stmt_tree s)) c.in-Unbind.is) (c.push_two-in-Unbind.ensures d)

pub push_stmt-returns-in_ok-push_stmts-in-While : goal.push_stmt-returns-in_ok-push_stmts-in-While
push_stmt-returns-in_ok-push_stmts-in-While t c d =
    let head : List Mark = word d keywords.While ∷ (expr_marks d (expr_tree c.in-While.condition) ++ word d keywords.Do ∷ []) in
    as_marks c.args.stmt.now d (head ++ (stmts_marks d (stmt_list c.in-While.body.items) ++ word d keywords.End ∷ [])) c.push_keyword-in-While.result _ _
    (ap (λ (s : stmt.Stmt). stmt_marks d (stmt_tree s)) c.in-While.is ∙ ap (stmt_marks d) (while_tree c.in-While.condition c.in-While.body) ∙ head_first (word d keywords.While) (expr_marks d (expr_tree c.in-While.condition)) (word d keywords.Do) _)
    (three head (stmts_marks d (stmt_list c.in-While.body.items)) (word d keywords.End ∷ []) c.push_keyword-in-While.result _ c.push_test-in-While.new.out.items c.push_stmts-in-While.new.out.items _
    (c.in_ok-push_test-in-While.ensures d) (of_list d _ _ _ _ c.deref-in-While.ensures.value (c.in_ok-push_stmts-in-While.ensures d)) (ended d c.push_keyword-in-While.result _ _ c.push_keyword-in-While.ensures))

pub push_stmt-returns-in-None : goal.push_stmt-returns-in-None
push_stmt-returns-in-None t c d =
    let head : List Mark = word d keywords.If ∷ (expr_marks d (expr_tree c.in-If.condition.value) ++ word d keywords.Then ∷ []) in
    let body : List Mark = stmts_marks d (stmt_list c.in-If.then.items) in
    as_marks c.args.stmt.now d (head ++ (body ++ word d keywords.End ∷ [])) c.push_keyword.result _ _
    (ap (λ (s : stmt.Stmt). stmt_marks d (stmt_tree s)) c.in-If.is ∙ choice_marks d c.in-If.condition c.in-If.then c.in-If.otherwise
    ∙ head_first (word d keywords.If) (expr_marks d (expr_tree c.in-If.condition.value)) (word d keywords.Then) _ ∙ ap (λ (o : Option (Vec stmt.Stmt)). head ++ (body ++ else_marks d (else_list o))) c.in-None.is)
    (three head body (word d keywords.End ∷ []) c.push_keyword.result _ c.push_test.new.out.items c.push_stmts.new.out.items _
    (of_condition d _ _ _ _ c.deref.ensures (c.in_ok-push_test-in-If.ensures d)) (of_list d _ _ _ _ c.deref-in-If.ensures.value (c.in_ok-push_stmts-in-If.ensures d)) (ended d c.push_keyword.result _ _ c.push_keyword.ensures))

pub push_stmt-returns-in_ok-push_stmts-in-Some : goal.push_stmt-returns-in_ok-push_stmts-in-Some
push_stmt-returns-in_ok-push_stmts-in-Some t c d =
    let head : List Mark = word d keywords.If ∷ (expr_marks d (expr_tree c.in-If.condition.value) ++ word d keywords.Then ∷ []) in
    let body : List Mark = stmts_marks d (stmt_list c.in-If.then.items) in
    let other : List Mark = stmts_marks d (stmt_list c.in-Some.otherwise.items) in
    as_marks c.args.stmt.now d (head ++ (body ++ word d keywords.Else ∷ (other ++ word d keywords.End ∷ []))) c.push_keyword-in-Some-2.result _ _
    (ap (λ (s : stmt.Stmt). stmt_marks d (stmt_tree s)) c.in-If.is ∙ choice_marks d c.in-If.condition c.in-If.then c.in-If.otherwise
    ∙ head_first (word d keywords.If) (expr_marks d (expr_tree c.in-If.condition.value)) (word d keywords.Then) _ ∙ ap (λ (o : Option (Vec stmt.Stmt)). head ++ (body ++ else_marks d (else_list o))) c.in-Some.is)
    (three head body (word d keywords.Else ∷ (other ++ word d keywords.End ∷ [])) c.push_keyword-in-Some-2.result _ c.push_test.new.out.items c.push_stmts.new.out.items _
    (of_condition d _ _ _ _ c.deref.ensures (c.in_ok-push_test-in-If.ensures d)) (of_list d _ _ _ _ c.deref-in-If.ensures.value (c.in_ok-push_stmts-in-If.ensures d))
    (three (word d keywords.Else ∷ []) other (word d keywords.End ∷ []) c.push_keyword-in-Some-2.result _ c.push_keyword-in-Some.new.out.items c.push_stmts-in-Some.new.out.items _
    (one_more (word d keywords.Else) _ _ c.in_ok-push_keyword-in-Some.ensures) (of_list d _ _ _ _ c.deref-in-Some.ensures.value (c.in_ok-push_stmts-in-Some.ensures d)) (ended d c.push_keyword-in-Some-2.result _ _ c.push_keyword-in-Some-2.ensures)))

pub push_stmt-returns-in_ok-push_stmts-in-Accept : goal.push_stmt-returns-in_ok-push_stmts-in-Accept
push_stmt-returns-in_ok-push_stmts-in-Accept t c d =
    let head : List Mark = accept_marks d c.in-Accept.op c.in-Accept.link c.in-Accept.names.items in
    let body : List Mark = stmts_marks d (stmt_list c.in-Accept.body.items) in
    as_marks c.args.stmt.now d (head ++ (body ++ word d keywords.End ∷ [])) c.push_keyword-in-Accept.result _ _
    (ap (λ (s : stmt.Stmt). stmt_marks d (stmt_tree s)) c.in-Accept.is ∙ ap (stmt_marks d) (accept_tree c.in-Accept.op c.in-Accept.link c.in-Accept.names c.in-Accept.body) ∙ accept_first d c.in-Accept.op c.in-Accept.link c.in-Accept.names.items _)
    (three head body (word d keywords.End ∷ []) c.push_keyword-in-Accept.result _ c.push_accept.new.out.items c.push_stmts-in-Accept.new.out.items _
    (accept_of_list d _ _ _ _ _ _ c.deref-in-Accept.ensures.value (c.in_ok-push_accept-in-Accept.ensures d)) (of_list d _ _ _ _ c.deref-in-Accept-2.ensures.value (c.in_ok-push_stmts-in-Accept.ensures d))
    (ended d c.push_keyword-in-Accept.result _ _ c.push_keyword-in-Accept.ensures))

pub push_stmt-returns-in_ok-push_handlers-in-Try : goal.push_stmt-returns-in_ok-push_handlers-in-Try
push_stmt-returns-in_ok-push_handlers-in-Try t c d =
    let body : List Mark = stmts_marks d (stmt_list c.in-Try.body.items) in
    let others : List Mark = handlers_marks d (handler_list c.in-Try.handlers.items) in
    as_marks c.args.stmt.now d ((word d keywords.Try ∷ []) ++ (body ++ (others ++ word d keywords.End ∷ []))) c.push_keyword-in-Try-2.result _ _
    (ap (λ (s : stmt.Stmt). stmt_marks d (stmt_tree s)) c.in-Try.is ∙ ap (stmt_marks d) (try_tree c.in-Try.body c.in-Try.handlers))
    (three (word d keywords.Try ∷ []) body (others ++ word d keywords.End ∷ []) c.push_keyword-in-Try-2.result _ c.push_keyword-in-Try.new.out.items c.push_stmts-in-Try.new.out.items _
    (one_more (word d keywords.Try) _ _ c.in_ok-push_keyword-in-Try.ensures) (of_list d _ _ _ _ c.deref-in-Try.ensures.value (c.in_ok-push_stmts-in-Try.ensures d))
    (on_ok others (word d keywords.End ∷ []) c.push_keyword-in-Try-2.result _ c.push_handlers.new.out.items _
    (handlers_of_list d _ _ _ _ c.deref-in-Try-2.ensures.value (c.in_ok-push_handlers-in-Try.ensures d)) (ended d c.push_keyword-in-Try-2.result _ _ c.push_keyword-in-Try-2.ensures)))
