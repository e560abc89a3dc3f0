use Rattle.std.proofs.Common.{◌≡◌, ◌<◌, ◌+◌, ◌++◌, [], ◌∷◌, ℕ, List, Option, length, sym, ap, subst, ◌∙◌, arith, append_assoc}
use Rattle.std.specs.Global.{Vec}
use Rattle.std.proofs.lemmas.Result.{err_from_is_err_and}
use Rattle.lynx_code.specs.declared.instruction.Instruction.{Instruction}
use Rattle.lynx_code.specs.declared.instruction.Instruction.TheVariants as code
use Rattle.lynx_code.specs.Generation.{load, expr_code, stmt_code, stmts_code, stores}
use Rattle.lynx_tree.specs.Grammar.{IsStmt, AreStmts}
use Rattle.lynx_tree.specs.Trees.{expr_tree, stmt_list, handler_list, else_list, choice_tree}
use Rattle.lynx_tree.specs.declared.statement.Stmt as stmt
use Rattle.compiler_emission.specs.Jumps.{over_code}
use Rattle.compiler_emission.specs.Tables.{names_in}
use Rattle.compiler_emission.proofs.Arms.{has_none}
use Rattle.compiler_emission.proofs.Emitting.{as_failed, each_end, each_long, same_ok, same_long}
use Rattle.compiler_emission.proofs.Members.{stmt_at, handler_at}
use Rattle.compiler_emission.proofs.Statements.{stmt_here, handler_here, stmts_are, handlers_are}
use Rattle.compiler_emission.proofs.Wholes.{seq, one, then_ok, is_ok, one_long, no_more, seq_ok, seq_first, seq_second, seq_more, if_is, choice_is, while_is, accept_is, choice_view, else_view, while_view, accept_view, try_view, handler_view, handlers_number, try_first, try_second, try_third, try_is}
use Rattle.compiler_emission.proofs.Weights.{stmt_weight, stmts_weight, one_stmt, one_handler}
use Rattle.compiler_emission.proofs.emit_statement.+emit_statement.Goals as goal

-- ---- each call is for less

pub emit_stmt-emit_choice-requires : goal.emit_stmt-emit_choice-requires
emit_stmt-emit_choice-requires t c =
    let is = choice_view c.args.stmt.now c.in-If.condition c.in-If.then c.in-If.otherwise c.deref.result.now c.deref-in-If.result.now c.in-If.is c.deref.ensures c.deref-in-If.ensures.value in
    (omega (arith, c.decreases, ap stmt_weight is), subst IsStmt (sym is) c.requires)

pub emit_stmt-emit_while-requires : goal.emit_stmt-emit_while-requires
emit_stmt-emit_while-requires t c =
    let is = while_view c.args.stmt.now c.in-While.condition c.in-While.body c.deref-in-While.result.now c.in-While.is c.deref-in-While.ensures.value in
    (omega (arith, c.decreases, ap stmt_weight is), (subst IsStmt (sym is) c.requires).1)

pub emit_stmt-emit_accept-requires : goal.emit_stmt-emit_accept-requires
emit_stmt-emit_accept-requires t c =
    let is = accept_view c.args.stmt.now c.in-Accept.op c.in-Accept.link c.in-Accept.arguments c.in-Accept.body c.deref-in-Accept.result.now c.deref-in-Accept-2.result.now c.in-Accept.is c.deref-in-Accept.ensures.value c.deref-in-Accept-2.ensures.value in
    (omega (arith, c.decreases, ap stmt_weight is), subst IsStmt (sym is) c.requires)

pub emit_stmt-emit_try-requires : goal.emit_stmt-emit_try-requires
emit_stmt-emit_try-requires t c =
    let is = try_view c.args.stmt.now c.in-Try.body c.in-Try.handlers c.deref-in-Try.result.now c.deref-in-Try-2.result.now c.in-Try.is c.deref-in-Try.ensures.value c.deref-in-Try-2.ensures.value in
    (omega (arith, c.decreases, ap stmt_weight is), subst IsStmt (sym is) c.requires)

pub emit_stmt-emit_action-requires-clause-alone : goal.emit_stmt-emit_action-requires-clause-alone
emit_stmt-emit_action-requires-clause-alone t c = has_none c.args.stmt.now c.in_default.not-If c.in_default.not-While c.in_default.not-Accept c.in_default.not-Try

pub emit_choice-emit_if-requires : goal.emit_choice-emit_if-requires
emit_choice-emit_if-requires t c =
    let is = ap (λ (o : Option (Vec stmt.Stmt)). choice_tree (expr_tree c.args.condition.now) (stmt_list c.args.then.now) (else_list o)) c.in-None.is in
    (omega (arith, c.decreases, ap stmt_weight is), (subst IsStmt is c.requires).1)

pub emit_choice-emit_if_else-requires : goal.emit_choice-emit_if_else-requires
emit_choice-emit_if_else-requires t c =
    let is = else_view (expr_tree c.args.condition.now) (stmt_list c.args.then.now) c.args.otherwise.now c.in-Some.otherwise c.deref.result.now c.in-Some.is c.deref.ensures.value in
    let fit = subst IsStmt (sym is) c.requires in
    (omega (arith, c.decreases, ap stmt_weight is), (fit.1, fit.2))

pub emit_stmts-emit_stmt-requires : goal.emit_stmts-emit_stmt-requires
emit_stmts-emit_stmt-requires t c =
    let i = c.loop-stmt.stmt-index in
    (omega (arith, c.decreases, one_stmt c.args.stmts.now i c.stmt-item.result (omega arith) c.stmt-item.is), stmt_at c.args.stmts.now i c.stmt-item.result (omega arith) c.stmt-item.is c.requires)

pub emit_handlers-emit_handler-requires : goal.emit_handlers-emit_handler-requires
emit_handlers-emit_handler-requires t c =
    let i = c.loop-handler.handler-index in
    (omega (arith, c.decreases, one_handler c.args.handlers.now i c.handler-item.result (omega arith) c.handler-item.is), handler_at c.args.handlers.now i c.handler-item.result (omega arith) c.handler-item.is c.requires)

pub emit_handler-emit_over-requires : goal.emit_handler-emit_over-requires
emit_handler-emit_over-requires t c =
    (omega (arith, c.decreases, ap (λ (xs : List stmt.Stmt). stmts_weight (stmt_list xs)) c.deref.ensures.value), subst (λ (xs : List stmt.Stmt). AreStmts (stmt_list xs)) (sym c.deref.ensures.value) c.requires)

-- ---- statements with others inside

pub emit_stmt-returns-in-If-clause-ok : goal.emit_stmt-returns-in-If-clause-ok
emit_stmt-returns-in-If-clause-ok t c =
    same_ok c.emit_choice.result c.args.code.now.items c.emit_choice.new.code.items _ _
    (ap (stmt_code (names_in c.args.names.now) (length c.args.code.now.items)) (choice_view c.args.stmt.now c.in-If.condition c.in-If.then c.in-If.otherwise c.deref.result.now c.deref-in-If.result.now c.in-If.is c.deref.ensures c.deref-in-If.ensures.value)) c.emit_choice.ensures.ok

pub emit_stmt-returns-in-If-clause-long : goal.emit_stmt-returns-in-If-clause-long
emit_stmt-returns-in-If-clause-long t c h =
    same_long c.args.code.now.items _ _ (ap (stmt_code (names_in c.args.names.now) (length c.args.code.now.items)) (choice_view c.args.stmt.now c.in-If.condition c.in-If.then c.in-If.otherwise c.deref.result.now c.deref-in-If.result.now c.in-If.is c.deref.ensures c.deref-in-If.ensures.value))
    (c.emit_choice.ensures.long h)

pub emit_stmt-returns-in-While-clause-ok : goal.emit_stmt-returns-in-While-clause-ok
emit_stmt-returns-in-While-clause-ok t c =
    same_ok c.emit_while.result c.args.code.now.items c.emit_while.new.code.items _ _
    (ap (stmt_code (names_in c.args.names.now) (length c.args.code.now.items)) (while_view c.args.stmt.now c.in-While.condition c.in-While.body c.deref-in-While.result.now c.in-While.is c.deref-in-While.ensures.value)) c.emit_while.ensures.ok

pub emit_stmt-returns-in-While-clause-long : goal.emit_stmt-returns-in-While-clause-long
emit_stmt-returns-in-While-clause-long t c h =
    same_long c.args.code.now.items _ _ (ap (stmt_code (names_in c.args.names.now) (length c.args.code.now.items)) (while_view c.args.stmt.now c.in-While.condition c.in-While.body c.deref-in-While.result.now c.in-While.is c.deref-in-While.ensures.value)) (c.emit_while.ensures.long h)

pub emit_stmt-returns-in-Accept-clause-ok : goal.emit_stmt-returns-in-Accept-clause-ok
emit_stmt-returns-in-Accept-clause-ok t c =
    same_ok c.emit_accept.result c.args.code.now.items c.emit_accept.new.code.items _ _
    (ap (stmt_code (names_in c.args.names.now) (length c.args.code.now.items))
    (accept_view c.args.stmt.now c.in-Accept.op c.in-Accept.link c.in-Accept.arguments c.in-Accept.body c.deref-in-Accept.result.now c.deref-in-Accept-2.result.now c.in-Accept.is c.deref-in-Accept.ensures.value c.deref-in-Accept-2.ensures.value)) c.emit_accept.ensures.ok

pub emit_stmt-returns-in-Accept-clause-long : goal.emit_stmt-returns-in-Accept-clause-long
emit_stmt-returns-in-Accept-clause-long t c h =
    same_long c.args.code.now.items _ _
    (ap (stmt_code (names_in c.args.names.now) (length c.args.code.now.items))
    (accept_view c.args.stmt.now c.in-Accept.op c.in-Accept.link c.in-Accept.arguments c.in-Accept.body c.deref-in-Accept.result.now c.deref-in-Accept-2.result.now c.in-Accept.is c.deref-in-Accept.ensures.value c.deref-in-Accept-2.ensures.value)) (c.emit_accept.ensures.long h)

pub emit_stmt-returns-in-Try-clause-ok : goal.emit_stmt-returns-in-Try-clause-ok
emit_stmt-returns-in-Try-clause-ok t c =
    same_ok c.emit_try.result c.args.code.now.items c.emit_try.new.code.items _ _
    (ap (stmt_code (names_in c.args.names.now) (length c.args.code.now.items)) (try_view c.args.stmt.now c.in-Try.body c.in-Try.handlers c.deref-in-Try.result.now c.deref-in-Try-2.result.now c.in-Try.is c.deref-in-Try.ensures.value c.deref-in-Try-2.ensures.value)) c.emit_try.ensures.ok

pub emit_stmt-returns-in-Try-clause-long : goal.emit_stmt-returns-in-Try-clause-long
emit_stmt-returns-in-Try-clause-long t c h =
    same_long c.args.code.now.items _ _
    (ap (stmt_code (names_in c.args.names.now) (length c.args.code.now.items)) (try_view c.args.stmt.now c.in-Try.body c.in-Try.handlers c.deref-in-Try.result.now c.deref-in-Try-2.result.now c.in-Try.is c.deref-in-Try.ensures.value c.deref-in-Try-2.ensures.value)) (c.emit_try.ensures.long h)

-- ---- lists

pub emit_stmts-returns-in_err-emit_stmt-clause-long : goal.emit_stmts-returns-in_err-emit_stmt-clause-long
emit_stmts-returns-in_err-emit_stmt-clause-long t c h =
    let names = names_in c.args.names.now in
    let p = err_from_is_err_and c.from_residual.result c.from_residual.ensures.1 in
    let failed = as_failed c.emit_stmt.result c.from_residual.result c.in_err-emit_stmt.field-0.0 p.0 c.in_err-emit_stmt.was p.1 p.2 h in
    same_long c.args.code.now.items _ _ (stmts_are names (length c.args.code.now.items) c.args.stmts.now)
    (each_long (stmt_here names) c.args.stmts.now c.loop-stmt.stmt-index c.stmt-item.result c.args.code.now.items c.loop-stmt.code.items (omega arith) c.stmt-item.is (c.emit_stmt.ensures.long failed) c.loop-stmt.invariant)

pub emit_stmts-returns-clause-ok : goal.emit_stmts-returns-clause-ok
emit_stmts-returns-clause-ok t c =
    let names = names_in c.args.names.now in
    each_end (stmt_here names) c.args.stmts.now c.loop-stmt.stmt-index c.args.code.now.items c.loop-stmt.code.items (omega arith) c.loop-stmt.invariant
    ∙ ap (λ (is : List Instruction). c.args.code.now.items ++ is) (stmts_are names (length c.args.code.now.items) c.args.stmts.now)

pub emit_handlers-returns-in_err-emit_handler-clause-long : goal.emit_handlers-returns-in_err-emit_handler-clause-long
emit_handlers-returns-in_err-emit_handler-clause-long t c h =
    let names = names_in c.args.names.now in
    let p = err_from_is_err_and c.from_residual.result c.from_residual.ensures.1 in
    let failed = as_failed c.emit_handler.result c.from_residual.result c.in_err-emit_handler.field-0.0 p.0 c.in_err-emit_handler.was p.1 p.2 h in
    same_long c.args.code.now.items _ _ (handlers_are names 0 (length c.args.code.now.items) c.args.handlers.now)
    (each_long (handler_here names 0) c.args.handlers.now c.loop-handler.handler-index c.handler-item.result c.args.code.now.items c.loop-handler.code.items (omega arith) c.handler-item.is (c.emit_handler.ensures.long failed) c.loop-handler.invariant)

pub emit_handlers-returns-clause-ok : goal.emit_handlers-returns-clause-ok
emit_handlers-returns-clause-ok t c =
    let names = names_in c.args.names.now in
    each_end (handler_here names 0) c.args.handlers.now c.loop-handler.handler-index c.args.code.now.items c.loop-handler.code.items (omega arith) c.loop-handler.invariant
    ∙ ap (λ (is : List Instruction). c.args.code.now.items ++ is) (handlers_are names 0 (length c.args.code.now.items) c.args.handlers.now)

-- ---- choices

pub emit_if-returns-clause-ok : goal.emit_if-returns-clause-ok
emit_if-returns-clause-ok t c =
    let names = names_in c.args.names.now in
    let o = c.args.code.now.items in
    let x = expr_tree c.args.condition.now in
    let b = stmt_list c.args.then.now in
    then_ok c.emit_over.result (λ h. is_ok _ _ o c.emit_over.new.code.items (if_is names (length o) x b) (seq_ok (λ k. expr_code names k x) (λ k. over_code names code.JumpF 0 k b) o c.emit_expr.new.code.items c.emit_over.new.code.items c.in_ok-emit_expr.ensures.ok h)) c.emit_over.ensures.ok

pub emit_if-returns-clause-long : goal.emit_if-returns-clause-long
emit_if-returns-clause-long t c h =
    let names = names_in c.args.names.now in
    let o = c.args.code.now.items in
    let m = c.emit_expr.new.code.items in
    let x = expr_tree c.args.condition.now in
    let b = stmt_list c.args.then.now in
    same_long o _ _ (if_is names (length o) x b) (seq_second (λ k. expr_code names k x) (λ k. over_code names code.JumpF 0 k b) o m c.in_ok-emit_expr.ensures.ok (no_more (length m) (length (over_code names code.JumpF 0 (length m) b)) (c.emit_over.ensures.long h)))

pub emit_if_else-returns-in_err-emit_over-clause-long : goal.emit_if_else-returns-in_err-emit_over-clause-long
emit_if_else-returns-in_err-emit_over-clause-long t c h =
    let names = names_in c.args.names.now in
    let o = c.args.code.now.items in
    let m = c.emit_expr.new.code.items in
    let x = expr_tree c.args.condition.now in
    let b = stmt_list c.args.then.now in
    let d = stmt_list c.args.otherwise.now in
    let p = err_from_is_err_and c.from_residual-in_err-emit_over.result c.from_residual-in_err-emit_over.ensures.1 in
    let failed = as_failed c.emit_over.result c.from_residual-in_err-emit_over.result c.in_err-emit_over.field-0.0 p.0 c.in_err-emit_over.was p.1 p.2 h in
    let f : ℕ → List Instruction = seq (λ k. expr_code names k x) (λ k. over_code names code.JumpF 1 k b) in
    same_long o _ _ (choice_is names (length o) x b d)
    (seq_first f (λ k. over_code names code.Jump 0 k d) o 1 (seq_more (λ k. expr_code names k x) (λ k. over_code names code.JumpF 1 k b) o m 1 c.in_ok-emit_expr.ensures.ok (c.emit_over.ensures.long failed)) (omega arith))

pub emit_if_else-returns-clause-ok : goal.emit_if_else-returns-clause-ok
emit_if_else-returns-clause-ok t c =
    let names = names_in c.args.names.now in
    let o = c.args.code.now.items in
    let m = c.emit_expr.new.code.items in
    let n = c.emit_over.new.code.items in
    let x = expr_tree c.args.condition.now in
    let b = stmt_list c.args.then.now in
    let d = stmt_list c.args.otherwise.now in
    let f : ℕ → List Instruction = seq (λ k. expr_code names k x) (λ k. over_code names code.JumpF 1 k b) in
    let both = seq_ok (λ k. expr_code names k x) (λ k. over_code names code.JumpF 1 k b) o m n c.in_ok-emit_expr.ensures.ok c.in_ok-emit_over.ensures.ok in
    then_ok c.emit_over-2.result (λ h. is_ok _ _ o c.emit_over-2.new.code.items (choice_is names (length o) x b d) (seq_ok f (λ k. over_code names code.Jump 0 k d) o n c.emit_over-2.new.code.items both h)) c.emit_over-2.ensures.ok

pub emit_if_else-returns-clause-long : goal.emit_if_else-returns-clause-long
emit_if_else-returns-clause-long t c h =
    let names = names_in c.args.names.now in
    let o = c.args.code.now.items in
    let m = c.emit_expr.new.code.items in
    let n = c.emit_over.new.code.items in
    let x = expr_tree c.args.condition.now in
    let b = stmt_list c.args.then.now in
    let d = stmt_list c.args.otherwise.now in
    let f : ℕ → List Instruction = seq (λ k. expr_code names k x) (λ k. over_code names code.JumpF 1 k b) in
    let both = seq_ok (λ k. expr_code names k x) (λ k. over_code names code.JumpF 1 k b) o m n c.in_ok-emit_expr.ensures.ok c.in_ok-emit_over.ensures.ok in
    same_long o _ _ (choice_is names (length o) x b d) (seq_second f (λ k. over_code names code.Jump 0 k d) o n both (no_more (length n) (length (over_code names code.Jump 0 (length n) d)) (c.emit_over-2.ensures.long h)))

-- ---- loops

pub emit_while-returns-in_err-emit_over-clause-long : goal.emit_while-returns-in_err-emit_over-clause-long
emit_while-returns-in_err-emit_over-clause-long t c h =
    let names = names_in c.args.names.now in
    let o = c.args.code.now.items in
    let m = c.emit_expr.new.code.items in
    let x = expr_tree c.args.condition.now in
    let b = stmt_list c.args.body.now in
    let p = err_from_is_err_and c.from_residual-in_err-emit_over.result c.from_residual-in_err-emit_over.ensures.1 in
    let failed = as_failed c.emit_over.result c.from_residual-in_err-emit_over.result c.in_err-emit_over.field-0.0 p.0 c.in_err-emit_over.was p.1 p.2 h in
    let f : ℕ → List Instruction = seq (λ k. expr_code names k x) (λ k. over_code names code.JumpF 1 k b) in
    same_long o _ _ (while_is names (length o) x b)
    (seq_first f (one (code.Jump (length o))) o 1 (seq_more (λ k. expr_code names k x) (λ k. over_code names code.JumpF 1 k b) o m 1 c.in_ok-emit_expr.ensures.ok (c.emit_over.ensures.long failed)) (omega arith))

pub emit_while-returns-clause-ok : goal.emit_while-returns-clause-ok
emit_while-returns-clause-ok t c =
    let names = names_in c.args.names.now in
    let o = c.args.code.now.items in
    let m = c.emit_expr.new.code.items in
    let n = c.emit_over.new.code.items in
    let r = c.push.new.code.items in
    let x = expr_tree c.args.condition.now in
    let b = stmt_list c.args.body.now in
    let f : ℕ → List Instruction = seq (λ k. expr_code names k x) (λ k. over_code names code.JumpF 1 k b) in
    let both = seq_ok (λ k. expr_code names k x) (λ k. over_code names code.JumpF 1 k b) o m n c.in_ok-emit_expr.ensures.ok c.in_ok-emit_over.ensures.ok in
    let back : c.in_ok-start.start ≡ length o = c.in_ok-start.ensures.ok ∙ omega arith in
    then_ok c.push.result (λ h. is_ok _ _ o r (while_is names (length o) x b) (seq_ok f (one (code.Jump (length o))) o n r both (h ∙ ap (λ k. n ++ code.Jump k ∷ []) back))) c.push.ensures.ok

pub emit_while-returns-clause-long : goal.emit_while-returns-clause-long
emit_while-returns-clause-long t c h =
    let names = names_in c.args.names.now in
    let o = c.args.code.now.items in
    let m = c.emit_expr.new.code.items in
    let n = c.emit_over.new.code.items in
    let x = expr_tree c.args.condition.now in
    let b = stmt_list c.args.body.now in
    let f : ℕ → List Instruction = seq (λ k. expr_code names k x) (λ k. over_code names code.JumpF 1 k b) in
    let both = seq_ok (λ k. expr_code names k x) (λ k. over_code names code.JumpF 1 k b) o m n c.in_ok-emit_expr.ensures.ok c.in_ok-emit_over.ensures.ok in
    same_long o _ _ (while_is names (length o) x b) (seq_second f (one (code.Jump (length o))) o n both (one_long (code.Jump (length o)) n (c.push.ensures.long h)))

-- ---- tries

pub emit_try-returns-in_err-emit_guarded-clause-long : goal.emit_try-returns-in_err-emit_guarded-clause-long
emit_try-returns-in_err-emit_guarded-clause-long t c h =
    let p = err_from_is_err_and c.from_residual.result c.from_residual.ensures.1 in
    let failed = as_failed c.emit_guarded.result c.from_residual.result c.in_err-emit_guarded.field-0.0 p.0 c.in_err-emit_guarded.was p.1 p.2 h in
    try_first (names_in c.args.names.now) (stmt_list c.args.body.now) (handler_list c.args.handlers.now) c.args.code.now.items (c.emit_guarded.ensures.long failed)

pub emit_try-returns-in_err-emit_caught-clause-long : goal.emit_try-returns-in_err-emit_caught-clause-long
emit_try-returns-in_err-emit_caught-clause-long t c h =
    let p = err_from_is_err_and c.from_residual-in_err-emit_caught.result c.from_residual-in_err-emit_caught.ensures.1 in
    let failed = as_failed c.emit_caught.result c.from_residual-in_err-emit_caught.result c.in_err-emit_caught.field-0.0 p.0 c.in_err-emit_caught.was p.1 p.2 h in
    try_second (names_in c.args.names.now) (stmt_list c.args.body.now) (handler_list c.args.handlers.now) c.args.code.now.items c.emit_guarded.new.code.items c.in_ok-emit_guarded.ensures.ok (c.emit_caught.ensures.long failed)

pub emit_try-returns-in_err-end-clause-long : goal.emit_try-returns-in_err-end-clause-long
emit_try-returns-in_err-end-clause-long t c h =
    let p = err_from_is_err_and c.from_residual-in_err-end.result c.from_residual-in_err-end.ensures.1 in
    let failed = as_failed c.behind.result c.from_residual-in_err-end.result c.in_err-end.field-0.0 p.0 c.in_err-end.was p.1 p.2 h in
    try_third (names_in c.args.names.now) (stmt_list c.args.body.now) (handler_list c.args.handlers.now) c.args.code.now.items c.emit_guarded.new.code.items c.emit_caught.new.code.items c.in_ok-emit_guarded.ensures.ok c.in_ok-emit_caught.ensures.ok
    (subst (λ (is : List Instruction). 65535 < length is + 0) c.deref.ensures.value (c.behind.ensures.long failed))

pub emit_try-returns-clause-ok : goal.emit_try-returns-clause-ok
emit_try-returns-clause-ok t c =
    try_is (names_in c.args.names.now) (stmt_list c.args.body.now) (handler_list c.args.handlers.now) c.args.code.now.items c.emit_guarded.new.code.items c.emit_caught.new.code.items c.close_try.new.code.items c.len-first.result c.in_ok-end.end (length c.args.handlers.now)
    c.in_ok-emit_guarded.ensures.ok (omega arith) c.in_ok-emit_caught.ensures.ok (c.in_ok-end.ensures.ok ∙ ap (λ (is : List Instruction). length is + 0) c.deref.ensures.value) (handlers_number c.args.handlers.now) c.close_try.ensures

-- ---- accepts

pub emit_accept-returns-clause-ok : goal.emit_accept-returns-clause-ok
emit_accept-returns-clause-ok t c =
    let names = names_in c.args.names.now in
    let o = c.args.code.now.items in
    let b = stmt_list c.args.body.now in
    let f : ℕ → List Instruction = λ k. load names c.args.link.now ∷ code.Accept (names.op c.args.op.now) ∷ [] in
    let g : ℕ → List Instruction = λ k. stores names c.args.arguments.now in
    let head : c.emit_two.new.code.items ≡ o ++ f (length o) = c.in_ok-emit_two.ensures.ok ∙ (λ i. o ++ c.load.ensures i ∷ code.Accept (c.op.ensures i) ∷ []) in
    let stored = seq_ok f g o c.emit_two.new.code.items c.emit_stores.new.code.items head c.in_ok-emit_stores.ensures.ok in
    let inside = seq_ok (seq f g) (λ k. stmts_code names k b) o c.emit_stores.new.code.items c.emit_stmts.new.code.items stored c.in_ok-emit_stmts.ensures.ok in
    then_ok c.push.result (λ h. is_ok _ _ o c.push.new.code.items (accept_is names (length o) c.args.op.now c.args.link.now c.args.arguments.now b) (seq_ok (seq (seq f g) (λ k. stmts_code names k b)) (one code.Close) o c.emit_stmts.new.code.items c.push.new.code.items inside h)) c.push.ensures.ok

pub emit_accept-returns-in_err-emit_stmts-clause-long : goal.emit_accept-returns-in_err-emit_stmts-clause-long
emit_accept-returns-in_err-emit_stmts-clause-long t c h =
    let names = names_in c.args.names.now in
    let o = c.args.code.now.items in
    let b = stmt_list c.args.body.now in
    let f : ℕ → List Instruction = λ k. load names c.args.link.now ∷ code.Accept (names.op c.args.op.now) ∷ [] in
    let g : ℕ → List Instruction = λ k. stores names c.args.arguments.now in
    let head : c.emit_two.new.code.items ≡ o ++ f (length o) = c.in_ok-emit_two.ensures.ok ∙ (λ i. o ++ c.load.ensures i ∷ code.Accept (c.op.ensures i) ∷ []) in
    let stored = seq_ok f g o c.emit_two.new.code.items c.emit_stores.new.code.items head c.in_ok-emit_stores.ensures.ok in
    let p = err_from_is_err_and c.from_residual-in_err-emit_stmts.result c.from_residual-in_err-emit_stmts.ensures.1 in
    let failed = as_failed c.emit_stmts.result c.from_residual-in_err-emit_stmts.result c.in_err-emit_stmts.field-0.0 p.0 c.in_err-emit_stmts.was p.1 p.2 h in
    let inside = seq_second (seq f g) (λ k. stmts_code names k b) o c.emit_stores.new.code.items stored (c.emit_stmts.ensures.long failed) in
    same_long o _ _ (accept_is names (length o) c.args.op.now c.args.link.now c.args.arguments.now b)
    (seq_first (seq (seq f g) (λ k. stmts_code names k b)) (one code.Close) o 0 (omega (arith, inside)) (omega arith))

pub emit_accept-returns-clause-long : goal.emit_accept-returns-clause-long
emit_accept-returns-clause-long t c h =
    let names = names_in c.args.names.now in
    let o = c.args.code.now.items in
    let b = stmt_list c.args.body.now in
    let f : ℕ → List Instruction = λ k. load names c.args.link.now ∷ code.Accept (names.op c.args.op.now) ∷ [] in
    let g : ℕ → List Instruction = λ k. stores names c.args.arguments.now in
    let head : c.emit_two.new.code.items ≡ o ++ f (length o) = c.in_ok-emit_two.ensures.ok ∙ (λ i. o ++ c.load.ensures i ∷ code.Accept (c.op.ensures i) ∷ []) in
    let stored = seq_ok f g o c.emit_two.new.code.items c.emit_stores.new.code.items head c.in_ok-emit_stores.ensures.ok in
    let inside = seq_ok (seq f g) (λ k. stmts_code names k b) o c.emit_stores.new.code.items c.emit_stmts.new.code.items stored c.in_ok-emit_stmts.ensures.ok in
    same_long o _ _ (accept_is names (length o) c.args.op.now c.args.link.now c.args.arguments.now b)
    (seq_second (seq (seq f g) (λ k. stmts_code names k b)) (one code.Close) o c.emit_stmts.new.code.items inside (one_long code.Close c.emit_stmts.new.code.items (c.push.ensures.long h)))

-- ---- handlers

pub emit_handler-returns-clause-ok : goal.emit_handler-returns-clause-ok
emit_handler-returns-clause-ok t c =
    let names = names_in c.args.names.now in
    let o = c.args.code.now.items in
    let over : c.emit_over.new.code.items ≡ o ++ _ = c.in_ok-emit_over.ensures.ok ∙ ap (λ (is : List Instruction). o ++ is) (handler_view names (length o) c.args.handler.now c.exception.result c.deref.result.now c.exception.ensures c.deref.ensures.value) in
    then_ok c.push.result (λ h. h ∙ ap (λ (y : List Instruction). y ++ code.Jump 0 ∷ []) over ∙ append_assoc o _ (code.Jump 0 ∷ [])) c.push.ensures.ok
