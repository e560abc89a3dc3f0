use Rattle.std.proofs.Common.{◌≡◌, ◌+◌, ◌*◌, ◌++◌, length, drop}
use Rattle.lynx_tree.specs.Trees.{expr_tree, stmt_tree, stmt_list, handler_list, else_list, choice_tree}
use Rattle.compiler_emission.specs.Tables.{names_in}
use Rattle.compiler_emission.proofs.Emitting.{each}
use Rattle.compiler_emission.proofs.Statements.{stmt_here, handler_here}
use Rattle.compiler_emission.proofs.Weights.{stmt_weight, stmts_weight, handlers_weight}
use Rattle.compiler_emission.proofs.emit_statement.+emit_statement.Given as goal

-- each part has fewer statements, and a function that makes the same of another has less to do itself

abbrev pub decreases-emit_stmt : goal.decreases-emit_stmt
decreases-emit_stmt l = 3 * stmt_weight (stmt_tree l.stmt.now) + 1

abbrev pub decreases-emit_stmts : goal.decreases-emit_stmts
decreases-emit_stmts l = 3 * stmts_weight (stmt_list l.stmts.now)

abbrev pub decreases-emit_over : goal.decreases-emit_over
decreases-emit_over l = 3 * stmts_weight (stmt_list l.stmts.now) + 1

abbrev pub decreases-emit_choice : goal.decreases-emit_choice
decreases-emit_choice l = 3 * stmt_weight (choice_tree (expr_tree l.condition.now) (stmt_list l.then.now) (else_list l.otherwise.now))

abbrev pub decreases-emit_if : goal.decreases-emit_if
decreases-emit_if l = 3 * stmts_weight (stmt_list l.then.now) + 2

abbrev pub decreases-emit_if_else : goal.decreases-emit_if_else
decreases-emit_if_else l = 3 * (stmts_weight (stmt_list l.then.now) + stmts_weight (stmt_list l.otherwise.now)) + 2

abbrev pub decreases-emit_while : goal.decreases-emit_while
decreases-emit_while l = 3 * stmts_weight (stmt_list l.body.now) + 2

abbrev pub decreases-emit_accept : goal.decreases-emit_accept
decreases-emit_accept l = 3 * stmts_weight (stmt_list l.body.now) + 1

abbrev pub decreases-emit_try : goal.decreases-emit_try
decreases-emit_try l = 3 * (stmts_weight (stmt_list l.body.now) + handlers_weight (handler_list l.handlers.now)) + 3

abbrev pub decreases-emit_guarded : goal.decreases-emit_guarded
decreases-emit_guarded l = 3 * stmts_weight (stmt_list l.body.now) + 2

abbrev pub decreases-emit_caught : goal.decreases-emit_caught
decreases-emit_caught l = 3 * handlers_weight (handler_list l.handlers.now) + 1

abbrev pub decreases-emit_handlers : goal.decreases-emit_handlers
decreases-emit_handlers l = 3 * handlers_weight (handler_list l.handlers.now)

abbrev pub decreases-emit_handler : goal.decreases-emit_handler
decreases-emit_handler l = 3 * stmts_weight (stmt_list l.handler.now.body.items) + 2

-- what is added and what is left to add are the whole

abbrev pub invariant-emit_stmts-loop-stmt : goal.invariant-emit_stmts-loop-stmt
invariant-emit_stmts-loop-stmt l =
    l.code.items ++ each (stmt_here (names_in l.names)) (length l.code.items) (drop l.stmt-index l.stmts) ≡ l.initial.code.items ++ each (stmt_here (names_in l.names)) (length l.initial.code.items) l.stmts

abbrev pub invariant-emit_handlers-loop-handler : goal.invariant-emit_handlers-loop-handler
invariant-emit_handlers-loop-handler l =
    l.code.items ++ each (handler_here (names_in l.names) 0) (length l.code.items) (drop l.handler-index l.handlers) ≡ l.initial.code.items ++ each (handler_here (names_in l.names) 0) (length l.initial.code.items) l.handlers
