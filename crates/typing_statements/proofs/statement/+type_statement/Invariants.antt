use Rattle.std.proofs.Common.{◌≡◌, ◌+◌, ◌*◌, ◌≤◌, length, drop}
use Rattle.lynx_tree.specs.Grammar.{stmt_marks, handlers_marks}
use Rattle.lynx_tree.specs.Trees.{expr_tree, stmt_tree, stmt_list, handler_list, else_list, While, choice_tree}
use Rattle.typing_rules.specs.Meanings.{scope_of}
use Rattle.typing_rules.specs.Progress.{first_with}
use Rattle.typing_rules.specs.Statements.{stmts_size, stmts_faults, handlers_faults}
use Rattle.typing_statements.specs.Requests.{request_of}
use Rattle.typing_statements.proofs.statement.+type_statement.Given as goal

-- each part has fewer tokens

abbrev pub decreases-statement : goal.decreases-statement
decreases-statement l = 2 * length (stmt_marks 0 (stmt_tree l.stmt.now)) + 1

abbrev pub decreases-choice : goal.decreases-choice
decreases-choice l = 2 * length (stmt_marks 0 (choice_tree (expr_tree l.test.now) (stmt_list l.then.now) (else_list l.otherwise.now)))

abbrev pub decreases-repetition : goal.decreases-repetition
decreases-repetition l = 2 * length (stmt_marks 0 (While (expr_tree l.test.now) (stmt_list l.body.now)))

abbrev pub decreases-statements : goal.decreases-statements
decreases-statements l = 2 * stmts_size (stmt_list l.stmts.now)

abbrev pub decreases-handlers_of : goal.decreases-handlers_of
decreases-handlers_of l = 2 * length (handlers_marks 0 (handler_list l.handlers.now))

-- what was seen and what is left are the whole

abbrev pub invariant-statements-loop-stmt : goal.invariant-statements-loop-stmt
invariant-statements-loop-stmt l = record {
  since : l.initial.walk.at ≤ l.walk.at;
  at : l.walk.at + stmts_size (stmt_list (drop l.stmt-index l.stmts)) ≡ l.initial.walk.at + stmts_size (stmt_list l.stmts);
  first : first_with l.walk.first (stmts_faults (scope_of l.scope) (request_of l.request) l.walk.at (stmt_list (drop l.stmt-index l.stmts))) ≡ first_with l.initial.walk.first (stmts_faults (scope_of l.scope) (request_of l.request) l.initial.walk.at (stmt_list l.stmts));
}

abbrev pub invariant-handlers_of-loop-handler : goal.invariant-handlers_of-loop-handler
invariant-handlers_of-loop-handler l = record {
  since : l.initial.walk.at ≤ l.walk.at;
  at : l.walk.at + length (handlers_marks 0 (handler_list (drop l.handler-index l.handlers))) ≡ l.initial.walk.at + length (handlers_marks 0 (handler_list l.handlers));
  first : first_with l.walk.first (handlers_faults (scope_of l.scope) (request_of l.request) l.walk.at (handler_list (drop l.handler-index l.handlers))) ≡ first_with l.initial.walk.first (handlers_faults (scope_of l.scope) (request_of l.request) l.initial.walk.at (handler_list l.handlers));
}
