use Rattle.std.proofs.Common.{◌≡◌, ℕ, ◌++◌, drop}
use Rattle.std.specs.List.{flat_map}
use Rattle.lynx_tree.specs.Printing.{text_of}
use Rattle.lynx_printer.proofs.Statements.{stmt_here, handler_here}
use Rattle.lynx_printer.proofs.print_statement.+print_statement.Given as goal

-- what is printed and what is left to print are the whole

abbrev pub invariant-push_stmts-loop-stmt : goal.invariant-push_stmts-loop-stmt
invariant-push_stmts-loop-stmt l = (d : ℕ) → l.out.items ++ text_of (flat_map (stmt_here d) (drop l.stmt-index l.stmts)) ≡ l.initial.out.items ++ text_of (flat_map (stmt_here d) l.stmts)

abbrev pub invariant-push_handlers-loop-handler : goal.invariant-push_handlers-loop-handler
invariant-push_handlers-loop-handler l = (d : ℕ) → l.out.items ++ text_of (flat_map (handler_here d) (drop l.handler-index l.handlers)) ≡ l.initial.out.items ++ text_of (flat_map (handler_here d) l.handlers)
