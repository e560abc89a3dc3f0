-- The faults of statements.
use Rattle.std.specs.Prelude.{ℕ, ◌+◌, List, [], ◌∷◌, ◌++◌, length, Some}
use Rattle.lynx_tree.specs.declared.declaration.TypeName.{TypeName}
use Rattle.lynx_tree.specs.declared.declaration.TypeName.TheVariants as types
use Rattle.lynx_tree.specs.Trees.{StmtTree, StmtTrees, HandlerTrees}
use Rattle.lynx_tree.specs.Trees as trees
use Rattle.lynx_tree.specs.Grammar.{stmt_marks, stmts_marks, exprs_marks, names_marks}
use Rattle.typing_rules.specs.Types.{Held}
use Rattle.typing_rules.specs.Names.{Scope, type_of_variable, arguments_of, results_of, known}
use Rattle.typing_rules.specs.Expressions.{expr_size, value_faults, values_faults, number_of}
use Rattle.typing_rules.specs.Rules.{Fault, Request, Asks, is_variable, is_op, is_an_entry, new_names_differ}
use Rattle.typing_rules.specs.Rules.{variable_is_link, names_exception, indexed_is_row, index_is_int, condition_is_bool}
use Rattle.typing_rules.specs.Rules.{value_is_of_target, connect_has_values, connect_value_fits, connect_has_names}
use Rattle.typing_rules.specs.Rules.{connect_name_fits, accept_has_names, accept_name_fits, results_needed}
use Rattle.typing_rules.specs.Rules.{reply_has_request, reply_has_values, reply_value_fits, value_is_written}

-- how many tokens statements have, each with its semicolon
abbrev pub stmts_size : StmtTrees → ℕ
stmts_size body = length (stmts_marks 0 body)

-- a name that stands for a link
abbrev pub link_faults : Scope → ℕ → List ℕ → List Fault
link_faults scope at name = is_variable at (scope name) ++ variable_is_link at (type_of_variable (scope name))

-- names of variables with commas between, whose types a rule compares with these; no type is left where it is not known
abbrev pub names_faults : (TypeName → ℕ → Held → List Fault) → Scope → ℕ → List (List ℕ) → List TypeName → List Fault
names_faults rule scope at [] ts = []
names_faults rule scope at (n ∷ ns) [] = is_variable at (scope n) ++ names_faults rule scope (at + 2) ns []
names_faults rule scope at (n ∷ ns) (t ∷ ts) =
    is_variable at (scope n) ++ rule t at (type_of_variable (scope n)) ++ names_faults rule scope (at + 2) ns ts

-- the faults of a statement that begins at this token, where a `reply` belongs to this request
abbrev mutual
  pub stmt_faults : Scope → Request → ℕ → StmtTree → List Fault
  stmt_faults scope request at (trees.Assign n value) =
      is_variable at (scope n) ++ value_faults (value_is_of_target (type_of_variable (scope n))) scope (at + 2) value
  stmt_faults scope request at (trees.AssignMember n index value) =
      is_variable at (scope n) ++ indexed_is_row at (type_of_variable (scope n))
      ++ value_faults index_is_int scope (at + 2) index
      ++ value_faults (value_is_of_target (Some types.Int)) scope (at + expr_size index + 4) value
  stmt_faults scope request at (trees.If condition then) = value_faults condition_is_bool scope (at + 1) condition
      ++ stmts_faults scope request (at + expr_size condition + 2) then
  stmt_faults scope request at (trees.IfElse condition then otherwise) = value_faults condition_is_bool scope (at + 1) condition
      ++ stmts_faults scope request (at + expr_size condition + 2) then
      ++ stmts_faults scope request (at + expr_size condition + stmts_size then + 3) otherwise
  stmt_faults scope request at (trees.While condition body) = value_faults condition_is_bool scope (at + 1) condition
      ++ stmts_faults scope request (at + expr_size condition + 2) body
  stmt_faults scope request at (trees.Write value) = value_faults value_is_written scope (at + 1) value
  stmt_faults scope request at (trees.Await condition) = value_faults condition_is_bool scope (at + 1) condition
  stmt_faults scope request at trees.Stop = []
  stmt_faults scope request at (trees.Raise n) = names_exception (at + 1) n
  stmt_faults scope request at (trees.New first second) =
      link_faults scope (at + 1) first ++ link_faults scope (at + 3) second ++ new_names_differ (at + 3) first second
  stmt_faults scope request at (trees.Destroy n) = link_faults scope (at + 1) n
  stmt_faults scope request at (trees.Bind link entry) = link_faults scope (at + 1) link ++ is_an_entry (at + 3) (scope entry)
  stmt_faults scope request at (trees.Unbind link entry) = link_faults scope (at + 1) link ++ is_an_entry (at + 3) (scope entry)
  stmt_faults scope request at (trees.Connect op link values results) = is_op (at + 1) (scope op)
      ++ connect_has_values (at + 1) (number_of values) (arguments_of (scope op))
      ++ connect_has_names (at + 1) (length results) (results_of (scope op))
      ++ link_faults scope (at + 3) link
      ++ values_faults connect_value_fits scope (at + 5) values (known (arguments_of (scope op)))
      ++ names_faults connect_name_fits scope (at + length (exprs_marks 0 values) + 6) results (known (results_of (scope op)))
  stmt_faults scope request at (trees.Accept op link names body) = is_op (at + 1) (scope op)
      ++ accept_has_names (at + 1) (length names) (arguments_of (scope op))
      ++ link_faults scope (at + 3) link
      ++ names_faults accept_name_fits scope (at + 5) names (known (arguments_of (scope op)))
      ++ stmts_faults scope (Asks (results_of (scope op))) (at + length (names_marks 0 names) + 5) body
  stmt_faults scope request at (trees.Reply values) = reply_has_request at request
      ++ reply_has_values at (number_of values) request
      ++ values_faults reply_value_fits scope (at + 2) values (known (results_needed request))
  stmt_faults scope request at (trees.Try body handlers) = stmts_faults scope request (at + 1) body
      ++ handlers_faults scope request (at + stmts_size body + 1) handlers

  pub stmts_faults : Scope → Request → ℕ → StmtTrees → List Fault
  stmts_faults scope request at trees.no_stmts = []
  stmts_faults scope request at (trees.more_stmts s rest) =
      stmt_faults scope request at s ++ stmts_faults scope request (at + length (stmt_marks 0 s) + 1) rest

  pub handlers_faults : Scope → Request → ℕ → HandlerTrees → List Fault
  handlers_faults scope request at trees.no_handlers = []
  handlers_faults scope request at (trees.more_handlers n body rest) =
      names_exception (at + 1) n ++ stmts_faults scope request (at + 3) body
      ++ handlers_faults scope request (at + stmts_size body + 3) rest
