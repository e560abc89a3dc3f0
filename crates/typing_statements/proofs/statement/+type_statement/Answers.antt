use Rattle.std.proofs.Common.{◌≡◌, ◌+◌, ◌<◌, ◌++◌, length, drop, subst, refl, sym, ap, ◌∙◌, arith}
use Rattle.lynx_tree.specs.Grammar.{stmt_marks}
use Rattle.lynx_tree.specs.Trees.{StmtTree, expr_tree, stmt_tree, stmt_list, handler_list, else_list, choice_tree}
use Rattle.lynx_tree.specs.Trees as trees
use Rattle.typing_rules.specs.Meanings.{scope_of, types_known}
use Rattle.typing_rules.specs.Progress.{first_with}
use Rattle.typing_rules.specs.Rules.{names_exception}
use Rattle.typing_rules.specs.Statements.{stmts_size, stmt_faults, stmts_faults, handlers_faults}
use Rattle.typing_rules.proofs.Progress.{joined, left_first}
use Rattle.typing_statements.specs.Requests.{request_of}
use Rattle.typing_statements.proofs.Sizes.{accept-size, head-size}
use Rattle.typing_statements.proofs.Cases.{choice_is, while_is, accept_is, try_is, stmt_at, stmt_first, if_else-size, while-size, try-size, choice_least, if_first, if_else_first, body_first, try_first, next_stmt, stmt-split, next_handler, handler-split}
use Rattle.typing_statements.proofs.statement.+type_statement.Goals as goal

-- ---- choices

pub choice-statements-requires : goal.choice-statements-requires
choice-statements-requires t c = (omega (arith, choice_least (expr_tree c.args.test.now) (stmt_list c.args.then.now) (else_list c.args.otherwise.now), c.decreases), omega (arith, choice_least (expr_tree c.args.test.now) (stmt_list c.args.then.now) (else_list c.args.otherwise.now)))

pub choice-statements-requires-in-Some : goal.choice-statements-requires-in-Some
choice-statements-requires-in-Some t c =
    let e = expr_tree c.args.test.now in
    let b = stmt_list c.args.then.now in
    let is : choice_tree e b (else_list c.args.otherwise.now) ≡ trees.IfElse e b (stmt_list c.deref.result.now) =
    ap (λ o. choice_tree e b (else_list o)) c.in-Some.is ∙ ap (λ xs. trees.IfElse e b (stmt_list xs)) (sym c.deref.ensures.value) in
    (omega (arith, ap (λ (x : StmtTree). length (stmt_marks 0 x)) is, if_else-size e b (stmt_list c.deref.result.now), c.decreases), omega (arith, ap (λ (x : StmtTree). length (stmt_marks 0 x)) is, if_else-size e b (stmt_list c.deref.result.now)))

pub choice-returns-in-Some-clause-first : goal.choice-returns-in-Some-clause-first
choice-returns-in-Some-clause-first t c =
    let s = scope_of c.args.scope.now in
    let r = request_of c.args.request in
    let a = c.args.walk.now.at in
    let e = expr_tree c.args.test.now in
    let b = stmt_list c.args.then.now in
    let d = stmt_list c.deref.result.now in
    let is : choice_tree e b (else_list c.args.otherwise.now) ≡ trees.IfElse e b d =
    ap (λ o. choice_tree e b (else_list o)) c.in-Some.is ∙ ap (λ xs. trees.IfElse e b (stmt_list xs)) (sym c.deref.ensures.value) in
    stmt_first (trees.IfElse e b d) (choice_tree e b (else_list c.args.otherwise.now)) is s r a c.args.walk.now.first c.skip-in-Some.new.self.first
    (c.skip-in-Some.ensures.first
    ∙ if_else_first s r a e b d c.skip.new.self.at c.skip-2.new.self.at c.args.walk.now.first c.condition.new.walk.first c.statements.new.walk.first c.statements-in-Some.new.walk.first (omega arith) (omega arith) c.condition.ensures.first
    (c.statements.ensures.first ∙ ap (λ o. first_with o (stmts_faults s r c.skip.new.self.at b)) c.skip.ensures.first)
    (c.statements-in-Some.ensures.first ∙ ap (λ o. first_with o (stmts_faults s r c.skip-2.new.self.at d)) c.skip-2.ensures.first))

pub choice-returns-in_default-clause-first : goal.choice-returns-in_default-clause-first
choice-returns-in_default-clause-first t c =
    let s = scope_of c.args.scope.now in
    let r = request_of c.args.request in
    let e = expr_tree c.args.test.now in
    let b = stmt_list c.args.then.now in
    let is : choice_tree e b (else_list c.args.otherwise.now) ≡ trees.If e b = ap (λ o. choice_tree e b (else_list o)) c.in_default.is in
    stmt_first (trees.If e b) (choice_tree e b (else_list c.args.otherwise.now)) is s r c.args.walk.now.at c.args.walk.now.first c.skip-2.new.self.first
    (c.skip-2.ensures.first ∙ if_first s r c.args.walk.now.at e b c.skip.new.self.at c.args.walk.now.first c.condition.new.walk.first c.statements.new.walk.first (omega arith) c.condition.ensures.first
    (c.statements.ensures.first ∙ ap (λ o. first_with o (stmts_faults s r c.skip.new.self.at b)) c.skip.ensures.first))

pub statement-choice-requires : goal.statement-choice-requires
statement-choice-requires t c =
    let is = choice_is c.args.stmt.now c.in-If.condition c.in-If.then c.in-If.otherwise c.deref.result.now c.deref-in-If.result.now c.in-If.is c.deref.ensures c.deref-in-If.ensures.value in
    (omega (arith, ap (λ (x : StmtTree). length (stmt_marks 0 x)) is, c.decreases), subst (λ x. c.args.walk.now.at + length (stmt_marks 0 x) < 4294967296) is c.requires)

pub statement-returns-in-If-clause-at : goal.statement-returns-in-If-clause-at
statement-returns-in-If-clause-at t c =
    stmt_at _ _ (choice_is c.args.stmt.now c.in-If.condition c.in-If.then c.in-If.otherwise c.deref.result.now c.deref-in-If.result.now c.in-If.is c.deref.ensures c.deref-in-If.ensures.value) _ _ c.choice.ensures.at

pub statement-returns-in-If-clause-first : goal.statement-returns-in-If-clause-first
statement-returns-in-If-clause-first t c =
    stmt_first _ _ (choice_is c.args.stmt.now c.in-If.condition c.in-If.then c.in-If.otherwise c.deref.result.now c.deref-in-If.result.now c.in-If.is c.deref.ensures c.deref-in-If.ensures.value)
    (scope_of c.args.scope.now) (request_of c.args.request) c.args.walk.now.at _ _ c.choice.ensures.first

-- ---- loops

pub repetition-statements-requires : goal.repetition-statements-requires
repetition-statements-requires t c = (omega (arith, while-size (expr_tree c.args.test.now) (stmt_list c.args.body.now), c.decreases), omega (arith, while-size (expr_tree c.args.test.now) (stmt_list c.args.body.now)))

pub repetition-returns-clause-first : goal.repetition-returns-clause-first
repetition-returns-clause-first t c =
    let s = scope_of c.args.scope.now in
    let r = request_of c.args.request in
    let b = stmt_list c.args.body.now in
    c.skip-2.ensures.first ∙ if_first s r c.args.walk.now.at (expr_tree c.args.test.now) b c.skip.new.self.at c.args.walk.now.first c.condition.new.walk.first c.statements.new.walk.first (omega arith) c.condition.ensures.first
    (c.statements.ensures.first ∙ ap (λ o. first_with o (stmts_faults s r c.skip.new.self.at b)) c.skip.ensures.first)

pub statement-repetition-requires : goal.statement-repetition-requires
statement-repetition-requires t c =
    let is = while_is c.args.stmt.now c.in-While.condition c.in-While.body c.deref-in-While.result.now c.in-While.is c.deref-in-While.ensures.value in
    (omega (arith, ap (λ (x : StmtTree). length (stmt_marks 0 x)) is, c.decreases), subst (λ x. c.args.walk.now.at + length (stmt_marks 0 x) < 4294967296) is c.requires)

pub statement-returns-in-While-clause-at : goal.statement-returns-in-While-clause-at
statement-returns-in-While-clause-at t c =
    stmt_at _ _ (while_is c.args.stmt.now c.in-While.condition c.in-While.body c.deref-in-While.result.now c.in-While.is c.deref-in-While.ensures.value) _ _ c.repetition.ensures.at

pub statement-returns-in-While-clause-first : goal.statement-returns-in-While-clause-first
statement-returns-in-While-clause-first t c =
    stmt_first _ _ (while_is c.args.stmt.now c.in-While.condition c.in-While.body c.deref-in-While.result.now c.in-While.is c.deref-in-While.ensures.value)
    (scope_of c.args.scope.now) (request_of c.args.request) c.args.walk.now.at _ _ c.repetition.ensures.first

-- ---- accepts

pub statement-statements-requires : goal.statement-statements-requires
statement-statements-requires t c =
    let ns = c.deref-in-Accept.result.now in
    let xs = c.deref-in-Accept-2.result.now in
    let is = accept_is c.args.stmt.now c.in-Accept.op c.in-Accept.link c.in-Accept.names c.in-Accept.body ns xs c.in-Accept.is c.deref-in-Accept.ensures.value c.deref-in-Accept-2.ensures.value in (
      omega (arith, ap (λ (x : StmtTree). length (stmt_marks 0 x)) is, accept-size 0 c.in-Accept.op c.in-Accept.link ns (stmt_list xs), head-size 0 c.in-Accept.op c.in-Accept.link ns, c.decreases),
      omega (arith, ap (λ (x : StmtTree). length (stmt_marks 0 x)) is, accept-size 0 c.in-Accept.op c.in-Accept.link ns (stmt_list xs), head-size 0 c.in-Accept.op c.in-Accept.link ns),
    )

pub statement-skip-requires-in-Accept : goal.statement-skip-requires-in-Accept
statement-skip-requires-in-Accept t c =
    let ns = c.deref-in-Accept.result.now in
    let xs = c.deref-in-Accept-2.result.now in
    let is = accept_is c.args.stmt.now c.in-Accept.op c.in-Accept.link c.in-Accept.names c.in-Accept.body ns xs c.in-Accept.is c.deref-in-Accept.ensures.value c.deref-in-Accept-2.ensures.value in
    omega (arith, ap (λ (x : StmtTree). length (stmt_marks 0 x)) is, accept-size 0 c.in-Accept.op c.in-Accept.link ns (stmt_list xs), head-size 0 c.in-Accept.op c.in-Accept.link ns)

pub statement-returns-in-Accept-clause-at : goal.statement-returns-in-Accept-clause-at
statement-returns-in-Accept-clause-at t c =
    let ns = c.deref-in-Accept.result.now in
    let xs = c.deref-in-Accept-2.result.now in
    let is = accept_is c.args.stmt.now c.in-Accept.op c.in-Accept.link c.in-Accept.names c.in-Accept.body ns xs c.in-Accept.is c.deref-in-Accept.ensures.value c.deref-in-Accept-2.ensures.value in
    omega (arith, ap (λ (x : StmtTree). length (stmt_marks 0 x)) is, accept-size 0 c.in-Accept.op c.in-Accept.link ns (stmt_list xs), head-size 0 c.in-Accept.op c.in-Accept.link ns)

pub statement-returns-in-Accept-clause-first : goal.statement-returns-in-Accept-clause-first
statement-returns-in-Accept-clause-first t c =
    let s = scope_of c.args.scope.now in
    let r = request_of c.args.request in
    let ns = c.deref-in-Accept.result.now in
    let xs = c.deref-in-Accept-2.result.now in
    stmt_first _ _ (accept_is c.args.stmt.now c.in-Accept.op c.in-Accept.link c.in-Accept.names c.in-Accept.body ns xs c.in-Accept.is c.deref-in-Accept.ensures.value c.deref-in-Accept-2.ensures.value) s r c.args.walk.now.at _ _
    (c.skip-in-Accept.ensures.first
    ∙ body_first s r c.args.walk.now.at c.in-Accept.op c.in-Accept.link ns (stmt_list xs) (types_known c.accept-results.result) c.accept-results.new.walk.at c.args.walk.now.first c.accept-results.new.walk.first c.statements.new.walk.first
    c.accept-results.ensures.results (omega (arith, head-size 0 c.in-Accept.op c.in-Accept.link ns)) c.accept-results.ensures.first c.statements.ensures.first)

-- ---- tries

pub statement-statements-requires-in-Try : goal.statement-statements-requires-in-Try
statement-statements-requires-in-Try t c =
    let xs = c.deref-in-Try.result.now in
    let is = try_is c.args.stmt.now c.in-Try.body c.in-Try.handlers xs c.in-Try.handlers.items c.in-Try.is c.deref-in-Try.ensures.value refl in
    (omega (arith, ap (λ (x : StmtTree). length (stmt_marks 0 x)) is, try-size (stmt_list xs) (handler_list c.in-Try.handlers.items), c.decreases), omega (arith, ap (λ (x : StmtTree). length (stmt_marks 0 x)) is, try-size (stmt_list xs) (handler_list c.in-Try.handlers.items)))

pub statement-handlers_of-requires : goal.statement-handlers_of-requires
statement-handlers_of-requires t c =
    let xs = c.deref-in-Try.result.now in
    let hs = c.deref-in-Try-2.result.now in
    let is = try_is c.args.stmt.now c.in-Try.body c.in-Try.handlers xs hs c.in-Try.is c.deref-in-Try.ensures.value c.deref-in-Try-2.ensures.value in
    (omega (arith, ap (λ (x : StmtTree). length (stmt_marks 0 x)) is, try-size (stmt_list xs) (handler_list hs), c.decreases), omega (arith, ap (λ (x : StmtTree). length (stmt_marks 0 x)) is, try-size (stmt_list xs) (handler_list hs)))

pub statement-skip-requires-in-Try-2 : goal.statement-skip-requires-in-Try-2
statement-skip-requires-in-Try-2 t c =
    let xs = c.deref-in-Try.result.now in
    let hs = c.deref-in-Try-2.result.now in
    let is = try_is c.args.stmt.now c.in-Try.body c.in-Try.handlers xs hs c.in-Try.is c.deref-in-Try.ensures.value c.deref-in-Try-2.ensures.value in
    omega (arith, ap (λ (x : StmtTree). length (stmt_marks 0 x)) is, try-size (stmt_list xs) (handler_list hs))

pub statement-returns-in-Try-clause-at : goal.statement-returns-in-Try-clause-at
statement-returns-in-Try-clause-at t c =
    let xs = c.deref-in-Try.result.now in
    let hs = c.deref-in-Try-2.result.now in
    let is = try_is c.args.stmt.now c.in-Try.body c.in-Try.handlers xs hs c.in-Try.is c.deref-in-Try.ensures.value c.deref-in-Try-2.ensures.value in
    omega (arith, ap (λ (x : StmtTree). length (stmt_marks 0 x)) is, try-size (stmt_list xs) (handler_list hs))

pub statement-returns-in-Try-clause-first : goal.statement-returns-in-Try-clause-first
statement-returns-in-Try-clause-first t c =
    let s = scope_of c.args.scope.now in
    let r = request_of c.args.request in
    let xs = c.deref-in-Try.result.now in
    let hs = c.deref-in-Try-2.result.now in
    stmt_first _ _ (try_is c.args.stmt.now c.in-Try.body c.in-Try.handlers xs hs c.in-Try.is c.deref-in-Try.ensures.value c.deref-in-Try-2.ensures.value) s r c.args.walk.now.at _ _
    (c.skip-in-Try-2.ensures.first
    ∙ try_first s r c.args.walk.now.at (stmt_list xs) (handler_list hs) c.skip-in-Try.new.self.at c.statements-in-Try.new.walk.at c.args.walk.now.first c.statements-in-Try.new.walk.first c.handlers_of.new.walk.first (omega arith) (omega arith)
    (c.statements-in-Try.ensures.first ∙ ap (λ o. first_with o (stmts_faults s r c.skip-in-Try.new.self.at (stmt_list xs))) c.skip-in-Try.ensures.first) c.handlers_of.ensures.first)

-- ---- lists

pub statements-statement-requires : goal.statements-statement-requires
statements-statement-requires t c = (
  omega (arith, c.loop-stmt.invariant.at, next_stmt c.loop-stmt.stmt-index c.args.stmts.now c.stmt-item.result c.loop-stmt-test.true c.stmt-item.is, c.decreases),
  omega (arith, c.loop-stmt.invariant.at, next_stmt c.loop-stmt.stmt-index c.args.stmts.now c.stmt-item.result c.loop-stmt-test.true c.stmt-item.is),
)

pub statements-skip-requires : goal.statements-skip-requires
statements-skip-requires t c = omega (arith, c.loop-stmt.invariant.at, next_stmt c.loop-stmt.stmt-index c.args.stmts.now c.stmt-item.result c.loop-stmt-test.true c.stmt-item.is)

pub statements-loop-stmt-preserved : goal.statements-loop-stmt-preserved
statements-loop-stmt-preserved t c =
    let s = scope_of c.args.scope.now in
    let r = request_of c.args.request in
    let i = c.loop-stmt.stmt-index in
    let ss = c.args.stmts.now in
    let x = c.stmt-item.result in
    let o1 = c.skip.new.self.first in
    let here = stmt_faults s r c.loop-stmt.walk.at (stmt_tree x) in
    let left = stmts_faults s r (c.statement.new.walk.at + 1) (stmt_list (drop (i + 1) ss)) in
    record {
      since = omega arith;
      at = omega (arith, c.loop-stmt.invariant.at, next_stmt i ss x c.loop-stmt-test.true c.stmt-item.is);
      first = (λ j. first_with o1 (stmts_faults s r (c.skip.ensures.at j) (stmt_list (drop (i + 1) ss))))
          ∙ left_first c.loop-stmt.walk.first o1 _ _ here left (stmt-split s r i c.loop-stmt.walk.at ss x c.statement.new.walk.at c.loop-stmt-test.true c.stmt-item.is c.statement.ensures.at)
          (c.skip.ensures.first ∙ c.statement.ensures.first) c.loop-stmt.invariant.first;
    }

pub handlers_of-statements-requires : goal.handlers_of-statements-requires
handlers_of-statements-requires t c =
    let next = next_handler c.loop-handler.handler-index c.args.handlers.now c.handler-item.result c.loop-handler-test.true c.handler-item.is in
    let size = ap (λ ys. stmts_size (stmt_list ys)) c.deref.ensures.value in
    (omega (arith, c.loop-handler.invariant.at, next, size, c.decreases), omega (arith, c.loop-handler.invariant.at, next, size))

pub handlers_of-loop-handler-preserved : goal.handlers_of-loop-handler-preserved
handlers_of-loop-handler-preserved t c =
    let s = scope_of c.args.scope.now in
    let r = request_of c.args.request in
    let i = c.loop-handler.handler-index in
    let hs = c.args.handlers.now in
    let h = c.handler-item.result in
    let xs = c.deref.result.now in
    let a = c.loop-handler.walk.at in
    let o = c.loop-handler.walk.first in
    let here = names_exception (a + 1) h.name ++ stmts_faults s r c.skip.new.self.at (stmt_list xs) in
    let left = handlers_faults s r c.statements.new.walk.at (handler_list (drop (i + 1) hs)) in
    let size = ap (λ ys. stmts_size (stmt_list ys)) c.deref.ensures.value in
    record {
      since = omega arith;
      at = omega (arith, c.loop-handler.invariant.at, next_handler i hs h c.loop-handler-test.true c.handler-item.is, size);
      first = left_first o c.statements.new.walk.first _ _ here left (handler-split s r i a hs h xs c.skip.new.self.at c.statements.new.walk.at c.loop-handler-test.true c.handler-item.is c.deref.ensures.value (omega arith) (omega (arith, size)))
          (joined o c.exception_named.new.walk.first c.statements.new.walk.first (names_exception (a + 1) h.name) (stmts_faults s r c.skip.new.self.at (stmt_list xs)) c.exception_named.ensures.first
          (c.statements.ensures.first ∙ ap (λ q. first_with q (stmts_faults s r c.skip.new.self.at (stmt_list xs))) c.skip.ensures.first)) c.loop-handler.invariant.first;
    }
