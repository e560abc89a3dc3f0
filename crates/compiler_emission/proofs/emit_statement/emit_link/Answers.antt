use Rattle.std.proofs.Common.{List, sym, subst}
use Rattle.lynx_tree.specs.declared.expression.Expr.{Expr}
use Rattle.lynx_tree.specs.declared.statement.Stmt.{Stmt}
use Rattle.lynx_tree.specs.Grammar.{IsStmt, AreExprs}
use Rattle.lynx_tree.specs.Trees.{stmt_tree, expr_list}
use Rattle.compiler_emission.proofs.Arms.{no_more_on_links}
use Rattle.compiler_emission.proofs.emit_statement.emit_link.Goals as goal

pub unreachable-requires : goal.unreachable-requires
unreachable-requires c = no_more_on_links c.args.stmt.now c.requires.links c.in_default.not-New c.in_default.not-Destroy c.in_default.not-Bind c.in_default.not-Unbind c.in_default.not-Connect c.in_default.not-Reply

pub emit_reply-requires : goal.emit_reply-requires
emit_reply-requires c = subst (λ (es : List Expr). AreExprs 6 (expr_list es)) (sym c.deref-in-Reply.ensures.value) (subst (λ (s : Stmt). IsStmt (stmt_tree s)) c.in-Reply.is c.requires.grammar)
