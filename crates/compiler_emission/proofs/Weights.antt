-- How many statements and handlers stand in a statement: a call for a part of it has fewer.
use Rattle.std.proofs.Common.{◌≡◌, ℕ, zero, suc, ◌+◌, ◌<◌, List, [], ◌∷◌, length, get_or, ap, arith}
use Rattle.lynx_tree.specs.declared.statement.Stmt as stmt
use Rattle.lynx_tree.specs.declared.statement.Handler.{Handler}
use Rattle.lynx_tree.specs.Trees.{StmtTree, StmtTrees, HandlerTrees, stmt_tree, stmt_list, handler_list}
use Rattle.lynx_tree.specs.Trees as trees

abbrev mutual
  pub stmt_weight : StmtTree → ℕ
  stmt_weight (trees.If condition then_part) = stmts_weight then_part + 1
  stmt_weight (trees.IfElse condition then_part else_part) = stmts_weight then_part + stmts_weight else_part + 1
  stmt_weight (trees.While condition body) = stmts_weight body + 1
  stmt_weight (trees.Accept op link arguments body) = stmts_weight body + 1
  stmt_weight (trees.Try body handlers) = stmts_weight body + handlers_weight handlers + 1
  stmt_weight _ = 0

  pub stmts_weight : StmtTrees → ℕ
  stmts_weight trees.no_stmts = 0
  stmts_weight (trees.more_stmts s ss) = stmt_weight s + stmts_weight ss + 1

  pub handlers_weight : HandlerTrees → ℕ
  handlers_weight trees.no_handlers = 0
  handlers_weight (trees.more_handlers name body others) = stmts_weight body + handlers_weight others + 1

-- one of a list

pub one_stmt : (ss : List stmt.Stmt) (i : ℕ) (s : stmt.Stmt) → i < length ss → s ≡ get_or ss i s → stmt_weight (stmt_tree s) < stmts_weight (stmt_list ss)
one_stmt [] i s lt is = absurd (omega (arith, lt))
one_stmt (x ∷ ss) zero s lt is = omega (arith, ap (λ (y : stmt.Stmt). stmt_weight (stmt_tree y)) is)
one_stmt (x ∷ ss) (suc i) s lt is = omega (arith, one_stmt ss i s (omega (arith, lt)) is)

pub one_handler : (hs : List Handler) (i : ℕ) (h : Handler) → i < length hs → h ≡ get_or hs i h → stmts_weight (stmt_list h.body.items) < handlers_weight (handler_list hs)
one_handler [] i h lt is = absurd (omega (arith, lt))
one_handler (x ∷ hs) zero h lt is = omega (arith, ap (λ (y : Handler). stmts_weight (stmt_list y.body.items)) is)
one_handler (x ∷ hs) (suc i) h lt is = omega (arith, one_handler hs i h (omega (arith, lt)) is)
