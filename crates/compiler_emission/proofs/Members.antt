-- Each value has an instruction, and what holds of a list holds of each item.
use Rattle.std.proofs.Common.{◌≡◌, ℕ, zero, suc, ◌+◌, ◌<◌, ◌≤◌, List, [], ◌∷◌, ◌++◌, length, get_or, map, sym, subst, arith, length-append}
use Rattle.std.specs.List.{AllByRecursion}
use Rattle.lynx_tree.specs.declared.expression.Expr.{Expr}
use Rattle.lynx_tree.specs.declared.statement.Stmt.{Stmt}
use Rattle.lynx_tree.specs.declared.statement.Handler.{Handler}
use Rattle.lynx_tree.specs.Grammar.{IsExpr, IsStmt, AreExprs, AreStmts, AreHandlers}
use Rattle.lynx_tree.specs.Trees.{ExprTree, expr_tree, expr_list, stmt_tree, stmt_list, handler_list}
use Rattle.lynx_tree.specs.Trees as trees
use Rattle.lynx_code.specs.Generation.{Names, expr_code, chain_rest, exprs_code, sum_code, term_code, load_member, relation}
use Rattle.lynx_code.specs.declared.instruction.Instruction.{Instruction}
use Rattle.lynx_code.specs.declared.instruction.Instruction.TheVariants as code
use Rattle.compiler_emission.proofs.Counts.{has}

no_less : (xs ys : List Instruction) → 0 < length xs → 0 < length (xs ++ ys)
no_less xs ys h = omega (arith, length-append xs ys)

has_value : (names : Names) (at : ℕ) (e : ExprTree) → IsExpr e → 0 < length (expr_code names at e)
has_value names at (trees.Or trees.no_exprs) is = absurd is.0
has_value names at (trees.Or (trees.more_exprs e es)) is = no_less (expr_code names at e) (chain_rest names code.OrJ (at + length (expr_code names at e)) es) (has_value names at e is.1.1)
has_value names at (trees.And trees.no_exprs) is = absurd is.0
has_value names at (trees.And (trees.more_exprs e es)) is = no_less (expr_code names at e) (chain_rest names code.AndJ (at + length (expr_code names at e)) es) (has_value names at e is.1.1)
has_value names at (trees.Relation first sign second) is =
    let x = expr_code names at first in
    has (x ++ expr_code names (at + length x) second) [] (relation sign)
has_value names at (trees.Sum first rest) is = no_less (expr_code names at first) (sum_code names (at + length (expr_code names at first)) rest) (has_value names at first is.1)
has_value names at (trees.Term first rest) is = no_less (expr_code names at first) (term_code names (at + length (expr_code names at first)) rest) (has_value names at first is.1)
has_value names at (trees.Minus inner) is = has (expr_code names at inner) [] code.Neg
has_value names at (trees.Not inner) is = has (expr_code names at inner) [] code.Not
has_value names at (trees.Number n) is = omega arith
has_value names at (trees.Text inside) is = omega arith
has_value names at trees.True is = omega arith
has_value names at trees.False is = omega arith
has_value names at (trees.Name name) is = omega arith
has_value names at (trees.Member name index) is = has (expr_code names at index) [] (load_member names name)
has_value names at (trees.Bracket inner) is = has_value names at inner is

pub values_have : (names : Names) (at : ℕ) (es : List Expr) → AreExprs 6 (expr_list es) → length es ≤ length (exprs_code names at (expr_list es))
values_have names at [] are = omega arith
values_have names at (e ∷ es) are =
    let x = expr_code names at (expr_tree e) in
    omega (arith, has_value names at (expr_tree e) are.1, length-append x (exprs_code names (at + length x) (expr_list es)), values_have names (at + length x) es are.2)

-- ---- one of a list

pub all_at : {X Y : Type 0} (P : Y → Type 0) (f : X → Y) (xs : List X) (i : ℕ) (x : X) → i < length xs → x ≡ get_or xs i x → AllByRecursion P (map f xs) → P (f x)
all_at P f [] i x lt is all = absurd (omega (arith, lt))
all_at P f (y ∷ xs) zero x lt is all = subst (λ z. P (f z)) (sym is) all.0
all_at P f (y ∷ xs) (suc i) x lt is all = all_at P f xs i x (omega (arith, lt)) is all.1

pub stmt_at : (ss : List Stmt) (i : ℕ) (s : Stmt) → i < length ss → s ≡ get_or ss i s → AreStmts (stmt_list ss) → IsStmt (stmt_tree s)
stmt_at [] i s lt is all = absurd (omega (arith, lt))
stmt_at (x ∷ ss) zero s lt is all = subst (λ (y : Stmt). IsStmt (stmt_tree y)) (sym is) all.0
stmt_at (x ∷ ss) (suc i) s lt is all = stmt_at ss i s (omega (arith, lt)) is all.1

pub handler_at : (hs : List Handler) (i : ℕ) (h : Handler) → i < length hs → h ≡ get_or hs i h → AreHandlers (handler_list hs) → AreStmts (stmt_list h.body.items)
handler_at [] i h lt is all = absurd (omega (arith, lt))
handler_at (x ∷ hs) zero h lt is all = subst (λ (y : Handler). AreStmts (stmt_list y.body.items)) (sym is) all.0
handler_at (x ∷ hs) (suc i) h lt is all = handler_at hs i h (omega (arith, lt)) is all.1
