-- How many tokens statements and lists in brackets have: their nesting does not matter.
use Rattle.std.proofs.Common.{◌≡◌, ℕ, suc, ◌+◌, ◌*◌, ◌<◌, List, [], ◌∷◌, ◌++◌, length, map, refl, sym, ap, ◌∙◌, arith, length-append}
use Rattle.std.specs.List.{flat_map}
use Rattle.lynx_lexer.specs.declared.keyword.Keyword.TheVariants as keywords
use Rattle.lynx_lexer.specs.declared.sign.Sign.TheVariants as signs
use Rattle.lynx_tree.specs.declared.expression.Expr as expr
use Rattle.lynx_tree.specs.Trees.{ExprTree, ExprTrees, StmtTree, StmtTrees, HandlerTrees, expr_list}
use Rattle.lynx_tree.specs.Trees as trees
use Rattle.lynx_tree.specs.Grammar.{Mark, mark, word, name, expr_marks, behind_marks, exprs_marks, names_marks, accept_marks, stmt_marks, stmts_marks, handlers_marks}
use Rattle.typing_rules.proofs.Members.{bools_left}
use Rattle.typing_rules.proofs.Sizes.{expr-size, chain-size, behind-size}

-- ---- names in brackets

more_names : (d : ℕ) (ns : List (List ℕ)) → length (flat_map (λ next. mark d signs.Comma ∷ next) (map (λ n. name d n ∷ []) ns)) ≡ 2 * length ns
more_names d [] = refl
more_names d (n ∷ ns) = omega (arith, length-append {A = Mark}, more_names d ns)

names-count : (d : ℕ) (n : List ℕ) (ns : List (List ℕ)) → length (names_marks d (n ∷ ns)) ≡ 3 + 2 * length ns
names-count d n ns =
    omega (arith, length-append (flat_map (λ next. mark (suc d) signs.Comma ∷ next) (map (λ m. name (suc d) m ∷ []) ns)) (mark (suc d) signs.Close ∷ []), more_names (suc d) ns)

pub names-size : (d : ℕ) (ns : List (List ℕ)) → length (names_marks d ns) ≡ length (names_marks 0 ns)
names-size d [] = refl
names-size d (n ∷ ns) = names-count d n ns ∙ sym (names-count 0 n ns)

-- where there is a name, each takes a sign behind it
pub some_names : (ns : List (List ℕ)) → 0 < length ns → length (names_marks 0 ns) ≡ 1 + 2 * length ns
some_names [] h = absurd (omega (arith, h))
some_names (n ∷ ns) h = names-count 0 n ns ∙ omega arith

-- ---- values in brackets

pub exprs-size : (d : ℕ) (es : ExprTrees) → length (exprs_marks d es) ≡ length (exprs_marks 0 es)
exprs-size d es = omega (arith, length-append {A = Mark}, chain-size (suc d) (mark (suc d) signs.Comma) (mark 0 signs.Comma) es, chain-size 1 (mark 1 signs.Comma) (mark 0 signs.Comma) es)

exprs-more : (e : ExprTree) (es : ExprTrees) → length (exprs_marks 0 (trees.more_exprs e es)) ≡ 2 + (length (expr_marks 1 e) + length (behind_marks 1 (mark 1 signs.Comma) es))
exprs-more e es =
    ap suc (length-append (expr_marks 1 e ++ behind_marks 1 (mark 1 signs.Comma) es) (mark 1 signs.Close ∷ []) ∙ ap (λ n. n + 1) (length-append (expr_marks 1 e) (behind_marks 1 (mark 1 signs.Comma) es))) ∙ omega arith

behind-more : (e : ExprTree) (es : ExprTrees) → length (behind_marks 0 (word 0 keywords.Or) (trees.more_exprs e es)) ≡ 1 + (length (expr_marks 0 e) + length (behind_marks 0 (word 0 keywords.Or) es))
behind-more e es = ap suc (length-append (expr_marks 0 e) (behind_marks 0 (word 0 keywords.Or) es)) ∙ omega arith

pub some_exprs : (es : List expr.Expr) → 0 < length es → length (exprs_marks 0 (expr_list es)) ≡ 1 + bools_left es
some_exprs [] h = absurd (omega (arith, h))
some_exprs (e ∷ es) h =
    let t = trees.expr_tree e in
    let ts = expr_list es in
    let same : 2 + (length (expr_marks 1 t) + length (behind_marks 1 (mark 1 signs.Comma) ts)) ≡ 1 + (1 + (length (expr_marks 0 t) + length (behind_marks 0 (word 0 keywords.Or) ts))) =
    omega (arith, expr-size 1 t, behind-size 1 (mark 1 signs.Comma) (word 0 keywords.Or) ts) in
    exprs-more t ts ∙ same ∙ ap (λ n. 1 + n) (sym (behind-more t ts))

-- ---- statements

pub connect-size : (d : ℕ) (op link : List ℕ) (values : ExprTrees) (results : List (List ℕ)) → length (stmt_marks d (trees.Connect op link values results)) ≡ 5 + length (exprs_marks d values) + length (names_marks d results)
connect-size d op link values results = omega (arith, length-append (exprs_marks d values) (mark d signs.Colon ∷ names_marks d results))

pub accept-size : (d : ℕ) (op link : List ℕ) (names : List (List ℕ)) (body : StmtTrees) → length (stmt_marks d (trees.Accept op link names body)) ≡ 6 + length (names_marks d names) + length (stmts_marks d body)
accept-size d op link names body =
    omega (arith, length-append (names_marks d names) (word d keywords.Do ∷ (stmts_marks d body ++ word d keywords.End ∷ [])), length-append (stmts_marks d body) (word d keywords.End ∷ []))

pub head-size : (d : ℕ) (op link : List ℕ) (names : List (List ℕ)) → length (accept_marks d op link names) ≡ 5 + length (names_marks d names)
head-size d op link names = omega (arith, length-append (names_marks d names) (word d keywords.Do ∷ []))

mutual
  pub stmt-size : (d : ℕ) (s : StmtTree) → length (stmt_marks d s) ≡ length (stmt_marks 0 s)
  stmt-size d (trees.Assign n value) = omega (arith, expr-size d value)
  stmt-size d (trees.AssignMember n index value) = omega (arith, length-append {A = Mark}, expr-size (suc d) index, expr-size 1 index, expr-size d value)
  stmt-size d (trees.If condition then) = omega (arith, length-append {A = Mark}, expr-size d condition, stmts-size d then)
  stmt-size d (trees.IfElse condition then otherwise) = omega (arith, length-append {A = Mark}, expr-size d condition, stmts-size d then, stmts-size d otherwise)
  stmt-size d (trees.While condition body) = omega (arith, length-append {A = Mark}, expr-size d condition, stmts-size d body)
  stmt-size d (trees.Write value) = omega (arith, expr-size d value)
  stmt-size d (trees.Await condition) = omega (arith, expr-size d condition)
  stmt-size d trees.Stop = refl
  stmt-size d (trees.Raise n) = refl
  stmt-size d (trees.New first second) = refl
  stmt-size d (trees.Destroy n) = refl
  stmt-size d (trees.Bind link entry) = refl
  stmt-size d (trees.Unbind link entry) = refl
  stmt-size d (trees.Connect op link values results) = connect-size d op link values results ∙ (λ i. 5 + exprs-size d values i + names-size d results i) ∙ sym (connect-size 0 op link values results)
  stmt-size d (trees.Accept op link names body) = accept-size d op link names body ∙ (λ i. 6 + names-size d names i + stmts-size d body i) ∙ sym (accept-size 0 op link names body)
  stmt-size d (trees.Reply values) = omega (arith, exprs-size d values)
  stmt-size d (trees.Try body handlers) = omega (arith, length-append {A = Mark}, stmts-size d body, handlers-size d handlers)

  pub stmts-size : (d : ℕ) (ss : StmtTrees) → length (stmts_marks d ss) ≡ length (stmts_marks 0 ss)
  stmts-size d trees.no_stmts = refl
  stmts-size d (trees.more_stmts s rest) = omega (arith, length-append {A = Mark}, stmt-size (suc d) s, stmt-size 1 s, stmts-size d rest)

  pub handlers-size : (d : ℕ) (hs : HandlerTrees) → length (handlers_marks d hs) ≡ length (handlers_marks 0 hs)
  handlers-size d trees.no_handlers = refl
  handlers-size d (trees.more_handlers n body rest) = omega (arith, length-append {A = Mark}, stmts-size d body, handlers-size d rest)
