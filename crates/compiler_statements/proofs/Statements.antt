-- The code of a statement does what the statement means.
use Rattle.std.proofs.Common.{◌≡◌, ℕ, suc, ◌+◌, List, [], ◌∷◌, ◌++◌, length, Option, Some, slice_get, refl, sym, subst, le_refl, length-append, arith}
use Rattle.lynx_tree.specs.Trees.{ExprTree, HandlerTrees, StmtTree, StmtTrees}
use Rattle.lynx_tree.specs.Trees as trees
use Rattle.lynx_tree.specs.Grammar.{AreHandlers, AreStmts, IsStmt, names_marks, stmt_marks}
use Rattle.typing_rules.specs.Exceptions.{exception_of}
use Rattle.typing_rules.specs.Expressions.{expr_faults, expr_size, shown_type, value_faults}
use Rattle.typing_rules.specs.Names.{arguments_of, known, results_of}
use Rattle.typing_rules.specs.Rules.{Asks, Request, accept_has_names, accept_name_fits, condition_is_bool, is_an_entry, is_op, names_exception}
use Rattle.typing_rules.specs.Statements.{handlers_faults, link_faults, names_faults, stmt_faults, stmts_faults, stmts_size}
use Rattle.typing_rules.specs.declared.exception.Exception.{Exception}
use Rattle.lynx_code.specs.Generation.{exception_named, expr_code, handlers_code, load, stmt_code, stmts_code, stores}
use Rattle.lynx_code.specs.declared.instruction.Instruction.{Instruction}
use Rattle.lynx_code.specs.declared.instruction.Instruction.TheVariants as code
use Rattle.lynx_meaning.specs.Agree.{Fit}
use Rattle.lynx_meaning.specs.Code.{Goes, Opened}
use Rattle.lynx_meaning.specs.Courses.{Bind, Destroy, Moment, Unbind, and_then}
use Rattle.lynx_meaning.specs.Courses as course
use Rattle.lynx_meaning.specs.Expressions.{value_of}
use Rattle.lynx_meaning.specs.Source.{closes, handles, runs, runs_all}
use Rattle.compiler_steps.specs.Steps.{AreNested, Reaches, StandAt, thread}
use Rattle.compiler_steps.proofs.Reaching.{reaches-none, reaches-step}
use Rattle.compiler_steps.proofs.Standing.{back-stands, front-stands, next-stands, rest-stands}
use Rattle.compiler_expressions.proofs.Clean.{both-clean, demand-met, judged-clean}
use Rattle.compiler_expressions.proofs.Expressions.{expr-gives}
use Rattle.compiler_statements.specs.Running.{Body, IsSound, Runs, trace}
use Rattle.compiler_statements.proofs.Branches.{around, runs-await, runs-condition, runs-loop}
use Rattle.compiler_statements.proofs.Extending.{catches-front, closes-front, handlers-extend, stmts-extend, then-front}
use Rattle.compiler_statements.proofs.Following.{runs-fewer, runs-from, runs-then, runs-to}
use Rattle.compiler_statements.proofs.Fronts.{fit-front, front-on}
use Rattle.compiler_statements.proofs.Handlers.{handlers-length, named-text, runs-again, runs-case, runs-caught, runs-jump}
use Rattle.compiler_statements.proofs.Requests.{accept-runs, connect-runs, nested-more, reply-runs}
use Rattle.compiler_statements.proofs.Simple.{assign-runs, member-runs, new-runs, on-link-runs, raise-runs, ready, stop-runs, write-runs}

-- the length of code of two parts with an instruction between
two-parts : (at : ℕ) (x : List Instruction) (i : Instruction) (y : List Instruction) → at + length x + 1 + length y ≡ at + length (x ++ i ∷ y)
two-parts at x i y = omega (arith, length-append x (i ∷ y))

module _ (b : Body) (n : ℕ) where
  -- a statement's code, from any moment that is sound
  abbrev pub StmtRuns : StmtTree → Type 0
  StmtRuns s =
      (tries : List Opened) (requests : List ℕ) → AreNested (length requests) tries → (request : Request) (at place : ℕ) (pending : Option Exception) (m : Moment) → IsStmt s → StandAt b.setting.program.instructions at (stmt_code b.setting.names at s)
      → stmt_faults b.setting.scope request place s ≡ [] → IsSound b m
      → Fit b.tree (trace (runs b.setting.names n s m)) b.answers → Runs b tries requests n (thread at [] tries requests pending m) (at + length (stmt_code b.setting.names at s)) (runs b.setting.names n s m)

  abbrev pub StmtsRun : StmtTrees → Type 0
  StmtsRun ss =
      (tries : List Opened) (requests : List ℕ) → AreNested (length requests) tries → (request : Request) (at place : ℕ) (pending : Option Exception) (m : Moment) → AreStmts ss → StandAt b.setting.program.instructions at (stmts_code b.setting.names at ss)
      → stmts_faults b.setting.scope request place ss ≡ [] → IsSound b m
      → Fit b.tree (trace (runs_all b.setting.names n ss m)) b.answers → Runs b tries requests n (thread at [] tries requests pending m) (at + length (stmts_code b.setting.names at ss)) (runs_all b.setting.names n ss m)

  abbrev pub HandlersRun : HandlerTrees → Type 0
  HandlersRun hs = (tries : List Opened) (requests : List ℕ) → AreNested (length requests) tries → (request : Request) (behind at place : ℕ) (raised : Exception) (m : Moment) → AreHandlers hs → StandAt b.setting.program.instructions at (handlers_code b.setting.names behind at hs)
      → slice_get b.setting.program.instructions (at + length (handlers_code b.setting.names behind at hs)) ≡ Some code.Again → handlers_faults b.setting.scope request place hs ≡ [] → IsSound b m
      → Fit b.tree (trace (handles b.setting.names n raised hs m)) b.answers → Runs b tries requests n (thread at [] tries requests (Some raised) m) behind (handles b.setting.names n raised hs m)

  if-runs : (condition : ExprTree) (then_part : StmtTrees) → StmtsRun then_part → StmtRuns (trees.If condition then_part)
  if-runs condition then_part run tries requests nested request at place pending m is has clean sound fit =
      let c = b.setting in
      let x = expr_code c.names at condition in
      let y = stmts_code c.names (at + length x + 1) then_part in
      let t = thread at [] tries requests pending m in
      let end = at + length x + 1 + length y in
      let parts = both-clean (value_faults condition_is_bool c.scope (place + 1) condition) (stmts_faults c.scope request (place + expr_size condition + 2) then_part) clean in
      let met = judged-clean condition_is_bool (place + 1) (expr_faults c.scope (place + 1) condition) (shown_type c.scope condition) parts.0 in
      let jump = code.JumpF end in
      runs-to b tries requests n t end (at + length (x ++ jump ∷ y)) (runs c.names n (trees.If condition then_part) m) (two-parts at x jump y)
      (runs-fewer b tries requests n (suc n) t end (runs c.names n (trees.If condition then_part) m) (omega arith)
      (runs-condition b tries requests n t (at + length x) end end pending m (shown_type c.scope condition) (value_of c.names m.store condition) (runs_all c.names n then_part m) (course.Proceeds m) sound
      (expr-gives c (around tries requests pending m) (ready b tries requests n nested pending m sound) condition at (place + 1) [] is.0 (front-stands c.program.instructions at x (jump ∷ y) has) met.0)
      (demand-met _ _ _ met.1) (next-stands c.program.instructions at x jump y has)
      (λ fit_yes. run tries requests nested request (at + length x + 1) (place + expr_size condition + 2) pending m is.1 (rest-stands c.program.instructions at x jump y has) parts.1 sound fit_yes)
      (λ fit_no. (sound, pending, reaches-none c.program (thread end [] tries requests pending m)))
      fit))

  if-else-runs : (condition : ExprTree) (then_part else_part : StmtTrees) → StmtsRun then_part → StmtsRun else_part → StmtRuns (trees.IfElse condition then_part else_part)
  if-else-runs condition then_part else_part run run_else tries requests nested request at place pending m is has clean sound fit =
      let c = b.setting in
      let x = expr_code c.names at condition in
      let y = stmts_code c.names (at + length x + 1) then_part in
      let behind = at + length x + 1 + length y + 1 in
      let z = stmts_code c.names behind else_part in
      let t = thread at [] tries requests pending m in
      let end = behind + length z in
      let jump = code.JumpF behind in
      let over = code.Jump end in
      let f1 = value_faults condition_is_bool c.scope (place + 1) condition in
      let f2 = stmts_faults c.scope request (place + expr_size condition + 2) then_part in
      let f3 = stmts_faults c.scope request (place + expr_size condition + stmts_size then_part + 3) else_part in
      let p2 = both-clean (f1 ++ f2) f3 clean in
      let p1 = both-clean f1 f2 p2.0 in
      let met = judged-clean condition_is_bool (place + 1) (expr_faults c.scope (place + 1) condition) (shown_type c.scope condition) p1.0 in
      let front = front-stands c.program.instructions at (x ++ jump ∷ y) (over ∷ z) has in
      let join : at + length (x ++ jump ∷ y) ≡ at + length x + 1 + length y = sym (two-parts at x jump y) in
      let at_over = subst (λ (k : ℕ). slice_get c.program.instructions k ≡ Some over) join (next-stands c.program.instructions at (x ++ jump ∷ y) over z has) in
      let at_else = subst (λ (k : ℕ). StandAt c.program.instructions (k + 1) z) join (rest-stands c.program.instructions at (x ++ jump ∷ y) over z has) in
      let long : end ≡ at + length ((x ++ jump ∷ y) ++ over ∷ z) = omega (arith, length-append (x ++ jump ∷ y) (over ∷ z), length-append x (jump ∷ y)) in
      runs-to b tries requests n t end (at + length ((x ++ jump ∷ y) ++ over ∷ z)) (runs c.names n (trees.IfElse condition then_part else_part) m) long
      (runs-fewer b tries requests n (suc n) t end (runs c.names n (trees.IfElse condition then_part else_part) m) (omega arith)
      (runs-condition b tries requests n t (at + length x) behind end pending m (shown_type c.scope condition) (value_of c.names m.store condition) (runs_all c.names n then_part m) (runs_all c.names n else_part m) sound
      (expr-gives c (around tries requests pending m) (ready b tries requests n nested pending m sound) condition at (place + 1) [] is.0 (front-stands c.program.instructions at x (jump ∷ y) front) met.0)
      (demand-met _ _ _ met.1) (next-stands c.program.instructions at x jump y front)
      (λ fit_yes. runs-jump b tries requests n (thread (at + length x + 1) [] tries requests pending m) (at + length x + 1 + length y) end (runs_all c.names n then_part m) at_over
      (run tries requests nested request (at + length x + 1) (place + expr_size condition + 2) pending m is.1 (rest-stands c.program.instructions at x jump y front) p1.1 sound fit_yes))
      (λ fit_no. run_else tries requests nested request behind (place + expr_size condition + stmts_size then_part + 3) pending m is.2 at_else p2.1 sound fit_no)
      fit))

  while-runs : (condition : ExprTree) (body : StmtTrees) → StmtsRun body → StmtRuns (trees.While condition body)
  while-runs condition body run tries requests nested request at place pending m is has clean sound fit =
      let c = b.setting in
      let x = expr_code c.names at condition in
      let y = stmts_code c.names (at + length x + 1) body in
      let behind = at + length x + 1 + length y in
      let jump = code.JumpF (behind + 1) in
      let back = code.Jump at in
      let t = thread at [] tries requests pending m in
      let parts = both-clean (value_faults condition_is_bool c.scope (place + 1) condition) (stmts_faults c.scope request (place + expr_size condition + 2) body) clean in
      let met = judged-clean condition_is_bool (place + 1) (expr_faults c.scope (place + 1) condition) (shown_type c.scope condition) parts.0 in
      let front = front-stands c.program.instructions at (x ++ jump ∷ y) (back ∷ []) has in
      let at_back = subst (λ (k : ℕ). slice_get c.program.instructions k ≡ Some back) (sym (two-parts at x jump y)) (next-stands c.program.instructions at (x ++ jump ∷ y) back [] has) in
      let long : behind + 1 ≡ at + length ((x ++ jump ∷ y) ++ back ∷ []) = omega (arith, length-append (x ++ jump ∷ y) (back ∷ []), length-append x (jump ∷ y)) in
      runs-to b tries requests n t (behind + 1) (at + length ((x ++ jump ∷ y) ++ back ∷ [])) (runs c.names n (trees.While condition body) m) long
      (runs-loop b tries requests n at (at + length x) behind (shown_type c.scope condition) (λ now. value_of c.names now.store condition) (runs_all c.names n body) (demand-met _ _ _ met.1)
      (next-stands c.program.instructions at x jump y front) at_back
      (λ later now sound_now. expr-gives c (around tries requests later now) (ready b tries requests n nested later now sound_now) condition at (place + 1) [] is.0 (front-stands c.program.instructions at x (jump ∷ y) front) met.0)
      (λ now. stmts-extend c.names n body now)
      (λ later now sound_now fit_now. run tries requests nested request (at + length x + 1) (place + expr_size condition + 2) later now is.1 (rest-stands c.program.instructions at x jump y front) parts.1 sound_now fit_now)
      n (le_refl n) pending m sound fit)

  await-runs : (condition : ExprTree) → StmtRuns (trees.Await condition)
  await-runs condition tries requests nested request at place pending m is has clean sound fit =
      let c = b.setting in
      let x = expr_code c.names at condition in
      let i = code.Await at in
      let t = thread at [] tries requests pending m in
      let met = judged-clean condition_is_bool (place + 1) (expr_faults c.scope (place + 1) condition) (shown_type c.scope condition) clean in
      let long : at + length x + 1 ≡ at + length (x ++ i ∷ []) = omega (arith, length-append x (i ∷ [])) in
      runs-to b tries requests n t (at + length x + 1) (at + length (x ++ i ∷ [])) (runs c.names n (trees.Await condition) m) long
      (runs-await b tries requests nested n at (at + length x) (shown_type c.scope condition) (λ now. value_of c.names now.store condition) (demand-met _ _ _ met.1) (next-stands c.program.instructions at x i [] has)
      (λ later now sound_now. expr-gives c (around tries requests later now) (ready b tries requests n nested later now sound_now) condition at (place + 1) [] is (front-stands c.program.instructions at x (i ∷ []) has) met.0)
      m.answers pending m refl sound fit)

  taken-runs : (op link : List ℕ) (arguments : List (List ℕ)) (body : StmtTrees) → StmtsRun body → StmtRuns (trees.Accept op link arguments body)
  taken-runs op link arguments body run tries requests nested request at place pending m is has clean sound fit =
      let c = b.setting in
      let s = stores c.names arguments in
      let head = load c.names link ∷ code.Accept (c.names.op op) ∷ s in
      let inner = at + 2 + length s in
      let y = stmts_code c.names inner body in
      let behind = inner + length y in
      let t = thread at [] tries requests pending m in
      let f1 = is_op (place + 1) (c.scope op) in
      let f2 = accept_has_names (place + 1) (length arguments) (arguments_of (c.scope op)) in
      let f3 = link_faults c.scope (place + 3) link in
      let f4 = names_faults accept_name_fits c.scope (place + 5) arguments (known (arguments_of (c.scope op))) in
      let asked = Asks (results_of (c.scope op)) in
      let inner_place = place + length (names_marks 0 arguments) + 5 in
      let f5 = stmts_faults c.scope asked inner_place body in
      let p4 = both-clean (f1 ++ f2 ++ f3 ++ f4) f5 clean in
      let p3 = both-clean (f1 ++ f2 ++ f3) f4 p4.0 in
      let p2 = both-clean (f1 ++ f2) f3 p3.0 in
      let p1 = both-clean f1 f2 p2.0 in
      let front = front-stands c.program.instructions at (head ++ y) (code.Close ∷ []) has in
      let head_long : at + length head ≡ inner = omega arith in
      let at_body = subst (λ (k : ℕ). StandAt c.program.instructions k y) head_long (back-stands c.program.instructions at head y front) in
      let join : at + length (head ++ y) ≡ behind = omega (arith, length-append head y) in
      let at_close = subst (λ (k : ℕ). slice_get c.program.instructions k ≡ Some code.Close) join (next-stands c.program.instructions at (head ++ y) code.Close [] has) in
      let long : behind + 1 ≡ at + length ((head ++ y) ++ code.Close ∷ []) = omega (arith, length-append (head ++ y) (code.Close ∷ []), length-append head y) in
      runs-to b tries requests n t (behind + 1) (at + length ((head ++ y) ++ code.Close ∷ [])) (runs c.names n (trees.Accept op link arguments body) m) long
      (accept-runs b tries requests n nested op link arguments (runs_all c.names n body) at behind place pending m (front-stands c.program.instructions at head y front) at_close p1.0 p1.1 p2.1 p3.1 sound
      (λ now. front-on now.actions (trace (runs_all c.names n body now)) (trace (closes (runs_all c.names n body now))) (stmts-extend c.names n body now) (closes-front (runs_all c.names n body now)))
      (λ now sound_now fit_now.
      run tries (c.names.op op ∷ requests) (nested-more (length requests) tries nested) asked inner inner_place pending now is at_body p4.1 sound_now
      (fit-front b.tree (trace (runs_all c.names n body now)) (trace (closes (runs_all c.names n body now))) b.answers (closes-front (runs_all c.names n body now)) fit_now))
      fit)

  try-runs : (body : StmtTrees) (handlers : HandlerTrees) → StmtsRun body → HandlersRun handlers → StmtRuns (trees.Try body handlers)
  try-runs body handlers run run_handlers tries requests nested request at place pending m is has clean sound fit =
      let c = b.setting in
      let y = stmts_code c.names (at + 1) body in
      let first = at + 1 + length y + 2 in
      let behind = first + length (handlers_code c.names 0 first handlers) + 1 in
      let hs = handlers_code c.names behind first handlers in
      let head = code.Try first ∷ y in
      let rest = code.Untry ∷ code.Jump behind ∷ hs in
      let o : Opened = record { handlers = first; height = 0; depth = length requests } in
      let t = thread at [] tries requests pending m in
      let u = thread (at + 1) [] (o ∷ tries) requests pending m in
      let parts = both-clean (stmts_faults c.scope request (place + 1) body) (handlers_faults c.scope request (place + stmts_size body + 1) handlers) clean in
      let front = front-stands c.program.instructions at (head ++ rest) (code.Again ∷ []) has in
      let middle = at + 1 + length y in
      let head_long : at + length head ≡ middle = omega arith in
      let tail = subst (λ (k : ℕ). StandAt c.program.instructions k rest) head_long (back-stands c.program.instructions at head rest front) in
      let same = handlers-length c.names handlers 0 behind first in
      let two : middle + 1 + 1 ≡ first = omega arith in
      let join : at + length (head ++ rest) ≡ first + length hs = omega (arith, length-append head rest) in
      let at_again = subst (λ (k : ℕ). slice_get c.program.instructions k ≡ Some code.Again) join (next-stands c.program.instructions at (head ++ rest) code.Again [] has) in
      let at_handlers = subst (λ (k : ℕ). StandAt c.program.instructions k hs) two tail.1.1 in
      let long : behind ≡ at + length ((head ++ rest) ++ code.Again ∷ []) = omega (arith, same, length-append (head ++ rest) (code.Again ∷ []), length-append head rest) in
      let after_body = catches-front (runs_all c.names n body m) (λ raised now. handles c.names n raised handlers now) (λ raised now. handlers-extend c.names n handlers raised now) in
      runs-to b tries requests n t behind (at + length ((head ++ rest) ++ code.Again ∷ [])) (runs c.names n (trees.Try body handlers) m) long
      (runs-from b tries requests n t u behind (runs c.names n (trees.Try body handlers) m) (reaches-step c.program t (code.Try first) _ has.0 refl)
      (runs-caught b tries requests n u middle first behind (runs_all c.names n body m) (λ raised now. handles c.names n raised handlers now) tail.0 tail.1.0
      (run (o ∷ tries) requests (refl, le_refl (length requests), nested) request (at + 1) (place + 1) pending m is.0 (front-stands c.program.instructions (at + 1) y rest front.1) parts.0 sound
      (fit-front b.tree (trace (runs_all c.names n body m)) (trace (runs c.names n (trees.Try body handlers) m)) b.answers after_body fit))
      (λ raised now sound_now fit_now. run_handlers tries requests nested request behind first (place + stmts_size body + 1) raised now is.1 at_handlers at_again parts.1 sound_now fit_now)
      fit))

  handler-runs : (name : List ℕ) (body : StmtTrees) (others : HandlerTrees) → StmtsRun body → HandlersRun others → HandlersRun (trees.more_handlers name body others)
  handler-runs name body others run run_others tries requests nested request behind at place raised m is has again clean sound fit =
      let c = b.setting in
      let y = stmts_code c.names (at + 1) body in
      let next = at + 1 + length y + 1 in
      let x = exception_named (exception_of name) in
      let hs = handlers_code c.names behind next others in
      let head = code.Case x next ∷ y in
      let f1 = names_exception (place + 1) name in
      let f2 = stmts_faults c.scope request (place + 3) body in
      let f3 = handlers_faults c.scope request (place + stmts_size body + 3) others in
      let p2 = both-clean (f1 ++ f2) f3 clean in
      let p1 = both-clean f1 f2 p2.0 in
      let middle = at + 1 + length y in
      let head_long : at + length head ≡ middle = omega arith in
      let at_jump = subst (λ (k : ℕ). slice_get c.program.instructions k ≡ Some (code.Jump behind)) head_long (next-stands c.program.instructions at head (code.Jump behind) hs has) in
      let at_others = subst (λ (k : ℕ). StandAt c.program.instructions (k + 1) hs) head_long (rest-stands c.program.instructions at head (code.Jump behind) hs has) in
      let join : at + length (head ++ code.Jump behind ∷ hs) ≡ next + length hs = omega (arith, length-append head (code.Jump behind ∷ hs)) in
      let at_again = subst (λ (k : ℕ). slice_get c.program.instructions k ≡ Some code.Again) join again in
      runs-case b tries requests n at next behind name x raised m (runs_all c.names n body m) (handles c.names n raised others m) has.0 (named-text name (demand-met _ _ _ p1.0))
      (λ fit_yes. runs-jump b tries requests n (thread (at + 1) [] tries requests (Some raised) m) middle behind (runs_all c.names n body m) at_jump
      (run tries requests nested request (at + 1) (place + 3) (Some raised) m is.0 (front-stands c.program.instructions (at + 1) y (code.Jump behind ∷ hs) has.1) p1.1 sound fit_yes))
      (λ fit_no. run_others tries requests nested request behind next (place + stmts_size body + 3) raised m is.1 at_others at_again p2.1 sound fit_no)
      fit

  one-after-the-other : (s : StmtTree) (ss : StmtTrees) → StmtRuns s → StmtsRun ss → StmtsRun (trees.more_stmts s ss)
  one-after-the-other s ss run rest tries requests nested request at place pending m is has clean sound fit =
      let c = b.setting in
      let x = stmt_code c.names at s in
      let y = stmts_code c.names (at + length x) ss in
      let t = thread at [] tries requests pending m in
      let end = at + length x + length y in
      let parts = both-clean (stmt_faults c.scope request place s) (stmts_faults c.scope request (place + length (stmt_marks 0 s) + 1) ss) clean in
      let long : end ≡ at + length (x ++ y) = omega (arith, length-append x y) in
      let whole = and_then (runs c.names n s m) (runs_all c.names n ss) in
      runs-to b tries requests n t end (at + length (x ++ y)) whole long
      (runs-then b tries requests n t (at + length x) end (runs c.names n s m) (runs_all c.names n ss)
      (run tries requests nested request at place pending m is.0 (front-stands c.program.instructions at x y has) parts.0 sound
      (fit-front b.tree (trace (runs c.names n s m)) (trace whole) b.answers (then-front (runs c.names n s m) (runs_all c.names n ss) (λ now. stmts-extend c.names n ss now)) fit))
      (λ later now sound_now fit_now. rest tries requests nested request (at + length x) (place + length (stmt_marks 0 s) + 1) later now is.1 (back-stands c.program.instructions at x y has) parts.1 sound_now fit_now)
      fit)

  mutual
    pub stmt-runs : (s : StmtTree) → StmtRuns s
    stmt-runs (trees.Assign name value) = λ tries requests nested request at place pending m is has clean sound fit. assign-runs b tries requests n nested name value request at place pending m is has clean sound fit
    stmt-runs (trees.AssignMember name index value) = λ tries requests nested request at place pending m is has clean sound fit. member-runs b tries requests n nested name index value request at place pending m is.0 is.1 has clean sound fit
    stmt-runs (trees.If condition then_part) = if-runs condition then_part (stmts-run then_part)
    stmt-runs (trees.IfElse condition then_part else_part) = if-else-runs condition then_part else_part (stmts-run then_part) (stmts-run else_part)
    stmt-runs (trees.While condition body) = while-runs condition body (stmts-run body)
    stmt-runs (trees.Write value) = λ tries requests nested request at place pending m is has clean sound fit. write-runs b tries requests n nested value request at place pending m is has clean sound fit
    stmt-runs (trees.Await condition) = await-runs condition
    stmt-runs trees.Stop = λ tries requests nested request at place pending m is has clean sound fit. stop-runs b tries requests n nested at pending m has.0
    stmt-runs (trees.Raise name) = λ tries requests nested request at place pending m is has clean sound fit. raise-runs b tries requests n nested at pending m (exception_named (exception_of name)) sound has.0
    stmt-runs (trees.New first second) = λ tries requests nested request at place pending m is has clean sound fit. new-runs b tries requests n nested first second request at place pending m has clean sound fit
    stmt-runs (trees.Destroy name) = λ tries requests nested request at place pending m is has clean sound fit. on-link-runs b tries requests n nested name code.Destroy Destroy at (place + 1) pending m (λ t. refl) (λ link. tt) (λ link. refl) has clean sound fit
    stmt-runs (trees.Bind link entry) = λ tries requests nested request at place pending m is has clean sound fit.
        let parts = both-clean (link_faults b.setting.scope (place + 1) link) (is_an_entry (place + 3) (b.setting.scope entry)) clean in
        on-link-runs b tries requests n nested link (code.Bind (b.setting.names.entry entry)) (λ l. Bind l (b.setting.names.entry entry)) at (place + 1) pending m (λ t. refl) (λ l. tt) (λ l. refl) has parts.0 sound fit
    stmt-runs (trees.Unbind link entry) = λ tries requests nested request at place pending m is has clean sound fit.
        let parts = both-clean (link_faults b.setting.scope (place + 1) link) (is_an_entry (place + 3) (b.setting.scope entry)) clean in
        on-link-runs b tries requests n nested link (code.Unbind (b.setting.names.entry entry)) (λ l. Unbind l (b.setting.names.entry entry)) at (place + 1) pending m (λ t. refl) (λ l. tt) (λ l. refl) has parts.0 sound fit
    stmt-runs (trees.Connect op link values results) = λ tries requests nested request at place pending m is has clean sound fit. connect-runs b tries requests n nested op link values results request at place pending m is has clean sound fit
    stmt-runs (trees.Accept op link arguments body) = taken-runs op link arguments body (stmts-run body)
    stmt-runs (trees.Reply values) = λ tries requests nested request at place pending m is has clean sound fit. reply-runs b tries requests n nested values request at place pending m is has clean sound fit
    stmt-runs (trees.Try body handlers) = try-runs body handlers (stmts-run body) (handlers-run handlers)

    pub stmts-run : (ss : StmtTrees) → StmtsRun ss
    stmts-run trees.no_stmts = λ tries requests nested request at place pending m is has clean sound fit.
        let same : at ≡ at + 0 = omega arith in
        (sound, pending, subst (λ (k : ℕ). Reaches b.setting.program (thread at [] tries requests pending m) (Goes (thread k [] tries requests pending m))) same (reaches-none b.setting.program (thread at [] tries requests pending m)))
    stmts-run (trees.more_stmts s ss) = one-after-the-other s ss (stmt-runs s) (stmts-run ss)

    pub handlers-run : (hs : HandlerTrees) → HandlersRun hs
    handlers-run trees.no_handlers = λ tries requests nested request behind at place raised m is has again clean sound fit.
        let same : at + 0 ≡ at = omega arith in
        runs-again b tries requests n nested at behind raised m sound (subst (λ (k : ℕ). slice_get b.setting.program.instructions k ≡ Some code.Again) same again)
    handlers-run (trees.more_handlers name body others) = handler-runs name body others (stmts-run body) (handlers-run others)
