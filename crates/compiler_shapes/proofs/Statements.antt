-- The shapes of the code of statements.
use Rattle.std.proofs.Common.{◌≡◌, ℕ, ◌+◌, List, [], ◌∷◌, ◌++◌, length, Option, Some, slice_get, refl, sym, ap, ◌∙◌, subst, length-append, arith, drop, ◌-◌, ◌<◌, le_refl}
use Rattle.lynx_tree.specs.Trees.{ExprTree, HandlerTrees, StmtTree, StmtTrees}
use Rattle.lynx_tree.specs.Trees as trees
use Rattle.lynx_tree.specs.Grammar.{AreHandlers, AreStmts, IsStmt, names_marks, stmt_marks}
use Rattle.lynx_tree.specs.declared.declaration.TypeName.{TypeName}
use Rattle.lynx_tree.specs.declared.declaration.TypeName.TheVariants as types
use Rattle.typing_rules.specs.Exceptions.{exception_of}
use Rattle.typing_rules.specs.Expressions.{expr_size, value_faults}
use Rattle.typing_rules.specs.Names.{arguments_of, known, results_of}
use Rattle.typing_rules.specs.Rules.{Asks, accept_has_names, accept_name_fits, condition_is_bool, is_an_entry, is_op, names_exception}
use Rattle.typing_rules.specs.Statements.{handlers_faults, link_faults, names_faults, stmt_faults, stmts_faults, stmts_size}
use Rattle.lynx_code.specs.Generation.{exception_named, expr_code, handlers_code, load, stmt_code, stmts_code, stores}
use Rattle.lynx_code.specs.declared.instruction.Instruction.{Instruction}
use Rattle.lynx_code.specs.declared.instruction.Instruction.TheVariants as code
use Rattle.lynx_meaning.specs.Code.{Opened, cut}
use Rattle.compiler_expressions.proofs.Clean.{both-clean, demand-met}
use Rattle.compiler_expressions.proofs.Variables.{some-of}
use Rattle.compiler_statements.proofs.Handlers.{handlers-length}
use Rattle.compiler_statements.proofs.Requests.{number-met}
use Rattle.code_shapes.specs.Shapes.{Shape, Shapes, Accepts, Leads, Obeys, pushed, AsksOnLink}
use Rattle.lynx_meaning.specs.Needs.{OpTypes}
use Rattle.compiler_shapes.proofs.Expressions.{pass_on}
use Rattle.compiler_shapes.proofs.Operands.{load_passes}
use Rattle.compiler_shapes.proofs.Parts.{Caught, Open, Part, Passes, leads_raised, may_raise, on, raised, Asked, catches_inside}
use Rattle.compiler_shapes.proofs.Simple.{assign_member_passes, assign_passes, condition_passes, connect_passes, new_passes, on_link_passes, raise_passes, reply_passes, stop_passes, write_passes}
use Rattle.compiler_shapes.proofs.Stores.{link_variable, stores_pass, variables_of}
use Rattle.compiler_shapes.proofs.Walks.{Walks, around, followed, followed_past, nothing, one, where_more}

module _ (c : Part) where
  -- a statement, wherever it stands
  abbrev pub StmtPasses : StmtTree → Type 0
  StmtPasses s = (o : Open) (asked : Asked c.whole o.requests) (at place : ℕ) → IsStmt s → stmt_faults c.scope asked.request place s ≡ [] → Passes c o at (stmt_code c.names at s) [] []

  abbrev pub StmtsPass : StmtTrees → Type 0
  StmtsPass ss = (o : Open) (asked : Asked c.whole o.requests) (at place : ℕ) → AreStmts ss → stmts_faults c.scope asked.request place ss ≡ [] → Passes c o at (stmts_code c.names at ss) [] []

  -- handlers need what is behind their `try`
  abbrev pub MayLeave : Open → ℕ → Shapes → Type 0
  MayLeave o behind shapes = Caught c o shapes × Leads shapes behind (on c o [])

  abbrev pub HandlersPass : HandlerTrees → Type 0
  HandlersPass hs = (o : Open) (asked : Asked c.whole o.requests) (behind at place : ℕ) → AreHandlers hs → handlers_faults c.scope asked.request place hs ≡ [] →
      Walks c.whole (MayLeave o behind) at (handlers_code c.names behind at hs) (on c (raised o) []) (on c (raised o) [])

  -- ---- choices and loops

  -- what is known around a statement: its first address, and the one behind it
  abbrev pub Around : Open → ℕ → ℕ → Shapes → Type 0
  Around o at end shapes = Caught c o shapes × Leads shapes at (on c o []) × Leads shapes end (on c o [])

  jump_if : (N : Shapes → Type 0) (o : Open) (at address : ℕ) → ((shapes : Shapes) → N shapes → Leads shapes address (on c o [])) → Walks c.whole N at (code.JumpF address ∷ []) (on c o (types.Bool ∷ [])) (on c o [])
  jump_if N o at address leads = one c.whole N at (code.JumpF address) (on c o (types.Bool ∷ [])) (on c o []) (λ shapes onward needs fits. ([], refl, (onward, leads shapes needs)))

  jump : (N : Shapes → Type 0) (o : Open) (at address : ℕ) → ((shapes : Shapes) → N shapes → Leads shapes address (on c o [])) → Walks c.whole N at (code.Jump address ∷ []) (on c o []) (on c o [])
  jump N o at address leads = one c.whole N at (code.Jump address) (on c o []) (on c o []) (λ shapes onward needs fits. leads shapes needs)

  -- a condition, the jump that it decides, and what comes where it is true
  tested : (N : Shapes → Type 0) (o : Open) (at address : ℕ) (x y : List Instruction) → ((shapes : Shapes) → N shapes → Caught c o shapes) → ((shapes : Shapes) → N shapes → Leads shapes address (on c o [])) →
      Passes c o at x [] (types.Bool ∷ []) → Passes c o (at + length x + 1) y [] [] → Walks c.whole N at (x ++ code.JumpF address ∷ y) (on c o []) (on c o [])
  tested N o at address x y less leads first second =
      let s = on c o [] in
      let b = on c o (types.Bool ∷ []) in
      let middle = at + length x in
      followed c.whole N at middle x (code.JumpF address ∷ y) s b s refl (where_more c.whole (Caught c o) N at x s b less first)
      (followed c.whole N middle (middle + 1) (code.JumpF address ∷ []) y b s s refl (jump_if N o middle address leads) (where_more c.whole (Caught c o) N (middle + 1) y s s less second))

  if_passes : (condition : ExprTree) (then_part : StmtTrees) → StmtsPass then_part → StmtPasses (trees.If condition then_part)
  if_passes condition then_part pass o asked at place is clean =
      let s = on c o [] in
      let x = expr_code c.names at condition in
      let y = stmts_code c.names (at + length x + 1) then_part in
      let end = at + length x + 1 + length y in
      let is_code = x ++ code.JumpF end ∷ y in
      let long : at + length is_code ≡ end = omega (arith, length-append x (code.JumpF end ∷ y)) in
      let parts = both-clean (value_faults condition_is_bool c.scope (place + 1) condition) (stmts_faults c.scope asked.request (place + expr_size condition + 2) then_part) clean in
      around c.whole (Caught c o) at is_code s s
      (tested (Around o at (at + length is_code)) o at end x y (λ shapes needs. needs.0) (λ shapes needs. subst (λ (n : ℕ). Leads shapes n s) long needs.2)
      (condition_passes c o condition at (place + 1) is.0 parts.0) (pass o asked (at + length x + 1) (place + expr_size condition + 2) is.1 parts.1))

  if_else_passes : (condition : ExprTree) (then_part else_part : StmtTrees) → StmtsPass then_part → StmtsPass else_part → StmtPasses (trees.IfElse condition then_part else_part)
  if_else_passes condition then_part else_part pass pass_else o asked at place is clean =
      let s = on c o [] in
      let x = expr_code c.names at condition in
      let y = stmts_code c.names (at + length x + 1) then_part in
      let behind = at + length x + 1 + length y + 1 in
      let z = stmts_code c.names behind else_part in
      let end = behind + length z in
      let first = x ++ code.JumpF behind ∷ y in
      let middle = at + length x + 1 + length y in
      let is_code = first ++ code.Jump end ∷ z in
      let first_long : at + length first ≡ middle = omega (arith, length-append x (code.JumpF behind ∷ y)) in
      let long : at + length is_code ≡ end = omega (arith, length-append first (code.Jump end ∷ z), length-append x (code.JumpF behind ∷ y)) in
      let f1 = value_faults condition_is_bool c.scope (place + 1) condition in
      let f2 = stmts_faults c.scope asked.request (place + expr_size condition + 2) then_part in
      let f3 = stmts_faults c.scope asked.request (place + expr_size condition + stmts_size then_part + 3) else_part in
      let p2 = both-clean (f1 ++ f2) f3 clean in
      let p1 = both-clean f1 f2 p2.0 in
      let known = Around o at (at + length is_code) in
      around c.whole (Caught c o) at is_code s s
      (followed_past c.whole known at middle behind first (code.Jump end ∷ []) z s s s s first_long refl
      (tested (λ shapes. known shapes × Leads shapes behind s) o at behind x y (λ shapes needs. needs.0.0) (λ shapes needs. needs.1)
      (condition_passes c o condition at (place + 1) is.0 p1.0) (pass o asked (at + length x + 1) (place + expr_size condition + 2) is.1 p1.1))
      (jump known o middle end (λ shapes needs. subst (λ (n : ℕ). Leads shapes n s) long needs.2))
      (where_more c.whole (Caught c o) known behind z s s (λ shapes needs. needs.0) (pass_else o asked behind (place + expr_size condition + stmts_size then_part + 3) is.2 p2.1)))

  while_passes : (condition : ExprTree) (body : StmtTrees) → StmtsPass body → StmtPasses (trees.While condition body)
  while_passes condition body pass o asked at place is clean =
      let s = on c o [] in
      let x = expr_code c.names at condition in
      let y = stmts_code c.names (at + length x + 1) body in
      let end = at + length x + 1 + length y + 1 in
      let first = x ++ code.JumpF end ∷ y in
      let middle = at + length x + 1 + length y in
      let is_code = first ++ code.Jump at ∷ [] in
      let first_long : at + length first ≡ middle = omega (arith, length-append x (code.JumpF end ∷ y)) in
      let long : at + length is_code ≡ end = omega (arith, length-append first (code.Jump at ∷ []), length-append x (code.JumpF end ∷ y)) in
      let parts = both-clean (value_faults condition_is_bool c.scope (place + 1) condition) (stmts_faults c.scope asked.request (place + expr_size condition + 2) body) clean in
      let known = Around o at (at + length is_code) in
      around c.whole (Caught c o) at is_code s s
      (followed c.whole known at middle first (code.Jump at ∷ []) s s s first_long
      (tested known o at end x y (λ shapes needs. needs.0) (λ shapes needs. subst (λ (n : ℕ). Leads shapes n s) long needs.2)
      (condition_passes c o condition at (place + 1) is.0 parts.0) (pass o asked (at + length x + 1) (place + expr_size condition + 2) is.1 parts.1))
      (jump known o middle at (λ shapes needs. needs.1)))

  -- an await that found false tries again
  await_passes : (condition : ExprTree) → StmtPasses (trees.Await condition)
  await_passes condition o asked at place is clean =
      let s = on c o [] in
      let b = on c o (types.Bool ∷ []) in
      let x = expr_code c.names at condition in
      let is_code = x ++ code.Await at ∷ [] in
      let known = Around o at (at + length is_code) in
      around c.whole (Caught c o) at is_code s s
      (followed c.whole known at (at + length x) x (code.Await at ∷ []) s b s refl
      (where_more c.whole (Caught c o) known at x s b (λ shapes needs. needs.0) (condition_passes c o condition at (place + 1) is clean))
      (one c.whole known (at + length x) (code.Await at) b s (λ shapes leads needs fits. ([], refl, (leads, needs.1, may_raise shapes b [] needs.0)))))

  -- ---- accepts

  accept_obeys : (o : Open) (shapes : Shapes) (at number : ℕ) (op : OpTypes) → slice_get c.whole.ops number ≡ Some op → Leads shapes (at + 1) (on c (record o { requests = number ∷ o.requests }) (pushed op.arguments [])) → Caught c o shapes →
      Obeys c.whole shapes at (on c o (types.Link ∷ [])) (code.Accept number)
  accept_obeys o shapes at number op is leads needs =
      let s = on c o (types.Link ∷ []) in
      subst (λ (q : Option OpTypes). Accepts shapes at s number q) (sym is) ([], refl, (leads, may_raise shapes s [] needs))

  accept_passes : (op link : List ℕ) (arguments : List (List ℕ)) (body : StmtTrees) → StmtsPass body → StmtPasses (trees.Accept op link arguments body)
  accept_passes op link arguments body pass o asked at place is clean =
      let number = c.names.op op in
      let inside : Open = record o { requests = number ∷ o.requests } in
      let names = stores c.names arguments in
      let head = load c.names link ∷ code.Accept number ∷ names in
      let start = at + 2 + length names in
      let y = stmts_code c.names start body in
      let f1 = is_op (place + 1) (c.scope op) in
      let f2 = accept_has_names (place + 1) (length arguments) (arguments_of (c.scope op)) in
      let f3 = link_faults c.scope (place + 3) link in
      let f4 = names_faults accept_name_fits c.scope (place + 5) arguments (known (arguments_of (c.scope op))) in
      let inner = place + length (names_marks 0 arguments) + 5 in
      let f5 = stmts_faults c.scope (Asks (results_of (c.scope op))) inner body in
      let p4 = both-clean (f1 ++ f2 ++ f3 ++ f4) f5 clean in
      let p3 = both-clean (f1 ++ f2 ++ f3) f4 p4.0 in
      let p2 = both-clean (f1 ++ f2) f3 p3.0 in
      let p1 = both-clean f1 f2 p2.0 in
      let types_known = some-of (arguments_of (c.scope op)) (demand-met _ _ _ p1.0) in
      let found = c.operation op types_known.0 types_known.1 in
      let q = found.0 in
      let declared : arguments_of (c.scope op) ≡ Some q.arguments = types_known.1 ∙ ap Some (sym found.2) in
      let size = number-met (length arguments) (arguments_of (c.scope op)) q.arguments declared (demand-met _ _ _ p1.1) in
      let of_names = variables_of c accept_name_fits (λ t there held met. demand-met _ _ _ met) (place + 5) arguments q.arguments size
      (subst (λ (w : Option (List TypeName)). names_faults accept_name_fits c.scope (place + 5) arguments (known w) ≡ []) declared p3.1) in
      let taken = on c inside (pushed q.arguments []) in
      let s = on c o [] in
      let t = on c inside [] in
      let head_long : at + length head ≡ start = omega arith in
      let next : at + 1 + 1 ≡ at + 2 = omega arith in
      let taken_request : Asked c.whole inside.requests = record { request = Asks (results_of (c.scope op)); meant = (number, o.requests, q, refl, found.1, found.3) } in
      let caught = λ (shapes : Shapes) (needs : Caught c o shapes). catches_inside shapes c.locals number o.requests o.tries needs in
      let begins = followed c.whole (Caught c o) at (at + 1) (load c.names link ∷ []) (code.Accept number ∷ names) s (on c o (types.Link ∷ [])) t refl
      (load_passes c o at link types.Link [] (link_variable c (place + 3) link p2.1))
      (followed c.whole (Caught c o) (at + 1) (at + 1 + 1) (code.Accept number ∷ []) names (on c o (types.Link ∷ [])) taken t refl
      (one c.whole (Caught c o) (at + 1) (code.Accept number) (on c o (types.Link ∷ [])) taken (λ shapes leads needs fits. accept_obeys o shapes (at + 1) number q found.1 leads needs))
      (where_more c.whole (Caught c inside) (Caught c o) (at + 1 + 1) names taken t caught (stores_pass c inside (at + 1 + 1) arguments q.arguments [] of_names))) in
      followed c.whole (Caught c o) at (at + length (head ++ y)) (head ++ y) (code.Close ∷ []) s t s refl
      (followed c.whole (Caught c o) at start head y s t t head_long begins
      (where_more c.whole (Caught c inside) (Caught c o) start y t t caught (pass inside taken_request start inner is p4.1)))
      (one c.whole (Caught c o) (at + length (head ++ y)) code.Close t s (λ shapes leads needs fits. (leads, may_raise shapes s [] needs)))

  -- ---- tries

  -- nothing is cut
  cut_all : (requests : List ℕ) → cut (length requests) requests ≡ requests
  cut_all requests = let none : length requests - length requests ≡ 0 = omega arith in ap (λ (k : ℕ). drop k requests) none

  try_passes : (body : StmtTrees) (handlers : HandlerTrees) → StmtsPass body → HandlersPass handlers → StmtPasses (trees.Try body handlers)
  try_passes body handlers pass pass_handlers o asked at place is clean =
      let y = stmts_code c.names (at + 1) body in
      let first = at + 1 + length y + 2 in
      let behind = first + length (handlers_code c.names 0 first handlers) + 1 in
      let hs = handlers_code c.names behind first handlers in
      let head = code.Try first ∷ y in
      let rest = code.Untry ∷ code.Jump behind ∷ hs in
      let middle = at + 1 + length y in
      let is_code = (head ++ rest) ++ code.Again ∷ [] in
      let tried : Opened = record { handlers = first; height = 0; depth = length o.requests } in
      let inside : Open = record o { tries = tried ∷ o.tries } in
      let s = on c o [] in
      let t = on c inside [] in
      let r = on c (raised o) [] in
      let parts = both-clean (stmts_faults c.scope asked.request (place + 1) body) (handlers_faults c.scope asked.request (place + stmts_size body + 1) handlers) clean in
      let same = handlers-length c.names handlers 0 behind first in
      let past : middle + 2 ≡ first = omega arith in
      let head_long : at + length head ≡ middle = omega arith in
      let join : at + length (head ++ rest) ≡ first + length hs = omega (arith, length-append head rest) in
      let long : at + length is_code ≡ behind = omega (arith, same, length-append (head ++ rest) (code.Again ∷ []), length-append head rest) in
      let known = Around o at (at + length is_code) in
      let caught = λ (shapes : Shapes). known shapes × Leads shapes first r in
      let begins = followed c.whole caught at (at + 1) (code.Try first ∷ []) y s t t refl
      (one c.whole caught at (code.Try first) s t (λ shapes leads needs fits. leads))
      (where_more c.whole (Caught c inside) caught (at + 1) y t t (λ shapes needs. (refl, le_refl (length o.requests), subst (λ (rs : List ℕ). Leads shapes first (record r { requests = rs })) (sym (cut_all o.requests)) needs.1)) (pass inside asked (at + 1) (place + 1) is.0 parts.0)) in
      let leaves = followed c.whole known middle (middle + 1) (code.Untry ∷ []) (code.Jump behind ∷ []) t s r refl
      (one c.whole known middle code.Untry t s (λ shapes leads needs fits. leads))
      (one c.whole known (middle + 1) (code.Jump behind) s r (λ shapes leads needs fits. subst (λ (n : ℕ). Leads shapes n s) long needs.2)) in
      let handled = where_more c.whole (MayLeave o behind) known first hs r r (λ shapes needs. (needs.0, subst (λ (n : ℕ). Leads shapes n s) long needs.2))
      (pass_handlers o asked behind first (place + stmts_size body + 1) is.1 parts.1) in
      around c.whole (Caught c o) at is_code s s
      (followed c.whole known at (first + length hs) (head ++ rest) (code.Again ∷ []) s r s join
      (followed_past c.whole known at middle first head (code.Untry ∷ code.Jump behind ∷ []) hs s t r r head_long past begins leaves handled)
      (one c.whole known (first + length hs) code.Again r s (λ shapes leads needs fits. (refl, may_raise shapes r [] needs.0))))

  -- a handler begins where the one before it is not the exception's
  handler_passes : (name : List ℕ) (body : StmtTrees) (others : HandlerTrees) → StmtsPass body → HandlersPass others → HandlersPass (trees.more_handlers name body others)
  handler_passes name body others pass pass_others o asked behind at place is clean =
      let y = stmts_code c.names (at + 1) body in
      let next = at + 1 + length y + 1 in
      let x = exception_named (exception_of name) in
      let hs = handlers_code c.names behind next others in
      let head = code.Case x next ∷ y in
      let middle = at + 1 + length y in
      let r = on c (raised o) [] in
      let f1 = names_exception (place + 1) name in
      let f2 = stmts_faults c.scope asked.request (place + 3) body in
      let f3 = handlers_faults c.scope asked.request (place + stmts_size body + 3) others in
      let p2 = both-clean (f1 ++ f2) f3 clean in
      let p1 = both-clean f1 f2 p2.0 in
      let head_long : at + length head ≡ middle = omega arith in
      let may = MayLeave o behind in
      let known = λ (shapes : Shapes). may shapes × Leads shapes next r in
      followed_past c.whole may at middle next head (code.Jump behind ∷ []) hs r r r r head_long refl
      (followed c.whole known at (at + 1) (code.Case x next ∷ []) y r r r refl
      (one c.whole known at (code.Case x next) r r (λ shapes leads needs fits. (refl, leads, needs.1)))
      (where_more c.whole (Caught c (raised o)) known (at + 1) y r r (λ shapes needs. needs.0.0) (pass (raised o) asked (at + 1) (place + 3) is.0 p1.1)))
      (one c.whole may middle (code.Jump behind) r r (λ shapes leads needs fits. leads_raised shapes c o behind [] needs.1))
      (pass_others o asked behind next (place + stmts_size body + 3) is.1 p2.1)

  -- ---- entries

  -- an action on a link and an entry, which is one of the module
  bound_passes : (o : Open) (link entry : List ℕ) (i : ℕ → Instruction) (at place : ℕ) →
      ((shapes : Shapes) (there : ℕ) (s : Shape) (number : ℕ) → number < c.whole.entries → AsksOnLink shapes there s → Obeys c.whole shapes there s (i number)) →
      link_faults c.scope (place + 1) link ++ is_an_entry (place + 3) (c.scope entry) ≡ [] → Passes c o at (load c.names link ∷ i (c.names.entry entry) ∷ []) [] []
  bound_passes o link entry i at place obeys clean =
      let parts = both-clean (link_faults c.scope (place + 1) link) (is_an_entry (place + 3) (c.scope entry)) clean in
      on_link_passes c o link (i (c.names.entry entry)) at (place + 1) (λ shapes there s asks. obeys shapes there s (c.names.entry entry) (c.entry entry (demand-met _ _ _ parts.1)) asks) parts.0

  -- ---- all statements

  both_pass : (s : StmtTree) (ss : StmtTrees) → StmtPasses s → StmtsPass ss → StmtsPass (trees.more_stmts s ss)
  both_pass s ss pass pass_rest o asked at place is clean =
      let x = stmt_code c.names at s in
      let parts = both-clean (stmt_faults c.scope asked.request place s) (stmts_faults c.scope asked.request (place + length (stmt_marks 0 s) + 1) ss) clean in
      pass_on c o at x (stmts_code c.names (at + length x) ss) [] [] [] (pass o asked at place is.0 parts.0) (pass_rest o asked (at + length x) (place + length (stmt_marks 0 s) + 1) is.1 parts.1)

  mutual
    stmt_passes : (s : StmtTree) → StmtPasses s
    stmt_passes (trees.Assign name value) = λ o asked at place is clean. assign_passes c o name value asked.request at place is clean
    stmt_passes (trees.AssignMember name index value) = λ o asked at place is clean. assign_member_passes c o name index value asked.request at place is.0 is.1 clean
    stmt_passes (trees.If condition then_part) = if_passes condition then_part (stmts_pass then_part)
    stmt_passes (trees.IfElse condition then_part else_part) = if_else_passes condition then_part else_part (stmts_pass then_part) (stmts_pass else_part)
    stmt_passes (trees.While condition body) = while_passes condition body (stmts_pass body)
    stmt_passes (trees.Write value) = λ o asked at place is clean. write_passes c o value asked.request at place is clean
    stmt_passes (trees.Await condition) = await_passes condition
    stmt_passes trees.Stop = λ o asked at place is clean. stop_passes c o at
    stmt_passes (trees.Raise name) = λ o asked at place is clean. raise_passes c o at (exception_named (exception_of name))
    stmt_passes (trees.New first second) = λ o asked at place is clean. new_passes c o first second asked.request at place clean
    stmt_passes (trees.Destroy name) = λ o asked at place is clean. on_link_passes c o name code.Destroy at (place + 1) (λ shapes there s asks. asks) clean
    stmt_passes (trees.Bind link entry) = λ o asked at place is clean.
        bound_passes o link entry code.Bind at place (λ shapes there s number less asks. (less, asks)) clean
    stmt_passes (trees.Unbind link entry) = λ o asked at place is clean.
        bound_passes o link entry code.Unbind at place (λ shapes there s number less asks. (less, asks)) clean
    stmt_passes (trees.Connect op link values results) = λ o asked at place is clean. connect_passes c o op link values results asked.request at place is clean
    stmt_passes (trees.Accept op link arguments body) = accept_passes op link arguments body (stmts_pass body)
    stmt_passes (trees.Reply values) = λ o asked at place is clean. reply_passes c o values asked at place is clean
    stmt_passes (trees.Try body handlers) = try_passes body handlers (stmts_pass body) (handlers_pass handlers)

    pub stmts_pass : (ss : StmtTrees) → StmtsPass ss
    stmts_pass trees.no_stmts = λ o asked at place is clean. nothing c.whole (Caught c o) at (on c o [])
    stmts_pass (trees.more_stmts s ss) = both_pass s ss (stmt_passes s) (stmts_pass ss)

    handlers_pass : (hs : HandlerTrees) → HandlersPass hs
    handlers_pass trees.no_handlers = λ o asked behind at place is clean. nothing c.whole (MayLeave o behind) at (on c (raised o) [])
    handlers_pass (trees.more_handlers name body others) = handler_passes name body others (stmts_pass body) (handlers_pass others)
