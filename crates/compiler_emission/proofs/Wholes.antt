-- The code of a statement is that of its parts, one after the other.
use Rattle.std.proofs.Common.{◌≡◌, ℕ, ◌+◌, ◌<◌, ◌≤◌, List, [], ◌∷◌, ◌++◌, length, Option, None, Some, Result, Ok, Err, refl, sym, ap, subst, ◌∙◌, arith, append_assoc, length-append}
use Rattle.std.specs.Prelude.{OnOk}
use Rattle.std.specs.Global.{Vec, Box}
use Rattle.lynx_tree.specs.declared.expression.Expr as expr
use Rattle.lynx_tree.specs.declared.statement.Handler.{Handler}
use Rattle.lynx_tree.specs.declared.statement.Stmt as stmt
use Rattle.lynx_tree.specs.Trees.{ExprTree, ExprTrees, StmtTrees, HandlerTrees, expr_tree, stmt_tree, stmt_list, handler_list, else_list, choice_tree}
use Rattle.lynx_tree.proofs.Views.{while_tree, accept_tree, try_tree, if_tree, if_else_tree}
use Rattle.typing_rules.specs.Exceptions.{exception_of}
use Rattle.typing_rules.specs.declared.exception.Exception.{Exception}
use Rattle.lynx_tree.specs.Trees as trees
use Rattle.lynx_code.specs.Generation.{Names, load, expr_code, exprs_code, stmt_code, stmts_code, handlers_code, exception_named, stores}
use Rattle.lynx_code.specs.declared.instruction.Instruction.{Instruction}
use Rattle.lynx_code.specs.declared.instruction.Instruction.TheVariants as code
use Rattle.compiler_emission.specs.declared.fault.CompileFault.{CompileFault}
use Rattle.compiler_emission.specs.Jumps.{over_code, guarded_code, caught_code, handlers_count}
use Rattle.compiler_emission.proofs.Emitting.{both, both_long}
use Rattle.compiler_emission.proofs.Statements.{just_over}

-- code that begins at an address, and other code behind it
abbrev pub seq : (ℕ → List Instruction) → (ℕ → List Instruction) → ℕ → List Instruction
seq f g at = f at ++ g (at + length (f at))

-- one instruction
abbrev pub one : Instruction → ℕ → List Instruction
one i at = i ∷ []

pub then_ok : {P Q : Type 0} (r : Result (Unit {0}) CompileFault) → (P → Q) → OnOk r P → OnOk r Q
then_ok (Ok u) f h = f h
then_ok (Err e) f h = tt

module _ (f g : ℕ → List Instruction) (o m : List Instruction) where
  pub seq_ok : (n : List Instruction) → m ≡ o ++ f (length o) → n ≡ m ++ g (length m) → n ≡ o ++ seq f g (length o)
  seq_ok n first second = both g o m n (f (length o)) first second

  pub seq_second : m ≡ o ++ f (length o) → 65535 < length m + length (g (length m)) → 65535 < length o + length (seq f g (length o))
  seq_second first h = both_long g o m (f (length o)) first h

  -- the second has so many more behind it
  pub seq_more : (j : ℕ) → m ≡ o ++ f (length o) → 65535 < length m + length (g (length m)) + j → 65535 < length o + length (seq f g (length o)) + j
  seq_more j first h =
      let at : length m ≡ length o + length (f (length o)) = ap length first ∙ length-append o (f (length o)) in
      let h' : 65535 < length m + length (g (length o + length (f (length o)))) + j = subst (λ k. 65535 < length m + length (g k) + j) at h in
      omega (arith, length-append (f (length o)) (g (length o + length (f (length o)))))

-- what stands behind is no shorter than that
pub seq_first : (f g : ℕ → List Instruction) (o : List Instruction) (j : ℕ) → 65535 < length o + length (f (length o)) + j → j ≤ length (g (length o + length (f (length o)))) → 65535 < length o + length (seq f g (length o))
seq_first f g o j h le = omega (arith, length-append (f (length o)) (g (length o + length (f (length o)))))

pub no_more : (a b : ℕ) → 65535 < a + b + 0 → 65535 < a + b
no_more a b h = omega arith

-- told of the whole
pub is_ok : (a b o n : List Instruction) → a ≡ b → n ≡ o ++ a → n ≡ o ++ b
is_ok a b o n is h = h ∙ ap (λ (y : List Instruction). o ++ y) is

pub one_long : (i : Instruction) (m : List Instruction) → 65535 ≤ length m → 65535 < length m + length (one i (length m))
one_long i m h = omega (arith, h)

-- ---- statements

over_at : (names : Names) (k behind : ℕ) (e : StmtTrees) → k + 1 ≡ behind → over_code names code.Jump 0 k e ≡ code.Jump (behind + length (stmts_code names behind e)) ∷ stmts_code names behind e
over_at names k behind e h = just_over names code.Jump k e ∙ ap (λ b. code.Jump (b + length (stmts_code names b e)) ∷ stmts_code names b e) h

module _ (names : Names) (at : ℕ) where
  pub if_is : (c : ExprTree) (t : StmtTrees) → seq (λ k. expr_code names k c) (λ k. over_code names code.JumpF 0 k t) at ≡ stmt_code names at (trees.If c t)
  if_is c t = ap (λ (is : List Instruction). expr_code names at c ++ is) (just_over names code.JumpF (at + length (expr_code names at c)) t)

  pub choice_is : (c : ExprTree) (t e : StmtTrees)
      → seq (seq (λ k. expr_code names k c) (λ k. over_code names code.JumpF 1 k t)) (λ k. over_code names code.Jump 0 k e) at ≡ stmt_code names at (trees.IfElse c t e)
  choice_is c t e =
      let x : List Instruction = expr_code names at c in
      let y : List Instruction = over_code names code.JumpF 1 (at + length x) t in
      ap (λ (is : List Instruction). (x ++ y) ++ is) (over_at names (at + length (x ++ y)) (at + length x + 1 + length (stmts_code names (at + length x + 1) t) + 1) e (omega (arith, length-append x y)))

  pub while_is : (c : ExprTree) (b : StmtTrees)
      → seq (seq (λ k. expr_code names k c) (λ k. over_code names code.JumpF 1 k b)) (one (code.Jump at)) at ≡ stmt_code names at (trees.While c b)
  while_is c b = refl

  pub accept_is : (op link : List ℕ) (xs : List (List ℕ)) (b : StmtTrees)
      → seq (seq (seq (λ k. load names link ∷ code.Accept (names.op op) ∷ []) (λ k. stores names xs)) (λ k. stmts_code names k b)) (one code.Close) at ≡ stmt_code names at (trees.Accept op link xs b)
  accept_is op link xs b =
      ap (λ k. ((load names link ∷ code.Accept (names.op op) ∷ stores names xs) ++ stmts_code names k b) ++ code.Close ∷ []) (omega arith)

  pub connect_is : (op link : List ℕ) (values : ExprTrees) (xs : List (List ℕ))
      → seq (seq (λ k. exprs_code names k values) (λ k. load names link ∷ code.Connect (names.op op) ∷ [])) (λ k. stores names xs) at ≡ stmt_code names at (trees.Connect op link values xs)
  connect_is op link values xs = append_assoc (exprs_code names at values) (load names link ∷ code.Connect (names.op op) ∷ []) (stores names xs)

-- ---- statements, as they lie in memory

pub choice_view : (s : stmt.Stmt) (condition : Box expr.Expr) (then : Vec stmt.Stmt) (otherwise : Option (Vec stmt.Stmt)) (x : expr.Expr) (xs : List stmt.Stmt) → s ≡ stmt.If condition then otherwise → x ≡ condition.value → xs ≡ then.items
    → choice_tree (expr_tree x) (stmt_list xs) (else_list otherwise) ≡ stmt_tree s
choice_view s condition then None x xs is head are = (λ i. trees.If (expr_tree (head i)) (stmt_list (are i))) ∙ sym (ap stmt_tree is ∙ if_tree condition then)
choice_view s condition then (Some otherwise) x xs is head are =
    (λ i. trees.IfElse (expr_tree (head i)) (stmt_list (are i)) (stmt_list otherwise.items)) ∙ sym (ap stmt_tree is ∙ if_else_tree condition then otherwise)

pub else_view : (x : ExprTree) (b : StmtTrees) (o : Option (Vec stmt.Stmt)) (v : Vec stmt.Stmt) (xs : List stmt.Stmt) → o ≡ Some v → xs ≡ v.items → trees.IfElse x b (stmt_list xs) ≡ choice_tree x b (else_list o)
else_view x b o v xs is are = ap (λ (ys : List stmt.Stmt). trees.IfElse x b (stmt_list ys)) are ∙ ap (λ (e : Option (Vec stmt.Stmt)). choice_tree x b (else_list e)) (sym is)

pub while_view : (s : stmt.Stmt) (condition : expr.Expr) (body : Vec stmt.Stmt) (xs : List stmt.Stmt) → s ≡ stmt.While condition body → xs ≡ body.items → trees.While (expr_tree condition) (stmt_list xs) ≡ stmt_tree s
while_view s condition body xs is are = ap (λ (ys : List stmt.Stmt). trees.While (expr_tree condition) (stmt_list ys)) are ∙ sym (ap stmt_tree is ∙ while_tree condition body)

pub accept_view : (s : stmt.Stmt) (op link : List ℕ) (ns : Vec (List ℕ)) (body : Vec stmt.Stmt) (ys : List (List ℕ)) (xs : List stmt.Stmt) → s ≡ stmt.Accept op link ns body → ys ≡ ns.items → xs ≡ body.items
    → trees.Accept op link ys (stmt_list xs) ≡ stmt_tree s
accept_view s op link ns body ys xs is named are = (λ i. trees.Accept op link (named i) (stmt_list (are i))) ∙ sym (ap stmt_tree is ∙ accept_tree op link ns body)

pub try_view : (s : stmt.Stmt) (body : Vec stmt.Stmt) (handlers : Vec Handler) (xs : List stmt.Stmt) (hs : List Handler) → s ≡ stmt.Try body handlers → xs ≡ body.items → hs ≡ handlers.items
    → trees.Try (stmt_list xs) (handler_list hs) ≡ stmt_tree s
try_view s body handlers xs hs is are caught = (λ i. trees.Try (stmt_list (are i)) (handler_list (caught i))) ∙ sym (ap stmt_tree is ∙ try_tree body handlers)

pub handler_view : (names : Names) (at : ℕ) (h : Handler) (x : Exception) (xs : List stmt.Stmt) → x ≡ exception_named (exception_of h.name) → xs ≡ h.body.items
    → over_code names (code.Case x) 1 at (stmt_list xs) ≡ over_code names (code.Case (exception_named (exception_of h.name))) 1 at (stmt_list h.body.items)
handler_view names at h x xs is are = λ i. over_code names (code.Case (is i)) 1 at (stmt_list (are i))

-- ---- a try

pub handlers_number : (hs : List Handler) → length hs ≡ handlers_count (handler_list hs)
handlers_number [] = refl
handlers_number (h ∷ hs) = omega (arith, handlers_number hs)

-- as many instructions, wherever they go on
handlers_size : (names : Names) (b c at : ℕ) (hs : HandlerTrees) → length (handlers_code names b at hs) ≡ length (handlers_code names c at hs)
handlers_size names b c at trees.no_handlers = refl
handlers_size names b c at (trees.more_handlers name body others) =
    let x : List Instruction = stmts_code names (at + 1) body in
    let next : ℕ = at + 1 + length x + 1 in
    omega (arith, length-append x (code.Jump b ∷ handlers_code names b next others), length-append x (code.Jump c ∷ handlers_code names c next others), handlers_size names b c next others)

module _ (names : Names) (b : StmtTrees) (hs : HandlerTrees) (o : List Instruction) where
  abbrev body : List Instruction
  body = over_code names code.Try 2 (length o) b

  -- the address of the first handler, and that behind the `try`
  abbrev first : ℕ
  first = length o + 1 + length (stmts_code names (length o + 1) b) + 2

  abbrev behind : ℕ
  behind = first + length (handlers_code names 0 first hs) + 1

  -- what stands before the jump over the handlers
  abbrev before : List Instruction
  before = o ++ (body ++ code.Untry ∷ [])

  size_guarded : (m : List Instruction) → m ≡ o ++ guarded_code names (length o) b → length m ≡ first
  size_guarded m is = ap length is ∙ length-append o (body ++ code.Untry ∷ code.End ∷ []) ∙ omega (arith, length-append body (code.Untry ∷ code.End ∷ []), length-append (stmts_code names (length o + 1) b) (code.Untry ∷ code.End ∷ []))

  size_caught : (m n : List Instruction) → m ≡ o ++ guarded_code names (length o) b → n ≡ m ++ caught_code names 0 (length m) hs → length n ≡ behind
  size_caught m n is caught =
      ap length caught ∙ length-append m (caught_code names 0 (length m) hs) ∙ ap (λ k. length m + k) (length-append (handlers_code names 0 (length m) hs) (code.Again ∷ [])) ∙ ap (λ k. k + (length (handlers_code names 0 k hs) + 1)) (size_guarded m is) ∙ omega arith

  size_try : length o + length (stmt_code names (length o) (trees.Try b hs)) ≡ behind
  size_try =
      let h : List Instruction = handlers_code names behind first hs in
      omega (arith, length-append (body ++ code.Untry ∷ code.Jump behind ∷ h) (code.Again ∷ []), length-append body (code.Untry ∷ code.Jump behind ∷ h), handlers_size names behind 0 first hs)

  pub try_first : 65535 < length o + length (guarded_code names (length o) b) → 65535 < length o + length (stmt_code names (length o) (trees.Try b hs))
  try_first h = omega (arith, h, size_try, size_guarded (o ++ guarded_code names (length o) b) refl, length-append o (guarded_code names (length o) b))

  pub try_second : (m : List Instruction) → m ≡ o ++ guarded_code names (length o) b → 65535 < length m + length (caught_code names 0 (length m) hs) → 65535 < length o + length (stmt_code names (length o) (trees.Try b hs))
  try_second m is h = omega (arith, h, size_try, size_caught m (m ++ caught_code names 0 (length m) hs) is refl, length-append m (caught_code names 0 (length m) hs))

  pub try_third : (m n : List Instruction) → m ≡ o ++ guarded_code names (length o) b → n ≡ m ++ caught_code names 0 (length m) hs → 65535 < length n + 0 → 65535 < length o + length (stmt_code names (length o) (trees.Try b hs))
  try_third m n is caught h = omega (arith, h, size_try, size_caught m n is caught)

  pub try_is : (m n r : List Instruction) (at end count : ℕ) → m ≡ o ++ guarded_code names (length o) b → at ≡ length m → n ≡ m ++ caught_code names 0 (length m) hs → end ≡ length n + 0 → count ≡ handlers_count hs
      → ((ns : Names) (before rest : List Instruction) (handlers : HandlerTrees) → at ≡ length before + 1 → count ≡ handlers_count handlers → n ≡ before ++ code.End ∷ (handlers_code ns 0 at handlers ++ rest)
      → r ≡ before ++ code.Jump end ∷ (handlers_code ns end at handlers ++ rest))
      → r ≡ o ++ stmt_code names (length o) (trees.Try b hs)
  try_is m n r at end count guarded place caught is number closes =
      let parted : m ≡ before ++ code.End ∷ [] = guarded ∙ ap (λ (y : List Instruction). o ++ y) (sym (append_assoc body (code.Untry ∷ []) (code.End ∷ []))) ∙ sym (append_assoc o (body ++ code.Untry ∷ []) (code.End ∷ [])) in
      let all : n ≡ before ++ code.End ∷ (handlers_code names 0 at hs ++ code.Again ∷ []) =
      caught ∙ ap (λ k. m ++ caught_code names 0 k hs) (sym place) ∙ ap (λ (y : List Instruction). y ++ caught_code names 0 at hs) parted ∙ append_assoc before (code.End ∷ []) (caught_code names 0 at hs) in
      let one_before : at ≡ length before + 1 = place ∙ ap length parted ∙ length-append before (code.End ∷ []) in
      let starts : at ≡ first = place ∙ size_guarded m guarded in
      let ends : length n + 0 ≡ length n = omega arith in
      let goes_to : end ≡ behind = is ∙ ends ∙ size_caught m n guarded caught in
      let h : List Instruction = handlers_code names behind first hs in
      closes names before (code.Again ∷ []) hs one_before number all
      ∙ (λ i. before ++ code.Jump (goes_to i) ∷ (handlers_code names (goes_to i) (starts i) hs ++ code.Again ∷ []))
      ∙ append_assoc o (body ++ code.Untry ∷ []) (code.Jump behind ∷ (h ++ code.Again ∷ []))
      ∙ ap (λ (y : List Instruction). o ++ y) (append_assoc body (code.Untry ∷ []) (code.Jump behind ∷ (h ++ code.Again ∷ [])) ∙ sym (append_assoc body (code.Untry ∷ code.Jump behind ∷ h) (code.Again ∷ [])))
