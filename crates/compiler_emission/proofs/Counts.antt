-- Each statement has an instruction.
use Rattle.std.proofs.Common.{ℕ, ◌+◌, ◌<◌, ◌≤◌, List, [], ◌∷◌, ◌++◌, length, arith, length-append}
use Rattle.lynx_tree.specs.declared.statement.Stmt.{Stmt}
use Rattle.lynx_tree.specs.Trees.{StmtTree, stmt_tree, stmt_list}
use Rattle.lynx_tree.specs.Trees as trees
use Rattle.lynx_code.specs.Generation.{Names, expr_code, exprs_code, load, store, store_member, stores, stmt_code, stmts_code, how_many}
use Rattle.lynx_code.specs.Modules.{body_code}
use Rattle.lynx_code.specs.declared.instruction.Instruction.{Instruction}
use Rattle.lynx_code.specs.declared.instruction.Instruction.TheVariants as code

-- instructions with one among them
pub has : (before behind : List Instruction) (i : Instruction) → 0 < length (before ++ i ∷ behind)
has before behind i = omega (arith, length-append before (i ∷ behind))

has_one : (names : Names) (at : ℕ) (s : StmtTree) → 0 < length (stmt_code names at s)
has_one names at (trees.Assign name value) = has (expr_code names at value) [] (store names name)
has_one names at (trees.AssignMember name index value) =
    let i = expr_code names at index in
    has (i ++ expr_code names (at + length i) value) [] (store_member names name)
has_one names at (trees.If condition then_part) =
    let c = expr_code names at condition in
    let t = stmts_code names (at + length c + 1) then_part in
    has c t (code.JumpF (at + length c + 1 + length t))
has_one names at (trees.IfElse condition then_part else_part) =
    let c = expr_code names at condition in
    let t = stmts_code names (at + length c + 1) then_part in
    let behind = at + length c + 1 + length t + 1 in
    let o = stmts_code names behind else_part in
    has (c ++ code.JumpF behind ∷ t) o (code.Jump (behind + length o))
has_one names at (trees.While condition body) =
    let c = expr_code names at condition in
    let b = stmts_code names (at + length c + 1) body in
    has (c ++ code.JumpF (at + length c + 1 + length b + 1) ∷ b) [] (code.Jump at)
has_one names at (trees.Write value) = has (expr_code names at value) [] code.Write
has_one names at (trees.Await condition) = has (expr_code names at condition) [] (code.Await at)
has_one names at trees.Stop = omega arith
has_one names at (trees.Raise name) = omega arith
has_one names at (trees.New first second) = omega arith
has_one names at (trees.Destroy name) = omega arith
has_one names at (trees.Bind link entry) = omega arith
has_one names at (trees.Unbind link entry) = omega arith
has_one names at (trees.Connect op link values results) = has (exprs_code names at values) (code.Connect (names.op op) ∷ stores names results) (load names link)
has_one names at (trees.Accept op link arguments body) = omega arith
has_one names at (trees.Reply values) = has (exprs_code names at values) [] (code.Reply (how_many values))
has_one names at (trees.Try body handlers) = omega arith

each_has : (names : Names) (at : ℕ) (ss : List Stmt) → length ss ≤ length (stmts_code names at (stmt_list ss))
each_has names at [] = omega arith
each_has names at (s ∷ ss) =
    let x = stmt_code names at (stmt_tree s) in
    omega (arith, has_one names at (stmt_tree s), length-append x (stmts_code names (at + length x) (stmt_list ss)), each_has names (at + length x) ss)

-- the end of a body has one more
pub many_statements : (names : Names) (o : List Instruction) (ss : List Stmt) → 65535 ≤ length ss → 65535 < length o + length (body_code names (length o) (stmt_list ss))
many_statements names o ss many =
    let b = stmts_code names (length o) (stmt_list ss) in
    omega (arith, many, each_has names (length o) ss, length-append b (code.End ∷ []))
