-- Jumps over statements.
use Rattle.std.specs.Prelude.{ℕ, ◌+◌, List, [], ◌∷◌, ◌++◌, length, Bool, true, false}
use Rattle.lynx_tree.specs.Trees.{StmtTree, StmtTrees, HandlerTrees, If, IfElse, While, New, Destroy}
use Rattle.lynx_tree.specs.Trees.{Bind, Unbind, Connect, Accept, Reply, Try, no_handlers, more_handlers}
use Rattle.lynx_code.specs.Generation.{Names, stmts_code, handlers_code, exception_named}
use Rattle.typing_rules.specs.Exceptions.{exception_of}
use Rattle.lynx_code.specs.declared.instruction.Instruction.{Instruction}
use Rattle.lynx_code.specs.declared.instruction.Instruction.TheVariants as code
use Rattle.compiler_emission.specs.declared.emit_statement.Jump.{Jump}
use Rattle.compiler_emission.specs.declared.emit_statement.Jump.TheVariants as jumps

abbrev pub jump_to : Jump → ℕ → Instruction
jump_to jumps.IfFalse address = code.JumpF address
jump_to jumps.Always address = code.Jump address
jump_to jumps.Try address = code.Try address
jump_to (jumps.Case exception) address = code.Case exception address

-- statements, and a jump over them and over so many instructions more
abbrev pub over_code : Names → (ℕ → Instruction) → ℕ → ℕ → StmtTrees → List Instruction
over_code names jump more at ss =
    let b = stmts_code names (at + 1) ss in
    jump (at + 1 + length b + more) ∷ b

-- a handler, and its jump behind the `try`
abbrev pub handler_code : Names → ℕ → ℕ → List ℕ → StmtTrees → List Instruction
handler_code names behind at name body =
    over_code names (code.Case (exception_named (exception_of name))) 1 at body ++ code.Jump behind ∷ []

abbrev pub handlers_count : HandlerTrees → ℕ
handlers_count no_handlers = 0
handlers_count (more_handlers name body others) = handlers_count others + 1

-- the body of a `try` that begins at this address; the jump over the handlers is kept open
abbrev pub guarded_code : Names → ℕ → StmtTrees → List Instruction
guarded_code names at body = over_code names code.Try 2 at body ++ code.Untry ∷ code.End ∷ []

-- its handlers, and what raises an exception that none of them is for
abbrev pub caught_code : Names → ℕ → ℕ → HandlerTrees → List Instruction
caught_code names behind at handlers = handlers_code names behind at handlers ++ code.Again ∷ []

-- a statement with others inside
abbrev pub has_statements : StmtTree → Bool
has_statements (If condition then_part) = true
has_statements (IfElse condition then_part else_part) = true
has_statements (While condition body) = true
has_statements (Accept op link arguments body) = true
has_statements (Try body caught) = true
has_statements _ = false

-- a statement that acts on links, with no others inside
abbrev pub acts_on_links : StmtTree → Bool
acts_on_links (New first second) = true
acts_on_links (Destroy name) = true
acts_on_links (Bind link entry) = true
acts_on_links (Unbind link entry) = true
acts_on_links (Connect op link values results) = true
acts_on_links (Reply values) = true
acts_on_links _ = false
