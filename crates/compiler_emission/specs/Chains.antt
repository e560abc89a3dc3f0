-- Chains of `and` and of `or`.
use Rattle.std.specs.Prelude.{ℕ, ◌+◌, List, ◌∷◌, length, Bool, true, false}
use Rattle.lynx_tree.specs.Trees.{ExprTree}
use Rattle.lynx_code.specs.Generation.{Names, expr_code}
use Rattle.lynx_code.specs.declared.instruction.Instruction.{Instruction}
use Rattle.lynx_code.specs.declared.instruction.Instruction.TheVariants as code

abbrev pub chain_jump : Bool → ℕ → Instruction
chain_jump true address = code.OrJ address
chain_jump false address = code.AndJ address

-- a member behind the first, and the jump over it
abbrev pub member_code : Names → (ℕ → Instruction) → ℕ → ExprTree → List Instruction
member_code names jump at e =
    let x = expr_code names (at + 1) e in
    jump (at + 1 + length x) ∷ x
