-- An instruction that is told apart, and an operation by its number.
use Rattle.std.proofs.Common.{arith, ◌≡◌, ℕ, zero, suc, ◌<◌, List, [], ◌∷◌, length, map, Some, slice_get, slice_index_or, ap, sym, ◌∙◌}
use Rattle.lynx_code.specs.declared.code.CodeOp.{CodeOp}
use Rattle.lynx_code.specs.declared.instruction.Instruction.{Instruction}
use Rattle.lynx_meaning.specs.Code.{Program}
use Rattle.lynx_meaning.specs.Values.{Value}
use Rattle.code_shapes.specs.Shapes.{kept_op}
use Rattle.lynx_meaning.specs.Needs.{OpTypes}
use Rattle.machine_turns.specs.Threads.{Made, Standing}
use Rattle.machine_steps.specs.Operands.{HasValues, does}

-- ---- instructions

-- what is known of an instruction holds of one that is equal
pub by_instruction : (p : Program) (globals : List Value) (s : Standing) {i j : Instruction} {m : Made} → i ≡ j → m ≡ does p j globals s → m ≡ does p i globals s
by_instruction p globals s {i} {j} {m} same is = is ∙ ap (λ (k : Instruction). does p k globals s) (sym same)

-- ---- operations

abbrev pub counts : List CodeOp → List ℕ
counts ops = map (λ (op : OpTypes). length op.arguments) (map kept_op ops)

has_op : (ops : List CodeOp) (k : ℕ) (stack : List Value) → HasValues (slice_get (counts ops) k) stack → k < length ops
has_op [] k stack has = absurd has
has_op (o ∷ ops) zero stack has = omega arith
has_op (o ∷ ops) (suc k) stack has = let there : k < length ops = has_op ops k stack has in omega arith

op_is : (ops : List CodeOp) (k : ℕ) (o : CodeOp) → k < length ops → o ≡ slice_index_or ops k o → slice_get (counts ops) k ≡ Some (length o.arguments.items)
op_is [] k o there is_it = absurd (omega arith)
op_is (q ∷ ops) zero o there is_it = ap (λ (c : CodeOp). Some (length c.arguments.items)) (sym is_it)
op_is (q ∷ ops) (suc k) o there is_it = op_is ops k o (omega arith) is_it

-- where values of an operation stand on the stack, it is there, and has so many arguments
pub count_is : (ops : List CodeOp) (k n : ℕ) (o : CodeOp) (stack : List Value) → HasValues (slice_get (counts ops) k) stack → o ≡ slice_index_or ops k o → n ≡ length o.arguments.items → slice_get (counts ops) k ≡ Some n
count_is ops k n o stack has there size = op_is ops k o (has_op ops k stack has) there ∙ ap (λ (m : ℕ). Some m) (sym size)
