-- What is known of the operations of a module.
use Rattle.std.specs.Prelude.{◌≡◌, ℕ, List, map, Some, slice_get}
use Rattle.std.specs.List.{AllByRecursion}
use Rattle.lynx_tree.specs.Trees.{OpTree}
use Rattle.typing_rules.specs.Signatures.{signature_text}
use Rattle.typing_signatures.specs.Facts.{HasFacts}
use Rattle.lynx_meaning.specs.Needs.{op_types}
use Rattle.process_run.specs.States.{Module}

-- Its operations obey the rules for them, and it has their types and signatures.
pub record IsModule (m : Module) : Type 0 where
  pub ops : List OpTree
  pub facts : AllByRecursion HasFacts ops
  pub types : m.types.ops ≡ map op_types ops
  pub signatures : m.signatures ≡ map signature_text ops

-- the operation of this number
pub record IsOpAt (m : Module) (number : ℕ) (op : OpTree) : Type 0 where
  pub facts : HasFacts op
  pub types : slice_get m.types.ops number ≡ Some (op_types op)
  pub signature : slice_get m.signatures number ≡ Some (signature_text op)
