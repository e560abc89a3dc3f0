-- Code does what the source of its module means.
use Rattle.std.specs.Prelude.{◌≡◌, ℕ, suc, length, map, Some, slice_get}
use Rattle.lynx_tree.specs.Trees.{EntryTree, ModuleTree}
use Rattle.lynx_code.specs.declared.code.Code.{Code}
use Rattle.lynx_code.specs.declared.code.CodeOp.{CodeOp}
use Rattle.lynx_code.specs.declared.code.Part.{Part}
use Rattle.lynx_meaning.specs.Agree.{Agrees}
use Rattle.lynx_meaning.specs.Code.{Program, program_of}
use Rattle.lynx_meaning.specs.Source.{main_tree, entry_part_tree}

-- what a thread of this code runs
abbrev pub program_in : Code → Program
program_in made =
    record { instructions = made.instructions.items; arguments = map (λ (op : CodeOp). length op.arguments.items) made.ops.items }

-- it runs the program of the module, and each part of it, from its start on, agrees with the source of that part
pub record AgreesWithSource (m : ModuleTree) (made : Code) : Type 0 where
  pub program : program_in made ≡ program_of m
  pub body : (p : Part) → slice_get made.parts.items 0 ≡ Some p → Agrees m (main_tree m) p.start
  pub entries : (i : ℕ) (e : EntryTree) (p : Part) → slice_get m.entries i ≡ Some e → slice_get made.parts.items (suc i) ≡ Some p
      → Agrees m (entry_part_tree m e) p.start
