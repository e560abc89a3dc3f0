-- Threads of a machine do what their sources mean.
use Rattle.std.specs.Prelude.{◌≡◌, ℕ, zero, suc, ◌≤◌, List, Option, Some, slice_get, option_map, unwrap_or}
use Rattle.lynx_tree.specs.Trees.{ModuleTree}
use Rattle.lynx_code.specs.Checked.{IsCheckedCode}
use Rattle.lynx_code.specs.declared.code.Code.{Code}
use Rattle.lynx_meaning.specs.Agree.{IsFitting, Start, actions_of, source}
use Rattle.lynx_meaning.specs.Courses.{Behaviour, Ended, Waits, Out}
use Rattle.lynx_meaning.specs.Source.{PartTree, entry_part_tree, main_tree}
use Rattle.lynx_meaning.specs.Values.{Value, HaveTypes}
use Rattle.code_shapes.specs.Shapes.{code_parts, code_types, program}
use Rattle.compiler_statements.specs.Running.{IsFront}
use Rattle.machine_law.specs.Lives.{Life}
use Rattle.machine_law.specs.Histories.{IsHistory, Move, behind, life_of}
use Rattle.machine_law.specs.Law.{MeansItsCode}

-- the part of this number: the body, and then the entries
abbrev pub part_tree : ModuleTree → ℕ → Option PartTree
part_tree m zero = Some (main_tree m)
part_tree m (suc i) = option_map (entry_part_tree m) (slice_get m.entries i)

-- what the thread was given: the variables of the module are those at its first instruction, or these where it has made none
abbrev pub given_to : List Value → Life → Start
given_to now life = record { globals = unwrap_or life.first now; arguments = life.arguments; answers = life.answers }

-- the source comes to what the thread did, or where the thread goes on its actions begin with those of the thread
abbrev pub DoesSo : Behaviour → Behaviour → Type 0
DoesSo (Ended actions store) o = o ≡ Ended actions store
DoesSo (Waits actions store) o = o ≡ Waits actions store
DoesSo (Out actions) o = IsFront actions (actions_of o)

-- the thread did what its source means
pub record MeansItsSource (m : ModuleTree) (part : PartTree) (now : List Value) (life : Life) : Type 0 where
  pub fits : IsFitting m part (given_to now life)
  -- with each bound on loops that is not below the number of its instructions
  pub does_so : (n : ℕ) → life.made ≤ n → DoesSo life.did (source part (given_to now life) n)

-- Each thread of each history of a machine on checked code: it did what its code means, and what the source of its part means.
abbrev pub ThreadsMeanTheirSources : Type 0
ThreadsMeanTheirSources =
    (made : Code) (from : IsCheckedCode made)
    (globals : List Value) (moves : List Move) (n : ℕ) (life : Life) → HaveTypes made.globals.items globals
    → IsHistory (code_types made) (code_parts made) made.instructions.items globals moves
    → life_of (program (code_types made) made.instructions.items) globals n moves ≡ Some life
    → MeansItsCode (code_types made) (code_parts made) made.instructions.items n
    (behind (program (code_types made) made.instructions.items) globals moves) life
    × ((i : ℕ) × (part : PartTree) × (slice_get (code_parts made) i ≡ Some life.part) × (part_tree from.tree i ≡ Some part)
    × MeansItsSource from.tree part (behind (program (code_types made) made.instructions.items) globals moves).globals life)
