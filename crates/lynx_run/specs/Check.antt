-- What `check` finds in the bytes of a module.
use Rattle.std.specs.Prelude.{◌≡◌, ℕ, List, [], ◌∷◌, ◌++◌, Ok, Err, codes}
use Rattle.lynx_command.specs.Found.{Found}
use Rattle.lynx_command.specs.Text.{line}
use Rattle.lynx_command.specs.declared.ending.End.TheVariants.{Done}
use Rattle.lynx_source.specs.Sources.{IsCheckedAs}
use Rattle.lynx_syntax.specs.Trees.{ModuleTree}
use Rattle.lynx_command.specs.Failing.{FailsAs}

-- the line for a module of this name
abbrev pub checked_text : List ℕ → List ℕ
checked_text name = line (codes "ok " ++ name)

-- the one line of the module that the bytes spell, where it breaks no typing rule, or their first fault
abbrev pub Checks : List ℕ → Found → Type 0
Checks bytes (Ok output) = (m : ModuleTree) × IsCheckedAs bytes (Ok m) × (output.lines ≡ checked_text m.name ∷ []) × (output.end ≡ Done)
Checks bytes (Err failure) = FailsAs (IsCheckedAs bytes) failure
