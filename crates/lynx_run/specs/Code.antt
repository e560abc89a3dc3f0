-- What `code` finds in the bytes of a module.
use Rattle.std.specs.Prelude.{◌≡◌, ℕ, List, Ok, Err}
use Rattle.lynx_code.specs.Listing.{module_listing}
use Rattle.lynx_command.specs.Found.{Found}
use Rattle.lynx_command.specs.Text.{lines_of}
use Rattle.lynx_command.specs.declared.ending.End.TheVariants.{Done}
use Rattle.compiler_source.specs.Compiled.{IsCompiledAs}
use Rattle.lynx_syntax.specs.Trees.{ModuleTree}
use Rattle.lynx_command.specs.Failing.{FailsAs}

-- the lines of the listing of the module that the bytes spell, where it breaks no typing rule and its code is not too long, or their first
-- fault
abbrev pub Codes : List ℕ → Found → Type 0
Codes bytes (Ok output) = (m : ModuleTree) × IsCompiledAs bytes (Ok m) × (output.lines ≡ lines_of (module_listing m)) × (output.end ≡ Done)
Codes bytes (Err failure) = FailsAs (IsCompiledAs bytes) failure
