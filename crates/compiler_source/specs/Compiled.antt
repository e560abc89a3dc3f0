-- What a source is compiled as: the tree of the module that has the code, or the first fault.
use Rattle.std.specs.Prelude.{◌≡◌, ◌⊎◌, ◌<◌, ◌≤◌, ℕ, List, length, Result, Ok, Err}
use Rattle.lynx_code.specs.Modules.{module_code, IsCodeOf}
use Rattle.lynx_code.specs.declared.code.Code.{Code}
use Rattle.lynx_source.specs.Sources.{Checks}
use Rattle.lynx_source.specs.Stages.{Then}
use Rattle.lynx_source.specs.declared.fault.SourceFault.{SourceFault}
use Rattle.lynx_source.specs.declared.fault.SourceFault.TheVariants.{CodeTooLong, NoMemory}
use Rattle.lynx_threads.specs.Agreement.{AgreesWithSource}
use Rattle.compiler_emission.specs.declared.fault.CompileFault.{CompileFault}
use Rattle.compiler_emission.specs.declared.fault.CompileFault.TheVariants as compile
use Rattle.lynx_tree.specs.Trees.{ModuleTree}

-- the fourth stage: the same tree where its code has no more instructions than code may have, or that it has more
abbrev pub IsMeasuredAs : ModuleTree → Result ModuleTree SourceFault → Type 0
IsMeasuredAs m outcome =
    ((length (module_code m) ≤ 65535) × (outcome ≡ Ok m))
    ⊎ ((65535 < length (module_code m)) × (outcome ≡ Err CodeTooLong))

-- A source is compiled as the tree of its tokens where that breaks no typing rule and its code is not too long, or as its first fault.
abbrev pub Compiles : List ℕ → Result ModuleTree SourceFault → Type 0
Compiles source = Then (Checks source) IsMeasuredAs

-- the same, or want of memory, which comes at any source
abbrev pub IsCompiledAs : List ℕ → Result ModuleTree SourceFault → Type 0
IsCompiledAs source outcome = Compiles source outcome ⊎ (outcome ≡ Err NoMemory)

-- what a call gives: the code of the tree that the source is compiled as, which does what the source means, or the fault
abbrev pub GivesCode : List ℕ → Result Code SourceFault → Type 0
GivesCode source (Ok code) = (m : ModuleTree) × IsCompiledAs source (Ok m) × IsCodeOf m code × AgreesWithSource m code
GivesCode source (Err fault) = IsCompiledAs source (Err fault)

-- why a module that breaks no typing rule has no code
abbrev pub source_fault : CompileFault → SourceFault
source_fault compile.CodeTooLong = CodeTooLong
source_fault compile.NoMemory = NoMemory
