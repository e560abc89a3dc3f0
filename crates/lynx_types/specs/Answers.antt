-- What `check` answers.
use Rattle.std.specs.Prelude.{◌≡◌, Result, Ok, Err, ⊤}
use Rattle.lynx_tree.specs.Trees.{ModuleTree, module_tree}
use Rattle.typing_rules.specs.Rules.{Fault}
use Rattle.typing_rules.specs.Modules.{IsFirstFault}
use Rattle.lynx_types.specs.declared.checked.Checked.{Checked}
use Rattle.lynx_types.specs.declared.fault.TypeFault.{TypeFault}
use Rattle.lynx_types.specs.declared.fault.TypeFault.TheVariants as faults

-- the answer is this module, unless memory ran out
abbrev pub GivesModule : ModuleTree → Result Checked TypeFault → Type 0
GivesModule m (Ok checked) = module_tree checked ≡ m
GivesModule m (Err (faults.At place rule)) = ⊥
GivesModule m (Err faults.NoMemory) = ⊤

-- the answer is this fault, unless memory ran out
abbrev pub GivesFault : Fault → Result Checked TypeFault → Type 0
GivesFault fault (Ok checked) = ⊥
GivesFault fault (Err (faults.At place rule)) = record { place = place; rule = rule } ≡ fault
GivesFault fault (Err faults.NoMemory) = ⊤

-- the fault is the first of the module
abbrev pub IsFaultOf : ModuleTree → TypeFault → Type 0
IsFaultOf m (faults.At place rule) = IsFirstFault m (record { place = place; rule = rule })
IsFaultOf m faults.NoMemory = ⊤
