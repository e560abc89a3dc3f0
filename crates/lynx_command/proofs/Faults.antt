-- A fault of a source is told as the failure of a command.
use Rattle.std.proofs.Common.{Result, Err}
use Rattle.lynx_command.specs.Failures.{failure_of_source}
use Rattle.lynx_source.specs.declared.fault.SourceFault.{SourceFault}
use Rattle.lynx_source.specs.declared.fault.SourceFault.TheVariants as faults
use Rattle.lynx_tree.specs.Trees.{ModuleTree}
use Rattle.lynx_command.specs.Failing.{FailsAs}

pub fault_told : (Is : Result ModuleTree SourceFault → Type 0) (fault : SourceFault) → Is (Err fault) → FailsAs Is (failure_of_source fault)
fault_told Is (faults.Lex at number) h = h
fault_told Is (faults.Syntax at) h = h
fault_told Is (faults.Deep at) h = h
fault_told Is (faults.Rule at number) h = h
fault_told Is faults.CodeTooLong h = h
fault_told Is faults.NoMemory h = tt
