-- Failures of commands that read a module.
use Rattle.std.specs.Prelude.{Result, Err}
use Rattle.lynx_command.specs.declared.failure.Failure.{Failure}
use Rattle.lynx_command.specs.declared.failure.Failure.TheVariants.{Lex, Syntax, Deep, Rule, CodeTooLong, NoMemory}
use Rattle.lynx_source.specs.declared.fault.SourceFault.{SourceFault}
use Rattle.lynx_source.specs.declared.fault.SourceFault.TheVariants as fault
use Rattle.lynx_tree.specs.Trees.{ModuleTree}

-- a fault is told as the failure of its name, where the relation has it as the outcome of a source; want of memory comes at any source
abbrev pub FailsAs : (Result ModuleTree SourceFault → Type 0) → Failure → Type 0
FailsAs Is (Lex at number) = Is (Err (fault.Lex at number))
FailsAs Is (Syntax at) = Is (Err (fault.Syntax at))
FailsAs Is (Deep at) = Is (Err (fault.Deep at))
FailsAs Is (Rule at number) = Is (Err (fault.Rule at number))
FailsAs Is CodeTooLong = Is (Err fault.CodeTooLong)
FailsAs Is NoMemory = Unit {0}
FailsAs Is failure = ⊥
