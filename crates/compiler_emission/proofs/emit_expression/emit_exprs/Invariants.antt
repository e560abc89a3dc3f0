use Rattle.std.proofs.Common.{◌≡◌, ◌++◌, length, drop}
use Rattle.compiler_emission.specs.Tables.{names_in}
use Rattle.compiler_emission.proofs.Emitting.{each}
use Rattle.compiler_emission.proofs.Loops.{value_here}
use Rattle.compiler_emission.proofs.emit_expression.emit_exprs.Given as goal

-- what is added and what is left to add are the whole
abbrev pub invariant-loop-value : goal.invariant-loop-value
invariant-loop-value l =
    l.code.items ++ each (value_here (names_in l.names)) (length l.code.items) (drop l.value-index l.values) ≡ l.initial.code.items ++ each (value_here (names_in l.names)) (length l.initial.code.items) l.values
