use Rattle.std.proofs.Common.{◌≡◌, ◌+◌, drop}
use Rattle.typing_rules.specs.Modules.{types_faults}
use Rattle.typing_rules.specs.Progress.{first_with}
use Rattle.lynx_types.proofs.Declarations.{types_left}
use Rattle.lynx_types.proofs.declaration.types.Given as goal

-- what was seen and what is left are the whole
abbrev pub invariant-loop-kind : goal.invariant-loop-kind
invariant-loop-kind l = record {
  at : l.walk.at + types_left (drop l.kind-index l.types) ≡ l.initial.walk.at + types_left l.types;
  first : first_with l.walk.first (types_faults l.walk.at (drop l.kind-index l.types)) ≡ first_with l.initial.walk.first (types_faults l.initial.walk.at l.types);
}
