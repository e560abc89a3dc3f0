use Rattle.std.proofs.Common.{◌≡◌, ◌≤◌, ◌-◌, ◌++◌, length, take}
use Rattle.machine_values.specs.Told.{values_of}
use Rattle.machine_stack.proofs.operands.FromTop.gather.Given as goal

-- the values so far, and those that are still to be read
abbrev pub invariant-loop : goal.invariant-loop
invariant-loop l = record {
  got : values_of l.values.items ++ take (l.count - l.counter) l.self ≡ take l.count l.fn.self;
  rest : l.count - l.counter ≤ length l.self;
}
