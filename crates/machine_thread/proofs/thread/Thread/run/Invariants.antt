use Rattle.std.proofs.Common.{◌+◌, ◌*◌, if◌then◌else◌}
use Rattle.machine_turns.specs.Threads.{Went, is_fresh}
use Rattle.machine_steps.specs.Operands.{HasCome, StaysReady}
use Rattle.machine_thread.specs.Programs.{program_of}
use Rattle.machine_thread.proofs.thread.Thread.run.Given as goal

-- so far the thread has gone on
abbrev pub invariant-instructions : goal.invariant-instructions
invariant-instructions l = record {
  ready : StaysReady (program_of l.code) l.globals l.self;
  come : HasCome (program_of l.code) l.fuel l.fn.globals l.fn.self l.left (Went l.globals l.self);
}

-- each takes fuel, or is given something and then takes fuel
abbrev pub decreases-instructions : goal.decreases-instructions
decreases-instructions l = 2 * l.left + (if is_fresh l.self then 0 else 1)
