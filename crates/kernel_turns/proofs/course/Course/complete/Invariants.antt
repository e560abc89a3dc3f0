use Rattle.std.proofs.Common.{◌<◌, ℕ, IsSome}
use Rattle.kernel_turns.specs.Courses.{marked_of}
use Rattle.kernel_turns.proofs.course.Course.complete.Given as goal

abbrev pub invariant-loop-from : goal.invariant-loop-from
invariant-loop-from l = record {
  begun : IsSome l.self.begun;
  marked : (from : ℕ) → from < l.from → IsSome (marked_of l.self from);
}
