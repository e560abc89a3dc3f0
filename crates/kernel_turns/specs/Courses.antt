-- What a node keeps for a snapshot.
use Rattle.std.specs.Prelude.{ℕ, ◌<◌, Option, None, IsSome, slice_index_or}
use Rattle.kernel_turns.specs.declared.course.Course.{Course}

-- how long the journal was where the marker of a kernel was got, if it was
abbrev pub marked_of : Course → ℕ → Option ℕ
marked_of c from = slice_index_or c.marked from None

-- the node has begun, and the marker of each of so many kernels was got
pub record IsComplete (kernels : ℕ) (c : Course) : Type 0 where
  pub begun : IsSome c.begun
  pub marked : (from : ℕ) → from < kernels → IsSome (marked_of c from)
