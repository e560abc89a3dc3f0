-- the ends of the values so far
use Rattle.std.proofs.Common.{◌≡◌, take}
use Rattle.arrayvec.specs.ArrayVec.{array_vec_len}
use Rattle.kernel_step.specs.Rows.{ends_in}
use Rattle.kernel_step.proofs.enclosed.ends_in.Given as goal

abbrev pub invariant-loop-value : goal.invariant-loop-value
invariant-loop-value l =
    record {
      ends : l.ends.items ≡ ends_in (take l.value-index l.value-items);
      count : array_vec_len l.ends ≡ l.value-index;
    }
