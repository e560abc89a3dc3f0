-- the kernels so far were told
use Rattle.std.proofs.Common.{◌≡◌, take}
use Rattle.std.specs.List.{fold}
use Rattle.charlotte_calls.specs.declared.names.EndId.{EndId}
use Rattle.end_table.specs.declared.entry.Entry.{Entry}
use Rattle.kernel_step.specs.Actions.{forget_at, kernel_numbers}
use Rattle.kernel_step.specs.Progress.{progress, AddsAtMost}
use Rattle.kernel_step.specs.Room.{packets}
use Rattle.kernel_step.proofs.trail.forget.Given as goal

abbrev pub invariant-loop-to : goal.invariant-loop-to
invariant-loop-to l =
    record {
      part : (t : EndId → Entry) → progress t l.out ≡ fold (λ so_far j. forget_at l.kernel l.value j so_far) (progress t l.fn.out) (take l.to-index kernel_numbers);
      room : AddsAtMost (packets l.to-index) l.fn.out l.out;
    }
