-- The values of ends.
use Rattle.std.specs.Prelude.{ℕ, false}
use Rattle.charlotte_calls.specs.declared.names.EndId.{EndId}
use Rattle.charlotte_packets.specs.declared.picture.MovingPicture.{MovingPicture}

-- an end that never moved, whose opposite is at a kernel
abbrev pub new_end : EndId → ℕ → MovingPicture
new_end end opposite_at =
    record {
      end = end;
      hops = 0;
      hint = (opposite_at, 0);
      sent = 0;
      asked = 0;
      served = 0;
      want = 0;
      dead = false;
      trail = 0;
    }
