-- A run told in the order of a merge.
use Rattle.std.specs.Prelude.{◌≡◌, ℕ, List}
use Rattle.charlotte_calls.specs.declared.setting.Setting.{Setting}
use Rattle.kernel_entries.specs.Order.{of_kernel}
use Rattle.kernel_world.specs.Run.{IsRecord}
use Rattle.kernel_world.specs.World.{Event, after, noted, start}
use Rattle.kernel_entries.specs.declared.entry.Placed.{Placed}

-- this record tells the events of a run: each kernel has the same entries in the same order, and the world that is left is the same
pub record IsRecordOf (s : Setting) (es : List Event) (merged : List Placed) : Type 0 where
  -- the same events in the order of a merge
  pub run : List Event
  pub recorded : IsRecord s run merged
  pub same : (k : ℕ) → of_kernel k merged ≡ of_kernel k (noted (start s) es)
  pub leaves : after (start s) run ≡ after (start s) es
