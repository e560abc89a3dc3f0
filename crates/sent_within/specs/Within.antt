-- Worlds whose packets go between kernels that are there, and whose stamps are small.
use Rattle.std.specs.Prelude.{◌≡◌, ◌≤◌, ◌⊎◌, ℕ, true, List, [], All}
use Rattle.charlotte_packets.specs.Packets.{is_addressed}
use Rattle.kernel_named.specs.Named.{TableNamesBelow}
use Rattle.kernel_world.specs.World.{World}

-- a world of n kernels after i events
pub record IsWithin (n i : ℕ) (w : World) : Type 0 where
  -- no packet is for or from a kernel that is not there
  pub lists : (from to : ℕ) → (n ≤ from) ⊎ (n ≤ to) → w.packets from to ≡ []
  -- packets and tables name no such kernel
  pub addressed : (from to : ℕ) → All (λ q. is_addressed q.what n ≡ true) (w.packets from to)
  pub tables : (k : ℕ) → TableNamesBelow n (w.kernel k).table
  -- no stamp of a kernel or a packet is greater than the number of events
  pub stamps : (k : ℕ) → (w.kernel k).stamp ≤ i
  pub stamped : (from to : ℕ) → All (λ q. q.stamp ≤ i) (w.packets from to)
