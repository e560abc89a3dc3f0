-- What an event does with a node's kernel, journal and outbox.
use Rattle.std.specs.Prelude.{◌≡◌, ℕ, ◌+◌, ◌^◌, ◌<◌, ◌≤◌, List, [], ◌∷◌, ◌++◌, length}
use Rattle.charlotte_calls.specs.declared.names.Pid.{Pid}
use Rattle.kernel_core.specs.State.{state_of}
use Rattle.kernel_named.specs.Named.{GoWithin}
use Rattle.kernel_net.specs.Ports.{kernels_of, place_of}
use Rattle.kernel_world.specs.World.{to_kernel}
use Rattle.program_runs.specs.Local.{LocalEvent, entry_of, gives}
use Rattle.kernel_turns.specs.declared.base.Base.{Base}
use Rattle.kernel_outbox.specs.Letters.{outbox_to}
use Rattle.kernel_turns.specs.Letters.{packets, told}

-- its outbox has lists and packets just for kernels of its port
pub record FitsPort (b : Base) : Type 0 where
  pub lists : length b.outbox.waiting.items ≤ kernels_of (place_of b.port)
  pub within : GoWithin (kernels_of (place_of b.port)) b.outbox.unsent.items

-- an event happened, in which these processes were answered: it is noted, its packets go out, and it used a turn
pub record Happens (o : LocalEvent) (old new : Base) (who : List Pid) : Type 0 where
  pub kernel : state_of new.kernel ≡ (gives (state_of old.kernel) o).kernel
  pub processes : length new.kernel.processes ≡ length old.kernel.processes
  pub kernels : new.kernel.kernels ≡ old.kernel.kernels
  pub noted : new.journal.entries ≡ old.journal.entries ++ entry_of (state_of old.kernel) o ∷ []
  -- no more packets than a list holds
  pub few : length (gives (state_of old.kernel) o).packets < 2 ^ 63
  pub sent : (to : ℕ) → told (outbox_to new.outbox to) ≡ told (outbox_to old.outbox to) ++ packets (to_kernel to (gives (state_of old.kernel) o).packets)
  -- they go to kernels that are there, and no list is made for them
  pub within : GoWithin new.kernel.kernels new.outbox.unsent.items
  pub lists : length new.outbox.waiting.items ≡ length old.outbox.waiting.items
  pub answered : who ≡ (gives (state_of old.kernel) o).answered
  pub used : new.used ≡ old.used + 1
  pub port : new.port ≡ old.port
  pub course : new.course ≡ old.course
  pub orders : new.orders ≡ old.orders
