-- Which ends an event may change.
use Rattle.std.specs.Prelude.{ℕ, List, [], ◌∷◌, ◌++◌}
use Rattle.charlotte_calls.specs.Names.{opposite}
use Rattle.charlotte_calls.specs.declared.calls.Call.{Call}
use Rattle.charlotte_calls.specs.declared.calls.Call.TheVariants as call
use Rattle.charlotte_calls.specs.declared.names.EndId.{EndId}
use Rattle.charlotte_packets.specs.declared.picture.PictureWhat.{PictureWhat}
use Rattle.end_table.specs.declared.entry.Entry.{Entry}
use Rattle.end_table.specs.declared.entry.Entry.TheVariants as entry
use Rattle.kernel_effects.specs.Calls.{ended_list}
use Rattle.kernel_effects.specs.Rows.{values_in}
use Rattle.kernel_sound.specs.Sound.{addressee}
use Rattle.kernel_step.specs.Actions.{enclosed_of}
use Rattle.kernel_step.specs.Calls.{made_end}
use Rattle.kernel_step.specs.Rows.{ends_in}

-- the ends that a message encloses that waits at an entry
abbrev pub enclosed_at : Entry → List EndId
enclosed_at entry.Nothing = []
enclosed_at (entry.Here v) = enclosed_of v.outward
enclosed_at (entry.Left to hops) = []
enclosed_at (entry.Destroyed m) = []

-- a packet changes the end that it is addressed to, those that its waiting message encloses, and those that it brings
abbrev pub row_ends : (EndId → Entry) → PictureWhat → List EndId
row_ends t what = addressee what ∷ enclosed_at (t (addressee what)) ++ ends_in (values_in what)

-- a call changes the end that it is on, and those that its message encloses; an Exit the ends of its process and theirs
abbrev pub act_ends : ℕ → ℕ → List EndId → (EndId → Entry) → Call → List EndId
act_ends k made mine t call.Make = made_end k made ∷ opposite (made_end k made) ∷ []
act_ends k made mine t (call.Destroy on) = on ∷ enclosed_at (t on)
act_ends k made mine t (call.Send on bytes xs) = on ∷ xs
act_ends k made mine t (call.Receive on) = on ∷ []
act_ends k made mine t (call.Cancel on w) = on ∷ enclosed_at (t on)
act_ends k made mine t call.Wait = []
act_ends k made mine t (call.Print bytes) = []
act_ends k made mine t call.Exit = ended_list t mine
