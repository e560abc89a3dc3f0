-- A send begins and waits: what becomes of links, and of the state of the service.
use Rattle.std.specs.Prelude.{◌≡◌, ℕ, true, false, nat_eq, List}
use Rattle.charlotte_calls.specs.declared.names.EndId.{EndId}
use Rattle.charlotte_calls.specs.declared.names.Pid.{Pid}
use Rattle.end_table.specs.Entries.{gains_one}
use Rattle.end_table.specs.Table.{IsHereAnd, IsIdle}
use Rattle.end_table.specs.declared.entry.Entry.TheVariants as entry
use Rattle.end_table.specs.declared.entry.HereView.{HereView}
use Rattle.end_table.specs.declared.entry.Holder.TheVariants as holder
use Rattle.end_table.specs.declared.entry.Outward.TheVariants as kernel_outward
use Rattle.kernel_effects.specs.Actions.{held_entry}
use Rattle.kernel_effects.specs.Calls.{sending_view}
use Rattle.kernel_effects.specs.Effect.{puts, stays, turns}
use Rattle.service_step.specs.Ends.{starts_send}
use Rattle.service_step.specs.State.{State}
use Rattle.theorem_meaning.specs.Packets.{Links}
use Rattle.theorem_meaning.specs.StandsFor.{entry_at, home_of}
use Rattle.theorem_call_send.specs.Regrouped.{is_among}

-- process p of kernel k starts a send of these bytes on an end that it owns, whose view is v; it encloses xs
pub record IsBeginning (w u : Links) (s : State) (k : ℕ) (p : Pid) (v : HereView) (bytes : List ℕ) (xs : List EndId) : Type 0 where
  pub here : entry_at w k v.value.end ≡ entry.Here v
  pub owner : v.holder ≡ holder.Owner p
  pub idle : v.outward ≡ kernel_outward.Idle
  pub at : home_of s p ≡ k
  -- the ends that it encloses are others that p owns, and idle
  pub free : (f : EndId) → is_among xs f ≡ true → IsHereAnd (entry_at w k f) (λ y. IsIdle y × (y.holder ≡ holder.Owner p))
  pub apart : is_among xs v.value.end ≡ false
  -- entries and packets afterwards
  pub entries : (f : EndId)
      → entry_at u k f
      ≡ puts v.value.end (entry.Here (sending_view v bytes xs)) (turns xs (held_entry (holder.EnclosedIn v.value.end)) stays) f
      (entry_at w k f)
  pub others : (j : ℕ) (f : EndId) → nat_eq j k ≡ false → entry_at u j f ≡ entry_at w j f
  pub packets : (from to : ℕ) → u.packets from to ≡ w.packets from to

-- the state of the service afterwards
abbrev pub begun : State → HereView → List ℕ → List EndId → State
begun s v bytes xs = record s { ends = starts_send v.value.end (gains_one v.value.sent) (record { bytes = bytes; carried = xs }) s.ends }
