-- The message of a send that is matched leaves with the ends that it carries.
use Rattle.std.specs.Prelude.{◌≡◌, ℕ, ◌<◌, ◌≤◌, true, List, [], ◌∷◌, length, None}
use Rattle.charlotte_calls.specs.Names.{opposite}
use Rattle.charlotte_calls.specs.declared.names.EndId.{EndId}
use Rattle.charlotte_calls.specs.declared.names.Pid.{Pid}
use Rattle.charlotte_packets.specs.declared.picture.PictureWhat.TheVariants as packet
use Rattle.end_table.specs.Table.{IsHereAnd, IsOfEnd}
use Rattle.end_table.specs.declared.entry.Entry.{Entry}
use Rattle.end_table.specs.declared.entry.Entry.TheVariants as entry
use Rattle.end_table.specs.declared.entry.HereView.{HereView}
use Rattle.end_table.specs.declared.entry.Outward.TheVariants as kernel_outward
use Rattle.kernel_effects.specs.Actions.{left_of}
use Rattle.kernel_effects.specs.Effect.{puts, stays, turns}
use Rattle.kernel_sound.specs.Sound.{AreHeldBy}
use Rattle.kernel_step.specs.Actions.{values_leaving}
use Rattle.service_step.specs.Ends.{is_living, is_made}
use Rattle.service_step.specs.State.{State}
use Rattle.service_step.specs.declared.state.Inward.TheVariants as inward
use Rattle.service_step.specs.declared.state.Outward.TheVariants as outward
use Rattle.service_step.specs.declared.state.Place.TheVariants as place
use Rattle.theorem_call_send.specs.Change.{Change}
use Rattle.theorem_meaning.specs.Fields.{IsAskedAs, IsUnserved}
use Rattle.theorem_meaning.specs.Packets.{Links}
use Rattle.theorem_meaning.specs.StandsFor.{entry_at}

-- the send n of an end at kernel k, which carries xs, is matched with the receive r, and its message goes to a kernel: what is true before
pub record IsSending (w : Links) (s : State) (k : ℕ) (v : HereView) (r n : ℕ) (bytes : List ℕ) (xs : List EndId) (to : ℕ) : Type 0 where
  pub kernel : k < length s.made
  pub goes : to < length s.made
  pub here : entry_at w k v.value.end ≡ entry.Here v
  -- the send waits, here and in the service, and its ends are here
  pub waits : v.outward ≡ kernel_outward.Waiting n bytes xs
  pub message : (s.ends v.value.end).outward ≡ outward.Waiting (record { bytes = bytes; carried = xs })
  pub number : (s.ends v.value.end).sent ≡ n
  pub owner : Pid
  pub owned : (s.ends v.value.end).place ≡ place.Owned owner
  pub own : (e : EndId) → IsOfEnd e (entry_at w k e)
  pub enclosed : AreHeldBy v.value.end (w.entry k) xs
  -- nothing is asked of the end that it did not count as served
  pub served : r ≤ v.value.served
  pub none : (q j h : ℕ) → IsUnserved w v.value.end v.value q j h → ⊥
  -- the receive of its opposite is posted, is the one that is served, and stands where the message goes
  pub made : is_made (s.ends (opposite v.value.end)).place ≡ true
  pub posted : (s.ends (opposite v.value.end)).inward ≡ inward.Posted
  pub last : (j q : ℕ) (x : HereView) → entry_at w j (opposite v.value.end) ≡ entry.Here x → IsAskedAs q x.inward → q ≡ r
  pub meets : is_living (s.ends (opposite v.value.end)).place ≡ true
      → IsHereAnd (entry_at w to (opposite v.value.end)) (λ x. IsAskedAs r x.inward)

-- a view after its send n was matched
abbrev pub sent_view : HereView → ℕ → HereView
sent_view v n = record v { outward = kernel_outward.Matched n }

-- the part of an event in which it goes; t is what the kernel keeps of each end before it
abbrev pub departing : Change → (EndId → Entry) → HereView → ℕ → ℕ → List ℕ → List EndId → ℕ → Change
departing c t v r n bytes xs to =
    record c {
      taken = None;
      entry = puts v.value.end (entry.Here (sent_view v n)) (turns xs (left_of to) stays);
      packets = (to, packet.Parcel (opposite v.value.end) n r c.kernel v.value.hops bytes (values_leaving c.kernel t xs)) ∷ [];
    }
