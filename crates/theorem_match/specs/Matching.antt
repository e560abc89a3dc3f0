-- MATCH, as a part of an event.
use Rattle.std.specs.Prelude.{◌≡◌, ℕ, ◌<◌, true, false, List, [], ◌∷◌, length, None}
use Rattle.charlotte_calls.specs.Names.{opposite}
use Rattle.charlotte_calls.specs.declared.names.EndId.{EndId}
use Rattle.charlotte_packets.specs.declared.picture.PictureWhat.TheVariants as packet
use Rattle.end_table.specs.Table.{IsOfEnd}
use Rattle.end_table.specs.declared.entry.Entry.{Entry}
use Rattle.end_table.specs.declared.entry.Entry.TheVariants as entry
use Rattle.end_table.specs.declared.entry.HereView.{HereView}
use Rattle.end_table.specs.declared.entry.Outward.TheVariants as kernel_outward
use Rattle.kernel_effects.specs.Actions.{left_of}
use Rattle.kernel_effects.specs.Effect.{puts, stays, turns}
use Rattle.kernel_sound.specs.Sound.{AreHeldBy}
use Rattle.kernel_step.specs.Actions.{values_leaving}
use Rattle.service_step.specs.Ends.{is_living}
use Rattle.service_step.specs.State.{State}
use Rattle.theorem_call_send.specs.Change.{Change}
use Rattle.theorem_meaning.specs.Fields.{IsUnserved}
use Rattle.theorem_meaning.specs.Packets.{Links}
use Rattle.theorem_meaning.specs.StandsFor.{entry_at}

-- an end with this view, at kernel k, does not know of the death of its link; its send n waits, and the receive r is asked of it by an
-- opposite that was at kernel j with h hops. The message can go to a kernel: where the opposite lives, that is where it was
pub record IsMatching (w : Links) (s : State) (k : ℕ) (v : HereView) (r j h n : ℕ) (bytes : List ℕ) (xs : List EndId)
    (to : ℕ) : Type 0 where
  pub kernel : k < length s.made
  pub goes : to < length s.made
  pub site : is_living (s.ends (opposite v.value.end)).place ≡ true → to ≡ j
  pub here : entry_at w k v.value.end ≡ entry.Here v
  pub alive : v.value.dead ≡ false
  pub asked : IsUnserved w v.value.end v.value r j h
  pub waits : v.outward ≡ kernel_outward.Waiting n bytes xs
  -- its table keeps each end at its name, and the ends that the message carries are here
  pub own : (e : EndId) → IsOfEnd e (entry_at w k e)
  pub enclosed : AreHeldBy v.value.end (w.entry k) xs

-- a view after its send n was matched with the receive r
abbrev pub served_view : HereView → ℕ → ℕ → HereView
served_view v r n = record v { value = record v.value { served = r; want = 0 }; outward = kernel_outward.Matched n }

-- that, as the part of an event which takes no packet; t is what the kernel keeps of each end before it
abbrev pub matching : Change → (EndId → Entry) → HereView → ℕ → ℕ → List ℕ → List EndId → ℕ → Change
matching c t v r n bytes xs to =
    record c {
      taken = None;
      entry = puts v.value.end (entry.Here (served_view v r n)) (turns xs (left_of to) stays);
      packets = (to, packet.Parcel (opposite v.value.end) n r c.kernel v.value.hops bytes (values_leaving c.kernel t xs)) ∷ [];
    }
