-- A parcel goes back.
use Rattle.std.specs.Prelude.{◌≡◌, ℕ, ◌<◌, false, List, [], ◌∷◌, map, length, Contains, Some}
use Rattle.charlotte_calls.specs.Names.{opposite}
use Rattle.charlotte_calls.specs.declared.names.EndId.{EndId}
use Rattle.charlotte_packets.specs.declared.picture.MovingPicture.{MovingPicture}
use Rattle.charlotte_packets.specs.declared.picture.Picture.{Picture}
use Rattle.charlotte_packets.specs.declared.picture.PictureWhat.TheVariants as packet
use Rattle.end_table.specs.Entries.{left_entry, left_value}
use Rattle.kernel_effects.specs.Effect.{brings, stays}
use Rattle.service_lawful.specs.Consistent.{is_open}
use Rattle.service_step.specs.State.{State}
use Rattle.theorem_effects.specs.Change.{Change}
use Rattle.theorem_meaning.specs.Packets.{Links}

-- a parcel stands in the list from one kernel to kernel k, and the end that it is addressed to is not open
pub record IsReturning (w : Links) (s : State) (k from : ℕ) (q : Picture) (to : EndId) : Type 0 where
  pub kernel : k < length s.made
  pub sender : from < length s.made
  pub there : Contains (w.packets from k) q
  pub closed : is_open (s.ends to) ≡ false

-- it is taken, its values go on with one hop more, and a back with them goes to a kernel
abbrev pub returning : Change → ℕ → Picture → EndId → ℕ → ℕ → List MovingPicture → Change
returning c from q to n at ms =
    record c {
      taken = Some (from, q);
      entry = brings ms (left_entry at) stays;
      packets = (at, packet.Back (opposite to) n (map (left_value c.kernel) ms)) ∷ [];
    }
