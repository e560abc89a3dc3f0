-- What an end keeps of the receives of its opposite changes.
use Rattle.std.specs.Prelude.{◌≡◌, ℕ, ◌<◌, true, None}
use Rattle.charlotte_calls.specs.Names.{opposite}
use Rattle.charlotte_calls.specs.declared.names.EndId.{EndId}
use Rattle.charlotte_packets.specs.declared.picture.MovingPicture.{MovingPicture}
use Rattle.charlotte_packets.specs.declared.picture.PictureWhat.{PictureWhat}
use Rattle.charlotte_packets.specs.declared.picture.PictureWhat.TheVariants as packet
use Rattle.end_table.specs.declared.entry.Entry.TheVariants as entry
use Rattle.end_table.specs.declared.entry.HereView.{HereView}
use Rattle.kernel_effects.specs.Effect.{puts, stays}
use Rattle.service_lawful.specs.Consistent.{is_open}
use Rattle.service_step.specs.State.{State}
use Rattle.service_step.specs.declared.state.End.{End}
use Rattle.theorem_take_silent.specs.Change.{Change}
use Rattle.theorem_take_silent.specs.Sums.{AllSent}
use Rattle.theorem_meaning.specs.Packets.{Links}

-- a value differs from another at most in what it keeps of the receives of the opposite end
abbrev pub IsLike : MovingPicture → MovingPicture → Type 0
IsLike m l = l ≡ record m { served = l.served; want = l.want }

-- an unwanted that tells the opposite of an end where that end is, at kernel k
abbrev pub IsVoidOf : ℕ → HereView → PictureWhat → Type 0
IsVoidOf k v (packet.Unwanted to w at hops) = (to ≡ opposite v.value.end) × (at ≡ k) × (hops ≡ v.value.hops)
IsVoidOf k v _ = ⊥

-- an event of n kernels that takes no packet and sends at most unwanteds: the end of a view, which is open, keeps these fields
-- instead; of the service, s before it, activities inward change alone, and t are its ends afterwards
pub record IsAnew (n : ℕ) (w : Links) (s : State) (c : Change) (t : EndId → End) (v : HereView) (l : MovingPicture) : Type 0 where
  pub kernel : c.kernel < n
  pub taken : c.taken ≡ None
  pub sent : AllSent (λ to what. (to < n) × IsVoidOf c.kernel v what) c.packets
  pub put : (e : EndId)
      → c.entry e (w.entry c.kernel e) ≡ puts v.value.end (entry.Here (record v { value = l })) stays e (w.entry c.kernel e)
  pub here : w.entry c.kernel v.value.end ≡ entry.Here v
  pub like : IsLike v.value l
  pub opened : is_open (s.ends v.value.end) ≡ true
  pub ends : (q : EndId) → t q ≡ record (s.ends q) { inward = (t q).inward }
