-- Ends come out of a packet.
use Rattle.std.specs.Prelude.{◌≡◌, ℕ, true, false, List, Contains, Some}
use Rattle.charlotte_calls.specs.Names.{opposite}
use Rattle.charlotte_calls.specs.declared.names.EndId.{EndId}
use Rattle.charlotte_packets.specs.declared.picture.MovingPicture.{MovingPicture}
use Rattle.charlotte_packets.specs.declared.picture.Picture.{Picture}
use Rattle.charlotte_packets.specs.declared.picture.PictureWhat.{PictureWhat}
use Rattle.charlotte_packets.specs.declared.picture.PictureWhat.TheVariants as packet
use Rattle.end_table.specs.Table.{IsHereAnd}
use Rattle.end_table.specs.declared.entry.Entry.TheVariants as entry
use Rattle.end_table.specs.declared.entry.HereView.{HereView}
use Rattle.service_step.specs.Ends.{is_living}
use Rattle.service_step.specs.declared.state.End.{End}
use Rattle.theorem_effects.specs.Change.{Change}
use Rattle.theorem_effects.specs.Sums.{AllSent}
use Rattle.theorem_ends_arrived.specs.Arrived.{IsAmong}
use Rattle.theorem_meaning.specs.Fields.{Flying, HasFields, Stand}
use Rattle.theorem_meaning.specs.Packets.{Links, values_of}
use Rattle.theorem_meaning.specs.StandsFor.{entry_at}
use Rattle.trace_moving.specs.Moving.{IsStill}

-- a packet that carries a message, there or back
abbrev pub IsMessage : PictureWhat → Type 0
IsMessage (packet.Parcel to n w at hops bytes ms) = Unit {0}
IsMessage (packet.Back to n ms) = Unit {0}
IsMessage _ = ⊥

-- the ends of these values live, and each has no other fields; t are the ends of the service
pub record AreCarried (w : Links) (t : EndId → End) (ms : List MovingPicture) : Type 0 where
  pub alone : (e : EndId) (a : IsAmong ms e) (at : Stand) (m : MovingPicture) → HasFields w e at m → (at ≡ Flying) × (m ≡ a.value)
  pub lives : (e : EndId) → IsAmong ms e → is_living (t e).place ≡ true
  pub knows : (e : EndId) (a : IsAmong ms e) → a.value.dead ≡ (t e).noticed

-- a packet to an end tells that its opposite is at kernel j with h hops: it is here at kernel k, and lives
abbrev pub IsSaidOf : Links → (EndId → End) → ℕ → EndId → ℕ → ℕ → Type 0
IsSaidOf u t k to j h = (j ≡ k) × IsHereAnd (entry_at u k (opposite to)) (λ v. v.value.hops ≡ h) × (is_living (t (opposite to)).place ≡ true)

abbrev pub IsSaid : Links → (EndId → End) → ℕ → PictureWhat → Type 0
IsSaid u t k (packet.Want to n j h) = IsSaidOf u t k to j h
IsSaid u t k (packet.Unwant to n j h) = IsSaidOf u t k to j h
IsSaid u t k (packet.Taken to n j h) = IsSaidOf u t k to j h
IsSaid u t k (packet.Moved to j h) = IsSaidOf u t k to j h
IsSaid u t k _ = ⊥

-- an event takes the packet q, and its ends are here then; each that does not know of a death tells its place. Other ends stay; t are the ends of the
-- service before it
pub record IsLanding (w u : Links) (c : Change) (t : EndId → End) (from : ℕ) (q : Picture) : Type 0 where
  pub taken : c.taken ≡ Some (from, q)
  pub message : IsMessage q.what
  pub came : (e : EndId) → IsAmong (values_of q.what) e → (o : HereView) × (a : IsAmong (values_of q.what) e) × (entry_at u c.kernel e ≡ entry.Here o) × (o.value ≡ a.value)
  pub tells : (m : MovingPicture) → Contains (values_of q.what) m → m.dead ≡ false → Contains c.packets (m.hint.0, packet.Moved (opposite m.end) c.kernel m.hops)
  pub others : (e : EndId) → (IsAmong (values_of q.what) e → ⊥) → IsStill c c.kernel e (entry_at w c.kernel e) (entry_at u c.kernel e)
  pub said : AllSent (λ to what. IsSaid u t c.kernel what) c.packets
