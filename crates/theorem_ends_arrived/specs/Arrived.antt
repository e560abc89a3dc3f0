-- The ends that a message carries come out of its packet: they are here at the kernel that takes it, and one process owns them. The
-- packet and the message stay, without them.
use Rattle.std.specs.Prelude.{◌≡◌, ℕ, ◌≤◌, true, if◌then◌else◌, List, [], Contains, Some, length}
use Rattle.std.specs.List.{list_any}
use Rattle.charlotte_calls.specs.Names.{opposite}
use Rattle.charlotte_calls.specs.declared.names.EndId.{EndId}
use Rattle.charlotte_calls.specs.declared.names.Pid.{Pid}
use Rattle.charlotte_packets.specs.declared.picture.MovingPicture.{MovingPicture}
use Rattle.charlotte_packets.specs.declared.picture.Picture.{Picture}
use Rattle.charlotte_packets.specs.declared.picture.PictureWhat.{PictureWhat}
use Rattle.charlotte_packets.specs.declared.picture.PictureWhat.TheVariants as packet
use Rattle.end_table.specs.Entries.{settled}
use Rattle.end_table.specs.Place.{end_eq}
use Rattle.end_table.specs.Table.{IsHereAnd}
use Rattle.end_table.specs.declared.entry.Entry.{Entry}
use Rattle.end_table.specs.declared.entry.Entry.TheVariants as entry
use Rattle.end_table.specs.declared.entry.Holder.TheVariants as holder
use Rattle.theorem_take_gone.specs.Effect.{brings, stays}
use Rattle.service_lawful.specs.Consistent.{IsConsistent}
use Rattle.service_step.specs.State.{State}
use Rattle.service_step.specs.declared.state.End.{End}
use Rattle.service_step.specs.declared.state.Outward.{Outward}
use Rattle.service_step.specs.declared.state.Outward.TheVariants as outward
use Rattle.service_step.specs.declared.state.Place.TheVariants as place
use Rattle.theorem_take_gone.specs.Change.{Change, Changes}
use Rattle.theorem_meaning.specs.Invariant.{AreRight, is_message_of}
use Rattle.theorem_meaning.specs.Packets.{Links}
use Rattle.theorem_meaning.specs.StandsFor.{AreLinksOf}

-- a packet without the values that it carried
abbrev pub emptied : PictureWhat → PictureWhat
emptied (packet.Parcel to n w at hops bytes ms) = packet.Parcel to n w at hops bytes []
emptied (packet.Back to n ms) = packet.Back to n []
emptied what = what

abbrev pub without_values : Picture → Picture
without_values q = record { stamp = q.stamp; what = emptied q.what }

-- the send of a matched message that carries no ends any more
abbrev pub unladen : Outward → Outward
unladen (outward.Matched m) = outward.Matched (record m { carried = [] })
unladen x = x

-- the ends of the service afterwards, where the message of f carried these
abbrev pub arrived : EndId → List EndId → Pid → (EndId → End) → EndId → End
arrived f xs p t e =
    if end_eq f e then record (t e) { outward = unladen (t e).outward }
    else if list_any (end_eq e) xs then record (t e) { place = place.Owned p } else t e

-- the entries of the kernel afterwards
abbrev pub settles : Pid → List MovingPicture → (EndId → Entry) → EndId → Entry
settles p ms y e = brings ms (λ m. entry.Here (settled (holder.Owner p) m)) stays e (y e)

-- one of these values is of this end
pub record IsAmong (ms : List MovingPicture) (e : EndId) : Type 0 where
  pub value : MovingPicture
  pub there : Contains ms value
  pub of : value.end ≡ e

-- an event takes a packet with the message of f, in links of which all is true that is true after i events
pub record IsLaden (i : ℕ) {w v : Links} {c : Change} (b : Changes w c v) (from : ℕ) (q : Picture) (s : State) (f : EndId) : Type 0 where
  pub taken : c.taken ≡ Some (from, q)
  pub right : AreRight i w s
  pub links : AreLinksOf w s
  pub kept : IsConsistent s
  pub few : length s.made ≤ 8
  pub carries : is_message_of f q.what ≡ true

-- a packet tells the opposite of an end that is here at kernel k where that is
abbrev pub IsTrueMove : Links → ℕ → PictureWhat → Type 0
IsTrueMove w k (packet.Moved to at hops) = (at ≡ k) × IsHereAnd (w.entry k (opposite to)) (λ v. v.value.hops ≡ hops)
IsTrueMove w k _ = ⊥
