-- Events by which an end may hear where its opposite is. No end moves, is made or destroyed, nothing is erased, and no trail is cleared.
use Rattle.std.specs.Prelude.{◌≡◌, ℕ, ◌<◌, ◌≤◌, ◌⊎◌, true, [], Contains, IfSome, Some}
use Rattle.charlotte_calls.specs.Names.{opposite}
use Rattle.charlotte_calls.specs.declared.names.EndId.{EndId}
use Rattle.charlotte_packets.specs.declared.picture.MovingPicture.{MovingPicture}
use Rattle.charlotte_packets.specs.declared.picture.PictureWhat.{PictureWhat}
use Rattle.charlotte_packets.specs.declared.picture.PictureWhat.TheVariants as packet
use Rattle.end_table.specs.Table.{IsHereAnd}
use Rattle.end_table.specs.declared.entry.Entry.{Entry}
use Rattle.end_table.specs.declared.entry.Entry.TheVariants as entry
use Rattle.end_table.specs.declared.entry.HereView.{HereView}
use Rattle.service_lawful.specs.Consistent.{is_open}
use Rattle.service_step.specs.Ends.{is_living}
use Rattle.service_step.specs.declared.state.End.{End}
use Rattle.theorem_effects.specs.Change.{Change}
use Rattle.theorem_effects.specs.Sums.{AllSent}
use Rattle.theorem_effects.specs.Under.{IsSent, IsTaken}
use Rattle.theorem_meaning.specs.Fields.{HasFields, IsNews, IsUnserved, Stand, value_of}
use Rattle.theorem_meaning.specs.Packets.{Links, values_of}
use Rattle.theorem_meaning.specs.StandsFor.{entry_at}
use Rattle.trace_calm.specs.Quiet.{tells_place}
use Rattle.trace_calm.specs.Had.{HasSome}
use Rattle.trace_meaning.specs.Words.{HasChain, IsGoingTo, IsGoneFrom, IsKnownOf, IsMovedTo}

-- a value stays but for counts, for what was heard, and for what is asked of it
abbrev pub IsTaught : MovingPicture → MovingPicture → Type 0
IsTaught m l = l ≡ record m { hint = l.hint; sent = l.sent; asked = l.asked; want = l.want; served = l.served }

-- an entry stays as it is, but for what an end that is here, or a mark, hears and counts
abbrev pub IsMildly : Entry → Entry → Type 0
IsMildly entry.Nothing entry.Nothing = Unit {0}
IsMildly (entry.Here v) (entry.Here u) = IsTaught v.value u.value
IsMildly (entry.Left to hops) (entry.Left there more) = (there ≡ to) × (more ≡ hops)
IsMildly (entry.Destroyed m) (entry.Destroyed l) = IsTaught m l
IsMildly _ _ = ⊥

-- the hint of e rises by what the packet tells that was taken
abbrev pub IsRaised : Change → EndId → MovingPicture → MovingPicture → Type 0
IsRaised c e m l = IsTaken c (IsNews e l.hint.0 l.hint.1) × (m.hint.1 < l.hint.1)

-- a packet is a known or a gone, or tells of an end that is here where it is
abbrev pub IsTrueNews : Links → PictureWhat → Type 0
IsTrueNews w (packet.Want to n j h) = IsHereAnd (entry_at w j (opposite to)) (λ v. v.value.hops ≡ h)
IsTrueNews w (packet.Unwant to n j h) = IsHereAnd (entry_at w j (opposite to)) (λ v. v.value.hops ≡ h)
IsTrueNews w (packet.Unwanted to n j h) = IsHereAnd (entry_at w j (opposite to)) (λ v. v.value.hops ≡ h)
IsTrueNews w (packet.Moved to j h) = IsHereAnd (entry_at w j (opposite to)) (λ v. v.value.hops ≡ h)
IsTrueNews w (packet.Known to h) = Unit {0}
IsTrueNews w (packet.Gone to j) = Unit {0}
IsTrueNews w _ = ⊥

-- by such an event links w become u; t are the ends of the service before it
pub record IsHearing (w u : Links) (c : Change) (t : EndId → End) : Type 0 where
  pub entries : (k : ℕ) (e : EndId) → IsMildly (entry_at w k e) (entry_at u k e)
  pub hints : (k : ℕ) (e : EndId) (m l : MovingPicture) → value_of (entry_at w k e) ≡ Some m → value_of (entry_at u k e) ≡ Some l
      → (l.hint ≡ m.hint) ⊎ IsRaised c e m l
  -- the packet that is taken tells where an end is, and brings none; so do those that are sent, but a known or a gone
  pub tells : IfSome c.taken (λ q. tells_place q.1.what ≡ true)
  pub bare : IfSome c.taken (λ q. values_of q.1.what ≡ [])
  pub sent_bare : AllSent (λ to what. values_of what ≡ []) c.packets
  pub sent : AllSent (λ to what. IsTrueNews w what) c.packets
  -- known is told of what the opposite has heard, and a gone comes from the mark
  pub known : (e : EndId) (h : ℕ) (at : Stand) (m : MovingPicture) → IsSent c (IsKnownOf e h) → HasFields u (opposite e) at m → h ≤ m.hint.1
  pub gone : (e : EndId) (d j : ℕ) (m : MovingPicture) → entry_at w d e ≡ entry.Destroyed m → IsSent c (IsGoneFrom (opposite e) j) → j ≡ d
  -- what is asked of the opposite of a mark was asked before, or was asked from there
  pub asked : (e : EndId) (d : ℕ) (m : MovingPicture) (at : Stand) (l : MovingPicture) (n j h : ℕ) → entry_at w d e ≡ entry.Destroyed m
      → is_open (t (opposite e)) ≡ true
      → HasFields u (opposite e) at l
      → IsUnserved u (opposite e) l n j h
      → HasSome w (opposite e) (λ o. IsUnserved w (opposite e) o n j h) ⊎ ((j ≡ d) × (h ≡ m.hops))
  -- where the hint rises of an end with a trail, or of a mark, its place is told anew
  pub announced : (e : EndId) (k : ℕ) (v x : HereView) → entry_at w k e ≡ entry.Here v → entry_at u k e ≡ entry.Here x
      → IsRaised c e v.value x.value
      → (x.value.trail ≡ 0 → ⊥)
      → Contains c.packets (x.value.hint.0, packet.Moved (opposite e) k x.value.hops)
  pub mourned : (e : EndId) (d : ℕ) (m l : MovingPicture) → entry_at w d e ≡ entry.Destroyed m → entry_at u d e ≡ entry.Destroyed l
      → IsRaised c e m l
      → Contains c.packets (l.hint.0, packet.Gone (opposite e) d)
  -- a moved that is taken by a living end is answered
  pub moved : (e : EndId) (k : ℕ) (v : HereView) → entry_at w k e ≡ entry.Here v → is_living (t (opposite e)).place ≡ true
      → IsTaken c (IsMovedTo (opposite e) k v.value.hops)
      → HasChain u (opposite e) c.kernel v.value.hint.1
      → IsGoingTo u k (IsKnownOf e v.value.hops)
