-- Events by which no end moves, learns, is made or destroyed: entries keep all that the clauses on traces speak of, but that what ends left
-- behind may be erased; and packets are passed on, ask for a receive of an end that is here, or take away what ends left behind.
use Rattle.std.specs.Prelude.{◌≡◌, ℕ, ◌≤◌, ◌⊎◌, true, false, nat_eq, nat_le, [], IfSome, None}
use Rattle.charlotte_calls.specs.Names.{opposite}
use Rattle.charlotte_calls.specs.declared.calls.Call.{Call}
use Rattle.charlotte_calls.specs.declared.calls.Call.TheVariants as call
use Rattle.charlotte_calls.specs.declared.names.EndId.{EndId}
use Rattle.charlotte_packets.specs.declared.picture.MovingPicture.{MovingPicture}
use Rattle.charlotte_packets.specs.declared.picture.PictureWhat.{PictureWhat}
use Rattle.charlotte_packets.specs.declared.picture.PictureWhat.TheVariants as packet
use Rattle.end_table.specs.Table.{IfHere, IsHereAnd}
use Rattle.end_table.specs.declared.entry.Entry.{Entry}
use Rattle.end_table.specs.declared.entry.Entry.TheVariants as entry
use Rattle.end_table.specs.declared.entry.HereView.{HereView}
use Rattle.end_table.specs.declared.entry.Inward.{Inward}
use Rattle.end_table.specs.declared.entry.Inward.TheVariants as inward
use Rattle.kernel_step.specs.Rows.{awaits}
use Rattle.service_lawful.specs.Consistent.{is_open}
use Rattle.service_step.specs.Ends.{is_living}
use Rattle.service_step.specs.declared.state.End.{End}
use Rattle.service_step.specs.declared.state.Place.TheVariants as place
use Rattle.trace_events.specs.Change.{Change}
use Rattle.trace_events.specs.Sums.{AllSent}
use Rattle.trace_events.specs.Under.{IsSent, IsTaken}
use Rattle.theorem_meaning.specs.Fields.{HasFields, Stand}
use Rattle.theorem_meaning.specs.Packets.{Links, values_of}
use Rattle.theorem_meaning.specs.StandsFor.{entry_at}
use Rattle.trace_meaning.specs.Traces.{IsToForget, IsTrailed}
use Rattle.trace_meaning.specs.Words.{HasChain, IsForgetOf, IsGoingTo, IsGoneFrom, IsGoneSeen, IsKnownOf, IsMovedTo, IsOnTrack, IsSought}

-- ---- ends of the service

-- which ends live, and know of the death of their link, is as it was, and what was destroyed is
pub record AreAsOpen (old now : EndId → End) : Type 0 where
  pub living : (e : EndId) → is_living (now e).place ≡ is_living (old e).place
  pub noticed : (e : EndId) → (now e).noticed ≡ (old e).noticed
  pub destroyed : (e : EndId) → (old e).place ≡ place.Destroyed → (now e).place ≡ place.Destroyed

-- ---- entries

-- a value stays but for the counts of sends and receives; and but for its trail
abbrev pub IsCounted : MovingPicture → MovingPicture → Type 0
IsCounted m l = l ≡ record m { sent = l.sent; asked = l.asked }

abbrev pub IsRetired : MovingPicture → MovingPicture → Type 0
IsRetired m l = l ≡ record m { sent = l.sent; asked = l.asked; trail = l.trail }

-- an entry stays; of an end that is here, its value does so
abbrev pub IsSteadily : Entry → Entry → Type 0
IsSteadily entry.Nothing entry.Nothing = Unit {0}
IsSteadily (entry.Here v) (entry.Here u) = IsCounted v.value u.value
IsSteadily (entry.Left to hops) (entry.Left there more) = (there ≡ to) × (more ≡ hops)
IsSteadily (entry.Destroyed m) (entry.Destroyed l) = l ≡ m
IsSteadily _ _ = ⊥

-- and what an end left behind may be erased, also its trail
abbrev pub IsCalmly : Entry → Entry → Type 0
IsCalmly entry.Nothing entry.Nothing = Unit {0}
IsCalmly (entry.Here v) (entry.Here u) = IsRetired v.value u.value
IsCalmly (entry.Left to hops) (entry.Left there more) = (there ≡ to) × (more ≡ hops)
IsCalmly (entry.Left to hops) entry.Nothing = Unit {0}
IsCalmly (entry.Destroyed m) (entry.Destroyed l) = l ≡ m
IsCalmly (entry.Destroyed m) entry.Nothing = Unit {0}
IsCalmly _ _ = ⊥

-- ---- packets

-- a packet may be passed on where its end left
abbrev pub IsPassable : PictureWhat → Type 0
IsPassable (packet.Want to w at hops) = Unit {0}
IsPassable (packet.Unwant to w at hops) = Unit {0}
IsPassable (packet.Gone to at) = Unit {0}
IsPassable (packet.Moved to at hops) = Unit {0}
IsPassable _ = ⊥

-- it is the packet that was taken
abbrev pub IsPassedOn : Change → PictureWhat → Type 0
IsPassedOn c what = IsTaken c (λ q. q ≡ what) × IsPassable what

-- a packet asks for a receive, or takes it back, of an end that is here with the hops that it tells
abbrev pub IsTrueAsk : Links → PictureWhat → Type 0
IsTrueAsk w (packet.Want to n j h) = IsHereAnd (entry_at w j (opposite to)) (λ v. v.value.hops ≡ h)
IsTrueAsk w (packet.Unwant to n j h) = IsHereAnd (entry_at w j (opposite to)) (λ v. v.value.hops ≡ h)
IsTrueAsk w _ = ⊥

-- or it takes away what ends left behind
abbrev pub IsClosing : PictureWhat → Type 0
IsClosing (packet.Forget to hops) = Unit {0}
IsClosing (packet.GoneSeen to) = Unit {0}
IsClosing _ = ⊥

-- ---- all of it

-- the mark of e is erased: nothing looks for it any more, and where a mark of its opposite stands, that will be erased too
pub record IsErased (u : Links) (t : EndId → End) (e : EndId) : Type 0 where
  pub unsought : IsSought u t e → ⊥
  pub closed : is_open (t (opposite e)) ≡ true → ⊥
  pub seen : (d : ℕ) (l : MovingPicture) → entry_at u d (opposite e) ≡ entry.Destroyed l → IsGoingTo u d (IsGoneSeen (opposite e))

-- by a calm event links w become u; t are the ends of the service before it
pub record IsCalm (w u : Links) (c : Change) (t : EndId → End) : Type 0 where
  pub entries : (k : ℕ) (e : EndId) → IsCalmly (entry_at w k e) (entry_at u k e)
  -- no packet brings an end
  pub bare : IfSome c.taken (λ q. values_of q.1.what ≡ [])
  pub sent_bare : AllSent (λ to what. values_of what ≡ []) c.packets
  -- packets that are sent are passed on, ask, or close
  pub sent : AllSent (λ to what. IsPassedOn c what ⊎ IsTrueAsk w what ⊎ IsClosing what) c.packets
  pub told : (e : EndId) (h : ℕ) (at : Stand) (m : MovingPicture) → IsSent c (IsForgetOf e h) → IsSought u t e → IsSought u t (opposite e)
      → HasFields u (opposite e) at m
      → h ≤ m.hint.1
  pub tells_seen : (e : EndId) → IsSent c (IsGoneSeen e) → ((t e).place ≡ place.Destroyed) × (IsSought u t (opposite e) → ⊥)
  -- a trail stays or is cleared, and where a kernel is in it no more it is told to forget
  pub trail : (k : ℕ) (e : EndId) (v x : HereView) → entry_at w k e ≡ entry.Here v → entry_at u k e ≡ entry.Here x
      → (x.value.trail ≡ v.value.trail) ⊎ (x.value.trail ≡ 0)
  pub trailed : (e : EndId) (k to h : ℕ) → entry_at u k e ≡ entry.Left to h → ((at : Stand) (m : MovingPicture) → HasFields w e at m → h ≤ m.hops)
      → IsTrailed w t e k
      → IsTrailed u t e k ⊎ IsToForget u e k h
  -- an entry Left that is erased has no more hops than the opposite has heard of, and a mark is erased when it was seen
  pub cleared : (e : EndId) (k to h : ℕ) (at : Stand) (m : MovingPicture) → entry_at w k e ≡ entry.Left to h → entry_at u k e ≡ entry.Nothing
      → IsSought w t e
      → IsSought w t (opposite e)
      → HasFields w (opposite e) at m
      → h ≤ m.hint.1
  pub erased : (e : EndId) (k : ℕ) (m : MovingPicture) → entry_at w k e ≡ entry.Destroyed m → entry_at u k e ≡ entry.Nothing → IsErased u t e
  -- the packet that is taken does not matter where it comes, or it has done there what it should
  pub known : (e : EndId) (v x : HereView) → entry_at w c.kernel e ≡ entry.Here v → entry_at u c.kernel e ≡ entry.Here x → (t e).noticed ≡ false
      → IsTaken c (IsKnownOf e v.value.hops)
      → x.value.trail ≡ 0
  pub forget : (e : EndId) (to h g : ℕ) → entry_at u c.kernel e ≡ entry.Left to h → IsTaken c (IsForgetOf e g) → h ≤ g → ⊥
  pub seen : (e : EndId) (m : MovingPicture) → entry_at u c.kernel e ≡ entry.Destroyed m → IsTaken c (IsGoneSeen e) → ⊥
  -- or it stays on the track of its end
  pub moved : (e : EndId) (k : ℕ) (v : HereView) → entry_at w k e ≡ entry.Here v → IsTaken c (IsMovedTo (opposite e) k v.value.hops)
      → HasChain u (opposite e) c.kernel v.value.hint.1
      → IsOnTrack u (opposite e) v.value.hint.1 (IsMovedTo (opposite e) k v.value.hops)
  pub gone : (e : EndId) (d : ℕ) (m : MovingPicture) → entry_at u d e ≡ entry.Destroyed m → IsTaken c (IsGoneFrom (opposite e) d)
      → HasChain u (opposite e) c.kernel m.hint.1
      → IsGoingTo u d (IsGoneSeen e) ⊎ IsOnTrack u (opposite e) m.hint.1 (IsGoneFrom (opposite e) d)

-- ---- calls

-- a call by which no end is made, moves or is destroyed, where a kernel keeps this of each end: a Send is one whose message waits
abbrev pub IsCalmCall : (EndId → Entry) → Call → Type 0
IsCalmCall y call.Make = ⊥
IsCalmCall y (call.Destroy on) = ⊥
IsCalmCall y (call.Send on bytes xs) = IfHere (y on) (λ v. v.value.want ≡ 0)
IsCalmCall y (call.Receive on) = Unit {0}
IsCalmCall y (call.Cancel on way) = Unit {0}
IsCalmCall y call.Wait = Unit {0}
IsCalmCall y (call.Print bytes) = Unit {0}
IsCalmCall y call.Exit = ⊥

-- ---- packets that are taken

-- an entry is no forwarding entry; it is no mark
abbrev pub IsNotLeft : Entry → Type 0
IsNotLeft (entry.Left to hops) = ⊥
IsNotLeft _ = Unit {0}

abbrev pub IsNoMark : Entry → Type 0
IsNoMark (entry.Destroyed m) = ⊥
IsNoMark _ = Unit {0}

-- there is no entry
abbrev pub IsNone : Entry → Type 0
IsNone entry.Nothing = Unit {0}
IsNone _ = ⊥

-- a forwarding entry has more hops
abbrev pub IsNewer : ℕ → Entry → Type 0
IsNewer hops (entry.Left to h) = nat_le h hops ≡ false
IsNewer hops _ = Unit {0}

-- the receive n is not being withdrawn
abbrev pub IsNotWithdrawn : ℕ → Inward → Type 0
IsNotWithdrawn n (inward.Withdrawing m) = nat_eq m n ≡ false
IsNotWithdrawn n _ = Unit {0}

-- a packet is dropped, by the entry of the end that it is addressed to
abbrev pub IsDropped : PictureWhat → Entry → Type 0
IsDropped (packet.Want to n at hops) x = IfHere x (λ v. v.value.dead ≡ true) × IsNotLeft x
IsDropped (packet.Unwant to n at hops) x = IfHere x (λ v. v.value.dead ≡ true) × IsNotLeft x
IsDropped (packet.Unwanted to n at hops) x = IfHere x (λ v. IsNotWithdrawn n v.inward)
IsDropped (packet.Taken to n at hops) x = awaits n x ≡ None
IsDropped (packet.Gone to at) x = IsNone x
IsDropped (packet.Moved to at hops) x = IfHere x (λ v. v.value.dead ≡ true) × IsNotLeft x × IsNoMark x
IsDropped (packet.Known to hops) x = IfHere x (λ v. (v.value.dead ≡ true) ⊎ (nat_eq v.value.hops hops ≡ false))
IsDropped (packet.Forget to hops) x = IsNewer hops x
IsDropped (packet.GoneSeen to) x = IsNoMark x
IsDropped _ x = ⊥

-- a packet tells of a death, or that it was seen: at a mark of its end, that is erased
abbrev pub IsOfDeath : PictureWhat → Type 0
IsOfDeath (packet.Gone to at) = Unit {0}
IsOfDeath (packet.GoneSeen to) = Unit {0}
IsOfDeath _ = ⊥
