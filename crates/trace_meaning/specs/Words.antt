-- Words for traces: ends that are looked for, chains of entries that lead to an end, and packets that stand on such a chain.
use Rattle.std.specs.Prelude.{◌≡◌, ℕ, zero, suc, ◌<◌, ◌≤◌, ◌⊎◌, true, List, ◌∷◌, ◌++◌, Contains}
use Rattle.charlotte_calls.specs.declared.names.EndId.{EndId}
use Rattle.charlotte_packets.specs.declared.picture.MovingPicture.{MovingPicture}
use Rattle.charlotte_packets.specs.declared.picture.Picture.{Picture}
use Rattle.charlotte_packets.specs.declared.picture.PictureWhat.{PictureWhat}
use Rattle.charlotte_packets.specs.declared.picture.PictureWhat.TheVariants as packet
use Rattle.end_table.specs.declared.entry.Entry.{Entry}
use Rattle.end_table.specs.declared.entry.Entry.TheVariants as entry
use Rattle.service_lawful.specs.Consistent.{is_open}
use Rattle.service_step.specs.declared.state.End.{End}
use Rattle.theorem_meaning.specs.Packets.{Links, values_of}
use Rattle.theorem_meaning.specs.StandsFor.{entry_at}

-- ---- ends that are looked for

-- a kernel keeps the mark of an end that was destroyed
pub record HasMark (w : Links) (e : EndId) : Type 0 where
  pub at : ℕ
  pub mark : MovingPicture
  pub there : entry_at w at e ≡ entry.Destroyed mark

-- an end that is open, or was destroyed and left a mark: packets for it have still to find it
abbrev pub IsSought : Links → (EndId → End) → EndId → Type 0
IsSought w t e = (is_open (t e) ≡ true) ⊎ HasMark w e

-- ---- chains

-- a value of e is in one of these packets, and its hops are so
pub record IsFlying (qs : List Picture) (e : EndId) (P : ℕ → Type 0) : Type 0 where
  pub packet : Picture
  pub value : MovingPicture
  pub there : Contains qs packet
  pub inside : Contains (values_of packet.what) value
  pub its : value.end ≡ e
  pub hops : P value.hops

-- the entry of e at kernel k is of h hops or more: it is e itself, its mark, or the way on. That way has more hops than h, and e is on it,
-- or the next kernel leads on
abbrev pub LeadsOn : Links → EndId → ℕ → (ℕ → ℕ → Type 0) → ℕ → Entry → Type 0
LeadsOn w e k next h entry.Nothing = ⊥
LeadsOn w e k next h (entry.Here v) = h ≤ v.value.hops
LeadsOn w e k next h (entry.Left to g) = (h < g) × (IsFlying (w.packets k to) e (λ i. i ≡ g) ⊎ next to g)
LeadsOn w e k next h (entry.Destroyed m) = h ≤ m.hops

-- a chain of at most so many entries leads from kernel k to e, or to its mark, by hops that rise from h
abbrev pub IsChain : ℕ → Links → EndId → ℕ → ℕ → Type 0
IsChain zero w e k h = ⊥
IsChain (suc most) w e k h = LeadsOn w e k (IsChain most w e) h (entry_at w k e)

-- and one of any length
abbrev pub HasChain : Links → EndId → ℕ → ℕ → Type 0
HasChain w e k h = (most : ℕ) × IsChain most w e k h

-- ---- packets

-- a packet of which this is true goes to a kernel
pub record IsGoingTo (w : Links) (to : ℕ) (P : PictureWhat → Type 0) : Type 0 where
  pub from : ℕ
  pub packet : Picture
  pub there : Contains (w.packets from to) packet
  pub is : P packet.what

-- and a packet for e is on its track above h hops: e itself is before it in its list, with more hops, or a chain leads on from there
pub record IsOnTrack (w : Links) (e : EndId) (h : ℕ) (P : PictureWhat → Type 0) : Type 0 where
  pub from : ℕ
  pub to : ℕ
  pub packet : Picture
  pub before : List Picture
  pub later : List Picture
  pub stands : w.packets from to ≡ before ++ packet ∷ later
  pub is : P packet.what
  pub leads : IsFlying before e (λ i. h < i) ⊎ HasChain w e to h

-- ---- kinds of packets

abbrev pub IsGoneSeen : EndId → PictureWhat → Type 0
IsGoneSeen e (packet.GoneSeen to) = to ≡ e
IsGoneSeen e _ = ⊥

-- a gone to end t, which tells that its opposite was destroyed at kernel j
abbrev pub IsGoneFrom : EndId → ℕ → PictureWhat → Type 0
IsGoneFrom t j (packet.Gone to at) = (to ≡ t) × (at ≡ j)
IsGoneFrom t j _ = ⊥

abbrev pub IsBackTo : EndId → PictureWhat → Type 0
IsBackTo t (packet.Back to n ms) = to ≡ t
IsBackTo t _ = ⊥

abbrev pub IsParcelTo : EndId → PictureWhat → Type 0
IsParcelTo t (packet.Parcel to n w at hops bytes ms) = to ≡ t
IsParcelTo t _ = ⊥

abbrev pub IsKnownOf : EndId → ℕ → PictureWhat → Type 0
IsKnownOf e h (packet.Known to hops) = (to ≡ e) × (hops ≡ h)
IsKnownOf e h _ = ⊥

abbrev pub IsForgetOf : EndId → ℕ → PictureWhat → Type 0
IsForgetOf e h (packet.Forget to hops) = (to ≡ e) × (hops ≡ h)
IsForgetOf e h _ = ⊥

-- a moved to end t, which tells that its opposite is at kernel j with h hops
abbrev pub IsMovedTo : EndId → ℕ → ℕ → PictureWhat → Type 0
IsMovedTo t j h (packet.Moved to at hops) = (to ≡ t) × (at ≡ j) × (hops ≡ h)
IsMovedTo t j h _ = ⊥
