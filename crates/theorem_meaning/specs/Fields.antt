-- The fields of an end and where they stand; what was heard of an end; and what is asked of an end and not yet served.
use Rattle.std.specs.Prelude.{◌≡◌, ℕ, ◌<◌, ◌≤◌, ◌⊎◌, Option, Some, None, Contains}
use Rattle.charlotte_calls.specs.Names.{opposite}
use Rattle.charlotte_calls.specs.declared.names.EndId.{EndId}
use Rattle.charlotte_packets.specs.declared.picture.MovingPicture.{MovingPicture}
use Rattle.charlotte_packets.specs.declared.picture.PictureWhat.{PictureWhat}
use Rattle.charlotte_packets.specs.declared.picture.PictureWhat.TheVariants as packet
use Rattle.end_table.specs.declared.entry.Entry.{Entry}
use Rattle.end_table.specs.declared.entry.Entry.TheVariants as entry
use Rattle.end_table.specs.declared.entry.Inward.{Inward}
use Rattle.end_table.specs.declared.entry.Inward.TheVariants as inward
use Rattle.theorem_meaning.specs.Packets.{Links, IsUnderWay, values_of}
use Rattle.theorem_meaning.specs.StandsFor.{entry_at}

-- where the fields of an end stand: at a kernel that has it here or keeps its mark, or in a packet, which is no site
pub data Stand : Type 0 where
  At : (k : ℕ) → Stand
  Flying : Stand

-- the value of an end that is here, and the mark of one that was destroyed
abbrev pub value_of : Entry → Option MovingPicture
value_of entry.Nothing = None
value_of (entry.Here v) = Some v.value
value_of (entry.Left to hops) = None
value_of (entry.Destroyed m) = Some m

-- these are fields of an end, and they stand there
abbrev pub HasFields : Links → EndId → Stand → MovingPicture → Type 0
HasFields w e (At k) m = value_of (entry_at w k e) ≡ Some m
HasFields w e Flying m = IsUnderWay w (λ q. Contains (values_of q) m) × (m.end ≡ e)

-- ---- what was heard

-- a packet tells end t that its opposite was at kernel j with h hops
abbrev pub IsNews : EndId → ℕ → ℕ → PictureWhat → Type 0
IsNews t j h (packet.Want to w at hops) = (to ≡ t) × (at ≡ j) × (hops ≡ h)
IsNews t j h (packet.Unwant to w at hops) = (to ≡ t) × (at ≡ j) × (hops ≡ h)
IsNews t j h (packet.Unwanted to w at hops) = (to ≡ t) × (at ≡ j) × (hops ≡ h)
IsNews t j h (packet.Parcel to n w at hops bytes ms) = (to ≡ t) × (at ≡ j) × (hops ≡ h)
IsNews t j h (packet.Taken to n at hops) = (to ≡ t) × (at ≡ j) × (hops ≡ h)
IsNews t j h (packet.Moved to at hops) = (to ≡ t) × (at ≡ j) × (hops ≡ h)
IsNews t j h _ = ⊥

-- the opposite of t has heard that t was at kernel j with h hops
pub record IsHinted (w : Links) (e : EndId) (j h : ℕ) : Type 0 where
  pub stand : Stand
  pub fields : MovingPicture
  pub are : HasFields w (opposite e) stand fields
  pub hint : fields.hint ≡ (j, h)

-- it was heard of e, or will be, that it was at kernel j with h hops
abbrev pub IsHeard : Links → EndId → ℕ → ℕ → Type 0
IsHeard w e j h = IsHinted w e j h ⊎ IsUnderWay w (IsNews (opposite e) j h)

-- that an end was at kernel j with h hops is no more than true of an end that stands here with so many: it may be old, but
-- with as many hops as now it names the site
abbrev pub IsNoMore : Stand → ℕ → ℕ → ℕ → Type 0
IsNoMore (At k) hops j h = (h ≤ hops) × (h ≡ hops → j ≡ k)
IsNoMore Flying hops j h = h < hops

-- ---- what is asked

-- a packet asks end t for the receive n of its opposite, which was at kernel j with h hops, or takes it back
abbrev pub IsAsking : EndId → ℕ → ℕ → ℕ → PictureWhat → Type 0
IsAsking t n j h (packet.Want to w at hops) = (to ≡ t) × (w ≡ n) × (at ≡ j) × (hops ≡ h)
IsAsking t n j h (packet.Unwant to w at hops) = (to ≡ t) × (w ≡ n) × (at ≡ j) × (hops ≡ h)
IsAsking t n j h _ = ⊥

-- a packet takes the receive n of the opposite of t back
abbrev pub IsUnwantOf : EndId → ℕ → PictureWhat → Type 0
IsUnwantOf t n (packet.Unwant to w at hops) = (to ≡ t) × (w ≡ n)
IsUnwantOf t n _ = ⊥

-- the receive n is asked of s, whose fields are these, and not yet served: s keeps it, or will hear of it
abbrev pub IsUnserved : Links → EndId → MovingPicture → ℕ → ℕ → ℕ → Type 0
IsUnserved w s m n j h =
    ((m.want ≡ n) × (0 < n) × (m.hint ≡ (j, h)))
    ⊎ ((m.served < n) × IsUnderWay w (IsAsking s n j h))

-- the receive w is started at an entry
abbrev pub IsAskedAs : ℕ → Inward → Type 0
IsAskedAs w inward.Idle = ⊥
IsAskedAs w (inward.Posted x) = x ≡ w
IsAskedAs w (inward.Withdrawing x) = x ≡ w
IsAskedAs w inward.Unreported = ⊥
