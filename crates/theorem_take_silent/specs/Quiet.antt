-- Events that change nothing that the link service speaks of.
use Rattle.std.specs.Prelude.{◌≡◌, ℕ, ◌<◌, ◌⊎◌, Bool, true, false, IfSome, Some}
use Rattle.charlotte_packets.specs.Packets.{is_addressed}
use Rattle.charlotte_calls.specs.declared.names.EndId.{EndId}
use Rattle.charlotte_packets.specs.declared.picture.MovingPicture.{MovingPicture}
use Rattle.charlotte_packets.specs.declared.picture.PictureWhat.{PictureWhat}
use Rattle.charlotte_packets.specs.declared.picture.PictureWhat.TheVariants as packet
use Rattle.end_table.specs.declared.entry.Entry.{Entry}
use Rattle.end_table.specs.declared.entry.Entry.TheVariants as entry
use Rattle.end_table.specs.declared.entry.HereView.{HereView}
use Rattle.kernel_sound.specs.Sound.{addressee}
use Rattle.service_lawful.specs.Consistent.{is_open}
use Rattle.service_step.specs.Ends.{is_made}
use Rattle.service_step.specs.declared.state.End.{End}
use Rattle.theorem_effects.specs.Fields.{IsNews, value_of}
use Rattle.theorem_effects.specs.Invariant.{NamesBelow, IsGoneRight}
use Rattle.theorem_effects.specs.Packets.{Links}
use Rattle.theorem_effects.specs.Change.{Change}
use Rattle.theorem_effects.specs.Sums.{AllSent}
use Rattle.theorem_effects.specs.Under.{IsTaken}

-- a packet tells of a message or of a receive that is over
abbrev pub is_telling : PictureWhat → Bool
is_telling (packet.Want to w at hops) = false
is_telling (packet.Unwant to w at hops) = false
is_telling (packet.Unwanted to w at hops) = true
is_telling (packet.Parcel to n w at hops bytes ms) = true
is_telling (packet.Taken to n at hops) = true
is_telling (packet.Back to n ms) = true
is_telling (packet.Gone to at) = false
is_telling (packet.Moved to at hops) = false
is_telling (packet.Known to hops) = false
is_telling (packet.Forget to hops) = false
is_telling (packet.GoneSeen to) = false

-- a value differs from another at most in its hint and its trail
abbrev pub IsAlike : MovingPicture → MovingPicture → Type 0
IsAlike m l = l ≡ record m { hint = l.hint; trail = l.trail }

-- so does the view of an end that is here; all else of it stays
abbrev pub IsViewAlike : HereView → HereView → Type 0
IsViewAlike v u = (u ≡ record v { value = u.value }) × IsAlike v.value u.value

-- what a quiet event makes of an entry: an end that is here stays so, and a mark or a forwarding entry may be erased
abbrev pub IsQuietly : Entry → Entry → Type 0
IsQuietly entry.Nothing entry.Nothing = Unit {0}
IsQuietly (entry.Here v) (entry.Here u) = IsViewAlike v u
IsQuietly (entry.Left to hops) (entry.Left there more) = Unit {0}
IsQuietly (entry.Left to hops) entry.Nothing = Unit {0}
IsQuietly (entry.Destroyed m) (entry.Destroyed l) = IsAlike m l
IsQuietly (entry.Destroyed m) entry.Nothing = Unit {0}
IsQuietly _ _ = ⊥

-- a gone is of an end whose opposite is destroyed
abbrev pub IsGoneWell : (EndId → End) → PictureWhat → Type 0
IsGoneWell t (packet.Gone e at) = IsGoneRight t e
IsGoneWell t _ = Unit {0}

-- a packet tells of no message and of no receive that is over; it names kernels below n and goes to one; and it is addressed to an
-- end of a made link
pub record IsSentWell (n : ℕ) (t : EndId → End) (to : ℕ) (what : PictureWhat) : Type 0 where
  pub quiet : is_telling what ≡ false
  pub below : to < n
  pub addressed : is_addressed what n ≡ true
  pub made : is_made (t (addressee what)).place ≡ true
  pub gone : IsGoneWell t what

-- a quiet event, of n kernels: entries stay but for hint and trail, and the packets that it takes and sends tell of no message and
-- of no receive that is over
pub record IsQuiet (n : ℕ) (t : EndId → End) (w : Links) (c : Change) : Type 0 where
  pub kernel : c.kernel < n
  pub entry : (e : EndId) → IsQuietly (w.entry c.kernel e) (c.entry e (w.entry c.kernel e))
  pub names : (e : EndId) → NamesBelow n (c.entry e (w.entry c.kernel e))
  pub taken : IfSome c.taken (λ t. is_telling t.1.what ≡ false)
  pub sent : AllSent (IsSentWell n t) c.packets

-- a packet tells where an end is
abbrev pub tells_place : PictureWhat → Bool
tells_place (packet.Want to w at hops) = true
tells_place (packet.Unwant to w at hops) = true
tells_place (packet.Unwanted to w at hops) = true
tells_place (packet.Parcel to n w at hops bytes ms) = true
tells_place (packet.Taken to n at hops) = true
tells_place (packet.Back to n ms) = false
tells_place (packet.Gone to at) = false
tells_place (packet.Moved to at hops) = true
tells_place (packet.Known to hops) = false
tells_place (packet.Forget to hops) = false
tells_place (packet.GoneSeen to) = false

-- the fields of an end have the hint that they had, or, where the end is not open, one that the packet tells that was taken
abbrev pub IsHintOf : (EndId → End) → Change → EndId → MovingPicture → MovingPicture → Type 0
IsHintOf t c e m l = (l.hint ≡ m.hint) ⊎ (IsTaken c (IsNews e l.hint.0 l.hint.1) × (is_open (t e) ≡ false))

-- a packet that tells where an end is was passed on
abbrev pub IsPassed : Change → PictureWhat → Type 0
IsPassed c what = (tells_place what ≡ false) ⊎ IsTaken c (λ q. q ≡ what)

-- an event that says nothing new of where ends are and what they ask for
pub record IsPassing (t : EndId → End) (w : Links) (c : Change) : Type 0 where
  pub hints : (e : EndId) (m l : MovingPicture) → value_of (w.entry c.kernel e) ≡ Some m
      → value_of (c.entry e (w.entry c.kernel e)) ≡ Some l → IsHintOf t c e m l
  pub sent : AllSent (λ to what. IsPassed c what) c.packets
