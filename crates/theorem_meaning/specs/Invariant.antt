-- What is true of every world that a run reaches, and of the state of the service that it stands for. Each clause is about one
-- link, or about one message and what it carries. s is the end that asks or sends, where e is its opposite.
use Rattle.std.specs.Prelude.{◌≡◌, ℕ, ◌<◌, ◌≤◌, ◌⊎◌, Bool, true, false, List, [], All, length, slice_index, is_some}
use Rattle.charlotte_calls.specs.Names.{opposite}
use Rattle.charlotte_packets.specs.Packets.{is_addressed}
use Rattle.charlotte_calls.specs.declared.names.EndId.{EndId}
use Rattle.charlotte_calls.specs.declared.names.Pid.{Pid}
use Rattle.charlotte_packets.specs.declared.picture.MovingPicture.{MovingPicture}
use Rattle.charlotte_packets.specs.declared.picture.PictureWhat.{PictureWhat}
use Rattle.charlotte_packets.specs.declared.picture.PictureWhat.TheVariants as packet
use Rattle.end_table.specs.Place.{end_eq}
use Rattle.end_table.specs.Table.{IsHereAnd}
use Rattle.end_table.specs.declared.entry.Entry.{Entry}
use Rattle.end_table.specs.declared.entry.Entry.TheVariants as entry
use Rattle.end_table.specs.declared.entry.HereView.{HereView}
use Rattle.end_table.specs.declared.entry.Holder.TheVariants as holder
use Rattle.end_table.specs.declared.entry.Inward.TheVariants as kernel_inward
pub use Rattle.kernel_named.specs.Named.{NamesBelow}
use Rattle.kernel_sound.specs.Sound.{IsSound, addressee}
use Rattle.kernel_step.specs.Actions.{is_withdrawing}
use Rattle.kernel_step.specs.Rows.{ends_in}
use Rattle.kernel_world.specs.World.{World}
use Rattle.service_step.specs.Ends.{is_made, is_living, is_posted, is_taken, matched_message}
use Rattle.service_step.specs.State.{State}
use Rattle.service_step.specs.declared.state.End.{End}
use Rattle.service_step.specs.declared.state.Message.{Message}
use Rattle.service_step.specs.declared.state.Outward.TheVariants as outward
use Rattle.service_step.specs.declared.state.Phase.TheVariants as phase
use Rattle.service_step.specs.declared.state.Place.TheVariants as place
use Rattle.theorem_meaning.specs.Fields.{Stand, HasFields, IsHeard, IsNoMore, IsUnwantOf, IsUnserved, IsAskedAs}
use Rattle.theorem_meaning.specs.Packets.{Links, links_of, IsUnderWay, Each, one_if, how_many}
use Rattle.service_lawful.specs.Consistent.{is_open, IsConsistent}
use Rattle.theorem_meaning.specs.StandsFor.{StandsFor, home_of, entry_at}

-- ---- the setting

-- the kernels and their numbers; there are as many as the service counts links of
pub record IsOfSetting (w : World) (s : State) : Type 0 where
  pub few : length s.made ≤ 8
  pub numbers : (k : ℕ) → (w.kernel k).number ≡ k
  pub kernels : (k : ℕ) → (w.kernel k).kernels ≡ length s.made
  pub version : (k : ℕ) → (w.kernel k).version ≡ s.version
  pub made : (k : ℕ) → slice_index s.made k ≡ (w.kernel k).made
  pub homes : All (λ home. home < length s.made) s.homes
  -- each table is sound
  pub sound : (k : ℕ) → IsSound k (w.kernel k).made (length s.homes) (w.kernel k).table

-- of n kernels and made links, no more is named than is there
pub record AreNamed (n : ℕ) (w : Links) (t : EndId → End) : Type 0 where
  pub entries : (k : ℕ) (e : EndId) → NamesBelow n (entry_at w k e)
  -- other kernels keep nothing, and no packets go from or to them
  pub away : (k : ℕ) (e : EndId) → n ≤ k → entry_at w k e ≡ entry.Nothing
  pub lists : (from to : ℕ) → (n ≤ from) ⊎ (n ≤ to) → w.packets from to ≡ []
  -- packets name kernels that there are, and are addressed to ends of made links
  pub addressed : Each w (λ from to q. is_addressed q n ≡ true)
  pub addressees : Each w (λ from to q. is_made (t (addressee q)).place ≡ true)

-- after i events no number is greater than i, so none has come to its end
pub record IsFew (i : ℕ) (m : MovingPicture) : Type 0 where
  pub hops : m.hops ≤ i
  pub sent : m.sent ≤ i
  pub asked : m.asked ≤ i

-- ---- where ends are

-- a mark is kept of a destroyed end alone, at one kernel at most
pub record AreMarked (w : Links) (t : EndId → End) (e : EndId) : Type 0 where
  pub destroyed : (k : ℕ) (m : MovingPicture) → entry_at w k e ≡ entry.Destroyed m → (t e).place ≡ place.Destroyed
  pub once : (j k : ℕ) (m l : MovingPicture) → entry_at w j e ≡ entry.Destroyed m → entry_at w k e ≡ entry.Destroyed l → j ≡ k

-- the fields of a living end agree with the service, also while it is in a message
pub record AreCounted (w : Links) (t : EndId → End) (e : EndId) : Type 0 where
  pub sent : (at : Stand) (m : MovingPicture) → is_living (t e).place ≡ true → HasFields w e at m → m.sent ≡ (t e).sent
  pub dead : (at : Stand) (m : MovingPicture) → is_living (t e).place ≡ true → HasFields w e at m → m.dead ≡ (t e).noticed
  -- one that knows of the death of its link is asked for nothing
  pub unwanted : (at : Stand) (m : MovingPicture) → is_living (t e).place ≡ true → (t e).noticed ≡ true → HasFields w e at m → m.want ≡ 0

-- ---- what was heard

-- what was heard of an end is no more than true
abbrev pub IsHonest : Links → EndId → Type 0
IsHonest w e = (at : Stand) (m : MovingPicture) (j h : ℕ) → HasFields w e at m → IsHeard w e j h → IsNoMore at m.hops j h

-- ---- receives

-- the receive that an entry has started is the last that was asked for; only a Cancel of its owner withdraws it
pub record AreAsked (w : Links) (s : State) (e : EndId) : Type 0 where
  pub last : (k : ℕ) (v : HereView) (n : ℕ) → entry_at w k e ≡ entry.Here v → IsAskedAs n v.inward → n ≡ v.value.asked
  pub cancelled : (k : ℕ) (v : HereView) (n : ℕ) (p : Pid) → entry_at w k e ≡ entry.Here v → v.inward ≡ kernel_inward.Withdrawing n
      → v.holder ≡ holder.Owner p
      → (s.process p.0).phase ≡ phase.Cancelling e

-- a process is in a Cancel while its receive is being withdrawn
abbrev pub AreCancelling : Links → State → Type 0
AreCancelling w s =
    (p : Pid) (e : EndId) → (s.process p.0).phase ≡ phase.Cancelling e
    → IsHereAnd (entry_at w (home_of s p) e) (λ v. is_withdrawing v.inward ≡ true)

-- a receive that was matched or withdrawn is served at the opposite end
abbrev pub IsServed : Links → (EndId → End) → EndId → Type 0
IsServed w t e =
    (k : ℕ) (v : HereView) (n : ℕ) (at : Stand) (m : MovingPicture) → entry_at w k e ≡ entry.Here v → IsAskedAs n v.inward
    → is_posted (t e).inward ≡ false
    → is_living (t (opposite e)).place ≡ true → HasFields w (opposite e) at m → n ≤ m.served

-- what is asked of an open end and not yet served: it is one receive,
-- which is posted, and where its end lives, that is where each asking says
pub record AreWanted (w : Links) (t : EndId → End) (e : EndId) : Type 0 where
  pub kept : (at : Stand) (m : MovingPicture) → is_open (t e) ≡ true → HasFields w e at m → (m.want ≡ 0) ⊎ (m.served < m.want)
  pub same : (at : Stand) (m : MovingPicture) (n j h o i g : ℕ) → is_open (t e) ≡ true → HasFields w e at m → IsUnserved w e m n j h
      → IsUnserved w e m o i g → o ≡ n
  pub posted : (at : Stand) (m : MovingPicture) (n j h : ℕ) → is_open (t e) ≡ true → HasFields w e at m → IsUnserved w e m n j h
      → is_posted (t (opposite e)).inward ≡ true
  pub site : (at : Stand) (m : MovingPicture) (n j h : ℕ) → is_open (t e) ≡ true → HasFields w e at m → IsUnserved w e m n j h
      → is_living (t (opposite e)).place ≡ true → IsHereAnd (entry_at w j (opposite e)) (λ v. (v.value.hops ≡ h) × (v.value.asked ≡ n))
  -- one that is taken back is being withdrawn there
  pub unwanted : (at : Stand) (m : MovingPicture) (n : ℕ) → is_open (t e) ≡ true → HasFields w e at m → m.served < n
      → IsUnderWay w (IsUnwantOf e n)
      → (k : ℕ) × IsHereAnd (entry_at w k (opposite e)) (λ v. is_withdrawing v.inward ≡ true)

-- an unwanted meets the receive that is being withdrawn
abbrev pub IsVoidRight : Links → (EndId → End) → ℕ → EndId → ℕ → Type 0
IsVoidRight w t to e n = (t e).noticed ≡ false → IsHereAnd (entry_at w to e) (λ v. v.inward ≡ kernel_inward.Withdrawing n)

abbrev pub is_unwanted_to : EndId → PictureWhat → Bool
is_unwanted_to e (packet.Unwanted to n at hops) = end_eq e to
is_unwanted_to e _ = false

-- and it is the only one, until the death is noticed there
abbrev pub IsUnwantedOnce : Links → (EndId → End) → EndId → Type 0
IsUnwantedOnce w t e = (t e).noticed ≡ false → how_many (is_unwanted_to e) w ≤ 1

-- ---- messages

-- the message n of f is matched, and carries these ends in this order
pub record IsMatchedAs (t : EndId → End) (f : EndId) (n : ℕ) (xs : List EndId) : Type 0 where
  pub message : Message
  pub matched : (t f).outward ≡ outward.Matched message
  pub carries : message.carried ≡ xs
  pub number : (t f).sent ≡ n

-- where the end lives, kernel k has it here
abbrev pub IsHereIfLiving : Links → (EndId → End) → ℕ → EndId → (HereView → Type 0) → Type 0
IsHereIfLiving w t k e P = is_living (t e).place ≡ true → IsHereAnd (entry_at w k e) P

-- a parcel to e: its message is matched and has these bytes and ends; it came from where its sender is; an open end has it meet
-- the receive that it is for
pub record IsParcelRight (w : Links) (t : EndId → End) (from to : ℕ) (e : EndId) (n wanted at hops : ℕ) (bytes : List ℕ)
    (xs : List EndId) : Type 0 where
  pub matched : (t (opposite e)).outward ≡ outward.Matched (record { bytes = bytes; carried = xs })
  pub number : (t (opposite e)).sent ≡ n
  pub sender : at ≡ from
  pub site : IsHereIfLiving w t from (opposite e) (λ v. v.value.hops ≡ hops)
  pub meets : is_open (t e) ≡ true → IsHereAnd (entry_at w to e) (λ v. IsAskedAs wanted v.inward)

-- a back to f: its message is matched and carries these ends; it could not be taken; it goes to where f is
pub record IsBackRight (w : Links) (t : EndId → End) (to : ℕ) (f : EndId) (n : ℕ) (xs : List EndId) : Type 0 where
  pub matched : IsMatchedAs t f n xs
  pub untaken : is_open (t (opposite f)) ≡ false
  pub site : IsHereIfLiving w t to f (λ v. Unit {0})

-- a taken to f: its message was taken; it came from where that was, and goes to where f is
pub record IsTakenRight (w : Links) (t : EndId → End) (from to : ℕ) (f : EndId) (n at : ℕ) : Type 0 where
  pub taken : (t f).outward ≡ outward.Taken
  pub number : (t f).sent ≡ n
  pub taker : at ≡ from
  pub site : IsHereIfLiving w t to f (λ v. Unit {0})

-- a gone tells of an end that is destroyed
abbrev pub IsGoneRight : (EndId → End) → EndId → Type 0
IsGoneRight t e = (t (opposite e)).place ≡ place.Destroyed

abbrev pub IsPacketRight : Links → (EndId → End) → ℕ → ℕ → PictureWhat → Type 0
IsPacketRight w t from to (packet.Parcel e n wanted at hops bytes ms) = IsParcelRight w t from to e n wanted at hops bytes (ends_in ms)
IsPacketRight w t from to (packet.Back f n ms) = IsBackRight w t to f n (ends_in ms)
IsPacketRight w t from to (packet.Taken f n at hops) = IsTakenRight w t from to f n at
IsPacketRight w t from to (packet.Gone e at) = IsGoneRight t e
IsPacketRight w t from to (packet.Unwanted e n at hops) = IsVoidRight w t to e n
IsPacketRight w t from to _ = Unit {0}

-- a packet carries the message of f, there or back
abbrev pub is_message_of : EndId → PictureWhat → Bool
is_message_of f (packet.Parcel to n wanted at hops bytes ms) = end_eq (opposite f) to
is_message_of f (packet.Back to n ms) = end_eq f to
is_message_of f _ = false

abbrev pub is_taken_of : EndId → PictureWhat → Bool
is_taken_of f (packet.Taken to n at hops) = end_eq f to
is_taken_of f _ = false

-- a message that is matched is in one packet, and one that was taken is told by one taken, until its sender is destroyed
pub record AreSentOnce (w : Links) (t : EndId → End) (f : EndId) : Type 0 where
  pub message : how_many (is_message_of f) w ≡ one_if (is_some (matched_message (t f).outward))
  pub taken : how_many (is_taken_of f) w ≤ one_if (is_taken (t f).outward)
  pub told : is_living (t f).place ≡ true → how_many (is_taken_of f) w ≡ one_if (is_taken (t f).outward)

-- ---- all of it

-- what is true of links, after i events: of each end, with its opposite, and of each packet
pub record AreRight (i : ℕ) (w : Links) (s : State) : Type 0 where
  pub named : AreNamed (length s.made) w s.ends
  pub few : (e : EndId) (at : Stand) (m : MovingPicture) → HasFields w e at m → IsFew i m
  pub marked : (e : EndId) → AreMarked w s.ends e
  pub counted : (e : EndId) → AreCounted w s.ends e
  pub honest : (e : EndId) → IsHonest w e
  pub asked : (e : EndId) → AreAsked w s e
  pub cancelling : AreCancelling w s
  pub served : (e : EndId) → IsServed w s.ends e
  pub wanted : (e : EndId) → AreWanted w s.ends e
  pub unwanted : (e : EndId) → IsUnwantedOnce w s.ends e
  pub once : (e : EndId) → AreSentOnce w s.ends e
  pub packets : Each w (λ from to q. IsPacketRight w s.ends from to q)

pub record Invariant (i : ℕ) (w : World) (s : State) : Type 0 where
  pub stands : StandsFor w s
  pub service : IsConsistent s
  pub setting : IsOfSetting w s
  pub links : AreRight i (links_of w) s
  -- a process is in a Wait while no report of it stands
  pub waiting : (p : Pid) → (s.process p.0).phase ≡ phase.Waiting → (s.process p.0).reports ≡ []
