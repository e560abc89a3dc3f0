-- What is true of forwarding entries, of marks, and of the packets that take them away, in every world that a run reaches. It stands beside
-- `Invariant` of theorem_meaning, which names no Left entry, no trail, and no moved, known, forget or goneseen. Each clause is about one
-- link: e, and its opposite.
use Rattle.std.specs.Prelude.{◌≡◌, ◌≢◌, ℕ, ◌≤◌, ◌⊎◌, true, false, []}
use Rattle.std.specs.Int.{bit_at}
use Rattle.charlotte_calls.specs.Names.{opposite}
use Rattle.charlotte_calls.specs.declared.names.EndId.{EndId}
use Rattle.charlotte_packets.specs.declared.picture.MovingPicture.{MovingPicture}
use Rattle.end_table.specs.declared.entry.Entry.{Entry}
use Rattle.end_table.specs.declared.entry.Entry.TheVariants as entry
use Rattle.end_table.specs.declared.entry.HereView.{HereView}
use Rattle.service_lawful.specs.Consistent.{is_open}
use Rattle.service_step.specs.Ends.{is_living}
use Rattle.service_step.specs.declared.state.End.{End}
use Rattle.service_step.specs.declared.state.Place.TheVariants as place
use Rattle.theorem_meaning.specs.Fields.{Stand, HasFields, IsHeard, IsUnserved}
use Rattle.theorem_meaning.specs.Packets.{Links, IsUnderWay, Each}
use Rattle.theorem_meaning.specs.StandsFor.{entry_at}
use Rattle.trace_meaning.specs.Words.{HasMark, IsSought, HasChain, IsGoingTo, IsOnTrack, IsGoneSeen, IsGoneFrom, IsBackTo, IsParcelTo}
use Rattle.trace_meaning.specs.Words.{IsKnownOf, IsForgetOf, IsMovedTo}

-- ---- ends that find one another

-- the opposite of an open end lives, or its mark stands
abbrev pub IsMet : Links → (EndId → End) → EndId → Type 0
IsMet w t e = is_open (t e) ≡ true → (is_living (t (opposite e)).place ≡ true) ⊎ HasMark w (opposite e)

-- whatever was heard of an end that is sought, if it is no older than the hint, leads to the end
abbrev pub IsReached : Links → (EndId → End) → EndId → Type 0
IsReached w t e =
    (at : Stand) (m : MovingPicture) (j h : ℕ) → IsSought w t e → IsSought w t (opposite e) → HasFields w (opposite e) at m
    → IsHeard w e j h → m.hint.1 ≤ h → HasChain w e j h

-- ---- marks

-- the mark of e at kernel d, whose hint has so many hops, is taken away: the opposite has seen the death, or will
abbrev pub IsMourned : Links → (EndId → End) → EndId → ℕ → ℕ → Type 0
IsMourned w t e d h =
    IsGoingTo w d (IsGoneSeen e) ⊎ (IsSought w t (opposite e) × IsOnTrack w (opposite e) h (IsGoneFrom (opposite e) d))

-- the opposite of a mark does not know of the death, and is told from the mark. What an open opposite sends goes there, and what it is asked
-- for was asked from there, with the last hops of the end
pub record IsMarkRight (w : Links) (t : EndId → End) (e : EndId) (d : ℕ) (mark : MovingPicture) : Type 0 where
  pub dead : mark.dead ≡ false
  pub noticed : (t e).noticed ≡ false
  pub gone : (at : ℕ) → IsUnderWay w (IsGoneFrom (opposite e) at) → at ≡ d
  pub backs : is_open (t (opposite e)) ≡ true → Each w (λ from to q. IsBackTo (opposite e) q → from ≡ d)
  pub parcels : is_open (t (opposite e)) ≡ true → Each w (λ from to q. IsParcelTo e q → to ≡ d)
  pub asked : (at : Stand) (m : MovingPicture) (n j h : ℕ) → is_open (t (opposite e)) ≡ true → HasFields w (opposite e) at m
      → IsUnserved w (opposite e) m n j h → (j ≡ d) × (h ≡ mark.hops)
  pub mourned : IsMourned w t e d mark.hint.1

-- a goneseen is of an end that is destroyed, and its opposite is sought no more
pub record IsSeenRight (w : Links) (t : EndId → End) (e : EndId) : Type 0 where
  pub destroyed : IsUnderWay w (IsGoneSeen e) → (t e).place ≡ place.Destroyed
  pub unsought : IsUnderWay w (IsGoneSeen e) → IsSought w t (opposite e) → ⊥

-- ---- forwarding entries

-- the end is sought, and kernel k is in its trail
pub record IsTrailed (w : Links) (t : EndId → End) (e : EndId) (k : ℕ) : Type 0 where
  pub sought : IsSought w t e
  pub at : Stand
  pub fields : MovingPicture
  pub are : HasFields w e at fields
  pub in_trail : bit_at fields.trail k ≡ 1

-- kernel k is told to forget what has h hops or fewer
pub record IsToForget (w : Links) (e : EndId) (k h : ℕ) : Type 0 where
  pub hops : ℕ
  pub there : IsGoingTo w k (IsForgetOf e hops)
  pub covers : h ≤ hops

-- an entry Left has hops, and no more than its end. It is taken away: its kernel is in the trail, or told to forget
pub record IsLeftRight (w : Links) (t : EndId → End) (e : EndId) (k h : ℕ) : Type 0 where
  pub some : 1 ≤ h
  pub old : (at : Stand) (m : MovingPicture) → HasFields w e at m → h ≤ m.hops
  pub kept : IsTrailed w t e k ⊎ IsToForget w e k h

-- e is told that it is known, or to be forgotten, with so many hops
abbrev pub IsToldOf : Links → EndId → ℕ → Type 0
IsToldOf w e h = IsUnderWay w (IsKnownOf e h) ⊎ IsUnderWay w (IsForgetOf e h)

-- known and forget come of what the opposite has learned
abbrev pub IsKnownRight : Links → (EndId → End) → EndId → Type 0
IsKnownRight w t e =
    (at : Stand) (m : MovingPicture) (h : ℕ) → IsSought w t e → IsSought w t (opposite e) → HasFields w (opposite e) at m
    → IsToldOf w e h → h ≤ m.hint.1

-- e is at kernel k with so many hops, its hint has h: it is told that its opposite knows so, or tells it
abbrev pub IsTelling : Links → EndId → ℕ → ℕ → ℕ → Type 0
IsTelling w e k hops h = IsGoingTo w k (IsKnownOf e hops) ⊎ IsOnTrack w (opposite e) h (IsMovedTo (opposite e) k hops)

-- an end with a trail is told that its opposite knows where it is, or tells it
abbrev pub IsAnnounced : Links → (EndId → End) → EndId → ℕ → HereView → Type 0
IsAnnounced w t e k v =
    (t e).noticed ≡ false → v.value.trail ≢ 0 → is_living (t (opposite e)).place ≡ true
    → IsTelling w e k v.value.hops v.value.hint.1

-- ---- all of it

abbrev pub IsTraceRight : Links → (EndId → End) → EndId → ℕ → Entry → Type 0
IsTraceRight w t e k entry.Nothing = Unit {0}
IsTraceRight w t e k (entry.Here v) = IsAnnounced w t e k v
IsTraceRight w t e k (entry.Left to h) = IsLeftRight w t e k h
IsTraceRight w t e k (entry.Destroyed m) = IsMarkRight w t e k m

-- of one link, as far as one of its ends goes
pub record IsTraced (w : Links) (t : EndId → End) (e : EndId) : Type 0 where
  pub met : IsMet w t e
  pub reached : IsReached w t e
  pub seen : IsSeenRight w t e
  pub known : IsKnownRight w t e
  pub entries : (k : ℕ) → IsTraceRight w t e k (entry_at w k e)

abbrev pub AreTraced : Links → (EndId → End) → Type 0
AreTraced w t = (e : EndId) → IsTraced w t e

-- ---- what follows

-- no packet is under way
abbrev pub IsQuiet : Links → Type 0
IsQuiet w = (from to : ℕ) → w.packets from to ≡ []

-- an entry is no trace of an end: there is none, or it has the end here
abbrev pub IsNoTrace : Entry → Type 0
IsNoTrace entry.Nothing = Unit {0}
IsNoTrace (entry.Here v) = Unit {0}
IsNoTrace (entry.Left to h) = ⊥
IsNoTrace (entry.Destroyed m) = ⊥

-- tables without traces: once all packets were taken, each kernel has only entries of ends that are here
abbrev pub AreBare : Links → Type 0
AreBare w = IsQuiet w → (k : ℕ) (e : EndId) → IsNoTrace (entry_at w k e)
