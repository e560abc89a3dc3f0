-- Events by which ends move: they leave a kernel in a packet, come out of one, or go on in another. Others may hear where their opposites are.
use Rattle.std.specs.Prelude.{◌≡◌, ℕ, ◌≤◌, ◌⊎◌, nat_eq, Bool, true, false, Contains, IfSome}
use Rattle.std.specs.Int.{bit_at}
use Rattle.charlotte_calls.specs.Names.{opposite}
use Rattle.charlotte_calls.specs.declared.names.EndId.{EndId}
use Rattle.charlotte_packets.specs.declared.picture.MovingPicture.{MovingPicture}
use Rattle.charlotte_packets.specs.declared.picture.PictureWhat.{PictureWhat}
use Rattle.charlotte_packets.specs.declared.picture.PictureWhat.TheVariants as packet
use Rattle.end_table.specs.declared.entry.Entry.{Entry}
use Rattle.end_table.specs.declared.entry.Entry.TheVariants as entry
use Rattle.end_table.specs.declared.entry.HereView.{HereView}
use Rattle.service_lawful.specs.Consistent.{is_open}
use Rattle.service_step.specs.Ends.{is_living}
use Rattle.service_step.specs.declared.state.End.{End}
use Rattle.theorem_effects.specs.Change.{Change}
use Rattle.theorem_effects.specs.Sums.{AllSent}
use Rattle.theorem_effects.specs.Under.{IsSent, IsTaken}
use Rattle.theorem_meaning.specs.Fields.{HasFields, IsAsking, IsNews, Stand}
use Rattle.theorem_meaning.specs.Packets.{Links, values_of}
use Rattle.theorem_meaning.specs.StandsFor.{entry_at}
use Rattle.trace_hearing.specs.Hearing.{IsRaised, IsTaught}
use Rattle.trace_meaning.specs.Words.{HasChain, IsBackTo, IsMovedTo, IsParcelTo}

-- ---- ends that stay

-- the value of an end that is here at kernel k: its hint stays, or rises by what the packet tells that was taken, and then an end with a trail tells
-- its place there. It is asked for what it was asked for, or for nothing
pub record IsStaying (c : Change) (k : ℕ) (e : EndId) (m l : MovingPicture) : Type 0 where
  pub like : IsTaught m l
  pub hint : (l.hint ≡ m.hint) ⊎ (IsRaised c e m l × ((l.trail ≡ 0 → ⊥) → Contains c.packets (l.hint.0, packet.Moved (opposite e) k l.hops)))
  pub want : (l.want ≡ m.want) ⊎ (l.want ≡ 0)
  pub served : m.served ≤ l.served

-- its entry at kernel k; other entries stay as they are
abbrev pub IsStill : Change → ℕ → EndId → Entry → Entry → Type 0
IsStill c k e entry.Nothing entry.Nothing = Unit {0}
IsStill c k e (entry.Here v) (entry.Here u) = IsStaying c k e v.value u.value
IsStill c k e (entry.Left to hops) (entry.Left there more) = (there ≡ to) × (more ≡ hops)
IsStill c k e (entry.Destroyed m) (entry.Destroyed l) = l ≡ m
IsStill c k e _ _ = ⊥

-- ---- ends that move

-- the value of an end that moves: its hops and its trail may grow
pub record IsOnward (m l : MovingPicture) : Type 0 where
  pub hint : l.hint ≡ m.hint
  pub want : l.want ≡ m.want
  pub served : l.served ≡ m.served
  pub dead : l.dead ≡ m.dead
  pub hops : m.hops ≤ l.hops
  pub trail : (j : ℕ) → bit_at m.trail j ≡ 1 → bit_at l.trail j ≡ 1

-- what the kernel of the event keeps then of an end that moved, which has these fields: if it is here, it tells its place; and where it left, the
-- kernel is in its trail
abbrev pub IsMovedEntry : Change → EndId → MovingPicture → Entry → Type 0
IsMovedEntry c e m entry.Nothing = Unit {0}
IsMovedEntry c e m (entry.Here v) = m.dead ≡ false → Contains c.packets (m.hint.0, packet.Moved (opposite e) c.kernel m.hops)
IsMovedEntry c e m (entry.Left to h) = (m.dead ≡ false) × (1 ≤ h) × (h ≤ m.hops) × (bit_at m.trail c.kernel ≡ 1)
IsMovedEntry c e m (entry.Destroyed l) = ⊥

-- end e has fields at one place before, and at one place afterwards; and if it is looked for, a chain leads on from the kernel
pub record IsMover (w u : Links) (c : Change) (t : EndId → End) (e : EndId) : Type 0 where
  pub stand : Stand
  pub value : MovingPicture
  pub had : HasFields w e stand value
  pub alone : (at : Stand) (m : MovingPicture) → HasFields w e at m → m ≡ value
  pub lives : is_living (t e).place ≡ true
  pub knows : value.dead ≡ (t e).noticed
  pub away : (j : ℕ) (v : HereView) → nat_eq j c.kernel ≡ false → entry_at w j e ≡ entry.Here v → ⊥
  pub site : Stand
  pub next : MovingPicture
  pub has : HasFields u e site next
  pub only : (at : Stand) (m : MovingPicture) → HasFields u e at m → m ≡ next
  pub like : IsOnward value next
  pub leads : value.dead ≡ false → HasChain u e c.kernel value.hops
  pub entry : IsMovedEntry c e next (entry_at u c.kernel e)

-- ---- packets

-- a packet tells nothing of traces: it is no known, forget, gone or goneseen
abbrev pub IsPlain : PictureWhat → Type 0
IsPlain (packet.Known to hops) = ⊥
IsPlain (packet.Forget to hops) = ⊥
IsPlain (packet.Gone to at) = ⊥
IsPlain (packet.GoneSeen to) = ⊥
IsPlain _ = Unit {0}

-- ---- all of it

-- by such an event links w become u; the ends of which `moves` is true move; t are the ends of the service before it
pub record IsMoving (moves : EndId → Bool) (w u : Links) (c : Change) (t : EndId → End) : Type 0 where
  pub movers : (e : EndId) → moves e ≡ true → IsMover w u c t e
  pub others : (e : EndId) → moves e ≡ false → IsStill c c.kernel e (entry_at w c.kernel e) (entry_at u c.kernel e)
  -- packets are plain, no moved is taken, and the ends that packets bring are those that move
  pub taken : IfSome c.taken (λ q. IsPlain q.1.what)
  pub sent : AllSent (λ to what. IsPlain what) c.packets
  pub unmoved : (e : EndId) (j h : ℕ) → IsTaken c (IsMovedTo e j h) → ⊥
  pub brought : (m : MovingPicture) → IsTaken c (λ q. Contains (values_of q) m) → moves m.end ≡ true
  pub carried : (m : MovingPicture) → IsSent c (λ q. Contains (values_of q) m) → moves m.end ≡ true
  -- what is told of an end leads to it, and what is asked is asked by an end that lives
  pub news : (e : EndId) (j h : ℕ) → IsSent c (IsNews (opposite e) j h) → HasChain u e j h
  pub asks : (e : EndId) (n j h : ℕ) → IsSent c (IsAsking (opposite e) n j h) → is_living (t e).place ≡ true
  -- a message goes to a mark, or comes from one, that its end is sent to or told from
  pub parcel : (e : EndId) (d : ℕ) (m : MovingPicture) (to : ℕ) (what : PictureWhat) → entry_at w d e ≡ entry.Destroyed m
      → is_open (t (opposite e)) ≡ true
      → Contains c.packets (to, what)
      → IsParcelTo e what
      → to ≡ d
  pub back : (e : EndId) (d : ℕ) (m : MovingPicture) (to : ℕ) (what : PictureWhat) → entry_at w d e ≡ entry.Destroyed m
      → is_open (t (opposite e)) ≡ true
      → Contains c.packets (to, what)
      → IsBackTo (opposite e) what
      → c.kernel ≡ d
