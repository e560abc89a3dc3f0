-- A link as the link service and the owners of its two ends have it, and what may happen there.
use Rattle.std.specs.Prelude.{◌≡◌, Bool, true, false, ◌||◌, ℕ, List, [], ◌∷◌, ◌++◌, None, ⊤}
use mathlib.Core.List.{IsPrefix}
use Rattle.charlotte_calls.specs.declared.names.EndId.{EndId}
use Rattle.end_protocol.specs.declared.hearing.Heard.TheVariants as heard
use Rattle.end_protocol.specs.declared.kept.Kept.{Kept}
use Rattle.end_protocol.specs.declared.messages.Message.{Message}
use Rattle.end_protocol.specs.Deeds.{Deed, heard_deeds}
use Rattle.end_protocol.specs.Falling.{dies}
use Rattle.end_protocol.specs.Going.{sent}
use Rattle.end_protocol.specs.Happenings.{Happening, after, deeds_of}
use Rattle.end_protocol.specs.Hearing.{hears}
use Rattle.end_protocol.specs.Kept.{fresh}
use Rattle.end_protocol.specs.Wanting.{is_busy}
use Rattle.request_meaning.specs.Links.{Link, MayHappen, enclosing}

-- how an end stands
pub data Standing : Type 0 where
  -- its owner holds it, and keeps this for it. A Send that was answered Ok counts, also before its process makes the next step
  Held : Kept → Standing
  -- nobody holds it: it is named in a connect, a packet or a message, or its process is about to get it
  Free : Standing
  -- its owner destroys it, and does nothing there any more. The service has not destroyed it yet
  Lost : Standing
  -- the service destroyed it
  Destroyed : Standing

-- One end of a link. `coming` was sent on the other end, and is not heard here yet, the oldest first
pub record Side : Type 0 where
  pub standing : Standing
  pub coming : List Message

-- both ends, and the deeds on either so far
pub record Pair : Type 0 where
  pub near : Side
  pub far : Side
  pub near_deeds : List Deed
  pub far_deeds : List Deed

abbrev pub flipped : Pair → Pair
flipped p = record { near = p.far; far = p.near; near_deeds = p.far_deeds; far_deeds = p.near_deeds }

-- a link that was just made: its process is about to get both ends
abbrev pub new_side : Side
new_side = record { standing = Free; coming = [] }

abbrev pub new_pair : Pair
new_pair = record { near = new_side; far = new_side; near_deeds = []; far_deeds = [] }

-- ---- what may happen, at the end that is near

-- nothing is heard there any more
abbrev pub IsOver : Standing → Type 0
IsOver Lost = ⊤
IsOver Destroyed = ⊤
IsOver _ = ⊥

-- the end stands so
abbrev pub stands : Standing → Pair → Pair
stands to p = record p { near = record p.near { standing = to } }

-- this is coming there
abbrev pub comes : List Message → Pair → Pair
comes ms p = record p { near = record p.near { coming = ms } }

-- this was done there
abbrev pub did : List Deed → Pair → Pair
did ds p = record p { near_deeds = p.near_deeds ++ ds }

-- the first message that is coming is heard, and behind it these are coming
abbrev pub hearing : ℕ → Bool → Message → List Message → Kept → Pair → Pair
hearing version room m rest k p =
    let y = hears version room m.packet m.ends k in
    did (heard_deeds y.1) (comes rest (stands (Held y.0) p))

-- the first message of the queue is coming to the other end
abbrev pub sending : ℕ → Message → Kept → Pair → Pair
sending version m k p =
    let q = stands (Held (sent k)) p in
    record q { far = record p.far { coming = p.far.coming ++ enclosing version m ∷ [] } }

pub data Events (version : ℕ) : Pair → Pair → Type 0 where
  -- a thread does something, an allow is queued that is due, or an answer or report comes without a message
  Does : (h : Happening) (k : Kept) (p : Pair) → p.near.standing ≡ Held k → MayHappen h k
      → Events version p (did (deeds_of version h k) (stands (Held (after version h k)) p))
  -- the first message of the queue is sent
  Sends : (m : Message) (rest : List Message) (k : Kept) (p : Pair) → p.near.standing ≡ Held k → k.queue ≡ m ∷ rest
      → Events version p (sending version m k p)
  -- a message is heard that can be read
  Hears : (room : Bool) (m : Message) (rest : List Message) (k : Kept) (p : Pair) → p.near.standing ≡ Held k → p.near.coming ≡ m ∷ rest
      → ((xs : List EndId) → (hears version room m.packet m.ends k).1 ≡ heard.Unreadable xs → ⊥)
      → Events version p (hearing version room m rest k p)
  -- its owner is told that the link is dead
  Dies : (k : Kept) (p : Pair) → p.near.standing ≡ Held k → p.far.standing ≡ Destroyed → Events version p (stands (Held (dies k)) p)
  -- it goes with a message: it is at rest, and unless it is dead without a request in part. Over a link that is dead nothing is coming
  LetsGo : (k : Kept) (p : Pair) → p.near.standing ≡ Held k → is_busy k ≡ false → (k.dead ≡ false → k.request ≡ None)
      → (p.far.standing ≡ Destroyed → p.near.coming ≡ [])
      → Events version p (stands Free p)
  -- a process gets it, or its owner holds it again
  Holds : (p : Pair) → p.near.standing ≡ Free → Events version p (stands (Held fresh) p)
  -- its owner is to destroy it: a thread did, what comes can't be read, or it came with something that is dropped
  Loses : (p : Pair) → (p.near.standing ≡ Destroyed → ⊥) → Events version p (stands Lost p)
  -- the service destroys it
  Destroys : (p : Pair) → Events version p (stands Destroyed p)
  -- over a link that is dead the rest does not come any more
  Drops : (ms : List Message) (p : Pair) → p.far.standing ≡ Destroyed → IsPrefix ms p.near.coming → Events version p (comes ms p)
  -- nobody hears what comes to an end that is lost
  Passes : (ms : List Message) (p : Pair) → IsOver p.near.standing → Events version p (comes ms p)
  -- at the other end
  Flipped : (p q : Pair) → Events version (flipped p) (flipped q) → Events version p q

-- any number of events
pub data Courses (version : ℕ) : Pair → Pair → Type 0 where
  Rests : (p : Pair) → Courses version p p
  Goes : (p q r : Pair) → Courses version p q → Events version q r → Courses version p r

-- ---- the link of it

-- what the link has as kept for an end that stands so
abbrev pub IsKept : Standing → Kept → Type 0
IsKept (Held k) l = l ≡ k
IsKept Free l = l ≡ fresh
IsKept _ l = ⊤

-- what the link has as on its way to such an end
abbrev pub IsComing : Standing → List Message → List Message → Type 0
IsComing (Held k) here ms = here ≡ ms
IsComing Free here ms = here ≡ ms
IsComing _ here ms = ⊤

abbrev pub is_destroyed : Standing → Bool
is_destroyed Destroyed = true
is_destroyed _ = false

-- the link stands so: it is cut once the service destroyed one of its ends
pub record IsAs (p : Pair) (l : Link) : Type 0 where
  pub near : IsKept p.near.standing l.near
  pub far : IsKept p.far.standing l.far
  pub here : IsComing p.near.standing l.here p.near.coming
  pub there : IsComing p.far.standing l.there p.far.coming
  pub near_deeds : l.near_deeds ≡ p.near_deeds
  pub far_deeds : l.far_deeds ≡ p.far_deeds
  pub cut : l.cut ≡ is_destroyed p.near.standing || is_destroyed p.far.standing
