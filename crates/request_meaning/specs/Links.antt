-- A link by itself: its two ends, whoever owns them, and what is on its way between them. What may happen there, as far as requests and replies go.
use Rattle.std.specs.Prelude.{◌≡◌, Bool, true, false, ℕ, if◌then◌else◌, List, [], ◌∷◌, ◌++◌, None, ⊤}
use mathlib.Core.List.{IsPrefix}
use Rattle.end_protocol.specs.declared.hearing.Heard.{Heard as Outcome}
use Rattle.end_protocol.specs.declared.hearing.Heard.TheVariants as heard
use Rattle.end_protocol.specs.declared.kept.Kept.{Kept}
use Rattle.end_protocol.specs.declared.messages.Message.{Message}
use Rattle.end_protocol.specs.Deeds.{Deed, heard_deeds}
use Rattle.end_protocol.specs.Falling.{dies}
use Rattle.end_protocol.specs.Going.{enclosed, sent}
use Rattle.end_protocol.specs.Happenings.{Happening, Connects, Replies, Hears, Sends, Dies, after, deeds_of}
use Rattle.end_protocol.specs.Hearing.{hears}
use Rattle.end_protocol.specs.Kept.{fresh}
use Rattle.end_protocol.specs.Wanting.{is_busy}
use Rattle.request_meaning.specs.Phases.{HasLinks}

-- Seen from one end. `there` is on its way to the other end, `here` to this one, the oldest first: sent, and not heard yet. The deeds are
-- those on either end so far. The link is cut once one of its ends is to be destroyed or is destroyed
pub record Link : Type 0 where
  pub near : Kept
  pub far : Kept
  pub there : List Message
  pub here : List Message
  pub near_deeds : List Deed
  pub far_deeds : List Deed
  pub cut : Bool

abbrev pub start : Link
start = record { near = fresh; far = fresh; there = []; here = []; near_deeds = []; far_deeds = []; cut = false }

-- seen from the other end
abbrev pub turned : Link → Link
turned l =
    record {
      near = l.far;
      far = l.near;
      there = l.here;
      here = l.there;
      near_deeds = l.far_deeds;
      far_deeds = l.near_deeds;
      cut = l.cut;
    }

-- ---- what threads do, and answers and reports without a message

-- Requests and replies have the ends of their link values. Nobody connects on a dead end. Messages and deaths have steps of their own
abbrev pub MayHappen : Happening → Kept → Type 0
MayHappen (Connects c) k = (k.dead ≡ false) × HasLinks c.values c.ends
MayHappen (Replies r) k = HasLinks r.values r.ends
MayHappen (Hears room packet xs) k = ⊥
MayHappen Sends k = ⊥
MayHappen Dies k = ⊥
MayHappen _ k = ⊤

abbrev pub happened : ℕ → Happening → Link → Link
happened version h l =
    record l { near = after version h l.near; near_deeds = l.near_deeds ++ deeds_of version h l.near }

-- ---- messages

-- a message, with the ends that a Send encloses
abbrev pub enclosing : ℕ → Message → Message
enclosing version m = record m { ends = enclosed version m }

-- The first message of the queue is sent. Over a link that is cut none comes any more
abbrev pub sent_off : ℕ → Message → Link → Link
sent_off version m l =
    record l { near = sent l.near; there = if l.cut then l.there else l.there ++ enclosing version m ∷ [] }

-- where a message can't be read, the end is destroyed
abbrev pub unless_unreadable : Outcome → Link → Link
unless_unreadable (heard.Unreadable xs) l = record l { near = dies l.near; cut = true }
unless_unreadable _ l = l

-- this comes of a message, behind which these are on their way
abbrev pub comes_of : Kept × Outcome → List Message → Link → Link
comes_of x rest l =
    unless_unreadable x.1 (record l { near = x.0; here = rest; near_deeds = l.near_deeds ++ heard_deeds x.1 })

abbrev pub heard_on : ℕ → Bool → Message → List Message → Link → Link
heard_on version room m rest l = comes_of (hears version room m.packet m.ends l.near) rest l

-- ---- moves

-- The end goes to another process: it is at rest, and no request is in part, for which a Receive would be started. Over a link that is cut
-- nothing is on its way to it, since a message that is would be received
pub record MayMove (l : Link) : Type 0 where
  pub rests : is_busy l.near ≡ false
  pub whole : l.near.request ≡ None
  pub none_comes : l.cut ≡ true → l.here ≡ []

-- ---- steps

-- of the end that is near, or of the other one
pub data Steps (version : ℕ) : Link → Link → Type 0 where
  Happened : (h : Happening) (l : Link) → MayHappen h l.near → Steps version l (happened version h l)
  Sent : (m : Message) (rest : List Message) (l : Link) → l.near.queue ≡ m ∷ rest → Steps version l (sent_off version m l)
  Heard : (room : Bool) (m : Message) (rest : List Message) (l : Link) → l.here ≡ m ∷ rest → Steps version l (heard_on version room m rest l)
  -- it has another owner, or its owner holds it again
  Moved : (l : Link) → MayMove l → Steps version l (record l { near = fresh })
  -- the link is cut: of what is on its way only a part may still come, the first of it
  Cut : (there here : List Message) (l : Link) → IsPrefix there l.there → IsPrefix here l.here
      → Steps version l (record l { there = there; here = here; cut = true })
  -- it is destroyed, or is told that the link is dead
  Died : (l : Link) → l.cut ≡ true → Steps version l (record l { near = dies l.near })
  Turned : (l m : Link) → Steps version (turned l) (turned m) → Steps version l m

-- any number of steps
pub data Runs (version : ℕ) : Link → Link → Type 0 where
  Rests : (l : Link) → Runs version l l
  Goes : (k l m : Link) → Runs version k l → Steps version l m → Runs version k m
