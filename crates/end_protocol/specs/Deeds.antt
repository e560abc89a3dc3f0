-- The deeds on an end: what the promises on requests and replies speak of. Links in values count as their ends, which stand beside
-- the values.
use Rattle.std.specs.Prelude.{not, ◌&&◌, ℕ, if◌then◌else◌, List, [], ◌∷◌}
use Rattle.charlotte_calls.specs.declared.names.EndId.{EndId}
use Rattle.lynx_packets.specs.declared.value.RtValue.{RtValue}
use Rattle.end_protocol.specs.declared.hearing.Heard.{Heard}
use Rattle.end_protocol.specs.declared.hearing.Heard.TheVariants as heard
use Rattle.end_protocol.specs.declared.kept.Kept.{Kept}
use Rattle.end_protocol.specs.declared.kept.Response.{Response}
use Rattle.end_protocol.specs.declared.messages.Connect.{Connect}
use Rattle.end_protocol.specs.Asking.{later, is_owed}

pub data Deed : Type 0 where
  -- a connect passed its tests: the number, signature, values and ends of its request
  Issued : ℕ → List ℕ → List RtValue → List EndId → Deed
  -- an accept goes on with a request, or an entry's thread starts with one
  Accepted : ℕ → List ℕ → List RtValue → List EndId → Deed
  -- a reply passed its tests, or it is the failed reply of a close: the number, status, values and ends
  Replied : ℕ → ℕ → List RtValue → List EndId → Deed
  -- a connect goes on
  Returned : ℕ → ℕ → List RtValue → List EndId → Deed

-- the deed of a connect
abbrev pub issued_deeds : Connect → Kept → List Deed
issued_deeds c k = Issued (later k.last) c.signature c.values c.ends ∷ []

-- the deed of a reply: none where nothing is owed to its request, or where the end is dead
abbrev pub replied_deeds : Response → Kept → List Deed
replied_deeds r k = if is_owed r.number k.owed && not k.dead then Replied r.number r.status r.values r.ends ∷ [] else []

-- the deed of what was heard
abbrev pub heard_deeds : Heard → List Deed
heard_deeds (heard.Accepted w) = Accepted w.number w.signature w.values w.ends ∷ []
heard_deeds (heard.Returned thread r) = Returned r.number r.status r.values r.ends ∷ []
heard_deeds _ = []
