-- Where the ends of a process are: those that it holds, those that it carries for its messages, and those that it is to destroy.
use Rattle.std.specs.Prelude.{ℕ, ◌+◌, if◌then◌else◌, List, [], ◌∷◌, ◌++◌, flat_map, Option, Some}
use Rattle.charlotte_calls.specs.EndEq.{end_eq}
use Rattle.charlotte_calls.specs.declared.calls.Answer.{Answer}
use Rattle.charlotte_calls.specs.declared.calls.Answer.TheVariants as answer
use Rattle.charlotte_calls.specs.declared.names.EndId.{EndId}
use Rattle.end_protocol.specs.declared.hearing.Heard.{Heard}
use Rattle.end_protocol.specs.declared.hearing.Heard.TheVariants as heard
use Rattle.end_protocol.specs.declared.kept.Kept.{Kept}
use Rattle.end_protocol.specs.Falling.{destroyed, fallen, held_again, outstanding_ends, reply_ends, request_ends}
use Rattle.process_run.specs.States.{Gone, Holding, Keeps, Place, State}

-- the places of a process, the ends that it destroys before it does anything else, and those that it has in hand within a step
pub record Ledger : Type 0 where
  pub places : List Place
  pub doomed : List EndId
  pub hand : List EndId

-- the ends that an answer brings
abbrev pub brought : Option Answer → List EndId
brought (Some (answer.Made a b)) = a ∷ b ∷ []
brought (Some (answer.Reported r)) = r.enclosed
brought _ = []

-- a process with these ends in hand
abbrev pub ledger : State → List EndId → Ledger
ledger s xs = record { places = s.places; doomed = s.doomed; hand = xs }

-- how often an end is among these
abbrev pub how_often : EndId → List EndId → ℕ
how_often x [] = 0
how_often x (y ∷ ys) = (if end_eq y x then 1 else 0) + how_often x ys

-- the ends in what is kept for an end: in packets, with connects, and with a request or reply in part
abbrev pub carried : Kept → List EndId
carried k =
    flat_map (λ m. m.ends) k.queue ++ outstanding_ends k.outstanding ++ flat_map (λ c. c.ends) k.behind
    ++ request_ends k.request ++ reply_ends k.reply

abbrev pub carried_in : Holding → List EndId
carried_in (Keeps k) = carried k
carried_in (Gone own) = []

abbrev pub carried_at : List Place → List EndId
carried_at ps = flat_map (λ p. carried_in p.holding) ps

-- the ends that an end gives back when it dies or is destroyed: first those that are held again, then those that are destroyed
abbrev pub given_back : Kept → List EndId
given_back k = held_again (fallen k) ++ destroyed (fallen k)

-- the ends that come with what is heard
abbrev pub came_with : Heard → List EndId
came_with (heard.Accepted w) = w.ends
came_with (heard.Returned thread r) = r.ends
came_with (heard.TooLate xs) = xs
came_with (heard.Unreadable xs) = xs
came_with heard.Nothing = []
