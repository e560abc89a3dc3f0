-- What comes to an end: the messages of which reports stand for its owner, and the one that is on its way.
use Rattle.std.specs.Prelude.{◌≡◌, false, if◌then◌else◌, List, [], ◌++◌}
use mathlib.Core.List.{IsPrefix}
use Rattle.charlotte_calls.specs.Names.{opposite}
use Rattle.charlotte_calls.specs.declared.calls.ServiceStep.{ServiceStep}
use Rattle.charlotte_calls.specs.declared.names.EndId.{EndId}
use Rattle.service_step.specs.State.{State}
use Rattle.service_step.specs.declared.state.Inward.TheVariants as inward
use Rattle.service_step.specs.declared.state.Message.{Message}
use Rattle.service_step.specs.declared.state.Outward.TheVariants as outward
use Rattle.service_step.specs.declared.state.Place.{Place}
use Rattle.service_step.specs.declared.state.Place.TheVariants as place
use Rattle.service_streams.specs.Streams.{given_by, messages, outstanding, sent_by, told_in}

-- The message of the opposite end that waits or is matched. Once the death of the link was noticed none comes any more
abbrev pub on_way : State → EndId → List Message
on_way s x = if (s.ends x).noticed then [] else messages (outstanding (s.ends (opposite x)))

-- the messages of which reports stand for the owner of an end at this place
abbrev pub reported_to : State → EndId → Place → List Message
reported_to s x (place.Owned p) = told_in x (s.process p.0).reports
reported_to s x at = []

abbrev pub coming : State → EndId → List Message
coming s x = reported_to s x (s.ends x).place ++ on_way s x

-- What a step changes of that, at an end that is not destroyed: what it tells was the first, and what is sent on the opposite end comes behind all else.
-- Where the opposite end is destroyed, the last messages may not come any more
pub data ComesSo (s : State) (made : ServiceStep) (t : State) (x : EndId) : Type 0 where
  Goes : told_in x (given_by made) ++ coming t x ≡ coming s x ++ messages (sent_by (opposite x) made) → ComesSo s made t x
  Drops : (t.ends (opposite x)).place ≡ place.Destroyed → told_in x (given_by made) ≡ [] → IsPrefix (coming t x) (coming s x) → ComesSo s made t x
  Gone : (t.ends x).place ≡ place.Destroyed → ComesSo s made t x

-- a message that is matched is so with the receive of its opposite, unless that is destroyed or noticed the death
abbrev pub AreMatched : State → Type 0
AreMatched s =
    (f : EndId) (m : Message) → (s.ends f).outward ≡ outward.Matched m → ((s.ends (opposite f)).place ≡ place.Destroyed → ⊥)
    → (s.ends (opposite f)).noticed ≡ false → (s.ends (opposite f)).inward ≡ inward.Matched (s.ends f).sent
