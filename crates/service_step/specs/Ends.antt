-- The table of all ends, as a function of the end, and what the steps do with it. An end has a place, an activity outward (a
-- send) and one inward (a receive), a count of its sends, and a mark, `noticed`, once the death of its link was noticed at it.
use Rattle.std.specs.Prelude.{ℕ, Bool, true, false, nat_eq, ◌&&◌, ◌||◌, not, if◌then◌else◌, Option, Some, None, List, []}
use Rattle.std.specs.List.{fold}
use Rattle.charlotte_calls.specs.declared.names.EndId.{EndId}
use Rattle.charlotte_calls.specs.declared.names.Pid.{Pid}
use Rattle.charlotte_calls.specs.declared.names.Way.{Way}
use Rattle.charlotte_calls.specs.declared.names.Way.TheVariants as way
use Rattle.charlotte_calls.specs.Causes.{Activity, Idle, Started, Matched, Unreported, is_started, is_unreported}
use Rattle.charlotte_calls.specs.Causes as causes
unfoldable pub use Rattle.charlotte_calls.specs.EndEq.{end_eq}
use Rattle.charlotte_calls.specs.Names.{opposite}
use Rattle.service_step.specs.declared.state.End.{End}
use Rattle.service_step.specs.declared.state.Place.{Place}
use Rattle.service_step.specs.declared.state.Place.TheVariants as place
use Rattle.service_step.specs.declared.state.Message.{Message}
use Rattle.service_step.specs.declared.state.Outward.{Outward}
use Rattle.service_step.specs.declared.state.Outward.TheVariants as outward
use Rattle.service_step.specs.declared.state.Inward.{Inward}
use Rattle.service_step.specs.declared.state.Inward.TheVariants as inward

-- an end at a place, with both activities idle, no sends and no mark
abbrev pub fresh : Place → End
fresh at = record { place = at; outward = outward.Idle; inward = inward.Idle; sent = 0; noticed = false }

-- an end of a link that was not made
abbrev pub unmade : End
unmade = fresh place.Unmade

-- tests of a place

abbrev pub is_made : Place → Bool
is_made (place.Owned p) = true
is_made (place.InMessage f n) = true
is_made place.Destroyed = true
is_made place.Unmade = false

abbrev pub is_destroyed : Place → Bool
is_destroyed (place.Owned p) = false
is_destroyed (place.InMessage f n) = false
is_destroyed place.Destroyed = true
is_destroyed place.Unmade = false

abbrev pub is_living : Place → Bool
is_living at = is_made at && not (is_destroyed at)

abbrev pub owner : Place → Option Pid
owner (place.Owned p) = Some p
owner (place.InMessage f n) = None
owner place.Destroyed = None
owner place.Unmade = None

abbrev pub is_owned_by : Pid → Place → Bool
is_owned_by p (place.Owned q) = nat_eq p.0 q.0
is_owned_by p (place.InMessage f n) = false
is_owned_by p place.Destroyed = false
is_owned_by p place.Unmade = false

-- the message of a Waiting send
abbrev pub waiting_message : Outward → Option Message
waiting_message (outward.Waiting m) = Some m
waiting_message outward.Idle = None
waiting_message (outward.Matched m) = None
waiting_message outward.Taken = None
waiting_message outward.Unreported = None

-- the message of a Matched send
abbrev pub matched_message : Outward → Option Message
matched_message (outward.Matched m) = Some m
matched_message outward.Idle = None
matched_message (outward.Waiting m) = None
matched_message outward.Taken = None
matched_message outward.Unreported = None

-- the ends that a message carries, where there is one
abbrev pub carried_by : Option Message → List EndId
carried_by None = []
carried_by (Some m) = m.carried

-- how far an activity has come. A message that was taken can no more be taken back than one that is matched; a receive may be
-- taken back until its report stands, though that comes too late where the message is on its way

abbrev pub outward_activity : Outward → Activity
outward_activity outward.Idle = Idle
outward_activity (outward.Waiting m) = Started
outward_activity (outward.Matched m) = Matched
outward_activity outward.Taken = Matched
outward_activity outward.Unreported = Unreported

abbrev pub inward_activity : Inward → Activity
inward_activity inward.Idle = Idle
inward_activity inward.Posted = Started
inward_activity inward.Withdrawn = Started
inward_activity (inward.Matched n) = Started
inward_activity inward.Unreported = Unreported

abbrev pub is_idle_outward : Outward → Bool
is_idle_outward x = causes.is_idle (outward_activity x)

abbrev pub is_idle_inward : Inward → Bool
is_idle_inward x = causes.is_idle (inward_activity x)

abbrev pub is_started_outward : Outward → Bool
is_started_outward x = is_started (outward_activity x)

abbrev pub is_started_inward : Inward → Bool
is_started_inward x = is_started (inward_activity x)

abbrev pub is_unreported_outward : Outward → Bool
is_unreported_outward x = is_unreported (outward_activity x)

abbrev pub is_unreported_inward : Inward → Bool
is_unreported_inward x = is_unreported (inward_activity x)

-- the message was taken, and its sender does not know it yet
abbrev pub is_taken : Outward → Bool
is_taken outward.Taken = true
is_taken outward.Idle = false
is_taken (outward.Waiting m) = false
is_taken (outward.Matched m) = false
is_taken outward.Unreported = false

abbrev pub is_posted : Inward → Bool
is_posted inward.Posted = true
is_posted inward.Idle = false
is_posted inward.Withdrawn = false
is_posted (inward.Matched n) = false
is_posted inward.Unreported = false

abbrev pub is_withdrawn : Inward → Bool
is_withdrawn inward.Withdrawn = true
is_withdrawn inward.Idle = false
is_withdrawn inward.Posted = false
is_withdrawn (inward.Matched n) = false
is_withdrawn inward.Unreported = false

-- matched with the message of this number
abbrev pub is_matched_with : ℕ → Inward → Bool
is_matched_with n (inward.Matched m) = nat_eq m n
is_matched_with n inward.Idle = false
is_matched_with n inward.Posted = false
is_matched_with n inward.Withdrawn = false
is_matched_with n inward.Unreported = false

-- matched with some message
abbrev pub is_matched_inward : Inward → Bool
is_matched_inward (inward.Matched n) = true
is_matched_inward inward.Idle = false
is_matched_inward inward.Posted = false
is_matched_inward inward.Withdrawn = false
is_matched_inward inward.Unreported = false

-- no activity is started or unreported
abbrev pub is_idle : End → Bool
is_idle x = is_idle_outward x.outward && is_idle_inward x.inward

-- an activity is started
abbrev pub is_active : End → Bool
is_active x = is_started_outward x.outward || is_started_inward x.inward

-- the table with an end so, and every other end as it was
abbrev pub put : (EndId → End) → EndId → End → (EndId → End)
put table e x = λ q. if end_eq e q then x else table q

-- an end becomes x; an end of no made link stays so
unfoldable pub puts : EndId → End → (EndId → End) → (EndId → End)
puts e x table = if is_made (table e).place then put table e x else table

-- each of these ends comes to this place, in their order
unfoldable pub places : Place → List EndId → (EndId → End) → (EndId → End)
places at xs table = fold (λ so_far x. puts x (record (so_far x) { place = at }) so_far) table xs

-- make: both ends of a link are the maker's
unfoldable pub makes : Pid → EndId → EndId → (EndId → End) → (EndId → End)
makes p a b table = put (put table a (fresh (place.Owned p))) b (fresh (place.Owned p))

-- a Waiting message is dropped
abbrev pub dropped : Outward → Outward
dropped (outward.Waiting m) = outward.Idle
dropped outward.Idle = outward.Idle
dropped (outward.Matched m) = outward.Matched m
dropped outward.Taken = outward.Taken
dropped outward.Unreported = outward.Unreported

-- destroy: a Waiting message is dropped, and each end that it carries is destroyed
unfoldable pub destroys : EndId → (EndId → End) → (EndId → End)
destroys e table =
    let x = table e in
    places place.Destroyed (carried_by (waiting_message x.outward))
    (puts e (record x { place = place.Destroyed; outward = dropped x.outward }) table)

-- destroy, where p owns the end
unfoldable pub destroys_owned : Pid → EndId → (EndId → End) → (EndId → End)
destroys_owned p e table = if is_owned_by p (table e).place then destroys e table else table

-- exit: each of these ends that p owns, as by destroy
unfoldable pub destroys_each : Pid → List EndId → (EndId → End) → (EndId → End)
destroys_each p mine table = fold (λ so_far e. destroys_owned p e so_far) table mine

-- send: the message n waits, and the ends that it carries are in it
unfoldable pub starts_send : EndId → ℕ → Message → (EndId → End) → (EndId → End)
starts_send e n m table =
    places (place.InMessage e n) m.carried (puts e (record (table e) { outward = outward.Waiting m; sent = n }) table)

-- the activity inward comes so far
unfoldable pub turns_inward : Inward → EndId → (EndId → End) → (EndId → End)
turns_inward to e table = puts e (record (table e) { inward = to }) table

-- the activity outward comes so far
unfoldable pub turns_outward : Outward → EndId → (EndId → End) → (EndId → End)
turns_outward to e table = puts e (record (table e) { outward = to }) table

-- the activity of a way is idle again
unfoldable pub idles : Way → EndId → (EndId → End) → (EndId → End)
idles way.Outward e table = turns_outward outward.Idle e table
idles way.Inward e table = turns_inward inward.Idle e table

-- cancel of a send: each end that the message carries is p's again
unfoldable pub withdraws_send : Pid → EndId → (EndId → End) → (EndId → End)
withdraws_send p e table =
    places (place.Owned p) (carried_by (waiting_message (table e).outward)) (turns_outward outward.Idle e table)

-- a Waiting message is Matched
abbrev pub matched_outward : Outward → Outward
matched_outward (outward.Waiting m) = outward.Matched m
matched_outward outward.Idle = outward.Idle
matched_outward (outward.Matched m) = outward.Matched m
matched_outward outward.Taken = outward.Taken
matched_outward outward.Unreported = outward.Unreported

-- match: the send of e and the receive of its opposite come together
unfoldable pub matches : EndId → ℕ → (EndId → End) → (EndId → End)
matches e n table = turns_inward (inward.Matched n) (opposite e) (turns_outward (matched_outward (table e).outward) e table)

-- take: the send is Taken, the receive of the opposite is over, and each end that the message carries is p's
unfoldable pub takes : EndId → Pid → (EndId → End) → (EndId → End)
takes e p table =
    places (place.Owned p) (carried_by (matched_message (table e).outward))
    (turns_inward inward.Unreported (opposite e) (turns_outward outward.Taken e table))

-- a Waiting send is over
abbrev pub noticed_outward : Outward → Outward
noticed_outward (outward.Waiting m) = outward.Unreported
noticed_outward outward.Idle = outward.Idle
noticed_outward (outward.Matched m) = outward.Matched m
noticed_outward outward.Taken = outward.Taken
noticed_outward outward.Unreported = outward.Unreported

-- a started receive is over
abbrev pub noticed_inward : Inward → Inward
noticed_inward x = if is_started_inward x then inward.Unreported else x

-- notice, as far as the end itself goes: a Waiting send and a started receive are over
abbrev pub noticed_end : End → End
noticed_end x = record x { noticed = true; outward = noticed_outward x.outward; inward = noticed_inward x.inward }

-- these ends go to an owner, where there is one
abbrev pub to_owner : Option Pid → List EndId → (EndId → End) → (EndId → End)
to_owner None xs table = table
to_owner (Some p) xs table = places (place.Owned p) xs table

-- notice: each end that a Waiting message carries goes to the owner
unfoldable pub notices : EndId → (EndId → End) → (EndId → End)
notices e table =
    let x = table e in
    to_owner (owner x.place) (carried_by (waiting_message x.outward)) (puts e (noticed_end x) table)

-- back at an owned end, as far as the end itself goes: the send is over, and then as by notice if the mark is not there
abbrev pub returned_end : End → End
returned_end x =
    if x.noticed then record x { outward = outward.Unreported }
    else noticed_end (record x { outward = outward.Unreported })

-- back: at an owned end the send is over and each end that the message carries goes to the owner; at a destroyed end the send
-- is idle and each of them is destroyed
unfoldable pub returns : EndId → (EndId → End) → (EndId → End)
returns e table =
    let x = table e in
    let xs = carried_by (matched_message x.outward) in
    if is_destroyed x.place then places place.Destroyed xs (turns_outward outward.Idle e table)
    else to_owner (owner x.place) xs (puts e (returned_end x) table)
