-- How the send of an end is kept, and what a change makes of an end.
use Rattle.std.specs.Prelude.{IsTrue, if◌then◌else◌}
use Rattle.service_step.specs.Ends.{dropped, is_made, matched_outward, noticed_end, returned_end}
use Rattle.service_step.specs.declared.state.End.{End}
use Rattle.service_step.specs.declared.state.Outward.{Outward}
use Rattle.service_step.specs.declared.state.Outward.TheVariants as outward
use Rattle.service_step.specs.declared.state.Place.TheVariants.{Destroyed}
use Rattle.service_links.specs.declared.kept.Stage.{Stage}
use Rattle.service_links.specs.declared.kept.Stage.TheVariants as stage
use Rattle.service_links.specs.declared.kept.Change.{Change}
use Rattle.service_links.specs.declared.kept.Change.TheVariants as change

-- the send
abbrev pub outward_of : Stage → Outward
outward_of stage.Idle = outward.Idle
outward_of (stage.Waiting m) = outward.Waiting m
outward_of (stage.Matched m) = outward.Matched m
outward_of stage.Taken = outward.Taken
outward_of stage.Unreported = outward.Unreported

-- a change after which an end of a made link is one still
abbrev pub KeepsMade : Change → Type 0
KeepsMade (change.Comes at) = IsTrue (is_made at)
KeepsMade c = Unit {0}

-- what f makes of an end of a made link; any other end stays
abbrev pub where_made : (End → End) → End → End
where_made f x = if is_made x.place then f x else x

-- an end after a change
abbrev pub after : Change → End → End
after (change.Comes at) x = record x { place = at }
after (change.Receives to) x = record x { inward = to }
after (change.Sends to) x = record x { outward = outward_of to }
after (change.Starts n m) x = record x { outward = outward.Waiting m; sent = n }
after change.Matches x = record x { outward = matched_outward x.outward }
after change.Dies x = record x { place = Destroyed; outward = dropped x.outward }
after change.Notices x = noticed_end x
after change.Returns x = returned_end x
