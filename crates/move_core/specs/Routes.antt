-- Where packets for an end go.
use Rattle.end_table.specs.declared.entry.Entry.{Entry}
use Rattle.end_table.specs.declared.entry.Entry.TheVariants as entry
use Rattle.move_core.specs.declared.forward.Route.{Route}
use Rattle.move_core.specs.declared.forward.Route.TheVariants as route

-- to the end, after it, or nowhere
abbrev pub route_of : Entry → Route
route_of entry.Nothing = route.Stale
route_of (entry.Here v) = route.Here
route_of (entry.Left to hops) = route.Forward to
route_of (entry.Destroyed m) = route.Stale
