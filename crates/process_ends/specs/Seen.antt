-- Holdings, as the definition of a process run has them.
use Rattle.process_run.specs.States as states
use Rattle.process_ends.specs.declared.place.Holding.{Holding}
use Rattle.process_ends.specs.declared.place.Holding.TheVariants as held

abbrev pub seen : Holding → states.Holding
seen (held.Keeps k) = states.Keeps k.value
seen (held.Gone own) = states.Gone own
