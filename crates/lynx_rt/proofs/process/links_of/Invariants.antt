use Rattle.std.proofs.Common.{◌≡◌, ◌+◌, ◌++◌, drop}
use Rattle.process_run.specs.States.{links_from}
use Rattle.lynx_rt.proofs.process.links_of.Given as goal

-- the links so far
abbrev pub invariant-loop-place : goal.invariant-loop-place
invariant-loop-place l = l.links.items ++ links_from (l.place + 1) (drop l.place l.ends) ≡ links_from 1 l.ends
