use Rattle.std.proofs.Common.{◌≡◌, []}
use Rattle.process_run.specs.Actions.{fault_among}
use Rattle.lynx_rt.specs.Changes.{named}
use Rattle.lynx_rt.proofs.Faults.{faults_from}
use Rattle.lynx_rt.proofs.process.Running.link_fault.Given as goal

-- none is raised for the links so far
abbrev pub invariant-loop-place : goal.invariant-loop-place
invariant-loop-place l = faults_from l.end l.links l.place l.self ≡ fault_among (named l.end) [] l.links l.self
