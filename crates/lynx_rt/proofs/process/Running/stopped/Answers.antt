use Rattle.std.proofs.Common.{refl, ap}
use Rattle.lynx_interp.specs.Runs.{stop_of}
use Rattle.lynx_rt.proofs.Calling.{rests_blocked, rests_finished}
use Rattle.lynx_rt.proofs.process.Running.stopped.Goals as goal

pub returns-in_ok-rests-in-AllBlocked-clause-stopped : goal.returns-in_ok-rests-in-AllBlocked-clause-stopped
returns-in_ok-rests-in-AllBlocked-clause-stopped c = λ left more.
    rests_blocked (stop_of c.args.stop) _ left c.args.self.now c.rests.new.self more _ (ap stop_of c.in-AllBlocked.is) refl c.in_ok-rests-in-AllBlocked.ensures.rests

pub returns-in_ok-rests-in-Finished-clause-stopped : goal.returns-in_ok-rests-in-Finished-clause-stopped
returns-in_ok-rests-in-Finished-clause-stopped c = λ left more.
    rests_finished (stop_of c.args.stop) _ left c.args.self.now c.rests-in-Finished.new.self more _ (ap stop_of c.in-Finished.is) refl c.in_ok-rests-in-Finished.ensures.rests
