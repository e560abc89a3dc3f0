use Rattle.std.proofs.Common.{inr, sym, subst}
use Rattle.process_sound.specs.Processes.{IsRunning}
use Rattle.process_sound.proofs.Starts.{start_running}
use Rattle.lynx_rt.proofs.program.LynxProcess.start.Goals as goal

pub invariant_of-result : goal.invariant_of-result
invariant_of-result c = inr (record {
  running = subst IsRunning (sym c.in_ok-start.ensures.start) (start_running c.args.version c.args.code c.args.ends.items c.requires.version c.requires.code c.requires.params);
  exit = λ e. absurd cc;
})
