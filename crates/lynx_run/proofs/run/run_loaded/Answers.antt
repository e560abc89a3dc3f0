use denote.Param.Send.{sendable}
use Rattle.std.proofs.Common.{rules}
use Rattle.lynx_run.proofs.Crossing.{role-send}
use Rattle.lynx_run.proofs.Running.{ran_loaded}
use Rattle.lynx_run.proofs.run.run_loaded.Goals as goal

pub run_programs-requires-send-P : goal.run_programs-requires-send-P
run_programs-requires-send-P g c κs within = search (role-send, sendable) depth 30

pub returns : goal.returns
returns g c =
    λ x is wired. ran_loaded x c.args.loaded c.args.driver.how.turns c.in_ok-lines.field-0 (record { lines = c.of.result; end = c.end_of.result }) is wired c.requires.turns c.in_ok-lines.ensures (search rules) (search rules)
