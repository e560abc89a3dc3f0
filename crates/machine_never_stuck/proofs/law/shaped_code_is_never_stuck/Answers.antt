use Rattle.machine_never_stuck.proofs.Whole.{never_stuck}
use Rattle.machine_never_stuck.proofs.law.shaped_code_is_never_stuck.Goals as goal

pub returns : goal.returns
returns c = never_stuck
