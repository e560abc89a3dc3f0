use Rattle.run_links.proofs.Plans.{loaded-wired}
use Rattle.run_links.proofs.law.loaded_plans_are_sound.Goals as goal

pub returns : goal.returns
returns c = loaded-wired
