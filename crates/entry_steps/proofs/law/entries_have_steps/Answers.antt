use Rattle.entry_steps.proofs.Entries.{entries-have_steps}
use Rattle.entry_steps.proofs.law.entries_have_steps.Goals as goal

pub returns : goal.returns
returns c = entries-have_steps
