use Rattle.std.proofs.Common.{refl}
use Rattle.written_journal.proofs.Events.{nothing-kept}
use Rattle.written_journal.proofs.written.Written.nothing.Goals as goal

pub returns : goal.returns
returns c = nothing-kept _ c.new.ensures.items c.new-2.ensures.items c.new-3.ensures.items
