-- The caller waits where a posted receive is cancelled.
use Rattle.std.proofs.Common.{refl, sym, ◌∙◌}
use Rattle.end_table.specs.Table.{entries}
use Rattle.kernel_process.specs.Parts.{with_parts}
use Rattle.kernel_core.proofs.calling.turn_caller.Goals as goal

pub returns-in-Some-clause-part : goal.returns-in-Some-clause-part
unfolding with_parts
returns-in-Some-clause-part c = λ s.
    c.turn.ensures.part (entries c.args.table.now) s ∙ sym (c.in-Some.ensures (with_parts (entries c.args.table.now) c.args.processes.now s) refl)

pub returns-in-None-clause-part : goal.returns-in-None-clause-part
unfolding with_parts
returns-in-None-clause-part c = λ s. sym (c.in-None.ensures (with_parts (entries c.args.table.now) c.args.processes.now s) refl)
