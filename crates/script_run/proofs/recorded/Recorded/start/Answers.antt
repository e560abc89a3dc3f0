use Rattle.script_run.proofs.Performances.{IsStarting, starting-entries, starting-ready}
use Rattle.script_run.specs.declared.recorded.Recorded.{Recorded}
use Rattle.script_run.proofs.recorded.Recorded.start.Goals as goal

abbrev made : goal.In_ok-empty_journals → Recorded
made c = record { nodes = c.in_ok-start.field-0; journals = c.in_ok-empty_journals.field-0 }

starting : (c : goal.In_ok-empty_journals) → IsStarting c.args.setting.now (made c)
starting c = record { nodes = c.in_ok-start.ensures.nodes; world = c.in_ok-start.ensures.start; count = c.in_ok-empty_journals.ensures.count; empty = c.in_ok-empty_journals.ensures.empty }

pub returns-clause-ready : goal.returns-clause-ready
returns-clause-ready c = starting-ready c.args.setting.now (made c) (starting c)

pub returns-clause-entries : goal.returns-clause-entries
returns-clause-entries c = starting-entries c.args.setting.now (made c) (starting c)
