use Rattle.std.proofs.Common.{ap, ◌∙◌}
use Rattle.end_table.specs.Lent.{lent_entry}
use Rattle.end_table.specs.Table.{TableView, entries}
use Rattle.transcript_kept.proofs.Runs.{entry-none, entry-some}
use Rattle.transcript_kept.proofs.run.RunKernels.entry.Goals as goal

pub returns-in-Some : goal.returns-in-Some
returns-in-Some c =
    entry-some c.args.self.now c.args.kernel c.args.end c.in-Some.kernel.now (lent_entry c.lend.result) (c.in-Some.ensures c.args.self.now.setting c.requires.nodes)
    (c.lend.ensures.entry ∙ ap (λ (t : TableView). entries t c.args.end) c.table.ensures)

pub returns-in-None : goal.returns-in-None
returns-in-None c = entry-none c.args.self.now c.args.kernel c.args.end (c.in-None.ensures c.args.self.now.setting c.requires.nodes)
