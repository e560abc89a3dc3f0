use Rattle.std.proofs.Common.{◌≡◌, [], drop, ap, sym, ◌∙◌}
use Rattle.report_queue.specs.Queue.{QueueView, reports}
use Rattle.report_queue.proofs.Laid.{no-heads}
use Rattle.report_queue.proofs.queue.ReportQueue.pop.Goals as goal

pub returns-in-None-clause-rest : goal.returns-in-None-clause-rest
returns-in-None-clause-rest c =
    let none : c.args.self.now.items ≡ [] =
    sym (ap (λ (v : QueueView). v.items) c.self.view_is) ∙ ap (λ hs. reports hs c.self.inside.bytes.items c.self.inside.ends.items) (no-heads _ c.in-None.ensures) in
    none ∙ sym (ap (drop 1) none)
