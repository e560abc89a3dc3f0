use Rattle.std.proofs.Common.{drop, length, nat_eq, ap, sym, ◌∙◌}
use Rattle.report_queue.specs.Queue.{QueueView, reports}
use Rattle.report_queue.proofs.Laid.{no-heads, some-reports}
use Rattle.report_queue.proofs.queue.ReportQueue.is_empty.Goals as goal

pub returns-in-Some : goal.returns-in-Some
returns-in-Some c =
    some-reports c.in-Some.field-0 (drop 1 c.self.inside.heads.items) c.self.inside.bytes.items c.self.inside.ends.items ∙ sym (ap (λ hs. nat_eq (length (reports hs c.self.inside.bytes.items c.self.inside.ends.items)) 0) c.in-Some.ensures)
    ∙ ap (λ (v : QueueView). nat_eq (length v.items) 0) c.self.view_is

pub returns-in-None : goal.returns-in-None
returns-in-None c =
    sym (ap (λ hs. nat_eq (length (reports hs c.self.inside.bytes.items c.self.inside.ends.items)) 0) (no-heads _ c.in-None.ensures))
    ∙ ap (λ (v : QueueView). nat_eq (length v.items) 0) c.self.view_is
