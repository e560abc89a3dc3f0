use Rattle.std.proofs.Common.{◌≡◌, ◌++◌, [], ◌∷◌, ap, ◌∙◌, arith}
use Rattle.report_queue.specs.Queue.{QueueView}
use Rattle.report_queue.proofs.Laid.{joined-reports, joined-whole}
use Rattle.report_queue.proofs.queue.ReportQueue.push.Goals as goal

pub invariant_of-self : goal.invariant_of-self
invariant_of-self c =
    let fits : c.self.inside.fits ≡ c.args.self.now.fits = ap (λ (v : QueueView). v.fits) c.self.view_is in
    record {
      whole = joined-whole c.head_of-head.result c.args.report.now c.head_of-head.ensures.bytes c.head_of-head.ensures.ends _ _ _ _ _ _ c.self.invariant.whole c.extend.ensures.items
          (c.extend-2.ensures.items ∙ ap (λ l. c.self.inside.bytes.items ++ l) c.as_slice-bytes.ensures.same)
          (c.extend-3.ensures.items ∙ ap (λ l. c.self.inside.ends.items ++ l) c.as_slice-ends.ensures.same)
          c.head_of-head.ensures.few c.head_of-head.ensures.some;
      heads = omega (arith, fits, c.requires, c.self.invariant.heads, c.extend.ensures.room);
      bytes = omega (arith, fits, c.requires, c.self.invariant.bytes, c.extend-2.ensures.room, c.as_slice-bytes.ensures.within);
      ends = omega (arith, fits, c.requires, c.self.invariant.ends, c.extend-3.ensures.room, c.as_slice-ends.ensures.within);
    }

pub returns-clause-items : goal.returns-clause-items
returns-clause-items c =
    joined-reports c.head_of-head.result c.args.report.now c.head_of-head.ensures.bytes c.head_of-head.ensures.ends _ _ _ _ _ _ c.self.invariant.whole c.extend.ensures.items
    (c.extend-2.ensures.items ∙ ap (λ l. c.self.inside.bytes.items ++ l) c.as_slice-bytes.ensures.same)
    (c.extend-3.ensures.items ∙ ap (λ l. c.self.inside.ends.items ++ l) c.as_slice-ends.ensures.same)
    c.head_of-head.ensures.same
    ∙ ap (λ (v : QueueView). v.items ++ c.args.report.now ∷ []) c.self.view_is
