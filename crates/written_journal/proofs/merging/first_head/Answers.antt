use Rattle.std.proofs.Common.{◌≡◌, ◌∙◌, [], ap, sym}
use Rattle.journal_text.specs.Heads.{entries_at, first_stamp}
use Rattle.journal_text.proofs.Heads.{IsFirstBelow-next}
use Rattle.std.proofs.lemmas.List.{get_or_default}
use Rattle.written_journal.proofs.merging.first_head.Goals as goal

pub loop-kernel-preserved : goal.loop-kernel-preserved
loop-kernel-preserved c =
    let at = get_or_default c.args.queues.now c.loop-kernel.kernel [] c.index-queues-kernel.result c.loop-kernel-test.true ∙ sym c.index-queues-kernel.is in
    let here : first_stamp (entries_at c.args.queues.now c.loop-kernel.kernel) ≡ c.stamp.result = ap first_stamp at ∙ sym c.stamp.ensures in
    rw c.earlier-first.ensures (IsFirstBelow-next c.args.queues.now c.loop-kernel.kernel c.loop-kernel.first c.stamp.result c.loop-kernel.invariant here)
