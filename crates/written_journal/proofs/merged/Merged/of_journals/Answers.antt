use Rattle.std.proofs.Common.{List, ap, sym, subst}
use Rattle.kernel_entries.specs.Order.{IsMerge}
use Rattle.journal_text.proofs.Merges.{merge-unique}
use Rattle.written_journal.specs.Kept.{Happenings}
use Rattle.written_journal.specs.Merging.{journals_of}
use Rattle.written_journal.proofs.InOrder.{are-all}
use Rattle.written_journal.proofs.merged.Merged.of_journals.Goals as goal

merge : (c : goal.In_ok-readers) → IsMerge (journals_of c.args.journals.items) c.in_ok-order.order
merge c =
    subst (λ (js : List Happenings). IsMerge (journals_of js) c.in_ok-order.order) c.in_ok-stored.ensures
    (subst (λ (js : List Happenings). IsMerge (journals_of js) c.in_ok-order.order) c.deref.ensures.value c.in_ok-order.ensures)

pub invariant_of-result : goal.invariant_of-result
invariant_of-result c =
    are-all c.in_ok-stored.stored.items c.in_ok-readers.readers.items c.in_ok-order.order c.in_ok-readers.ensures
    (subst (λ (js : List Happenings). IsMerge (journals_of js) c.in_ok-order.order) c.deref.ensures.value c.in_ok-order.ensures)

pub returns-clause-merge : goal.returns-clause-merge
returns-clause-merge c = merge c

pub returns-clause-only : goal.returns-clause-only
returns-clause-only c = λ ps other. merge-unique (journals_of c.args.journals.items) ps c.in_ok-order.order other (merge c)
