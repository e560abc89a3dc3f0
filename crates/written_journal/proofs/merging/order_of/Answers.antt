use Rattle.std.proofs.Common.{◌≡◌, ℕ, List, [], Some, length, arith, ap, subst, rules}
use Rattle.std.proofs.lemmas.List.{length-map}
use Rattle.journal_text.specs.Heads.{IsFirstBelow, entries_at}
use Rattle.kernel_entries.specs.declared.entry.Entry.{Entry}
use Rattle.journal_text.proofs.Heads.{nothing-left}
use Rattle.written_journal.specs.Kept.{Happenings}
use Rattle.written_journal.specs.Merging.{journals_of}
use Rattle.written_journal.proofs.Merges.{IsMerging-end, moved-on, rising-at}
use Rattle.written_journal.proofs.merging.order_of.Goals as goal

pub loop-head-init : goal.loop-head-init
loop-head-init c =
    record {
      few = omega (arith, ap length c.in_ok-queues.ensures.same, length-map c.args.journals.now (λ (j : Happenings). j.entries));
      rising = rising-at c.in_ok-queues.queues.items c.in_ok-queues.ensures.rising;
      so_far = search rules;
    }

pub loop-head-smaller : goal.loop-head-smaller
loop-head-smaller c =
    let first = subst (λ (qs : List (List Entry)). IsFirstBelow qs (length qs) (Some c.in-Some.head)) c.deref.ensures.value c.in-Some.ensures in
    let step = moved-on (journals_of c.args.journals.now) c.loop-head.queues.items c.in-Some.head c.index_mut.result.now c.place_first.new.self c.loop-head.order c.place_first.new.order
    first c.index_mut.ensures.value c.in_ok-place_first.ensures c.loop-head.invariant in
    let count = step.count in
    omega (arith, count)

pub loop-head-preserved : goal.loop-head-preserved
loop-head-preserved c =
    let first = subst (λ (qs : List (List Entry)). IsFirstBelow qs (length qs) (Some c.in-Some.head)) c.deref.ensures.value c.in-Some.ensures in
    let step = moved-on (journals_of c.args.journals.now) c.loop-head.queues.items c.in-Some.head c.index_mut.result.now c.place_first.new.self c.loop-head.order c.place_first.new.order
    first c.index_mut.ensures.value c.in_ok-place_first.ensures c.loop-head.invariant in
    step.merging

pub returns : goal.returns
returns c =
    let none = nothing-left c.deref.result.now (length c.deref.result.now) (omega arith) c.in_default.ensures in
    let nothing = subst (λ (qs : List (List Entry)). (k : ℕ) → entries_at qs k ≡ []) c.deref.ensures.value none in
    IsMerging-end (journals_of c.args.journals.now) c.loop-head.queues.items c.loop-head.order nothing c.loop-head.invariant
