use Rattle.std.proofs.Common.{◌≡◌, ◌≤◌, All, List, arith, length, map, sym, subst, ◌∙◌}
use Rattle.charlotte_calls.specs.declared.setting.Setting.{Setting}
use Rattle.transcript_lines.specs.declared.last.ScriptNote.{ScriptNote}
use Rattle.transcript_lines.specs.TranscriptText.{IsNoteInRange}
use Rattle.kernel_entries.specs.Ranges.{IsPlacedInRange}
use Rattle.kernel_entries.specs.Order.{IsMerge}
use Rattle.kernel_entries.specs.declared.entry.Entry.{Entry}
use Rattle.lynx_plan.specs.declared.script.ScriptLine.{ScriptLine}
use Rattle.script_run.specs.Recorded.{AreLinesDone}
use Rattle.script_run.specs.Performing.{IsPerformance}
use Rattle.script_run.specs.declared.recorded.Recorded.{Recorded}
use Rattle.script_run.proofs.Events.{entries_of}
use Rattle.script_run.proofs.Performances.{performance, performance-told}
use Rattle.script_run.proofs.Ranges.{merged_in_range}
use Rattle.script_run.proofs.performance.perform.Goals as goal

performed : goal.returns-clause-performed
performed c =
    let s : Setting = c.args.setting.now in
    let a : Recorded = c.in_ok-run.run' in
    let b : Recorded = c.do_lines.new.run in
    let done : AreLinesDone s c.args.lines c.in_ok-notes.notes.items a b =
    subst (λ (ls : List ScriptLine). AreLinesDone s ls c.in_ok-notes.notes.items a b) c.of.ensures c.in_ok-notes.ensures in
    let merge : IsMerge (map entries_of b.journals.items) c.in_ok-merged.merged = subst (λ (js : List (List Entry)). IsMerge js c.in_ok-merged.merged) c.into_journals.ensures c.in_ok-merged.ensures.merge in
    subst (λ (notes : List ScriptNote). IsPerformance s c.args.lines c.in_ok-merged.merged notes c.last_of-last.result) (sym c.of-2.ensures)
    (performance s c.args.lines c.in_ok-merged.merged c.in_ok-notes.notes.items c.last_of-last.result a b c.in_ok-run.ensures.ready c.in_ok-run.ensures.start c.in_ok-run.ensures.entries done merge (c.last_of-last.ensures s) c.requires.few)

pub returns-clause-performed : goal.returns-clause-performed
returns-clause-performed c = performed c

pub returns-clause-told : goal.returns-clause-told
returns-clause-told c =
    let s : Setting = c.args.setting.now in
    let b : Recorded = c.do_lines.new.run in
    let merge : IsMerge (map entries_of b.journals.items) c.in_ok-merged.merged = subst (λ (js : List (List Entry)). IsMerge js c.in_ok-merged.merged) c.into_journals.ensures c.in_ok-merged.ensures.merge in
    let is = c.in_ok-notes.ensures.goes.recorded in
    let count : length b.journals.items ≡ s.kernels = is.journals in
    let few : s.kernels ≤ 8 = c.requires.valid.limits.kernels in
    let entries : All IsPlacedInRange c.in_ok-merged.merged = merged_in_range b.journals.items c.in_ok-merged.merged is.in_range (omega (arith, count, few)) merge in
    let note_lines : All IsNoteInRange c.of-2.result = subst (All IsNoteInRange) (c.deref.ensures.value ∙ sym c.of-2.ensures) c.tell_notes.ensures in
    performance-told s c.args.lines c.in_ok-merged.merged c.of-2.result c.last_of-last.result c.requires.valid c.requires.rising entries note_lines (performed c)
