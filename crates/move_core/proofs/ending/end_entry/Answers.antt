use Rattle.std.proofs.Common.{ap, ◌∙◌}
use Rattle.end_table.specs.Entries.{ended_entry}
use Rattle.end_table.specs.Table.{Puts}
use Rattle.kernel_step.specs.Progress.{progress}
use Rattle.kernel_step.proofs.Steps.{IfHere-map, kept-IfHere, progress-put}
use Rattle.move_core.proofs.ending.end_entry.Goals as goal

pub returns-clause-part : goal.returns-clause-part
returns-clause-part c =
    IfHere-map (λ v. Puts c.args.table.now c.end_here-mark.new.self c.args.on (ended_entry v.value)) _ _
    (λ v same puts out. ap (λ t. progress t out) c.release.ensures.entries ∙ progress-put _ _ c.args.on (ended_entry v.value) out puts.after) c.end_here-mark.ensures.ended

pub returns-clause-kept : goal.returns-clause-kept
returns-clause-kept c =
    let kept = kept-IfHere _ _ c.args.on (λ v. ended_entry v.value) c.requires.here c.end_here-mark.ensures.ended in
    record {
      others = λ q apart. ap (λ t. t q) c.release.ensures.entries ∙ kept.others q apart;
      kernel = c.release.ensures.kernel ∙ kept.kernel;
    }
