use Rattle.std.proofs.Common.{ap, ◌∙◌}
use Rattle.end_table.specs.Entries.{left_entry}
use Rattle.kernel_step.specs.Progress.{progress}
use Rattle.kernel_step.proofs.Steps.{IsHere-idle, value_leaving-taken, leaves_here-taken, kept-IfHere}
use Rattle.kernel_step.proofs.ends.leave.Goals as goal

pub returns-clause-value : goal.returns-clause-value
returns-clause-value c = value_leaving-taken _ _ _ (IsHere-idle _ c.requires.idle) c.take_out-moving.ensures.value

pub returns-clause-part : goal.returns-clause-part
returns-clause-part c = λ out.
    ap (λ t. progress t out) c.release.ensures.entries
    ∙ leaves_here-taken _ _ c.args.end c.args.to _ out (IsHere-idle _ c.requires.idle) c.take_out-moving.ensures.own c.take_out-moving.ensures.left

pub returns-clause-kept : goal.returns-clause-kept
returns-clause-kept c =
    let kept = kept-IfHere _ _ c.args.end (λ v. left_entry c.args.to v.value) (IsHere-idle _ c.requires.idle) c.take_out-moving.ensures.left in
    record {
      others = λ q apart. ap (λ t. t q) c.release.ensures.entries ∙ kept.others q apart;
      kernel = c.release.ensures.kernel ∙ kept.kernel;
    }
