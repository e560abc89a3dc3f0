use Rattle.std.proofs.Common.{◌≡◌, sym, subst, ◌∙◌}
use Rattle.end_table.specs.Table.{entries}
use Rattle.kernel_step.specs.Calls.{refusal, IsCallWith}
use Rattle.kernel_step.specs.Kernel.{has_report}
use Rattle.kernel_refusal.proofs.Active.{wait_refused}
use Rattle.kernel_refusal.proofs.causes.refusal.Goals as goal
use Rattle.kernel_process.specs.Parts.{process_state}

-- some end of the process is active exactly where the set of those is not empty
pub returns-in-Wait : goal.returns-in-Wait
returns-in-Wait c = λ mine.
    subst
    (λ x. IsCallWith c.args.p (entries c.args.table.now) mine x
    → c.wait_refusal.result ≡ refusal c.args.p (entries c.args.table.now) c.args.made mine (has_report (process_state c.args.process.now)) x)
    (sym c.in-Wait.is)
    (λ are. c.wait_refusal.ensures ∙ wait_refused c.args.p (entries c.args.table.now) c.args.made mine c.args.process.now.active.keys _ c.requires.active are)
