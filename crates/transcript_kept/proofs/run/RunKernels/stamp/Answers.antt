use Rattle.std.proofs.Common.{◌≡◌, None, rules, ◌∙◌}
use Rattle.transcript_kept.proofs.Runs.{stamp-none, stamp-some}
use Rattle.transcript_kept.proofs.run.RunKernels.stamp.Goals as goal

pub returns-in_err-kernel : goal.returns-in_err-kernel
returns-in_err-kernel c =
    let none : c.from_residual.result ≡ None = search rules in
    none ∙ stamp-none c.args.self.now c.args.kernel (c.in_err-kernel.ensures c.args.self.now.setting c.requires.nodes)

pub returns : goal.returns
returns c = stamp-some c.args.self.now c.args.kernel c.in_ok-kernel.field-0.now c.stamp.result (c.in_ok-kernel.ensures c.args.self.now.setting c.requires.nodes) c.stamp.ensures
