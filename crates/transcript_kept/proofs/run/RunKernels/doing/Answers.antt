use Rattle.std.proofs.Common.{◌<◌, ◌≤◌, arith, sym}
use Rattle.charlotte_calls.specs.declared.setting.Setting.{Setting}
use Rattle.transcript_kept.proofs.Runs.{home-there}
use Rattle.transcript_kept.proofs.run.RunKernels.doing.Goals as goal

pub returns-in_err-kernel : goal.returns-in_err-kernel
returns-in_err-kernel c =
    let s : Setting = c.args.self.now.setting in
    let below : c.in_ok-home.home < s.kernels = home-there s c.args.p.0 c.in_ok-home.home c.requires.valid (sym c.in_ok-home.ensures.at) in
    let over : s.kernels ≤ c.in_ok-home.home = c.in_err-kernel.ensures s c.requires.nodes in
    absurd (omega (arith, below, over))
