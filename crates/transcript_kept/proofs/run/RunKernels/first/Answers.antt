use Rattle.transcript_kept.proofs.run.RunKernels.first.Goals as goal

pub returns : goal.returns
returns c = c.first.ensures c.args.self.now.setting
