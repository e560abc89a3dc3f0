use Rattle.transcript_kept.proofs.run.RunKernels.is_quiet.Goals as goal

pub returns : goal.returns
returns c = c.are_quiet.ensures c.args.self.now.setting
