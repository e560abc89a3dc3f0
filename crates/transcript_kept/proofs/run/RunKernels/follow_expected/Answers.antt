use Rattle.transcript_kept.proofs.Runs.{answers-follow, answers-stand}
use Rattle.transcript_kept.proofs.run.RunKernels.follow_expected.Goals as goal

pub returns-clause-stand : goal.returns-clause-stand
returns-clause-stand c = answers-stand c.follow_next.result c.args.self.now c.follow_next.new.self c.args.reader.now c.follow_next.new.reader c.follow_next.ensures

pub returns-clause-follows : goal.returns-clause-follows
returns-clause-follows c = answers-follow c.follow_next.result c.args.self.now c.follow_next.new.self c.args.reader.now c.follow_next.new.reader c.follow_next.ensures
