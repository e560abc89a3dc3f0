use Rattle.transcript_kept.proofs.Runs.{shows-next}
use Rattle.transcript_kept.proofs.run.Run.show_next.Goals as goal

pub returns : goal.returns
returns c = shows-next c.in_ok-went.went c.in-Some.step.now c.args.self.now c.show.new.self c.args.reader.now c.reads_step.new.reader c.if-not-reads_step.ensures c.in_ok-went.ensures.stand c.in_ok-went.ensures.shows
