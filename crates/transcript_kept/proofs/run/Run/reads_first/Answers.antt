use Rattle.transcript_kept.proofs.Runs.{first-reads}
use Rattle.transcript_kept.proofs.run.Run.reads_first.Goals as goal

pub returns-in-Some : goal.returns-in-Some
returns-in-Some c = first-reads c.reads_packet.result c.args.self.now c.args.ahead c.in-Some.packet.now c.args.reader.now _ (c.in-Some.ensures c.args.self.now.setting) c.reads_packet.ensures
