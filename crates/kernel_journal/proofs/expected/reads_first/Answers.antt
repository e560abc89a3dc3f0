use Rattle.kernel_journal.proofs.Taken.{first-read}
use Rattle.kernel_journal.proofs.expected.reads_first.Goals as goal

pub returns-in-Some : goal.returns-in-Some
returns-in-Some c = first-read c.reads_packet.result c.args.nodes.now c.args.ahead c.in-Some.packet.now c.args.reader.now _ c.in-Some.ensures c.reads_packet.ensures
