use Rattle.std.proofs.Common.{refl}
use Rattle.kernel_journal.proofs.At.{told-at}
use Rattle.kernel_journal.proofs.lines.Replay.tell.Goals as goal

pub returns-clause-taken : goal.returns-clause-taken
returns-clause-taken c taken place behind at e =
    told-at taken place behind c.args.kind.now c.args.self.now (record { alloc = c.args.self.now.alloc; request = c.args.self.now.request; draft = c.tell.new.self; body = c.args.self.now.body; last = c.args.self.now.last }) c.requires at e c.in_ok-tell.ensures refl
