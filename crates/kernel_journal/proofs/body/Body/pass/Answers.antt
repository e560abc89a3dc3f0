use Rattle.std.proofs.Common.{IfErr, sym, subst}
use Rattle.kernel_journal.specs.Body.{Fails}
use Rattle.kernel_journal.proofs.Bodies.{fails-call, fails-packet, if_err}
use Rattle.kernel_journal.proofs.body.Body.pass.Goals as goal

pub returns-in-CallEntry-clause-fails : goal.returns-in-CallEntry-clause-fails
returns-in-CallEntry-clause-fails c = subst (λ k. IfErr c.ask_told.result (Fails c.args.self.now k)) (sym c.in-CallEntry.is)
    (if_err c.ask_told.result (λ s d. fails-call c.args.self.now c.in-CallEntry.stamp c.in-CallEntry.kernel c.in-CallEntry.p c.in-CallEntry.call s d) c.ask_told.ensures.differs)

pub returns-in-PacketEntry-clause-fails : goal.returns-in-PacketEntry-clause-fails
returns-in-PacketEntry-clause-fails c = subst (λ k. IfErr c.take.result (Fails c.args.self.now k)) (sym c.in-PacketEntry.is)
    (if_err c.take.result (λ s d. fails-packet c.args.self.now c.in-PacketEntry.stamp c.in-PacketEntry.kernel c.in-PacketEntry.from c.in-PacketEntry.picture s d) c.take.ensures.differs)
