use Rattle.std.proofs.Common.{Some, ap, sym, subst, refl}
use Rattle.transcript_replay.specs.Header.{is_body}
use Rattle.kernel_journal.specs.declared.lines.Replay.{Replay}
use Rattle.kernel_journal.proofs.At.{IsLastKept, at-passed}
use Rattle.kernel_journal.proofs.Bodies.{on_ok}
use Rattle.kernel_journal.proofs.lines.Replay.take_kind.Goals as goal

pub returns-in-CallEntry-clause-taken : goal.returns-in-CallEntry-clause-taken
returns-in-CallEntry-clause-taken c =
    on_ok c.pass.result
    (λ passed taken place behind at e. at-passed taken place behind c.args.kind.now c.pass.new.self (ap is_body c.in-CallEntry.is) e (passed taken place behind at e) (subst (λ k. IsLastKept k c.pass.new.self) (sym c.in-CallEntry.is) tt))
    c.pass.ensures.passed

pub returns-in-PacketEntry-clause-taken : goal.returns-in-PacketEntry-clause-taken
returns-in-PacketEntry-clause-taken c =
    on_ok c.pass-in-PacketEntry.result
    (λ passed taken place behind at e. at-passed taken place behind c.args.kind.now c.pass-in-PacketEntry.new.self (ap is_body c.in-PacketEntry.is) e (passed taken place behind at e) (subst (λ k. IsLastKept k c.pass-in-PacketEntry.new.self) (sym c.in-PacketEntry.is) tt))
    c.pass-in-PacketEntry.ensures.passed

pub returns-in-Service-clause-taken : goal.returns-in-Service-clause-taken
returns-in-Service-clause-taken c =
    on_ok c.pass-in-Service.result
    (λ passed taken place behind at e. at-passed taken place behind c.args.kind.now c.pass-in-Service.new.self (ap is_body c.in-Service.is) e (passed taken place behind at e) (subst (λ k. IsLastKept k c.pass-in-Service.new.self) (sym c.in-Service.is) tt))
    c.pass-in-Service.ensures.passed

pub returns-in-Note-clause-taken : goal.returns-in-Note-clause-taken
returns-in-Note-clause-taken c =
    on_ok c.pass-in-Note.result
    (λ passed taken place behind at e. at-passed taken place behind c.args.kind.now c.pass-in-Note.new.self (ap is_body c.in-Note.is) e (passed taken place behind at e) (subst (λ k. IsLastKept k c.pass-in-Note.new.self) (sym c.in-Note.is) tt))
    c.pass-in-Note.ensures.passed

pub returns-in_ok-pass-in-End-clause-taken : goal.returns-in_ok-pass-in-End-clause-taken
returns-in_ok-pass-in-End-clause-taken c taken place behind at e =
    let p = c.in_ok-pass-in-End.ensures.passed taken place behind at e in
    let new : Replay = record { alloc = c.pass-in-End.new.self.alloc; request = c.pass-in-End.new.self.request; draft = c.pass-in-End.new.self.draft; body = c.pass-in-End.new.self.body; last = Some c.in-End.last } in
    at-passed taken place behind c.args.kind.now new (ap is_body c.in-End.is) e
    (record { old_body = p.old_body; body = p.body; kept = p.kept; meets = p.meets; ready = p.ready; passes = p.passes }) (subst (λ k. IsLastKept k new) (sym c.in-End.is) refl)
