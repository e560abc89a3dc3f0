use Rattle.std.proofs.Common.{ℕ, Bool, Option, Some, None, subst}
use Rattle.end_protocol.specs.declared.going.Due.{Due}
use Rattle.process_run.specs.Ends.{room, held_at}
use Rattle.process_ends.specs.Ends.{asking_on}
use Rattle.process_ends.specs.Found.{IsFirst}
use Rattle.lynx_rt.specs.Steps.{DestroysOf, next_if}
use Rattle.lynx_rt.proofs.Calling.{asked_process, destroyed_process}
use Rattle.lynx_rt.proofs.Stepping.{due_destroy, due_end, due_none, first_settled, sendable_now}
use Rattle.lynx_rt.proofs.process.Running.due_call.Goals as goal

pub returns-then-next_destroy-clause-asked : goal.returns-then-next_destroy-clause-asked
returns-then-next_destroy-clause-asked c =
    due_destroy c.args.self.now c.settle.new.self c.next_destroy.new.self c.next_destroy.new.out c.in_ok-due.ensures.settled
    (subst (λ (b : Bool). DestroysOf c.settle.new.self.doomed c.settle.new.self (next_if b c.next_destroy.new.out) c.next_destroy.new.self) c.if-next_destroy.true c.next_destroy.ensures)

pub returns-then-next_destroy-clause-process : goal.returns-then-next_destroy-clause-process
returns-then-next_destroy-clause-process c =
    destroyed_process _ c.args.self.now c.settle.new.self c.next_destroy.new.self c.in_ok-due.ensures.settled c.next_destroy.ensures c.requires.process

pub call_of-requires : goal.call_of-requires
call_of-requires c =
    sendable_now c.args.self.now c.settle.new.self c.next_destroy.new.self c.in_ok-due.ensures.settled
    (subst (λ (b : Bool). DestroysOf c.settle.new.self.doomed c.settle.new.self (next_if b c.next_destroy.new.out) c.next_destroy.new.self) c.if-next_destroy.false c.next_destroy.ensures)
    c.requires.sendable

pub returns-in-Some-clause-asked : goal.returns-in-Some-clause-asked
returns-in-Some-clause-asked c =
    due_end c.args.self.now c.settle.new.self c.next_destroy.new.self c.call_of.new.self c.in-Some.number c.in-Some.due _ c.in_ok-due.ensures.settled
    (first_settled c.args.self.now c.settle.new.self (Some (c.in-Some.number, c.in-Some.due)) c.in_ok-due.ensures.settled
    (subst (λ (o : Option (ℕ × Due)). IsFirst (room c.args.self.now) c.settle.new.self.places o) c.in-Some.is c.in_ok-due.ensures.first))
    (subst (λ (b : Bool). DestroysOf c.settle.new.self.doomed c.settle.new.self (next_if b c.next_destroy.new.out) c.next_destroy.new.self) c.if-next_destroy.false c.next_destroy.ensures)
    c.call_of.ensures

pub returns-in-Some-clause-process : goal.returns-in-Some-clause-process
returns-in-Some-clause-process c =
    asked_process (asking_on c.next_destroy.new.self.version c.in-Some.number c.in-Some.due (held_at c.in-Some.number c.next_destroy.new.self)) _
    c.next_destroy.new.self c.call_of.new.self c.call_of.ensures
    (destroyed_process _ c.args.self.now c.settle.new.self c.next_destroy.new.self c.in_ok-due.ensures.settled c.next_destroy.ensures c.requires.process)

pub returns-in-None-clause-asked : goal.returns-in-None-clause-asked
returns-in-None-clause-asked c =
    due_none c.args.self.now c.settle.new.self c.next_destroy.new.self c.in_ok-due.ensures.settled
    (first_settled c.args.self.now c.settle.new.self None c.in_ok-due.ensures.settled
    (subst (λ (o : Option (ℕ × Due)). IsFirst (room c.args.self.now) c.settle.new.self.places o) c.in-None.is c.in_ok-due.ensures.first))
    (subst (λ (b : Bool). DestroysOf c.settle.new.self.doomed c.settle.new.self (next_if b c.next_destroy.new.out) c.next_destroy.new.self) c.if-next_destroy.false c.next_destroy.ensures)

pub returns-in-None-clause-process : goal.returns-in-None-clause-process
returns-in-None-clause-process c =
    destroyed_process _ c.args.self.now c.settle.new.self c.next_destroy.new.self c.in_ok-due.ensures.settled c.next_destroy.ensures c.requires.process
