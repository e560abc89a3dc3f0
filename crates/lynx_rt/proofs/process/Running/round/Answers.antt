use Rattle.std.proofs.Common.{Bool, sym, ap, subst, ◌∙◌}
use Rattle.process_run.specs.States.{State}
use Rattle.lynx_rt.specs.Steps.{IsFirstCall, next_if}
use Rattle.lynx_rt.proofs.Stepping.{may_stop, round_called, round_over, round_pauses, round_stopped, sendable_of}
use Rattle.lynx_rt.proofs.process.Running.round.Goals as goal

pub due_call-requires-clause-sendable : goal.due_call-requires-clause-sendable
due_call-requires-clause-sendable c = sendable_of c.args.actions c.args.fuel c.args.self.now c.requires.may

pub returns-then-is_due-clause-round : goal.returns-then-is_due-clause-round
returns-then-is_due-clause-round c =
    round_called c.args.actions c.args.fuel c.args.self.now c.due_call.new.self c.due_call.new.out
    (subst (λ (b : Bool). IsFirstCall c.args.self.now (next_if b c.due_call.new.out) c.due_call.new.self) c.if-is_due.true c.in_ok-is_due.ensures.asked)

pub returns-then-self-clause-round : goal.returns-then-self-clause-round
returns-then-self-clause-round c =
    round_over c.args.actions c.args.fuel c.args.self.now c.due_call.new.self _ _
    (subst (λ (b : Bool). IsFirstCall c.args.self.now (next_if b c.due_call.new.out) c.due_call.new.self) c.if-is_due.false c.in_ok-is_due.ensures.asked)
    (ap (λ (s : State). s.over) (sym c.self.view_is) ∙ c.if-self.true) c.exit.ensures.next c.exit.ensures.asked

pub returns-then-actions-eq0-clause-round : goal.returns-then-actions-eq0-clause-round
returns-then-actions-eq0-clause-round c =
    round_pauses c.args.actions c.args.fuel c.args.self.now c.due_call.new.self _ _ c.if-actions-eq0.true
    (subst (λ (b : Bool). IsFirstCall c.args.self.now (next_if b c.due_call.new.out) c.due_call.new.self) c.if-is_due.false c.in_ok-is_due.ensures.asked)
    (ap (λ (s : State). s.over) (sym c.self.view_is) ∙ c.if-self.false) c.pause.ensures.next c.pause.ensures.asked

pub stopped-requires-clause-may : goal.stopped-requires-clause-may
stopped-requires-clause-may c =
    may_stop c.args.actions c.args.fuel c.args.self.now c.due_call.new.self c.run.new.self _ _ c.if-actions-eq0.false
    (subst (λ (b : Bool). IsFirstCall c.args.self.now (next_if b c.due_call.new.out) c.due_call.new.self) c.if-is_due.false c.in_ok-is_due.ensures.asked)
    (ap (λ (s : State). s.over) (sym c.self.view_is) ∙ c.if-self.false) c.in_ok-stop.ensures.same c.in_ok-stop.ensures.ran c.in_ok-stop.ensures.process c.in_ok-stop.ensures.asked c.requires.may

pub returns-clause-round : goal.returns-clause-round
returns-clause-round c =
    round_stopped c.args.actions c.args.fuel _ c.args.self.now c.due_call.new.self c.run.new.self _ _ _ c.if-actions-eq0.false
    (subst (λ (b : Bool). IsFirstCall c.args.self.now (next_if b c.due_call.new.out) c.due_call.new.self) c.if-is_due.false c.in_ok-is_due.ensures.asked)
    (ap (λ (s : State). s.over) (sym c.self.view_is) ∙ c.if-self.false) c.in_ok-stop.ensures.same c.in_ok-stop.ensures.ran c.requires.may c.in_ok-is_next.ensures.stopped
