use Rattle.std.proofs.Common.{Bool, subst, ◌||◌}
use Rattle.std.specs.List.{list_any}
use Rattle.process_run.specs.Runs.{finishes, is_in_use}
use Rattle.lynx_rt.specs.Steps.{IsFirstCall, next_if}
use Rattle.lynx_rt.proofs.Calling.{finished_process}
use Rattle.lynx_rt.proofs.Stepping.{called, leads_on}
use Rattle.lynx_rt.proofs.process.Running.rests.Goals as goal

pub due_call-requires-clause-sendable : goal.due_call-requires-clause-sendable
due_call-requires-clause-sendable c = c.requires.may.sendable

pub returns-then-is_due-clause-rests : goal.returns-then-is_due-clause-rests
returns-then-is_due-clause-rests c =
    called c.args.self.now c.due_call.new.self (λ now. finishes (c.args.stand || list_any (λ p. is_in_use p.holding) now.places) now) c.due_call.new.out
    (subst (λ (b : Bool). IsFirstCall c.args.self.now (next_if b c.due_call.new.out) c.due_call.new.self) c.if-is_due.true c.in_ok-is_due.ensures.asked)

pub returns-clause-rests : goal.returns-clause-rests
returns-clause-rests c =
    leads_on c.args.self.now c.due_call.new.self c.finish.new.self (λ now. finishes (c.args.stand || list_any (λ p. is_in_use p.holding) now.places) now) _
    (subst (λ (b : Bool). IsFirstCall c.args.self.now (next_if b c.due_call.new.out) c.due_call.new.self) c.if-is_due.false c.in_ok-is_due.ensures.asked) c.finish.ensures

pub returns-clause-process : goal.returns-clause-process
returns-clause-process c =
    finished_process (c.args.stand || list_any (λ p. is_in_use p.holding) c.due_call.new.self.places) _ c.due_call.new.self c.finish.new.self c.finish.ensures c.in_ok-is_due.ensures.process
