use Rattle.std.proofs.Common.{◌≡◌, sym, ◌∙◌}
use Rattle.std.proofs.lemmas.Result.{on_ok_weaker}
use Rattle.process_run.specs.Deaths.{raises}
use Rattle.end_protocol.specs.Asking.{accepts_too}
use Rattle.lynx_rt.specs.Changes.{changes}
use Rattle.lynx_rt.proofs.Acting.{accept_done, accept_raised}
use Rattle.lynx_rt.proofs.Keeping.{changed_process}
use Rattle.lynx_rt.proofs.process.Running.accept.Goals as goal

pub returns-in-Some-dead_fault-clause-acted : goal.returns-in-Some-dead_fault-clause-acted
returns-in-Some-dead_fault-clause-acted c =
    on_ok_weaker c.raise.result
    (λ (e : c.raise.new.self ≡ raises c.args.thread c.in-Some-dead_fault.exception c.args.self.now).
    accept_raised c.args.thread c.args.number c.args.op c.in-Some.signature c.in-Some-dead_fault.exception c.args.self.now _ (sym c.in-Some.is ∙ c.in_ok-signature.ensures) c.in-Some-dead_fault.ensures e)
    c.raise.ensures.given

pub returns-clause-acted : goal.returns-clause-acted
returns-clause-acted c =
    on_ok_weaker c.accept_on.result
    (λ (e : c.accept_on.new.self ≡ changes c.args.number (accepts_too (record { thread = c.args.thread; signature = c.in-Some.signature })) c.args.self.now).
    accept_done c.args.thread c.args.number c.args.op c.in-Some.signature c.args.self.now _ (sym c.in-Some.is ∙ c.in_ok-signature.ensures) c.in_default-dead_fault.ensures e)
    c.accept_on.ensures

pub returns-clause-process : goal.returns-clause-process
returns-clause-process c =
    on_ok_weaker c.accept_on.result
    (λ (e : c.accept_on.new.self ≡ changes c.args.number (accepts_too (record { thread = c.args.thread; signature = c.in-Some.signature })) c.args.self.now).
    changed_process c.args.number (accepts_too (record { thread = c.args.thread; signature = c.in-Some.signature })) _ _ e c.requires.process)
    c.accept_on.ensures
