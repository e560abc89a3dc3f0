use Rattle.std.proofs.Common.{◌≡◌, Ok, [], sym, ◌∙◌}
use Rattle.std.proofs.lemmas.Result.{on_ok_weaker}
use Rattle.process_run.specs.Deaths.{does, raises}
use Rattle.end_protocol.specs.Asking.{binds}
use Rattle.lynx_rt.proofs.Acting.{bind_done, bind_none, bind_raised}
use Rattle.lynx_rt.proofs.Keeping.{changed_fits, changed_process, fails_too}
use Rattle.lynx_rt.proofs.process.Running.bind.Goals as goal

pub returns-in_default-clause-acted : goal.returns-in_default-clause-acted
returns-in_default-clause-acted c =
    on_ok_weaker c.does.result
    (λ (e : c.does.new.self ≡ does c.args.thread c.args.self.now). bind_none c.args.thread c.args.number c.args.entry c.args.self.now _ (sym c.in_default.is ∙ c.in_ok-signature.ensures) e)
    c.does.ensures.given

pub raise-requires-clause-fits : goal.raise-requires-clause-fits
raise-requires-clause-fits c = fails_too c.args.thread _ c.in-Some-dead_fault.exception c.args.self.now c.requires.fits

pub returns-in-Some-dead_fault-clause-acted : goal.returns-in-Some-dead_fault-clause-acted
returns-in-Some-dead_fault-clause-acted c =
    on_ok_weaker c.raise.result
    (λ (e : c.raise.new.self ≡ raises c.args.thread c.in-Some-dead_fault.exception c.args.self.now).
    bind_raised c.args.thread c.args.number c.args.entry c.in-Some.signature c.in-Some-dead_fault.exception c.args.self.now _ (sym c.in-Some.is ∙ c.in_ok-signature.ensures) c.in-Some-dead_fault.ensures e)
    c.raise.ensures.given

pub does-requires-2-clause-process : goal.does-requires-2-clause-process
does-requires-2-clause-process c = changed_process c.args.number (binds (record { entry = c.args.entry; signature = c.in-Some.signature })) _ _ c.in_ok-bind_on.ensures c.requires.process

pub does-requires-2-clause-fits : goal.does-requires-2-clause-fits
does-requires-2-clause-fits c =
    changed_fits c.args.number (binds (record { entry = c.args.entry; signature = c.in-Some.signature })) c.args.thread (Ok []) _ _ c.in_ok-bind_on.ensures c.requires.fits

pub returns-clause-acted : goal.returns-clause-acted
returns-clause-acted c =
    on_ok_weaker c.does-2.result
    (λ (e : c.does-2.new.self ≡ does c.args.thread c.bind_on.new.self).
    bind_done c.args.thread c.args.number c.args.entry c.in-Some.signature c.args.self.now c.bind_on.new.self _ (sym c.in-Some.is ∙ c.in_ok-signature.ensures) c.in_default-dead_fault.ensures c.in_ok-bind_on.ensures e)
    c.does-2.ensures.given
