use Rattle.std.proofs.Common.{◌≡◌, Ok, [], sym, ◌∙◌}
use Rattle.std.proofs.lemmas.Result.{on_ok_weaker}
use Rattle.process_run.specs.Deaths.{does, raises}
use Rattle.typing_rules.specs.declared.exception.Exception.TheVariants.{NoLink}
use Rattle.end_protocol.specs.Asking.{unbinds}
use Rattle.lynx_rt.proofs.Acting.{unbind_done, unbind_none, unbind_raised}
use Rattle.lynx_rt.proofs.Keeping.{changed_fits, changed_process, fails_too}
use Rattle.lynx_rt.proofs.process.Running.unbind.Goals as goal

pub returns-in_default-clause-acted : goal.returns-in_default-clause-acted
returns-in_default-clause-acted c =
    on_ok_weaker c.does.result
    (λ (e : c.does.new.self ≡ does c.args.thread c.args.self.now). unbind_none c.args.thread c.args.number c.args.entry c.args.self.now _ (sym c.in_default.is ∙ c.in_ok-served.ensures) e)
    c.does.ensures.given

pub raise-requires-clause-fits : goal.raise-requires-clause-fits
raise-requires-clause-fits c = fails_too c.args.thread _ NoLink c.args.self.now c.requires.fits

pub returns-in_default-held_end-clause-acted : goal.returns-in_default-held_end-clause-acted
returns-in_default-held_end-clause-acted c =
    on_ok_weaker c.raise.result
    (λ (e : c.raise.new.self ≡ raises c.args.thread NoLink c.args.self.now).
    unbind_raised c.args.thread c.args.number c.args.entry _ c.args.self.now _ (sym c.in-Some.is ∙ c.in_ok-served.ensures) c.in_default-held_end.ensures e)
    c.raise.ensures.given

pub does-requires-2-clause-process : goal.does-requires-2-clause-process
does-requires-2-clause-process c = changed_process c.args.number (unbinds c.args.entry) _ _ c.in_ok-unbind_from.ensures c.requires.process

pub does-requires-2-clause-fits : goal.does-requires-2-clause-fits
does-requires-2-clause-fits c = changed_fits c.args.number (unbinds c.args.entry) c.args.thread (Ok []) _ _ c.in_ok-unbind_from.ensures c.requires.fits

pub returns-clause-acted : goal.returns-clause-acted
returns-clause-acted c =
    on_ok_weaker c.does-2.result
    (λ (e : c.does-2.new.self ≡ does c.args.thread c.unbind_from.new.self).
    unbind_done c.args.thread c.args.number c.args.entry _ _ c.args.self.now c.unbind_from.new.self _ (sym c.in-Some.is ∙ c.in_ok-served.ensures) c.in-Some-held_end.ensures c.in_ok-unbind_from.ensures e)
    c.does-2.ensures.given
