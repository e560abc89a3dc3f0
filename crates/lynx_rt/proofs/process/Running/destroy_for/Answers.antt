use Rattle.std.proofs.Common.{◌≡◌, sym, subst}
use Rattle.std.specs.Prelude.{Ok, []}
use Rattle.std.proofs.lemmas.Result.{on_ok_weaker}
use Rattle.typing_rules.specs.declared.exception.Exception.TheVariants.{NoLink}
use Rattle.process_run.specs.Deaths.{does, raises}
use Rattle.process_sound.specs.Machine.{Fits}
use Rattle.lynx_rt.proofs.Acting.{destroy_done, destroy_raised}
use Rattle.lynx_rt.proofs.process.Running.destroy_for.Goals as goal

pub returns-in_default-clause-acted : goal.returns-in_default-clause-acted
returns-in_default-clause-acted c =
    on_ok_weaker c.raise.result
    (λ (e : c.raise.new.self ≡ raises c.args.thread NoLink c.args.self.now). destroy_raised c.args.thread c.args.number c.args.self.now _ c.in_default.ensures e)
    c.raise.ensures.given

pub does-requires-clause-fits : goal.does-requires-clause-fits
does-requires-clause-fits c = subst (Fits c.args.thread (Ok [])) (sym c.in_ok-destroy.ensures.destroyed) c.requires.may.destroys.goes_on

pub returns-clause-acted : goal.returns-clause-acted
returns-clause-acted c =
    on_ok_weaker c.does.result
    (λ (e : c.does.new.self ≡ does c.args.thread c.destroy.new.self). destroy_done c.args.thread c.args.number _ c.args.self.now c.destroy.new.self _ c.in-Some.ensures c.in_ok-destroy.ensures.destroyed e)
    c.does.ensures.given
