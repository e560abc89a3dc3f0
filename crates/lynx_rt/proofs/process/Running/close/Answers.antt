use Rattle.std.proofs.Common.{◌≡◌, Ok, []}
use Rattle.std.proofs.lemmas.Result.{on_ok_weaker}
use Rattle.process_run.specs.Deaths.{does}
use Rattle.lynx_rt.proofs.Keeping.{failed_below, failed_fits, failed_process, opened_fits, opened_process}
use Rattle.lynx_rt.proofs.Replying.{close_done, close_none, opened_below}
use Rattle.lynx_rt.proofs.process.Running.close.Goals as goal

pub returns-in_default-clause-closed : goal.returns-in_default-clause-closed
returns-in_default-clause-closed c =
    on_ok_weaker c.does.result
    (λ (e : c.does.new.self ≡ does c.args.thread c.args.self.now). close_none c.args.thread c.args.self.now _ c.in_default.ensures e)
    c.does.ensures.given

pub pop-requires : goal.pop-requires
pop-requires c =
    failed_below c.in-Some.request c.args.thread c.args.self.now c.fail.new.self c.in_ok-fail.ensures (opened_below c.args.self.now.opened c.args.thread c.in-Some.request c.in-Some.ensures)

pub does-requires-2-clause-process : goal.does-requires-2-clause-process
does-requires-2-clause-process c =
    opened_process c.args.thread _ c.fail.new.self _ c.pop.ensures (failed_process c.in-Some.request c.args.self.now c.fail.new.self c.in_ok-fail.ensures c.requires.process)

pub does-requires-2-clause-fits : goal.does-requires-2-clause-fits
does-requires-2-clause-fits c =
    opened_fits c.args.thread _ c.args.thread (Ok []) c.fail.new.self _ c.pop.ensures
    (failed_fits c.in-Some.request c.args.thread (Ok []) c.args.self.now c.fail.new.self c.in_ok-fail.ensures c.requires.fits)

pub returns-clause-closed : goal.returns-clause-closed
returns-clause-closed c =
    on_ok_weaker c.does-2.result
    (λ (e : c.does-2.new.self ≡ does c.args.thread c.pop.new.self).
    close_done c.in-Some.request c.args.thread c.args.self.now c.fail.new.self c.pop.new.self _ c.in-Some.ensures c.in_ok-fail.ensures c.pop.ensures e)
    c.does-2.ensures.given
