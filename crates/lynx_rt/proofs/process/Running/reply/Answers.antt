use Rattle.std.proofs.Common.{◌≡◌, Ok, List, [], ℕ, rules, ap, ◌∙◌}
use Rattle.std.proofs.lemmas.Result.{on_ok_weaker}
use Rattle.machine_values.specs.Told.{values_of}
use Rattle.end_protocol.specs.Asking.{replied}
use Rattle.process_run.specs.Deaths.{does, raises}
use Rattle.process_run.specs.Ends.{links_in}
use Rattle.process_run.specs.States.{Open}
use Rattle.lynx_rt.specs.Changes.{changes, reply_fault}
use Rattle.lynx_rt.proofs.Keeping.{changed_below, changed_fits, changed_process, fails_too, gone_below, gone_fits, gone_process, opened_fits, opened_process}
use Rattle.lynx_rt.proofs.Replying.{opened_below, reply_done, reply_none, reply_raised}
use Rattle.lynx_rt.proofs.process.Running.reply.Goals as goal

pub returns-in_default-clause-replied : goal.returns-in_default-clause-replied
returns-in_default-clause-replied c =
    on_ok_weaker c.does.result
    (λ (e : c.does.new.self ≡ does c.args.thread c.args.self.now). reply_none c.args.thread (values_of c.args.values.now) c.args.self.now _ c.in_default.ensures e)
    c.does.ensures.given

pub raise-requires-clause-fits : goal.raise-requires-clause-fits
raise-requires-clause-fits c = fails_too c.args.thread _ c.in-Some-reply_fault.exception c.args.self.now c.requires.fits

pub returns-in-Some-reply_fault-clause-replied : goal.returns-in-Some-reply_fault-clause-replied
returns-in-Some-reply_fault-clause-replied c =
    on_ok_weaker c.raise.result
    (λ (e : c.raise.new.self ≡ raises c.args.thread c.in-Some-reply_fault.exception c.args.self.now).
    reply_raised c.in-Some.request c.args.thread (values_of c.args.values.now) c.args.self.now _ c.in-Some-reply_fault.exception c.in-Some.ensures
    (c.in-Some-reply_fault.ensures ∙ ap (λ (ns : List ℕ). reply_fault c.in-Some.request ns c.args.self.now) (search rules)) e)
    c.raise.ensures.given

pub answer-requires : goal.answer-requires
answer-requires c =
    changed_below _ (replied _ _) c.args.thread c.reply_of.new.self c.respond.new.self c.in_ok-respond.ensures
    (gone_below (links_in (values_of c.args.values.now)) c.args.thread c.args.self.now c.reply_of.new.self c.in_ok-response.ensures.gone (opened_below c.args.self.now.opened c.args.thread c.in-Some.request c.in-Some.ensures))

pub does-requires-2-clause-process : goal.does-requires-2-clause-process
does-requires-2-clause-process c =
    opened_process c.args.thread _ c.respond.new.self _ c.answer.ensures
    (changed_process _ (replied _ _) c.reply_of.new.self c.respond.new.self c.in_ok-respond.ensures
    (gone_process (links_in (values_of c.args.values.now)) c.args.self.now c.reply_of.new.self c.in_ok-response.ensures.gone c.requires.process))

pub does-requires-2-clause-fits : goal.does-requires-2-clause-fits
does-requires-2-clause-fits c =
    opened_fits c.args.thread _ c.args.thread (Ok []) c.respond.new.self _ c.answer.ensures
    (changed_fits _ (replied _ _) c.args.thread (Ok []) c.reply_of.new.self c.respond.new.self c.in_ok-respond.ensures
    (gone_fits (links_in (values_of c.args.values.now)) c.args.thread (Ok []) c.args.self.now c.reply_of.new.self c.in_ok-response.ensures.gone c.requires.fits))

pub returns-clause-replied : goal.returns-clause-replied
returns-clause-replied c =
    on_ok_weaker c.does-2.result
    (λ (e : c.does-2.new.self ≡ does c.args.thread c.answer.new.self).
    reply_done c.in-Some.request c.args.thread (values_of c.args.values.now) c.in_ok-response.response c.args.self.now c.reply_of.new.self c.respond.new.self c.answer.new.self _ c.in-Some.ensures
    (c.in_default-reply_fault.ensures ∙ ap (λ (ns : List ℕ). reply_fault c.in-Some.request ns c.args.self.now) (search rules))
    c.in_ok-response.ensures.gone c.in_ok-response.ensures.made
    (c.in_ok-respond.ensures ∙ ap (λ (o : Open). changes o.on (replied c.reply_of.new.self.version c.in_ok-response.response) c.reply_of.new.self) c.request.view_is) c.answer.ensures e)
    c.does-2.ensures.given
