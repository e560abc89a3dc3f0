use Rattle.std.proofs.Common.{◌≡◌, ap, ◌∙◌}
use Rattle.std.proofs.lemmas.Result.{on_ok_weaker}
use Rattle.process_run.specs.Ends.{number_of}
use Rattle.process_run.specs.States.{State}
use Rattle.process_ends.specs.Ends.{kept_at}
use Rattle.process_sound.specs.May.{at_end}
use Rattle.lynx_rt.specs.Changes.{hears_of}
use Rattle.lynx_rt.proofs.Hearing.{heard_there}
use Rattle.lynx_rt.proofs.process.Running.hear_report.Goals as goal

pub returns-clause-heard : goal.returns-clause-heard
returns-clause-heard c =
    let n = c.number-number.result in
    on_ok_weaker c.hear_of_held.result
    (λ (e : c.hear_of_held.new.self ≡ at_end n (hears_of c.args.report.now) c.args.self.now).
    heard_there c.kept.result n c.args.report.now c.args.self.now _ (c.kept.ensures ∙ ap (λ (s : State). kept_at n s.places) c.self.view_is) c.if-is_none.ensures
    (c.number-number.ensures ∙ ap (λ (s : State). number_of c.args.report.now.on s.places) c.self.view_is) e)
    c.hear_of_held.ensures.heard
