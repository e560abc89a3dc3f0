use Rattle.std.proofs.Common.{None, ap, sym, subst, ◌∙◌, IfOk, refl}
use Rattle.lynx_plan.specs.Stored.{script_call_of}
use Rattle.lynx_plan.specs.declared.script.ScriptCall.{ScriptCall}
use Rattle.script_run.specs.Recorded.{IsLineDone, world_at}
use Rattle.script_run.specs.Performing.{settled, most_settled}
use Rattle.script_run.proofs.Settling.{length-settled_le}
use Rattle.script_run.proofs.lines.do_line.Goals as goal

pub returns-in-Ask : goal.returns-in-Ask
returns-in-Ask c =
    subst (λ (what : ScriptCall). IfOk c.ask.result (λ note. IsLineDone c.args.setting.now c.args.line.line what note c.args.run.now c.ask.new.run)) (sym (sym c.into_stored.ensures ∙ ap script_call_of c.in-Ask.is)) c.ask.ensures

pub returns-in_ok-settle-in-Settle : goal.returns-in_ok-settle-in-Settle
returns-in_ok-settle-in-Settle c =
    subst (λ (what : ScriptCall). IsLineDone c.args.setting.now c.args.line.line what None c.args.run.now c.settle.new.run) (sym (sym c.into_stored.ensures ∙ ap script_call_of c.in-Settle.is))
    (record {
      events = settled c.args.setting.now.kernels most_settled (world_at c.args.setting.now c.args.run.now);
      does = (refl, refl);
      goes = c.in_ok-settle-in-Settle.ensures;
      few = length-settled_le c.args.setting.now.kernels 10000 (world_at c.args.setting.now c.args.run.now);
    })
