use Rattle.std.proofs.Common.{◌≡◌, rules, List, ℕ, sym, ap, ◌∙◌}
use Rattle.std.proofs.lemmas.Result.{on_ok_weaker}
use Rattle.machine_values.specs.Told.{values_of}
use Rattle.end_protocol.specs.Asking.{connected}
use Rattle.process_run.specs.Ends.{held_at}
use Rattle.lynx_rt.specs.Changes.{changes, fault_on}
use Rattle.lynx_rt.proofs.Acting.{connect_done}
use Rattle.lynx_rt.proofs.process.Running.connect.Goals as goal

pub returns-clause-acted : goal.returns-clause-acted
returns-clause-acted c =
    on_ok_weaker c.issue.result
    (λ (e : c.issue.new.self ≡ changes c.args.number (connected c.request_of.new.self.version c.in_ok-connect.connect) c.request_of.new.self).
    connect_done c.args.thread c.args.number c.args.op (values_of c.args.values.now) c.in-Some.signature c.in_ok-connect.connect c.args.self.now c.request_of.new.self _
    (sym c.in-Some.is ∙ c.in_ok-signature.ensures) c.in_default-dead_fault.ensures
    (c.in_default-link_fault.ensures ∙ ap (λ (ns : List ℕ). fault_on (held_at c.args.number c.args.self.now) ns c.args.self.now) (search rules))
    c.in_ok-connect.ensures.made c.in_ok-connect.ensures.gone e)
    c.issue.ensures
