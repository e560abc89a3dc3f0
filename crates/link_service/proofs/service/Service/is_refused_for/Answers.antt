use Rattle.std.proofs.Common.{◌↔◌, IsTrue, sym, subst}
use Rattle.charlotte_calls.specs.declared.calls.Call.{Call}
use Rattle.service_step.specs.Causes.{IsRefusedFor}
use Rattle.link_service.specs.Service.{state_of}
use Rattle.link_service.proofs.service.Service.is_refused_for.Goals as goal

pub returns-in-Wait-clause-refused : goal.returns-in-Wait-clause-refused
returns-in-Wait-clause-refused c =
    subst (λ (k : Call). IsTrue c.is_wait_refused.result ↔ IsRefusedFor (state_of c.args.self.now) c.args.p k c.args.cause) (sym c.in-Wait.is) c.is_wait_refused.ensures.refused
