-- What is known of the parts of a line makes what is told of the whole.
use Rattle.std.proofs.Common.{sym, subst}
use Rattle.history_run.specs.Runs.{IsActAllowed}
use Rattle.history_run.specs.Follow.{IsActFault, IsBeginFault, IsStepFault, Begins, state_now, fault_of_apply}
use Rattle.history_run.specs.declared.fault.HistoryFault.{HistoryFault}
use Rattle.history_run.specs.declared.fault.HistoryFault.TheVariants as fault
use Rattle.history_run.specs.declared.history.History.{History}
use Rattle.history_text.specs.declared.meaning.Act.{Act}
use Rattle.link_service.specs.Service.{state_of}
use Rattle.link_service.specs.declared.service.ApplyFault.{ApplyFault}
use Rattle.link_service.specs.declared.service.ApplyFault.TheVariants as apply

-- the service could not be started
pub not_begun : (h : History) (act : Act) (why : HistoryFault) → IsBeginFault h why → IsStepFault h act why
not_begun h act fault.Form is = is
not_begun h act fault.NotAllowed is = absurd is.1
not_begun h act fault.NoMemory is = tt

-- the step is not allowed
pub not_made : (old mid : History) (why : ApplyFault) → Begins old mid → IsActFault (state_of mid.service) mid.act why → IsStepFault old old.act (fault_of_apply why)
not_made old mid (apply.NotAllowed n) b refused =
    λ allowed. refused (subst (λ s. IsActAllowed s mid.act) (sym b.state) (subst (λ a. IsActAllowed (state_now old.begun old.service old.draft) a) (sym b.act) allowed))
not_made old mid apply.NoMemory b refused = tt
