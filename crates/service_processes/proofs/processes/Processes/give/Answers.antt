-- The process that is set runs without its oldest report, and nothing else changes.
use Rattle.service_step.specs.State.{later, given}
use Rattle.service_step.specs.declared.state.Phase.TheVariants.{Running}
use Rattle.service_processes.proofs.Blocks.{sets-by, known-same}
use Rattle.service_processes.proofs.processes.Processes.give.Goals as goal

pub returns-clause-process : goal.returns-clause-process
unfolding given
returns-clause-process c =
    sets-by c.args.self.now c.from.result c.at_mut-block.result.now _ c.args.p (c.at_mut-block.ensures.value _) c.from.ensures c.requires (λ x. record { phase = Running; reports = later x.reports })
    (λ i. record { phase = c.give_report.ensures.phase i; reports = c.give_report.ensures.reports i })

pub returns-clause-known : goal.returns-clause-known
returns-clause-known c = known-same c.args.self.now c.from.result c.at_mut-block.result.now _ c.args.p (c.at_mut-block.ensures.value _) c.from.ensures c.requires (λ i. (c.give_report.ensures.held i).keys) (λ i. (c.give_report.ensures.active i).keys)
