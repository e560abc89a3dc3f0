-- The process that is set has the report, and nothing else changes.
use Rattle.std.proofs.Common.{◌++◌, ap, option_to_list}
use Rattle.service_step.specs.State.{gains}
use Rattle.service_processes.proofs.Blocks.{sets-by, known-same, room-lent}
use Rattle.service_processes.proofs.processes.Processes.gain_reserved.Goals as goal

pub keep_report-requires : goal.keep_report-requires
keep_report-requires c = room-lent c.args.self.now c.from.result c.at_mut-block.result.now c.args.p (c.at_mut-block.ensures.value _) c.from.ensures c.requires.room

pub returns-clause-process : goal.returns-clause-process
unfolding gains
returns-clause-process c =
    sets-by c.args.self.now c.from.result c.at_mut-block.result.now _ c.args.p (c.at_mut-block.ensures.value _) c.from.ensures c.requires.there (λ x. record x { reports = x.reports ++ option_to_list c.args.report })
    (λ i. record { phase = c.keep_report.ensures.phase i; reports = c.keep_report.ensures.reports i })

pub returns-clause-known : goal.returns-clause-known
returns-clause-known c = known-same c.args.self.now c.from.result c.at_mut-block.result.now _ c.args.p (c.at_mut-block.ensures.value _) c.from.ensures c.requires.there (ap (λ s. s.keys) c.keep_report.ensures.held) (ap (λ s. s.keys) c.keep_report.ensures.active)
