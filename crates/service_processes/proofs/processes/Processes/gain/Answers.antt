-- The process that is set has the reports, and nothing else changes.
use Rattle.std.proofs.Common.{◌++◌, option_to_list}
use Rattle.service_step.specs.State.{gains}
use Rattle.service_processes.proofs.Blocks.{on_err, sets-by, state-same, known-same}
use Rattle.service_processes.proofs.processes.Processes.gain.Goals as goal

pub returns-clause-ok : goal.returns-clause-ok
unfolding gains
returns-clause-ok c =
    sets-by c.args.self.now c.from.result c.at_mut-block.result.now _ c.args.p (c.at_mut-block.ensures.value _) c.from.ensures c.requires (λ x. record x { reports = x.reports ++ (option_to_list c.args.first ++ option_to_list c.args.second) })
    (λ i. record { phase = c.gain_reports.ensures.phase i; reports = c.in_ok-gain_reports.ensures.ok i })

pub returns-clause-known : goal.returns-clause-known
returns-clause-known c = known-same c.args.self.now c.from.result c.at_mut-block.result.now _ c.args.p (c.at_mut-block.ensures.value _) c.from.ensures c.requires (λ i. (c.gain_reports.ensures.held i).keys) (λ i. (c.gain_reports.ensures.active i).keys)

pub returns-in_err-gain_reports-clause-err : goal.returns-in_err-gain_reports-clause-err
returns-in_err-gain_reports-clause-err c =
    on_err _ (state-same c.args.self.now c.from.result c.at_mut-block.result.now c.gain_reports.new.block c.args.p (c.at_mut-block.ensures.value _) c.from.ensures c.requires
    (λ i. record { phase = c.gain_reports.ensures.phase i; reports = c.in_err-gain_reports.ensures.err i }))

pub returns-in_err-gain_reports-clause-known : goal.returns-in_err-gain_reports-clause-known
returns-in_err-gain_reports-clause-known c = known-same c.args.self.now c.from.result c.at_mut-block.result.now _ c.args.p (c.at_mut-block.ensures.value _) c.from.ensures c.requires (λ i. (c.gain_reports.ensures.held i).keys) (λ i. (c.gain_reports.ensures.active i).keys)
