use Rattle.std.proofs.Common.{subst, sym, ◌↔◌, ◌≡◌, Bool, [], IsTrue}
use Rattle.service_processes.proofs.Blocks.{first-some}
use Rattle.service_processes.specs.Processes.{process_of}
use Rattle.service_processes.proofs.processes.Processes.has_report.Goals as goal

pub returns : goal.returns
returns c =
    subst (λ (b : Bool). IsTrue b ↔ ((process_of c.args.self.now c.args.p.0).reports ≡ [] → ⊥)) (sym c.is_some.ensures) (first-some _ c.oldest.result c.oldest.ensures)
