-- The table and the processes are those with which the kernel starts.
use Rattle.std.proofs.Common.{◌<◌, ◌∙◌, subst, sym}
use Rattle.kernel_core.proofs.Fresh.{IsConsistent-start, state_of-start}
use Rattle.kernel_named.proofs.Start.{start-names}
use Rattle.kernel_named.specs.Named.{TableNamesBelow}
use Rattle.kernel_core.proofs.kernel.Kernel.start.Goals as goal

pub invariant_of-result : goal.invariant_of-result
invariant_of-result c =
    record {
      consistent =
          IsConsistent-start c.in_ok-table.table c.in_ok-processes.processes c.args.id c.in_ok-table.made _ c.in_ok-table.ensures.kernel
          (c.in_ok-processes.ensures.count ∙ c.len.ensures) c.in_ok-table.ensures.sound c.in_ok-table.ensures.idle c.in_ok-processes.ensures.fresh;
      number = subst (λ k. k < c.args.setting.now.kernels) (sym c.in_ok-table.ensures.kernel) c.requires.below;
      names = subst (TableNamesBelow c.args.setting.now.kernels) (sym c.in_ok-table.ensures.table) (start-names c.args.setting.now c.requires.valid c.args.id);
    }

pub returns-clause-state : goal.returns-clause-state
returns-clause-state c =
    state_of-start c.args.setting.now c.args.id c.in_ok-table.table c.in_ok-processes.processes c.in_ok-table.made
    c.in_ok-table.ensures.kernel c.in_ok-table.ensures.table c.in_ok-table.ensures.made c.in_ok-processes.ensures.fresh
