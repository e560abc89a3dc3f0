-- The answer that stands is let go, and nothing else changes.
use Rattle.std.proofs.Common.{◌≡◌, ◌<◌, length, map, slice_set, None, ap, sym, subst, ◌∙◌, refl}
use Rattle.kernel_step.specs.Kernel.{Process, process_of, with_process, without_answer}
use Rattle.kernel_core.specs.State.{KernelView, state_of}
use Rattle.kernel_process.specs.Active.{started_ends}
use Rattle.kernel_process.specs.Parts.{process_state}
use Rattle.kernel_process.specs.declared.process.ControlBlock.{ControlBlock}
use Rattle.kernel_core.specs.contracts.kernel.Kernel.{the_view}
use Rattle.kernel_core.proofs.Kernels.{consistent-set, state_of-at, state_of-set}
use Rattle.kernel_core.proofs.kernel.Kernel.forget_answer.Goals as goal

pub returns-clause-state : goal.returns-clause-state
returns-clause-state c = subst (λ v. state_of after ≡ without_answer c.args.p (state_of v)) c.self.view_is
    (state_of-set before after c.self.inside.state.processes c.from.result now c.args.p refl refl c.from.ensures below ∙ ap (λ x. with_process c.args.p x (state_of before)) left)
  where
    before : KernelView
    before = the_view c.self.inside

    below : c.args.p.0 < length before.processes
    below = subst (λ v. c.args.p.0 < length v.processes) (sym c.self.view_is) c.requires

    found : ControlBlock
    found = c.at_mut-process.result.now

    now : ControlBlock
    now = record found { answer = None }

    after : KernelView
    after = record before { processes = map process_state (slice_set c.self.inside.state.processes c.from.result now) }

    left : process_state now ≡ record (process_of c.args.p (state_of before)) { answer = None }
    left = ap {A = Process} {B = Process} (λ x. record x { answer = None }) (ap process_state (c.at_mut-process.ensures.value c.at_mut-process.result.now) ∙ sym (state_of-at before c.self.inside.state.processes found c.from.result c.args.p refl c.from.ensures below))

pub invariant_of-self : goal.invariant_of-self
invariant_of-self c =
    consistent-set _ _ c.from.result c.self.inside.state.table c.self.inside.state.processes (record c.at_mut-process.result.now { answer = None }) c.at_mut-process.result.now (ap started_ends (c.at_mut-process.ensures.value c.at_mut-process.result.now)) c.self.invariant
