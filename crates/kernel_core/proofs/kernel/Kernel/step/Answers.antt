-- The event is that of the kernel's parts.
use Rattle.std.proofs.Common.{◌≡◌, ◌<◌, map, ap, subst, sym, ◌∙◌, refl}
use Rattle.end_table.specs.Table.{entries}
use Rattle.kernel_core.proofs.CalledParts.{call-by_parts}
use Rattle.kernel_core.proofs.Happened.{both_err, both_ok}
use Rattle.kernel_core.proofs.Kernels.{state-same}
use Rattle.kernel_core.proofs.Naming.{call-goes, call-names}
use Rattle.kernel_core.specs.State.{KernelView, state_of}
use Rattle.kernel_process.specs.Parts.{process_state, ended}
use Rattle.kernel_core.specs.contracts.kernel.Kernel.{the_view}
use Rattle.kernel_step.specs.Calls.{IsCallWith}
use Rattle.kernel_step.specs.Kernel.{call_step}
use Rattle.kernel_core.proofs.kernel.Kernel.step.Goals as goal

pub returns-clause-step : goal.returns-clause-step
returns-clause-step c =
    both_ok c.call_event-called.result
    (λ effect called stamp. (
      called.0,
      subst (λ v. IsCallWith c.args.request.now.p (entries v.table) called.0 c.args.request.now.call) c.self.view_is called.1,
      subst (λ v. ended (state_of after) effect ≡ call_step (state_of v) c.args.request.now.p called.0 c.args.request.now.call) c.self.view_is
          (call-by_parts (the_view c.self.inside) after c.self.inside.state.processes c.call_event-called.new.state.processes c.stamp_after-stamp.result effect c.args.request.now.p called.0 c.args.request.now.call
          refl
          refl
          refl refl c.call_event-called.ensures.keeps.kernel stamp c.stamp_after-stamp.ensures called.2),
    ))
    c.call_event-called.ensures.step c.stamp_with-self-inside.ensures.happened
  where
    after : KernelView
    after = record {
      kernels = c.self.inside.kernels;
      version = c.self.inside.version;
      table = c.call_event-called.new.state.table;
      processes = map process_state c.call_event-called.new.state.processes;
      made = c.call_event-called.new.state.made;
      stamp = c.stamp_with-self-inside.result;
    }

pub returns-clause-same : goal.returns-clause-same
returns-clause-same c =
    both_err c.call_event-called.result
    (λ same stamp. state-same (the_view c.self.inside) _ refl refl same.kernel same.entries same.states same.made stamp ∙ ap state_of c.self.view_is)
    c.call_event-called.ensures.same c.stamp_with-self-inside.ensures.kept

pub returns-clause-there : goal.returns-clause-there
returns-clause-there c =
    call-goes (the_view c.self.inside) c.args.self.now _ c.self.view_is (c.self.invariant.number, c.self.invariant.names) c.call_event-called.result c.args.request.now.p c.args.request.now.call (returns-clause-step c)

pub invariant_of-self : goal.invariant_of-self
invariant_of-self c =
    record {
      consistent = c.call_event-called.ensures.keeps.consistent;
      number = subst (λ k. k < c.self.inside.kernels) (sym c.call_event-called.ensures.keeps.kernel) c.self.invariant.number;
      names =
          call-names (the_view c.self.inside) c.args.self.now _ c.self.view_is (c.self.invariant.number, c.self.invariant.names) c.call_event-called.result c.args.request.now.p c.args.request.now.call (returns-clause-step c)
          (returns-clause-same c);
    }
