-- The event is that of the kernel's parts.
use Rattle.std.proofs.Common.{◌≡◌, ◌<◌, map, ap, subst, sym, ◌∙◌, refl}
use Rattle.charlotte_packets.specs.Packets.{packet_picture}
use Rattle.kernel_core.proofs.Happened.{both_err, both_ok}
use Rattle.kernel_core.proofs.Kernels.{state-same, take-by_parts}
use Rattle.kernel_core.proofs.Naming.{take-goes, take-names}
use Rattle.kernel_core.specs.State.{KernelView, state_of}
use Rattle.kernel_process.specs.Parts.{process_state, ended}
use Rattle.kernel_core.specs.contracts.kernel.Kernel.{the_view}
use Rattle.kernel_step.specs.Kernel.{next_stamp, take_step}
use Rattle.kernel_core.proofs.kernel.Kernel.take_from.Goals as goal

pub returns-clause-step : goal.returns-clause-step
unfolding state_of
returns-clause-step c =
    both_ok c.take_event-taken.result
    (λ effect part stamp. subst (λ v. ended (state_of after) effect ≡ take_step (state_of v) c.args.from (packet_picture c.args.packet.now)) c.self.view_is
    (take-by_parts (the_view c.self.inside) after c.self.inside.state.processes c.take_event-taken.new.state.processes c.args.from c.stamp_after-stamp.result (packet_picture c.args.packet.now) effect
    refl
    refl
    refl refl c.take_event-taken.ensures.keeps.kernel c.take_event-taken.ensures.made stamp (c.stamp_after-stamp.ensures ∙ ap next_stamp c.greater.ensures)
    (part (state_of (the_view c.self.inside)) refl)))
    c.take_event-taken.ensures.part c.stamp_with-self-inside.ensures.happened
  where
    after : KernelView
    after = record {
      kernels = c.self.inside.kernels;
      version = c.self.inside.version;
      table = c.take_event-taken.new.state.table;
      processes = map process_state c.take_event-taken.new.state.processes;
      made = c.take_event-taken.new.state.made;
      stamp = c.stamp_with-self-inside.result;
    }

pub returns-clause-same : goal.returns-clause-same
returns-clause-same c =
    both_err c.take_event-taken.result
    (λ same stamp. state-same (the_view c.self.inside) _ refl refl same.kernel same.entries same.states same.made stamp ∙ ap state_of c.self.view_is)
    c.take_event-taken.ensures.same c.stamp_with-self-inside.ensures.kept

pub returns-clause-there : goal.returns-clause-there
returns-clause-there c =
    take-goes (the_view c.self.inside) c.args.self.now _ c.self.view_is (c.self.invariant.number, c.self.invariant.names) c.take_event-taken.result c.args.from (packet_picture c.args.packet.now) c.requires.from (returns-clause-step c)

pub invariant_of-self : goal.invariant_of-self
invariant_of-self c =
    record {
      consistent = c.take_event-taken.ensures.keeps.consistent;
      number = subst (λ k. k < c.self.inside.kernels) (sym c.take_event-taken.ensures.keeps.kernel) c.self.invariant.number;
      names =
          take-names (the_view c.self.inside) c.args.self.now _ c.self.view_is (c.self.invariant.number, c.self.invariant.names) c.take_event-taken.result c.args.from (packet_picture c.args.packet.now) c.requires.from (returns-clause-step c)
          (returns-clause-same c);
    }
