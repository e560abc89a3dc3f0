use Rattle.std.proofs.Common.{◌≡◌, length, ap, ◌∙◌}
use Rattle.kernel_core.specs.State.{state_of}
use Rattle.node_start.proofs.start.start_node.Goals as goal

-- the kernel is the one that was started, so what it is at its start is said of it
pub returns : goal.returns
returns g c = record {
  state = ap state_of c.start-2.ensures.kernel ∙ c.in_ok-kernel.ensures.state;
  processes = ap (λ k. length k.processes) c.start-2.ensures.kernel ∙ c.in_ok-kernel.ensures.processes;
  kernels = ap (λ k. k.kernels) c.start-2.ensures.kernel ∙ c.in_ok-kernel.ensures.kernels;
  entries = c.start-2.ensures.entries;
  port_is = c.start-2.ensures.port;
  unsent = c.start-2.ensures.unsent;
  waiting = c.start-2.ensures.waiting;
  begun = c.start-2.ensures.begun;
  marked = c.start-2.ensures.marked;
  marks = c.start-2.ensures.marks;
  orders = c.start-2.ensures.orders;
  used = c.start-2.ensures.used;
  programs_are = c.start-2.ensures.programs;
  doing = c.start-2.ensures.doing;
  watch = c.start-2.ensures.watch;
  unspoiled = c.start-2.ensures.spoiled;
}
