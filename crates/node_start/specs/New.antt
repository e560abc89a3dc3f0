-- A node before its first turn.
use Rattle.std.specs.Prelude.{◌≡◌, ℕ, false, List, [], None, length, replicate}
use Rattle.charlotte_calls.specs.declared.names.Pid.{Pid}
use Rattle.charlotte_calls.specs.declared.setting.Setting.{Setting}
use Rattle.kernel_core.specs.State.{state_of}
use Rattle.kernel_net.specs.Ports.{PortView}
use Rattle.kernel_step.specs.Start.{start_kernel}
use Rattle.kernel_turns.specs.Courses.{marked_of}
use Rattle.kernel_turns.specs.declared.base.Orders.{Orders}
use Rattle.kernel_turns.specs.declared.node.Node.{Node}
use Rattle.program_round.specs.declared.doing.Doing.TheVariants.{Begins}

-- it is of this kernel, with these programs, this port, these orders and this watch, and did nothing yet
pub record IsNew {P W : Type 0} (s : Setting) (number : ℕ) (programs : List (Pid × P)) (port : PortView) (part : Orders × W) (n : Node P W) : Type 0 where
  pub state : state_of n.base.kernel ≡ start_kernel s number
  pub processes : length n.base.kernel.processes ≡ length s.homes
  pub kernels : n.base.kernel.kernels ≡ s.kernels
  pub entries : n.base.journal.entries ≡ []
  pub port_is : n.base.port ≡ port
  pub unsent : n.base.outbox.unsent.items ≡ []
  pub waiting : n.base.outbox.waiting.items ≡ []
  pub begun : n.base.course.begun ≡ None
  pub marked : (from : ℕ) → marked_of n.base.course from ≡ None
  pub marks : length n.base.course.marked ≡ 8
  pub orders : n.base.orders ≡ part.0
  pub used : n.base.used ≡ 0
  pub programs_are : n.programs.all.items ≡ programs
  pub doing : n.programs.doing ≡ replicate 64 Begins
  pub watch : n.watch ≡ part.1
  pub unspoiled : n.spoiled ≡ false
