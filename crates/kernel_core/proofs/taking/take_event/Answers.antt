-- The reserved room leaves everything as it was.
use Rattle.charlotte_packets.specs.Packets.{what_picture}
use Rattle.end_table.specs.Table.{entries}
use Rattle.kernel_core.proofs.Reserved.{reserved-keeps, reserved-parts}
use Rattle.kernel_core.specs.Started.{takes_addressed}
use Rattle.kernel_process.specs.Parts.{with_parts}
use Rattle.kernel_step.specs.Kernel.{closes}
use Rattle.kernel_step.specs.Progress.{progress}
use Rattle.kernel_touched.specs.Found.{IsFound}
use Rattle.std.proofs.Common.{sym, ap, subst, ◌∙◌}
use Rattle.kernel_core.proofs.taking.take_event.Goals as goal

pub take_packet-requires-clause-consistent : goal.take_packet-requires-clause-consistent
take_packet-requires-clause-consistent c = (reserved-keeps c.args.state.now c.reserve_taking.new.state c.requires.consistent c.reserve_taking.ensures.same).consistent

pub reserve_taking-requires : goal.reserve_taking-requires
reserve_taking-requires c = record { heard = c.find-to.ensures.heard.1 }

pub take_packet-requires-clause-found : goal.take_packet-requires-clause-found
take_packet-requires-clause-found c = subst (λ t. IsFound t c.args.packet.now.what c.find-to.result) (sym c.reserve_taking.ensures.same.entries) c.find-to.ensures

pub returns-in-Ok-clause-keeps : goal.returns-in-Ok-clause-keeps
returns-in-Ok-clause-keeps c =
    record {
      consistent = c.take_packet.ensures.keeps.consistent;
      kernel = c.take_packet.ensures.keeps.kernel ∙ c.reserve_taking.ensures.same.kernel;
      length = c.take_packet.ensures.keeps.length ∙ c.reserve_taking.ensures.same.length;
    }

pub returns-in-Err-clause-keeps : goal.returns-in-Err-clause-keeps
returns-in-Err-clause-keeps c = reserved-keeps c.args.state.now c.reserve_taking.new.state c.requires.consistent c.reserve_taking.ensures.same

pub returns-in-Ok-clause-part : goal.returns-in-Ok-clause-part
returns-in-Ok-clause-part c = λ s same.
    c.take_packet.ensures.part s
    ∙ ap (λ u. closes u (takes_addressed c.args.kernels c.reserve_taking.new.state.table.kernel c.reserve_taking.new.state.made c.args.from (what_picture c.args.packet.now.what) (progress (entries c.reserve_taking.new.state.table) c.reserve_taking.new.state.event.work)))
    (reserved-parts c.args.state.now.table c.reserve_taking.new.state.table c.args.state.now.processes c.reserve_taking.new.state.processes s c.reserve_taking.ensures.same.entries c.reserve_taking.ensures.same.states)
    ∙ ap (λ n. closes (with_parts (entries c.args.state.now.table) c.args.state.now.processes s)
    (takes_addressed c.args.kernels c.reserve_taking.new.state.table.kernel n c.args.from (what_picture c.args.packet.now.what)
    (progress (entries c.reserve_taking.new.state.table) c.reserve_taking.new.state.event.work)))
    c.reserve_taking.ensures.same.made
    ∙ ap (λ k. closes (with_parts (entries c.args.state.now.table) c.args.state.now.processes s)
    (takes_addressed c.args.kernels k c.args.state.now.made c.args.from (what_picture c.args.packet.now.what) (progress (entries c.reserve_taking.new.state.table) c.reserve_taking.new.state.event.work)))
    c.reserve_taking.ensures.same.kernel
    ∙ ap (λ d. closes (with_parts (entries c.args.state.now.table) c.args.state.now.processes s) (takes_addressed c.args.kernels c.args.state.now.table.kernel c.args.state.now.made c.args.from (what_picture c.args.packet.now.what) d))
    (ap (λ t. progress t c.reserve_taking.new.state.event.work) (c.reserve_taking.ensures.same.entries ∙ sym same) ∙ c.in-Ok.ensures.begins s)
