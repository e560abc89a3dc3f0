-- A node may go to another thread: what proofs alone see of a message or a history owns nothing.
use denote.RattleType.{RattleType}
use denote.Struct.Field.{row_field}
use denote.Param.Send.{IsSend, owning_send, sendable, view_send}
use denote.Param.SendFields.{as_row_send, declared_send}
use Rattle.std.proofs.Crossing as heap
use Rattle.std.proofs.hash.BuildHasherDefault.TheSendSync as builder
use Rattle.std.proofs.hash.FoldHasher.TheSendSync as fold
use Rattle.std.proofs.option.Option.TheSendSync as option
use Rattle.std.specs.contracts.hash.FoldHasher as FoldHasher
use Rattle.indexmap.proofs.map.IndexMap.TheSendSync as map_is
use Rattle.charlotte_calls.proofs.names.EndId.TheSendSync as end_id
use Rattle.charlotte_packets.proofs.mark.Mark.TheSendSync as mark
use Rattle.charlotte_packets.proofs.moving.Moving.TheSendSync as moving
use Rattle.end_table.proofs.held.Held.TheSendSync as held
use Rattle.end_table.proofs.messages.Messages.TheSendSync as messages
use Rattle.end_table.specs.contracts.entry.Sending as Sending
use Rattle.end_table.specs.contracts.living.Living as Living
use Rattle.end_table.specs.contracts.living.Living.TheInside as LivingInside
use Rattle.end_table.specs.contracts.message.MessageSeen as MessageSeen
use Rattle.end_table.specs.contracts.places.Places as Places
use Rattle.end_table.specs.contracts.places.Places.TheInside as PlacesInside
use Rattle.end_table.specs.contracts.slot.Content as Content
use Rattle.end_table.specs.contracts.slot.Slot as Slot
use Rattle.end_table.specs.contracts.slot.Slot.TheInside as SlotInside
use Rattle.end_table.specs.contracts.table.Table as Table
use Rattle.end_table.specs.contracts.table.Table.TheInside as TableInside
use Rattle.kernel_process.proofs.event.Event.TheSendSync as event
use Rattle.kernel_process.proofs.process.Processes.TheSendSync as processes
use Rattle.kernel_core.specs.contracts.kernel.Kernel as Kernel
use Rattle.kernel_core.specs.contracts.kernel.Kernel.TheInside as KernelInside
use Rattle.kernel_core.specs.contracts.state.State as State
use Rattle.packed_lines.proofs.kept_lines.KeptLines.TheSendSync as lines
use Rattle.written_journal.proofs.journal.Late.TheSendSync as late
use Rattle.written_journal.proofs.written.Written.TheSendSync as written
use Rattle.written_journal.specs.contracts.history.History as History
use Rattle.written_journal.specs.contracts.journal.WrittenJournal as Journal
use Rattle.written_journal.specs.contracts.journal.WrittenJournal.TheInside as JournalInside
use Rattle.written_journal.specs.contracts.stored.Stored as Stored
use Rattle.written_journal.specs.contracts.stored.Stored.TheInside as StoredInside
use Rattle.kernel_net.proofs.port.Port.TheSendSync as port
use Rattle.kernel_outbox.proofs.outbox.Outbox.TheSendSync as outbox
use Rattle.program_round.proofs.programs.Programs.TheSendSync as programs
use Rattle.kernel_turns.proofs.base.Orders.TheSendSync as orders
use Rattle.kernel_turns.proofs.course.Course.TheSendSync as course
use Rattle.kernel_turns.specs.contracts.base.Base as Base
use Rattle.kernel_turns.specs.contracts.node.Node as Node

-- ---- the table of ends

seen-send : IsSend MessageSeen.the_row
seen-send = owning_send MessageSeen.the_type tt (λ d. tt) (λ k x w. tt)

sending-send : IsSend Sending.the_row
sending-send = let s : IsSend MessageSeen.the_row = seen-send in search sendable depth 20

living-inside : IsSend LivingInside.the_row
living-inside = declared_send LivingInside.the_type (moving.the_send, (sending-send, (held.the_send, tt)))

living-send : IsSend Living.the_row
living-send = view_send LivingInside.the_row _ _ _ _ living-inside

content-send : IsSend Content.the_row
content-send = let s : IsSend Living.the_row = living-send in let m = mark.the_send in search sendable depth 20

slot-send : IsSend Slot.the_row
slot-send = view_send SlotInside.the_row _ _ _ _ (declared_send SlotInside.the_type (content-send, tt))

places-inside : IsSend PlacesInside.the_row
places-inside =
    declared_send PlacesInside.the_type (search sendable depth 20, (map_is.the_send _ _ _ _ FoldHasher.the_row _ _ _ _ _ end_id.the_send slot-send (builder.the_send _ fold.the_send) heap.send heap.frees, tt))

places-send : IsSend Places.the_row
places-send = view_send PlacesInside.the_row _ _ _ _ places-inside

table-send : IsSend Table.the_row
table-send = view_send TableInside.the_row _ _ _ _ (declared_send TableInside.the_type (places-send, (messages.the_send, tt)))

-- ---- the kernel

state-send : IsSend State.the_row
state-send = declared_send State.the_type (table-send, (processes.the_send, (search sendable depth 20, (event.the_send, tt))))

kernel-inside : IsSend KernelInside.the_row
kernel-inside = declared_send KernelInside.the_type (heap.send, (search sendable depth 20, (search sendable depth 20, (state-send, (search sendable depth 20, tt)))))

kernel-send : IsSend Kernel.the_row
kernel-send = view_send KernelInside.the_row _ _ _ _ kernel-inside

-- ---- the journal

history-send : IsSend History.the_row
history-send = owning_send History.the_type tt (λ d. tt) (λ k x w. tt)

stored-inside : IsSend StoredInside.the_row
stored-inside = declared_send StoredInside.the_type (written.the_send, (lines.the_send, (search sendable depth 20, (lines.the_send, (history-send, tt)))))

stored-send : IsSend Stored.the_row
stored-send = view_send StoredInside.the_row _ _ _ _ stored-inside

journal-send : IsSend Journal.the_row
journal-send = view_send JournalInside.the_row _ _ _ _ (declared_send JournalInside.the_type (stored-send, (option.the_send _ late.the_send, tt)))

-- ---- the node

base-send : IsSend Base.the_row
base-send = declared_send Base.the_type (kernel-send, (journal-send, (port.the_send, (outbox.the_send, (course.the_send, (orders.the_send, (search sendable depth 20, tt)))))))

pub node-send : (P W : RattleType) → IsSend P → IsSend W → IsSend (Node.the_row P W)
node-send P W p w = declared_send (Node.the_type P W) (heap.send, (base-send, (programs.the_send P p, (as_row_send (row_field W) w, (search sendable depth 20, (search sendable depth 20, tt))))))
