-- Streams in the entries of a run in the order of a merge, by the service steps that these show.
use Rattle.std.specs.Prelude.{◌≡◌, false, List, map}
use Rattle.std.specs.List.{list_any}
use mathlib.Core.List.{IsPrefix}
use Rattle.charlotte_calls.specs.Names.{opposite}
use Rattle.charlotte_calls.specs.declared.names.EndId.{EndId}
use Rattle.charlotte_calls.specs.declared.setting.Setting.{Setting}
use Rattle.kernel_entries.specs.declared.entry.Placed.{Placed}
use Rattle.service_step.specs.Lawful.{AreRising}
use Rattle.service_step.specs.Run.{start_state}
use Rattle.service_streams.specs.Streams.{IsFifo, cancels_send, kept_on, messages, reported_in, sent_on}
use Rattle.theorem.specs.Law.{joined}
use Rattle.theorem.specs.Record.{IsLawfulRecord, steps_of}

-- a link is FIFO from e to its opposite, in the lawful run of the service that these entries show. And so much of that the steps of the
-- entries say alone: each message sent on e has a number above those before it, and the owners of the opposite are told, in order, of the
-- first of those whose send was not cancelled, and of no others
pub record IsRecordedFifo (s : Setting) (merged : List Placed) (lawful : IsLawfulRecord s merged) (e : EndId) : Type 0 where
  pub fifo : IsFifo (start_state s) (joined lawful.lawfully.served.parts) e
  pub numbers : AreRising (map (λ m. m.number) (sent_on e (steps_of merged)))
  pub delivered : IsPrefix (reported_in (opposite e) (steps_of merged)) (messages (kept_on e (steps_of merged)))
  pub uncancelled : list_any (cancels_send e) (steps_of merged) ≡ false → kept_on e (steps_of merged) ≡ sent_on e (steps_of merged)
