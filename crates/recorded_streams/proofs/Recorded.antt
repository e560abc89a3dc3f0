-- The entries of a run show the steps of a service run, in which links are FIFO.
use Rattle.std.proofs.Common.{◌≡◌, false, List, map, sym, subst}
use Rattle.std.specs.List.{list_any}
use mathlib.Core.List.{IsPrefix}
use Rattle.charlotte_calls.specs.Names.{opposite}
use Rattle.charlotte_calls.specs.Setting.{IsValid}
use Rattle.charlotte_calls.specs.declared.names.EndId.{EndId}
use Rattle.charlotte_calls.specs.declared.setting.Setting.{Setting}
use Rattle.kernel_entries.specs.declared.entry.Placed.{Placed}
use Rattle.recorded_streams.specs.Recorded.{IsRecordedFifo}
use Rattle.service_step.specs.Lawful.{AreRising}
use Rattle.service_step.specs.Run.{start_state}
use Rattle.service_streams.proofs.Streams.{links_fifo}
use Rattle.service_streams.specs.Streams.{IsFifo, cancels_send, kept_on, messages, reported_in, sent_on}
use Rattle.theorem.specs.Law.{joined}
use Rattle.theorem.specs.Record.{IsLawfulRecord}

pub recorded_fifo : (s : Setting) (merged : List Placed) → IsValid s → (lawful : IsLawfulRecord s merged) → (e : EndId) → IsRecordedFifo s merged lawful e
recorded_fifo s merged valid lawful e =
    record {
      fifo = fifo;
      numbers = subst (λ steps. AreRising (map (λ m. m.number) (sent_on e steps))) (sym lawful.steps) fifo.numbers;
      delivered = subst (λ steps. IsPrefix (reported_in (opposite e) steps) (messages (kept_on e steps))) (sym lawful.steps) fifo.delivered;
      uncancelled = subst (λ steps. list_any (cancels_send e) steps ≡ false → kept_on e steps ≡ sent_on e steps) (sym lawful.steps) fifo.uncancelled;
    }
  where
    fifo : IsFifo (start_state s) (joined lawful.lawfully.served.parts) e
    fifo = links_fifo s (joined lawful.lawfully.served.parts) valid lawful.lawfully.served.run e
