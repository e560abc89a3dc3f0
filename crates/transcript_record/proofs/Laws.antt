-- Runs and their records.
use Rattle.std.proofs.Common.{◌≡◌, ℕ, List, All, arith, subst, sym, ◌∙◌, refl}
use Rattle.charlotte_calls.specs.declared.setting.Setting.{Setting}
use Rattle.journal_text.proofs.Merges.{in-order-unique}
use Rattle.transcript_lines.specs.TranscriptText.{IsShown}
use Rattle.kernel_entries.specs.Order.{AreInOrder, of_kernel}
use Rattle.kernel_world.specs.Run.{IsRecord, IsRun}
use Rattle.kernel_world.specs.World.{Event, noted, start}
use Rattle.kernel_entries.specs.declared.entry.Placed.{Placed}
use Rattle.transcript_record.specs.Record.{IsRecordOf}
use Rattle.transcript_record.proofs.Sorted.{IsSorted, sort}
use Rattle.transcript_record.proofs.Worlds.{shown-noted, told-start}

-- its events in the order of a merge
sorted : (s : Setting) (es : List Event) → IsRun s es → (gs : List Event) × IsSorted s (start s) es gs
sorted s es run = sort s 0 (start s) es (omega (arith, run.few)) (told-start s) run.allowed

record_by : (s : Setting) (es gs : List Event) → IsRun s es → IsSorted s (start s) es gs → IsRecordOf s es (noted (start s) gs)
record_by s es gs run is =
    record {
      run = gs;
      recorded = record {
        run = record { allowed = is.reordered.allowed; few = omega (arith, is.reordered.count, run.few) };
        order = is.order;
        entries = refl;
      };
      same = is.reordered.same;
      leaves = is.reordered.ends;
    }

pub has_record : (s : Setting) (es : List Event) → IsRun s es → (merged : List Placed) × IsRecordOf s es merged
has_record s es run = let gs = sorted s es run in (noted (start s) gs.0, record_by s es gs.0 run gs.1)

pub merge-record : (s : Setting) (es : List Event) (merged : List Placed) → IsRun s es → AreInOrder merged → ((k : ℕ) → of_kernel k merged ≡ of_kernel k (noted (start s) es)) → IsRecordOf s es merged
merge-record s es merged run order same =
    let gs = sorted s es run in
    subst (IsRecordOf s es) (in-order-unique (noted (start s) gs.0) merged gs.1.order order (λ k. gs.1.reordered.same k ∙ sym (same k))) (record_by s es gs.0 run gs.1)

pub record-shown : (s : Setting) (es : List Event) (merged : List Placed) → IsRecord s es merged → All (IsShown s.version) merged
record-shown s es merged r =
    subst (λ (ps : List Placed). All (IsShown s.version) ps) r.entries (shown-noted s 0 (start s) es (omega (arith, r.run.few)) r.run.allowed (told-start s))
