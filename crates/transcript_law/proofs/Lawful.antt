-- Replays are lawful.
use Rattle.std.proofs.Common.{List}
use Rattle.transcript_lines.specs.declared.last.Last.{Last}
use Rattle.trace_law.proofs.Record.{record-is-lawful}
use Rattle.trace_law.proofs.Run.{record_is_bare}
use Rattle.transcript_law.specs.Law.{IsLawfulReplay}
use Rattle.transcript_reading.specs.declared.line.LineKind.{LineKind}
use Rattle.transcript_replay.specs.Replay.{IsReplay}

pub replay-is-lawful : (kinds : List LineKind) (last : Last) → IsReplay kinds last → IsLawfulReplay kinds last
replay-is-lawful kinds last r =
    record {
      replayed = r;
      lawful = record-is-lawful r.setting r.events r.merged r.valid r.recorded;
      bare = record_is_bare r.setting r.merged r.valid;
    }
