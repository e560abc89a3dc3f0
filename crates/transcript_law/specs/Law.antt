-- What is claimed of a transcript that is replayed.
use Rattle.std.specs.Prelude.{List}
use Rattle.transcript_lines.specs.declared.last.Last.{Last}
use Rattle.trace_law.specs.Record.{IsLawfulRecord}
use Rattle.trace_law.specs.Law.{IsBareRecord}
use Rattle.transcript_reading.specs.declared.line.LineKind.{LineKind}
use Rattle.transcript_replay.specs.Replay.{IsReplay}

-- The lines are the transcript of a run, whose entries show one lawful run of the link service. Where no packet is under way at its end, no kernel
-- keeps a trace of a link that moved on
pub record IsLawfulReplay (kinds : List LineKind) (last : Last) : Type 0 where
  pub replayed : IsReplay kinds last
  pub lawful : IsLawfulRecord replayed.setting replayed.merged
  pub bare : IsBareRecord replayed.setting replayed.merged
