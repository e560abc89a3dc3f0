-- What is told of a performance is one lawful run of the link service.
use Rattle.std.proofs.Common.{List}
use Rattle.charlotte_calls.specs.Setting.{IsValid}
use Rattle.charlotte_calls.specs.declared.setting.Setting.{Setting}
use Rattle.transcript_lines.specs.declared.last.Last.{Last}
use Rattle.transcript_lines.specs.declared.last.ScriptNote.{ScriptNote}
use Rattle.kernel_entries.specs.declared.entry.Placed.{Placed}
use Rattle.lynx_plan.specs.declared.script.ScriptLine.{ScriptLine}
use Rattle.script_run.specs.Performing.{IsPerformance}
use Rattle.trace_law.proofs.Record.{record-is-lawful}
use Rattle.trace_law.specs.Record.{IsLawfulRecord}

pub performance_is_lawful : (s : Setting) (lines : List ScriptLine) (merged : List Placed) (notes : List ScriptNote) (last : Last) → IsValid s → IsPerformance s lines merged notes last → IsLawfulRecord s merged
performance_is_lawful s lines merged notes last valid performed = record-is-lawful s performed.recorded.run merged valid performed.recorded.recorded
