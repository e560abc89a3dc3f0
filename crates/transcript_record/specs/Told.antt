-- What can be told by a transcript, of kernels and worlds.
use Rattle.std.specs.Prelude.{ℕ, ◌≤◌, length, All}
use Rattle.charlotte_calls.specs.declared.calls.Report.{Report}
use Rattle.charlotte_calls.specs.declared.names.EndId.{EndId}
use Rattle.charlotte_packets.specs.declared.picture.Picture.{Picture}
use Rattle.charlotte_calls.specs.declared.setting.Setting.{Setting}
use Rattle.end_table.specs.Table.{IfHere}
use Rattle.end_table.specs.declared.entry.Entry.{Entry}
use Rattle.end_table.specs.declared.entry.Outward.{Outward}
use Rattle.transcript_lines.specs.TranscriptText.{IsFew, HasFewPacket, IsShownReport}
use Rattle.kernel_step.specs.Actions.{enclosed_of}
use Rattle.kernel_step.specs.Kernel.{Kernel}
use Rattle.kernel_world.specs.World.{World}

-- a send that waits encloses no more ends than the version allows
abbrev pub HasFewEnds : ℕ → Outward → Type 0
HasFewEnds version o = IsFew version (length (enclosed_of o))

abbrev pub IsFewEntry : ℕ → Entry → Type 0
IsFewEntry version x = IfHere x (λ view. HasFewEnds version view.outward)

-- a report has what its line shows
abbrev pub IsToldReport : ℕ → Report → Type 0
IsToldReport version r = IsShownReport version r.way r.outcome r.bytes r.enclosed

-- what a kernel keeps
pub record IsTold (version : ℕ) (s : Kernel) : Type 0 where
  pub table : (e : EndId) → IsFewEntry version (s.table e)
  pub reports : (q : ℕ) → All (IsToldReport version) (s.process q).reports

-- a packet under way after so many events
pub record IsToldPacket (version n : ℕ) (q : Picture) : Type 0 where
  pub stamp : q.stamp ≤ n
  pub few : HasFewPacket version q.what

-- a world after so many events; no stamp is greater than their number
pub record IsToldWorld (s : Setting) (n : ℕ) (w : World) : Type 0 where
  pub kernels : (k : ℕ) → IsTold s.version (w.kernel k)
  pub stamps : (k : ℕ) → (w.kernel k).stamp ≤ n
  pub packets : (from to : ℕ) → All (IsToldPacket s.version n) (w.packets from to)
