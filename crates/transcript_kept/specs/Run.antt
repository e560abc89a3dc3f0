-- The kernels and the link service that follow a transcript.
use Rattle.std.specs.Prelude.{◌≡◌, Bool, Option, Some, None, slice_get}
use Rattle.std.specs.Bool.{OnTrue}
use Rattle.charlotte_calls.specs.Setting.{IsValid}
use Rattle.kernel_nodes.specs.Nodes.{AreNodes, world_of}
use Rattle.charlotte_packets.specs.declared.picture.Picture.{Picture}
use Rattle.link_service.specs.Service.{state_of}
use Rattle.transcript_items.specs.Kept.{Kept}
use Rattle.transcript_items.specs.Next.{FollowsNext}
use Rattle.transcript_kept.specs.declared.run.Run.{Run}
use Rattle.expected_lines.specs.Told.{told_packet}
use Rattle.transcript_reader.specs.Lines.{Unread}
use Rattle.transcript_reader.specs.Next.{Reads}
use Rattle.leading_lines.specs.declared.guess.PacketAhead.{PacketAhead}
use Rattle.transcript_reading.specs.declared.line.LineKind.TheVariants as line

-- what a run keeps
abbrev pub kept_of : Run → Kept
kept_of r =
    record {
      setting = r.setting;
      world = world_of r.setting r.nodes.nodes.items;
      latest = r.latest;
      due = r.due.items;
      service = state_of r.service;
    }

-- the kernels of a run are those of its setting
pub record IsRun (r : Run) : Type 0 where
  pub valid : IsValid r.setting
  pub nodes : AreNodes r.setting r.nodes.nodes.items

-- the next line is the entry of the first packet that waits on a way, and was read
pub record ReadsFirst (k : Kept) (ahead : PacketAhead) (old new : Unread) : Type 0 where
  pub packet : Picture
  pub first : slice_get (k.world.packets ahead.from ahead.kernel) 0 ≡ Some packet
  pub read : Reads old (line.PacketEntry ahead.stamp ahead.kernel ahead.from (told_packet packet.what)) new

-- the next line was not read, and what is kept is as before; or it was, and followed or not
abbrev pub AnswersNext : Run → Unread → Option Bool → Run → Unread → Type 0
AnswersNext old u None new v = IsRun new × (kept_of new ≡ kept_of old) × (v ≡ u)
AnswersNext old u (Some went) new v = OnTrue went (IsRun new) × FollowsNext (kept_of old) u went (kept_of new) v
