-- The next line of a text, as it is read and followed.
use Rattle.std.specs.Prelude.{◌≡◌, Bool, MatchBool, Some, Ok}
use Rattle.transcript_reader.specs.Lines.{Unread, next_line}
use Rattle.transcript_reader.specs.declared.line.Line.{Line}
use Rattle.transcript_items.specs.Kept.{Kept, Follows, Refuses}

-- the next line was read, and followed or not
pub record FollowsNext (old : Kept) (u : Unread) (went : Bool) (new : Kept) (v : Unread) : Type 0 where
  pub line : Line
  pub read : next_line u ≡ Ok (Some (line, v))
  pub follows : MatchBool went (Follows old line.what new) (Refuses old line.what)
