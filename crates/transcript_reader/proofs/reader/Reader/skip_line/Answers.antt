use Rattle.std.proofs.Common.{subst}
use Rattle.transcript_reader.specs.Lines.{Unread}
use Rattle.transcript_reader.specs.Next.{GivesSkipped}
use Rattle.transcript_reader.proofs.reader.Reader.skip_line.Goals as goal

pub returns : goal.returns
returns c = subst (λ (u : Unread). GivesSkipped u c.skip_other.result c.skip_other.new.self) c.if-skip_of_entry.ensures c.skip_other.ensures
