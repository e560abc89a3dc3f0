use Rattle.std.proofs.Common.{subst}
use Rattle.transcript_reader.specs.Lines.{GivesNext, Unread}
use Rattle.transcript_reader.proofs.reader.Reader.next_line.Goals as goal

pub returns-in-None : goal.returns-in-None
returns-in-None c = subst (λ (u : Unread). GivesNext u c.next_other.result c.next_other.new.self) c.in-None.ensures c.next_other.ensures
