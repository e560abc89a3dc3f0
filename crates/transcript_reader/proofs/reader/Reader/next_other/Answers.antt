use Rattle.std.proofs.Common.{subst}
use Rattle.transcript_reader.specs.Lines.{GivesNext, Unread}
use Rattle.transcript_reader.proofs.Next.{note_line}
use Rattle.transcript_reader.proofs.reader.Reader.next_other.Goals as goal

pub returns-in-Some : goal.returns-in-Some
returns-in-Some c = note_line c.args.self.now c.next_note.new.self c.in-Some.note c.lines-number.result c.in-Some.ensures c.lines-number.ensures

pub returns-in-None : goal.returns-in-None
returns-in-None c = subst (λ (u : Unread). GivesNext u c.next_any.result c.next_any.new.self) c.in-None.ensures c.next_any.ensures
