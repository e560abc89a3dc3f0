use Rattle.std.proofs.Common.{sym}
use Rattle.written_journal.proofs.Events.{all-kept, cut-kept}
use Rattle.written_journal.proofs.written.Written.cut.Goals as goal

pub returns-in-Some : goal.returns-in-Some
returns-in-Some c = λ es kept. cut-kept c.args.self.now _ es c.args.first c.in-Some.event kept (sym c.in-Some.ensures) c.truncate.ensures.items c.truncate-in-Some.ensures.items c.truncate-in-Some-2.ensures.items

pub returns-in_default : goal.returns-in_default
returns-in_default c = λ es kept. all-kept c.args.self.now es c.args.first kept (sym c.in_default.ensures)
