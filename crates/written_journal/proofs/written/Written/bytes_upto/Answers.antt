use Rattle.std.proofs.Common.{◌≡◌, ◌∙◌, ◌+◌, length, rules, sym}
use Rattle.written_journal.proofs.Events.{upto-last, upto-next}
use Rattle.written_journal.proofs.written.Written.bytes_upto.Goals as goal

pub returns-in-Some : goal.returns-in-Some
returns-in-Some c = λ es kept below. upto-next c.args.self.now es (c.args.number + 1) c.in-Some.next kept (sym c.in-Some.ensures)

pub returns-in-None : goal.returns-in-None
returns-in-None c =
    λ es kept below.
    let long : c.len.result ≡ length c.args.self.now.text.items = search rules in
    long ∙ upto-last c.args.self.now es c.args.number kept below (sym c.in-None.ensures)
