use Rattle.std.proofs.Common.{◌≡◌, [], rules}
use Rattle.transcript_replay.proofs.Rest.{refutes-service}
use Rattle.kernel_journal.specs.Body.{course_of}
use Rattle.kernel_journal.proofs.body.Body.show.Goals as goal

pub returns-in-None-clause-differs : goal.returns-in-None-clause-differs
returns-in-None-clause-differs c = let none : c.args.self.now.due ≡ [] = search rules in refutes-service (course_of c.args.self.now) c.args.shown.now none
