use Rattle.history_checker.proofs.Steps.{followed, refused, still}
use Rattle.history_checker.proofs.checker.Checker.line.Goals as goal

pub returns-in-Some-clause-read : goal.returns-in-Some-clause-read
returns-in-Some-clause-read c = λ lines read. still lines c.args.text.now c.args.self.now c.in-Some.fault c.in-Some.is read

pub returns-in-Ok-clause-read : goal.returns-in-Ok-clause-read
returns-in-Ok-clause-read c = λ lines read.
    followed lines c.args.text.now c.args.self.now (record c.args.self.now { history = c.follow.new.history }) c.in_default.is c.in_default.is read c.in-Ok.ensures.told

pub returns-in-Err-clause-read : goal.returns-in-Err-clause-read
returns-in-Err-clause-read c = λ lines read.
    refused lines c.args.text.now c.args.self.now c.refuse.new.self c.in-Err.fault c.refuse.result c.in_default.is read c.in-Err.ensures.told c.refuse.ensures.kept
    c.refuse.ensures.answer
