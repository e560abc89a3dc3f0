use Rattle.kernel_journal.proofs.Bodies.{ends-open, ends-quiet}
use Rattle.kernel_journal.proofs.body.Body.ends.Goals as goal

pub returns-in-Quiet : goal.returns-in-Quiet
returns-in-Quiet c = ends-quiet c.args.self.now c.are_quiet.result c.args.last c.in-Quiet.is (c.are_quiet.ensures c.args.self.now.setting)

pub returns-in-Unsettled : goal.returns-in-Unsettled
returns-in-Unsettled c = ends-open c.args.self.now c.are_quiet-in-Unsettled.result c.args.last c.in-Unsettled.is (c.are_quiet-in-Unsettled.ensures c.args.self.now.setting)
