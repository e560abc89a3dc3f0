use Rattle.plan_text.proofs.Again.{plan_only}
use Rattle.plan_text.proofs.Found.{plan_found, plan_valid}
use Rattle.plan_text.proofs.read.read_plan.Goals as goal

pub returns-clause-found : goal.returns-clause-found
returns-clause-found c = plan_found c.args.bytes.now c.read_lines.result c.read_lines.ensures

pub returns-clause-valid : goal.returns-clause-valid
returns-clause-valid c = plan_valid c.args.bytes.now c.read_lines.result c.read_lines.ensures

pub returns-clause-only : goal.returns-clause-only
returns-clause-only c = λ p is. plan_only c.args.bytes.now c.read_lines.result p c.read_lines.ensures is
