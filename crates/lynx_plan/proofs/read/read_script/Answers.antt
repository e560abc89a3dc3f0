use Rattle.lynx_plan.proofs.Again.{script_only}
use Rattle.lynx_plan.proofs.Counted.{read_few, read_rising}
use Rattle.lynx_plan.proofs.Spelled.{script_found, script_valid}
use Rattle.lynx_plan.proofs.read.read_script.Goals as goal

pub returns-clause-found : goal.returns-clause-found
returns-clause-found c = script_found c.args.bytes.now c.read_lines.result c.read_lines.ensures

pub returns-clause-valid : goal.returns-clause-valid
returns-clause-valid c = script_valid c.args.bytes.now c.read_lines.result c.read_lines.ensures

pub returns-clause-rising : goal.returns-clause-rising
returns-clause-rising c = read_rising c.args.bytes.now c.read_lines.result (script_found c.args.bytes.now c.read_lines.result c.read_lines.ensures)

pub returns-clause-few : goal.returns-clause-few
returns-clause-few c = read_few c.args.bytes.now c.read_lines.result (script_found c.args.bytes.now c.read_lines.result c.read_lines.ensures)

pub returns-clause-only : goal.returns-clause-only
returns-clause-only c = λ s is. script_only c.args.bytes.now c.read_lines.result s c.read_lines.ensures is
