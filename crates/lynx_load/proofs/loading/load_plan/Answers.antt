use Rattle.lynx_load.proofs.Planned.{no_plan, plan_read}
use Rattle.lynx_load.proofs.loading.load_plan.Goals as goal

pub returns-in-Err-clause-loads : goal.returns-in-Err-clause-loads
returns-in-Err-clause-loads g c =
    no_plan (g.F.Files.state c.args.files.now) (g.F.Files.state c.plan_at.new.files) c.args.name.now c.in-Err.failure c.told.result c.in-Err.ensures.plan c.told.ensures

pub returns-in-Ok-clause-loads : goal.returns-in-Ok-clause-loads
returns-in-Ok-clause-loads g c =
    plan_read (g.F.Files.state c.args.files.now) (g.F.Files.state c.plan_at.new.files) (g.F.Files.state c.load_modules.new.files) c.args.name.now c.in-Ok.plan c.load_modules.result
    c.in-Ok.ensures.plan c.load_modules.ensures.loads
