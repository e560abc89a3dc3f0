use Rattle.std.proofs.Common.{refl}
use Rattle.service_step.specs.Ends.{end_eq}
use Rattle.link_service.proofs.Compared.{ends-tell}
use Rattle.link_service.proofs.reports.are_same_ends.Goals as goal

pub returns : goal.returns
unfolding end_eq
returns c = ends-tell c.eq.result c.args.a.now c.args.b.now c.args.a.now c.args.b.now refl refl c.eq.ensures
