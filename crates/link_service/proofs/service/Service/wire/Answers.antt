use Rattle.std.proofs.Common.{◌∙◌}
use Rattle.link_service.specs.Service.{state_of}
use Rattle.link_service.proofs.NewLinks.{wires-by}
use Rattle.link_service.proofs.service.Service.wire.Goals as goal

pub returns-clause-ok : goal.returns-clause-ok
unfolding state_of
returns-clause-ok c = c.in_ok-add_link.ensures.ok ∙ wires-by (state_of c.args.self.now) c.args.wire c.next_of_home-link.result c.next_of_home-link.ensures.maker c.next_of_home-link.ensures.count
