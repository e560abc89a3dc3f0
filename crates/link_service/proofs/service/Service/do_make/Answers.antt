use Rattle.link_service.specs.Service.{state_of}
use Rattle.link_service.proofs.Active.{running-there}
use Rattle.link_service.proofs.NewLinks.{after_make-by, make-asks}
use Rattle.link_service.proofs.service.Service.do_make.Goals as goal

pub add_link-requires-clause-first : goal.add_link-requires-clause-first
unfolding state_of
add_link-requires-clause-first c = running-there c.args.self.now.processes c.args.p.0 (make-asks (state_of c.args.self.now) c.args.p c.args.a c.args.b c.requires).runs

pub add_link-requires-clause-second : goal.add_link-requires-clause-second
unfolding state_of
add_link-requires-clause-second c = running-there c.args.self.now.processes c.args.p.0 (make-asks (state_of c.args.self.now) c.args.p c.args.a c.args.b c.requires).runs

pub add_link-requires-clause-next : goal.add_link-requires-clause-next
unfolding state_of
add_link-requires-clause-next c = (make-asks (state_of c.args.self.now) c.args.p c.args.a c.args.b c.requires).next

pub add_link-requires-clause-room : goal.add_link-requires-clause-room
add_link-requires-clause-room c = (make-asks (state_of c.args.self.now) c.args.p c.args.a c.args.b c.requires).pair.room

pub returns-clause-ok : goal.returns-clause-ok
returns-clause-ok c = after_make-by (state_of c.args.self.now) (state_of c.add_link.new.self) c.args.p c.args.a c.args.b c.requires c.in_ok-add_link.ensures.ok
