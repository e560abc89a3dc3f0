use Rattle.std.proofs.Common.{◌<◌, sym, subst}
use Rattle.link_service.proofs.NewLinks.{has-room, wired-more}
use Rattle.link_service.proofs.service.Service.wire_next.Goals as goal

pub wire-requires-clause-first : goal.wire-requires-clause-first
wire-requires-clause-first c = subst (λ n. c.wire_of-wire.result.0.0 < n) (sym c.requires.so_far.count) c.wire_of-wire.ensures.first

pub wire-requires-clause-second : goal.wire-requires-clause-second
wire-requires-clause-second c = subst (λ n. c.wire_of-wire.result.1.0 < n) (sym c.requires.so_far.count) c.wire_of-wire.ensures.second

pub wire-requires-clause-room : goal.wire-requires-clause-room
wire-requires-clause-room c = has-room c.args.setting.now c.requires.valid c.args.index c.requires.within c.args.self.now c.requires.so_far c.wire_of-wire.result.0 c.wire_of-wire.ensures.first

pub returns : goal.returns
returns c =
    wired-more c.args.setting.now c.args.index c.args.self.now c.wire.new.self c.wire_of-wire.result c.requires.within c.requires.so_far (c.wire_of-wire.ensures.wire c.wire_of-wire.result)
    c.in_ok-wire.ensures.ok c.wire.ensures.count
