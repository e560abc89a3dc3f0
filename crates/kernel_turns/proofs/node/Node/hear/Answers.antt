use Rattle.std.proofs.Common.{refl}
use Rattle.kernel_turns.proofs.Amid.{may-take}
use Rattle.kernel_turns.proofs.Answering.{finds-gets, got-as, marked-continues, took-continues}
use Rattle.kernel_turns.specs.declared.base.Base.{Base}
use Rattle.kernel_turns.proofs.node.Node.hear.Goals as goal

pub get_from-requires : goal.get_from-requires
get_from-requires g c = c.requires.amid.2.found.some

pub take-requires-clause-later : goal.take-requires-clause-later
take-requires-clause-later g c =
    let e = c.get_from.ensures in
    let got : Base = record c.args.self.now.base { port = c.get_from.new.self } in
    (may-take _ _ (record c.args.self.now { base = got }) c.requires.amid.0 c.args.from c.in-Packet.packet c.requires.amid.1
    (got-as _ _ _ _ _ c.in-Packet.is (finds-gets _ _ c.requires.amid.0 c.args.self.now.base got c.requires.amid.2 e.gets e.place refl)) c.tell_packet.ensures).later

pub returns-in_ok-take-in-Packet-clause-turn : goal.returns-in_ok-take-in-Packet-clause-turn
returns-in_ok-take-in-Packet-clause-turn g c =
    let told = c.in_ok-take-in-Packet.ensures in
    let e = c.get_from.ensures in
    let got : Base = record c.args.self.now.base { port = c.get_from.new.self } in
    λ before put am finds. took-continues _ (record c.args.self.now { base = got }) _ before c.args.from c.in-Packet.packet put told.took.0 am.turns
    (got-as _ _ _ _ _ c.in-Packet.is (finds-gets _ _ before c.args.self.now.base got finds e.gets e.place refl)) told.took.1 told.took.2 told.rest

pub returns-in_ok-mark-in-Marker-clause-turn : goal.returns-in_ok-mark-in-Marker-clause-turn
returns-in_ok-mark-in-Marker-clause-turn g c =
    let e = c.get_from.ensures in
    let got : Base = record c.args.self.now.base { port = c.get_from.new.self } in
    λ before put am finds. marked-continues _ (record c.args.self.now { base = got }) _ before c.args.from put am.turns
    (got-as _ _ _ _ _ c.in-Marker.is (finds-gets _ _ before c.args.self.now.base got finds e.gets e.place refl)) c.in_ok-mark-in-Marker.ensures.begins refl
