use Rattle.kernel_nodes.specs.Nodes.{world_of}
use Rattle.kernel_nodes.proofs.Worlds.{from_there}
use Rattle.std.proofs.Common.{sym}
use Rattle.kernel_journal.proofs.Bodies.{if_err, on_ok}
use Rattle.kernel_journal.proofs.Taken.{first-goes, first-ready, first-stops, first-there}
use Rattle.kernel_journal.proofs.body.Body.take_first.Goals as goal

pub take_first-requires : goal.take_first-requires
take_first-requires c =
    let w = c.requires.waits in
    let q = first-there w.0 ((world_of c.args.self.now.setting c.args.self.now.nodes.nodes.items).packets c.args.ahead.from c.args.ahead.kernel) w.1.1 in (
      c.args.self.now.setting,
      q.0,
      c.requires.ready.nodes,
      from_there c.args.self.now.setting c.args.self.now.nodes.nodes.items c.args.ahead.from c.args.ahead.kernel q.0 c.requires.ready.nodes (sym q.1),
      w.1.0,
      q.1,
    )

pub returns-clause-ready : goal.returns-clause-ready
returns-clause-ready c =
    on_ok c.note.result
    (λ is. first-ready c.args.self.now c.note.new.self c.take_first.new.self c.args.ahead.stamp c.args.ahead.kernel c.args.ahead.from c.requires.waits.0 c.in_ok-noted.noted c.requires.ready c.requires.go c.requires.waits.1 (c.in_ok-noted.ensures c.args.self.now.setting c.requires.ready.nodes) is)
    c.note.ensures.noted

pub returns-clause-leads : goal.returns-clause-leads
returns-clause-leads c =
    on_ok c.note.result
    (λ is what waits. first-goes c.args.self.now c.note.new.self c.take_first.new.self c.args.ahead.stamp c.args.ahead.kernel c.args.ahead.from what c.in_ok-noted.noted c.requires.ready c.requires.go waits (c.in_ok-noted.ensures c.args.self.now.setting c.requires.ready.nodes) is)
    c.note.ensures.noted

pub returns-clause-differs : goal.returns-clause-differs
returns-clause-differs c =
    if_err c.note.result
    (λ s d what waits. first-stops c.args.self.now c.take_first.new.self c.args.ahead.stamp c.args.ahead.kernel c.args.ahead.from what c.in_ok-noted.noted s c.requires.go waits (c.in_ok-noted.ensures c.args.self.now.setting c.requires.ready.nodes) d)
    c.note.ensures.differs
