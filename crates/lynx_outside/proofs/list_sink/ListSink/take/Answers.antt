-- A put past the room keeps as many of the bytes as there is room for.
use Rattle.std.proofs.Common.{rules, ◌-◌}
use Rattle.lynx_outside.proofs.list_sink.ListSink.take.Goals as goal

pub returns-then-free-bytes-clause-appended : goal.returns-then-free-bytes-clause-appended
returns-then-free-bytes-clause-appended c = (c.self.inside.room - c.len.result, search rules)
