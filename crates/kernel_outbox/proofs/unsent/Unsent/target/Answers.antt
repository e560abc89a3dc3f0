use Rattle.std.proofs.Common.{◌<◌, length, subst, rules}
use Rattle.kernel_outbox.specs.Unsent.{GoesFirst}
use Rattle.kernel_outbox.proofs.Putting.{first-goes}
use Rattle.kernel_outbox.proofs.unsent.Unsent.target.Goals as goal

pub returns : goal.returns
returns c =
    let some : 0 < length c.self.inside.front.items = search rules in
    subst (GoesFirst c.index.result.now.0) c.self.view_is (first-goes c.self.inside.front.items c.self.inside.behind.items c.index.result.now some c.index.ensures)
