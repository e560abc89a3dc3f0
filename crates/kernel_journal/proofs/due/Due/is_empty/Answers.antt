use Rattle.std.proofs.Common.{◌≡◌, length, rules}
use Rattle.kernel_journal.proofs.Left.{none_left}
use Rattle.kernel_journal.proofs.due.Due.is_empty.Goals as goal

pub returns : goal.returns
returns c =
    let counted : c.len.result ≡ length c.self.inside.steps.items = search rules in
    none_left c.self.inside.shown c.len.result c.self.inside.steps.items c.args.self.now c.self.view_is counted
