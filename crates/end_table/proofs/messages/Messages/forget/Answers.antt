use Rattle.std.proofs.Common.{arith}
use Rattle.end_table.proofs.Keeping.{HasAt-both, first-none, second-none}
use Rattle.end_table.proofs.messages.Messages.forget.Goals as goal

pub returns-clause-none : goal.returns-clause-none
returns-clause-none c = rw (← c.self.view_is) (HasAt-both c.self.inside.long c.self.inside.brief c.args.end c.forget.new.self c.forget-2.new.self c.forget.ensures.none c.forget-2.ensures.none)

pub returns-clause-absent : goal.returns-clause-absent
returns-clause-absent c =
    rw (← c.self.view_is)
    (λ none. let long = c.forget.ensures.absent (first-none c.self.inside.long c.self.inside.brief c.args.end none) in let brief = c.forget-2.ensures.absent (second-none c.self.inside.long c.self.inside.brief c.args.end none) in omega arith)
