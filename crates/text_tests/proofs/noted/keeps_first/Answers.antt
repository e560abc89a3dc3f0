use Rattle.std.proofs.Common.{length, ap, arith, length-take-le}
use Rattle.text_tests.proofs.noted.keeps_first.Goals as goal

pub entry-requires : goal.entry-requires
entry-requires c =
    omega (arith, ap length c.cut.ensures.entries, length-take-le 1 c.args.journal.now.entries (omega (arith, c.requires)))
