use Rattle.std.proofs.Common.{◌≡◌, is_some, true, refl, rules}
use Rattle.kernel_turns.proofs.Beginning.{begun-stays}
use Rattle.kernel_turns.proofs.base.Base.begin.Goals as goal

pub returns-then-is_some-clause-begins : goal.returns-then-is_some-clause-begins
returns-then-is_some-clause-begins c =
    let some : is_some c.args.self.now.course.begun ≡ true = search rules in
    begun-stays c.args.self.now c.args.self.now.course.begun refl some
