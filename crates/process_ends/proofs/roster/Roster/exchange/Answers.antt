use Rattle.std.proofs.Common.{arith}
use Rattle.process_ends.specs.Seen.{seen}
use Rattle.process_ends.proofs.Counting.{counts_fit, counted_now}
use Rattle.process_ends.proofs.roster.Roster.exchange.Goals as goal

pub overflow_add-self : goal.overflow_add-self
overflow_add-self c =
    let fit = counts_fit _ _ (seen c.args.holding) _ _ _ c.self.invariant c.exchange_at-was.ensures.old in omega (arith, fit.coming_fits, c.coming-coming.ensures)

pub overflow_sub-self : goal.overflow_sub-self
overflow_sub-self c =
    let fit = counts_fit _ _ (seen c.args.holding) _ _ _ c.self.invariant c.exchange_at-was.ensures.old in
    omega (arith, fit.coming_left, c.coming-coming.ensures, c.coming.ensures)

pub overflow_add-self-2 : goal.overflow_add-self-2
overflow_add-self-2 c =
    let fit = counts_fit _ _ (seen c.args.holding) _ _ _ c.self.invariant c.exchange_at-was.ensures.old in omega (arith, fit.used_fits, c.used-used.ensures)

pub overflow_sub-self-2 : goal.overflow_sub-self-2
overflow_sub-self-2 c =
    let fit = counts_fit _ _ (seen c.args.holding) _ _ _ c.self.invariant c.exchange_at-was.ensures.old in
    omega (arith, fit.used_left, c.used-used.ensures, c.used.ensures)

pub invariant_of-self : goal.invariant_of-self
invariant_of-self c =
    counted_now _ _ _ (seen c.args.holding) _ _ _ _ _ _ _ c.self.invariant c.exchange_at-was.ensures.old c.exchange_at-was.ensures.left
    c.coming-coming.ensures c.coming.ensures c.used-used.ensures c.used.ensures
