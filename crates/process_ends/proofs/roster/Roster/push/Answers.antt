use Rattle.process_ends.proofs.Counting.{counted_pushed, pushed_as}
use Rattle.process_ends.proofs.roster.Roster.push.Goals as goal

pub invariant_of-self-2 : goal.invariant_of-self-2
invariant_of-self-2 c =
    counted_pushed _ _ _ _ _ _ _ c.self.invariant c.self.view_is c.requires.few c.in_ok-push.ensures.items c.new.ensures.holding c.requires.fresh

pub returns-clause-more : goal.returns-clause-more
returns-clause-more c = pushed_as _ _ _ _ _ _ c.in_ok-push.ensures.items c.self.view_is c.new.ensures.end c.new.ensures.holding c.requires.fresh
