use Rattle.std.specs.Map.Iter.{deref}
use Rattle.std.proofs.lemmas.Map.Iter.{rest_more, rest_all}
use Rattle.process_ends.proofs.Members.{grows_on, all_remain, next_remains, none_remains}
use Rattle.process_ends.proofs.sets.join.Goals as goal

pub loop-number-init : goal.loop-number-init
loop-number-init c = record { grows = λ m is. is; remains = all_remain _ _ _ (cc) }

pub loop-number-preserved : goal.loop-number-preserved
loop-number-preserved c =
    record {
      grows = grows_on _ _ _ c.loop-number.invariant.grows c.add.ensures.grows;
      remains = next_remains _ _ _ _ _ _ (rest_more deref _ _ _ _ c.in-Some.is c.next.ensures.steps) c.add.ensures.grows c.in_ok-add.ensures.added c.loop-number.invariant.remains;
    }

pub returns-clause-joined : goal.returns-clause-joined
returns-clause-joined c = none_remains _ _ _ (rest_all deref _ _ _ c.in-None.is c.next.ensures.steps) c.loop-number.invariant.remains

pub returns-in_err-add-clause-grows : goal.returns-in_err-add-clause-grows
returns-in_err-add-clause-grows c = grows_on _ _ _ c.loop-number.invariant.grows c.add.ensures.grows
