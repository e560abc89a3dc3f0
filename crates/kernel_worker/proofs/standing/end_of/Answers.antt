use Rattle.kernel_worker.proofs.Found.{not-quiet, quiet-where}
use Rattle.kernel_worker.proofs.standing.end_of.Goals as goal

pub returns-then-both-clause-some : goal.returns-then-both-clause-some
returns-then-both-clause-some g c =
    (quiet-where c.meet_all-empty.new.nodes c.meet_all-empty.result c.are_at_rest-rest.result c.both.result c.meet_all-empty.ensures.empty c.are_at_rest-rest.ensures c.both.ensures).0 c.if-both.true

pub returns-in-Some-clause-some : goal.returns-in-Some-clause-some
returns-in-Some-clause-some g c =
    record { not_quiet = not-quiet c.meet_all-empty.new.nodes c.meet_all-empty.result c.are_at_rest-rest.result c.both.result c.meet_all-empty.ensures.empty c.are_at_rest-rest.ensures c.both.ensures c.if-both.false; first = c.in-Some.ensures.some }

pub returns-in-None-clause-none : goal.returns-in-None-clause-none
returns-in-None-clause-none g c =
    record { not_quiet = not-quiet c.meet_all-empty.new.nodes c.meet_all-empty.result c.are_at_rest-rest.result c.both.result c.meet_all-empty.ensures.empty c.are_at_rest-rest.ensures c.both.ensures c.if-both.false; unspent = c.in-None.ensures.none }
