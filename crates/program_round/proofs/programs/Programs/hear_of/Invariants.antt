use Rattle.std.proofs.Common.{◌≡◌}
use Rattle.program_round.proofs.Answering.{IsAwayBefore}
use Rattle.program_round.proofs.programs.Programs.hear_of.Given as goal

abbrev pub invariant-loop-place : goal.invariant-loop-place
invariant-loop-place g l = record {
  all : l.self.all.items ≡ l.initial.self.all.items;
  doing : l.self.doing ≡ l.initial.self.doing;
  next : l.self.next ≡ l.initial.self.next;
  away : IsAwayBefore l.p l.place l.initial.self.all.items;
}
