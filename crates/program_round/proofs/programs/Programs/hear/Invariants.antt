use Rattle.std.proofs.Common.{◌≡◌, drop}
use Rattle.program_round.specs.Doings.{all_answered}
use Rattle.program_round.proofs.programs.Programs.hear.Given as goal

abbrev pub invariant-loop-p : goal.invariant-loop-p
invariant-loop-p g l = record {
  all : l.self.all.items ≡ l.initial.self.all.items;
  doing : all_answered (drop l.p-index l.answered) l.self.all.items l.self.doing ≡ all_answered l.answered l.initial.self.all.items l.initial.self.doing;
  next : l.self.next ≡ l.initial.self.next;
}
