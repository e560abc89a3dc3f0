use Rattle.std.proofs.Common.{◌≡◌, map}
use Rattle.std.specs.BTreeSet.{btree_set_len}
use Rattle.process_run.specs.Runs.{settled_at}
use Rattle.process_ends.specs.Noted.{IsNoted}
use Rattle.process_ends.specs.Numbered.{KeepNumbers}
use Rattle.process_ends.proofs.board.Board.settle.Given as goal

abbrev pub invariant-loop-number : goal.invariant-loop-number
invariant-loop-number l =
    record {
      noted : IsNoted l.self;
      room : l.self.room ≡ l.initial.self.room;
      settled : map (settled_at l.initial.self.room) l.self.roster ≡ map (settled_at l.initial.self.room) l.initial.self.roster;
      numbers : KeepNumbers l.initial.self.roster l.self.roster;
    }

abbrev pub decreases-loop-number : goal.decreases-loop-number
decreases-loop-number l = btree_set_len l.self.unsettled
