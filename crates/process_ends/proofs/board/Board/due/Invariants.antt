use Rattle.std.specs.BTreeSet.{btree_set_len}
use Rattle.std.proofs.Common.{◌≡◌}
use Rattle.process_ends.specs.Noted.{IsNoted}
use Rattle.process_ends.proofs.board.Board.due.Given as goal

abbrev pub invariant-loop-number : goal.invariant-loop-number
invariant-loop-number l =
    record {
      noted : IsNoted l.self;
      roster : l.self.roster ≡ l.initial.self.roster;
      room : l.self.room ≡ l.initial.self.room;
    }

abbrev pub decreases-loop-number : goal.decreases-loop-number
decreases-loop-number l = btree_set_len l.self.agenda
