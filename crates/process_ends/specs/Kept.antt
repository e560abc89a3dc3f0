-- What is true of the ends of a process and the tables over them.
use Rattle.std.specs.Prelude.{ℕ, List}
use Rattle.charlotte_calls.specs.declared.names.EndId.{EndId}
use Rattle.process_ends.specs.declared.board.Board.{Board}
use Rattle.process_ends.specs.Noted.{IsNoted}
use Rattle.process_ends.specs.Numbered.{AreNumbered}

pub record IsKept (b : Board) (es : List (EndId × ℕ)) : Type 0 where
  pub noted : IsNoted b
  pub numbered : AreNumbered b.roster es
