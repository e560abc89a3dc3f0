-- The lines so far are put, one put each, and no put failed.
use Rattle.std.proofs.Common.{◌≡◌, ℕ, List, ◌++◌, length, map}
use Rattle.lynx_outside.specs.Sink.{taken, WerePut}
use Rattle.lynx_command.proofs.putting.put_text.Given as goal

abbrev pub invariant-loop-line : goal.invariant-loop-line
invariant-loop-line g l = (before : List (List ℕ))
    × (g.T.Text.lines_left l.initial.text ≡ before ++ g.T.Text.lines_left l.text)
    × WerePut (g.S.Sink.state l.initial.sink) (g.S.Sink.state l.sink) (map taken before)

abbrev pub decreases-loop-line : goal.decreases-loop-line
decreases-loop-line g l = length (g.T.Text.lines_left l.text)
