-- A program that makes its moves in order, so many times, and ends.
use Rattle.std.specs.Prelude.{ℕ, ◌+◌, ◌-◌, Bool, nat_eq, nat_lt, if◌then◌else◌, List, [], ◌∷◌, Option, Some, None, length, slice_get}
use Rattle.charlotte_calls.specs.declared.calls.Answer.{Answer}
use Rattle.charlotte_calls.specs.declared.calls.Call.{Call}
use Rattle.charlotte_calls.specs.declared.calls.Call.TheVariants as call
use Rattle.charlotte_calls.specs.declared.names.EndId.{EndId}
use Rattle.charlotte_calls.specs.declared.program.Next.{Next}
use Rattle.charlotte_calls.specs.declared.program.Next.TheVariants as next
use Rattle.worker_rounds.specs.declared.cycle.Did.{Did}
use Rattle.worker_rounds.specs.declared.cycle.Did.TheVariants as did
use Rattle.worker_rounds.specs.declared.moves.Move.{Move}
use Rattle.worker_rounds.specs.declared.moves.Move.TheVariants as move

-- a Send of one byte that encloses nothing
abbrev pub message_on : EndId → Call
message_on on = call.Send on (120 ∷ []) []

-- what the step of a move answers
abbrev pub next_of : Move → Next
next_of (move.Send on) = next.Ask (message_on on)
next_of (move.Receive on) = next.Ask (call.Receive on)
next_of move.Wait = next.Ask call.Wait
next_of move.Think = next.Pause

pub record Cycled : Type 0 where
  pub moves : List Move
  pub place : ℕ
  -- how often the moves are to be made, this time too
  pub rounds : ℕ
  pub last : Did

-- the last step
abbrev pub last_of : Did → Option Next
last_of did.Nothing = None
last_of (did.Moved m) = Some (next_of m)
last_of did.Ended = Some next.Ended

-- the next move
abbrev pub move_of : Cycled → Option Move
move_of c = if nat_eq c.rounds 0 then None else slice_get c.moves c.place

-- behind a move
abbrev pub behind : Cycled → Cycled
behind c = if nat_lt (c.place + 1) (length c.moves) then record c { place = c.place + 1 } else record c { place = 0; rounds = c.rounds - 1 }

abbrev pub moved_by : Option Move → Cycled → Cycled
moved_by None c = c
moved_by (Some m) c = behind c

-- what is done with the next move
abbrev pub went_on : Option Move → Cycled → Next × Cycled
went_on None c = (next.Ended, record c { last = did.Ended })
went_on (Some m) c = (next_of m, record (behind c) { last = did.Moved m })

-- it does not look at its answers, and asks no Exit
abbrev pub cycled_step : Cycled → Option Answer → Next × Cycled
cycled_step c given = went_on (move_of c) c
