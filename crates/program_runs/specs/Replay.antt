-- Replay of a program on the entries of its kernel.
use Rattle.std.specs.Prelude.{◌≡◌, ℕ, ◌+◌, List, [], ◌∷◌, Option, None, Some}
use Rattle.charlotte_calls.specs.declared.calls.Answer.{Answer}
use Rattle.charlotte_calls.specs.declared.calls.Call.{Call}
use Rattle.charlotte_calls.specs.declared.names.Pid.{Pid}
use Rattle.charlotte_calls.specs.declared.program.Next.{Next}
use Rattle.charlotte_calls.specs.declared.program.Next.TheVariants as next
use Rattle.kernel_entries.specs.declared.entry.Entry.{Entry}
use Rattle.told_answers.specs.Told.{Answered, Heard, NoCall, call_of, hears}

-- what a program with these states does in a state with an answer, or with none, and the state after it
abbrev pub StepOf : Type 0 → Type 0
StepOf S = S → Option Answer → Next × S

-- how far the replay of a program has come whose step function has these states
pub record Replayed (S : Type 0) : Type 0 where
  pub state : S
  -- its last step; None at its start
  pub last : Option Next
  -- how many steps it made
  pub steps : ℕ
  -- what the entries told of its process
  pub heard : Heard

-- its start
abbrev pub replay_start : {S : Type 0} → S → Replayed S
replay_start s = record { state = s; last = None; steps = 0; heard = NoCall }

-- one entry more
abbrev pub with_entry : {S : Type 0} → Pid → Entry → Replayed S → Replayed S
with_entry p e x = record x { heard = hears p x.heard e }

-- one step more, which is given this
abbrev pub with_step : {S : Type 0} → StepOf S → Option Answer → Replayed S → Replayed S
with_step step given x =
    let made = step x.state given in
    record x { state = made.1; last = Some made.0; steps = x.steps + 1 }

-- what a step is given: nothing at the start and after a pause, after a call the answer that the entries told of it. After its end a
-- program makes no step
abbrev pub IsGiven : Option Next → Heard → Option Answer → Type 0
IsGiven None h given = given ≡ None
IsGiven (Some next.Pause) h given = given ≡ None
IsGiven (Some (next.Ask c)) h (Some a) = h ≡ Answered c a
IsGiven _ h given = ⊥

-- a step asks no call
abbrev pub IsNoCall : Next → Type 0
IsNoCall (next.Ask c) = ⊥
IsNoCall n = Unit {0}

-- over these entries of its kernel the program of process p goes from one place of its replay to another: its asks are the calls of
-- p in the entries, in order
pub data Replays {S : Type 0} (step : StepOf S) (p : Pid) : Replayed S → List Entry → Replayed S → Type 0 where
  Rests : (x : Replayed S) → Replays step p x [] x
  -- an entry in which p makes no call
  Passes : (x : Replayed S) (e : Entry) (es : List Entry) (y : Replayed S) → call_of p e.what ≡ None
      → Replays step p (with_entry p e x) es y → Replays step p x (e ∷ es) y
  -- a step that asks the call of an entry
  Asks : (x : Replayed S) (given : Option Answer) (c : Call) (e : Entry) (es : List Entry) (y : Replayed S)
      → IsGiven x.last x.heard given → (step x.state given).0 ≡ next.Ask c → call_of p e.what ≡ Some c
      → Replays step p (with_entry p e (with_step step given x)) es y → Replays step p x (e ∷ es) y
  -- a pause, or the program's end
  Pauses : (x : Replayed S) (given : Option Answer) (es : List Entry) (y : Replayed S)
      → IsGiven x.last x.heard given → IsNoCall (step x.state given).0
      → Replays step p (with_step step given x) es y → Replays step p x es y

-- from its start the program replays, to this state in so many steps
pub record ReplaysProgram {S : Type 0} (step : StepOf S) (start : S) (p : Pid) (es : List Entry) (state : S) (steps : ℕ) : Type 0 where
  pub at : Replayed S
  pub replay : Replays step p (replay_start start) es at
  pub state_is : at.state ≡ state
  pub steps_are : at.steps ≡ steps

-- a replay in two parts
pub record ReplaysVia {S : Type 0} (step : StepOf S) (p : Pid) (x : Replayed S) (es more : List Entry) (y : Replayed S) : Type 0 where
  pub middle : Replayed S
  pub first : Replays step p x es middle
  pub second : Replays step p middle more y
