-- What a thread did: its instructions, its actions and its answers.
use Rattle.std.specs.Prelude.{ℕ, zero, suc, ◌+◌, List, [], ◌∷◌, ◌++◌, nat_eq, Bool, true, false, if◌then◌else◌}
use Rattle.std.specs.Prelude.{Option, Some, None, unwrap_or, slice_get}
use Rattle.lynx_meaning.specs.Agree.{actions_of}
use Rattle.lynx_meaning.specs.Code.{Next, Goes, Over, Comes, Stuck, Program}
use Rattle.lynx_meaning.specs.Courses.{Action, Answer, Behaviour, Outcome, Ended, Waits, Out}
use Rattle.lynx_meaning.specs.Values.{Value}
use Rattle.code_shapes.specs.Shapes.{PartTypes}
use Rattle.machine_turns.specs.Threads.{Standing, goes_on, is_fresh}
use Rattle.machine_turns.specs.Turns.{Beat, RunsOn, Stops, Turns, beat, stands}
use Rattle.machine_sound.specs.Taken.{next_number}

-- what a thread did so far
pub record Life : Type 0 where
  -- the part whose body it runs
  pub part : PartTypes
  -- the values of its parameters
  pub arguments : List Value
  -- the variables of the module at its first instruction, where it has made one
  pub first : Option (List Value)
  -- how many instructions it has begun
  pub made : ℕ
  -- the outcomes with which it went on, each with the variables of the module as they stood then
  pub answers : List Answer
  -- its actions, and whether it ended, waits for an answer, or goes on
  pub did : Behaviour

-- that of a thread that begins
abbrev pub born : PartTypes → List Value → Life
born part arguments = record { part = part; arguments = arguments; first = None; made = 0; answers = []; did = Out [] }

-- ---- an instruction

-- the last of these
abbrev pub latest : List Action → List Action
latest [] = []
latest (a ∷ []) = a ∷ []
latest (a ∷ b ∷ rest) = latest (b ∷ rest)

-- The answer with which an instruction goes on: the last outcome that it was given, with the variables of the module as they stand. One
-- that begins has none.
abbrev pub new_answer : List Value → List Outcome → List Answer
new_answer globals [] = []
new_answer globals (o ∷ []) = record { given = o; globals = globals } ∷ []
new_answer globals (o ∷ p ∷ rest) = new_answer globals (p ∷ rest)

-- what it did, where its instruction comes to this: of the actions of an instruction only the last one is new
abbrev pub does : Next → List Action → Behaviour
does (Goes now) actions = Out actions
does (Over (Comes (Waits now store))) actions = Waits (actions ++ latest now) store
does (Over (Comes (Ended now store))) actions = Ended actions store
does (Over (Comes (Out now))) actions = Out actions
does (Over Stuck) actions = Out actions

-- one more instruction where it begins
abbrev pub one_more : Bool → ℕ → ℕ
one_more true made = made + 1
one_more false made = made

-- a thread that stands so has made its instruction, or what is left of it, which comes to this
abbrev pub lived : List Value → Standing → Next → Life → Life
lived globals s next life =
    record life {
      first = Some (unwrap_or life.first globals);
      made = one_more (is_fresh s) life.made;
      answers = life.answers ++ new_answer globals s.given;
      did = does next (actions_of life.did);
    }

-- ---- beats

-- the thread that makes the next beat, if one does
abbrev pub mover : ℕ → Turns → Option ℕ
mover zero t = None
mover (suc fuel) t = if stands t then next_number t.running t.ready else None

abbrev pub is_number : ℕ → Option ℕ → Bool
is_number n None = false
is_number n (Some k) = nat_eq n k

abbrev pub lives_on : Program → Turns → Option (Option Standing) → Option Life → Option Life
lives_on p t (Some (Some s)) (Some life) = Some (lived t.globals s (goes_on p t.globals s) life)
lives_on p t _ life = life

-- the life of the thread of this number behind the next beat
abbrev pub behind_beat : Program → ℕ → ℕ → Turns → Option Life → Option Life
behind_beat p n fuel t life = if is_number n (mover fuel t) then lives_on p t (slice_get t.threads n) life else life

-- and behind so many beats more
abbrev pub behind_beats : Program → ℕ → ℕ → Beat → Option Life → Option Life
behind_beats p n zero b life = life
behind_beats p n (suc k) (RunsOn fuel t) life = behind_beats p n k (beat p fuel t) (behind_beat p n fuel t life)
behind_beats p n (suc k) _ life = life
