-- Exceptions that close requests.
use Rattle.std.specs.Prelude.{ℕ, List, [], ◌∷◌, drop}
use Rattle.typing_rules.specs.declared.exception.Exception.{Exception}
use Rattle.lynx_meaning.specs.Code.{Opened, Thread, instead}
use Rattle.lynx_meaning.specs.Courses.{Action, Moment, Outcome}
use Rattle.lynx_meaning.specs.Values.{Value}
use Rattle.machine_turns.specs.Threads.{Standing, answers, in_turn}

-- the exception that is under way after these outcomes of closes
abbrev pub lasting : Exception → List Outcome → Exception
lasting exception [] = exception
lasting exception (o ∷ os) = lasting (instead o exception) os

-- so many requests were open as the innermost open try was opened
abbrev pub kept_depth : List Opened → ℕ
kept_depth [] = 0
kept_depth (o ∷ os) = o.depth

-- amid an instruction, after these actions with so many outcomes
abbrev pub moment_after : List Value → List Action → ℕ → Standing → Moment
moment_after globals actions heard s =
    record { store = record { globals = globals; locals = s.locals }; answers = answers globals (drop heard s.given); actions = actions }

-- the thread as an exception is raised: so many operands were taken, and so many requests closed
abbrev pub raising : List Value → List Action → ℕ → ℕ → ℕ → Standing → Thread
raising globals actions taken heard closed s =
    record (in_turn globals s)
    { stack = drop taken s.stack; requests = drop closed s.requests; moment = moment_after globals actions heard s }
