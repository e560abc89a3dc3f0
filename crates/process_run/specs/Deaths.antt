-- Links that die (rule 9), and outcomes.
use Rattle.std.specs.Prelude.{ℕ, List, [], ◌∷◌, Ok, Err}
use Rattle.typing_rules.specs.declared.exception.Exception.{Exception}
use Rattle.typing_rules.specs.declared.exception.Exception.TheVariants as exceptions
use Rattle.lynx_meaning.specs.Courses.{Outcome}
use Rattle.machine_turns.specs.Turns.{given_to}
use Rattle.end_protocol.specs.declared.falling.Fallen.{Fallen}
use Rattle.end_protocol.specs.Falling.{dies, fallen, held_again, destroyed, raised}
use Rattle.end_protocol.specs.Going.{returns}
use Rattle.process_run.specs.States.{Keeps, Gone, Held, State}
use Rattle.process_run.specs.Ends.{puts, holds_again, dooms}

-- ---- outcomes

-- a thread's action has this outcome
abbrev pub gives : ℕ → Outcome → State → State
gives thread outcome s = record s { turns = given_to thread outcome s.turns }

abbrev pub raises : ℕ → Exception → State → State
raises thread exception s = gives thread (Err exception) s

-- the outcome is without values
abbrev pub does : ℕ → State → State
does thread s = gives thread (Ok []) s

abbrev pub raises_in : List ℕ → Exception → State → State
raises_in [] exception s = s
raises_in (n ∷ ns) exception s = raises_in ns exception (raises n exception s)

-- ---- deaths

-- What falls with an end: its own ends are held again, those of messages in part are destroyed, and DEADLINK is raised
abbrev pub falls : Fallen → State → State
falls f s = raises_in (raised f) exceptions.DeadLink (dooms (destroyed f) (holds_again (held_again f) s))

-- an answer Dead, or a report Destroyed
unfoldable pub dies_at : Held → State → State
dies_at h s = falls (fallen h.kept) (puts h.number (Keeps (dies h.kept)) s)

-- The process destroys the end, which it then holds no longer
unfoldable pub destroys : Held → State → State
destroys h s = falls (fallen h.kept) (dooms (h.end ∷ []) (puts h.number (Gone (returns h.kept.sending)) s))
