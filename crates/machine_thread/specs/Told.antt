-- What the code of a thread tells, as the meaning of code has it.
use Rattle.std.specs.Prelude.{List, Ok, Err}
use Rattle.lynx_meaning.specs.Courses as meaning
use Rattle.lynx_meaning.specs.Values.{Value, Link}
use Rattle.machine_values.specs.Told.{values_of}
use Rattle.machine_turns.specs.Threads.{Standing, Made, Went, Acts, Awaits, Ends}
use Rattle.lynx_meaning.specs.Courses.{Outcome}
use Rattle.lynx_meaning.specs.Needs as needs
use Rattle.machine_thread.specs.declared.action.Action.{Action}
use Rattle.machine_thread.specs.declared.action.Action.TheVariants as action
use Rattle.machine_thread.specs.declared.action.Given.{Given}
use Rattle.machine_thread.specs.declared.action.Given.TheVariants as given
use Rattle.machine_thread.specs.declared.action.Wanted.{Wanted}
use Rattle.machine_thread.specs.declared.action.Wanted.TheVariants as wanted
use Rattle.machine_thread.specs.declared.action.Move.{Move}
use Rattle.machine_thread.specs.declared.action.Move.TheVariants as move

abbrev pub action_of : Action → meaning.Action
action_of action.New = meaning.New
action_of (action.Destroy link) = meaning.Destroy (Link link.0)
action_of (action.Bind link entry) = meaning.Bind (Link link.0) entry
action_of (action.Unbind link entry) = meaning.Unbind (Link link.0) entry
action_of (action.Connect link op values) = meaning.Connect (Link link.0) op (values_of values.items)
action_of (action.Accept link op) = meaning.Accept (Link link.0) op
action_of action.Close = meaning.Close
action_of (action.Reply values) = meaning.Reply (values_of values.items)
action_of (action.Write text) = meaning.Write text
action_of action.StopAll = meaning.Stop

abbrev pub outcome_of : Given → Outcome
outcome_of (given.Values values) = Ok (values_of values.items)
outcome_of (given.Raise exception) = Err exception

abbrev pub wanted_of : Wanted → needs.Wanted
wanted_of wanted.NoValue = needs.NoValue
wanted_of wanted.Closing = needs.Closing
wanted_of wanted.TwoLinks = needs.TwoLinks
wanted_of (wanted.Results op) = needs.Results op
wanted_of (wanted.Arguments op) = needs.Arguments op

-- what came of an instruction, which left these variables of the module and this thread
abbrev pub told : Move → List Value → Standing → Made
told move.GoesOn globals s = Went globals s
told (move.Acts a) globals s = Acts (action_of a.value) globals s
told move.Awaits globals s = Awaits globals s
told move.Ends globals s = Ends globals
