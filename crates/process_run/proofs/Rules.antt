-- Worked runs: exceptions, deaths, slices and the end of a process, computed by the definition.
use Rattle.std.specs.Prelude.{◌≡◌, ℕ, ◌+◌, false, true, List, [], ◌∷◌, ◌++◌, codes, replicate, Option, None, Some, refl}
use Rattle.charlotte_calls.specs.declared.calls.Answer.{Answer}
use Rattle.charlotte_calls.specs.declared.calls.Answer.TheVariants as answer
use Rattle.charlotte_calls.specs.declared.calls.Call.TheVariants.{Make, Send, Receive, Cancel, Wait, Print, Exit, Destroy}
use Rattle.charlotte_calls.specs.declared.calls.Cause.TheVariants.{Dead, LinksFull, NoActivity}
use Rattle.charlotte_calls.specs.declared.names.EndId.{EndId}
use Rattle.charlotte_calls.specs.declared.names.Way.TheVariants.{Inward}
use Rattle.charlotte_calls.specs.declared.program.Next.{Next}
use Rattle.charlotte_calls.specs.declared.program.Next.TheVariants.{Ask, Pause, Ended}
use Rattle.charlotte_calls.specs.Names.{opposite}
use Rattle.typing_rules.specs.declared.exception.Exception.{Exception}
use Rattle.typing_rules.specs.declared.exception.Exception.TheVariants as exceptions
use Rattle.lynx_tree.specs.declared.declaration.TypeName.{TypeName}
use Rattle.lynx_tree.specs.declared.declaration.TypeName.TheVariants as types
use Rattle.lynx_code.specs.declared.instruction.Instruction.{Instruction}
use Rattle.lynx_code.specs.declared.instruction.Instruction.TheVariants as code
use Rattle.lynx_code.specs.declared.instruction.Literal.TheVariants as literal
use Rattle.machine_turns.specs.Threads.{begun}
use Rattle.process_run.specs.States.{Module, State, start_of}
use Rattle.process_run.specs.Ends.{room}
use Rattle.process_run.specs.Runs.{goes_on}
use Rattle.process_run.proofs.Modules.{Op, op, entry, module_with, count, end, runs, ok, came, taken, none_came, not_taken, request, reply}
use Rattle.std.specs.Fmt.{digits}
use Rattle.charlotte_calls.specs.EndEq.{end_eq}
use Rattle.lynx_lexer.specs.Slots.{keyword_at}
use Rattle.lynx_packets.specs.Packets.{packet_of, request_of, reply_of, numbered_of, enc_of}
use Rattle.lynx_packets.specs.Reading.{number_at, int_at, int_value, typed_at, arguments_at, value_at, values_at}
use Rattle.lynx_packets.specs.Spelling.{int_text, number_text, value_text, spelling}
use Rattle.lynx_packets.specs.Spots.{word_begun, next_spot, type_told, types_at, name_at, signature_at}
use Rattle.end_protocol.specs.Asking.{asked, lined_up, replied}
use Rattle.end_protocol.specs.Falling.{dies, fallen}
use Rattle.end_protocol.specs.Going.{allows, due_call, sent}
use Rattle.end_protocol.specs.Hearing.{is_readable, accepted, let_come, forbade, gone_on}
use Rattle.end_protocol.specs.Kept.{queued}
use Rattle.end_protocol.specs.Wanting.{is_needed, taker, is_busy}
use Rattle.process_run.specs.Deaths.{dies_at, destroys}
use Rattle.process_run.specs.Runs.{settles}

-- ---- modules that tell of an exception

abbrev it : List ℕ
it = codes "it"

-- at this address: try .. when EXCEPTION do write 'it'; end
abbrev guarded : ℕ → List Instruction → Exception → List Instruction
guarded at inner exception =
    code.Try (at + count inner + 3) ∷ inner
    ++ code.Untry ∷ code.Jump (at + count inner + 8) ∷ code.Case exception (at + count inner + 7) ∷ code.Push (literal.Text it) ∷ code.Write
    ∷ code.Jump (at + count inner + 8) ∷ code.Again ∷ []

-- operations: o of no values, p of one link, q of two
abbrev o : List ℕ
o = codes "o():()"

abbrev p : List ℕ
p = codes "p(link):()"

abbrev operations : List Op
operations = op o [] [] ∷ op p (types.Link ∷ []) [] ∷ op (codes "q(link,link):()") (types.Link ∷ types.Link ∷ []) [] ∷ []

abbrev links : List TypeName
links = types.Link ∷ types.Link ∷ types.Link ∷ []

-- the body alone, with three links, two of which are params: l and x
abbrev alone : List Instruction → Module
alone instructions = module_with links operations [] instructions

-- the body tries this, and then ends
abbrev tries : List Instruction → Exception → Module
tries inner exception = alone (guarded 0 inner exception ++ code.End ∷ [])

abbrev two : List EndId
two = end 0 ∷ end 1 ∷ []

abbrev tells : List Next
tells = Ask (Print it) ∷ Ask Exit ∷ []

-- ---- links that may not be named (rule 8)

-- connect p on l (x) : (); try destroy x when NOLINK do write 'it'; end
abbrev moving : Module
moving = alone (code.LoadG 1 ∷ code.LoadG 0 ∷ code.Connect 1 ∷ guarded 3 (code.LoadG 1 ∷ code.Destroy ∷ []) exceptions.NoLink ++ code.End ∷ [])

-- bind x to e; try connect p on l (x) : () when BUSYLINK do write 'it'; end
abbrev bound : Module
bound =
    module_with links operations (entry 14 0 [] ∷ [])
    (code.LoadG 1 ∷ code.Bind 0 ∷ guarded 2 (code.LoadG 1 ∷ code.LoadG 0 ∷ code.Connect 1 ∷ []) exceptions.BusyLink ++ code.End ∷ code.End ∷ [])

-- ---- new

abbrev making : Module
making = tries (code.New ∷ code.StoreG 2 ∷ code.StoreG 1 ∷ []) exceptions.LinksFull

-- new x, z; destroy z
abbrev made : Module
made = alone (code.New ∷ code.StoreG 2 ∷ code.StoreG 1 ∷ code.LoadG 2 ∷ code.Destroy ∷ code.End ∷ [])

-- ---- replies and failures (rule 7)

-- entry e of o (); begin bind l to e; end.
abbrev serving : List Instruction → Module
serving instructions = module_with links operations (entry 3 0 [] ∷ []) (code.LoadG 0 ∷ code.Bind 0 ∷ code.End ∷ instructions)

abbrev asked_for_o : List (Option Answer) → List (Option Answer)
asked_for_o more = None ∷ ok ∷ came (end 0) (request o []) [] ∷ ok ∷ more

abbrev serves : List Next → List Next
serves more = Ask (Receive (end 0)) ∷ Ask Wait ∷ Ask (Receive (end 0)) ∷ more

-- a failed reply
abbrev connecting : Exception → Module
connecting exception = tries (code.LoadG 1 ∷ code.LoadG 0 ∷ code.Connect 1 ∷ []) exception

abbrev connects : List Next → List Next
connects more = Ask (Send (end 0) (request p (5 ∷ [])) (end 1 ∷ [])) ∷ more

-- ---- deaths (rule 9)

-- the same, and then: destroy x
abbrev goes_on_with_x : Module
goes_on_with_x = alone (guarded 0 (code.LoadG 1 ∷ code.LoadG 0 ∷ code.Connect 1 ∷ []) exceptions.DeadLink ++ code.LoadG 1 ∷ code.Destroy ∷ code.End ∷ [])

abbrev destroys_x : List Next
destroys_x = Ask (Print it) ∷ Ask (Destroy (end 1)) ∷ Ask Exit ∷ []

-- try accept o on l do end; when DEADLINK do write 'it'; end
abbrev accepting : Module
accepting = tries (code.LoadG 0 ∷ code.Accept 0 ∷ code.Close ∷ []) exceptions.DeadLink

-- bind l to e; destroy l; connect o on x () : ()
abbrev leaving : Module
leaving =
    module_with links operations (entry 7 0 [] ∷ [])
    (code.LoadG 0 ∷ code.Bind 0 ∷ code.LoadG 0 ∷ code.Destroy ∷ code.LoadG 1 ∷ code.Connect 0 ∷ code.End ∷ code.End ∷ [])

abbrev leaves : List Next
leaves =
    Ask (Receive (end 0)) ∷ Ask (Destroy (end 0)) ∷ Ask (Send (end 1) (request o []) []) ∷ Ask (Receive (end 1)) ∷ Ask Wait ∷ Ask (Destroy (end 5)) ∷ Ask Wait ∷ []

-- ---- slices, and the end of a process (rule 10)

-- await false
abbrev waiting : Module
waiting = alone (code.Push (literal.Bool false) ∷ code.Await 0 ∷ code.End ∷ [])

-- with one action left it pauses after that; no run comes to this
abbrev unbinding : Module
unbinding = module_with links operations (entry 5 0 [] ∷ []) (code.LoadG 0 ∷ code.Unbind 0 ∷ code.LoadG 0 ∷ code.Destroy ∷ code.End ∷ code.End ∷ [])

abbrev at_first : State
at_first = start_of 1 unbinding two

-- 32 threads stand: there is no room for one more
abbrev crowded : State
crowded = record at_first { turns = record at_first.turns { threads = replicate 32 (Some (begun [] 0 [])) } }

-- ---- what comes of these runs

pub record Ruled : Type 0 where
  -- ---- links that may not be named (rule 8)
  pub no_link : runs 1 (tries (code.LoadG 2 ∷ code.Destroy ∷ []) exceptions.NoLink) two (None ∷ ok ∷ []) ≡ tells
  -- a link value that is no link
  pub no_link_to_send : runs 1 (tries (code.LoadG 2 ∷ code.LoadG 0 ∷ code.Connect 1 ∷ []) exceptions.NoLink) two (None ∷ ok ∷ []) ≡ tells
  -- the end that the message goes on, and the other end of its link
  pub its_own_end : runs 1 (tries (code.LoadG 0 ∷ code.LoadG 0 ∷ code.Connect 1 ∷ []) exceptions.BusyLink) two (None ∷ ok ∷ []) ≡ tells
  pub its_own_link : runs 1 (tries (code.LoadG 1 ∷ code.LoadG 0 ∷ code.Connect 1 ∷ []) exceptions.BusyLink) (end 0 ∷ opposite (end 0) ∷ []) (None ∷ ok ∷ []) ≡ tells
  -- an end that went away with a request
  pub sent_away : runs 1 moving two (None ∷ ok ∷ ok ∷ taken (end 0) ∷ came (end 0) (reply 0 []) [] ∷ ok ∷ []) ≡ Ask (Send (end 0) (request p (5 ∷ [])) (end 1 ∷ [])) ∷ Ask (Receive (end 0)) ∷ Ask Wait ∷ Ask Wait ∷ tells
  -- an end twice
  pub named_twice : runs 1 (tries (code.LoadG 1 ∷ code.LoadG 1 ∷ code.LoadG 0 ∷ code.Connect 2 ∷ []) exceptions.BusyLink) two (None ∷ ok ∷ []) ≡ tells
  pub bound_to_an_entry : runs 1 bound two (None ∷ ok ∷ []) ≡ Ask (Receive (end 1)) ∷ Ask (Print it) ∷ []
  -- ---- new
  pub links_full : runs 1 making two (None ∷ Some (answer.Refused LinksFull) ∷ ok ∷ []) ≡ Ask Make ∷ tells
  pub two_are_made : runs 1 made two (None ∷ Some (answer.Made (opposite (end 7)) (end 7)) ∷ ok ∷ []) ≡ Ask Make ∷ Ask (Destroy (end 7)) ∷ Ask Exit ∷ []
  -- ---- replies and failures (rule 7)
  -- the end of the entry closes a request that was not answered
  pub it_fails : runs 1 (serving (code.End ∷ [])) two (asked_for_o (ok ∷ [])) ≡ serves (Ask (Send (end 0) (reply 1 []) []) ∷ Ask Wait ∷ [])
  -- a second reply
  pub replied_before : runs 1 (serving (code.Reply 0 ∷ guarded 4 (code.Reply 0 ∷ []) exceptions.Replied ++ code.End ∷ [])) two (asked_for_o (ok ∷ ok ∷ [])) ≡ serves (Ask (Send (end 0) (reply 0 []) []) ∷ Ask (Print it) ∷ Ask Wait ∷ [])
  -- a reply on an end that was destroyed
  pub replied_too_late : runs 1 (serving (code.LoadG 0 ∷ code.Destroy ∷ guarded 5 (code.Reply 0 ∷ []) exceptions.DeadLink ++ code.End ∷ [])) two (asked_for_o (ok ∷ ok ∷ ok ∷ [])) ≡ serves (Ask (Destroy (end 0)) ∷ Ask (Print it) ∷ Ask Exit ∷ Ended ∷ [])
  pub it_failed : runs 1 (connecting exceptions.Failed) two (None ∷ ok ∷ ok ∷ taken (end 0) ∷ came (end 0) (reply 1 []) [] ∷ ok ∷ []) ≡ connects (Ask (Receive (end 0)) ∷ Ask Wait ∷ Ask Wait ∷ tells)
  -- ---- deaths (rule 9)
  -- a Receive is answered Dead, or reported Destroyed
  pub dead_as_it_accepts : runs 1 accepting two (None ∷ Some (answer.Refused Dead) ∷ ok ∷ []) ≡ Ask (Receive (end 0)) ∷ tells
  pub dead_while_it_accepts : runs 1 accepting two (None ∷ ok ∷ none_came (end 0) ∷ ok ∷ []) ≡ Ask (Receive (end 0)) ∷ Ask Wait ∷ tells
  -- a Send is answered Dead: the end that its packet names is held again
  pub dead_at_once : runs 1 goes_on_with_x two (None ∷ Some (answer.Refused Dead) ∷ ok ∷ ok ∷ []) ≡ connects destroys_x
  -- the report of a send returns it; the Receive on the dead end is not needed any more
  pub not_received : runs 1 goes_on_with_x two (None ∷ ok ∷ ok ∷ not_taken (end 0) (end 1 ∷ []) ∷ Some (answer.Refused Dead) ∷ ok ∷ ok ∷ []) ≡ connects (Ask (Receive (end 0)) ∷ Ask Wait ∷ Ask (Cancel (end 0) Inward) ∷ destroys_x)
  -- a message that can't be read: the end is destroyed, then the end that came
  pub not_readable : runs 1 (connecting exceptions.DeadLink) two (None ∷ ok ∷ ok ∷ taken (end 0) ∷ came (end 0) (9 ∷ []) (end 5 ∷ []) ∷ ok ∷ ok ∷ ok ∷ []) ≡ connects (Ask (Receive (end 0)) ∷ Ask Wait ∷ Ask Wait ∷ Ask (Destroy (end 0)) ∷ Ask (Destroy (end 5)) ∷ tells)
  -- a report of an end that is not held: what came with it is destroyed
  pub reported_of_an_end_that_is_gone : runs 1 leaving two (None ∷ ok ∷ ok ∷ ok ∷ ok ∷ came (end 0) (request p (5 ∷ [])) (end 5 ∷ []) ∷ ok ∷ []) ≡ leaves
  -- ---- slices, and the end of a process (rule 10)
  pub a_loop_pauses : runs 1 (alone (code.Jump 0 ∷ [])) two (None ∷ None ∷ []) ≡ Pause ∷ Pause ∷ []
  pub a_stop_exits : runs 1 (alone (code.Stop ∷ [])) two (None ∷ ok ∷ []) ≡ Ask Exit ∷ Ended ∷ []
  pub nothing_to_wait_for : runs 1 waiting two (None ∷ Some (answer.Refused NoActivity) ∷ ok ∷ []) ≡ Ask Wait ∷ Ask Exit ∷ Ended ∷ []
  pub no_action_is_left : (goes_on 1 1000 at_first).next ≡ Pause
  pub one_action_more : (goes_on 2 1000 at_first).next ≡ Ask (Destroy (end 0))
  pub no_room : room crowded ≡ false
  pub much_room : room at_first ≡ true

pub ruled : Ruled
unfolding packet_of request_of reply_of numbered_of enc_of number_at int_at int_value value_at values_at typed_at arguments_at signature_at name_at keyword_at types_at next_spot type_told word_begun number_text int_text spelling value_text digits asked lined_up replied due_call allows sent is_readable accepted let_come forbade gone_on is_needed taker is_busy queued dies fallen dies_at destroys settles end_eq
ruled =
    record {
      no_link = refl;
      no_link_to_send = refl;
      its_own_end = refl;
      its_own_link = refl;
      sent_away = refl;
      named_twice = refl;
      bound_to_an_entry = refl;
      links_full = refl;
      two_are_made = refl;
      it_fails = refl;
      replied_before = refl;
      replied_too_late = refl;
      it_failed = refl;
      dead_as_it_accepts = refl;
      dead_while_it_accepts = refl;
      dead_at_once = refl;
      not_received = refl;
      not_readable = refl;
      reported_of_an_end_that_is_gone = refl;
      a_loop_pauses = refl;
      a_stop_exits = refl;
      nothing_to_wait_for = refl;
      no_action_is_left = refl;
      one_action_more = refl;
      no_room = refl;
      much_room = refl;
    }
