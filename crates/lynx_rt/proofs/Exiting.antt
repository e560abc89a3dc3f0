-- Where a process asks an Exit its state says so.
use Rattle.std.proofs.Common.{◌≡◌, ℕ, zero, suc, ◌+◌, true, false, Bool, List, [], ◌∷◌, Option, Some, None, refl}
use Rattle.std.specs.Bool.{⊤}
use Rattle.std.specs.List.{list_any}
use Rattle.charlotte_calls.specs.declared.calls.Answer.{Answer}
use Rattle.charlotte_calls.specs.declared.calls.Call.TheVariants as call
use Rattle.charlotte_calls.specs.declared.names.EndId.{EndId}
use Rattle.charlotte_calls.specs.declared.program.Next.TheVariants as next
use Rattle.lynx_meaning.specs.Courses.{Action}
use Rattle.lynx_meaning.specs.Courses as actions
use Rattle.machine_turns.specs.Turns.{Turns, Beat, RunsOn, Stops, Broken, Spent, Act, AllBlocked, Finished}
use Rattle.end_protocol.specs.declared.going.Due.{Due}
use Rattle.end_protocol.specs.declared.going.Due.TheVariants as due
use Rattle.end_protocol.specs.declared.kept.Kept.{Kept}
use Rattle.end_protocol.specs.declared.messages.Message.{Message}
use Rattle.end_protocol.specs.Going.{due_call}
use Rattle.end_protocol.specs.Lists.{head}
use Rattle.process_run.specs.States.{Holding, Keeps, Gone, Place, Asked, State, Done}
use Rattle.process_run.specs.States as process
use Rattle.process_run.specs.Actions.{acts}
use Rattle.process_run.specs.Ends.{room}
use Rattle.process_run.specs.Reports.{answered}
use Rattle.process_run.specs.Runs.{Asking, Did, asks_first, calls, due_among, due_on, due_so, finishes, first_due, goes_on, is_in_use, machine_run, most_actions, most_instructions, or_asking, pauses, proceeds, sending, settles, step, stopped, unless_over, waits, with_deeds}

-- ---- no call that is due is an Exit

abbrev IsOther : Option Asking → Type 0
IsOther None = ⊤
IsOther (Some a) = next.Ask a.call ≡ next.Ask call.Exit → ⊥

sends : (v n : ℕ) (x : EndId) (o : Option Message) → IsOther (sending v n x o)
sends v n x None = tt
sends v n x (Some m) = λ e. absurd cc

due_other : (v n : ℕ) (x : EndId) (k : Kept) (d : Due) → IsOther (due_so v n x k d)
due_other v n x k due.Nothing = tt
due_other v n x k due.Send = sends v n x (head k.queue)
due_other v n x k due.Receive = λ e. absurd cc
due_other v n x k due.Cancel = λ e. absurd cc

end_other : (v : ℕ) (free : Bool) (n : ℕ) (x : EndId) (h : Holding) → IsOther (due_on v free n x h)
end_other v free n x (Keeps k) = due_other v n x k (due_call free k)
end_other v free n x (Gone own) = tt

or_other : (o others : Option Asking) → IsOther o → IsOther others → IsOther (or_asking o others)
or_other None others is later = later
or_other (Some first) others is later = is

among_other : (v : ℕ) (free : Bool) (n : ℕ) (ps : List Place) → IsOther (due_among v free n ps)
among_other v free n [] = tt
among_other v free n (p ∷ ps) = or_other (due_on v free n p.end p.holding) (due_among v free (n + 1) ps) (end_other v free n p.end p.holding) (among_other v free (n + 1) ps)

first_other : (xs : List EndId) (s : State) → IsOther (first_due xs s)
first_other [] s = among_other s.version (room s) 1 s.places
first_other (x ∷ xs) s = λ e. absurd cc

-- ---- the state after an Exit says so

abbrev IsSaid : Did → Type 0
IsSaid d = d.next ≡ next.Ask call.Exit → d.state.asked ≡ process.Exit

first_said : (o : Option Asking) (s : State) (more : State → Did) → IsOther o → IsSaid (more s) → IsSaid (asks_first o s more)
first_said None s more other later = later
first_said (Some a) s more other later = λ e. absurd (other e)

calls_said : (s : State) (more : State → Did) → ((t : State) → IsSaid (more t)) → IsSaid (calls s more)
calls_said s more each = first_said (first_due (settles s).doomed (settles s)) (settles s) more (first_other (settles s).doomed (settles s)) (each (settles s))

over_said : (b : Bool) (s : State) (more : State → Did) → IsSaid (more s) → IsSaid (unless_over b s more)
over_said true s more later = λ e. refl
over_said false s more later = later

finish_said : (b : Bool) (s : State) → IsSaid (finishes b s)
finish_said true s = λ e. absurd cc
finish_said false s = λ e. refl

act_said : (n : ℕ) (a : Action) (left : ℕ) (t : Turns) (s : State) (more : ℕ → Done → Did) → ((k : ℕ) (d : Done) → IsSaid (more k d)) → IsSaid (stopped (Stops (Act n a) left t) s more)
act_said n actions.New left t s more each = λ e. absurd cc
act_said n (actions.Write bytes) left t s more each = λ e. absurd cc
act_said n (actions.Destroy link) left t s more each = each left (acts n (actions.Destroy link) (record s { turns = t }))
act_said n (actions.Bind link entry) left t s more each = each left (acts n (actions.Bind link entry) (record s { turns = t }))
act_said n (actions.Unbind link entry) left t s more each = each left (acts n (actions.Unbind link entry) (record s { turns = t }))
act_said n (actions.Connect link op vs) left t s more each = each left (acts n (actions.Connect link op vs) (record s { turns = t }))
act_said n (actions.Accept link op) left t s more each = each left (acts n (actions.Accept link op) (record s { turns = t }))
act_said n (actions.Reply vs) left t s more each = each left (acts n (actions.Reply vs) (record s { turns = t }))
act_said n actions.Close left t s more each = each left (acts n actions.Close (record s { turns = t }))
act_said n actions.Stop left t s more each = each left (acts n actions.Stop (record s { turns = t }))
act_said n actions.Await left t s more each = each left (acts n actions.Await (record s { turns = t }))

stop_said : (b : Beat) (s : State) (more : ℕ → Done → Did) → ((k : ℕ) (d : Done) → IsSaid (more k d)) → IsSaid (stopped b s more)
stop_said (RunsOn left t) s more each = λ e. absurd cc
stop_said Broken s more each = λ e. absurd cc
stop_said (Stops Spent left t) s more each = λ e. absurd cc
stop_said (Stops (Act n a) left t) s more each = act_said n a left t s more each
stop_said (Stops AllBlocked left t) s more each = calls_said (record s { turns = t }) waits (λ now e. absurd cc)
stop_said (Stops Finished left t) s more each =
    calls_said (record s { turns = t }) (λ now. finishes (list_any (λ p. is_in_use p.holding) now.places) now)
    (λ now. finish_said (list_any (λ p. is_in_use p.holding) now.places) now)

going_said : (k fuel : ℕ) (s : State) → IsSaid (goes_on k fuel s)
going_said zero fuel s = calls_said s (λ t. unless_over t.over t pauses) (λ t. over_said t.over t pauses (λ e. absurd cc))
going_said (suc k) fuel s =
    calls_said s (λ t. unless_over t.over t (λ u. stopped (machine_run fuel u) u (λ left d. with_deeds d.deeds (goes_on k left d.state))))
    (λ t. over_said t.over t (λ u. stopped (machine_run fuel u) u (λ left d. with_deeds d.deeds (goes_on k left d.state)))
    (stop_said (machine_run fuel t) t (λ left d. with_deeds d.deeds (goes_on k left d.state)) (λ left d. going_said k left d.state)))

proceeds_said : (a : Asked) (d : Done) → IsSaid (proceeds a d)
proceeds_said process.Exit d = λ e. absurd cc
proceeds_said process.Nothing d = going_said (most_actions d.state) most_instructions d.state
proceeds_said (process.Make n) d = going_said (most_actions d.state) most_instructions d.state
proceeds_said (process.Print n) d = going_said (most_actions d.state) most_instructions d.state
proceeds_said process.Destroy d = going_said (most_actions d.state) most_instructions d.state
proceeds_said (process.Send n) d = going_said (most_actions d.state) most_instructions d.state
proceeds_said (process.Receive n) d = going_said (most_actions d.state) most_instructions d.state
proceeds_said (process.Cancel n) d = going_said (most_actions d.state) most_instructions d.state
proceeds_said process.Wait d = going_said (most_actions d.state) most_instructions d.state

-- a step that asks an Exit leaves a state that says so
pub step_says_its_exit : (s : State) (given : Option Answer) → (step s given).0 ≡ next.Ask call.Exit → (step s given).1.asked ≡ process.Exit
step_says_its_exit s given e = proceeds_said s.asked (answered s.asked given s) e
