-- What is known of a process stays so where a call is due or asked, and where no thread goes on.
use Rattle.std.proofs.Common.{◌≡◌, ℕ, true, false, Bool, ◌||◌, List, [], ◌∷◌, Option, Some, None, sym, subst}
use Rattle.std.specs.List.{list_any}
use Rattle.charlotte_calls.specs.declared.names.EndId.{EndId}
use Rattle.charlotte_calls.specs.declared.program.Next.{Next}
use Rattle.machine_turns.specs.Turns.{Stop, Stops, AllBlocked, Finished}
use Rattle.process_run.specs.States.{Done, State}
use Rattle.process_run.specs.Runs.{Asking, Did, calls, finishes, is_in_use, settles, stopped}
use Rattle.lynx_rt.specs.Kept.{IsProcess}
use Rattle.lynx_rt.specs.Steps.{Asks, DestroysOf, Leads}

pub settled_process : (s t : State) → t ≡ settles s → IsProcess s → IsProcess t
unfolding settles
settled_process s t is process = subst IsProcess (sym is) process

destroyed_so : (xs : List EndId) (o : Option Next) (s t : State) → DestroysOf xs s o t → IsProcess s → IsProcess t
destroyed_so [] o s t destroys process = subst IsProcess (sym destroys.1) process
destroyed_so (x ∷ xs) o s t destroys process = subst IsProcess (sym destroys.1) process

pub destroyed_process : (o : Option Next) (s u t : State) → u ≡ settles s → DestroysOf u.doomed u o t → IsProcess s → IsProcess t
destroyed_process o s u t is destroys process = destroyed_so u.doomed o u t destroys (settled_process s u is process)

pub asked_process : (o : Option Asking) (n : Option Next) (s t : State) → Asks o s n t → IsProcess s → IsProcess t
asked_process None n s t asks process = subst IsProcess (sym asks.1) process
asked_process (Some a) n s t asks process = subst IsProcess (sym asks.1) process

pub finished_process : (stand : Bool) (n : Next) (s t : State) → Leads (finishes stand s) n t → IsProcess s → IsProcess t
finished_process true n s t leads process = subst IsProcess leads.state process
finished_process false n s t leads process = subst IsProcess leads.state process

-- ---- no thread goes on

abbrev pub rests : Bool → State → Did
rests stand s = calls s (λ now. finishes (stand || list_any (λ p. is_in_use p.holding) now.places) now)

pub rests_blocked : (stop : Stop) (stand : Bool) (left : ℕ) (s t : State) (more : ℕ → Done → Did) (n : Next) → stop ≡ AllBlocked → stand ≡ true → Leads (rests stand s) n t
    → Leads (stopped (Stops stop left s.turns) s more) n t
rests_blocked stop stand left s t more n is on leads =
    subst (λ (x : Stop). Leads (stopped (Stops x left s.turns) s more) n t) (sym is) (subst (λ (b : Bool). Leads (rests b s) n t) on leads)

pub rests_finished : (stop : Stop) (stand : Bool) (left : ℕ) (s t : State) (more : ℕ → Done → Did) (n : Next) → stop ≡ Finished → stand ≡ false → Leads (rests stand s) n t
    → Leads (stopped (Stops stop left s.turns) s more) n t
rests_finished stop stand left s t more n is off leads =
    subst (λ (x : Stop). Leads (stopped (Stops x left s.turns) s more) n t) (sym is) (subst (λ (b : Bool). Leads (rests b s) n t) off leads)
