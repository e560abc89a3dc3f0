-- A program that makes a step: its process runs, and its call is one of its version.
use Rattle.std.proofs.Common.{◌≡◌, ◌≢◌, ◌⊎◌, inl, inr, ℕ, ◌<◌, ◌≤◌, true, false, cond, nat_eq, length, Option, Some, refl, sym, subst, arith}
use Rattle.charlotte_calls.specs.Program.{EndsAfterExit, IsOfVersion}
use Rattle.charlotte_calls.specs.Ranges.{IsCallInRange}
use Rattle.charlotte_calls.specs.declared.calls.Answer.{Answer as AnAnswer}
use Rattle.charlotte_calls.specs.declared.calls.Call.{Call}
use Rattle.charlotte_calls.specs.declared.calls.Call.TheVariants as call
use Rattle.charlotte_calls.specs.declared.program.Next.{Next}
use Rattle.charlotte_calls.specs.declared.program.Next.TheVariants as next
use Rattle.kernel_step.specs.declared.phase.Phase.{Phase}
use Rattle.kernel_step.specs.declared.phase.Phase.TheVariants.{Running}
use Rattle.kernel_world.specs.Run.{IsCallOf}
use Rattle.program_round.specs.Doings.{can_go_on, doing_after}
use Rattle.program_round.specs.declared.doing.Doing.{Doing}
use Rattle.program_round.specs.declared.doing.Doing.TheVariants.{Begins, Answered, Pending, Paused, Ended}
use Rattle.program_runs.specs.Replay.{IsNoCall}
use Rattle.program_runs.specs.Standing.{IsPhaseOf}
use Rattle.program_runs.specs.Told.{Heard, NoCall}
use Rattle.program_runs.specs.Told as heard
use Rattle.kernel_turns.specs.Nodes.{IsDoing, IsFree, IsSettled}

-- ---- its process runs

-- where the step is not the program's end, the call before it was no Exit
free-answered : (c : Call) (a : AnAnswer) (n : Next) → n ≢ next.Ended → EndsAfterExit (Some (next.Ask c)) n → IsFree (heard.Answered c a)
free-answered call.Make a n on is = tt
free-answered (call.Destroy e) a n on is = tt
free-answered (call.Send e bytes xs) a n on is = tt
free-answered (call.Receive e) a n on is = tt
free-answered (call.Cancel e way) a n on is = tt
free-answered call.Wait a n on is = tt
free-answered (call.Print bytes) a n on is = tt
free-answered call.Exit a n on is = on is

pub goes-free : (last : Option Next) (h : Heard) (doing : Doing) (n : Next) → IsDoing last h doing → can_go_on doing ≡ true → n ≢ next.Ended → EndsAfterExit last n → IsFree h
goes-free last h Begins n is ready on exit = subst IsFree (sym is.1) tt
goes-free last h Answered n is ready on exit = subst IsFree (sym is.3) (free-answered is.0 is.1 n on (subst (λ l. EndsAfterExit l n) is.2 exit))
goes-free last h Pending n is ready on exit = let no : false ≡ true = ready in absurd cc
goes-free last h Paused n is ready on exit = is.1
goes-free last h Ended n is ready on exit = let no : false ≡ true = ready in absurd cc

free-settled : (h : Heard) → IsFree h → IsSettled h
free-settled NoCall free = tt
free-settled (heard.Pending c) free = absurd free
free-settled (heard.Answered c a) free = tt

pub goes-settled : (last : Option Next) (h : Heard) (doing : Doing) → IsDoing last h doing → can_go_on doing ≡ true → IsSettled h
goes-settled last h Begins is ready = subst IsSettled (sym is.1) tt
goes-settled last h Answered is ready = subst IsSettled (sym is.3) tt
goes-settled last h Pending is ready = let no : false ≡ true = ready in absurd cc
goes-settled last h Paused is ready = free-settled h is.1
goes-settled last h Ended is ready = let no : false ≡ true = ready in absurd cc

-- what it is doing after a pause, or its end
pub pause-doing : (made : Next) (h : Heard) → IsNoCall made → (made ≢ next.Ended → IsFree h) → IsSettled h → IsDoing (Some made) h (doing_after made)
pause-doing (next.Ask c) h none free settled = absurd none
pause-doing next.Pause h none free settled = (refl, free (λ e. cc))
pause-doing next.Ended h none free settled = (refl, settled)

pub free-runs : (h : Heard) (phase : Phase) → IsFree h → IsPhaseOf h phase → phase ≡ Running
free-runs NoCall phase free is = is
free-runs (heard.Pending c) phase free is = absurd free
free-runs (heard.Answered call.Make a) phase free is = is
free-runs (heard.Answered (call.Destroy e) a) phase free is = is
free-runs (heard.Answered (call.Send e bytes xs) a) phase free is = is
free-runs (heard.Answered (call.Receive e) a) phase free is = is
free-runs (heard.Answered (call.Cancel e way) a) phase free is = is
free-runs (heard.Answered call.Wait a) phase free is = is
free-runs (heard.Answered (call.Print bytes) a) phase free is = is
free-runs (heard.Answered call.Exit a) phase free is = absurd free

-- ---- its call

few-ends : (v m n : ℕ) → (m ≡ 1) ⊎ (m ≡ 2) → m ≤ v → (v ≡ 1) ⊎ (v ≡ 2) → n ≤ 8 → (m < 2 → n ≤ 1) → n ≤ cond (nat_eq v 1) 1 8
few-ends v m n of at most small few =
    elim most [
      | inl one ↦ let low : m < 2 = omega (arith, one, at) in let less : n ≤ 1 = few low in subst (λ w. n ≤ cond (nat_eq w 1) 1 8) (sym one) less
      | inr two ↦ subst (λ w. n ≤ cond (nat_eq w 1) 1 8) (sym two) small
    ]

pub version-call : (v m : ℕ) (c : Call) → (m ≡ 1) ⊎ (m ≡ 2) → m ≤ v → (v ≡ 1) ⊎ (v ≡ 2) → IsOfVersion m (next.Ask c) → IsCallInRange c → IsCallOf v c
version-call v m call.Make of at most is range = tt
version-call v m (call.Destroy e) of at most is range = tt
version-call v m (call.Send e bytes xs) of at most is range = (few-ends v m (length xs) of at most range.2.few is, range.1.few)
version-call v m (call.Receive e) of at most is range = tt
version-call v m (call.Cancel e way) of at most is range = tt
version-call v m call.Wait of at most is range = tt
version-call v m (call.Print bytes) of at most is range = range.few
version-call v m call.Exit of at most is range = tt
