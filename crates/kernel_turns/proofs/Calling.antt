-- What a node knows of its processes, and a call of a program that goes on: it is an event of its kernel.
use Rattle.std.proofs.Common.{◌≡◌, ℕ, ◌<◌, ◌≤◌, true, nat_eq, List, Option, Some, length, is_some, refl, ap, sym, subst, ◌∙◌, arith}
use Rattle.std.specs.List.{list_any}
use Rattle.std.specs.Prelude.{slice_get, slice_index_or}
use Rattle.std.proofs.lemmas.Option.{slice_get-get_or, slice_get_within}
use Rattle.charlotte_calls.specs.Ranges.{IsCallInRange}
use Rattle.charlotte_calls.specs.Setting.{IsValid}
use Rattle.charlotte_calls.specs.declared.calls.Answer.{Answer as AnAnswer}
use Rattle.charlotte_calls.specs.declared.calls.Call.{Call}
use Rattle.charlotte_calls.specs.declared.names.EndId.{EndId}
use Rattle.charlotte_calls.specs.declared.names.Pid.{Pid}
use Rattle.charlotte_calls.specs.declared.program.Next.TheVariants as next
use Rattle.charlotte_calls.specs.declared.setting.Setting.{Setting}
use Rattle.end_table.specs.Table.{entries}
use Rattle.kernel_core.specs.State.{KernelView, state_of}
use Rattle.kernel_step.specs.Calls.{IsCallWith}
use Rattle.kernel_step.specs.Kernel.{process_of}
use Rattle.kernel_step.specs.Start.{home, start_kernel}
use Rattle.program_runs.specs.Local.{IsLocalEvent, LocalEvent, MakesCall, entries_of, entry_of, gives}
use Rattle.program_round.specs.Doings.{can_go_on, doing_at}
use Rattle.program_round.specs.declared.programs.Programs.{Programs}
use Rattle.program_runs.proofs.Local.{answers-come, told-answers}
use Rattle.program_runs.specs.Standing.{StandsAsTold}
use Rattle.program_runs.specs.Told.{answer_of, tells}
use Rattle.program_runs.specs.Told as heard
use Rattle.kernel_turns.proofs.Going.{free-runs, version-call}
use Rattle.kernel_turns.proofs.Stepped.{IsLentOf, all-at, free-before, heard-before, plays-before}
use Rattle.kernel_turns.specs.Nodes.{ArePlaying, HasRun, IsFree, Meaning}
use Rattle.kernel_turns.specs.Turns.{StepsAt}
use Rattle.kernel_turns.specs.declared.base.Base.{Base}

state-table : (v : KernelView) → (state_of v).table ≡ entries v.table
unfolding state_of
state-table v = refl

-- what stands for a process at its kernel is what the entries told
pub stands-told : (s : Setting) (k : ℕ) (made : List LocalEvent) (b : Base) (p : Pid) → IsValid s → HasRun s k made b → StandsAsTold (heard.heard p b.journal.entries) (process_of p (state_of b.kernel))
stands-told s k made b p valid run =
    subst (λ es. StandsAsTold (heard.heard p es) (process_of p (state_of b.kernel))) (sym run.noted)
    (subst (λ x. StandsAsTold (heard.heard p (entries_of (start_kernel s k) made)) (process_of p x)) (sym run.kernel) (told-answers s k made p valid run.local))

-- an answer comes to stand for just those of whom the entry tells one
pub answers-told : (s : Setting) (k : ℕ) (made : List LocalEvent) (b : Base) (o : LocalEvent) (who : List Pid) → IsValid s → HasRun s k made b → IsLocalEvent s k (state_of b.kernel) o
    → who ≡ (gives (state_of b.kernel) o).answered
    → (q : Pid) → list_any (λ r. nat_eq q.0 r.0) who ≡ is_some (tells q (heard.heard q b.journal.entries) (entry_of (state_of b.kernel) o))
answers-told s k made b o who valid run is answered q =
    ap (list_any (λ r. nat_eq q.0 r.0)) answered
    ∙ subst (λ es. list_any (λ r. nat_eq q.0 r.0) (gives (state_of b.kernel) o).answered ≡ is_some (tells q (heard.heard q es) (entry_of (state_of b.kernel) o))) (sym run.noted)
    (subst (λ x. list_any (λ r. nat_eq q.0 r.0) (gives x o).answered ≡ is_some (tells q (heard.heard q (entries_of (start_kernel s k) made)) (entry_of x o))) (sym run.kernel)
    ((answers-come s k made o valid run.local (subst (λ x. IsLocalEvent s k x o) run.kernel is)).who q))

module _ {P S : Type 0} (m : Meaning P S) (s : Setting) (k : ℕ) (first : List (Pid × P)) (made : List LocalEvent) (b : Base) (used : ℕ) (old mid : Programs P) (place : ℕ) (p : Pid) (given : Option AnAnswer)
    (c : Call) (stands : Option AnAnswer) (steps : StepsAt m place p given (next.Ask c) old mid) (are : ArePlaying m s k first made b.journal.entries used old) (ready : can_go_on (doing_at old.doing place) ≡ true)
    (at : stands ≡ answer_of (heard.heard p b.journal.entries)) (lent : IsLentOf (doing_at old.doing place) stands given) where
  free : IsFree (heard.heard p b.journal.entries)
  free =
      let here : place < length old.all.items = slice_get_within old.all.items place (p, steps.before) steps.was in
      let there : place < length first = omega (arith, here, are.count) in
      let was : Pid × P = slice_index_or first place (p, steps.before) in
      let begins : slice_get first place ≡ Some was = slice_get-get_or first place (p, steps.before) there in
      let plays = plays-before m s k first made b.journal.entries used old mid place p given (next.Ask c) stands steps are ready at lent was begins in
      subst IsFree (heard-before m s k first made b.journal.entries used old mid place p given (next.Ask c) stands steps are ready at lent was begins plays)
      (free-before m s k first made b.journal.entries used old mid place p given (next.Ask c) stands steps are ready at lent was begins plays (λ e. cc))

  pub call-local : (mine : List EndId) → IsValid s → HasRun s k made b → IsCallInRange c → IsCallWith p (entries b.kernel.table) mine c → IsLocalEvent s k (state_of b.kernel) (MakesCall p c mine)
  call-local mine valid run range call =
      let at-home : (p.0 < length s.homes) × (home s p ≡ k) × (m.version steps.before ≤ s.version)
      = all-at (λ x. (x.0.0 < length s.homes) × (home s x.0 ≡ k) × (m.version x.1 ≤ s.version)) old.all.items place (p, steps.before) steps.was are.homes in (
        at-home.0,
        at-home.1,
        free-runs (heard.heard p b.journal.entries) (process_of p (state_of b.kernel)).phase free (stands-told s k made b p valid run).phase,
        version-call s.version (m.version steps.before) c steps.one_or_two at-home.2 valid.limits.version steps.limit range,
        subst (λ t. IsCallWith p t mine c) (sym (state-table b.kernel)) call,
      )
