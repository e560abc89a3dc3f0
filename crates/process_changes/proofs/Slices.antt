-- A slice changes the ends of its process one after the other.
use Rattle.std.proofs.Common.{◌≡◌, ℕ, zero, suc, Bool, true, false, List, [], Option, Some, None, refl, sym, subst, ◌∙◌}
use Rattle.std.specs.List.{list_any}
use Rattle.lynx_meaning.specs.Courses.{Action}
use Rattle.lynx_meaning.specs.Courses as actions
use Rattle.machine_turns.specs.Turns.{Act, AllBlocked, Beat, Finished, RunsOn, Spent, Stops, Turns}
use Rattle.machine_turns.specs.Turns as turns
use Rattle.process_run.specs.States.{DeedOn, Done, State}
use Rattle.process_run.specs.Actions.{acts}
use Rattle.process_run.specs.Ends.{room}
use Rattle.process_run.specs.Runs.{Asking, Did, asks_first, calls, exits, finishes, first_due, goes_on, is_in_use, machine_run, most_actions, most_instructions, pauses, settles, slice, stopped, unless_over, waits, with_deeds}
use Rattle.process_sound.specs.Acting.{IsActing}
use Rattle.process_sound.specs.Processes.{IsGoing}
use Rattle.process_sound.proofs.Actions.{acts_going}
use Rattle.process_sound.proofs.Calls.{settles_going}
use Rattle.process_sound.proofs.Runs.{IsStoppedSo, run_stops, with_turns}
use Rattle.process_changes.specs.Changes.{AreLeft, Changes, None as NoChange, RestWhole, Settle}
use Rattle.process_changes.specs.Ledgers.{Ledger, ledger}
use Rattle.process_changes.proofs.Places.{chain, just}
use Rattle.process_changes.proofs.Acting.{ChangesBy, action_changes}
use Rattle.process_changes.proofs.Due.{due_left, rest_whole}

-- what comes of a slice changes the ends so, with none in the hand before, and the version not at all
pub record ChangesIn (s : State) (d : Did) : Type 0 where
  pub last : Ledger
  pub changes : Changes s.version (ledger s []) d.deeds last
  pub places : last.places ≡ d.state.places
  pub left : AreLeft d.next last.doomed d.state.doomed
  pub version : d.state.version ≡ s.version

-- nothing changes
still : (s : State) (d : Did) → d.deeds ≡ [] → d.state.places ≡ s.places → AreLeft d.next s.doomed d.state.doomed → d.state.version ≡ s.version → ChangesIn s d
still s d none places left version = record {
  last = ledger s [];
  changes = subst (λ (ds : List DeedOn). Changes s.version (ledger s []) ds (ledger s [])) (sym none) (NoChange (ledger s []));
  places = sym places;
  left = left;
  version = version;
}

-- after these changes
after_these : (s t : State) (ds : List DeedOn) (d : Did) → Changes s.version (ledger s []) ds (ledger t []) → t.version ≡ s.version → ChangesIn t d → ChangesIn s (with_deeds ds d)
after_these s t ds d first version more = record {
  last = more.last;
  changes = chain s.version (ledger s []) ds (ledger t []) d.deeds more.last first (subst (λ (v : ℕ). Changes v (ledger t []) d.deeds more.last) version more.changes);
  places = more.places;
  left = more.left;
  version = more.version ∙ version;
}

settle_changes : (s : State) → Changes s.version (ledger s []) [] (ledger (settles s) [])
unfolding settles
settle_changes s = just s.version (ledger s []) [] _ (Settle (room s) (ledger s []))

settle_version : (s : State) → (settles s).version ≡ s.version
unfolding settles
settle_version s = refl

-- a call that is due, or the process goes on, and then no end at rest has a request in part
calls_change : (s : State) (next : State → Did) → IsGoing [] s → ((t : State) → IsGoing [] t → RestWhole t.places → ChangesIn t (next t)) → ChangesIn s (calls s next)
calls_change s next is each =
    after_these s (settles s) [] (asks_first (first_due (settles s).doomed (settles s)) (settles s) next) (settle_changes s) (settle_version s)
    (by_due (settles s) (settles_going [] s is) (first_due (settles s).doomed (settles s)) refl)
  where
    by_due : (t : State) → IsGoing [] t → (o : Option Asking) → first_due t.doomed t ≡ o → ChangesIn t (asks_first o t next)
    by_due t going None e = each t going (rest_whole t e)
    by_due t going (Some a) e = still t (asks_first (Some a) t next) refl refl (due_left t a e) refl

finish : (b : Bool) (s : State) → ChangesIn s (finishes b s)
finish true s = still s (finishes true s) refl refl refl refl
finish false s = still s (finishes false s) refl refl refl refl

-- with other turns
turned : (s : State) (t : Turns) (d : Did) → ChangesIn (with_turns t s) d → ChangesIn s d
turned s t d is = record { last = is.last; changes = is.changes; places = is.places; left = is.left; version = is.version }

module _ (s : State) (whole : RestWhole s.places) (next : ℕ → Done → Did) (each : (left : ℕ) (d : Done) → IsGoing [] d.state → ChangesBy s d → ChangesIn s (next left d)) where
  -- what is done with other turns is done as well with these
  by_action : (left n : ℕ) (a : Action) (t : Turns) → (a ≡ actions.New → ⊥) → IsActing n a (with_turns t s) → ChangesIn s (next left (acts n a (with_turns t s)))
  by_action left n a t other is =
      let done : ChangesBy (with_turns t s) (acts n a (with_turns t s)) = action_changes n (with_turns t s) whole is.going.code is.requests a is.of_module in
      each left (acts n a (with_turns t s)) (acts_going n a (with_turns t s) other is) (record { changes = done.changes; version = done.version })

  stop_changes : (b : Beat) → IsStoppedSo s b → ChangesIn s (stopped b s next)
  stop_changes (Stops (Act n actions.New) left t) so = still s _ refl refl refl refl
  stop_changes (Stops (Act n (actions.Write bytes)) left t) so = still s _ refl refl refl refl
  stop_changes (Stops (Act n (actions.Destroy link)) left t) so = by_action left n (actions.Destroy link) t (λ e. cc) so
  stop_changes (Stops (Act n (actions.Bind link entry)) left t) so = by_action left n (actions.Bind link entry) t (λ e. cc) so
  stop_changes (Stops (Act n (actions.Unbind link entry)) left t) so = by_action left n (actions.Unbind link entry) t (λ e. cc) so
  stop_changes (Stops (Act n (actions.Connect link op vs)) left t) so = by_action left n (actions.Connect link op vs) t (λ e. cc) so
  stop_changes (Stops (Act n (actions.Accept link op)) left t) so = by_action left n (actions.Accept link op) t (λ e. cc) so
  stop_changes (Stops (Act n actions.Close) left t) so = by_action left n actions.Close t (λ e. cc) so
  stop_changes (Stops (Act n (actions.Reply vs)) left t) so = by_action left n (actions.Reply vs) t (λ e. cc) so
  stop_changes (Stops (Act n actions.Await) left t) so = by_action left n actions.Await t (λ e. cc) so
  stop_changes (Stops (Act n actions.Stop) left t) so = by_action left n actions.Stop t (λ e. cc) so
  stop_changes (Stops AllBlocked left t) so = turned s t _ (calls_change (with_turns t s) waits so (λ u going rests. still u (waits u) refl refl refl refl))
  stop_changes (Stops Finished left t) so =
      turned s t _
      (calls_change (with_turns t s) (λ now. finishes (list_any (λ p. is_in_use p.holding) now.places) now) so (λ u going rests. finish (list_any (λ p. is_in_use p.holding) u.places) u))
  stop_changes (Stops Spent left t) so = still s _ refl refl refl refl
  stop_changes (RunsOn left t) so = still s _ refl refl refl refl
  stop_changes turns.Broken so = still s _ refl refl refl refl

over_or : (next : State → Did) (t : State) (b : Bool) → ChangesIn t (next t) → ChangesIn t (unless_over b t next)
over_or next t true done = still t (exits t) refl refl refl refl
over_or next t false done = done

goes_so : (rest : ℕ → State → Did) → ((left : ℕ) (t : State) → IsGoing [] t → ChangesIn t (rest left t)) → (fuel : ℕ) (t : State) → IsGoing [] t → RestWhole t.places →
    ChangesIn t (stopped (machine_run fuel t) t (λ left d. with_deeds d.deeds (rest left d.state)))
goes_so rest each fuel t is whole =
    stop_changes t whole (λ left d. with_deeds d.deeds (rest left d.state))
    (λ left d going done. after_these t d.state d.deeds (rest left d.state) done.changes done.version (each left d.state going)) (machine_run fuel t) (run_stops t is fuel)

going_changes : (k fuel : ℕ) (s : State) → IsGoing [] s → ChangesIn s (goes_on k fuel s)
going_changes zero fuel s is = calls_change s _ is (λ t going whole. over_or pauses t t.over (still t (pauses t) refl refl refl refl))
going_changes (suc k) fuel s is =
    calls_change s _ is
    (λ t going whole. over_or (λ u. stopped (machine_run fuel u) u (λ left d. with_deeds d.deeds (goes_on k left d.state))) t t.over
    (goes_so (goes_on k) (λ left v now. going_changes k left v now) fuel t going whole))

-- a slice
pub slice_changes : (s : State) → IsGoing [] s → ChangesIn s (slice s)
slice_changes s is = going_changes (most_actions s) most_instructions s is
