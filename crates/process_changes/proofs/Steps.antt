-- A step of a process changes its ends one after the other.
use Rattle.std.proofs.Common.{◌≡◌, ℕ, [], Option, refl, sym, subst, ◌∙◌}
use Rattle.charlotte_calls.specs.declared.calls.Answer.{Answer}
use Rattle.process_run.specs.States.{Asked, Done, State}
use Rattle.process_run.specs.States as process
use Rattle.process_run.specs.Reports.{answered}
use Rattle.process_run.specs.Runs.{did, proceeds, slice, with_deeds}
use Rattle.process_sound.specs.Processes.{IsFor, IsGoing, IsRunning}
use Rattle.process_sound.specs.Told.{IsTold}
use Rattle.process_sound.proofs.Answers.{answered_going}
use Rattle.process_changes.specs.Changes.{Changes}
use Rattle.process_changes.specs.Ledgers.{ledger}
use Rattle.process_changes.specs.Telling.{ChangesByStep}
use Rattle.process_changes.proofs.Places.{chain}
use Rattle.process_changes.proofs.Slices.{ChangesIn, slice_changes}
use Rattle.process_changes.proofs.Telling.{TellsBy, answered_tells}

module _ (s : State) (given : Option Answer) (told : IsTold given) (is : IsRunning s) where
  goes_on_after : (d : Done) → IsGoing [] d.state → TellsBy s (record { asked = s.asked; given = given }) d → ChangesByStep s given (with_deeds d.deeds (slice d.state))
  goes_on_after d going tells =
      let rest : ChangesIn d.state (slice d.state) = slice_changes d.state going in
      record {
        told = tells.told;
        told_deeds = d.deeds;
        telling = tells.telling;
        last = rest.last;
        deeds = (slice d.state).deeds;
        changes =
            chain s.version tells.told [] (ledger d.state []) (slice d.state).deeds rest.last tells.changes
            (subst (λ (v : ℕ). Changes v (ledger d.state []) (slice d.state).deeds rest.last) tells.version rest.changes);
        all = refl;
        places = rest.places;
        left = rest.left;
        version = rest.version ∙ tells.version;
      }

  tells : (asked : Asked) → s.asked ≡ asked → TellsBy s (record { asked = s.asked; given = given }) (answered asked given s)
  tells asked e = subst (λ (a : Asked). TellsBy s (record { asked = a; given = given }) (answered asked given s)) (sym e) (answered_tells asked given s)

  goes_on : (asked : Asked) → s.asked ≡ asked → ChangesByStep s given (with_deeds (answered asked given s).deeds (slice (answered asked given s).state))
  goes_on asked e =
      goes_on_after (answered asked given s)
      (answered_going s is.going asked given (subst (λ (a : Asked). IsFor a s.turns) e is.asked) told) (tells asked e)

  ends_with : s.asked ≡ process.Exit → ChangesByStep s given (proceeds process.Exit (answered process.Exit given s))
  ends_with e =
      let t = tells process.Exit e in
      record {
        told = t.told;
        told_deeds = [];
        telling = t.telling;
        last = ledger s [];
        deeds = [];
        changes = t.changes;
        all = refl;
        places = refl;
        left = refl;
        version = refl;
      }

  by_asked : (asked : Asked) → s.asked ≡ asked → ChangesByStep s given (proceeds asked (answered asked given s))
  by_asked process.Exit e = ends_with e
  by_asked process.Nothing e = goes_on process.Nothing e
  by_asked (process.Make thread) e = goes_on (process.Make thread) e
  by_asked (process.Print thread) e = goes_on (process.Print thread) e
  by_asked process.Destroy e = goes_on process.Destroy e
  by_asked (process.Send n) e = goes_on (process.Send n) e
  by_asked (process.Receive n) e = goes_on (process.Receive n) e
  by_asked (process.Cancel n) e = goes_on (process.Cancel n) e
  by_asked process.Wait e = goes_on process.Wait e

-- a step, with the answer to what was asked in the last one
pub step_changes : (s : State) (given : Option Answer) → IsTold given → IsRunning s → ChangesByStep s given (did s given)
step_changes s given told is = by_asked s given told is s.asked refl
