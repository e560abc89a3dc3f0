-- A plan is loaded and run, or why it is not loaded is told.
use Rattle.std.proofs.Common.{◌≡◌, ℕ, ◌≤◌, List, [], Result, Ok, Err, refl, subst}
use Rattle.charlotte_calls.specs.declared.setting.Setting.{Setting}
use Rattle.lynx_command.specs.Course.{Course, Took, outside}
use Rattle.lynx_command.specs.Ending.{Ends, Tells}
use Rattle.lynx_command.specs.Found.{Found, OutputLines}
use Rattle.lynx_command.proofs.Puts.{no_puts}
use Rattle.lynx_load.specs.Loading.{Loading, Loads, Unloaded}
use Rattle.lynx_load.specs.Started.{IsLoaded, IsLoadedAs}
use Rattle.lynx_load.specs.Told.{IsToldAs}
use Rattle.lynx_load.specs.declared.fault.LoadFault.{LoadFault}
use Rattle.lynx_load.specs.declared.loaded.Loaded.{Loaded}
use Rattle.lynx_outside.specs.Files.{Source, WereRead}
use Rattle.lynx_outside.specs.Logged.{Put, Read}
use Rattle.lynx_outside.specs.Sink.{Stream, WerePut}
use Rattle.lynx_outside.specs.declared.status.Status.{Status}
use Rattle.plan_run.specs.Run.{IsRunOf}
use Rattle.plan_run.specs.declared.run.Ran.{Ran}
use Rattle.run_links.specs.Claimed.{AreWired}
use Rattle.run_links.proofs.Plans.{loaded-wired, wired-linked}
use Rattle.run_links.specs.Linked.{plan_programs, roles}
use Rattle.lynx_run.specs.Run.{FindsRun, IsRunOfPlan, RunsPlan, end_of}

module _ (name : List ℕ) (turns : ℕ) (before after : Source) (out out_later err err_later : Stream) (ended : Status) where
  abbrev Courses : Type 0
  Courses = (course : Course) × RunsPlan name turns course × Took course ended (outside before out err) (outside after out_later err_later)

  -- what was loaded was run, and its text put
  pub ran_so : (loaded : Loaded) (x : Result Loading Unloaded) (reads : List Read) (found : Found) (outs errs : List Put) → WereRead before after reads → Loads name reads x → IsLoadedAs (Ok loaded) x
      → ((l : Loading) → IsLoaded l loaded → AreWired l.plan.setting (plan_programs l) → FindsRun l turns found) → Ends [] found ended outs errs → WerePut out out_later outs → WerePut err err_later errs → Courses
  ran_so loaded (Ok l) reads found outs errs were loads is runs ends on_out on_err = (
    record { reads = reads; found = found; name = []; outs = outs; errs = errs },
    (Ok l, loads, runs l is (loaded-wired name reads l loads were.within).1),
    record { reads = were; outs = on_out; errs = on_err; ends = ends },
  )
  ran_so loaded (Err f) reads found outs errs were loads is runs ends on_out on_err = absurd is

-- why it was not loaded is told
pub told_so : (name : List ℕ) (turns : ℕ) (before after : Source) (out err err_later : Stream) (ended : Status) (fault : LoadFault) (x : Result Loading Unloaded) (reads : List Read) → WereRead before after reads → Loads name reads x
    → IsLoadedAs (Err fault) x → ((f : Unloaded) → IsToldAs fault f → (errs : List Put) × Tells f.file f.failure ended errs × WerePut err err_later errs)
    → (course : Course) × RunsPlan name turns course × Took course ended (outside before out err) (outside after out err_later)
told_so name turns before after out err err_later ended fault (Ok l) reads were loads is tells = absurd is
told_so name turns before after out err err_later ended fault (Err f) reads were loads is tells =
    let told = tells f is in (
      record { reads = reads; found = Err f.failure; name = f.file; outs = []; errs = told.0 },
      (Err f, loads, (refl, refl)),
      record { reads = were; outs = no_puts out; errs = told.2; ends = (refl, told.1) },
    )

-- the programs that were loaded have run
pub ran_loaded : (x : Loading) (loaded : Loaded) (turns : ℕ) (ran : Ran) (output : OutputLines) → IsLoaded x loaded → AreWired x.plan.setting (plan_programs x) → turns ≤ 100000
    → IsRunOf roles loaded.setting loaded.programs.items turns ran → output.lines ≡ ran.lines → output.end ≡ end_of ran.end → IsRunOfPlan x turns output
ran_loaded x loaded turns ran output is wired bound has_run lines end =
    let run : IsRunOf roles x.plan.setting loaded.programs.items turns ran = subst (λ (s : Setting). IsRunOf roles s loaded.programs.items turns ran) is.setting has_run in
    record {
      programs = loaded.programs.items;
      started = is.programs;
      ran = ran;
      run = run;
      links = wired-linked x loaded.programs.items is.programs turns ran bound wired run;
      lines = lines;
      end = end;
    }
