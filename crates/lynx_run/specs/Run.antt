-- What `run` does: the plan is loaded, its programs are run on its kernels, and the text is the transcript.
use Rattle.std.specs.Prelude.{◌≡◌, ℕ, List, Result, Ok, Err}
use Rattle.kernel_worker.specs.declared.standing.End.{End as RunEnd}
use Rattle.kernel_worker.specs.declared.standing.End.TheVariants as run
use Rattle.lynx_command.specs.Course.{Course}
use Rattle.lynx_command.specs.Found.{Found, OutputLines}
use Rattle.lynx_command.specs.declared.ending.End.{End}
use Rattle.lynx_command.specs.declared.ending.End.TheVariants.{Done, Spent}
use Rattle.lynx_command.specs.declared.failure.Failure.TheVariants.{NoMemory}
use Rattle.lynx_load.specs.Ends.{ends_of_each}
use Rattle.lynx_load.specs.Loading.{Loading, Loads, Unloaded}
use Rattle.lynx_load.specs.Started.{AreStarted}
use Rattle.lynx_load.specs.declared.role.Role.{Role}
use Rattle.plan_run.specs.Run.{IsRunOf}
use Rattle.plan_run.specs.declared.run.Ran.{Ran}
use Rattle.run_links.specs.Claimed.{HasLinks}
use Rattle.run_links.specs.Linked.{plan_programs, roles}

-- a command is done where its run is quiet, and else a kernel's turns are used up
abbrev pub end_of : RunEnd → End
end_of run.Quiet = Done
end_of (run.Spent k) = Spent

-- the programs of a plan were run, with so many turns for each kernel, and this is the text
pub record IsRunOfPlan (x : Loading) (turns : ℕ) (output : OutputLines) : Type 0 where
  pub programs : List Role
  -- each is before its first step, with the code of its module and the ends that the wires give it
  pub started : AreStarted x.plan.setting.version x.codes (ends_of_each x.plan.setting) programs
  pub ran : Ran
  pub run : IsRunOf roles x.plan.setting programs turns ran
  -- the processes have their deeds in it: on each link requests and replies are in order, and the ends that these carry are where they should be
  pub links : HasLinks x.plan.setting (plan_programs x) run.merged run.replayed.steps run.lawful
  pub lines : output.lines ≡ ran.lines
  pub end : output.end ≡ end_of ran.end

-- the text of a plan that was loaded; want of memory comes at any plan
abbrev pub FindsRun : Loading → ℕ → Found → Type 0
FindsRun x turns (Ok output) = IsRunOfPlan x turns output
FindsRun x turns (Err failure) = failure ≡ NoMemory

-- what is loaded is run, and why nothing is loaded is told of its file
abbrev pub RunsLoaded : ℕ → Result Loading Unloaded → Course → Type 0
RunsLoaded turns (Ok x) course = FindsRun x turns course.found
RunsLoaded turns (Err fault) course = (course.found ≡ Err fault.failure) × (course.name ≡ fault.file)

-- the plan of this name is loaded and run
abbrev pub RunsPlan : List ℕ → ℕ → Course → Type 0
RunsPlan name turns course = (found : Result Loading Unloaded) × Loads name course.reads found × RunsLoaded turns found course
