-- A step of a LYNX process as a program.
use Rattle.std.proofs.Common.{◌≡◌, inl, inr, ℕ, suc, ◌<◌, List, [], ◌∷◌, length, get_or, Option, Some, None, refl, sym, ap, subst, ◌∙◌}
use Rattle.std.proofs.lemmas.List.{length-map}
use Rattle.charlotte_calls.specs.Ranges.{AreBytes}
use Rattle.charlotte_calls.specs.Program.{EndsAfterExit, IsOfVersion, MayFollow}
use Rattle.charlotte_calls.specs.declared.calls.Answer.{Answer}
use Rattle.charlotte_calls.specs.declared.calls.Call.TheVariants as call
use Rattle.charlotte_calls.specs.declared.program.Next.{Next}
use Rattle.charlotte_calls.specs.declared.program.Next.TheVariants as next
use Rattle.typing_rules.specs.Signatures.{signature_text}
use Rattle.lynx_meaning.specs.Needs.{OpTypes, op_types}
use Rattle.process_run.specs.States.{State}
use Rattle.process_run.specs.Runs.{step}
use Rattle.process_run.proofs.Versions.{step_ends_after_an_exit, step_is_of_its_version, step_keeps_its_version}
use Rattle.process_ends.proofs.Lists.{some_is}
use Rattle.process_sound.specs.May.{MayStep}
use Rattle.process_sound.specs.Modules.{IsModule}
use Rattle.process_sound.specs.Processes.{IsRunning}
use Rattle.process_sound.specs.Told.{IsTold}
use Rattle.process_sound.proofs.Conditions.{may_step}
use Rattle.process_sound.proofs.Runs.{step_running}
use Rattle.lynx_rt.specs.Kept.{IsProcess}
use Rattle.lynx_rt.specs.Programs.{IsProgram, MayBeSpoiled, Program}
use Rattle.lynx_rt.proofs.Exiting.{step_says_its_exit}

-- each operation has a signature
ops_signed : (s : State) → IsModule s.code → length s.code.signatures ≡ length s.code.types.ops
ops_signed s is =
    ap (λ (xs : List (List ℕ)). length xs) is.signatures ∙ length-map is.ops signature_text
    ∙ sym (ap (λ (xs : List OpTypes). length xs) is.types ∙ length-map is.ops op_types)

-- what holds of every run is enough
pub running_process : (s : State) → IsRunning s → IsProcess s
running_process s is =
    record {
      version_is = is.going.version;
      sound = is.going.process.sound;
      parts = is.going.process.parts;
      heard = is.going.process.heard;
      ops = ops_signed s is.going.code;
      lists = is.going.process.lists;
    }

-- ---- a step

spoiled_stops : (given : Option Answer) → MayFollow (Some next.Ended) given → ⊥
spoiled_stops None follows = follows
spoiled_stops (Some a) follows = follows

is_whole : (p : Program) (given : Option Answer) → MayFollow p.last given → MayBeSpoiled p → IsProgram p
is_whole p given follows (inl ended) = absurd (spoiled_stops given (subst (λ (o : Option Next). MayFollow o given) ended follows))
is_whole p given follows (inr is) = is

-- a program that may make a step is not spoiled
not_spoiled : (p q : Program) (given : Option Answer) → p ≡ q → MayFollow q.last given → MayBeSpoiled p → IsProgram p
not_spoiled p q given seen follows is = is_whole p given (subst (λ (r : Program). MayFollow r.last given) (sym seen) follows) is

-- after an Exit it ends
ends_so : (o : Option Next) (n : Next) → (o ≡ Some (next.Ask call.Exit) → n ≡ next.Ended) → EndsAfterExit o n
ends_so None n exit = tt
ends_so (Some next.Pause) n exit = tt
ends_so (Some next.Ended) n exit = tt
ends_so (Some (next.Ask call.Exit)) n exit = exit refl
ends_so (Some (next.Ask call.Make)) n exit = tt
ends_so (Some (next.Ask (call.Destroy on))) n exit = tt
ends_so (Some (next.Ask (call.Send on bytes enclose))) n exit = tt
ends_so (Some (next.Ask (call.Receive on))) n exit = tt
ends_so (Some (next.Ask (call.Cancel on way))) n exit = tt
ends_so (Some (next.Ask call.Wait)) n exit = tt
ends_so (Some (next.Ask (call.Print bytes))) n exit = tt

-- it is this inside, and seen as that
module _ (p q : Program) (given : Option Answer) (seen : p ≡ q) (follows : MayFollow q.last given) (may : MayBeSpoiled p) where
  is : IsProgram p
  is = not_spoiled p q given seen follows may

  pub is_process : IsProcess p.process
  is_process = running_process p.process is.running

  pub may_go_on : IsTold given → MayStep p.process given
  may_go_on told = may_step p.process given told is.running

  module _ (n : Next) (t : State) (stepped : ◌≡◌ {A = Next × State} (n, t) (step p.process given)) where
    step_is : n ≡ (step p.process given).0
    step_is = ap (λ (x : Next × State). x.0) stepped

    state_is : t ≡ (step p.process given).1
    state_is = ap (λ (x : Next × State). x.1) stepped

    pub goes_on : (m : Next) → m ≡ n → IsTold given → MayBeSpoiled (record { process = t; last = Some m })
    goes_on m same told = inr (record {
      running = subst IsRunning (sym state_is) (step_running p.process given told is.running);
      exit = λ e. ap (λ (s : State). s.asked) state_is ∙ step_says_its_exit p.process given (sym step_is ∙ sym same ∙ some_is m (next.Ask call.Exit) e);
    })

    pub ends : EndsAfterExit q.last n
    ends =
        subst (λ (r : Program). EndsAfterExit r.last n) seen
        (ends_so p.last n (λ e. step_is ∙ step_ends_after_an_exit p.process given (is.exit e)))

    pub fits : IsOfVersion q.process.version n
    fits =
        subst (λ (r : Program). IsOfVersion r.process.version n) seen
        (subst (IsOfVersion p.process.version) (sym step_is) (step_is_of_its_version p.process given is.running.going.version))

    pub keeps : t.version ≡ q.process.version
    keeps =
        ap (λ (s : State). s.version) state_is ∙ step_keeps_its_version p.process given is.running.going.version
        ∙ ap (λ (r : Program). r.process.version) seen

-- ---- what it is told

pub are_bytes : (xs : List ℕ) → ((i : ℕ) → get_or xs i 0 < 256) → AreBytes xs
are_bytes [] each = tt
are_bytes (x ∷ xs) each = (each 0, are_bytes xs (λ i. each (suc i)))
