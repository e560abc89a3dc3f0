-- Each run of the processes of a plan that was loaded is linked.
use Rattle.std.proofs.Common.{◌≡◌, ℕ, zero, suc, ◌≤◌, List, [], ◌∷◌, All, Some, None, Ok, sym, ap, ◌∙◌}
use Rattle.std.specs.Prelude.{slice_get}
use Rattle.charlotte_calls.specs.Setting.{IsValid}
use Rattle.charlotte_calls.specs.declared.names.EndId.{EndId}
use Rattle.lynx_code.specs.declared.code.Code.{Code}
use Rattle.lynx_load.proofs.Starting.{ends_many, programs_many}
use Rattle.lynx_load.specs.Ends.{ends_of_each}
use Rattle.lynx_load.specs.Loading.{Loading, Loads}
use Rattle.lynx_load.specs.Roles.{last_of, state_of, version_of}
use Rattle.lynx_load.specs.Started.{AreStarted}
use Rattle.lynx_load.specs.declared.role.Role.{Role}
use Rattle.lynx_outside.specs.Files.{IsWithin}
use Rattle.lynx_outside.specs.Logged.{Read}
use Rattle.plan_run.specs.Run.{IsRunOf}
use Rattle.plan_run.specs.declared.run.Ran.{Ran}
use Rattle.lynx_load.specs.States.{start_of}
use Rattle.carried_ends.specs.Acted.{programs_of}
use Rattle.carried_ends.specs.Claimed.{AreWired, HasLinks}
use Rattle.run_links.proofs.Linked.{of-run}
use Rattle.run_links.proofs.Loaded.{loaded_sound}
use Rattle.run_links.proofs.Starting.{plan_wired}
use Rattle.run_links.specs.Linked.{BeginAs, plan_programs, roles}

-- each program is the one of its process
started-at : (version : ℕ) (codes : List Code) (each : List (List EndId)) (given : List Role) → AreStarted version codes each given → (i : ℕ) (was : Role) → slice_get given i ≡ Some was
    → state_of was ≡ start_of version (programs_of codes each i).code (programs_of codes each i).ends
started-at version [] [] [] are i was at = let no : None ≡ Some was = at in absurd cc
started-at version (code ∷ codes) (ends ∷ each) (role ∷ given) are zero was at = let same : role ≡ was = cc in ap state_of (sym same) ∙ are.0.state
started-at version (code ∷ codes) (ends ∷ each) (role ∷ given) are (suc i) was at = started-at version codes each given are.1 i was at
started-at version [] [] (role ∷ given) are i was at = absurd are
started-at version [] (ends ∷ each) given are i was at = absurd are
started-at version (code ∷ codes) [] given are i was at = absurd are
started-at version (code ∷ codes) (ends ∷ each) [] are i was at = absurd are

-- what was loaded is sound
pub loaded-wired : (name : List ℕ) (reads : List Read) (x : Loading) → Loads name reads (Ok x) → All IsWithin reads → IsValid x.plan.setting × AreWired x.plan.setting (plan_programs x)
loaded-wired name reads x loads within = let sound = loaded_sound name x reads loads within in (sound.valid, plan_wired x sound)

module _ (x : Loading) (given : List Role) (started : AreStarted x.plan.setting.version x.codes (ends_of_each x.plan.setting) given) where
  begin-as : BeginAs roles x.plan.setting (plan_programs x) given
  begin-as = record {
    count = programs_many x.plan.setting.version x.codes (ends_of_each x.plan.setting) given started ∙ ends_many x.plan.setting 0 x.plan.setting.homes;
    states = started-at x.plan.setting.version x.codes (ends_of_each x.plan.setting) given started;
  }

  pub wired-linked : (turns : ℕ) (ran : Ran) → turns ≤ 100000 → AreWired x.plan.setting (plan_programs x) → (is : IsRunOf roles x.plan.setting given turns ran)
      → HasLinks x.plan.setting (plan_programs x) is.merged is.replayed.steps is.lawful
  wired-linked turns ran bound wired is = of-run state_of last_of version_of x.plan.setting (plan_programs x) given begin-as wired turns ran bound is

  pub plan-linked : (name : List ℕ) (reads : List Read) (turns : ℕ) (ran : Ran) → Loads name reads (Ok x) → All IsWithin reads → turns ≤ 100000 → (is : IsRunOf roles x.plan.setting given turns ran)
      → HasLinks x.plan.setting (plan_programs x) is.merged is.replayed.steps is.lawful
  plan-linked name reads turns ran loads within bound is = wired-linked turns ran bound (loaded-wired name reads x loads within).1 is
