-- The processes of a plan that was loaded begin with their own ends, each once, and with sound code.
use Rattle.std.proofs.Common.{arith, ◌≡◌, ◌⊎◌, ℕ, zero, suc, ◌+◌, ◌<◌, List, [], ◌∷◌, length, refl, sym, ap, subst, ◌∙◌}
use Rattle.std.specs.List.{AllByRecursion, IsDistinct}
use Rattle.charlotte_calls.specs.EndEq.{end_eq}
use Rattle.charlotte_calls.specs.declared.names.EndId.{EndId}
use Rattle.charlotte_calls.specs.declared.setting.Setting.{Setting}
use Rattle.compiler_runnable.specs.Runnable.{IsRunnable}
use Rattle.lynx_code.specs.declared.code.Code.{Code}
use Rattle.lynx_load.proofs.Starting.{ends_many}
use Rattle.lynx_load.specs.Ends.{ends_from, ends_of, ends_of_each}
use Rattle.lynx_load.specs.Loading.{Loading}
use Rattle.lynx_load.specs.Started.{AreFit}
use Rattle.lynx_load.specs.States.{start_of}
use Rattle.process_sound.specs.Processes.{IsRunning}
use Rattle.process_sound.proofs.Starts.{start_running}
use Rattle.carried_ends.specs.Acted.{process, programs_of}
use Rattle.carried_ends.specs.Claimed.{AreWired}
use Rattle.service_step.specs.Run.{start_state}
use Rattle.service_step.specs.declared.state.Place.TheVariants.{Owned}
use Rattle.run_links.proofs.Loaded.{IsSound}
use Rattle.run_links.proofs.Wired.{apart_at_start, ends_few, own_at_start}
use Rattle.run_links.specs.Linked.{plan_programs}

-- a process's ends are those of its number
ends_at : (s : Setting) (codes : List Code) (p : ℕ) (homes : List ℕ) → length codes ≡ length homes → (i : ℕ) → i < length homes → (programs_of codes (ends_from s p homes) i).ends ≡ ends_of s (p + i)
ends_at s codes p [] many i below = absurd (omega (arith, below))
ends_at s [] p (home ∷ homes) many i below = let no : 0 ≡ length homes + 1 = many ∙ omega arith in absurd (omega (arith, no))
ends_at s (code ∷ codes) p (home ∷ homes) many zero below = ap (ends_of s) (omega arith)
ends_at s (code ∷ codes) p (home ∷ homes) many (suc i) below = ends_at s codes (p + 1) homes (omega (arith, many)) i (omega (arith, below)) ∙ ap (ends_of s) (omega arith)

fit_many : (codes : List Code) (each : List (List EndId)) → AreFit codes each → length codes ≡ length each
fit_many [] [] fit = refl
fit_many (code ∷ codes) (ends ∷ each) fit = ap suc (fit_many codes each fit.1)
fit_many [] (ends ∷ each) fit = absurd fit
fit_many (code ∷ codes) [] fit = absurd fit

running_at : (version : ℕ) → (version ≡ 1) ⊎ (version ≡ 2) → (codes : List Code) (each : List (List EndId)) → AllByRecursion IsRunnable codes → AreFit codes each → (i : ℕ) → i < length codes
    → IsRunning (start_of version (programs_of codes each i).code (programs_of codes each i).ends)
running_at version of [] each runnable fit i below = absurd (omega (arith, below))
running_at version of (code ∷ codes) [] runnable fit i below = absurd fit
running_at version of (code ∷ codes) (ends ∷ each) runnable fit zero below = start_running version code ends of runnable.0 fit.0
running_at version of (code ∷ codes) (ends ∷ each) runnable fit (suc i) below = running_at version of codes each runnable.1 fit.1 i (omega (arith, below))

module _ (x : Loading) (sound : IsSound x) where
  abbrev s : Setting
  s = x.plan.setting

  many : length x.codes ≡ length s.homes
  many = fit_many x.codes (ends_of_each s) sound.fit ∙ ends_many s 0 s.homes

  own_ends : (i : ℕ) → i < length s.homes → (plan_programs x i).ends ≡ ends_of s i
  own_ends i within = ends_at s x.codes 0 s.homes many i within ∙ ap (ends_of s) (let e : 0 + i ≡ i = omega arith in e)

  pub plan_wired : AreWired s (plan_programs x)
  plan_wired = record {
    own = λ i within. subst (λ (xs : List EndId). AllByRecursion (λ (y : EndId). ((start_state s).ends y).place ≡ Owned (process i)) xs) (sym (own_ends i within)) (own_at_start s sound.valid i);
    apart = λ i within. subst (λ (xs : List EndId). IsDistinct end_eq xs) (sym (own_ends i within)) (apart_at_start s sound.valid i);
    few = λ i within. let most = ends_few s i in omega (arith, most, sound.valid.limits.wires, ap length (own_ends i within));
    sound = λ i within. running_at s.version sound.valid.limits.version x.codes (ends_of_each s) sound.runnable sound.fit i (omega (arith, within, many));
  }
