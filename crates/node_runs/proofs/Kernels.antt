-- A local run takes packets just of kernels that are there.
use Rattle.std.proofs.Common.{◌≡◌, ℕ, ◌<◌, ◌≤◌, List, [], ◌∷◌, refl, sym, subst, ◌∙◌, arith}
use Rattle.charlotte_calls.specs.Setting.{IsValid}
use Rattle.charlotte_calls.specs.declared.setting.Setting.{Setting}
use Rattle.kernel_named.proofs.Start.{start-names}
use Rattle.kernel_named.proofs.Steps.{GivesWithin, call_step-within, take_step-within}
use Rattle.kernel_named.specs.Named.{TableNamesBelow}
use Rattle.kernel_step.specs.Kernel.{Kernel, Outcome, take_step, without_answer}
use Rattle.kernel_step.specs.Start.{start_kernel}
use Rattle.kernel_turns.proofs.Together.{got-other}
use Rattle.kernel_turns.specs.Local.{IsLocalEvent, IsLocalRun, LocalEvent, MakesCall, TakesPacket, gives, takes_from}

module _ (s : Setting) (k : ℕ) (below : k < s.kernels) where
  -- a kernel k of so many
  record IsThere (x : Kernel) : Type 0 where
    number : x.number ≡ k
    kernels : x.kernels ≡ s.kernels
    names : TableNamesBelow s.kernels x.table

  as_within : (x : Kernel) (o : Outcome) → IsThere x → GivesWithin x.kernels x.number o → IsThere o.kernel
  as_within x o is g = record { number = g.number ∙ is.number; kernels = g.kernels ∙ is.kernels; names = subst (λ n. TableNamesBelow n o.kernel.table) is.kernels g.table }

  event-there : (x : Kernel) (o : LocalEvent) → IsThere x → IsLocalEvent s k x o → IsThere (gives x o).kernel
  event-there x (MakesCall p c mine) is event =
      as_within (without_answer p x) (gives x (MakesCall p c mine)) (record { number = is.number; kernels = is.kernels; names = is.names })
      (call_step-within (without_answer p x) (omega (arith, below, is.number, is.kernels)) (subst (λ n. TableNamesBelow n x.table) (sym is.kernels) is.names) p mine c)
  event-there x (TakesPacket from q) is event =
      as_within x (take_step x from q) is (take_step-within x from q (omega (arith, below, is.number, is.kernels)) event.0 (subst (λ n. TableNamesBelow n x.table) (sym is.kernels) is.names))

  takes-none_of : (from : ℕ) (x : Kernel) (os : List LocalEvent) → s.kernels ≤ from → IsThere x → IsLocalRun s k x os → takes_from from os ≡ []
  takes-none_of from x [] far is run = refl
  takes-none_of from x (MakesCall p c mine ∷ os) far is run = takes-none_of from (gives x (MakesCall p c mine)).kernel os far (event-there x (MakesCall p c mine) is run.0) run.1
  takes-none_of from x (TakesPacket j q ∷ os) far is run =
      let there : j < x.kernels = run.0.0 in
      got-other from j q os (λ same. omega (arith, there, far, same, is.kernels)) ∙ takes-none_of from (gives x (TakesPacket j q)).kernel os far (event-there x (TakesPacket j q) is run.0) run.1

  pub takes-none : (from : ℕ) (os : List LocalEvent) → IsValid s → s.kernels ≤ from → IsLocalRun s k (start_kernel s k) os → takes_from from os ≡ []
  takes-none from os valid far run = takes-none_of from (start_kernel s k) os far (record { number = refl; kernels = refl; names = start-names s valid k }) run
