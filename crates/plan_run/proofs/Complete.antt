-- A run in which no kernel used all its turns is quiet.
use Rattle.std.proofs.Common.{◌≡◌, ℕ, ◌<◌, List, refl}
use Rattle.charlotte_calls.specs.declared.setting.Setting.{Setting}
use Rattle.kernel_worker.specs.Nodes.{Meaning}
use Rattle.kernel_worker.specs.declared.standing.End.{End}
use Rattle.kernel_worker.specs.declared.standing.End.TheVariants as end
use Rattle.plan_run.specs.Run.{EndsSo, IsRunOf, turns_of}
use Rattle.plan_run.specs.declared.run.Ran.{Ran}

pub run-complete : {P S : Type 0} (m : Meaning P S) (s : Setting) (programs : List P) (turns : ℕ) (ran : Ran) (is : IsRunOf m s programs turns ran)
    → ((k : ℕ) → k < s.kernels → turns_of m s programs is.merged is.replayed k ≡ turns → ⊥) → ran.end ≡ end.Quiet
run-complete m s programs turns ran is some = by ran.end is.ends
  where
    by : (e : End) → EndsSo m s programs is.merged is.replayed is.left turns e → e ≡ end.Quiet
    by end.Quiet quiet = refl
    by (end.Spent k) spent = absurd (some k spent.there spent.used)
