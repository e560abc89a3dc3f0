-- The programs of a setting by the kernels of their processes.
use Rattle.std.specs.Prelude.{ℕ, ◌+◌, Bool, true, false, nat_eq, List, [], ◌∷◌}
use Rattle.charlotte_calls.specs.declared.names.Pid.{Pid}
use Rattle.charlotte_calls.specs.declared.setting.Setting.{Setting}

-- with this one before the others, where it is so
abbrev pub with_one : {X : Type 0} → Bool → X → List X → List X
with_one true x xs = x ∷ xs
with_one false x xs = xs

-- Of programs that stand by the numbers of their processes, which begin with this one and live on these kernels, those of one kernel, with
-- their processes
abbrev pub programs_from : {P : Type 0} → ℕ → ℕ → List ℕ → List P → List (Pid × P)
programs_from k i [] ps = []
programs_from k i (home ∷ homes) [] = []
programs_from k i (home ∷ homes) (p ∷ ps) = with_one (nat_eq home k) (record { 0 = i }, p) (programs_from k (i + 1) homes ps)

abbrev pub programs_on : {P : Type 0} → Setting → List P → ℕ → List (Pid × P)
programs_on s ps k = programs_from k 0 s.homes ps
