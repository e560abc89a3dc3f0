-- Steps of the service by which no end is made or destroyed, and none comes to know of the death of its link.
use Rattle.std.specs.Prelude.{◌≡◌, true, List, [], ◌∷◌, Contains}
use Rattle.std.specs.List.{AllByRecursion}
use Rattle.charlotte_calls.specs.declared.calls.ServiceStep.{ServiceStep}
use Rattle.charlotte_calls.specs.declared.calls.ServiceStep.TheVariants as step
use Rattle.charlotte_calls.specs.declared.names.EndId.{EndId}
use Rattle.service_step.specs.Ends.{is_living}
use Rattle.service_step.specs.State.{State}

-- and by which no message begins
abbrev pub IsPlainStep : ServiceStep → Type 0
IsPlainStep (step.Make p a b) = ⊥
IsPlainStep (step.Destroy e) = ⊥
IsPlainStep (step.Exit p) = ⊥
IsPlainStep (step.Send e n bytes xs) = ⊥
IsPlainStep (step.Notice e dead) = ⊥
IsPlainStep (step.Back e n dead) = ⊥
IsPlainStep _ = Unit {0}

-- or one begins that carries ends that live
abbrev pub IsQuietStep : State → ServiceStep → Type 0
IsQuietStep s (step.Send e n bytes xs) = (q : EndId) → Contains xs q → is_living (s.ends q).place ≡ true
IsQuietStep s made = IsPlainStep made

-- steps of which only the first may be a send
abbrev pub AreQuiet : State → List ServiceStep → Type 0
AreQuiet s [] = Unit {0}
AreQuiet s (made ∷ others) = IsQuietStep s made × AllByRecursion IsPlainStep others
