-- A process at its start.
use Rattle.std.proofs.Common.{arith, ◌≡◌, ◌⊎◌, ℕ, suc, ◌+◌, List, [], ◌∷◌, length, map, refl, ap, ◌∙◌}
use Rattle.std.specs.List.{AllByRecursion}
use Rattle.charlotte_calls.specs.declared.names.EndId.{EndId}
use Rattle.lynx_code.specs.declared.code.Code.{Code}
use Rattle.lynx_interp.proofs.Machines.{start_machine}
use Rattle.compiler_runnable.specs.Runnable.{IsRunnable}
use Rattle.machine_turns.specs.Turns.{Turns}
use Rattle.end_protocol.specs.Kept.{fresh}
use Rattle.process_run.specs.States.{Keeps, Module, Place, links_from, start}
use Rattle.process_sound.specs.Ends.{AreEnds, IsHolding, waits}
use Rattle.process_sound.specs.Processes.{IsRunning}
use Rattle.process_sound.proofs.Ops.{runnable_module}
use Rattle.process_sound.proofs.Places.{fresh_holds}

links_many : (n : ℕ) (xs : List EndId) → length (links_from n xs) ≡ length xs
links_many n [] = refl
links_many n (x ∷ xs) = ap suc (links_many (n + 1) xs)

-- ends that were just got
abbrev got : List EndId → List Place
got xs = map (λ x. record { end = x; holding = Keeps fresh }) xs

got_each : (version : ℕ) (m : Module) (t : Turns) (xs : List EndId) → AllByRecursion (λ p. IsHolding version m t p.holding) (got xs)
got_each version m t [] = tt
got_each version m t (x ∷ xs) = (fresh_holds version m t, got_each version m t xs)

none_wait : (n : ℕ) (xs : List EndId) → waits n (got xs) ≡ 0
none_wait n [] = refl
none_wait n (x ∷ xs) = let rest = none_wait n xs in omega arith

start_ends : (version : ℕ) (m : Module) (t : Turns) (xs : List EndId) → AreEnds version m t [] (got xs)
start_ends version m t xs = record { each = got_each version m t xs; once = λ n. let none = none_wait n xs in omega arith }

-- So it is at the start of a process of version 1 or 2 that has an end for each param of its code.
pub start_running : (version : ℕ) (code : Code) (xs : List EndId) → (version ≡ 1) ⊎ (version ≡ 2) → IsRunnable code → length xs ≡ code.params → IsRunning (start version code xs)
start_running version code xs of is many =
    let s = start version code xs in
    let machine = start_machine code (links_from 1 xs) is (links_many 1 xs ∙ many) in
    record {
      going = record {
        version = of;
        code = runnable_module code is;
        process = record { sound = machine.sound; parts = machine.parts; heard = machine.heard; lists = refl };
        ends = start_ends version s.code s.turns xs;
      };
      asked = tt;
    }
