-- What the entries tell of a process is what their steps tell, one after the other.
use Rattle.std.proofs.Common.{◌≡◌, ℕ, List, [], ◌∷◌, Option, Some, None, refl, sym, ap, ◌∙◌}
use Rattle.charlotte_calls.specs.declared.calls.Answer.{Answer}
use Rattle.charlotte_calls.specs.declared.calls.Call.{Call}
use Rattle.charlotte_calls.specs.declared.calls.Call.TheVariants as call
use Rattle.charlotte_calls.specs.declared.calls.ServiceStep.{ServiceStep}
use Rattle.charlotte_calls.specs.declared.names.Way.TheVariants.{Inward, Outward}
use Rattle.charlotte_calls.specs.declared.program.Next.{Next}
use Rattle.charlotte_calls.specs.declared.program.Next.TheVariants as next
use Rattle.run_process_steps.specs.Told.{Answered, Heard, NoCall, Pending, cancel_in, first_in, heard_of, hears_by, later_told, or_else, report_in}
use Rattle.run_process_steps.specs.Acted.{process}
use Rattle.run_process_steps.specs.Hearing.{hears_steps, told_of}
use Rattle.run_process_steps.specs.Owners.{Asks, Over, Pends, Runs, Told, status_of}

-- ---- one step after the other

-- what was told stays
pub told-stays : (i : ℕ) (steps : List ServiceStep) (c : Call) (a : Answer) → hears_steps i steps (Told c a) ≡ Told c a
told-stays i [] c a = refl
told-stays i (made ∷ more) c a = told-stays i more c a

pub asks-stays : (i : ℕ) (steps : List ServiceStep) (c : Call) → hears_steps i steps (Asks c) ≡ Asks c
asks-stays i [] c = refl
asks-stays i (made ∷ more) c = asks-stays i more c

pub runs-stays : (i : ℕ) (steps : List ServiceStep) → hears_steps i steps Runs ≡ Runs
runs-stays i [] = refl
runs-stays i (made ∷ more) = runs-stays i more

pub over-stays : (i : ℕ) (steps : List ServiceStep) → hears_steps i steps Over ≡ Over
over-stays i [] = refl
over-stays i (made ∷ more) = over-stays i more

-- a call that is never answered later
untold : (i : ℕ) (c : Call) → ((steps : List ServiceStep) → later_told (process i) c steps ≡ None) → (steps : List ServiceStep) → hears_steps i steps (Pends c) ≡ told_of c (later_told (process i) c steps)
untold i c never [] = sym (ap (told_of c) (never []))
untold i c never (made ∷ more) =
    ap (λ (o : Option Answer). hears_steps i more (told_of c o)) (never (made ∷ [])) ∙ untold i c never more
    ∙ ap (told_of c) (never more) ∙ sym (ap (told_of c) (never (made ∷ more)))

-- one whose answer is the first that a step tells
first-told : (i : ℕ) (c : Call) (tells : ServiceStep → Option Answer) → ((steps : List ServiceStep) → later_told (process i) c steps ≡ first_in tells steps) → (steps : List ServiceStep)
    → hears_steps i steps (Pends c) ≡ told_of c (first_in tells steps)
first-told i c tells is [] = refl
first-told i c tells is (made ∷ more) = ap (λ (o : Option Answer). hears_steps i more (told_of c o)) (is (made ∷ [])) ∙ by (tells made) refl (first-told i c tells is more)
  where
    by : (o : Option Answer) → tells made ≡ o → hears_steps i more (Pends c) ≡ told_of c (first_in tells more)
        → hears_steps i more (told_of c (or_else (tells made) None)) ≡ told_of c (or_else (tells made) (first_in tells more))
    by None e rest = ap (λ (o : Option Answer). hears_steps i more (told_of c (or_else o None))) e ∙ rest ∙ sym (ap (λ (o : Option Answer). told_of c (or_else o (first_in tells more))) e)
    by (Some a) e rest =
        ap (λ (o : Option Answer). hears_steps i more (told_of c (or_else o None))) e ∙ told-stays i more c a ∙ sym (ap (λ (o : Option Answer). told_of c (or_else o (first_in tells more))) e)

pub pends-tell : (i : ℕ) (c : Call) (steps : List ServiceStep) → hears_steps i steps (Pends c) ≡ told_of c (later_told (process i) c steps)
pends-tell i call.Make steps = untold i call.Make (λ l. refl) steps
pends-tell i (call.Destroy on) steps = untold i (call.Destroy on) (λ l. refl) steps
pends-tell i (call.Send on bytes xs) steps = untold i (call.Send on bytes xs) (λ l. refl) steps
pends-tell i (call.Receive on) steps = untold i (call.Receive on) (λ l. refl) steps
pends-tell i (call.Cancel on Inward) steps = first-told i (call.Cancel on Inward) (cancel_in on) (λ l. refl) steps
pends-tell i (call.Cancel on Outward) steps = untold i (call.Cancel on Outward) (λ l. refl) steps
pends-tell i call.Wait steps = first-told i call.Wait (report_in (process i)) (λ l. refl) steps
pends-tell i (call.Print bytes) steps = untold i (call.Print bytes) (λ l. refl) steps
pends-tell i call.Exit steps = untold i call.Exit (λ l. refl) steps

-- ---- an entry without a call of it

pub status-told : (c : Call) (o : Option Answer) → (d : Call) → status_of (Some (next.Ask d)) (heard_of c o) ≡ told_of c o
status-told c None d = refl
status-told c (Some a) d = refl

pub hears-status : (i : ℕ) (steps : List ServiceStep) (last : Option Next) (h : Heard) → hears_steps i steps (status_of last h) ≡ status_of last (hears_by (process i) h None steps)
hears-status i steps None h = runs-stays i steps
hears-status i steps (Some next.Pause) h = runs-stays i steps
hears-status i steps (Some next.Ended) h = over-stays i steps
hears-status i steps (Some (next.Ask c)) NoCall = asks-stays i steps c
hears-status i steps (Some (next.Ask c)) (Pending d) = pends-tell i d steps ∙ sym (status-told d (later_told (process i) d steps) c)
hears-status i steps (Some (next.Ask c)) (Answered d a) = told-stays i steps d a
