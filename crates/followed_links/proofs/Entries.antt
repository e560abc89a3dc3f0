-- An entry keeps the invariant, where each of its steps does.
use Rattle.std.proofs.Common.{arith, ◌≡◌, inl, inr, ℕ, suc, ◌+◌, ◌*◌, ◌≤◌, ◌<◌, List, [], ◌∷◌, length, Option, Some, None, refl, sym, ap, subst, ◌∙◌}
use Rattle.std.specs.List.{AllByRecursion}
use Rattle.charlotte_calls.specs.declared.calls.Answer.{Answer}
use Rattle.charlotte_calls.specs.declared.calls.Answer.TheVariants as answer
use Rattle.charlotte_calls.specs.declared.calls.Call.{Call}
use Rattle.charlotte_calls.specs.declared.calls.Call.TheVariants as call
use Rattle.charlotte_calls.specs.declared.calls.ServiceStep.{ServiceStep}
use Rattle.charlotte_calls.specs.declared.calls.ServiceStep.TheVariants as step
use Rattle.charlotte_calls.specs.declared.names.EndId.{EndId}
use Rattle.charlotte_calls.specs.declared.names.Way.TheVariants.{Inward, Outward}
use Rattle.service_step.specs.Run.{IsRunFrom, state_after}
use Rattle.service_step.specs.State.{State as Service}
use Rattle.service_step.specs.Steps.{IsServiceStep}
use Rattle.service_step.specs.declared.state.Phase.TheVariants as phase
use Rattle.service_streams.specs.Streams.{steps_in}
use Rattle.run_process_steps.specs.Told.{cancel_in, later_told, or_else, own_told, report_in}
use Rattle.run_process_steps.specs.Entries.{IsOwn, IsUncalled}
use Rattle.end_protocol.specs.Deeds.{Deed}
use Rattle.run_process_steps.specs.States.{State}
use Rattle.run_process_steps.specs.Acted.{process}
use Rattle.run_process_steps.specs.Hearing.{all_hear, all_hear_steps, hears_step, hears_steps, owner_told, told_of, with_owner}
use Rattle.run_process_steps.specs.Invariant.{IsOwner, Owners, Stands}
use Rattle.run_process_steps.specs.Owners.{Asks, Over, Pends, Runs, Status, Told, phase_of}
use Rattle.run_process_steps.specs.Steps.{HasBytes, HasRoom, IsFirst, IsMine}
use Rattle.followed_links.proofs.Hearing.{pends-tell, told-stays, asks-stays, runs-stays, over-stays}

-- the answer of one step alone
abbrev or_nothing : Option Answer → Option Answer
or_nothing o = or_else o None

running-not-waiting : phase.Running ≡ phase.Waiting → ⊥
running-not-waiting e = cc

running-not-cancelling : (x : EndId) → phase.Running ≡ phase.Cancelling x → ⊥
running-not-cancelling x e = cc

-- ---- a process whose phase is as it was was told nothing

pends-stays : (c : Call) (o : Option Answer) → ((a : Answer) → o ≡ Some a → phase_of (Pends c) ≡ phase.Running → ⊥) → phase_of (told_of c o) ≡ phase_of (Pends c)
    → ((a : Answer) → phase_of (Told c a) ≡ phase.Running) → told_of c o ≡ Pends c
pends-stays c None late same runs = refl
pends-stays c (Some a) late same runs = absurd (late a refl (sym same ∙ runs a))

-- only a Wait or a Cancel of a receive is answered later
pub stays-by-phase : (i : ℕ) (steps : List ServiceStep) (status : Status) → phase_of (hears_steps i steps status) ≡ phase_of status → hears_steps i steps status ≡ status
stays-by-phase i steps Runs same = runs-stays i steps
stays-by-phase i steps (Asks c) same = asks-stays i steps c
stays-by-phase i steps (Told c a) same = told-stays i steps c a
stays-by-phase i steps Over same = over-stays i steps
stays-by-phase i steps (Pends call.Make) same = pends-tell i call.Make steps
stays-by-phase i steps (Pends (call.Destroy on)) same = pends-tell i (call.Destroy on) steps
stays-by-phase i steps (Pends (call.Send on bytes xs)) same = pends-tell i (call.Send on bytes xs) steps
stays-by-phase i steps (Pends (call.Receive on)) same = pends-tell i (call.Receive on) steps
stays-by-phase i steps (Pends (call.Cancel on Outward)) same = pends-tell i (call.Cancel on Outward) steps
stays-by-phase i steps (Pends (call.Print bytes)) same = pends-tell i (call.Print bytes) steps
stays-by-phase i steps (Pends call.Exit) same = pends-tell i call.Exit steps
stays-by-phase i steps (Pends call.Wait) same =
    let tell = pends-tell i call.Wait steps in
    tell ∙ pends-stays call.Wait (later_told (process i) call.Wait steps) (λ a e runs. running-not-waiting (sym runs)) (sym (ap phase_of tell) ∙ same) (λ a. refl)
stays-by-phase i steps (Pends (call.Cancel on Inward)) same =
    let tell = pends-tell i (call.Cancel on Inward) steps in
    tell ∙ pends-stays (call.Cancel on Inward) (later_told (process i) (call.Cancel on Inward) steps) (λ a e runs. running-not-cancelling on (sym runs)) (sym (ap phase_of tell) ∙ same) (λ a. refl)

-- ---- the first step of a call

-- it tells nobody else anything
pub first-silent : (i j : ℕ) (c : Call) (made : ServiceStep) → IsFirst i c made → (d : Call) → hears_step j made (Pends d) ≡ Pends d
first-silent i j c made (inl refused) d = ap (λ (m : ServiceStep). hears_step j m (Pends d)) refused.1 ∙ by d
  where
    by : (d : Call) → hears_step j (step.Refuse (process i) c refused.0) (Pends d) ≡ Pends d
    by call.Make = refl
    by (call.Destroy on) = refl
    by (call.Send on bytes xs) = refl
    by (call.Receive on) = refl
    by (call.Cancel on Inward) = refl
    by (call.Cancel on Outward) = refl
    by call.Wait = refl
    by (call.Print bytes) = refl
    by call.Exit = refl
first-silent i j c made (inr own) d = by_call c own d
  where
    same_made : (m : ServiceStep) → made ∷ [] ≡ m ∷ [] → made ≡ m
    same_made m e = cc

    -- a step that tells nothing later
    silent : (m : ServiceStep) → made ≡ m → report_in (process j) m ≡ None → ((on : EndId) → cancel_in on m ≡ None) → (d : Call) → hears_step j made (Pends d) ≡ Pends d
    silent m e none nothing call.Make = refl
    silent m e none nothing (call.Destroy on) = refl
    silent m e none nothing (call.Send on bytes xs) = refl
    silent m e none nothing (call.Receive on) = refl
    silent m e none nothing (call.Cancel on Inward) =
        ap (λ (n : ServiceStep). hears_step j n (Pends (call.Cancel on Inward))) e ∙ ap (λ (o : Option Answer). told_of (call.Cancel on Inward) (or_nothing o)) (nothing on)
    silent m e none nothing (call.Cancel on Outward) = refl
    silent m e none nothing call.Wait = ap (λ (n : ServiceStep). hears_step j n (Pends call.Wait)) e ∙ ap (λ (o : Option Answer). told_of call.Wait (or_nothing o)) none
    silent m e none nothing (call.Print bytes) = refl
    silent m e none nothing call.Exit = refl

    by_call : (c : Call) → IsOwn (process i) c (made ∷ []) → (d : Call) → hears_step j made (Pends d) ≡ Pends d
    by_call call.Make own d = silent (step.Make (process i) own.0 own.1) (same_made (step.Make (process i) own.0 own.1) own.2) refl (λ on. refl) d
    by_call (call.Destroy on) own d = silent (step.Destroy on) (same_made (step.Destroy on) own) refl (λ on. refl) d
    by_call (call.Send on bytes xs) own d = silent (step.Send on own.0 bytes xs) (same_made (step.Send on own.0 bytes xs) own.1) refl (λ on. refl) d
    by_call (call.Receive on) own d = silent (step.Receive on) (same_made (step.Receive on) own) refl (λ on. refl) d
    by_call (call.Cancel on w) own d = silent (step.Cancel on w) (same_made (step.Cancel on w) own) refl (λ on. refl) d
    by_call call.Wait own d = silent (step.Wait (process i)) (same_made (step.Wait (process i)) own) refl (λ on. refl) d
    by_call (call.Print bytes) own d = let no : made ∷ [] ≡ [] = own in absurd cc
    by_call call.Exit own d = silent (step.Exit (process i)) (same_made (step.Exit (process i)) own) refl (λ on. refl) d

-- ---- the steps of an entry

-- each process is told one answer at most, so the places still have room
room-stays : (count n : ℕ) (os qs : Owners) → ((i : ℕ) → (qs i).state ≡ (os i).state) → HasRoom count n os → HasRoom count n qs
room-stays count n os qs same room i below = subst (λ (s : State). length s.places ≤ 8192 + 8 * n) (sym (same i)) (room i below)

-- one entry more
pub more-entries : (version count n : ℕ) (s : Service) (os : Owners) (deeds : EndId → List Deed) → Stands version count s n os deeds → Stands version count s (suc n) os deeds
more-entries version count n s os deeds is =
    record {
      owners =
          record {
            consistent = is.owners.consistent;
            matched = is.owners.matched;
            version_is = is.owners.version_is;
            count_is = is.owners.count_is;
            each = λ i below. one i (is.owners.each i below);
          };
      links = is.links;
    }
  where
    one : (i : ℕ) → IsOwner version s n i (os i) → IsOwner version s (suc n) i (os i)
    one i o =
        record {
          phase = o.phase;
          version_is = o.version_is;
          running = o.running;
          asked = o.asked;
          single = o.single;
          few = (let f = o.few in omega (arith, f));
          told = o.told;
          custody = o.custody;
        }

-- steps of the service keep the invariant: those that are no process's call, the first step of a call, and a print, which has none
pub record StepsKeep (version count : ℕ) : Type 0 where
  pub uncalled : (s : Service) (made : ServiceStep) (t : Service) (n : ℕ) (os : Owners) (deeds : EndId → List Deed) → Stands version count s (suc n) os deeds → HasRoom count n os → IsServiceStep s made t
      → IsUncalled made → Stands version count t (suc n) (all_hear made os) deeds
  pub first : (s : Service) (made : ServiceStep) (t : Service) (n i : ℕ) (c : Call) (os : Owners) (deeds : EndId → List Deed) → i < count → (os i).status ≡ Asks c → Stands version count s (suc n) os deeds
      → HasRoom count n os → IsServiceStep s made t → IsFirst i c made → IsMine s i c → HasBytes c
      → Stands version count t (suc n) (with_owner i (owner_told c (own_told (process i) c (made ∷ [])) (os i)) os) deeds
  pub prints : (s : Service) (n i : ℕ) (bytes : List ℕ) (os : Owners) (deeds : EndId → List Deed) → i < count → (os i).status ≡ Asks (call.Print bytes) → Stands version count s (suc n) os deeds
      → HasRoom count n os → Stands version count s (suc n) (with_owner i (owner_told (call.Print bytes) (Some answer.Ok) (os i)) os) deeds

module _ (version count : ℕ) (keep : StepsKeep version count) where
  -- steps that are no process's call
  pub uncalled-all : (part : List (ServiceStep × Service)) (s : Service) (n : ℕ) (os : Owners) (deeds : EndId → List Deed) → Stands version count s (suc n) os deeds → HasRoom count n os → IsRunFrom s part
      → AllByRecursion IsUncalled (steps_in part) → Stands version count (state_after s part) (suc n) (all_hear_steps (steps_in part) os) deeds
  uncalled-all [] s n os deeds is room run none = is
  uncalled-all (made ∷ part) s n os deeds is room run none =
      uncalled-all part made.1 n (all_hear made.0 os) deeds (keep.uncalled s made.0 made.1 n os deeds is room run.0 none.0) (room-stays count n os (all_hear made.0 os) (λ i. refl) room) run.1 none.1

-- ---- an entry

-- what processes of other kernels hear is nothing
module _ (version count : ℕ) (s t : Service) (n : ℕ) (os qs : Owners) (deeds : EndId → List Deed) (steps : List ServiceStep) (before : Stands version count s n os deeds) (after : Stands version count t (suc n) qs deeds) where
  pub unheard : (i : ℕ) → i < count → (qs i).status ≡ hears_steps i steps (os i).status → (t.process i).phase ≡ (s.process i).phase → hears_steps i steps (os i).status ≡ (os i).status
  unheard i below is still =
      stays-by-phase i steps (os i).status
      (ap phase_of (sym is) ∙ sym (after.owners.each i below).phase ∙ still ∙ (before.owners.each i below).phase)
