-- The steps of the entries of a run, event by event.
use Rattle.std.proofs.Common.{◌≡◌, ℕ, Bool, true, false, nat_eq, List, [], ◌∷◌, length, refl, subst, ◌∙◌, if◌then◌else◌}
use Rattle.charlotte_calls.specs.Setting.{IsValid}
use Rattle.charlotte_calls.specs.declared.calls.ServiceStep.{ServiceStep}
use Rattle.charlotte_calls.specs.declared.names.Pid.{Pid}
use Rattle.charlotte_calls.specs.declared.setting.Setting.{Setting}
use Rattle.charlotte_packets.specs.declared.picture.Picture.{Picture}
use Rattle.kernel_entries.specs.declared.entry.Placed.{Placed}
use Rattle.kernel_step.specs.Kernel.{Kernel}
use Rattle.kernel_world.specs.Run.{AreAllowed, IsAllowed}
use Rattle.kernel_world.specs.World.{Calls, Event, Takes, World, asked_or_took, happens, kernel_of, noted, outcome, start, takes_first}
use Rattle.service_consistent.proofs.Starts.{consistent_start}
use Rattle.service_lawful.specs.Consistent.{IsConsistent}
use Rattle.service_step.specs.Run.{start_state, state_after}
use Rattle.service_step.specs.State.{State}
use Rattle.told_answers.specs.Law.{GoesWithEach}
use Rattle.told_answers.specs.Record.{IsLawfulRecord}
use Rattle.theorem_meaning.specs.StandsFor.{StandsFor}
use Rattle.told_answers.proofs.Called.{call-stepped}
use Rattle.told_answers.proofs.Local.{start-as_told}
use Rattle.told_answers.proofs.Run.{AsTold, take-stepped}
use Rattle.told_answers.specs.Told.{Heard, NoCall}
use Rattle.entry_steps.proofs.Calls.{call-steps}
use Rattle.entry_steps.proofs.Phases.{others-stay, run-consistent, run-homes}
use Rattle.entry_steps.proofs.Takings.{AreUncalled, take_step-uncalled}
use Rattle.entry_steps.specs.Entries.{AreEntries, AreOfEntry}

-- what stands at a kernel is what was told of it
record IsTold (n : ℕ) (x : Kernel) : Type 0 where
  h : Pid → Heard
  inv : AsTold n h x

takes-told : (n : ℕ) (x : Kernel) (from : ℕ) (qs : List Picture) → IsTold n x → IsTold n (takes_first x from qs).kernel
takes-told n x from [] told = told
takes-told n x from (q ∷ qs) told = record { h = _; inv = (take-stepped n told.h x told.inv from q).inv }

takes-uncalled : (n : ℕ) (x : Kernel) (from : ℕ) (qs : List Picture) → IsTold n x → AreUncalled (takes_first x from qs).steps
takes-uncalled n x from [] told = tt
takes-uncalled n x from (q ∷ qs) told = take_step-uncalled n x told.inv.sound from q

module _ (g : Setting) where
  abbrev n : ℕ
  n = length g.homes

  abbrev AreTold : World → Type 0
  AreTold w = (k : ℕ) → IsTold n (w.kernel k)

  -- the kernel of an event
  own-told : (w : World) (e : Event) → AreTold w → IsAllowed g w e → IsTold n (outcome w e).kernel
  own-told w (Calls k p c mine) told allowed = record { h = _; inv = (call-stepped n (told k).h (w.kernel k) (told k).inv p c mine allowed.0 allowed.2 allowed.4).inv }
  own-told w (Takes k from) told allowed = takes-told n (w.kernel k) from (w.packets from k) (told k)

  happens-told : (w : World) (e : Event) → AreTold w → IsAllowed g w e → AreTold (happens w e)
  happens-told w e told allowed q = by (nat_eq q (kernel_of e))
    where
      by : (b : Bool) → IsTold n (if b then (outcome w e).kernel else w.kernel q)
      by true = own-told w e told allowed
      by false = told q

  own-steps : (w : World) (e : Event) → AreTold w → IsAllowed g w e → AreOfEntry g (kernel_of e) (asked_or_took w e) (outcome w e).steps
  own-steps w (Calls k p c mine) told allowed = (allowed.0, allowed.1, call-steps n (told k).h (w.kernel k) (told k).inv p c mine allowed.2 allowed.4)
  own-steps w (Takes k from) told allowed = takes-uncalled n (w.kernel k) from (w.packets from k) (told k)

  each-entry : (w : World) (s : State) (es : List Event) (parts : List (List (ServiceStep × State))) → AreTold w → StandsFor w s → s.homes ≡ g.homes → IsConsistent s → AreAllowed g w es → GoesWithEach w s es parts
      → AreEntries g s (noted w es) parts
  each-entry w s [] [] told stands homes consistent allowed goes = tt
  each-entry w s [] (part ∷ parts) told stands homes consistent allowed goes = absurd goes
  each-entry w s (e ∷ es) [] told stands homes consistent allowed goes = absurd goes
  each-entry w s (e ∷ es) (part ∷ parts) told stands homes consistent allowed goes =
      let t : State = state_after s part in
      let now : t.homes ≡ g.homes = run-homes s part goes.0.run ∙ homes in
      let still : IsConsistent t = run-consistent s part goes.0.run consistent in (
        record {
          run = goes.0.run;
          steps = goes.0.steps;
          own = own-steps w e told allowed.0;
          others = λ q other. others-stay g w e s t stands goes.0.stands homes now consistent still q other;
        },
        each-entry (happens w e) t es parts (happens-told w e told allowed.0) goes.0.stands now still allowed.1 goes.1,
      )

pub entries-have_steps : (s : Setting) (merged : List Placed) → IsValid s → (lawful : IsLawfulRecord s merged) → AreEntries s (start_state s) merged lawful.lawfully.served.parts
entries-have_steps s merged valid lawful =
    let served = lawful.lawfully.served in
    subst (λ l. AreEntries s (start_state s) l served.parts) lawful.recorded.entries
    (each-entry s (start s) (start_state s) lawful.run served.parts (λ k. record { h = λ p. NoCall; inv = start-as_told s k valid }) served.begins refl (consistent_start s valid) lawful.recorded.run.allowed served.each)
