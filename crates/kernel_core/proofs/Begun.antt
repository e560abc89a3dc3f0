-- The room that an event begins with is enough for what it is about.
use Rattle.std.proofs.Common.{◌≡◌, ℕ, ◌+◌, ◌*◌, ◌<◌, ◌≤◌, List, [], ◌∷◌, length, refl, ap, subst, ◌∙◌, arith}
use Rattle.charlotte_calls.specs.declared.calls.Call.{Call}
use Rattle.charlotte_calls.specs.declared.calls.Call.TheVariants as call
use Rattle.charlotte_calls.specs.declared.calls.Report.{Report}
use Rattle.charlotte_calls.specs.declared.calls.ServiceStep.{ServiceStep}
use Rattle.charlotte_calls.specs.declared.names.EndId.{EndId}
use Rattle.charlotte_calls.specs.declared.names.Pid.{Pid}
use Rattle.charlotte_packets.specs.declared.work.Room.{Room}
use Rattle.charlotte_packets.specs.declared.work.Work.{Work}
use Rattle.end_table.specs.declared.entry.Entry.{Entry}
use Rattle.kernel_event.specs.Room.{room_of_call}
use Rattle.kernel_process.proofs.Closes.{spare-few}
use Rattle.kernel_process.specs.Closing.{CanClose, HaveSpare, HaveSpareFor, IsBegun}
use Rattle.kernel_process.specs.declared.event.Event.{Event}
use Rattle.kernel_process.specs.declared.process.ControlBlock.{ControlBlock}
use Rattle.kernel_step.specs.Progress.{AddsAtMost, HasRoom, means, progress}
use Rattle.kernel_step.specs.Room.{and_ends, one_step}

-- each call has a service step
one-step : (c : Call) → 1 ≤ (room_of_call c).steps
one-step call.Make = omega arith
one-step (call.Destroy on) = omega arith
one-step (call.Send on bytes xs) = omega arith
one-step (call.Receive on) = omega arith
one-step (call.Cancel on w) = omega arith
one-step call.Wait = omega arith
one-step (call.Print bytes) = omega arith
one-step call.Exit = omega arith

-- and gives no reports
no-reports : (c : Call) → (room_of_call c).reports ≡ 0
no-reports call.Make = refl
no-reports (call.Destroy on) = refl
no-reports (call.Send on bytes xs) = refl
no-reports (call.Receive on) = refl
no-reports (call.Cancel on w) = refl
no-reports call.Wait = refl
no-reports (call.Print bytes) = refl
no-reports call.Exit = refl

-- an event that has added nothing can close
pub begun-closes : (r : Room) (own : ℕ) (event : Event) → IsBegun r own event → CanClose own (r.steps + r.reports) event
begun-closes r own event begun =
    let reports : length event.work.reports.items ≡ 0 = ap length begun.reports in
    let answers : length event.work.answers.items ≡ 0 = ap length begun.answers in
    record { nobody = begun.nobody; answered = omega (arith, begun.places); steps = omega (arith, begun.room.steps) }

module _ (n : ℕ) (c : Call) (event : Event) (begun : IsBegun (and_ends n (room_of_call c)) 1 event) where
  -- there is room for a step
  pub begun-step : HasRoom one_step event.work
  begun-step =
      let some = one-step c in
      record { packets = omega (arith, begun.room.packets); reports = omega (arith, begun.room.reports); answers = omega (arith, begun.room.answers); steps = omega (arith, begun.room.steps) }

  -- and the event can close behind it
  pub step-begun : CanClose 1 1 event
  step-begun =
      let some = one-step c in
      let closes = begun-closes (and_ends n (room_of_call c)) 1 event begun in
      record { nobody = closes.nobody; answered = closes.answered; steps = omega (arith, closes.steps) }

-- a Wait may be given a report besides
pub wait-begun : (n : ℕ) (c : Call) (event : Event) → c ≡ call.Wait → IsBegun (and_ends n (room_of_call c)) 1 event → CanClose 1 2 event
wait-begun n c event is begun = begun-closes (and_ends n (room_of_call call.Wait)) 1 event (subst (λ x. IsBegun (and_ends n (room_of_call x)) 1 event) is begun)

-- a service step adds no report and no answer
pub step-reports : (t : EndId → Entry) (x : ServiceStep) (old new : Work) → progress t new ≡ means x (progress t old) → old.reports.items ≡ [] → new.reports.items ≡ []
unfolding means progress
step-reports t x old new part none = ap (λ d. d.reports) part ∙ none

pub step-answers : (t : EndId → Entry) (x : ServiceStep) (old new : Work) → progress t new ≡ means x (progress t old) → old.answers.items ≡ [] → new.answers.items ≡ []
unfolding means progress
step-answers t x old new part none = ap (λ d. d.answers) part ∙ none

-- the event can close as before, but for the step
pub step-closes : (a s : ℕ) (old : Event) (new : Work) → new.reports.items ≡ [] → new.answers.items ≡ [] → AddsAtMost one_step old.work new → CanClose a (s + 1) old
    → CanClose a s (record { work = new; answered = old.answered })
step-closes a s old new reports answers adds closes =
    let no_reports : length new.reports.items ≡ 0 = ap length reports in
    let no_answers : length new.answers.items ≡ 0 = ap length answers in
    record { nobody = closes.nobody; answered = omega (arith, closes.answered); steps = omega (arith, closes.steps, adds.steps, adds.steps_in_place) }

-- a part that adds no more than there is room for leaves an event that can close
pub part-closes : (r : Room) (own : ℕ) (old : Event) (new : Work) → IsBegun r own old → AddsAtMost r old.work new → CanClose own 0 (record { work = new; answered = old.answered })
part-closes r own old new begun adds =
    let no_reports : length old.work.reports.items ≡ 0 = ap length begun.reports in
    let no_answers : length old.work.answers.items ≡ 0 = ap length begun.answers in
    record {
      nobody = begun.nobody;
      answered = omega (arith, begun.places, adds.reports, adds.answers, new.reports.ok.0, new.answers.ok.0, old.work.reports.ok.0, old.work.answers.ok.0);
      steps = omega (arith, begun.room.steps, adds.reports, adds.steps, adds.steps_in_place, new.reports.ok.0, old.work.reports.ok.0, ap length begun.steps, old.work.steps.ok.0);
    }

-- and there is room for its reports
pub part-spare : (r : Room) (own : ℕ) (old : Event) (new : Work) (xs : List ControlBlock) → IsBegun r own old → AddsAtMost r old.work new → (0 < r.reports → HaveSpare r.reports xs) → HaveSpareFor new.reports.items xs
part-spare r own old new xs begun adds room = by new.reports.items few
  where
    few : length new.reports.items ≤ r.reports
    few = let none : length old.work.reports.items ≡ 0 = ap length begun.reports in omega (arith, adds.reports, new.reports.ok.0, old.work.reports.ok.0)

    by : (rs : List (Pid × Report)) → length rs ≤ r.reports → HaveSpareFor rs xs
    by [] within = tt
    by (q ∷ rs) within = spare-few r.reports (q ∷ rs) xs within (room (omega arith))

-- an event without more packets
pub begun-plain : (r s : Room) (own : ℕ) (event : Event) → s ≡ r → IsBegun (and_ends 0 s) own event → IsBegun r own event
begun-plain r s own event is begun = subst (λ z. IsBegun z own event) is (record {
  packets = begun.packets;
  reports = begun.reports;
  answers = begun.answers;
  steps = begun.steps;
  room = record { packets = omega (arith, begun.room.packets); reports = begun.room.reports; answers = begun.room.answers; steps = begun.room.steps };
  nobody = begun.nobody;
  places = begun.places;
})

-- one with the packets of so many ends
pub begun-ends : (n m : ℕ) (r s : Room) (own : ℕ) (event : Event) → s ≡ r → m ≡ n → IsBegun (and_ends m s) own event → IsBegun (and_ends n r) own event
begun-ends n m r s own event is count begun = subst (λ z. IsBegun (and_ends n z) own event) is (subst (λ k. IsBegun (record s { packets = s.packets + 9 * k }) own event) count begun)
