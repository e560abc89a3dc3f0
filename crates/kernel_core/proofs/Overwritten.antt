-- A standing answer that goes before a call may as well go after it, where the call brought none.
use Rattle.std.proofs.Common.{◌≡◌, ◌≢◌, ◌⊎◌, inl, inr, ℕ, Bool, true, false, nat_eq, List, [], ◌∷◌, ◌++◌, Option, Some, None, if◌then◌else◌, refl, sym, ap, ◌∙◌}
use Rattle.std.proofs.lemmas.Bool.Decides.{eqb_tells}
use Rattle.charlotte_calls.specs.declared.calls.Answer.{Answer}
use Rattle.charlotte_calls.specs.declared.calls.Answer.TheVariants as answer
use Rattle.charlotte_calls.specs.declared.calls.Call.{Call}
use Rattle.charlotte_calls.specs.declared.calls.Call.TheVariants as call
use Rattle.charlotte_calls.specs.declared.calls.Cause.{Cause}
use Rattle.charlotte_calls.specs.declared.calls.Report.{Report}
use Rattle.charlotte_calls.specs.declared.calls.ServiceStep.{ServiceStep}
use Rattle.charlotte_calls.specs.declared.calls.ServiceStep.TheVariants as step
use Rattle.charlotte_calls.specs.declared.names.EndId.{EndId}
use Rattle.charlotte_calls.specs.declared.names.Pid.{Pid}
use Rattle.charlotte_calls.specs.declared.names.Way.TheVariants as way
use Rattle.charlotte_packets.specs.declared.picture.Picture.{Picture}
use Rattle.charlotte_packets.specs.declared.work.Effect.{Effect}
use Rattle.end_table.specs.Owned.{owned}
use Rattle.end_table.specs.Place.{put}
use Rattle.end_table.specs.declared.entry.HereView.{HereView}
use Rattle.end_table.specs.declared.entry.Inward.{Inward}
use Rattle.end_table.specs.declared.entry.Inward.TheVariants as inward
use Rattle.kernel_core.proofs.Performs.{acts-answers, acts-reports, call-acts, call-refused, closes-none}
use Rattle.kernel_core.specs.Finishing.{finishes, turned, turned_by, turned_on}
use Rattle.kernel_core.specs.State.{ended, unanswered}
use Rattle.kernel_sound.specs.Acts.{acts, made_after}
use Rattle.kernel_step.specs.Calls.{refusal}
use Rattle.kernel_step.specs.Kernel.{Kernel, Outcome, Process, answers_wait, begins, call_step, closes, has_report, next_stamp, process_of, reported_entry, stands, waits, with_process, without_answer}
use Rattle.kernel_step.specs.Progress.{Progress, means}
use Rattle.kernel_step.specs.declared.phase.Phase.TheVariants.{Running, Waiting, Cancelling}

same-number : (n : ℕ) → nat_eq n n ≡ true
same-number n = by (eqb_tells n n)
  where
    by : ((nat_eq n n ≡ true) × (n ≡ n)) ⊎ ((nat_eq n n ≡ false) × (n ≢ n)) → nat_eq n n ≡ true
    by (inl t) = t.0
    by (inr t) = absurd (t.1 refl)

choose : (b : Bool) (x y z : Process) → (if b then x else (if b then y else z)) ≡ (if b then x else z)
choose true x y z = refl
choose false x y z = refl

module _ (p : Pid) where
  -- the later state of a process counts
  over : (x y : Process) (k : Kernel) → with_process p x (with_process p y k) ≡ with_process p x k
  over x y k = λ i. record k { process = λ q. choose (nat_eq p.0 q) x y (k.process q) i }

  read : (y : Process) (k : Kernel) → process_of p (with_process p y k) ≡ y
  read y k = ap (λ (b : Bool). if b then y else k.process p.0) (same-number p.0)

  abbrev bare : Process → Process
  bare x = record x { answer = None }

  -- what changes the other parts of a process
  swap : (f : Process → Process) → ((x : Process) → f (bare x) ≡ bare (f x)) → (k : Kernel)
      → with_process p (f (process_of p (without_answer p k))) (without_answer p k) ≡ without_answer p (with_process p (f (process_of p k)) k)
  swap f law k =
      ap (λ (x : Process). with_process p (f x) (without_answer p k)) (read (bare (process_of p k)) k)
      ∙ over (f (bare (process_of p k))) (bare (process_of p k)) k
      ∙ ap (λ (x : Process). with_process p x k) (law (process_of p k))
      ∙ sym (ap (λ (x : Process). with_process p (bare x) (with_process p (f (process_of p k)) k)) (read (f (process_of p k)) k)
      ∙ over (bare (f (process_of p k))) (f (process_of p k)) k)

  -- an event that gave no answer yet
  abbrev plain : Kernel → List (ℕ × Picture) → List ServiceStep → Outcome
  plain k sent steps = record { kernel = k; packets = sent; answered = []; steps = steps }

  abbrev settles : Outcome → Outcome
  settles o = record o { kernel = unanswered p o.answered o.kernel }

  stands-over : (a : Answer) (k : Kernel) (sent : List (ℕ × Picture)) (steps : List ServiceStep) → stands p a (plain (without_answer p k) sent steps) ≡ stands p a (plain k sent steps)
  stands-over a k sent steps =
      ap (λ (z : Kernel). record { kernel = z; packets = sent; answered = p ∷ []; steps = steps })
      (ap (λ (x : Process). with_process p (record x { phase = Running; answer = Some a }) (without_answer p k)) (read (bare (process_of p k)) k)
      ∙ over (record (process_of p k) { phase = Running; answer = Some a }) (bare (process_of p k)) k)

  waits-over : (rs : List Report) (k : Kernel) (sent : List (ℕ × Picture)) (steps : List ServiceStep) → waits p rs (plain (without_answer p k) sent steps) ≡ settles (waits p rs (plain k sent steps))
  unfolding answers_wait
  waits-over [] k sent steps = ap (λ (z : Kernel). plain z sent steps) (swap (λ x. record x { phase = Waiting }) (λ x. refl) k)
  waits-over (r ∷ rs) k sent steps =
      let told : Kernel = record k { table = put k.table r.on (reported_entry r.way (k.table r.on)) } in
      ap (λ (z : Kernel). stands p (answer.Reported r) (plain z sent (steps ++ step.Report p r ∷ []))) (swap (λ x. record x { reports = rs }) (λ x. refl) told)
      ∙ stands-over (answer.Reported r) (with_process p (record (process_of p k) { reports = rs }) told) sent (steps ++ step.Report p r ∷ [])

  finishes-over : (c : Call) (n made : ℕ) (k : Kernel) (sent : List (ℕ × Picture)) (steps : List ServiceStep)
      → finishes p n made c (plain (without_answer p k) sent steps) ≡ settles (finishes p n made c (plain k sent steps))
  unfolding finishes
  finishes-over call.Make n made k sent steps = stands-over _ k sent steps
  finishes-over (call.Destroy on) n made k sent steps = stands-over answer.Ok k sent steps
  finishes-over (call.Send on bytes xs) n made k sent steps = stands-over answer.Ok k sent steps
  finishes-over (call.Receive on) n made k sent steps = stands-over answer.Ok k sent steps
  finishes-over (call.Cancel on way.Outward) n made k sent steps = stands-over answer.Ok k sent steps
  finishes-over (call.Cancel on way.Inward) n made k sent steps = refl
  finishes-over call.Wait n made k sent steps =
      ap (λ (x : Process). waits p x.reports (plain (without_answer p k) sent steps)) (read (bare (process_of p k)) k)
      ∙ waits-over (process_of p k).reports k sent steps
  finishes-over (call.Print bytes) n made k sent steps = stands-over answer.Ok k sent steps
  finishes-over call.Exit n made k sent steps =
      ap (λ (z : Kernel). record { kernel = z; packets = sent; answered = p ∷ []; steps = steps }) (over _ (bare (process_of p k)) k)

  turned_by-over : (v : HereView) (i : Inward) (s : Kernel) → turned_by p v i (without_answer p s) ≡ without_answer p (turned_by p v i s)
  turned_by-over v inward.Idle s = refl
  turned_by-over v (inward.Posted w) s = swap (λ x. record x { phase = Cancelling v.value.end }) (λ x. refl) s
  turned_by-over v (inward.Withdrawing w) s = refl
  turned_by-over v inward.Unreported s = refl

  turned_on-over : (o : Option HereView) (s : Kernel) → turned_on p o (without_answer p s) ≡ without_answer p (turned_on p o s)
  turned_on-over None s = refl
  turned_on-over (Some v) s = turned_by-over v v.inward s

  turned-over : (c : Call) (s : Kernel) → turned p c (without_answer p s) ≡ without_answer p (turned p c s)
  unfolding turned
  turned-over call.Make s = refl
  turned-over (call.Destroy on) s = refl
  turned-over (call.Send on bytes xs) s = refl
  turned-over (call.Receive on) s = refl
  turned-over (call.Cancel on way.Outward) s = refl
  turned-over (call.Cancel on way.Inward) s = turned_on-over (owned p (s.table on)) s
  turned-over call.Wait s = refl
  turned-over (call.Print bytes) s = refl
  turned-over call.Exit s = refl

  module _ (s : Kernel) (mine : List EndId) (c : Call) where
    refused-same : refusal p s.table s.made mine (has_report (process_of p (without_answer p s))) c ≡ refusal p s.table s.made mine (has_report (process_of p s)) c
    refused-same = ap (λ (x : Process). refusal p s.table s.made mine (has_report x) c) (read (bare (process_of p s)) s)

    by-refusal : (o : Option Cause) → refusal p s.table s.made mine (has_report (process_of p s)) c ≡ o → call_step (without_answer p s) p mine c ≡ settles (call_step s p mine c)
    unfolding means
    by-refusal (Some cause) refused =
        let d : Progress = means (step.Refuse p c cause) (begins s (next_stamp s.stamp)) in
        call-refused p (without_answer p s) mine c cause (refused-same ∙ refused)
        ∙ ap (stands p (answer.Refused cause)) (closes-none (without_answer p s) d refl refl)
        ∙ stands-over (answer.Refused cause) (record s { table = d.table; stamp = d.stamp }) d.packets d.steps
        ∙ ap settles (sym (call-refused p s mine c cause refused ∙ ap (stands p (answer.Refused cause)) (closes-none s d refl refl)))
    by-refusal None granted =
        let d : Progress = acts p s.number s.made mine c (begins s (next_stamp s.stamp)) in
        let reports : d.reports ≡ [] = acts-reports p s.number s.made mine c (begins s (next_stamp s.stamp)) in
        let answers : d.answers ≡ [] = acts-answers p s.number s.made mine c (begins s (next_stamp s.stamp)) in
        let made : ℕ = made_after c s.made in
        call-acts p (without_answer p s) mine c (refused-same ∙ granted)
        ∙ ap (λ (z : Kernel). finishes p s.number s.made c (closes (record z { made = made }) d)) (turned-over c s)
        ∙ ap (finishes p s.number s.made c) (closes-none (record (without_answer p (turned p c s)) { made = made }) d reports answers)
        ∙ finishes-over c s.number s.made (record (turned p c s) { made = made; table = d.table; stamp = d.stamp }) d.packets d.steps
        ∙ ap settles (sym (call-acts p s mine c granted ∙ ap (finishes p s.number s.made c) (closes-none (record (turned p c s) { made = made }) d reports answers)))

    pub call-over : call_step (without_answer p s) p mine c ≡ settles (call_step s p mine c)
    call-over = by-refusal (refusal p s.table s.made mine (has_report (process_of p s)) c) refl

    -- by what an effect tells
    pub asked-over : (mid new : Kernel) (effect : Effect) → ended mid effect ≡ call_step s p mine c → new ≡ unanswered p effect.answered.items mid → ended new effect ≡ call_step (without_answer p s) p mine c
    unfolding ended
    asked-over mid new effect stepped left = ap (λ (k : Kernel). ended k effect) left ∙ ap settles stepped ∙ sym call-over
