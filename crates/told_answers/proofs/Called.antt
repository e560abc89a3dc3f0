-- What a call leaves: its caller is as the entry of the call tells, and every other process as it was.
use Rattle.std.proofs.Common.{◌≡◌, ◌⊎◌, inl, inr, ℕ, ◌<◌, ◌≤◌, Bool, true, false, nat_eq, is_some, List, [], ◌∷◌, ◌++◌, map, length, Option, Some, None, refl, sym, ap, subst, ◌∙◌, append-nil, arith, eq-eqb, if◌then◌else◌}
use Rattle.charlotte_calls.specs.Names.{opposite}
use Rattle.charlotte_calls.specs.Program.{FitsCall}
use Rattle.charlotte_calls.specs.declared.calls.Answer.{Answer}
use Rattle.charlotte_calls.specs.declared.calls.Answer.TheVariants as answer
use Rattle.charlotte_calls.specs.declared.calls.Call.{Call}
use Rattle.charlotte_calls.specs.declared.calls.Call.TheVariants as call
use Rattle.charlotte_calls.specs.declared.calls.Cause.{Cause}
use Rattle.charlotte_calls.specs.declared.calls.Report.{Report}
use Rattle.charlotte_calls.specs.declared.calls.ServiceStep.{ServiceStep}
use Rattle.charlotte_calls.specs.declared.calls.ServiceStep.TheVariants as step
use Rattle.charlotte_calls.specs.declared.names.EndId.{EndId}
use Rattle.charlotte_calls.specs.declared.names.Pid.{Pid}
use Rattle.charlotte_calls.specs.declared.names.Way.TheVariants as way
use Rattle.end_table.proofs.EndEq.{end_eq-same}
use Rattle.end_table.specs.Place.{end_eq}
use Rattle.end_table.specs.declared.entry.Entry.{Entry}
use Rattle.kernel_effects.specs.Calls.{act_effect}
use Rattle.kernel_effects.specs.Effect.{Effect}
use Rattle.kernel_outcomes.proofs.Called.{call-gives, call-refused}
use Rattle.kernel_outcomes.specs.Closing.{CallGives, Gives, call_answered, call_told, called, cancelling, cancelling_on, oldest, ran, waited}
use Rattle.kernel_sound.specs.Acts.{made_after}
use Rattle.kernel_sound.specs.Sound.{IsSound}
use Rattle.kernel_step.specs.Calls.{IsCallWith, made_end, refusal}
use Rattle.kernel_step.specs.Kernel.{Kernel, Outcome, Process, call_step, has_report, next_stamp, process_of, without_answer}
use Rattle.kernel_step.specs.declared.phase.Phase.TheVariants.{Running, Waiting, Cancelling, Exited}
use Rattle.kernel_step.specs.declared.phase.Phase.{Phase}
use Rattle.told_answers.proofs.Calls.{IsPrompt, IsUntold, Withdraws, act-calm, act-untold, act-withdraws, call-sound, refusal-fits}
use Rattle.told_answers.proofs.Cancellers.{canceller, canceller-told}
use Rattle.told_answers.proofs.Run.{Goes, AsTold, Stepped, apart-sym, first_in-later, goes-still, none-answered, none-once, one-answered, one-once, other-answered, exited-not_cancelling, exited-not_waiting, running-not_cancelling, running-not_waiting, same-pid, still, waiting-not_cancelling}
use Rattle.told_answers.proofs.Taken.{sound-told}
use Rattle.told_answers.specs.Standing.{StandsAsTold, is_answered}
use Rattle.told_answers.specs.Told.{Answered, Heard, Pending, cancel_in, first_in, granted_told, heard_of, made_in, or_else, own_told, refusal_in, report_in}

-- who is answered by a call's own event
abbrev pub answered_by : Pid → Option Answer → List Pid
answered_by p None = []
answered_by p (Some a) = p ∷ []

-- the call that q makes where p makes c
abbrev pub call_by : Pid → Call → Pid → Option Call
call_by p c q = if nat_eq q.0 p.0 then Some c else None

-- the caller before its call: it runs, and no answer stands
pub record IsCaller (y : Process) : Type 0 where
  pub phase : y.phase ≡ Running
  pub answer : y.answer ≡ None

-- the caller after it, of which its own entry tells this
pub record CallsAs (p : Pid) (c : Call) (z : Process) (o : Outcome) : Type 0 where
  pub tells : Option Answer
  pub own : own_told p c o.steps ≡ tells
  pub stands : StandsAsTold (heard_of c tells) z
  pub answered : o.answered ≡ answered_by p tells
  -- others are told nothing
  pub reports : (q : Pid) → nat_eq q.0 p.0 ≡ false → first_in (report_in q) o.steps ≡ None
  pub cancels : (on : EndId) → first_in (cancel_in on) o.steps ≡ None

-- ---- the state of the caller

-- the steps of a call that is not refused, by the reports that it tells
module _ (p : Pid) (steps : List ServiceStep) (untold : IsUntold steps) where
  pub reported-refusals : (rs : List Report) → first_in refusal_in (steps ++ map (step.Report p) rs) ≡ None
  reported-refusals rs = first_in-later refusal_in steps (map (step.Report p) rs) untold.refusals ∙ by rs
    where
      by : (rs : List Report) → first_in refusal_in (map (step.Report p) rs) ≡ None
      by [] = refl
      by (r ∷ rs) = by rs

  reported-cancels : (on : EndId) (rs : List Report) → first_in (cancel_in on) (steps ++ map (step.Report p) rs) ≡ None
  reported-cancels on rs = first_in-later (cancel_in on) steps (map (step.Report p) rs) (untold.cancels on) ∙ by rs
    where
      by : (rs : List Report) → first_in (cancel_in on) (map (step.Report p) rs) ≡ None
      by [] = refl
      by (r ∷ rs) = by rs

  reported-others : (q : Pid) (rs : List Report) → nat_eq q.0 p.0 ≡ false → first_in (report_in q) (steps ++ map (step.Report p) rs) ≡ None
  reported-others q rs apart = first_in-later (report_in q) steps (map (step.Report p) rs) (untold.reports q) ∙ by rs
    where
      by : (rs : List Report) → first_in (report_in q) (map (step.Report p) rs) ≡ None
      by [] = refl
      by (r ∷ rs) = ap (λ b. or_else (if b then Some (answer.Reported r) else None) (first_in (report_in q) (map (step.Report p) rs))) apart ∙ by rs

  -- a call that is granted, by what its entry tells where it is
  granted-calls : (c : Call) (rs : List Report) (z : Process) (o : Outcome) (tells : Option Answer) → o.steps ≡ steps ++ map (step.Report p) rs → granted_told p c (steps ++ map (step.Report p) rs) ≡ tells
      → StandsAsTold (heard_of c tells) z → o.answered ≡ answered_by p tells → CallsAs p c z o
  granted-calls c rs z o tells is told stands answered =
      record {
        tells = tells;
        own = ap (own_told p c) is ∙ ap (λ a. or_else a (granted_told p c (steps ++ map (step.Report p) rs))) (reported-refusals rs) ∙ told;
        stands = stands;
        answered = answered;
        reports = λ q apart. ap (first_in (report_in q)) is ∙ reported-others q rs apart;
        cancels = λ on. ap (first_in (cancel_in on)) is ∙ reported-cancels on rs;
      }

  -- a Wait, by the reports that stand
  wait-calls : (rs : List Report) (y z : Process) (o : Outcome) → IsCaller y → z ≡ waited y rs → o.steps ≡ steps ++ map (step.Report p) (oldest rs) → o.answered ≡ map (λ _. p) (oldest rs) → CallsAs p call.Wait z o
  wait-calls [] y z o caller is meant answered =
      granted-calls call.Wait [] z o None meant (first_in-later (report_in p) steps [] (untold.reports p))
      (subst (StandsAsTold (Pending call.Wait)) (sym is) (record { answer = caller.answer; fits = tt; phase = refl })) answered
  wait-calls (r ∷ rs) y z o caller is meant answered =
      granted-calls call.Wait (r ∷ []) z o (Some (answer.Reported r)) meant
      (first_in-later (report_in p) steps (step.Report p r ∷ []) (untold.reports p) ∙ ap (λ b. or_else (if b then Some (answer.Reported r) else None) None) (eq-eqb p.0 p.0 refl))
      (subst (StandsAsTold (Answered call.Wait (answer.Reported r))) (sym is) (record { answer = refl; fits = refl; phase = refl })) answered

module _ (n : ℕ) (s : Kernel) (p : Pid) (mine : List EndId) (sound : IsSound s.number s.made n s.table) (caller : IsCaller (s.process p.0)) (calm : (e : EndId) → canceller (s.table e) ≡ Some p → ⊥) where
  abbrev y : Process
  y = s.process p.0

  -- a call that is granted
  granted : (c : Call) (z : Process) (o : Outcome) (reported : Bool) → refusal p s.table s.made mine reported c ≡ None → z ≡ called s.number s.made s.table p c y
      → o.steps ≡ (act_effect p s.number s.made mine s.table c).steps ++ map (step.Report p) (call_told c y.reports) → o.answered ≡ call_answered p c y.reports → CallsAs p c z o
  granted call.Make z o reported none is meant answered =
      let a = made_end s.number s.made in
      granted-calls p (act_effect p s.number s.made mine s.table call.Make).steps (act-untold p s.number s.made mine s.table call.Make) call.Make [] z o (Some (answer.Made a (opposite a))) meant refl
      (subst (StandsAsTold (Answered call.Make (answer.Made a (opposite a)))) (sym is) (record { answer = refl; fits = refl; phase = refl })) answered
  granted (call.Destroy on) z o reported none is meant answered =
      let c = call.Destroy on in
      granted-calls p (act_effect p s.number s.made mine s.table c).steps (act-untold p s.number s.made mine s.table c) c [] z o (Some answer.Ok) meant refl
      (subst (StandsAsTold (Answered c answer.Ok)) (sym is) (record { answer = refl; fits = refl; phase = refl })) answered
  granted (call.Send on bytes xs) z o reported none is meant answered =
      let c = call.Send on bytes xs in
      granted-calls p (act_effect p s.number s.made mine s.table c).steps (act-untold p s.number s.made mine s.table c) c [] z o (Some answer.Ok) meant refl
      (subst (StandsAsTold (Answered c answer.Ok)) (sym is) (record { answer = refl; fits = refl; phase = refl })) answered
  granted (call.Receive on) z o reported none is meant answered =
      let c = call.Receive on in
      granted-calls p (act_effect p s.number s.made mine s.table c).steps (act-untold p s.number s.made mine s.table c) c [] z o (Some answer.Ok) meant refl
      (subst (StandsAsTold (Answered c answer.Ok)) (sym is) (record { answer = refl; fits = refl; phase = refl })) answered
  granted (call.Cancel on way.Outward) z o reported none is meant answered =
      let c = call.Cancel on way.Outward in
      granted-calls p (act_effect p s.number s.made mine s.table c).steps (act-untold p s.number s.made mine s.table c) c [] z o (Some answer.Ok) meant refl
      (subst (StandsAsTold (Answered c answer.Ok)) (sym is) (record { answer = refl; fits = refl; phase = refl })) answered
  granted (call.Cancel on way.Inward) z o reported none is meant answered =
      let c = call.Cancel on way.Inward in
      let w = act-withdraws s.number s.made n s.table sound p calm mine reported on none in
      let now : z ≡ record y { phase = Cancelling on } =
      is ∙ ap (cancelling_on y) w.view ∙ ap (cancelling y w.v) w.posted ∙ ap (λ e. record y { phase = Cancelling e }) w.end in
      granted-calls p (act_effect p s.number s.made mine s.table c).steps (act-untold p s.number s.made mine s.table c) c [] z o None meant refl
      (subst (StandsAsTold (Pending c)) (sym now) (record { answer = caller.answer; fits = tt; phase = refl })) answered
  granted call.Wait z o reported none is meant answered =
      wait-calls p (step.Wait p ∷ []) (act-untold p s.number s.made mine s.table call.Wait) y.reports y z o caller is meant answered
  granted (call.Print bytes) z o reported none is meant answered =
      let c = call.Print bytes in
      granted-calls p (act_effect p s.number s.made mine s.table c).steps (act-untold p s.number s.made mine s.table c) c [] z o (Some answer.Ok) meant refl
      (subst (StandsAsTold (Answered c answer.Ok)) (sym is) (record { answer = refl; fits = refl; phase = refl })) answered
  granted call.Exit z o reported none is meant answered =
      granted-calls p (step.Exit p ∷ []) (act-untold p s.number s.made mine s.table call.Exit) call.Exit [] z o (Some answer.Ok) meant refl
      (subst (StandsAsTold (Answered call.Exit answer.Ok)) (sym is) (record { answer = refl; fits = refl; phase = refl })) answered

  -- one that is refused
  refused : (c : Call) (a : Cause) (z : Process) (o : Outcome) (reported : Bool) → refusal p s.table s.made mine reported c ≡ Some a → z ≡ ran y (answer.Refused a) → o.steps ≡ step.Refuse p c a ∷ [] → o.answered ≡ p ∷ [] → CallsAs p c z o
  refused c a z o reported is after meant answered =
      record {
        tells = Some (answer.Refused a);
        own = ap (own_told p c) meant;
        stands = subst (StandsAsTold (Answered c (answer.Refused a))) (sym after) (stands c (refusal-fits p s.table s.made mine reported c a is) is);
        answered = answered;
        reports = λ q apart. ap (first_in (report_in q)) meant;
        cancels = λ on. ap (first_in (cancel_in on)) meant;
      }
    where
      stands : (c : Call) → FitsCall c (answer.Refused a) → refusal p s.table s.made mine reported c ≡ Some a → StandsAsTold (Answered c (answer.Refused a)) (ran y (answer.Refused a))
      stands call.Make fits is = record { answer = refl; fits = fits; phase = refl }
      stands (call.Destroy on) fits is = record { answer = refl; fits = fits; phase = refl }
      stands (call.Send on bytes xs) fits is = record { answer = refl; fits = fits; phase = refl }
      stands (call.Receive on) fits is = record { answer = refl; fits = fits; phase = refl }
      stands (call.Cancel on w) fits is = record { answer = refl; fits = fits; phase = refl }
      stands call.Wait fits is = record { answer = refl; fits = fits; phase = refl }
      stands (call.Print bytes) fits is = record { answer = refl; fits = fits; phase = refl }
      stands call.Exit fits is = let no : false ≡ true = fits in absurd cc

-- every call is prompt but a Cancel of a receive
prompt-or-cancel : (c : Call) → IsPrompt c ⊎ ((on : EndId) × (c ≡ call.Cancel on way.Inward))
prompt-or-cancel call.Make = inl tt
prompt-or-cancel (call.Destroy on) = inl tt
prompt-or-cancel (call.Send on bytes xs) = inl tt
prompt-or-cancel (call.Receive on) = inl tt
prompt-or-cancel (call.Cancel on way.Outward) = inl tt
prompt-or-cancel (call.Cancel on way.Inward) = inr (on, refl)
prompt-or-cancel call.Wait = inl tt
prompt-or-cancel (call.Print bytes) = inl tt
prompt-or-cancel call.Exit = inl tt

-- and leaves its caller in no Cancel
waited-phase : (y : Process) (rs : List Report) (e : EndId) → (waited y rs).phase ≡ Cancelling e → ⊥
waited-phase y [] e at = waiting-not_cancelling Waiting e refl at
waited-phase y (r ∷ rs) e at = running-not_cancelling Running e refl at

called-phase : (k made : ℕ) (t : EndId → Entry) (p : Pid) (c : Call) (y : Process) → IsPrompt c → (e : EndId) → (called k made t p c y).phase ≡ Cancelling e → ⊥
called-phase k made t p call.Make y prompt e at = running-not_cancelling Running e refl at
called-phase k made t p (call.Destroy on) y prompt e at = running-not_cancelling Running e refl at
called-phase k made t p (call.Send on bytes xs) y prompt e at = running-not_cancelling Running e refl at
called-phase k made t p (call.Receive on) y prompt e at = running-not_cancelling Running e refl at
called-phase k made t p (call.Cancel on way.Outward) y prompt e at = running-not_cancelling Running e refl at
called-phase k made t p (call.Cancel on way.Inward) y prompt e at = absurd prompt
called-phase k made t p call.Wait y prompt e at = waited-phase y y.reports e at
called-phase k made t p (call.Print bytes) y prompt e at = running-not_cancelling Running e refl at
called-phase k made t p call.Exit y prompt e at = exited-not_cancelling Exited e refl at

-- a caller that waits has no report
waited-rests : (y : Process) (rs : List Report) → y.reports ≡ rs → (waited y rs).phase ≡ Waiting → (waited y rs).reports ≡ []
waited-rests y [] none at = none
waited-rests y (r ∷ rs) some at = absurd (running-not_waiting Running refl at)

called-rests : (k made : ℕ) (t : EndId → Entry) (p : Pid) (c : Call) (y : Process) → IsPrompt c → (called k made t p c y).phase ≡ Waiting → (called k made t p c y).reports ≡ []
called-rests k made t p call.Make y prompt at = absurd (running-not_waiting Running refl at)
called-rests k made t p (call.Destroy on) y prompt at = absurd (running-not_waiting Running refl at)
called-rests k made t p (call.Send on bytes xs) y prompt at = absurd (running-not_waiting Running refl at)
called-rests k made t p (call.Receive on) y prompt at = absurd (running-not_waiting Running refl at)
called-rests k made t p (call.Cancel on way.Outward) y prompt at = absurd (running-not_waiting Running refl at)
called-rests k made t p (call.Cancel on way.Inward) y prompt at = absurd prompt
called-rests k made t p call.Wait y prompt at = waited-rests y y.reports refl at
called-rests k made t p (call.Print bytes) y prompt at = absurd (running-not_waiting Running refl at)
called-rests k made t p call.Exit y prompt at = absurd (exited-not_waiting Exited refl at)

-- ---- the kernel

module _ (n : ℕ) (h : Pid → Heard) (x : Kernel) (inv : AsTold n h x) (p : Pid) (c : Call) (mine : List EndId) (below : p.0 < n) (running : (process_of p x).phase ≡ Running) (ends : IsCallWith p x.table mine c) where
  abbrev s : Kernel
  s = without_answer p x

  abbrev o : Outcome
  o = call_step s p mine c

  own : s.process p.0 ≡ record (process_of p x) { answer = None }
  own = ap (λ b. if b then record (process_of p x) { answer = None } else x.process p.0) (eq-eqb p.0 p.0 refl)

  caller : IsCaller (s.process p.0)
  caller = record { phase = ap (λ (z : Process). z.phase) own ∙ running; answer = ap (λ (z : Process). z.answer) own }

  calm : (e : EndId) → canceller (x.table e) ≡ Some p → ⊥
  calm e at = running-not_cancelling (process_of p x).phase e running (inv.cancelling p e at)

  -- a process that does not call
  other-stays : (z : Process) → ((q : ℕ) → o.kernel.process q ≡ (if nat_eq p.0 q then z else s.process q)) → (q : Pid) → nat_eq p.0 q.0 ≡ false → process_of q o.kernel ≡ process_of q x
  other-stays z each q apart =
      each q.0 ∙ ap (λ b. if b then z else s.process q.0) apart ∙ ap (λ b. if b then record (process_of p x) { answer = None } else x.process q.0) apart

  at-p : (z : Process) → ((q : ℕ) → o.kernel.process q ≡ (if nat_eq p.0 q then z else s.process q)) → process_of p o.kernel ≡ z
  at-p z each = each p.0 ∙ ap (λ b. if b then z else s.process p.0) (eq-eqb p.0 p.0 refl)

  -- each process after it
  goes : (z : Process) → ((q : ℕ) → o.kernel.process q ≡ (if nat_eq p.0 q then z else s.process q)) → CallsAs p c z o → (q : Pid) → Goes q (h q) (call_by p c q) o.steps (process_of q o.kernel) (is_answered q o)
  goes z each calls q = by (nat_eq p.0 q.0) refl
    where
      mine_goes : (tells : Option Answer) → own_told p c o.steps ≡ tells → StandsAsTold (heard_of c tells) z → o.answered ≡ answered_by p tells → Goes p (h p) (Some c) o.steps (process_of p o.kernel) (is_answered p o)
      mine_goes None told stands answered =
          record { stands = subst (λ a. StandsAsTold (heard_of c a) (process_of p o.kernel)) (sym told) (subst (StandsAsTold (heard_of c None)) (sym (at-p z each)) stands); who = none-answered p o answered ∙ ap is_some (sym told) }
      mine_goes (Some a) told stands answered =
          record { stands = subst (λ b. StandsAsTold (heard_of c b) (process_of p o.kernel)) (sym told) (subst (StandsAsTold (heard_of c (Some a))) (sym (at-p z each)) stands); who = one-answered p o answered ∙ ap is_some (sym told) }

      not_answered : (tells : Option Answer) → o.answered ≡ answered_by p tells → nat_eq p.0 q.0 ≡ false → is_answered q o ≡ false
      not_answered None answered apart = none-answered q o answered
      not_answered (Some a) answered apart = other-answered p q o answered apart

      by : (b : Bool) → nat_eq p.0 q.0 ≡ b → Goes q (h q) (call_by p c q) o.steps (process_of q o.kernel) (is_answered q o)
      by true same =
          subst (λ z. Goes z (h z) (call_by p c z) o.steps (process_of z o.kernel) (is_answered z o)) (same-pid p q same)
          (subst (λ w. Goes p (h p) w o.steps (process_of p o.kernel) (is_answered p o)) (sym (ap (λ b. if b then Some c else None) (eq-eqb p.0 p.0 refl))) (mine_goes calls.tells calls.own calls.stands calls.answered))
      by false apart =
          let stay = other-stays z each q apart in
          let differ = apart-sym p.0 q.0 apart in
          subst (λ w. Goes q (h q) w o.steps (process_of q o.kernel) (is_answered q o)) (sym (ap (λ b. if b then Some c else None) differ))
          (goes-still q (h q) o.steps (process_of q x) (process_of q o.kernel) (is_answered q o) (inv.told q) (ap (λ (z : Process). z.answer) stay) (ap (λ (z : Process). z.phase) stay) (not_answered calls.tells calls.answered apart)
          (calls.reports q differ) (λ on cancels. calls.cancels on))

  once : (z : Process) → CallsAs p c z o → length o.answered ≤ 1
  once z calls = by calls.tells calls.answered
    where
      by : (tells : Option Answer) → o.answered ≡ answered_by p tells → length o.answered ≤ 1
      by None answered = none-once o answered
      by (Some a) answered = one-once p o answered

  -- the caller is in no Cancel before it; where it is in none afterwards, the same processes are
  phases : (z : Process) → ((q : ℕ) → o.kernel.process q ≡ (if nat_eq p.0 q then z else s.process q)) → ((e : EndId) → z.phase ≡ Cancelling e → ⊥)
      → (q : Pid) (e : EndId) → ((process_of q o.kernel).phase ≡ Cancelling e → (process_of q x).phase ≡ Cancelling e) × ((process_of q x).phase ≡ Cancelling e → (process_of q o.kernel).phase ≡ Cancelling e)
  phases z each not q e = by (nat_eq p.0 q.0) refl
    where
      by : (b : Bool) → nat_eq p.0 q.0 ≡ b → ((process_of q o.kernel).phase ≡ Cancelling e → (process_of q x).phase ≡ Cancelling e) × ((process_of q x).phase ≡ Cancelling e → (process_of q o.kernel).phase ≡ Cancelling e)
      by true same =
          subst (λ u. ((process_of u o.kernel).phase ≡ Cancelling e → (process_of u x).phase ≡ Cancelling e) × ((process_of u x).phase ≡ Cancelling e → (process_of u o.kernel).phase ≡ Cancelling e)) (same-pid p q same)
          (λ a. absurd (not e (sym (ap (λ (u : Process). u.phase) (at-p z each)) ∙ a)), λ a. absurd (running-not_cancelling _ e running a))
      by false apart = let stay = other-stays z each q apart in (λ a. sym (ap (λ (u : Process). u.phase) stay) ∙ a, λ a. ap (λ (u : Process). u.phase) stay ∙ a)

  -- a process that waits has no report
  rests : (z : Process) → ((q : ℕ) → o.kernel.process q ≡ (if nat_eq p.0 q then z else s.process q)) → (z.phase ≡ Waiting → z.reports ≡ []) → (q : Pid) → (process_of q o.kernel).phase ≡ Waiting → (process_of q o.kernel).reports ≡ []
  rests z each own_rests q waits = by (nat_eq p.0 q.0) refl
    where
      by : (b : Bool) → nat_eq p.0 q.0 ≡ b → (process_of q o.kernel).reports ≡ []
      by true same =
          let at : process_of q o.kernel ≡ z = subst (λ u. process_of u o.kernel ≡ z) (same-pid p q same) (at-p z each) in
          ap (λ (u : Process). u.reports) at ∙ own_rests (sym (ap (λ (u : Process). u.phase) at) ∙ waits)
      by false apart = let stay = other-stays z each q apart in ap (λ (u : Process). u.reports) stay ∙ inv.rests q (sym (ap (λ (u : Process). u.phase) stay) ∙ waits)

  refused-stepped : (a : Cause) → refusal p s.table s.made mine (has_report (process_of p s)) c ≡ Some a → Stepped n h (call_by p c) o
  refused-stepped a is =
      let g = call-refused s p mine c a is in
      let z : Process = ran (s.process p.0) (answer.Refused a) in
      let calls = refused n s p mine inv.sound caller calm c a z o (has_report (process_of p s)) is refl g.steps g.answered in
      still n h x inv (call_by p c) o
      (subst (λ k. IsSound k o.kernel.made n o.kernel.table) (sym g.number) (subst (λ m. IsSound x.number m n o.kernel.table) (sym g.made) (subst (IsSound x.number x.made n) (λ i q. sym (g.table q) i) inv.sound)))
      (λ q. ap canceller (g.table q)) (phases z g.process (λ e at. running-not_cancelling Running e refl at)) (rests z g.process (λ at. absurd (running-not_waiting Running refl at))) (goes z g.process calls) (once z calls)

  -- what a granted call leaves of the table
  module _ (none : refusal p s.table s.made mine (has_report (process_of p s)) c ≡ None) where
    g : CallGives s p mine c o
    g = call-gives n s p mine inv.sound c none ends

    abbrev z : Process
    z = called s.number s.made s.table p c (s.process p.0)

    calls : CallsAs p c z o
    calls = granted n s p mine inv.sound caller calm c z o (has_report (process_of p s)) none refl g.steps g.answered

    after-sound : IsSound o.kernel.number o.kernel.made n o.kernel.table
    after-sound =
        subst (λ k. IsSound k o.kernel.made n o.kernel.table) (sym g.number)
        (subst (λ m. IsSound x.number m n o.kernel.table) (sym g.made)
        (sound-told x.number (made_after c x.made) n (call_told c (s.process p.0).reports) (λ q. (act_effect p x.number x.made mine x.table c).entry q (x.table q)) o.kernel.table
        (call-sound x.number x.made n x.table p mine (has_report (process_of p s)) c inv.sound below none ends) g.table))

    cancellers-at : (q : EndId) → canceller (o.kernel.table q) ≡ canceller ((act_effect p x.number x.made mine x.table c).entry q (x.table q))
    cancellers-at q = ap canceller (g.table q) ∙ canceller-told (call_told c (s.process p.0).reports) q _

    prompt-stepped : IsPrompt c → ((e : EndId) → z.phase ≡ Cancelling e → ⊥) → (z.phase ≡ Waiting → z.reports ≡ []) → Stepped n h (call_by p c) o
    prompt-stepped prompt not own_rests =
        still n h x inv (call_by p c) o after-sound (λ q. cancellers-at q ∙ act-calm x.number x.made n x.table inv.sound p calm mine (has_report (process_of p s)) c prompt none ends q)
        (phases z g.process not) (rests z g.process own_rests) (goes z g.process calls) (once z calls)

    -- a Cancel of a receive waits from then on
    withdrawn-stepped : (on : EndId) → c ≡ call.Cancel on way.Inward → Stepped n h (call_by p c) o
    withdrawn-stepped on is =
        record {
          inv =
              record {
                sound = after-sound;
                told = λ q. (goes z g.process calls q).stands;
                cancelling = cancelling_after;
                withdrawing = withdrawing_after;
                rests = rests z g.process (λ at. absurd (waiting-not_cancelling z.phase on at (sym (ap (λ (u : Process). u.phase) (at-p z g.process)) ∙ begun)));
              };
          who = λ q. (goes z g.process calls q).who;
          once = once z calls;
        }
      where
        w : Withdraws x.number x.made n x.table inv.sound p calm on (act_effect p x.number x.made mine x.table c)
        w = subst (λ d. Withdraws x.number x.made n x.table inv.sound p calm on (act_effect p x.number x.made mine x.table d)) (sym is)
            (act-withdraws x.number x.made n x.table inv.sound p calm mine (has_report (process_of p s)) on (subst (λ d. refusal p s.table s.made mine (has_report (process_of p s)) d ≡ None) is none))

        begun : (process_of p o.kernel).phase ≡ Cancelling on
        begun =
            ap (λ (u : Process). u.phase) (at-p z g.process) ∙ ap (λ d. (called s.number s.made s.table p d (s.process p.0)).phase) is
            ∙ ap (λ v. (cancelling_on (s.process p.0) v).phase) w.view ∙ ap (λ i. (cancelling (s.process p.0) w.v i).phase) w.posted ∙ ap Cancelling w.end

        cancelling_after : (q : Pid) (e : EndId) → canceller (o.kernel.table e) ≡ Some q → (process_of q o.kernel).phase ≡ Cancelling e
        cancelling_after q e at = by (end_eq on e) refl
          where
            by : (b : Bool) → end_eq on e ≡ b → (process_of q o.kernel).phase ≡ Cancelling e
            by true same =
                let e_is : on ≡ e = end_eq-same on e same in
                let both : Some p ≡ Some q = sym (cancellers-at on ∙ w.after) ∙ ap (λ u. canceller (o.kernel.table u)) e_is ∙ at in
                let who : p ≡ q = cc in
                subst (λ u. (process_of u o.kernel).phase ≡ Cancelling e) who (begun ∙ ap Cancelling e_is)
            by false apart = ap (λ (u : Process). u.phase) (other-stays z g.process q (other (nat_eq p.0 q.0) refl)) ∙ before
              where
                before : (process_of q x).phase ≡ Cancelling e
                before = inv.cancelling q e (sym (cancellers-at e ∙ w.others e apart) ∙ at)

                other : (b : Bool) → nat_eq p.0 q.0 ≡ b → nat_eq p.0 q.0 ≡ false
                other false differ = differ
                other true same = absurd (running-not_cancelling _ e (subst (λ u. (process_of u x).phase ≡ Running) (same-pid p q same) running) before)

        withdrawing_after : (q : Pid) (e : EndId) → (process_of q o.kernel).phase ≡ Cancelling e → canceller (o.kernel.table e) ≡ Some q
        withdrawing_after q e at = by (nat_eq p.0 q.0) refl
          where
            by : (b : Bool) → nat_eq p.0 q.0 ≡ b → canceller (o.kernel.table e) ≡ Some q
            by true same =
                let who : p ≡ q = same-pid p q same in
                let both : Cancelling on ≡ Cancelling e = sym begun ∙ ap (λ u. (process_of u o.kernel).phase) who ∙ at in
                let e_is : on ≡ e = cc in
                ap (λ u. canceller (o.kernel.table u)) (sym e_is) ∙ cancellers-at on ∙ w.after ∙ ap Some who
            by false apart = cancellers-at e ∙ w.others e (other (end_eq on e) refl) ∙ before
              where
                before : canceller (x.table e) ≡ Some q
                before = inv.withdrawing q e (sym (ap (λ (u : Process). u.phase) (other-stays z g.process q apart)) ∙ at)

                other : (b : Bool) → end_eq on e ≡ b → end_eq on e ≡ false
                other false differ = differ
                other true same =
                    let no : None ≡ Some q = sym w.before ∙ ap (λ u. canceller (x.table u)) (end_eq-same on e same) ∙ before in
                    absurd cc

    granted-stepped : IsPrompt c ⊎ ((on : EndId) × (c ≡ call.Cancel on way.Inward)) → Stepped n h (call_by p c) o
    granted-stepped (inl prompt) = prompt-stepped prompt (λ e at. called-phase s.number s.made s.table p c (s.process p.0) prompt e at) (called-rests s.number s.made s.table p c (s.process p.0) prompt)
    granted-stepped (inr at) = withdrawn-stepped at.0 at.1

  pub call-stepped : Stepped n h (call_by p c) o
  call-stepped = by (refusal p s.table s.made mine (has_report (process_of p s)) c) refl
    where
      by : (r : Option Cause) → refusal p s.table s.made mine (has_report (process_of p s)) c ≡ r → Stepped n h (call_by p c) o
      by None none = granted-stepped none (prompt-or-cancel c)
      by (Some a) is = refused-stepped a is
