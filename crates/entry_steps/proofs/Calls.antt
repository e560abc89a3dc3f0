-- The steps of a call: its refusal, or its own step and what comes of it.
use Rattle.std.proofs.Common.{◌≡◌, ℕ, Bool, true, false, true≢false, nat_eq, not, inl, inr, List, [], ◌∷◌, ◌++◌, map, Option, Some, None, refl, sym, ap, subst, ◌∙◌, if◌then◌else◌}
use Rattle.charlotte_calls.proofs.Causes.{first_of-none}
use Rattle.charlotte_calls.specs.Causes.{cancel_causes, destroy_causes, receive_causes, send_causes}
use Rattle.charlotte_calls.specs.Names.{opposite}
use Rattle.charlotte_calls.specs.declared.calls.Call.{Call}
use Rattle.charlotte_calls.specs.declared.calls.Call.TheVariants as call
use Rattle.charlotte_calls.specs.declared.calls.Cause.{Cause}
use Rattle.charlotte_calls.specs.declared.calls.Report.{Report}
use Rattle.charlotte_calls.specs.declared.calls.ServiceStep.TheVariants as step
use Rattle.charlotte_calls.specs.declared.names.EndId.{EndId}
use Rattle.charlotte_calls.specs.declared.names.Pid.{Pid}
use Rattle.charlotte_calls.specs.declared.names.Way.TheVariants as way
use Rattle.end_table.specs.Entries.{gains_one}
use Rattle.end_table.specs.Owned.{owned}
use Rattle.end_table.specs.Table.{IsOfEnd}
use Rattle.end_table.specs.declared.entry.Entry.{Entry}
use Rattle.end_table.specs.declared.entry.HereView.{HereView}
use Rattle.kernel_effects.specs.Calls.{act_effect, effect_on, withdraw_posted_effect}
use Rattle.kernel_effects.specs.Effect.{Effect}
use Rattle.kernel_outcomes.proofs.Called.{call-gives, call-refused}
use Rattle.kernel_outcomes.specs.Closing.{call_told}
use Rattle.kernel_sound.proofs.Needs.{owned-here}
use Rattle.kernel_sound.specs.Sound.{IsSound}
use Rattle.kernel_step.specs.Calls.{IsCallWith, made_end, refusal, seen, sees}
use Rattle.kernel_step.specs.Kernel.{Kernel, call_step, has_report, process_of, without_answer}
use Rattle.kernel_step.specs.declared.phase.Phase.TheVariants.{Running}
use Rattle.told_answers.proofs.Calls.{act-withdraws}
use Rattle.told_answers.proofs.Cancellers.{canceller}
use Rattle.told_answers.proofs.Run.{AsTold, running-not_cancelling}
use Rattle.told_answers.specs.Told.{Heard}
use Rattle.entry_steps.specs.Entries.{AreOfCall, Granted, Refused}

module _ (k made n : ℕ) (t : EndId → Entry) (sound : IsSound k made n t) (p : Pid) (calm : (e : EndId) → canceller (t e) ≡ Some p → ⊥) (mine : List EndId) (reported : Bool) where
  -- a call on an end that its process owns
  on-steps : (c : Call) (on : EndId) (part : HereView → Effect) → not (sees p t on).owned ≡ false → ((v : HereView) → v.value.end ≡ on → AreOfCall p c ((part v).steps ++ []))
      → AreOfCall p c ((effect_on (owned p (t on)) part).steps ++ [])
  on-steps c on part owns each = by (owned p (t on)) refl owns
    where
      by : (o : Option HereView) → owned p (t on) ≡ o → not (seen o).owned ≡ false → AreOfCall p c ((effect_on o part).steps ++ [])
      by None is owns = absurd (true≢false owns)
      by (Some v) is owns = each v (subst (IsOfEnd on) (owned-here p (t on) v is).0 (sound.own on))

  either-steps : (c : Call) (b : Bool) (f g : Effect) → AreOfCall p c (f.steps ++ []) → AreOfCall p c (g.steps ++ []) → AreOfCall p c ((if b then f else g).steps ++ [])
  either-steps c true f g first second = first
  either-steps c false f g first second = second

  -- a call that is granted, where these reports stand
  act-steps : (rs : List Report) (c : Call) → refusal p t made mine reported c ≡ None → AreOfCall p c ((act_effect p k made mine t c).steps ++ map (step.Report p) (call_told c rs))
  act-steps rs call.Make none = let a : EndId = made_end k made in Granted (step.Make p a (opposite a) ∷ []) [] refl (a, opposite a, refl) refl
  act-steps rs (call.Destroy on) none =
      on-steps (call.Destroy on) on _ (first_of-none (destroy_causes (sees p t on)) none).0 (λ v end. Granted (step.Destroy on ∷ []) [] refl refl refl)
  act-steps rs (call.Send on bytes xs) none =
      on-steps (call.Send on bytes xs) on _ (first_of-none (send_causes (sees p t) on xs) none).0 (λ v end.
      let m : ℕ = gains_one v.value.sent in
      either-steps (call.Send on bytes xs) (nat_eq v.value.want 0) _ _
      (Granted (step.Send on m bytes xs ∷ []) [] (ap (λ e. step.Send e m bytes xs ∷ []) end) (m, refl) (inl refl))
      (Granted (step.Send on m bytes xs ∷ []) (step.Match on m ∷ []) (ap (λ e. step.Send e m bytes xs ∷ step.Match e m ∷ []) end) (m, refl) (inr (m, refl))))
  act-steps rs (call.Receive on) none =
      on-steps (call.Receive on) on _ (first_of-none (receive_causes (sees p t on)) none).0 (λ v end. Granted (step.Receive on ∷ []) [] (ap (λ e. step.Receive e ∷ []) end) refl refl)
  act-steps rs (call.Cancel on way.Outward) none =
      on-steps (call.Cancel on way.Outward) on _ (first_of-none (cancel_causes way.Outward (sees p t on)) none).0
      (λ v end. Granted (step.Cancel on way.Outward ∷ []) [] (ap (λ e. step.Cancel e way.Outward ∷ []) end) refl refl)
  act-steps rs (call.Cancel on way.Inward) none =
      let w = act-withdraws k made n t sound p calm mine reported on none in
      Granted (step.Cancel on way.Inward ∷ []) []
      (ap (λ o. (effect_on o (λ u. withdraw_posted_effect k u u.inward)).steps ++ []) w.view ∙ ap (λ i. (withdraw_posted_effect k w.v i).steps ++ []) w.posted
      ∙ ap (λ e. step.Cancel e way.Inward ∷ []) w.end) refl refl
  act-steps [] call.Wait none = Granted (step.Wait p ∷ []) [] refl refl (inl refl)
  act-steps (r ∷ rs) call.Wait none = Granted (step.Wait p ∷ []) (step.Report p r ∷ []) refl refl (inr (r, refl))
  act-steps rs (call.Print bytes) none = Granted [] [] refl refl refl
  act-steps rs call.Exit none = Granted (step.Exit p ∷ []) [] refl refl refl

-- those of each call of a process that runs
module _ (n : ℕ) (h : Pid → Heard) (x : Kernel) (inv : AsTold n h x) (p : Pid) (c : Call) (mine : List EndId) (running : (process_of p x).phase ≡ Running) (ends : IsCallWith p x.table mine c) where
  abbrev s : Kernel
  s = without_answer p x

  calm : (e : EndId) → canceller (x.table e) ≡ Some p → ⊥
  calm e at = running-not_cancelling (process_of p x).phase e running (inv.cancelling p e at)

  pub call-steps : AreOfCall p c (call_step s p mine c).steps
  call-steps = by (refusal p s.table s.made mine (has_report (process_of p s)) c) refl
    where
      by : (r : Option Cause) → refusal p s.table s.made mine (has_report (process_of p s)) c ≡ r → AreOfCall p c (call_step s p mine c).steps
      by None none =
          subst (AreOfCall p c) (sym (call-gives n s p mine inv.sound c none ends).steps)
          (act-steps s.number s.made n s.table inv.sound p calm mine (has_report (process_of p s)) (s.process p.0).reports c none)
      by (Some cause) is = Refused cause (call-refused s p mine c cause is).steps
