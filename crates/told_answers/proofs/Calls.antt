-- What a call that is not refused tells, and whose Cancels wait after it.
use Rattle.std.proofs.Common.{◌≡◌, ℕ, ◌<◌, ◌≤◌, Bool, true, false, nat_eq, ◌||◌, List, [], ◌∷◌, ◌++◌, Option, Some, None, IsTrue, refl, sym, ap, subst, ◌∙◌, arith, if◌then◌else◌}
use Rattle.std.proofs.lemmas.List.Folds.{list_any-append}
use Rattle.std.specs.List.{list_any}
use Rattle.charlotte_packets.specs.Moving.{new_end}
use Rattle.charlotte_calls.specs.Names.{opposite}
use Rattle.charlotte_calls.specs.Program.{FitsCall, is_cause_of}
use Rattle.charlotte_calls.specs.declared.calls.Answer.TheVariants as answer
use Rattle.charlotte_calls.specs.declared.calls.Call.{Call}
use Rattle.charlotte_calls.specs.declared.calls.Call.TheVariants as call
use Rattle.charlotte_calls.specs.declared.calls.Cause.{Cause}
use Rattle.charlotte_calls.specs.declared.calls.Cause.TheVariants as cause
use Rattle.charlotte_calls.specs.declared.calls.ServiceStep.{ServiceStep}
use Rattle.charlotte_calls.specs.declared.calls.ServiceStep.TheVariants as step
use Rattle.charlotte_calls.specs.declared.names.EndId.{EndId}
use Rattle.charlotte_calls.specs.declared.names.Pid.{Pid}
use Rattle.charlotte_calls.specs.declared.names.Way.TheVariants as way
use Rattle.end_table.specs.Entries.{gains_one, settled}
use Rattle.end_table.specs.Owned.{owned}
use Rattle.end_table.specs.Place.{end_eq}
use Rattle.end_table.specs.Table.{IfHere, IsOfEnd}
use Rattle.end_table.proofs.EndEq.{end_eq-refl, end_eq-same}
use Rattle.end_table.specs.declared.entry.Entry.{Entry}
use Rattle.end_table.specs.declared.entry.Entry.TheVariants as entry
use Rattle.end_table.specs.declared.entry.HereView.{HereView}
use Rattle.end_table.specs.declared.entry.Holder.{Holder}
use Rattle.end_table.specs.declared.entry.Holder.TheVariants as holder
use Rattle.end_table.specs.declared.entry.Inward.{Inward}
use Rattle.end_table.specs.declared.entry.Inward.TheVariants as inward
use Rattle.kernel_effects.specs.Actions.{ended_of, held_entry, left_of}
use Rattle.kernel_effects.specs.Calls.{act_effect, effect_on, ended_list, ended_with, withdraw_posted_effect}
use Rattle.kernel_effects.specs.Effect.{Does, Effect, puts, stays, turns}
use Rattle.kernel_outcomes.proofs.Events.{acts-does}
use Rattle.kernel_sound.proofs.Acts.{Covers, acts-well}
use Rattle.kernel_sound.proofs.Calls.{AreOwnedBy, AreOwnedBy-all}
use Rattle.kernel_sound.proofs.Goes.{GoesWell}
use Rattle.kernel_sound.proofs.Needs.{enclosed_at-sound, owned-here, send-enclosed}
use Rattle.kernel_sound.specs.Acts.{acts, made_after}
use Rattle.kernel_sound.specs.Sound.{IsSound}
use Rattle.kernel_step.specs.Actions.{enclosed_of, is_withdrawing}
use Rattle.charlotte_calls.proofs.Causes.{AllFail, first_of-none}
use Rattle.charlotte_calls.specs.Causes.{Seen, cancel_causes, causes_of, first_of, is_idle, is_late}
use Rattle.kernel_step.specs.Calls.{IsCallWith, inward_activity, made_end, refusal, seen, seen_of, sees}
use Rattle.kernel_step.specs.Enclosed.{AreEnclosed}
use Rattle.kernel_step.specs.Progress.{Progress}
use Rattle.told_answers.proofs.Cancellers.{canceller, canceller_in, canceller-away, canceller-calm, canceller-here_idle, enclosed-idle, ended_of-none, held_entry-none, left_of-none, puts-at, puts-other, puts-same, turns-idle, turns-same}
use Rattle.told_answers.specs.Told.{cancel_in, first_in, refusal_in, report_in}

-- ---- steps

-- these steps refuse nothing, tell of no Cancel and of no report
pub record IsUntold (steps : List ServiceStep) : Type 0 where
  pub refusals : first_in refusal_in steps ≡ None
  pub cancels : (q : EndId) → first_in (cancel_in q) steps ≡ None
  pub reports : (p : Pid) → first_in (report_in p) steps ≡ None

on-untold : (o : Option HereView) (effect : HereView → Effect) → ((v : HereView) → IsUntold (effect v).steps) → IsUntold (effect_on o effect).steps
on-untold None effect each = record { refusals = refl; cancels = λ q. refl; reports = λ p. refl }
on-untold (Some v) effect each = each v

either-untold : (b : Bool) (f g : Effect) → IsUntold f.steps → IsUntold g.steps → IsUntold (if b then f else g).steps
either-untold true f g first second = first
either-untold false f g first second = second

posted-untold : (k : ℕ) (v : HereView) (i : Inward) → IsUntold (withdraw_posted_effect k v i).steps
posted-untold k v inward.Idle = record { refusals = refl; cancels = λ q. refl; reports = λ p. refl }
posted-untold k v (inward.Posted w) = record { refusals = refl; cancels = λ q. refl; reports = λ p. refl }
posted-untold k v (inward.Withdrawing w) = record { refusals = refl; cancels = λ q. refl; reports = λ p. refl }
posted-untold k v inward.Unreported = record { refusals = refl; cancels = λ q. refl; reports = λ p. refl }

pub act-untold : (p : Pid) (k made : ℕ) (mine : List EndId) (t : EndId → Entry) (c : Call) → IsUntold (act_effect p k made mine t c).steps
act-untold p k made mine t call.Make = record { refusals = refl; cancels = λ q. refl; reports = λ r. refl }
act-untold p k made mine t (call.Destroy on) = on-untold (owned p (t on)) _ (λ v. record { refusals = refl; cancels = λ q. refl; reports = λ r. refl })
act-untold p k made mine t (call.Send on bytes xs) =
    on-untold (owned p (t on)) _ (λ v. either-untold (nat_eq v.value.want 0) _ _ (record { refusals = refl; cancels = λ q. refl; reports = λ r. refl }) (record { refusals = refl; cancels = λ q. refl; reports = λ r. refl }))
act-untold p k made mine t (call.Receive on) = on-untold (owned p (t on)) _ (λ v. record { refusals = refl; cancels = λ q. refl; reports = λ r. refl })
act-untold p k made mine t (call.Cancel on way.Outward) = on-untold (owned p (t on)) _ (λ v. record { refusals = refl; cancels = λ q. refl; reports = λ r. refl })
act-untold p k made mine t (call.Cancel on way.Inward) = on-untold (owned p (t on)) _ (λ v. posted-untold k v v.inward)
act-untold p k made mine t call.Wait = record { refusals = refl; cancels = λ q. refl; reports = λ r. refl }
act-untold p k made mine t (call.Print bytes) = record { refusals = refl; cancels = λ q. refl; reports = λ r. refl }
act-untold p k made mine t call.Exit = record { refusals = refl; cancels = λ q. refl; reports = λ r. refl }

-- ---- a refusal is for a cause of its call

abbrev AllFit : Call → List (Bool × Cause) → Type 0
AllFit c [] = Unit {0}
AllFit c (x ∷ xs) = IsTrue (is_cause_of c x.1) × AllFit c xs

first_of-fits : (c : Call) (xs : List (Bool × Cause)) (a : Cause) → AllFit c xs → first_of xs ≡ Some a → FitsCall c (answer.Refused a)
first_of-fits c [] a fit is = cc
first_of-fits c (x ∷ xs) a fit is = by x.0 is (first_of-fits c xs a fit.1)
  where
    by : (b : Bool) → (if b then Some x.1 else first_of xs) ≡ Some a → (first_of xs ≡ Some a → FitsCall c (answer.Refused a)) → FitsCall c (answer.Refused a)
    by true first others = let same : x.1 ≡ a = cc in subst (λ z. IsTrue (is_cause_of c z)) same fit.0
    by false later others = others later

-- each cause in the table is one of its call
causes-fit : (sees : EndId → Seen) (made : ℕ) (c : Call) → AllFit c (causes_of sees made c)
causes-fit sees made call.Make = (refl, tt)
causes-fit sees made (call.Destroy on) = (refl, tt)
causes-fit sees made (call.Send on bytes xs) = (refl, (refl, (refl, (refl, (refl, (refl, (refl, tt)))))))
causes-fit sees made (call.Receive on) = (refl, (refl, (refl, tt)))
causes-fit sees made (call.Cancel on w) = (refl, (refl, (refl, (refl, tt))))
causes-fit sees made call.Wait = tt
causes-fit sees made (call.Print bytes) = tt
causes-fit sees made call.Exit = tt

table-fits : (sees : EndId → Seen) (made : ℕ) (c : Call) (a : Cause) → first_of (causes_of sees made c) ≡ Some a → FitsCall c (answer.Refused a)
table-fits sees made c a is = first_of-fits c (causes_of sees made c) a (causes-fit sees made c) is

pub refusal-fits : (p : Pid) (t : EndId → Entry) (made : ℕ) (mine : List EndId) (reported : Bool) (c : Call) (a : Cause) → refusal p t made mine reported c ≡ Some a → FitsCall c (answer.Refused a)
refusal-fits p t made mine reported call.Wait a is = by _ is
  where
    by : (b : Bool) → (if b then None else Some cause.NoActivity) ≡ Some a → FitsCall call.Wait (answer.Refused a)
    by true same = cc
    by false same = let e : cause.NoActivity ≡ a = cc in subst (λ z. IsTrue (is_cause_of call.Wait z)) e refl
refusal-fits p t made mine reported call.Make a is = table-fits (sees p t) made call.Make a is
refusal-fits p t made mine reported (call.Destroy on) a is = table-fits (sees p t) made (call.Destroy on) a is
refusal-fits p t made mine reported (call.Send on bytes xs) a is = table-fits (sees p t) made (call.Send on bytes xs) a is
refusal-fits p t made mine reported (call.Receive on) a is = table-fits (sees p t) made (call.Receive on) a is
refusal-fits p t made mine reported (call.Cancel on w) a is = table-fits (sees p t) made (call.Cancel on w) a is
refusal-fits p t made mine reported (call.Print bytes) a is = table-fits (sees p t) made (call.Print bytes) a is
refusal-fits p t made mine reported call.Exit a is = table-fits (sees p t) made call.Exit a is

-- ---- tables

-- the same Cancels wait after an effect
abbrev pub IsCalm : (EndId → Entry) → Effect → Type 0
IsCalm t f = (q : EndId) → canceller (f.entry q (t q)) ≡ canceller (t q)

either-calm : (t : EndId → Entry) (b : Bool) (f g : Effect) → IsCalm t f → IsCalm t g → IsCalm t (if b then f else g)
either-calm t true f g first second = first
either-calm t false f g first second = second

-- every call but an inward Cancel
abbrev pub IsPrompt : Call → Type 0
IsPrompt (call.Cancel on way.Inward) = ⊥
IsPrompt c = Unit {0}

-- no Cancel of p waits
module _ (k made n : ℕ) (t : EndId → Entry) (sound : IsSound k made n t) (p : Pid) (calm : (e : EndId) → canceller (t e) ≡ Some p → ⊥) where
  -- so it is at each end that p owns
  owned-calm : (v : HereView) (e : EndId) → t e ≡ entry.Here v → v.holder ≡ holder.Owner p → canceller (t e) ≡ None
  owned-calm v e here owner = by (is_withdrawing v.inward) refl
    where
      at : canceller (t e) ≡ (if is_withdrawing v.inward then Some p else None)
      at = ap canceller here ∙ ap (λ h. canceller_in h v.inward) owner

      by : (b : Bool) → is_withdrawing v.inward ≡ b → canceller (t e) ≡ None
      by true waits = absurd (calm e (at ∙ ap (λ b. if b then Some p else None) waits))
      by false not = at ∙ ap (λ b. if b then Some p else None) not

  -- and at those that are destroyed with it
  ended-calm : (x q : EndId) (y : Entry) → t x ≡ y → IfHere y (λ v. v.holder ≡ holder.Owner p) → list_any (end_eq q) (ended_with x y) ≡ true → canceller (t q) ≡ None
  ended-calm x q entry.Nothing is owner among = cc
  ended-calm x q (entry.Here v) is owner among = by (list_any (end_eq q) (enclosed_of v.outward)) refl (end_eq q x) refl (sym (list_any-append (end_eq q) (enclosed_of v.outward) (x ∷ [])) ∙ among)
    where
      by : (b : Bool) → list_any (end_eq q) (enclosed_of v.outward) ≡ b → (c : Bool) → end_eq q x ≡ c → (b || (c || false)) ≡ true → canceller (t q) ≡ None
      by true held c at h = canceller-here_idle (t q) (enclosed-idle t (enclosed_of v.outward) q (enclosed_at-sound k made n t sound x v is) held)
      by false held true at h = ap (λ z. canceller (t z)) (end_eq-same q x at) ∙ owned-calm v x is owner
      by false held false at h = cc
  ended-calm x q (entry.Left to hops) is owner among = cc
  ended-calm x q (entry.Destroyed m) is owner among = cc

  ended_list-calm : (xs : List EndId) (q : EndId) → AreOwnedBy p t xs → list_any (end_eq q) (ended_list t xs) ≡ true → canceller (t q) ≡ None
  ended_list-calm [] q are among = cc
  ended_list-calm (x ∷ xs) q are among =
      by (list_any (end_eq q) (ended_with x (t x))) refl (sym (list_any-append (end_eq q) (ended_with x (t x)) (ended_list t xs)) ∙ among) (ended_list-calm xs q are.1)
    where
      by : (b : Bool) → list_any (end_eq q) (ended_with x (t x)) ≡ b → (b || list_any (end_eq q) (ended_list t xs)) ≡ true → (list_any (end_eq q) (ended_list t xs) ≡ true → canceller (t q) ≡ None) → canceller (t q) ≡ None
      by true first h others = ended-calm x q (t x) refl are.0 first
      by false none h others = others h

  on-calm : (on : EndId) (effect : HereView → Effect) → ((v : HereView) → t v.value.end ≡ entry.Here v → t on ≡ entry.Here v → owned p (t on) ≡ Some v → v.holder ≡ holder.Owner p → IsCalm t (effect v)) → IsCalm t (effect_on (owned p (t on)) effect)
  on-calm on effect each = by (owned p (t on)) refl
    where
      by : (o : Option HereView) → owned p (t on) ≡ o → IsCalm t (effect_on o effect)
      by None is = λ q. refl
      by (Some v) is = let here = owned-here p (t on) v is in each v (ap t (subst (IsOfEnd on) here.0 (sound.own on)) ∙ here.0) here.0 is here.1

  pub act-calm : (mine : List EndId) (reported : Bool) (c : Call) → IsPrompt c → refusal p t made mine reported c ≡ None → IsCallWith p t mine c → IsCalm t (act_effect p k made mine t c)
  act-calm mine reported call.Make prompt granted ends =
      let a = made_end k made in
      let b = opposite a in
      let made_a : Entry = entry.Here (settled (holder.Owner p) (new_end a k)) in
      let made_b : Entry = entry.Here (settled (holder.Owner p) (new_end b k)) in
      (λ q. puts-same t b made_b (puts a made_a stays) q (sym (canceller-away (t b) (sound.unmade b refl (omega arith)))) (puts-same t a made_a stays q (sym (canceller-away (t a) (sound.unmade a refl (omega arith)))) refl))
  act-calm mine reported (call.Destroy on) prompt granted ends =
      on-calm on _ (λ v there here is owner q. turns-same t (ended_with on (entry.Here v)) ended_of q (λ among. ended_of-none (t q) ∙ sym (ended-calm on q (entry.Here v) here owner among)))
  act-calm mine reported (call.Send on bytes xs) prompt granted ends =
      on-calm on _ (λ v there here is owner.
      let are : AreEnclosed t xs = send-enclosed p t on xs granted in
      let e : EndId = v.value.end in
      either-calm t (nat_eq v.value.want 0) _ _
      (λ q. puts-same t e _ (turns xs (held_entry (holder.EnclosedIn e)) stays) q (sym (ap canceller there)) (turns-idle t xs (held_entry (holder.EnclosedIn e)) q are (held_entry-none (holder.EnclosedIn e))))
      (λ q. puts-same t e _ (turns xs (left_of v.value.hint.0) stays) q (sym (ap canceller there)) (turns-idle t xs (left_of v.value.hint.0) q are (left_of-none v.value.hint.0))))
  act-calm mine reported (call.Receive on) prompt granted ends =
      on-calm on _ (λ v there here is owner q.
      let w : ℕ = gains_one v.value.asked in
      puts-same t v.value.end (entry.Here (record v { value = record v.value { asked = w }; inward = inward.Posted w })) stays q (canceller-calm v.holder (inward.Posted w) refl ∙ sym (owned-calm v v.value.end there owner)) refl)
  act-calm mine reported (call.Cancel on way.Outward) prompt granted ends =
      on-calm on _ (λ v there here is owner q. puts-same t v.value.end _ (turns (enclosed_of v.outward) (held_entry v.holder) stays) q (sym (ap canceller there))
      (turns-idle t (enclosed_of v.outward) (held_entry v.holder) q (enclosed_at-sound k made n t sound on v here) (held_entry-none v.holder)))
  act-calm mine reported (call.Cancel on way.Inward) prompt granted ends = absurd prompt
  act-calm mine reported call.Wait prompt granted ends = λ q. refl
  act-calm mine reported (call.Print bytes) prompt granted ends = λ q. refl
  act-calm mine reported call.Exit prompt granted ends =
      (λ q. turns-same t (ended_list t mine) ended_of q (λ among. ended_of-none (t q) ∙ sym (ended_list-calm mine q (AreOwnedBy-all p t mine ends) among)))

  -- ---- a Cancel of a receive

  -- the receive is posted, and is withdrawn from then on
  pub record Withdraws (on : EndId) (f : Effect) : Type 0 where
    pub v : HereView
    pub w : ℕ
    pub view : owned p (t on) ≡ Some v
    pub end : v.value.end ≡ on
    pub posted : v.inward ≡ inward.Posted w
    pub before : canceller (t on) ≡ None
    pub after : canceller (f.entry on (t on)) ≡ Some p
    pub others : (q : EndId) → end_eq on q ≡ false → canceller (f.entry q (t q)) ≡ canceller (t q)

  posted-of : (v : HereView) (i : Inward) → v.inward ≡ i → is_withdrawing i ≡ false → is_late (inward_activity i) ≡ false → is_idle (inward_activity i) ≡ false → (w : ℕ) × (i ≡ inward.Posted w)
  posted-of v inward.Idle is not late free = cc
  posted-of v (inward.Posted w) is not late free = (w, refl)
  posted-of v (inward.Withdrawing w) is not late free = cc
  posted-of v inward.Unreported is not late free = cc

  pub act-withdraws : (mine : List EndId) (reported : Bool) (on : EndId) → refusal p t made mine reported (call.Cancel on way.Inward) ≡ None → Withdraws on (act_effect p k made mine t (call.Cancel on way.Inward))
  act-withdraws mine reported on granted = by (owned p (t on)) refl granted
    where
      not_withdrawing : (v : HereView) → t on ≡ entry.Here v → v.holder ≡ holder.Owner p → (b : Bool) → is_withdrawing v.inward ≡ b → b ≡ false
      not_withdrawing v here owner true is = absurd (calm on (ap canceller here ∙ ap (λ h. canceller_in h v.inward) owner ∙ ap (λ b. if b then Some p else None) is))
      not_withdrawing v here owner false is = refl

      by : (o : Option HereView) → owned p (t on) ≡ o → first_of (cancel_causes way.Inward (seen o)) ≡ None → Withdraws on (act_effect p k made mine t (call.Cancel on way.Inward))
      by None is none = cc
      by (Some v) is none =
          let here = owned-here p (t on) v is in
          let end : v.value.end ≡ on = subst (IsOfEnd on) here.0 (sound.own on) in
          let fail : AllFail (cancel_causes way.Inward (seen_of v)) = first_of-none (cancel_causes way.Inward (seen_of v)) none in
          let posted = posted-of v v.inward refl (not_withdrawing v here.0 here.1 (is_withdrawing v.inward) refl) fail.1.1.0 fail.1.1.1.0 in
          let now : HereView = record v { inward = inward.Withdrawing posted.0 } in
          let entry_is : (q : EndId) (y : Entry) → (act_effect p k made mine t (call.Cancel on way.Inward)).entry q y ≡ puts on (entry.Here now) stays q y =
          (λ q y. ap (λ o. (effect_on o (λ u. withdraw_posted_effect k u u.inward)).entry q y) is ∙ ap (λ i. (withdraw_posted_effect k v i).entry q y) posted.1 ∙ ap (λ e. puts e (entry.Here now) stays q y) end) in
          record {
            v = v;
            w = posted.0;
            view = is;
            end = end;
            posted = posted.1;
            before = ap canceller here.0 ∙ canceller-calm v.holder v.inward (ap is_withdrawing posted.1);
            after = ap canceller (entry_is on (t on)) ∙ puts-at t on (entry.Here now) stays ∙ ap (λ h. canceller_in h (inward.Withdrawing posted.0)) here.1;
            others = λ q apart. ap canceller (entry_is q (t q)) ∙ puts-other t on (entry.Here now) stays q apart refl;
          }

-- ---- the table stays sound

covers : (p : Pid) (c : Call) → (touches : Pid → EndId → Bool) × Covers touches p c
covers p call.Make = (λ q e. true, tt)
covers p (call.Destroy on) = (λ q e. true, λ q. refl)
covers p (call.Send on bytes xs) = (λ q e. true, λ q. refl)
covers p (call.Receive on) = (λ q e. true, λ q. refl)
covers p (call.Cancel on w) = (λ q e. true, λ q. refl)
covers p call.Wait = (λ q e. true, tt)
covers p (call.Print bytes) = (λ q e. true, tt)
covers p call.Exit = (λ q e. nat_eq p.0 q.0, λ q e. refl)

pub call-sound : (k made n : ℕ) (t : EndId → Entry) (p : Pid) (mine : List EndId) (reported : Bool) (c : Call) → IsSound k made n t → p.0 < n → refusal p t made mine reported c ≡ None → IsCallWith p t mine c
    → IsSound k (made_after c made) n (λ q. (act_effect p k made mine t c).entry q (t q))
call-sound k made n t p mine reported c sound below granted ends = subst (IsSound k (made_after c made) n) (λ i q. did.table q i) after.sound
  where
    d : Progress
    d = record { table = t; stamp = 0; packets = []; reports = []; answers = []; steps = [] }

    did : Does (act_effect p k made mine t c) d (acts p k made mine c d)
    did = acts-does k made n d sound p mine reported c granted ends

    after : GoesWell k (made_after c made) n (covers p c).0 t (acts p k made mine c d)
    after = acts-well k made n (covers p c).0 t p mine c d below reported granted ends (covers p c).1 (record { sound = sound; reports = tt; answers = tt; calm = λ q e is. refl })
