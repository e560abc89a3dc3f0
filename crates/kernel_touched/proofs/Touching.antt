-- What is true of what a call touches.
use Rattle.std.proofs.Common.{◌≡◌, ◌≢◌, ◌⊎◌, inl, inr, ℕ, Bool, true, false, true≢false, not, nat_eq, List, Option, Some, None, map, refl, sym, ap}
use Rattle.std.proofs.lemmas.Bool.Decides.{eqb_tells}
use Rattle.charlotte_calls.proofs.Causes.{first_of-none}
use Rattle.charlotte_calls.specs.Causes.{cancel_causes, destroy_causes, receive_causes, send_causes}
use Rattle.charlotte_calls.specs.declared.calls.Call.{Call}
use Rattle.charlotte_calls.specs.declared.calls.Call.TheVariants as call
use Rattle.charlotte_calls.specs.declared.names.EndId.{EndId}
use Rattle.charlotte_calls.specs.declared.names.Pid.{Pid}
use Rattle.end_table.proofs.EndEq.{end_eq-refl}
use Rattle.end_table.specs.Owned.{owned}
use Rattle.end_table.specs.declared.entry.Entry.{Entry}
use Rattle.end_table.specs.declared.entry.HereView.{HereView}
use Rattle.kernel_process.proofs.KeptMoved.{HavePlace-moved}
use Rattle.kernel_process.proofs.OwnersTold.{owned-owner}
use Rattle.kernel_process.specs.declared.process.ControlBlock.{ControlBlock}
use Rattle.kernel_sound.proofs.Acts.{Covers}
use Rattle.kernel_sound.proofs.Events.{owner-below}
use Rattle.kernel_sound.specs.Owners.{owner_of}
use Rattle.kernel_sound.specs.Sound.{IsSound}
use Rattle.kernel_step.specs.Calls.{is_active, refusal, seen, sees}
use Rattle.kernel_touched.specs.Touched.{AreOwnersBelow, HavePlaceFor, IsCalmAfter, touched_by, touched_of, touches}
use Rattle.kernel_touched.specs.declared.touched.Touched.{Touched}
use Rattle.kernel_touched.specs.declared.touched.Touched.TheVariants as touched

-- an end that a call is on is the caller's, where the call is not refused
seen-owner : (p : Pid) (x : Entry) → not (seen (owned p x)).owned ≡ false → Some p ≡ owner_of x
seen-owner p x owns = by (owned p x) refl owns
  where
    by : (o : Option HereView) → owned p x ≡ o → not (seen o).owned ≡ false → Some p ≡ owner_of x
    by None is owns = absurd (true≢false owns)
    by (Some v) is owns = sym (owned-owner p x v (sym is))

pub granted-touched : (p : Pid) (t : EndId → Entry) (made : ℕ) (mine : List EndId) (reported : Bool) (c : Call) → refusal p t made mine reported c ≡ None → touched_of p c ≡ touched_by t c
granted-touched p t made mine reported call.Make granted = refl
granted-touched p t made mine reported (call.Destroy on) granted = ap (λ o. touched.End on o) (seen-owner p (t on) (first_of-none (destroy_causes (sees p t on)) granted).0)
granted-touched p t made mine reported (call.Send on bytes xs) granted = ap (λ o. touched.End on o) (seen-owner p (t on) (first_of-none (send_causes (sees p t) on xs) granted).0)
granted-touched p t made mine reported (call.Receive on) granted = ap (λ o. touched.End on o) (seen-owner p (t on) (first_of-none (receive_causes (sees p t on)) granted).0)
granted-touched p t made mine reported (call.Cancel on w) granted = ap (λ o. touched.End on o) (seen-owner p (t on) (first_of-none (cancel_causes w (sees p t on)) granted).0)
granted-touched p t made mine reported call.Wait granted = refl
granted-touched p t made mine reported (call.Print bytes) granted = refl
granted-touched p t made mine reported call.Exit granted = refl

-- the same room where an end was touched
pub HavePlaceFor-moved : (x : Touched) (xs ys : List ControlBlock) → map (λ x. x.active) ys ≡ map (λ x. x.active) xs → HavePlaceFor x xs → HavePlaceFor x ys
HavePlaceFor-moved touched.Nothing xs ys same places = tt
HavePlaceFor-moved (touched.End on before) xs ys same places = HavePlace-moved xs ys same places
HavePlaceFor-moved touched.Caller xs ys same places = tt

-- what a call touches has the end that it is on
pub covers : (p : Pid) (t : EndId → Entry) (c : Call) → Covers (touches p (touched_by t c)) p c
covers p t call.Make = tt
covers p t (call.Destroy on) = λ q. end_eq-refl on
covers p t (call.Send on bytes xs) = λ q. end_eq-refl on
covers p t (call.Receive on) = λ q. end_eq-refl on
covers p t (call.Cancel on w) = λ q. end_eq-refl on
covers p t call.Wait = tt
covers p t (call.Print bytes) = tt
covers p t call.Exit = λ q e. refl

apart : (a b : ℕ) → b ≢ a → nat_eq a b ≡ false
apart a b other = by (eqb_tells a b)
  where
    by : ((nat_eq a b ≡ true) × (a ≡ b)) ⊎ ((nat_eq a b ≡ false) × (a ≢ b)) → nat_eq a b ≡ false
    by (inl t) = absurd (other (sym t.1))
    by (inr t) = t.0

-- activities stayed but where the call may change them
pub calm-after : (p : Pid) (t v : EndId → Entry) (c : Call) → ((q : Pid) (e : EndId) → touches p (touched_by t c) q e ≡ false → is_active (owned q (v e)) ≡ is_active (owned q (t e)))
    → (c ≡ call.Exit → (e : EndId) → is_active (owned p (v e)) ≡ false) → IsCalmAfter p (touched_by t c) t v
calm-after p t v call.Make stays silent = λ q e. stays q e refl
calm-after p t v (call.Destroy on) stays silent = (refl, stays)
calm-after p t v (call.Send on bytes xs) stays silent = (refl, stays)
calm-after p t v (call.Receive on) stays silent = (refl, stays)
calm-after p t v (call.Cancel on w) stays silent = (refl, stays)
calm-after p t v call.Wait stays silent = λ q e. stays q e refl
calm-after p t v (call.Print bytes) stays silent = λ q e. stays q e refl
calm-after p t v call.Exit stays silent = (λ q e other. stays q e (apart p.0 q.0 other), silent refl)

-- the owners of what a call touched are processes
pub owners-below : (k j made m n : ℕ) (t u : EndId → Entry) → IsSound k made n t → IsSound j m n u → (c : Call) → AreOwnersBelow n u (touched_by t c)
owners-below k j made m n t u before after call.Make = tt
owners-below k j made m n t u before after (call.Destroy on) = (owner-below k made n t before on, owner-below j m n u after on)
owners-below k j made m n t u before after (call.Send on bytes xs) = (owner-below k made n t before on, owner-below j m n u after on)
owners-below k j made m n t u before after (call.Receive on) = (owner-below k made n t before on, owner-below j m n u after on)
owners-below k j made m n t u before after (call.Cancel on w) = (owner-below k made n t before on, owner-below j m n u after on)
owners-below k j made m n t u before after call.Wait = tt
owners-below k j made m n t u before after (call.Print bytes) = tt
owners-below k j made m n t u before after call.Exit = tt
