-- A Send that its kernel does not refuse: the ends that it encloses are free, and the service allows the step.
use Rattle.std.proofs.Common.{◌≡◌, ℕ, ◌+◌, ◌^◌, ◌<◌, ◌≤◌, Bool, true, false, nat_eq, ◌&&◌, ◌||◌, not, is_none, if◌then◌else◌, IsTrue, List, [], ◌∷◌, length, Some, None, refl, sym, ap, subst, ◌∙◌, arith, true≢false, eq-eqb}
use Rattle.std.proofs.Math.Nat.{min-eq_left}
use Rattle.std.proofs.lemmas.Bool.{le-leb}
use Rattle.charlotte_calls.proofs.Causes.{AllFail, first_of-none}
use Rattle.charlotte_calls.specs.Causes.{Seen, first_of, is_idle, send_causes}
use Rattle.charlotte_calls.specs.declared.calls.Call.TheVariants as call
use Rattle.charlotte_calls.specs.declared.names.EndId.{EndId}
use Rattle.charlotte_calls.specs.declared.names.Pid.{Pid}
use Rattle.end_table.proofs.EndEq.{end_eq-same}
use Rattle.end_table.specs.Entries.{gains_one}
use Rattle.end_table.specs.Owned.{owned}
use Rattle.end_table.specs.Place.{end_eq}
use Rattle.end_table.specs.Table.{IsHereAnd, IsIdle}
use Rattle.end_table.specs.declared.entry.Entry.{Entry}
use Rattle.end_table.specs.declared.entry.HereView.{HereView}
use Rattle.end_table.specs.declared.entry.Holder.TheVariants as holder
use Rattle.end_table.specs.declared.entry.Outward.{Outward}
use Rattle.end_table.specs.declared.entry.Outward.TheVariants as kernel_outward
use Rattle.kernel_sound.proofs.Needs.{AreFree, send-apart, send-free}
use Rattle.kernel_step.specs.Calls.{outward_activity, seen, seen_of, sees}
use Rattle.theorem_call_wait.proofs.Refused.{calls-same}
use Rattle.service_step.specs.Causes.{refusal as service_refusal}
use Rattle.service_step.specs.Ends.{owner}
use Rattle.service_step.specs.State.{State, is_running}
use Rattle.service_step.specs.Steps.{fits_version, may_send, may_send_as}
use Rattle.service_step.specs.declared.state.Phase.TheVariants as phase
use Rattle.service_step.specs.declared.state.Place.{Place}
use Rattle.service_step.specs.declared.state.Place.TheVariants as place
use Rattle.theorem_meaning.specs.Packets.{Links}
use Rattle.theorem_meaning.specs.StandsFor.{AreLinksOf, home_of}
use Rattle.theorem_call_send.specs.Regrouped.{is_among}

-- ends that are free one by one
free-among : (p : Pid) (t : EndId → Entry) (xs : List EndId) → AreFree p t xs → (f : EndId) → is_among xs f ≡ true → IsHereAnd (t f) (λ y. IsIdle y × (y.holder ≡ holder.Owner p))
free-among p t [] free f is = absurd (true≢false (sym is))
free-among p t (x ∷ xs) free f is = by (end_eq f x) refl is (free-among p t xs free.2 f)
  where
    by : (b : Bool) → end_eq f x ≡ b → (b || is_among xs f) ≡ true → (is_among xs f ≡ true → IsHereAnd (t f) (λ y. IsIdle y × (y.holder ≡ holder.Owner p))) → IsHereAnd (t f) (λ y. IsIdle y × (y.holder ≡ holder.Owner p))
    by true same is rest = subst (λ z. IsHereAnd (t z) (λ y. IsIdle y × (y.holder ≡ holder.Owner p))) (sym (end_eq-same f x same)) free.0
    by false apart is rest = rest is

-- a send that is free is idle
free-idle : (o : Outward) → not (is_idle (outward_activity o)) ≡ false → o ≡ kernel_outward.Idle
free-idle kernel_outward.Idle is = refl
free-idle (kernel_outward.Waiting n bytes xs) is = absurd (true≢false is)
free-idle (kernel_outward.Matched n) is = absurd (true≢false is)
free-idle kernel_outward.Unreported is = absurd (true≢false is)

-- what no cause of a Send means
pub record IsFreeToSend (p : Pid) (t : EndId → Entry) (on : EndId) (xs : List EndId) (v : HereView) : Type 0 where
  pub idle : v.outward ≡ kernel_outward.Idle
  pub alive : v.value.dead ≡ false
  pub free : (f : EndId) → is_among xs f ≡ true → IsHereAnd (t f) (λ y. IsIdle y × (y.holder ≡ holder.Owner p))
  pub apart : is_among xs on ≡ false

pub free-to-send : (p : Pid) (t : EndId → Entry) (on : EndId) (xs : List EndId) (v : HereView) → owned p (t on) ≡ Some v → first_of (send_causes (sees p t) on xs) ≡ None → IsFreeToSend p t on xs v
free-to-send p t on xs v owns granted =
    let fail : AllFail (send_causes (sees p t) on xs) = first_of-none (send_causes (sees p t) on xs) granted in
    let own : sees p t on ≡ seen_of v = ap seen owns in
    record {
      idle = free-idle v.outward (subst (λ (x : Seen). not (is_idle x.outward) ≡ false) own fail.1.0);
      alive = subst (λ (x : Seen). x.dead ≡ false) own fail.1.1.0;
      free = free-among p t xs (send-free p t on xs granted);
      apart = send-apart p t on xs granted;
    }

-- no count of sends comes to its end
pub gains : (i n : ℕ) → i < 2 ^ 31 → n ≤ i → gains_one n ≡ n + 1
gains i n few low = min-eq_left (omega (arith, few, low))

-- the service allows the step
module _ (w : Links) (s : State) (p : Pid) (k : ℕ) (at : home_of s p ≡ k) (links : AreLinksOf w s) (on : EndId) (bytes : List ℕ) (xs : List EndId) (v : HereView) where
  pub may-send : (s.ends on).place ≡ place.Owned p → (s.process p.0).phase ≡ phase.Running → first_of (send_causes (sees p (w.entry k)) on xs) ≡ None
      → (n : ℕ) → n ≡ (s.ends on).sent + 1 → length xs ≤ (if nat_eq s.version 1 then 1 else 8) → IsTrue (may_send s on n xs)
  may-send placed runs granted n number fits = ap (λ (o : Place). may_send_as s (owner o) on n xs) placed ∙ tests
    where
      none : service_refusal s p (call.Send on bytes xs) ≡ None
      none = sym (calls-same w s p k at links 0 (call.Send on bytes xs)) ∙ granted

      fit : fits_version s.version xs ≡ true
      fit = le-leb (length xs) (if nat_eq s.version 1 then 1 else 8) fits

      tests : (is_running (s.process p.0).phase && is_none (service_refusal s p (call.Send on bytes xs)) && nat_eq n ((s.ends on).sent + 1) && fits_version s.version xs) ≡ true
      tests = λ j. is_running (runs j) && is_none (none j) && eq-eqb n ((s.ends on).sent + 1) number j && fit j
