-- Any call keeps all that is true of the traces of ends.
use Rattle.std.proofs.Common.{◌≡◌, ◌≢◌, ◌⊎◌, inl, inr, ℕ, ◌^◌, ◌<◌, ◌≤◌, Bool, true, false, true≢false, nat_eq, if◌then◌else◌, List, [], ◌∷◌, ◌++◌, map, length, slice_index, Contains, Option, Some, None, refl, sym, ap, subst, ◌∙◌, arith}
use Rattle.std.proofs.lemmas.Bool.Decides.{eqb_tells}
use Rattle.std.specs.List.{AllByRecursion}
use Rattle.charlotte_calls.proofs.Causes.{first_of-none}
use Rattle.charlotte_calls.specs.Causes.{destroy_causes, first_of, send_causes}
use Rattle.charlotte_calls.specs.Names.{opposite}
use Rattle.charlotte_calls.specs.declared.calls.Call.{Call}
use Rattle.charlotte_calls.specs.declared.calls.Call.TheVariants as call
use Rattle.charlotte_calls.specs.declared.calls.Cause.{Cause}
use Rattle.charlotte_calls.specs.declared.calls.Report.{Report}
use Rattle.charlotte_calls.specs.declared.calls.ServiceStep.{ServiceStep}
use Rattle.charlotte_calls.specs.declared.calls.ServiceStep.TheVariants as step
use Rattle.charlotte_calls.specs.declared.names.EndId.{EndId}
use Rattle.charlotte_calls.specs.declared.names.Pid.{Pid}
use Rattle.charlotte_calls.specs.declared.names.Way.TheVariants as way
use Rattle.charlotte_calls.specs.declared.setting.Setting.{Setting}
use Rattle.end_table.specs.Entries.{gains_one}
use Rattle.end_table.specs.Owned.{AreEndsOf, owned}
use Rattle.end_table.specs.Table.{IfHere, IsHereAnd, IsIdle}
use Rattle.end_table.specs.declared.entry.Entry.{Entry}
use Rattle.end_table.specs.declared.entry.Entry.TheVariants as entry
use Rattle.end_table.specs.declared.entry.HereView.{HereView}
use Rattle.end_table.specs.declared.entry.Holder.TheVariants as holder
use Rattle.end_table.specs.declared.entry.Inward.{Inward}
use Rattle.end_table.specs.declared.entry.Inward.TheVariants as inward
use Rattle.kernel_effects.specs.Actions.{ends_all, held_entry, match_effect}
use Rattle.kernel_effects.specs.Calls.{act_effect, effect_on, ended_with, post_effect, send_effect, sending_view, withdraw_posted_effect, withdraw_send_effect}
use Rattle.kernel_effects.specs.Effect.{Effect, nothing, puts, stays, turns}
use Rattle.kernel_outcomes.specs.Closing.{call_told}
use Rattle.kernel_sound.proofs.Needs.{AreFree, send-free}
use Rattle.kernel_step.specs.Calls.{IsCallWith, made_end, refusal, sees}
use Rattle.kernel_step.specs.Kernel.{has_report, process_of}
use Rattle.kernel_step.specs.declared.phase.Phase.TheVariants as kernel_phase
use Rattle.kernel_world.specs.Run.{IsAllowed, IsCallOf}
use Rattle.kernel_world.specs.World.{Calls, World, happens}
use Rattle.service_change.proofs.Change.{living-made}
use Rattle.service_step.specs.Ends.{destroys_each, is_living, is_made}
use Rattle.service_step.specs.Run.{IsRunFrom, state_after}
use Rattle.service_step.specs.State.{State}
use Rattle.service_step.specs.Steps.{IsServiceStep}
use Rattle.service_step.specs.declared.state.End.{End}
use Rattle.service_step.specs.declared.state.Place.TheVariants as place
use Rattle.theorem_call_begin.proofs.Answered.{IsGranted, granted-on, owned-of}
use Rattle.theorem_call_begin.proofs.Making.{after_making}
use Rattle.theorem_call_begin.proofs.Receives.{home-near}
use Rattle.theorem_effects.proofs.Allowed.{performs-allowed}
use Rattle.theorem_effects.proofs.Happens.{refused-happens}
use Rattle.theorem_effects.proofs.Lists.{first_or_later, none-there}
use Rattle.theorem_effects.specs.Change.{Change, Happens}
use Rattle.theorem_effects.specs.Events.{caller, calling, refusing}
use Rattle.theorem_meaning.proofs.Goes.{Goes}
use Rattle.theorem_meaning.proofs.Plain.{destroyed-so, there-here}
use Rattle.theorem_meaning.specs.Invariant.{Invariant}
use Rattle.theorem_meaning.specs.Packets.{Links, links_of, one_if}
use Rattle.theorem_meaning.specs.StandsFor.{home_of, standing}
use Rattle.theorem_take_silent.proofs.Places.{here-living}
use Rattle.trace_dropping.proofs.Calls.{call-traced, refused-traced}
use Rattle.trace_dropping.specs.Calm.{AreAsOpen, IsCalmCall}
use Rattle.trace_dropping.proofs.TraceEndingCalls.{destroy-traced, exit-once, exit-traced}
use Rattle.trace_steps.proofs.Make.{make-traced}
use Rattle.trace_matching.proofs.Sends.{matched-traced}
use Rattle.trace_meaning.specs.Traces.{AreTraced}
use Rattle.trace_steps.proofs.Destroys.{AreKept, destroys-one, destroys_each-kept}
use Rattle.trace_steps.proofs.Same.{same-traced}
use Rattle.trace_steps.proofs.Steps.{led, quiet-append, reports-plain, run-open}
use Rattle.trace_steps.proofs.Words.{as-open-on, as-open-same}
use Rattle.trace_steps.specs.Steps.{AreQuiet, IsPlainStep, IsQuietStep}

one-same : (a b : Bool) → one_if a ≡ one_if b → a ≡ b
one-same true true is = refl
one-same false false is = refl
one-same true false is = absurd (omega (arith, is))
one-same false true is = absurd (omega (arith, is))

above-none : (m : ℕ) → m ≢ 0 → 0 < m
above-none m some = by (eqb_tells m 0)
  where
    by : ((nat_eq m 0 ≡ true) × (m ≡ 0)) ⊎ ((nat_eq m 0 ≡ false) × (m ≢ 0)) → 0 < m
    by (inl is) = absurd (some is.1)
    by (inr is) = omega (arith, is.1)

-- ends that are free are here
free-there : (p : Pid) (t : EndId → Entry) (xs : List EndId) (x : EndId) → AreFree p t xs → Contains xs x → (v : HereView) × (t x ≡ entry.Here v)
free-there p t [] x are has = absurd (none-there x has)
free-there p t (y ∷ ys) x are has = by (first_or_later y ys x has) (free-there p t ys x are.2)
  where
    by : (y ≡ x) ⊎ Contains ys x → (Contains ys x → (v : HereView) × (t x ≡ entry.Here v)) → (v : HereView) × (t x ≡ entry.Here v)
    by (inl same) rest = let v = there-here (t y) (λ u. IsIdle u × (u.holder ≡ holder.Owner p)) are.0 in (v.0, ap t (sym same) ∙ v.1)
    by (inr there) rest = rest there

module _ (g : Setting) (i : ℕ) (w : World) (s : State) (k : ℕ) (p : Pid) (c : Call) (mine : List EndId) (is : Invariant i w s) (homes : s.homes ≡ g.homes) (version : s.version ≡ g.version) (room : i < 2 ^ 31) (allowed : IsAllowed g w (Calls k p c mine)) (goes : Goes i w s (Calls k p c mine))
    (traced : AreTraced (links_of w) s.ends) where
  abbrev l : Links
  l = links_of w

  abbrev u : Links
  u = links_of (happens w (Calls k p c mine))

  abbrev now : EndId → End
  now = (state_after s goes.part).ends

  abbrev entries : EndId → Entry
  entries = (w.kernel k).table

  abbrev count : ℕ
  count = (w.kernel k).made

  below : p.0 < length s.homes
  below = subst (λ hs. p.0 < length hs) (sym homes) allowed.0

  at : home_of s p ≡ k
  at = ap (λ hs. slice_index hs p.0) homes ∙ allowed.1

  running : ((w.kernel k).process p.0).phase ≡ kernel_phase.Running
  running = allowed.2

  refused : (cause : Cause) → refusal p entries count mine (has_report (process_of p (w.kernel k))) c ≡ Some cause → AreTraced u now
  refused cause is_refused = refused-traced i w s k p c mine now is as_open traced cause is_refused
    where
      happened : Happens w (Calls k p c mine) (refusing w k p c cause)
      happened = refused-happens w k p c mine cause is_refused

      as_open : AreAsOpen s.ends now
      as_open = run-open s goes.part is.service goes.run (subst (AreQuiet s) (sym (goes.steps ∙ happened.steps)) (tt, tt))

  -- ---- a call that is not refused

  module _ (granted : refusal p entries count mine (has_report (process_of p (w.kernel k))) c ≡ None) where
    abbrev effect : Effect
    effect = act_effect p k count mine entries c

    abbrev news : List Report
    news = call_told c (caller p (w.kernel k)).reports

    happened : Happens w (Calls k p c mine) (calling w k p c effect)
    happened = performs-allowed is k p c mine effect granted allowed.4 refl

    steps-are : map (λ made. made.0) goes.part ≡ effect.steps ++ map (step.Report p) news
    steps-are = goes.steps ∙ happened.steps

    opened : AreQuiet s effect.steps → AreAsOpen s.ends now
    opened quiet = run-open s goes.part is.service goes.run (subst (AreQuiet s) (sym steps-are) (quiet-append s effect.steps (map (step.Report p) news) quiet (reports-plain p news)))

    calmly : AreQuiet s effect.steps → IsCalmCall entries c → AreTraced u now
    calmly quiet calm = call-traced i w s k p c mine now is (opened quiet) traced g allowed calm

    -- the ends of the service are as the one step leaves them
    by-step : (P : (EndId → End) → Type 0) → ((t v : EndId → End) → AreAsOpen t v → P t → P v) → (x : ServiceStep) → effect.steps ≡ x ∷ [] → ((t : State) → IsServiceStep s x t → P t.ends) → P now
    by-step P on x one each =
        led P on s goes.part x (map (step.Report p) news) is.service goes.run (steps-are ∙ ap (λ xs. xs ++ map (step.Report p) news) one) (reports-plain p news) each

chosen-quiet : (s : State) (a : Bool) (f g : Effect) → AreQuiet s f.steps → AreQuiet s g.steps → AreQuiet s (if a then f else g).steps
chosen-quiet s true f g one other = one
chosen-quiet s false f g one other = other

-- each kind of call
module _ (g : Setting) (i : ℕ) (w : World) (s : State) (k : ℕ) (p : Pid) (mine : List EndId) (is : Invariant i w s) (homes : s.homes ≡ g.homes) (version : s.version ≡ g.version) (room : i < 2 ^ 31) (traced : AreTraced (links_of w) s.ends) where
  abbrev table : EndId → Entry
  table = (w.kernel k).table

  abbrev made : ℕ
  made = (w.kernel k).made

  abbrev IsGrantedCall : Call → Type 0
  IsGrantedCall c = refusal p table made mine (has_report (process_of p (w.kernel k))) c ≡ None

  abbrev Goal : (c : Call) → Goes i w s (Calls k p c mine) → Type 0
  Goal c goes = AreTraced (links_of (happens w (Calls k p c mine))) (state_after s goes.part).ends

  here-lives : (e : EndId) (v : HereView) → table e ≡ entry.Here v → is_living (s.ends e).place ≡ true
  here-lives e v here = here-living (length s.made) (links_of w) s.ends is.setting.few is.links.named is.links.marked is.stands.links.once e k v here

  -- a part of a call on an end that its process owns
  on-quiet : (o : Option HereView) (part : HereView → Effect) → ((v : HereView) → AreQuiet s (part v).steps) → AreQuiet s (effect_on o part).steps
  on-quiet None part each = tt
  on-quiet (Some v) part each = each v

  posted-quiet : (v : HereView) (a : Inward) → AreQuiet s (withdraw_posted_effect k v a).steps
  posted-quiet v inward.Idle = tt
  posted-quiet v (inward.Posted n) = (tt, tt)
  posted-quiet v (inward.Withdrawing n) = tt
  posted-quiet v inward.Unreported = tt

  sent-quiet : (bytes : List ℕ) (xs : List EndId) → ((q : EndId) → Contains xs q → is_living (s.ends q).place ≡ true) → (v : HereView) → AreQuiet s (send_effect k table bytes xs v).steps
  sent-quiet bytes xs lives v =
      chosen-quiet s (nat_eq v.value.want 0)
      (record nothing {
        entry = puts v.value.end (entry.Here (sending_view v bytes xs)) (turns xs (held_entry (holder.EnclosedIn v.value.end)) stays);
        steps = step.Send v.value.end (gains_one v.value.sent) bytes xs ∷ [];
      })
      (record (match_effect k table (sending_view v bytes xs) (gains_one v.value.sent) bytes xs) { steps = step.Send v.value.end (gains_one v.value.sent) bytes xs ∷ step.Match v.value.end (gains_one v.value.sent) ∷ [] })
      (lives, tt)
      (lives, (tt, tt))

  -- ---- Send

  sends : (on : EndId) (bytes : List ℕ) (xs : List EndId) (allowed : IsAllowed g w (Calls k p (call.Send on bytes xs) mine)) (goes : Goes i w s (Calls k p (call.Send on bytes xs) mine)) → IsGrantedCall (call.Send on bytes xs) → Goal (call.Send on bytes xs) goes
  sends on bytes xs allowed goes granted = asked (eqb_tells o.view.value.want 0)
    where
      o : IsGranted p table on
      o = granted-on (is.setting.sound k) p on (first_of-none (send_causes (sees p table) on xs) granted).0

      lives : (q : EndId) → Contains xs q → is_living (s.ends q).place ≡ true
      lives q has = let v = free-there p table xs q (send-free p table on xs granted) has in here-lives q v.0 v.1

      quiet : AreQuiet s (act_effect p k made mine table (call.Send on bytes xs)).steps
      quiet = on-quiet (owned p (table on)) (send_effect k table bytes xs) (sent-quiet bytes xs lives)

      as_open : AreAsOpen s.ends (state_after s goes.part).ends
      as_open = opened g i w s k p (call.Send on bytes xs) mine is homes version room allowed goes traced granted quiet

      asked : ((nat_eq o.view.value.want 0 ≡ true) × (o.view.value.want ≡ 0)) ⊎ ((nat_eq o.view.value.want 0 ≡ false) × (o.view.value.want ≢ 0)) → Goal (call.Send on bytes xs) goes
      asked (inl none) = calmly g i w s k p (call.Send on bytes xs) mine is homes version room allowed goes traced granted quiet (subst (λ z. IfHere z (λ v. v.value.want ≡ 0)) (sym o.there) none.1)
      asked (inr some) =
          subst (λ z. AreTraced (links_of (happens w (Calls k p (call.Send z bytes xs) mine))) (state_after s goes.part).ends) o.end
          (matched-traced i w s k p mine is (subst (λ hs. p.0 < length hs) (sym homes) allowed.0) (ap (λ hs. slice_index hs p.0) homes ∙ allowed.1) allowed.2 o.view bytes xs o.here o.owner room
          (subst (λ n. length xs ≤ (if nat_eq n 1 then 1 else 8)) (sym version) allowed.3.0) (subst (λ z. first_of (send_causes (sees p table) z xs) ≡ None) (sym o.end) granted) (above-none o.view.value.want some.1)
          (state_after s goes.part).ends as_open traced)

  -- ---- Make

  module _ (allowed : IsAllowed g w (Calls k p call.Make mine)) (goes : Goes i w s (Calls k p call.Make mine)) (granted : IsGrantedCall call.Make) where
    abbrev new_ends : EndId → End
    new_ends = (after_making s p (made_end k made)).ends

    makes : Goal call.Make goes
    makes =
        same-traced (links_of (happens w (Calls k p call.Make mine))) new_ends (state_after s goes.part).ends
        (by-step g i w s k p call.Make mine is homes version room allowed goes traced granted (AreAsOpen new_ends) (λ t v on is_so. as-open-on is_so on) (step.Make p (made_end k made) (opposite (made_end k made))) refl
        (λ t stepped. subst (λ (z : State). AreAsOpen new_ends z.ends) (sym stepped.after) (as-open-same new_ends)))
        (make-traced i w s k p mine is (subst (λ hs. p.0 < length hs) (sym homes) allowed.0) (ap (λ hs. slice_index hs p.0) homes ∙ allowed.1) allowed.2 granted traced)

  -- ---- Destroy

  module _ (on : EndId) (allowed : IsAllowed g w (Calls k p (call.Destroy on) mine)) (goes : Goes i w s (Calls k p (call.Destroy on) mine)) (granted : IsGrantedCall (call.Destroy on)) where
    abbrev without_one : EndId → End
    without_one = destroys_each p (on ∷ []) s.ends

    one-home : home_of s p ≡ k
    one-home = ap (λ hs. slice_index hs p.0) homes ∙ allowed.1

    o : IsGranted p table on
    o = granted-on (is.setting.sound k) p on (first_of-none (destroy_causes (sees p table on)) granted).0

    owns : (s.ends on).place ≡ place.Owned p
    owns = (is.stands.links.owned on p).1 (subst (λ j. IsHereAnd ((w.kernel j).table on) (λ v. v.holder ≡ holder.Owner p)) (sym one-home) (subst (λ y. IsHereAnd y (λ v. v.holder ≡ holder.Owner p)) (sym o.there) o.owner))

    one-step : (act_effect p k made mine table (call.Destroy on)).steps ≡ step.Destroy on ∷ []
    one-step = ap (λ z. (effect_on z (λ v. record (ends_all k table (ended_with on (entry.Here v))) { steps = step.Destroy on ∷ [] })).steps) (owned-of p (table on) o.view o.there o.owner)

    destroys-end : Goal (call.Destroy on) goes
    destroys-end =
        same-traced (links_of (happens w (Calls k p (call.Destroy on) mine))) without_one (state_after s goes.part).ends
        (by-step g i w s k p (call.Destroy on) mine is homes version room allowed goes traced granted (AreAsOpen without_one) (λ t v on is_so. as-open-on is_so on) (step.Destroy on) one-step
        (λ t stepped. subst (λ (z : State). AreAsOpen without_one z.ends) (sym stepped.after) (subst (AreAsOpen without_one) (destroys-one p on s.ends owns) (as-open-same without_one))))
        (destroy-traced i w s k p mine is (subst (λ hs. p.0 < length hs) (sym homes) allowed.0) one-home allowed.2 on o.view o.there o.owner granted traced)

  -- ---- Exit

  -- the same know of a death, and none is unmade
  record IsLike (t : EndId → End) : Type 0 where
    noticed : (q : EndId) → (t q).noticed ≡ (s.ends q).noticed
    made : (q : EndId) → is_made (s.ends q).place ≡ true → is_made (t q).place ≡ true

  like-on : (t v : EndId → End) → AreAsOpen t v → IsLike t → IsLike v
  like-on t v on is_like = record { noticed = λ q. on.noticed q ∙ is_like.noticed q; made = λ q was. by q (is_living (t q).place) refl (is_like.made q was) }
    where
      by : (q : EndId) (b : Bool) → is_living (t q).place ≡ b → is_made (t q).place ≡ true → is_made (v q).place ≡ true
      by q true lives was = living-made (v q).place (on.living q ∙ lives)
      by q false gone was = ap (λ z. is_made z) (on.destroyed q (destroyed-so (t q).place was gone))

  of-kept : (theirs : List EndId) → IsLike (destroys_each p theirs s.ends)
  of-kept theirs = let is_kept : AreKept s.ends (destroys_each p theirs s.ends) = destroys_each-kept p theirs s.ends in record { noticed = is_kept.noticed; made = λ q was. is_kept.made q ∙ was }

  module _ (allowed : IsAllowed g w (Calls k p call.Exit mine)) (goes : Goes i w s (Calls k p call.Exit mine)) (granted : IsGrantedCall call.Exit) where
    abbrev without_mine : EndId → End
    without_mine = destroys_each p mine s.ends

    abbrev then_ends : EndId → End
    then_ends = (state_after s goes.part).ends

    exit-below : p.0 < length s.homes
    exit-below = subst (λ hs. p.0 < length hs) (sym homes) allowed.0

    exit-home : home_of s p ≡ k
    exit-home = ap (λ hs. slice_index hs p.0) homes ∙ allowed.1

    like : IsLike then_ends
    like =
        by-step g i w s k p call.Exit mine is homes version room allowed goes traced granted IsLike like-on (step.Exit p) refl
        (λ t stepped. subst (λ (z : State). IsLike z.ends) (sym stepped.after.after) (of-kept stepped.after.mine))

    kept : AreKept s.ends without_mine
    kept = destroys_each-kept p mine s.ends

    living : (q : EndId) → is_living (then_ends q).place ≡ is_living (without_mine q).place
    living q =
        one-same (is_living (then_ends q).place) (is_living (without_mine q).place)
        (sym (goes.after.stands.links.once q) ∙ exit-once i w s k p mine is exit-below exit-home allowed.2 allowed.4 granted traced q)

    exited : AreAsOpen without_mine then_ends
    exited =
        record {
          living = living;
          noticed = λ q. like.noticed q ∙ sym (kept.noticed q);
          destroyed = λ q dead. destroyed-so (then_ends q).place (like.made q (sym (kept.made q) ∙ ap (λ z. is_made z) dead)) (living q ∙ ap (λ z. is_living z) dead);
        }

    exits : Goal call.Exit goes
    exits = same-traced (links_of (happens w (Calls k p call.Exit mine))) without_mine then_ends exited (exit-traced i w s k p mine is exit-below exit-home allowed.2 allowed.4 granted traced)

-- any call
pub calls-traced : (g : Setting) (i : ℕ) (w : World) (s : State) (k : ℕ) (p : Pid) (c : Call) (mine : List EndId) → Invariant i w s → s.homes ≡ g.homes → s.version ≡ g.version → i < 2 ^ 31 → IsAllowed g w (Calls k p c mine) → (goes : Goes i w s (Calls k p c mine)) → AreTraced (links_of w) s.ends
    → AreTraced (links_of (happens w (Calls k p c mine))) (state_after s goes.part).ends
calls-traced g i w s k p c mine is homes version room allowed goes traced = by (refusal p (w.kernel k).table (w.kernel k).made mine (has_report (process_of p (w.kernel k))) c) refl
  where
    granted : (c : Call) (allowed : IsAllowed g w (Calls k p c mine)) (goes : Goes i w s (Calls k p c mine)) → refusal p (w.kernel k).table (w.kernel k).made mine (has_report (process_of p (w.kernel k))) c ≡ None
        → AreTraced (links_of (happens w (Calls k p c mine))) (state_after s goes.part).ends
    granted (call.Print bytes) allowed goes is_granted = calmly g i w s k p (call.Print bytes) mine is homes version room allowed goes traced is_granted tt tt
    granted call.Make allowed goes is_granted = makes g i w s k p mine is homes version room traced allowed goes is_granted
    granted (call.Destroy on) allowed goes is_granted = destroys-end g i w s k p mine is homes version room traced on allowed goes is_granted
    granted (call.Send on bytes xs) allowed goes is_granted = sends g i w s k p mine is homes version room traced on bytes xs allowed goes is_granted
    granted (call.Receive on) allowed goes is_granted =
        calmly g i w s k p (call.Receive on) mine is homes version room allowed goes traced is_granted
        (on-quiet g i w s k p mine is homes version room traced (owned p ((w.kernel k).table on)) (post_effect k) (λ v. (tt, tt))) tt
    granted (call.Cancel on way.Outward) allowed goes is_granted =
        calmly g i w s k p (call.Cancel on way.Outward) mine is homes version room allowed goes traced is_granted
        (on-quiet g i w s k p mine is homes version room traced (owned p ((w.kernel k).table on)) withdraw_send_effect (λ v. (tt, tt))) tt
    granted (call.Cancel on way.Inward) allowed goes is_granted =
        calmly g i w s k p (call.Cancel on way.Inward) mine is homes version room allowed goes traced is_granted
        (on-quiet g i w s k p mine is homes version room traced (owned p ((w.kernel k).table on)) (λ v. withdraw_posted_effect k v v.inward) (λ v. posted-quiet g i w s k p mine is homes version room traced v v.inward)) tt
    granted call.Wait allowed goes is_granted = calmly g i w s k p call.Wait mine is homes version room allowed goes traced is_granted (tt, tt) tt
    granted call.Exit allowed goes is_granted = exits g i w s k p mine is homes version room traced allowed goes is_granted

    by : (r : Option Cause) → refusal p (w.kernel k).table (w.kernel k).made mine (has_report (process_of p (w.kernel k))) c ≡ r → AreTraced (links_of (happens w (Calls k p c mine))) (state_after s goes.part).ends
    by (Some cause) is_refused = refused g i w s k p c mine is homes version room allowed goes traced cause is_refused
    by None is_granted = granted c allowed goes is_granted
