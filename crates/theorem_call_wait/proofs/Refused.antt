-- A call is refused by its kernel for the cause for which the service refuses it.
use Rattle.std.proofs.Common.{◌≡◌, ◌≢◌, ◌⊎◌, inl, inr, ℕ, ◌<◌, Bool, true, false, nat_eq, ◌||◌, not, is_some, zero, suc, IsSome, cond, IsTrue, List, [], ◌∷◌, length, Contains, Some, None, slice_get, slice_index, refl, sym, ap, subst, ◌∙◌, arith, true≢false, eqb-true, eq-eqb}
use Rattle.std.specs.List.{list_any}
use Rattle.std.proofs.lemmas.Bool.Decides.{eqb_tells}
use Rattle.std.proofs.lemmas.List.Elements.{All-get_or}
use Rattle.charlotte_calls.specs.declared.calls.Report.{Report}
use Rattle.charlotte_calls.proofs.Causes.{AreAlike, first_cause-alike}
use Rattle.charlotte_calls.specs.Calls.{cause_number}
use Rattle.charlotte_calls.specs.Causes.{first_cause, is_started}
use Rattle.charlotte_calls.specs.declared.calls.Call.{Call}
use Rattle.charlotte_calls.specs.declared.calls.Call.TheVariants as call
use Rattle.charlotte_calls.specs.declared.calls.Cause.{Cause}
use Rattle.charlotte_calls.specs.declared.calls.Cause.TheVariants as cause
use Rattle.charlotte_calls.specs.declared.names.EndId.{EndId}
use Rattle.charlotte_calls.specs.declared.names.Pid.{Pid}
use Rattle.end_table.specs.Owned.{owned, is_owner, AreEndsOf}
use Rattle.end_table.specs.declared.entry.Entry.{Entry}
use Rattle.end_table.specs.declared.entry.Entry.TheVariants as entry
use Rattle.end_table.specs.declared.entry.HereView.{HereView}
use Rattle.end_table.specs.declared.entry.Holder.{Holder}
use Rattle.end_table.specs.declared.entry.Holder.TheVariants as holder
use Rattle.end_table.specs.declared.entry.Inward.{Inward as KernelInward}
use Rattle.end_table.specs.declared.entry.Inward.TheVariants as kernel_inward
use Rattle.end_table.specs.declared.entry.Outward.{Outward as KernelOutward}
use Rattle.end_table.specs.declared.entry.Outward.TheVariants as kernel_outward
use Rattle.kernel_step.specs.Actions.{here}
use Rattle.kernel_step.specs.Calls as at_kernel
use Rattle.kernel_step.specs.Kernel.{has_report, process_of}
use Rattle.kernel_step.specs.declared.phase.Phase.TheVariants as kernel_phase
use Rattle.theorem_effects.specs.World.{World}
use Rattle.service_step.specs.Causes as in_service
use Rattle.service_step.specs.Ends.{inward_activity, is_active, is_owned_by, outward_activity}
use Rattle.service_step.specs.State.{State, is_running, next_at, next_link, counted}
use Rattle.service_step.specs.Steps.{runs}
use Rattle.service_step.specs.declared.state.Inward.{Inward}
use Rattle.service_step.specs.declared.state.Inward.TheVariants as inward
use Rattle.service_step.specs.declared.state.Outward.{Outward}
use Rattle.service_step.specs.declared.state.Outward.TheVariants as outward
use Rattle.service_step.specs.declared.state.Place.{Place}
use Rattle.service_step.specs.declared.state.Place.TheVariants as place
use Rattle.theorem_meaning.proofs.Plain.{got}
use Rattle.theorem_meaning.specs.Invariant.{Invariant}
use Rattle.theorem_meaning.specs.Packets.{Links, links_of}
use Rattle.theorem_meaning.specs.StandsFor.{StandsFor, AreLinksOf, IsEndOf, IsOutwardOf, IsInwardOf, IsOwnedHere, IsProcessOf, entry_at, home_of, service_phase}

-- the same process
pid-same : (p q : Pid) → nat_eq p.0 q.0 ≡ true → p ≡ q
pid-same p q is = λ i. record { 0 = eqb-true p.0 q.0 is i }

-- ---- how far a send or a receive has come, at the kernel and in the service

sends-agree : (w : Links) (e : EndId) (n : ℕ) (ko : KernelOutward) (so : Outward) → IsOutwardOf w e n ko so → at_kernel.outward_activity ko ≡ outward_activity so
sends-agree w e n kernel_outward.Idle outward.Idle h = refl
sends-agree w e n (kernel_outward.Waiting m bytes xs) (outward.Waiting message) h = refl
sends-agree w e n (kernel_outward.Matched m) (outward.Matched message) h = refl
sends-agree w e n (kernel_outward.Matched m) outward.Taken h = refl
sends-agree w e n kernel_outward.Unreported outward.Unreported h = refl
sends-agree w e n _ _ h = absurd h

receives-agree : (w : Links) (e : EndId) (ki : KernelInward) (si : Inward) → IsInwardOf w e ki si → at_kernel.inward_activity ki ≡ inward_activity si
receives-agree w e kernel_inward.Idle inward.Idle h = refl
receives-agree w e (kernel_inward.Posted v) (inward.Matched n) h = refl
receives-agree w e (kernel_inward.Posted v) inward.Withdrawn h = refl
receives-agree w e (kernel_inward.Posted v) inward.Posted h = refl
receives-agree w e (kernel_inward.Withdrawing v) (inward.Matched n) h = refl
receives-agree w e (kernel_inward.Withdrawing v) inward.Withdrawn h = refl
receives-agree w e (kernel_inward.Withdrawing v) inward.Posted h = refl
receives-agree w e kernel_inward.Unreported inward.Unreported h = refl
receives-agree w e _ _ h = absurd h

-- ---- a process and its ends

-- process p, at its home k, runs
pub record IsCaller (w : World) (s : State) (p : Pid) (k : ℕ) (mine : List EndId) : Type 0 where
  pub below : p.0 < length s.homes
  pub at : home_of s p ≡ k
  pub running : ((w.kernel k).process p.0).phase ≡ kernel_phase.Running

pub caller-process : (w : World) (s : State) (p : Pid) (k : ℕ) (mine : List EndId) → StandsFor w s → IsCaller w s p k mine → IsProcessOf ((w.kernel k).process p.0) (s.process p.0)
caller-process w s p k mine st c = subst (λ j. IsProcessOf ((w.kernel j).process p.0) (s.process p.0)) c.at (st.processes p c.below)

pub caller-runs : (w : World) (s : State) (p : Pid) (k : ℕ) (mine : List EndId) → StandsFor w s → IsCaller w s p k mine → IsTrue (runs s p)
caller-runs w s p k mine st c = subst (λ f. IsTrue (is_running f)) (sym ((caller-process w s p k mine st c).phase ∙ ap service_phase c.running)) refl

module _ (w : Links) (s : State) (p : Pid) (k : ℕ) (at : home_of s p ≡ k) (links : AreLinksOf w s) where
  -- p owns an end, at its kernel and in the service
  pub record IsOwn (e : EndId) : Type 0 where
    pub view : HereView
    pub entry : entry_at w k e ≡ entry.Here view
    pub owned : owned p (entry_at w k e) ≡ Some view
    pub place : (s.ends e).place ≡ place.Owned p
    pub end : IsEndOf w e view (s.ends e)

  -- or it does not
  pub record IsOthers (e : EndId) : Type 0 where
    pub owned : owned p (entry_at w k e) ≡ None
    pub place : is_owned_by p (s.ends e).place ≡ false

  held : (e : EndId) → (s.ends e).place ≡ place.Owned p → IsOwnedHere p (entry_at w k e)
  held e is = subst (λ j. IsOwnedHere p (entry_at w j e)) at ((links.owned e p).0 is)

  not-owned : (e : EndId) → (IsOwnedHere p (entry_at w k e) → ⊥) → is_owned_by p (s.ends e).place ≡ false
  not-owned e away = by (s.ends e).place refl
    where
      own : (q : Pid) → (s.ends e).place ≡ place.Owned q → (b : Bool) → nat_eq p.0 q.0 ≡ b → b ≡ false
      own q is true same = absurd (away (held e (is ∙ ap place.Owned (sym (pid-same p q same)))))
      own q is false same = refl

      by : (x : Place) → (s.ends e).place ≡ x → is_owned_by p x ≡ false
      by (place.Owned q) is = own q is (nat_eq p.0 q.0) refl
      by (place.InMessage f n) is = refl
      by place.Destroyed is = refl
      by place.Unmade is = refl

  pub own : (e : EndId) → IsOthers e ⊎ IsOwn e
  own e = by (entry_at w k e) refl
    where
      others : (x : Entry) → entry_at w k e ≡ x → owned p x ≡ None → (IsOwnedHere p x → ⊥) → IsOthers e ⊎ IsOwn e
      others x is none away = inl (record { owned = ap (owned p) is ∙ none; place = not-owned e (λ h. away (subst (IsOwnedHere p) is h)) })

      mine : (v : HereView) → entry_at w k e ≡ entry.Here v → v.holder ≡ holder.Owner p → IsOwn e
      mine v is owner =
          let placed : (s.ends e).place ≡ place.Owned p = (links.owned e p).1 (subst (λ j. IsOwnedHere p (entry_at w j e)) (sym at) (subst (IsOwnedHere p) (sym is) owner)) in
          record {
            view = v;
            entry = is;
            owned = ap (owned p) is ∙ ap (λ h. cond (is_owner p h) (Some v) None) owner ∙ ap (λ b. cond b (Some v) None) (eq-eqb p.0 p.0 refl);
            place = placed;
            end = links.agree e p v placed (subst (λ j. entry_at w j e ≡ entry.Here v) (sym at) is);
          }

      holds : (v : HereView) → entry_at w k e ≡ entry.Here v → (h : Holder) → v.holder ≡ h → IsOthers e ⊎ IsOwn e
      holds v is (holder.EnclosedIn f) held_by = others (entry.Here v) is (ap (λ h. cond (is_owner p h) (Some v) None) held_by) (λ same. differ (sym held_by ∙ same))
        where
          differ : holder.EnclosedIn f ≡ holder.Owner p → ⊥
          differ h = cc
      holds v is (holder.Owner q) held_by = choose (nat_eq p.0 q.0) refl
        where
          choose : (b : Bool) → nat_eq p.0 q.0 ≡ b → IsOthers e ⊎ IsOwn e
          choose true same = inr (mine v is (held_by ∙ ap holder.Owner (sym (pid-same p q same))))
          choose false same =
              others (entry.Here v) is (ap (λ h. cond (is_owner p h) (Some v) None) held_by ∙ ap (λ b. cond b (Some v) None) same)
              (λ owner. true≢false (sym (eq-eqb p.0 q.0 (let is_q : holder.Owner p ≡ holder.Owner q = sym owner ∙ held_by in let pq : p ≡ q = cc in ap (λ (z : Pid). z.0) pq)) ∙ same))

      by : (x : Entry) → entry_at w k e ≡ x → IsOthers e ⊎ IsOwn e
      by entry.Nothing is = others entry.Nothing is refl (λ h. h)
      by (entry.Here v) is = holds v is v.holder refl
      by (entry.Left to hops) is = others (entry.Left to hops) is refl (λ h. h)
      by (entry.Destroyed m) is = others (entry.Destroyed m) is refl (λ h. h)

  own-owned : (e : EndId) (o : IsOwn e) → is_owned_by p (s.ends e).place ≡ true
  own-owned e o = ap (is_owned_by p) o.place ∙ eq-eqb p.0 p.0 refl

  sends-same : (e : EndId) (o : IsOwn e) → at_kernel.outward_activity o.view.outward ≡ outward_activity (s.ends e).outward
  sends-same e o = sends-agree w e (s.ends e).sent o.view.outward (s.ends e).outward o.end.outward

  receives-same : (e : EndId) (o : IsOwn e) → at_kernel.inward_activity o.view.inward ≡ inward_activity (s.ends e).inward
  receives-same e o = receives-agree w e o.view.inward (s.ends e).inward o.end.inward

  -- what p sees of an end that it owns is the same at its kernel and in the service
  alike : (e : EndId) → AreAlike (at_kernel.sees p (w.entry k) e) (in_service.sees p s.ends e)
  alike e = by (own e)
    where
      by : IsOthers e ⊎ IsOwn e → AreAlike (at_kernel.sees p (w.entry k) e) (in_service.sees p s.ends e)
      by (inl o) = inr (ap (λ x. (at_kernel.seen x).owned) o.owned, o.place)
      by (inr o) = inl (ap at_kernel.seen o.owned ∙ (λ i. record { owned = sym (own-owned e o) i; outward = sends-same e o i; inward = receives-same e o i; dead = sym o.end.noticed i }))

  -- so the kernel and the service refuse a call other than Wait for the same cause
  pub calls-same : (made : ℕ) (c : Call) → first_cause (at_kernel.sees p (w.entry k)) made c ≡ first_cause (in_service.sees p s.ends) made c
  calls-same made c = first_cause-alike (at_kernel.sees p (w.entry k)) (in_service.sees p s.ends) alike made c

  -- and an activity is started in the service exactly where one is at the kernel
  pub started-same : (e : EndId) (o : IsOwn e) → at_kernel.is_active (here (entry_at w k e)) ≡ is_active (s.ends e)
  started-same e o = ap (λ x. at_kernel.is_active (here x)) o.entry ∙ (λ i. is_started (sends-same e o i) || is_started (receives-same e o i))

  active-same : (e : EndId) → IsTrue (is_owned_by p (s.ends e).place) → IsTrue (is_active (s.ends e)) → at_kernel.is_active (here (entry_at w k e)) ≡ true
  active-same e is_own active = by (own e)
    where
      by : IsOthers e ⊎ IsOwn e → at_kernel.is_active (here (entry_at w k e)) ≡ true
      by (inl o) = absurd (true≢false (sym is_own ∙ o.place))
      by (inr o) = started-same e o ∙ active

-- ---- the causes of a call

contains-any : {X : Type 0} (f : X → Bool) (xs : List X) (x : X) → Contains xs x → f x ≡ true → list_any f xs ≡ true
contains-any f [] x has is = absurd (omega (arith, has.1))
contains-any f (y ∷ ys) x (zero, below, at) is = ap (λ b. b || list_any f ys) (ap f at ∙ is)
contains-any f (y ∷ ys) x (suc j, below, at) is = later (f y) (contains-any f ys x (j, omega arith, at) is)
  where
    later : (b : Bool) → list_any f ys ≡ true → (b || list_any f ys) ≡ true
    later true rest = refl
    later false rest = rest

any-contains : {X : Type 0} (f : X → Bool) (xs : List X) → list_any f xs ≡ true → (x : X) × Contains xs x × (f x ≡ true)
any-contains f [] is = absurd (true≢false (sym is))
any-contains {X} f (y ∷ ys) is = by (f y) refl (any-contains f ys) is
  where
    by : (b : Bool) → f y ≡ b → (list_any f ys ≡ true → (x : X) × Contains ys x × (f x ≡ true)) → (b || list_any f ys) ≡ true → (x : X) × Contains (y ∷ ys) x × (f x ≡ true)
    by true first later is = (y, (zero, omega arith, refl), first)
    by false first later is = let x = later is in (x.0, (suc x.1.0, omega (arith, x.1.1), x.1.2), x.2)

module _ (i : ℕ) (w : World) (s : State) (p : Pid) (k : ℕ) (mine : List EndId) (is : Invariant i w s) (calls : IsCaller w s p k mine) where
  abbrev l : Links
  l = links_of w

  links : AreLinksOf l s
  links = is.stands.links

  home-below : home_of s p < length s.made
  home-below = All-get_or (λ h. h < length s.made) s.homes p.0 0 calls.below is.setting.homes

  made-same : (w.kernel k).made ≡ in_service.made_before (next_link s p)
  made-same = sym (is.setting.made k) ∙ ap (slice_index s.made) (sym calls.at) ∙ sym (ap in_service.made_before next)
    where
      next : next_at (slice_get s.homes p.0) s.made ≡ Some (record { maker = home_of s p; count = slice_index s.made (home_of s p) })
      next = ap (λ h. next_at h s.made) (got s.homes p.0 calls.below) ∙ ap (counted (home_of s p)) (got s.made (home_of s p) home-below)

  no_report : has_report (process_of p (w.kernel k)) ≡ false → (s.process p.0).reports ≡ []
  no_report none = (caller-process w s p k mine is.stands calls).reports ∙ empty ((w.kernel k).process p.0).reports none
    where
      empty : (rs : List Report) → not (nat_eq (length rs) 0) ≡ false → rs ≡ []
      empty [] none = refl
      empty (r ∷ rs) none = absurd (some (length (r ∷ rs)) (omega arith) (eqb_tells (length (r ∷ rs)) 0) none)
        where
          some : (n : ℕ) → 0 < n → ((nat_eq n 0 ≡ true) × (n ≡ 0)) ⊎ ((nat_eq n 0 ≡ false) × (n ≢ 0)) → not (nat_eq n 0) ≡ false → ⊥
          some n above (inl h) none = omega (arith, h.1)
          some n above (inr h) none = true≢false (sym (ap not h.0) ∙ none)

  wait-for : (why : Cause) → AreEndsOf p (w.kernel k).table mine → (b c : Bool) → has_report (process_of p (w.kernel k)) ≡ b → list_any (λ e. at_kernel.is_active (here (entry_at l k e))) mine ≡ c
      → cond (b || c) None (Some cause.NoActivity) ≡ Some why → in_service.IsRefusedFor s p call.Wait why
  wait-for why ends true c reported active refused = absurd (none_some why refused)
    where
      none_some : (why : Cause) → None ≡ Some why → ⊥
      none_some why h = cc
  wait-for why ends false true reported active refused = absurd (none_some why refused)
    where
      none_some : (why : Cause) → None ≡ Some why → ⊥
      none_some why h = cc
  wait-for why ends false false reported active refused = (subst (λ z. in_service.is_cause z (Some cause.NoActivity) ≡ true) (let same : cause.NoActivity ≡ why = cc in same) refl, idle)
    where
      idle : in_service.HasActivity s p → ⊥
      idle (inl some) = some (no_report reported)
      idle (inr started) =
          let e = started.0 in
          let there : Contains mine e = (ends.all e).1 (some_owned e (own l s p k calls.at links e) started.1) in
          true≢false (sym (contains-any (λ x. at_kernel.is_active (here (entry_at l k x))) mine e there (active-same l s p k calls.at links e started.1 started.2)) ∙ active)
        where
          some_owned : (e : EndId) → IsOthers l s p k calls.at links e ⊎ IsOwn l s p k calls.at links e → IsTrue (is_owned_by p (s.ends e).place) → IsSome (owned p (entry_at l k e))
          some_owned e (inl o) is_own = absurd (true≢false (sym is_own ∙ o.place))
          some_owned e (inr o) is_own = subst IsSome (sym o.owned) refl

  for-same : (c : Call) (why : Cause) → first_cause (at_kernel.sees p (w.kernel k).table) (w.kernel k).made c ≡ Some why → IsTrue (in_service.is_cause why (in_service.refusal s p c))
  for-same c why refused = subst (λ r. in_service.is_cause why r ≡ true) (sym (sym same ∙ refused)) (eq-eqb (cause_number why) (cause_number why) refl)
    where
      same : first_cause (at_kernel.sees p (w.kernel k).table) (w.kernel k).made c ≡ in_service.refusal s p c
      same = ap (λ n. first_cause (at_kernel.sees p (w.kernel k).table) n c) made-same ∙ calls-same l s p k calls.at links (in_service.made_before (next_link s p)) c

  -- a call that its kernel refuses is refused by the service for the same cause
  pub refused-for : (c : Call) (why : Cause) → at_kernel.IsCallWith p (w.kernel k).table mine c → at_kernel.refusal p (w.kernel k).table (w.kernel k).made mine (has_report (process_of p (w.kernel k))) c ≡ Some why
      → in_service.IsRefusedFor s p c why
  refused-for call.Make why with_mine refused = for-same call.Make why refused
  refused-for (call.Destroy on) why with_mine refused = for-same (call.Destroy on) why refused
  refused-for (call.Send on bytes xs) why with_mine refused = for-same (call.Send on bytes xs) why refused
  refused-for (call.Receive on) why with_mine refused = for-same (call.Receive on) why refused
  refused-for (call.Cancel on wy) why with_mine refused = for-same (call.Cancel on wy) why refused
  refused-for call.Wait why with_mine refused = wait-for why with_mine (has_report (process_of p (w.kernel k))) (list_any (λ e. at_kernel.is_active (here (entry_at l k e))) mine) refl refl refused
  refused-for (call.Print bytes) why with_mine refused = for-same (call.Print bytes) why refused
  refused-for call.Exit why with_mine refused = for-same call.Exit why refused

  -- a Wait that its kernel does not refuse finds a report or a started activity in the service
  pub wait-granted : AreEndsOf p (w.kernel k).table mine → at_kernel.refusal p (w.kernel k).table (w.kernel k).made mine (has_report (process_of p (w.kernel k))) call.Wait ≡ None → in_service.HasActivity s p
  wait-granted ends granted = by (has_report (process_of p (w.kernel k))) (list_any (λ e. at_kernel.is_active (here (entry_at l k e))) mine) refl refl granted
    where
      reports-same : (s.process p.0).reports ≡ ((w.kernel k).process p.0).reports
      reports-same = (caller-process w s p k mine is.stands calls).reports

      started : (e : EndId) → IsSome (owned p (entry_at l k e)) → at_kernel.is_active (here (entry_at l k e)) ≡ true → IsOthers l s p k calls.at links e ⊎ IsOwn l s p k calls.at links e → in_service.HasStarted s.ends p
      started e some active (inl o) = absurd (true≢false (sym some ∙ ap is_some o.owned))
      started e some active (inr o) = (
        e,
        ap (is_owned_by p) o.place ∙ eq-eqb p.0 p.0 refl,
        sym (started-same l s p k calls.at links e o) ∙ active,
      )

      by : (b c : Bool) → has_report (process_of p (w.kernel k)) ≡ b → list_any (λ e. at_kernel.is_active (here (entry_at l k e))) mine ≡ c → cond (b || c) None (Some cause.NoActivity) ≡ None → in_service.HasActivity s p
      by true c reported active granted = inl (λ none. true≢false (sym reported ∙ ap (λ rs. not (nat_eq (length rs) 0)) (sym reports-same ∙ none)))
      by false true reported active granted =
          let one = any-contains (λ e. at_kernel.is_active (here (entry_at l k e))) mine active in
          inr (started one.0 ((ends.all one.0).0 one.1) one.2 (own l s p k calls.at links one.0))
      by false false reported active granted = absurd (some_none granted)
        where
          some_none : Some cause.NoActivity ≡ None → ⊥
          some_none h = cc
