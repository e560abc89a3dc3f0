-- Calls that are calm, and those that are refused, keep all that is true of the traces of ends.
use Rattle.std.proofs.Common.{◌≡◌, ◌≢◌, ◌⊎◌, inl, inr, ℕ, Bool, true, false, nat_eq, if◌then◌else◌, List, [], ◌∷◌, length, IfSome, Option, Some, None, refl, sym, subst, ◌∙◌, eq-eqb, true≢false}
use Rattle.std.proofs.lemmas.Bool.Decides.{eqb_tells}
use Rattle.charlotte_calls.specs.Names.{opposite}
use Rattle.charlotte_calls.specs.declared.calls.Call.{Call}
use Rattle.charlotte_calls.specs.declared.calls.Call.TheVariants as call
use Rattle.charlotte_calls.specs.declared.calls.Cause.{Cause}
use Rattle.charlotte_calls.specs.declared.calls.Report.{Report}
use Rattle.charlotte_calls.specs.declared.calls.ServiceStep.TheVariants as step
use Rattle.charlotte_calls.specs.declared.names.EndId.{EndId}
use Rattle.charlotte_calls.specs.declared.names.Pid.{Pid}
use Rattle.charlotte_calls.specs.declared.names.Way.{Way}
use Rattle.charlotte_calls.specs.declared.names.Way.TheVariants as way
use Rattle.charlotte_calls.specs.declared.setting.Setting.{Setting}
use Rattle.charlotte_packets.specs.declared.picture.Picture.{Picture}
use Rattle.charlotte_packets.specs.declared.picture.PictureWhat.{PictureWhat}
use Rattle.charlotte_packets.specs.declared.picture.PictureWhat.TheVariants as packet
use Rattle.end_table.proofs.EndEq.{end_eq-same}
use Rattle.end_table.specs.Entries.{gains_one}
use Rattle.end_table.specs.Owned.{is_owner, owned}
use Rattle.end_table.specs.Place.{end_eq}
use Rattle.end_table.specs.Table.{IfHere, IsHereAnd, IsOfEnd}
use Rattle.end_table.specs.declared.entry.Entry.{Entry}
use Rattle.end_table.specs.declared.entry.Entry.TheVariants as entry
use Rattle.end_table.specs.declared.entry.HereView.{HereView}
use Rattle.end_table.specs.declared.entry.Holder.{Holder}
use Rattle.end_table.specs.declared.entry.Holder.TheVariants as holder
use Rattle.end_table.specs.declared.entry.Inward.{Inward}
use Rattle.end_table.specs.declared.entry.Inward.TheVariants as inward
use Rattle.end_table.specs.declared.entry.Outward.TheVariants as outward
use Rattle.kernel_effects.proofs.Uses.{puts-each, turns-each}
use Rattle.kernel_effects.specs.Actions.{held_entry, match_effect}
use Rattle.kernel_effects.specs.Calls.{act_effect, effect_on, post_effect, send_effect, sending_view, withdraw_posted_effect, withdraw_receive_effect, withdraw_send_effect}
use Rattle.kernel_effects.specs.Effect.{Effect, nothing, puts, stays, turns}
use Rattle.kernel_outcomes.specs.Closing.{call_told, told_entry}
use Rattle.kernel_step.specs.Actions.{enclosed_of}
use Rattle.kernel_step.specs.Calls.{refusal}
use Rattle.kernel_step.specs.Kernel.{has_report, process_of, reported_entry}
use Rattle.kernel_world.specs.Run.{IsAllowed}
use Rattle.kernel_world.specs.World.{Calls, World, happens}
use Rattle.service_step.specs.State.{State}
use Rattle.service_step.specs.declared.state.End.{End}
use Rattle.trace_events.proofs.Allowed.{performs-allowed}
use Rattle.trace_events.proofs.Ends.{all_sent-weaker}
use Rattle.trace_events.proofs.Happens.{refused-happens}
use Rattle.trace_events.specs.Change.{Change, Changes, Happens}
use Rattle.trace_events.specs.Events.{caller, calling, refusing}
use Rattle.trace_events.specs.Sums.{AllSent}
use Rattle.trace_events.specs.Under.{IsTaken}
use Rattle.theorem_meaning.proofs.Ends.{opposite-twice}
use Rattle.theorem_meaning.specs.Invariant.{Invariant}
use Rattle.theorem_meaning.specs.Packets.{Links, links_of, values_of}
use Rattle.theorem_meaning.specs.StandsFor.{entry_at}
use Rattle.theorem_take_silent.proofs.Places.{here-living}
use Rattle.trace_calm.proofs.Calm.{calm-traced}
use Rattle.trace_calm.proofs.Steady.{steady-calm}
use Rattle.trace_calm.specs.Calm.{AreAsOpen, IsCalmCall, IsPassedOn, IsSteadily, IsTrueAsk}
use Rattle.trace_calm.specs.Steady.{IsSteady}
use Rattle.trace_meaning.specs.Traces.{AreTraced}

-- ---- entries

pub steadily-same : (y : Entry) → IsSteadily y y
steadily-same entry.Nothing = tt
steadily-same (entry.Here v) = refl
steadily-same (entry.Left to hops) = (refl, refl)
steadily-same (entry.Destroyed m) = refl

-- a report that is given frees a way of an end
reported-calm : (w : Way) (y z : Entry) → IsSteadily y z → IsSteadily y (reported_entry w z)
reported-calm w entry.Nothing entry.Nothing like = tt
reported-calm way.Outward (entry.Here v) (entry.Here x) like = like
reported-calm way.Inward (entry.Here v) (entry.Here x) like = like
reported-calm w (entry.Left to hops) (entry.Left there more) like = like
reported-calm w (entry.Destroyed m) (entry.Destroyed l) like = like
reported-calm w _ _ like = absurd like

pub told-calm : (rs : List Report) (e : EndId) (y z : Entry) → IsSteadily y z → IsSteadily y (told_entry rs e z)
told-calm [] e y z like = like
told-calm (r ∷ rs) e y z like = by (end_eq r.on e)
  where
    by : (b : Bool) → IsSteadily y (if b then reported_entry r.way z else z)
    by true = reported-calm r.way y z like
    by false = like

held-calm : (h : Holder) (y : Entry) → IsSteadily y (held_entry h y)
held-calm h entry.Nothing = tt
held-calm h (entry.Here v) = refl
held-calm h (entry.Left to hops) = (refl, refl)
held-calm h (entry.Destroyed m) = refl

puts-calm : (y : EndId → Entry) (e : EndId) (x : Entry) (others : EndId → Entry → Entry) → IsSteadily (y e) x → ((q : EndId) → IsSteadily (y q) (others q (y q))) → (q : EndId) → IsSteadily (y q) (puts e x others q (y q))
puts-calm y e x others own rest q = puts-each (IsSteadily (y q)) e x others q (y q) (λ same. subst (λ z. IsSteadily (y z) x) (end_eq-same e q same) own) (λ other. rest q)

pub turns-calm : (y : EndId → Entry) (xs : List EndId) (h : Holder) (q : EndId) → IsSteadily (y q) (turns xs (held_entry h) stays q (y q))
turns-calm y xs h q = turns-each (IsSteadily (y q)) xs (held_entry h) stays q (y q) (λ among. held-calm h (y q)) (λ other. steadily-same (y q))

-- ---- effects at kernel k, which keeps y of each end

-- a packet asks for a receive of an end that is here, or takes it back
abbrev IsAskHere : ℕ → (EndId → Entry) → PictureWhat → Type 0
IsAskHere k y (packet.Want to n j h) = (j ≡ k) × IsHereAnd (y (opposite to)) (λ v. v.value.hops ≡ h)
IsAskHere k y (packet.Unwant to n j h) = (j ≡ k) × IsHereAnd (y (opposite to)) (λ v. v.value.hops ≡ h)
IsAskHere k y _ = ⊥

record IsCalmEffect (k : ℕ) (y : EndId → Entry) (f : Effect) : Type 0 where
  entry : (e : EndId) → IsSteadily (y e) (f.entry e (y e))
  sent : AllSent (λ to what. IsAskHere k y what) f.packets

module _ (p : Pid) (k made : ℕ) (mine : List EndId) (y : EndId → Entry) (own : (e : EndId) → IsOfEnd e (y e)) where
  nothing-calm : IsCalmEffect k y nothing
  nothing-calm = record { entry = λ e. steadily-same (y e); sent = tt }

  -- the view of an end is of that end
  there : (on : EndId) (v : HereView) → y on ≡ entry.Here v → y v.value.end ≡ entry.Here v
  there on v is = subst (λ z. y z ≡ entry.Here v) (sym (subst (IsOfEnd on) is (own on))) is

  asks-here : (v : HereView) → y v.value.end ≡ entry.Here v → IsHereAnd (y (opposite (opposite v.value.end))) (λ x. x.value.hops ≡ v.value.hops)
  asks-here v is =
      subst (λ z. IsHereAnd (y z) (λ x. x.value.hops ≡ v.value.hops)) (sym (opposite-twice v.value.end)) (subst (λ z. IsHereAnd z (λ x. x.value.hops ≡ v.value.hops)) (sym is) refl)

  here-calm : (v x : HereView) → y v.value.end ≡ entry.Here v → IsSteadily (entry.Here v) (entry.Here x) → IsSteadily (y v.value.end) (entry.Here x)
  here-calm v x is like = subst (λ z. IsSteadily z (entry.Here x)) (sym is) like

  -- the view of an end as its next receive is posted
  abbrev posted : HereView → HereView
  posted v = record v { value = record v.value { asked = gains_one v.value.asked }; inward = inward.Posted (gains_one v.value.asked) }

  post-calm : (v : HereView) → y v.value.end ≡ entry.Here v → IsCalmEffect k y (post_effect k v)
  post-calm v is = record { entry = puts-calm y v.value.end (entry.Here (posted v)) stays (here-calm v (posted v) is refl) (λ q. steadily-same (y q)); sent = ((refl, asks-here v is), tt) }

  withdraw-send-calm : (v : HereView) → y v.value.end ≡ entry.Here v → IsCalmEffect k y (withdraw_send_effect v)
  withdraw-send-calm v is =
      record { entry = puts-calm y v.value.end (entry.Here (record v { outward = outward.Idle })) (turns (enclosed_of v.outward) (held_entry v.holder) stays) (here-calm v (record v { outward = outward.Idle }) is refl) (turns-calm y (enclosed_of v.outward) v.holder); sent = tt }

  withdraw-receive-calm : (n : ℕ) (v : HereView) → y v.value.end ≡ entry.Here v → IsCalmEffect k y (withdraw_receive_effect k n v)
  withdraw-receive-calm n v is = record { entry = puts-calm y v.value.end (entry.Here (record v { inward = inward.Withdrawing n })) stays (here-calm v (record v { inward = inward.Withdrawing n }) is refl) (λ q. steadily-same (y q)); sent = ((refl, asks-here v is), tt) }

  withdraw-posted-calm : (v : HereView) (i : Inward) → y v.value.end ≡ entry.Here v → IsCalmEffect k y (withdraw_posted_effect k v i)
  withdraw-posted-calm v inward.Idle is = nothing-calm
  withdraw-posted-calm v (inward.Posted n) is = withdraw-receive-calm n v is
  withdraw-posted-calm v (inward.Withdrawing n) is = nothing-calm
  withdraw-posted-calm v inward.Unreported is = nothing-calm

  send-calm : (bytes : List ℕ) (xs : List EndId) (v : HereView) → y v.value.end ≡ entry.Here v → v.value.want ≡ 0 → IsCalmEffect k y (send_effect k y bytes xs v)
  send-calm bytes xs v is unwanted = by (nat_eq v.value.want 0) (eq-eqb v.value.want 0 unwanted)
    where
      waits : Effect
      waits =
          record nothing {
            entry = puts v.value.end (entry.Here (sending_view v bytes xs)) (turns xs (held_entry (holder.EnclosedIn v.value.end)) stays);
            steps = step.Send v.value.end (gains_one v.value.sent) bytes xs ∷ [];
          }

      goes : Effect
      goes =
          record (match_effect k y (sending_view v bytes xs) (gains_one v.value.sent) bytes xs) {
            steps = step.Send v.value.end (gains_one v.value.sent) bytes xs ∷ step.Match v.value.end (gains_one v.value.sent) ∷ [];
          }

      by : (b : Bool) → b ≡ true → IsCalmEffect k y (if b then waits else goes)
      by true so =
          record { entry = puts-calm y v.value.end (entry.Here (sending_view v bytes xs)) (turns xs (held_entry (holder.EnclosedIn v.value.end)) stays) (here-calm v (sending_view v bytes xs) is refl) (turns-calm y xs (holder.EnclosedIn v.value.end)); sent = tt }
      by false so = absurd (true≢false (sym so))

  -- the part of a call on an end that its process owns
  on-calm : (on : EndId) (part : HereView → Effect) → ((v : HereView) → y on ≡ entry.Here v → IsCalmEffect k y (part v)) → IsCalmEffect k y (effect_on (owned p (y on)) part)
  on-calm on part each = by (y on) refl
    where
      by : (x : Entry) → y on ≡ x → IsCalmEffect k y (effect_on (owned p x) part)
      by entry.Nothing is = nothing-calm
      by (entry.Left to hops) is = nothing-calm
      by (entry.Destroyed m) is = nothing-calm
      by (entry.Here v) is = at (is_owner p v.holder)
        where
          at : (b : Bool) → IsCalmEffect k y (effect_on (if b then Some v else None) part)
          at true = each v is
          at false = nothing-calm

  act-calm : (c : Call) → IsCalmCall y c → IsCalmEffect k y (act_effect p k made mine y c)
  act-calm call.Make calm = absurd calm
  act-calm (call.Destroy on) calm = absurd calm
  act-calm (call.Send on bytes xs) calm = on-calm on (send_effect k y bytes xs) (λ v is. send-calm bytes xs v (there on v is) (subst (λ x. IfHere x (λ u. u.value.want ≡ 0)) is calm))
  act-calm (call.Receive on) calm = on-calm on (post_effect k) (λ v is. post-calm v (there on v is))
  act-calm (call.Cancel on way.Outward) calm = on-calm on withdraw_send_effect (λ v is. withdraw-send-calm v (there on v is))
  act-calm (call.Cancel on way.Inward) calm = on-calm on (λ v. withdraw_posted_effect k v v.inward) (λ v is. withdraw-posted-calm v v.inward (there on v is))
  act-calm call.Wait calm = record { entry = λ e. steadily-same (y e); sent = tt }
  act-calm (call.Print bytes) calm = nothing-calm
  act-calm call.Exit calm = absurd calm

-- ---- an event that takes no packet

ask-bare : (k : ℕ) (y : EndId → Entry) (q : PictureWhat) → IsAskHere k y q → values_of q ≡ []
ask-bare k y (packet.Want to n j h) ask = refl
ask-bare k y (packet.Unwant to n j h) ask = refl
ask-bare k y _ ask = absurd ask

none-some : (a : ℕ × Picture) → None ≡ Some a → ⊥
none-some a same = cc

module _ {w u : Links} {c : Change} (b : Changes w c u) (t : EndId → End) (none : c.taken ≡ None) (like : (e : EndId) → IsSteadily (w.entry c.kernel e) (c.entry e (w.entry c.kernel e)))
    (asks : AllSent (λ to what. IsAskHere c.kernel (w.entry c.kernel) what) c.packets) where
  ask-true : (q : PictureWhat) → IsAskHere c.kernel (w.entry c.kernel) q → IsTrueAsk w q
  ask-true (packet.Want to n j h) ask = subst (λ z. IsHereAnd (w.entry z (opposite to)) (λ v. v.value.hops ≡ h)) (sym ask.0) ask.1
  ask-true (packet.Unwant to n j h) ask = subst (λ z. IsHereAnd (w.entry z (opposite to)) (λ v. v.value.hops ≡ h)) (sym ask.0) ask.1
  ask-true _ ask = absurd ask

  not-taken : (P : PictureWhat → Type 0) → IsTaken c P → ⊥
  not-taken P x = none-some (x.from, x.packet) (sym none ∙ x.taken)

  entry-calm : (k : ℕ) (e : EndId) → IsSteadily (entry_at w k e) (entry_at u k e)
  entry-calm k e = by (eqb_tells k c.kernel)
    where
      by : ((nat_eq k c.kernel ≡ true) × (k ≡ c.kernel)) ⊎ ((nat_eq k c.kernel ≡ false) × (k ≢ c.kernel)) → IsSteadily (w.entry k e) (u.entry k e)
      by (inl is) = subst (λ j. IsSteadily (w.entry j e) (u.entry j e)) (sym is.1) (subst (IsSteadily (w.entry c.kernel e)) (sym (b.entry e)) (like e))
      by (inr is) = subst (IsSteadily (w.entry k e)) (sym (b.others k e is.0)) (steadily-same (w.entry k e))

  pub untaken-steady : IsSteady w u c t
  untaken-steady =
      record {
        entries = entry-calm;
        bare = subst (λ o. IfSome o (λ q. values_of q.1.what ≡ [])) (sym none) tt;
        sent_bare = all_sent-weaker (λ to what. IsAskHere c.kernel (w.entry c.kernel) what) (λ to what. values_of what ≡ []) (λ to what. ask-bare c.kernel (w.entry c.kernel) what) c.packets asks;
        sent = all_sent-weaker (λ to what. IsAskHere c.kernel (w.entry c.kernel) what) (λ to what. IsPassedOn c what ⊎ IsTrueAsk w what) (λ to what ask. inr (ask-true what ask)) c.packets asks;
        known = λ e v is open_yet taken. not-taken _ taken;
        forget = λ e to h g is taken covers. not-taken _ taken;
        seen = λ e m is taken. not-taken _ taken;
        moved = λ e k v is taken chain. absurd (not-taken _ taken);
        gone = λ e d m taken chain. absurd (not-taken _ taken);
      }

-- ---- calls

module _ (i : ℕ) (w : World) (s : State) (k : ℕ) (p : Pid) (c : Call) (mine : List EndId) (now : EndId → End) (is : Invariant i w s) (as_open : AreAsOpen s.ends now) (traced : AreTraced (links_of w) s.ends) where
  after : (d : Change) → Happens w (Calls k p c mine) d → IsSteady (links_of w) (links_of (happens w (Calls k p c mine))) d s.ends → AreTraced (links_of (happens w (Calls k p c mine))) now
  after d happened steady =
      calm-traced happened.becomes.links s.ends now (steady-calm happened.becomes.links s.ends steady) as_open (λ k e m at. (is.links.marked e).destroyed k m at)
      (λ k e v at. here-living (length s.made) (links_of w) s.ends is.setting.few is.links.named is.links.marked is.stands.links.once e k v at) is.service.noticed.opposite traced

  -- one that is refused
  pub refused-traced : (cause : Cause) → refusal p (w.kernel k).table (w.kernel k).made mine (has_report (process_of p (w.kernel k))) c ≡ Some cause → AreTraced (links_of (happens w (Calls k p c mine))) now
  refused-traced cause refused =
      let happened : Happens w (Calls k p c mine) (refusing w k p c cause) = refused-happens w k p c mine cause refused in
      after (refusing w k p c cause) happened (untaken-steady happened.becomes.links s.ends refl (λ e. steadily-same ((w.kernel k).table e)) tt)

  -- one that is not
  granted-traced : (g : Setting) → IsAllowed g w (Calls k p c mine) → IsCalmCall (w.kernel k).table c → refusal p (w.kernel k).table (w.kernel k).made mine (has_report (process_of p (w.kernel k))) c ≡ None
      → AreTraced (links_of (happens w (Calls k p c mine))) now
  granted-traced g allowed calm granted =
      after change happened
      (untaken-steady happened.becomes.links s.ends refl (λ e. told-calm (call_told c (caller p (w.kernel k)).reports) e ((w.kernel k).table e) (effect.entry e ((w.kernel k).table e)) (act.entry e)) act.sent)
    where
      effect : Effect
      effect = act_effect p k (w.kernel k).made mine (w.kernel k).table c

      change : Change
      change = calling w k p c effect

      happened : Happens w (Calls k p c mine) change
      happened = performs-allowed is k p c mine effect granted allowed.4 refl

      act : IsCalmEffect k (w.kernel k).table effect
      act = act-calm p k (w.kernel k).made mine (w.kernel k).table (is.setting.sound k).own c calm

  -- a calm call keeps all that is true of traces, also where it is refused
  pub call-traced : (g : Setting) → IsAllowed g w (Calls k p c mine) → IsCalmCall (w.kernel k).table c → AreTraced (links_of (happens w (Calls k p c mine))) now
  call-traced g allowed calm = by (refusal p (w.kernel k).table (w.kernel k).made mine (has_report (process_of p (w.kernel k))) c) refl
    where
      by : (r : Option Cause) → refusal p (w.kernel k).table (w.kernel k).made mine (has_report (process_of p (w.kernel k))) c ≡ r → AreTraced (links_of (happens w (Calls k p c mine))) now
      by (Some cause) refused = refused-traced cause refused
      by None granted = granted-traced g allowed calm granted
