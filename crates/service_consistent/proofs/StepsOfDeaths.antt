-- The steps of deaths and of reports leave a consistent state: notice, back and report.
use Rattle.std.proofs.Common.{◌≡◌, ◌≢◌, ℕ, zero, suc, ◌+◌, ◌≤◌, Bool, true, false, true≢false, nat_eq, ◌&&◌, ◌||◌, not, is_some, ◌⊎◌, inl, inr, if◌then◌else◌, Option, Some, None, List, [], ◌∷◌, ◌++◌, Contains, refl, sym, ap, ap₂, subst, ◌∙◌, arith}
use Rattle.std.proofs.lemmas.List.Elements.{Contains-append_right}
use Rattle.charlotte_calls.specs.Names.{opposite}
use Rattle.charlotte_calls.specs.declared.calls.Report.{Report}
use Rattle.charlotte_calls.specs.declared.names.EndId.{EndId}
use Rattle.charlotte_calls.specs.declared.names.Outcome.TheVariants as outcome
use Rattle.charlotte_calls.specs.declared.names.Pid.{Pid}
use Rattle.charlotte_calls.specs.declared.names.Way.{Way}
use Rattle.charlotte_calls.specs.declared.names.Way.TheVariants as way
use Rattle.service_change.proofs.Change.{IsWell, idle-over, idle-parts, none-some, well-kept}
use Rattle.service_change.proofs.Counts.{and-true, counted-reported, counted-same, pid_tells}
use Rattle.service_change.proofs.EndEq.{end_eq-refl, opposite-opposite}
use Rattle.service_change.proofs.Shapes.{AreFor, IsHereFor, IsLed, IsShape, IsTold, consistent-by, going-led, going-same, here-kept, here-woken, shape-dropped, shape-kept, telling-quiet, telling-told}
use Rattle.service_lawful.specs.Consistent.{IsConsistent, is_over, is_open, reports_on}
use Rattle.service_change.proofs.Counts.{IsCounted, Contains-count, counted-none, counts, is_report_on-its, is_report_on-other, reports_on-append}
use Rattle.service_change.proofs.EndEq.{end_eq-sym}
use Rattle.service_change.proofs.Facts.{IsWell-changed, away-gone, away-owned, busy-away, busy-made, made-owned, matched-Matched, next-same, over-both, put_process-at, put_process-other, told-gains, told-tells, waiting-is}
use Rattle.service_consistent.proofs.StepsOfMessages.{owned-lives}
use Rattle.service_change.proofs.Change.{IsTelling, IsWell-idle}
use Rattle.service_lawful.specs.Consistent.{is_report_on}
use Rattle.service_step.specs.Ends.{is_made, is_living, is_destroyed, owner, is_idle, is_unreported_outward, is_unreported_inward, is_started_inward, matched_message, waiting_message}
use Rattle.service_step.specs.Ends.{carried_by, noticed_end, noticed_inward, noticed_outward, places, puts, idles, notices, returned_end, returns, to_owner, turns_inward, turns_outward}
use Rattle.service_step.specs.Lawful.{message_of}
use Rattle.service_step.specs.State.{State, Process, dead_receive_report, gains, given, later, put_process, send_report, tells, wakes}
use Rattle.service_step.specs.Steps.{IsOldest, after_notice, after_report, after_return, dead_reports, gains_owner, is_matched, may_notice, may_return, returned_reports}
use Rattle.std.specs.Prelude.{slice_get}
use Rattle.service_step.specs.declared.state.End.{End}
use Rattle.service_step.specs.declared.state.Inward.{Inward}
use Rattle.service_step.specs.declared.state.Inward.TheVariants as inward
use Rattle.service_step.specs.declared.state.Message.{Message}
use Rattle.service_step.specs.declared.state.Outward.{Outward}
use Rattle.service_step.specs.declared.state.Outward.TheVariants as outward
use Rattle.service_step.specs.declared.state.Phase.{Phase}
use Rattle.service_step.specs.declared.state.Phase.TheVariants as phase
use Rattle.service_step.specs.declared.state.Place.{Place}
use Rattle.service_step.specs.declared.state.Place.TheVariants as place

and-false : (b : Bool) → b && false ≡ false
and-false true = refl
and-false false = refl

closed : (x : End) → x.noticed ≡ true → is_open x ≡ false
closed x noticed = ap (λ b. is_living x.place && (if b then false else true)) noticed ∙ and-false (is_living x.place)

led-lives : (s t : State) (p : Pid) → IsLed s t p → (s.process p.0).phase ≢ phase.Ended → (t.process p.0).phase ≢ phase.Ended
led-lives s t p led lives = by led.phase
  where
    by : ((t.process p.0).phase ≡ (s.process p.0).phase) ⊎ ((t.process p.0).phase ≡ phase.Running) → (t.process p.0).phase ≡ phase.Ended → ⊥
    by (inl same) is = lives (sym same ∙ is)
    by (inr runs) is = let differ : phase.Running ≡ phase.Ended = sym runs ∙ is in cc

-- what the ways of an end come to, and which reports tell of them
abbrev pub IsNewlyFor : End → End → EndId → List Report → Way → Type 0
IsNewlyFor old x e rs w = ((is_over w x ≡ is_over w old) × (reports_on e w rs ≡ 0)) ⊎ ((is_over w old ≡ false) × (is_over w x ≡ true) × (reports_on e w rs ≡ 1))

-- an owned end has the mark from now on
module _ (s t : State) (e : EndId) (p : Pid) (x : End) (xs : List EndId) (at : Place) (rs : List Report) (k : IsConsistent s) (owned : (s.ends e).place ≡ place.Owned p) (made : t.made ≡ s.made) (homes : t.homes ≡ s.homes)
    (shape : IsShape s t e x xs at) (told : IsTold s t p rs) (here : IsHereFor t e) (gone : (s.ends (opposite e)).place ≡ place.Destroyed) (stays : x.place ≡ (s.ends e).place) (mark : x.noticed ≡ true) (well : IsWell e x)
    (are : AreFor e false rs) (newly : (w : Way) → IsNewlyFor (s.ends e) x e rs w) where
  marked : IsConsistent t
  marked =
      consistent-by s t e x xs at k made homes shape
      (record { was = made-owned (s.ends e).place p owned; after = inl stays; leaves = λ f n is. stays; well = well; noticed = λ is. gone; sooner = λ is. mark })
      (going-led s t e p told.led (owned-lives s e p k owned) here)
      (telling-told s t e p rs k told (subst (λ b. AreFor e b rs) (sym (ap is_open shape.is ∙ closed x mark)) are) owned (ap (λ z. z.place) shape.is ∙ stays)
      (λ w. subst (λ z. IsNewlyFor (s.ends e) z e rs w) (sym shape.is) (newly w)))

-- reports of the two ways of an end

returned-out : (e : EndId) (o : Option Message) → reports_on e way.Outward (returned_reports e o) ≡ (if is_some o then 1 else 0)
returned-out e None = refl
returned-out e (Some m) = ap (λ b. (if b && true then 1 else 0) + 0) (end_eq-refl e)

returned-in : (e : EndId) (o : Option Message) → reports_on e way.Inward (returned_reports e o) ≡ 0
returned-in e None = refl
returned-in e (Some m) = ap (λ b. (if b && false then 1 else 0) + 0) (end_eq-refl e)

dead-out : (e : EndId) (b : Bool) → reports_on e way.Outward (if b then dead_receive_report e ∷ [] else []) ≡ 0
dead-out e true = ap (λ b. (if b && false then 1 else 0) + 0) (end_eq-refl e)
dead-out e false = refl

dead-in : (e : EndId) (b : Bool) → reports_on e way.Inward (if b then dead_receive_report e ∷ [] else []) ≡ (if b then 1 else 0)
dead-in e true = ap (λ b. (if b && true then 1 else 0) + 0) (end_eq-refl e)
dead-in e false = refl

returned-for : (e : EndId) (o : Option Message) (b : Bool) → AreFor e false (returned_reports e o ++ (if b then dead_receive_report e ∷ [] else []))
returned-for e None true = ((refl, λ is. absurd (true≢false (sym is))), tt)
returned-for e None false = tt
returned-for e (Some m) true = ((refl, λ is. absurd (true≢false (sym is))), ((refl, λ is. absurd (true≢false (sym is))), tt))
returned-for e (Some m) false = ((refl, λ is. absurd (true≢false (sym is))), tt)

both-out : (e : EndId) (o : Option Message) (b : Bool) → reports_on e way.Outward (returned_reports e o ++ (if b then dead_receive_report e ∷ [] else [])) ≡ (if is_some o then 1 else 0)
both-out e o b =
    let whole : reports_on e way.Outward (returned_reports e o ++ (if b then dead_receive_report e ∷ [] else [])) ≡ reports_on e way.Outward (returned_reports e o) + reports_on e way.Outward (if b then dead_receive_report e ∷ [] else []) = reports_on-append e way.Outward (returned_reports e o) _ in
    let first : reports_on e way.Outward (returned_reports e o) ≡ (if is_some o then 1 else 0) = returned-out e o in
    let second : reports_on e way.Outward (if b then dead_receive_report e ∷ [] else []) ≡ 0 = dead-out e b in
    omega arith

both-in : (e : EndId) (o : Option Message) (b : Bool) → reports_on e way.Inward (returned_reports e o ++ (if b then dead_receive_report e ∷ [] else [])) ≡ (if b then 1 else 0)
both-in e o b =
    let whole : reports_on e way.Inward (returned_reports e o ++ (if b then dead_receive_report e ∷ [] else [])) ≡ reports_on e way.Inward (returned_reports e o) + reports_on e way.Inward (if b then dead_receive_report e ∷ [] else []) = reports_on-append e way.Inward (returned_reports e o) _ in
    let first : reports_on e way.Inward (returned_reports e o) ≡ 0 = returned-in e o in
    let second : reports_on e way.Inward (if b then dead_receive_report e ∷ [] else []) ≡ (if b then 1 else 0) = dead-in e b in
    omega arith

-- a started receive that is over
noticed-deaf : (i : Inward) → is_started_inward (noticed_inward i) ≡ false
noticed-deaf inward.Idle = refl
noticed-deaf inward.Posted = refl
noticed-deaf inward.Withdrawn = refl
noticed-deaf (inward.Matched n) = refl
noticed-deaf inward.Unreported = refl

newly-in : (i : Inward) (e : EndId) (o : Option Message) (rs : List Report) → rs ≡ returned_reports e o ++ (if is_started_inward i then dead_receive_report e ∷ [] else [])
    → ((is_unreported_inward (noticed_inward i) ≡ is_unreported_inward i) × (reports_on e way.Inward rs ≡ 0)) ⊎ ((is_unreported_inward i ≡ false) × (is_unreported_inward (noticed_inward i) ≡ true) × (reports_on e way.Inward rs ≡ 1))
newly-in inward.Idle e o rs is = inl (refl, ap (reports_on e way.Inward) is ∙ both-in e o false)
newly-in inward.Posted e o rs is = inr (refl, refl, ap (reports_on e way.Inward) is ∙ both-in e o true)
newly-in inward.Withdrawn e o rs is = inr (refl, refl, ap (reports_on e way.Inward) is ∙ both-in e o true)
newly-in (inward.Matched n) e o rs is = inr (refl, refl, ap (reports_on e way.Inward) is ∙ both-in e o true)
newly-in inward.Unreported e o rs is = inl (refl, ap (reports_on e way.Inward) is ∙ both-in e o false)

noticed-message : (out : Outward) (m : Message) → message_of (noticed_outward out) ≡ Some m → message_of out ≡ Some m
noticed-message (outward.Waiting a) m is = absurd (none-some None m refl is)
noticed-message outward.Idle m is = is
noticed-message (outward.Matched a) m is = is
noticed-message outward.Taken m is = is
noticed-message outward.Unreported m is = is

noticed-waits : (out : Outward) (m : Message) → noticed_outward out ≡ outward.Waiting m → ⊥
noticed-waits (outward.Waiting a) m is = cc
noticed-waits outward.Idle m is = cc
noticed-waits (outward.Matched a) m is = cc
noticed-waits outward.Taken m is = cc
noticed-waits outward.Unreported m is = cc

newly-out : (out : Outward) (e : EndId) (b : Bool)
    → ((is_unreported_outward (noticed_outward out) ≡ is_unreported_outward out) × (reports_on e way.Outward (returned_reports e (waiting_message out) ++ (if b then dead_receive_report e ∷ [] else [])) ≡ 0))
    ⊎ ((is_unreported_outward out ≡ false) × (is_unreported_outward (noticed_outward out) ≡ true) × (reports_on e way.Outward (returned_reports e (waiting_message out) ++ (if b then dead_receive_report e ∷ [] else [])) ≡ 1))
newly-out (outward.Waiting m) e b = inr (refl, refl, both-out e (Some m) b)
newly-out outward.Idle e b = inl (refl, both-out e None b)
newly-out (outward.Matched m) e b = inl (refl, both-out e None b)
newly-out outward.Taken e b = inl (refl, both-out e None b)
newly-out outward.Unreported e b = inl (refl, both-out e None b)

-- notice at an owned end
module _ (s : State) (e : EndId) (p : Pid) (k : IsConsistent s) (owned : (s.ends e).place ≡ place.Owned p) (gone : (s.ends (opposite e)).place ≡ place.Destroyed) where
  noticed-well : IsWell e (noticed_end (s.ends e))
  noticed-well =
      IsWell-changed e (s.ends e) (noticed_end (s.ends e)) (well-kept s k.kept k.noticed e) refl (made-owned (s.ends e).place p owned) (away-owned (s.ends e).place p owned) (λ m is. noticed-message (s.ends e).outward m is)
      (λ m is. absurd (noticed-waits (s.ends e).outward m is)) (λ noticed living. noticed-deaf (s.ends e).inward)

  noticed-by : (t : State) (xs : List EndId) (at : Place) → t.made ≡ s.made → t.homes ≡ s.homes → IsShape s t e (noticed_end (s.ends e)) xs at
      → t.process ≡ wakes p e (gains p (returned_reports e (waiting_message (s.ends e).outward) ++ dead_reports e (s.ends e)) s.process) → IsConsistent t
  noticed-by t xs at made homes shape process =
      marked s t e p (noticed_end (s.ends e)) xs at (returned_reports e (waiting_message (s.ends e).outward) ++ dead_reports e (s.ends e)) k owned made homes shape told.0 (here-woken s t e p k.processes told.0.led owned told.1) gone refl refl
      noticed-well (returned-for e (waiting_message (s.ends e).outward) (is_started_inward (s.ends e).inward)) newly
    where
      told : IsTold s t p (returned_reports e (waiting_message (s.ends e).outward) ++ dead_reports e (s.ends e)) × ((t.process p.0).phase ≡ phase.Cancelling e → ⊥)
      told = told-tells s t p e (returned_reports e (waiting_message (s.ends e).outward) ++ dead_reports e (s.ends e)) process

      newly : (w : Way) → IsNewlyFor (s.ends e) (noticed_end (s.ends e)) e (returned_reports e (waiting_message (s.ends e).outward) ++ dead_reports e (s.ends e)) w
      newly way.Outward = newly-out (s.ends e).outward e (is_started_inward (s.ends e).inward)
      newly way.Inward = newly-in (s.ends e).inward e (waiting_message (s.ends e).outward) _ refl

  noticed-kept : waiting_message (s.ends e).outward ≡ None → message_of (noticed_outward (s.ends e).outward) ≡ message_of (s.ends e).outward
      → IsConsistent (record s {
        ends = places (place.Owned p) (carried_by (waiting_message (s.ends e).outward)) (puts e (noticed_end (s.ends e)) s.ends);
        process = wakes p e (gains p (returned_reports e (waiting_message (s.ends e).outward) ++ dead_reports e (s.ends e)) s.process);
      })
  unfolding places
  noticed-kept none same =
      subst
      (λ xs. IsConsistent (record s {
        ends = places (place.Owned p) xs (puts e (noticed_end (s.ends e)) s.ends);
        process = wakes p e (gains p (returned_reports e (waiting_message (s.ends e).outward) ++ dead_reports e (s.ends e)) s.process);
      }))
      (sym (ap carried_by none)) (noticed-by _ [] place.Destroyed refl refl (shape-kept s _ e (noticed_end (s.ends e)) refl (made-owned (s.ends e).place p owned) same refl) refl)

  noticed-owned : (out : Outward) → (s.ends e).outward ≡ out
      → IsConsistent (record s {
        ends = places (place.Owned p) (carried_by (waiting_message (s.ends e).outward)) (puts e (noticed_end (s.ends e)) s.ends);
        process = wakes p e (gains p (returned_reports e (waiting_message (s.ends e).outward) ++ dead_reports e (s.ends e)) s.process);
      })
  noticed-owned (outward.Waiting m) is =
      subst
      (λ xs. IsConsistent (record s {
        ends = places (place.Owned p) xs (puts e (noticed_end (s.ends e)) s.ends);
        process = wakes p e (gains p (returned_reports e (waiting_message (s.ends e).outward) ++ dead_reports e (s.ends e)) s.process);
      }))
      (sym (ap (λ o. carried_by (waiting_message o)) is))
      (let t : State = record s {
        ends = places (place.Owned p) m.carried (puts e (noticed_end (s.ends e)) s.ends);
        process = wakes p e (gains p (returned_reports e (waiting_message (s.ends e).outward) ++ dead_reports e (s.ends e)) s.process);
      } in
      noticed-by t m.carried (place.Owned p) refl refl
      (shape-dropped s t e (noticed_end (s.ends e)) m (place.Owned p) k (ap message_of is) (ap (λ o. message_of (noticed_outward o)) is) refl
      (λ q. led-lives s t p (told-tells s t p e (returned_reports e (waiting_message (s.ends e).outward) ++ dead_reports e (s.ends e)) refl).0.led (owned-lives s e p k owned)) refl (made-owned (s.ends e).place p owned)) refl)
  noticed-owned outward.Idle is = noticed-kept (ap waiting_message is) (ap (λ o. message_of (noticed_outward o)) is ∙ sym (ap message_of is))
  noticed-owned (outward.Matched m) is = noticed-kept (ap waiting_message is) (ap (λ o. message_of (noticed_outward o)) is ∙ sym (ap message_of is))
  noticed-owned outward.Taken is = noticed-kept (ap waiting_message is) (ap (λ o. message_of (noticed_outward o)) is ∙ sym (ap message_of is))
  noticed-owned outward.Unreported is = noticed-kept (ap waiting_message is) (ap (λ o. message_of (noticed_outward o)) is ∙ sym (ap message_of is))

-- notice at an end in a message, which is idle
module _ (s : State) (e f : EndId) (n : ℕ) (k : IsConsistent s) (inside : (s.ends e).place ≡ place.InMessage f n) (gone : (s.ends (opposite e)).place ≡ place.Destroyed) where
  noticed-inside : IsConsistent (record s { ends = puts e (noticed_end (s.ends e)) s.ends })
  noticed-inside =
      consistent-by s _ e (noticed_end (s.ends e)) [] place.Destroyed k refl refl shape
      (record { was = made; after = inl refl; leaves = λ g i is. refl; well = IsWell-idle e (noticed_end (s.ends e)) idle_now made; noticed = λ is. gone; sooner = λ is. refl })
      (going-same s _ e refl (λ p is. absurd (differ p (sym inside ∙ (k.processes.cancelling p e is).0))))
      (telling-quiet s _ e k (λ q. refl) (λ w. ap (is_over w) shape.is ∙ idle-over w (noticed_end (s.ends e)) idle_now ∙ sym (idle-over w (s.ends e) idle)) (inl (ap (λ z. z.place) shape.is)))
    where
      idle : is_idle (s.ends e) ≡ true
      idle = k.kept.resting e f n inside

      idle_now : is_idle (noticed_end (s.ends e)) ≡ true
      idle_now = ap₂ (λ o i. is_idle (record { place = (s.ends e).place; outward = noticed_outward o; inward = noticed_inward i; sent = (s.ends e).sent; noticed = true })) (idle-parts (s.ends e) idle).0 (idle-parts (s.ends e) idle).1

      made : is_made (s.ends e).place ≡ true
      made = ap is_made inside

      differ : (p : Pid) → place.InMessage f n ≡ place.Owned p → ⊥
      differ p same = cc

      shape : IsShape s (record s { ends = puts e (noticed_end (s.ends e)) s.ends }) e (noticed_end (s.ends e)) [] place.Destroyed
      shape = shape-kept s _ e (noticed_end (s.ends e)) refl made (ap (λ o. message_of (noticed_outward o)) (idle-parts (s.ends e) idle).0 ∙ sym (ap message_of (idle-parts (s.ends e) idle).0)) refl

module _ (s : State) (e : EndId) (dead : Bool) (k : IsConsistent s) (may : may_notice s e dead ≡ true) where
  three : (is_destroyed (s.ends (opposite e)).place && is_living (s.ends e).place ≡ true) × (not (s.ends e).noticed ≡ true)
  three = and-true _ _ (and-true _ _ may).0

  destroyed-is : (at : Place) → is_destroyed at ≡ true → at ≡ place.Destroyed
  destroyed-is place.Destroyed is = refl
  destroyed-is (place.Owned p) is = absurd (true≢false (sym is))
  destroyed-is (place.InMessage f n) is = absurd (true≢false (sym is))
  destroyed-is place.Unmade is = absurd (true≢false (sym is))

  notice-gone : (s.ends (opposite e)).place ≡ place.Destroyed
  notice-gone = destroyed-is (s.ends (opposite e)).place (and-true _ _ three.0).0

  noticed-at : (at : Place) → (s.ends e).place ≡ at
      → IsConsistent (record s {
        ends = to_owner (owner at) (carried_by (waiting_message (s.ends e).outward)) (puts e (noticed_end (s.ends e)) s.ends);
        process = tells (owner at) e (returned_reports e (waiting_message (s.ends e).outward) ++ dead_reports e (s.ends e)) s.process;
      })
  noticed-at (place.Owned p) is = noticed-owned s e p k is notice-gone (s.ends e).outward refl
  noticed-at (place.InMessage f n) is = noticed-inside s e f n k is notice-gone
  noticed-at place.Destroyed is = absurd (true≢false (sym (sym (ap is_living is) ∙ (and-true _ _ three.0).1)))
  noticed-at place.Unmade is = absurd (true≢false (sym (sym (ap is_living is) ∙ (and-true _ _ three.0).1)))

  pub consistent-notice : IsConsistent (after_notice e s)
  unfolding notices
  consistent-notice = noticed-at (s.ends e).place refl

-- back at an owned end
module _ (s : State) (e : EndId) (p : Pid) (m : Message) (k : IsConsistent s) (owned : (s.ends e).place ≡ place.Owned p) (matched : (s.ends e).outward ≡ outward.Matched m) (gone : (s.ends (opposite e)).place ≡ place.Destroyed) where
  back-noticed : (s.ends e).noticed ≡ true → IsConsistent (record s { ends = places (place.Owned p) m.carried (puts e (record (s.ends e) { outward = outward.Unreported }) s.ends); process = gains p (send_report e outcome.Destroyed m.carried ∷ []) s.process })
  back-noticed noticed =
      let t : State = record s { ends = places (place.Owned p) m.carried (puts e (record (s.ends e) { outward = outward.Unreported }) s.ends); process = gains p (send_report e outcome.Destroyed m.carried ∷ []) s.process } in
      let x : End = record (s.ends e) { outward = outward.Unreported } in
      marked s t e p x m.carried (place.Owned p) (send_report e outcome.Destroyed m.carried ∷ []) k owned refl refl
      (shape-dropped s t e x m (place.Owned p) k (ap message_of matched) refl refl (λ q. led-lives s t p told.led (owned-lives s e p k owned)) refl (made-owned (s.ends e).place p owned))
      told (λ q is. absurd (unheard q (cancels q is (pid_tells p q)))) gone refl noticed well ((refl, λ is. absurd (true≢false (sym is))), tt) newly
    where
      told : IsTold s (record s { ends = places (place.Owned p) m.carried (puts e (record (s.ends e) { outward = outward.Unreported }) s.ends); process = gains p (send_report e outcome.Destroyed m.carried ∷ []) s.process }) p (send_report e outcome.Destroyed m.carried ∷ [])
      told = told-gains s _ p (send_report e outcome.Destroyed m.carried ∷ []) refl

      unheard : (q : Pid) → (s.process q.0).phase ≡ phase.Cancelling e → ⊥
      unheard q is = true≢false (sym (k.processes.cancelling q e is).1 ∙ k.noticed.inward e noticed (ap is_living owned))

      cancels : (q : Pid) → (gains p (send_report e outcome.Destroyed m.carried ∷ []) s.process q.0).phase ≡ phase.Cancelling e → ((nat_eq p.0 q.0 ≡ true) × (p ≡ q)) ⊎ ((nat_eq p.0 q.0 ≡ false) × (p.0 ≢ q.0)) → (s.process q.0).phase ≡ phase.Cancelling e
      cancels q is (inl same) = subst (λ z. (s.process z.0).phase ≡ phase.Cancelling e) same.1 (by told.led.phase (subst (λ z. (gains p (send_report e outcome.Destroyed m.carried ∷ []) s.process z.0).phase ≡ phase.Cancelling e) (sym same.1) is))
        where
          by : ((gains p (send_report e outcome.Destroyed m.carried ∷ []) s.process p.0).phase ≡ (s.process p.0).phase) ⊎ ((gains p (send_report e outcome.Destroyed m.carried ∷ []) s.process p.0).phase ≡ phase.Running)
              → (gains p (send_report e outcome.Destroyed m.carried ∷ []) s.process p.0).phase ≡ phase.Cancelling e → (s.process p.0).phase ≡ phase.Cancelling e
          by (inl same) is = sym same ∙ is
          by (inr runs) is = let apart : phase.Running ≡ phase.Cancelling e = sym runs ∙ is in absurd (cc)
      cancels q is (inr apart) = sym (ap (λ z. z.phase) (told.led.others q apart.0)) ∙ is

      waits : (a : Message) → outward.Unreported ≡ outward.Waiting a → ⊥
      waits a same = cc

      well : IsWell e (record (s.ends e) { outward = outward.Unreported })
      well =
          IsWell-changed e (s.ends e) (record (s.ends e) { outward = outward.Unreported }) (well-kept s k.kept k.noticed e) refl (made-owned (s.ends e).place p owned) (away-owned (s.ends e).place p owned)
          (λ a has. absurd (none-some None a refl has)) (λ a has. absurd (waits a has)) (k.noticed.inward e)

      newly : (w : Way) → IsNewlyFor (s.ends e) (record (s.ends e) { outward = outward.Unreported }) e (send_report e outcome.Destroyed m.carried ∷ []) w
      newly way.Outward = inr (ap is_unreported_outward matched, refl, returned-out e (Some m))
      newly way.Inward = inl (refl, returned-in e (Some m))

  back-open : IsConsistent (record s {
    ends = places (place.Owned p) m.carried (puts e (noticed_end (record (s.ends e) { outward = outward.Unreported })) s.ends);
    process = wakes p e (gains p (send_report e outcome.Destroyed m.carried ∷ dead_reports e (s.ends e)) s.process);
  })
  back-open =
      let rs : List Report = send_report e outcome.Destroyed m.carried ∷ dead_reports e (s.ends e) in
      let t : State = record s { ends = places (place.Owned p) m.carried (puts e (noticed_end (record (s.ends e) { outward = outward.Unreported })) s.ends); process = wakes p e (gains p (send_report e outcome.Destroyed m.carried ∷ dead_reports e (s.ends e)) s.process) } in
      let x : End = noticed_end (record (s.ends e) { outward = outward.Unreported }) in
      let told : IsTold s t p rs × ((t.process p.0).phase ≡ phase.Cancelling e → ⊥) = told-tells s t p e rs refl in
      marked s t e p x m.carried (place.Owned p) rs k owned refl refl
      (shape-dropped s t e x m (place.Owned p) k (ap message_of matched) refl refl (λ q. led-lives s t p told.0.led (owned-lives s e p k owned)) refl (made-owned (s.ends e).place p owned))
      told.0 (here-woken s t e p k.processes told.0.led owned told.1) gone refl refl well (returned-for e (Some m) (is_started_inward (s.ends e).inward)) newly
    where
      waits : (a : Message) → outward.Unreported ≡ outward.Waiting a → ⊥
      waits a same = cc

      well : IsWell e (noticed_end (record (s.ends e) { outward = outward.Unreported }))
      well =
          IsWell-changed e (s.ends e) (noticed_end (record (s.ends e) { outward = outward.Unreported })) (well-kept s k.kept k.noticed e) refl (made-owned (s.ends e).place p owned) (away-owned (s.ends e).place p owned)
          (λ a has. absurd (none-some None a refl has)) (λ a has. absurd (waits a has)) (λ noticed living. noticed-deaf (s.ends e).inward)

      newly : (w : Way) → IsNewlyFor (s.ends e) (noticed_end (record (s.ends e) { outward = outward.Unreported })) e (send_report e outcome.Destroyed m.carried ∷ dead_reports e (s.ends e)) w
      newly way.Outward = inr (ap is_unreported_outward matched, refl, both-out e (Some m) (is_started_inward (s.ends e).inward))
      newly way.Inward = newly-in (s.ends e).inward e (Some m) _ refl

  back-owned : (b : Bool) → (s.ends e).noticed ≡ b
      → IsConsistent (record s {
        ends = places (place.Owned p) m.carried (puts e (if b then record (s.ends e) { outward = outward.Unreported } else noticed_end (record (s.ends e) { outward = outward.Unreported })) s.ends);
        process =
            if b then gains p (send_report e outcome.Destroyed m.carried ∷ []) s.process
            else wakes p e (gains p (send_report e outcome.Destroyed m.carried ∷ dead_reports e (s.ends e)) s.process);
      })
  back-owned true noticed = back-noticed noticed
  back-owned false open_yet = back-open

-- back at a destroyed end
module _ (s : State) (e : EndId) (m : Message) (k : IsConsistent s) (gone : (s.ends e).place ≡ place.Destroyed) (matched : (s.ends e).outward ≡ outward.Matched m) where
  back-gone : IsConsistent (record s { ends = places place.Destroyed m.carried (turns_outward outward.Idle e s.ends) })
  unfolding turns_outward
  back-gone =
      let t : State = record s { ends = places place.Destroyed m.carried (puts e (record (s.ends e) { outward = outward.Idle }) s.ends) } in
      let x : End = record (s.ends e) { outward = outward.Idle } in
      consistent-by s t e x m.carried place.Destroyed k refl refl shape
      (next-same s e x k made refl refl
      (IsWell-changed e (s.ends e) x (well-kept s k.kept k.noticed e) refl made (away-gone (s.ends e).place gone) (λ a has. absurd (none-some None a refl has)) (λ a has. absurd (waits a has)) (k.noticed.inward e)))
      (going-same s t e refl (here-kept s t e k.processes (λ q is. is) (ap (λ z. z.place) shape.is) (λ is. ap (λ z. is_started_inward z.inward) shape.is ∙ is)))
      (telling-quiet s t e k (λ q. refl) (λ w. ap (is_over w) shape.is ∙ over-both (s.ends e) x (sym (ap is_unreported_outward matched)) refl w) (inl (ap (λ z. z.place) shape.is)))
    where
      made : is_made (s.ends e).place ≡ true
      made = ap is_made gone

      waits : (a : Message) → outward.Idle ≡ outward.Waiting a → ⊥
      waits a same = cc

      shape : IsShape s (record s { ends = places place.Destroyed m.carried (puts e (record (s.ends e) { outward = outward.Idle }) s.ends) }) e (record (s.ends e) { outward = outward.Idle }) m.carried place.Destroyed
      shape = shape-dropped s _ e (record (s.ends e) { outward = outward.Idle }) m place.Destroyed k (ap message_of matched) refl refl (λ q. tt) refl made

module _ (s : State) (e : EndId) (n : ℕ) (dead : Bool) (k : IsConsistent s) (may : may_return s e n dead ≡ true) where
  return-three : (is_matched s.ends e n && (is_destroyed (s.ends (opposite e)).place || (s.ends (opposite e)).noticed) ≡ true) × (is_destroyed (s.ends e).place || is_some (owner (s.ends e).place) ≡ true)
  return-three = and-true _ _ (and-true _ _ may).0

  pub return-matched : (m : Message) × ((s.ends e).outward ≡ outward.Matched m)
  return-matched = matched-Matched (s.ends e).outward (and-true _ _ (and-true _ _ return-three.0).0).0

  destroyed-as : (at : Place) → is_destroyed at ≡ true → at ≡ place.Destroyed
  destroyed-as place.Destroyed is = refl
  destroyed-as (place.Owned p) is = absurd (true≢false (sym is))
  destroyed-as (place.InMessage f i) is = absurd (true≢false (sym is))
  destroyed-as place.Unmade is = absurd (true≢false (sym is))

  -- the opposite of an owned end is destroyed, since it has no mark itself
  return-gone : (p : Pid) → (s.ends e).place ≡ place.Owned p → (s.ends (opposite e)).place ≡ place.Destroyed
  return-gone p owned = by (is_destroyed (s.ends (opposite e)).place) refl (and-true _ _ return-three.0).1
    where
      differ : place.Owned p ≡ place.Destroyed → ⊥
      differ same = cc

      by : (b : Bool) → is_destroyed (s.ends (opposite e)).place ≡ b → b || (s.ends (opposite e)).noticed ≡ true → (s.ends (opposite e)).place ≡ place.Destroyed
      by true is either = destroyed-as (s.ends (opposite e)).place is
      by false not noticed = absurd (differ (sym owned ∙ subst (λ z. (s.ends z).place ≡ place.Destroyed) (opposite-opposite e) (k.noticed.opposite (opposite e) noticed)))

  nobody : (b : Bool) (process : ℕ → Process) → (if b then process else process) ≡ process
  nobody true process = refl
  nobody false process = refl

  returned-at : (at : Place) → (s.ends e).place ≡ at → is_destroyed at || is_some (owner at) ≡ true → (m : Message) → (s.ends e).outward ≡ outward.Matched m
      → IsConsistent (record s {
        ends =
            if is_destroyed at then places place.Destroyed m.carried (turns_outward outward.Idle e s.ends)
            else to_owner (owner at) m.carried (puts e (returned_end (s.ends e)) s.ends);
        process =
            if (s.ends e).noticed then gains_owner (owner at) (send_report e outcome.Destroyed m.carried ∷ []) s.process
            else tells (owner at) e (send_report e outcome.Destroyed m.carried ∷ dead_reports e (s.ends e)) s.process;
      })
  returned-at (place.Owned p) is either m matched = back-owned s e p m k is matched (return-gone p is) (s.ends e).noticed refl
  returned-at (place.InMessage f i) is either m matched = absurd (true≢false (sym either))
  returned-at place.Destroyed is either m matched =
      subst (λ g. IsConsistent (record s { ends = places place.Destroyed m.carried (turns_outward outward.Idle e s.ends); process = g })) (sym (nobody (s.ends e).noticed s.process)) (back-gone s e m k is matched)
  returned-at place.Unmade is either m matched = absurd (true≢false (sym either))

  pub consistent-return : IsConsistent (after_return e s)
  unfolding returns
  consistent-return =
      subst
      (λ o. IsConsistent (record s {
        ends =
            if is_destroyed (s.ends e).place then places place.Destroyed (carried_by (matched_message o)) (turns_outward outward.Idle e s.ends)
            else to_owner (owner (s.ends e).place) (carried_by (matched_message o)) (puts e (returned_end (s.ends e)) s.ends);
        process =
            if (s.ends e).noticed then gains_owner (owner (s.ends e).place) (returned_reports e (matched_message o)) s.process
            else tells (owner (s.ends e).place) e (returned_reports e (matched_message o) ++ dead_reports e (s.ends e)) s.process;
      }))
      (sym return-matched.1) (returned-at (s.ends e).place refl return-three.1 return-matched.0 return-matched.1)

-- report
abbrev idle_way : Way → End → End
idle_way way.Outward x = record x { outward = outward.Idle }
idle_way way.Inward x = record x { inward = inward.Idle }

reported-out : (o : Outward) → is_unreported_outward o ≡ true → o ≡ outward.Unreported
reported-out outward.Unreported is = refl
reported-out outward.Idle is = absurd (true≢false (sym is))
reported-out (outward.Waiting m) is = absurd (true≢false (sym is))
reported-out (outward.Matched m) is = absurd (true≢false (sym is))
reported-out outward.Taken is = absurd (true≢false (sym is))

module _ (s : State) (p : Pid) (r : Report) (rs : List Report) (k : IsConsistent s) (waits : (s.process p.0).phase ≡ phase.Waiting) (front : (s.process p.0).reports ≡ r ∷ rs) where
  stands-first : Contains (s.process p.0).reports r
  stands-first = subst (λ l. Contains l r) (sym front) (0, (omega arith), refl)

  is-over : is_over r.way (s.ends r.on) ≡ true
  is-over = k.reported.over p r stands-first

  is-busy : is_idle (s.ends r.on) ≡ false
  is-busy = by (is_idle (s.ends r.on)) refl
    where
      by : (b : Bool) → is_idle (s.ends r.on) ≡ b → b ≡ false
      by true idle = absurd (true≢false (sym is-over ∙ idle-over r.way (s.ends r.on) idle))
      by false busy = refl

  given-message : (w : Way) → is_over w (s.ends r.on) ≡ true → message_of (idle_way w (s.ends r.on)).outward ≡ message_of (s.ends r.on).outward
  given-message way.Outward over = sym (ap message_of (reported-out (s.ends r.on).outward over))
  given-message way.Inward over = refl

  given-sent : (w : Way) → (idle_way w (s.ends r.on)).sent ≡ (s.ends r.on).sent
  given-sent way.Outward = refl
  given-sent way.Inward = refl

  given-place : (w : Way) → (idle_way w (s.ends r.on)).place ≡ (s.ends r.on).place
  given-place way.Outward = refl
  given-place way.Inward = refl

  given-noticed : (w : Way) → (idle_way w (s.ends r.on)).noticed ≡ (s.ends r.on).noticed
  given-noticed way.Outward = refl
  given-noticed way.Inward = refl

  given-idles : (w : Way) → idles w r.on s.ends ≡ puts r.on (idle_way w (s.ends r.on)) s.ends
  unfolding idles turns_outward turns_inward
  given-idles way.Outward = refl
  given-idles way.Inward = refl

  given-well : (w : Way) → IsWell r.on (idle_way w (s.ends r.on))
  given-well way.Outward =
      IsWell-changed r.on (s.ends r.on) (record (s.ends r.on) { outward = outward.Idle }) (well-kept s k.kept k.noticed r.on) refl (busy-made s r.on k is-busy) (busy-away s r.on k is-busy)
      (λ a has. absurd (none-some None a refl has)) (λ a has. absurd (differ a has)) (k.noticed.inward r.on)
    where
      differ : (a : Message) → outward.Idle ≡ outward.Waiting a → ⊥
      differ a same = cc
  given-well way.Inward =
      IsWell-changed r.on (s.ends r.on) (record (s.ends r.on) { inward = inward.Idle }) (well-kept s k.kept k.noticed r.on) refl (busy-made s r.on k is-busy) (busy-away s r.on k is-busy)
      (λ a has. has) (λ a has. (has, λ noticed. noticed)) (λ noticed living. refl)

  module _ (t : State) (made : t.made ≡ s.made) (homes : t.homes ≡ s.homes) (ends : t.ends ≡ idles r.way r.on s.ends) (process : t.process ≡ put_process p (record { phase = phase.Running; reports = rs }) s.process) where
    at_p : t.process p.0 ≡ record { phase = phase.Running; reports = rs }
    at_p = ap (λ f. f p.0) process ∙ put_process-at p (record { phase = phase.Running; reports = rs }) s.process

    at_q : (q : Pid) → nat_eq p.0 q.0 ≡ false → t.process q.0 ≡ s.process q.0
    at_q q apart = ap (λ f. f q.0) process ∙ put_process-other p (record { phase = phase.Running; reports = rs }) s.process q apart

    given-led : IsLed s t p
    given-led = record { others = at_q; phase = inr (ap (λ z. z.phase) at_p) }

    given-shape : IsShape s t r.on (idle_way r.way (s.ends r.on)) [] place.Destroyed
    given-shape = shape-kept s t r.on (idle_way r.way (s.ends r.on)) (ends ∙ given-idles r.way) (busy-made s r.on k is-busy) (given-message r.way is-over) (given-sent r.way)

    given-here : IsHereFor t r.on
    given-here q is = absurd (by (pid_tells p q))
      where
        one : place.Owned p ≡ place.Owned q → p.0 ≡ q.0
        one same = let e : p ≡ q = cc in ap (λ z. z.0) e

        differ : (x : Phase) → x ≡ phase.Running → x ≡ phase.Cancelling r.on → ⊥
        differ x a b = cc

        by : ((nat_eq p.0 q.0 ≡ true) × (p ≡ q)) ⊎ ((nat_eq p.0 q.0 ≡ false) × (p.0 ≢ q.0)) → ⊥
        by (inl same) = differ (t.process p.0).phase (ap (λ z. z.phase) at_p) (subst (λ z. (t.process z.0).phase ≡ phase.Cancelling r.on) (sym same.1) is)
        by (inr apart) =
            let owned = (k.processes.cancelling q r.on (sym (ap (λ z. z.phase) (at_q q apart.0)) ∙ is)).0 in
            apart.1 (one (sym (k.reported.own p r stands-first (ap is_living owned)) ∙ owned))

    -- one report less, of that way of its end
    counted-first : (f : EndId) (w : Way) → counts s f w p ≡ (if is_report_on f w r then 1 else 0) + counts t f w p
    counted-first f w = ap (reports_on f w) front ∙ sym (ap (λ z. (if is_report_on f w r then 1 else 0) + reports_on f w z.reports) at_p)

    counted-rest : (f : EndId) (w : Way) → is_report_on f w r ≡ false → (q : Pid) → counts t f w q ≡ counts s f w q
    counted-rest f w none q = by (pid_tells p q)
      where
        by : ((nat_eq p.0 q.0 ≡ true) × (p ≡ q)) ⊎ ((nat_eq p.0 q.0 ≡ false) × (p.0 ≢ q.0)) → counts t f w q ≡ counts s f w q
        by (inl same) =
            subst (λ z. counts t f w z ≡ counts s f w z) same.1
            (let first : counts s f w p ≡ 0 + counts t f w p = counted-first f w ∙ ap (λ b. (if b then 1 else 0) + counts t f w p) none in omega arith)
        by (inr apart) = ap (λ z. reports_on f w z.reports) (at_q q apart.0)

    counted-gone : (q : Pid) → counts t r.on r.way q ≡ 0
    counted-gone q = by (pid_tells p q)
      where
        its : (b : Bool) → is_report_on r.on r.way r ≡ b → counts s r.on r.way p ≡ (if b then 1 else 0) + counts t r.on r.way p → counts t r.on r.way p ≡ 0
        its true is whole = let once : counts s r.on r.way p ≤ 1 = k.reported.once p r.on r.way in omega arith
        its false not whole = absurd (true≢false (sym (is_report_on-its r) ∙ not))

        none : nat_eq p.0 q.0 ≡ false → p.0 ≢ q.0 → (n : ℕ) → counts t r.on r.way q ≡ n → n ≡ 0
        none apart differ zero is = refl
        none apart differ (suc n) is =
            let same : counts t r.on r.way q ≡ counts s r.on r.way q = ap (λ z. reports_on r.on r.way z.reports) (at_q q apart) in
            absurd (differ (sym ((counted-reported s k.reported r.on r.way).alone p q (Contains-count r (s.process p.0).reports stands-first) (omega arith))))

        by : ((nat_eq p.0 q.0 ≡ true) × (p ≡ q)) ⊎ ((nat_eq p.0 q.0 ≡ false) × (p.0 ≢ q.0)) → counts t r.on r.way q ≡ 0
        by (inl same) = subst (λ z. counts t r.on r.way z ≡ 0) same.1 (its (is_report_on r.on r.way r) refl (counted-first r.on r.way))
        by (inr apart) = none apart.0 apart.1 (counts t r.on r.way q) refl

    over-now : (w : Way) → is_over w (idle_way w (s.ends r.on)) ≡ false
    over-now way.Outward = refl
    over-now way.Inward = refl

    gone-here : (w : Way) → r.way ≡ w → IsCounted (counts t r.on w) (is_over w (t.ends r.on)) (t.ends r.on).place
    gone-here w is = subst (λ v. IsCounted (counts t r.on v) (is_over v (t.ends r.on)) (t.ends r.on).place) is (counted-none counted-gone (ap (is_over r.way) given-shape.is ∙ over-now r.way))

    stays-here : (w : Way) → is_report_on r.on w r ≡ false → is_over w (idle_way r.way (s.ends r.on)) ≡ is_over w (s.ends r.on) → IsCounted (counts t r.on w) (is_over w (t.ends r.on)) (t.ends r.on).place
    stays-here w none same = counted-same (counted-rest r.on w none) (ap (is_over w) given-shape.is ∙ same) (inl (ap (λ z. z.place) given-shape.is ∙ given-place r.way)) (counted-reported s k.reported r.on w)

    given-counted : (v w : Way) → r.way ≡ v → IsCounted (counts t r.on w) (is_over w (t.ends r.on)) (t.ends r.on).place
    given-counted way.Outward way.Outward is = gone-here way.Outward is
    given-counted way.Inward way.Inward is = gone-here way.Inward is
    given-counted way.Outward way.Inward is =
        stays-here way.Inward (ap (λ v. is_report_on r.on way.Inward (record { on = r.on; way = v; outcome = r.outcome; bytes = r.bytes; enclosed = r.enclosed })) is ∙ and-false _)
        (ap (λ v. is_over way.Inward (idle_way v (s.ends r.on))) is)
    given-counted way.Inward way.Outward is =
        stays-here way.Outward (ap (λ v. is_report_on r.on way.Outward (record { on = r.on; way = v; outcome = r.outcome; bytes = r.bytes; enclosed = r.enclosed })) is ∙ and-false _)
        (ap (λ v. is_over way.Outward (idle_way v (s.ends r.on))) is)

    given-telling : IsTelling s t r.on
    given-telling =
        record {
          elsewhere = λ f w q apart. counted-rest f w (is_report_on-other f w r (end_eq-sym f r.on ∙ apart)) q;
          here = λ w. given-counted r.way w refl;
          done = λ q x is. inl (done q x is (pid_tells p q));
        }
      where
        done : (q : Pid) (x : Report) → Contains (t.process q.0).reports x → ((nat_eq p.0 q.0 ≡ true) × (p ≡ q)) ⊎ ((nat_eq p.0 q.0 ≡ false) × (p.0 ≢ q.0)) → Contains (s.process q.0).reports x
        done q x is (inl same) =
            subst (λ z. Contains (s.process z.0).reports x) same.1
            (subst (λ l. Contains l x) (sym front) (Contains-append_right (r ∷ []) rs x (subst (λ z. Contains z.reports x) at_p (subst (λ z. Contains (t.process z.0).reports x) (sym same.1) is))))
        done q x is (inr apart) = subst (λ z. Contains z.reports x) (at_q q apart.0) is

    given-lives : (s.process p.0).phase ≡ phase.Ended → ⊥
    given-lives is = let differ : phase.Waiting ≡ phase.Ended = sym waits ∙ is in cc

    given-consistent : IsConsistent t
    given-consistent =
        consistent-by s t r.on (idle_way r.way (s.ends r.on)) [] place.Destroyed k made homes given-shape
        (next-same s r.on (idle_way r.way (s.ends r.on)) k (busy-made s r.on k is-busy) (given-place r.way) (given-noticed r.way) (given-well r.way))
        (going-led s t r.on p given-led given-lives given-here) given-telling

first-of : (rs : List Report) (r : Report) → slice_get rs 0 ≡ Some r → (ts : List Report) × (rs ≡ r ∷ ts)
first-of [] r is = absurd (none-some None r refl is)
first-of (x ∷ rs) r is = (rs, ap (λ z. z ∷ rs) (one is))
  where
    one : Some x ≡ Some r → x ≡ r
    one same = cc

pub consistent-report : (s : State) (p : Pid) (r : Report) → IsConsistent s → IsOldest s p r → IsConsistent (after_report p r s)
unfolding given
consistent-report s p r k may =
    given-consistent s p r found.0 k (waiting-is (s.process p.0).phase may.0) found.1 _ refl refl refl
    (ap (λ l. put_process p (record { phase = phase.Running; reports = later l }) s.process) found.1)
  where
    found : (ts : List Report) × ((s.process p.0).reports ≡ r ∷ ts)
    found = first-of (s.process p.0).reports r may.1
