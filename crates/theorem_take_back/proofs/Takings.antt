-- The service goes with the taking of a back at its send: where its end knows of the death of the link, and where that is noticed now.
use Rattle.std.proofs.Common.{◌≡◌, ◌⊎◌, inl, inr, ℕ, ◌<◌, Bool, true, false, nat_eq, ◌&&◌, not, if◌then◌else◌, List, [], ◌∷◌, ◌++◌, length, Contains, None, Some, refl, sym, ap, subst, ◌∙◌, true≢false, append_assoc, eq-eqb, eqb-true}
use Rattle.std.specs.List.{AllByRecursion, flat_map}
use Rattle.charlotte_calls.specs.Names.{opposite}
use Rattle.charlotte_calls.specs.declared.calls.Answer.{Answer}
use Rattle.charlotte_calls.specs.declared.calls.Answer.TheVariants as answer
use Rattle.charlotte_calls.specs.declared.calls.Cause.TheVariants as cause
use Rattle.charlotte_calls.specs.declared.calls.Report.{Report}
use Rattle.charlotte_calls.specs.declared.calls.ServiceStep.TheVariants as step
use Rattle.charlotte_calls.specs.declared.names.EndId.{EndId}
use Rattle.charlotte_calls.specs.declared.names.Outcome.TheVariants as outcome
use Rattle.charlotte_calls.specs.declared.names.Pid.{Pid}
use Rattle.charlotte_packets.specs.declared.picture.MovingPicture.{MovingPicture}
use Rattle.charlotte_packets.specs.declared.picture.Picture.{Picture}
use Rattle.charlotte_packets.specs.declared.picture.PictureWhat.{PictureWhat}
use Rattle.charlotte_packets.specs.declared.picture.PictureWhat.TheVariants as packet
use Rattle.end_table.proofs.EndEq.{end_eq-same}
use Rattle.end_table.specs.Entries.{settled}
use Rattle.end_table.specs.Place.{end_eq}
use Rattle.end_table.specs.Table.{IsHereAnd, IsIdle}
use Rattle.end_table.specs.declared.entry.Entry.{Entry}
use Rattle.end_table.specs.declared.entry.Entry.TheVariants as entry
use Rattle.end_table.specs.declared.entry.HereView.{HereView}
use Rattle.end_table.specs.declared.entry.Holder.{Holder}
use Rattle.end_table.specs.declared.entry.Holder.TheVariants as holder
use Rattle.end_table.specs.declared.entry.Outward.{Outward as KernelOutward}
use Rattle.end_table.specs.declared.entry.Outward.TheVariants as kernel_outward
use Rattle.kernel_effects.proofs.Uses.{all-append, forget-each}
use Rattle.kernel_effects.specs.Actions.{arrival_packets, cancel_notice, forget_packets, held_entry, notice_effect, noticed_view, receive_notice, send_notice}
use Rattle.kernel_effects.specs.Effect.{Effect, brings, for_holder, puts, stays, turns}
use Rattle.kernel_effects.specs.Rows.{back_effect, returned_view, returns_effect, returns_first_effect, row_effect}
use Rattle.kernel_outcomes.proofs.Sound.{arriving-all}
use Rattle.kernel_outcomes.specs.Closing.{AtMostOne}
use Rattle.kernel_sound.specs.Sound.{addressee}
use Rattle.kernel_step.specs.Actions.{enclosed_of, here, is_withdrawing, noticed_outward, send_report}
use Rattle.kernel_step.specs.Rows.{awaits, ends_in, is_matched}
use Rattle.kernel_world.specs.World.{Takes, World}
use Rattle.service_change.proofs.EndEq.{puts-at, puts-other}
use Rattle.service_consistent.proofs.Laws.{consistent_after}
use Rattle.service_lawful.specs.Consistent.{IsConsistent}
use Rattle.service_step.specs.Ends.{carried_by, is_made, noticed_end, notices, owner, places, puts as service_puts, to_owner, waiting_message}
use Rattle.service_step.specs.Lawful.{message_of}
use Rattle.service_step.specs.State.{Process, State, is_cancelling}
use Rattle.service_step.specs.State as service
use Rattle.service_step.specs.Steps.{IsServiceStep, after_notice, dead_reports, returned_reports}
use Rattle.service_step.specs.declared.state.End.{End}
use Rattle.service_step.specs.declared.state.Message.{Message}
use Rattle.service_step.specs.declared.state.Outward.TheVariants as outward
use Rattle.service_step.specs.declared.state.Phase.TheVariants as phase
use Rattle.service_step.specs.declared.state.Place.TheVariants as place
use Rattle.theorem_take_want.proofs.NamedParts.{forgets-within}
use Rattle.theorem_take_want.proofs.Values.{each-weaker}
use Rattle.theorem_take_want.specs.Named.{IsSentWithin}
use Rattle.theorem_take_want.specs.Sums.{AllSent}
use Rattle.theorem_meaning.proofs.Ends.{eq-same}
use Rattle.theorem_meaning.proofs.Goes.{Goes}
use Rattle.theorem_meaning.specs.Invariant.{Invariant, IsBackRight, NamesBelow}
use Rattle.theorem_meaning.specs.Packets.{links_of}
use Rattle.theorem_take_want.proofs.Alike.{some-same}
use Rattle.theorem_take_want.specs.Quiet.{IsGoneWell, IsSentWell, is_telling, tells_place}
use Rattle.theorem_ends_arrived.proofs.Dropped.{awaits-matched}
use Rattle.theorem_ends_arrived.proofs.Meets.{IsOwnedAt}
use Rattle.theorem_ends_arrived.proofs.Gone.{both-each, cancel-cases}
use Rattle.theorem_ends_arrived.proofs.Notices.{cancels-same, notice-links, notice-right, notice-step, noticed_links, process-other, process-own, told-same}
use Rattle.theorem_ends_arrived.proofs.Closes.{answered-goes, reported-goes}
use Rattle.theorem_ends_arrived.proofs.Owned.{busy-owned}
use Rattle.theorem_meaning.proofs.Plain.{there-here}
use Rattle.theorem_take_back.proofs.Backs.{IsBase, back_does, below-home, coming, gone, happened, links-then, near, next, right, right-then, sound-then, view-end}
use Rattle.theorem_take_back.proofs.Returns.{back-another, back-first, back-noticed, back-own, may-return}

module _ (i : ℕ) (w : World) (s : State) (is : Invariant i w s) (k from stamp : ℕ) (to : EndId) (n : ℕ) (ms : List MovingPicture) (others : List Picture) (there : w.packets from k ≡ record { stamp = stamp; what = packet.Back to n ms } ∷ others)
    (o : IsOwnedAt w s k to) (waits : o.view.outward ≡ kernel_outward.Matched n) where
  abbrev q : Picture
  q = record { stamp = stamp; what = packet.Back to n ms }

  abbrev v : HereView
  v = o.view

  abbrev p : Pid
  p = o.p

  abbrev table : EndId → Entry
  table = (w.kernel k).table

  abbrev made : ℕ
  made = (w.kernel k).made

  -- what is known of the packet
  its : IsBackRight (links_of w) s.ends k to n (ends_in ms)
  its = right i w s is k from stamp to n ms others there o waits

  abbrev message : Message
  message = its.matched.message

  abbrev after : State
  after = next i w s is k from stamp to n ms others there o waits

  destroyed : (s.ends (opposite to)).place ≡ place.Destroyed
  destroyed = gone i w s is k from stamp to n ms others there o waits

  end : v.value.end ≡ to
  end = view-end i w s is k from stamp to n ms others there o waits

  below : p.0 < length s.homes
  below = below-home i w s is k from stamp to n ms others there o waits

  busy : IsIdle v → ⊥
  busy idle = let both : kernel_outward.Idle ≡ kernel_outward.Matched n = sym idle.outward ∙ waits in cc

  not-carried : Contains message.carried to → ⊥
  not-carried has =
      let inside = is.service.kept.held.carried to to (s.ends to).sent (record { message = message; there = ap message_of its.matched.matched; number = refl; carries = has }) in
      let both : place.Owned p ≡ place.InMessage to (s.ends to).sent = sym o.owned ∙ inside in
      cc

  abbrev report : Report
  report = send_report to outcome.Destroyed (ends_in ms)

  reports-same : service.send_report to outcome.Destroyed message.carried ∷ [] ≡ report ∷ []
  reports-same = ap (λ l. service.send_report to outcome.Destroyed l ∷ []) its.matched.carries

  -- the rule, by whether the end knows of the death of its link
  row-is : row_effect k made from table q.what ≡ (if v.value.dead then returns_effect k to n ms v else returns_first_effect k from to n ms v)
  row-is =
      ap (back_effect k made table from to n ms) (awaits-matched n (table to) v o.here (ap (is_matched n) waits ∙ eq-eqb n n refl))
      ∙ ap (λ l. if v.value.dead then returns_effect k to n l v else returns_first_effect k from to n l v) (arriving-all k made v.holder table ms (coming i w s is k from stamp to n ms others there o waits))

  -- ---- the end knows of it

  module _ (dead : v.value.dead ≡ true) where
    noticed : (s.ends to).noticed ≡ true
    noticed = o.agree.noticed ∙ dead

    stepped : IsServiceStep s (step.Back to n false) after
    stepped = may-return s to n p message its.matched.matched o.owned its.matched.number destroyed false (ap (λ b. not b && is_cancelling to (s.process p.0).phase) noticed)

    own-process : after.process p.0 ≡ record { phase = (s.process p.0).phase; reports = (s.process p.0).reports ++ (report ∷ []) }
    own-process =
        back-noticed s to n p message its.matched.matched o.owned noticed ∙ ap (λ l. record { phase = (s.process p.0).phase; reports = (s.process p.0).reports ++ l }) reports-same

    other-process : (a : ℕ) → nat_eq p.0 a ≡ false → after.process a ≡ s.process a
    other-process = back-another s to n p message its.matched.matched o.owned

    same-phases : (a : ℕ) → (after.process a).phase ≡ (s.process a).phase
    same-phases a = by (nat_eq p.0 a) refl
      where
        by : (b : Bool) → nat_eq p.0 a ≡ b → (after.process a).phase ≡ (s.process a).phase
        by true same = subst (λ z. (after.process z).phase ≡ (s.process z).phase) (eqb-true p.0 a same) (ap (λ (z : Process). z.phase) own-process)
        by false apart = ap (λ (z : Process). z.phase) (other-process a apart)

    own-entry : (e : EndId) → table e ≡ (if end_eq to e then entry.Here v else table e)
    own-entry e = by (end_eq to e) refl
      where
        by : (b : Bool) → end_eq to e ≡ b → table e ≡ (if b then entry.Here v else table e)
        by true same = subst (λ z. table z ≡ entry.Here v) (end_eq-same to e same) o.here
        by false apart = refl

    base : IsBase i w s k to n v after v (λ j. (w.kernel j).table) s.ends s.process
    base =
        record {
          own = own-entry;
          far = λ j e apart. refl;
          right = is.links;
          links = is.stands.links;
          kept = is.service;
          same = λ e apart. refl;
          ends =
              back-own s to n p message its.matched.matched o.owned not-carried
              ∙ ap (λ b. if b then record (s.ends to) { outward = outward.Unreported } else noticed_end (record (s.ends to) { outward = outward.Unreported })) noticed;
          phases = same-phases;
          waits = waits;
          view = record { end = refl; holder = refl; idle = λ idle. absurd (busy idle); message = inr refl };
          service = consistent_after s (step.Back to n false) after is.service stepped;
        }

    abbrev effect_at : EndId → Holder → Effect
    effect_at e h =
        record {
          entry = puts e (entry.Here (returned_view v)) (brings ms (λ m. entry.Here (settled h m)) stays);
          packets = flat_map (arrival_packets k) ms;
          reports = for_holder h (send_report e outcome.Destroyed (ends_in ms) ∷ []);
          answers = [];
          steps = step.Back to n false ∷ [];
        }

    effect : row_effect k made from table q.what ≡ back_does k to n p ms v [] (report ∷ []) [] false
    effect = row-is ∙ ap (λ b. if b then returns_effect k to n ms v else returns_first_effect k from to n ms v) dead ∙ ap (λ e. effect_at e v.holder) end ∙ ap (effect_at to) o.holder

    knowing-goes : Goes i w s (Takes k from)
    knowing-goes =
        reported-goes i w s is k from q (back_does k to n p ms v [] (report ∷ []) [] false) p report [] (happened i w s is k from stamp to n ms others there o waits base [] tt tt (report ∷ []) [] false effect tt) after.ends after.process
        (step.Back to n false) refl stepped (links-then i w s is k from stamp to n ms others there o waits base [] tt tt (report ∷ []) [] false effect tt)
        (right-then i w s is k from stamp to n ms others there o waits base [] tt tt (report ∷ []) [] false effect tt) (sound-then i w s is k from stamp to n ms others there o waits base [] tt tt (report ∷ []) [] false effect tt)
        o.home below other-process own-process

  -- ---- it hears of it now

  module _ (alive : v.value.dead ≡ false) where
    unnoticed : (s.ends to).noticed ≡ false
    unnoticed = o.agree.noticed ∙ alive

    abbrev noted : State
    noted = after_notice to s

    abbrev y : ℕ → EndId → Entry
    y = (noticed_links k v (links_of w)).entry

    notices-it : IsServiceStep s (step.Notice to (is_withdrawing v.inward)) noted
    notices-it = notice-step i (links_of w) s is.links is.stands.links is.service is.setting.few k made (is.setting.sound k) to v o.here destroyed alive

    cancels : is_cancelling to (s.process p.0).phase ≡ is_withdrawing v.inward
    cancels = cancels-same i (links_of w) s is.links is.stands.links is.service is.setting.few k made (is.setting.sound k) to v o.here destroyed alive p o.holder

    first-stepped : IsServiceStep s (step.Back to n (is_withdrawing v.inward)) after
    first-stepped =
        may-return s to n p message its.matched.matched o.owned its.matched.number destroyed (is_withdrawing v.inward) (ap (λ b. not b && is_cancelling to (s.process p.0).phase) unnoticed ∙ cancels)

    -- the report of a receive that was started
    abbrev receive_reports : List Report
    receive_reports = receive_notice v.value.end v.inward

    receives-same : dead_reports to (s.ends to) ≡ receive_reports
    receives-same =
        sym (ap (λ z. returned_reports to (waiting_message z) ++ dead_reports to (s.ends to)) its.matched.matched)
        ∙ told-same i (links_of w) s is.links is.stands.links is.service is.setting.few k made (is.setting.sound k) to v o.here destroyed p o.holder ∙ ap (λ z. send_notice v.value.end z ++ receive_reports) waits

    first-own : after.process p.0 ≡ record { phase = if is_withdrawing v.inward then phase.Running else (s.process p.0).phase; reports = (s.process p.0).reports ++ (report ∷ receive_reports) }
    first-own =
        back-first s to n p message its.matched.matched o.owned unnoticed
        ∙ ap (λ b. record { phase = if b then phase.Running else (s.process p.0).phase; reports = (s.process p.0).reports ++ (service.send_report to outcome.Destroyed message.carried ∷ [] ++ dead_reports to (s.ends to)) }) cancels
        ∙ ap (λ l. record { phase = if is_withdrawing v.inward then phase.Running else (s.process p.0).phase; reports = (s.process p.0).reports ++ (l ++ dead_reports to (s.ends to)) }) reports-same
        ∙ ap (λ l. record { phase = if is_withdrawing v.inward then phase.Running else (s.process p.0).phase; reports = (s.process p.0).reports ++ (report ∷ l) }) receives-same

    first-other : (a : ℕ) → nat_eq p.0 a ≡ false → after.process a ≡ s.process a
    first-other = back-another s to n p message its.matched.matched o.owned

    noted-own : noted.process p.0 ≡ record { phase = if is_cancelling to (s.process p.0).phase then phase.Running else (s.process p.0).phase; reports = (noted.process p.0).reports }
    noted-own =
        let own = process-own i (links_of w) s is.links is.stands.links is.service is.setting.few k made (is.setting.sound k) to v o.here destroyed p o.holder in
        own ∙ ap (λ (z : Process). record { phase = if is_cancelling to (s.process p.0).phase then phase.Running else (s.process p.0).phase; reports = z.reports }) (sym own)

    noted-other : (a : ℕ) → nat_eq p.0 a ≡ false → noted.process a ≡ s.process a
    noted-other = process-other i (links_of w) s is.links is.stands.links is.service is.setting.few k made (is.setting.sound k) to v o.here destroyed p o.holder

    first-phases : (a : ℕ) → (after.process a).phase ≡ (noted.process a).phase
    first-phases a = by (nat_eq p.0 a) refl
      where
        by : (b : Bool) → nat_eq p.0 a ≡ b → (after.process a).phase ≡ (noted.process a).phase
        by true same =
            subst (λ z. (after.process z).phase ≡ (noted.process z).phase) (eqb-true p.0 a same)
            (ap (λ (z : Process). z.phase) first-own ∙ ap (λ b. if b then phase.Running else (s.process p.0).phase) (sym cancels) ∙ sym (ap (λ (z : Process). z.phase) noted-own))
        by false apart = ap (λ (z : Process). z.phase) (first-other a apart) ∙ sym (ap (λ (z : Process). z.phase) (noted-other a apart))

    -- the ends after a notice
    noted-ends : (e : EndId) → noted.ends e ≡ service_puts to (noticed_end (s.ends to)) s.ends e
    unfolding notices places
    noted-ends e =
        ap (λ z. to_owner (owner z) (carried_by (waiting_message (s.ends to).outward)) (service_puts to (noticed_end (s.ends to)) s.ends) e) o.owned
        ∙ ap (λ z. places (place.Owned p) (carried_by (waiting_message z)) (service_puts to (noticed_end (s.ends to)) s.ends) e) its.matched.matched

    noted-at : noted.ends to ≡ noticed_end (s.ends to)
    noted-at = noted-ends to ∙ puts-at to (noticed_end (s.ends to)) s.ends (ap (λ z. is_made z) o.owned)

    y-entry : (e : EndId) → y k e ≡ (if end_eq to e then entry.Here (noticed_view v) else table e)
    y-entry e =
        ap (λ b. if b then (notice_effect k v).entry e (table e) else table e) (eq-eqb k k refl)
        ∙ ap (λ z. if end_eq z e then entry.Here (noticed_view v) else turns (enclosed_of v.outward) (held_entry v.holder) stays e (table e)) end
        ∙ ap (λ z. if end_eq to e then entry.Here (noticed_view v) else turns (enclosed_of z) (held_entry v.holder) stays e (table e)) waits

    first-base : IsBase i w s k to n v after (noticed_view v) y noted.ends noted.process
    first-base =
        record {
          own = y-entry;
          far = λ j e apart. ap (λ b. if b then (notice_effect k v).entry e ((w.kernel j).table e) else (w.kernel j).table e) apart;
          right = notice-right i (links_of w) s is.links is.stands.links is.service is.setting.few k made (is.setting.sound k) to v o.here destroyed;
          links = notice-links i (links_of w) s is.links is.stands.links is.service is.setting.few k made (is.setting.sound k) to v o.here destroyed;
          kept = consistent_after s (step.Notice to (is_withdrawing v.inward)) noted is.service notices-it;
          same = λ e apart. noted-ends e ∙ puts-other to (noticed_end (s.ends to)) s.ends e (eq-same to e ∙ apart);
          ends =
              back-own s to n p message its.matched.matched o.owned not-carried
              ∙ ap (λ b. if b then record (s.ends to) { outward = outward.Unreported } else noticed_end (record (s.ends to) { outward = outward.Unreported })) unnoticed
              ∙ ap (λ (z : End). record z { outward = outward.Unreported }) (sym noted-at);
          phases = first-phases;
          waits = ap noticed_outward waits;
          view = record { end = refl; holder = refl; idle = λ idle. absurd (busy idle); message = inr refl };
          service = first-service;
        }
      where
        first-service : IsConsistent after
        first-service = consistent_after s (step.Back to n (is_withdrawing v.inward)) after is.service first-stepped

    -- ---- what is sent of it

    abbrev extra : List (ℕ × PictureWhat)
    extra = forget_packets k v.value ++ (from, packet.GoneSeen (opposite to)) ∷ []

    made-then : (e : EndId) → is_made (s.ends e).place ≡ true → is_made (after.ends e).place ≡ true
    made-then e is_so = first-base.service.kept.made e ∙ sym (is.service.kept.made e) ∙ is_so

    abbrev IsPlain : ℕ × PictureWhat → Type 0
    IsPlain a = IsSentWell (length s.made) after.ends a.0 a.1 × (tells_place a.1 ≡ false)

    extra-plain : AllByRecursion IsPlain extra
    extra-plain =
        all-append IsPlain (forget_packets k v.value) ((from, packet.GoneSeen (opposite to)) ∷ [])
        (both-each (λ a. (is_telling a.1 ≡ false) × (tells_place a.1 ≡ false) × (is_made (after.ends (addressee a.1)).place ≡ true) × IsGoneWell after.ends a.1) (λ a. IsSentWithin (length s.made) a.0 a.1) IsPlain
        (λ a one two. (record { quiet = one.0; below = two.0; addressed = two.1; made = one.2; gone = one.3 }, one.1)) (forget_packets k v.value)
        (forget-each (λ a. (is_telling a.1 ≡ false) × (tells_place a.1 ≡ false) × (is_made (after.ends (addressee a.1)).place ≡ true) × IsGoneWell after.ends a.1) k v.value
        (λ j told other. (refl, refl, made-then v.value.end (subst (λ z. is_made (s.ends z).place ≡ true) (sym end) (ap (λ z. is_made z) o.owned)), tt)))
        (forgets-within (length s.made) k v.value (subst (NamesBelow (length s.made)) o.here (is.links.named.entries k to))))
        ((record { quiet = refl; below = (near i w s is k from stamp to n ms others there o waits).0; addressed = refl; made = made-then (opposite to) (ap (λ z. is_made z) destroyed); gone = tt }, refl), tt)

    extra-well : AllSent (IsSentWell (length s.made) after.ends) extra
    extra-well = each-weaker IsPlain (λ a. IsSentWell (length s.made) after.ends a.0 a.1) (λ a is_so. is_so.0) extra extra-plain

    extra-silent : AllSent (λ to what. tells_place what ≡ false) extra
    extra-silent = each-weaker IsPlain (λ a. tells_place a.1 ≡ false) (λ a is_so. is_so.1) extra extra-plain

    abbrev first_at : EndId → Holder → Effect
    first_at e h =
        record {
          entry = puts e (entry.Here (noticed_view (returned_view v))) (brings ms (λ m. entry.Here (settled h m)) stays);
          packets = forget_packets k v.value ++ (from, packet.GoneSeen (opposite e)) ∷ flat_map (arrival_packets k) ms;
          reports = for_holder h (send_report e outcome.Destroyed (ends_in ms) ∷ receive_notice v.value.end v.inward);
          answers = for_holder h (cancel_notice v.inward);
          steps = step.Back to n (is_withdrawing v.inward) ∷ [];
        }

    first-effect : row_effect k made from table q.what ≡ back_does k to n p ms (noticed_view v) extra (report ∷ receive_reports) (cancel_notice v.inward) (is_withdrawing v.inward)
    first-effect =
        row-is ∙ ap (λ b. if b then returns_effect k to n ms v else returns_first_effect k from to n ms v) alive ∙ ap (λ e. first_at e v.holder) end ∙ ap (first_at to) o.holder
        ∙ ap (λ l. record (first_at to (holder.Owner p)) { packets = l }) (sym (append_assoc (forget_packets k v.value) ((from, packet.GoneSeen (opposite to)) ∷ []) (flat_map (arrival_packets k) ms)))

    module _ (given : List Answer) (gives : cancel_notice v.inward ≡ given) (one : AtMostOne given) where
      abbrev f : Effect
      f = back_does k to n p ms (noticed_view v) extra (report ∷ receive_reports) given (is_withdrawing v.inward)

      given-effect : row_effect k made from table q.what ≡ f
      given-effect = first-effect ∙ ap (λ l. back_does k to n p ms (noticed_view v) extra (report ∷ receive_reports) l (is_withdrawing v.inward)) gives

    hearing-goes : Goes i w s (Takes k from)
    hearing-goes = by (cancel-cases v.inward)
      where
        by : ((is_withdrawing v.inward ≡ true) × (cancel_notice v.inward ≡ answer.Refused cause.Dead ∷ [])) ⊎ ((is_withdrawing v.inward ≡ false) × (cancel_notice v.inward ≡ [])) → Goes i w s (Takes k from)
        by (inl withdrawing) =
            let gives = withdrawing.1 in
            answered-goes i w s is k from q (f (answer.Refused cause.Dead ∷ []) gives tt) p (answer.Refused cause.Dead) (report ∷ receive_reports)
            (happened i w s is k from stamp to n ms others there o waits first-base extra extra-well extra-silent (report ∷ receive_reports) (answer.Refused cause.Dead ∷ []) (is_withdrawing v.inward) (given-effect (answer.Refused cause.Dead ∷ []) gives tt) tt)
            after.ends after.process (step.Back to n (is_withdrawing v.inward)) refl first-stepped
            (links-then i w s is k from stamp to n ms others there o waits first-base extra extra-well extra-silent (report ∷ receive_reports) (answer.Refused cause.Dead ∷ []) (is_withdrawing v.inward) (given-effect (answer.Refused cause.Dead ∷ []) gives tt) tt)
            (right-then i w s is k from stamp to n ms others there o waits first-base extra extra-well extra-silent (report ∷ receive_reports) (answer.Refused cause.Dead ∷ []) (is_withdrawing v.inward) (given-effect (answer.Refused cause.Dead ∷ []) gives tt) tt)
            (sound-then i w s is k from stamp to n ms others there o waits first-base extra extra-well extra-silent (report ∷ receive_reports) (answer.Refused cause.Dead ∷ []) (is_withdrawing v.inward) (given-effect (answer.Refused cause.Dead ∷ []) gives tt) tt)
            o.home below first-other (first-own ∙ ap (λ b. record { phase = if b then phase.Running else (s.process p.0).phase; reports = (s.process p.0).reports ++ (report ∷ receive_reports) }) withdrawing.0)
        by (inr still) =
            let gives = still.1 in
            reported-goes i w s is k from q (f [] gives tt) p report receive_reports
            (happened i w s is k from stamp to n ms others there o waits first-base extra extra-well extra-silent (report ∷ receive_reports) [] (is_withdrawing v.inward) (given-effect [] gives tt) tt)
            after.ends after.process (step.Back to n (is_withdrawing v.inward)) refl first-stepped
            (links-then i w s is k from stamp to n ms others there o waits first-base extra extra-well extra-silent (report ∷ receive_reports) [] (is_withdrawing v.inward) (given-effect [] gives tt) tt)
            (right-then i w s is k from stamp to n ms others there o waits first-base extra extra-well extra-silent (report ∷ receive_reports) [] (is_withdrawing v.inward) (given-effect [] gives tt) tt)
            (sound-then i w s is k from stamp to n ms others there o waits first-base extra extra-well extra-silent (report ∷ receive_reports) [] (is_withdrawing v.inward) (given-effect [] gives tt) tt)
            o.home below first-other (first-own ∙ ap (λ b. record { phase = if b then phase.Running else (s.process p.0).phase; reports = (s.process p.0).reports ++ (report ∷ receive_reports) }) still.0)

  back-meets : Goes i w s (Takes k from)
  back-meets = by v.value.dead refl
    where
      by : (b : Bool) → v.value.dead ≡ b → Goes i w s (Takes k from)
      by true dead = knowing-goes dead
      by false alive = hearing-goes alive

-- a back whose end is here, with the send matched
pub back-given-goes : (i : ℕ) (w : World) (s : State) → Invariant i w s → (k from stamp : ℕ) (to : EndId) (n : ℕ) (ms : List MovingPicture) (others : List Picture)
    → w.packets from k ≡ record { stamp = stamp; what = packet.Back to n ms } ∷ others → IsHereAnd ((w.kernel k).table to) (λ v. v.outward ≡ kernel_outward.Matched n) → Goes i w s (Takes k from)
back-given-goes i w s is k from stamp to n ms others there meets =
    let v = there-here ((w.kernel k).table to) (λ v. v.outward ≡ kernel_outward.Matched n) meets in
    let o = busy-owned is k to v.0 v.1 (λ idle. let both : kernel_outward.Idle ≡ kernel_outward.Matched n = sym idle.outward ∙ v.2 in cc) in
    let same : v.0 ≡ o.view = some-same v.0 o.view (ap here (sym v.1 ∙ o.here)) in
    back-meets i w s is k from stamp to n ms others there o (subst (λ (z : HereView). z.outward ≡ kernel_outward.Matched n) same v.2)

matched-so : (n : ℕ) (x : KernelOutward) → is_matched n x ≡ true → x ≡ kernel_outward.Matched n
matched-so n (kernel_outward.Matched m) is = ap kernel_outward.Matched (eqb-true m n is)
matched-so n kernel_outward.Idle is = absurd (true≢false (sym is))
matched-so n (kernel_outward.Waiting m bytes xs) is = absurd (true≢false (sym is))
matched-so n kernel_outward.Unreported is = absurd (true≢false (sym is))

-- a back that meets its send at its kernel, as the rule of backs tests it
pub back-awaited-goes : (i : ℕ) (w : World) (s : State) → Invariant i w s → (k from stamp : ℕ) (to : EndId) (n : ℕ) (ms : List MovingPicture) (others : List Picture)
    → w.packets from k ≡ record { stamp = stamp; what = packet.Back to n ms } ∷ others → (v : HereView) → awaits n ((w.kernel k).table to) ≡ Some v → Goes i w s (Takes k from)
back-awaited-goes i w s is k from stamp to n ms others there v found = back-given-goes i w s is k from stamp to n ms others there (by ((w.kernel k).table to) found)
  where
    by : (y : Entry) → awaits n y ≡ Some v → IsHereAnd y (λ u. u.outward ≡ kernel_outward.Matched n)
    by (entry.Here u) is = one (is_matched n u.outward) refl is
      where
        one : (b : Bool) → is_matched n u.outward ≡ b → (if b then Some u else None) ≡ Some v → u.outward ≡ kernel_outward.Matched n
        one true told is = matched-so n u.outward told
        one false told is = absurd cc
    by entry.Nothing is = absurd cc
    by (entry.Left there hops) is = absurd cc
    by (entry.Destroyed m) is = absurd cc
