-- A gone is taken at an end that is here and does not know of the death of its link yet: the service goes with it by the step notice, and
-- by a report where the owner waits.
use Rattle.std.proofs.Common.{◌≡◌, ◌⊎◌, inl, inr, ℕ, ◌+◌, ◌<◌, Bool, true, false, nat_eq, if◌then◌else◌, List, [], ◌∷◌, ◌++◌, map, length, Contains, Some, refl, sym, ap, subst, ◌∙◌, append-nil, eq-eqb, eqb-true, ltb-true, slice_get}
use Rattle.std.proofs.lemmas.Bool.Decides.{eqb_tells}
use Rattle.std.specs.List.{AllByRecursion}
use Rattle.charlotte_calls.specs.Names.{opposite}
use Rattle.charlotte_calls.specs.declared.calls.Answer.{Answer}
use Rattle.charlotte_calls.specs.declared.calls.Answer.TheVariants as answer
use Rattle.charlotte_calls.specs.declared.calls.Cause.TheVariants as cause
use Rattle.charlotte_calls.specs.declared.calls.Report.{Report}
use Rattle.charlotte_calls.specs.declared.calls.ServiceStep.TheVariants as step
use Rattle.charlotte_calls.specs.declared.names.EndId.{EndId}
use Rattle.charlotte_calls.specs.declared.names.Pid.{Pid}
use Rattle.charlotte_packets.specs.declared.picture.MovingPicture.{MovingPicture}
use Rattle.charlotte_packets.specs.declared.picture.Picture.{Picture}
use Rattle.charlotte_packets.specs.declared.picture.PictureWhat.{PictureWhat}
use Rattle.charlotte_packets.specs.declared.picture.PictureWhat.TheVariants as packet
use Rattle.end_table.proofs.EndEq.{end_eq-refl, end_eq-same, put-at, put-other}
use Rattle.end_table.specs.Place.{end_eq, put}
use Rattle.end_table.specs.Table.{IfHere}
use Rattle.end_table.specs.declared.entry.Entry.{Entry}
use Rattle.end_table.specs.declared.entry.Entry.TheVariants as entry
use Rattle.end_table.specs.declared.entry.HereView.{HereView}
use Rattle.end_table.specs.declared.entry.Holder.{Holder}
use Rattle.end_table.specs.declared.entry.Holder.TheVariants as holder
use Rattle.end_table.specs.declared.entry.Inward.{Inward}
use Rattle.end_table.specs.declared.entry.Inward.TheVariants as inward
use Rattle.kernel_effects.proofs.Uses.{all-append, forget-each}
use Rattle.kernel_effects.specs.Actions.{cancel_notice, forget_packets, notice_effect, receive_notice, send_notice}
use Rattle.kernel_effects.specs.Effect.{Effect, for_holder, sent}
use Rattle.kernel_effects.specs.Rows.{gone_effect}
use Rattle.theorem_call_wait.specs.Closing.{AtMostOne, process_after, told, told_entry}
use Rattle.kernel_sound.proofs.Needs.{IfHere-at}
use Rattle.kernel_sound.proofs.Reports.{IsSound-reported}
use Rattle.kernel_sound.specs.Sound.{IsHeldWell, IsSound, addressee}
use Rattle.kernel_step.specs.Actions.{is_withdrawing}
use Rattle.kernel_step.specs.Kernel.{Process as KernelProcess, is_waiting, process_of, reported_entry}
use Rattle.kernel_step.specs.declared.phase.Phase.TheVariants as kernel_phase
use Rattle.kernel_world.specs.World.{Takes, World, happens}
use Rattle.service_consistent.proofs.Laws.{consistent_after}
use Rattle.service_lawful.specs.Consistent.{IsConsistent}
use Rattle.service_step.specs.Ends.{is_made, waiting_message}
use Rattle.service_step.specs.State.{Process, State, is_cancelling, later}
use Rattle.service_step.specs.State as service
use Rattle.service_step.specs.Steps.{IsServiceStep, after_notice, after_report, dead_reports, returned_reports}
use Rattle.service_step.specs.declared.state.End.{End}
use Rattle.service_step.specs.declared.state.Phase.TheVariants as phase
use Rattle.service_step.specs.declared.state.Place.TheVariants as place
use Rattle.theorem_call_wait.proofs.Allowed.{are-oldest, between, takes-allowed}
use Rattle.theorem_call_wait.proofs.Lists.{first}
use Rattle.theorem_call_wait.proofs.NamedParts.{forgets-within}
use Rattle.theorem_call_wait.specs.Change.{Change, Changes, Happens}
use Rattle.theorem_call_wait.specs.Events.{taking}
use Rattle.theorem_call_wait.specs.Named.{IsSentWithin}
use Rattle.theorem_call_wait.specs.Sums.{AllSent}
use Rattle.theorem_meaning.proofs.Goes.{Goes}
use Rattle.theorem_meaning.specs.Invariant.{AreRight, Invariant, NamesBelow}
use Rattle.theorem_meaning.specs.Packets.{Links, links_of}
use Rattle.theorem_meaning.specs.StandsFor.{AreLinksOf, IsProcessOf, home_of, service_phase}
use Rattle.theorem_take_answer.proofs.Alike.{IsQuietly-same, some-same}
use Rattle.theorem_take_answer.proofs.Clauses.{links-still}
use Rattle.theorem_take_answer.proofs.Passing.{passing-right}
use Rattle.theorem_take_answer.proofs.Taking.{taken-well, taking-goes}
use Rattle.theorem_take_answer.specs.Quiet.{IsGoneWell, IsPassed, IsPassing, IsQuiet, IsSentWell, is_telling, tells_place}
use Rattle.theorem_take_answer.proofs.Completed.{waiting-Waiting, waiting-service}
use Rattle.theorem_take_answer.proofs.Meets.{right-first, stands-first}
use Rattle.theorem_take_answer.proofs.World.{processes-kept, processes-told, setting-after, sound-same}
use Rattle.theorem_take_gone.proofs.Notices.{cancels-same, notice-links, notice-right, notice-sound, notice-step, noticed_links, owned-here, process-other, process-own, process-same, told-same, view-end}
use Rattle.theorem_take_gone.proofs.Told.{told-links, told-process, told-process-other, told-right}

-- what is true of each of some packets in two ways
pub both-each : {X : Type 0} (P Q R : X → Type 0) → ((x : X) → P x → Q x → R x) → (xs : List X) → AllByRecursion P xs → AllByRecursion Q xs → AllByRecursion R xs
both-each P Q R gives [] one other = tt
both-each P Q R gives (x ∷ xs) one other = (gives x one.0 other.0, both-each P Q R gives xs one.1 other.1)

-- a Cancel that waits is answered where the receive is being withdrawn
pub cancel-cases : (i : Inward) → ((is_withdrawing i ≡ true) × (cancel_notice i ≡ answer.Refused cause.Dead ∷ [])) ⊎ ((is_withdrawing i ≡ false) × (cancel_notice i ≡ []))
cancel-cases inward.Idle = inr (refl, refl)
cancel-cases (inward.Posted w) = inr (refl, refl)
cancel-cases (inward.Withdrawing w) = inl (refl, refl)
cancel-cases inward.Unreported = inr (refl, refl)

module _ (i : ℕ) (w : World) (s : State) (is : Invariant i w s) (k from stamp : ℕ) (to : EndId) (at : ℕ) (others : List Picture) (there : w.packets from k ≡ record { stamp = stamp; what = packet.Gone to at } ∷ others)
    (v : HereView) (here : (w.kernel k).table to ≡ entry.Here v) (alive : v.value.dead ≡ false) where
  abbrev q : Picture
  q = record { stamp = stamp; what = packet.Gone to at }

  abbrev n : ℕ
  n = length s.made

  abbrev f : Effect
  f =
      record (notice_effect k v) {
        packets = forget_packets k v.value ++ (at, packet.GoneSeen (opposite v.value.end)) ∷ [];
        steps = step.Notice v.value.end (is_withdrawing v.inward) ∷ [];
      }

  does : gone_effect k to at ((w.kernel k).table to) ≡ f
  does = ap (gone_effect k to at) here ∙ ap (λ b. if b then sent ((at, packet.GoneSeen (opposite v.value.end)) ∷ []) else f) alive

  gone : (s.ends (opposite to)).place ≡ place.Destroyed
  gone = right-first is k from q others there

  -- the reports of the kernel
  abbrev reps : List Report
  reps = send_notice v.value.end v.outward ++ receive_notice v.value.end v.inward

  -- ---- the part that turns entries

  abbrev m : Links
  m = noticed_links k v (links_of w)

  abbrev t : State
  t = after_notice to s

  ends-so : v.value.end ≡ to
  ends-so = view-end i (links_of w) s is.links is.stands.links is.service is.setting.few k (w.kernel k).made (is.setting.sound k) to v here gone

  m-links : AreLinksOf m t
  m-links = notice-links i (links_of w) s is.links is.stands.links is.service is.setting.few k (w.kernel k).made (is.setting.sound k) to v here gone

  m-right : AreRight i m t
  m-right = notice-right i (links_of w) s is.links is.stands.links is.service is.setting.few k (w.kernel k).made (is.setting.sound k) to v here gone

  noticed : IsServiceStep s (step.Notice to (is_withdrawing v.inward)) t
  noticed = notice-step i (links_of w) s is.links is.stands.links is.service is.setting.few k (w.kernel k).made (is.setting.sound k) to v here gone alive

  m-service : IsConsistent t
  m-service = consistent_after s (step.Notice to (is_withdrawing v.inward)) t is.service noticed

  near : (from < n) × (k < n)
  near = between is from k q (stands-first is k from q others there)

  -- ---- packets that are sent

  is-made : is_made (s.ends to).place ≡ true
  is-made = (taken-well i w s is k from q others there refl).made

  abbrev IsPlain : (EndId → End) → ℕ × PictureWhat → Type 0
  IsPlain ends p = (is_telling p.1 ≡ false) × (tells_place p.1 ≡ false) × (is_made (ends (addressee p.1)).place ≡ true) × IsGoneWell ends p.1

  module _ (r : State) (made-same : r.made ≡ s.made) (made-still : (e : EndId) → is_made (s.ends e).place ≡ true → is_made (r.ends e).place ≡ true) where
    sent-plain : AllByRecursion (IsPlain r.ends) f.packets
    sent-plain =
        all-append (IsPlain r.ends) (forget_packets k v.value) ((at, packet.GoneSeen (opposite v.value.end)) ∷ [])
        (forget-each (IsPlain r.ends) k v.value (λ j told other. (refl, refl, made-still v.value.end (subst (λ z. is_made (s.ends z).place ≡ true) (sym ends-so) is-made), tt)))
        ((refl, refl, made-still (opposite v.value.end) (subst (λ z. is_made (s.ends (opposite z)).place ≡ true) (sym ends-so) (ap (λ z. is_made z) gone)), tt), tt)

    sent-within : AllByRecursion (λ p. IsSentWithin n p.0 p.1) f.packets
    sent-within =
        all-append (λ p. IsSentWithin n p.0 p.1) (forget_packets k v.value) ((at, packet.GoneSeen (opposite v.value.end)) ∷ [])
        (forgets-within n k v.value (subst (NamesBelow n) here (is.links.named.entries k to)))
        ((ltb-true at n (taken-well i w s is k from q others there refl).addressed, refl), tt)

    sent-well : AllSent (IsSentWell (length r.made) r.ends) f.packets
    sent-well =
        subst (λ z. AllSent (IsSentWell (length z) r.ends) f.packets) (sym made-same)
        (both-each (IsPlain r.ends) (λ p. IsSentWithin n p.0 p.1) (λ p. IsSentWell n r.ends p.0 p.1) (λ p plain within. record { quiet = plain.0; below = within.0; addressed = within.1; made = plain.2; gone = plain.3 }) f.packets sent-plain sent-within)

  -- ---- the event, of which p gets these answers and reports

  module _ (p : Pid) (given : List Answer) (rs : List Report) (happened : Happens w (Takes k from) (taking w k from q f p given rs)) where
    abbrev c : Change
    c = taking w k from q f p given rs

    abbrev after : World
    after = happens w (Takes k from)

    abbrev u : Links
    u = links_of after

    b : Changes (links_of w) c u
    b = happened.becomes.links

    -- the report that is told at once
    abbrev now : List Report
    now = told (process_of p (w.kernel k)).phase given rs

    -- the entries of the end, with the packets as they were
    abbrev half : Links
    half = record { entry = u.entry; packets = w.packets }

    entry-own : (e : EndId) → u.entry k e ≡ told_entry now e (m.entry k e)
    entry-own e = b.entry e ∙ ap (λ a. told_entry now e (if a then (notice_effect k v).entry e ((w.kernel k).table e) else (w.kernel k).table e)) (sym (eq-eqb k k refl))

    entry-other : (j : ℕ) (e : EndId) → nat_eq j k ≡ false → u.entry j e ≡ m.entry j e
    entry-other j e far = b.others j e far ∙ sym (ap (λ a. if a then (notice_effect k v).entry e ((w.kernel j).table e) else (w.kernel j).table e) far)

    abbrev last : Change
    last = record c { entry = λ e z. z }

    last-part : Changes half last u
    last-part = record { entry = λ e. refl; others = λ j e far. refl; left = b.left; before = b.before; after = b.after }

    -- the state of the service afterwards
    module _ (ends : EndId → End) (process : ℕ → Process) where
      abbrev r : State
      r = record s { ends = ends; process = process }

      closes : ((e : EndId) → is_made (s.ends e).place ≡ true → is_made (ends e).place ≡ true) → AreLinksOf half r → AreRight i half r → IsConsistent r → IsSound k (w.kernel k).made (length s.homes) (after.kernel k).table
          → ((a : Pid) → a.0 < length s.homes → IsProcessOf ((after.kernel (home_of s a)).process a.0) (process a.0)) → ((a : Pid) → (process a.0).phase ≡ phase.Waiting → (process a.0).reports ≡ []) → Invariant (i + 1) after r
      closes made links right service sound processes waits =
          record {
            stands = record { processes = processes; links = links-still last-part r quiet links };
            service = service;
            setting = setting-after happened.becomes s ends process refl sound is.setting;
            links = passing-right last-part r quiet passing i right;
            waiting = waits;
          }
        where
          quiet : IsQuiet n ends half last
          quiet =
              record {
                kernel = near.1;
                entry = λ e. IsQuietly-same (u.entry k e);
                names = right.named.entries k;
                taken = refl;
                sent = sent-well r refl made;
              }

          passing : IsPassing ends half last
          passing =
              record {
                hints = λ e o l had has. inl (ap (λ (z : MovingPicture). z.hint) (some-same l o (sym has ∙ had)));
                sent = both-each (IsPlain ends) (IsPlain ends) (λ z. IsPassed last z.1) (λ z plain same. inl plain.1) f.packets (sent-plain r refl made) (sent-plain r refl made);
              }

    -- ---- no report is told

    quiet-goes : now ≡ [] → ((a : Pid) → a.0 < length s.homes → IsProcessOf ((after.kernel (home_of s a)).process a.0) (t.process a.0)) → ((a : Pid) → (t.process a.0).phase ≡ phase.Waiting → (t.process a.0).reports ≡ [])
        → Goes i w s (Takes k from)
    quiet-goes none processes waits =
        record {
          part = (step.Notice to (is_withdrawing v.inward), t) ∷ [];
          steps = ap (λ e. step.Notice e (is_withdrawing v.inward) ∷ []) (sym ends-so) ∙ sym (happened.steps ∙ ap (λ l. step.Notice v.value.end (is_withdrawing v.inward) ∷ map (step.Report p) l) none);
          run = (noticed, tt);
          after = closes t.ends t.process (λ e made. m-service.kept.made e ∙ sym (is.service.kept.made e) ∙ made) (subst (λ l. AreLinksOf l t) (sym same) m-links) (subst (λ l. AreRight i l t) (sym same) m-right) m-service sound processes waits;
          homes = refl;
        }
      where
        entry-same : (j : ℕ) (e : EndId) → u.entry j e ≡ m.entry j e
        entry-same j e = by (eqb_tells j k)
          where
            by : ((nat_eq j k ≡ true) × (j ≡ k)) ⊎ ((nat_eq j k ≡ false) × (j ≡ k → ⊥)) → u.entry j e ≡ m.entry j e
            by (inl own) = subst (λ z. u.entry z e ≡ m.entry z e) (sym own.1) (entry-own e ∙ ap (λ l. told_entry l e (m.entry k e)) none)
            by (inr far) = entry-other j e far.0

        same : half ≡ m
        same = λ z. record { entry = λ j e. entry-same j e z; packets = w.packets }

        sound : IsSound k (w.kernel k).made (length s.homes) (after.kernel k).table
        sound =
            notice-sound i (links_of w) s is.links is.stands.links is.service is.setting.few k (w.kernel k).made (is.setting.sound k) to v here gone (after.kernel k).table
            (λ e. b.entry e ∙ ap (λ l. told_entry l e ((notice_effect k v).entry e ((w.kernel k).table e))) none)

    -- ---- the report r is told

    module _ (r : Report) (one : now ≡ r ∷ []) (home : home_of s p ≡ k) (waits : (t.process p.0).phase ≡ phase.Waiting) (l : List Report) (first-is : (t.process p.0).reports ≡ r ∷ l) where
      abbrev next : State
      next = after_report p r t

      r-there : Contains (t.process p.0).reports r
      r-there = subst (λ z. Contains z r) (sym first-is) (first r l)

      own-told : (e : EndId) → u.entry (home_of s p) e ≡ told_entry (r ∷ []) e (m.entry (home_of s p) e)
      own-told e = subst (λ z. u.entry z e ≡ told_entry (r ∷ []) e (m.entry z e)) (sym home) (entry-own e ∙ ap (λ z. told_entry z e (m.entry k e)) one)

      other-told : (j : ℕ) (e : EndId) → nat_eq j (home_of s p) ≡ false → u.entry j e ≡ m.entry j e
      other-told j e far = entry-other j e (sym (ap (nat_eq j) home) ∙ far)

      half-links : AreLinksOf half next
      half-links = told-links m t m-service m-links p r r-there waits u.entry own-told other-told

      half-right : AreRight i half next
      half-right = told-right m t m-service m-links p r r-there waits u.entry own-told other-told i m-right

      reported : IsServiceStep t (step.Report p r) next
      reported = record { allowed = (ap (λ z. service.is_waiting z) waits, ap (λ z. slice_get z 0) first-is); after = refl }

      next-service : IsConsistent next
      next-service = consistent_after t (step.Report p r) next m-service reported

      own-process : next.process p.0 ≡ record { phase = phase.Running; reports = l }
      own-process =
          told-process m t m-service m-links p r r-there waits u.entry own-told other-told ∙ ap (λ z. record { phase = phase.Running; reports = later z }) first-is

      other-process : (a : Pid) → nat_eq p.0 a.0 ≡ false → next.process a.0 ≡ t.process a.0
      other-process = told-process-other m t m-service m-links p r r-there waits u.entry own-told other-told

      told-sound : IsSound k (w.kernel k).made (length s.homes) (after.kernel k).table
      told-sound =
          sound-same k (w.kernel k).made (length s.homes) (put (m.entry k) r.on (reported_entry r.way (m.entry k r.on))) (after.kernel k).table (λ e. entry-own e ∙ ap (λ z. told_entry z e (m.entry k e)) one ∙ by e (end_eq r.on e) refl)
          (IsSound-reported r.way r.on (m.entry k) k (w.kernel k).made (length s.homes)
          (notice-sound i (links_of w) s is.links is.stands.links is.service is.setting.few k (w.kernel k).made (is.setting.sound k) to v here gone (m.entry k)
          (λ e. ap (λ a. if a then (notice_effect k v).entry e ((w.kernel k).table e) else (w.kernel k).table e) (eq-eqb k k refl))))
        where
          by : (e : EndId) (a : Bool) → end_eq r.on e ≡ a → told_entry (r ∷ []) e (m.entry k e) ≡ put (m.entry k) r.on (reported_entry r.way (m.entry k r.on)) e
          by e true is =
              subst (λ z. told_entry (r ∷ []) z (m.entry k z) ≡ put (m.entry k) r.on (reported_entry r.way (m.entry k r.on)) z) (end_eq-same r.on e is)
              (ap (λ a. if a then reported_entry r.way (m.entry k r.on) else m.entry k r.on) (end_eq-refl r.on) ∙ sym (put-at (m.entry k) r.on (reported_entry r.way (m.entry k r.on))))
          by e false is = ap (λ a. if a then reported_entry r.way (m.entry k e) else m.entry k e) is ∙ sym (put-other (m.entry k) r.on (reported_entry r.way (m.entry k r.on)) e is)

      told-goes : ((a : Pid) → a.0 < length s.homes → IsProcessOf ((after.kernel (home_of s a)).process a.0) (next.process a.0)) → ((a : Pid) → (next.process a.0).phase ≡ phase.Waiting → (next.process a.0).reports ≡ []) → Goes i w s (Takes k from)
      told-goes processes waiting =
          record {
            part = (step.Notice to (is_withdrawing v.inward), t) ∷ (step.Report p r, next) ∷ [];
            steps = ap (λ e. step.Notice e (is_withdrawing v.inward) ∷ step.Report p r ∷ []) (sym ends-so) ∙ sym (happened.steps ∙ ap (λ l. step.Notice v.value.end (is_withdrawing v.inward) ∷ map (step.Report p) l) one);
            run = (noticed, (reported, tt));
            after = closes next.ends next.process (λ e made. next-service.kept.made e ∙ sym (is.service.kept.made e) ∙ made) half-links half-right next-service told-sound processes waiting;
            homes = refl;
          }

  -- ---- the end is enclosed, and so idle

  module _ (on : EndId) (holds : v.holder ≡ holder.EnclosedIn on) where
    any : Pid
    any = record { 0 = 0 }

    enclosed-happened : Happens w (Takes k from) (taking w k from q f any [] [])
    enclosed-happened = takes-allowed is k from q others there f any [] [] does tt tt (ap (λ h. for_holder h (cancel_notice v.inward)) holds) (ap (λ h. for_holder h reps) holds)

    same-process : (a : ℕ) → t.process a ≡ s.process a
    same-process = process-same i (links_of w) s is.links is.stands.links is.service is.setting.few k (w.kernel k).made (is.setting.sound k) to v here gone on holds

    enclosed-goes : Goes i w s (Takes k from)
    enclosed-goes =
        quiet-goes any [] [] enclosed-happened refl
        (λ a below. subst (IsProcessOf (((happens w (Takes k from)).kernel (home_of s a)).process a.0)) (sym (same-process a.0))
        (subst (λ z. IsProcessOf z (s.process a.0)) (sym (processes-kept enclosed-happened.becomes s t.ends t.process refl a.0 (home_of s a))) (is.stands.processes a below)))
        (λ a waits. ap (λ (z : Process). z.reports) (same-process a.0) ∙ is.waiting a (sym (ap (λ (z : Process). z.phase) (same-process a.0)) ∙ waits))

  -- ---- it is owned

  module _ (p : Pid) (holds : v.holder ≡ holder.Owner p) where
    abbrev x : KernelProcess
    x = process_of p (w.kernel k)

    home : home_of s p ≡ k
    home = (owned-here i (links_of w) s is.links is.stands.links is.service is.setting.few k (w.kernel k).made (is.setting.sound k) to v here gone p holds).1

    below : p.0 < length s.homes
    below = subst (IsHeldWell (length s.homes) v) holds (IfHere-at ((w.kernel k).table to) v (λ v. IsHeldWell (length s.homes) v v.holder) here ((is.setting.sound k).held to))

    stood : IsProcessOf x (s.process p.0)
    stood = subst (λ j. IsProcessOf ((w.kernel j).process p.0) (s.process p.0)) home (is.stands.processes p below)

    own-process-is : t.process p.0 ≡ record { phase = if is_withdrawing v.inward then phase.Running else (s.process p.0).phase; reports = (s.process p.0).reports ++ reps }
    own-process-is =
        process-own i (links_of w) s is.links is.stands.links is.service is.setting.few k (w.kernel k).made (is.setting.sound k) to v here gone p holds
        ∙ ap (λ a. record { phase = if a then phase.Running else (s.process p.0).phase; reports = (s.process p.0).reports ++ told_s })
        (cancels-same i (links_of w) s is.links is.stands.links is.service is.setting.few k (w.kernel k).made (is.setting.sound k) to v here gone alive p holds)
        ∙ ap (λ l. record { phase = if is_withdrawing v.inward then phase.Running else (s.process p.0).phase; reports = (s.process p.0).reports ++ l })
        (told-same i (links_of w) s is.links is.stands.links is.service is.setting.few k (w.kernel k).made (is.setting.sound k) to v here gone p holds)
      where
        told_s : List Report
        told_s = returned_reports to (waiting_message (s.ends to).outward) ++ dead_reports to (s.ends to)

    other-process-is : (a : ℕ) → nat_eq p.0 a ≡ false → t.process a ≡ s.process a
    other-process-is = process-other i (links_of w) s is.links is.stands.links is.service is.setting.few k (w.kernel k).made (is.setting.sound k) to v here gone p holds

    module _ (given : List Answer) (rs : List Report) (gives : cancel_notice v.inward ≡ given) (tells : reps ≡ rs) (few : AtMostOne given) where
      owned-happened : Happens w (Takes k from) (taking w k from q f p given rs)
      owned-happened =
          takes-allowed is k from q others there f p given rs does few (are-oldest is k p rs below home) (ap (λ h. for_holder h (cancel_notice v.inward)) holds ∙ ap (λ l. map (λ a. (p, a)) l) gives)
          (ap (λ h. for_holder h reps) holds ∙ ap (λ l. map (λ a. (p, a)) l) tells)

      untold-goes : told x.phase given rs ≡ [] → IsProcessOf (process_after x given rs) (t.process p.0) → ((t.process p.0).phase ≡ phase.Waiting → (t.process p.0).reports ≡ []) → Goes i w s (Takes k from)
      untold-goes none process waits =
          quiet-goes p given rs owned-happened none (processes-told owned-happened.becomes s t.ends t.process home process other-process-is is.stands.processes) (λ a waiting. by a waiting (nat_eq p.0 a.0) refl)
        where
          by : (a : Pid) → (t.process a.0).phase ≡ phase.Waiting → (z : Bool) → nat_eq p.0 a.0 ≡ z → (t.process a.0).reports ≡ []
          by a waiting true same =
              subst (λ z. (t.process z).reports ≡ []) (eqb-true p.0 a.0 same) (waits (subst (λ z. (t.process z).phase ≡ phase.Waiting) (sym (eqb-true p.0 a.0 same)) waiting))
          by a waiting false other = ap (λ (z : Process). z.reports) (other-process-is a.0 other) ∙ is.waiting a (sym (ap (λ (z : Process). z.phase) (other-process-is a.0 other)) ∙ waiting)

    -- a Cancel of it waits: it is answered
    answered-goes : is_withdrawing v.inward ≡ true → cancel_notice v.inward ≡ answer.Refused cause.Dead ∷ [] → Goes i w s (Takes k from)
    answered-goes withdrawing gives =
        untold-goes (answer.Refused cause.Dead ∷ []) reps gives refl tt refl
        (record { phase = ap (λ (z : Process). z.phase) now-is; unanswered = λ suspended. absurd suspended; reports = ap (λ (z : Process). z.reports) now-is ∙ ap (λ l. l ++ reps) stood.reports })
        (λ waits. absurd (let both : phase.Running ≡ phase.Waiting = sym (ap (λ (z : Process). z.phase) now-is) ∙ waits in cc))
      where
        now-is : t.process p.0 ≡ record { phase = phase.Running; reports = (s.process p.0).reports ++ reps }
        now-is = own-process-is ∙ ap (λ a. record { phase = if a then phase.Running else (s.process p.0).phase; reports = (s.process p.0).reports ++ reps }) withdrawing

    -- none does
    module _ (still : is_withdrawing v.inward ≡ false) (gives : cancel_notice v.inward ≡ []) where
      now-is : t.process p.0 ≡ record { phase = (s.process p.0).phase; reports = (s.process p.0).reports ++ reps }
      now-is = own-process-is ∙ ap (λ a. record { phase = if a then phase.Running else (s.process p.0).phase; reports = (s.process p.0).reports ++ reps }) still

      -- it has no report
      silent-goes : reps ≡ [] → Goes i w s (Takes k from)
      silent-goes none =
          untold-goes [] [] gives none tt refl (subst (IsProcessOf x) (sym same) stood) (λ waits. ap (λ (z : Process). z.reports) same ∙ is.waiting p (sym (ap (λ (z : Process). z.phase) same) ∙ waits))
        where
          same : t.process p.0 ≡ s.process p.0
          same = now-is ∙ ap (λ l. record { phase = (s.process p.0).phase; reports = l }) (ap (λ l. (s.process p.0).reports ++ l) none ∙ append-nil (s.process p.0).reports)

      module _ (r : Report) (rs : List Report) (some : reps ≡ r ∷ rs) where
        gained : t.process p.0 ≡ record { phase = (s.process p.0).phase; reports = (s.process p.0).reports ++ (r ∷ rs) }
        gained = now-is ∙ ap (λ l. record { phase = (s.process p.0).phase; reports = (s.process p.0).reports ++ l }) some

        -- its owner waits not
        joined-goes : is_waiting x.phase ≡ false → Goes i w s (Takes k from)
        joined-goes busy =
            untold-goes [] (r ∷ rs) gives some tt (ap (λ a. if a then r ∷ [] else []) busy)
            (subst (λ z. IsProcessOf z (t.process p.0)) (sym (ap (λ a. if a then record { phase = kernel_phase.Running; reports = rs; answer = Some (answer.Reported r) } else record x { reports = x.reports ++ r ∷ rs }) busy))
            (record { phase = ap (λ (z : Process). z.phase) gained ∙ stood.phase; unanswered = stood.unanswered; reports = ap (λ (z : Process). z.reports) gained ∙ ap (λ l. l ++ (r ∷ rs)) stood.reports }))
            (λ waits. absurd (waiting-service x.phase busy (sym stood.phase ∙ sym (ap (λ (z : Process). z.phase) gained) ∙ waits)))

        -- it waits, and is told the first
        waited-goes : is_waiting x.phase ≡ true → Goes i w s (Takes k from)
        waited-goes idle =
            told-goes p [] (r ∷ rs) happened r (ap (λ a. if a then r ∷ [] else []) idle) home waits rs alone
            (processes-told happened.becomes s next.ends next.process home process others-are is.stands.processes) (λ a waiting. by a waiting (nat_eq p.0 a.0) refl)
          where
            happened : Happens w (Takes k from) (taking w k from q f p [] (r ∷ rs))
            happened = owned-happened [] (r ∷ rs) gives some tt

            next : State
            next = after_report p r t

            waited : (s.process p.0).phase ≡ phase.Waiting
            waited = stood.phase ∙ ap service_phase (waiting-Waiting x.phase idle)

            waits : (t.process p.0).phase ≡ phase.Waiting
            waits = ap (λ (z : Process). z.phase) gained ∙ waited

            alone : (t.process p.0).reports ≡ r ∷ rs
            alone = ap (λ (z : Process). z.reports) gained ∙ ap (λ l. l ++ (r ∷ rs)) (is.waiting p waited)

            own-is : next.process p.0 ≡ record { phase = phase.Running; reports = rs }
            own-is = own-process p [] (r ∷ rs) happened r (ap (λ a. if a then r ∷ [] else []) idle) home waits rs alone

            others-are : (a : ℕ) → nat_eq p.0 a ≡ false → next.process a ≡ s.process a
            others-are a other =
                other-process p [] (r ∷ rs) happened r (ap (λ a. if a then r ∷ [] else []) idle) home waits rs alone (record { 0 = a }) other ∙ other-process-is a other

            process : IsProcessOf (process_after x [] (r ∷ rs)) (next.process p.0)
            process =
                subst (λ z. IsProcessOf z (next.process p.0)) (sym (ap (λ a. if a then record { phase = kernel_phase.Running; reports = rs; answer = Some (answer.Reported r) } else record x { reports = x.reports ++ r ∷ rs }) idle))
                (record { phase = ap (λ (z : Process). z.phase) own-is; unanswered = λ suspended. absurd suspended; reports = ap (λ (z : Process). z.reports) own-is })

            by : (a : Pid) → (next.process a.0).phase ≡ phase.Waiting → (z : Bool) → nat_eq p.0 a.0 ≡ z → (next.process a.0).reports ≡ []
            by a waiting true same =
                absurd (let both : phase.Running ≡ phase.Waiting = sym (ap (λ (z : Process). z.phase) own-is) ∙ subst (λ z. (next.process z).phase ≡ phase.Waiting) (sym (eqb-true p.0 a.0 same)) waiting in cc)
            by a waiting false other = ap (λ (z : Process). z.reports) (others-are a.0 other) ∙ is.waiting a (sym (ap (λ (z : Process). z.phase) (others-are a.0 other)) ∙ waiting)

    owned-goes : Goes i w s (Takes k from)
    owned-goes = by (cancel-cases v.inward)
      where
        reported-goes : is_withdrawing v.inward ≡ false → cancel_notice v.inward ≡ [] → (l : List Report) → reps ≡ l → Goes i w s (Takes k from)
        reported-goes still gives [] none = silent-goes still gives none
        reported-goes still gives (r ∷ rs) some = one (is_waiting x.phase) refl
          where
            one : (a : Bool) → is_waiting x.phase ≡ a → Goes i w s (Takes k from)
            one true idle = waited-goes still gives r rs some idle
            one false busy = joined-goes still gives r rs some busy

        by : ((is_withdrawing v.inward ≡ true) × (cancel_notice v.inward ≡ answer.Refused cause.Dead ∷ [])) ⊎ ((is_withdrawing v.inward ≡ false) × (cancel_notice v.inward ≡ [])) → Goes i w s (Takes k from)
        by (inl cancels) = answered-goes cancels.0 cancels.1
        by (inr none) = reported-goes none.0 none.1 reps refl

  -- a gone by which an end that is here first hears of the death of its link
  pub gone-noticed : Goes i w s (Takes k from)
  gone-noticed = by v.holder refl
    where
      by : (h : Holder) → v.holder ≡ h → Goes i w s (Takes k from)
      by (holder.Owner p) holds = owned-goes p holds
      by (holder.EnclosedIn on) holds = enclosed-goes on holds

-- any gone: the end that it is addressed to first hears of the death of its link; or it means nothing to the service
pub gone-goes : (i : ℕ) (w : World) (s : State) → Invariant i w s → (k from stamp : ℕ) (to : EndId) (at : ℕ) (others : List Picture) → w.packets from k ≡ record { stamp = stamp; what = packet.Gone to at } ∷ others → Goes i w s (Takes k from)
gone-goes i w s is k from stamp to at others there = by ((w.kernel k).table to) refl
  where
    silent : IfHere ((w.kernel k).table to) (λ v. v.value.dead ≡ true) → Goes i w s (Takes k from)
    silent dead = taking-goes i w s is k from (record { stamp = stamp; what = packet.Gone to at }) others there dead

    by : (x : Entry) → (w.kernel k).table to ≡ x → Goes i w s (Takes k from)
    by entry.Nothing here = silent (subst (λ x. IfHere x (λ v. v.value.dead ≡ true)) (sym here) tt)
    by (entry.Left there hops) here = silent (subst (λ x. IfHere x (λ v. v.value.dead ≡ true)) (sym here) tt)
    by (entry.Destroyed m) here = silent (subst (λ x. IfHere x (λ v. v.value.dead ≡ true)) (sym here) tt)
    by (entry.Here v) here = hears v.value.dead refl
      where
        hears : (a : Bool) → v.value.dead ≡ a → Goes i w s (Takes k from)
        hears true dead = silent (subst (λ x. IfHere x (λ v. v.value.dead ≡ true)) (sym here) dead)
        hears false alive = gone-noticed i w s is k from stamp to at others there v here alive
