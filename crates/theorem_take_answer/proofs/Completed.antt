-- A taken meets the send that is matched: the service completes it, and tells its owner at once where that waits.
use Rattle.std.proofs.Common.{◌≡◌, ◌↔◌, inl, inr, ℕ, ◌<◌, Bool, true, false, nat_eq, ◌&&◌, if◌then◌else◌, List, [], ◌∷◌, ◌++◌, map, length, is_some, None, Some, refl, sym, ap, subst, ◌∙◌, arith, true≢false, eq-eqb, eqb-true, slice_get}
use Rattle.charlotte_calls.specs.declared.calls.Answer.TheVariants as answer
use Rattle.charlotte_calls.specs.declared.calls.Report.{Report}
use Rattle.charlotte_calls.specs.declared.calls.ServiceStep.TheVariants as step
use Rattle.charlotte_calls.specs.declared.names.EndId.{EndId}
use Rattle.charlotte_calls.specs.declared.names.Outcome.TheVariants as outcome
use Rattle.charlotte_calls.specs.declared.names.Pid.{Pid}
use Rattle.charlotte_calls.specs.declared.names.Way.TheVariants as way
use Rattle.charlotte_packets.specs.declared.picture.Picture.{Picture}
use Rattle.charlotte_packets.specs.declared.picture.PictureWhat.{PictureWhat}
use Rattle.charlotte_packets.specs.declared.picture.PictureWhat.TheVariants as packet
use Rattle.end_table.proofs.EndEq.{end_eq-refl}
use Rattle.end_table.specs.Place.{end_eq}
use Rattle.end_table.specs.Table.{IfHere, IsOfEnd}
use Rattle.end_table.specs.declared.entry.Entry.TheVariants as entry
use Rattle.end_table.specs.declared.entry.HereView.{HereView}
use Rattle.end_table.specs.declared.entry.Outward.{Outward as KernelOutward}
use Rattle.end_table.specs.declared.entry.Outward.TheVariants as kernel_outward
use Rattle.theorem_take_silent.specs.Effect.{Effect, for_holder}
use Rattle.theorem_take_silent.specs.Rows.{completes_effect, taken_effect}
use Rattle.theorem_take_silent.specs.Closing.{told_entry}
use Rattle.kernel_sound.proofs.Actions.{learned-end}
use Rattle.kernel_sound.specs.Sound.{IsHeldWell, IsSound}
use Rattle.kernel_step.specs.Actions.{enclosed_of, is_withdrawing, learned_view, send_report}
use Rattle.kernel_step.specs.Kernel.{Process as KernelProcess, is_waiting, reported_entry}
use Rattle.kernel_step.specs.Rows.{awaits, is_matched}
use Rattle.kernel_step.specs.declared.phase.Phase.{Phase as KernelPhase}
use Rattle.kernel_step.specs.declared.phase.Phase.TheVariants as kernel_phase
use Rattle.theorem_meaning.specs.World.{World, Takes, happens}
use Rattle.service_change.proofs.EndEq.{puts-at, puts-other}
use Rattle.service_consistent.proofs.Laws.{consistent_after}
use Rattle.service_step.specs.Ends.{idles, is_living, is_made, is_taken, matched_message, owner, turns_outward}
use Rattle.service_step.specs.State.{Process, State, gains, given, later}
use Rattle.service_step.specs.State as service
use Rattle.service_step.specs.Steps.{IsServiceStep, after_complete, after_report, gains_owner}
use Rattle.service_step.specs.declared.state.End.{End}
use Rattle.service_step.specs.declared.state.Outward.{Outward}
use Rattle.service_step.specs.declared.state.Outward.TheVariants as outward
use Rattle.service_step.specs.declared.state.Phase.TheVariants as phase
use Rattle.theorem_take_silent.proofs.Allowed.{are-oldest, takes-allowed}
use Rattle.theorem_take_silent.proofs.Ends.{inward-same}
use Rattle.theorem_take_silent.specs.Change.{Happens}
use Rattle.theorem_take_silent.specs.Events.{taking}
use Rattle.theorem_meaning.proofs.Ends.{eq-same}
use Rattle.theorem_meaning.proofs.Goes.{Goes}
use Rattle.theorem_meaning.proofs.Plain.{taken-passes, there-here}
use Rattle.theorem_meaning.specs.Invariant.{Invariant, is_taken_of}
use Rattle.theorem_meaning.specs.Packets.{IsParcelFor, IsTakenOf, IsUnderWay, IsUnwantedOf, Links, how_many, links_of, one_if}
use Rattle.theorem_meaning.specs.StandsFor.{IsOutwardOf, IsProcessOf, IsWaitingWith, home_of, service_phase}
use Rattle.theorem_take_answer.proofs.Dropped.{awaits-matched}
use Rattle.theorem_take_answer.proofs.Freed.{put-table-sound}
use Rattle.theorem_take_answer.proofs.Meets.{IsOwnedAt, right-first, taken-meets}
use Rattle.theorem_take_answer.proofs.Turned.{IsTurn, middle, middle-counts, middle-number, middle-still, middle-was, only-here, turned-links, turned-right, turned_view, with_entry}
use Rattle.theorem_take_answer.proofs.World.{processes-told, setting-after}

pub waiting-Waiting : (x : KernelPhase) → is_waiting x ≡ true → x ≡ kernel_phase.Waiting
waiting-Waiting kernel_phase.Waiting is = refl
waiting-Waiting kernel_phase.Running is = absurd (true≢false (sym is))
waiting-Waiting (kernel_phase.Cancelling e) is = absurd (true≢false (sym is))
waiting-Waiting kernel_phase.Exited is = absurd (true≢false (sym is))

pub waiting-service : (x : KernelPhase) → is_waiting x ≡ false → service_phase x ≡ phase.Waiting → ⊥
waiting-service kernel_phase.Waiting is same = true≢false is
waiting-service kernel_phase.Running is same = cc
waiting-service (kernel_phase.Cancelling e) is same = cc
waiting-service kernel_phase.Exited is same = cc

-- the ends after the step
module _ (table : EndId → End) (e : EndId) (made : is_made (table e).place ≡ true) where
  outward-at : (i : Outward) → turns_outward i e table e ≡ record (table e) { outward = i }
  unfolding turns_outward
  outward-at i = puts-at e (record (table e) { outward = i }) table made

  outward-other : (i : Outward) (q : EndId) → end_eq e q ≡ false → turns_outward i e table q ≡ table q
  unfolding turns_outward
  outward-other i q apart = puts-other e (record (table e) { outward = i }) table q (eq-same e q ∙ apart)

  idle-is : idles way.Outward e table ≡ turns_outward outward.Idle e table
  unfolding idles
  idle-is = refl

-- the processes
module _ (f : ℕ → Process) (p : Pid) where
  gains-own : (rs : List Report) → gains p rs f p.0 ≡ record (f p.0) { reports = (f p.0).reports ++ rs }
  unfolding gains
  gains-own rs = ap (λ b. if b then record (f p.0) { reports = (f p.0).reports ++ rs } else f p.0) (eq-eqb p.0 p.0 refl)

  gains-other : (rs : List Report) (q : ℕ) → nat_eq p.0 q ≡ false → gains p rs f q ≡ f q
  unfolding gains
  gains-other rs q apart = ap (λ b. if b then record (f p.0) { reports = (f p.0).reports ++ rs } else f q) apart

  given-own : given p f p.0 ≡ record { phase = phase.Running; reports = later (f p.0).reports }
  unfolding given
  given-own = ap (λ b. if b then record { phase = phase.Running; reports = later (f p.0).reports } else f p.0) (eq-eqb p.0 p.0 refl)

  given-other : (q : ℕ) → nat_eq p.0 q ≡ false → given p f q ≡ f q
  unfolding given
  given-other q apart = ap (λ b. if b then record { phase = phase.Running; reports = later (f p.0).reports } else f q) apart

module _ (i : ℕ) (w : World) (s : State) (is : Invariant i w s) (k from stamp : ℕ) (to : EndId) (n at hops : ℕ) (others : List Picture)
    (there : w.packets from k ≡ record { stamp = stamp; what = packet.Taken to n at hops } ∷ others) (lives : is_living (s.ends to).place ≡ true) where
  abbrev q : Picture
  q = record { stamp = stamp; what = packet.Taken to n at hops }

  found : (o : IsOwnedAt w s k to) × (o.view.outward ≡ kernel_outward.Matched n)
  found = taken-meets is k from to n at (right-first is k from q others there) lives

  module _ (o : IsOwnedAt w s k to) (matched : o.view.outward ≡ kernel_outward.Matched n) where
    abbrev v : HereView
    v = o.view

    abbrev p : Pid
    p = o.p

    abbrev f : Effect
    f = completes_effect k n at hops v

    -- the report
    abbrev report : Report
    report = send_report v.value.end outcome.Done []

    abbrev rs : List Report
    rs = report ∷ []

    effect : taken_effect k n at hops (awaits n ((w.kernel k).table to)) ≡ f
    effect = ap (taken_effect k n at hops) (awaits-matched n ((w.kernel k).table to) v o.here (ap (is_matched n) matched ∙ eq-eqb n n refl))

    below : p.0 < length s.homes
    below = subst (IsHeldWell (length s.homes) v) o.holder (subst (λ z. IfHere z (λ v. IsHeldWell (length s.homes) v v.holder)) o.here ((is.setting.sound k).held to))

    happened : Happens w (Takes k from) (taking w k from q f p [] rs)
    happened = takes-allowed is k from q others there f p [] rs effect tt (are-oldest is k p rs below o.home) refl (ap (λ h. for_holder h rs) o.holder)

    abbrev after : World
    after = happens w (Takes k from)

    view-end : v.value.end ≡ to
    view-end = subst (IsOfEnd to) o.here ((is.setting.sound k).own to)

    taken : (s.ends to).outward ≡ outward.Taken
    taken = (right-first is k from q others there).taken

    number : (s.ends to).sent ≡ n
    number = (right-first is k from q others there).number

    made : is_made (s.ends to).place ≡ true
    made = ap (λ z. is_made z) o.owned

    stood : IsProcessOf ((w.kernel k).process p.0) (s.process p.0)
    stood = subst (λ j. IsProcessOf ((w.kernel j).process p.0) (s.process p.0)) o.home (is.stands.processes p below)

    -- ---- the step complete

    abbrev completed : State
    completed = after_complete to s

    abbrev told : List Report
    told = service.send_report to outcome.Done [] ∷ []

    complete : IsServiceStep s (step.Complete to n) completed
    complete =
        record {
          allowed =
              ap (λ z. is_taken z && nat_eq (s.ends to).sent n && is_some (owner (s.ends to).place)) taken
              ∙ ap (λ z. z && is_some (owner (s.ends to).place)) (eq-eqb (s.ends to).sent n number)
              ∙ ap (λ z. is_some (owner z)) o.owned;
          after = refl;
        }

    gained : (m : ℕ) → completed.process m ≡ gains p told s.process m
    gained m = ap (λ z. gains_owner (owner z) told s.process m) o.owned

    gained-own : completed.process p.0 ≡ record (s.process p.0) { reports = (s.process p.0).reports ++ told }
    gained-own = gained p.0 ∙ gains-own s.process p told

    gained-other : (m : ℕ) → nat_eq p.0 m ≡ false → completed.process m ≡ s.process m
    gained-other m apart = gained m ∙ gains-other s.process p told m apart

    -- ---- the end, as it is afterwards

    module _ (out : KernelOutward) (xo : Outward) (agrees : (x : Links) → IsOutwardOf x to (s.ends to).sent out xo) (unmatched : matched_message xo ≡ None) (untaken : is_taken xo ≡ false) (unwaiting : (m : ℕ) → IsWaitingWith m out → ⊥)
        (enclosed : enclosed_of out ≡ []) (t : EndId → End) (own : t to ≡ record (s.ends to) { outward = xo }) (apart : (e : EndId) → end_eq to e ≡ false → t e ≡ s.ends e)
        (g : ℕ → Process) (cancels : (b : Pid) (e : EndId) → ((g b.0).phase ≡ phase.Cancelling e) ↔ ((s.process b.0).phase ≡ phase.Cancelling e)) where
      abbrev x : Links
      x = middle i w s is k from q others there to at hops (refl, refl, refl) o out v.inward f [] rs happened

      was : (P : PictureWhat → Type 0) → (P (packet.Moved to at hops) → ⊥) → IsUnderWay x P → IsUnderWay (links_of w) P
      was = middle-was i w s is k from q others there to at hops (refl, refl, refl) o out v.inward f [] rs happened

      still : (P : PictureWhat → Type 0) → (P q.what → ⊥) → IsUnderWay (links_of w) P → IsUnderWay x P
      still = middle-still i w s is k from q others there to at hops (refl, refl, refl) o out v.inward f [] rs happened

      none-left : how_many (is_taken_of to) x ≡ 0
      none-left =
          let fewer = middle-number i w s is k from q others there to at hops (refl, refl, refl) o out v.inward f [] rs happened (is_taken_of to) refl in
          let one : one_if (is_taken_of to q.what) ≡ 1 = ap one_if (end_eq-refl to) in
          let once : how_many (is_taken_of to) (links_of w) ≡ 1 = (is.links.once to).told lives ∙ ap (λ z. one_if (is_taken z)) taken in
          omega (arith, fewer, one, once)

      none-more : (m : ℕ) → IsUnderWay x (IsTakenOf to m) → ⊥
      none-more m under =
          let least = middle-counts i w s is k from q others there to at hops (refl, refl, refl) o out v.inward f [] rs happened (IsTakenOf to m) (is_taken_of to) (λ a. a) (λ z. taken-passes to m z) under in
          let none = none-left in
          omega (arith, least, none)

      withdrawing : (b : Pid) → (s.process b.0).phase ≡ phase.Cancelling to → is_withdrawing v.inward ≡ true
      withdrawing b a =
          let z = there-here ((w.kernel (home_of s b)).table to) (λ v. is_withdrawing v.inward ≡ true) (is.links.cancelling b to a) in
          let only = only-here i w s is k from q others there to at hops (refl, refl, refl) o out v.inward f [] rs happened (home_of s b) z.0 z.1 in
          ap (λ (z : HereView). is_withdrawing z.inward) (sym only.1) ∙ z.2

      turn : IsTurn s x to v out v.inward xo (s.ends to).inward t g
      turn =
          record {
            at = own;
            others = apart;
            like =
                record {
                  view = refl;
                  inward = inl refl;
                  waiting = λ m. (λ a. absurd (unwaiting m a), λ a. absurd (subst (IsWaitingWith m) matched a));
                };
            posted = refl;
            message = unmatched ∙ sym (ap (λ z. matched_message z) taken);
            matched = λ m a. absurd (let both : outward.Taken ≡ outward.Matched m = sym taken ∙ a in cc);
            takens = λ m under a. absurd (none-more m under);
            voids = λ m under a. a;
            meets = λ a m under asked. asked;
            withdrawing = λ posted a. a;
            cancelled = λ b e a. inl ((cancels b e).1 a);
            cancelling = λ b e a. let old = (cancels b e).0 a in (old, λ end. withdrawing b (subst (λ z. (s.process b.0).phase ≡ phase.Cancelling z) end old));
            taken = none-left ∙ sym (ap one_if untaken);
            outward = agrees x;
            inward =
                inward-same (links_of w) x to (λ a m. (was (IsParcelFor to a m) (λ z. z), still (IsParcelFor to a m) (λ z. z))) (λ a. (was (IsUnwantedOf to a) (λ z. z), still (IsUnwantedOf to a) (λ z. z)))
                v.inward (s.ends to).inward o.agree.inward;
          }

      abbrev last : HereView
      last = learned_view (turned_view v out v.inward) at hops

      sound : ((e : EndId) → (after.kernel k).table e ≡ with_entry to (entry.Here last) (w.kernel k).table e) → IsSound k (w.kernel k).made (length s.homes) (after.kernel k).table
      sound entries =
          put-table-sound k (w.kernel k).made (length s.homes) (w.kernel k).table (after.kernel k).table to v last (is.setting.sound k) o.here
          (record {
            end = learned-end at hops v.value;
            holder = refl;
            idle = λ idle. absurd (let both : kernel_outward.Idle ≡ kernel_outward.Matched n = sym idle.outward ∙ matched in cc);
            message = inr enclosed;
          }) entries

    -- ---- the owner waits not: it gains the report

    not-told : is_waiting ((w.kernel k).process p.0).phase ≡ false → Goes i w s (Takes k from)
    not-told busy =
        record {
          part = (step.Complete to n, completed) ∷ [];
          steps = ap (λ e. step.Complete e n ∷ []) (sym view-end) ∙ sym (happened.steps ∙ ap (λ b. step.Complete v.value.end n ∷ map (step.Report p) (if b then rs else [])) busy);
          run = (complete, tt);
          after =
              record {
                stands =
                    record {
                      processes =
                          processes-told happened.becomes s completed.ends completed.process o.home
                          (subst (λ z. IsProcessOf z (completed.process p.0)) (sym (ap (λ b. if b then record { phase = kernel_phase.Running; reports = []; answer = Some (answer.Reported report) } else joined) busy))
                          process)
                          gained-other is.stands.processes;
                      links = turned-links i w s is k from q others there to at hops (refl, refl, refl) o kernel_outward.Unreported v.inward f [] rs happened outward.Unreported (s.ends to).inward completed.ends completed.process turn_now entries refl;
                    };
                service = consistent_after s (step.Complete to n) completed is.service complete;
                setting = setting-after happened.becomes s completed.ends completed.process refl (sound kernel_outward.Unreported outward.Unreported (λ x. tt) refl refl (λ m a. a) refl completed.ends own apart completed.process cancels entries) is.setting;
                links = turned-right i w s is k from q others there to at hops (refl, refl, refl) o kernel_outward.Unreported v.inward f [] rs happened outward.Unreported (s.ends to).inward completed.ends completed.process turn_now entries refl;
                waiting = λ b a. waits b a (nat_eq p.0 b.0) refl;
              };
          homes = refl;
        }
      where
        own : completed.ends to ≡ record (s.ends to) { outward = outward.Unreported }
        own = outward-at s.ends to made outward.Unreported

        apart : (e : EndId) → end_eq to e ≡ false → completed.ends e ≡ s.ends e
        apart = outward-other s.ends to made outward.Unreported

        joined : KernelProcess
        joined = record ((w.kernel k).process p.0) { reports = ((w.kernel k).process p.0).reports ++ rs }

        phases : (b : ℕ) → (completed.process b).phase ≡ (s.process b).phase
        phases b = by (nat_eq p.0 b) refl
          where
            by : (c : Bool) → nat_eq p.0 b ≡ c → (completed.process b).phase ≡ (s.process b).phase
            by true same = subst (λ z. (completed.process z).phase ≡ (s.process z).phase) (eqb-true p.0 b same) (ap (λ (z : Process). z.phase) gained-own)
            by false other = ap (λ (z : Process). z.phase) (gained-other b other)

        cancels : (b : Pid) (e : EndId) → ((completed.process b.0).phase ≡ phase.Cancelling e) ↔ ((s.process b.0).phase ≡ phase.Cancelling e)
        cancels b e = (λ a. sym (phases b.0) ∙ a, λ a. phases b.0 ∙ a)

        turn_now : IsTurn s (middle i w s is k from q others there to at hops (refl, refl, refl) o kernel_outward.Unreported v.inward f [] rs happened) to v kernel_outward.Unreported v.inward outward.Unreported (s.ends to).inward completed.ends completed.process
        turn_now = turn kernel_outward.Unreported outward.Unreported (λ x. tt) refl refl (λ m a. a) refl completed.ends own apart completed.process cancels

        process : IsProcessOf joined (completed.process p.0)
        process =
            record {
              phase = ap (λ (z : Process). z.phase) gained-own ∙ stood.phase;
              unanswered = stood.unanswered;
              reports = ap (λ (z : Process). z.reports) gained-own ∙ ap (λ e. (s.process p.0).reports ++ service.send_report e outcome.Done [] ∷ []) (sym view-end) ∙ ap (λ z. z ++ rs) stood.reports;
            }

        entries : (e : EndId) → (after.kernel k).table e ≡ with_entry to (entry.Here (learned_view (turned_view v kernel_outward.Unreported v.inward) at hops)) (w.kernel k).table e
        entries e =
            happened.becomes.links.entry e
            ∙ ap (λ b. told_entry (if b then rs else []) e (with_entry v.value.end (entry.Here (learned_view (turned_view v kernel_outward.Unreported v.inward) at hops)) (w.kernel k).table e)) busy
            ∙ ap (λ z. with_entry z (entry.Here (learned_view (turned_view v kernel_outward.Unreported v.inward) at hops)) (w.kernel k).table e) view-end

        waits : (b : Pid) → (completed.process b.0).phase ≡ phase.Waiting → (c : Bool) → nat_eq p.0 b.0 ≡ c → (completed.process b.0).reports ≡ []
        waits b a true same =
            absurd (waiting-service ((w.kernel k).process p.0).phase busy (sym stood.phase ∙ ap (λ z. (s.process z).phase) (eqb-true p.0 b.0 same) ∙ sym (phases b.0) ∙ a))
        waits b a false other = ap (λ (z : Process). z.reports) (gained-other b.0 other) ∙ is.waiting b (sym (phases b.0) ∙ a)

    -- ---- the owner waits: it is told at once

    told-now : is_waiting ((w.kernel k).process p.0).phase ≡ true → Goes i w s (Takes k from)
    told-now idle =
        record {
          part = (step.Complete to n, completed) ∷ (step.Report p (service.send_report to outcome.Done []), next) ∷ [];
          steps =
              ap (λ e. step.Complete e n ∷ step.Report p (service.send_report e outcome.Done []) ∷ []) (sym view-end)
              ∙ sym (happened.steps ∙ ap (λ b. step.Complete v.value.end n ∷ map (step.Report p) (if b then rs else [])) idle);
          run = (complete, (reported, tt));
          after =
              record {
                stands =
                    record {
                      processes =
                          processes-told happened.becomes s next.ends next.process o.home
                          (subst (λ z. IsProcessOf z (next.process p.0)) (sym (ap (λ b. if b then ran else record ((w.kernel k).process p.0) { reports = ((w.kernel k).process p.0).reports ++ rs }) idle)) process)
                          next-other is.stands.processes;
                      links = turned-links i w s is k from q others there to at hops (refl, refl, refl) o kernel_outward.Idle v.inward f [] rs happened outward.Idle (s.ends to).inward next.ends next.process turn_now entries refl;
                    };
                service = consistent_after completed (step.Report p (service.send_report to outcome.Done [])) next (consistent_after s (step.Complete to n) completed is.service complete) reported;
                setting = setting-after happened.becomes s next.ends next.process refl (sound kernel_outward.Idle outward.Idle (λ x. tt) refl refl (λ m a. a) refl next.ends own apart next.process cancels entries) is.setting;
                links = turned-right i w s is k from q others there to at hops (refl, refl, refl) o kernel_outward.Idle v.inward f [] rs happened outward.Idle (s.ends to).inward next.ends next.process turn_now entries refl;
                waiting = λ b a. waits b a (nat_eq p.0 b.0) refl;
              };
          homes = refl;
        }
      where
        next : State
        next = after_report p (service.send_report to outcome.Done []) completed

        ran : KernelProcess
        ran = record { phase = kernel_phase.Running; reports = []; answer = Some (answer.Reported report) }

        waited : (s.process p.0).phase ≡ phase.Waiting
        waited = stood.phase ∙ ap service_phase (waiting-Waiting ((w.kernel k).process p.0).phase idle)

        alone : (completed.process p.0).reports ≡ told
        alone = ap (λ (z : Process). z.reports) gained-own ∙ ap (λ z. z ++ told) (is.waiting p waited)

        reported : IsServiceStep completed (step.Report p (service.send_report to outcome.Done [])) next
        reported =
            record {
              allowed = (ap (λ (z : Process). service.is_waiting z.phase) gained-own ∙ ap service.is_waiting waited, ap (λ z. slice_get z 0) alone);
              after = refl;
            }

        next-own : next.process p.0 ≡ record { phase = phase.Running; reports = [] }
        next-own = given-own completed.process p ∙ ap (λ z. record { phase = phase.Running; reports = later z }) alone

        next-other : (m : ℕ) → nat_eq p.0 m ≡ false → next.process m ≡ s.process m
        next-other m other = given-other completed.process p m other ∙ gained-other m other

        made_then : is_made (completed.ends to).place ≡ true
        made_then = ap (λ (z : End). is_made z.place) (outward-at s.ends to made outward.Unreported) ∙ made

        own : next.ends to ≡ record (s.ends to) { outward = outward.Idle }
        own =
            ap (λ (z : EndId → End). z to) (idle-is completed.ends to made_then) ∙ outward-at completed.ends to made_then outward.Idle
            ∙ ap (λ (z : End). record z { outward = outward.Idle }) (outward-at s.ends to made outward.Unreported)

        apart : (e : EndId) → end_eq to e ≡ false → next.ends e ≡ s.ends e
        apart e other =
            ap (λ (z : EndId → End). z e) (idle-is completed.ends to made_then) ∙ outward-other completed.ends to made_then outward.Idle e other
            ∙ outward-other s.ends to made outward.Unreported e other

        cancels : (b : Pid) (e : EndId) → ((next.process b.0).phase ≡ phase.Cancelling e) ↔ ((s.process b.0).phase ≡ phase.Cancelling e)
        cancels b e = by (nat_eq p.0 b.0) refl
          where
            by : (c : Bool) → nat_eq p.0 b.0 ≡ c → ((next.process b.0).phase ≡ phase.Cancelling e) ↔ ((s.process b.0).phase ≡ phase.Cancelling e)
            by true same = (
              λ a. absurd (let both : phase.Running ≡ phase.Cancelling e = sym (ap (λ (z : Process). z.phase) next-own) ∙ ap (λ z. (next.process z).phase) (eqb-true p.0 b.0 same) ∙ a in cc),
              λ a. absurd (let both : phase.Waiting ≡ phase.Cancelling e = sym waited ∙ ap (λ z. (s.process z).phase) (eqb-true p.0 b.0 same) ∙ a in cc),
            )
            by false other = (λ a. sym (ap (λ (z : Process). z.phase) (next-other b.0 other)) ∙ a, λ a. ap (λ (z : Process). z.phase) (next-other b.0 other) ∙ a)

        turn_now : IsTurn s (middle i w s is k from q others there to at hops (refl, refl, refl) o kernel_outward.Idle v.inward f [] rs happened) to v kernel_outward.Idle v.inward outward.Idle (s.ends to).inward next.ends next.process
        turn_now = turn kernel_outward.Idle outward.Idle (λ x. tt) refl refl (λ m a. a) refl next.ends own apart next.process cancels

        process : IsProcessOf ran (next.process p.0)
        process = record { phase = ap (λ (z : Process). z.phase) next-own; unanswered = λ suspended. absurd suspended; reports = ap (λ (z : Process). z.reports) next-own }

        entries : (e : EndId) → (after.kernel k).table e ≡ with_entry to (entry.Here (learned_view (turned_view v kernel_outward.Idle v.inward) at hops)) (w.kernel k).table e
        entries e =
            happened.becomes.links.entry e
            ∙ ap (λ b. told_entry (if b then rs else []) e (with_entry v.value.end (entry.Here (learned_view (turned_view v kernel_outward.Unreported v.inward) at hops)) (w.kernel k).table e)) idle
            ∙ by (end_eq v.value.end e)
            ∙ ap (λ z. with_entry z (entry.Here (learned_view (turned_view v kernel_outward.Idle v.inward) at hops)) (w.kernel k).table e) view-end
          where
            by : (a : Bool)
                → (if a then reported_entry way.Outward (if a then entry.Here (learned_view (turned_view v kernel_outward.Unreported v.inward) at hops) else (w.kernel k).table e)
                else (if a then entry.Here (learned_view (turned_view v kernel_outward.Unreported v.inward) at hops) else (w.kernel k).table e))
                ≡ (if a then entry.Here (learned_view (turned_view v kernel_outward.Idle v.inward) at hops) else (w.kernel k).table e)
            by true = refl
            by false = refl

        waits : (b : Pid) → (next.process b.0).phase ≡ phase.Waiting → (c : Bool) → nat_eq p.0 b.0 ≡ c → (next.process b.0).reports ≡ []
        waits b a true same = ap (λ z. (next.process z).reports) (sym (eqb-true p.0 b.0 same)) ∙ ap (λ (z : Process). z.reports) next-own
        waits b a false other = ap (λ (z : Process). z.reports) (next-other b.0 other) ∙ is.waiting b (sym (ap (λ (z : Process). z.phase) (next-other b.0 other)) ∙ a)

    completes : Goes i w s (Takes k from)
    completes = by (is_waiting ((w.kernel k).process p.0).phase) refl
      where
        by : (b : Bool) → is_waiting ((w.kernel k).process p.0).phase ≡ b → Goes i w s (Takes k from)
        by true idle = told-now idle
        by false busy = not-told busy

  -- a taken whose end lives
  pub taken-completes : Goes i w s (Takes k from)
  taken-completes = completes found.0 found.1
