-- An unwanted meets the receive that is being withdrawn: the Cancel is answered, and the service frees the end.
use Rattle.std.proofs.Common.{◌≡◌, ◌⊎◌, inl, inr, ℕ, ◌<◌, Bool, true, false, nat_eq, ◌&&◌, if◌then◌else◌, List, [], ◌∷◌, ◌++◌, length, Some, refl, sym, ap, subst, ◌∙◌, arith, true≢false, eq-eqb, eqb-true, append-nil}
use Rattle.charlotte_calls.specs.declared.calls.Answer.TheVariants as answer
use Rattle.charlotte_calls.specs.declared.calls.ServiceStep.TheVariants as step
use Rattle.charlotte_calls.specs.declared.names.EndId.{EndId}
use Rattle.charlotte_calls.specs.declared.names.Pid.{Pid}
use Rattle.charlotte_packets.specs.declared.picture.Picture.{Picture}
use Rattle.charlotte_packets.specs.declared.picture.PictureWhat.{PictureWhat}
use Rattle.charlotte_packets.specs.declared.picture.PictureWhat.TheVariants as packet
use Rattle.end_table.proofs.EndEq.{end_eq-refl}
use Rattle.end_table.specs.Place.{end_eq, put}
use Rattle.end_table.specs.Table.{IfHere, IsHereAnd, IsOfEnd}
use Rattle.end_table.specs.declared.entry.Entry.{Entry}
use Rattle.end_table.specs.declared.entry.Entry.TheVariants as entry
use Rattle.end_table.specs.declared.entry.HereView.{HereView}
use Rattle.end_table.specs.declared.entry.Inward.TheVariants as kernel_inward
use Rattle.theorem_take_silent.specs.Effect.{Effect, for_holder, nothing}
use Rattle.theorem_take_silent.specs.Rows.{frees_effect, unwanted_effect, unwanted_here_effect}
use Rattle.kernel_sound.proofs.Actions.{learned-end}
use Rattle.kernel_sound.proofs.Put.{IsViewAfter, put-sound-view}
use Rattle.kernel_sound.specs.Sound.{IsHeldWell, IsSound}
use Rattle.kernel_step.specs.Actions.{is_withdrawing, learned_view}
use Rattle.kernel_step.specs.declared.phase.Phase.TheVariants as kernel_phase
use Rattle.theorem_meaning.specs.World.{World, Takes, happens}
use Rattle.service_change.proofs.EndEq.{puts-at, puts-other}
use Rattle.service_change.proofs.EndEq as service_ends
use Rattle.service_consistent.proofs.Laws.{consistent_after}
use Rattle.service_step.specs.Ends.{is_living, is_made, is_posted, is_started_inward, is_withdrawn, owner, turns_inward}
use Rattle.service_step.specs.State.{Process, State, is_cancelling, owner_cancels, turns, wakes}
use Rattle.service_step.specs.Steps.{IsServiceStep, after_free, wakes_owner}
use Rattle.service_step.specs.declared.state.End.{End}
use Rattle.service_step.specs.declared.state.Inward.{Inward}
use Rattle.service_step.specs.declared.state.Inward.TheVariants as inward
use Rattle.service_step.specs.declared.state.Phase.TheVariants as phase
use Rattle.service_step.specs.declared.state.Place.TheVariants as place
use Rattle.theorem_take_silent.proofs.Allowed.{takes-allowed}
use Rattle.theorem_take_silent.proofs.Ends.{outward-same}
use Rattle.theorem_take_silent.specs.Change.{Happens}
use Rattle.theorem_take_silent.specs.Events.{taking}
use Rattle.theorem_meaning.proofs.Ends.{eq-same}
use Rattle.theorem_meaning.proofs.Goes.{Goes}
use Rattle.theorem_meaning.proofs.Plain.{cancelling-same, owner-same}
use Rattle.theorem_meaning.specs.Fields.{IsAskedAs}
use Rattle.theorem_meaning.specs.Invariant.{Invariant, is_taken_of, is_unwanted_to}
use Rattle.theorem_meaning.specs.Packets.{IsParcelFor, IsTakenOf, IsUnderWay, IsUnwantedOf, Links, links_of, one_if}
use Rattle.theorem_meaning.specs.StandsFor.{IsAskedOf, IsInwardOf, IsProcessOf}
use Rattle.theorem_take_answer.proofs.Meets.{IsOwnedAt, stands-first, unwanted-meets}
use Rattle.theorem_take_answer.proofs.Turned.{IsTurn, middle, middle-counts, middle-number, middle-still, middle-was, turned-links, turned-right, turned_view, with_entry}
use Rattle.theorem_take_answer.proofs.World.{processes-told, setting-after, sound-same}

-- an unwanted that is under way tells that the receive is withdrawn, and no parcel for it is under way
withdrawn-of : (w : Links) (e : EndId) (r : ℕ) (x : Inward) → IsUnderWay w (IsUnwantedOf e r) → IsAskedOf w e r x → (x ≡ inward.Withdrawn) × ((n : ℕ) → IsUnderWay w (IsParcelFor e r n) → ⊥)
withdrawn-of w e r (inward.Matched n) under is = absurd (is.1 under)
withdrawn-of w e r inward.Withdrawn under is = (refl, is.0)
withdrawn-of w e r inward.Posted under is = absurd (is.1 under)
withdrawn-of w e r inward.Idle under is = absurd is
withdrawn-of w e r inward.Unreported under is = absurd is

unwanted-counts : (e : EndId) (n : ℕ) (q : PictureWhat) → IsUnwantedOf e n q → is_unwanted_to e q ≡ true
unwanted-counts e n (packet.Unwanted f m at hops) is = subst (λ z. end_eq e z ≡ true) (sym is.0) (end_eq-refl e)
unwanted-counts e n _ is = absurd is

-- who owns an end, owns it alone
same-owner : (t : EndId → End) (e : EndId) (p q : Pid) → (t e).place ≡ place.Owned p → (t e).place ≡ place.Owned q → p ≡ q
same-owner t e p q own other = owner-same p q (sym own ∙ other)

withdrawing-same : (r n : ℕ) → kernel_inward.Withdrawing r ≡ kernel_inward.Withdrawing n → r ≡ n
withdrawing-same r n same = cc

-- the ends after the step
module _ (table : EndId → End) (e : EndId) (made : is_made (table e).place ≡ true) where
  inward-at : (i : Inward) → turns_inward i e table e ≡ record (table e) { inward = i }
  unfolding turns_inward
  inward-at i = puts-at e (record (table e) { inward = i }) table made

  inward-other : (i : Inward) (q : EndId) → end_eq e q ≡ false → turns_inward i e table q ≡ table q
  unfolding turns_inward
  inward-other i q apart = puts-other e (record (table e) { inward = i }) table q (eq-same e q ∙ apart)

-- the processes
module _ (f : ℕ → Process) (p : Pid) (e : EndId) (cancels : (f p.0).phase ≡ phase.Cancelling e) where
  woken : wakes p e f ≡ turns p phase.Running f
  unfolding wakes
  woken = ap (λ z. if is_cancelling e z then turns p phase.Running f else f) cancels ∙ ap (λ b. if b then turns p phase.Running f else f) (service_ends.end_eq-refl e)

  woken-own : wakes p e f p.0 ≡ record (f p.0) { phase = phase.Running }
  unfolding turns
  woken-own = ap (λ (g : ℕ → Process). g p.0) woken ∙ ap (λ b. if b then record (f p.0) { phase = phase.Running } else f p.0) (eq-eqb p.0 p.0 refl)

  woken-other : (q : ℕ) → nat_eq p.0 q ≡ false → wakes p e f q ≡ f q
  unfolding turns
  woken-other q apart = ap (λ (g : ℕ → Process). g q) woken ∙ ap (λ b. if b then record (f p.0) { phase = phase.Running } else f q) apart

-- a table whose entry of an end is another
put-with : (to : EndId) (y : Entry) (t : EndId → Entry) (e : EndId) → with_entry to y t e ≡ put t to y e
unfolding put
put-with to y t e = refl

pub put-table-sound : (k made n : ℕ) (t z : EndId → Entry) (to : EndId) (v u : HereView) → IsSound k made n t → t to ≡ entry.Here v → IsViewAfter v u → ((e : EndId) → z e ≡ with_entry to (entry.Here u) t e) → IsSound k made n z
put-table-sound k made n t z to v u sound here after same = sound-same k made n (put t to (entry.Here u)) z (λ e. same e ∙ put-with to (entry.Here u) t e) (put-sound-view to v u sound here after)

module _ (i : ℕ) (w : World) (s : State) (is : Invariant i w s) (k from stamp : ℕ) (to : EndId) (r at hops : ℕ) (others : List Picture)
    (there : w.packets from k ≡ record { stamp = stamp; what = packet.Unwanted to r at hops } ∷ others) (meets : IsHereAnd ((w.kernel k).table to) (λ v. v.inward ≡ kernel_inward.Withdrawing r)) where
  abbrev q : Picture
  q = record { stamp = stamp; what = packet.Unwanted to r at hops }

  found : (o : IsOwnedAt w s k to) × (o.view.inward ≡ kernel_inward.Withdrawing r) × ((s.process o.p.0).phase ≡ phase.Cancelling to)
  found = unwanted-meets is k to r meets

  module _ (o : IsOwnedAt w s k to) (withdrawing : o.view.inward ≡ kernel_inward.Withdrawing r) (cancels : (s.process o.p.0).phase ≡ phase.Cancelling to) where
    abbrev v : HereView
    v = o.view

    abbrev p : Pid
    p = o.p

    abbrev f : Effect
    f = frees_effect k at hops v

    effect : unwanted_effect k r at hops ((w.kernel k).table to) ≡ f
    effect =
        ap (unwanted_effect k r at hops) o.here ∙ ap (unwanted_here_effect k r at hops v) withdrawing ∙ ap (λ b. if b then f else nothing) (eq-eqb r r refl)

    happened : Happens w (Takes k from) (taking w k from q f p (answer.Ok ∷ []) [])
    happened = takes-allowed is k from q others there f p (answer.Ok ∷ []) [] effect tt tt (ap (λ h. for_holder h (answer.Ok ∷ [])) o.holder) refl

    abbrev after : World
    after = happens w (Takes k from)

    abbrev x : Links
    x = middle i w s is k from q others there to at hops (refl, refl, refl) o v.outward kernel_inward.Idle f (answer.Ok ∷ []) [] happened

    was : (P : PictureWhat → Type 0) → (P (packet.Moved to at hops) → ⊥) → IsUnderWay x P → IsUnderWay (links_of w) P
    was = middle-was i w s is k from q others there to at hops (refl, refl, refl) o v.outward kernel_inward.Idle f (answer.Ok ∷ []) [] happened

    still : (P : PictureWhat → Type 0) → (P q.what → ⊥) → IsUnderWay (links_of w) P → IsUnderWay x P
    still = middle-still i w s is k from q others there to at hops (refl, refl, refl) o v.outward kernel_inward.Idle f (answer.Ok ∷ []) [] happened

    -- ---- the step of the service

    told-so : ((s.ends to).inward ≡ inward.Withdrawn) × ((n : ℕ) → IsUnderWay (links_of w) (IsParcelFor to r n) → ⊥)
    told-so =
        withdrawn-of (links_of w) to r (s.ends to).inward (record { from = from; to = k; packet = q; there = stands-first is k from q others there; is = (refl, refl) })
        (subst (λ z. IsInwardOf (links_of w) to z (s.ends to).inward) withdrawing o.agree.inward)

    withdrawn : (s.ends to).inward ≡ inward.Withdrawn
    withdrawn = told-so.0

    unparcelled : (n : ℕ) → IsUnderWay (links_of w) (IsParcelFor to r n) → ⊥
    unparcelled = told-so.1

    lives : is_living (s.ends to).place ≡ true
    lives = ap (λ z. is_living z) o.owned

    unnoticed : (s.ends to).noticed ≡ false
    unnoticed = by (s.ends to).noticed refl
      where
        by : (b : Bool) → (s.ends to).noticed ≡ b → b ≡ false
        by true noticed = sym (ap is_started_inward withdrawn) ∙ is.service.noticed.inward to noticed lives
        by false alive = refl

    abbrev t : EndId → End
    t = turns_inward inward.Idle to s.ends

    abbrev g : ℕ → Process
    g = wakes_owner (owner (s.ends to).place) to s.process

    abbrev next : State
    next = after_free to s

    allowed : IsServiceStep s (step.Free to) next
    allowed =
        record {
          allowed =
              ap (λ z. is_withdrawn z && owner_cancels (owner (s.ends to).place) to s.process) withdrawn ∙ ap (λ z. owner_cancels (owner z) to s.process) o.owned ∙ ap (is_cancelling to) cancels ∙ service_ends.end_eq-refl to;
          after = refl;
        }

    made : is_made (s.ends to).place ≡ true
    made = ap (λ z. is_made z) o.owned

    g-is : (n : ℕ) → g n ≡ wakes p to s.process n
    g-is n = ap (λ z. wakes_owner (owner z) to s.process n) o.owned

    g-own : g p.0 ≡ record (s.process p.0) { phase = phase.Running }
    g-own = g-is p.0 ∙ woken-own s.process p to cancels

    g-other : (n : ℕ) → nat_eq p.0 n ≡ false → g n ≡ s.process n
    g-other n apart = g-is n ∙ woken-other s.process p to cancels n apart

    -- a process that is another, or runs
    who : (b : Pid) → ((b ≡ p) × ((g b.0).phase ≡ phase.Running)) ⊎ (g b.0 ≡ s.process b.0)
    who b = by (nat_eq p.0 b.0) refl
      where
        by : (c : Bool) → nat_eq p.0 b.0 ≡ c → ((b ≡ p) × ((g b.0).phase ≡ phase.Running)) ⊎ (g b.0 ≡ s.process b.0)
        by true same =
            let number = eqb-true p.0 b.0 same in
            inl (ap (λ n. record { 0 = n }) (sym number), ap (λ n. (g n).phase) (sym number) ∙ ap (λ (z : Process). z.phase) g-own)
        by false apart = inr (g-other b.0 apart)

    -- ---- the end

    none-more : (n : ℕ) → IsUnderWay x (IsUnwantedOf to n) → ⊥
    none-more n under =
        let number = middle-number i w s is k from q others there to at hops (refl, refl, refl) o v.outward kernel_inward.Idle f (answer.Ok ∷ []) [] happened (is_unwanted_to to) refl in
        let one : one_if (is_unwanted_to to q.what) ≡ 1 = ap one_if (end_eq-refl to) in
        let most = is.links.unwanted to unnoticed in
        let least = middle-counts i w s is k from q others there to at hops (refl, refl, refl) o v.outward kernel_inward.Idle f (answer.Ok ∷ []) [] happened (IsUnwantedOf to n) (is_unwanted_to to) (λ a. a) (λ z. unwanted-counts to n z) under in
        omega (arith, number, one, most, least)

    turn : IsTurn s x to v v.outward kernel_inward.Idle (s.ends to).outward inward.Idle t g
    turn =
        record {
          at = inward-at s.ends to made inward.Idle;
          others = inward-other s.ends to made inward.Idle;
          like = record { view = refl; inward = inr refl; waiting = λ n. (λ a. a, λ a. a) };
          posted = sym (ap is_posted withdrawn);
          message = refl;
          matched = λ m a. a;
          takens = λ n under a. a;
          voids = λ n under a. absurd (none-more n under);
          meets = λ a n under asked. absurd (unparcelled n (subst (λ z. IsUnderWay (links_of w) (IsParcelFor to z n)) (sym (subst (IsAskedAs a) withdrawing asked)) (was (IsParcelFor to a n) (λ z. z) under)));
          withdrawing = λ posted a. absurd (true≢false (sym posted ∙ ap is_posted withdrawn));
          cancelled = λ b e a. cancelled b e a (who b);
          cancelling = λ b e a. cancelling b e a (who b);
          taken =
              (let number = middle-number i w s is k from q others there to at hops (refl, refl, refl) o v.outward kernel_inward.Idle f (answer.Ok ∷ []) [] happened (is_taken_of to) refl in omega (arith, number)) ∙ (is.links.once to).told lives;
          outward = outward-same (links_of w) x to (λ m. (was (IsTakenOf to m) (λ a. a), still (IsTakenOf to m) (λ a. a))) (s.ends to).sent v.outward (s.ends to).outward o.agree.outward;
          inward = tt;
        }
      where
        cancelled : (b : Pid) (e : EndId) → (s.process b.0).phase ≡ phase.Cancelling e → ((b ≡ p) × ((g b.0).phase ≡ phase.Running)) ⊎ (g b.0 ≡ s.process b.0)
            → ((g b.0).phase ≡ phase.Cancelling e) ⊎ ((e ≡ to) × (kernel_inward.Idle ≡ kernel_inward.Idle))
        cancelled b e a (inl own) = inr (cancelling-same e to (sym (subst (λ (z : Pid). (s.process z.0).phase ≡ phase.Cancelling e) own.0 a) ∙ cancels), refl)
        cancelled b e a (inr same) = inl (ap (λ (z : Process). z.phase) same ∙ a)

        cancelling : (b : Pid) (e : EndId) → (g b.0).phase ≡ phase.Cancelling e → ((b ≡ p) × ((g b.0).phase ≡ phase.Running)) ⊎ (g b.0 ≡ s.process b.0)
            → ((s.process b.0).phase ≡ phase.Cancelling e) × (e ≡ to → is_withdrawing kernel_inward.Idle ≡ true)
        cancelling b e a (inl own) = absurd (let both : phase.Running ≡ phase.Cancelling e = sym own.1 ∙ a in cc)
        cancelling b e a (inr same) = (old, λ end. absurd (mine end))
          where
            old : (s.process b.0).phase ≡ phase.Cancelling e
            old = sym (ap (λ (z : Process). z.phase) same) ∙ a

            mine : e ≡ to → ⊥
            mine end =
                let here : (s.process b.0).phase ≡ phase.Cancelling to = old ∙ ap phase.Cancelling end in
                let one = same-owner s.ends to b p (is.service.processes.cancelling b to here).0 o.owned in
                let runs : (g b.0).phase ≡ phase.Running = ap (λ (z : Pid). (g z.0).phase) one ∙ ap (λ (z : Process). z.phase) g-own in
                let both : phase.Running ≡ phase.Cancelling e = sym runs ∙ a in
                cc

    -- ---- the world

    view-end : v.value.end ≡ to
    view-end = subst (IsOfEnd to) o.here ((is.setting.sound k).own to)

    abbrev last : HereView
    last = learned_view (turned_view v v.outward kernel_inward.Idle) at hops

    entries : (e : EndId) → (after.kernel k).table e ≡ with_entry to (entry.Here last) (w.kernel k).table e
    entries e = happened.becomes.links.entry e ∙ ap (λ z. with_entry z (entry.Here last) (w.kernel k).table e) view-end

    sound : IsSound k (w.kernel k).made (length s.homes) (after.kernel k).table
    sound =
        put-table-sound k (w.kernel k).made (length s.homes) (w.kernel k).table (after.kernel k).table to v last (is.setting.sound k) o.here
        (record { end = learned-end at hops v.value; holder = refl; idle = λ idle. record { outward = idle.outward; inward = refl }; message = inl refl }) entries

    below : p.0 < length s.homes
    below = subst (IsHeldWell (length s.homes) v) o.holder (subst (λ z. IfHere z (λ v. IsHeldWell (length s.homes) v v.holder)) o.here ((is.setting.sound k).held to))

    told : IsProcessOf (record { phase = kernel_phase.Running; reports = ((w.kernel k).process p.0).reports ++ []; answer = Some answer.Ok }) (g p.0)
    told =
        record {
          phase = ap (λ (z : Process). z.phase) g-own;
          unanswered = λ suspended. absurd suspended;
          reports = ap (λ (z : Process). z.reports) g-own ∙ (is.stands.processes p below).reports ∙ ap (λ j. ((w.kernel j).process p.0).reports) o.home ∙ sym (append-nil ((w.kernel k).process p.0).reports);
        }

    waits : (b : Pid) → (g b.0).phase ≡ phase.Waiting → ((b ≡ p) × ((g b.0).phase ≡ phase.Running)) ⊎ (g b.0 ≡ s.process b.0) → (g b.0).reports ≡ []
    waits b a (inl own) = absurd (let both : phase.Running ≡ phase.Waiting = sym own.1 ∙ a in cc)
    waits b a (inr same) = ap (λ (z : Process). z.reports) same ∙ is.waiting b (sym (ap (λ (z : Process). z.phase) same) ∙ a)

    frees : Goes i w s (Takes k from)
    frees =
        record {
          part = (step.Free to, next) ∷ [];
          steps = ap (λ e. step.Free e ∷ []) (sym view-end) ∙ sym happened.steps;
          run = (allowed, tt);
          after =
              record {
                stands =
                    record {
                      processes = processes-told happened.becomes s t g o.home told g-other is.stands.processes;
                      links = turned-links i w s is k from q others there to at hops (refl, refl, refl) o v.outward kernel_inward.Idle f (answer.Ok ∷ []) [] happened (s.ends to).outward inward.Idle t g turn entries refl;
                    };
                service = consistent_after s (step.Free to) next is.service allowed;
                setting = setting-after happened.becomes s t g refl sound is.setting;
                links = turned-right i w s is k from q others there to at hops (refl, refl, refl) o v.outward kernel_inward.Idle f (answer.Ok ∷ []) [] happened (s.ends to).outward inward.Idle t g turn entries refl;
                waiting = λ b a. waits b a (who b);
              };
          homes = refl;
        }

  -- an unwanted that meets the receive that is being withdrawn
  pub unwanted-frees : Goes i w s (Takes k from)
  unwanted-frees = frees found.0 found.1 found.2
