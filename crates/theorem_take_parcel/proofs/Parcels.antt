-- A parcel is taken whose end is here and has started the receive that it is for: the ends that came are its owner's, the message is taken,
-- and the end hears where its opposite is.
use Rattle.std.proofs.Common.{◌≡◌, ◌⊎◌, inl, inr, ℕ, ◌+◌, ◌<◌, Bool, true, false, nat_eq, if◌then◌else◌, List, [], ◌∷◌, ◌++◌, map, length, Contains, None, Some, refl, sym, ap, subst, ◌∙◌, true≢false, eq-eqb, eqb-true, lt-ltb}
use Rattle.std.proofs.lemmas.List.Elements.{All-contains}
use Rattle.std.specs.List.{flat_map, list_any}
use Rattle.charlotte_calls.specs.Names.{opposite}
use Rattle.charlotte_packets.specs.Packets.{is_addressed}
use Rattle.charlotte_calls.specs.declared.calls.Answer.{Answer}
use Rattle.charlotte_calls.specs.declared.calls.Answer.TheVariants as answer
use Rattle.charlotte_calls.specs.declared.calls.Cause.TheVariants as cause
use Rattle.charlotte_calls.specs.declared.calls.Report.{Report}
use Rattle.charlotte_calls.specs.declared.calls.ServiceStep.TheVariants as step
use Rattle.charlotte_calls.specs.declared.names.EndId.{EndId}
use Rattle.charlotte_calls.specs.declared.names.Pid.{Pid}
use Rattle.charlotte_packets.specs.declared.picture.MovingPicture.{MovingPicture}
use Rattle.charlotte_packets.specs.declared.picture.Picture.{Picture}
use Rattle.charlotte_packets.specs.declared.picture.PictureWhat.{PictureWhat}
use Rattle.charlotte_packets.specs.declared.picture.PictureWhat.TheVariants as packet
use Rattle.end_table.proofs.EndEq.{end_eq-refl, end_eq-same, end_eq-sym}
use Rattle.end_table.specs.Entries.{settled}
use Rattle.end_table.specs.Place.{end_eq}
use Rattle.end_table.specs.Table.{IfHere, IsHere, IsHereAnd, IsOfEnd}
use Rattle.end_table.specs.declared.entry.Entry.{Entry}
use Rattle.end_table.specs.declared.entry.Entry.TheVariants as entry
use Rattle.end_table.specs.declared.entry.HereView.{HereView}
use Rattle.end_table.specs.declared.entry.Holder.{Holder}
use Rattle.end_table.specs.declared.entry.Holder.TheVariants as holder
use Rattle.end_table.specs.declared.entry.Inward.{Inward as KernelInward}
use Rattle.end_table.specs.declared.entry.Inward.TheVariants as kernel_inward
use Rattle.kernel_effects.specs.Actions.{arrival_packets}
use Rattle.kernel_effects.specs.Effect.{Effect, brings, for_holder, puts, stays}
use Rattle.kernel_effects.specs.Rows.{parcel_effect, receives_effect, row_effect, take_steps, taken_view, view_news}
use Rattle.kernel_outcomes.proofs.Sound.{arriving-all}
use Rattle.kernel_outcomes.specs.Closing.{AtMostOne}
use Rattle.kernel_sound.proofs.Actions.{learned-end}
use Rattle.kernel_sound.proofs.Values.{AreComing}
use Rattle.kernel_sound.specs.Sound.{IsHeldWell, IsSound}
use Rattle.kernel_step.proofs.Folds.{AreDifferent}
use Rattle.kernel_step.specs.Actions.{here, is_withdrawing, learned_view, receive_report}
use Rattle.kernel_step.specs.Rows.{asks, ends_in, is_asked}
use Rattle.kernel_world.specs.World.{Takes, World}
use Rattle.service_consistent.proofs.Laws.{consistent_after}
use Rattle.service_lawful.specs.Consistent.{IsConsistent}
use Rattle.service_step.specs.Ends.{is_living, is_made, is_started_inward}
use Rattle.service_step.specs.State.{Process, State, is_cancelling}
use Rattle.service_step.specs.Steps.{IsServiceStep}
use Rattle.service_step.specs.declared.state.End.{End}
use Rattle.service_step.specs.declared.state.Inward.TheVariants as inward
use Rattle.service_step.specs.declared.state.Message.{Message}
use Rattle.service_step.specs.declared.state.Outward.TheVariants as outward
use Rattle.service_step.specs.declared.state.Phase.{Phase}
use Rattle.service_step.specs.declared.state.Phase.TheVariants as phase
use Rattle.service_step.specs.declared.state.Place.TheVariants as place
use Rattle.theorem_take_want.proofs.Allowed.{are-oldest, takes-allowed}
use Rattle.theorem_take_want.specs.Change.{Change, Changes, Happens}
use Rattle.theorem_take_want.specs.Events.{taking}
use Rattle.theorem_take_want.specs.Sums.{AllSent}
use Rattle.theorem_take_want.specs.Under.{IsTaken}
use Rattle.theorem_meaning.proofs.Ends.{eq-same, opposite-apart, opposite-twice}
use Rattle.theorem_meaning.proofs.Goes.{Goes}
use Rattle.theorem_meaning.specs.Fields.{IsAskedAs, IsNews}
use Rattle.theorem_meaning.specs.Invariant.{AreRight, Invariant, IsParcelRight, is_message_of}
use Rattle.theorem_meaning.specs.Packets.{Links, links_of}
use Rattle.theorem_meaning.specs.StandsFor.{AreLinksOf, home_of}
use Rattle.theorem_take_want.proofs.Alike.{some-same}
use Rattle.theorem_take_want.proofs.Clauses.{links-still}
use Rattle.theorem_take_want.proofs.Hearing.{IsHearing, hears, learns-so}
use Rattle.theorem_take_want.proofs.Learning.{learning-right}
use Rattle.theorem_take_want.proofs.Rows.{IsTable}
use Rattle.theorem_take_want.specs.Learning.{IsLearning}
use Rattle.theorem_take_want.specs.Quiet.{IsQuiet}
use Rattle.theorem_take_want.specs.Silent.{IsStill}
use Rattle.theorem_ends_arrived.specs.Swapped.{news}
use Rattle.theorem_ends_arrived.proofs.Freed.{put-table-sound}
use Rattle.theorem_ends_arrived.proofs.Meets.{IsOwnedAt, right-first, stands-first}
use Rattle.theorem_ends_arrived.proofs.Swap.{swapped-changes}
use Rattle.theorem_ends_arrived.proofs.Turned.{turned_view, with_entry}
use Rattle.theorem_take_want.proofs.Parts as parts
use Rattle.theorem_ends_arrived.specs.Arrived.{IsAmong, IsLaden, IsTrueMove, settles, without_values}
use Rattle.theorem_take_parcel.specs.Received.{IsReceived, IsReceiving, answering}
use Rattle.theorem_ends_arrived.proofs.Among.{among-contains, among-told, contains-among, told-among}
use Rattle.theorem_ends_arrived.proofs.Closes.{answered-goes, quietly, reported-goes, untold, untold-changes}
use Rattle.theorem_ends_arrived.proofs.Comes.{values-come, values-differ}
use Rattle.theorem_ends_arrived.proofs.Coming.{entry-came, here-landed, inside, landed, living, never-here, owners, owners-came, owners-other, owners-sender, sender-apart}
use Rattle.theorem_ends_arrived.proofs.Landed.{landed-links, landed-right, made-same, named-value, noticed-same, place-stays}
use Rattle.theorem_take_parcel.proofs.Meeting.{at-below, informed, near, parcel-meets}
use Rattle.theorem_ends_arrived.proofs.Moves.{moves-links, moves-right}
use Rattle.theorem_ends_arrived.proofs.Owned.{busy-owned}
use Rattle.theorem_take_parcel.proofs.Received.{received-links, received-right}
use Rattle.theorem_take_parcel.proofs.Taken.{may-take, took, took-another, took-came, took-other, took-own, took-sender, took-to}
use Rattle.theorem_ends_arrived.proofs.Values.{arrivals-true, same-value, settles-sound}
use Rattle.theorem_meaning.proofs.Plain.{asked-busy, cancelling-same, there-here}

asked-told : (r : ℕ) (i : KernelInward) → IsAskedAs r i → is_asked r i ≡ true
asked-told r (kernel_inward.Posted x) is = eq-eqb x r is
asked-told r (kernel_inward.Withdrawing x) is = eq-eqb x r is
asked-told r _ is = absurd is

cancelling-is : (e : EndId) (x : Phase) → is_cancelling e x ≡ true → x ≡ phase.Cancelling e
cancelling-is e (phase.Cancelling f) is = ap phase.Cancelling (sym (end_eq-same e f (sym (eq-same e f) ∙ is)))
cancelling-is e phase.Running is = absurd (true≢false (sym is))
cancelling-is e phase.Waiting is = absurd (true≢false (sym is))
cancelling-is e phase.Ended is = absurd (true≢false (sym is))

cancelling-told : (e : EndId) (x : Phase) → x ≡ phase.Cancelling e → is_cancelling e x ≡ true
cancelling-told e x is = ap (is_cancelling e) is ∙ eq-same e e ∙ end_eq-refl e

module _ (i : ℕ) (w : World) (s : State) (is : Invariant i w s) (k from stamp : ℕ) (to : EndId) (n r at hops : ℕ) (bytes : List ℕ) (ms : List MovingPicture) (others : List Picture)
    (there : w.packets from k ≡ record { stamp = stamp; what = packet.Parcel to n r at hops bytes ms } ∷ others) (o : IsOwnedAt w s k to) (asked : IsAskedAs r o.view.inward) where
  abbrev q : Picture
  q = record { stamp = stamp; what = packet.Parcel to n r at hops bytes ms }

  abbrev f : EndId
  f = opposite to

  abbrev v : HereView
  v = o.view

  abbrev p : Pid
  p = o.p

  abbrev table : EndId → Entry
  table = (w.kernel k).table

  abbrev made : ℕ
  made = (w.kernel k).made

  abbrev message : Message
  message = record { bytes = bytes; carried = ends_in ms }

  right : IsParcelRight (links_of w) s.ends from k to n r at hops bytes (ends_in ms)
  right = right-first is k from q others there

  stood : Contains (w.packets from k) q
  stood = stands-first is k from q others there

  view-end : v.value.end ≡ to
  view-end = subst (IsOfEnd to) o.here ((is.setting.sound k).own to)

  carries : is_message_of f q.what ≡ true
  carries = ap (λ a. end_eq a to) (opposite-twice to) ∙ end_eq-refl to

  below-home : p.0 < length s.homes
  below-home = subst (IsHeldWell (length s.homes) v) o.holder (subst (λ z. IfHere z (λ v. IsHeldWell (length s.homes) v v.holder)) o.here ((is.setting.sound k).held to))

  -- ---- the service

  receives : (s.ends to).inward ≡ inward.Matched n
  receives = (parcel-meets (links_of w) s.ends is.links.packets to r n v right.number (record { from = from; to = k; packet = q; there = stood; is = (refl, refl, refl) }) asked o.agree.inward).0

  unnoticed : (s.ends to).noticed ≡ false
  unnoticed = by (s.ends to).noticed refl
    where
      by : (b : Bool) → (s.ends to).noticed ≡ b → b ≡ false
      by true noticed = absurd (true≢false (sym (ap is_started_inward receives) ∙ is.service.noticed.inward to noticed (ap (λ z. is_living z) o.owned)))
      by false alive = refl

  made-sender : is_made (s.ends f).place ≡ true
  made-sender = is.service.kept.made f ∙ sym (is.service.kept.made to) ∙ ap (λ z. is_made z) o.owned

  abbrev late : Bool
  late = is_withdrawing v.inward

  cancels : is_cancelling to (s.process p.0).phase ≡ late
  cancels = by v.inward refl asked
    where
      none : is_withdrawing v.inward ≡ false → (b : Bool) → is_cancelling to (s.process p.0).phase ≡ b → b ≡ false
      none still true is_so =
          let x = there-here ((w.kernel (home_of s p)).table to) (λ z. is_withdrawing z.inward ≡ true) (is.links.cancelling p to (cancelling-is to (s.process p.0).phase is_so)) in
          let same : x.0 ≡ v = some-same x.0 v (ap here (sym x.1 ∙ ap (λ z. (w.kernel z).table to) o.home ∙ o.here)) in
          absurd (true≢false (sym x.2 ∙ ap (λ (z : HereView). is_withdrawing z.inward) same ∙ still))
      none still false is_so = refl

      by : (x : KernelInward) → v.inward ≡ x → IsAskedAs r x → is_cancelling to (s.process p.0).phase ≡ is_withdrawing x
      by (kernel_inward.Withdrawing a) at_v asks = cancelling-told to (s.process p.0).phase ((is.links.asked to).cancelled k v a p o.here at_v o.holder)
      by (kernel_inward.Posted a) at_v asks = none (ap is_withdrawing at_v) (is_cancelling to (s.process p.0).phase) refl
      by kernel_inward.Idle at_v asks = absurd asks
      by kernel_inward.Unreported at_v asks = absurd asks

  abbrev next : State
  next = took s to n p message right.matched right.number o.owned receives

  stepped : IsServiceStep s (step.Take f n p late) next
  stepped = may-take s to n p message right.matched right.number o.owned receives unnoticed late cancels

  -- ---- the ends that come

  different : AreDifferent (ends_in ms)
  different = values-differ is k from q others there f carries p

  coming : AreComing k made table ms
  coming = values-come is k from q others there f carries p

  -- ---- what the taking does

  abbrev late_answers : List Answer
  late_answers = if late then answer.Refused cause.Late ∷ [] else []

  abbrev report : Report
  report = receive_report to bytes (ends_in ms)

  abbrev does_at : EndId → Holder → List MovingPicture → Effect
  does_at e h came =
      record {
        entry = puts e (entry.Here (taken_view at hops v)) (brings came (λ m. entry.Here (settled h m)) stays);
        packets = (at, packet.Taken (opposite e) n k v.value.hops) ∷ (flat_map (arrival_packets k) came ++ view_news k at hops v kernel_inward.Unreported);
        reports = for_holder h (receive_report e bytes (ends_in came) ∷ []);
        answers = for_holder h late_answers;
        steps = take_steps e n late h;
      }

  abbrev does : Effect
  does = does_at to (holder.Owner p) ms

  effect : row_effect k made from table q.what ≡ does
  effect =
      ap (λ x. parcel_effect k made table to n at hops bytes ms (asks r x)) o.here
      ∙ ap (λ b. parcel_effect k made table to n at hops bytes ms (if b then Some v else None)) (asked-told r v.inward asked)
      ∙ ap (λ l. receives_effect k n at hops bytes l v) (arriving-all k made v.holder table ms coming)
      ∙ ap (λ e. does_at e v.holder ms) view-end
      ∙ ap (λ h. does_at to h ms) o.holder

  module _ (given : List Answer) (gives : late_answers ≡ given) (one : AtMostOne given) where
    happened : Happens w (Takes k from) (taking w k from q does p given (report ∷ []))
    happened = takes-allowed is k from q others there does p given (report ∷ []) effect one (are-oldest is k p (report ∷ []) below-home o.home) (ap (λ l. map (λ a. (p, a)) l) gives) refl

    abbrev m : Links
    m = untold i w s is k from q does p given (report ∷ []) happened

    b0 : Changes (links_of w) (quietly i w s is k from q does p given (report ∷ []) happened) m
    b0 = untold-changes i w s is k from q does p given (report ∷ []) happened

    -- ---- the ends come to be here

    ready : IsLaden i b0 from q s f
    ready = record { taken = refl; right = is.links; links = is.stands.links; kept = is.service; few = is.setting.few; carries = carries }

    abbrev x1 : Links
    x1 = landed ready p

    abbrev s1 : State
    s1 = record s { ends = owners ready p }

    abbrev u : HereView
    u = turned_view v v.outward kernel_inward.Unreported

    abbrev last : HereView
    last = learned_view u at hops

    abbrev g : EndId → Entry → Entry
    g = puts v.value.end (entry.Here last) stays

    abbrev y1 : EndId → Entry
    y1 = settles p ms table

    here-not : IsAmong ms to → ⊥
    here-not a = never-here ready p to a k (λ z. Unit {0}) (subst IsHere (sym o.here) tt)

    same1 : (e : EndId) → m.entry k e ≡ g e (y1 e)
    same1 e = b0.entry e ∙ ap (λ z. if end_eq z e then entry.Here last else y1 e) (sym view-end)

    b1 : Changes x1 (record (quietly i w s is k from q does p given (report ∷ []) happened) { taken = Some (from, without_values q); entry = g }) m
    b1 = swapped-changes b0 from q (without_values q) refl y1 g same1

    here1 : x1.entry k to ≡ entry.Here v
    here1 = let x = there-here (x1.entry k to) (λ z. z ≡ v) (here-landed ready p k to (λ z. z ≡ v) (subst (λ z. IsHereAnd z (λ z. z ≡ v)) (sym o.here) refl)) in x.1 ∙ ap entry.Here x.2

    ready1 : IsReceiving i b1 from stamp s1 to n r at hops bytes p v
    ready1 =
        record {
          taken = refl;
          right = landed-right ready p o.home;
          links = landed-links ready p o.home;
          few = is.setting.few;
          here = here1;
          asked = asked;
          owned = place-stays ready p o.home to here-not ∙ o.owned;
          home = o.home;
          unnoticed = noticed-same ready p o.home to ∙ unnoticed;
          both = made-same ready p o.home f ∙ made-sender;
        }

    -- ---- the message is taken

    abbrev x2 : Links
    x2 = informed ready1 kernel_inward.Unreported

    abbrev y2 : EndId → Entry
    y2 = with_entry to (entry.Here u) (x1.entry k)

    x1-entry : (e : EndId) → x1.entry k e ≡ y1 e
    x1-entry e = ap (λ a. if a then y1 e else table e) (eq-eqb k k refl)

    same2 : (e : EndId) → m.entry k e ≡ g e (y2 e)
    same2 e = same1 e ∙ ap (λ z. if end_eq z e then entry.Here last else y1 e) view-end ∙ by (end_eq to e) ∙ ap (λ z. if end_eq z e then entry.Here last else y2 e) (sym view-end)
      where
        by : (a : Bool) → (if a then entry.Here last else y1 e) ≡ (if a then entry.Here last else (if a then entry.Here u else x1.entry k e))
        by true = refl
        by false = sym (x1-entry e)

    b2 : Changes x2 (record (quietly i w s is k from q does p given (report ∷ []) happened) { taken = Some (from, news to at hops (without_values q)); entry = g }) m
    b2 = swapped-changes b1 from (without_values q) (news to at hops (without_values q)) refl y2 g same2

    abbrev told_ps : List (ℕ × PictureWhat)
    told_ps = (at, packet.Taken f n k v.value.hops) ∷ []

    abbrev moves : List (ℕ × PictureWhat)
    moves = flat_map (arrival_packets k) ms

    abbrev heard_ps : List (ℕ × PictureWhat)
    heard_ps = view_news k at hops v kernel_inward.Unreported

    abbrev z1 : Links
    z1 = parts.between b2 stays g told_ps (moves ++ heard_ps) (λ e. refl) refl

    first1 : Changes x2 (answering (quietly i w s is k from q does p given (report ∷ []) happened) to n at v) z1
    first1 = parts.first-part b2 stays g told_ps (moves ++ heard_ps) (λ e. refl) refl

    last1 : Changes z1 (parts.taking_last b2 stays g told_ps (moves ++ heard_ps) (λ e. refl) refl) m
    last1 = parts.last-part b2 stays g told_ps (moves ++ heard_ps) (λ e. refl) refl

    apart-sender : end_eq f to ≡ false
    apart-sender = end_eq-sym f to ∙ opposite-apart to

    away-to : Contains (ends_in ms) to → ⊥
    away-to has = here-not (contains-among ms to has)

    away-sender : Contains (ends_in ms) f → ⊥
    away-sender has = sender-apart ready p (contains-among ms f has)

    received : IsReceived s1 to kernel_inward.Unreported inward.Unreported next.ends next.process
    received =
        record {
          at = took-to s to n p message right.matched right.number o.owned receives made-sender away-to ∙ ap (λ (z : End). record z { inward = inward.Unreported }) (sym (owners-other ready p to apart-sender here-not));
          sender = took-sender s to n p message right.matched right.number o.owned receives made-sender away-sender ∙ ap (λ (z : End). record z { outward = outward.Taken }) (sym (owners-sender ready p));
          others = λ e far away. by e far away (list_any (end_eq e) (ends_in ms)) refl;
          over = λ a is. is;
          agree = λ x. tt;
          cancelled = λ b e is. cancelled b e is (nat_eq p.0 b.0) refl;
          cancelling = λ b e is. cancelling b e is (nat_eq p.0 b.0) refl;
        }
      where
        by : (e : EndId) → end_eq to e ≡ false → end_eq f e ≡ false → (a : Bool) → list_any (end_eq e) (ends_in ms) ≡ a → next.ends e ≡ owners ready p e
        by e far away true is_so =
            let a = told-among ms e is_so in
            took-came s to n p message right.matched right.number o.owned receives made-sender e (among-contains ms e a) far away (ap (λ z. is_made z) (inside ready p e a)) ∙ sym (owners-came ready p e a)
        by e far away false none =
            let not_there : IsAmong ms e → ⊥ = λ a. true≢false (sym (among-told ms e a) ∙ none) in
            took-other s to n p message right.matched right.number o.owned receives made-sender e (λ has. not_there (contains-among ms e has)) far away ∙ sym (owners-other ready p e away not_there)

        own_phase : (next.process p.0).phase ≡ (if is_cancelling to (s.process p.0).phase then phase.Running else (s.process p.0).phase)
        own_phase = ap (λ (z : Process). z.phase) (took-own s to n p message right.matched right.number o.owned receives)

        cancelled : (b : Pid) (e : EndId) → (s.process b.0).phase ≡ phase.Cancelling e → (a : Bool) → nat_eq p.0 b.0 ≡ a → ((next.process b.0).phase ≡ phase.Cancelling e) ⊎ (e ≡ to)
        cancelled b e is_so false other = inl (ap (λ (z : Process). z.phase) (took-another s to n p message right.matched right.number o.owned receives b.0 other) ∙ is_so)
        cancelled b e is_so true same = each_way (is_cancelling to (s.process p.0).phase) refl
          where
            number : p.0 ≡ b.0
            number = eqb-true p.0 b.0 same

            own : (s.process p.0).phase ≡ phase.Cancelling e
            own = ap (λ z. (s.process z).phase) number ∙ is_so

            each_way : (a : Bool) → is_cancelling to (s.process p.0).phase ≡ a → ((next.process b.0).phase ≡ phase.Cancelling e) ⊎ (e ≡ to)
            each_way true its = inr (cancelling-same e to (sym own ∙ cancelling-is to (s.process p.0).phase its))
            each_way false not_its = inl (ap (λ z. (next.process z).phase) (sym number) ∙ own_phase ∙ ap (λ a. if a then phase.Running else (s.process p.0).phase) not_its ∙ own)

        cancelling : (b : Pid) (e : EndId) → (next.process b.0).phase ≡ phase.Cancelling e → (a : Bool) → nat_eq p.0 b.0 ≡ a → ((s.process b.0).phase ≡ phase.Cancelling e) × (e ≡ to → ⊥)
        cancelling b e is_so false other = (old, mine)
          where
            old : (s.process b.0).phase ≡ phase.Cancelling e
            old = sym (ap (λ (z : Process). z.phase) (took-another s to n p message right.matched right.number o.owned receives b.0 other)) ∙ is_so

            owner_number : (x y : Pid) → place.Owned x ≡ place.Owned y → x.0 ≡ y.0
            owner_number x y both = cc

            mine : e ≡ to → ⊥
            mine end =
                let owns = (is.service.processes.cancelling b to (old ∙ ap phase.Cancelling end)).0 in
                true≢false (sym (eq-eqb p.0 b.0 (owner_number p b (sym o.owned ∙ owns))) ∙ other)
        cancelling b e is_so true same = each_way (is_cancelling to (s.process p.0).phase) refl
          where
            number : p.0 ≡ b.0
            number = eqb-true p.0 b.0 same

            now_phase : (next.process p.0).phase ≡ phase.Cancelling e
            now_phase = ap (λ z. (next.process z).phase) number ∙ is_so

            each_way : (a : Bool) → is_cancelling to (s.process p.0).phase ≡ a → ((s.process b.0).phase ≡ phase.Cancelling e) × (e ≡ to → ⊥)
            each_way true its = absurd (let both : phase.Running ≡ phase.Cancelling e = sym (ap (λ a. if a then phase.Running else (s.process p.0).phase) its) ∙ sym own_phase ∙ now_phase in cc)
            each_way false not_its =
                let was : (s.process p.0).phase ≡ phase.Cancelling e = sym (ap (λ a. if a then phase.Running else (s.process p.0).phase) not_its) ∙ sym own_phase ∙ now_phase in (
                  ap (λ z. (s.process z).phase) (sym number) ∙ was,
                  λ end. true≢false (sym (cancelling-told to (s.process p.0).phase (was ∙ ap phase.Cancelling end)) ∙ not_its),
                )

    links2 : AreLinksOf z1 next
    links2 = received-links ready1 kernel_inward.Unreported z1 first1 inward.Unreported next.ends next.process received

    right2 : AreRight i z1 next
    right2 = received-right ready1 kernel_inward.Unreported z1 first1 inward.Unreported next.ends next.process received

    service2 : IsConsistent next
    service2 = consistent_after s (step.Take f n p late) next is.service stepped

    both2 : (e : EndId) → is_made (next.ends e).place ≡ true → is_made (next.ends (opposite e)).place ≡ true
    both2 e living = service2.kept.made (opposite e) ∙ sym (service2.kept.made e) ∙ living

    -- ---- the ends that came tell where they are

    z1-entry : (e : EndId) → z1.entry k e ≡ y2 e
    z1-entry e = ap (λ a. if a then x2.entry k e else x2.entry k e) (eq-eqb k k refl) ∙ ap (λ a. if a then y2 e else x1.entry k e) (eq-eqb k k refl)

    below : k < length s.made
    below = (near ready1).1

    sent : AllSent (λ to what. (to < length s.made) × IsTrueMove z1 k what) moves
    sent = arrivals-true z1 k (length s.made) ms (λ l has. (named-value (length s.made) q.what l addressed has, here_then l has))
      where
        addressed : is_addressed q.what (length s.made) ≡ true
        addressed = All-contains (λ z. is_addressed z.what (length s.made) ≡ true) (w.packets from k) q (is.links.named.addressed from k) stood

        here_then : (l : MovingPicture) → Contains ms l → IsHereAnd (z1.entry k l.end) (λ z. z.value.hops ≡ l.hops)
        here_then l has =
            let a = entry-came ready p l.end (record { value = l; there = has; of = refl }) in
            let same : a.0.value ≡ l = same-value ms a.0.value l different a.0.there has a.0.of in
            subst (λ z. IsHereAnd z (λ z. z.value.hops ≡ l.hops)) (sym (z1-entry l.end ∙ ap (λ b. if b then entry.Here u else x1.entry k l.end) apart ∙ a.1)) (ap (λ (z : MovingPicture). z.hops) same)
          where
            apart : end_eq to l.end ≡ false
            apart = by (end_eq to l.end) refl
              where
                by : (b : Bool) → end_eq to l.end ≡ b → b ≡ false
                by true same = absurd (here-not (record { value = l; there = has; of = sym (end_eq-same to l.end same) }))
                by false far = refl

    abbrev z2 : Links
    z2 = parts.between last1 stays g moves heard_ps (λ e. refl) refl

    first2 : Changes z1 (parts.untaken last1 stays g moves heard_ps (λ e. refl) refl) z2
    first2 = parts.first-part last1 stays g moves heard_ps (λ e. refl) refl

    abbrev c2 : Change
    c2 = parts.taking_last last1 stays g moves heard_ps (λ e. refl) refl

    last2 : Changes z2 c2 m
    last2 = parts.last-part last1 stays g moves heard_ps (λ e. refl) refl

    links3 : AreLinksOf z2 next
    links3 = moves-links first2 next refl (λ e. refl) below sent both2 i right2 links2 is.setting.few

    right3 : AreRight i z2 next
    right3 = moves-right first2 next refl (λ e. refl) below sent both2 i right2 links2 is.setting.few

    -- ---- and the end learns

    z2-entry : (e : EndId) → z2.entry k e ≡ y2 e
    z2-entry e = ap (λ a. if a then z1.entry k e else z1.entry k e) (eq-eqb k k refl) ∙ z1-entry e

    here2 : z2.entry k to ≡ entry.Here u
    here2 = z2-entry to ∙ ap (λ a. if a then entry.Here u else x1.entry k to) (end_eq-refl to)

    own2 : (e : EndId) → IsOfEnd e (z2.entry k e)
    own2 e = subst (IsOfEnd e) (sym (z2-entry e)) (by (end_eq to e) refl)
      where
        by : (a : Bool) → end_eq to e ≡ a → IsOfEnd e (if a then entry.Here u else x1.entry k e)
        by true same = view-end ∙ end_eq-same to e same
        by false apart = subst (IsOfEnd e) (sym (x1-entry e)) ((settles-sound p k made (length s.homes) table ms below-home coming (is.setting.sound k)).own e)

    table2 : IsTable (length s.made) next.ends k (z2.entry k)
    table2 = record { below = below; own = own2; names = right3.named.entries k; marks = λ e l stands. (right3.marked e).destroyed k l stands; both = both2 }

    learns : IsStill (length s.made) next.ends (z2.entry k) (hears u at hops heard_ps) × IsHearing k (z2.entry k) (packet.Moved to at hops) (hears u at hops heard_ps)
    learns =
        learns-so (length s.made) next.ends k (z2.entry k) table2 (packet.Moved to at hops) to at hops u (refl, refl, refl) (lt-ltb at (length s.made) (at-below ready1))
        (service2.kept.made to ∙ sym (is.service.kept.made to) ∙ ap (λ z. is_made z) o.owned) here2

    quiet2 : IsQuiet (length s.made) next.ends z2 c2
    quiet2 = record { kernel = below; entry = learns.0.entry; names = learns.0.names; taken = refl; sent = learns.0.sent }

    learning2 : IsLearning z2 c2
    learning2 = record { view = learns.1.view; here = learns.1.here; hints = λ e m l had has. by e m l (learns.1.hints e m l had has); sent = learns.1.sent }
      where
        by : (e : EndId) (m l : MovingPicture) → (l.hint ≡ m.hint) ⊎ (IsNews e l.hint.0 l.hint.1 (packet.Moved to at hops) × (m.hint.1 < l.hint.1)) → (l.hint ≡ m.hint) ⊎ (IsTaken c2 (IsNews e l.hint.0 l.hint.1) × (m.hint.1 < l.hint.1))
        by e m l (inl same) = inl same
        by e m l (inr new) = inr (record { from = from; packet = news to at hops (without_values q); taken = refl; is = new.0 }, new.1)

    links-then : AreLinksOf m next
    links-then = links-still last2 next quiet2 links3

    right-then : AreRight (i + 1) m next
    right-then = learning-right last2 next quiet2 learning2 i right3 links3 is.setting.few

    -- ---- the table

    sound-then : IsSound k made (length s.homes) (λ e. does.entry e (table e))
    sound-then =
        put-table-sound k made (length s.homes) y1 (λ e. does.entry e (table e)) to v last (settles-sound p k made (length s.homes) table ms below-home coming (is.setting.sound k)) (sym (x1-entry to) ∙ here1)
        (record { end = learned-end at hops v.value; holder = refl; idle = λ idle. absurd (asked-busy r v idle asked); message = inl refl }) (λ e. refl)

  parcel-receives : Goes i w s (Takes k from)
  parcel-receives = by late refl
    where
      by : (b : Bool) → late ≡ b → Goes i w s (Takes k from)
      by true is_late =
          answered-goes i w s is k from q does p (answer.Refused cause.Late) (report ∷ []) (happened (answer.Refused cause.Late ∷ []) (ap (λ a. if a then answer.Refused cause.Late ∷ [] else []) is_late) tt) next.ends next.process (step.Take f n p late) refl stepped
          (links-then (answer.Refused cause.Late ∷ []) (ap (λ a. if a then answer.Refused cause.Late ∷ [] else []) is_late) tt) (right-then (answer.Refused cause.Late ∷ []) (ap (λ a. if a then answer.Refused cause.Late ∷ [] else []) is_late) tt)
          (sound-then (answer.Refused cause.Late ∷ []) (ap (λ a. if a then answer.Refused cause.Late ∷ [] else []) is_late) tt) o.home below-home (took-another s to n p message right.matched right.number o.owned receives)
          (took-own s to n p message right.matched right.number o.owned receives ∙ ap (λ a. record { phase = if a then phase.Running else (s.process p.0).phase; reports = (s.process p.0).reports ++ (report ∷ []) }) (cancels ∙ is_late))
      by false in_time =
          reported-goes i w s is k from q does p report [] (happened [] (ap (λ a. if a then answer.Refused cause.Late ∷ [] else []) in_time) tt) next.ends next.process (step.Take f n p late) refl stepped
          (links-then [] (ap (λ a. if a then answer.Refused cause.Late ∷ [] else []) in_time) tt) (right-then [] (ap (λ a. if a then answer.Refused cause.Late ∷ [] else []) in_time) tt)
          (sound-then [] (ap (λ a. if a then answer.Refused cause.Late ∷ [] else []) in_time) tt) o.home below-home (took-another s to n p message right.matched right.number o.owned receives)
          (took-own s to n p message right.matched right.number o.owned receives ∙ ap (λ a. record { phase = if a then phase.Running else (s.process p.0).phase; reports = (s.process p.0).reports ++ (report ∷ []) }) (cancels ∙ in_time))

-- a parcel whose end is here and has started the receive that it is for
pub parcel-taken-goes : (i : ℕ) (w : World) (s : State) → Invariant i w s → (k from stamp : ℕ) (to : EndId) (n r at hops : ℕ) (bytes : List ℕ) (ms : List MovingPicture) (others : List Picture)
    → w.packets from k ≡ record { stamp = stamp; what = packet.Parcel to n r at hops bytes ms } ∷ others → IsHereAnd ((w.kernel k).table to) (λ v. IsAskedAs r v.inward) → Goes i w s (Takes k from)
parcel-taken-goes i w s is k from stamp to n r at hops bytes ms others there meets =
    let v = there-here ((w.kernel k).table to) (λ v. IsAskedAs r v.inward) meets in
    let o = busy-owned is k to v.0 v.1 (λ idle. asked-busy r v.0 idle v.2) in
    let same : v.0 ≡ o.view = some-same v.0 o.view (ap here (sym v.1 ∙ o.here)) in
    parcel-receives i w s is k from stamp to n r at hops bytes ms others there o (subst (λ (z : HereView). IsAskedAs r z.inward) same v.2)

asked-so : (r : ℕ) (x : KernelInward) → is_asked r x ≡ true → IsAskedAs r x
asked-so r (kernel_inward.Posted a) is = eqb-true a r is
asked-so r (kernel_inward.Withdrawing a) is = eqb-true a r is
asked-so r kernel_inward.Idle is = absurd (true≢false (sym is))
asked-so r kernel_inward.Unreported is = absurd (true≢false (sym is))

-- a parcel that meets a receive at its kernel, as the rule of parcels tests it
pub parcel-asked-goes : (i : ℕ) (w : World) (s : State) → Invariant i w s → (k from stamp : ℕ) (to : EndId) (n r at hops : ℕ) (bytes : List ℕ) (ms : List MovingPicture) (others : List Picture)
    → w.packets from k ≡ record { stamp = stamp; what = packet.Parcel to n r at hops bytes ms } ∷ others → (v : HereView) → asks r ((w.kernel k).table to) ≡ Some v → Goes i w s (Takes k from)
parcel-asked-goes i w s is k from stamp to n r at hops bytes ms others there v found = parcel-taken-goes i w s is k from stamp to n r at hops bytes ms others there (by ((w.kernel k).table to) found)
  where
    by : (y : Entry) → asks r y ≡ Some v → IsHereAnd y (λ u. IsAskedAs r u.inward)
    by (entry.Here u) is = one (is_asked r u.inward) refl is
      where
        one : (b : Bool) → is_asked r u.inward ≡ b → (if b then Some u else None) ≡ Some v → IsAskedAs r u.inward
        one true told is = asked-so r u.inward told
        one false told is = absurd cc
    by entry.Nothing is = absurd cc
    by (entry.Left there hops) is = absurd cc
    by (entry.Destroyed m) is = absurd cc
