-- The taking of any packet keeps all that is true of the traces of ends.
use Rattle.std.proofs.Common.{◌≡◌, ◌≢◌, ◌⊎◌, inl, inr, ℕ, ◌^◌, ◌<◌, ◌≤◌, Bool, true, false, true≢false, nat_eq, nat_le, nat_lt, if◌then◌else◌, List, [], ◌∷◌, ◌++◌, map, length, Option, Some, None, refl, sym, ap, subst, ◌∙◌, ltb-true}
use Rattle.std.specs.List.{AllByRecursion}
use Rattle.charlotte_calls.specs.Names.{opposite}
use Rattle.charlotte_calls.specs.declared.calls.Answer.{Answer}
use Rattle.charlotte_calls.specs.declared.calls.Answer.TheVariants as answer
use Rattle.charlotte_calls.specs.declared.calls.Cause.TheVariants as cause
use Rattle.charlotte_calls.specs.declared.calls.Report.{Report}
use Rattle.charlotte_calls.specs.declared.calls.ServiceStep.{ServiceStep}
use Rattle.charlotte_calls.specs.declared.calls.ServiceStep.TheVariants as step
use Rattle.charlotte_calls.specs.declared.names.EndId.{EndId}
use Rattle.charlotte_calls.specs.declared.names.Outcome.TheVariants as outcome
use Rattle.charlotte_calls.specs.declared.names.Pid.{Pid}
use Rattle.charlotte_packets.specs.declared.picture.MovingPicture.{MovingPicture}
use Rattle.charlotte_packets.specs.declared.picture.Picture.{Picture}
use Rattle.charlotte_packets.specs.declared.picture.PictureWhat.{PictureWhat}
use Rattle.charlotte_packets.specs.declared.picture.PictureWhat.TheVariants as packet
use Rattle.end_table.proofs.EndEq.{end_eq-refl}
use Rattle.end_table.specs.Place.{end_eq}
use Rattle.end_table.specs.Table.{IfHere, IsIdle, IsOfEnd}
use Rattle.end_table.specs.declared.entry.Entry.{Entry}
use Rattle.end_table.specs.declared.entry.Entry.TheVariants as entry
use Rattle.end_table.specs.declared.entry.HereView.{HereView}
use Rattle.end_table.specs.declared.entry.Holder.{Holder}
use Rattle.end_table.specs.declared.entry.Holder.TheVariants as holder
use Rattle.end_table.specs.declared.entry.Inward.{Inward}
use Rattle.end_table.specs.declared.entry.Inward.TheVariants as inward
use Rattle.end_table.specs.declared.entry.Outward.{Outward}
use Rattle.end_table.specs.declared.entry.Outward.TheVariants as outward
use Rattle.kernel_effects.specs.Actions.{cancel_notice, ends_arrivals, receive_notice, send_notice}
use Rattle.kernel_effects.specs.Effect.{Effect, for_holder, nothing, sent}
use Rattle.kernel_effects.specs.Rows.{back_effect, back_steps, completes_effect, frees_effect, gone_effect, parcel_effect, receives_effect, returns_effect, returns_first_effect, row_effect, sends_back_effect, take_steps, taken_effect, unwanted_effect, unwanted_here_effect}
use Rattle.kernel_outcomes.proofs.Sound.{arriving-all, passing-all}
use Rattle.kernel_outcomes.specs.Closing.{AtMostOne, told}
use Rattle.kernel_sound.proofs.Parcels.{asks-here, awaits-here}
use Rattle.kernel_sound.proofs.Values.{AreComing}
use Rattle.kernel_sound.specs.Sound.{IsHeldWell, addressee}
use Rattle.kernel_step.specs.Actions.{is_withdrawing, receive_report, send_report}
use Rattle.kernel_step.specs.Kernel.{process_of}
use Rattle.kernel_step.specs.Rows.{arriving, asks, awaits, ends_in, is_here, passing}
use Rattle.kernel_world.specs.World.{Takes, World, happens}
use Rattle.service_step.specs.Ends.{is_living, returns}
use Rattle.service_step.specs.Run.{IsRunFrom, state_after}
use Rattle.service_step.specs.State.{State}
use Rattle.service_step.specs.Steps.{IsServiceStep}
use Rattle.service_step.specs.declared.state.End.{End}
use Rattle.service_step.specs.declared.state.Outward.TheVariants as service_outward
use Rattle.service_step.specs.declared.state.Place.TheVariants as place
use Rattle.theorem_effects.proofs.Allowed.{are-oldest, takes-allowed}
use Rattle.theorem_effects.specs.Change.{Change, Happens}
use Rattle.theorem_effects.specs.Events.{taking}
use Rattle.trace_dropping.proofs.Comes.{values-come}
use Rattle.trace_dropping.proofs.Owned.{busy-owned}
use Rattle.theorem_meaning.proofs.Ends.{opposite-twice}
use Rattle.theorem_meaning.proofs.Goes.{Goes}
use Rattle.theorem_meaning.specs.Fields.{At, IsAsking, value_of}
use Rattle.theorem_meaning.specs.Invariant.{Invariant, is_message_of}
use Rattle.theorem_meaning.specs.Packets.{Links, links_of}
use Rattle.theorem_take_answer.proofs.Meets.{IsOwnedAt}
use Rattle.trace_dropping.proofs.Unmet.{back-meets}
use Rattle.theorem_take_silent.proofs.Alike.{some-same}
use Rattle.theorem_take_silent.proofs.Places.{here-living}
use Rattle.trace_dropping.proofs.Erased.{erased-traced}
use Rattle.trace_dropping.proofs.Forget.{forget-traced}
use Rattle.trace_dropping.proofs.Gone.{dead-gone-traced}
use Rattle.trace_dropping.proofs.Known.{known-traced}
use Rattle.trace_dropping.proofs.Takings.{chosen, dropped-traced, passed-over, passed-traced}
use Rattle.trace_dropping.specs.Calm.{AreAsOpen, IsDropped, IsNotWithdrawn}
use Rattle.trace_dropping.proofs.Dropped.{dropped, dropped-traced as back-dropped-traced, returns-dropped}
use Rattle.trace_dropping.proofs.Marks.{moved-mark-traced}
use Rattle.trace_dropping.proofs.First.{first-returned-traced}
use Rattle.trace_dropping.proofs.Passed.{passed-traced as went-back-traced}
use Rattle.trace_dropping.proofs.Taken.{received-traced, returned-traced}
use Rattle.trace_law.proofs.Tame.{IsTame, forget-tame, goneseen-tame, known-tame, moved-tame, unwant-tame, want-tame}
use Rattle.trace_dropping.proofs.Learns.{IsUnsent, completed-traced, freed-traced, kept-traced, moved-traced, served-traced, voided-traced}
use Rattle.trace_steps.proofs.Notice.{noticed-traced, noticing}
use Rattle.trace_steps.specs.Closing.{IsDying, aware}
use Rattle.trace_matching.proofs.Wants.{want-matched-traced}
use Rattle.trace_meaning.specs.Traces.{AreTraced}
use Rattle.trace_steps.proofs.Same.{same-traced}
use Rattle.trace_steps.proofs.Steps.{led, plain-append, quiet-append, reports-plain, run-open}
use Rattle.trace_steps.proofs.Words.{as-open-on, aware-dying, notices-aware, returns-aware, returns-open}
use Rattle.trace_steps.specs.Steps.{AreQuiet, IsPlainStep}

-- plain steps are quiet
quiet-plain : (s : State) (xs : List ServiceStep) → AllByRecursion IsPlainStep xs → AreQuiet s xs
quiet-plain s xs plain = quiet-append s [] xs tt plain

nobody : (h : Holder) → ◌≡◌ {A = List (Pid × Report)} [] (for_holder h [])
nobody (holder.Owner p) = refl
nobody (holder.EnclosedIn on) = refl

unanswered : (h : Holder) → ◌≡◌ {A = List (Pid × Answer)} [] (for_holder h [])
unanswered (holder.Owner p) = refl
unanswered (holder.EnclosedIn on) = refl

-- a message that is taken is plain to the service
take-plain : (e : EndId) (n : ℕ) (late : Bool) (h : Holder) → AllByRecursion IsPlainStep (take_steps e n late h)
take-plain e n late (holder.Owner p) = (tt, tt)
take-plain e n late (holder.EnclosedIn on) = tt

late-one : (a : Bool) → AtMostOne (if a then answer.Refused cause.Late ∷ [] else [])
late-one true = tt
late-one false = tt

cancel-one : (i : Inward) → AtMostOne (cancel_notice i)
cancel-one inward.Idle = tt
cancel-one (inward.Posted w) = tt
cancel-one (inward.Withdrawing w) = tt
cancel-one inward.Unreported = tt

module _ (i : ℕ) (w : World) (s : State) (is : Invariant i w s) (room : i < 2 ^ 31) (k from stamp : ℕ) (others : List Picture) (goes : Goes i w s (Takes k from)) (traced : AreTraced (links_of w) s.ends) where
  abbrev l : Links
  l = links_of w

  abbrev u : Links
  u = links_of (happens w (Takes k from))

  abbrev now : EndId → End
  now = (state_after s goes.part).ends

  abbrev table : EndId → Entry
  table = (w.kernel k).table

  abbrev made : ℕ
  made = (w.kernel k).made

  abbrev any : Pid
  any = record { 0 = 0 }

  abbrev Goal : Type 0
  Goal = AreTraced u now

  module _ (what : PictureWhat) (there : w.packets from k ≡ record { stamp = stamp; what = what } ∷ others) where
    abbrev q : Picture
    q = record { stamp = stamp; what = what }

    -- what the taking does, and who is told
    record HasHappened (f : Effect) : Type 0 where
      p : Pid
      given : List Answer
      rs : List Report
      happened : Happens w (Takes k from) (taking w k from q f p given rs)

    silent : (f : Effect) → row_effect k made from table what ≡ f → f.answers ≡ [] → f.reports ≡ [] → HasHappened f
    silent f row answers reports = record { p = any; given = []; rs = []; happened = takes-allowed is k from q others there f any [] [] row tt tt answers reports }

    -- an end that is busy is owned, and its owner is told
    held : (f : Effect) → row_effect k made from table what ≡ f → (to : EndId) (v : HereView) → table to ≡ entry.Here v → (IsIdle v → ⊥) → (given : List Answer) (rs : List Report) → f.answers ≡ for_holder v.holder given → f.reports ≡ for_holder v.holder rs → AtMostOne given
        → HasHappened f
    held f row to v at busy given rs answers reports one =
        record {
          p = o.p;
          given = given;
          rs = rs;
          happened =
              takes-allowed is k from q others there f o.p given rs row one (are-oldest is k o.p rs below o.home) (answers ∙ ap (λ h. for_holder h given) owner) (reports ∙ ap (λ h. for_holder h rs) owner);
        }
      where
        o : IsOwnedAt w s k to
        o = busy-owned is k to v at busy

        owner : v.holder ≡ holder.Owner o.p
        owner = ap (λ (z : HereView). z.holder) (here-same v o.view (sym at ∙ o.here)) ∙ o.holder
          where
            here-same : (y z : HereView) → entry.Here y ≡ entry.Here z → y ≡ z
            here-same y z same = cc

        below : o.p.0 < length s.homes
        below = subst (IsHeldWell (length s.homes) v) owner (subst (λ z. IfHere z (λ v. IsHeldWell (length s.homes) v v.holder)) at ((is.setting.sound k).held to))

    -- the ends of the service then
    steps-of : (f : Effect) (h : HasHappened f) → map (λ made. made.0) goes.part ≡ f.steps ++ map (step.Report h.p) (told (process_of h.p (w.kernel k)).phase h.given h.rs)
    steps-of f h = goes.steps ∙ h.happened.steps

    opened : (f : Effect) → HasHappened f → AllByRecursion IsPlainStep f.steps → AreAsOpen s.ends now
    opened f h plain =
        run-open s goes.part is.service goes.run
        (subst (AreQuiet s) (sym (steps-of f h)) (quiet-append s f.steps (map (step.Report h.p) (told (process_of h.p (w.kernel k)).phase h.given h.rs)) (quiet-plain s f.steps plain) (reports-plain h.p (told (process_of h.p (w.kernel k)).phase h.given h.rs))))

    tamely : IsTame (row_effect k made from table what) → AreAsOpen s.ends now
    tamely is_tame = opened (row_effect k made from table what) (silent (row_effect k made from table what) refl is_tame.answers is_tame.reports) is_tame.plain

    -- or as one step leaves them
    by-step : (P : (EndId → End) → Type 0) → ((t v : EndId → End) → AreAsOpen t v → P t → P v) → (f : Effect) (h : HasHappened f) (x : ServiceStep) → f.steps ≡ x ∷ [] → ((t : State) → IsServiceStep s x t → P t.ends) → P now
    by-step P on f h x one each =
        led P on s goes.part x (map (step.Report h.p) (told (process_of h.p (w.kernel k)).phase h.given h.rs)) is.service goes.run
        (steps-of f h ∙ ap (λ xs. xs ++ map (step.Report h.p) (told (process_of h.p (w.kernel k)).phase h.given h.rs)) one) (reports-plain h.p (told (process_of h.p (w.kernel k)).phase h.given h.rs)) each

  abbrev First : PictureWhat → Type 0
  First what = w.packets from k ≡ record { stamp = stamp; what = what } ∷ others

  abbrev at : PictureWhat → Picture
  at what = record { stamp = stamp; what = what }

  -- a packet that is dropped, and one that is passed on
  drops : (what : PictureWhat) (there : First what) → AreAsOpen s.ends now → IsDropped what (table (addressee what)) → Goal
  drops what there as_open is_dropped = dropped-traced i w s is k from (at what) others there now as_open traced is_dropped

  by-view : (v : HereView) (n : ℕ) → (v.value.dead ≡ true → Goal) → (v.value.dead ≡ false → nat_lt v.value.served n ≡ false → Goal) → (v.value.dead ≡ false → nat_lt v.value.served n ≡ true → Goal) → Goal
  by-view v n dead served unserved = of_dead v.value.dead refl
    where
      of_served : v.value.dead ≡ false → (b : Bool) → nat_lt v.value.served n ≡ b → Goal
      of_served alive true low = unserved alive low
      of_served alive false old = served alive old

      of_dead : (b : Bool) → v.value.dead ≡ b → Goal
      of_dead true is_dead = dead is_dead
      of_dead false alive = of_served alive (nat_lt v.value.served n) refl

  -- ---- packets that answer nobody

  takes-want : (to : EndId) (n j h : ℕ) (there : First (packet.Want to n j h)) → (y : Entry) → table to ≡ y → Goal
  takes-want to n j h there = by
    where
      as_open : AreAsOpen s.ends now
      as_open = tamely (packet.Want to n j h) there (want-tame k table to n j h (table to))

      by : (z : Entry) → table to ≡ z → Goal
      by entry.Nothing here = drops (packet.Want to n j h) there as_open (subst (IsDropped (packet.Want to n j h)) (sym here) (tt, tt))
      by (entry.Destroyed m) here = drops (packet.Want to n j h) there as_open (subst (IsDropped (packet.Want to n j h)) (sym here) (tt, tt))
      by (entry.Left a g) here = passed-traced i w s is k from (at (packet.Want to n j h)) others there now as_open traced tt a g here
      by (entry.Here v) here =
          by-view v n (λ dead. drops (packet.Want to n j h) there as_open (subst (IsDropped (packet.Want to n j h)) (sym here) (dead, tt)))
          (λ alive old. served-traced i w s is k from stamp to j h others v here now as_open traced n (packet.Want to n j h) (refl, refl, refl, refl) there alive old)
          (λ alive low. unserved alive low v.outward refl)
        where
          unserved : v.value.dead ≡ false → nat_lt v.value.served n ≡ true → (o : Outward) → v.outward ≡ o → Goal
          unserved alive low (outward.Waiting m bytes xs) waits = want-matched-traced i w s is room k from stamp to n j h others there v here alive (ltb-true v.value.served n low) m bytes xs waits now as_open traced
          unserved alive low outward.Idle none = kept-traced i w s is k from stamp to j h others v here now as_open traced n there alive low (subst IsUnsent (sym none) tt)
          unserved alive low (outward.Matched m) none = kept-traced i w s is k from stamp to j h others v here now as_open traced n there alive low (subst IsUnsent (sym none) tt)
          unserved alive low outward.Unreported none = kept-traced i w s is k from stamp to j h others v here now as_open traced n there alive low (subst IsUnsent (sym none) tt)

  takes-unwant : (to : EndId) (n j h : ℕ) (there : First (packet.Unwant to n j h)) → (y : Entry) → table to ≡ y → Goal
  takes-unwant to n j h there = by
    where
      as_open : AreAsOpen s.ends now
      as_open = tamely (packet.Unwant to n j h) there (unwant-tame k to n j h (table to))

      by : (z : Entry) → table to ≡ z → Goal
      by entry.Nothing here = drops (packet.Unwant to n j h) there as_open (subst (IsDropped (packet.Unwant to n j h)) (sym here) (tt, tt))
      by (entry.Destroyed m) here = drops (packet.Unwant to n j h) there as_open (subst (IsDropped (packet.Unwant to n j h)) (sym here) (tt, tt))
      by (entry.Left a g) here = passed-traced i w s is k from (at (packet.Unwant to n j h)) others there now as_open traced tt a g here
      by (entry.Here v) here =
          by-view v n (λ dead. drops (packet.Unwant to n j h) there as_open (subst (IsDropped (packet.Unwant to n j h)) (sym here) (dead, tt)))
          (λ alive old. served-traced i w s is k from stamp to j h others v here now as_open traced n (packet.Unwant to n j h) (refl, refl, refl, refl) there alive old)
          (λ alive low. voided-traced i w s is k from stamp to j h others v here now as_open traced n there alive low)

  takes-moved : (to : EndId) (j h : ℕ) (there : First (packet.Moved to j h)) → (y : Entry) → table to ≡ y → Goal
  takes-moved to j h there = by
    where
      as_open : AreAsOpen s.ends now
      as_open = tamely (packet.Moved to j h) there (moved-tame k to j h (table to))

      by : (z : Entry) → table to ≡ z → Goal
      by entry.Nothing here = drops (packet.Moved to j h) there as_open (subst (IsDropped (packet.Moved to j h)) (sym here) (tt, tt, tt))
      by (entry.Left a g) here = passed-traced i w s is k from (at (packet.Moved to j h)) others there now as_open traced tt a g here
      by (entry.Destroyed m) here = same-traced u s.ends now as_open (moved-mark-traced i w s is k from stamp to j h others there m here traced)
      by (entry.Here v) here = of_dead v.value.dead refl
        where
          of_dead : (b : Bool) → v.value.dead ≡ b → Goal
          of_dead true dead = drops (packet.Moved to j h) there as_open (subst (IsDropped (packet.Moved to j h)) (sym here) (dead, tt, tt))
          of_dead false alive = moved-traced i w s is k from stamp to j h others v here now as_open traced there alive

  takes-known : (to : EndId) (h : ℕ) (there : First (packet.Known to h)) → (y : Entry) → table to ≡ y → Goal
  takes-known to h there = by
    where
      as_open : AreAsOpen s.ends now
      as_open = tamely (packet.Known to h) there (known-tame k h (table to))

      by : (z : Entry) → table to ≡ z → Goal
      by entry.Nothing here = drops (packet.Known to h) there as_open (subst (IsDropped (packet.Known to h)) (sym here) tt)
      by (entry.Left a g) here = drops (packet.Known to h) there as_open (subst (IsDropped (packet.Known to h)) (sym here) tt)
      by (entry.Destroyed m) here = drops (packet.Known to h) there as_open (subst (IsDropped (packet.Known to h)) (sym here) tt)
      by (entry.Here v) here = of_dead v.value.dead refl
        where
          of_hops : v.value.dead ≡ false → (b : Bool) → nat_eq v.value.hops h ≡ b → Goal
          of_hops alive true current = same-traced u s.ends now as_open (known-traced i w s is k from stamp to h others there v here alive current traced)
          of_hops alive false old = drops (packet.Known to h) there as_open (subst (IsDropped (packet.Known to h)) (sym here) (inr old))

          of_dead : (b : Bool) → v.value.dead ≡ b → Goal
          of_dead true dead = drops (packet.Known to h) there as_open (subst (IsDropped (packet.Known to h)) (sym here) (inl dead))
          of_dead false alive = of_hops alive (nat_eq v.value.hops h) refl

  takes-forget : (to : EndId) (h : ℕ) (there : First (packet.Forget to h)) → (y : Entry) → table to ≡ y → Goal
  takes-forget to h there = by
    where
      as_open : AreAsOpen s.ends now
      as_open = tamely (packet.Forget to h) there (forget-tame to h (table to))

      by : (z : Entry) → table to ≡ z → Goal
      by entry.Nothing here = drops (packet.Forget to h) there as_open (subst (IsDropped (packet.Forget to h)) (sym here) tt)
      by (entry.Here v) here = drops (packet.Forget to h) there as_open (subst (IsDropped (packet.Forget to h)) (sym here) tt)
      by (entry.Destroyed m) here = drops (packet.Forget to h) there as_open (subst (IsDropped (packet.Forget to h)) (sym here) tt)
      by (entry.Left a g) here = of_hops (nat_le g h) refl
        where
          of_hops : (b : Bool) → nat_le g h ≡ b → Goal
          of_hops true few = same-traced u s.ends now as_open (forget-traced i w s is k from stamp to h others there a g here few traced)
          of_hops false newer = drops (packet.Forget to h) there as_open (subst (IsDropped (packet.Forget to h)) (sym here) newer)

  takes-goneseen : (to : EndId) (there : First (packet.GoneSeen to)) → (y : Entry) → table to ≡ y → Goal
  takes-goneseen to there = by
    where
      as_open : AreAsOpen s.ends now
      as_open = tamely (packet.GoneSeen to) there (goneseen-tame k (table to))

      by : (z : Entry) → table to ≡ z → Goal
      by entry.Nothing here = drops (packet.GoneSeen to) there as_open (subst (IsDropped (packet.GoneSeen to)) (sym here) tt)
      by (entry.Here v) here = drops (packet.GoneSeen to) there as_open (subst (IsDropped (packet.GoneSeen to)) (sym here) tt)
      by (entry.Left a g) here = drops (packet.GoneSeen to) there as_open (subst (IsDropped (packet.GoneSeen to)) (sym here) tt)
      by (entry.Destroyed m) here = same-traced u s.ends now as_open (erased-traced i w s is k from (at (packet.GoneSeen to)) others there tt m here traced)

  -- ---- packets that answer a Cancel, or report

  takes-unwanted : (to : EndId) (n j h : ℕ) (there : First (packet.Unwanted to n j h)) → (y : Entry) → table to ≡ y → Goal
  takes-unwanted to n j h there = by
    where
      drop : row_effect k made from table (packet.Unwanted to n j h) ≡ nothing → IsDropped (packet.Unwanted to n j h) (table to) → Goal
      drop row is_dropped = drops (packet.Unwanted to n j h) there (opened (packet.Unwanted to n j h) there nothing (silent (packet.Unwanted to n j h) there nothing row refl refl) tt) is_dropped

      by : (z : Entry) → table to ≡ z → Goal
      by entry.Nothing here = drop (ap (unwanted_effect k n j h) here) (subst (IsDropped (packet.Unwanted to n j h)) (sym here) tt)
      by (entry.Left a g) here = drop (ap (unwanted_effect k n j h) here) (subst (IsDropped (packet.Unwanted to n j h)) (sym here) tt)
      by (entry.Destroyed m) here = drop (ap (unwanted_effect k n j h) here) (subst (IsDropped (packet.Unwanted to n j h)) (sym here) tt)
      by (entry.Here v) here = of_inward v.inward refl
        where
          row : (a : Inward) → v.inward ≡ a → row_effect k made from table (packet.Unwanted to n j h) ≡ unwanted_here_effect k n j h v a
          row a same = ap (unwanted_effect k n j h) here ∙ ap (unwanted_here_effect k n j h v) same

          not-withdrawn : (a : Inward) → v.inward ≡ a → IsNotWithdrawn n a → IsDropped (packet.Unwanted to n j h) (table to)
          not-withdrawn a same is_not = subst (IsDropped (packet.Unwanted to n j h)) (sym here) (subst (IsNotWithdrawn n) (sym same) is_not)

          of_number : (a : ℕ) → v.inward ≡ inward.Withdrawing a → (b : Bool) → nat_eq a n ≡ b → Goal
          of_number a same false other = drop (row (inward.Withdrawing a) same ∙ passed-over (nat_eq a n) (frees_effect k j h v) nothing other) (not-withdrawn (inward.Withdrawing a) same other)
          of_number a same true its = freed-traced i w s is k from stamp to j h others v here now (opened (packet.Unwanted to n j h) there (frees_effect k j h v) does (tt, tt)) traced n there does.p does.given does.rs does.happened
            where
              does : HasHappened (packet.Unwanted to n j h) there (frees_effect k j h v)
              does =
                  held (packet.Unwanted to n j h) there (frees_effect k j h v) (row (inward.Withdrawing a) same ∙ chosen (nat_eq a n) (frees_effect k j h v) nothing its) to v here
                  (λ idle. absurd (let differ : inward.Withdrawing a ≡ inward.Idle = sym same ∙ idle.inward in cc)) (answer.Ok ∷ []) [] refl (nobody v.holder) tt

          of_inward : (a : Inward) → v.inward ≡ a → Goal
          of_inward inward.Idle same = drop (row inward.Idle same) (not-withdrawn inward.Idle same tt)
          of_inward (inward.Posted a) same = drop (row (inward.Posted a) same) (not-withdrawn (inward.Posted a) same tt)
          of_inward inward.Unreported same = drop (row inward.Unreported same) (not-withdrawn inward.Unreported same tt)
          of_inward (inward.Withdrawing a) same = of_number a same (nat_eq a n) refl

  takes-taken : (to : EndId) (n j h : ℕ) (there : First (packet.Taken to n j h)) → (o : Option HereView) → awaits n (table to) ≡ o → Goal
  takes-taken to n j h there None none =
      drops (packet.Taken to n j h) there (opened (packet.Taken to n j h) there nothing (silent (packet.Taken to n j h) there nothing (ap (taken_effect k n j h) none) refl refl) tt) none
  takes-taken to n j h there (Some v) found =
      completed-traced i w s is k from stamp to j h others v here now (opened (packet.Taken to n j h) there (completes_effect k n j h v) does (tt, tt)) traced n there does.p does.given does.rs does.happened
    where
      here : table to ≡ entry.Here v
      here = (awaits-here n (table to) v found).0

      does : HasHappened (packet.Taken to n j h) there (completes_effect k n j h v)
      does =
          held (packet.Taken to n j h) there (completes_effect k n j h v) (ap (taken_effect k n j h) found) to v here (awaits-here n (table to) v found).1 [] (send_report v.value.end outcome.Done [] ∷ []) (unanswered v.holder) refl
          tt

  module _ (to : EndId) (m n j h : ℕ) (bytes : List ℕ) (ms : List MovingPicture) (there : w.packets from k ≡ record { stamp = stamp; what = packet.Parcel to m n j h bytes ms } ∷ others) where
    abbrev parcel : PictureWhat
    parcel = packet.Parcel to m n j h bytes ms

    parcel-coming : AreComing k made table ms
    parcel-coming = values-come is k from (at parcel) others there (opposite to) (ap (λ a. end_eq a to) (opposite-twice to) ∙ end_eq-refl to) any

    takes-parcel : (o : Option HereView) → asks n (table to) ≡ o → Goal
    takes-parcel None none =
        went-back-traced i w s is room k from stamp to m n j h bytes ms others there happened now (opened parcel there (sends_back_effect k to m j ms) (record { p = any; given = []; rs = []; happened = happened }) tt) traced
      where
        row : row_effect k made from table parcel ≡ sends_back_effect k to m j ms
        row = ap (parcel_effect k made table to m j h bytes ms) none ∙ ap (sends_back_effect k to m j) (passing-all k made table ms parcel-coming)

        happened : Happens w (Takes k from) (taking w k from (at parcel) (sends_back_effect k to m j ms) any [] [])
        happened = takes-allowed is k from (at parcel) others there (sends_back_effect k to m j ms) any [] [] row tt tt refl refl
    takes-parcel (Some v) found =
        received-traced i w s is k from stamp to m others ms v here now (opened parcel there (receives_effect k m j h bytes ms v) does (take-plain v.value.end m (is_withdrawing v.inward) v.holder)) traced n j h bytes there does.p does.given does.rs
        does.happened
      where
        here : table to ≡ entry.Here v
        here = (asks-here n (table to) v found).0

        row : row_effect k made from table parcel ≡ receives_effect k m j h bytes ms v
        row = ap (parcel_effect k made table to m j h bytes ms) found ∙ ap (λ came. receives_effect k m j h bytes came v) (arriving-all k made v.holder table ms parcel-coming)

        does : HasHappened parcel there (receives_effect k m j h bytes ms v)
        does =
            held parcel there (receives_effect k m j h bytes ms v) row to v here (asks-here n (table to) v found).1 (if is_withdrawing v.inward then answer.Refused cause.Late ∷ [] else []) (receive_report v.value.end bytes (ends_in ms) ∷ [])
            refl refl (late-one (is_withdrawing v.inward))

  module _ (to : EndId) (n : ℕ) (ms : List MovingPicture) (there : w.packets from k ≡ record { stamp = stamp; what = packet.Back to n ms } ∷ others) where
    abbrev back : PictureWhat
    back = packet.Back to n ms

    back-coming : AreComing k made table ms
    back-coming = values-come is k from (at back) others there to (end_eq-refl to) any

    -- its end is destroyed, and so are those that it carries
    module _ (none : awaits n (table to) ≡ None) (dead : is_living (s.ends to).place ≡ false) where
      abbrev dropping : Effect
      dropping = record (ends_arrivals k ms) { steps = step.Back to n false ∷ [] }

      away : (y : Entry) → table to ≡ y → is_here y ≡ false
      away (entry.Here v) at_k = absurd (true≢false (sym (here-living (length s.made) l s.ends is.setting.few is.links.named is.links.marked is.stands.links.once to k v at_k) ∙ dead))
      away entry.Nothing at_k = refl
      away (entry.Left a g) at_k = refl
      away (entry.Destroyed m) at_k = refl

      back-row : row_effect k made from table back ≡ dropping
      back-row =
          ap (back_effect k made table from to n ms) none ∙ ap (λ ps. record (ends_arrivals k ps) { steps = back_steps to n (is_here (table to)) ps }) (passing-all k made table ms back-coming)
          ∙ ap (λ b. record (ends_arrivals k ms) { steps = back_steps to n b ms }) (away (table to) refl)

      back-happened : Happens w (Takes k from) (taking w k from (at back) dropping any [] [])
      back-happened = takes-allowed is k from (at back) others there dropping any [] [] back-row tt tt refl refl

      abbrev fallen : EndId → End
      fallen = dropped i w s is k from stamp to n ms others there dead (step.Back to n false ∷ []) back-happened traced

      fell : AreAsOpen fallen now
      fell =
          by-step back there (AreAsOpen fallen) (λ t v on is_so. as-open-on is_so on) dropping (record { p = any; given = []; rs = []; happened = back-happened }) (step.Back to n false) refl
          (λ t stepped. subst (λ (z : State). AreAsOpen fallen z.ends) (sym stepped.after) (returns-dropped i w s is k from stamp to n ms others there dead (step.Back to n false ∷ []) back-happened traced))

      falls : Goal
      falls = same-traced u fallen now fell (back-dropped-traced i w s is k from stamp to n ms others there dead (step.Back to n false ∷ []) back-happened traced)

    differ : (v : HereView) → None ≡ Some v → ⊥
    differ v same = cc

    takes-back : (o : Option HereView) → awaits n (table to) ≡ o → Goal
    takes-back None none = of_living (is_living (s.ends to).place) refl
      where
        of_living : (b : Bool) → is_living (s.ends to).place ≡ b → Goal
        of_living true lives = let meets = back-meets i w s is k from stamp to n ms others there lives in absurd (differ meets.0 (sym none ∙ meets.1))
        of_living false dead = falls none dead
    takes-back (Some v) found = of_dead v.value.dead refl
      where
        here : table to ≡ entry.Here v
        here = (awaits-here n (table to) v found).0

        lives : is_living (s.ends to).place ≡ true
        lives = here-living (length s.made) l s.ends is.setting.few is.links.named is.links.marked is.stands.links.once to k v here

        knows : v.value.dead ≡ (s.ends to).noticed
        knows = (is.links.counted to).dead (At k) v.value lives (ap value_of here)

        row : (b : Bool) → v.value.dead ≡ b → row_effect k made from table back ≡ (if b then returns_effect k to n ms v else returns_first_effect k from to n ms v)
        row b same =
            ap (back_effect k made table from to n ms) found ∙ ap (λ came. if v.value.dead then returns_effect k to n came v else returns_first_effect k from to n came v) (arriving-all k made v.holder table ms back-coming)
            ∙ ap (λ a. if a then returns_effect k to n ms v else returns_first_effect k from to n ms v) same

        knowing : v.value.dead ≡ true → HasHappened back there (returns_effect k to n ms v)
        knowing dead =
            held back there (returns_effect k to n ms v) (row true dead) to v here (awaits-here n (table to) v found).1 [] (send_report v.value.end outcome.Destroyed (ends_in ms) ∷ []) (unanswered v.holder) refl tt

        hearing : v.value.dead ≡ false → HasHappened back there (returns_first_effect k from to n ms v)
        hearing alive =
            held back there (returns_first_effect k from to n ms v) (row false alive) to v here (awaits-here n (table to) v found).1 (cancel_notice v.inward)
            (send_report v.value.end outcome.Destroyed (ends_in ms) ∷ receive_notice v.value.end v.inward) refl refl (cancel-one v.inward)

        of_dead : (b : Bool) → v.value.dead ≡ b → Goal
        of_dead true dead =
            let does = knowing dead in
            returned-traced i w s is k from stamp to n others ms v here now
            (by-step back there (AreAsOpen s.ends) (λ t v on is_so. as-open-on is_so on) (returns_effect k to n ms v) does (step.Back to n false) refl
            (λ t stepped. subst (λ (z : State). AreAsOpen s.ends z.ends) (sym stepped.after) (returns-open s is.service to lives (sym knows ∙ dead)))) traced there does.p does.given does.rs does.happened
        of_dead false alive =
            let does = hearing alive in
            first-returned-traced i w s is k from stamp to n others ms v here alive there does.p does.given does.rs does.happened now
            (by-step back there (AreAsOpen (aware to s.ends)) (λ t v on is_so. as-open-on is_so on) (returns_first_effect k from to n ms v) does (step.Back to n (is_withdrawing v.inward)) refl
            (λ t stepped. subst (λ (z : State). AreAsOpen (aware to s.ends) z.ends) (sym stepped.after) (returns-aware s is.service to lives (sym knows ∙ alive)))) traced

  module _ (to : EndId) (j : ℕ) (there : w.packets from k ≡ record { stamp = stamp; what = packet.Gone to j } ∷ others) where
    abbrev gone : PictureWhat
    gone = packet.Gone to j

    quietly : (f : Effect) → row_effect k made from table gone ≡ f → f.answers ≡ [] → f.reports ≡ [] → AllByRecursion IsPlainStep f.steps → AreAsOpen s.ends now
    quietly f row answers reports plain = opened gone there f (silent gone there f row answers reports) plain

    -- at an end that did not know of the death
    module _ (v : HereView) (here : table to ≡ entry.Here v) (alive : v.value.dead ≡ false) where
      abbrev notes : Effect
      notes = noticing i w s is k from stamp to j others there v here

      notes-row : row_effect k made from table gone ≡ notes
      notes-row = ap (gone_effect k to j) here ∙ passed-over v.value.dead (sent ((j, packet.GoneSeen (opposite v.value.end)) ∷ [])) notes alive

      told-one : (IsIdle v → ⊥) → HasHappened gone there notes
      told-one busy = held gone there notes notes-row to v here busy (cancel_notice v.inward) (send_notice v.value.end v.outward ++ receive_notice v.value.end v.inward) refl refl (cancel-one v.inward)

      told-all : (o : Outward) (a : Inward) → v.outward ≡ o → v.inward ≡ a → HasHappened gone there notes
      told-all outward.Idle inward.Idle is_o is_a =
          silent gone there notes notes-row (ap (λ z. for_holder v.holder (cancel_notice z)) is_a ∙ sym (unanswered v.holder))
          (ap (λ z. for_holder v.holder (send_notice v.value.end z ++ receive_notice v.value.end v.inward)) is_o ∙ ap (λ z. for_holder v.holder (receive_notice v.value.end z)) is_a ∙ sym (nobody v.holder))
      told-all outward.Idle (inward.Posted n) is_o is_a = told-one (λ idle. absurd (let differ : inward.Posted n ≡ inward.Idle = sym is_a ∙ idle.inward in cc))
      told-all outward.Idle (inward.Withdrawing n) is_o is_a = told-one (λ idle. absurd (let differ : inward.Withdrawing n ≡ inward.Idle = sym is_a ∙ idle.inward in cc))
      told-all outward.Idle inward.Unreported is_o is_a = told-one (λ idle. absurd (let differ : inward.Unreported ≡ inward.Idle = sym is_a ∙ idle.inward in cc))
      told-all (outward.Waiting n bytes xs) a is_o is_a = told-one (λ idle. absurd (let differ : outward.Waiting n bytes xs ≡ outward.Idle = sym is_o ∙ idle.outward in cc))
      told-all (outward.Matched n) a is_o is_a = told-one (λ idle. absurd (let differ : outward.Matched n ≡ outward.Idle = sym is_o ∙ idle.outward in cc))
      told-all outward.Unreported a is_o is_a = told-one (λ idle. absurd (let differ : outward.Unreported ≡ outward.Idle = sym is_o ∙ idle.outward in cc))

      does : HasHappened gone there notes
      does = told-all v.outward v.inward refl refl

      own : v.value.end ≡ to
      own = subst (IsOfEnd to) here ((is.setting.sound k).own to)

      lives : is_living (s.ends v.value.end).place ≡ true
      lives = here-living (length s.made) l s.ends is.setting.few is.links.named is.links.marked is.stands.links.once v.value.end k v (ap table own ∙ here)

      dying : IsDying s.ends now to
      dying =
          aware-dying to s.ends now
          (subst (λ z. AreAsOpen (aware z s.ends) now) own
          (by-step gone there (AreAsOpen (aware v.value.end s.ends)) (λ t v on is_so. as-open-on is_so on) notes does (step.Notice v.value.end (is_withdrawing v.inward)) refl
          (λ t stepped. subst (λ (z : State). AreAsOpen (aware v.value.end s.ends) z.ends) (sym stepped.after) (notices-aware s is.service v.value.end lives))))

      hears : Goal
      hears = noticed-traced i w s is k from stamp to j others there v here does.p does.given does.rs does.happened now dying traced

    takes-gone : (y : Entry) → table to ≡ y → Goal
    takes-gone entry.Nothing here = drops gone there (quietly nothing (ap (gone_effect k to j) here) refl refl tt) (subst (IsDropped gone) (sym here) tt)
    takes-gone (entry.Left a g) here = passed-traced i w s is k from (at gone) others there now (quietly (sent ((a, packet.Gone to j) ∷ [])) (ap (gone_effect k to j) here) refl refl tt) traced tt a g here
    takes-gone (entry.Destroyed m) here = same-traced u s.ends now (quietly (gone_effect k to j (entry.Destroyed m)) (ap (gone_effect k to j) here) refl refl tt) (erased-traced i w s is k from (at gone) others there tt m here traced)
    takes-gone (entry.Here v) here = of_dead v.value.dead refl
      where
        of_dead : (b : Bool) → v.value.dead ≡ b → Goal
        of_dead true dead =
            same-traced u s.ends now
            (quietly (sent ((j, packet.GoneSeen (opposite v.value.end)) ∷ [])) (ap (gone_effect k to j) here ∙ chosen v.value.dead (sent ((j, packet.GoneSeen (opposite v.value.end)) ∷ [])) (noticing i w s is k from stamp to j others there v here) dead) refl refl tt)
            (dead-gone-traced i w s is k from stamp to j others there v here dead traced)
        of_dead false alive = hears v here alive

  -- ---- any packet

  pub takes-traced : (what : PictureWhat) → w.packets from k ≡ record { stamp = stamp; what = what } ∷ others → AreTraced (links_of (happens w (Takes k from))) (state_after s goes.part).ends
  takes-traced (packet.Want to n j h) there = takes-want to n j h there (table to) refl
  takes-traced (packet.Unwant to n j h) there = takes-unwant to n j h there (table to) refl
  takes-traced (packet.Unwanted to n j h) there = takes-unwanted to n j h there (table to) refl
  takes-traced (packet.Parcel to m n j h bytes ms) there = takes-parcel to m n j h bytes ms there (asks n (table to)) refl
  takes-traced (packet.Taken to n j h) there = takes-taken to n j h there (awaits n (table to)) refl
  takes-traced (packet.Back to n ms) there = takes-back to n ms there (awaits n (table to)) refl
  takes-traced (packet.Gone to j) there = takes-gone to j there (table to) refl
  takes-traced (packet.Moved to j h) there = takes-moved to j h there (table to) refl
  takes-traced (packet.Known to h) there = takes-known to h there (table to) refl
  takes-traced (packet.Forget to h) there = takes-forget to h there (table to) refl
  takes-traced (packet.GoneSeen to) there = takes-goneseen to there (table to) refl
