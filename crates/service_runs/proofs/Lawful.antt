-- Every run of the link service is lawful.
use Rattle.std.proofs.Common.{◌≡◌, ℕ, Bool, true, false, true≢false, nat_eq, ◌&&◌, not, ◌⊎◌, inl, inr, if◌then◌else◌, length, Some, None, List, [], ◌∷◌, ◌++◌, append-nil, Contains, append_assoc, refl, sym, ap, subst, ◌∙◌, arith}
use Rattle.charlotte_calls.specs.Causes.{activity, cancel_causes, first_of, is_late}
use Rattle.charlotte_calls.specs.Names.{opposite}
use Rattle.charlotte_calls.specs.declared.calls.Report.{Report}
use Rattle.charlotte_calls.specs.declared.names.EndId.{EndId}
use Rattle.charlotte_calls.specs.declared.names.Outcome.TheVariants as outcome
use Rattle.charlotte_calls.specs.declared.names.Pid.{Pid}
use Rattle.charlotte_calls.specs.declared.names.Way.{Way}
use Rattle.charlotte_calls.specs.declared.names.Way.TheVariants as way
use Rattle.std.specs.List.{filter, flat_map}
use Rattle.charlotte_calls.specs.declared.calls.ServiceStep.{ServiceStep}
use Rattle.charlotte_calls.specs.declared.calls.ServiceStep.TheVariants as step
use Rattle.service_change.proofs.Counts.{and-true}
use Rattle.service_change.proofs.EndEq.{end_eq-refl}
use Rattle.service_lawful.specs.Consistent.{IsConsistent}
use Rattle.service_consistent.proofs.Laws.{consistent_after}
use Rattle.service_runs.proofs.Moves.{Move, completed, matched, over, sent, still, taken}
use Rattle.service_runs.proofs.MovesOfSteps.{complete-number, move, take-number}
use Rattle.service_runs.proofs.ReportsOfSteps.{IsOfTake, reports-from}
use Rattle.service_consistent.proofs.StepsOfMessages.{take-inward}
use Rattle.service_step.specs.Ends.{is_unreported_inward}
use Rattle.service_step.specs.Lawful.{AreRising, WasMatched, take_number}
use Rattle.service_step.specs.Run.{state_after}
use Rattle.service_step.specs.State.{State, receive_report}
use Rattle.service_step.specs.Steps.{IsServiceStep}
use Rattle.service_step.specs.declared.state.End.{End}
use Rattle.service_step.specs.declared.state.Inward.{Inward}
use Rattle.service_step.specs.declared.state.Inward.TheVariants as inward
use Rattle.service_step.specs.declared.state.Message.{Message}
use Rattle.service_step.specs.declared.state.Outward.{Outward}
use Rattle.service_step.specs.declared.state.Outward.TheVariants as outward
use Rattle.service_step.specs.declared.state.Place.TheVariants as place
use Rattle.service_runs.proofs.History.{IsMatchedFor, IsPast, WasTaken, after-more, flat_map-append, flat_map-more, next-past, once, was-more}
use Rattle.service_consistent.proofs.Starts.{consistent_start, start-idle}
use Rattle.service_change.proofs.Change.{idle-parts}
use Rattle.service_change.proofs.Counts.{count-Contains}
use Rattle.service_change.proofs.EndEq.{opposite-opposite}
use Rattle.service_change.proofs.Facts.{not-false, owned_by-Owned, taken-Taken}
use Rattle.service_lawful.specs.Consistent.{is_open, is_over, reports_on}
use Rattle.charlotte_calls.specs.Setting.{IsValid}
use Rattle.charlotte_calls.specs.declared.calls.Call.TheVariants as call
use Rattle.charlotte_calls.specs.declared.calls.Cause.TheVariants as cause
use Rattle.charlotte_calls.specs.declared.setting.Setting.{Setting}
use Rattle.service_step.specs.Causes.{is_cause, sees}
use Rattle.service_step.specs.Ends.{inward_activity, is_living, is_owned_by, is_taken, is_unreported_outward, outward_activity}
use Rattle.service_step.specs.Lawful.{HasMatchedReport, IsLawful, IsRightStep, IsRightlyLate, WasTakenOnce}
use Rattle.service_step.specs.Run.{IsRunFrom, IsServiceRun, start_state}
use Rattle.service_step.specs.Steps.{is_matched}

-- a report Done of a receive is of the last message that was taken from the opposite end
pub record IsLastTaken (s0 : State) (past : List (ServiceStep × State)) (p : Pid) (r : Report) : Type 0 where
  pub f : EndId
  pub n : ℕ
  pub late : Bool
  pub m : Message
  pub left : State
  pub earlier : List (ServiceStep × State)
  pub later : List (ServiceStep × State)
  pub is : r ≡ receive_report (opposite f) m.bytes m.carried
  pub stands : past ≡ earlier ++ (step.Take f n p late, left) ∷ later
  pub last : flat_map (take_number f) later ≡ []
  pub its : ((state_after s0 earlier).ends f).outward ≡ outward.Matched m
  pub was : WasMatched past f n

-- what is true after some steps of a run from a state
pub record IsHistory (s0 : State) (past : List (ServiceStep × State)) : Type 0 where
  pub consistent : IsConsistent (state_after s0 past)
  pub ends : (f : EndId) → IsPast s0 past f ((state_after s0 past).ends f).outward ((state_after s0 past).ends f).sent ((state_after s0 past).ends f).noticed
  pub reports : (p : Pid) (r : Report) → Contains ((state_after s0 past).process p.0).reports r → r.way ≡ way.Inward → r.outcome ≡ outcome.Done → IsLastTaken s0 past p r

module _ (s0 : State) (past : List (ServiceStep × State)) (s : State) (x : ServiceStep) (t : State) (before : state_after s0 past ≡ s) (k : IsConsistent s) (is : IsServiceStep s x t) where
  -- a report of a receive that stands rules out a take at its opposite end
  no-take : (p : Pid) (r : Report) (f : EndId) → Contains (s.process p.0).reports r → r.way ≡ way.Inward → r.on ≡ opposite f → Move s x t f → take_number f (x, t) ≡ []
  no-take p r f there received on (still out number noticed ns) = ns.takes
  no-take p r f there received on (sent m was out number ns) = ns.takes
  no-take p r f there received on (matched m was out number same ns) = ns.takes
  no-take p r f there received on (completed was out number ns) = ns.takes
  no-take p r f there received on (over either number ns) = ns.takes
  no-take p r f there received on (taken m q late was out number same owned ns) = absurd (differ inn.1 reported)
    where
      inn : (i : ℕ) × ((s.ends (opposite f)).inward ≡ inward.Matched i)
      inn = take-inward s f (s.ends f).sent q late k (subst (λ z. IsServiceStep s z t) same is).allowed

      reported : is_unreported_inward (s.ends (opposite f)).inward ≡ true
      reported = subst (λ e. is_over way.Inward (s.ends e) ≡ true) on (subst (λ w. is_over w (s.ends r.on) ≡ true) received (k.reported.over p r there))

      differ : (s.ends (opposite f)).inward ≡ inward.Matched inn.0 → is_unreported_inward (s.ends (opposite f)).inward ≡ true → ⊥
      differ is_matched is_over = true≢false (sym is_over ∙ ap is_unreported_inward is_matched)

  next-last : (h : (p : Pid) (r : Report) → Contains (s.process p.0).reports r → r.way ≡ way.Inward → r.outcome ≡ outcome.Done → IsLastTaken s0 past p r)
      → ((f : EndId) (m : Message) → (s.ends f).outward ≡ outward.Matched m → WasMatched past f (s.ends f).sent) → (p : Pid) (r : Report) → Contains (t.process p.0).reports r → r.way ≡ way.Inward → r.outcome ≡ outcome.Done
      → IsLastTaken s0 (past ++ (x, t) ∷ []) p r
  next-last h was p r there received done = by (reports-from s x t k is p r there)
    where
      old : Contains (s.process p.0).reports r → IsLastTaken s0 past p r → IsLastTaken s0 (past ++ (x, t) ∷ []) p r
      old stood l =
          record {
            f = l.f;
            n = l.n;
            late = l.late;
            m = l.m;
            left = l.left;
            earlier = l.earlier;
            later = l.later ++ (x, t) ∷ [];
            is = l.is;
            stands = ap (λ z. z ++ (x, t) ∷ []) l.stands ∙ append_assoc l.earlier ((step.Take l.f l.n p l.late, l.left) ∷ l.later) ((x, t) ∷ []);
            last =
                flat_map-more (take_number l.f) l.later (x, t) [] (no-take p r l.f stood received (ap (λ z. z.on) l.is) (move s x t l.f k is))
                ∙ append-nil (flat_map (take_number l.f) l.later) ∙ l.last;
            its = l.its;
            was = was-more past (x, t) l.f l.n l.was;
          }

      new : IsOfTake s x p r → IsLastTaken s0 (past ++ (x, t) ∷ []) p r
      new o =
          record {
            f = o.f;
            n = o.n;
            late = o.late;
            m = o.m;
            left = t;
            earlier = past;
            later = [];
            is = o.is;
            stands = ap (λ z. past ++ (z, t) ∷ []) o.took;
            last = refl;
            its = ap (λ z. (z.ends o.f).outward) before ∙ o.its;
            was =
                was-more past (x, t) o.f o.n
                (subst (WasMatched past o.f) (take-number s o.f o.n p o.late (subst (λ z. IsServiceStep s z t) o.took is).allowed) (was o.f o.m o.its));
          }

      by : Contains (s.process p.0).reports r ⊎ (r.way ≡ way.Inward → r.outcome ≡ outcome.Done → IsOfTake s x p r) → IsLastTaken s0 (past ++ (x, t) ∷ []) p r
      by (inl stood) = old stood (h p r stood received done)
      by (inr fresh) = new (fresh received done)

matched-past : (s0 : State) (past : List (ServiceStep × State)) (f : EndId) (x : End) (m : Message) → IsPast s0 past f x.outward x.sent x.noticed → x.outward ≡ outward.Matched m → WasMatched past f x.sent
matched-past s0 past f x m h is = (subst (λ o. IsPast s0 past f o x.sent x.noticed) is h).matched_one

-- one step more
pub next-history : (s0 : State) (past : List (ServiceStep × State)) (x : ServiceStep) (t : State) → IsHistory s0 past → IsServiceStep (state_after s0 past) x t → IsHistory s0 (past ++ (x, t) ∷ [])
next-history s0 past x t h is =
    record {
      consistent = subst IsConsistent (sym after) (consistent_after s x t h.consistent is);
      ends =
          λ f. subst (λ z. IsPast s0 (past ++ (x, t) ∷ []) f (z.ends f).outward (z.ends f).sent (z.ends f).noticed) (sym after)
          (next-past s0 past (state_after s0 past) x t f refl (h.ends f) (move (state_after s0 past) x t f h.consistent is));
      reports =
          λ p r there received done. next-last s0 past (state_after s0 past) x t refl h.consistent is h.reports (λ f m matched. matched-past s0 past f ((state_after s0 past).ends f) m (h.ends f) matched) p r
          (subst (λ z. Contains (z.process p.0).reports r) after there) received done;
    }
  where
    s : State
    s = state_after s0 past

    after : state_after s0 (past ++ (x, t) ∷ []) ≡ t
    after = after-more s0 past (x, t)

-- and all the steps before some of a run
history-before : (s0 : State) (past before after : List (ServiceStep × State)) → IsHistory s0 past → IsRunFrom (state_after s0 past) (before ++ after) → IsHistory s0 (past ++ before) × IsRunFrom (state_after s0 (past ++ before)) after
history-before s0 past [] after h run = subst (λ l. IsHistory s0 l × IsRunFrom (state_after s0 l) after) (sym (append-nil past)) (h, run)
history-before s0 past (made ∷ before) after h run =
    subst (λ l. IsHistory s0 l × IsRunFrom (state_after s0 l) after) (append_assoc past (made ∷ []) before)
    (history-before s0 (past ++ made ∷ []) before after (next-history s0 past made.0 made.1 h run.0) (subst (λ z. IsRunFrom z (before ++ after)) (sym (after-more s0 past made)) run.1))

-- the start of a setting has no history
start-history : (s : Setting) → IsValid s → IsHistory (start_state s) []
start-history s valid =
    record {
      consistent = consistent_start s valid;
      ends = λ f. subst (λ o. IsPast (start_state s) [] f o ((start_state s).ends f).sent ((start_state s).ends f).noticed) (sym (idle-parts ((start_state s).ends f) (start-idle s valid f)).0) (nothing f);
      reports = λ p r there received done. absurd (none p r there);
    }
  where
    nothing : (f : EndId) → IsPast (start_state s) [] f outward.Idle ((start_state s).ends f).sent ((start_state s).ends f).noticed
    nothing f =
        record {
          sends = record { rising = tt; below = tt };
          matches = record { rising = tt; below = tt };
          takes = record { rising = tt; below = tt };
          completes = record { rising = tt; below = tt };
          matched_one = tt;
          taken_one = tt;
        }

    idle-reports : (p : Pid) (w : Way) (e : EndId) → is_over w ((start_state s).ends e) ≡ false
    idle-reports p way.Outward e = ap is_unreported_outward (idle-parts ((start_state s).ends e) (start-idle s valid e)).0
    idle-reports p way.Inward e = ap is_unreported_inward (idle-parts ((start_state s).ends e) (start-idle s valid e)).1

    none : (p : Pid) (r : Report) → Contains ((start_state s).process p.0).reports r → ⊥
    none p r there = true≢false (sym ((consistent_start s valid).reported.over p r there) ∙ idle-reports p r.way r.on)

-- a complete of a message that was taken once
taken-once : (s0 : State) (run before : List (ServiceStep × State)) (made : ServiceStep × State) (after : List (ServiceStep × State)) (f : EndId) (n : ℕ) → run ≡ before ++ made ∷ after → AreRising (flat_map (take_number f) run) → WasTaken s0 before f n
    → WasTakenOnce s0 run before f n
taken-once s0 run before made after f n is rising was =
    record {
      once = subst (λ l. length (filter (nat_eq n) l) ≡ 1) (sym whole) (once n (flat_map (take_number f) was.earlier) rest (subst AreRising whole rising));
      earlier = was.earlier;
      later = was.later;
      p = was.p;
      late = was.late;
      left = was.left;
      stands = was.stands;
      owned = was.owned;
    }
  where
    rest : List ℕ
    rest = flat_map (take_number f) (was.later ++ made ∷ after)

    whole : flat_map (take_number f) run ≡ flat_map (take_number f) was.earlier ++ n ∷ flat_map (take_number f) (was.later ++ made ∷ after)
    whole =
        ap (flat_map (take_number f)) (is ∙ ap (λ l. l ++ made ∷ after) was.stands ∙ append_assoc was.earlier ((step.Take f n was.p was.late, was.left) ∷ was.later) (made ∷ after))
        ∙ flat_map-append (take_number f) was.earlier ((step.Take f n was.p was.late, was.left) ∷ (was.later ++ made ∷ after))
        ∙ ap (λ b. flat_map (take_number f) was.earlier ++ ((if b then n ∷ [] else []) ++ flat_map (take_number f) (was.later ++ made ∷ after))) (end_eq-refl f)

-- the cause Late comes first
late-first : (a b c d : Bool) → is_cause cause.Late (if a then Some cause.NoEnd else if b then Some cause.Dead else if c then Some cause.Late else if d then Some cause.NoActivity else None) ≡ true
    → (a ≡ false) × (b ≡ false) × (c ≡ true)
late-first true b c d is = absurd (true≢false (sym is))
late-first false true c d is = absurd (true≢false (sym is))
late-first false false true d is = (refl, refl, refl)
late-first false false false true is = absurd (true≢false (sym is))
late-first false false false false is = absurd (true≢false (sym is))

late-outward : (past : List (ServiceStep × State)) (f : EndId) (out : Outward) (n : ℕ) (noticed : Bool) → noticed ≡ false → is_late (outward_activity out) ≡ true → IsMatchedFor past f out n noticed → WasMatched past f n
late-outward past f outward.Idle n noticed open_yet late is = absurd (true≢false (sym late))
late-outward past f (outward.Waiting m) n noticed open_yet late is = absurd (true≢false (sym late))
late-outward past f (outward.Matched m) n noticed open_yet late is = is
late-outward past f outward.Taken n noticed open_yet late is = is
late-outward past f outward.Unreported n noticed open_yet late is = is open_yet

-- a receive is too late to be taken back once its report stands
late-unreported : (i : Inward) → is_late (inward_activity i) ≡ true → is_unreported_inward i ≡ true
late-unreported inward.Idle late = late
late-unreported inward.Posted late = late
late-unreported inward.Withdrawn late = late
late-unreported (inward.Matched n) late = late
late-unreported inward.Unreported late = refl

module _ (s0 : State) (past : List (ServiceStep × State)) (h : IsHistory s0 past) (p : Pid) (e : EndId) (owned : ((state_after s0 past).ends e).place ≡ place.Owned p) (open_yet : ((state_after s0 past).ends e).noticed ≡ false) where
  late-inward : is_unreported_inward ((state_after s0 past).ends e).inward ≡ true → HasMatchedReport s0 past p e
  late-inward reported =
      record {
        message = l.m;
        n = l.n;
        late = l.late;
        left = l.left;
        earlier = l.earlier;
        later = l.later;
        stands = subst (Contains ((state_after s0 past).process p.0).reports) (l.is ∙ ap (λ z. receive_report z l.m.bytes l.m.carried) on) found.1;
        taken = subst (λ z. past ≡ l.earlier ++ (step.Take z l.n p l.late, l.left) ∷ l.later) end_is l.stands;
        last = subst (λ z. flat_map (take_number z) l.later ≡ []) end_is l.last;
        its = subst (λ z. ((state_after s0 l.earlier).ends z).outward ≡ outward.Matched l.m) end_is l.its;
        matched = subst (λ z. WasMatched past z l.n) end_is l.was;
      }
    where
      one : reports_on e way.Inward ((state_after s0 past).process p.0).reports ≡ 1
      one = h.consistent.reported.stands p e way.Inward owned reported

      found : (r : Report) × Contains ((state_after s0 past).process p.0).reports r × (r.on ≡ e) × (r.way ≡ way.Inward)
      found = count-Contains e way.Inward ((state_after s0 past).process p.0).reports (omega (arith, one))

      opens : is_open ((state_after s0 past).ends e) ≡ true
      opens = ap (λ b. is_living ((state_after s0 past).ends e).place && (if b then false else true)) open_yet ∙ ap (λ at. is_living at && true) owned

      done : found.0.outcome ≡ outcome.Done
      done = h.consistent.reported.done p found.0 found.1 (subst (λ z. is_open ((state_after s0 past).ends z) ≡ true) (sym found.2) opens)

      l : IsLastTaken s0 past p found.0
      l = h.reports p found.0 found.1 found.3 done

      on : opposite l.f ≡ e
      on = sym (ap (λ z. z.on) l.is) ∙ found.2

      end_is : l.f ≡ opposite e
      end_is = sym (opposite-opposite l.f) ∙ ap opposite on

late-right : (s0 : State) (past : List (ServiceStep × State)) (p : Pid) (e : EndId) (w : Way) → IsHistory s0 past → is_cause cause.Late (first_of (cancel_causes w (sees p (state_after s0 past).ends e))) ≡ true → IsRightlyLate s0 past p e w
late-right s0 past p e w h is = by w (late-first _ _ _ _ is)
  where
    by : (w : Way) → (not (is_owned_by p ((state_after s0 past).ends e).place) ≡ false) × (((state_after s0 past).ends e).noticed ≡ false) × (is_late (activity w (sees p (state_after s0 past).ends e)) ≡ true) → IsRightlyLate s0 past p e w
    by way.Outward late = late-outward past e ((state_after s0 past).ends e).outward ((state_after s0 past).ends e).sent ((state_after s0 past).ends e).noticed late.1 late.2 (h.ends e).matched_one
    by way.Inward late = late-inward s0 past h p e (owned_by-Owned p ((state_after s0 past).ends e).place (not-false _ late.0)) late.1 (late-unreported ((state_after s0 past).ends e).inward late.2)

-- each step of a run is right
module _ (s0 : State) (run before : List (ServiceStep × State)) (after : List (ServiceStep × State)) (t : State) (h : IsHistory s0 before) (rising : (f : EndId) → AreRising (flat_map (take_number f) run)) where
  right-complete : (f : EndId) (n : ℕ) → run ≡ before ++ (step.Complete f n, t) ∷ after → is_taken ((state_after s0 before).ends f).outward ≡ true → ((state_after s0 before).ends f).sent ≡ n → WasTakenOnce s0 run before f n
  right-complete f n is took number =
      taken-once s0 run before (step.Complete f n, t) after f n is (rising f)
      (subst (WasTaken s0 before f) number
      (subst (λ o. IsPast s0 before f o ((state_after s0 before).ends f).sent ((state_after s0 before).ends f).noticed) (taken-Taken ((state_after s0 before).ends f).outward took) (h.ends f)).taken_one)

  right : (x : ServiceStep) → run ≡ before ++ (x, t) ∷ after → IsServiceStep (state_after s0 before) x t → IsRightStep s0 run before x
  right (step.Complete f n) is step = right-complete f n is (and-true _ _ (and-true _ _ step.allowed).0).0 (complete-number (state_after s0 before) f n step.allowed)
  right (step.Refuse p (call.Cancel e w) cause.Late) is step = late-right s0 before p e w h step.allowed.1
  right (step.Take f n p true) is step = (and-true _ _ (and-true _ _ (and-true _ _ (and-true _ _ step.allowed).0).0).0).0
  right _ is step = tt

-- every run is lawful
pub runs_are_lawful : (s : Setting) (run : List (ServiceStep × State)) → IsValid s → IsServiceRun s run → IsLawful (start_state s) run
runs_are_lawful s run valid is =
    record {
      held = λ before after split. (until before after split).0.consistent.kept.held;
      steps = λ before after made split. right (start_state s) run before after made.1 (until before (made ∷ after) split).0 (λ f. (whole.ends f).takes.rising) made.0 split (until before (made ∷ after) split).1.0;
      order =
          λ f. record {
            sends = (whole.ends f).sends.rising;
            matches = (whole.ends f).matches.rising;
            takes = (whole.ends f).takes.rising;
            completes = (whole.ends f).completes.rising;
          };
    }
  where
    until : (before after : List (ServiceStep × State)) → run ≡ before ++ after → IsHistory (start_state s) before × IsRunFrom (state_after (start_state s) before) after
    until before after split = history-before (start_state s) [] before after (start-history s valid) (subst (IsRunFrom (start_state s)) split is)

    whole : IsHistory (start_state s) run
    whole = (until run [] (sym (append-nil run))).0
