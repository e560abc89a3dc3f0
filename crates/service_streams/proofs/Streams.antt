-- Each direction of a link is FIFO in every service run.
use Rattle.std.proofs.Common.{◌≡◌, ◌+◌, ◌≤◌, Bool, true, false, true≢false, ◌⊎◌, inl, inr, if◌then◌else◌, Some, Contains, List, [], ◌∷◌, ◌++◌, length, map, append-nil, append_assoc, refl, sym, ap, ap₂, subst, ◌∙◌, arith}
use Rattle.std.proofs.lemmas.Grind.{flat_map-append}
use Rattle.std.proofs.lemmas.List.{length-append, length-map, map-append}
use Rattle.std.specs.List.{flat_map}
use mathlib.Core.List.{IsPrefix}
use Rattle.charlotte_calls.specs.Names.{opposite}
use Rattle.charlotte_calls.specs.Setting.{IsValid}
use Rattle.charlotte_calls.specs.declared.calls.Report.{Report}
use Rattle.charlotte_calls.specs.declared.calls.ServiceStep.{ServiceStep}
use Rattle.charlotte_calls.specs.declared.calls.ServiceStep.TheVariants as step
use Rattle.charlotte_calls.specs.declared.names.EndId.{EndId}
use Rattle.charlotte_calls.specs.declared.names.Pid.{Pid}
use Rattle.charlotte_calls.specs.declared.names.Way.TheVariants as way
use Rattle.charlotte_calls.specs.declared.setting.Setting.{Setting}
use Rattle.service_change.proofs.Change.{idle-parts}
use Rattle.service_consistent.proofs.Laws.{consistent_after}
use Rattle.service_consistent.proofs.Starts.{consistent_start, start-idle}
use Rattle.service_lawful.specs.Consistent.{IsConsistent}
use Rattle.service_runs.proofs.History.{after-more}
use Rattle.service_runs.proofs.Lawful.{runs_are_lawful}
use Rattle.service_step.specs.Ends.{end_eq, is_living, is_unreported_inward}
use Rattle.service_step.specs.Lawful.{AreRising, IsLawful, message_of, send_number}
use Rattle.service_step.specs.Run.{IsRunFrom, IsServiceRun, start_state, state_after}
use Rattle.service_step.specs.State.{State, receive_report}
use Rattle.service_step.specs.declared.state.Message.{Message}
use Rattle.service_step.specs.declared.state.Place.TheVariants as place
use Rattle.service_streams.proofs.Kept.{IsClosed, IsKept, IsPart, flat-more, kept-more, next-kept, next-part, taken-more}
use Rattle.service_streams.proofs.Lists.{subsequence-front}
use Rattle.service_streams.proofs.Places.{IsGone}
use Rattle.service_streams.proofs.Told.{NoneStands, Telling, all_told, is_receipt, its-receipt, next-telling, one_lost, one_stands, over-at, told-it, told-none, told-one}
use Rattle.service_streams.specs.Streams.{IsFifo, IsSubsequence, Sent, given_by, kept_by, kept_on, messages, numbered, reported_in, sent_by, sent_on, steps_in, taken_at, taken_by, told_in, outstanding}

-- what is true of a direction after some steps of a run from a state
pub record IsStream (s0 : State) (past : List (ServiceStep × State)) (e : EndId) : Type 0 where
  pub consistent : IsConsistent (state_after s0 past)
  pub part : IsPart e (steps_in past)
  pub kept : IsKept (kept_on e (steps_in past)) (taken_at (opposite e) s0 past) (state_after s0 past) e
  pub telling : Telling (state_after s0 past) (opposite e) (messages (taken_at (opposite e) s0 past)) (reported_in (opposite e) (steps_in past))

reported-more : (o : EndId) (past : List (ServiceStep × State)) (x : ServiceStep) (t : State) → reported_in o (steps_in (past ++ (x, t) ∷ [])) ≡ reported_in o (steps_in past) ++ told_in o (given_by x)
reported-more o past x t = ap (told_in o) (flat-more given_by past x t) ∙ flat_map-append _ (flat_map given_by (steps_in past)) (given_by x)

-- one step more
next-stream : (s0 : State) (past : List (ServiceStep × State)) (x : ServiceStep) (t : State) (e : EndId) → IsStream s0 past e → IsRunFrom (state_after s0 past) ((x, t) ∷ []) → IsStream s0 (past ++ (x, t) ∷ []) e
next-stream s0 past x t e h is =
    record {
      consistent = subst IsConsistent (sym after) (consistent_after (state_after s0 past) x t h.consistent is.0);
      part = next-part e past x t h.part;
      kept = subst (λ z. IsKept (kept_on e (steps_in (past ++ (x, t) ∷ []))) (taken_at (opposite e) s0 (past ++ (x, t) ∷ [])) z e) (sym after) kept;
      telling = subst (λ z. Telling z (opposite e) (messages (taken_at (opposite e) s0 (past ++ (x, t) ∷ []))) (reported_in (opposite e) (steps_in (past ++ (x, t) ∷ [])))) (sym after) telling;
    }
  where
    after : state_after s0 (past ++ (x, t) ∷ []) ≡ t
    after = after-more s0 past (x, t)

    took : taken_at (opposite e) s0 (past ++ (x, t) ∷ []) ≡ taken_at (opposite e) s0 past ++ taken_by (opposite e) (state_after s0 past) x
    took = taken-more (opposite e) s0 past x t

    kept : IsKept (kept_on e (steps_in (past ++ (x, t) ∷ []))) (taken_at (opposite e) s0 (past ++ (x, t) ∷ [])) t e
    kept =
        subst (λ l. IsKept l (taken_at (opposite e) s0 (past ++ (x, t) ∷ [])) t e) (sym (kept-more e past x t))
        (subst (λ l. IsKept (kept_by e (kept_on e (steps_in past)) x) l t e) (sym took) (next-kept (kept_on e (steps_in past)) (taken_at (opposite e) s0 past) (state_after s0 past) x t e h.consistent is.0 h.kept))

    telling : Telling t (opposite e) (messages (taken_at (opposite e) s0 (past ++ (x, t) ∷ []))) (reported_in (opposite e) (steps_in (past ++ (x, t) ∷ [])))
    telling =
        subst (λ l. Telling t (opposite e) l (reported_in (opposite e) (steps_in (past ++ (x, t) ∷ [])))) (sym (ap messages took ∙ map-append (λ m. m.message) (taken_at (opposite e) s0 past) (taken_by (opposite e) (state_after s0 past) x)))
        (subst (λ l. Telling t (opposite e) (messages (taken_at (opposite e) s0 past) ++ messages (taken_by (opposite e) (state_after s0 past) x)) l) (sym (reported-more (opposite e) past x t))
        (next-telling (state_after s0 past) x t (opposite e) h.consistent is.0 (messages (taken_at (opposite e) s0 past)) (reported_in (opposite e) (steps_in past)) h.telling))

-- all the steps of a run
streams-after : (s0 : State) (past run : List (ServiceStep × State)) (e : EndId) → IsStream s0 past e → IsRunFrom (state_after s0 past) run → IsStream s0 (past ++ run) e
streams-after s0 past [] e h is = subst (λ l. IsStream s0 l e) (sym (append-nil past)) h
streams-after s0 past (made ∷ run) e h is =
    subst (λ l. IsStream s0 l e) (append_assoc past (made ∷ []) run)
    (streams-after s0 (past ++ made ∷ []) run e (next-stream s0 past made.0 made.1 e h (is.0, tt)) (subst (λ z. IsRunFrom z run) (sym (after-more s0 past made)) is.1))

-- before any step nothing is sent
start-stream : (s : Setting) → IsValid s → (e : EndId) → IsStream (start_state s) [] e
start-stream s valid e =
    record {
      consistent = consistent_start s valid;
      part = record { part = tt; whole = λ none. refl };
      kept = record { lost = []; all = sym (ap (numbered ((start_state s).ends e).sent) (ap message_of (idle-parts ((start_state s).ends e) (start-idle s valid e)).0)); closed = inl refl };
      telling = all_told refl none;
    }
  where
    idle : is_unreported_inward ((start_state s).ends (opposite e)).inward ≡ false
    idle = ap is_unreported_inward (idle-parts ((start_state s).ends (opposite e)) (start-idle s valid (opposite e))).1

    none : NoneStands (start_state s) (opposite e)
    none p r there = by (is_receipt (opposite e) r) refl
      where
        by : (b : Bool) → is_receipt (opposite e) r ≡ b → b ≡ false
        by true it = absurd (true≢false (sym (over-at (start_state s) (opposite e) (consistent_start s valid) p r there it) ∙ idle))
        by false it = refl

-- the numbers of what is sent are those of its steps
numbers-are : (e : EndId) (run : List (ServiceStep × State)) → map (λ m. m.number) (sent_on e (steps_in run)) ≡ flat_map (send_number e) run
numbers-are e [] = refl
numbers-are e ((x, t) ∷ run) = map-append (λ m. m.number) (sent_by e x) (sent_on e (steps_in run)) ∙ ap₂ (λ a b. a ++ b) (one x) (numbers-are e run)
  where
    one : (x : ServiceStep) → map (λ m. m.number) (sent_by e x) ≡ send_number e (x, t)
    one (step.Send f n bytes xs) = by (end_eq e f)
      where
        by : (b : Bool) → map (λ m. m.number) (if b then numbered n (Some (record { bytes = bytes; carried = xs })) else []) ≡ (if b then n ∷ [] else [])
        by true = refl
        by false = refl
    one _ = refl

-- what follows of a run
module _ (s0 : State) (run : List (ServiceStep × State)) (e : EndId) (h : IsStream s0 run e) where
  abbrev took : List Sent
  took = taken_at (opposite e) s0 run

  abbrev told : List Message
  told = reported_in (opposite e) (steps_in run)

  abbrev s : State
  s = state_after s0 run

  is-prefix : IsPrefix took (kept_on e (steps_in run))
  is-prefix = (h.kept.lost ++ outstanding (s.ends e), sym (append_assoc took h.kept.lost (outstanding (s.ends e))) ∙ sym h.kept.all)

  lossless : (IsGone s.ends e → ⊥) → (IsGone s.ends (opposite e) → ⊥) → (h.kept.lost ≡ []) ⊎ IsClosed s e → kept_on e (steps_in run) ≡ took ++ outstanding (s.ends e)
  lossless lives opposite_lives (inl none) = h.kept.all ∙ ap (λ l. (took ++ l) ++ outstanding (s.ends e)) none ∙ ap (λ l. l ++ outstanding (s.ends e)) (append-nil took)
  lossless lives opposite_lives (inr (inl gone)) = absurd (opposite_lives gone)
  lossless lives opposite_lives (inr (inr both)) = absurd (lives both.0)

  is-told : Telling s (opposite e) (messages took) told → IsPrefix told (messages took)
  is-told (all_told same none) = ([], append-nil told ∙ sym same)
  is-told (one_stands m p same there) = (m ∷ [], sym same)
  is-told (one_lost m same gone none) = (m ∷ [], sym same)

  is-soon : Telling s (opposite e) (messages took) told → length took ≤ length told + 1
  is-soon (all_told same none) = let n : length took ≡ length told = sym (length-map took (λ m. m.message)) ∙ ap length same in omega arith
  is-soon (one_stands m p same there) = let n : length took ≡ length told + 1 = sym (length-map took (λ m. m.message)) ∙ ap length same ∙ length-append told (m ∷ []) in omega arith
  is-soon (one_lost m same gone none) = let n : length took ≡ length told + 1 = sym (length-map took (λ m. m.message)) ∙ ap length same ∙ length-append told (m ∷ []) in omega arith

  is-pending : (p : Pid) → (s.ends (opposite e)).place ≡ place.Owned p → Telling s (opposite e) (messages took) told → messages took ≡ told ++ told_in (opposite e) (s.process p.0).reports
  is-pending p owned (all_told same none) = same ∙ sym (append-nil told) ∙ ap (λ l. told ++ l) (sym (told-none (opposite e) (s.process p.0).reports (none p)))
  is-pending p owned (one_lost m same gone none) = let differ : place.Owned p ≡ place.Destroyed = sym owned ∙ gone in absurd (cc)
  is-pending p owned (one_stands m q same there) =
      same
      ∙ ap (λ l. told ++ l) (sym (told-it (opposite e) r (its-receipt (opposite e) m)) ∙ sym (told-one (opposite e) (s.process p.0).reports r (h.consistent.reported.once p (opposite e) way.Inward) (subst (λ z. Contains (s.process z.0).reports r) its there) (its-receipt (opposite e) m)))
    where
      r : Report
      r = receive_report (opposite e) m.bytes m.carried

      one : place.Owned p ≡ place.Owned q → q ≡ p
      one both = cc

      its : q ≡ p
      its = one (sym owned ∙ h.consistent.reported.own q r there (ap is_living owned))

  is-delivered : IsPrefix told (messages took) → IsPrefix told (messages (kept_on e (steps_in run)))
  is-delivered first = (
    first.0 ++ messages is-prefix.0,
    sym (append_assoc told first.0 (messages is-prefix.0)) ∙ ap (λ l. l ++ messages is-prefix.0) first.1 ∙ sym (map-append (λ m. m.message) took is-prefix.0) ∙ ap messages is-prefix.1,
  )

  pub is-fifo : IsLawful s0 run → IsFifo s0 run e
  is-fifo lawful =
      record {
        numbers = subst AreRising (sym (numbers-are e run)) (lawful.order e).sends;
        taken = subsequence-front took is-prefix.0 _ (subst (λ l. IsSubsequence l (sent_on e (steps_in run))) (sym is-prefix.1) h.part.part);
        gapless = is-prefix;
        uncancelled = h.part.whole;
        lossless = λ lives opposite_lives. lossless lives opposite_lives h.kept.closed;
        told = is-told h.telling;
        soon = is-soon h.telling;
        pending = λ p owned. is-pending p owned h.telling;
        delivered = is-delivered (is-told h.telling);
      }

-- each direction of each link, in each run of a valid setting
pub links_fifo : (s : Setting) (run : List (ServiceStep × State)) → IsValid s → IsServiceRun s run → (e : EndId) → IsFifo (start_state s) run e
links_fifo s run valid is e = is-fifo (start_state s) run e (streams-after (start_state s) [] run e (start-stream s valid e) is) (runs_are_lawful s run valid is)
