-- What the owners of an end were told of the messages taken there: of all of them, or of all but the last, whose report stands, or went
-- with the process that owned the end.
use Rattle.std.proofs.Common.{◌≡◌, ℕ, zero, suc, ◌+◌, ◌≤◌, Bool, true, false, true≢false, ◌&&◌, ◌⊎◌, inl, inr, if◌then◌else◌, Some, List, [], ◌∷◌, ◌++◌, append-nil, Contains, refl, sym, ap, subst, ◌∙◌, arith}
use Rattle.std.proofs.lemmas.List.Elements.{Contains-append_cases, Contains-append_right}
use Rattle.charlotte_calls.specs.Names.{opposite}
use Rattle.charlotte_calls.specs.declared.calls.Report.{Report}
use Rattle.charlotte_calls.specs.declared.calls.ServiceStep.{ServiceStep}
use Rattle.charlotte_calls.specs.declared.calls.ServiceStep.TheVariants as step
use Rattle.charlotte_calls.specs.declared.names.EndId.{EndId}
use Rattle.charlotte_calls.specs.declared.names.Outcome.{Outcome}
use Rattle.charlotte_calls.specs.declared.names.Outcome.TheVariants as outcome
use Rattle.charlotte_calls.specs.declared.names.Pid.{Pid}
use Rattle.charlotte_calls.specs.declared.names.Way.{Way}
use Rattle.charlotte_calls.specs.declared.names.Way.TheVariants as way
use Rattle.service_change.proofs.Counts.{Contains-count, and-true, is_report_on-its}
use Rattle.service_change.proofs.EndEq.{end_eq-refl, end_eq-same, puts-at}
use Rattle.service_change.proofs.Facts.{busy-inward, busy-made}
use Rattle.service_consistent.proofs.Laws.{consistent_after}
use Rattle.service_consistent.proofs.StepsOfMessages.{take-inward, take-matched, take-owned}
use Rattle.service_lawful.specs.Consistent.{IsConsistent, is_over, is_report_on, reports_on, way_eq}
use Rattle.service_runs.proofs.ReportsOfSteps.{IsNew, reports-from}
use Rattle.service_step.specs.Ends.{end_eq, idles, is_unreported_inward, matched_message, puts, turns_inward}
use Rattle.service_step.specs.State.{State, receive_report}
use Rattle.service_step.specs.Steps.{IsServiceStep}
use Rattle.service_step.specs.declared.state.Inward.TheVariants as inward
use Rattle.service_step.specs.declared.state.Message.{Message}
use Rattle.service_step.specs.declared.state.Outward.TheVariants as outward
use Rattle.service_step.specs.declared.state.Place.TheVariants as place
use Rattle.service_streams.proofs.Pending.{IsDue, exit-none, reports-stay, take-stands}
use Rattle.service_streams.proofs.Places.{IsGone, exit-gone, gone-stays, oldest-there}
use Rattle.service_streams.specs.Streams.{given_by, is_done, messages, numbered, taken_by, told_by, told_in}

-- the report Done of a receive on the end
abbrev pub is_receipt : EndId → Report → Bool
is_receipt o r = is_report_on o way.Inward r && is_done r.outcome

record IsReceipt (o : EndId) (r : Report) : Type 0 where
  on : r.on ≡ o
  received : r.way ≡ way.Inward
  done : r.outcome ≡ outcome.Done

receipt-is : (o : EndId) (r : Report) → is_receipt o r ≡ true → IsReceipt o r
receipt-is o r is = record { on = sym (end_eq-same o r.on (and-true _ _ both.0).0); received = received r.way (and-true _ _ both.0).1; done = done r.outcome both.1 }
  where
    both : (is_report_on o way.Inward r ≡ true) × (is_done r.outcome ≡ true)
    both = and-true _ _ is

    received : (w : Way) → way_eq way.Inward w ≡ true → w ≡ way.Inward
    received way.Inward is = refl
    received way.Outward is = absurd (true≢false (sym is))

    done : (x : Outcome) → is_done x ≡ true → x ≡ outcome.Done
    done outcome.Done is = refl
    done outcome.Destroyed is = absurd (true≢false (sym is))

told-not : (o : EndId) (r : Report) → is_receipt o r ≡ false → told_by o r ≡ []
told-not o r is = ap (λ b. if b then record { bytes = r.bytes; carried = r.enclosed } ∷ [] else []) is

pub told-it : (o : EndId) (r : Report) → is_receipt o r ≡ true → told_by o r ≡ record { bytes = r.bytes; carried = r.enclosed } ∷ []
told-it o r is = ap (λ b. if b then record { bytes = r.bytes; carried = r.enclosed } ∷ [] else []) is

pub its-receipt : (o : EndId) (m : Message) → is_receipt o (receive_report o m.bytes m.carried) ≡ true
its-receipt o m = ap (λ b. (b && true) && true) (end_eq-refl o)

-- reports of that way of an end, where no more than one of it stands

only : (x r : Report) → Contains (x ∷ []) r → x ≡ r
only x r (zero, below, same) = same
only x r (suc k, below, same) = absurd (omega arith)

counted : (r : Report) (rs : List Report) (e : EndId) (w : Way) → Contains rs r → r.on ≡ e → r.way ≡ w → 1 ≤ reports_on e w rs
counted r rs e w there on is = subst (λ v. 1 ≤ reports_on e v rs) is (subst (λ z. 1 ≤ reports_on z r.way rs) on (Contains-count r rs there))

reported-its : (x : Report) (e : EndId) (w : Way) → x.on ≡ e → x.way ≡ w → is_report_on e w x ≡ true
reported-its x e w on is = subst (λ v. is_report_on e v x ≡ true) is (subst (λ z. is_report_on z x.way x ≡ true) on (is_report_on-its x))

-- then it is the one
same-report : (rs : List Report) (a b : Report) (e : EndId) (w : Way) → reports_on e w rs ≤ 1 → Contains rs a → Contains rs b → a.on ≡ e → a.way ≡ w → b.on ≡ e → b.way ≡ w → a ≡ b
same-report [] a b e w once (k, below, same) at_b a_on a_is b_on b_is = absurd (omega arith)
same-report (x ∷ rs) a b e w once at_a at_b a_on a_is b_on b_is = by (Contains-append_cases (x ∷ []) rs a at_a) (Contains-append_cases (x ∷ []) rs b at_b) (same-report rs a b e w)
  where
    alone : (c : Bool) → c ≡ true → 1 ≤ reports_on e w rs → (if c then 1 else 0) + reports_on e w rs ≤ 1 → ⊥
    alone true is some once = omega arith
    alone false is some once = true≢false (sym is)

    by : Contains (x ∷ []) a ⊎ Contains rs a → Contains (x ∷ []) b ⊎ Contains rs b → (reports_on e w rs ≤ 1 → Contains rs a → Contains rs b → a.on ≡ e → a.way ≡ w → b.on ≡ e → b.way ≡ w → a ≡ b) → a ≡ b
    by (inl first_a) (inl first_b) rest = sym (only x a first_a) ∙ only x b first_b
    by (inl first) (inr later) rest = absurd (alone (is_report_on e w x) (subst (λ z. is_report_on e w z ≡ true) (sym (only x a first)) (reported-its a e w a_on a_is)) (counted b rs e w later b_on b_is) once)
    by (inr later) (inl first) rest = absurd (alone (is_report_on e w x) (subst (λ z. is_report_on e w z ≡ true) (sym (only x b first)) (reported-its b e w b_on b_is)) (counted a rs e w later a_on a_is) once)
    by (inr at_a) (inr at_b) rest = rest (omega arith) at_a at_b a_on a_is b_on b_is

-- none is told of where no report Done of a receive stands
abbrev pub AreNone : EndId → List Report → Type 0
AreNone o rs = (r : Report) → Contains rs r → is_receipt o r ≡ false

pub told-none : (o : EndId) (rs : List Report) → AreNone o rs → told_in o rs ≡ []
told-none o [] none = refl
told-none o (r ∷ rs) none = ap (λ l. l ++ told_in o rs) (told-not o r (none r (0, (omega arith), refl))) ∙ told-none o rs (λ t is. none t (Contains-append_right (r ∷ []) rs t is))

-- and one where one stands
pub told-one : (o : EndId) (rs : List Report) (r : Report) → reports_on o way.Inward rs ≤ 1 → Contains rs r → is_receipt o r ≡ true → told_in o rs ≡ told_by o r
told-one o [] r once (k, below, same) is = absurd (omega arith)
told-one o (x ∷ rs) r once there is = by (is_report_on o way.Inward x) refl once (Contains-append_cases (x ∷ []) rs r there) (told-one o rs r)
  where
    it : IsReceipt o r
    it = receipt-is o r is

    by : (b : Bool) → is_report_on o way.Inward x ≡ b → (if b then 1 else 0) + reports_on o way.Inward rs ≤ 1 → Contains (x ∷ []) r ⊎ Contains rs r
        → (reports_on o way.Inward rs ≤ 1 → Contains rs r → is_receipt o r ≡ true → told_in o rs ≡ told_by o r) → told_by o x ++ told_in o rs ≡ told_by o r
    by true its once (inl first) rest =
        ap (λ l. told_by o x ++ l) (told-none o rs (λ t stands. others t stands (is_receipt o t) refl)) ∙ append-nil (told_by o x) ∙ ap (told_by o) (only x r first)
      where
        others : (t : Report) → Contains rs t → (c : Bool) → is_receipt o t ≡ c → c ≡ false
        others t stands true is_t = let too = counted t rs o way.Inward stands (receipt-is o t is_t).on (receipt-is o t is_t).received in absurd (omega arith)
        others t stands false is_t = refl
    by true its once (inr later) rest = let too = counted r rs o way.Inward later it.on it.received in absurd (omega arith)
    by false not once (inl first) rest = absurd (true≢false (sym (subst (λ z. is_report_on o way.Inward z ≡ true) (sym (only x r first)) (reported-its r o way.Inward it.on it.received)) ∙ not))
    by false not once (inr later) rest = ap (λ l. l ++ told_in o rs) (told-not o x (ap (λ b. b && is_done x.outcome) not)) ∙ rest (omega arith) later is

-- no report Done of a receive on the end stands
abbrev pub NoneStands : State → EndId → Type 0
NoneStands s o = (p : Pid) → AreNone o (s.process p.0).reports

-- of the messages that were taken at an end, and of those that its owners were told of
pub data Telling (s : State) (o : EndId) (took told : List Message) : Type 0 where
  all_told : took ≡ told → NoneStands s o → Telling s o took told
  one_stands : (m : Message) (p : Pid) → took ≡ told ++ m ∷ [] → Contains (s.process p.0).reports (receive_report o m.bytes m.carried) → Telling s o took told
  one_lost : (m : Message) → took ≡ told ++ m ∷ [] → IsGone s.ends o → NoneStands s o → Telling s o took told

-- what a step is for an end
data What (s : State) (x : ServiceStep) (o : EndId) : Type 0 where
  takes : (f : EndId) (n : ℕ) (p : Pid) (late : Bool) → x ≡ step.Take f n p late → o ≡ opposite f → What s x o
  tells : (p : Pid) (r : Report) → x ≡ step.Report p r → is_receipt o r ≡ true → What s x o
  neither : taken_by o s x ≡ [] → told_in o (given_by x) ≡ [] → What s x o

what : (s : State) (x : ServiceStep) (o : EndId) → What s x o
what s (step.Take f n p late) o = by (end_eq o (opposite f)) refl
  where
    by : (b : Bool) → end_eq o (opposite f) ≡ b → What s (step.Take f n p late) o
    by true same = takes f n p late refl (end_eq-same o (opposite f) same)
    by false apart = neither (ap (λ b. if b then numbered n (matched_message (s.ends f).outward) else []) apart) refl
what s (step.Report p r) o = by (is_receipt o r) refl
  where
    by : (b : Bool) → is_receipt o r ≡ b → What s (step.Report p r) o
    by true is = tells p r refl is
    by false not = neither refl (append-nil (told_by o r) ∙ told-not o r not)
what s _ o = neither refl refl

-- what a take takes, and a report tells of

taken-it : (s : State) (x : ServiceStep) (o f : EndId) (n : ℕ) (p : Pid) (late : Bool) (m : Message) → x ≡ step.Take f n p late → o ≡ opposite f → (s.ends f).outward ≡ outward.Matched m → taken_by o s x ≡ numbered n (Some m)
taken-it s x o f n p late m its on matched =
    ap (taken_by o s) its ∙ ap (λ b. if b then numbered n (matched_message (s.ends f).outward) else []) (subst (λ z. end_eq o z ≡ true) on (end_eq-refl o)) ∙ ap (λ z. numbered n (matched_message z)) matched

given-it : (x : ServiceStep) (o : EndId) (p : Pid) (r : Report) → x ≡ step.Report p r → told_in o (given_by x) ≡ told_by o r
given-it x o p r its = ap (λ z. told_in o (given_by z)) its ∙ append-nil (told_by o r)

-- a report Done of a receive stands only where the receive is over
pub over-at : (u : State) (o : EndId) → IsConsistent u → (p : Pid) (r : Report) → Contains (u.process p.0).reports r → is_receipt o r ≡ true → is_unreported_inward (u.ends o).inward ≡ true
over-at u o c p r there it =
    let its = receipt-is o r it in subst (λ e. is_over way.Inward (u.ends e) ≡ true) its.on (subst (λ w. is_over w (u.ends r.on) ≡ true) its.received (c.reported.over p r there))

module _ (s : State) (x : ServiceStep) (t : State) (o : EndId) (k : IsConsistent s) (is : IsServiceStep s x t) where
  after : IsConsistent t
  after = consistent_after s x t k is

  -- where none stood, and no take adds one, none stands
  none-after : taken_by o s x ≡ [] → ((p : Pid) (r : Report) → Contains (t.process p.0).reports r → Contains (s.process p.0).reports r → is_receipt o r ≡ false) → NoneStands t o
  none-after no_taken old p r there = by (is_receipt o r) refl (reports-from s x t k is p r there)
    where
      by : (b : Bool) → is_receipt o r ≡ b → Contains (s.process p.0).reports r ⊎ IsNew s x p r → b ≡ false
      by true it (inl stood) = sym it ∙ old p r there stood
      by true it (inr new) =
          let its = receipt-is o r it in
          let of_take = new its.received its.done in
          let differ : numbered of_take.n (Some of_take.m) ≡ [] = sym (taken-it s x o of_take.f of_take.n p of_take.late of_take.m of_take.took (sym its.on ∙ ap (λ z. z.on) of_take.is) of_take.its) ∙ no_taken in
          absurd (cc)
      by false it either = refl

  -- of a receive at most one report stands
  the-one : (u : State) → IsConsistent u → (p q : Pid) (a b : Report) → Contains (u.process p.0).reports a → Contains (u.process q.0).reports b → is_receipt o a ≡ true → is_receipt o b ≡ true → (q.0 ≡ p.0) × (a ≡ b)
  the-one u c p q a b at_a at_b is_a is_b = (same, same-report (u.process p.0).reports a b o way.Inward (c.reported.once p o way.Inward) at_a (subst (λ i. Contains (u.process i).reports b) same at_b) one.on one.received two.on two.received)
    where
      one : IsReceipt o a
      one = receipt-is o a is_a

      two : IsReceipt o b
      two = receipt-is o b is_b

      same : q.0 ≡ p.0
      same = c.reported.alone p q a b at_a at_b (two.on ∙ sym one.on) (two.received ∙ sym one.received)

  module _ (took told : List Message) (h : Telling s o took told) where
    abbrev Next : Type 0
    Next = Telling t o (took ++ messages (taken_by o s x)) (told ++ told_in o (given_by x))

    with-both : (a b : List Message) → messages (taken_by o s x) ≡ a → told_in o (given_by x) ≡ b → Telling t o (took ++ a) (told ++ b) → Next
    with-both a b is_a is_b n = subst (λ l. Telling t o (took ++ l) (told ++ told_in o (given_by x))) (sym is_a) (subst (λ l. Telling t o (took ++ a) (told ++ l)) (sym is_b) n)

    -- a message is taken: all others were told
    by-take : (f : EndId) (n : ℕ) (p : Pid) (late : Bool) → x ≡ step.Take f n p late → o ≡ opposite f → Next
    by-take f n p late its on = with-both (m ∷ []) [] (ap messages (taken-it s x o f n p late m its on matched)) (ap (λ z. told_in o (given_by z)) its) (by h)
      where
        step_is : IsServiceStep s (step.Take f n p late) t
        step_is = subst (λ z. IsServiceStep s z t) its is

        m : Message
        m = (take-matched s f n p late k step_is.allowed).0

        matched : (s.ends f).outward ≡ outward.Matched m
        matched = (take-matched s f n p late k step_is.allowed).1

        stands : Contains (t.process p.0).reports (receive_report o m.bytes m.carried)
        stands = subst (λ z. Contains (t.process p.0).reports (receive_report z m.bytes m.carried)) (sym on) (take-stands s f n p late t m step_is matched)

        inn : (i : ℕ) × ((s.ends o).inward ≡ inward.Matched i)
        inn = subst (λ z. (i : ℕ) × ((s.ends z).inward ≡ inward.Matched i)) (sym on) (take-inward s f n p late k step_is.allowed)

        owned : (s.ends o).place ≡ place.Owned p
        owned = subst (λ z. (s.ends z).place ≡ place.Owned p) (sym on) (take-owned s f n p late k step_is.allowed)

        differ : (i : ℕ) → (s.ends o).inward ≡ inward.Matched i → is_unreported_inward (s.ends o).inward ≡ true → ⊥
        differ i is_matched is_over = true≢false (sym is_over ∙ ap is_unreported_inward is_matched)

        apart : place.Owned p ≡ place.Destroyed → ⊥
        apart same = cc

        by : Telling s o took told → Telling t o (took ++ m ∷ []) (told ++ [])
        by (all_told same none) = one_stands m p (ap (λ l. l ++ m ∷ []) (same ∙ sym (append-nil told))) stands
        by (one_stands a q same there) = absurd (differ inn.0 inn.1 (over-at s o k q (receive_report o a.bytes a.carried) there (its-receipt o a)))
        by (one_lost a same gone none) = absurd (apart (sym owned ∙ gone))

    -- a report is given: it was the one that stood
    by-report : (p : Pid) (r : Report) → x ≡ step.Report p r → is_receipt o r ≡ true → Next
    unfolding idles turns_inward
    by-report p r its it = with-both [] (told_by o r) (ap (λ z. messages (taken_by o s z)) its) (given-it x o p r its) (by h)
      where
        step_is : IsServiceStep s (step.Report p r) t
        step_is = subst (λ z. IsServiceStep s z t) its is

        there : Contains (s.process p.0).reports r
        there = oldest-there (s.process p.0).reports r step_is.allowed.1

        facts : IsReceipt o r
        facts = receipt-is o r it

        not-idle : (s.ends o).inward ≡ inward.Idle → ⊥
        not-idle idle = true≢false (sym (over-at s o k p r there it) ∙ ap is_unreported_inward idle)

        idle : (t.ends o).inward ≡ inward.Idle
        idle = ap (λ z. (z.ends o).inward) step_is.after ∙ idled
          where
            idled : (idles r.way r.on s.ends o).inward ≡ inward.Idle
            idled =
                subst (λ w. (idles w r.on s.ends o).inward ≡ inward.Idle) (sym facts.received)
                (subst (λ z. (puts z (record (s.ends z) { inward = inward.Idle }) s.ends o).inward ≡ inward.Idle) (sym facts.on)
                (ap (λ z. z.inward) (puts-at o (record (s.ends o) { inward = inward.Idle }) s.ends (busy-made s o k (busy-inward (s.ends o) not-idle)))))

        none : NoneStands t o
        none q a at = by (is_receipt o a) refl
          where
            by : (b : Bool) → is_receipt o a ≡ b → b ≡ false
            by true is_a = absurd (true≢false (sym (over-at t o after q a at is_a) ∙ ap is_unreported_inward idle))
            by false is_a = refl

        by : Telling s o took told → Telling t o (took ++ []) (told ++ told_by o r)
        by (all_told same none_before) = absurd (true≢false (sym it ∙ none_before p r there))
        by (one_lost a same gone none_before) = absurd (true≢false (sym it ∙ none_before p r there))
        by (one_stands a q same stood) =
            let one = (the-one s k p q r (receive_report o a.bytes a.carried) there stood it (its-receipt o a)).1 in
            all_told (append-nil took ∙ same ∙ ap (λ l. told ++ l) (sym (told-it o (receive_report o a.bytes a.carried) (its-receipt o a)) ∙ ap (told_by o) (sym one))) none

    -- no take, and no report of a take
    by-neither : taken_by o s x ≡ [] → told_in o (given_by x) ≡ [] → Next
    by-neither no_taken no_told = with-both [] [] (ap messages no_taken) no_told (by h)
      where
        longer : (m : Message) → took ≡ told ++ m ∷ [] → took ++ [] ≡ (told ++ []) ++ m ∷ []
        longer m same = append-nil took ∙ same ∙ ap (λ l. l ++ m ∷ []) (sym (append-nil told))

        no-longer : (m : Message) → m ∷ [] ≡ [] → ⊥
        no-longer m same = cc

        -- the process of the report ends, and with it the end that it owns
        ended : (p : Pid) (m : Message) → took ≡ told ++ m ∷ [] → Contains (s.process p.0).reports (receive_report o m.bytes m.carried) → x ≡ step.Exit p → Telling t o (took ++ []) (told ++ [])
        ended p m same stood its = one_lost m (longer m same) gone (none-after no_taken old)
          where
            r : Report
            r = receive_report o m.bytes m.carried

            step_is : IsServiceStep s (step.Exit p) t
            step_is = subst (λ z. IsServiceStep s z t) its is

            empty : (a : Report) → Contains [] a → ⊥
            empty a (i, below, equal) = absurd (omega arith)

            old : (q : Pid) (a : Report) → Contains (t.process q.0).reports a → Contains (s.process q.0).reports a → is_receipt o a ≡ false
            old q a now before = by (is_receipt o a) refl
              where
                by : (b : Bool) → is_receipt o a ≡ b → b ≡ false
                by true is_a =
                    let owner = (the-one s k p q r a stood before (its-receipt o m) is_a).0 in
                    absurd (empty a (subst (λ z. Contains z.reports a) (exit-none s p t step_is) (subst (λ i. Contains (t.process i).reports a) owner now)))
                by false is_a = refl

            gone : IsGone t.ends o
            gone = exit-gone s p t o k after step_is (over-at s o k p r stood (its-receipt o m)) (λ lives. k.reported.own p r stood lives)

        stays : (p : Pid) (m : Message) → took ≡ told ++ m ∷ [] → Contains (s.process p.0).reports (receive_report o m.bytes m.carried) → Contains (t.process p.0).reports (receive_report o m.bytes m.carried) ⊎ IsDue x p (receive_report o m.bytes m.carried) → Telling t o (took ++ []) (told ++ [])
        stays p m same stood (inl still) = one_stands m p (longer m same) still
        stays p m same stood (inr (inl its)) = absurd (no-longer m (sym (told-it o (receive_report o m.bytes m.carried) (its-receipt o m)) ∙ sym (given-it x o p (receive_report o m.bytes m.carried) its) ∙ no_told))
        stays p m same stood (inr (inr its)) = ended p m same stood its

        by : Telling s o took told → Telling t o (took ++ []) (told ++ [])
        by (all_told same none) = all_told (append-nil took ∙ same ∙ sym (append-nil told)) (none-after no_taken (λ p r now before. none p r before))
        by (one_stands m p same stood) = stays p m same stood (reports-stay s x t is p (receive_report o m.bytes m.carried) stood)
        by (one_lost m same gone none) = one_lost m (longer m same) (gone-stays s x t o k is gone) (none-after no_taken (λ p r now before. none p r before))

    pub next-telling : Next
    next-telling = by (what s x o)
      where
        by : What s x o → Next
        by (takes f n p late its on) = by-take f n p late its on
        by (tells p r its it) = by-report p r its it
        by (neither no_taken no_told) = by-neither no_taken no_told
