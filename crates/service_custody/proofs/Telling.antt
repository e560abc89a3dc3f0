-- What the owner of an end is told of messages: by the report that a step gives, and by those that stand before and after it.
use Rattle.std.proofs.Common.{◌≡◌, ◌≢◌, ℕ, Bool, true, false, true≢false, nat_eq, ◌&&◌, ◌⊎◌, inl, inr, if◌then◌else◌, Option, Some, None, List, [], ◌∷◌, ◌++◌, append-nil, Contains, refl, sym, ap, subst, ◌∙◌, arith}
use Rattle.std.proofs.lemmas.Grind.{flat_map-append}
use Rattle.charlotte_calls.specs.Names.{opposite}
use Rattle.charlotte_calls.specs.declared.calls.Report.{Report}
use Rattle.charlotte_calls.specs.declared.calls.ServiceStep.{ServiceStep}
use Rattle.charlotte_calls.specs.declared.calls.ServiceStep.TheVariants as step
use Rattle.charlotte_calls.specs.declared.names.EndId.{EndId}
use Rattle.charlotte_calls.specs.declared.names.Outcome.{Outcome}
use Rattle.charlotte_calls.specs.declared.names.Outcome.TheVariants as outcome
use Rattle.charlotte_calls.specs.declared.names.Pid.{Pid}
use Rattle.charlotte_calls.specs.declared.names.Way.{Way}
use Rattle.charlotte_calls.specs.declared.names.Way.TheVariants as way
use Rattle.service_change.proofs.Counts.{and-true, count-Contains, pid_tells}
use Rattle.service_change.proofs.EndEq.{end_eq-same}
use Rattle.service_change.proofs.Facts.{busy-away, busy-inward, busy-made}
use Rattle.service_consistent.proofs.Laws.{consistent_after}
use Rattle.service_consistent.proofs.StepsOfMessages.{take-inward, take-matched}
use Rattle.service_custody.proofs.Gains.{Gain, adds, ended, gain, gained, to_each}
use Rattle.service_custody.proofs.Turns.{report-its}
use Rattle.service_custody.specs.Coming.{reported_to}
use Rattle.service_custody.specs.Moves.{given_to}
use Rattle.service_lawful.specs.Consistent.{IsConsistent, is_report_on, reports_on, way_eq}
use Rattle.service_step.specs.Ends.{end_eq, is_idle, is_living, is_started_inward, is_made, is_unreported_inward, matched_message, owner, waiting_message}
use Rattle.service_step.specs.State.{State, dead_receive_report, receive_report, send_report}
use Rattle.service_step.specs.Steps.{IsServiceStep, dead_reports, done_reports, returned_reports}
use Rattle.service_step.specs.declared.state.End.{End}
use Rattle.service_step.specs.declared.state.Message.{Message}
use Rattle.service_step.specs.declared.state.Place.{Place}
use Rattle.service_step.specs.declared.state.Place.TheVariants as place
use Rattle.service_streams.proofs.Pending.{IsDue, reports-stay, take-stands}
use Rattle.service_streams.proofs.Places.{IsGone, exit-gone, gone-stays, oldest-there}
use Rattle.service_streams.proofs.Told.{is_receipt, its-receipt, over-at, told-none}
use Rattle.service_streams.specs.Streams.{given_by, is_done, messages, numbered, taken_by, told_by, told_in}

told-append : (x : EndId) (a b : List Report) → told_in x (a ++ b) ≡ told_in x a ++ told_in x b
told-append x a b = flat_map-append (told_by x) a b

-- a message, or none
abbrev list_if : Bool → Message → List Message
list_if b m = if b then m ∷ [] else []

-- what reports tell of an end

told-sent : (x e : EndId) (o : Outcome) (xs : List EndId) → told_by x (send_report e o xs) ≡ []
told-sent x e o xs = by (end_eq x e)
  where
    by : (b : Bool) → list_if ((b && false) && is_done o) (record { bytes = []; carried = xs }) ≡ []
    by true = refl
    by false = refl

told-returned : (x e : EndId) (o : Option Message) → told_in x (returned_reports e o) ≡ []
told-returned x e None = refl
told-returned x e (Some m) = ap (λ l. l ++ []) (told-sent x e outcome.Destroyed m.carried)

told-dead : (x e : EndId) (b : Bool) → told_in x (if b then dead_receive_report e ∷ [] else []) ≡ []
told-dead x e false = refl
told-dead x e true = by (end_eq x e)
  where
    by : (c : Bool) → list_if ((c && true) && false) (record { bytes = []; carried = [] }) ++ [] ≡ []
    by true = refl
    by false = refl

told-both : (x e : EndId) (o : Option Message) (y : End) → told_in x (returned_reports e o ++ dead_reports e y) ≡ []
told-both x e o y = told-append x (returned_reports e o) (dead_reports e y) ∙ ap (λ l. l ++ told_in x (dead_reports e y)) (told-returned x e o) ∙ told-dead x e (is_started_inward y.inward)

told-back : (x e : EndId) (o : Option Message) (y : End) (b : Bool) → told_in x (if b then returned_reports e o else returned_reports e o ++ dead_reports e y) ≡ []
told-back x e o y true = told-returned x e o
told-back x e o y false = told-both x e o y

told-each : (x : EndId) (o : Option Pid) (rs : List Report) (q : Pid) → told_in x rs ≡ [] → told_in x (to_each o rs q) ≡ []
told-each x None rs q none = refl
told-each x (Some p) rs q none = by (nat_eq p.0 q.0)
  where
    by : (b : Bool) → told_in x (if b then rs else []) ≡ []
    by true = none
    by false = refl

told-done : (x e : EndId) (n : ℕ) (o : Option Message) → told_in x (done_reports e o) ≡ messages (if end_eq x e then numbered n o else [])
told-done x e n None = by (end_eq x e)
  where
    by : (b : Bool) → [] ≡ messages (if b then numbered n None else [])
    by true = refl
    by false = refl
told-done x e n (Some m) = by (end_eq x e)
  where
    by : (b : Bool) → list_if ((b && true) && true) (record { bytes = m.bytes; carried = m.carried }) ++ [] ≡ messages (if b then numbered n (Some m) else [])
    by true = refl
    by false = refl

-- a step takes at x for no other than q
abbrev TakesFor : EndId → ServiceStep → Pid → Type 0
TakesFor x made q = (e : EndId) (n : ℕ) (p : Pid) (late : Bool) → made ≡ step.Take e n p late → x ≡ opposite e → p ≡ q

told-gained : (s : State) (x : EndId) (made : ServiceStep) (q : Pid) → TakesFor x made q → told_in x (gained s made q) ≡ messages (taken_by x s made)
told-gained s x (step.Take e n p late) q one = by (end_eq x (opposite e)) refl (pid_tells p q)
  where
    o : Option Message
    o = matched_message (s.ends e).outward

    whole : told_in x (done_reports (opposite e) o) ≡ messages (if end_eq x (opposite e) then numbered n o else [])
    whole = told-done x (opposite e) n o

    by : (b : Bool) → end_eq x (opposite e) ≡ b → ((nat_eq p.0 q.0 ≡ true) × (p ≡ q)) ⊎ ((nat_eq p.0 q.0 ≡ false) × (p.0 ≢ q.0)) → told_in x (to_each (Some p) (done_reports (opposite e) o) q) ≡ messages (if end_eq x (opposite e) then numbered n o else [])
    by b is (inl same) = ap (λ c. told_in x (if c then done_reports (opposite e) o else [])) same.0 ∙ whole
    by true is (inr apart) = absurd (apart.1 (ap (λ z. z.0) (one e n p late refl (end_eq-same x (opposite e) is))))
    by false is (inr apart) = ap (λ c. told_in x (if c then done_reports (opposite e) o else [])) apart.0 ∙ ap (λ c. messages (if c then numbered n o else [])) (sym is)
told-gained s x (step.Complete e n) q one = told-each x (owner (s.ends e).place) (send_report e outcome.Done [] ∷ []) q (ap (λ l. l ++ []) (told-sent x e outcome.Done []))
told-gained s x (step.Notice e dead) q one = told-each x (owner (s.ends e).place) (returned_reports e (waiting_message (s.ends e).outward) ++ dead_reports e (s.ends e)) q (told-both x e (waiting_message (s.ends e).outward) (s.ends e))
told-gained s x (step.Back e n dead) q one =
    told-each x (owner (s.ends e).place) (if (s.ends e).noticed then returned_reports e (matched_message (s.ends e).outward) else returned_reports e (matched_message (s.ends e).outward) ++ dead_reports e (s.ends e)) q
    (told-back x e (matched_message (s.ends e).outward) (s.ends e) (s.ends e).noticed)
told-gained s x _ q one = refl

-- a report Done of a receive
receipt-on : (x : EndId) (r : Report) → is_receipt x r ≡ true → (r.on ≡ x) × (r.way ≡ way.Inward)
receipt-on x r is = (sym (end_eq-same x r.on (and-true _ _ both).0), received r.way (and-true _ _ both).1)
  where
    both : end_eq x r.on && way_eq way.Inward r.way ≡ true
    both = (and-true (is_report_on x way.Inward r) (is_done r.outcome) is).0

    received : (w : Way) → way_eq way.Inward w ≡ true → w ≡ way.Inward
    received way.Inward is = refl
    received way.Outward is = absurd (true≢false (sym is))

-- of a receive that is not over nothing is told
none-stands : (u : State) → IsConsistent u → (x : EndId) → is_unreported_inward (u.ends x).inward ≡ false → (q : Pid) → told_in x (u.process q.0).reports ≡ []
none-stands u k x not q = told-none x (u.process q.0).reports (λ r there. by r there (is_receipt x r) refl)
  where
    by : (r : Report) → Contains (u.process q.0).reports r → (b : Bool) → is_receipt x r ≡ b → b ≡ false
    by r there true it = absurd (true≢false (sym (over-at u x k q r there it) ∙ not))
    by r there false is = refl

pub reported-none : (u : State) → IsConsistent u → (x : EndId) → is_unreported_inward (u.ends x).inward ≡ false → (at : Place) → reported_to u x at ≡ []
reported-none u k x not (place.Owned q) = none-stands u k x not q
reported-none u k x not (place.InMessage f n) = refl
reported-none u k x not place.Destroyed = refl
reported-none u k x not place.Unmade = refl

-- an end whose receive is over is owned, or destroyed
over-owned : (u : State) → IsConsistent u → (x : EndId) → is_unreported_inward (u.ends x).inward ≡ true → ((q : Pid) × ((u.ends x).place ≡ place.Owned q)) ⊎ IsGone u.ends x
over-owned u k x over = by (u.ends x).place refl
  where
    busy : is_idle (u.ends x) ≡ false
    busy = busy-inward (u.ends x) (λ idle. true≢false (sym over ∙ ap is_unreported_inward idle))

    by : (at : Place) → (u.ends x).place ≡ at → ((q : Pid) × ((u.ends x).place ≡ place.Owned q)) ⊎ IsGone u.ends x
    by (place.Owned q) is = inl (q, is)
    by (place.InMessage f n) is = absurd (busy-away u x k busy f n is)
    by place.Destroyed is = inr is
    by place.Unmade is = absurd (true≢false (sym (busy-made u x k busy) ∙ ap is_made is))

owned-one : (at : Place) (p q : Pid) → at ≡ place.Owned p → at ≡ place.Owned q → p ≡ q
owned-one at p q a b = let same : place.Owned p ≡ place.Owned q = sym a ∙ b in cc

module _ (s : State) (made : ServiceStep) (t : State) (x : EndId) (k : IsConsistent s) (is : IsServiceStep s made t) where
  after : IsConsistent t
  after = consistent_after s made t k is

  abbrev pub Told : Type 0
  Told = told_in x (given_by made) ++ reported_to t x (t.ends x).place ≡ reported_to s x (s.ends x).place ++ messages (taken_by x s made)

  as-take : (e : EndId) (n : ℕ) (p : Pid) (late : Bool) → made ≡ step.Take e n p late → IsServiceStep s (step.Take e n p late) t
  as-take e n p late its = subst (λ z. IsServiceStep s z t) its is

  -- what a take takes at x was matched there, and is told after it
  take-was : (e : EndId) (n : ℕ) (p : Pid) (late : Bool) → made ≡ step.Take e n p late → x ≡ opposite e → is_unreported_inward (s.ends x).inward ≡ false
  take-was e n p late its on =
      let found = take-inward s e n p late k (as-take e n p late its).allowed in
      subst (λ z. is_unreported_inward (s.ends z).inward ≡ false) (sym on) (ap is_unreported_inward found.1)

  take-there : (e : EndId) (n : ℕ) (p : Pid) (late : Bool) → made ≡ step.Take e n p late → x ≡ opposite e → (r : Report) × Contains (t.process p.0).reports r × (is_receipt x r ≡ true)
  take-there e n p late its on =
      let found = take-matched s e n p late k (as-take e n p late its).allowed in (
        receive_report (opposite e) found.0.bytes found.0.carried,
        take-stands s e n p late t found.0 (as-take e n p late its) found.1,
        subst (λ z. is_receipt z (receive_report (opposite e) found.0.bytes found.0.carried) ≡ true) (sym on) (its-receipt (opposite e) found.0),
      )

  taken-none : ((e : EndId) (n : ℕ) (p : Pid) (late : Bool) → made ≡ step.Take e n p late → x ≡ opposite e → ⊥) → taken_by x s made ≡ []
  taken-none none = by made refl
    where
      by : (z : ServiceStep) → made ≡ z → taken_by x s z ≡ []
      by (step.Take e n p late) its = at (end_eq x (opposite e)) refl
        where
          at : (b : Bool) → end_eq x (opposite e) ≡ b → (if b then numbered n (matched_message (s.ends e).outward) else []) ≡ []
          at true on = absurd (none e n p late its (end_eq-same x (opposite e) on))
          at false apart = refl
      by _ its = refl

  given-none : is_unreported_inward (s.ends x).inward ≡ false → told_in x (given_by made) ≡ []
  given-none not = by made refl
    where
      by : (z : ServiceStep) → made ≡ z → told_in x (given_by z) ≡ []
      by (step.Report p r) its = append-nil (told_by x r) ∙ at (is_receipt x r) refl
        where
          step_is : IsServiceStep s (step.Report p r) t
          step_is = subst (λ z. IsServiceStep s z t) its is

          at : (b : Bool) → is_receipt x r ≡ b → list_if b (record { bytes = r.bytes; carried = r.enclosed }) ≡ []
          at true it = absurd (true≢false (sym (over-at s x k p r (oldest-there (s.process p.0).reports r step_is.allowed.1) it) ∙ not))
          at false none = refl
      by _ its = refl

  -- what is told is told to the owner
  given-same : (q : Pid) → (s.ends x).place ≡ place.Owned q → told_in x (given_by made) ≡ told_in x (given_to q made)
  given-same q owned = by made refl
    where
      by : (z : ServiceStep) → made ≡ z → told_in x (given_by z) ≡ told_in x (given_to q z)
      by (step.Report p r) its = at (pid_tells p q) (is_receipt x r) refl
        where
          step_is : IsServiceStep s (step.Report p r) t
          step_is = subst (λ z. IsServiceStep s z t) its is

          own : is_receipt x r ≡ true → p.0 ≡ q.0
          own it =
              let on = (receipt-on x r it).0 in
              ap (λ z. z.0) (owned-one (s.ends x).place p q (subst (λ z. (s.ends z).place ≡ place.Owned p) on (k.reported.own p r (oldest-there (s.process p.0).reports r step_is.allowed.1) (subst (λ z. is_living (s.ends z).place ≡ true) (sym on) (ap is_living owned)))) owned)

          at : ((nat_eq p.0 q.0 ≡ true) × (p ≡ q)) ⊎ ((nat_eq p.0 q.0 ≡ false) × (p.0 ≢ q.0)) → (b : Bool) → is_receipt x r ≡ b → told_in x (r ∷ []) ≡ told_in x (if nat_eq p.0 q.0 then r ∷ [] else [])
          at (inl same) b it = ap (λ c. told_in x (if c then r ∷ [] else [])) (sym same.0)
          at (inr apart) true it = absurd (apart.1 (own it))
          at (inr apart) false it = ap (λ b. list_if b (record { bytes = r.bytes; carried = r.enclosed }) ++ []) it ∙ ap (λ c. told_in x (if c then r ∷ [] else [])) (sym apart.0)
      by _ its = refl

  -- what q is told, before and after
  told-sum : (q : Pid) → given_to q made ++ (t.process q.0).reports ≡ (s.process q.0).reports ++ gained s made q → TakesFor x made q
      → told_in x (given_to q made) ++ told_in x (t.process q.0).reports ≡ told_in x (s.process q.0).reports ++ messages (taken_by x s made)
  told-sum q same one =
      sym (told-append x (given_to q made) (t.process q.0).reports) ∙ ap (told_in x) same ∙ told-append x (s.process q.0).reports (gained s made q)
      ∙ ap (λ l. told_in x (s.process q.0).reports ++ l) (told-gained s x made q one)

  -- the receive is not over, before and after
  told-quiet : is_unreported_inward (s.ends x).inward ≡ false → is_unreported_inward (t.ends x).inward ≡ false → Told
  told-quiet was now =
      ap (λ l. l ++ reported_to t x (t.ends x).place) (given-none was) ∙ reported-none t after x now (t.ends x).place
      ∙ sym (ap (λ l. l ++ messages (taken_by x s made)) (reported-none s k x was (s.ends x).place) ∙ ap messages (taken-none none))
    where
      none : (e : EndId) (n : ℕ) (p : Pid) (late : Bool) → made ≡ step.Take e n p late → x ≡ opposite e → ⊥
      none e n p late its on = let found = take-there e n p late its on in true≢false (sym (over-at t x after p found.0 found.1 found.2) ∙ now)

  -- it comes to be over
  told-new : is_unreported_inward (s.ends x).inward ≡ false → is_unreported_inward (t.ends x).inward ≡ true → Told ⊎ IsGone t.ends x
  told-new was now = by (over-owned t after x now)
    where
      by : ((q : Pid) × ((t.ends x).place ≡ place.Owned q)) ⊎ IsGone t.ends x → Told ⊎ IsGone t.ends x
      by (inr gone) = inr gone
      by (inl (q, owned)) = inl (ap (λ l. l ++ reported_to t x (t.ends x).place) (given-none was) ∙ ap (reported_to t x) owned ∙ at (gain s made t q is) ∙ sym (ap (λ l. l ++ messages (taken_by x s made)) (reported-none s k x was (s.ends x).place)))
        where
          one : TakesFor x made q
          one e n p late its on =
              let found = take-there e n p late its on in
              let r_on = (receipt-on x found.0 found.2).0 in
              owned-one (t.ends x).place p q (subst (λ z. (t.ends z).place ≡ place.Owned p) r_on (after.reported.own p found.0 found.1 (subst (λ z. is_living (t.ends z).place ≡ true) (sym r_on) (ap is_living owned)))) owned

          given : told_in x (given_to q made) ≡ []
          given = by_given made refl
            where
              by_given : (z : ServiceStep) → made ≡ z → told_in x (given_to q z) ≡ []
              by_given (step.Report p r) its = at_b (nat_eq p.0 q.0)
                where
                  none : told_in x (r ∷ []) ≡ []
                  none = ap (λ z. told_in x (given_by z)) (sym its) ∙ given-none was

                  at_b : (b : Bool) → told_in x (if b then r ∷ [] else []) ≡ []
                  at_b true = none
                  at_b false = refl
              by_given _ its = refl

          at : Gain s made t q → told_in x (t.process q.0).reports ≡ messages (taken_by x s made)
          at (adds same) =
              ap (λ l. l ++ told_in x (t.process q.0).reports) (sym given) ∙ told-sum q same one ∙ ap (λ l. l ++ messages (taken_by x s made)) (none-stands s k x was q)
          at (ended its none) = ap (told_in x) none ∙ sym (ap (λ z. messages (taken_by x s z)) its)

  -- it was over
  module _ (was : is_unreported_inward (s.ends x).inward ≡ true) where
    takes-none : (e : EndId) (n : ℕ) (p : Pid) (late : Bool) → made ≡ step.Take e n p late → x ≡ opposite e → ⊥
    takes-none e n p late its on = true≢false (sym was ∙ take-was e n p late its on)

    exits-gone : (q : Pid) → (s.ends x).place ≡ place.Owned q → made ≡ step.Exit q → IsGone t.ends x
    exits-gone q owned its = exit-gone s q t x k after (subst (λ z. IsServiceStep s z t) its is) was (λ lives. owned)

    -- its owner has it still, or it is destroyed, or its report was given
    stays-owned : (q : Pid) → (s.ends x).place ≡ place.Owned q → is_unreported_inward (t.ends x).inward ≡ true → ((t.ends x).place ≡ place.Owned q) ⊎ IsGone t.ends x
    stays-owned q owned now = by (over-owned t after x now)
      where
        found : (r : Report) × Contains (s.process q.0).reports r × (r.on ≡ x) × (r.way ≡ way.Inward)
        found = let one : reports_on x way.Inward (s.process q.0).reports ≡ 1 = k.reported.stands q x way.Inward owned was in count-Contains x way.Inward (s.process q.0).reports (omega arith)

        by : ((p : Pid) × ((t.ends x).place ≡ place.Owned p)) ⊎ IsGone t.ends x → ((t.ends x).place ≡ place.Owned q) ⊎ IsGone t.ends x
        by (inr gone) = inr gone
        by (inl (p, at_p)) = at (reports-stay s made t is q found.0 found.1)
          where
            given-idle : made ≡ step.Report q found.0 → ⊥
            given-idle its =
                true≢false (sym (subst (λ z. is_unreported_inward (t.ends z).inward ≡ true) (sym found.2) now) ∙ ap (λ z. is_unreported_inward z.inward) (report-its s q found.0 t k (subst (λ z. IsServiceStep s z t) its is) found.3).0)

            at : Contains (t.process q.0).reports found.0 ⊎ IsDue made q found.0 → ((t.ends x).place ≡ place.Owned q) ⊎ IsGone t.ends x
            at (inl there) = inl (subst (λ z. (t.ends z).place ≡ place.Owned q) found.2 (after.reported.own q found.0 there (subst (λ z. is_living (t.ends z).place ≡ true) (sym found.2) (ap is_living at_p))))
            at (inr (inl its)) = absurd (given-idle its)
            at (inr (inr its)) = inr (exits-gone q owned its)

    owned-told : (q : Pid) → (s.ends x).place ≡ place.Owned q → reported_to t x (t.ends x).place ≡ told_in x (t.process q.0).reports → Told ⊎ IsGone t.ends x
    owned-told q owned now = by (gain s made t q is)
      where
        by : Gain s made t q → Told ⊎ IsGone t.ends x
        by (ended its none) = inr (exits-gone q owned its)
        by (adds same) =
            inl (ap (λ l. l ++ reported_to t x (t.ends x).place) (given-same q owned) ∙ ap (λ l. told_in x (given_to q made) ++ l) now
            ∙ told-sum q same (λ e n p late its on. absurd (takes-none e n p late its on)) ∙ ap (λ at. reported_to s x at ++ messages (taken_by x s made)) (sym owned))

    told-over : Told ⊎ IsGone t.ends x
    told-over = by (over-owned s k x was)
      where
        at : (q : Pid) → (s.ends x).place ≡ place.Owned q → (b : Bool) → is_unreported_inward (t.ends x).inward ≡ b → Told ⊎ IsGone t.ends x
        at q owned false now = owned-told q owned (reported-none t after x now (t.ends x).place ∙ sym (none-stands t after x now q))
        at q owned true now = here (stays-owned q owned now)
          where
            here : ((t.ends x).place ≡ place.Owned q) ⊎ IsGone t.ends x → Told ⊎ IsGone t.ends x
            here (inl still) = owned-told q owned (ap (reported_to t x) still)
            here (inr gone) = inr gone

        by : ((q : Pid) × ((s.ends x).place ≡ place.Owned q)) ⊎ IsGone s.ends x → Told ⊎ IsGone t.ends x
        by (inl (q, owned)) = at q owned (is_unreported_inward (t.ends x).inward) refl
        by (inr gone) = inr (gone-stays s made t x k is gone)

  pub next-told : Told ⊎ IsGone t.ends x
  next-told = by (is_unreported_inward (s.ends x).inward) refl (is_unreported_inward (t.ends x).inward) refl
    where
      by : (b : Bool) → is_unreported_inward (s.ends x).inward ≡ b → (c : Bool) → is_unreported_inward (t.ends x).inward ≡ c → Told ⊎ IsGone t.ends x
      by true was c now = told-over was
      by false was true now = told-new was now
      by false was false now = inl (told-quiet was now)
