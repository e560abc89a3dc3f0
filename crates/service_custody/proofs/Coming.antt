-- What comes to an end, over a step: what is told was the first, and what is sent on the opposite end comes behind all else.
use Rattle.std.proofs.Common.{◌≡◌, ℕ, Bool, true, false, true≢false, ◌⊎◌, inl, inr, if◌then◌else◌, is_some, Option, Some, None, IsSome, List, [], ◌∷◌, ◌++◌, append-nil, append_assoc, refl, sym, ap, subst, ◌∙◌}
use Rattle.std.proofs.lemmas.List.{map-append}
use Rattle.charlotte_calls.specs.Names.{opposite}
use Rattle.charlotte_calls.specs.declared.calls.Report.{Report}
use Rattle.charlotte_calls.specs.declared.calls.ServiceStep.{ServiceStep}
use Rattle.charlotte_calls.specs.declared.calls.ServiceStep.TheVariants as step
use Rattle.charlotte_calls.specs.declared.names.EndId.{EndId}
use Rattle.charlotte_calls.specs.declared.names.Pid.{Pid}
use Rattle.charlotte_calls.specs.declared.names.Way.{Way}
use Rattle.charlotte_calls.specs.declared.names.Way.TheVariants as way
use Rattle.service_change.proofs.Counts.{and-true}
use Rattle.service_change.proofs.EndEq.{end_eq-same, opposite-opposite}
use Rattle.service_change.proofs.Facts.{not-true}
use Rattle.service_consistent.proofs.Laws.{consistent_after}
use Rattle.service_custody.proofs.Matching.{noticed-before}
use Rattle.service_custody.proofs.Telling.{Told, next-told, reported-none}
use Rattle.service_custody.proofs.Turns.{Turn, frees, gets, marked, meets, starts, stays, tells, turn, withdraws}
use Rattle.service_custody.specs.Coming.{AreMatched, ComesSo, Drops, Goes, Gone, coming, on_way, reported_to}
use Rattle.service_lawful.specs.Consistent.{IsConsistent, is_over}
use Rattle.service_runs.proofs.Moves.{puts-apart, puts-either, turns_inward-sends}
use Rattle.service_step.specs.Ends.{end_eq, idles, is_living, is_unreported_inward, is_unreported_outward, matched_message, owner, puts, turns_outward}
use Rattle.service_step.specs.Lawful.{message_of}
use Rattle.service_step.specs.State.{State}
use Rattle.service_step.specs.Steps.{IsServiceStep, may_send_as}
use Rattle.service_step.specs.declared.state.End.{End}
use Rattle.service_step.specs.declared.state.Inward.TheVariants as inward
use Rattle.service_step.specs.declared.state.Message.{Message}
use Rattle.service_step.specs.declared.state.Outward.{Outward}
use Rattle.service_step.specs.declared.state.Outward.TheVariants as outward
use Rattle.service_step.specs.declared.state.Place.TheVariants as place
use Rattle.service_streams.proofs.Kept.{IsClosed, IsKept, next-kept}
use Rattle.service_streams.proofs.Places.{IsGone, oldest-there}
use Rattle.service_streams.specs.Streams.{Sent, but_last, cancels_send, given_by, kept_by, messages, numbered, outstanding, sent_by, taken_by, told_in}

-- a step that sends on an end is of its owner
sent-none : (s : State) (made : ServiceStep) (t : State) (f : EndId) → IsServiceStep s made t → IsGone s.ends f → sent_by f made ≡ []
sent-none s (step.Send e n bytes xs) t f is gone = by (end_eq f e) refl
  where
    nobody : (e : EndId) → IsGone s.ends e → may_send_as s (owner (s.ends e).place) e n xs ≡ true → ⊥
    nobody e gone may = true≢false (sym may ∙ ap (λ at. may_send_as s (owner at) e n xs) gone)

    by : (b : Bool) → end_eq f e ≡ b → (if b then numbered n (Some (record { bytes = bytes; carried = xs })) else []) ≡ []
    by true same = absurd (nobody e (subst (IsGone s.ends) (end_eq-same f e same) gone) is.allowed)
    by false apart = refl
sent-none s _ t f is gone = refl

-- nor is a message taken where the death was noticed
taken-none : (s : State) (made : ServiceStep) (t : State) (x : EndId) → IsServiceStep s made t → (s.ends x).noticed ≡ true → taken_by x s made ≡ []
taken-none s (step.Take e n p late) t x is noticed = by (not-true _ (and-true _ _ (and-true _ _ (and-true _ _ is.allowed).0).0).1) (end_eq x (opposite e)) refl
  where
    by : (s.ends (opposite e)).noticed ≡ false → (b : Bool) → end_eq x (opposite e) ≡ b → (if b then numbered n (matched_message (s.ends e).outward) else []) ≡ []
    by silent true same = absurd (true≢false (sym (subst (λ z. (s.ends z).noticed ≡ true) (end_eq-same x (opposite e) same) noticed) ∙ silent))
    by silent false apart = refl
taken-none s _ t x is noticed = refl

-- a report that is given leaves each message
unreported-none : (o : Outward) → is_unreported_outward o ≡ true → message_of o ≡ None
unreported-none outward.Unreported is = refl
unreported-none outward.Idle is = refl
unreported-none (outward.Waiting m) is = absurd (true≢false (sym is))
unreported-none (outward.Matched m) is = absurd (true≢false (sym is))
unreported-none outward.Taken is = refl

report-outstanding : (s : State) (p : Pid) (r : Report) (t : State) (f : EndId) → IsConsistent s → IsServiceStep s (step.Report p r) t → outstanding (t.ends f) ≡ outstanding (s.ends f)
unfolding idles turns_outward
report-outstanding s p r t f k is = by r.way refl (ap (λ z. z.ends f) is.after)
  where
    y : End
    y = record (s.ends r.on) { outward = outward.Idle }

    none : r.way ≡ way.Outward → message_of (s.ends r.on).outward ≡ None
    none sent = unreported-none (s.ends r.on).outward (subst (λ w. is_over w (s.ends r.on) ≡ true) sent (k.reported.over p r (oldest-there (s.process p.0).reports r is.allowed.1)))

    its : r.way ≡ way.Outward → (puts r.on y s.ends r.on ≡ y) ⊎ (puts r.on y s.ends r.on ≡ s.ends r.on) → outstanding (puts r.on y s.ends r.on) ≡ outstanding (s.ends r.on)
    its sent (inl put) = ap outstanding put ∙ sym (ap (numbered (s.ends r.on).sent) (none sent))
    its sent (inr kept) = ap outstanding kept

    by : (w : Way) → r.way ≡ w → t.ends f ≡ idles w r.on s.ends f → outstanding (t.ends f) ≡ outstanding (s.ends f)
    by way.Inward received after = ap outstanding after ∙ ap (λ z. numbered z.sent (message_of z.outward)) (turns_inward-sends inward.Idle r.on s.ends f)
    by way.Outward sent after = ap outstanding after ∙ at (end_eq f r.on) refl
      where
        at : (b : Bool) → end_eq f r.on ≡ b → outstanding (puts r.on y s.ends f) ≡ outstanding (s.ends f)
        at true same = subst (λ z. outstanding (puts r.on y s.ends z) ≡ outstanding (s.ends z)) (sym (end_eq-same f r.on same)) (its sent (puts-either r.on y s.ends))
        at false apart = ap outstanding (puts-apart r.on f y s.ends apart)

-- the message on its way, before and after
data OnWay (s : State) (made : ServiceStep) (t : State) (x : EndId) : Type 0 where
  goes : messages (taken_by x s made) ++ on_way t x ≡ on_way s x ++ messages (sent_by (opposite x) made) → OnWay s made t x
  drops : IsGone t.ends (opposite x) → on_way t x ≡ [] → told_in x (given_by made) ≡ [] → (rest : List Message) → messages (taken_by x s made) ++ rest ≡ on_way s x → OnWay s made t x
  gone : IsGone t.ends x → OnWay s made t x

-- a step at which the death is noticed tells, takes and sends nothing
marked-none : (s : State) (x : EndId) (made : ServiceStep) (dead : Bool) → (made ≡ step.Notice x dead) ⊎ ((n : ℕ) × (made ≡ step.Back x n dead)) → (told_in x (given_by made) ≡ []) × (taken_by x s made ≡ [])
marked-none s x made dead (inl its) = (ap (λ z. told_in x (given_by z)) its, ap (taken_by x s) its)
marked-none s x made dead (inr (n, its)) = (ap (λ z. told_in x (given_by z)) its, ap (taken_by x s) its)

module _ (s : State) (made : ServiceStep) (t : State) (x : EndId) (k : IsConsistent s) (is : IsServiceStep s made t) (not : cancels_send (opposite x) made ≡ false) where
  open-way : (u : State) → (u.ends x).noticed ≡ false → on_way u x ≡ messages (outstanding (u.ends (opposite x)))
  open-way u silent = ap (λ b. if b then [] else messages (outstanding (u.ends (opposite x)))) silent

  shut-way : (u : State) → (u.ends x).noticed ≡ true → on_way u x ≡ []
  shut-way u noticed = ap (λ b. if b then [] else messages (outstanding (u.ends (opposite x)))) noticed

  -- the death was noticed before
  way-shut : (s.ends x).noticed ≡ true → (t.ends x).noticed ≡ true → OnWay s made t x
  way-shut was now =
      goes
      (ap (λ l. messages l ++ on_way t x) (taken-none s made t x is was) ∙ shut-way t now
      ∙ sym (ap (λ l. l ++ messages (sent_by (opposite x) made)) (shut-way s was) ∙ ap messages (sent-none s made t (opposite x) is (k.noticed.opposite x was))))

  -- it is noticed now
  way-marked : (s.ends x).noticed ≡ false → (t.ends x).noticed ≡ true → Turn s made t x → OnWay s made t x
  way-marked was now turned = by turned
    where
      after : IsConsistent t
      after = consistent_after s made t k is

      same : (t.ends x).noticed ≡ (s.ends x).noticed → OnWay s made t x
      same still = absurd (true≢false (sym now ∙ still ∙ was))

      by : Turn s made t x → OnWay s made t x
      by (marked dead its noticed inn) =
          let none = marked-none s x made dead its in
          drops (after.noticed.opposite x now) (shut-way t now) none.0 (on_way s x) (ap (λ l. messages l ++ on_way s x) none.1)
      by (stays still) = same (ap (λ z. z.noticed) still)
      by (starts its idle now_is) = same (ap (λ z. z.noticed) now_is)
      by (meets n its posted inn still) = same still
      by (gets n i p late its matched inn still) = same still
      by (withdraws its posted now_is) = same (ap (λ z. z.noticed) now_is)
      by (frees its withdrawn now_is) = same (ap (λ z. z.noticed) now_is)
      by (tells p r its on received over now_is) = same (ap (λ z. z.noticed) now_is)

  -- it is not noticed
  module _ (was : (s.ends x).noticed ≡ false) (now : (t.ends x).noticed ≡ false) where
    kept : IsKept (kept_by (opposite x) (outstanding (s.ends (opposite x))) made) ([] ++ taken_by (opposite (opposite x)) s made) t (opposite x)
    kept = next-kept (outstanding (s.ends (opposite x))) [] s made t (opposite x) k is (record { lost = []; all = refl; closed = inl refl })

    whole : outstanding (s.ends (opposite x)) ++ sent_by (opposite x) made ≡ (taken_by x s made ++ kept.lost) ++ outstanding (t.ends (opposite x))
    whole =
        ap (λ b. if b then but_last (outstanding (s.ends (opposite x))) else outstanding (s.ends (opposite x)) ++ sent_by (opposite x) made) (sym not) ∙ kept.all
        ∙ ap (λ z. (taken_by z s made ++ kept.lost) ++ outstanding (t.ends (opposite x))) (opposite-opposite x)

    way-goes : kept.lost ≡ [] → OnWay s made t x
    way-goes none =
        goes
        (ap (λ l. messages (taken_by x s made) ++ l) (open-way t now) ∙ sym (map-append (λ m. m.message) (taken_by x s made) (outstanding (t.ends (opposite x))))
        ∙ ap (λ l. messages (l ++ outstanding (t.ends (opposite x)))) (sym (append-nil (taken_by x s made)) ∙ ap (λ l. taken_by x s made ++ l) (sym none)) ∙ ap messages (sym whole)
        ∙ map-append (λ m. m.message) (outstanding (s.ends (opposite x))) (sent_by (opposite x) made) ∙ ap (λ l. l ++ messages (sent_by (opposite x) made)) (sym (open-way s was)))

    -- something is lost, with the opposite end
    way-lost : IsGone t.ends (opposite x) → outstanding (t.ends (opposite x)) ≡ [] → (l : List Sent) → kept.lost ≡ l → (l ≡ [] → ⊥) → OnWay s made t x
    way-lost is_gone none l is_l some = by made refl
      where
        shut : on_way t x ≡ []
        shut = open-way t now ∙ ap messages none

        rest : sent_by (opposite x) made ≡ [] → messages (taken_by x s made) ++ messages kept.lost ≡ on_way s x
        rest quiet =
            sym (map-append (λ m. m.message) (taken_by x s made) kept.lost)
            ∙ ap messages (sym (append-nil (taken_by x s made ++ kept.lost)) ∙ ap (λ z. (taken_by x s made ++ kept.lost) ++ z) (sym none) ∙ sym whole ∙ ap (λ z. outstanding (s.ends (opposite x)) ++ z) quiet ∙ append-nil (outstanding (s.ends (opposite x))))
            ∙ sym (open-way s was)

        by : (z : ServiceStep) → made ≡ z → OnWay s made t x
        by (step.Report p r) its =
            let nothing : outstanding (s.ends (opposite x)) ≡ [] = sym (report-outstanding s p r t (opposite x) k (subst (λ z. IsServiceStep s z t) its is)) ∙ none in
            absurd
            (some
            (sym is_l ∙ sym (append-nil kept.lost) ∙ ap (λ z. kept.lost ++ z) (sym none) ∙ ap (λ z. (z ++ kept.lost) ++ outstanding (t.ends (opposite x))) (sym (ap (taken_by x s) its)) ∙ sym whole
            ∙ ap (λ z. z ++ sent_by (opposite x) made) nothing ∙ ap (sent_by (opposite x)) its))
        by (step.Send e n bytes xs) its = drops is_gone shut (ap (λ z. told_in x (given_by z)) its) (on_way s x) (ap (λ z. messages (taken_by x s z) ++ on_way s x) its)
        by _ its = drops is_gone shut (ap (λ z. told_in x (given_by z)) its) (messages kept.lost) (rest (ap (sent_by (opposite x)) its))

    way-open : OnWay s made t x
    way-open = by kept.closed kept.lost refl
      where
        some : (a : Sent) (l : List Sent) → a ∷ l ≡ [] → ⊥
        some a l same = cc

        by : (kept.lost ≡ []) ⊎ IsClosed t (opposite x) → (l : List Sent) → kept.lost ≡ l → OnWay s made t x
        by (inl none) l is_l = way-goes none
        by (inr (inl dead)) l is_l = gone (subst (IsGone t.ends) (opposite-opposite x) dead)
        by (inr (inr both)) [] is_l = way-goes is_l
        by (inr (inr both)) (a ∷ l) is_l = way-lost both.0 both.1 (a ∷ l) is_l (some a l)

  next-way : OnWay s made t x
  next-way = by (s.ends x).noticed refl (t.ends x).noticed refl
    where
      turned : Turn s made t x
      turned = turn s t x k made is

      by : (b : Bool) → (s.ends x).noticed ≡ b → (c : Bool) → (t.ends x).noticed ≡ c → OnWay s made t x
      by true was true now = way-shut was now
      by true was false now = absurd (true≢false (sym was ∙ noticed-before s made t x turned now))
      by false was true now = way-marked was now turned
      by false was false now = way-open was now

  next-comes : ComesSo s made t x
  next-comes = by (next-told s made t x k is) next-way
    where
      given : List Message
      given = told_in x (given_by made)

      by : Told s made t x k is ⊎ IsGone t.ends x → OnWay s made t x → ComesSo s made t x
      by (inr dead) way_is = Gone dead
      by (inl told) (gone dead) = Gone dead
      by (inl told) (goes same) =
          Goes
          (sym (append_assoc (told_in x (given_by made)) (reported_to t x (t.ends x).place) (on_way t x)) ∙ ap (λ l. l ++ on_way t x) told ∙ append_assoc (reported_to s x (s.ends x).place) (messages (taken_by x s made)) (on_way t x)
          ∙ ap (λ l. reported_to s x (s.ends x).place ++ l) same ∙ sym (append_assoc (reported_to s x (s.ends x).place) (on_way s x) (messages (sent_by (opposite x) made))))
      by (inl told) (drops dead shut quiet rest same) =
          Drops dead quiet (
            rest,
            ap (λ l. (reported_to t x (t.ends x).place ++ l) ++ rest) shut ∙ ap (λ l. l ++ rest) (append-nil (reported_to t x (t.ends x).place) ∙ ap (λ l. l ++ reported_to t x (t.ends x).place) (sym quiet) ∙ told)
                ∙ append_assoc (reported_to s x (s.ends x).place) (messages (taken_by x s made)) rest ∙ ap (λ l. reported_to s x (s.ends x).place ++ l) same,
          )

pub comes-so : (s : State) (made : ServiceStep) (t : State) (x : EndId) → IsConsistent s → AreMatched s → cancels_send (opposite x) made ≡ false → IsServiceStep s made t → ComesSo s made t x
comes-so s made t x k a not is = next-comes s made t x k is not

-- a deaf end: its opposite is destroyed, and it receives nothing
pub deaf-nothing : (s : State) (x : EndId) → IsConsistent s → AreMatched s → IsGone s.ends (opposite x) → is_living (s.ends x).place ≡ true → (s.ends x).inward ≡ inward.Idle → coming s x ≡ []
deaf-nothing s x k a unmet lives idle = ap (λ l. l ++ on_way s x) (reported-none s k x (ap is_unreported_inward idle) (s.ends x).place) ∙ by (s.ends x).noticed refl
  where
    dead : (s.ends x).place ≡ place.Destroyed → ⊥
    dead is = true≢false (sym lives ∙ ap is_living is)

    nobody : (o : Option Pid) → o ≡ None → IsSome o → ⊥
    nobody o none some = true≢false (sym some ∙ ap is_some none)

    matched-idle : (n : ℕ) → (s.ends x).inward ≡ inward.Matched n → (s.ends x).inward ≡ inward.Idle → ⊥
    matched-idle n a b = cc

    nothing : (s.ends x).noticed ≡ false → (o : Outward) → (s.ends (opposite x)).outward ≡ o → messages (numbered (s.ends (opposite x)).sent (message_of o)) ≡ []
    nothing not outward.Idle is = refl
    nothing not (outward.Waiting m) is = absurd (nobody (owner (s.ends (opposite x)).place) (ap owner unmet) (k.kept.waiting (opposite x) m is))
    nothing not (outward.Matched m) is =
        absurd (matched-idle (s.ends (opposite x)).sent (subst (λ z. (s.ends z).inward ≡ inward.Matched (s.ends (opposite x)).sent) (opposite-opposite x) (a (opposite x) m is (λ at. dead (subst (IsGone s.ends) (opposite-opposite x) at)) (subst (λ z. (s.ends z).noticed ≡ false) (sym (opposite-opposite x)) not))) idle)
    nothing not outward.Taken is = refl
    nothing not outward.Unreported is = refl

    by : (b : Bool) → (s.ends x).noticed ≡ b → (if b then [] else messages (outstanding (s.ends (opposite x)))) ≡ []
    by true is = refl
    by false not = nothing not (s.ends (opposite x)).outward refl
