-- What is kept of the messages sent on an end: those that were taken, then those that were lost as the link died, then the outstanding one.
use Rattle.std.proofs.Common.{◌≡◌, ℕ, ◌+◌, Bool, true, false, true≢false, ◌&&◌, ◌||◌, not, is_some, ◌⊎◌, inl, inr, if◌then◌else◌, Option, Some, None, List, [], ◌∷◌, ◌++◌, append-nil, append_assoc, refl, sym, ap, ap₂, subst, ◌∙◌}
use Rattle.std.proofs.lemmas.Grind.{flat_map-append}
use Rattle.std.proofs.lemmas.List.{map-append}
use Rattle.std.proofs.lemmas.List.Folds.{list_any-append}
use Rattle.std.proofs.lemmas.List.Sums.{fold-append}
use Rattle.std.specs.List.{flat_map, fold, list_any}
use Rattle.charlotte_calls.specs.Names.{opposite}
use Rattle.charlotte_calls.specs.declared.calls.ServiceStep.{ServiceStep}
use Rattle.charlotte_calls.specs.declared.calls.ServiceStep.TheVariants as step
use Rattle.charlotte_calls.specs.declared.names.EndId.{EndId}
use Rattle.charlotte_calls.specs.declared.names.Pid.{Pid}
use Rattle.charlotte_calls.specs.declared.names.Way.TheVariants as way
use Rattle.service_change.proofs.Change.{none-some}
use Rattle.service_change.proofs.Counts.{and-true}
use Rattle.service_change.proofs.EndEq.{end_eq-refl, end_eq-same, opposite-opposite, puts-at}
use Rattle.service_change.proofs.Facts.{made-owned, owner-Owned, waiting-Waiting}
use Rattle.service_lawful.specs.Consistent.{IsConsistent}
use Rattle.service_runs.proofs.Moves.{Move, completed, matched, may-sent, number-its, over, places-sends, sent, still, taken}
use Rattle.service_runs.proofs.MovesOfSteps.{move}
use Rattle.service_step.specs.Ends.{end_eq, carried_by, matched_message, owner, puts, starts_send, turns_outward, waiting_message, withdraws_send}
use Rattle.service_step.specs.Lawful.{message_of, send_number, take_number}
use Rattle.service_step.specs.Run.{state_after}
use Rattle.service_step.specs.State.{State}
use Rattle.service_step.specs.Steps.{IsServiceStep, after_cancel, is_running_owner, may_send_as}
use Rattle.service_step.specs.declared.state.End.{End}
use Rattle.service_step.specs.declared.state.Message.{Message}
use Rattle.service_step.specs.declared.state.Outward.TheVariants as outward
use Rattle.service_step.specs.declared.state.Place.TheVariants as place
use Rattle.service_streams.proofs.Lists.{but_last-more, subsequence-but_last, subsequence-both, subsequence-more}
use Rattle.service_streams.proofs.Places.{IsGone, Loss, died, gone-stays, loss, took, unmet, withdrawn}
use Rattle.service_streams.specs.Streams.{IsSubsequence, Sent, but_last, cancels_send, kept_by, kept_on, numbered, sent_by, sent_on, steps_in, taken_at, taken_by, outstanding}

-- one step more

steps-more : (past : List (ServiceStep × State)) (x : ServiceStep) (t : State) → steps_in (past ++ (x, t) ∷ []) ≡ steps_in past ++ x ∷ []
steps-more past x t = map-append (λ made. made.0) past ((x, t) ∷ [])

pub flat-more : {X : Type 0} (g : ServiceStep → List X) (past : List (ServiceStep × State)) (x : ServiceStep) (t : State) → flat_map g (steps_in (past ++ (x, t) ∷ [])) ≡ flat_map g (steps_in past) ++ g x
flat-more g past x t = ap (flat_map g) (steps-more past x t) ∙ flat_map-append g (steps_in past) (x ∷ []) ∙ ap (λ l. flat_map g (steps_in past) ++ l) (append-nil (g x))

pub kept-more : (e : EndId) (past : List (ServiceStep × State)) (x : ServiceStep) (t : State) → kept_on e (steps_in (past ++ (x, t) ∷ [])) ≡ kept_by e (kept_on e (steps_in past)) x
kept-more e past x t = ap (fold (kept_by e) []) (steps-more past x t) ∙ fold-append (kept_by e) [] (steps_in past) (x ∷ [])

pub taken-more : (e : EndId) (s : State) (past : List (ServiceStep × State)) (x : ServiceStep) (t : State) → taken_at e s (past ++ (x, t) ∷ []) ≡ taken_at e s past ++ taken_by e (state_after s past) x
taken-more e s [] x t = append-nil (taken_by e s x)
taken-more e s (made ∷ past) x t = ap (λ l. taken_by e s made.0 ++ l) (taken-more e made.1 past x t) ∙ sym (append_assoc (taken_by e s made.0) (taken_at e made.1 past) (taken_by e (state_after made.1 past) x))

-- what is kept is a part of what was sent, and all of it where no send was cancelled
pub record IsPart (e : EndId) (steps : List ServiceStep) : Type 0 where
  pub part : IsSubsequence (kept_on e steps) (sent_on e steps)
  pub whole : list_any (cancels_send e) steps ≡ false → kept_on e steps ≡ sent_on e steps

or-false : (a b : Bool) → a || b ≡ false → (a ≡ false) × (b ≡ false)
or-false true b is = absurd (true≢false is)
or-false false b is = (refl, is)

pub next-part : (e : EndId) (past : List (ServiceStep × State)) (x : ServiceStep) (t : State) → IsPart e (steps_in past) → IsPart e (steps_in (past ++ (x, t) ∷ []))
next-part e past x t h = by (cancels_send e x) refl
  where
    kept : List Sent
    kept = kept_on e (steps_in past)

    all : List Sent
    all = sent_on e (steps_in past)

    both : (list_any (cancels_send e) (steps_in (past ++ (x, t) ∷ [])) ≡ false) → (list_any (cancels_send e) (steps_in past) ≡ false) × (cancels_send e x ≡ false)
    both is = let two = or-false _ _ (sym (ap (list_any (cancels_send e)) (steps-more past x t) ∙ list_any-append (cancels_send e) (steps_in past) (x ∷ [])) ∙ is) in (two.0, (or-false _ _ two.1).0)

    by : (b : Bool) → cancels_send e x ≡ b → IsPart e (steps_in (past ++ (x, t) ∷ []))
    by true cancels =
        let now : kept_on e (steps_in (past ++ (x, t) ∷ [])) ≡ but_last kept = kept-more e past x t ∙ ap (λ b. if b then but_last kept else kept ++ sent_by e x) cancels in
        record {
          part = subst (λ l. IsSubsequence l (sent_on e (steps_in (past ++ (x, t) ∷ [])))) (sym now) (subst (IsSubsequence (but_last kept)) (sym (flat-more (sent_by e) past x t)) (subsequence-but_last kept _ (subsequence-more kept all (sent_by e x) h.part)));
          whole = λ none. absurd (true≢false (sym cancels ∙ (both none).1));
        }
    by false not =
        let now : kept_on e (steps_in (past ++ (x, t) ∷ [])) ≡ kept ++ sent_by e x = kept-more e past x t ∙ ap (λ b. if b then but_last kept else kept ++ sent_by e x) not in
        record {
          part = subst (λ l. IsSubsequence l (sent_on e (steps_in (past ++ (x, t) ∷ [])))) (sym now) (subst (IsSubsequence (kept ++ sent_by e x)) (sym (flat-more (sent_by e) past x t)) (subsequence-both kept all (sent_by e x) h.part));
          whole = λ none. now ∙ ap (λ l. l ++ sent_by e x) (h.whole (both none).0) ∙ sym (flat-more (sent_by e) past x t);
        }

-- what a step sends, takes and cancels

sent-none : (e : EndId) (x : ServiceStep) (t : State) → send_number e (x, t) ≡ [] → sent_by e x ≡ []
sent-none e (step.Send f n bytes xs) t none = by (end_eq e f) refl none
  where
    differ : n ∷ [] ≡ [] → ⊥
    differ same = cc

    by : (b : Bool) → end_eq e f ≡ b → (if b then n ∷ [] else []) ≡ [] → (if b then numbered n (Some (record { bytes = bytes; carried = xs })) else []) ≡ []
    by true same none = absurd (differ none)
    by false apart none = refl
sent-none e _ t none = refl

opposites-apart : (e f : EndId) → end_eq e f ≡ false → end_eq (opposite e) (opposite f) ≡ false
opposites-apart e f apart = by (end_eq (opposite e) (opposite f)) refl
  where
    by : (b : Bool) → end_eq (opposite e) (opposite f) ≡ b → b ≡ false
    by true same = absurd (true≢false (sym (subst (λ z. end_eq e z ≡ true) (sym (opposite-opposite e) ∙ ap opposite (end_eq-same (opposite e) (opposite f) same) ∙ opposite-opposite f) (end_eq-refl e)) ∙ apart))
    by false is = refl

taken-none : (e : EndId) (s : State) (x : ServiceStep) (t : State) → take_number e (x, t) ≡ [] → taken_by (opposite e) s x ≡ []
taken-none e s (step.Take f n p late) t none = by (end_eq e f) refl none
  where
    differ : n ∷ [] ≡ [] → ⊥
    differ same = cc

    by : (b : Bool) → end_eq e f ≡ b → (if b then n ∷ [] else []) ≡ [] → (if end_eq (opposite e) (opposite f) then numbered n (matched_message (s.ends f).outward) else []) ≡ []
    by true same none = absurd (differ none)
    by false apart none = ap (λ b. if b then numbered n (matched_message (s.ends f).outward) else []) (opposites-apart e f apart)
taken-none e s _ t none = refl

cancels-is : (e : EndId) (x : ServiceStep) → cancels_send e x ≡ true → x ≡ step.Cancel e way.Outward
cancels-is e (step.Cancel f way.Outward) is = ap (λ z. step.Cancel z way.Outward) (sym (end_eq-same e f is))
cancels-is e (step.Cancel f way.Inward) is = absurd (true≢false (sym is))
cancels-is e _ is = absurd (true≢false (sym is))

send-outward : (s : State) (f : EndId) (n : ℕ) (bytes : List ℕ) (xs : List EndId) (t : State) → IsServiceStep s (step.Send f n bytes xs) t → (t.ends f).outward ≡ outward.Waiting (record { bytes = bytes; carried = xs })
unfolding starts_send
send-outward s f n bytes xs t is =
    ap (λ z. (z.ends f).outward) is.after ∙ ap (λ z. z.outward) (places-sends (place.InMessage f n) xs (puts f y s.ends) f) ∙ ap (λ z. z.outward) (puts-at f y s.ends (may-sent s f n xs is.allowed).0)
  where
    y : End
    y = record (s.ends f) { outward = outward.Waiting (record { bytes = bytes; carried = xs }); sent = n }

-- who sends owns the end
send-owned : (s : State) (f : EndId) (n : ℕ) (xs : List EndId) (o : Option Pid) → may_send_as s o f n xs ≡ true → o ≡ owner (s.ends f).place → IsGone s.ends f → ⊥
send-owned s f n xs None may is gone = true≢false (sym may)
send-owned s f n xs (Some p) may is gone = none-some None p refl (sym (is ∙ ap owner gone))

-- a send is of the message that is outstanding after it
sent-one : (s : State) (x : ServiceStep) (t : State) (e : EndId) (m : Message) (i : ℕ) → IsServiceStep s x t → send_number e (x, t) ≡ i ∷ [] → (t.ends e).outward ≡ outward.Waiting m → (sent_by e x ≡ numbered i (Some m)) × (IsGone s.ends e → ⊥)
sent-one s (step.Send f n bytes xs) t e m i is numbers out = by (end_eq e f) refl numbers
  where
    same-message : outward.Waiting (record { bytes = bytes; carried = xs }) ≡ outward.Waiting m → record { bytes = bytes; carried = xs } ≡ m
    same-message same = cc

    same-number : n ∷ [] ≡ i ∷ [] → n ≡ i
    same-number same = cc

    differ : [] ≡ i ∷ [] → ⊥
    differ same = cc

    by : (b : Bool) → end_eq e f ≡ b → (if b then n ∷ [] else []) ≡ i ∷ [] → ((if b then numbered n (Some (record { bytes = bytes; carried = xs })) else []) ≡ numbered i (Some m)) × (IsGone s.ends e → ⊥)
    by true same numbers =
        let its = end_eq-same e f same in
        let message = same-message (sym (send-outward s f n bytes xs t is) ∙ subst (λ z. (t.ends z).outward ≡ outward.Waiting m) its out) in (
          ap (λ j. numbered j (Some (record { bytes = bytes; carried = xs }))) (same-number numbers) ∙ ap (λ a. numbered i (Some a)) message,
          λ gone. send-owned s f n xs (owner (s.ends f).place) is.allowed refl (subst (IsGone s.ends) its gone),
        )
    by false apart numbers = absurd (differ numbers)
sent-one s _ t e m i is numbers out = let differ : [] ≡ i ∷ [] = numbers in absurd (cc)

-- a Cancel of a send is of one that waits, and leaves none
cancel-facts : (s : State) (e : EndId) (t : State) → IsConsistent s → IsServiceStep s (step.Cancel e way.Outward) t → ((m : Message) × ((s.ends e).outward ≡ outward.Waiting m)) × ((t.ends e).outward ≡ outward.Idle)
unfolding withdraws_send turns_outward
cancel-facts s e t k is = (waiting-Waiting (s.ends e).outward (and-true _ _ both.0).1, by (owner (s.ends e).place) refl (and-true _ _ both.0).0 is.after)
  where
    both : (is_running_owner s (owner (s.ends e).place) && is_some (waiting_message (s.ends e).outward) ≡ true) × (not (s.ends e).noticed ≡ true)
    both = and-true _ _ is.allowed

    y : End
    y = record (s.ends e) { outward = outward.Idle }

    by : (o : Option Pid) → owner (s.ends e).place ≡ o → is_running_owner s o ≡ true → t ≡ after_cancel o e way.Outward s → (t.ends e).outward ≡ outward.Idle
    by None is runs after = absurd (true≢false (sym runs))
    by (Some p) is runs after =
        ap (λ z. (z.ends e).outward) after ∙ ap (λ z. z.outward) (places-sends (place.Owned p) (carried_by (waiting_message (s.ends e).outward)) (puts e y s.ends) e)
        ∙ ap (λ z. z.outward) (puts-at e y s.ends (made-owned (s.ends e).place p (owner-Owned (s.ends e).place p is)))

-- where a link dies: the opposite is destroyed, or the end is, with nothing outstanding
abbrev pub IsClosed : State → EndId → Type 0
IsClosed s e = IsGone s.ends (opposite e) ⊎ (IsGone s.ends e × (outstanding (s.ends e) ≡ []))

-- of what is sent on e and not cancelled some were taken, some were lost, since the link died, and one may be outstanding
pub record IsKept (kept took : List Sent) (s : State) (e : EndId) : Type 0 where
  pub lost : List Sent
  pub all : kept ≡ (took ++ lost) ++ outstanding (s.ends e)
  pub closed : (lost ≡ []) ⊎ IsClosed s e

-- lists

append-four : (a b c : List Sent) → (a ++ b) ++ c ≡ ((a ++ []) ++ b) ++ c
append-four a b c = ap (λ l. (l ++ b) ++ c) (sym (append-nil a))

append-sent : (a b c : List Sent) → ((a ++ b) ++ []) ++ c ≡ ((a ++ []) ++ b) ++ c
append-sent a b c = ap (λ l. l ++ c) (append-nil (a ++ b)) ∙ append-four a b c

append-taken : (a c : List Sent) → (a ++ []) ++ c ≡ ((a ++ c) ++ []) ++ []
append-taken a c = ap (λ l. l ++ c) (append-nil a) ∙ sym (append-nil (a ++ c)) ∙ sym (append-nil ((a ++ c) ++ []))

append-lost : (a b c : List Sent) → (a ++ b) ++ c ≡ ((a ++ []) ++ (b ++ c)) ++ []
append-lost a b c = append_assoc a b c ∙ ap (λ l. l ++ (b ++ c)) (sym (append-nil a)) ∙ sym (append-nil ((a ++ []) ++ (b ++ c)))

way-same : (x y : End) → message_of y.outward ≡ message_of x.outward → y.sent ≡ x.sent → outstanding y ≡ outstanding x
way-same x y message number = ap (λ n. numbered n (message_of y.outward)) number ∙ ap (numbered x.sent) message

way-is : (x : End) (o : Option Message) → message_of x.outward ≡ o → outstanding x ≡ numbered x.sent o
way-is x o is = ap (numbered x.sent) is

one-more : (n : ℕ) (m : Message) → numbered n (Some m) ≡ [] → ⊥
one-more n m is = cc

module _ (kept took_so : List Sent) (s : State) (x : ServiceStep) (t : State) (e : EndId) (k : IsConsistent s) (is : IsServiceStep s x t) (h : IsKept kept took_so s e) where
  abbrev Next : Type 0
  Next = IsKept (kept_by e kept x) (took_so ++ taken_by (opposite e) s x) t e

  -- a link that is closed stays so while nothing new is outstanding
  stays : (outstanding (s.ends e) ≡ [] → outstanding (t.ends e) ≡ []) → (h.lost ≡ []) ⊎ IsClosed s e → (h.lost ≡ []) ⊎ IsClosed t e
  stays quiet (inl none) = inl none
  stays quiet (inr (inl gone)) = inr (inl (gone-stays s x t (opposite e) k is gone))
  stays quiet (inr (inr both)) = inr (inr (gone-stays s x t e k is both.0, quiet both.1))

  -- what is taken, where it is known
  with-taken : (l : List Sent) → taken_by (opposite e) s x ≡ l → IsKept (kept_by e kept x) (took_so ++ l) t e → Next
  with-taken l is_l = subst (λ z. IsKept (kept_by e kept x) (took_so ++ z) t e) (sym is_l)

  as-was : kept_by e kept x ≡ kept → taken_by (opposite e) s x ≡ [] → outstanding (t.ends e) ≡ outstanding (s.ends e) → Next
  as-was same none alike =
      with-taken [] none
      (record {
        lost = h.lost;
        all = same ∙ h.all ∙ append-four took_so h.lost (outstanding (s.ends e)) ∙ ap (λ u. ((took_so ++ []) ++ h.lost) ++ u) (sym alike);
        closed = stays (λ nothing. alike ∙ nothing) h.closed;
      })

  -- a Cancel of the send
  cancelled : x ≡ step.Cancel e way.Outward → cancels_send e x ≡ true → Next
  cancelled its cancels =
      with-taken [] (ap (taken_by (opposite e) s) its)
      (record {
        lost = h.lost;
        all =
            ap (λ b. if b then but_last kept else kept ++ sent_by e x) cancels ∙ ap but_last (h.all ∙ ap (λ u. (took_so ++ h.lost) ++ u) waits) ∙ but_last-more (took_so ++ h.lost) (record { number = (s.ends e).sent; message = facts.0.0 })
            ∙ sym (append-nil (took_so ++ h.lost)) ∙ append-four took_so h.lost [] ∙ ap (λ u. ((took_so ++ []) ++ h.lost) ++ u) (sym nothing);
        closed = stays (λ none. nothing) h.closed;
      })
    where
      facts : ((m : Message) × ((s.ends e).outward ≡ outward.Waiting m)) × ((t.ends e).outward ≡ outward.Idle)
      facts = cancel-facts s e t k (subst (λ z. IsServiceStep s z t) its is)

      waits : outstanding (s.ends e) ≡ numbered (s.ends e).sent (Some facts.0.0)
      waits = way-is (s.ends e) (Some facts.0.0) (ap message_of facts.0.1)

      nothing : outstanding (t.ends e) ≡ []
      nothing = way-is (t.ends e) None (ap message_of facts.1)

  -- every other step
  module _ (not : cancels_send e x ≡ false) where
    keeps : (l : List Sent) → sent_by e x ≡ l → kept_by e kept x ≡ kept ++ l
    keeps l is_l = ap (λ b. if b then but_last kept else kept ++ sent_by e x) not ∙ ap (λ z. kept ++ z) is_l

    keeps-none : send_number e (x, t) ≡ [] → kept_by e kept x ≡ kept
    keeps-none none = keeps [] (sent-none e x t none) ∙ append-nil kept

    -- a message more is outstanding
    sends : (m : Message) → (s.ends e).outward ≡ outward.Idle → (t.ends e).outward ≡ outward.Waiting m → (t.ends e).sent ≡ (s.ends e).sent + 1 → send_number e (x, t) ≡ ((s.ends e).sent + 1) ∷ [] → take_number e (x, t) ≡ [] → Next
    sends m was out number its_sends its_takes =
        with-taken [] (taken-none e s x t its_takes)
        (record {
          lost = h.lost;
          all = keeps (outstanding (t.ends e)) (one.0 ∙ sym now) ∙ ap (λ l. l ++ outstanding (t.ends e)) (h.all ∙ ap (λ u. (took_so ++ h.lost) ++ u) (way-is (s.ends e) None (ap message_of was))) ∙ append-sent took_so h.lost (outstanding (t.ends e));
          closed = closed h.closed;
        })
      where
        one : (sent_by e x ≡ numbered ((s.ends e).sent + 1) (Some m)) × (IsGone s.ends e → ⊥)
        one = sent-one s x t e m ((s.ends e).sent + 1) is its_sends out

        now : outstanding (t.ends e) ≡ numbered ((s.ends e).sent + 1) (Some m)
        now = way-is (t.ends e) (Some m) (ap message_of out) ∙ ap (λ n. numbered n (Some m)) number

        closed : (h.lost ≡ []) ⊎ IsClosed s e → (h.lost ≡ []) ⊎ IsClosed t e
        closed (inl none) = inl none
        closed (inr (inl gone)) = inr (inl (gone-stays s x t (opposite e) k is gone))
        closed (inr (inr both)) = absurd (one.1 both.0)

    -- the outstanding message is taken
    takes : (m : Message) (p : Pid) (late : Bool) → (s.ends e).outward ≡ outward.Matched m → (t.ends e).outward ≡ outward.Taken → x ≡ step.Take e (s.ends e).sent p late → (s.ends (opposite e)).place ≡ place.Owned p → send_number e (x, t) ≡ [] → Next
    takes m p late was out its owned its_sends =
        with-taken u taken
        (record {
          lost = [];
          all = keeps-none its_sends ∙ h.all ∙ ap₂ (λ l z. (took_so ++ l) ++ z) (none h.closed) way ∙ append-taken took_so u ∙ ap (λ z. ((took_so ++ u) ++ []) ++ z) (sym (way-is (t.ends e) None (ap message_of out)));
          closed = inl refl;
        })
      where
        u : List Sent
        u = numbered (s.ends e).sent (Some m)

        way : outstanding (s.ends e) ≡ u
        way = way-is (s.ends e) (Some m) (ap message_of was)

        taken : taken_by (opposite e) s x ≡ u
        taken =
            ap (taken_by (opposite e) s) its ∙ ap (λ b. if b then numbered (s.ends e).sent (matched_message (s.ends e).outward) else []) (end_eq-refl (opposite e))
            ∙ ap (λ o. numbered (s.ends e).sent (matched_message o)) was

        differ : place.Owned p ≡ place.Destroyed → ⊥
        differ same = cc

        none : (h.lost ≡ []) ⊎ IsClosed s e → h.lost ≡ []
        none (inl empty) = empty
        none (inr (inl gone)) = absurd (differ (sym owned ∙ gone))
        none (inr (inr both)) = absurd (one-more (s.ends e).sent m (sym way ∙ both.1))

    -- nothing is outstanding any more
    ends : message_of (t.ends e).outward ≡ None → (t.ends e).sent ≡ (s.ends e).sent → send_number e (x, t) ≡ [] → take_number e (x, t) ≡ [] → Next
    ends none number its_sends its_takes = by (message_of (s.ends e).outward) refl
      where
        lost-now : (m : Message) → message_of (s.ends e).outward ≡ Some m → IsClosed t e → Next
        lost-now m there closed =
            with-taken [] (taken-none e s x t its_takes)
            (record {
              lost = h.lost ++ outstanding (s.ends e);
              all = keeps-none its_sends ∙ h.all ∙ append-lost took_so h.lost (outstanding (s.ends e)) ∙ ap (λ z. ((took_so ++ []) ++ (h.lost ++ outstanding (s.ends e))) ++ z) (sym (way-is (t.ends e) None none));
              closed = inr closed;
            })

        by-loss : (m : Message) → message_of (s.ends e).outward ≡ Some m → Loss x t e → Next
        by-loss m there (withdrawn its) = absurd (true≢false (sym (ap (cancels_send e) its ∙ end_eq-refl e) ∙ not))
        by-loss m there (took n p late its) = let differ : n ∷ [] ≡ [] = sym (ap (λ z. take_number e (z, t)) its ∙ number-its e e n refl) ∙ its_takes in absurd (cc)
        by-loss m there (died gone) = lost-now m there (inr (gone, way-is (t.ends e) None none))
        by-loss m there (unmet gone) = lost-now m there (inl gone)

        by : (o : Option Message) → message_of (s.ends e).outward ≡ o → Next
        by None was = as-was (keeps-none its_sends) (taken-none e s x t its_takes) (way-same (s.ends e) (t.ends e) (none ∙ sym was) number)
        by (Some m) there = by-loss m there (loss s x t e m k is there none)

    moves : Move s x t e → Next
    moves (still out number sooner ns) = as-was (keeps-none ns.sends) (taken-none e s x t ns.takes) (way-same (s.ends e) (t.ends e) (ap message_of out) number)
    moves (sent m was out number ns) = sends m was out number ns.sends ns.takes
    moves (matched m was out number its ns) = as-was (keeps-none ns.sends) (taken-none e s x t ns.takes) (way-same (s.ends e) (t.ends e) (ap message_of out ∙ sym (ap message_of was)) number)
    moves (taken m p late was out number its owned ns) = takes m p late was out its owned ns.sends
    moves (completed was out number ns) = as-was (keeps-none ns.sends) (taken-none e s x t ns.takes) (way-same (s.ends e) (t.ends e) (ap message_of out ∙ sym (ap message_of was)) number)
    moves (over (inl idle) number ns) = ends (ap message_of idle) number ns.sends ns.takes
    moves (over (inr both) number ns) = ends (ap message_of both.0) number ns.sends ns.takes

  pub next-kept : Next
  next-kept = by (cancels_send e x) refl
    where
      by : (b : Bool) → cancels_send e x ≡ b → Next
      by true cancels = cancelled (cancels-is e x cancels) cancels
      by false not = moves not (move s x t e k is)
