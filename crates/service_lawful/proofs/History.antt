-- One step more in a run of the service.
use Rattle.std.proofs.Common.{◌≡◌, ◌⊎◌, inl, inr, ℕ, ◌<◌, ◌≤◌, Bool, true, false, nat_eq, ◌||◌, not, is_some, List, [], ◌∷◌, ◌++◌, map, length, Contains, All, refl, sym, ap, subst, ◌∙◌, true≢false, append_assoc, append-nil, eqb-true}
use Rattle.std.proofs.lemmas.List.Elements.{All-nil, Contains-append_left}
use Rattle.std.specs.List.{filter, flat_map}
use Rattle.charlotte_calls.specs.Causes.{first_of, is_late}
use Rattle.charlotte_calls.specs.Names.{opposite}
use Rattle.charlotte_calls.specs.declared.calls.Call.{Call}
use Rattle.charlotte_calls.specs.declared.calls.Call.TheVariants as call
use Rattle.charlotte_calls.specs.declared.calls.Cause.{Cause}
use Rattle.charlotte_calls.specs.declared.calls.Cause.TheVariants as cause
use Rattle.charlotte_calls.specs.declared.calls.ServiceStep.{ServiceStep}
use Rattle.charlotte_calls.specs.declared.calls.ServiceStep.TheVariants as step
use Rattle.charlotte_calls.specs.declared.names.EndId.{EndId}
use Rattle.charlotte_calls.specs.declared.names.Pid.{Pid}
use Rattle.charlotte_calls.specs.declared.names.Way.{Way}
use Rattle.charlotte_calls.specs.declared.names.Way.TheVariants as way
use Rattle.service_lawful.proofs.Fresh.{IsFresh, fresh-consistent, fresh_at, fresh-outward}
use Rattle.service_lawful.specs.History.{unused_from, AreNumbered, HasHistory}
use Rattle.service_step.specs.Causes.{IsRefusedFor, is_cause}
use Rattle.service_step.specs.Ends.{waiting_message, matched_message, is_owned_by, outward_activity, inward_activity, is_taken}
use Rattle.service_step.specs.Lawful.{AreHeldOnce, AreInOrder, AreRising, HasMatchedReport, IsLawful, IsRightStep, IsRightlyLate, WasMatched, WasTakenOnce, complete_number, match_number, send_number, take_number}
use Rattle.service_step.specs.Run.{state_after}
use Rattle.service_step.specs.State.{State, receive_report}
use Rattle.service_step.specs.declared.state.End.{End}
use Rattle.service_step.specs.declared.state.Place.{Place}
use Rattle.service_step.specs.declared.state.Place.TheVariants as place

abbrev pub Run : Type 0
Run = List (ServiceStep × State)

pub state_after-append : (s : State) (xs ys : Run) → state_after s (xs ++ ys) ≡ state_after (state_after s xs) ys
state_after-append s [] ys = refl
state_after-append s (x ∷ xs) ys = state_after-append x.1 xs ys

numbers-append : (f : ServiceStep × State → List ℕ) (xs ys : Run) → flat_map f (xs ++ ys) ≡ flat_map f xs ++ flat_map f ys
numbers-append f [] ys = refl
numbers-append f (x ∷ xs) ys = ap (λ ns. f x ++ ns) (numbers-append f xs ys) ∙ sym (append_assoc (f x) (flat_map f xs) (flat_map f ys))

-- a step without a number adds none
numbers-silent : (f : ServiceStep × State → List ℕ) (xs : Run) (made : ServiceStep × State) → f made ≡ [] → flat_map f (xs ++ made ∷ []) ≡ flat_map f xs
numbers-silent f xs made none = numbers-append f xs (made ∷ []) ∙ ap (λ ns. flat_map f xs ++ (ns ++ [])) none ∙ append-nil (flat_map f xs)

-- a part of a list that is one longer is a part of the list, or all of the longer one
record IsShorter (run : Run) (made : ServiceStep × State) (before after : Run) : Type 0 where
  later : Run
  is : run ≡ before ++ later
  after_is : after ≡ later ++ made ∷ []

split : (run : Run) (made : ServiceStep × State) (before after : Run) → run ++ made ∷ [] ≡ before ++ after → IsShorter run made before after ⊎ ((before ≡ run ++ made ∷ []) × (after ≡ []))
split run made [] after is = inl (record { later = run; is = refl; after_is = sym is })
split [] made (b ∷ []) after is = inr (let same : made ≡ b = cc in ap (λ x. x ∷ []) (sym same), let none : [] ≡ after = cc in sym none)
split [] made (b ∷ c ∷ before) after is = absurd (let none : [] ≡ c ∷ (before ++ after) = cc in some none)
  where
    some : {x : ServiceStep × State} {xs : Run} → [] ≡ x ∷ xs → ⊥
    some h = cc
split (x ∷ run) made (b ∷ before) after is = by (split run made before after rest)
  where
    rest : run ++ made ∷ [] ≡ before ++ after
    rest = cc

    head : x ≡ b
    head = cc

    by : IsShorter run made before after ⊎ ((before ≡ run ++ made ∷ []) × (after ≡ [])) → IsShorter (x ∷ run) made (b ∷ before) after ⊎ ((b ∷ before ≡ x ∷ (run ++ made ∷ [])) × (after ≡ []))
    by (inl h) = inl (record { later = h.later; is = (λ i. head i ∷ h.is i); after_is = h.after_is })
    by (inr h) = inr ((λ i. sym head i ∷ h.0 i), h.1)

-- a step that sends, matches, takes and completes nothing
pub record IsSilent (made : ServiceStep × State) : Type 0 where
  pub send : (f : EndId) → send_number f made ≡ []
  pub matches : (f : EndId) → match_number f made ≡ []
  pub takes : (f : EndId) → take_number f made ≡ []
  pub completes : (f : EndId) → complete_number f made ≡ []

module _ (s : State) (run : Run) (made : ServiceStep × State) (silent : IsSilent made) where
  abbrev longer : Run
  longer = run ++ made ∷ []

  matched-still : (before : Run) (f : EndId) (n : ℕ) → WasMatched before f n → WasMatched (before ++ made ∷ []) f n
  matched-still before f n has = subst (λ ss. Contains ss (step.Match f n)) (sym (mapped before)) (Contains-append_left (map (λ (m : ServiceStep × State). m.0) before) (made.0 ∷ []) (step.Match f n) has)
    where
      mapped : (xs : Run) → map (λ (m : ServiceStep × State). m.0) (xs ++ made ∷ []) ≡ map (λ (m : ServiceStep × State). m.0) xs ++ made.0 ∷ []
      mapped [] = refl
      mapped (x ∷ xs) = ap (λ ms. x.0 ∷ ms) (mapped xs)

  once-still : (f : EndId) (n : ℕ) → length (filter (nat_eq n) (flat_map (take_number f) run)) ≡ 1 → length (filter (nat_eq n) (flat_map (take_number f) longer)) ≡ 1
  once-still f n once = ap (λ ns. length (filter (nat_eq n) ns)) (numbers-silent (take_number f) run made (silent.takes f)) ∙ once

  -- a step that was right in the run is so in the longer one
  right-still : (before : Run) (st : ServiceStep) → IsRightStep s run before st → IsRightStep s longer before st
  right-still before (step.Complete f n) is =
      record { once = once-still f n is.once; earlier = is.earlier; later = is.later; p = is.p; late = is.late; left = is.left; stands = is.stands; owned = is.owned }
  right-still before (step.Refuse p c why) is = refused c why is
    where
      refused : (c : Call) (why : Cause) → IsRightStep s run before (step.Refuse p c why) → IsRightStep s longer before (step.Refuse p c why)
      refused (call.Cancel e w) cause.Late is = is
      refused _ _ is = is
  right-still before (step.Take f n p true) is = is
  right-still before (step.Take f n p false) is = is
  right-still before _ is = is

  rising-still : (f : EndId) → AreInOrder f run → AreInOrder f longer
  rising-still f is =
      record {
        sends = subst AreRising (sym (numbers-silent (send_number f) run made (silent.send f))) is.sends;
        matches = subst AreRising (sym (numbers-silent (match_number f) run made (silent.matches f))) is.matches;
        takes = subst AreRising (sym (numbers-silent (take_number f) run made (silent.takes f))) is.takes;
        completes = subst AreRising (sym (numbers-silent (complete_number f) run made (silent.completes f))) is.completes;
      }

  -- the longer run is lawful where its last step is right and its last state holds each end once
  pub lawful-longer : IsLawful s run → AreHeldOnce made.1 → IsRightStep s longer run made.0 → IsLawful s longer
  lawful-longer is held right = record { held = held_in; steps = right_in; order = λ f. rising-still f (is.order f) }
    where
      last : state_after s longer ≡ made.1
      last = state_after-append s run (made ∷ [])

      held_in : (before after : Run) → longer ≡ before ++ after → AreHeldOnce (state_after s before)
      held_in before after whole = by (split run made before after whole)
        where
          by : IsShorter run made before after ⊎ ((before ≡ longer) × (after ≡ [])) → AreHeldOnce (state_after s before)
          by (inl h) = is.held before h.later h.is
          by (inr h) = subst (λ b. AreHeldOnce (state_after s b)) (sym h.0) (subst AreHeldOnce (sym last) held)

      right_in : (before after : Run) (one : ServiceStep × State) → longer ≡ before ++ one ∷ after → IsRightStep s longer before one.0
      right_in before after one whole = by (split run made before (one ∷ after) whole)
        where
          inner : (later : Run) → run ≡ before ++ later → one ∷ after ≡ later ++ made ∷ [] → IsRightStep s longer before one.0
          inner [] is_run is_last =
              let same : one ≡ made = cc in
              let here : run ≡ before = is_run ∙ append-nil before in
              subst (λ b. IsRightStep s longer b one.0) here (subst (λ (m : ServiceStep × State). IsRightStep s longer run m.0) (sym same) right)
          inner (l ∷ later) is_run is_last = let same : one ≡ l = cc in right-still before one.0 (is.steps before later one (is_run ∙ ap (λ z. before ++ z ∷ later) (sym same)))

          by : IsShorter run made before (one ∷ after) ⊎ ((before ≡ longer) × (one ∷ after ≡ [])) → IsRightStep s longer before one.0
          by (inl h) = inner h.later h.is h.after_is
          by (inr h) = absurd (none h.1)
            where
              none : {x : ServiceStep × State} {xs : Run} → x ∷ xs ≡ [] → ⊥
              none h = cc

  taken-still : (f : EndId) (n : ℕ) → WasTakenOnce s run run f n → WasTakenOnce s longer longer f n
  taken-still f n is =
      record {
        once = once-still f n is.once;
        earlier = is.earlier;
        later = is.later ++ made ∷ [];
        p = is.p;
        late = is.late;
        left = is.left;
        stands = ap (λ xs. xs ++ made ∷ []) is.stands ∙ append_assoc is.earlier ((step.Take f n is.p is.late, is.left) ∷ is.later) (made ∷ []);
        owned = is.owned;
      }

  told-still : (p : Pid) (e : EndId) → ((state_after s longer).process p.0).reports ≡ ((state_after s run).process p.0).reports → HasMatchedReport s run p e → HasMatchedReport s longer p e
  told-still p e same is =
      record {
        message = is.message;
        n = is.n;
        late = is.late;
        left = is.left;
        earlier = is.earlier;
        later = is.later ++ made ∷ [];
        stands = subst (λ rs. Contains rs (receive_report e is.message.bytes is.message.carried)) (sym same) is.stands;
        taken = ap (λ xs. xs ++ made ∷ []) is.taken ∙ append_assoc is.earlier ((step.Take (opposite e) is.n p is.late, is.left) ∷ is.later) (made ∷ []);
        last = numbers-silent (take_number (opposite e)) is.later made (silent.takes (opposite e)) ∙ is.last;
        its = is.its;
        matched = matched-still run (opposite e) is.n is.matched;
      }

  numbered-still : (f : EndId) (x : End) → AreNumbered f run x → AreNumbered f longer x
  numbered-still f x is =
      record {
        sends = subst (λ ns. All (λ n. n ≤ x.sent) ns) (sym (numbers-silent (send_number f) run made (silent.send f))) is.sends;
        matches = subst (λ ns. All (λ n. n < unused_from (is_some (waiting_message x.outward)) x.sent) ns) (sym (numbers-silent (match_number f) run made (silent.matches f))) is.matches;
        takes = subst (λ ns. All (λ n. n < unused_from (is_some (waiting_message x.outward) || is_some (matched_message x.outward)) x.sent) ns) (sym (numbers-silent (take_number f) run made (silent.takes f))) is.takes;
        completes = subst (λ ns. All (λ n. n < unused_from (is_some (waiting_message x.outward) || is_some (matched_message x.outward) || is_taken x.outward) x.sent) ns) (sym (numbers-silent (complete_number f) run made (silent.completes f))) is.completes;
      }

  -- a silent step that changes no end and no reports
  pub history-calm : HasHistory s run → made.1.ends ≡ (state_after s run).ends → ((p : ℕ) → (made.1.process p).reports ≡ ((state_after s run).process p).reports) → AreHeldOnce made.1
      → IsRightStep s longer run made.0 → HasHistory s longer
  history-calm is ends reports held right =
      record {
        lawful = lawful-longer is.lawful held right;
        numbered = λ f. subst (λ (t : EndId → End). AreNumbered f longer (t f)) (sym now) (numbered-still f ((state_after s run).ends f) (is.numbered f));
        taken = λ f. subst (λ (t : EndId → End). is_taken (t f).outward ≡ true → WasTakenOnce s longer longer f (t f).sent) (sym now) (λ h. taken-still f ((state_after s run).ends f).sent (is.taken f h));
        matched = λ f p. subst (λ (t : EndId → End). (t f).place ≡ place.Owned p → (t f).noticed ≡ false → is_late (outward_activity (t f).outward) ≡ true → WasMatched longer f (t f).sent) (sym now)
            (λ at open' h. matched-still run f ((state_after s run).ends f).sent (is.matched f p at open' h));
        told = λ e p. subst (λ (t : EndId → End). (t e).place ≡ place.Owned p → (t e).noticed ≡ false → is_late (inward_activity (t e).inward) ≡ true → HasMatchedReport s longer p e) (sym now)
            (λ at open' h. told-still p e (ap (λ (t : State). (t.process p.0).reports) last ∙ reports p.0) (is.told e p at open' h));
      }
    where
      last : state_after s longer ≡ made.1
      last = state_after-append s run (made ∷ [])

      now : (state_after s longer).ends ≡ (state_after s run).ends
      now = ap (λ (t : State). t.ends) last ∙ ends

  -- and one that changes nothing
  pub history-same : HasHistory s run → made.1 ≡ state_after s run → IsRightStep s longer run made.0 → HasHistory s longer
  history-same is same right =
      history-calm is (ap (λ (t : State). t.ends) same) (λ p. ap (λ (t : State). (t.process p).reports) same) (subst AreHeldOnce (sym same) (is.lawful.held run [] (sym (append-nil run)))) right

-- ---- the start

pub history-none : (s : State) → IsFresh s → HasHistory s []
history-none s f =
    record {
      lawful = record { held = held; steps = λ before after made whole. absurd (none before made after whole); order = λ g. record { sends = tt; matches = tt; takes = tt; completes = tt } };
      numbered = λ g. record { sends = All-nil _; matches = All-nil _; takes = All-nil _; completes = All-nil _ };
      taken = λ g is. absurd (true≢false (sym is ∙ ap is_taken (fresh-outward s f g)));
      matched = λ g p at open' late. absurd (true≢false (sym late ∙ ap (λ (x : End). is_late (outward_activity x.outward)) (fresh_at s f g).1));
      told = λ e p at open' late. absurd (true≢false (sym late ∙ ap (λ (x : End). is_late (inward_activity x.inward)) (fresh_at s f e).1));
    }
  where
    held : (before after : Run) → [] ≡ before ++ after → AreHeldOnce (state_after s before)
    held [] after whole = (fresh-consistent s f).kept.held
    held (x ∷ before) after whole = absurd cc

    none : (before : Run) (made : ServiceStep × State) (after : Run) → [] ≡ before ++ made ∷ after → ⊥
    none [] made after whole = cc
    none (x ∷ before) made after whole = cc

-- ---- a call that is refused

-- the first test that holds
late-tests : (a b c d : Bool) → is_cause cause.Late (first_of ((a, cause.NoEnd) ∷ (b, cause.Dead) ∷ (c, cause.Late) ∷ (d, cause.NoActivity) ∷ [])) ≡ true → (a ≡ false) × (b ≡ false) × (c ≡ true)
late-tests true b c d is = absurd (true≢false (sym is))
late-tests false true c d is = absurd (true≢false (sym is))
late-tests false false true d is = (refl, refl, refl)
late-tests false false false true is = absurd (true≢false (sym is))
late-tests false false false false is = absurd (true≢false (sym is))

owned-by : (p : Pid) (x : Place) → not (is_owned_by p x) ≡ false → x ≡ place.Owned p
owned-by p (place.Owned q) is = ap place.Owned (same (nat_eq p.0 q.0) refl is)
  where
    same : (b : Bool) → nat_eq p.0 q.0 ≡ b → not b ≡ false → q ≡ p
    same true h is = λ i. record { 0 = sym (eqb-true p.0 q.0 h) i }
    same false h is = absurd (true≢false is)
owned-by p (place.InMessage f n) is = absurd (true≢false is)
owned-by p place.Destroyed is = absurd (true≢false is)
owned-by p place.Unmade is = absurd (true≢false is)

module _ (s : State) (run : Run) (h : HasHistory s run) where
  -- what a Late refusal needs, by what the history says
  rightly-late : (p : Pid) (e : EndId) (w : Way) → IsRefusedFor (state_after s run) p (call.Cancel e w) cause.Late → IsRightlyLate s run p e w
  rightly-late p e way.Outward refused =
      let tests = late-tests _ _ _ _ refused in
      h.matched e p (owned-by p ((state_after s run).ends e).place tests.0) tests.1 tests.2
  rightly-late p e way.Inward refused =
      let tests = late-tests _ _ _ _ refused in
      h.told e p (owned-by p ((state_after s run).ends e).place tests.0) tests.1 tests.2

  right-refusal : (p : Pid) (c : Call) (why : Cause) (all : Run) → IsRefusedFor (state_after s run) p c why → IsRightStep s all run (step.Refuse p c why)
  right-refusal p (call.Cancel e w) cause.Late all refused = rightly-late p e w refused
  right-refusal p _ _ all refused = tt

  -- a call that the service refuses leaves the run lawful
  pub history-refused : (p : Pid) (c : Call) (why : Cause) (t : State) → t ≡ state_after s run → IsRefusedFor (state_after s run) p c why → HasHistory s (run ++ (step.Refuse p c why, t) ∷ [])
  history-refused p c why t same refused =
      history-same s run (step.Refuse p c why, t) (record { send = λ f. refl; matches = λ f. refl; takes = λ f. refl; completes = λ f. refl }) h same
      (right-refusal p c why (run ++ (step.Refuse p c why, t) ∷ []) refused)
