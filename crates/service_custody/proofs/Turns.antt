-- What one step does to the receive of an end, and to its mark.
use Rattle.std.proofs.Common.{◌≡◌, ℕ, Bool, true, false, true≢false, ◌⊎◌, inl, inr, if◌then◌else◌, Option, Some, None, List, [], ◌∷◌, refl, sym, ap, subst, ◌∙◌}
use Rattle.charlotte_calls.specs.Names.{opposite}
use Rattle.charlotte_calls.specs.declared.calls.Report.{Report}
use Rattle.charlotte_calls.specs.declared.calls.ServiceStep.{ServiceStep}
use Rattle.charlotte_calls.specs.declared.calls.ServiceStep.TheVariants as step
use Rattle.charlotte_calls.specs.declared.names.EndId.{EndId}
use Rattle.charlotte_calls.specs.declared.names.LinkId.{LinkId}
use Rattle.charlotte_calls.specs.declared.names.Pid.{Pid}
use Rattle.charlotte_calls.specs.declared.names.Way.{Way}
use Rattle.charlotte_calls.specs.declared.names.Way.TheVariants as way
use Rattle.charlotte_calls.proofs.Causes.{none-fails}
use Rattle.charlotte_calls.specs.Causes.{receive_causes}
use Rattle.service_change.proofs.Counts.{and-true}
use Rattle.service_change.proofs.Change.{living-made}
use Rattle.service_change.proofs.EndEq.{end_eq-same, opposite-apart, opposite-opposite, put-at, put-other, puts-at}
use Rattle.service_change.proofs.Facts.{busy-inward, busy-made, busy-outward, made-owned, not-false, not-true, owner-Owned, posted-Posted, withdrawn-Withdrawn}
use Rattle.service_consistent.proofs.StepsOfDeaths.{return-matched}
use Rattle.service_consistent.proofs.StepsOfMessages.{take-inward}
use Rattle.service_lawful.specs.Consistent.{IsConsistent, is_over}
use Rattle.service_runs.proofs.Moves.{puts-apart}
use Rattle.service_step.specs.Causes.{sees}
use Rattle.service_step.specs.Ends.{end_eq, carried_by, destroys, destroys_each, destroys_owned, dropped, fresh, idles, is_destroyed, is_idle_inward, is_made, is_owned_by, is_unreported_inward, makes, matched_message, matched_outward, matches, noticed_end, noticed_inward, notices, owner, places, put, puts, returns, starts_send, takes, to_owner, turns_inward, turns_outward, unmade, waiting_message, withdraws_send}
use Rattle.service_step.specs.State.{State, next_link}
use Rattle.service_step.specs.Steps.{IsServiceStep, after_cancel, is_new_pair, may_receive_as}
use Rattle.service_step.specs.declared.state.End.{End}
use Rattle.service_step.specs.declared.state.Inward.{Inward}
use Rattle.service_step.specs.declared.state.Inward.TheVariants as inward
use Rattle.service_step.specs.declared.state.Message.{Message}
use Rattle.service_step.specs.declared.state.Outward.TheVariants as outward
use Rattle.service_step.specs.declared.state.Place.{Place}
use Rattle.service_step.specs.declared.state.Place.TheVariants as place
use Rattle.service_streams.proofs.Places.{oldest-there}

-- what an end hears: its receive and its mark
abbrev pub hears_of : End → End
hears_of x = record x { place = place.Unmade; outward = outward.Idle; sent = 0 }

-- what a step does to the receive of o
pub data Turn (s : State) (made : ServiceStep) (t : State) (o : EndId) : Type 0 where
  -- it stays
  stays : hears_of (t.ends o) ≡ hears_of (s.ends o) → Turn s made t o
  starts : made ≡ step.Receive o → (s.ends o).inward ≡ inward.Idle → t.ends o ≡ record (s.ends o) { inward = inward.Posted } → Turn s made t o
  meets : (n : ℕ) → made ≡ step.Match (opposite o) n → (s.ends o).inward ≡ inward.Posted → (t.ends o).inward ≡ inward.Matched n → (t.ends o).noticed ≡ (s.ends o).noticed → Turn s made t o
  gets : (n i : ℕ) (p : Pid) (late : Bool) → made ≡ step.Take (opposite o) n p late → (s.ends o).inward ≡ inward.Matched i → (t.ends o).inward ≡ inward.Unreported → (t.ends o).noticed ≡ (s.ends o).noticed → Turn s made t o
  withdraws : made ≡ step.Withdraw o → (s.ends o).inward ≡ inward.Posted → t.ends o ≡ record (s.ends o) { inward = inward.Withdrawn } → Turn s made t o
  frees : made ≡ step.Free o → (s.ends o).inward ≡ inward.Withdrawn → t.ends o ≡ record (s.ends o) { inward = inward.Idle } → Turn s made t o
  -- its report is given
  tells : (p : Pid) (r : Report) → made ≡ step.Report p r → r.on ≡ o → r.way ≡ way.Inward → (s.ends o).inward ≡ inward.Unreported → t.ends o ≡ record (s.ends o) { inward = inward.Idle } → Turn s made t o
  -- the death of the link is noticed at o
  marked : (dead : Bool) → (made ≡ step.Notice o dead) ⊎ ((n : ℕ) × (made ≡ step.Back o n dead)) → (t.ends o).noticed ≡ true → (t.ends o).inward ≡ noticed_inward (s.ends o).inward → Turn s made t o

-- tables in which all ends hear what they heard

puts-hears : (e : EndId) (x : End) (t : EndId → End) (q : EndId) → hears_of x ≡ hears_of (t e) → hears_of (puts e x t q) ≡ hears_of (t q)
unfolding puts
puts-hears e x t q same = by (is_made (t e).place) (end_eq e q) refl
  where
    by : (b c : Bool) → end_eq e q ≡ c → hears_of ((if b then put t e x else t) q) ≡ hears_of (t q)
    by true true its = subst (λ z. hears_of (put t e x z) ≡ hears_of (t z)) (end_eq-same e q its) (ap hears_of (put-at t e x) ∙ same)
    by true false apart = ap hears_of (put-other t e x q apart)
    by false c is = refl

places-hears : (at : Place) (xs : List EndId) (t : EndId → End) (q : EndId) → hears_of (places at xs t q) ≡ hears_of (t q)
unfolding places
places-hears at [] t q = refl
places-hears at (x ∷ xs) t q = places-hears at xs (puts x (record (t x) { place = at }) t) q ∙ puts-hears x (record (t x) { place = at }) t q refl

owner-hears : (o : Option Pid) (xs : List EndId) (t : EndId → End) (q : EndId) → hears_of (to_owner o xs t q) ≡ hears_of (t q)
owner-hears None xs t q = refl
owner-hears (Some p) xs t q = places-hears (place.Owned p) xs t q

destroys-hears : (e : EndId) (t : EndId → End) (q : EndId) → hears_of (destroys e t q) ≡ hears_of (t q)
unfolding destroys
destroys-hears e t q = places-hears place.Destroyed (carried_by (waiting_message (t e).outward)) _ q ∙ puts-hears e (record (t e) { place = place.Destroyed; outward = dropped (t e).outward }) t q refl

destroys_each-hears : (p : Pid) (mine : List EndId) (t : EndId → End) (q : EndId) → hears_of (destroys_each p mine t q) ≡ hears_of (t q)
unfolding destroys_each destroys_owned
destroys_each-hears p [] t q = refl
destroys_each-hears p (e ∷ mine) t q = destroys_each-hears p mine (destroys_owned p e t) q ∙ by (is_owned_by p (t e).place)
  where
    by : (b : Bool) → hears_of ((if b then destroys e t else t) q) ≡ hears_of (t q)
    by true = destroys-hears e t q
    by false = refl

makes-hears : (p : Pid) (a b : EndId) (t : EndId → End) (q : EndId) → t a ≡ unmade → t b ≡ unmade → hears_of (makes p a b t q) ≡ hears_of (t q)
unfolding makes
makes-hears p a b t q at_a at_b = by (end_eq b q) refl (end_eq a q) refl
  where
    u : EndId → End
    u = put t a (fresh (place.Owned p))

    by : (x : Bool) → end_eq b q ≡ x → (y : Bool) → end_eq a q ≡ y → hears_of (put u b (fresh (place.Owned p)) q) ≡ hears_of (t q)
    by true same y is = subst (λ z. hears_of (put u b (fresh (place.Owned p)) z) ≡ hears_of (t z)) (end_eq-same b q same) (ap hears_of (put-at u b (fresh (place.Owned p))) ∙ sym (ap hears_of at_b))
    by false apart true same =
        ap hears_of (put-other u b (fresh (place.Owned p)) q apart)
        ∙ subst (λ z. hears_of (put t a (fresh (place.Owned p)) z) ≡ hears_of (t z)) (end_eq-same a q same) (ap hears_of (put-at t a (fresh (place.Owned p))) ∙ sym (ap hears_of at_a))
    by false apart false neither = ap hears_of (put-other u b (fresh (place.Owned p)) q apart ∙ put-other t a (fresh (place.Owned p)) q neither)

-- places

pub destroyed-is : (at : Place) → is_destroyed at ≡ true → at ≡ place.Destroyed
destroyed-is place.Destroyed is = refl
destroyed-is (place.Owned p) is = absurd (true≢false (sym is))
destroyed-is (place.InMessage f n) is = absurd (true≢false (sym is))
destroyed-is place.Unmade is = absurd (true≢false (sym is))

unmade-is : (s : State) (e : EndId) → IsConsistent s → is_made (s.ends e).place ≡ false → s.ends e ≡ unmade
unmade-is s e k not = k.kept.unmade e (by (s.ends e).place not)
  where
    by : (at : Place) → is_made at ≡ false → at ≡ place.Unmade
    by place.Unmade is = refl
    by (place.Owned p) is = absurd (true≢false is)
    by (place.InMessage f n) is = absurd (true≢false is)
    by place.Destroyed is = absurd (true≢false is)

-- both ends of a new link are not made
pub new-unmade : (s : State) (o : Option LinkId) (a b : EndId) → IsConsistent s → is_new_pair s.ends o a b ≡ true → (s.ends a ≡ unmade) × (s.ends b ≡ unmade)
new-unmade s None a b k may = absurd (true≢false (sym may))
new-unmade s (Some link) a b k may = let five = and-true _ _ may in (unmade-is s a k (not-true _ (and-true _ _ five.0).1), unmade-is s b k (not-true _ five.1))

-- the end that changes is o or not
module _ (s : State) (made : ServiceStep) (t : State) (o : EndId) where
  turn-by : (e : EndId) → (o ≡ e → Turn s made t o) → (end_eq o e ≡ false → Turn s made t o) → Turn s made t o
  turn-by e its others = by (end_eq o e) refl
    where
      by : (b : Bool) → end_eq o e ≡ b → Turn s made t o
      by true same = its (end_eq-same o e same)
      by false apart = others apart

  -- a table where the receive of e turns, and the ends of a message move
  turn-inward : (e : EndId) (i : Inward) (u : EndId → End) → t.ends ≡ turns_inward i e u → hears_of (u o) ≡ hears_of (s.ends o) → is_made (u e).place ≡ true → (t.ends e ≡ record (u e) { inward = i } → o ≡ e → Turn s made t o) → Turn s made t o
  unfolding turns_inward
  turn-inward e i u after same is_one its =
      turn-by e (its (ap (λ f. f e) after ∙ puts-at e (record (u e) { inward = i }) u is_one))
      (λ apart. stays (ap (λ f. hears_of (f o)) after ∙ ap hears_of (puts-apart e o (record (u e) { inward = i }) u apart) ∙ same))

-- a receive that is not idle is of an end that was made
pub busy-is : (s : State) (e : EndId) (i : Inward) → IsConsistent s → (s.ends e).inward ≡ i → (i ≡ inward.Idle → ⊥) → is_made (s.ends e).place ≡ true
busy-is s e i k is busy = busy-made s e k (busy-inward (s.ends e) (λ idle. busy (sym is ∙ idle)))

idle-in : (i : Inward) → is_idle_inward i ≡ true → i ≡ inward.Idle
idle-in inward.Idle is = refl
idle-in inward.Posted is = absurd (true≢false (sym is))
idle-in inward.Withdrawn is = absurd (true≢false (sym is))
idle-in (inward.Matched n) is = absurd (true≢false (sym is))
idle-in inward.Unreported is = absurd (true≢false (sym is))

unreported-in : (i : Inward) → is_unreported_inward i ≡ true → i ≡ inward.Unreported
unreported-in inward.Unreported is = refl
unreported-in inward.Idle is = absurd (true≢false (sym is))
unreported-in inward.Posted is = absurd (true≢false (sym is))
unreported-in inward.Withdrawn is = absurd (true≢false (sym is))
unreported-in (inward.Matched n) is = absurd (true≢false (sym is))

-- what may be received
may-receive : (s : State) (e : EndId) (o : Option Pid) → owner (s.ends e).place ≡ o → may_receive_as s o e ≡ true → (is_made (s.ends e).place ≡ true) × ((s.ends e).inward ≡ inward.Idle)
may-receive s e None is may = absurd (true≢false (sym may))
may-receive s e (Some p) is may =
    let fails = none-fails (receive_causes (sees p s.ends e)) (and-true _ _ may).1 in
    (made-owned (s.ends e).place p (owner-Owned (s.ends e).place p is), idle-in (s.ends e).inward (not-false _ fails.1.0))

pub posted-busy : inward.Posted ≡ inward.Idle → ⊥
posted-busy is = cc

matched-busy : (n : ℕ) → inward.Matched n ≡ inward.Idle → ⊥
matched-busy n is = cc

pub withdrawn-busy : inward.Withdrawn ≡ inward.Idle → ⊥
withdrawn-busy is = cc

unreported-busy : inward.Unreported ≡ inward.Idle → ⊥
unreported-busy is = cc

-- the end that receives, after a match
pub match-its : (s : State) (e : EndId) (n : ℕ) (t : State) → IsConsistent s → IsServiceStep s (step.Match e n) t
    → (hears_of (t.ends (opposite e)) ≡ hears_of (record (s.ends (opposite e)) { inward = inward.Matched n })) × ((s.ends (opposite e)).inward ≡ inward.Posted)
unfolding matches turns_outward turns_inward
match-its s e n t k is =
    let posted = posted-Posted (s.ends (opposite e)).inward (and-true _ _ is.allowed).1 in
    let u = puts e (record (s.ends e) { outward = matched_outward (s.ends e).outward }) s.ends in
    let same : u (opposite e) ≡ s.ends (opposite e) = puts-apart e (opposite e) (record (s.ends e) { outward = matched_outward (s.ends e).outward }) s.ends (opposite-apart e) in (
      ap (λ z. hears_of (z.ends (opposite e))) is.after
          ∙ ap hears_of (puts-at (opposite e) (record (u (opposite e)) { inward = inward.Matched n }) u (ap (λ z. is_made z.place) same ∙ busy-is s (opposite e) inward.Posted k posted posted-busy))
          ∙ ap (λ (z : End). hears_of (record z { inward = inward.Matched n })) same,
      posted,
    )

-- and the end of a report that is given
pub report-its : (s : State) (p : Pid) (r : Report) (t : State) → IsConsistent s → IsServiceStep s (step.Report p r) t → r.way ≡ way.Inward
    → (t.ends r.on ≡ record (s.ends r.on) { inward = inward.Idle }) × ((s.ends r.on).inward ≡ inward.Unreported)
unfolding idles turns_inward
report-its s p r t k is received =
    let over = unreported-in (s.ends r.on).inward (subst (λ w. is_over w (s.ends r.on) ≡ true) received (k.reported.over p r (oldest-there (s.process p.0).reports r is.allowed.1))) in (
      ap (λ z. z.ends r.on) is.after ∙ ap (λ w. idles w r.on s.ends r.on) received ∙ puts-at r.on (record (s.ends r.on) { inward = inward.Idle }) s.ends (busy-is s r.on inward.Unreported k over unreported-busy),
      over,
    )

module _ (s : State) (t : State) (o : EndId) (k : IsConsistent s) where
  turn-match : (e : EndId) (n : ℕ) → IsServiceStep s (step.Match e n) t → Turn s (step.Match e n) t o
  unfolding matches turns_outward turns_inward
  turn-match e n is =
      let its = match-its s e n t k is in
      turn-by s _ t o (opposite e)
      (λ on. meets n (ap (λ z. step.Match z n) (sym (opposite-opposite e) ∙ sym (ap opposite on))) (subst (λ z. (s.ends z).inward ≡ inward.Posted) (sym on) its.1)
      (subst (λ z. (t.ends z).inward ≡ inward.Matched n) (sym on) (ap (λ z. z.inward) its.0)) (subst (λ z. (t.ends z).noticed ≡ (s.ends z).noticed) (sym on) (ap (λ z. z.noticed) its.0)))
      (λ apart. stays (ap (λ z. hears_of (z.ends o)) is.after ∙ ap hears_of (puts-apart (opposite e) o _ _ apart) ∙ puts-hears e _ s.ends o refl))

  turn-take : (e : EndId) (n : ℕ) (p : Pid) (late : Bool) → IsServiceStep s (step.Take e n p late) t → Turn s (step.Take e n p late) t o
  unfolding takes turns_outward turns_inward
  turn-take e n p late is =
      turn-by s _ t o (opposite e)
      (λ on. gets n was.0 p late (ap (λ z. step.Take z n p late) (sym (opposite-opposite e) ∙ sym (ap opposite on))) (subst (λ z. (s.ends z).inward ≡ inward.Matched was.0) (sym on) was.1)
      (subst (λ z. (t.ends z).inward ≡ inward.Unreported) (sym on) (ap (λ z. z.inward) its)) (subst (λ z. (t.ends z).noticed ≡ (s.ends z).noticed) (sym on) (ap (λ z. z.noticed) its ∙ ap (λ z. z.noticed) same)))
      (λ apart. stays (whole o ∙ ap hears_of (puts-apart (opposite e) o _ u apart) ∙ puts-hears e _ s.ends o refl))
    where
      u : EndId → End
      u = puts e (record (s.ends e) { outward = outward.Taken }) s.ends

      v : EndId → End
      v = puts (opposite e) (record (u (opposite e)) { inward = inward.Unreported }) u

      was : (i : ℕ) × ((s.ends (opposite e)).inward ≡ inward.Matched i)
      was = take-inward s e n p late k is.allowed

      same : hears_of (u (opposite e)) ≡ hears_of (s.ends (opposite e))
      same = puts-hears e (record (s.ends e) { outward = outward.Taken }) s.ends (opposite e) refl

      whole : (q : EndId) → hears_of (t.ends q) ≡ hears_of (v q)
      whole q = ap (λ z. hears_of (z.ends q)) is.after ∙ places-hears (place.Owned p) (carried_by (matched_message (s.ends e).outward)) v q

      its : hears_of (t.ends (opposite e)) ≡ hears_of (record (u (opposite e)) { inward = inward.Unreported })
      its =
          whole (opposite e)
          ∙ ap hears_of (puts-at (opposite e) (record (u (opposite e)) { inward = inward.Unreported }) u (ap is_made (ap (λ z. z.place) (puts-apart e (opposite e) _ s.ends (opposite-apart e))) ∙ busy-is s (opposite e) (inward.Matched was.0) k was.1 (matched-busy was.0)))

  turn-report : (p : Pid) (r : Report) → IsServiceStep s (step.Report p r) t → Turn s (step.Report p r) t o
  unfolding idles turns_outward turns_inward
  turn-report p r is = by r.way refl (ap (λ z. z.ends) is.after)
    where
      by : (w : Way) → r.way ≡ w → t.ends ≡ idles w r.on s.ends → Turn s (step.Report p r) t o
      by way.Outward sent after = stays (ap (λ f. hears_of (f o)) after ∙ puts-hears r.on _ s.ends o refl)
      by way.Inward received after =
          let its = report-its s p r t k is received in
          turn-by s _ t o r.on
          (λ on. tells p r refl (sym on) received (subst (λ z. (s.ends z).inward ≡ inward.Unreported) (sym on) its.1) (subst (λ z. t.ends z ≡ record (s.ends z) { inward = inward.Idle }) (sym on) its.0))
          (λ apart. stays (ap (λ f. hears_of (f o)) after ∙ ap hears_of (puts-apart r.on o _ s.ends apart)))

  -- the end e changes to y, where the death is noticed, or hears what it heard
  turn-marked : (made : ServiceStep) (e : EndId) (y : End) (w : Option Pid) (xs : List EndId) → t.ends ≡ to_owner w xs (puts e y s.ends)
      → (hears_of y ≡ hears_of (s.ends e)) ⊎ ((y.noticed ≡ true) × (y.inward ≡ noticed_inward (s.ends e).inward) × (is_made (s.ends e).place ≡ true) × (dead : Bool) × ((made ≡ step.Notice e dead) ⊎ ((n : ℕ) × (made ≡ step.Back e n dead)))) → Turn s made t o
  turn-marked made e y w xs after (inl same) = stays (ap (λ f. hears_of (f o)) after ∙ owner-hears w xs _ o ∙ puts-hears e y s.ends o same)
  turn-marked made e y w xs after (inr new) =
      turn-by s made t o e
      (λ on. subst (Turn s made t) (sym on) (marked new.3 new.4 (ap (λ z. z.noticed) its ∙ new.0) (ap (λ z. z.inward) its ∙ new.1)))
      (λ apart. stays (ap (λ f. hears_of (f o)) after ∙ owner-hears w xs _ o ∙ ap hears_of (puts-apart e o y s.ends apart)))
    where
      its : hears_of (t.ends e) ≡ hears_of y
      its = ap (λ f. hears_of (f e)) after ∙ owner-hears w xs _ e ∙ ap hears_of (puts-at e y s.ends new.2)

  turn-back : (e : EndId) (n : ℕ) (dead : Bool) → IsServiceStep s (step.Back e n dead) t → Turn s (step.Back e n dead) t o
  unfolding returns turns_outward
  turn-back e n dead is = by (is_destroyed (s.ends e).place) (s.ends e).noticed (ap (λ z. z.ends) is.after)
    where
      xs : List EndId
      xs = carried_by (matched_message (s.ends e).outward)

      found : (m : Message) × ((s.ends e).outward ≡ outward.Matched m)
      found = return-matched s e n dead k is.allowed

      differ : (s.ends e).outward ≡ outward.Matched found.0 → (s.ends e).outward ≡ outward.Idle → ⊥
      differ a b = cc

      was : is_made (s.ends e).place ≡ true
      was = busy-made s e k (busy-outward (s.ends e) (differ found.1))

      by : (b c : Bool) → t.ends ≡ (if b then places place.Destroyed xs (puts e (record (s.ends e) { outward = outward.Idle }) s.ends) else to_owner (owner (s.ends e).place) xs (puts e (if c then record (s.ends e) { outward = outward.Unreported } else noticed_end (record (s.ends e) { outward = outward.Unreported })) s.ends))
          → Turn s (step.Back e n dead) t o
      by true c after = stays (ap (λ f. hears_of (f o)) after ∙ places-hears place.Destroyed xs _ o ∙ puts-hears e _ s.ends o refl)
      by false true after = turn-marked _ e (record (s.ends e) { outward = outward.Unreported }) (owner (s.ends e).place) xs after (inl refl)
      by false false after = turn-marked _ e (noticed_end (record (s.ends e) { outward = outward.Unreported })) (owner (s.ends e).place) xs after (inr (refl, refl, was, dead, inr (n, refl)))

  -- each step
  pub turn : (made : ServiceStep) → IsServiceStep s made t → Turn s made t o
  unfolding starts_send withdraws_send turns_outward notices
  turn (step.Make p a b) is =
      let both = new-unmade s (next_link s p) a b k (and-true _ _ is.allowed).1 in
      stays (ap (λ z. hears_of (z.ends o)) is.after ∙ makes-hears p a b s.ends o both.0 both.1)
  turn (step.Refuse p call cause) is = stays (ap (λ z. hears_of (z.ends o)) is.after)
  turn (step.Destroy e) is = stays (ap (λ z. hears_of (z.ends o)) is.after ∙ destroys-hears e s.ends o)
  turn (step.Send e n bytes xs) is = stays (ap (λ z. hears_of (z.ends o)) is.after ∙ places-hears (place.InMessage e n) xs _ o ∙ puts-hears e _ s.ends o refl)
  turn (step.Receive e) is =
      let may = may-receive s e (owner (s.ends e).place) refl is.allowed in
      turn-inward s _ t o e inward.Posted s.ends (ap (λ z. z.ends) is.after) refl may.0
      (λ its on. starts (ap step.Receive (sym on)) (subst (λ z. (s.ends z).inward ≡ inward.Idle) (sym on) may.1) (subst (λ z. t.ends z ≡ record (s.ends z) { inward = inward.Posted }) (sym on) its))
  turn (step.Cancel e w) is = stays (ap (λ z. hears_of (z.ends o)) is.after ∙ by (owner (s.ends e).place) w)
    where
      by : (p : Option Pid) (w : Way) → hears_of ((after_cancel p e w s).ends o) ≡ hears_of (s.ends o)
      by None w = refl
      by (Some p) way.Outward = places-hears (place.Owned p) (carried_by (waiting_message (s.ends e).outward)) _ o ∙ puts-hears e _ s.ends o refl
      by (Some p) way.Inward = refl
  turn (step.Wait p) is = stays (ap (λ z. hears_of (z.ends o)) is.after)
  turn (step.Report p r) is = turn-report p r is
  turn (step.Exit p) is = stays (ap (λ z. hears_of (z.ends o)) is.after.after ∙ destroys_each-hears p is.after.mine s.ends o)
  turn (step.Match e n) is = turn-match e n is
  turn (step.Take e n p late) is = turn-take e n p late is
  turn (step.Complete e n) is = stays (ap (λ z. hears_of (z.ends o)) is.after ∙ puts-hears e _ s.ends o refl)
  turn (step.Withdraw e) is =
      let was = posted-Posted (s.ends e).inward (and-true _ _ is.allowed).0 in
      turn-inward s _ t o e inward.Withdrawn s.ends (ap (λ z. z.ends) is.after) refl (busy-is s e inward.Posted k was posted-busy)
      (λ its on. withdraws (ap step.Withdraw (sym on)) (subst (λ z. (s.ends z).inward ≡ inward.Posted) (sym on) was) (subst (λ z. t.ends z ≡ record (s.ends z) { inward = inward.Withdrawn }) (sym on) its))
  turn (step.Free e) is =
      let was = withdrawn-Withdrawn (s.ends e).inward (and-true _ _ is.allowed).0 in
      turn-inward s _ t o e inward.Idle s.ends (ap (λ z. z.ends) is.after) refl (busy-is s e inward.Withdrawn k was withdrawn-busy)
      (λ its on. frees (ap step.Free (sym on)) (subst (λ z. (s.ends z).inward ≡ inward.Withdrawn) (sym on) was) (subst (λ z. t.ends z ≡ record (s.ends z) { inward = inward.Idle }) (sym on) its))
  turn (step.Notice e dead) is =
      turn-marked _ e (noticed_end (s.ends e)) (owner (s.ends e).place) (carried_by (waiting_message (s.ends e).outward)) (ap (λ z. z.ends) is.after)
      (inr (refl, refl, living-made (s.ends e).place (and-true _ _ (and-true _ _ (and-true _ _ is.allowed).0).0).1, dead, inl refl))
  turn (step.Back e n dead) is = turn-back e n dead is
