-- One end changes, and with it the ends that its message carries: why what is true of the state stays true.
use Rattle.std.proofs.Common.{◌≡◌, ◌≢◌, ℕ, ◌≤◌, Bool, true, false, true≢false, nat_lt, ◌&&◌, not, ◌⊎◌, inl, inr, if◌then◌else◌, length, Option, Some, None, IsSome, List, [], Contains, slice_index, refl, sym, ap, subst, ◌∙◌}
use Rattle.std.specs.List.{list_any}
use Rattle.charlotte_calls.specs.EndEq.{names_twice, same_link}
use Rattle.charlotte_calls.specs.Names.{opposite}
use Rattle.charlotte_calls.specs.declared.calls.Report.{Report}
use Rattle.charlotte_calls.specs.declared.names.EndId.{EndId}
use Rattle.charlotte_calls.specs.declared.names.Outcome.TheVariants as outcome
use Rattle.charlotte_calls.specs.declared.names.Pid.{Pid}
use Rattle.charlotte_calls.specs.declared.names.Way.{Way}
use Rattle.charlotte_calls.specs.declared.names.Way.TheVariants as way
use Rattle.service_change.proofs.Counts.{IsAfter, IsCountedAt, AreDone, and-true, counted-none, counted-reported, counted-same, counts, counts-none, reported-counted}
use Rattle.service_change.proofs.EndEq.{among, at_place, end_eq-apart, end_eq-same}
use Rattle.service_lawful.specs.Consistent.{IsConsistent, AreKept, AreNoticed, AreProcesses, is_over, is_open}
use Rattle.service_step.specs.Ends.{end_eq, unmade, is_made, is_living, owner, is_idle, is_idle_outward, is_idle_inward, is_started_inward, waiting_message}
use Rattle.service_step.specs.Lawful.{IsCarried, IsHeldAt, message_of}
use Rattle.service_step.specs.State.{State, no_process}
use Rattle.service_step.specs.declared.state.End.{End}
use Rattle.service_step.specs.declared.state.Inward.{Inward}
use Rattle.service_step.specs.declared.state.Inward.TheVariants as inward
use Rattle.service_step.specs.declared.state.Message.{Message}
use Rattle.service_step.specs.declared.state.Outward.{Outward}
use Rattle.service_step.specs.declared.state.Outward.TheVariants as outward
use Rattle.service_step.specs.declared.state.Phase.{Phase}
use Rattle.service_step.specs.declared.state.Phase.TheVariants as phase
use Rattle.service_step.specs.declared.state.Place.{Place}
use Rattle.service_step.specs.declared.state.Place.TheVariants as place

-- what becomes of the end q where e changes and each of xs comes to a place
pub data Part (s t : EndId → End) (e : EndId) (xs : List EndId) (at : Place) (q : EndId) : Type 0 where
  its : e ≡ q → Part s t e xs at q
  carried : end_eq e q ≡ false → among q xs ≡ true → t q ≡ at_place at (s q) → Part s t e xs at q
  other : end_eq e q ≡ false → among q xs ≡ false → t q ≡ s q → Part s t e xs at q

-- what is true of an end whatever the others are
pub record IsWell (e : EndId) (x : End) : Type 0 where
  pub unmade : x.place ≡ place.Unmade → x ≡ unmade
  pub apart : (m : Message) → message_of x.outward ≡ Some m → names_twice m.carried ≡ false
  pub others : (m : Message) → message_of x.outward ≡ Some m → list_any (same_link e) m.carried ≡ false
  pub waiting : (m : Message) → x.outward ≡ outward.Waiting m → IsSome (owner x.place)
  pub resting : (f : EndId) (n : ℕ) → x.place ≡ place.InMessage f n → is_idle x ≡ true
  pub silent : x.noticed ≡ true → is_living x.place ≡ true → waiting_message x.outward ≡ None
  pub deaf : x.noticed ≡ true → is_living x.place ≡ true → is_started_inward x.inward ≡ false

idle-Outward : (o : Outward) → is_idle_outward o ≡ true → o ≡ outward.Idle
idle-Outward outward.Idle is = refl
idle-Outward (outward.Waiting m) is = absurd (true≢false (sym is))
idle-Outward (outward.Matched m) is = absurd (true≢false (sym is))
idle-Outward outward.Taken is = absurd (true≢false (sym is))
idle-Outward outward.Unreported is = absurd (true≢false (sym is))

idle-Inward : (i : Inward) → is_idle_inward i ≡ true → i ≡ inward.Idle
idle-Inward inward.Idle is = refl
idle-Inward inward.Posted is = absurd (true≢false (sym is))
idle-Inward inward.Withdrawn is = absurd (true≢false (sym is))
idle-Inward (inward.Matched n) is = absurd (true≢false (sym is))
idle-Inward inward.Unreported is = absurd (true≢false (sym is))

pub idle-parts : (x : End) → is_idle x ≡ true → (x.outward ≡ outward.Idle) × (x.inward ≡ inward.Idle)
idle-parts x is = let both = and-true _ _ is in (idle-Outward x.outward both.0, idle-Inward x.inward both.1)

pub none-some : {A : Type 0} (o : Option A) (a : A) → o ≡ None → o ≡ Some a → ⊥
none-some o a none some = cc

pub idle-message : (x : End) (m : Message) → is_idle x ≡ true → message_of x.outward ≡ Some m → ⊥
idle-message x m idle is = none-some (message_of x.outward) m (ap message_of (idle-parts x idle).0) is

pub idle-over : (w : Way) (x : End) → is_idle x ≡ true → is_over w x ≡ false
idle-over way.Outward x idle = ap (λ o. is_over way.Outward (record x { outward = o })) (idle-parts x idle).0
idle-over way.Inward x idle = ap (λ i. is_over way.Inward (record x { inward = i })) (idle-parts x idle).1

pub living-made : (at : Place) → is_living at ≡ true → is_made at ≡ true
living-made (place.Owned p) is = refl
living-made (place.InMessage f n) is = refl
living-made place.Destroyed is = absurd (true≢false (sym is))
living-made place.Unmade is = absurd (true≢false (sym is))

pub IsWell-idle : (e : EndId) (x : End) → is_idle x ≡ true → is_made x.place ≡ true → IsWell e x
IsWell-idle e x idle made =
    record {
      unmade = λ is. absurd (true≢false (sym made ∙ ap is_made is));
      apart = λ m is. absurd (idle-message x m idle is);
      others = λ m is. absurd (idle-message x m idle is);
      waiting = λ m is. absurd (busy m is);
      resting = λ f n is. idle;
      silent = λ noticed living. ap waiting_message (idle-parts x idle).0;
      deaf = λ noticed living. ap is_started_inward (idle-parts x idle).1;
    }
  where
    busy : (m : Message) → x.outward ≡ outward.Waiting m → ⊥
    busy m is = let none = (idle-parts x idle).0 in cc

pub well-kept : (s : State) → AreKept s → AreNoticed s.ends → (e : EndId) → IsWell e (s.ends e)
well-kept s k d e =
    record {
      unmade = k.unmade e;
      apart = k.apart e;
      others = k.others e;
      waiting = k.waiting e;
      resting = λ f n is. k.resting e f n is;
      silent = d.outward e;
      deaf = d.inward e;
    }

-- what a message carries does not change where its end does not
pub IsCarried-at : (s t : State) (f : EndId) (n : ℕ) (q : EndId) → t.ends f ≡ s.ends f → IsCarried s f n q → IsCarried t f n q
IsCarried-at s t f n q same c =
    record { message = c.message; there = ap (λ x. message_of x.outward) same ∙ c.there; number = ap (λ x. x.sent) same ∙ c.number; carries = c.carries }

-- of the message of e
pub record IsMoving (s t : State) (e : EndId) (xs : List EndId) (at : Place) : Type 0 where
  pub apart : among e xs ≡ false
  pub made : is_made at ≡ true
  pub idle : (y : EndId) → among y xs ≡ true → is_idle (s.ends y) ≡ true
  pub living : (y : EndId) → among y xs ≡ true → is_living (s.ends y).place ≡ true
  pub origin : (y f : EndId) (n : ℕ) → among y xs ≡ true → (s.ends y).place ≡ place.InMessage f n → f ≡ e
  pub held : (y : EndId) → among y xs ≡ true → IsHeldAt t y at
  pub keeps : (q : EndId) (n : ℕ) → among q xs ≡ false → IsCarried s e n q → IsCarried t e n q
  pub carries : (q : EndId) (n : ℕ) → IsCarried t e n q → ((among q xs ≡ true) × (at ≡ place.InMessage e n)) ⊎ ((among q xs ≡ false) × IsCarried s e n q)

-- of the processes
pub record IsGoing (s t : State) (e : EndId) : Type 0 where
  pub alive : (p : Pid) → (s.process p.0).phase ≢ phase.Ended → (t.process p.0).phase ≢ phase.Ended
  pub ended : (p : Pid) → (s.process p.0).phase ≡ phase.Ended → t.process p.0 ≡ s.process p.0
  pub elsewhere : (p : Pid) (f : EndId) → (t.process p.0).phase ≡ phase.Cancelling f → end_eq e f ≡ false → (s.process p.0).phase ≡ phase.Cancelling f
  pub here : (p : Pid) → (t.process p.0).phase ≡ phase.Cancelling e → ((t.ends e).place ≡ place.Owned p) × (is_started_inward (t.ends e).inward ≡ true)

-- of the reports
pub record IsTelling (s t : State) (e : EndId) : Type 0 where
  pub elsewhere : (f : EndId) (w : Way) (p : Pid) → end_eq e f ≡ false → counts t f w p ≡ counts s f w p
  pub here : IsCountedAt t e
  pub done : (p : Pid) (r : Report) → Contains (t.process p.0).reports r → Contains (s.process p.0).reports r ⊎ ((r.on ≡ e) × (is_open (t.ends e) ≡ true → r.outcome ≡ outcome.Done))

pub record IsChange (s t : State) (e : EndId) (xs : List EndId) (at : Place) : Type 0 where
  pub made : t.made ≡ s.made
  pub homes : t.homes ≡ s.homes
  pub part : (q : EndId) → Part s.ends t.ends e xs at q
  pub was : is_made (s.ends e).place ≡ true
  pub after : IsAfter (s.ends e).place (t.ends e).place
  pub leaves : (f : EndId) (n : ℕ) → (s.ends e).place ≡ place.InMessage f n → (t.ends e).place ≡ (s.ends e).place
  pub well : IsWell e (t.ends e)
  pub noticed : (t.ends e).noticed ≡ true → (s.ends (opposite e)).place ≡ place.Destroyed
  pub sooner : (s.ends e).noticed ≡ true → (t.ends e).noticed ≡ true
  pub moving : IsMoving s t e xs at
  pub going : IsGoing s t e
  pub telling : IsTelling s t e

-- an end whose death is noticed later is open before
open-before : (x y : End) → (y.noticed ≡ true → x.noticed ≡ true) → IsAfter y.place x.place → is_open x ≡ true → is_open y ≡ true
open-before x y sooner (inl same) opens =
    let both = and-true (is_living x.place) _ opens in
    by (ap is_living (sym same) ∙ both.0) (is_open_mark y.noticed (λ is. sooner is) both.1)
  where
    is_open_mark : (b : Bool) → (b ≡ true → x.noticed ≡ true) → (if x.noticed then false else true) ≡ true → (if b then false else true) ≡ true
    is_open_mark true sooner is = absurd (true≢false (sym (ap (λ c. if c then false else true) (sym (sooner refl)) ∙ is)))
    is_open_mark false sooner is = refl

    by : is_living y.place ≡ true → (if y.noticed then false else true) ≡ true → is_open y ≡ true
    by living mark = ap (λ b. b && (if y.noticed then false else true)) living ∙ mark
open-before x y sooner (inr gone) opens = absurd (true≢false (sym (ap (λ p. is_living p && (if x.noticed then false else true)) (sym gone) ∙ opens)))

ended-or : (x : Phase) → (x ≡ phase.Ended) ⊎ (x ≢ phase.Ended)
ended-or phase.Running = inr (λ is. cc)
ended-or phase.Waiting = inr (λ is. cc)
ended-or (phase.Cancelling e) = inr (λ is. cc)
ended-or phase.Ended = inl refl

module _ (s t : State) (e : EndId) (xs : List EndId) (at : Place) (c : IsChange s t e xs at) (k : IsConsistent s) where
  was-well : (q : EndId) → IsWell q (s.ends q)
  was-well = well-kept s k.kept k.noticed

  change-well : (q : EndId) → IsWell q (t.ends q)
  change-well q = by (c.part q)
    where
      by : Part s.ends t.ends e xs at q → IsWell q (t.ends q)
      by (its same) = subst (λ z. IsWell z (t.ends z)) same c.well
      by (carried apart is to) = subst (IsWell q) (sym to) (IsWell-idle q (at_place at (s.ends q)) (c.moving.idle q is) c.moving.made)
      by (other apart not same) = subst (IsWell q) (sym same) (was-well q)

  change-made : (q : EndId) → is_made (t.ends q).place ≡ is_made (s.ends q).place
  change-made q = by (c.part q)
    where
      by_place : IsAfter (s.ends e).place (t.ends e).place → is_made (t.ends e).place ≡ is_made (s.ends e).place
      by_place (inl same) = ap is_made same
      by_place (inr gone) = ap is_made gone ∙ sym c.was

      by : Part s.ends t.ends e xs at q → is_made (t.ends q).place ≡ is_made (s.ends q).place
      by (its same) = subst (λ z. is_made (t.ends z).place ≡ is_made (s.ends z).place) same (by_place c.after)
      by (carried apart is to) = ap (λ x. is_made x.place) to ∙ c.moving.made ∙ sym (living-made _ (c.moving.living q is))
      by (other apart not same) = ap (λ x. is_made x.place) same

  change-gone : (q : EndId) → (s.ends q).place ≡ place.Destroyed → (t.ends q).place ≡ place.Destroyed
  change-gone q gone = by (c.part q)
    where
      by_place : IsAfter (s.ends e).place (t.ends e).place → (s.ends e).place ≡ place.Destroyed → (t.ends e).place ≡ place.Destroyed
      by_place (inl same) gone = same ∙ gone
      by_place (inr now) gone = now

      by : Part s.ends t.ends e xs at q → (t.ends q).place ≡ place.Destroyed
      by (its same) = subst (λ z. (t.ends z).place ≡ place.Destroyed) same (by_place c.after (subst (λ z. (s.ends z).place ≡ place.Destroyed) (sym same) gone))
      by (carried apart is to) = absurd (true≢false (sym (c.moving.living q is) ∙ ap is_living gone))
      by (other apart not same) = ap (λ x. x.place) same ∙ gone

  change-noticed : (q : EndId) → (t.ends q).noticed ≡ true → (t.ends (opposite q)).place ≡ place.Destroyed
  change-noticed q is = change-gone (opposite q) (by (c.part q))
    where
      by : Part s.ends t.ends e xs at q → (s.ends (opposite q)).place ≡ place.Destroyed
      by (its same) = subst (λ z. (s.ends (opposite z)).place ≡ place.Destroyed) same (c.noticed (subst (λ z. (t.ends z).noticed ≡ true) (sym same) is))
      by (carried apart among to) = k.noticed.opposite q (sym (ap (λ x. x.noticed) to) ∙ is)
      by (other apart not same) = k.noticed.opposite q (sym (ap (λ x. x.noticed) same) ∙ is)

  -- an end that a message carries is carried still, unless it is moved
  change-carried : (q f : EndId) (n : ℕ) → among q xs ≡ false → IsCarried s f n q → IsCarried t f n q
  change-carried q f n not is = by (c.part f)
    where
      by : Part s.ends t.ends e xs at f → IsCarried t f n q
      by (its same) = subst (λ z. IsCarried t z n q) same (c.moving.keeps q n not (subst (λ z. IsCarried s z n q) (sym same) is))
      by (carried apart among to) = absurd (idle-message (s.ends f) is.message (c.moving.idle f among) is.there)
      by (other apart none same) = IsCarried-at s t f n q same is

  change-stays : (q : EndId) (p : Place) → among q xs ≡ false → IsHeldAt s q p → IsHeldAt t q p
  change-stays q (place.Owned p) not is = c.going.alive p is
  change-stays q (place.InMessage f n) not is = change-carried q f n not is
  change-stays q place.Destroyed not is = tt
  change-stays q place.Unmade not is = tt

  change-held : (q : EndId) → IsHeldAt t q (t.ends q).place
  change-held q = by (c.part q)
    where
      by_place : IsAfter (s.ends e).place (t.ends e).place → IsHeldAt t e (t.ends e).place
      by_place (inl same) = subst (IsHeldAt t e) (sym same) (change-stays e (s.ends e).place c.moving.apart (k.kept.held.held e))
      by_place (inr gone) = subst (IsHeldAt t e) (sym gone) tt

      by : Part s.ends t.ends e xs at q → IsHeldAt t q (t.ends q).place
      by (its same) = subst (λ z. IsHeldAt t z (t.ends z).place) same (by_place c.after)
      by (carried apart is to) = subst (IsHeldAt t q) (sym (ap (λ x. x.place) to)) (c.moving.held q is)
      by (other apart not same) = subst (IsHeldAt t q) (sym (ap (λ x. x.place) same)) (change-stays q (s.ends q).place not (k.kept.held.held q))

  -- an end in another message stays there
  change-inside : (q f : EndId) (n : ℕ) → (among q xs ≡ true → f ≡ e → ⊥) → (s.ends q).place ≡ place.InMessage f n → (t.ends q).place ≡ place.InMessage f n
  change-inside q f n apart is = by (c.part q)
    where
      by : Part s.ends t.ends e xs at q → (t.ends q).place ≡ place.InMessage f n
      by (its same) = subst (λ z. (t.ends z).place ≡ place.InMessage f n) same (let there = subst (λ z. (s.ends z).place ≡ place.InMessage f n) (sym same) is in c.leaves f n there ∙ there)
      by (carried aside is_one to) = absurd (apart is_one (c.moving.origin q f n is_one is))
      by (other aside not same) = ap (λ x. x.place) same ∙ is

  change-one : (f q : EndId) (n : ℕ) → IsCarried t f n q → (t.ends q).place ≡ place.InMessage f n
  change-one f q n is = by (c.part f)
    where
      moved : (among q xs ≡ true) → (at ≡ place.InMessage e n) → Part s.ends t.ends e xs at q → (t.ends q).place ≡ place.InMessage e n
      moved is to (its same) = absurd (true≢false (sym is ∙ subst (λ z. among z xs ≡ false) same c.moving.apart))
      moved is to (carried apart is_one become) = ap (λ x. x.place) become ∙ to
      moved is to (other apart not same) = absurd (true≢false (sym is ∙ not))

      here : ((among q xs ≡ true) × (at ≡ place.InMessage e n)) ⊎ ((among q xs ≡ false) × IsCarried s e n q) → (t.ends q).place ≡ place.InMessage e n
      here (inl new) = moved new.0 new.1 (c.part q)
      here (inr old) = change-inside q e n (λ is same. true≢false (sym is ∙ old.0)) (k.kept.held.carried e q n old.1)

      by : Part s.ends t.ends e xs at f → (t.ends q).place ≡ place.InMessage f n
      by (its same) = subst (λ z. (t.ends q).place ≡ place.InMessage z n) same (here (c.moving.carries q n (subst (λ z. IsCarried t z n q) (sym same) is)))
      by (carried apart among to) = absurd (idle-message (s.ends f) is.message (c.moving.idle f among) (ap (λ x. message_of x.outward) (sym to) ∙ is.there))
      by (other apart none same) =
          change-inside q f n (λ is same. end_eq-apart e f apart (sym same)) (k.kept.held.carried f q n (IsCarried-at t s f n q (sym same) is))

  change-kept : AreKept t
  change-kept =
      record {
        made = λ q. change-made q ∙ k.kept.made q ∙ ap (λ made. nat_lt q.link.count (slice_index made q.link.maker)) (sym c.made);
        unmade = λ q. (change-well q).unmade;
        held = record { held = change-held; carried = λ f q n is. change-one f q n is };
        apart = λ f. (change-well f).apart;
        others = λ f. (change-well f).others;
        waiting = λ f. (change-well f).waiting;
        resting = λ q f n is. (change-well q).resting f n is;
      }

  change-AreNoticed : AreNoticed t.ends
  change-AreNoticed = record { opposite = change-noticed; outward = λ q. (change-well q).silent; inward = λ q. (change-well q).deaf }

  change-processes : AreProcesses t
  change-processes =
      record {
        cancelling = λ p f is. cancelling p f is (end_eq e f) refl;
        ended = λ p is. ended p is (ended-or (s.process p.0).phase);
        others = λ p beyond. others p (k.processes.others p (subst (λ homes. length homes ≤ p.0) c.homes beyond));
      }
    where
      others : (p : Pid) → s.process p.0 ≡ no_process → t.process p.0 ≡ no_process
      others p none = c.going.ended p (ap (λ z. z.phase) none) ∙ none

      ended : (p : Pid) → (t.process p.0).phase ≡ phase.Ended → ((s.process p.0).phase ≡ phase.Ended) ⊎ ((s.process p.0).phase ≢ phase.Ended) → (t.process p.0).reports ≡ []
      ended p is (inl was) = ap (λ z. z.reports) (c.going.ended p was) ∙ k.processes.ended p was
      ended p is (inr alive) = absurd (c.going.alive p alive is)

      stays : (p : Pid) (f : EndId) → ((s.ends f).place ≡ place.Owned p) × (is_started_inward (s.ends f).inward ≡ true) → Part s.ends t.ends e xs at f → end_eq e f ≡ false
          → ((t.ends f).place ≡ place.Owned p) × (is_started_inward (t.ends f).inward ≡ true)
      stays p f was (its same) apart = absurd (end_eq-apart e f apart same)
      stays p f was (carried aside is to) apart =
          absurd (true≢false (sym was.1 ∙ ap is_started_inward (idle-parts (s.ends f) (c.moving.idle f is)).1))
      stays p f was (other aside not same) apart = (ap (λ x. x.place) same ∙ was.0, ap (λ x. is_started_inward x.inward) same ∙ was.1)

      cancelling : (p : Pid) (f : EndId) → (t.process p.0).phase ≡ phase.Cancelling f → (b : Bool) → end_eq e f ≡ b → ((t.ends f).place ≡ place.Owned p) × (is_started_inward (t.ends f).inward ≡ true)
      cancelling p f is true same =
          let one = end_eq-same e f same in
          subst (λ z. ((t.ends z).place ≡ place.Owned p) × (is_started_inward (t.ends z).inward ≡ true)) one (c.going.here p (subst (λ z. (t.process p.0).phase ≡ phase.Cancelling z) (sym one) is))
      cancelling p f is false apart = stays p f (k.processes.cancelling p f (c.going.elsewhere p f is apart)) (c.part f) apart

  change-counted : (q : EndId) → IsCountedAt t q
  change-counted q = by (c.part q)
    where
      by : Part s.ends t.ends e xs at q → IsCountedAt t q
      by (its same) = subst (IsCountedAt t) same c.telling.here
      by (carried apart is to) =
          λ w. counted-none
          (λ p. c.telling.elsewhere q w p apart ∙ counts-none (counted-reported s k.reported q w) (idle-over w (s.ends q) (c.moving.idle q is)) p)
          (ap (is_over w) to ∙ idle-over w (at_place at (s.ends q)) (c.moving.idle q is))
      by (other apart not same) =
          λ w. counted-same (λ p. c.telling.elsewhere q w p apart) (ap (is_over w) same) (inl (ap (λ x. x.place) same)) (counted-reported s k.reported q w)

  change-done : AreDone t
  change-done p r is opens = by (c.telling.done p r is)
    where
      old : Contains (s.process p.0).reports r → Part s.ends t.ends e xs at r.on → r.outcome ≡ outcome.Done
      old was (its same) =
          k.reported.done p r was (subst (λ z. is_open (s.ends z) ≡ true) same (open-before (t.ends e) (s.ends e) c.sooner c.after (subst (λ z. is_open (t.ends z) ≡ true) (sym same) opens)))
      old was (carried apart is to) =
          absurd (true≢false (sym (k.reported.over p r was) ∙ idle-over r.way (s.ends r.on) (c.moving.idle r.on is)))
      old was (other apart not same) = k.reported.done p r was (ap is_open (sym same) ∙ opens)

      by : Contains (s.process p.0).reports r ⊎ ((r.on ≡ e) × (is_open (t.ends e) ≡ true → r.outcome ≡ outcome.Done)) → r.outcome ≡ outcome.Done
      by (inl was) = old was (c.part r.on)
      by (inr new) = new.1 (subst (λ z. is_open (t.ends z) ≡ true) new.0 opens)

  pub change-consistent : IsConsistent t
  change-consistent = record { kept = change-kept; noticed = change-AreNoticed; reported = reported-counted t change-counted change-done; processes = change-processes }
