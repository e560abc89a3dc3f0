-- The forms that a change takes: what the message of the end becomes, what processes do, and which reports they gain.
use Rattle.std.proofs.Common.{◌≡◌, ◌≢◌, ℕ, zero, suc, ◌+◌, Bool, true, false, true≢false, nat_eq, ◌⊎◌, inl, inr, if◌then◌else◌, Option, Some, None, List, [], ◌∷◌, ◌++◌, append-nil, Contains, refl, sym, ap, subst, ◌∙◌, arith}
use Rattle.std.proofs.lemmas.List.Elements.{Contains-append_cases}
use Rattle.charlotte_calls.specs.Names.{opposite}
use Rattle.charlotte_calls.specs.declared.calls.Report.{Report}
use Rattle.charlotte_calls.specs.declared.names.EndId.{EndId}
use Rattle.charlotte_calls.specs.declared.names.Outcome.TheVariants as outcome
use Rattle.charlotte_calls.specs.declared.names.Pid.{Pid}
use Rattle.charlotte_calls.specs.declared.names.Way.{Way}
use Rattle.service_change.proofs.Change.{IsGoing, IsMoving, IsTelling, IsWell, Part, change-consistent, idle-message, none-some, its, carried, other}
use Rattle.service_change.proofs.Counts.{IsAfter, IsCounted, counted-reported, counted-same, counted-told, counts, is_report_on-other, pid_tells, reports_on-append}
use Rattle.service_change.proofs.EndEq.{among, among-Contains, Contains-among, at_place, end_eq-apart, end_eq-same, places-among, places-other, puts-at, puts-other}
use Rattle.service_lawful.specs.Consistent.{IsConsistent, AreProcesses, is_over, is_open, reports_on}
use Rattle.service_step.specs.Ends.{end_eq, is_made, is_living, is_idle, is_started_inward, places, puts}
use Rattle.service_step.specs.Lawful.{IsHeldAt, message_of}
use Rattle.service_step.specs.State.{State}
use Rattle.service_step.specs.declared.state.End.{End}
use Rattle.service_step.specs.declared.state.Message.{Message}
use Rattle.service_step.specs.declared.state.Phase.TheVariants as phase
use Rattle.service_step.specs.declared.state.Place.{Place}
use Rattle.service_step.specs.declared.state.Place.TheVariants as place

-- the end e becomes x, and each of xs comes to a place
pub record IsShape (s t : State) (e : EndId) (x : End) (xs : List EndId) (at : Place) : Type 0 where
  pub is : t.ends e ≡ x
  pub part : (q : EndId) → Part s.ends t.ends e xs at q
  pub moving : IsMoving s t e xs at

-- what the end becomes
pub record IsNext (s : State) (e : EndId) (x : End) : Type 0 where
  pub was : is_made (s.ends e).place ≡ true
  pub after : IsAfter (s.ends e).place x.place
  pub leaves : (f : EndId) (n : ℕ) → (s.ends e).place ≡ place.InMessage f n → x.place ≡ (s.ends e).place
  pub well : IsWell e x
  pub noticed : x.noticed ≡ true → (s.ends (opposite e)).place ≡ place.Destroyed
  pub sooner : (s.ends e).noticed ≡ true → x.noticed ≡ true

pub consistent-by : (s t : State) (e : EndId) (x : End) (xs : List EndId) (at : Place) → IsConsistent s → t.made ≡ s.made → t.homes ≡ s.homes → IsShape s t e x xs at → IsNext s e x
    → IsGoing s t e → IsTelling s t e → IsConsistent t
consistent-by s t e x xs at k made homes shape next going telling =
    change-consistent s t e xs at
    (record {
      made = made;
      homes = homes;
      part = shape.part;
      was = next.was;
      after = subst (λ z. IsAfter (s.ends e).place z.place) (sym shape.is) next.after;
      leaves = λ f n is. ap (λ z. z.place) shape.is ∙ next.leaves f n is;
      well = subst (IsWell e) (sym shape.is) next.well;
      noticed = λ is. next.noticed (sym (ap (λ z. z.noticed) shape.is) ∙ is);
      sooner = λ is. ap (λ z. z.noticed) shape.is ∙ next.sooner is;
      moving = shape.moving;
      going = going;
      telling = telling;
    })
    k

-- the message of the end stays what it is

part-kept : (s t : EndId → End) (e : EndId) → ((q : EndId) → end_eq e q ≡ false → t q ≡ s q) → (q : EndId) → Part s t e [] place.Destroyed q
part-kept s t e others q = by (end_eq e q) refl
  where
    by : (b : Bool) → end_eq e q ≡ b → Part s t e [] place.Destroyed q
    by true same = its (end_eq-same e q same)
    by false apart = other apart refl (others q apart)

moving-kept : (s t : State) (e : EndId) → message_of (t.ends e).outward ≡ message_of (s.ends e).outward → (t.ends e).sent ≡ (s.ends e).sent → IsMoving s t e [] place.Destroyed
moving-kept s t e same sent =
    record {
      apart = refl;
      made = refl;
      idle = λ y is. absurd (true≢false (sym is));
      living = λ y is. absurd (true≢false (sym is));
      origin = λ y f n is from. absurd (true≢false (sym is));
      held = λ y is. tt;
      keeps = λ q n none c. record { message = c.message; there = same ∙ c.there; number = sent ∙ c.number; carries = c.carries };
      carries = λ q n c. inr (refl, record { message = c.message; there = sym same ∙ c.there; number = sym sent ∙ c.number; carries = c.carries });
    }

pub shape-kept : (s t : State) (e : EndId) (x : End) → t.ends ≡ puts e x s.ends → is_made (s.ends e).place ≡ true → message_of x.outward ≡ message_of (s.ends e).outward → x.sent ≡ (s.ends e).sent
    → IsShape s t e x [] place.Destroyed
shape-kept s t e x after made same sent =
    record {
      is = is;
      part = part-kept s.ends t.ends e (λ q apart. ap (λ f. f q) after ∙ puts-other e x s.ends q apart);
      moving = moving-kept s t e (ap (λ z. message_of z.outward) is ∙ same) (ap (λ z. z.sent) is ∙ sent);
    }
  where
    is : t.ends e ≡ x
    is = ap (λ f. f e) after ∙ puts-at e x s.ends made

-- the ends that come to a place

part-moved : (s t : EndId → End) (e : EndId) (x : End) (xs : List EndId) (at : Place) → t ≡ places at xs (puts e x s) → is_made at ≡ true → ((y : EndId) → among y xs ≡ true → is_made (s y).place ≡ true)
    → (q : EndId) → Part s t e xs at q
part-moved s t e x xs at after there made q = by (end_eq e q) refl (among q xs) refl
  where
    by : (b : Bool) → end_eq e q ≡ b → (c : Bool) → among q xs ≡ c → Part s t e xs at q
    by true same c is = its (end_eq-same e q same)
    by false apart true is =
        let was : puts e x s q ≡ s q = puts-other e x s q apart in
        carried apart is (ap (λ f. f q) after ∙ places-among at xs (puts e x s) q there is (ap (λ z. is_made z.place) was ∙ made q is) ∙ ap (at_place at) was)
    by false apart false none = other apart none (ap (λ f. f q) after ∙ places-other at xs (puts e x s) q none ∙ puts-other e x s q apart)

its-moved : (s t : EndId → End) (e : EndId) (x : End) (xs : List EndId) (at : Place) → t ≡ places at xs (puts e x s) → is_made (s e).place ≡ true → among e xs ≡ false → t e ≡ x
its-moved s t e x xs at after made none = ap (λ f. f e) after ∙ places-other at xs (puts e x s) e none ∙ puts-at e x s made

one-message : (o : Option Message) (m n : Message) → o ≡ Some m → o ≡ Some n → n ≡ m
one-message o m n a b = cc

-- the message of the end is dropped, and each end that it carried comes to a place
module _ (s t : State) (e : EndId) (x : End) (m : Message) (at : Place) (k : IsConsistent s) (there : message_of (s.ends e).outward ≡ Some m) (gone : message_of x.outward ≡ None) (well : is_made at ≡ true)
    (held : (q : EndId) → IsHeldAt t q at) (after : t.ends ≡ places at m.carried (puts e x s.ends)) (was : is_made (s.ends e).place ≡ true) where
  inside : (y : EndId) → among y m.carried ≡ true → (s.ends y).place ≡ place.InMessage e (s.ends e).sent
  inside y is = k.kept.held.carried e y (s.ends e).sent (record { message = m; there = there; number = refl; carries = among-Contains y m.carried is })

  aside : among e m.carried ≡ false
  aside = by (among e m.carried) refl
    where
      by : (b : Bool) → among e m.carried ≡ b → b ≡ false
      by true is = absurd (idle-message (s.ends e) m (k.kept.resting e e (s.ends e).sent (inside e is)) there)
      by false none = refl

  pub shape-dropped : IsShape s t e x m.carried at
  shape-dropped =
      record {
        is = is;
        part = part-moved s.ends t.ends e x m.carried at after well (λ y is. ap is_made (inside y is));
        moving =
            record {
              apart = aside;
              made = well;
              idle = λ y is. k.kept.resting y e (s.ends e).sent (inside y is);
              living = λ y is. ap is_living (inside y is);
              origin = λ y f n is from. origin y f n is from;
              held = λ y is. held y;
              keeps = λ q n none c. absurd (true≢false (sym (Contains-among q m.carried (subst (λ z. Contains z.carried q) (one-message _ m c.message there c.there) c.carries)) ∙ none));
              carries = λ q n c. absurd (none-some (message_of (t.ends e).outward) c.message (ap (λ z. message_of z.outward) is ∙ gone) c.there);
            };
      }
    where
      is : t.ends e ≡ x
      is = its-moved s.ends t.ends e x m.carried at after was aside

      same : (f : EndId) (n : ℕ) → place.InMessage e (s.ends e).sent ≡ place.InMessage f n → f ≡ e
      same f n both = cc

      origin : (y f : EndId) (n : ℕ) → among y m.carried ≡ true → (s.ends y).place ≡ place.InMessage f n → f ≡ e
      origin y f n is from = same f n (sym (inside y is) ∙ from)

-- a message is sent, with ends that are owned and idle
module _ (s t : State) (e : EndId) (x : End) (m : Message) (n : ℕ) (none : message_of (s.ends e).outward ≡ None) (there : message_of x.outward ≡ Some m) (number : x.sent ≡ n)
    (after : t.ends ≡ places (place.InMessage e n) m.carried (puts e x s.ends)) (was : is_made (s.ends e).place ≡ true) (aside : among e m.carried ≡ false)
    (idle : (y : EndId) → among y m.carried ≡ true → is_idle (s.ends y) ≡ true) (p : Pid) (owned : (y : EndId) → among y m.carried ≡ true → (s.ends y).place ≡ place.Owned p) where
  pub shape-sent : IsShape s t e x m.carried (place.InMessage e n)
  shape-sent =
      record {
        is = is;
        part = part-moved s.ends t.ends e x m.carried (place.InMessage e n) after refl (λ y is. ap is_made (owned y is));
        moving =
            record {
              apart = aside;
              made = refl;
              idle = idle;
              living = λ y is. ap is_living (owned y is);
              origin = λ y f k is from. absurd (differ f k (sym (owned y is) ∙ from));
              held = λ y is. record { message = m; there = now; number = ap (λ z. z.sent) is_x ∙ number; carries = among-Contains y m.carried is };
              keeps = λ q k not c. absurd (none-some (message_of (s.ends e).outward) c.message none c.there);
              carries =
                  λ q k c. inl
                  (Contains-among q m.carried (subst (λ z. Contains z.carried q) (one-message _ m c.message now c.there) c.carries), ap (place.InMessage e) (sym (ap (λ z. z.sent) is_x ∙ number) ∙ c.number));
            };
      }
    where
      is : t.ends e ≡ x
      is = its-moved s.ends t.ends e x m.carried (place.InMessage e n) after was aside

      is_x : t.ends e ≡ x
      is_x = is

      now : message_of (t.ends e).outward ≡ Some m
      now = ap (λ z. message_of z.outward) is ∙ there

      differ : (f : EndId) (k : ℕ) → place.Owned p ≡ place.InMessage f k → ⊥
      differ f k same = cc

-- processes: one of them gains reports, and may come to run
pub record IsLed (s t : State) (p : Pid) : Type 0 where
  pub others : (q : Pid) → nat_eq p.0 q.0 ≡ false → t.process q.0 ≡ s.process q.0
  pub phase : ((t.process p.0).phase ≡ (s.process p.0).phase) ⊎ ((t.process p.0).phase ≡ phase.Running)

pub record IsTold (s t : State) (p : Pid) (rs : List Report) : Type 0 where
  pub led : IsLed s t p
  pub reports : (t.process p.0).reports ≡ (s.process p.0).reports ++ rs

pub told-same : (s t : State) (p : Pid) → t.process ≡ s.process → IsTold s t p []
told-same s t p same =
    record {
      led = record { others = λ q apart. ap (λ f. f q.0) same; phase = inl (ap (λ f. (f p.0).phase) same) };
      reports = ap (λ f. (f p.0).reports) same ∙ sym (append-nil (s.process p.0).reports);
    }

-- what is asked of those that are in a Cancel of the receive on e
abbrev pub IsHereFor : State → EndId → Type 0
IsHereFor t e = (p : Pid) → (t.process p.0).phase ≡ phase.Cancelling e → ((t.ends e).place ≡ place.Owned p) × (is_started_inward (t.ends e).inward ≡ true)

pub going-same : (s t : State) (e : EndId) → t.process ≡ s.process → IsHereFor t e → IsGoing s t e
going-same s t e same here =
    record {
      alive = λ p alive is. alive (sym (ap (λ f. (f p.0).phase) same) ∙ is);
      ended = λ p is. ap (λ f. f p.0) same;
      elsewhere = λ p f is apart. sym (ap (λ f. (f p.0).phase) same) ∙ is;
      here = here;
    }

pub going-led : (s t : State) (e : EndId) (p : Pid) → IsLed s t p → (s.process p.0).phase ≢ phase.Ended → IsHereFor t e → IsGoing s t e
going-led s t e p told lives here =
    record {
      alive = λ q alive is. lives_on q alive (pid_tells p q) told.phase is;
      ended = λ q is. stays q is (pid_tells p q);
      elsewhere = λ q f is apart. cancels q f is (pid_tells p q) told.phase;
      here = here;
    }
  where
    lives_on : (q : Pid) → (s.process q.0).phase ≢ phase.Ended → ((nat_eq p.0 q.0 ≡ true) × (p ≡ q)) ⊎ ((nat_eq p.0 q.0 ≡ false) × (p.0 ≢ q.0)) → ((t.process p.0).phase ≡ (s.process p.0).phase) ⊎ ((t.process p.0).phase ≡ phase.Running) → (t.process q.0).phase ≡ phase.Ended → ⊥
    lives_on q alive (inl same) (inl still) is = lives (sym still ∙ subst (λ z. (t.process z.0).phase ≡ phase.Ended) (sym same.1) is)
    lives_on q alive (inl same) (inr runs) is = let differ : phase.Running ≡ phase.Ended = sym runs ∙ subst (λ z. (t.process z.0).phase ≡ phase.Ended) (sym same.1) is in cc
    lives_on q alive (inr apart) _ is = alive (sym (ap (λ z. z.phase) (told.others q apart.0)) ∙ is)

    stays : (q : Pid) → (s.process q.0).phase ≡ phase.Ended → ((nat_eq p.0 q.0 ≡ true) × (p ≡ q)) ⊎ ((nat_eq p.0 q.0 ≡ false) × (p.0 ≢ q.0)) → t.process q.0 ≡ s.process q.0
    stays q is (inl same) = absurd (lives (subst (λ z. (s.process z.0).phase ≡ phase.Ended) (sym same.1) is))
    stays q is (inr apart) = told.others q apart.0

    cancels : (q : Pid) (f : EndId) → (t.process q.0).phase ≡ phase.Cancelling f → ((nat_eq p.0 q.0 ≡ true) × (p ≡ q)) ⊎ ((nat_eq p.0 q.0 ≡ false) × (p.0 ≢ q.0)) → ((t.process p.0).phase ≡ (s.process p.0).phase) ⊎ ((t.process p.0).phase ≡ phase.Running)
        → (s.process q.0).phase ≡ phase.Cancelling f
    cancels q f is (inl same) (inl still) = subst (λ z. (s.process z.0).phase ≡ phase.Cancelling f) same.1 (sym still ∙ subst (λ z. (t.process z.0).phase ≡ phase.Cancelling f) (sym same.1) is)
    cancels q f is (inl same) (inr runs) = let differ : phase.Running ≡ phase.Cancelling f = sym runs ∙ subst (λ z. (t.process z.0).phase ≡ phase.Cancelling f) (sym same.1) is in absurd (cc)
    cancels q f is (inr apart) _ = sym (ap (λ z. z.phase) (told.others q apart.0)) ∙ is

-- an end stays where it is, and its receive started
pub here-kept : (s t : State) (e : EndId) → AreProcesses s → ((p : Pid) → (t.process p.0).phase ≡ phase.Cancelling e → (s.process p.0).phase ≡ phase.Cancelling e)
    → (t.ends e).place ≡ (s.ends e).place → (is_started_inward (s.ends e).inward ≡ true → is_started_inward (t.ends e).inward ≡ true) → IsHereFor t e
here-kept s t e k before same started p is = let was = k.cancelling p e (before p is) in (same ∙ was.0, started was.1)

-- the owner is in no Cancel of the receive any more
pub here-woken : (s t : State) (e : EndId) (p : Pid) → AreProcesses s → IsLed s t p → (s.ends e).place ≡ place.Owned p → ((t.process p.0).phase ≡ phase.Cancelling e → ⊥) → IsHereFor t e
here-woken s t e p k told owned woken q is = absurd (by (pid_tells p q))
  where
    one : place.Owned p ≡ place.Owned q → p ≡ q
    one same = cc

    by : ((nat_eq p.0 q.0 ≡ true) × (p ≡ q)) ⊎ ((nat_eq p.0 q.0 ≡ false) × (p.0 ≢ q.0)) → ⊥
    by (inl same) = woken (subst (λ z. (t.process z.0).phase ≡ phase.Cancelling e) (sym same.1) is)
    by (inr apart) = apart.1 (ap (λ z. z.0) (one (sym owned ∙ (k.cancelling q e (sym (ap (λ z. z.phase) (told.others q apart.0)) ∙ is)).0)))

-- reports

-- no report comes or goes, and no way comes to be over or not over
pub telling-quiet : (s t : State) (e : EndId) → IsConsistent s → ((p : Pid) → (t.process p.0).reports ≡ (s.process p.0).reports) → ((w : Way) → is_over w (t.ends e) ≡ is_over w (s.ends e))
    → IsAfter (s.ends e).place (t.ends e).place → IsTelling s t e
telling-quiet s t e k same still after =
    record {
      elsewhere = λ f w p apart. ap (reports_on f w) (same p);
      here = λ w. counted-same (λ p. ap (reports_on e w) (same p)) (still w) after (counted-reported s k.reported e w);
      done = λ p r is. inl (subst (λ rs. Contains rs r) (same p) is);
    }

-- reports of an end, which are Done where it is open
abbrev pub AreFor : EndId → Bool → List Report → Type 0
AreFor e opens [] = Unit {0}
AreFor e opens (r ∷ rs) = ((r.on ≡ e) × (opens ≡ true → r.outcome ≡ outcome.Done)) × AreFor e opens rs

only : (x r : Report) → Contains (x ∷ []) r → x ≡ r
only x r (zero, below, same) = same
only x r (suc k, below, same) = absurd (omega arith)

AreFor-each : (e : EndId) (opens : Bool) (rs : List Report) (r : Report) → AreFor e opens rs → Contains rs r → (r.on ≡ e) × (opens ≡ true → r.outcome ≡ outcome.Done)
AreFor-each e opens [] r are (k, below, same) = absurd (omega arith)
AreFor-each e opens (x ∷ rs) r are is = by (Contains-append_cases (x ∷ []) rs r is) (AreFor-each e opens rs r are.1)
  where
    by : Contains (x ∷ []) r ⊎ Contains rs r → (Contains rs r → (r.on ≡ e) × (opens ≡ true → r.outcome ≡ outcome.Done)) → (r.on ≡ e) × (opens ≡ true → r.outcome ≡ outcome.Done)
    by (inl first) rest = subst (λ z. (z.on ≡ e) × (opens ≡ true → z.outcome ≡ outcome.Done)) (only x r first) are.0
    by (inr later) rest = rest later

AreFor-others : (e f : EndId) (w : Way) (opens : Bool) (rs : List Report) → AreFor e opens rs → end_eq e f ≡ false → reports_on f w rs ≡ 0
AreFor-others e f w opens [] are apart = refl
AreFor-others e f w opens (r ∷ rs) are apart = by (end_eq f r.on) refl (AreFor-others e f w opens rs are.1 apart)
  where
    by : (b : Bool) → end_eq f r.on ≡ b → reports_on f w rs ≡ 0 → reports_on f w (r ∷ rs) ≡ 0
    by true same rest = absurd (end_eq-apart e f apart (sym (end_eq-same f r.on same ∙ are.0.0)))
    by false apart_too rest = let one : reports_on f w (r ∷ rs) ≡ 0 + reports_on f w rs = ap (λ b. (if b then 1 else 0) + reports_on f w rs) (is_report_on-other f w r apart_too) in omega arith

-- the owner gains reports of the ways that come to be over
abbrev pub IsNewly : State → State → EndId → List Report → Way → Type 0
IsNewly s t e rs w =
    ((is_over w (t.ends e) ≡ is_over w (s.ends e)) × (reports_on e w rs ≡ 0)) ⊎ ((is_over w (s.ends e) ≡ false) × (is_over w (t.ends e) ≡ true) × (reports_on e w rs ≡ 1))

pub telling-told : (s t : State) (e : EndId) (p : Pid) (rs : List Report) → IsConsistent s → IsTold s t p rs → AreFor e (is_open (t.ends e)) rs → (s.ends e).place ≡ place.Owned p → (t.ends e).place ≡ (s.ends e).place
    → ((w : Way) → IsNewly s t e rs w) → IsTelling s t e
telling-told s t e p rs k told are owned same newly =
    record {
      elsewhere = λ f w q apart. elsewhere f w q apart (pid_tells p q);
      here = λ w. here w (newly w);
      done = λ q r is. done q r is (pid_tells p q);
    }
  where
    gained : (f : EndId) (w : Way) → counts t f w p ≡ counts s f w p + reports_on f w rs
    gained f w = ap (reports_on f w) told.reports ∙ reports_on-append f w (s.process p.0).reports rs

    others : (f : EndId) (w : Way) (q : Pid) → nat_eq p.0 q.0 ≡ false → counts t f w q ≡ counts s f w q
    others f w q apart = ap (λ z. reports_on f w z.reports) (told.led.others q apart)

    same_where : (f : EndId) (w : Way) → reports_on f w rs ≡ 0 → (q : Pid) → ((nat_eq p.0 q.0 ≡ true) × (p ≡ q)) ⊎ ((nat_eq p.0 q.0 ≡ false) × (p.0 ≢ q.0)) → counts t f w q ≡ counts s f w q
    same_where f w none q (inl one) = subst (λ z. counts t f w z ≡ counts s f w z) one.1 (gained f w ∙ ap (λ n. counts s f w p + n) none ∙ (omega arith))
    same_where f w none q (inr apart) = others f w q apart.0

    elsewhere : (f : EndId) (w : Way) (q : Pid) → end_eq e f ≡ false → ((nat_eq p.0 q.0 ≡ true) × (p ≡ q)) ⊎ ((nat_eq p.0 q.0 ≡ false) × (p.0 ≢ q.0)) → counts t f w q ≡ counts s f w q
    elsewhere f w q apart tells = same_where f w (AreFor-others e f w _ rs are apart) q tells

    here : (w : Way) → IsNewly s t e rs w → IsCounted (counts t e w) (is_over w (t.ends e)) (t.ends e).place
    here w (inl still) = counted-same (λ q. same_where e w still.1 q (pid_tells p q)) still.0 (inl same) (counted-reported s k.reported e w)
    here w (inr new) = counted-told p new.0 new.1 (same ∙ owned) (gained e w ∙ ap (λ n. counts s e w p + n) new.2) (λ q apart. others e w q apart) (counted-reported s k.reported e w)

    by : (r : Report) → Contains (s.process p.0).reports r ⊎ Contains rs r → Contains (s.process p.0).reports r ⊎ ((r.on ≡ e) × (is_open (t.ends e) ≡ true → r.outcome ≡ outcome.Done))
    by r (inl old) = inl old
    by r (inr new) = inr (AreFor-each e _ rs r are new)

    done : (q : Pid) (r : Report) → Contains (t.process q.0).reports r → ((nat_eq p.0 q.0 ≡ true) × (p ≡ q)) ⊎ ((nat_eq p.0 q.0 ≡ false) × (p.0 ≢ q.0))
        → Contains (s.process q.0).reports r ⊎ ((r.on ≡ e) × (is_open (t.ends e) ≡ true → r.outcome ≡ outcome.Done))
    done q r is (inl one) =
        subst (λ z. Contains (s.process z.0).reports r ⊎ ((r.on ≡ e) × (is_open (t.ends e) ≡ true → r.outcome ≡ outcome.Done))) one.1
        (by r (Contains-append_cases (s.process p.0).reports rs r (subst (λ l. Contains l r) told.reports (subst (λ z. Contains (t.process z.0).reports r) (sym one.1) is))))
    done q r is (inr apart) = inl (subst (λ z. Contains z.reports r) (told.led.others q apart.0) is)
