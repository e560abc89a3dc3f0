-- A step that makes a link leaves a consistent state.
use Rattle.std.proofs.Common.{◌≡◌, ◌≢◌, ℕ, zero, suc, ◌+◌, ◌<◌, ◌≤◌, Bool, true, false, true≢false, nat_eq, not, ◌⊎◌, inl, inr, length, Option, Some, None, List, []}
use Rattle.std.proofs.Common.{◌∷◌, Contains, slice_get, slice_index, slice_set, get_or, nat_lt, get_or-set_same, get_or-set_other, refl, sym, ap, ap₂, subst, ◌∙◌, arith}
use Rattle.charlotte_calls.specs.Names.{opposite}
use Rattle.charlotte_calls.specs.declared.names.EndId.{EndId}
use Rattle.charlotte_calls.specs.declared.names.Outcome.TheVariants as outcome
use Rattle.charlotte_calls.specs.declared.names.Pid.{Pid}
use Rattle.charlotte_calls.specs.declared.names.Way.{Way}
use Rattle.charlotte_calls.specs.declared.names.Way.TheVariants as way
use Rattle.std.proofs.lemmas.Bool.Decides.{Decides-ltb, eqb_tells}
use Rattle.charlotte_calls.specs.declared.names.LinkId.{LinkId}
use Rattle.charlotte_calls.specs.declared.names.Side.{Side}
use Rattle.charlotte_calls.specs.declared.names.Side.TheVariants.{A, B}
use Rattle.charlotte_calls.specs.Names.{other_side}
use Rattle.service_change.proofs.Change.{IsWell, IsWell-idle, IsCarried-at, none-some, well-kept}
use Rattle.service_change.proofs.Counts.{IsCountedAt, AreDone, and-true, counted-none, counted-reported, counted-same, counts-none, reported-counted}
use Rattle.service_change.proofs.EndEq.{end_eq-apart, end_eq-same, put-at, put-other}
use Rattle.service_change.proofs.Facts.{not-true, running-is}
use Rattle.service_lawful.specs.Consistent.{IsConsistent, AreProcesses, is_over, is_open, reports_on}
use Rattle.service_step.specs.Ends.{end_eq, fresh, unmade, is_made, is_started_inward, makes, put}
use Rattle.service_step.specs.Lawful.{IsCarried, IsHeldAt, message_of}
use Rattle.service_step.specs.State.{State, counted, next_at, next_link}
use Rattle.service_step.specs.Steps.{after_make, is_new_pair, may_make}
use Rattle.service_step.specs.declared.state.End.{End}
use Rattle.service_step.specs.declared.state.Message.{Message}
use Rattle.service_step.specs.declared.state.Outward.TheVariants as outward
use Rattle.service_step.specs.declared.state.Phase.TheVariants as phase
use Rattle.service_step.specs.declared.state.Place.{Place}
use Rattle.service_step.specs.declared.state.Place.TheVariants as place

-- an end of the same link is the same end or the opposite one
pub same-link : (a q : EndId) → q.link ≡ a.link → (a ≡ q) ⊎ (opposite a ≡ q)
same-link a q same = by q.side refl a.side refl
  where
    by : (x : Side) → q.side ≡ x → (y : Side) → a.side ≡ y → (a ≡ q) ⊎ (opposite a ≡ q)
    by A is A its = inl (ap₂ (λ l d. record { link = l; side = d }) (sym same) (its ∙ sym is))
    by B is B its = inl (ap₂ (λ l d. record { link = l; side = d }) (sym same) (its ∙ sym is))
    by A is B its = inr (ap₂ (λ l d. record { link = l; side = d }) (sym same) (ap other_side its ∙ sym is))
    by B is A its = inr (ap₂ (λ l d. record { link = l; side = d }) (sym same) (ap other_side its ∙ sym is))

pub got-index : (xs : List ℕ) (i c : ℕ) → slice_get xs i ≡ Some c → (i < length xs) × (get_or xs i 0 ≡ c)
got-index [] i c is = absurd (none-some None c refl is)
got-index (x ∷ xs) zero c is = ((omega arith), one is)
  where
    one : Some x ≡ Some c → x ≡ c
    one same = cc
got-index (x ∷ xs) (suc i) c is = let rest = got-index xs i c is in ((omega arith), rest.1)

pub lt-same : (n c : ℕ) → n ≢ c → nat_lt n c ≡ nat_lt n (c + 1)
lt-same n c apart = by (nat_lt n c) refl (nat_lt n (c + 1)) refl
  where
    by : (x : Bool) → nat_lt n c ≡ x → (y : Bool) → nat_lt n (c + 1) ≡ y → x ≡ y
    by true is true its = refl
    by false is false its = refl
    by true is false its = let below : n < c = (Decides-ltb n c).0 is in absurd (true≢false (sym ((Decides-ltb n (c + 1)).1 (omega arith)) ∙ its))
    by false is true its = let below : n < c + 1 = (Decides-ltb n (c + 1)).0 its in absurd (true≢false (sym ((Decides-ltb n c).1 (omega arith)) ∙ is))

-- each of the two new ends is new, and every other end is as it was
pub data Newness (s t : EndId → End) (p : Pid) (a q : EndId) : Type 0 where
  new : s q ≡ unmade → t q ≡ fresh (place.Owned p) → q.link ≡ a.link → Newness s t p a q
  old : (q.link ≡ a.link → ⊥) → t q ≡ s q → Newness s t p a q

module _ (s : State) (p : Pid) (a b : EndId) (k : IsConsistent s) (running : (s.process p.0).phase ≡ phase.Running) (next : slice_get s.made a.link.maker ≡ Some a.link.count) (other : b ≡ opposite a)
    (no_a : is_made (s.ends a).place ≡ false) (no_b : is_made (s.ends b).place ≡ false) where
  module _ (t : State) (made : t.made ≡ slice_set s.made a.link.maker (slice_index s.made a.link.maker + 1)) (homes : t.homes ≡ s.homes) (process : t.process ≡ s.process)
      (ends : t.ends ≡ put (put s.ends a (fresh (place.Owned p))) b (fresh (place.Owned p))) where
    unmade-is : (q : EndId) → is_made (s.ends q).place ≡ false → s.ends q ≡ unmade
    unmade-is q not = k.kept.unmade q (by (s.ends q).place not)
      where
        by : (at : Place) → is_made at ≡ false → at ≡ place.Unmade
        by place.Unmade is = refl
        by (place.Owned p) is = absurd (true≢false is)
        by (place.InMessage f n) is = absurd (true≢false is)
        by place.Destroyed is = absurd (true≢false is)

    part : (q : EndId) → Newness s.ends t.ends p a q
    part q = by (end_eq b q) refl (end_eq a q) refl
      where
        by : (x : Bool) → end_eq b q ≡ x → (y : Bool) → end_eq a q ≡ y → Newness s.ends t.ends p a q
        by true same y is =
            let one : b ≡ q = end_eq-same b q same in
            new (subst (λ z. s.ends z ≡ unmade) one (unmade-is b no_b))
            (subst (λ z. t.ends z ≡ fresh (place.Owned p)) one (ap (λ f. f b) ends ∙ put-at (put s.ends a (fresh (place.Owned p))) b (fresh (place.Owned p))))
            (ap (λ z. z.link) (sym one) ∙ ap (λ z. z.link) other)
        by false apart true same =
            let one : a ≡ q = end_eq-same a q same in
            new (subst (λ z. s.ends z ≡ unmade) one (unmade-is a no_a))
            (ap (λ f. f q) ends ∙ put-other (put s.ends a (fresh (place.Owned p))) b (fresh (place.Owned p)) q apart ∙ subst (λ z. put s.ends a (fresh (place.Owned p)) z ≡ fresh (place.Owned p)) one (put-at s.ends a (fresh (place.Owned p))))
            (ap (λ z. z.link) (sym one))
        by false apart false neither =
            old (λ same. either (same-link a q same))
            (ap (λ f. f q) ends ∙ put-other (put s.ends a (fresh (place.Owned p))) b (fresh (place.Owned p)) q apart ∙ put-other s.ends a (fresh (place.Owned p)) q neither)
          where
            either : (a ≡ q) ⊎ (opposite a ≡ q) → ⊥
            either (inl same) = end_eq-apart a q neither same
            either (inr same) = end_eq-apart b q apart (other ∙ same)

    got : (a.link.maker < length s.made) × (get_or s.made a.link.maker 0 ≡ a.link.count)
    got = got-index s.made a.link.maker a.link.count next

    made-count : (q : EndId) → is_made (t.ends q).place ≡ nat_lt q.link.count (slice_index t.made q.link.maker)
    made-count q = by (part q) ∙ ap (λ l. nat_lt q.link.count (get_or l q.link.maker 0)) (sym made)
      where
        counted_now : nat_lt a.link.count (get_or (slice_set s.made a.link.maker (slice_index s.made a.link.maker + 1)) a.link.maker 0) ≡ true
        counted_now =
            (Decides-ltb a.link.count (get_or (slice_set s.made a.link.maker (slice_index s.made a.link.maker + 1)) a.link.maker 0)).1
            (let is : get_or (slice_set s.made a.link.maker (slice_index s.made a.link.maker + 1)) a.link.maker 0 ≡ get_or s.made a.link.maker 0 + 1 = get_or-set_same s.made a.link.maker (slice_index s.made a.link.maker + 1) 0 got.0 in
            let count : get_or s.made a.link.maker 0 ≡ a.link.count = got.1 in omega arith)

        elsewhere : (q.link ≡ a.link → ⊥) → ((nat_eq q.link.maker a.link.maker ≡ true) × (q.link.maker ≡ a.link.maker)) ⊎ ((nat_eq q.link.maker a.link.maker ≡ false) × (q.link.maker ≢ a.link.maker))
            → nat_lt q.link.count (get_or s.made q.link.maker 0) ≡ nat_lt q.link.count (get_or (slice_set s.made a.link.maker (slice_index s.made a.link.maker + 1)) q.link.maker 0)
        elsewhere apart (inl same) =
            ap (λ i. nat_lt q.link.count (get_or s.made i 0)) same.1 ∙ ap (nat_lt q.link.count) got.1
            ∙ lt-same q.link.count a.link.count (λ count. apart (ap₂ (λ m c. record { maker = m; count = c }) same.1 count))
            ∙ ap (nat_lt q.link.count) (sym (get_or-set_same s.made a.link.maker (slice_index s.made a.link.maker + 1) 0 got.0 ∙ ap (λ n. n + 1) got.1))
            ∙ ap (λ i. nat_lt q.link.count (get_or (slice_set s.made a.link.maker (slice_index s.made a.link.maker + 1)) i 0)) (sym same.1)
        elsewhere apart (inr differ) = ap (nat_lt q.link.count) (sym (get_or-set_other s.made a.link.maker q.link.maker (slice_index s.made a.link.maker + 1) 0 differ.1))

        by : Newness s.ends t.ends p a q → is_made (t.ends q).place ≡ nat_lt q.link.count (get_or (slice_set s.made a.link.maker (slice_index s.made a.link.maker + 1)) q.link.maker 0)
        by (new was is link) =
            ap (λ z. is_made z.place) is
            ∙ sym (subst (λ l. nat_lt l.count (get_or (slice_set s.made a.link.maker (slice_index s.made a.link.maker + 1)) l.maker 0) ≡ true) (sym link) counted_now)
        by (old apart is) = ap (λ z. is_made z.place) is ∙ k.kept.made q ∙ elsewhere apart (eqb_tells q.link.maker a.link.maker)

    well : (q : EndId) → IsWell q (t.ends q)
    well q = by (part q)
      where
        by : Newness s.ends t.ends p a q → IsWell q (t.ends q)
        by (new was is link) = subst (IsWell q) (sym is) (IsWell-idle q (fresh (place.Owned p)) refl refl)
        by (old apart is) = subst (IsWell q) (sym is) (well-kept s k.kept k.noticed q)

    silent : (q : EndId) (x : End) (m : Message) → x.outward ≡ outward.Idle → message_of x.outward ≡ Some m → ⊥
    silent q x m idle has = none-some (message_of x.outward) m (ap message_of idle) has

    stays : (q : EndId) (at : Place) → IsHeldAt s q at → IsHeldAt t q at
    stays q (place.Owned r) is = λ ended. is (sym (ap (λ f. (f r.0).phase) process) ∙ ended)
    stays q (place.InMessage f n) is = by (part f)
      where
        by : Newness s.ends t.ends p a f → IsCarried t f n q
        by (new was now link) = absurd (silent f (s.ends f) is.message (ap (λ z. z.outward) was) is.there)
        by (old apart same) = IsCarried-at s t f n q same is
    stays q place.Destroyed is = tt
    stays q place.Unmade is = tt

    lives : (t.process p.0).phase ≡ phase.Ended → ⊥
    lives ended = let differ : phase.Running ≡ phase.Ended = sym running ∙ sym (ap (λ f. (f p.0).phase) process) ∙ ended in cc

    held : (q : EndId) → IsHeldAt t q (t.ends q).place
    held q = by (part q)
      where
        by : Newness s.ends t.ends p a q → IsHeldAt t q (t.ends q).place
        by (new was is link) = subst (λ z. IsHeldAt t q z.place) (sym is) lives
        by (old apart is) = subst (λ z. IsHeldAt t q z.place) (sym is) (stays q (s.ends q).place (k.kept.held.held q))

    carried : (f q : EndId) (n : ℕ) → IsCarried t f n q → (t.ends q).place ≡ place.InMessage f n
    carried f q n is = by (part f)
      where
        differ : place.Unmade ≡ place.InMessage f n → ⊥
        differ same = cc

        at : (s.ends q).place ≡ place.InMessage f n → Newness s.ends t.ends p a q → (t.ends q).place ≡ place.InMessage f n
        at inside (new was now link) = absurd (differ (sym (ap (λ z. z.place) was) ∙ inside))
        at inside (old apart same) = ap (λ z. z.place) same ∙ inside

        by : Newness s.ends t.ends p a f → (t.ends q).place ≡ place.InMessage f n
        by (new was now link) = absurd (silent f (t.ends f) is.message (ap (λ z. z.outward) now) is.there)
        by (old apart same) = at (k.kept.held.carried f q n (IsCarried-at t s f n q (sym same) is)) (part q)

    noticed : (q : EndId) → (t.ends q).noticed ≡ true → (t.ends (opposite q)).place ≡ place.Destroyed
    noticed q is = by (part q)
      where
        differ : place.Unmade ≡ place.Destroyed → ⊥
        differ same = cc

        at : (s.ends (opposite q)).place ≡ place.Destroyed → Newness s.ends t.ends p a (opposite q) → (t.ends (opposite q)).place ≡ place.Destroyed
        at gone (new was now link) = absurd (differ (sym (ap (λ z. z.place) was) ∙ gone))
        at gone (old apart same) = ap (λ z. z.place) same ∙ gone

        by : Newness s.ends t.ends p a q → (t.ends (opposite q)).place ≡ place.Destroyed
        by (new was now link) = absurd (true≢false (sym is ∙ ap (λ z. z.noticed) now))
        by (old apart same) = at (k.noticed.opposite q (sym (ap (λ z. z.noticed) same) ∙ is)) (part (opposite q))

    same-reports : (r : Pid) → (t.process r.0).reports ≡ (s.process r.0).reports
    same-reports r = ap (λ f. (f r.0).reports) process

    over-fresh : (w : Way) (at : Place) → is_over w (fresh at) ≡ false
    over-fresh way.Outward at = refl
    over-fresh way.Inward at = refl

    counted-each : (q : EndId) → IsCountedAt t q
    counted-each q = by (part q)
      where
        by : Newness s.ends t.ends p a q → IsCountedAt t q
        by (new was now link) =
            λ w. counted-none
            (λ r. ap (reports_on q w) (same-reports r) ∙ counts-none (counted-reported s k.reported q w) (ap (is_over w) was ∙ over-fresh w place.Unmade) r)
            (ap (is_over w) now ∙ over-fresh w (place.Owned p))
        by (old apart same) = λ w. counted-same (λ r. ap (reports_on q w) (same-reports r)) (ap (is_over w) same) (inl (ap (λ z. z.place) same)) (counted-reported s k.reported q w)

    done : AreDone t
    done q r is opens = by (part r.on)
      where
        was_there : Contains (s.process q.0).reports r
        was_there = subst (λ l. Contains l r) (same-reports q) is

        by : Newness s.ends t.ends p a r.on → r.outcome ≡ outcome.Done
        by (new was now link) = absurd (true≢false (sym (k.reported.over q r was_there) ∙ ap (is_over r.way) was ∙ over-fresh r.way place.Unmade))
        by (old apart same) = k.reported.done q r was_there (ap is_open (sym same) ∙ opens)

    processes : AreProcesses t
    processes =
        record {
          cancelling = λ q e is. at q e (k.processes.cancelling q e (sym (ap (λ f. (f q.0).phase) process) ∙ is)) (part e);
          ended = λ q is. same-reports q ∙ k.processes.ended q (sym (ap (λ f. (f q.0).phase) process) ∙ is);
          others = λ q beyond. ap (λ f. f q.0) process ∙ k.processes.others q (subst (λ l. length l ≤ q.0) homes beyond);
        }
      where
        differ : (q : Pid) → place.Unmade ≡ place.Owned q → ⊥
        differ q same = cc

        at : (q : Pid) (e : EndId) → ((s.ends e).place ≡ place.Owned q) × (is_started_inward (s.ends e).inward ≡ true) → Newness s.ends t.ends p a e → ((t.ends e).place ≡ place.Owned q) × (is_started_inward (t.ends e).inward ≡ true)
        at q e both (new was now link) = absurd (differ q (sym (ap (λ z. z.place) was) ∙ both.0))
        at q e both (old apart same) = (ap (λ z. z.place) same ∙ both.0, ap (λ z. is_started_inward z.inward) same ∙ both.1)

    made-consistent : IsConsistent t
    made-consistent =
        record {
          kept =
              record {
                made = made-count;
                unmade = λ q. (well q).unmade;
                held = record { held = held; carried = carried };
                apart = λ f. (well f).apart;
                others = λ f. (well f).others;
                waiting = λ f. (well f).waiting;
                resting = λ q f n is. (well q).resting f n is;
              };
          noticed = record { opposite = noticed; outward = λ q. (well q).silent; inward = λ q. (well q).deaf };
          reported = reported-counted t counted-each done;
          processes = processes;
        }

-- the name of the next link is that of the kernel, with its count
next-is : (s : State) (o : Option ℕ) (made : List ℕ) (link : LinkId) → next_at o made ≡ Some link → slice_get made link.maker ≡ Some link.count
next-is s None made link is = absurd (none-some None link refl is)
next-is s (Some h) made link is = by (slice_get made h) refl is
  where
    one : (c : ℕ) → Some (record { maker = h; count = c }) ≡ Some link → record { maker = h; count = c } ≡ link
    one c same = cc

    by : (o : Option ℕ) → slice_get made h ≡ o → counted h o ≡ Some link → slice_get made link.maker ≡ Some link.count
    by None at is = absurd (none-some None link refl is)
    by (Some c) at is = subst (λ l. slice_get made l.maker ≡ Some l.count) (one c is) at

pub consistent-make : (s : State) (p : Pid) (a b : EndId) → IsConsistent s → may_make s p a b ≡ true → IsConsistent (after_make p a b s)
unfolding makes
consistent-make s p a b k may = by (next_link s p) refl (and-true _ _ may).1
  where
    by : (o : Option LinkId) → next_link s p ≡ o → is_new_pair s.ends o a b ≡ true → IsConsistent (after_make p a b s)
    by None is pair = absurd (true≢false (sym pair))
    by (Some link) is pair =
        let five = and-true _ _ pair in
        let four = and-true _ _ five.0 in
        let three = and-true _ _ four.0 in
        let two = and-true _ _ three.0 in
        let first : a ≡ record { link = link; side = A } = end_eq-same a (record { link = link; side = A }) two.1 in
        made-consistent s p a b k (running-is (s.process p.0).phase (and-true _ _ may).0)
        (subst (λ z. slice_get s.made z.link.maker ≡ Some z.link.count) (sym first) (next-is s (slice_get s.homes p.0) s.made link is))
        (end_eq-same b (opposite a) three.1) (not-true _ four.1) (not-true _ five.1) (after_make p a b s) refl refl refl refl
