-- A step in which a process ends leaves a consistent state.
use Rattle.std.proofs.Common.{◌≡◌, ◌≢◌, ℕ, ◌≤◌, Bool, true, false, true≢false, nat_eq, ◌||◌, not, ◌⊎◌, inl, inr, if◌then◌else◌, length, Some, None, IsSome, List, [], ◌∷◌, Contains, nat_lt, slice_index, eq-eqb, refl, sym, ap, subst, ◌∙◌, arith}
use Rattle.std.specs.List.{list_any}
use Rattle.charlotte_calls.specs.EndEq.{names_twice, same_link}
use Rattle.charlotte_calls.specs.Names.{opposite}
use Rattle.charlotte_calls.specs.declared.calls.Report.{Report}
use Rattle.charlotte_calls.specs.declared.names.EndId.{EndId}
use Rattle.charlotte_calls.specs.declared.names.Outcome.TheVariants as outcome
use Rattle.charlotte_calls.specs.declared.names.Pid.{Pid}
use Rattle.service_change.proofs.Change.{IsCarried-at}
use Rattle.service_change.proofs.Counts.{pid_tells}
use Rattle.service_change.proofs.EndEq.{among, Contains-among, end_eq-same, puts-at, puts-other}
use Rattle.service_change.proofs.Facts.{owned_by-Owned, put_process-at, put_process-other, running-is}
use Rattle.service_consistent.proofs.StepsOfCalls.{consistent-destroys}
use Rattle.service_lawful.specs.Consistent.{IsConsistent, is_over, is_open, reports_on}
use Rattle.service_step.specs.Ends.{end_eq, is_idle, owner, unmade, carried_by, destroys, destroys_each, destroys_owned, dropped, is_made, is_owned_by, is_living, is_started_inward, places, put, puts, waiting_message}
use Rattle.service_step.specs.Lawful.{IsHeldAt, message_of}
use Rattle.service_step.specs.State.{State, Process, ends_process, no_process, put_process}
use Rattle.service_step.specs.Steps.{Exits, runs}
use Rattle.service_step.specs.declared.state.End.{End}
use Rattle.service_step.specs.declared.state.Message.{Message}
use Rattle.service_step.specs.declared.state.Outward.TheVariants as outward
use Rattle.service_step.specs.declared.state.Phase.TheVariants as phase
use Rattle.service_step.specs.declared.state.Place.{Place}
use Rattle.service_step.specs.declared.state.Place.TheVariants as place

-- the end is p's
abbrev is_mine : Pid → (EndId → End) → EndId → Bool
is_mine p t q = is_owned_by p (t q).place

-- what is not p's does not come to be p's
abbrev IsLess : Pid → (EndId → End) → (EndId → End) → Type 0
IsLess p t u = (q : EndId) → is_mine p t q ≡ false → is_mine p u q ≡ false

puts-none : (e : EndId) (x : End) (t : EndId → End) → is_made (t e).place ≡ false → puts e x t e ≡ t e
unfolding puts
puts-none e x t not = ap (λ b. (if b then put t e x else t) e) not

puts-less : (p : Pid) (e : EndId) (x : End) (t : EndId → End) → is_owned_by p x.place ≡ false → IsLess p t (puts e x t)
puts-less p e x t none q was = by (end_eq e q) refl (is_made (t e).place) refl
  where
    by : (b : Bool) → end_eq e q ≡ b → (c : Bool) → is_made (t e).place ≡ c → is_mine p (puts e x t) q ≡ false
    by true same true made = subst (λ z. is_mine p (puts e x t) z ≡ false) (end_eq-same e q same) (ap (λ y. is_owned_by p y.place) (puts-at e x t made) ∙ none)
    by true same false not = subst (λ z. is_mine p (puts e x t) z ≡ false) (end_eq-same e q same) (ap (λ y. is_owned_by p y.place) (puts-none e x t not) ∙ subst (λ z. is_mine p t z ≡ false) (sym (end_eq-same e q same)) was)
    by false apart c is = ap (λ y. is_owned_by p y.place) (puts-other e x t q apart) ∙ was

places-less : (p : Pid) (xs : List EndId) (t : EndId → End) → IsLess p t (places place.Destroyed xs t)
unfolding places
places-less p [] t q was = was
places-less p (x ∷ xs) t q was = places-less p xs (puts x (record (t x) { place = place.Destroyed }) t) q (puts-less p x (record (t x) { place = place.Destroyed }) t refl q was)

destroys-less : (p : Pid) (e : EndId) (t : EndId → End) → IsLess p t (destroys e t)
unfolding destroys
destroys-less p e t q was =
    places-less p (carried_by (waiting_message (t e).outward)) (puts e (record (t e) { place = place.Destroyed; outward = dropped (t e).outward }) t) q
    (puts-less p e (record (t e) { place = place.Destroyed; outward = dropped (t e).outward }) t refl q was)

destroys_owned-less : (p : Pid) (e : EndId) (t : EndId → End) → IsLess p t (destroys_owned p e t)
unfolding destroys_owned
destroys_owned-less p e t q was = by (is_owned_by p (t e).place)
  where
    by : (b : Bool) → is_mine p (if b then destroys e t else t) q ≡ false
    by true = destroys-less p e t q was
    by false = was

-- and the end itself is p's no more
destroys_owned-its : (p : Pid) (e : EndId) (t : EndId → End) → is_mine p (destroys_owned p e t) e ≡ false
unfolding destroys_owned destroys
destroys_owned-its p e t = by (is_owned_by p (t e).place) refl
  where
    by : (b : Bool) → is_owned_by p (t e).place ≡ b → is_mine p (if b then places place.Destroyed (carried_by (waiting_message (t e).outward)) (puts e (record (t e) { place = place.Destroyed; outward = dropped (t e).outward }) t) else t) e ≡ false
    by true is =
        places-less p (carried_by (waiting_message (t e).outward)) (puts e (record (t e) { place = place.Destroyed; outward = dropped (t e).outward }) t) e
        (ap (λ y. is_owned_by p y.place) (puts-at e (record (t e) { place = place.Destroyed; outward = dropped (t e).outward }) t (ap is_made (owned_by-Owned p (t e).place is))))
    by false not = not

destroys_each-less : (p : Pid) (mine : List EndId) (t : EndId → End) → IsLess p t (destroys_each p mine t)
unfolding destroys_each
destroys_each-less p [] t q was = was
destroys_each-less p (e ∷ mine) t q was = destroys_each-less p mine (destroys_owned p e t) q (destroys_owned-less p e t q was)

destroys_each-among : (p : Pid) (mine : List EndId) (t : EndId → End) (q : EndId) → among q mine ≡ true → is_mine p (destroys_each p mine t) q ≡ false
unfolding destroys_each
destroys_each-among p [] t q is = absurd (true≢false (sym is))
destroys_each-among p (e ∷ mine) t q is = by (end_eq q e) refl is (destroys_each-among p mine (destroys_owned p e t) q)
  where
    by : (b : Bool) → end_eq q e ≡ b → b || among q mine ≡ true → (among q mine ≡ true → is_mine p (destroys_each p mine (destroys_owned p e t)) q ≡ false) → is_mine p (destroys_each p mine (destroys_owned p e t)) q ≡ false
    by true same is rest = destroys_each-less p mine (destroys_owned p e t) q (subst (λ z. is_mine p (destroys_owned p e t) z ≡ false) (sym (end_eq-same q e same)) (destroys_owned-its p e t))
    by false apart is rest = rest is

-- each end that is destroyed leaves a consistent state
destroys_owned-consistent : (s : State) (p : Pid) (e : EndId) → IsConsistent s → (s.process p.0).phase ≡ phase.Running → IsConsistent (record s { ends = destroys_owned p e s.ends })
unfolding destroys_owned
destroys_owned-consistent s p e k running = by (is_owned_by p (s.ends e).place) refl
  where
    by : (b : Bool) → is_owned_by p (s.ends e).place ≡ b → IsConsistent (record s { ends = if b then destroys e s.ends else s.ends })
    by true is = consistent-destroys s e p k (record { owned = owned_by-Owned p (s.ends e).place is; running = running })
    by false not = k

destroys_each-consistent : (s : State) (p : Pid) (mine : List EndId) (t : EndId → End) → IsConsistent (record s { ends = t }) → (s.process p.0).phase ≡ phase.Running → IsConsistent (record s { ends = destroys_each p mine t })
unfolding destroys_each
destroys_each-consistent s p [] t k running = k
destroys_each-consistent s p (e ∷ mine) t k running = destroys_each-consistent s p mine (destroys_owned p e t) (destroys_owned-consistent (record s { ends = t }) p e k running) running

-- a process that owns nothing ends
module _ (s t : State) (p : Pid) (k : IsConsistent s) (made : t.made ≡ s.made) (homes : t.homes ≡ s.homes) (ends : t.ends ≡ s.ends) (process : t.process ≡ put_process p no_process s.process) (none : (q : EndId) → (s.ends q).place ≡ place.Owned p → ⊥) where
  at_p : t.process p.0 ≡ no_process
  at_p = ap (λ f. f p.0) process ∙ put_process-at p no_process s.process

  at_q : (q : Pid) → nat_eq p.0 q.0 ≡ false → t.process q.0 ≡ s.process q.0
  at_q q apart = ap (λ f. f q.0) process ∙ put_process-other p no_process s.process q apart

  -- what is true of its process, and of each other, is true of each
  each : (P : Pid → Process → Type 0) → P p no_process → ((q : Pid) → nat_eq p.0 q.0 ≡ false → P q (s.process q.0)) → (q : Pid) → P q (t.process q.0)
  each P its others q = by (pid_tells p q)
    where
      by : ((nat_eq p.0 q.0 ≡ true) × (p ≡ q)) ⊎ ((nat_eq p.0 q.0 ≡ false) × (p.0 ≢ q.0)) → P q (t.process q.0)
      by (inl same) = subst (λ z. P z (t.process z.0)) same.1 (subst (P p) (sym at_p) its)
      by (inr apart) = subst (P q) (sym (at_q q apart.0)) (others q apart.0)

  empty : (r : Report) → Contains [] r → ⊥
  empty r (i, below, same) = absurd (omega arith)

  -- a report is none of its own
  report-each : (q : Pid) (r : Report) → Contains (t.process q.0).reports r → Contains (s.process q.0).reports r
  report-each q r = each (λ q x. Contains x.reports r → Contains (s.process q.0).reports r) (λ is. absurd (empty r is)) (λ q apart is. is) q

  place-each : (P : Place → Type 0) (e : EndId) → P (s.ends e).place → P (t.ends e).place
  place-each P e is = subst (λ f. P (f e).place) (sym ends) is

  held : (e : EndId) (at : Place) → (s.ends e).place ≡ at → IsHeldAt s e at → IsHeldAt t e at
  held e (place.Owned q) at is = each (λ q x. (s.ends e).place ≡ place.Owned q → (s.process q.0).phase ≢ phase.Ended → x.phase ≢ phase.Ended) (λ owned was ended. none e owned) (λ q apart owned was ended. was ended) q at is
  held e (place.InMessage f n) at is = IsCarried-at s t f n e (ap (λ g. g f) ends) is
  held e place.Destroyed at is = tt
  held e place.Unmade at is = tt

  differ : (e : EndId) → phase.Ended ≡ phase.Cancelling e → ⊥
  differ e same = cc

  ended-consistent : IsConsistent t
  ended-consistent =
      record {
        kept =
            record {
              made = λ e. ap (λ f. is_made (f e).place) ends ∙ k.kept.made e ∙ ap (λ l. nat_lt e.link.count (slice_index l e.link.maker)) (sym made);
              unmade = λ e. subst (λ f. (f e).place ≡ place.Unmade → f e ≡ unmade) (sym ends) (k.kept.unmade e);
              held =
                  record {
                    held = λ e. place-each (IsHeldAt t e) e (held e (s.ends e).place refl (k.kept.held.held e));
                    carried = λ f e n is. place-each (λ at. at ≡ place.InMessage f n) e (k.kept.held.carried f e n (IsCarried-at t s f n e (sym (ap (λ g. g f) ends)) is));
                  };
              apart = subst (λ g. (f : EndId) (m : Message) → message_of (g f).outward ≡ Some m → names_twice m.carried ≡ false) (sym ends) k.kept.apart;
              others = subst (λ g. (f : EndId) (m : Message) → message_of (g f).outward ≡ Some m → list_any (same_link f) m.carried ≡ false) (sym ends) k.kept.others;
              waiting = subst (λ g. (f : EndId) (m : Message) → (g f).outward ≡ outward.Waiting m → IsSome (owner (g f).place)) (sym ends) k.kept.waiting;
              resting = subst (λ g. (e f : EndId) (n : ℕ) → (g e).place ≡ place.InMessage f n → is_idle (g e) ≡ true) (sym ends) k.kept.resting;
            };
        noticed =
            record {
              opposite = subst (λ g. (e : EndId) → (g e).noticed ≡ true → (g (opposite e)).place ≡ place.Destroyed) (sym ends) k.noticed.opposite;
              outward = subst (λ g. (e : EndId) → (g e).noticed ≡ true → is_living (g e).place ≡ true → waiting_message (g e).outward ≡ None) (sym ends) k.noticed.outward;
              inward = subst (λ g. (e : EndId) → (g e).noticed ≡ true → is_living (g e).place ≡ true → is_started_inward (g e).inward ≡ false) (sym ends) k.noticed.inward;
            };
        reported =
            record {
              over = λ q r is. subst (λ g. is_over r.way (g r.on) ≡ true) (sym ends) (k.reported.over q r (report-each q r is));
              once = λ q e w. each (λ q x. reports_on e w x.reports ≤ 1) (omega arith) (λ q apart. k.reported.once q e w) q;
              alone = λ q r x y a b on its. k.reported.alone q r x y (report-each q x a) (report-each r y b) on its;
              own = λ q r is. subst (λ g. is_living (g r.on).place ≡ true → (g r.on).place ≡ place.Owned q) (sym ends) (k.reported.own q r (report-each q r is));
              done = λ q r is. subst (λ g. is_open (g r.on) ≡ true → r.outcome ≡ outcome.Done) (sym ends) (k.reported.done q r (report-each q r is));
              stands =
                  λ q e w. subst (λ g. (g e).place ≡ place.Owned q → is_over w (g e) ≡ true → reports_on e w (t.process q.0).reports ≡ 1) (sym ends)
                  (each (λ q x. (s.ends e).place ≡ place.Owned q → is_over w (s.ends e) ≡ true → reports_on e w x.reports ≡ 1) (λ owned over. absurd (none e owned)) (λ q apart. k.reported.stands q e w) q);
            };
        processes =
            record {
              cancelling =
                  λ q e is. subst (λ g. ((g e).place ≡ place.Owned q) × (is_started_inward (g e).inward ≡ true)) (sym ends)
                  (each (λ q x. x.phase ≡ phase.Cancelling e → ((s.ends e).place ≡ place.Owned q) × (is_started_inward (s.ends e).inward ≡ true)) (λ is. absurd (differ e is)) (λ q apart. k.processes.cancelling q e) q is);
              ended = each (λ q x. x.phase ≡ phase.Ended → x.reports ≡ []) (λ is. refl) (λ q apart. k.processes.ended q);
              others = each (λ q x. length t.homes ≤ q.0 → x ≡ no_process) (λ beyond. refl) (λ q apart beyond. k.processes.others q (subst (λ l. length l ≤ q.0) homes beyond));
            };
      }

pub consistent-exit : (s t : State) (p : Pid) → IsConsistent s → runs s p ≡ true → Exits p s t → IsConsistent t
unfolding ends_process
consistent-exit s t p k may x =
    ended-consistent (record s { ends = destroys_each p x.mine s.ends }) t p (destroys_each-consistent s p x.mine s.ends k (running-is (s.process p.0).phase may)) (ap (λ z. z.made) x.after) (ap (λ z. z.homes) x.after) (ap (λ z. z.ends) x.after)
    (ap (λ z. z.process) x.after) none
  where
    none : (q : EndId) → (destroys_each p x.mine s.ends q).place ≡ place.Owned p → ⊥
    none q owned = true≢false (sym (subst (λ at. is_owned_by p at ≡ true) (sym owned) its) ∙ by (is_owned_by p (s.ends q).place) refl)
      where
        its : nat_eq p.0 p.0 ≡ true
        its = eq-eqb p.0 p.0 refl

        by : (b : Bool) → is_owned_by p (s.ends q).place ≡ b → is_mine p (destroys_each p x.mine s.ends) q ≡ false
        by true is = destroys_each-among p x.mine s.ends q (Contains-among q x.mine (x.all q is))
        by false not = destroys_each-less p x.mine s.ends q not
