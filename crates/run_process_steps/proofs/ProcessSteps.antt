-- A step of a process keeps the invariant of a run.
use Rattle.std.proofs.Common.{arith, ◌≡◌, ◌⊎◌, inl, inr, ⊎_elim, ℕ, ◌+◌, ◌*◌, ◌^◌, ◌≤◌, ◌<◌, nat_eq, eqb-true, eq-eqb, if◌then◌else◌, Bool, true, false, List, [], ◌++◌, length, refl, sym, ap, subst, ◌∙◌, append-nil}
use Rattle.charlotte_calls.specs.EndEq.{end_eq}
use Rattle.charlotte_calls.specs.Names.{opposite, other_side}
use Rattle.charlotte_calls.specs.declared.names.Side.{Side as EndSide}
use Rattle.charlotte_calls.specs.declared.names.Side.TheVariants.{A, B}
use Rattle.charlotte_calls.specs.declared.calls.Answer.{Answer}
use Rattle.charlotte_calls.specs.declared.calls.Call.{Call}
use Rattle.charlotte_calls.specs.declared.calls.Call.TheVariants as call
use Rattle.charlotte_calls.specs.declared.names.EndId.{EndId}
use Rattle.charlotte_calls.specs.declared.names.Pid.{Pid}
use Rattle.charlotte_calls.specs.declared.program.Next.{Next}
use Rattle.charlotte_calls.specs.declared.program.Next.TheVariants as next
use Rattle.service_step.specs.Lawful.{IsHeldAt}
use Rattle.service_step.specs.State.{State as Service}
use Rattle.service_step.specs.declared.state.Phase.TheVariants as phase
use Rattle.service_step.specs.declared.state.Place.{Place}
use Rattle.service_step.specs.declared.state.Place.TheVariants as place
use Rattle.run_invariant.specs.Deaths.{IsGone}
use Rattle.run_invariant.specs.Moves.{brings}
use Rattle.end_protocol.specs.Deeds.{Deed}
use Rattle.process_run.specs.States.{Asked, Gone, Holding, Keeps, Place as OwnPlace, State}
use Rattle.process_run.specs.States as process
use Rattle.process_run.specs.Ends.{number_of, place_at}
use Rattle.process_run.specs.Reports.{answered, holding_of}
use Rattle.process_run.specs.Runs.{Did, did, ends, proceeds}
use Rattle.run_invariant.specs.ProcessSoundTold.{IsTold}
use Rattle.run_invariant.proofs.Runs.{step_running}
use Rattle.run_invariant.specs.Asking.{IsAsking, IsCallOf}
use Rattle.run_invariant.specs.AtEnd.{AreSingle, Seen, deeds_at, held_count, holding_at, seen, total}
use Rattle.run_invariant.specs.Changes.{AreLeft}
use Rattle.run_invariant.specs.Ledgers.{how_often}
use Rattle.run_invariant.specs.Telling.{ChangesByStep}
use Rattle.run_invariant.proofs.Asking.{step_fits}
use Rattle.run_invariant.proofs.Numbers.{end_eq_self}
use Rattle.run_invariant.specs.Sides.{Courses, Destroyed, Flipped, Free, Goes, Held, Lost, Pair, Rests, Side, flipped, new_pair}
use Rattle.run_invariant.specs.Acted.{process as pid}
use Rattle.run_invariant.specs.Hearing.{with_owner}
use Rattle.run_invariant.specs.Invariant.{has_of, IsAlive, IsFollowedTo, IsInOnePlace, IsOwned, IsOwner, IsSide, IsSideAt, IsStandingIn, IsToldTrue, Owners, Stands, most_brought}
use Rattle.run_invariant.specs.Owners.{Asks, IsAskedFor, Over, Owner, Pends, Runs, Status, Told, given_of, phase_of, seen_of}
use Rattle.run_invariant.specs.Steps.{IsMine, IsStepped, MayStep, after_step, owner_after}
use Rattle.run_process_steps.proofs.Afterwards.{slice_goes}
use Rattle.run_invariant.proofs.Changing.{onward}
use Rattle.run_process_steps.proofs.Stepping.{changes, end_goes, few_after, last_less, less_now, middle_less, none_brought, nothing_elsewhere, there}

-- ---- both ends of a link

opposite_twice : (x : EndId) → opposite (opposite x) ≡ x
opposite_twice x = ap (λ (a : EndSide). record { link = x.link; side = a }) (by x.side)
  where
    by : (a : EndSide) → other_side (other_side a) ≡ a
    by A = refl
    by B = refl

flip_courses : (version : ℕ) (p q : Pair) → Courses version p q → Courses version (flipped p) (flipped q)
flip_courses version p q (Rests r) = Rests (flipped r)
flip_courses version p q (Goes a b c others event) = Goes (flipped a) (flipped b) (flipped c) (flip_courses version a b others) (Flipped (flipped b) (flipped c) event)

-- an end is destroyed where the service destroyed it
gone_so : (version : ℕ) (s : Service) (os : Owners) (x : EndId) (side : Side) → IsSide version s os x side → IsGone s x → side.standing ≡ Destroyed
gone_so version s os x side is gone = subst (λ (at : Place). IsSideAt version s os x side at) gone is

so_gone : (version : ℕ) (s : Service) (os : Owners) (x : EndId) (side : Side) → IsSide version s os x side → side.standing ≡ Destroyed → IsGone s x
so_gone version s os x side is e = by (s.ends x).place is
  where
    by_holding : (n : ℕ) (a : Seen) (g : Holding) → IsStandingIn n a g side.standing → ⊥
    by_holding n a (Keeps k) so = let no : Held k ≡ Destroyed = sym so ∙ e in cc
    by_holding n a (Gone own) so =
        ⊎_elim (λ (free : side.standing ≡ Free). let no : Free ≡ Destroyed = sym free ∙ e in cc) (λ (lost : side.standing ≡ Lost). let no : Lost ≡ Destroyed = sym lost ∙ e in cc) so.0

    by : (at : Place) → IsSideAt version s os x side at → at ≡ place.Destroyed
    by place.Destroyed so = refl
    by place.Unmade so = let no : Free ≡ Destroyed = sym (ap (λ (l : Side). l.standing) so) ∙ e in absurd cc
    by (place.InMessage f n) so = let no : Free ≡ Destroyed = sym so.0 ∙ e in absurd cc
    by (place.Owned q) so = absurd (by_holding (brings s (pid q.0) x) (seen_of (os q.0) x) (seen_of (os q.0) x).holding so.standing)

-- ---- the other owners

module _ (i : ℕ) (o : Owner) (os : Owners) where
  abbrev changed : Owners
  changed = with_owner i o os

  changed_here : changed i ≡ o
  changed_here = ap (λ (b : Bool). if b then o else os i) (eq-eqb i i refl)

  changed_there : (j : ℕ) → nat_eq i j ≡ false → changed j ≡ os j
  changed_there j e = ap (λ (b : Bool). if b then o else os j) e

  -- each owner is so
  each_so : (P : ℕ → Owner → Type 0) (j : ℕ) → P i o → P j (os j) → P j (changed j)
  each_so P j here there = by (nat_eq i j) refl
    where
      by : (b : Bool) → nat_eq i j ≡ b → P j (changed j)
      by true e = subst (λ (k : ℕ). P k (changed k)) (eqb-true i j e) (subst (λ (w : Owner). P i w) (sym changed_here) here)
      by false e = subst (λ (w : Owner). P j w) (sym (changed_there j e)) there

  same_pid : (q : Pid) → nat_eq i q.0 ≡ true → q ≡ pid i
  same_pid q e = let same : i ≡ q.0 = eqb-true i q.0 e in ap (λ (j : ℕ). pid j) (sym same)

  is_own : (at : Place) → (at ≡ place.Owned (pid i)) ⊎ (at ≡ place.Owned (pid i) → ⊥)
  is_own place.Destroyed = inr (λ e. let no : place.Destroyed ≡ place.Owned (pid i) = e in cc)
  is_own place.Unmade = inr (λ e. let no : place.Unmade ≡ place.Owned (pid i) = e in cc)
  is_own (place.InMessage f n) = inr (λ e. let no : place.InMessage f n ≡ place.Owned (pid i) = e in cc)
  is_own (place.Owned q) = by (nat_eq i q.0) refl
    where
      owned_pid : (r : Pid) → place.Owned r ≡ place.Owned (pid i) → r ≡ pid i
      owned_pid r e = cc

      by : (b : Bool) → nat_eq i q.0 ≡ b → (place.Owned q ≡ place.Owned (pid i)) ⊎ (place.Owned q ≡ place.Owned (pid i) → ⊥)
      by true e = inl (ap (λ (r : Pid). place.Owned r) (same_pid q e))
      by false e = inr (λ same. let yes : nat_eq i q.0 ≡ true = eq-eqb i q.0 (sym (ap (λ (r : Pid). r.0) (owned_pid q same))) in let no : true ≡ false = sym yes ∙ e in cc)

  -- an end that this process does not own is as before
  other_side_so : (version : ℕ) (s : Service) (x : EndId) (side : Side) → ((s.ends x).place ≡ place.Owned (pid i) → ⊥) → IsSide version s os x side → IsSide version s changed x side
  other_side_so version s x side away is = by (s.ends x).place away is
    where
      by : (at : Place) → (at ≡ place.Owned (pid i) → ⊥) → IsSideAt version s os x side at → IsSideAt version s changed x side at
      by place.Destroyed away so = so
      by place.Unmade away so = so
      by (place.InMessage f n) away so = so
      by (place.Owned q) away so = by_number (nat_eq i q.0) refl
        where
          by_number : (b : Bool) → nat_eq i q.0 ≡ b → IsOwned version s (changed q.0) q.0 x side
          by_number true e = absurd (away (ap (λ (r : Pid). place.Owned r) (same_pid q e)))
          by_number false e = subst (λ (w : Owner). IsOwned version s w q.0 x side) (sym (changed_there q.0 e)) so

  own_side : (version : ℕ) (s : Service) (x : EndId) (side : Side) → (s.ends x).place ≡ place.Owned (pid i) → IsOwned version s o i x side → IsSide version s changed x side
  own_side version s x side own is =
      subst (λ (at : Place). IsSideAt version s changed x side at) (sym own) (subst (λ (w : Owner). IsOwned version s w i x side) (sym changed_here) is)

-- ---- a process that goes on

none_ended : phase.Ended ≡ phase.Running → ⊥
none_ended e = cc

module _ (version count : ℕ) (s : Service) (entries : ℕ) (os : Owners) (deeds : EndId → List Deed) (is : Stands version count s entries os deeds) (small : entries ≤ 2 ^ 28)
    (i : ℕ) (known : i < count) (may : MayStep (os i).status) (told : IsTold (given_of (os i).status)) where
  abbrev o : Owner
  o = os i

  abbrev d : Did
  d = did o.state (given_of o.status)

  abbrev now : Owner
  now = owner_after d

  abbrev then_owners : Owners
  then_owners = with_owner i now os

  owner : IsOwner version s entries i o
  owner = is.owners.each i known

  module _ (runs : phase_of o.status ≡ phase.Running) where
    alive : IsAlive o
    alive ended = none_ended (sym ended ∙ runs)

    abbrev step : ChangesByStep o.state (given_of o.status) d
    step = changes version s is.owners.consistent is.owners.matched entries i o owner small alive may told

    -- ---- its owner

    not_exit : o.state.asked ≡ process.Exit → ⊥
    not_exit e = by o.status owner.asked runs may
      where
        by_call : (c : Call) (a : Answer) → IsCallOf o.state c → phase_of (Told c a) ≡ phase.Running → ⊥
        by_call call.Exit a called goes = none_ended goes
        by_call call.Make a called goes = let no : process.Exit ≡ process.Make called.0 = sym e ∙ called.1 in cc
        by_call (call.Print bytes) a called goes = let no : process.Exit ≡ process.Print called.0 = sym e ∙ called.1 in cc
        by_call (call.Destroy x) a called goes = let no : process.Exit ≡ process.Destroy = sym e ∙ called in cc
        by_call (call.Send x bytes xs) a called goes = let no : process.Exit ≡ process.Send called.number = sym e ∙ called.asked in cc
        by_call (call.Receive x) a called goes = let no : process.Exit ≡ process.Receive called.number = sym e ∙ called.asked in cc
        by_call (call.Cancel x w) a called goes = let no : process.Exit ≡ process.Cancel called.0.number = sym e ∙ called.0.asked in cc
        by_call call.Wait a called goes = let no : process.Exit ≡ process.Wait = sym e ∙ called in cc

        by : (status : Status) → IsAskedFor o.state status → phase_of status ≡ phase.Running → MayStep status → ⊥
        by Runs asked goes may = let no : process.Exit ≡ process.Nothing = sym e ∙ asked in cc
        by (Told c a) asked goes may = by_call c a asked goes
        by (Asks c) asked goes may = may
        by (Pends c) asked goes may = may
        by Over asked goes may = may

    goes_on : d.next ≡ next.Ended → ⊥
    goes_on = by o.state.asked not_exit
      where
        by : (a : Asked) → (a ≡ process.Exit → ⊥) → (proceeds a (answered o.state.asked (given_of o.status) o.state)).next ≡ next.Ended → ⊥
        by process.Exit other e = other refl
        by process.Nothing other e = slice_goes (answered o.state.asked (given_of o.status) o.state).state e
        by (process.Make n) other e = slice_goes (answered o.state.asked (given_of o.status) o.state).state e
        by (process.Print n) other e = slice_goes (answered o.state.asked (given_of o.status) o.state).state e
        by process.Destroy other e = slice_goes (answered o.state.asked (given_of o.status) o.state).state e
        by (process.Send n) other e = slice_goes (answered o.state.asked (given_of o.status) o.state).state e
        by (process.Receive n) other e = slice_goes (answered o.state.asked (given_of o.status) o.state).state e
        by (process.Cancel n) other e = slice_goes (answered o.state.asked (given_of o.status) o.state).state e
        by process.Wait other e = slice_goes (answered o.state.asked (given_of o.status) o.state).state e

    running_after : (f : Next) → (f ≡ next.Ended → ⊥) → phase_of (after_step f) ≡ phase.Running
    running_after (next.Ask c) goes = refl
    running_after next.Pause goes = refl
    running_after next.Ended goes = absurd (goes refl)

    asked_after : (t : State) (f : Next) → IsAsking t f → IsAskedFor t (after_step f)
    asked_after t (next.Ask c) so = so
    asked_after t next.Pause so = so
    asked_after t next.Ended so = tt

    true_after : (f : Next) → IsToldTrue s i (after_step f)
    true_after (next.Ask c) = tt
    true_after next.Pause = tt
    true_after next.Ended = tt

    single_now : AreSingle d.state.places
    single_now n x k held =
        subst (λ (ps : List OwnPlace). AreSingle ps) step.places (there version s is.owners.consistent is.owners.matched entries i o owner small alive may told x).single n x k held

    in_place : (x : EndId) → IsInOnePlace s now i x
    in_place x =
        let was : IsInOnePlace s o i x = owner.custody alive x in
        let less : has_of now x ≤ total (seen_of o x) = less_now version s is.owners.consistent is.owners.matched entries i o owner small alive may told x in
        let one : has_of o x + brings s (pid i) x ≤ 1 = was.one in
        record { one = omega (arith, less, one); own = λ some. was.own (omega (arith, less, some)) }

    few_now : length d.state.places + most_brought (after_step d.next) ≤ 8192 + 8 * entries
    few_now =
        let few : length d.state.places ≤ 8192 + 8 * entries = few_after version s is.owners.consistent is.owners.matched entries i o owner small alive may told in
        let none : most_brought (after_step d.next) ≡ 0 = none_brought d.next in
        omega (arith, few, none)

    owner_now : IsOwner version s entries i now
    owner_now =
        record {
          phase = owner.phase ∙ runs ∙ sym (running_after d.next goes_on);
          version_is = step.version ∙ owner.version_is;
          running = step_running o.state (given_of o.status) told owner.running;
          asked = asked_after d.state d.next (step_fits o.state (given_of o.status));
          single = single_now;
          few = few_now;
          told = true_after d.next;
          custody = λ living. in_place;
        }

    -- ---- links

    record EndDone (x : EndId) (p : Pair) : Type 0 where
      pub to : Pair
      pub course : Courses version p to
      pub near : IsSide version s then_owners x to.near
      pub far : to.far ≡ p.far
      pub near_deeds : to.near_deeds ≡ p.near_deeds ++ deeds_at x d.deeds
      pub far_deeds : to.far_deeds ≡ p.far_deeds

    elsewhere_now : (x : EndId) → ((s.ends x).place ≡ place.Owned (pid i) → ⊥) → deeds_at x d.deeds ≡ []
    elsewhere_now = nothing_elsewhere version s is.owners.consistent is.owners.matched entries i o owner small alive may told

    one_end : (x : EndId) (p : Pair) → IsSide version s os x p.near → (IsGone s (opposite x) → p.far.standing ≡ Destroyed) → (p.far.standing ≡ Destroyed → IsGone s (opposite x)) → EndDone x p
    one_end x p near far_gone gone_far = ⊎_elim here away (is_own i now os (s.ends x).place)
      where
        here : (s.ends x).place ≡ place.Owned (pid i) → EndDone x p
        here own =
            let owned : IsOwned version s o i x p.near = subst (λ (at : Place). IsSideAt version s os x p.near at) own near in
            let went = end_goes version s is.owners.consistent is.owners.matched entries i o owner small alive may told x p own owned far_gone gone_far in
            record { to = went.to; course = went.course; near = own_side i now os version s x went.to.near own went.near; far = went.far; near_deeds = went.near_deeds; far_deeds = went.far_deeds }

        away : ((s.ends x).place ≡ place.Owned (pid i) → ⊥) → EndDone x p
        away other =
            record {
              to = p;
              course = Rests p;
              near = other_side_so i now os version s x p.near other near;
              far = refl;
              near_deeds = sym (ap (λ (l : List Deed). p.near_deeds ++ l) (elsewhere_now x other) ∙ append-nil p.near_deeds);
              far_deeds = refl;
            }

    abbrev deeds_now : EndId → List Deed
    deeds_now x = deeds x ++ deeds_at x d.deeds

    link_now : (x : EndId) → IsFollowedTo version s then_owners deeds_now x
    link_now x =
        record {
          pair = flipped second.to;
          course = onward version new_pair first.to (flipped second.to) (onward version new_pair p first.to f.course first.course) (flip_courses version (flipped first.to) second.to second.course);
          near = subst (λ (side : Side). IsSide version s then_owners x side) (sym second.far) first.near;
          far = second.near;
          near_deeds = second.far_deeds ∙ first.near_deeds ∙ ap (λ (l : List Deed). l ++ deeds_at x d.deeds) f.near_deeds;
          far_deeds = second.near_deeds ∙ ap (λ (l : List Deed). l ++ deeds_at (opposite x) d.deeds) (first.far_deeds ∙ f.far_deeds);
        }
      where
        f : IsFollowedTo version s os deeds x
        f = is.links x

        p : Pair
        p = f.pair

        first : EndDone x p
        first = one_end x p f.near (gone_so version s os (opposite x) p.far f.far) (so_gone version s os (opposite x) p.far f.far)

        second : EndDone (opposite x) (flipped first.to)
        second =
            one_end (opposite x) (flipped first.to) (subst (λ (side : Side). IsSide version s os (opposite x) side) (sym first.far) f.far)
            (λ gone. gone_so version s then_owners x first.to.near first.near (subst (λ (y : EndId). IsGone s y) (opposite_twice x) gone))
            (λ e. subst (λ (y : EndId). IsGone s y) (sym (opposite_twice x)) (so_gone version s then_owners x first.to.near first.near e))

    -- ---- its call is on an end of its own

    own_by : (x : EndId) → 1 ≤ total (seen x step.last) → (s.ends x).place ≡ place.Owned (pid i)
    own_by x some =
        let one : total (seen x step.last) ≤ total (seen x step.told) = last_less version s is.owners.consistent is.owners.matched entries i o owner small alive may told x in
        let two : total (seen x step.told) ≤ total (seen_of o x) = middle_less version s is.owners.consistent is.owners.matched entries i o owner small alive may told x in
        (owner.custody alive x).own (omega (arith, some, one, two))

    mine_now : (c : Call) → d.next ≡ next.Ask c → IsMine s i c
    mine_now c e = by c (subst (λ (f : Next). IsAsking d.state f) e (step_fits o.state (given_of o.status))) (subst (λ (f : Next). AreLeft f step.last.doomed d.state.doomed) e step.left)
      where
        by : (c : Call) → IsCallOf d.state c → AreLeft (next.Ask c) step.last.doomed d.state.doomed → IsMine s i c
        by call.Make called left = tt
        by (call.Print bytes) called left = tt
        by (call.Receive x) called left = tt
        by (call.Cancel x w) called left = tt
        by call.Wait called left = tt
        by call.Exit called left = tt
        by (call.Destroy x) called left =
            let same : how_often x step.last.doomed ≡ (if end_eq x x then 1 else 0) + how_often x d.state.doomed = ap (λ (l : List EndId). how_often x l) left in
            let once : ◌≡◌ {A = ℕ} (if end_eq x x then 1 else 0) 1 = ap (λ (b : Bool). if b then 1 else 0) (end_eq_self x) in
            own_by x (omega (arith, same, once))
        by (call.Send x bytes xs) called left =
            let number : called.number ≡ number_of x d.state.places = single_now called.number x called.kept called.held in
            let at : holding_at x d.state.places ≡ Keeps called.kept = ap (λ (n : ℕ). holding_of (place_at n d.state.places)) (sym number) ∙ ap holding_of called.held in
            let held : held_count (holding_at x step.last.places) ≡ 1 = ap (λ (ps : List OwnPlace). held_count (holding_at x ps)) step.places ∙ ap held_count at in
            own_by x (omega (arith, held))

    runs_stepped : IsStepped version count s entries os deeds i d
    runs_stepped =
        record {
          stands =
              record {
                owners =
                    record {
                      consistent = is.owners.consistent;
                      matched = is.owners.matched;
                      version_is = is.owners.version_is;
                      count_is = is.owners.count_is;
                      each = λ j few. each_so i now os (λ (k : ℕ) (w : Owner). IsOwner version s entries k w) j owner_now (is.owners.each j few);
                    };
                links = link_now;
              };
          mine = mine_now;
          elsewhere = elsewhere_now;
        }

  -- ---- a process that ended

  module _ (a : Answer) (exits : o.status ≡ Told call.Exit a) where
    asked_exit : o.state.asked ≡ process.Exit
    asked_exit = subst (λ (status : Status). IsAskedFor o.state status) exits owner.asked

    it_ends : ends o.state ≡ d
    it_ends = sym (ap (λ (b : Asked). proceeds b (answered b (given_of o.status) o.state)) asked_exit)

    abbrev over : Owner
    over = record { state = o.state; status = Over }

    ended : (s.process i).phase ≡ phase.Ended
    ended = owner.phase ∙ ap (λ (status : Status). phase_of status) exits

    -- it owns no end any more
    owns_none : (x : EndId) → (s.ends x).place ≡ place.Owned (pid i) → ⊥
    owns_none x own = (subst (λ (at : Place). IsHeldAt s x at) own (is.owners.consistent.kept.held.held x)) ended

    few_over : length o.state.places + 0 ≤ 8192 + 8 * entries
    few_over = let few = owner.few in omega (arith, few)

    owner_over : IsOwner version s entries i over
    owner_over =
        record {
          phase = ended;
          version_is = owner.version_is;
          running = owner.running;
          asked = tt;
          single = owner.single;
          few = few_over;
          told = tt;
          custody = λ living. absurd (living refl);
        }

    link_over : (x : EndId) → IsFollowedTo version s (with_owner i over os) (λ y. deeds y ++ []) x
    link_over x =
        let f : IsFollowedTo version s os deeds x = is.links x in
        record {
          pair = f.pair;
          course = f.course;
          near = other_side_so i over os version s x f.pair.near (owns_none x) f.near;
          far = other_side_so i over os version s (opposite x) f.pair.far (owns_none (opposite x)) f.far;
          near_deeds = f.near_deeds ∙ sym (append-nil (deeds x));
          far_deeds = f.far_deeds ∙ sym (append-nil (deeds (opposite x)));
        }

    ended_no_call : (c : Call) → next.Ended ≡ next.Ask c → ⊥
    ended_no_call c e = cc

    ends_stepped : IsStepped version count s entries os deeds i (ends o.state)
    ends_stepped =
        record {
          stands =
              record {
                owners =
                    record {
                      consistent = is.owners.consistent;
                      matched = is.owners.matched;
                      version_is = is.owners.version_is;
                      count_is = is.owners.count_is;
                      each = λ j few. each_so i over os (λ (k : ℕ) (w : Owner). IsOwner version s entries k w) j owner_over (is.owners.each j few);
                    };
                links = link_over;
              };
          mine = λ c e. absurd (ended_no_call c e);
          elsewhere = λ x away. refl;
        }

  -- ---- each step

  goes_or_ends : (status : Status) → MayStep status → (phase_of status ≡ phase.Running) ⊎ ((a : Answer) × (status ≡ Told call.Exit a))
  goes_or_ends Runs may = inl refl
  goes_or_ends (Told call.Exit a) may = inr (a, refl)
  goes_or_ends (Told call.Make a) may = inl refl
  goes_or_ends (Told (call.Print bytes) a) may = inl refl
  goes_or_ends (Told (call.Destroy x) a) may = inl refl
  goes_or_ends (Told (call.Send x bytes xs) a) may = inl refl
  goes_or_ends (Told (call.Receive x) a) may = inl refl
  goes_or_ends (Told (call.Cancel x w) a) may = inl refl
  goes_or_ends (Told call.Wait a) may = inl refl
  goes_or_ends (Asks c) may = absurd may
  goes_or_ends (Pends c) may = absurd may
  goes_or_ends Over may = absurd may

  pub step_stands : IsStepped version count s entries os deeds i d
  step_stands =
      ⊎_elim runs_stepped
      (λ (e : (a : Answer) × (o.status ≡ Told call.Exit a)). subst (λ (f : Did). IsStepped version count s entries os deeds i f) (it_ends e.0 e.1) (ends_stepped e.0 e.1))
      (goes_or_ends o.status may)
