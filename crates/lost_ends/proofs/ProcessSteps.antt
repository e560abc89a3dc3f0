-- A step of a process keeps each link so: an end that its process is to destroy stands still as it was kept.
use Rattle.std.proofs.Common.{arith, ◌≡◌, ◌⊎◌, inl, inr, ⊎_elim, ℕ, ◌+◌, ◌*◌, ◌^◌, ◌≤◌, ◌<◌, nat_eq, if◌then◌else◌, Bool, true, false, List, [], ◌∷◌, ◌++◌, length, None, refl, sym, ap, subst, ◌∙◌, append-nil, eq-eqb, eqb-true}
use Rattle.charlotte_calls.specs.EndEq.{end_eq}
use Rattle.charlotte_calls.specs.Names.{opposite}
use Rattle.charlotte_calls.specs.declared.calls.Call.TheVariants as call
use Rattle.charlotte_calls.specs.declared.names.EndId.{EndId}
use Rattle.charlotte_calls.specs.declared.names.Pid.{Pid}
use Rattle.charlotte_calls.specs.declared.program.Next.{Next}
use Rattle.charlotte_calls.specs.declared.program.Next.TheVariants as next
use Rattle.service_change.proofs.EndEq.{opposite-opposite}
use Rattle.service_step.specs.State.{State as Service}
use Rattle.service_step.specs.declared.state.Inward.TheVariants as inward
use Rattle.service_step.specs.declared.state.Message.{Message as ToldMessage}
use Rattle.service_step.specs.declared.state.Place.{Place}
use Rattle.service_step.specs.declared.state.Place.TheVariants as place
use Rattle.followed_links.specs.Coming.{coming}
use Rattle.followed_links.specs.Deaths.{IsGone}
use Rattle.followed_links.specs.Moves.{brings}
use Rattle.end_protocol.specs.declared.kept.Kept.{Kept}
use Rattle.end_protocol.specs.Deeds.{Deed}
use Rattle.end_protocol.specs.Going.{receive_over}
use Rattle.end_protocol.specs.Hearing.{hears}
use Rattle.process_run.specs.States.{DeedOn, Gone, Holding, Keeps}
use Rattle.process_run.specs.States as process_run
use Rattle.process_run.specs.Ends.{number_of}
use Rattle.process_run.specs.Runs.{Did, did}
use Rattle.followed_links.specs.ProcessSoundTold.{IsTold}
use Rattle.followed_links.specs.AtEnd.{IsToldAt, Seen, ToldAt, deeds_at, held_count, holding_at, known, known_holding, seen, total}
use Rattle.followed_links.specs.AtEnd as told_at_end
use Rattle.followed_links.specs.Changes.{AreLeft, Changes}
use Rattle.followed_links.specs.Ledgers.{Ledger, brought, carried, how_often}
use Rattle.followed_links.specs.Telling.{ChangesByStep, Telling, Turn}
use Rattle.followed_links.proofs.AtEnd.{deeds_both}
use Rattle.followed_links.proofs.Away.{told_away}
use Rattle.followed_links.proofs.ToldAt.{holding_known, told_at}
use Rattle.followed_links.specs.Acted.{process}
use Rattle.request_law.specs.Law.{ends_in}
use Rattle.followed_links.proofs.Changing.{onward}
use Rattle.followed_links.specs.Sides.{Courses, Destroyed, Flipped, Goes, Held, Lost, Pair, Rests, Side, Standing, flipped, is_destroyed, new_pair}
use Rattle.followed_links.specs.Hearing.{with_owner}
use Rattle.followed_links.specs.Invariant.{AreSpelled, HasReceive, IsAlive, IsOwned, IsOwner, IsReceived, IsSide, IsSideAt, IsStandingIn, Owners, Stands, has_of, told_to}
use Rattle.followed_links.specs.Owners.{Asks, Over, Owner, Pends, Runs, Status, Told, destroying, given_of, ledger_of, seen_of, turn_of}
use Rattle.followed_links.specs.Steps.{IsStepped, MayStep, after_step, owner_after}
use Rattle.followed_links.proofs.Afterwards.{IsLast, received, step_last}
use Rattle.followed_links.proofs.Heeding.{Heeded, IsHeard, heeds}
use Rattle.followed_links.proofs.Stepping.{changes, few_after, telling}
use Rattle.followed_links.proofs.Telling.{tellings_lead}
use Rattle.followed_links.proofs.Custody.{same-owner}
use Rattle.lost_ends.proofs.Counting.{ends-of-both, held-out, owner-alive, some-or-none, spelled-ends, told-to-few, undestroyed}
use Rattle.lost_ends.specs.Stopped.{AreFollowedSo, IsBy, IsFollowedSo, IsFound, IsHasty, IsSideSo, IsStopped, doomed_of, ends_of}
use Rattle.lost_ends.proofs.Hasty.{step-hasty}
use Rattle.lost_ends.proofs.AtEnds.{LeadsSo, On, StandsAt, Stops, goes-on}
use Rattle.lost_ends.proofs.Ledgers.{all-lead, broken-told, grows-told, keeps-not-gone}

-- ---- small things

has-receive : (t : Turn) (n : ℕ) (g : Holding) → IsHeard g → HasReceive t n g
has-receive t n (Keeps k) hears = inl hears
has-receive t n (Gone own) hears = absurd hears

not-given : (f : Next) → given_of (after_step f) ≡ None
not-given (next.Ask c) = refl
not-given next.Pause = refl
not-given next.Ended = refl

fewer : (n : ℕ) (g h : Holding) (a b : Seen) (st : Standing) → h ≡ g → b.out ≤ a.out → IsStandingIn n a g st → IsStandingIn n b h st
fewer n g h a b st same less stands = subst (λ (f : Holding). IsStandingIn n b f st) (sym same) (by g stands)
  where
    by : (f : Holding) → IsStandingIn n a f st → IsStandingIn n b f st
    by (Keeps k) is = is
    by (Gone own) is = (is.0, λ one. is.1 (omega (arith, one, less)))

-- who makes a step is in no call
may-none : (x : EndId) (st : Status) → MayStep st → destroying x st ≡ 0
may-none x Runs may = refl
may-none x (Told c a) may = refl
may-none x (Asks c) may = absurd may
may-none x (Pends c) may = absurd may
may-none x Over may = absurd may

-- the end that is destroyed with the step is in its call
left-more : (x : EndId) (f : Next) (l m : List EndId) → AreLeft f l m → how_often x l ≤ how_often x m + destroying x (after_step f)
left-more x next.Pause l m e = let same : how_often x l ≡ how_often x m = ap (how_often x) e in omega (arith, same)
left-more x next.Ended l m e = let same : how_often x l ≡ how_often x m = ap (how_often x) e in omega (arith, same)
left-more x (next.Ask (call.Destroy y)) l m e =
    let same : how_often x l ≡ (if end_eq y x then 1 else 0) + how_often x m = ap (how_often x) e in omega (arith, same)
left-more x (next.Ask call.Make) l m e = let same : how_often x l ≡ how_often x m = ap (how_often x) e in omega (arith, same)
left-more x (next.Ask (call.Send y bytes xs)) l m e = let same : how_often x l ≡ how_often x m = ap (how_often x) e in omega (arith, same)
left-more x (next.Ask (call.Receive y)) l m e = let same : how_often x l ≡ how_often x m = ap (how_often x) e in omega (arith, same)
left-more x (next.Ask (call.Cancel y w)) l m e = let same : how_often x l ≡ how_often x m = ap (how_often x) e in omega (arith, same)
left-more x (next.Ask call.Wait) l m e = let same : how_often x l ≡ how_often x m = ap (how_often x) e in omega (arith, same)
left-more x (next.Ask (call.Print bytes)) l m e = let same : how_often x l ≡ how_often x m = ap (how_often x) e in omega (arith, same)
left-more x (next.Ask call.Exit) l m e = let same : how_often x l ≡ how_often x m = ap (how_often x) e in omega (arith, same)

-- with what breaks there is no deed
broken-quiet : (version : ℕ) (t : Turn) (x : EndId) (n : ℕ) (g : Holding) (ds : List Deed) (h : Holding) → ToldAt version t x n g ds h → (k : Kept) (own : Bool) → g ≡ Keeps k → h ≡ Gone own → ds ≡ []
broken-quiet version t x n g ds h (told_at_end.Otherwise f un) k own was is = refl
broken-quiet version t x n g ds h (told_at_end.Answers l what so) k own was is = refl
broken-quiet version t x n g ds h (told_at_end.Hears l room bytes packet xs brings spelled readable) k own was is = absurd (keeps-not-gone h own ((hears version room packet xs (receive_over l)).0, refl) is)
broken-quiet version t x n g ds h (told_at_end.Ignores l bytes left xs brings e) k own was is = refl
broken-quiet version t x n g ds h (told_at_end.Breaks l o bytes xs brings) k own was is = refl
broken-quiet version t x n g ds h (told_at_end.Dies l death) k own was is = refl
broken-quiet version t x n g ds h (told_at_end.DiesWith l what death) k own was is = refl

pub flip-courses : (version : ℕ) (p q : Pair) → Courses version p q → Courses version (flipped p) (flipped q)
flip-courses version p q (Rests _) = Rests (flipped p)
flip-courses version p q (Goes _ r _ before event) = Goes (flipped p) (flipped r) (flipped q) (flip-courses version p r before) (Flipped (flipped r) (flipped q) event)

-- ---- the owners afterwards

module _ (i : ℕ) (o : Owner) (os : Owners) where
  abbrev changed : Owners
  changed = with_owner i o os

  changed-here : changed i ≡ o
  changed-here = ap (λ (b : Bool). if b then o else os i) (eq-eqb i i refl)

  changed-there : (j : ℕ) → nat_eq i j ≡ false → changed j ≡ os j
  changed-there j e = ap (λ (b : Bool). if b then o else os j) e

  pub each-so : (P : Owner → Type 0) → P o → ((j : ℕ) → P (os j)) → (j : ℕ) → P (changed j)
  each-so P here there j = by (nat_eq i j) refl
    where
      by : (b : Bool) → nat_eq i j ≡ b → P (changed j)
      by true e = subst (λ (k : ℕ). P (changed k)) (eqb-true i j e) (subst P (sym changed-here) here)
      by false e = subst P (sym (changed-there j e)) (there j)

  is-own : (at : Place) → (at ≡ place.Owned (process i)) ⊎ (at ≡ place.Owned (process i) → ⊥)
  is-own place.Destroyed = inr (λ e. let no : place.Destroyed ≡ place.Owned (process i) = e in cc)
  is-own place.Unmade = inr (λ e. let no : place.Unmade ≡ place.Owned (process i) = e in cc)
  is-own (place.InMessage f n) = inr (λ e. let no : place.InMessage f n ≡ place.Owned (process i) = e in cc)
  is-own (place.Owned q) = by (nat_eq i q.0) refl
    where
      by : (b : Bool) → nat_eq i q.0 ≡ b → (place.Owned q ≡ place.Owned (process i)) ⊎ (place.Owned q ≡ place.Owned (process i) → ⊥)
      by true e = inl (ap (λ (j : ℕ). place.Owned (process j)) (sym (eqb-true i q.0 e)))
      by false e = inr (λ same. let yes : nat_eq i q.0 ≡ true = eq-eqb i q.0 (sym (ap (λ (r : Pid). r.0) (same-owner q (process i) same))) in let no : true ≡ false = sym yes ∙ e in cc)

  not-its : (q : Pid) (x : EndId) (s : Service) → ((s.ends x).place ≡ place.Owned (process i) → ⊥) → (s.ends x).place ≡ place.Owned q → nat_eq i q.0 ≡ false
  not-its q x s away own = by (nat_eq i q.0) refl
    where
      by : (b : Bool) → nat_eq i q.0 ≡ b → b ≡ false
      by true e = absurd (away (own ∙ ap (λ (j : ℕ). place.Owned (process j)) (sym (eqb-true i q.0 e))))
      by false e = refl

  -- an end that this process does not own is as before
  other-side : (version : ℕ) (s : Service) (x : EndId) (side : Side) → ((s.ends x).place ≡ place.Owned (process i) → ⊥) → IsSideSo version s os x side → IsSideSo version s changed x side
  other-side version s x side away (inl (is, found)) = inl (by (s.ends x).place refl is, found)
    where
      by : (at : Place) → (s.ends x).place ≡ at → IsSideAt version s os x side at → IsSide version s changed x side
      by place.Destroyed e so = subst (IsSideAt version s changed x side) (sym e) so
      by place.Unmade e so = subst (IsSideAt version s changed x side) (sym e) so
      by (place.InMessage f n) e so = subst (IsSideAt version s changed x side) (sym e) so
      by (place.Owned q) e so =
          subst (IsSideAt version s changed x side) (sym e) (subst (λ (w : Owner). IsOwned version s w q.0 x side) (sym (changed-there q.0 (not-its q x s away e))) so)
  other-side version s x side away (inr stopped) =
      inr (record {
        owner = stopped.owner;
        own = stopped.own;
        doomed = subst (λ (w : Owner). 1 ≤ doomed_of x w) (sym (changed-there stopped.owner.0 (not-its stopped.owner x s away stopped.own))) stopped.doomed;
        kept = stopped.kept;
        standing = stopped.standing;
        there = stopped.there;
      })

-- ---- a step of a process

module _ (version count : ℕ) (s : Service) (entries : ℕ) (os : Owners) (deeds : EndId → List Deed) (is : Stands version count s entries os deeds) (small : entries ≤ 2 ^ 28)
    (i : ℕ) (below : i < count) (may : MayStep (os i).status) (told : IsTold (given_of (os i).status)) where
  abbrev o : Owner
  o = os i

  abbrev d : Did
  d = did o.state (given_of o.status)

  abbrev now : Owner
  now = owner_after d

  abbrev then_owners : Owners
  then_owners = with_owner i now os

  abbrev t : Turn
  t = turn_of o

  owner : IsOwner version s entries i o
  owner = is.owners.each i below

  -- ---- at an end that it owns, and that is of a link of which no end is destroyed

  module _ (x : EndId) (own : (s.ends x).place ≡ place.Owned (process i)) (far_lives : IsGone s (opposite x) → ⊥) where
    alive : IsAlive o
    alive = (owner-alive version count s entries os is.owners (process i) x own).1

    abbrev n : ℕ
    n = brings s (process i) x

    abbrev Busy : Type 0
    Busy = (s.ends x).inward ≡ inward.Idle → ⊥

    abbrev P : EndId → Type 0
    P y = IsBy s (process i) x y

    comes : (y : EndId) → 1 ≤ how_often y (ends_of (coming s x)) → P y
    comes y there = inr (inl there)

    abbrev LeadsTo : Pair → List Deed → Seen → Type 0
    LeadsTo p ds b = LeadsSo version n Busy (coming s x) P p ds b

    abbrev step : ChangesByStep o.state (given_of o.status) d
    step = changes version s is.owners.consistent is.owners.matched entries i o owner small alive may told

    abbrev middle : Ledger
    middle = step.told

    told-is : Telling version t (ledger_of o) step.told_deeds middle
    told-is = telling version s is.owners.consistent is.owners.matched entries i o owner small alive may told

    told-there : (y : EndId) → IsToldAt version t y (ledger_of o) step.told_deeds middle
    told-there y = told_at version t y (ledger_of o) step.told_deeds middle told-is owner.single

    less-there : (y : EndId) → total (seen y middle) ≤ total (seen_of o y)
    less-there y = (told-there y).all

    own-out : (y : EndId) → 1 ≤ total (seen_of o y) → P y
    own-out y there = inl ((owner.custody alive y).own (let e : total (seen_of o y) ≤ has_of o y + brings s (process i) y = omega arith in omega (arith, there, e)))

    in-one : (y : EndId) → total (seen_of o y) + brings s (process i) y ≤ 1
    in-one y = let one : has_of o y + brings s (process i) y ≤ 1 = (owner.custody alive y).one in omega (arith, one)

    -- it is told
    module _ (p : Pair) (uncut : p.far.standing ≡ Destroyed → ⊥) where
      abbrev ps : List process_run.Place
      ps = o.state.places

      known-is : (g : Holding) → holding_at x ps ≡ g → (seen_of o x).holding ≡ known_holding t (number_of x ps) g
      known-is g e = holding_known t x ps ∙ ap (known_holding t (number_of x ps)) e

      quiet : (flag : Bool) → holding_at x ps ≡ Gone flag → (deeds_at x step.told_deeds ≡ []) × ((seen x middle).holding ≡ Gone flag)
      quiet flag e = told_away version flag t x (number_of x ps) (holding_at x ps) (deeds_at x step.told_deeds) (seen x middle).holding (told-there x).told e

      at-rest : (flag : Bool) → holding_at x ps ≡ Gone flag → StandsAt version n Busy (coming s x) P (seen x middle) p → LeadsTo p (deeds_at x step.told_deeds) (seen x middle)
      at-rest flag e at =
          subst (λ (ds : List Deed). LeadsTo p ds (seen x middle)) (sym (quiet flag e).0)
          (record { to = p; course = Rests p; stands = at; far = refl; near_deeds = sym (append-nil p.near_deeds); far_deeds = refl })

      module _ (owned : IsOwned version s o i x p.near) (found : IsFound p.near) where
        spelled : AreSpelled version p.near.coming (told_to x (given_of o.status) ++ coming s x)
        spelled = ⊎_elim (λ so. so) (λ (lost : p.near.standing ≡ Lost). absurd (found lost)) owned.coming_is

        -- it is not held
        module _ (flag : Bool) (e : holding_at x ps ≡ Gone flag) where
          deaf : IsReceived s o x → ⊥
          deaf received_there =
              ⊎_elim (λ (has : HasReceive t (number_of x ps) (seen_of o x).holding). subst (HasReceive t (number_of x ps)) (known-is (Gone flag) e) has) (λ (lost : p.near.standing ≡ Lost). found lost)
              (owned.receive received_there)

          untold : told_to x (given_of o.status) ≡ []
          untold = by (told_to x (given_of o.status)) refl
            where
              by : (l : List ToldMessage) → told_to x (given_of o.status) ≡ l → l ≡ []
              by [] is_so = refl
              by (m ∷ l) is_so = absurd (deaf (inr (λ none. let no : m ∷ l ≡ [] = sym is_so ∙ none in cc)))

          gone-leads : LeadsTo p (deeds_at x step.told_deeds) (seen x middle)
          gone-leads =
              at-rest flag e
              (On
              (fewer n (seen_of o x).holding (seen x middle).holding (seen_of o x) (seen x middle) p.near.standing ((quiet flag e).1 ∙ sym (known-is (Gone flag) e)) (told-there x).out owned.standing)
              found (λ busy. absurd (deaf (inl busy))) (subst (λ (l : List ToldMessage). AreSpelled version p.near.coming (l ++ coming s x)) untold spelled))

        -- it is held
        module _ (k : Kept) (e : holding_at x ps ≡ Keeps k) where
          heeded : Heeded version s i o x p owner.asked owner.told own owned (λ gone. absurd (far_lives gone)) (deeds_at x step.told_deeds) (seen x middle)
          heeded =
              heeds version s i o x p owner.asked owner.told own owned (λ gone. absurd (far_lives gone)) tellings_lead (deeds_at x step.told_deeds) (seen x middle) (told-there x).told (told-there x).out (in-one x)
              (λ j at so. received version t x ps j at so (ledger_of o) step.told_deeds middle told-is refl)

          held-leads : (l : Kept) → (seen x middle).holding ≡ Keeps l → LeadsTo p (deeds_at x step.told_deeds) (seen x middle)
          held-leads l at =
              record {
                to = heeded.to;
                course = heeded.course;
                stands =
                    On heeded.standing still (λ busy. ⊎_elim (λ hears. hears) (λ (lost : heeded.to.near.standing ≡ Lost). absurd (still lost)) (heeded.receive busy))
                    (⊎_elim (λ so. so) (λ (lost : heeded.to.near.standing ≡ Lost). absurd (still lost)) heeded.coming_is);
                far = heeded.far;
                near_deeds = heeded.near_deeds;
                far_deeds = heeded.far_deeds;
              }
            where
              held : heeded.to.near.standing ≡ Held l
              held = subst (λ (g : Holding). IsStandingIn n (seen x middle) g heeded.to.near.standing) at heeded.standing

              still : IsFound heeded.to.near
              still lost = let no : Held l ≡ Lost = sym held ∙ lost in cc

          -- what comes can't be read
          broken-leads : (flag : Bool) → (seen x middle).holding ≡ Gone flag → LeadsTo p (deeds_at x step.told_deeds) (seen x middle)
          broken-leads flag at =
              subst (λ (ds : List Deed). LeadsTo p ds (seen x middle)) (sym (broken-quiet version t x (number_of x ps) (holding_at x ps) (deeds_at x step.told_deeds) (seen x middle).holding (told-there x).told k flag e at))
              (record { to = p; course = Rests p; stands = Stops kept held doomed there; far = refl; near_deeds = sym (append-nil p.near_deeds); far_deeds = refl })
            where
              kept : Kept
              kept = known t (number_of x ps) k

              held : p.near.standing ≡ Held kept
              held = subst (λ (g : Holding). IsStandingIn n (seen_of o x) g p.near.standing) (known-is (Keeps k) e) owned.standing

              doomed : 1 ≤ how_often x middle.doomed
              doomed = broken-told x version t (ledger_of o) step.told_deeds middle told-is k flag e at

              there : (y : EndId) → 1 ≤ how_often y (carried kept) + how_often y (ends_in p.near.coming) → P y
              there y some =
                  let out : how_often y (carried kept) ≤ (seen_of o y).out = held-out o x kept (known-is (Keeps k) e) y in
                  let all : how_often y (ends_in p.near.coming) ≡ how_often y (ends_of (told_to x (given_of o.status))) + how_often y (ends_of (coming s x)) =
                  ap (how_often y) (spelled-ends version p.near.coming (told_to x (given_of o.status) ++ coming s x) spelled) ∙ ends-of-both y (told_to x (given_of o.status)) (coming s x) in
                  let in_hand = told-to-few y x (given_of o.status) in
                  let brings_them : how_often y (brought (given_of o.status)) ≤ (seen_of o y).out = omega arith in
                  ⊎_elim (λ (one : 1 ≤ how_often y (ends_of (coming s x))). comes y one)
                  (λ (none : how_often y (ends_of (coming s x)) < 1). own-out y (let e : (seen_of o y).out ≤ total (seen_of o y) = omega arith in omega (arith, some, out, all, in_hand, brings_them, none, e)))
                  (some-or-none (how_often y (ends_of (coming s x))))

          kept-leads : (g : Holding) → (seen x middle).holding ≡ g → LeadsTo p (deeds_at x step.told_deeds) (seen x middle)
          kept-leads (Keeps l) at = held-leads l at
          kept-leads (Gone flag) at = broken-leads flag at

        found-leads : (g : Holding) → holding_at x ps ≡ g → LeadsTo p (deeds_at x step.told_deeds) (seen x middle)
        found-leads (Keeps k) e = kept-leads k e (seen x middle).holding refl
        found-leads (Gone flag) e = gone-leads flag e

      -- an end that is stopped
      module _ (stopped : IsStopped s os x p.near) where
        its : stopped.owner ≡ process i
        its = same-owner stopped.owner (process i) (sym stopped.own ∙ own)

        doomed : 1 ≤ how_often x o.state.doomed
        doomed =
            let all : 1 ≤ doomed_of x o = subst (λ (q : Pid). 1 ≤ doomed_of x (os q.0)) its stopped.doomed in
            let none : destroying x o.status ≡ 0 = may-none x o.status may in
            omega (arith, all, none)

        stopped-leads : (g : Holding) → holding_at x ps ≡ g → LeadsTo p (deeds_at x step.told_deeds) (seen x middle)
        stopped-leads (Keeps k) e =
            let one : held_count (seen_of o x).holding ≡ 1 = ap held_count (known-is (Keeps k) e) in
            let few = in-one x in
            let dooms = doomed in
            absurd (omega (arith, one, few, dooms))
        stopped-leads (Gone flag) e =
            at-rest flag e
            (Stops stopped.kept stopped.standing
            (let grows = grows-told x version t (ledger_of o) step.told_deeds middle told-is in let dooms = doomed in omega (arith, grows, dooms))
            (λ y some. subst (λ (q : Pid). IsBy s q x y) its (stopped.there y some)))

      told-leads : IsSideSo version s os x p.near → LeadsTo p (deeds_at x step.told_deeds) (seen x middle)
      told-leads (inl (side, found)) =
          found-leads (subst (λ (at : Place). IsSideAt version s os x p.near at) own side) found (holding_at x ps) refl
      told-leads (inr stopped) = stopped-leads stopped (holding_at x ps) refl

      -- and goes on
      few-last : length step.last.places < 4294967295
      few-last =
          let same : length step.last.places ≡ length d.state.places = ap length step.places in
          let few : length d.state.places ≤ 8192 + 8 * entries = few_after version s is.owners.consistent is.owners.matched entries i o owner small alive may told in
          omega (arith, same, few, small)

      last-leads : IsSideSo version s os x p.near → LeadsTo p (deeds_at x d.deeds) (seen x step.last)
      last-leads side =
          let first = told-leads side in
          let rest : LeadsTo first.to (deeds_at x step.deeds) (seen x step.last) =
          all-lead x version n Busy (coming s x) P comes middle step.deeds step.last (subst (λ (v : ℕ). Changes v middle step.deeds step.last) owner.version_is step.changes) (told-there x).single
          (λ y. let less = less-there y in let one = in-one y in omega (arith, less, one)) (let less = less-there x in let one = in-one x in omega (arith, less, one)) few-last
          (λ y some. own-out y (let less = less-there y in omega (arith, less, some))) first.to (λ gone. uncut (sym (ap (λ (z : Side). z.standing) first.far) ∙ gone)) first.stands in
          subst (λ (all : List Deed). LeadsTo p all (seen x step.last)) (sym (ap (λ (ds : List DeedOn). deeds_at x ds) step.all ∙ deeds_both x step.told_deeds step.deeds))
          (goes-on version n Busy (coming s x) P p (deeds_at x step.told_deeds) (deeds_at x step.deeds) (seen x middle) (seen x step.last) first rest)

      -- how it stands then
      at-last : IsLast x (destroying x now.status) step.last (seen_of now x)
      at-last = step_last x o.state (given_of o.status) d step

      side-then : (q : Pair) → StandsAt version n Busy (coming s x) P (seen x step.last) q → IsSideSo version s then_owners x q.near
      side-then q (On standing found hears spells) = inl (subst (λ (at : Place). IsSideAt version s then_owners x q.near at) (sym own) (subst (λ (w : Owner). IsOwned version s w i x q.near) (sym (changed-here i now os)) owned), found)
        where
          owned : IsOwned version s now i x q.near
          owned = record {
            standing = fewer n (seen x step.last).holding (seen_of now x).holding (seen x step.last) (seen_of now x) q.near.standing at-last.holding at-last.out standing;
            receive =
                λ is_received.
                ⊎_elim
                (λ (busy : Busy). inl (subst (HasReceive (turn_of now) (number_of x now.state.places)) (sym at-last.holding) (has-receive (turn_of now) (number_of x now.state.places) (seen x step.last).holding (hears busy))))
                (λ (some : told_to x (given_of now.status) ≡ [] → ⊥). absurd (some (ap (told_to x) (not-given d.next)))) is_received;
            coming_is = inl (subst (λ (l : List ToldMessage). AreSpelled version q.near.coming (l ++ coming s x)) (sym (ap (told_to x) (not-given d.next))) spells);
          }
      side-then q (Stops k held dooms there) = inr (record {
        owner = process i;
        own = own;
        doomed = subst (λ (w : Owner). 1 ≤ doomed_of x w) (sym (changed-here i now os)) (let more = left-more x d.next step.last.doomed d.state.doomed step.left in omega (arith, more, dooms));
        kept = k;
        standing = held;
        there = there;
      })

  -- ---- at each end

  record EndDone (x : EndId) (p : Pair) : Type 0 where
    pub to : Pair
    pub course : Courses version p to
    pub near : IsSideSo version s then_owners x to.near
    pub far : to.far ≡ p.far
    pub near_deeds : to.near_deeds ≡ p.near_deeds ++ deeds_at x d.deeds
    pub far_deeds : to.far_deeds ≡ p.far_deeds

  module _ (after : IsStepped version count s entries os deeds i d) where
    one-end : (x : EndId) (p : Pair) → IsSideSo version s os x p.near → (IsGone s (opposite x) → ⊥) → (p.far.standing ≡ Destroyed → ⊥) → EndDone x p
    one-end x p side far_lives uncut = ⊎_elim here away (is-own i now os (s.ends x).place)
      where
        here : (s.ends x).place ≡ place.Owned (process i) → EndDone x p
        here own =
            let led = last-leads x own far_lives p uncut side in
            record { to = led.to; course = led.course; near = side-then x own far_lives p uncut led.to led.stands; far = led.far; near_deeds = led.near_deeds; far_deeds = led.far_deeds }

        away : ((s.ends x).place ≡ place.Owned (process i) → ⊥) → EndDone x p
        away other =
            record {
              to = p;
              course = Rests p;
              near = other-side i now os version s x p.near other side;
              far = refl;
              near_deeds = sym (ap (λ (l : List Deed). p.near_deeds ++ l) (after.elsewhere x other) ∙ append-nil p.near_deeds);
              far_deeds = refl;
            }

    -- an end that is not destroyed stands so
    uncut-so : (qs : Owners) (all : EndId → List Deed) → Stands version count s entries qs all → (x : EndId) (side : Side) → IsSideSo version s qs x side → (IsGone s x → ⊥) → side.standing ≡ Destroyed → ⊥
    uncut-so qs all stands x side (inl found) lives gone = let no : true ≡ false = sym (ap is_destroyed gone) ∙ undestroyed version s qs x side found.0 lives in cc
    uncut-so qs all stands x side (inr stopped) lives gone = let no : Held stopped.kept ≡ Destroyed = sym stopped.standing ∙ gone in cc

    abbrev deeds_now : EndId → List Deed
    deeds_now x = deeds x ++ deeds_at x d.deeds

    module _ (so : AreFollowedSo version s os deeds) where
      module _ (x : EndId) (lives : IsGone s x → ⊥) (far_lives : IsGone s (opposite x) → ⊥) where
        f : IsFollowedSo version s os deeds x
        f = so.links x lives far_lives

        first : EndDone x f.pair
        first = one-end x f.pair f.near far_lives (uncut-so os deeds is (opposite x) f.pair.far f.far far_lives)

        second : EndDone (opposite x) (flipped first.to)
        second =
            one-end (opposite x) (flipped first.to) (subst (λ (side : Side). IsSideSo version s os (opposite x) side) (sym first.far) f.far)
            (λ gone. lives (subst (λ (y : EndId). IsGone s y) (opposite-opposite x) gone)) (uncut-so then_owners deeds_now after.stands x first.to.near first.near lives)

        link-now : IsFollowedSo version s then_owners deeds_now x
        link-now =
            record {
              pair = flipped second.to;
              course =
                  onward version new_pair first.to (flipped second.to) (onward version new_pair f.pair first.to f.course first.course) (flip-courses version (flipped first.to) second.to second.course);
              near = subst (λ (side : Side). IsSideSo version s then_owners x side) (sym second.far) first.near;
              far = second.near;
              near_deeds = second.far_deeds ∙ first.near_deeds ∙ ap (λ (l : List Deed). l ++ deeds_at x d.deeds) f.near_deeds;
              far_deeds = second.near_deeds ∙ ap (λ (l : List Deed). l ++ deeds_at (opposite x) d.deeds) (first.far_deeds ∙ f.far_deeds);
            }

      pub step-so : AreFollowedSo version s then_owners deeds_now
      step-so = record {
        hasty = each-so i now os IsHasty (step-hasty o (so.hasty i) owner.asked) so.hasty;
        links = link-now;
      }
