-- Along the entries of a run each link stays so.
use Rattle.std.proofs.Common.{arith, ◌≡◌, ⊎_elim, ℕ, suc, ◌^◌, ◌≤◌, ◌<◌, Bool, true, false, if◌then◌else◌, List, [], ◌∷◌, ◌++◌, length, Option, Some, None, inl, refl, sym, ap, subst, ◌∙◌, eq-eqb}
use Rattle.std.specs.List.{AllByRecursion}
use Rattle.charlotte_calls.specs.Names.{opposite}
use Rattle.charlotte_calls.specs.Ranges.{AreBytes}
use Rattle.charlotte_calls.specs.declared.calls.Answer.{Answer}
use Rattle.charlotte_calls.specs.declared.calls.Call.{Call}
use Rattle.charlotte_calls.specs.declared.calls.Call.TheVariants as call
use Rattle.charlotte_calls.specs.declared.calls.ServiceStep.{ServiceStep}
use Rattle.charlotte_calls.specs.declared.names.EndId.{EndId}
use Rattle.charlotte_calls.specs.declared.names.Pid.{Pid}
use Rattle.charlotte_calls.specs.declared.program.Next.{Next}
use Rattle.charlotte_calls.specs.declared.setting.Setting.{Setting}
use Rattle.kernel_entries.specs.Ranges.{IsPlacedInRange}
use Rattle.kernel_entries.specs.declared.entry.Placed.{Placed}
use Rattle.service_step.specs.Run.{IsRunFrom, start_state, state_after}
use Rattle.service_step.specs.State.{State as Service}
use Rattle.service_step.specs.Steps.{IsServiceStep}
use Rattle.service_streams.specs.Streams.{steps_in}
use Rattle.followed_links.specs.Told.{call_of, own_told}
use Rattle.followed_links.specs.Replay.{IsGiven}
use Rattle.followed_links.specs.Entries.{IsEntry, IsUncalled}
use Rattle.end_protocol.specs.Deeds.{Deed}
use Rattle.process_run.specs.Runs.{did}
use Rattle.followed_links.specs.AtEnd.{deeds_at}
use Rattle.followed_links.specs.Acting.{Done, Fleet, IsAsking, IsPausing, Program, at_start, hears_entry, paused, with_acting}
use Rattle.followed_links.specs.Acted.{home_of}
use Rattle.followed_links.proofs.Fleets.{asked_by}
use Rattle.followed_links.specs.Hearing.{all_hear, all_hear_steps, owner_told, owners, with_owner}
use Rattle.followed_links.specs.Invariant.{Owners, Stands}
use Rattle.followed_links.specs.Owners.{Asks, Owner, owner_of}
use Rattle.followed_links.specs.Steps.{HasBytes, HasRoom, after_step, owner_after}
use Rattle.followed_links.proofs.Calling.{Begins, IsPrint, room-of, steps-begin}
use Rattle.followed_links.proofs.Entries.{StepsKeep, more-entries}
use Rattle.followed_links.proofs.Following.{IsFollowing, ProcessesKeep, ServiceMoves, asked, begun-room, begun-then, bytes, mine, of-entry, paused-owners, printed-then, taken-then, taken-uncalled}
use Rattle.followed_links.proofs.Starting.{HasSide, both-course, has-side, pair_of, side_of}
use Rattle.followed_links.proofs.Told.{given-is}
use Rattle.lost_ends.specs.Stopped.{AreFollowedSo, IsFound}
use Rattle.lost_ends.proofs.CallSteps.{first-so}
use Rattle.lost_ends.proofs.ProcessSteps.{step-so}
use Rattle.lost_ends.proofs.ServiceSteps.{print-so, uncalled-so}

-- ---- the start

start-found : (b : Bool) → IsFound (side_of b)
start-found true lost = cc
start-found false lost = cc

pub start-so : (g : Setting) (programs : ℕ → Program) → AreFollowedSo g.version (start_state g) (owners (at_start g.version programs)) (λ x. [])
start-so g programs = record {
  hasty = λ i. inl refl;
  links = λ x lives far_lives.
      let near : HasSide g programs x = has-side g programs x in
      let far : HasSide g programs (opposite x) = has-side g programs (opposite x) in
      record {
        pair = pair_of near.0 far.0;
        course = both-course g.version near.0 far.0;
        near = inl (near.1, start-found near.0);
        far = inl (far.1, start-found far.0);
        near_deeds = refl;
        far_deeds = refl;
      };
}

-- ---- steps of the service

-- steps that are no process's call
uncalled-along : (version count : ℕ) (services : StepsKeep version count) (part : List (ServiceStep × Service)) (s : Service) (n : ℕ) (os : Owners) (deeds : EndId → List Deed) → Stands version count s (suc n) os deeds
    → HasRoom count n os → IsRunFrom s part → AllByRecursion IsUncalled (steps_in part) → AreFollowedSo version s os deeds → AreFollowedSo version (state_after s part) (all_hear_steps (steps_in part) os) deeds
uncalled-along version count services [] s n os deeds is room run un so = so
uncalled-along version count services (made ∷ part) s n os deeds is room run un so =
    let after : Stands version count made.1 (suc n) (all_hear made.0 os) deeds = services.uncalled s made.0 made.1 n os deeds is room run.0 un.0 in
    uncalled-along version count services part made.1 n (all_hear made.0 os) deeds after room run.1 un.1
    (uncalled-so version count s made.0 made.1 run.0 un.0 (suc n) (suc n) os deeds is after so)

bytes-of : (c : Call) → HasBytes c → (e : EndId) (bytes : List ℕ) (xs : List EndId) → c ≡ call.Send e bytes xs → AreBytes bytes
bytes-of c has e text xs is = subst HasBytes is has

module _ (g : Setting) (version count : ℕ) (counted : length g.homes ≡ count) (services : StepsKeep version count) (processes : ProcessesKeep version count) (moving : ServiceMoves) where
  -- ---- a step of a process

  module _ (s : Service) (n : ℕ) (f : Fleet) (past : List Done) (is : IsFollowing version count s n f past) (so : AreFollowedSo version s (owners f) is.deeds) (few : n ≤ 2 ^ 28) (p : Pid) (below : p.0 < count) (given : Option Answer) where
    stepped-so : IsGiven (f p.0).replayed.last (f p.0).replayed.heard given
        → AreFollowedSo version s (with_owner p.0 (owner_after (did (f p.0).replayed.state given)) (owners f)) (λ x. is.deeds x ++ deeds_at x (did (f p.0).replayed.state given).deeds)
    stepped-so is_given =
        let may = given-is (f p.0).replayed.last (f p.0).replayed.heard given is_given in
        subst (λ (o : Option Answer). AreFollowedSo version s (with_owner p.0 (owner_after (did (f p.0).replayed.state o)) (owners f)) (λ x. is.deeds x ++ deeds_at x (did (f p.0).replayed.state o).deeds)) (sym may.1)
        (step-so version count s n (owners f) is.deeds is.stands few p.0 below may.0 (is.told p.0) (processes.steps s n (owners f) is.deeds p.0 is.stands few below may.0 (is.told p.0)) so)

    pub paused-so : IsPausing (f p.0) given → AreFollowedSo version s (owners (with_acting p (paused given (f p.0)) f)) (λ x. is.deeds x ++ deeds_at x (did (f p.0).replayed.state given).deeds)
    paused-so pausing =
        subst (λ (os : Owners). AreFollowedSo version s os (λ x. is.deeds x ++ deeds_at x (did (f p.0).replayed.state given).deeds))
        (paused-owners g version count counted services processes moving s n f past is few p below given pausing) (stepped-so pausing.is_given)

  -- ---- an entry

  module _ (s : Service) (n : ℕ) (f : Fleet) (past : List Done) (is : IsFollowing version count s n f past) (so : AreFollowedSo version s (owners f) is.deeds) (e : Placed) (part : List (ServiceStep × Service))
      (entry : IsEntry g s e part) (range : IsPlacedInRange e) where
    abbrev t : Service
    t = state_after s part

    pub taken-so : ((p : Pid) → call_of p e.entry.what ≡ None) → AreFollowedSo version t (owners (hears_entry (home_of g) e f)) is.deeds
    taken-so none =
        let un : AllByRecursion IsUncalled e.entry.steps = taken-uncalled g version count counted services processes moving s n f past is e part entry range e.entry.what refl none in
        subst (λ (os : Owners). AreFollowedSo version t os is.deeds) (taken-then g version count counted services processes moving s n f past is e part entry range none)
        (uncalled-along version count services part s n (owners f) is.deeds (more-entries version count n s (owners f) is.deeds is.stands) (room-of version count n s (owners f) is.deeds is.stands) entry.run
        (subst (λ (l : List ServiceStep). AllByRecursion IsUncalled l) (sym entry.steps) un) so)

    module _ (few : n ≤ 2 ^ 28) (p : Pid) (below : p.0 < count) (given : Option Answer) (c : Call) (own : e.kernel ≡ home_of g p.0) (is_call : call_of p e.entry.what ≡ Some c) (asking : IsAsking (f p.0) given c) where
      abbrev asker : Owner
      asker = record { state = (did (f p.0).replayed.state given).state; status = Asks c }

      abbrev os : Owners
      os = with_owner p.0 asker (owners f)

      abbrev deeds_now : EndId → List Deed
      deeds_now x = is.deeds x ++ deeds_at x (did (f p.0).replayed.state given).deeds

      -- just before the call
      pub asked-so : AreFollowedSo version s os deeds_now
      asked-so =
          subst (λ (m : Next). AreFollowedSo version s (with_owner p.0 (record { state = (did (f p.0).replayed.state given).state; status = after_step m }) (owners f)) deeds_now) asking.asks
          (stepped-so s n f past is so few p below given asking.is_given)

      asked-stands : Stands version count s n os deeds_now
      asked-stands = asked g version count counted services processes moving s n f past is e part entry range few p given c own is_call asking

      asked-more : Stands version count s (suc n) os deeds_now
      asked-more = more-entries version count n s os deeds_now asked-stands

      asks : (os p.0).status ≡ Asks c
      asks = ap (λ (b : Bool). (if b then asker else owner_of (f p.0)).status) (eq-eqb p.0 p.0 refl)

      abbrev later : Owners
      later = owners (hears_entry (home_of g) e (asked_by p given f))

      nothing-left : (l : List (ServiceStep × Service)) → steps_in l ≡ [] → state_after s l ≡ s
      nothing-left [] none = refl
      nothing-left (x ∷ l) none = let no : x.0 ∷ steps_in l ≡ [] = none in absurd cc

      printed-so : IsPrint c e.entry.steps → AreFollowedSo version t later deeds_now
      printed-so print =
          subst (λ (u : Service). AreFollowedSo version u later deeds_now) (sym (nothing-left part (entry.steps ∙ print.2)))
          (subst (λ (rs : Owners). AreFollowedSo version s rs deeds_now) (printed-then g version count counted services processes moving s n f past is e part entry range few p given c own is_call asking print.0 print.1 print.2)
          (print-so version count s n os deeds_now asked-stands asked-so p.0 below print.0 (asks ∙ ap Asks print.1)))

      begun-so : Begins p.0 c e.entry.steps → AreFollowedSo version t later deeds_now
      begun-so b =
          subst (λ (rs : Owners). AreFollowedSo version t rs deeds_now) (begun-then g version count counted services processes moving s n f past is e part entry range few p given c own is_call asking b) (by-part part refl)
        where
          firsts : Owners
          firsts = with_owner p.0 (owner_told c (own_told p c (b.made ∷ [])) (os p.0)) os

          room : HasRoom count n os
          room = room-of version count n s os deeds_now asked-stands

          by-part : (l : List (ServiceStep × Service)) → part ≡ l → AreFollowedSo version t (all_hear_steps b.more firsts) deeds_now
          by-part [] empty = let no : [] ≡ b.made ∷ b.more = sym (ap steps_in empty) ∙ entry.steps ∙ b.is in absurd cc
          by-part (x ∷ l) full =
              let both : x.0 ∷ steps_in l ≡ b.made ∷ b.more = sym (ap steps_in full) ∙ entry.steps ∙ b.is in
              let head : x.0 ≡ b.made = cc in
              let tail : steps_in l ≡ b.more = cc in
              let run : IsServiceStep s x.0 x.1 × IsRunFrom x.1 l = subst (IsRunFrom s) full entry.run in
              let one : IsServiceStep s b.made x.1 = subst (λ (m : ServiceStep). IsServiceStep s m x.1) head run.0 in
              let its_bytes : HasBytes c = bytes g version count counted services processes moving s n f past is e part entry range few p given c own is_call asking in
              let its = mine g version count counted services processes moving s n f past is e part entry range few p given c own is_call asking in
              let first : Stands version count x.1 (suc n) firsts deeds_now = services.first s b.made x.1 n p.0 c os deeds_now below asks asked-more room one b.first its its_bytes in
              let first_so : AreFollowedSo version x.1 firsts deeds_now =
              first-so version count s b.made x.1 one (suc n) (suc n) os deeds_now asked-more (λ i there. let few_there = room i there in omega (arith, few_there)) asked-so p.0 below c asks its (bytes-of c its_bytes) first b.first in
              let all : AreFollowedSo version (state_after x.1 l) (all_hear_steps (steps_in l) firsts) deeds_now =
              uncalled-along version count services l x.1 n firsts deeds_now first (begun-room g version count counted services processes moving s n f past is e part entry range few p given c own is_call asking b) run.1
              (subst (λ (m : List ServiceStep). AllByRecursion IsUncalled m) (sym tail) b.uncalled) first_so in
              subst (λ (u : Service). AreFollowedSo version u (all_hear_steps b.more firsts) deeds_now) (sym (ap (state_after s) full))
              (subst (λ (m : List ServiceStep). AreFollowedSo version (state_after x.1 l) (all_hear_steps m firsts) deeds_now) tail all)

      pub called-so : AreFollowedSo version t later deeds_now
      called-so = ⊎_elim printed-so begun-so (steps-begin p.0 c e.entry.steps (of-entry g version count counted services processes moving s n f past is e part entry range few p given c own is_call asking).2)
