-- Along a replay of all processes the ends that deeds get arrive; and how it stands after each number of entries.
use Rattle.std.proofs.Common.{arith, ◌≡◌, ◌⊎◌, inl, inr, ⊎_elim, ℕ, zero, suc, ◌+◌, ◌^◌, ◌≤◌, ◌<◌, nat_eq, leb, Bool, true, false, if◌then◌else◌, List, [], ◌∷◌, ◌++◌, length, map, All, Option, Some, None, refl, sym, ap, subst, ◌∙◌, eq-eqb, eqb-true, append-nil, append_assoc}
use Rattle.std.proofs.lemmas.Bool.Decides.{leb_tells}
use Rattle.std.proofs.lemmas.List.Elements.{All-head, All-tail}
use Rattle.std.specs.List.{AllByRecursion, range_with_len}
use Rattle.charlotte_calls.specs.declared.calls.Answer.{Answer}
use Rattle.charlotte_calls.specs.declared.calls.Call.{Call}
use Rattle.charlotte_calls.specs.declared.calls.ServiceStep.{ServiceStep}
use Rattle.charlotte_calls.specs.declared.names.EndId.{EndId}
use Rattle.charlotte_calls.specs.declared.names.Pid.{Pid}
use Rattle.charlotte_calls.specs.declared.setting.Setting.{Setting}
use Rattle.kernel_entries.specs.Ranges.{IsPlacedInRange}
use Rattle.kernel_entries.specs.declared.entry.Placed.{Placed}
use Rattle.service_step.specs.Run.{IsRunFrom, state_after}
use Rattle.service_step.specs.State.{State as Service}
use Rattle.service_step.specs.Steps.{IsServiceStep}
use Rattle.service_streams.specs.Streams.{steps_in}
use Rattle.service_step.specs.declared.state.Place.TheVariants as place
use Rattle.lost_ends.specs.Told.{call_of, own_told}
use Rattle.lost_ends.specs.Replay.{IsGiven}
use Rattle.lost_ends.specs.Entries.{AreEntries, IsEntry, IsUncalled}
use Rattle.end_protocol.specs.Deeds.{Deed}
use Rattle.lost_ends.specs.States.{DeedOn}
use Rattle.lost_ends.specs.Runs.{did}
use Rattle.lost_ends.specs.AtEnd.{deeds_at}
use Rattle.lost_ends.proofs.Every.{every_append, every_weaker}
use Rattle.lost_ends.specs.Acting.{Acting, Acts, Calls, Done, Fleet, IsAsking, IsPausing, Pauses, Rests, Takes, at_end, deeds_before, done_by, hears_entry, paused, with_acting}
use Rattle.lost_ends.specs.Claims.{AreWith, IsWith, States, gets}
use Rattle.lost_ends.specs.Acted.{home_of, process}
use Rattle.lost_ends.proofs.Fleets.{asked_by, set-self}
use Rattle.lost_ends.specs.Hearing.{owner_told, owners, with_owner}
use Rattle.lost_ends.specs.Invariant.{Owners, Stands}
use Rattle.lost_ends.specs.Owners.{Asks, owner_of}
use Rattle.lost_ends.specs.Stopped.{AreFollowedSo}
use Rattle.carried_ends.proofs.Arrived.{AreGot, IsOwnOf, got-step, got-uncalled, step-got}
use Rattle.lost_ends.proofs.Along.{asked-so, called-so, paused-so, taken-so}
use Rattle.carried_ends.proofs.UnderWayIssuers.{AreIssued, issued-before, issued-on, issued-step, issued-uncalled, left-closed}
use Rattle.lost_ends.proofs.Calling.{Begins, IsPrint, below-or-above, room-of, steps-begin}
use Rattle.lost_ends.proofs.FollowedLinksEntries.{StepsKeep, more-entries}
use Rattle.lost_ends.proofs.Following.{IsFollowing, ProcessesKeep, ServiceMoves, calls-deeds, calls-follow, cancels-none, call-step, asked, below, bytes, mine, of-entry, own-first, pauses-deeds, pauses-follow, quiet, since-later, since-same, since_of, steps-grow, taken-uncalled, takes-deeds, takes-follow, woven-first}
use Rattle.lost_ends.proofs.Told.{given-is}
use Rattle.lost_ends.proofs.Weaving.{AreWoven, flushing, weaves-call}

-- so it stands after so many entries, with these deeds of the run
pub record IsSnap (version count : ℕ) (s : Service) (n : ℕ) (past : List Done) : Type 0 where
  pub os : Owners
  pub deeds : EndId → List Deed
  pub since : ℕ → List DeedOn
  pub stands : Stands version count s n os deeds
  pub woven : AreWoven s since past deeds
  pub got : (i : ℕ) → AreGot s i (since i)
  pub issued : AreIssued s past deeds
  pub so : AreFollowedSo version s os deeds

-- of these deeds the first have so many entries before them at most, and with these it stands so
pub record IsSeenAt (version count : ℕ) (states : States) (all : List Done) (n : ℕ) : Type 0 where
  pub past : List Done
  pub behind : List Done
  pub is : all ≡ past ++ behind
  pub early : AllByRecursion (λ d. d.after ≤ n) past
  pub late : AllByRecursion (λ d. n < d.after) behind
  pub snap : IsSnap version count (states n) n past

-- the service is so after the entries that are left
abbrev pub AreStates : States → ℕ → Service → List (List (ServiceStep × Service)) → Type 0
AreStates states n s [] = states n ≡ s
AreStates states n s (part ∷ parts) = (states n ≡ s) × AreStates states (suc n) (state_after s part) parts

first-state : (states : States) (n : ℕ) (s : Service) (parts : List (List (ServiceStep × Service))) → AreStates states n s parts → states n ≡ s
first-state states n s [] is = is
first-state states n s (part ∷ parts) is = is.0

-- ---- deeds with their places

abbrev done : Pid → ℕ → DeedOn → Done
done p n d = record { by = p; on = d.on; deed = d.deed; after = n }

done-all : (P : Done → Type 0) (p : Pid) (n : ℕ) (l : List DeedOn) → ((d : DeedOn) → P (done p n d)) → AllByRecursion P (done_by p n l)
done-all P p n [] each = tt
done-all P p n (d ∷ l) each = (each d, done-all P p n l each)

ends-all : (P : Done → Type 0) (n : ℕ) (f : Fleet) (ps : List Pid) → ((p : Pid) (d : DeedOn) → P (done p n d)) → AllByRecursion P (at_end n f ps)
ends-all P n f [] each = tt
ends-all P n f (p ∷ ps) each = every_append P (done_by p n (f p.0).since) (at_end n f ps) (done-all P p n (f p.0).since (each p)) (ends-all P n f ps each)

done-with : (states : States) (n i : ℕ) (s : Service) → states n ≡ s → (l : List DeedOn) → AreGot s i l → AllByRecursion (AreWith states) (done_by (process i) n l)
done-with states n i s at [] got = tt
done-with states n i s at (d ∷ l) got = (
  every_weaker (IsOwnOf s i) (λ (x : EndId). IsWith (states n) (process i) x) (λ x own living. subst (λ (u : Service). (u.ends x).place ≡ place.Owned (process i)) (sym at) own) (gets d.deed) got.0,
  done-with states n i s at l got.1,
)

ends-with : (states : States) (n : ℕ) (s : Service) (f : Fleet) → states n ≡ s → (is : List ℕ) → ((i : ℕ) → AreGot s i (since_of f i)) → AllByRecursion (AreWith states) (at_end n f (map process is))
ends-with states n s f at [] got = tt
ends-with states n s f at (i ∷ is) got =
    every_append (AreWith states) (done_by (process i) n (f i).since) (at_end n f (map process is)) (done-with states n i s at (f i).since (got i)) (ends-with states n s f at is got)

acts-after : {home : ℕ → ℕ} {n : ℕ} {f g : Fleet} {es : List Placed} {ds : List Done} → Acts home n f es ds g → AllByRecursion (λ (d : Done). n ≤ d.after) ds
acts-after (Rests n f) = tt
acts-after (Pauses n f p given es ds g pausing acts) = acts-after acts
acts-after (Calls n f p given c e es ds g own call asking acts) =
    every_append (λ (d : Done). n ≤ d.after) (done_by p n (deeds_before given (f p.0))) ds (done-all (λ (d : Done). n ≤ d.after) p n (deeds_before given (f p.0)) (λ d. omega arith))
    (every_weaker (λ (d : Done). n + 1 ≤ d.after) (λ (d : Done). n ≤ d.after) (λ d more. omega (arith, more)) ds (acts-after acts))
acts-after (Takes n f e es ds g none acts) = every_weaker (λ (d : Done). n + 1 ≤ d.after) (λ (d : Done). n ≤ d.after) (λ d more. omega (arith, more)) _ (acts-after acts)

-- ---- all that is done stands at the end

flushed-got : (s : Service) (i : ℕ) (since : ℕ → List DeedOn) → ((j : ℕ) → AreGot s j (since j)) → (j : ℕ) → AreGot s j (flushing i since j)
flushed-got s i since got j = by (nat_eq i j)
  where
    by : (b : Bool) → AreGot s j (if b then [] else since j)
    by true = tt
    by false = got j

module _ (version count : ℕ) (s : Service) (n : ℕ) where
  flush-one : (past : List Done) → (snap : IsSnap version count s n past) → (i : ℕ) → IsSnap version count s n (past ++ done_by (process i) n (snap.since i))
  flush-one past snap i = record {
    os = snap.os;
    deeds = snap.deeds;
    since = flushing i snap.since;
    stands = snap.stands;
    woven =
        subst (λ (l : List DeedOn). AreWoven s (flushing i snap.since) (past ++ done_by (process i) n l) snap.deeds) (append-nil (snap.since i))
        (subst (λ (all : EndId → List Deed). AreWoven s (flushing i snap.since) (past ++ done_by (process i) n (snap.since i ++ [])) all) (λ j x. append-nil (snap.deeds x) j)
        (weaves-call s snap.since past snap.deeds snap.woven i [] (λ x away. refl) n));
    got = flushed-got s i snap.since snap.got;
    issued =
        subst (λ (l : List DeedOn). AreIssued s (past ++ done_by (process i) n l) snap.deeds) (append-nil (snap.since i))
        (subst (λ (all : EndId → List Deed). AreIssued s (past ++ done_by (process i) n (snap.since i ++ [])) all) (λ j x. append-nil (snap.deeds x) j)
        (issued-before s snap.since past snap.deeds snap.woven i [] (λ x away. refl) n snap.issued));
    so = snap.so;
  }

  ends-snap : (f : Fleet) (m a : ℕ) (past : List Done) (snap : IsSnap version count s n past) → ((i : ℕ) → a ≤ i → snap.since i ≡ since_of f i) → IsSnap version count s n (past ++ at_end n f (map process (range_with_len a m)))
  unfolding flush-one
  ends-snap f zero a past snap same = subst (λ (l : List Done). IsSnap version count s n l) (sym (append-nil past)) snap
  ends-snap f (suc m) a past snap same =
      subst (λ (l : List Done). IsSnap version count s n l) (append_assoc past (done_by (process a) n (f a).since) (at_end n f (map process (range_with_len (a + 1) m))))
      (subst (λ (l : List DeedOn). IsSnap version count s n ((past ++ done_by (process a) n l) ++ at_end n f (map process (range_with_len (a + 1) m)))) (same a (omega arith))
      (ends-snap f m (a + 1) (past ++ done_by (process a) n (snap.since a)) (flush-one past snap a) (λ i above. other i above (nat_eq a i) refl)))
    where
      other : (i : ℕ) → a + 1 ≤ i → (b : Bool) → nat_eq a i ≡ b → (if b then [] else snap.since i) ≡ since_of f i
      other i above true e = let is = eqb-true a i e in absurd (omega (arith, is, above))
      other i above false e = same i (omega (arith, above))

-- ---- along the entries

pub record IsArriving (version count : ℕ) (states : States) (s : Service) (n : ℕ) (f : Fleet) (past : List Done) : Type 0 where
  pub following : IsFollowing version count s n f past
  pub got : (i : ℕ) → AreGot s i (since_of f i)
  pub issued : AreIssued s past following.deeds
  pub so : AreFollowedSo version s (owners f) following.deeds
  pub early : AllByRecursion (λ d. d.after ≤ n) past
  pub arrived : AllByRecursion (AreWith states) past

pub record Arrives (version count : ℕ) (states : States) (from to : ℕ) (all : List Done) : Type 0 where
  pub arrived : AllByRecursion (AreWith states) all
  pub seen : (k : ℕ) → from ≤ k → k ≤ to → IsSeenAt version count states all k

module _ (g : Setting) (version count : ℕ) (counted : length g.homes ≡ count) (services : StepsKeep version count) (processes : ProcessesKeep version count) (moving : ServiceMoves) (states : States) where
  -- what its step gets
  stepped-got : (s : Service) (n : ℕ) (f : Fleet) (past : List Done) → IsFollowing version count s n f past → (p : Pid) → p.0 < count → (given : Option Answer) → IsGiven (f p.0).replayed.last (f p.0).replayed.heard given
      → AreGot s p.0 (did (f p.0).replayed.state given).deeds
  stepped-got s n f past is p below given is_given =
      let may = given-is (f p.0).replayed.last (f p.0).replayed.heard given is_given in
      subst (λ (o : Option Answer). AreGot s p.0 (did (f p.0).replayed.state o).deeds) (sym may.1)
      (step-got version s n p.0 (owner_of (f p.0)) (is.stands.owners.each p.0 below) may.0 (is.told p.0))

  before-got : (s : Service) (n : ℕ) (f : Fleet) (past : List Done) → IsArriving version count states s n f past → (p : Pid) → p.0 < count → (given : Option Answer) → IsGiven (f p.0).replayed.last (f p.0).replayed.heard given
      → AreGot s p.0 (deeds_before given (f p.0))
  before-got s n f past is p below given is_given =
      every_append (λ (z : DeedOn). AllByRecursion (IsOwnOf s p.0) (gets z.deed)) (since_of f p.0) (did (f p.0).replayed.state given).deeds (is.got p.0)
      (stepped-got s n f past is.following p below given is_given)

  pauses-arrive : (s : Service) (n : ℕ) (f : Fleet) (past : List Done) → IsArriving version count states s n f past → n ≤ 2 ^ 28 → (p : Pid) → p.0 < count → (given : Option Answer) → IsPausing (f p.0) given
      → IsArriving version count states s n (with_acting p (paused given (f p.0)) f) past
  pauses-arrive s n f past is few p below given pausing = record {
    following = pauses-follow g version count counted services processes moving s n f past is.following few p below given pausing;
    got = λ i. by i (nat_eq p.0 i) refl;
    issued =
        subst (λ (all : EndId → List Deed). AreIssued s past all) (sym (pauses-deeds g version count counted services processes moving s n f past is.following few p below given pausing))
        (issued-on s past is.following.deeds (did (f p.0).replayed.state given).deeds is.issued);
    so =
        subst (λ (all : EndId → List Deed). AreFollowedSo version s (owners (with_acting p (paused given (f p.0)) f)) all)
        (sym (pauses-deeds g version count counted services processes moving s n f past is.following few p below given pausing))
        (paused-so g version count counted services processes moving s n f past is.following is.so few p below given pausing);
    early = is.early;
    arrived = is.arrived;
  }
    where
      by : (i : ℕ) → (b : Bool) → nat_eq p.0 i ≡ b → AreGot s i ((if b then paused given (f p.0) else f i).since)
      by i true same = subst (λ (j : ℕ). AreGot s j (deeds_before given (f p.0))) (eqb-true p.0 i same) (before-got s n f past is p below given pausing.is_given)
      by i false other = is.got i

  -- ---- an entry

  module _ (s : Service) (n : ℕ) (f : Fleet) (past : List Done) (is : IsArriving version count states s n f past) (e : Placed) (part : List (ServiceStep × Service)) (entry : IsEntry g s e part) (range : IsPlacedInRange e) where
    abbrev t : Service
    t = state_after s part

    later-early : (l : List Done) → AllByRecursion (λ (d : Done). d.after ≤ n) l → AllByRecursion (λ (d : Done). d.after ≤ suc n) l
    later-early l all = every_weaker (λ (d : Done). d.after ≤ n) (λ (d : Done). d.after ≤ suc n) (λ d few. omega (arith, few)) l all

    takes-arrive : ((p : Pid) → call_of p e.entry.what ≡ None) → IsArriving version count states t (suc n) (hears_entry (home_of g) e f) past
    takes-arrive none =
        let un : AllByRecursion IsUncalled e.entry.steps = taken-uncalled g version count counted services processes moving s n f past is.following e part entry range e.entry.what refl none in
        record {
          following = takes-follow g version count counted services processes moving s n f past is.following e part entry range none;
          got =
              λ i. subst (λ (l : List DeedOn). AreGot t i l) (sym (since-same g version count counted services processes moving e f i))
              (got-uncalled moving.moves moving.consistent (since_of f) count (is.following.silent count (omega arith)) part s is.following.stands.owners.consistent entry.run
              (subst (λ (l : List ServiceStep). AllByRecursion IsUncalled l) (sym entry.steps) un) is.got i);
          issued =
              subst (λ (all : EndId → List Deed). AreIssued t past all) (sym (takes-deeds g version count counted services processes moving s n f past is.following e part entry range none))
              (issued-uncalled moving.moves moving.consistent past is.following.deeds part s is.following.stands.owners.consistent entry.run
              (subst (λ (l : List ServiceStep). AllByRecursion IsUncalled l) (sym entry.steps) un) is.issued);
          so =
              subst (λ (all : EndId → List Deed). AreFollowedSo version t (owners (hears_entry (home_of g) e f)) all)
              (sym (takes-deeds g version count counted services processes moving s n f past is.following e part entry range none))
              (taken-so g version count counted services processes moving s n f past is.following is.so e part entry range none);
          early = later-early past is.early;
          arrived = is.arrived;
        }

    module _ (few : n ≤ 2 ^ 28) (p : Pid) (below : p.0 < count) (given : Option Answer) (c : Call) (own : e.kernel ≡ home_of g p.0) (is_call : call_of p e.entry.what ≡ Some c) (asking : IsAsking (f p.0) given c) where
      abbrev past_after : List Done
      past_after = past ++ done_by p n (deeds_before given (f p.0))

      abbrev since_after : ℕ → List DeedOn
      since_after = flushing p.0 (since_of f)

      abbrev deeds_now : EndId → List Deed
      deeds_now x = is.following.deeds x ++ deeds_at x (did (f p.0).replayed.state given).deeds

      issued-first : AreIssued s past_after deeds_now
      issued-first =
          issued-before s (since_of f) past is.following.deeds is.following.woven p.0 (did (f p.0).replayed.state given).deeds
          (call-step g version count counted services processes moving s n f past is.following e part entry range few p given c own is_call asking).elsewhere n is.issued

      -- just before the call
      before-call : IsSnap version count s n past_after
      before-call = record {
        os = with_owner p.0 (record { state = (did (f p.0).replayed.state given).state; status = Asks c }) (owners f);
        deeds = λ x. is.following.deeds x ++ deeds_at x (did (f p.0).replayed.state given).deeds;
        since = since_after;
        stands = asked g version count counted services processes moving s n f past is.following e part entry range few p given c own is_call asking;
        woven = woven-first g version count counted services processes moving s n f past is.following e part entry range few p given c own is_call asking;
        got = flushed-got s p.0 (since_of f) is.got;
        issued = issued-first;
        so = asked-so g version count counted services processes moving s n f past is.following is.so e part entry range few p below given c own is_call asking;
      }

      begun-got : Begins p.0 c e.entry.steps → (j : ℕ) → AreGot t j (since_after j)
      begun-got b = by-part part refl
        where
          no-since : since_after p.0 ≡ []
          no-since = quiet g version count counted services processes moving s n f past is.following e part entry range few p given c own is_call asking

          by-part : (l : List (ServiceStep × Service)) → part ≡ l → (j : ℕ) → AreGot t j (since_after j)
          by-part [] empty = let no : [] ≡ b.made ∷ b.more = sym (ap steps_in empty) ∙ entry.steps ∙ b.is in absurd cc
          by-part (x ∷ l) full =
              let both : x.0 ∷ steps_in l ≡ b.made ∷ b.more = sym (ap steps_in full) ∙ entry.steps ∙ b.is in
              let head : x.0 ≡ b.made = cc in
              let tail : steps_in l ≡ b.more = cc in
              let run : IsServiceStep s x.0 x.1 × IsRunFrom x.1 l = subst (IsRunFrom s) full entry.run in
              let one : IsServiceStep s b.made x.1 = subst (λ (m : ServiceStep). IsServiceStep s m x.1) head run.0 in
              subst (λ (u : Service). (j : ℕ) → AreGot u j (since_after j)) (sym (ap (state_after s) full))
              (got-uncalled moving.moves moving.consistent since_after p.0 no-since l x.1 (moving.consistent s b.made x.1 is.following.stands.owners.consistent one) run.1
              (subst (λ (m : List ServiceStep). AllByRecursion IsUncalled m) (sym tail) b.uncalled)
              (got-step moving.moves moving.consistent since_after p.0 no-since s b.made x.1 is.following.stands.owners.consistent
              (cancels-none g version count counted services processes moving s n f past is.following e part entry range few p given c own is_call asking b.made b.first) one
              (own-first g version count counted services processes moving s n f past is.following e part entry range few p given c own is_call asking b.made b.first)
              (flushed-got s p.0 (since_of f) is.got)))

      called-got : (j : ℕ) → AreGot t j (since_after j)
      called-got =
          ⊎_elim (λ (print : IsPrint c e.entry.steps). subst (λ (u : Service). (j : ℕ) → AreGot u j (since_after j)) (sym (nothing-left part (entry.steps ∙ print.2))) (flushed-got s p.0 (since_of f) is.got)) begun-got
          (steps-begin p.0 c e.entry.steps (of-entry g version count counted services processes moving s n f past is.following e part entry range few p given c own is_call asking).2)
        where
          nothing-left : (l : List (ServiceStep × Service)) → steps_in l ≡ [] → state_after s l ≡ s
          nothing-left [] none = refl
          nothing-left (x ∷ l) none = let no : x.0 ∷ steps_in l ≡ [] = none in absurd cc

      abbrev os : Owners
      os = with_owner p.0 (record { state = (did (f p.0).replayed.state given).state; status = Asks c }) (owners f)

      begun-issued : Begins p.0 c e.entry.steps → AreIssued t past_after deeds_now
      begun-issued b = by-part part refl
        where
          by-part : (l : List (ServiceStep × Service)) → part ≡ l → AreIssued t past_after deeds_now
          by-part [] empty = let no : [] ≡ b.made ∷ b.more = sym (ap steps_in empty) ∙ entry.steps ∙ b.is in absurd cc
          by-part (x ∷ l) full =
              let both : x.0 ∷ steps_in l ≡ b.made ∷ b.more = sym (ap steps_in full) ∙ entry.steps ∙ b.is in
              let head : x.0 ≡ b.made = cc in
              let tail : steps_in l ≡ b.more = cc in
              let run : IsServiceStep s x.0 x.1 × IsRunFrom x.1 l = subst (IsRunFrom s) full entry.run in
              let one : IsServiceStep s b.made x.1 = subst (λ (m : ServiceStep). IsServiceStep s m x.1) head run.0 in
              let before : Stands version count s n os deeds_now = asked g version count counted services processes moving s n f past is.following e part entry range few p given c own is_call asking in
              let after =
              services.first s b.made x.1 n p.0 c os deeds_now below (ap (λ (z : Bool). (if z then record { state = (did (f p.0).replayed.state given).state; status = Asks c } else owner_of (f p.0)).status) (eq-eqb p.0 p.0 refl))
              (more-entries version count n s os deeds_now before) (room-of version count n s os deeds_now before) one b.first
              (mine g version count counted services processes moving s n f past is.following e part entry range few p given c own is_call asking)
              (bytes g version count counted services processes moving s n f past is.following e part entry range few p given c own is_call asking) in
              subst (λ (u : Service). AreIssued u past_after deeds_now) (sym (ap (state_after s) full))
              (issued-uncalled moving.moves moving.consistent past_after deeds_now l x.1 (moving.consistent s b.made x.1 is.following.stands.owners.consistent one) run.1
              (subst (λ (m : List ServiceStep). AllByRecursion IsUncalled m) (sym tail) b.uncalled)
              (issued-step s x.1 b.made past_after deeds_now
              (λ y. moving.moves s b.made x.1 y is.following.stands.owners.consistent (cancels-none g version count counted services processes moving s n f past is.following e part entry range few p given c own is_call asking b.made b.first) one)
              (λ y h m i its to l xs sends. left-closed version count s x.1 (suc n) (with_owner p.0 (owner_told c (own_told p c (b.made ∷ [])) (os p.0)) os) since_after past_after deeds_now
              (woven-first g version count counted services processes moving s n f past is.following e part entry range few p given c own is_call asking) after y h m i its to)
              issued-first))

      called-issued : AreIssued t past_after deeds_now
      called-issued =
          ⊎_elim (λ (print : IsPrint c e.entry.steps). subst (λ (u : Service). AreIssued u past_after deeds_now) (sym (nothing-left part (entry.steps ∙ print.2))) issued-first) begun-issued
          (steps-begin p.0 c e.entry.steps (of-entry g version count counted services processes moving s n f past is.following e part entry range few p given c own is_call asking).2)
        where
          nothing-left : (l : List (ServiceStep × Service)) → steps_in l ≡ [] → state_after s l ≡ s
          nothing-left [] none = refl
          nothing-left (x ∷ l) none = let no : x.0 ∷ steps_in l ≡ [] = none in absurd cc

      calls-arrive : states n ≡ s → IsArriving version count states t (suc n) (hears_entry (home_of g) e (asked_by p given f)) past_after
      calls-arrive at = record {
        following = calls-follow g version count counted services processes moving s n f past is.following e part entry range few p given c own is_call asking;
        got =
            λ i. subst (λ (l : List DeedOn). AreGot t i l)
            (since-later g version count counted services processes moving s n f past is.following e part entry range few p given c own is_call asking i) (called-got i);
        issued =
            subst (λ (all : EndId → List Deed). AreIssued t past_after all)
            (sym (calls-deeds g version count counted services processes moving s n f past is.following e part entry range few p given c own is_call asking)) called-issued;
        so =
            subst (λ (all : EndId → List Deed). AreFollowedSo version t (owners (hears_entry (home_of g) e (asked_by p given f))) all)
            (sym (calls-deeds g version count counted services processes moving s n f past is.following e part entry range few p given c own is_call asking))
            (called-so g version count counted services processes moving s n f past is.following is.so e part entry range few p below given c own is_call asking);
        early =
            every_append (λ (d : Done). d.after ≤ suc n) past (done_by p n (deeds_before given (f p.0))) (later-early past is.early)
            (done-all (λ (d : Done). d.after ≤ suc n) p n (deeds_before given (f p.0)) (λ d. omega arith));
        arrived =
            every_append (AreWith states) past (done_by p n (deeds_before given (f p.0))) is.arrived
            (done-with states n p.0 s at (deeds_before given (f p.0)) (before-got s n f past is p below given asking.is_given));
      }

  -- ---- all entries

  abbrev ends-of : ℕ → Fleet → List Done
  ends-of to l = at_end to l (map process (range_with_len 0 count))

  -- those behind an entry have more entries before them
  late-all : (n : ℕ) {f l : Fleet} {es : List Placed} {ds : List Done} → Acts (home_of g) (n + 1) f es ds l → (to : ℕ) → (n + 1) + length es ≡ to → AllByRecursion (λ (d : Done). n < d.after) (ds ++ ends-of to l)
  late-all n {l = l} {ds = ds} acts to count_is =
      every_append (λ (d : Done). n < d.after) ds (ends-of to l) (every_weaker (λ (d : Done). n + 1 ≤ d.after) (λ (d : Done). n < d.after) (λ d more. omega (arith, more)) ds (acts-after acts))
      (ends-all (λ (d : Done). n < d.after) to l (map process (range_with_len 0 count)) (λ p d. omega (arith, count_is)))

  at-or-behind : (n k : ℕ) → n ≤ k → (k ≡ n) ⊎ (n + 1 ≤ k)
  at-or-behind n k few = by (leb_tells (n + 1) k)
    where
      by : ((leb (n + 1) k ≡ true) × (n + 1 ≤ k)) ⊎ ((leb (n + 1) k ≡ false) × (k < n + 1)) → (k ≡ n) ⊎ (n + 1 ≤ k)
      by (inl more) = inr more.1
      by (inr less) = let less = less.1 in inl (omega (arith, few, less))

  one-more : (n : ℕ) → suc n ≡ n + 1
  one-more n = omega arith

  one-less : (n : ℕ) (es : List Placed) (to : ℕ) → n + suc (length es) ≡ to → (n + 1) + length es ≡ to
  one-less n es to is = omega (arith, is)

  with-first : (n to : ℕ) (all : List Done) → Arrives version count states (n + 1) to all → IsSeenAt version count states all n → Arrives version count states n to all
  with-first n to all later first = record {
    arrived = later.arrived;
    seen = λ k from_n to_k. ⊎_elim (λ (same : k ≡ n). subst (λ (m : ℕ). IsSeenAt version count states all m) (sym same) first) (λ (more : n + 1 ≤ k). later.seen k more to_k) (at-or-behind n k from_n);
  }

  pub arrives : {n : ℕ} {f l : Fleet} {es : List Placed} {ds : List Done} → Acts (home_of g) n f es ds l → (to : ℕ) → n + length es ≡ to → (s : Service) (parts : List (List (ServiceStep × Service))) (past : List Done)
      → AreEntries g s es parts → AreStates states n s parts → All IsPlacedInRange es → to ≤ 2 ^ 28 → ((i : ℕ) → count ≤ i → (l i).replayed.steps ≡ 0) → IsArriving version count states s n f past
      → Arrives version count states n to (past ++ (ds ++ ends-of to l))
  arrives (Rests n f) to count_is s parts past entries run range few idle is =
      let at : states n ≡ s = first-state states n s parts run in
      let to_n : n ≡ to = omega (arith, count_is) in
      subst (λ (m : ℕ). Arrives version count states n m (past ++ ends-of m f)) to_n
      (record {
        arrived = every_append (AreWith states) past (ends-of n f) is.arrived (ends-with states n s f at (range_with_len 0 count) is.got);
        seen = λ k from_n to_n. let same : n ≡ k = omega (arith, from_n, to_n) in subst (λ (m : ℕ). IsSeenAt version count states (past ++ ends-of n f) m) same (record {
          past = past ++ ends-of n f;
          behind = [];
          is = sym (append-nil (past ++ ends-of n f));
          early = every_append (λ (d : Done). d.after ≤ n) past (ends-of n f) is.early (ends-all (λ (d : Done). d.after ≤ n) n f (map process (range_with_len 0 count)) (λ p d. omega arith));
          late = tt;
          snap =
              subst (λ (u : Service). IsSnap version count u n (past ++ ends-of n f)) (sym at)
              (ends-snap version count s n f count 0 past
              (record { os = owners f; deeds = is.following.deeds; since = since_of f; stands = is.following.stands; woven = is.following.woven; got = is.got; issued = is.issued; so = is.so }) (λ i above. refl));
        });
      })
  arrives (Pauses n f p given es ds l pausing acts) to count_is s parts past entries run range few idle is =
      ⊎_elim
      (λ (below : p.0 < count). arrives acts to count_is s parts past entries run range few idle (pauses-arrive s n f past is (omega (arith, few, count_is)) p below given pausing))
      (λ (above : count ≤ p.0).
      let grow = steps-grow acts p.0 in
      let at : (with_acting p (paused given (f p.0)) f p.0).replayed.steps ≡ (f p.0).replayed.steps + 1 = ap (λ (z : Acting). z.replayed.steps) (set-self p (paused given (f p.0)) f) in
      let none = idle p.0 above in
      absurd (omega (arith, grow, at, none)))
      (below-or-above count p.0)
  arrives (Calls n f p given c e es ds l own call asking acts) to count_is s [] past entries run range few idle is = absurd entries
  arrives (Calls n f p given c e es ds l own call asking acts) to count_is s (part ∷ parts) past entries run range few idle is =
      let room : n ≤ 2 ^ 28 = omega (arith, few, count_is) in
      let within : p.0 < count = below g version count counted services processes moving s n f past is.following e part entries.0 (All-head IsPlacedInRange e es range) room p given c own call asking in
      let one = calls-arrive s n f past is e part entries.0 (All-head IsPlacedInRange e es range) room p within given c own call asking run.0 in
      let left : (n + 1) + length es ≡ to = one-less n es to count_is in
      let all : Arrives version count states (n + 1) to ((past ++ done_by p n (deeds_before given (f p.0))) ++ (ds ++ ends-of to l)) =
      arrives acts to left (state_after s part) parts (past ++ done_by p n (deeds_before given (f p.0))) entries.1
      (subst (λ (k : ℕ). AreStates states k (state_after s part) parts) (one-more n) run.1) (All-tail IsPlacedInRange e es range) few idle
      (subst (λ (k : ℕ). IsArriving version count states (state_after s part) k (hears_entry (home_of g) e (asked_by p given f)) (past ++ done_by p n (deeds_before given (f p.0)))) (one-more n) one) in
      let regrouped : (past ++ done_by p n (deeds_before given (f p.0))) ++ (ds ++ ends-of to l) ≡ past ++ ((done_by p n (deeds_before given (f p.0)) ++ ds) ++ ends-of to l) =
      append_assoc past (done_by p n (deeds_before given (f p.0))) (ds ++ ends-of to l) ∙ ap (λ (k : List Done). past ++ k) (sym (append_assoc (done_by p n (deeds_before given (f p.0))) ds (ends-of to l))) in
      subst (λ (k : List Done). Arrives version count states n to k) regrouped
      (with-first n to ((past ++ done_by p n (deeds_before given (f p.0))) ++ (ds ++ ends-of to l)) all
      (record {
        past = past ++ done_by p n (deeds_before given (f p.0));
        behind = ds ++ ends-of to l;
        is = refl;
        early =
            every_append (λ (d : Done). d.after ≤ n) past (done_by p n (deeds_before given (f p.0))) is.early
            (done-all (λ (d : Done). d.after ≤ n) p n (deeds_before given (f p.0)) (λ d. omega arith));
        late = late-all n acts to left;
        snap =
            subst (λ (u : Service). IsSnap version count u n (past ++ done_by p n (deeds_before given (f p.0)))) (sym run.0)
            (before-call s n f past is e part entries.0 (All-head IsPlacedInRange e es range) room p within given c own call asking);
      }))
  arrives (Takes n f e es ds l none acts) to count_is s [] past entries run range few idle is = absurd entries
  arrives (Takes n f e es ds l none acts) to count_is s (part ∷ parts) past entries run range few idle is =
      let one = takes-arrive s n f past is e part entries.0 (All-head IsPlacedInRange e es range) none in
      let left : (n + 1) + length es ≡ to = one-less n es to count_is in
      let all : Arrives version count states (n + 1) to (past ++ (ds ++ ends-of to l)) =
      arrives acts to left (state_after s part) parts past entries.1
      (subst (λ (k : ℕ). AreStates states k (state_after s part) parts) (one-more n) run.1) (All-tail IsPlacedInRange e es range) few idle
      (subst (λ (k : ℕ). IsArriving version count states (state_after s part) k (hears_entry (home_of g) e f) past) (one-more n) one) in
      with-first n to (past ++ (ds ++ ends-of to l)) all
      (record {
        past = past;
        behind = ds ++ ends-of to l;
        is = refl;
        early = is.early;
        late = late-all n acts to left;
        snap =
            subst (λ (u : Service). IsSnap version count u n past) (sym run.0)
            (record { os = owners f; deeds = is.following.deeds; since = since_of f; stands = is.following.stands; woven = is.following.woven; got = is.got; issued = is.issued; so = is.so });
      })
