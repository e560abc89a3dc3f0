-- Along a replay of all processes the invariant stands, with the deeds of the run.
use Rattle.std.proofs.Common.{arith, ◌≡◌, inl, inr, ⊎_elim, ℕ, suc, ◌+◌, ◌^◌, ◌≤◌, ◌<◌, nat_eq, Bool, true, false, if◌then◌else◌, List, [], ◌∷◌, ◌++◌, length, All, Option, Some, None, refl, sym, ap, subst, ◌∙◌, eq-eqb, eqb-true, append-nil, append_assoc}
use Rattle.std.proofs.lemmas.List.Elements.{All-head, All-tail}
use Rattle.std.specs.List.{AllByRecursion}
use Rattle.charlotte_calls.specs.Ranges.{IsCallInRange}
use Rattle.charlotte_calls.specs.declared.calls.Cause.{Cause}
use Rattle.charlotte_calls.specs.declared.calls.Answer.{Answer}
use Rattle.charlotte_calls.specs.declared.calls.Answer.TheVariants as answer
use Rattle.charlotte_calls.specs.declared.calls.Call.{Call}
use Rattle.charlotte_calls.specs.declared.calls.Call.TheVariants as call
use Rattle.charlotte_calls.specs.declared.calls.ServiceStep.{ServiceStep}
use Rattle.charlotte_calls.specs.declared.calls.ServiceStep.TheVariants as step
use Rattle.charlotte_calls.specs.declared.names.EndId.{EndId}
use Rattle.charlotte_calls.specs.declared.names.Pid.{Pid}
use Rattle.charlotte_calls.specs.declared.names.Way.{Way}
use Rattle.charlotte_calls.specs.declared.program.Next.{Next}
use Rattle.charlotte_calls.specs.declared.setting.Setting.{Setting}
use Rattle.kernel_entries.specs.Ranges.{IsHappenedInRange, IsPlacedInRange}
use Rattle.kernel_entries.specs.declared.entry.Happened.TheVariants.{Asked, Took}
use Rattle.kernel_entries.specs.declared.entry.Happened.{Happened}
use Rattle.kernel_entries.specs.declared.entry.Placed.{Placed}
use Rattle.service_lawful.specs.Consistent.{IsConsistent}
use Rattle.service_step.specs.Run.{IsRunFrom, state_after}
use Rattle.service_step.specs.State.{State as Service}
use Rattle.service_step.specs.Steps.{IsServiceStep}
use Rattle.service_step.specs.declared.state.Place.TheVariants as place
use Rattle.service_streams.specs.Streams.{cancels_send, steps_in}
use Rattle.run_process_steps.specs.Moves.{Moves}
use Rattle.run_process_steps.specs.Told.{call_of, hears_by, own_told}
use Rattle.run_process_steps.specs.Replay.{IsGiven}
use Rattle.run_process_steps.specs.Entries.{AreEntries, AreOfEntry, IsEntry, IsOwn, IsUncalled}
use Rattle.end_protocol.specs.Deeds.{Deed}
use Rattle.run_process_steps.specs.States.{DeedOn}
use Rattle.run_process_steps.specs.Runs.{Did, did}
use Rattle.run_process_steps.specs.ProcessSoundTold.{IsTold}
use Rattle.run_process_steps.specs.AtEnd.{deeds_at}
use Rattle.run_process_steps.specs.Acting.{Acting, Acts, Calls, Done, Fleet, IsAsking, IsPausing, Pauses, Rests, Takes, called, deeds_before, done_by, hears_entry, paused, with_acting}
use Rattle.run_process_steps.specs.Acted.{home_of, process}
use Rattle.run_process_steps.proofs.Callers.{none-else, own-call}
use Rattle.run_process_steps.proofs.Fleets.{asked_by, heard-here, heard-not, heard_by, set-other, set-self}
use Rattle.run_process_steps.specs.Hearing.{all_hear_steps, owner_told, owners, with_owner}
use Rattle.run_process_steps.specs.Invariant.{Owners, Stands}
use Rattle.run_process_steps.specs.Owners.{Asks, IsAskedFor, Owner, Status, given_of, owner_of, status_of}
use Rattle.run_process_steps.specs.Steps.{HasBytes, HasRoom, IsFirst, IsMine, IsStepped, MayStep, after_step, owner_after}
use Rattle.followed_links.proofs.Entries.{StepsKeep}
use Rattle.followed_links.proofs.Calling.{AreIdle, Begins, IsPrint, begun-owners, below-or-above, calling-stands, printed-owners, room-then, same-owners, steps-begin, taken-owners, taking-stands}
use Rattle.followed_links.proofs.Passing.{IsOwnStep, weaves-step, weaves-uncalled}
use Rattle.followed_links.proofs.Told.{called-told, given-is, hears-told, paused-given, paused-status}
use Rattle.followed_links.proofs.Weaving.{AreWoven, adding, flushing, weaves-call, weaves-on}

-- steps of processes keep the invariant
pub record ProcessesKeep (version count : ℕ) : Type 0 where
  pub steps : (s : Service) (n : ℕ) (os : Owners) (deeds : EndId → List Deed) (i : ℕ) → Stands version count s n os deeds → n ≤ 2 ^ 28 → i < count → MayStep (os i).status → IsTold (given_of (os i).status)
      → IsStepped version count s n os deeds i (did (os i).state (given_of (os i).status))

-- what each step of the service does with ends
pub record ServiceMoves : Type 0 where
  pub moves : (s : Service) (made : ServiceStep) (t : Service) (x : EndId) → IsConsistent s → ((e : EndId) → cancels_send e made ≡ false) → IsServiceStep s made t → Moves s made t x
  pub consistent : (s : Service) (made : ServiceStep) (t : Service) → IsConsistent s → IsServiceStep s made t → IsConsistent t

-- a step more at most
pub steps-grow : {home : ℕ → ℕ} {n : ℕ} {f g : Fleet} {es : List Placed} {ds : List Done} → Acts home n f es ds g → (i : ℕ) → (f i).replayed.steps ≤ (g i).replayed.steps
steps-grow (Rests n f) i = omega arith
steps-grow (Pauses n f p given es ds g pausing acts) i = by (nat_eq p.0 i) refl (steps-grow acts i)
  where
    by : (b : Bool) → nat_eq p.0 i ≡ b → (with_acting p (paused given (f p.0)) f i).replayed.steps ≤ (g i).replayed.steps → (f i).replayed.steps ≤ (g i).replayed.steps
    by true same rest =
        let at : (with_acting p (paused given (f p.0)) f i).replayed.steps ≡ (f i).replayed.steps + 1 =
        subst (λ (j : ℕ). (with_acting p (paused given (f p.0)) f j).replayed.steps ≡ (f j).replayed.steps + 1) (eqb-true p.0 i same) (ap (λ (z : Acting). z.replayed.steps) (set-self p (paused given (f p.0)) f)) in
        omega (arith, rest, at)
    by false other rest = let at = ap (λ (z : Acting). z.replayed.steps) (set-other p (paused given (f p.0)) f i other) in omega (arith, rest, at)
steps-grow {home = home} (Calls n f p given c e es ds g own call asking acts) i = by (nat_eq p.0 i) refl (nat_eq (home i) e.kernel) refl (steps-grow acts i)
  where
    heard : (b : Bool) → nat_eq (home i) e.kernel ≡ b → (hears_entry home e (asked_by p given f) i).replayed.steps ≡ (asked_by p given f i).replayed.steps
    heard true here = ap (λ (z : Acting). z.replayed.steps) (heard-here home e (asked_by p given f) i here)
    heard false away = ap (λ (z : Acting). z.replayed.steps) (heard-not home e (asked_by p given f) i away)

    by : (b : Bool) → nat_eq p.0 i ≡ b → (h : Bool) → nat_eq (home i) e.kernel ≡ h → (hears_entry home e (asked_by p given f) i).replayed.steps ≤ (g i).replayed.steps → (f i).replayed.steps ≤ (g i).replayed.steps
    by true same h at_h rest =
        let at : (asked_by p given f i).replayed.steps ≡ (f i).replayed.steps + 1 =
        subst (λ (j : ℕ). (asked_by p given f j).replayed.steps ≡ (f j).replayed.steps + 1) (eqb-true p.0 i same) (ap (λ (z : Acting). z.replayed.steps) (set-self p (called given (f p.0)) f)) in
        let hear = heard h at_h in
        omega (arith, rest, at, hear)
    by false other h at_h rest =
        let at = ap (λ (z : Acting). z.replayed.steps) (set-other p (called given (f p.0)) f i other) in
        let hear = heard h at_h in
        omega (arith, rest, at, hear)
steps-grow {home = home} (Takes n f e es ds g none acts) i = by (nat_eq (home i) e.kernel) refl (steps-grow acts i)
  where
    by : (b : Bool) → nat_eq (home i) e.kernel ≡ b → (hears_entry home e f i).replayed.steps ≤ (g i).replayed.steps → (f i).replayed.steps ≤ (g i).replayed.steps
    by true here rest = let at = ap (λ (z : Acting). z.replayed.steps) (heard-here home e f i here) in omega (arith, rest, at)
    by false away rest = let at = ap (λ (z : Acting). z.replayed.steps) (heard-not home e f i away) in omega (arith, rest, at)

only-made : (made m : ServiceStep) → made ∷ [] ≡ m ∷ [] → made ≡ m
only-made made m e = cc

-- ---- along the entries

abbrev pub since_of : Fleet → ℕ → List DeedOn
since_of f i = (f i).since

-- so it stands after so many entries
pub record IsFollowing (version count : ℕ) (s : Service) (n : ℕ) (f : Fleet) (past : List Done) : Type 0 where
  pub deeds : EndId → List Deed
  pub stands : Stands version count s n (owners f) deeds
  pub idle : AreIdle count f
  pub silent : (i : ℕ) → count ≤ i → since_of f i ≡ []
  pub told : (i : ℕ) → IsTold (given_of (owner_of (f i)).status)
  pub woven : AreWoven s (since_of f) past deeds

same-since : (a b : ℕ → List DeedOn) → ((i : ℕ) → a i ≡ b i) → a ≡ b
same-since a b each = λ j i. each i j

-- at the number of a process, and at others
pick : {X : Type 0} (i j : ℕ) (P : X → Type 0) (x : X) (f : ℕ → X) → (nat_eq i j ≡ true → P x) → (nat_eq i j ≡ false → P (f j)) → P (if nat_eq i j then x else f j)
pick i j P x f its others = by (nat_eq i j) refl
  where
    by : (b : Bool) → nat_eq i j ≡ b → P (if b then x else f j)
    by true same = its same
    by false other = others other

module _ (g : Setting) (version count : ℕ) (counted : length g.homes ≡ count) (services : StepsKeep version count) (processes : ProcessesKeep version count) (moving : ServiceMoves) where
  -- ---- a step without a call

  module _ (s : Service) (n : ℕ) (f : Fleet) (past : List Done) (is : IsFollowing version count s n f past) (few : n ≤ 2 ^ 28) (p : Pid) (below : p.0 < count) (given : Option Answer) where
    abbrev now : Acting
    now = f p.0

    abbrev d : Did
    d = did now.replayed.state given

    -- what it is given is what it was told
    pub stepped : IsGiven now.replayed.last now.replayed.heard given → IsStepped version count s n (owners f) is.deeds p.0 d
    stepped is_given =
        let may = given-is now.replayed.last now.replayed.heard given is_given in
        subst (λ (o : Option Answer). IsStepped version count s n (owners f) is.deeds p.0 (did now.replayed.state o)) (sym may.1)
        (processes.steps s n (owners f) is.deeds p.0 is.stands few below may.0 (is.told p.0))

    module _ (pausing : IsPausing now given) where
      abbrev to : Fleet
      to = with_acting p (paused given now) f

      one-step : IsStepped version count s n (owners f) is.deeds p.0 d
      one-step = stepped pausing.is_given

      its-owner : owner_of (paused given now) ≡ owner_after d
      its-owner = ap (λ (status : Status). record { state = d.state; status = status }) (paused-status d.next now.replayed.heard pausing.no_call)

      one-owner : (i : ℕ) → with_owner p.0 (owner_after d) (owners f) i ≡ owner_of (to i)
      one-owner i = by (nat_eq p.0 i) refl
        where
          by : (b : Bool) → nat_eq p.0 i ≡ b → (if b then owner_after d else owner_of (f i)) ≡ owner_of (if b then paused given now else f i)
          by true same = sym its-owner
          by false other = refl

      pub paused-owners : with_owner p.0 (owner_after d) (owners f) ≡ owners to
      paused-owners = same-owners (with_owner p.0 (owner_after d) (owners f)) (owners to) one-owner

      one-since : (i : ℕ) → adding p.0 d.deeds (since_of f) i ≡ since_of to i
      one-since i = by (nat_eq p.0 i)
        where
          by : (b : Bool) → (if b then since_of f p.0 ++ d.deeds else since_of f i) ≡ since_of (λ (j : ℕ). if b then paused given now else f j) i
          by true = refl
          by false = refl

      not-it : (i : ℕ) → count ≤ i → nat_eq p.0 i ≡ false
      not-it i above = by (nat_eq p.0 i) refl
        where
          by : (b : Bool) → nat_eq p.0 i ≡ b → b ≡ false
          by true same = let e = eqb-true p.0 i same in absurd (omega (arith, e, below, above))
          by false other = refl

      pub pauses-follow : IsFollowing version count s n to past
      pauses-follow = record {
        deeds = λ x. is.deeds x ++ deeds_at x d.deeds;
        stands = subst (λ (os : Owners). Stands version count s n os (λ x. is.deeds x ++ deeds_at x d.deeds)) paused-owners one-step.stands;
        idle = λ i above. ap (λ (z : Acting). z.replayed.last) (set-other p (paused given now) f i (not-it i above)) ∙ is.idle i above;
        silent = λ i above. ap (λ (z : Acting). z.since) (set-other p (paused given now) f i (not-it i above)) ∙ is.silent i above;
        told =
            λ i. pick p.0 i (λ (z : Acting). IsTold (given_of (owner_of z).status)) (paused given now) f
            (λ same. subst (λ (o : Option Answer). IsTold o) (sym (ap (λ (o : Owner). given_of o.status) its-owner ∙ paused-given d.next pausing.no_call)) tt)
            (λ other. is.told i);
        woven =
            subst (λ (l : ℕ → List DeedOn). AreWoven s l past (λ x. is.deeds x ++ deeds_at x d.deeds)) (same-since (adding p.0 d.deeds (since_of f)) (since_of to) one-since)
            (weaves-on s (since_of f) past is.deeds is.woven p.0 d.deeds one-step.elsewhere);
      }

      -- with these deeds
      pub pauses-deeds : pauses-follow.deeds ≡ (λ x. is.deeds x ++ deeds_at x d.deeds)
      unfolding pauses-follow
      pauses-deeds = refl

  -- ---- an entry

  heard-same : {X : Type 0} (part_of : Acting → X) → ((i : ℕ) (e : Placed) (x : Acting) → part_of (heard_by i e.entry x) ≡ part_of x) → (e : Placed) (f : Fleet) (i : ℕ) → part_of (hears_entry (home_of g) e f i) ≡ part_of (f i)
  heard-same part_of same e f i = by (nat_eq (home_of g i) e.kernel) refl
    where
      by : (b : Bool) → nat_eq (home_of g i) e.kernel ≡ b → part_of (hears_entry (home_of g) e f i) ≡ part_of (f i)
      by true here = ap part_of (heard-here (home_of g) e f i here) ∙ same i e (f i)
      by false away = ap part_of (heard-not (home_of g) e f i away)

  last-same : (e : Placed) (f : Fleet) (i : ℕ) → (hears_entry (home_of g) e f i).replayed.last ≡ (f i).replayed.last
  last-same = heard-same (λ z. z.replayed.last) (λ i e x. refl)

  pub since-same : (e : Placed) (f : Fleet) (i : ℕ) → since_of (hears_entry (home_of g) e f) i ≡ since_of f i
  since-same = heard-same (λ z. z.since) (λ i e x. refl)

  told-so : (e : Placed) (f : Fleet) (i : ℕ) → IsTold (given_of (status_of (f i).replayed.last (hears_by (process i) (f i).replayed.heard (call_of (process i) e.entry.what) e.entry.steps)))
      → IsTold (given_of (owner_of (f i)).status) → IsTold (given_of (owner_of (hears_entry (home_of g) e f i)).status)
  told-so e f i here_told away_told = by (nat_eq (home_of g i) e.kernel) refl
    where
      by : (b : Bool) → nat_eq (home_of g i) e.kernel ≡ b → IsTold (given_of (owner_of (hears_entry (home_of g) e f i)).status)
      by true here = subst (λ (z : Acting). IsTold (given_of (owner_of z).status)) (sym (heard-here (home_of g) e f i here)) here_told
      by false away = subst (λ (z : Acting). IsTold (given_of (owner_of z).status)) (sym (heard-not (home_of g) e f i away)) away_told

  module _ (s : Service) (n : ℕ) (f : Fleet) (past : List Done) (is : IsFollowing version count s n f past) (e : Placed) (part : List (ServiceStep × Service)) (entry : IsEntry g s e part) (range : IsPlacedInRange e) where
    abbrev t : Service
    t = state_after s part

    -- a packet is taken
    pub taken-uncalled : (w : Happened) → e.entry.what ≡ w → ((p : Pid) → call_of p e.entry.what ≡ None) → AllByRecursion IsUncalled e.entry.steps
    taken-uncalled (Took from picture) what none = subst (λ (w : Happened). AreOfEntry g e.kernel w e.entry.steps) what entry.own
    taken-uncalled (Asked p c) what none =
        let no : Some c ≡ None = sym (ap (λ (w : Happened). call_of p w) what ∙ own-call p c) ∙ none p in absurd cc

    pub takes-follow : ((p : Pid) → call_of p e.entry.what ≡ None) → IsFollowing version count t (suc n) (hears_entry (home_of g) e f) past
    takes-follow none =
        let un : AllByRecursion IsUncalled e.entry.steps = taken-uncalled e.entry.what refl none in
        record {
          deeds = is.deeds;
          stands = taking-stands g version count services s n e part entry f is.deeds is.stands is.idle none un;
          idle = λ i above. last-same e f i ∙ is.idle i above;
          silent = λ i above. since-same e f i ∙ is.silent i above;
          told = λ i. told-so e f i (hears-told (process i) (f i).replayed.last (f i).replayed.heard (call_of (process i) e.entry.what) e.entry.steps range.entry.steps (is.told i)) (is.told i);
          woven =
              subst (λ (l : ℕ → List DeedOn). AreWoven t l past is.deeds) (same-since (since_of f) (since_of (hears_entry (home_of g) e f)) (λ i. sym (since-same e f i)))
              (weaves-uncalled moving.moves moving.consistent (since_of f) past is.deeds count (is.silent count (omega arith)) part s is.stands.owners.consistent entry.run
              (subst (λ (l : List ServiceStep). AllByRecursion IsUncalled l) (sym entry.steps) un) is.woven);
        }

    pub taken-then : ((p : Pid) → call_of p e.entry.what ≡ None) → all_hear_steps (steps_in part) (owners f) ≡ owners (hears_entry (home_of g) e f)
    taken-then none = taken-owners g version count services s n e part entry f is.deeds is.stands is.idle none (taken-uncalled e.entry.what refl none)

    pub takes-deeds : (none : (p : Pid) → call_of p e.entry.what ≡ None) → (takes-follow none).deeds ≡ is.deeds
    unfolding takes-follow
    takes-deeds none = refl

    -- a process calls
    module _ (few : n ≤ 2 ^ 28) (p : Pid) (given : Option Answer) (c : Call) (own : e.kernel ≡ home_of g p.0) (is_call : call_of p e.entry.what ≡ Some c) (asking : IsAsking (f p.0) given c) where
      what-is : e.entry.what ≡ Asked p c
      what-is = by e.entry.what refl
        where
          by : (w : Happened) → e.entry.what ≡ w → e.entry.what ≡ Asked p c
          by (Took from picture) what = let no : None ≡ Some c = sym (ap (λ (w : Happened). call_of p w) what) ∙ is_call in absurd cc
          by (Asked q d) what = by_same (nat_eq p.0 q.0) refl (sym (ap (λ (w : Happened). call_of p w) what) ∙ is_call)
            where
              same_call : Some d ≡ Some c → d ≡ c
              same_call e = cc

              by_same : (b : Bool) → nat_eq p.0 q.0 ≡ b → (if b then Some d else None) ≡ Some c → e.entry.what ≡ Asked p c
              by_same true same one = what ∙ ap (λ (i : ℕ). Asked (record { 0 = i }) d) (sym (eqb-true p.0 q.0 same)) ∙ ap (Asked p) (same_call one)
              by_same false other one = let no : None ≡ Some c = one in absurd cc

      pub of-entry : AreOfEntry g e.kernel (Asked p c) e.entry.steps
      of-entry = subst (λ (w : Happened). AreOfEntry g e.kernel w e.entry.steps) what-is entry.own

      abbrev later : Fleet
      later = hears_entry (home_of g) e (asked_by p given f)

      abbrev done : Did
      done = did (f p.0).replayed.state given

      pub below : p.0 < count
      below = subst (λ (k : ℕ). p.0 < k) counted of-entry.0

      pub call-step : IsStepped version count s n (owners f) is.deeds p.0 done
      call-step = stepped s n f past is few p below given asking.is_given

      abbrev deeds_now : EndId → List Deed
      deeds_now x = is.deeds x ++ deeds_at x done.deeds

      -- after its step it asks the call
      abbrev asker : Owner
      asker = record { state = done.state; status = Asks c }

      pub asked : Stands version count s n (with_owner p.0 asker (owners f)) deeds_now
      asked =
          subst (λ (m : Next). Stands version count s n (with_owner p.0 (record { state = done.state; status = after_step m }) (owners f)) deeds_now) asking.asks call-step.stands

      pub mine : IsMine s p.0 c
      mine = call-step.mine c asking.asks

      has-bytes : (b : Call) → IsCallInRange b → HasBytes b
      has-bytes (call.Send on bytes xs) in_range = in_range.1.each
      has-bytes call.Make in_range = tt
      has-bytes (call.Destroy on) in_range = tt
      has-bytes (call.Receive on) in_range = tt
      has-bytes (call.Cancel on w) in_range = tt
      has-bytes call.Wait in_range = tt
      has-bytes (call.Print bytes) in_range = tt
      has-bytes call.Exit in_range = tt

      pub bytes : HasBytes c
      bytes = has-bytes c (subst IsHappenedInRange what-is range.entry.what).1

      here : nat_eq (home_of g p.0) e.kernel ≡ true
      here = eq-eqb (home_of g p.0) e.kernel (sym own)

      called-stands : Stands version count t (suc n) (owners later) deeds_now
      called-stands =
          calling-stands g version count services s n e part entry f deeds_now p c given asking.asks below is_call (λ i other. none-else p i c e.entry.what is_call other) here is.idle mine bytes asked of-entry.2

      -- the owners behind its steps
      abbrev pub asking-owners : Owners
      asking-owners = with_owner p.0 asker (owners f)

      pub printed-then : (text : List ℕ) → c ≡ call.Print text → e.entry.steps ≡ [] → with_owner p.0 (owner_told (call.Print text) (Some answer.Ok) (asking-owners p.0)) asking-owners ≡ owners later
      printed-then text print none =
          printed-owners g version count services s n e part entry f deeds_now p c given asking.asks below is_call (λ i other. none-else p i c e.entry.what is_call other) here is.idle mine bytes asked text print none

      abbrev pub first-owners : Begins p.0 c e.entry.steps → Owners
      first-owners b = with_owner p.0 (owner_told c (own_told p c (b.made ∷ [])) (asking-owners p.0)) asking-owners

      pub begun-room : (b : Begins p.0 c e.entry.steps) → HasRoom count n (first-owners b)
      begun-room b =
          room-then g version count services s n e part entry f deeds_now p c given asking.asks below is_call (λ i other. none-else p i c e.entry.what is_call other) here is.idle mine bytes asked b

      pub begun-then : (b : Begins p.0 c e.entry.steps) → all_hear_steps b.more (first-owners b) ≡ owners later
      begun-then b =
          begun-owners g version count services s n e part entry f deeds_now p c given asking.asks below is_call (λ i other. none-else p i c e.entry.what is_call other) here is.idle mine bytes asked b

      -- ---- its deeds

      abbrev since_after : ℕ → List DeedOn
      since_after = flushing p.0 (since_of f)

      abbrev past_after : List Done
      past_after = past ++ done_by p n (deeds_before given (f p.0))

      pub woven-first : AreWoven s since_after past_after deeds_now
      woven-first = weaves-call s (since_of f) past is.deeds is.woven p.0 done.deeds call-step.elsewhere n

      pub quiet : since_after p.0 ≡ []
      quiet = ap (λ (b : Bool). if b then [] else since_of f p.0) (eq-eqb p.0 p.0 refl)

      -- the first step of the call
      pub own-first : (made : ServiceStep) → IsFirst p.0 c made → IsOwnStep s p.0 made
      own-first made (inl refused) = record {
        sends = λ x m l xs is_so. absurd (apart-send refused.0 x m l xs (sym refused.1 ∙ is_so));
        destroys = λ x is_so. absurd (apart-destroy refused.0 x (sym refused.1 ∙ is_so));
        exits = λ q is_so. absurd (apart-exit refused.0 q (sym refused.1 ∙ is_so));
      }
        where
          apart-send : (cause : Cause) (x : EndId) (m : ℕ) (l : List ℕ) (xs : List EndId) → step.Refuse p c cause ≡ step.Send x m l xs → ⊥
          apart-send cause x m l xs e = cc

          apart-destroy : (cause : Cause) (x : EndId) → step.Refuse p c cause ≡ step.Destroy x → ⊥
          apart-destroy cause x e = cc

          apart-exit : (cause : Cause) (q : Pid) → step.Refuse p c cause ≡ step.Exit q → ⊥
          apart-exit cause q e = cc
      own-first made (inr step_own) = own-of c mine step_own
        where
          same-made : (m : ServiceStep) → made ∷ [] ≡ m ∷ [] → made ≡ m
          same-made m e = cc

          own-of : (b : Call) → IsMine s p.0 b → IsOwn p b (made ∷ []) → IsOwnStep s p.0 made
          own-of (call.Send on l xs) at so = record {
            sends = λ x m k ys is_so. (let same : step.Send on so.0 l xs ≡ step.Send x m k ys = sym (same-made (step.Send on so.0 l xs) so.1) ∙ is_so in let e : on ≡ x = cc in subst (λ (y : EndId). (s.ends y).place ≡ place.Owned p) e at);
            destroys = λ x is_so. (let no : step.Send on so.0 l xs ≡ step.Destroy x = sym (same-made (step.Send on so.0 l xs) so.1) ∙ is_so in cc);
            exits = λ q is_so. (let no : step.Send on so.0 l xs ≡ step.Exit q = sym (same-made (step.Send on so.0 l xs) so.1) ∙ is_so in cc);
          }
          own-of (call.Destroy on) at so = record {
            sends = λ x m k ys is_so. (let no : step.Destroy on ≡ step.Send x m k ys = sym (same-made (step.Destroy on) so) ∙ is_so in cc);
            destroys = λ x is_so. (let same : step.Destroy on ≡ step.Destroy x = sym (same-made (step.Destroy on) so) ∙ is_so in let e : on ≡ x = cc in subst (λ (y : EndId). (s.ends y).place ≡ place.Owned p) e at);
            exits = λ q is_so. (let no : step.Destroy on ≡ step.Exit q = sym (same-made (step.Destroy on) so) ∙ is_so in cc);
          }
          own-of call.Exit at so = record {
            sends = λ x m k ys is_so. (let no : step.Exit p ≡ step.Send x m k ys = sym (same-made (step.Exit p) so) ∙ is_so in cc);
            destroys = λ x is_so. (let no : step.Exit p ≡ step.Destroy x = sym (same-made (step.Exit p) so) ∙ is_so in cc);
            exits = λ q is_so. (let same : step.Exit p ≡ step.Exit q = sym (same-made (step.Exit p) so) ∙ is_so in cc);
          }
          own-of call.Make at so = record {
            sends = λ x m k ys is_so. (let no : step.Make p so.0 so.1 ≡ step.Send x m k ys = sym (same-made (step.Make p so.0 so.1) so.2) ∙ is_so in cc);
            destroys = λ x is_so. (let no : step.Make p so.0 so.1 ≡ step.Destroy x = sym (same-made (step.Make p so.0 so.1) so.2) ∙ is_so in cc);
            exits = λ q is_so. (let no : step.Make p so.0 so.1 ≡ step.Exit q = sym (same-made (step.Make p so.0 so.1) so.2) ∙ is_so in cc);
          }
          own-of (call.Receive on) at so = record {
            sends = λ x m k ys is_so. (let no : step.Receive on ≡ step.Send x m k ys = sym (same-made (step.Receive on) so) ∙ is_so in cc);
            destroys = λ x is_so. (let no : step.Receive on ≡ step.Destroy x = sym (same-made (step.Receive on) so) ∙ is_so in cc);
            exits = λ q is_so. (let no : step.Receive on ≡ step.Exit q = sym (same-made (step.Receive on) so) ∙ is_so in cc);
          }
          own-of (call.Cancel on w) at so = record {
            sends = λ x m k ys is_so. (let no : step.Cancel on w ≡ step.Send x m k ys = sym (same-made (step.Cancel on w) so) ∙ is_so in cc);
            destroys = λ x is_so. (let no : step.Cancel on w ≡ step.Destroy x = sym (same-made (step.Cancel on w) so) ∙ is_so in cc);
            exits = λ q is_so. (let no : step.Cancel on w ≡ step.Exit q = sym (same-made (step.Cancel on w) so) ∙ is_so in cc);
          }
          own-of call.Wait at so = record {
            sends = λ x m k ys is_so. (let no : step.Wait p ≡ step.Send x m k ys = sym (same-made (step.Wait p) so) ∙ is_so in cc);
            destroys = λ x is_so. (let no : step.Wait p ≡ step.Destroy x = sym (same-made (step.Wait p) so) ∙ is_so in cc);
            exits = λ q is_so. (let no : step.Wait p ≡ step.Exit q = sym (same-made (step.Wait p) so) ∙ is_so in cc);
          }
          own-of (call.Print l) at so = let no : made ∷ [] ≡ [] = so in absurd cc

      not-outward : (b : Call) → IsAskedFor done.state (Asks b) → (made : ServiceStep) → IsOwn p b (made ∷ []) → (x : EndId) → cancels_send x made ≡ false
      not-outward call.Make fits made so x = ap (cancels_send x) (only-made made (step.Make p so.0 so.1) so.2)
      not-outward (call.Destroy on) fits made so x = ap (cancels_send x) (only-made made (step.Destroy on) so)
      not-outward (call.Send on l xs) fits made so x = ap (cancels_send x) (only-made made (step.Send on so.0 l xs) so.1)
      not-outward (call.Receive on) fits made so x = ap (cancels_send x) (only-made made (step.Receive on) so)
      not-outward (call.Cancel on w) fits made so x =
          ap (cancels_send x) (only-made made (step.Cancel on w) so) ∙ ap (λ (v : Way). cancels_send x (step.Cancel on v)) fits.1
      not-outward call.Wait fits made so x = ap (cancels_send x) (only-made made (step.Wait p) so)
      not-outward (call.Print l) fits made so x = let no : made ∷ [] ≡ [] = so in absurd cc
      not-outward call.Exit fits made so x = ap (cancels_send x) (only-made made (step.Exit p) so)

      fits : IsAskedFor done.state (Asks c)
      fits = subst (λ (o : Owner). IsAskedFor o.state o.status) (ap (λ (b : Bool). if b then asker else owner_of (f p.0)) (eq-eqb p.0 p.0 refl)) (asked.owners.each p.0 below).asked

      pub cancels-none : (made : ServiceStep) → IsFirst p.0 c made → (x : EndId) → cancels_send x made ≡ false
      cancels-none made (inl refused) x = ap (cancels_send x) refused.1
      cancels-none made (inr so) x = not-outward c fits made so x

      -- the steps behind it are no process's call
      woven-begun : Begins p.0 c e.entry.steps → AreWoven t since_after past_after deeds_now
      woven-begun b = by-part part refl
        where
          by-part : (l : List (ServiceStep × Service)) → part ≡ l → AreWoven t since_after past_after deeds_now
          by-part [] empty = let no : [] ≡ b.made ∷ b.more = sym (ap steps_in empty) ∙ entry.steps ∙ b.is in absurd cc
          by-part (x ∷ l) full =
              let both : x.0 ∷ steps_in l ≡ b.made ∷ b.more = sym (ap steps_in full) ∙ entry.steps ∙ b.is in
              let head : x.0 ≡ b.made = cc in
              let tail : steps_in l ≡ b.more = cc in
              let run : IsServiceStep s x.0 x.1 × IsRunFrom x.1 l = subst (IsRunFrom s) full entry.run in
              let one : IsServiceStep s b.made x.1 = subst (λ (m : ServiceStep). IsServiceStep s m x.1) head run.0 in
              subst (λ (u : Service). AreWoven u since_after past_after deeds_now) (sym (ap (state_after s) full))
              (weaves-uncalled moving.moves moving.consistent since_after past_after deeds_now p.0 quiet l x.1 (moving.consistent s b.made x.1 is.stands.owners.consistent one) run.1
              (subst (λ (m : List ServiceStep). AllByRecursion IsUncalled m) (sym tail) b.uncalled)
              (weaves-step moving.moves moving.consistent since_after past_after deeds_now p.0 quiet s b.made x.1 is.stands.owners.consistent (cancels-none b.made b.first) one (own-first b.made b.first) woven-first))

      woven-after : AreWoven t since_after past_after deeds_now
      woven-after =
          ⊎_elim (λ (print : IsPrint c e.entry.steps). subst (λ (u : Service). AreWoven u since_after past_after deeds_now) (sym (nothing-left part (entry.steps ∙ print.2))) woven-first) woven-begun
          (steps-begin p.0 c e.entry.steps of-entry.2)
        where
          nothing-left : (l : List (ServiceStep × Service)) → steps_in l ≡ [] → state_after s l ≡ s
          nothing-left [] none = refl
          nothing-left (x ∷ l) none = let no : x.0 ∷ steps_in l ≡ [] = none in absurd cc

      pub since-later : (i : ℕ) → since_after i ≡ since_of later i
      since-later i = by (nat_eq p.0 i) ∙ sym (since-same e (asked_by p given f) i)
        where
          by : (b : Bool) → (if b then [] else since_of f i) ≡ since_of (λ (j : ℕ). if b then called given (f p.0) else f j) i
          by true = refl
          by false = refl

      other-one : (i : ℕ) → count ≤ i → nat_eq p.0 i ≡ false
      other-one i above = by (nat_eq p.0 i) refl
        where
          by : (b : Bool) → nat_eq p.0 i ≡ b → b ≡ false
          by true same = let q = eqb-true p.0 i same in absurd (omega (arith, q, below, above))
          by false other = refl

      -- what each is told
      told-later : (i : ℕ) → IsTold (given_of (owner_of (later i)).status)
      told-later i = by (nat_eq p.0 i) refl
        where
          its : IsTold (given_of (owner_of (later p.0)).status)
          its =
              subst (λ (z : Acting). IsTold (given_of (owner_of z).status))
              (sym (heard-here (home_of g) e (asked_by p given f) p.0 here ∙ ap (heard_by p.0 e.entry) (set-self p (called given (f p.0)) f)))
              (subst (λ (o : Option Call). IsTold (given_of (status_of (Some done.next) (hears_by p (f p.0).replayed.heard o e.entry.steps)))) (sym is_call)
              (subst (λ (m : Next). IsTold (given_of (status_of (Some m) (hears_by p (f p.0).replayed.heard (Some c) e.entry.steps)))) (sym asking.asks)
              (called-told p c c (f p.0).replayed.heard e.entry.steps range.entry.steps)))

          by : (b : Bool) → nat_eq p.0 i ≡ b → IsTold (given_of (owner_of (later i)).status)
          by true same = subst (λ (j : ℕ). IsTold (given_of (owner_of (later j)).status)) (eqb-true p.0 i same) its
          by false other =
              let same : asked_by p given f i ≡ f i = set-other p (called given (f p.0)) f i other in
              told-so e (asked_by p given f) i
              (subst (λ (z : Acting). IsTold (given_of (status_of z.replayed.last (hears_by (process i) z.replayed.heard (call_of (process i) e.entry.what) e.entry.steps)))) (sym same)
              (hears-told (process i) (f i).replayed.last (f i).replayed.heard (call_of (process i) e.entry.what) e.entry.steps range.entry.steps (is.told i)))
              (subst (λ (z : Acting). IsTold (given_of (owner_of z).status)) (sym same) (is.told i))

      pub calls-follow : IsFollowing version count t (suc n) later past_after
      calls-follow = record {
        deeds = deeds_now;
        stands = called-stands;
        idle = λ i above. last-same e (asked_by p given f) i ∙ ap (λ (z : Acting). z.replayed.last) (set-other p (called given (f p.0)) f i (other-one i above)) ∙ is.idle i above;
        silent = λ i above. since-same e (asked_by p given f) i ∙ ap (λ (z : Acting). z.since) (set-other p (called given (f p.0)) f i (other-one i above)) ∙ is.silent i above;
        told = told-later;
        woven = subst (λ (l : ℕ → List DeedOn). AreWoven t l past_after deeds_now) (same-since since_after (since_of later) since-later) woven-after;
      }

      pub calls-deeds : calls-follow.deeds ≡ deeds_now
      unfolding calls-follow
      calls-deeds = refl

  -- ---- all entries

  -- so it stands at the end
  pub record Follows (f : Fleet) (past : List Done) : Type 0 where
    pub service : Service
    pub entries : ℕ
    pub following : IsFollowing version count service entries f past

  pub follows : {n : ℕ} {f l : Fleet} {es : List Placed} {ds : List Done} → Acts (home_of g) n f es ds l → (s : Service) (parts : List (List (ServiceStep × Service))) (past : List Done) → AreEntries g s es parts
      → All IsPlacedInRange es → n + length es ≤ 2 ^ 28 → ((i : ℕ) → count ≤ i → (l i).replayed.steps ≡ 0) → IsFollowing version count s n f past → Follows l (past ++ ds)
  follows (Rests n f) s parts past entries range few idle is = record { service = s; entries = n; following = subst (λ (l : List Done). IsFollowing version count s n f l) (sym (append-nil past)) is }
  follows (Pauses n f p given es ds l pausing acts) s parts past entries range few idle is =
      ⊎_elim
      (λ (below : p.0 < count). follows acts s parts past entries range few idle (pauses-follow s n f past is (omega (arith, few)) p below given pausing))
      (λ (above : count ≤ p.0).
      let grow = steps-grow acts p.0 in
      let at : (with_acting p (paused given (f p.0)) f p.0).replayed.steps ≡ (f p.0).replayed.steps + 1 = ap (λ (z : Acting). z.replayed.steps) (set-self p (paused given (f p.0)) f) in
      let none = idle p.0 above in
      absurd (omega (arith, grow, at, none)))
      (below-or-above count p.0)
  follows (Calls n f p given c e es ds l own call asking acts) s [] past entries range few idle is = absurd entries
  follows (Calls n f p given c e es ds l own call asking acts) s (part ∷ parts) past entries range few idle is =
      let room : n ≤ 2 ^ 28 = omega (arith, few) in
      let one = calls-follow s n f past is e part entries.0 (All-head IsPlacedInRange e es range) room p given c own call asking in
      subst (λ (all : List Done). Follows l all) (append_assoc past (done_by p n (deeds_before given (f p.0))) ds)
      (follows acts (state_after s part) parts (past ++ done_by p n (deeds_before given (f p.0))) entries.1 (All-tail IsPlacedInRange e es range) (more-few n es few) idle
      (subst (λ (k : ℕ). IsFollowing version count (state_after s part) k (hears_entry (home_of g) e (asked_by p given f)) (past ++ done_by p n (deeds_before given (f p.0)))) (one-more n) one))
    where
      one-more : (n : ℕ) → suc n ≡ n + 1
      one-more n = omega arith

      more-few : (n : ℕ) (es : List Placed) → n + length (e ∷ es) ≤ 2 ^ 28 → n + 1 + length es ≤ 2 ^ 28
      more-few n es few = omega (arith, few)
  follows (Takes n f e es ds l none acts) s [] past entries range few idle is = absurd entries
  follows (Takes n f e es ds l none acts) s (part ∷ parts) past entries range few idle is =
      let one = takes-follow s n f past is e part entries.0 (All-head IsPlacedInRange e es range) none in
      follows acts (state_after s part) parts past entries.1 (All-tail IsPlacedInRange e es range) (more-few n es few) idle
      (subst (λ (k : ℕ). IsFollowing version count (state_after s part) k (hears_entry (home_of g) e f) past) (one-more n) one)
    where
      one-more : (n : ℕ) → suc n ≡ n + 1
      one-more n = omega arith

      more-few : (n : ℕ) (es : List Placed) → n + length (e ∷ es) ≤ 2 ^ 28 → n + 1 + length es ≤ 2 ^ 28
      more-few n es few = omega (arith, few)
