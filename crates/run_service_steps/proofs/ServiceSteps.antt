-- Each step of the service that is no process's call keeps the invariant.
use Rattle.std.proofs.Common.{◌≡◌, ◌⊎◌, inl, inr, ℕ, suc, ◌+◌, ◌*◌, ◌≤◌, ◌<◌, nat_eq, Bool, true, false, if◌then◌else◌, List, [], length, refl, sym, subst, ◌∙◌, arith}
use Rattle.charlotte_calls.specs.Names.{opposite}
use Rattle.charlotte_calls.specs.declared.calls.ServiceStep.{ServiceStep}
use Rattle.charlotte_calls.specs.declared.calls.ServiceStep.TheVariants as step
use Rattle.charlotte_calls.specs.declared.names.EndId.{EndId}
use Rattle.charlotte_calls.specs.declared.names.Pid.{Pid}
use Rattle.service_change.proofs.Counts.{pid_tells}
use Rattle.service_lawful.specs.Consistent.{IsConsistent}
use Rattle.service_step.specs.State.{State as Service}
use Rattle.service_step.specs.Steps.{IsServiceStep}
use Rattle.service_step.specs.declared.state.Place.TheVariants as place
use Rattle.service_streams.specs.Streams.{cancels_send, messages}
use Rattle.service_streams.specs.Streams as streams
use Rattle.run_invariant.specs.Deaths.{AreReceives}
use Rattle.run_invariant.specs.Moves.{Moves}
use Rattle.run_invariant.specs.Moves as moves
use Rattle.run_invariant.specs.Entries.{IsUncalled}
use Rattle.end_protocol.specs.Deeds.{Deed}
use Rattle.run_invariant.specs.Acted.{process}
use Rattle.run_invariant.specs.Sides.{Side}
use Rattle.run_invariant.specs.Hearing.{all_hear, hears_step, with_owner}
use Rattle.run_invariant.specs.Invariant.{AreSpelled, IsFollowedTo, IsInOnePlace, IsOwner, IsSide, IsToldTrue, Owners, Stands, most_brought}
use Rattle.run_invariant.specs.Owners.{Asks, Over, Pends, Runs, Status, Told}
use Rattle.run_service_steps.proofs.Courses.{Turned, follows-on}
use Rattle.run_service_steps.proofs.Heard.{Hears, goes-on, hears}
use Rattle.run_service_steps.proofs.HeardSides.{goes, still-asked, takes}
use Rattle.run_service_steps.proofs.Laws.{Laws}
use Rattle.run_service_steps.proofs.Sides.{Next, turns}
use Rattle.run_service_steps.proofs.Standing.{Goes, moved, owner-there, owner-was, owners-go, unsent-base}
use Rattle.run_service_steps.proofs.StepFacts.{uncalled-keeps, uncalled-sends}
use Rattle.run_service_steps.proofs.TrueTold.{told-now}

-- there is room for what an answer brings
abbrev pub AreFew : ℕ → ℕ → Owners → Type 0
AreFew count m os = (i : ℕ) → i < count → length (os i).state.places + 8 ≤ 8192 + 8 * m

pub brings-few : (st : Status) → most_brought st ≤ 8
brings-few Runs = omega arith
brings-few (Asks c) = omega arith
brings-few (Pends c) = omega arith
brings-few (Told c a) = omega arith
brings-few Over = omega arith

module _ (laws : Laws) (version count : ℕ) (s : Service) (made : ServiceStep) (t : Service) (is : IsServiceStep s made t) (uncalled : IsUncalled made)
    (n m : ℕ) (os : Owners) (deeds : EndId → List Deed) (before : Stands version count s n os deeds) (few : AreFew count m os) where
  quiet : (e : EndId) → cancels_send e made ≡ false
  quiet = uncalled-keeps made uncalled

  abbrev now : ℕ → Status
  now i = hears_step i made (os i).status

  consistent : IsConsistent s
  consistent = before.owners.consistent

  receives : AreReceives s made t
  receives = laws.receives_are_told s made t consistent is

  -- no receive is started, and nothing sent
  unasked : (x : EndId) → made ≡ step.Receive x → ⊥
  unasked x so = subst IsUncalled so uncalled

  unsent : (i : ℕ) (x e : EndId) (j : ℕ) → (t.ends x).place ≡ place.InMessage e j → (s.ends x).place ≡ place.Owned (process i) → ⊥
  unsent i x e j to own = by (laws.each_end_moves s made t x consistent quiet is)
    where
      by : Moves s made t x → ⊥
      by (moves.Stays same brought) = let differ : place.InMessage e j ≡ place.Owned (process i) = sym to ∙ same ∙ own in cc
      by (moves.Makes p a b made-so its was-there there same) = let differ : place.InMessage e j ≡ place.Owned p = sym to ∙ there in cc
      by (moves.Leaves p f l bytes xs made-so among on was-there there same) = subst IsUncalled made-so uncalled
      by (moves.Lands p f l was-there there more none) = let differ : place.InMessage e j ≡ place.Owned p = sym to ∙ there in cc
      by (moves.Ends gone how less) = let differ : place.InMessage e j ≡ place.Destroyed = sym to ∙ gone in cc

  heard : (i : ℕ) → i < count → Hears i made (os i).status (now i)
  heard i below = hears s made t consistent is uncalled i (os i).status (before.owners.each i below).phase

  each-goes : (i : ℕ) → i < count → Goes s made t m i (os i) (now i)
  each-goes i below =
      record {
        phase = goes-on s made t consistent is uncalled i (os i).status;
        asked = still-asked s made t consistent is uncalled i (os i).state (os i).status (now i) (heard i below) own.asked;
        few = let some : most_brought (now i) ≤ 8 = brings-few (now i) in let room = few i below in omega arith;
        told =
            told-now s made t consistent is receives i (moved laws version count s made t is quiet n m os now deeds before) (λ x at. unasked x) (unsent i)
            (os i).status (now i) (heard i below) (λ x w so. unasked x) (laws.deaths_are_true s made t consistent is) own.told;
        takes = λ alive x.
            takes s made t consistent is uncalled i (os i).state x (os i) (record (os i) { status = now i }) (goes s made t consistent is uncalled i (os i).state x (os i).status (now i) (heard i below) own.asked).1;
      }
    where
      own : IsOwner version s n i (os i)
      own = before.owners.each i below

  next : (i : ℕ) (x : EndId) → i < count → Next s made i (os i) (record (os i) { status = now i }) x
  next i x below = (goes s made t consistent is uncalled i (os i).state x (os i).status (now i) (heard i below) (before.owners.each i below).asked).0

  old : (x : EndId) (i : ℕ) → (t.ends x).place ≡ place.Owned (process i) → IsInOnePlace s (os i) i x × IsToldTrue s i (os i).status × Next s made i (os i) (record (os i) { status = now i }) x
  old x i own =
      let there : IsInOnePlace s (os i) i x × IsToldTrue s i (os i).status = owner-was laws version count s made t is quiet n m os now deeds before each-goes x i own in
      (there.0, there.1, next i x (owner-there laws version count s made t is quiet n m os now deeds before each-goes x i own))

  side : (x : EndId) (z : Side) → IsSide version s os x z → Turned version t (all_hear made os) x z
  side x z there =
      unsent-base version t (all_hear made os) x z
      (turns version s made t os (all_hear made os) consistent is receives x (laws.messages_come_in_order s made t x consistent before.owners.matched (quiet (opposite x)) is)
      [] (subst (λ (l : List streams.Sent). AreSpelled version [] (messages l)) (sym (uncalled-sends made uncalled (opposite x))) tt) z (old x) (λ unmade. refl)
      (λ p e i bytes xs so. absurd (subst IsUncalled so uncalled)) (moved laws version count s made t is quiet n m os now deeds before x) there)

  link : (x : EndId) → IsFollowedTo version s os deeds x → IsFollowedTo version t (all_hear made os) deeds x
  link x l =
      follows-on version t (all_hear made os) x deeds l.pair l.course l.near_deeds l.far_deeds (side x l.pair.near l.near) (side (opposite x) l.pair.far l.far)

  -- every process hears of it
  pub uncalled_stands : Stands version count t m (all_hear made os) deeds
  uncalled_stands =
      record {
        owners = owners-go laws version count s made t is quiet n m os now deeds before each-goes;
        links = λ x. link x (before.links x);
      }

-- each process is told one answer at most in an entry: there is room for it after the entry
pub few-later : (version count : ℕ) (s : Service) (n : ℕ) (os : Owners) (deeds : EndId → List Deed) → Stands version count s n os deeds → AreFew count (suc n) os
few-later version count s n os deeds before i below = let room = (before.owners.each i below).few in omega arith

-- for one process with another status
pub few-still : (count m i : ℕ) (os : Owners) (st : Status) → AreFew count m os → AreFew count m (with_owner i (record (os i) { status = st }) os)
few-still count m i os st few j below = by (pid_tells (process i) (process j))
  where
    by : ((nat_eq i j ≡ true) × (process i ≡ process j)) ⊎ ((nat_eq i j ≡ false) × (i ≡ j → ⊥)) → length (with_owner i (record (os i) { status = st }) os j).state.places + 8 ≤ 8192 + 8 * m
    by (inl same) =
        subst (λ (b : Bool). length (if b then record (os i) { status = st } else os j).state.places + 8 ≤ 8192 + 8 * m) (sym same.0)
        (subst (λ (p : Pid). length (os p.0).state.places + 8 ≤ 8192 + 8 * m) (sym same.1) (few j below))
    by (inr apart) = subst (λ (b : Bool). length (if b then record (os i) { status = st } else os j).state.places + 8 ≤ 8192 + 8 * m) (sym apart.0) (few j below)
