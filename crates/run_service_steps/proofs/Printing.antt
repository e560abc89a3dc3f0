-- A Print keeps the invariant: it has no step in the service, and is answered at once.
use Rattle.std.proofs.Common.{◌≡◌, ◌⊎◌, inl, inr, ℕ, ◌+◌, ◌*◌, ◌≤◌, ◌<◌, nat_eq, Bool, true, false, if◌then◌else◌, Some, List, length, refl, sym, ap, subst, arith}
use Rattle.charlotte_calls.specs.Names.{opposite}
use Rattle.charlotte_calls.specs.declared.calls.Answer.TheVariants as answer
use Rattle.charlotte_calls.specs.declared.calls.Call.TheVariants as call
use Rattle.charlotte_calls.specs.declared.names.EndId.{EndId}
use Rattle.charlotte_calls.specs.declared.names.Pid.{Pid}
use Rattle.service_change.proofs.Counts.{pid_tells}
use Rattle.service_step.specs.State.{State as Service}
use Rattle.service_step.specs.declared.state.Place.{Place}
use Rattle.service_step.specs.declared.state.Place.TheVariants as place
use Rattle.run_invariant.specs.Moves.{brings}
use Rattle.end_protocol.specs.Deeds.{Deed}
use Rattle.run_invariant.specs.Ends.{number_of}
use Rattle.run_invariant.specs.States.{Asked, Holding, State}
use Rattle.run_invariant.specs.Asking.{IsCallOf}
use Rattle.run_invariant.specs.AtEnd.{is_sent, total}
use Rattle.run_invariant.specs.Acted.{process}
use Rattle.run_invariant.specs.Sides.{Lost, Side}
use Rattle.run_invariant.specs.Hearing.{with_owner}
use Rattle.run_invariant.specs.Invariant.{HasReceive, IsFollowedTo, IsInOnePlace, IsOwned, IsOwner, IsSideAt, IsStandingIn, Owners, Stands, has_of, most_brought}
use Rattle.run_invariant.specs.Owners.{Asks, IsAskedFor, Owner, Told, seen_of, turn_of}
use Rattle.run_service_steps.proofs.Callers.{with}
use Rattle.run_service_steps.proofs.HeardSides.{unanswered-receive}
use Rattle.run_service_steps.proofs.Seen.{IsUnsent, holding-same, out-more, total-more, unanswered}
use Rattle.run_service_steps.proofs.ServiceSteps.{AreFew, brings-few}
use Rattle.run_service_steps.proofs.Sides.{standing-moves}

module _ (version count : ℕ) (s : Service) (n m : ℕ) (i : ℕ) (state : State) (bytes : List ℕ) (asked : IsCallOf state (call.Print bytes)) where
  abbrev asks : Owner
  asks = with state (Asks (call.Print bytes))

  abbrev printed : Owner
  printed = with state (Told (call.Print bytes) answer.Ok)

  unsent : IsUnsent printed
  unsent k = ap (λ (z : Asked). is_sent z (Some answer.Ok) k) asked.1

  same-has : (x : EndId) → has_of printed x ≡ has_of asks x
  same-has x =
      let more : total (seen_of printed x) + 0 ≡ total (seen_of asks x) + 0 = total-more asks (Told (call.Print bytes) answer.Ok) x (unanswered state.asked) unsent in
      omega arith

  in-place : (x : EndId) → IsInOnePlace s asks i x → IsInOnePlace s printed i x
  in-place x there = let same = same-has x in let one = there.one in record { one = omega arith; own = λ some. there.own (omega arith) }

  still-owned : (x : EndId) (z : Side) → IsOwned version s asks i x z → IsOwned version s printed i x z
  still-owned x z there =
      record {
        standing =
            subst (λ (g : Holding). IsStandingIn (brings s (process i) x) (seen_of printed x) g z.standing) (sym same-holding)
            (standing-moves (brings s (process i) x) (brings s (process i) x) (seen_of asks x) (seen_of printed x) (seen_of asks x).holding z.standing (λ some. let same = same-out in omega arith) there.standing);
        receive = λ received. by (there.receive received);
        coming_is = there.coming_is;
      }
    where
      same-holding : (seen_of printed x).holding ≡ (seen_of asks x).holding
      same-holding = holding-same asks (Told (call.Print bytes) answer.Ok) x (unanswered state.asked) unsent

      same-out : (seen_of printed x).out + 0 ≡ (seen_of asks x).out + 0
      same-out = out-more asks (Told (call.Print bytes) answer.Ok) x (unanswered state.asked) unsent

      by : HasReceive (turn_of asks) (number_of x state.places) (seen_of asks x).holding ⊎ (z.standing ≡ Lost) → HasReceive (turn_of printed) (number_of x state.places) (seen_of printed x).holding ⊎ (z.standing ≡ Lost)
      by (inl has) = inl (subst (λ (g : Holding). HasReceive (turn_of printed) (number_of x state.places) g) (sym same-holding) (unanswered-receive asks printed refl (number_of x state.places) (seen_of asks x).holding has))
      by (inr lost) = inr lost

  owner-prints : length state.places + 8 ≤ 8192 + 8 * m → IsOwner version s n i asks → IsOwner version s m i printed
  owner-prints room own =
      record {
        phase = own.phase;
        version_is = own.version_is;
        running = own.running;
        asked = own.asked;
        single = own.single;
        few = room;
        told = tt;
        custody = λ alive x. in-place x (own.custody (λ ended. alive ended) x);
      }

-- another process
pub more-room : (version : ℕ) (s : Service) (n m j : ℕ) (o : Owner) → length o.state.places + most_brought o.status ≤ 8192 + 8 * m → IsOwner version s n j o → IsOwner version s m j o
more-room version s n m j o room own =
    record {
      phase = own.phase;
      version_is = own.version_is;
      running = own.running;
      asked = own.asked;
      single = own.single;
      few = room;
      told = own.told;
      custody = own.custody;
    }

module _ (version count : ℕ) (s : Service) (n m : ℕ) (os : Owners) (deeds : EndId → List Deed) (before : Stands version count s n os deeds) (few : AreFew count m os) (i : ℕ) (below : i < count) (bytes : List ℕ)
    (status : (os i).status ≡ Asks (call.Print bytes)) where
  abbrev after : Owners
  after = with_owner i (record (os i) { status = Told (call.Print bytes) answer.Ok }) os

  was : os i ≡ with (os i).state (Asks (call.Print bytes))
  was = ap (with (os i).state) status

  its : IsCallOf (os i).state (call.Print bytes)
  its = subst (IsAskedFor (os i).state) status (before.owners.each i below).asked

  each : (j : ℕ) → j < count → IsOwner version s m j (after j)
  each j there = by (pid_tells (process i) (process j))
    where
      by : ((nat_eq i j ≡ true) × (process i ≡ process j)) ⊎ ((nat_eq i j ≡ false) × (i ≡ j → ⊥)) → IsOwner version s m j (after j)
      by (inl same) =
          subst (λ (b : Bool). IsOwner version s m j (if b then record (os i) { status = Told (call.Print bytes) answer.Ok } else os j)) (sym same.0)
          (subst (λ (p : Pid). IsOwner version s m p.0 (record (os i) { status = Told (call.Print bytes) answer.Ok })) same.1
          (owner-prints version count s n m i (os i).state bytes its (few i below) (subst (IsOwner version s n i) was (before.owners.each i below))))
      by (inr apart) =
          subst (λ (b : Bool). IsOwner version s m j (if b then record (os i) { status = Told (call.Print bytes) answer.Ok } else os j)) (sym apart.0)
          (more-room version s n m j (os j) (let room = few j there in let some = brings-few (os j).status in omega arith) (before.owners.each j there))

  side : (x : EndId) (z : Side) (at : Place) → IsSideAt version s os x z at → IsSideAt version s after x z at
  side x z place.Unmade there = there
  side x z (place.InMessage e k) there = there
  side x z place.Destroyed there = there
  side x z (place.Owned p) there = by (pid_tells (process i) p)
    where
      by : ((nat_eq i p.0 ≡ true) × (process i ≡ p)) ⊎ ((nat_eq i p.0 ≡ false) × (i ≡ p.0 → ⊥)) → IsOwned version s (after p.0) p.0 x z
      by (inl same) =
          subst (λ (b : Bool). IsOwned version s (if b then record (os i) { status = Told (call.Print bytes) answer.Ok } else os p.0) p.0 x z) (sym same.0)
          (subst (λ (r : Pid). IsOwned version s (record (os i) { status = Told (call.Print bytes) answer.Ok }) r.0 x z) same.1
          (still-owned version count s n m i (os i).state bytes its x z (subst (λ (o : Owner). IsOwned version s o i x z) was (subst (λ (r : Pid). IsOwned version s (os r.0) r.0 x z) (sym same.1) there))))
      by (inr apart) = subst (λ (b : Bool). IsOwned version s (if b then record (os i) { status = Told (call.Print bytes) answer.Ok } else os p.0) p.0 x z) (sym apart.0) there

  link : (x : EndId) → IsFollowedTo version s os deeds x → IsFollowedTo version s after deeds x
  link x l =
      record {
        pair = l.pair;
        course = l.course;
        near = side x l.pair.near (s.ends x).place l.near;
        far = side (opposite x) l.pair.far (s.ends (opposite x)).place l.far;
        near_deeds = l.near_deeds;
        far_deeds = l.far_deeds;
      }

  pub print_stands : Stands version count s m after deeds
  print_stands =
      record {
        owners =
            record {
              consistent = before.owners.consistent;
              matched = before.owners.matched;
              version_is = before.owners.version_is;
              count_is = before.owners.count_is;
              each = each;
            };
        links = λ x. link x (before.links x);
      }
