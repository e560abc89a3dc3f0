-- A step of the service that is no process's call keeps each link so; and so does a Print, which has no step there.
use Rattle.std.proofs.Common.{arith, ◌≡◌, ◌⊎◌, inl, inr, ℕ, ◌+◌, ◌≤◌, ◌<◌, nat_eq, if◌then◌else◌, Bool, true, false, List, [], ◌++◌, Some, refl, sym, ap, subst, append-nil, eqb-true}
use Rattle.charlotte_calls.specs.Names.{opposite}
use Rattle.charlotte_calls.specs.declared.calls.Answer.TheVariants as answer
use Rattle.charlotte_calls.specs.declared.calls.Call.TheVariants as call
use Rattle.charlotte_calls.specs.declared.calls.ServiceStep.{ServiceStep}
use Rattle.charlotte_calls.specs.declared.names.EndId.{EndId}
use Rattle.charlotte_calls.specs.declared.names.Pid.{Pid}
use Rattle.service_change.proofs.Counts.{pid_tells}
use Rattle.service_change.proofs.EndEq.{opposite-opposite}
use Rattle.service_step.specs.State.{State as Service}
use Rattle.service_step.specs.Steps.{IsServiceStep}
use Rattle.service_step.specs.declared.state.Place.{Place}
use Rattle.service_step.specs.declared.state.Place.TheVariants as place
use Rattle.service_streams.specs.Streams.{cancels_send, messages, sent_by}
use Rattle.service_streams.specs.Streams as streams
use Rattle.followed_links.specs.Deaths.{IsGone}
use Rattle.followed_links.specs.Moves.{brings}
use Rattle.followed_links.specs.Entries.{IsUncalled}
use Rattle.end_protocol.specs.declared.messages.Message.{Message}
use Rattle.end_protocol.specs.Deeds.{Deed}
use Rattle.process_run.specs.States.{Asked, Holding, State}
use Rattle.process_run.specs.Ends.{number_of}
use Rattle.followed_links.specs.Asking.{IsCallOf}
use Rattle.followed_links.specs.AtEnd.{is_sent}
use Rattle.followed_links.specs.Acted.{process}
use Rattle.followed_links.specs.Sides.{Lost, Side}
use Rattle.followed_links.specs.Hearing.{all_hear, hears_step, with_owner}
use Rattle.followed_links.specs.Invariant.{AreSpelled, HasReceive, IsOwned, IsSideAt, IsStandingIn, Owners, Stands}
use Rattle.followed_links.specs.Owners.{Asks, IsAskedFor, Over, Owner, Pends, Runs, Status, Told, destroying, seen_of, turn_of}
use Rattle.followed_links.proofs.Callers.{with}
use Rattle.followed_links.proofs.Heard.{hears}
use Rattle.followed_links.proofs.HeardSides.{goes, unanswered-receive}
use Rattle.followed_links.proofs.Seen.{IsUnsent, holding-same, out-more, unanswered}
use Rattle.followed_links.proofs.Sides.{Next, standing-moves}
use Rattle.followed_links.proofs.StepFacts.{uncalled-keeps, uncalled-sends}
use Rattle.lost_ends.specs.Stopped.{AreFollowedSo, IsDestroying, IsFollowedSo, IsHasty, IsSideSo, doomed_of}
use Rattle.lost_ends.proofs.Hasty.{hears-destroying}
use Rattle.lost_ends.proofs.Sides.{doomed-destroys, found-goes, gone-stays, stopped-goes}
use Rattle.lost_ends.proofs.ProcessSteps.{each-so}

-- nothing is sent
pub unsent-so : (version : ℕ) (t : Service) (os : Owners) (x : EndId) (side : Side) → IsSideSo version t os x (record side { coming = side.coming ++ [] }) → IsSideSo version t os x side
unsent-so version t os x side so = subst (λ (l : List Message). IsSideSo version t os x (record side { coming = l })) (append-nil side.coming) so

-- what a process hears does not change what it is to destroy
hears-more : (x : EndId) (i : ℕ) (made : ServiceStep) (st : Status) → destroying x st ≤ destroying x (hears_step i made st)
hears-more x i made (Asks c) = omega arith
hears-more x i made (Pends c) = omega arith
hears-more x i made (Told c a) = omega arith
hears-more x i made Runs = omega arith
hears-more x i made Over = omega arith

module _ (version count : ℕ) (s : Service) (made : ServiceStep) (t : Service) (one : IsServiceStep s made t) (uncalled : IsUncalled made) (n m : ℕ) (os : Owners) (deeds : EndId → List Deed)
    (before : Stands version count s n os deeds) (after : Stands version count t m (all_hear made os) deeds) (so : AreFollowedSo version s os deeds) where
  abbrev qs : Owners
  qs = all_hear made os

  quiet : (e : EndId) → cancels_send e made ≡ false
  quiet = uncalled-keeps made uncalled

  next : (x : EndId) (i : ℕ) → i < count → Next s made i (os i) (qs i) x
  next x i below =
      (goes s made t before.owners.consistent one uncalled i (os i).state x (os i).status (hears_step i made (os i).status)
      (hears s made t before.owners.consistent one uncalled i (os i).status (before.owners.each i below).phase) (before.owners.each i below).asked).0

  side : (x : EndId) (z : Side) → (IsGone t x → ⊥) → (IsGone t (opposite x) → ⊥) → IsSideSo version s os x z → IsSideSo version t qs x z
  side x z lives far_lives is = unsent-so version t qs x z (by is)
    where
      sent : AreSpelled version [] (messages (sent_by (opposite x) made))
      sent = subst (λ (l : List streams.Sent). AreSpelled version [] (messages l)) (sym (uncalled-sends made uncalled (opposite x))) tt

      by : IsSideSo version s os x z → IsSideSo version t qs x (record z { coming = z.coming ++ [] })
      by (inl (side_is, found)) =
          inl (found-goes version count s made t one quiet n m os qs deeds before after x lives far_lives [] sent z (next x) (λ unmade. refl) (λ p e l bytes xs made_so. absurd (subst IsUncalled made_so uncalled)) side_is found)
      by (inr stopped) =
          inr (stopped-goes version count s made t one quiet n m os qs deeds before after x lives far_lives [] sent z stopped
          (doomed-destroys x (os stopped.owner.0) (so.hasty stopped.owner.0) stopped.doomed) (λ e l bytes xs own made_so. subst IsUncalled made_so uncalled)
          (let more = hears-more x stopped.owner.0 made (os stopped.owner.0).status in let was = stopped.doomed in omega (arith, more, was)))

  link : (x : EndId) → (IsGone t x → ⊥) → (IsGone t (opposite x) → ⊥) → IsFollowedSo version t qs deeds x
  link x lives far_lives =
      let stay = gone-stays version count s made t one quiet n m os qs deeds before after in
      let f : IsFollowedSo version s os deeds x = so.links x (λ gone. lives (stay x gone)) (λ gone. far_lives (stay (opposite x) gone)) in
      record {
        pair = f.pair;
        course = f.course;
        near = side x f.pair.near lives far_lives f.near;
        far = side (opposite x) f.pair.far far_lives (λ gone. lives (subst (λ (y : EndId). IsGone t y) (opposite-opposite x) gone)) f.far;
        near_deeds = f.near_deeds;
        far_deeds = f.far_deeds;
      }

  hasty : (i : ℕ) → IsHasty (qs i)
  hasty i = by (so.hasty i)
    where
      by : IsHasty (os i) → IsHasty (qs i)
      by (inl none) = inl none
      by (inr destroys) = inr (hears-destroying i made (os i).status destroys)

  pub uncalled-so : AreFollowedSo version t qs deeds
  uncalled-so = record { hasty = hasty; links = link }

-- ---- a Print

module _ (version : ℕ) (s : Service) (i : ℕ) (state : State) (bytes : List ℕ) (asked : IsCallOf state (call.Print bytes)) where
  abbrev asks : Owner
  asks = with state (Asks (call.Print bytes))

  abbrev printed : Owner
  printed = with state (Told (call.Print bytes) answer.Ok)

  unsent : IsUnsent printed
  unsent k = ap (λ (z : Asked). is_sent z (Some answer.Ok) k) asked.1

  still-owned : (x : EndId) (z : Side) → IsOwned version s asks i x z → IsOwned version s printed i x z
  still-owned x z there = record {
    standing =
        subst (λ (g : Holding). IsStandingIn (brings s (process i) x) (seen_of printed x) g z.standing) (sym same_holding)
        (standing-moves (brings s (process i) x) (brings s (process i) x) (seen_of asks x) (seen_of printed x) (seen_of asks x).holding z.standing (λ some. let same = same_out in omega (arith, some, same)) there.standing);
    receive = λ received. by (there.receive received);
    coming_is = there.coming_is;
  }
    where
      same_holding : (seen_of printed x).holding ≡ (seen_of asks x).holding
      same_holding = holding-same asks (Told (call.Print bytes) answer.Ok) x (unanswered state.asked) unsent

      same_out : (seen_of printed x).out + 0 ≡ (seen_of asks x).out + 0
      same_out = out-more asks (Told (call.Print bytes) answer.Ok) x (unanswered state.asked) unsent

      by : HasReceive (turn_of asks) (number_of x state.places) (seen_of asks x).holding ⊎ (z.standing ≡ Lost) → HasReceive (turn_of printed) (number_of x state.places) (seen_of printed x).holding ⊎ (z.standing ≡ Lost)
      by (inl has) = inl (subst (λ (g : Holding). HasReceive (turn_of printed) (number_of x state.places) g) (sym same_holding) (unanswered-receive asks printed refl (number_of x state.places) (seen_of asks x).holding has))
      by (inr lost) = inr lost

module _ (version count : ℕ) (s : Service) (n : ℕ) (os : Owners) (deeds : EndId → List Deed) (before : Stands version count s n os deeds) (so : AreFollowedSo version s os deeds) (i : ℕ) (below : i < count) (bytes : List ℕ)
    (status : (os i).status ≡ Asks (call.Print bytes)) where
  abbrev now : Owner
  now = record (os i) { status = Told (call.Print bytes) answer.Ok }

  abbrev rs : Owners
  rs = with_owner i now os

  was : os i ≡ with (os i).state (Asks (call.Print bytes))
  was = ap (with (os i).state) status

  its : IsCallOf (os i).state (call.Print bytes)
  its = subst (IsAskedFor (os i).state) status (before.owners.each i below).asked

  owned-still : (x : EndId) (z : Side) (p : Pid) → IsOwned version s (os p.0) p.0 x z → IsOwned version s (rs p.0) p.0 x z
  owned-still x z p there = by (pid_tells (process i) p)
    where
      by : ((nat_eq i p.0 ≡ true) × (process i ≡ p)) ⊎ ((nat_eq i p.0 ≡ false) × (i ≡ p.0 → ⊥)) → IsOwned version s (rs p.0) p.0 x z
      by (inl same) =
          subst (λ (b : Bool). IsOwned version s (if b then now else os p.0) p.0 x z) (sym same.0)
          (subst (λ (r : Pid). IsOwned version s now r.0 x z) same.1
          (still-owned version s i (os i).state bytes its x z (subst (λ (o : Owner). IsOwned version s o i x z) was (subst (λ (r : Pid). IsOwned version s (os r.0) r.0 x z) (sym same.1) there))))
      by (inr apart) = subst (λ (b : Bool). IsOwned version s (if b then now else os p.0) p.0 x z) (sym apart.0) there

  printed-side : (x : EndId) (z : Side) (at : Place) → IsSideAt version s os x z at → IsSideAt version s rs x z at
  printed-side x z place.Unmade there = there
  printed-side x z (place.InMessage e k) there = there
  printed-side x z place.Destroyed there = there
  printed-side x z (place.Owned p) there = owned-still x z p there

  -- it is no Destroy
  doomed-still : (x : EndId) (j : ℕ) → 1 ≤ doomed_of x (os j) → 1 ≤ doomed_of x (rs j)
  doomed-still x j some = by (nat_eq i j) refl
    where
      by : (b : Bool) → nat_eq i j ≡ b → 1 ≤ doomed_of x (if b then now else os j)
      by true e =
          let all : 1 ≤ doomed_of x (os i) = subst (λ (k : ℕ). 1 ≤ doomed_of x (os k)) (sym (eqb-true i j e)) some in
          let none : destroying x (os i).status ≡ 0 = ap (destroying x) status in
          omega (arith, all, none)
      by false e = some

  print-side : (x : EndId) (z : Side) → IsSideSo version s os x z → IsSideSo version s rs x z
  print-side x z (inl (is, found)) = inl (printed-side x z (s.ends x).place is, found)
  print-side x z (inr stopped) =
      inr (record { owner = stopped.owner; own = stopped.own; doomed = doomed-still x stopped.owner.0 stopped.doomed; kept = stopped.kept; standing = stopped.standing; there = stopped.there })

  pub print-so : AreFollowedSo version s rs deeds
  print-so = record {
    hasty = each-so i now os IsHasty (by (so.hasty i)) so.hasty;
    links = λ x lives far_lives.
        let f = so.links x lives far_lives in
        record { pair = f.pair; course = f.course; near = print-side x f.pair.near f.near; far = print-side (opposite x) f.pair.far f.far; near_deeds = f.near_deeds; far_deeds = f.far_deeds };
  }
    where
      by : IsHasty (os i) → IsHasty now
      by (inl none) = inl none
      by (inr destroys) = absurd (subst (λ (st : Status). IsDestroying st) status destroys)
