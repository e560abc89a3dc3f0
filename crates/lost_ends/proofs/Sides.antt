-- A step of the service keeps each link so: who is to destroy an end sends nothing, and is told of no message.
use Rattle.std.proofs.Common.{arith, ◌≡◌, ◌⊎◌, inl, inr, ⊎_elim, ℕ, ◌+◌, ◌≤◌, ◌<◌, true, false, List, [], ◌++◌, refl, sym, ap, subst, ◌∙◌}
use Rattle.std.proofs.lemmas.Grind.{flat_map-append}
use Rattle.std.specs.List.{Contains}
use Rattle.charlotte_calls.specs.Names.{opposite}
use Rattle.charlotte_calls.specs.declared.calls.Answer.{Answer}
use Rattle.charlotte_calls.specs.declared.calls.Call.{Call}
use Rattle.charlotte_calls.specs.declared.calls.Call.TheVariants as call
use Rattle.charlotte_calls.specs.declared.calls.Report.{Report}
use Rattle.charlotte_calls.specs.declared.calls.ServiceStep.{ServiceStep}
use Rattle.charlotte_calls.specs.declared.calls.ServiceStep.TheVariants as step
use Rattle.charlotte_calls.specs.declared.names.EndId.{EndId}
use Rattle.charlotte_calls.specs.declared.names.Pid.{Pid}
use Rattle.service_lawful.specs.Consistent.{IsConsistent}
use Rattle.service_step.specs.State.{State as Service}
use Rattle.service_step.specs.Steps.{IsServiceStep}
use Rattle.service_step.specs.declared.state.Message.{Message as Sent}
use Rattle.service_step.specs.declared.state.Phase.{Phase}
use Rattle.service_step.specs.declared.state.Phase.TheVariants as phase
use Rattle.service_step.specs.declared.state.Place.TheVariants as place
use Rattle.service_streams.specs.Streams.{cancels_send, given_by, messages, sent_by, told_in}
use Rattle.followed_links.specs.Coming.{ComesSo, coming}
use Rattle.followed_links.specs.Coming as comes
use Rattle.followed_links.specs.Deaths.{AreReceives, IsGone}
use Rattle.followed_links.specs.Moves.{Moves}
use Rattle.followed_links.specs.Moves as moves
use Rattle.followed_links.specs.Phases.{next_phase}
use Rattle.end_protocol.specs.declared.messages.Message.{Message}
use Rattle.end_protocol.specs.Deeds.{Deed}
use Rattle.followed_links.specs.Ledgers.{carried, how_often}
use Rattle.followed_links.proofs.Counting.{both}
use Rattle.followed_links.specs.Acted.{process}
use Rattle.request_law.specs.Law.{ends_in}
use Rattle.followed_links.specs.Sides.{Destroyed, Free, Side, Standing, is_destroyed}
use Rattle.followed_links.specs.Invariant.{AreSpelled, IsAlive, IsInOnePlace, IsOwned, IsSide, IsToldTrue, Owners, Stands}
use Rattle.followed_links.specs.Owners.{Asks, Over, Owner, Pends, Runs, Status, Told, destroying, phase_of}
use Rattle.followed_links.proofs.Courses.{Turned}
use Rattle.followed_links.proofs.Custody.{same-owner}
use Rattle.followed_links.proofs.Sides.{Next, turns}
use Rattle.followed_links.proofs.StepFacts.{its-own, told-owner, waited}
use Rattle.followed_links.proofs.Services.{laws}
use Rattle.lost_ends.proofs.Counting.{ends-of-both, owner-alive, some-or-none, spelled-ends, undestroyed}
use Rattle.lost_ends.specs.Stopped.{IsBy, IsDestroy, IsDestroying, IsFound, IsHasty, IsStopped, doomed_of, ends_of}

-- ---- who is to destroy an end

destroys-so : (x : EndId) (st : Status) → 1 ≤ destroying x st → IsDestroying st
destroys-so x (Asks (call.Destroy y)) some = tt
destroys-so x (Asks call.Make) some = absurd (omega (arith, some))
destroys-so x (Asks (call.Send on bytes xs)) some = absurd (omega (arith, some))
destroys-so x (Asks (call.Receive on)) some = absurd (omega (arith, some))
destroys-so x (Asks (call.Cancel on w)) some = absurd (omega (arith, some))
destroys-so x (Asks call.Wait) some = absurd (omega (arith, some))
destroys-so x (Asks (call.Print bytes)) some = absurd (omega (arith, some))
destroys-so x (Asks call.Exit) some = absurd (omega (arith, some))
destroys-so x (Pends c) some = absurd (omega (arith, some))
destroys-so x (Told c a) some = absurd (omega (arith, some))
destroys-so x Runs some = absurd (omega (arith, some))
destroys-so x Over some = absurd (omega (arith, some))

pub doomed-destroys : (x : EndId) (o : Owner) → IsHasty o → 1 ≤ doomed_of x o → IsDestroying o.status
doomed-destroys x o (inr destroys) some = destroys
doomed-destroys x o (inl none) some =
    let nothing : how_often x o.state.doomed ≡ 0 = ap (how_often x) none in
    destroys-so x o.status (omega (arith, some, nothing))

call-runs : (c : Call) → IsDestroy c → (phase_of (Pends c) ≡ phase.Running) × ((a : Answer) → phase_of (Told c a) ≡ phase.Running)
call-runs (call.Destroy y) is = (refl, λ a. refl)
call-runs call.Make is = absurd is
call-runs (call.Send on bytes xs) is = absurd is
call-runs (call.Receive on) is = absurd is
call-runs (call.Cancel on w) is = absurd is
call-runs call.Wait is = absurd is
call-runs (call.Print bytes) is = absurd is
call-runs call.Exit is = absurd is

destroying-runs : (st : Status) → IsDestroying st → phase_of st ≡ phase.Running
destroying-runs (Asks c) is = refl
destroying-runs (Pends c) is = (call-runs c is).0
destroying-runs (Told c a) is = (call-runs c is).1 a
destroying-runs Runs is = absurd is
destroying-runs Over is = absurd is

-- ---- a step

module _ (version count : ℕ) (s : Service) (made : ServiceStep) (t : Service) (one : IsServiceStep s made t) (keeps : (e : EndId) → cancels_send e made ≡ false) (n m : ℕ) (os qs : Owners) (deeds : EndId → List Deed)
    (before : Stands version count s n os deeds) (after : Stands version count t m qs deeds) where
  pub k : IsConsistent s
  k = before.owners.consistent

  pub moved : (x : EndId) → Moves s made t x
  moved x = laws.each_end_moves s made t x k keeps one

  pub comes-there : (x : EndId) → ComesSo s made t x
  comes-there x = laws.messages_come_in_order s made t x k before.owners.matched (keeps (opposite x)) one

  pub receives : AreReceives s made t
  receives = laws.receives_are_told s made t k one

  -- who owns an end afterwards lived before
  pub owner-before : (x : EndId) (i : ℕ) → (t.ends x).place ≡ place.Owned (process i) → (i < count) × IsInOnePlace s (os i) i x × IsToldTrue s i (os i).status
  owner-before x i own = (there.0, (before.owners.each i there.0).custody lived x, (before.owners.each i there.0).told)
    where
      there : (i < count) × IsAlive (qs i)
      there = owner-alive version count t m qs after.owners (process i) x own

      lived : IsAlive (os i)
      lived ended =
          there.1
          (sym (after.owners.each i there.0).phase ∙ laws.processes_go_on s made t k one (process i)
          ∙ ap (λ (at : Phase). next_phase s (process i) made at) ((before.owners.each i there.0).phase ∙ ended))

  pub gone-stays : (x : EndId) → IsGone s x → IsGone t x
  gone-stays x gone = by (moved x)
    where
      by : Moves s made t x → IsGone t x
      by (moves.Stays same brings) = same ∙ gone
      by (moves.Makes p a b is among was to brings) = let no : place.Unmade ≡ place.Destroyed = sym was ∙ gone in absurd cc
      by (moves.Leaves p e l bytes xs is within on was to brings) = let no : place.Owned p ≡ place.Destroyed = sym was ∙ gone in absurd cc
      by (moves.Lands p e l was to brings gives) = let no : place.InMessage e l ≡ place.Destroyed = sym was ∙ gone in absurd cc
      by (moves.Ends now why brings) = now

  -- ---- an end that stands as the invariant says

  -- it does not become lost
  pub turned-so : (x : EndId) (base : Side) → Turned version t qs x base → IsFound base → (IsGone t x → ⊥) → (IsGone t (opposite x) → ⊥) → IsSide version t qs x base × IsFound base
  turned-so x base turned found lives far_lives = (subst (λ (l : List Message). IsSide version t qs x (record { standing = base.standing; coming = l })) coming_is (subst (λ (st : Standing). IsSide version t qs x (record { standing = st; coming = turned.coming })) standing_is turned.is), found)
    where
      standing_is : turned.standing ≡ base.standing
      standing_is = by turned.stands
        where
          by : (turned.standing ≡ base.standing) ⊎ (turned.standing ≡ Destroyed) → turned.standing ≡ base.standing
          by (inl same) = same
          by (inr gone) =
              let no : true ≡ false = sym (ap is_destroyed gone) ∙ undestroyed version t qs x (record { standing = turned.standing; coming = turned.coming }) turned.is lives in cc

      coming_is : turned.coming ≡ base.coming
      coming_is = ⊎_elim (λ same. same) (λ gone. absurd (far_lives gone.0)) turned.comes

  -- the end goes with a message
  abbrev pub IsLeaving : EndId → Side → Type 0
  IsLeaving x z = (p : Pid) (e : EndId) (l : ℕ) (bytes : List ℕ) (xs : List EndId) → made ≡ step.Send e l bytes xs → Contains xs x → (s.ends e).place ≡ place.Owned p
      → (s.ends x).place ≡ place.Owned p → IsOwned version s (os p.0) p.0 x z → (z.standing ≡ Free) × AreSpelled version z.coming (coming s x)

  module _ (x : EndId) (lives : IsGone t x → ⊥) (far_lives : IsGone t (opposite x) → ⊥) (new : List Message) (sent : AreSpelled version new (messages (sent_by (opposite x) made))) (side : Side) where
    abbrev Base : Side
    Base = record side { coming = side.coming ++ new }

    pub found-goes : ((i : ℕ) → i < count → Next s made i (os i) (qs i) x) → ((t.ends x).place ≡ place.Unmade → new ≡ []) → IsLeaving x side → IsSide version s os x side → IsFound side → IsSide version t qs x Base × IsFound Base
    found-goes next unmade leaving is found =
        turned-so x Base
        (turns version s made t os qs k one receives x (comes-there x) new sent side
        (λ i own. let was = owner-before x i own in (was.1, was.2, next i was.0)) unmade leaving (moved x) is) found lives far_lives

    -- ---- an end that is stopped

    module _ (stopped : IsStopped s os x side) (destroys : IsDestroying (os stopped.owner.0).status)
        (silent : (e : EndId) (l : ℕ) (bytes : List ℕ) (xs : List EndId) → (s.ends e).place ≡ place.Owned stopped.owner → made ≡ step.Send e l bytes xs → ⊥)
        (doomed : 1 ≤ doomed_of x (qs stopped.owner.0)) where
      abbrev p : Pid
      p = stopped.owner

      -- what it owns stays with it, or is destroyed
      stays-its : (y : EndId) → (s.ends y).place ≡ place.Owned p → ((t.ends y).place ≡ place.Owned p) ⊎ IsGone t y
      stays-its y own = by (moved y)
        where
          by : Moves s made t y → ((t.ends y).place ≡ place.Owned p) ⊎ IsGone t y
          by (moves.Stays same brings) = inl (same ∙ own)
          by (moves.Makes q a b is among was to brings) = let no : place.Unmade ≡ place.Owned p = sym was ∙ own in absurd cc
          by (moves.Leaves q e l bytes xs is within on was to brings) =
              absurd (silent e l bytes xs (on ∙ ap (λ (r : Pid). place.Owned r) (same-owner q p (sym was ∙ own))) is)
          by (moves.Lands q e l was to brings gives) = let no : place.InMessage e l ≡ place.Owned p = sym was ∙ own in absurd cc
          by (moves.Ends now why brings) = inr now

      own-then : (t.ends x).place ≡ place.Owned p
      own-then = ⊎_elim (λ own. own) (λ (gone : IsGone t x). absurd (lives gone)) (stays-its x stopped.own)

      below : p.0 < count
      below = (owner-alive version count s n os before.owners p x stopped.own).0

      -- it is told of no message
      untold : told_in x (given_by made) ≡ []
      untold = ⊎_elim (λ none. none) (λ on. absurd (by on.0 on.1 on.2 on.3)) (told-owner s made t x k one)
        where
          by : (q : Pid) (r : Report) → made ≡ step.Report q r → r.on ≡ x → ⊥
          by q r made_so on =
              let report : IsServiceStep s (step.Report q r) t = subst (λ (z : ServiceStep). IsServiceStep s z t) made_so one in
              let its : place.Owned p ≡ place.Owned q = its-own s k q r t report (place.Owned p) (ap (λ (z : EndId). (s.ends z).place) on ∙ stopped.own) refl in
              let waits : (s.process p.0).phase ≡ phase.Waiting = subst (λ (z : Pid). (s.process z.0).phase ≡ phase.Waiting) (sym (same-owner p q its)) (waited s k q r t report) in
              let no : phase.Running ≡ phase.Waiting = sym ((before.owners.each p.0 below).phase ∙ destroying-runs (os p.0).status destroys) ∙ waits in cc

      coming-then : coming t x ≡ coming s x ++ messages (sent_by (opposite x) made)
      coming-then = by (comes-there x)
        where
          by : ComesSo s made t x → coming t x ≡ coming s x ++ messages (sent_by (opposite x) made)
          by (comes.Goes goes) = sym (ap (λ (l : List Sent). l ++ coming t x) untold) ∙ goes
          by (comes.Drops gone none prefix) = absurd (far_lives gone)
          by (comes.Gone gone) = absurd (lives gone)

      often-then : (y : EndId) → how_often y (ends_of (coming t x)) ≡ how_often y (ends_of (coming s x)) + how_often y (ends_of (messages (sent_by (opposite x) made)))
      often-then y = ap (λ (l : List Sent). how_often y (ends_of l)) coming-then ∙ ends-of-both y (coming s x) (messages (sent_by (opposite x) made))

      is-by : (y : EndId) → IsBy s p x y → IsBy t p x y
      is-by y (inl own) = ⊎_elim (λ still. inl still) (λ (gone : IsGone t y). inr (inr gone)) (stays-its y own)
      is-by y (inr (inl some)) = let all = often-then y in inr (inl (omega (arith, some, all)))
      is-by y (inr (inr gone)) = inr (inr (gone-stays y gone))

      new-coming : (y : EndId) → how_often y (ends_in (side.coming ++ new)) ≡ how_often y (ends_in side.coming) + how_often y (ends_of (messages (sent_by (opposite x) made)))
      new-coming y =
          ap (how_often y) (flat_map-append (λ (z : Message). z.ends) side.coming new) ∙ both y (ends_in side.coming) (ends_in new)
          ∙ ap (λ (l : List EndId). how_often y (ends_in side.coming) + how_often y l) (spelled-ends version new (messages (sent_by (opposite x) made)) sent)

      there-then : (y : EndId) → 1 ≤ how_often y (carried stopped.kept) + how_often y (ends_in (side.coming ++ new)) → IsBy t p x y
      there-then y there =
          let all = new-coming y in
          let later = often-then y in
          ⊎_elim (λ (some : 1 ≤ how_often y (carried stopped.kept) + how_often y (ends_in side.coming)). is-by y (stopped.there y some))
          (λ (none : how_often y (carried stopped.kept) + how_often y (ends_in side.coming) < 1). inr (inl (omega (arith, there, all, later, none))))
          (some-or-none (how_often y (carried stopped.kept) + how_often y (ends_in side.coming)))

      pub stopped-goes : IsStopped t qs x Base
      stopped-goes = record { owner = p; own = own-then; doomed = doomed; kept = stopped.kept; standing = stopped.standing; there = there-then }
