-- The invariant after a step of the service, by how each process goes on.
use Rattle.std.proofs.Common.{◌≡◌, ℕ, ◌+◌, ◌*◌, ◌≤◌, ◌<◌, false, List, [], ◌++◌, length, append-nil, sym, ap, subst, ◌∙◌}
use Rattle.charlotte_calls.specs.declared.calls.ServiceStep.{ServiceStep}
use Rattle.charlotte_calls.specs.declared.names.EndId.{EndId}
use Rattle.service_consistent.proofs.Laws.{consistent_after}
use Rattle.service_lawful.specs.Consistent.{IsConsistent}
use Rattle.service_step.specs.Lawful.{IsHeldAt}
use Rattle.service_step.specs.State.{State as Service}
use Rattle.service_step.specs.Steps.{IsServiceStep}
use Rattle.service_step.specs.declared.state.Place.TheVariants as place
use Rattle.service_streams.specs.Streams.{cancels_send}
use Rattle.run_invariant.specs.Moves.{Moves}
use Rattle.run_invariant.specs.Phases.{ArePhases, next_phase}
use Rattle.end_protocol.specs.declared.messages.Message.{Message}
use Rattle.end_protocol.specs.Deeds.{Deed}
use Rattle.run_invariant.specs.Acted.{process}
use Rattle.run_invariant.specs.Sides.{Side}
use Rattle.run_invariant.specs.Invariant.{AreOwners, IsAlive, IsInOnePlace, IsOwner, IsToldTrue, Owners, Stands, most_brought}
use Rattle.run_invariant.specs.Owners.{IsAskedFor, Owner, Status, phase_of}
use Rattle.run_service_steps.proofs.Courses.{Turned}
use Rattle.run_service_steps.proofs.Custody.{Takes, one-place}
use Rattle.run_service_steps.proofs.Laws.{Laws}
use Rattle.run_service_steps.proofs.StepFacts.{owner-below, same-setting}

-- each with its next status
abbrev pub after : (ℕ → Status) → Owners → Owners
after now os = λ i. record (os i) { status = now i }

-- how a process goes on, but for what is seen at links
pub record Goes (s : Service) (made : ServiceStep) (t : Service) (m i : ℕ) (o : Owner) (st : Status) : Type 0 where
  pub phase : next_phase s (process i) made (phase_of o.status) ≡ phase_of st
  pub asked : IsAskedFor o.state st
  pub few : length o.state.places + most_brought st ≤ 8192 + 8 * m
  pub told : IsToldTrue t i st
  pub takes : IsAlive (record o { status = st }) → (x : EndId) → Takes s made t i o (record o { status = st }) x

module _ (laws : Laws) (version count : ℕ) (s : Service) (made : ServiceStep) (t : Service) (is : IsServiceStep s made t) (quiet : (e : EndId) → cancels_send e made ≡ false)
    (n m : ℕ) (os : Owners) (now : ℕ → Status) (deeds : EndId → List Deed) (before : Stands version count s n os deeds) where
  pub was : IsConsistent s
  was = before.owners.consistent

  pub stays : IsConsistent t
  stays = consistent_after s made t was is

  pub moved : (x : EndId) → Moves s made t x
  moved x = laws.each_end_moves s made t x was quiet is

  pub phases : ArePhases s made t
  phases = laws.processes_go_on s made t was is

  module _ (goes : (i : ℕ) → i < count → Goes s made t m i (os i) (now i)) where
    -- who lives now lived before
    lived : (i : ℕ) (below : i < count) → IsAlive (record (os i) { status = now i }) → IsAlive (os i)
    lived i below alive ended = alive (sym (goes i below).phase ∙ ap (next_phase s (process i) made) ended)

    owner-goes : (i : ℕ) → i < count → IsOwner version t m i (record (os i) { status = now i })
    owner-goes i below =
        record {
          phase = phases (process i) ∙ ap (next_phase s (process i) made) own.phase ∙ next.phase;
          version_is = own.version_is;
          running = own.running;
          asked = next.asked;
          single = own.single;
          few = next.few;
          told = next.told;
          custody = λ alive x. one-place s made t i (os i) (record (os i) { status = now i }) x (own.custody (lived i below alive) x) (next.takes alive x) (moved x);
        }
      where
        own : IsOwner version s n i (os i)
        own = before.owners.each i below

        next : Goes s made t m i (os i) (now i)
        next = goes i below

    pub owners-go : AreOwners version count t m (after now os)
    owners-go =
        record {
          consistent = stays;
          matched = laws.matches_stay s made t was before.owners.matched is;
          version_is = (same-setting s made t is).0 ∙ before.owners.version_is;
          count_is = ap length (same-setting s made t is).1 ∙ before.owners.count_is;
          each = owner-goes;
        }

    -- the owner of an end
    pub owner-there : (x : EndId) (i : ℕ) → (t.ends x).place ≡ place.Owned (process i) → i < count
    owner-there x i own = subst (λ (z : ℕ). i < z) owners-go.count_is (owner-below t x (process i) stays own)

    pub owner-lives : (x : EndId) (i : ℕ) → (t.ends x).place ≡ place.Owned (process i) → IsAlive (record (os i) { status = now i })
    owner-lives x i own ended =
        subst (IsHeldAt t x) own (stays.kept.held.held x) ((owner-goes i (owner-there x i own)).phase ∙ ended)

    pub owner-was : (x : EndId) (i : ℕ) → (t.ends x).place ≡ place.Owned (process i) → IsInOnePlace s (os i) i x × IsToldTrue s i (os i).status
    owner-was x i own =
        let below : i < count = owner-there x i own in
        let there : IsOwner version s n i (os i) = before.owners.each i below in
        (there.custody (lived i below (owner-lives x i own)) x, there.told)

-- nothing is sent
pub unsent-base : (version : ℕ) (t : Service) (os : Owners) (x : EndId) (side : Side) → Turned version t os x (record side { coming = side.coming ++ [] }) → Turned version t os x side
unsent-base version t os x side turned = subst (λ (l : List Message). Turned version t os x (record side { coming = l })) (append-nil side.coming) turned
