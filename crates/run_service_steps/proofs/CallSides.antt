-- How each process goes on with the step of a call.
use Rattle.std.proofs.Common.{◌≡◌, ◌⊎◌, inl, inr, ℕ, ◌≤◌, ◌<◌, Option, Some, None, List, refl, sym, ap, subst, ◌∙◌, arith}
use Rattle.charlotte_calls.specs.declared.calls.Answer.TheVariants as answer
use Rattle.charlotte_calls.specs.declared.calls.Call.{Call}
use Rattle.charlotte_calls.specs.declared.calls.Call.TheVariants as call
use Rattle.charlotte_calls.specs.declared.calls.Cause.{Cause}
use Rattle.charlotte_calls.specs.declared.calls.Cause.TheVariants as cause
use Rattle.charlotte_calls.specs.declared.calls.ServiceStep.{ServiceStep}
use Rattle.charlotte_calls.specs.declared.calls.ServiceStep.TheVariants as step
use Rattle.charlotte_calls.specs.declared.names.EndId.{EndId}
use Rattle.charlotte_calls.specs.declared.names.Pid.{Pid}
use Rattle.charlotte_calls.specs.declared.names.Way.{Way}
use Rattle.charlotte_calls.specs.declared.names.Way.TheVariants as way
use Rattle.service_lawful.specs.Consistent.{IsConsistent}
use Rattle.service_step.specs.State.{State as Service}
use Rattle.service_step.specs.Steps.{IsServiceStep, step_number}
use Rattle.service_step.specs.declared.state.Phase.TheVariants as phase
use Rattle.service_step.specs.declared.state.Place.TheVariants as place
use Rattle.run_invariant.specs.Deaths.{AreDeathsTrue, AreReceives, IsGone}
use Rattle.run_invariant.specs.Moves.{Moves}
use Rattle.run_invariant.specs.Moves as moves
use Rattle.run_invariant.specs.Phases.{next_phase}
use Rattle.end_protocol.specs.Deeds.{Deed}
use Rattle.run_invariant.specs.Ends.{place_at}
use Rattle.run_invariant.specs.Reports.{holding_of}
use Rattle.run_invariant.specs.States.{Asked, Keeps, State}
use Rattle.run_invariant.specs.Asking.{IsCallOf}
use Rattle.run_invariant.specs.AtEnd.{AreSingle, Seen, held_count, is_sent}
use Rattle.run_invariant.specs.Acted.{process}
use Rattle.run_invariant.specs.Invariant.{IsAlive, IsOwner, IsToldTrue, Owners, Stands, has_of, most_brought}
use Rattle.run_invariant.specs.Owners.{Asks, IsAskedFor, Owner, Status, Told, phase_of, seen_of}
use Rattle.run_service_steps.proofs.Callers.{has-one, own-next, own-takes, with}
use Rattle.run_service_steps.proofs.Custody.{Takes, same-owner}
use Rattle.run_service_steps.proofs.Laws.{Laws}
use Rattle.run_service_steps.proofs.Owning.{Cancels, Destroys, Exits, IsQuiet, Makes, Owns, Receives, Refuses, Sends, Waits, on_of, others-run, others-stay, own-asked, own-phase, own-quiet}
use Rattle.run_service_steps.proofs.Seen.{IsUnsent, seen-so}
use Rattle.run_service_steps.proofs.ServiceSteps.{AreFew, brings-few}
use Rattle.run_service_steps.proofs.Sides.{Next}
use Rattle.run_service_steps.proofs.Sides as sides
use Rattle.run_service_steps.proofs.Standing.{Goes}
use Rattle.run_service_steps.proofs.StepFacts.{given-brought}
use Rattle.run_service_steps.proofs.TrueTold.{told-stays}

-- the end on which a step is made by its owner
abbrev pub step_on : ServiceStep → Option EndId
step_on (step.Destroy e) = Some e
step_on (step.Send e n bytes xs) = Some e
step_on (step.Receive e) = Some e
step_on (step.Cancel e w) = Some e
step_on made = None

no-end : (x : EndId) → ◌≡◌ {A = Option EndId} None (Some x) → ⊥
no-end x e = cc

-- it is the end of the call
own-on : (i : ℕ) (made : ServiceStep) (c : Call) (st : Status) → Owns i made c st → (x : EndId) → step_on made ≡ Some x → on_of c ≡ Some x
own-on i made _ _ (Refuses c why so) x on = absurd (no-end x (sym (ap step_on so) ∙ on))
own-on i made _ _ (Makes a b so) x on = absurd (no-end x (sym (ap step_on so) ∙ on))
own-on i made _ _ (Destroys y so) x on = sym (ap step_on so) ∙ on
own-on i made _ _ (Sends e bytes xs n so) x on = sym (ap step_on so) ∙ on
own-on i made _ _ (Receives y so) x on = sym (ap step_on so) ∙ on
own-on i made _ _ (Cancels y so) x on = sym (ap step_on so) ∙ on
own-on i made _ _ (Waits so) x on = absurd (no-end x (sym (ap step_on so) ∙ on))
own-on i made _ _ (Exits so) x on = absurd (no-end x (sym (ap step_on so) ∙ on))

-- the process of an Exit
own-exit : (i : ℕ) (made : ServiceStep) (c : Call) (st : Status) → Owns i made c st → (p : Pid) → made ≡ step.Exit p → p ≡ process i
own-exit i made _ _ (Refuses c why so) p also = let differ : step_number (step.Refuse (process i) c why) ≡ 9 = ap step_number (sym so ∙ also) in absurd (omega arith)
own-exit i made _ _ (Makes a b so) p also = let differ : step_number (step.Make (process i) a b) ≡ 9 = ap step_number (sym so ∙ also) in absurd (omega arith)
own-exit i made _ _ (Destroys y so) p also = let differ : step_number (step.Destroy y) ≡ 9 = ap step_number (sym so ∙ also) in absurd (omega arith)
own-exit i made _ _ (Sends e bytes xs n so) p also = let differ : step_number (step.Send e n bytes xs) ≡ 9 = ap step_number (sym so ∙ also) in absurd (omega arith)
own-exit i made _ _ (Receives y so) p also = let differ : step_number (step.Receive y) ≡ 9 = ap step_number (sym so ∙ also) in absurd (omega arith)
own-exit i made _ _ (Cancels y so) p also = let differ : step_number (step.Cancel y way.Inward) ≡ 9 = ap step_number (sym so ∙ also) in absurd (omega arith)
own-exit i made _ _ (Waits so) p also = let differ : step_number (step.Wait (process i)) ≡ 9 = ap step_number (sym so ∙ also) in absurd (omega arith)
own-exit i made _ _ (Exits so) p also = same p (process i) (sym also ∙ so)
  where
    same : (p q : Pid) → step.Exit p ≡ step.Exit q → p ≡ q
    same p q e = cc

-- a process that was told of its Cancel holds the end
has-cancelled : (state : State) (x : EndId) (w : Way) → AreSingle state.places → IsCallOf state (call.Cancel x w) → 1 ≤ has_of (with state (Told (call.Cancel x w) answer.Ok)) x
has-cancelled state x w single asked = let one = ap held_count keeps in omega arith
  where
    unsent : IsUnsent (with state (Told (call.Cancel x w) answer.Ok))
    unsent n = ap (λ (z : Asked). is_sent z (Some answer.Ok) n) asked.0.asked

    keeps : (seen_of (with state (Told (call.Cancel x w) answer.Ok)) x).holding ≡ Keeps asked.0.kept
    keeps =
        ap (λ (a : Seen). a.holding) (seen-so (with state (Told (call.Cancel x w) answer.Ok)) x unsent)
        ∙ ap (λ (m : ℕ). holding_of (place_at m state.places)) (sym (single asked.0.number x asked.0.kept asked.0.held)) ∙ ap holding_of asked.0.held

module _ (laws : Laws) (version count : ℕ) (s : Service) (made : ServiceStep) (t : Service) (is : IsServiceStep s made t) (n m : ℕ) (os : Owners) (deeds : EndId → List Deed)
    (before : Stands version count s n os deeds) (few : AreFew count m os) (i : ℕ) (below : i < count) (c : Call) (asks : (os i).status ≡ Asks c) (st : Status) (owns : Owns i made c st) where
  pub consistent : IsConsistent s
  consistent = before.owners.consistent

  pub own : IsOwner version s n i (os i)
  own = before.owners.each i below

  pub asked : IsCallOf (os i).state c
  asked = subst (IsAskedFor (os i).state) asks own.asked

  pub quiet : IsQuiet made
  quiet = own-quiet i made c st owns

  pub its : os i ≡ with (os i).state (Asks c)
  its = ap (with (os i).state) asks

  pub alive : IsAlive (os i)
  alive ended = let differ : phase.Running ≡ phase.Ended = sym (ap phase_of asks) ∙ ended in cc

  pub on-owned : (x : EndId) → on_of c ≡ Some x → (s.ends x).place ≡ place.Owned (process i)
  on-owned x on =
      let has : 1 ≤ has_of (os i) x = subst (λ (o : Owner). 1 ≤ has_of o x) (sym its) (has-one (os i).state c x on own.single asked) in
      (own.custody alive x).own (omega arith)

  pub step-owned : (x : EndId) → step_on made ≡ Some x → (s.ends x).place ≡ place.Owned (process i)
  step-owned x on = on-owned x (own-on i made c st owns x on)

  pub receives : AreReceives s made t
  receives = laws.receives_are_told s made t consistent is

  truly : AreDeathsTrue s made t
  truly = laws.deaths_are_true s made t consistent is

  pub moved : (x : EndId) → Moves s made t x
  moved x = laws.each_end_moves s made t x consistent quiet.keeps is

  -- ---- whose call it is

  refused-true : (d : Call) (why : Cause) → made ≡ step.Refuse (process i) d why → IsToldTrue t i (Told d (answer.Refused why))
  refused-true d cause.Dead so = λ x on. inr (truly.refused (process i) d x so on)
  refused-true d _ so = tt

  own-told : (d : Call) (now : Status) → Owns i made d now → IsToldTrue t i now
  own-told _ _ (Refuses d why so) = refused-true d why so
  own-told _ _ (Makes a b so) = tt
  own-told _ _ (Destroys y so) = tt
  own-told _ _ (Sends e bytes xs k so) = tt
  own-told _ _ (Receives y so) = tt
  own-told _ _ (Cancels y so) = tt
  own-told _ _ (Waits so) = tt
  own-told _ _ (Exits so) = tt

  pub own-goes : Goes s made t m i (os i) st
  own-goes =
      record {
        phase = ap (λ (o : Owner). next_phase s (process i) made (phase_of o.status)) its ∙ own-phase s made t is i c st owns on-owned;
        asked = own-asked i made (os i).state c st owns asked;
        few = let some : most_brought st ≤ 8 = brings-few st in let room = few i below in omega arith;
        told = own-told c st owns;
        takes = λ lives x.
            subst (λ (o : Owner). Takes s made t i o (record o { status = st }) x) (sym its) (own-takes s made t consistent is i (os i).state own.single x c st owns asked lives);
      }

  pub own-goes-on : (x : EndId) → ((e : EndId) (k : ℕ) (bytes : List ℕ) (xs : List EndId) → made ≡ step.Send e k bytes xs → e ≡ x → ⊥) → Next s made i (os i) (record (os i) { status = st }) x
  own-goes-on x other = subst (λ (o : Owner). Next s made i o (record o { status = st }) x) (sym its) (own-next s made t consistent is i (os i).state own.single x c st owns asked other)

  -- ---- every other process
  module _ (j : ℕ) (there : j < count) (apart : i ≡ j → ⊥) where
    other : IsOwner version s n j (os j)
    other = before.owners.each j there

    not-its : (x : EndId) → step_on made ≡ Some x → (s.ends x).place ≡ place.Owned (process j) → ⊥
    not-its x on theirs = apart (ap (λ (p : Pid). p.0) (same-owner (process i) (process j) (sym (step-owned x on) ∙ theirs)))

    unasked : (x : EndId) → IsGone s x ⊎ ((s.ends x).place ≡ place.Owned (process j)) → made ≡ step.Receive x → ⊥
    unasked x (inl gone) so = let differ : place.Owned (process i) ≡ place.Destroyed = sym (step-owned x (ap step_on so)) ∙ gone in cc
    unasked x (inr theirs) so = not-its x (ap step_on so) theirs

    unsent : (x e : EndId) (k : ℕ) → (t.ends x).place ≡ place.InMessage e k → (s.ends x).place ≡ place.Owned (process j) → ⊥
    unsent x e k to theirs = by (moved x)
      where
        by : Moves s made t x → ⊥
        by (moves.Stays same brought) = let differ : place.InMessage e k ≡ place.Owned (process j) = sym to ∙ same ∙ theirs in cc
        by (moves.Makes p a b made-so new was now same) = let differ : place.InMessage e k ≡ place.Owned p = sym to ∙ now in cc
        by (moves.Leaves p f l bytes xs made-so among on was now same) = not-its f (ap step_on made-so) (on ∙ sym was ∙ theirs)
        by (moves.Lands p f l was now more none) = let differ : place.InMessage e k ≡ place.Owned p = sym to ∙ now in cc
        by (moves.Ends gone how less) = let differ : place.InMessage e k ≡ place.Destroyed = sym to ∙ gone in cc

    cancelled : (x : EndId) (w : Way) → (os j).status ≡ Told (call.Cancel x w) answer.Ok → made ≡ step.Receive x → ⊥
    cancelled x w so receive = not-its x (ap step_on receive) ((other.custody lives x).own (let some = has in omega arith))
      where
        lives : IsAlive (os j)
        lives ended = let differ : phase.Running ≡ phase.Ended = sym (ap phase_of so) ∙ ended in cc

        has : 1 ≤ has_of (os j) x
        has = subst (λ (o : Owner). 1 ≤ has_of o x) (sym (ap (with (os j).state) so)) (has-cancelled (os j).state x w other.single (subst (IsAskedFor (os j).state) so other.asked))

    pub other-goes : Goes s made t m j (os j) (os j).status
    other-goes =
        record {
          phase = others-stay s made t is i j apart quiet (others-run s made t is i j apart c st owns on-owned) (phase_of (os j).status);
          asked = other.asked;
          few = let some : most_brought (os j).status ≤ 8 = brings-few (os j).status in let room = few j there in omega arith;
          told = told-stays s made t consistent is receives j moved unasked unsent (os j).status cancelled other.told;
          takes = λ lives x.
              record {
                within = λ unborn. omega arith;
                given = given-brought s made t consistent is (process j) x;
                makes = λ p a b also new nothing. omega arith;
                leaves = λ e k bytes xs also among own. absurd (not-its e (ap step_on also) own);
                ends = λ also own. absurd (not-its x (ap step_on also) own);
                exits = λ also. apart (ap (λ (p : Pid). p.0) (sym (own-exit i made c st owns (process j) also)));
              };
        }

    pub other-goes-on : (x : EndId) → Next s made j (os j) (os j) x
    other-goes-on x =
        record {
          same = refl;
          holding = refl;
          out = λ made-before. omega arith;
          told = sides.Nothing refl (quiet.given j);
          receive = λ k g has. has;
          starts = λ also theirs. absurd (not-its x (ap step_on also) theirs);
        }
