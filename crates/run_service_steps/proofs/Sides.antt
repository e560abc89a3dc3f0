-- Each side of a link after a step of the service that is not a Send on that end.
use Rattle.std.proofs.Common.{◌≡◌, ◌⊎◌, inl, inr, ℕ, zero, suc, ◌+◌, ◌≤◌, nat_eq, Bool, true, false, true≢false, if◌then◌else◌, Some, List, [], ◌∷◌, ◌++◌, append-nil, refl, sym, ap, ap₂, subst, ◌∙◌, arith}
use mathlib.Core.List.{IsPrefix}
use Rattle.std.specs.List.{Contains}
use Rattle.charlotte_calls.specs.Names.{opposite}
use Rattle.charlotte_calls.specs.declared.calls.Answer.{Answer}
use Rattle.charlotte_calls.specs.declared.calls.Answer.TheVariants as answer
use Rattle.charlotte_calls.specs.declared.calls.Call.{Call}
use Rattle.charlotte_calls.specs.declared.calls.Report.{Report}
use Rattle.charlotte_calls.specs.declared.calls.ServiceStep.{ServiceStep}
use Rattle.charlotte_calls.specs.declared.calls.ServiceStep.TheVariants as step
use Rattle.charlotte_calls.specs.declared.names.EndId.{EndId}
use Rattle.charlotte_calls.specs.declared.names.Pid.{Pid}
use Rattle.charlotte_calls.specs.declared.names.Way.TheVariants as way
use Rattle.service_change.proofs.Change.{idle-parts}
use Rattle.service_change.proofs.Counts.{pid_tells}
use Rattle.service_lawful.specs.Consistent.{IsConsistent}
use Rattle.service_step.specs.Ends.{is_made, owner}
use Rattle.service_step.specs.State.{State as Service}
use Rattle.service_step.specs.Steps.{IsServiceStep, may_receive_as}
use Rattle.service_step.specs.declared.state.End.{End}
use Rattle.service_step.specs.declared.state.Inward.TheVariants as inward
use Rattle.service_step.specs.declared.state.Message.{Message as Told}
use Rattle.service_step.specs.declared.state.Place.{Place}
use Rattle.service_step.specs.declared.state.Place.TheVariants as place
use Rattle.service_streams.specs.Streams.{given_by, messages, outstanding, sent_by, told_by, told_in}
use Rattle.run_invariant.specs.Coming.{ComesSo, coming, reported_to}
use Rattle.run_invariant.specs.Deaths.{AreReceives, IsGone}
use Rattle.run_invariant.specs.Moves.{Moves, brings, gives, given_to}
use Rattle.run_invariant.specs.Moves as moves
use Rattle.end_protocol.specs.declared.messages.Message.{Message}
use Rattle.run_invariant.specs.Ends.{number_of}
use Rattle.run_invariant.specs.States.{Gone, Holding, Keeps}
use Rattle.run_invariant.specs.AtEnd.{Seen, held_count}
use Rattle.run_invariant.specs.Acted.{process}
use Rattle.run_invariant.specs.Sides.{Destroyed, Free, Lost, Side, Standing, new_side}
use Rattle.run_invariant.specs.Invariant.{AreSpelled, HasReceive, IsInOnePlace, IsOwned, IsReceived, IsReportTrue, IsSide, IsSideAt, IsStandingIn, IsToldTrue, Owners, told_to}
use Rattle.run_invariant.specs.Owners.{Asks, Over, Owner, Pends, Runs, Status, given_of, seen_of, turn_of}
use Rattle.run_invariant.specs.Owners as owners
use Rattle.run_service_steps.proofs.Courses.{Turned}
use Rattle.run_service_steps.proofs.Custody.{same-owner}
use Rattle.run_service_steps.proofs.Spelled.{Come, come}
use Rattle.run_service_steps.proofs.StepFacts.{its-own, stays-less, told-all, told-one, told-owner, was-over}

-- the process hears nothing of the end, or of a message there
pub data Tells (i : ℕ) (made : ServiceStep) (o q : Owner) (x : EndId) : Type 0 where
  Nothing : told_to x (given_of q.status) ≡ told_to x (given_of o.status) → given_to (process i) made ≡ [] → Tells i made o q x
  Hears : (r : Report) → made ≡ step.Report (process i) r → told_to x (given_of q.status) ≡ told_by x r → told_to x (given_of o.status) ≡ [] → Tells i made o q x

-- how a process goes on, seen at an end, where it asks no Send of it
pub record Next (s : Service) (made : ServiceStep) (i : ℕ) (o q : Owner) (x : EndId) : Type 0 where
  pub same : q.state ≡ o.state
  pub holding : (seen_of q x).holding ≡ (seen_of o x).holding
  pub out : ((s.ends x).place ≡ place.Unmade → ⊥) → (seen_of q x).out ≤ (seen_of o x).out + gives (process i) x made
  pub told : Tells i made o q x
  pub receive : (n : ℕ) (g : Holding) → HasReceive (turn_of o) n g → HasReceive (turn_of q) n g
  pub starts : made ≡ step.Receive x → (s.ends x).place ≡ place.Owned (process i) → HasReceive (turn_of q) (number_of x o.state.places) (seen_of o x).holding

-- ---- how it stands

pub standing-moves : (n m : ℕ) (a b : Seen) (g : Holding) (st : Standing) → (1 ≤ b.out + m → 1 ≤ a.out + n) → IsStandingIn n a g st → IsStandingIn m b g st
standing-moves n m a b (Keeps k) st less is = is
standing-moves n m a b (Gone own) st less is = (is.0, λ some. is.1 (less some))

standing-free : (n : ℕ) (a : Seen) (g : Holding) (st : Standing) → held_count g ≡ 0 → st ≡ Free → IsStandingIn n a g st
standing-free n a (Keeps k) st none free = absurd (omega arith)
standing-free n a (Gone own) st none free = (inl free, λ some. free)

pub standing-out : (n : ℕ) (a : Seen) (g : Holding) (st : Standing) → held_count g ≡ 0 → 1 ≤ a.out + n → IsStandingIn n a g st → st ≡ Free
standing-out n a (Keeps k) st none some is = absurd (omega arith)
standing-out n a (Gone own) st none some is = is.1 some

-- ---- what was told before

-- of an end that it does not own it was told nothing
pub untold : (s : Service) (i : ℕ) (x : EndId) (st : Status) → IsToldTrue s i st → (IsGone s x → ⊥) → ((s.ends x).place ≡ place.Owned (process i) → ⊥) → told_to x (given_of st) ≡ []
untold s i x st so lives other = by st so
  where
    of-report : (r : Report) → IsReportTrue s i r → told_by x r ≡ []
    of-report r is = elim (told-one x r) [ inl none ↦ none | inr on ↦ absurd (elim (is.own) [ inl gone ↦ lives (subst (IsGone s) on.0 gone) | inr own ↦ other (subst (λ (z : EndId). (s.ends z).place ≡ place.Owned (process i)) on.0 own) ]) ]

    by-answer : (c : Call) (a : Answer) → IsToldTrue s i (owners.Told c a) → told_to x (Some a) ≡ []
    by-answer c answer.Ok is = refl
    by-answer c (answer.Refused why) is = refl
    by-answer c (answer.Made a b) is = refl
    by-answer c (answer.Reported r) is = of-report r is.1

    by : (st : Status) → IsToldTrue s i st → told_to x (given_of st) ≡ []
    by Runs is = refl
    by (Asks c) is = refl
    by (Pends c) is = refl
    by (owners.Told c a) is = by-answer c a is
    by Over is = refl

-- ---- ends that were not made

pub unmade-place : (at : Place) → is_made at ≡ false → at ≡ place.Unmade
unmade-place (place.Owned p) is = absurd (true≢false is)
unmade-place (place.InMessage f n) is = absurd (true≢false is)
unmade-place place.Destroyed is = absurd (true≢false is)
unmade-place place.Unmade is = refl

pub unmade-opposite : (s : Service) (x : EndId) → IsConsistent s → (s.ends x).place ≡ place.Unmade → (s.ends (opposite x)).place ≡ place.Unmade
unmade-opposite s x k is = unmade-place (s.ends (opposite x)).place (k.kept.made (opposite x) ∙ sym (k.kept.made x) ∙ ap is_made is)

coming-unmade : (s : Service) (x : EndId) → IsConsistent s → (s.ends x).place ≡ place.Unmade → coming s x ≡ []
coming-unmade s x k is =
    ap₂ (λ (a b : End). reported_to s x a.place ++ (if a.noticed then [] else messages (outstanding b))) (k.kept.unmade x is) (k.kept.unmade (opposite x) (unmade-opposite s x k is))

-- ---- one side

module _ (version : ℕ) (s : Service) (made : ServiceStep) (t : Service) (os qs : Owners) (k : IsConsistent s) (is : IsServiceStep s made t) (receives : AreReceives s made t) (x : EndId) (coming_so : ComesSo s made t x)
    (new : List Message) (sent : AreSpelled version new (messages (sent_by (opposite x) made))) (side : Side) where
  abbrev Base : Side
  Base = record side { coming = side.coming ++ new }

  abbrev Side-is : Side → Place → Type 0
  Side-is z at = IsSideAt version t qs x z at

  -- it is at this place now
  turned-at : (base : Standing) (at : Place) → (t.ends x).place ≡ at → (standing : Standing) → (standing ≡ base) ⊎ (standing ≡ Destroyed) → (c : List Message)
      → (c ≡ side.coming ++ new) ⊎ (IsGone t (opposite x) × IsPrefix c (side.coming ++ new)) → Side-is (record { standing = standing; coming = c }) at
      → Turned version t qs x (record { standing = base; coming = side.coming ++ new })
  turned-at base at here standing stands c comes there =
      record { standing = standing; coming = c; is = subst (Side-is (record { standing = standing; coming = c })) (sym here) there; stands = stands; comes = comes }

  destroyed : IsGone t x → Turned version t qs x Base
  destroyed gone = turned-at side.standing place.Destroyed gone Destroyed (inr refl) (side.coming ++ new) (inl refl) refl

  -- an end without a receive is told nothing
  idle-untold : (s.ends x).inward ≡ inward.Idle → told_in x (given_by made) ≡ []
  idle-untold idle = elim (told-owner s made t x k is) [ inl none ↦ none | inr on ↦ absurd (by on.0 on.1 on.2 on.3 on.4) ]
    where
      by : (p : Pid) (r : Report) → made ≡ step.Report p r → r.on ≡ x → r.way ≡ way.Inward → ⊥
      by p r made-so on in_way = was-over s k p r t (subst (λ (z : ServiceStep). IsServiceStep s z t) made-so is) in_way (ap (λ (z : EndId). (s.ends z).inward) on ∙ idle)

  -- what is coming to an end of which no process hears
  come-quiet : (IsGone t x → ⊥) → told_in x (given_by made) ≡ [] → AreSpelled version side.coming (coming s x) → Come version t x (side.coming ++ new) (coming t x)
  come-quiet lives untold-now spells = come version s made t x coming_so lives [] [] (sym untold-now) side.coming new spells sent

  not-gone : (at : Place) → (t.ends x).place ≡ at → (at ≡ place.Destroyed → ⊥) → IsGone t x → ⊥
  not-gone at here other gone = other (sym here ∙ gone)

  -- it is in a message now, and stands free
  carried : (e : EndId) (n : ℕ) → (t.ends x).place ≡ place.InMessage e n → side.standing ≡ Free → Come version t x (side.coming ++ new) (coming t x) → Turned version t qs x Base
  carried e n here free c = turned-at side.standing (place.InMessage e n) here side.standing (inl refl) c.coming c.comes (free, c.is)

  -- its owner stays
  module _ (p : Pid) (was : (s.ends x).place ≡ place.Owned p) (here : (t.ends x).place ≡ place.Owned p)
      (before : IsOwned version s (os p.0) p.0 x side) (told-here : Tells p.0 made (os p.0) (qs p.0) x) (stand : Standing) (lost-still : side.standing ≡ Lost → stand ≡ Lost)
      (has-still : HasReceive (turn_of (os p.0)) (number_of x (os p.0).state.places) (seen_of (os p.0) x).holding → HasReceive (turn_of (qs p.0)) (number_of x (qs p.0).state.places) (seen_of (qs p.0) x).holding)
      (starts : made ≡ step.Receive x → HasReceive (turn_of (qs p.0)) (number_of x (qs p.0).state.places) (seen_of (qs p.0) x).holding)
      (standing : IsStandingIn (brings t (process p.0) x) (seen_of (qs p.0) x) (seen_of (qs p.0) x).holding stand) where
    -- what it hears of the end is what the step tells there
    hears : told_to x (given_of (qs p.0).status) ≡ told_to x (given_of (os p.0).status) ++ told_in x (given_by made)
    hears = by told-here
      where
        gives-one : (r : Report) → made ≡ step.Report p r → given_to p made ≡ [] → ⊥
        gives-one r made-so nothing = elim (pid_tells p p) [ inl its ↦ differ its.0 | inr apart ↦ apart.1 refl ]
          where
            differ : nat_eq p.0 p.0 ≡ true → ⊥
            differ same =
                let empty : r ∷ [] ≡ [] = sym (ap (λ (b : Bool). if b then r ∷ [] else []) same) ∙ sym (ap (given_to p) made-so) ∙ nothing in
                cc

        silent : given_to p made ≡ [] → told_in x (given_by made) ≡ []
        silent nothing = elim (told-owner s made t x k is) [ inl none ↦ none | inr on ↦ absurd (of on.0 on.1 on.2 on.3) ]
          where
            of : (q : Pid) (r : Report) → made ≡ step.Report q r → r.on ≡ x → ⊥
            of q r made-so on =
                let step-is : IsServiceStep s (step.Report q r) t = subst (λ (z : ServiceStep). IsServiceStep s z t) made-so is in
                let its : place.Owned p ≡ place.Owned q = its-own s k q r t step-is (place.Owned p) (ap (λ (z : EndId). (s.ends z).place) on ∙ was) refl in
                gives-one r (made-so ∙ ap (λ (z : Pid). step.Report z r) (sym (same-owner p q its))) nothing

        by : Tells p.0 made (os p.0) (qs p.0) x → told_to x (given_of (qs p.0).status) ≡ told_to x (given_of (os p.0).status) ++ told_in x (given_by made)
        by (Nothing same nothing) = same ∙ sym (append-nil (told_to x (given_of (os p.0).status))) ∙ ap (λ (l : List Told). told_to x (given_of (os p.0).status) ++ l) (sym (silent nothing))
        by (Hears r made-so heard before-none) = heard ∙ sym (told-all x r) ∙ ap (λ (z : ServiceStep). told_in x (given_by z)) (sym made-so) ∙ ap (λ (l : List Told). l ++ told_in x (given_by made)) (sym before-none)

    -- a receive that is not over was not over before, or starts
    received : IsReceived t (qs p.0) x → IsReceived s (os p.0) x ⊎ (made ≡ step.Receive x)
    received (inl busy) = elim (receives.starts x busy) [ inl was-busy ↦ inl (inl was-busy) | inr made-so ↦ inr made-so ]
    received (inr told) = by told-here
      where
        by : Tells p.0 made (os p.0) (qs p.0) x → IsReceived s (os p.0) x ⊎ (made ≡ step.Receive x)
        by (Nothing same nothing) = inl (inr (λ none. told (same ∙ none)))
        by (Hears r made-so heard _) = inl (inl (λ idle. told (heard ∙ sym (told-all x r) ∙ ap (λ (z : ServiceStep). told_in x (given_by z)) (sym made-so) ∙ idle-untold idle)))

    receive-now : IsReceived s (os p.0) x ⊎ (made ≡ step.Receive x) → HasReceive (turn_of (qs p.0)) (number_of x (qs p.0).state.places) (seen_of (qs p.0) x).holding ⊎ (stand ≡ Lost)
    receive-now (inl had) = elim (before.receive had) [ inl has ↦ inl (has-still has) | inr lost ↦ inr (lost-still lost) ]
    receive-now (inr made-so) = inl (starts made-so)

    stays-with : (c : List Message) → (c ≡ side.coming ++ new) ⊎ (IsGone t (opposite x) × IsPrefix c (side.coming ++ new))
        → AreSpelled version c (told_to x (given_of (qs p.0).status) ++ coming t x) ⊎ (stand ≡ Lost) → Turned version t qs x (record { standing = stand; coming = side.coming ++ new })
    stays-with c comes spells =
        turned-at stand (place.Owned p) here stand (inl refl) c comes (record { standing = standing; receive = λ has. receive-now (received has); coming_is = spells })

    pub keeps : Turned version t qs x (record { standing = stand; coming = side.coming ++ new })
    keeps = by before.coming_is
      where
        by : AreSpelled version side.coming (told_to x (given_of (os p.0).status) ++ coming s x) ⊎ (side.standing ≡ Lost) → Turned version t qs x (record { standing = stand; coming = side.coming ++ new })
        by (inr lost) = stays-with (side.coming ++ new) (inl refl) (inr (lost-still lost))
        by (inl spells) =
            let c : Come version t x (side.coming ++ new) (told_to x (given_of (qs p.0).status) ++ coming t x) =
            come version s made t x coming_so (not-gone (place.Owned p) here (λ e. cc)) (told_to x (given_of (os p.0).status)) (told_to x (given_of (qs p.0).status)) hears side.coming new spells sent in
            stays-with c.coming c.comes (inl c.is)

  -- ---- wherever it moves, and how its owner goes on

  module _ (old : (i : ℕ) → (t.ends x).place ≡ place.Owned (process i) → IsInOnePlace s (os i) i x × IsToldTrue s i (os i).status × Next s made i (os i) (qs i) x)
      (unmade-sends : (t.ends x).place ≡ place.Unmade → new ≡ []) where
    -- a process gets it
    module _ (p : Pid) (here : (t.ends x).place ≡ place.Owned p) (lives : IsGone s x → ⊥) (other : (s.ends x).place ≡ place.Owned p → ⊥) (idle : (s.ends x).inward ≡ inward.Idle)
        (unasked : made ≡ step.Receive x → ⊥) (free : side.standing ≡ Free) (spells : AreSpelled version side.coming (coming s x)) where
      had : IsInOnePlace s (os p.0) p.0 x × IsToldTrue s p.0 (os p.0).status × Next s made p.0 (os p.0) (qs p.0) x
      had = old p.0 here

      none : held_count (seen_of (os p.0) x).holding ≡ 0
      none = by (held_count (seen_of (os p.0) x).holding) refl
        where
          by : (n : ℕ) → held_count (seen_of (os p.0) x).holding ≡ n → n ≡ 0
          by zero e = refl
          by (suc n) e = absurd (other (had.0.own (omega arith)))

      unheard : told_to x (given_of (qs p.0).status) ≡ []
      unheard = by had.2.told
        where
          by : Tells p.0 made (os p.0) (qs p.0) x → told_to x (given_of (qs p.0).status) ≡ []
          by (Nothing same nothing) = same ∙ untold s p.0 x (os p.0).status had.1 lives other
          by (Hears r made-so now before) = now ∙ sym (told-all x r) ∙ sym (ap (λ (z : ServiceStep). told_in x (given_by z)) made-so) ∙ idle-untold idle

      deaf : IsReceived t (qs p.0) x → ⊥
      deaf (inl busy) = elim (receives.starts x busy) [ inl was ↦ was idle | inr made-so ↦ unasked made-so ]
      deaf (inr hears) = hears unheard

      arrives : Turned version t qs x Base
      arrives =
          let c : Come version t x (side.coming ++ new) (coming t x) = come-quiet (not-gone (place.Owned p) here (λ e. cc)) (idle-untold idle) spells in
          turned-at side.standing (place.Owned p) here side.standing (inl refl) c.coming c.comes
          (record {
            standing = standing-free (brings t (process p.0) x) (seen_of (qs p.0) x) (seen_of (qs p.0) x).holding side.standing (ap held_count had.2.holding ∙ none) free;
            receive = λ received. absurd (deaf received);
            coming_is = inl (subst (λ (l : List Told). AreSpelled version c.coming (l ++ coming t x)) (sym unheard) c.is);
          })

    -- its owner stays
    stays : (p : Pid) → (s.ends x).place ≡ place.Owned p → (t.ends x).place ≡ place.Owned p → brings t p x + gives p x made ≤ brings s p x → IsOwned version s (os p.0) p.0 x side → Turned version t qs x Base
    stays p was here brought before =
        keeps p was here before now.told side.standing (λ lost. lost) (λ has. goes-on (now.receive (number_of x (os p.0).state.places) (seen_of (os p.0) x).holding has))
        (λ made-so. goes-on (now.starts made-so was))
        (subst (λ (g : Holding). IsStandingIn (brings t (process p.0) x) (seen_of (qs p.0) x) g side.standing) (sym now.holding)
        (standing-moves (brings s (process p.0) x) (brings t (process p.0) x) (seen_of (os p.0) x) (seen_of (qs p.0) x) (seen_of (os p.0) x).holding side.standing
        (λ some. let out = now.out (λ unmade. let differ : place.Owned p ≡ place.Unmade = sym was ∙ unmade in absurd (cc)) in omega arith) before.standing))
      where
        now : Next s made p.0 (os p.0) (qs p.0) x
        now = (old p.0 here).2

        goes-on : HasReceive (turn_of (qs p.0)) (number_of x (os p.0).state.places) (seen_of (os p.0) x).holding → HasReceive (turn_of (qs p.0)) (number_of x (qs p.0).state.places) (seen_of (qs p.0) x).holding
        goes-on has =
            subst (λ (n : ℕ). HasReceive (turn_of (qs p.0)) n (seen_of (qs p.0) x).holding) (ap (λ z. number_of x z.places) (sym now.same))
            (subst (λ (g : Holding). HasReceive (turn_of (qs p.0)) (number_of x (os p.0).state.places) g) (sym now.holding) has)

    -- the end goes with a message
    abbrev Leaving : Type 0
    Leaving = (p : Pid) (e : EndId) (n : ℕ) (bytes : List ℕ) (xs : List EndId) → made ≡ step.Send e n bytes xs → Contains xs x → (s.ends e).place ≡ place.Owned p
        → (s.ends x).place ≡ place.Owned p → IsOwned version s (os p.0) p.0 x side → (side.standing ≡ Free) × AreSpelled version side.coming (coming s x)

    abbrev Was : Place → Type 0
    Was at = IsSideAt version s os x side at

    stays-at : (at : Place) → (s.ends x).place ≡ at → (t.ends x).place ≡ (s.ends x).place → ((q : Pid) → brings t q x + gives q x made ≤ brings s q x) → Was at → Turned version t qs x Base
    stays-at place.Unmade was same brought before =
        turned-at side.standing place.Unmade (same ∙ was) side.standing (inl refl) (side.coming ++ new) (inl refl)
        (ap (λ (l : List Message). record side { coming = side.coming ++ l }) (unmade-sends (same ∙ was)) ∙ ap (λ (l : List Message). record side { coming = l }) (append-nil side.coming) ∙ before)
    stays-at (place.Owned p) was same brought before = stays p was (same ∙ was) (brought p) before
    stays-at (place.InMessage e n) was same brought before =
        carried e n (same ∙ was) before.0
        (come-quiet (not-gone (place.InMessage e n) (same ∙ was) (λ e. cc)) (idle-untold (idle-parts (s.ends x) (k.kept.resting x e n was)).1) before.1)
    stays-at place.Destroyed was same brought before = destroyed (same ∙ was)

    not-asked : (e : EndId) (n : ℕ) → (s.ends x).place ≡ place.InMessage e n → made ≡ step.Receive x → ⊥
    not-asked e n was made-so =
        let step-is : IsServiceStep s (step.Receive x) t = subst (λ (z : ServiceStep). IsServiceStep s z t) made-so is in
        true≢false (sym (subst (λ (at : Place). may_receive_as s (owner at) x ≡ true) was step-is.allowed))

    pub turns : Leaving → Moves s made t x → IsSide version s os x side → Turned version t qs x Base
    turns leaving (moves.Stays same brought) before = stays-at (s.ends x).place refl same (λ q. stays-less s t made q x (brought q)) before
    turns leaving (moves.Makes p a b made-so its was to same) before =
        let fresh : side ≡ new_side = subst Was was before in
        arrives p to (λ gone. let differ : place.Unmade ≡ place.Destroyed = sym was ∙ gone in absurd (cc)) (λ own. let differ : place.Unmade ≡ place.Owned p = sym was ∙ own in absurd (cc))
        (ap (λ (z : End). z.inward) (k.kept.unmade x was)) (λ asks. let differ : step.Make p a b ≡ step.Receive x = sym made-so ∙ asks in absurd (cc)) (ap (λ (z : Side). z.standing) fresh)
        (subst (λ (l : List Told). AreSpelled version side.coming l) (sym (coming-unmade s x k was)) (subst (λ (z : Side). AreSpelled version z.coming []) (sym fresh) tt))
    turns leaving (moves.Leaves p e n bytes xs made-so among on was to same) before =
        let both : (side.standing ≡ Free) × AreSpelled version side.coming (coming s x) = leaving p e n bytes xs made-so among on was (subst Was was before) in
        carried e n to both.0 (come-quiet (not-gone (place.InMessage e n) to (λ e. cc)) (ap (λ (z : ServiceStep). told_in x (given_by z)) made-so) both.1)
    turns leaving (moves.Lands p e n was to more none) before =
        let free : (side.standing ≡ Free) × AreSpelled version side.coming (coming s x) = subst Was was before in
        arrives p to (λ gone. let differ : place.InMessage e n ≡ place.Destroyed = sym was ∙ gone in absurd (cc)) (λ own. let differ : place.InMessage e n ≡ place.Owned p = sym was ∙ own in absurd (cc))
        (idle-parts (s.ends x) (k.kept.resting x e n was)).1 (not-asked e n was) free.0 free.1
    turns leaving (moves.Ends gone how less) before = destroyed gone
