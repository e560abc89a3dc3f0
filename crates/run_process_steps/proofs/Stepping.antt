-- A step of a process keeps the invariant at an end that it owns.
use Rattle.std.proofs.Common.{arith, ◌≡◌, ◌⊎◌, inl, inr, ⊎_elim, ℕ, zero, suc, ◌+◌, ◌*◌, ◌^◌, ◌≤◌, ◌<◌, true, List, [], ◌∷◌, ◌++◌, length, Option, None, refl, sym, ap, subst, ◌∙◌, append_assoc}
use Rattle.charlotte_calls.specs.Names.{opposite}
use Rattle.charlotte_calls.specs.declared.calls.Answer.{Answer}
use Rattle.charlotte_calls.specs.declared.names.EndId.{EndId}
use Rattle.charlotte_calls.specs.declared.program.Next.{Next}
use Rattle.charlotte_calls.specs.declared.program.Next.TheVariants as next
use Rattle.service_lawful.specs.Consistent.{IsConsistent}
use Rattle.service_step.specs.Ends.{is_living}
use Rattle.service_step.specs.State.{State as Service}
use Rattle.service_step.specs.declared.state.Inward.{Inward}
use Rattle.service_step.specs.declared.state.Inward.TheVariants as inward
use Rattle.service_step.specs.declared.state.Message.{Message as ToldMessage}
use Rattle.service_step.specs.declared.state.Place.{Place}
use Rattle.service_step.specs.declared.state.Place.TheVariants as place
use Rattle.run_invariant.specs.Coming.{AreMatched, coming}
use Rattle.run_invariant.specs.Deaths.{IsGone}
use Rattle.run_invariant.specs.Moves.{brings}
use Rattle.run_invariant.proofs.Coming.{deaf-nothing}
use Rattle.end_protocol.specs.declared.messages.Message.{Message}
use Rattle.end_protocol.specs.Deeds.{Deed}
use Rattle.process_run.specs.States.{DeedOn, Gone, Holding, Keeps}
use Rattle.process_run.specs.Ends.{number_of}
use Rattle.process_run.specs.Runs.{Did, did}
use Rattle.run_invariant.specs.ProcessSoundTold.{IsTold}
use Rattle.run_invariant.specs.AtEnd.{AreAt, IsToldAt, Seen, deeds_at, held_count, holding_at, known_holding, seen, total}
use Rattle.run_invariant.specs.Changes.{Changes}
use Rattle.run_invariant.specs.Ledgers.{Ledger}
use Rattle.run_invariant.specs.Telling.{ChangesByStep, Telling, Turn}
use Rattle.run_invariant.proofs.AtEnd.{changes_at, changes_less, deeds_both}
use Rattle.run_invariant.proofs.Away.{all_away, told_away}
use Rattle.run_invariant.proofs.Growing.{places_grow}
use Rattle.run_invariant.proofs.Steps.{step_changes}
use Rattle.run_invariant.proofs.ToldAt.{holding_known, told_at}
use Rattle.run_invariant.specs.Sides.{Courses, Destroyed, Lost, Pair, Side, Standing}
use Rattle.run_invariant.specs.Acted.{process as pid}
use Rattle.run_invariant.specs.Invariant.{has_of, AreSpelled, HasReceive, IsAlive, IsOwned, IsOwner, IsReceived, IsStandingIn, most_brought, told_to}
use Rattle.run_invariant.specs.Owners.{destroying, Asks, Over, Owner, Pends, Runs, Status, Told, given_of, ledger_of, seen_of, turn_of}
use Rattle.run_invariant.specs.Steps.{MayStep, after_step, owner_after}
use Rattle.run_process_steps.proofs.Afterwards.{IsLast, received, step_last}
use Rattle.run_process_steps.proofs.Heeding.{Heeded, IsHeard, heeds}
use Rattle.run_process_steps.proofs.Telling.{tellings_lead}
use Rattle.run_invariant.proofs.Changing.{onward}
use Rattle.run_process_steps.proofs.Leading.{Hears, Leads, changes_lead}

-- ---- small things

nothing_spelled : (version : ℕ) (ms : List Message) → AreSpelled version ms [] → ms ≡ []
nothing_spelled version [] all = refl
nothing_spelled version (m ∷ ms) all = absurd all

not_given : (f : Next) → given_of (after_step f) ≡ None
not_given (next.Ask c) = refl
not_given next.Pause = refl
not_given next.Ended = refl

pub none_brought : (f : Next) → most_brought (after_step f) ≡ 0
none_brought (next.Ask c) = refl
none_brought next.Pause = refl
none_brought next.Ended = refl

none_told : (x : EndId) (f : Next) → told_to x (given_of (after_step f)) ≡ []
none_told x f = ap (λ (g : Option Answer). told_to x g) (not_given f)

fewer : (n : ℕ) (g h : Holding) (a b : Seen) (s : Standing) → h ≡ g → b.out ≤ a.out → IsStandingIn n a g s → IsStandingIn n b h s
fewer n g h a b s same less stands = subst (λ (f : Holding). IsStandingIn n b f s) (sym same) (by g stands)
  where
    by : (f : Holding) → IsStandingIn n a f s → IsStandingIn n b f s
    by (Keeps k) is = is
    by (Gone own) is = (is.0, λ one. is.1 (omega (arith, one, less)))

has_receive : (t : Turn) (n : ℕ) (g : Holding) → IsHeard g → HasReceive t n g
has_receive t n (Keeps k) hears = inl hears
has_receive t n (Gone own) hears = absurd hears

-- its process goes on with this answer, or none, and did not end
module _ (version : ℕ) (s : Service) (consistent : IsConsistent s) (matched : AreMatched s) (entries i : ℕ) (o : Owner) (owner : IsOwner version s entries i o)
    (small : entries ≤ 2 ^ 28) (alive : IsAlive o) (may : MayStep o.status) (told : IsTold (given_of o.status)) where
  abbrev given : Option Answer
  given = given_of o.status

  abbrev d : Did
  d = did o.state given

  abbrev t : Turn
  t = turn_of o

  pub changes : ChangesByStep o.state given d
  changes = step_changes o.state given told owner.running

  abbrev middle : Ledger
  middle = changes.told

  abbrev last : Ledger
  last = changes.last

  in_one : (x : EndId) → total (seen_of o x) + brings s (pid i) x ≤ 1
  in_one x = let one : has_of o x + brings s (pid i) x ≤ 1 = (owner.custody alive x).one in omega (arith, one)

  pub telling : Telling version t (ledger_of o) changes.told_deeds middle
  telling = subst (λ (v : ℕ). Telling v t (ledger_of o) changes.told_deeds middle) owner.version_is changes.telling

  told_there : (x : EndId) → IsToldAt version t x (ledger_of o) changes.told_deeds middle
  told_there x = told_at version t x (ledger_of o) changes.told_deeds middle telling owner.single

  pub middle_less : (x : EndId) → total (seen x middle) ≤ total (seen_of o x)
  middle_less x = (told_there x).all

  middle_one : (x : EndId) → total (seen x middle) ≤ 1
  middle_one x = let less : total (seen x middle) ≤ total (seen_of o x) = middle_less x in let one = in_one x in omega (arith, less, one)

  -- ---- how many places there are

  pub few_after : length d.state.places ≤ 8192 + 8 * entries
  few_after = by o.status refl may owner.few
    where
      grown : (length d.state.places ≤ length o.state.places + 8) × (given ≡ None → length d.state.places ≤ length o.state.places)
      grown = places_grow o.state given told owner.running

      by : (status : Status) → o.status ≡ status → MayStep status → length o.state.places + most_brought o.status ≤ 8192 + 8 * entries → length d.state.places ≤ 8192 + 8 * entries
      by Runs e may few =
          let still : length d.state.places ≤ length o.state.places = grown.1 (ap given_of e) in
          let none : most_brought o.status ≡ 0 = ap most_brought e in
          omega (arith, still, few, none)
      by (Told c a) e may few =
          let more : length d.state.places ≤ length o.state.places + 8 = grown.0 in
          let eight : most_brought o.status ≡ 8 = ap most_brought e in
          omega (arith, more, few, eight)
      by (Asks c) e may few = absurd may
      by (Pends c) e may few = absurd may
      by Over e may few = absurd may

  few_last : length last.places < 4294967295
  few_last = let same : length last.places ≡ length d.state.places = ap length changes.places in let few = few_after in omega (arith, same, few, small)

  pub there : (x : EndId) → AreAt version x middle changes.deeds last
  there x = changes_at version x middle changes.deeds last (subst (λ (v : ℕ). Changes v middle changes.deeds last) owner.version_is changes.changes) (told_there x).single middle_one few_last

  pub last_less : (x : EndId) → total (seen x last) ≤ total (seen x middle)
  last_less x = changes_less version (seen x middle) (deeds_at x changes.deeds) (seen x last) (there x).changes

  deeds_so : (x : EndId) → deeds_at x d.deeds ≡ deeds_at x changes.told_deeds ++ deeds_at x changes.deeds
  deeds_so x = ap (λ (ds : List DeedOn). deeds_at x ds) changes.all ∙ deeds_both x changes.told_deeds changes.deeds

  abbrev now : Owner
  now = owner_after d

  at_last : (x : EndId) → IsLast x (destroying x now.status) last (seen_of now x)
  at_last x = step_last x o.state given d changes

  pub less_now : (x : EndId) → has_of now x ≤ total (seen_of o x)
  less_now x =
      let one : total (seen_of now x) + destroying x now.status ≤ total (seen x last) = (at_last x).all in
      let two : total (seen x last) ≤ total (seen x middle) = last_less x in
      let three : total (seen x middle) ≤ total (seen_of o x) = middle_less x in
      omega (arith, one, two, three)

  -- ---- at an end that it owns

  pub record EndGoes (x : EndId) (p : Pair) : Type 0 where
    pub to : Pair
    pub course : Courses version p to
    pub near : IsOwned version s now i x to.near
    pub far : to.far ≡ p.far
    pub near_deeds : to.near_deeds ≡ p.near_deeds ++ deeds_at x d.deeds
    pub far_deeds : to.far_deeds ≡ p.far_deeds

  module _ (x : EndId) (p : Pair) (own : (s.ends x).place ≡ place.Owned (pid i)) (owned : IsOwned version s o i x p.near)
      (far_gone : IsGone s (opposite x) → p.far.standing ≡ Destroyed) (gone_far : p.far.standing ≡ Destroyed → IsGone s (opposite x)) where
    heeded : Heeded version s i o x p owner.asked owner.told own owned far_gone (deeds_at x changes.told_deeds) (seen x middle)
    heeded =
        heeds version s i o x p owner.asked owner.told own owned far_gone tellings_lead (deeds_at x changes.told_deeds) (seen x middle) (told_there x).told (told_there x).out (in_one x)
        (λ k at is. received version t x o.state.places k at is (ledger_of o) changes.told_deeds middle telling refl)

    still_gone : heeded.to.far.standing ≡ Destroyed → IsGone s (opposite x)
    still_gone e = gone_far (sym (ap (λ (side : Side). side.standing) heeded.far) ∙ e)

    living : is_living (s.ends x).place ≡ true
    living = ap (λ (at : Place). is_living at) own

    hears_idle : (s.ends x).inward ≡ inward.Idle → Hears (seen x middle) heeded.to
    hears_idle idle =
        ⊎_elim
        (λ (all : AreSpelled version heeded.to.near.coming (coming s x)).
        inl (λ gone. nothing_spelled version heeded.to.near.coming
        (subst (λ (l : List ToldMessage). AreSpelled version heeded.to.near.coming l) (deaf-nothing s x consistent matched (still_gone gone) living idle) all)))
        (λ (lost : heeded.to.near.standing ≡ Lost). inr (inr lost)) heeded.coming_is

    hears : (w : Inward) → (s.ends x).inward ≡ w → Hears (seen x middle) heeded.to
    hears inward.Idle e = hears_idle e
    hears inward.Posted e = inr (heeded.receive (λ idle. let no : inward.Posted ≡ inward.Idle = sym e ∙ idle in cc))
    hears inward.Withdrawn e = inr (heeded.receive (λ idle. let no : inward.Withdrawn ≡ inward.Idle = sym e ∙ idle in cc))
    hears (inward.Matched m) e = inr (heeded.receive (λ idle. let no : inward.Matched m ≡ inward.Idle = sym e ∙ idle in cc))
    hears inward.Unreported e = inr (heeded.receive (λ idle. let no : inward.Unreported ≡ inward.Idle = sym e ∙ idle in cc))

    led : Leads version heeded.to (brings s (pid i) x) (seen x middle) (deeds_at x changes.deeds) (seen x last)
    led =
        changes_lead version heeded.to (brings s (pid i) x) (seen x middle) (deeds_at x changes.deeds) (seen x last) (there x).changes
        (let less : total (seen x middle) ≤ total (seen_of o x) = middle_less x in let one = in_one x in omega (arith, less, one)) heeded.standing (hears (s.ends x).inward refl)

    received_now : IsReceived s now x → HasReceive (turn_of now) (number_of x now.state.places) (seen_of now x).holding ⊎ (led.to.near.standing ≡ Lost)
    received_now is =
        ⊎_elim
        (λ (busy : (s.ends x).inward ≡ inward.Idle → ⊥).
        ⊎_elim
        (λ (on : IsHeard (seen x middle).holding).
        ⊎_elim
        (λ (still : IsHeard (seen x last).holding).
        inl (subst (λ (g : Holding). HasReceive (turn_of now) (number_of x now.state.places) g) (sym (at_last x).holding) (has_receive (turn_of now) (number_of x now.state.places) (seen x last).holding still)))
        (λ (lost : led.to.near.standing ≡ Lost). inr lost) (led.receive on))
        (λ (lost : heeded.to.near.standing ≡ Lost). inr (led.lost lost)) (heeded.receive busy))
        (λ (some : told_to x (given_of now.status) ≡ [] → ⊥). absurd (some (none_told x d.next))) is

    spelled_now : AreSpelled version led.to.near.coming (told_to x (given_of now.status) ++ coming s x) ⊎ (led.to.near.standing ≡ Lost)
    spelled_now =
        ⊎_elim
        (λ (all : AreSpelled version heeded.to.near.coming (coming s x)).
        inl (subst (λ (l : List ToldMessage). AreSpelled version led.to.near.coming (l ++ coming s x)) (sym (none_told x d.next)) (subst (λ (ms : List Message). AreSpelled version ms (coming s x)) (sym led.coming) all)))
        (λ (lost : heeded.to.near.standing ≡ Lost). inr (led.lost lost)) heeded.coming_is

    pub end_goes : EndGoes x p
    end_goes =
        record {
          to = led.to;
          course = onward version p heeded.to led.to heeded.course led.course;
          near =
              record {
                standing = fewer (brings s (pid i) x) (seen x last).holding (seen_of now x).holding (seen x last) (seen_of now x) led.to.near.standing (at_last x).holding (at_last x).out led.standing;
                receive = received_now;
                coming_is = spelled_now;
              };
          far = led.far ∙ heeded.far;
          near_deeds =
              led.near_deeds ∙ ap (λ (l : List Deed). l ++ deeds_at x changes.deeds) heeded.near_deeds ∙ append_assoc p.near_deeds (deeds_at x changes.told_deeds) (deeds_at x changes.deeds)
              ∙ ap (λ (l : List Deed). p.near_deeds ++ l) (sym (deeds_so x));
          far_deeds = led.far_deeds ∙ heeded.far_deeds;
        }

  -- ---- at an end that it does not own

  pub nothing_elsewhere : (x : EndId) → ((s.ends x).place ≡ place.Owned (pid i) → ⊥) → deeds_at x d.deeds ≡ []
  nothing_elsewhere x away = by (holding_at x o.state.places) refl
    where
      none : total (seen_of o x) ≡ 0
      none = by_total (total (seen_of o x)) refl
        where
          by_total : (m : ℕ) → total (seen_of o x) ≡ m → m ≡ 0
          by_total zero e = refl
          by_total (suc m) e = absurd (away ((owner.custody alive x).own (omega (arith, e))))

      by : (g : Holding) → holding_at x o.state.places ≡ g → deeds_at x d.deeds ≡ []
      by (Keeps k) e =
          let held : held_count (seen_of o x).holding ≡ 1 = ap held_count (holding_known t x o.state.places ∙ ap (λ (h : Holding). known_holding t (number_of x o.state.places) h) e) in
          let no = none in absurd (omega (arith, held, no))
      by (Gone own) e =
          let quiet = told_away version own t x (number_of x o.state.places) (holding_at x o.state.places) (deeds_at x changes.told_deeds) (seen x middle).holding (told_there x).told e in
          let less : total (seen x middle) ≤ total (seen_of o x) = middle_less x in
          let no = none in
          let rest = all_away version own (seen x middle) (deeds_at x changes.deeds) (seen x last) (there x).changes (record { holding = quiet.1; out = omega (arith, less, no) }) in
          deeds_so x ∙ ap (λ (l : List Deed). l ++ deeds_at x changes.deeds) quiet.0 ∙ rest.deeds
