-- How each process goes on with a step that is no process's call.
use Rattle.std.proofs.Common.{◌≡◌, inl, inr, ℕ, ◌+◌, ◌≤◌, nat_eq, Bool, true, false, if◌then◌else◌, Option, Some, None, List, [], ◌∷◌, append-nil, refl, sym, ap, subst, ◌∙◌, arith}
use Rattle.charlotte_calls.specs.declared.calls.Answer.{Answer}
use Rattle.charlotte_calls.specs.declared.calls.Answer.TheVariants as answer
use Rattle.charlotte_calls.specs.declared.calls.Call.{Call}
use Rattle.charlotte_calls.specs.declared.calls.Call.TheVariants as call
use Rattle.charlotte_calls.specs.declared.calls.Report.{Report}
use Rattle.charlotte_calls.specs.declared.calls.ServiceStep.{ServiceStep}
use Rattle.charlotte_calls.specs.declared.calls.ServiceStep.TheVariants as step
use Rattle.charlotte_calls.specs.declared.names.EndId.{EndId}
use Rattle.charlotte_calls.specs.declared.names.Way.TheVariants as way
use Rattle.service_change.proofs.Counts.{pid_tells}
use Rattle.service_lawful.specs.Consistent.{IsConsistent}
use Rattle.service_step.specs.State.{State as Service}
use Rattle.service_step.specs.Steps.{IsServiceStep}
use Rattle.run_invariant.specs.Moves.{enclosed_in, gives, how_often}
use Rattle.run_invariant.specs.Entries.{IsUncalled}
use Rattle.run_invariant.specs.States.{Asked, Gone, Holding, Keeps, State}
use Rattle.run_invariant.specs.States as process_states
use Rattle.run_invariant.specs.AtEnd.{is_sent, total}
use Rattle.run_invariant.specs.Ledgers.{brought}
use Rattle.run_invariant.specs.Acted.{process}
use Rattle.run_invariant.specs.Invariant.{HasReceive, has_of, told_to}
use Rattle.run_invariant.specs.Owners.{IsAskedFor, Owner, Pends, Status, Told, destroying, given_of, seen_of, turn_of}
use Rattle.run_service_steps.proofs.Custody.{Takes}
use Rattle.run_service_steps.proofs.Heard.{Hears, IsCancelAnswer}
use Rattle.run_service_steps.proofs.Heard as heard
use Rattle.run_service_steps.proofs.Seen.{IsUnsent, holding-same, out-more, total-more}
use Rattle.run_service_steps.proofs.Sides.{Next, Tells}
use Rattle.run_service_steps.proofs.Sides as sides
use Rattle.run_service_steps.proofs.StepFacts.{given-brought}

-- a process that waits or is in a Cancel asks no Send
unsent-waits : (asked : Asked) (given : Option Answer) (n : ℕ) → asked ≡ process_states.Wait → is_sent asked given n ≡ false
unsent-waits asked given n is = ap (λ (z : Asked). is_sent z given n) is

unsent-cancels : (asked : Asked) (given : Option Answer) (m n : ℕ) → asked ≡ process_states.Cancel m → is_sent asked given n ≡ false
unsent-cancels asked given m n is = ap (λ (z : Asked). is_sent z given n) is

-- a call that is not answered
pub none-given : (asked : Asked) (a : Answer) (given : Option Answer) → given ≡ None → given ≡ Some a → ⊥
none-given asked a given none some = let differ : ◌≡◌ {A = Option Answer} None (Some a) = sym none ∙ some in cc

-- such an answer brings nothing
silent-brought : (a : Answer) → IsCancelAnswer a → brought (Some a) ≡ []
silent-brought a (inl is) = ap (λ (z : Answer). brought (Some z)) is
silent-brought a (inr (inl is)) = ap (λ (z : Answer). brought (Some z)) is
silent-brought a (inr (inr is)) = ap (λ (z : Answer). brought (Some z)) is

silent-told : (x : EndId) (a : Answer) → IsCancelAnswer a → told_to x (Some a) ≡ []
silent-told x a (inl is) = ap (λ (z : Answer). told_to x (Some z)) is
silent-told x a (inr (inl is)) = ap (λ (z : Answer). told_to x (Some z)) is
silent-told x a (inr (inr is)) = ap (λ (z : Answer). told_to x (Some z)) is

-- who was not answered has what a receive asks for by what it keeps
pub unanswered-receive : (o q : Owner) → given_of o.status ≡ None → (n : ℕ) (g : Holding) → HasReceive (turn_of o) n g → HasReceive (turn_of q) n g
unanswered-receive o q none n (Keeps kept) (inl busy) = inl busy
unanswered-receive o q none n (Keeps kept) (inr told) = absurd (none-given o.state.asked answer.Ok (given_of o.status) none told.1)
unanswered-receive o q none n (Gone own) has = absurd has

gives-report : (i : ℕ) (x : EndId) (r : Report) → gives (process i) x (step.Report (process i) r) ≡ how_often x r.enclosed
gives-report i x r = elim (pid_tells (process i) (process i)) [ inl same ↦ of same.0 | inr apart ↦ absurd (apart.1 refl) ]
  where
    of : nat_eq i i ≡ true → gives (process i) x (step.Report (process i) r) ≡ how_often x r.enclosed
    of same = ap (λ (b : Bool). how_often x (enclosed_in (if b then r ∷ [] else []))) same ∙ ap (how_often x) (append-nil r.enclosed)

module _ (s : Service) (made : ServiceStep) (t : Service) (k : IsConsistent s) (is : IsServiceStep s made t) (uncalled : IsUncalled made) (i : ℕ) where
  unasked : {A : Type 0} (z : ServiceStep) → (IsUncalled z → ⊥) → made ≡ z → A
  unasked z not so = absurd (not (subst IsUncalled so uncalled))

  -- ---- what it has of an end
  module _ (state : State) (x : EndId) where
    abbrev with : Status → Owner
    with st = record { state = state; status = st }

    -- where an answer comes that brings these
    heard-so : (c : Call) (a : Answer) → IsUnsent (with (Pends c)) → IsUnsent (with (Told c a)) → gives (process i) x made ≡ how_often x (brought (Some a))
        → destroying x (Told c a) ≡ 0 → Tells i made (with (Pends c)) (with (Told c a)) x
        → Next s made i (with (Pends c)) (with (Told c a)) x × (has_of (with (Told c a)) x ≤ has_of (with (Pends c)) x + gives (process i) x made)
    heard-so c a before now few none tells =
        let more : (seen_of (with (Told c a)) x).out + 0 ≡ (seen_of (with (Pends c)) x).out + how_often x (brought (Some a)) = out-more (with (Pends c)) (Told c a) x before now in
        let all : total (seen_of (with (Told c a)) x) + 0 ≡ total (seen_of (with (Pends c)) x) + how_often x (brought (Some a)) = total-more (with (Pends c)) (Told c a) x before now in (
          record {
            same = refl;
            holding = holding-same (with (Pends c)) (Told c a) x before now;
            out = λ unmade. omega arith;
            told = tells;
            receive = unanswered-receive (with (Pends c)) (with (Told c a)) refl;
            starts = λ so. unasked (step.Receive x) (λ z. z) so;
          },
          omega arith,
        )

    pub goes : (st now : Status) → Hears i made st now → IsAskedFor state st → Next s made i (with st) (with now) x × (has_of (with now) x ≤ has_of (with st) x + gives (process i) x made)
    goes _ _ (heard.Same st nothing) asked = (
      record {
        same = refl;
        holding = refl;
        out = λ unmade. omega arith;
        told = sides.Nothing refl nothing;
        receive = λ n g has. has;
        starts = λ so. unasked (step.Receive x) (λ z. z) so;
      },
      omega arith,
    )
    goes _ _ (heard.Reports r made-so) asked =
        heard-so call.Wait (answer.Reported r) (λ n. unsent-waits state.asked None n asked) (λ n. unsent-waits state.asked (Some (answer.Reported r)) n asked)
        (ap (gives (process i) x) made-so ∙ gives-report i x r) refl (sides.Hears r made-so refl refl)
    goes _ _ (heard.Cancels on a told cancel nothing) asked =
        heard-so (call.Cancel on way.Inward) a (λ n. unsent-cancels state.asked None asked.0.number n asked.0.asked) (λ n. unsent-cancels state.asked (Some a) asked.0.number n asked.0.asked)
        (ap (λ (l : List Report). how_often x (enclosed_in l)) nothing ∙ sym (ap (how_often x) (silent-brought a cancel))) refl (sides.Nothing (silent-told x a cancel) nothing)

    pub takes : (o q : Owner) → has_of q x ≤ has_of o x + gives (process i) x made → Takes s made t i o q x
    takes o q within =
        record {
          within = λ unborn. within;
          given = given-brought s made t k is (process i) x;
          makes = λ p a b so. unasked (step.Make p a b) (λ z. z) so;
          leaves = λ e n bytes xs so. unasked (step.Send e n bytes xs) (λ z. z) so;
          ends = λ so. unasked (step.Destroy x) (λ z. z) so;
          exits = λ so. unasked (step.Exit (process i)) (λ z. z) so;
        }

  pub still-asked : (state : State) (st now : Status) → Hears i made st now → IsAskedFor state st → IsAskedFor state now
  still-asked state _ _ (heard.Same st nothing) asked = asked
  still-asked state _ _ (heard.Reports r made-so) asked = asked
  still-asked state _ _ (heard.Cancels on a told cancel nothing) asked = asked
