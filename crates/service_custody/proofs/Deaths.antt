-- A death that is told is true.
use Rattle.std.proofs.Common.{◌≡◌, Bool, true, false, true≢false, ◌&&◌, ◌||◌, ◌⊎◌, inl, inr, if◌then◌else◌, Some, None, List, [], ◌∷◌, Contains, refl, sym, subst, ◌∙◌}
use Rattle.charlotte_calls.specs.Causes.{first_of, cancel_causes, receive_causes, send_causes}
use Rattle.charlotte_calls.specs.Names.{opposite}
use Rattle.charlotte_calls.specs.declared.calls.Answer.TheVariants as answer
use Rattle.charlotte_calls.specs.declared.calls.Call.{Call}
use Rattle.charlotte_calls.specs.declared.calls.Cause.{Cause}
use Rattle.charlotte_calls.specs.declared.calls.Cause.TheVariants as cause
use Rattle.charlotte_calls.specs.declared.calls.Report.{Report}
use Rattle.charlotte_calls.specs.declared.calls.ServiceStep.{ServiceStep}
use Rattle.charlotte_calls.specs.declared.calls.ServiceStep.TheVariants as step
use Rattle.charlotte_calls.specs.declared.names.EndId.{EndId}
use Rattle.charlotte_calls.specs.declared.names.Outcome.TheVariants as outcome
use Rattle.charlotte_calls.specs.declared.names.Pid.{Pid}
use Rattle.service_change.proofs.Change.{idle-over, none-some}
use Rattle.service_change.proofs.Counts.{and-true}
use Rattle.service_change.proofs.EndEq.{end_eq-same, opposite-opposite}
use Rattle.service_change.proofs.Facts.{busy-made}
use Rattle.service_custody.proofs.Turns.{destroyed-is}
use Rattle.service_custody.specs.Deaths.{AreDeathsTrue, IsGone, IsOn, Cancels, Receives, Sends}
use Rattle.service_lawful.specs.Consistent.{IsConsistent, is_open}
use Rattle.service_step.specs.Causes.{IsRefusedFor, is_cause, sees}
use Rattle.service_step.specs.Ends.{end_eq, is_destroyed, is_idle, is_living, is_made}
use Rattle.service_step.specs.State.{State}
use Rattle.service_step.specs.Steps.{IsServiceStep}
use Rattle.service_step.specs.declared.state.Place.{Place}
use Rattle.service_step.specs.declared.state.Place.TheVariants as place
use Rattle.service_streams.proofs.Places.{gone-stays, oldest-there}
use Rattle.told_answers.specs.Told.{cancel_in}

-- the cause Dead is of a test that says so
abbrev Guards : Type 0 → List (Bool × Cause) → Type 0
Guards P [] = Unit {0}
Guards P (t ∷ ts) = ((is_cause cause.Dead (Some t.1) ≡ false) ⊎ (t.0 ≡ true → P)) × Guards P ts

dead-first : (P : Type 0) (ts : List (Bool × Cause)) → Guards P ts → is_cause cause.Dead (first_of ts) ≡ true → P
dead-first P [] guards is = absurd (true≢false (sym is))
dead-first P (t ∷ ts) guards is = by t.0 refl guards.0 is (dead-first P ts guards.1)
  where
    by : (b : Bool) → t.0 ≡ b → (is_cause cause.Dead (Some t.1) ≡ false) ⊎ (t.0 ≡ true → P) → is_cause cause.Dead (if b then Some t.1 else first_of ts) ≡ true → (is_cause cause.Dead (first_of ts) ≡ true → P) → P
    by true holds (inl other) is rest = absurd (true≢false (sym is ∙ other))
    by true holds (inr so) is rest = so holds
    by false not guard is rest = rest is

dead-noticed : (s : State) (p : Pid) (c : Call) (x : EndId) → IsOn x c → IsRefusedFor s p c cause.Dead → (s.ends x).noticed ≡ true
dead-noticed s p c x (Sends bytes xs) is =
    dead-first ((s.ends x).noticed ≡ true) (send_causes (sees p s.ends) x xs) (inl refl, (inl refl, (inr (λ b. b), (inl refl, (inl refl, (inl refl, (inl refl, tt))))))) is
dead-noticed s p c x Receives is = dead-first ((s.ends x).noticed ≡ true) (receive_causes (sees p s.ends x)) (inl refl, (inl refl, (inr (λ b. b), tt))) is
dead-noticed s p c x (Cancels w) is = dead-first ((s.ends x).noticed ≡ true) (cancel_causes w (sees p s.ends x)) (inl refl, (inr (λ b. b), (inl refl, (inl refl, tt)))) is

-- an end that was made and lives no more is destroyed
made-gone : (at : Place) → is_made at ≡ true → is_living at ≡ false → at ≡ place.Destroyed
made-gone place.Destroyed made not = refl
made-gone (place.Owned p) made not = absurd (true≢false not)
made-gone (place.InMessage f i) made not = absurd (true≢false not)
made-gone place.Unmade made not = absurd (true≢false (sym made))

module _ (s : State) (made : ServiceStep) (t : State) (k : IsConsistent s) (is : IsServiceStep s made t) where
  goes : (x : EndId) → IsGone s x → IsGone t x
  goes x gone = gone-stays s made t x k is gone

  -- of an end that is not open
  shut : (x : EndId) → is_made (s.ends x).place ≡ true → is_open (s.ends x) ≡ false → IsGone t x ⊎ IsGone t (opposite x)
  shut x was not = by (is_living (s.ends x).place) refl (s.ends x).noticed refl not
    where
      by : (b : Bool) → is_living (s.ends x).place ≡ b → (c : Bool) → (s.ends x).noticed ≡ c → b && (if c then false else true) ≡ false → IsGone t x ⊎ IsGone t (opposite x)
      by false dead c is not = inl (goes x (made-gone (s.ends x).place was dead))
      by true lives true noticed not = inr (goes (opposite x) (k.noticed.opposite x noticed))
      by true lives false silent not = absurd (true≢false not)

  report-death : (p : Pid) (r : Report) → made ≡ step.Report p r → r.outcome ≡ outcome.Destroyed → IsGone t r.on ⊎ IsGone t (opposite r.on)
  report-death p r its dead = shut r.on was (by (is_open (s.ends r.on)) refl)
    where
      step_is : IsServiceStep s (step.Report p r) t
      step_is = subst (λ z. IsServiceStep s z t) its is

      there : Contains (s.process p.0).reports r
      there = oldest-there (s.process p.0).reports r step_is.allowed.1

      differ : r.outcome ≡ outcome.Done → ⊥
      differ done = let no : outcome.Destroyed ≡ outcome.Done = sym dead ∙ done in cc

      busy : (b : Bool) → is_idle (s.ends r.on) ≡ b → b ≡ false
      busy true idle = absurd (true≢false (sym (k.reported.over p r there) ∙ idle-over r.way (s.ends r.on) idle))
      busy false not = refl

      was : is_made (s.ends r.on).place ≡ true
      was = busy-made s r.on k (busy (is_idle (s.ends r.on)) refl)

      by : (b : Bool) → is_open (s.ends r.on) ≡ b → b ≡ false
      by true opens = absurd (differ (k.reported.done p r there opens))
      by false shut = refl

-- a Cancel that is refused since the link is dead
cancel-death : (s : State) (made : ServiceStep) (t : State) (x : EndId) → IsConsistent s → IsServiceStep s made t → cancel_in x made ≡ Some (answer.Refused cause.Dead) → IsGone t x ⊎ IsGone t (opposite x)
cancel-death s (step.Notice e dead) t x k is told = by (end_eq x e) refl told
  where
    by : (b : Bool) → end_eq x e ≡ b → (if b && dead then Some (answer.Refused cause.Dead) else None) ≡ Some (answer.Refused cause.Dead) → IsGone t x ⊎ IsGone t (opposite x)
    by true same told =
        inr (subst (λ z. IsGone t (opposite z)) (sym (end_eq-same x e same)) (goes s _ t k is (opposite e) (destroyed-is (s.ends (opposite e)).place (and-true _ _ (and-true _ _ (and-true _ _ is.allowed).0).0).0)))
    by false apart told = absurd (none-some None (answer.Refused cause.Dead) refl told)
cancel-death s (step.Back e n dead) t x k is told = by (end_eq x e) refl told
  where
    either : (b : Bool) → is_destroyed (s.ends (opposite e)).place ≡ b → b || (s.ends (opposite e)).noticed ≡ true → IsGone t e ⊎ IsGone t (opposite e)
    either true gone may = inr (goes s _ t k is (opposite e) (destroyed-is (s.ends (opposite e)).place gone))
    either false not noticed = inl (goes s _ t k is e (subst (IsGone s) (opposite-opposite e) (k.noticed.opposite (opposite e) noticed)))

    by : (b : Bool) → end_eq x e ≡ b → (if b && dead then Some (answer.Refused cause.Dead) else None) ≡ Some (answer.Refused cause.Dead) → IsGone t x ⊎ IsGone t (opposite x)
    by true same told = subst (λ z. IsGone t z ⊎ IsGone t (opposite z)) (sym (end_eq-same x e same)) (either (is_destroyed (s.ends (opposite e)).place) refl (and-true _ _ (and-true _ _ (and-true _ _ is.allowed).0).0).1)
    by false apart told = absurd (none-some None (answer.Refused cause.Dead) refl told)
cancel-death s (step.Free e) t x k is told = absurd (by (end_eq x e) told)
  where
    by : (b : Bool) → (if b then Some answer.Ok else None) ≡ Some (answer.Refused cause.Dead) → ⊥
    by true told = cc
    by false told = none-some None (answer.Refused cause.Dead) refl told
cancel-death s (step.Take e n p late) t x k is told = absurd (by (end_eq (opposite x) e && late) told)
  where
    late-not : Some (answer.Refused cause.Late) ≡ Some (answer.Refused cause.Dead) → ⊥
    late-not same = let inside : answer.Refused cause.Late ≡ answer.Refused cause.Dead = cc in let no : cause.Late ≡ cause.Dead = cc in cc

    by : (b : Bool) → (if b then Some (answer.Refused cause.Late) else None) ≡ Some (answer.Refused cause.Dead) → ⊥
    by true told = late-not told
    by false told = none-some None (answer.Refused cause.Dead) refl told
cancel-death s _ t x k is told = absurd (none-some None (answer.Refused cause.Dead) refl told)

pub deaths-true : (s : State) (made : ServiceStep) (t : State) → IsConsistent s → IsServiceStep s made t → AreDeathsTrue s made t
deaths-true s made t k is =
    record {
      refused = λ p c x its on. let now = subst (λ z. IsServiceStep s z t) its is in goes s made t k is (opposite x) (k.noticed.opposite x (dead-noticed s p c x on now.allowed.1));
      reported = λ p r its dead. report-death s made t k is p r its dead;
      cancelled = λ x told. cancel-death s made t x k is told;
    }
