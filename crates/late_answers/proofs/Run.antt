-- A Cancel that is answered Late along a local run, and in the run of the link service that its entries show.
use Rattle.std.proofs.Common.{◌≡◌, ◌⊎◌, inl, inr, ℕ, ◌<◌, Bool, true, false, nat_eq, List, [], ◌∷◌, ◌++◌, map, length, Option, Some, None, refl, sym, ap, subst, ◌∙◌, cond, if◌then◌else◌}
use Rattle.std.specs.List.{filter}
use Rattle.std.proofs.lemmas.Bool.{eqb-true}
use Rattle.charlotte_calls.specs.Names.{opposite}
use Rattle.charlotte_calls.specs.Setting.{IsValid}
use Rattle.charlotte_calls.specs.declared.calls.Answer.TheVariants as answer
use Rattle.charlotte_calls.specs.declared.calls.Call.{Call}
use Rattle.charlotte_calls.specs.declared.calls.Call.TheVariants as call
use Rattle.charlotte_calls.specs.declared.calls.Cause.TheVariants as cause
use Rattle.charlotte_calls.specs.declared.calls.ServiceStep.{ServiceStep}
use Rattle.charlotte_calls.specs.declared.calls.ServiceStep.TheVariants as step
use Rattle.charlotte_calls.specs.declared.names.EndId.{EndId}
use Rattle.charlotte_calls.specs.declared.names.Pid.{Pid}
use Rattle.charlotte_calls.specs.declared.names.Way.{Way}
use Rattle.charlotte_calls.specs.declared.names.Way.TheVariants as way
use Rattle.charlotte_calls.specs.declared.setting.Setting.{Setting}
use Rattle.kernel_step.specs.Kernel.{Kernel}
use Rattle.kernel_step.specs.Start.{start_kernel}
use Rattle.kernel_entries.specs.Order.{of_kernel}
use Rattle.kernel_entries.specs.declared.entry.Entry.{Entry}
use Rattle.kernel_entries.specs.declared.entry.Placed.{Placed}
use Rattle.local_runs.specs.Local.{IsLocalEvent, IsLocalRun, LocalEvent, MakesCall, TakesPacket, entries_of, entry_of, gives, happened}
use Rattle.service_step.specs.Run.{start_state}
use Rattle.service_step.specs.State.{State}
use Rattle.late_answers.proofs.Late.{Before, ByRefusal, ByTake, HeardLate, IsIn, call-late, heard-late, in-first, in-second}
use Rattle.told_answers.proofs.Local.{event-stepped, start-as_told}
use Rattle.told_answers.proofs.Run.{AsTold, same-pid}
use Rattle.late_answers.specs.Late.{IsLateByMatch, IsLateFor}
use Rattle.told_answers.specs.Told.{Answered, Heard, NoCall, call_of, heard, hears, hears_all}
use Rattle.theorem.specs.Law.{joined}
use Rattle.theorem.specs.Record.{IsLawfulRecord, steps_of}

-- these steps have one that answers the Cancel of p Late
record HasLate (p : Pid) (e : EndId) (w : Way) (steps : List ServiceStep) : Type 0 where
  late : ServiceStep
  among : IsIn steps late
  is_late : IsLateFor p e w late

-- the steps of entries, one after the other
abbrev steps_in : List Entry → List ServiceStep
steps_in [] = []
steps_in (e ∷ es) = e.steps ++ steps_in es

late-first : (p : Pid) (e : EndId) (w : Way) (xs ys : List ServiceStep) → HasLate p e w xs → HasLate p e w (xs ++ ys)
late-first p e w xs ys has = record { late = has.late; among = in-first xs ys has.late has.among; is_late = has.is_late }

late-second : (p : Pid) (e : EndId) (w : Way) (xs ys : List ServiceStep) → HasLate p e w ys → HasLate p e w (xs ++ ys)
late-second p e w xs ys has = record { late = has.late; among = in-second xs ys has.late has.among; is_late = has.is_late }

take-late : (p : Pid) (e : EndId) (w : Way) (steps : List ServiceStep) (n : ℕ) (q : Pid) → w ≡ way.Inward → IsIn steps (step.Take (opposite e) n q true) → HasLate p e w steps
take-late p e w steps n q inward among = subst (λ u. HasLate p e u steps) (sym inward) (record { late = step.Take (opposite e) n q true; among = among; is_late = refl })

-- ---- one event

event-late : (s : Setting) (k : ℕ) (x : Kernel) (h : Pid → Heard) (o : LocalEvent) (p : Pid) (e : EndId) (w : Way) → AsTold (length s.homes) h x → IsLocalEvent s k x o
    → hears p (h p) (entry_of x o) ≡ Answered (call.Cancel e w) (answer.Refused cause.Late) → (h p ≡ Answered (call.Cancel e w) (answer.Refused cause.Late)) ⊎ HasLate p e w (gives x o).steps
event-late s k x h (TakesPacket from q) p e w inv is heard_so = by (heard-late p e w (h p) None (gives x (TakesPacket from q)).steps heard_so)
  where
    by : HeardLate p e w (h p) None (gives x (TakesPacket from q)).steps → (h p ≡ Answered (call.Cancel e w) (answer.Refused cause.Late)) ⊎ HasLate p e w (gives x (TakesPacket from q)).steps
    by (Before same) = inl same
    by (ByTake n r inward among) = inr (take-late p e w _ n r inward among)
    by (ByRefusal made refused) = absurd (let none : None ≡ Some (call.Cancel e w) = made in cc)
event-late s k x h (MakesCall q c mine) p e w inv is heard_so = by (nat_eq p.0 q.0) refl (heard-late p e w (h p) (call_of p (happened (MakesCall q c mine))) (gives x (MakesCall q c mine)).steps heard_so)
  where
    steps : List ServiceStep
    steps = (gives x (MakesCall q c mine)).steps

    by : (b : Bool) → nat_eq p.0 q.0 ≡ b → HeardLate p e w (h p) (if nat_eq p.0 q.0 then Some c else None) steps → (h p ≡ Answered (call.Cancel e w) (answer.Refused cause.Late)) ⊎ HasLate p e w steps
    by b same (Before before) = inl before
    by b same (ByTake n r inward among) = inr (take-late p e w steps n r inward among)
    by false apart (ByRefusal made refused) = absurd (let none : None ≡ Some (call.Cancel e w) = sym (ap (λ b. if b then Some c else None) apart) ∙ made in cc)
    by true same (ByRefusal made refused) =
        let who : p ≡ q = same-pid p q same in
        let call_is : Some c ≡ Some (call.Cancel e w) = sym (ap (λ b. if b then Some c else None) same) ∙ made in
        let what : c ≡ call.Cancel e w = cc in
        inr (record { late = step.Refuse q c cause.Late; among = call-late (length s.homes) h x inv q c mine is.4 refused; is_late = (sym who, what) })

-- ---- a local run

run-late : (s : Setting) (k : ℕ) (x : Kernel) (h : Pid → Heard) (os : List LocalEvent) (p : Pid) (e : EndId) (w : Way) → AsTold (length s.homes) h x → IsLocalRun s k x os
    → hears_all p (h p) (entries_of x os) ≡ Answered (call.Cancel e w) (answer.Refused cause.Late) → (h p ≡ Answered (call.Cancel e w) (answer.Refused cause.Late)) ⊎ HasLate p e w (steps_in (entries_of x os))
run-late s k x h [] p e w inv are heard_so = inl heard_so
run-late s k x h (o ∷ os) p e w inv are heard_so =
    by (run-late s k (gives x o).kernel (λ q. hears q (h q) (entry_of x o)) os p e w (event-stepped s k x h o inv are.0).inv are.1 heard_so)
  where
    here : (h p ≡ Answered (call.Cancel e w) (answer.Refused cause.Late)) ⊎ HasLate p e w (gives x o).steps
        → (h p ≡ Answered (call.Cancel e w) (answer.Refused cause.Late)) ⊎ HasLate p e w ((gives x o).steps ++ steps_in (entries_of (gives x o).kernel os))
    here (inl before) = inl before
    here (inr has) = inr (late-first p e w _ _ has)

    by : (hears p (h p) (entry_of x o) ≡ Answered (call.Cancel e w) (answer.Refused cause.Late)) ⊎ HasLate p e w (steps_in (entries_of (gives x o).kernel os))
        → (h p ≡ Answered (call.Cancel e w) (answer.Refused cause.Late)) ⊎ HasLate p e w ((gives x o).steps ++ steps_in (entries_of (gives x o).kernel os))
    by (inl now) = here (event-late s k x h o p e w inv are.0 now)
    by (inr has) = inr (late-second p e w _ _ has)

start-late : (s : Setting) (k : ℕ) (made : List LocalEvent) (p : Pid) (e : EndId) (w : Way) → IsValid s → IsLocalRun s k (start_kernel s k) made
    → heard p (entries_of (start_kernel s k) made) ≡ Answered (call.Cancel e w) (answer.Refused cause.Late) → HasLate p e w (steps_in (entries_of (start_kernel s k) made))
start-late s k made p e w valid are heard_so = by (run-late s k (start_kernel s k) (λ q. NoCall) made p e w (start-as_told s k valid) are heard_so)
  where
    by : (NoCall ≡ Answered (call.Cancel e w) (answer.Refused cause.Late)) ⊎ HasLate p e w (steps_in (entries_of (start_kernel s k) made)) → HasLate p e w (steps_in (entries_of (start_kernel s k) made))
    by (inl never) = absurd (let apart : NoCall ≡ Answered (call.Cancel e w) (answer.Refused cause.Late) = never in cc)
    by (inr has) = has

-- ---- the entries of all kernels

-- a step of two lists is of one of them
in-either : {X : Type 0} (xs ys : List X) (x : X) → IsIn (xs ++ ys) x → IsIn xs x ⊎ IsIn ys x
in-either [] ys x among = inr among
in-either (z ∷ xs) ys x (inl is) = inl (inl is)
in-either (z ∷ xs) ys x (inr among) = by (in-either xs ys x among)
  where
    by : IsIn xs x ⊎ IsIn ys x → IsIn (z ∷ xs) x ⊎ IsIn ys x
    by (inl first) = inl (inr first)
    by (inr second) = inr second

-- the steps of one kernel's entries are among those of all
kernel-steps : (k : ℕ) (merged : List Placed) (x : ServiceStep) → IsIn (steps_in (of_kernel k merged)) x → IsIn (steps_of merged) x
kernel-steps k [] x among = among
kernel-steps k (m ∷ merged) x among = by (nat_eq m.kernel k) among (kernel-steps k merged x)
  where
    others : List Placed
    others = filter (λ (z : Placed). nat_eq z.kernel k) merged

    here : IsIn m.entry.steps x ⊎ IsIn (steps_in (map (λ (z : Placed). z.entry) others)) x → (IsIn (steps_in (map (λ (z : Placed). z.entry) others)) x → IsIn (steps_of merged) x) → IsIn (m.entry.steps ++ steps_of merged) x
    here (inl first) later = in-first m.entry.steps (steps_of merged) x first
    here (inr second) later = in-second m.entry.steps (steps_of merged) x (later second)

    by : (b : Bool) → IsIn (steps_in (map (λ (z : Placed). z.entry) (cond b (m ∷ others) others))) x → (IsIn (steps_in (map (λ (z : Placed). z.entry) others)) x → IsIn (steps_of merged) x) → IsIn (m.entry.steps ++ steps_of merged) x
    by true has later = here (in-either m.entry.steps (steps_in (map (λ (z : Placed). z.entry) others)) x has) later
    by false has later = in-second m.entry.steps (steps_of merged) x (later has)

-- ---- the run of the link service

-- a run before and after one of its steps
record StandsIn (run : List (ServiceStep × State)) (x : ServiceStep) : Type 0 where
  before : List (ServiceStep × State)
  after : List (ServiceStep × State)
  left : State
  there : run ≡ before ++ (x, left) ∷ after

stands-in : (run : List (ServiceStep × State)) (x : ServiceStep) → IsIn (map (λ (made : ServiceStep × State). made.0) run) x → StandsIn run x
stands-in [] x among = absurd among
stands-in (made ∷ run) x (inl is) = record { before = []; after = run; left = made.1; there = ap (λ z. (z, made.1) ∷ run) is }
stands-in (made ∷ run) x (inr among) =
    let later = stands-in run x among in
    record { before = made ∷ later.before; after = later.after; left = later.left; there = ap (λ l. made ∷ l) later.there }

pub late-by_match : (s : Setting) (merged : List Placed) (k : ℕ) (made : List LocalEvent) (p : Pid) (e : EndId) (w : Way) → IsValid s → IsLawfulRecord s merged → IsLocalRun s k (start_kernel s k) made
    → of_kernel k merged ≡ entries_of (start_kernel s k) made → heard p (of_kernel k merged) ≡ Answered (call.Cancel e w) (answer.Refused cause.Late) → IsLateByMatch s merged p e w
late-by_match s merged k made p e w valid lawful are entries heard_so =
    let has = start-late s k made p e w valid are (ap (heard p) (sym entries) ∙ heard_so) in
    let among : IsIn (steps_of merged) has.late = kernel-steps k merged has.late (subst (λ l. IsIn (steps_in l) has.late) (sym entries) has.among) in
    let stands = stands-in (joined lawful.lawfully.served.parts) has.late (subst (λ l. IsIn l has.late) lawful.steps among) in
    record {
      lawful = lawful;
      before = stands.before;
      after = stands.after;
      late = has.late;
      left = stands.left;
      there = stands.there;
      is_late = has.is_late;
      right = lawful.lawfully.lawful.steps stands.before stands.after (has.late, stands.left) stands.there;
    }
