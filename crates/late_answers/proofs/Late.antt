-- A Cancel is answered Late by a step of one of two kinds.
use Rattle.std.proofs.Common.{◌≡◌, ◌⊎◌, inl, inr, ℕ, ◌<◌, Bool, true, false, nat_eq, ◌&&◌, List, [], ◌∷◌, ◌++◌, map, Option, Some, None, refl, sym, ap, subst, ◌∙◌, if◌then◌else◌}
use Rattle.charlotte_calls.specs.Names.{opposite}
use Rattle.charlotte_calls.specs.declared.calls.Answer.{Answer}
use Rattle.charlotte_calls.specs.declared.calls.Answer.TheVariants as answer
use Rattle.charlotte_calls.specs.declared.calls.Call.{Call}
use Rattle.charlotte_calls.specs.declared.calls.Call.TheVariants as call
use Rattle.charlotte_calls.specs.declared.calls.Cause.{Cause}
use Rattle.charlotte_calls.specs.declared.calls.Cause.TheVariants as cause
use Rattle.charlotte_calls.specs.declared.calls.Report.{Report}
use Rattle.charlotte_calls.specs.declared.calls.ServiceStep.{ServiceStep}
use Rattle.charlotte_calls.specs.declared.calls.ServiceStep.TheVariants as step
use Rattle.charlotte_calls.specs.declared.names.EndId.{EndId}
use Rattle.charlotte_calls.specs.declared.names.Pid.{Pid}
use Rattle.charlotte_calls.specs.declared.names.Way.{Way}
use Rattle.charlotte_calls.specs.declared.names.Way.TheVariants as way
use Rattle.end_table.proofs.EndEq.{end_eq-same}
use Rattle.end_table.specs.Place.{end_eq}
use Rattle.kernel_effects.specs.Calls.{act_effect}
use Rattle.kernel_outcomes.proofs.Called.{call-gives, call-refused}
use Rattle.kernel_outcomes.specs.Closing.{CallGives, call_told}
use Rattle.kernel_step.specs.Calls.{IsCallWith, refusal}
use Rattle.kernel_step.specs.Kernel.{Kernel, Outcome, call_step, has_report, process_of, without_answer}
use Rattle.told_answers.proofs.Called.{reported-refusals}
use Rattle.told_answers.proofs.Calls.{act-untold}
use Rattle.told_answers.proofs.Run.{AsTold}
use Rattle.told_answers.specs.Told.{Answered, Heard, NoCall, Pending, cancel_in, first_in, granted_told, heard_of, hears_by, later_told, made_in, or_else, own_told, refusal_in, report_in}

-- these steps have this one
abbrev pub IsIn : {X : Type 0} → List X → X → Type 0
IsIn [] s = ⊥
IsIn (x ∷ xs) s = (x ≡ s) ⊎ IsIn xs s

pub in-first : {X : Type 0} (xs ys : List X) (s : X) → IsIn xs s → IsIn (xs ++ ys) s
in-first (x ∷ xs) ys s (inl is) = inl is
in-first (x ∷ xs) ys s (inr among) = inr (in-first xs ys s among)
in-first [] ys s among = absurd among

pub in-second : {X : Type 0} (xs ys : List X) (s : X) → IsIn ys s → IsIn (xs ++ ys) s
in-second [] ys s among = among
in-second (x ∷ xs) ys s among = inr (in-second xs ys s among)

-- what is told is told by a step
first_in-among : (tells : ServiceStep → Option Answer) (xs : List ServiceStep) (a : Answer) → first_in tells xs ≡ Some a → (s : ServiceStep) × IsIn xs s × (tells s ≡ Some a)
first_in-among tells [] a is = absurd (let no : None ≡ Some a = is in cc)
first_in-among tells (x ∷ xs) a is = by (tells x) refl is (first_in-among tells xs a)
  where
    by : (b : Option Answer) → tells x ≡ b → or_else b (first_in tells xs) ≡ Some a → (first_in tells xs ≡ Some a → (s : ServiceStep) × IsIn xs s × (tells s ≡ Some a)) → (s : ServiceStep) × IsIn (x ∷ xs) s × (tells s ≡ Some a)
    by None none later others = let found = others later in (found.0, inr found.1, found.2)
    by (Some b) told first others = (x, inl refl, told ∙ first)

-- ---- which steps tell Late

abbrev Late : Answer
Late = answer.Refused cause.Late

-- a step that tells Late of the Cancel of a receive takes its message
taken-late : (on : EndId) (s : ServiceStep) → cancel_in on s ≡ Some Late → (n : ℕ) × (q : Pid) × (s ≡ step.Take (opposite on) n q true)
taken-late on (step.Free e) is = absurd (by (end_eq on e) is)
  where
    by : (b : Bool) → (if b then Some answer.Ok else None) ≡ Some Late → ⊥
    by true same = cc
    by false same = cc
taken-late on (step.Take e n q late) is = by (end_eq (opposite on) e) late refl is
  where
    by : (b late : Bool) → end_eq (opposite on) e ≡ b → (if b && late then Some Late else None) ≡ Some Late → (m : ℕ) × (r : Pid) × (step.Take e n q late ≡ step.Take (opposite on) m r true)
    by true true same told = (n, q, ap (λ z. step.Take z n q true) (sym (end_eq-same (opposite on) e same)))
    by true false same told = absurd (let no : None ≡ Some Late = told in cc)
    by false late same told = absurd (let no : None ≡ Some Late = told in cc)
taken-late on (step.Notice e dead) is = absurd (by (end_eq on e && dead) is)
  where
    by : (b : Bool) → (if b then Some (answer.Refused cause.Dead) else None) ≡ Some Late → ⊥
    by true same = cc
    by false same = cc
taken-late on (step.Back e n dead) is = absurd (by (end_eq on e && dead) is)
  where
    by : (b : Bool) → (if b then Some (answer.Refused cause.Dead) else None) ≡ Some Late → ⊥
    by true same = cc
    by false same = cc
taken-late on (step.Make p a b) is = absurd (let no : None ≡ Some Late = is in cc)
taken-late on (step.Refuse p c a) is = absurd (let no : None ≡ Some Late = is in cc)
taken-late on (step.Destroy e) is = absurd (let no : None ≡ Some Late = is in cc)
taken-late on (step.Send e n bytes xs) is = absurd (let no : None ≡ Some Late = is in cc)
taken-late on (step.Receive e) is = absurd (let no : None ≡ Some Late = is in cc)
taken-late on (step.Cancel e w) is = absurd (let no : None ≡ Some Late = is in cc)
taken-late on (step.Wait p) is = absurd (let no : None ≡ Some Late = is in cc)
taken-late on (step.Report p r) is = absurd (let no : None ≡ Some Late = is in cc)
taken-late on (step.Exit p) is = absurd (let no : None ≡ Some Late = is in cc)
taken-late on (step.Match e n) is = absurd (let no : None ≡ Some Late = is in cc)
taken-late on (step.Complete e n) is = absurd (let no : None ≡ Some Late = is in cc)
taken-late on (step.Withdraw e) is = absurd (let no : None ≡ Some Late = is in cc)

-- a report tells no refusal
report-not_late : (p : Pid) (s : ServiceStep) → report_in p s ≡ Some Late → ⊥
report-not_late p (step.Report q r) is = by (nat_eq p.0 q.0) is
  where
    by : (b : Bool) → (if b then Some (answer.Reported r) else None) ≡ Some Late → ⊥
    by true same = cc
    by false same = cc
report-not_late p (step.Free e) is = cc
report-not_late p (step.Take e n q late) is = cc
report-not_late p (step.Notice e dead) is = cc
report-not_late p (step.Back e n dead) is = cc
report-not_late p (step.Make q a b) is = cc
report-not_late p (step.Refuse q c a) is = cc
report-not_late p (step.Destroy e) is = cc
report-not_late p (step.Send e n bytes xs) is = cc
report-not_late p (step.Receive e) is = cc
report-not_late p (step.Cancel e w) is = cc
report-not_late p (step.Wait q) is = cc
report-not_late p (step.Exit q) is = cc
report-not_late p (step.Match e n) is = cc
report-not_late p (step.Complete e n) is = cc
report-not_late p (step.Withdraw e) is = cc

-- ---- what is heard

-- a Cancel that is pending is answered Late by a take
later-late : (p : Pid) (e : EndId) (w : Way) (steps : List ServiceStep) → later_told p (call.Cancel e w) steps ≡ Some Late → (w ≡ way.Inward) × ((n : ℕ) × (q : Pid) × IsIn steps (step.Take (opposite e) n q true))
later-late p e way.Outward steps is = absurd (let no : None ≡ Some Late = is in cc)
later-late p e way.Inward steps is =
    let found = first_in-among (cancel_in e) steps Late is in
    let taken = taken-late e found.0 found.2 in
    (refl, (taken.0, taken.1, subst (IsIn steps) taken.2 found.1))

-- a Cancel that is granted is not answered Late by its own entry
own-late : (p : Pid) (e : EndId) (w : Way) (steps : List ServiceStep) → own_told p (call.Cancel e w) steps ≡ Some Late → first_in refusal_in steps ≡ Some Late
own-late p e w steps is = by (first_in refusal_in steps) refl w is
  where
    by : (a : Option Answer) → first_in refusal_in steps ≡ a → (w : Way) → or_else a (granted_told p (call.Cancel e w) steps) ≡ Some Late → first_in refusal_in steps ≡ Some Late
    by (Some a) refused w told = refused ∙ told
    by None none way.Outward told = absurd (let no : Some answer.Ok ≡ Some Late = told in cc)
    by None none way.Inward told = absurd (let no : None ≡ Some Late = told in cc)

-- where a Cancel is answered Late with an entry, it was so before, or the entry has a take that says so, or it refuses the call
pub data HeardLate (p : Pid) (e : EndId) (w : Way) (h : Heard) (made : Option Call) (steps : List ServiceStep) : Type 0 where
  Before : h ≡ Answered (call.Cancel e w) Late → HeardLate p e w h made steps
  ByTake : (n : ℕ) → (q : Pid) → w ≡ way.Inward → IsIn steps (step.Take (opposite e) n q true) → HeardLate p e w h made steps
  ByRefusal : made ≡ Some (call.Cancel e w) → first_in refusal_in steps ≡ Some Late → HeardLate p e w h made steps

pub heard-late : (p : Pid) (e : EndId) (w : Way) (h : Heard) (made : Option Call) (steps : List ServiceStep) → hears_by p h made steps ≡ Answered (call.Cancel e w) Late → HeardLate p e w h made steps
heard-late p e w h (Some c) steps is = by (own_told p c steps) refl is
  where
    by : (a : Option Answer) → own_told p c steps ≡ a → heard_of c a ≡ Answered (call.Cancel e w) Late → HeardLate p e w h (Some c) steps
    by None told same = absurd (let no : Pending c ≡ Answered (call.Cancel e w) Late = same in cc)
    by (Some a) told same =
        let same_call : c ≡ call.Cancel e w = cc in
        let same_answer : a ≡ Late = cc in
        ByRefusal (ap Some same_call) (own-late p e w steps (ap (λ d. own_told p d steps) (sym same_call) ∙ told ∙ ap Some same_answer))
heard-late p e w NoCall None steps is = absurd (let no : NoCall ≡ Answered (call.Cancel e w) Late = is in cc)
heard-late p e w (Answered c a) None steps is = Before is
heard-late p e w (Pending c) None steps is = by (later_told p c steps) refl is
  where
    by : (a : Option Answer) → later_told p c steps ≡ a → heard_of c a ≡ Answered (call.Cancel e w) Late → HeardLate p e w (Pending c) None steps
    by None told same = absurd (let no : Pending c ≡ Answered (call.Cancel e w) Late = same in cc)
    by (Some a) told same =
        let same_call : c ≡ call.Cancel e w = cc in
        let same_answer : a ≡ Late = cc in
        let taken = later-late p e w steps (ap (λ d. later_told p d steps) (sym same_call) ∙ told ∙ ap Some same_answer) in
        ByTake taken.1.0 taken.1.1 taken.0 taken.1.2

-- ---- a kernel refuses a call in the call's own name

pub call-late : (n : ℕ) (h : Pid → Heard) (x : Kernel) → AsTold n h x → (p : Pid) (c : Call) (mine : List EndId) → IsCallWith p x.table mine c
    → first_in refusal_in (call_step (without_answer p x) p mine c).steps ≡ Some Late → IsIn (call_step (without_answer p x) p mine c).steps (step.Refuse p c cause.Late)
call-late n h x inv p c mine ends told = by (refusal p s.table s.made mine (has_report (process_of p s)) c) refl
  where
    s : Kernel
    s = without_answer p x

    o : Outcome
    o = call_step (without_answer p x) p mine c

    refused : (a : Cause) → o.steps ≡ step.Refuse p c a ∷ [] → IsIn o.steps (step.Refuse p c cause.Late)
    refused a is =
        let same : Some (answer.Refused a) ≡ Some Late = sym (ap (first_in refusal_in) is) ∙ told in
        let what : a ≡ cause.Late = cc in
        subst (λ l. IsIn l (step.Refuse p c cause.Late)) (sym is) (inl (ap (step.Refuse p c) what))

    granted : CallGives s p mine c o → IsIn o.steps (step.Refuse p c cause.Late)
    granted g =
        let none : first_in refusal_in o.steps ≡ None =
        ap (first_in refusal_in) g.steps ∙ reported-refusals p (act_effect p x.number x.made mine x.table c).steps (act-untold p x.number x.made mine x.table c) (call_told c (s.process p.0).reports) in
        absurd (let no : None ≡ Some Late = sym none ∙ told in cc)

    by : (r : Option Cause) → refusal p s.table s.made mine (has_report (process_of p s)) c ≡ r → IsIn o.steps (step.Refuse p c cause.Late)
    by None is = granted (call-gives n s p mine inv.sound c is ends)
    by (Some a) is = refused a (call-refused s p mine c a is).steps
