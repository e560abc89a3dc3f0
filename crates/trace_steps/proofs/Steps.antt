-- Steps of the service, and runs of them, by which no end is made or destroyed, and none comes to know of the death of its link.
use Rattle.std.proofs.Common.{◌≡◌, Bool, true, false, List, [], ◌∷◌, ◌++◌, map, Contains, Option, None, Some, refl, sym, ap, subst, ◌∙◌}
use Rattle.std.specs.List.{AllByRecursion}
use Rattle.charlotte_calls.specs.declared.calls.Report.{Report}
use Rattle.charlotte_calls.specs.declared.calls.ServiceStep.{ServiceStep}
use Rattle.charlotte_calls.specs.declared.calls.ServiceStep.TheVariants as step
use Rattle.charlotte_calls.specs.declared.names.EndId.{EndId}
use Rattle.charlotte_calls.specs.declared.names.Pid.{Pid}
use Rattle.charlotte_calls.specs.declared.names.Way.{Way}
use Rattle.charlotte_calls.specs.declared.names.Way.TheVariants as way
use Rattle.service_consistent.proofs.Laws.{consistent_after}
use Rattle.service_lawful.specs.Consistent.{IsConsistent}
use Rattle.service_step.specs.Ends.{owner}
use Rattle.service_step.specs.Run.{IsRunFrom, state_after}
use Rattle.service_step.specs.State.{State}
use Rattle.service_step.specs.Steps.{IsServiceStep, after_cancel}
use Rattle.service_step.specs.declared.state.End.{End}
use Rattle.service_step.specs.declared.state.Inward.TheVariants as inward
use Rattle.service_step.specs.declared.state.Outward.TheVariants as outward
use Rattle.trace_link.specs.Calm.{AreAsOpen}
use Rattle.trace_steps.proofs.Words.{as-open-on, as-open-same, idles-open, matches-open, sends-open, takes-open, turns_inward-open, turns_outward-open, withdraws-open}
use Rattle.trace_steps.specs.Steps.{AreQuiet, IsPlainStep, IsQuietStep}

-- a state that is another is as open as that
after-open : (s u v : State) → v ≡ u → AreAsOpen s.ends u.ends → AreAsOpen s.ends v.ends
after-open s u v same is = subst (λ (z : State). AreAsOpen s.ends z.ends) (sym same) is

step-open : (s : State) (x : ServiceStep) (t : State) → IsConsistent s → IsServiceStep s x t → IsQuietStep s x → AreAsOpen s.ends t.ends
step-open s (step.Make p a b) t is made quiet = absurd quiet
step-open s (step.Refuse p call cause) t is made quiet = after-open s s t made.after (as-open-same s.ends)
step-open s (step.Destroy e) t is made quiet = absurd quiet
step-open s (step.Send e n bytes xs) t is made quiet = after-open s _ t made.after (sends-open e n (record { bytes = bytes; carried = xs }) s.ends quiet)
step-open s (step.Receive e) t is made quiet = after-open s _ t made.after (turns_inward-open inward.Posted e s.ends)
step-open s (step.Cancel e x) t is made quiet = after-open s (after_cancel (owner (s.ends e).place) e x s) t made.after (by (owner (s.ends e).place) x)
  where
    by : (o : Option Pid) (x : Way) → AreAsOpen s.ends (after_cancel o e x s).ends
    by None x = as-open-same s.ends
    by (Some p) way.Outward = withdraws-open s is p e
    by (Some p) way.Inward = as-open-same s.ends
step-open s (step.Wait p) t is made quiet = after-open s _ t made.after (as-open-same s.ends)
step-open s (step.Report p r) t is made quiet = after-open s _ t made.after (idles-open r.way r.on s.ends)
step-open s (step.Exit p) t is made quiet = absurd quiet
step-open s (step.Match e n) t is made quiet = after-open s _ t made.after (matches-open e n s.ends)
step-open s (step.Take e n p late) t is made quiet = after-open s _ t made.after (takes-open s is e p)
step-open s (step.Complete e n) t is made quiet = after-open s _ t made.after (turns_outward-open outward.Unreported e s.ends)
step-open s (step.Withdraw e) t is made quiet = after-open s _ t made.after (turns_inward-open inward.Withdrawn e s.ends)
step-open s (step.Free e) t is made quiet = after-open s _ t made.after (turns_inward-open inward.Idle e s.ends)
step-open s (step.Notice e dead) t is made quiet = absurd quiet
step-open s (step.Back e n dead) t is made quiet = absurd quiet

plain-quiet : (s : State) (x : ServiceStep) → IsPlainStep x → IsQuietStep s x
plain-quiet s (step.Send e n bytes xs) plain = absurd plain
plain-quiet s _ plain = plain

-- ---- runs

pub plain-open : (s : State) (part : List (ServiceStep × State)) → IsConsistent s → IsRunFrom s part → AllByRecursion IsPlainStep (map (λ made. made.0) part) → AreAsOpen s.ends (state_after s part).ends
plain-open s [] is run plain = as-open-same s.ends
plain-open s (x ∷ part) is run plain = as-open-on (step-open s x.0 x.1 is run.0 (plain-quiet s x.0 plain.0)) (plain-open x.1 part (consistent_after s x.0 x.1 is run.0) run.1 plain.1)

pub run-open : (s : State) (part : List (ServiceStep × State)) → IsConsistent s → IsRunFrom s part → AreQuiet s (map (λ made. made.0) part) → AreAsOpen s.ends (state_after s part).ends
run-open s [] is run quiet = as-open-same s.ends
run-open s (x ∷ part) is run quiet = as-open-on (step-open s x.0 x.1 is run.0 quiet.0) (plain-open x.1 part (consistent_after s x.0 x.1 is run.0) run.1 quiet.1)

-- ends are as the first step leaves them, where others follow by which they stay
pub led : (P : (EndId → End) → Type 0) → ((t u : EndId → End) → AreAsOpen t u → P t → P u) → (s : State) (part : List (ServiceStep × State)) (x : ServiceStep) (more : List ServiceStep) → IsConsistent s → IsRunFrom s part
    → map (λ made. made.0) part ≡ x ∷ more → AllByRecursion IsPlainStep more → ((t : State) → IsServiceStep s x t → P t.ends) → P (state_after s part).ends
led P on s [] x more is run same plain each = absurd (let differ : [] ≡ x ∷ more = same in cc)
led P on s (y ∷ part) x more is run same plain each =
    let head : y.0 ≡ x = (cc) in
    let tail : map (λ made. made.0) part ≡ more = (cc) in
    let first : IsServiceStep s x y.1 = subst (λ z. IsServiceStep s z y.1) head run.0 in
    on y.1.ends (state_after y.1 part).ends (plain-open y.1 part (consistent_after s x y.1 is first) run.1 (subst (AllByRecursion IsPlainStep) (sym tail) plain)) (each y.1 first)

-- reports that are told
pub reports-plain : (p : Pid) (rs : List Report) → AllByRecursion IsPlainStep (map (step.Report p) rs)
reports-plain p [] = tt
reports-plain p (r ∷ rs) = (tt, reports-plain p rs)

pub plain-append : (xs ys : List ServiceStep) → AllByRecursion IsPlainStep xs → AllByRecursion IsPlainStep ys → AllByRecursion IsPlainStep (xs ++ ys)
plain-append [] ys first second = second
plain-append (x ∷ xs) ys first second = (first.0, plain-append xs ys first.1 second)

pub quiet-append : (s : State) (xs ys : List ServiceStep) → AreQuiet s xs → AllByRecursion IsPlainStep ys → AreQuiet s (xs ++ ys)
quiet-append s [] [] first second = tt
quiet-append s [] (y ∷ ys) first second = (plain-quiet s y second.0, second.1)
quiet-append s (x ∷ xs) ys first second = (first.0, plain-append xs ys first.1 second)
