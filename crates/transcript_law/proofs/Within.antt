-- The events of a run happen at kernels that are there.
use Rattle.std.proofs.Common.{◌≡◌, ◌⊎◌, inl, inr, ℕ, suc, ◌+◌, ◌<◌, ◌≤◌, ◌^◌, List, [], ◌∷◌, length, Option, Some, None, arith, ap, sym, subst, ◌∙◌, refl, get_or, All}
use Rattle.std.specs.List.{fold}
use Rattle.std.proofs.lemmas.Bool.Decides.{leb_tells}
use Rattle.std.proofs.lemmas.List.{length-set, length-replicate}
use Rattle.std.proofs.lemmas.List.Elements.{All-get_or}
use Rattle.charlotte_calls.specs.Setting.{IsValid}
use Rattle.charlotte_calls.specs.declared.calls.ServiceStep.{ServiceStep}
use Rattle.charlotte_calls.specs.declared.calls.ServiceStep.TheVariants as step
use Rattle.charlotte_calls.specs.declared.names.EndId.{EndId}
use Rattle.charlotte_calls.specs.declared.names.Pid.{Pid}
use Rattle.charlotte_calls.specs.declared.names.Way.{Way}
use Rattle.charlotte_calls.specs.declared.names.Way.TheVariants as way
use Rattle.charlotte_calls.specs.declared.setting.Setting.{Setting}
use Rattle.kernel_world.specs.Run.{AreAllowed, IsAllowed, IsRun}
use Rattle.kernel_world.specs.World.{World, Event, Calls, Takes, happens, kernel_of, start}
use Rattle.service_step.specs.Ends.{owner}
use Rattle.service_step.specs.Run.{IsRunFrom, Wired, nothing_wired, start_state, state_after, wired, wires_one}
use Rattle.service_step.specs.State.{State, counts}
use Rattle.service_step.specs.Steps.{IsServiceStep, after_cancel}
use Rattle.trace_law.proofs.TheoremRun.{goes-event}
use Rattle.trace_law.proofs.Start.{starts-well}
use Rattle.theorem_call_send.proofs.Version.{run-version}
use Rattle.theorem_meaning.specs.Invariant.{Invariant}
use Rattle.transcript_replay.specs.Replay.{AreWithin}

-- ---- the service counts links of as many kernels as before

cancel-made : (o : Option Pid) (e : EndId) (w : Way) (s : State) → (after_cancel o e w s).made ≡ s.made
cancel-made None e w s = refl
cancel-made (Some p) e way.Outward s = refl
cancel-made (Some p) e way.Inward s = refl

step-made : (s : State) (x : ServiceStep) (t : State) → IsServiceStep s x t → length t.made ≡ length s.made
step-made s (step.Cancel e w) t is = ap (λ (z : State). length z.made) is.after ∙ ap (λ l. length l) (cancel-made (owner (s.ends e).place) e w s)
step-made s (step.Exit p) t is = ap (λ (z : State). length z.made) is.after.after
step-made s (step.Make p a b) t is = ap (λ (z : State). length z.made) is.after ∙ length-set s.made a.link.maker _
step-made s (step.Refuse p call cause) t is = ap (λ (z : State). length z.made) is.after
step-made s (step.Destroy e) t is = ap (λ (z : State). length z.made) is.after
step-made s (step.Send e n bytes xs) t is = ap (λ (z : State). length z.made) is.after
step-made s (step.Receive e) t is = ap (λ (z : State). length z.made) is.after
step-made s (step.Wait p) t is = ap (λ (z : State). length z.made) is.after
step-made s (step.Report p r) t is = ap (λ (z : State). length z.made) is.after
step-made s (step.Match e n) t is = ap (λ (z : State). length z.made) is.after
step-made s (step.Take e n p late) t is = ap (λ (z : State). length z.made) is.after
step-made s (step.Complete e n) t is = ap (λ (z : State). length z.made) is.after
step-made s (step.Withdraw e) t is = ap (λ (z : State). length z.made) is.after
step-made s (step.Free e) t is = ap (λ (z : State). length z.made) is.after
step-made s (step.Notice e dead) t is = ap (λ (z : State). length z.made) is.after
step-made s (step.Back e n dead) t is = ap (λ (z : State). length z.made) is.after

run-made : (s : State) (part : List (ServiceStep × State)) → IsRunFrom s part → length (state_after s part).made ≡ length s.made
run-made s [] run = refl
run-made s (x ∷ xs) run = run-made x.1 xs run.1 ∙ step-made s x.0 x.1 run.0

wired-made : (homes : List ℕ) (ws : List (Pid × Pid)) (so_far : Wired) → length (fold (wires_one homes) so_far ws).made ≡ length so_far.made
unfolding wires_one
wired-made homes [] so_far = refl
wired-made homes (w ∷ ws) so_far = wired-made homes ws (wires_one homes so_far w) ∙ length-set so_far.made _ _

start-made : (g : Setting) → length (start_state g).made ≡ g.kernels
start-made g = wired-made g.homes g.wires (nothing_wired g.kernels) ∙ length-replicate g.kernels 0

-- ---- each event

-- none goes from or to a kernel that is not there
taken-within : (i : ℕ) (w : World) (s : State) (k from : ℕ) → Invariant i w s → (w.packets from k ≡ [] → ⊥) → k < length s.made
taken-within i w s k from is some = elim (leb_tells (length s.made) k) [
  | inl away ↦ absurd (some (is.links.named.lists from k (inr away.1)))
  | inr below ↦ below.1
]

event-within : (g : Setting) (i : ℕ) (w : World) (s : State) (e : Event) → IsValid g → Invariant i w s → length s.made ≡ g.kernels → IsAllowed g w e → kernel_of e < g.kernels
event-within g i w s (Takes k from) valid is made allowed = subst (λ n. k < n) made (taken-within i w s k from is allowed)
event-within g i w s (Calls k p c mine) valid is made allowed = subst (λ n. n < g.kernels) allowed.1 (All-get_or (λ h. h < g.kernels) g.homes p.0 0 allowed.0 valid.homes)

are-within : (g : Setting) (i : ℕ) (w : World) (s : State) (es : List Event) → IsValid g → Invariant i w s → s.homes ≡ g.homes → s.version ≡ g.version → length s.made ≡ g.kernels → i + length es ≤ 2 ^ 31 → AreAllowed g w es → AreWithin g es
are-within g i w s [] valid is homes version made few allowed = tt
are-within g i w s (e ∷ es) valid is homes version made few allowed =
    let first = goes-event g i w s e is homes version (fewer i (length es) (2 ^ 31) few) allowed.0 in (
      event-within g i w s e valid is made allowed.0,
      are-within g (i + 1) (happens w e) (state_after s first.part) es valid first.after (first.homes ∙ homes) (run-version s first.part first.run ∙ version) (run-made s first.part first.run ∙ made) (one-on i (length es) (2 ^ 31) few) allowed.1,
    )
  where
    fewer : (i l most : ℕ) → i + suc l ≤ most → i < most
    fewer i l most few = omega (arith, few)

    one-on : (i l most : ℕ) → i + suc l ≤ most → (i + 1) + l ≤ most
    one-on i l most few = omega (arith, few)

pub run-within : (g : Setting) (es : List Event) → IsValid g → IsRun g es → AreWithin g es
run-within g es valid run = are-within g 0 (start g) (start_state g) es valid (starts-well g valid) refl refl (start-made g) (from-none (length es) (2 ^ 31) run.few) run.allowed
  where
    from-none : (l most : ℕ) → l ≤ most → 0 + l ≤ most
    from-none l most few = omega (arith, few)
