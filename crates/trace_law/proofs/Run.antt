-- Every run of a valid setting keeps all that is true of the traces of ends, and so leaves none once all packets were taken.
use Rattle.std.proofs.Common.{◌≡◌, ℕ, suc, ◌+◌, ◌^◌, ◌<◌, ◌≤◌, List, [], ◌∷◌, length, refl, sym, ap, subst, ◌∙◌, arith}
use Rattle.charlotte_calls.specs.Setting.{IsValid}
use Rattle.charlotte_calls.specs.declared.setting.Setting.{Setting}
use Rattle.charlotte_packets.specs.declared.picture.Picture.{Picture}
use Rattle.end_table.specs.declared.entry.Entry.{Entry}
use Rattle.end_table.specs.declared.entry.Entry.TheVariants as entry
use Rattle.end_table.specs.declared.entry.HereView.{HereView}
use Rattle.kernel_entries.specs.declared.entry.Placed.{Placed}
use Rattle.kernel_world.specs.Run.{AllTaken, AreAllowed, IsAllowed, IsRecord, IsRun}
use Rattle.kernel_world.specs.World.{Calls, Event, Takes, World, after, happens, start}
use Rattle.service_step.specs.Run.{start_state, state_after}
use Rattle.service_step.specs.State.{State}
use Rattle.service_step.specs.declared.state.End.{End}
use Rattle.trace_start.proofs.Run.{goes-event}
use Rattle.trace_start.proofs.TheoremStart.{starts-well}
use Rattle.trace_dropping.proofs.Version.{run-version}
use Rattle.theorem_meaning.proofs.Goes.{Goes}
use Rattle.theorem_meaning.specs.Invariant.{Invariant}
use Rattle.theorem_meaning.specs.Packets.{links_of}
use Rattle.trace_law.proofs.Calls.{calls-traced}
use Rattle.trace_law.proofs.Held.{held-here}
use Rattle.trace_law.proofs.Takings.{takes-traced}
use Rattle.trace_law.specs.Law.{AreHeldHere, IsBareAfter, IsBareRecord, IsHeldHere}
use Rattle.trace_meaning.proofs.Quiet.{bare-when-quiet}
use Rattle.trace_meaning.specs.Traces.{AreTraced, IsNoTrace}
use Rattle.trace_start.proofs.Start.{starts-traced}

-- where events are left, fewer were than there may be
fewer : (i l most : ℕ) → i + suc l ≤ most → i < most
fewer i l most few = omega (arith, few)

one-on : (i l most : ℕ) → i + suc l ≤ most → (i + 1) + l ≤ most
one-on i l most few = omega (arith, few)

from-none : (l most : ℕ) → l ≤ most → 0 + l ≤ most
from-none l most few = omega (arith, few)

-- each event keeps them
event-traced : (g : Setting) (i : ℕ) (w : World) (s : State) (e : Event) → Invariant i w s → s.homes ≡ g.homes → s.version ≡ g.version → i < 2 ^ 31 → IsAllowed g w e → (goes : Goes i w s e) → AreTraced (links_of w) s.ends → AreTraced (links_of (happens w e)) (state_after s goes.part).ends
event-traced g i w s (Calls k p c mine) is homes version room allowed goes traced = calls-traced g i w s k p c mine is homes version room allowed goes traced
event-traced g i w s (Takes k from) is homes version room allowed goes traced = by (w.packets from k) refl
  where
    by : (qs : List Picture) → w.packets from k ≡ qs → AreTraced (links_of (happens w (Takes k from))) (state_after s goes.part).ends
    by [] none = absurd (allowed none)
    by (q ∷ others) there = takes-traced i w s is room k from q.stamp others goes traced q.what there

-- what a world of a run has: a state of the service, with which all clauses are true of it
record IsTracedWorld (g : Setting) (w : World) : Type 0 where
  count : ℕ
  state : State
  is : Invariant count w state
  homes : state.homes ≡ g.homes
  traced : AreTraced (links_of w) state.ends

goes-on : (g : Setting) (i : ℕ) (w : World) (s : State) (es : List Event) → Invariant i w s → s.homes ≡ g.homes → s.version ≡ g.version → i + length es ≤ 2 ^ 31 → AreAllowed g w es → AreTraced (links_of w) s.ends → IsTracedWorld g (after w es)
goes-on g i w s [] is homes version few allowed traced = record { count = i; state = s; is = is; homes = homes; traced = traced }
goes-on g i w s (e ∷ es) is homes version few allowed traced =
    let room : i < 2 ^ 31 = fewer i (length es) (2 ^ 31) few in
    let goes : Goes i w s e = goes-event g i w s e is homes version room allowed.0 in
    goes-on g (i + 1) (happens w e) (state_after s goes.part) es goes.after (goes.homes ∙ homes) (run-version s goes.part goes.run ∙ version) (one-on i (length es) (2 ^ 31) few) allowed.1
    (event-traced g i w s e is homes version room allowed.0 goes traced)

-- where no packet is under way, each entry is of an end that its kernel holds
held-after : (g : Setting) (w : World) → IsTracedWorld g w → AllTaken w → AreHeldHere g w
held-after g w t quiet k e = by ((w.kernel k).table e) refl (bare-when-quiet (links_of w) t.state.ends t.traced quiet k e)
  where
    by : (y : Entry) → (w.kernel k).table e ≡ y → IsNoTrace y → IsHeldHere g k (w.kernel k).table e y
    by entry.Nothing at bare = tt
    by (entry.Here v) at bare = held-here g t.count w t.state t.is t.homes k e v at
    by (entry.Left to hops) at bare = bare
    by (entry.Destroyed m) at bare = bare

pub bare-after : (g : Setting) (es : List Event) → IsValid g → IsRun g es → IsBareAfter g es
bare-after g es valid run =
    held-after g (after (start g) es)
    (goes-on g 0 (start g) (start_state g) es (starts-well g valid) refl refl (from-none (length es) (2 ^ 31) run.few) run.allowed (starts-traced g valid))

pub record_is_bare : (g : Setting) (merged : List Placed) → IsValid g → IsBareRecord g merged
record_is_bare g merged valid es recorded = bare-after g es valid recorded.run
