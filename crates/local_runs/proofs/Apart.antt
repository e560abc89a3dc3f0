-- The events of a run, kernel by kernel.
use Rattle.std.proofs.Common.{◌≡◌, ◌≢◌, inl, inr, ℕ, ◌+◌, ◌-◌, ◌^◌, ◌<◌, ◌≤◌, nat_eq, ◌&&◌, List, [], ◌∷◌, ◌++◌, length, All, cond, arith, ap, sym, subst, ◌∙◌, refl, append_assoc, append-nil}
use Rattle.std.proofs.lemmas.Bool.{eq-eqb, ne_eqb}
use Rattle.std.proofs.lemmas.Bool.Decides.{eqb_tells}
use Rattle.std.proofs.lemmas.List.Elements.{All-head}
use Rattle.charlotte_packets.specs.declared.picture.Picture.{Picture}
use Rattle.charlotte_calls.specs.Setting.{IsValid}
use Rattle.charlotte_calls.specs.declared.setting.Setting.{Setting}
use Rattle.kernel_step.specs.Kernel.{Kernel}
use Rattle.kernel_world.proofs.Packets.{happens-packets}
use Rattle.kernel_entries.specs.Order.{of_kernel}
use Rattle.kernel_world.specs.Run.{AreAllowed, IsRun}
use Rattle.kernel_world.specs.World.{World, Event, Calls, Takes, after, happens, left_at, noted, rest, sends_at, start}
use Rattle.kernel_entries.specs.declared.entry.Placed.{Placed}
use Rattle.local_runs.specs.Local.{LocalEvent, MakesCall, TakesPacket, IsLocalEvent, IsLocalRun, AreLocalRuns, entries_of, entry_of, gives, takes_from, sends_to}
use Rattle.local_runs.proofs.Kernels.{few_packet}
use Rattle.local_runs.proofs.Together.{IsUnderWay, event-noted, event_of, got-first, got-other, happens-kernel, of_kernel-other, of_kernel-own, owns, sends-first, takes-not}
use Rattle.sent_within.proofs.Runs.{AreWithin, happens-within, start-within, under_way-within}
use Rattle.transcript_record.proofs.Worlds.{is_event, told-happens, told-start}
use Rattle.transcript_record.specs.Told.{IsToldPacket, IsToldWorld}

-- what kernels make from a world on, as these events happen
record AreApart (s : Setting) (w : World) (es : List Event) (made : ℕ → List LocalEvent) : Type 0 where
  each : (k : ℕ) → IsLocalRun s k (w.kernel k) (made k)
  packets : (from to : ℕ) → takes_from from (made to) ++ (after w es).packets from to ≡ w.packets from to ++ sends_to to (w.kernel from) (made from)
  entries : (k : ℕ) → of_kernel k (noted w es) ≡ entries_of (w.kernel k) (made k)

-- one event more at a kernel
abbrev with_first : ℕ → LocalEvent → (ℕ → List LocalEvent) → ℕ → List LocalEvent
with_first k o made q = cond (nat_eq q k) (o ∷ made q) (made q)

with-own : (k : ℕ) (o : LocalEvent) (made : ℕ → List LocalEvent) → with_first k o made k ≡ o ∷ made k
with-own k o made = ap (λ b. cond b (o ∷ made k) (made k)) (eq-eqb k k refl)

with-other : (k : ℕ) (o : LocalEvent) (made : ℕ → List LocalEvent) (q : ℕ) → q ≢ k → with_first k o made q ≡ made q
with-other k o made q ne = ap (λ b. cond b (o ∷ made q) (made q)) (ne_eqb q k ne)

with-later : (k : ℕ) (o : LocalEvent) (made : ℕ → List LocalEvent) (q : ℕ) → owns k (made k) (with_first k o made) q ≡ made q
with-later k o made q = elim (eqb_tells q k) as (λ _. cond (nat_eq q k) (made k) (with_first k o made q) ≡ made q) [
  | inl x ↦ ap (λ b. cond b (made k) (with_first k o made q)) x.0 ∙ ap made (sym x.1)
  | inr x ↦ ap (λ b. cond b (made k) (with_first k o made q)) x.0 ∙ with-other k o made q x.1
]

kernel-own : (w : World) (k : ℕ) (o : LocalEvent) → IsUnderWay w.packets k o → (happens w (event_of k o)).kernel k ≡ (gives (w.kernel k) o).kernel
kernel-own w k o there = happens-kernel w k o k there ∙ ap (λ b. cond b (gives (w.kernel k) o).kernel (w.kernel k)) (eq-eqb k k refl)

kernel-other : (w : World) (k : ℕ) (o : LocalEvent) (q : ℕ) → IsUnderWay w.packets k o → q ≢ k → (happens w (event_of k o)).kernel q ≡ w.kernel q
kernel-other w k o q there ne = happens-kernel w k o q there ∙ ap (λ b. cond b (gives (w.kernel k) o).kernel (w.kernel q)) (ne_eqb q k ne)

-- what is true at each kernel from the event on
from-event : (P : ℕ → Kernel → List LocalEvent → Type 0) (w : World) (k : ℕ) (o : LocalEvent) (made : ℕ → List LocalEvent) → IsUnderWay w.packets k o → (P k (gives (w.kernel k) o).kernel (made k) → P k (w.kernel k) (o ∷ made k))
    → ((q : ℕ) → P q ((happens w (event_of k o)).kernel q) (made q)) → (q : ℕ) → P q (w.kernel q) (with_first k o made q)
from-event P w k o made there here after_it q = elim (eqb_tells q k) as (λ _. P q (w.kernel q) (with_first k o made q)) [
  | inl x ↦ subst (λ j. P j (w.kernel j) (with_first k o made j)) (sym x.1) (subst (P k (w.kernel k)) (sym (with-own k o made)) (here (subst (λ y. P k y (made k)) (kernel-own w k o there) (after_it k))))
  | inr x ↦ subst (P q (w.kernel q)) (sym (with-other k o made q x.1)) (subst (λ y. P q y (made q)) (kernel-other w k o q there x.1) (after_it q))
]

-- the packets before the event, of those after it
got-own : (w : World) (k : ℕ) (o : LocalEvent) (os : List LocalEvent) (from : ℕ) (left sent : List Picture) → IsUnderWay w.packets k o → takes_from from os ++ left ≡ left_at w (event_of k o) from k ++ sent → takes_from from (o ∷ os) ++ left ≡ w.packets from k ++ sent
got-own w k (MakesCall p c mine) os from left sent there fits = fits
got-own w k (TakesPacket j q) os from left sent there fits = elim (eqb_tells from j) as (λ _. takes_from from (TakesPacket j q ∷ os) ++ left ≡ w.packets from k ++ sent) [
  | inl x ↦
      let here : w.packets from k ≡ q ∷ there.0 = ap (λ i. w.packets i k) x.1 ∙ there.1 in
      ap (λ i. takes_from from (TakesPacket i q ∷ os) ++ left) (sym x.1) ∙ ap (λ qs. qs ++ left) (got-first from q os)
      ∙ ap (λ qs. q ∷ qs) (fits ∙ ap (λ b. cond (b && nat_eq k k) (rest (w.packets from k)) (w.packets from k) ++ sent) x.0 ∙ ap (λ b. cond b (rest (w.packets from k)) (w.packets from k) ++ sent) (eq-eqb k k refl) ∙ ap (λ qs. rest qs ++ sent) here)
      ∙ ap (λ qs. qs ++ sent) (sym here)
  | inr x ↦ ap (λ qs. qs ++ left) (got-other from j q os x.1) ∙ fits ∙ ap (λ b. cond (b && nat_eq k k) (rest (w.packets from k)) (w.packets from k) ++ sent) x.0
]

got-all : (w : World) (k : ℕ) (o : LocalEvent) (made : ℕ → List LocalEvent) (from to : ℕ) (left sent : List Picture) → IsUnderWay w.packets k o
    → takes_from from (made to) ++ left ≡ left_at w (event_of k o) from to ++ sent → takes_from from (with_first k o made to) ++ left ≡ w.packets from to ++ sent
got-all w k o made from to left sent there fits = elim (eqb_tells to k) as (λ _. takes_from from (with_first k o made to) ++ left ≡ w.packets from to ++ sent) [
  | inl x ↦ subst (λ t. takes_from from (with_first k o made t) ++ left ≡ w.packets from t ++ sent) (sym x.1)
      (ap (λ os. takes_from from os ++ left) (with-own k o made) ∙ got-own w k o (made k) from left sent there (subst (λ t. takes_from from (made t) ++ left ≡ left_at w (event_of k o) from t ++ sent) x.1 fits))
  | inr x ↦ ap (λ os. takes_from from os ++ left) (with-other k o made to x.1) ∙ fits ∙ ap (λ qs. qs ++ sent) (takes-not w k o from to x.1)
]

apart-more : (s : Setting) (w : World) (k : ℕ) (o : LocalEvent) (es : List Event) (made : ℕ → List LocalEvent) → IsUnderWay w.packets k o → IsLocalEvent s k (w.kernel k) o → AreApart s (happens w (event_of k o)) es made → AreApart s w (event_of k o ∷ es) (with_first k o made)
apart-more s w k o es made there is a =
    record {
      each = from-event (λ q x os. IsLocalRun s q x os) w k o made there (λ run. (is, run)) a.each;
      packets = λ from to. got-all w k o made from to ((after w (event_of k o ∷ es)).packets from to) (sends_to to (w.kernel from) (with_first k o made from)) there
          (a.packets from to ∙ ap (λ qs. qs ++ sends_to to ((happens w (event_of k o)).kernel from) (made from)) (happens-packets w (event_of k o) from to)
          ∙ append_assoc (left_at w (event_of k o) from to) (sends_at w (event_of k o) from to) (sends_to to ((happens w (event_of k o)).kernel from) (made from))
          ∙ ap (λ qs. left_at w (event_of k o) from to ++ qs)
          (ap (λ os. sends_at w (event_of k o) from to ++ sends_to to ((happens w (event_of k o)).kernel from) os) (sym (with-later k o made from))
          ∙ sends-first w (with_first k o made) k o (made k) from to there (with-own k o made)));
      entries = λ q. ap (λ (p : Placed). of_kernel q (p ∷ noted (happens w (event_of k o)) es)) (event-noted w k o there) ∙ shown q;
    }
  where
    here : Placed
    here = record { kernel = k; entry = entry_of (w.kernel k) o }

    others : List Placed
    others = noted (happens w (event_of k o)) es

    shown : (q : ℕ) → of_kernel q (here ∷ others) ≡ entries_of (w.kernel q) (with_first k o made q)
    shown q = elim (eqb_tells q k) as (λ _. of_kernel q (here ∷ others) ≡ entries_of (w.kernel q) (with_first k o made q)) [
      | inl x ↦ subst (λ j. of_kernel j (here ∷ others) ≡ entries_of (w.kernel j) (with_first k o made j)) (sym x.1)
          (of_kernel-own here others ∙ ap (λ es. entry_of (w.kernel k) o ∷ es) (a.entries k ∙ ap (λ y. entries_of y (made k)) (kernel-own w k o there)) ∙ ap (entries_of (w.kernel k)) (sym (with-own k o made)))
      | inr x ↦ of_kernel-other q here others x.1 ∙ a.entries q ∙ ap (λ y. entries_of y (made q)) (kernel-other w k o q there x.1) ∙ ap (entries_of (w.kernel q)) (sym (with-other k o made q x.1))
    ]

-- a packet that is there is the first, comes from a kernel that is there, and can be told
first-there : (s : Setting) (valid : IsValid s) (n : ℕ) (w : World) (k from : ℕ) (ps : List Picture) → n < 2 ^ 64 - 1 → IsToldWorld s n w → AreWithin s.kernels w → w.packets from k ≡ ps → ps ≢ []
    → (q : Picture) × IsUnderWay w.packets k (TakesPacket from q) × IsLocalEvent s k (w.kernel k) (TakesPacket from q)
first-there s valid n w k from [] early told within is some = absurd (some refl)
first-there s valid n w k from (q ∷ qs) early told within is some =
    let first : IsToldPacket s.version n q = All-head (IsToldPacket s.version n) q qs (subst (λ ps. All (IsToldPacket s.version n) ps) is (told.packets from k)) in
    let sent : q.stamp ≤ n = first.stamp in
    let stamp : (w.kernel k).stamp ≤ n = told.stamps k in
    let there = under_way-within s valid w within from k (λ none. some (sym is ∙ none)) in
    (q, (qs, is), (subst (λ m. from < m) (sym (within.kernels k)) there.0, few_packet s.version q.what first.few, omega arith))

apart : (s : Setting) (valid : IsValid s) (n : ℕ) (w : World) (es : List Event) → n + length es < 2 ^ 64 - 1 → IsToldWorld s n w → AreWithin s.kernels w → AreAllowed s w es → (made : ℕ → List LocalEvent) × AreApart s w es made
apart s valid n w [] early told within allowed = ((λ k. []), record { each = λ k. tt; packets = λ from to. sym (append-nil (w.packets from to)); entries = λ k. refl })
apart s valid n w (Calls k p c mine ∷ es) early told within allowed =
    let e : Event = Calls k p c mine in
    let later = apart s valid (n + 1) (happens w e) es (omega (arith, early)) (told-happens s n w e (is_event s n w e (omega (arith, early)) allowed.0 told) told) (happens-within s valid w e within allowed.0) allowed.1 in
    (with_first k (MakesCall p c mine) later.0, apart-more s w k (MakesCall p c mine) es later.0 tt allowed.0 later.1)
apart s valid n w (Takes k from ∷ es) early told within allowed =
    let e : Event = Takes k from in
    let first = first-there s valid n w k from (w.packets from k) (omega (arith, early)) told within refl allowed.0 in
    let later = apart s valid (n + 1) (happens w e) es (omega (arith, early)) (told-happens s n w e (is_event s n w e (omega (arith, early)) allowed.0 told) told) (happens-within s valid w e within allowed.0) allowed.1 in
    (with_first k (TakesPacket from first.0) later.0, apart-more s w k (TakesPacket from first.0) es later.0 first.1 first.2 later.1)

pub run-apart : (s : Setting) (es : List Event) → IsValid s → IsRun s es → AreLocalRuns s es
run-apart s es valid run =
    let a = apart s valid 0 (start s) es (let few : length es ≤ 2 ^ 31 = run.few in omega (arith, few)) (told-start s) (start-within s valid) run.allowed in
    record { made = a.0; fit = record { each = a.1.each; packets = a.1.packets }; entries = a.1.entries }
