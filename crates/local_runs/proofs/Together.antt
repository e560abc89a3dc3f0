-- The events of all kernels in the order of a merge: each is allowed where it happens.
use Rattle.std.proofs.Common.{◌≡◌, ◌≢◌, inl, inr, ℕ, ◌+◌, ◌-◌, ◌^◌, ◌<◌, ◌≤◌, true, false, nat_eq, ◌&&◌, List, [], ◌∷◌, ◌++◌, length, map, All, cond, arith, ap, sym, subst, ◌∙◌, refl, append_assoc, append-nil}
use Rattle.std.specs.List.{filter}
use Rattle.std.proofs.lemmas.Bool.{eq-eqb, ne_eqb}
use Rattle.std.proofs.lemmas.Bool.Decides.{eqb_tells}
use Rattle.charlotte_packets.specs.declared.picture.Picture.{Picture}
use Rattle.charlotte_calls.specs.declared.setting.Setting.{Setting}
use Rattle.kernel_step.specs.Kernel.{Kernel, Outcome}
use Rattle.kernel_step.specs.Start.{start_kernel}
use Rattle.kernel_world.proofs.Packets.{happens-packets}
use Rattle.kernel_entries.specs.Order.{AreInOrder, of_kernel}
use Rattle.kernel_world.specs.Run.{AreAllowed, IsAllowed}
use Rattle.kernel_world.specs.World.{World, Event, Calls, Takes, after, asked_or_took, first_or, happens, kernel_of, left_at, noted, noted_as, nothing_sent, outcome, rest, sends_at, start, takes_first, to_kernel}
use Rattle.kernel_entries.specs.declared.entry.Entry.{Entry}
use Rattle.kernel_entries.specs.declared.entry.Happened.{Happened}
use Rattle.kernel_entries.specs.declared.entry.Happened.TheVariants.{Took}
use Rattle.kernel_entries.specs.declared.entry.Placed.{Placed}
use Rattle.local_runs.specs.Local.{LocalEvent, MakesCall, TakesPacket, IsLocalRun, FitTogether, IsOneRun, IsLocalEvent, entries_of, entry_of, gives, takes_from, happened, left_by, sends_to}
use Rattle.local_runs.proofs.Kernels.{get-later, in-order-least, local-gives, of_kernel-all, sent-least}
use Rattle.transcript_record.proofs.Worlds.{is_event, told-happens, told-start}
use Rattle.transcript_record.specs.Told.{IsTold, IsToldWorld}

-- ---- an own event as an event of the world

abbrev pub event_of : ℕ → LocalEvent → Event
event_of k (MakesCall p c mine) = Calls k p c mine
event_of k (TakesPacket from q) = Takes k from

-- the packet that it takes is the first of those under way
abbrev pub IsUnderWay : (ℕ → ℕ → List Picture) → ℕ → LocalEvent → Type 0
IsUnderWay packets k (MakesCall p c mine) = Unit {0}
IsUnderWay packets k (TakesPacket from q) = (others : List Picture) × (packets from k ≡ q ∷ others)

pub event-kernel : (k : ℕ) (o : LocalEvent) → kernel_of (event_of k o) ≡ k
event-kernel k (MakesCall p c mine) = refl
event-kernel k (TakesPacket from q) = refl

pub event-outcome : (w : World) (k : ℕ) (o : LocalEvent) → IsUnderWay w.packets k o → outcome w (event_of k o) ≡ gives (w.kernel k) o
event-outcome w k (MakesCall p c mine) there = refl
event-outcome w k (TakesPacket from q) there = ap (takes_first (w.kernel k) from) there.1

pub event-happened : (w : World) (k : ℕ) (o : LocalEvent) → IsUnderWay w.packets k o → asked_or_took w (event_of k o) ≡ happened o
event-happened w k (MakesCall p c mine) there = refl
event-happened w k (TakesPacket from q) there = ap (λ qs. Took from (first_or nothing_sent qs)) there.1

event-allowed : (s : Setting) (w : World) (k : ℕ) (o : LocalEvent) → IsLocalEvent s k (w.kernel k) o → IsUnderWay w.packets k o → IsAllowed s w (event_of k o)
event-allowed s w k (MakesCall p c mine) is there = is
event-allowed s w k (TakesPacket from q) is there = λ none. let no : [] ≡ q ∷ there.0 = sym none ∙ there.1 in cc

pub event-noted : (w : World) (k : ℕ) (o : LocalEvent) → IsUnderWay w.packets k o → noted_as w (event_of k o) ≡ record { kernel = k; entry = entry_of (w.kernel k) o }
event-noted w k o there =
    ap (λ (entry : Entry). record { kernel = kernel_of (event_of k o); entry = entry })
    (ap (λ (x : Outcome). record { stamp = x.kernel.stamp; what = asked_or_took w (event_of k o); steps = x.steps }) (event-outcome w k o there)
    ∙ ap (λ (what : Happened). record { stamp = (gives (w.kernel k) o).kernel.stamp; what = what; steps = (gives (w.kernel k) o).steps }) (event-happened w k o there))
    ∙ ap (λ (i : ℕ). record { kernel = i; entry = entry_of (w.kernel k) o }) (event-kernel k o)

-- ---- how far the kernels have come

-- what is to come from a world on: each kernel's own events, whose entries stand in the order of a merge
record IsAhead (s : Setting) (n : ℕ) (w : World) (own : ℕ → List LocalEvent) (left : ℕ → ℕ → List Picture) (ps : List Placed) : Type 0 where
  told : IsToldWorld s n w
  two : (k : ℕ) → IsTold 2 (w.kernel k)
  are : (k : ℕ) → IsLocalRun s k (w.kernel k) (own k)
  packets : (from to : ℕ) → takes_from from (own to) ++ left from to ≡ w.packets from to ++ sends_to to (w.kernel from) (own from)
  entries : (k : ℕ) → of_kernel k ps ≡ entries_of (w.kernel k) (own k)
  order : AreInOrder ps

-- the first entry is that of its kernel's first event
record IsNext (k : ℕ) (x : Kernel) (os : List LocalEvent) (p : Placed) (others : List Entry) : Type 0 where
  event : LocalEvent
  later : List LocalEvent
  events : os ≡ event ∷ later
  entry : p.entry ≡ entry_of x event
  entries : others ≡ entries_of (gives x event).kernel later

next-of : (k : ℕ) (x : Kernel) (os : List LocalEvent) (p : Placed) (others : List Entry) → p.entry ∷ others ≡ entries_of x os → IsNext k x os p others
next-of k x [] p others e = let no : p.entry ∷ others ≡ [] = e in absurd (cc)
next-of k x (o ∷ os) p others e = let same : p.entry ∷ others ≡ entry_of x o ∷ entries_of (gives x o).kernel os = e in record { event = o; later = os; events = refl; entry = cc; entries = cc }

pub of_kernel-own : (p : Placed) (ps : List Placed) → of_kernel p.kernel (p ∷ ps) ≡ p.entry ∷ of_kernel p.kernel ps
of_kernel-own p ps = ap (λ b. map (λ (x : Placed). x.entry) (cond b (p ∷ filter (λ x. nat_eq x.kernel p.kernel) ps) (filter (λ x. nat_eq x.kernel p.kernel) ps))) (eq-eqb p.kernel p.kernel refl)

pub of_kernel-other : (k : ℕ) (p : Placed) (ps : List Placed) → k ≢ p.kernel → of_kernel k (p ∷ ps) ≡ of_kernel k ps
of_kernel-other k p ps ne = ap (λ b. map (λ (x : Placed). x.entry) (cond b (p ∷ filter (λ x. nat_eq x.kernel k) ps) (filter (λ x. nat_eq x.kernel k) ps))) (ne_eqb p.kernel k (λ e. ne (sym e)))

-- ---- its packet is under way

-- what is taken was sent, and not later
not-sent : (here later : List Picture) (q : Picture) (qs : List Picture) → q ∷ qs ≡ here ++ later → ((zs : List Picture) → later ≡ q ∷ zs → ⊥) → (others : List Picture) × (here ≡ q ∷ others)
not-sent [] later q qs e never = absurd (never qs (sym e))
not-sent (y ∷ ys) later q qs e never = let same : q ∷ qs ≡ y ∷ (ys ++ later) = e in let is : q ≡ y = cc in (ys, ap (λ (z : Picture). z ∷ ys) (sym is))

pub got-first : (from : ℕ) (q : Picture) (os : List LocalEvent) → takes_from from (TakesPacket from q ∷ os) ≡ q ∷ takes_from from os
got-first from q os = ap (λ b. cond b (q ∷ takes_from from os) (takes_from from os)) (eq-eqb from from refl)

pub got-other : (from j : ℕ) (q : Picture) (os : List LocalEvent) → from ≢ j → takes_from from (TakesPacket j q ∷ os) ≡ takes_from from os
got-other from j q os ne = ap (λ b. cond b (q ∷ takes_from from os) (takes_from from os)) (ne_eqb from j ne)

under-way : (s : Setting) (n : ℕ) (w : World) (own : ℕ → List LocalEvent) (left : ℕ → ℕ → List Picture) (p : Placed) (ps : List Placed) (o : LocalEvent) (os : List LocalEvent) → IsAhead s n w own left (p ∷ ps)
    → own p.kernel ≡ o ∷ os → p.entry ≡ entry_of (w.kernel p.kernel) o → IsUnderWay w.packets p.kernel o
under-way s n w own left p ps (MakesCall q c mine) os a first entry = tt
under-way s n w own left p ps (TakesPacket j q) os a first entry = not-sent (w.packets j k) (sends_to k (w.kernel j) (own j)) q (takes_from j os ++ left j k) taken never
  where
    k : ℕ
    k = p.kernel

    is : IsLocalEvent s k (w.kernel k) (TakesPacket j q)
    is = (subst (IsLocalRun s k (w.kernel k)) first (a.are k)).0

    taken : q ∷ (takes_from j os ++ left j k) ≡ w.packets j k ++ sends_to k (w.kernel j) (own j)
    taken = sym (ap (λ qs. qs ++ left j k) (ap (takes_from j) first ∙ got-first j q os)) ∙ a.packets j k

    never : (zs : List Picture) → sends_to k (w.kernel j) (own j) ≡ q ∷ zs → ⊥
    never zs sent =
        let IsLeast : Entry → Type 0 = λ e. p.entry.stamp ≤ e.stamp in
        let least : p.entry.stamp ≤ q.stamp = sent-least s j (w.kernel j) (own j) k p.entry.stamp q zs (a.two j) (a.are j)
        (subst (All IsLeast) (a.entries j) (of_kernel-all IsLeast j (p ∷ ps) (in-order-least p ps a.order))) sent in
        let at : p.entry.stamp ≡ (gives (w.kernel k) (TakesPacket j q)).kernel.stamp = ap (λ (e : Entry). e.stamp) entry in
        let later : q.stamp < (gives (w.kernel k) (TakesPacket j q)).kernel.stamp = get-later s k (w.kernel k) j q (a.two k) is in
        omega (arith, least, at, later)

-- ---- after it

-- what a kernel has yet to do
abbrev pub owns : ℕ → List LocalEvent → (ℕ → List LocalEvent) → ℕ → List LocalEvent
owns k os own q = cond (nat_eq q k) os (own q)

pub happens-kernel : (w : World) (k : ℕ) (o : LocalEvent) (q : ℕ) → IsUnderWay w.packets k o → (happens w (event_of k o)).kernel q ≡ cond (nat_eq q k) (gives (w.kernel k) o).kernel (w.kernel q)
happens-kernel w k o q there =
    ap (λ j. cond (nat_eq q j) (outcome w (event_of k o)).kernel (w.kernel q)) (event-kernel k o)
    ∙ ap (λ (x : Outcome). cond (nat_eq q k) x.kernel (w.kernel q)) (event-outcome w k o there)

-- what is true of a kernel and of what it has yet to do
each-kernel : (P : ℕ → Kernel → List LocalEvent → Type 0) (w : World) (own : ℕ → List LocalEvent) (k : ℕ) (o : LocalEvent) (os : List LocalEvent) → IsUnderWay w.packets k o → P k (gives (w.kernel k) o).kernel os → ((q : ℕ) → q ≢ k → P q (w.kernel q) (own q))
    → (q : ℕ) → P q ((happens w (event_of k o)).kernel q) (owns k os own q)
each-kernel P w own k o os there here others q = subst (λ (x : Kernel). P q x (owns k os own q)) (sym (happens-kernel w k o q there))
    (elim (eqb_tells q k) as (λ _. P q (cond (nat_eq q k) (gives (w.kernel k) o).kernel (w.kernel q)) (cond (nat_eq q k) os (own q))) [
      | inl x ↦ subst (λ b. P q (cond b (gives (w.kernel k) o).kernel (w.kernel q)) (cond b os (own q))) (sym x.0) (subst (λ j. P j (gives (w.kernel k) o).kernel os) (sym x.1) here)
      | inr x ↦ subst (λ b. P q (cond b (gives (w.kernel k) o).kernel (w.kernel q)) (cond b os (own q))) (sym x.0) (others q x.1)
    ])

-- what it sends comes first of what its kernel sends
pub sends-first : (w : World) (own : ℕ → List LocalEvent) (k : ℕ) (o : LocalEvent) (os : List LocalEvent) (from to : ℕ) → IsUnderWay w.packets k o → own k ≡ o ∷ os
    → sends_at w (event_of k o) from to ++ sends_to to ((happens w (event_of k o)).kernel from) (owns k os own from) ≡ sends_to to (w.kernel from) (own from)
sends-first w own k o os from to there first =
    ap (λ j. cond (nat_eq from j) (to_kernel to (outcome w (event_of k o)).packets) [] ++ later) (event-kernel k o)
    ∙ ap (λ (x : Outcome). cond (nat_eq from k) (to_kernel to x.packets) [] ++ later) (event-outcome w k o there)
    ∙ each-kernel (λ q x rs. cond (nat_eq q k) (to_kernel to (gives (w.kernel k) o).packets) [] ++ sends_to to x rs ≡ sends_to to (w.kernel q) (own q)) w own k o os there
    (ap (λ b. cond b (to_kernel to (gives (w.kernel k) o).packets) [] ++ sends_to to (gives (w.kernel k) o).kernel os) (eq-eqb k k refl) ∙ ap (sends_to to (w.kernel k)) (sym first))
    (λ q ne. ap (λ b. cond b (to_kernel to (gives (w.kernel k) o).packets) [] ++ sends_to to (w.kernel q) (own q)) (ne_eqb q k ne)) from
  where
    later : List Picture
    later = sends_to to ((happens w (event_of k o)).kernel from) (owns k os own from)

-- lists with the same first element
tails : (q : Picture) (xs ys : List Picture) → q ∷ xs ≡ q ∷ ys → xs ≡ ys
tails q xs ys e = cc

-- what it takes is not to be taken any more
takes-own : (w : World) (own : ℕ → List LocalEvent) (left : ℕ → ℕ → List Picture) (k : ℕ) (o : LocalEvent) (os : List LocalEvent) (from : ℕ) (sent : List Picture) → IsUnderWay w.packets k o → own k ≡ o ∷ os → takes_from from (own k) ++ left from k ≡ w.packets from k ++ sent
    → takes_from from os ++ left from k ≡ left_at w (event_of k o) from k ++ sent
takes-own w own left k (MakesCall p c mine) os from sent there first fits = sym (ap (λ rs. takes_from from rs ++ left from k) first) ∙ fits
takes-own w own left k (TakesPacket j q) os from sent there first fits = elim (eqb_tells from j) as (λ _. takes_from from os ++ left from k ≡ cond (nat_eq from j && nat_eq k k) (rest (w.packets from k)) (w.packets from k) ++ sent) [
  | inl x ↦
      let here : w.packets from k ≡ q ∷ there.0 = ap (λ i. w.packets i k) x.1 ∙ there.1 in
      let got : takes_from from (own k) ≡ q ∷ takes_from from os = ap (takes_from from) (first ∙ ap (λ i. TakesPacket i q ∷ os) (sym x.1)) ∙ got-first from q os in
      tails q (takes_from from os ++ left from k) (there.0 ++ sent) (sym (ap (λ qs. qs ++ left from k) got) ∙ fits ∙ ap (λ qs. qs ++ sent) here)
      ∙ ap (λ qs. rest qs ++ sent) (sym here) ∙ sym (ap (λ b. cond (b && nat_eq k k) (rest (w.packets from k)) (w.packets from k) ++ sent) x.0 ∙ ap (λ b. cond b (rest (w.packets from k)) (w.packets from k) ++ sent) (eq-eqb k k refl))
  | inr x ↦ sym (ap (λ rs. takes_from from rs ++ left from k) first ∙ ap (λ qs. qs ++ left from k) (got-other from j q os x.1)) ∙ fits
      ∙ sym (ap (λ b. cond (b && nat_eq k k) (rest (w.packets from k)) (w.packets from k) ++ sent) x.0)
]

-- at another kernel nothing is taken
pub takes-not : (w : World) (k : ℕ) (o : LocalEvent) (from to : ℕ) → to ≢ k → left_at w (event_of k o) from to ≡ w.packets from to
takes-not w k (MakesCall p c mine) from to ne = refl
takes-not w k (TakesPacket j q) from to ne = elim (nat_eq from j) as (λ b. cond (b && nat_eq to k) (rest (w.packets from to)) (w.packets from to) ≡ w.packets from to) [
  | true ↦ ap (λ b. cond b (rest (w.packets from to)) (w.packets from to)) (ne_eqb to k ne)
  | false ↦ refl
]

fits-after : (w : World) (own : ℕ → List LocalEvent) (left : ℕ → ℕ → List Picture) (k : ℕ) (o : LocalEvent) (os : List LocalEvent) (from to : ℕ) (sent : List Picture) → IsUnderWay w.packets k o → own k ≡ o ∷ os → takes_from from (own to) ++ left from to ≡ w.packets from to ++ sent
    → takes_from from (owns k os own to) ++ left from to ≡ left_at w (event_of k o) from to ++ sent
fits-after w own left k o os from to sent there first fits = elim (eqb_tells to k) as (λ _. takes_from from (cond (nat_eq to k) os (own to)) ++ left from to ≡ left_at w (event_of k o) from to ++ sent) [
  | inl x ↦ ap (λ b. takes_from from (cond b os (own to)) ++ left from to) x.0
      ∙ subst (λ t. takes_from from os ++ left from t ≡ left_at w (event_of k o) from t ++ sent) (sym x.1) (takes-own w own left k o os from sent there first (subst (λ t. takes_from from (own t) ++ left from t ≡ w.packets from t ++ sent) x.1 fits))
  | inr x ↦ ap (λ b. takes_from from (cond b os (own to)) ++ left from to) x.0 ∙ fits ∙ ap (λ qs. qs ++ sent) (sym (takes-not w k o from to x.1))
]

-- ---- all of them

record IsPlayed (s : Setting) (w : World) (own : ℕ → List LocalEvent) (left : ℕ → ℕ → List Picture) (ps : List Placed) : Type 0 where
  events : List Event
  noted_are : noted w events ≡ ps
  allowed : AreAllowed s w events
  kernels : (k : ℕ) → (after w events).kernel k ≡ left_by (w.kernel k) (own k)
  packets : (from to : ℕ) → (after w events).packets from to ≡ left from to

no-more : (x : Kernel) (os : List LocalEvent) → [] ≡ entries_of x os → os ≡ []
no-more x [] e = refl
no-more x (o ∷ os) e = let no : [] ≡ entry_of x o ∷ entries_of (gives x o).kernel os = e in absurd (cc)

order-later : (p : Placed) (ps : List Placed) → AreInOrder (p ∷ ps) → AreInOrder ps
order-later p [] order = tt
order-later p (b ∷ ps) order = order.1

module _ (s : Setting) (n : ℕ) (w : World) (own : ℕ → List LocalEvent) (left : ℕ → ℕ → List Picture) (p : Placed) (ps : List Placed) (early : n < 2 ^ 64 - 1) (a : IsAhead s n w own left (p ∷ ps)) where
  abbrev k : ℕ
  k = p.kernel

  abbrev next : IsNext k (w.kernel k) (own k) p (of_kernel k ps)
  next = next-of k (w.kernel k) (own k) p (of_kernel k ps) (sym (of_kernel-own p ps) ∙ a.entries k)

  abbrev o : LocalEvent
  o = next.event

  abbrev os : List LocalEvent
  os = next.later

  abbrev e : Event
  e = event_of k o

  are : IsLocalRun s k (w.kernel k) (o ∷ os)
  are = subst (IsLocalRun s k (w.kernel k)) next.events (a.are k)

  there : IsUnderWay w.packets k o
  there = under-way s n w own left p ps o os a next.events next.entry

  allowed : IsAllowed s w e
  allowed = event-allowed s w k o are.0 there

  abbrev yet : ℕ → List LocalEvent
  yet = owns k os own

  ahead : IsAhead s (n + 1) (happens w e) yet left ps
  ahead = record {
    told = told-happens s n w e (is_event s n w e early allowed a.told) a.told;
    two = each-kernel (λ q x rs. IsTold 2 x) w own k o os there (local-gives s k (w.kernel k) o (a.two k) are.0).told (λ q ne. a.two q);
    are = each-kernel (λ q x rs. IsLocalRun s q x rs) w own k o os there are.1 (λ q ne. a.are q);
    packets = λ from to. fits-after w own left k o os from to (sends_to to (w.kernel from) (own from)) there next.events (a.packets from to)
        ∙ ap (λ qs. left_at w e from to ++ qs) (sym (sends-first w own k o os from to there next.events))
        ∙ sym (append_assoc (left_at w e from to) (sends_at w e from to) (sends_to to ((happens w e).kernel from) (yet from)))
        ∙ ap (λ qs. qs ++ sends_to to ((happens w e).kernel from) (yet from)) (sym (happens-packets w e from to));
    entries = each-kernel (λ q x rs. of_kernel q ps ≡ entries_of x rs) w own k o os there next.entries (λ q ne. sym (of_kernel-other q p ps ne) ∙ a.entries q);
    order = order-later p ps a.order;
  }

  note : noted_as w e ≡ p
  note = event-noted w k o there ∙ ap (λ (entry : Entry). record { kernel = k; entry = entry }) (sym next.entry)

  one_more : IsPlayed s (happens w e) yet left ps → IsPlayed s w own left (p ∷ ps)
  one_more r = record {
    events = e ∷ r.events;
    noted_are = ap (λ (x : Placed). x ∷ noted (happens w e) r.events) note ∙ ap (λ (xs : List Placed). p ∷ xs) r.noted_are;
    allowed = (allowed, r.allowed);
    kernels = λ q. r.kernels q ∙ each-kernel (λ j x rs. left_by x rs ≡ left_by (w.kernel j) (own j)) w own k o os there (ap (left_by (w.kernel k)) (sym next.events)) (λ j ne. refl) q;
    packets = r.packets;
  }

play : (s : Setting) (n : ℕ) (w : World) (own : ℕ → List LocalEvent) (left : ℕ → ℕ → List Picture) (ps : List Placed) → n + length ps < 2 ^ 64 - 1 → IsAhead s n w own left ps → IsPlayed s w own left ps
play s n w own left [] early a = record {
  events = [];
  noted_are = refl;
  allowed = tt;
  kernels = λ k. ap (left_by (w.kernel k)) (sym (no-more (w.kernel k) (own k) (a.entries k)));
  packets = λ from to.
      sym (append-nil (w.packets from to)) ∙ ap (λ rs. w.packets from to ++ sends_to to (w.kernel from) rs) (sym (no-more (w.kernel from) (own from) (a.entries from)))
      ∙ sym (a.packets from to) ∙ ap (λ rs. takes_from from rs ++ left from to) (no-more (w.kernel to) (own to) (a.entries to));
}
play s n w own left (p ∷ ps) early a =
    one_more s n w own left p ps (omega (arith, early)) a
    (play s (n + 1) (happens w (e s n w own left p ps (omega (arith, early)) a)) (yet s n w own left p ps (omega (arith, early)) a) left ps (omega (arith, early)) (ahead s n w own left p ps (omega (arith, early)) a))

noted-length : (w : World) (es : List Event) → length (noted w es) ≡ length es
noted-length w [] = refl
noted-length w (e ∷ es) = let others : length (noted (happens w e) es) ≡ length es = noted-length (happens w e) es in omega (arith, others)

pub started-two : (s : Setting) (k : ℕ) → IsTold 2 (start_kernel s k)
started-two s k = let other : IsTold 2 (start_kernel (record s { version = 2 }) k) = (told-start (record s { version = 2 })).kernels k in record { table = other.table; reports = other.reports }

pub one_run : (s : Setting) (own : ℕ → List LocalEvent) (left : ℕ → ℕ → List Picture) (merged : List Placed) → FitTogether s own left → AreInOrder merged → ((k : ℕ) → of_kernel k merged ≡ entries_of (start_kernel s k) (own k)) → length merged ≤ 2 ^ 31 → IsOneRun s own left merged
one_run s own left merged fit order entries few =
    record {
      events = is.events;
      recorded = record { run = record { allowed = is.allowed; few = omega (arith, count, few) }; order = order; entries = is.noted_are };
      kernels = is.kernels;
      packets = is.packets;
    }
  where
    is : IsPlayed s (start s) own left merged
    is = play s 0 (start s) own left merged (omega (arith, few)) (record { told = told-start s; two = started-two s; are = fit.each; packets = fit.packets; entries = entries; order = order })

    count : length is.events ≡ length merged
    count = sym (noted-length (start s) is.events) ∙ ap length is.noted_are
