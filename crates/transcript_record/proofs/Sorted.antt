-- Runs in the order of a merge: each run has one, with the same entries at each kernel and the same last world.
use Rattle.std.proofs.Common.{◌≡◌, ◌≢◌, ◌⊎◌, inl, inr, ℕ, ◌+◌, ◌-◌, ◌^◌, ◌<◌, ◌≤◌, max, Bool, true, false, nat_eq, IsTrue, List, [], ◌∷◌, ◌++◌, length, map, All, cond, Decides, arith, ap, sym, subst, ◌∙◌, refl}
use Rattle.std.specs.List.{filter}
use Rattle.std.proofs.lemmas.List.Elements.{All-head, All-tail}
use Rattle.std.proofs.lemmas.Bool.Decides.{Decides-or, Decides-and, Decides-ltb, Decides-eqb, eqb_tells}
use Rattle.charlotte_packets.specs.declared.picture.Picture.{Picture}
use Rattle.charlotte_calls.specs.declared.setting.Setting.{Setting}
use Rattle.kernel_step.specs.Calls.{IsCallWith}
use Rattle.kernel_step.specs.Kernel.{Kernel, process_of, take_step, next_stamp}
use Rattle.kernel_entries.specs.Order.{stands_before, AreInOrder, of_kernel}
use Rattle.kernel_world.specs.Run.{IsAllowed, AreAllowed}
use Rattle.kernel_world.specs.World.{World, Event, Calls, Takes, kernel_of, takes_first, nothing_sent, first_or, outcome, happens, noted_as, after, noted, to_kernel}
use Rattle.kernel_world.proofs.Packets.{to_kernel-first}
use Rattle.kernel_entries.specs.declared.entry.Entry.{Entry}
use Rattle.kernel_entries.specs.declared.entry.Happened.TheVariants.{Took}
use Rattle.kernel_entries.specs.declared.entry.Placed.{Placed}
use Rattle.transcript_record.specs.Told.{IsTold, IsToldPacket, IsToldWorld}
use Rattle.transcript_record.proofs.Exchange.{kernel-same, kernel-own, packets-more, same-event, same-entry, either_order, same_number}
use Rattle.transcript_record.proofs.Kept.{IsFewSent}
use Rattle.transcript_record.proofs.KeptSteps.{take_step-gives}
use Rattle.transcript_record.proofs.Worlds.{IsEvent, is_event, told-happens}

-- ---- the order

decides-before : (a b : Placed) → Decides (stands_before a b) ((a.entry.stamp < b.entry.stamp) ⊎ ((a.entry.stamp ≡ b.entry.stamp) × (a.kernel < b.kernel)))
decides-before a b =
    Decides-or _ _ (Decides-ltb a.entry.stamp b.entry.stamp) (Decides-and _ _ (Decides-eqb a.entry.stamp b.entry.stamp) (Decides-ltb a.kernel b.kernel))

earlier-before : (a b : Placed) → a.entry.stamp < b.entry.stamp → IsTrue (stands_before a b)
earlier-before a b lt = (decides-before a b).1 (inl lt)

-- of two entries of two kernels one stands before the other
one-before : (a b : Placed) → a.kernel ≢ b.kernel → stands_before a b ≡ false → IsTrue (stands_before b a)
one-before a b ne is_not = (decides-before b a).1 (elim (eqb_tells a.entry.stamp b.entry.stamp) [
  | inl x ↦ inr (sym x.1, smaller x.1)
  | inr x ↦ inl (earlier x.1)
])
  where
    never : (a.entry.stamp < b.entry.stamp) ⊎ ((a.entry.stamp ≡ b.entry.stamp) × (a.kernel < b.kernel)) → ⊥
    never h = let is : stands_before a b ≡ true = (decides-before a b).1 h in let e : true ≡ false = sym is ∙ is_not in cc

    smaller : a.entry.stamp ≡ b.entry.stamp → b.kernel < a.kernel
    smaller e = let le : a.kernel < b.kernel → ⊥ = λ h. never (inr (e, h)) in omega arith

    earlier : a.entry.stamp ≢ b.entry.stamp → b.entry.stamp < a.entry.stamp
    earlier e = let le : a.entry.stamp < b.entry.stamp → ⊥ = λ h. never (inl h) in omega arith

-- ---- an event that stands before the one that happened before it

-- its stamp is greater than that of the packet that it takes
taken-later : (s : Setting) (n : ℕ) (k : Kernel) (from : ℕ) (ps : List Picture) → n < 2 ^ 64 - 1 → IsTold s.version k → k.stamp ≤ n → All (IsToldPacket s.version n) ps → ps ≢ [] → (first_or nothing_sent ps).stamp < (takes_first k from ps).kernel.stamp
taken-later s n k from [] early told stamp all some = absurd (some refl)
taken-later s n k from (q ∷ qs) early told stamp all some =
    let first : IsToldPacket s.version n q = All-head (IsToldPacket s.version n) q qs all in
    let at : (take_step k from q).kernel.stamp ≡ next_stamp (max k.stamp q.stamp) = (take_step-gives s.version (Took from q) k from q told first.few).stamp in
    let before : q.stamp ≤ n = first.stamp in
    omega arith

-- what an event sends has its stamp
first-of_one : (m to : ℕ) (x : ℕ × Picture) (xs : List (ℕ × Picture)) → x.1.stamp ≡ m → (to_kernel to xs ≢ [] → (first_or nothing_sent (to_kernel to xs)).stamp ≡ m) → to_kernel to (x ∷ xs) ≢ [] → (first_or nothing_sent (to_kernel to (x ∷ xs))).stamp ≡ m
first-of_one m to x xs one others some = by (nat_eq to x.0) refl
  where
    at : (b : Bool) → nat_eq to x.0 ≡ b → to_kernel to (x ∷ xs) ≡ cond b (x.1 ∷ to_kernel to xs) (to_kernel to xs)
    at b e = to_kernel-first to x xs b e

    by : (b : Bool) → nat_eq to x.0 ≡ b → (first_or nothing_sent (to_kernel to (x ∷ xs))).stamp ≡ m
    by true e = ap (λ qs. (first_or nothing_sent qs).stamp) (at true e) ∙ one
    by false e = ap (λ qs. (first_or nothing_sent qs).stamp) (at false e) ∙ others (λ none. some (at false e ∙ none))

first-sent : (v m to : ℕ) (sent : List (ℕ × Picture)) → All (IsFewSent v m) sent → to_kernel to sent ≢ [] → (first_or nothing_sent (to_kernel to sent)).stamp ≡ m
first-sent v m to [] all some = absurd (some refl)
first-sent v m to (x ∷ xs) all some =
    let one : IsFewSent v m x = All-head (IsFewSent v m) x xs all in
    first-of_one m to x xs one.0 (first-sent v m to xs (All-tail (IsFewSent v m) x xs all)) some

-- two events of which the second does not need the first, and stands before it
record IsFree (s : Setting) (w : World) (e f : Event) : Type 0 where
  apart : kernel_of e ≢ kernel_of f
  allowed : IsAllowed s w f
  before : IsTrue (stands_before (noted_as w f) (noted_as w e))

-- an event at another kernel takes what was there before, if its stamp is not greater
there-before : (s : Setting) (n : ℕ) (w : World) (e : Event) (k from : ℕ) → n + 1 < 2 ^ 64 - 1 → k ≢ kernel_of e → IsEvent s n w e → IsToldWorld s (n + 1) (happens w e) → (happens w e).packets from k ≢ []
    → (takes_first ((happens w e).kernel k) from ((happens w e).packets from k)).kernel.stamp ≤ (outcome w e).kernel.stamp → w.packets from k ≢ []
there-before s n w e k from early ne is told allowed le none = by (eqb_tells from (kernel_of e))
  where
    v : World
    v = happens w e

    sent : List Picture
    sent = to_kernel k (outcome w e).packets

    all : v.packets from k ≡ cond (nat_eq from (kernel_of e)) sent []
    all = packets-more w e from k ne ∙ ap (λ ps. ps ++ cond (nat_eq from (kernel_of e)) sent []) none

    by : ((nat_eq from (kernel_of e) ≡ true) × (from ≡ kernel_of e)) ⊎ ((nat_eq from (kernel_of e) ≡ false) × (from ≢ kernel_of e)) → ⊥
    by (inl x) =
        let is_sent : v.packets from k ≡ sent = all ∙ ap (λ b. cond b sent []) x.0 in
        let stamp : (first_or nothing_sent sent).stamp ≡ (outcome w e).kernel.stamp = first-sent s.version (outcome w e).kernel.stamp k (outcome w e).packets is.gives.packets (λ q. allowed (is_sent ∙ q)) in
        let first : (first_or nothing_sent (v.packets from k)).stamp ≡ (first_or nothing_sent sent).stamp = ap (λ qs. (first_or nothing_sent qs).stamp) is_sent in
        let later : (first_or nothing_sent (v.packets from k)).stamp < (takes_first (v.kernel k) from (v.packets from k)).kernel.stamp = taken-later s (n + 1) (v.kernel k) from (v.packets from k) early (told.kernels k) (told.stamps k) (told.packets from k) allowed in
        omega arith
    by (inr x) = allowed (all ∙ ap (λ b. cond b sent []) x.0)

still-allowed : (s : Setting) (n : ℕ) (w : World) (e f : Event) → n + 1 < 2 ^ 64 - 1 → kernel_of f ≢ kernel_of e → IsEvent s n w e → IsToldWorld s (n + 1) (happens w e) → IsAllowed s (happens w e) f → (outcome (happens w e) f).kernel.stamp ≤ (outcome w e).kernel.stamp → IsAllowed s w f
still-allowed s n w e (Calls k p c mine) early ne is told allowed le =
    let same : (happens w e).kernel k ≡ w.kernel k = kernel-same w e k ne in (
      allowed.0,
      allowed.1,
      ap (λ (x : Kernel). (process_of p x).phase) (sym same) ∙ allowed.2,
      allowed.3,
      subst (λ (x : Kernel). IsCallWith p x.table mine c) same allowed.4,
    )
still-allowed s n w e (Takes k from) early ne is told allowed le = there-before s n w e k from early ne is told allowed le

free : (s : Setting) (n : ℕ) (w : World) (e f : Event) → n + 1 < 2 ^ 64 - 1 → IsToldWorld s n w → IsAllowed s w e → IsAllowed s (happens w e) f → stands_before (noted_as w e) (noted_as (happens w e) f) ≡ false → IsFree s w e f
free s n w e f early told allowed_e allowed_f is_not =
    record {
      apart = apart;
      allowed = allowed;
      before = subst (λ (x : Placed). IsTrue (stands_before x (noted_as w e))) (same-entry s w (happens w e) f (same-event s w e f (λ q. apart (sym q)) allowed)) behind;
    }
  where
    is : IsEvent s n w e
    is = is_event s n w e (omega arith) allowed_e told

    told_then : IsToldWorld s (n + 1) (happens w e)
    told_then = told-happens s n w e is told

    is_then : IsEvent s (n + 1) (happens w e) f
    is_then = is_event s (n + 1) (happens w e) f early allowed_f told_then

    not_later : (outcome w e).kernel.stamp < (outcome (happens w e) f).kernel.stamp → ⊥
    not_later lt = let yes_before : stands_before (noted_as w e) (noted_as (happens w e) f) ≡ true = earlier-before (noted_as w e) (noted_as (happens w e) f) lt in let q : true ≡ false = sym yes_before ∙ is_not in cc

    apart : kernel_of e ≢ kernel_of f
    apart q =
        let at : ((happens w e).kernel (kernel_of f)).stamp ≡ (outcome w e).kernel.stamp = ap (λ i. ((happens w e).kernel i).stamp) (sym q) ∙ ap (λ (x : Kernel). x.stamp) (kernel-own w e) in
        let lt : ((happens w e).kernel (kernel_of f)).stamp < (outcome (happens w e) f).kernel.stamp = is_then.later in
        not_later (omega arith)

    behind : IsTrue (stands_before (noted_as (happens w e) f) (noted_as w e))
    behind = one-before (noted_as w e) (noted_as (happens w e) f) apart is_not

    allowed : IsAllowed s w f
    allowed = still-allowed s n w e f early (λ q. apart (sym q)) is told_then allowed_f (omega (arith, not_later))

-- ---- the entries of a kernel

of_kernel-first : (k : ℕ) (p : Placed) (ps : List Placed) (b : Bool) → nat_eq p.kernel k ≡ b → of_kernel k (p ∷ ps) ≡ cond b (p.entry ∷ of_kernel k ps) (of_kernel k ps)
of_kernel-first k p ps true e = ap (λ b. map (λ (x : Placed). x.entry) (cond b (p ∷ filter (λ (x : Placed). nat_eq x.kernel k) ps) (filter (λ (x : Placed). nat_eq x.kernel k) ps))) e
of_kernel-first k p ps false e = ap (λ b. map (λ (x : Placed). x.entry) (cond b (p ∷ filter (λ (x : Placed). nat_eq x.kernel k) ps) (filter (λ (x : Placed). nat_eq x.kernel k) ps))) e

-- ---- sorting

-- another run with the same entries at each kernel, the same last world and as many events
pub record IsReordered (s : Setting) (w : World) (es gs : List Event) : Type 0 where
  pub allowed : AreAllowed s w gs
  pub ends : after w gs ≡ after w es
  pub same : (k : ℕ) → of_kernel k (noted w gs) ≡ of_kernel k (noted w es)
  pub count : length gs ≡ length es

-- its entries stand in the order of a merge
pub record IsSorted (s : Setting) (w : World) (es gs : List Event) : Type 0 where
  pub reordered : IsReordered s w es gs
  pub order : AreInOrder (noted w gs)

of_kernel-cons : (k : ℕ) (p : Placed) (ps qs : List Placed) → of_kernel k ps ≡ of_kernel k qs → of_kernel k (p ∷ ps) ≡ of_kernel k (p ∷ qs)
of_kernel-cons k p ps qs e = step ps ∙ ap (λ es. cond (nat_eq p.kernel k) (p.entry ∷ es) es) e ∙ sym (step qs)
  where
    step : (xs : List Placed) → of_kernel k (p ∷ xs) ≡ cond (nat_eq p.kernel k) (p.entry ∷ of_kernel k xs) (of_kernel k xs)
    step xs = of_kernel-first k p xs (nat_eq p.kernel k) refl

either_cons : (a b : Bool) (x y : Entry) (es : List Entry) → (a ≡ true → b ≡ true → ⊥) → cond a (x ∷ cond b (y ∷ es) es) (cond b (y ∷ es) es) ≡ cond b (y ∷ cond a (x ∷ es) es) (cond a (x ∷ es) es)
either_cons true true x y es not_both = absurd (not_both refl refl)
either_cons true false x y es not_both = refl
either_cons false b x y es not_both = refl

-- two entries of two kernels, in either order
of_kernel-either : (k : ℕ) (p q : Placed) (ps : List Placed) → p.kernel ≢ q.kernel → of_kernel k (p ∷ q ∷ ps) ≡ of_kernel k (q ∷ p ∷ ps)
of_kernel-either k p q ps ne =
    step p (q ∷ ps) ∙ ap (λ es. cond (nat_eq p.kernel k) (p.entry ∷ es) es) (step q ps)
    ∙ either_cons (nat_eq p.kernel k) (nat_eq q.kernel k) p.entry q.entry (of_kernel k ps) (λ a b. ne (same_number p.kernel k a ∙ sym (same_number q.kernel k b)))
    ∙ ap (λ es. cond (nat_eq q.kernel k) (q.entry ∷ es) es) (sym (step p ps)) ∙ sym (step q (p ∷ ps))
  where
    step : (x : Placed) (xs : List Placed) → of_kernel k (x ∷ xs) ≡ cond (nat_eq x.kernel k) (x.entry ∷ of_kernel k xs) (of_kernel k xs)
    step x xs = of_kernel-first k x xs (nat_eq x.kernel k) refl

-- an entry that stands before the new event, and before those that it is put among, stands before all
record IsInserted (s : Setting) (w : World) (e : Event) (fs gs : List Event) : Type 0 where
  sorted : IsSorted s w (e ∷ fs) gs
  first : (p : Placed) → IsTrue (stands_before p (noted_as w e)) → AreInOrder (p ∷ noted (happens w e) fs) → AreInOrder (p ∷ noted w gs)

insert-first : (s : Setting) (w : World) (e : Event) → IsAllowed s w e → IsInserted s w e [] (e ∷ [])
insert-first s w e allowed =
    record {
      sorted = record { reordered = record { allowed = (allowed, tt); ends = refl; same = λ k. refl; count = refl }; order = tt };
      first = λ p before order. (before, tt);
    }

-- it stands before the first
insert-here : (s : Setting) (w : World) (e f : Event) (fs : List Event) → AreAllowed s w (e ∷ f ∷ fs) → AreInOrder (noted (happens w e) (f ∷ fs)) → stands_before (noted_as w e) (noted_as (happens w e) f) ≡ true → IsInserted s w e (f ∷ fs) (e ∷ f ∷ fs)
insert-here s w e f fs allowed order before =
    record {
      sorted = record { reordered = record { allowed = allowed; ends = refl; same = λ k. refl; count = refl }; order = (before, order) };
      first = λ p first others. (first, (before, order));
    }

-- it goes behind the first
insert-behind : (s : Setting) (w : World) (e f : Event) (fs gs : List Event) → IsAllowed s w e → IsFree s w e f → AreInOrder (noted (happens w e) (f ∷ fs)) → IsInserted s (happens w f) e fs gs → IsInserted s w e (f ∷ fs) (f ∷ gs)
insert-behind s w e f fs gs allowed is order put =
    record {
      sorted = record {
        reordered = record {
          allowed = (is.allowed, put.sorted.reordered.allowed);
          ends = put.sorted.reordered.ends ∙ ap (λ (v : World). after v fs) (sym worlds);
          same = same;
          count = omega (arith, put.sorted.reordered.count);
        };
        order = put.first (noted_as w f) (subst (λ (x : Placed). IsTrue (stands_before (noted_as w f) x)) (sym entry_e) is.before) (from_order order);
      };
      first = λ p before others. (
        subst (λ (x : Placed). IsTrue (stands_before p x)) entry_f others.0,
        put.first (noted_as w f) (subst (λ (x : Placed). IsTrue (stands_before (noted_as w f) x)) (sym entry_e) is.before) (from_order order),
      );
    }
  where
    worlds : happens (happens w e) f ≡ happens (happens w f) e
    worlds = either_order s w e f is.apart allowed is.allowed

    entry_e : noted_as (happens w f) e ≡ noted_as w e
    entry_e = same-entry s w (happens w f) e (same-event s w f e is.apart allowed)

    entry_f : noted_as (happens w e) f ≡ noted_as w f
    entry_f = same-entry s w (happens w e) f (same-event s w e f (λ q. is.apart (sym q)) is.allowed)

    from_order : AreInOrder (noted_as (happens w e) f ∷ noted (happens (happens w e) f) fs) → AreInOrder (noted_as w f ∷ noted (happens (happens w f) e) fs)
    from_order o = subst (λ (v : World). AreInOrder (noted_as w f ∷ noted v fs)) worlds (subst (λ (x : Placed). AreInOrder (x ∷ noted (happens (happens w e) f) fs)) entry_f o)

    same : (k : ℕ) → of_kernel k (noted w (f ∷ gs)) ≡ of_kernel k (noted w (e ∷ f ∷ fs))
    same k =
        of_kernel-cons k (noted_as w f) (noted (happens w f) gs) (noted (happens w f) (e ∷ fs)) (put.sorted.reordered.same k)
        ∙ ap (λ (v : World). of_kernel k (noted_as w f ∷ noted_as (happens w f) e ∷ noted v fs)) (sym worlds)
        ∙ ap (λ (x : Placed). of_kernel k (noted_as w f ∷ x ∷ noted (happens (happens w e) f) fs)) entry_e
        ∙ of_kernel-either k (noted_as w f) (noted_as w e) (noted (happens (happens w e) f) fs) (λ q. is.apart (sym q))
        ∙ ap (λ (x : Placed). of_kernel k (noted_as w e ∷ x ∷ noted (happens (happens w e) f) fs)) (sym entry_f)

-- one step: either it stands here, or it goes on
insert-step : (s : Setting) (n : ℕ) (w : World) (e f : Event) (fs : List Event) → n + 1 < 2 ^ 64 - 1 → IsToldWorld s n w → AreAllowed s w (e ∷ f ∷ fs) → AreInOrder (noted (happens w e) (f ∷ fs))
    → (IsFree s w e f → (gs : List Event) × IsInserted s (happens w f) e fs gs) → (gs : List Event) × IsInserted s w e (f ∷ fs) gs
insert-step s n w e f fs early told allowed order others = by (stands_before (noted_as w e) (noted_as (happens w e) f)) refl
  where
    by : (b : Bool) → stands_before (noted_as w e) (noted_as (happens w e) f) ≡ b → (gs : List Event) × IsInserted s w e (f ∷ fs) gs
    by true h = (e ∷ f ∷ fs, insert-here s w e f fs allowed order h)
    by false h =
        let is : IsFree s w e f = free s n w e f early told allowed.0 allowed.1.0 h in
        let put : (gs : List Event) × IsInserted s (happens w f) e fs gs = others is in
        (f ∷ put.0, insert-behind s w e f fs put.0 allowed.0 is order put.1)

order-tail : (p : Placed) (ps : List Placed) → AreInOrder (p ∷ ps) → AreInOrder ps
order-tail p [] o = tt
order-tail p (q ∷ ps) o = o.1

-- an event is put in its place among sorted ones
insert : (s : Setting) (n : ℕ) (w : World) (e : Event) (fs : List Event) → n + length (e ∷ fs) < 2 ^ 64 - 1 → IsToldWorld s n w → AreAllowed s w (e ∷ fs) → AreInOrder (noted (happens w e) fs) → (gs : List Event) × IsInserted s w e fs gs
insert s n w e [] few told allowed order = (e ∷ [], insert-first s w e allowed.0)
insert s n w e (f ∷ fs) few told allowed order =
    insert-step s n w e f fs (omega arith) told allowed order
    (λ is.
    let worlds : happens (happens w e) f ≡ happens (happens w f) e = either_order s w e f is.apart allowed.0 is.allowed in
    insert s (n + 1) (happens w f) e fs (omega arith) (told-happens s n w f (is_event s n w f (omega arith) is.allowed told) told)
    ((same-event s w f e is.apart allowed.0).allowed, subst (λ (v : World). AreAllowed s v fs) worlds allowed.1.1)
    (subst (λ (v : World). AreInOrder (noted v fs)) worlds (order-tail (noted_as (happens w e) f) (noted (happens (happens w e) f) fs) order)))

-- the event is put among the others, sorted
sorted-more : (s : Setting) (w : World) (e : Event) (es fs gs : List Event) → IsSorted s (happens w e) es fs → IsInserted s w e fs gs → IsSorted s w (e ∷ es) gs
sorted-more s w e es fs gs others put =
    record {
      reordered = record {
        allowed = put.sorted.reordered.allowed;
        ends = put.sorted.reordered.ends ∙ others.reordered.ends;
        same = λ k. put.sorted.reordered.same k ∙ of_kernel-cons k (noted_as w e) (noted (happens w e) fs) (noted (happens w e) es) (others.reordered.same k);
        count = omega (arith, put.sorted.reordered.count, others.reordered.count);
      };
      order = put.sorted.order;
    }

insert-sorted : (s : Setting) (n : ℕ) (w : World) (e : Event) (es : List Event) → n + length (e ∷ es) < 2 ^ 64 - 1 → IsToldWorld s n w → IsAllowed s w e → (fs : List Event) × IsSorted s (happens w e) es fs → (gs : List Event) × IsSorted s w (e ∷ es) gs
insert-sorted s n w e es few told allowed others =
    let put : (gs : List Event) × IsInserted s w e others.0 gs = insert s n w e others.0 (omega (arith, others.1.reordered.count)) told (allowed, others.1.reordered.allowed) others.1.order in
    (put.0, sorted-more s w e es others.0 put.0 others.1 put.1)

-- each run has a sorted one
pub sort : (s : Setting) (n : ℕ) (w : World) (es : List Event) → n + length es < 2 ^ 64 - 1 → IsToldWorld s n w → AreAllowed s w es → (gs : List Event) × IsSorted s w es gs
sort s n w [] few told allowed = ([], record { reordered = record { allowed = tt; ends = refl; same = λ k. refl; count = refl }; order = tt })
sort s n w (e ∷ es) few told allowed =
    let is : IsEvent s n w e = is_event s n w e (omega arith) allowed.0 told in
    insert-sorted s n w e es few told allowed.0 (sort s (n + 1) (happens w e) es (omega arith) (told-happens s n w e is told) allowed.1)
