-- Two events at two kernels, both allowed: they can happen in either order.
use Rattle.std.proofs.Common.{◌≡◌, ◌≢◌, ◌⊎◌, inl, inr, ℕ, Bool, true, false, nat_eq, ◌&&◌, List, [], ◌∷◌, ◌++◌, cond, ap, sym, subst, ◌∙◌, refl, append-nil}
use Rattle.std.proofs.lemmas.Bool.Decides.{eqb_tells}
use Rattle.charlotte_packets.specs.declared.picture.Picture.{Picture}
use Rattle.charlotte_calls.specs.declared.setting.Setting.{Setting}
use Rattle.kernel_step.specs.Calls.{IsCallWith}
use Rattle.kernel_step.specs.Kernel.{Kernel, Outcome, call_step, process_of, without_answer}
use Rattle.kernel_world.specs.Run.{IsAllowed}
use Rattle.kernel_world.specs.World.{World, Event, Calls, Takes, kernel_of, takes_first, nothing_sent, first_or, outcome, rest, happens, asked_or_took, noted_as, to_kernel, takes_at, sends_at}
use Rattle.kernel_entries.specs.declared.entry.Happened.{Happened}
use Rattle.kernel_entries.specs.declared.entry.Happened.TheVariants.{Took}
use Rattle.kernel_entries.specs.declared.entry.Placed.{Placed}
use Rattle.kernel_world.proofs.Packets.{happens-packets}

-- ---- tests

pub same_number : (a b : ℕ) → nat_eq a b ≡ true → a ≡ b
same_number a b h = elim (eqb_tells a b) [
  | inl x ↦ x.1
  | inr x ↦ let never : true ≡ false = sym h ∙ x.0 in absurd (cc)
]

pub other_number : (a b : ℕ) → a ≢ b → nat_eq a b ≡ false
other_number a b ne = elim (eqb_tells a b) [ inl x ↦ absurd (ne x.1) | inr x ↦ x.0 ]

and_first : (a b : Bool) → (a && b) ≡ true → a ≡ true
and_first true b h = refl
and_first false b h = h

and_second : (a b : Bool) → (a && b) ≡ true → b ≡ true
and_second true b h = h
and_second false b h = absurd (cc)

not_true : (b : Bool) → (b ≡ true → ⊥) → b ≡ false
not_true true never = absurd (never refl)
not_true false never = refl

-- ---- packets under way

-- an event takes packets that go to its kernel
takes-own : (e : Event) (from to : ℕ) → takes_at e from to ≡ true → to ≡ kernel_of e
takes-own (Calls k p c mine) from to h = absurd (cc)
takes-own (Takes k j) from to h = same_number to k (and_second (nat_eq from j) (nat_eq to k) h)

takes-not : (e : Event) (from to : ℕ) → to ≢ kernel_of e → takes_at e from to ≡ false
takes-not e from to ne = not_true (takes_at e from to) (λ h. ne (takes-own e from to h))

-- where it takes one, there is one
takes-some : (s : Setting) (w : World) (e : Event) (from to : ℕ) → IsAllowed s w e → takes_at e from to ≡ true → w.packets from to ≢ []
takes-some s w (Calls k p c mine) from to allowed h none = absurd (cc)
takes-some s w (Takes k j) from to allowed h none =
    allowed (sym (ap (λ i. w.packets i k) (same_number from j (and_first (nat_eq from j) (nat_eq to k) h)))
    ∙ sym (ap (λ i. w.packets from i) (same_number to k (and_second (nat_eq from j) (nat_eq to k) h))) ∙ none)

-- ---- what stays the same at another kernel

pub kernel-same : (w : World) (f : Event) (k : ℕ) → k ≢ kernel_of f → (happens w f).kernel k ≡ w.kernel k
kernel-same w f k ne = ap (λ b. cond b (outcome w f).kernel (w.kernel k)) (other_number k (kernel_of f) ne)

pub kernel-own : (w : World) (f : Event) → (happens w f).kernel (kernel_of f) ≡ (outcome w f).kernel
kernel-own w f = elim (eqb_tells (kernel_of f) (kernel_of f)) [
  | inl x ↦ ap (λ b. cond b (outcome w f).kernel (w.kernel (kernel_of f))) x.0
  | inr x ↦ absurd (x.1 refl)
]

-- packets to another kernel may become more
pub packets-more : (w : World) (f : Event) (from k : ℕ) → k ≢ kernel_of f → (happens w f).packets from k ≡ w.packets from k ++ sends_at w f from k
packets-more w f from k ne = happens-packets w f from k ∙ ap (λ b. cond b (rest (w.packets from k)) (w.packets from k) ++ sends_at w f from k) (takes-not f from k ne)

first-taken : (k : Kernel) (from : ℕ) (ps qs : List Picture) → ps ≢ [] → takes_first k from (ps ++ qs) ≡ takes_first k from ps
first-taken k from [] qs some = absurd (some refl)
first-taken k from (p ∷ ps) qs some = refl

first-same : (d : Picture) (ps qs : List Picture) → ps ≢ [] → first_or d (ps ++ qs) ≡ first_or d ps
first-same d [] qs some = absurd (some refl)
first-same d (p ∷ ps) qs some = refl

more-some : (ps qs : List Picture) → ps ≢ [] → ps ++ qs ≢ []
more-some [] qs some e = absurd (some refl)
more-some (p ∷ ps) qs some e = cc

-- an event may happen in two worlds, and gives the same
pub record IsSame (s : Setting) (w v : World) (e : Event) : Type 0 where
  pub allowed : IsAllowed s v e
  pub gives : outcome v e ≡ outcome w e
  pub what : asked_or_took v e ≡ asked_or_took w e

-- an event at another kernel changes nothing of it
pub same-event : (s : Setting) (w : World) (f e : Event) → kernel_of e ≢ kernel_of f → IsAllowed s w e → IsSame s w (happens w f) e
same-event s w f (Calls k p c mine) ne allowed =
    let same : (happens w f).kernel k ≡ w.kernel k = kernel-same w f k ne in
    record {
      allowed = (
        allowed.0,
        allowed.1,
        ap (λ (x : Kernel). (process_of p x).phase) same ∙ allowed.2,
        allowed.3,
        subst (λ (x : Kernel). IsCallWith p x.table mine c) (sym same) allowed.4,
      );
      gives = ap (λ (x : Kernel). call_step (without_answer p x) p mine c) same;
      what = refl;
    }
same-event s w f (Takes k from) ne allowed =
    let same : (happens w f).kernel k ≡ w.kernel k = kernel-same w f k ne in
    let more : (happens w f).packets from k ≡ w.packets from k ++ sends_at w f from k = packets-more w f from k ne in
    record {
      allowed = λ none. more-some (w.packets from k) (sends_at w f from k) allowed (sym more ∙ none);
      gives = ap (λ (x : Kernel). takes_first x from ((happens w f).packets from k)) same ∙ ap (takes_first (w.kernel k) from) more
          ∙ first-taken (w.kernel k) from (w.packets from k) (sends_at w f from k) allowed;
      what = ap (λ qs. Took from (first_or nothing_sent qs)) more ∙ ap (λ q. Took from q) (first-same nothing_sent (w.packets from k) (sends_at w f from k) allowed);
    }

placed : ℕ → Happened → Outcome → Placed
placed k what o = record { kernel = k; entry = record { stamp = o.kernel.stamp; what = what; steps = o.steps } }

-- so its entry is the same
pub same-entry : (s : Setting) (w v : World) (e : Event) → IsSame s w v e → noted_as v e ≡ noted_as w e
unfolding placed
same-entry s w v e is = ap (λ o. placed (kernel_of e) (asked_or_took v e) o) is.gives ∙ ap (λ h. placed (kernel_of e) h (outcome w e)) is.what

-- ---- both events

either_kernel : (a b : Bool) (x y z : Kernel) → (a ≡ true → b ≡ true → ⊥) → cond b y (cond a x z) ≡ cond a x (cond b y z)
either_kernel true true x y z not_both = absurd (not_both refl refl)
either_kernel true false x y z not_both = refl
either_kernel false b x y z not_both = refl

-- two lists are put behind one of which a first element may go; one of the two is empty
either_sent : (ps xs ys : List Picture) → (xs ≡ []) ⊎ (ys ≡ []) → (ps ++ xs) ++ ys ≡ (ps ++ ys) ++ xs
either_sent ps xs ys (inl e) =
    ap (λ qs. (ps ++ qs) ++ ys) e ∙ ap (λ qs. qs ++ ys) (append-nil ps) ∙ sym (append-nil (ps ++ ys)) ∙ ap (λ qs. (ps ++ ys) ++ qs) (sym e)
either_sent ps xs ys (inr e) =
    ap (λ qs. (ps ++ xs) ++ qs) e ∙ append-nil (ps ++ xs) ∙ ap (λ qs. qs ++ xs) (sym (append-nil ps)) ∙ ap (λ qs. (ps ++ qs) ++ xs) (sym e)

rest-more : (ps qs : List Picture) → ps ≢ [] → rest (ps ++ qs) ≡ rest ps ++ qs
rest-more [] qs some = absurd (some refl)
rest-more (p ∷ ps) qs some = refl

abbrev then_sent : Bool → List Picture → List Picture → List Picture
then_sent b ps sent = cond b (rest ps) ps ++ sent

either_packets : (a b : Bool) (ps xs ys : List Picture) → (a ≡ true → ps ≢ []) → (b ≡ true → ps ≢ []) → (a ≡ true → b ≡ true → ⊥) → (xs ≡ []) ⊎ (ys ≡ []) → then_sent b (then_sent a ps xs) ys ≡ then_sent a (then_sent b ps ys) xs
either_packets true true ps xs ys some other not_both none = absurd (not_both refl refl)
either_packets true false ps xs ys some other not_both none = either_sent (rest ps) xs ys none ∙ ap (λ qs. qs ++ xs) (sym (rest-more ps ys (some refl)))
either_packets false true ps xs ys some other not_both none = ap (λ qs. qs ++ ys) (rest-more ps xs (other refl)) ∙ either_sent (rest ps) xs ys none
either_packets false false ps xs ys some other not_both none = either_sent ps xs ys none

-- two events at two kernels leave the same world in either order
pub either_order : (s : Setting) (w : World) (e f : Event) → kernel_of e ≢ kernel_of f → IsAllowed s w e → IsAllowed s w f → happens (happens w e) f ≡ happens (happens w f) e
either_order s w e f apart allowed_e allowed_f = λ j. record { kernel = λ q. kernel q j; packets = λ from to. packets from to j }
  where
    same_e : IsSame s w (happens w f) e
    same_e = same-event s w f e apart allowed_e

    same_f : IsSame s w (happens w e) f
    same_f = same-event s w e f (λ q. apart (sym q)) allowed_f

    kernel : (q : ℕ) → (happens (happens w e) f).kernel q ≡ (happens (happens w f) e).kernel q
    kernel q =
        ap (λ (o : Outcome). cond (nat_eq q (kernel_of f)) o.kernel (cond (nat_eq q (kernel_of e)) (outcome w e).kernel (w.kernel q))) same_f.gives
        ∙ either_kernel (nat_eq q (kernel_of e)) (nat_eq q (kernel_of f)) (outcome w e).kernel (outcome w f).kernel (w.kernel q)
        (λ a b. apart (sym (same_number q (kernel_of e) a) ∙ same_number q (kernel_of f) b))
        ∙ ap (λ (o : Outcome). cond (nat_eq q (kernel_of e)) o.kernel (cond (nat_eq q (kernel_of f)) (outcome w f).kernel (w.kernel q))) (sym same_e.gives)

    one_sends : (from to : ℕ) → (sends_at w e from to ≡ []) ⊎ (sends_at w f from to ≡ [])
    one_sends from to = elim (eqb_tells from (kernel_of e)) [
      | inl x ↦ inr (ap (λ b. cond b (to_kernel to (outcome w f).packets) []) (other_number from (kernel_of f) (λ q. apart (sym x.1 ∙ q))))
      | inr x ↦ inl (ap (λ b. cond b (to_kernel to (outcome w e).packets) []) x.0)
    ]

    packets : (from to : ℕ) → (happens (happens w e) f).packets from to ≡ (happens (happens w f) e).packets from to
    packets from to =
        let a : Bool = takes_at e from to in
        let b : Bool = takes_at f from to in
        let ps : List Picture = w.packets from to in
        happens-packets (happens w e) f from to
        ∙ ap (λ (o : Outcome). then_sent b ((happens w e).packets from to) (cond (nat_eq from (kernel_of f)) (to_kernel to o.packets) [])) same_f.gives
        ∙ ap (λ qs. then_sent b qs (sends_at w f from to)) (happens-packets w e from to)
        ∙ either_packets a b ps (sends_at w e from to) (sends_at w f from to) (takes-some s w e from to allowed_e) (takes-some s w f from to allowed_f)
        (λ h k. apart (sym (takes-own e from to h) ∙ takes-own f from to k)) (one_sends from to)
        ∙ ap (λ qs. then_sent a qs (sends_at w e from to)) (sym (happens-packets w f from to))
        ∙ ap (λ (o : Outcome). then_sent a ((happens w f).packets from to) (cond (nat_eq from (kernel_of e)) (to_kernel to o.packets) [])) (sym same_e.gives)
        ∙ sym (happens-packets (happens w f) e from to)
