-- Along a run each kernel that is there names only such kernels, and so do the packets, which go between them.
use Rattle.std.proofs.Common.{◌≡◌, ◌≢◌, ◌⊎◌, inl, inr, ℕ, ◌+◌, ◌^◌, ◌<◌, ◌≤◌, Bool, true, false, nat_eq, nat_le, cond, if◌then◌else◌, List, [], ◌∷◌, ◌++◌, length, map, All, refl, sym, ap, subst, ◌∙◌, arith, ne_eqb}
use Rattle.std.proofs.lemmas.Bool.Decides.{eqb_tells, leb_tells}
use Rattle.std.proofs.lemmas.List.Elements.{All-append, All-cons, All-get_or, All-head, All-nil, All-tail, All-weaker}
use Rattle.std.specs.List.{filter}
use Rattle.charlotte_packets.specs.Packets.{is_addressed}
use Rattle.charlotte_calls.specs.Setting.{IsValid}
use Rattle.charlotte_packets.specs.declared.picture.Picture.{Picture}
use Rattle.charlotte_calls.specs.declared.setting.Setting.{Setting}
use Rattle.kernel_named.proofs.Start.{start-names}
use Rattle.kernel_named.proofs.Steps.{GivesWithin, call_step-within, take_step-within}
use Rattle.kernel_named.specs.Named.{AreSentWithin, IsSentWithin, TableNamesBelow}
use Rattle.kernel_step.specs.Kernel.{Kernel, Outcome, take_step, without_answer}
use Rattle.kernel_step.specs.Start.{home}
use Rattle.kernel_world.proofs.Packets.{happens-packets}
use Rattle.kernel_world.specs.Run.{AreAllowed, IsAllowed, IsRun}
use Rattle.kernel_world.specs.World.{World, Event, Calls, Takes, after, happens, kernel_of, left_at, outcome, rest, start, takes_at, takes_first, to_kernel}
use Rattle.transcript_record.proofs.Worlds.{told-after, told-start}
use Rattle.transcript_record.specs.Told.{IsToldPacket, IsToldWorld}
use Rattle.sent_within.specs.Within.{IsWithin}

-- a packet that names only the first n kernels
abbrev pub IsAddressed : ℕ → Picture → Type 0
IsAddressed n q = is_addressed q.what n ≡ true

-- what is true of n kernels together
pub record AreWithin (n : ℕ) (w : World) : Type 0 where
  pub numbers : (k : ℕ) → (w.kernel k).number ≡ k
  pub kernels : (k : ℕ) → (w.kernel k).kernels ≡ n
  pub names : (k : ℕ) → TableNamesBelow n (w.kernel k).table
  pub lists : (from to : ℕ) → (n ≤ from) ⊎ (n ≤ to) → w.packets from to ≡ []
  pub addressed : (from to : ℕ) → All (IsAddressed n) (w.packets from to)

-- a kernel as one of n
named-below : (n k : ℕ) (x : Kernel) → x.kernels ≡ n → x.number ≡ k → k < n → x.number < x.kernels
named-below n k x kernels number below = omega (arith, kernels, number, below)

of_kernel : (n k : ℕ) (x : Kernel) (o : Outcome) → x.kernels ≡ n → x.number ≡ k → GivesWithin x.kernels x.number o → GivesWithin n k o
of_kernel n k x o kernels number gives = subst (λ m. GivesWithin m k o) kernels (subst (λ j. GivesWithin x.kernels j o) number gives)

module _ (s : Setting) (valid : IsValid s) where
  abbrev n : ℕ
  n = s.kernels

  abbrev IsGoing : ℕ × Picture → Type 0
  IsGoing x = IsSentWithin n x.0 x.1.what

  -- ---- one event

  -- a packet that is there comes from a kernel that is there, and goes to one
  pub under_way-within : (w : World) → AreWithin n w → (from to : ℕ) → w.packets from to ≢ [] → (from < n) × (to < n)
  under_way-within w is from to some = (by from (λ far. is.lists from to (inl far)) (leb_tells n from), by to (λ far. is.lists from to (inr far)) (leb_tells n to))
    where
      by : (a : ℕ) → (n ≤ a → w.packets from to ≡ []) → ((nat_le n a ≡ true) × (n ≤ a)) ⊎ ((nat_le n a ≡ false) × (a < n)) → a < n
      by a none (inl far) = absurd (some (none far.1))
      by a none (inr near) = near.1

  -- an event is at a kernel that is there, and gives what keeps to them
  record IsEventWithin (w : World) (e : Event) : Type 0 where
    below : kernel_of e < n
    gives : GivesWithin n (kernel_of e) (outcome w e)

  event-within : (w : World) (e : Event) → AreWithin n w → IsAllowed s w e → IsEventWithin w e
  event-within w (Calls k p c mine) is allowed = record { below = below; gives = gives }
    where
      below : k < n
      below = subst (λ j. j < n) allowed.1 (All-get_or (λ h. h < n) s.homes p.0 0 allowed.0 valid.homes)

      x : Kernel
      x = without_answer p (w.kernel k)

      gives : GivesWithin n k (outcome w (Calls k p c mine))
      gives = of_kernel n k x (outcome w (Calls k p c mine)) (is.kernels k) (is.numbers k)
          (call_step-within x (named-below n k x (is.kernels k) (is.numbers k) below) (subst (λ m. TableNamesBelow m x.table) (sym (is.kernels k)) (is.names k)) p mine c)
  event-within w (Takes k from) is allowed = record { below = near.1; gives = first (w.packets from k) refl allowed }
    where
      near : (from < n) × (k < n)
      near = under_way-within w is from k allowed

      x : Kernel
      x = w.kernel k

      first : (ps : List Picture) → w.packets from k ≡ ps → ps ≢ [] → GivesWithin n k (takes_first x from ps)
      first [] at some = absurd (some refl)
      first (q ∷ qs) at some = of_kernel n k x (take_step x from q) (is.kernels k) (is.numbers k)
          (take_step-within x from q (named-below n k x (is.kernels k) (is.numbers k) near.1) (subst (λ m. from < m) (sym (is.kernels k)) near.0) (subst (λ m. TableNamesBelow m x.table) (sym (is.kernels k)) (is.names k)))

  -- ---- the world after it

  to_kernel-none : (to : ℕ) (sent : List (ℕ × Picture)) → n ≤ to → AreSentWithin n sent → to_kernel to sent ≡ []
  to_kernel-none to [] far all = refl
  to_kernel-none to (x ∷ xs) far all =
      let near : IsSentWithin n x.0 x.1.what = All-head IsGoing x xs all in
      ap (λ b. map (λ (s : ℕ × Picture). s.1) (cond b (x ∷ filter (λ s. nat_eq to s.0) xs) (filter (λ s. nat_eq to s.0) xs))) (ne_eqb to x.0 (λ same. omega (arith, near.0, far, same)))
      ∙ to_kernel-none to xs far (All-tail IsGoing x xs all)

  addressed-more : (b : Bool) (x : ℕ × Picture) (others : List (ℕ × Picture)) → IsAddressed n x.1 → All (IsAddressed n) (map (λ (s : ℕ × Picture). s.1) others)
      → All (IsAddressed n) (map (λ (s : ℕ × Picture). s.1) (cond b (x ∷ others) others))
  addressed-more true x others is all = All-cons (IsAddressed n) x.1 (map (λ (s : ℕ × Picture). s.1) others) is all
  addressed-more false x others is all = all

  to_kernel-addressed : (to : ℕ) (sent : List (ℕ × Picture)) → AreSentWithin n sent → All (IsAddressed n) (to_kernel to sent)
  to_kernel-addressed to [] all = All-nil (IsAddressed n)
  to_kernel-addressed to (x ∷ xs) all =
      addressed-more (nat_eq to x.0) x (filter (λ s. nat_eq to s.0) xs) (All-head IsGoing x xs all).1 (to_kernel-addressed to xs (All-tail IsGoing x xs all))

  rest-addressed : (ps : List Picture) → All (IsAddressed n) ps → All (IsAddressed n) (rest ps)
  rest-addressed [] all = all
  rest-addressed (p ∷ ps) all = All-tail (IsAddressed n) p ps all

  rest-none : (ps : List Picture) → ps ≡ [] → rest ps ≡ []
  rest-none [] none = refl
  rest-none (p ∷ ps) none = absurd cc

  after-within : (w : World) (e : Event) → AreWithin n w → IsEventWithin w e → AreWithin n (happens w e)
  after-within w e is event =
      record {
        numbers = λ q. each (λ q x. x.number ≡ q) q event.gives.number (is.numbers q);
        kernels = λ q. each (λ q x. x.kernels ≡ n) q event.gives.kernels (is.kernels q);
        names = λ q. each (λ q x. TableNamesBelow n x.table) q event.gives.table (is.names q);
        lists = λ from to far. happens-packets w e from to ∙ ap (λ l. l ++ sent from to (nat_eq from k)) (left-none from to far (takes_at e from to)) ∙ sent-none from to far (eqb_tells from k);
        addressed =
            λ from to. subst (All (IsAddressed n)) (sym (happens-packets w e from to))
            (All-append (IsAddressed n) (left_at w e from to) (sent from to (nat_eq from k)) (left-addressed from to (takes_at e from to)) (sent-addressed from to (nat_eq from k)));
      }
    where
      k : ℕ
      k = kernel_of e

      o : Outcome
      o = outcome w e

      sent : ℕ → ℕ → Bool → List Picture
      sent from to b = if b then to_kernel to o.packets else []

      each : (P : ℕ → Kernel → Type 0) (q : ℕ) → P k o.kernel → P q (w.kernel q) → P q (if nat_eq q k then o.kernel else w.kernel q)
      each P q own other = by (eqb_tells q k)
        where
          by : ((nat_eq q k ≡ true) × (q ≡ k)) ⊎ ((nat_eq q k ≡ false) × (q ≢ k)) → P q (if nat_eq q k then o.kernel else w.kernel q)
          by (inl x) = subst (λ b. P q (if b then o.kernel else w.kernel q)) (sym x.0) (subst (λ j. P j o.kernel) (sym x.1) own)
          by (inr x) = subst (λ b. P q (if b then o.kernel else w.kernel q)) (sym x.0) other

      left-none : (from to : ℕ) → (n ≤ from) ⊎ (n ≤ to) → (b : Bool) → (if b then rest (w.packets from to) else w.packets from to) ≡ []
      left-none from to far true = rest-none (w.packets from to) (is.lists from to far)
      left-none from to far false = is.lists from to far

      sent-none : (from to : ℕ) → (n ≤ from) ⊎ (n ≤ to) → ((nat_eq from k ≡ true) × (from ≡ k)) ⊎ ((nat_eq from k ≡ false) × (from ≢ k)) → sent from to (nat_eq from k) ≡ []
      sent-none from to (inl far) (inl x) = absurd (let near : k < n = event.below in omega (arith, near, far, x.1))
      sent-none from to (inr far) (inl x) = ap (sent from to) x.0 ∙ to_kernel-none to o.packets far event.gives.packets
      sent-none from to far (inr x) = ap (sent from to) x.0

      left-addressed : (from to : ℕ) (b : Bool) → All (IsAddressed n) (if b then rest (w.packets from to) else w.packets from to)
      left-addressed from to true = rest-addressed (w.packets from to) (is.addressed from to)
      left-addressed from to false = is.addressed from to

      sent-addressed : (from to : ℕ) (b : Bool) → All (IsAddressed n) (sent from to b)
      sent-addressed from to true = to_kernel-addressed to o.packets event.gives.packets
      sent-addressed from to false = All-nil (IsAddressed n)

  -- ---- a run

  pub happens-within : (w : World) (e : Event) → AreWithin n w → IsAllowed s w e → AreWithin n (happens w e)
  happens-within w e is allowed = after-within w e is (event-within w e is allowed)

  pub start-within : AreWithin n (start s)
  start-within = record { numbers = λ k. refl; kernels = λ k. refl; names = start-names s valid; lists = λ from to far. refl; addressed = λ from to. All-nil (IsAddressed n) }

  run-within : (w : World) (es : List Event) → AreWithin n w → AreAllowed s w es → AreWithin n (after w es)
  run-within w [] is allowed = is
  run-within w (e ∷ es) is allowed = run-within (happens w e) es (happens-within w e is allowed.0) allowed.1

  pub within : (es : List Event) → IsRun s es → IsWithin n (length es) (after (start s) es)
  within es run =
      let is : AreWithin n (after (start s) es) = run-within (start s) es start-within run.allowed in
      let told : IsToldWorld s (length es) (after (start s) es) = subst (λ m. IsToldWorld s m (after (start s) es)) (omega arith)
      (told-after s 0 (start s) es (let few : length es ≤ 2 ^ 31 = run.few in omega (arith, few)) run.allowed (told-start s)) in
      record {
        lists = is.lists;
        addressed = is.addressed;
        tables = is.names;
        stamps = told.stamps;
        stamped = λ from to. All-weaker (IsToldPacket s.version (length es)) (λ q. q.stamp ≤ length es) (λ q h. h.stamp) ((after (start s) es).packets from to) (told.packets from to);
      }
