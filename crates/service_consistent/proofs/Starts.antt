-- The start of a setting is consistent: all ends are idle, and owned by processes that run.
use Rattle.std.proofs.Common.{◌≡◌, ◌≢◌, ℕ, zero, suc, ◌+◌, ◌<◌, ◌≤◌, Bool, true, false, true≢false, nat_eq, not, ◌⊎◌, inl, inr, if◌then◌else◌, length, Some, List, [], ◌∷◌}
use Rattle.std.proofs.Common.{Contains, All, replicate, slice_index, slice_set, get_or, nat_lt, get_or-set_same, get_or-set_other, refl, sym, ap, ap₂, subst, ◌∙◌, arith}
use Rattle.charlotte_calls.specs.Names.{opposite}
use Rattle.charlotte_calls.specs.declared.calls.Report.{Report}
use Rattle.charlotte_calls.specs.declared.names.EndId.{EndId}
use Rattle.charlotte_calls.specs.declared.names.Pid.{Pid}
use Rattle.std.proofs.Common.{length-set}
use Rattle.std.proofs.lemmas.Bool.Decides.{Decides-ltb, eqb_tells}
use Rattle.std.proofs.lemmas.List.Elements.{All-get_or, All-head, All-tail}
use Rattle.std.specs.List.{fold}
use Rattle.charlotte_calls.specs.Setting.{IsValid}
use Rattle.charlotte_calls.specs.declared.setting.Setting.{Setting}
use Rattle.service_change.proofs.Change.{idle-message, idle-over}
use Rattle.service_change.proofs.Counts.{counted-none, reported-counted}
use Rattle.service_change.proofs.EndEq.{end_eq-apart, end_eq-same, put-at, put-other}
use Rattle.service_lawful.specs.Consistent.{IsConsistent, reports_on}
use Rattle.service_consistent.proofs.Makes.{lt-same, same-link}
use Rattle.service_step.specs.Ends.{end_eq, fresh, unmade, is_made, is_idle, put}
use Rattle.service_step.specs.Lawful.{IsHeldAt, message_of}
use Rattle.service_step.specs.Run.{Wired, first_end, new_process, new_processes, nothing_wired, start_state, wires_one}
use Rattle.service_step.specs.State.{State, no_process}
use Rattle.service_step.specs.declared.state.End.{End}
use Rattle.service_step.specs.declared.state.Message.{Message}
use Rattle.service_step.specs.declared.state.Outward.TheVariants as outward
use Rattle.service_step.specs.declared.state.Phase.TheVariants as phase
use Rattle.service_step.specs.declared.state.Place.TheVariants as place

-- an end is of no made link, or one of the first n processes owns it
pub data IsFirst (n : ℕ) (x : End) : Type 0 where
  nowhere : x ≡ unmade → IsFirst n x
  someone : (p : Pid) → p.0 < n → x ≡ fresh (place.Owned p) → IsFirst n x

-- what is true of the links of a setting that are wired so far, where kernels have a number and processes have one
pub record IsWiredWell (kernels n : ℕ) (w : Wired) : Type 0 where
  pub kernels_all : length w.made ≡ kernels
  pub first : (e : EndId) → IsFirst n (w.ends e)
  pub made : (e : EndId) → is_made (w.ends e).place ≡ nat_lt e.link.count (slice_index w.made e.link.maker)

module _ (kernels n h : ℕ) (p q : Pid) (w : Wired) (within : h < kernels) (first : p.0 < n) (second : q.0 < n) (k : IsWiredWell kernels n w) where
  -- the table after one wire more
  module _ (a : EndId) (is : a ≡ first_end h (slice_index w.made h)) (v : Wired) (made : v.made ≡ slice_set w.made h (slice_index w.made h + 1))
      (ends : v.ends ≡ put (put w.ends a (fresh (place.Owned p))) (opposite a) (fresh (place.Owned q))) where
    new-first : (e : EndId) → IsFirst n (v.ends e)
    new-first e = by (end_eq (opposite a) e) refl (end_eq a e) refl
      where
        by : (x : Bool) → end_eq (opposite a) e ≡ x → (y : Bool) → end_eq a e ≡ y → IsFirst n (v.ends e)
        by true same y its =
            someone q second
            (subst (λ z. v.ends z ≡ fresh (place.Owned q)) (end_eq-same (opposite a) e same) (ap (λ f. f (opposite a)) ends ∙ put-at (put w.ends a (fresh (place.Owned p))) (opposite a) (fresh (place.Owned q))))
        by false apart true same =
            someone p first
            (ap (λ f. f e) ends ∙ put-other (put w.ends a (fresh (place.Owned p))) (opposite a) (fresh (place.Owned q)) e apart
            ∙ subst (λ z. put w.ends a (fresh (place.Owned p)) z ≡ fresh (place.Owned p)) (end_eq-same a e same) (put-at w.ends a (fresh (place.Owned p))))
        by false apart false neither =
            subst (IsFirst n) (sym (ap (λ f. f e) ends ∙ put-other (put w.ends a (fresh (place.Owned p))) (opposite a) (fresh (place.Owned q)) e apart ∙ put-other w.ends a (fresh (place.Owned p)) e neither))
            (k.first e)

    short : h < length w.made
    short = let all : length w.made ≡ kernels = k.kernels_all in omega arith

    grown : get_or (slice_set w.made h (slice_index w.made h + 1)) h 0 ≡ slice_index w.made h + 1
    grown = get_or-set_same w.made h (slice_index w.made h + 1) 0 short

    -- an end of the new link is made, and counted
    its-count : (e : EndId) → e.link ≡ a.link → nat_lt e.link.count (get_or (slice_set w.made h (slice_index w.made h + 1)) e.link.maker 0) ≡ true
    its-count e link =
        subst (λ l. nat_lt l.count (get_or (slice_set w.made h (slice_index w.made h + 1)) l.maker 0) ≡ true) (sym (link ∙ ap (λ z. z.link) is))
        ((Decides-ltb (slice_index w.made h) (get_or (slice_set w.made h (slice_index w.made h + 1)) h 0)).1 (let now : get_or (slice_set w.made h (slice_index w.made h + 1)) h 0 ≡ slice_index w.made h + 1 = grown in omega arith))

    other-count : (e : EndId) → (e.link ≡ a.link → ⊥) → nat_lt e.link.count (slice_index w.made e.link.maker) ≡ nat_lt e.link.count (get_or (slice_set w.made h (slice_index w.made h + 1)) e.link.maker 0)
    other-count e apart = by (eqb_tells e.link.maker h)
      where
        by : ((nat_eq e.link.maker h ≡ true) × (e.link.maker ≡ h)) ⊎ ((nat_eq e.link.maker h ≡ false) × (e.link.maker ≢ h))
            → nat_lt e.link.count (get_or w.made e.link.maker 0) ≡ nat_lt e.link.count (get_or (slice_set w.made h (slice_index w.made h + 1)) e.link.maker 0)
        by (inl same) =
            ap (λ i. nat_lt e.link.count (get_or w.made i 0)) same.1
            ∙ lt-same e.link.count (get_or w.made h 0) (λ count. apart (ap₂ (λ m c. record { maker = m; count = c }) same.1 count ∙ sym (ap (λ z. z.link) is)))
            ∙ ap (nat_lt e.link.count) (sym grown) ∙ ap (λ i. nat_lt e.link.count (get_or (slice_set w.made h (slice_index w.made h + 1)) i 0)) (sym same.1)
        by (inr differ) = ap (nat_lt e.link.count) (sym (get_or-set_other w.made h e.link.maker (slice_index w.made h + 1) 0 differ.1))

    new-made : (e : EndId) → is_made (v.ends e).place ≡ nat_lt e.link.count (slice_index v.made e.link.maker)
    new-made e = by (end_eq (opposite a) e) refl (end_eq a e) refl ∙ ap (λ l. nat_lt e.link.count (get_or l e.link.maker 0)) (sym made)
      where
        by : (x : Bool) → end_eq (opposite a) e ≡ x → (y : Bool) → end_eq a e ≡ y → is_made (v.ends e).place ≡ nat_lt e.link.count (get_or (slice_set w.made h (slice_index w.made h + 1)) e.link.maker 0)
        by true same y its =
            subst (λ z. is_made (v.ends z).place ≡ true) (end_eq-same (opposite a) e same) (ap (λ f. is_made (f (opposite a)).place) ends ∙ ap (λ z. is_made z.place) (put-at (put w.ends a (fresh (place.Owned p))) (opposite a) (fresh (place.Owned q))))
            ∙ sym (its-count e (ap (λ z. z.link) (sym (end_eq-same (opposite a) e same))))
        by false apart true same =
            ap (λ f. is_made (f e).place) ends
            ∙ ap (λ z. is_made z.place) (put-other (put w.ends a (fresh (place.Owned p))) (opposite a) (fresh (place.Owned q)) e apart)
            ∙ subst (λ z. is_made (put w.ends a (fresh (place.Owned p)) z).place ≡ true) (end_eq-same a e same) (ap (λ z. is_made z.place) (put-at w.ends a (fresh (place.Owned p))))
            ∙ sym (its-count e (ap (λ z. z.link) (sym (end_eq-same a e same))))
        by false apart false neither =
            ap (λ z. is_made z.place) (ap (λ f. f e) ends ∙ put-other (put w.ends a (fresh (place.Owned p))) (opposite a) (fresh (place.Owned q)) e apart ∙ put-other w.ends a (fresh (place.Owned p)) e neither)
            ∙ k.made e ∙ other-count e (λ same. either (same-link a e same))
          where
            either : (a ≡ e) ⊎ (opposite a ≡ e) → ⊥
            either (inl same) = end_eq-apart a e neither same
            either (inr same) = end_eq-apart (opposite a) e apart same

    new-well : IsWiredWell kernels n v
    new-well = record { kernels_all = ap length made ∙ length-set w.made h (slice_index w.made h + 1) ∙ k.kernels_all; first = new-first; made = new-made }

wires_one-well : (homes : List ℕ) (kernels n : ℕ) (w : Wired) (wire : Pid × Pid) → slice_index homes wire.0.0 < kernels → wire.0.0 < n → wire.1.0 < n → IsWiredWell kernels n w → IsWiredWell kernels n (wires_one homes w wire)
unfolding wires_one
wires_one-well homes kernels n w wire within first second k =
    new-well kernels n (slice_index homes wire.0.0) wire.0 wire.1 w within first second k (first_end (slice_index homes wire.0.0) (slice_index w.made (slice_index homes wire.0.0))) refl _ refl refl

wires-well : (homes : List ℕ) (kernels : ℕ) (wires : List (Pid × Pid)) (w : Wired) → All (λ home. home < kernels) homes → All (λ wire. (wire.0.0 < length homes) × (wire.1.0 < length homes)) wires → IsWiredWell kernels (length homes) w
    → IsWiredWell kernels (length homes) (fold (wires_one homes) w wires)
wires-well homes kernels [] w at all k = k
wires-well homes kernels (wire ∷ wires) w at all k =
    let here = All-head (λ wire. (wire.0.0 < length homes) × (wire.1.0 < length homes)) wire wires all in
    wires-well homes kernels wires (wires_one homes w wire) at (All-tail (λ wire. (wire.0.0 < length homes) × (wire.1.0 < length homes)) wire wires all)
    (wires_one-well homes kernels (length homes) w wire (All-get_or (λ home. home < kernels) homes wire.0.0 0 here.0 at) here.0 here.1 k)

-- as many zeros
abbrev zeros : ℕ → List ℕ
zeros n = replicate n 0

length-zeros : (n : ℕ) → length (zeros n) ≡ n
length-zeros zero = refl
length-zeros (suc n) = ap suc (length-zeros n)

zero-zeros : (n i : ℕ) → slice_index (zeros n) i ≡ 0
zero-zeros zero i = refl
zero-zeros (suc n) zero = refl
zero-zeros (suc n) (suc i) = zero-zeros n i

not-below-zero : (n c : ℕ) → c ≡ 0 → nat_lt n c ≡ false
not-below-zero n c is = by (nat_lt n c) refl
  where
    by : (b : Bool) → nat_lt n c ≡ b → b ≡ false
    by true below = let less : n < c = (Decides-ltb n c).0 below in absurd (omega arith)
    by false not = refl

nothing-well : (kernels n : ℕ) → IsWiredWell kernels n (nothing_wired kernels)
nothing-well kernels n =
    record {
      kernels_all = length-zeros kernels;
      first = λ e. nowhere refl;
      made = λ e. sym (not-below-zero e.link.count (slice_index (zeros kernels) e.link.maker) (zero-zeros kernels e.link.maker));
    }

new-at : (n i : ℕ) → nat_lt i n ≡ true → new_processes n i ≡ new_process
unfolding new_processes
new-at n i is = ap (λ b. if b then new_process else no_process) is

no-at : (n i : ℕ) → nat_lt i n ≡ false → new_processes n i ≡ no_process
unfolding new_processes
no-at n i is = ap (λ b. if b then new_process else no_process) is

-- a state in which all ends are so
module _ (s : State) (n : ℕ) (homes : length s.homes ≡ n) (process : s.process ≡ new_processes n) (first : (e : EndId) → IsFirst n (s.ends e)) (made : (e : EndId) → is_made (s.ends e).place ≡ nat_lt e.link.count (slice_index s.made e.link.maker)) where
  idle-first : (e : EndId) → is_idle (s.ends e) ≡ true
  idle-first e = by (first e)
    where
      by : IsFirst n (s.ends e) → is_idle (s.ends e) ≡ true
      by (nowhere is) = ap is_idle is
      by (someone p below is) = ap is_idle is

  open-first : (e : EndId) → (s.ends e).noticed ≡ false
  open-first e = by (first e)
    where
      by : IsFirst n (s.ends e) → (s.ends e).noticed ≡ false
      by (nowhere is) = ap (λ z. z.noticed) is
      by (someone p below is) = ap (λ z. z.noticed) is

  -- no end has a message
  no-message : (e : EndId) (m : Message) → message_of (s.ends e).outward ≡ Some m → ⊥
  no-message e m is = idle-message (s.ends e) m (idle-first e) is

  process-first : (p : Pid) → ((s.process p.0) ≡ new_process) ⊎ ((s.process p.0) ≡ no_process)
  process-first p = by (nat_lt p.0 n) refl
    where
      at : s.process p.0 ≡ new_processes n p.0
      at = ap (λ f. f p.0) process

      by : (b : Bool) → nat_lt p.0 n ≡ b → ((s.process p.0) ≡ new_process) ⊎ ((s.process p.0) ≡ no_process)
      by true is = inl (at ∙ new-at n p.0 is)
      by false is = inr (at ∙ no-at n p.0 is)

  no-reports : (p : Pid) → (s.process p.0).reports ≡ []
  no-reports p = by (process-first p)
    where
      by : ((s.process p.0) ≡ new_process) ⊎ ((s.process p.0) ≡ no_process) → (s.process p.0).reports ≡ []
      by (inl is) = ap (λ z. z.reports) is
      by (inr is) = ap (λ z. z.reports) is

  held-first : (e : EndId) → IsHeldAt s e (s.ends e).place
  held-first e = by (first e)
    where
      lives : (p : Pid) → p.0 < n → (s.process p.0).phase ≡ phase.Ended → ⊥
      lives p below ended = let differ : phase.Running ≡ phase.Ended = sym (ap (λ f. (f p.0).phase) process ∙ ap (λ z. z.phase) (new-at n p.0 ((Decides-ltb p.0 n).1 below))) ∙ ended in cc

      by : IsFirst n (s.ends e) → IsHeldAt s e (s.ends e).place
      by (nowhere is) = subst (λ z. IsHeldAt s e z.place) (sym is) tt
      by (someone p below is) = subst (λ z. IsHeldAt s e z.place) (sym is) (lives p below)

  unmade-first : (e : EndId) → (s.ends e).place ≡ place.Unmade → s.ends e ≡ unmade
  unmade-first e at = by (first e)
    where
      differ : (p : Pid) → place.Owned p ≡ place.Unmade → ⊥
      differ p same = cc

      by : IsFirst n (s.ends e) → s.ends e ≡ unmade
      by (nowhere is) = is
      by (someone p below is) = absurd (differ p (sym (ap (λ z. z.place) is) ∙ at))

  not-waiting : (e : EndId) (m : Message) → (s.ends e).outward ≡ outward.Waiting m → ⊥
  not-waiting e m is = no-message e m (ap message_of is)

  no-cancel : (p : Pid) (e : EndId) → (s.process p.0).phase ≡ phase.Cancelling e → ⊥
  no-cancel p e is = by (process-first p)
    where
      by : ((s.process p.0) ≡ new_process) ⊎ ((s.process p.0) ≡ no_process) → ⊥
      by (inl at) = let differ : phase.Running ≡ phase.Cancelling e = sym (ap (λ z. z.phase) at) ∙ is in cc
      by (inr at) = let differ : phase.Ended ≡ phase.Cancelling e = sym (ap (λ z. z.phase) at) ∙ is in cc

  beyond-first : (p : Pid) → length s.homes ≤ p.0 → s.process p.0 ≡ no_process
  beyond-first p beyond = ap (λ f. f p.0) process ∙ no-at n p.0 (by (nat_lt p.0 n) refl)
    where
      by : (b : Bool) → nat_lt p.0 n ≡ b → b ≡ false
      by true is = let below : p.0 < n = (Decides-ltb p.0 n).0 is in absurd (omega arith)
      by false is = refl

  none-in : (r : Report) → Contains [] r → ⊥
  none-in r (i, below, same) = absurd (omega arith)

  first-consistent : IsConsistent s
  first-consistent =
      record {
        kept =
            record {
              made = made;
              unmade = unmade-first;
              held = record { held = held-first; carried = λ f e n c. absurd (no-message f c.message c.there) };
              apart = λ f m is. absurd (no-message f m is);
              others = λ f m is. absurd (no-message f m is);
              waiting = λ f m is. absurd (not-waiting f m is);
              resting = λ e f n is. idle-first e;
            };
        noticed =
            record {
              opposite = λ e is. absurd (true≢false (sym is ∙ open-first e));
              outward = λ e is living. absurd (true≢false (sym is ∙ open-first e));
              inward = λ e is living. absurd (true≢false (sym is ∙ open-first e));
            };
        reported =
            reported-counted s (λ e w. counted-none (λ p. ap (reports_on e w) (no-reports p)) (idle-over w (s.ends e) (idle-first e)))
            (λ p r is. absurd (none-in r (subst (λ l. Contains l r) (no-reports p) is)));
        processes = record { cancelling = λ p e is. absurd (no-cancel p e is); ended = λ p is. no-reports p; others = beyond-first };
      }

pub start-idle : (s : Setting) → IsValid s → (e : EndId) → is_idle ((start_state s).ends e) ≡ true
start-idle s valid e =
    let k = wires-well s.homes s.kernels s.wires (nothing_wired s.kernels) valid.homes valid.wires (nothing-well s.kernels (length s.homes)) in
    idle-first (start_state s) (length s.homes) refl refl k.first k.made e

pub consistent_start : (s : Setting) → IsValid s → IsConsistent (start_state s)
consistent_start s valid =
    let k = wires-well s.homes s.kernels s.wires (nothing_wired s.kernels) valid.homes valid.wires (nothing-well s.kernels (length s.homes)) in
    first-consistent (start_state s) (length s.homes) refl refl k.first k.made
