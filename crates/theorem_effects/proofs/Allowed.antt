-- What each allowed event does in a world of which all is true that is true of every world of a run.
use Rattle.std.proofs.Common.{◌≡◌, ◌⊎◌, inl, inr, ℕ, ◌+◌, ◌<◌, ◌≤◌, Bool, true, false, nat_le, ◌||◌, List, [], ◌∷◌, length, map, Contains, None, refl, sym, ap, subst, ◌∙◌, max, arith, true≢false}
use Rattle.std.proofs.lemmas.Bool.Decides.{leb_tells}
use Rattle.std.proofs.lemmas.List.Elements.{All-contains}
use Rattle.std.specs.List.{list_any}
use Rattle.charlotte_packets.specs.Packets.{is_addressed}
use Rattle.charlotte_calls.specs.declared.calls.Answer.{Answer}
use Rattle.charlotte_calls.specs.declared.calls.Call.{Call}
use Rattle.charlotte_calls.specs.declared.calls.Report.{Report}
use Rattle.charlotte_calls.specs.declared.names.EndId.{EndId}
use Rattle.charlotte_calls.specs.declared.names.Pid.{Pid}
use Rattle.charlotte_packets.specs.declared.picture.MovingPicture.{MovingPicture}
use Rattle.charlotte_packets.specs.declared.picture.Picture.{Picture}
use Rattle.charlotte_packets.specs.declared.picture.PictureWhat.{PictureWhat}
use Rattle.charlotte_packets.specs.declared.picture.PictureWhat.TheVariants as packet
use Rattle.end_table.proofs.EndEq.{end_eq-refl}
use Rattle.end_table.specs.Place.{end_eq}
use Rattle.kernel_effects.specs.Calls.{act_effect}
use Rattle.kernel_effects.specs.Effect.{Effect}
use Rattle.kernel_effects.specs.Rows.{row_effect, values_in}
use Rattle.kernel_outcomes.proofs.Events.{take-gives}
use Rattle.kernel_outcomes.specs.Closing.{AreOldest, AtMostOne, EffectGives}
use Rattle.kernel_sound.specs.Sound.{IsSound}
use Rattle.kernel_step.proofs.Folds.{AreDifferent}
use Rattle.kernel_step.specs.Calls.{IsCallWith, refusal}
use Rattle.kernel_step.specs.Kernel.{has_report, is_waiting, next_stamp, process_of, take_step}
use Rattle.kernel_step.specs.Rows.{ends_in}
use Rattle.kernel_step.specs.declared.phase.Phase.{Phase as KernelPhase}
use Rattle.kernel_step.specs.declared.phase.Phase.TheVariants as kernel_phase
use Rattle.kernel_world.specs.World.{World, Calls, Takes}
use Rattle.service_step.specs.Ends.{is_living}
use Rattle.service_step.specs.State.{State}
use Rattle.service_step.specs.declared.state.End.{End}
use Rattle.service_step.specs.declared.state.Phase.TheVariants as phase
use Rattle.theorem_meaning.proofs.Plain.{at_most_one}
use Rattle.theorem_meaning.proofs.Sums.{over-least}
use Rattle.theorem_meaning.specs.Invariant.{AreNamed, Invariant}
use Rattle.theorem_meaning.specs.Packets.{Links, links_of, one_if, over_kernels, sum_in, sum_over, values_for, values_of}
use Rattle.theorem_meaning.specs.StandsFor.{IsProcessOf, home_of, service_phase, standing}
use Rattle.theorem_effects.specs.Change.{Happens}
use Rattle.theorem_effects.specs.Events.{calling, taking}
use Rattle.theorem_effects.proofs.Happens.{performs-happens, takes-happens}
use Rattle.theorem_effects.proofs.Lists.{first, first_or_later, none-there}

-- ---- ends that packets bring

-- a packet counts in the sum over all
sum_in-least : (f : PictureWhat → ℕ) (ps : List Picture) (q : Picture) → Contains ps q → f q.what ≤ sum_in f ps
sum_in-least f [] q has = absurd (none-there q has)
sum_in-least f (p ∷ ps) q has = by (sum_in-least f ps q) (first_or_later p ps q has)
  where
    by : (Contains ps q → f q.what ≤ sum_in f ps) → (p ≡ q) ⊎ Contains ps q → f q.what ≤ f p.what + sum_in f ps
    by rest (inl is) = let same : f p.what ≡ f q.what = ap (λ (z : Picture). f z.what) is in omega (arith, same)
    by rest (inr there) = let least : f q.what ≤ sum_in f ps = rest there in omega (arith, least)

pub sum_over-least : (f : PictureWhat → ℕ) (w : Links) (from to : ℕ) (q : Picture) → from < 8 → to < 8 → Contains (w.packets from to) q → f q.what ≤ sum_over f w
unfolding sum_over
sum_over-least f w from to q a b has =
    let here : f q.what ≤ sum_in f (w.packets from to) = sum_in-least f (w.packets from to) q has in
    let row : sum_in f (w.packets from to) ≤ over_kernels (λ j. sum_in f (w.packets from j)) = over-least (λ j. sum_in f (w.packets from j)) to b in
    let all : over_kernels (λ j. sum_in f (w.packets from j)) ≤ over_kernels (λ i. over_kernels (λ j. sum_in f (w.packets i j))) = over-least (λ i. over_kernels (λ j. sum_in f (w.packets i j))) from a in
    omega (arith, here, row, all)

-- an end among those of some values counts
values-some : (e : EndId) (ms : List MovingPicture) → list_any (end_eq e) (ends_in ms) ≡ true → 1 ≤ values_for e ms
values-some e [] some = absurd (true≢false (sym some))
values-some e (m ∷ ms) some = by (end_eq e m.end) some (values-some e ms)
  where
    by : (b : Bool) → (b || list_any (end_eq e) (ends_in ms)) ≡ true → (list_any (end_eq e) (ends_in ms) ≡ true → 1 ≤ values_for e ms) → 1 ≤ one_if b + values_for e ms
    by true some rest = omega arith
    by false some rest = let least : 1 ≤ values_for e ms = rest some in omega (arith, least)

-- values of which no end has two are of different ends
pub values-different : (ms : List MovingPicture) → ((e : EndId) → values_for e ms ≤ 1) → AreDifferent (ends_in ms)
values-different [] few = tt
values-different (m ∷ ms) few = (by (list_any (end_eq m.end) (ends_in ms)) refl, values-different ms (λ e. let more : one_if (end_eq e m.end) + values_for e ms ≤ 1 = few e in omega (arith, more)))
  where
    by : (b : Bool) → list_any (end_eq m.end) (ends_in ms) ≡ b → b ≡ false
    by true some =
        let own : one_if (end_eq m.end m.end) ≡ 1 = ap one_if (end_eq-refl m.end) in
        let other : 1 ≤ values_for m.end ms = values-some m.end ms some in
        let one : one_if (end_eq m.end m.end) + values_for m.end ms ≤ 1 = few m.end in
        absurd (omega (arith, own, other, one))
    by false none = refl

pub same-values : (q : PictureWhat) → values_in q ≡ values_of q
same-values (packet.Parcel to n w at hops bytes ms) = refl
same-values (packet.Back to n ms) = refl
same-values _ = refl

-- packets go between kernels that there are
pub named-between : {n : ℕ} {w : Links} {t : EndId → End} → AreNamed n w t → (from to : ℕ) (q : Picture) → Contains (w.packets from to) q → (from < n) × (to < n)
named-between {n} {w} named from to q has = (by from (λ far. named.lists from to (inl far)) (leb_tells n from), by to (λ far. named.lists from to (inr far)) (leb_tells n to))
  where
    by : (a : ℕ) → (n ≤ a → w.packets from to ≡ []) → ((nat_le n a ≡ true) × (n ≤ a)) ⊎ ((nat_le n a ≡ false) × (a < n)) → a < n
    by a none (inl far) = absurd (none-there q (subst (λ l. Contains l q) (none far.1) has))
    by a none (inr near) = near.1

module _ {i : ℕ} {w : World} {s : State} (is : Invariant i w s) where
  -- packets go between kernels that there are
  pub between : (from to : ℕ) (q : Picture) → Contains (w.packets from to) q → (from < length s.made) × (to < length s.made)
  between = named-between is.links.named

  -- the ends that a packet brings are different
  pub brings-different : (from to : ℕ) (q : Picture) → Contains (w.packets from to) q → AreDifferent (ends_in (values_in q.what))
  unfolding standing
  brings-different from to q has = subst (λ ms. AreDifferent (ends_in ms)) (sym (same-values q.what)) (values-different (values_of q.what) few)
    where
      few : (e : EndId) → values_for e (values_of q.what) ≤ 1
      few e =
          let near = between from to q has in
          let here : values_for e (values_of q.what) ≤ sum_over (λ z. values_for e (values_of z)) (links_of w)
          = sum_over-least (λ z. values_for e (values_of z)) (links_of w) from to q (omega (arith, near.0, is.setting.few)) (omega (arith, near.1, is.setting.few)) has in
          let once : standing (links_of w) e ≡ one_if (is_living (s.ends e).place) = is.stands.links.once e in
          let one : one_if (is_living (s.ends e).place) ≤ 1 = at_most_one (is_living (s.ends e).place) in
          omega (arith, here, once, one)

  -- the table of each kernel is sound by its own number
  sound-at : (k : ℕ) → IsSound (w.kernel k).number (w.kernel k).made (length s.homes) (w.kernel k).table
  sound-at k = subst (λ n. IsSound n (w.kernel k).made (length s.homes) (w.kernel k).table) (sym (is.setting.numbers k)) (is.setting.sound k)

  addressed-at : (from k : ℕ) (q : Picture) → Contains (w.packets from k) q → is_addressed q.what (w.kernel k).kernels ≡ true
  addressed-at from k q has =
      ap (is_addressed q.what) (is.setting.kernels k) ∙ All-contains (λ z. is_addressed z.what (length s.made) ≡ true) (w.packets from k) q (is.links.named.addressed from k) has

  -- a process that waits has no reports, so the first that it gets is its oldest
  pub are-oldest : (k : ℕ) (p : Pid) (rs : List Report) → p.0 < length s.homes → home_of s p ≡ k → AreOldest ((w.kernel k).process p.0) rs
  are-oldest k p [] below home = tt
  are-oldest k p (r ∷ rs) below home = λ waits. sym stood.reports ∙ is.waiting p (stood.phase ∙ told ((w.kernel k).process p.0).phase waits)
    where
      stood : IsProcessOf ((w.kernel k).process p.0) (s.process p.0)
      stood = subst (λ j. IsProcessOf ((w.kernel j).process p.0) (s.process p.0)) home (is.stands.processes p below)

      told : (x : KernelPhase) → is_waiting x ≡ true → service_phase x ≡ phase.Waiting
      told kernel_phase.Running waits = absurd (true≢false (sym waits))
      told kernel_phase.Waiting waits = refl
      told (kernel_phase.Cancelling e) waits = absurd (true≢false (sym waits))
      told kernel_phase.Exited waits = absurd (true≢false (sym waits))

  -- ---- packets

  module _ (k from : ℕ) (q : Picture) (others : List Picture) (there : w.packets from k ≡ q ∷ others) where
    stands-there : Contains (w.packets from k) q
    stands-there = subst (λ l. Contains l q) (sym there) (first q others)

    -- the first packet of a list is taken; of its effect p alone gets answers and reports
    pub takes-allowed : (f : Effect) (p : Pid) (given : List Answer) (rs : List Report) → row_effect k (w.kernel k).made from (w.kernel k).table q.what ≡ f → AtMostOne given → AreOldest ((w.kernel k).process p.0) rs → f.answers ≡ map (λ a. (p, a)) given → f.reports ≡ map (λ r. (p, r)) rs
        → Happens w (Takes k from) (taking w k from q f p given rs)
    takes-allowed f p given rs effect one oldest answers reports =
        takes-happens w k from q others there f p given rs
        (subst (λ g. EffectGives (w.kernel k) p (next_stamp max_stamp) g given rs (take_step (w.kernel k) from q)) same
        (take-gives (length s.homes) (w.kernel k) from q p given rs (sound-at k) (brings-different from k q stands-there) (addressed-at from k q stands-there) one oldest (ap (λ (g : Effect). g.answers) same ∙ answers) (ap (λ (g : Effect). g.reports) same ∙ reports)))
      where
        max_stamp : ℕ
        max_stamp = max (w.kernel k).stamp q.stamp

        same : row_effect (w.kernel k).number (w.kernel k).made from (w.kernel k).table q.what ≡ f
        same = ap (λ n. row_effect n (w.kernel k).made from (w.kernel k).table q.what) (is.setting.numbers k) ∙ effect

  -- ---- calls

  module _ (k : ℕ) (p : Pid) (c : Call) (mine : List EndId) where
    -- a call that is not refused
    pub performs-allowed : (f : Effect) → refusal p (w.kernel k).table (w.kernel k).made mine (has_report (process_of p (w.kernel k))) c ≡ None → IsCallWith p (w.kernel k).table mine c
        → act_effect p k (w.kernel k).made mine (w.kernel k).table c ≡ f → Happens w (Calls k p c mine) (calling w k p c f)
    performs-allowed f granted with_ends effect =
        performs-happens w k p c mine (length s.homes) f (sound-at k) granted with_ends
        (ap (λ n. act_effect p n (w.kernel k).made mine (w.kernel k).table c) (is.setting.numbers k) ∙ effect)
