-- Values that a packet brings, while the entry of one end changes, and what each adds to the event.
use Rattle.std.proofs.Common.{◌≡◌, ℕ, ◌+◌, Bool, true, false, List, [], ◌∷◌, arith, ap, sym, subst, ◌∙◌, refl}
use Rattle.std.specs.List.{list_any}
use Rattle.charlotte_packets.specs.declared.picture.MovingPicture.{MovingPicture}
use Rattle.charlotte_calls.specs.declared.names.EndId.{EndId}
use Rattle.charlotte_packets.specs.declared.work.Work.{Work}
use Rattle.end_table.proofs.EndEq.{end_eq-same}
use Rattle.end_table.specs.Entries.{settled}
use Rattle.end_table.specs.Place.{end_eq}
use Rattle.end_table.specs.Table.{TableView, entries, IsHere, Puts}
use Rattle.end_table.specs.declared.entry.Entry.{Entry}
use Rattle.end_table.specs.declared.entry.Entry.TheVariants as entry
use Rattle.end_table.specs.declared.entry.Holder.{Holder}
use Rattle.kernel_step.proofs.EnclosedEnds.{first_false, second_false}
use Rattle.kernel_step.specs.Actions.{here, end_each, ends_idle, ends_idle_here, settle_each, tell_arrivals, tells_arrival, leaves}
use Rattle.kernel_step.specs.Progress.{Progress, progress, keeps, HasRoom, AddsAtMost}
use Rattle.kernel_step.specs.Room.{one_packet, packets}
use Rattle.kernel_step.specs.Rows.{ends_in, pass_each, end_arrivals}
use Rattle.move_core.specs.Arriving.{AreAway, AreApart}

module _ (old new : TableView) (e : EndId) (x : Entry) (puts : Puts old new e x) where
  -- ends stay away where the entry of one of them becomes none that is here
  pub AreAway-left : (ms : List MovingPicture) → (IsHere x → ⊥) → AreAway old ms → AreAway new ms
  AreAway-left [] gone away = tt
  AreAway-left (m ∷ ms) gone away = (puts.places m.end away.0, by (end_eq e m.end) refl, AreAway-left ms gone away.2)
    where
      by : (b : Bool) → end_eq e m.end ≡ b → IsHere (entries new m.end) → ⊥
      by true same h = gone (subst IsHere (ap (entries new) (sym (end_eq-same e m.end same)) ∙ puts.at) h)
      by false apart h = away.1 (subst IsHere (puts.others m.end apart) h)

  -- and where the end is none of them
  pub AreAway-others : (ms : List MovingPicture) → list_any (end_eq e) (ends_in ms) ≡ false → AreAway old ms → AreAway new ms
  AreAway-others [] none away = tt
  AreAway-others (m ∷ ms) none away =
      (puts.places m.end away.0, (λ h. away.1 (subst IsHere (puts.others m.end (first_false _ _ none)) h)), AreAway-others ms (second_false _ _ none) away.2)

  -- and where the end was here before
  pub AreAway-kept : (ms : List MovingPicture) → IsHere (entries old e) → AreAway old ms → AreAway new ms
  AreAway-kept [] was away = tt
  AreAway-kept (m ∷ ms) was away = (puts.places m.end away.0, by (end_eq e m.end) refl, AreAway-kept ms was away.2)
    where
      by : (b : Bool) → end_eq e m.end ≡ b → IsHere (entries new m.end) → ⊥
      by true same h = away.1 (subst IsHere (ap (entries old) (end_eq-same e m.end same)) was)
      by false apart h = away.1 (subst IsHere (puts.others m.end apart) h)

-- the values of a cargo of which the first was taken out are still away and apart
pub AreAway-first : (t : TableView) (m : MovingPicture) (ms all : List MovingPicture) → all ≡ m ∷ ms → AreAway t all → AreAway t (m ∷ ms)
AreAway-first t m ms all e away = subst (AreAway t) e away

pub AreApart-first : (m : MovingPicture) (ms all : List MovingPicture) → all ≡ m ∷ ms → AreApart all → AreApart (m ∷ ms)
AreApart-first m ms all e apart = subst AreApart e apart

-- the first value of some settles, and then the others
pub settle_each-more : (h : Holder) (m : MovingPicture) (ms all : List MovingPicture) (before after : Progress) → all ≡ m ∷ ms → after ≡ keeps m.end (entry.Here (settled h m)) before → settle_each h ms after ≡ settle_each h all before
unfolding settle_each
settle_each-more h m ms all before after e same =
    ap (λ d. settle_each h ms d) same ∙ ap (λ ys. settle_each h ys before) (sym e)

-- so for what they tell
pub tell_arrivals-more : (k : ℕ) (m : MovingPicture) (ms all : List MovingPicture) (before after : Progress) → all ≡ m ∷ ms → after ≡ tells_arrival k m before → tell_arrivals k ms after ≡ tell_arrivals k all before
unfolding tell_arrivals
tell_arrivals-more k m ms all before after e same =
    ap (λ d. tell_arrivals k ms d) same ∙ ap (λ ys. tell_arrivals k ys before) (sym e)

-- for those that leave again
pub pass_each-more : (at : ℕ) (m : MovingPicture) (ms all : List MovingPicture) (before after : Progress) → all ≡ m ∷ ms → after ≡ leaves at m before → pass_each at ms after ≡ pass_each at all before
unfolding pass_each
pass_each-more at m ms all before after e same =
    ap (λ d. pass_each at ms d) same ∙ ap (λ ys. pass_each at ys before) (sym e)

-- for those that end
pub end_arrivals-more : (k : ℕ) (m : MovingPicture) (ms all : List MovingPicture) (before after : Progress) → all ≡ m ∷ ms → after ≡ ends_idle k m before → end_arrivals k ms after ≡ end_arrivals k all before
unfolding end_arrivals
end_arrivals-more k m ms all before after e same =
    ap (λ d. end_arrivals k ms d) same ∙ ap (λ ys. end_arrivals k ys before) (sym e)

-- and for enclosed ends that end
pub end_each-more : (k : ℕ) (x : EndId) (xs all : List EndId) (t0 : EndId → Entry) (out : Work) (after : Progress) → all ≡ x ∷ xs → after ≡ ends_idle_here k (here (t0 x)) (progress t0 out) → end_each k xs after ≡ end_each k all (progress t0 out)
unfolding end_each progress
end_each-more k x xs all t0 out after e same =
    ap (λ d. end_each k xs d) same ∙ ap (λ ys. end_each k ys (progress t0 out)) (sym e)

-- the room that is left after the first of some parts
pub HasRoom-others : (n m : ℕ) (old mid : Work) → m ≡ n + 1 → HasRoom (packets m) old → AddsAtMost one_packet old mid → HasRoom (packets n) mid
HasRoom-others n m old mid e room adds =
    record {
      packets = omega (arith, e, room.packets, adds.packets, adds.packets_in_place);
      reports = omega (arith, room.reports, adds.reports, adds.reports_in_place);
      answers = omega (arith, room.answers, adds.answers, adds.answers_in_place);
      steps = omega (arith, room.steps, adds.steps, adds.steps_in_place);
    }
