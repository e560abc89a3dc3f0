-- The ends that a packet carries fly there and have no other fields.
use Rattle.std.proofs.Common.{◌≡◌, ◌⊎◌, inl, inr, ℕ, List, Some, None, Contains, refl, sym, ap, subst, ◌∙◌}
use Rattle.charlotte_calls.specs.declared.names.EndId.{EndId}
use Rattle.charlotte_calls.specs.declared.names.Pid.{Pid}
use Rattle.charlotte_packets.specs.declared.picture.MovingPicture.{MovingPicture}
use Rattle.charlotte_packets.specs.declared.picture.Picture.{Picture}
use Rattle.end_table.specs.declared.entry.Entry.{Entry}
use Rattle.end_table.specs.declared.entry.Entry.TheVariants as entry
use Rattle.kernel_step.proofs.Folds.{AreDifferent}
use Rattle.kernel_step.specs.Rows.{ends_in}
use Rattle.service_step.specs.State.{State}
use Rattle.theorem_effects.proofs.Packets.{left_or_taken}
use Rattle.theorem_effects.specs.Change.{Change, Changes}
use Rattle.theorem_effects.specs.Under.{IsLeft}
use Rattle.theorem_ends_arrived.proofs.Coming.{end-alone, flies, living, no-mark, not-here}
use Rattle.theorem_ends_arrived.proofs.Values.{same-value}
use Rattle.theorem_ends_arrived.specs.Arrived.{IsAmong, IsLaden}
use Rattle.theorem_meaning.specs.Fields.{At, Flying, HasFields, Stand, value_of}
use Rattle.theorem_meaning.specs.Packets.{Links, values_of}
use Rattle.theorem_meaning.specs.StandsFor.{entry_at}
use Rattle.theorem_take_want.proofs.Alike.{some-same}
use Rattle.trace_landing.specs.Landing.{AreCarried}

module _ {i : ℕ} {w v : Links} {c : Change} {b : Changes w c v} {from : ℕ} {q : Picture} {s : State} {f : EndId} (ready : IsLaden i b from q s f) (different : AreDifferent (ends_in (values_of q.what))) where
  abbrev any : Pid
  any = record { 0 = 0 }

  abbrev ms : List MovingPicture
  ms = values_of q.what

  -- a packet that is left carries none of them
  pub not-left : (e : EndId) (a : IsAmong ms e) (m : MovingPicture) → m.end ≡ e → IsLeft b (λ z. Contains (values_of z) m) → ⊥
  not-left e a m its left = end-alone ready any e a (record { from = left.from; to = left.to; packet = left.packet; there = left.there; is = record { value = m; there = left.is; of = its } })

  alone : (e : EndId) (a : IsAmong ms e) (at : Stand) (m : MovingPicture) → HasFields w e at m → (at ≡ Flying) × (m ≡ a.value)
  alone e a (At j) m has = by (entry_at w j e) refl has
    where
      by : (y : Entry) → entry_at w j e ≡ y → value_of y ≡ Some m → (At j ≡ Flying) × (m ≡ a.value)
      by entry.Nothing was none = absurd (let differ : None ≡ Some m = none in cc)
      by (entry.Left to hops) was none = absurd (let differ : None ≡ Some m = none in cc)
      by (entry.Here o) was some = absurd (not-here ready any e a j o was)
      by (entry.Destroyed l) was some = absurd (no-mark ready any e a j l was)
  alone e a Flying m has = by (left_or_taken b has.0.from has.0.to has.0.packet has.0.there)
    where
      by : Contains (b.left has.0.from has.0.to) has.0.packet ⊎ ((c.taken ≡ Some (has.0.from, has.0.packet)) × (has.0.to ≡ c.kernel)) → (Flying ≡ Flying) × (m ≡ a.value)
      by (inl left) = absurd (not-left e a m has.1 (record { from = has.0.from; to = has.0.to; packet = has.0.packet; there = left; is = has.0.is }))
      by (inr taken) = (
        refl,
        same-value ms m a.value different
            (subst (λ (z : Picture). Contains (values_of z.what) m) (ap (λ (z : ℕ × Picture). z.1) (some-same {X = ℕ × Picture} (has.0.from, has.0.packet) (from, q) (sym taken.0 ∙ ready.taken))) has.0.is)
            a.there (has.1 ∙ sym a.of),
      )

  pub are-carried : AreCarried w s.ends (values_of q.what)
  are-carried =
      record {
        alone = alone;
        lives = λ e a. living ready any e a;
        knows = λ e a. (ready.right.counted e).dead Flying a.value (living ready any e a) (flies ready any e a);
      }
