-- What an event by which ends move leaves of one entry, and what plain packets are not.
use Rattle.std.proofs.Common.{◌≡◌, ◌⊎◌, inl, inr, ℕ, ◌<◌, ◌≤◌, Some, None, refl, sym, ap, subst, ◌∙◌, arith}
use Rattle.charlotte_calls.specs.declared.names.EndId.{EndId}
use Rattle.charlotte_packets.specs.declared.picture.MovingPicture.{MovingPicture}
use Rattle.charlotte_packets.specs.declared.picture.PictureWhat.{PictureWhat}
use Rattle.charlotte_packets.specs.declared.picture.PictureWhat.TheVariants as packet
use Rattle.end_table.specs.declared.entry.Entry.{Entry}
use Rattle.end_table.specs.declared.entry.Entry.TheVariants as entry
use Rattle.end_table.specs.declared.entry.HereView.{HereView}
use Rattle.theorem_effects.specs.Change.{Change}
use Rattle.theorem_meaning.specs.Fields.{value_of}
use Rattle.trace_hearing.proofs.Alike.{some-same}
use Rattle.trace_hearing.specs.Hearing.{IsRaised}
use Rattle.trace_meaning.specs.Words.{IsForgetOf, IsGoneFrom, IsGoneSeen, IsKnownOf}
use Rattle.trace_moving.specs.Moving.{IsPlain, IsStaying, IsStill}

-- ---- plain packets

pub plain-known : (q : PictureWhat) → IsPlain q → (e : EndId) (h : ℕ) → IsKnownOf e h q → ⊥
plain-known (packet.Known to hops) is e h its = is
plain-known _ is e h its = its

pub plain-forget : (q : PictureWhat) → IsPlain q → (e : EndId) (h : ℕ) → IsForgetOf e h q → ⊥
plain-forget (packet.Forget to hops) is e h its = is
plain-forget _ is e h its = its

pub plain-seen : (q : PictureWhat) → IsPlain q → (e : EndId) → IsGoneSeen e q → ⊥
plain-seen (packet.GoneSeen to) is e its = is
plain-seen _ is e its = its

pub plain-gone : (q : PictureWhat) → IsPlain q → (e : EndId) (j : ℕ) → IsGoneFrom e j q → ⊥
plain-gone (packet.Gone to at) is e j its = is
plain-gone _ is e j its = its

-- ---- values

-- fields that an end has then come of fields that it had
pub record IsComeOf (c : Change) (e : EndId) (l m : MovingPicture) : Type 0 where
  pub hint : (l.hint ≡ m.hint) ⊎ IsRaised c e m l
  pub want : (l.want ≡ m.want) ⊎ (l.want ≡ 0)
  pub served : m.served ≤ l.served
  pub hops : m.hops ≤ l.hops

pub same-come : (c : Change) (e : EndId) (m : MovingPicture) → IsComeOf c e m m
same-come c e m = record { hint = inl refl; want = inl refl; served = omega arith; hops = omega arith }

staying-come : (c : Change) (k : ℕ) (e : EndId) (m l : MovingPicture) → IsStaying c k e m l → IsComeOf c e l m
staying-come c k e m l is =
    record { hint = hint is.hint; want = is.want; served = is.served; hops = let same : l.hops ≡ m.hops = ap (λ (z : MovingPicture). z.hops) is.like in omega (arith, same) }
  where
    hint : {X : Type 0} → (l.hint ≡ m.hint) ⊎ (IsRaised c e m l × X) → (l.hint ≡ m.hint) ⊎ IsRaised c e m l
    hint (inl same) = inl same
    hint (inr raised) = inr raised.0

-- a hint only rises
pub come-hint : (c : Change) (e : EndId) (l m : MovingPicture) → IsComeOf c e l m → m.hint.1 ≤ l.hint.1
come-hint c e l m is = by is.hint
  where
    by : (l.hint ≡ m.hint) ⊎ IsRaised c e m l → m.hint.1 ≤ l.hint.1
    by (inl same) = let hops : l.hint.1 ≡ m.hint.1 = ap (λ (z : ℕ × ℕ). z.1) same in omega (arith, hops)
    by (inr raised) = let more : m.hint.1 < l.hint.1 = raised.1 in omega (arith, more)

-- ---- entries

pub still-same : (c : Change) (k : ℕ) (e : EndId) (y : Entry) → IsStill c k e y y
still-same c k e entry.Nothing = tt
still-same c k e (entry.Here v) = record { like = refl; hint = inl refl; want = inl refl; served = omega arith }
still-same c k e (entry.Left to hops) = (refl, refl)
still-same c k e (entry.Destroyed m) = refl

pub value-was : (c : Change) (k : ℕ) (e : EndId) (y z : Entry) (l : MovingPicture) → IsStill c k e y z → value_of z ≡ Some l → (m : MovingPicture) × (value_of y ≡ Some m) × IsComeOf c e l m
value-was c k e (entry.Here v) (entry.Here o) l like has = (v.value, refl, subst (λ z. IsComeOf c e z v.value) (some-same o.value l has) (staying-come c k e v.value o.value like))
value-was c k e (entry.Destroyed m) (entry.Destroyed o) l like has = (m, refl, subst (λ z. IsComeOf c e z m) (sym like ∙ some-same o l has) (same-come c e m))
value-was c k e _ entry.Nothing l like has = absurd (let none : None ≡ Some l = has in cc)
value-was c k e _ (entry.Left to hops) l like has = absurd (let none : None ≡ Some l = has in cc)
value-was c k e _ _ l like has = absurd like

pub value-now : (c : Change) (k : ℕ) (e : EndId) (y z : Entry) (m : MovingPicture) → IsStill c k e y z → value_of y ≡ Some m → (l : MovingPicture) × (value_of z ≡ Some l) × (l.trail ≡ m.trail)
value-now c k e (entry.Here v) (entry.Here o) m like has = (o.value, refl, ap (λ (z : MovingPicture). z.trail) (like.like) ∙ ap (λ (z : MovingPicture). z.trail) (some-same v.value m has))
value-now c k e (entry.Destroyed d) (entry.Destroyed o) m like has = (o, refl, ap (λ (z : MovingPicture). z.trail) (like ∙ some-same d m has))
value-now c k e entry.Nothing _ m like has = absurd (let none : None ≡ Some m = has in cc)
value-now c k e (entry.Left to hops) _ m like has = absurd (let none : None ≡ Some m = has in cc)
value-now c k e _ _ m like has = absurd like
