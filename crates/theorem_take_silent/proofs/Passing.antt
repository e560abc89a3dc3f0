-- A quiet event that says nothing new: what was heard was heard before, and what is asked was asked before.
use Rattle.std.proofs.Common.{◌≡◌, ◌≢◌, ◌⊎◌, inl, inr, ℕ, ◌+◌, ◌<◌, true, false, nat_eq, length, Some, refl, sym, ap, subst, ◌∙◌, true≢false}
use Rattle.std.proofs.lemmas.Bool.Decides.{eqb_tells}
use Rattle.charlotte_calls.specs.Names.{opposite}
use Rattle.charlotte_calls.specs.declared.names.EndId.{EndId}
use Rattle.charlotte_packets.specs.declared.picture.MovingPicture.{MovingPicture}
use Rattle.charlotte_packets.specs.declared.picture.PictureWhat.{PictureWhat}
use Rattle.charlotte_packets.specs.declared.picture.PictureWhat.TheVariants as packet
use Rattle.end_table.specs.Table.{IsHereAnd}
use Rattle.service_lawful.specs.Consistent.{is_open}
use Rattle.service_step.specs.State.{State}
use Rattle.theorem_effects.proofs.Aside.{sent-each}
use Rattle.theorem_effects.proofs.Packets.{left-was, taken-was, under_way-after}
use Rattle.theorem_effects.specs.Change.{Change, Changes}
use Rattle.theorem_effects.specs.Under.{IsLeft, IsSent, IsTaken}
use Rattle.theorem_effects.specs.Fields.{Stand, At, Flying, HasFields, IsAsking, IsHeard, IsNews, IsUnserved, IsUnwantOf, value_of}
use Rattle.theorem_effects.specs.Invariant.{AreRight, AreWanted}
use Rattle.theorem_effects.specs.Packets.{IsUnderWay, Links}
use Rattle.theorem_effects.specs.StandsFor.{entry_at}
use Rattle.theorem_take_silent.specs.Quiet.{IsAlike, IsHintOf, IsPassed, IsPassing, IsQuiet, tells_place}
use Rattle.theorem_take_silent.proofs.Alike.{some-same}
use Rattle.theorem_take_silent.proofs.Clauses.{fields-was, flying-was, is-still, right-still, withdrawing-still}

news-tells : (t : EndId) (j h : ℕ) (q : PictureWhat) → IsNews t j h q → tells_place q ≡ true
news-tells t j h (packet.Want to w at hops) is = refl
news-tells t j h (packet.Unwant to w at hops) is = refl
news-tells t j h (packet.Unwanted to w at hops) is = refl
news-tells t j h (packet.Parcel to n w at hops bytes ms) is = refl
news-tells t j h (packet.Taken to n at hops) is = refl
news-tells t j h (packet.Moved to at hops) is = refl
news-tells t j h _ is = absurd is

asking-tells : (t : EndId) (n j h : ℕ) (q : PictureWhat) → IsAsking t n j h q → tells_place q ≡ true
asking-tells t n j h (packet.Want to w at hops) is = refl
asking-tells t n j h (packet.Unwant to w at hops) is = refl
asking-tells t n j h _ is = absurd is

unwant-tells : (t : EndId) (n : ℕ) (q : PictureWhat) → IsUnwantOf t n q → tells_place q ≡ true
unwant-tells t n (packet.Unwant to w at hops) is = refl
unwant-tells t n _ is = absurd is

module _ {w u : Links} {c : Change} (b : Changes w c u) (s : State) (quiet : IsQuiet (length s.made) s.ends w c) (passing : IsPassing s.ends w c) where
  -- what tells of a place was under way
  told-was : (P : PictureWhat → Type 0) → ((q : PictureWhat) → P q → tells_place q ≡ true) → IsUnderWay u P → IsUnderWay w P
  told-was P tells is = by (under_way-after b P is)
    where
      passed : (what : PictureWhat) → P what → IsPassed c what → IsUnderWay w P
      passed what is (inl silent) = absurd (true≢false (sym (tells what is) ∙ silent))
      passed what is (inr taken) = taken-was b P (record { from = taken.from; packet = taken.packet; taken = taken.taken; is = subst P (sym taken.is) is })

      by : IsLeft b P ⊎ IsSent c P → IsUnderWay w P
      by (inl left) = left-was b P left
      by (inr sent) = passed sent.what sent.is (sent-each (λ to what. IsPassed c what) c.packets sent.to sent.what passing.sent sent.there)

  -- the hint that an end has
  hint-was : (e : EndId) (at : Stand) (l : MovingPicture) → HasFields u e at l → (m : MovingPicture) × HasFields w e at m × IsAlike m l × IsHintOf s.ends c e m l
  hint-was e Flying l is = (l, flying-was b s quiet e l is, refl, inl refl)
  hint-was e (At k) l is = by (eqb_tells k c.kernel)
    where
      m : (m : MovingPicture) × HasFields w e (At k) m × IsAlike m l
      m = fields-was b s quiet e (At k) l is

      by : ((nat_eq k c.kernel ≡ true) × (k ≡ c.kernel)) ⊎ ((nat_eq k c.kernel ≡ false) × (k ≢ c.kernel)) → (m : MovingPicture) × HasFields w e (At k) m × IsAlike m l × IsHintOf s.ends c e m l
      by (inl at) = (
        m.0,
        m.1,
        m.2,
        passing.hints e m.0 l (subst (λ j. value_of (w.entry j e) ≡ Some m.0) at.1 m.1) (ap value_of (sym (b.entry e)) ∙ subst (λ j. value_of (u.entry j e) ≡ Some l) at.1 is),
      )
      by (inr at) = (m.0, m.1, m.2, inl (ap (λ (z : MovingPicture). z.hint) (some-same l m.0 (sym is ∙ ap value_of (b.others k e at.0) ∙ m.1))))

  heard-was : (e : EndId) (j h : ℕ) → IsHeard u e j h → IsHeard w e j h
  heard-was e j h (inr is) = inr (told-was (IsNews (opposite e) j h) (news-tells (opposite e) j h) is)
  heard-was e j h (inl x) = let m = hint-was (opposite e) x.stand x.fields x.are in by m.0 m.1 m.3
    where
      by : (m : MovingPicture) → HasFields w (opposite e) x.stand m → IsHintOf s.ends c (opposite e) m x.fields → IsHeard w e j h
      by m has (inl same) = inl (record { stand = x.stand; fields = m; are = has; hint = sym same ∙ x.hint })
      by m has (inr told) = inr (taken-was b (IsNews (opposite e) j h) (subst (λ (p : ℕ × ℕ). IsTaken c (IsNews (opposite e) p.0 p.1)) x.hint told.0))

  -- what an open end is asked for
  unserved-was : (e : EndId) (m l : MovingPicture) (r j h : ℕ) → is_open (s.ends e) ≡ true → IsAlike m l → IsHintOf s.ends c e m l → IsUnserved u e l r j h → IsUnserved w e m r j h
  unserved-was e m l r j h open_is like (inl same) (inl is) = inl (sym (ap (λ (z : MovingPicture). z.want) like) ∙ is.0, is.1, sym same ∙ is.2)
  unserved-was e m l r j h open_is like (inr told) (inl is) = absurd (true≢false (sym open_is ∙ told.1))
  unserved-was e m l r j h open_is like hint (inr is) =
      inr (subst (λ z. z < r) (ap (λ (z : MovingPicture). z.served) like) is.0, told-was (IsAsking e r j h) (asking-tells e r j h) is.1)

  wanted-still : (e : EndId) → AreWanted w s.ends e → AreWanted u s.ends e
  wanted-still e is =
      record {
        kept = λ at l open_is has. let m = hint-was e at l has in kept m.0 l m.2 (is.kept at m.0 open_is m.1);
        same = λ at l r j h o i g open_is has one other. let m = hint-was e at l has in is.same at m.0 r j h o i g open_is m.1 (unserved-was e m.0 l r j h open_is m.2 m.3 one) (unserved-was e m.0 l o i g open_is m.2 m.3 other);
        posted = λ at l r j h open_is has one. let m = hint-was e at l has in is.posted at m.0 r j h open_is m.1 (unserved-was e m.0 l r j h open_is m.2 m.3 one);
        site = λ at l r j h open_is has one living. let m = hint-was e at l has in stands e r j h (is.site at m.0 r j h open_is m.1 (unserved-was e m.0 l r j h open_is m.2 m.3 one) living);
        unwanted = λ at l r open_is has low one.
            let m = hint-was e at l has in
            let k = is.unwanted at m.0 r open_is m.1 (subst (λ z. z < r) (ap (λ (z : MovingPicture). z.served) m.2) low) (told-was (IsUnwantOf e r) (unwant-tells e r) one) in
            (k.0, withdrawing-still b s quiet k.0 (opposite e) k.1);
      }
    where
      kept : (m l : MovingPicture) → IsAlike m l → (m.want ≡ 0) ⊎ (m.served < m.want) → (l.want ≡ 0) ⊎ (l.served < l.want)
      kept m l like (inl none) = inl (ap (λ (z : MovingPicture). z.want) like ∙ none)
      kept m l like (inr low) = inr (subst (λ (z : MovingPicture). z.served < z.want) (sym like) low)

      stands : (e : EndId) (r j h : ℕ) → IsHereAnd (entry_at w j (opposite e)) (λ v. (v.value.hops ≡ h) × (v.value.asked ≡ r)) → IsHereAnd (entry_at u j (opposite e)) (λ v. (v.value.hops ≡ h) × (v.value.asked ≡ r))
      stands e r j h =
          is-still b s quiet j (opposite e) (λ v. (v.value.hops ≡ h) × (v.value.asked ≡ r))
          (λ v x like is. (ap (λ (z : MovingPicture). z.hops) like.1 ∙ is.0, ap (λ (z : MovingPicture). z.asked) like.1 ∙ is.1))

  -- so all clauses on links stay
  pub passing-right : (i : ℕ) → AreRight i w s → AreRight (i + 1) u s
  passing-right i is = right-still b s quiet i is (λ e at m j h has heard. is.honest e at m j h has (heard-was e j h heard)) (λ e. wanted-still e (is.wanted e))
