-- A quiet event by which an end learns: what was heard is no more than true, and what is asked is one receive that stands where each asking says.
use Rattle.std.proofs.Common.{◌≡◌, ◌≢◌, ◌⊎◌, inl, inr, ℕ, ◌+◌, ◌<◌, ◌≤◌, Bool, true, false, nat_eq, ◌&&◌, length, Contains, Some, refl, sym, ap, subst, ◌∙◌, arith, true≢false}
use Rattle.std.proofs.lemmas.Bool.Decides.{eqb_tells}
use Rattle.charlotte_calls.specs.Names.{opposite}
use Rattle.charlotte_calls.specs.declared.names.EndId.{EndId}
use Rattle.charlotte_packets.specs.declared.picture.MovingPicture.{MovingPicture}
use Rattle.charlotte_packets.specs.declared.picture.PictureWhat.{PictureWhat}
use Rattle.charlotte_packets.specs.declared.picture.PictureWhat.TheVariants as packet
use Rattle.end_table.specs.Table.{IsHereAnd}
use Rattle.end_table.specs.declared.entry.Entry.{Entry}
use Rattle.end_table.specs.declared.entry.Entry.TheVariants as entry
use Rattle.end_table.specs.declared.entry.HereView.{HereView}
use Rattle.kernel_step.specs.Actions.{is_withdrawing}
use Rattle.service_lawful.specs.Consistent.{is_open}
use Rattle.service_step.specs.Ends.{is_living, is_posted}
use Rattle.service_step.specs.State.{State}
use Rattle.theorem_effects.proofs.Aside.{sent-each}
use Rattle.theorem_effects.proofs.Packets.{left-was, taken-was, under_way-after}
use Rattle.theorem_effects.specs.Change.{Change, Changes}
use Rattle.theorem_effects.specs.Under.{IsLeft, IsSent, IsTaken}
use Rattle.theorem_effects.proofs.TheoremMeaningEnds.{opposite-twice}
use Rattle.theorem_effects.proofs.Plain.{there-here}
use Rattle.theorem_effects.specs.Fields.{Stand, At, Flying, HasFields, IsAskedAs, IsAsking, IsHeard, IsNews, IsNoMore, IsUnserved, IsUnwantOf, value_of}
use Rattle.theorem_effects.specs.Invariant.{AreRight, AreWanted}
use Rattle.theorem_effects.specs.Packets.{IsUnderWay, Links}
use Rattle.theorem_effects.specs.StandsFor.{AreLinksOf, entry_at}
use Rattle.theorem_take_silent.specs.Learning.{IsLearning, IsLive}
use Rattle.theorem_take_silent.specs.Quiet.{IsAlike, IsQuiet}
use Rattle.theorem_take_silent.proofs.Alike.{some-same}
use Rattle.theorem_take_silent.proofs.Clauses.{fields-was, flying-was, is-still, right-still, withdrawing-still}
use Rattle.theorem_take_silent.proofs.Places.{fields-here, here-living}

-- an end by its opposite
turned : (e x : EndId) → opposite x ≡ opposite e → e ≡ x
turned e x is = sym (opposite-twice e) ∙ sym (ap opposite is) ∙ opposite-twice x

live-news : (k : ℕ) (v : HereView) (t : EndId) (j h : ℕ) (q : PictureWhat) → IsLive k v q → IsNews t j h q → (opposite v.value.end ≡ t) × (k ≡ j) × (v.value.hops ≡ h)
live-news k v t j h (packet.Want to w at hops) live is = (sym live.0 ∙ is.0, sym live.1 ∙ is.1, sym live.2 ∙ is.2)
live-news k v t j h (packet.Unwant to w at hops) live is = (sym live.0 ∙ is.0, sym live.1 ∙ is.1, sym live.2 ∙ is.2)
live-news k v t j h (packet.Moved to at hops) live is = (sym live.0 ∙ is.0, sym live.1 ∙ is.1, sym live.2 ∙ is.2)
live-news k v t j h (packet.Unwanted to w at hops) live is = absurd (true≢false live)
live-news k v t j h (packet.Parcel to n w at hops bytes ms) live is = absurd (true≢false live)
live-news k v t j h (packet.Taken to n at hops) live is = absurd (true≢false live)
live-news k v t j h _ live is = absurd is

live-asking : (k : ℕ) (v : HereView) (t : EndId) (r j h : ℕ) (q : PictureWhat) → IsLive k v q → IsAsking t r j h q → (opposite v.value.end ≡ t) × (k ≡ j) × (v.value.hops ≡ h) × IsAskedAs r v.inward
live-asking k v t r j h (packet.Want to w at hops) live is = (sym live.0 ∙ is.0, sym live.1 ∙ is.2, sym live.2 ∙ is.3, subst (λ z. IsAskedAs z v.inward) is.1 live.3)
live-asking k v t r j h (packet.Unwant to w at hops) live is = (sym live.0 ∙ is.0, sym live.1 ∙ is.2, sym live.2 ∙ is.3, subst (λ z. IsAskedAs z v.inward) is.1 live.3)
live-asking k v t r j h _ live is = absurd is

live-unwant : (k : ℕ) (v : HereView) (t : EndId) (r : ℕ) (q : PictureWhat) → IsLive k v q → IsUnwantOf t r q → (opposite v.value.end ≡ t) × (is_withdrawing v.inward ≡ true)
live-unwant k v t r (packet.Unwant to w at hops) live is = (sym live.0 ∙ is.0, live.4)
live-unwant k v t r _ live is = absurd is

here-there : (x : Entry) (v : HereView) (P : HereView → Type 0) → x ≡ entry.Here v → P v → IsHereAnd x P
here-there x v P is has = subst (λ z. IsHereAnd z P) (sym is) has

module _ {w u : Links} {c : Change} (b : Changes w c u) (s : State) (quiet : IsQuiet (length s.made) s.ends w c) (learning : IsLearning w c) (i : ℕ) (is : AreRight i w s) (links : AreLinksOf w s) (few : length s.made ≤ 8) where
  abbrev k : ℕ
  k = c.kernel

  abbrev v : HereView
  v = learning.view

  fields-of : (at : Stand) (m : MovingPicture) → HasFields w v.value.end at m → (at ≡ At k) × (m ≡ v.value)
  fields-of at m has = fields-here (length s.made) w s.ends few is.named is.marked links.once v.value.end k v at m learning.here has

  living : is_living (s.ends v.value.end).place ≡ true
  living = here-living (length s.made) w s.ends few is.named is.marked links.once v.value.end k v learning.here

  said : (to : ℕ) (what : PictureWhat) → Contains c.packets (to, what) → IsLive k v what
  said to what has = sent-each (λ to what. IsLive k v what) c.packets to what learning.sent has

  abbrev IsRisen : EndId → MovingPicture → MovingPicture → Type 0
  IsRisen e m l = (l.hint ≡ m.hint) ⊎ (IsTaken c (IsNews e l.hint.0 l.hint.1) × (m.hint.1 < l.hint.1))

  hint-was : (e : EndId) (at : Stand) (l : MovingPicture) → HasFields u e at l → (m : MovingPicture) × HasFields w e at m × IsAlike m l × IsRisen e m l
  hint-was e Flying l has = (l, flying-was b s quiet e l has, refl, inl refl)
  hint-was e (At j) l has = by (eqb_tells j k)
    where
      m : (m : MovingPicture) × HasFields w e (At j) m × IsAlike m l
      m = fields-was b s quiet e (At j) l has

      by : ((nat_eq j k ≡ true) × (j ≡ k)) ⊎ ((nat_eq j k ≡ false) × (j ≢ k)) → (m : MovingPicture) × HasFields w e (At j) m × IsAlike m l × IsRisen e m l
      by (inl at) = (
        m.0,
        m.1,
        m.2,
        learning.hints e m.0 l (subst (λ z. value_of (w.entry z e) ≡ Some m.0) at.1 m.1) (ap value_of (sym (b.entry e)) ∙ subst (λ z. value_of (u.entry z e) ≡ Some l) at.1 has),
      )
      by (inr at) = (m.0, m.1, m.2, inl (ap (λ (z : MovingPicture). z.hint) (some-same l m.0 (sym has ∙ ap value_of (b.others j e at.0) ∙ m.1))))

  -- ---- what was heard

  heard-true : (e : EndId) (at : Stand) (m : MovingPicture) (j h : ℕ) → HasFields w e at m → IsHeard u e j h → IsNoMore at m.hops j h
  heard-true e at m j h has (inl x) = let o = hint-was (opposite e) x.stand x.fields x.are in by o.0 o.1 o.3
    where
      by : (o : MovingPicture) → HasFields w (opposite e) x.stand o → IsRisen (opposite e) o x.fields → IsNoMore at m.hops j h
      by o are (inl same) = is.honest e at m j h has (inl (record { stand = x.stand; fields = o; are = are; hint = sym same ∙ x.hint }))
      by o are (inr told) = is.honest e at m j h has (inr (taken-was b (IsNews (opposite e) j h) (subst (λ (p : ℕ × ℕ). IsTaken c (IsNews (opposite e) p.0 p.1)) x.hint told.0)))
  heard-true e at m j h has (inr x) = by (under_way-after b (IsNews (opposite e) j h) x)
    where
      own : (e ≡ v.value.end) → k ≡ j → v.value.hops ≡ h → IsNoMore at m.hops j h
      own end kernel hops =
          let f = fields-of at m (subst (λ z. HasFields w z at m) end has) in
          let count : m.hops ≡ v.value.hops = ap (λ (z : MovingPicture). z.hops) f.1 in
          subst (λ z. IsNoMore z m.hops j h) (sym f.0) (omega (arith, count, hops), λ same. sym kernel)

      by : IsLeft b (IsNews (opposite e) j h) ⊎ IsSent c (IsNews (opposite e) j h) → IsNoMore at m.hops j h
      by (inl left) = is.honest e at m j h has (inr (left-was b (IsNews (opposite e) j h) left))
      by (inr sent) = let live = live-news k v (opposite e) j h sent.what (said sent.to sent.what sent.there) sent.is in own (turned e v.value.end live.0) live.1 live.2

  -- ---- what is asked

  -- the receive r is asked of e, whose fields these are: it was before, and where its end lives that is where it was said to be; or
  -- it is asked by the end that learned
  pub data IsAsked (e : EndId) (m : MovingPicture) (r j h : ℕ) : Type 0 where
    Before : (o g : ℕ) → IsUnserved w e m r o g → (is_living (s.ends (opposite e)).place ≡ true → (o ≡ j) × (g ≡ h)) → IsAsked e m r j h
    Now : opposite e ≡ v.value.end → k ≡ j → v.value.hops ≡ h → IsAskedAs r v.inward → m.served < r → IsAsked e m r j h

  asked-was : (e : EndId) (at : Stand) (m l : MovingPicture) (r j h : ℕ) → is_open (s.ends e) ≡ true → HasFields w e at m → IsAlike m l → IsRisen e m l → IsUnserved u e l r j h → IsAsked e m r j h
  asked-was e at m l r j h open_is has like (inl same) (inl kept) = Before j h (inl (sym (ap (λ (z : MovingPicture). z.want) like) ∙ kept.0, kept.1, sym same ∙ kept.2)) (λ living. (refl, refl))
  asked-was e at m l r j h open_is has like (inr told) (inl kept) = Before m.hint.0 m.hint.1 old (λ living. absurd (risen living))
    where
      old : IsUnserved w e m r m.hint.0 m.hint.1
      old = inl (sym (ap (λ (z : MovingPicture). z.want) like) ∙ kept.0, kept.1, refl)

      -- a kept asking names where its end is, so no news of more hops comes
      risen : is_living (s.ends (opposite e)).place ≡ true → ⊥
      risen living =
          let x = there-here (entry_at w m.hint.0 (opposite e)) (λ v. (v.value.hops ≡ m.hint.1) × (v.value.asked ≡ r)) ((is.wanted e).site at m r m.hint.0 m.hint.1 open_is has old living) in
          let news : IsUnderWay w (IsNews (opposite (opposite e)) l.hint.0 l.hint.1) = taken-was b (IsNews (opposite (opposite e)) l.hint.0 l.hint.1) (subst (λ z. IsTaken c (IsNews z l.hint.0 l.hint.1)) (sym (opposite-twice e)) told.0) in
          let most : (l.hint.1 ≤ x.0.value.hops) × (l.hint.1 ≡ x.0.value.hops → l.hint.0 ≡ m.hint.0) = is.honest (opposite e) (At m.hint.0) x.0.value l.hint.0 l.hint.1 (ap value_of x.1) (inr news) in
          let first = most.0 in
          let hops = x.2.0 in
          let more = told.1 in
          omega (arith, first, hops, more)
  asked-was e at m l r j h open_is has like rise (inr asked) = by (under_way-after b (IsAsking e r j h) asked.1)
    where
      low : m.served < r
      low = subst (λ z. z < r) (ap (λ (z : MovingPicture). z.served) like) asked.0

      by : IsLeft b (IsAsking e r j h) ⊎ IsSent c (IsAsking e r j h) → IsAsked e m r j h
      by (inl left) = Before j h (inr (low, left-was b (IsAsking e r j h) left)) (λ living. (refl, refl))
      by (inr sent) =
          let live = live-asking k v e r j h sent.what (said sent.to sent.what sent.there) sent.is in
          Now (sym (ap opposite live.0) ∙ opposite-twice v.value.end) live.1 live.2 live.3 low

  -- the receive that the end that learned has started is the last that it asked for
  last : (r : ℕ) → IsAskedAs r v.inward → r ≡ v.value.asked
  last r asked = (is.asked v.value.end).last k v r learning.here asked

  -- and one that was asked before of its opposite is that one
  one-asked : (e : EndId) (at : Stand) (m : MovingPicture) (r o g : ℕ) → is_open (s.ends e) ≡ true → HasFields w e at m → IsUnserved w e m r o g → opposite e ≡ v.value.end → r ≡ v.value.asked
  one-asked e at m r o g open_is has old end =
      let lives : is_living (s.ends (opposite e)).place ≡ true = subst (λ z. is_living (s.ends z).place ≡ true) (sym end) living in
      let x = there-here (entry_at w o (opposite e)) (λ v. (v.value.hops ≡ g) × (v.value.asked ≡ r)) ((is.wanted e).site at m r o g open_is has old lives) in
      let there : entry_at w o v.value.end ≡ entry.Here x.0 = subst (λ z. entry_at w o z ≡ entry.Here x.0) end x.1 in
      let f = fields-of (At o) x.0.value (ap value_of there) in
      sym x.2.1 ∙ ap (λ (z : MovingPicture). z.asked) f.1

  same-asked : (e : EndId) (at : Stand) (m : MovingPicture) (r j h o i g : ℕ) → is_open (s.ends e) ≡ true → HasFields w e at m → IsAsked e m r j h → IsAsked e m o i g → o ≡ r
  same-asked e at m r j h o i g open_is has (Before a d one lives) (Before f q other more) = (is.wanted e).same at m r a d o f q open_is has one other
  same-asked e at m r j h o i g open_is has (Before a d one lives) (Now end kernel hops asked low) = last o asked ∙ sym (one-asked e at m r a d open_is has one end)
  same-asked e at m r j h o i g open_is has (Now end kernel hops asked low) (Before f q other more) = one-asked e at m o f q open_is has other end ∙ sym (last r asked)
  same-asked e at m r j h o i g open_is has (Now end kernel hops asked low) (Now too there count again below) = last o again ∙ sym (last r asked)

  posted-asked : (e : EndId) (at : Stand) (m : MovingPicture) (r j h : ℕ) → is_open (s.ends e) ≡ true → HasFields w e at m → IsAsked e m r j h → is_posted (s.ends (opposite e)).inward ≡ true
  posted-asked e at m r j h open_is has (Before o g old lives) = (is.wanted e).posted at m r o g open_is has old
  posted-asked e at m r j h open_is has (Now end kernel hops asked low) = by (is_posted (s.ends (opposite e)).inward) refl
    where
      lives : is_living (s.ends (opposite (opposite e))).place ≡ true
      lives = subst (λ z. is_living (s.ends z).place ≡ true) (sym (opposite-twice e)) (open-lives (is_living (s.ends e).place) _ open_is)
        where
          open-lives : (a c : Bool) → (a && c) ≡ true → a ≡ true
          open-lives true c is = refl
          open-lives false c is = is

      by : (b : Bool) → is_posted (s.ends (opposite e)).inward ≡ b → b ≡ true
      by true posted = refl
      by false unposted =
          let done : r ≤ m.served = is.served (opposite e) k v r at m (subst (λ z. entry_at w k z ≡ entry.Here v) (sym end) learning.here) asked unposted lives (subst (λ z. HasFields w z at m) (sym (opposite-twice e)) has) in
          absurd (omega (arith, done, low))

  site-asked : (e : EndId) (at : Stand) (m : MovingPicture) (r j h : ℕ) → is_open (s.ends e) ≡ true → HasFields w e at m → IsAsked e m r j h → is_living (s.ends (opposite e)).place ≡ true
      → IsHereAnd (entry_at w j (opposite e)) (λ v. (v.value.hops ≡ h) × (v.value.asked ≡ r))
  site-asked e at m r j h open_is has (Before o g old lives) lives_is =
      let same = lives lives_is in
      subst (λ z. IsHereAnd (entry_at w z (opposite e)) (λ v. (v.value.hops ≡ h) × (v.value.asked ≡ r))) same.0
      (subst (λ z. IsHereAnd (entry_at w o (opposite e)) (λ v. (v.value.hops ≡ z) × (v.value.asked ≡ r))) same.1 ((is.wanted e).site at m r o g open_is has old lives_is))
  site-asked e at m r j h open_is has (Now end kernel hops asked low) lives_is =
      here-there (entry_at w j (opposite e)) v (λ v. (v.value.hops ≡ h) × (v.value.asked ≡ r)) (subst (λ z. entry_at w z (opposite e) ≡ entry.Here v) kernel (subst (λ z. entry_at w k z ≡ entry.Here v) (sym end) learning.here)) (hops, sym (last r asked))

  wanted-learned : (e : EndId) → AreWanted u s.ends e
  wanted-learned e =
      record {
        kept = λ at l open_is has. let m = hint-was e at l has in kept m.0 l m.2 ((is.wanted e).kept at m.0 open_is m.1);
        same = λ at l r j h o i g open_is has one other.
            let m = hint-was e at l has in
            same-asked e at m.0 r j h o i g open_is m.1 (asked-was e at m.0 l r j h open_is m.1 m.2 m.3 one) (asked-was e at m.0 l o i g open_is m.1 m.2 m.3 other);
        posted = λ at l r j h open_is has one. let m = hint-was e at l has in posted-asked e at m.0 r j h open_is m.1 (asked-was e at m.0 l r j h open_is m.1 m.2 m.3 one);
        site = λ at l r j h open_is has one lives.
            let m = hint-was e at l has in
            stands e r j h (site-asked e at m.0 r j h open_is m.1 (asked-was e at m.0 l r j h open_is m.1 m.2 m.3 one) lives);
        unwanted = λ at l r open_is has low one. let m = hint-was e at l has in withdrawing e at m.0 r open_is m.1 (subst (λ z. z < r) (ap (λ (z : MovingPicture). z.served) m.2) low) (under_way-after b (IsUnwantOf e r) one);
      }
    where
      kept : (m l : MovingPicture) → IsAlike m l → (m.want ≡ 0) ⊎ (m.served < m.want) → (l.want ≡ 0) ⊎ (l.served < l.want)
      kept m l like (inl none) = inl (ap (λ (z : MovingPicture). z.want) like ∙ none)
      kept m l like (inr low) = inr (subst (λ (z : MovingPicture). z.served < z.want) (sym like) low)

      stands : (e : EndId) (r j h : ℕ) → IsHereAnd (entry_at w j (opposite e)) (λ v. (v.value.hops ≡ h) × (v.value.asked ≡ r)) → IsHereAnd (entry_at u j (opposite e)) (λ v. (v.value.hops ≡ h) × (v.value.asked ≡ r))
      stands e r j h =
          is-still b s quiet j (opposite e) (λ v. (v.value.hops ≡ h) × (v.value.asked ≡ r))
          (λ v x like is. (ap (λ (z : MovingPicture). z.hops) like.1 ∙ is.0, ap (λ (z : MovingPicture). z.asked) like.1 ∙ is.1))

      withdrawing : (e : EndId) (at : Stand) (m : MovingPicture) (r : ℕ) → is_open (s.ends e) ≡ true → HasFields w e at m → m.served < r → IsLeft b (IsUnwantOf e r) ⊎ IsSent c (IsUnwantOf e r)
          → (j : ℕ) × IsHereAnd (entry_at u j (opposite e)) (λ v. is_withdrawing v.inward ≡ true)
      withdrawing e at m r open_is has low (inl left) =
          let j = (is.wanted e).unwanted at m r open_is has low (left-was b (IsUnwantOf e r) left) in
          (j.0, withdrawing-still b s quiet j.0 (opposite e) j.1)
      withdrawing e at m r open_is has low (inr sent) =
          let live = live-unwant k v e r sent.what (said sent.to sent.what sent.there) sent.is in
          let end : opposite e ≡ v.value.end = sym (ap opposite live.0) ∙ opposite-twice v.value.end in (
            k,
            withdrawing-still b s quiet k (opposite e)
                (here-there (entry_at w k (opposite e)) v (λ v. is_withdrawing v.inward ≡ true) (subst (λ z. entry_at w k z ≡ entry.Here v) (sym end) learning.here) live.1),
          )

  -- so all clauses on links stay
  pub learning-right : AreRight (i + 1) u s
  learning-right = right-still b s quiet i is heard-true wanted-learned
