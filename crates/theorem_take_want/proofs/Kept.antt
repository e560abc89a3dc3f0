-- An open end keeps that a receive of its opposite is asked for: all clauses on links stay.
use Rattle.std.proofs.Common.{◌≡◌, ◌⊎◌, ◌↔◌, inl, inr, ℕ, ◌<◌, ◌≤◌, Bool, true, false, [], length, None, refl, sym, ap, subst, ◌∙◌}
use Rattle.charlotte_calls.specs.Names.{opposite}
use Rattle.charlotte_calls.specs.declared.names.EndId.{EndId}
use Rattle.charlotte_packets.specs.declared.picture.MovingPicture.{MovingPicture}
use Rattle.charlotte_packets.specs.declared.picture.PictureWhat.{PictureWhat}
use Rattle.end_table.proofs.EndEq.{end_eq-same}
use Rattle.end_table.specs.Place.{end_eq}
use Rattle.end_table.specs.Table.{IsHereAnd}
use Rattle.end_table.specs.declared.entry.Entry.TheVariants as entry
use Rattle.end_table.specs.declared.entry.HereView.{HereView}
use Rattle.kernel_effects.specs.Effect.{puts, stays}
use Rattle.service_lawful.specs.Consistent.{is_open}
use Rattle.service_step.specs.Ends.{is_living, is_made, is_posted}
use Rattle.service_step.specs.State.{State}
use Rattle.theorem_take_silent.proofs.Ends.{inward-same}
use Rattle.theorem_take_silent.proofs.Lists.{none-there}
use Rattle.theorem_take_silent.proofs.Packets.{each-after, under_way-was}
use Rattle.theorem_take_silent.proofs.Sums.{sum_over-same}
use Rattle.theorem_take_silent.specs.Change.{Change, Changes}
use Rattle.theorem_meaning.specs.Fields.{Stand, At, HasFields, IsAskedAs, IsAsking, IsUnserved, IsUnwantOf, value_of}
use Rattle.theorem_meaning.specs.Invariant.{AreRight, AreWanted, IsPacketRight, IsServed, IsUnwantedOnce, is_unwanted_to}
use Rattle.theorem_meaning.specs.Packets.{Each, IsParcelFor, IsUnderWay, IsUnwantedOf, Links, one_if}
use Rattle.theorem_meaning.specs.StandsFor.{AreLinksOf, entry_at, home_of}
use Rattle.theorem_take_silent.proofs.Places.{fields-here}
use Rattle.theorem_take_want.specs.Anew.{IsAnew}
use Rattle.theorem_take_want.proofs.Anew.{anew-other, anew-own, asked-anew, counted-anew, few-anew, fields-was, honest-anew, is-still, links-anew, marked-anew, named-anew, once-anew, right-anew, seen, under-still, withdrawing-still}

-- a value with which a receive is asked for
abbrev pub keeps : ℕ → HereView → MovingPicture
keeps r v = record v.value { want = r }

-- that, as the part of an event which takes and sends nothing
abbrev pub keeping : Change → HereView → ℕ → Change
keeping c v r = record c { taken = None; entry = puts v.value.end (entry.Here (record v { value = keeps r v })) stays; packets = [] }

-- the hint names where the opposite is, if that lives, and what else is asked is the same receive
module _ (i : ℕ) (w u : Links) (s : State) (right : AreRight i w s) (links : AreLinksOf w s) (few : length s.made ≤ 8) (c : Change) (v : HereView) (here : entry_at w c.kernel v.value.end ≡ entry.Here v) (opened : is_open (s.ends v.value.end) ≡ true)
    (r : ℕ) (low : v.value.served < r) (kernel : c.kernel < length s.made) (made : is_made (s.ends (opposite v.value.end)).place ≡ true) (posted : is_posted (s.ends (opposite v.value.end)).inward ≡ true)
    (only : (q j h : ℕ) → v.value.served < q → IsUnderWay w (IsAsking v.value.end q j h) → q ≡ r)
    (site : is_living (s.ends (opposite v.value.end)).place ≡ true → IsHereAnd (entry_at w v.value.hint.0 (opposite v.value.end)) (λ x. (x.value.hops ≡ v.value.hint.1) × (x.value.asked ≡ r)))
    (b : Changes w (keeping c v r) u) where
  abbrev k : ℕ
  k = c.kernel

  abbrev mine : EndId
  mine = v.value.end

  abbrev other : EndId
  other = opposite v.value.end

  anew : IsAnew (length s.made) w s (keeping c v r) s.ends v (keeps r v)
  anew = record { kernel = kernel; taken = refl; sent = tt; put = λ e. refl; here = here; like = refl; opened = opened; ends = λ q. refl }

  own-fields : (st : Stand) (m : MovingPicture) → HasFields w mine st m → (st ≡ At k) × (m ≡ v.value)
  own-fields st m has = fields-here (length s.made) w s.ends few right.named right.marked links.once mine k v st m here has

  had : HasFields w mine (At k) v.value
  had = ap value_of here

  now-own : (st : Stand) (m : MovingPicture) → HasFields u mine st m → m ≡ keeps r v
  now-own = anew-own b anew own-fields

  -- packets are those that were there
  packet-was : (P : PictureWhat → Type 0) → IsUnderWay u P → IsUnderWay w P
  packet-was P = under_way-was b P (λ x. none-there (x.to, x.what) x.there)

  packet-same : (P : PictureWhat → Type 0) → IsUnderWay u P ↔ IsUnderWay w P
  packet-same P = (packet-was P, under-still b anew P)

  asked-before : (e : EndId) (m : MovingPicture) (q j h : ℕ) → IsUnserved u e m q j h → IsUnserved w e m q j h
  asked-before e m q j h (inl asks) = inl asks
  asked-before e m q j h (inr asks) = inr (asks.0, packet-was (IsAsking e q j h) asks.1)

  -- what is asked of the end is that receive
  that-one : (q j h : ℕ) → IsUnserved u mine (keeps r v) q j h → q ≡ r
  that-one q j h (inl asks) = sym asks.0
  that-one q j h (inr asks) = only q j h asks.0 (packet-was (IsAsking mine q j h) asks.1)

  stands : (e : EndId) (j h q : ℕ) → IsHereAnd (entry_at w j (opposite e)) (λ x. (x.value.hops ≡ h) × (x.value.asked ≡ q)) → IsHereAnd (entry_at u j (opposite e)) (λ x. (x.value.hops ≡ h) × (x.value.asked ≡ q))
  stands e j h q = is-still b anew j (opposite e) (λ x. (x.value.hops ≡ h) × (x.value.asked ≡ q)) (λ a. a)

  its-site : is_living (s.ends other).place ≡ true → (q j h : ℕ) → IsUnserved u mine (keeps r v) q j h → IsHereAnd (entry_at u j other) (λ x. (x.value.hops ≡ h) × (x.value.asked ≡ q))
  its-site living q j h (inl asks) =
      stands mine j h q
      (subst (λ z. IsHereAnd (entry_at w j other) (λ x. (x.value.hops ≡ h) × (x.value.asked ≡ z))) asks.0
      (subst (λ (z : ℕ × ℕ). IsHereAnd (entry_at w z.0 other) (λ x. (x.value.hops ≡ z.1) × (x.value.asked ≡ r))) asks.2 (site living)))
  its-site living q j h (inr asks) = stands mine j h q ((right.wanted mine).site (At k) v.value q j h opened had (inr (asks.0, packet-was (IsAsking mine q j h) asks.1)) living)

  wanted-kept : (e : EndId) → AreWanted u s.ends e
  wanted-kept e = by (end_eq mine e) refl
    where
      own : AreWanted u s.ends mine
      own =
          record {
            kept = λ st m open_is has. inr (subst (λ (z : MovingPicture). z.served < z.want) (sym (now-own st m has)) low);
            same = λ st m q j h o g f open_is has one two.
                that-one o g f (subst (λ z. IsUnserved u mine z o g f) (now-own st m has) two) ∙ sym (that-one q j h (subst (λ z. IsUnserved u mine z q j h) (now-own st m has) one));
            posted = λ st m q j h open_is has one. posted;
            site = λ st m q j h open_is has one living. its-site living q j h (subst (λ z. IsUnserved u mine z q j h) (now-own st m has) one);
            unwanted = λ st m q open_is has more one.
                let j = (right.wanted mine).unwanted (At k) v.value q opened had (subst (λ (z : MovingPicture). z.served < q) (now-own st m has) more) (packet-was (IsUnwantOf mine q) one) in
                (j.0, withdrawing-still b anew j.0 other j.1);
          }

      by : (x : Bool) → end_eq mine e ≡ x → AreWanted u s.ends e
      by true same = subst (AreWanted u s.ends) (end_eq-same mine e same) own
      by false apart =
          record {
            kept = λ st m open_is has. (right.wanted e).kept st m open_is (anew-other b anew e st m apart has);
            same = λ st m q j h o g f open_is has one two. (right.wanted e).same st m q j h o g f open_is (anew-other b anew e st m apart has) (asked-before e m q j h one) (asked-before e m o g f two);
            posted = λ st m q j h open_is has one. (right.wanted e).posted st m q j h open_is (anew-other b anew e st m apart has) (asked-before e m q j h one);
            site = λ st m q j h open_is has one living. stands e j h q ((right.wanted e).site st m q j h open_is (anew-other b anew e st m apart has) (asked-before e m q j h one) living);
            unwanted = λ st m q open_is has more one.
                let j = (right.wanted e).unwanted st m q open_is (anew-other b anew e st m apart has) more (packet-was (IsUnwantOf e q) one) in
                (j.0, withdrawing-still b anew j.0 (opposite e) j.1);
          }

  served-kept : (e : EndId) → IsServed u s.ends e
  served-kept e j x q st m here_is asked unposted living has =
      let y = seen b anew j e x here_is in
      let o = fields-was b anew (opposite e) st m has in
      let old : q ≤ o.0.served = right.served e j y.0 q st o.0 y.1 (subst (IsAskedAs q) (ap (λ (z : HereView). z.inward) y.2) asked) unposted living o.1 in
      subst (λ z. q ≤ z) (sym (as-before o.0 o.1 o.3)) old
    where
      as-before : (o : MovingPicture) → HasFields w (opposite e) st o → ((m ≡ o) × (st ≡ At k → opposite e ≡ mine → ⊥)) ⊎ ((opposite e ≡ mine) × (m ≡ keeps r v)) → m.served ≡ o.served
      as-before o was (inl same) = ap (λ (z : MovingPicture). z.served) same.0
      as-before o was (inr now) = ap (λ (z : MovingPicture). z.served) now.1 ∙ sym (ap (λ (z : MovingPicture). z.served) (own-fields st o (subst (λ z. HasFields w z st o) now.0 was)).1)

  once-kept : (e : EndId) → IsUnwantedOnce u s.ends e
  once-kept e noticed = subst (λ z. z ≤ 1) (sym (sum_over-same (λ q. one_if (is_unwanted_to e q)) b tt tt)) (right.unwanted e noticed)

  packets-kept : Each u (λ from to q. IsPacketRight u s.ends from to q)
  packets-kept =
      each-after b (λ from to q. IsPacketRight w s.ends from to q) (λ from to q. IsPacketRight u s.ends from to q) right.packets (λ from to q has a. right-anew b anew from to q.what a)
      (λ to what has. absurd (none-there (to, what) has))

  -- all clauses on links
  pub right-kept : AreRight i u s
  right-kept =
      record {
        named = named-anew b anew right.named made;
        few = few-anew b anew i right.few;
        marked = λ e. marked-anew b anew e (right.marked e);
        counted = λ e. counted-anew b anew e (right.counted e);
        honest = honest-anew b anew right.honest own-fields;
        asked = λ e. asked-anew b anew e (right.asked e);
        cancelling = λ p e cancelling. withdrawing-still b anew (home_of s p) e (right.cancelling p e cancelling);
        served = served-kept;
        wanted = wanted-kept;
        unwanted = once-kept;
        once = λ f. once-anew b anew f (right.once f);
        packets = packets-kept;
      }

  pub links-kept : AreLinksOf u s
  links-kept =
      links-anew b anew links
      (λ e p x owns here_is old. inward-same w u e (λ q n. packet-same (IsParcelFor e q n)) (λ q. packet-same (IsUnwantedOf e q)) x.inward (s.ends e).inward old)
