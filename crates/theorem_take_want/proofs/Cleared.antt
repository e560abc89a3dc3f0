-- An open end counts the receive that is asked of it as served, as it does where a send is matched: all clauses on links stay.
use Rattle.std.proofs.Common.{◌≡◌, ◌⊎◌, ◌↔◌, inl, inr, ℕ, ◌<◌, ◌≤◌, Bool, true, false, [], length, None, arith, refl, sym, ap, subst}
use Rattle.charlotte_calls.specs.Names.{opposite}
use Rattle.charlotte_calls.specs.declared.names.EndId.{EndId}
use Rattle.charlotte_packets.specs.declared.picture.MovingPicture.{MovingPicture}
use Rattle.charlotte_packets.specs.declared.picture.PictureWhat.{PictureWhat}
use Rattle.end_table.proofs.EndEq.{end_eq-same}
use Rattle.end_table.specs.Place.{end_eq}
use Rattle.end_table.specs.declared.entry.Entry.TheVariants as entry
use Rattle.end_table.specs.declared.entry.HereView.{HereView}
use Rattle.kernel_effects.specs.Effect.{puts, stays}
use Rattle.service_lawful.specs.Consistent.{is_open}
use Rattle.service_step.specs.Ends.{is_made}
use Rattle.service_step.specs.State.{State}
use Rattle.theorem_take_silent.proofs.Ends.{inward-same}
use Rattle.theorem_take_silent.proofs.Lists.{none-there}
use Rattle.theorem_take_silent.proofs.Packets.{each-after, under_way-was}
use Rattle.theorem_take_silent.proofs.Sums.{sum_over-same}
use Rattle.theorem_take_silent.specs.Change.{Change, Changes}
use Rattle.theorem_meaning.specs.Fields.{Stand, At, HasFields, IsAskedAs, IsAsking, IsUnserved, IsUnwantOf, value_of}
use Rattle.theorem_meaning.specs.Invariant.{AreRight, AreWanted, IsPacketRight, IsServed, IsUnwantedOnce, is_unwanted_to}
use Rattle.theorem_meaning.specs.Packets.{Each, IsParcelFor, IsUnderWay, IsUnwantedOf, Links, one_if}
use Rattle.theorem_meaning.specs.StandsFor.{AreLinksOf, entry_at, home_of}
use Rattle.theorem_take_silent.proofs.Places.{fields-here}
use Rattle.theorem_take_want.specs.Anew.{IsAnew}
use Rattle.theorem_take_want.proofs.Anew.{anew-other, anew-own, asked-anew, counted-anew, few-anew, fields-was, honest-anew, is-still, links-anew, marked-anew, named-anew, once-anew, right-anew, seen, under-still, withdrawing-still}
use Rattle.theorem_take_want.proofs.Void.{voided}

-- that, as the part of an event which takes and sends nothing
abbrev pub clearing : Change → HereView → ℕ → Change
clearing c v r = record c { taken = None; entry = puts v.value.end (entry.Here (record v { value = voided r v })) stays; packets = [] }

-- nothing else is asked
module _ (i : ℕ) (w u : Links) (s : State) (right : AreRight i w s) (links : AreLinksOf w s) (few : length s.made ≤ 8) (c : Change) (v : HereView) (here : entry_at w c.kernel v.value.end ≡ entry.Here v) (opened : is_open (s.ends v.value.end) ≡ true)
    (r : ℕ) (low : v.value.served < r) (kernel : c.kernel < length s.made) (made : is_made (s.ends (opposite v.value.end)).place ≡ true) (only : (q j h : ℕ) → IsUnserved w v.value.end v.value q j h → q ≡ r) (b : Changes w (clearing c v r) u) where
  abbrev k : ℕ
  k = c.kernel

  abbrev mine : EndId
  mine = v.value.end

  anew : IsAnew (length s.made) w s (clearing c v r) s.ends v (voided r v)
  anew = record { kernel = kernel; taken = refl; sent = tt; put = λ e. refl; here = here; like = refl; opened = opened; ends = λ q. refl }

  own-fields : (st : Stand) (m : MovingPicture) → HasFields w mine st m → (st ≡ At k) × (m ≡ v.value)
  own-fields st m has = fields-here (length s.made) w s.ends few right.named right.marked links.once mine k v st m here has

  had : HasFields w mine (At k) v.value
  had = ap value_of here

  now-own : (st : Stand) (m : MovingPicture) → HasFields u mine st m → m ≡ voided r v
  now-own = anew-own b anew own-fields

  -- packets are those that were there
  packet-was : (P : PictureWhat → Type 0) → IsUnderWay u P → IsUnderWay w P
  packet-was P = under_way-was b P (λ x. none-there (x.to, x.what) x.there)

  packet-same : (P : PictureWhat → Type 0) → IsUnderWay u P ↔ IsUnderWay w P
  packet-same P = (packet-was P, under-still b anew P)

  asked-before : (e : EndId) (m : MovingPicture) (q j h : ℕ) → IsUnserved u e m q j h → IsUnserved w e m q j h
  asked-before e m q j h (inl asks) = inl asks
  asked-before e m q j h (inr asks) = inr (asks.0, packet-was (IsAsking e q j h) asks.1)

  -- nothing is asked of the end any more
  pub none-asked : (q j h : ℕ) → IsUnserved u mine (voided r v) q j h → ⊥
  none-asked q j h (inl asks) = let none : 0 ≡ q = asks.0 in let some = asks.1 in omega (arith, none, some)
  none-asked q j h (inr asks) =
      let more : r < q = asks.0 in
      let same : q ≡ r = only q j h (inr (omega (arith, low, more), packet-was (IsAsking mine q j h) asks.1)) in
      omega (arith, more, same)

  no-more : (st : Stand) (m : MovingPicture) (q j h : ℕ) → HasFields u mine st m → IsUnserved u mine m q j h → ⊥
  no-more st m q j h has asks = none-asked q j h (subst (λ z. IsUnserved u mine z q j h) (now-own st m has) asks)

  wanted-cleared : (e : EndId) → AreWanted u s.ends e
  wanted-cleared e = by (end_eq mine e) refl
    where
      own : AreWanted u s.ends mine
      own =
          record {
            kept = λ st m open_is has. inl (ap (λ (z : MovingPicture). z.want) (now-own st m has));
            same = λ st m q j h o g f open_is has one two. absurd (no-more st m q j h has one);
            posted = λ st m q j h open_is has one. absurd (no-more st m q j h has one);
            site = λ st m q j h open_is has one living. absurd (no-more st m q j h has one);
            unwanted = λ st m q open_is has more one.
                let above : r < q = subst (λ (z : MovingPicture). z.served < q) (now-own st m has) more in
                let j = (right.wanted mine).unwanted (At k) v.value q opened had (omega (arith, low, above)) (packet-was (IsUnwantOf mine q) one) in
                (j.0, withdrawing-still b anew j.0 (opposite mine) j.1);
          }

      by : (x : Bool) → end_eq mine e ≡ x → AreWanted u s.ends e
      by true same = subst (AreWanted u s.ends) (end_eq-same mine e same) own
      by false apart =
          record {
            kept = λ st m open_is has. (right.wanted e).kept st m open_is (anew-other b anew e st m apart has);
            same = λ st m q j h o g f open_is has one two. (right.wanted e).same st m q j h o g f open_is (anew-other b anew e st m apart has) (asked-before e m q j h one) (asked-before e m o g f two);
            posted = λ st m q j h open_is has one. (right.wanted e).posted st m q j h open_is (anew-other b anew e st m apart has) (asked-before e m q j h one);
            site = λ st m q j h open_is has one living.
                is-still b anew j (opposite e) (λ x. (x.value.hops ≡ h) × (x.value.asked ≡ q)) (λ a. a)
                ((right.wanted e).site st m q j h open_is (anew-other b anew e st m apart has) (asked-before e m q j h one) living);
            unwanted = λ st m q open_is has more one.
                let j = (right.wanted e).unwanted st m q open_is (anew-other b anew e st m apart has) more (packet-was (IsUnwantOf e q) one) in
                (j.0, withdrawing-still b anew j.0 (opposite e) j.1);
          }

  served-cleared : (e : EndId) → IsServed u s.ends e
  served-cleared e j x q st m here_is asked unposted living has =
      let y = seen b anew j e x here_is in
      let o = fields-was b anew (opposite e) st m has in
      let old : q ≤ o.0.served = right.served e j y.0 q st o.0 y.1 (subst (IsAskedAs q) (ap (λ (z : HereView). z.inward) y.2) asked) unposted living o.1 in
      at-least o.0 o.1 o.3 old
    where
      at-least : (o : MovingPicture) → HasFields w (opposite e) st o → ((m ≡ o) × (st ≡ At k → opposite e ≡ mine → ⊥)) ⊎ ((opposite e ≡ mine) × (m ≡ voided r v)) → q ≤ o.served → q ≤ m.served
      at-least o was (inl same) old = subst (λ (z : MovingPicture). q ≤ z.served) (sym same.0) old
      at-least o was (inr now) old =
          let before : o.served ≡ v.value.served = ap (λ (z : MovingPicture). z.served) (own-fields st o (subst (λ z. HasFields w z st o) now.0 was)).1 in
          let after : m.served ≡ r = ap (λ (z : MovingPicture). z.served) now.1 in
          omega (arith, before, after, old, low)

  once-cleared : (e : EndId) → IsUnwantedOnce u s.ends e
  once-cleared e noticed = subst (λ z. z ≤ 1) (sym (sum_over-same (λ q. one_if (is_unwanted_to e q)) b tt tt)) (right.unwanted e noticed)

  packets-cleared : Each u (λ from to q. IsPacketRight u s.ends from to q)
  packets-cleared =
      each-after b (λ from to q. IsPacketRight w s.ends from to q) (λ from to q. IsPacketRight u s.ends from to q) right.packets (λ from to q has a. right-anew b anew from to q.what a)
      (λ to what has. absurd (none-there (to, what) has))

  -- all clauses on links
  pub right-cleared : AreRight i u s
  right-cleared =
      record {
        named = named-anew b anew right.named made;
        few = few-anew b anew i right.few;
        marked = λ e. marked-anew b anew e (right.marked e);
        counted = λ e. counted-anew b anew e (right.counted e);
        honest = honest-anew b anew right.honest own-fields;
        asked = λ e. asked-anew b anew e (right.asked e);
        cancelling = λ p e cancelling. withdrawing-still b anew (home_of s p) e (right.cancelling p e cancelling);
        served = served-cleared;
        wanted = wanted-cleared;
        unwanted = once-cleared;
        once = λ f. once-anew b anew f (right.once f);
        packets = packets-cleared;
      }

  pub links-cleared : AreLinksOf u s
  links-cleared =
      links-anew b anew links
      (λ e p x owns here_is old. inward-same w u e (λ q n. packet-same (IsParcelFor e q n)) (λ q. packet-same (IsUnwantedOf e q)) x.inward (s.ends e).inward old)
