-- Ends that are here at a kernel tell their opposites so: all clauses on links stay.
use Rattle.std.proofs.Common.{◌≡◌, ◌≢◌, ◌⊎◌, inl, inr, ℕ, ◌<◌, ◌≤◌, true, false, nat_eq, length, Contains, IfSome, None, Option, refl, sym, ap, subst, ◌∙◌, arith, lt-ltb}
use Rattle.std.proofs.lemmas.Bool.Decides.{eqb_tells}
use Rattle.charlotte_calls.specs.Names.{opposite}
use Rattle.charlotte_calls.specs.declared.names.EndId.{EndId}
use Rattle.charlotte_packets.specs.declared.picture.MovingPicture.{MovingPicture}
use Rattle.charlotte_packets.specs.declared.picture.Picture.{Picture}
use Rattle.charlotte_packets.specs.declared.picture.PictureWhat.{PictureWhat}
use Rattle.charlotte_packets.specs.declared.picture.PictureWhat.TheVariants as packet
use Rattle.end_table.specs.Table.{IsHereAnd}
use Rattle.kernel_step.specs.Actions.{is_withdrawing}
use Rattle.service_change.proofs.Change.{living-made}
use Rattle.service_step.specs.Ends.{is_made}
use Rattle.service_step.specs.State.{State}
use Rattle.theorem_take_gone.proofs.Aside.{sent-each}
use Rattle.theorem_take_gone.proofs.Ends.{all_sent-weaker}
use Rattle.theorem_take_gone.proofs.Packets.{left-was, under_way-after, under_way-was}
use Rattle.theorem_take_gone.specs.Change.{Change, Changes}
use Rattle.theorem_take_gone.specs.Sums.{AllSent}
use Rattle.theorem_take_gone.specs.Under.{IsLeft, IsSent}
use Rattle.theorem_meaning.proofs.Ends.{opposite-twice}
use Rattle.theorem_meaning.specs.Fields.{Stand, At, Flying, HasFields, IsAsking, IsHeard, IsNews, IsNoMore, IsUnserved, IsUnwantOf, value_of}
use Rattle.theorem_meaning.specs.Invariant.{AreRight, AreWanted, NamesBelow}
use Rattle.theorem_meaning.specs.Packets.{Links}
use Rattle.theorem_meaning.specs.StandsFor.{AreLinksOf}
use Rattle.theorem_take_gone.specs.Quiet.{IsQuiet, IsQuietly, IsSentWell, is_telling}
use Rattle.theorem_take_gone.proofs.Alike.{IsQuietly-same}
use Rattle.theorem_take_gone.proofs.Clauses.{flying-was, links-still, right-still}
use Rattle.theorem_take_gone.proofs.Places.{fields-here, here-living}
use Rattle.theorem_meaning.proofs.Plain.{there-here}
use Rattle.theorem_ends_arrived.specs.Arrived.{IsTrueMove}

module _ {w u : Links} {c : Change} (b : Changes w c u) (s : State) (taken : c.taken ≡ None) (entries : (e : EndId) → c.entry e (w.entry c.kernel e) ≡ w.entry c.kernel e) (below : c.kernel < length s.made)
    (sent : AllSent (λ to what. (to < length s.made) × IsTrueMove w c.kernel what) c.packets) (both : (e : EndId) → is_made (s.ends e).place ≡ true → is_made (s.ends (opposite e)).place ≡ true) (i : ℕ) (right : AreRight i w s) (links : AreLinksOf w s)
    (few : length s.made ≤ 8) where
  abbrev k : ℕ
  k = c.kernel

  well : (to : ℕ) (what : PictureWhat) → (to < length s.made) × IsTrueMove w k what → IsSentWell (length s.made) s.ends to what
  well to (packet.Moved e at hops) is =
      let v = there-here (w.entry k (opposite e)) (λ v. v.value.hops ≡ hops) is.1.1 in
      let lives = here-living (length s.made) w s.ends few right.named right.marked links.once (opposite e) k v.0 v.1 in
      record {
        quiet = refl;
        below = is.0;
        addressed = lt-ltb at (length s.made) (subst (λ z. z < length s.made) (sym is.1.0) below);
        made = subst (λ z. is_made (s.ends z).place ≡ true) (opposite-twice e) (both (opposite e) (living-made (s.ends (opposite e)).place lives));
        gone = tt;
      }
  well to _ is = absurd is.1

  quiet : IsQuiet (length s.made) s.ends w c
  quiet =
      record {
        kernel = below;
        entry = λ e. subst (IsQuietly (w.entry k e)) (sym (entries e)) (IsQuietly-same (w.entry k e));
        names = λ e. subst (λ z. NamesBelow (length s.made) z) (sym (entries e)) (right.named.entries k e);
        taken = subst (λ (t : Option (ℕ × Picture)). IfSome t (λ t. is_telling t.1.what ≡ false)) (sym taken) tt;
        sent = all_sent-weaker (λ to what. (to < length s.made) × IsTrueMove w k what) (IsSentWell (length s.made) s.ends) well c.packets sent;
      }

  entry-same : (j : ℕ) (e : EndId) → u.entry j e ≡ w.entry j e
  entry-same j e = by (eqb_tells j k)
    where
      by : ((nat_eq j k ≡ true) × (j ≡ k)) ⊎ ((nat_eq j k ≡ false) × (j ≢ k)) → u.entry j e ≡ w.entry j e
      by (inl same) = subst (λ z. u.entry z e ≡ w.entry z e) (sym same.1) (b.entry e ∙ entries e)
      by (inr apart) = b.others j e apart.0

  fields : (e : EndId) (at : Stand) (m : MovingPicture) → HasFields u e at m → HasFields w e at m
  fields e (At j) m has = sym (ap value_of (entry-same j e)) ∙ has
  fields e Flying m has = flying-was b s quiet e m has

  -- a move that was sent tells of an end that is here
  move-news : (t : EndId) (j h : ℕ) (what : PictureWhat) → IsTrueMove w k what → IsNews t j h what → (k ≡ j) × IsHereAnd (w.entry k (opposite t)) (λ v. v.value.hops ≡ h)
  move-news t j h (packet.Moved e at hops) is says = (sym is.0 ∙ says.1, subst (λ z. IsHereAnd (w.entry k (opposite z)) (λ v. v.value.hops ≡ h)) says.0 (subst (λ z. IsHereAnd (w.entry k (opposite e)) (λ v. v.value.hops ≡ z)) says.2 is.1))
  move-news t j h _ is says = absurd is

  move-asking : (t : EndId) (n j h : ℕ) (what : PictureWhat) → IsTrueMove w k what → IsAsking t n j h what → ⊥
  move-asking t n j h (packet.Moved e at hops) is says = says
  move-asking t n j h _ is says = absurd is

  move-unwant : (t : EndId) (n : ℕ) (what : PictureWhat) → IsTrueMove w k what → IsUnwantOf t n what → ⊥
  move-unwant t n (packet.Moved e at hops) is says = says
  move-unwant t n _ is says = absurd is

  said : (to : ℕ) (what : PictureWhat) → Contains c.packets (to, what) → IsTrueMove w k what
  said to what has = (sent-each (λ to what. (to < length s.made) × IsTrueMove w k what) c.packets to what sent has).1

  heard-true : (e : EndId) (at : Stand) (m : MovingPicture) (j h : ℕ) → HasFields w e at m → IsHeard u e j h → IsNoMore at m.hops j h
  heard-true e at m j h has (inl x) = right.honest e at m j h has (inl (record { stand = x.stand; fields = x.fields; are = fields (opposite e) x.stand x.fields x.are; hint = x.hint }))
  heard-true e at m j h has (inr x) = by (under_way-after b (IsNews (opposite e) j h) x)
    where
      truth : (k ≡ j) × IsHereAnd (w.entry k (opposite (opposite e))) (λ v. v.value.hops ≡ h) → IsNoMore at m.hops j h
      truth new =
          let v = there-here (w.entry k e) (λ v. v.value.hops ≡ h) (subst (λ z. IsHereAnd (w.entry k z) (λ v. v.value.hops ≡ h)) (opposite-twice e) new.1) in
          let f = fields-here (length s.made) w s.ends few right.named right.marked links.once e k v.0 at m v.1 has in
          let count : m.hops ≡ v.0.value.hops = ap (λ (z : MovingPicture). z.hops) f.1 in
          let hops = v.2 in
          subst (λ z. IsNoMore z m.hops j h) (sym f.0) (omega (arith, count, hops), λ same. sym new.0)

      by : IsLeft b (IsNews (opposite e) j h) ⊎ IsSent c (IsNews (opposite e) j h) → IsNoMore at m.hops j h
      by (inl left) = right.honest e at m j h has (inr (left-was b (IsNews (opposite e) j h) left))
      by (inr new) = truth (move-news (opposite e) j h new.what (said new.to new.what new.there) new.is)

  unserved-was : (e : EndId) (m : MovingPicture) (n j h : ℕ) → IsUnserved u e m n j h → IsUnserved w e m n j h
  unserved-was e m n j h (inl asks) = inl asks
  unserved-was e m n j h (inr asks) = inr (asks.0, under_way-was b (IsAsking e n j h) (λ x. move-asking e n j h x.what (said x.to x.what x.there) x.is) asks.1)

  wanted-still : (e : EndId) → AreWanted u s.ends e
  wanted-still e =
      record {
        kept = λ at m opens has. (right.wanted e).kept at m opens (fields e at m has);
        same = λ at m n j h o a g opens has one other. (right.wanted e).same at m n j h o a g opens (fields e at m has) (unserved-was e m n j h one) (unserved-was e m o a g other);
        posted = λ at m n j h opens has one. (right.wanted e).posted at m n j h opens (fields e at m has) (unserved-was e m n j h one);
        site = λ at m n j h opens has one lives.
            subst (λ z. IsHereAnd z (λ v. (v.value.hops ≡ h) × (v.value.asked ≡ n))) (sym (entry-same j (opposite e))) ((right.wanted e).site at m n j h opens (fields e at m has) (unserved-was e m n j h one) lives);
        unwanted = λ at m n opens has low one.
            let there = (right.wanted e).unwanted at m n opens (fields e at m has) low (under_way-was b (IsUnwantOf e n) (λ x. move-unwant e n x.what (said x.to x.what x.there) x.is) one) in
            (there.0, subst (λ z. IsHereAnd z (λ v. is_withdrawing v.inward ≡ true)) (sym (entry-same there.0 (opposite e))) there.1);
      }

  pub moves-right : AreRight i u s
  moves-right =
      let later = right-still b s quiet i right heard-true wanted-still in
      record {
        named = later.named;
        few = λ e at m has. right.few e at m (fields e at m has);
        marked = later.marked;
        counted = later.counted;
        honest = later.honest;
        asked = later.asked;
        cancelling = later.cancelling;
        served = later.served;
        wanted = later.wanted;
        unwanted = later.unwanted;
        once = later.once;
        packets = later.packets;
      }

  pub moves-links : AreLinksOf u s
  moves-links = links-still b s quiet links
