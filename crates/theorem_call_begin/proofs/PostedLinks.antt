-- After a granted Receive the links stand for the state of the service.
use Rattle.std.proofs.Common.{◌≡◌, ◌⊎◌, ◌↔◌, ℕ, Bool, true, false, refl, sym, ap, subst, ◌∙◌}
use Rattle.std.proofs.lemmas.List.Elements.{All-contains}
use Rattle.charlotte_calls.specs.declared.names.EndId.{EndId}
use Rattle.charlotte_calls.specs.declared.names.Pid.{Pid}
use Rattle.charlotte_packets.specs.declared.picture.PictureWhat.{PictureWhat}
use Rattle.charlotte_packets.specs.declared.picture.PictureWhat.TheVariants as packet
use Rattle.end_table.proofs.EndEq.{end_eq-same}
use Rattle.end_table.specs.Place.{end_eq}
use Rattle.end_table.specs.declared.entry.Entry.TheVariants as entry
use Rattle.end_table.specs.declared.entry.HereView.{HereView}
use Rattle.end_table.specs.declared.entry.Holder.TheVariants as holder
use Rattle.end_table.specs.declared.entry.Inward.TheVariants as kernel_inward
use Rattle.kernel_step.specs.Rows.{ends_in}
use Rattle.theorem_meaning.specs.World.{World}
use Rattle.service_lawful.specs.Consistent.{is_open}
use Rattle.service_step.specs.Ends.{is_living}
use Rattle.service_step.specs.State.{State}
use Rattle.service_step.specs.declared.state.End.{End}
use Rattle.service_step.specs.declared.state.Place.{Place}
use Rattle.service_step.specs.declared.state.Place.TheVariants as place
use Rattle.theorem_take_silent.proofs.Ends.{inward-same, outward-same}
use Rattle.theorem_meaning.proofs.Plain.{owner-same, view-same}
use Rattle.theorem_meaning.specs.Fields.{IsAskedAs}
use Rattle.theorem_meaning.specs.Invariant.{IsPacketRight, IsParcelRight, IsVoidRight}
use Rattle.theorem_meaning.specs.Packets.{IsParcelFor, IsTakenOf, IsUnderWay, IsUnwantedOf, Links, links_of, one_if}
use Rattle.theorem_meaning.specs.StandsFor.{AreLinksOf, IsEndOf, entry_at, home_of}
use Rattle.theorem_call_begin.proofs.Posting.{Posting, ends-at, ends-like, ends-other, its-end, its-view, one-view, placed, posted, posted_view, was-open}
use Rattle.theorem_call_begin.proofs.OneView.{held-same, in_message-same, now-here, other-entry, packet-same, standing-same}

module _ {i : ℕ} {w : World} {s : State} {k : ℕ} {p : Pid} {u : Links} (x : Posting i w s k p u) where
  abbrev l : Links
  l = links_of w

  abbrev e : EndId
  e = x.view.value.end

  abbrev t : State
  t = posted s e

  opened : is_open (s.ends e) ≡ true
  opened = ap (λ z. is_open (record (s.ends e) { place = z })) (placed x) ∙ ap (λ b. is_open (record (s.ends e) { place = place.Owned p; noticed = b })) (was-open x)

  -- ---- no packet for the receive is under way before

  none-asked : (n : ℕ) → IsAskedAs n x.view.inward → ⊥
  none-asked n asked = subst (IsAskedAs n) x.idle asked

  no-parcel : (n m : ℕ) → IsUnderWay l (IsParcelFor e n m) → ⊥
  no-parcel n m is =
      by is.packet.what is.is (All-contains (λ q. IsPacketRight l s.ends is.from is.to q.what) (w.packets is.from is.to) is.packet (x.is.links.packets is.from is.to) is.there)
    where
      by : (q : PictureWhat) → IsParcelFor e n m q → IsPacketRight l s.ends is.from is.to q → ⊥
      by (packet.Parcel to r wanted at hops bytes ms) for right = none-asked wanted (its-view x is.to (λ v. IsAskedAs wanted v.inward) (own.meets opened))
        where
          own : IsParcelRight l s.ends is.from is.to e r wanted at hops bytes (ends_in ms)
          own = subst (λ z. IsParcelRight l s.ends is.from is.to z r wanted at hops bytes (ends_in ms)) for.0 right
      by _ for right = absurd for

  no-unwanted : (n : ℕ) → IsUnderWay l (IsUnwantedOf e n) → ⊥
  no-unwanted n is =
      by is.packet.what is.is (All-contains (λ q. IsPacketRight l s.ends is.from is.to q.what) (w.packets is.from is.to) is.packet (x.is.links.packets is.from is.to) is.there)
    where
      differ : (r : ℕ) → kernel_inward.Idle ≡ kernel_inward.Withdrawing r → ⊥
      differ r is = cc

      by : (q : PictureWhat) → IsUnwantedOf e n q → IsPacketRight l s.ends is.from is.to q → ⊥
      by (packet.Unwanted to r at hops) for right =
          differ r (sym x.idle ∙ its-view x is.to (λ v. v.inward ≡ kernel_inward.Withdrawing r) (subst (λ z. IsVoidRight l s.ends is.to z r) for.0 right (was-open x)))
      by _ for right = absurd for

  place-same : (f : EndId) → (t.ends f).place ≡ (s.ends f).place
  place-same f = ap (λ (y : End). y.place) (ends-like x f)

  -- ---- owned ends

  -- the end itself
  own-end : IsEndOf u e (posted_view x.view) (t.ends e)
  own-end =
      subst (IsEndOf u e (posted_view x.view)) (sym (ends-at x))
      (record {
        sent = (its-end x).sent;
        noticed = (its-end x).noticed;
        outward = outward-same l u e (λ m. packet-same (one-view x) (IsTakenOf e m) (λ is. is)) (s.ends e).sent x.view.outward (s.ends e).outward (its-end x).outward;
        inward = (
          λ m is. no-parcel (posted_view x.view).value.asked m ((packet-same (one-view x) (IsParcelFor e (posted_view x.view).value.asked m) (λ no. no)).0 is),
          λ is. no-unwanted (posted_view x.view).value.asked ((packet-same (one-view x) (IsUnwantedOf e (posted_view x.view).value.asked) (λ no. no)).0 is),
        );
      })

  other-end : (f : EndId) (v : HereView) → end_eq e f ≡ false → IsEndOf l f v (s.ends f) → IsEndOf u f v (t.ends f)
  other-end f v apart is =
      subst (IsEndOf u f v) (sym (ends-other x f apart))
      (record {
        sent = is.sent;
        noticed = is.noticed;
        outward = outward-same l u f (λ m. packet-same (one-view x) (IsTakenOf f m) (λ no. no)) (s.ends f).sent v.outward (s.ends f).outward is.outward;
        inward = inward-same l u f (λ r m. packet-same (one-view x) (IsParcelFor f r m) (λ no. no)) (λ r. packet-same (one-view x) (IsUnwantedOf f r) (λ no. no)) v.inward (s.ends f).inward is.inward;
      })

  agree-after : (f : EndId) (q : Pid) (v : HereView) → (t.ends f).place ≡ place.Owned q → entry_at u (home_of s q) f ≡ entry.Here v → IsEndOf u f v (t.ends f)
  agree-after f q v owned there = by (end_eq e f) refl
    where
      was : (s.ends f).place ≡ place.Owned q
      was = sym (place-same f) ∙ owned

      by : (b : Bool) → end_eq e f ≡ b → IsEndOf u f v (t.ends f)
      by false apart = other-end f v apart (x.is.stands.links.agree f q v was (sym (other-entry (one-view x) (home_of s q) f apart) ∙ there))
      by true is =
          let same : e ≡ f = end_eq-same e f is in
          let who : p ≡ q = owner-same p q (sym (placed x) ∙ ap (λ z. (s.ends z).place) same ∙ was) in
          let view : posted_view x.view ≡ v
          = view-same (posted_view x.view) v (sym (now-here (one-view x)) ∙ ap (λ z. u.entry z e) (sym x.at ∙ ap (home_of s) who) ∙ ap (u.entry (home_of s q)) same ∙ there) in
          subst (λ z. IsEndOf u z v (t.ends z)) same (subst (λ z. IsEndOf u e z (t.ends e)) view own-end)

  pub posted-links : AreLinksOf u t
  posted-links =
      record {
        once = λ f. standing-same (one-view x) f ∙ x.is.stands.links.once f ∙ sym (ap (λ (y : Place). one_if (is_living y)) (place-same f));
        owned = λ f q. (
          λ at. (held-same (one-view x) (home_of s q) f (holder.Owner q)).0 ((x.is.stands.links.owned f q).0 (sym (place-same f) ∙ at)),
          λ has. place-same f ∙ (x.is.stands.links.owned f q).1 ((held-same (one-view x) (home_of s q) f (holder.Owner q)).1 has),
        );
        in_message = λ f g m. (
          λ at. (in_message-same (one-view x) f g m).0 ((x.is.stands.links.in_message f g m).0 (sym (place-same f) ∙ at)),
          λ has. place-same f ∙ (x.is.stands.links.in_message f g m).1 ((in_message-same (one-view x) f g m).1 has),
        );
        agree = agree-after;
      }
