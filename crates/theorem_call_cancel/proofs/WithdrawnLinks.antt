-- After a granted Cancel of a receive the links stand for the state of the service.
use Rattle.std.proofs.Common.{◌≡◌, ◌⊎◌, ◌↔◌, ℕ, Bool, true, false, refl, sym, ap, subst, ◌∙◌}
use Rattle.theorem_call_send.proofs.OneView.{held-same, in_message-same, now-here, other-entry, packet-same, standing-same}
use Rattle.charlotte_calls.specs.declared.names.EndId.{EndId}
use Rattle.charlotte_calls.specs.declared.names.Pid.{Pid}
use Rattle.end_table.proofs.EndEq.{end_eq-same}
use Rattle.end_table.specs.Place.{end_eq}
use Rattle.end_table.specs.declared.entry.Entry.TheVariants as entry
use Rattle.end_table.specs.declared.entry.HereView.{HereView}
use Rattle.end_table.specs.declared.entry.Holder.TheVariants as holder
use Rattle.end_table.specs.declared.entry.Inward.TheVariants as kernel_inward
use Rattle.kernel_world.specs.World.{World}
use Rattle.service_step.specs.State.{State}
use Rattle.service_step.specs.declared.state.Place.TheVariants as place
use Rattle.theorem_call_send.proofs.Ends.{inward-same, outward-same}
use Rattle.theorem_meaning.proofs.Plain.{owner-same, view-same}
use Rattle.theorem_meaning.specs.Packets.{IsParcelFor, IsTakenOf, IsUnderWay, IsUnwantedOf, Links, links_of}
use Rattle.theorem_meaning.specs.StandsFor.{AreLinksOf, IsEndOf, entry_at, home_of}
use Rattle.theorem_call_cancel.proofs.Withdrawing.{IsWithdrawing, after, asks, its-end, one-view, placed, withdrawn_view}

module _ {i : ℕ} {w : World} {s : State} {k : ℕ} {p : Pid} {u : Links} (x : IsWithdrawing i w s k p u) where
  abbrev l : Links
  l = links_of w

  abbrev e : EndId
  e = x.view.value.end

  -- ---- owned ends

  taken-same : (f : EndId) (m : ℕ) → IsUnderWay u (IsTakenOf f m) ↔ IsUnderWay l (IsTakenOf f m)
  taken-same f m = packet-same (one-view x) (IsTakenOf f m) (λ no. no)

  parcel-same : (f : EndId) (r m : ℕ) → IsUnderWay u (IsParcelFor f r m) ↔ IsUnderWay l (IsParcelFor f r m)
  parcel-same f r m = packet-same (one-view x) (IsParcelFor f r m) (λ no. no)

  unwanted-same : (f : EndId) (r : ℕ) → IsUnderWay u (IsUnwantedOf f r) ↔ IsUnderWay l (IsUnwantedOf f r)
  unwanted-same f r = packet-same (one-view x) (IsUnwantedOf f r) (λ no. no)

  own-end : IsEndOf u e (withdrawn_view x.view x.number) (s.ends e)
  own-end =
      record {
        sent = (its-end x).sent;
        noticed = (its-end x).noticed;
        outward = outward-same l u e (taken-same e) (s.ends e).sent x.view.outward (s.ends e).outward (its-end x).outward;
        inward = inward-same l u e (parcel-same e) (unwanted-same e) (kernel_inward.Withdrawing x.number) (s.ends e).inward (asks x);
      }

  other-end : (f : EndId) (v : HereView) → IsEndOf l f v (s.ends f) → IsEndOf u f v (s.ends f)
  other-end f v is =
      record {
        sent = is.sent;
        noticed = is.noticed;
        outward = outward-same l u f (taken-same f) (s.ends f).sent v.outward (s.ends f).outward is.outward;
        inward = inward-same l u f (parcel-same f) (unwanted-same f) v.inward (s.ends f).inward is.inward;
      }

  agree-after : (f : EndId) (q : Pid) (v : HereView) → (s.ends f).place ≡ place.Owned q → entry_at u (home_of s q) f ≡ entry.Here v → IsEndOf u f v (s.ends f)
  agree-after f q v owned there = by (end_eq e f) refl
    where
      by : (b : Bool) → end_eq e f ≡ b → IsEndOf u f v (s.ends f)
      by false apart = other-end f v (x.is.stands.links.agree f q v owned (sym (other-entry (one-view x) (home_of s q) f apart) ∙ there))
      by true is =
          let same : e ≡ f = end_eq-same e f is in
          let who : p ≡ q = owner-same p q (sym (placed x) ∙ ap (λ z. (s.ends z).place) same ∙ owned) in
          let view : withdrawn_view x.view x.number ≡ v
          = view-same (withdrawn_view x.view x.number) v (sym (now-here (one-view x)) ∙ ap (λ z. u.entry z e) (sym x.at ∙ ap (home_of s) who) ∙ ap (u.entry (home_of s q)) same ∙ there) in
          subst (λ z. IsEndOf u z v (s.ends z)) same (subst (λ z. IsEndOf u e z (s.ends e)) view own-end)

  pub withdrawn-links : AreLinksOf u (after x)
  withdrawn-links =
      record {
        once = λ f. standing-same (one-view x) f ∙ x.is.stands.links.once f;
        owned = λ f q. (
          λ at. (held-same (one-view x) (home_of s q) f (holder.Owner q)).0 ((x.is.stands.links.owned f q).0 at),
          λ has. (x.is.stands.links.owned f q).1 ((held-same (one-view x) (home_of s q) f (holder.Owner q)).1 has),
        );
        in_message = λ f g m. (
          λ at. (in_message-same (one-view x) f g m).0 ((x.is.stands.links.in_message f g m).0 at),
          λ has. (x.is.stands.links.in_message f g m).1 ((in_message-same (one-view x) f g m).1 has),
        );
        agree = agree-after;
      }
