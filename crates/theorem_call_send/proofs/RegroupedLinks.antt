-- Where the send of an end changes, and with it who holds the ends that it encloses: the links stand for the state of the service again, if
-- they do for these ends.
use Rattle.std.proofs.Common.{◌≡◌, ◌≢◌, ◌⊎◌, ◌↔◌, inl, inr, ℕ, ◌≤◌, Bool, true, false, List, length, Contains, refl, sym, ap, subst, ◌∙◌, true≢false}
use Rattle.charlotte_calls.specs.declared.names.EndId.{EndId}
use Rattle.charlotte_calls.specs.declared.names.Pid.{Pid}
use Rattle.charlotte_packets.specs.declared.picture.PictureWhat.{PictureWhat}
use Rattle.end_table.proofs.EndEq.{end_eq-refl, end_eq-same}
use Rattle.end_table.specs.Place.{end_eq}
use Rattle.end_table.specs.Table.{IsHereAnd}
use Rattle.end_table.specs.declared.entry.Entry.TheVariants as entry
use Rattle.end_table.specs.declared.entry.HereView.{HereView}
use Rattle.end_table.specs.declared.entry.Holder.{Holder}
use Rattle.end_table.specs.declared.entry.Holder.TheVariants as holder
use Rattle.kernel_step.specs.Rows.{ends_in}
use Rattle.service_step.specs.State.{State}
use Rattle.service_step.specs.declared.state.End.{End}
use Rattle.service_step.specs.declared.state.Place.{Place}
use Rattle.service_step.specs.declared.state.Place.TheVariants as place
use Rattle.theorem_meaning.proofs.Plain.{view-same}
use Rattle.theorem_meaning.specs.Invariant.{AreRight}
use Rattle.theorem_meaning.specs.Packets.{IsBackOf, IsParcelOf, IsUnderWay, Links, one_if, values_of}
use Rattle.theorem_meaning.specs.StandsFor.{AreLinksOf, IsEnclosed, IsEndOf, IsInMessage, IsOwnedHere, IsWaitingWith, entry_at, home_of}
use Rattle.theorem_call_send.specs.Regrouped.{IsRegrouping, is_among}
use Rattle.theorem_call_send.proofs.Held.{its-view, unbrought}
use Rattle.theorem_call_send.proofs.Kept.{standing-kept}
use Rattle.theorem_call_send.proofs.Regrouped.{IsWithin, Which, at-kernel, away, away-entry, its, its-within, now-own, other-than, regrouped-kept, which, within}
use Rattle.theorem_call_send.proofs.SamePackets.{end-same, packet-same}

module _ {w u : Links} {s : State} {t : EndId → End} {k : ℕ} {v y : HereView} {h : Holder} {at : Place} {xs : List EndId} (x : IsRegrouping w u s t k v y h at xs) where
  abbrev e : EndId
  e = v.value.end

  -- at its kernel, or at another
  abbrev AtOr : ℕ → Type 0
  AtOr j = (j ≡ k) ⊎ ((j ≢ k) × ((f : EndId) → entry_at u j f ≡ entry_at w j f))

  pub place-same : (f : EndId) → is_among xs f ≡ false → (t f).place ≡ (s.ends f).place
  place-same f not = by (which e xs f)
    where
      by : Which e xs f → (t f).place ≡ (s.ends f).place
      by (its same) = subst (λ z. (t z).place ≡ (s.ends z).place) same (ap (λ (z : End). z.place) x.own)
      by (within apart is) = absurd (true≢false (sym is ∙ not))
      by (away apart none) = ap (λ (z : End). z.place) (x.away f apart none)

  pub place-within : (f : EndId) → is_among xs f ≡ true → (t f).place ≡ at
  place-within f is = ap (λ (z : End). z.place) (x.within f is)

  -- all ends but those that are enclosed keep their holder
  pub held-same : (j : ℕ) (f : EndId) → is_among xs f ≡ false → (P : Holder → Type 0) → IsHereAnd (entry_at w j f) (λ z. P z.holder) ↔ IsHereAnd (entry_at u j f) (λ z. P z.holder)
  held-same j f not P = by (which e xs f) (at-kernel x j)
    where
      by : Which e xs f → AtOr j → IsHereAnd (entry_at w j f) (λ z. P z.holder) ↔ IsHereAnd (entry_at u j f) (λ z. P z.holder)
      by _ (inr there) = (subst (λ a. IsHereAnd a (λ z. P z.holder)) (sym (there.1 f)), subst (λ a. IsHereAnd a (λ z. P z.holder)) (there.1 f))
      by (within apart is) _ = absurd (true≢false (sym is ∙ not))
      by (away apart none) _ = (subst (λ a. IsHereAnd a (λ z. P z.holder)) (sym (away-entry x j f apart none)), subst (λ a. IsHereAnd a (λ z. P z.holder)) (away-entry x j f apart none))
      by (its same) (inl here) = (
        λ has. subst (λ a. IsHereAnd a (λ z. P z.holder)) (sym now) (subst P (sym x.holder) (subst (λ a. IsHereAnd a (λ z. P z.holder)) was has)),
        λ has. subst (λ a. IsHereAnd a (λ z. P z.holder)) (sym was) (subst P x.holder (subst (λ a. IsHereAnd a (λ z. P z.holder)) now has)),
      )
        where
          was : entry_at w j f ≡ entry.Here v
          was = ap (λ z. entry_at w z f) here ∙ ap (entry_at w k) (sym same) ∙ x.here

          now : entry_at u j f ≡ entry.Here y
          now = ap (λ z. entry_at u z f) here ∙ ap (entry_at u k) (sym same) ∙ now-own x

  -- the send of another end waits where it waited
  pub waiting-same : (j : ℕ) (g : EndId) (m : ℕ) → end_eq e g ≡ false → IsHereAnd (entry_at w j g) (λ z. IsWaitingWith m z.outward) ↔ IsHereAnd (entry_at u j g) (λ z. IsWaitingWith m z.outward)
  waiting-same j g m other = by (which e xs g) (at-kernel x j)
    where
      by : Which e xs g → AtOr j → IsHereAnd (entry_at w j g) (λ z. IsWaitingWith m z.outward) ↔ IsHereAnd (entry_at u j g) (λ z. IsWaitingWith m z.outward)
      by (its same) _ = absurd (true≢false (sym (end_eq-refl e) ∙ ap (end_eq e) same ∙ other))
      by _ (inr there) = (subst (λ a. IsHereAnd a (λ z. IsWaitingWith m z.outward)) (sym (there.1 g)), subst (λ a. IsHereAnd a (λ z. IsWaitingWith m z.outward)) (there.1 g))
      by (away apart none) _ =
          (subst (λ a. IsHereAnd a (λ z. IsWaitingWith m z.outward)) (sym (away-entry x j g apart none)), subst (λ a. IsHereAnd a (λ z. IsWaitingWith m z.outward)) (away-entry x j g apart none))
      by (within apart is) (inl here) = (
        λ has. absurd (subst (IsWaitingWith m) o.idle.outward (subst (λ a. IsHereAnd a (λ z. IsWaitingWith m z.outward)) (ap (λ z. entry_at w z g) here ∙ o.was) has)),
        λ has. absurd (subst (IsWaitingWith m) o.idle.outward (subst (λ a. IsHereAnd a (λ z. IsWaitingWith m z.outward)) (ap (λ z. entry_at u z g) here ∙ o.now) has)),
      )
        where
          o : IsWithin x g
          o = its-within x g apart is

  parcel-same : (f g : EndId) (m : ℕ) → IsUnderWay u (λ q. IsParcelOf g m q × Contains (ends_in (values_of q)) f) ↔ IsUnderWay w (λ q. IsParcelOf g m q × Contains (ends_in (values_of q)) f)
  parcel-same f g m = packet-same w u x.packets (λ q. IsParcelOf g m q × Contains (ends_in (values_of q)) f)

  back-same : (f g : EndId) (m : ℕ) → IsUnderWay u (λ q. IsBackOf g m q × Contains (ends_in (values_of q)) f) ↔ IsUnderWay w (λ q. IsBackOf g m q × Contains (ends_in (values_of q)) f)
  back-same f g m = packet-same w u x.packets (λ q. IsBackOf g m q × Contains (ends_in (values_of q)) f)

  module _ {i : ℕ} (few : length s.made ≤ 8) (links : AreLinksOf w s) (right : AreRight i w s) where
    -- an end that is enclosed is here at its kernel alone, with that holder, and in no packet
    pub within-here : (j : ℕ) (f : EndId) → is_among xs f ≡ true → (P : Holder → Type 0) → IsHereAnd (entry_at u j f) (λ z. P z.holder) → (j ≡ k) × P h
    within-here j f is P has = by (at-kernel x j)
      where
        o : IsWithin x f
        o = its-within x f (other-than x f is) is

        by : AtOr j → (j ≡ k) × P h
        by (inl here) = (here, subst (λ a. IsHereAnd a (λ z. P z.holder)) (ap (λ a. entry_at u a f) here ∙ o.now) has)
        by (inr there) = absurd (there.0 (its-view w s few links right f k o.view j (λ z. P z.holder) o.was (subst (λ a. IsHereAnd a (λ z. P z.holder)) (there.1 f) has)).0)

    pub within-unbrought : (f : EndId) → is_among xs f ≡ true → (P : PictureWhat → Type 0) → IsUnderWay u (λ q. P q × Contains (ends_in (values_of q)) f) → ⊥
    within-unbrought f is P has =
        let o = its-within x f (other-than x f is) is in unbrought w s few links right f k o.view P o.was ((packet-same w u x.packets (λ q. P q × Contains (ends_in (values_of q)) f)).0 has)

    -- the view of the end itself afterwards
    its-now : (z : HereView) (j : ℕ) → entry_at u j e ≡ entry.Here z → y ≡ z
    its-now z j there = by (at-kernel x j)
      where
        by : AtOr j → y ≡ z
        by (inl here) = view-same y z (sym (now-own x) ∙ ap (λ a. entry_at u a e) (sym here) ∙ there)
        by (inr far) = absurd (far.0 (its-view w s few links right e k v j (λ a. Unit {0}) x.here (subst (λ a. IsHereAnd a (λ a. Unit {0})) (sym there ∙ far.1 e) tt)).0)

    -- what is to be shown of these ends
    pub record AreHeldAnew : Type 0 where
      -- the messages of the end enclose no others than before
      pub enclosed : (f : EndId) (m : ℕ) → is_among xs f ≡ false → IsEnclosed w f e m ↔ IsEnclosed u f e m
      -- the ends that it encloses are held as the service says
      pub owned : (f : EndId) (q : Pid) → is_among xs f ≡ true → (at ≡ place.Owned q) ↔ ((home_of s q ≡ k) × (h ≡ holder.Owner q))
      pub message : (f g : EndId) (m : ℕ) → is_among xs f ≡ true → (at ≡ place.InMessage g m) ↔ IsEnclosed u f g m
      -- sends and receives
      pub own : (q : Pid) → (s.ends e).place ≡ place.Owned q → IsEndOf u e y (t e)
      pub idle : (f : EndId) (q : Pid) (z : HereView) → is_among xs f ≡ true → at ≡ place.Owned q → entry_at u k f ≡ entry.Here z → IsEndOf u f z (t f)

    module _ (anew : AreHeldAnew) where
      enclosed-same : (f g : EndId) (m : ℕ) → is_among xs f ≡ false → IsEnclosed w f g m ↔ IsEnclosed u f g m
      enclosed-same f g m not = by (end_eq e g) refl
        where
          by : (b : Bool) → end_eq e g ≡ b → IsEnclosed w f g m ↔ IsEnclosed u f g m
          by true same = subst (λ z. IsEnclosed w f z m ↔ IsEnclosed u f z m) (end_eq-same e g same) (anew.enclosed f m not)
          by false apart = (
            λ z. record { at = z.at; enclosed = (held-same z.at f not (λ a. a ≡ holder.EnclosedIn g)).0 z.enclosed; waiting = (waiting-same z.at g m apart).0 z.waiting },
            λ z. record { at = z.at; enclosed = (held-same z.at f not (λ a. a ≡ holder.EnclosedIn g)).1 z.enclosed; waiting = (waiting-same z.at g m apart).1 z.waiting },
          )

      message-same : (f g : EndId) (m : ℕ) → is_among xs f ≡ false → IsInMessage w f g m ↔ IsInMessage u f g m
      message-same f g m not = (on, back)
        where
          on : IsInMessage w f g m → IsInMessage u f g m
          on (inl z) = inl ((enclosed-same f g m not).0 z)
          on (inr (inl z)) = inr (inl ((parcel-same f g m).1 z))
          on (inr (inr z)) = inr (inr ((back-same f g m).1 z))

          back : IsInMessage u f g m → IsInMessage w f g m
          back (inl z) = inl ((enclosed-same f g m not).1 z)
          back (inr (inl z)) = inr (inl ((parcel-same f g m).0 z))
          back (inr (inr z)) = inr (inr ((back-same f g m).0 z))

      within-message : (f g : EndId) (m : ℕ) → is_among xs f ≡ true → IsInMessage u f g m → IsEnclosed u f g m
      within-message f g m is (inl z) = z
      within-message f g m is (inr (inl z)) = absurd (within-unbrought f is (IsParcelOf g m) z)
      within-message f g m is (inr (inr z)) = absurd (within-unbrought f is (IsBackOf g m) z)

      owned-now : (f : EndId) (q : Pid) → (b : Bool) → is_among xs f ≡ b → ((t f).place ≡ place.Owned q) ↔ IsOwnedHere q (entry_at u (home_of s q) f)
      owned-now f q false not = (
        λ owns. (held-same (home_of s q) f not (λ a. a ≡ holder.Owner q)).0 ((links.owned f q).0 (sym (place-same f not) ∙ owns)),
        λ has. place-same f not ∙ (links.owned f q).1 ((held-same (home_of s q) f not (λ a. a ≡ holder.Owner q)).1 has),
      )
      owned-now f q true is = (on, back)
        where
          o : IsWithin x f
          o = its-within x f (other-than x f is) is

          on : (t f).place ≡ place.Owned q → IsOwnedHere q (entry_at u (home_of s q) f)
          on owns =
              let held = (anew.owned f q is).0 (sym (place-within f is) ∙ owns) in
              subst (IsOwnedHere q) (sym (ap (λ j. entry_at u j f) held.0 ∙ o.now)) held.1

          back : IsOwnedHere q (entry_at u (home_of s q) f) → (t f).place ≡ place.Owned q
          back has = place-within f is ∙ (anew.owned f q is).1 (within-here (home_of s q) f is (λ a. a ≡ holder.Owner q) has)

      message-now : (f g : EndId) (m : ℕ) → (b : Bool) → is_among xs f ≡ b → ((t f).place ≡ place.InMessage g m) ↔ IsInMessage u f g m
      message-now f g m false not = (
        λ in_it. (message-same f g m not).0 ((links.in_message f g m).0 (sym (place-same f not) ∙ in_it)),
        λ has. place-same f not ∙ (links.in_message f g m).1 ((message-same f g m not).1 has),
      )
      message-now f g m true is = (
        λ in_it. inl ((anew.message f g m is).0 (sym (place-within f is) ∙ in_it)),
        λ has. place-within f is ∙ (anew.message f g m is).1 (within-message f g m is has),
      )

      agree-now : (f : EndId) (q : Pid) (z : HereView) → (t f).place ≡ place.Owned q → entry_at u (home_of s q) f ≡ entry.Here z → IsEndOf u f z (t f)
      agree-now f q z owns there = by (which e xs f)
        where
          by : Which e xs f → IsEndOf u f z (t f)
          by (its same) =
              let owned : (s.ends e).place ≡ place.Owned q = sym (place-same e x.apart) ∙ ap (λ a. (t a).place) same ∙ owns in
              let now : y ≡ z = its-now z (home_of s q) (ap (entry_at u (home_of s q)) same ∙ there) in
              subst (λ a. IsEndOf u a z (t a)) same (subst (λ a. IsEndOf u e a (t e)) now (anew.own q owned))
          by (within apart is) =
              let owned : at ≡ place.Owned q = sym (place-within f is) ∙ owns in
              anew.idle f q z is owned (ap (λ j. entry_at u j f) (sym ((anew.owned f q is).0 owned).0) ∙ there)
          by (away apart not) =
              subst (IsEndOf u f z) (sym (x.away f apart not))
              (end-same w u x.packets f z (s.ends f) (links.agree f q z (sym (place-same f not) ∙ owns) (sym (away-entry x (home_of s q) f apart not) ∙ there)))

      pub regrouped-links : AreLinksOf u (record s { ends = t })
      regrouped-links =
          let kept = regrouped-kept x few links right in
          record {
            once = λ f. standing-kept kept f ∙ links.once f ∙ sym (ap one_if (kept.ends f).living);
            owned = λ f q. owned-now f q (is_among xs f) refl;
            in_message = λ f g m. message-now f g m (is_among xs f) refl;
            agree = agree-now;
          }
